-- Conversations without passed lines.
use Rattle.std.proofs.Common.{◌≡◌, List, [], ◌∷◌, ◌++◌, ℕ, Option, None, Some, inl, inr, refl, sym, ap, ◌∙◌, append_assoc}
use Rattle.std.proofs.lemmas.Bool.{false≢true}
use Rattle.machine_state.specs.State.{Behaviour}
use Rattle.c_session.specs.declared.command.Command.{Command}
use Rattle.c_session.specs.declared.command.Command.TheVariants.{Quit}
use Rattle.asking_meaning.specs.Meant.{joined}
use Rattle.asking.specs.Lines.{line}
use Rattle.claims.specs.Side.{SessionState}
use Rattle.claims.specs.Lines.{Reply}
use Rattle.claims.specs.Carries.{Converses as MachineConverses}
use Rattle.ldb_top.specs.Conversed.{ConversesBut, NonePassed, IsJoined, ConversationsAreJoined}

joined_both : (a b : Reply) → joined (a ++ b) ≡ joined a ++ joined b
joined_both [] b = refl
joined_both (x ∷ a) b = ap (λ t. line x ++ t) (joined_both a b) ∙ sym (append_assoc (line x) (joined a) (joined b))

to_joined : (b : Behaviour) (st : SessionState) (cs : List (Option Command)) (transcript output : List ℕ) → ConversesBut NonePassed b st cs transcript output → IsJoined b st cs transcript output
to_joined b st [] transcript output h = ([], h.0, (refl, h.1))
to_joined b st (Some Quit ∷ cs) transcript output (inl h) = ([], h.1, inl (tt, refl, h.2))
to_joined b st (None ∷ cs) transcript output (inl h) = absurd (false≢true h.0)
to_joined b st (Some c ∷ cs) transcript output (inl h) = absurd (false≢true h.0)
to_joined b st (c ∷ cs) transcript output (inr (reply, tail, next, inr passed, is, h)) = absurd passed
to_joined b st (c ∷ cs) transcript output (inr (reply, tail, next, inl a, is, h)) =
    let rest = to_joined b next cs tail output h in
    (a.0 ++ rest.0, is ∙ ap (λ t. t ++ tail) a.2 ∙ ap (λ t. joined a.0 ++ t) rest.1 ∙ sym (joined_both a.0 rest.0), inr (a.0, rest.0, next, a.1, refl, rest.2))

from_joined : (b : Behaviour) (st : SessionState) (cs : List (Option Command)) (reply : Reply) (transcript output : List ℕ) → transcript ≡ joined reply → MachineConverses b st cs reply output → ConversesBut NonePassed b st cs transcript output
from_joined b st [] reply transcript output e h = (e ∙ ap joined h.0, h.1)
from_joined b st (Some Quit ∷ cs) reply transcript output e (inl h) = inl (refl, e ∙ ap joined h.1, h.2)
from_joined b st (None ∷ cs) reply transcript output e (inl h) = absurd h.0
from_joined b st (Some c ∷ cs) reply transcript output e (inl h) = absurd h.0
from_joined b st (c ∷ cs) reply transcript output e (inr h) =
    inr (joined h.0, joined h.1, h.2, inl (h.0, h.3, refl), e ∙ ap joined h.4 ∙ joined_both h.0 h.1, from_joined b h.2 cs h.1 (joined h.1) output refl h.5)

pub conversations : ConversationsAreJoined
conversations b st cs transcript output = (to_joined b st cs transcript output, λ h. from_joined b st cs h.0 transcript output h.1 h.2)
