-- Parts of a program one after another.
use Rattle.std.proofs.Common.{◌≡◌, ◌++◌, ◌∷◌, [], ℕ, List, length, Option, Some, None, Result, Ok, Err, refl, sym, ap, ◌∙◌, subst}
use Rattle.c_judge.specs.declared.fault.Fault.{Fault}
use Rattle.c_judge.specs.declared.fault.Fault.TheVariants as fault
use Rattle.c_judge.specs.Answers.{Answer, Known, Unknown, Broken, ◌then◌}
use Rattle.c_judge.specs.Judges.{IsFault}
use Rattle.c_linkage.specs.declared.state.State.{State as Standing}
use Rattle.c_scope.specs.Findings.{Finding, Fine, fine, nothing, ◌beside◌}
use Rattle.c_file.specs.Files.{State, Bodied}
use Rattle.c_file.specs.Progress.{so_far, found_so_far, KeepsFunctions, Turns, Gains, Fails, Adds}
use Rattle.c_file.proofs.Decided.{IsDecided, never}

-- ---- what is found in parts

pub three_parts : (f g h : Finding) → ((f beside g) beside h) ≡ (f beside (g beside h))
three_parts (Broken r at) g h = refl
three_parts (Known x) (Broken r at) h = refl
three_parts (Known x) (Known y) (Known z) = refl
three_parts (Known x) (Known y) (Unknown n) = refl
three_parts (Known x) (Known y) (Broken r at) = refl
three_parts (Known x) (Unknown m) (Known z) = refl
three_parts (Known x) (Unknown m) (Unknown n) = refl
three_parts (Known x) (Unknown m) (Broken r at) = refl
three_parts (Unknown k) (Broken r at) h = refl
three_parts (Unknown k) (Known y) (Known z) = refl
three_parts (Unknown k) (Known y) (Unknown n) = refl
three_parts (Unknown k) (Known y) (Broken r at) = refl
three_parts (Unknown k) (Unknown m) (Known z) = refl
three_parts (Unknown k) (Unknown m) (Unknown n) = refl
three_parts (Unknown k) (Unknown m) (Broken r at) = refl

pub then_nothing : (f : Finding) → (f beside nothing) ≡ f
then_nothing (Known fine) = refl
then_nothing (Unknown n) = refl
then_nothing (Broken r at) = refl

pub first_nothing : (f : Finding) → (nothing beside f) ≡ f
first_nothing (Known fine) = refl
first_nothing (Unknown n) = refl
first_nothing (Broken r at) = refl

not_broken : (o : Option (List ℕ)) (r at : ℕ) → ◌≡◌ {A = Finding} (Broken r at) (found_so_far o) → ⊥
not_broken None r at e = cc
not_broken (Some n) r at e = cc

behind_known : (x : Fine) (g : Finding) (r at : ℕ) → g ≡ Broken r at → ◌≡◌ {A = Finding} (Known x beside g) (Broken r at)
behind_known x g r at h = ap (λ (w : Finding). Known x beside w) h

-- a rule that is broken behind a part in which none is
pub broken_behind : (u o : Option (List ℕ)) (f g : Finding) (r at : ℕ) → (found_so_far u beside f) ≡ found_so_far o → g ≡ Broken r at → (f beside g) ≡ Broken r at
broken_behind u o (Known x) g r at e h = behind_known x g r at h
broken_behind u o (Unknown n) (Broken q k) r at e h = h
broken_behind u o (Unknown n) (Known x) r at e h = cc
broken_behind u o (Unknown n) (Unknown m) r at e h = cc
broken_behind None o (Broken q k) g r at e h = absurd (not_broken o q k e)
broken_behind (Some n) o (Broken q k) g r at e h = absurd (not_broken o q k e)

pub keeps_all : (s m t : Standing) → KeepsFunctions s m → KeepsFunctions m t → KeepsFunctions s t
keeps_all s m t h k = record { functions = k.functions ∙ h.functions; points = k.points ∙ h.points }

module _ (f g : State → Finding) (a b : State → State) where
  pub adds_both : {A : Type 0} (s m t : Standing) (r : Result A Fault) → Gains f a s m → Adds g b m r t → Adds (λ p. f p beside g (a p)) (λ p. b (a p)) s r t
  adds_both s m t (Ok y) h k = (
    λ bs. let p = so_far s bs in (
      sym (three_parts (found_so_far s.unknown) (f p) (g (a p))) ∙ (ap (λ w. w beside g (a p)) (h.0 bs).0 ∙ (ap (λ q. found_so_far m.unknown beside g q) (sym (h.0 bs).1) ∙ (k.0 bs).0)),
      (k.0 bs).1 ∙ ap b (h.0 bs).1,
    ),
    keeps_all s m t h.1 k.1,
  )
  adds_both s m t (Err (fault.Rule r at)) h k = λ bs. broken_behind s.unknown m.unknown (f (so_far s bs)) (g (a (so_far s bs))) r at (h.0 bs).0 (ap g (sym (h.0 bs).1) ∙ k bs)
  adds_both s m t (Err (fault.Unknown name)) h k = k
  adds_both s m t (Err fault.NoMemory) h k = tt

  pub stops : (s : Standing) (e : Fault) → Fails f s e → Fails (λ p. f p beside g (a p)) s e
  stops s (fault.Rule r at) h = λ bs. ap (λ w. w beside g (a (so_far s bs))) (h bs)
  stops s (fault.Unknown name) h = h
  stops s fault.NoMemory h = tt

  -- the same said otherwise
  pub adds_as : {A : Type 0} (s t : Standing) (r : Result A Fault) → ((bs : List Bodied) → f (so_far s bs) ≡ g (so_far s bs)) → ((bs : List Bodied) → a (so_far s bs) ≡ b (so_far s bs)) → Adds f a s r t → Adds g b s r t
  adds_as s t (Ok x) e h k = (λ bs. (ap (λ w. found_so_far s.unknown beside w) (sym (e bs)) ∙ (k.0 bs).0, (k.0 bs).1 ∙ h bs), k.1)
  adds_as s t (Err (fault.Rule r at)) e h k = λ bs. sym (e bs) ∙ k bs
  adds_as s t (Err (fault.Unknown name)) e h k = k
  adds_as s t (Err fault.NoMemory) e h k = tt

pub gains_as : (f g : State → Finding) (a b : State → State) (s t : Standing) → ((bs : List Bodied) → f (so_far s bs) ≡ g (so_far s bs)) → ((bs : List Bodied) → a (so_far s bs) ≡ b (so_far s bs)) → Gains f a s t → Gains g b s t
gains_as f g a b s t e h k = (λ bs. (ap (λ w. found_so_far s.unknown beside w) (sym (e bs)) ∙ (k.0 bs).0, (k.0 bs).1 ∙ h bs), k.1)

pub fails_so : (f g : State → Finding) (s : Standing) (x : Fault) → ((bs : List Bodied) → f (so_far s bs) ≡ g (so_far s bs)) → Fails f s x → Fails g s x
fails_so f g s (fault.Rule r at) e k = λ bs. sym (e bs) ∙ k bs
fails_so f g s (fault.Unknown name) e k = k
fails_so f g s fault.NoMemory e k = tt

-- and the program is made ready behind
pub turns_then : (f : State → Finding) (a b : State → State) (s m t : Standing) → Gains f a s m → Turns b m t → Gains f (λ p. b (a p)) s t
turns_then f a b s m t h k = (
  λ bs. ((h.0 bs).0 ∙ ap found_so_far (sym k.1), k.0 bs ∙ ap b (h.0 bs).1),
  keeps_all s m t h.1 k.2,
)

module _ (f : State → Finding) (a : State → State) where
  -- where nothing is found
  pub turned : (s t : Standing) → ((bs : List Bodied) → f (so_far s bs) ≡ nothing) → Turns a s t → Gains f a s t
  turned s t e k = (
    λ bs. (ap (λ w. found_so_far s.unknown beside w) (e bs) ∙ (then_nothing (found_so_far s.unknown) ∙ ap found_so_far (sym k.1)), k.0 bs),
    k.2,
  )

-- a fault, where no name is unknown
pub fails_as : (f : State → Finding) (s : Standing) (e : Fault) → ((bs : List Bodied) → IsDecided (f (so_far s bs))) → ((bs : List Bodied) → IsFault (f (so_far s bs)) e) → Fails f s e
fails_as f s (fault.Rule r at) d h = h
fails_as f s (fault.Unknown name) d h = never (f (so_far s [])) name (d []) (h [])
fails_as f s fault.NoMemory d h = tt

pub turns_as : (a b : State → State) (s t : Standing) → ((bs : List Bodied) → a (so_far s bs) ≡ b (so_far s bs)) → Turns a s t → Turns b s t
turns_as a b s t e k = (λ bs. k.0 bs ∙ e bs, k.1, k.2)
