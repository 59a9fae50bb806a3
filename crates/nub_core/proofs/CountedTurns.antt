-- Turns that are run one by one.
use Rattle.std.proofs.Common.{◌≡◌, ◌∙◌, sym, ap, subst, refl, ℕ, suc, ◌+◌, ◌-◌, ◌<◌, ◌≤◌, Option, Some, None, arith}
use Rattle.machine_state.specs.State.{Behaviour}
use Rattle.nub_wire.specs.declared.message.Msg.{Msg}
use Rattle.nub_wire.specs.Nub.{Host, Replied, turn_of}
use Rattle.nub_wire.proofs.Turns.{turn_of-add, turn_of-more}

none_by : (b : Behaviour) (j k : ℕ) (h now : Host) (o : Option Msg) (g : Host) → j ≤ k → turn_of b k h ≡ (None, now) → turn_of b j h ≡ (o, g) → o ≡ None
none_by b j k h now None g less at is = refl
none_by b j k h now (Some m) g less at is =
    let all : j + (k - j) ≡ k = omega arith in
    let told : turn_of b k h ≡ (Some m, g) = ap (λ (n : ℕ). turn_of b n h) (sym all) ∙ turn_of-more b j (k - j) h g m is in
    let both : Some m ≡ None = ap (λ (q : Replied). q.0) (sym told ∙ at) in
    cc

-- where no message is due after k instructions none was due before
none_to : (b : Behaviour) (j k : ℕ) (h now : Host) → j ≤ k → turn_of b k h ≡ (None, now) → (turn_of b j h).0 ≡ None
none_to b j k h now less at = none_by b j k h now (turn_of b j h).0 (turn_of b j h).1 less at refl

pub none_before : (b : Behaviour) (k : ℕ) (h now : Host) → turn_of b k h ≡ (None, now) → (j : ℕ) → j < k + 1 → (turn_of b j h).0 ≡ None
none_before b k h now at = λ (j : ℕ) (less : j < k + 1). none_to b j k h now (omega (arith, less)) at

-- one instruction more
pub one_more : (b : Behaviour) (k : ℕ) (h now next : Host) → turn_of b k h ≡ (None, now) → turn_of b 1 now ≡ (None, next) → turn_of b (k + 1) h ≡ (None, next)
one_more b k h now next at one = turn_of-add b k 1 h now at ∙ one

pub told_next : (b : Behaviour) (k : ℕ) (h now next : Host) (m : Msg) → turn_of b k h ≡ (None, now) → turn_of b 1 now ≡ (Some m, next) → turn_of b (k + 1) h ≡ (Some m, next)
told_next b k h now next m at one = turn_of-add b k 1 h now at ∙ one

pub quiet_end : (b : Behaviour) (n k : ℕ) (h now : Host) → turn_of b k h ≡ (None, now) → n ≤ k → k ≤ n → turn_of b n h ≡ (None, now)
quiet_end b n k h now at less more = let same : k ≡ n = omega arith in ap (λ (j : ℕ). turn_of b j h) (sym same) ∙ at
