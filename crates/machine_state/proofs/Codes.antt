-- What is found in a table of codes.
use Rattle.std.proofs.Common.{◌≡◌, refl, ap, ℕ, nat_eq, cond, Bool, true, false, if◌then◌else◌, Option, Some, None, IfSome, eq-eqb, eqb→eq}
use Rattle.machine_state.specs.Codes.{if_exact}

pub if_exact-word_of : {I : Type 0} (word_of : I → ℕ) (w : ℕ) (o : Option I) → IfSome (if_exact word_of w o) (λ i. word_of i ≡ w)
if_exact-word_of word_of w None = tt
if_exact-word_of word_of w (Some i) =
    elim (nat_eq (word_of i) w) as (λ b. nat_eq (word_of i) w ≡ b → IfSome (cond b (Some i) None) (λ j. word_of j ≡ w)) [
      | true ↦ λ e. eqb→eq (word_of i) w (rw e tt)
      | false ↦ λ e. tt
    ] refl

-- an instruction that has the word
pub exact_of : {I : Type 0} (word_of : I → ℕ) (w : ℕ) (i : I) → word_of i ≡ w → if_exact word_of w (Some i) ≡ Some i
exact_of word_of w i same = rw same (ap (λ b. cond b (Some i) None) (eq-eqb w w refl))

-- what holds of the instruction that is named holds of it
pub if_exact-kept : {I : Type 0} (P : I → Type 0) (word_of : I → ℕ) (w : ℕ) (o : Option I) → IfSome o P → IfSome (if_exact word_of w o) P
if_exact-kept P word_of w None h = tt
if_exact-kept P word_of w (Some i) h =
    elim (nat_eq (word_of i) w) as (λ b. IfSome (cond b (Some i) None) P) [ true ↦ h | false ↦ tt ]

pub either_kept : {T : Type 0} (P : T → Type 0) (b : Bool) (o p : Option T) → IfSome o P → IfSome p P → IfSome (if b then o else p) P
either_kept P true o p h k = h
either_kept P false o p h k = k

-- a row of a table, and the rows behind it
pub if_some : {T : Type 0} (P : T → Type 0) (b : Bool) (x : T) (o : Option T) → P x → IfSome o P → IfSome (cond b (Some x) o) P
if_some P true x o p h = p
if_some P false x o p h = h
