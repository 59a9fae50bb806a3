-- Results of which all that is given is of a kind, and stores of which what is closed is left as it is.
use Rattle.std.proofs.Common.{◌≡◌, Bool, true, false, if◌then◌else◌, Option, Some, None, Result, Ok, Err, refl, ◌∙◌}
use Rattle.ps_store.specs.StoreState.{StoreState}
use Rattle.ps_store.specs.Store.{closed_part}
use Rattle.ps_step.specs.declared.fault.PsError.{PsError}
use Rattle.ps_step.specs.Results.{◌>>=◌, at}
use Rattle.printing_laws.specs.Stays.{Above}

-- what is given is of a kind
abbrev pub All : {A E : Type 0} → (A → Type 0) → Result A E → Type 0
All P (Ok x) = P x
All P (Err e) = Unit {0}

pub all_map : {A E : Type 0} (P R : A → Type 0) → ((x : A) → P x → R x) → (r : Result A E) → All P r → All R r
all_map P R h (Ok x) p = h x p
all_map P R h (Err e) p = tt

module _ {A B E : Type 0} (P : B → Type 0) where
  pub behind : (r : Result A E) (f : A → Result B E) → ((x : A) → All P (f x)) → All P (r >>= f)
  behind (Ok x) f h = h x
  behind (Err e) f h = tt

  pub behind_all : (R : A → Type 0) (r : Result A E) (f : A → Result B E) → All R r → ((x : A) → R x → All P (f x)) → All P (r >>= f)
  behind_all R (Ok x) f q h = h x q
  behind_all R (Err e) f q h = tt

  pub chosen : (o : Option A) (f : A → Result B E) (n : Result B E) → ((x : A) → All P (f x)) → All P n → All P (elim o [ Some x ↦ f x | None ↦ n ])
  chosen (Some x) f n h k = h x
  chosen None f n h k = k

module _ {A E : Type 0} (P : A → Type 0) where
  pub either : (b : Bool) (x y : Result A E) → All P x → All P y → All P (if b then x else y)
  either true x y g h = g
  either false x y g h = h

-- what is given and what is raised are of kinds
abbrev pub Both : {A E : Type 0} → (A → Type 0) → (E → Type 0) → Result A E → Type 0
Both P Q (Ok x) = P x
Both P Q (Err e) = Q e

module _ {A B E : Type 0} (P : B → Type 0) (Q : E → Type 0) where
  pub behind_both : (R : A → Type 0) (r : Result A E) (f : A → Result B E) → Both R Q r → ((x : A) → R x → Both P Q (f x)) → Both P Q (r >>= f)
  behind_both R (Ok x) f q h = h x q
  behind_both R (Err e) f q h = q

module _ {A E : Type 0} (P : A → Type 0) (Q : E → Type 0) where
  pub either_both : (b : Bool) (x y : Result A E) → Both P Q x → Both P Q y → Both P Q (if b then x else y)
  either_both true x y g h = g
  either_both false x y g h = h

module _ {A S : Type 0} (P : A → Type 0) (Q : PsError × S → Type 0) where
  -- an error comes with the state that stands there
  pub at_both : (s : S) (r : Result A PsError) → All P r → ((e : PsError) → Q (e, s)) → Both P Q (at s r)
  at_both s (Ok x) p q = p
  at_both s (Err e) p q = q e

module _ {A B S : Type 0} (P : B → Type 0) (Q : PsError × S → Type 0) where
  pub behind_at : (s : S) (r : Result A PsError) (f : A → Result B (PsError × S)) → ((x : A) → Both P Q (f x)) → ((e : PsError) → Q (e, s)) → Both P Q (at s r >>= f)
  behind_at s (Ok x) f h q = h x
  behind_at s (Err e) f h q = q e

-- What is closed of a store is left as it is, and what is there is not less than that.
pub record Leaves (s s' : StoreState) : Type 0 where
  pub keeps : Above s → (closed_part s' ≡ closed_part s) × Above s'

pub leaves_same : (s : StoreState) → Leaves s s
leaves_same s = record { keeps = λ h. (refl, h) }

pub leaves_on : (s t u : StoreState) → Leaves s t → Leaves t u → Leaves s u
leaves_on s t u f g = record { keeps = λ h. let a = f.keeps h in let b = g.keeps a.1 in (b.0 ∙ a.0, b.1) }
