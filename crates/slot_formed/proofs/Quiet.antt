-- Where no call stands before the next stop, and jumps that keep the last point.
use Rattle.std.proofs.Common.{◌≡◌, refl, sym, ap, subst, ◌∙◌, arith, ℕ, suc, zero, ◌+◌, ◌-◌, ◌<◌, ◌≤◌, List, [], ◌∷◌, ◌++◌, length, Bool, true, false, Option, Some, None, true≢false, slice_get, ◌⊎◌, inl, inr}
use Rattle.slot_ir.specs.declared.code.SlotOp.{SlotOp}
use Rattle.slot_ir.specs.declared.code.SlotOp.TheVariants as op
use Rattle.slot_formed.specs.Passed.{point_or, point_behind, point_before}
use Rattle.slot_formed.proofs.Lists.{no_none, some_same}
use Rattle.slot_formed.proofs.Inside.{EachAt}

-- ---- operators in a code

-- these operators stand in the code at this place
abbrev pub HasAt : List SlotOp → ℕ → List SlotOp → Type 0
HasAt code pc [] = Unit {0}
HasAt code pc (o ∷ l) = (slice_get code pc ≡ Some o) × HasAt code (pc + 1) l

pub has_front : (code : List SlotOp) (pc : ℕ) (a b : List SlotOp) → HasAt code pc (a ++ b) → HasAt code pc a
has_front code pc [] b h = tt
has_front code pc (o ∷ a) b h = (h.0, has_front code (pc + 1) a b h.1)

pub has_back : (code : List SlotOp) (pc : ℕ) (a b : List SlotOp) → HasAt code pc (a ++ b) → HasAt code (pc + length a) b
has_back code pc [] b h = let e : pc ≡ pc + 0 = omega arith in subst (λ n. HasAt code n b) e h
has_back code pc (o ∷ a) b h =
    let e : pc + 1 + length a ≡ pc + length (o ∷ a) = omega arith in
    subst (λ n. HasAt code n b) e (has_back code (pc + 1) a b h.1)

-- behind another operator
has_later : (x : SlotOp) (code : List SlotOp) (pc : ℕ) (l : List SlotOp) → HasAt code pc l → HasAt (x ∷ code) (suc pc) l
has_later x code pc [] h = tt
has_later x code pc (o ∷ l) h = let e : suc (pc + 1) ≡ suc pc + 1 = omega arith in (h.0, subst (λ n. HasAt (x ∷ code) n l) e (has_later x code (pc + 1) l h.1))

pub has_all : (code : List SlotOp) → HasAt code 0 code
has_all [] = tt
has_all (o ∷ l) = let e : suc 0 ≡ 0 + 1 = omega arith in (refl, subst (λ n. HasAt (o ∷ l) n l) e (has_later o l 0 l (has_all l)))

-- ---- quiet places

abbrev pub quiet_with : SlotOp → Bool → Bool
quiet_with (op.Stop q) b = true
quiet_with (op.Call d g m) b = false
quiet_with _ b = b

-- no call stands from a place on before the next stop
abbrev pub is_quiet : List SlotOp → ℕ → Bool
is_quiet [] i = true
is_quiet (o ∷ l) zero = quiet_with o (is_quiet l zero)
is_quiet (o ∷ l) (suc i) = is_quiet l i

pub quiet_step : (code : List SlotOp) (i : ℕ) (o : SlotOp) → slice_get code i ≡ Some o → is_quiet code i ≡ quiet_with o (is_quiet code (suc i))
quiet_step [] i o e = no_none o e
quiet_step (x ∷ l) zero o e = ap (λ y. quiet_with y (is_quiet l zero)) (some_same x o e)
quiet_step (x ∷ l) (suc i) o e = quiet_step l i o e

pub point_first : (last : Option ℕ) (code : List SlotOp) → point_behind last code zero ≡ last
point_first last [] = refl
point_first last (o ∷ l) = refl

pub point_step : (last : Option ℕ) (code : List SlotOp) (i : ℕ) (o : SlotOp) → slice_get code i ≡ Some o → point_behind last code (suc i) ≡ point_or (point_behind last code i) o
point_step last [] i o e = no_none o e
point_step last (x ∷ l) zero o e = point_first (point_or last x) l ∙ ap (point_or last) (some_same x o e)
point_step last (x ∷ l) (suc i) o e = point_step (point_or last x) l i o e

pub quiet_end : (code : List SlotOp) → is_quiet code (length code) ≡ true
quiet_end [] = refl
quiet_end (o ∷ l) = quiet_end l

abbrev pub IsNoStop : SlotOp → Type 0
IsNoStop (op.Stop q) = ⊥
IsNoStop _ = Unit {0}

module _ (code : List SlotOp) where
  abbrev pub Quiet : ℕ → Type 0
  Quiet i = is_quiet code i ≡ true

  -- at a place, a point was passed last by the code's order, or no call comes before the next stop
  abbrev pub Stands : ℕ → Option ℕ → Type 0
  Stands pc point = (point ≡ point_before code pc) ⊎ Quiet pc

  abbrev pub Moves : ℕ → ℕ → Type 0
  Moves x y = (point : Option ℕ) → Stands x point → Stands y point

  -- the operator at a place jumps to where what stands there still holds
  abbrev pub JumpsWell : ℕ → SlotOp → Type 0
  JumpsWell x (op.Jump y) = Moves x y
  JumpsWell x (op.JumpIfZero d y) = Moves x y
  JumpsWell x (op.JumpIfNotZero d y) = Moves x y
  JumpsWell x (op.JumpIfEqual d b y) = Moves x y
  JumpsWell x _ = Unit {0}

  abbrev pub AllJumpWell : ℕ → List SlotOp → Type 0
  AllJumpWell at l = EachAt JumpsWell at l

  pub to_quiet : (x y : ℕ) → Quiet y → Moves x y
  to_quiet x y q point h = inr q

  goes_on : (x : ℕ) (o : SlotOp) → slice_get code x ≡ Some o → ((last : Option ℕ) → point_or last o ≡ last) → ((b : Bool) → quiet_with o b ≡ true → b ≡ true) → Moves x (suc x)
  goes_on x o e p q point (inl h) = inl (h ∙ sym (point_step None code x o e ∙ p (point_before code x)))
  goes_on x o e p q point (inr h) = inr (q (is_quiet code (suc x)) (sym (quiet_step code x o e) ∙ h))

  pub on_to_next : (x : ℕ) (o : SlotOp) → slice_get code x ≡ Some o → IsNoStop o → Moves x (suc x)
  on_to_next x (op.Stop q) e n = absurd n
  on_to_next x (op.Call d g m) e n = goes_on x (op.Call d g m) e (λ last. refl) (λ b h. absurd (true≢false (sym h)))
  on_to_next x o e n = goes_on x o e (λ last. refl) (λ b h. h)

  -- ---- code in which no stop stands

  abbrev pub HasNoStop : ℕ → Type 0
  HasNoStop i = (o : SlotOp) × (slice_get code i ≡ Some o) × IsNoStop o

  walk : (k x : ℕ) → ((i : ℕ) → x ≤ i → i < x + k → HasNoStop i) → Moves x (x + k)
  walk zero x h point s = let e : x ≡ x + 0 = omega arith in subst (λ i. Stands i point) e s
  walk (suc k) x h point s =
      let q = h x (omega arith) (omega arith) in
      let e : suc x + k ≡ x + suc k = omega arith in
      subst (λ i. Stands i point) e (walk k (suc x) (λ i a b. h i (omega (arith, a)) (omega (arith, b))) point (on_to_next x q.0 q.1 q.2 point s))

  pub walk_to : (x y : ℕ) → x ≤ y → ((i : ℕ) → x ≤ i → i < y → HasNoStop i) → Moves x y
  walk_to x y le h =
      let e : x + (y - x) ≡ y = omega (arith, le) in
      subst (Moves x) e (walk (y - x) x λ i a b. h i a (omega (arith, b, e)))

  pub here_in : (P : ℕ → SlotOp → Type 0) (at : ℕ) (l : List SlotOp) (i : ℕ) → HasAt code at l → EachAt P at l → at ≤ i → i < at + length l → (o : SlotOp) × (slice_get code i ≡ Some o) × P i o
  here_in P at [] i has each a b = absurd (omega (arith, a, b))
  here_in P at (o ∷ l) i has each a b = by (i - at) (omega (arith, a)) (λ le. here_in P (at + 1) l i has.1 each.1 le (omega (arith, b)))
    where
      by : (k : ℕ) → i ≡ at + k → (at + 1 ≤ i → (o : SlotOp) × (slice_get code i ≡ Some o) × P i o) → (o : SlotOp) × (slice_get code i ≡ Some o) × P i o
      by zero e later = let z : at ≡ i = omega (arith, e) in (o, subst (λ j. slice_get code j ≡ Some o) z has.0, subst (λ j. P j o) z each.0)
      by (suc k) e later = later (omega (arith, e))

  -- ---- places before which nothing calls

  pub quiet_stop : (i q : ℕ) → slice_get code i ≡ Some (op.Stop q) → Quiet i
  quiet_stop i q e = quiet_step code i (op.Stop q) e

  pub quiet_over : (i : ℕ) (o : SlotOp) → slice_get code i ≡ Some o → ((b : Bool) → quiet_with o b ≡ b) → Quiet (i + 1) → Quiet i
  quiet_over i o e p q = let n : i + 1 ≡ suc i = omega arith in quiet_step code i o e ∙ p (is_quiet code (suc i)) ∙ subst Quiet n q

  pub quiet_at : (i j : ℕ) → i ≡ j → Quiet i → Quiet j
  quiet_at i j e q = subst Quiet e q
