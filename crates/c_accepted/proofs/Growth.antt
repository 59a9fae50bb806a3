-- What the rules of typing say of complete types stays as further structs are completed.
use Rattle.std.proofs.Common.{◌≡◌, refl, sym, ap, ◌∙◌, subst, ℕ, ◌*◌, Bool, true, false, not, ◌&&◌, ◌||◌, true≢false, List, [], ◌∷◌, map, Option, Some, None}
use Rattle.std.specs.Prelude.{slice_get, option_map, option_and_then, nat_le, if◌then◌else◌}
use Rattle.std.proofs.lemmas.Option.{slice_get-map}
use Rattle.c_tree.specs.declared.types.StructDef.{StructDef}
use Rattle.c_tree.specs.declared.types.Member.{Member}
use Rattle.c_tree.specs.declared.typed.BinaryOp.{BinaryOp}
use Rattle.c_tree.specs.declared.typed.BinaryOp.TheVariants.{Add, Subtract}
use Rattle.c_tree.specs.declared.typed.StepOp.{StepOp}
use Rattle.c_tree.specs.Layout.{members_of}
use Rattle.c_typing.specs.Plain.{Plain, Char, Int, Unsigned, Void, Pointer, Array, Struct, same, is_integer, is_empty, is_complete}
use Rattle.c_typing.specs.Rules.{Operand, value_of, followed, member_type, dot_type, arrow_type, is_movable, sum_type, difference_type, index_type, binary_type, is_compound, is_move, compound_type, step_type, stepping, size_type}
use Rattle.c_typing.specs.Values.{size_of}
use Rattle.c_accepted.specs.Grown.{ctype_of, Grows}

-- ---- tests

pub both_parts : (a b : Bool) → a && b ≡ true → (a ≡ true) × (b ≡ true)
both_parts true b h = (refl, h)
both_parts false b h = absurd (true≢false (sym h))

-- a test that holds of more gives what it gave
if_grows : {A : Type 0} (b c : Bool) (x r : A) → (b ≡ true → c ≡ true) → (if b then Some x else None) ≡ Some r → (if c then Some x else None) ≡ Some r
if_grows true c x r f h = subst (λ d. (if d then Some x else None) ≡ Some r) (sym (f refl)) h
if_grows false c x r f h = absurd (let e : None ≡ Some r = h in cc)

two_grow : {A : Type 0} (b c i j : Bool) (x y r : A) → (b ≡ true → c ≡ true)
    → (if b && i then Some x else (if b && j then Some y else None)) ≡ Some r → (if c && i then Some x else (if c && j then Some y else None)) ≡ Some r
two_grow true c i j x y r f h = subst (λ d. (if d && i then Some x else (if d && j then Some y else None)) ≡ Some r) (sym (f refl)) h
two_grow false c i j x y r f h = absurd (let e : None ≡ Some r = h in cc)

and_grows : (b c i : Bool) → (b ≡ true → c ≡ true) → b && i ≡ true → c && i ≡ true
and_grows true c i f h = subst (λ d. d && i ≡ true) (sym (f refl)) h
and_grows false c i f h = absurd (true≢false (sym h))

pub as_empty : (xs ys : List Member) → map ctype_of xs ≡ map ctype_of ys → is_empty xs ≡ is_empty ys
as_empty [] [] h = refl
as_empty (x ∷ xs) (y ∷ ys) h = refl
as_empty [] (y ∷ ys) h = absurd (let e : [] ≡ ctype_of y ∷ map ctype_of ys = h in cc)
as_empty (x ∷ xs) [] h = absurd (let e : ctype_of x ∷ map ctype_of xs ≡ [] = h in cc)

pub not_empty : (b : Bool) → not b ≡ true → b ≡ false
not_empty false h = refl
not_empty true h = absurd (true≢false (sym h))

no_member : (ms : List Member) (m : ℕ) (r : Plain) → is_empty ms ≡ true → option_map ctype_of (slice_get ms m) ≡ Some r → ⊥
no_member [] m r e h = let k : None ≡ Some r = h in cc
no_member (x ∷ xs) m r e h = true≢false (sym e)

module _ (before behind : List StructDef) (g : Grows before behind) where
  pub complete_grows : (t : Plain) → is_complete before t ≡ true → is_complete behind t ≡ true
  complete_grows Char h = refl
  complete_grows Int h = refl
  complete_grows Unsigned h = refl
  complete_grows Void h = h
  complete_grows (Pointer t) h = refl
  complete_grows (Array t n) h = let q = both_parts (nat_le 1 n) (is_complete before t) h in ap (λ b. b && is_complete behind t) q.0 ∙ complete_grows t q.1
  complete_grows (Struct s) h =
      let e = not_empty (is_empty (members_of before s)) h in
      ap not (as_empty (members_of behind s) (members_of before s) (g.members s e) ∙ e)

  pub size_grows : (t : Plain) → is_complete before t ≡ true → size_of behind t ≡ size_of before t
  size_grows Char h = refl
  size_grows Int h = refl
  size_grows Unsigned h = refl
  size_grows Void h = refl
  size_grows (Pointer t) h = refl
  size_grows (Array t n) h = ap (λ k. n * k) (size_grows t (both_parts (nat_le 1 n) (is_complete before t) h).1)
  size_grows (Struct s) h = g.size s (not_empty (is_empty (members_of before s)) h)

  -- ---- members

  member_in : (s m : ℕ) (r : Plain) (b : Bool) → is_empty (members_of before s) ≡ b → option_map ctype_of (slice_get (members_of before s) m) ≡ Some r
      → option_map ctype_of (slice_get (members_of behind s) m) ≡ Some r
  member_in s m r true e h = absurd (no_member (members_of before s) m r e h)
  member_in s m r false e h =
      sym (slice_get-map ctype_of (members_of behind s) m) ∙ ap (λ ts. slice_get ts m) (g.members s e) ∙ slice_get-map ctype_of (members_of before s) m ∙ h

  pub member_grows : (t : Plain) (m : ℕ) (r : Plain) → member_type before t m ≡ Some r → member_type behind t m ≡ Some r
  member_grows (Struct s) m r h = member_in s m r (is_empty (members_of before s)) refl h
  member_grows Char m r h = h
  member_grows Int m r h = h
  member_grows Unsigned m r h = h
  member_grows Void m r h = h
  member_grows (Pointer t) m r h = h
  member_grows (Array t n) m r h = h

  pub dot_grows : (a : Operand) (m : ℕ) (r : Plain) → dot_type before a m ≡ Some r → dot_type behind a m ≡ Some r
  dot_grows a m r h = by a.lvalue h
    where
      by : (b : Bool) → (if b then member_type before a.ctype m else None) ≡ Some r → (if b then member_type behind a.ctype m else None) ≡ Some r
      by true h = member_grows a.ctype m r h
      by false h = h

  pub arrow_grows : (t : Plain) (m : ℕ) (r : Plain) → arrow_type before t m ≡ Some r → arrow_type behind t m ≡ Some r
  arrow_grows (Pointer t) m r h = member_grows t m r h
  arrow_grows Char m r h = h
  arrow_grows Int m r h = h
  arrow_grows Unsigned m r h = h
  arrow_grows Void m r h = h
  arrow_grows (Array t n) m r h = h
  arrow_grows (Struct s) m r h = h

  -- ---- pointers

  pub followed_grows : (t r : Plain) → followed before t ≡ Some r → followed behind t ≡ Some r
  followed_grows (Pointer t) r h = if_grows (is_complete before t) (is_complete behind t) t r (complete_grows t) h
  followed_grows Char r h = h
  followed_grows Int r h = h
  followed_grows Unsigned r h = h
  followed_grows Void r h = h
  followed_grows (Array t n) r h = h
  followed_grows (Struct s) r h = h

  sum_grows : (s t r : Plain) → sum_type before s t ≡ Some r → sum_type behind s t ≡ Some r
  sum_grows (Pointer u) t r h = if_grows (is_complete before u && is_integer t) (is_complete behind u && is_integer t) (Pointer u) r (and_grows (is_complete before u) (is_complete behind u) (is_integer t) (complete_grows u)) h
  sum_grows Char (Pointer u) r h = if_grows (is_complete before u) (is_complete behind u) (Pointer u) r (complete_grows u) h
  sum_grows Int (Pointer u) r h = if_grows (is_complete before u) (is_complete behind u) (Pointer u) r (complete_grows u) h
  sum_grows Unsigned (Pointer u) r h = if_grows (is_complete before u) (is_complete behind u) (Pointer u) r (complete_grows u) h
  sum_grows _ _ r h = h

  difference_grows : (s t r : Plain) → difference_type before s t ≡ Some r → difference_type behind s t ≡ Some r
  difference_grows (Pointer u) t r h = two_grow (is_complete before u) (is_complete behind u) (is_integer t) (same (Pointer u) t) (Pointer u) Int r (complete_grows u) h
  difference_grows Char t r h = h
  difference_grows Int t r h = h
  difference_grows Unsigned t r h = h
  difference_grows Void t r h = h
  difference_grows (Array s n) t r h = h
  difference_grows (Struct s) t r h = h

  pub index_grows : (s t r : Plain) → index_type before s t ≡ Some r → index_type behind s t ≡ Some r
  index_grows s t r h = by (sum_type before s t) refl h
    where
      by : (o : Option Plain) → sum_type before s t ≡ o → option_and_then (followed before) o ≡ Some r → option_and_then (followed behind) (sum_type behind s t) ≡ Some r
      by None e h = absurd (let k : None ≡ Some r = h in cc)
      by (Some u) e h = ap (option_and_then (followed behind)) (sum_grows s t u e) ∙ followed_grows u r h

  pub binary_grows : (o : BinaryOp) (a b : Operand) (r : Plain) → binary_type before o a b ≡ Some r → binary_type behind o a b ≡ Some r
  binary_grows Add a b r h = sum_grows (value_of a) (value_of b) r h
  binary_grows Subtract a b r h = difference_grows (value_of a) (value_of b) r h
  binary_grows _ a b r h = h

  -- ---- stores

  movable_grows : (t : Plain) → is_movable before t ≡ true → is_movable behind t ≡ true
  movable_grows (Pointer t) h = complete_grows t h
  movable_grows Char h = h
  movable_grows Int h = h
  movable_grows Unsigned h = h
  movable_grows Void h = h
  movable_grows (Array t n) h = h
  movable_grows (Struct s) h = h

  pub compound_grows : (o : BinaryOp) (a : Operand) (t r : Plain) → compound_type before o a t ≡ Some r → compound_type behind o a t ≡ Some r
  compound_grows o a t r h = if_grows _ _ a.ctype r (by a.lvalue (is_integer t) (is_integer a.ctype && is_compound o)) h
    where
      or_grows : (i b c : Bool) → (b ≡ true → c ≡ true) → i || b ≡ true → i || c ≡ true
      or_grows true b c f k = refl
      or_grows false b c f k = f k

      by : (l i n : Bool) → l && i && (n || (is_movable before a.ctype && is_move o)) ≡ true → l && i && (n || (is_movable behind a.ctype && is_move o)) ≡ true
      by true true n k = or_grows n _ _ (and_grows (is_movable before a.ctype) (is_movable behind a.ctype) (is_move o) (movable_grows a.ctype)) k
      by true false n k = k
      by false i n k = k

  pub step_grows : (o : StepOp) (a : Operand) (r : Plain) → step_type before o a ≡ Some r → step_type behind o a ≡ Some r
  step_grows o a r h = compound_grows (stepping o) a Int r h

  pub size_type_grows : (t r : Plain) → size_type before t ≡ Some r → size_type behind t ≡ Some r
  size_type_grows t r h = if_grows (is_complete before t) (is_complete behind t) Unsigned r (complete_grows t) h
