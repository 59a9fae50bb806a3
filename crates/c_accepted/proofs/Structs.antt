-- The structs of a program keep the rules on structs (C90 6.5.2.1).
use Rattle.std.proofs.Common.{◌≡◌, ◌≤◌, ◌<◌, refl, sym, ap, ◌∙◌, subst, arith, ℕ, zero, suc, ◌+◌, Bool, true, false, ◌||◌, true≢false, List, [], ◌∷◌, length, Some}
use Rattle.std.specs.Prelude.{slice_get}
use Rattle.std.specs.List.{AllByRecursion}
use Rattle.std.proofs.lemmas.Option.{slice_get_within}
use Rattle.c_tree.specs.declared.types.CType.{CType}
use Rattle.c_tree.specs.declared.types.CType.TheVariants as ctype
use Rattle.c_tree.specs.declared.types.StructDef.{StructDef}
use Rattle.c_tree.specs.declared.types.Member.{Member}
use Rattle.c_tree.specs.Layout.{members_of, members_in, size_in}
use Rattle.c_typing.specs.Plain.{Plain, Char, Int, Unsigned, Void, Pointer, Array, Struct, plain, is_struct, is_complete}
use Rattle.c_typing.specs.Written.{IsWritten, IsDeclared}
use Rattle.c_typing.specs.Declarations.{IsStruct}
use Rattle.c_typing.specs.Programs.{AllFrom}
use Rattle.c_defs.specs.Depths.{deepest, is_within, are_within}
use Rattle.c_accepted.specs.Grown.{IsMade, IsHeld}
use Rattle.c_accepted.proofs.Completed.{AreSound}
use Rattle.c_accepted.proofs.Growth.{both_parts}
use Rattle.c_accepted.proofs.Written.{within_is, IsLimited, written}
use Rattle.c_accepted.proofs.Completing.{and_true, extended, no_more}

-- ---- a property of each item and its number

from_all : {A : Type 0} (P : ℕ → A → Type 0) (n : ℕ) (xs : List A) → ((k : ℕ) (x : A) → slice_get xs k ≡ Some x → P (n + k) x) → AllFrom P n xs
from_all P n [] w = tt
from_all P n (x ∷ xs) w =
    let here : P (n + 0) x = w 0 x refl in
    let e : n + 0 ≡ n = omega arith in
    (subst (λ k. P k x) e here, from_all P (suc n) xs (λ k y h. let f : n + suc k ≡ suc n + k = omega arith in subst (λ i. P i y) f (w (suc k) y h)))

pub all_from : {A : Type 0} (P : ℕ → A → Type 0) (xs : List A) → ((k : ℕ) (x : A) → slice_get xs k ≡ Some x → P k x) → AllFrom P 0 xs
all_from P xs w = from_all P 0 xs (λ k x h. let e : k ≡ 0 + k = omega arith in subst (λ i. P i x) e (w k x h))

-- ---- depths

or_more : (a b c : Bool) → (b ≡ true → c ≡ true) → (a || b) ≡ true → (a || c) ≡ true
or_more true b c f h = refl
or_more false b c f h = f h

all_more : (f k : Plain → Bool) → ((t : Plain) → f t ≡ true → k t ≡ true) → (ms : List Member) → are_within f ms ≡ true → are_within k ms ≡ true
all_more f k w [] h = refl
all_more f k w (m ∷ ms) h =
    let q = both_parts (f (plain m.ctype)) (are_within f ms) h in
    and_true (k (plain m.ctype)) (are_within k ms) (w (plain m.ctype) q.0) (all_more f k w ms q.1)

pub within_more : (defs : List StructDef) (n : ℕ) (t : Plain) → is_within defs n t ≡ true → is_within defs (suc n) t ≡ true
within_more defs zero t h = absurd (true≢false (sym h))
within_more defs (suc n) Char h = refl
within_more defs (suc n) Int h = refl
within_more defs (suc n) Unsigned h = refl
within_more defs (suc n) Void h = refl
within_more defs (suc n) (Pointer t) h = or_more (is_struct t) (is_within defs n t) (is_within defs (suc n) t) (within_more defs n t) h
within_more defs (suc n) (Array t k) h = within_more defs n t h
within_more defs (suc n) (Struct s) h = all_more (is_within defs n) (is_within defs (suc n)) (λ t. within_more defs n t) (members_of defs s) h

pub limited_of : (defs : List StructDef) (t : Plain) → is_within defs deepest t ≡ true → IsLimited defs t
limited_of defs Char h = h
limited_of defs Int h = h
limited_of defs Unsigned h = h
limited_of defs Void h = h
limited_of defs (Pointer t) h = h
limited_of defs (Array t n) h = h
limited_of defs (Struct s) h = tt

limited_member : (defs : List StructDef) (t : Plain) → is_within defs 63 t ≡ true → IsLimited defs t
unfolding deepest
limited_member defs t h = limited_of defs t (within_more defs 63 t h)

-- ---- structs

module _ (defs : List StructDef) (a : AreSound defs) where
  there : (xs : List StructDef) (n : ℕ) → n < length xs → (d : StructDef) × (slice_get xs n ≡ Some d)
  there [] n h = absurd (omega (arith, h))
  there (x ∷ xs) zero h = (x, refl)
  there (x ∷ xs) (suc n) h = there xs n (omega (arith, h))

  struct_written : (s : ℕ) (d : StructDef) → slice_get defs s ≡ Some d → IsWritten defs (ctype.Struct s)
  struct_written s d e =
      let i = a s d e in (
        within_is defs 64 (ctype.Struct s) (ap (λ r. are_within (is_within defs 63) (members_in r)) e ∙ i.deep),
        (slice_get_within defs s d e, subst (λ r. size_in r ≤ 1048576) (sym e) i.small),
      )

  pub structs_written : (s : ℕ) → s < length defs → IsWritten defs (ctype.Struct s)
  structs_written s h = let (d, e) = there defs s h in struct_written s d e

  pub declared_in : (u : CType) → IsMade defs (plain u) → IsLimited defs (plain u) → is_complete defs (plain u) ≡ true → IsDeclared defs u
  declared_in u m l c = (written defs defs (extended defs defs a (no_more defs)) structs_written u m l, c)

  members_declared : (ms : List Member) → AllByRecursion (IsHeld defs) ms → are_within (is_within defs 63) ms ≡ true → AllByRecursion (λ m. IsDeclared defs m.ctype) ms
  members_declared [] h w = tt
  members_declared (m ∷ ms) h w =
      let q = both_parts (is_within defs 63 (plain m.ctype)) (are_within (is_within defs 63) ms) w in
      (declared_in m.ctype h.0.0 (limited_member defs (plain m.ctype) q.0) h.0.1, members_declared ms h.1 q.1)

  one_struct : (s : ℕ) (d : StructDef) → slice_get defs s ≡ Some d → IsStruct defs s d
  one_struct s d e = let i = a s d e in (struct_written s d e, i.differ, members_declared d.members i.held i.deep, i.laid)

  -- each struct of a program whose structs are sound keeps the rules
  pub structs_keep : AllFrom (IsStruct defs) 0 defs
  structs_keep = all_from (IsStruct defs) defs one_struct
