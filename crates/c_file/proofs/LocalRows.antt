-- The rows of a function's locals.
use Rattle.std.proofs.Common.{◌≡◌, ◌≤◌, ◌++◌, ◌∷◌, ◌+◌, ◌-◌, [], ℕ, zero, suc, Bool, true, false, if◌then◌else◌, List, length, drop, Option, Some, None, refl, sym, ap, ◌∙◌, subst, arith}
use Rattle.c_tree.specs.declared.types.CType.{CType}
use Rattle.c_tree.specs.declared.rows.Local.{Local}
use Rattle.c_judge.specs.declared.symbol.Symbol.{Symbol}
use Rattle.c_judge.specs.Judges.{denoted}
use Rattle.c_typing.specs.Plain.{Plain, plain}
use Rattle.c_typing.specs.Expressions as typing
use Rattle.c_scope.specs.declared.link.Link.{Link}
use Rattle.c_scope.specs.Environment.{Environment, Row}
use Rattle.c_scope.specs.Table.{rows}
use Rattle.c_file.specs.Files.{State}
use Rattle.c_file.specs.Made as made
use Rattle.c_file.specs.Made.{Each, local_rows}
use Rattle.c_file.specs.Progress.{IsLocalOf}
use Rattle.c_file.proofs.Grown.{IsLocalRow, AreLocalRows}

-- a local object is that of its symbol
object_of : (f : Bool) (t : Plain) (ps : List Plain) (g : Bool) (u : Plain) (h : Bool) (x : Plain) (y : Bool) → (if f then typing.Function t ps else typing.Object t g) ≡ typing.Object u h → x ≡ t → y ≡ g
    → typing.Object x y ≡ (if f then typing.Function t ps else typing.Object t g)
object_of true t ps g u h x y e a b = cc
object_of false t ps g u h x y e a b = cc

module _ (q : State) where
  pub each_local : (ss : List Symbol) (ps : List (List CType)) (ls : List Link) (xs : List Local) → length ps ≡ length ss → length ls ≡ length ss → AreLocalRows (rows ss ps ls)
      → Each IsLocalOf ss xs → Each (made.IsLocalOf q) (rows ss ps ls) xs
  each_local [] ps ls [] a b h k = tt
  each_local [] ps ls (x ∷ xs) a b h k = k
  each_local (s ∷ ss) (p ∷ ps) (l ∷ ls) [] a b h k = k
  each_local (s ∷ ss) (p ∷ ps) (l ∷ ls) (x ∷ xs) a b h k =
      let z = h.0 in (
        (k.0.0, object_of s.function (plain s.ctype) _ s.register z.0 z.1 (plain x.ctype) x.register z.3 k.0.1 k.0.2),
        each_local ss ps ls xs (omega (arith, a)) (omega (arith, b)) h.1 k.1,
      )
  each_local (s ∷ ss) [] ls xs a b h k = absurd (omega (arith, a))
  each_local (s ∷ ss) (p ∷ ps) [] xs a b h k = absurd (omega (arith, b))

  pub each_behind : (n : ℕ) (ss : List Symbol) (ps : List (List CType)) (ls : List Link) (xs : List Local) → length ps ≡ length ss → length ls ≡ length ss → AreLocalRows (drop n (rows ss ps ls))
      → Each IsLocalOf (drop n ss) xs → Each (made.IsLocalOf q) (drop n (rows ss ps ls)) xs
  each_behind zero ss ps ls xs a b h k = each_local ss ps ls xs a b h k
  each_behind (suc n) [] ps ls [] a b h k = tt
  each_behind (suc n) [] ps ls (x ∷ xs) a b h k = k
  each_behind (suc n) (s ∷ ss) (p ∷ ps) (l ∷ ls) xs a b h k = each_behind n ss ps ls xs (omega (arith, a)) (omega (arith, b)) h k
  each_behind (suc n) (s ∷ ss) [] ls xs a b h k = absurd (omega (arith, a))
  each_behind (suc n) (s ∷ ss) (p ∷ ps) [] xs a b h k = absurd (omega (arith, b))

  kept : (r : Row) (rs : List Row) (o : Option ℕ) (k : ℕ) → o ≡ Some k → (elim o as (λ _. List Row) [ None ↦ local_rows q rs | Some x ↦ r ∷ local_rows q rs ]) ≡ r ∷ local_rows q rs
  kept r rs None k e = cc
  kept r rs (Some x) k e = refl

  pub all_local : (rs : List Row) → AreLocalRows rs → local_rows q rs ≡ rs
  all_local [] h = refl
  all_local (r ∷ rs) h = kept r rs r.local h.0.2 h.0.4 ∙ ap (λ l. r ∷ l) (all_local rs h.1)

pub rows_at_most : (ss : List Symbol) (ps : List (List CType)) (ls : List Link) → length (rows ss ps ls) ≤ length ss
rows_at_most [] ps ls = omega arith
rows_at_most (s ∷ ss) [] ls = omega arith
rows_at_most (s ∷ ss) (p ∷ ps) [] = omega arith
rows_at_most (s ∷ ss) (p ∷ ps) (l ∷ ls) = let e = rows_at_most ss ps ls in omega (arith, e)
