-- Sums over the rows of a program.
use Rattle.std.proofs.Common.{◌≡◌, ℕ, zero, suc, ◌+◌, ◌*◌, ◌≤◌, Bool, true, false, nat_lt, List, [], ◌∷◌, length, map, Option, Some, None, slice_get, refl, subst, arith}
use Rattle.std.proofs.lemmas.Bool.{ltb-true, ltb-false}
use Rattle.std.specs.List.{AllByRecursion}
use Rattle.c_tree.specs.declared.rows.SymbolRow.{SymbolRow}
use Rattle.ps_emit.specs.Bounds.{all, of_symbol}
use Rattle.ps_tables.specs.Rows.{total}

-- what holds of each item holds of the one with a number
pub at_item : {A : Type 0} (P : A → Type 0) (xs : List A) (i : ℕ) (x : A) → AllByRecursion P xs → slice_get xs i ≡ Some x → P x
at_item P [] i x h e = absurd cc
at_item P (y ∷ ys) zero x h e = let same : y ≡ x = cc in subst P same h.0
at_item P (y ∷ ys) (suc i) x h e = at_item P ys i x h.1 e

-- numbers below a greater one count no more
pub total_more : (w : ℕ → ℕ) (a b : ℕ) → a ≤ b → total w a ≤ total w b
total_more w a zero h = let e : 0 ≡ a = omega arith in subst (λ x. total w x ≤ total w 0) e (omega arith)
total_more w a (suc b) h = by (total_more w a b) (nat_lt b a) refl
  where
    by : (a ≤ b → total w a ≤ total w b) → (c : Bool) → nat_lt b a ≡ c → total w a ≤ total w (suc b)
    by below true e = let l = ltb-true b a e in let same : suc b ≡ a = omega arith in subst (λ x. total w x ≤ total w (suc b)) same (omega arith)
    by below false e = let l = ltb-false b a e in let m = below l in omega arith

-- the first one apart
pub total_shift : (v w : ℕ → ℕ) (n : ℕ) → ((i : ℕ) → v (suc i) ≡ w i) → total v (suc n) ≡ v 0 + total w n
total_shift v w zero h = omega arith
total_shift v w (suc n) h = let e = total_shift v w n h in let f = h n in omega arith

-- where a function counts so many and more for each point
pub total_linear : (a b : ℕ) (v : ℕ → ℕ) (n : ℕ) → total (λ i. a + b * v i) n ≡ n * a + b * total v n
total_linear a b v zero = omega arith
total_linear a b v (suc n) =
    let e = total_linear a b v n in
    let f : b * (total v n + v n) ≡ b * total v n + b * v n = grind arith in
    let g : suc n * a ≡ n * a + a = grind arith in
    omega arith

-- ---- the bytes of symbols

abbrev pub row_bytes : Option SymbolRow → ℕ
row_bytes None = 0
row_bytes (Some row) = (of_symbol row).bytes

abbrev pub symbol_bytes : List SymbolRow → ℕ → ℕ
symbol_bytes ss s = row_bytes (slice_get ss s)

pub symbols_total : (ss : List SymbolRow) → total (symbol_bytes ss) (length ss) ≡ (all (map of_symbol ss)).bytes
symbols_total [] = refl
symbols_total (s ∷ ss) = let e = symbols_total ss in let f = total_shift (symbol_bytes (s ∷ ss)) (symbol_bytes ss) (length ss) (λ i. refl) in omega arith
