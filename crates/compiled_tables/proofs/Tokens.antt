-- A program of few tokens has few structs, and each few members.
use Rattle.std.proofs.Common.{◌≡◌, ℕ, ◌+◌, ◌-◌, ◌≤◌, List, [], ◌∷◌, length, map, sum, sym, ap, ◌∙◌, arith}
use Rattle.std.proofs.lemmas.List.Sums.{sum-map, sum_by-cons}
use Rattle.std.specs.List.{AllByRecursion}
use Rattle.c_tree.specs.declared.types.StructDef.{StructDef}
use Rattle.c_tree.specs.declared.rows.Program.{Program}
use Rattle.slot_formed.specs.Tokens.{struct_tokens, program_tokens}

pub sum_more : {A : Type 0} (g : A → ℕ) (x : A) (xs : List A) → sum (map g (x ∷ xs)) ≡ g x + sum (map g xs)
sum_more g x xs = sum-map g (x ∷ xs) ∙ sum_by-cons g x xs ∙ ap (λ n. g x + n) (sym (sum-map g xs))

few : (n : ℕ) (ds : List StructDef) → sum (map struct_tokens ds) ≤ n → length ds ≤ n
few n [] h = omega arith
few n (d ∷ ds) h = let s = sum_more struct_tokens d ds in let e = few (n - 1) ds (omega arith) in omega arith

each_few : (ds : List StructDef) → sum (map struct_tokens ds) ≤ 40000 → AllByRecursion (λ (d : StructDef). length d.members ≤ 40000) ds
each_few [] h = tt
each_few (d ∷ ds) h = let s = sum_more struct_tokens d ds in (omega arith, each_few ds (omega arith))

pub few_structs : (p : Program) → program_tokens p ≤ 40000 → length p.defs ≤ 40000
few_structs p h = few 40000 p.defs (omega arith)

pub few_members : (p : Program) → program_tokens p ≤ 40000 → AllByRecursion (λ (d : StructDef). length d.members ≤ 40000) p.defs
few_members p h = each_few p.defs (omega arith)
