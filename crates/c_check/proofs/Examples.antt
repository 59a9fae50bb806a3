-- Faults of worked programs, by computation.
use Rattle.std.proofs.Common.{refl, ℕ, List, [], ◌∷◌, Some, None, false}
use Rattle.std.specs.Prelude.{codes, ◌+◌}
use Rattle.c_lex.specs.declared.token.Place.{Place}
use Rattle.c_symbol.specs.declared.symbol.LeafKind.TheVariants as leaf
use Rattle.c_symbol.specs.declared.symbol.PrefixOp.TheVariants as prefix
use Rattle.c_symbol.specs.declared.symbol.AssignOp.TheVariants as assign
use Rattle.c_symbol.specs.declared.symbol.BinaryOp.TheVariants as binary
use Rattle.c_trees.specs.declared.expression.Spec.TheVariants as spec
use Rattle.c_trees.specs.Expressions.{Leaf, Call, Prefix, Binary}
use Rattle.c_trees.specs.Declarators.{Name, Function}
use Rattle.c_trees.specs.declared.declaration.FileSpec.TheVariants.{Named}
use Rattle.c_trees.specs.declared.declaration.Storage.TheVariants as storage
use Rattle.c_trees.specs.Statements.{StatementTree, Evaluate, Begun, Also, Closed, Return}
use Rattle.c_trees.specs.declared.unit.External.{External}
use Rattle.c_trees.specs.declared.unit.External.TheVariants.{Declaration, Definition}
use Rattle.c_defs.specs.Depths.{deepest}
use Rattle.c_file.specs.Programs.{Rule, Twice, Undefined, NoMain, Faults}

-- a place on the first line
abbrev pub at : ℕ → Place
at n = record { at = n; line = 1; column = n + 1 }

abbrev pub variable : ℕ → ℕ → List ℕ → External
variable n m name = Declaration (record { place = at n; storage = storage.Plain; spec = Named spec.Int; names = record { declarator = Name (at m) name; initial = None } ∷ [] })

abbrev pub main_with : ℕ → StatementTree → External
main_with n b = Definition (record { place = at n; storage = storage.Plain; spec = Named spec.Int; declarator = Function (at (n + 4)) (Name (at (n + 4)) (codes "main")) }) b

-- `int a; int main(void) { return *a; }`
abbrev pointer_of_an_integer : List External
pointer_of_an_integer =
    variable 0 4 (codes "a") ∷
    main_with 7 (Closed (Also (Begun (at 22)) (Return (at 24) (Some (Prefix (at 31) prefix.Dereference (Leaf (at 32) leaf.Name (codes "a")))))) (at 35)) ∷ []

it_breaks_a_rule : Faults (pointer_of_an_integer ∷ []) (Some (Rule 24 0 31))
unfolding deepest
it_breaks_a_rule = (_, _, (_, _, (_, _, (_, _, (refl, refl), refl, refl), (_, (_, _, (_, _, _, (refl, refl), refl, refl, refl), (refl, refl)), refl)), (refl, refl)), refl)

-- `int main(void) { return y; }`
abbrev undeclared : List External
undeclared = main_with 0 (Closed (Also (Begun (at 15)) (Return (at 17) (Some (Leaf (at 24) leaf.Name (codes "y"))))) (at 27)) ∷ []

it_lacks_a_name : Faults (undeclared ∷ []) (Some (Undefined (codes "y")))
unfolding deepest
it_lacks_a_name = (_, _, (_, _, (_, _, (_, _, _, (refl, refl), refl, refl, refl), (_, (refl, refl), refl)), (_, (refl, refl), refl)), refl)

-- `int x;`
it_has_no_main : Faults ((variable 0 4 (codes "x") ∷ []) ∷ []) (Some NoMain)
unfolding deepest
it_has_no_main = (_, _, (_, _, (_, _, (_, _, (refl, refl), refl, refl), (_, (refl, refl), refl)), (_, (refl, refl), refl)), refl)

-- `int x; int main(void) { x = 3; return x; }`
abbrev assigned : List External
assigned =
    variable 0 4 (codes "x") ∷
    main_with 7 (Closed (Also (Also (Begun (at 22)) (Evaluate (Binary (at 24) (binary.Assign assign.Plain) (Leaf (at 24) leaf.Name (codes "x")) (Leaf (at 28) (leaf.Constant (record { value = 3; is_unsigned = false })) [])))) (Return (at 31) (Some (Leaf (at 38) leaf.Name (codes "x"))))) (at 41)) ∷ []

it_is_well : Faults (assigned ∷ []) None
unfolding deepest
it_is_well = (_, _, (_, _, (_, _, (_, _, (refl, refl), refl, refl), (_, (_, _, (_, _, _, (refl, refl), refl, refl, refl), (_, (refl, refl), refl)), refl)), (_, (refl, refl), refl)), refl)

-- two files: the first calls what the second defines
abbrev calls : List External
calls =
    Declaration (record { place = at 0; storage = storage.Plain; spec = Named spec.Int; names = record { declarator = Function (at 4) (Name (at 4) (codes "f")); initial = None } ∷ [] }) ∷
    main_with 12 (Closed (Also (Begun (at 27)) (Return (at 29) (Some (Call (at 36) (Leaf (at 36) leaf.Name (codes "f")))))) (at 41)) ∷ []

abbrev called : List External
called = Definition (record { place = at 0; storage = storage.Plain; spec = Named spec.Int; declarator = Function (at 4) (Name (at 4) (codes "f")) }) (Closed (Also (Begun (at 12)) (Return (at 14) (Some (Leaf (at 21) (leaf.Constant (record { value = 1; is_unsigned = false })) [])))) (at 24)) ∷ []

it_finds_the_other_file : Faults (calls ∷ called ∷ []) None
unfolding deepest
it_finds_the_other_file = (_, _, (_, _, (_, _, (_, _, (refl, refl), refl, refl), (_, (_, _, (_, _, _, (refl, refl), refl, refl, refl), (_, (refl, refl), refl)), refl)), (_, (_, _, (_, _, (_, _, _, (refl, refl), refl, refl, refl), (_, (refl, refl), refl)), (_, (refl, refl), refl)), refl)), refl)

it_lacks_the_other_file : Faults (calls ∷ []) (Some (Undefined (codes "f")))
unfolding deepest
it_lacks_the_other_file = (_, _, (_, _, (_, _, (_, _, (refl, refl), refl, refl), (_, (_, _, (_, _, _, (refl, refl), refl, refl, refl), (_, (refl, refl), refl)), refl)), (_, (refl, refl), refl)), refl)

it_has_two : Faults (calls ∷ called ∷ called ∷ []) (Some (Twice (codes "f")))
unfolding deepest
it_has_two = (_, _, (_, _, (_, _, (_, _, (refl, refl), refl, refl), (_, (_, _, (_, _, _, (refl, refl), refl, refl, refl), (_, (refl, refl), refl)), refl)), (_, (_, _, (_, _, (_, _, _, (refl, refl), refl, refl, refl), (_, (refl, refl), refl)), (_, (_, _, (_, _, (_, _, _, (refl, refl), refl, refl, refl), (_, (refl, refl), refl)), (_, (refl, refl), refl)), refl)), refl)), refl)
