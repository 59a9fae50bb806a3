-- Faults in declarations, initializers and `switch`, and stopping points, by computation.
use Rattle.std.proofs.Common.{refl, ℕ, List, [], ◌∷◌, Option, Some, None, false, ◌≡◌}
use Rattle.std.specs.Prelude.{codes, ◌+◌}
use Rattle.c_symbol.specs.declared.symbol.LeafKind.TheVariants as leaf
use Rattle.c_symbol.specs.declared.symbol.PrefixOp.TheVariants as prefix
use Rattle.c_symbol.specs.declared.symbol.BinaryOp.TheVariants as binary
use Rattle.c_trees.specs.declared.expression.Spec.TheVariants as spec
use Rattle.c_trees.specs.Expressions.{Tree, Leaf, Prefix, Binary}
use Rattle.c_trees.specs.Declarators.{DeclaratorTree, Name, Pointers, Array, Function, Taking, Named as Taken}
use Rattle.c_trees.specs.declared.declaration.FileSpec.TheVariants.{Named}
use Rattle.c_trees.specs.declared.declaration.Storage.TheVariants as storage
use Rattle.c_trees.specs.Initializers.{InitialTree, Value, Braces, Item}
use Rattle.c_trees.specs.Statements.{Empty, Begun, Declares, Also, Closed, Headed, Return}
use Rattle.c_trees.specs.declared.statement.Head.TheVariants as head
use Rattle.c_trees.specs.declared.unit.External.{External}
use Rattle.c_trees.specs.declared.unit.External.TheVariants.{Declaration, Definition}
use Rattle.c_defs.specs.Depths.{deepest}
use Rattle.c_file.specs.Programs.{Rule, Faults, AllFiles, Well, at_first}
use Rattle.c_linkage.specs.FileTags.{tags_of}
use Rattle.c_file.specs.Files.{State}
use Rattle.c_check.proofs.Examples.{at, main_with}

abbrev number : ℕ → ℕ → Tree
number n k = Leaf (at n) (leaf.Constant (record { value = k; is_unsigned = false })) []

abbrev name : ℕ → List ℕ → Tree
name n text = Leaf (at n) leaf.Name text

abbrev declaration : ℕ → DeclaratorTree → Option InitialTree → External
declaration n d i = Declaration (record { place = at n; storage = storage.Plain; spec = Named spec.Int; names = record { declarator = d; initial = i } ∷ [] })

abbrev returns_zero : ℕ → External
returns_zero n = main_with n (Closed (Also (Begun (at (n + 15))) (Return (at (n + 17)) (Some (number (n + 24) 0)))) (at (n + 27)))

-- `int a[4]; int *p = a + 4;` and one item more
abbrev past_the_end : ℕ → List External
past_the_end k =
    declaration 0 (Array (at 4) (Name (at 4) (codes "a")) (Some (number 6 4))) None ∷
    declaration 10 (Pointers (at 14) 1 (Name (at 15) (codes "p"))) (Some (Value (Binary (at 19) binary.Add (name 19 (codes "a")) (number 23 k)))) ∷
    returns_zero 26 ∷ []

it_points_past_the_last : Faults (past_the_end 4 ∷ []) None
unfolding deepest
it_points_past_the_last = (_, _, (_, _, (_, _, (_, _, (refl, refl), refl, refl), (_, (_, _, (_, _, (refl, refl), refl, refl), (_, (_, _, (_, _, _, (refl, refl), refl, refl, refl), (_, (refl, refl), refl)), refl)), refl)), (_, (refl, refl), refl)), refl)

it_points_too_far : Faults (past_the_end 5 ∷ []) (Some (Rule 12 0 19))
unfolding deepest
it_points_too_far = (_, _, (_, _, (_, _, (_, _, (refl, refl), refl, refl), (_, (_, _, (_, _, (refl, refl), refl, refl), (refl, refl)), refl)), (refl, refl)), refl)

-- `int a[] = {1, 2};`, of which the second file has `extern int a[3];` or `extern int a[2];`
abbrev two_items : List External
two_items = declaration 0 (Array (at 4) (Name (at 4) (codes "a")) None) (Some (Item (Item (Braces (at 10)) (Value (number 11 1))) (Value (number 14 2)))) ∷ returns_zero 18 ∷ []

abbrev elsewhere : ℕ → List External
elsewhere k = Declaration (record { place = at 0; storage = storage.Extern; spec = Named spec.Int; names = record { declarator = Array (at 11) (Name (at 11) (codes "a")) (Some (number 13 k)); initial = None } ∷ [] }) ∷ []

it_agrees : Faults (two_items ∷ elsewhere 2 ∷ []) None
unfolding deepest
it_agrees = (_, _, (_, _, (_, _, (_, _, (refl, refl), refl, refl), (_, (_, _, (_, _, _, (refl, refl), refl, refl, refl), (_, (refl, refl), refl)), refl)), (_, (_, _, (_, _, (_, _, (refl, refl), refl, refl), (_, (refl, refl), refl)), (_, (refl, refl), refl)), refl)), refl)

it_has_another_bound : Faults (two_items ∷ elsewhere 3 ∷ []) (Some (Rule 6 1 11))
unfolding deepest
it_has_another_bound = (_, _, (_, _, (_, _, (_, _, (refl, refl), refl, refl), (_, (_, _, (_, _, _, (refl, refl), refl, refl, refl), (_, (refl, refl), refl)), refl)), (_, (_, _, (_, _, (_, _, (refl, refl), refl, refl), (refl, refl)), (refl, refl)), refl)), refl)

-- `int f(int a) { int a; return 0; }`
abbrev parameter_again : List External
parameter_again =
    Definition (record { place = at 0; storage = storage.Plain; spec = Named spec.Int; declarator = Taking (Function (at 4) (Name (at 4) (codes "f"))) (Taken (at 6) false spec.Int (Name (at 10) (codes "a"))) })
    (Closed (Also (Declares (Begun (at 13)) (record { place = at 15; register = false; spec = spec.Int; names = record { declarator = Name (at 19) (codes "a"); initial = None } ∷ [] })) (Return (at 22) (Some (number 29 0)))) (at 32)) ∷
    returns_zero 34 ∷ []

it_is_one_block : Faults (parameter_again ∷ []) (Some (Rule 5 0 19))
unfolding deepest
it_is_one_block = (_, _, (_, _, (_, _, (_, _, _, (refl, refl), refl, refl, refl), (refl, refl)), (refl, refl)), refl)

-- `int main(void) { switch (1) { case 1: ; case 2 - 1: ; } return 0; }`
abbrev same_labels : List External
same_labels = main_with 0 (Closed (Also (Also (Begun (at 15))
    (Headed (head.Switch (at 17) (number 25 1)) (Closed (Also (Also (Begun (at 28))
    (Headed (head.Case (at 30) (number 35 1)) (Empty (at 38))))
    (Headed (head.Case (at 40) (Binary (at 45) binary.Subtract (number 45 2) (number 49 1))) (Empty (at 52)))) (at 54))))
    (Return (at 56) (Some (number 63 0)))) (at 66)) ∷ []

it_has_one_label_twice : Faults (same_labels ∷ []) (Some (Rule 18 0 40))
unfolding deepest
it_has_one_label_twice = (_, _, (_, _, (_, _, (_, _, _, (refl, refl), refl, refl, refl), (refl, refl)), (refl, refl)), refl)

-- `int x = sizeof "ab"; char t[3] = "cd"; char *p = "ef";`: the string that an array starts with has no number
abbrev of_char : ℕ → DeclaratorTree → Tree → External
of_char n d e = Declaration (record { place = at n; storage = storage.Plain; spec = Named spec.Char; names = record { declarator = d; initial = Some (Value e) } ∷ [] })

abbrev quote : ℕ → List ℕ → Tree
quote n text = Leaf (at n) leaf.Text text

abbrev strings : List External
strings =
    declaration 0 (Name (at 4) (codes "x")) (Some (Value (Prefix (at 8) prefix.Sizeof (quote 15 (codes "ab"))))) ∷
    of_char 21 (Array (at 26) (Name (at 26) (codes "t")) (Some (number 28 3))) (quote 33 (codes "cd")) ∷
    of_char 39 (Pointers (at 44) 1 (Name (at 45) (codes "p"))) (quote 49 (codes "ef")) ∷ []

it_numbers_strings : (q : State) × AllFiles (tags_of (strings ∷ [])) (at_first (tags_of (strings ∷ []))) (strings ∷ []) Well q × (q.strings ≡ (codes "ab" ∷ codes "ef" ∷ []))
unfolding deepest
it_numbers_strings = (_, (_, _, (_, _, (_, _, (refl, refl), refl, refl), (_, (_, _, (_, _, (refl, refl), refl, refl), (_, (_, _, (_, _, (refl, refl), refl, refl), (_, (refl, refl), refl)), refl)), refl)), (_, (refl, refl), refl)), refl)
