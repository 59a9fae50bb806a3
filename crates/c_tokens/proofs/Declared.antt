-- The fewest terminals of declarators, initializers and declarations, beside one for each tag of a struct in them.
use Rattle.std.proofs.Common.{◌≡◌, ap, ℕ, ◌+◌, ◌≤◌, Bool, true, false, List, [], ◌∷◌, ◌++◌, length, length-append, Option, Some, None, arith}
use Rattle.c_symbol.specs.declared.terminal.Terminal.{Terminal}
use Rattle.c_trees.specs.Declarators as tree
use Rattle.c_trees.specs.Declarators.{DeclaratorTree}
use Rattle.c_trees.specs.Initializers.{InitialTree, Value}
use Rattle.c_trees.specs.declared.declaration.Declared.{Declared}
use Rattle.c_trees.specs.declared.declaration.Local.{Local}
use Rattle.c_declaration.specs.Grammar.{IsDirect, name, parens, array, open_array, no_parameters, void_parameters, parameters, IsDeclarator, direct, pointers, AreParameters, first_parameter, next_parameter, IsParameter, named, unnamed, IsInitial, value, braces, braces_comma, AreItems, first_item, next_item, IsDeclared, plain, with_initial, AreDeclared, one_name, more_names, IsLocal, local}
use Rattle.c_mentions.specs.Tags.{in_spec, in_tree, in_all, in_declarator, in_initial, in_declared, in_local}
use Rattle.c_tokens.proofs.Spelled.{tree_tokens, around_length, spec_tokens, spelled, abstract_tags}

-- the tags of two parts
pub tags_of_two : (xs ys : List (List ℕ)) → length (xs ++ ys) ≡ length xs + length ys
tags_of_two xs ys = length-append xs ys

-- ---- declarators: a name at least, and two parentheses more where one is of a function

abbrev pub is_of_function : DeclaratorTree → Bool
is_of_function (tree.Parens at d) = is_of_function d
is_of_function (tree.Pointers at n d) = is_of_function d
is_of_function (tree.Array at d e) = is_of_function d
is_of_function (tree.Function at d) = true
is_of_function (tree.Taking d p) = true
is_of_function _ = false

abbrev parentheses : Bool → ℕ
parentheses true = 2
parentheses false = 0

at_most : (b : Bool) → parentheses b ≤ 2
at_most true = omega arith
at_most false = omega arith

abbrev pub declarator_tokens : DeclaratorTree → ℕ
declarator_tokens d = 1 + parentheses (is_of_function d)

pub of_function : (d : DeclaratorTree) → is_of_function d ≡ true → declarator_tokens d ≡ 3
of_function d e = ap (λ b. 1 + parentheses b) e

mutual
  direct_tokens : {d : DeclaratorTree} {h : ℕ} {ts : List Terminal} → IsDirect d h ts → declarator_tokens d + length (in_declarator d) ≤ length ts
  direct_tokens (name t te) = omega arith
  direct_tokens (parens o c {d} {h} {ts} oe d' ce) = omega (arith, declarator_spelled d', length-append ts (c ∷ []))
  direct_tokens (array o c {d} {e} {at} {m} {n} {us} {vs} d' oe e' ce) =
      omega (arith, direct_tokens d', spelled e', tags_of_two (in_declarator d) (in_tree e), around_length us o (vs ++ c ∷ []), length-append vs (c ∷ []))
  direct_tokens (open_array o c {d} {m} {us} d' oe ce) = omega (arith, direct_tokens d', tags_of_two (in_declarator d) [], around_length us o (c ∷ []))
  direct_tokens (no_parameters o c {d} {m} {us} d' oe ce) = omega (arith, direct_tokens d', around_length us o (c ∷ []))
  direct_tokens (void_parameters o v c {d} {m} {us} d' oe ve ce) = omega (arith, direct_tokens d', around_length us o (v ∷ c ∷ []))
  direct_tokens (parameters c {d} {h} {us} ps ne ce) = omega (arith, parameters_tokens ps, length-append us (c ∷ []))

  pub declarator_spelled : {d : DeclaratorTree} {h : ℕ} {ts : List Terminal} → IsDeclarator d h ts → declarator_tokens d + length (in_declarator d) ≤ length ts
  declarator_spelled (direct d) = direct_tokens d
  declarator_spelled (pointers t {n} {h} {d} {us} {vs} s d') = omega (arith, direct_tokens d', length-append us vs)

  -- they lack the `)`
  parameters_tokens : {d : DeclaratorTree} {h : ℕ} {ts : List Terminal} → AreParameters d h ts → declarator_tokens d + length (in_declarator d) ≤ 1 + length ts
  parameters_tokens (first_parameter o {d} {p} {m} {n} {us} {vs} d' oe p') =
      omega (arith, direct_tokens d', parameter_tags p', tags_of_two (in_declarator d) (in_declarator p), around_length us o vs)
  parameters_tokens (next_parameter t {d} {p} {m} {n} {us} {vs} d' te p') =
      omega (arith, parameters_tokens d', taking d', parameter_tags p', tags_of_two (in_declarator d) (in_declarator p), around_length us t vs)

  taking : {d : DeclaratorTree} {h : ℕ} {ts : List Terminal} → AreParameters d h ts → declarator_tokens d ≡ 3
  taking (first_parameter o d oe p) = omega arith
  taking (next_parameter t d te p) = omega arith

  parameter_tags : {d : DeclaratorTree} {h : ℕ} {ts : List Terminal} → IsParameter d h ts → length (in_declarator d) ≤ length ts
  parameter_tags (named {at} {r} {base} {d} {h} {us} {vs} {ws} rd sd fd d') =
      omega (arith, spec_tokens sd, declarator_spelled d', tags_of_two (in_spec base) (in_declarator d), length-append us (vs ++ ws), length-append vs ws)
  parameter_tags (unnamed {at} {base} {a} {m} {us} {vs} sd fd a') =
      omega (arith, spec_tokens sd, abstract_tags a', tags_of_two (in_spec base) (in_tree a), length-append us vs)

-- ---- initializers: only an expression by itself is counted

abbrev value_tokens : InitialTree → ℕ
value_tokens (Value e) = tree_tokens e
value_tokens _ = 0

mutual
  pub initial_spelled : {i : InitialTree} {h : ℕ} {ts : List Terminal} → IsInitial i h ts → value_tokens i + length (in_initial i) ≤ length ts
  initial_spelled (value d) = spelled d
  initial_spelled (braces c {i} {h} {ts} d ce) = omega (arith, items_spelled d, length-append ts (c ∷ []))
  initial_spelled (braces_comma t c {i} {h} {ts} d te ce) = omega (arith, items_spelled d, length-append ts (t ∷ c ∷ []))

  items_spelled : {i : InitialTree} {h : ℕ} {ts : List Terminal} → AreItems i h ts → value_tokens i + length (in_initial i) ≤ length ts
  items_spelled (first_item o {i} {h} {ts} oe d) = omega (arith, initial_spelled d, tags_of_two [] (in_initial i))
  items_spelled (next_item t {i} {j} {m} {n} {us} {vs} d te d') =
      omega (arith, items_spelled d, initial_spelled d', tags_of_two (in_initial i) (in_initial j), around_length us t vs)

-- ---- declarations in a block

abbrev pub initial_tokens : Option InitialTree → ℕ
initial_tokens None = 0
initial_tokens (Some i) = 1 + value_tokens i

-- a declarator has a name, and a comma or a semicolon behind it
abbrev pub names_tokens : List Declared → ℕ
names_tokens [] = 0
names_tokens (d ∷ ds) = 2 + (initial_tokens d.initial + names_tokens ds)

names-append : (ds es : List Declared) → names_tokens (ds ++ es) ≡ names_tokens ds + names_tokens es
names-append [] es = omega arith
names-append (d ∷ ds) es = omega (arith, names-append ds es)

pub all-append : {A : Type 0} (f : A → List (List ℕ)) (xs ys : List A) → length (in_all f (xs ++ ys)) ≡ length (in_all f xs) + length (in_all f ys)
all-append f [] ys = omega arith
all-append f (x ∷ xs) ys = omega (arith, all-append f xs ys, tags_of_two (f x) (in_all f (xs ++ ys)), tags_of_two (f x) (in_all f xs))

declared_spelled : {d : Declared} {h : ℕ} {ts : List Terminal} → IsDeclared d h ts → 1 + (initial_tokens d.initial + length (in_declared d)) ≤ length ts
declared_spelled (plain {d} {h} {ts} d') = omega (arith, declarator_spelled d', tags_of_two (in_declarator d) [])
declared_spelled (with_initial t {d} {i} {m} {n} {us} {vs} d' te i') =
    omega (arith, declarator_spelled d', initial_spelled i', tags_of_two (in_declarator d) (in_initial i), around_length us t vs)

names_spelled : {ds : List Declared} {h : ℕ} {ts : List Terminal} → AreDeclared ds h ts → names_tokens ds + length (in_all in_declared ds) ≤ 1 + length ts
names_spelled (one_name {d} {h} {ts} d') = omega (arith, declared_spelled d', tags_of_two (in_declared d) [])
names_spelled (more_names t {d} {ds} {m} {n} {us} {vs} ds' te d') =
    omega (arith, names_spelled ds', declared_spelled d', names-append ds (d ∷ []), all-append in_declared ds (d ∷ []), tags_of_two (in_declared d) [], around_length us t vs)

pub local_spelled : {l : Local} {h : ℕ} {ts : List Terminal} → IsLocal l h ts → names_tokens l.names + length (in_local l) ≤ length ts
local_spelled (local c {r} {base} {at} {ds} {h} {us} {vs} {ws} rd sd fd ds' ce) =
    omega (arith, spec_tokens sd, names_spelled ds', tags_of_two (in_spec base) (in_all in_declared ds), length-append us (vs ++ (ws ++ c ∷ [])), length-append vs (ws ++ c ∷ []), length-append ws (c ∷ []))
