-- Measures of recursions over trees: more than the depth of each part.
use Rattle.std.proofs.Common.{◌≡◌, ◌≤◌, ◌<◌, ◌+◌, ℕ, zero, suc, length, slice_index_or, List, [], ◌∷◌, Option, Some, None, arith}
use Rattle.c_lex.specs.declared.token.Place.{Place}
use Rattle.c_trees.specs.Expressions.{Tree, Call, With, Bounded, Unbounded, with_arguments, with_bounds}
use Rattle.c_trees.specs.Expressions as tree
use Rattle.c_trees.specs.Initializers.{InitialTree, Braces, Item, with_items}
use Rattle.c_trees.specs.Initializers as initial
use Rattle.c_trees.specs.declared.declaration.Local.{Local}
use Rattle.c_trees.specs.Declarators.{DeclaratorTree, Function, Taking, depth, with_parameters}
use Rattle.c_trees.specs.Statements.{StatementTree, Begun, Declares, Also, with_locals, with_statements}
use Rattle.c_trees.specs.Statements as statement

abbrev pub parameter_depths : List DeclaratorTree → ℕ
parameter_depths [] = 0
parameter_depths (p ∷ ps) = depth p + 1 + parameter_depths ps

depth_parameters : (d : DeclaratorTree) (ps : List DeclaratorTree) → depth (with_parameters d ps) ≡ depth d + parameter_depths ps
depth_parameters d [] = omega arith
depth_parameters d (p ∷ ps) = omega (arith, depth_parameters (Taking d p) ps)

pub depth_function : (at : Place) (d : DeclaratorTree) (ps : List DeclaratorTree) → depth (with_parameters (Function at d) ps) ≡ depth d + 1 + parameter_depths ps
depth_function at d ps = depth_parameters (Function at d) ps

-- a part is less deep than the list that it is on
pub parameter_at : (ps : List DeclaratorTree) (i : ℕ) (d : DeclaratorTree) → i < length ps → depth (slice_index_or ps i d) < parameter_depths ps
parameter_at [] i d h = absurd (omega arith)
parameter_at (p ∷ ps) zero d h = omega arith
parameter_at (p ∷ ps) (suc i) d h = omega (arith, parameter_at ps i d (omega arith))

abbrev pub statement_depths : List StatementTree → ℕ
statement_depths [] = 0
statement_depths (s ∷ ss) = statement.depth s + 1 + statement_depths ss

depth_locals : (b : StatementTree) (ls : List Local) → statement.depth b ≤ statement.depth (with_locals b ls)
depth_locals b [] = omega arith
depth_locals b (l ∷ ls) = omega (arith, depth_locals (Declares b l) ls)

depth_statements : (b : StatementTree) (ss : List StatementTree) → statement.depth (with_statements b ss) ≡ statement.depth b + statement_depths ss
depth_statements b [] = omega arith
depth_statements b (s ∷ ss) = omega (arith, depth_statements (Also b s) ss)

pub depth_block : (at : Place) (ls : List Local) (ss : List StatementTree) → statement_depths ss ≤ statement.depth (with_statements (with_locals (Begun at) ls) ss)
depth_block at ls ss = omega (arith, depth_statements (with_locals (Begun at) ls) ss)

pub statement_at : (ss : List StatementTree) (i : ℕ) (d : StatementTree) → i < length ss → statement.depth (slice_index_or ss i d) < statement_depths ss
statement_at [] i d h = absurd (omega arith)
statement_at (s ∷ ss) zero d h = omega arith
statement_at (s ∷ ss) (suc i) d h = omega (arith, statement_at ss i d (omega arith))

abbrev pub argument_depths : List Tree → ℕ
argument_depths [] = 0
argument_depths (e ∷ es) = tree.depth e + 1 + argument_depths es

depth_arguments : (c : Tree) (es : List Tree) → tree.depth (with_arguments c es) ≡ tree.depth c + argument_depths es
depth_arguments c [] = omega arith
depth_arguments c (e ∷ es) = omega (arith, depth_arguments (With c e) es)

pub depth_call : (at : Place) (f : Tree) (es : List Tree) → tree.depth (with_arguments (Call at f) es) ≡ tree.depth f + 1 + argument_depths es
depth_call at f es = depth_arguments (Call at f) es

pub argument_at : (es : List Tree) (i : ℕ) (d : Tree) → i < length es → tree.depth (slice_index_or es i d) < argument_depths es
argument_at [] i d h = absurd (omega arith)
argument_at (e ∷ es) zero d h = omega arith
argument_at (e ∷ es) (suc i) d h = omega (arith, argument_at es i d (omega arith))

abbrev pub bound_depth : Option Tree → ℕ
bound_depth None = 1
bound_depth (Some e) = tree.depth e + 1

abbrev pub bound_depths : List (Option Tree) → ℕ
bound_depths [] = 0
bound_depths (b ∷ bs) = bound_depth b + bound_depths bs

pub depth_bounds : (d : Tree) (bs : List (Option Tree)) → tree.depth (with_bounds d bs) ≡ tree.depth d + bound_depths bs
depth_bounds d [] = omega arith
depth_bounds d (None ∷ bs) = omega (arith, depth_bounds (Unbounded d) bs)
depth_bounds d (Some e ∷ bs) = omega (arith, depth_bounds (Bounded d e) bs)

pub bound_at : (bs : List (Option Tree)) (i : ℕ) (d : Option Tree) → i < length bs → bound_depth (slice_index_or bs i d) ≤ bound_depths bs
bound_at [] i d h = absurd (omega arith)
bound_at (b ∷ bs) zero d h = omega arith
bound_at (b ∷ bs) (suc i) d h = omega (arith, bound_at bs i d (omega arith))

abbrev pub item_depths : List InitialTree → ℕ
item_depths [] = 0
item_depths (i ∷ is) = initial.depth i + 1 + item_depths is

depth_items : (i : InitialTree) (js : List InitialTree) → initial.depth (with_items i js) ≡ initial.depth i + item_depths js
depth_items i [] = omega arith
depth_items i (j ∷ js) = omega (arith, depth_items (Item i j) js)

pub depth_braces : (at : Place) (js : List InitialTree) → initial.depth (with_items (Braces at) js) ≡ item_depths js
depth_braces at js = omega (arith, depth_items (Braces at) js)

pub item_at : (js : List InitialTree) (i : ℕ) (d : InitialTree) → i < length js → initial.depth (slice_index_or js i d) < item_depths js
item_at [] i d h = absurd (omega arith)
item_at (j ∷ js) zero d h = omega arith
item_at (j ∷ js) (suc i) d h = omega (arith, item_at js i d (omega arith))
