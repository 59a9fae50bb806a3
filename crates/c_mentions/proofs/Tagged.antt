-- The tags of calls, of arrays and functions, of lists in braces and of blocks.
use Rattle.std.proofs.Common.{◌≡◌, ℕ, List, [], ◌∷◌, ◌++◌, ◌∙◌, refl, ap, sym, Option, Some, None}
use Rattle.std.proofs.lemmas.List.{append_assoc}
use Rattle.c_lex.specs.declared.token.Place.{Place}
use Rattle.c_trees.specs.Expressions.{Tree, Call, With, Bounded, Unbounded, with_arguments, with_bounds}
use Rattle.c_trees.specs.Declarators.{DeclaratorTree, Function, Taking, with_parameters}
use Rattle.c_trees.specs.Initializers.{InitialTree, Braces, Item, with_items}
use Rattle.c_trees.specs.declared.declaration.Local.{Local}
use Rattle.c_trees.specs.Statements.{StatementTree, Begun, Declares, Also, with_locals, with_statements}
use Rattle.c_mentions.specs.Tags.{in_all, in_part, in_tree, in_declarator, in_initial, in_local, in_statement}

nil : (xs : List (List ℕ)) → xs ≡ xs ++ []
nil [] = refl
nil (x ∷ xs) = ap (λ ys. x ∷ ys) (nil xs)

pub nothing_behind : (xs : List (List ℕ)) → (xs ++ []) ≡ xs
nothing_behind xs = sym (nil xs)

tree_arguments : (c : Tree) (es : List Tree) → in_tree (with_arguments c es) ≡ (in_tree c ++ in_all in_tree es)
tree_arguments c [] = nil (in_tree c)
tree_arguments c (e ∷ es) = tree_arguments (With c e) es ∙ append_assoc (in_tree c) (in_tree e) (in_all in_tree es)

-- a list with the two parts behind it
behind : (xs ys zs ws : List (List ℕ)) → ws ≡ (ys ++ zs) → (xs ++ ws) ≡ ((xs ++ ys) ++ zs)
behind xs ys zs ws e = ap (λ vs. xs ++ vs) e ∙ sym (append_assoc xs ys zs)

pub tree_call : (xs : List (List ℕ)) (at : Place) (f : Tree) (es : List Tree) → (xs ++ in_tree (with_arguments (Call at f) es)) ≡ ((xs ++ in_tree f) ++ in_all in_tree es)
tree_call xs at f es = behind xs (in_tree f) (in_all in_tree es) (in_tree (with_arguments (Call at f) es)) (tree_arguments (Call at f) es)

more_bounds : (d : Tree) (bs : List (Option Tree)) → in_tree (with_bounds d bs) ≡ (in_tree d ++ in_all (in_part in_tree) bs)
more_bounds d [] = nil (in_tree d)
more_bounds d (None ∷ bs) = more_bounds (Unbounded d) bs
more_bounds d (Some e ∷ bs) = more_bounds (Bounded d e) bs ∙ append_assoc (in_tree d) (in_tree e) (in_all (in_part in_tree) bs)

pub tree_bounds : (xs : List (List ℕ)) (d : Tree) (bs : List (Option Tree)) → (xs ++ in_tree (with_bounds d bs)) ≡ ((xs ++ in_tree d) ++ in_all (in_part in_tree) bs)
tree_bounds xs d bs = behind xs (in_tree d) (in_all (in_part in_tree) bs) (in_tree (with_bounds d bs)) (more_bounds d bs)

declarator_parameters : (d : DeclaratorTree) (ps : List DeclaratorTree) → in_declarator (with_parameters d ps) ≡ (in_declarator d ++ in_all in_declarator ps)
declarator_parameters d [] = nil (in_declarator d)
declarator_parameters d (p ∷ ps) = declarator_parameters (Taking d p) ps ∙ append_assoc (in_declarator d) (in_declarator p) (in_all in_declarator ps)

pub declarator_function : (xs : List (List ℕ)) (at : Place) (d : DeclaratorTree) (ps : List DeclaratorTree) → (xs ++ in_declarator (with_parameters (Function at d) ps)) ≡ ((xs ++ in_declarator d) ++ in_all in_declarator ps)
declarator_function xs at d ps = behind xs (in_declarator d) (in_all in_declarator ps) (in_declarator (with_parameters (Function at d) ps)) (declarator_parameters (Function at d) ps)

initial_items : (i : InitialTree) (js : List InitialTree) → in_initial (with_items i js) ≡ (in_initial i ++ in_all in_initial js)
initial_items i [] = nil (in_initial i)
initial_items i (j ∷ js) = initial_items (Item i j) js ∙ append_assoc (in_initial i) (in_initial j) (in_all in_initial js)

pub initial_braces : (at : Place) (js : List InitialTree) → in_initial (with_items (Braces at) js) ≡ in_all in_initial js
initial_braces at js = initial_items (Braces at) js

statement_locals : (b : StatementTree) (ls : List Local) → in_statement (with_locals b ls) ≡ (in_statement b ++ in_all in_local ls)
statement_locals b [] = nil (in_statement b)
statement_locals b (l ∷ ls) = statement_locals (Declares b l) ls ∙ append_assoc (in_statement b) (in_local l) (in_all in_local ls)

statement_statements : (b : StatementTree) (ss : List StatementTree) → in_statement (with_statements b ss) ≡ (in_statement b ++ in_all in_statement ss)
statement_statements b [] = nil (in_statement b)
statement_statements b (s ∷ ss) = statement_statements (Also b s) ss ∙ append_assoc (in_statement b) (in_statement s) (in_all in_statement ss)

block_parts : (at : Place) (ls : List Local) (ss : List StatementTree) → in_statement (with_statements (with_locals (Begun at) ls) ss) ≡ (in_all in_local ls ++ in_all in_statement ss)
block_parts at ls ss = statement_statements (with_locals (Begun at) ls) ss ∙ ap (λ b. b ++ in_all in_statement ss) (statement_locals (Begun at) ls)

pub statement_block : (xs : List (List ℕ)) (at : Place) (ls : List Local) (ss : List StatementTree) → (xs ++ in_statement (with_statements (with_locals (Begun at) ls) ss)) ≡ ((xs ++ in_all in_local ls) ++ in_all in_statement ss)
statement_block xs at ls ss = behind xs (in_all in_local ls) (in_all in_statement ss) (in_statement (with_statements (with_locals (Begun at) ls) ss)) (block_parts at ls ss)
