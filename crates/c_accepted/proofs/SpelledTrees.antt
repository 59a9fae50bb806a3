-- What holds of each expression that terminals spell holds of the expressions in statements and initializers. Declarations stand before statements.
use Rattle.std.proofs.Common.{ℕ, Bool, List, [], ◌∷◌, ◌++◌, Option, Some}
use Rattle.c_lex.specs.declared.token.Place.{Place}
use Rattle.c_symbol.specs.declared.terminal.Terminal.{Terminal}
use Rattle.c_trees.specs.Expressions.{Tree}
use Rattle.c_expr.specs.Grammar.{IsExpr}
use Rattle.c_trees.specs.Initializers.{InitialTree}
use Rattle.c_trees.specs.declared.declaration.Declared.{Declared}
use Rattle.c_trees.specs.declared.declaration.Local.{Local}
use Rattle.c_declaration.specs.Grammar as grammar
use Rattle.c_declaration.specs.Grammar.{value, braces, braces_comma, first_item, next_item, IsDeclared, plain, with_initial, AreDeclared, one_name, more_names, IsLocal, local}
use Rattle.c_trees.specs.Statements.{StatementTree}
use Rattle.c_trees.specs.declared.statement.Head.{Head}
use Rattle.c_statement.specs.declared.state.Control.{Control}
use Rattle.c_statement.specs.Grammar as statement
use Rattle.c_statement.specs.Grammar.{IsOptional, absent, present, IsControl, controlled, while_head, switch_head, for_head, case_head, default_head, opened, next_local, IsStatement, empty_statement, expression_statement, block, if_only, if_else, headed, do_while, break_statement, continue_statement, return_statement, IsElse, up_to_else, IsBlock, closed, IsBegun, only_declarations, next_statement}
use Rattle.c_accepted.specs.Sources.{IsOpened, IsInOrder, AllInPart, AllInInitial, AllInNames, AllInHead, AllIn}

-- ---- order

opened_is : {x : StatementTree} {h : ℕ} {ts : List Terminal} → statement.IsOpened x h ts → IsOpened x
opened_is (opened o oe) = tt
opened_is (next_local d d') = opened_is d

opened_order : {x : StatementTree} {h : ℕ} {ts : List Terminal} → statement.IsOpened x h ts → IsInOrder x
opened_order (opened o oe) = tt
opened_order (next_local d d') = opened_is d

mutual
  statement_order : {b : Bool} {x : StatementTree} {h : ℕ} {ts : List Terminal} → IsStatement b x h ts → IsInOrder x
  statement_order (empty_statement c ce) = tt
  statement_order (expression_statement c d ce) = tt
  statement_order (block d) = block_order d
  statement_order (if_only d d') = statement_order d'
  statement_order (if_else d d') = (else_order d, statement_order d')
  statement_order (headed d d') = statement_order d'
  statement_order (do_while t c te d d' ce) = statement_order d
  statement_order (break_statement t c te ce) = tt
  statement_order (continue_statement t c te ce) = tt
  statement_order (return_statement t c te d ce) = tt

  else_order : {q : (Place × Tree) × StatementTree} {h : ℕ} {ts : List Terminal} → IsElse q h ts → IsInOrder q.1
  else_order (up_to_else l d d' le) = statement_order d'

  pub block_order : {x : StatementTree} {h : ℕ} {ts : List Terminal} → IsBlock x h ts → IsInOrder x
  block_order (closed c d ce) = begun_order d

  begun_order : {x : StatementTree} {h : ℕ} {ts : List Terminal} → IsBegun x h ts → IsInOrder x
  begun_order (only_declarations d) = opened_order d
  begun_order (next_statement d d') = (begun_order d, statement_order d')

-- ---- expressions

-- Q holds of terminals and then of each part of them, and P of an expression whose terminals it holds of.
module _ (Q : List Terminal → Type 0) (P : Tree → Type 0) (first : (us vs : List Terminal) → Q (us ++ vs) → Q us) (last : (us vs : List Terminal) → Q (us ++ vs) → Q vs)
    (spelled : (p : ℕ) (e : Tree) (at : Place) (h : ℕ) (ts : List Terminal) → IsExpr p e at h ts → Q ts → P e) where
  expression_holds : {p : ℕ} {e : Tree} {at : Place} {h : ℕ} {ts : List Terminal} → IsExpr p e at h ts → Q ts → P e
  expression_holds {p} {e} {at} {h} {ts} d q = spelled p e at h ts d q

  names_on : (ds : List Declared) (d : Declared) → AllInNames P ds → AllInInitial P d.initial → AllInNames P (ds ++ d ∷ [])
  names_on [] d a b = (b, tt)
  names_on (c ∷ ds) d a b = (a.0, names_on ds d a.1 b)

  initial_holds : {i : InitialTree} {h : ℕ} {ts : List Terminal} → grammar.IsInitial i h ts → Q ts → AllInInitial P (Some i)
  initial_holds (value d) q = expression_holds d q
  initial_holds (braces c d ce) q = items_hold d
    where
      items_hold : {i : InitialTree} {h : ℕ} {ts : List Terminal} → grammar.AreItems i h ts → AllInInitial P (Some i)
      items_hold (first_item o oe d) = tt
      items_hold (next_item t d te d') = tt
  initial_holds (braces_comma t c d te ce) q = items_hold d
    where
      items_hold : {i : InitialTree} {h : ℕ} {ts : List Terminal} → grammar.AreItems i h ts → AllInInitial P (Some i)
      items_hold (first_item o oe d) = tt
      items_hold (next_item t d te d') = tt

  declared_holds : {d : Declared} {h : ℕ} {ts : List Terminal} → IsDeclared d h ts → Q ts → AllInInitial P d.initial
  declared_holds (plain d) q = tt
  declared_holds (with_initial t {d} {i} {m} {n} {us} {vs} d' te i') q = initial_holds i' (last (t ∷ []) vs (last us (t ∷ vs) q))

  names_hold : {ds : List Declared} {h : ℕ} {ts : List Terminal} → AreDeclared ds h ts → Q ts → AllInNames P ds
  names_hold (one_name d) q = (declared_holds d q, tt)
  names_hold (more_names t {d} {ds} {m} {n} {us} {vs} d' te d'') q = names_on ds d (names_hold d' (first us (t ∷ vs) q)) (declared_holds d'' (last (t ∷ []) vs (last us (t ∷ vs) q)))

  local_holds : {l : Local} {h : ℕ} {ts : List Terminal} → IsLocal l h ts → Q ts → AllInNames P l.names
  local_holds (local c {r} {base} {at} {ds} {h} {us} {vs} {ws} rd sd e d ce) q = names_hold d (first ws (c ∷ []) (last vs (ws ++ c ∷ []) (last us (vs ++ (ws ++ c ∷ [])) q)))

  part_holds : {e : Option Tree} {h : ℕ} {ts : List Terminal} → IsOptional e h ts → Q ts → AllInPart P e
  part_holds absent q = tt
  part_holds (present d) q = expression_holds d q

  control_holds : {k : Control} {x : Place × Tree} {h : ℕ} {ts : List Terminal} → IsControl k x h ts → Q ts → P x.1
  control_holds (controlled k t o c {e} {at} {h} {ts} te oe d ce) q = expression_holds d (first ts (c ∷ []) (last (t ∷ o ∷ []) (ts ++ c ∷ []) q))

  head_holds : {x : Head} {h : ℕ} {ts : List Terminal} → statement.IsHead x h ts → Q ts → AllInHead P x
  head_holds (while_head d) q = control_holds d q
  head_holds (switch_head d) q = control_holds d q
  head_holds (for_head t o y z c {d} {e} {f} {k} {m} {n} {us} {vs} {ws} te oe d' ye e' ze f' ce) q =
      let here = last (t ∷ o ∷ []) (us ++ y ∷ (vs ++ z ∷ (ws ++ c ∷ []))) q in
      let there = last (y ∷ []) (vs ++ z ∷ (ws ++ c ∷ [])) (last us (y ∷ (vs ++ z ∷ (ws ++ c ∷ []))) here) in (
        part_holds d' (first us (y ∷ (vs ++ z ∷ (ws ++ c ∷ []))) here),
        part_holds e' (first vs (z ∷ (ws ++ c ∷ [])) there),
        part_holds f' (first ws (c ∷ []) (last (z ∷ []) (ws ++ c ∷ []) (last vs (z ∷ (ws ++ c ∷ [])) there))),
      )
  head_holds (case_head t c {e} {at} {h} {ts} te d ce) q = expression_holds d (first ts (c ∷ []) (last (t ∷ []) (ts ++ c ∷ []) q))
  head_holds (default_head t c te ce) q = tt

  opened_holds : {x : StatementTree} {h : ℕ} {ts : List Terminal} → statement.IsOpened x h ts → Q ts → AllIn P x
  opened_holds (opened o oe) q = tt
  opened_holds (next_local {x} {l} {m} {n} {us} {vs} d d') q = (opened_holds d (first us vs q), local_holds d' (last us vs q))

  mutual
    statement_holds : {b : Bool} {x : StatementTree} {h : ℕ} {ts : List Terminal} → IsStatement b x h ts → Q ts → AllIn P x
    statement_holds (empty_statement c ce) q = tt
    statement_holds (expression_statement c {e} {at} {h} {ts} d ce) q = expression_holds d (first ts (c ∷ []) q)
    statement_holds (block d) q = block_holds d q
    statement_holds (if_only {b} {at} {e} {x} {m} {n} {us} {vs} d d') q = (control_holds d (first us vs q), statement_holds d' (last us vs q))
    statement_holds (if_else {b} {at} {e} {x} {x'} {m} {n} {us} {vs} d d') q = let two = else_holds d (first us vs q) in (two.0, two.1, statement_holds d' (last us vs q))
    statement_holds (headed {b} {hd} {x} {m} {n} {us} {vs} d d') q = (head_holds d (first us vs q), statement_holds d' (last us vs q))
    statement_holds (do_while t c {b} {at} {x} {e} {m} {n} {us} {vs} te d d' ce) q =
        let rest = last (t ∷ []) (us ++ (vs ++ c ∷ [])) q in (statement_holds d (first us (vs ++ c ∷ []) rest), control_holds d' (first vs (c ∷ []) (last us (vs ++ c ∷ []) rest)))
    statement_holds (break_statement t c te ce) q = tt
    statement_holds (continue_statement t c te ce) q = tt
    statement_holds (return_statement t c {e} {h} {ts} te d ce) q = part_holds d (first ts (c ∷ []) (last (t ∷ []) (ts ++ c ∷ []) q))

    else_holds : {x : (Place × Tree) × StatementTree} {h : ℕ} {ts : List Terminal} → IsElse x h ts → Q ts → P x.0.1 × AllIn P x.1
    else_holds (up_to_else l {at} {e} {x} {m} {n} {us} {vs} d d' le) q = (control_holds d (first us (vs ++ l ∷ []) q), statement_holds d' (first vs (l ∷ []) (last us (vs ++ l ∷ []) q)))

    pub block_holds : {x : StatementTree} {h : ℕ} {ts : List Terminal} → IsBlock x h ts → Q ts → AllIn P x
    block_holds (closed c {b} {h} {ts} d ce) q = begun_holds d (first ts (c ∷ []) q)

    begun_holds : {x : StatementTree} {h : ℕ} {ts : List Terminal} → IsBegun x h ts → Q ts → AllIn P x
    begun_holds (only_declarations d) q = opened_holds d q
    begun_holds (next_statement {b} {x} {x'} {m} {n} {us} {vs} d d') q = (begun_holds d (first us vs q), statement_holds d' (last us vs q))
