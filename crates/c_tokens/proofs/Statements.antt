-- The fewest terminals of a statement, beside one for each tag of a struct in it.
use Rattle.std.proofs.Common.{◌≡◌, ℕ, ◌+◌, ◌≤◌, Bool, List, [], ◌∷◌, ◌++◌, length, length-append, Option, Some, None, arith}
use Rattle.c_lex.specs.declared.token.Place.{Place}
use Rattle.c_symbol.specs.declared.terminal.Terminal.{Terminal}
use Rattle.c_trees.specs.Expressions.{Tree}
use Rattle.c_trees.specs.Statements.{StatementTree, Empty, Evaluate, Begun, Declares, Also, Closed, If, IfElse, Headed, Do, Break, Continue, Return}
use Rattle.c_trees.specs.declared.statement.Head.{Head}
use Rattle.c_trees.specs.declared.statement.Head.TheVariants as head
use Rattle.c_statement.specs.declared.state.Control.{Control}
use Rattle.c_statement.specs.Grammar.{IsOptional, absent, present, IsControl, controlled, IsHead, while_head, switch_head, for_head, case_head, default_head, IsOpened, opened, next_local, IsStatement, empty_statement, expression_statement, block, if_only, if_else, headed, do_while, break_statement, continue_statement, return_statement, IsElse, up_to_else, IsBlock, closed, IsBegun, only_declarations, next_statement}
use Rattle.c_mentions.specs.Tags.{in_tree, in_part, in_local, in_head, in_statement}
use Rattle.c_tokens.proofs.Spelled.{tree_tokens, around_length, spelled}
use Rattle.c_tokens.proofs.Declared.{names_tokens, local_spelled, tags_of_two}

three_tags : (xs ys zs : List (List ℕ)) → length (xs ++ ys ++ zs) ≡ length xs + (length ys + length zs)
three_tags xs ys zs = omega (arith, length-append (xs ++ ys) zs, length-append xs ys)

abbrev pub part_tokens : Option Tree → ℕ
part_tokens None = 0
part_tokens (Some e) = tree_tokens e

abbrev pub head_tokens : Head → ℕ
head_tokens (head.While at e) = 3 + tree_tokens e
head_tokens (head.For at i e k) = 5 + (part_tokens i + (part_tokens e + part_tokens k))
head_tokens (head.Switch at e) = 3 + tree_tokens e
head_tokens (head.Case at e) = 2 + tree_tokens e
head_tokens (head.Default at) = 2

abbrev pub statement_tokens : StatementTree → ℕ
statement_tokens (Empty at) = 1
statement_tokens (Evaluate e) = 1 + tree_tokens e
statement_tokens (Begun at) = 1
statement_tokens (Declares b l) = statement_tokens b + names_tokens l.names
statement_tokens (Also b s) = statement_tokens b + statement_tokens s
statement_tokens (Closed b at) = 1 + statement_tokens b
statement_tokens (If at e s) = 3 + (tree_tokens e + statement_tokens s)
statement_tokens (IfElse at e s r) = 4 + (tree_tokens e + (statement_tokens s + statement_tokens r))
statement_tokens (Headed h s) = head_tokens h + statement_tokens s
statement_tokens (Do at s e) = 5 + (statement_tokens s + tree_tokens e)
statement_tokens (Break at) = 2
statement_tokens (Continue at) = 2
statement_tokens (Return at e) = 2 + part_tokens e

part_spelled : {e : Option Tree} {h : ℕ} {ts : List Terminal} → IsOptional e h ts → part_tokens e + length (in_part in_tree e) ≤ length ts
part_spelled absent = omega arith
part_spelled (present d) = spelled d

control_spelled : {k : Control} {q : Place × Tree} {h : ℕ} {ts : List Terminal} → IsControl k q h ts → 3 + (tree_tokens q.1 + length (in_tree q.1)) ≤ length ts
control_spelled (controlled k t o c {e} {at} {h} {ts} te oe d ce) = omega (arith, spelled d, length-append ts (c ∷ []))

head_spelled : {hd : Head} {h : ℕ} {ts : List Terminal} → IsHead hd h ts → head_tokens hd + length (in_head hd) ≤ length ts
head_spelled (while_head d) = omega (arith, control_spelled d)
head_spelled (switch_head d) = omega (arith, control_spelled d)
head_spelled (for_head t o y z c {d} {e} {f} {k} {m} {n} {us} {vs} {ws} te oe d' ye e' ze f' ce) =
    omega (
      arith,
      part_spelled d',
      part_spelled e',
      part_spelled f',
      three_tags (in_part in_tree d) (in_part in_tree e) (in_part in_tree f),
      around_length us y (vs ++ z ∷ (ws ++ c ∷ [])),
      around_length vs z (ws ++ c ∷ []),
      length-append ws (c ∷ []),
    )
head_spelled (case_head t c {e} {at} {h} {ts} te d ce) = omega (arith, spelled d, length-append ts (c ∷ []))
head_spelled (default_head t c te ce) = omega arith

opened_spelled : {x : StatementTree} {h : ℕ} {ts : List Terminal} → IsOpened x h ts → statement_tokens x + length (in_statement x) ≤ length ts
opened_spelled (opened o oe) = omega arith
opened_spelled (next_local {x} {l} {m} {n} {us} {vs} d d') = omega (arith, opened_spelled d, local_spelled d', tags_of_two (in_statement x) (in_local l), length-append us vs)

mutual
  pub statement_spelled : {b : Bool} {x : StatementTree} {h : ℕ} {ts : List Terminal} → IsStatement b x h ts → statement_tokens x + length (in_statement x) ≤ length ts
  statement_spelled (empty_statement c ce) = omega arith
  statement_spelled (expression_statement c {e} {at} {h} {ts} d ce) = omega (arith, spelled d, length-append ts (c ∷ []))
  statement_spelled (block d) = block_spelled d
  statement_spelled (if_only {b} {at} {e} {x} {m} {n} {us} {vs} d d') =
      omega (arith, control_spelled d, statement_spelled d', tags_of_two (in_tree e) (in_statement x), length-append us vs)
  statement_spelled (if_else {b} {at} {e} {x} {x'} {m} {n} {us} {vs} d d') =
      omega (arith, else_spelled d, statement_spelled d', three_tags (in_tree e) (in_statement x) (in_statement x'), length-append us vs)
  statement_spelled (headed {b} {hd} {x} {m} {n} {us} {vs} d d') =
      omega (arith, head_spelled d, statement_spelled d', tags_of_two (in_head hd) (in_statement x), length-append us vs)
  statement_spelled (do_while t c {b} {at} {x} {e} {m} {n} {us} {vs} te d d' ce) =
      omega (arith, statement_spelled d, control_spelled d', tags_of_two (in_statement x) (in_tree e), length-append us (vs ++ c ∷ []), length-append vs (c ∷ []))
  statement_spelled (break_statement t c te ce) = omega arith
  statement_spelled (continue_statement t c te ce) = omega arith
  statement_spelled (return_statement t c {e} {h} {ts} te d ce) = omega (arith, part_spelled d, length-append ts (c ∷ []))

  else_spelled : {q : (Place × Tree) × StatementTree} {h : ℕ} {ts : List Terminal} → IsElse q h ts
      → 4 + (tree_tokens q.0.1 + length (in_tree q.0.1) + (statement_tokens q.1 + length (in_statement q.1))) ≤ length ts
  else_spelled (up_to_else l {at} {e} {x} {m} {n} {us} {vs} d d' le) =
      omega (arith, control_spelled d, statement_spelled d', length-append us (vs ++ l ∷ []), length-append vs (l ∷ []))

  pub block_spelled : {x : StatementTree} {h : ℕ} {ts : List Terminal} → IsBlock x h ts → statement_tokens x + length (in_statement x) ≤ length ts
  block_spelled (closed c {b} {h} {ts} d ce) = omega (arith, begun_spelled d, length-append ts (c ∷ []))

  begun_spelled : {x : StatementTree} {h : ℕ} {ts : List Terminal} → IsBegun x h ts → statement_tokens x + length (in_statement x) ≤ length ts
  begun_spelled (only_declarations d) = opened_spelled d
  begun_spelled (next_statement {b} {x} {x'} {m} {n} {us} {vs} d d') =
      omega (arith, begun_spelled d, statement_spelled d', tags_of_two (in_statement x) (in_statement x'), length-append us vs)
