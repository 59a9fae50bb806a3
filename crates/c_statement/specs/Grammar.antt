-- Which tokens are a statement, one case for each alternative of the grammar (C90 6.6).
use Rattle.std.specs.Prelude.{◌≡◌, ℕ, suc, max, Bool, true, false, List, [], ◌∷◌, ◌++◌, Option, Some, None}
use Rattle.c_lex.specs.declared.token.Place.{Place}
use Rattle.c_lex.specs.declared.keyword.Keyword.{Keyword}
use Rattle.c_lex.specs.declared.keyword.Keyword.TheVariants as word
use Rattle.c_symbol.specs.declared.terminal.Terminal.{Terminal}
use Rattle.c_symbol.specs.declared.symbol.Symbol.TheVariants as symbol
use Rattle.c_trees.specs.Expressions.{Tree}
use Rattle.c_expr.specs.Grammar.{IsExpr}
use Rattle.c_trees.specs.declared.declaration.Local.{Local}
use Rattle.c_declaration.specs.Grammar.{Is, IsLocal}
use Rattle.c_trees.specs.declared.statement.Head.{Head}
use Rattle.c_trees.specs.declared.statement.Head.TheVariants as head
use Rattle.c_statement.specs.declared.state.Control.{Control}
use Rattle.c_statement.specs.declared.state.Control.TheVariants as control
use Rattle.c_trees.specs.Statements.{StatementTree, Empty, Evaluate, Begun, Declares, Also, Closed, If, IfElse, Headed, Do, Break, Continue, Return}

abbrev pub IsWord : Terminal → Keyword → Type 0
IsWord t k = Is t (symbol.Keyword k)

-- Below, h is the height of a tree, or the greatest height of the parts of one that is not whole. A list of siblings that is not empty is a level.

-- an expression that may be absent
pub data IsOptional : Option Tree → ℕ → List Terminal → Type 0 where
  absent : IsOptional None 0 []
  present : {e : Tree} {at : Place} {h : ℕ} {ts : List Terminal} → IsExpr 1 e at h ts → IsOptional (Some e) h ts

abbrev pub keyword_of : Control → Keyword
keyword_of control.If = word.If
keyword_of control.While = word.While
keyword_of control.Switch = word.Switch

-- `if`, `while` or `switch`, and its controlling expression
pub data IsControl : Control → Place × Tree → ℕ → List Terminal → Type 0 where
  controlled : (k : Control) (t o c : Terminal) {e : Tree} {at : Place} {h : ℕ} {ts : List Terminal}
      → IsWord t (keyword_of k) → Is o symbol.OpenParen → IsExpr 1 e at h ts → Is c symbol.CloseParen
      → IsControl k (t.place, e) h (t ∷ o ∷ (ts ++ c ∷ []))

-- what stands before the statement of a loop, a `switch` or a label
pub data IsHead : Head → ℕ → List Terminal → Type 0 where
  while_head : {at : Place} {e : Tree} {h : ℕ} {ts : List Terminal} → IsControl control.While (at, e) h ts → IsHead (head.While at e) h ts
  switch_head : {at : Place} {e : Tree} {h : ℕ} {ts : List Terminal} → IsControl control.Switch (at, e) h ts → IsHead (head.Switch at e) h ts
  for_head : (t o y z c : Terminal) {d e f : Option Tree} {k m n : ℕ} {us vs ws : List Terminal}
      → IsWord t word.For → Is o symbol.OpenParen → IsOptional d k us → Is y symbol.Semicolon → IsOptional e m vs → Is z symbol.Semicolon
      → IsOptional f n ws → Is c symbol.CloseParen
      → IsHead (head.For t.place d e f) (max (max k m) n) (t ∷ o ∷ (us ++ y ∷ (vs ++ z ∷ (ws ++ c ∷ []))))
  case_head : (t c : Terminal) {e : Tree} {at : Place} {h : ℕ} {ts : List Terminal} → IsWord t word.Case → IsExpr 3 e at h ts → Is c symbol.Colon
      → IsHead (head.Case t.place e) h (t ∷ (ts ++ c ∷ []))
  default_head : (t c : Terminal) → IsWord t word.Default → Is c symbol.Colon → IsHead (head.Default t.place) 0 (t ∷ c ∷ [])

-- a block with only its declarations so far (C90 6.6.2)
pub data IsOpened : StatementTree → ℕ → List Terminal → Type 0 where
  opened : (o : Terminal) → Is o symbol.OpenBrace → IsOpened (Begun o.place) 0 (o ∷ [])
  next_local : {x : StatementTree} {l : Local} {m n : ℕ} {us vs : List Terminal}
      → IsOpened x m us → IsLocal l n vs → IsOpened (Declares x l) (max m (suc n)) (us ++ vs)

-- IsStatement b x h ts: b tells that the statement ends in an `if` without an `else`, so that no `else` may follow (C90 6.6.4.1)
mutual
  pub data IsStatement : Bool → StatementTree → ℕ → List Terminal → Type 0 where
    empty_statement : (c : Terminal) → Is c symbol.Semicolon → IsStatement false (Empty c.place) 1 (c ∷ [])
    expression_statement : (c : Terminal) {e : Tree} {at : Place} {h : ℕ} {ts : List Terminal}
        → IsExpr 1 e at h ts → Is c symbol.Semicolon → IsStatement false (Evaluate e) (suc h) (ts ++ c ∷ [])
    block : {x : StatementTree} {h : ℕ} {ts : List Terminal} → IsBlock x h ts → IsStatement false x h ts
    if_only : {b : Bool} {at : Place} {e : Tree} {x : StatementTree} {m n : ℕ} {us vs : List Terminal}
        → IsControl control.If (at, e) m us → IsStatement b x n vs
        → IsStatement true (If at e x) (suc (max m n)) (us ++ vs)
    if_else : {b : Bool} {at : Place} {e : Tree} {x x' : StatementTree} {m n : ℕ} {us vs : List Terminal}
        → IsElse ((at, e), x) m us → IsStatement b x' n vs
        → IsStatement b (IfElse at e x x') (suc (max m n)) (us ++ vs)
    headed : {b : Bool} {hd : Head} {x : StatementTree} {m n : ℕ} {us vs : List Terminal}
        → IsHead hd m us → IsStatement b x n vs
        → IsStatement b (Headed hd x) (suc (max m n)) (us ++ vs)
    do_while : (t c : Terminal) {b : Bool} {at : Place} {x : StatementTree} {e : Tree} {m n : ℕ} {us vs : List Terminal}
        → IsWord t word.Do → IsStatement b x m us → IsControl control.While (at, e) n vs → Is c symbol.Semicolon
        → IsStatement false (Do t.place x e) (suc (max m n)) (t ∷ (us ++ (vs ++ c ∷ [])))
    break_statement : (t c : Terminal) → IsWord t word.Break → Is c symbol.Semicolon → IsStatement false (Break t.place) 1 (t ∷ c ∷ [])
    continue_statement : (t c : Terminal) → IsWord t word.Continue → Is c symbol.Semicolon → IsStatement false (Continue t.place) 1 (t ∷ c ∷ [])
    return_statement : (t c : Terminal) {e : Option Tree} {h : ℕ} {ts : List Terminal}
        → IsWord t word.Return → IsOptional e h ts → Is c symbol.Semicolon → IsStatement false (Return t.place e) (suc h) (t ∷ (ts ++ c ∷ []))

  -- an `if` up to its `else`: no other `if` before that waits for one
  pub data IsElse : (Place × Tree) × StatementTree → ℕ → List Terminal → Type 0 where
    up_to_else : (l : Terminal) {at : Place} {e : Tree} {x : StatementTree} {m n : ℕ} {us vs : List Terminal}
        → IsControl control.If (at, e) m us → IsStatement false x n vs → IsWord l word.Else
        → IsElse ((at, e), x) (max m n) (us ++ (vs ++ l ∷ []))

  -- a block (C90 6.6.2)
  pub data IsBlock : StatementTree → ℕ → List Terminal → Type 0 where
    closed : (c : Terminal) {b : StatementTree} {h : ℕ} {ts : List Terminal} → IsBegun b h ts → Is c symbol.CloseBrace → IsBlock (Closed b c.place) (suc h) (ts ++ c ∷ [])

  -- a block without its `}`
  pub data IsBegun : StatementTree → ℕ → List Terminal → Type 0 where
    only_declarations : {x : StatementTree} {h : ℕ} {ts : List Terminal} → IsOpened x h ts → IsBegun x h ts
    next_statement : {b : Bool} {x x' : StatementTree} {m n : ℕ} {us vs : List Terminal}
        → IsBegun x m us → IsStatement b x' n vs → IsBegun (Also x x') (max m (suc n)) (us ++ vs)
