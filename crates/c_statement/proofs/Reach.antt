-- Where tokens are a statement or a block, they are read, and so is what follows them.
use Rattle.std.proofs.Common.{◌≡◌, ℕ, suc, max, Bool, true, false, List, [], ◌∷◌, ◌++◌, Option, Some, None, refl, sym, ◌∙◌, ap, ap₂, append_assoc, append-nil}
use Rattle.std.specs.Prelude.{if◌then◌else◌}
use Rattle.c_lex.specs.declared.token.Place.{Place}
use Rattle.c_lex.specs.declared.keyword.Keyword.TheVariants as word
use Rattle.c_symbol.specs.declared.terminal.Terminal.{Terminal}
use Rattle.c_symbol.specs.declared.symbol.Symbol.{Symbol}
use Rattle.c_symbol.specs.declared.symbol.Symbol.TheVariants as symbol
use Rattle.c_trees.specs.Expressions.{Tree}
use Rattle.c_expr.specs.declared.frame.Least.TheVariants.{Expression}
use Rattle.c_expr.specs.Machine.{start}
use Rattle.c_declaration.specs.declared.built.Built.{Built}
use Rattle.c_trees.specs.declared.declaration.Local.{Local}
use Rattle.c_declaration.specs.declared.step.Step.{Step}
use Rattle.c_declaration.specs.declared.step.Step.TheVariants as step
use Rattle.c_declaration.specs.declared.state.LocalParser.{LocalParser}
use Rattle.c_declaration.specs.declared.state.LocalParser.TheVariants as local
use Rattle.c_declaration.specs.declared.state.ReadLocal.{ReadLocal}
use Rattle.c_declaration.specs.Grown.{cut}
use Rattle.c_declaration.specs.Grammar.{IsLocal}
use Rattle.c_declaration.specs.LocalReading.{local_offer, beginning}
use Rattle.c_declaration.specs.Feeding.{feed}
use Rattle.c_declaration.specs.Laws.{LocalEnds, reading_local}
use Rattle.c_statement.specs.declared.state.Control.{Control}
use Rattle.c_statement.specs.declared.state.Control.TheVariants as control
use Rattle.c_statement.specs.declared.state.Frame.{Frame}
use Rattle.c_statement.specs.declared.state.Frame.TheVariants as frame
use Rattle.c_statement.specs.declared.state.Required.TheVariants as required
use Rattle.c_statement.specs.declared.state.Optional.TheVariants as optional
use Rattle.c_statement.specs.declared.state.Purpose.TheVariants.{Must, May as Maybe}
use Rattle.c_statement.specs.declared.state.Opener.TheVariants as opener
use Rattle.c_statement.specs.declared.state.Closer.TheVariants as closer
use Rattle.c_statement.specs.declared.state.Mode.{Mode}
use Rattle.c_statement.specs.declared.state.Mode.TheVariants.{Begin, Items, Declaring, After, Done, Paren, Ends, Colon, May, Value}
use Rattle.c_statement.specs.declared.state.Reader.{Reader}
use Rattle.c_trees.specs.Statements.{StatementTree, Empty, Evaluate, Begun, Declares, Also, Closed, If, IfElse, Headed, Do, Break, Continue, Return}
use Rattle.c_statement.specs.Parts.{kept, taller, paired, statement_part, placed, evaluate_of, return_of, if_of, if_else_of, headed_of, do_of, begun_of, declares_of, also_of, closed_of}
use Rattle.c_statement.specs.Grammar.{IsWord, IsOptional, keyword_of, IsControl, controlled, IsHead, IsOpened, opened, next_local, IsStatement, empty_statement, expression_statement, block, if_only, if_else, headed, do_while, break_statement, continue_statement, return_statement, IsElse, up_to_else, IsBlock, closed, IsBegun, only_declarations, next_statement}
use Rattle.c_statement.specs.Machine.{Next, goes, is_closer, waits, begins, ends_block, inside, declaring, starts_local, items, settle, on_else, until, behind, after, paren, semicolon, shift_mode, shift, run, start_block}
use Rattle.c_statement.proofs.Heights.{if_true, if_false, kept_cut, taller_cut, paired_cut, kept_taller, kept_paired, kept_both}
use Rattle.c_statement.proofs.Beginnings.{true_false, no_statement, begins_none, statement_local}
use Rattle.c_statement.proofs.Complete.{at_mode, on_next, step_to, expr_runs, maybe_runs, evaluate_runs, control_runs, head_runs}

abbrev is_brace : Symbol → Bool
is_brace symbol.CloseBrace = true
is_brace _ = false

-- declarations in a block
abbrev ends : ReadLocal → Option (Step LocalParser ReadLocal)
ends a = Some (step.Ends a)

none_ends : (a : ReadLocal) → None ≡ ends a → ⊥
none_ends a e = cc

goes_ends : (p : LocalParser) (a : ReadLocal) → Some (step.Goes p) ≡ ends a → ⊥
goes_ends p a e = cc

ends_same : (a b : ReadLocal) → ends a ≡ ends b → a ≡ b
ends_same a b e = cc

abbrev fed : List Terminal → Option (Step LocalParser ReadLocal) → Option (Step LocalParser ReadLocal)
fed ts o = elim o [ None ↦ None | Some a ↦ feed local_offer ts a ]

declares_last : (b : Option (Built StatementTree)) (s : List Frame) (ts rest : List Terminal) (r a : ReadLocal) → feed local_offer ts (step.Ends r) ≡ Some (step.Ends a)
    → run (ts ++ rest) (at_mode (Items (declares_of b r.local)) s) ≡ run rest (at_mode (Items (declares_of b a.local)) s)
declares_last b s [] rest r a e = ap (λ x. run rest (at_mode (Items (declares_of b x.local)) s)) (ends_same r a e)
declares_last b s (t ∷ ts) rest r a e = absurd (none_ends a e)

declares_by : (b : Option (Built StatementTree)) (s : List Frame) (ts rest : List Terminal) (a : ReadLocal)
    → ((q : LocalParser) → feed local_offer ts (step.Goes q) ≡ Some (step.Ends a) → run (ts ++ rest) (at_mode (Declaring b q) s) ≡ run rest (at_mode (Items (declares_of b a.local)) s))
    → (o : Option (Step LocalParser ReadLocal)) → fed ts o ≡ Some (step.Ends a)
    → on_next (ts ++ rest) (declaring b s o) ≡ run rest (at_mode (Items (declares_of b a.local)) s)
declares_by b s ts rest a ih None e = absurd (none_ends a e)
declares_by b s ts rest a ih (Some (step.Goes q)) e = ih q e
declares_by b s ts rest a ih (Some (step.Ends r)) e = declares_last b s ts rest r a e

declares : (b : Option (Built StatementTree)) (s : List Frame) (ts rest : List Terminal) (p : LocalParser) (a : ReadLocal) → feed local_offer ts (step.Goes p) ≡ Some (step.Ends a)
    → run (ts ++ rest) (at_mode (Declaring b p) s) ≡ run rest (at_mode (Items (declares_of b a.local)) s)
declares b s [] rest p a e = absurd (goes_ends p a e)
declares b s (t ∷ ts) rest p a e = declares_by b s ts rest a (λ q k. declares b s ts rest q a k) (local_offer p t) e

no_start : (y : Symbol) (at : Place) → starts_local y ≡ false → beginning y at ≡ None
no_start (symbol.Word _) at e = absurd (true_false e)
no_start symbol.Struct at e = absurd (true_false e)
no_start (symbol.Keyword word.Register) at e = absurd (true_false e)
no_start _ at e = refl

starts_by : (t : Terminal) (ts : List Terminal) (a : ReadLocal) → reading_local (t ∷ ts) ≡ Some (step.Ends a) → (b : Bool) → starts_local t.symbol ≡ b → b ≡ true
starts_by t ts a k true e = refl
starts_by t ts a k false e = absurd (none_ends a (sym (ap (fed ts) (no_start t.symbol t.place e)) ∙ k))

local_read : (b : Option (Built StatementTree)) (s : List Frame) (ts rest : List Terminal) (a : ReadLocal) → reading_local ts ≡ Some (step.Ends a)
    → run (ts ++ rest) (at_mode (Items b) s) ≡ run rest (at_mode (Items (declares_of b a.local)) s)
local_read b s [] rest a e = absurd (goes_ends local.Begin a e)
local_read b s (t ∷ ts) rest a e =
    step_to (Items b) s t (ts ++ rest) (declaring b s (local_offer local.Begin t)) (if_true (starts_local t.symbol) _ _ (starts_by t ts a e (starts_local t.symbol) refl))
    ∙ declares_by b s ts rest a (λ q k. declares b s ts rest q a k) (local_offer local.Begin t) e

opened_runs : LocalEnds → {x : StatementTree} {m : ℕ} {ts : List Terminal} → IsOpened x m ts → (s : List Frame) (rest : List Terminal)
    → run (ts ++ rest) (at_mode Begin s) ≡ run rest (at_mode (Items (cut x m)) s)
opened_runs law (opened o oe) s rest = step_to Begin s o rest (goes (Items (begun_of o.place)) s) (ap (λ v. begins v s o) oe)
opened_runs law (next_local {x} {l} {m} {n} {us} {vs} d d') s rest =
    ap (λ k. run k (at_mode Begin s)) (append_assoc us vs rest)
    ∙ opened_runs law d s (vs ++ rest)
    ∙ local_read (cut x m) s vs rest (record { place = l.place; local = cut l n }) (law l n vs d')
    ∙ ap (λ b. run rest (at_mode (Items b) s)) (ap (λ p. kept (λ v. Declares v.0 v.1) (paired (cut x m) p)) (taller_cut l n) ∙ kept_paired (λ v. Declares v.0 v.1) x l m (suc n))

-- what stands for the tokens of a statement once they are read; it may still have to be ended
record Reached (b : Bool) (x : StatementTree) (h : ℕ) (f : Frame) (s : List Frame) (ts : List Terminal) : Type 0 where
  now : Option (Built StatementTree)
  stack : List Frame
  runs : (rest : List Terminal) → run (ts ++ rest) (at_mode Begin (f ∷ s)) ≡ run rest (at_mode (After now) stack)
  folds : settle false now stack ≡ settle false (cut x h) (f ∷ s)
  folds_else : b ≡ false → settle true now stack ≡ settle true (cut x h) (f ∷ s)

-- a statement that needs no ending
simple : (b : Bool) (x : StatementTree) (h : ℕ) (f : Frame) (s : List Frame) (ts : List Terminal) (g : Option (Built StatementTree)) → g ≡ cut x h
    → ((rest : List Terminal) → run (ts ++ rest) (at_mode Begin (f ∷ s)) ≡ run rest (at_mode (After g) (f ∷ s))) → Reached b x h f s ts
simple b x h f s ts g is r = record { now = g; stack = f ∷ s; runs = r; folds = ap (λ v. settle false v (f ∷ s)) is; folds_else = λ _. ap (λ v. settle true v (f ∷ s)) is }

-- what stands for the tokens of a block so far
record ReachedBlock (x : StatementTree) (m : ℕ) (s : List Frame) (ts : List Terminal) : Type 0 where
  state : Reader
  runs : (rest : List Terminal) → run (ts ++ rest) (at_mode Begin s) ≡ run rest state
  goes_on : (t : Terminal) → starts_local t.symbol ≡ false → (t.symbol ≡ symbol.Keyword word.Else → ⊥) → shift state t ≡ inside t.symbol (cut x m) s t

-- a token that is no `else` behind a statement
not_else : (y : Symbol) (g : Option (Built StatementTree)) (s : List Frame) (t : Terminal) → (y ≡ symbol.Keyword word.Else → ⊥) → after y g s t ≡ behind (settle false g s) t
not_else (symbol.Keyword word.Else) g s t differs = absurd (differs refl)
not_else _ g s t differs = refl

-- the first token of a statement goes on with the block as it begins a statement
none_reader : (q : Reader) → None ≡ Some q → ⊥
none_reader q e = cc

begin_after : (s s' : List Frame) (g : Option (Built StatementTree)) → Some (at_mode Begin s) ≡ Some (at_mode (After g) s') → ⊥
begin_after s s' g e = let one = at_mode Begin s in let other = at_mode (After g) s' in let both : one ≡ other = cc in let modes : Begin ≡ After g = ap (λ q. q.mode) both in cc

first_by : (s : List Frame) (t : Terminal) (ts : List Terminal) (q : Reader) → run (t ∷ ts) (at_mode Begin s) ≡ Some q → (b : Bool) → no_statement t.symbol ≡ b → b ≡ false
first_by s t ts q k true e = absurd (none_reader q (sym (ap (on_next ts) (begins_none s t e)) ∙ k))
first_by s t ts q k false e = refl

no_else : (y : Symbol) → no_statement y ≡ false → y ≡ symbol.Keyword word.Else → ⊥
no_else y e k = true_false (sym (ap no_statement k) ∙ e)

no_brace : (y : Symbol) (b : Option (Built StatementTree)) (s : List Frame) (t : Terminal) → no_statement y ≡ false → inside y b s t ≡ begins y (frame.Block b ∷ s) t
no_brace symbol.CloseBrace b s t e = absurd (true_false e)
no_brace _ b s t e = refl

same_first : (q : Reader) (b : Option (Built StatementTree)) (s : List Frame)
    → ((t : Terminal) → starts_local t.symbol ≡ false → (t.symbol ≡ symbol.Keyword word.Else → ⊥) → shift q t ≡ inside t.symbol b s t)
    → (ts rest : List Terminal) (s' : List Frame) (g : Option (Built StatementTree)) → run ts (at_mode Begin (frame.Block b ∷ s)) ≡ Some (at_mode (After g) s')
    → run (ts ++ rest) q ≡ run (ts ++ rest) (at_mode Begin (frame.Block b ∷ s))
same_first q b s on [] rest s' g e = absurd (begin_after (frame.Block b ∷ s) s' g e)
same_first q b s on (t ∷ ts) rest s' g e =
    let first = first_by (frame.Block b ∷ s) t ts (at_mode (After g) s') e (no_statement t.symbol) refl in
    ap (on_next (ts ++ rest)) (on t (statement_local t.symbol first) (no_else t.symbol first) ∙ no_brace t.symbol b s t first)

-- the `while` of `do`
until_runs : {k : Control} {p : Place × Tree} {m : ℕ} {vs : List Terminal} → IsControl k p m vs → k ≡ control.While → (at : Place) (now g : Option (Built StatementTree)) (stack s : List Frame)
    → settle false now stack ≡ (g, frame.Do at ∷ s) → (rest : List Terminal)
    → run (vs ++ rest) (at_mode (After now) stack) ≡ run rest (at_mode (Ends (do_of (placed at g) (cut p.1 m))) s)
until_runs (controlled k t o c {e} {h} {ts} te oe d ce) same at now g stack s folds rest =
    let before = placed at g in
    let while : t.symbol ≡ symbol.Keyword word.While = te ∙ ap (λ v. symbol.Keyword (keyword_of v)) same in
    step_to (After now) stack t (o ∷ ((ts ++ c ∷ []) ++ rest)) (goes (Paren (opener.Until before)) s)
    (ap (λ y. after y now stack t) while ∙ ap (λ v. behind v t) folds ∙ ap (λ y. until y at g s) while)
    ∙ step_to (Paren (opener.Until before)) s o ((ts ++ c ∷ []) ++ rest) (waits (required.Until before) s) (ap (λ y. paren y (opener.Until before) s) oe)
    ∙ ap (λ l. run l (at_mode (Value (Must (required.Until before)) (start Expression)) s)) (append_assoc ts (c ∷ []) rest)
    ∙ expr_runs (Must (required.Until before)) s d c rest (ap (is_closer closer.Paren) ce)

-- a statement of a keyword and a `;`
ends_runs : (g : Option (Built StatementTree)) (s : List Frame) (c : Terminal) (rest : List Terminal) → c.symbol ≡ symbol.Semicolon → run (c ∷ rest) (at_mode (Ends g) s) ≡ run rest (at_mode (After g) s)
ends_runs g s c rest ce = step_to (Ends g) s c rest (goes (After g) s) (ap (λ v. semicolon v g s) ce)

mutual
  reach : LocalEnds → {b : Bool} {x : StatementTree} {h : ℕ} {ts : List Terminal} → IsStatement b x h ts → (f : Frame) (s : List Frame) → Reached b x h f s ts
  reach law (empty_statement c ce) f s =
      simple false (Empty c.place) 1 f s (c ∷ []) (statement_part (Empty c.place)) refl
      (λ rest. step_to Begin (f ∷ s) c rest (goes (After (statement_part (Empty c.place))) (f ∷ s)) (ap (λ v. begins v (f ∷ s) c) ce))
  reach law (expression_statement c {e} {at} {h} {ts} d ce) f s =
      simple false (Evaluate e) (suc h) f s (ts ++ c ∷ []) (evaluate_of (cut e h)) (kept_taller Evaluate e h)
      (λ rest. ap (λ l. run l (at_mode Begin (f ∷ s))) (append_assoc ts (c ∷ []) rest) ∙ evaluate_runs (f ∷ s) d c rest ce)
  reach law (block {x} {h} {ts} d) f s = simple false x h f s ts (cut x h) refl (λ rest. reach_block law d f s rest)
  reach law (if_only {b} {at} {e} {x} {m} {n} {us} {vs} cd d) f s =
      let fr = frame.If (cut (at, e) m) in
      let r = reach law d fr (f ∷ s) in
      record {
        now = r.now;
        stack = r.stack;
        runs = λ rest. ap (λ l. run l (at_mode Begin (f ∷ s))) (append_assoc us vs rest)
            ∙ control_runs cd (f ∷ s) (vs ++ rest)
            ∙ ap (λ v. run (vs ++ rest) (at_mode Begin (frame.If v ∷ f ∷ s))) (kept_cut (λ v. (at, v)) e m)
            ∙ r.runs rest;
        folds = r.folds ∙ ap (λ g. settle false g (f ∷ s)) (kept_both (λ v. If v.0.0 v.0.1 v.1) (at, e) x m n);
        folds_else = λ k. absurd (true_false k);
      }
  reach law (if_else {b} {at} {e} {x} {x'} {m} {n} {us} {vs} d d') f s =
      let fr = frame.Else (cut ((at, e), x) m) in
      let r = reach law d' fr (f ∷ s) in
      let whole = kept_both (λ v. IfElse v.0.0.0 v.0.0.1 v.0.1 v.1) ((at, e), x) x' m n in
      record {
        now = r.now;
        stack = r.stack;
        runs = λ rest. ap (λ l. run l (at_mode Begin (f ∷ s))) (append_assoc us vs rest) ∙ reach_else law d f s (vs ++ rest) ∙ r.runs rest;
        folds = r.folds ∙ ap (λ g. settle false g (f ∷ s)) whole;
        folds_else = λ k. r.folds_else k ∙ ap (λ g. settle true g (f ∷ s)) whole;
      }
  reach law (headed {b} {hd} {x} {m} {n} {us} {vs} d d') f s =
      let fr = frame.Headed (cut hd m) in
      let r = reach law d' fr (f ∷ s) in
      let whole = kept_both (λ v. Headed v.0 v.1) hd x m n in
      record {
        now = r.now;
        stack = r.stack;
        runs = λ rest. ap (λ l. run l (at_mode Begin (f ∷ s))) (append_assoc us vs rest) ∙ head_runs d (f ∷ s) (vs ++ rest) ∙ r.runs rest;
        folds = r.folds ∙ ap (λ g. settle false g (f ∷ s)) whole;
        folds_else = λ k. r.folds_else k ∙ ap (λ g. settle true g (f ∷ s)) whole;
      }
  reach law (do_while t c {b} {at} {x} {e} {m} {n} {us} {vs} te d cd ce) f s =
      let r = reach law d (frame.Do t.place) (f ∷ s) in
      let g = do_of (placed t.place (cut x m)) (cut e n) in
      simple false (Do t.place x e) (suc (max m n)) f s (t ∷ (us ++ (vs ++ c ∷ []))) g
      (ap (λ v. do_of v (cut e n)) (kept_cut (λ v. (t.place, v)) x m) ∙ kept_both (λ v. Do v.0.0 v.0.1 v.1) (t.place, x) e m n)
      (λ rest. step_to Begin (f ∷ s) t ((us ++ (vs ++ c ∷ [])) ++ rest) (goes Begin (frame.Do t.place ∷ f ∷ s)) (ap (λ v. begins v (f ∷ s) t) te)
      ∙ ap (λ l. run l (at_mode Begin (frame.Do t.place ∷ f ∷ s))) (append_assoc us (vs ++ c ∷ []) rest ∙ ap (λ l. us ++ l) (append_assoc vs (c ∷ []) rest))
      ∙ r.runs (vs ++ c ∷ rest)
      ∙ until_runs cd refl t.place r.now (cut x m) r.stack (f ∷ s) r.folds (c ∷ rest)
      ∙ ends_runs g (f ∷ s) c rest ce)
  reach law (break_statement t c te ce) f s =
      let g = statement_part (Break t.place) in
      simple false (Break t.place) 1 f s (t ∷ c ∷ []) g refl
      (λ rest. step_to Begin (f ∷ s) t (c ∷ rest) (goes (Ends g) (f ∷ s)) (ap (λ v. begins v (f ∷ s) t) te) ∙ ends_runs g (f ∷ s) c rest ce)
  reach law (continue_statement t c te ce) f s =
      let g = statement_part (Continue t.place) in
      simple false (Continue t.place) 1 f s (t ∷ c ∷ []) g refl
      (λ rest. step_to Begin (f ∷ s) t (c ∷ rest) (goes (Ends g) (f ∷ s)) (ap (λ v. begins v (f ∷ s) t) te) ∙ ends_runs g (f ∷ s) c rest ce)
  reach law (return_statement t c {e} {h} {ts} te d ce) f s =
      simple false (Return t.place e) (suc h) f s (t ∷ (ts ++ c ∷ [])) (return_of t.place (cut e h)) (kept_taller (Return t.place) e h)
      (λ rest. step_to Begin (f ∷ s) t ((ts ++ c ∷ []) ++ rest) (goes (May (optional.Return t.place)) (f ∷ s)) (ap (λ v. begins v (f ∷ s) t) te)
      ∙ ap (λ l. run l (at_mode (May (optional.Return t.place)) (f ∷ s))) (append_assoc ts (c ∷ []) rest)
      ∙ maybe_runs (optional.Return t.place) (f ∷ s) d c rest (ap (is_closer closer.Semicolon) ce))

  reach_else : LocalEnds → {p : (Place × Tree) × StatementTree} {h : ℕ} {ts : List Terminal} → IsElse p h ts → (f : Frame) (s : List Frame) (rest : List Terminal)
      → run (ts ++ rest) (at_mode Begin (f ∷ s)) ≡ run rest (at_mode Begin (frame.Else (cut p h) ∷ f ∷ s))
  reach_else law (up_to_else l {at} {e} {x} {m} {n} {us} {vs} cd d le) f s rest =
      let fr = frame.If (cut (at, e) m) in
      let r = reach law d fr (f ∷ s) in
      ap (λ k. run k (at_mode Begin (f ∷ s))) (append_assoc us (vs ++ l ∷ []) rest ∙ ap (λ k. us ++ k) (append_assoc vs (l ∷ []) rest))
      ∙ control_runs cd (f ∷ s) (vs ++ l ∷ rest)
      ∙ ap (λ v. run (vs ++ l ∷ rest) (at_mode Begin (frame.If v ∷ f ∷ s))) (kept_cut (λ v. (at, v)) e m)
      ∙ r.runs (l ∷ rest)
      ∙ step_to (After r.now) r.stack l rest (goes Begin (frame.Else (paired (cut (at, e) m) (cut x n)) ∷ f ∷ s))
      (ap (λ y. after y r.now r.stack l) le ∙ ap on_else (r.folds_else refl))
      ∙ ap (λ v. run rest (at_mode Begin (frame.Else v ∷ f ∷ s))) (paired_cut (at, e) x m n)

  reach_block : LocalEnds → {x : StatementTree} {h : ℕ} {ts : List Terminal} → IsBlock x h ts → (f : Frame) (s : List Frame) (rest : List Terminal)
      → run (ts ++ rest) (at_mode Begin (f ∷ s)) ≡ run rest (at_mode (After (cut x h)) (f ∷ s))
  reach_block law (closed c {b} {h} {ts} d ce) f s rest =
      let r = reach_begun law d (f ∷ s) in
      ap (λ l. run l (at_mode Begin (f ∷ s))) (append_assoc ts (c ∷ []) rest)
      ∙ r.runs (c ∷ rest)
      ∙ ap (on_next rest) (r.goes_on c (ap starts_local ce) (λ e. true_false (sym (ap is_brace ce) ∙ ap is_brace e)) ∙ ap (λ v. inside v (cut b h) (f ∷ s) c) ce)
      ∙ ap (λ v. run rest (at_mode (After v) (f ∷ s))) (kept_taller (λ v. Closed v c.place) b h)

  reach_begun : LocalEnds → {x : StatementTree} {h : ℕ} {ts : List Terminal} → IsBegun x h ts → (s : List Frame) → ReachedBlock x h s ts
  reach_begun law (only_declarations {x} {h} {ts} d) s =
      record {
        state = at_mode (Items (cut x h)) s;
        runs = opened_runs law d s;
        goes_on = λ t differs _. if_false (starts_local t.symbol) _ _ differs;
      }
  reach_begun law (next_statement {b} {x} {x'} {m} {n} {us} {vs} d d') s =
      let r = reach_begun law d s in
      let r' = reach law d' (frame.Block (cut x m)) s in
      record {
        state = at_mode (After r'.now) r'.stack;
        runs = λ rest. ap (λ l. run l (at_mode Begin s)) (append_assoc us vs rest)
            ∙ r.runs (vs ++ rest)
            ∙ same_first r.state (cut x m) s r.goes_on vs rest r'.stack r'.now (ap (λ l. run l (at_mode Begin (frame.Block (cut x m) ∷ s))) (sym (append-nil vs)) ∙ r'.runs [])
            ∙ r'.runs rest;
        goes_on = λ t _ differs. not_else t.symbol r'.now r'.stack t differs
            ∙ ap (λ v. behind v t) r'.folds
            ∙ ap (λ v. inside t.symbol v s t) (ap (λ p. kept (λ v. Also v.0 v.1) (paired (cut x m) p)) (taller_cut x' n) ∙ kept_paired (λ v. Also v.0 v.1) x x' m (suc n));
      }

-- a function's body is read to its `}`
pub body_runs : LocalEnds → {x : StatementTree} {h : ℕ} {ts : List Terminal} → IsBlock x h ts → run ts start_block ≡ goes (Done (cut x h)) []
body_runs law (closed c {b} {h} {ts} d ce) =
    let r = reach_begun law d [] in
    r.runs (c ∷ [])
    ∙ ap (on_next []) (r.goes_on c (ap starts_local ce) (λ e. true_false (sym (ap is_brace ce) ∙ ap is_brace e)) ∙ ap (λ v. inside v (cut b h) [] c) ce)
    ∙ ap (λ v. goes (Done v) []) (kept_taller (λ v. Closed v c.place) b h)
