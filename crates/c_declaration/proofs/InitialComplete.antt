-- Where tokens are an initializer, they are read, whatever stands around it.
use Rattle.std.proofs.Common.{◌≡◌, ℕ, suc, ◌+◌, max, Bool, true, false, List, [], ◌∷◌, ◌++◌, Option, Some, None, refl, sym, ◌∙◌, ap, ap₂, subst, append_assoc, add-one, arith}
use Rattle.std.specs.Prelude.{if◌then◌else◌, drop}
use Rattle.c_lex.specs.declared.token.Place.{Place}
use Rattle.c_symbol.specs.declared.terminal.Terminal.{Terminal}
use Rattle.c_symbol.specs.declared.symbol.BinaryOp.TheVariants.{Comma}
use Rattle.c_symbol.specs.declared.symbol.Symbol.{Symbol}
use Rattle.c_symbol.specs.declared.symbol.Symbol.TheVariants.{Binary, OpenBrace, CloseBrace, Semicolon}
use Rattle.c_expr.specs.First.{first}
use Rattle.c_expr.specs.Machine.{start}
use Rattle.c_expr.specs.Inside.{closes, offer}
use Rattle.c_trees.specs.Expressions.{Tree}
use Rattle.c_expr.specs.Grammar.{IsExpr}
use Rattle.c_expr.specs.declared.frame.Least.TheVariants.{Assignment}
use Rattle.c_expr.specs.declared.inside.Offered.{Offered}
use Rattle.c_expr.specs.declared.inside.Offered.TheVariants as offered
use Rattle.c_expr.specs.declared.state.Parser.{Parser}
use Rattle.c_expr.specs.declared.grown.Grown.{Grown}
use Rattle.c_trees.specs.Initializers.{InitialTree, Value, Braces, Item}
use Rattle.c_declaration.specs.declared.built.Built.{Built}
use Rattle.c_declaration.specs.declared.state.OpenBraces.{OpenBraces}
use Rattle.c_declaration.specs.declared.state.InitialMode.{InitialMode}
use Rattle.c_declaration.specs.declared.state.InitialMode.TheVariants as mode
use Rattle.c_declaration.specs.declared.state.InitialParser.{InitialParser}
use Rattle.c_declaration.specs.declared.step.Step.{Step}
use Rattle.c_declaration.specs.declared.step.Step.TheVariants.{Goes, Ends}
use Rattle.c_declaration.specs.Feeding.{feed}
use Rattle.c_declaration.specs.Grown.{cut, expr_of, value_of, braces_of, item_of, itself, closed_of}
use Rattle.c_declaration.specs.Grammar.{Is, IsInitial, value, braces, braces_comma, AreItems, first_item, next_item}
use Rattle.c_declaration.specs.InitialReading.{Next, goes, braces_with, done, value_offered, valuing, is_open_brace, wanting, closed, is_close_brace, another, initial_offer, initial_start}
use Rattle.c_declaration.specs.Laws.{InitialEnds}
use Rattle.c_declaration.proofs.Pieces.{grow_cut, grow_list_cut, expr_cut, value_cut}
use Rattle.c_declaration.proofs.Fed.{onward, one_step, then_step, inside}
use Rattle.c_declaration.proofs.Expressions.{as_step, expr_offer, Read, ReadExpr, expr_ends}

abbrev pub at_mode : InitialMode → List OpenBraces → InitialParser
at_mode m s = record { stack = s; mode = m }

abbrev run : List Terminal → InitialMode → List OpenBraces → Next
run ts m s = feed initial_offer ts (Goes (at_mode m s))

true_false : true ≡ false → ⊥
true_false e = cc

-- an expression begins with no brace
pub open_brace : (y : Symbol) → is_open_brace y ≡ true → y ≡ OpenBrace
open_brace OpenBrace e = refl
open_brace _ e = absurd (true_false (sym e))

pub close_brace : (y : Symbol) → is_close_brace y ≡ true → y ≡ CloseBrace
close_brace CloseBrace e = refl
close_brace _ e = absurd (true_false (sym e))

abbrev begun_by : Terminal → Symbol → Option Offered
begun_by t y = offer Assignment (start Assignment) (record { symbol = y; place = t.place; text = t.text })

no_open : (t : Terminal) → Is t OpenBrace → offer Assignment (start Assignment) t ≡ None
no_open t e = ap (begun_by t) e

no_close : (t : Terminal) → Is t CloseBrace → offer Assignment (start Assignment) t ≡ None
no_close t e = ap (begun_by t) e

no_end : (t : Terminal) → Is t Semicolon → offer Assignment (start Assignment) t ≡ None
no_end t e = ap (begun_by t) e

-- some token behind an expression
abbrev a_semicolon : Terminal
a_semicolon = record { symbol = Semicolon; place = record { at = 0; line = 0; column = 0 }; text = [] }

none_goes : (ts : List Terminal) (q : Parser) (o : Option Offered) → o ≡ None → onward (expr_offer Assignment) ts (as_step o) ≡ Some (Goes q) → ⊥
none_goes ts q None e k = cc
none_goes ts q (Some a) e k = cc

none_ends : (o : Option Offered) (g : Grown) → o ≡ None → o ≡ Some (offered.Ends g) → ⊥
none_ends o g e k = cc

pub record Begins (ts : List Terminal) : Type 0 where
  pub token : Terminal
  pub rest : List Terminal
  pub all : ts ≡ token ∷ rest
  pub no_open_brace : is_open_brace token.symbol ≡ false
  pub no_close_brace : is_close_brace token.symbol ≡ false

is_false : (b : Bool) → (b ≡ true → ⊥) → b ≡ false
is_false true never = absurd (never refl)
is_false false never = refl

begins_by : (ts : List Terminal) (g : Grown) → Read Assignment ts a_semicolon (start Assignment) g → Begins ts
begins_by [] g r =
    let same : start Assignment ≡ r.now = cc in
    absurd (none_ends (offer Assignment (start Assignment) a_semicolon) g (no_end a_semicolon refl) (ap (λ p. offer Assignment p a_semicolon) same ∙ r.ends))
begins_by (t ∷ ts) g r =
    record {
      token = t;
      rest = ts;
      all = refl;
      no_open_brace = is_false (is_open_brace t.symbol) (λ e. none_goes ts r.now (offer Assignment (start Assignment) t) (no_open t (open_brace t.symbol e)) r.goes);
      no_close_brace = is_false (is_close_brace t.symbol) (λ e. none_goes ts r.now (offer Assignment (start Assignment) t) (no_close t (close_brace t.symbol e)) r.goes);
    }

expr_begins : {e : Tree} {at : Place} {h : ℕ} {ts : List Terminal} → IsExpr 2 e at h ts → Begins ts
expr_begins {e} {at} {h} {ts} d = let r = expr_ends Assignment d a_semicolon refl in begins_by ts r.grown r.read

-- an initializer begins with no }
pub record Starts (ts : List Terminal) : Type 0 where
  pub token : Terminal
  pub rest : List Terminal
  pub all : ts ≡ token ∷ rest
  pub no_close_brace : is_close_brace token.symbol ≡ false

more_starts : (us vs : List Terminal) → Starts us → Starts (us ++ vs)
more_starts us vs d = record { token = d.token; rest = d.rest ++ vs; all = ap (λ l. l ++ vs) d.all; no_close_brace = d.no_close_brace }

mutual
  initial_starts : {i : InitialTree} {h : ℕ} {ts : List Terminal} → IsInitial i h ts → Starts ts
  initial_starts (value d) = let b = expr_begins d in record { token = b.token; rest = b.rest; all = b.all; no_close_brace = b.no_close_brace }
  initial_starts (braces c {i} {h} {ts} is ce) = more_starts ts (c ∷ []) (items_start is)
  initial_starts (braces_comma t c {i} {h} {ts} is te ce) = more_starts ts (t ∷ c ∷ []) (items_start is)

  items_start : {i : InitialTree} {h : ℕ} {ts : List Terminal} → AreItems i h ts → Starts ts
  items_start (first_item o {i} {h} {ts} oe d) = record { token = o; rest = ts; all = refl; no_close_brace = ap is_close_brace oe }
  items_start (next_item t {i} {j} {m} {n} {us} {vs} is te d) = more_starts us (t ∷ vs) (items_start is)

-- expressions
goes_as : (o : Option Offered) (r : Parser) → as_step o ≡ Some (Goes r) → o ≡ Some (offered.Goes r)
goes_as None r e = cc
goes_as (Some (offered.Goes q)) r e = cc
goes_as (Some (offered.Ends g)) r e = cc

pub value_inside : (s : List OpenBraces) (p : Parser) (t : Terminal) (r : Parser) → expr_offer Assignment p t ≡ Some (Goes r) → initial_offer (at_mode (mode.Value p) s) t ≡ goes (mode.Value r) s
value_inside s p t r e = ap (value_offered s t.symbol) (goes_as (offer Assignment p t) r e)

abbrev wanting_at : List OpenBraces → Terminal → Bool → Next
wanting_at s t v = if v then goes mode.Want (braces_with (braces_of t.place) ∷ s) else valuing s (start Assignment) t

abbrev another_at : List OpenBraces → Terminal → Bool → Next
another_at s t v = if v then closed (first s) (drop 1 s) else wanting s t

pub value_begins : (s : List OpenBraces) (t : Terminal) (ts : List Terminal) → is_open_brace t.symbol ≡ false → run (t ∷ ts) mode.Want s ≡ run (t ∷ ts) (mode.Value (start Assignment)) s
value_begins s t ts e = ap (λ v. onward initial_offer ts (wanting_at s t v)) e

another_begins : (s : List OpenBraces) (t : Terminal) (ts : List Terminal) → is_close_brace t.symbol ≡ false → run (t ∷ ts) mode.Another s ≡ run (t ∷ ts) mode.Want s
another_begins s t ts e = ap (λ v. onward initial_offer ts (another_at s t v)) e

another_run : (s : List OpenBraces) (ts rest : List Terminal) → Starts ts → run (ts ++ rest) mode.Another s ≡ run (ts ++ rest) mode.Want s
another_run s ts rest d =
    ap (λ l. run (l ++ rest) mode.Another s) d.all ∙ another_begins s d.token (d.rest ++ rest) d.no_close_brace ∙ ap (λ l. run (l ++ rest) mode.Want s) (sym d.all)

value_run : (s : List OpenBraces) (ts rest : List Terminal) → Begins ts → run (ts ++ rest) mode.Want s ≡ run (ts ++ rest) (mode.Value (start Assignment)) s
value_run s ts rest d =
    ap (λ l. run (l ++ rest) mode.Want s) d.all ∙ value_begins s d.token (d.rest ++ rest) d.no_open_brace ∙ ap (λ l. run (l ++ rest) (mode.Value (start Assignment)) s) (sym d.all)

value_fed : (s : List OpenBraces) (ts rest : List Terminal) (q : Parser) → feed (expr_offer Assignment) ts (Goes (start Assignment)) ≡ Some (Goes q)
    → run (ts ++ rest) (mode.Value (start Assignment)) s ≡ run rest (mode.Value q) s
value_fed s ts rest q e =
    then_step initial_offer ts rest (Goes (at_mode (mode.Value (start Assignment)) s)) (goes (mode.Value q) s)
    (inside (expr_offer Assignment) initial_offer (λ p. at_mode (mode.Value p) s) (value_inside s) ts (start Assignment) q e)

open_step : (s : List OpenBraces) (o : Terminal) (ts : List Terminal) → Is o OpenBrace → run (o ∷ ts) mode.Want s ≡ run ts mode.Want (braces_with (braces_of o.place) ∷ s)
open_step s o ts e = one_step initial_offer (at_mode mode.Want s) o ts (goes mode.Want (braces_with (braces_of o.place) ∷ s)) (ap (λ y. wanting_at s o (is_open_brace y)) e)

close_step : (f : OpenBraces) (s : List OpenBraces) (c : Terminal) (ts : List Terminal) → Is c CloseBrace → run (c ∷ ts) mode.Another (f ∷ s) ≡ run ts (mode.Done (closed_of f.list)) s
close_step f s c ts e = one_step initial_offer (at_mode mode.Another (f ∷ s)) c ts (goes (mode.Done (closed_of f.list)) s) (ap (λ y. another_at (f ∷ s) c (is_close_brace y)) e)

-- what stands for the tokens of an initializer before a token that ends it
record Reached (i : InitialTree) (h : ℕ) (s : List OpenBraces) (ts : List Terminal) (t : Terminal) : Type 0 where
  now : InitialMode
  stack : List OpenBraces
  runs : (rest : List Terminal) → run (ts ++ rest) mode.Want s ≡ run rest now stack
  ends : initial_offer (at_mode now stack) t ≡ done (first s) t.symbol (cut i h) (drop 1 s)

record ReachedItems (i : InitialTree) (h : ℕ) (s : List OpenBraces) (ts : List Terminal) (t : Terminal) : Type 0 where
  now : InitialMode
  stack : List OpenBraces
  list : OpenBraces
  item : Option (Built InitialTree)
  runs : (rest : List Terminal) → run (ts ++ rest) mode.Want s ≡ run rest now stack
  ends : initial_offer (at_mode now stack) t ≡ done (Some list) t.symbol item s
  is : item_of list.list item ≡ cut i h

comma_closes : (t : Terminal) → Is t (Binary Comma) → closes Assignment t.symbol ≡ true
comma_closes t e = ap (closes Assignment) e

brace_closes : (t : Terminal) → Is t CloseBrace → closes Assignment t.symbol ≡ true
brace_closes t e = ap (closes Assignment) e

pub max_zero : (h : ℕ) → max 0 (h + 1) ≡ suc h
max_zero h = omega arith

mutual
  reach : {i : InitialTree} {h : ℕ} {ts : List Terminal} → IsInitial i h ts → (s : List OpenBraces) (t : Terminal) → closes Assignment t.symbol ≡ true → Reached i h s ts t
  reach (value {e} {at} {h} {ts} d) s t k =
      let r = expr_ends Assignment d t k in
      let q = r.read.now in
      let g = r.grown in
      record {
        now = mode.Value q;
        stack = s;
        runs = λ rest. value_run s ts rest (expr_begins d) ∙ value_fed s ts rest q r.read.goes;
        ends = ap (value_offered s t.symbol) r.read.ends
            ∙ ap (λ v. done (first s) t.symbol (value_of (expr_of v)) (drop 1 s)) r.tree
            ∙ ap (λ v. done (first s) t.symbol (value_of v) (drop 1 s)) (expr_cut e h)
            ∙ ap (λ v. done (first s) t.symbol v (drop 1 s)) (value_cut e h);
      }
  reach (braces c {i} {h} {ts} is ce) s t k =
      let r = reach_items is s c (brace_closes c ce) in
      record {
        now = mode.Done (cut i (suc h));
        stack = s;
        runs = λ rest. ap (λ l. run l mode.Want s) (append_assoc ts (c ∷ []) rest)
            ∙ r.runs (c ∷ rest)
            ∙ one_step initial_offer (at_mode r.now r.stack) c rest (goes (mode.Done (cut i (suc h))) s)
            (r.ends ∙ ap (λ y. done (Some r.list) y r.item s) ce ∙ ap (λ v. goes (mode.Done (closed_of v)) s) r.is ∙ ap (λ v. goes (mode.Done v) s) (grow_cut itself i h));
        ends = refl;
      }
  reach (braces_comma u c {i} {h} {ts} is ue ce) s t k =
      let r = reach_items is s u (comma_closes u ue) in
      record {
        now = mode.Done (cut i (suc h));
        stack = s;
        runs = λ rest. ap (λ l. run l mode.Want s) (append_assoc ts (u ∷ c ∷ []) rest)
            ∙ r.runs (u ∷ c ∷ rest)
            ∙ one_step initial_offer (at_mode r.now r.stack) u (c ∷ rest) (goes mode.Another (braces_with (cut i h) ∷ s))
            (r.ends ∙ ap (λ y. done (Some r.list) y r.item s) ue ∙ ap (λ v. goes mode.Another (braces_with v ∷ s)) r.is)
            ∙ close_step (braces_with (cut i h)) s c rest ce
            ∙ ap (λ v. run rest (mode.Done v) s) (grow_cut itself i h);
        ends = refl;
      }

  reach_items : {i : InitialTree} {h : ℕ} {ts : List Terminal} → AreItems i h ts → (s : List OpenBraces) (t : Terminal) → closes Assignment t.symbol ≡ true → ReachedItems i h s ts t
  reach_items (first_item o {i} {h} {ts} oe d) s t k =
      let f = braces_with (braces_of o.place) in
      let r = reach d (f ∷ s) t k in
      record {
        now = r.now;
        stack = r.stack;
        list = f;
        item = cut i h;
        runs = λ rest. open_step s o (ts ++ rest) oe ∙ r.runs rest;
        ends = r.ends;
        is = grow_list_cut 64 1 refl Item (Braces o.place) i 0 h ∙ ap (cut (Item (Braces o.place) i)) (max_zero h);
      }
  reach_items (next_item u {i} {j} {m} {n} {us} {vs} is ue d) s t k =
      let q = reach_items is s u (comma_closes u ue) in
      let f = braces_with (cut i m) in
      let r = reach d (f ∷ s) t k in
      record {
        now = r.now;
        stack = r.stack;
        list = f;
        item = cut j n;
        runs = λ rest. ap (λ l. run l mode.Want s) (append_assoc us (u ∷ vs) rest)
            ∙ q.runs (u ∷ (vs ++ rest))
            ∙ one_step initial_offer (at_mode q.now q.stack) u (vs ++ rest) (goes mode.Another (f ∷ s))
            (q.ends ∙ ap (λ y. done (Some q.list) y q.item s) ue ∙ ap (λ v. goes mode.Another (braces_with v ∷ s)) q.is)
            ∙ another_run (f ∷ s) vs rest (initial_starts d)
            ∙ r.runs rest;
        ends = r.ends;
        is = grow_list_cut 64 1 refl Item i j m n ∙ ap (λ l. cut (Item i j) (max m l)) (add-one n);
      }

pub initial_ends : InitialEnds
initial_ends i h ts t d k =
    let r = reach d [] t k in
    r.runs (t ∷ []) ∙ one_step initial_offer (at_mode r.now r.stack) t [] (Some (Ends (cut i h))) r.ends
