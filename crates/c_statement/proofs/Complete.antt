-- Where tokens are a statement, they are read, and so is what follows them.
use Rattle.std.proofs.Common.{◌≡◌, ℕ, suc, max, Bool, true, false, List, [], ◌∷◌, ◌++◌, Option, Some, None, refl, sym, ◌∙◌, ap, ap₂, append_assoc, append-nil}
use Rattle.std.specs.Prelude.{if◌then◌else◌}
use Rattle.c_lex.specs.declared.token.Place.{Place}
use Rattle.c_lex.specs.declared.keyword.Keyword.{Keyword}
use Rattle.c_lex.specs.declared.keyword.Keyword.TheVariants as word
use Rattle.c_symbol.specs.declared.terminal.Terminal.{Terminal}
use Rattle.c_symbol.specs.declared.symbol.Symbol.{Symbol}
use Rattle.c_symbol.specs.declared.symbol.Symbol.TheVariants as symbol
use Rattle.c_trees.specs.Expressions.{Tree}
use Rattle.c_expr.specs.Grammar.{IsExpr}
use Rattle.c_expr.specs.declared.grown.Grown.{Grown}
use Rattle.c_expr.specs.declared.frame.Least.{Least}
use Rattle.c_expr.specs.declared.frame.Least.TheVariants.{Expression, Assignment, Constant}
use Rattle.c_expr.specs.declared.state.Parser.{Parser}
use Rattle.c_expr.specs.declared.inside.Offered.{Offered}
use Rattle.c_expr.specs.declared.inside.Offered.TheVariants as offered
use Rattle.c_expr.specs.Frames.{least_of}
use Rattle.c_expr.specs.Machine.{start}
use Rattle.c_expr.specs.Inside.{closes, offer, until as read_until}
use Rattle.c_expr.proofs.Embedded.{ends_there}
use Rattle.c_declaration.specs.declared.built.Built.{Built}
use Rattle.c_declaration.specs.Grown.{cut}
use Rattle.c_trees.specs.declared.statement.Head.{Head}
use Rattle.c_trees.specs.declared.statement.Head.TheVariants as head
use Rattle.c_statement.specs.declared.state.Control.{Control}
use Rattle.c_statement.specs.declared.state.Control.TheVariants as control
use Rattle.c_statement.specs.declared.state.Frame.{Frame}
use Rattle.c_statement.specs.declared.state.Frame.TheVariants as frame
use Rattle.c_statement.specs.declared.state.Required.TheVariants as required
use Rattle.c_statement.specs.declared.state.Optional.{Optional}
use Rattle.c_statement.specs.declared.state.Optional.TheVariants as optional
use Rattle.c_statement.specs.declared.state.Purpose.{Purpose}
use Rattle.c_statement.specs.declared.state.Purpose.TheVariants.{Must, May as Maybe}
use Rattle.c_statement.specs.declared.state.Opener.TheVariants as opener
use Rattle.c_statement.specs.declared.state.Closer.{Closer}
use Rattle.c_statement.specs.declared.state.Closer.TheVariants as closer
use Rattle.c_statement.specs.declared.state.Mode.{Mode}
use Rattle.c_statement.specs.declared.state.Mode.TheVariants.{Begin, Items, Declaring, After, Done, Paren, Ends, Colon, May, Value}
use Rattle.c_statement.specs.declared.state.Reader.{Reader}
use Rattle.c_trees.specs.Statements.{StatementTree, Empty, Evaluate, Begun, Declares, Also, Closed, If, IfElse, Headed, Do, Break, Continue, Return}
use Rattle.c_statement.specs.Parts.{kept, taller, paired, expr_part, absent_part, present_part, statement_part, placed, evaluate_of, return_of, if_of, if_else_of, headed_of, do_of, for_of, begun_of, declares_of, also_of, closed_of}
use Rattle.c_statement.specs.Grammar.{IsWord, IsOptional, absent, present, keyword_of, IsControl, controlled, IsHead, while_head, switch_head, for_head, case_head, default_head}
use Rattle.c_statement.specs.Machine.{Next, goes, least_for, closer_of, is_closer, control_frame, with_optional, used, valued, value_begins, waits, keyword, begins, paren, colon, maybe, shift_mode, run}
use Rattle.c_statement.proofs.Heights.{if_true, if_false, kept_cut, expr_part_cut, paired_cut, kept_paired}
use Rattle.c_statement.proofs.Beginnings.{true_false, got, none_found, no_value, closes_closer, answered, first_value, not_closer, begin_value}

abbrev pub at_mode : Mode → List Frame → Reader
at_mode mode s = record { stack = s; mode = mode }

abbrev pub on_next : List Terminal → Next → Next
on_next ts next = elim next [ None ↦ None | Some q ↦ run ts q ]

-- one token
pub step_to : (mode : Mode) (s : List Frame) (t : Terminal) (ts : List Terminal) (next : Next) → shift_mode mode s t ≡ next → run (t ∷ ts) (at_mode mode s) ≡ on_next ts next
step_to mode s t ts next e = ap (on_next ts) e

-- what is read once an expression has ended before some tokens
abbrev ended_at : Purpose → List Frame → Grown → List Terminal → Next
ended_at p s g [] = None
ended_at p s g (t ∷ ts) = on_next ts (if is_closer (closer_of p) t.symbol then used p (expr_part g.tree) s else None)

ended_is : (p : Purpose) (s : List Frame) (g g' : Grown) (l l' : List Terminal) → got g l ≡ got g' l' → ended_at p s g l ≡ ended_at p s g' l'
ended_is p s g g' l l' e =
    let one : Grown × List Terminal = (g, l) in
    let other : Grown × List Terminal = (g', l') in
    let both : one ≡ other = cc in
    ap₂ (ended_at p s) (ap (λ x. x.0) both) (ap (λ x. x.1) both)

value_by : (p : Purpose) (s : List Frame) (t : Terminal) (ts : List Terminal) (g : Grown) (l : List Terminal)
    → ((r : Parser) → read_until (least_for p) ts r ≡ Some (g, l) → run ts (at_mode (Value p r) s) ≡ ended_at p s g l)
    → (o : Option Offered) → answered (least_for p) t ts o ≡ Some (g, l) → on_next ts (valued p s t.symbol o) ≡ ended_at p s g l
value_by p s t ts g l ih None e = absurd (none_found g l e)
value_by p s t ts g l ih (Some (offered.Goes r)) e = ih r e
value_by p s t ts g l ih (Some (offered.Ends g')) e = ended_is p s g' g (t ∷ ts) l e

value_runs : (p : Purpose) (s : List Frame) (all : List Terminal) (q : Parser) (g : Grown) (l : List Terminal)
    → read_until (least_for p) all q ≡ Some (g, l) → run all (at_mode (Value p q) s) ≡ ended_at p s g l
value_runs p s [] q g l e = absurd (none_found g l e)
value_runs p s (t ∷ ts) q g l e = value_by p s t ts g l (λ r k. value_runs p s ts r g l k) (offer (least_for p) q t) e

-- an expression, and the token behind it
pub expr_runs : (p : Purpose) (s : List Frame) {e : Tree} {at : Place} {h : ℕ} {ts : List Terminal} → IsExpr (least_of (least_for p)) e at h ts → (c : Terminal) (rest : List Terminal)
    → is_closer (closer_of p) c.symbol ≡ true → run (ts ++ c ∷ rest) (at_mode (Value p (start (least_for p))) s) ≡ on_next rest (used p (cut e h) s)
expr_runs p s {e} {at} {h} {ts} d c rest k =
    let r = ends_there (least_for p) e at h ts d c rest (closes_closer (least_for p) (closer_of p) c.symbol k) in
    value_runs p s (ts ++ c ∷ rest) (start (least_for p)) r.0 (c ∷ rest) r.1
    ∙ ap (on_next rest) (if_true (is_closer (closer_of p) c.symbol) (used p (expr_part r.0.tree) s) None k)
    ∙ ap (λ x. on_next rest (used p x s)) (ap expr_part r.3 ∙ expr_part_cut e h)

-- an expression that may be absent, and the token behind it
same_first : (o : Optional) (s : List Frame) (all : List Terminal) (g : Grown) (l : List Terminal) → read_until Expression all (start Expression) ≡ Some (g, l)
    → run all (at_mode (May o) s) ≡ run all (at_mode (Value (Maybe o) (start Expression)) s)
same_first o s [] g l e = absurd (none_found g l e)
same_first o s (t ∷ ts) g l e = ap (on_next ts) (if_false (is_closer (closer_of (Maybe o)) t.symbol) _ _ (not_closer (closer_of (Maybe o)) t.symbol (first_value Expression t ts g l e)))

pub maybe_runs : (o : Optional) (s : List Frame) {e : Option Tree} {h : ℕ} {ts : List Terminal} → IsOptional e h ts → (c : Terminal) (rest : List Terminal)
    → is_closer (closer_of (Maybe o)) c.symbol ≡ true → run (ts ++ c ∷ rest) (at_mode (May o) s) ≡ on_next rest (with_optional o (cut e h) s)
maybe_runs o s absent c rest k = ap (on_next rest) (if_true (is_closer (closer_of (Maybe o)) c.symbol) _ _ k)
maybe_runs o s (present {e} {at} {h} {ts} d) c rest k =
    let r = ends_there Expression e at h ts d c rest (closes_closer Expression (closer_of (Maybe o)) c.symbol k) in
    same_first o s (ts ++ c ∷ rest) r.0 (c ∷ rest) r.1
    ∙ expr_runs (Maybe o) s d c rest k
    ∙ ap (λ x. on_next rest (with_optional o x s)) (kept_cut Some e h)

-- an expression where a statement begins
same_begin : (s : List Frame) (all : List Terminal) (g : Grown) (l : List Terminal) → read_until Expression all (start Expression) ≡ Some (g, l)
    → run all (at_mode Begin s) ≡ run all (at_mode (Value (Must required.Evaluate) (start Expression)) s)
same_begin s [] g l e = absurd (none_found g l e)
same_begin s (t ∷ ts) g l e = ap (on_next ts) (begin_value t.symbol s t (first_value Expression t ts g l e))

pub evaluate_runs : (s : List Frame) {e : Tree} {at : Place} {h : ℕ} {ts : List Terminal} → IsExpr 1 e at h ts → (c : Terminal) (rest : List Terminal)
    → c.symbol ≡ symbol.Semicolon → run (ts ++ c ∷ rest) (at_mode Begin s) ≡ run rest (at_mode (After (evaluate_of (cut e h))) s)
evaluate_runs s {e} {at} {h} {ts} d c rest k =
    let closes_it = ap (is_closer closer.Semicolon) k in
    let r = ends_there Expression e at h ts d c rest (closes_closer Expression closer.Semicolon c.symbol closes_it) in
    same_begin s (ts ++ c ∷ rest) r.0 (c ∷ rest) r.1 ∙ expr_runs (Must required.Evaluate) s d c rest closes_it

-- `if`, `while` or `switch` and its controlling expression
begins_control : (k : Control) (at : Place) (s : List Frame) → keyword (keyword_of k) at s ≡ goes (Paren (opener.Control k at)) s
begins_control control.If at s = refl
begins_control control.While at s = refl
begins_control control.Switch at s = refl

pub control_runs : {k : Control} {p : Place × Tree} {h : ℕ} {us : List Terminal} → IsControl k p h us → (s : List Frame) (rest : List Terminal)
    → run (us ++ rest) (at_mode Begin s) ≡ run rest (at_mode Begin (control_frame k p.0 (cut p.1 h) ∷ s))
control_runs (controlled k t o c {e} {at} {h} {ts} te oe d ce) s rest =
    let p = Must (required.Control k t.place) in
    step_to Begin s t (o ∷ ((ts ++ c ∷ []) ++ rest)) (goes (Paren (opener.Control k t.place)) s) (ap (λ y. begins y s t) te ∙ begins_control k t.place s)
    ∙ step_to (Paren (opener.Control k t.place)) s o ((ts ++ c ∷ []) ++ rest) (waits (required.Control k t.place) s) (ap (λ y. paren y (opener.Control k t.place) s) oe)
    ∙ ap (λ l. run l (at_mode (Value p (start Expression)) s)) (append_assoc ts (c ∷ []) rest)
    ∙ expr_runs p s d c rest (ap (is_closer closer.Paren) ce)

-- what stands before the statement of a loop, a `switch` or a label
pub head_runs : {hd : Head} {h : ℕ} {us : List Terminal} → IsHead hd h us → (s : List Frame) (rest : List Terminal)
    → run (us ++ rest) (at_mode Begin s) ≡ run rest (at_mode Begin (frame.Headed (cut hd h) ∷ s))
head_runs (while_head {at} {e} {h} {ts} d) s rest = control_runs d s rest ∙ ap (λ x. run rest (at_mode Begin (frame.Headed x ∷ s))) (kept_cut (head.While at) e h)
head_runs (switch_head {at} {e} {h} {ts} d) s rest = control_runs d s rest ∙ ap (λ x. run rest (at_mode Begin (frame.Headed x ∷ s))) (kept_cut (head.Switch at) e h)
head_runs (for_head t o y z c {d} {e} {f} {k} {m} {n} {us} {vs} {ws} te oe dd ye de ze df ce) s rest =
    let first = optional.First t.place in
    let second = optional.Second (placed t.place (cut d k)) in
    let third = optional.Third (paired (placed t.place (cut d k)) (cut e m)) in
    let parts = kept_cut (λ x. (t.place, x)) d k in
    let before = ap (λ x. paired x (cut e m)) parts ∙ paired_cut (t.place, d) e k m in
    step_to Begin s t (o ∷ ((us ++ y ∷ (vs ++ z ∷ (ws ++ c ∷ []))) ++ rest)) (goes (Paren (opener.For t.place)) s) (ap (λ v. begins v s t) te)
    ∙ step_to (Paren (opener.For t.place)) s o ((us ++ y ∷ (vs ++ z ∷ (ws ++ c ∷ []))) ++ rest) (goes (May first) s) (ap (λ v. paren v (opener.For t.place) s) oe)
    ∙ ap (λ l. run l (at_mode (May first) s))
    (append_assoc us (y ∷ (vs ++ z ∷ (ws ++ c ∷ []))) rest ∙ ap (λ l. us ++ y ∷ l) (append_assoc vs (z ∷ (ws ++ c ∷ [])) rest ∙ ap (λ l. vs ++ z ∷ l) (append_assoc ws (c ∷ []) rest)))
    ∙ maybe_runs first s dd y (vs ++ z ∷ (ws ++ c ∷ rest)) (ap (is_closer closer.Semicolon) ye)
    ∙ maybe_runs second s de z (ws ++ c ∷ rest) (ap (is_closer closer.Semicolon) ze)
    ∙ maybe_runs third s df c rest (ap (is_closer closer.Paren) ce)
    ∙ ap (λ x. run rest (at_mode Begin (frame.Headed x ∷ s))) (ap (λ x. for_of x (cut f n)) before ∙ kept_paired (λ x. head.For x.0.0.0 x.0.0.1 x.0.1 x.1) ((t.place, d), e) f (max k m) n)
head_runs (case_head t c {e} {at} {h} {ts} te d ce) s rest =
    let p = Must (required.Case t.place) in
    step_to Begin s t ((ts ++ c ∷ []) ++ rest) (waits (required.Case t.place) s) (ap (λ v. begins v s t) te)
    ∙ ap (λ l. run l (at_mode (Value p (start Constant)) s)) (append_assoc ts (c ∷ []) rest)
    ∙ expr_runs p s d c rest (ap (is_closer closer.Colon) ce)
    ∙ ap (λ x. run rest (at_mode Begin (frame.Headed x ∷ s))) (kept_cut (head.Case t.place) e h)
head_runs (default_head t c te ce) s rest =
    step_to Begin s t (c ∷ rest) (goes (Colon t.place) s) (ap (λ v. begins v s t) te)
    ∙ step_to (Colon t.place) s c rest _ (ap (λ v. colon v t.place s) ce)
