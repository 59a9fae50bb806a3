-- What is read is a block by the grammar.
use Rattle.std.proofs.Common.{◌≡◌, ℕ, suc, max, Bool, true, false, List, [], ◌∷◌, ◌++◌, Option, Some, None, refl, sym, ◌∙◌, ap, ap₂, subst, append_assoc, append-nil}
use Rattle.std.specs.Prelude.{if◌then◌else◌}
use Rattle.c_lex.specs.declared.token.Place.{Place}
use Rattle.c_lex.specs.declared.keyword.Keyword.{Keyword}
use Rattle.c_lex.specs.declared.keyword.Keyword.TheVariants as word
use Rattle.c_symbol.specs.declared.terminal.Terminal.{Terminal}
use Rattle.c_symbol.specs.declared.symbol.Symbol.{Symbol}
use Rattle.c_symbol.specs.declared.symbol.Symbol.TheVariants as symbol
use Rattle.c_trees.specs.Expressions.{Tree}
use Rattle.c_expr.specs.Grammar.{IsExpr}
use Rattle.c_expr.specs.declared.grown.Grown.{Grown}
use Rattle.c_expr.specs.declared.frame.Least.{Least}
use Rattle.c_expr.specs.declared.state.Parser.{Parser}
use Rattle.c_expr.specs.declared.inside.Offered.{Offered}
use Rattle.c_expr.specs.declared.inside.Offered.TheVariants as offered
use Rattle.c_expr.specs.Frames.{least_of}
use Rattle.c_expr.specs.Machine.{start}
use Rattle.c_expr.specs.Inside.{offer, until as read_until, Keeps}
use Rattle.c_expr.proofs.Embedded.{ends_behind}
use Rattle.c_declaration.specs.declared.built.Built.{Built}
use Rattle.c_declaration.specs.declared.step.Step.{Step}
use Rattle.c_declaration.specs.declared.step.Step.TheVariants as step
use Rattle.c_declaration.specs.declared.state.LocalParser.{LocalParser}
use Rattle.c_declaration.specs.declared.state.LocalParser.TheVariants as local
use Rattle.c_declaration.specs.declared.state.ReadLocal.{ReadLocal}
use Rattle.c_declaration.specs.Grown.{cut}
use Rattle.c_declaration.specs.Grammar.{Is}
use Rattle.c_declaration.specs.LocalReading.{local_offer}
use Rattle.c_declaration.specs.Feeding.{feed}
use Rattle.c_declaration.specs.Laws.{LocalIs, reading_local}
use Rattle.c_trees.specs.declared.statement.Head.{Head}
use Rattle.c_trees.specs.declared.statement.Head.TheVariants as head
use Rattle.c_statement.specs.declared.state.Control.{Control}
use Rattle.c_statement.specs.declared.state.Control.TheVariants as control
use Rattle.c_statement.specs.declared.state.Frame.{Frame}
use Rattle.c_statement.specs.declared.state.Frame.TheVariants as frame
use Rattle.c_statement.specs.declared.state.Required.{Required}
use Rattle.c_statement.specs.declared.state.Required.TheVariants as required
use Rattle.c_statement.specs.declared.state.Optional.{Optional}
use Rattle.c_statement.specs.declared.state.Optional.TheVariants as optional
use Rattle.c_statement.specs.declared.state.Purpose.{Purpose}
use Rattle.c_statement.specs.declared.state.Purpose.TheVariants.{Must, May as Maybe}
use Rattle.c_statement.specs.declared.state.Opener.{Opener}
use Rattle.c_statement.specs.declared.state.Opener.TheVariants as opener
use Rattle.c_statement.specs.declared.state.Closer.{Closer}
use Rattle.c_statement.specs.declared.state.Closer.TheVariants as closer
use Rattle.c_statement.specs.declared.state.Mode.{Mode}
use Rattle.c_statement.specs.declared.state.Mode.TheVariants.{Begin, Items, Declaring, After, Done, Paren, Ends, Colon, May, Value}
use Rattle.c_statement.specs.declared.state.Reader.{Reader}
use Rattle.c_trees.specs.Statements.{StatementTree, Empty, Evaluate, Begun, Declares, Also, Closed, If, IfElse, Headed, Do, Break, Continue, Return}
use Rattle.c_statement.specs.Parts.{kept, taller, paired, expr_part, present_part, placed, if_of, if_else_of, headed_of, do_of, for_of, declares_of, also_of, closed_of}
use Rattle.c_statement.specs.Grammar.{IsWord, IsOptional, absent, present, keyword_of, IsControl, controlled, IsHead, while_head, switch_head, for_head, case_head, default_head, IsOpened, opened, next_local, IsStatement, empty_statement, expression_statement, block, if_only, if_else, headed, do_while, break_statement, continue_statement, return_statement, IsElse, up_to_else, IsBlock, closed, IsBegun, only_declarations, next_statement}
use Rattle.c_statement.specs.Machine.{Next, goes, least_for, closer_of, is_closer, with_value, with_optional, used, valued, value_begins, waits, keyword, begins, ends_block, inside, declaring, starts_local, items, ends_before, plug, settle, on_else, until, behind, after, opens, paren, semicolon, colon, maybe, shift_mode, shift, run, start_block}
use Rattle.c_statement.proofs.Heights.{kept_cut, expr_part_cut, taller_cut, paired_cut, kept_taller, kept_paired, kept_both}
use Rattle.c_statement.proofs.Beginnings.{true_false, answered}

-- the tokens are a tree, of which this is the part that is kept
abbrev pub Stands : {T : Type 0} → (T → ℕ → List Terminal → Type 0) → Option (Built T) → List Terminal → Type 0
Stands {T} P g ts = (x : T) × (h : ℕ) × P x h ts × (g ≡ cut x h)

-- `do` and its statement
pub data IsDo : Place × StatementTree → ℕ → List Terminal → Type 0 where
  is_do : (t : Terminal) {b : Bool} {x : StatementTree} {h : ℕ} {ts : List Terminal} → IsWord t word.Do → IsStatement b x h ts → IsDo (t.place, x) h (t ∷ ts)

-- `for (` with one part and with two
pub data IsFirst : Place × Option Tree → ℕ → List Terminal → Type 0 where
  is_first : (t o y : Terminal) {d : Option Tree} {k : ℕ} {us : List Terminal} → IsWord t word.For → Is o symbol.OpenParen → IsOptional d k us → Is y symbol.Semicolon
      → IsFirst (t.place, d) k (t ∷ o ∷ (us ++ y ∷ []))

pub data IsSecond : (Place × Option Tree) × Option Tree → ℕ → List Terminal → Type 0 where
  is_second : (z : Terminal) {p : Place × Option Tree} {e : Option Tree} {m n : ℕ} {us vs : List Terminal} → IsFirst p m us → IsOptional e n vs → Is z symbol.Semicolon
      → IsSecond (p, e) (max m n) (us ++ (vs ++ z ∷ []))

-- what was read before an expression
pub data BeforeMust : Required → List Terminal → Type 0 where
  evaluates : BeforeMust required.Evaluate []
  controls : (k : Control) (t o : Terminal) → IsWord t (keyword_of k) → Is o symbol.OpenParen → BeforeMust (required.Control k t.place) (t ∷ o ∷ [])
  untils : (p : Option (Built (Place × StatementTree))) (w o : Terminal) (ts : List Terminal) → Stands IsDo p ts → IsWord w word.While → Is o symbol.OpenParen
      → BeforeMust (required.Until p) (ts ++ w ∷ o ∷ [])
  cases : (t : Terminal) → IsWord t word.Case → BeforeMust (required.Case t.place) (t ∷ [])

pub data BeforeMay : Optional → List Terminal → Type 0 where
  firsts : (t o : Terminal) → IsWord t word.For → Is o symbol.OpenParen → BeforeMay (optional.First t.place) (t ∷ o ∷ [])
  seconds : (p : Option (Built (Place × Option Tree))) (ts : List Terminal) → Stands IsFirst p ts → BeforeMay (optional.Second p) ts
  thirds : (p : Option (Built ((Place × Option Tree) × Option Tree))) (ts : List Terminal) → Stands IsSecond p ts → BeforeMay (optional.Third p) ts
  returns : (t : Terminal) → IsWord t word.Return → BeforeMay (optional.Return t.place) (t ∷ [])

abbrev pub Before : Purpose → List Terminal → Type 0
Before (Must r) ts = BeforeMust r ts
Before (Maybe o) ts = BeforeMay o ts

-- what was read before a `(`
pub data BeforeParen : Opener → List Terminal → Type 0 where
  paren_control : (k : Control) (t : Terminal) → IsWord t (keyword_of k) → BeforeParen (opener.Control k t.place) (t ∷ [])
  paren_until : (p : Option (Built (Place × StatementTree))) (w : Terminal) (ts : List Terminal) → Stands IsDo p ts → IsWord w word.While → BeforeParen (opener.Until p) (ts ++ w ∷ [])
  paren_for : (t : Terminal) → IsWord t word.For → BeforeParen (opener.For t.place) (t ∷ [])

pub data IsDefault : Place → List Terminal → Type 0 where
  is_default : (t : Terminal) → IsWord t word.Default → IsDefault t.place (t ∷ [])

pub data IsDoWord : Place → List Terminal → Type 0 where
  do_word : (t : Terminal) → IsWord t word.Do → IsDoWord t.place (t ∷ [])

-- a statement without its `;`
abbrev pub Unended : StatementTree → ℕ → List Terminal → Type 0
Unended x h ts = (c : Terminal) → Is c symbol.Semicolon → IsStatement false x h (ts ++ c ∷ [])

-- the tokens of a frame, and of a stack
abbrev pub Opens : Frame → List Terminal → Type 0
Opens (frame.If p) ts = Stands (IsControl control.If) p ts
Opens (frame.Else p) ts = Stands IsElse p ts
Opens (frame.Headed p) ts = Stands IsHead p ts
Opens (frame.Do at) ts = IsDoWord at ts
Opens (frame.Block p) ts = Stands IsBegun p ts

abbrev pub Stacked : List Frame → List Terminal → Type 0
Stacked [] ts = ts ≡ []
Stacked (f ∷ s) ts = (us : List Terminal) × (vs : List Terminal) × Stacked s us × Opens f vs × (ts ≡ us ++ vs)

-- the tokens of a stack and of what is on it
abbrev pub On : List Frame → (List Terminal → Type 0) → List Terminal → Type 0
On s P ts = (us : List Terminal) × (vs : List Terminal) × Stacked s us × P vs × (ts ≡ us ++ vs)

-- an expression so far
abbrev pub SoFar : Least → Parser → List Terminal → Type 0
SoFar least q ts = (l : List Terminal) → read_until least (ts ++ l) (start least) ≡ read_until least l q

abbrev pub InValue : Purpose → Parser → List Terminal → Type 0
InValue p q ts = (us : List Terminal) × (vs : List Terminal) × Before p us × SoFar (least_for p) q vs × (ts ≡ us ++ vs)

-- a declaration so far, behind a block so far
abbrev pub InLocal : Option (Built StatementTree) → LocalParser → List Terminal → Type 0
InLocal b p ts = (us : List Terminal) × (vs : List Terminal) × Stands IsOpened b us × (reading_local vs ≡ Some (step.Goes p)) × (ts ≡ us ++ vs)

-- what holds of a state after some tokens
abbrev pub Holds : Mode → List Frame → List Terminal → Type 0
Holds Begin s ts = Stacked s ts
Holds (Items b) s ts = On s (Stands IsOpened b) ts
Holds (Declaring b p) s ts = On s (InLocal b p) ts
Holds (After g) s ts = On s (Stands (IsStatement false) g) ts
Holds (Done g) s ts = Stands IsBlock g ts
Holds (Paren o) s ts = On s (BeforeParen o) ts
Holds (Ends g) s ts = On s (Stands Unended g) ts
Holds (Colon at) s ts = On s (IsDefault at) ts
Holds (May o) s ts = On s (BeforeMay o) ts
Holds (Value p q) s ts = On s (InValue p q) ts

abbrev pub OnNext : Next → List Terminal → Type 0
OnNext None ts = Unit {0}
OnNext (Some p) ts = Holds p.mode p.stack ts

-- one token more
on_more : {P Q : List Terminal → Type 0} (s : List Frame) (ts : List Terminal) (t : Terminal) → On s P ts → ((vs : List Terminal) → P vs → Q (vs ++ t ∷ [])) → On s Q (ts ++ t ∷ [])
on_more s ts t d f = (d.0, d.1 ++ t ∷ [], d.2, f d.1 d.3, ap (λ l. l ++ t ∷ []) d.4 ∙ append_assoc d.0 d.1 (t ∷ []))

on_new : {Q : List Terminal → Type 0} (s : List Frame) (ts : List Terminal) (t : Terminal) → Stacked s ts → Q (t ∷ []) → On s Q (ts ++ t ∷ [])
on_new s ts t d q = (ts, t ∷ [], d, q, refl)

guard : (b : Bool) (x : Next) (ts : List Terminal) → (b ≡ true → OnNext x ts) → OnNext (if b then x else None) ts
guard true x ts h = h refl
guard false x ts h = tt

two_ways : (b : Bool) (x y : Next) (ts : List Terminal) → (b ≡ true → OnNext x ts) → OnNext y ts → OnNext (if b then x else y) ts
two_ways true x y ts h k = h refl
two_ways false x y ts h k = k

-- expressions
moved : {b : Bool} {x : StatementTree} {h : ℕ} (us vs : List Terminal) → us ≡ vs → IsStatement b x h us → IsStatement b x h vs
moved {b} {x} {h} us vs same d = let P : List Terminal → Type 0 = λ l. IsStatement b x h l in subst P same d

-- a controlling expression
control_sound : (k : Control) (s : List Frame) (us vs : List Terminal) (at : Place) (e : Tree) (h : ℕ) → Stacked s us → IsControl k (at, e) h vs → OnNext (with_value (required.Control k at) (cut e h) s) (us ++ vs)
control_sound control.If s us vs at e h st d = (us, vs, st, ((at, e), h, d, kept_cut (λ v. (at, v)) e h), refl)
control_sound control.While s us vs at e h st d = (us, vs, st, (head.While at e, h, while_head d, kept_cut (head.While at) e h), refl)
control_sound control.Switch s us vs at e h st d = (us, vs, st, (head.Switch at e, h, switch_head d, kept_cut (head.Switch at) e h), refl)

-- `do` with its controlling expression
do_sound : {p : Place × StatementTree} {m : ℕ} {ts : List Terminal} → IsDo p m ts → (w o c : Terminal) (e : Tree) (at : Place) (h : ℕ) (ws : List Terminal)
    → IsWord w word.While → Is o symbol.OpenParen → IsExpr 1 e at h ws → Is c symbol.CloseParen → Unended (Do p.0 p.1 e) (suc (max m h)) ((ts ++ w ∷ o ∷ []) ++ (ws ++ c ∷ []))
do_sound (is_do t {b} {x} {ts} te d) w o c e at h ws we oe de ce z ze =
    moved (t ∷ (ts ++ ((w ∷ o ∷ (ws ++ c ∷ [])) ++ z ∷ []))) ((((t ∷ ts) ++ w ∷ o ∷ []) ++ (ws ++ c ∷ [])) ++ z ∷ [])
    (sym (append_assoc ((t ∷ ts) ++ w ∷ o ∷ []) (ws ++ c ∷ []) (z ∷ []) ∙ append_assoc (t ∷ ts) (w ∷ o ∷ []) ((ws ++ c ∷ []) ++ z ∷ [])))
    (do_while t z te d (controlled control.While w o c we oe de ce) ze)

abbrev symbol_of : Closer → Symbol
symbol_of closer.Semicolon = symbol.Semicolon
symbol_of closer.Paren = symbol.CloseParen
symbol_of closer.Colon = symbol.Colon

closer_is : (k : Closer) (y : Symbol) → is_closer k y ≡ true → y ≡ symbol_of k
closer_is closer.Semicolon symbol.Semicolon e = refl
closer_is closer.Semicolon _ e = absurd (true_false (sym e))
closer_is closer.Paren symbol.CloseParen e = refl
closer_is closer.Paren _ e = absurd (true_false (sym e))
closer_is closer.Colon symbol.Colon e = refl
closer_is closer.Colon _ e = absurd (true_false (sym e))

value_sound : {r : Required} {vs : List Terminal} → BeforeMust r vs → (s : List Frame) (us ws : List Terminal) (c : Terminal) → Stacked s us → (e : Tree) (at : Place) (h : ℕ)
    → IsExpr (least_of (least_for (Must r))) e at h ws → is_closer (closer_of (Must r)) c.symbol ≡ true → OnNext (with_value r (cut e h) s) (us ++ (vs ++ (ws ++ c ∷ [])))
value_sound evaluates s us ws c st e at h d k =
    (us, ws ++ c ∷ [], st, (Evaluate e, suc h, expression_statement c d (closer_is closer.Semicolon c.symbol k), kept_taller Evaluate e h), refl)
value_sound (controls kind t o te oe) s us ws c st e at h d k =
    control_sound kind s us (t ∷ o ∷ (ws ++ c ∷ [])) t.place e h st (controlled kind t o c te oe d (closer_is closer.Paren c.symbol k))
value_sound (untils p w o ts dp we oe) s us ws c st e at h d k =
    let x = dp.0 in (
      us,
      (ts ++ w ∷ o ∷ []) ++ (ws ++ c ∷ []),
      st,
      (Do x.0 x.1 e, suc (max dp.1 h), do_sound dp.2 w o c e at h ws we oe d (closer_is closer.Paren c.symbol k), ap (λ v. do_of v (cut e h)) dp.3 ∙ kept_both (λ v. Do v.0.0 v.0.1 v.1) x e dp.1 h),
      refl,
    )
value_sound (cases t te) s us ws c st e at h d k =
    (us, t ∷ (ws ++ c ∷ []), st, (head.Case t.place e, h, case_head t c te d (closer_is closer.Colon c.symbol k), kept_cut (head.Case t.place) e h), refl)

-- the parts of `for`
moved_head : {x : Head} {h : ℕ} (us vs : List Terminal) → us ≡ vs → IsHead x h us → IsHead x h vs
moved_head {x} {h} us vs same d = let P : List Terminal → Type 0 = λ l. IsHead x h l in subst P same d

for_first : {p : Place × Option Tree} {k : ℕ} {ts : List Terminal} → IsFirst p k ts → (z c : Terminal) (e f : Option Tree) (m n : ℕ) (vs ws : List Terminal)
    → IsOptional e m vs → Is z symbol.Semicolon → IsOptional f n ws → Is c symbol.CloseParen → IsHead (head.For p.0 p.1 e f) (max (max k m) n) ((ts ++ (vs ++ z ∷ [])) ++ (ws ++ c ∷ []))
for_first (is_first t o y {d} {k} {us} te oe dd ye) z c e f m n vs ws de ze df ce =
    moved_head (t ∷ o ∷ (us ++ y ∷ (vs ++ z ∷ (ws ++ c ∷ [])))) (((t ∷ o ∷ (us ++ y ∷ [])) ++ (vs ++ z ∷ [])) ++ (ws ++ c ∷ []))
    (sym (append_assoc (t ∷ o ∷ (us ++ y ∷ [])) (vs ++ z ∷ []) (ws ++ c ∷ [])
    ∙ ap (λ l. (t ∷ o ∷ (us ++ y ∷ [])) ++ l) (append_assoc vs (z ∷ []) (ws ++ c ∷ []))
    ∙ append_assoc (t ∷ o ∷ us) (y ∷ []) (vs ++ z ∷ (ws ++ c ∷ []))))
    (for_head t o y z c te oe dd ye de ze df ce)

for_sound : {x : (Place × Option Tree) × Option Tree} {m : ℕ} {vs : List Terminal} → IsSecond x m vs → (c : Terminal) (f : Option Tree) (n : ℕ) (ws : List Terminal)
    → IsOptional f n ws → Is c symbol.CloseParen → IsHead (head.For x.0.0 x.0.1 x.1 f) (max m n) (vs ++ (ws ++ c ∷ []))
for_sound (is_second z {e} {n = k} {vs} d de ze) c f n ws df ce = for_first d z c e f k n vs ws de ze df ce

optional_sound : {o : Optional} {vs : List Terminal} → BeforeMay o vs → (s : List Frame) (us ws : List Terminal) (c : Terminal) → Stacked s us → (e : Option Tree) (h : ℕ)
    → IsOptional e h ws → is_closer (closer_of (Maybe o)) c.symbol ≡ true → OnNext (with_optional o (cut e h) s) (us ++ (vs ++ (ws ++ c ∷ [])))
optional_sound (firsts t o te oe) s us ws c st e h d k =
    let parts = kept_cut (λ v. (t.place, v)) e h in
    (us, t ∷ o ∷ (ws ++ c ∷ []), st, seconds (placed t.place (cut e h)) (t ∷ o ∷ (ws ++ c ∷ [])) ((t.place, e), h, is_first t o c te oe d (closer_is closer.Semicolon c.symbol k), parts), refl)
optional_sound (seconds p vs dp) s us ws c st e h d k =
    let x = dp.0 in (
      us,
      vs ++ (ws ++ c ∷ []),
      st,
      thirds (paired p (cut e h)) (vs ++ (ws ++ c ∷ [])) ((x, e), max dp.1 h, is_second c dp.2 d (closer_is closer.Semicolon c.symbol k), ap (λ v. paired v (cut e h)) dp.3 ∙ paired_cut x e dp.1 h),
      refl,
    )
optional_sound (thirds p vs dp) s us ws c st e h d k =
    let x = dp.0 in (
      us,
      vs ++ (ws ++ c ∷ []),
      st,
      (
        head.For x.0.0 x.0.1 x.1 e,
        max dp.1 h,
        for_sound dp.2 c e h ws d (closer_is closer.Paren c.symbol k),
        ap (λ v. for_of v (cut e h)) dp.3 ∙ kept_paired (λ v. head.For v.0.0.0 v.0.0.1 v.0.1 v.1) x e dp.1 h,
      ),
      refl,
    )
optional_sound (returns t te) s us ws c st e h d k =
    (us, t ∷ (ws ++ c ∷ []), st, (Return t.place e, suc h, return_statement t c te d (closer_is closer.Semicolon c.symbol k), kept_taller (Return t.place) e h), refl)

-- an expression that has ended before a token
used_sound : (p : Purpose) (s : List Frame) (g : Grown) (us vs ws : List Terminal) (c : Terminal) → Stacked s us → Before p vs → Keeps (least_for p) g ws
    → is_closer (closer_of p) c.symbol ≡ true → OnNext (used p (expr_part g.tree) s) (us ++ (vs ++ (ws ++ c ∷ [])))
used_sound (Must r) s g us vs ws c st b d k =
    let P : Option (Built Tree) → Type 0 = λ v. OnNext (with_value r v s) (us ++ (vs ++ (ws ++ c ∷ []))) in
    subst P (sym (ap expr_part d.3 ∙ expr_part_cut d.0 d.1)) (value_sound b s us ws c st d.0 g.place d.1 d.2 k)
used_sound (Maybe o) s g us vs ws c st b d k =
    let P : Option (Built (Option Tree)) → Type 0 = λ v. OnNext (with_optional o v s) (us ++ (vs ++ (ws ++ c ∷ []))) in
    subst P (sym (ap (λ v. present_part (expr_part v)) d.3 ∙ ap present_part (expr_part_cut d.0 d.1) ∙ kept_cut Some d.0 d.1)) (optional_sound b s us ws c st (Some d.0) d.1 (present d.2) k)

-- the token behind an expression
ended_sound : (p : Purpose) (s : List Frame) (g : Grown) (t : Terminal) (ts us vs ws fs : List Terminal) → Stacked s us → Before p vs
    → ts ≡ us ++ (vs ++ ws) → ws ++ t ∷ [] ≡ fs ++ t ∷ [] → Keeps (least_for p) g fs → is_closer (closer_of p) t.symbol ≡ true → OnNext (used p (expr_part g.tree) s) (ts ++ t ∷ [])
ended_sound p s g t ts us vs ws fs st b all front d k =
    let P : List Terminal → Type 0 = λ l. OnNext (used p (expr_part g.tree) s) l in
    let same : ts ++ t ∷ [] ≡ us ++ (vs ++ (fs ++ t ∷ [])) =
    ap (λ l. l ++ t ∷ []) all ∙ append_assoc us (vs ++ ws) (t ∷ []) ∙ ap (λ l. us ++ l) (append_assoc vs ws (t ∷ []) ∙ ap (λ l. vs ++ l) front) in
    subst P (sym same) (used_sound p s g us vs fs t st b d k)

valued_by : (p : Purpose) (s : List Frame) (q : Parser) (t : Terminal) (ts us vs ws : List Terminal) → Stacked s us → Before p vs → SoFar (least_for p) q ws → ts ≡ us ++ (vs ++ ws)
    → (o : Option Offered) → offer (least_for p) q t ≡ o → OnNext (valued p s t.symbol o) (ts ++ t ∷ [])
valued_by p s q t ts us vs ws st b so all None e = tt
valued_by p s q t ts us vs ws st b so all (Some (offered.Goes r)) e = (
  us,
  vs ++ (ws ++ t ∷ []),
  st,
  (vs, ws ++ t ∷ [], b, λ l. ap (λ k. read_until (least_for p) k (start (least_for p))) (append_assoc ws (t ∷ []) l) ∙ so (t ∷ l) ∙ ap (answered (least_for p) t l) e, refl),
  ap (λ l. l ++ t ∷ []) all ∙ append_assoc us (vs ++ ws) (t ∷ []) ∙ ap (λ l. us ++ l) (append_assoc vs ws (t ∷ [])),
)
valued_by p s q t ts us vs ws st b so all (Some (offered.Ends g)) e =
    let found = ends_behind (least_for p) (ws ++ t ∷ []) g (t ∷ []) (so (t ∷ []) ∙ ap (answered (least_for p) t []) e) in
    guard (is_closer (closer_of p) t.symbol) (used p (expr_part g.tree) s) (ts ++ t ∷ []) (λ k. ended_sound p s g t ts us vs ws found.0 st b all found.1 found.2 k)

valued_sound : (p : Purpose) (s : List Frame) (q : Parser) (t : Terminal) (ts : List Terminal) → On s (InValue p q) ts → OnNext (valued p s t.symbol (offer (least_for p) q t)) (ts ++ t ∷ [])
valued_sound p s q t ts d =
    let v = d.3 in
    valued_by p s q t ts d.0 v.0 v.1 d.2 v.2 v.3 (d.4 ∙ ap (λ l. d.0 ++ l) v.4) (offer (least_for p) q t) refl

-- an expression is to come
nothing_yet : (p : Purpose) (vs : List Terminal) → Before p vs → InValue p (start (least_for p)) vs
nothing_yet p vs b = (vs, [], b, λ l. refl, sym (append-nil vs))

value_begins_sound : (p : Purpose) (s : List Frame) (t : Terminal) (ts us vs : List Terminal) → Stacked s us → Before p vs → ts ≡ us ++ vs → OnNext (value_begins p s t) (ts ++ t ∷ [])
value_begins_sound p s t ts us vs st b all = valued_sound p s (start (least_for p)) t ts (us, vs, st, nothing_yet p vs b, all)

waits_sound : (r : Required) (s : List Frame) (ts us vs : List Terminal) → Stacked s us → BeforeMust r vs → ts ≡ us ++ vs → OnNext (waits r s) ts
waits_sound r s ts us vs st b all = (us, vs, st, nothing_yet (Must r) vs b, all)

maybe_sound : (o : Optional) (s : List Frame) (t : Terminal) (ts : List Terminal) → On s (BeforeMay o) ts → OnNext (maybe o s t) (ts ++ t ∷ [])
maybe_sound o s t ts d =
    two_ways (is_closer (closer_of (Maybe o)) t.symbol) _ _ (ts ++ t ∷ [])
    (λ k. let P : List Terminal → Type 0 = λ l. OnNext (with_optional o (cut None 0) s) l in
    subst P (sym (ap (λ l. l ++ t ∷ []) d.4 ∙ append_assoc d.0 d.1 (t ∷ []))) (optional_sound d.3 s d.0 [] t d.2 None 0 absent k))
    (value_begins_sound (Maybe o) s t ts d.0 d.1 d.2 d.3 d.4)

-- a keyword that begins a statement
keyword_sound : (k : Keyword) (s : List Frame) (t : Terminal) (ts : List Terminal) → IsWord t k → Stacked s ts → OnNext (keyword k t.place s) (ts ++ t ∷ [])
keyword_sound word.If s t ts e d = on_new s ts t d (paren_control control.If t e)
keyword_sound word.While s t ts e d = on_new s ts t d (paren_control control.While t e)
keyword_sound word.Switch s t ts e d = on_new s ts t d (paren_control control.Switch t e)
keyword_sound word.Do s t ts e d = (ts, t ∷ [], d, do_word t e, refl)
keyword_sound word.For s t ts e d = on_new s ts t d (paren_for t e)
keyword_sound word.Case s t ts e d = waits_sound (required.Case t.place) s (ts ++ t ∷ []) ts (t ∷ []) d (cases t e) refl
keyword_sound word.Default s t ts e d = on_new s ts t d (is_default t e)
keyword_sound word.Break s t ts e d = on_new s ts t d (Break t.place, 1, λ c ce. break_statement t c e ce, refl)
keyword_sound word.Continue s t ts e d = on_new s ts t d (Continue t.place, 1, λ c ce. continue_statement t c e ce, refl)
keyword_sound word.Return s t ts e d = on_new s ts t d (returns t e)
keyword_sound _ s t ts e d = tt

begins_sound : (y : Symbol) (s : List Frame) (t : Terminal) (ts : List Terminal) → Is t y → Stacked s ts → OnNext (begins y s t) (ts ++ t ∷ [])
begins_sound symbol.Semicolon s t ts e d = on_new s ts t d (Empty t.place, 1, empty_statement t e, refl)
begins_sound symbol.OpenBrace s t ts e d = on_new s ts t d (Begun t.place, 0, opened t e, refl)
begins_sound (symbol.Keyword k) s t ts e d = keyword_sound k s t ts e d
begins_sound _ s t ts e d = value_begins_sound (Must required.Evaluate) s t ts ts [] d evaluates (sym (append-nil ts))

-- blocks
closed_sound : (b : Option (Built StatementTree)) (t : Terminal) (vs : List Terminal) → Is t symbol.CloseBrace → Stands IsBegun b vs → Stands IsBlock (closed_of b t.place) (vs ++ t ∷ [])
closed_sound b t vs e d = (Closed d.0 t.place, suc d.1, closed t d.2 e, ap (λ v. closed_of v t.place) d.3 ∙ kept_taller (λ v. Closed v t.place) d.0 d.1)

ends_block_sound : (b : Option (Built StatementTree)) (s : List Frame) (t : Terminal) (ts : List Terminal) → Is t symbol.CloseBrace → On s (Stands IsBegun b) ts → OnNext (ends_block (closed_of b t.place) s) (ts ++ t ∷ [])
ends_block_sound b [] t ts e d =
    let P : List Terminal → Type 0 = λ l. Stands IsBlock (closed_of b t.place) (l ++ t ∷ []) in
    subst P (sym (d.4 ∙ ap (λ l. l ++ d.1) d.2)) (closed_sound b t d.1 e d.3)
ends_block_sound b (f ∷ s) t ts e d =
    on_more {P = Stands IsBegun b} {Q = Stands (IsStatement false) (closed_of b t.place)} (f ∷ s) ts t d (λ vs k. let c = closed_sound b t vs e k in (c.0, c.1, block c.2, c.3))

inside_sound : (y : Symbol) (b : Option (Built StatementTree)) (s : List Frame) (t : Terminal) (ts : List Terminal) → Is t y → On s (Stands IsBegun b) ts → OnNext (inside y b s t) (ts ++ t ∷ [])
inside_sound symbol.CloseBrace b s t ts e d = ends_block_sound b s t ts e d
inside_sound _ b s t ts e d = begins_sound _ (frame.Block b ∷ s) t ts e d

-- declarations in a block
abbrev goes_step : LocalParser → Option (Step LocalParser ReadLocal)
goes_step q = Some (step.Goes q)

none_goes : (q : LocalParser) → None ≡ goes_step q → ⊥
none_goes q e = cc

some_step : (a b : Step LocalParser ReadLocal) → Some a ≡ Some b → a ≡ b
some_step a b e = cc

abbrev fed : List Terminal → Option (Step LocalParser ReadLocal) → Option (Step LocalParser ReadLocal)
fed ts o = elim o [ None ↦ None | Some a ↦ feed local_offer ts a ]

feed_by : (ts l : List Terminal) (q : LocalParser) → ((a : Step LocalParser ReadLocal) → feed local_offer ts a ≡ Some (step.Goes q) → feed local_offer (ts ++ l) a ≡ feed local_offer l (step.Goes q))
    → (o : Option (Step LocalParser ReadLocal)) → fed ts o ≡ Some (step.Goes q) → fed (ts ++ l) o ≡ feed local_offer l (step.Goes q)
feed_by ts l q ih None e = absurd (none_goes q e)
feed_by ts l q ih (Some a) e = ih a e

feed_more : (ts l : List Terminal) (q : LocalParser) (a : Step LocalParser ReadLocal) → feed local_offer ts a ≡ Some (step.Goes q) → feed local_offer (ts ++ l) a ≡ feed local_offer l (step.Goes q)
feed_more [] l q a e = ap (feed local_offer l) (some_step a (step.Goes q) e)
feed_more (t ∷ ts) l q (step.Ends r) e = absurd (none_goes q e)
feed_more (t ∷ ts) l q (step.Goes p) e = feed_by ts l q (λ a k. feed_more ts l q a k) (local_offer p t) e

declaring_by : LocalIs → (b : Option (Built StatementTree)) (s : List Frame) (p : LocalParser) (t : Terminal) (ts us vs ws : List Terminal) → Stacked s us → Stands IsOpened b vs
    → reading_local ws ≡ Some (step.Goes p) → ts ≡ us ++ (vs ++ ws) → (o : Option (Step LocalParser ReadLocal)) → local_offer p t ≡ o → OnNext (declaring b s o) (ts ++ t ∷ [])
declaring_by law b s p t ts us vs ws st d so all None e = tt
declaring_by law b s p t ts us vs ws st d so all (Some (step.Goes q)) e = (
  us,
  vs ++ (ws ++ t ∷ []),
  st,
  (vs, ws ++ t ∷ [], d, feed_more ws (t ∷ []) p (step.Goes local.Begin) so ∙ ap (fed []) e, refl),
  ap (λ l. l ++ t ∷ []) all ∙ append_assoc us (vs ++ ws) (t ∷ []) ∙ ap (λ l. us ++ l) (append_assoc vs ws (t ∷ [])),
)
declaring_by law b s p t ts us vs ws st d so all (Some (step.Ends r)) e =
    let l = law (ws ++ t ∷ []) r (feed_more ws (t ∷ []) p (step.Goes local.Begin) so ∙ ap (fed []) e) in
    let kept_is = ap₂ (λ v w. kept (λ x. Declares x.0 x.1) (paired v (taller w))) d.3 l.4
    ∙ ap (λ v. kept (λ x. Declares x.0 x.1) (paired (cut d.0 d.1) v)) (taller_cut l.0 l.1) ∙ kept_paired (λ x. Declares x.0 x.1) d.0 l.0 d.1 (suc l.1) in (
      us,
      vs ++ (ws ++ t ∷ []),
      st,
      (Declares d.0 l.0, max d.1 (suc l.1), next_local d.2 l.2, kept_is),
      ap (λ l. l ++ t ∷ []) all ∙ append_assoc us (vs ++ ws) (t ∷ []) ∙ ap (λ l. us ++ l) (append_assoc vs ws (t ∷ [])),
    )

declaring_sound : LocalIs → (b : Option (Built StatementTree)) (s : List Frame) (p : LocalParser) (t : Terminal) (ts : List Terminal) → On s (InLocal b p) ts → OnNext (declaring b s (local_offer p t)) (ts ++ t ∷ [])
declaring_sound law b s p t ts d =
    let v = d.3 in
    declaring_by law b s p t ts d.0 v.0 v.1 d.2 v.2 v.3 (d.4 ∙ ap (λ l. d.0 ++ l) v.4) (local_offer p t) refl

only_opened : (b : Option (Built StatementTree)) (vs : List Terminal) → Stands IsOpened b vs → Stands IsBegun b vs
only_opened b vs d = (d.0, d.1, only_declarations d.2, d.3)

items_sound : LocalIs → (b : Option (Built StatementTree)) (s : List Frame) (t : Terminal) (ts : List Terminal) → On s (Stands IsOpened b) ts → OnNext (items t.symbol b s t) (ts ++ t ∷ [])
items_sound law b s t ts d =
    two_ways (starts_local t.symbol) (declaring b s (local_offer local.Begin t)) (inside t.symbol b s t) (ts ++ t ∷ [])
    (λ k. declaring_sound law b s local.Begin t ts (d.0, d.1, d.2, (d.1, [], d.3, refl, sym (append-nil d.1)), d.4))
    (inside_sound t.symbol b s t ts refl (d.0, d.1, d.2, only_opened b d.1 d.3, d.4))

-- a statement in its frame
abbrev Ended : Bool → Option (Built StatementTree) → List Terminal → Type 0
Ended b g ts = Stands (IsStatement b) g ts

if_sound : {p : Place × Tree} {m : ℕ} {us : List Terminal} → IsControl control.If p m us → {b : Bool} {x : StatementTree} {n : ℕ} {vs : List Terminal} → IsStatement b x n vs
    → IsStatement true (If p.0 p.1 x) (suc (max m n)) (us ++ vs)
if_sound d d' = if_only d d'

else_sound : {p : (Place × Tree) × StatementTree} {m : ℕ} {us : List Terminal} → IsElse p m us → {b : Bool} {x : StatementTree} {n : ℕ} {vs : List Terminal} → IsStatement b x n vs
    → IsStatement b (IfElse p.0.0 p.0.1 p.1 x) (suc (max m n)) (us ++ vs)
else_sound d d' = if_else d d'

plug_if : (p : Option (Built (Place × Tree))) (us : List Terminal) → Stands (IsControl control.If) p us → (b : Bool) (g : Option (Built StatementTree)) (vs : List Terminal) → Ended b g vs → Ended true (if_of p g) (us ++ vs)
plug_if p us d b g vs d' =
    (If d.0.0 d.0.1 d'.0, suc (max d.1 d'.1), if_sound d.2 d'.2, ap₂ if_of d.3 d'.3 ∙ kept_both (λ v. If v.0.0 v.0.1 v.1) d.0 d'.0 d.1 d'.1)

plug_else : (p : Option (Built ((Place × Tree) × StatementTree))) (us : List Terminal) → Stands IsElse p us → (b : Bool) (g : Option (Built StatementTree)) (vs : List Terminal) → Ended b g vs → Ended b (if_else_of p g) (us ++ vs)
plug_else p us d b g vs d' =
    (IfElse d.0.0.0 d.0.0.1 d.0.1 d'.0, suc (max d.1 d'.1), else_sound d.2 d'.2, ap₂ if_else_of d.3 d'.3 ∙ kept_both (λ v. IfElse v.0.0.0 v.0.0.1 v.0.1 v.1) d.0 d'.0 d.1 d'.1)

plug_head : (p : Option (Built Head)) (us : List Terminal) → Stands IsHead p us → (b : Bool) (g : Option (Built StatementTree)) (vs : List Terminal) → Ended b g vs → Ended b (headed_of p g) (us ++ vs)
plug_head p us d b g vs d' =
    (Headed d.0 d'.0, suc (max d.1 d'.1), headed d.2 d'.2, ap₂ headed_of d.3 d'.3 ∙ kept_both (λ v. Headed v.0 v.1) d.0 d'.0 d.1 d'.1)

-- the statements that end behind a part, before a token that is no `else`
abbrev Either : Option (Built StatementTree) → List Terminal → Type 0
Either g ts = (b : Bool) × Ended b g ts

abbrev SettledAny : List Terminal → Option (Built StatementTree) × List Frame → Type 0
SettledAny ts r = On r.1 (Either r.0) ts

settle_sound : (s : List Frame) (g : Option (Built StatementTree)) (ts : List Terminal) → On s (Either g) ts → SettledAny ts (settle false g s)
settle_sound [] g ts d = d
settle_sound (frame.If p ∷ s) g ts d =
    let under = d.2 in
    settle_sound s (if_of p g) ts (under.0, under.1 ++ d.1, under.2, (true, plug_if p under.1 under.3 d.3.0 g d.1 d.3.1), d.4 ∙ ap (λ l. l ++ d.1) under.4 ∙ append_assoc under.0 under.1 d.1)
settle_sound (frame.Else p ∷ s) g ts d =
    let under = d.2 in
    settle_sound s (if_else_of p g) ts (under.0, under.1 ++ d.1, under.2, (d.3.0, plug_else p under.1 under.3 d.3.0 g d.1 d.3.1), d.4 ∙ ap (λ l. l ++ d.1) under.4 ∙ append_assoc under.0 under.1 d.1)
settle_sound (frame.Headed p ∷ s) g ts d =
    let under = d.2 in
    settle_sound s (headed_of p g) ts (under.0, under.1 ++ d.1, under.2, (d.3.0, plug_head p under.1 under.3 d.3.0 g d.1 d.3.1), d.4 ∙ ap (λ l. l ++ d.1) under.4 ∙ append_assoc under.0 under.1 d.1)
settle_sound (frame.Do at ∷ s) g ts d = d
settle_sound (frame.Block b ∷ s) g ts d = d

-- and before `else`
abbrev SettledElse : List Terminal → Option (Built StatementTree) × List Frame → Type 0
SettledElse ts r = On r.1 (Ended false r.0) ts

settle_else_sound : (s : List Frame) (g : Option (Built StatementTree)) (ts : List Terminal) → On s (Ended false g) ts → SettledElse ts (settle true g s)
settle_else_sound [] g ts d = d
settle_else_sound (frame.If p ∷ s) g ts d = d
settle_else_sound (frame.Else p ∷ s) g ts d =
    let under = d.2 in
    settle_else_sound s (if_else_of p g) ts (under.0, under.1 ++ d.1, under.2, plug_else p under.1 under.3 false g d.1 d.3, d.4 ∙ ap (λ l. l ++ d.1) under.4 ∙ append_assoc under.0 under.1 d.1)
settle_else_sound (frame.Headed p ∷ s) g ts d =
    let under = d.2 in
    settle_else_sound s (headed_of p g) ts (under.0, under.1 ++ d.1, under.2, plug_head p under.1 under.3 false g d.1 d.3, d.4 ∙ ap (λ l. l ++ d.1) under.4 ∙ append_assoc under.0 under.1 d.1)
settle_else_sound (frame.Do at ∷ s) g ts d = d
settle_else_sound (frame.Block b ∷ s) g ts d = d

-- an `else`
to_else : {p : Place × Tree} {m : ℕ} {us : List Terminal} → IsControl control.If p m us → {x : StatementTree} {n : ℕ} {vs : List Terminal} → IsStatement false x n vs → (l : Terminal) → IsWord l word.Else
    → IsElse (p, x) (max m n) (us ++ (vs ++ l ∷ []))
to_else d d' l e = up_to_else l d d' e

on_else_sound : (t : Terminal) (ts : List Terminal) → IsWord t word.Else → (r : Option (Built StatementTree) × List Frame) → SettledElse ts r → OnNext (on_else r) (ts ++ t ∷ [])
on_else_sound t ts e (g, []) d = tt
on_else_sound t ts e (g, frame.If p ∷ s) d =
    let under = d.2 in
    let dp = under.3 in
    let dg = d.3 in (
      under.0,
      under.1 ++ (d.1 ++ t ∷ []),
      under.2,
      ((dp.0, dg.0), max dp.1 dg.1, to_else dp.2 dg.2 t e, ap₂ paired dp.3 dg.3 ∙ paired_cut dp.0 dg.0 dp.1 dg.1),
      ap (λ l. l ++ t ∷ []) (d.4 ∙ ap (λ l. l ++ d.1) under.4) ∙ append_assoc (under.0 ++ under.1) d.1 (t ∷ []) ∙ append_assoc under.0 under.1 (d.1 ++ t ∷ []),
    )
on_else_sound t ts e (g, frame.Else p ∷ s) d = tt
on_else_sound t ts e (g, frame.Headed p ∷ s) d = tt
on_else_sound t ts e (g, frame.Do at ∷ s) d = tt
on_else_sound t ts e (g, frame.Block b ∷ s) d = tt

-- the `while` of `do`
do_stands : {at : Place} {us : List Terminal} → IsDoWord at us → (g : Option (Built StatementTree)) (vs : List Terminal) → Either g vs → Stands IsDo (placed at g) (us ++ vs)
do_stands (do_word t te) g vs d = let dg = d.1 in ((t.place, dg.0), dg.1, is_do t te dg.2, ap (placed t.place) dg.3 ∙ kept_cut (λ v. (t.place, v)) dg.0 dg.1)

until_sound : (y : Symbol) (at : Place) (g : Option (Built StatementTree)) (s : List Frame) (t : Terminal) (ts us vs : List Terminal) → Is t y → Stacked s us → Stands IsDo (placed at g) vs → ts ≡ us ++ vs
    → OnNext (until y at g s) (ts ++ t ∷ [])
until_sound (symbol.Keyword word.While) at g s t ts us vs e st d all = (us, vs ++ t ∷ [], st, paren_until (placed at g) t vs d e, ap (λ l. l ++ t ∷ []) all ∙ append_assoc us vs (t ∷ []))
until_sound _ at g s t ts us vs e st d all = tt

-- a statement more
also_sound : (b : Option (Built StatementTree)) (us : List Terminal) → Stands IsBegun b us → (g : Option (Built StatementTree)) (vs : List Terminal) → Either g vs → Stands IsBegun (also_of b g) (us ++ vs)
also_sound b us d g vs d' =
    let dg = d'.1 in (
      Also d.0 dg.0,
      max d.1 (suc dg.1),
      next_statement d.2 dg.2,
      ap₂ also_of d.3 dg.3 ∙ ap (λ v. kept (λ x. Also x.0 x.1) (paired (cut d.0 d.1) v)) (taller_cut dg.0 dg.1) ∙ kept_paired (λ x. Also x.0 x.1) d.0 dg.0 d.1 (suc dg.1),
    )

behind_sound : (t : Terminal) (ts : List Terminal) (r : Option (Built StatementTree) × List Frame) → SettledAny ts r → OnNext (behind r t) (ts ++ t ∷ [])
behind_sound t ts (g, []) d = tt
behind_sound t ts (g, frame.If p ∷ s) d = tt
behind_sound t ts (g, frame.Else p ∷ s) d = tt
behind_sound t ts (g, frame.Headed p ∷ s) d = tt
behind_sound t ts (g, frame.Do at ∷ s) d =
    let under = d.2 in
    until_sound t.symbol at g s t ts under.0 (under.1 ++ d.1) refl under.2 (do_stands under.3 g d.1 d.3) (d.4 ∙ ap (λ l. l ++ d.1) under.4 ∙ append_assoc under.0 under.1 d.1)
behind_sound t ts (g, frame.Block b ∷ s) d =
    let under = d.2 in
    inside_sound t.symbol (also_of b g) s t ts refl
    (under.0, under.1 ++ d.1, under.2, also_sound b under.1 under.3 g d.1 d.3, d.4 ∙ ap (λ l. l ++ d.1) under.4 ∙ append_assoc under.0 under.1 d.1)

after_sound : (y : Symbol) (g : Option (Built StatementTree)) (s : List Frame) (t : Terminal) (ts : List Terminal) → Is t y → On s (Ended false g) ts → OnNext (after y g s t) (ts ++ t ∷ [])
after_sound (symbol.Keyword word.Else) g s t ts e d = on_else_sound t ts e (settle true g s) (settle_else_sound s g ts d)
after_sound _ g s t ts e d = behind_sound t ts (settle false g s) (settle_sound s g ts (d.0, d.1, d.2, (false, d.3), d.4))

-- a `(`, a `;` and a `:`
opens_sound : {o : Opener} {vs : List Terminal} → BeforeParen o vs → (s : List Frame) (t : Terminal) (us : List Terminal) → Stacked s us → Is t symbol.OpenParen → OnNext (opens o s) (us ++ (vs ++ t ∷ []))
opens_sound (paren_control k w we) s t us st e = waits_sound (required.Control k w.place) s (us ++ w ∷ t ∷ []) us (w ∷ t ∷ []) st (controls k w t we e) refl
opens_sound (paren_until p w vs d we) s t us st e =
    waits_sound (required.Until p) s (us ++ ((vs ++ w ∷ []) ++ t ∷ [])) us (vs ++ w ∷ t ∷ []) st (untils p w t vs d we e) (ap (λ l. us ++ l) (append_assoc vs (w ∷ []) (t ∷ [])))
opens_sound (paren_for w we) s t us st e = (us, w ∷ t ∷ [], st, firsts w t we e, refl)

paren_sound : (y : Symbol) (o : Opener) (s : List Frame) (t : Terminal) (ts : List Terminal) → Is t y → On s (BeforeParen o) ts → OnNext (paren y o s) (ts ++ t ∷ [])
paren_sound symbol.OpenParen o s t ts e d =
    let P : List Terminal → Type 0 = λ l. OnNext (opens o s) l in
    subst P (sym (ap (λ l. l ++ t ∷ []) d.4 ∙ append_assoc d.0 d.1 (t ∷ []))) (opens_sound d.3 s t d.0 d.2 e)
paren_sound _ o s t ts e d = tt

semicolon_sound : (y : Symbol) (g : Option (Built StatementTree)) (s : List Frame) (t : Terminal) (ts : List Terminal) → Is t y → On s (Stands Unended g) ts → OnNext (semicolon y g s) (ts ++ t ∷ [])
semicolon_sound symbol.Semicolon g s t ts e d = on_more {P = Stands Unended g} {Q = Ended false g} s ts t d (λ vs k. (k.0, k.1, k.2 t e, k.3))
semicolon_sound _ g s t ts e d = tt

default_sound : {at : Place} {vs : List Terminal} → IsDefault at vs → (t : Terminal) → Is t symbol.Colon → Stands IsHead (Some (record { height = 0; tree = head.Default at })) (vs ++ t ∷ [])
default_sound (is_default w we) t e = (head.Default w.place, 0, default_head w t we e, refl)

colon_sound : (y : Symbol) (at : Place) (s : List Frame) (t : Terminal) (ts : List Terminal) → Is t y → On s (IsDefault at) ts → OnNext (colon y at s) (ts ++ t ∷ [])
colon_sound symbol.Colon at s t ts e d = on_more {P = IsDefault at} {Q = Stands IsHead (Some (record { height = 0; tree = head.Default at }))} s ts t d (λ vs k. default_sound k t e)
colon_sound _ at s t ts e d = tt

-- one token more
mode_sound : LocalIs → (m : Mode) (s : List Frame) (t : Terminal) (ts : List Terminal) → Holds m s ts → OnNext (shift_mode m s t) (ts ++ t ∷ [])
mode_sound law Begin s t ts d = begins_sound t.symbol s t ts refl d
mode_sound law (Items b) s t ts d = items_sound law b s t ts d
mode_sound law (Declaring b p) s t ts d = declaring_sound law b s p t ts d
mode_sound law (After g) s t ts d = after_sound t.symbol g s t ts refl d
mode_sound law (Done g) s t ts d = tt
mode_sound law (Paren o) s t ts d = paren_sound t.symbol o s t ts refl d
mode_sound law (Ends g) s t ts d = semicolon_sound t.symbol g s t ts refl d
mode_sound law (Colon at) s t ts d = colon_sound t.symbol at s t ts refl d
mode_sound law (May o) s t ts d = maybe_sound o s t ts d
mode_sound law (Value p q) s t ts d = valued_sound p s q t ts d

abbrev going : List Terminal → Next → Next
going ts n = elim n [ None ↦ None | Some q ↦ run ts q ]

none_reader : (q : Reader) → None ≡ Some q → ⊥
none_reader q e = cc

same_reader : (p q : Reader) → Some p ≡ Some q → p ≡ q
same_reader p q e = cc

run_by : (ts done : List Terminal) (t : Terminal) → ((p q : Reader) → Holds p.mode p.stack (done ++ t ∷ []) → run ts p ≡ Some q → Holds q.mode q.stack ((done ++ t ∷ []) ++ ts))
    → (n : Next) (q : Reader) → OnNext n (done ++ t ∷ []) → going ts n ≡ Some q → Holds q.mode q.stack (done ++ t ∷ ts)
run_by ts done t ih None q d e = absurd (none_reader q e)
run_by ts done t ih (Some p) q d e = let P : List Terminal → Type 0 = λ l. Holds q.mode q.stack l in subst P (append_assoc done (t ∷ []) ts) (ih p q d e)

run_sound : LocalIs → (ts done : List Terminal) (p q : Reader) → Holds p.mode p.stack done → run ts p ≡ Some q → Holds q.mode q.stack (done ++ ts)
run_sound law [] done p q d e =
    let P : Reader → Type 0 = λ r. Holds r.mode r.stack (done ++ []) in
    let Q : List Terminal → Type 0 = λ l. Holds p.mode p.stack l in
    subst P (same_reader p q e) (subst Q (sym (append-nil done)) d)
run_sound law (t ∷ ts) done p q d e = run_by ts done t (λ r q' k e'. run_sound law ts (done ++ t ∷ []) r q' k e') (shift p t) q (mode_sound law p.mode p.stack t done d) e

pub body_sound : LocalIs → (ts : List Terminal) (q : Reader) (a : Option (Built StatementTree)) → run ts start_block ≡ Some q → q.mode ≡ Done a → Stands IsBlock a ts
body_sound law ts q a e k =
    let d : Holds q.mode q.stack ts = run_sound law ts [] start_block q refl e in
    let P : Mode → Type 0 = λ m. Holds m q.stack ts in
    subst P k d
