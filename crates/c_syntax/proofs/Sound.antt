-- What is read is a unit by the grammar.
use Rattle.std.proofs.Common.{◌≡◌, ℕ, max, List, [], ◌∷◌, ◌++◌, Option, Some, None, refl, sym, ◌∙◌, ap, ap₂, subst, append_assoc, append-nil, arith, lit≤}
use Rattle.c_lex.specs.declared.token.Place.{Place}
use Rattle.c_symbol.specs.declared.terminal.Terminal.{Terminal}
use Rattle.c_symbol.specs.declared.symbol.Symbol.TheVariants as symbol
use Rattle.c_declaration.specs.declared.built.Built.{Built}
use Rattle.c_declaration.specs.declared.step.Step.{Step}
use Rattle.c_declaration.specs.declared.step.Step.TheVariants as step
use Rattle.c_trees.specs.declared.declaration.FunctionHead.{FunctionHead}
use Rattle.c_declaration.specs.declared.state.FileParser.{FileParser}
use Rattle.c_declaration.specs.declared.state.FileParser.TheVariants as file
use Rattle.c_declaration.specs.declared.state.ReadHead.{ReadHead}
use Rattle.c_declaration.specs.declared.state.ReadHead.TheVariants as read
use Rattle.c_declaration.specs.FileReading.{file_offer}
use Rattle.c_declaration.specs.Feeding.{feed}
use Rattle.c_declaration.specs.Grammar.{Is, IsFunctionHead}
use Rattle.c_declaration.specs.Grown.{cut}
use Rattle.c_declaration.specs.Laws.{kept, reading_file, HeadOf, FileIs}
use Rattle.c_trees.specs.Statements.{StatementTree}
use Rattle.c_statement.specs.Grammar.{IsBlock}
use Rattle.c_statement.specs.Laws.{BlockIs}
use Rattle.c_statement.specs.Machine.{begins, start_block, begun_block}
use Rattle.c_statement.specs.Machine as block
use Rattle.c_statement.specs.declared.state.Mode.{Mode as BlockMode}
use Rattle.c_statement.specs.declared.state.Mode.TheVariants.{Done}
use Rattle.c_statement.specs.declared.state.Reader.{Reader}
use Rattle.c_trees.specs.declared.unit.External.{External}
use Rattle.c_trees.specs.declared.unit.External.TheVariants.{Declaration, Definition}
use Rattle.c_syntax.specs.declared.state.Kept.{Kept}
use Rattle.c_syntax.specs.declared.state.Kept.TheVariants.{All, TooDeep}
use Rattle.c_syntax.specs.declared.state.Mode.{Mode}
use Rattle.c_syntax.specs.declared.state.Mode.TheVariants.{Between, Heading, Body}
use Rattle.c_syntax.specs.declared.state.UnitParser.{UnitParser}
use Rattle.c_syntax.specs.Grammar.{IsExternal, declaration, definition, IsUnit, first_external, next_external}
use Rattle.c_syntax.specs.Machine.{Next, more, declared_of, defined_of, deep_place, with_body, bodied, ended, headed, shift_mode, shift, run, start}
use Rattle.c_syntax.proofs.Keeping.{KeptIs, more_is, first_is, declared_kept, defined_kept}

-- some external declarations, or none
pub data AreSome : List External → ℕ → List Terminal → Type 0 where
  nothing : AreSome [] 0 []
  some : {es : List External} {h : ℕ} {ts : List Terminal} → IsUnit es h ts → AreSome es h ts

abbrev pub SoFar : Kept → List Terminal → Type 0
SoFar k ts = (es : List External) × (h : ℕ) × AreSome es h ts × KeptIs k es h

-- what was read before a function's body
abbrev pub IsFunction : Option FunctionHead → List Terminal → Type 0
IsFunction f ts = (d : FunctionHead) × (h : ℕ) × IsFunctionHead d h ts × (f ≡ kept d h)

-- what holds of a state after some tokens
abbrev pub Holds : Mode → Kept → List Terminal → Type 0
Holds Between k ts = SoFar k ts
Holds (Heading p) k ts = (us : List Terminal) × (vs : List Terminal) × SoFar k us × (reading_file vs ≡ Some (step.Goes p)) × (ts ≡ us ++ vs)
Holds (Body at brace f r) k ts =
    (us : List Terminal) × (vs : List Terminal) × (ws : List Terminal) × SoFar k us × IsFunction f vs × (block.run ws start_block ≡ Some r) × (ts ≡ us ++ (vs ++ ws))

abbrev pub OnNext : Next → List Terminal → Type 0
OnNext None ts = Unit {0}
OnNext (Some p) ts = Holds p.mode p.kept ts

-- one external declaration more
more_some : {es : List External} {m : ℕ} {us : List Terminal} → AreSome es m us → (e : External) (n : ℕ) (vs : List Terminal) → IsExternal e n vs
    → (k : Kept) → KeptIs k es m → (at : Place) → SoFar (more k at (kept e n)) (us ++ vs)
more_some nothing e n vs d (All fs) is at =
    let P : List External → Type 0 = λ l. SoFar (more (All l) at (kept e n)) vs in
    subst P (sym is.0) (e ∷ [], n, some (first_external d), first_is at e n)
more_some nothing e n vs d (TooDeep first) is at = absurd (omega (arith, is))
more_some (some {es} {h = m} {ts = us} u) e n vs d k is at = (es ++ e ∷ [], max m n, some (next_external u d), more_is k es m is at e n)

so_more : (k : Kept) (us : List Terminal) → SoFar k us → (at : Place) (e : External) (n : ℕ) (vs : List Terminal) → IsExternal e n vs → SoFar (more k at (kept e n)) (us ++ vs)
so_more k us d at e n vs x = more_some d.2 e n vs x k d.3 at

-- reading declarations
abbrev going_step : FileParser → Option (Step FileParser ReadHead)
going_step q = Some (step.Goes q)

none_going : (q : FileParser) → None ≡ going_step q → ⊥
none_going q e = cc

some_step : (a b : Step FileParser ReadHead) → Some a ≡ Some b → a ≡ b
some_step a b e = cc

abbrev fed : List Terminal → Option (Step FileParser ReadHead) → Option (Step FileParser ReadHead)
fed ts o = elim o [ None ↦ None | Some a ↦ feed file_offer ts a ]

feed_by : (ts l : List Terminal) (q : FileParser) → ((a : Step FileParser ReadHead) → feed file_offer ts a ≡ Some (step.Goes q) → feed file_offer (ts ++ l) a ≡ feed file_offer l (step.Goes q))
    → (o : Option (Step FileParser ReadHead)) → fed ts o ≡ Some (step.Goes q) → fed (ts ++ l) o ≡ feed file_offer l (step.Goes q)
feed_by ts l q ih None e = absurd (none_going q e)
feed_by ts l q ih (Some a) e = ih a e

feed_more : (ts l : List Terminal) (q : FileParser) (a : Step FileParser ReadHead) → feed file_offer ts a ≡ Some (step.Goes q) → feed file_offer (ts ++ l) a ≡ feed file_offer l (step.Goes q)
feed_more [] l q a e = ap (feed file_offer l) (some_step a (step.Goes q) e)
feed_more (t ∷ ts) l q (step.Ends r) e = absurd (none_going q e)
feed_more (t ∷ ts) l q (step.Goes p) e = feed_by ts l q (λ a k. feed_more ts l q a k) (file_offer p t) e

-- the last of some tokens
abbrev last_of : Terminal → List Terminal → Terminal
last_of d [] = d
last_of d (t ∷ ts) = last_of t ts

last_is : (d : Terminal) (ts : List Terminal) (t : Terminal) → last_of d (ts ++ t ∷ []) ≡ t
last_is d [] t = refl
last_is d (u ∷ us) t = last_is u us t

same_last : (us vs : List Terminal) (t o : Terminal) → us ++ t ∷ [] ≡ vs ++ o ∷ [] → o ≡ t
same_last us vs t o e = sym (last_is t vs o) ∙ sym (ap (last_of t) e) ∙ last_is t us t

abbrev block_on : List Terminal → block.Next → block.Next
block_on ts n = elim n [ None ↦ None | Some q ↦ block.run ts q ]

-- one token more of a declaration
ended_sound : (k : Kept) (t : Terminal) (us vs : List Terminal) → SoFar k us → (a : ReadHead) → HeadOf a (vs ++ t ∷ []) → OnNext (ended k t.place a) (us ++ (vs ++ t ∷ []))
ended_sound k t us vs so (read.Declaration at e) d =
    let P : Option External → Type 0 = λ x. SoFar (more k at x) (us ++ (vs ++ t ∷ [])) in
    subst P (sym (ap declared_of d.4 ∙ declared_kept d.0 d.1)) (so_more k us so at (Declaration d.0) d.1 (vs ++ t ∷ []) (declaration d.2))
ended_sound k t us vs so (read.Function at e) d =
    let fs = d.2 in
    let o = d.3 in
    let same : o ≡ t = same_last vs fs t o d.6 in
    let brace : Is t symbol.OpenBrace = ap (λ x. x.symbol) (sym same) ∙ d.5 in
    (us, fs, t ∷ [], so, (d.0, d.1, d.4, d.8), ap (λ y. block_on [] (begins y [] t)) brace, ap (λ l. us ++ l) (d.6 ∙ ap (λ x. fs ++ x ∷ []) same))

headed_by : FileIs → (k : Kept) (p : FileParser) (t : Terminal) (ts us vs : List Terminal) → SoFar k us → reading_file vs ≡ Some (step.Goes p) → ts ≡ us ++ vs
    → (o : Option (Step FileParser ReadHead)) → file_offer p t ≡ o → OnNext (headed k t.place o) (ts ++ t ∷ [])
headed_by law k p t ts us vs so r all None e = tt
headed_by law k p t ts us vs so r all (Some (step.Goes q)) e =
    (us, vs ++ t ∷ [], so, feed_more vs (t ∷ []) p (step.Goes file.Begin) r ∙ ap (fed []) e, ap (λ l. l ++ t ∷ []) all ∙ append_assoc us vs (t ∷ []))
headed_by law k p t ts us vs so r all (Some (step.Ends a)) e =
    let P : List Terminal → Type 0 = λ l. OnNext (ended k t.place a) l in
    subst P (sym (ap (λ l. l ++ t ∷ []) all ∙ append_assoc us vs (t ∷ [])))
    (ended_sound k t us vs so a (law (vs ++ t ∷ []) a (feed_more vs (t ∷ []) p (step.Goes file.Begin) r ∙ ap (fed []) e)))

-- one token more of a function's body
none_reader : (q : Reader) → None ≡ Some q → ⊥
none_reader q e = cc

reader_same : (p q : Reader) → Some p ≡ Some q → p ≡ q
reader_same p q e = cc

run_by : (ts l : List Terminal) (q : Reader) → ((p : Reader) → block.run ts p ≡ Some q → block.run (ts ++ l) p ≡ block.run l q) → (n : block.Next) → block_on ts n ≡ Some q → block_on (ts ++ l) n ≡ block.run l q
run_by ts l q ih None e = absurd (none_reader q e)
run_by ts l q ih (Some p) e = ih p e

run_more : (ts l : List Terminal) (p q : Reader) → block.run ts p ≡ Some q → block.run (ts ++ l) p ≡ block.run l q
run_more [] l p q e = ap (block.run l) (reader_same p q e)
run_more (t ∷ ts) l p q e = run_by ts l q (λ r k. run_more ts l r q k) (block.shift p t) e

defined_sound : (k : Kept) (at : Place) (f : Option FunctionHead) (b : Option (Built StatementTree)) (us vs ws : List Terminal) → SoFar k us → IsFunction f vs
    → (x : StatementTree) (n : ℕ) → IsBlock x n ws → b ≡ cut x n → SoFar (more k at (defined_of f b)) (us ++ (vs ++ ws))
defined_sound k at f b us vs ws so d x n db kb =
    let P : Option External → Type 0 = λ e. SoFar (more k at e) (us ++ (vs ++ ws)) in
    subst P (sym (ap₂ defined_of d.3 kb ∙ defined_kept d.0 x d.1 n)) (so_more k us so at (Definition d.0 x) (max d.1 n) (vs ++ ws) (definition d.2 db))

with_body_sound : BlockIs → (m : BlockMode) (k : Kept) (at brace : Place) (f : Option FunctionHead) (r : Reader) (us vs ws : List Terminal) → SoFar k us → IsFunction f vs
    → block.run ws start_block ≡ Some r → r.mode ≡ m → OnNext (with_body m k at brace f r) (us ++ (vs ++ ws))
with_body_sound law (Done b) k at brace f r us vs ws so d e m =
    let x = law ws r b e m in
    defined_sound k (deep_place at brace f) f b us vs ws so d x.0 x.1 x.2 x.3
with_body_sound law _ k at brace f r us vs ws so d e m = (us, vs, ws, so, d, e, refl)

bodied_by : BlockIs → (k : Kept) (at brace : Place) (f : Option FunctionHead) (r : Reader) (t : Terminal) (ts us vs ws : List Terminal) → SoFar k us → IsFunction f vs
    → block.run ws start_block ≡ Some r → ts ≡ us ++ (vs ++ ws) → (n : block.Next) → block.shift r t ≡ n → OnNext (bodied k at brace f n) (ts ++ t ∷ [])
bodied_by law k at brace f r t ts us vs ws so d e all None s = tt
bodied_by law k at brace f r t ts us vs ws so d e all (Some q) s =
    let P : List Terminal → Type 0 = λ l. OnNext (with_body q.mode k at brace f q) l in
    subst P (sym (ap (λ l. l ++ t ∷ []) all ∙ append_assoc us (vs ++ ws) (t ∷ []) ∙ ap (λ l. us ++ l) (append_assoc vs ws (t ∷ []))))
    (with_body_sound law q.mode k at brace f q us vs (ws ++ t ∷ []) so d (run_more ws (t ∷ []) start_block r e ∙ ap (block_on []) s) refl)

-- the laws of the parts
pub record Being : Type 0 where
  pub files : FileIs
  pub blocks : BlockIs

mode_sound : Being → (m : Mode) (k : Kept) (t : Terminal) (ts : List Terminal) → Holds m k ts → OnNext (shift_mode m k t) (ts ++ t ∷ [])
mode_sound laws Between k t ts d = headed_by laws.files k file.Begin t ts ts [] d refl (sym (append-nil ts)) (file_offer file.Begin t) refl
mode_sound laws (Heading p) k t ts d = headed_by laws.files k p t ts d.0 d.1 d.2 d.3 d.4 (file_offer p t) refl
mode_sound laws (Body at brace f r) k t ts d = bodied_by laws.blocks k at brace f r t ts d.0 d.1 d.2 d.3 d.4 d.5 d.6 (block.shift r t) refl

abbrev going : List Terminal → Next → Next
going ts n = elim n [ None ↦ None | Some q ↦ run ts q ]

none_parser : (q : UnitParser) → None ≡ Some q → ⊥
none_parser q e = cc

same_parser : (p q : UnitParser) → Some p ≡ Some q → p ≡ q
same_parser p q e = cc

parse_by : (ts done : List Terminal) (t : Terminal) → ((p q : UnitParser) → Holds p.mode p.kept (done ++ t ∷ []) → run ts p ≡ Some q → Holds q.mode q.kept ((done ++ t ∷ []) ++ ts))
    → (n : Next) (q : UnitParser) → OnNext n (done ++ t ∷ []) → going ts n ≡ Some q → Holds q.mode q.kept (done ++ t ∷ ts)
parse_by ts done t ih None q d e = absurd (none_parser q e)
parse_by ts done t ih (Some p) q d e = let P : List Terminal → Type 0 = λ l. Holds q.mode q.kept l in subst P (append_assoc done (t ∷ []) ts) (ih p q d e)

parse_sound : Being → (ts done : List Terminal) (p q : UnitParser) → Holds p.mode p.kept done → run ts p ≡ Some q → Holds q.mode q.kept (done ++ ts)
parse_sound laws [] done p q d e =
    let P : UnitParser → Type 0 = λ r. Holds r.mode r.kept (done ++ []) in
    let Q : List Terminal → Type 0 = λ l. Holds p.mode p.kept l in
    subst P (same_parser p q e) (subst Q (sym (append-nil done)) d)
parse_sound laws (t ∷ ts) done p q d e = parse_by ts done t (λ r q' k e'. parse_sound laws ts (done ++ t ∷ []) r q' k e') (shift p t) q (mode_sound laws p.mode p.kept t done d) e

pub unit_sound : Being → (ts : List Terminal) (q : UnitParser) → run ts start ≡ Some q → Holds q.mode q.kept ts
unit_sound laws ts q e = parse_sound laws ts [] start q ([], 0, nothing, (refl, lit≤ tt)) e
