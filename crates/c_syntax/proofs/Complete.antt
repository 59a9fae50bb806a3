-- Where tokens are a unit, they are read.
use Rattle.std.proofs.Common.{◌≡◌, ℕ, Bool, true, false, List, [], ◌∷◌, ◌++◌, Option, Some, None, refl, sym, ◌∙◌, ap, subst, append_assoc}
use Rattle.c_lex.specs.declared.token.Place.{Place}
use Rattle.c_symbol.specs.declared.terminal.Terminal.{Terminal}
use Rattle.c_symbol.specs.declared.symbol.Symbol.TheVariants as symbol
use Rattle.c_declaration.specs.declared.built.Built.{Built}
use Rattle.c_declaration.specs.declared.step.Step.{Step}
use Rattle.c_declaration.specs.declared.step.Step.TheVariants as step
use Rattle.c_trees.specs.declared.declaration.Head.{Head}
use Rattle.c_trees.specs.declared.declaration.FunctionHead.{FunctionHead}
use Rattle.c_declaration.specs.declared.state.FileParser.{FileParser}
use Rattle.c_declaration.specs.declared.state.FileParser.TheVariants as file
use Rattle.c_declaration.specs.declared.state.ReadHead.{ReadHead}
use Rattle.c_declaration.specs.declared.state.ReadHead.TheVariants as read
use Rattle.c_declaration.specs.FileReading.{file_offer}
use Rattle.c_declaration.specs.Feeding.{feed}
use Rattle.c_declaration.specs.Grammar.{Is}
use Rattle.c_declaration.specs.Grown.{cut}
use Rattle.c_declaration.specs.Laws.{kept, reading_file, HeadEnds, FunctionEnds}
use Rattle.c_trees.specs.Statements.{StatementTree}
use Rattle.c_statement.specs.Grammar.{IsOpened, opened, next_local, IsBlock, closed, IsBegun, only_declarations, next_statement}
use Rattle.c_statement.specs.Laws.{BlockEnds}
use Rattle.c_statement.specs.Machine.{begins, start_block, begun_block}
use Rattle.c_statement.specs.Machine as block
use Rattle.c_statement.specs.declared.state.Mode.{Mode as BlockMode}
use Rattle.c_statement.specs.declared.state.Mode.TheVariants.{Done}
use Rattle.c_statement.specs.declared.state.Reader.{Reader}
use Rattle.c_trees.specs.declared.unit.External.{External}
use Rattle.c_syntax.specs.declared.state.Kept.{Kept}
use Rattle.c_syntax.specs.declared.state.Kept.TheVariants.{All}
use Rattle.c_syntax.specs.declared.state.Mode.{Mode}
use Rattle.c_syntax.specs.declared.state.Mode.TheVariants.{Between, Heading, Body}
use Rattle.c_syntax.specs.declared.state.UnitParser.{UnitParser}
use Rattle.c_syntax.specs.Grammar.{IsExternal, declaration, definition, IsUnit, first_external, next_external}
use Rattle.c_syntax.specs.Machine.{Next, more, declared_of, defined_of, deep_place, with_body, bodied, ended, headed, run, start}
use Rattle.c_syntax.proofs.Keeping.{KeptIs, more_is, first_is, declared_kept, defined_kept}

abbrev pub at_mode : Kept → Mode → UnitParser
at_mode k mode = record { kept = k; mode = mode }

abbrev pub on_next : List Terminal → Next → Next
on_next ts next = elim next [ None ↦ None | Some q ↦ run ts q ]

true_false : true ≡ false → ⊥
true_false e = cc

-- answers of the reader of declarations
abbrev answer : ReadHead → Option (Step FileParser ReadHead)
answer a = Some (step.Ends a)

none_answer : (a : ReadHead) → None ≡ answer a → ⊥
none_answer a e = cc

goes_answer : (p : FileParser) (a : ReadHead) → Some (step.Goes p) ≡ answer a → ⊥
goes_answer p a e = cc

answers_same : (a b : ReadHead) → answer a ≡ answer b → a ≡ b
answers_same a b e = cc

abbrev fed : List Terminal → Option (Step FileParser ReadHead) → Option (Step FileParser ReadHead)
fed ts o = elim o [ None ↦ None | Some a ↦ feed file_offer ts a ]

-- a declaration
declared_last : (k : Kept) (place at : Place) (e : Option Head) (a : ReadHead) (ts rest : List Terminal) → feed file_offer ts (step.Ends a) ≡ answer (read.Declaration at e)
    → on_next (ts ++ rest) (ended k place a) ≡ run rest (at_mode (more k at (declared_of e)) Between)
declared_last k place at e a [] rest d = ap (λ x. on_next rest (ended k place x)) (answers_same a (read.Declaration at e) d)
declared_last k place at e a (t ∷ ts) rest d = absurd (none_answer (read.Declaration at e) d)

declared_by : (k : Kept) (place at : Place) (e : Option Head) (ts rest : List Terminal)
    → ((q : FileParser) → feed file_offer ts (step.Goes q) ≡ answer (read.Declaration at e) → run (ts ++ rest) (at_mode k (Heading q)) ≡ run rest (at_mode (more k at (declared_of e)) Between))
    → (o : Option (Step FileParser ReadHead)) → fed ts o ≡ answer (read.Declaration at e) → on_next (ts ++ rest) (headed k place o) ≡ run rest (at_mode (more k at (declared_of e)) Between)
declared_by k place at e ts rest ih None d = absurd (none_answer (read.Declaration at e) d)
declared_by k place at e ts rest ih (Some (step.Goes q)) d = ih q d
declared_by k place at e ts rest ih (Some (step.Ends a)) d = declared_last k place at e a ts rest d

declared_runs : (k : Kept) (at : Place) (e : Option Head) (ts rest : List Terminal) (p : FileParser) → feed file_offer ts (step.Goes p) ≡ answer (read.Declaration at e)
    → run (ts ++ rest) (at_mode k (Heading p)) ≡ run rest (at_mode (more k at (declared_of e)) Between)
declared_runs k at e [] rest p d = absurd (goes_answer p (read.Declaration at e) d)
declared_runs k at e (t ∷ ts) rest p d = declared_by k t.place at e ts rest (λ q i. declared_runs k at e ts rest q i) (file_offer p t) d

declaration_runs : (k : Kept) (at : Place) (e : Option Head) (ts rest : List Terminal) → reading_file ts ≡ answer (read.Declaration at e)
    → run (ts ++ rest) (at_mode k Between) ≡ run rest (at_mode (more k at (declared_of e)) Between)
declaration_runs k at e [] rest d = absurd (goes_answer file.Begin (read.Declaration at e) d)
declaration_runs k at e (t ∷ ts) rest d = declared_runs k at e (t ∷ ts) rest file.Begin d

-- what stands before a function's body, and the `{`
abbrev body_at : Kept → Place → Option FunctionHead → Terminal → UnitParser
body_at k at e o = at_mode k (Body at o.place e (begun_block o.place))

no_more : (a : ReadHead) (ts : List Terminal) (o : Terminal) (b : ReadHead) → feed file_offer (ts ++ o ∷ []) (step.Ends a) ≡ answer b → ⊥
no_more a [] o b d = none_answer b d
no_more a (t ∷ ts) o b d = none_answer b d

function_last : (k : Kept) (at : Place) (e : Option FunctionHead) (o : Terminal) (rest : List Terminal) (a : Option (Step FileParser ReadHead)) → fed [] a ≡ answer (read.Function at e)
    → on_next rest (headed k o.place a) ≡ run rest (body_at k at e o)
function_last k at e o rest None d = absurd (none_answer (read.Function at e) d)
function_last k at e o rest (Some (step.Goes q)) d = absurd (goes_answer q (read.Function at e) d)
function_last k at e o rest (Some (step.Ends a)) d = ap (λ x. on_next rest (ended k o.place x)) (answers_same a (read.Function at e) d)

function_by : (k : Kept) (place at : Place) (e : Option FunctionHead) (ts : List Terminal) (o : Terminal) (rest : List Terminal)
    → ((q : FileParser) → feed file_offer (ts ++ o ∷ []) (step.Goes q) ≡ answer (read.Function at e) → run ((ts ++ o ∷ []) ++ rest) (at_mode k (Heading q)) ≡ run rest (body_at k at e o))
    → (a : Option (Step FileParser ReadHead)) → fed (ts ++ o ∷ []) a ≡ answer (read.Function at e) → on_next ((ts ++ o ∷ []) ++ rest) (headed k place a) ≡ run rest (body_at k at e o)
function_by k place at e ts o rest ih None d = absurd (none_answer (read.Function at e) d)
function_by k place at e ts o rest ih (Some (step.Goes q)) d = ih q d
function_by k place at e ts o rest ih (Some (step.Ends a)) d = absurd (no_more a ts o (read.Function at e) d)

function_runs : (k : Kept) (at : Place) (e : Option FunctionHead) (ts : List Terminal) (o : Terminal) (rest : List Terminal) (p : FileParser)
    → feed file_offer (ts ++ o ∷ []) (step.Goes p) ≡ answer (read.Function at e) → run ((ts ++ o ∷ []) ++ rest) (at_mode k (Heading p)) ≡ run rest (body_at k at e o)
function_runs k at e [] o rest p d = function_last k at e o rest (file_offer p o) d
function_runs k at e (t ∷ ts) o rest p d = function_by k t.place at e ts o rest (λ q i. function_runs k at e ts o rest q i) (file_offer p t) d

function_begins : (k : Kept) (at : Place) (e : Option FunctionHead) (ts : List Terminal) (o : Terminal) (rest : List Terminal) → reading_file (ts ++ o ∷ []) ≡ answer (read.Function at e)
    → run ((ts ++ o ∷ []) ++ rest) (at_mode k Between) ≡ run rest (body_at k at e o)
function_begins k at e [] o rest d = function_runs k at e [] o rest file.Begin d
function_begins k at e (t ∷ ts) o rest d = function_runs k at e (t ∷ ts) o rest file.Begin d

-- a function's body
abbrev is_done : BlockMode → Bool
is_done (Done _) = true
is_done _ = false

abbrev done_at : Option (Built StatementTree) → Reader
done_at b = record { stack = []; mode = Done b }

abbrev reads : Reader → block.Next
reads q = Some q

none_reads : (q : Reader) → None ≡ reads q → ⊥
none_reads q e = cc

reads_same : (p q : Reader) → reads p ≡ reads q → p ≡ q
reads_same p q e = cc

done_same : (a b : Option (Built StatementTree)) → Done a ≡ Done b → a ≡ b
done_same a b e = cc

abbrev block_on : List Terminal → block.Next → block.Next
block_on ts n = elim n [ None ↦ None | Some q ↦ block.run ts q ]

abbrev with_rest : Kept → Place → Place → Option FunctionHead → Option (Built StatementTree) → UnitParser
with_rest k at brace f b = at_mode (more k (deep_place at brace f) (defined_of f b)) Between

done_runs : (k : Kept) (at brace : Place) (f : Option FunctionHead) (b a : Option (Built StatementTree)) (ts rest : List Terminal) (q : Reader) → q.mode ≡ Done a → block.run ts q ≡ reads (done_at b)
    → run (ts ++ rest) (with_rest k at brace f a) ≡ run rest (with_rest k at brace f b)
done_runs k at brace f b a [] rest q m d =
    ap (λ x. run rest (with_rest k at brace f x)) (done_same a b (sym m ∙ ap (λ r. r.mode) (reads_same q (done_at b) d)))
done_runs k at brace f b a (t ∷ ts) rest q m d = absurd (none_reads (done_at b) (sym (ap (λ x. block_on ts (block.shift_mode x q.stack t)) m) ∙ d))

body_more : (k : Kept) (at brace : Place) (f : Option FunctionHead) (b : Option (Built StatementTree)) (ts rest : List Terminal) (q : Reader)
    → (is_done q.mode ≡ false → run (ts ++ rest) (at_mode k (Body at brace f q)) ≡ run rest (with_rest k at brace f b))
    → (m : BlockMode) → q.mode ≡ m → block.run ts q ≡ reads (done_at b) → on_next (ts ++ rest) (with_body m k at brace f q) ≡ run rest (with_rest k at brace f b)
body_more k at brace f b ts rest q ih (Done a) m d = done_runs k at brace f b a ts rest q m d
body_more k at brace f b ts rest q ih _ m d = ih (ap is_done m)

body_by : (k : Kept) (at brace : Place) (f : Option FunctionHead) (b : Option (Built StatementTree)) (ts rest : List Terminal)
    → ((q : Reader) → is_done q.mode ≡ false → block.run ts q ≡ reads (done_at b) → run (ts ++ rest) (at_mode k (Body at brace f q)) ≡ run rest (with_rest k at brace f b))
    → (n : block.Next) → block_on ts n ≡ reads (done_at b) → on_next (ts ++ rest) (bodied k at brace f n) ≡ run rest (with_rest k at brace f b)
body_by k at brace f b ts rest ih None d = absurd (none_reads (done_at b) d)
body_by k at brace f b ts rest ih (Some q) d = body_more k at brace f b ts rest q (λ m. ih q m d) q.mode refl d

body_runs : (k : Kept) (at brace : Place) (f : Option FunctionHead) (b : Option (Built StatementTree)) (ts rest : List Terminal) (q : Reader) → is_done q.mode ≡ false
    → block.run ts q ≡ reads (done_at b) → run (ts ++ rest) (at_mode k (Body at brace f q)) ≡ run rest (with_rest k at brace f b)
body_runs k at brace f b [] rest q m d = absurd (true_false (sym (ap (λ r. is_done r.mode) (reads_same q (done_at b) d)) ∙ m))
body_runs k at brace f b (t ∷ ts) rest q m d = body_by k at brace f b ts rest (λ r i j. body_runs k at brace f b ts rest r i j) (block.shift q t) d

-- a block begins with its `{`
abbrev Braced : List Terminal → Type 0
Braced ts = (o : Terminal) × (us : List Terminal) × Is o symbol.OpenBrace × (ts ≡ o ∷ us)

opened_braced : {x : StatementTree} {m : ℕ} {ts : List Terminal} → IsOpened x m ts → Braced ts
opened_braced (opened o oe) = (o, [], oe, refl)
opened_braced (next_local {vs} d d') = let r = opened_braced d in (r.0, r.1 ++ vs, r.2, ap (λ l. l ++ vs) r.3)

begun_braced : {x : StatementTree} {m : ℕ} {ts : List Terminal} → IsBegun x m ts → Braced ts
begun_braced (only_declarations d) = opened_braced d
begun_braced (next_statement {vs} d d') = let r = begun_braced d in (r.0, r.1 ++ vs, r.2, ap (λ l. l ++ vs) r.3)

block_braced : {x : StatementTree} {m : ℕ} {ts : List Terminal} → IsBlock x m ts → Braced ts
block_braced (closed c d ce) = let r = begun_braced d in (r.0, r.1 ++ c ∷ [], r.2, ap (λ l. l ++ c ∷ []) r.3)

-- the laws of the parts
pub record Ending : Type 0 where
  pub heads : HeadEnds
  pub functions : FunctionEnds
  pub blocks : BlockEnds

body_read : Ending → {x : StatementTree} {n : ℕ} (o : Terminal) (us : List Terminal) → Is o symbol.OpenBrace → IsBlock x n (o ∷ us) → block.run us (begun_block o.place) ≡ reads (done_at (cut x n))
body_read laws {x} {n} o us oe d = sym (ap (λ y. block_on us (begins y [] o)) oe) ∙ laws.blocks x n (o ∷ us) d

-- an external declaration
abbrev Moved : External → ℕ → List Terminal → Type 0
Moved e h ts = (k : Kept) → (at : Place) × ((rest : List Terminal) → run (ts ++ rest) (at_mode k Between) ≡ run rest (at_mode (more k at (kept e h)) Between))

external_runs : Ending → {e : External} {h : ℕ} {ts : List Terminal} → IsExternal e h ts → Moved e h ts
external_runs laws (declaration {d} {h} {ts} x) k =
    (d.place, λ rest. declaration_runs k d.place (kept d h) ts rest (laws.heads d h ts x) ∙ ap (λ v. run rest (at_mode (more k d.place v) Between)) (declared_kept d h))
external_runs laws (definition {d} {x} {m} {n} {us} {vs} dh db) k =
    let braced = block_braced db in
    let o = braced.0 in
    let ws = braced.1 in
    let oe = braced.2 in
    let P : List Terminal → Type 0 = λ l. IsBlock x n l in
    let f = kept d m in (
      deep_place d.place o.place f,
      λ rest.
          ap (λ l. run ((us ++ l) ++ rest) (at_mode k Between)) braced.3
          ∙ ap (λ l. run l (at_mode k Between)) (append_assoc us (o ∷ ws) rest ∙ sym (append_assoc us (o ∷ []) (ws ++ rest)))
          ∙ function_begins k d.place f us o (ws ++ rest) (laws.functions d m us o dh oe)
          ∙ body_runs k d.place o.place f (cut x n) ws rest (begun_block o.place) refl (body_read laws o ws oe (subst P braced.3 db))
          ∙ ap (λ v. run rest (at_mode (more k (deep_place d.place o.place f) v) Between)) (defined_kept d x m n),
    )

-- a unit
abbrev pub Reached : List External → ℕ → List Terminal → Type 0
Reached es h ts = (k : Kept) × KeptIs k es h × ((rest : List Terminal) → run (ts ++ rest) start ≡ run rest (at_mode k Between))

pub unit_runs : Ending → {es : List External} {h : ℕ} {ts : List Terminal} → IsUnit es h ts → Reached es h ts
unit_runs laws (first_external {e} {h} {ts} d) =
    let r = external_runs laws d (All []) in
    (more (All []) r.0 (kept e h), first_is r.0 e h, r.1)
unit_runs laws (next_external {es} {e} {m} {n} {us} {vs} d d') =
    let r = unit_runs laws d in
    let r' = external_runs laws d' r.0 in
    (more r.0 r'.0 (kept e n), more_is r.0 es m r.1 r'.0 e n, λ rest. ap (λ l. run l start) (append_assoc us vs rest) ∙ r.2 (vs ++ rest) ∙ r'.1 rest)
