-- Where tokens are a declaration at file scope, they are read.
use Rattle.std.proofs.Common.{◌≡◌, ℕ, suc, ◌+◌, max, Bool, true, false, nat_le, List, [], ◌∷◌, ◌++◌, Option, Some, None, refl, sym, ◌∙◌, ap, ap₂, subst, append_assoc, append-nil}
use Rattle.std.specs.Prelude.{if◌then◌else◌}
use Rattle.c_lex.specs.declared.token.Place.{Place}
use Rattle.c_lex.specs.declared.keyword.Keyword.TheVariants as keyword
use Rattle.c_symbol.specs.declared.terminal.Terminal.{Terminal}
use Rattle.c_symbol.specs.declared.symbol.LeafKind.TheVariants.{Name}
use Rattle.c_symbol.specs.declared.symbol.BinaryOp.TheVariants.{Comma}
use Rattle.c_symbol.specs.declared.symbol.TypeWord.{TypeWord}
use Rattle.c_symbol.specs.declared.symbol.TypeWord.TheVariants as a_word
use Rattle.c_symbol.specs.declared.symbol.Symbol.{Symbol}
use Rattle.c_symbol.specs.declared.symbol.Symbol.TheVariants.{Leaf, Word, Binary, Keyword, Struct as StructWord, OpenBrace, CloseBrace, Semicolon}
use Rattle.c_expr.specs.Grammar.{spec_of, IsSpec, one_word, unsigned_int, tagged}
use Rattle.c_trees.specs.declared.expression.Spec.{Spec}
use Rattle.c_trees.specs.declared.expression.Spec.TheVariants.{Unsigned, UnsignedInt, Struct}
use Rattle.c_trees.specs.Declarators.{DeclaratorTree}
use Rattle.c_trees.specs.Initializers.{InitialTree}
use Rattle.c_declaration.specs.declared.built.Built.{Built}
use Rattle.c_trees.specs.declared.declaration.Declared.{Declared}
use Rattle.c_trees.specs.declared.declaration.Storage.{Storage}
use Rattle.c_trees.specs.declared.declaration.Storage.TheVariants.{Plain, Extern, Static}
use Rattle.c_trees.specs.declared.declaration.FileSpec.{FileSpec}
use Rattle.c_trees.specs.declared.declaration.FileSpec.TheVariants as file_spec
use Rattle.c_trees.specs.declared.declaration.MemberPart.{MemberPart}
use Rattle.c_trees.specs.declared.declaration.MemberPart.TheVariants.{Opens}
use Rattle.c_trees.specs.declared.declaration.Head.{Head}
use Rattle.c_trees.specs.declared.declaration.FunctionHead.{FunctionHead}
use Rattle.c_declaration.specs.declared.state.NameParser.{NameParser}
use Rattle.c_declaration.specs.declared.state.ReadName.{ReadName}
use Rattle.c_declaration.specs.declared.state.ReadName.TheVariants.{Bare, With}
use Rattle.c_declaration.specs.declared.state.MembersParser.{MembersParser}
use Rattle.c_declaration.specs.declared.state.RowMode.TheVariants as row_mode
use Rattle.c_declaration.specs.declared.state.FileFront.{FileFront}
use Rattle.c_declaration.specs.declared.state.Names as names
use Rattle.c_declaration.specs.declared.state.FileParser.{FileParser}
use Rattle.c_declaration.specs.declared.state.FileParser.TheVariants.{Begin, Stored, Tagging, Typed, Members, Whole, Naming}
use Rattle.c_declaration.specs.declared.state.ReadHead.{ReadHead}
use Rattle.c_declaration.specs.declared.state.ReadHead.TheVariants.{Declaration, Function}
use Rattle.c_declaration.specs.declared.step.Step.{Step}
use Rattle.c_declaration.specs.declared.step.Step.TheVariants.{Goes, Ends}
use Rattle.c_declaration.specs.Feeding.{feed}
use Rattle.c_declaration.specs.Grown.{cut, bare_name, name_with}
use Rattle.c_declaration.specs.Grammar.{Is, first_place, IsDeclarator, IsStorage, plain_storage, extern_storage, static_storage, AreMembers, IsFileSpec, named_spec, struct_spec, IsFileDeclared, bare, with_value, AreFileDeclared, one_file_name, more_file_names, IsHead, only_spec, with_names, IsFunctionHead, function_head}
use Rattle.c_declaration.specs.DeclaratorReading.{both_words}
use Rattle.c_declaration.specs.InitialReading.{is_open_brace}
use Rattle.c_declaration.specs.NameReading.{name_offer, name_start, is_equals}
use Rattle.c_declaration.specs.LocalReading.{is_int}
use Rattle.c_declaration.specs.MembersReading.{Parts, last, tree_in, tag_of, members_offer, members_start}
use Rattle.c_declaration.specs.FileReading.{Next, goes, front_at, both, head_with, function_with, bare_declared, declared_of, no_names, more_names, body, declared, behind_name, name_offered, naming, is_semicolon, whole, struct_of, members_offered, opened, worded, typed, typing, beginning, tagging, file_offer}
use Rattle.c_declaration.specs.Laws.{kept, goes_on, HeadEnds, FunctionEnds}
use Rattle.c_declaration.proofs.Fed.{onward, one_step, then_step, inside}
use Rattle.c_declaration.proofs.DeclaredNames.{EndsName, comma, semicolon, goes_on_name, equals_name, closes_name, ReadsName, reads_bare, reads_with, Begins, declarator_begins, more_begins, tree_kept, last_kept, both_kept}
use Rattle.c_declaration.proofs.MembersComplete as member
use Rattle.c_declaration.proofs.MembersComplete.{max_none, max_zero}

abbrev run : List Terminal → FileParser → Next
run ts p = feed file_offer ts (Goes p)

same_place : (at at' : Place) → Some at ≡ Some at' → at ≡ at'
same_place at at' e = cc

-- one token
begin_step : (t : Terminal) (ts : List Terminal) (y : Symbol) (next : FileParser) → Is t y → beginning y t.place ≡ goes next → run (t ∷ ts) Begin ≡ run ts next
begin_step t ts y next e k = one_step file_offer Begin t ts (goes next) (ap (λ v. beginning v t.place) e ∙ k)

stored_step : (f : FileFront) (t : Terminal) (ts : List Terminal) (y : Symbol) (next : FileParser) → Is t y → typing f y t.place ≡ goes next → run (t ∷ ts) (Stored f) ≡ run ts next
stored_step f t ts y next e k = one_step file_offer (Stored f) t ts (goes next) (ap (λ v. typing f v t.place) e ∙ k)

tag_step : (f : FileFront) (at : Place) (t : Terminal) (ts : List Terminal) → Is t (Leaf Name) → run (t ∷ ts) (Tagging f at) ≡ run ts (Typed f at (Struct t.text))
tag_step f at t ts e = one_step file_offer (Tagging f at) t ts (goes (Typed f at (Struct t.text))) (ap (λ v. tagging f at v t.text) e)

abbrev behind_brace : FileFront → Place → Spec → Terminal → Bool → Next
behind_brace f at base t b = if b then opened f at (tag_of base) else whole f (Some (file_spec.Named base)) t

abbrev typed_by : FileFront → Place → Spec → Terminal → Bool → Next
typed_by f at base t b = if b then worded f at (both_words base) else behind_brace f at base t (is_open_brace t.symbol)

int_step : (f : FileFront) (at : Place) (t : Terminal) (ts : List Terminal) → Is t (Word a_word.Int) → run (t ∷ ts) (Typed f at Unsigned) ≡ run ts (Typed f at UnsignedInt)
int_step f at t ts e = one_step file_offer (Typed f at Unsigned) t ts (goes (Typed f at UnsignedInt)) (ap (λ v. typed_by f at Unsigned t (is_int v)) e)

brace_step : (f : FileFront) (at : Place) (tag : List ℕ) (t : Terminal) (ts : List Terminal) → Is t OpenBrace → run (t ∷ ts) (Typed f at (Struct tag)) ≡ run ts (Members f (members_start at tag))
brace_step f at tag t ts e =
    one_step file_offer (Typed f at (Struct tag)) t ts (goes (Members f (members_start at tag)))
    (ap (λ v. typed_by f at (Struct tag) t (is_int v)) e ∙ ap (λ v. behind_brace f at (Struct tag) t (is_open_brace v)) e)

-- what may follow a type
pub record Follows (t : Terminal) : Type 0 where
  pub no_int : is_int t.symbol ≡ false
  pub no_brace : is_open_brace t.symbol ≡ false

typed_follows : (f : FileFront) (at : Place) (base : Spec) (t : Terminal) (ts : List Terminal) → Follows t → run (t ∷ ts) (Typed f at base) ≡ onward file_offer ts (whole f (Some (file_spec.Named base)) t)
typed_follows f at base t ts d = ap (λ v. onward file_offer ts (typed_by f at base t v)) d.no_int ∙ ap (λ v. onward file_offer ts (behind_brace f at base t v)) d.no_brace

-- the first token of a type, in a state
abbrev TakesWord : FileFront → FileParser → Option Place → Type 0
TakesWord f p first = (t : Terminal) (ts : List Terminal) (w : TypeWord) → first ≡ Some t.place → Is t (Word w) → run (t ∷ ts) p ≡ run ts (Typed f t.place (spec_of w))

abbrev TakesTag : FileFront → FileParser → Option Place → Type 0
TakesTag f p first = (t : Terminal) (ts : List Terminal) → first ≡ Some t.place → Is t StructWord → run (t ∷ ts) p ≡ run ts (Tagging f t.place)

spec_run : {base : Spec} {vs : List Terminal} → IsSpec base vs → (f : FileFront) (p : FileParser) → TakesWord f p (first_place vs) → TakesTag f p (first_place vs) → (t : Terminal) → Follows t → (rest : List Terminal)
    → run (vs ++ t ∷ rest) p ≡ onward file_offer rest (whole f (Some (file_spec.Named base)) t)
spec_run (one_word v w e) f p word tag t d rest = word v (t ∷ rest) w refl e ∙ typed_follows f v.place (spec_of w) t rest d
spec_run (unsigned_int v i e e') f p word tag t d rest =
    word v (i ∷ t ∷ rest) a_word.Unsigned refl e ∙ int_step f v.place i (t ∷ rest) e' ∙ typed_follows f v.place UnsignedInt t rest d
spec_run (tagged v u e e') f p word tag t d rest =
    tag v (u ∷ t ∷ rest) refl e ∙ tag_step f v.place u (t ∷ rest) e' ∙ typed_follows f v.place (Struct u.text) t rest d

-- members
members_inside : (f : FileFront) (p : MembersParser) (t : Terminal) (r : MembersParser) → members_offer p t ≡ Some (Goes r) → file_offer (Members f p) t ≡ goes (Members f r)
members_inside f p t r e = ap (members_offered f) e

struct_by : (ps : List MemberPart) (b : Bool) → struct_of (if b then Some ps else None) ≡ (if b then Some (file_spec.Members ps) else None)
struct_by ps true = refl
struct_by ps false = refl

pub struct_kept : (ps : List MemberPart) (h : ℕ) → struct_of (kept ps h) ≡ kept (file_spec.Members ps) h
struct_kept ps h = struct_by ps (nat_le h 64)

abbrev members_at : Parts → MembersParser
members_at x = record { parts = x; inside = 0; mode = row_mode.Begin }

-- behind the tokens of a list
nil_run : {S A : Type 0} (offer : S → Terminal → Option (Step S A)) (ts : List Terminal) (p q : S) → feed offer (ts ++ []) (Goes p) ≡ Some (Goes q) → feed offer ts (Goes p) ≡ Some (Goes q)
nil_run offer ts p q e = ap (λ l. feed offer l (Goes p)) (sym (append-nil ts)) ∙ e

abbrev closes_by : Parts → Terminal → Symbol → Option (Step MembersParser Parts)
closes_by x c y = members_offer (members_at x) (record { symbol = y; place = c.place; text = c.text })

struct_run : {ps : List MemberPart} {h : ℕ} {vs : List Terminal} → AreMembers ps h vs → (c : Terminal) → Is c CloseBrace → (f : FileFront) (p : FileParser) → TakesTag f p (first_place (vs ++ c ∷ [])) → (rest : List Terminal)
    → run (vs ++ c ∷ rest) p ≡ run rest (Whole f (kept (file_spec.Members ps) h))
struct_run {ps} {h} {vs} ms c ce f p tag rest =
    let b = member.body ms in
    let opens : MemberPart = Opens b.word.place b.tag.text in
    let x : Parts = kept ps h in
    let firsts : first_place (vs ++ c ∷ []) ≡ Some b.word.place = ap (λ l. first_place (l ++ c ∷ [])) b.all in
    let fed : feed members_offer (b.bs ++ []) (Goes (members_start b.word.place b.tag.text)) ≡ Some (Goes (members_at x)) =
    b.runs (opens ∷ []) 0 0 [] ∙ ap₂ (λ l j. Some (Goes (members_at (kept l j)))) (sym b.parts) (max_zero h) in
    ap (λ l. run (l ++ c ∷ rest) p) b.all
    ∙ tag b.word (b.tag ∷ b.brace ∷ (b.bs ++ c ∷ rest)) firsts b.word_is
    ∙ tag_step f b.word.place b.tag (b.brace ∷ (b.bs ++ c ∷ rest)) b.tag_is
    ∙ brace_step f b.word.place b.tag.text b.brace (b.bs ++ c ∷ rest) b.brace_is
    ∙ then_step file_offer b.bs (c ∷ rest) (Goes (Members f (members_start b.word.place b.tag.text))) (goes (Members f (members_at x)))
    (inside members_offer file_offer (λ q. Members f q) (members_inside f) b.bs (members_start b.word.place b.tag.text) (members_at x) (nil_run members_offer b.bs (members_start b.word.place b.tag.text) (members_at x) fed))
    ∙ one_step file_offer (Members f (members_at x)) c rest (goes (Whole f (struct_of x))) (ap (λ y. members_offered f (closes_by x c y)) ce)
    ∙ ap (λ v. run rest (Whole f v)) (struct_kept ps h)

file_spec_run : {s : FileSpec} {h : ℕ} {vs : List Terminal} → IsFileSpec s h vs → (f : FileFront) (p : FileParser) → TakesWord f p (first_place vs) → TakesTag f p (first_place vs) → (t : Terminal) → Follows t → (rest : List Terminal)
    → run (vs ++ t ∷ rest) p ≡ onward file_offer rest (whole f (kept s h) t)
file_spec_run (named_spec sd) f p word tag t d rest = spec_run sd f p word tag t d rest
file_spec_run (struct_spec c {ps} {h} {ts} ms ce) f p word tag t d rest =
    ap (λ l. run l p) (append_assoc ts (c ∷ []) (t ∷ rest)) ∙ struct_run ms c ce f p tag (t ∷ rest)

-- the storage class
stored_word : (f : FileFront) (first : Option Place) → TakesWord f (Stored f) first
stored_word f first t ts w p e = stored_step f t ts (Word w) (Typed f t.place (spec_of w)) e refl

stored_tag : (f : FileFront) (first : Option Place) → TakesTag f (Stored f) first
stored_tag f first t ts p e = stored_step f t ts StructWord (Tagging f t.place) e refl

begin_word : (at : Place) (first : Option Place) → first ≡ Some at → TakesWord (front_at at Plain) Begin first
begin_word at first k t ts w p e =
    begin_step t ts (Word w) (Typed (front_at t.place Plain) t.place (spec_of w)) e refl ∙ ap (λ x. run ts (Typed (front_at x Plain) t.place (spec_of w))) (same_place t.place at (sym p ∙ k))

begin_tag : (at : Place) (first : Option Place) → first ≡ Some at → TakesTag (front_at at Plain) Begin first
begin_tag at first k t ts p e = begin_step t ts StructWord (Tagging (front_at t.place Plain) t.place) e refl ∙ ap (λ x. run ts (Tagging (front_at x Plain) t.place)) (same_place t.place at (sym p ∙ k))

front_run : {st : Storage} {s : FileSpec} {h : ℕ} {us vs : List Terminal} → IsStorage st us → IsFileSpec s h vs → (at : Place) → first_place (us ++ vs) ≡ Some at → (t : Terminal) → Follows t → (rest : List Terminal)
    → run (us ++ (vs ++ t ∷ rest)) Begin ≡ onward file_offer rest (whole (front_at at st) (kept s h) t)
front_run {st} {s} {h} {us} {vs} plain_storage sd at k t d rest = file_spec_run sd (front_at at Plain) Begin (begin_word at (first_place vs) k) (begin_tag at (first_place vs) k) t d rest
front_run {st} {s} {h} {us} {vs} (extern_storage u e) sd at k t d rest =
    begin_step u (vs ++ t ∷ rest) (Keyword keyword.Extern) (Stored (front_at u.place Extern)) e refl
    ∙ file_spec_run sd (front_at u.place Extern) (Stored (front_at u.place Extern)) (stored_word (front_at u.place Extern) (first_place vs)) (stored_tag (front_at u.place Extern) (first_place vs)) t d rest
    ∙ ap (λ x. onward file_offer rest (whole (front_at x Extern) (kept s h) t)) (same_place u.place at k)
front_run {st} {s} {h} {us} {vs} (static_storage u e) sd at k t d rest =
    begin_step u (vs ++ t ∷ rest) (Keyword keyword.Static) (Stored (front_at u.place Static)) e refl
    ∙ file_spec_run sd (front_at u.place Static) (Stored (front_at u.place Static)) (stored_word (front_at u.place Static) (first_place vs)) (stored_tag (front_at u.place Static) (first_place vs)) t d rest
    ∙ ap (λ x. onward file_offer rest (whole (front_at x Static) (kept s h) t)) (same_place u.place at k)

-- names
record ReachedName (d : Declared) (h : ℕ) (ts : List Terminal) (t : Terminal) : Type 0 where
  name : ReadName
  reads : ReadsName ts t name
  is : declared_of name ≡ kept d h

bare_by : (d : DeclaratorTree) (b : Bool) → bare_declared (if b then Some d else None) ≡ (if b then Some (bare_name d) else None)
bare_by d true = refl
bare_by d false = refl

pub bare_kept : (d : DeclaratorTree) (h : ℕ) → declared_of (Bare (cut d h)) ≡ kept (bare_name d) h
bare_kept d h = ap bare_declared (tree_kept d h) ∙ bare_by d (nat_le h 64)

pub with_kept : (d : DeclaratorTree) (i : InitialTree) (m n : ℕ) → declared_of (With (cut d m) (cut i n)) ≡ kept (name_with d i) (max m n)
with_kept d i m n = ap₂ (both name_with) (tree_kept d m) (tree_kept i n) ∙ both_kept name_with d i m n

reach_name : {d : Declared} {h : ℕ} {ts : List Terminal} → IsFileDeclared d h ts → (t : Terminal) → EndsName t → ReachedName d h ts t
reach_name (bare {d} {h} {ts} dd) t e = record { name = Bare (cut d h); reads = reads_bare dd t (goes_on_name e) (equals_name e); is = bare_kept d h }
reach_name (with_value u {d} {i} {m} {n} {us} {vs} dd ue ii) t e = record { name = With (cut d m) (cut i n); reads = reads_with dd u ue ii t (closes_name e); is = with_kept d i m n }

name_begins : {d : Declared} {h : ℕ} {ts : List Terminal} → IsFileDeclared d h ts → Begins ts
name_begins (bare dd) = declarator_begins dd
name_begins (with_value u {d} {i} {m} {n} {us} {vs} dd ue ii) = more_begins us (u ∷ vs) (declarator_begins dd)

names_begin : {ds : List Declared} {h : ℕ} {ts : List Terminal} → AreFileDeclared ds h ts → Begins ts
names_begin (one_file_name dd) = name_begins dd
names_begin (more_file_names u {d} {ds} {m} {n} {us} {vs} dds ue dd) = more_begins us (u ∷ vs) (names_begin dds)

name_inside : (f : FileFront) (s : Option FileSpec) (ns : names.Names) (p : NameParser) (t : Terminal) (r : NameParser) → name_offer p t ≡ Some (Goes r) → file_offer (Naming f s ns p) t ≡ goes (Naming f s ns r)
name_inside f s ns p t r e = ap (name_offered f s ns t.symbol) e

names_run : (f : FileFront) (s : Option FileSpec) (ns : names.Names) (ts rest : List Terminal) (q : NameParser) → feed name_offer ts (Goes name_start) ≡ Some (Goes q) → run (ts ++ rest) (Naming f s ns name_start) ≡ run rest (Naming f s ns q)
names_run f s ns ts rest q e =
    then_step file_offer ts rest (Goes (Naming f s ns name_start)) (goes (Naming f s ns q)) (inside name_offer file_offer (λ p. Naming f s ns p) (name_inside f s ns) ts name_start q e)

abbrev some_names : Option (List Declared) → names.Names
some_names x = record { any = true; list = x }

-- the token behind all names so far
abbrev behind_all : FileFront → Option FileSpec → Option (List Declared) → Symbol → Next
behind_all f s x (Binary Comma) = goes (Naming f s (some_names x) name_start)
behind_all f s x Semicolon = declared f s x
behind_all f s x _ = None

behind_is : (f : FileFront) (s : Option FileSpec) (ns : names.Names) (r : ReadName) {t : Terminal} → EndsName t → behind_name f s ns r t.symbol ≡ behind_all f s (last ns.list (declared_of r)) t.symbol
behind_is f s ns r (comma t e) = ap (behind_name f s ns r) e ∙ sym (ap (behind_all f s (last ns.list (declared_of r))) e)
behind_is f s ns r (semicolon t e) = ap (behind_name f s ns r) e ∙ sym (ap (behind_all f s (last ns.list (declared_of r))) e)

record ReachedNames (ds : List Declared) (h : ℕ) (f : FileFront) (s : Option FileSpec) (ts : List Terminal) (t : Terminal) : Type 0 where
  now : FileParser
  runs : (rest : List Terminal) → run (ts ++ rest) (Naming f s no_names name_start) ≡ run rest now
  ends : file_offer now t ≡ behind_all f s (kept ds h) t.symbol

reach_names : {ds : List Declared} {h : ℕ} {ts : List Terminal} → AreFileDeclared ds h ts → (f : FileFront) (s : Option FileSpec) (t : Terminal) → EndsName t → ReachedNames ds h f s ts t
reach_names (one_file_name {d} {h} {ts} dd) f s t e =
    let r = reach_name dd t e in
    record {
      now = Naming f s no_names r.reads.now;
      runs = λ rest. names_run f s no_names ts rest r.reads.now r.reads.goes;
      ends = ap (name_offered f s no_names t.symbol) r.reads.ends
          ∙ behind_is f s no_names r.name e
          ∙ ap (λ v. behind_all f s (last (Some []) v) t.symbol) r.is
          ∙ ap (λ v. behind_all f s v t.symbol) (last_kept [] d 0 h)
          ∙ ap (λ m. behind_all f s (kept (d ∷ []) m) t.symbol) (max_zero h);
    }
reach_names (more_file_names u {d} {ds} {m} {n} {us} {vs} dds ue dd) f s t e =
    let q = reach_names dds f s u (comma u ue) in
    let r = reach_name dd t e in
    let ns = some_names (kept ds m) in
    record {
      now = Naming f s ns r.reads.now;
      runs = λ rest. ap (λ l. run l (Naming f s no_names name_start)) (append_assoc us (u ∷ vs) rest)
          ∙ q.runs (u ∷ (vs ++ rest))
          ∙ one_step file_offer q.now u (vs ++ rest) (goes (Naming f s ns name_start)) (q.ends ∙ ap (behind_all f s (kept ds m)) ue)
          ∙ names_run f s ns vs rest r.reads.now r.reads.goes;
      ends = ap (name_offered f s ns t.symbol) r.reads.ends
          ∙ behind_is f s ns r.name e
          ∙ ap (λ v. behind_all f s (last (kept ds m) v) t.symbol) r.is
          ∙ ap (λ v. behind_all f s v t.symbol) (last_kept ds d m n);
    }

-- the first token of the first name
abbrev whole_by : FileFront → Option FileSpec → Terminal → Bool → Next
whole_by f s t b = if b then declared f s (Some []) else naming f s no_names name_start t

begins_run : {st : Storage} {s : FileSpec} {h : ℕ} {us vs : List Terminal} → IsStorage st us → IsFileSpec s h vs → (at : Place) → first_place (us ++ vs) ≡ Some at → (ws rest : List Terminal) → Begins ws
    → run (us ++ (vs ++ (ws ++ rest))) Begin ≡ run (ws ++ rest) (Naming (front_at at st) (kept s h) no_names name_start)
begins_run {st} {s} {h} {us} {vs} rd sd at k ws rest b =
    let f = front_at at st in
    ap (λ l. run (us ++ (vs ++ (l ++ rest))) Begin) b.all
    ∙ front_run rd sd at k b.token (record { no_int = b.no_int; no_brace = b.no_brace }) (b.rest ++ rest)
    ∙ ap (λ v. onward file_offer (b.rest ++ rest) (whole_by f (kept s h) b.token v)) b.no_semicolon
    ∙ ap (λ l. run (l ++ rest) (Naming f (kept s h) no_names name_start)) (sym b.all)

abbrev ends_with : Place → Option Head → Next
ends_with at e = Some (Ends (Declaration at e))

semicolon_follows : (c : Terminal) → Is c Semicolon → Follows c
semicolon_follows c e = record { no_int = ap is_int e; no_brace = ap is_open_brace e }

pub head_ends : HeadEnds
head_ends e k ts (only_spec c {st} {f} {at} {h} {us} {vs} rd sd first_is ce) =
    let fr = front_at at st in
    front_run rd sd at first_is c (semicolon_follows c ce) []
    ∙ ap (λ y. onward file_offer [] (whole_by fr (kept f h) c (is_semicolon y))) ce
    ∙ ap (ends_with at) (both_kept (head_with fr) f [] h 0)
    ∙ ap (λ n. ends_with at (kept (head_with fr f []) n)) (max_none h)
head_ends e k ts (with_names c {st} {f} {at} {ds} {m} {n} {us} {vs} {ws} rd sd first_is dd ce) =
    let fr = front_at at st in
    let q = reach_names dd fr (kept f m) c (semicolon c ce) in
    begins_run rd sd at first_is ws (c ∷ []) (names_begin dd)
    ∙ q.runs (c ∷ [])
    ∙ one_step file_offer q.now c [] (declared fr (kept f m) (kept ds n)) (q.ends ∙ ap (behind_all fr (kept f m) (kept ds n)) ce)
    ∙ ap (ends_with at) (both_kept (head_with fr) f ds m n)

abbrev function_ends_with : Place → Option FunctionHead → Next
function_ends_with at e = Some (Ends (Function at e))

pub function_ends : FunctionEnds
function_ends e k ts o (function_head {st} {f} {at} {d} {m} {n} {us} {vs} {ws} rd sd first_is dd) oe =
    let fr = front_at at st in
    let r = reads_bare dd o (ap goes_on oe) (ap is_equals oe) in
    ap (λ l. run l Begin) (append_assoc us (vs ++ ws) (o ∷ []) ∙ ap (λ l. us ++ l) (append_assoc vs ws (o ∷ [])))
    ∙ begins_run rd sd at first_is ws (o ∷ []) (declarator_begins dd)
    ∙ names_run fr (kept f m) no_names ws (o ∷ []) r.now r.goes
    ∙ one_step file_offer (Naming fr (kept f m) no_names r.now) o [] (body fr (kept f m) (Bare (cut d n)))
    (ap (name_offered fr (kept f m) no_names o.symbol) r.ends ∙ ap (behind_name fr (kept f m) no_names (Bare (cut d n))) oe)
    ∙ ap (λ v. function_ends_with at (both (function_with fr) (kept f m) v)) (tree_kept d n)
    ∙ ap (function_ends_with at) (both_kept (function_with fr) f d m n)
