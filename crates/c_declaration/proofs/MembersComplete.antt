-- Structs with their members, both ways.
use Rattle.std.proofs.Common.{◌≡◌, ℕ, suc, ◌+◌, ◌-◌, max, Bool, true, false, nat_eq, nat_le, List, [], ◌∷◌, ◌++◌, Option, Some, None, refl, sym, ◌∙◌, ap, ap₂, subst, append_assoc, append-nil, add-one, arith}
use Rattle.std.specs.Prelude.{if◌then◌else◌}
use Rattle.std.proofs.Math.Nat.{add-sub_cancel}
use Rattle.std.proofs.lemmas.Bool.{eqb-true}
use Rattle.c_lex.specs.declared.token.Place.{Place}
use Rattle.c_symbol.specs.declared.terminal.Terminal.{Terminal}
use Rattle.c_symbol.specs.declared.symbol.LeafKind.TheVariants.{Name, Constant, Character, Text}
use Rattle.c_symbol.specs.declared.symbol.BinaryOp.TheVariants.{Comma}
use Rattle.c_symbol.specs.declared.symbol.TypeWord.{TypeWord}
use Rattle.c_symbol.specs.declared.symbol.TypeWord.TheVariants as a_word
use Rattle.c_symbol.specs.declared.symbol.Symbol.{Symbol}
use Rattle.c_symbol.specs.declared.symbol.Symbol.TheVariants.{Leaf, Word, Binary, Struct as StructWord, OpenBrace, CloseBrace, Semicolon}
use Rattle.c_expr.specs.Grammar.{spec_of, IsSpec, one_word, unsigned_int, tagged}
use Rattle.c_trees.specs.declared.expression.Spec.{Spec}
use Rattle.c_trees.specs.declared.expression.Spec.TheVariants.{Char, Int, Unsigned, UnsignedInt, Void, Struct}
use Rattle.c_trees.specs.Declarators.{DeclaratorTree}
use Rattle.c_declaration.specs.declared.built.Built.{Built}
use Rattle.c_trees.specs.declared.declaration.MemberPart.{MemberPart}
use Rattle.c_trees.specs.declared.declaration.MemberPart.TheVariants.{Opens, Row, Closes}
use Rattle.c_declaration.specs.declared.state.DeclaratorParser.{DeclaratorParser}
use Rattle.c_declaration.specs.declared.state.RowType.{RowType}
use Rattle.c_declaration.specs.declared.state.RowType.TheVariants as row
use Rattle.c_declaration.specs.declared.state.RowMode.{RowMode}
use Rattle.c_declaration.specs.declared.state.RowMode.TheVariants.{Begin, Tagging, Typed, Naming}
use Rattle.c_declaration.specs.declared.state.MembersParser.{MembersParser}
use Rattle.c_declaration.specs.declared.step.Step.{Step}
use Rattle.c_declaration.specs.declared.step.Step.TheVariants.{Goes, Ends}
use Rattle.c_declaration.specs.Feeding.{feed}
use Rattle.c_declaration.specs.Grown.{cut}
use Rattle.c_declaration.specs.Grammar.{Is, first_place, IsDeclarator, AreDeclarators, one_declarator, more_declarators, AreMembers, no_members, named_row, struct_row}
use Rattle.c_declaration.specs.DeclaratorReading.{both_words, declarator_offer, declarator_start}
use Rattle.c_declaration.specs.InitialReading.{is_open_brace}
use Rattle.c_declaration.specs.LocalReading.{is_int}
use Rattle.c_declaration.specs.MembersReading.{Parts, Next, goes, last, tree_in, row_of, row_with, behind_member, member_offered, naming, closed, beginning, tagging, worded, tag_of, opened, typed_name, typed, shift_mode, members_offer, members_start}
use Rattle.c_declaration.specs.Laws.{kept}
use Rattle.c_declaration.proofs.Pieces.{if_false}
use Rattle.c_declaration.proofs.Fed.{Ended, ended, onward, one_step, then_step, inside, steps_kept}
use Rattle.c_declaration.proofs.DeclaratorComplete.{declarator_ends, not_zero}
use Rattle.c_declaration.proofs.DeclaratorSound.{DeclaratorOf, declarator_of, int_behind}
use Rattle.c_declaration.proofs.DeclaredNames.{EndsName, comma, semicolon, goes_on_name, Begins, declarator_begins, more_begins, tree_kept, last_kept}

true_false : true ≡ false → ⊥
true_false e = cc

abbrev at_mode : Parts → ℕ → RowMode → MembersParser
at_mode x n mode = record { parts = x; inside = n; mode = mode }

abbrev run : List Terminal → Parts → ℕ → RowMode → Next
run ts x n mode = feed members_offer ts (Goes (at_mode x n mode))

same_place : (at at' : Place) → Some at ≡ Some at' → at ≡ at'
same_place at at' e = cc

-- declarators of a row
member_inside : (x : Parts) (n : ℕ) (type : RowType) (ds : Option (List DeclaratorTree)) (p : DeclaratorParser) (t : Terminal) (r : DeclaratorParser) → declarator_offer p t ≡ Some (Goes r)
    → members_offer (at_mode x n (Naming type ds p)) t ≡ goes x n (Naming type ds r)
member_inside x n type ds p t r e = ap (member_offered x n type ds t.symbol) e

declarator_run : (x : Parts) (n : ℕ) (type : RowType) (ds : Option (List DeclaratorTree)) (ts rest : List Terminal) (q : DeclaratorParser) → feed declarator_offer ts (Goes declarator_start) ≡ Some (Goes q)
    → run (ts ++ rest) x n (Naming type ds declarator_start) ≡ run rest x n (Naming type ds q)
declarator_run x n type ds ts rest q e =
    then_step members_offer ts rest (Goes (at_mode x n (Naming type ds declarator_start))) (goes x n (Naming type ds q))
    (inside declarator_offer members_offer (λ p. at_mode x n (Naming type ds p)) (member_inside x n type ds) ts declarator_start q e)

pub max_none : (h : ℕ) → max h 0 ≡ h
max_none h = omega arith

pub max_zero : (h : ℕ) → max 0 h ≡ h
max_zero h = omega arith

opened_by : (b : Bool) (xs : List MemberPart) (x : MemberPart) → last (if b then Some xs else None) (Some x) ≡ (if b then Some (xs ++ x ∷ []) else None)
opened_by true xs x = refl
opened_by false xs x = refl

pub opened_kept : (xs : List MemberPart) (m : ℕ) (x : MemberPart) → last (kept xs m) (Some x) ≡ kept (xs ++ x ∷ []) m
opened_kept xs m x = opened_by (nat_le m 64) xs x

row_by : (type : RowType) (ds : List DeclaratorTree) (b : Bool) → row_with type (if b then Some ds else None) ≡ (if b then Some (row_of type ds) else None)
row_by type ds true = refl
row_by type ds false = refl

record Reached (ds : List DeclaratorTree) (h : ℕ) (x : Parts) (n : ℕ) (type : RowType) (ts : List Terminal) (t : Terminal) : Type 0 where
  now : MembersParser
  runs : (rest : List Terminal) → run (ts ++ rest) x n (Naming type (Some []) declarator_start) ≡ feed members_offer rest (Goes now)
  ends : members_offer now t ≡ behind_member x n type (kept ds h) t.symbol

declarator_read : {d : DeclaratorTree} {h : ℕ} {ts : List Terminal} → IsDeclarator d h ts → (t : Terminal) → EndsName t → Ended declarator_offer ts t declarator_start (cut d h)
declarator_read {d} {h} {ts} dd t e = ended declarator_offer ts t declarator_start (cut d h) (declarator_ends d h ts t dd (goes_on_name e))

reach : {ds : List DeclaratorTree} {h : ℕ} {ts : List Terminal} → AreDeclarators ds h ts → (x : Parts) (n : ℕ) (type : RowType) (t : Terminal) → EndsName t → Reached ds h x n type ts t
reach (one_declarator {d} {h} {ts} dd) x n type t e =
    let r = declarator_read dd t e in
    record {
      now = at_mode x n (Naming type (Some []) r.now);
      runs = λ rest. declarator_run x n type (Some []) ts rest r.now r.goes;
      ends = ap (member_offered x n type (Some []) t.symbol) r.ends
          ∙ ap (λ v. behind_member x n type (last (Some []) v) t.symbol) (tree_kept d h)
          ∙ ap (λ v. behind_member x n type v t.symbol) (last_kept [] d 0 h)
          ∙ ap (λ m. behind_member x n type (kept (d ∷ []) m) t.symbol) (max_zero h);
    }
reach (more_declarators u {d} {ds} {m} {n} {us} {vs} dds ue dd) x k type t e =
    let q = reach dds x k type u (comma u ue) in
    let r = declarator_read dd t e in
    record {
      now = at_mode x k (Naming type (kept ds m) r.now);
      runs = λ rest. ap (λ l. run l x k (Naming type (Some []) declarator_start)) (append_assoc us (u ∷ vs) rest)
          ∙ q.runs (u ∷ (vs ++ rest))
          ∙ one_step members_offer q.now u (vs ++ rest) (goes x k (Naming type (kept ds m) declarator_start)) (q.ends ∙ ap (behind_member x k type (kept ds m)) ue)
          ∙ declarator_run x k type (kept ds m) vs rest r.now r.goes;
      ends = ap (member_offered x k type (kept ds m) t.symbol) r.ends
          ∙ ap (λ v. behind_member x k type (last (kept ds m) v) t.symbol) (tree_kept d n)
          ∙ ap (λ v. behind_member x k type v t.symbol) (last_kept ds d m n);
    }

pub row_kept : (type : RowType) (ds : List DeclaratorTree) (h : ℕ) → row_with type (kept ds h) ≡ kept (row_of type ds) h
row_kept type ds h = row_by type ds (nat_le h 64)

-- a row with its `;`
row_run : {ds : List DeclaratorTree} {h : ℕ} {ws : List Terminal} → AreDeclarators ds h ws → (xs : List MemberPart) (m n : ℕ) (type : RowType) (c : Terminal) → Is c Semicolon → (rest : List Terminal)
    → run (ws ++ c ∷ rest) (kept xs m) n (Naming type (Some []) declarator_start) ≡ run rest (kept (xs ++ row_of type ds ∷ []) (max m h)) n Begin
row_run {ds} {h} {ws} dd xs m n type c ce rest =
    let r = reach dd (kept xs m) n type c (semicolon c ce) in
    r.runs (c ∷ rest)
    ∙ one_step members_offer r.now c rest (goes (last (kept xs m) (row_with type (kept ds h))) n Begin) (r.ends ∙ ap (behind_member (kept xs m) n type (kept ds h)) ce)
    ∙ ap (λ v. run rest (last (kept xs m) v) n Begin) (row_kept type ds h)
    ∙ ap (λ v. run rest v n Begin) (last_kept xs (row_of type ds) m h)

-- the type of a row
begin_step : (x : Parts) (n : ℕ) (t : Terminal) (ts : List Terminal) (y : Symbol) (o : Next) → Is t y → beginning x n y t.place ≡ o → run (t ∷ ts) x n Begin ≡ onward members_offer ts o
begin_step x n t ts y o e k = one_step members_offer (at_mode x n Begin) t ts o (ap (λ v. beginning x n v t.place) e ∙ k)

tag_step : (x : Parts) (n : ℕ) (at : Place) (t : Terminal) (ts : List Terminal) → Is t (Leaf Name) → run (t ∷ ts) x n (Tagging at) ≡ run ts x n (Typed at (Struct t.text))
tag_step x n at t ts e = one_step members_offer (at_mode x n (Tagging at)) t ts (goes x n (Typed at (Struct t.text))) (ap (λ v. tagging x n at v t.text) e)

abbrev behind_brace : Parts → ℕ → Place → Spec → Terminal → Bool → Next
behind_brace x n at base t b = if b then opened x n at (tag_of base) else typed_name x n at base t

abbrev typed_by : Parts → ℕ → Place → Spec → Terminal → Bool → Next
typed_by x n at base t b = if b then worded x n at (both_words base) else behind_brace x n at base t (is_open_brace t.symbol)

int_step : (x : Parts) (n : ℕ) (at : Place) (t : Terminal) (ts : List Terminal) → Is t (Word a_word.Int) → run (t ∷ ts) x n (Typed at Unsigned) ≡ run ts x n (Typed at UnsignedInt)
int_step x n at t ts e = one_step members_offer (at_mode x n (Typed at Unsigned)) t ts (goes x n (Typed at UnsignedInt)) (ap (λ v. typed_by x n at Unsigned t (is_int v)) e)

type_run : {base : Spec} {vs : List Terminal} → IsSpec base vs → (at : Place) → first_place vs ≡ Some at → (x : Parts) (n : ℕ) (rest : List Terminal) → run (vs ++ rest) x n Begin ≡ run rest x n (Typed at base)
type_run (one_word t w e) at p x n rest = begin_step x n t rest (Word w) (goes x n (Typed t.place (spec_of w))) e refl ∙ ap (λ l. run rest x n (Typed l (spec_of w))) (same_place t.place at p)
type_run (unsigned_int t i e e') at p x n rest =
    begin_step x n t (i ∷ rest) (Word a_word.Unsigned) (goes x n (Typed t.place Unsigned)) e refl ∙ int_step x n t.place i rest e' ∙ ap (λ l. run rest x n (Typed l UnsignedInt)) (same_place t.place at p)
type_run (tagged t u e e') at p x n rest =
    begin_step x n t (u ∷ rest) StructWord (goes x n (Tagging t.place)) e refl ∙ tag_step x n t.place u rest e' ∙ ap (λ l. run rest x n (Typed l (Struct u.text))) (same_place t.place at p)

typed_begins : (x : Parts) (n : ℕ) (at : Place) (base : Spec) (t : Terminal) (ts : List Terminal) → is_int t.symbol ≡ false → is_open_brace t.symbol ≡ false
    → run (t ∷ ts) x n (Typed at base) ≡ run (t ∷ ts) x n (Naming (row.Named at base) (Some []) declarator_start)
typed_begins x n at base t ts e k = ap (λ v. onward members_offer ts (typed_by x n at base t v)) e ∙ ap (λ v. onward members_offer ts (behind_brace x n at base t v)) k

typed_run : (x : Parts) (n : ℕ) (at : Place) (base : Spec) (ts rest : List Terminal) → Begins ts → run (ts ++ rest) x n (Typed at base) ≡ run (ts ++ rest) x n (Naming (row.Named at base) (Some []) declarator_start)
typed_run x n at base ts rest b =
    ap (λ l. run (l ++ rest) x n (Typed at base)) b.all
    ∙ typed_begins x n at base b.token (b.rest ++ rest) b.no_int b.no_brace
    ∙ ap (λ l. run (l ++ rest) x n (Naming (row.Named at base) (Some []) declarator_start)) (sym b.all)

declarators_begin : {ds : List DeclaratorTree} {h : ℕ} {ts : List Terminal} → AreDeclarators ds h ts → Begins ts
declarators_begin (one_declarator dd) = declarator_begins dd
declarators_begin (more_declarators u {d} {ds} {m} {n} {us} {vs} dds ue dd) = more_begins us (u ∷ vs) (declarators_begin dds)

brace_step : (x : Parts) (n : ℕ) (at : Place) (tag : List ℕ) (t : Terminal) (ts : List Terminal) → Is t OpenBrace → run (t ∷ ts) x n (Typed at (Struct tag)) ≡ run ts (last x (Some (Opens at tag))) (n + 1) Begin
brace_step x n at tag t ts e =
    one_step members_offer (at_mode x n (Typed at (Struct tag))) t ts (goes (last x (Some (Opens at tag))) (n + 1) Begin)
    (ap (λ v. typed_by x n at (Struct tag) t (is_int v)) e ∙ ap (λ v. behind_brace x n at (Struct tag) t (is_open_brace v)) e)

-- the } of a struct inside
pub closed_inside : (x : Parts) (n : ℕ) → closed x (n + 1) ≡ goes x n (Naming row.Closed (Some []) declarator_start)
closed_inside x n =
    ap (λ v. if nat_eq v 0 then Some (Ends x) else goes x ((n + 1) - 1) (Naming row.Closed (Some []) declarator_start)) (add-one n)
    ∙ if_false (nat_eq (suc n) 0) (Some (Ends x)) (goes x ((n + 1) - 1) (Naming row.Closed (Some []) declarator_start)) (not_zero n (nat_eq (suc n) 0) refl)
    ∙ ap (λ v. goes x v (Naming row.Closed (Some []) declarator_start)) (add-sub_cancel n 1)

-- a struct up to what follows its members, behind its `{`
pub record Body (ps : List MemberPart) (h : ℕ) (ts : List Terminal) : Type 0 where
  pub word : Terminal
  pub tag : Terminal
  pub brace : Terminal
  pub bs : List Terminal
  pub qs : List MemberPart
  pub word_is : Is word StructWord
  pub tag_is : Is tag (Leaf Name)
  pub brace_is : Is brace OpenBrace
  pub all : ts ≡ word ∷ tag ∷ brace ∷ bs
  pub parts : ps ≡ Opens word.place tag.text ∷ qs
  pub runs : (xs : List MemberPart) (m n : ℕ) (rest : List Terminal) → run (bs ++ rest) (kept xs m) n Begin ≡ run rest (kept (xs ++ qs) (max m h)) n Begin

pub max_assoc : (a b c : ℕ) → max (max a b) c ≡ max a (max b c)
max_assoc a b c = omega arith

pub body : {ps : List MemberPart} {h : ℕ} {ts : List Terminal} → AreMembers ps h ts → Body ps h ts
body (no_members t u o te ue oe) =
    record {
      word = t;
      tag = u;
      brace = o;
      bs = [];
      qs = [];
      word_is = te;
      tag_is = ue;
      brace_is = oe;
      all = refl;
      parts = refl;
      runs = λ xs m n rest. ap (λ k. run rest (kept xs k) n Begin) (sym (max_none m)) ∙ ap (λ l. run rest (kept l (max m 0)) n Begin) (sym (append-nil xs));
    }
body (named_row c {ps} {base} {at} {ds} {m} {n} {us} {vs} {ws} ms sd p dd ce) =
    let b = body ms in
    record {
      word = b.word;
      tag = b.tag;
      brace = b.brace;
      bs = b.bs ++ (vs ++ (ws ++ c ∷ []));
      qs = b.qs ++ Row at base ds ∷ [];
      word_is = b.word_is;
      tag_is = b.tag_is;
      brace_is = b.brace_is;
      all = ap (λ l. l ++ (vs ++ (ws ++ c ∷ []))) b.all;
      parts = ap (λ l. l ++ Row at base ds ∷ []) b.parts;
      runs = λ xs i k rest. ap (λ l. run l (kept xs i) k Begin) (append_assoc b.bs (vs ++ (ws ++ c ∷ [])) rest ∙ ap (λ l. b.bs ++ l) (append_assoc vs (ws ++ c ∷ []) rest ∙ ap (λ l. vs ++ l) (append_assoc ws (c ∷ []) rest)))
          ∙ b.runs xs i k (vs ++ (ws ++ c ∷ rest))
          ∙ type_run sd at p (kept (xs ++ b.qs) (max i m)) k (ws ++ c ∷ rest)
          ∙ typed_run (kept (xs ++ b.qs) (max i m)) k at base ws (c ∷ rest) (declarators_begin dd)
          ∙ row_run dd (xs ++ b.qs) (max i m) k (row.Named at base) c ce rest
          ∙ ap₂ (λ l j. run rest (kept l j) k Begin) (append_assoc xs b.qs (Row at base ds ∷ [])) (max_assoc i m n);
    }
body (struct_row o c {ps} {qs} {ds} {l} {m} {n} {us} {vs} {ws} ms is oe dd ce) =
    let b = body ms in
    let a = body is in
    record {
      word = b.word;
      tag = b.tag;
      brace = b.brace;
      bs = b.bs ++ (vs ++ o ∷ (ws ++ c ∷ []));
      qs = b.qs ++ (qs ++ Closes ds ∷ []);
      word_is = b.word_is;
      tag_is = b.tag_is;
      brace_is = b.brace_is;
      all = ap (λ z. z ++ (vs ++ o ∷ (ws ++ c ∷ []))) b.all;
      parts = ap (λ z. z ++ (qs ++ Closes ds ∷ [])) b.parts;
      runs = λ xs i k rest.
          let ys = xs ++ b.qs in
          let j = max i l in
          let rest' = o ∷ (ws ++ c ∷ rest) in
          let opens : MemberPart = Opens a.word.place a.tag.text in
          ap (λ z. run z (kept xs i) k Begin) (append_assoc b.bs (vs ++ o ∷ (ws ++ c ∷ [])) rest ∙ ap (λ z. b.bs ++ z) (append_assoc vs (o ∷ (ws ++ c ∷ [])) rest ∙ ap (λ z. vs ++ o ∷ z) (append_assoc ws (c ∷ []) rest)))
          ∙ b.runs xs i k (vs ++ rest')
          ∙ ap (λ z. run (z ++ rest') (kept ys j) k Begin) a.all
          ∙ begin_step (kept ys j) k a.word (a.tag ∷ a.brace ∷ (a.bs ++ rest')) StructWord (goes (kept ys j) k (Tagging a.word.place)) a.word_is refl
          ∙ tag_step (kept ys j) k a.word.place a.tag (a.brace ∷ (a.bs ++ rest')) a.tag_is
          ∙ brace_step (kept ys j) k a.word.place a.tag.text a.brace (a.bs ++ rest') a.brace_is
          ∙ ap (λ v. run (a.bs ++ rest') v (k + 1) Begin) (opened_kept ys j opens)
          ∙ a.runs (ys ++ opens ∷ []) j (k + 1) rest'
          ∙ ap (λ z. run rest' (kept z (max j m)) (k + 1) Begin) (append_assoc ys (opens ∷ []) a.qs ∙ ap (λ z. ys ++ z) (sym a.parts))
          ∙ begin_step (kept (ys ++ qs) (max j m)) (k + 1) o (ws ++ c ∷ rest) CloseBrace (goes (kept (ys ++ qs) (max j m)) k (Naming row.Closed (Some []) declarator_start)) oe (closed_inside (kept (ys ++ qs) (max j m)) k)
          ∙ row_run dd (ys ++ qs) (max j m) k row.Closed c ce rest
          ∙ ap₂ (λ z v. run rest (kept z v) k Begin)
          (append_assoc ys qs (Closes ds ∷ []) ∙ append_assoc xs b.qs (qs ++ Closes ds ∷ []))
          (max_assoc (max i l) m n ∙ max_assoc i l (max m n));
    }
