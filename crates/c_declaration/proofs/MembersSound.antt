-- What is read is a struct with its members.
use Rattle.std.proofs.Common.{◌≡◌, ℕ, suc, ◌+◌, ◌-◌, max, Bool, true, false, nat_eq, List, [], ◌∷◌, ◌++◌, Option, Some, None, refl, sym, ◌∙◌, ap, ap₂, subst, append_assoc, append-nil, add-one, arith}
use Rattle.std.specs.Prelude.{if◌then◌else◌}
use Rattle.c_lex.specs.declared.token.Place.{Place}
use Rattle.c_symbol.specs.declared.terminal.Terminal.{Terminal}
use Rattle.c_symbol.specs.declared.symbol.LeafKind.TheVariants.{Name, Constant, Character, Text}
use Rattle.c_symbol.specs.declared.symbol.BinaryOp.TheVariants.{Comma}
use Rattle.c_symbol.specs.declared.symbol.TypeWord.{TypeWord}
use Rattle.c_symbol.specs.declared.symbol.TypeWord.TheVariants as a_word
use Rattle.c_symbol.specs.declared.symbol.Symbol.{Symbol}
use Rattle.c_symbol.specs.declared.symbol.Symbol.TheVariants.{Leaf, Word, Binary, Struct as StructWord, OpenBrace, CloseBrace, Semicolon}
use Rattle.c_expr.specs.Grammar.{spec_of, IsSpec, one_word, unsigned_int, tagged}
use Rattle.c_trees.specs.declared.expression.Spec.{Spec}
use Rattle.c_trees.specs.declared.expression.Spec.TheVariants.{Char, Int, Unsigned, UnsignedInt, Void, Struct}
use Rattle.c_trees.specs.Declarators.{DeclaratorTree}
use Rattle.c_declaration.specs.declared.built.Built.{Built}
use Rattle.c_trees.specs.declared.declaration.MemberPart.{MemberPart}
use Rattle.c_trees.specs.declared.declaration.MemberPart.TheVariants.{Opens, Row, Closes}
use Rattle.c_declaration.specs.declared.state.DeclaratorParser.{DeclaratorParser}
use Rattle.c_declaration.specs.declared.state.RowType.{RowType}
use Rattle.c_declaration.specs.declared.state.RowType.TheVariants as row
use Rattle.c_declaration.specs.declared.state.RowMode.{RowMode}
use Rattle.c_declaration.specs.declared.state.RowMode.TheVariants.{Begin, Tagging, Typed, Naming}
use Rattle.c_declaration.specs.declared.state.MembersParser.{MembersParser}
use Rattle.c_declaration.specs.declared.step.Step.{Step}
use Rattle.c_declaration.specs.declared.step.Step.TheVariants.{Goes, Ends}
use Rattle.c_declaration.specs.Feeding.{feed}
use Rattle.c_declaration.specs.Grown.{cut}
use Rattle.c_declaration.specs.Grammar.{Is, first_place, IsDeclarator, AreDeclarators, one_declarator, more_declarators, AreMembers, no_members, named_row, struct_row}
use Rattle.c_declaration.specs.DeclaratorReading.{both_words, declarator_offer, declarator_start}
use Rattle.c_declaration.specs.InitialReading.{is_open_brace}
use Rattle.c_declaration.specs.LocalReading.{is_int}
use Rattle.c_declaration.specs.MembersReading.{Parts, Next, goes, last, tree_in, row_of, row_with, behind_member, member_offered, naming, closed, beginning, tagging, worded, tag_of, opened, typed_name, typed, shift_mode, members_offer, members_start}
use Rattle.c_declaration.specs.Laws.{kept}
use Rattle.c_declaration.proofs.Fed.{one_step, then_step, steps_kept}
use Rattle.c_declaration.proofs.DeclaratorSound.{DeclaratorOf, declarator_of, int_behind}
use Rattle.c_declaration.proofs.DeclaredNames.{tree_kept, last_kept}
use Rattle.c_declaration.proofs.MembersComplete.{max_none, max_zero, max_assoc, opened_kept, row_kept, closed_inside}

true_false : true ≡ false → ⊥
true_false e = cc

-- the structs that are open, the innermost last
data Levels : ℕ → List MemberPart → ℕ → List Terminal → Type 0 where
  outermost : {ps : List MemberPart} {h : ℕ} {ts : List Terminal} → AreMembers ps h ts → Levels 0 ps h ts
  inner : {n : ℕ} {ps qs : List MemberPart} {h m : ℕ} {us vs : List Terminal} → Levels n ps h us → AreMembers qs m vs → Levels (suc n) (ps ++ qs) (max h m) (us ++ vs)

same_levels : {n : ℕ} (ps qs : List MemberPart) (h m : ℕ) (us vs : List Terminal) → ps ≡ qs → h ≡ m → us ≡ vs → Levels n ps h us → Levels n qs m vs
same_levels {n} ps qs h m us vs e k l d =
    let P : List MemberPart → Type 0 = λ z. Levels n z m vs in
    let Q : ℕ → Type 0 = λ z. Levels n ps z vs in
    let R : List Terminal → Type 0 = λ z. Levels n ps h z in
    subst P e (subst Q k (subst R l d))

-- more in the innermost struct
extend : {n : ℕ} {ps : List MemberPart} {h : ℕ} {us : List Terminal} (es : List MemberPart) (k : ℕ) (zs : List Terminal)
    → ((qs : List MemberPart) (m : ℕ) (vs : List Terminal) → AreMembers qs m vs → AreMembers (qs ++ es) (max m k) (vs ++ zs)) → Levels n ps h us → Levels n (ps ++ es) (max h k) (us ++ zs)
extend es k zs more (outermost {ps} {h} {ts} d) = outermost (more ps h ts d)
extend es k zs more (inner {n} {ps} {qs} {h} {m} {us} {vs} l d) =
    same_levels (ps ++ (qs ++ es)) ((ps ++ qs) ++ es) (max h (max m k)) (max (max h m) k) (us ++ (vs ++ zs)) ((us ++ vs) ++ zs) (sym (append_assoc ps qs es)) (sym (max_assoc h m k)) (sym (append_assoc us vs zs))
    (inner l (more qs m vs d))

record LevelsOf (x : Parts) (n : ℕ) (ts : List Terminal) : Type 0 where
  parts : List MemberPart
  height : ℕ
  is : Levels n parts height ts
  same : x ≡ kept parts height

record DeclaratorsOf (x : Option (List DeclaratorTree)) (ts : List Terminal) : Type 0 where
  list : List DeclaratorTree
  height : ℕ
  is : AreDeclarators list height ts
  same : x ≡ kept list height

-- a row up to its declarators
data Rows : ℕ → RowType → Parts → List Terminal → Type 0 where
  row_named : {n : ℕ} (x : Parts) (at : Place) (base : Spec) {us vs : List Terminal} → LevelsOf x n us → IsSpec base vs → first_place vs ≡ Some at → Rows n (row.Named at base) x (us ++ vs)
  row_closed : {n : ℕ} (x : Parts) (o : Terminal) {us : List Terminal} → LevelsOf x (suc n) us → Is o CloseBrace → Rows n row.Closed x (us ++ o ∷ [])

data Before : Option (List DeclaratorTree) → List Terminal → Type 0 where
  none_yet : Before (Some []) []
  some : (t : Terminal) (x : Option (List DeclaratorTree)) {us : List Terminal} → DeclaratorsOf x us → Is t (Binary Comma) → Before x (us ++ t ∷ [])

abbrev HoldsIn : Parts → ℕ → RowMode → List Terminal → Type 0
HoldsIn x n Begin ts = LevelsOf x n ts
HoldsIn x n (Tagging at) ts = (us : List Terminal) × (w : Terminal) × LevelsOf x n us × Is w StructWord × (w.place ≡ at) × (ts ≡ us ++ w ∷ [])
HoldsIn x n (Typed at base) ts = (us : List Terminal) × (vs : List Terminal) × LevelsOf x n us × IsSpec base vs × (first_place vs ≡ Some at) × (ts ≡ us ++ vs)
HoldsIn x n (Naming type ds p) ts =
    (us : List Terminal) × (vs : List Terminal) × (ws : List Terminal) × Rows n type x us × Before ds vs × (feed declarator_offer ws (Goes declarator_start) ≡ Some (Goes p)) × (ts ≡ us ++ (vs ++ ws))

abbrev Holds : MembersParser → List Terminal → Type 0
Holds p ts = HoldsIn p.parts p.inside p.mode ts

-- a struct before its }
pub record MembersOf (x : Parts) (ts : List Terminal) (t : Terminal) : Type 0 where
  pub parts : List MemberPart
  pub height : ℕ
  pub is : AreMembers parts height ts
  pub brace : Is t CloseBrace
  pub same : x ≡ kept parts height

abbrev OnStep : Next → List Terminal → Terminal → Type 0
OnStep None ts t = Unit {0}
OnStep (Some (Goes p)) ts t = HoldsIn p.parts p.inside p.mode (ts ++ t ∷ [])
OnStep (Some (Ends x)) ts t = MembersOf x ts t

either : (b : Bool) (x y : Next) (ts : List Terminal) (t : Terminal) → (b ≡ true → OnStep x ts t) → (b ≡ false → OnStep y ts t) → OnStep (if b then x else y) ts t
either true x y ts t h k = h refl
either false x y ts t h k = k refl

two : (t : Terminal) (ts us vs : List Terminal) → ts ≡ us ++ vs → ts ++ t ∷ [] ≡ us ++ (vs ++ t ∷ [])
two t ts us vs all = ap (λ l. l ++ t ∷ []) all ∙ append_assoc us vs (t ∷ [])

three : (t : Terminal) (ts us vs ws : List Terminal) → ts ≡ us ++ (vs ++ ws) → ts ++ t ∷ [] ≡ us ++ (vs ++ (ws ++ t ∷ []))
three t ts us vs ws all = two t ts us (vs ++ ws) all ∙ ap (λ l. us ++ l) (append_assoc vs ws (t ∷ []))

place_front : (ts us : List Terminal) (at : Place) → first_place ts ≡ Some at → first_place (ts ++ us) ≡ Some at
place_front [] us at e = cc
place_front (t ∷ ts) us at e = e

place_of : (t : Terminal) (at : Place) → t.place ≡ at → Some t.place ≡ Some at
place_of t at e = ap (λ p. Some p) e

-- a row begins
closed_suc : (x : Parts) (n : ℕ) → closed x (suc n) ≡ goes x n (Naming row.Closed (Some []) declarator_start)
closed_suc x n = ap (closed x) (sym (add-one n)) ∙ closed_inside x n

levels_of : (x : Parts) (n : ℕ) (ps : List MemberPart) (h : ℕ) (ts : List Terminal) → Levels n ps h ts → x ≡ kept ps h → LevelsOf x n ts
levels_of x n ps h ts l e = record { parts = ps; height = h; is = l; same = e }

closed_sound : {n : ℕ} {ps : List MemberPart} {h : ℕ} {ts : List Terminal} (x : Parts) → Levels n ps h ts → x ≡ kept ps h → (t : Terminal) → Is t CloseBrace → OnStep (closed x n) ts t
closed_sound x (outermost {ps} {h} {ts} d) e t te = record { parts = ps; height = h; is = d; brace = te; same = e }
closed_sound x (inner {n} {ps} {qs} {h} {m} {us} {vs} l d) e t te =
    let P : Next → Type 0 = λ o. OnStep o (us ++ vs) t in
    subst P (sym (closed_suc x n))
    ((us ++ vs) ++ t ∷ [], [], [], row_closed x t (levels_of x (suc n) (ps ++ qs) (max h m) (us ++ vs) (inner l d) e) te, none_yet, refl, sym (append-nil ((us ++ vs) ++ t ∷ [])))

begin_sound : (x : Parts) (n : ℕ) (ts : List Terminal) → LevelsOf x n ts → (t : Terminal) (y : Symbol) → Is t y → OnStep (beginning x n y t.place) ts t
begin_sound x n ts d t (Word w) e = (ts, t ∷ [], d, one_word t w e, refl, refl)
begin_sound x n ts d t StructWord e = (ts, t, d, e, refl, refl)
begin_sound x n ts d t CloseBrace e = closed_sound x d.is d.same t e
begin_sound x n ts d t _ e = tt

tagging_sound : (x : Parts) (n : ℕ) (at : Place) (ts : List Terminal) → HoldsIn x n (Tagging at) ts → (t : Terminal) (y : Symbol) → Is t y → OnStep (tagging x n at y t.text) ts t
tagging_sound x n at ts (us, w, d, we, p, all) t (Leaf Name) e = (us, w ∷ t ∷ [], d, tagged w t we e, place_of w at p, two t ts us (w ∷ []) all)
tagging_sound x n at ts d t (Leaf (Constant _)) e = tt
tagging_sound x n at ts d t (Leaf (Character _)) e = tt
tagging_sound x n at ts d t (Leaf Text) e = tt
tagging_sound x n at ts d t _ e = tt

-- the type
word_sound : (base : Spec) (x : Parts) (n : ℕ) (at : Place) (ts : List Terminal) → HoldsIn x n (Typed at base) ts → (t : Terminal) → Is t (Word a_word.Int) → OnStep (worded x n at (both_words base)) ts t
word_sound Unsigned x n at ts (us, vs, d, sd, p, all) t e = (us, vs ++ t ∷ [], d, int_behind sd refl t e, place_front vs (t ∷ []) at p, two t ts us vs all)
word_sound _ x n at ts d t e = tt

pub record TagOf (tag : List ℕ) (at : Place) (ts : List Terminal) : Type 0 where
  pub word : Terminal
  pub name : Terminal
  pub word_is : Is word StructWord
  pub name_is : Is name (Leaf Name)
  pub place : word.place ≡ at
  pub text : name.text ≡ tag
  pub all : ts ≡ word ∷ name ∷ []

no_tag : (w : TypeWord) (tag : List ℕ) → spec_of w ≡ Struct tag → ⊥
no_tag a_word.Char tag e = cc
no_tag a_word.Int tag e = cc
no_tag a_word.Unsigned tag e = cc
no_tag a_word.Void tag e = cc

same_place : (at at' : Place) → Some at ≡ Some at' → at ≡ at'
same_place at at' e = cc

tag_text : (a b : List ℕ) → Struct a ≡ Struct b → a ≡ b
tag_text a b e = cc

pub tag_of_spec : {base : Spec} {ts : List Terminal} → IsSpec base ts → (tag : List ℕ) (at : Place) → base ≡ Struct tag → first_place ts ≡ Some at → TagOf tag at ts
tag_of_spec (one_word t w e) tag at k p = absurd (no_tag w tag k)
tag_of_spec (unsigned_int t i e e') tag at k p = cc
tag_of_spec (tagged t u e e') tag at k p = record { word = t; name = u; word_is = e; name_is = e'; place = same_place t.place at p; text = tag_text u.text tag k; all = refl }

opened_sound : (tag : List ℕ) (x : Parts) (n : ℕ) (at : Place) (ts : List Terminal) → HoldsIn x n (Typed at (Struct tag)) ts → (t : Terminal) → Is t OpenBrace → LevelsOf (last x (Some (Opens at tag))) (n + 1) (ts ++ t ∷ [])
opened_sound tag x n at ts (us, vs, d, sd, p, all) t e =
    let k = tag_of_spec sd tag at refl p in
    let opens : MemberPart = Opens k.word.place k.name.text in
    let P : List Terminal → Type 0 = λ l. LevelsOf (last x (Some opens)) (suc n) l in
    let Q : Parts → Type 0 = λ y. LevelsOf y (suc n) (ts ++ t ∷ []) in
    let R : ℕ → Type 0 = λ i. LevelsOf (last x (Some (Opens at tag))) i (ts ++ t ∷ []) in
    let make : Place → List ℕ → Parts = λ q l. last x (Some (Opens q l)) in
    let level : LevelsOf (last x (Some opens)) (suc n) (us ++ k.word ∷ k.name ∷ t ∷ []) =
    levels_of (last x (Some opens)) (suc n) (d.parts ++ opens ∷ []) (max d.height 0) (us ++ k.word ∷ k.name ∷ t ∷ []) (inner d.is (no_members k.word k.name t k.word_is k.name_is e))
    (ap (λ v. last v (Some opens)) d.same ∙ opened_kept d.parts d.height opens ∙ ap (kept (d.parts ++ opens ∷ [])) (sym (max_none d.height))) in
    subst R (sym (add-one n)) (subst Q (ap₂ make k.place k.text) (subst P (sym (two t ts us vs all ∙ ap (λ l. us ++ (l ++ t ∷ [])) k.all)) level))

brace_sound : (base : Spec) (x : Parts) (n : ℕ) (at : Place) (ts : List Terminal) → HoldsIn x n (Typed at base) ts → (t : Terminal) → Is t OpenBrace → OnStep (opened x n at (tag_of base)) ts t
brace_sound (Struct tag) x n at ts d t e = opened_sound tag x n at ts d t e
brace_sound _ x n at ts d t e = tt

-- declarators
one_more : (x : Option (List DeclaratorTree)) (y : Option (Built DeclaratorTree)) {vs ws : List Terminal} → Before x vs → DeclaratorOf y ws → DeclaratorsOf (last x (tree_in y)) (vs ++ ws)
one_more x y none_yet d =
    record {
      list = d.tree ∷ [];
      height = d.height;
      is = one_declarator d.is;
      same = ap (λ v. last (Some []) (tree_in v)) d.kept ∙ ap (last (Some [])) (tree_kept d.tree d.height) ∙ last_kept [] d.tree 0 d.height ∙ ap (kept (d.tree ∷ [])) (max_zero d.height);
    }
one_more x y {vs} {ws} (some t x' {us} k te) d =
    let P : List Terminal → Type 0 = λ l. AreDeclarators (k.list ++ d.tree ∷ []) (max k.height d.height) l in
    record {
      list = k.list ++ d.tree ∷ [];
      height = max k.height d.height;
      is = subst P (sym (append_assoc us (t ∷ []) ws)) (more_declarators t k.is te d.is);
      same = ap (λ v. last v (tree_in y)) k.same ∙ ap (λ v. last (kept k.list k.height) (tree_in v)) d.kept ∙ ap (last (kept k.list k.height)) (tree_kept d.tree d.height) ∙ last_kept k.list d.tree k.height d.height;
    }

row_same : (x : Parts) (type : RowType) (ds : Option (List DeclaratorTree)) (ps : List MemberPart) (h : ℕ) (list : List DeclaratorTree) (m : ℕ) → x ≡ kept ps h → ds ≡ kept list m
    → last x (row_with type ds) ≡ kept (ps ++ row_of type list ∷ []) (max h m)
row_same x type ds ps h list m e k = ap₂ (λ v w. last v (row_with type w)) e k ∙ ap (last (kept ps h)) (row_kept type list m) ∙ last_kept ps (row_of type list) h m

closes : {n : ℕ} {ps : List MemberPart} {h : ℕ} {us : List Terminal} (o c : Terminal) {ds : List DeclaratorTree} {k : ℕ} {ws : List Terminal} → Levels (suc n) ps h us → Is o CloseBrace → AreDeclarators ds k ws → Is c Semicolon
    → Levels n (ps ++ Closes ds ∷ []) (max h k) ((us ++ o ∷ []) ++ (ws ++ c ∷ []))
closes o c {ds} {k} {ws} (inner {n} {ps} {qs} {h} {m} {us} {vs} l d) oe dd ce =
    same_levels (ps ++ (qs ++ Closes ds ∷ [])) ((ps ++ qs) ++ Closes ds ∷ []) (max h (max m k)) (max (max h m) k)
    (us ++ (vs ++ o ∷ (ws ++ c ∷ []))) (((us ++ vs) ++ o ∷ []) ++ (ws ++ c ∷ []))
    (sym (append_assoc ps qs (Closes ds ∷ []))) (sym (max_assoc h m k))
    (sym (append_assoc (us ++ vs) (o ∷ []) (ws ++ c ∷ []) ∙ append_assoc us vs (o ∷ (ws ++ c ∷ []))))
    (extend (qs ++ Closes ds ∷ []) (max m k) (vs ++ o ∷ (ws ++ c ∷ [])) (λ ps' h' us' d'. struct_row o c d' d oe dd ce) l)

row_done : {n : ℕ} {type : RowType} {x : Parts} {us : List Terminal} (ds : Option (List DeclaratorTree)) (ws : List Terminal) (c : Terminal) → Rows n type x us → DeclaratorsOf ds ws → Is c Semicolon
    → LevelsOf (last x (row_with type ds)) n (us ++ (ws ++ c ∷ []))
row_done {n} ds ws c (row_named x at base {us} {vs} l sd p) k ce =
    let P : List Terminal → Type 0 = λ z. LevelsOf (last x (row_with (row.Named at base) ds)) n z in
    subst P (sym (append_assoc us vs (ws ++ c ∷ [])))
    (levels_of (last x (row_with (row.Named at base) ds)) n (l.parts ++ Row at base k.list ∷ []) (max l.height k.height) (us ++ (vs ++ (ws ++ c ∷ [])))
    (extend (Row at base k.list ∷ []) k.height (vs ++ (ws ++ c ∷ [])) (λ ps h us' d. named_row c d sd p k.is ce) l.is)
    (row_same x (row.Named at base) ds l.parts l.height k.list k.height l.same k.same))
row_done {n} ds ws c (row_closed x o {us} l oe) k ce =
    levels_of (last x (row_with row.Closed ds)) n (l.parts ++ Closes k.list ∷ []) (max l.height k.height) ((us ++ o ∷ []) ++ (ws ++ c ∷ []))
    (closes o c l.is oe k.is ce)
    (row_same x row.Closed ds l.parts l.height k.list k.height l.same k.same)

behind_sound : (x : Parts) (n : ℕ) (type : RowType) (ds : Option (List DeclaratorTree)) (ts us vs : List Terminal) → Rows n type x us → DeclaratorsOf ds vs → ts ≡ us ++ vs → (t : Terminal) (y : Symbol) → Is t y
    → OnStep (behind_member x n type ds y) ts t
behind_sound x n type ds ts us vs r k all t (Binary Comma) e = (us, vs ++ t ∷ [], [], r, some t ds k e, refl, two t ts us vs all ∙ ap (λ l. us ++ l) (sym (append-nil (vs ++ t ∷ []))))
behind_sound x n type ds ts us vs r k all t Semicolon e =
    let P : List Terminal → Type 0 = λ l. LevelsOf (last x (row_with type ds)) n l in
    subst P (sym (two t ts us vs all)) (row_done ds vs t r k e)
behind_sound x n type ds ts us vs r k all t _ e = tt

naming_sound : (x : Parts) (n : ℕ) (type : RowType) (ds : Option (List DeclaratorTree)) (p : DeclaratorParser) (ts : List Terminal) → HoldsIn x n (Naming type ds p) ts
    → (t : Terminal) (o : Option (Step DeclaratorParser (Option (Built DeclaratorTree)))) → declarator_offer p t ≡ o → OnStep (member_offered x n type ds t.symbol o) ts t
naming_sound x n type ds p ts d t None e = tt
naming_sound x n type ds p ts (us, vs, ws, r, k, fed, all) t (Some (Goes q)) e =
    (us, vs, ws ++ t ∷ [], r, k, then_step declarator_offer ws (t ∷ []) (Goes declarator_start) (Some (Goes p)) fed ∙ one_step declarator_offer p t [] (Some (Goes q)) e, three t ts us vs ws all)
naming_sound x n type ds p ts (us, vs, ws, r, k, fed, all) t (Some (Ends y)) e =
    behind_sound x n type (last ds (tree_in y)) ts us (vs ++ ws) r (one_more ds y k (declarator_of ws t p y fed e)) all t t.symbol refl

int_is : (y : Symbol) → is_int y ≡ true → y ≡ Word a_word.Int
int_is (Word a_word.Int) e = refl
int_is _ e = absurd (true_false (sym e))

brace_is : (y : Symbol) → is_open_brace y ≡ true → y ≡ OpenBrace
brace_is OpenBrace e = refl
brace_is _ e = absurd (true_false (sym e))

first_name : (x : Parts) (n : ℕ) (at : Place) (base : Spec) (ts : List Terminal) → HoldsIn x n (Typed at base) ts → HoldsIn x n (Naming (row.Named at base) (Some []) declarator_start) ts
first_name x n at base ts (us, vs, d, sd, p, all) = (us ++ vs, [], [], row_named x at base d sd p, none_yet, refl, all ∙ sym (append-nil (us ++ vs)))

typed_sound : (x : Parts) (n : ℕ) (at : Place) (base : Spec) (ts : List Terminal) → HoldsIn x n (Typed at base) ts → (t : Terminal) → OnStep (typed x n at base t) ts t
typed_sound x n at base ts d t =
    either (is_int t.symbol) (worded x n at (both_words base)) (if is_open_brace t.symbol then opened x n at (tag_of base) else typed_name x n at base t) ts t
    (λ so. word_sound base x n at ts d t (int_is t.symbol so))
    (λ never. either (is_open_brace t.symbol) (opened x n at (tag_of base)) (typed_name x n at base t) ts t
    (λ so. brace_sound base x n at ts d t (brace_is t.symbol so))
    (λ neither. naming_sound x n (row.Named at base) (Some []) declarator_start ts (first_name x n at base ts d) t (declarator_offer declarator_start t) refl))

mode_sound : (x : Parts) (n : ℕ) (mode : RowMode) (ts : List Terminal) → HoldsIn x n mode ts → (t : Terminal) → OnStep (shift_mode x n mode t) ts t
mode_sound x n Begin ts d t = begin_sound x n ts d t t.symbol refl
mode_sound x n (Tagging at) ts d t = tagging_sound x n at ts d t t.symbol refl
mode_sound x n (Typed at base) ts d t = typed_sound x n at base ts d t
mode_sound x n (Naming type ds p) ts d t = naming_sound x n type ds p ts d t (declarator_offer p t) refl

step_sound : (p : MembersParser) (t : Terminal) (ts : List Terminal) → Holds p ts → OnStep (members_offer p t) ts t
step_sound p t ts d = mode_sound p.parts p.inside p.mode ts d t

goes_kept : (p : MembersParser) (t : Terminal) (ts : List Terminal) → Holds p ts → (q : MembersParser) → members_offer p t ≡ Some (Goes q) → Holds q (ts ++ t ∷ [])
goes_kept p t ts d q e = let P : Next → Type 0 = λ o. OnStep o ts t in subst P e (step_sound p t ts d)

ends_kept : (p : MembersParser) (t : Terminal) (ts : List Terminal) → Holds p ts → (x : Parts) → members_offer p t ≡ Some (Ends x) → MembersOf x ts t
ends_kept p t ts d x e = let P : Next → Type 0 = λ o. OnStep o ts t in subst P e (step_sound p t ts d)

-- what is read behind the `{` of a struct, up to its }, is its members
pub members_of : (w u o : Terminal) → Is w StructWord → Is u (Leaf Name) → Is o OpenBrace → (bs : List Terminal) (t : Terminal) (q : MembersParser) (x : Parts)
    → feed members_offer bs (Goes (members_start w.place u.text)) ≡ Some (Goes q) → members_offer q t ≡ Some (Ends x) → MembersOf x (w ∷ u ∷ o ∷ bs) t
members_of w u o we ue oe bs t q x e k =
    let opens : MemberPart = Opens w.place u.text in
    ends_kept q t (w ∷ u ∷ o ∷ bs) (steps_kept members_offer Holds goes_kept bs (w ∷ u ∷ o ∷ []) (members_start w.place u.text) q (levels_of (Some (opens ∷ [])) 0 (opens ∷ []) 0 (w ∷ u ∷ o ∷ []) (outermost (no_members w u o we ue oe)) refl) e) x k
