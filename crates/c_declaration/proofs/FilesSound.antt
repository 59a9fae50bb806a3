-- What is read is a declaration at file scope, or what stands before the body of a function.
use Rattle.std.proofs.Common.{◌≡◌, ℕ, max, Bool, true, false, List, [], ◌∷◌, ◌++◌, Option, Some, None, refl, sym, ◌∙◌, ap, ap₂, subst, append_assoc, append-nil}
use Rattle.std.specs.Prelude.{if◌then◌else◌}
use Rattle.c_lex.specs.declared.token.Place.{Place}
use Rattle.c_lex.specs.declared.keyword.Keyword.TheVariants as keyword
use Rattle.c_symbol.specs.declared.terminal.Terminal.{Terminal}
use Rattle.c_symbol.specs.declared.symbol.LeafKind.TheVariants.{Name, Constant, Character, Text}
use Rattle.c_symbol.specs.declared.symbol.BinaryOp.TheVariants.{Comma}
use Rattle.c_symbol.specs.declared.symbol.TypeWord.TheVariants as a_word
use Rattle.c_symbol.specs.declared.symbol.Symbol.{Symbol}
use Rattle.c_symbol.specs.declared.symbol.Symbol.TheVariants.{Leaf, Word, Binary, Keyword, Struct as StructWord, OpenBrace, CloseBrace, Semicolon}
use Rattle.c_expr.specs.Grammar.{spec_of, IsSpec, one_word, tagged}
use Rattle.c_trees.specs.declared.expression.Spec.{Spec}
use Rattle.c_trees.specs.declared.expression.Spec.TheVariants.{Unsigned, Struct}
use Rattle.c_trees.specs.Declarators.{DeclaratorTree}
use Rattle.c_declaration.specs.declared.built.Built.{Built}
use Rattle.c_trees.specs.declared.declaration.Declared.{Declared}
use Rattle.c_trees.specs.declared.declaration.Storage.{Storage}
use Rattle.c_trees.specs.declared.declaration.Storage.TheVariants.{Plain, Extern, Static}
use Rattle.c_trees.specs.declared.declaration.FileSpec.{FileSpec}
use Rattle.c_trees.specs.declared.declaration.FileSpec.TheVariants as file_spec
use Rattle.c_trees.specs.declared.declaration.MemberPart.{MemberPart}
use Rattle.c_declaration.specs.declared.state.NameParser.{NameParser}
use Rattle.c_declaration.specs.declared.state.ReadName.{ReadName}
use Rattle.c_declaration.specs.declared.state.ReadName.TheVariants.{Bare, With}
use Rattle.c_declaration.specs.declared.state.MembersParser.{MembersParser}
use Rattle.c_declaration.specs.declared.state.FileFront.{FileFront}
use Rattle.c_declaration.specs.declared.state.Names as names
use Rattle.c_declaration.specs.declared.state.FileParser.{FileParser}
use Rattle.c_declaration.specs.declared.state.FileParser.TheVariants.{Begin, Stored, Tagging, Typed, Members, Whole, Naming}
use Rattle.c_declaration.specs.declared.state.ReadHead.{ReadHead}
use Rattle.c_declaration.specs.declared.state.ReadHead.TheVariants.{Declaration, Function}
use Rattle.c_declaration.specs.declared.step.Step.{Step}
use Rattle.c_declaration.specs.declared.step.Step.TheVariants.{Goes, Ends}
use Rattle.c_declaration.specs.Feeding.{feed}
use Rattle.c_declaration.specs.Grown.{cut, bare_name, name_with}
use Rattle.c_declaration.specs.Grammar.{Is, first_place, IsStorage, plain_storage, extern_storage, static_storage, IsFileSpec, named_spec, struct_spec, IsFileDeclared, bare, with_value, AreFileDeclared, one_file_name, more_file_names, IsHead, only_spec, with_names, IsFunctionHead, function_head}
use Rattle.c_declaration.specs.DeclaratorReading.{both_words}
use Rattle.c_declaration.specs.InitialReading.{is_open_brace}
use Rattle.c_declaration.specs.NameReading.{name_offer, name_start}
use Rattle.c_declaration.specs.LocalReading.{is_int}
use Rattle.c_declaration.specs.MembersReading.{Parts, last, tree_in, tag_of, members_offer, members_start}
use Rattle.c_declaration.specs.FileReading.{Next, goes, front_at, both, head_with, function_with, declared_of, no_names, more_names, body, declared, behind_name, name_offered, naming, is_semicolon, whole, struct_of, members_offered, opened, worded, typed, typing, beginning, tagging, file_offer}
use Rattle.c_declaration.specs.Laws.{kept, HeadOf, FileIs}
use Rattle.c_declaration.proofs.Fed.{one_step, then_step, steps_kept, last_step}
use Rattle.c_declaration.proofs.DeclaratorSound.{DeclaratorOf, int_behind}
use Rattle.c_declaration.proofs.InitialSound.{InitialOf}
use Rattle.c_declaration.proofs.DeclaredNames.{Assigned, NameOf, read_name, tree_kept, last_kept, both_kept}
use Rattle.c_declaration.proofs.MembersComplete.{max_none, max_zero}
use Rattle.c_declaration.proofs.MembersSound.{MembersOf, members_of, TagOf, tag_of_spec}
use Rattle.c_declaration.proofs.Files.{bare_kept, with_kept, struct_kept}

true_false : true ≡ false → ⊥
true_false e = cc

-- a type that is whole
record TypeOf (f : FileFront) (x : Option FileSpec) (ts : List Terminal) : Type 0 where
  us : List Terminal
  vs : List Terminal
  tree : FileSpec
  height : ℕ
  storage_is : IsStorage f.storage us
  spec_is : IsFileSpec tree height vs
  same : x ≡ kept tree height
  first_is : first_place (us ++ vs) ≡ Some f.place
  all : ts ≡ us ++ vs

record DeclaredOf (x : Option Declared) (ts : List Terminal) : Type 0 where
  tree : Declared
  height : ℕ
  is : IsFileDeclared tree height ts
  same : x ≡ kept tree height

record NamesOf (x : Option (List Declared)) (ts : List Terminal) : Type 0 where
  list : List Declared
  height : ℕ
  is : AreFileDeclared list height ts
  same : x ≡ kept list height

abbrev some_names : Option (List Declared) → names.Names
some_names x = record { any = true; list = x }

-- the names up to a comma, or none yet
data Before : names.Names → List Terminal → Type 0 where
  none_yet : Before no_names []
  some : (t : Terminal) (x : Option (List Declared)) {us : List Terminal} → NamesOf x us → Is t (Binary Comma) → Before (some_names x) (us ++ t ∷ [])

-- a struct up to its members
record Inside (f : FileFront) (p : MembersParser) (ts : List Terminal) : Type 0 where
  us : List Terminal
  word : Terminal
  tag : Terminal
  brace : Terminal
  bs : List Terminal
  storage_is : IsStorage f.storage us
  word_is : Is word StructWord
  tag_is : Is tag (Leaf Name)
  brace_is : Is brace OpenBrace
  first_is : first_place (us ++ word ∷ []) ≡ Some f.place
  fed : feed members_offer bs (Goes (members_start word.place tag.text)) ≡ Some (Goes p)
  all : ts ≡ us ++ word ∷ tag ∷ brace ∷ bs

abbrev Holds : FileParser → List Terminal → Type 0
Holds Begin ts = ts ≡ []
Holds (Stored f) ts = IsStorage f.storage ts × (first_place ts ≡ Some f.place)
Holds (Tagging f at) ts = (us : List Terminal) × (w : Terminal) × IsStorage f.storage us × Is w StructWord × (w.place ≡ at) × (first_place (us ++ w ∷ []) ≡ Some f.place) × (ts ≡ us ++ w ∷ [])
Holds (Typed f at base) ts =
    (us : List Terminal) × (vs : List Terminal) × IsStorage f.storage us × IsSpec base vs × (first_place vs ≡ Some at) × (first_place (us ++ vs) ≡ Some f.place) × (ts ≡ us ++ vs)
Holds (Members f p) ts = Inside f p ts
Holds (Whole f x) ts = TypeOf f x ts
Holds (Naming f x ns p) ts = (us : List Terminal) × (vs : List Terminal) × (ws : List Terminal) × TypeOf f x us × Before ns vs × (feed name_offer ws (Goes name_start) ≡ Some (Goes p)) × (ts ≡ us ++ (vs ++ ws))

abbrev OnStep : Next → List Terminal → Terminal → Type 0
OnStep None ts t = Unit {0}
OnStep (Some (Goes p)) ts t = Holds p (ts ++ t ∷ [])
OnStep (Some (Ends a)) ts t = HeadOf a (ts ++ t ∷ [])

either : (b : Bool) (x y : Next) (ts : List Terminal) (t : Terminal) → (b ≡ true → OnStep x ts t) → (b ≡ false → OnStep y ts t) → OnStep (if b then x else y) ts t
either true x y ts t h k = h refl
either false x y ts t h k = k refl

place_front : (ts us : List Terminal) (at : Place) → first_place ts ≡ Some at → first_place (ts ++ us) ≡ Some at
place_front [] us at e = cc
place_front (t ∷ ts) us at e = e

place_behind : (us vs ws : List Terminal) (at : Place) → first_place (us ++ vs) ≡ Some at → first_place (us ++ (vs ++ ws)) ≡ Some at
place_behind us vs ws at e = let P : List Terminal → Type 0 = λ l. first_place l ≡ Some at in subst P (append_assoc us vs ws) (place_front (us ++ vs) ws at e)

two : (t : Terminal) (ts us vs : List Terminal) → ts ≡ us ++ vs → ts ++ t ∷ [] ≡ us ++ (vs ++ t ∷ [])
two t ts us vs all = ap (λ l. l ++ t ∷ []) all ∙ append_assoc us vs (t ∷ [])

three : (t : Terminal) (ts us vs ws : List Terminal) → ts ≡ us ++ (vs ++ ws) → ts ++ t ∷ [] ≡ us ++ (vs ++ (ws ++ t ∷ []))
three t ts us vs ws all = two t ts us (vs ++ ws) all ∙ ap (λ l. us ++ l) (append_assoc vs ws (t ∷ []))

place_of : (t : Terminal) (at : Place) → t.place ≡ at → Some t.place ≡ Some at
place_of t at e = ap (λ p. Some p) e

-- the type
typing_sound : (f : FileFront) (ts : List Terminal) → IsStorage f.storage ts → (t : Terminal) (y : Symbol) → Is t y → first_place (ts ++ t ∷ []) ≡ Some f.place → OnStep (typing f y t.place) ts t
typing_sound f ts d t (Word w) e p = (ts, t ∷ [], d, one_word t w e, refl, p, refl)
typing_sound f ts d t StructWord e p = (ts, t, d, e, refl, p, refl)
typing_sound f ts d t _ e p = tt

begin_sound : (ts : List Terminal) → ts ≡ [] → (t : Terminal) (y : Symbol) → Is t y → OnStep (beginning y t.place) ts t
begin_sound ts n t (Keyword keyword.Extern) e =
    let P : List Terminal → Type 0 = λ l. IsStorage Extern (l ++ t ∷ []) × (first_place (l ++ t ∷ []) ≡ Some t.place) in subst P (sym n) (extern_storage t e, refl)
begin_sound ts n t (Keyword keyword.Static) e =
    let P : List Terminal → Type 0 = λ l. IsStorage Static (l ++ t ∷ []) × (first_place (l ++ t ∷ []) ≡ Some t.place) in subst P (sym n) (static_storage t e, refl)
begin_sound ts n t y e =
    let P : List Terminal → Type 0 = λ l. IsStorage Plain l × (first_place (l ++ t ∷ []) ≡ Some t.place) in
    let k = subst P (sym n) (plain_storage, refl) in
    typing_sound (front_at t.place Plain) ts k.0 t y e k.1

tagging_sound : (f : FileFront) (at : Place) (ts : List Terminal) → Holds (Tagging f at) ts → (t : Terminal) (y : Symbol) → Is t y → OnStep (tagging f at y t.text) ts t
tagging_sound f at ts (us, w, d, we, p, q, all) t (Leaf Name) e = (us, w ∷ t ∷ [], d, tagged w t we e, place_of w at p, place_behind us (w ∷ []) (t ∷ []) f.place q, two t ts us (w ∷ []) all)
tagging_sound f at ts d t (Leaf (Constant _)) e = tt
tagging_sound f at ts d t (Leaf (Character _)) e = tt
tagging_sound f at ts d t (Leaf Text) e = tt
tagging_sound f at ts d t _ e = tt

word_sound : (base : Spec) (f : FileFront) (at : Place) (ts : List Terminal) → Holds (Typed f at base) ts → (t : Terminal) → Is t (Word a_word.Int) → OnStep (worded f at (both_words base)) ts t
word_sound Unsigned f at ts (us, vs, d, sd, p, q, all) t e = (us, vs ++ t ∷ [], d, int_behind sd refl t e, place_front vs (t ∷ []) at p, place_behind us vs (t ∷ []) f.place q, two t ts us vs all)
word_sound _ f at ts d t e = tt

first_tag : (us : List Terminal) (w u : Terminal) (at : Place) → first_place (us ++ w ∷ u ∷ []) ≡ Some at → first_place (us ++ w ∷ []) ≡ Some at
first_tag [] w u at e = e
first_tag (t ∷ ts) w u at e = e

opened_sound : (tag : List ℕ) (f : FileFront) (at : Place) (ts : List Terminal) → Holds (Typed f at (Struct tag)) ts → (t : Terminal) → Is t OpenBrace → Inside f (members_start at tag) (ts ++ t ∷ [])
opened_sound tag f at ts (us, vs, d, sd, p, q, all) t e =
    let k = tag_of_spec sd tag at refl p in
    let P : MembersParser → Type 0 = λ m. Inside f m (ts ++ t ∷ []) in
    let Q : List Terminal → Type 0 = λ l. first_place (us ++ l) ≡ Some f.place in
    subst P (ap₂ members_start k.place k.text)
    (record {
      us = us;
      word = k.word;
      tag = k.name;
      brace = t;
      bs = [];
      storage_is = d;
      word_is = k.word_is;
      tag_is = k.name_is;
      brace_is = e;
      first_is = first_tag us k.word k.name f.place (subst Q k.all q);
      fed = refl;
      all = two t ts us vs all ∙ ap (λ l. us ++ (l ++ t ∷ [])) k.all;
    })

brace_sound : (base : Spec) (f : FileFront) (at : Place) (ts : List Terminal) → Holds (Typed f at base) ts → (t : Terminal) → Is t OpenBrace → OnStep (opened f at (tag_of base)) ts t
brace_sound (Struct tag) f at ts d t e = opened_sound tag f at ts d t e
brace_sound _ f at ts d t e = tt

named_type : (f : FileFront) (at : Place) (base : Spec) (ts : List Terminal) → Holds (Typed f at base) ts → TypeOf f (Some (file_spec.Named base)) ts
named_type f at base ts (us, vs, d, sd, p, q, all) = record { us = us; vs = vs; tree = file_spec.Named base; height = 0; storage_is = d; spec_is = named_spec sd; same = refl; first_is = q; all = all }

-- members
members_sound : (f : FileFront) (p : MembersParser) (ts : List Terminal) → Inside f p ts → (t : Terminal) (o : Option (Step MembersParser Parts)) → members_offer p t ≡ o → OnStep (members_offered f o) ts t
members_sound f p ts d t None e = tt
members_sound f p ts d t (Some (Goes q)) e =
    record {
      us = d.us;
      word = d.word;
      tag = d.tag;
      brace = d.brace;
      bs = d.bs ++ t ∷ [];
      storage_is = d.storage_is;
      word_is = d.word_is;
      tag_is = d.tag_is;
      brace_is = d.brace_is;
      first_is = d.first_is;
      fed = then_step members_offer d.bs (t ∷ []) (Goes (members_start d.word.place d.tag.text)) (Some (Goes p)) d.fed ∙ one_step members_offer p t [] (Some (Goes q)) e;
      all = two t ts d.us (d.word ∷ d.tag ∷ d.brace ∷ d.bs) d.all;
    }
members_sound f p ts d t (Some (Ends x)) e =
    let k = members_of d.word d.tag d.brace d.word_is d.tag_is d.brace_is d.bs t p x d.fed e in
    let vs = d.word ∷ d.tag ∷ d.brace ∷ (d.bs ++ t ∷ []) in
    record {
      us = d.us;
      vs = vs;
      tree = file_spec.Members k.parts;
      height = k.height;
      storage_is = d.storage_is;
      spec_is = struct_spec t k.is k.brace;
      same = ap struct_of k.same ∙ struct_kept k.parts k.height;
      first_is = place_behind d.us (d.word ∷ []) (d.tag ∷ d.brace ∷ (d.bs ++ t ∷ [])) f.place d.first_is;
      all = two t ts d.us (d.word ∷ d.tag ∷ d.brace ∷ d.bs) d.all;
    }

-- names
declared_name : (r : ReadName) (ts : List Terminal) → NameOf r ts → DeclaredOf (declared_of r) ts
declared_name (Bare x) ts d = record { tree = bare_name d.tree; height = d.height; is = bare d.is; same = ap (λ v. declared_of (Bare v)) d.kept ∙ bare_kept d.tree d.height }
declared_name (With x y) ts d =
    let dd = d.declarator in
    let ii = d.initial in
    let P : List Terminal → Type 0 = λ l. IsFileDeclared (name_with dd.tree ii.tree) (max dd.height ii.height) l in
    record {
      tree = name_with dd.tree ii.tree;
      height = max dd.height ii.height;
      is = subst P (sym d.all) (with_value d.equals dd.is d.is ii.is);
      same = ap (λ v. declared_of (With v y)) dd.kept ∙ ap (λ v. declared_of (With (cut dd.tree dd.height) v)) ii.kept ∙ with_kept dd.tree ii.tree dd.height ii.height;
    }

one_more : (ns : names.Names) (y : Option Declared) {vs ws : List Terminal} → Before ns vs → DeclaredOf y ws → NamesOf (last ns.list y) (vs ++ ws)
one_more ns y none_yet d =
    record { list = d.tree ∷ []; height = d.height; is = one_file_name d.is; same = ap (last (Some [])) d.same ∙ last_kept [] d.tree 0 d.height ∙ ap (kept (d.tree ∷ [])) (max_zero d.height) }
one_more ns y {vs} {ws} (some t x {us} k te) d =
    let P : List Terminal → Type 0 = λ l. AreFileDeclared (k.list ++ d.tree ∷ []) (max k.height d.height) l in
    record {
      list = k.list ++ d.tree ∷ [];
      height = max k.height d.height;
      is = subst P (sym (append_assoc us (t ∷ []) ws)) (more_file_names t k.is te d.is);
      same = ap (λ v. last v y) k.same ∙ ap (last (kept k.list k.height)) d.same ∙ last_kept k.list d.tree k.height d.height;
    }

none_before : {ns : names.Names} {vs : List Terminal} → Before ns vs → ns.any ≡ false → vs ≡ []
none_before none_yet e = refl
none_before (some t x k te) e = absurd (true_false e)

-- the ends
declared_sound : (f : FileFront) (x : Option FileSpec) (y : Option (List Declared)) (ts us vs : List Terminal) → TypeOf f x us → NamesOf y vs → ts ≡ us ++ vs → (t : Terminal) → Is t Semicolon → OnStep (declared f x y) ts t
declared_sound f x y ts us vs d k all t e =
    let P : List Terminal → Type 0 = λ l. IsHead (head_with f d.tree k.list) (max d.height k.height) l in (
      head_with f d.tree k.list,
      max d.height k.height,
      subst P (sym (two t ts us vs all ∙ ap (λ l. l ++ (vs ++ t ∷ [])) d.all ∙ append_assoc d.us d.vs (vs ++ t ∷ []))) (with_names t d.storage_is d.spec_is d.first_is k.is e),
      refl,
      ap₂ (both (head_with f)) d.same k.same ∙ both_kept (head_with f) d.tree k.list d.height k.height,
    )

only_sound : (f : FileFront) (x : Option FileSpec) (ts : List Terminal) → TypeOf f x ts → (t : Terminal) → Is t Semicolon → OnStep (declared f x (Some [])) ts t
only_sound f x ts d t e =
    let P : List Terminal → Type 0 = λ l. IsHead (head_with f d.tree []) d.height l in (
      head_with f d.tree [],
      d.height,
      subst P (sym (two t ts d.us d.vs d.all)) (only_spec t d.storage_is d.spec_is d.first_is e),
      refl,
      ap (λ v. both (head_with f) v (Some [])) d.same ∙ both_kept (head_with f) d.tree [] d.height 0 ∙ ap (kept (head_with f d.tree [])) (max_none d.height),
    )

body_sound : (f : FileFront) (x : Option FileSpec) (r : ReadName) (ts us ws : List Terminal) → TypeOf f x us → NameOf r ws → ts ≡ us ++ ws → (t : Terminal) → Is t OpenBrace → OnStep (body f x r) ts t
body_sound f x (Bare y) ts us ws d k all t e =
    let P : List Terminal → Type 0 = λ l. IsFunctionHead (function_with f d.tree k.tree) (max d.height k.height) l in (
      function_with f d.tree k.tree,
      max d.height k.height,
      ts,
      t,
      subst P (sym (all ∙ ap (λ l. l ++ ws) d.all ∙ append_assoc d.us d.vs ws)) (function_head d.storage_is d.spec_is d.first_is k.is),
      e,
      refl,
      refl,
      ap₂ (λ v w. both (function_with f) v (tree_in w)) d.same k.kept ∙ ap (both (function_with f) (kept d.tree d.height)) (tree_kept k.tree k.height) ∙ both_kept (function_with f) d.tree k.tree d.height k.height,
    )
body_sound f x (With y z) ts us ws d k all t e = tt

behind_sound : (f : FileFront) (x : Option FileSpec) (ns : names.Names) (r : ReadName) (ts us vs ws : List Terminal) → TypeOf f x us → Before ns vs → NameOf r ws → ts ≡ us ++ (vs ++ ws) → (t : Terminal) (y : Symbol) → Is t y
    → OnStep (behind_name f x ns r y) ts t
behind_sound f x ns r ts us vs ws d b k all t (Binary Comma) e =
    let more = one_more ns (declared_of r) b (declared_name r ws k) in
    (us, (vs ++ ws) ++ t ∷ [], [], d, some t (last ns.list (declared_of r)) more e, refl, two t ts us (vs ++ ws) all ∙ ap (λ l. us ++ l) (sym (append-nil ((vs ++ ws) ++ t ∷ []))))
behind_sound f x ns r ts us vs ws d b k all t Semicolon e = declared_sound f x (last ns.list (declared_of r)) ts us (vs ++ ws) d (one_more ns (declared_of r) b (declared_name r ws k)) all t e
behind_sound f x ns r ts us vs ws d b k all t OpenBrace e =
    either ns.any None (body f x r) ts t
    (λ so. tt)
    (λ never. body_sound f x r ts us ws d k (all ∙ ap (λ l. us ++ (l ++ ws)) (none_before b never)) t e)
behind_sound f x ns r ts us vs ws d b k all t _ e = tt

naming_sound : (f : FileFront) (x : Option FileSpec) (ns : names.Names) (p : NameParser) (ts : List Terminal) → Holds (Naming f x ns p) ts → (t : Terminal) (o : Option (Step NameParser ReadName)) → name_offer p t ≡ o
    → OnStep (name_offered f x ns t.symbol o) ts t
naming_sound f x ns p ts d t None e = tt
naming_sound f x ns p ts (us, vs, ws, d, b, fed, all) t (Some (Goes q)) e =
    (us, vs, ws ++ t ∷ [], d, b, then_step name_offer ws (t ∷ []) (Goes name_start) (Some (Goes p)) fed ∙ one_step name_offer p t [] (Some (Goes q)) e, three t ts us vs ws all)
naming_sound f x ns p ts (us, vs, ws, d, b, fed, all) t (Some (Ends r)) e = behind_sound f x ns r ts us vs ws d b (read_name ws t p r fed e) all t t.symbol refl

int_is : (y : Symbol) → is_int y ≡ true → y ≡ Word a_word.Int
int_is (Word a_word.Int) e = refl
int_is _ e = absurd (true_false (sym e))

brace_is : (y : Symbol) → is_open_brace y ≡ true → y ≡ OpenBrace
brace_is OpenBrace e = refl
brace_is _ e = absurd (true_false (sym e))

semicolon_is : (y : Symbol) → is_semicolon y ≡ true → y ≡ Semicolon
semicolon_is Semicolon e = refl
semicolon_is _ e = absurd (true_false (sym e))

whole_sound : (f : FileFront) (x : Option FileSpec) (ts : List Terminal) → TypeOf f x ts → (t : Terminal) → OnStep (whole f x t) ts t
whole_sound f x ts d t =
    either (is_semicolon t.symbol) (declared f x (Some [])) (naming f x no_names name_start t) ts t
    (λ so. only_sound f x ts d t (semicolon_is t.symbol so))
    (λ never. naming_sound f x no_names name_start ts (ts, [], [], d, none_yet, refl, sym (append-nil ts)) t (name_offer name_start t) refl)

typed_sound : (f : FileFront) (at : Place) (base : Spec) (ts : List Terminal) → Holds (Typed f at base) ts → (t : Terminal) → OnStep (typed f at base t) ts t
typed_sound f at base ts d t =
    either (is_int t.symbol) (worded f at (both_words base)) (if is_open_brace t.symbol then opened f at (tag_of base) else whole f (Some (file_spec.Named base)) t) ts t
    (λ so. word_sound base f at ts d t (int_is t.symbol so))
    (λ never. either (is_open_brace t.symbol) (opened f at (tag_of base)) (whole f (Some (file_spec.Named base)) t) ts t
    (λ so. brace_sound base f at ts d t (brace_is t.symbol so))
    (λ neither. whole_sound f (Some (file_spec.Named base)) ts (named_type f at base ts d) t))

step_sound : (p : FileParser) (t : Terminal) (ts : List Terminal) → Holds p ts → OnStep (file_offer p t) ts t
step_sound Begin t ts d = begin_sound ts d t t.symbol refl
step_sound (Stored f) t ts d = typing_sound f ts d.0 t t.symbol refl (place_front ts (t ∷ []) f.place d.1)
step_sound (Tagging f at) t ts d = tagging_sound f at ts d t t.symbol refl
step_sound (Typed f at base) t ts d = typed_sound f at base ts d t
step_sound (Members f p) t ts d = members_sound f p ts d t (members_offer p t) refl
step_sound (Whole f x) t ts d = whole_sound f x ts d t
step_sound (Naming f x ns p) t ts d = naming_sound f x ns p ts d t (name_offer p t) refl

goes_kept : (p : FileParser) (t : Terminal) (ts : List Terminal) → Holds p ts → (q : FileParser) → file_offer p t ≡ Some (Goes q) → Holds q (ts ++ t ∷ [])
goes_kept p t ts d q e = let P : Next → Type 0 = λ o. OnStep o ts t in subst P e (step_sound p t ts d)

ends_kept : (p : FileParser) (t : Terminal) (ts : List Terminal) → Holds p ts → (a : ReadHead) → file_offer p t ≡ Some (Ends a) → HeadOf a (ts ++ t ∷ [])
ends_kept p t ts d a e = let P : Next → Type 0 = λ o. OnStep o ts t in subst P e (step_sound p t ts d)

pub file_is : FileIs
file_is ts a e =
    let r = last_step file_offer ts Begin a e in
    let P : List Terminal → Type 0 = λ l. HeadOf a l in
    subst P (sym r.all) (ends_kept r.now r.token r.front (steps_kept file_offer Holds goes_kept r.front [] Begin r.now refl r.goes) a r.ends)
