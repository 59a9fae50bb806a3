-- Declarations in a block, both ways.
use Rattle.std.proofs.Common.{◌≡◌, ℕ, suc, ◌+◌, max, Bool, true, false, List, [], ◌∷◌, ◌++◌, Option, Some, None, refl, sym, ◌∙◌, ap, ap₂, subst, append_assoc, append-nil, add-one}
use Rattle.std.specs.Prelude.{if◌then◌else◌}
use Rattle.c_lex.specs.declared.token.Place.{Place}
use Rattle.c_lex.specs.declared.keyword.Keyword.TheVariants as keyword
use Rattle.c_symbol.specs.declared.terminal.Terminal.{Terminal}
use Rattle.c_symbol.specs.declared.symbol.LeafKind.TheVariants.{Name, Constant, Character, Text}
use Rattle.c_symbol.specs.declared.symbol.BinaryOp.TheVariants.{Comma}
use Rattle.c_symbol.specs.declared.symbol.TypeWord.{TypeWord}
use Rattle.c_symbol.specs.declared.symbol.TypeWord.TheVariants as a_word
use Rattle.c_symbol.specs.declared.symbol.Symbol.{Symbol}
use Rattle.c_symbol.specs.declared.symbol.Symbol.TheVariants.{Leaf, Word, Binary, Keyword, Struct as StructWord, Semicolon}
use Rattle.c_expr.specs.Grammar.{spec_of, IsSpec, one_word, unsigned_int, tagged}
use Rattle.c_trees.specs.declared.expression.Spec.{Spec}
use Rattle.c_trees.specs.declared.expression.Spec.TheVariants.{Unsigned, UnsignedInt, Struct}
use Rattle.c_declaration.specs.declared.built.Built.{Built}
use Rattle.c_trees.specs.declared.declaration.Declared.{Declared}
use Rattle.c_trees.specs.declared.declaration.Local.{Local}
use Rattle.c_declaration.specs.declared.state.NameParser.{NameParser}
use Rattle.c_declaration.specs.declared.state.ReadName.{ReadName}
use Rattle.c_declaration.specs.declared.state.ReadName.TheVariants.{Bare, With}
use Rattle.c_declaration.specs.declared.state.LocalFront.{LocalFront}
use Rattle.c_declaration.specs.declared.state.LocalParser.{LocalParser}
use Rattle.c_declaration.specs.declared.state.LocalParser.TheVariants.{Begin, Registered, Tagging, Typed, Naming}
use Rattle.c_declaration.specs.declared.state.ReadLocal.{ReadLocal}
use Rattle.c_declaration.specs.declared.step.Step.{Step}
use Rattle.c_declaration.specs.declared.step.Step.TheVariants.{Goes, Ends}
use Rattle.c_declaration.specs.Feeding.{feed}
use Rattle.c_declaration.specs.Grown.{cut, grow, bare_name, name_with, bare_of, with_of, put_last, names_of, no_names}
use Rattle.c_declaration.specs.Grammar.{Is, first_place, IsRegister, unmarked, marked, IsDeclared, plain, with_initial, AreDeclared, one_name, more_names, IsLocal, local}
use Rattle.c_declaration.specs.DeclaratorReading.{both_words}
use Rattle.c_declaration.specs.NameReading.{name_offer, name_start}
use Rattle.c_declaration.specs.LocalReading.{Next, goes, front_at, local_with, local_of, declared_of, behind_name, name_offered, naming, is_int, worded, typed, typing, beginning, tagging, local_offer}
use Rattle.c_declaration.specs.Laws.{LocalEnds, LocalIs}
use Rattle.c_declaration.proofs.Pieces.{if_false, grow_cut, grow_two_cut, grow_list_cut, bare_cut}
use Rattle.c_declaration.proofs.Fed.{onward, one_step, then_step, inside, steps_kept, last_step}
use Rattle.c_declaration.proofs.DeclaratorSound.{int_behind}
use Rattle.c_declaration.proofs.InitialComplete.{max_zero}
use Rattle.c_declaration.proofs.DeclaredNames.{EndsName, comma, semicolon, goes_on_name, equals_name, closes_name, ReadsName, reads_bare, reads_with, Assigned, NameOf, read_name, Begins, declarator_begins, more_begins}

true_false : true ≡ false → ⊥
true_false e = cc

abbrev run : List Terminal → LocalParser → Next
run ts p = feed local_offer ts (Goes p)

same_place : (at at' : Place) → Some at ≡ Some at' → at ≡ at'
same_place at at' e = cc

-- one token
begin_step : (t : Terminal) (ts : List Terminal) (y : Symbol) (next : LocalParser) → Is t y → beginning y t.place ≡ goes next → run (t ∷ ts) Begin ≡ run ts next
begin_step t ts y next e k = one_step local_offer Begin t ts (goes next) (ap (λ v. beginning v t.place) e ∙ k)

registered_step : (at : Place) (t : Terminal) (ts : List Terminal) (y : Symbol) (next : LocalParser) → Is t y → typing at true y ≡ goes next → run (t ∷ ts) (Registered at) ≡ run ts next
registered_step at t ts y next e k = one_step local_offer (Registered at) t ts (goes next) (ap (λ v. typing at true v) e ∙ k)

tagging_step : (at : Place) (r : Bool) (t : Terminal) (ts : List Terminal) → Is t (Leaf Name) → run (t ∷ ts) (Tagging at r) ≡ run ts (Typed (front_at at r (Struct t.text)))
tagging_step at r t ts e = one_step local_offer (Tagging at r) t ts (goes (Typed (front_at at r (Struct t.text)))) (ap (λ v. tagging at r v t.text) e)

abbrev typed_by : LocalFront → Terminal → Bool → Next
typed_by f t b = if b then worded f.place f.register (both_words f.spec) else naming f no_names name_start t

int_step : (at : Place) (r : Bool) (t : Terminal) (ts : List Terminal) → Is t (Word a_word.Int) → run (t ∷ ts) (Typed (front_at at r Unsigned)) ≡ run ts (Typed (front_at at r UnsignedInt))
int_step at r t ts e = one_step local_offer (Typed (front_at at r Unsigned)) t ts (goes (Typed (front_at at r UnsignedInt))) (ap (λ v. typed_by (front_at at r Unsigned) t (is_int v)) e)

-- the type
type_run : {spec : Spec} {vs : List Terminal} → IsSpec spec vs → (at : Place) (r : Bool) (rest : List Terminal) (p : LocalParser)
    → ((t : Terminal) (ts : List Terminal) (w : TypeWord) → first_place vs ≡ Some t.place → Is t (Word w) → run (t ∷ ts) p ≡ run ts (Typed (front_at at r (spec_of w))))
    → ((t : Terminal) (ts : List Terminal) → first_place vs ≡ Some t.place → Is t StructWord → run (t ∷ ts) p ≡ run ts (Tagging at r))
    → run (vs ++ rest) p ≡ run rest (Typed (front_at at r spec))
type_run (one_word t w e) at r rest p word tag = word t rest w refl e
type_run (unsigned_int t i e e') at r rest p word tag = word t (i ∷ rest) a_word.Unsigned refl e ∙ int_step at r i rest e'
type_run (tagged t n e e') at r rest p word tag = tag t (n ∷ rest) refl e ∙ tagging_step at r n rest e'

registered_run : {spec : Spec} {vs : List Terminal} → IsSpec spec vs → (at : Place) (rest : List Terminal) → run (vs ++ rest) (Registered at) ≡ run rest (Typed (front_at at true spec))
registered_run d at rest =
    type_run d at true rest (Registered at)
    (λ t ts w p e. registered_step at t ts (Word w) (Typed (front_at at true (spec_of w))) e refl)
    (λ t ts p e. registered_step at t ts StructWord (Tagging at true) e refl)

plain_run : {spec : Spec} {vs : List Terminal} → IsSpec spec vs → (at : Place) → first_place vs ≡ Some at → (rest : List Terminal) → run (vs ++ rest) Begin ≡ run rest (Typed (front_at at false spec))
plain_run d at first_is rest =
    type_run d at false rest Begin
    (λ t ts w p e. begin_step t ts (Word w) (Typed (front_at t.place false (spec_of w))) e refl ∙ ap (λ x. run ts (Typed (front_at x false (spec_of w)))) (same_place t.place at (sym p ∙ first_is)))
    (λ t ts p e. begin_step t ts StructWord (Tagging t.place false) e refl ∙ ap (λ x. run ts (Tagging x false)) (same_place t.place at (sym p ∙ first_is)))

front_run : {r : Bool} {spec : Spec} {us vs : List Terminal} → IsRegister r us → IsSpec spec vs → (at : Place) → first_place (us ++ vs) ≡ Some at → (rest : List Terminal) → run (us ++ (vs ++ rest)) Begin ≡ run rest (Typed (front_at at r spec))
front_run unmarked d at first_is rest = plain_run d at first_is rest
front_run {r} {spec} {us} {vs} (marked t e) d at first_is rest =
    begin_step t (vs ++ rest) (Keyword keyword.Register) (Registered t.place) e refl
    ∙ registered_run d t.place rest
    ∙ ap (λ x. run rest (Typed (front_at x true spec))) (same_place t.place at first_is)

-- a declared name
record ReachedName (d : Declared) (h : ℕ) (ts : List Terminal) (t : Terminal) : Type 0 where
  name : ReadName
  reads : ReadsName ts t name
  is : declared_of name ≡ cut d h

reach_name : {d : Declared} {h : ℕ} {ts : List Terminal} → IsDeclared d h ts → (t : Terminal) → EndsName t → ReachedName d h ts t
reach_name (plain {d} {h} {ts} dd) t e = record { name = Bare (cut d h); reads = reads_bare dd t (goes_on_name e) (equals_name e); is = bare_cut d h }
reach_name (with_initial u {d} {i} {m} {n} {us} {vs} dd ue ii) t e = record { name = With (cut d m) (cut i n); reads = reads_with dd u ue ii t (closes_name e); is = grow_two_cut name_with d i m n }

name_begins : {d : Declared} {h : ℕ} {ts : List Terminal} → IsDeclared d h ts → Begins ts
name_begins (plain dd) = declarator_begins dd
name_begins (with_initial u {d} {i} {m} {n} {us} {vs} dd ue ii) = more_begins us (u ∷ vs) (declarator_begins dd)

name_inside : (f : LocalFront) (ds : Option (Built (List Declared))) (p : NameParser) (t : Terminal) (r : NameParser) → name_offer p t ≡ Some (Goes r) → local_offer (Naming f ds p) t ≡ goes (Naming f ds r)
name_inside f ds p t r e = ap (name_offered f ds t.symbol) e

names_run : (f : LocalFront) (ds : Option (Built (List Declared))) (ts rest : List Terminal) (q : NameParser) → feed name_offer ts (Goes name_start) ≡ Some (Goes q) → run (ts ++ rest) (Naming f ds name_start) ≡ run rest (Naming f ds q)
names_run f ds ts rest q e =
    then_step local_offer ts rest (Goes (Naming f ds name_start)) (goes (Naming f ds q)) (inside name_offer local_offer (λ p. Naming f ds p) (name_inside f ds) ts name_start q e)

-- the first token of the first name
typed_begins : (f : LocalFront) (t : Terminal) (ts : List Terminal) → is_int t.symbol ≡ false → run (t ∷ ts) (Typed f) ≡ run (t ∷ ts) (Naming f no_names name_start)
typed_begins f t ts e = ap (λ v. onward local_offer ts (typed_by f t v)) e

typed_run : (f : LocalFront) (ts rest : List Terminal) → Begins ts → run (ts ++ rest) (Typed f) ≡ run (ts ++ rest) (Naming f no_names name_start)
typed_run f ts rest b =
    ap (λ l. run (l ++ rest) (Typed f)) b.all ∙ typed_begins f b.token (b.rest ++ rest) b.no_int ∙ ap (λ l. run (l ++ rest) (Naming f no_names name_start)) (sym b.all)

record ReachedNames (ds : List Declared) (h : ℕ) (f : LocalFront) (ts : List Terminal) (t : Terminal) : Type 0 where
  now : LocalParser
  runs : (rest : List Terminal) → run (ts ++ rest) (Typed f) ≡ run rest now
  ends : local_offer now t ≡ behind_name f (cut ds h) t.symbol

reach_names : {ds : List Declared} {h : ℕ} {ts : List Terminal} → AreDeclared ds h ts → (f : LocalFront) (t : Terminal) → EndsName t → ReachedNames ds h f ts t
reach_names (one_name {d} {h} {ts} dd) f t e =
    let r = reach_name dd t e in
    record {
      now = Naming f no_names r.reads.now;
      runs = λ rest. typed_run f ts rest (name_begins dd) ∙ names_run f no_names ts rest r.reads.now r.reads.goes;
      ends = ap (name_offered f no_names t.symbol) r.reads.ends
          ∙ ap (λ v. behind_name f (names_of no_names v) t.symbol) r.is
          ∙ ap (λ v. behind_name f v t.symbol) (grow_list_cut 64 1 refl put_last [] d 0 h)
          ∙ ap (λ n. behind_name f (cut (d ∷ []) n) t.symbol) (max_zero h);
    }
reach_names (more_names u {d} {ds} {m} {n} {us} {vs} dds ue dd) f t e =
    let q = reach_names dds f u (comma u ue) in
    let r = reach_name dd t e in
    record {
      now = Naming f (cut ds m) r.reads.now;
      runs = λ rest. ap (λ l. run l (Typed f)) (append_assoc us (u ∷ vs) rest)
          ∙ q.runs (u ∷ (vs ++ rest))
          ∙ one_step local_offer q.now u (vs ++ rest) (goes (Naming f (cut ds m) name_start)) (q.ends ∙ ap (behind_name f (cut ds m)) ue)
          ∙ names_run f (cut ds m) vs rest r.reads.now r.reads.goes;
      ends = ap (name_offered f (cut ds m) t.symbol) r.reads.ends
          ∙ ap (λ v. behind_name f (names_of (cut ds m) v) t.symbol) r.is
          ∙ ap (λ v. behind_name f v t.symbol) (grow_list_cut 64 1 refl put_last ds d m n)
          ∙ ap (λ k. behind_name f (cut (ds ++ d ∷ []) (max m k)) t.symbol) (add-one n);
    }

abbrev read_as : Place → Option (Built Local) → ReadLocal
read_as at l = record { place = at; local = l }

pub local_ends : LocalEnds
local_ends l k ts (local c {r} {base} {at} {ds} {h} {us} {vs} {ws} rd sd first_is dd ce) =
    let f = front_at at r base in
    let q = reach_names dd f c (semicolon c ce) in
    front_run rd sd at first_is (ws ++ c ∷ [])
    ∙ q.runs (c ∷ [])
    ∙ one_step local_offer q.now c [] (Some (Ends (local_of f (cut ds h)))) (q.ends ∙ ap (behind_name f (cut ds h)) ce)
    ∙ ap (λ v. Some (Ends (read_as at v))) (grow_cut (local_with f) ds h)

-- what is read is a declaration
record TypeOf (f : LocalFront) (ts : List Terminal) : Type 0 where
  us : List Terminal
  vs : List Terminal
  register_is : IsRegister f.register us
  spec_is : IsSpec f.spec vs
  first_is : first_place (us ++ vs) ≡ Some f.place
  all : ts ≡ us ++ vs

record DeclaredOf (x : Option (Built Declared)) (ts : List Terminal) : Type 0 where
  tree : Declared
  height : ℕ
  is : IsDeclared tree height ts
  kept : x ≡ cut tree height

record NamesOf (x : Option (Built (List Declared))) (ts : List Terminal) : Type 0 where
  tree : List Declared
  height : ℕ
  is : AreDeclared tree height ts
  kept : x ≡ cut tree height

-- the names up to a comma, or none yet
data Before : Option (Built (List Declared)) → List Terminal → Type 0 where
  none_yet : Before no_names []
  some : (t : Terminal) (x : Option (Built (List Declared))) {us : List Terminal} → NamesOf x us → Is t (Binary Comma) → Before x (us ++ t ∷ [])

abbrev Holds : LocalParser → List Terminal → Type 0
Holds Begin ts = ts ≡ []
Holds (Registered at) ts = IsRegister true ts × (first_place ts ≡ Some at)
Holds (Tagging at r) ts = (us : List Terminal) × (w : Terminal) × IsRegister r us × Is w StructWord × (first_place (us ++ w ∷ []) ≡ Some at) × (ts ≡ us ++ w ∷ [])
Holds (Typed f) ts = TypeOf f ts
Holds (Naming f x p) ts = (us : List Terminal) × (vs : List Terminal) × (ws : List Terminal) × TypeOf f us × Before x vs × (feed name_offer ws (Goes name_start) ≡ Some (Goes p)) × (ts ≡ us ++ (vs ++ ws))

record LocalOf (a : ReadLocal) (ts : List Terminal) : Type 0 where
  tree : Local
  height : ℕ
  is : IsLocal tree height ts
  place : a.place ≡ tree.place
  kept : a.local ≡ cut tree height

abbrev OnStep : Next → List Terminal → Terminal → Type 0
OnStep None ts t = Unit {0}
OnStep (Some (Goes p)) ts t = Holds p (ts ++ t ∷ [])
OnStep (Some (Ends a)) ts t = LocalOf a (ts ++ t ∷ [])

either : (b : Bool) (x y : Next) (ts : List Terminal) (t : Terminal) → (b ≡ true → OnStep x ts t) → (b ≡ false → OnStep y ts t) → OnStep (if b then x else y) ts t
either true x y ts t h k = h refl
either false x y ts t h k = k refl

place_front : (ts us : List Terminal) (at : Place) → first_place ts ≡ Some at → first_place (ts ++ us) ≡ Some at
place_front [] us at e = cc
place_front (t ∷ ts) us at e = e

three : (t : Terminal) (ts us vs ws : List Terminal) → ts ≡ us ++ (vs ++ ws) → ts ++ t ∷ [] ≡ us ++ (vs ++ (ws ++ t ∷ []))
three t ts us vs ws all = ap (λ l. l ++ t ∷ []) all ∙ append_assoc us (vs ++ ws) (t ∷ []) ∙ ap (λ l. us ++ l) (append_assoc vs ws (t ∷ []))

-- the type
typing_sound : (at : Place) (r : Bool) (ts : List Terminal) → IsRegister r ts → (t : Terminal) (y : Symbol) → Is t y → first_place (ts ++ t ∷ []) ≡ Some at → OnStep (typing at r y) ts t
typing_sound at r ts rd t (Word w) e p = record { us = ts; vs = t ∷ []; register_is = rd; spec_is = one_word t w e; first_is = p; all = refl }
typing_sound at r ts rd t StructWord e p = (ts, t, rd, e, p, refl)
typing_sound at r ts rd t _ e p = tt

begin_sound : (ts : List Terminal) → ts ≡ [] → (t : Terminal) (y : Symbol) → Is t y → OnStep (beginning y t.place) ts t
begin_sound ts n t (Keyword keyword.Register) e =
    let P : List Terminal → Type 0 = λ l. IsRegister true (l ++ t ∷ []) × (first_place (l ++ t ∷ []) ≡ Some t.place) in
    subst P (sym n) (marked t e, refl)
begin_sound ts n t y e =
    let P : List Terminal → Type 0 = λ l. IsRegister false l × (first_place (l ++ t ∷ []) ≡ Some t.place) in
    let k = subst P (sym n) (unmarked, refl) in
    typing_sound t.place false ts k.0 t y e k.1

tagging_sound : (at : Place) (r : Bool) (ts : List Terminal) → Holds (Tagging at r) ts → (t : Terminal) (y : Symbol) → Is t y → OnStep (tagging at r y t.text) ts t
tagging_sound at r ts (us, w, rd, we, p, all) t (Leaf Name) e =
    let P : List Terminal → Type 0 = λ l. first_place l ≡ Some at in
    record {
      us = us;
      vs = w ∷ t ∷ [];
      register_is = rd;
      spec_is = tagged w t we e;
      first_is = subst P (append_assoc us (w ∷ []) (t ∷ [])) (place_front (us ++ w ∷ []) (t ∷ []) at p);
      all = ap (λ l. l ++ t ∷ []) all ∙ append_assoc us (w ∷ []) (t ∷ []);
    }
tagging_sound at r ts d t (Leaf (Constant _)) e = tt
tagging_sound at r ts d t (Leaf (Character _)) e = tt
tagging_sound at r ts d t (Leaf Text) e = tt
tagging_sound at r ts d t _ e = tt

word_sound : (base : Spec) (at : Place) (r : Bool) (ts : List Terminal) → TypeOf (front_at at r base) ts → (t : Terminal) → Is t (Word a_word.Int) → OnStep (worded at r (both_words base)) ts t
word_sound Unsigned at r ts d t e =
    let P : List Terminal → Type 0 = λ l. first_place l ≡ Some at in
    record {
      us = d.us;
      vs = d.vs ++ t ∷ [];
      register_is = d.register_is;
      spec_is = int_behind d.spec_is refl t e;
      first_is = subst P (append_assoc d.us d.vs (t ∷ [])) (place_front (d.us ++ d.vs) (t ∷ []) at d.first_is);
      all = ap (λ l. l ++ t ∷ []) d.all ∙ append_assoc d.us d.vs (t ∷ []);
    }
word_sound _ at r ts d t e = tt

-- names
declared_name : (r : ReadName) (ts : List Terminal) → NameOf r ts → DeclaredOf (declared_of r) ts
declared_name (Bare x) ts d = record { tree = bare_name d.tree; height = d.height; is = plain d.is; kept = ap bare_of d.kept ∙ bare_cut d.tree d.height }
declared_name (With x y) ts d =
    let dd = d.declarator in
    let ii = d.initial in
    let P : List Terminal → Type 0 = λ l. IsDeclared (name_with dd.tree ii.tree) (suc (max dd.height ii.height)) l in
    record {
      tree = name_with dd.tree ii.tree;
      height = suc (max dd.height ii.height);
      is = subst P (sym d.all) (with_initial d.equals dd.is d.is ii.is);
      kept = ap (λ v. with_of v y) dd.kept ∙ ap (with_of (cut dd.tree dd.height)) ii.kept ∙ grow_two_cut name_with dd.tree ii.tree dd.height ii.height;
    }

one_more : (x : Option (Built (List Declared))) (y : Option (Built Declared)) {vs ws : List Terminal} → Before x vs → DeclaredOf y ws → NamesOf (names_of x y) (vs ++ ws)
one_more x y none_yet d =
    record {
      tree = d.tree ∷ [];
      height = suc d.height;
      is = one_name d.is;
      kept = ap (names_of no_names) d.kept ∙ grow_list_cut 64 1 refl put_last [] d.tree 0 d.height ∙ ap (cut (d.tree ∷ [])) (max_zero d.height);
    }
one_more x y {vs} {ws} (some t x' {us} k te) d =
    let P : List Terminal → Type 0 = λ l. AreDeclared (k.tree ++ d.tree ∷ []) (max k.height (suc d.height)) l in
    record {
      tree = k.tree ++ d.tree ∷ [];
      height = max k.height (suc d.height);
      is = subst P (sym (append_assoc us (t ∷ []) ws)) (more_names t k.is te d.is);
      kept = ap (λ v. names_of v y) k.kept ∙ ap (names_of (cut k.tree k.height)) d.kept ∙ grow_list_cut 64 1 refl put_last k.tree d.tree k.height d.height
          ∙ ap (λ n. cut (k.tree ++ d.tree ∷ []) (max k.height n)) (add-one d.height);
    }

behind_sound : (f : LocalFront) (x : Option (Built (List Declared))) (ts us vs : List Terminal) → TypeOf f us → NamesOf x vs → ts ≡ us ++ vs → (t : Terminal) (y : Symbol) → Is t y → OnStep (behind_name f x y) ts t
behind_sound f x ts us vs d k all t (Binary Comma) e = (us, vs ++ t ∷ [], [], d, some t x k e, refl, ap (λ l. l ++ t ∷ []) all ∙ append_assoc us vs (t ∷ []) ∙ ap (λ l. us ++ l) (sym (append-nil (vs ++ t ∷ []))))
behind_sound f x ts us vs d k all t Semicolon e =
    let P : List Terminal → Type 0 = λ l. IsLocal (local_with f k.tree) (suc k.height) l in
    record {
      tree = local_with f k.tree;
      height = suc k.height;
      is = subst P (sym (ap (λ l. l ++ t ∷ []) all ∙ append_assoc us vs (t ∷ []) ∙ ap (λ l. l ++ (vs ++ t ∷ [])) d.all ∙ append_assoc d.us d.vs (vs ++ t ∷ []))) (local t d.register_is d.spec_is d.first_is k.is e);
      place = refl;
      kept = ap (grow (local_with f)) k.kept ∙ grow_cut (local_with f) k.tree k.height;
    }
behind_sound f x ts us vs d k all t _ e = tt

naming_sound : (f : LocalFront) (x : Option (Built (List Declared))) (p : NameParser) (ts : List Terminal) → Holds (Naming f x p) ts → (t : Terminal) (o : Option (Step NameParser ReadName)) → name_offer p t ≡ o
    → OnStep (name_offered f x t.symbol o) ts t
naming_sound f x p ts d t None e = tt
naming_sound f x p ts (us, vs, ws, d, k, fed, all) t (Some (Goes q)) e =
    (us, vs, ws ++ t ∷ [], d, k, then_step name_offer ws (t ∷ []) (Goes name_start) (Some (Goes p)) fed ∙ one_step name_offer p t [] (Some (Goes q)) e, three t ts us vs ws all)
naming_sound f x p ts (us, vs, ws, d, k, fed, all) t (Some (Ends r)) e =
    behind_sound f (names_of x (declared_of r)) ts us (vs ++ ws) d (one_more x (declared_of r) k (declared_name r ws (read_name ws t p r fed e))) all t t.symbol refl

int_is : (y : Symbol) → is_int y ≡ true → y ≡ Word a_word.Int
int_is (Word a_word.Int) e = refl
int_is _ e = absurd (true_false (sym e))

typed_sound : (f : LocalFront) (ts : List Terminal) → TypeOf f ts → (t : Terminal) → OnStep (typed f t) ts t
typed_sound f ts d t =
    either (is_int t.symbol) (worded f.place f.register (both_words f.spec)) (naming f no_names name_start t) ts t
    (λ so. word_sound f.spec f.place f.register ts d t (int_is t.symbol so))
    (λ never. naming_sound f no_names name_start ts (ts, [], [], d, none_yet, refl, sym (append-nil ts)) t (name_offer name_start t) refl)

step_sound : (p : LocalParser) (t : Terminal) (ts : List Terminal) → Holds p ts → OnStep (local_offer p t) ts t
step_sound Begin t ts d = begin_sound ts d t t.symbol refl
step_sound (Registered at) t ts d = typing_sound at true ts d.0 t t.symbol refl (place_front ts (t ∷ []) at d.1)
step_sound (Tagging at r) t ts d = tagging_sound at r ts d t t.symbol refl
step_sound (Typed f) t ts d = typed_sound f ts d t
step_sound (Naming f x p) t ts d = naming_sound f x p ts d t (name_offer p t) refl

goes_kept : (p : LocalParser) (t : Terminal) (ts : List Terminal) → Holds p ts → (q : LocalParser) → local_offer p t ≡ Some (Goes q) → Holds q (ts ++ t ∷ [])
goes_kept p t ts d q e = let P : Next → Type 0 = λ o. OnStep o ts t in subst P e (step_sound p t ts d)

ends_kept : (p : LocalParser) (t : Terminal) (ts : List Terminal) → Holds p ts → (a : ReadLocal) → local_offer p t ≡ Some (Ends a) → LocalOf a (ts ++ t ∷ [])
ends_kept p t ts d a e = let P : Next → Type 0 = λ o. OnStep o ts t in subst P e (step_sound p t ts d)

pub local_is : LocalIs
local_is ts a e =
    let r = last_step local_offer ts Begin a e in
    let d = ends_kept r.now r.token r.front (steps_kept local_offer Holds goes_kept r.front [] Begin r.now refl r.goes) a r.ends in
    let P : List Terminal → Type 0 = λ l. IsLocal d.tree d.height l in
    (d.tree, d.height, subst P (sym r.all) d.is, d.place, d.kept)
