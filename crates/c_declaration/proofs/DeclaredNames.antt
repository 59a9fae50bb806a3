-- Declared names with their initializers, both ways.
use Rattle.std.proofs.Common.{◌≡◌, ℕ, suc, ◌+◌, ◌≤◌, ◌<◌, max, Bool, true, false, List, [], ◌∷◌, ◌++◌, Option, Some, None, nat_le, refl, sym, ◌∙◌, ap, ap₂, subst, inl, inr, append_assoc, append-nil, add-one, arith, le-leb}
use Rattle.std.specs.Prelude.{if◌then◌else◌}
use Rattle.std.proofs.Math.Nat.{max-le, le-max_left, le-max_right}
use Rattle.std.proofs.lemmas.Bool.{cases_lt}
use Rattle.c_symbol.specs.declared.terminal.Terminal.{Terminal}
use Rattle.c_symbol.specs.declared.symbol.AssignOp.TheVariants.{Plain}
use Rattle.c_symbol.specs.declared.symbol.BinaryOp.TheVariants.{Comma, Assign, Multiply}
use Rattle.c_symbol.specs.declared.symbol.LeafKind.TheVariants.{Name}
use Rattle.c_symbol.specs.declared.symbol.TypeWord.TheVariants as a_word
use Rattle.c_symbol.specs.declared.symbol.Symbol.{Symbol}
use Rattle.c_symbol.specs.declared.symbol.Symbol.TheVariants.{Leaf, Word, Binary, OpenParen, OpenBracket, OpenBrace, Semicolon}
use Rattle.c_expr.specs.declared.frame.Least.TheVariants.{Assignment}
use Rattle.c_expr.specs.Inside.{closes}
use Rattle.c_trees.specs.Declarators.{DeclaratorTree}
use Rattle.c_trees.specs.Initializers.{InitialTree}
use Rattle.c_declaration.specs.declared.built.Built.{Built}
use Rattle.c_trees.specs.declared.declaration.Declared.{Declared}
use Rattle.c_declaration.specs.declared.state.DeclaratorParser.{DeclaratorParser}
use Rattle.c_declaration.specs.declared.state.InitialParser.{InitialParser}
use Rattle.c_declaration.specs.declared.state.Mode.TheVariants.{Front, Direct}
use Rattle.c_declaration.specs.declared.state.Frame.TheVariants.{Nest}
use Rattle.c_declaration.specs.declared.state.NameParser.{NameParser}
use Rattle.c_declaration.specs.declared.state.NameParser.TheVariants.{Declarator, Initial}
use Rattle.c_declaration.specs.declared.state.ReadName.{ReadName}
use Rattle.c_declaration.specs.declared.state.ReadName.TheVariants.{Bare, With}
use Rattle.c_declaration.specs.declared.step.Step.{Step}
use Rattle.c_declaration.specs.declared.step.Step.TheVariants.{Goes, Ends}
use Rattle.c_declaration.specs.Feeding.{feed}
use Rattle.c_declaration.specs.Grown.{cut, name_of}
use Rattle.c_declaration.specs.Grammar.{Is, IsDeclarator, IsInitial}
use Rattle.c_declaration.specs.DeclaratorReading as reading
use Rattle.c_declaration.specs.DeclaratorReading.{declarator_offer, declarator_start, fronting}
use Rattle.c_declaration.specs.InitialReading.{initial_offer, initial_start, is_open_brace}
use Rattle.c_declaration.specs.NameReading.{Next, goes, is_equals, behind_declarator, declarator_offered, initial_offered, name_offer, name_start}
use Rattle.c_declaration.specs.LocalReading.{is_int}
use Rattle.c_declaration.specs.MembersReading.{last, tree_in}
use Rattle.c_declaration.specs.FileReading.{both, is_semicolon}
use Rattle.c_declaration.specs.Laws.{goes_on, kept}
use Rattle.c_declaration.proofs.Pieces.{if_true, if_false, gt-leb, cut_some, cut_none}
use Rattle.c_declaration.proofs.Fed.{onward, one_step, then_step, ended, inside, steps_kept}
use Rattle.c_declaration.proofs.DeclaratorComplete.{declarator_ends}
use Rattle.c_declaration.proofs.DeclaratorSound.{DeclaratorOf, declarator_of}
use Rattle.c_declaration.proofs.InitialComplete.{initial_ends}
use Rattle.c_declaration.proofs.InitialSound.{InitialOf, initial_of}

true_false : true ≡ false → ⊥
true_false e = cc

-- the tokens that end a declared name
pub data EndsName : Terminal → Type 0 where
  comma : (t : Terminal) → Is t (Binary Comma) → EndsName t
  semicolon : (t : Terminal) → Is t Semicolon → EndsName t

pub goes_on_name : {t : Terminal} → EndsName t → goes_on t.symbol ≡ false
goes_on_name (comma t e) = ap goes_on e
goes_on_name (semicolon t e) = ap goes_on e

pub equals_name : {t : Terminal} → EndsName t → is_equals t.symbol ≡ false
equals_name (comma t e) = ap is_equals e
equals_name (semicolon t e) = ap is_equals e

pub closes_name : {t : Terminal} → EndsName t → closes Assignment t.symbol ≡ true
closes_name (comma t e) = ap (closes Assignment) e
closes_name (semicolon t e) = ap (closes Assignment) e

-- what is read up to a token
pub record ReadsName (ts : List Terminal) (t : Terminal) (r : ReadName) : Type 0 where
  pub now : NameParser
  pub goes : feed name_offer ts (Goes name_start) ≡ Some (Goes now)
  pub ends : name_offer now t ≡ Some (Ends r)

declarator_inside : (p : DeclaratorParser) (t : Terminal) (r : DeclaratorParser) → declarator_offer p t ≡ Some (Goes r) → name_offer (Declarator p) t ≡ Some (Goes (Declarator r))
declarator_inside p t r e = ap (declarator_offered t.symbol) e

initial_inside : (x : Option (Built DeclaratorTree)) (p : InitialParser) (t : Terminal) (r : InitialParser) → initial_offer p t ≡ Some (Goes r) → name_offer (Initial x p) t ≡ Some (Goes (Initial x r))
initial_inside x p t r e = ap (initial_offered x) e

behind_it : (b : Bool) (x : Option (Built DeclaratorTree)) → b ≡ false → (if b then goes (Initial x initial_start) else Some (Ends (Bare x))) ≡ Some (Ends (Bare x))
behind_it true x e = absurd (true_false e)
behind_it false x e = refl

pub reads_bare : {d : DeclaratorTree} {h : ℕ} {ts : List Terminal} → IsDeclarator d h ts → (t : Terminal) → goes_on t.symbol ≡ false → is_equals t.symbol ≡ false → ReadsName ts t (Bare (cut d h))
reads_bare {d} {h} {ts} dd t e k =
    let r = ended declarator_offer ts t declarator_start (cut d h) (declarator_ends d h ts t dd e) in
    record {
      now = Declarator r.now;
      goes = inside declarator_offer name_offer (λ p. Declarator p) declarator_inside ts declarator_start r.now r.goes;
      ends = ap (declarator_offered t.symbol) r.ends ∙ behind_it (is_equals t.symbol) (cut d h) k;
    }

equals_on : (t : Terminal) → Is t (Binary (Assign Plain)) → goes_on t.symbol ≡ false
equals_on t e = ap goes_on e

abbrev equals_at : Option (Built DeclaratorTree) → Symbol → Next
equals_at x y = behind_declarator y x

pub reads_with : {d : DeclaratorTree} {i : InitialTree} {m n : ℕ} {us vs : List Terminal} → IsDeclarator d m us → (e : Terminal) → Is e (Binary (Assign Plain)) → IsInitial i n vs → (t : Terminal) → closes Assignment t.symbol ≡ true
    → ReadsName (us ++ e ∷ vs) t (With (cut d m) (cut i n))
reads_with {d} {i} {m} {n} {us} {vs} dd e ee ii t k =
    let r = ended declarator_offer us e declarator_start (cut d m) (declarator_ends d m us e dd (equals_on e ee)) in
    let q = ended initial_offer vs t initial_start (cut i n) (initial_ends i n vs t ii k) in
    record {
      now = Initial (cut d m) q.now;
      goes = then_step name_offer us (e ∷ vs) (Goes name_start) (Some (Goes (Declarator r.now))) (inside declarator_offer name_offer (λ p. Declarator p) declarator_inside us declarator_start r.now r.goes)
          ∙ one_step name_offer (Declarator r.now) e vs (goes (Initial (cut d m) initial_start)) (ap (declarator_offered e.symbol) r.ends ∙ ap (equals_at (cut d m)) ee)
          ∙ inside initial_offer name_offer (λ p. Initial (cut d m) p) (initial_inside (cut d m)) vs initial_start q.now q.goes;
      ends = ap (initial_offered (cut d m)) q.ends;
    }

-- what is read is a declared name
pub record Assigned (x : Option (Built DeclaratorTree)) (y : Option (Built InitialTree)) (ts : List Terminal) : Type 0 where
  pub us : List Terminal
  pub vs : List Terminal
  pub equals : Terminal
  pub declarator : DeclaratorOf x us
  pub is : Is equals (Binary (Assign Plain))
  pub initial : InitialOf y vs
  pub all : ts ≡ us ++ equals ∷ vs

abbrev pub NameOf : ReadName → List Terminal → Type 0
NameOf (Bare x) ts = DeclaratorOf x ts
NameOf (With x y) ts = Assigned x y ts

abbrev Holds : NameParser → List Terminal → Type 0
Holds (Declarator p) ts = feed declarator_offer ts (Goes declarator_start) ≡ Some (Goes p)
Holds (Initial x p) ts =
    (us : List Terminal) × (vs : List Terminal) × (e : Terminal) × DeclaratorOf x us × Is e (Binary (Assign Plain)) × (feed initial_offer vs (Goes initial_start) ≡ Some (Goes p)) × (ts ≡ us ++ e ∷ vs)

abbrev OnStep : Next → List Terminal → Terminal → Type 0
OnStep None ts t = Unit {0}
OnStep (Some (Goes p)) ts t = Holds p (ts ++ t ∷ [])
OnStep (Some (Ends r)) ts t = NameOf r ts

fed_more : {S A : Type 0} (offer : S → Terminal → Option (Step S A)) (ts : List Terminal) (t : Terminal) (s p q : S) → feed offer ts (Goes s) ≡ Some (Goes p) → offer p t ≡ Some (Goes q) → feed offer (ts ++ t ∷ []) (Goes s) ≡ Some (Goes q)
fed_more offer ts t s p q e k = then_step offer ts (t ∷ []) (Goes s) (Some (Goes p)) e ∙ one_step offer p t [] (Some (Goes q)) k

equals_is : (y : Symbol) → is_equals y ≡ true → y ≡ Binary (Assign Plain)
equals_is (Binary (Assign Plain)) e = refl
equals_is _ e = absurd (true_false (sym e))

behind_sound : (x : Option (Built DeclaratorTree)) (ts : List Terminal) (t : Terminal) (b : Bool) → is_equals t.symbol ≡ b → DeclaratorOf x ts → OnStep (if b then goes (Initial x initial_start) else Some (Ends (Bare x))) ts t
behind_sound x ts t true e d = (ts, [], t, d, equals_is t.symbol e, refl, refl)
behind_sound x ts t false e d = d

declarator_sound : (p : DeclaratorParser) (ts : List Terminal) (t : Terminal) → Holds (Declarator p) ts → (o : Option (Step DeclaratorParser (Option (Built DeclaratorTree)))) → declarator_offer p t ≡ o → OnStep (declarator_offered t.symbol o) ts t
declarator_sound p ts t fed None e = tt
declarator_sound p ts t fed (Some (Goes q)) e = fed_more declarator_offer ts t declarator_start p q fed e
declarator_sound p ts t fed (Some (Ends x)) e = behind_sound x ts t (is_equals t.symbol) refl (declarator_of ts t p x fed e)

initial_sound : (x : Option (Built DeclaratorTree)) (p : InitialParser) (ts : List Terminal) (t : Terminal) → Holds (Initial x p) ts → (o : Option (Step InitialParser (Option (Built InitialTree)))) → initial_offer p t ≡ o → OnStep (initial_offered x o) ts t
initial_sound x p ts t d None e = tt
initial_sound x p ts t (us, vs, u, d, ue, fed, all) (Some (Goes q)) e = (us, vs ++ t ∷ [], u, d, ue, fed_more initial_offer vs t initial_start p q fed e, ap (λ l. l ++ t ∷ []) all ∙ append_assoc us (u ∷ vs) (t ∷ []))
initial_sound x p ts t (us, vs, u, d, ue, fed, all) (Some (Ends y)) e = record { us = us; vs = vs; equals = u; declarator = d; is = ue; initial = initial_of vs t p y fed e; all = all }

step_sound : (p : NameParser) (t : Terminal) (ts : List Terminal) → Holds p ts → OnStep (name_offer p t) ts t
step_sound (Declarator p) t ts d = declarator_sound p ts t d (declarator_offer p t) refl
step_sound (Initial x p) t ts d = initial_sound x p ts t d (initial_offer p t) refl

goes_kept : (p : NameParser) (t : Terminal) (ts : List Terminal) → Holds p ts → (q : NameParser) → name_offer p t ≡ Some (Goes q) → Holds q (ts ++ t ∷ [])
goes_kept p t ts d q e = let P : Next → Type 0 = λ o. OnStep o ts t in subst P e (step_sound p t ts d)

ends_kept : (p : NameParser) (t : Terminal) (ts : List Terminal) → Holds p ts → (r : ReadName) → name_offer p t ≡ Some (Ends r) → NameOf r ts
ends_kept p t ts d r e = let P : Next → Type 0 = λ o. OnStep o ts t in subst P e (step_sound p t ts d)

pub read_name : (ts : List Terminal) (t : Terminal) (q : NameParser) (r : ReadName) → feed name_offer ts (Goes name_start) ≡ Some (Goes q) → name_offer q t ≡ Some (Ends r) → NameOf r ts
read_name ts t q r e k = ends_kept q t ts (steps_kept name_offer Holds goes_kept ts [] name_start q refl e) r k

-- what a name begins with
abbrev starts_by : Terminal → Symbol → reading.Next
starts_by t y = declarator_offer declarator_start (record { symbol = y; place = t.place; text = t.text })

int_is : (y : Symbol) → is_int y ≡ true → y ≡ Word a_word.Int
int_is (Word a_word.Int) e = refl
int_is _ e = absurd (true_false (sym e))

brace_is : (y : Symbol) → is_open_brace y ≡ true → y ≡ OpenBrace
brace_is OpenBrace e = refl
brace_is _ e = absurd (true_false (sym e))

semicolon_is : (y : Symbol) → is_semicolon y ≡ true → y ≡ Semicolon
semicolon_is Semicolon e = refl
semicolon_is _ e = absurd (true_false (sym e))

pub record Begins (ts : List Terminal) : Type 0 where
  pub token : Terminal
  pub rest : List Terminal
  pub all : ts ≡ token ∷ rest
  pub no_int : is_int token.symbol ≡ false
  pub no_brace : is_open_brace token.symbol ≡ false
  pub no_semicolon : is_semicolon token.symbol ≡ false

is_false : (b : Bool) → (b ≡ true → ⊥) → b ≡ false
is_false true never = absurd (never refl)
is_false false never = refl

none_goes : (ts : List Terminal) (q : DeclaratorParser) (o : reading.Next) → o ≡ None → onward declarator_offer ts o ≡ Some (Goes q) → ⊥
none_goes ts q None e k = cc
none_goes ts q (Some a) e k = cc

goes_ends : (p : DeclaratorParser) (x : Option (Built DeclaratorTree)) → reading.goes p.mode p.stack ≡ Some (Ends x) → ⊥
goes_ends p x e = cc

none_ends : (x : Option (Built DeclaratorTree)) (o : reading.Next) → o ≡ None → o ≡ Some (Ends x) → ⊥
none_ends x o e k = cc

a_name : (y : Symbol) (t : Terminal) (x : Option (Built DeclaratorTree)) → fronting [] None y t.place t.text ≡ Some (Ends x) → ⊥
a_name (Binary Multiply) t x e = goes_ends (record { stack = []; mode = Front (reading.starred None t.place) }) x e
a_name (Leaf Name) t x e = goes_ends (record { stack = []; mode = Direct None (name_of t.place t.text) }) x e
a_name OpenParen t x e = goes_ends (record { stack = Nest None t.place false ∷ []; mode = Front None }) x e
a_name (Word a_word.Int) t x e = none_ends x None refl e
a_name OpenBracket t x e = none_ends x None refl e
a_name _ t x e = none_ends x None refl e

begins_by : (ts : List Terminal) (t : Terminal) (q : DeclaratorParser) (x : Option (Built DeclaratorTree)) → feed declarator_offer ts (Goes declarator_start) ≡ Some (Goes q) → declarator_offer q t ≡ Some (Ends x) → Begins ts
begins_by [] t q x e k = let same : declarator_start ≡ q = cc in absurd (a_name t.symbol t x (ap (λ p. declarator_offer p t) same ∙ k))
begins_by (v ∷ vs) t q x e k =
    record {
      token = v;
      rest = vs;
      all = refl;
      no_int = is_false (is_int v.symbol) (λ y. none_goes vs q (declarator_offer declarator_start v) (ap (starts_by v) (int_is v.symbol y)) e);
      no_brace = is_false (is_open_brace v.symbol) (λ y. none_goes vs q (declarator_offer declarator_start v) (ap (starts_by v) (brace_is v.symbol y)) e);
      no_semicolon = is_false (is_semicolon v.symbol) (λ y. none_goes vs q (declarator_offer declarator_start v) (ap (starts_by v) (semicolon_is v.symbol y)) e);
    }

abbrev a_semicolon : Terminal
a_semicolon = record { symbol = Semicolon; place = record { at = 0; line = 0; column = 0 }; text = [] }

pub declarator_begins : {d : DeclaratorTree} {h : ℕ} {ts : List Terminal} → IsDeclarator d h ts → Begins ts
declarator_begins {d} {h} {ts} dd =
    let r = ended declarator_offer ts a_semicolon declarator_start (cut d h) (declarator_ends d h ts a_semicolon dd refl) in
    begins_by ts a_semicolon r.now (cut d h) r.goes r.ends

pub more_begins : (us vs : List Terminal) → Begins us → Begins (us ++ vs)
more_begins us vs b = record { token = b.token; rest = b.rest ++ vs; all = ap (λ l. l ++ vs) b.all; no_int = b.no_int; no_brace = b.no_brace; no_semicolon = b.no_semicolon }

-- lists and pairs of trees of a known height
pub kept_some : {T : Type 0} (t : T) (h : ℕ) → h ≤ 64 → kept t h ≡ Some t
kept_some t h le = if_true _ _ _ (le-leb h 64 le)

pub kept_none : {T : Type 0} (t : T) (h : ℕ) → 64 < h → kept t h ≡ None
kept_none t h gt = if_false _ _ _ (gt-leb h 64 gt)

max_most : (m n : ℕ) → m ≤ 64 → n ≤ 64 → max m n ≤ 64
max_most m n h k = max-le h k

pub tree_kept : {T : Type 0} (t : T) (h : ℕ) → tree_in (cut t h) ≡ kept t h
tree_kept t h =
    elim (cases_lt 64 h) [
      | inl hi ↦ ap tree_in (cut_none t h hi) ∙ sym (kept_none t h hi)
      | inr lo ↦ ap tree_in (cut_some t h lo) ∙ sym (kept_some t h lo)
    ]

pub last_kept : {T : Type 0} (xs : List T) (x : T) (m n : ℕ) → last (kept xs m) (kept x n) ≡ kept (xs ++ x ∷ []) (max m n)
last_kept xs x m n =
    elim (cases_lt 64 m) [
      | inl hi ↦ ap (λ o. last o (kept x n)) (kept_none xs m hi) ∙ sym (kept_none (xs ++ x ∷ []) (max m n) (omega (arith, le-max_left m n)))
      | inr lo ↦ elim (cases_lt 64 n) [
        | inl hi ↦ ap₂ last (kept_some xs m lo) (kept_none x n hi) ∙ sym (kept_none (xs ++ x ∷ []) (max m n) (omega (arith, le-max_right m n)))
        | inr lo' ↦ ap₂ last (kept_some xs m lo) (kept_some x n lo') ∙ sym (kept_some (xs ++ x ∷ []) (max m n) (max_most m n lo lo'))
      ]
    ]

pub both_kept : {A B C : Type 0} (f : A → B → C) (a : A) (b : B) (m n : ℕ) → both f (kept a m) (kept b n) ≡ kept (f a b) (max m n)
both_kept f a b m n =
    elim (cases_lt 64 m) [
      | inl hi ↦ ap (λ o. both f o (kept b n)) (kept_none a m hi) ∙ sym (kept_none (f a b) (max m n) (omega (arith, le-max_left m n)))
      | inr lo ↦ elim (cases_lt 64 n) [
        | inl hi ↦ ap₂ (both f) (kept_some a m lo) (kept_none b n hi) ∙ sym (kept_none (f a b) (max m n) (omega (arith, le-max_right m n)))
        | inr lo' ↦ ap₂ (both f) (kept_some a m lo) (kept_some b n lo') ∙ sym (kept_some (f a b) (max m n) (max_most m n lo lo'))
      ]
    ]
