-- What is read is an initializer by the grammar.
use Rattle.std.proofs.Common.{◌≡◌, ℕ, suc, ◌+◌, max, Bool, true, false, List, [], ◌∷◌, ◌++◌, Option, Some, None, refl, sym, ◌∙◌, ap, subst, append_assoc, append-nil, add-one}
use Rattle.std.specs.Prelude.{if◌then◌else◌, drop}
use Rattle.c_lex.specs.declared.token.Place.{Place}
use Rattle.c_symbol.specs.declared.terminal.Terminal.{Terminal}
use Rattle.c_symbol.specs.declared.symbol.BinaryOp.TheVariants.{Comma}
use Rattle.c_symbol.specs.declared.symbol.Symbol.{Symbol}
use Rattle.c_symbol.specs.declared.symbol.Symbol.TheVariants.{Binary, OpenBrace, CloseBrace}
use Rattle.c_expr.specs.First.{first}
use Rattle.c_expr.specs.Machine.{start}
use Rattle.c_expr.specs.Inside.{offer}
use Rattle.c_expr.specs.declared.frame.Least.TheVariants.{Assignment}
use Rattle.c_expr.specs.declared.inside.Offered.{Offered}
use Rattle.c_expr.specs.declared.inside.Offered.TheVariants as offered
use Rattle.c_expr.specs.declared.state.Parser.{Parser}
use Rattle.c_expr.specs.declared.grown.Grown.{Grown}
use Rattle.c_trees.specs.Initializers.{InitialTree, Value, Braces, Item}
use Rattle.c_declaration.specs.declared.built.Built.{Built}
use Rattle.c_declaration.specs.declared.state.OpenBraces.{OpenBraces}
use Rattle.c_declaration.specs.declared.state.InitialMode.{InitialMode}
use Rattle.c_declaration.specs.declared.state.InitialMode.TheVariants as mode
use Rattle.c_declaration.specs.declared.state.InitialParser.{InitialParser}
use Rattle.c_declaration.specs.declared.step.Step.{Step}
use Rattle.c_declaration.specs.declared.step.Step.TheVariants.{Goes, Ends}
use Rattle.c_declaration.specs.Feeding.{feed}
use Rattle.c_declaration.specs.Grown.{cut, expr_of, value_of, braces_of, item_of, itself, closed_of}
use Rattle.c_declaration.specs.Grammar.{Is, IsInitial, value, braces, braces_comma, AreItems, first_item, next_item}
use Rattle.c_declaration.specs.InitialReading.{Next, goes, braces_with, done, value_offered, valuing, is_open_brace, wanting, closed, is_close_brace, another, shift_mode, initial_offer, initial_start}
use Rattle.c_declaration.specs.Laws.{InitialIs}
use Rattle.c_declaration.proofs.Pieces.{grow_cut, grow_list_cut, expr_cut, value_cut}
use Rattle.c_declaration.proofs.Fed.{Ended, ended, steps_kept}
use Rattle.c_declaration.proofs.InitialComplete.{open_brace, close_brace, max_zero}
use Rattle.c_declaration.proofs.Expressions.{expr_offer, expr_is, expr_goes}

-- what the tokens are, and what is kept of it
pub record InitialOf (x : Option (Built InitialTree)) (ts : List Terminal) : Type 0 where
  pub tree : InitialTree
  pub height : ℕ
  pub is : IsInitial tree height ts
  pub kept : x ≡ cut tree height

same_initial : {x : Option (Built InitialTree)} (us vs : List Terminal) → us ≡ vs → InitialOf x us → InitialOf x vs
same_initial {x} us vs e d = let P : List Terminal → Type 0 = λ l. InitialOf x l in subst P e d

record ItemsOf (x : Option (Built InitialTree)) (ts : List Terminal) : Type 0 where
  tree : InitialTree
  height : ℕ
  is : AreItems tree height ts
  kept : x ≡ cut tree height

-- a list up to the `{` or up to a comma
data Opens : Option (Built InitialTree) → List Terminal → Type 0 where
  opens : (o : Terminal) → Is o OpenBrace → Opens (braces_of o.place) (o ∷ [])
  divides : (t : Terminal) (x : Option (Built InitialTree)) {us : List Terminal} → ItemsOf x us → Is t (Binary Comma) → Opens x (us ++ t ∷ [])

abbrev Stacked : List OpenBraces → List Terminal → Type 0
Stacked [] ts = ts ≡ []
Stacked (f ∷ s) ts = (us : List Terminal) × (vs : List Terminal) × Stacked s us × Opens f.list vs × (ts ≡ us ++ vs)

-- the topmost list ends with a comma
data Divided : List OpenBraces → List Terminal → Type 0 where
  divided : (t : Terminal) (f : OpenBraces) (s : List OpenBraces) (us vs : List Terminal) → Stacked s us → ItemsOf f.list vs → Is t (Binary Comma) → Divided (f ∷ s) (us ++ (vs ++ t ∷ []))

-- what holds of a state after some tokens
abbrev HoldsIn : InitialMode → List OpenBraces → List Terminal → Type 0
HoldsIn mode.Want s ts = Stacked s ts
HoldsIn mode.Another s ts = Divided s ts
HoldsIn (mode.Value p) s ts = (us : List Terminal) × (vs : List Terminal) × Stacked s us × (feed (expr_offer Assignment) vs (Goes (start Assignment)) ≡ Some (Goes p)) × (ts ≡ us ++ vs)
HoldsIn (mode.Done x) s ts = (us : List Terminal) × (vs : List Terminal) × Stacked s us × InitialOf x vs × (ts ≡ us ++ vs)

abbrev Holds : InitialParser → List Terminal → Type 0
Holds p ts = HoldsIn p.mode p.stack ts

abbrev OnStep : Next → List Terminal → Terminal → Type 0
OnStep None ts t = Unit {0}
OnStep (Some (Goes p)) ts t = HoldsIn p.mode p.stack (ts ++ t ∷ [])
OnStep (Some (Ends x)) ts t = InitialOf x ts

either : (b : Bool) (x y : Next) (ts : List Terminal) (t : Terminal) → (b ≡ true → OnStep x ts t) → (b ≡ false → OnStep y ts t) → OnStep (if b then x else y) ts t
either true x y ts t h k = h refl
either false x y ts t h k = k refl

two : (t : Terminal) (ts us vs : List Terminal) → ts ≡ us ++ vs → ts ++ t ∷ [] ≡ us ++ (vs ++ t ∷ [])
two t ts us vs all = ap (λ l. l ++ t ∷ []) all ∙ append_assoc us vs (t ∷ [])

within : (ts us vs us' vs' : List Terminal) → ts ≡ us ++ vs → us ≡ us' ++ vs' → ts ≡ us' ++ (vs' ++ vs)
within ts us vs us' vs' all under = all ∙ ap (λ l. l ++ vs) under ∙ append_assoc us' vs' vs

-- a list with an item more
same_items : {i : InitialTree} {h : ℕ} (us vs : List Terminal) → us ≡ vs → AreItems i h us → AreItems i h vs
same_items {i} {h} us vs e d = let P : List Terminal → Type 0 = λ l. AreItems i h l in subst P e d

same_height : {i : InitialTree} {us : List Terminal} (m n : ℕ) → m ≡ n → AreItems i m us → AreItems i n us
same_height {i} {us} m n e d = let P : ℕ → Type 0 = λ k. AreItems i k us in subst P e d

with_item : {x : Option (Built InitialTree)} {ws vs : List Terminal} (y : Option (Built InitialTree)) → Opens x ws → InitialOf y vs → ItemsOf (item_of x y) (ws ++ vs)
with_item y (opens o oe) d =
    record {
      tree = Item (Braces o.place) d.tree;
      height = suc d.height;
      is = first_item o oe d.is;
      kept = ap (item_of (braces_of o.place)) d.kept ∙ grow_list_cut 64 1 refl Item (Braces o.place) d.tree 0 d.height ∙ ap (cut (Item (Braces o.place) d.tree)) (max_zero d.height);
    }
with_item {x} {ws} {vs} y (divides t x' {us} k te) d =
    record {
      tree = Item k.tree d.tree;
      height = max k.height (suc d.height);
      is = same_items (us ++ t ∷ vs) ((us ++ t ∷ []) ++ vs) (sym (append_assoc us (t ∷ []) vs)) (next_item t k.is te d.is);
      kept = ap (λ v. item_of v y) k.kept ∙ ap (item_of (cut k.tree k.height)) d.kept ∙ grow_list_cut 64 1 refl Item k.tree d.tree k.height d.height
          ∙ ap (λ n. cut (Item k.tree d.tree) (max k.height n)) (add-one d.height);
    }

closed_list : {x : Option (Built InitialTree)} {ws : List Terminal} → ItemsOf x ws → (t : Terminal) → Is t CloseBrace → InitialOf (closed_of x) (ws ++ t ∷ [])
closed_list k t e = record { tree = k.tree; height = suc k.height; is = braces t k.is e; kept = ap closed_of k.kept ∙ grow_cut itself k.tree k.height }

closed_comma : {x : Option (Built InitialTree)} {ws : List Terminal} → ItemsOf x ws → (u t : Terminal) → Is u (Binary Comma) → Is t CloseBrace → InitialOf (closed_of x) (ws ++ u ∷ t ∷ [])
closed_comma k u t ue e = record { tree = k.tree; height = suc k.height; is = braces_comma u t k.is ue e; kept = ap closed_of k.kept ∙ grow_cut itself k.tree k.height }

divided_holds : (f : OpenBraces) (s : List OpenBraces) (t : Terminal) (ts us vs : List Terminal) → Stacked s us → ItemsOf f.list vs → Is t (Binary Comma) → us ++ (vs ++ t ∷ []) ≡ ts → Divided (f ∷ s) ts
divided_holds f s t ts us vs st k e all = let P : List Terminal → Type 0 = λ l. Divided (f ∷ s) l in subst P all (divided t f s us vs st k e)

done_sound : (s : List OpenBraces) (x : Option (Built InitialTree)) (ts us vs : List Terminal) → Stacked s us → InitialOf x vs → ts ≡ us ++ vs → (t : Terminal) (y : Symbol) → Is t y → OnStep (done (first s) y x (drop 1 s)) ts t
done_sound [] x ts us vs st d all t y e = same_initial vs ts (sym (all ∙ ap (λ l. l ++ vs) st)) d
done_sound (f ∷ s) x ts us vs (us', ws, st, o, under) d all t (Binary Comma) e =
    divided_holds (braces_with (item_of f.list x)) s t (ts ++ t ∷ []) us' (ws ++ vs) st (with_item x o d) e (sym (two t ts us' (ws ++ vs) (within ts us vs us' ws all under)))
done_sound (f ∷ s) x ts us vs (us', ws, st, o, under) d all t CloseBrace e = (us', (ws ++ vs) ++ t ∷ [], st, closed_list (with_item x o d) t e, two t ts us' (ws ++ vs) (within ts us vs us' ws all under))
done_sound (f ∷ s) x ts us vs st d all t _ e = tt

-- expressions
value_of_expr : (p : Parser) (g : Grown) (vs : List Terminal) (t : Terminal) → feed (expr_offer Assignment) vs (Goes (start Assignment)) ≡ Some (Goes p) → offer Assignment p t ≡ Some (offered.Ends g) → InitialOf (value_of (expr_of g.tree)) vs
value_of_expr p g vs t fed k =
    let d = expr_is Assignment vs t p g fed k in
    record { tree = Value d.0; height = d.1; is = value d.2; kept = ap (λ v. value_of (expr_of v)) d.3 ∙ ap value_of (expr_cut d.0 d.1) ∙ value_cut d.0 d.1 }

offered_sound : (p : Parser) (s : List OpenBraces) (ts : List Terminal) → HoldsIn (mode.Value p) s ts → (t : Terminal) (o : Option Offered) → offer Assignment p t ≡ o → OnStep (value_offered s t.symbol o) ts t
offered_sound p s ts d t None k = tt
offered_sound p s ts (us, vs, st, fed, all) t (Some (offered.Goes q)) k = (us, vs ++ t ∷ [], st, expr_goes Assignment vs t p q fed k, two t ts us vs all)
offered_sound p s ts (us, vs, st, fed, all) t (Some (offered.Ends g)) k = done_sound s (value_of (expr_of g.tree)) ts us vs st (value_of_expr p g vs t fed k) all t t.symbol refl

valuing_sound : (p : Parser) (s : List OpenBraces) (ts : List Terminal) → HoldsIn (mode.Value p) s ts → (t : Terminal) → OnStep (valuing s p t) ts t
valuing_sound p s ts d t = offered_sound p s ts d t (offer Assignment p t) refl

wanting_sound : (s : List OpenBraces) (ts : List Terminal) → Stacked s ts → (t : Terminal) → OnStep (wanting s t) ts t
wanting_sound s ts st t =
    either (is_open_brace t.symbol) (goes mode.Want (braces_with (braces_of t.place) ∷ s)) (valuing s (start Assignment) t) ts t
    (λ so. (ts, t ∷ [], st, opens t (open_brace t.symbol so), refl))
    (λ never. valuing_sound (start Assignment) s ts (ts, [], st, refl, sym (append-nil ts)) t)

closing_sound : (s : List OpenBraces) (ts : List Terminal) → Divided s ts → (t : Terminal) → Is t CloseBrace → OnStep (closed (first s) (drop 1 s)) ts t
closing_sound s ts (divided u f s' us vs st k ue) t e =
    (us, vs ++ u ∷ t ∷ [], st, closed_comma k u t ue e, append_assoc us (vs ++ u ∷ []) (t ∷ []) ∙ ap (λ l. us ++ l) (append_assoc vs (u ∷ []) (t ∷ [])))

stacked : (s : List OpenBraces) (ts : List Terminal) → Divided s ts → Stacked s ts
stacked s ts (divided u f s' us vs st k ue) = (us, vs ++ u ∷ [], st, divides u f.list k ue, refl)

another_sound : (s : List OpenBraces) (ts : List Terminal) → Divided s ts → (t : Terminal) → OnStep (another s t) ts t
another_sound s ts d t =
    either (is_close_brace t.symbol) (closed (first s) (drop 1 s)) (wanting s t) ts t
    (λ so. closing_sound s ts d t (close_brace t.symbol so))
    (λ never. wanting_sound s ts (stacked s ts d) t)

mode_sound : (m : InitialMode) (s : List OpenBraces) (ts : List Terminal) → HoldsIn m s ts → (t : Terminal) → OnStep (shift_mode m s t) ts t
mode_sound mode.Want s ts d t = wanting_sound s ts d t
mode_sound mode.Another s ts d t = another_sound s ts d t
mode_sound (mode.Value p) s ts d t = valuing_sound p s ts d t
mode_sound (mode.Done x) s ts (us, vs, st, d, all) t = done_sound s x ts us vs st d all t t.symbol refl

step_sound : (p : InitialParser) (t : Terminal) (ts : List Terminal) → Holds p ts → OnStep (initial_offer p t) ts t
step_sound p t ts d = mode_sound p.mode p.stack ts d t

goes_kept : (p : InitialParser) (t : Terminal) (ts : List Terminal) → Holds p ts → (q : InitialParser) → initial_offer p t ≡ Some (Goes q) → Holds q (ts ++ t ∷ [])
goes_kept p t ts d q e = let P : Next → Type 0 = λ o. OnStep o ts t in subst P e (step_sound p t ts d)

ends_kept : (p : InitialParser) (t : Terminal) (ts : List Terminal) → Holds p ts → (x : Option (Built InitialTree)) → initial_offer p t ≡ Some (Ends x) → InitialOf x ts
ends_kept p t ts d x e = let P : Next → Type 0 = λ o. OnStep o ts t in subst P e (step_sound p t ts d)

-- what is read up to a token is an initializer
pub initial_of : (ts : List Terminal) (t : Terminal) (q : InitialParser) (x : Option (Built InitialTree)) → feed initial_offer ts (Goes initial_start) ≡ Some (Goes q) → initial_offer q t ≡ Some (Ends x) → InitialOf x ts
initial_of ts t q x e k = ends_kept q t ts (steps_kept initial_offer Holds goes_kept ts [] initial_start q refl e) x k

pub initial_is : InitialIs
initial_is ts t x e =
    let r = ended initial_offer ts t initial_start x e in
    let d = initial_of ts t r.now x r.goes r.ends in
    (d.tree, d.height, d.is, d.kept)
