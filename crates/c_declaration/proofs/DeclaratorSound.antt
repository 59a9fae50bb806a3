-- What is read is a declarator by the grammar.
use Rattle.std.proofs.Common.{◌≡◌, ℕ, suc, ◌+◌, max, Bool, true, false, nat_eq, ◌&&◌, not, List, [], ◌∷◌, ◌++◌, Option, Some, None, refl, sym, ◌∙◌, ap, subst, append_assoc, append-nil, add-one}
use Rattle.std.specs.Prelude.{if◌then◌else◌, drop}
use Rattle.c_lex.specs.declared.token.Place.{Place}
use Rattle.c_lex.specs.declared.keyword.Keyword.TheVariants as keyword
use Rattle.c_symbol.specs.declared.terminal.Terminal.{Terminal}
use Rattle.c_symbol.specs.declared.symbol.LeafKind.TheVariants.{Name, Constant as Integer, Character, Text}
use Rattle.c_symbol.specs.declared.symbol.BinaryOp.{BinaryOp}
use Rattle.c_symbol.specs.declared.symbol.BinaryOp.TheVariants.{Comma, Multiply}
use Rattle.c_symbol.specs.declared.symbol.TypeWord.{TypeWord}
use Rattle.c_symbol.specs.declared.symbol.TypeWord.TheVariants as a_word
use Rattle.c_symbol.specs.declared.symbol.Symbol.{Symbol}
use Rattle.c_symbol.specs.declared.symbol.Symbol.TheVariants.{Leaf, Word, Binary, Keyword, Struct as StructWord, OpenParen, CloseParen, OpenBracket, CloseBracket}
use Rattle.c_expr.specs.First.{first}
use Rattle.c_expr.specs.Machine.{start}
use Rattle.c_expr.specs.Inside.{offer}
use Rattle.c_trees.specs.Expressions.{Tree}
use Rattle.c_trees.specs.Expressions as expr
use Rattle.c_expr.specs.Grammar.{AreStars, no_star, star, spec_of, stars_height, is_nothing, IsSpec, one_word, unsigned_int, tagged, IsExpr, IsAbstract}
use Rattle.c_expr.specs.Grammar as abstract
use Rattle.c_expr.specs.declared.frame.Least.TheVariants.{Constant}
use Rattle.c_expr.specs.declared.inside.Offered.{Offered}
use Rattle.c_expr.specs.declared.inside.Offered.TheVariants as offered
use Rattle.c_expr.specs.declared.state.Parser.{Parser}
use Rattle.c_expr.specs.declared.grown.Grown.{Grown}
use Rattle.c_trees.specs.declared.expression.Spec.{Spec}
use Rattle.c_trees.specs.declared.expression.Spec.TheVariants.{Char, Int, Unsigned, UnsignedInt, Void, Struct}
use Rattle.c_trees.specs.Declarators.{DeclaratorTree, begins}
use Rattle.c_trees.specs.Declarators as tree
use Rattle.c_declaration.specs.declared.built.Built.{Built}
use Rattle.c_declaration.specs.declared.front.Stars.{Stars}
use Rattle.c_declaration.specs.declared.state.Taking.{Taking}
use Rattle.c_declaration.specs.declared.state.Frame.{Frame}
use Rattle.c_declaration.specs.declared.state.Frame.TheVariants.{Nest, Parameter}
use Rattle.c_declaration.specs.declared.state.Bounded.{Bounded}
use Rattle.c_declaration.specs.declared.state.Bounded.TheVariants as before
use Rattle.c_declaration.specs.declared.state.Mode.{Mode}
use Rattle.c_declaration.specs.declared.state.Mode.TheVariants.{Front, Direct, Unnamed, Bounding, Bound, Parameters, Registered, Tagging}
use Rattle.c_declaration.specs.declared.state.DeclaratorParser.{DeclaratorParser}
use Rattle.c_declaration.specs.declared.step.Step.{Step}
use Rattle.c_declaration.specs.declared.step.Step.TheVariants.{Goes, Ends}
use Rattle.c_declaration.specs.Feeding.{feed}
use Rattle.c_declaration.specs.Grown.{cut, grow_list, grow_two, expr_of, name_of, parens_of, array_at, array_of, open_array_at, open_array_of, function_at, function_of, taking_of, pointers_of, pointed, named_of, unnamed_of, stars_of, around_of, bounded_of, unbounded_of}
use Rattle.c_declaration.specs.Grammar.{Is, first_place, IsRegister, unmarked, marked, is_void_type, is_void, takes_void, IsDirect, IsDeclarator, AreParameters, IsParameter}
use Rattle.c_declaration.specs.Grammar as g
use Rattle.c_declaration.specs.DeclaratorReading.{Next, goes, starred, count_of, is_none, may_be_unnamed, both_words, spec_is, worded_in, worded, taken, called, named_closed, named_divided, behind_named, void_alone, unnamed_last, unnamed_closed, unnamed_divided, behind_unnamed, fronting, directing, unnaming, bounded, unbounded, bound_offered, bound_read, bounding_by, is_bracket, bounding, typed, parameters, tagging, shift_mode, declarator_offer, declarator_start}
use Rattle.c_declaration.specs.Laws.{DeclaratorIs}
use Rattle.c_declaration.proofs.Pieces.{taller_cut, grow_cut, grow_two_cut, grow_list_cut, expr_cut, pointers_cut, unnamed_cut, stars_cut, around_cut, unbounded_cut}
use Rattle.c_declaration.proofs.DeclaratorComplete.{bracket, not_zero}
use Rattle.c_declaration.proofs.Fed.{Ended, ended, steps_kept}
use Rattle.c_declaration.proofs.Expressions.{as_step, expr_offer, expr_is, expr_goes}

true_false : true ≡ false → ⊥
true_false e = cc

-- the `*` that were read
pub data IsFront : Option Stars → List Terminal → Type 0 where
  no_front : IsFront None []
  front : (t : Terminal) {n : ℕ} {ts : List Terminal} → AreStars (suc n) (t ∷ ts) → IsFront (Some (record { place = t.place; count = suc n })) (t ∷ ts)

one_more_star : {stars : Option Stars} {ts : List Terminal} → IsFront stars ts → (t : Terminal) → Is t (Binary Multiply) → IsFront (starred stars t.place) (ts ++ t ∷ [])
one_more_star no_front t e = front t (star t no_star e)
one_more_star (front u {n} {ts} k) t e =
    let P : ℕ → Type 0 = λ i. IsFront (Some (record { place = u.place; count = i })) (u ∷ (ts ++ t ∷ [])) in
    subst P (sym (add-one (suc n))) (front u (star t k e))

are_stars : {stars : Option Stars} {ts : List Terminal} → IsFront stars ts → AreStars (count_of stars) ts
are_stars no_front = no_star
are_stars (front t k) = k

no_tokens : {stars : Option Stars} {ts : List Terminal} → IsFront stars ts → is_none stars ≡ true → ts ≡ []
no_tokens no_front e = refl
no_tokens (front t k) e = absurd (true_false (sym e))

-- what the tokens are, and what is kept of it
record DirectOf (x : Option (Built DeclaratorTree)) (ts : List Terminal) : Type 0 where
  tree : DeclaratorTree
  height : ℕ
  is : IsDirect tree height ts
  kept : x ≡ cut tree height

pub record DeclaratorOf (x : Option (Built DeclaratorTree)) (ts : List Terminal) : Type 0 where
  pub tree : DeclaratorTree
  pub height : ℕ
  pub is : IsDeclarator tree height ts
  pub kept : x ≡ cut tree height

record ParameterOf (x : Option (Built DeclaratorTree)) (ts : List Terminal) : Type 0 where
  tree : DeclaratorTree
  height : ℕ
  is : IsParameter tree height ts
  kept : x ≡ cut tree height

record UnnamedOf (x : Option (Built Tree)) (none : Bool) (ts : List Terminal) : Type 0 where
  tree : Tree
  height : ℕ
  is : IsAbstract tree height ts
  kept : x ≡ cut tree height
  nothing : is_nothing tree ≡ none

same_direct : {x : Option (Built DeclaratorTree)} (us vs : List Terminal) → us ≡ vs → DirectOf x us → DirectOf x vs
same_direct {x} us vs e d = let P : List Terminal → Type 0 = λ l. DirectOf x l in subst P e d

same_unnamed : {x : Option (Built Tree)} {b : Bool} (us vs : List Terminal) → us ≡ vs → UnnamedOf x b us → UnnamedOf x b vs
same_unnamed {x} {b} us vs e d = let P : List Terminal → Type 0 = λ l. UnnamedOf x b l in subst P e d

behind_stars : {stars : Option Stars} {us vs : List Terminal} (x : Option (Built DeclaratorTree)) → IsFront stars us → DirectOf x vs → DeclaratorOf (pointed stars x) (us ++ vs)
behind_stars x no_front d = record { tree = d.tree; height = d.height; is = g.direct d.is; kept = d.kept }
behind_stars x (front t {n} {ts} k) d =
    let stars : Stars = record { place = t.place; count = suc n } in
    record { tree = tree.Pointers t.place (suc n) d.tree; height = suc (max 2 d.height); is = g.pointers t k d.is; kept = ap (pointers_of stars) d.kept ∙ pointers_cut stars d.tree d.height }

-- a function up to the `(` or the comma before a parameter
data Begun : Bool → Option (Built DeclaratorTree) → List Terminal → Type 0 where
  none_yet : (o : Terminal) (f : Option (Built DeclaratorTree)) {d : DeclaratorTree} {h : ℕ} {us : List Terminal} → IsDirect d h us → Is o OpenParen → f ≡ cut (function_at d) (suc h) → Begun true f (us ++ o ∷ [])
  some : (t : Terminal) (f : Option (Built DeclaratorTree)) {d : DeclaratorTree} {h : ℕ} {us : List Terminal} → AreParameters d h us → Is t (Binary Comma) → f ≡ cut d h → Begun false f (us ++ t ∷ [])

record Takes (f : Taking) (ts : List Terminal) : Type 0 where
  us : List Terminal
  vs : List Terminal
  front_is : IsFront f.stars us
  begun : Begun f.first f.function vs
  all : ts ≡ us ++ vs

-- the tokens of a frame and of a stack
data Opens : Frame → List Terminal → Type 0 where
  opens_nest : (o : Terminal) (stars : Option Stars) (b : Bool) {us : List Terminal} → IsFront stars us → Is o OpenParen → Opens (Nest stars o.place b) (us ++ o ∷ [])
  opens_parameter : (f : Taking) (at : Place) (r : Bool) (base : Spec) {us xs ys : List Terminal} → Takes f us → IsRegister r xs → IsSpec base ys → first_place (xs ++ ys) ≡ Some at
      → Opens (Parameter f at r base) (us ++ (xs ++ ys))

abbrev Stacked : List Frame → List Terminal → Type 0
Stacked [] ts = ts ≡ []
Stacked (f ∷ s) ts = (us : List Terminal) × (vs : List Terminal) × Stacked s us × Opens f vs × (ts ≡ us ++ vs)

-- a declarator and the `[` behind it
data Opened : Bounded → List Terminal → Type 0 where
  opened_named : (o : Terminal) (stars : Option Stars) (d : Option (Built DeclaratorTree)) {xs ys : List Terminal} → IsFront stars xs → DirectOf d ys → Is o OpenBracket
      → Opened (before.Named stars d) (xs ++ (ys ++ o ∷ []))
  opened_unnamed : (o : Terminal) (a : Option (Built Tree)) {n : Bool} {xs : List Terminal} → UnnamedOf a n xs → Is o OpenBracket → Opened (before.Unnamed a) (xs ++ o ∷ [])

-- what holds of a state after some tokens
abbrev HoldsIn : Mode → List Frame → List Terminal → Type 0
HoldsIn (Front stars) s ts = (us : List Terminal) × (vs : List Terminal) × Stacked s us × IsFront stars vs × (ts ≡ us ++ vs)
HoldsIn (Direct stars x) s ts = (us : List Terminal) × (vs : List Terminal) × (ws : List Terminal) × Stacked s us × IsFront stars vs × DirectOf x ws × (ts ≡ us ++ (vs ++ ws))
HoldsIn (Unnamed a) s ts = (us : List Terminal) × (vs : List Terminal) × Stacked s us × UnnamedOf a false vs × (ts ≡ us ++ vs)
HoldsIn (Bounding b) s ts = (us : List Terminal) × (vs : List Terminal) × Stacked s us × Opened b vs × (ts ≡ us ++ vs)
HoldsIn (Bound b p) s ts = (us : List Terminal) × (vs : List Terminal) × (ws : List Terminal) × Stacked s us × Opened b vs × (feed (expr_offer Constant) ws (Goes (start Constant)) ≡ Some (Goes p)) × (ts ≡ us ++ (vs ++ ws))
HoldsIn (Parameters f) s ts = (us : List Terminal) × (vs : List Terminal) × Stacked s us × Takes f vs × (ts ≡ us ++ vs)
HoldsIn (Registered f at) s ts = (us : List Terminal) × (vs : List Terminal) × (ws : List Terminal) × Stacked s us × Takes f vs × IsRegister true ws × (first_place ws ≡ Some at) × (ts ≡ us ++ (vs ++ ws))
HoldsIn (Tagging f at r) s ts =
    (us : List Terminal) × (vs : List Terminal) × (ws : List Terminal) × (w : Terminal) × Stacked s us × Takes f vs × IsRegister r ws × Is w StructWord × (first_place (ws ++ w ∷ []) ≡ Some at) × (ts ≡ us ++ (vs ++ (ws ++ w ∷ [])))

abbrev Holds : DeclaratorParser → List Terminal → Type 0
Holds p ts = HoldsIn p.mode p.stack ts

-- what holds of a step with one token more
abbrev OnStep : Next → List Terminal → Terminal → Type 0
OnStep None ts t = Unit {0}
OnStep (Some (Goes p)) ts t = HoldsIn p.mode p.stack (ts ++ t ∷ [])
OnStep (Some (Ends d)) ts t = DeclaratorOf d ts

guard : (b : Bool) (x : Next) (ts : List Terminal) (t : Terminal) → (b ≡ true → OnStep x ts t) → OnStep (if b then x else None) ts t
guard true x ts t h = h refl
guard false x ts t h = tt

guard_not : (b : Bool) (x : Next) (ts : List Terminal) (t : Terminal) → (b ≡ false → OnStep x ts t) → OnStep (if b then None else x) ts t
guard_not true x ts t h = tt
guard_not false x ts t h = h refl

either : (b : Bool) (x y : Next) (ts : List Terminal) (t : Terminal) → (b ≡ true → OnStep x ts t) → (b ≡ false → OnStep y ts t) → OnStep (if b then x else y) ts t
either true x y ts t h k = h refl
either false x y ts t h k = k refl

-- tokens in order
two : (t : Terminal) (ts us vs : List Terminal) → ts ≡ us ++ vs → ts ++ t ∷ [] ≡ us ++ (vs ++ t ∷ [])
two t ts us vs all = ap (λ l. l ++ t ∷ []) all ∙ append_assoc us vs (t ∷ [])

three : (t : Terminal) (ts us vs ws : List Terminal) → ts ≡ us ++ (vs ++ ws) → ts ++ t ∷ [] ≡ us ++ (vs ++ (ws ++ t ∷ []))
three t ts us vs ws all = two t ts us (vs ++ ws) all ∙ ap (λ l. us ++ l) (append_assoc vs ws (t ∷ []))

four : (t : Terminal) (ts us vs ws xs : List Terminal) → ts ≡ us ++ (vs ++ (ws ++ xs)) → ts ++ t ∷ [] ≡ us ++ (vs ++ (ws ++ (xs ++ t ∷ [])))
four t ts us vs ws xs all = three t ts us vs (ws ++ xs) all ∙ ap (λ l. us ++ (vs ++ l)) (append_assoc ws xs (t ∷ []))

-- the part on a frame, which is itself on a stack
within : (ts us vs us' vs' : List Terminal) → ts ≡ us ++ vs → us ≡ us' ++ vs' → ts ≡ us' ++ (vs' ++ vs)
within ts us vs us' vs' all under = all ∙ ap (λ l. l ++ vs) under ∙ append_assoc us' vs' vs

-- a type's name
takes_same : (f : Taking) (us vs : List Terminal) → us ≡ vs → Takes f us → Takes f vs
takes_same f us vs e d = let P : List Terminal → Type 0 = λ l. Takes f l in subst P e d

place_front : (ts us : List Terminal) (at : Place) → first_place ts ≡ Some at → first_place (ts ++ us) ≡ Some at
place_front [] us at e = cc
place_front (t ∷ ts) us at e = e

frame_holds : (f : Frame) (s : List Frame) (ts us vs : List Terminal) → Stacked s us → Opens f vs → ts ≡ us ++ vs → HoldsIn (Front None) (f ∷ s) ts
frame_holds f s ts us vs st o all = (ts, [], (us, vs, st, o, all), no_front, sym (append-nil ts))

typed_sound : (f : Taking) (at : Place) (r : Bool) (s : List Frame) (ts us vs ws : List Terminal) → Stacked s us → Takes f vs → IsRegister r ws → ts ≡ us ++ (vs ++ ws)
    → (t : Terminal) (y : Symbol) → Is t y → first_place (ws ++ t ∷ []) ≡ Some at → OnStep (typed s f at r y) ts t
typed_sound f at r s ts us vs ws st d rd all t (Word w) e p =
    frame_holds (Parameter f at r (spec_of w)) s (ts ++ t ∷ []) us (vs ++ (ws ++ t ∷ [])) st (opens_parameter f at r (spec_of w) d rd (one_word t w e) p) (three t ts us vs ws all)
typed_sound f at r s ts us vs ws st d rd all t StructWord e p = (us, vs, ws, t, st, d, rd, e, p, three t ts us vs ws all)
typed_sound f at r s ts us vs ws st d rd all t _ e p = tt

tagging_sound : (f : Taking) (at : Place) (r : Bool) (s : List Frame) (ts : List Terminal) → HoldsIn (Tagging f at r) s ts → (t : Terminal) (y : Symbol) → Is t y → OnStep (tagging s f at r y t.text) ts t
tagging_sound f at r s ts (us, vs, ws, w, st, d, rd, we, p, all) t (Leaf Name) e =
    let P : List Terminal → Type 0 = λ l. first_place l ≡ Some at in
    frame_holds (Parameter f at r (Struct t.text)) s (ts ++ t ∷ []) us (vs ++ (ws ++ w ∷ t ∷ [])) st
    (opens_parameter f at r (Struct t.text) d rd (tagged w t we e) (subst P (append_assoc ws (w ∷ []) (t ∷ [])) (place_front (ws ++ w ∷ []) (t ∷ []) at p)))
    (four t ts us vs ws (w ∷ []) all)
tagging_sound f at r s ts d t (Leaf (Integer _)) e = tt
tagging_sound f at r s ts d t (Leaf (Character _)) e = tt
tagging_sound f at r s ts d t (Leaf Text) e = tt
tagging_sound f at r s ts d t _ e = tt

registered_sound : (f : Taking) (at : Place) (s : List Frame) (ts : List Terminal) → HoldsIn (Registered f at) s ts → (t : Terminal) (y : Symbol) → Is t y → OnStep (typed s f at true y) ts t
registered_sound f at s ts (us, vs, ws, st, d, rd, p, all) t y e = typed_sound f at true s ts us vs ws st d rd all t y e (place_front ws (t ∷ []) at p)

-- the `)` of a function without parameters
no_parameters_of : {f : Option (Built DeclaratorTree)} {b : Bool} {vs : List Terminal} → Begun b f vs → b ≡ true → (c : Terminal) → Is c CloseParen → DirectOf f (vs ++ c ∷ [])
no_parameters_of {f} (none_yet o f' {d} {h} {us} dd oe k) e c ce =
    same_direct (us ++ o ∷ c ∷ []) ((us ++ o ∷ []) ++ c ∷ []) (sym (append_assoc us (o ∷ []) (c ∷ []))) (record { tree = function_at d; height = suc h; is = g.no_parameters o c dd oe ce; kept = k })
no_parameters_of (some t f' dd te k) e c ce = absurd (true_false (sym e))

closing_sound : (f : Taking) (s : List Frame) (ts : List Terminal) → HoldsIn (Parameters f) s ts → (t : Terminal) → Is t CloseParen → OnStep (if f.first then called f s else None) ts t
closing_sound f s ts (us, vs, st, d, all) t e =
    guard f.first (called f s) ts t
    (λ yes. (us, d.us, d.vs ++ t ∷ [], st, d.front_is, no_parameters_of d.begun yes t e, two t ts us vs all ∙ ap (λ l. us ++ l) (two t vs d.us d.vs d.all)))

parameters_sound : (f : Taking) (s : List Frame) (ts : List Terminal) → HoldsIn (Parameters f) s ts → (t : Terminal) (y : Symbol) → Is t y → OnStep (parameters s f y t.place) ts t
parameters_sound f s ts d t CloseParen e = closing_sound f s ts d t e
parameters_sound f s ts (us, vs, st, d, all) t (Keyword keyword.Register) e = (us, vs, t ∷ [], st, d, marked t e, refl, two t ts us vs all)
parameters_sound f s ts (us, vs, st, d, all) t y e = typed_sound f t.place false s ts us vs [] st d unmarked (all ∙ ap (λ l. us ++ l) (sym (append-nil vs))) t y e refl

-- a function with a parameter more
same_parameters : {d : DeclaratorTree} {h : ℕ} (us vs : List Terminal) → us ≡ vs → AreParameters d h us → AreParameters d h vs
same_parameters {d} {h} us vs e k = let P : List Terminal → Type 0 = λ l. AreParameters d h l in subst P e k

-- the parameters up to the one that was read
record ParametersOf (f : Option (Built DeclaratorTree)) (b : Bool) (p : DeclaratorTree) (ts : List Terminal) : Type 0 where
  tree : DeclaratorTree
  height : ℕ
  is : AreParameters tree height ts
  kept : f ≡ cut tree height
  void : takes_void tree ≡ (b && is_void p)

no_void : {d : DeclaratorTree} {h : ℕ} {us : List Terminal} → AreParameters d h us → (p : DeclaratorTree) → takes_void (tree.Taking d p) ≡ false
no_void (g.first_parameter o dd oe pp) p = refl
no_void (g.next_parameter t ps te pp) p = refl

with_parameter : {f : Option (Built DeclaratorTree)} {b : Bool} {vs ws : List Terminal} (x : Option (Built DeclaratorTree)) → Begun b f vs → (p : ParameterOf x ws) → ParametersOf (taking_of f x) b p.tree (vs ++ ws)
with_parameter {f} {b} {vs} {ws} x (none_yet o f' {d} {h} {us} dd oe k) p =
    record {
      tree = tree.Taking (function_at d) p.tree;
      height = max (suc h) (p.height + 2);
      is = same_parameters (us ++ o ∷ ws) ((us ++ o ∷ []) ++ ws) (sym (append_assoc us (o ∷ []) ws)) (g.first_parameter o dd oe p.is);
      kept = ap (λ v. taking_of v x) k ∙ ap (taking_of (cut (function_at d) (suc h))) p.kept ∙ grow_list_cut 63 2 refl tree.Taking (function_at d) p.tree (suc h) p.height;
      void = refl;
    }
with_parameter {f} {b} {vs} {ws} x (some t f' {d} {h} {us} dd te k) p =
    record {
      tree = tree.Taking d p.tree;
      height = max h (p.height + 2);
      is = same_parameters (us ++ t ∷ ws) ((us ++ t ∷ []) ++ ws) (sym (append_assoc us (t ∷ []) ws)) (g.next_parameter t dd te p.is);
      kept = ap (λ v. taking_of v x) k ∙ ap (taking_of (cut d h)) p.kept ∙ grow_list_cut 63 2 refl tree.Taking d p.tree h p.height;
      void = no_void dd p.tree;
    }

-- a function up to a parameter, and the parameter
record Last (f : Taking) (x : Option (Built DeclaratorTree)) (v : Bool) (ts : List Terminal) : Type 0 where
  us : List Terminal
  ps : List Terminal
  takes : Takes f us
  is : ParameterOf x ps
  void : is_void is.tree ≡ v
  all : ts ≡ us ++ ps

-- the tokens of a function behind its `*`
last_all : (us ps fs gs : List Terminal) (t : Terminal) → us ≡ fs ++ gs → (us ++ ps) ++ t ∷ [] ≡ fs ++ ((gs ++ ps) ++ t ∷ [])
last_all us ps fs gs t e = ap (λ l. (l ++ ps) ++ t ∷ []) e ∙ ap (λ l. l ++ t ∷ []) (append_assoc fs gs ps) ∙ append_assoc fs (gs ++ ps) (t ∷ [])

behind_last : (ts us qs : List Terminal) (t : Terminal) {f : Taking} {x : Option (Built DeclaratorTree)} {v : Bool} → ts ≡ us ++ qs → (l : Last f x v qs) → ts ++ t ∷ [] ≡ us ++ (l.takes.us ++ ((l.takes.vs ++ l.ps) ++ t ∷ []))
behind_last ts us qs t all l = two t ts us qs all ∙ ap (λ k. us ++ (k ++ t ∷ [])) l.all ∙ ap (λ k. us ++ k) (last_all l.us l.ps l.takes.us l.takes.vs t l.takes.all)

parameters_of : {f : Taking} {x : Option (Built DeclaratorTree)} {v : Bool} {qs : List Terminal} → (l : Last f x v qs) → ParametersOf (taking_of f.function x) f.first l.is.tree (l.takes.vs ++ l.ps)
parameters_of {f} {x} l = with_parameter x l.takes.begun l.is

divided_sound : (f : Taking) (x : Option (Built DeclaratorTree)) (v : Bool) (s : List Frame) (ts us qs : List Terminal) → Stacked s us → Last f x v qs → ts ≡ us ++ qs → (t : Terminal) → Is t (Binary Comma)
    → OnStep (goes (Parameters (taken f x)) s) ts t
divided_sound f x v s ts us qs st l all t e =
    let k = parameters_of l in (
      us,
      l.takes.us ++ ((l.takes.vs ++ l.ps) ++ t ∷ []),
      st,
      record { us = l.takes.us; vs = (l.takes.vs ++ l.ps) ++ t ∷ []; front_is = l.takes.front_is; begun = some t (taking_of f.function x) k.is e k.kept; all = refl },
      behind_last ts us qs t all l,
    )

called_sound : (f : Taking) (x : Option (Built DeclaratorTree)) (v : Bool) (s : List Frame) (ts us qs : List Terminal) → Stacked s us → Last f x v qs → ts ≡ us ++ qs → (f.first && v) ≡ false
    → (t : Terminal) → Is t CloseParen → OnStep (called (taken f x) s) ts t
called_sound f x v s ts us qs st l all n t e =
    let k = parameters_of l in (
      us,
      l.takes.us,
      (l.takes.vs ++ l.ps) ++ t ∷ [],
      st,
      l.takes.front_is,
      record { tree = k.tree; height = k.height; is = g.parameters t k.is (k.void ∙ ap (λ b. f.first && b) l.void ∙ n) e; kept = k.kept },
      behind_last ts us qs t all l,
    )

last_named : {f : Taking} {at : Place} {r : Bool} {base : Spec} {ws vs : List Terminal} (x : Option (Built DeclaratorTree)) → Opens (Parameter f at r base) ws → DeclaratorOf x vs → Last f (named_of at r base x) false (ws ++ vs)
last_named {f} {at} {r} {base} {ws} {vs} x (opens_parameter f' at' r' base' {us} {xs} {ys} d rd sd p) dd =
    record {
      us = us;
      ps = xs ++ (ys ++ vs);
      takes = d;
      is = record { tree = tree.Named at r base dd.tree; height = suc dd.height; is = g.named rd sd p dd.is; kept = ap (named_of at r base) dd.kept ∙ grow_cut (tree.Named at r base) dd.tree dd.height };
      void = refl;
      all = append_assoc us (xs ++ ys) vs ∙ ap (λ l. us ++ l) (append_assoc xs ys vs);
    }

no_register : {r : Bool} {us : List Terminal} → IsRegister r us → r ≡ false → us ≡ []
no_register unmarked e = refl
no_register (marked t k) e = absurd (true_false e)

last_unnamed : {f : Taking} {at : Place} {r : Bool} {base : Spec} {ws vs : List Terminal} {none : Bool} (a : Option (Built Tree)) → Opens (Parameter f at r base) ws → r ≡ false → UnnamedOf a none vs
    → Last f (unnamed_of at base a) (none && is_void_type base) (ws ++ vs)
last_unnamed {f} {at} {r} {base} {ws} {vs} {none} a (opens_parameter f' at' r' base' {us} {xs} {ys} d rd sd p) n dd =
    let empty : xs ≡ [] = no_register rd n in
    record {
      us = us;
      ps = ys ++ vs;
      takes = d;
      is = record {
        tree = tree.Unnamed at base dd.tree;
        height = suc (max 1 dd.height);
        is = g.unnamed sd (ap (λ l. first_place (l ++ ys)) (sym empty) ∙ p) dd.is;
        kept = ap (unnamed_of at base) dd.kept ∙ unnamed_cut at base dd.tree dd.height;
      };
      void = ap (λ b. b && is_void_type base) dd.nothing;
      all = ap (λ l. (us ++ (l ++ ys)) ++ vs) empty ∙ append_assoc us ys vs;
    }

-- `void` alone
record OneVoid (ts : List Terminal) : Type 0 where
  word : Terminal
  is : Is word (Word a_word.Void)
  all : ts ≡ word ∷ []

void_word : (t : Terminal) (w : TypeWord) → Is t (Word w) → is_void_type (spec_of w) ≡ true → OneVoid (t ∷ [])
void_word t a_word.Char e k = absurd (true_false (sym k))
void_word t a_word.Int e k = absurd (true_false (sym k))
void_word t a_word.Unsigned e k = absurd (true_false (sym k))
void_word t a_word.Void e k = record { word = t; is = e; all = refl }

void_spec : {base : Spec} {ts : List Terminal} → IsSpec base ts → is_void_type base ≡ true → OneVoid ts
void_spec (one_word t w e) k = void_word t w e k
void_spec (unsigned_int t i e e') k = absurd (true_false (sym k))
void_spec (tagged t n e e') k = absurd (true_false (sym k))

no_stars : {n : ℕ} {ts : List Terminal} → AreStars n ts → nat_eq n 0 ≡ true → ts ≡ []
no_stars no_star e = refl
no_stars (star {n} t d k) e = absurd (true_false (sym e ∙ not_zero n (nat_eq (suc n) 0) refl))

nothing_tokens : {a : Tree} {m : ℕ} {ts : List Terminal} → IsAbstract a m ts → is_nothing a ≡ true → ts ≡ []
nothing_tokens (abstract.stars k) e = no_stars k e
nothing_tokens (abstract.around o c k oe a n ce) e = absurd (true_false (sym e))
nothing_tokens (abstract.bounded o c a oe d ce) e = absurd (true_false (sym e))
nothing_tokens (abstract.unbounded o c a oe ce) e = absurd (true_false (sym e))

void_parameters_of : {f : Option (Built DeclaratorTree)} {b : Bool} {vs : List Terminal} → Begun b f vs → b ≡ true → (v c : Terminal) → Is v (Word a_word.Void) → Is c CloseParen → DirectOf f (vs ++ v ∷ c ∷ [])
void_parameters_of {f} (none_yet o f' {d} {h} {us} dd oe k) e v c ve ce =
    same_direct (us ++ o ∷ v ∷ c ∷ []) ((us ++ o ∷ []) ++ v ∷ c ∷ []) (sym (append_assoc us (o ∷ []) (v ∷ c ∷ []))) (record { tree = function_at d; height = suc h; is = g.void_parameters o v c dd oe ve ce; kept = k })
void_parameters_of (some t f' dd te k) e v c ve ce = absurd (true_false (sym e))

-- a frame of a parameter that is `void` alone
record VoidFrame (f : Taking) (ts : List Terminal) : Type 0 where
  us : List Terminal
  word : Terminal
  takes : Takes f us
  is : Is word (Word a_word.Void)
  all : ts ≡ us ++ word ∷ []

void_frame : {f : Taking} {at : Place} {r : Bool} {base : Spec} {ws : List Terminal} → Opens (Parameter f at r base) ws → r ≡ false → is_void_type base ≡ true → VoidFrame f ws
void_frame (opens_parameter f at r base {us} {xs} {ys} d rd sd p) n k =
    let v = void_spec sd k in
    record { us = us; word = v.word; takes = d; is = v.is; all = ap (λ l. us ++ (l ++ ys)) (no_register rd n) ∙ ap (λ l. us ++ l) v.all }

void_sound : (f : Taking) (s : List Frame) (ts us qs : List Terminal) → Stacked s us → VoidFrame f qs → ts ≡ us ++ qs → f.first ≡ true → (t : Terminal) → Is t CloseParen → OnStep (called f s) ts t
void_sound f s ts us qs st l all only t e = (
  us,
  l.takes.us,
  l.takes.vs ++ l.word ∷ t ∷ [],
  st,
  l.takes.front_is,
  void_parameters_of l.takes.begun only l.word t l.is e,
  two t ts us qs all
      ∙ ap (λ k. us ++ (k ++ t ∷ [])) (l.all ∙ ap (λ k. k ++ l.word ∷ []) l.takes.all)
      ∙ ap (λ k. us ++ k) (append_assoc (l.takes.us ++ l.takes.vs) (l.word ∷ []) (t ∷ []) ∙ append_assoc l.takes.us l.takes.vs (l.word ∷ t ∷ [])),
)

and_first : (b c : Bool) → (b && c) ≡ true → b ≡ true
and_first true c e = refl
and_first false c e = absurd (true_false (sym e))

and_second : (b c : Bool) → (b && c) ≡ true → c ≡ true
and_second true c e = e
and_second false c e = absurd (true_false (sym e))

not_true : (b : Bool) → not b ≡ true → b ≡ false
not_true true e = absurd (true_false (sym e))
not_true false e = refl

and_false : (b : Bool) → (b && false) ≡ false
and_false true = refl
and_false false = refl

-- behind a declarator without a name
unnamed_last_sound : (f : Taking) (at : Place) (r : Bool) (base : Spec) (none : Bool) (a : Option (Built Tree)) (s : List Frame) (ts us ws vs : List Terminal) → Stacked s us → Opens (Parameter f at r base) ws → r ≡ false
    → UnnamedOf a none vs → ts ≡ us ++ (ws ++ vs) → (t : Terminal) → Is t CloseParen → OnStep (unnamed_last (void_alone f none base) f (unnamed_of at base a) s) ts t
unnamed_last_sound f at r base none a s ts us ws vs st o n d all t e =
    either (void_alone f none base) (called f s) (called (taken f (unnamed_of at base a)) s) ts t
    (λ yes.
    let both = and_second f.first (none && is_void_type base) yes in
    let empty : vs ≡ [] = nothing_tokens d.is (d.nothing ∙ and_first none (is_void_type base) both) in
    void_sound f s ts us ws st (void_frame o n (and_second none (is_void_type base) both)) (all ∙ ap (λ l. us ++ (ws ++ l)) empty ∙ ap (λ l. us ++ l) (append-nil ws)) (and_first f.first (none && is_void_type base) yes) t e)
    (λ never. called_sound f (unnamed_of at base a) (none && is_void_type base) s ts us (ws ++ vs) st (last_unnamed a o n d) all never t e)

around_unnamed : {stars : Option Stars} {at : Place} {b none : Bool} {ws vs : List Terminal} (a : Option (Built Tree)) → Opens (Nest stars at b) ws → none ≡ false → UnnamedOf a none vs → (t : Terminal) → Is t CloseParen
    → UnnamedOf (around_of (count_of stars) a) false (ws ++ (vs ++ t ∷ []))
around_unnamed {stars} {at} {b} {none} {ws} {vs} a (opens_nest o stars' b' {us} fr oe) n d t e =
    same_unnamed (us ++ o ∷ (vs ++ t ∷ [])) ((us ++ o ∷ []) ++ (vs ++ t ∷ [])) (sym (append_assoc us (o ∷ []) (vs ++ t ∷ [])))
    (record {
      tree = expr.Around (count_of stars) d.tree;
      height = max (stars_height (count_of stars)) (d.height + 1);
      is = abstract.around o t (are_stars fr) oe d.is (d.nothing ∙ n) e;
      kept = ap (around_of (count_of stars)) d.kept ∙ around_cut (count_of stars) d.tree d.height;
      nothing = refl;
    })

frame_all : (ts us vs us' ws : List Terminal) → ts ≡ us ++ vs → us ≡ us' ++ ws → ts ≡ us' ++ (ws ++ vs)
frame_all ts us vs us' ws all under = within ts us vs us' ws all under

unnamed_closed_sound : (f : Frame) (none : Bool) (a : Option (Built Tree)) (s : List Frame) (ts us vs : List Terminal) → Stacked (f ∷ s) us → UnnamedOf a none vs → ts ≡ us ++ vs → (t : Terminal) → Is t CloseParen
    → OnStep (unnamed_closed f none a s) ts t
unnamed_closed_sound (Nest stars at b) none a s ts us vs (us', ws, st, o, under) d all t e =
    guard (b && not none) (goes (Unnamed (around_of (count_of stars) a)) s) ts t
    (λ yes. (us', ws ++ (vs ++ t ∷ []), st, around_unnamed a o (not_true none (and_second b (not none) yes)) d t e, three t ts us' ws vs (within ts us vs us' ws all under)))
unnamed_closed_sound (Parameter f at r base) none a s ts us vs (us', ws, st, o, under) d all t e =
    guard_not r (unnamed_last (void_alone f none base) f (unnamed_of at base a) s) ts t (λ n. unnamed_last_sound f at r base none a s ts us' ws vs st o n d (within ts us vs us' ws all under) t e)

unnamed_divided_sound : (f : Frame) (none : Bool) (a : Option (Built Tree)) (s : List Frame) (ts us vs : List Terminal) → Stacked (f ∷ s) us → UnnamedOf a none vs → ts ≡ us ++ vs → (t : Terminal) → Is t (Binary Comma)
    → OnStep (unnamed_divided f a s) ts t
unnamed_divided_sound (Nest stars at b) none a s ts us vs d dd all t e = tt
unnamed_divided_sound (Parameter f at r base) none a s ts us vs (us', ws, st, o, under) d all t e =
    guard_not r (goes (Parameters (taken f (unnamed_of at base a))) s) ts t
    (λ n. divided_sound f (unnamed_of at base a) (none && is_void_type base) s ts us' (ws ++ vs) st (last_unnamed a o n d) (within ts us vs us' ws all under) t e)

behind_unnamed_sound : (s : List Frame) (none : Bool) (a : Option (Built Tree)) (ts us vs : List Terminal) → Stacked s us → UnnamedOf a none vs → ts ≡ us ++ vs → (t : Terminal) (y : Symbol) → Is t y
    → OnStep (behind_unnamed (first s) y none a (drop 1 s)) ts t
behind_unnamed_sound [] none a ts us vs st d all t y e = tt
behind_unnamed_sound (f ∷ s) none a ts us vs st d all t CloseParen e = unnamed_closed_sound f none a s ts us vs st d all t e
behind_unnamed_sound (f ∷ s) none a ts us vs st d all t (Binary Comma) e = unnamed_divided_sound f none a s ts us vs st d all t e
behind_unnamed_sound (f ∷ s) none a ts us vs st d all t _ e = tt

-- behind a declarator with a name
record Nested (stars : Option Stars) (at : Place) (ts : List Terminal) : Type 0 where
  us : List Terminal
  paren : Terminal
  front_is : IsFront stars us
  is : Is paren OpenParen
  place : paren.place ≡ at
  all : ts ≡ us ++ paren ∷ []

nested : {stars : Option Stars} {at : Place} {b : Bool} {ws : List Terminal} → Opens (Nest stars at b) ws → Nested stars at ws
nested (opens_nest o stars b {us} fr oe) = record { us = us; paren = o; front_is = fr; is = oe; place = refl; all = refl }

in_parens : (at : Place) (x : Option (Built DeclaratorTree)) (vs : List Terminal) → DeclaratorOf x vs → (o c : Terminal) → Is o OpenParen → o.place ≡ at → Is c CloseParen → DirectOf (parens_of at x) (o ∷ (vs ++ c ∷ []))
in_parens at x vs d o c oe p ce =
    let P : Place → Type 0 = λ l. DirectOf (parens_of l x) (o ∷ (vs ++ c ∷ [])) in
    subst P p (record { tree = tree.Parens o.place d.tree; height = suc d.height; is = g.parens o c oe d.is ce; kept = ap (parens_of o.place) d.kept ∙ grow_cut (tree.Parens o.place) d.tree d.height })

named_closed_sound : (f : Frame) (x : Option (Built DeclaratorTree)) (s : List Frame) (ts us vs : List Terminal) → Stacked (f ∷ s) us → DeclaratorOf x vs → ts ≡ us ++ vs → (t : Terminal) → Is t CloseParen
    → OnStep (named_closed f x s) ts t
named_closed_sound (Nest stars at b) x s ts us vs (us', ws, st, o, under) d all t e =
    let k = nested o in (
      us',
      k.us,
      k.paren ∷ (vs ++ t ∷ []),
      st,
      k.front_is,
      in_parens at x vs d k.paren t k.is k.place e,
      three t ts us' ws vs (within ts us vs us' ws all under) ∙ ap (λ l. us' ++ (l ++ (vs ++ t ∷ []))) k.all ∙ ap (λ l. us' ++ l) (append_assoc k.us (k.paren ∷ []) (vs ++ t ∷ [])),
    )
named_closed_sound (Parameter f at r base) x s ts us vs (us', ws, st, o, under) d all t e =
    called_sound f (named_of at r base x) false s ts us' (ws ++ vs) st (last_named x o d) (within ts us vs us' ws all under) (and_false f.first) t e

named_divided_sound : (f : Frame) (x : Option (Built DeclaratorTree)) (s : List Frame) (ts us vs : List Terminal) → Stacked (f ∷ s) us → DeclaratorOf x vs → ts ≡ us ++ vs → (t : Terminal) → Is t (Binary Comma)
    → OnStep (named_divided f x s) ts t
named_divided_sound (Nest stars at b) x s ts us vs st d all t e = tt
named_divided_sound (Parameter f at r base) x s ts us vs (us', ws, st, o, under) d all t e =
    divided_sound f (named_of at r base x) false s ts us' (ws ++ vs) st (last_named x o d) (within ts us vs us' ws all under) t e

same_declarator : (x : Option (Built DeclaratorTree)) (us vs : List Terminal) → us ≡ vs → DeclaratorOf x us → DeclaratorOf x vs
same_declarator x us vs e d = let P : List Terminal → Type 0 = λ l. DeclaratorOf x l in subst P e d

behind_named_sound : (s : List Frame) (x : Option (Built DeclaratorTree)) (ts us vs : List Terminal) → Stacked s us → DeclaratorOf x vs → ts ≡ us ++ vs → (t : Terminal) (y : Symbol) → Is t y
    → OnStep (behind_named (first s) y x (drop 1 s)) ts t
behind_named_sound [] x ts us vs st d all t y e = same_declarator x vs ts (sym (all ∙ ap (λ l. l ++ vs) st)) d
behind_named_sound (f ∷ s) x ts us vs st d all t CloseParen e = named_closed_sound f x s ts us vs st d all t e
behind_named_sound (f ∷ s) x ts us vs st d all t (Binary Comma) e = named_divided_sound f x s ts us vs st d all t e
behind_named_sound (f ∷ s) x ts us vs st d all t _ e = tt

-- behind `*`
front_unnamed : {stars : Option Stars} {ts : List Terminal} → IsFront stars ts → UnnamedOf (stars_of (count_of stars)) (is_none stars) ts
front_unnamed no_front = record { tree = expr.Stars 0; height = stars_height 0; is = abstract.stars no_star; kept = stars_cut 0; nothing = refl }
front_unnamed (front t {n} k) = record { tree = expr.Stars (suc n); height = stars_height (suc n); is = abstract.stars k; kept = stars_cut (suc n); nothing = not_zero n (nat_eq (suc n) 0) refl }

-- `int` behind `unsigned`
record OneUnsigned (ts : List Terminal) : Type 0 where
  word : Terminal
  is : Is word (Word a_word.Unsigned)
  all : ts ≡ word ∷ []

unsigned_word : (t : Terminal) (w : TypeWord) → Is t (Word w) → spec_of w ≡ Unsigned → OneUnsigned (t ∷ [])
unsigned_word t a_word.Char e k = cc
unsigned_word t a_word.Int e k = cc
unsigned_word t a_word.Unsigned e k = record { word = t; is = e; all = refl }
unsigned_word t a_word.Void e k = cc

unsigned_spec : {base : Spec} {ts : List Terminal} → IsSpec base ts → base ≡ Unsigned → OneUnsigned ts
unsigned_spec (one_word t w e) k = unsigned_word t w e k
unsigned_spec (unsigned_int t i e e') k = cc
unsigned_spec (tagged t n e e') k = cc

pub int_behind : {base : Spec} {ts : List Terminal} → IsSpec base ts → base ≡ Unsigned → (t : Terminal) → Is t (Word a_word.Int) → IsSpec UnsignedInt (ts ++ t ∷ [])
int_behind d k t e =
    let u = unsigned_spec d k in
    let P : List Terminal → Type 0 = λ l. IsSpec UnsignedInt (l ++ t ∷ []) in
    subst P (sym u.all) (unsigned_int u.word t u.is e)

word_opens : {f : Taking} {at : Place} {r : Bool} {base : Spec} {ws : List Terminal} → Opens (Parameter f at r base) ws → base ≡ Unsigned → (t : Terminal) → Is t (Word a_word.Int) → Opens (Parameter f at r UnsignedInt) (ws ++ t ∷ [])
word_opens (opens_parameter f at r base {us} {xs} {ys} d rd sd p) k t e =
    let P : List Terminal → Type 0 = λ l. Opens (Parameter f at r UnsignedInt) l in
    let Q : List Terminal → Type 0 = λ l. first_place l ≡ Some at in
    subst P (ap (λ l. us ++ l) (sym (append_assoc xs ys (t ∷ []))) ∙ sym (append_assoc us (xs ++ ys) (t ∷ [])))
    (opens_parameter f at r UnsignedInt d rd (int_behind sd k t e) (subst Q (append_assoc xs ys (t ∷ [])) (place_front (xs ++ ys) (t ∷ []) at p)))

spec_sound : (base : Spec) (f : Taking) (at : Place) (r : Bool) (s : List Frame) (ts us ws : List Terminal) → Stacked s us → Opens (Parameter f at r base) ws → ts ≡ us ++ ws → (t : Terminal) → Is t (Word a_word.Int)
    → OnStep (spec_is (both_words base) f at r s) ts t
spec_sound Unsigned f at r s ts us ws st o all t e = frame_holds (Parameter f at r UnsignedInt) s (ts ++ t ∷ []) us (ws ++ t ∷ []) st (word_opens o refl t e) (two t ts us ws all)
spec_sound _ f at r s ts us ws st o all t e = tt

worded_sound : (s : List Frame) (ts : List Terminal) → Stacked s ts → (t : Terminal) → Is t (Word a_word.Int) → OnStep (worded (first s) (drop 1 s)) ts t
worded_sound [] ts st t e = tt
worded_sound (Nest stars at b ∷ s) ts st t e = tt
worded_sound (Parameter f at r base ∷ s) ts (us, ws, st, o, all) t e = spec_sound base f at r s ts us ws st o all t e

fronting_sound : (s : List Frame) (stars : Option Stars) (ts : List Terminal) → HoldsIn (Front stars) s ts → (t : Terminal) (y : Symbol) → Is t y → OnStep (fronting s stars y t.place t.text) ts t
fronting_sound s stars ts (us, vs, st, fr, all) t (Binary Multiply) e = (us, vs ++ t ∷ [], st, one_more_star fr t e, two t ts us vs all)
fronting_sound s stars ts (us, vs, st, fr, all) t (Leaf Name) e =
    (us, vs, t ∷ [], st, fr, record { tree = tree.Name t.place t.text; height = 1; is = g.name t e; kept = taller_cut 0 (tree.Name t.place t.text) }, two t ts us vs all)
fronting_sound s stars ts (us, vs, st, fr, all) t OpenParen e =
    frame_holds (Nest stars t.place (may_be_unnamed (first s))) s (ts ++ t ∷ []) us (vs ++ t ∷ []) st (opens_nest t stars (may_be_unnamed (first s)) fr e) (two t ts us vs all)
fronting_sound s stars ts (us, vs, st, fr, all) t OpenBracket e =
    guard (may_be_unnamed (first s)) (goes (Bounding (before.Unnamed (stars_of (count_of stars)))) s) ts t
    (λ yes. (us, vs ++ t ∷ [], st, opened_unnamed t (stars_of (count_of stars)) (front_unnamed fr) e, two t ts us vs all))
fronting_sound s stars ts (us, vs, st, fr, all) t (Word a_word.Int) e =
    guard (is_none stars) (worded (first s) (drop 1 s)) ts t
    (λ yes. let P : List Terminal → Type 0 = λ l. Stacked s l in worded_sound s ts (subst P (sym (all ∙ ap (λ l. us ++ l) (no_tokens fr yes) ∙ append-nil us)) st) t e)
fronting_sound s stars ts (us, vs, st, fr, all) t y e = behind_unnamed_sound s (is_none stars) (stars_of (count_of stars)) ts us vs st (front_unnamed fr) all t y e

directing_sound : (s : List Frame) (stars : Option Stars) (x : Option (Built DeclaratorTree)) (ts : List Terminal) → HoldsIn (Direct stars x) s ts → (t : Terminal) (y : Symbol) → Is t y → OnStep (directing s stars x y) ts t
directing_sound s stars x ts (us, vs, ws, st, fr, d, all) t OpenBracket e = (us, vs ++ (ws ++ t ∷ []), st, opened_named t stars x fr d e, three t ts us vs ws all)
directing_sound s stars x ts (us, vs, ws, st, fr, d, all) t OpenParen e = (
  us,
  vs ++ (ws ++ t ∷ []),
  st,
  record { us = vs; vs = ws ++ t ∷ []; front_is = fr; begun = none_yet t (function_of x) d.is e (ap function_of d.kept ∙ grow_cut function_at d.tree d.height); all = refl },
  three t ts us vs ws all,
)
directing_sound s stars x ts (us, vs, ws, st, fr, d, all) t y e = behind_named_sound s (pointed stars x) ts us (vs ++ ws) st (behind_stars x fr d) all t y e

unnaming_sound : (s : List Frame) (a : Option (Built Tree)) (ts : List Terminal) → HoldsIn (Unnamed a) s ts → (t : Terminal) (y : Symbol) → Is t y → OnStep (unnaming s a y) ts t
unnaming_sound s a ts (us, vs, st, d, all) t OpenBracket e = (us, vs ++ t ∷ [], st, opened_unnamed t a d e, two t ts us vs all)
unnaming_sound s a ts (us, vs, st, d, all) t y e = behind_unnamed_sound s false a ts us vs st d all t y e

-- bounds
unbounded_sound : (b : Bounded) (s : List Frame) (ts us vs : List Terminal) → Stacked s us → Opened b vs → ts ≡ us ++ vs → (t : Terminal) → Is t CloseBracket → OnStep (unbounded b s) ts t
unbounded_sound b s ts us vs st (opened_named o stars d {xs} {ys} fr dd oe) all t e = (
  us,
  xs,
  ys ++ o ∷ t ∷ [],
  st,
  fr,
  record { tree = open_array_at dd.tree; height = suc dd.height; is = g.open_array o t dd.is oe e; kept = ap open_array_of dd.kept ∙ grow_cut open_array_at dd.tree dd.height },
  three t ts us xs (ys ++ o ∷ []) all ∙ ap (λ l. us ++ (xs ++ l)) (append_assoc ys (o ∷ []) (t ∷ [])),
)
unbounded_sound b s ts us vs st (opened_unnamed o a {n} {xs} dd oe) all t e = (
  us,
  xs ++ o ∷ t ∷ [],
  st,
  record { tree = expr.Unbounded dd.tree; height = max dd.height 2; is = abstract.unbounded o t dd.is oe e; kept = ap unbounded_of dd.kept ∙ unbounded_cut dd.tree dd.height; nothing = refl },
  two t ts us (xs ++ o ∷ []) all ∙ ap (λ l. us ++ l) (append_assoc xs (o ∷ []) (t ∷ [])),
)

bounded_sound : (b : Bounded) (s : List Frame) (ts us vs ws : List Terminal) → Stacked s us → Opened b vs → ts ≡ us ++ (vs ++ ws) → (x : Option (Built Tree)) (e : Tree) (at : Place) (h : ℕ) → IsExpr 3 e at h ws → x ≡ cut e h
    → (t : Terminal) → Is t CloseBracket → OnStep (bounded b x s) ts t
bounded_sound b s ts us vs ws st (opened_named o stars d {xs} {ys} fr dd oe) all x e at h de k t te = (
  us,
  xs,
  ys ++ o ∷ (ws ++ t ∷ []),
  st,
  fr,
  record {
    tree = array_at dd.tree e;
    height = suc (max dd.height h);
    is = g.array o t dd.is oe de te;
    kept = ap (λ v. array_of v x) dd.kept ∙ ap (array_of (cut dd.tree dd.height)) k ∙ grow_two_cut array_at dd.tree e dd.height h;
  },
  three t ts us (xs ++ (ys ++ o ∷ [])) ws all ∙ ap (λ l. us ++ l) (append_assoc xs (ys ++ o ∷ []) (ws ++ t ∷ []) ∙ ap (λ l. xs ++ l) (append_assoc ys (o ∷ []) (ws ++ t ∷ []))),
)
bounded_sound b s ts us vs ws st (opened_unnamed o a {n} {xs} dd oe) all x e at h de k t te = (
  us,
  xs ++ o ∷ (ws ++ t ∷ []),
  st,
  record {
    tree = expr.Bounded dd.tree e;
    height = max dd.height (h + 1);
    is = abstract.bounded o t dd.is oe de te;
    kept = ap (λ v. bounded_of v x) dd.kept ∙ ap (bounded_of (cut dd.tree dd.height)) k ∙ grow_list_cut 64 1 refl expr.Bounded dd.tree e dd.height h;
    nothing = refl;
  },
  three t ts us (xs ++ o ∷ []) ws all ∙ ap (λ l. us ++ l) (append_assoc xs (o ∷ []) (ws ++ t ∷ [])),
)

read_sound : (b : Bounded) (p : Parser) (gr : Grown) (s : List Frame) (ts : List Terminal) → HoldsIn (Bound b p) s ts → (t : Terminal) → offer Constant p t ≡ Some (offered.Ends gr) → (y : Symbol) → Is t y → OnStep (bound_read s b y gr) ts t
read_sound b p gr s ts (us, vs, ws, st, o, fed, all) t k CloseBracket e =
    let d = expr_is Constant ws t p gr fed k in
    bounded_sound b s ts us vs ws st o all (expr_of gr.tree) d.0 gr.place d.1 d.2 (ap expr_of d.3 ∙ expr_cut d.0 d.1) t e
read_sound b p gr s ts d t k _ e = tt

offered_sound : (b : Bounded) (p : Parser) (s : List Frame) (ts : List Terminal) → HoldsIn (Bound b p) s ts → (t : Terminal) (o : Option Offered) → offer Constant p t ≡ o → OnStep (bound_offered s b t.symbol o) ts t
offered_sound b p s ts d t None k = tt
offered_sound b p s ts (us, vs, ws, st, o, fed, all) t (Some (offered.Goes q)) k = (us, vs, ws ++ t ∷ [], st, o, expr_goes Constant ws t p q fed k, three t ts us vs ws all)
offered_sound b p s ts d t (Some (offered.Ends gr)) k = read_sound b p gr s ts d t k t.symbol refl

bounding_by_sound : (b : Bounded) (p : Parser) (s : List Frame) (ts : List Terminal) → HoldsIn (Bound b p) s ts → (t : Terminal) → OnStep (bounding_by s b p t) ts t
bounding_by_sound b p s ts d t = offered_sound b p s ts d t (offer Constant p t) refl

bounding_sound : (b : Bounded) (s : List Frame) (ts : List Terminal) → HoldsIn (Bounding b) s ts → (t : Terminal) → OnStep (bounding s b t) ts t
bounding_sound b s ts (us, vs, st, o, all) t =
    either (is_bracket t.symbol) (unbounded b s) (bounding_by s b (start Constant) t) ts t
    (λ yes. unbounded_sound b s ts us vs st o all t (bracket t.symbol yes))
    (λ never. bounding_by_sound b (start Constant) s ts (us, vs, [], st, o, refl, all ∙ ap (λ l. us ++ l) (sym (append-nil vs))) t)

mode_sound : (mode : Mode) (s : List Frame) (ts : List Terminal) → HoldsIn mode s ts → (t : Terminal) → OnStep (shift_mode mode s t) ts t
mode_sound (Front stars) s ts d t = fronting_sound s stars ts d t t.symbol refl
mode_sound (Direct stars x) s ts d t = directing_sound s stars x ts d t t.symbol refl
mode_sound (Unnamed a) s ts d t = unnaming_sound s a ts d t t.symbol refl
mode_sound (Bounding b) s ts d t = bounding_sound b s ts d t
mode_sound (Bound b p) s ts d t = bounding_by_sound b p s ts d t
mode_sound (Parameters f) s ts d t = parameters_sound f s ts d t t.symbol refl
mode_sound (Registered f at) s ts d t = registered_sound f at s ts d t t.symbol refl
mode_sound (Tagging f at r) s ts d t = tagging_sound f at r s ts d t t.symbol refl

step_sound : (p : DeclaratorParser) (t : Terminal) (ts : List Terminal) → Holds p ts → OnStep (declarator_offer p t) ts t
step_sound p t ts d = mode_sound p.mode p.stack ts d t

goes_kept : (p : DeclaratorParser) (t : Terminal) (ts : List Terminal) → Holds p ts → (q : DeclaratorParser) → declarator_offer p t ≡ Some (Goes q) → Holds q (ts ++ t ∷ [])
goes_kept p t ts d q e = let P : Next → Type 0 = λ o. OnStep o ts t in subst P e (step_sound p t ts d)

ends_kept : (p : DeclaratorParser) (t : Terminal) (ts : List Terminal) → Holds p ts → (x : Option (Built DeclaratorTree)) → declarator_offer p t ≡ Some (Ends x) → DeclaratorOf x ts
ends_kept p t ts d x e = let P : Next → Type 0 = λ o. OnStep o ts t in subst P e (step_sound p t ts d)

-- what is read up to a token is a declarator
pub declarator_of : (ts : List Terminal) (t : Terminal) (q : DeclaratorParser) (x : Option (Built DeclaratorTree)) → feed declarator_offer ts (Goes declarator_start) ≡ Some (Goes q) → declarator_offer q t ≡ Some (Ends x) → DeclaratorOf x ts
declarator_of ts t q x e k = ends_kept q t ts (steps_kept declarator_offer Holds goes_kept ts [] declarator_start q ([], [], refl, no_front, refl) e) x k

pub declarator_is : DeclaratorIs
declarator_is ts t x e =
    let r = ended declarator_offer ts t declarator_start x e in
    let d = declarator_of ts t r.now x r.goes r.ends in
    (d.tree, d.height, d.is, d.kept)
