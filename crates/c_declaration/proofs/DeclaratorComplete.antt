-- Where tokens are a declarator, they are read, whatever stands around it.
use Rattle.std.proofs.Common.{◌≡◌, ℕ, suc, ◌+◌, max, Bool, true, false, nat_eq, ◌&&◌, List, [], ◌∷◌, ◌++◌, length, Option, Some, None, refl, sym, ◌∙◌, ap, ap₂, subst, append_assoc, append-nil, add-one, arith}
use Rattle.std.proofs.lemmas.Bool.{eqb-true}
use Rattle.std.specs.Prelude.{if◌then◌else◌, drop}
use Rattle.c_lex.specs.declared.token.Place.{Place}
use Rattle.c_lex.specs.declared.keyword.Keyword.TheVariants.{Register}
use Rattle.c_symbol.specs.declared.terminal.Terminal.{Terminal}
use Rattle.c_symbol.specs.declared.symbol.LeafKind.TheVariants.{Name}
use Rattle.c_symbol.specs.declared.symbol.BinaryOp.TheVariants.{Comma, Multiply}
use Rattle.c_symbol.specs.declared.symbol.TypeWord.{TypeWord}
use Rattle.c_symbol.specs.declared.symbol.TypeWord.TheVariants as a_word
use Rattle.c_symbol.specs.declared.symbol.Symbol.{Symbol}
use Rattle.c_symbol.specs.declared.symbol.Symbol.TheVariants.{Leaf, Word, Binary, Keyword, Struct as StructWord, OpenParen, CloseParen, OpenBracket, CloseBracket}
use Rattle.c_expr.specs.First.{first}
use Rattle.c_expr.specs.Machine.{start}
use Rattle.c_expr.specs.Inside.{offer}
use Rattle.c_trees.specs.Expressions.{Tree}
use Rattle.c_trees.specs.Expressions as expr
use Rattle.c_expr.specs.Grown as expr_grown
use Rattle.c_expr.specs.Grammar.{AreStars, no_star, star, spec_of, stars_height, is_nothing, IsSpec, one_word, unsigned_int, tagged, IsExpr, IsAbstract}
use Rattle.c_expr.specs.Grammar as abstract
use Rattle.c_expr.specs.declared.frame.Least.TheVariants.{Constant}
use Rattle.c_expr.specs.declared.inside.Offered.{Offered}
use Rattle.c_expr.specs.declared.inside.Offered.TheVariants as offered
use Rattle.c_expr.specs.declared.state.Parser.{Parser}
use Rattle.c_expr.specs.declared.grown.Grown.{Grown}
use Rattle.c_trees.specs.declared.expression.Spec.{Spec}
use Rattle.c_trees.specs.declared.expression.Spec.TheVariants.{Unsigned, UnsignedInt, Void, Struct}
use Rattle.c_trees.specs.Declarators.{DeclaratorTree, begins}
use Rattle.c_trees.specs.Declarators as tree
use Rattle.c_declaration.specs.declared.built.Built.{Built}
use Rattle.c_declaration.specs.declared.front.Stars.{Stars}
use Rattle.c_declaration.specs.declared.state.Taking.{Taking}
use Rattle.c_declaration.specs.declared.state.Frame.{Frame}
use Rattle.c_declaration.specs.declared.state.Frame.TheVariants.{Nest, Parameter}
use Rattle.c_declaration.specs.declared.state.Bounded.{Bounded}
use Rattle.c_declaration.specs.declared.state.Bounded.TheVariants as before
use Rattle.c_declaration.specs.declared.state.Mode.{Mode}
use Rattle.c_declaration.specs.declared.state.Mode.TheVariants.{Front, Direct, Unnamed, Bounding, Bound, Parameters, Registered, Tagging}
use Rattle.c_declaration.specs.declared.state.DeclaratorParser.{DeclaratorParser}
use Rattle.c_declaration.specs.declared.step.Step.{Step}
use Rattle.c_declaration.specs.declared.step.Step.TheVariants.{Goes, Ends}
use Rattle.c_declaration.specs.Feeding.{feed}
use Rattle.c_declaration.specs.Grown.{cut, grow_list, expr_of, name_of, parens_of, array_at, array_of, open_array_at, open_array_of, function_at, function_of, taking_of, pointed, named_of, unnamed_of, stars_of, around_of, bounded_of, unbounded_of}
use Rattle.c_declaration.specs.Grammar.{Is, first_place, IsRegister, unmarked, marked, is_void_type, is_void, takes_void, IsDirect, name, parens, array, open_array, no_parameters, void_parameters, parameters, IsDeclarator, direct, pointers, AreParameters, first_parameter, next_parameter, IsParameter, named, unnamed}
use Rattle.c_declaration.specs.DeclaratorReading.{Next, goes, starred, count_of, is_none, may_be_unnamed, taken, called, behind_named, void_alone, unnamed_closed, unnamed_divided, behind_unnamed, fronting, directing, unnaming, bound_offered, bound_read, bounding_by, is_bracket, bounding, typed, tagging, declarator_offer, declarator_start}
use Rattle.c_declaration.specs.DeclaratorReading as reading
use Rattle.c_declaration.specs.Laws.{goes_on, DeclaratorEnds}
use Rattle.c_declaration.proofs.Pieces.{if_true, if_false, taller_cut, grow_cut, grow_two_cut, grow_list_cut, expr_cut, pointers_cut, unnamed_cut, stars_cut, around_cut, unbounded_cut}
use Rattle.c_declaration.proofs.Fed.{onward, one_step, then_step, inside}
use Rattle.c_declaration.proofs.Expressions.{as_step, expr_offer, Read, ReadExpr, expr_ends}

abbrev pub at_mode : Mode → List Frame → DeclaratorParser
at_mode mode s = record { stack = s; mode = mode }

abbrev pub run : List Terminal → Mode → List Frame → Next
run ts mode s = feed declarator_offer ts (Goes (at_mode mode s))

true_false : true ≡ false → ⊥
true_false e = cc

-- one token in each mode
front_step : (stars : Option Stars) (s : List Frame) (t : Terminal) (ts : List Terminal) (y : Symbol) (next : Mode) (s' : List Frame)
    → Is t y → fronting s stars y t.place t.text ≡ goes next s' → run (t ∷ ts) (Front stars) s ≡ run ts next s'
front_step stars s t ts y next s' e k = one_step declarator_offer (at_mode (Front stars) s) t ts (goes next s') (ap (λ v. fronting s stars v t.place t.text) e ∙ k)

direct_step : (stars : Option Stars) (d : Option (Built DeclaratorTree)) (s : List Frame) (t : Terminal) (ts : List Terminal) (y : Symbol) (next : Mode) (s' : List Frame)
    → Is t y → directing s stars d y ≡ goes next s' → run (t ∷ ts) (Direct stars d) s ≡ run ts next s'
direct_step stars d s t ts y next s' e k = one_step declarator_offer (at_mode (Direct stars d) s) t ts (goes next s') (ap (λ v. directing s stars d v) e ∙ k)

parameters_step : (f : Taking) (s : List Frame) (t : Terminal) (ts : List Terminal) (y : Symbol) (next : Mode) (s' : List Frame)
    → Is t y → reading.parameters s f y t.place ≡ goes next s' → run (t ∷ ts) (Parameters f) s ≡ run ts next s'
parameters_step f s t ts y next s' e k = one_step declarator_offer (at_mode (Parameters f) s) t ts (goes next s') (ap (λ v. reading.parameters s f v t.place) e ∙ k)

registered_step : (f : Taking) (at : Place) (s : List Frame) (t : Terminal) (ts : List Terminal) (y : Symbol) (next : Mode) (s' : List Frame)
    → Is t y → typed s f at true y ≡ goes next s' → run (t ∷ ts) (Registered f at) s ≡ run ts next s'
registered_step f at s t ts y next s' e k = one_step declarator_offer (at_mode (Registered f at) s) t ts (goes next s') (ap (λ v. typed s f at true v) e ∙ k)

tagging_step : (f : Taking) (at : Place) (r : Bool) (s : List Frame) (t : Terminal) (ts : List Terminal) (y : Symbol) (next : Mode) (s' : List Frame)
    → Is t y → tagging s f at r y t.text ≡ goes next s' → run (t ∷ ts) (Tagging f at r) s ≡ run ts next s'
tagging_step f at r s t ts y next s' e k = one_step declarator_offer (at_mode (Tagging f at r) s) t ts (goes next s') (ap (λ v. tagging s f at r v t.text) e ∙ k)

-- `*`
abbrev pub front_of : List Terminal → Option Stars
front_of [] = None
front_of (t ∷ ts) = Some (record { place = t.place; count = length (t ∷ ts) })

pub one_more : (us : List Terminal) (t : Terminal) → length (us ++ t ∷ []) ≡ suc (length us)
one_more [] t = refl
one_more (u ∷ us) t = ap suc (one_more us t)

starred_front : (ts : List Terminal) (t : Terminal) → starred (front_of ts) t.place ≡ front_of (ts ++ t ∷ [])
starred_front [] t = refl
starred_front (u ∷ us) t = let make : ℕ → Option Stars = λ n. Some (record { place = u.place; count = n }) in ap make (add-one (length (u ∷ us)) ∙ sym (one_more (u ∷ us) t))

pub stars_count : {n : ℕ} {ts : List Terminal} → AreStars n ts → length ts ≡ n
stars_count no_star = refl
stars_count (star {n} {ts} t d e) = one_more ts t ∙ ap suc (stars_count d)

count_front : (ts : List Terminal) → count_of (front_of ts) ≡ length ts
count_front [] = refl
count_front (t ∷ ts) = refl

pub not_zero : (n : ℕ) (b : Bool) → nat_eq (suc n) 0 ≡ b → nat_eq (suc n) 0 ≡ false
not_zero n true e = absurd (omega (arith, eqb-true (suc n) 0 e))
not_zero n false e = e

none_front : (ts : List Terminal) → is_none (front_of ts) ≡ nat_eq (length ts) 0
none_front [] = refl
none_front (t ∷ ts) = sym (not_zero (length ts) (nat_eq (suc (length ts)) 0) refl)

stars_run : {n : ℕ} {ts : List Terminal} → AreStars n ts → (s : List Frame) (rest : List Terminal) → run (ts ++ rest) (Front None) s ≡ run rest (Front (front_of ts)) s
stars_run no_star s rest = refl
stars_run (star {n} {ts} t d e) s rest =
    ap (λ l. run l (Front None) s) (append_assoc ts (t ∷ []) rest)
    ∙ stars_run d s (t ∷ rest)
    ∙ front_step (front_of ts) s t rest (Binary Multiply) (Front (starred (front_of ts) t.place)) s e refl
    ∙ ap (λ k. run rest (Front k) s) (starred_front ts t)

-- bounds
pub bracket : (y : Symbol) → is_bracket y ≡ true → y ≡ CloseBracket
bracket CloseBracket e = refl
bracket _ e = absurd (true_false (sym e))

no_bound : (t : Terminal) → Is t CloseBracket → offer Constant (start Constant) t ≡ None
no_bound t e = let at : Symbol → Option Offered = λ y. offer Constant (start Constant) (record { symbol = y; place = t.place; text = t.text }) in ap at e

no_offer : (o : Option Offered) (r : Parser) → o ≡ None → as_step o ≡ Some (Goes r) → ⊥
no_offer None r e k = cc
no_offer (Some a) r e k = cc

no_end : (o : Option Offered) (g : Grown) → o ≡ None → o ≡ Some (offered.Ends g) → ⊥
no_end o g e k = cc

goes_as : (o : Option Offered) (r : Parser) → as_step o ≡ Some (Goes r) → o ≡ Some (offered.Goes r)
goes_as None r e = cc
goes_as (Some (offered.Goes q)) r e = cc
goes_as (Some (offered.Ends g)) r e = cc

pub bound_inside : (b : Bounded) (s : List Frame) (p : Parser) (t : Terminal) (r : Parser) → expr_offer Constant p t ≡ Some (Goes r) → declarator_offer (at_mode (Bound b p) s) t ≡ goes (Bound b r) s
bound_inside b s p t r e = ap (bound_offered s b t.symbol) (goes_as (offer Constant p t) r e)

abbrev bounding_at : Bounded → List Frame → Terminal → Bool → Next
bounding_at b s t v = if v then reading.unbounded b s else bounding_by s b (start Constant) t

-- a bound begins with a token that is no ]
pub bound_begins : (b : Bounded) (s : List Frame) (t : Terminal) (ts : List Terminal) → is_bracket t.symbol ≡ false → run (t ∷ ts) (Bounding b) s ≡ run (t ∷ ts) (Bound b (start Constant)) s
bound_begins b s t ts e = ap (λ v. onward declarator_offer ts (bounding_at b s t v)) e

starts_bound : (t : Terminal) (b : Bool) → is_bracket t.symbol ≡ b → (is_bracket t.symbol ≡ true → ⊥) → is_bracket t.symbol ≡ false
starts_bound t true e never = absurd (never e)
starts_bound t false e never = e

goes_first : (t : Terminal) (ts : List Terminal) (q : Parser) (o : Option Offered) → o ≡ None → onward (expr_offer Constant) ts (as_step o) ≡ Some (Goes q) → ⊥
goes_first t ts q None e k = cc
goes_first t ts q (Some a) e k = cc

bound_first : (b : Bounded) (s : List Frame) (vs : List Terminal) (c : Terminal) (rest : List Terminal) (g : Grown) → Is c CloseBracket → Read Constant vs c (start Constant) g
    → run (vs ++ c ∷ rest) (Bounding b) s ≡ run (vs ++ c ∷ rest) (Bound b (start Constant)) s
bound_first b s [] c rest g ce r =
    let same : start Constant ≡ r.now = cc in
    absurd (no_end (offer Constant (start Constant) c) g (no_bound c ce) (ap (λ p. offer Constant p c) same ∙ r.ends))
bound_first b s (v ∷ vs) c rest g ce r =
    bound_begins b s v (vs ++ c ∷ rest) (starts_bound v (is_bracket v.symbol) refl (λ y. goes_first v vs r.now (offer Constant (start Constant) v) (no_bound v (bracket v.symbol y)) r.goes))

closes_bound : (c : Terminal) → Is c CloseBracket → Rattle.c_expr.specs.Inside.closes Constant c.symbol ≡ true
closes_bound c e = ap (Rattle.c_expr.specs.Inside.closes Constant) e

bound_run : {e : Tree} {at : Place} {n : ℕ} {vs : List Terminal} → IsExpr 3 e at n vs → (c : Terminal) → Is c CloseBracket → (b : Bounded) (s : List Frame) (rest : List Terminal)
    → run (vs ++ c ∷ rest) (Bounding b) s ≡ onward declarator_offer rest (reading.bounded b (cut e n) s)
bound_run {e} {at} {n} {vs} d c ce b s rest =
    let r = expr_ends Constant d c (closes_bound c ce) in
    let q = r.read.now in
    let g = r.grown in
    bound_first b s vs c rest g ce r.read
    ∙ then_step declarator_offer vs (c ∷ rest) (Goes (at_mode (Bound b (start Constant)) s)) (goes (Bound b q) s)
    (inside (expr_offer Constant) declarator_offer (λ p. at_mode (Bound b p) s) (bound_inside b s) vs (start Constant) q r.read.goes)
    ∙ one_step declarator_offer (at_mode (Bound b q) s) c rest (reading.bounded b (cut e n) s)
    (ap (bound_offered s b c.symbol) r.read.ends
    ∙ ap (λ y. bound_read s b y g) ce
    ∙ ap (λ v. reading.bounded b (expr_of v) s) r.tree
    ∙ ap (λ v. reading.bounded b v s) (expr_cut e n))

abbrev unbounding : Bounded → List Frame → Terminal → Symbol → Next
unbounding b s c y = if is_bracket y then reading.unbounded b s else bounding_by s b (start Constant) c

open_run : (b : Bounded) (s : List Frame) (c : Terminal) (rest : List Terminal) → Is c CloseBracket → run (c ∷ rest) (Bounding b) s ≡ onward declarator_offer rest (reading.unbounded b s)
open_run b s c rest e = one_step declarator_offer (at_mode (Bounding b) s) c rest (reading.unbounded b s) (ap (unbounding b s c) e)

-- a parameter's type
same_place : (at at' : Place) → Some at ≡ Some at' → at ≡ at'
same_place at at' e = cc

abbrev frame_at : Taking → Bool → Spec → Place → Frame
frame_at f r spec at = Parameter f at r spec

-- the first word of a type, and what follows
type_run : {spec : Spec} {vs : List Terminal} → IsSpec spec vs → (f : Taking) (at : Place) (r : Bool) (s : List Frame) (rest : List Terminal) (mode : Mode)
    → ((t : Terminal) (ts : List Terminal) (w : TypeWord) → first_place vs ≡ Some t.place → Is t (Word w) → run (t ∷ ts) mode s ≡ run ts (Front None) (Parameter f at r (spec_of w) ∷ s))
    → ((t : Terminal) (ts : List Terminal) → first_place vs ≡ Some t.place → Is t StructWord → run (t ∷ ts) mode s ≡ run ts (Tagging f at r) s)
    → run (vs ++ rest) mode s ≡ run rest (Front None) (Parameter f at r spec ∷ s)
type_run (one_word t w e) f at r s rest mode word tag = word t rest w refl e
type_run (unsigned_int t i e e') f at r s rest mode word tag =
    word t (i ∷ rest) a_word.Unsigned refl e ∙ front_step None (Parameter f at r Unsigned ∷ s) i rest (Word a_word.Int) (Front None) (Parameter f at r UnsignedInt ∷ s) e' refl
type_run (tagged t n e e') f at r s rest mode word tag =
    tag t (n ∷ rest) refl e ∙ tagging_step f at r s n rest (Leaf Name) (Front None) (Parameter f at r (Struct n.text) ∷ s) e' refl

registered_run : {spec : Spec} {vs : List Terminal} → IsSpec spec vs → (f : Taking) (at : Place) (s : List Frame) (rest : List Terminal) → run (vs ++ rest) (Registered f at) s ≡ run rest (Front None) (Parameter f at true spec ∷ s)
registered_run d f at s rest =
    type_run d f at true s rest (Registered f at)
    (λ t ts w p e. registered_step f at s t ts (Word w) (Front None) (Parameter f at true (spec_of w) ∷ s) e refl)
    (λ t ts p e. registered_step f at s t ts StructWord (Tagging f at true) s e refl)

plain_run : {spec : Spec} {vs : List Terminal} → IsSpec spec vs → (f : Taking) (at : Place) → first_place vs ≡ Some at → (s : List Frame) (rest : List Terminal)
    → run (vs ++ rest) (Parameters f) s ≡ run rest (Front None) (Parameter f at false spec ∷ s)
plain_run d f at first_is s rest =
    type_run d f at false s rest (Parameters f)
    (λ t ts w p e. parameters_step f s t ts (Word w) (Front None) (Parameter f t.place false (spec_of w) ∷ s) e refl ∙ ap (λ x. run ts (Front None) (Parameter f x false (spec_of w) ∷ s)) (same_place t.place at (sym p ∙ first_is)))
    (λ t ts p e. parameters_step f s t ts StructWord (Tagging f t.place false) s e refl ∙ ap (λ x. run ts (Tagging f x false) s) (same_place t.place at (sym p ∙ first_is)))

parameter_run : {r : Bool} {spec : Spec} {us vs : List Terminal} → IsRegister r us → IsSpec spec vs → (f : Taking) (at : Place) → first_place (us ++ vs) ≡ Some at → (s : List Frame) (rest : List Terminal)
    → run (us ++ (vs ++ rest)) (Parameters f) s ≡ run rest (Front None) (Parameter f at r spec ∷ s)
parameter_run unmarked d f at first_is s rest = plain_run d f at first_is s rest
parameter_run {r} {spec} {us} {vs} (marked t e) d f at first_is s rest =
    parameters_step f s t (vs ++ rest) (Keyword Register) (Registered f t.place) s e refl
    ∙ registered_run d f t.place s rest
    ∙ ap (λ x. run rest (Front None) (Parameter f x true spec ∷ s)) (same_place t.place at first_is)

-- declarators without a name
abbrev pub unnamed_at : Tree → ℕ → List Terminal → Mode
unnamed_at (expr.Stars n) m ts = Front (front_of ts)
unnamed_at a m ts = Unnamed (cut a m)

abbrev behind : Mode → List Frame → Symbol → Terminal → Next
behind mode s y t = declarator_offer (at_mode mode s) (record { symbol = y; place = t.place; text = t.text })

behind_front : {n : ℕ} {ts : List Terminal} → AreStars n ts → (f : Frame) (y : Symbol) (s : List Frame)
    → behind_unnamed (Some f) y (is_none (front_of ts)) (stars_of (count_of (front_of ts))) s ≡ behind_unnamed (Some f) y (nat_eq n 0) (cut (expr.Stars n) (stars_height n)) s
behind_front {n} {ts} k f y s =
    ap₂ (λ b a. behind_unnamed (Some f) y b a s)
    (none_front ts ∙ ap (λ i. nat_eq i 0) (stars_count k))
    (ap stars_of (count_front ts ∙ stars_count k) ∙ stars_cut n)

pub closes_unnamed : {a : Tree} {m : ℕ} {ts : List Terminal} → IsAbstract a m ts → (f : Frame) (s : List Frame) (c : Terminal) → Is c CloseParen
    → declarator_offer (at_mode (unnamed_at a m ts) (f ∷ s)) c ≡ unnamed_closed f (is_nothing a) (cut a m) s
closes_unnamed {a} {m} {ts} (abstract.stars k) f s c e = ap (λ y. behind (Front (front_of ts)) (f ∷ s) y c) e ∙ behind_front k f CloseParen s
closes_unnamed {a} {m} {ts} (abstract.around o c' k oe d ne ce) f s c e = ap (λ y. behind (Unnamed (cut a m)) (f ∷ s) y c) e
closes_unnamed {a} {m} {ts} (abstract.bounded o c' d oe d' ce) f s c e = ap (λ y. behind (Unnamed (cut a m)) (f ∷ s) y c) e
closes_unnamed {a} {m} {ts} (abstract.unbounded o c' d oe ce) f s c e = ap (λ y. behind (Unnamed (cut a m)) (f ∷ s) y c) e

divides_unnamed : {a : Tree} {m : ℕ} {ts : List Terminal} → IsAbstract a m ts → (f : Frame) (s : List Frame) (t : Terminal) → Is t (Binary Comma)
    → declarator_offer (at_mode (unnamed_at a m ts) (f ∷ s)) t ≡ unnamed_divided f (cut a m) s
divides_unnamed {a} {m} {ts} (abstract.stars k) f s c e = ap (λ y. behind (Front (front_of ts)) (f ∷ s) y c) e ∙ behind_front k f (Binary Comma) s
divides_unnamed {a} {m} {ts} (abstract.around o c' k oe d ne ce) f s c e = ap (λ y. behind (Unnamed (cut a m)) (f ∷ s) y c) e
divides_unnamed {a} {m} {ts} (abstract.bounded o c' d oe d' ce) f s c e = ap (λ y. behind (Unnamed (cut a m)) (f ∷ s) y c) e
divides_unnamed {a} {m} {ts} (abstract.unbounded o c' d oe ce) f s c e = ap (λ y. behind (Unnamed (cut a m)) (f ∷ s) y c) e

open_unnamed : {a : Tree} {m : ℕ} {ts : List Terminal} → IsAbstract a m ts → (s : List Frame) → may_be_unnamed (first s) ≡ true → (t : Terminal) → Is t OpenBracket
    → declarator_offer (at_mode (unnamed_at a m ts) s) t ≡ goes (Bounding (before.Unnamed (cut a m))) s
open_unnamed {a} {m} {ts} (abstract.stars {n} k) s may c e =
    ap (λ y. behind (Front (front_of ts)) s y c) e
    ∙ if_true _ _ _ may
    ∙ ap (λ v. goes (Bounding (before.Unnamed v)) s) (ap stars_of (count_front ts ∙ stars_count k) ∙ stars_cut n)
open_unnamed {a} {m} {ts} (abstract.around o c' k oe d ne ce) s may c e = ap (λ y. behind (Unnamed (cut a m)) s y c) e
open_unnamed {a} {m} {ts} (abstract.bounded o c' d oe d' ce) s may c e = ap (λ y. behind (Unnamed (cut a m)) s y c) e
open_unnamed {a} {m} {ts} (abstract.unbounded o c' d oe ce) s may c e = ap (λ y. behind (Unnamed (cut a m)) s y c) e

nest_closed : (stars : Option Stars) (at : Place) (b none : Bool) (a : Option (Built Tree)) (s : List Frame) → b ≡ true → none ≡ false → unnamed_closed (Nest stars at b) none a s ≡ goes (Unnamed (around_of (count_of stars) a)) s
nest_closed stars at true false a s e k = refl
nest_closed stars at true true a s e k = absurd (true_false k)
nest_closed stars at false none a s e k = absurd (true_false (sym e))

reach_abstract : {a : Tree} {m : ℕ} {ts : List Terminal} → IsAbstract a m ts → (s : List Frame) → may_be_unnamed (first s) ≡ true → (rest : List Terminal)
    → run (ts ++ rest) (Front None) s ≡ run rest (unnamed_at a m ts) s
reach_abstract (abstract.stars k) s may rest = stars_run k s rest
reach_abstract (abstract.around o c {n} {d} {m} {us} {ts} k oe a ne ce) s may rest =
    let f = Nest (front_of us) o.place (may_be_unnamed (first s)) in
    ap (λ l. run l (Front None) s) (append_assoc us (o ∷ (ts ++ c ∷ [])) rest ∙ ap (λ l. us ++ o ∷ l) (append_assoc ts (c ∷ []) rest))
    ∙ stars_run k s (o ∷ (ts ++ c ∷ rest))
    ∙ front_step (front_of us) s o (ts ++ c ∷ rest) OpenParen (Front None) (f ∷ s) oe refl
    ∙ reach_abstract a (f ∷ s) may (c ∷ rest)
    ∙ one_step declarator_offer (at_mode (unnamed_at d m ts) (f ∷ s)) c rest (goes (Unnamed (cut (expr.Around n d) (max (stars_height n) (m + 1)))) s)
    (closes_unnamed a f s c ce
    ∙ nest_closed (front_of us) o.place (may_be_unnamed (first s)) (is_nothing d) (cut d m) s may ne
    ∙ ap (λ v. goes (Unnamed (around_of v (cut d m))) s) (count_front us ∙ stars_count k)
    ∙ ap (λ v. goes (Unnamed v) s) (around_cut n d m))
reach_abstract (abstract.bounded o c {d} {e} {at} {m} {h} {us} {vs} a oe d' ce) s may rest =
    ap (λ l. run l (Front None) s) (append_assoc us (o ∷ (vs ++ c ∷ [])) rest ∙ ap (λ l. us ++ o ∷ l) (append_assoc vs (c ∷ []) rest))
    ∙ reach_abstract a s may (o ∷ (vs ++ c ∷ rest))
    ∙ one_step declarator_offer (at_mode (unnamed_at d m us) s) o (vs ++ c ∷ rest) (goes (Bounding (before.Unnamed (cut d m))) s) (open_unnamed a s may o oe)
    ∙ bound_run d' c ce (before.Unnamed (cut d m)) s rest
    ∙ ap (λ v. run rest (Unnamed v) s) (grow_list_cut 64 1 refl expr.Bounded d e m h)
reach_abstract (abstract.unbounded o c {d} {m} {us} a oe ce) s may rest =
    ap (λ l. run l (Front None) s) (append_assoc us (o ∷ c ∷ []) rest)
    ∙ reach_abstract a s may (o ∷ c ∷ rest)
    ∙ one_step declarator_offer (at_mode (unnamed_at d m us) s) o (c ∷ rest) (goes (Bounding (before.Unnamed (cut d m))) s) (open_unnamed a s may o oe)
    ∙ open_run (before.Unnamed (cut d m)) s c rest ce
    ∙ ap (λ v. run rest (Unnamed v) s) (unbounded_cut d m)

-- declarators with a name
record Reached (d : DeclaratorTree) (h : ℕ) (s : List Frame) (ts : List Terminal) : Type 0 where
  stars : Option Stars
  part : Option (Built DeclaratorTree)
  runs : (rest : List Terminal) → run (ts ++ rest) (Front None) s ≡ run rest (Direct stars part) s
  is : pointed stars part ≡ cut d h

-- a parameter, and parameters, before what ends them
record ReachedParameter (p : DeclaratorTree) (n : ℕ) (f : Taking) (s : List Frame) (ts : List Terminal) : Type 0 where
  now : Mode
  stack : List Frame
  runs : (rest : List Terminal) → run (ts ++ rest) (Parameters f) s ≡ run rest now stack
  closes : (f.first && is_void p) ≡ false → (c : Terminal) → Is c CloseParen → declarator_offer (at_mode now stack) c ≡ called (taken f (cut p n)) s
  divides : (t : Terminal) → Is t (Binary Comma) → declarator_offer (at_mode now stack) t ≡ goes (Parameters (taken f (cut p n))) s

abbrev taking : Bool → Option Stars → Option (Built DeclaratorTree) → Taking
taking b stars f = record { first = b; stars = stars; function = f }

record ReachedParameters (d : DeclaratorTree) (h : ℕ) (stars : Option Stars) (s : List Frame) (ts : List Terminal) : Type 0 where
  now : Mode
  stack : List Frame
  runs : (rest : List Terminal) → run (ts ++ rest) (Front stars) s ≡ run rest now stack
  closes : takes_void d ≡ false → (c : Terminal) → Is c CloseParen → declarator_offer (at_mode now stack) c ≡ goes (Direct stars (cut d h)) s
  divides : (t : Terminal) → Is t (Binary Comma) → declarator_offer (at_mode now stack) t ≡ goes (Parameters (taking false stars (cut d h))) s

abbrev behind_direct : Option Stars → Option (Built DeclaratorTree) → List Frame → Symbol → Next
behind_direct stars d s y = directing s stars d y

unnamed_ends : (b : Bool) (f : Taking) (p : Option (Built DeclaratorTree)) (s : List Frame) → b ≡ false → reading.unnamed_last b f p s ≡ called (taken f p) s
unnamed_ends true f p s e = absurd (true_false e)
unnamed_ends false f p s e = refl

and_left : (b : Bool) → (true && b) ≡ b
and_left b = refl

mutual
  reach_direct : {d : DeclaratorTree} {h : ℕ} {ts : List Terminal} → IsDirect d h ts → (stars : Option Stars) (s : List Frame) (rest : List Terminal)
      → run (ts ++ rest) (Front stars) s ≡ run rest (Direct stars (cut d h)) s
  reach_direct (name t e) stars s rest =
      front_step stars s t rest (Leaf Name) (Direct stars (name_of t.place t.text)) s e refl
      ∙ ap (λ v. run rest (Direct stars v) s) (taller_cut 0 (tree.Name t.place t.text))
  reach_direct (parens o c {d} {h} {ts} oe dd ce) stars s rest =
      let f = Nest stars o.place (may_be_unnamed (first s)) in
      let r = reach_declarator dd (f ∷ s) in
      front_step stars s o _ OpenParen (Front None) (f ∷ s) oe refl
      ∙ ap (λ l. run l (Front None) (f ∷ s)) (append_assoc ts (c ∷ []) rest)
      ∙ r.runs (c ∷ rest)
      ∙ direct_step r.stars r.part (f ∷ s) c rest CloseParen (Direct stars (parens_of o.place (pointed r.stars r.part))) s ce refl
      ∙ ap (λ v. run rest (Direct stars (parens_of o.place v)) s) r.is
      ∙ ap (λ v. run rest (Direct stars v) s) (grow_cut (tree.Parens o.place) d h)
  reach_direct (array o c {d} {e} {at} {m} {n} {us} {vs} dd oe d' ce) stars s rest =
      ap (λ l. run l (Front stars) s) (append_assoc us (o ∷ (vs ++ c ∷ [])) rest ∙ ap (λ l. us ++ o ∷ l) (append_assoc vs (c ∷ []) rest))
      ∙ reach_direct dd stars s (o ∷ (vs ++ c ∷ rest))
      ∙ direct_step stars (cut d m) s o (vs ++ c ∷ rest) OpenBracket (Bounding (before.Named stars (cut d m))) s oe refl
      ∙ bound_run d' c ce (before.Named stars (cut d m)) s rest
      ∙ ap (λ v. run rest (Direct stars v) s) (grow_two_cut array_at d e m n)
  reach_direct (open_array o c {d} {m} {us} dd oe ce) stars s rest =
      ap (λ l. run l (Front stars) s) (append_assoc us (o ∷ c ∷ []) rest)
      ∙ reach_direct dd stars s (o ∷ c ∷ rest)
      ∙ direct_step stars (cut d m) s o (c ∷ rest) OpenBracket (Bounding (before.Named stars (cut d m))) s oe refl
      ∙ open_run (before.Named stars (cut d m)) s c rest ce
      ∙ ap (λ v. run rest (Direct stars v) s) (grow_cut open_array_at d m)
  reach_direct (no_parameters o c {d} {m} {us} dd oe ce) stars s rest =
      let f = taking true stars (function_of (cut d m)) in
      ap (λ l. run l (Front stars) s) (append_assoc us (o ∷ c ∷ []) rest)
      ∙ reach_direct dd stars s (o ∷ c ∷ rest)
      ∙ direct_step stars (cut d m) s o (c ∷ rest) OpenParen (Parameters f) s oe refl
      ∙ parameters_step f s c rest CloseParen (Direct stars (function_of (cut d m))) s ce refl
      ∙ ap (λ v. run rest (Direct stars v) s) (grow_cut function_at d m)
  reach_direct (void_parameters o v c {d} {m} {us} dd oe ve ce) stars s rest =
      let f = taking true stars (function_of (cut d m)) in
      ap (λ l. run l (Front stars) s) (append_assoc us (o ∷ v ∷ c ∷ []) rest)
      ∙ reach_direct dd stars s (o ∷ v ∷ c ∷ rest)
      ∙ direct_step stars (cut d m) s o (v ∷ c ∷ rest) OpenParen (Parameters f) s oe refl
      ∙ parameters_step f s v (c ∷ rest) (Word a_word.Void) (Front None) (Parameter f v.place false Void ∷ s) ve refl
      ∙ front_step None (Parameter f v.place false Void ∷ s) c rest CloseParen (Direct stars (function_of (cut d m))) s ce refl
      ∙ ap (λ v. run rest (Direct stars v) s) (grow_cut function_at d m)
  reach_direct (parameters c {d} {h} {us} ps ne ce) stars s rest =
      let r = reach_parameters ps stars s in
      ap (λ l. run l (Front stars) s) (append_assoc us (c ∷ []) rest)
      ∙ r.runs (c ∷ rest)
      ∙ one_step declarator_offer (at_mode r.now r.stack) c rest (goes (Direct stars (cut d h)) s) (r.closes ne c ce)

  reach_declarator : {d : DeclaratorTree} {h : ℕ} {ts : List Terminal} → IsDeclarator d h ts → (s : List Frame) → Reached d h s ts
  reach_declarator (direct {d} {h} {ts} dd) s = record { stars = None; part = cut d h; runs = λ rest. reach_direct dd None s rest; is = refl }
  reach_declarator (pointers t {n} {h} {d} {us} {vs} k dd) s =
      let stars : Stars = record { place = t.place; count = length (t ∷ us) } in
      let make : ℕ → DeclaratorTree = λ i. tree.Pointers t.place i d in
      record {
        stars = Some stars;
        part = cut d h;
        runs = λ rest. ap (λ l. run l (Front None) s) (append_assoc (t ∷ us) vs rest) ∙ stars_run k s (vs ++ rest) ∙ reach_direct dd (Some stars) s rest;
        is = pointers_cut stars d h ∙ ap (λ i. cut (make i) (suc (max 2 h))) (stars_count k);
      }

  reach_parameters : {d : DeclaratorTree} {h : ℕ} {ts : List Terminal} → AreParameters d h ts → (stars : Option Stars) (s : List Frame) → ReachedParameters d h stars s ts
  reach_parameters (first_parameter o {d} {p} {m} {n} {us} {vs} dd oe pp) stars s =
      let f = taking true stars (function_of (cut d m)) in
      let r = reach_parameter pp f s in
      let grown : taking_of (function_of (cut d m)) (cut p n) ≡ cut (tree.Taking (function_at d) p) (max (suc m) (n + 2)) =
      ap (λ v. taking_of v (cut p n)) (grow_cut function_at d m) ∙ grow_list_cut 63 2 refl tree.Taking (function_at d) p (suc m) n in
      record {
        now = r.now;
        stack = r.stack;
        runs = λ rest. ap (λ l. run l (Front stars) s) (append_assoc us (o ∷ vs) rest)
            ∙ reach_direct dd stars s (o ∷ (vs ++ rest))
            ∙ direct_step stars (cut d m) s o (vs ++ rest) OpenParen (Parameters f) s oe refl
            ∙ r.runs rest;
        closes = λ ne c ce. r.closes ne c ce ∙ ap (λ v. goes (Direct stars v) s) grown;
        divides = λ t te. r.divides t te ∙ ap (λ v. goes (Parameters (taking false stars v)) s) grown;
      }
  reach_parameters (next_parameter u {d} {p} {m} {n} {us} {vs} ps ue pp) stars s =
      let q = reach_parameters ps stars s in
      let f = taking false stars (cut d m) in
      let r = reach_parameter pp f s in
      let grown : taking_of (cut d m) (cut p n) ≡ cut (tree.Taking d p) (max m (n + 2)) = grow_list_cut 63 2 refl tree.Taking d p m n in
      record {
        now = r.now;
        stack = r.stack;
        runs = λ rest. ap (λ l. run l (Front stars) s) (append_assoc us (u ∷ vs) rest)
            ∙ q.runs (u ∷ (vs ++ rest))
            ∙ one_step declarator_offer (at_mode q.now q.stack) u (vs ++ rest) (goes (Parameters f) s) (q.divides u ue)
            ∙ r.runs rest;
        closes = λ ne c ce. r.closes refl c ce ∙ ap (λ v. goes (Direct stars v) s) grown;
        divides = λ t te. r.divides t te ∙ ap (λ v. goes (Parameters (taking false stars v)) s) grown;
      }

  reach_parameter : {p : DeclaratorTree} {n : ℕ} {ts : List Terminal} → IsParameter p n ts → (f : Taking) (s : List Frame) → ReachedParameter p n f s ts
  reach_parameter (named {at} {r} {base} {d} {h} {us} {vs} {ws} rd sd first_is dd) f s =
      let k = reach_declarator dd (Parameter f at r base ∷ s) in
      let grown : named_of at r base (pointed k.stars k.part) ≡ cut (tree.Named at r base d) (suc h) = ap (named_of at r base) k.is ∙ grow_cut (tree.Named at r base) d h in
      record {
        now = Direct k.stars k.part;
        stack = Parameter f at r base ∷ s;
        runs = λ rest. ap (λ l. run l (Parameters f) s) (append_assoc us (vs ++ ws) rest ∙ ap (λ l. us ++ l) (append_assoc vs ws rest))
            ∙ parameter_run rd sd f at first_is s (ws ++ rest)
            ∙ k.runs rest;
        closes = λ ne c ce. ap (λ y. behind_direct k.stars k.part (Parameter f at r base ∷ s) y) ce ∙ ap (λ v. called (taken f v) s) grown;
        divides = λ t te. ap (λ y. behind_direct k.stars k.part (Parameter f at r base ∷ s) y) te ∙ ap (λ v. goes (Parameters (taken f v)) s) grown;
      }
  reach_parameter (unnamed {at} {base} {a} {m} {us} {vs} sd first_is aa) f s =
      let g = Parameter f at false base in
      record {
        now = unnamed_at a m vs;
        stack = g ∷ s;
        runs = λ rest. ap (λ l. run l (Parameters f) s) (append_assoc us vs rest)
            ∙ plain_run sd f at first_is s (vs ++ rest)
            ∙ reach_abstract aa (g ∷ s) refl rest;
        closes = λ ne c ce. closes_unnamed aa g s c ce
            ∙ unnamed_ends (void_alone f (is_nothing a) base) f (unnamed_of at base (cut a m)) s ne
            ∙ ap (λ v. called (taken f v) s) (unnamed_cut at base a m);
        divides = λ t te. divides_unnamed aa g s t te ∙ ap (λ v. goes (Parameters (taken f v)) s) (unnamed_cut at base a m);
      }

-- the end
ends_at : (y : Symbol) → goes_on y ≡ false → (stars : Option Stars) (d : Option (Built DeclaratorTree)) → directing [] stars d y ≡ Some (Ends (pointed stars d))
ends_at OpenParen e stars d = absurd (true_false e)
ends_at OpenBracket e stars d = absurd (true_false e)
ends_at _ e stars d = refl

pub declarator_ends : DeclaratorEnds
declarator_ends d h ts t dd e =
    let r = reach_declarator dd [] in
    r.runs (t ∷ [])
    ∙ one_step declarator_offer (at_mode (Direct r.stars r.part) []) t [] (Some (Ends (pointed r.stars r.part))) (ends_at t.symbol e r.stars r.part)
    ∙ ap (λ v. Some (Ends v)) r.is
