-- What is read is an expression by the grammar.
use Rattle.std.proofs.Common.{◌≡◌, ℕ, suc, ◌+◌, ◌≤◌, max, Bool, true, false, List, [], ◌∷◌, ◌++◌, Option, Some, None, nat_le, nat_lt, nat_eq, ◌&&◌, drop, refl, sym, ◌∙◌, ap, subst, arith, lit≤, le_trans, leb-true, ltb-false, append_assoc, append-nil, add-one}
use Rattle.std.specs.Prelude.{if◌then◌else◌}
use Rattle.std.proofs.lemmas.Bool.{eqb-true}
use Rattle.c_lex.specs.declared.token.Place.{Place}
use Rattle.c_symbol.specs.declared.terminal.Terminal.{Terminal}
use Rattle.c_symbol.specs.declared.symbol.Access.{Access}
use Rattle.c_symbol.specs.declared.symbol.TypeWord.{TypeWord}
use Rattle.c_symbol.specs.declared.symbol.TypeWord.TheVariants as a_word
use Rattle.c_trees.specs.declared.expression.Spec.{Spec}
use Rattle.c_trees.specs.declared.expression.Spec.TheVariants.{Unsigned, UnsignedInt, Struct}
use Rattle.c_symbol.specs.declared.symbol.LeafKind.TheVariants.{Name, Constant, Character, Text}
use Rattle.c_symbol.specs.declared.symbol.BinaryOp.{BinaryOp}
use Rattle.c_symbol.specs.declared.symbol.BinaryOp.TheVariants as op
use Rattle.c_symbol.specs.declared.symbol.PrefixOp.{PrefixOp}
use Rattle.c_symbol.specs.declared.symbol.PrefixOp.TheVariants as prefix
use Rattle.c_symbol.specs.declared.symbol.Symbol.{Symbol}
use Rattle.c_symbol.specs.declared.symbol.Symbol.TheVariants as symbol
use Rattle.c_expr.specs.declared.grown.Built.{Built}
use Rattle.c_expr.specs.declared.grown.Grown.{Grown}
use Rattle.c_expr.specs.declared.call.GrownCall.{GrownCall}
use Rattle.c_expr.specs.declared.frame.Least.{Least}
use Rattle.c_expr.specs.declared.frame.Frame.{Frame}
use Rattle.c_expr.specs.declared.frame.Frame.TheVariants as frame
use Rattle.c_expr.specs.declared.state.Part.{Part}
use Rattle.c_expr.specs.declared.state.Part.TheVariants.{Front, Back}
use Rattle.c_expr.specs.declared.state.Mode.{Mode}
use Rattle.c_expr.specs.declared.state.Mode.TheVariants.{Want, Have, Naming, Typing, Tagging}
use Rattle.c_expr.specs.declared.state.Parser.{Parser}
use Rattle.c_trees.specs.Expressions.{Tree, Leaf, Paren, Index, Call, With, Member, After, SizeofType, Stars, Around, Bounded, Unbounded}
use Rattle.c_expr.specs.Levels.{level_of, left_of, ends_of}
use Rattle.c_expr.specs.Grown.{cut, grow, grow_list, call_of, with_of, called_of, grow_two, leaf_of, paren_of, index_of, after_of, around_of, bounded_of, unbounded_of, sized, sizeof_type_of}
use Rattle.c_symbol.specs.declared.symbol.Step.{Step}
use Rattle.c_symbol.specs.declared.symbol.LeafKind.{LeafKind}
use Rattle.c_expr.specs.First.{first}
use Rattle.c_expr.specs.Frames.{least_of, unsigned_part, need, reduce, sizeof_place}
use Rattle.c_expr.specs.Machine.{Next, goes, before, prefix_symbol_of, wanting, naming, typing, tagging, part_of, is_empty, starred, nested, worded, two_words, unnested, closed_type, argument, joined, chosen, closed, having, shift, shift_mode, run, start, ended, whole_mode, whole, reading}
use Rattle.c_expr.specs.Grammar.{prefix_symbol, stars_height, is_nothing, name_height, AreStars, no_star, star, spec_of, IsSpec, one_word, unsigned_int, tagged, stars, around, bounded, unbounded, leaf, paren, index, member, after, sizeof_type, call, call_with, IsCall, first_argument, next_argument}
use Rattle.c_expr.proofs.Pieces.{grow_cut, grow_two_cut, grow_list_cut, stars_cut, around_cut, unbounded_cut, sized_cut}
use Rattle.c_expr.proofs.Numbers.{ends_least, needs_some}
use Rattle.c_expr.proofs.Standing.{moved, Stands, loosened, Declared, StandsCall, Opens, opens_prefix, opens_start, opens_typed, opens_nest, opens_bound, opens_cast, opens_binary, opens_then, opens_else, opens_paren, opens_index, opens_begun, opens_call, Stacked, Parts, need_most, PartsOf, reduce_sound, IsPart, front, back, Holds, OnNext}

guard : (b : Bool) (x : Next) (ts : List Terminal) → (b ≡ true → OnNext x ts) → OnNext (if b then x else None) ts
guard true x ts h = h refl
guard false x ts h = tt

guard_two : (b c : Bool) (x : Next) (ts : List Terminal) → (b ≡ true → c ≡ true → OnNext x ts) → OnNext (if b && c then x else None) ts
guard_two true true x ts h = h refl refl
guard_two true false x ts h = tt
guard_two false c x ts h = tt

two_ways : (b c : Bool) (x y : Next) (ts : List Terminal) → (b ≡ true → c ≡ true → OnNext x ts) → OnNext y ts → OnNext (if b && c then x else y) ts
two_ways true true x y ts h k = h refl refl
two_ways true false x y ts h k = k
two_ways false c x y ts h k = k

guard_not : (b : Bool) (x : Next) (ts : List Terminal) → (b ≡ false → OnNext x ts) → OnNext (if b then None else x) ts
guard_not true x ts h = tt
guard_not false x ts h = h refl

-- an expression on the stack, and a token behind it
behind : (t : Terminal) (ts us vs : List Terminal) → ts ≡ us ++ vs → ts ++ t ∷ [] ≡ us ++ (vs ++ t ∷ [])
behind t ts us vs all = ap (λ l. l ++ t ∷ []) all ∙ append_assoc us vs (t ∷ [])

-- calls
same_call : {e : Tree} {at : Place} {h : ℕ} (us vs : List Terminal) → us ≡ vs → IsCall e at h us → IsCall e at h vs
same_call {e} {at} {h} us vs same d = let P : List Terminal → Type 0 = λ l. IsCall e at h l in subst P same d

with_first : {n : ℕ} {us : List Terminal} (c : GrownCall) (a : Grown) (vs : List Terminal) → Opens (frame.Begun c) n us → Stands 2 a vs → StandsCall (with_of c a) (us ++ vs)
with_first c a vs (opens_begun o f ws le d oe) d' =
    record {
      tree = With (Call f.place d.tree) d'.tree;
      height = max (suc d.height) (d'.height + 2);
      is = same_call (ws ++ o ∷ vs) ((ws ++ o ∷ []) ++ vs) (sym (append_assoc ws (o ∷ []) vs)) (first_argument o d.is oe d'.is);
      kept = ap (λ x. grow_list 63 2 With (grow (Call f.place) x) a.tree) d.kept ∙ ap (λ x. grow_list 63 2 With x a.tree) (grow_cut (Call f.place) d.tree d.height)
          ∙ ap (grow_list 63 2 With (cut (Call f.place d.tree) (suc d.height))) d'.kept ∙ grow_list_cut 63 2 refl With (Call f.place d.tree) d'.tree (suc d.height) d'.height;
    }

with_next : {n : ℕ} {us : List Terminal} (c : GrownCall) (a : Grown) (vs : List Terminal) → Opens (frame.Call c) n us → Stands 2 a vs → StandsCall (with_of c a) (us ++ vs)
with_next c a vs (opens_call t c' ws le d te) d' =
    record {
      tree = With d.tree d'.tree;
      height = max d.height (d'.height + 2);
      is = same_call (ws ++ t ∷ vs) ((ws ++ t ∷ []) ++ vs) (sym (append_assoc ws (t ∷ []) vs)) (next_argument t d.is te d'.is);
      kept = ap (λ x. grow_list 63 2 With x a.tree) d.kept ∙ ap (grow_list 63 2 With (cut d.tree d.height)) d'.kept ∙ grow_list_cut 63 2 refl With d.tree d'.tree d.height d'.height;
    }

begun_low : {n : ℕ} {us : List Terminal} (c : GrownCall) → Opens (frame.Begun c) n us → n ≤ 16
begun_low c (opens_begun o f ws le d oe) = le

call_low : {n : ℕ} {us : List Terminal} (c : GrownCall) → Opens (frame.Call c) n us → n ≤ 16
call_low c (opens_call t c' ws le d te) = le

comma_frame : {n : ℕ} (c : GrownCall) (us vs : List Terminal) (t : Terminal) → n ≤ 16 → StandsCall c (us ++ vs) → t.symbol ≡ symbol.Binary op.Comma → Opens (frame.Call c) n (us ++ (vs ++ t ∷ []))
comma_frame {n} c us vs t le d e =
    let P : List Terminal → Type 0 = λ l. Opens (frame.Call c) n l in subst P (append_assoc us vs (t ∷ [])) (opens_call t c (us ++ vs) le d e)

call_closed : (c : GrownCall) (us vs : List Terminal) (t : Terminal) → StandsCall c (us ++ vs) → t.symbol ≡ symbol.CloseParen → Stands 16 (called_of c) (us ++ (vs ++ t ∷ []))
call_closed c us vs t d e =
    record { tree = d.tree; height = d.height; is = moved ((us ++ vs) ++ t ∷ []) (us ++ (vs ++ t ∷ [])) (append_assoc us vs (t ∷ [])) (call_with 16 t (lit≤ tt) d.is e); kept = d.kept }

within : (t : Terminal) (ts us vs us' vs' : List Terminal) → ts ≡ us ++ vs → us ≡ us' ++ vs' → us' ++ (vs' ++ (vs ++ t ∷ [])) ≡ ts ++ t ∷ []
within t ts us vs us' vs' all under = sym (append_assoc us' vs' (vs ++ t ∷ [])) ∙ ap (λ l. l ++ (vs ++ t ∷ [])) (sym under) ∙ sym (behind t ts us vs all)

comma_sound : (t : Terminal) (ts : List Terminal) (a : Grown) (s : List Frame) → t.symbol ≡ symbol.Binary op.Comma → Parts a s ts → OnNext (argument op.Comma a s) (ts ++ t ∷ [])
comma_sound t ts a [] e d = tt
comma_sound t ts a (frame.Begun c ∷ s) e d =
    let under = d.stacked in (
      under.0,
      under.1 ++ (d.vs ++ t ∷ []),
      under.2,
      comma_frame (with_of c a) under.1 d.vs t (begun_low c under.3) (with_first c a d.vs under.3 (loosened a d.vs d.stands d.fits)) e,
      sym (within t ts d.us d.vs under.0 under.1 d.all under.4),
    )
comma_sound t ts a (frame.Call c ∷ s) e d =
    let under = d.stacked in (
      under.0,
      under.1 ++ (d.vs ++ t ∷ []),
      under.2,
      comma_frame (with_of c a) under.1 d.vs t (call_low c under.3) (with_next c a d.vs under.3 (loosened a d.vs d.stands d.fits)) e,
      sym (within t ts d.us d.vs under.0 under.1 d.all under.4),
    )
comma_sound t ts a (_ ∷ s) e d = tt

argument_sound : (op : BinaryOp) (t : Terminal) (ts : List Terminal) → t.symbol ≡ symbol.Binary op → (a : Grown) (s : List Frame) → Parts a s ts → OnNext (argument op a s) (ts ++ t ∷ [])
argument_sound op.Comma t ts e a s d = comma_sound t ts a s e d
argument_sound _ t ts e a s d = tt

joined_sound : (op : BinaryOp) (t : Terminal) (ts : List Terminal) → t.symbol ≡ symbol.Binary op → (r : Grown × List Frame) → PartsOf ts r → OnNext (joined op r) (ts ++ t ∷ [])
joined_sound op t ts e (a, s) d =
    two_ways (nat_le (left_of op) a.level) (nat_le (need s) (level_of op)) (goes Want (frame.Binary op a ∷ s)) (argument op a s) (ts ++ t ∷ [])
    (λ high low. (
      d.us,
      d.vs ++ t ∷ [],
      d.stacked,
      opens_binary t op a d.vs (leb-true _ _ low) (loosened a d.vs d.stands (leb-true _ _ high)) e,
      behind t ts d.us d.vs d.all,
    ))
    (argument_sound op t ts e a s d)

chosen_sound : (t : Terminal) (ts : List Terminal) → t.symbol ≡ symbol.Question → (r : Grown × List Frame) → PartsOf ts r → OnNext (chosen r) (ts ++ t ∷ [])
chosen_sound t ts e (a, s) d =
    guard_two (nat_le 4 a.level) (nat_le (need s) 3) (goes Want (frame.Then a ∷ s)) (ts ++ t ∷ [])
    (λ high low. (
      d.us,
      d.vs ++ t ∷ [],
      d.stacked,
      opens_then t a d.vs (leb-true _ _ low) (loosened a d.vs d.stands (leb-true _ _ high)) e,
      behind t ts d.us d.vs d.all,
    ))

colon_frame : {n : ℕ} {us : List Terminal} (a g : Grown) (vs : List Terminal) (t : Terminal) → Opens (frame.Then a) n us → Stands 1 g vs → t.symbol ≡ symbol.Colon
    → Opens (frame.Else a g) n (us ++ (vs ++ t ∷ []))
colon_frame {n} a g vs t (opens_then q a' ws le d qe) d' e =
    let P : List Terminal → Type 0 = λ l. Opens (frame.Else a g) n l in
    subst P (sym (append_assoc ws (q ∷ []) (vs ++ t ∷ []))) (opens_else q t a g ws vs le d qe d' e)

held : (mode : Mode) (s : List Frame) (us vs : List Terminal) → us ≡ vs → Holds mode s us → Holds mode s vs
held mode s us vs e h = let P : List Terminal → Type 0 = λ l. Holds mode s l in subst P e h

paren_stands : {n : ℕ} {us : List Terminal} (begun : Place) (g : Grown) (vs : List Terminal) (t : Terminal) → Opens (frame.Paren begun) n us → Stands 1 g vs → t.symbol ≡ symbol.CloseParen
    → Stands 17 (paren_of begun g) (us ++ (vs ++ t ∷ []))
paren_stands begun g vs t (opens_paren o oe) d e =
    record { tree = Paren o.place d.tree; height = suc d.height; is = paren 17 o t (lit≤ tt) oe d.is e; kept = ap (grow (Paren o.place)) d.kept ∙ grow_cut (Paren o.place) d.tree d.height }

index_stands : {n : ℕ} {us : List Terminal} (a g : Grown) (vs : List Terminal) (t : Terminal) → Opens (frame.Index a) n us → Stands 1 g vs → t.symbol ≡ symbol.CloseBracket
    → Stands 16 (index_of a g) (us ++ (vs ++ t ∷ []))
index_stands a g vs t (opens_index o a' ws le d oe) d' e =
    record {
      tree = Index a.place d.tree d'.tree;
      height = suc (max d.height d'.height);
      is = moved (ws ++ o ∷ (vs ++ t ∷ [])) ((ws ++ o ∷ []) ++ (vs ++ t ∷ [])) (sym (append_assoc ws (o ∷ []) (vs ++ t ∷ []))) (index 16 o t (lit≤ tt) d.is oe d'.is e);
      kept = ap (λ o. grow_two (Index a.place) o g.tree) d.kept ∙ ap (grow_two (Index a.place) (cut d.tree d.height)) d'.kept ∙ grow_two_cut (Index a.place) d.tree d'.tree d.height d'.height;
    }

index_fits : {n : ℕ} {us : List Terminal} (a : Grown) → Opens (frame.Index a) n us → n ≤ 16
index_fits a (opens_index o a' ws le d oe) = le

closed_colon : (t : Terminal) (ts : List Terminal) (g : Grown) (s : List Frame) → t.symbol ≡ symbol.Colon → Parts g s ts → OnNext (closed symbol.Colon (g, s)) (ts ++ t ∷ [])
closed_colon t ts g [] e d = tt
closed_colon t ts g (frame.Then a ∷ s) e d =
    let under = d.stacked in
    (under.0, under.1 ++ (d.vs ++ t ∷ []), under.2, colon_frame a g d.vs t under.3 (loosened g d.vs d.stands d.fits) e, sym (within t ts d.us d.vs under.0 under.1 d.all under.4))
closed_colon t ts g (_ ∷ s) e d = tt

closed_paren : (t : Terminal) (ts : List Terminal) (g : Grown) (s : List Frame) → t.symbol ≡ symbol.CloseParen → Parts g s ts → OnNext (closed symbol.CloseParen (g, s)) (ts ++ t ∷ [])
closed_paren t ts g [] e d = tt
closed_paren t ts g (frame.Paren begun ∷ s) e d =
    let under = d.stacked in
    record {
      us = under.0;
      vs = under.1 ++ (d.vs ++ t ∷ []);
      stacked = under.2;
      stands = paren_stands begun g d.vs t under.3 (loosened g d.vs d.stands d.fits) e;
      fits = le_trans (need_most s) (lit≤ tt);
      all = sym (within t ts d.us d.vs under.0 under.1 d.all under.4);
    }
closed_paren t ts g (frame.Begun c ∷ s) e d =
    let under = d.stacked in
    record {
      us = under.0;
      vs = under.1 ++ (d.vs ++ t ∷ []);
      stacked = under.2;
      stands = call_closed (with_of c g) under.1 d.vs t (with_first c g d.vs under.3 (loosened g d.vs d.stands d.fits)) e;
      fits = le_trans (need_most s) (lit≤ tt);
      all = sym (within t ts d.us d.vs under.0 under.1 d.all under.4);
    }
closed_paren t ts g (frame.Call c ∷ s) e d =
    let under = d.stacked in
    record {
      us = under.0;
      vs = under.1 ++ (d.vs ++ t ∷ []);
      stacked = under.2;
      stands = call_closed (with_of c g) under.1 d.vs t (with_next c g d.vs under.3 (loosened g d.vs d.stands d.fits)) e;
      fits = le_trans (need_most s) (lit≤ tt);
      all = sym (within t ts d.us d.vs under.0 under.1 d.all under.4);
    }
closed_paren t ts g (_ ∷ s) e d = tt

same_declared : {o : Option Built} (us vs : List Terminal) → us ≡ vs → Declared o us → Declared o vs
same_declared {o} us vs same d = let P : List Terminal → Type 0 = λ l. Declared o l in subst P same d

same_part : {part : Part} (us vs : List Terminal) → us ≡ vs → IsPart part us → IsPart part vs
same_part {part} us vs same d = let P : List Terminal → Type 0 = λ l. IsPart part l in subst P same d

bounded_part : {n : ℕ} {us : List Terminal} (o : Option Built) (g : Grown) (vs : List Terminal) (t : Terminal) → Opens (frame.Bound o) n us → Stands 3 g vs → t.symbol ≡ symbol.CloseBracket
    → IsPart (Back (bounded_of o g.tree)) (us ++ (vs ++ t ∷ []))
bounded_part o g vs t (opens_bound b o' ws x be) d e =
    same_part (ws ++ b ∷ (vs ++ t ∷ [])) ((ws ++ b ∷ []) ++ (vs ++ t ∷ [])) (sym (append_assoc ws (b ∷ []) (vs ++ t ∷ [])))
    (back (bounded_of o g.tree)
    (record {
      tree = Bounded x.tree d.tree;
      height = max x.height (d.height + 1);
      is = bounded b t x.is be d.is e;
      kept = ap (λ v. grow_list 64 1 Bounded v g.tree) x.kept ∙ ap (grow_list 64 1 Bounded (cut x.tree x.height)) d.kept ∙ grow_list_cut 64 1 refl Bounded x.tree d.tree x.height d.height;
    })
    refl)

closed_bracket : (t : Terminal) (ts : List Terminal) (g : Grown) (s : List Frame) → t.symbol ≡ symbol.CloseBracket → Parts g s ts → OnNext (closed symbol.CloseBracket (g, s)) (ts ++ t ∷ [])
closed_bracket t ts g [] e d = tt
closed_bracket t ts g (frame.Index a ∷ s) e d =
    let under = d.stacked in
    record {
      us = under.0;
      vs = under.1 ++ (d.vs ++ t ∷ []);
      stacked = under.2;
      stands = index_stands a g d.vs t under.3 (loosened g d.vs d.stands d.fits) e;
      fits = index_fits a under.3;
      all = sym (within t ts d.us d.vs under.0 under.1 d.all under.4);
    }
closed_bracket t ts g (frame.Bound o ∷ s) e d =
    let under = d.stacked in
    (under.0, under.1 ++ (d.vs ++ t ∷ []), under.2, bounded_part o g d.vs t under.3 (loosened g d.vs d.stands d.fits) e, sym (within t ts d.us d.vs under.0 under.1 d.all under.4))
closed_bracket t ts g (_ ∷ s) e d = tt

closed_sound : (t : Terminal) (ts : List Terminal) (y : Symbol) → t.symbol ≡ y → (r : Grown × List Frame) → PartsOf ts r → OnNext (closed y r) (ts ++ t ∷ [])
closed_sound t ts symbol.Colon e (g, s) d = closed_colon t ts g s e d
closed_sound t ts symbol.CloseParen e (g, s) d = closed_paren t ts g s e d
closed_sound t ts symbol.CloseBracket e (g, s) d = closed_bracket t ts g s e d
closed_sound t ts _ e (g, s) d = tt

closing_sound : (s : List Frame) (g : Grown) (t : Terminal) (ts : List Terminal) (y : Symbol) → t.symbol ≡ y → Parts g s ts → OnNext (closed y (reduce 1 g s)) (ts ++ t ∷ [])
closing_sound s g t ts y e d = closed_sound t ts y e (reduce 1 g s) (reduce_sound 1 (lit≤ tt) s g ts d)

bracket_frame : (t : Terminal) (ts : List Terminal) (g : Grown) (s : List Frame) → t.symbol ≡ symbol.OpenBracket → Parts g s ts → 16 ≤ g.level → Stacked (frame.Index g ∷ s) (ts ++ t ∷ [])
bracket_frame t ts g s e d high =
    (d.us, d.vs ++ t ∷ [], d.stacked, opens_index t g d.vs (le_trans (need_most s) (lit≤ tt)) (loosened g d.vs d.stands high) e, behind t ts d.us d.vs d.all)

begun_frame : (t : Terminal) (ts : List Terminal) (g : Grown) (s : List Frame) → t.symbol ≡ symbol.OpenParen → Parts g s ts → 16 ≤ g.level → Stacked (frame.Begun (call_of g) ∷ s) (ts ++ t ∷ [])
begun_frame t ts g s e d high =
    (d.us, d.vs ++ t ∷ [], d.stacked, opens_begun t g d.vs (le_trans (need_most s) (lit≤ tt)) (loosened g d.vs d.stands high) e, behind t ts d.us d.vs d.all)

after_parts : (t : Terminal) (ts : List Terminal) (g : Grown) (s : List Frame) (step : Step) → t.symbol ≡ symbol.Step step → Parts g s ts → 16 ≤ g.level → Parts (after_of g step) s (ts ++ t ∷ [])
after_parts t ts g s step e d high =
    let low : Stands 16 g d.vs = loosened g d.vs d.stands high in
    record {
      us = d.us;
      vs = d.vs ++ t ∷ [];
      stacked = d.stacked;
      stands = record {
        tree = After g.place low.tree step;
        height = suc low.height;
        is = after 16 t step (lit≤ tt) low.is e;
        kept = ap (grow (λ b. After g.place b step)) low.kept ∙ grow_cut (λ b. After g.place b step) low.tree low.height;
      };
      fits = le_trans (need_most s) (lit≤ tt);
      all = behind t ts d.us d.vs d.all;
    }

having_sound : (s : List Frame) (g : Grown) (t : Terminal) (ts : List Terminal) (y : Symbol) → t.symbol ≡ y → Parts g s ts → OnNext (having s g y) (ts ++ t ∷ [])
having_sound s g t ts (symbol.Binary op) e d = joined_sound op t ts e (reduce (ends_of op) g s) (reduce_sound (ends_of op) (ends_least op) s g ts d)
having_sound s g t ts symbol.Question e d = chosen_sound t ts e (reduce 4 g s) (reduce_sound 4 (lit≤ tt) s g ts d)
having_sound s g t ts symbol.OpenBracket e d =
    guard_not (nat_lt g.level 16) (goes Want (frame.Index g ∷ s)) (ts ++ t ∷ []) (λ no. bracket_frame t ts g s e d (ltb-false g.level 16 no))
having_sound s g t ts symbol.OpenParen e d =
    guard_not (nat_lt g.level 16) (goes Want (frame.Begun (call_of g) ∷ s)) (ts ++ t ∷ []) (λ no. begun_frame t ts g s e d (ltb-false g.level 16 no))
having_sound s g t ts (symbol.Access access) e d =
    guard_not (nat_lt g.level 16) (goes (Naming g access) s) (ts ++ t ∷ []) (λ no. (ts, t, d, ltb-false g.level 16 no, e, refl))
having_sound s g t ts (symbol.Step step) e d =
    guard_not (nat_lt g.level 16) (goes (Have (after_of g step)) s) (ts ++ t ∷ []) (λ no. after_parts t ts g s step e d (ltb-false g.level 16 no))
having_sound s g t ts y e d = closing_sound s g t ts y e d

-- operators in front
abbrev IsBefore : Symbol → Option PrefixOp → Type 0
IsBefore y None = Unit {0}
IsBefore y (Some op) = y ≡ prefix_symbol op

binary_before : (o : BinaryOp) → IsBefore (symbol.Binary o) (prefix_symbol_of (symbol.Binary o))
binary_before op.BitAnd = refl
binary_before op.Multiply = refl
binary_before op.Add = refl
binary_before op.Subtract = refl
binary_before _ = tt

is_before : (y : Symbol) → IsBefore y (prefix_symbol_of y)
is_before (symbol.Step step) = refl
is_before (symbol.Binary op) = binary_before op
is_before symbol.Complement = refl
is_before symbol.Not = refl
is_before symbol.Sizeof = refl
is_before _ = tt

before_sound : (s : List Frame) (t : Terminal) (ts : List Terminal) (o : Option PrefixOp) → Stacked s ts → IsBefore t.symbol o → OnNext (before o t.place s) (ts ++ t ∷ [])
before_sound s t ts None d e = tt
before_sound s t ts (Some op) d e = (ts, t ∷ [], d, opens_prefix t op (need_most s) e, refl)

prefix_sound : (s : List Frame) (t : Terminal) (ts : List Terminal) (y : Symbol) → t.symbol ≡ y → Stacked s ts → OnNext (before (prefix_symbol_of y) t.place s) (ts ++ t ∷ [])
prefix_sound s t ts y e d =
    let P : Symbol → Type 0 = λ v. IsBefore v (prefix_symbol_of y) in
    before_sound s t ts (prefix_symbol_of y) d (subst P (sym e) (is_before y))

leaf_parts : (s : List Frame) (t : Terminal) (ts : List Terminal) (kind : LeafKind) → t.symbol ≡ symbol.Leaf kind → Stacked s ts → Parts (leaf_of t.place kind t.text) s (ts ++ t ∷ [])
leaf_parts s t ts kind e d =
    record {
      us = ts;
      vs = t ∷ [];
      stacked = d;
      stands = record { tree = Leaf t.place kind t.text; height = 1; is = leaf 17 t kind (lit≤ tt) e; kept = refl };
      fits = le_trans (need_most s) (lit≤ tt);
      all = refl;
    }

typed_holds : (f : Frame) (s : List Frame) (ts : List Terminal) → Stacked (f ∷ s) ts → Holds (Typing (Front 0)) (f ∷ s) ts
typed_holds f s ts d = (ts, [], d, front no_star, sym (append-nil ts))

word_opens : {n : ℕ} {vs : List Terminal} (begun : Place) (t : Terminal) (word : TypeWord) → Opens (frame.Paren begun) n vs → t.symbol ≡ symbol.Word word
    → Opens (frame.Typed begun (spec_of word)) n (vs ++ t ∷ [])
word_opens begun t word (opens_paren o oe) e = opens_typed o (spec_of word) (t ∷ []) oe (one_word t word e)

struct_holds : {n : ℕ} {vs : List Terminal} (begun : Place) (s : List Frame) (us : List Terminal) (t : Terminal) → Opens (frame.Paren begun) n vs → Stacked s us → t.symbol ≡ symbol.Struct
    → Holds (Tagging begun) s (us ++ (vs ++ t ∷ []))
struct_holds begun s us t (opens_paren o oe) d e = (us, o, t, d, oe, refl, e, refl)

struct_sound : (s : List Frame) (t : Terminal) (ts : List Terminal) → t.symbol ≡ symbol.Struct → Stacked s ts → OnNext (wanting s symbol.Struct t.place t.text) (ts ++ t ∷ [])
struct_sound [] t ts e d = tt
struct_sound (frame.Paren begun ∷ s) t ts e d =
    held (Tagging begun) s (d.0 ++ (d.1 ++ t ∷ [])) (ts ++ t ∷ []) (sym (behind t ts d.0 d.1 d.4))
    (struct_holds begun s d.0 t d.3 d.2 e)
struct_sound (_ ∷ s) t ts e d = tt

word_sound : (s : List Frame) (t : Terminal) (ts : List Terminal) (word : TypeWord) → t.symbol ≡ symbol.Word word → Stacked s ts → OnNext (wanting s (symbol.Word word) t.place t.text) (ts ++ t ∷ [])
word_sound [] t ts word e d = tt
word_sound (frame.Paren begun ∷ s) t ts word e d =
    typed_holds (frame.Typed begun (spec_of word)) s (ts ++ t ∷ []) (d.0, d.1 ++ t ∷ [], d.2, word_opens begun t word d.3 e, behind t ts d.0 d.1 d.4)
word_sound (_ ∷ s) t ts word e d = tt

unbounded_part : {n : ℕ} {us : List Terminal} (o : Option Built) (t : Terminal) → Opens (frame.Bound o) n us → t.symbol ≡ symbol.CloseBracket → IsPart (Back (unbounded_of o)) (us ++ t ∷ [])
unbounded_part o t (opens_bound b o' ws x be) e =
    same_part (ws ++ b ∷ t ∷ []) ((ws ++ b ∷ []) ++ t ∷ []) (sym (append_assoc ws (b ∷ []) (t ∷ [])))
    (back (unbounded_of o)
    (record { tree = Unbounded x.tree; height = max x.height 2; is = unbounded b t x.is be e; kept = ap unbounded_of x.kept ∙ unbounded_cut x.tree x.height })
    refl)

emptied_sound : (s : List Frame) (t : Terminal) (ts : List Terminal) → t.symbol ≡ symbol.CloseBracket → Stacked s ts → OnNext (wanting s symbol.CloseBracket t.place t.text) (ts ++ t ∷ [])
emptied_sound [] t ts e d = tt
emptied_sound (frame.Bound o ∷ s) t ts e d = (d.0, d.1 ++ t ∷ [], d.2, unbounded_part o t d.3 e, behind t ts d.0 d.1 d.4)
emptied_sound (_ ∷ s) t ts e d = tt

called_stands : {n : ℕ} {vs : List Terminal} (c : GrownCall) (t : Terminal) → Opens (frame.Begun c) n vs → t.symbol ≡ symbol.CloseParen → Stands 16 (called_of c) (vs ++ t ∷ [])
called_stands c t (opens_begun o f ws le d oe) e =
    record {
      tree = Call f.place d.tree;
      height = suc d.height;
      is = moved (ws ++ o ∷ t ∷ []) ((ws ++ o ∷ []) ++ t ∷ []) (sym (append_assoc ws (o ∷ []) (t ∷ []))) (call 16 o t (lit≤ tt) d.is oe e);
      kept = ap (grow (Call f.place)) d.kept ∙ grow_cut (Call f.place) d.tree d.height;
    }

called_fits : {n : ℕ} {vs : List Terminal} (c : GrownCall) → Opens (frame.Begun c) n vs → n ≤ 16
called_fits c (opens_begun o f ws le d oe) = le

called_sound : (s : List Frame) (t : Terminal) (ts : List Terminal) → t.symbol ≡ symbol.CloseParen → Stacked s ts → OnNext (wanting s symbol.CloseParen t.place t.text) (ts ++ t ∷ [])
called_sound [] t ts e d = tt
called_sound (frame.Begun c ∷ s) t ts e d =
    record {
      us = d.0;
      vs = d.1 ++ t ∷ [];
      stacked = d.2;
      stands = called_stands c t d.3 e;
      fits = called_fits c d.3;
      all = ap (λ l. l ++ t ∷ []) d.4 ∙ append_assoc d.0 d.1 (t ∷ []);
    }
called_sound (_ ∷ s) t ts e d = tt

wanting_sound : (s : List Frame) (t : Terminal) (ts : List Terminal) (y : Symbol) → t.symbol ≡ y → Stacked s ts → OnNext (wanting s y t.place t.text) (ts ++ t ∷ [])
wanting_sound s t ts (symbol.Leaf kind) e d = leaf_parts s t ts kind e d
wanting_sound s t ts symbol.OpenParen e d = (ts, t ∷ [], d, opens_paren t e, refl)
wanting_sound s t ts (symbol.Word word) e d = word_sound s t ts word e d
wanting_sound s t ts symbol.Struct e d = struct_sound s t ts e d
wanting_sound s t ts symbol.CloseParen e d = called_sound s t ts e d
wanting_sound s t ts symbol.CloseBracket e d = emptied_sound s t ts e d
wanting_sound s t ts y e d = prefix_sound s t ts y e d

-- members
naming_sound : (s : List Frame) (g : Grown) (access : Access) (t : Terminal) (ts : List Terminal) (y : Symbol) → t.symbol ≡ y → Holds (Naming g access) s ts → OnNext (naming s g access y t.place t.text) (ts ++ t ∷ [])
naming_sound s g access t ts (symbol.Leaf Name) e d =
    let p = d.2 in
    let low : Stands 16 g p.vs = loosened g p.vs p.stands d.3 in
    record {
      us = p.us;
      vs = p.vs ++ d.1 ∷ t ∷ [];
      stacked = p.stacked;
      stands = record {
        tree = Member g.place low.tree access t.place t.text;
        height = suc low.height;
        is = member 16 d.1 t access (lit≤ tt) low.is d.4 e;
        kept = ap (grow (λ b. Member g.place b access t.place t.text)) low.kept ∙ grow_cut (λ b. Member g.place b access t.place t.text) low.tree low.height;
      };
      fits = le_trans (need_most s) (lit≤ tt);
      all = ap (λ l. l ++ t ∷ []) d.5 ∙ append_assoc d.0 (d.1 ∷ []) (t ∷ []) ∙ ap (λ l. l ++ d.1 ∷ t ∷ []) p.all ∙ append_assoc p.us p.vs (d.1 ∷ t ∷ []);
    }
naming_sound s g access t ts (symbol.Leaf (Constant _)) e d = tt
naming_sound s g access t ts (symbol.Leaf (Character _)) e d = tt
naming_sound s g access t ts (symbol.Leaf Text) e d = tt
naming_sound s g access t ts _ e d = tt

-- declarators
abbrev declared_part : {part : Part} {ts : List Terminal} → IsPart part ts → Declared (part_of part) ts
declared_part (front {n} k) = record { tree = Stars n; height = stars_height n; is = stars k; kept = stars_cut n }
declared_part (back d x some) = x

some_part : {part : Part} {ts : List Terminal} (p : IsPart part ts) → is_empty part ≡ false → is_nothing (declared_part p).tree ≡ false
some_part (front k) h = h
some_part (back d x some) h = some

more_stars : {n : ℕ} {vs : List Terminal} → IsPart (Front n) vs → (t : Terminal) → t.symbol ≡ symbol.Binary op.Multiply → IsPart (Front (n + 1)) (vs ++ t ∷ [])
more_stars {n} {vs} (front k) t e = let P : ℕ → Type 0 = λ m. IsPart (Front m) (vs ++ t ∷ []) in subst P (sym (add-one n)) (front (star t k e))

starred_sound : (part : Part) (s : List Frame) (t : Terminal) (ts : List Terminal) → t.symbol ≡ symbol.Binary op.Multiply → Holds (Typing part) s ts → OnNext (starred part s) (ts ++ t ∷ [])
starred_sound (Front n) s t ts e d = (d.0, d.1 ++ t ∷ [], d.2, more_stars d.3 t e, behind t ts d.0 d.1 d.4)
starred_sound (Back o) s t ts e d = tt

nest_opens : {k n : ℕ} {vs : List Terminal} → IsPart (Front n) vs → (t : Terminal) → t.symbol ≡ symbol.OpenParen → Opens (frame.Nest n) k (vs ++ t ∷ [])
nest_opens {k} {n} {vs} (front ks) t e = opens_nest t n vs ks e

nested_sound : (part : Part) (s : List Frame) (t : Terminal) (ts : List Terminal) → t.symbol ≡ symbol.OpenParen → Holds (Typing part) s ts → OnNext (nested part s) (ts ++ t ∷ [])
nested_sound (Front n) s t ts e d = typed_holds (frame.Nest n) s (ts ++ t ∷ []) (d.0, d.1 ++ t ∷ [], d.2, nest_opens d.3 t e, behind t ts d.0 d.1 d.4)
nested_sound (Back o) s t ts e d = tt

-- `int` behind `unsigned`
record OneWord (w : TypeWord) (ts : List Terminal) : Type 0 where
  word : Terminal
  all : ts ≡ word ∷ []
  is : word.symbol ≡ symbol.Word w

unsigned_of : (t : Terminal) (w : TypeWord) → t.symbol ≡ symbol.Word w → spec_of w ≡ Unsigned → OneWord a_word.Unsigned (t ∷ [])
unsigned_of t a_word.Char e k = cc
unsigned_of t a_word.Int e k = cc
unsigned_of t a_word.Unsigned e k = record { word = t; all = refl; is = e }
unsigned_of t a_word.Void e k = cc

unsigned_spec : {spec : Spec} {us : List Terminal} → IsSpec spec us → spec ≡ Unsigned → OneWord a_word.Unsigned us
unsigned_spec (one_word t w e) k = unsigned_of t w e k
unsigned_spec (unsigned_int t i e e') k = cc
unsigned_spec (tagged t name e e') k = cc

no_zero : (n : ℕ) → nat_eq (suc n) 0 ≡ true → ⊥
no_zero n e = omega (arith, eqb-true (suc n) 0 e)

no_stars : {n : ℕ} {ts : List Terminal} → AreStars n ts → nat_eq n 0 ≡ true → ts ≡ []
no_stars no_star e = refl
no_stars (star {n} t d k) e = absurd (no_zero n e)

int_opens : {n : ℕ} {us : List Terminal} (begun : Place) (t : Terminal) → Opens (frame.Typed begun Unsigned) n us → t.symbol ≡ symbol.Word a_word.Int → Opens (frame.Typed begun UnsignedInt) n (us ++ t ∷ [])
int_opens {n} begun t (opens_typed o spec ws oe sd) e =
    let u = unsigned_spec sd refl in
    let P : List Terminal → Type 0 = λ l. Opens (frame.Typed o.place UnsignedInt) n (o ∷ (l ++ t ∷ [])) in
    subst P (sym u.all) (opens_typed o UnsignedInt (u.word ∷ t ∷ []) oe (unsigned_int u.word t u.is e))

true_false : true ≡ false → ⊥
true_false e = cc

empty_part : {part : Part} {vs : List Terminal} → IsPart part vs → is_empty part ≡ true → vs ≡ []
empty_part (front k) h = no_stars k h
empty_part (back d x some) h = absurd (true_false (sym h))

two_words_sound : (s : List Frame) (t : Terminal) (ts : List Terminal) → t.symbol ≡ symbol.Word a_word.Int → Stacked s ts → OnNext (two_words (unsigned_part (first s)) (drop 1 s)) (ts ++ t ∷ [])
two_words_sound [] t ts e d = tt
two_words_sound (frame.Typed begun Unsigned ∷ s) t ts e d =
    typed_holds (frame.Typed begun UnsignedInt) s (ts ++ t ∷ []) (d.0, d.1 ++ t ∷ [], d.2, int_opens begun t d.3 e, behind t ts d.0 d.1 d.4)
two_words_sound (_ ∷ s) t ts e d = tt

nothing_behind : (ts us vs : List Terminal) → ts ≡ us ++ vs → vs ≡ [] → us ≡ ts
nothing_behind ts us vs all e = sym (append-nil us) ∙ ap (λ l. us ++ l) (sym e) ∙ sym all

int_sound : (part : Part) (s : List Frame) (t : Terminal) (ts : List Terminal) → t.symbol ≡ symbol.Word a_word.Int → Holds (Typing part) s ts
    → OnNext (worded part (unsigned_part (first s)) (drop 1 s)) (ts ++ t ∷ [])
int_sound part s t ts e d =
    guard (is_empty part) (two_words (unsigned_part (first s)) (drop 1 s)) (ts ++ t ∷ [])
    (λ yes. two_words_sound s t ts e (let P : List Terminal → Type 0 = λ l. Stacked s l in subst P (nothing_behind ts d.0 d.1 d.4 (empty_part d.3 yes)) d.2))

around_part : {n : ℕ} {us : List Terminal} (m : ℕ) (part : Part) (vs : List Terminal) (t : Terminal) → Opens (frame.Nest m) n us → IsPart part vs → is_empty part ≡ false → t.symbol ≡ symbol.CloseParen
    → IsPart (Back (around_of m (part_of part))) (us ++ (vs ++ t ∷ []))
around_part m part vs t (opens_nest o k ws ks oe) p some e =
    let x = declared_part p in
    same_part (ws ++ o ∷ (vs ++ t ∷ [])) ((ws ++ o ∷ []) ++ (vs ++ t ∷ [])) (sym (append_assoc ws (o ∷ []) (vs ++ t ∷ [])))
    (back (around_of m (part_of part))
    (record {
      tree = Around m x.tree;
      height = max (stars_height m) (x.height + 1);
      is = around o t ks oe x.is (some_part p some) e;
      kept = ap (around_of m) x.kept ∙ around_cut m x.tree x.height;
    })
    refl)

unnested_sound : (m : ℕ) (part : Part) (s : List Frame) (t : Terminal) (ts : List Terminal) → t.symbol ≡ symbol.CloseParen → Holds (Typing part) (frame.Nest m ∷ s) ts
    → OnNext (unnested m part s) (ts ++ t ∷ [])
unnested_sound m part s t ts e d =
    let under = d.2 in
    guard_not (is_empty part) (goes (Typing (Back (around_of m (part_of part)))) s) (ts ++ t ∷ [])
    (λ no. (under.0, under.1 ++ (d.1 ++ t ∷ []), under.2, around_part m part d.1 t under.3 d.3 no e, sym (within t ts d.0 d.1 under.0 under.1 d.4 under.4)))

sizeof_stands : {n k : ℕ} {ws us : List Terminal} (at begun : Place) (spec : Spec) (o : Option Built) (vs : List Terminal) (t : Terminal) → Opens (frame.Prefix at prefix.Sizeof) n ws
    → Opens (frame.Typed begun spec) k us → Declared o vs → t.symbol ≡ symbol.CloseParen → Stands 15 (sizeof_type_of at spec o) (ws ++ (us ++ (vs ++ t ∷ [])))
sizeof_stands at begun spec o vs t (opens_prefix w op le we) (opens_typed b spec' ns be sd) x e =
    record {
      tree = SizeofType w.place spec x.tree;
      height = suc (name_height x.height);
      is = sizeof_type 15 w b t (lit≤ tt) we be sd x.is e;
      kept = ap (sized w.place spec) x.kept ∙ sized_cut w.place spec x.tree x.height;
    }

cast_opens : {n : ℕ} {us : List Terminal} (begun : Place) (spec : Spec) (o : Option Built) (vs : List Terminal) (t : Terminal) → n ≤ 14 → Opens (frame.Typed begun spec) n us → Declared o vs
    → t.symbol ≡ symbol.CloseParen → Opens (frame.Cast begun spec o) n (us ++ (vs ++ t ∷ []))
cast_opens begun spec o vs t le (opens_typed b spec' ns be sd) x e = opens_cast b t spec o ns vs le be sd x e

cast_sound : (s : List Frame) (begun : Place) (spec : Spec) (part : Part) (t : Terminal) (ts : List Terminal) → t.symbol ≡ symbol.CloseParen → Holds (Typing part) (frame.Typed begun spec ∷ s) ts
    → OnNext (if nat_le (need s) 14 then goes Want (frame.Cast begun spec (part_of part) ∷ s) else None) (ts ++ t ∷ [])
cast_sound s begun spec part t ts e d =
    let under = d.2 in
    guard (nat_le (need s) 14) (goes Want (frame.Cast begun spec (part_of part) ∷ s)) (ts ++ t ∷ [])
    (λ low. (
      under.0,
      under.1 ++ (d.1 ++ t ∷ []),
      under.2,
      cast_opens begun spec (part_of part) d.1 t (leb-true _ _ low) under.3 (declared_part d.3) e,
      sym (within t ts d.0 d.1 under.0 under.1 d.4 under.4),
    ))

named_sound : (s : List Frame) (begun : Place) (spec : Spec) (part : Part) (t : Terminal) (ts : List Terminal) → t.symbol ≡ symbol.CloseParen → Holds (Typing part) (frame.Typed begun spec ∷ s) ts
    → OnNext (closed_type (sizeof_place s) begun spec (part_of part) s) (ts ++ t ∷ [])
named_sound (frame.Prefix at prefix.Sizeof ∷ s) begun spec part t ts e d =
    let under = d.2 in
    let lowest = under.2 in
    record {
      us = lowest.0;
      vs = lowest.1 ++ (under.1 ++ (d.1 ++ t ∷ []));
      stacked = lowest.2;
      stands = sizeof_stands at begun spec (part_of part) d.1 t lowest.3 under.3 (declared_part d.3) e;
      fits = need_most s;
      all = sym (within t ts d.0 d.1 under.0 under.1 d.4 under.4) ∙ ap (λ l. l ++ (under.1 ++ (d.1 ++ t ∷ []))) lowest.4 ∙ append_assoc lowest.0 lowest.1 (under.1 ++ (d.1 ++ t ∷ []));
    }
named_sound s begun spec part t ts e d = cast_sound s begun spec part t ts e d

closed_name_sound : (s : List Frame) (part : Part) (t : Terminal) (ts : List Terminal) → t.symbol ≡ symbol.CloseParen → Holds (Typing part) s ts → OnNext (typing s part symbol.CloseParen) (ts ++ t ∷ [])
closed_name_sound [] part t ts e d = tt
closed_name_sound (frame.Typed begun spec ∷ s) part t ts e d = named_sound s begun spec part t ts e d
closed_name_sound (frame.Nest m ∷ s) part t ts e d = unnested_sound m part s t ts e d
closed_name_sound (_ ∷ s) part t ts e d = tt

bound_holds : (s : List Frame) (part : Part) (t : Terminal) (ts : List Terminal) → t.symbol ≡ symbol.OpenBracket → Holds (Typing part) s ts → Stacked (frame.Bound (part_of part) ∷ s) (ts ++ t ∷ [])
bound_holds s part t ts e d = (d.0, d.1 ++ t ∷ [], d.2, opens_bound t (part_of part) d.1 (declared_part d.3) e, behind t ts d.0 d.1 d.4)

typing_sound : (s : List Frame) (part : Part) (t : Terminal) (ts : List Terminal) (y : Symbol) → t.symbol ≡ y → Holds (Typing part) s ts → OnNext (typing s part y) (ts ++ t ∷ [])
typing_sound s part t ts (symbol.Binary op.Multiply) e d = starred_sound part s t ts e d
typing_sound s part t ts (symbol.Word a_word.Int) e d = int_sound part s t ts e d
typing_sound s part t ts (symbol.Word a_word.Char) e d = tt
typing_sound s part t ts (symbol.Word a_word.Unsigned) e d = tt
typing_sound s part t ts (symbol.Word a_word.Void) e d = tt
typing_sound s part t ts symbol.OpenParen e d = nested_sound part s t ts e d
typing_sound s part t ts symbol.OpenBracket e d = bound_holds s part t ts e d
typing_sound s part t ts symbol.CloseParen e d = closed_name_sound s part t ts e d
typing_sound s part t ts _ e d = tt

-- tags
tag_opens : {n : ℕ} (begun : Place) (o w t : Terminal) → o.symbol ≡ symbol.OpenParen → o.place ≡ begun → w.symbol ≡ symbol.Struct → t.symbol ≡ symbol.Leaf Name
    → Opens (frame.Typed begun (Struct t.text)) n (o ∷ w ∷ t ∷ [])
tag_opens {n} begun o w t oe place we e =
    let P : Place → Type 0 = λ at. Opens (frame.Typed at (Struct t.text)) n (o ∷ w ∷ t ∷ []) in subst P place (opens_typed o (Struct t.text) (w ∷ t ∷ []) oe (tagged w t we e))

tagging_sound : (s : List Frame) (begun : Place) (t : Terminal) (ts : List Terminal) (y : Symbol) → t.symbol ≡ y → Holds (Tagging begun) s ts → OnNext (tagging s begun y t.text) (ts ++ t ∷ [])
tagging_sound s begun t ts (symbol.Leaf Name) e d =
    typed_holds (frame.Typed begun (Struct t.text)) s (ts ++ t ∷ []) (d.0, d.1 ∷ d.2 ∷ t ∷ [], d.3, tag_opens begun d.1 d.2 t d.4 d.5 d.6 e, behind t ts d.0 (d.1 ∷ d.2 ∷ []) d.7)
tagging_sound s begun t ts (symbol.Leaf (Constant _)) e d = tt
tagging_sound s begun t ts (symbol.Leaf (Character _)) e d = tt
tagging_sound s begun t ts (symbol.Leaf Text) e d = tt
tagging_sound s begun t ts _ e d = tt

mode_sound : (mode : Mode) (s : List Frame) (t : Terminal) (ts : List Terminal) → Holds mode s ts → OnNext (shift_mode mode s t.symbol t.place t.text) (ts ++ t ∷ [])
mode_sound Want s t ts d = wanting_sound s t ts t.symbol refl d
mode_sound (Have g) s t ts d = having_sound s g t ts t.symbol refl d
mode_sound (Naming g access) s t ts d = naming_sound s g access t ts t.symbol refl d
mode_sound (Typing part) s t ts d = typing_sound s part t ts t.symbol refl d
mode_sound (Tagging begun) s t ts d = tagging_sound s begun t ts t.symbol refl d

pub shift_sound : (p : Parser) (t : Terminal) (ts : List Terminal) → Holds p.mode p.stack ts → OnNext (shift p t) (ts ++ t ∷ [])
shift_sound p t ts d = mode_sound p.mode p.stack t ts d

next_sound : (t : Terminal) (ts done : List Terminal) → ((q : Parser) → Holds q.mode q.stack (done ++ t ∷ []) → OnNext (run ts q) ((done ++ t ∷ []) ++ ts)) → (n : Next) → OnNext n (done ++ t ∷ [])
    → OnNext (elim n [ None ↦ None | Some q ↦ run ts q ]) (done ++ t ∷ ts)
next_sound t ts done ih None d = tt
next_sound t ts done ih (Some q) d = let P : List Terminal → Type 0 = λ l. OnNext (run ts q) l in subst P (append_assoc done (t ∷ []) ts) (ih q d)

pub run_sound : (ts : List Terminal) (p : Parser) (done : List Terminal) → Holds p.mode p.stack done → OnNext (run ts p) (done ++ ts)
run_sound [] p done d = held p.mode p.stack done (done ++ []) (sym (append-nil done)) d
run_sound (t ∷ ts) p done d = next_sound t ts done (λ q k. run_sound ts q (done ++ t ∷ []) k) (shift p t) (shift_sound p t done d)

-- all that was read
abbrev pub OnWhole : Least → Option Grown → List Terminal → Type 0
OnWhole least None ts = Unit {0}
OnWhole least (Some g) ts = Stands (least_of least) g ts

kept_whole : (least : Least) (b : Bool) (g : Grown) (ts : List Terminal) → (b ≡ true → Stands (least_of least) g ts) → OnWhole least (if b then Some g else None) ts
kept_whole least true g ts h = h refl
kept_whole least false g ts h = tt

start_bottom : {n : ℕ} {vs : List Terminal} {least : Least} → Opens (frame.Start least) n vs → (n ≡ 0) × (vs ≡ [])
start_bottom (opens_start least) = (refl, refl)

no_tokens : (s : List Frame) (ts : List Terminal) → need s ≡ 0 → Stacked s ts → ts ≡ []
no_tokens [] ts e d = d
no_tokens (f ∷ s) ts e d = absurd (omega (arith, e, needs_some f))

ended_sound : (least : Least) (ts : List Terminal) (r : Grown × List Frame) → PartsOf ts r → OnWhole least (ended least r) ts
ended_sound least ts (g, []) d = tt
ended_sound least ts (g, frame.Start l ∷ s) d =
    let under = d.stacked in
    let bottom = start_bottom under.3 in
    let nothing : d.us ≡ [] = under.4 ∙ ap (λ v. under.0 ++ v) bottom.1 ∙ append-nil under.0 ∙ no_tokens s under.0 bottom.0 under.2 in
    let P : List Terminal → Type 0 = λ v. Stands (least_of least) g v in
    kept_whole least (nat_le (least_of least) g.level) g ts (λ high. subst P (sym (d.all ∙ ap (λ v. v ++ d.vs) nothing)) (loosened g d.vs d.stands (leb-true _ _ high)))
ended_sound least ts (g, _ ∷ s) d = tt

mode_whole : (least : Least) (mode : Mode) (s : List Frame) (ts : List Terminal) → Holds mode s ts → OnWhole least (whole_mode least mode s) ts
mode_whole least Want s ts d = tt
mode_whole least (Have g) s ts d = ended_sound least ts (reduce 1 g s) (reduce_sound 1 (lit≤ tt) s g ts d)
mode_whole least (Naming g access) s ts d = tt
mode_whole least (Typing part) s ts d = tt
mode_whole least (Tagging begun) s ts d = tt

pub whole_sound : (least : Least) (n : Next) (ts : List Terminal) → OnNext n ts → OnWhole least (whole least n) ts
whole_sound least None ts d = tt
whole_sound least (Some p) ts d = mode_whole least p.mode p.stack ts d

pub starts : (least : Least) → Holds Want (start least).stack []
starts least = ([], [], refl, opens_start least, refl)

-- what is read is an expression of at least the level that is wanted
pub sound : (least : Least) (ts : List Terminal) → OnWhole least (reading least ts) ts
sound least ts = whole_sound least (run ts (start least)) ts (run_sound ts (start least) [] (starts least))
