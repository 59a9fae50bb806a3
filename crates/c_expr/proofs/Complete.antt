-- Where tokens are an expression, they are read, and so is what follows them.
use Rattle.std.proofs.Common.{◌≡◌, ℕ, suc, ◌+◌, ◌≤◌, max, Bool, true, false, List, [], ◌∷◌, ◌++◌, Some, None, nat_le, nat_lt, ◌&&◌, refl, sym, ◌∙◌, ap, ap₂, arith, lit≤, le_refl, le_trans, le-leb, append_assoc, append-nil, add-one}
use Rattle.std.specs.Prelude.{if◌then◌else◌}
use Rattle.c_lex.specs.declared.token.Place.{Place}
use Rattle.c_symbol.specs.declared.terminal.Terminal.{Terminal}
use Rattle.c_symbol.specs.declared.symbol.TypeWord.TheVariants as a_word
use Rattle.c_trees.specs.declared.expression.Spec.{Spec}
use Rattle.c_trees.specs.declared.expression.Spec.TheVariants.{Unsigned, UnsignedInt, Struct}
use Rattle.c_symbol.specs.declared.symbol.LeafKind.TheVariants.{Name}
use Rattle.c_symbol.specs.declared.symbol.BinaryOp.TheVariants.{Multiply, Comma}
use Rattle.c_symbol.specs.declared.symbol.PrefixOp.{PrefixOp}
use Rattle.c_symbol.specs.declared.symbol.PrefixOp.TheVariants as prefix
use Rattle.c_symbol.specs.declared.symbol.Symbol.{Symbol}
use Rattle.c_symbol.specs.declared.symbol.Symbol.TheVariants as symbol
use Rattle.c_expr.specs.declared.call.GrownCall.{GrownCall}
use Rattle.c_expr.specs.declared.grown.Grown.{Grown}
use Rattle.c_expr.specs.declared.frame.Frame.{Frame}
use Rattle.c_expr.specs.declared.frame.Frame.TheVariants as frame
use Rattle.c_expr.specs.declared.frame.Least.{Least}
use Rattle.c_expr.specs.declared.state.Part.{Part}
use Rattle.c_expr.specs.declared.state.Part.TheVariants.{Front, Back}
use Rattle.c_expr.specs.declared.state.Mode.{Mode}
use Rattle.c_expr.specs.declared.state.Mode.TheVariants.{Want, Have, Naming, Typing, Tagging}
use Rattle.c_expr.specs.declared.state.Parser.{Parser}
use Rattle.c_trees.specs.Expressions.{Tree, Leaf, Paren, Index, Call, With, Member, After, Prefix, SizeofType, Binary, Choice, Stars, Around, Bounded, Unbounded}
use Rattle.c_expr.specs.Levels.{level_of, left_of, ends_of}
use Rattle.c_expr.specs.Grown.{cut, grow_list, leaf_of, paren_of, index_of, call_of, with_of, called_of, member_of, after_of, around_of, sizeof_type_of}
use Rattle.c_expr.specs.Frames.{least_of, need, need_of, call_part, closer_of, reduce, sizeof_place, frame_level, plug}
use Rattle.c_expr.specs.Machine.{Next, goes, wanting, part_of, is_empty, unnested, closed_type, argued, in_parens, joined, chosen, closed, shift_mode, run, start, ended, whole, reading}
use Rattle.c_expr.specs.Grammar.{prefix_symbol, stars_height, is_nothing, name_height, AreStars, no_star, star, spec_of, IsSpec, one_word, unsigned_int, tagged, IsAbstract, stars, around, bounded, unbounded, IsExpr, leaf, paren, index, member, after, prefixed, sizeof_type, cast, binary, choice, call, call_with, IsCall, first_argument, next_argument}
use Rattle.c_expr.proofs.Pieces.{piece, if_true, if_false, gt-leb, grow_cut, grow_two_cut, grow_list_cut, grow_three_cut, stars_cut, around_cut, unbounded_cut, sized_cut, cast_cut}
use Rattle.c_expr.specs.declared.frame.Closer.TheVariants.{Calls}
use Rattle.c_expr.proofs.Numbers.{level_most, level_left, level_right, ends_left, ends_most, operand_least, before_operator, before_choice, no_sizeof, least_some}

abbrev pub at_mode : Mode → List Frame → Parser
at_mode mode s = record { stack = s; mode = mode }

abbrev on_next : List Terminal → Next → Next
on_next ts next = elim next [ None ↦ None | Some q ↦ run ts q ]

-- one token
steps : (mode : Mode) (s : List Frame) (t : Terminal) (ts : List Terminal) (y : Symbol) (next : Mode) (s' : List Frame)
    → t.symbol ≡ y → shift_mode mode s y t.place t.text ≡ goes next s' → run (t ∷ ts) (at_mode mode s) ≡ run ts (at_mode next s')
steps mode s t ts y next s' e k = ap (on_next ts) (ap (λ v. shift_mode mode s v t.place t.text) e ∙ k)

-- what stands for the tokens of an expression once they are read
pub record Reached (p : ℕ) (e : Tree) (at : Place) (h : ℕ) (s : List Frame) (ts rest : List Terminal) : Type 0 where
  pub level : ℕ
  pub high : p ≤ level
  pub now : Grown
  pub stack : List Frame
  pub runs : run (ts ++ rest) (at_mode Want s) ≡ run rest (at_mode (Have now) stack)
  -- it may still have to be ended
  pub folds : (q : ℕ) → q ≤ p → q ≤ 14 → reduce q now stack ≡ reduce q (piece level e at h) s
  exact : 16 ≤ p → (now ≡ piece level e at h) × (stack ≡ s)

-- an expression that needs no ending
simple : (p level : ℕ) (e : Tree) (at : Place) (h : ℕ) (s : List Frame) (ts rest : List Terminal) (g : Grown) → p ≤ level → g ≡ piece level e at h
    → run (ts ++ rest) (at_mode Want s) ≡ run rest (at_mode (Have g) s) → Reached p e at h s ts rest
simple p level e at h s ts rest g le is r =
    record { level = level; high = le; now = g; stack = s; runs = r; folds = λ q a b. ap (λ x. reduce q x s) is; exact = λ _. (is, refl) }

-- what is read of a declarator
abbrev part_at : Tree → ℕ → Part
part_at (Stars n) m = Front n
part_at d m = Back (cut d m)

part_is : {d : Tree} {m : ℕ} {ts : List Terminal} → IsAbstract d m ts → part_of (part_at d m) ≡ cut d m
part_is (stars {n} k) = stars_cut n
part_is (around o c k oe a ne ce) = refl
part_is (bounded o c a oe d ce) = refl
part_is (unbounded o c a oe ce) = refl

not_empty : {d : Tree} {m : ℕ} {ts : List Terminal} → IsAbstract d m ts → is_nothing d ≡ false → is_empty (part_at d m) ≡ false
not_empty (stars k) h = h
not_empty (around o c k oe a ne ce) h = refl
not_empty (bounded o c a oe d ce) h = refl
not_empty (unbounded o c a oe ce) h = refl

unnests : {d : Tree} {m : ℕ} {ts : List Terminal} → IsAbstract d m ts → is_nothing d ≡ false → (n : ℕ) (s : List Frame)
    → unnested n (part_at d m) s ≡ goes (Typing (Back (cut (Around n d) (max (stars_height n) (m + 1))))) s
unnests {d} {m} a ne n s =
    if_false _ _ _ (not_empty a ne)
    ∙ ap (λ v. goes (Typing (Back (around_of n v))) s) (part_is a)
    ∙ ap (λ v. goes (Typing (Back v)) s) (around_cut n d m)

-- stars
stars_run : {n : ℕ} {ts : List Terminal} → AreStars n ts → (s : List Frame) (rest : List Terminal)
    → run (ts ++ rest) (at_mode (Typing (Front 0)) s) ≡ run rest (at_mode (Typing (Front n)) s)
stars_run no_star s rest = refl
stars_run (star {n} {ts} t d e) s rest =
    ap (λ l. run l (at_mode (Typing (Front 0)) s)) (append_assoc ts (t ∷ []) rest)
    ∙ stars_run d s (t ∷ rest)
    ∙ steps (Typing (Front n)) s t rest (symbol.Binary Multiply) (Typing (Front (n + 1))) s e refl
    ∙ ap (λ k. run rest (at_mode (Typing (Front k)) s)) (add-one n)

spec_run : {spec : Spec} {ts : List Terminal} → IsSpec spec ts → (s : List Frame) (begun : Place) (rest : List Terminal)
    → run (ts ++ rest) (at_mode Want (frame.Paren begun ∷ s)) ≡ run rest (at_mode (Typing (Front 0)) (frame.Typed begun spec ∷ s))
spec_run (one_word t w e) s begun rest = steps Want (frame.Paren begun ∷ s) t rest (symbol.Word w) (Typing (Front 0)) (frame.Typed begun (spec_of w) ∷ s) e refl
spec_run (unsigned_int t i e e') s begun rest =
    steps Want (frame.Paren begun ∷ s) t (i ∷ rest) (symbol.Word a_word.Unsigned) (Typing (Front 0)) (frame.Typed begun Unsigned ∷ s) e refl
    ∙ steps (Typing (Front 0)) (frame.Typed begun Unsigned ∷ s) i rest (symbol.Word a_word.Int) (Typing (Front 0)) (frame.Typed begun UnsignedInt ∷ s) e' refl
spec_run (tagged t name e e') s begun rest =
    steps Want (frame.Paren begun ∷ s) t (name ∷ rest) symbol.Struct (Tagging begun) s e refl
    ∙ steps (Tagging begun) s name rest (symbol.Leaf Name) (Typing (Front 0)) (frame.Typed begun (Struct name.text) ∷ s) e' refl

before_prefix : (op : PrefixOp) (at : Place) (text : List ℕ) (s : List Frame) → wanting s (prefix_symbol op) at text ≡ goes Want (frame.Prefix at op ∷ s)
before_prefix (prefix.Step _) at text s = refl
before_prefix prefix.Address at text s = refl
before_prefix prefix.Dereference at text s = refl
before_prefix prefix.Plus at text s = refl
before_prefix prefix.Minus at text s = refl
before_prefix prefix.Complement at text s = refl
before_prefix prefix.Not at text s = refl
before_prefix prefix.Sizeof at text s = refl

both : (a b c d : ℕ) (x y : Next) → a ≤ b → c ≤ d → (if nat_le a b && nat_le c d then x else y) ≡ x
both a b c d x y h k = if_true _ _ _ (ap₂ (λ u v. u && v) (le-leb a b h) (le-leb c d k))

postfix_high : (level : ℕ) (x : Next) → 16 ≤ level → (if nat_lt level 16 then None else x) ≡ x
postfix_high level x h = if_false _ _ _ (gt-leb (suc level) 16 (omega arith))

-- a frame that is ended
ended_frame : (q : ℕ) (g : Grown) (f : Frame) (s : List Frame) → q ≤ frame_level f → reduce q g (f ∷ s) ≡ reduce q (plug f g) s
ended_frame q g f s h = if_true _ _ _ (le-leb q (frame_level f) h)

abbrev call_piece : Tree → Place → ℕ → GrownCall
call_piece e at h = record { place = at; tree = cut e h }

-- what stands for the tokens of a call up to its last argument
record ReachedCall (e : Tree) (at : Place) (h : ℕ) (s : List Frame) (ts rest : List Terminal) : Type 0 where
  now : Grown
  stack : List Frame
  callee : GrownCall
  waits : Frame
  arg : Grown
  runs : run (ts ++ rest) (at_mode Want s) ≡ run rest (at_mode (Have now) stack)
  folds : reduce 1 now stack ≡ (arg, waits ∷ s)
  closes : closer_of (Some waits) ≡ Calls callee
  goes_on : call_part (Some waits) ≡ Some callee
  needs : need_of waits ≡ 2
  is : with_of callee arg ≡ call_piece e at h

and_false : (b c : Bool) (x y : Next) → c ≡ false → (if b && c then x else y) ≡ y
and_false true c x y e = if_false c x y e
and_false false c x y e = refl

comma_argues : (a : Grown) (c : GrownCall) (f : Frame) (s : List Frame) → need_of f ≡ 2 → call_part (Some f) ≡ Some c → joined Comma (a, f ∷ s) ≡ goes Want (frame.Call (with_of c a) ∷ s)
comma_argues a c f s e k =
    and_false (nat_le 1 a.level) (nat_le (need_of f) 1) (goes Want (frame.Binary Comma a ∷ f ∷ s)) (argued (call_part (Some f)) a s) (ap (λ n. nat_le n 1) e) ∙ ap (λ v. argued v a s) k

mutual
  pub reach : {p : ℕ} {e : Tree} {at : Place} {h : ℕ} {ts : List Terminal} → IsExpr p e at h ts → (s : List Frame) → need s ≤ p → (rest : List Terminal) → Reached p e at h s ts rest
  reach (leaf p t kind le e) s fits rest =
      simple p 17 (Leaf t.place kind t.text) t.place 1 s (t ∷ []) rest (leaf_of t.place kind t.text) le refl
      (steps Want s t rest (symbol.Leaf kind) (Have (leaf_of t.place kind t.text)) s e refl)
  reach (paren p o c {a} {at} {h} {ts} le oe d ce) s fits rest =
      let r = reach d (frame.Paren o.place ∷ s) (lit≤ tt) (c ∷ rest) in
      let whole_a = piece r.level a at h in
      simple p 17 (Paren o.place a) o.place (suc h) s (o ∷ (ts ++ c ∷ [])) rest (paren_of o.place whole_a) le
      (ap (λ x. record { place = o.place; level = 17; tree = x }) (grow_cut (Paren o.place) a h))
      (steps Want s o _ symbol.OpenParen Want (frame.Paren o.place ∷ s) oe refl
      ∙ ap (λ l. run l (at_mode Want (frame.Paren o.place ∷ s))) (append_assoc ts (c ∷ []) rest)
      ∙ r.runs
      ∙ steps (Have r.now) r.stack c rest symbol.CloseParen (Have (paren_of o.place whole_a)) s ce (ap (closed symbol.CloseParen) (r.folds 1 (lit≤ tt) (lit≤ tt))))
  reach (index p o c {a} {b} {at} {at'} {m} {n} {us} {vs} le d oe d' ce) s fits rest =
      let r = reach d s (omega arith) (o ∷ (vs ++ c ∷ rest)) in
      let x = r.exact (lit≤ tt) in
      let whole_a = piece r.level a at m in
      let r' = reach d' (frame.Index whole_a ∷ s) (lit≤ tt) (c ∷ rest) in
      let whole_b = piece r'.level b at' n in
      simple p 16 (Index at a b) at (suc (max m n)) s (us ++ o ∷ (vs ++ c ∷ [])) rest (index_of whole_a whole_b) le
      (ap (λ x. record { place = at; level = 16; tree = x }) (grow_two_cut (Index at) a b m n))
      (ap (λ l. run l (at_mode Want s)) (append_assoc us (o ∷ (vs ++ c ∷ [])) rest ∙ ap (λ l. us ++ o ∷ l) (append_assoc vs (c ∷ []) rest))
      ∙ r.runs
      ∙ ap₂ (λ g k. run (o ∷ (vs ++ c ∷ rest)) (at_mode (Have g) k)) x.0 x.1
      ∙ steps (Have whole_a) s o (vs ++ c ∷ rest) symbol.OpenBracket Want (frame.Index whole_a ∷ s) oe (postfix_high r.level _ r.high)
      ∙ r'.runs
      ∙ steps (Have r'.now) r'.stack c rest symbol.CloseBracket (Have (index_of whole_a whole_b)) s ce (ap (closed symbol.CloseBracket) (r'.folds 1 (lit≤ tt) (lit≤ tt))))
  reach (member p t name access {a} {at} {h} {ts} le d te ne) s fits rest =
      let r = reach d s (omega arith) (t ∷ name ∷ rest) in
      let x = r.exact (lit≤ tt) in
      let whole_a = piece r.level a at h in
      simple p 16 (Member at a access name.place name.text) at (suc h) s (ts ++ t ∷ name ∷ []) rest (member_of whole_a access name.place name.text) le
      (ap (λ x. record { place = at; level = 16; tree = x }) (grow_cut (λ b. Member at b access name.place name.text) a h))
      (ap (λ l. run l (at_mode Want s)) (append_assoc ts (t ∷ name ∷ []) rest)
      ∙ r.runs
      ∙ ap₂ (λ g k. run (t ∷ name ∷ rest) (at_mode (Have g) k)) x.0 x.1
      ∙ steps (Have whole_a) s t (name ∷ rest) (symbol.Access access) (Naming whole_a access) s te (postfix_high r.level _ r.high)
      ∙ steps (Naming whole_a access) s name rest (symbol.Leaf Name) (Have (member_of whole_a access name.place name.text)) s ne refl)
  reach (after p t step {a} {at} {h} {ts} le d te) s fits rest =
      let r = reach d s (omega arith) (t ∷ rest) in
      let x = r.exact (lit≤ tt) in
      let whole_a = piece r.level a at h in
      simple p 16 (After at a step) at (suc h) s (ts ++ t ∷ []) rest (after_of whole_a step) le
      (ap (λ x. record { place = at; level = 16; tree = x }) (grow_cut (λ b. After at b step) a h))
      (ap (λ l. run l (at_mode Want s)) (append_assoc ts (t ∷ []) rest)
      ∙ r.runs
      ∙ ap₂ (λ g k. run (t ∷ rest) (at_mode (Have g) k)) x.0 x.1
      ∙ steps (Have whole_a) s t rest (symbol.Step step) (Have (after_of whole_a step)) s te (postfix_high r.level _ r.high))
  reach (prefixed p t op {a} {at} {h} {ts} le te d) s fits rest =
      let r = reach d (frame.Prefix t.place op ∷ s) (le_refl _) rest in
      let whole_a = piece r.level a at h in
      record {
        level = 15;
        high = le;
        now = r.now;
        stack = r.stack;
        runs = steps Want s t (ts ++ rest) (prefix_symbol op) Want (frame.Prefix t.place op ∷ s) te (before_prefix op t.place t.text s) ∙ r.runs;
        folds = λ q a1 a2. r.folds q (le_trans a2 (operand_least op)) a2
            ∙ ended_frame q whole_a (frame.Prefix t.place op) s (omega arith)
            ∙ ap (λ x. reduce q (record { place = t.place; level = 15; tree = x }) s) (grow_cut (Prefix t.place op) a h);
        exact = λ big. absurd (omega arith);
      }
  reach (sizeof_type p t o c {spec} {d} {m} {us} {ts} le te oe sd d' ce) s fits rest =
      let under = frame.Prefix t.place prefix.Sizeof ∷ s in
      simple p 15 (SizeofType t.place spec d) t.place (suc (name_height m)) s (t ∷ o ∷ (us ++ (ts ++ c ∷ []))) rest (sizeof_type_of t.place spec (cut d m)) le
      (ap (λ x. record { place = t.place; level = 15; tree = x }) (sized_cut t.place spec d m))
      (steps Want s t (o ∷ ((us ++ (ts ++ c ∷ [])) ++ rest)) symbol.Sizeof Want under te refl
      ∙ steps Want under o ((us ++ (ts ++ c ∷ [])) ++ rest) symbol.OpenParen Want (frame.Paren o.place ∷ under) oe refl
      ∙ ap (λ l. run l (at_mode Want (frame.Paren o.place ∷ under))) (append_assoc us (ts ++ c ∷ []) rest ∙ ap (λ l. us ++ l) (append_assoc ts (c ∷ []) rest))
      ∙ spec_run sd under o.place (ts ++ c ∷ rest)
      ∙ reach_abstract d' (frame.Typed o.place spec ∷ under) (c ∷ rest)
      ∙ steps (Typing (part_at d m)) (frame.Typed o.place spec ∷ under) c rest symbol.CloseParen (Have (sizeof_type_of t.place spec (cut d m))) s ce
      (ap (λ v. goes (Have (sizeof_type_of t.place spec v)) s) (part_is d')))
  reach (cast p o c {spec} {d} {m} {us} {ts} {a} {at} {h} {vs} le oe sd d' ce d'') s fits rest =
      let r = reach d'' (frame.Cast o.place spec (cut d m) ∷ s) (lit≤ tt) rest in
      let whole_a = piece r.level a at h in
      let low : need s ≤ 14 = le_trans fits le in
      let ends : closed_type (sizeof_place s) o.place spec (part_of (part_at d m)) s ≡ goes Want (frame.Cast o.place spec (cut d m) ∷ s) =
      ap (λ v. closed_type v o.place spec (part_of (part_at d m)) s) (no_sizeof s low) ∙ if_true _ _ _ (le-leb (need s) 14 low)
      ∙ ap (λ v. goes Want (frame.Cast o.place spec v ∷ s)) (part_is d') in
      record {
        level = 14;
        high = le;
        now = r.now;
        stack = r.stack;
        runs = steps Want s o _ symbol.OpenParen Want (frame.Paren o.place ∷ s) oe refl
            ∙ ap (λ l. run l (at_mode Want (frame.Paren o.place ∷ s))) (append_assoc us (ts ++ c ∷ vs) rest ∙ ap (λ l. us ++ l) (append_assoc ts (c ∷ vs) rest))
            ∙ spec_run sd s o.place (ts ++ c ∷ (vs ++ rest))
            ∙ reach_abstract d' (frame.Typed o.place spec ∷ s) (c ∷ (vs ++ rest))
            ∙ steps (Typing (part_at d m)) (frame.Typed o.place spec ∷ s) c (vs ++ rest) symbol.CloseParen Want (frame.Cast o.place spec (cut d m) ∷ s) ce ends
            ∙ r.runs;
        folds = λ q a1 a2. r.folds q a2 a2
            ∙ ended_frame q whole_a (frame.Cast o.place spec (cut d m)) s a2
            ∙ ap (λ x. reduce q (record { place = o.place; level = 14; tree = x }) s) (cast_cut o.place spec d a m h);
        exact = λ big. absurd (omega arith);
      }
  reach (binary p t op {a} {b} {at} {at'} {m} {n} {us} {vs} le d te d') s fits rest =
      let low : need s ≤ level_of op = le_trans fits le in
      let r = reach d s (le_trans low (level_left op)) (t ∷ (vs ++ rest)) in
      let whole_a = piece r.level a at m in
      let r' = reach d' (frame.Binary op whole_a ∷ s) (le_refl _) rest in
      let whole_b = piece r'.level b at' n in
      let joins : joined op (reduce (ends_of op) r.now r.stack) ≡ goes Want (frame.Binary op whole_a ∷ s) =
      ap (joined op) (r.folds (ends_of op) (ends_left op) (ends_most op) ∙ before_operator op whole_a s low)
      ∙ both (left_of op) r.level (need s) (level_of op) _ _ r.high low in
      record {
        level = level_of op;
        high = le;
        now = r'.now;
        stack = r'.stack;
        runs = ap (λ l. run l (at_mode Want s)) (append_assoc us (t ∷ vs) rest)
            ∙ r.runs
            ∙ steps (Have r.now) r.stack t (vs ++ rest) (symbol.Binary op) Want (frame.Binary op whole_a ∷ s) te joins
            ∙ r'.runs;
        folds = λ q a1 a2. r'.folds q (le_trans (le_trans a1 le) (level_right op)) a2
            ∙ ended_frame q whole_b (frame.Binary op whole_a) s (le_trans a1 le)
            ∙ ap (λ x. reduce q (record { place = at; level = level_of op; tree = x }) s) (grow_two_cut (Binary at op) a b m n);
        exact = λ big. absurd (omega (arith, level_most op));
      }
  reach (choice p o c {a} {b} {e} {at} {at'} {at''} {l} {m} {n} {us} {vs} {ws} le d oe d' ce d'') s fits rest =
      let low : need s ≤ 3 = le_trans fits le in
      let r = reach d s (omega arith) (o ∷ (vs ++ c ∷ (ws ++ rest))) in
      let whole_a = piece r.level a at l in
      let r' = reach d' (frame.Then whole_a ∷ s) (lit≤ tt) (c ∷ (ws ++ rest)) in
      let whole_b = piece r'.level b at' m in
      let r'' = reach d'' (frame.Else whole_a whole_b ∷ s) (lit≤ tt) rest in
      let whole_e = piece r''.level e at'' n in
      let chooses : chosen (reduce 4 r.now r.stack) ≡ goes Want (frame.Then whole_a ∷ s) =
      ap chosen (r.folds 4 (lit≤ tt) (lit≤ tt) ∙ before_choice whole_a s low)
      ∙ both 4 r.level (need s) 3 _ _ r.high low in
      record {
        level = 3;
        high = le;
        now = r''.now;
        stack = r''.stack;
        runs = ap (λ k. run k (at_mode Want s)) (append_assoc us (o ∷ (vs ++ c ∷ ws)) rest ∙ ap (λ k. us ++ o ∷ k) (append_assoc vs (c ∷ ws) rest))
            ∙ r.runs
            ∙ steps (Have r.now) r.stack o (vs ++ c ∷ (ws ++ rest)) symbol.Question Want (frame.Then whole_a ∷ s) oe chooses
            ∙ r'.runs
            ∙ steps (Have r'.now) r'.stack c (ws ++ rest) symbol.Colon Want (frame.Else whole_a whole_b ∷ s) ce (ap (closed symbol.Colon) (r'.folds 1 (lit≤ tt) (lit≤ tt)))
            ∙ r''.runs;
        folds = λ q a1 a2. r''.folds q (le_trans a1 le) a2
            ∙ ended_frame q whole_e (frame.Else whole_a whole_b) s (le_trans a1 le)
            ∙ ap (λ x. reduce q (record { place = at; level = 3; tree = x }) s) (grow_three_cut (Choice at) a b e l m n);
        exact = λ big. absurd (omega arith);
      }
  reach (call p o c {f} {at} {h} {us} le d oe ce) s fits rest =
      let r = reach d s (omega arith) (o ∷ c ∷ rest) in
      let x = r.exact (lit≤ tt) in
      let whole_f = piece r.level f at h in
      simple p 16 (Call at f) at (suc h) s (us ++ o ∷ c ∷ []) rest (called_of (call_of whole_f)) le
      (ap (λ x. record { place = at; level = 16; tree = x }) (grow_cut (Call at) f h))
      (ap (λ l. run l (at_mode Want s)) (append_assoc us (o ∷ c ∷ []) rest)
      ∙ r.runs
      ∙ ap₂ (λ g k. run (o ∷ c ∷ rest) (at_mode (Have g) k)) x.0 x.1
      ∙ steps (Have whole_f) s o (c ∷ rest) symbol.OpenParen Want (frame.Begun (call_of whole_f) ∷ s) oe (postfix_high r.level (goes Want (frame.Begun (call_of whole_f) ∷ s)) r.high)
      ∙ steps Want (frame.Begun (call_of whole_f) ∷ s) c rest symbol.CloseParen (Have (called_of (call_of whole_f))) s ce refl)
  reach (call_with p c {e} {at} {h} {us} le d ce) s fits rest =
      let r = reach_call d s (omega arith) (c ∷ rest) in
      simple p 16 e at h s (us ++ c ∷ []) rest (called_of (with_of r.callee r.arg)) le (ap called_of r.is)
      (ap (λ l. run l (at_mode Want s)) (append_assoc us (c ∷ []) rest)
      ∙ r.runs
      ∙ steps (Have r.now) r.stack c rest symbol.CloseParen (Have (called_of (with_of r.callee r.arg))) s ce (ap (closed symbol.CloseParen) r.folds ∙ ap (λ v. in_parens v r.arg s) r.closes))

  reach_call : {e : Tree} {at : Place} {h : ℕ} {ts : List Terminal} → IsCall e at h ts → (s : List Frame) → need s ≤ 16 → (rest : List Terminal) → ReachedCall e at h s ts rest
  reach_call (first_argument o {f} {a} {at} {at'} {m} {n} {us} {vs} d oe d') s fits rest =
      let r = reach d s fits (o ∷ (vs ++ rest)) in
      let x = r.exact (lit≤ tt) in
      let whole_f = piece r.level f at m in
      let r' = reach d' (frame.Begun (call_of whole_f) ∷ s) (lit≤ tt) rest in
      record {
        now = r'.now;
        stack = r'.stack;
        callee = call_of whole_f;
        waits = frame.Begun (call_of whole_f);
        arg = piece r'.level a at' n;
        runs = ap (λ l. run l (at_mode Want s)) (append_assoc us (o ∷ vs) rest)
            ∙ r.runs
            ∙ ap₂ (λ g k. run (o ∷ (vs ++ rest)) (at_mode (Have g) k)) x.0 x.1
            ∙ steps (Have whole_f) s o (vs ++ rest) symbol.OpenParen Want (frame.Begun (call_of whole_f) ∷ s) oe (postfix_high r.level (goes Want (frame.Begun (call_of whole_f) ∷ s)) r.high)
            ∙ r'.runs;
        folds = r'.folds 1 (lit≤ tt) (lit≤ tt);
        closes = refl;
        goes_on = refl;
        needs = refl;
        is = ap (λ x. record { place = at; tree = grow_list 63 2 With x (cut a n) }) (grow_cut (Call at) f m) ∙ ap (λ x. record { place = at; tree = x }) (grow_list_cut 63 2 refl With (Call at f) a (suc m) n);
      }
  reach_call (next_argument t {f} {a} {at} {at'} {m} {n} {us} {vs} d te d') s fits rest =
      let r = reach_call d s fits (t ∷ (vs ++ rest)) in
      let callee = with_of r.callee r.arg in
      let r' = reach d' (frame.Call callee ∷ s) (lit≤ tt) rest in
      record {
        now = r'.now;
        stack = r'.stack;
        callee = callee;
        waits = frame.Call callee;
        arg = piece r'.level a at' n;
        runs = ap (λ l. run l (at_mode Want s)) (append_assoc us (t ∷ vs) rest)
            ∙ r.runs
            ∙ steps (Have r.now) r.stack t (vs ++ rest) (symbol.Binary Comma) Want (frame.Call callee ∷ s) te
            (ap (joined Comma) r.folds ∙ comma_argues r.arg r.callee r.waits s r.needs r.goes_on)
            ∙ r'.runs;
        folds = r'.folds 1 (lit≤ tt) (lit≤ tt);
        closes = refl;
        goes_on = refl;
        needs = refl;
        is = ap (λ c. with_of c (piece r'.level a at' n)) r.is ∙ ap (λ x. record { place = at; tree = x }) (grow_list_cut 63 2 refl With f a m n);
      }

  reach_abstract : {d : Tree} {m : ℕ} {ts : List Terminal} → IsAbstract d m ts → (s : List Frame) (rest : List Terminal)
      → run (ts ++ rest) (at_mode (Typing (Front 0)) s) ≡ run rest (at_mode (Typing (part_at d m)) s)
  reach_abstract (stars k) s rest = stars_run k s rest
  reach_abstract (around o c {n} {d} {m} {us} {ts} k oe a ne ce) s rest =
      ap (λ l. run l (at_mode (Typing (Front 0)) s)) (append_assoc us (o ∷ (ts ++ c ∷ [])) rest ∙ ap (λ l. us ++ o ∷ l) (append_assoc ts (c ∷ []) rest))
      ∙ stars_run k s (o ∷ (ts ++ c ∷ rest))
      ∙ steps (Typing (Front n)) s o (ts ++ c ∷ rest) symbol.OpenParen (Typing (Front 0)) (frame.Nest n ∷ s) oe refl
      ∙ reach_abstract a (frame.Nest n ∷ s) (c ∷ rest)
      ∙ steps (Typing (part_at d m)) (frame.Nest n ∷ s) c rest symbol.CloseParen (Typing (Back (cut (Around n d) (max (stars_height n) (m + 1))))) s ce (unnests a ne n s)
  reach_abstract (bounded o c {d} {e} {at} {m} {h} {us} {vs} a oe d' ce) s rest =
      let r = reach d' (frame.Bound (cut d m) ∷ s) (lit≤ tt) (c ∷ rest) in
      ap (λ l. run l (at_mode (Typing (Front 0)) s)) (append_assoc us (o ∷ (vs ++ c ∷ [])) rest ∙ ap (λ l. us ++ o ∷ l) (append_assoc vs (c ∷ []) rest))
      ∙ reach_abstract a s (o ∷ (vs ++ c ∷ rest))
      ∙ steps (Typing (part_at d m)) s o (vs ++ c ∷ rest) symbol.OpenBracket Want (frame.Bound (cut d m) ∷ s) oe (ap (λ v. goes Want (frame.Bound v ∷ s)) (part_is a))
      ∙ r.runs
      ∙ steps (Have r.now) r.stack c rest symbol.CloseBracket (Typing (Back (cut (Bounded d e) (max m (h + 1))))) s ce
      (ap (closed symbol.CloseBracket) (r.folds 1 (lit≤ tt) (lit≤ tt)) ∙ ap (λ v. goes (Typing (Back v)) s) (grow_list_cut 64 1 refl Bounded d e m h))
  reach_abstract (unbounded o c {d} {m} {us} a oe ce) s rest =
      ap (λ l. run l (at_mode (Typing (Front 0)) s)) (append_assoc us (o ∷ c ∷ []) rest)
      ∙ reach_abstract a s (o ∷ c ∷ rest)
      ∙ steps (Typing (part_at d m)) s o (c ∷ rest) symbol.OpenBracket Want (frame.Bound (cut d m) ∷ s) oe (ap (λ v. goes Want (frame.Bound v ∷ s)) (part_is a))
      ∙ steps Want (frame.Bound (cut d m) ∷ s) c rest symbol.CloseBracket (Typing (Back (cut (Unbounded d) (max m 2)))) s ce (ap (λ v. goes (Typing (Back v)) s) (unbounded_cut d m))

pub ends_whole : (least : Least) (level : ℕ) (e : Tree) (at : Place) (h : ℕ) → least_of least ≤ level → ended least (piece level e at h, frame.Start least ∷ []) ≡ Some (piece level e at h)
ends_whole least level e at h le = ap (λ b. if b then Some (piece level e at h) else None) (le-leb (least_of least) level le)

-- an expression's tokens are read as it
pub complete : (least : Least) {e : Tree} {at : Place} {h : ℕ} {ts : List Terminal} → IsExpr (least_of least) e at h ts → (level : ℕ) × (reading least ts ≡ Some (piece level e at h))
complete least {e} {at} {h} {ts} d =
    let r = reach d (frame.Start least ∷ []) (le_refl _) [] in
    (r.level, ap (λ l. whole least (run l (start least))) (sym (append-nil ts)) ∙ ap (whole least) r.runs ∙ ap (ended least) (r.folds 1 (least_some least) (lit≤ tt)) ∙ ends_whole least r.level e at h r.high)
