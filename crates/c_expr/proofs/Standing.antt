-- What the tokens of a stack of frames are, and expressions in their frames.
use Rattle.std.proofs.Common.{◌≡◌, ℕ, suc, ◌≤◌, max, Bool, true, false, List, [], ◌∷◌, ◌++◌, Option, Some, None, nat_le, refl, sym, ◌∙◌, ap, subst, arith, lit≤, le_refl, le_trans, leb-true, append_assoc}
use Rattle.std.specs.Prelude.{if◌then◌else◌}
use Rattle.c_lex.specs.declared.token.Place.{Place}
use Rattle.c_symbol.specs.declared.terminal.Terminal.{Terminal}
use Rattle.c_trees.specs.declared.expression.Spec.{Spec}
use Rattle.c_symbol.specs.declared.symbol.BinaryOp.{BinaryOp}
use Rattle.c_symbol.specs.declared.symbol.BinaryOp.TheVariants as op
use Rattle.c_symbol.specs.declared.symbol.PrefixOp.{PrefixOp}
use Rattle.c_symbol.specs.declared.symbol.Symbol.TheVariants as symbol
use Rattle.c_expr.specs.declared.grown.Built.{Built}
use Rattle.c_expr.specs.declared.grown.Grown.{Grown}
use Rattle.c_expr.specs.declared.call.GrownCall.{GrownCall}
use Rattle.c_expr.specs.declared.frame.Least.{Least}
use Rattle.c_expr.specs.declared.frame.Frame.{Frame}
use Rattle.c_expr.specs.declared.frame.Frame.TheVariants as frame
use Rattle.c_expr.specs.declared.state.Part.{Part}
use Rattle.c_expr.specs.declared.state.Part.TheVariants.{Front, Back}
use Rattle.c_expr.specs.declared.state.Mode.{Mode}
use Rattle.c_expr.specs.declared.state.Mode.TheVariants.{Want, Have, Naming, Typing, Tagging}
use Rattle.c_trees.specs.Expressions.{Tree, Prefix, Cast, Binary, Choice}
use Rattle.c_expr.specs.Levels.{level_of, left_of}
use Rattle.c_expr.specs.Grown.{cut, grow, call_of, grow_two, grow_three, cast_tree}
use Rattle.c_expr.specs.Frames.{need, need_of, reduce, frame_level, plug}
use Rattle.c_expr.specs.Machine.{Next}
use Rattle.c_expr.specs.Grammar.{prefix_symbol, is_nothing, name_height, AreStars, IsSpec, IsAbstract, IsExpr, leaf, paren, index, member, after, prefixed, sizeof_type, cast, binary, choice, call, call_with, IsCall}
use Rattle.c_expr.proofs.Pieces.{grow_cut, grow_two_cut, grow_three_cut, cast_cut}
use Rattle.c_expr.proofs.Numbers.{operand_most, right_most, least_most}

-- a rule of a looser level
pub lower : {p q : ℕ} {e : Tree} {at : Place} {h : ℕ} {ts : List Terminal} → IsExpr p e at h ts → q ≤ p → IsExpr q e at h ts
lower (leaf p t kind le e) k = leaf _ t kind (le_trans k le) e
lower (paren p o c le oe d ce) k = paren _ o c (le_trans k le) oe d ce
lower (index p o c le d oe d' ce) k = index _ o c (le_trans k le) d oe d' ce
lower (member p t name access le d te ne) k = member _ t name access (le_trans k le) d te ne
lower (after p t step le d te) k = after _ t step (le_trans k le) d te
lower (prefixed p t op le te d) k = prefixed _ t op (le_trans k le) te d
lower (sizeof_type p t o c le te oe sd d ce) k = sizeof_type _ t o c (le_trans k le) te oe sd d ce
lower (cast p o c le oe sd d ce d') k = cast _ o c (le_trans k le) oe sd d ce d'
lower (binary p t op le d te d') k = binary _ t op (le_trans k le) d te d'
lower (call p o c le d oe ce) k = call _ o c (le_trans k le) d oe ce
lower (call_with p c le d ce) k = call_with _ c (le_trans k le) d ce
lower (choice p o c le d oe d' ce d'') k = choice _ o c (le_trans k le) d oe d' ce d''

pub moved : {p : ℕ} {e : Tree} {at : Place} {h : ℕ} (us vs : List Terminal) → us ≡ vs → IsExpr p e at h us → IsExpr p e at h vs
moved {p} {e} {at} {h} us vs same d = let P : List Terminal → Type 0 = λ l. IsExpr p e at h l in subst P same d

-- the tokens are an expression of at least this level, of which this is the part that is kept
pub record Stands (p : ℕ) (g : Grown) (ts : List Terminal) : Type 0 where
  pub tree : Tree
  pub height : ℕ
  pub is : IsExpr p tree g.place height ts
  pub kept : g.tree ≡ cut tree height

pub loosened : {p q : ℕ} (g : Grown) (ts : List Terminal) → Stands p g ts → q ≤ p → Stands q g ts
loosened g ts d k = record { tree = d.tree; height = d.height; is = lower d.is k; kept = d.kept }

-- the tokens are a declarator, of which this is the part that is kept
pub record Declared (o : Option Built) (ts : List Terminal) : Type 0 where
  pub tree : Tree
  pub height : ℕ
  pub is : IsAbstract tree height ts
  pub kept : o ≡ cut tree height

-- the tokens are a call up to its last argument
pub record StandsCall (g : GrownCall) (ts : List Terminal) : Type 0 where
  pub tree : Tree
  pub height : ℕ
  pub is : IsCall tree g.place height ts
  pub kept : g.tree ≡ cut tree height

-- the tokens of a frame, over a stack that needs n
pub data Opens : Frame → ℕ → List Terminal → Type 0 where
  opens_prefix : {n : ℕ} (t : Terminal) (op : PrefixOp) → n ≤ 15 → t.symbol ≡ prefix_symbol op → Opens (frame.Prefix t.place op) n (t ∷ [])
  opens_start : (least : Least) → Opens (frame.Start least) 0 []
  opens_typed : {n : ℕ} (o : Terminal) (spec : Spec) (us : List Terminal) → o.symbol ≡ symbol.OpenParen → IsSpec spec us → Opens (frame.Typed o.place spec) n (o ∷ us)
  opens_nest : {n : ℕ} (o : Terminal) (k : ℕ) (us : List Terminal) → AreStars k us → o.symbol ≡ symbol.OpenParen → Opens (frame.Nest k) n (us ++ o ∷ [])
  opens_bound : {n : ℕ} (o : Terminal) (d : Option Built) (us : List Terminal) → Declared d us → o.symbol ≡ symbol.OpenBracket → Opens (frame.Bound d) n (us ++ o ∷ [])
  opens_cast : {n : ℕ} (o c : Terminal) (spec : Spec) (d : Option Built) (us ts : List Terminal) → n ≤ 14 → o.symbol ≡ symbol.OpenParen → IsSpec spec us → Declared d ts → c.symbol ≡ symbol.CloseParen
      → Opens (frame.Cast o.place spec d) n (o ∷ (us ++ (ts ++ c ∷ [])))
  opens_binary : {n : ℕ} (t : Terminal) (op : BinaryOp) (g : Grown) (ts : List Terminal) → n ≤ level_of op → Stands (left_of op) g ts → t.symbol ≡ symbol.Binary op
      → Opens (frame.Binary op g) n (ts ++ t ∷ [])
  opens_then : {n : ℕ} (t : Terminal) (g : Grown) (ts : List Terminal) → n ≤ 3 → Stands 4 g ts → t.symbol ≡ symbol.Question → Opens (frame.Then g) n (ts ++ t ∷ [])
  opens_else : {n : ℕ} (t c : Terminal) (a b : Grown) (us vs : List Terminal) → n ≤ 3 → Stands 4 a us → t.symbol ≡ symbol.Question → Stands 1 b vs → c.symbol ≡ symbol.Colon
      → Opens (frame.Else a b) n (us ++ t ∷ (vs ++ c ∷ []))
  opens_paren : {n : ℕ} (t : Terminal) → t.symbol ≡ symbol.OpenParen → Opens (frame.Paren t.place) n (t ∷ [])
  opens_index : {n : ℕ} (t : Terminal) (g : Grown) (ts : List Terminal) → n ≤ 16 → Stands 16 g ts → t.symbol ≡ symbol.OpenBracket → Opens (frame.Index g) n (ts ++ t ∷ [])
  opens_begun : {n : ℕ} (t : Terminal) (g : Grown) (ts : List Terminal) → n ≤ 16 → Stands 16 g ts → t.symbol ≡ symbol.OpenParen → Opens (frame.Begun (call_of g)) n (ts ++ t ∷ [])
  opens_call : {n : ℕ} (t : Terminal) (g : GrownCall) (ts : List Terminal) → n ≤ 16 → StandsCall g ts → t.symbol ≡ symbol.Binary op.Comma → Opens (frame.Call g) n (ts ++ t ∷ [])

-- the tokens of a stack
abbrev pub Stacked : List Frame → List Terminal → Type 0
Stacked [] ts = ts ≡ []
Stacked (f ∷ s) ts = (us : List Terminal) × (vs : List Terminal) × Stacked s us × Opens f (need s) vs × (ts ≡ us ++ vs)

-- the tokens of a stack and of an expression on it
pub record Parts (g : Grown) (s : List Frame) (ts : List Terminal) : Type 0 where
  pub us : List Terminal
  pub vs : List Terminal
  pub stacked : Stacked s us
  pub stands : Stands g.level g vs
  pub fits : need s ≤ g.level
  pub all : ts ≡ us ++ vs

pub need_most : (s : List Frame) → need s ≤ 15
need_most [] = lit≤ tt
need_most (frame.Start least ∷ s) = le_trans (least_most least) (lit≤ tt)
need_most (frame.Typed _ _ ∷ s) = lit≤ tt
need_most (frame.Nest _ ∷ s) = lit≤ tt
need_most (frame.Bound _ ∷ s) = lit≤ tt
need_most (frame.Prefix _ op ∷ s) = operand_most op
need_most (frame.Cast _ _ _ ∷ s) = lit≤ tt
need_most (frame.Binary op _ ∷ s) = right_most op
need_most (frame.Then _ ∷ s) = lit≤ tt
need_most (frame.Else _ _ ∷ s) = lit≤ tt
need_most (frame.Paren _ ∷ s) = lit≤ tt
need_most (frame.Index _ ∷ s) = lit≤ tt
need_most (frame.Begun _ ∷ s) = lit≤ tt
need_most (frame.Call _ ∷ s) = lit≤ tt

-- an expression in its frame
pub plug_fits : {f : Frame} {n : ℕ} {vs : List Terminal} → Opens f n vs → (g : Grown) → 1 ≤ frame_level f → n ≤ (plug f g).level
plug_fits (opens_prefix t op le e) g some = le
plug_fits (opens_start least) g some = absurd (omega arith)
plug_fits (opens_typed o spec us oe sd) g some = absurd (omega arith)
plug_fits (opens_nest o k us ks oe) g some = absurd (omega arith)
plug_fits (opens_bound o d us x oe) g some = absurd (omega arith)
plug_fits (opens_cast o c spec d us ts le oe sd x ce) g some = le
plug_fits (opens_binary t op a ts le d e) g some = le
plug_fits (opens_then t a ts le d e) g some = absurd (omega arith)
plug_fits (opens_else t c a b us vs le d te d' ce) g some = le
plug_fits (opens_paren t e) g some = absurd (omega arith)
plug_fits (opens_index t a ts le d e) g some = absurd (omega arith)
plug_fits (opens_begun t a ts le d e) g some = absurd (omega arith)
plug_fits (opens_call t a ts le d e) g some = absurd (omega arith)

pub plug_stands : {f : Frame} {n : ℕ} {vs : List Terminal} → Opens f n vs → (g : Grown) (ts : List Terminal) → 1 ≤ frame_level f → Stands (need_of f) g ts → Stands (plug f g).level (plug f g) (vs ++ ts)
plug_stands (opens_prefix t op le e) g ts some d =
    record { tree = Prefix t.place op d.tree; height = suc d.height; is = prefixed 15 t op (lit≤ tt) e d.is; kept = ap (grow (Prefix t.place op)) d.kept ∙ grow_cut (Prefix t.place op) d.tree d.height }
plug_stands (opens_start least) g ts some d = absurd (omega arith)
plug_stands (opens_typed o spec us oe sd) g ts some d = absurd (omega arith)
plug_stands (opens_nest o k us ks oe) g ts some d = absurd (omega arith)
plug_stands (opens_bound o x us dx oe) g ts some d = absurd (omega arith)
plug_stands (opens_cast o c spec dd us ns le oe sd x ce) g ts some d =
    record {
      tree = Cast o.place spec x.tree d.tree;
      height = suc (max (name_height x.height) d.height);
      is = moved (o ∷ (us ++ (ns ++ c ∷ ts))) (o ∷ ((us ++ (ns ++ c ∷ [])) ++ ts))
          (ap (λ l. o ∷ l) (ap (λ l. us ++ l) (sym (append_assoc ns (c ∷ []) ts)) ∙ sym (append_assoc us (ns ++ c ∷ []) ts)))
          (cast 14 o c (lit≤ tt) oe sd x.is ce d.is);
      kept = ap (λ v. cast_tree o.place spec v g.tree) x.kept ∙ ap (cast_tree o.place spec (cut x.tree x.height)) d.kept ∙ cast_cut o.place spec x.tree d.tree x.height d.height;
    }
plug_stands (opens_binary t op a us le d' e) g ts some d =
    record {
      tree = Binary a.place op d'.tree d.tree;
      height = suc (max d'.height d.height);
      is = moved (us ++ t ∷ ts) ((us ++ t ∷ []) ++ ts) (sym (append_assoc us (t ∷ []) ts)) (binary (level_of op) t op (le_refl _) d'.is e d.is);
      kept = ap (λ o. grow_two (Binary a.place op) o g.tree) d'.kept ∙ ap (grow_two (Binary a.place op) (cut d'.tree d'.height)) d.kept ∙ grow_two_cut (Binary a.place op) d'.tree d.tree d'.height d.height;
    }
plug_stands (opens_then t a us le d' e) g ts some d = absurd (omega arith)
plug_stands (opens_else t c a b us vs le d' te d'' ce) g ts some d =
    record {
      tree = Choice a.place d'.tree d''.tree d.tree;
      height = suc (max d'.height (max d''.height d.height));
      is = moved (us ++ t ∷ (vs ++ c ∷ ts)) ((us ++ t ∷ (vs ++ c ∷ [])) ++ ts)
          (ap (λ l. us ++ t ∷ l) (sym (append_assoc vs (c ∷ []) ts)) ∙ sym (append_assoc us (t ∷ (vs ++ c ∷ [])) ts))
          (choice 3 t c (lit≤ tt) d'.is te d''.is ce d.is);
      kept = ap (λ o. grow_three (Choice a.place) o b.tree g.tree) d'.kept ∙ ap (λ o. grow_three (Choice a.place) (cut d'.tree d'.height) o g.tree) d''.kept
          ∙ ap (grow_three (Choice a.place) (cut d'.tree d'.height) (cut d''.tree d''.height)) d.kept
          ∙ grow_three_cut (Choice a.place) d'.tree d''.tree d.tree d'.height d''.height d.height;
    }
plug_stands (opens_paren t e) g ts some d = absurd (omega arith)
plug_stands (opens_index t a us le d' e) g ts some d = absurd (omega arith)
plug_stands (opens_begun t a us le d' e) g ts some d = absurd (omega arith)
plug_stands (opens_call t a us le d' e) g ts some d = absurd (omega arith)

pub either : {T : Type 0} (P : T → Type 0) (b : Bool) (x y : T) → (b ≡ true → P x) → P y → P (if b then x else y)
either P true x y h k = h refl
either P false x y h k = k

abbrev pub PartsOf : List Terminal → Grown × List Frame → Type 0
PartsOf ts r = Parts r.0 r.1 ts

-- ending expressions
pub reduce_sound : (q : ℕ) → 1 ≤ q → (s : List Frame) (g : Grown) (ts : List Terminal) → Parts g s ts → PartsOf ts (reduce q g s)
reduce_sound q some [] g ts d = d
reduce_sound q some (f ∷ s) g ts d =
    either (PartsOf ts) (nat_le q (frame_level f)) (reduce q (plug f g) s) (g, f ∷ s)
    (λ yes.
    let level : q ≤ frame_level f = leb-true q (frame_level f) yes in
    let under = d.stacked in
    reduce_sound q some s (plug f g) ts (record {
      us = under.0;
      vs = under.1 ++ d.vs;
      stacked = under.2;
      stands = plug_stands under.3 g d.vs (le_trans some level) (loosened g d.vs d.stands d.fits);
      fits = plug_fits under.3 g (le_trans some level);
      all = d.all ∙ ap (λ l. l ++ d.vs) under.4 ∙ append_assoc under.0 under.1 d.vs;
    }))
    d

-- the tokens of a declarator so far
pub data IsPart : Part → List Terminal → Type 0 where
  front : {n : ℕ} {ts : List Terminal} → AreStars n ts → IsPart (Front n) ts
  back : {ts : List Terminal} (d : Option Built) (x : Declared d ts) → is_nothing x.tree ≡ false → IsPart (Back d) ts

-- what holds of a state after some tokens
abbrev pub Holds : Mode → List Frame → List Terminal → Type 0
Holds Want s ts = Stacked s ts
Holds (Have g) s ts = Parts g s ts
Holds (Naming g access) s ts = (us : List Terminal) × (t : Terminal) × Parts g s us × (16 ≤ g.level) × (t.symbol ≡ symbol.Access access) × (ts ≡ us ++ t ∷ [])
Holds (Tagging begun) s ts = (us : List Terminal) × (o : Terminal) × (t : Terminal) × Stacked s us × (o.symbol ≡ symbol.OpenParen) × (o.place ≡ begun) × (t.symbol ≡ symbol.Struct) × (ts ≡ us ++ o ∷ t ∷ [])
Holds (Typing part) s ts = (us : List Terminal) × (vs : List Terminal) × Stacked s us × IsPart part vs × (ts ≡ us ++ vs)

abbrev pub OnNext : Next → List Terminal → Type 0
OnNext None ts = Unit {0}
OnNext (Some p) ts = Holds p.mode p.stack ts
