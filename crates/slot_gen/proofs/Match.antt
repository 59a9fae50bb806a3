-- The states of slot code that stand for those of a program, and what one step comes to.
use Rattle.std.proofs.Common.{◌≡◌, ℕ, zero, suc, ◌+◌, ◌*◌, ◌<◌, ◌≤◌, List, [], ◌∷◌, length, Some, refl, sym, ap, ◌∙◌, subst, arith}
use Rattle.std.specs.Prelude.{slice_get, Result, Ok, Err}
use Rattle.std.proofs.lemmas.Bool.{ne_eqb}
use Rattle.std.proofs.Math.Dec.{eqb_refl}
use Rattle.c_tree.specs.declared.rows.Program.{Program}
use Rattle.c_tree.specs.declared.rows.Function.{Function}
use Rattle.runs.specs.Runs.{Next, Goes as GoesOn, Why}
use Rattle.runs.proofs.Simulate.{Silent, Answers}
use Rattle.c_store.specs.Store.{Value}
use Rattle.c_store.specs.Frames.{Here, ActivationRecord}
use Rattle.c_store.specs.Assigned.{History}
use Rattle.c_source.specs.Control.{Item, State, Activation, outermost_of}
use Rattle.c_tree.specs.Points.{last_of}
use Rattle.c_source.specs.Source as source
use Rattle.c_source.specs.Begin as sources
use Rattle.slot_ir.specs.declared.code.SlotCode.{SlotCode}
use Rattle.slot_ir.specs.declared.code.SlotOp.{SlotOp}
use Rattle.slot_ir.specs.declared.code.SlotOp.TheVariants as op
use Rattle.slot_ir.specs.declared.code.Access.{Access}
use Rattle.slot_ir.specs.declared.code.Access.TheVariants as access
use Rattle.slot_ir.specs.Operators.{extended}
use Rattle.slot_ir.specs.Slots.{Temps, with_temp, SlotState, Frame, code_of}
use Rattle.slot_ir.specs.Slots as slots
use Rattle.slot_ir.specs.Begin as beginning
use Rattle.slot_gen.specs.Expressions.{converting}
use Rattle.slot_gen.specs.Statements.{Around, end_place}
use Rattle.slot_gen.specs.Correct.{IsCodeOf}
use Rattle.slot_gen.proofs.Follow.{HasAt, Where, InTemp, InReg, Kept, Holds, Follows, Loops}
use Rattle.slot_gen.proofs.Weight.{weight}

-- ---- temporaries

pub put_same : (t : Temps) (d : ℕ) (v : Value) → with_temp t d v d ≡ Some v
put_same t d v = grind (arith, eqb_refl)

pub put_other : (t : Temps) (d i : ℕ) (v : Value) → i < d → with_temp t d v i ≡ t i
put_other t d i v h = grind (arith, ne_eqb)

pub put_above : (t : Temps) (d i : ℕ) (v : Value) → d < i → with_temp t d v i ≡ t i
put_above t d i v h = grind (arith, ne_eqb)

pub keeps : (a : ActivationRecord) (t : Temps) (d : ℕ) (v : Value) (ws : List Where) (vs : List Value) → length ws ≤ d → Holds a t ws vs → Holds a (with_temp t d v) ws vs
keeps a t d v [] [] le h = tt
keeps a t d v [] (x ∷ vs) le h = absurd h
keeps a t d v (InTemp ∷ ws) [] le h = absurd h
keeps a t d v (InTemp ∷ ws) (x ∷ vs) le h = (put_other t d (length ws) v (omega arith) ∙ h.0, keeps a t d v ws vs (omega arith) h.1)
keeps a t d v (InReg y ∷ ws) [] le h = absurd h
keeps a t d v (InReg y ∷ ws) (x ∷ vs) le h = (h.0, keeps a t d v ws vs (omega arith) h.1)
keeps a t d v (Kept n ∷ ws) vs le h = (put_other t d (length ws) v (omega arith) ∙ h.0, keeps a t d v ws vs (omega arith) h.1)

pub puts : (a : ActivationRecord) (t : Temps) (v : Value) (ws : List Where) (vs : List Value) → Holds a t ws vs → Holds a (with_temp t (length ws) v) (InTemp ∷ ws) (v ∷ vs)
puts a t v ws vs h = (put_same t (length ws) v, keeps a t (length ws) v ws vs (omega arith) h)

-- the values stand where the lower temporaries are the same
pub same_below : (a : ActivationRecord) (t u : Temps) (d : ℕ) (ws : List Where) (vs : List Value) → length ws ≤ d → ((x : ℕ) → x < d → u x ≡ t x) → Holds a t ws vs → Holds a u ws vs
same_below a t u d [] [] le q h = tt
same_below a t u d [] (x ∷ vs) le q h = absurd h
same_below a t u d (InTemp ∷ ws) [] le q h = absurd h
same_below a t u d (InTemp ∷ ws) (x ∷ vs) le q h = (q (length ws) (omega arith) ∙ h.0, same_below a t u d ws vs (omega arith) q h.1)
same_below a t u d (InReg y ∷ ws) [] le q h = absurd h
same_below a t u d (InReg y ∷ ws) (x ∷ vs) le q h = (h.0, same_below a t u d ws vs (omega arith) q h.1)
same_below a t u d (Kept n ∷ ws) vs le q h = (q (length ws) (omega arith) ∙ h.0, same_below a t u d ws vs (omega arith) q h.1)

-- ---- steps of slot code one after another

module _ (T : Type 0) (step : T → Next T) (acts : ℕ → T → T) (Q : T → Type 0) where
  pub silent_then : (i j a b : ℕ) (t u v : T) → Silent T step acts Q i a t u → Silent T step acts Q j b u v → Silent T step acts Q (i + j) (a + b) t v
  silent_then zero j a b t u v s r =
      let n : 0 + j ≡ j = omega arith in
      let c : a + b ≡ b = omega (arith, s.0) in
      subst (λ t. Silent T step acts Q (0 + j) (a + b) t v) (sym s.1) (subst (λ i. Silent T step acts Q i (a + b) u v) (sym n) (subst (λ c. Silent T step acts Q j c u v) (sym c) r))
  silent_then (suc i) j a b t u v s r =
      let n : suc i + j ≡ suc (i + j) = omega arith in
      let c : a + b ≡ s.0 + (s.1 + b) = omega (arith, s.3) in
      subst (λ i. Silent T step acts Q i (a + b) t v) (sym n) (s.0, s.1 + b, s.2, c, s.4, silent_then i j s.1 b s.2 u v s.5 r, s.6)

-- a program with its code, and the assignments made at its stops
pub record Setting : Type 0 where
  pub p : Program
  pub c : SlotCode
  pub is : IsCodeOf p c
  pub hist : History

module _ (set : Setting) where
  -- An activation: its temporaries hold what it has computed, and the code at its place does what remains to be done. What remains may wait for one value more.
  pub record Doing (a : ActivationRecord) (fs hs : List Where) (values : List Value) (control : List Item) (temps : Temps) (pc : ℕ) : Type 0 where
    pub fn : Function
    pub found : slice_get set.p.functions a.function ≡ Some fn
    pub ends : HasAt (code_of set.c a.function) end_place (op.Leave (outermost_of fn) ∷ op.Stop (last_of fn.points) ∷ op.Return 0 ∷ [])
    pub around : Around
    pub loops : Loops set.p a.function (code_of set.c a.function) around control
    pub holds : Holds a temps hs values
    pub follows : Follows set.p a.function (code_of set.c a.function) around (length a.locals) pc fs control

  abbrev pub Outer : List Activation → List Frame → ℕ → Type 0
  Outer [] [] r = Unit {0}
  Outer [] (g ∷ gs) r = ⊥
  Outer (a ∷ rest) [] r = ⊥
  Outer (a ∷ rest) (g ∷ gs) r =
      (g.activation ≡ a.activation) × (ws : List Where) × (r ≡ length ws) × Doing a.activation (InTemp ∷ ws) ws a.values a.control g.temps g.pc × Outer rest gs g.result_at

  pub record Matches (s : State) (t : SlotState) : Type 0 where
    pub same : t.here ≡ s.here
    pub ws : List Where
    pub doing : Doing s.here.activation ws ws s.values s.control t.temps t.pc
    pub outer : Outer s.outer t.outer t.result_at

  abbrev pub Ends : State → SlotState → Type 0
  Ends s t = (t.here ≡ s.here) × (beginning.records t ≡ sources.records s)

  -- nothing was written in between
  abbrev pub SameOutput : State → SlotState → Type 0
  SameOutput s t = t.here.world.output ≡ s.here.world.output

  abbrev pub left_over : State → ℕ
  left_over s = weight s.control

  abbrev pub Answered : State → Next State → SlotState → Type 0
  Answered = Answers State SlotState (source.step set.p) (slots.step set.c) (sources.acted set.hist) (beginning.acted set.hist) 2 Matches Ends SameOutput left_over

  -- where a step is made: the innermost activation's world and place, and the outer activations
  pub record Ground : Type 0 where
    pub h : Here
    pub outer : List Activation
    pub at : ℕ
    pub frames : List Frame
    pub out : Outer outer frames at

  module _ (g : Ground) where
    abbrev pub code : List SlotOp
    code = code_of set.c g.h.activation.function

    abbrev pub slot : Temps → ℕ → SlotState
    slot temps pc = record { here = g.h; temps = temps; pc = pc; result_at = g.at; outer = g.frames }

    abbrev pub now : List Value → List Item → State
    now vs k = record { here = g.h; values = vs; control = k; outer = g.outer }

    abbrev pub D : List Where → List Value → List Item → Temps → ℕ → Type 0
    D ws vs k temps pc = Doing g.h.activation ws ws vs k temps pc

    abbrev pub F : Around → ℕ → List Where → List Item → Type 0
    F r pc ws k = Follows set.p g.h.activation.function code r (length g.h.activation.locals) pc ws k

    abbrev pub L : Around → List Item → Type 0
    L r k = Loops set.p g.h.activation.function code r k

    -- steps of this count, at each of which nothing was written since
    abbrev pub Steps : State → ℕ → ℕ → SlotState → SlotState → Type 0
    Steps o = Silent SlotState (slots.step set.c) (beginning.acted set.hist) (SameOutput o)

    pub at_op : (temps : Temps) (pc : ℕ) (o : SlotOp) → slice_get code pc ≡ Some o → slots.step set.c (slot temps pc) ≡ slots.act set.c (slot temps pc) o
    at_op temps pc o e = ap (slots.at_op set.c (slot temps pc)) e

    pub again : (ws ws' : List Where) (vs vs' : List Value) (k k' : List Item) (temps temps' : Temps) (pc pc' : ℕ) → (d : D ws vs k temps pc)
        → Holds g.h.activation temps' ws' vs' → L d.around k' → F d.around pc' ws' k' → D ws' vs' k' temps' pc'
    again ws ws' vs vs' k k' temps temps' pc pc' d hs l fl = record { fn = d.fn; found = d.found; ends = d.ends; around = d.around; loops = l; holds = hs; follows = fl }

    -- in no operator
    pub none_step : (k0 k : List Item) (ws0 ws : List Where) (vs0 vs : List Value) (temps : Temps) (pc m : ℕ) → (d : D ws0 vs0 k0 temps pc)
        → weight k < weight k0 → Holds g.h.activation temps ws vs → L d.around k → F d.around pc ws k → Answered (now vs0 k0) (GoesOn m (now vs k)) (slot temps pc)
    none_step k0 k ws0 ws vs0 vs temps pc m d lt hs l fl =
        (0, 0, slot temps pc, omega arith, (refl, refl), record { same = refl; ws = ws; doing = again ws0 ws vs0 vs k0 k temps temps pc pc d hs l fl; outer = g.out }, lt)

    -- where the same values remain
    pub pure_step : (k0 k : List Item) (ws : List Where) (vs : List Value) (temps : Temps) (pc m : ℕ) → (d : D ws vs k0 temps pc)
        → weight k < weight k0 → L d.around k → F d.around pc ws k → Answered (now vs k0) (GoesOn m (now vs k)) (slot temps pc)
    pure_step k0 k ws vs temps pc m d lt l fl = none_step k0 k ws ws vs vs temps pc m d lt d.holds l fl

    -- in one operator
    pub one_step : (k0 k : List Item) (vs0 vs : List Value) (temps temps' : Temps) (pc pc' m n : ℕ) (ws : List Where) (o : SlotOp) → n ≤ 2 * m
        → slice_get code pc ≡ Some o → slots.act set.c (slot temps pc) o ≡ GoesOn n (slot temps' pc') → D ws vs k temps' pc' → Answered (now vs0 k0) (GoesOn m (now vs k)) (slot temps pc)
    one_step k0 k vs0 vs temps temps' pc pc' m n ws o le e a d =
        (1, n, slot temps' pc', le, (n, 0, slot temps' pc', omega arith, at_op temps pc o e ∙ a, (refl, refl), refl), record { same = refl; ws = ws; doing = d; outer = g.out }, tt)

    -- in one that gives a value
    pub set_step : (k0 k : List Item) (ws0 ws : List Where) (vs0 vs : List Value) (temps : Temps) (pc m : ℕ) (v : Value) (o : SlotOp) → (d : D ws0 vs0 k0 temps pc) → 1 ≤ m
        → slice_get code pc ≡ Some o → slots.act set.c (slot temps pc) o ≡ slots.sets set.c (slot temps pc) (length ws) v → Holds g.h.activation temps ws vs → L d.around k → F d.around (pc + 1) (InTemp ∷ ws) k
        → Answered (now vs0 k0) (GoesOn m (now (v ∷ vs) k)) (slot temps pc)
    set_step k0 k ws0 ws vs0 vs temps pc m v o d le e a hs l fl =
        one_step k0 k vs0 (v ∷ vs) temps (with_temp temps (length ws) v) pc (pc + 1) m 1 (InTemp ∷ ws) o (omega arith) e a
        (again ws0 (InTemp ∷ ws) vs0 (v ∷ vs) k0 k temps (with_temp temps (length ws) v) pc (pc + 1) d (puts g.h.activation temps v ws vs hs) l fl)

    -- in one that gives a value or is undefined
    pub give_step : (k0 k : List Item) (ws0 ws : List Where) (vs0 vs : List Value) (temps : Temps) (pc m : ℕ) (q : Result Value Why) (cv : Value → Value) (o : SlotOp) → (d : D ws0 vs0 k0 temps pc) → 1 ≤ m
        → slice_get code pc ≡ Some o → ((z : Value) → q ≡ Ok z → slots.act set.c (slot temps pc) o ≡ slots.sets set.c (slot temps pc) (length ws) (cv z)) → Holds g.h.activation temps ws vs → L d.around k → F d.around (pc + 1) (InTemp ∷ ws) k
        → Answered (now vs0 k0) (source.on_ok q (λ x. GoesOn m (now (cv x ∷ vs) k))) (slot temps pc)
    give_step k0 k ws0 ws vs0 vs temps pc m q cv o d le e a hs l fl = by q refl
      where
        by : (q' : Result Value Why) → q ≡ q' → Answered (now vs0 k0) (source.on_ok q' (λ x. GoesOn m (now (cv x ∷ vs) k))) (slot temps pc)
        by (Err w) s = tt
        by (Ok z) s = set_step k0 k ws0 ws vs0 vs temps pc m (cv z) o d le e (a z s) hs l fl

    -- in some, the last of which may change the world
    pub some_steps : (o s : State) (t u : SlotState) (m j n : ℕ) → 1 ≤ j → n ≤ 2 * m → Steps o j n t u → Matches s u → Answered o (GoesOn m s) t
    some_steps o s t u m zero n lt le st ma = absurd (omega arith)
    some_steps o s t u m (suc j) n lt le st ma = (suc j, n, u, le, st, ma, tt)

    pub one : (o : State) (temps : Temps) (pc n : ℕ) (i : SlotOp) (u : SlotState) → SameOutput o (slot temps pc) → slice_get code pc ≡ Some i → slots.act set.c (slot temps pc) i ≡ GoesOn n u → Steps o 1 n (slot temps pc) u
    one o temps pc n i u q e a = (n, 0, u, omega arith, at_op temps pc i e ∙ a, (refl, refl), q)

    -- a value is converted in its place
    pub record Cast (o : State) (i : ℕ) (a : Access) (z : Value) (temps : Temps) (pc : ℕ) : Type 0 where
      pub count : ℕ
      pub bounded : count ≤ 1
      pub after : Temps
      pub steps : Steps o count count (slot temps pc) (slot after (pc + length (converting i a)))
      pub value : after i ≡ Some z
      pub below : (x : ℕ) → x < i → after x ≡ temps x
      pub above : (x : ℕ) → i < x → after x ≡ temps x

    stays : (pc : ℕ) → pc ≡ pc + 0
    stays pc = omega arith

    same_ok : (v z : Value) → extended access.Word v ≡ Ok z → v ≡ z
    same_ok v z x = cc

    no_cast : (o : State) (i : ℕ) (v z : Value) (temps : Temps) (pc : ℕ) → temps i ≡ Some v → extended access.Word v ≡ Ok z → Cast o i access.Word z temps pc
    no_cast o i v z temps pc e x = record { count = 0; bounded = omega arith; after = temps; steps = (refl, ap (slot temps) (stays pc)); value = e ∙ ap Some (same_ok v z x); below = λ x lt. refl; above = λ x lt. refl }

    one_cast : (o : State) (i : ℕ) (a : Access) (v z : Value) (temps : Temps) (pc : ℕ) → SameOutput o (slot temps pc) → temps i ≡ Some v → extended a v ≡ Ok z → slice_get code pc ≡ Some (op.Convert i a) → length (converting i a) ≡ 1 → Cast o i a z temps pc
    one_cast o i a v z temps pc q e x has len =
        let after = with_temp temps i z in
        record {
          count = 1;
          bounded = omega arith;
          after = after;
          steps = subst (λ n. Steps o 1 1 (slot temps pc) (slot after (pc + n))) (sym len) (one o temps pc 1 (op.Convert i a) (slot after (pc + 1)) q has (ap (λ x. slots.on_temp x (λ v. slots.gives set.c (slot temps pc) i (extended a v))) e ∙ ap (slots.gives set.c (slot temps pc) i) x));
          value = put_same temps i z;
          below = λ x lt. put_other temps i x z lt;
          above = λ x lt. put_above temps i x z lt;
        }

    pub cast : (o : State) (i : ℕ) (a : Access) (v z : Value) (temps : Temps) (pc : ℕ) → SameOutput o (slot temps pc) → temps i ≡ Some v → extended a v ≡ Ok z → HasAt code pc (converting i a) → Cast o i a z temps pc
    cast o i access.Word v z temps pc q e x has = no_cast o i v z temps pc e x
    cast o i access.SignedByte v z temps pc q e x has = one_cast o i access.SignedByte v z temps pc q e x has.0 refl
    cast o i access.UnsignedByte v z temps pc q e x has = one_cast o i access.UnsignedByte v z temps pc q e x has.0 refl
    cast o i access.SignedHalf v z temps pc q e x has = one_cast o i access.SignedHalf v z temps pc q e x has.0 refl
    cast o i access.UnsignedHalf v z temps pc q e x has = one_cast o i access.UnsignedHalf v z temps pc q e x has.0 refl
    cast o i access.Pointer v z temps pc q e x has = one_cast o i access.Pointer v z temps pc q e x has.0 refl
