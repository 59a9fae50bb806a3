-- Each step keeps it that activations that wait for a call stand behind the point that they passed last.
use Rattle.std.proofs.Common.{◌≡◌, refl, sym, ap, subst, ◌∙◌, arith, ℕ, suc, zero, ◌+◌, ◌*◌, List, [], ◌∷◌, length, Bool, true, false, true≢false, Option, Some, None, slice_get, inl, inr}
use Rattle.std.specs.Prelude.{Result, Ok, Err, reverse, if◌then◌else◌}
use Rattle.std.specs.List.{AllByRecursion}
use Rattle.runs.specs.Runs.{Next, Goes, Passes, Exits, Undefined, Why, IllTyped, Outcome, Reached, Breaks, after, after_count, past, then_on}
use Rattle.c_store.specs.Store.{Value, Number, Null, At, used, store, load_struct, store_struct}
use Rattle.c_store.specs.Frames.{Here, ActivationRecord, left, is_free, new_activation, with_world}
use Rattle.c_store.specs.Assigned.{History}
use Rattle.ldb_words.specs.declared.kinds.Kind.{Kind}
use Rattle.c_tree.specs.declared.types.Leaf.{Leaf}
use Rattle.c_tree.specs.declared.rows.Program.{Program}
use Rattle.c_tree.specs.declared.rows.Function.{Function}
use Rattle.slot_ir.specs.declared.code.SlotCode.{SlotCode}
use Rattle.slot_ir.specs.declared.code.SlotFunction.{SlotFunction}
use Rattle.slot_ir.specs.declared.code.SlotOp.{SlotOp}
use Rattle.slot_ir.specs.declared.code.SlotOp.TheVariants as op
use Rattle.slot_ir.specs.Operators.{number_in}
use Rattle.slot_ir.specs.Slots.{SlotState, Frame, code_of, code_in, local_row, zero_cells, zeroed_row, zeroed_local, leaf_count_in, given_row, given, entered, last_temps}
use Rattle.slot_ir.specs.Slots as slots
use Rattle.slot_ir.specs.Begin.{begin, acted}
use Rattle.slot_formed.specs.Passed.{point_before, StandsBehindItsPoint, CallsStandBehindTheirPoints}
use Rattle.slot_formed.specs.Code.{AreFunctionRows, IsProgramCode}
use Rattle.slot_formed.proofs.Lists.{no_none, some_same}
use Rattle.slot_formed.proofs.Objects.{IsAs, GivesAs, left_point, left_function, zeroed_as, given_as}
use Rattle.slot_formed.proofs.Inside.{EachAt}
use Rattle.slot_formed.proofs.Quiet.{quiet_step, point_first, point_step, IsNoStop, Stands, Moves, JumpsWell, AllJumpWell, on_to_next}
use Rattle.slot_formed.proofs.Lands.{function_well}

-- ---- operators by their places

there : (P : ℕ → SlotOp → Type 0) (at : ℕ) (l : List SlotOp) (i : ℕ) (o : SlotOp) → EachAt P at l → slice_get l i ≡ Some o → P (at + i) o
there P at [] i o h e = no_none o e
there P at (x ∷ l) zero o h e = let z : at ≡ at + 0 = omega arith in subst (λ j. P j o) z (subst (P at) (some_same x o e) h.0)
there P at (x ∷ l) (suc i) o h e = let z : at + 1 + i ≡ at + suc i = omega arith in subst (λ j. P j o) z (there P (at + 1) l i o h.1 e)

pub there_from_zero : (P : ℕ → SlotOp → Type 0) (l : List SlotOp) (i : ℕ) (o : SlotOp) → EachAt P 0 l → slice_get l i ≡ Some o → P i o
there_from_zero P l i o h e = let z : 0 + i ≡ i = omega arith in subst (λ j. P j o) z (there P 0 l i o h e)

module _ (c : SlotCode) (well : (g : ℕ) → AllJumpWell (code_of c g) 0 (code_of c g)) where
  abbrev StandsIn : ActivationRecord → ℕ → Type 0
  StandsIn a pc = Stands (code_of c a.function) pc a.point

  abbrev pub Fits : SlotState → Type 0
  Fits t = StandsIn t.here.activation t.pc × AllByRecursion (StandsBehindItsPoint c) t.outer

  abbrev Fine : Next SlotState → Type 0
  Fine (Goes n t) = Fits t
  Fine (Passes q n t) = Fits t
  Fine (Exits v n t) = Fits t
  Fine (Undefined w) = Unit {0}

  stands_as : (a : ActivationRecord) (h : Here) (pc : ℕ) → IsAs a h → StandsIn a pc → StandsIn h.activation pc
  stands_as a h pc e s = subst (λ q. Stands (code_of c h.activation.function) pc q) (sym e.0) (subst (λ f. Stands (code_of c f) pc a.point) (sym e.1) s)

  on_temp_fine : (o : Option Value) (go : Value → Next SlotState) → ((v : Value) → Fine (go v)) → Fine (slots.on_temp o go)
  on_temp_fine None go h = tt
  on_temp_fine (Some v) go h = h v

  on_temps_fine : (o : Option (List Value)) (go : List Value → Next SlotState) → ((vs : List Value) → Fine (go vs)) → Fine (slots.on_temps o go)
  on_temps_fine None go h = tt
  on_temps_fine (Some vs) go h = h vs

  on_some_fine : {A : Type 0} (o : Option A) (go : A → Next SlotState) → ((x : A) → Fine (go x)) → Fine (slots.on_some o go)
  on_some_fine None go h = tt
  on_some_fine (Some x) go h = h x

  on_ok_fine : {A : Type 0} (r : Result A Why) (go : A → Next SlotState) → ((x : A) → Fine (go x)) → Fine (slots.on_ok r go)
  on_ok_fine (Err w) go h = tt
  on_ok_fine (Ok x) go h = h x

  on_here_fine : (a : ActivationRecord) (r : Result Here Why) (go : Here → Next SlotState) → GivesAs a r → ((h : Here) → IsAs a h → Fine (go h)) → Fine (slots.on_ok r go)
  on_here_fine a (Err w) go g h = tt
  on_here_fine a (Ok x) go g h = h x g

  module _ (t : SlotState) (fits : Fits t) where
    abbrev f : ℕ
    f = t.here.activation.function

    abbrev code : List SlotOp
    code = code_of c f

    moved : (y : ℕ) → Moves code t.pc y → StandsIn t.here.activation y
    moved y m = m t.here.activation.point fits.0

    module _ (o : SlotOp) (e : slice_get code t.pc ≡ Some o) where
      next : IsNoStop o → StandsIn t.here.activation (t.pc + 1)
      next n = let z : suc t.pc ≡ t.pc + 1 = omega arith in subst (StandsIn t.here.activation) z (moved (suc t.pc) (on_to_next code t.pc o e n))

      sets_fine : IsNoStop o → (d : ℕ) (v : Value) → Fine (slots.sets c t d v)
      sets_fine n d v = (next n, fits.1)

      gives_fine : IsNoStop o → (d : ℕ) (r : Result Value Why) → Fine (slots.gives c t d r)
      gives_fine n d r = on_ok_fine r (λ v. slots.sets c t d v) λ v. sets_fine n d v

      two_fine : IsNoStop o → (i j d : ℕ) (g : Value → Value → Result Value Why) → Fine (slots.on_two c t i j g d)
      two_fine n i j d g = on_temp_fine (t.temps i) _ λ x. on_temp_fine (t.temps j) _ λ y. gives_fine n d (g x y)

      goes_fine : IsNoStop o → (count : ℕ) (h : Here) → IsAs t.here.activation h → Fine (slots.goes c t count h)
      goes_fine n count h a = (stands_as t.here.activation h (t.pc + 1) a (next n), fits.1)

      writes_fine : IsNoStop o → (k : Kind) (place : Value) (j : ℕ) → Fine (slots.writes c t k place j)
      writes_fine n k place j = on_temp_fine (t.temps j) _ λ v. on_ok_fine (store t.here.world k place v) _ λ w. goes_fine n 1 (with_world t.here w) (refl, refl)

      copies_fine : IsNoStop o → (to from : ℕ) (ls : List Leaf) → Fine (slots.copies c t to from ls)
      copies_fine n to from ls =
          on_temp_fine (t.temps to) _ λ x. on_temp_fine (t.temps from) _ λ y. on_ok_fine (load_struct t.here.world (zero_cells ls) y) _ λ vs. on_ok_fine (store_struct t.here.world (zero_cells ls) x vs) _ λ w.
          goes_fine n (1 + 2 * length vs) (with_world t.here w) (refl, refl)

      if_fine : IsNoStop o → (b : Bool) (y : ℕ) → Moves code t.pc y → Fine (slots.jumps_if c t b y)
      if_fine n true y m = (moved y m, fits.1)
      if_fine n false y m = (next n, fits.1)

      not_fine : IsNoStop o → (b : Bool) (y : ℕ) → Moves code t.pc y → Fine (if b then slots.jumps c t (t.pc + 1) else slots.jumps c t y)
      not_fine n true y m = (next n, fits.1)
      not_fine n false y m = (moved y m, fits.1)

    waits : (d g n : ℕ) → slice_get code t.pc ≡ Some (op.Call d g n) → t.here.activation.point ≡ point_before code (t.pc + 1)
    waits d g n e = by fits.0
      where
        by : Stands code t.pc t.here.activation.point → t.here.activation.point ≡ point_before code (t.pc + 1)
        by (inl h) = let z : suc t.pc ≡ t.pc + 1 = omega arith in h ∙ sym (point_step None code t.pc (op.Call d g n) e) ∙ ap (point_before code) z
        by (inr h) = absurd (true≢false (sym (sym (quiet_step code t.pc (op.Call d g n) e) ∙ h)))

    calls_fine : (d g n : ℕ) → slice_get code t.pc ≡ Some (op.Call d g n) → Fine (slots.calls c t d g n)
    calls_fine d g n e =
        on_temps_fine (last_temps t.temps d n) _ λ vs.
        on_here_fine (new_activation (suc t.here.activation.number) g) (entered c (suc t.here.activation.number) g (reverse vs) t.here.world) _
        (given_as c g 0 (reverse vs) (record { world = t.here.world; activation = new_activation (suc t.here.activation.number) g })) λ h a.
        (inl (a.0 ∙ sym (point_first None (code_of c h.activation.function))), (waits d g n e, fits.1))

    returns_fine : (v : Value) (outer : List Frame) → AllByRecursion (StandsBehindItsPoint c) outer → Fine (slots.returns c t v outer)
    returns_fine v [] h = on_ok_fine (number_in v) _ λ n. fits
    returns_fine v (g ∷ outer) h = (inl h.0, h.1)

    begins_fine : (x : ℕ) → slice_get code t.pc ≡ Some (op.Zero x) → Fine (slots.begins c t x)
    begins_fine x e = by (is_free x t.here.activation.locals)
      where
        by : (b : Bool) → Fine (if b then slots.goes c t (leaf_count_in (local_row c t.here.activation.function x)) (zeroed_local c x t.here) else Undefined IllTyped)
        by true = goes_fine (op.Zero x) e tt (leaf_count_in (local_row c t.here.activation.function x)) (zeroed_local c x t.here) (zeroed_as (local_row c t.here.activation.function x) x t.here)
        by false = tt

    stops_fine : (q : ℕ) → slice_get code t.pc ≡ Some (op.Stop q) → Some q ≡ point_before code (t.pc + 1)
    stops_fine q e = let z : suc t.pc ≡ t.pc + 1 = omega arith in sym (point_step None code t.pc (op.Stop q) e) ∙ ap (point_before code) z

    act_fine : (o : SlotOp) → slice_get code t.pc ≡ Some o → JumpsWell code t.pc o → Fine (slots.act c t o)
    act_fine (op.Const d n) e w = sets_fine (op.Const d n) e tt d (Number n)
    act_fine (op.Null d) e w = sets_fine (op.Null d) e tt d Null
    act_fine (op.StaticAddress d x) e w = sets_fine (op.StaticAddress d x) e tt d (At x 0)
    act_fine (op.TextAddress d x) e w = sets_fine (op.TextAddress d x) e tt d (At (length c.objects + x) 0)
    act_fine (op.LocalAddress d x) e w = on_some_fine (slots.address_of t.here x) _ λ v. sets_fine (op.LocalAddress d x) e tt d v
    act_fine (op.Load d i k a) e w = on_temp_fine (t.temps i) _ λ v. gives_fine (op.Load d i k a) e tt d _
    act_fine (op.Store i j k) e w = on_temp_fine (t.temps i) _ λ v. writes_fine (op.Store i j k) e tt k v j
    act_fine (op.ReadRegister d x k a) e w = on_some_fine (slots.address_of t.here x) _ λ v. gives_fine (op.ReadRegister d x k a) e tt d _
    act_fine (op.WriteRegister j x k) e w = on_some_fine (slots.address_of t.here x) _ λ v. writes_fine (op.WriteRegister j x k) e tt k v j
    act_fine (op.Convert d a) e w = on_temp_fine (t.temps d) _ λ v. gives_fine (op.Convert d a) e tt d _
    act_fine (op.Unary d u) e w = on_temp_fine (t.temps d) _ λ v. gives_fine (op.Unary d u) e tt d _
    act_fine (op.Binary d i j b) e w = two_fine (op.Binary d i j b) e tt i j d _
    act_fine (op.Compare d i j b) e w = two_fine (op.Compare d i j b) e tt i j d _
    act_fine (op.Index d i j s u b) e w = two_fine (op.Index d i j s u b) e tt i j d _
    act_fine (op.Distance d i j s) e w = two_fine (op.Distance d i j s) e tt i j d _
    act_fine (op.Offset d n) e w = on_temp_fine (t.temps d) _ λ v. gives_fine (op.Offset d n) e tt d _
    act_fine (op.Take d i) e w = on_temp_fine (t.temps i) _ λ v. sets_fine (op.Take d i) e tt d v
    act_fine (op.Jump y) e w = (moved y w, fits.1)
    act_fine (op.JumpIfZero d y) e w = on_temp_fine (t.temps d) _ λ v. on_ok_fine (used t.here.world v) _ λ x. if_fine (op.JumpIfZero d y) e tt _ y w
    act_fine (op.JumpIfNotZero d y) e w = on_temp_fine (t.temps d) _ λ v. on_ok_fine (used t.here.world v) _ λ x. not_fine (op.JumpIfNotZero d y) e tt _ y w
    act_fine (op.JumpIfEqual d b y) e w = on_temp_fine (t.temps d) _ λ v. on_ok_fine (number_in v) _ λ m. if_fine (op.JumpIfEqual d b y) e tt _ y w
    act_fine (op.Call d g n) e w = calls_fine d g n e
    act_fine (op.Return d) e w = on_temp_fine (t.temps d) _ λ v. returns_fine v t.outer fits.1
    act_fine (op.Stop q) e w = (inl (stops_fine q e), fits.1)
    act_fine (op.Move i j s) e w = copies_fine (op.Move i j s) e tt i j _
    act_fine (op.Zero x) e w = begins_fine x e
    act_fine (op.Leave n) e w = goes_fine (op.Leave n) e tt 0 (left n t.here) (left_point n t.here, left_function n t.here)
    act_fine (op.GetChar d) e w = (next (op.GetChar d) e tt, fits.1)
    act_fine (op.PutChar d) e w = on_temp_fine (t.temps d) _ λ v. on_ok_fine (number_in v) _ λ n. (next (op.PutChar d) e tt, fits.1)
    act_fine (op.Exit d) e w = on_temp_fine (t.temps d) _ λ v. on_ok_fine (number_in v) _ λ n. fits

    step_fine : Fine (slots.step c t)
    step_fine = by (slice_get code t.pc) refl
      where
        by : (o : Option SlotOp) → slice_get code t.pc ≡ o → Fine (slots.at_op c t o)
        by None e = tt
        by (Some o) e = act_fine o e (there_from_zero (JumpsWell code) code t.pc o (well f) e)

  -- ---- runs

  module _ (h : History) where
    abbrev Reaches : Outcome SlotState → Type 0
    Reaches (Reached m) = Fits m.state
    Reaches (Breaks w) = Unit {0}

    counted : (n : ℕ) (o : Outcome SlotState) → Reaches o → Reaches (after_count SlotState n o)
    counted n (Reached m) k = k
    counted n (Breaks w) k = tt

    passed : (q : ℕ) (o : Outcome SlotState) → Reaches o → Reaches (past SlotState q o)
    passed q (Reached m) k = k
    passed q (Breaks w) k = tt

    then_reaches : (n : Next SlotState) (rest : ℕ → SlotState → Outcome SlotState) (i : ℕ) → Fine n → ((i : ℕ) (t : SlotState) → Fits t → Reaches (rest i t)) → Reaches (then_on SlotState (slots.step c) (acted h) n rest i)
    then_reaches (Goes n t) rest i f k = counted n (rest i t) (k i t f)
    then_reaches (Passes q n t) rest i f k = counted n _ (passed q (rest (suc i) (acted h i t)) (k (suc i) (acted h i t) f))
    then_reaches (Exits v n t) rest i f k = f
    then_reaches (Undefined w) rest i f k = tt

    runs_reach : (n i : ℕ) (t : SlotState) → Fits t → Reaches (after SlotState (slots.step c) (acted h) n i t)
    runs_reach zero i t g = g
    runs_reach (suc n) i t g = then_reaches (slots.step c t) (after SlotState (slots.step c) (acted h) n) i (step_fine t g) (λ i t g. runs_reach n i t g)

  begins_fitting : (input : List ℕ) → Fits (begin c input)
  begins_fitting input = (inl (sym (point_first None (code_of c c.main))), tt)

  calls_behind : CallsStandBehindTheirPoints c
  calls_behind input h n k e = (subst (Reaches h) e (runs_reach h n 0 (begin c input) (begins_fitting input))).1

-- ---- the code of a program

row_well : (p : Program) (n : ℕ) (fns : List Function) (gs : List SlotFunction) (i : ℕ) → AreFunctionRows p n fns gs → AllJumpWell (code_in (slice_get gs i)) 0 (code_in (slice_get gs i))
row_well p n [] [] i are = tt
row_well p n (fn ∷ fns) [] i are = tt
row_well p n [] (g ∷ gs) i are = absurd are
row_well p n (fn ∷ fns) (g ∷ gs) zero are = subst (λ l. AllJumpWell l 0 l) (sym are.0.code) (function_well p n fn)
row_well p n (fn ∷ fns) (g ∷ gs) (suc i) are = row_well p (suc n) fns gs i are.1

pub program_behind : (p : Program) (c : SlotCode) → IsProgramCode p c → CallsStandBehindTheirPoints c
program_behind p c is = calls_behind c λ g. row_well p 0 p.functions c.functions g is.functions
