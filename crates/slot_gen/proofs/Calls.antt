-- Calls and returns are answered by their code.
use Rattle.std.proofs.Common.{◌≡◌, ℕ, zero, suc, ◌+◌, List, [], ◌∷◌, ◌++◌, length, Option, Some, None, Bool, true, false, refl, sym, ap, ◌∙◌, subst, arith, length-append, inr}
use Rattle.std.proofs.lemmas.List.{length-reverse}
use Rattle.std.proofs.lemmas.Bool.Decides.{nat_tests}
use Rattle.std.specs.Prelude.{slice_get, take, drop, reverse, ◌==◌, ◌%◌, Result, Ok, Err, if◌then◌else◌}
use Rattle.ldb_words.specs.Word.{signed}
use Rattle.c_tree.specs.declared.types.CType.{CType}
use Rattle.c_tree.specs.declared.types.CType.TheVariants.{Char, Int, Unsigned, Void, Pointer', Array', Struct}
use Rattle.c_tree.specs.declared.types.Leaf.{Leaf}
use Rattle.c_tree.specs.declared.rows.Program.{Program}
use Rattle.c_tree.specs.declared.rows.Function.{Function}
use Rattle.c_tree.specs.Layout.{size_of, leaves_of}
use Rattle.runs.specs.Runs.{Goes as GoesOn, Exits, Undefined, Why, IllTyped}
use Rattle.c_store.specs.Store.{Value, Number, Null, At, Cell, with_first, ◌>>=◌}
use Rattle.c_store.specs.Frames.{Here, ActivationRecord, with_world, made, new_activation}
use Rattle.c_source.specs.Blocks.{converted, zero_as, cells_of, local_type}
use Rattle.c_tree.specs.Rows.{declared_in, statements_in}
use Rattle.c_source.specs.Blocks as blocks
use Rattle.c_source.specs.Operators.{bits_in}
use Rattle.c_source.specs.Control.{Item, State, Activation, Enter, Push, GiveBack, runs_of, body_of, outermost_of}
use Rattle.c_tree.specs.Points.{last_of}
use Rattle.c_source.specs.Source as source
use Rattle.c_source.specs.Begin as sources
use Rattle.slot_ir.specs.Begin as beginning
use Rattle.slot_ir.specs.declared.code.SlotCode.{SlotCode}
use Rattle.slot_ir.specs.declared.code.SlotLocal.{SlotLocal}
use Rattle.slot_ir.specs.declared.code.SlotOp.{SlotOp}
use Rattle.slot_ir.specs.declared.code.SlotOp.TheVariants as op
use Rattle.slot_ir.specs.declared.code.Access.{Access}
use Rattle.slot_ir.specs.Operators.{extended, number_in}
use Rattle.slot_ir.specs.Slots.{Temps, with_temp, no_temps, SlotState, Frame, code_of, local_row, last_temps, joined}
use Rattle.slot_ir.specs.Slots as slots
use Rattle.slot_gen.specs.Statements.{nowhere, function_code, zeros_code, inits_code, stmts_code, zero_code, end_place, body_place}
use Rattle.slot_gen.specs.Correct.{IsCodeOf, IsRow}
use Rattle.slot_gen.proofs.Follow.{HasAt, has_front, has_back, has_all, Where, InTemp, Holds, Follows, Loops, temps_on, constant_op, IsConstant, runs_follow, loops_runs}
use Rattle.slot_gen.proofs.Operators.{bind_same, bound_from, converted_same}
use Rattle.slot_gen.proofs.Rounds.{inits_follow, loops_inits}
use Rattle.slot_gen.proofs.Match.{Setting, Ground, Doing, Outer, Answered, D, F, slot, now, code, again, at_op, puts}

-- ---- arguments

length-temps_on : (n : ℕ) (ws : List Where) → length (temps_on n ws) ≡ length ws + n
length-temps_on zero ws = omega arith
length-temps_on (suc n) ws = omega (arith, length-temps_on n ws)

arguments_held : (a : ActivationRecord) (t : Temps) (n : ℕ) (ws : List Where) (vs : List Value) → Holds a t (temps_on n ws) vs → (last_temps t (length ws) n ≡ Some (take n vs)) × Holds a t ws (drop n vs)
arguments_held a t zero ws vs h = (refl, h)
arguments_held a t (suc n) ws [] h = absurd h
arguments_held a t (suc n) ws (v ∷ vs) h =
    let rest = arguments_held a t n ws vs h.1 in
    let at : length (temps_on n ws) ≡ length ws + n = length-temps_on n ws in
    let here : t (length ws + n) ≡ Some v = subst (λ i. t i ≡ Some v) at h.0 in
    (ap (λ o. joined o (last_temps t (length ws) n)) here ∙ ap (joined (Some v)) rest.0, rest.1)

length-taken : (a : ActivationRecord) (t : Temps) (n : ℕ) (ws : List Where) (vs : List Value) → Holds a t (temps_on n ws) vs → length (take n vs) ≡ n
length-taken a t zero ws vs h = refl
length-taken a t (suc n) ws [] h = absurd h
length-taken a t (suc n) ws (v ∷ vs) h = ap suc (length-taken a t n ws vs h.1)

-- ---- objects of a call and of a block

module _ (p : Program) (c : SlotCode) (is : IsCodeOf p c) where
  abbrev given_as : CType → (x : ℕ) → Value → Here → Result Here Why
  given_as t x v h = converted t v >>= λ u. with_first u (cells_of p.defs t) >>= λ cells. Ok (made x (size_of p.defs t) cells h)

  abbrev given_in : (x : ℕ) → Here → (size : ℕ) → List Leaf → Access → Value → Result Here Why
  given_in x h n ls a v = extended a v >>= λ u. with_first u (slots.zero_cells ls) >>= λ cells. Ok (made x n cells h)

  given_by : (o : Option SlotLocal) (t : CType) (x : ℕ) (v : Value) (h : Here) → IsRow p o t → slots.given_row o x v h ≡ given_as t x v h
  given_by None t x v h q = subst (λ t. Ok (made x 0 [] h) ≡ given_as t x v h) (sym q) refl
  given_by (Some l) t x v h q =
      ap (λ n. given_in x h n l.leaves l.access v) q.0
      ∙ ap (λ ls. given_in x h (size_of p.defs t) ls l.access v) q.1
      ∙ ap (λ a. given_in x h (size_of p.defs t) (leaves_of p.defs t) a v) q.2
      ∙ ap (λ (r : Result Value Why). r >>= λ u. with_first u (slots.zero_cells (leaves_of p.defs t)) >>= λ cells. Ok (made x (size_of p.defs t) cells h)) (sym (converted_same t v))

  pub given_same : (f x : ℕ) (vs : List Value) (h : Here) → slots.given c f x vs h ≡ blocks.given p f x vs h
  given_same f x [] h = refl
  given_same f x (v ∷ vs) h =
      ap (λ (r : Result Here Why). r >>= slots.given c f (suc x) vs) (given_by (local_row c f x) (local_type p f x) x v h (is.rows f x))
      ∙ bind_same (blocks.given_one p f x v h) (slots.given c f (suc x) vs) (blocks.given p f (suc x) vs) (given_same f (suc x) vs)

  zeroed_by : (o : Option SlotLocal) (t : CType) (x : ℕ) (h : Here) → IsRow p o t → slots.zeroed_row o x h ≡ made x (size_of p.defs t) (cells_of p.defs t) h
  zeroed_by None t x h q = subst (λ t. made x 0 [] h ≡ made x (size_of p.defs t) (cells_of p.defs t) h) (sym q) refl
  zeroed_by (Some l) t x h q = ap (λ n. made x n (slots.zero_cells l.leaves) h) q.0 ∙ ap (λ ls. made x (size_of p.defs t) (slots.zero_cells ls) h) q.1

  pub zeroed_same : (x : ℕ) (h : Here) → slots.zeroed_local c x h ≡ blocks.opened_one p h.activation.function x h
  zeroed_same x h = zeroed_by (local_row c h.activation.function x) (local_type p h.activation.function x) x h (is.rows h.activation.function x)

  counted_by : (o : Option SlotLocal) (t : CType) → IsRow p o t → slots.leaf_count_in o ≡ length (leaves_of p.defs t)
  counted_by None t q = subst (λ t. 0 ≡ length (leaves_of p.defs t)) (sym q) refl
  counted_by (Some l) t q = ap length q.1

  pub counted_same : (f x : ℕ) → slots.leaf_count_in (local_row c f x) ≡ length (leaves_of p.defs (local_type p f x))
  counted_same f x = counted_by (local_row c f x) (local_type p f x) (is.rows f x)

-- an object more, which is the last in scope
pub record Further (n : ℕ) (h g : Here) : Type 0 where
  pub function : g.activation.function ≡ h.activation.function
  pub scope : length g.activation.locals ≡ length h.activation.locals + n

made_further : (x size : ℕ) (cells : List Cell) (h : Here) → Further 1 h (made x size cells h)
unfolding made
made_further x size cells h = record { function = refl; scope = length-append h.activation.locals (record { local = x; object = length h.world.objects } ∷ []) }

pub further_by : (x size : ℕ) (cells : List Cell) (h g : Here) → ◌≡◌ {A = Result Here Why} (Ok (made x size cells h)) (Ok g) → Further 1 h g
further_by x size cells h g e = let same : made x size cells h ≡ g = cc in subst (Further 1 h) same (made_further x size cells h)

pub further_on : (n m k : ℕ) (h i g : Here) → k ≡ n + m → Further n h i → Further m i g → Further k h g
further_on n m k h i g e a b = record { function = b.function ∙ a.function; scope = omega (arith, a.scope, b.scope, e) }

none_further : (h g : Here) → ◌≡◌ {A = Result Here Why} (Ok h) (Ok g) → Further 0 h g
none_further h g e = let same : h ≡ g = cc in subst (Further 0 h) same (record { function = refl; scope = omega arith })

given_further : (p : Program) (f x : ℕ) (vs : List Value) (h g : Here) → blocks.given p f x vs h ≡ Ok g → Further (length vs) h g
given_further p f x [] h g e = none_further h g e
given_further p f x (v ∷ vs) h g e =
    let t = local_type p f x in
    let r = bound_from (blocks.given_one p f x v h) (blocks.given p f (suc x) vs) g e in
    let u = bound_from (converted t v) (λ u. with_first u (cells_of p.defs t) >>= λ cells. Ok (made x (size_of p.defs t) cells h)) r.0 r.1 in
    let c = bound_from (with_first u.0 (cells_of p.defs t)) (λ cells. Ok (made x (size_of p.defs t) cells h)) r.0 u.2 in
    let sum : length (v ∷ vs) ≡ 1 + length vs = omega arith in
    further_on 1 (length vs) (length (v ∷ vs)) h r.0 g sum (further_by x (size_of p.defs t) c.0 h r.0 c.2) (given_further p f (suc x) vs r.0 g r.2)

-- ---- a function from its first operator on

zero_same : (t : CType) → zero_code t ≡ constant_op 0 (zero_as t)
zero_same Char = refl
zero_same Int = refl
zero_same Unsigned = refl
zero_same Void = refl
zero_same (Pointer' x t) = refl
zero_same (Array' x t n) = refl
zero_same (Struct s) = refl

zero_constant : (t : CType) → IsConstant (zero_as t)
zero_constant Char = tt
zero_constant Int = tt
zero_constant Unsigned = tt
zero_constant Void = tt
zero_constant (Pointer' x t) = tt
zero_constant (Array' x t n) = tt
zero_constant (Struct s) = tt

module _ (p : Program) (f : ℕ) (code : List SlotOp) (fn : Function) (has : HasAt code 0 (function_code p f fn)) where
  abbrev rest_of_body : List Item
  rest_of_body = Push (zero_as fn.result) ∷ GiveBack ∷ []

  pub function_follows : Follows p f code nowhere fn.params 0 [] (body_of p f fn)
  function_follows =
      let ds = declared_in fn.body in
      let zeros = zeros_code ds in
      let start = body_place + length zeros in
      let inits = inits_code p f start ds in
      let at = start + length inits in
      let body = stmts_code p f nowhere (outermost_of fn) at (statements_in fn.body) in
      let last = zero_code fn.result ∷ op.Jump end_place ∷ [] in
      let h : HasAt code body_place (zeros ++ (inits ++ (body ++ last))) = has.1.1.1.1.1 in
      let hi = has_back code body_place zeros (inits ++ (body ++ last)) h in
      let hb = has_back code start inits (body ++ last) hi in
      let hl = has_back code at body last hb in
      let ends : Follows p f code nowhere (outermost_of fn) (at + length body) [] rest_of_body = (hl.0 ∙ ap Some (zero_same fn.result), zero_constant fn.result, hl.1.0) in
      let runs = runs_follow p f code nowhere (outermost_of fn) (statements_in fn.body) at rest_of_body (omega arith, omega arith) (has_front code at body last hb) ends in
      let all = inits_follow p f code nowhere (outermost_of fn) ds start (runs_of (statements_in fn.body) ++ rest_of_body) (has_front code start inits (body ++ last) hi) runs in
      (has.0, (body_place, inr has.1.0, has_front code body_place zeros (inits ++ (body ++ last)) h, all))

  pub function_loops : Loops p f code nowhere (body_of p f fn)
  function_loops = loops_inits p f code nowhere (declared_in fn.body) (runs_of (statements_in fn.body) ++ rest_of_body) (loops_runs p f code nowhere (statements_in fn.body) rest_of_body tt)

  pub function_ends : HasAt code end_place (op.Leave (outermost_of fn) ∷ op.Stop (last_of fn.points) ∷ op.Return 0 ∷ [])
  function_ends = (has.1.1.0, (has.1.1.1.0, (has.1.1.1.1.0, tt)))

module _ (set : Setting) where
  -- an activation of a function that begins
  pub begins : (a : ActivationRecord) (f : ℕ) (fn : Function) → a.function ≡ f → length a.locals ≡ fn.params → slice_get set.p.functions f ≡ Some fn → Doing set a [] [] [] (body_of set.p f fn) no_temps 0
  begins a f fn e n found =
      let here = subst (λ l. HasAt l 0 (function_code set.p f fn)) (sym (set.is.code f fn found)) (has_all (function_code set.p f fn) []) in
      let co = code_of set.c f in
      record {
        fn = fn;
        found = subst (λ f. slice_get set.p.functions f ≡ Some fn) (sym e) found;
        ends = subst (λ f. HasAt (code_of set.c f) end_place (op.Leave (outermost_of fn) ∷ op.Stop (last_of fn.points) ∷ op.Return 0 ∷ [])) (sym e) (function_ends set.p f co fn here);
        around = nowhere;
        loops = subst (λ g. Loops set.p g (code_of set.c g) nowhere (body_of set.p f fn)) (sym e) (function_loops set.p f co fn here);
        holds = tt;
        follows = subst (λ g. Follows set.p g (code_of set.c g) nowhere (length a.locals) 0 [] (body_of set.p f fn)) (sym e) (subst (λ n. Follows set.p f co nowhere n 0 [] (body_of set.p f fn)) (sym n) (function_follows set.p f co fn here));
      }

  length-reversed : (vs : List Value) → length (reverse vs) ≡ length vs
  length-reversed vs = length-reverse vs

  pub outer_records : (outer : List Activation) (frames : List Frame) (r : ℕ) → Outer set outer frames r → beginning.outer_records frames ≡ sources.outer_records outer
  outer_records [] [] r o = refl
  outer_records [] (g ∷ gs) r o = absurd o
  outer_records (a ∷ rest) [] r o = absurd o
  outer_records (a ∷ rest) (g ∷ gs) r o = ap (λ q. q ∷ beginning.outer_records gs) o.0 ∙ ap (λ l. a.activation ∷ l) (outer_records rest gs g.result_at o.4)

module _ (set : Setting) (g : Ground set) where
  abbrev entering : (f : ℕ) → List Value → Result Here Why
  entering f vs = blocks.entered set.p (suc g.h.activation.number) f vs g.h.world

  abbrev called : (f m : ℕ) → Function → List Item → List Value → Here → State
  called f m fn k vs e = record { here = e; values = []; control = body_of set.p f fn; outer = record { activation = g.h.activation; values = drop m vs; control = k } ∷ g.outer }

  pub call_answers : (q : ℕ) (f m : ℕ) (us : List Where) (k : List Item) (vs : List Value) (temps : Temps) (pc : ℕ) → (d : D set g (temps_on m us) vs (Enter q m ∷ k) temps pc)
      → slice_get (code set g) pc ≡ Some (op.Call (length us) f m) → F set g d.around (pc + 1) (InTemp ∷ us) k
      → (o : Option Function) → slice_get set.p.functions f ≡ o
      → Answered set (now set g vs (Enter q m ∷ k)) (source.on_some o (λ fn.
      if fn.params == m then source.on_ok (entering f (reverse (take m vs))) (λ e. GoesOn (1 + m) (record { here = e; values = []; control = body_of set.p f fn; outer = record { activation = g.h.activation; values = drop m vs; control = k } ∷ g.outer }))
      else Undefined IllTyped)) (slot set g temps pc)
  call_answers q f m us k vs temps pc d has rest None e = tt
  call_answers q f m us k vs temps pc d has rest (Some fn) e = by (fn.params == m) refl
    where
      by_entry : (fn.params == m) ≡ true → (r : Result Here Why) → entering f (reverse (take m vs)) ≡ r → Answered set (now set g vs (Enter q m ∷ k)) (source.on_ok r (λ e. GoesOn (1 + m) (called f m fn k vs e))) (slot set g temps pc)
      by_entry eb (Err w) er = tt
      by_entry eb (Ok h') er =
          let vs' = reverse (take m vs) in
          let start : Here = record { world = g.h.world; activation = new_activation (suc g.h.activation.number) f } in
          let args = arguments_held g.h.activation temps m us vs d.holds in
          let frame : Frame = record { activation = g.h.activation; temps = temps; pc = pc + 1; result_at = g.at } in
          let u : SlotState = record { here = h'; temps = no_temps; pc = 0; result_at = length us; outer = frame ∷ g.frames } in
          let params : fn.params ≡ m = grind (nat_tests, arith) in
          let further = given_further set.p f 0 vs' start h' er in
          let scope : length h'.activation.locals ≡ fn.params = omega (arith, further.scope, length-reversed set (take m vs), length-taken g.h.activation temps m us vs d.holds, params) in
          let goes = λ (r : Result Here Why). slots.on_ok r (λ h. GoesOn (1 + m) (record { here = h; temps = no_temps; pc = 0; result_at = length us; outer = frame ∷ g.frames })) in
          let acts = ap (λ o. slots.on_temps o (λ vs. goes (slots.entered set.c (suc g.h.activation.number) f (reverse vs) g.h.world))) args.0 ∙ ap goes (given_same set.p set.c set.is f 0 vs' start ∙ er) in (
            1,
            1 + m,
            u,
            omega arith,
            (1 + m, 0, u, omega arith, at_op set g temps pc (op.Call (length us) f m) has ∙ acts, (refl, refl), refl),
            record {
              same = refl;
              ws = [];
              doing = begins set h'.activation f fn further.function scope e;
              outer = (refl, us, refl, record { fn = d.fn; found = d.found; ends = d.ends; around = d.around; loops = d.loops; holds = args.1; follows = rest }, g.out);
            },
            tt,
          )

      by : (b : Bool) → (fn.params == m) ≡ b → Answered set (now set g vs (Enter q m ∷ k)) (if b then source.on_ok (entering f (reverse (take m vs))) (λ e. GoesOn (1 + m) (called f m fn k vs e)) else Undefined IllTyped) (slot set g temps pc)
      by false eb = tt
      by true eb = by_entry eb (entering f (reverse (take m vs))) refl

  -- ---- built-ins

  pub get_answers : (q : ℕ) (name : List ℕ) (k : List Item) (ws : List Where) (vs : List Value) (temps : Temps) (pc : ℕ) → (d : D set g ws vs (Enter q 0 ∷ k) temps pc)
      → (b : Bool) → HasAt (code set g) pc (if b then op.GetChar (length ws) ∷ [] else []) → F set g d.around (pc + length (if b then op.GetChar (length ws) ∷ [] else [])) (InTemp ∷ ws) k
      → Answered set (now set g vs (Enter q 0 ∷ k)) (if b then GoesOn 1 (record { here = with_world g.h (record g.h.world { input = drop 1 g.h.world.input }); values = Number (source.next_byte g.h.world.input) ∷ vs; control = k; outer = g.outer }) else Undefined IllTyped) (slot set g temps pc)
  get_answers q name k ws vs temps pc d false has rest = tt
  get_answers q name k ws vs temps pc d true has rest =
      let h' = with_world g.h (record g.h.world { input = drop 1 g.h.world.input }) in
      let after = with_temp temps (length ws) (Number (source.next_byte g.h.world.input)) in
      let u : SlotState = record { here = h'; temps = after; pc = pc + 1; result_at = g.at; outer = g.frames } in
      let same : slots.next_byte g.h.world.input ≡ source.next_byte g.h.world.input = next_same g.h.world.input in
      let acts = at_op set g temps pc (op.GetChar (length ws)) has.0 ∙ ap (λ n. GoesOn 1 (record { here = h'; temps = with_temp temps (length ws) (Number n); pc = pc + 1; result_at = g.at; outer = g.frames })) same in (
        1,
        1,
        u,
        omega arith,
        (1, 0, u, omega arith, acts, (refl, refl), refl),
        record {
          same = refl;
          ws = InTemp ∷ ws;
          doing = again set g ws (InTemp ∷ ws) vs (Number (source.next_byte g.h.world.input) ∷ vs) (Enter q 0 ∷ k) k temps after pc (pc + 1) d (puts g.h.activation temps (Number (source.next_byte g.h.world.input)) ws vs d.holds) d.loops rest;
          outer = g.out;
        },
        tt,
      )
    where
      next_same : (i : List ℕ) → slots.next_byte i ≡ source.next_byte i
      next_same [] = refl
      next_same (b ∷ bs) = refl

  -- `putchar` and `exit`
  pub put_answers : (q : ℕ) (x : Value) (k : List Item) (ws : List Where) (vs : List Value) (temps : Temps) (pc : ℕ) → (d : D set g (InTemp ∷ ws) (x ∷ vs) (Enter q 1 ∷ k) temps pc)
      → (get put exit : Bool) → HasAt (code set g) pc (if put then op.PutChar (length ws) ∷ [] else op.Exit (length ws) ∷ []) → F set g d.around (pc + length (if put then op.PutChar (length ws) ∷ [] else op.Exit (length ws) ∷ [])) (InTemp ∷ ws) k
      → Answered set (now set g (x ∷ vs) (Enter q 1 ∷ k)) (source.on_ok (bits_in x) (λ n.
      if get then Undefined IllTyped
      else if put then GoesOn 1 (record { here = with_world g.h (record g.h.world { output = g.h.world.output ++ (n % 256) ∷ [] }); values = Number (n % 256) ∷ vs; control = k; outer = g.outer })
      else if exit then Exits (signed n) 1 (record { here = g.h; values = []; control = []; outer = g.outer })
      else Undefined IllTyped)) (slot set g temps pc)
  put_answers q Null k ws vs temps pc d get put exit has rest = tt
  put_answers q (At o i) k ws vs temps pc d get put exit has rest = tt
  put_answers q (Number n) k ws vs temps pc d true put exit has rest = tt
  put_answers q (Number n) k ws vs temps pc d false true exit has rest =
      let st = slot set g temps pc in
      let v = Number (n % 256) in
      let after = with_temp temps (length ws) v in
      let u : SlotState = record { here = with_world g.h (record g.h.world { output = g.h.world.output ++ (n % 256) ∷ [] }); temps = after; pc = pc + 1; result_at = g.at; outer = g.frames } in
      let acts = at_op set g temps pc (op.PutChar (length ws)) has.0 ∙ ap (λ o. slots.on_temp o (λ v. slots.on_ok (number_in v) (λ n. GoesOn 1 (record st { here = with_world g.h (record g.h.world { output = g.h.world.output ++ (n % 256) ∷ [] }); temps = with_temp temps (length ws) (Number (n % 256)); pc = pc + 1 })))) d.holds.0 in (
        1,
        1,
        u,
        omega arith,
        (1, 0, u, omega arith, acts, (refl, refl), refl),
        record {
          same = refl;
          ws = InTemp ∷ ws;
          doing = again set g (InTemp ∷ ws) (InTemp ∷ ws) (Number n ∷ vs) (v ∷ vs) (Enter q 1 ∷ k) k temps after pc (pc + 1) d (puts g.h.activation temps v ws vs d.holds.1) d.loops rest;
          outer = g.out;
        },
        tt,
      )
  put_answers q (Number n) k ws vs temps pc d false false false has rest = tt
  put_answers q (Number n) k ws vs temps pc d false false true has rest =
      let st = slot set g temps pc in
      let acts = at_op set g temps pc (op.Exit (length ws)) has.0 ∙ ap (λ o. slots.on_temp o (λ v. slots.on_ok (number_in v) (λ n. Exits (signed n) 1 st))) d.holds.0 in
      (0, 0, st, st, omega arith, (refl, refl), acts, (refl, ap (λ l. g.h.activation ∷ l) (outer_records set g.outer g.frames g.at g.out)), refl)
