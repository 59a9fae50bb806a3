-- The code of a well-typed statement and of a function takes no number but 0 as a pointer.
use Rattle.std.proofs.Common.{◌≡◌, refl, sym, ap, subst, ◌∙◌, arith, ℕ, zero, suc, ◌+◌, ◌<◌, ◌≤◌, List, [], ◌∷◌, ◌++◌, length, length-append, Bool, true, false, Option, Some, None, true≢false, slice_get}
use Rattle.std.specs.Prelude.{if◌then◌else◌}
use Rattle.std.specs.List.{AllByRecursion}
use Rattle.c_tree.specs.declared.types.CType.{CType}
use Rattle.c_tree.specs.declared.types.CType.TheVariants.{Char, Int, Unsigned, Void, Pointer', Array', Struct}
use Rattle.c_tree.specs.declared.typed.Typed.{Typed}
use Rattle.c_tree.specs.declared.typed.Pointed.{Pointed}
use Rattle.c_tree.specs.declared.typed.DeclaredLocal.{DeclaredLocal}
use Rattle.c_tree.specs.declared.typed.Stmt.{Stmt, Row_of-Stmt, end_of-Stmt, more_of-Stmt, Held-Stmt-If-3, None', Some'}
use Rattle.c_tree.specs.declared.typed.Stmt.TheVariants.{Value as Expression, Block', If', While', Do', For', Switch', Case', Default', Break, Continue, Return}
use Rattle.c_tree.specs.declared.rows.Program.{Program}
use Rattle.c_tree.specs.declared.rows.Function.{Function}
use Rattle.c_tree.specs.declared.rows.Local.{Local}
use Rattle.c_tree.specs.Rows.{stmts, declared_in, statements_in}
use Rattle.c_source.specs.Blocks.{local_type, result_type, locals_in as rows_in}
use Rattle.c_source.specs.Control.{outermost_of}
use Rattle.c_tree.specs.Points.{first_of, last_of}
use Rattle.c_typing.specs.Plain.{Plain, plain, is_pointer}
use Rattle.c_typing.specs.Rules.{converts}
use Rattle.c_typing.specs.Expressions.{Scope, operand, IsTyped}
use Rattle.c_typing.specs.Declarations.{scope_at, locals_in}
use Rattle.c_typing.specs.Statements.{Around as Stands, in_function, in_loop as looped, in_switch as switched, inside, local_numbers, type_in, type_of_local, IsTestOrNone, IsDropped, IsInitializer, AreInitialized, IsStatement, AreStatements, IsElse, IsSwitched}
use Rattle.c_typing.specs.Programs.{numbers, IsBlock, KeepsRules}
use Rattle.c_store.specs.Store.{Value, Number}
use Rattle.c_store.specs.Frames.{Here, is_free, left}
use Rattle.runs.specs.Runs.{Next, Goes, Passes, Exits, Undefined, IllTyped, Outcome, Reached, Breaks, after, after_count, past, then_on}
use Rattle.c_store.specs.Assigned.{History, all_assigned, at_stop}
use Rattle.c_source.specs.Begin.{main_from}
use Rattle.slot_ir.specs.Begin.{begin, acted}
use Rattle.slot_ir.specs.declared.code.SlotCode.{SlotCode}
use Rattle.slot_ir.specs.declared.code.SlotOp.{SlotOp}
use Rattle.slot_ir.specs.declared.code.SlotOp.TheVariants as op
use Rattle.slot_ir.specs.Operators.{number_in}
use Rattle.slot_ir.specs.Slots.{SlotState, Temps, with_temp, no_temps, Frame, code_in, code_of, local_row, zeroed_local, leaf_count_in}
use Rattle.slot_ir.specs.Slots as slots
use Rattle.slot_pointers.specs.Taken.{is_pointer as points, takes_at, takes_pointers, TakesPointers}
use Rattle.slot_gen.specs.Expressions.{access_of, cast_code, expr_code, unless_register, register_of, if_register, write_at, choice_code}
use Rattle.slot_gen.specs.Statements.{Around, Target, nowhere, stmt_code, stmts_code, block_code, else_code, body_code, body_targets, body_defaults, row_targets, row_defaults, targets_at, constants_of, is_default, first_target, zeros_code, part_code, init_code, inits_code, test_code, loop_test, loop_body, loop_code, in_loop, in_switch, switch_code, seek_code, zero_code, end_place, body_place, function_code}
use Rattle.slot_formed.specs.Code.{IsProgramCode}
use Rattle.slot_formed.proofs.Lists.{all_append}
use Rattle.slot_formed.proofs.Types.{function_there}
use Rattle.slot_formed.proofs.Stmts.{block_stmts}
use Rattle.slot_formed.proofs.Quiet.{HasAt, has_front, has_back, has_all}
use Rattle.slot_formed.proofs.Objects.{zeroed_as, left_function}
use Rattle.slot_formed.proofs.Formed.{function_row_at}
use Rattle.slot_formed.proofs.Claims.{Held, Claim, converted_points, serves_type}
use Rattle.slot_formed.proofs.Safe as safe
use Rattle.slot_formed.proofs.Safe.{Safe, After, slot, In, From, code, fewer, at_op, temp_after, ok_after, extended_serves}
use Rattle.slot_formed.proofs.Triples as triples
use Rattle.slot_formed.proofs.Triples.{Gives, Returning, Enters, Runs, Any, Below, Sets, Casts, sets_below, sets_held, below_less, below_then, seq, post, nothing}
use Rattle.slot_formed.proofs.Taking.{Result, Kept, Fits, any, unless_runs, write_runs, set_place}
use Rattle.slot_formed.proofs.Calling.{expr_runs}

module _ (p : Program) (accepted : KeepsRules p) (c : SlotCode) (is : IsProgramCode p c) (f : ℕ) (fn : Function) (here : slice_get p.functions f ≡ Some fn) (r : ℕ) (frames : List Frame) (K : ℕ) (enters : Enters p c K) where
  abbrev T : ℕ → (Temps → Type 0) → List SlotOp → (Temps → Temps → Type 0) → Type 0
  T at P l Q = Runs c f r frames K at P l Q

  abbrev W : List SlotOp
  W = code c f r frames

  abbrev On : ℕ → ℕ → Type 0
  On k pc = From c f r frames k pc Any

  abbrev R : Plain
  R = plain fn.result

  -- fewer than k steps from a place on
  abbrev Under : ℕ → ℕ → Type 0
  Under k pc = (j : ℕ) → j < k → (h : Here) → In c f r frames h → (temps : Temps) → Safe c j (slot c f r frames h temps pc)

  under : (k j pc : ℕ) → j ≤ k → Under k pc → Under j pc
  under k j pc le u i lt h e temps = u i (omega (arith, lt, le)) h e temps

  on_under : (k pc : ℕ) → On k pc → Under k pc
  on_under k pc go j lt h e temps = go j (omega (arith, lt)) h e temps tt

  less : (k j pc : ℕ) → j ≤ k → On k pc → On j pc
  less k j pc le go = fewer c f r frames k j pc Any le go

  at_same : (k x y : ℕ) → x ≡ y → On k x → On k y
  at_same k x y e go = subst (On k) e go

  -- a piece of code of which nothing is kept
  from_runs : (at : ℕ) (l : List SlotOp) (Q : Temps → Temps → Type 0) (k : ℕ) → T at Any l Q → k ≤ K → HasAt W at l → On k (at + length l) → On k at
  from_runs at l Q k x le has go j lj h e temps q = x j (omega (arith, lj, le)) has h e temps tt (λ i li h' e' u w. go i (omega (arith, li, lj)) h' e' u tt)

  jump_on : (k at to : ℕ) → slice_get W at ≡ Some (op.Jump to) → Under k to → On k at
  jump_on k at to e go j lj h i temps q = safe.jump_op c f r frames j h i temps at Any to e tt (λ m lm h' i' u w. go m (omega (arith, lm, lj)) h' i' u)

  -- ---- objects

  zero_on : (k at x : ℕ) → slice_get W at ≡ Some (op.Zero x) → On k (at + 1) → On k at
  zero_on k at x e go j lj h i temps q = at_op c f r frames j h i temps at (op.Zero x) e refl λ m lm. by m lm (is_free x h.activation.locals)
    where
      by : (m : ℕ) → m < j → (b : Bool) → safe.After c (Safe c m) (if b then slots.goes c (slot c f r frames h temps at) (leaf_count_in (local_row c h.activation.function x)) (zeroed_local c x h) else Undefined IllTyped)
      by m lm true = go m (omega (arith, lm, lj)) (zeroed_local c x h) ((zeroed_as (local_row c h.activation.function x) x h).1 ∙ i) temps tt
      by m lm false = tt

  leave_to : (k at n : ℕ) (Q : Temps → Type 0) → slice_get W at ≡ Some (op.Leave n) → From c f r frames k (at + 1) Q → From c f r frames k at Q
  leave_to k at n Q e go j lj h i temps q = at_op c f r frames j h i temps at (op.Leave n) e refl λ m lm. go m (omega (arith, lm, lj)) (left n h) (left_function n h ∙ i) temps q

  zeros_on : (ds : List DeclaredLocal) (k at : ℕ) → HasAt W at (zeros_code ds) → On k (at + length (zeros_code ds)) → On k at
  zeros_on [] k at has go = let e : at + 0 ≡ at = omega arith in at_same k (at + 0) at e go
  zeros_on (d ∷ ds) k at has go =
      let e : at + length (zeros_code (d ∷ ds)) ≡ at + 1 + length (zeros_code ds) = omega arith in
      zero_on k at d.local has.0 (zeros_on ds k (at + 1) has.1 (at_same k (at + length (zeros_code (d ∷ ds))) (at + 1 + length (zeros_code ds)) e go))

  -- ---- parts of statements

  module _ (v : List ℕ) where
    abbrev S : Scope
    S = scope_at p f v

    abbrev Res : Typed → ℕ → Temps → Temps → Type 0
    Res e d = Result p accepted c f v r frames K e d

    expr : (e : Typed) → IsTyped S e → (at d : ℕ) → T at Any (expr_code p f at d e) (Res e d)
    expr e t at d = expr_runs p accepted c is f v r frames K enters e t at d

    -- an expression at its stopping point
    pointed_runs : (at : ℕ) (q : Pointed) → IsTyped S q.e → T at Any (op.Stop q.point ∷ expr_code p f (at + 1) 0 q.e) (λ t u. Unit {0})
    pointed_runs at q t =
        seq c f r frames K at Any (op.Stop q.point ∷ []) (expr_code p f (at + 1) 0 q.e) (λ t u. u ≡ t) (λ t u. Unit {0}) (triples.stop_runs c f r frames K at Any q.point) λ t0 pre.
        post c f r frames K (at + 1) (λ u. u ≡ t0) (expr_code p f (at + 1) 0 q.e) (Res q.e 0) (λ u w. Unit {0}) (λ u w a b. tt) (any p accepted c f v r frames K (at + 1) (λ u. u ≡ t0) (expr_code p f (at + 1) 0 q.e) (Res q.e 0) (expr q.e t (at + 1) 0))

    part_runs : (at : ℕ) (o : Option Pointed) → IsDropped p f R v o → T at Any (part_code p f at o) (λ t u. Unit {0})
    part_runs at None t = nothing c f r frames K at Any (λ t u. Unit {0}) (λ t pre. tt)
    part_runs at (Some q) t = pointed_runs at q t.0

    local_same : (x : ℕ) → type_of_local p f R x ≡ plain (local_type p f x)
    local_same x = by (slice_get p.functions f)
      where
        of_row : (o : Option Local) → type_in o ≡ plain (elim o as (λ _. CType) [ None ↦ Void | Some l ↦ l.ctype ])
        of_row None = refl
        of_row (Some l) = refl

        by : (o : Option Function) → type_in (slice_get (locals_in o) x) ≡ plain (elim (slice_get (rows_in o) x) as (λ _. CType) [ None ↦ Void | Some l ↦ l.ctype ])
        by None = of_row (slice_get [] x)
        by (Some g) = of_row (slice_get g.locals x)

    init_runs : (at x : ℕ) (o : Option Pointed) → IsInitializer p f R v x o → T at Any (init_code p f at x o) (λ t u. Unit {0})
    init_runs at x None t = nothing c f r frames K at Any (λ t u. Unit {0}) (λ t pre. tt)
    init_runs at x (Some q) t =
        let reg = if_register x (register_of p f x) in
        let place = unless_register reg (op.LocalAddress 0 x ∷ []) in
        let ce = expr_code p f (at + 1 + length place) 1 q.e in
        let ct = local_type p f x in
        let cw = write_at p f 0 reg ct in
        seq c f r frames K at Any (op.Stop q.point ∷ []) (place ++ (ce ++ cw)) (λ t u. u ≡ t) (λ t u. Unit {0}) (triples.stop_runs c f r frames K at Any q.point) λ t0 pre.
        seq c f r frames K (at + 1) (λ u. u ≡ t0) place (ce ++ cw) (Below 0) (λ u w. Unit {0})
        (any p accepted c f v r frames K (at + 1) (λ u. u ≡ t0) place (Below 0) (unless_runs p accepted c f v r frames K (at + 1) 0 reg (op.LocalAddress 0 x ∷ []) (set_place p accepted c f v r frames K (at + 1) 0 (op.LocalAddress 0 x) (triples.local_runs c f r frames K (at + 1) Any 0 x)))) λ u a.
        seq c f r frames K (at + 1 + length place) (Below 0 u) ce cw (Res q.e 1) (λ w z. Unit {0}) (any p accepted c f v r frames K (at + 1 + length place) (Below 0 u) ce (Res q.e 1) (expr q.e t.0 (at + 1 + length place) 1)) λ w b.
        post c f r frames K (at + 1 + length place + length ce) (Res q.e 1 w) cw (Kept p accepted c f v r frames K 0 (Fits p accepted c f v r frames K 0 ct)) (λ z y. Unit {0}) (λ z y g k. tt)
        (write_runs p accepted c f v r frames K 0 ct (at + 1 + length place + length ce) reg (Res q.e 1 w) (λ z g y k m. converted_points S (type_of_local p f R x) q.e y t.1 (g.1 y k) (subst (λ n. is_pointer n ≡ true) (sym (local_same x)) m)))

    test_on : (k at : ℕ) (o : Option Pointed) (end : ℕ) → IsTestOrNone p f R v o → k ≤ K → HasAt W at (test_code p f at o end) → On k end → On k (at + length (test_code p f at o end)) → On k at
    test_on k at None end t le has out go = let e : at + 0 ≡ at = omega arith in at_same k (at + 0) at e go
    test_on k at (Some q) end t le has out go =
        let ce = expr_code p f (at + 1) 0 q.e in
        let test : SlotOp = op.JumpIfZero 0 end in
        let e : at + length (op.Stop q.point ∷ (ce ++ test ∷ [])) ≡ at + length (op.Stop q.point ∷ ce) + 1 = omega (arith, length-append ce (test ∷ [])) in
        let there : at + length (op.Stop q.point ∷ ce) ≡ at + 1 + length ce = omega arith in
        let jump : slice_get W (at + length (op.Stop q.point ∷ ce)) ≡ Some test = subst (λ n. slice_get W n ≡ Some test) (sym there) (has_back W (at + 1) ce (test ∷ []) has.1).0 in
        from_runs at (op.Stop q.point ∷ ce) (λ t u. Unit {0}) k (pointed_runs at q t.0) le (has.0, has_front W (at + 1) ce (test ∷ []) has.1)
        (λ j lj h i temps w. safe.zero_jump c f r frames j h i temps (at + length (op.Stop q.point ∷ ce)) 0 end jump
        (λ m lm x s z. out m (omega (arith, lm, lj)) h i temps tt) (λ m lm x s z. at_same k (at + length (op.Stop q.point ∷ (ce ++ test ∷ []))) (at + length (op.Stop q.point ∷ ce) + 1) e go m (omega (arith, lm, lj)) h i temps tt))

  -- ---- loops

  -- where a loop goes on
  module _ (v : List ℕ) (at : ℕ) (t q : Option Pointed) (l : List SlotOp) (tt' : IsDropped p f R v t) (tq : IsTestOrNone p f R v q) (first : Bool) where
    abbrev End : ℕ
    End = loop_body p f at t q + length l + 1

    abbrev Third : List SlotOp
    Third = part_code p f (at + 2) t

    abbrev Test : List SlotOp
    Test = test_code p f (loop_test p f at t) q End

    abbrev Back : List SlotOp
    Back = op.Jump (at + 2) ∷ []

    -- the body, wherever `break` and `continue` go
    abbrev Body : ℕ → Type 0
    Body k = (j : ℕ) → j ≤ k → Under j (at + 1) → Under j (at + 2) → On j (loop_body p f at t q + length l) → On j (loop_body p f at t q)

    test_same : (o : Option Pointed) (end : ℕ) → loop_test p f at t + length (test_code p f (loop_test p f at t) o end) ≡ loop_test p f at t + length (test_code p f (loop_test p f at t) o 0)
    test_same None end = refl
    test_same (Some w) end =
        let ce = expr_code p f (loop_test p f at t + 1) 0 w.e in
        let one : length (ce ++ op.JumpIfZero 0 end ∷ []) ≡ length ce + 1 = length-append ce (op.JumpIfZero 0 end ∷ []) in
        let two : length (ce ++ op.JumpIfZero 0 0 ∷ []) ≡ length ce + 1 = length-append ce (op.JumpIfZero 0 0 ∷ []) in
        omega (arith, one, two)

    module _ (has : HasAt W at (loop_code p f at first t q l)) where
      third_has : HasAt W (at + 2) (Third ++ (Test ++ (l ++ Back)))
      third_has = let e : at + 1 + 1 ≡ at + 2 = omega arith in subst (λ n. HasAt W n (Third ++ (Test ++ (l ++ Back)))) e has.1.1

      test_has : HasAt W (loop_test p f at t) (Test ++ (l ++ Back))
      test_has = has_back W (at + 2) Third (Test ++ (l ++ Back)) third_has

      body_has : HasAt W (loop_body p f at t q) (l ++ Back)
      body_has = subst (λ n. HasAt W n (l ++ Back)) (test_same q End) (has_back W (loop_test p f at t) Test (l ++ Back) test_has)

      back_has : slice_get W (loop_body p f at t q + length l) ≡ Some (op.Jump (at + 2))
      back_has = (has_back W (loop_body p f at t q) l Back body_has).0

      -- one time round, where the next time is safe
      module _ (k : ℕ) (le : k ≤ K) (out : On k End) (body : Body k) (again : Under k (at + 2)) where
        body_on : On k (loop_body p f at t q)
        body_on = body k (omega arith) (on_under k (at + 1) (jump_on k (at + 1) End has.1.0 (on_under k End out))) again (jump_on k (loop_body p f at t q + length l) (at + 2) back_has again)

        test_there : On k (loop_test p f at t)
        test_there = test_on v k (loop_test p f at t) q End tq le (has_front W (loop_test p f at t) Test (l ++ Back) test_has) out (at_same k (loop_body p f at t q) (loop_test p f at t + length Test) (sym (test_same q End)) body_on)

        third_on : On k (at + 2)
        third_on = from_runs (at + 2) Third (λ t u. Unit {0}) k (part_runs v (at + 2) t tt') le (has_front W (at + 2) Third (Test ++ (l ++ Back)) third_has) test_there

      body_less : (k j : ℕ) → j ≤ k → Body k → Body j
      body_less k j le b i li = b i (omega (arith, le, li))

      rounds : (k : ℕ) → k ≤ K → On k End → Body k → On k (at + 2)
      rounds zero le out body = third_on zero le out body (λ j lt. absurd (omega (arith, lt)))
      rounds (suc k) le out body = third_on (suc k) le out body (λ j lt h e temps. rounds k (omega (arith, le)) (less (suc k) k End (omega arith) out) (body_less (suc k) k (omega arith) body) j (omega (arith, lt)) h e temps tt)

      choose_under : (k : ℕ) (b : Bool) → Under k (loop_test p f at t) → Under k (loop_body p f at t q) → Under k (if b then loop_test p f at t else loop_body p f at t q)
      choose_under k true x y = x
      choose_under k false x y = y

      loop_end : at + length (loop_code p f at first t q l) ≡ End
      loop_end =
          let one : length (Third ++ (Test ++ (l ++ Back))) ≡ length Third + length (Test ++ (l ++ Back)) = length-append Third (Test ++ (l ++ Back)) in
          let two : length (Test ++ (l ++ Back)) ≡ length Test + length (l ++ Back) = length-append Test (l ++ Back) in
          let three : length (l ++ Back) ≡ length l + 1 = length-append l Back in
          omega (arith, one, two, three, test_same q End)

      pub loop_on : (k : ℕ) → k ≤ K → Body k → On k (at + length (loop_code p f at first t q l)) → On k at
      loop_on k le body go =
          let out : On k End = at_same k (at + length (loop_code p f at first t q l)) End loop_end go in
          let again : Under k (at + 2) = on_under k (at + 2) (rounds k le out body) in
          jump_on k at (if first then loop_test p f at t else loop_body p f at t q) has.0
          (choose_under k first (on_under k (loop_test p f at t) (test_there k le out body again)) (on_under k (loop_body p f at t q) (body_on k le out body again)))

  -- ---- labels

  abbrev Labels : ℕ → List Target → Type 0
  Labels k ls = AllByRecursion (λ (l : Target). On k l.place) ls

  abbrev Defaults : ℕ → List ℕ → Type 0
  Defaults k ds = AllByRecursion (λ d. On k d) ds

  equal_on : (k at n to : ℕ) → slice_get W at ≡ Some (op.JumpIfEqual 0 n to) → On k to → On k (at + 1) → On k at
  equal_on k at n to e x y j lj h i temps q = safe.equal_jump c f r frames j h i temps at 0 n to e (λ m lm. x m (omega (arith, lm, lj)) h i temps tt) (λ m lm. y m (omega (arith, lm, lj)) h i temps tt)

  seeks_on : (ls : List Target) (k at : ℕ) → HasAt W at (seek_code ls) → Labels k ls → On k (at + length (seek_code ls)) → On k at
  seeks_on [] k at has ps go = let e : at + 0 ≡ at = omega arith in at_same k (at + 0) at e go
  seeks_on (l ∷ ls) k at has ps go =
      let e : at + length (seek_code (l ∷ ls)) ≡ at + 1 + length (seek_code ls) = omega arith in
      equal_on k at l.constant l.place has.0 ps.0 (seeks_on ls k (at + 1) has.1 ps.1 (at_same k (at + length (seek_code (l ∷ ls))) (at + 1 + length (seek_code ls)) e go))

  first_on : (k over : ℕ) (ds : List ℕ) → On k over → Defaults k ds → On k (first_target over ds)
  first_on k over [] x y = x
  first_on k over (d ∷ ds) x y = y.0

  seek_length : (ls : List Target) → length (seek_code ls) ≡ length ls
  seek_length [] = refl
  seek_length (l ∷ ls) = ap suc (seek_length ls)

  placed : (k at : ℕ) (cs : List ℕ) → On k at → Labels k (targets_at at cs)
  placed k at [] go = tt
  placed k at (x ∷ cs) go = (go, placed k at cs go)

  defaulted : (b : Bool) (k at : ℕ) (ds : List ℕ) → On k at → Defaults k ds → Defaults k (if b then at ∷ [] else ds)
  defaulted true k at ds go h = (go, tt)
  defaulted false k at ds go h = h

  module _ (at : ℕ) (l : List SlotOp) (ls : List Target) (ds : List ℕ) where
    abbrev Over : ℕ
    Over = at + 2 + length l

    abbrev Behind : ℕ
    Behind = Over + 1 + length ls + 1

    abbrev Last : List SlotOp
    Last = op.Jump (first_target Over ds) ∷ []

    abbrev Rest : List SlotOp
    Rest = op.Jump Behind ∷ (seek_code ls ++ Last)

    rest_has : HasAt W at (switch_code at l ls ds) → HasAt W (at + 2) (l ++ Rest)
    rest_has has = let e : at + 1 + 1 ≡ at + 2 = omega arith in subst (λ n. HasAt W n (l ++ Rest)) e has.1.1

    inside_has : HasAt W at (switch_code at l ls ds) → HasAt W (at + 2) l
    inside_has has = has_front W (at + 2) l Rest (rest_has has)

    switch_on : (k : ℕ) → k ≤ K → HasAt W at (switch_code at l ls ds) → (Under k (at + 1) → On k Over → Labels k ls × Defaults k ds) → On k (at + length (switch_code at l ls ds)) → On k at
    switch_on k le has body go =
        let one : length (l ++ Rest) ≡ length l + suc (length (seek_code ls ++ Last)) = length-append l Rest in
        let two : length (seek_code ls ++ Last) ≡ length (seek_code ls) + 1 = length-append (seek_code ls) Last in
        let end : at + length (switch_code at l ls ds) ≡ Behind = omega (arith, one, two, seek_length ls) in
        let out : On k Behind = at_same k (at + length (switch_code at l ls ds)) Behind end go in
        let has3 : HasAt W Over Rest = has_back W (at + 2) l Rest (rest_has has) in
        let over : On k Over = jump_on k Over Behind has3.0 (on_under k Behind out) in
        let parts = body (on_under k (at + 1) (jump_on k (at + 1) Behind has.1.0 (on_under k Behind out))) over in
        let last : On k (Over + 1 + length (seek_code ls)) = jump_on k (Over + 1 + length (seek_code ls)) (first_target Over ds) (has_back W (Over + 1) (seek_code ls) Last has3.1).0 (on_under k (first_target Over ds) (first_on k Over ds over parts.1)) in
        jump_on k at (Over + 1) has.0 (on_under k (Over + 1) (seeks_on ls k (Over + 1) (has_front W (Over + 1) (seek_code ls) Last has3.1) parts.0 last))

  -- ---- statements

  -- where `break` and `continue` go
  abbrev Jumps : ℕ → Stands → Around → Type 0
  Jumps k a w = (a.breaks ≡ true → Under k w.leave) × (a.loop ≡ true → Under k w.again)

  abbrev Statement : Stmt → Type 0
  Statement s = (v : List ℕ) (a : Stands) (w : Around) (m at k : ℕ) → IsStatement p f R v a s → k ≤ K → HasAt W at (stmt_code p f w m at s) → Jumps k a w → On k (at + length (stmt_code p f w m at s)) → On k at

  jumps_less : (k j : ℕ) (a : Stands) (w : Around) → j ≤ k → Jumps k a w → Jumps j a w
  jumps_less k j a w le x = (λ e. under k j w.leave le (x.0 e), λ e. under k j w.again le (x.1 e))

  two_on : (k at : ℕ) (x y : List SlotOp) → (On k (at + length x + length y) → On k (at + length x)) → (On k (at + length x) → On k at) → On k (at + length (x ++ y)) → On k at
  two_on k at x y g h go = let e : at + length (x ++ y) ≡ at + length x + length y = omega (arith, length-append x y) in h (g (at_same k (at + length (x ++ y)) (at + length x + length y) e go))

  inits_on : (v : List ℕ) (ds : List DeclaredLocal) (k at : ℕ) → AreInitialized p f R v ds → k ≤ K → HasAt W at (inits_code p f at ds) → On k (at + length (inits_code p f at ds)) → On k at
  inits_on v [] k at t le has go = let e : at + 0 ≡ at = omega arith in at_same k (at + 0) at e go
  inits_on v (d ∷ ds) k at t le has go =
      let ci = init_code p f at d.local d.init in
      let cs = inits_code p f (at + length ci) ds in
      two_on k at ci cs (inits_on (v ++ d.local ∷ []) ds k (at + length ci) t.1 le (has_back W at ci cs has))
      (from_runs at ci (λ t u. Unit {0}) k (init_runs (v ++ d.local ∷ []) at d.local d.init t.0) le (has_front W at ci cs has)) go

  -- a choice behind a test
  choice_on : (k at : ℕ) (x y : List SlotOp) → k ≤ K → HasAt W at (choice_code at 0 x y) → (On k (at + 1 + length x) → On k (at + 1)) → (On k (at + 1 + length x + 1 + length y) → On k (at + 1 + length x + 1)) → On k (at + length (choice_code at 0 x y)) → On k at
  choice_on k at x y le has g h go =
      let jump : SlotOp = op.Jump (at + 1 + length x + 1 + length y) in
      let e : at + length (choice_code at 0 x y) ≡ at + 1 + length x + 1 + length y = omega (arith, length-append x (jump ∷ y)) in
      let out : On k (at + 1 + length x + 1 + length y) = at_same k (at + length (choice_code at 0 x y)) (at + 1 + length x + 1 + length y) e go in
      let there = has_back W (at + 1) x (jump ∷ y) has.1 in
      let one : On k (at + 1) = g (jump_on k (at + 1 + length x) (at + 1 + length x + 1 + length y) there.0 (on_under k (at + 1 + length x + 1 + length y) out)) in
      let two : On k (at + 1 + length x + 1) = h out in
      λ j lj b i temps q. safe.zero_jump c f r frames j b i temps at 0 (at + 1 + length x + 1) has.0 (λ m lm z s o. two m (omega (arith, lm, lj)) b i temps tt) (λ m lm z s o. one m (omega (arith, lm, lj)) b i temps tt)

  -- a function's end, behind a result
  abbrev Ends : ℕ → Type 0
  Ends k = From c f r frames k end_place (λ t. Held (Gives fn) (t 0))

  result_same : plain (result_type p f) ≡ plain fn.result
  result_same = ap (λ (o : Option Function). plain (elim o as (λ _. CType) [ None ↦ Void | Some g ↦ g.result ])) here

  module _ (ends : Ends K) where
    end_jump : (k at : ℕ) → k ≤ K → slice_get W at ≡ Some (op.Jump end_place) → From c f r frames k at (λ t. Held (Gives fn) (t 0))
    end_jump k at le e j lj h i temps q = safe.jump_op c f r frames j h i temps at (λ t. Held (Gives fn) (t 0)) end_place e q (λ m lm h' i' u w. ends m (omega (arith, lm, lj, le)) h' i' u w)

    return_none : (k at q : ℕ) → k ≤ K → HasAt W at (op.Stop q ∷ op.Const 0 0 ∷ op.Jump end_place ∷ []) → On k at
    return_none k at q le has j lj h i temps z =
        triples.stop_runs c f r frames K at Any q j (omega (arith, lj, le)) (has.0, tt) h i temps tt λ j1 l1 h1 i1 t1 e1.
        triples.const_runs c f r frames K (at + 1) Any 0 0 j1 (omega (arith, l1, lj, le)) (has.1.0, tt) h1 i1 t1 tt λ j2 l2 h2 i2 t2 q2.
        end_jump j2 (at + 1 + 1) (omega (arith, l2, l1, lj, le)) has.1.1.0 j2 (omega arith) h2 i2 t2 (λ y g k. ap points (sets_held 0 (λ y. y ≡ Number 0) t1 t2 q2 y g))

    return_some : (v : List ℕ) (k at q : ℕ) (e : Typed) → IsTyped (scope_at p f v) e → converts R (operand (scope_at p f v) e) ≡ true → k ≤ K
        → HasAt W at (op.Stop q ∷ (expr_code p f (at + 1) 0 e ++ (cast_code 0 (result_type p f) ++ op.Jump end_place ∷ []))) → On k at
    return_some v k at q e te conv le has j lj h i temps z =
        let ce = expr_code p f (at + 1) 0 e in
        let rt = result_type p f in
        let cc = cast_code 0 rt in
        let jump : SlotOp = op.Jump end_place in
        let has2 = has_back W (at + 1) ce (cc ++ jump ∷ []) has.1 in
        triples.stop_runs c f r frames K at Any q j (omega (arith, lj, le)) (has.0, tt) h i temps tt λ j1 l1 h1 i1 t1 e1.
        expr v e te (at + 1) 0 j1 (omega (arith, l1, lj, le)) (has_front W (at + 1) ce (cc ++ jump ∷ []) has.1) h1 i1 t1 tt λ j2 l2 h2 i2 t2 q2.
        triples.cast_runs c f r frames K (at + 1 + length ce) (λ u. Held (Claim (scope_at p f v) e) (u 0)) 0 rt (λ u w y g m. converted_points (scope_at p f v) R e y conv (w y g) (subst (λ n. is_pointer n ≡ true) result_same m))
        j2 (omega (arith, l2, l1, lj, le)) (has_front W (at + 1 + length ce) cc (jump ∷ []) has2) h2 i2 t2 q2.1 λ j3 l3 h3 i3 t3 q3.
        end_jump j3 (at + 1 + length ce + length cc) (omega (arith, l3, l2, l1, lj, le)) (has_back W (at + 1 + length ce) cc (jump ∷ []) has2).0 j3 (omega arith) h3 i3 t3
        (λ y g m. let n = q3.2 y g in serves_type rt y (extended_serves (access_of rt) n.0 y n.2) (subst (λ o. is_pointer o ≡ true) (sym result_same) m))

    -- an expression at its stopping point, and what follows
    behind_test : (v : List ℕ) (k at : ℕ) (q : Pointed) (rest : List SlotOp) → IsTyped (scope_at p f v) q.e → k ≤ K → HasAt W at (op.Stop q.point ∷ (expr_code p f (at + 1) 0 q.e ++ rest))
        → (On k (at + 1 + length (expr_code p f (at + 1) 0 q.e) + length rest) → On k (at + 1 + length (expr_code p f (at + 1) 0 q.e))) → On k (at + length (op.Stop q.point ∷ (expr_code p f (at + 1) 0 q.e ++ rest))) → On k at
    behind_test v k at q rest t le has x go =
        let ce = expr_code p f (at + 1) 0 q.e in
        let one : at + length (op.Stop q.point ∷ (ce ++ rest)) ≡ at + 1 + length ce + length rest = omega (arith, length-append ce rest) in
        let two : at + 1 + length ce ≡ at + length (op.Stop q.point ∷ ce) = omega arith in
        from_runs at (op.Stop q.point ∷ ce) (λ t u. Unit {0}) k (pointed_runs v at q t) le (has.0, has_front W (at + 1) ce rest has.1)
        (at_same k (at + 1 + length ce) (at + length (op.Stop q.point ∷ ce)) two (x (at_same k (at + length (op.Stop q.point ∷ (ce ++ rest))) (at + 1 + length ce + length rest) one go)))

    -- blocks are left, and a jump
    leave_jump : (k at n to : ℕ) → HasAt W at (op.Leave n ∷ op.Jump to ∷ []) → Under k to → On k at
    leave_jump k at n to has u = leave_to k at n Any has.0 (jump_on k (at + 1) to has.1.0 u)

    mutual
      pub stmt_on : (s : Stmt) → Statement s
      stmt_on (Expression x e) v a w m at k t le has jumps go = from_runs at (part_code p f at e) (λ t u. Unit {0}) k (part_runs v at e t) le has go
      stmt_on (Block' x ds y row l cl) v a w m at k t le has jumps go =
          let zeros = zeros_code ds in
          let inits = inits_code p f (at + length zeros) ds in
          let start = at + length zeros + length inits in
          let rows = block_code p f w (m + length ds) start row in
          let leave : List SlotOp = op.Leave m ∷ [] in
          let has1 = has_back W at zeros (inits ++ (rows ++ leave)) has in
          let has2 = has_back W (at + length zeros) inits (rows ++ leave) has1 in
          two_on k at zeros (inits ++ (rows ++ leave))
          (λ go1. two_on k (at + length zeros) inits (rows ++ leave)
          (λ go2. two_on k start rows leave (λ go3. leave_to k (start + length rows) m Any (has_back W start rows leave has2).0 go3)
          (λ go3. (row_on row (v ++ local_numbers ds) (inside a) w (m + length ds) start k t.1 le (has_front W start rows leave has2) (jumps.0, jumps.1) go3).0) go2)
          (λ go2. inits_on v ds k (at + length zeros) t.0 le (has_front W (at + length zeros) inits (rows ++ leave) has1) go2) go1)
          (λ go1. zeros_on ds k at (has_front W at zeros (inits ++ (rows ++ leave)) has) go1) go
      stmt_on (If' x q y s e) v a w m at k t le has jumps go =
          let test = expr_code p f (at + 1) 0 q.e in
          let start = at + 1 + length test in
          let ca = stmt_code p f w m (start + 1) s in
          let ce = else_code p f w m (start + 1 + length ca + 1) e in
          let jump : SlotOp = op.Jump (start + 1 + length ca + 1 + length ce) in
          let has1 = has_back W (at + 1) test (choice_code start 0 ca ce) has.1 in
          behind_test v k at q (choice_code start 0 ca ce) t.0.0 le has
          (λ go1. choice_on k start ca ce le has1 (λ go2. stmt_on s v (inside a) w m (start + 1) k t.1 le (has_front W (start + 1) ca (jump ∷ ce) has1.1) (jumps.0, jumps.1) go2)
          (λ go2. else_on e v (inside a) w m (start + 1 + length ca + 1) k t.2 le (has_back W (start + 1) ca (jump ∷ ce) has1.1).1 (jumps.0, jumps.1) go2) go1) go
      stmt_on (While' x q y s) v a w m at k t le has jumps go =
          let body = stmt_code p f (in_loop at m) m (loop_body p f at None (Some q)) s in
          loop_on v at None (Some q) body tt t.0 true has k le
          (λ j lj leave again out. stmt_on s v looped (in_loop at m) m (loop_body p f at None (Some q)) j t.1 (omega (arith, lj, le)) (has_front W (loop_body p f at None (Some q)) body (op.Jump (at + 2) ∷ []) (body_has v at None (Some q) body tt t.0 true has)) (λ e. leave, λ e. again) out) go
      stmt_on (Do' x y s q) v a w m at k t le has jumps go =
          let body = stmt_code p f (in_loop at m) m (loop_body p f at None (Some q)) s in
          loop_on v at None (Some q) body tt t.1 false has k le
          (λ j lj leave again out. stmt_on s v looped (in_loop at m) m (loop_body p f at None (Some q)) j t.0 (omega (arith, lj, le)) (has_front W (loop_body p f at None (Some q)) body (op.Jump (at + 2) ∷ []) (body_has v at None (Some q) body tt t.1 false has)) (λ e. leave, λ e. again) out) go
      stmt_on (For' x i q e y s) v a w m at k t le has jumps go =
          let ci = part_code p f at i in
          let start = at + length ci in
          let body = stmt_code p f (in_loop start m) m (loop_body p f start e q) s in
          let loop = loop_code p f start true e q body in
          let has1 = has_back W at ci loop has in
          two_on k at ci loop
          (λ go1. loop_on v start e q body t.2 t.1 true has1 k le
          (λ j lj leave again out. stmt_on s v looped (in_loop start m) m (loop_body p f start e q) j t.3 (omega (arith, lj, le)) (has_front W (loop_body p f start e q) body (op.Jump (start + 2) ∷ []) (body_has v start e q body t.2 t.1 true has1)) (λ e. leave, λ e. again) out) go1)
          (λ go1. from_runs at ci (λ t u. Unit {0}) k (part_runs v at i t.0) le (has_front W at ci loop has) go1) go
      stmt_on (Switch' x q y s) v a w m at k t le has jumps go =
          let test = expr_code p f (at + 1) 0 q.e in
          let start = at + 1 + length test in
          let around = in_switch start m w in
          let body = body_code p f around m (start + 2) s in
          let targets = body_targets p f around m (start + 2) s in
          let defaults = body_defaults p f around m (start + 2) s in
          let code = switch_code start body targets defaults in
          let has1 = has_back W (at + 1) test code has.1 in
          behind_test v k at q code t.0.0 le has
          (λ go1. switch_on start body targets defaults k le has1
          (λ leave over. let parts = switched_on s v (switched a) around m (start + 2) k t.1 le
          (inside_has start body targets defaults has1)
          (λ e. leave, λ e. jumps.1 e) over in (parts.1, parts.2)) go1) go
      stmt_on (Case' x n y s) v a w m at k t le has jumps go = stmt_on s v a w m at k t.2 le has jumps go
      stmt_on (Default' x y s) v a w m at k t le has jumps go = stmt_on s v a w m at k t.1 le has jumps go
      stmt_on (Break x) v a w m at k t le has jumps go = leave_jump k at w.leave_scope w.leave has (jumps.0 t)
      stmt_on (Continue x) v a w m at k t le has jumps go = leave_jump k at w.again_scope w.again has (jumps.1 t)
      stmt_on (Return x q None) v a w m at k t le has jumps go = return_none k at q le has
      stmt_on (Return x q (Some e)) v a w m at k t le has jumps go = return_some v k at q e t.0.0 t.0.1 le has

      pub row_on : {n : _} (row : Row_of-Stmt n) (v : List ℕ) (a : Stands) (w : Around) (m at k : ℕ) → AreStatements p f R v a row → k ≤ K → HasAt W at (block_code p f w m at row) → Jumps k a w → On k (at + length (block_code p f w m at row))
          → On k at × Labels k (row_targets p f w m at row) × Defaults k (row_defaults p f w m at row)
      row_on end_of-Stmt v a w m at k t le has jumps go = let e : at + 0 ≡ at = omega arith in (at_same k (at + 0) at e go, tt, tt)
      row_on (more_of-Stmt s rest) v a w m at k t le has jumps go =
          let cs = stmt_code p f w m at s in
          let cr = block_code p f w m (at + length cs) rest in
          let e : at + length (cs ++ cr) ≡ at + length cs + length cr = omega (arith, length-append cs cr) in
          let more = row_on rest v a w m (at + length cs) k t.1 le (has_back W at cs cr has) jumps (at_same k (at + length (cs ++ cr)) (at + length cs + length cr) e go) in
          let mine : On k at = stmt_on s v a w m at k t.0 le (has_front W at cs cr has) jumps more.0 in
          (mine, all_append (λ (l : Target). On k l.place) (targets_at at (constants_of s)) (row_targets p f w m (at + length cs) rest) (placed k at (constants_of s) mine) more.1, defaulted (is_default s) k at (row_defaults p f w m (at + length cs) rest) mine more.2)

      else_on : (e : Held-Stmt-If-3) (v : List ℕ) (a : Stands) (w : Around) (m at k : ℕ) → IsElse p f R v a e → k ≤ K → HasAt W at (else_code p f w m at e) → Jumps k a w → On k (at + length (else_code p f w m at e)) → On k at
      else_on None' v a w m at k t le has jumps go = let e : at + 0 ≡ at = omega arith in at_same k (at + 0) at e go
      else_on (Some' x s) v a w m at k t le has jumps go = stmt_on s v a w m at k t le has jumps go

      switched_on : (s : Stmt) (v : List ℕ) (a : Stands) (w : Around) (m at k : ℕ) → IsSwitched p f R v a s → k ≤ K → HasAt W at (body_code p f w m at s) → Jumps k a w → On k (at + length (body_code p f w m at s))
          → On k at × Labels k (body_targets p f w m at s) × Defaults k (body_defaults p f w m at s)
      switched_on (Block' x ds y row l cl) v a w m at k t le has jumps go = row_on row v a w m at k t.1 le has jumps go
      switched_on _ v a w m at k t le has jumps go = absurd t

  -- ---- functions

  stop_to : (k at q : ℕ) (Q : Temps → Type 0) → slice_get W at ≡ Some (op.Stop q) → From c f r frames k (at + 1) Q → From c f r frames k at Q
  stop_to k at q Q e go j lj h i temps z = safe.stop_op c f r frames j h i temps at Q q e z (fewer c f r frames k j (at + 1) Q lj go)

  module _ (k at : ℕ) (le : k ≤ K) (go : From c f r frames k (at + 1) (λ u. Held (λ y. points y ≡ true) (u 0))) where
    null_to : slice_get W at ≡ Some (op.Null 0) → On k at
    null_to e j lj h i temps z = triples.null_runs c f r frames K at Any 0 j (omega (arith, lj, le)) (e, tt) h i temps tt (λ m lm h' i' u q. go m (omega (arith, lm, lj)) h' i' u (sets_held 0 (λ y. points y ≡ true) temps u q))

    const_to : slice_get W at ≡ Some (op.Const 0 0) → On k at
    const_to e j lj h i temps z = triples.const_runs c f r frames K at Any 0 0 j (omega (arith, lj, le)) (e, tt) h i temps tt (λ m lm h' i' u q. go m (omega (arith, lm, lj)) h' i' u (λ y g. ap points (sets_held 0 (λ y. y ≡ Number 0) temps u q y g)))

    zero_to : (t : CType) → slice_get W at ≡ Some (zero_code t) → On k at
    zero_to (Pointer' x t) e = null_to e
    zero_to Char e = const_to e
    zero_to Int e = const_to e
    zero_to Unsigned e = const_to e
    zero_to Void e = const_to e
    zero_to (Array' x t n) e = const_to e
    zero_to (Struct n) e = const_to e

  -- a result is handed to where the function returns to
  return_to : (k at : ℕ) → slice_get W at ≡ Some (op.Return 0) → Returning c fn k r frames → From c f r frames k at (λ t. Held (Gives fn) (t 0))
  return_to k at e ret j lj h i temps q = at_op c f r frames j h i temps at (op.Return 0) e refl λ m lm. temp_after c (Safe c m) (temps 0) (λ v. slots.returns c (slot c f r frames h temps at) v frames) λ v s. by m (omega (arith, lm, lj)) v (q v s) frames ret
    where
      by : (m : ℕ) → m ≤ k → (v : Value) → Gives fn v → (gs : List Frame) → Returning c fn k r gs → safe.After c (Safe c m) (slots.returns c (slot c f r frames h temps at) v gs)
      by m lm v gives [] ret = ok_after c (Safe c m) (number_in v) _ λ n x.
          let g : slice_get (code_of c h.activation.function) at ≡ Some (op.Return 0) = ap (λ n. slice_get (code_of c n) at) i ∙ e in ap (takes_at c (slot c f r frames h temps at)) g
      by m lm v gives (g ∷ gs) ret = ret m lm (left 0 h).world v gives

  abbrev Code : List SlotOp
  Code = function_code p f fn

  code_there : HasAt W 0 Code
  code_there =
      let q = function_row_at p f fn c.functions here is.functions in
      let same : W ≡ Code = ap (λ o. code_in o) q.1 ∙ q.2.code in
      subst (λ l. HasAt l 0 Code) (sym same) (has_all Code)

  ends_there : Returning c fn K r frames → Ends K
  ends_there ret =
      let Q : Temps → Type 0 = λ t. Held (Gives fn) (t 0) in
      leave_to K 2 (outermost_of fn) Q code_there.1.1.0 (stop_to K 3 (last_of fn.points) Q code_there.1.1.1.0 (return_to K 4 code_there.1.1.1.1.0 ret))

  start_on : Returning c fn K r frames → (b : Stmt) (m at : ℕ) → IsBlock b → IsStatement p f R (numbers 0 fn.params) in_function b
      → HasAt W at (zeros_code (declared_in b) ++ (inits_code p f (at + length (zeros_code (declared_in b))) (declared_in b)
      ++ (stmts_code p f nowhere m (at + length (zeros_code (declared_in b)) + length (inits_code p f (at + length (zeros_code (declared_in b))) (declared_in b))) (statements_in b) ++ zero_code fn.result ∷ op.Jump end_place ∷ [])))
      → On K at
  start_on ret (Block' x ds y row l cl) m at block t has =
      let zeros = zeros_code ds in
      let inits = inits_code p f (at + length zeros) ds in
      let start = at + length zeros + length inits in
      let rows = stmts_code p f nowhere m start (stmts row) in
      let last : List SlotOp = zero_code fn.result ∷ op.Jump end_place ∷ [] in
      let same : block_code p f nowhere m start row ≡ rows = block_stmts p f nowhere m start row in
      let has1 = has_back W at zeros (inits ++ (rows ++ last)) has in
      let has2 = has_back W (at + length zeros) inits (rows ++ last) has1 in
      let has3 : HasAt W start (block_code p f nowhere m start row) = subst (λ l. HasAt W start l) (sym same) (has_front W start rows last has2) in
      let has4 = has_back W start rows last has2 in
      let ends = ends_there ret in
      let end : On K (start + length rows) =
      zero_to K (start + length rows) (omega arith) (λ j lj h i u q. end_jump ends K (start + length rows + 1) (omega arith) has4.1.0 j lj h i u (λ y g k. q y g)) fn.result has4.0 in
      let count : start + length rows ≡ start + length (block_code p f nowhere m start row) = ap (λ (l : List SlotOp). start + length l) (sym same) in
      zeros_on ds K at (has_front W at zeros (inits ++ (rows ++ last)) has)
      (inits_on (numbers 0 fn.params) ds K (at + length zeros) t.0 (omega arith) (has_front W (at + length zeros) inits (rows ++ last) has1)
      (row_on ends row (numbers 0 fn.params ++ local_numbers ds) (inside in_function) nowhere m start K t.1 (omega arith) has3 (λ e. absurd (true≢false (sym e)), λ e. absurd (true≢false (sym e)))
      (at_same K (start + length rows) (start + length (block_code p f nowhere m start row)) count end)).0)
  start_on ret _ m at block t has = absurd block

  -- a function is safe from its beginning on, where what it returns to is
  pub function_on : Returning c fn K r frames → On K 0
  function_on ret =
      let q = function_there p accepted f fn here in
      stop_to K 0 (first_of fn.points) Any code_there.0 (jump_on K 1 body_place code_there.1.0 (on_under K body_place (start_on ret fn.body (outermost_of fn) body_place q.block q.body code_there.1.1.1.1.1)))

-- ---- programs

module _ (p : Program) (accepted : KeepsRules p) (c : SlotCode) (is : IsProgramCode p c) where
  enters : (k : ℕ) → Enters p c k
  enters zero j lt g fn there at frames ret h e temps = absurd (omega (arith, lt))
  enters (suc k) j lt g fn there at frames ret h e temps =
      function_on p accepted c is g fn there at frames j (λ i li. enters k i (omega (arith, li, lt))) ret j (omega arith) h e temps tt

  abbrev Taken : Outcome SlotState → Type 0
  Taken (Reached m) = takes_pointers c m.state ≡ true
  Taken (Breaks w) = Unit {0}

  counted : (n : ℕ) (o : Outcome SlotState) → Taken o → Taken (after_count SlotState n o)
  counted n (Reached m) k = k
  counted n (Breaks w) k = tt

  passed : (q : ℕ) (o : Outcome SlotState) → Taken o → Taken (past SlotState q o)
  passed q (Reached m) k = k
  passed q (Breaks w) k = tt

  module _ (h : History) where
    then_taken : (n : Next SlotState) (k : ℕ) (rest : ℕ → SlotState → Outcome SlotState) (i : ℕ) → After c (Safe c k) n → ((i : ℕ) (t : SlotState) → Safe c k t → Taken (rest i t)) → Taken (then_on SlotState (slots.step c) (acted h) n rest i)
    then_taken (Goes n t) k rest i s go = counted n (rest i t) (go i t s)
    then_taken (Passes q n t) k rest i s go = counted n (past SlotState q (rest (suc i) (acted h i t))) (passed q (rest (suc i) (acted h i t)) (go (suc i) (acted h i t) (s (all_assigned (at_stop h i) t.here.world))))
    then_taken (Exits v n t) k rest i s go = s
    then_taken (Undefined w) k rest i s go = tt

    taken : (n i : ℕ) (t : SlotState) → Safe c (suc n) t → Taken (after SlotState (slots.step c) (acted h) n i t)
    taken zero i t s = s.0
    taken (suc n) i t s = then_taken (slots.step c t) (suc n) (after SlotState (slots.step c) (acted h) n) i s.1 (λ i t. taken n i t)

  -- where a program has a `main`
  pub takes_pointers_alone : (fn : Function) → slice_get p.functions (main_from 0 p.functions) ≡ Some fn → TakesPointers c
  takes_pointers_alone fn there = λ input h n k e.
      subst Taken e (taken h n 0 (begin c input)
      (enters (suc (suc n)) (suc n) (omega arith) (main_from 0 p.functions) fn there 0 [] tt (begin c input).here is.main no_temps))
