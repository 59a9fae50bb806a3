-- The code of an accepted program is well formed.
use Rattle.std.proofs.Common.{◌≡◌, refl, sym, ap, subst, ◌∙◌, arith, ℕ, suc, zero, ◌+◌, ◌*◌, ◌<◌, ◌≤◌, List, [], ◌∷◌, ◌++◌, length, length-append, append_assoc, map, Bool, true, false, not, ◌&&◌, ◌||◌, Option, Some, None, true≢false, slice_get, inl, inr}
use Rattle.std.specs.Prelude.{◌==◌, sum}
use Rattle.std.specs.List.{AllByRecursion}
use Rattle.std.proofs.lemmas.List.{length-map}
use Rattle.c_tree.specs.declared.types.CType.{CType}
use Rattle.c_tree.specs.declared.typed.Stmt.{Stmt}
use Rattle.c_tree.specs.declared.typed.Stmt.TheVariants.{Block'}
use Rattle.c_tree.specs.declared.rows.Program.{Program}
use Rattle.c_tree.specs.declared.rows.Function.{Function}
use Rattle.c_tree.specs.Layout.{size_of, leaves_of}
use Rattle.c_tree.specs.Ordered.{LieIn}
use Rattle.c_tree.specs.Points.{points_in}
use Rattle.c_source.specs.Blocks.{locals_in as rows_in}
use Rattle.c_tree.specs.Rows.{declared_in, statements_in}
use Rattle.c_source.specs.Control.{outermost_of}
use Rattle.c_tree.specs.Points.{first_of, last_of}
use Rattle.c_source.specs.Begin.{main_from}
use Rattle.c_typing.specs.Plain.{plain, same, Int}
use Rattle.c_typing.specs.Statements.{in_function, local_numbers, locals_of, locals_of_row}
use Rattle.c_typing.specs.Programs.{numbers, is_called_main, IsBlock, IsFunction as IsItsFunction, KeepsRules}
use Rattle.slot_ir.specs.declared.code.Home.TheVariants.{Block, Register}
use Rattle.slot_ir.specs.declared.code.SlotCode.{SlotCode}
use Rattle.slot_ir.specs.declared.code.SlotFunction.{SlotFunction}
use Rattle.slot_ir.specs.declared.code.SlotLocal.{SlotLocal}
use Rattle.slot_ir.specs.declared.code.SlotObject.{SlotObject}
use Rattle.slot_ir.specs.declared.code.SlotStruct.{SlotStruct}
use Rattle.slot_ir.specs.declared.code.SlotOp.{SlotOp}
use Rattle.slot_ir.specs.declared.code.SlotOp.TheVariants as op
use Rattle.slot_ir.specs.WellFormed.{struct_weight, weight_in, IsAmong, Differ, IsFunction, IsListed, IsWellFormed, NamesWhatIsThere, PlacesOf, EndsBehind, IsClosed}
use Rattle.slot_gen.specs.Expressions.{registers_from, register_at, register_of}
use Rattle.slot_gen.specs.Statements.{nowhere, zeros_code, inits_code, stmts_code, zero_code, body_place, end_place, function_code}
use Rattle.slot_gen.specs.Correct.{HasMain}
use Rattle.slot_gen.specs.Bounds.{function_temps, IsBelow, AreBelow}
use Rattle.slot_formed.specs.Code.{ArePlaces, IsFunctionRow, AreFunctionRows, IsProgramCode, struct_rows, local_rows, local_row, object_row, function_row, function_rows, stop_place, program_code}
use Rattle.slot_formed.specs.Tokens.{program_tokens}
use Rattle.slot_formed.proofs.Lists.{each_of, no_none, some_same, all_append, all_left, all_right, and_parts}
use Rattle.slot_formed.proofs.Types.{function_there}
use Rattle.slot_formed.proofs.Homes.{register_there, local_there, locals_length, own_registers}
use Rattle.slot_formed.proofs.Good.{Among, Good, G}
use Rattle.slot_formed.proofs.Names.{numbers_length}
use Rattle.slot_formed.proofs.Stmts.{numbers_of, body_of_good, zero_good}
use Rattle.slot_formed.proofs.Stops.{Has, HasAll, in_left, later, stop_found, body_of_has}
use Rattle.slot_formed.proofs.StopsOnce.{one, stops, times, stops_append, times_append, block_few, zero_none, numbers_differ, listed}
use Rattle.slot_formed.proofs.Rows.{Laid, scalars_there, locals_good, objects_good, static_few, main_there}
use Rattle.slot_formed.proofs.Shapes.{all_structs, all_nest, is_filled}

-- ---- lists of numbers

some_at : {A : Type 0} (xs : List A) (i : ℕ) → i < length xs → (x : A) × (slice_get xs i ≡ Some x)
some_at [] i h = absurd (omega (arith, h))
some_at (x ∷ xs) zero h = (x, refl)
some_at (x ∷ xs) (suc i) h = some_at xs i (omega (arith, h))

numbers_below : (from count end : ℕ) → from + count ≡ end → AllByRecursion (λ x. x < end) (numbers from count)
numbers_below from zero end e = tt
numbers_below from (suc count) end e = (omega (arith, e), numbers_below (suc from) count end (omega (arith, e)))

among_more : (q r : ℕ) (qs rs : List ℕ) → AllByRecursion (λ x. Among x qs) rs → AllByRecursion (λ x. Among x (r ∷ qs)) rs
among_more q r qs [] h = tt
among_more q r qs (x ∷ rs) h = (inr h.0, among_more q r qs rs h.1)

among_self : (qs : List ℕ) → AllByRecursion (λ q. Among q qs) qs
among_self [] = tt
among_self (q ∷ qs) = (inl refl, among_more q q qs qs (among_self qs))

last_among : (q : ℕ) (qs : List ℕ) → Among (last_of (q ∷ qs)) (q ∷ qs)
last_among q [] = inl refl
last_among q (r ∷ qs) = inr (last_among r qs)

last_behind : (q last : ℕ) (qs : List ℕ) → last_of (q ∷ (qs ++ last ∷ [])) ≡ last
last_behind q last [] = refl
last_behind q last (r ∷ qs) = last_behind r last qs

-- numbers from one on are none before it, and differ
none_below : (from count q : ℕ) → q < from → IsAmong q (numbers from count) → ⊥
none_below from zero q le among = among
none_below from (suc count) q le (inl e) = omega (arith, le, e)
none_below from (suc count) q le (inr r) = none_below (suc from) count q (omega (arith, le)) r

each_differs : (from count : ℕ) → Differ (numbers from count)
each_differs from zero = tt
each_differs from (suc count) = (none_below (suc from) count from (omega arith), each_differs (suc from) count)

points_differ : (qs : List ℕ) → (first : ℕ) × (qs ≡ numbers first (length qs)) → Differ qs
points_differ qs n = subst Differ (sym n.1) (each_differs n.0 (length qs))

-- ---- operators

abbrev BlockIn : Option SlotLocal → Type 0
BlockIn None = ⊥
BlockIn (Some l) = l.home ≡ Block

abbrev RegisterIn : Option SlotLocal → Type 0
RegisterIn None = ⊥
RegisterIn (Some l) = elim l.home as (λ h. Type 0) [ Block ↦ ⊥ | Register r ↦ r < 8 ]

-- ---- rows

-- a code and a row whose other parts are those of a program
abbrev pub code_with : Program → List SlotFunction → SlotCode
code_with p gs = record { functions = gs; main = main_from 0 p.functions; objects = map (object_row p) p.objects; strings = p.strings; structs = struct_rows p.defs 0 p.defs }

abbrev row_with : Program → ℕ → Function → List ℕ → ℕ → List ℕ → SlotFunction
row_with p f fn name temps placed = record {
  name = name;
  params = fn.params;
  locals = local_rows p.defs fn.locals (registers_from fn.locals 0);
  temporaries = temps;
  points = fn.points;
  places = placed;
  code = function_code p f fn;
}

row_from : (p : Program) (n : ℕ) (fns : List Function) (gs : List SlotFunction) (i : ℕ) (h : Function) → slice_get fns i ≡ Some h → AreFunctionRows p n fns gs → (g : SlotFunction) × (slice_get gs i ≡ Some g) × IsFunctionRow p (i + n) h g
row_from p n [] gs i h e are = no_none h e
row_from p n (fn ∷ fns) [] i h e are = absurd are
row_from p n (fn ∷ fns) (g ∷ gs) zero h e are =
    let z : n ≡ 0 + n = omega arith in
    (g, refl, subst (λ m. IsFunctionRow p m h g) z (subst (λ y. IsFunctionRow p n y g) (some_same fn h e) are.0))
row_from p n (fn ∷ fns) (g ∷ gs) (suc i) h e are =
    let q = row_from p (suc n) fns gs i h e are.1 in
    let z : i + suc n ≡ suc i + n = omega arith in
    (q.0, q.1, subst (λ m. IsFunctionRow p m h q.0) z q.2)

pub function_row_at : (p : Program) (i : ℕ) (h : Function) (gs : List SlotFunction) → slice_get p.functions i ≡ Some h → AreFunctionRows p 0 p.functions gs → (g : SlotFunction) × (slice_get gs i ≡ Some g) × IsFunctionRow p i h g
function_row_at p i h gs e are =
    let q = row_from p 0 p.functions gs i h e are in
    let z : i + 0 ≡ i = omega arith in
    (q.0, q.1, subst (λ m. IsFunctionRow p m h q.0) z q.2)

-- ---- a function's code

module _ (p : Program) (accepted : KeepsRules p) (ascend : (t : CType) → LieIn 0 (leaves_of p.defs t) (size_of p.defs t)) (f : ℕ) (fn : Function) (here : slice_get p.functions f ≡ Some fn) (n : ℕ) (size : n ≡ length (function_code p f fn)) where
  mine : IsItsFunction p f fn
  mine = function_there p accepted f fn here

  locals_count : length fn.locals ≡ fn.params + length (locals_of fn.body)
  locals_count =
      sym (numbers_length 0 (length fn.locals)) ∙ ap (λ (xs : List ℕ). length xs) mine.declared ∙ length-append (numbers 0 fn.params) (locals_of fn.body) ∙ ap (λ m. m + length (locals_of fn.body)) (numbers_length 0 fn.params)

  outermost_few : (b : Stmt) → IsBlock b → length (declared_in b) ≤ length (locals_of b)
  outermost_few (Block' x ds y r l k) h = omega (arith, numbers_of ds, length-append (local_numbers ds) (locals_of_row r))
  outermost_few _ h = absurd h

  locals_below : AllByRecursion (λ x. x < length fn.locals) (locals_of fn.body)
  locals_below =
      let zero_from : 0 + length fn.locals ≡ length fn.locals = omega arith in
      all_right (λ x. x < length fn.locals) (numbers 0 fn.params) (locals_of fn.body) (subst (λ xs. AllByRecursion (λ x. x < length fn.locals) xs) mine.declared (numbers_below 0 (length fn.locals) (length fn.locals) zero_from))

  among_there : AllByRecursion (λ q. Among q fn.points) fn.points
  among_there = among_self fn.points

  module _ (first last : ℕ) (points : fn.points ≡ first ∷ (points_in fn.body ++ last ∷ [])) where
    body_among : AllByRecursion (λ q. Among q fn.points) (points_in fn.body)
    body_among = all_left (λ q. Among q fn.points) (points_in fn.body) (last ∷ []) ((subst (λ qs. AllByRecursion (λ q. Among q fn.points) qs) points among_there).1)

    first_same : first_of fn.points ≡ first
    first_same = ap first_of points

    last_same : last_of fn.points ≡ last
    last_same = ap last_of points ∙ last_behind first last (points_in fn.body)

    first_among : Among (first_of fn.points) fn.points
    first_among = subst (λ qs. Among (first_of qs) qs) (sym points) (inl refl)

    end_among : Among (last_of fn.points) fn.points
    end_among = subst (λ qs. Among (last_of qs) qs) (sym points) (last_among first (points_in fn.body ++ last ∷ []))

    abbrev zeros : List SlotOp
    zeros = zeros_code (declared_in fn.body)

    abbrev inits : List SlotOp
    inits = inits_code p f (body_place + length zeros) (declared_in fn.body)

    abbrev code : List SlotOp
    code = stmts_code p f nowhere (outermost_of fn) (body_place + length zeros + length inits) (statements_in fn.body)

    abbrev ending : List SlotOp
    ending = zero_code fn.result ∷ op.Jump end_place ∷ []

    code_size : n ≡ 5 + (length zeros + (length inits + (length code + 2)))
    code_size = omega (arith, size, length-append zeros (inits ++ (code ++ ending)), length-append inits (code ++ ending), length-append code ending)

    ends : end_place < n
    ends = omega (arith, code_size)

    function_good : G p f fn n (function_code p f fn)
    function_good =
        let count : fn.params + length (locals_of fn.body) ≤ length fn.locals = omega (arith, locals_count) in
        let q = body_of_good p accepted ascend f fn here n ends fn.body (outermost_of fn) body_place mine.block mine.body refl count locals_below body_among (omega (arith, code_size)) in
        let tail : G p f fn n ending = (zero_good p accepted ascend f fn here n ends fn.result, (ends, tt)) in
        let body : G p f fn n (zeros ++ (inits ++ (code ++ ending))) = all_append (Good p f fn n) zeros _ q.0 (all_append (Good p f fn n) inits _ q.1 (all_append (Good p f fn n) code ending q.2 tail)) in
        let outermost : outermost_of fn ≤ length fn.locals = omega (arith, locals_count, outermost_few fn.body mine.block) in
        let five : body_place < n = omega (arith, code_size) in
        (first_among, (five, (outermost, (end_among, (tt, body)))))

    behind_start : (qs : List ℕ) → HasAll (zeros ++ (inits ++ (code ++ ending))) qs → HasAll (function_code p f fn) qs
    behind_start qs h =
        let body : List SlotOp = zeros ++ (inits ++ (code ++ ending)) in
        let e4 : List SlotOp = op.Return 0 ∷ body in
        let e3 : List SlotOp = op.Stop (last_of fn.points) ∷ e4 in
        let e2 : List SlotOp = op.Leave (outermost_of fn) ∷ e3 in
        let e1 : List SlotOp = op.Jump body_place ∷ e2 in
        later (op.Stop (first_of fn.points)) e1 qs (later (op.Jump body_place) e2 qs (later (op.Leave (outermost_of fn)) e3 qs (later (op.Stop (last_of fn.points)) e4 qs (later (op.Return 0) body qs h))))

    has_end : (l : List SlotOp) (qs : List ℕ) → HasAll (zeros ++ (inits ++ code)) qs → HasAll (zeros ++ (inits ++ (code ++ ending))) qs
    has_end l qs h =
        let regroup : (zeros ++ (inits ++ code)) ++ ending ≡ zeros ++ (inits ++ (code ++ ending)) = simp append_assoc in
        subst (λ l. HasAll l qs) regroup (in_left (zeros ++ (inits ++ code)) ending qs h)

    points_has : HasAll (function_code p f fn) fn.points
    points_has =
        let in_body : HasAll (function_code p f fn) (points_in fn.body) =
        behind_start (points_in fn.body) (has_end [] (points_in fn.body) (body_of_has p f (plain fn.result) fn.body (numbers 0 fn.params) in_function (outermost_of fn) body_place mine.block mine.body)) in
        let has_first : Has (function_code p f fn) first = inl (ap op.Stop first_same) in
        let has_last : Has (function_code p f fn) last = inr (inr (inr (inl (ap op.Stop last_same)))) in
        subst (λ qs. HasAll (function_code p f fn) qs) (sym points) (has_first, all_append (Has (function_code p f fn)) (points_in fn.body) (last ∷ []) in_body (has_last, tt))

    -- a point's stop stands as often as the point is listed, at most
    stops_few : (q : ℕ) → stops q (function_code p f fn) ≤ times q fn.points
    stops_few q =
        let few = block_few q p f fn.body (outermost_of fn) body_place in
        let one_code : zeros ++ (inits ++ (code ++ ending)) ≡ (zeros ++ (inits ++ code)) ++ ending = sym (append_assoc zeros (inits ++ code) ending ∙ ap (λ l. zeros ++ l) (append_assoc inits code ending)) in
        let split = ap (stops q) one_code ∙ stops_append q (zeros ++ (inits ++ code)) ending in
        let none = ap (λ b. one b) (zero_none q fn.result) in
        let listed = ap (times q) points in
        let behind = times_append q (points_in fn.body) (last ∷ []) in
        let first_is = ap (λ r. one (q == r)) first_same in
        let last_is = ap (λ r. one (q == r)) last_same in
        omega (arith, few, split, none, listed, behind, first_is, last_is)

    stop_once : (q : ℕ) → stops q (function_code p f fn) ≤ 1
    stop_once q =
        let n = mine.numbered in
        omega (arith, stops_few q, ap (times q) n.1, numbers_differ q n.0 (length fn.points))

    stops_listed : (is : List ℕ) → ArePlaces (function_code p f fn) fn.points is → (i q : ℕ) → slice_get (function_code p f fn) i ≡ Some (op.Stop q) → IsListed q i fn.points is
    stops_listed is places i q e = listed (function_code p f fn) q i fn.points is (stop_once q) (each_of (Good p f fn n) (function_code p f fn) i (op.Stop q) function_good e) places e

-- ---- a function's row

module _ (p : Program) (accepted : KeepsRules p) (ascend : (t : CType) → LieIn 0 (leaves_of p.defs t) (size_of p.defs t)) (f : ℕ) (fn : Function) (here : slice_get p.functions f ≡ Some fn) (n : ℕ) (size : n ≡ length (function_code p f fn)) (gs : List SlotFunction) (are : AreFunctionRows p 0 p.functions gs) (name : List ℕ) (temps : ℕ) (placed : List ℕ) where
  abbrev c : SlotCode
  c = code_with p gs

  abbrev row : SlotFunction
  row = row_with p f fn name temps placed

  abbrev rs : List (Option ℕ)
  rs = registers_from fn.locals 0

  register_here : (x : ℕ) → register_of p f x ≡ register_at rs x
  register_here x = ap (λ o. register_at (registers_from (rows_in o) 0) x) here

  block_there : (x : ℕ) → x < length fn.locals → register_of p f x ≡ None → BlockIn (slice_get row.locals x)
  block_there x h e =
      let l = some_at fn.locals x h in
      let none : register_at rs x ≡ None = sym (register_here x) ∙ e in
      subst BlockIn (sym (local_there p.defs fn.locals rs x l.0 l.1)) (subst (λ r. BlockIn (Some (local_row p.defs l.0 r))) (sym none) refl)

  register_in_there : (x r : ℕ) → register_of p f x ≡ Some r → RegisterIn (slice_get row.locals x)
  register_in_there x r e =
      let some : register_at rs x ≡ Some r = sym (register_here x) ∙ e in
      let q = register_there fn.locals 0 x r some in
      subst RegisterIn (sym (local_there p.defs fn.locals rs x q.0 q.1)) (subst (λ r. RegisterIn (Some (local_row p.defs q.0 r))) (sym some) q.3)

  abbrev TakesIn : Option SlotFunction → ℕ → Type 0
  TakesIn None m = ⊥
  TakesIn (Some g) m = (m ≡ g.params) × (m ≤ 16)

  takes_there : (g m : ℕ) (h : Function) → slice_get p.functions g ≡ Some h → m ≡ h.params → TakesIn (slice_get c.functions g) m
  takes_there g m h e k =
      let few = (function_there p accepted g h e).few in
      let q = function_row_at p g h gs e are in
      subst (λ o. TakesIn o m) (sym q.1) (k ∙ sym q.2.params, omega (arith, few, k))

  lands : (place : ℕ) → place < n → place < length row.code
  lands place h = omega (arith, h, size)

  names_op : (o : SlotOp) → IsBelow temps o → Good p f fn n o → NamesWhatIsThere c row o
  names_op (op.Const d b) t g = (t, g)
  names_op (op.Null d) t g = t
  names_op (op.StaticAddress d o) t g = (t, subst (λ m. o < m) (sym (length-map p.objects (object_row p))) g)
  names_op (op.TextAddress d k) t g = (t, g)
  names_op (op.LocalAddress d x) t g = (t, block_there x g.0 g.1)
  names_op (op.Load d i k a) t g = (t.0, t.1, g)
  names_op (op.Store i j k) t g = t
  names_op (op.ReadRegister d x k a) t g = (t, register_in_there x g.0 g.1, g.2)
  names_op (op.WriteRegister j x k) t g = (t, register_in_there x g.0 g.1)
  names_op (op.Convert d a) t g = t
  names_op (op.Unary d o) t g = t
  names_op (op.Binary d i j o) t g = t
  names_op (op.Compare d i j o) t g = t
  names_op (op.Index d i j s u back) t g = (t.0, t.1, t.2, g)
  names_op (op.Distance d i j s) t g = (t.0, t.1, t.2, g.0, g.1)
  names_op (op.Offset d b) t g = (t, g)
  names_op (op.Take d i) t g = t
  names_op (op.Jump place) t g = lands place g
  names_op (op.JumpIfZero d place) t g = (t, lands place g)
  names_op (op.JumpIfNotZero d place) t g = (t, lands place g)
  names_op (op.JumpIfEqual d b place) t g = (t, g.0, lands place g.1)
  names_op (op.Call d k m) t g = (t.0, t.1, takes_there k m g.0 g.1 g.2)
  names_op (op.Return d) t g = t
  names_op (op.Stop q) t g = g
  names_op (op.Move i j s) t g = (t.0, t.1, is_filled c p.defs refl s g)
  names_op (op.Zero x) t g = subst (λ m. x < m) (sym (locals_length p.defs fn.locals rs)) g
  names_op (op.Leave m) t g = subst (λ k. m ≤ k) (sym (locals_length p.defs fn.locals rs)) g
  names_op (op.GetChar d) t g = t
  names_op (op.PutChar d) t g = t
  names_op (op.Exit d) t g = t

  names_all : (l : List SlotOp) → AreBelow temps l → G p f fn n l → AllByRecursion (NamesWhatIsThere c row) l
  names_all [] t g = tt
  names_all (o ∷ l) t g = (names_op o t.0 g.0, names_all l t.1 g.1)

  places_all : (qs is : List ℕ) → ArePlaces row.code qs is → PlacesOf c row qs is
  places_all [] [] h = tt
  places_all (q ∷ qs) (i ∷ is) h = (h.0, places_all qs is h.1)
  places_all [] (i ∷ is) h = absurd h
  places_all (q ∷ qs) [] h = absurd h

  ends_behind : (o : SlotOp) (a b : List SlotOp) → ((x : SlotOp) → EndsBehind x b) → EndsBehind o (a ++ b)
  ends_behind o [] b h = h o
  ends_behind o (x ∷ a) b h = ends_behind x a b h

  is_closed : IsClosed (function_code p f fn)
  is_closed =
      let zeros = zeros_code (declared_in fn.body) in
      let inits = inits_code p f (body_place + length zeros) (declared_in fn.body) in
      let code = stmts_code p f nowhere (outermost_of fn) (body_place + length zeros + length inits) (statements_in fn.body) in
      let ending : List SlotOp = zero_code fn.result ∷ op.Jump end_place ∷ [] in
      ends_behind (op.Return 0) zeros (inits ++ (code ++ ending)) λ x. ends_behind x inits (code ++ ending) λ x. ends_behind x code ending λ x. tt

  function_formed : Laid p.defs → (first last : ℕ) → fn.points ≡ first ∷ (points_in fn.body ++ last ∷ []) → AreBelow temps (function_code p f fn) → ArePlaces (function_code p f fn) fn.points placed → IsFunction c row
  function_formed laid first last points below places = (
    is_closed,
    omega (arith, locals_count p accepted ascend f fn here n size, locals_length p.defs fn.locals rs),
    (mine p accepted ascend f fn here n size).few,
    scalars_there p.defs fn.params fn.locals rs (mine p accepted ascend f fn here n size).scalars,
    locals_good p accepted ascend fn.locals rs laid (register_there fn.locals 0) (mine p accepted ascend f fn here n size).locals,
    own_registers p.defs fn.locals,
    names_all (function_code p f fn) below (function_good p accepted ascend f fn here n size first last points),
    places_all fn.points placed places,
    stops_listed p accepted ascend f fn here n size first last points placed places,
    points_differ fn.points (mine p accepted ascend f fn here n size).numbered,
  )

pub points_stand : (p : Program) → KeepsRules p → ((t : CType) → LieIn 0 (leaves_of p.defs t) (size_of p.defs t)) → (f : ℕ) (fn : Function) → slice_get p.functions f ≡ Some fn → (first last : ℕ) → fn.points ≡ first ∷ (points_in fn.body ++ last ∷ []) → HasAll (function_code p f fn) fn.points
points_stand p accepted ascend f fn e first last points = points_has p accepted ascend f fn e (length (function_code p f fn)) refl first last points

-- ---- the program

module _ (p : Program) (accepted : KeepsRules p) (ascend : (t : CType) → LieIn 0 (leaves_of p.defs t) (size_of p.defs t)) where
  -- what holds of the row with the program's parts holds of each row of the function
  of_row : (P : SlotFunction → Type 0) (f : ℕ) (fn : Function) (g : SlotFunction) → IsFunctionRow p f fn g
      → (AreBelow g.temporaries (function_code p f fn) → ArePlaces (function_code p f fn) fn.points g.places → P (row_with p f fn g.name g.temporaries g.places)) → P g
  of_row P f fn g is go =
      let below : AreBelow g.temporaries (function_code p f fn) = subst (AreBelow g.temporaries) is.code is.temporaries in
      let places : ArePlaces (function_code p f fn) fn.points g.places = subst (λ qs. ArePlaces (function_code p f fn) qs g.places) is.points (subst (λ l. ArePlaces l g.points g.places) is.code is.places) in
      subst (λ (n : ℕ). P (record g { params = n })) (sym is.params)
      (subst (λ (ls : List SlotLocal). P (record g { params = fn.params; locals = ls })) (sym is.locals)
      (subst (λ (qs : List ℕ). P (record g { params = fn.params; locals = local_rows p.defs fn.locals (registers_from fn.locals 0); points = qs })) (sym is.points)
      (subst (λ (l : List SlotOp). P (record g { params = fn.params; locals = local_rows p.defs fn.locals (registers_from fn.locals 0); points = fn.points; code = l })) (sym is.code) (go below places))))

  module _ (laid : Laid p.defs) (gs : List SlotFunction) (are : AreFunctionRows p 0 p.functions gs) where
    formed_there : (f : ℕ) (fn : Function) (g : SlotFunction) → slice_get p.functions f ≡ Some fn → IsFunctionRow p f fn g → IsFunction (code_with p gs) g
    formed_there f fn g e is =
        let q = (function_there p accepted f fn e).points in
        of_row (IsFunction (code_with p gs)) f fn g is (λ below places. function_formed p accepted ascend f fn e (length (function_code p f fn)) refl gs are g.name g.temporaries g.places laid q.0 q.1 q.2 below places)

    each_row : (P : SlotFunction → Type 0) → ((f : ℕ) (fn : Function) (g : SlotFunction) → slice_get p.functions f ≡ Some fn → IsFunctionRow p f fn g → P g)
        → (n : ℕ) (fns : List Function) (hs : List SlotFunction) → AreFunctionRows p n fns hs → ((i : ℕ) (fn : Function) → slice_get fns i ≡ Some fn → slice_get p.functions (i + n) ≡ Some fn) → AllByRecursion P hs
    each_row P go n [] [] rows at = tt
    each_row P go n [] (h ∷ hs) rows at = absurd rows
    each_row P go n (fn ∷ fns) [] rows at = absurd rows
    each_row P go n (fn ∷ fns) (h ∷ hs) rows at =
        let z : 0 + n ≡ n = omega arith in (
          go n fn h (ap (λ m. slice_get p.functions m) (sym z) ∙ at 0 fn refl) rows.0,
          each_row P go (suc n) fns hs rows.1 λ i g e. let w : i + suc n ≡ suc i + n = omega arith in ap (λ m. slice_get p.functions m) w ∙ at (suc i) g e,
        )

    all_rows : (P : SlotFunction → Type 0) → ((f : ℕ) (fn : Function) (g : SlotFunction) → slice_get p.functions f ≡ Some fn → IsFunctionRow p f fn g → P g) → AllByRecursion P gs
    all_rows P go = each_row P go 0 p.functions gs are (λ i fn e. let z : i + 0 ≡ i = omega arith in ap (λ m. slice_get p.functions m) z ∙ e)

  abbrev ParamsIn : Option SlotFunction → Type 0
  ParamsIn None = ⊥
  ParamsIn (Some f) = f.params ≡ 0

  same_number : (x y : ℕ) → (x == y) ≡ true → x ≡ y
  same_number x y h = grind (arith, h)

  main_params : (b a : Bool) → not b || a ≡ true → b ≡ true → a ≡ true
  main_params true a h e = h
  main_params false a h e = absurd (true≢false (sym e))

  pub main_is : HasMain p
  main_is =
      let q = main_there p accepted ascend 0 p.functions accepted.main in
      let i : main_from 0 p.functions ≡ q.0 = omega (arith, q.2) in
      let m = (function_there p accepted q.0 q.1 q.3).main in
      let none = (and_parts (same (plain q.1.result) Int) (q.1.params == 0) (main_params (is_called_main q.1) (same (plain q.1.result) Int && (q.1.params == 0)) m q.4)).1 in
      (q.1, ap (λ k. slice_get p.functions k) i ∙ q.3, same_number q.1.params 0 none)

  main_formed : (gs : List SlotFunction) → AreFunctionRows p 0 p.functions gs → ParamsIn (slice_get gs (main_from 0 p.functions))
  main_formed gs are =
      let q = function_row_at p (main_from 0 p.functions) main_is.0 gs main_is.1 are in
      subst ParamsIn (sym q.1) (q.2.params ∙ main_is.2)

  -- what holds of the code with the program's parts holds of each code of the program
  pub of_code : (P : SlotCode → Type 0) (c : SlotCode) → IsProgramCode p c → P (code_with p c.functions) → P c
  of_code P c is h =
      subst (λ (n : ℕ). P (record c { main = n })) (sym is.main)
      (subst (λ (os : List SlotObject). P (record c { main = main_from 0 p.functions; objects = os })) (sym is.objects)
      (subst (λ (ss : List (List ℕ)). P (record c { main = main_from 0 p.functions; objects = map (object_row p) p.objects; strings = ss })) (sym is.strings)
      (subst (λ (ts : List SlotStruct). P (record c { main = main_from 0 p.functions; objects = map (object_row p) p.objects; strings = p.strings; structs = ts })) (sym is.structs) h)))

  pub well_formed : Laid p.defs → (c : SlotCode) → IsProgramCode p c → program_tokens p ≤ 40000 → weight_in c ≤ 6 * program_tokens p → IsWellFormed c
  well_formed laid c is few short =
      of_code IsWellFormed c is (
        main_formed c.functions is.functions,
        all_rows laid c.functions is.functions (IsFunction (code_with p c.functions)) (formed_there laid c.functions is.functions),
        objects_good p accepted ascend laid p.objects accepted.objects,
        all_structs (code_with p c.functions) p.defs refl accepted.structs ascend laid,
        all_nest (code_with p c.functions) p.defs refl accepted.structs,
        static_few p accepted ascend,
        omega (arith, few, short, ap (λ (ss : List SlotStruct). sum (map struct_weight ss)) is.structs),
      )

  -- ---- a code that there is

  places_there : (l : List SlotOp) (qs : List ℕ) → HasAll l qs → ArePlaces l qs (map (λ q. stop_place q l) qs)
  places_there l [] h = tt
  places_there l (q ∷ qs) h = (stop_found q l h.0, places_there l qs h.1)

  module _ (below : (f : ℕ) (fn : Function) → AreBelow (function_temps fn) (function_code p f fn)) where
    row_is : (f : ℕ) (fn : Function) → slice_get p.functions f ≡ Some fn → IsFunctionRow p f fn (function_row p f fn)
    row_is f fn e =
        let q = (function_there p accepted f fn e).points in
        record {
          name = refl;
          params = refl;
          locals = refl;
          temporaries = below f fn;
          points = refl;
          places = places_there (function_code p f fn) fn.points (points_stand p accepted ascend f fn e q.0 q.1 q.2);
          code = refl;
        }

    rows_are : (n : ℕ) (fns : List Function) → ((i : ℕ) (fn : Function) → slice_get fns i ≡ Some fn → slice_get p.functions (i + n) ≡ Some fn) → AreFunctionRows p n fns (function_rows p n fns)
    rows_are n [] at = tt
    rows_are n (fn ∷ fns) at =
        let z : 0 + n ≡ n = omega arith in (
          row_is n fn (ap (λ m. slice_get p.functions m) (sym z) ∙ at 0 fn refl),
          rows_are (suc n) fns λ i g e. let w : i + suc n ≡ suc i + n = omega arith in ap (λ m. slice_get p.functions m) w ∙ at (suc i) g e,
        )

    pub there_is : IsProgramCode p (program_code p)
    there_is = record { functions = rows_are 0 p.functions (λ i fn e. let z : i + 0 ≡ i = omega arith in ap (λ m. slice_get p.functions m) z ∙ e); main = refl; objects = refl; strings = refl; structs = refl }
