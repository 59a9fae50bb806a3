-- Where flat code has the stopping points of slot code.
use Rattle.std.proofs.Common.{◌≡◌, ℕ, suc, zero, ◌+◌, List, [], ◌∷◌, ◌++◌, length, ◌*◌, length-append, append_assoc, map, Bool, true, false, cond, Option, Some, None, slice_get, take, refl, sym, ap, ap₂, subst, ◌∙◌, arith}
use Rattle.std.specs.List.{AllByRecursion}
use Rattle.slot_ir.specs.declared.code.SlotCode.{SlotCode}
use Rattle.slot_ir.specs.declared.code.SlotFunction.{SlotFunction}
use Rattle.slot_ir.specs.declared.code.SlotLocal.{SlotLocal}
use Rattle.slot_ir.specs.declared.code.Home.{Home}
use Rattle.slot_ir.specs.declared.code.Home.TheVariants.{Block, Register}
use Rattle.slot_ir.specs.declared.code.SlotOp.{SlotOp}
use Rattle.slot_ir.specs.declared.code.SlotOp.TheVariants as slot
use Rattle.slot_ir.specs.WellFormed.{PlacesOf, IsFunction}
use Rattle.flat_ir.specs.declared.code.Scratch.TheVariants.{A as ScratchA}
use Rattle.flat_ir.specs.declared.code.FlatOp.{FlatOp}
use Rattle.flat_ir.specs.declared.code.FlatOp.TheVariants as flat
use Rattle.flat_ir.specs.declared.code.FlatFunction.{FlatFunction}
use Rattle.flat_gen.specs.declared.layout.Layout.{Layout}
use Rattle.flat_gen.specs.Layout.{layout}
use Rattle.flat_gen.specs.Codes.{or_zero, zeros_by, zeros_in, passes, op_code, stop_code, one_code, ops_code, starts_from, arguments, params_code, code_by, starts_by, starts_of, function_code, place_of, flat_function}

pub some_same : {A : Type 0} (x y : A) → Some x ≡ Some y → x ≡ y
some_same x y e = cc

pub here : {A : Type 0} (xs : List A) (y : A) (ys : List A) → slice_get (xs ++ y ∷ ys) (length xs) ≡ Some y
here [] y ys = refl
here (x ∷ xs) y ys = here xs y ys

-- a place that holds a stopping point
abbrev pub IsStopPlace : List FlatOp → ℕ → Type 0
IsStopPlace code place = (q : ℕ) × (slice_get code place ≡ Some (flat.Stop q))

same_if : (b : Bool) (xs ys zs : List FlatOp) → length xs ≡ length ys → length (cond b xs zs) ≡ length (cond b ys zs)
same_if true xs ys zs e = e
same_if false xs ys zs e = refl

-- ---- how many operators there are does not depend on where jumps go

module _ (c : SlotCode) (f : SlotFunction) (l : Layout) (starts : List ℕ) where
  passes_same : (d n : ℕ) → length (passes c f l [] d n) ≡ length (passes c f l starts d n)
  passes_same d zero = refl
  passes_same d (suc n) =
      let i : ℕ = l.temporaries + (d + n) * 4 in
      omega (arith, length-append (passes c f l [] d n) (flat.Pass n i ∷ []), length-append (passes c f l starts d n) (flat.Pass n i ∷ []), passes_same d n)

  zeros_by_same : (x size : ℕ) (h : Home) → length (zeros_by c f l [] x size h) ≡ length (zeros_by c f l starts x size h)
  zeros_by_same x size Block = refl
  zeros_by_same x size (Register r) = refl

  zeros_same : (x : ℕ) (o : Option SlotLocal) → length (zeros_in c f l [] x o) ≡ length (zeros_in c f l starts x o)
  zeros_same x None = refl
  zeros_same x (Some row) = zeros_by_same x row.size row.home

  called_same : (d g n : ℕ) → length (op_code c f l [] (slot.Call d g n)) ≡ length (op_code c f l starts (slot.Call d g n))
  called_same d g n =
      let tail : List FlatOp = flat.Call g ∷ flat.Put ScratchA (l.temporaries + d * 4) ∷ [] in
      omega (arith, length-append (passes c f l [] d n) tail, length-append (passes c f l starts d n) tail, passes_same d n)

  op_same : (op : SlotOp) → length (op_code c f l [] op) ≡ length (op_code c f l starts op)
  op_same (slot.Const d n) = refl
  op_same (slot.Null d) = refl
  op_same (slot.StaticAddress d o) = refl
  op_same (slot.TextAddress d k) = refl
  op_same (slot.LocalAddress d x) = refl
  op_same (slot.Load d i k a) = refl
  op_same (slot.Store i j k) = refl
  op_same (slot.ReadRegister d x k a) = refl
  op_same (slot.WriteRegister j x k) = refl
  op_same (slot.Convert d a) = refl
  op_same (slot.Unary d op) = refl
  op_same (slot.Binary d i j op) = refl
  op_same (slot.Compare d i j op) = refl
  op_same (slot.Index d i j size u back) = refl
  op_same (slot.Distance d i j size) = refl
  op_same (slot.Offset d n) = refl
  op_same (slot.Take d i) = refl
  op_same (slot.Jump place) = refl
  op_same (slot.JumpIfZero d place) = refl
  op_same (slot.JumpIfNotZero d place) = refl
  op_same (slot.JumpIfEqual d n place) = refl
  op_same (slot.Call d g n) = called_same d g n
  op_same (slot.Return d) = refl
  op_same (slot.Stop q) = refl
  op_same (slot.Move i j s) = refl
  op_same (slot.Zero x) = zeros_same x (slice_get f.locals x)
  op_same (slot.Leave n) = refl
  op_same (slot.GetChar d) = refl
  op_same (slot.PutChar d) = refl
  op_same (slot.Exit d) = refl

  one_same : (op : SlotOp) → length (one_code c f l [] op) ≡ length (one_code c f l starts op)
  one_same op = same_if l.fits (op_code c f l [] op) (op_code c f l starts op) (stop_code op) (op_same op)

  arguments_same : (x : ℕ) (rows : List SlotLocal) → length (arguments c f l [] x rows) ≡ length (arguments c f l starts x rows)
  arguments_same x [] = refl
  arguments_same x (row ∷ rows) = ap suc (arguments_same (suc x) rows)

  params_same : length (params_code c f l []) ≡ length (params_code c f l starts)
  params_same = same_if l.fits (arguments c f l [] 0 (take f.params f.locals)) (arguments c f l starts 0 (take f.params f.locals)) [] (arguments_same 0 (take f.params f.locals))

  -- ---- a stopping point is one operator

  stop_if : (b : Bool) (q : ℕ) → cond b (flat.Stop q ∷ []) (flat.Stop q ∷ []) ≡ flat.Stop q ∷ []
  stop_if true q = refl
  stop_if false q = refl

  stop_one : (op : SlotOp) (q : ℕ) → op ≡ slot.Stop q → one_code c f l starts op ≡ flat.Stop q ∷ []
  stop_one op q e = ap (one_code c f l starts) e ∙ stop_if l.fits q

  abbrev Found : (before : List FlatOp) (n i : ℕ) → List SlotOp → Type 0
  Found before n i ops = (k : ℕ) × (slice_get (starts_from c f l [] n ops) i ≡ Some k) × IsStopPlace (before ++ ops_code c f l starts ops) k

  found : (before : List FlatOp) (n i q : ℕ) (ops : List SlotOp) → n ≡ length before → slice_get ops i ≡ Some (slot.Stop q) → Found before n i ops
  found before n i q [] e h = absurd cc
  found before n zero q (op ∷ ops) e h =
      let one : one_code c f l starts op ++ ops_code c f l starts ops ≡ flat.Stop q ∷ ops_code c f l starts ops = ap (λ (x : List FlatOp). x ++ ops_code c f l starts ops) (stop_one op q (some_same op (slot.Stop q) h)) in
      (n, refl, (q, ap₂ (λ (x : List FlatOp) (k : ℕ). slice_get (before ++ x) k) one e ∙ here before (flat.Stop q) (ops_code c f l starts ops)))
  found before n (suc i) q (op ∷ ops) e h =
      let code : List FlatOp = one_code c f l starts op in
      let next : n + length (one_code c f l [] op) ≡ length (before ++ code) = omega (arith, e, one_same op, length-append before code) in
      let rest : Found (before ++ code) (n + length (one_code c f l [] op)) i ops = found (before ++ code) (n + length (one_code c f l [] op)) i q ops next h in
      (rest.0, rest.1, (rest.2.0, ap (λ (x : List FlatOp). slice_get x rest.0) (sym (append_assoc before code (ops_code c f l starts ops))) ∙ rest.2.1))

-- ---- functions

module _ (c : SlotCode) (f : SlotFunction) (l : Layout) where
  place_found : (i q : ℕ) → slice_get f.code i ≡ Some (slot.Stop q) → IsStopPlace (function_code c f l) (place_of (starts_of c f l) i)
  unfolding function_code starts_of
  place_found i q h =
      let starts : List ℕ = starts_by c f l [] in
      let at : Found c f l starts (params_code c f l starts) (length (params_code c f l [])) i f.code = found c f l starts (params_code c f l starts) (length (params_code c f l [])) i q f.code (params_same c f l starts) h in
      subst (λ (k : ℕ). IsStopPlace (code_by c f l starts) k) (sym (ap or_zero at.1)) at.2

  places_found : (points places : List ℕ) → PlacesOf c f points places → AllByRecursion (IsStopPlace (function_code c f l)) (map (place_of (starts_of c f l)) places)
  places_found [] [] h = tt
  places_found [] (i ∷ is) h = absurd h
  places_found (q ∷ qs) [] h = absurd h
  places_found (q ∷ qs) (i ∷ is) h = (place_found i q h.0, places_found qs is h.1)

-- the places of a function are those of stopping points
abbrev pub HasStopPlaces : FlatFunction → Type 0
HasStopPlaces f = AllByRecursion (IsStopPlace f.code) f.places

module _ (linkage : ℕ) (c : SlotCode) where
  function_places : (f : SlotFunction) → IsFunction c f → HasStopPlaces (flat_function linkage c f)
  unfolding flat_function
  function_places f h = places_found c f (layout linkage f) f.points f.places h.7

  pub functions_places : (fs : List SlotFunction) → AllByRecursion (IsFunction c) fs → AllByRecursion HasStopPlaces (map (flat_function linkage c) fs)
  functions_places [] h = tt
  functions_places (f ∷ fs) h = (function_places f h.0, functions_places fs h.1)
