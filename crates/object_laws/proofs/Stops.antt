-- The stopping points of an object, for any target whose operators go on behind their ends.
use Rattle.std.proofs.Common.{◌≡◌, ◌≤◌, ◌<◌, ℕ, suc, zero, ◌+◌, ◌*◌, List, [], ◌∷◌, ◌++◌, length, length-append, append_assoc, append-nil, map, take, drop, Bool, true, false, not, Some, slice_get, true≢false, refl, sym, ap, ap₂, subst, ◌∙◌, arith}
use Rattle.std.specs.List.{AllByRecursion}
use Rattle.std.proofs.lemmas.List.{take_all, take-append-le}
use Rattle.std.proofs.Math.Seq.{drop-append-add}
use Rattle.obj_file.specs.declared.object.FunctionRow.{FunctionRow}
use Rattle.obj_file.specs.declared.object.Object.{Object}
use Rattle.slot_ir.specs.declared.code.SlotCode.{SlotCode}
use Rattle.slot_ir.specs.declared.code.SlotFunction.{SlotFunction}
use Rattle.flat_ir.specs.declared.code.FlatOp.{FlatOp}
use Rattle.flat_ir.specs.declared.code.FlatOp.TheVariants as flat
use Rattle.flat_ir.specs.declared.code.FlatFunction.{FlatFunction}
use Rattle.flat_ir.specs.declared.code.FlatCode.{FlatCode}
use Rattle.gen_parts.specs.Coding.{Coding}
use Rattle.gen_parts.specs.Text.{text_bytes, ops_insns, ops_offsets, function_insns, functions_insns, movers_insns, program_insns}
use Rattle.gen_parts.specs.Uses.{or_zero, offset_of}
use Rattle.gen_parts.specs.Parts.{operators_at, function_row, functions_rows, functions_at, program_rows, IsObjectOf}
use Rattle.object_laws.specs.Stops.{IsStop, HasStops, goes_on_behind, HasPlainEnds}
use Rattle.object_laws.proofs.Places.{some_same, here, IsStopPlace, HasStopPlaces}

not_true : (b : Bool) → not b ≡ true → b ≡ false
not_true true h = absurd (true≢false (sym h))
not_true false h = refl

pub behind_both : {Insn : Type 0} (is_transfer : Insn → Bool) (b : Bool) (xs ys : List Insn) → goes_on_behind is_transfer b (xs ++ ys) ≡ goes_on_behind is_transfer (goes_on_behind is_transfer b xs) ys
behind_both is_transfer b [] ys = refl
behind_both is_transfer b (x ∷ xs) ys = behind_both is_transfer (not (is_transfer x)) xs ys

module _ {Insn : Type 0} (t : Coding Insn) (no_op : Insn) (is_transfer : Insn → Bool) (ends : HasPlainEnds t no_op is_transfer) where
  -- ---- instructions that go on behind their end

  abbrev GoesOn : List Insn → Type 0
  GoesOn is = goes_on_behind is_transfer false is ≡ true

  behind_any : (b : Bool) (xs : List Insn) → GoesOn xs → goes_on_behind is_transfer b xs ≡ true
  behind_any b [] h = absurd (true≢false (sym h))
  behind_any b (x ∷ xs) h = h

  -- the last of them
  abbrev Last : (xs ys : List Insn) → Type 0
  Last xs ys = (k : ℕ) × (i : Insn) × (length xs ≡ suc k) × (slice_get (xs ++ ys) k ≡ Some i) × (is_transfer i ≡ false)

  last_from : (x : Insn) (xs ys : List Insn) → goes_on_behind is_transfer (not (is_transfer x)) xs ≡ true → (i : Insn) × (slice_get (x ∷ xs ++ ys) (length xs) ≡ Some i) × (is_transfer i ≡ false)
  last_from x [] ys h = (x, refl, not_true (is_transfer x) h)
  last_from x (y ∷ xs) ys h = last_from y xs ys h

  last : (xs ys : List Insn) → GoesOn xs → Last xs ys
  last [] ys h = absurd (true≢false (sym h))
  last (x ∷ xs) ys h = let l = last_from x xs ys h in (length xs, l.0, refl, l.1, l.2)

  -- ---- the words of a text

  first_word : (i : Insn) (rest : List ℕ) → take 4 (t.bytes_of i ++ rest) ≡ t.bytes_of i
  first_word i rest =
      let size : length (t.bytes_of i) ≡ 4 = ends.word i in
      take-append-le 4 (t.bytes_of i) rest (omega (arith, size)) ∙ take_all 4 (t.bytes_of i) (omega (arith, size))

  word_stands : (is : List Insn) (k : ℕ) (i : Insn) → slice_get is k ≡ Some i → take 4 (drop (k * 4) (text_bytes t is)) ≡ t.bytes_of i
  word_stands [] k i h = absurd cc
  word_stands (j ∷ is) zero i h = first_word j (text_bytes t is) ∙ ap t.bytes_of (some_same j i h)
  word_stands (j ∷ is) (suc k) i h =
      let size : suc k * 4 ≡ length (t.bytes_of j) + k * 4 = omega (arith, ends.word j) in
      ap (λ n. take 4 (drop n (t.bytes_of j ++ text_bytes t is))) size ∙ (ap (take 4) (drop-append-add (t.bytes_of j) (text_bytes t is) (k * 4)) ∙ word_stands is k i h)

  -- ---- a program

  module _ (all : List Insn) where
    abbrev Stop : (from end at : ℕ) → Type 0
    Stop from end at = IsStop t no_op is_transfer all (text_bytes t all) from end at

    -- a no-op behind so many instructions that go on
    stop_here : (low n high : ℕ) (before rest : List Insn) → all ≡ before ++ no_op ∷ rest → n ≡ length before → GoesOn before → low < n → n < high → Stop (low * 4) (high * 4) (n * 4)
    stop_here low n high before rest e size goes above below =
        let l : Last before (no_op ∷ rest) = last before (no_op ∷ rest) goes in
        let next : n ≡ suc l.0 = omega (arith, size, l.2) in
        let is : slice_get all n ≡ Some no_op = ap₂ (λ (x : List Insn) (m : ℕ). slice_get x m) e size ∙ here before no_op rest in
        record {
          before = l.0;
          place = ap (λ m. m * 4) next;
          behind = omega (arith, above, next);
          inside = omega (arith, below);
          is_no_op = ap (λ m. slice_get all m) (sym next) ∙ is;
          word = word_stands all n no_op is;
          last = l.1;
          is_last = ap (λ (x : List Insn). slice_get x l.0) e ∙ l.3;
          goes_on = l.4;
        }

    module _ (frame low high : ℕ) where
      abbrev OpStop : (n place : ℕ) → List FlatOp → Type 0
      OpStop n place os = (at : ℕ) × (slice_get (ops_offsets t frame n os) place ≡ Some at) × Stop (low * 4) (high * 4) at

      op_stop : (before rest : List Insn) (n place q : ℕ) (os : List FlatOp) → all ≡ before ++ (ops_insns t frame os ++ rest) → n ≡ length before → GoesOn before → low < n
          → n + length (ops_insns t frame os) ≤ high → slice_get os place ≡ Some (flat.Stop q) → OpStop n place os
      op_stop before rest n place q [] e size goes above below h = absurd cc
      op_stop before rest n zero q (o ∷ os) e size goes above below h =
          let one : t.operator frame o ≡ no_op ∷ [] = ap (t.operator frame) (some_same o (flat.Stop q) h) ∙ ends.stop frame q in
          let is : all ≡ before ++ no_op ∷ (ops_insns t frame os ++ rest) = e ∙ ap (λ (x : List Insn). before ++ ((x ++ ops_insns t frame os) ++ rest)) one in
          let long : length (t.operator frame o) ≡ 1 = ap length one in
          (n * 4, refl, stop_here low n high before (ops_insns t frame os ++ rest) is size goes above (omega (arith, below, long, length-append (t.operator frame o) (ops_insns t frame os))))
      op_stop before rest n (suc place) q (o ∷ os) e size goes above below h =
          let code : List Insn = t.operator frame o in
          let others : List Insn = ops_insns t frame os in
          let is : all ≡ (before ++ code) ++ (others ++ rest) = e ∙ (ap (λ (x : List Insn). before ++ x) (append_assoc code others rest) ∙ sym (append_assoc before code (others ++ rest))) in
          let longer : n + length code ≡ length (before ++ code) = omega (arith, size, length-append before code) in
          let goes_on : GoesOn (before ++ code) = behind_both is_transfer false before code ∙ (ap (λ (b : Bool). goes_on_behind is_transfer b code) goes ∙ ends.operator frame o) in
          op_stop (before ++ code) rest (n + length code) place q os is longer goes_on (omega (arith, above)) (omega (arith, below, length-append code others)) h

      points_stop : (before rest : List Insn) (n : ℕ) (os : List FlatOp) (places : List ℕ) → all ≡ before ++ (ops_insns t frame os ++ rest) → n ≡ length before → GoesOn before → low < n
          → n + length (ops_insns t frame os) ≤ high → AllByRecursion (IsStopPlace os) places → AllByRecursion (Stop (low * 4) (high * 4)) (map (offset_of (ops_offsets t frame n os)) places)
      points_stop before rest n os [] e size goes above below h = tt
      points_stop before rest n os (p ∷ ps) e size goes above below h =
          let at : OpStop n p os = op_stop before rest n p h.0.0 os e size goes above below h.0.1 in
          (subst (λ (x : ℕ). Stop (low * 4) (high * 4) x) (sym (ap or_zero at.1)) at.2, points_stop before rest n os ps e size goes above below h.1)

    function_stops : (before rest : List Insn) (n : ℕ) (s : SlotFunction) (f : FlatFunction) → all ≡ before ++ (function_insns t f ++ rest) → n ≡ length before → HasStopPlaces f
        → HasStops t no_op is_transfer all (text_bytes t all) (function_row t n s f)
    unfolding function_insns function_row
    function_stops before rest n s f e size h =
        let first : List Insn = t.prologue f.frame in
        let code : List Insn = ops_insns t f.frame f.code in
        let final : List Insn = t.epilogue f.frame in
        let is : all ≡ (before ++ first) ++ (code ++ (final ++ rest)) =
        e ∙ (ap (λ (x : List Insn). before ++ x) (append_assoc (first ++ code) final rest ∙ append_assoc first code (final ++ rest)) ∙ sym (append_assoc before first (code ++ (final ++ rest)))) in
        let goes : GoesOn (before ++ first) = behind_both is_transfer false before first ∙ behind_any (goes_on_behind is_transfer false before) first (ends.prologue f.frame) in
        let l : Last first [] = last first [] (ends.prologue f.frame) in
        points_stop f.frame n (n + length (function_insns t f)) (before ++ first) (final ++ rest) (operators_at t n f) f.code f.places is (omega (arith, size, length-append before first)) goes (omega (arith, l.2))
        (omega (arith, length-append (first ++ code) final, length-append first code)) h

    functions_stop : (before rest : List Insn) (n : ℕ) (ss : List SlotFunction) (fs : List FlatFunction) → all ≡ before ++ (functions_insns t fs ++ rest) → n ≡ length before → AllByRecursion HasStopPlaces fs
        → AllByRecursion (HasStops t no_op is_transfer all (text_bytes t all)) (functions_rows t n ss fs)
    functions_stop before rest n ss [] e size h = tt
    functions_stop before rest n [] (f ∷ fs) e size h = tt
    functions_stop before rest n (s ∷ ss) (f ∷ fs) e size h =
        let code : List Insn = function_insns t f in
        let others : List Insn = functions_insns t fs in
        let split : all ≡ before ++ (code ++ (others ++ rest)) = e ∙ ap (λ (x : List Insn). before ++ x) (append_assoc code others rest) in (
          function_stops before (others ++ rest) n s f split size h.0,
          functions_stop (before ++ code) rest (n + length code) ss fs (split ∙ sym (append_assoc before code (others ++ rest))) (omega (arith, size, length-append before code)) h.1,
        )

  program_stops : (ss : List SlotFunction) (c : FlatCode) → AllByRecursion HasStopPlaces c.functions → AllByRecursion (HasStops t no_op is_transfer (program_insns t c) (text_bytes t (program_insns t c))) (program_rows t ss c)
  unfolding program_insns program_rows
  program_stops ss c h =
      let before : List Insn = t.start ++ movers_insns t c.movers in
      let is : program_insns t c ≡ before ++ (functions_insns t c.functions ++ []) = ap (λ (x : List Insn). before ++ x) (sym (append-nil (functions_insns t c.functions))) in
      functions_stop (program_insns t c) before [] (functions_at t c) ss c.functions is (sym (length-append t.start (movers_insns t c.movers))) h

  -- ---- the object

  pub object_stops : (slots : SlotCode) (c : FlatCode) (o : Object) → AllByRecursion HasStopPlaces c.functions → IsObjectOf t slots c o → AllByRecursion (HasStops t no_op is_transfer (program_insns t c) o.text) o.functions
  object_stops slots c o h is =
      subst (λ (x : List ℕ). AllByRecursion (HasStops t no_op is_transfer (program_insns t c) x) o.functions) (sym is.text)
      (subst (λ (rs : List FunctionRow). AllByRecursion (HasStops t no_op is_transfer (program_insns t c) (text_bytes t (program_insns t c))) rs) (sym is.functions) (program_stops slots.functions c h))
