-- Each name that a text uses is given.
use Rattle.std.proofs.Common.{◌≡◌, ◌≤◌, ◌<◌, inl, inr, ℕ, zero, suc, ◌+◌, ◌*◌, List, [], ◌∷◌, ◌++◌, length, map, reverse, take, Bool, true, false, if◌then◌else◌, nat_eq, Option, Some, None, slice_get, sym, ap, subst, arith}
use Rattle.std.specs.Prelude.{codes}
use Rattle.std.specs.List.{AllByRecursion}
use Rattle.std.proofs.lemmas.List.{reverse-append, length-map}
use Rattle.ldb_words.specs.Word.{difference_of}
use Rattle.obj_file.specs.declared.object.Name.{Name}
use Rattle.obj_file.specs.declared.object.Object.{Object}
use Rattle.obj_file.specs.declared.object.StaticDef.{StaticDef}
use Rattle.obj_file.specs.declared.object.Use.{Use}
use Rattle.slot_ir.specs.declared.code.SlotCode.{SlotCode}
use Rattle.slot_ir.specs.declared.code.SlotFunction.{SlotFunction}
use Rattle.slot_ir.specs.declared.code.SlotLocal.{SlotLocal}
use Rattle.slot_ir.specs.declared.code.Home.{Home}
use Rattle.slot_ir.specs.declared.code.Home.TheVariants.{Block, Register}
use Rattle.slot_ir.specs.declared.code.SlotItem.{SlotItem}
use Rattle.slot_ir.specs.declared.code.SlotItem.TheVariants.{Scalar, Struct}
use Rattle.slot_ir.specs.declared.code.SlotMember.{SlotMember}
use Rattle.slot_ir.specs.declared.code.SlotStruct.{SlotStruct}
use Rattle.slot_ir.specs.declared.code.SlotOp.{SlotOp}
use Rattle.slot_ir.specs.declared.code.SlotOp.TheVariants as slot
use Rattle.slot_ir.specs.WellFormed.{NamesWhatIsThere, IsFilled, IsItemThere, IsMember, IsStruct, IsFunction, IsWellFormed}
use Rattle.flat_ir.specs.declared.code.FlatOp.{FlatOp}
use Rattle.flat_ir.specs.declared.code.FlatOp.TheVariants as flat
use Rattle.flat_ir.specs.declared.code.FlatFunction.{FlatFunction}
use Rattle.flat_ir.specs.declared.code.FlatCode.{FlatCode}
use Rattle.flat_ir.specs.declared.moves.MoveStep.{MoveStep}
use Rattle.flat_ir.specs.declared.moves.MoveStep.TheVariants as step
use Rattle.flat_ir.specs.declared.moves.Mover.{Mover}
use Rattle.flat_gen.specs.declared.layout.Layout.{Layout}
use Rattle.flat_gen.specs.Layout.{layout}
use Rattle.flat_gen.specs.Codes.{zeros_by, zeros_in, passes, op_code, stop_code, one_code, ops_code, arguments, params_code, code_by, starts_of, function_code, flat_function, flat_code}
use Rattle.flat_gen.specs.Movers.{only_of, only_in, skip, item_step, items_steps, found_by, inner_by, inner_of, inner, innermost, deepest, member_steps, end_of, ascending, descending, mover}
use Rattle.gen_parts.specs.Coding.{Coding}
use Rattle.gen_parts.specs.Links.{IsOneOf, text_names, static_names}
use Rattle.gen_parts.specs.Names.{function_name, object_name, mover_name, ascending_name, descending_name}
use Rattle.gen_parts.specs.Text.{function_insns, mover_insns}
use Rattle.gen_parts.specs.Uses.{return_uses, op_uses, ops_uses}
use Rattle.gen_parts.specs.Statics.{program_statics, data_uses}
use Rattle.gen_parts.specs.Parts.{named, jump_use, step_uses, steps_uses, choice_uses, copy_uses, ascending_at, descending_at, mover_uses, mover_names, movers_uses, movers_names, end_of_returns, end_at, offsets, function_uses, functions_uses, functions_names, functions_at, program_uses, program_names, IsObjectOf}
use Rattle.object_laws.specs.Found.{IsGiven}
use Rattle.object_laws.proofs.Lists.{all_append, all_weaker}
use Rattle.object_laws.proofs.StaticUses.{object_named, string_named, data_named}

all_if : {A : Type 0} (P : A → Type 0) (b : Bool) (xs ys : List A) → AllByRecursion P xs → AllByRecursion P ys → AllByRecursion P (if b then xs else ys)
all_if P true xs ys h k = h
all_if P false xs ys h k = k

all_reverse : {A : Type 0} (P : A → Type 0) (xs : List A) → AllByRecursion P xs → AllByRecursion P (reverse xs)
all_reverse P [] h = tt
all_reverse P (x ∷ xs) h = subst (λ l. AllByRecursion P l) (sym (reverse-append (x ∷ []) xs)) (all_append P (reverse xs) (x ∷ []) (all_reverse P xs h.1) (h.0, tt))

-- ---- what is named is there

called_there : (c : SlotCode) (f : SlotFunction) (fs : List SlotFunction) (d g n : ℕ) → NamesWhatIsThere (record c { functions = fs }) f (slot.Call d g n) → g < length fs
called_there c f [] d g n h = absurd h.2
called_there c f (k ∷ fs) d zero n h = omega arith
called_there c f (k ∷ fs) d (suc g) n h = omega (arith, called_there c f fs d g n (h.0, h.1, h.2))

filled_there : (ss : List SlotStruct) (s : ℕ) → IsFilled (slice_get ss s) → s < length ss
filled_there [] s h = absurd (omega (arith, h))
filled_there (x ∷ ss) zero h = omega arith
filled_there (x ∷ ss) (suc s) h = omega (arith, filled_there ss s h)

abbrev HasNoParams : Option SlotFunction → Type 0
HasNoParams None = ⊥
HasNoParams (Some f) = f.params ≡ 0

main_there : (fs : List SlotFunction) (m : ℕ) → HasNoParams (slice_get fs m) → m < length fs
main_there [] m h = absurd h
main_there (f ∷ fs) zero h = omega arith
main_there (f ∷ fs) (suc m) h = omega (arith, main_there fs m h)

-- ---- steps of copies

module _ (c : SlotCode) where
  abbrev IsThere : SlotItem → Type 0
  IsThere (Scalar kind) = Unit {0}
  IsThere (Struct number) = number < length c.structs

  abbrev IsMemberThere : SlotMember → Type 0
  IsMemberThere m = IsThere m.item

  abbrev IsStepThere : MoveStep → Type 0
  IsStepThere (step.Struct number words) = number < length c.structs
  IsStepThere s = Unit {0}

  abbrev IsOptionThere : Option SlotMember → Type 0
  IsOptionThere None = Unit {0}
  IsOptionThere (Some m) = IsMemberThere m

  abbrev AreThereIn : Option SlotStruct → Type 0
  AreThereIn None = Unit {0}
  AreThereIn (Some s) = AllByRecursion IsMemberThere s.members

  item_there : (item : SlotItem) → IsItemThere c item → IsThere item
  item_there (Scalar kind) h = tt
  item_there (Struct number) h = filled_there c.structs number h

  members_there : (ms : List SlotMember) → AllByRecursion (IsMember c) ms → AllByRecursion IsMemberThere ms
  members_there [] h = tt
  members_there (m ∷ ms) h = (item_there m.item h.0.2, members_there ms h.1)

  struct_there : (ss : List SlotStruct) (number : ℕ) → AllByRecursion (IsStruct c) ss → AreThereIn (slice_get ss number)
  struct_there [] number h = tt
  struct_there (s ∷ ss) zero h = members_there s.members h.0.3
  struct_there (s ∷ ss) (suc number) h = struct_there ss number h.1

  only_there : (m : SlotMember) (ms : List SlotMember) → AllByRecursion IsMemberThere ms → IsOptionThere (inner_by c m (only_of ms))
  only_there m [] h = tt
  only_there m (x ∷ []) h = h.0
  only_there m (x ∷ y ∷ ms) h = tt

  only_in_there : (m : SlotMember) (s : Option SlotStruct) → AreThereIn s → IsOptionThere (inner_by c m (only_in s))
  only_in_there m None h = tt
  only_in_there m (Some s) h = only_there m s.members h

  module _ (structs : AllByRecursion (IsStruct c) c.structs) where
    inner_there : (m : SlotMember) (item : SlotItem) → IsOptionThere (inner_of c m item)
    inner_there m (Scalar kind) = tt
    inner_there m (Struct number) = only_in_there m (slice_get c.structs number) (struct_there c.structs number structs)

    found_there : (more : SlotMember → SlotMember) (next : (x : SlotMember) → IsMemberThere x → IsMemberThere (more x)) (m : SlotMember) (o : Option SlotMember) → IsMemberThere m → IsOptionThere o
        → IsMemberThere (found_by more m o)
    found_there more next m None h k = h
    found_there more next m (Some x) h k = next x k

    innermost_there : (deep : ℕ) (m : SlotMember) → IsMemberThere m → IsMemberThere (innermost c deep m)
    innermost_there zero m h = h
    innermost_there (suc deep) m h = found_there (innermost c deep) (innermost_there deep) m (inner c m) h (inner_there m m.item)

    step_there : (words : ℕ) (item : SlotItem) → IsThere item → IsStepThere (item_step words item)
    step_there words (Scalar kind) h = tt
    step_there words (Struct number) h = h

    items_there : (items : ℕ) (item : SlotItem) → IsThere item → AllByRecursion IsStepThere (items_steps items item)
    items_there items item h = all_if IsStepThere (nat_eq items 1) (item_step 1 item ∷ []) (step.Items items ∷ item_step 2 item ∷ step.Again ∷ []) (step_there 1 item h, tt) (tt, (step_there 2 item h, (tt, tt)))

    skip_there : (from to : ℕ) → AllByRecursion IsStepThere (skip from to)
    skip_there from to = all_if IsStepThere (nat_eq (difference_of to from) 0) [] (step.Skip (difference_of to from) ∷ []) tt (tt, tt)

    member_there : (m : SlotMember) → IsMemberThere m → AllByRecursion IsStepThere (member_steps c m)
    member_there m h = items_there (innermost c (deepest c) m).items (innermost c (deepest c) m).item (innermost_there (deepest c) m h)

    ascending_there : (size at : ℕ) (ms : List SlotMember) → AllByRecursion IsMemberThere ms → AllByRecursion IsStepThere (ascending c size at ms)
    ascending_there size at [] h = skip_there at size
    ascending_there size at (m ∷ ms) h =
        all_append IsStepThere (skip at m.at ++ member_steps c m) (ascending c size (end_of c m) ms) (all_append IsStepThere (skip at m.at) (member_steps c m) (skip_there at m.at) (member_there m h.0))
        (ascending_there size (end_of c m) ms h.1)

    descending_there : (at : ℕ) (ms : List SlotMember) → AllByRecursion IsMemberThere ms → AllByRecursion IsStepThere (descending c at ms)
    descending_there at [] h = skip_there at 0
    descending_there at (m ∷ ms) h =
        all_append IsStepThere (skip at (end_of c m) ++ member_steps c m) (descending c m.at ms)
        (all_append IsStepThere (skip at (end_of c m)) (member_steps c m) (skip_there at (end_of c m)) (member_there m h.0)) (descending_there m.at ms h.1)

    abbrev IsMoverThere : Mover → Type 0
    IsMoverThere m = AllByRecursion IsStepThere m.ascending × AllByRecursion IsStepThere m.descending

    mover_there : (s : SlotStruct) → IsStruct c s → IsMoverThere (mover c s)
    unfolding mover
    mover_there s h =
        let ms : AllByRecursion IsMemberThere s.members = members_there s.members h.3 in
        (ascending_there s.size 0 s.members ms, descending_there s.size (reverse s.members) (all_reverse IsMemberThere s.members ms))

    movers_there : (ss : List SlotStruct) → AllByRecursion (IsStruct c) ss → AllByRecursion IsMoverThere (map (mover c) ss)
    movers_there [] h = tt
    movers_there (s ∷ ss) h = (mover_there s h.0, movers_there ss h.1)

-- ---- operators

module _ (c : SlotCode) (names : List (List ℕ)) where
  abbrev IsOpThere : FlatOp → Type 0
  IsOpThere (flat.StaticAddress to object) = IsOneOf (object_name object) names
  IsOpThere (flat.Copy shape) = shape < length c.structs
  IsOpThere (flat.Call function) = function < length c.functions
  IsOpThere o = Unit {0}

  abbrev IsCodeThere : FlatFunction → Type 0
  IsCodeThere f = AllByRecursion IsOpThere f.code

module _ (c : SlotCode) (names : List (List ℕ)) (objects : (k : ℕ) → k < length c.objects → IsOneOf (object_name k) names)
    (strings : (k : ℕ) → k < length c.strings → IsOneOf (object_name (length c.objects + k)) names) where
  module _ (f : SlotFunction) (l : Layout) (starts : List ℕ) where
    passes_there : (d n : ℕ) → AllByRecursion (IsOpThere c names) (passes c f l starts d n)
    passes_there d zero = tt
    passes_there d (suc n) = all_append (IsOpThere c names) (passes c f l starts d n) _ (passes_there d n) (tt, tt)

    zeros_by_there : (x size : ℕ) (h : Home) → AllByRecursion (IsOpThere c names) (zeros_by c f l starts x size h)
    zeros_by_there x size Block = (tt, (tt, tt))
    zeros_by_there x size (Register r) = (tt, (tt, tt))

    zeros_there : (x : ℕ) (o : Option SlotLocal) → AllByRecursion (IsOpThere c names) (zeros_in c f l starts x o)
    zeros_there x None = tt
    zeros_there x (Some row) = zeros_by_there x row.size row.home

    op_there : (op : SlotOp) → NamesWhatIsThere c f op → AllByRecursion (IsOpThere c names) (op_code c f l starts op)
    op_there (slot.Const d n) h = (tt, (tt, tt))
    op_there (slot.Null d) h = (tt, (tt, tt))
    op_there (slot.StaticAddress d o) h = (objects o h.1, (tt, tt))
    op_there (slot.TextAddress d k) h = (strings k h.1, (tt, tt))
    op_there (slot.LocalAddress d x) h = (tt, (tt, tt))
    op_there (slot.Load d i k a) h = (tt, (tt, (tt, tt)))
    op_there (slot.Store i j k) h = (tt, (tt, (tt, tt)))
    op_there (slot.ReadRegister d x k a) h = (tt, (tt, tt))
    op_there (slot.WriteRegister j x k) h = (tt, (tt, tt))
    op_there (slot.Convert d a) h = (tt, (tt, (tt, tt)))
    op_there (slot.Unary d op) h = (tt, (tt, (tt, tt)))
    op_there (slot.Binary d i j op) h = (tt, (tt, (tt, (tt, tt))))
    op_there (slot.Compare d i j op) h = (tt, (tt, (tt, (tt, tt))))
    op_there (slot.Index d i j size u back) h = (tt, (tt, (tt, (tt, tt))))
    op_there (slot.Distance d i j size) h = (tt, (tt, (tt, (tt, tt))))
    op_there (slot.Offset d n) h = (tt, (tt, (tt, (tt, tt))))
    op_there (slot.Take d i) h = (tt, (tt, tt))
    op_there (slot.Jump place) h = (tt, tt)
    op_there (slot.JumpIfZero d place) h = (tt, (tt, tt))
    op_there (slot.JumpIfNotZero d place) h = (tt, (tt, tt))
    op_there (slot.JumpIfEqual d n place) h = (tt, (tt, (tt, (tt, tt))))
    op_there (slot.Call d g n) h = all_append (IsOpThere c names) (passes c f l starts d n) _ (passes_there d n) (called_there c f c.functions d g n h, (tt, tt))
    op_there (slot.Return d) h = (tt, (tt, tt))
    op_there (slot.Stop q) h = (tt, tt)
    op_there (slot.Move i j s) h = (tt, (tt, (filled_there c.structs s h.2, tt)))
    op_there (slot.Zero x) h = zeros_there x (slice_get f.locals x)
    op_there (slot.Leave n) h = tt
    op_there (slot.GetChar d) h = (tt, (tt, tt))
    op_there (slot.PutChar d) h = (tt, (tt, (tt, tt)))
    op_there (slot.Exit d) h = (tt, (tt, tt))

    stop_there : (op : SlotOp) → AllByRecursion (IsOpThere c names) (stop_code op)
    stop_there op = elim op as (λ (o : SlotOp). AllByRecursion (IsOpThere c names) (stop_code o)) [
      | slot.Stop q ↦ (tt, tt)
      | slot.Const d n ↦ tt
      | slot.Null d ↦ tt
      | slot.StaticAddress d o ↦ tt
      | slot.TextAddress d k ↦ tt
      | slot.LocalAddress d x ↦ tt
      | slot.Load d i k a ↦ tt
      | slot.Store i j k ↦ tt
      | slot.ReadRegister d x k a ↦ tt
      | slot.WriteRegister j x k ↦ tt
      | slot.Convert d a ↦ tt
      | slot.Unary d u ↦ tt
      | slot.Binary d i j u ↦ tt
      | slot.Compare d i j u ↦ tt
      | slot.Index d i j size u back ↦ tt
      | slot.Distance d i j size ↦ tt
      | slot.Offset d n ↦ tt
      | slot.Take d i ↦ tt
      | slot.Jump place ↦ tt
      | slot.JumpIfZero d place ↦ tt
      | slot.JumpIfNotZero d place ↦ tt
      | slot.JumpIfEqual d n place ↦ tt
      | slot.Call d g n ↦ tt
      | slot.Return d ↦ tt
      | slot.Move i j s ↦ tt
      | slot.Zero x ↦ tt
      | slot.Leave n ↦ tt
      | slot.GetChar d ↦ tt
      | slot.PutChar d ↦ tt
      | slot.Exit d ↦ tt
    ]

    ops_there : (ops : List SlotOp) → AllByRecursion (NamesWhatIsThere c f) ops → AllByRecursion (IsOpThere c names) (ops_code c f l starts ops)
    ops_there [] h = tt
    ops_there (op ∷ ops) h =
        all_append (IsOpThere c names) (one_code c f l starts op) (ops_code c f l starts ops) (all_if (IsOpThere c names) l.fits (op_code c f l starts op) (stop_code op) (op_there op h.0) (stop_there op)) (ops_there ops h.1)

    arguments_there : (x : ℕ) (rows : List SlotLocal) → AllByRecursion (IsOpThere c names) (arguments c f l starts x rows)
    arguments_there x [] = tt
    arguments_there x (row ∷ rows) = (tt, arguments_there (suc x) rows)

    code_there : AllByRecursion (NamesWhatIsThere c f) f.code → AllByRecursion (IsOpThere c names) (code_by c f l starts)
    code_there h =
        all_append (IsOpThere c names) (params_code c f l starts) (ops_code c f l starts f.code) (all_if (IsOpThere c names) l.fits (arguments c f l starts 0 (take f.params f.locals)) [] (arguments_there 0 (take f.params f.locals)) tt) (ops_there f.code h)

  functions_there : (linkage : ℕ) (fs : List SlotFunction) → AllByRecursion (IsFunction c) fs → AllByRecursion (IsCodeThere c names) (map (flat_function linkage c) fs)
  unfolding flat_function function_code
  functions_there linkage [] h = tt
  functions_there linkage (f ∷ fs) h = (code_there f (layout linkage f) (starts_of c f (layout linkage f)) h.0.6, functions_there linkage fs h.1)

-- ---- the names that an object gives

module _ {Insn : Type 0} (t : Coding Insn) where
  function_given : (number k n : ℕ) (fs : List FlatFunction) → k < length fs → IsOneOf (function_name (number + k)) (text_names (functions_names t number n fs))
  function_given number k n [] h = absurd (omega (arith, h))
  function_given number zero n (f ∷ fs) h = let e : number + 0 ≡ number = omega arith in inl (ap function_name e)
  function_given number (suc k) n (f ∷ fs) h =
      let e : suc number + k ≡ number + suc k = omega arith in
      inr (subst (λ (i : ℕ). IsOneOf (function_name i) (text_names (functions_names t (suc number) (n + length (function_insns t f)) fs))) e (function_given (suc number) k (n + length (function_insns t f)) fs (omega (arith, h))))

  abbrev AreGiven : (number : ℕ) → List (List ℕ) → Type 0
  AreGiven number names = IsOneOf (mover_name number) names × IsOneOf (ascending_name number) names × IsOneOf (descending_name number) names

  mover_given : (number k n : ℕ) (ms : List Mover) (more : List Name) → k < length ms → AreGiven (number + k) (text_names (movers_names t number n ms ++ more))
  unfolding mover_names
  mover_given number k n [] more h = absurd (omega (arith, h))
  mover_given number zero n (m ∷ ms) more h =
      let e : number + 0 ≡ number = omega arith in
      (inl (ap mover_name e), inr (inl (ap ascending_name e)), inr (inr (inl (ap descending_name e))))
  mover_given number (suc k) n (m ∷ ms) more h =
      let e : suc number + k ≡ number + suc k = omega arith in
      let next : ℕ = n + length (mover_insns t m) in
      let g : AreGiven (number + suc k) (text_names (movers_names t (suc number) next ms ++ more)) =
      subst (λ (i : ℕ). AreGiven i (text_names (movers_names t (suc number) next ms ++ more))) e (mover_given (suc number) k next ms more (omega (arith, h))) in
      (inr (inr (inr g.0)), inr (inr (inr g.1)), inr (inr (inr g.2)))

behind_names : (name : List ℕ) (ns ms : List Name) → IsOneOf name (text_names ms) → IsOneOf name (text_names (ns ++ ms))
behind_names name [] ms h = h
behind_names name (n ∷ ns) ms h = inr (behind_names name ns ms h)

left_of : (name : List ℕ) (xs ys : List (List ℕ)) → IsOneOf name xs → IsOneOf name (xs ++ ys)
left_of name [] ys h = absurd h
left_of name (x ∷ xs) ys (inl e) = inl e
left_of name (x ∷ xs) ys (inr h) = inr (left_of name xs ys h)

right_of : (name : List ℕ) (xs ys : List (List ℕ)) → IsOneOf name ys → IsOneOf name (xs ++ ys)
right_of name [] ys h = h
right_of name (x ∷ xs) ys h = inr (right_of name xs ys h)

-- ---- uses

module _ {Insn : Type 0} (t : Coding Insn) (c : SlotCode) (names : List (List ℕ)) (functions : (k : ℕ) → k < length c.functions → IsOneOf (function_name k) names)
    (structs : (k : ℕ) → k < length c.structs → AreGiven t k names) where
  abbrev IsNamed : Use → Type 0
  IsNamed u = IsOneOf u.name names

  module _ (number entry : ℕ) (places : List ℕ) (epilogue : Option ℕ) (jump_word : ℕ) (own : number < length c.functions) where
    return_named : (at : ℕ) (o : Option ℕ) → AllByRecursion IsNamed (return_uses number entry places epilogue jump_word at o)
    return_named at None = tt
    return_named at (Some target) = (functions number own, tt)

    op_named : (at : ℕ) (o : FlatOp) → IsOpThere c names o → AllByRecursion IsNamed (op_uses number entry places epilogue jump_word at o)
    op_named at (flat.StaticAddress to object) h = (h, (h, tt))
    op_named at (flat.Copy shape) h = ((structs shape h).0, tt)
    op_named at (flat.Call function) h = (functions function h, tt)
    op_named at (flat.Jump place) h = (functions number own, tt)
    op_named at (flat.JumpIf is_zero place) h = (functions number own, tt)
    op_named at flat.Return h = return_named at epilogue
    op_named at (flat.Set to bits) h = tt
    op_named at (flat.FrameAddress to from) h = tt
    op_named at (flat.Get to from) h = tt
    op_named at (flat.Put from to) h = tt
    op_named at (flat.Load access) h = tt
    op_named at (flat.Store kind) h = tt
    op_named at (flat.Fill bytes) h = tt
    op_named at (flat.ReadRegister register access) h = tt
    op_named at (flat.WriteRegister register) h = tt
    op_named at (flat.Extend access) h = tt
    op_named at (flat.Unary op) h = tt
    op_named at (flat.Binary op) h = tt
    op_named at (flat.Scale size back) h = tt
    op_named at (flat.Apart size) h = tt
    op_named at (flat.Pass argument from) h = tt
    op_named at (flat.Argument argument landing) h = tt
    op_named at (flat.Stop point) h = tt
    op_named at (flat.Ask request) h = tt

    ops_named : (ats : List ℕ) (os : List FlatOp) → AllByRecursion (IsOpThere c names) os → AllByRecursion IsNamed (ops_uses number entry places epilogue jump_word ats os)
    ops_named ats [] h = tt
    ops_named [] (o ∷ os) h = tt
    ops_named (at ∷ ats) (o ∷ os) h = all_append IsNamed (op_uses number entry places epilogue jump_word at o) _ (op_named at o h.0) (ops_named ats os h.1)

  struct_named : (back : Bool) (at number words : ℕ) → number < length c.structs → AllByRecursion IsNamed (step_uses back at (step.Struct number words))
  struct_named true at number words h = ((structs number h).2, tt)
  struct_named false at number words h = ((structs number h).1, tt)

  step_named : (back : Bool) (at : ℕ) (s : MoveStep) → IsStepThere c s → AllByRecursion IsNamed (step_uses back at s)
  step_named back at (step.Leaf kind) h = tt
  step_named back at (step.Skip bytes) h = tt
  step_named back at (step.Items count) h = tt
  step_named back at step.Again h = tt
  step_named back at (step.Struct number words) h = struct_named back at number words h

  steps_named : (back : Bool) (n : ℕ) (before : MoveStep) (ss : List MoveStep) → AllByRecursion (IsStepThere c) ss → AllByRecursion IsNamed (steps_uses t back n before ss)
  steps_named back n before [] h = tt
  steps_named back n before (s ∷ ss) h = all_append IsNamed (step_uses back (n * 4) s) _ (step_named back (n * 4) s h.0) (steps_named back (n + length (t.step back before s)) s ss h.1)

  copy_named : (back : Bool) (n : ℕ) (ss : List MoveStep) → AllByRecursion (IsStepThere c) ss → AllByRecursion IsNamed (copy_uses t back n ss)
  copy_named back n ss h = steps_named back (n + length t.copy_begin) step.Again ss h

  abbrev AreStepsThere : Mover → Type 0
  AreStepsThere m = AllByRecursion (IsStepThere c) m.ascending × AllByRecursion (IsStepThere c) m.descending

  mover_named : (number n : ℕ) (m : Mover) → number < length c.structs → AreStepsThere m → AllByRecursion IsNamed (mover_uses t number n m)
  unfolding mover_uses
  mover_named number n m own h =
      all_append IsNamed (choice_uses t number n ++ copy_uses t false (ascending_at t n m) m.ascending) (copy_uses t true (descending_at t n m) m.descending)
      (all_append IsNamed (choice_uses t number n) (copy_uses t false (ascending_at t n m) m.ascending) ((structs number own).2, tt) (copy_named false (ascending_at t n m) m.ascending h.0))
      (copy_named true (descending_at t n m) m.descending h.1)

  movers_named : (number n : ℕ) (ms : List Mover) → number + length ms ≤ length c.structs → AllByRecursion AreStepsThere ms → AllByRecursion IsNamed (movers_uses t number n ms)
  movers_named number n [] fits h = tt
  movers_named number n (m ∷ ms) fits h =
      all_append IsNamed (mover_uses t number n m) _ (mover_named number n m (omega (arith, fits)) h.0) (movers_named (suc number) (n + length (mover_insns t m)) ms (omega (arith, fits)) h.1)

  function_named : (number n : ℕ) (f : FlatFunction) → number < length c.functions → IsCodeThere c names f → AllByRecursion IsNamed (function_uses t number n f)
  unfolding function_uses
  function_named number n f own h = ops_named number (n * 4) (offsets t n f) (end_of_returns t.shape.returns_by_end (end_at t n f * 4)) t.shape.jump_word own (offsets t n f) f.code h

  functions_named : (number n : ℕ) (fs : List FlatFunction) → number + length fs ≤ length c.functions → AllByRecursion (IsCodeThere c names) fs → AllByRecursion IsNamed (functions_uses t number n fs)
  functions_named number n [] fits h = tt
  functions_named number n (f ∷ fs) fits h =
      all_append IsNamed (function_uses t number n f) _ (function_named number n f (omega (arith, fits)) h.0) (functions_named (suc number) (n + length (function_insns t f)) fs (omega (arith, fits)) h.1)

  program_named : (flat : FlatCode) → length flat.functions ≤ length c.functions → length flat.movers ≤ length c.structs → flat.main < length c.functions → AllByRecursion (IsCodeThere c names) flat.functions
      → AllByRecursion AreStepsThere flat.movers → AllByRecursion IsNamed (program_uses t flat)
  unfolding program_uses
  program_named flat fs ms main code steps =
      let call : List Use = jump_use 0 (function_name flat.main) ∷ [] in
      all_append IsNamed (call ++ movers_uses t 0 (length t.start) flat.movers) (functions_uses t 0 (functions_at t flat) flat.functions)
      (all_append IsNamed call (movers_uses t 0 (length t.start) flat.movers) (functions flat.main main, tt) (movers_named 0 (length t.start) flat.movers (omega (arith, ms)) steps))
      (functions_named 0 (functions_at t flat) flat.functions (omega (arith, fs)) code)

-- ---- the object

module _ {Insn : Type 0} (t : Coding Insn) (linkage : ℕ) (c : SlotCode) (h : IsWellFormed c) where
  abbrev texts : List Name
  texts = program_names t (flat_code linkage c)

  abbrev statics : List StaticDef
  statics = program_statics t.shape.order c

  abbrev all_names : List (List ℕ)
  all_names = text_names texts ++ static_names statics

  movers_long : length (flat_code linkage c).movers ≡ length c.structs
  unfolding flat_code
  movers_long = length-map c.structs (mover c)

  functions_long : length (flat_code linkage c).functions ≡ length c.functions
  unfolding flat_code
  functions_long = length-map c.functions (flat_function linkage c)

  function_there : (k : ℕ) → k < length c.functions → IsOneOf (function_name k) all_names
  unfolding program_names
  function_there k l =
      let flat : FlatCode = flat_code linkage c in
      let first : List Name = (named 0 (codes "start") ∷ []) ++ movers_names t 0 (length t.start) flat.movers in
      let last : List Name = functions_names t 0 (functions_at t flat) flat.functions in
      let e : 0 + k ≡ k = omega arith in
      let is : IsOneOf (function_name k) (text_names last) = subst (λ (i : ℕ). IsOneOf (function_name i) (text_names last)) e (function_given t 0 k (functions_at t flat) flat.functions (omega (arith, l, functions_long))) in
      left_of (function_name k) (text_names (first ++ last)) (static_names statics) (behind_names (function_name k) first last is)

  struct_given : (k : ℕ) → k < length c.structs → AreGiven t k (text_names texts)
  unfolding program_names
  struct_given k l =
      let flat : FlatCode = flat_code linkage c in
      let last : List Name = functions_names t 0 (functions_at t flat) flat.functions in
      let e : 0 + k ≡ k = omega arith in
      let g : AreGiven t k (text_names (movers_names t 0 (length t.start) flat.movers ++ last)) =
      subst (λ (i : ℕ). AreGiven t i (text_names (movers_names t 0 (length t.start) flat.movers ++ last))) e (mover_given t 0 k (length t.start) flat.movers last (omega (arith, l, movers_long))) in
      (inr g.0, inr g.1, inr g.2)

  struct_names_there : (k : ℕ) → k < length c.structs → AreGiven t k all_names
  struct_names_there k l =
      let g : AreGiven t k (text_names texts) = struct_given k l in
      (left_of _ (text_names texts) (static_names statics) g.0, left_of _ (text_names texts) (static_names statics) g.1, left_of _ (text_names texts) (static_names statics) g.2)

  object_given : (k : ℕ) → k < length c.objects → IsOneOf (object_name k) all_names
  object_given k l = right_of (object_name k) (text_names texts) (static_names statics) (object_named t.shape.order c k l)

  string_given : (k : ℕ) → k < length c.strings → IsOneOf (object_name (length c.objects + k)) all_names
  string_given k l = right_of (object_name (length c.objects + k)) (text_names texts) (static_names statics) (string_named t.shape.order c k l)

  uses_named : AllByRecursion (λ (u : Use). IsOneOf u.name all_names) (program_uses t (flat_code linkage c) ++ data_uses t.shape.order c)
  unfolding flat_code
  uses_named =
      all_append (λ (u : Use). IsOneOf u.name all_names) (program_uses t (flat_code linkage c)) (data_uses t.shape.order c)
      (program_named t c all_names function_there struct_names_there (flat_code linkage c) (omega (arith, functions_long)) (omega (arith, movers_long)) (main_there c.functions c.main h.0)
      (functions_there c all_names object_given string_given linkage c.functions h.1) (movers_there c h.3 c.structs h.3))
      (all_weaker (λ (u : Use). IsOneOf u.name (static_names statics)) (λ (u : Use). IsOneOf u.name all_names) (λ u k. right_of u.name (text_names texts) (static_names statics) k) (data_uses t.shape.order c)
      (data_named t.shape.order c h))

pub used_names_given : {Insn : Type 0} (t : Coding Insn) (linkage : ℕ) (c : SlotCode) (o : Object) → IsWellFormed c → IsObjectOf t c (flat_code linkage c) o → AllByRecursion (IsGiven (text_names o.names ++ static_names o.statics)) o.uses
used_names_given t linkage c o h is =
    subst (λ (ns : List Name). AllByRecursion (IsGiven (text_names ns ++ static_names o.statics)) o.uses) (sym is.names)
    (subst (λ (ss : List StaticDef). AllByRecursion (IsGiven (text_names (program_names t (flat_code linkage c)) ++ static_names ss)) o.uses) (sym is.statics)
    (subst (λ (us : List Use). AllByRecursion (IsGiven (all_names t linkage c h)) us) (sym is.uses) (uses_named t linkage c h)))
