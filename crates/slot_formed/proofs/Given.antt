-- Rows that are made one by one are those of an accepted program's code.
use Rattle.std.proofs.Common.{◌≡◌, refl, sym, ap, subst, ◌∙◌, arith, ℕ, suc, zero, ◌+◌, List, [], ◌∷◌, length, map, drop, Option, Some, slice_get}
use Rattle.std.specs.List.{AllByRecursion, range_with_len}
use Rattle.c_tree.specs.declared.types.Leaf.{Leaf}
use Rattle.c_tree.specs.declared.types.CType.{CType}
use Rattle.c_tree.specs.declared.types.CType.TheVariants.{Struct}
use Rattle.c_tree.specs.declared.types.StructDef.{StructDef}
use Rattle.c_tree.specs.declared.rows.Program.{Program}
use Rattle.c_tree.specs.declared.rows.Function.{Function}
use Rattle.c_tree.specs.declared.rows.Local.{Local}
use Rattle.c_tree.specs.declared.rows.ObjectRow.{ObjectRow}
use Rattle.c_tree.specs.declared.rows.Start.{Start}
use Rattle.c_tree.specs.declared.rows.Start.TheVariants as start
use Rattle.ldb_words.specs.declared.kinds.Kind.{Kind}
use Rattle.ldb_words.specs.declared.kinds.Kind.TheVariants.{Byte, Word, Address}
use Rattle.c_typing.specs.Starts.{Starts, AreStarts, IsObject}
use Rattle.c_typing.specs.Programs.{KeepsRules, numbers}
use Rattle.c_tree.specs.Layout.{size_of, leaves_of}
use Rattle.c_tree.specs.Ordered.{LieIn}
use Rattle.slot_ir.specs.declared.code.Home.{Home}
use Rattle.slot_ir.specs.declared.code.Access.{Access}
use Rattle.slot_ir.specs.declared.code.SlotCode.{SlotCode}
use Rattle.slot_ir.specs.declared.code.SlotFunction.{SlotFunction}
use Rattle.slot_ir.specs.declared.code.SlotLocal.{SlotLocal}
use Rattle.slot_ir.specs.declared.code.SlotObject.{SlotObject}
use Rattle.slot_ir.specs.declared.code.SlotStart.{SlotStart}
use Rattle.slot_ir.specs.declared.code.SlotMember.{SlotMember}
use Rattle.slot_ir.specs.declared.code.SlotStruct.{SlotStruct}
use Rattle.slot_gen.specs.Expressions.{access_of, registers_from, register_at}
use Rattle.slot_gen.specs.Statements.{function_code}
use Rattle.slot_gen.specs.Rows.{EachFrom, IsLocalOf, IsFunctionOf, IsStructOf, IsObjectOf, HasRowsOf, AreConsecutive, start_of, starts_of, member_of, Fits, AreFitting, AllFitting}
use Rattle.slot_formed.specs.Code.{home_of, local_row, local_rows, start_row, start_rows, object_row, struct_row, struct_rows, IsFunctionRow, AreFunctionRows, IsProgramCode}
use Rattle.slot_formed.proofs.Types.{function_there}
use Rattle.slot_formed.proofs.Stops.{HasAll, are_places}
use Rattle.slot_formed.proofs.Formed.{points_stand}

-- ---- registers from a local on

drop_more : {A : Type 0} (x : ℕ) (rs : List A) → drop 1 (drop x rs) ≡ drop (suc x) rs
drop_more zero rs = refl
drop_more (suc x) [] = refl
drop_more (suc x) (r ∷ rs) = drop_more x rs

register_behind : (x : ℕ) (rs : List (Option ℕ)) → register_at rs x ≡ register_at (drop x rs) 0
register_behind zero rs = refl
register_behind (suc x) [] = refl
register_behind (suc x) (r ∷ rs) = register_behind x rs

-- ---- starts

one_same : (i : ℕ) (k : Kind) (x : Start) → start_of (record { at = i; kind = k }) x ≡ start_row (record { at = i; kind = k }) x
one_same i Byte (start.Number n) = refl
one_same i Word (start.Number n) = refl
one_same i Address (start.Number n) = refl
one_same i Byte (start.Object o j) = refl
one_same i Word (start.Object o j) = refl
one_same i Address (start.Object o j) = refl
one_same i Byte (start.Str t) = refl
one_same i Word (start.Str t) = refl
one_same i Address (start.Str t) = refl

starts_same : (ls : List Leaf) (xs : List Start) → starts_of ls xs ≡ start_rows ls xs
starts_same [] xs = refl
starts_same (l ∷ ls) [] = refl
starts_same (l ∷ ls) (x ∷ xs) = ap (λ (s : SlotStart). s ∷ starts_of ls xs) (one_same l.at l.kind x) ∙ ap (λ (rest : List SlotStart). start_row l x ∷ rest) (starts_same ls xs)

-- ---- what an emitter asks of a program

fits_there : (p : Program) (k : Kind) (x : Start) → Starts p k x → Fits k x
fits_there p Byte (start.Number n) h = tt
fits_there p Word (start.Number n) h = tt
fits_there p Address (start.Number n) h = tt
fits_there p Address (start.Object o i) h = tt
fits_there p Address (start.Str k) h = tt
fits_there p Byte (start.Object o i) h = absurd h
fits_there p Byte (start.Str k) h = absurd h
fits_there p Word (start.Object o i) h = absurd h
fits_there p Word (start.Str k) h = absurd h

starts_fit : (p : Program) (ls : List Leaf) (xs : List Start) → AreStarts p ls xs → AreFitting ls xs
starts_fit p [] xs h = tt
starts_fit p (l ∷ ls) [] h = tt
starts_fit p (l ∷ ls) (x ∷ xs) h = (fits_there p l.kind x h.0, starts_fit p ls xs h.1)

pub all_fit : (p : Program) (rows : List ObjectRow) → AllByRecursion (IsObject p) rows → AllFitting p rows
all_fit p [] h = tt
all_fit p (row ∷ rows) h = (starts_fit p (leaves_of p.defs row.ctype) row.start h.0.1, all_fit p rows h.1)

-- ---- numbers from one on follow one another

numbers_range : (a n : ℕ) → numbers a n ≡ range_with_len a n
numbers_range a zero = refl
numbers_range a (suc n) = let next : suc a ≡ a + 1 = omega arith in ap (λ l. a ∷ l) (numbers_range (suc a) n ∙ ap (λ b. range_with_len b n) next)

are_consecutive : (qs : List ℕ) (a : ℕ) → qs ≡ numbers a (length qs) → AreConsecutive qs
are_consecutive [] a e = refl
are_consecutive (q ∷ qs) a e = let first : a ≡ q = cc e in e ∙ numbers_range a (suc (length qs)) ∙ ap (λ b. range_with_len b (suc (length qs))) first

-- ---- rows by their parts

same_local : (s : SlotLocal) (h : Home) (a : Access) (n : ℕ) (ls : List Leaf) → s.home ≡ h → s.access ≡ a → s.size ≡ n → s.leaves ≡ ls → s ≡ record { home = h; access = a; size = n; leaves = ls }
same_local s h a n ls e1 e2 e3 e4 =
    ap (λ (x : Home). record { home = x; access = s.access; size = s.size; leaves = s.leaves }) e1
    ∙ ap (λ (x : Access). record { home = h; access = x; size = s.size; leaves = s.leaves }) e2
    ∙ ap (λ (x : ℕ). record { home = h; access = a; size = x; leaves = s.leaves }) e3
    ∙ ap (λ (x : List Leaf). record { home = h; access = a; size = n; leaves = x }) e4

same_object : (s : SlotObject) (m : List ℕ) (n : ℕ) (xs : List SlotStart) → s.name ≡ m → s.size ≡ n → s.start ≡ xs → s ≡ record { name = m; size = n; start = xs }
same_object s m n xs e1 e2 e3 =
    ap (λ (x : List ℕ). record { name = x; size = s.size; start = s.start }) e1
    ∙ ap (λ (x : ℕ). record { name = m; size = x; start = s.start }) e2
    ∙ ap (λ (x : List SlotStart). record { name = m; size = n; start = x }) e3

same_struct : (s : SlotStruct) (n : ℕ) (ms : List SlotMember) (ls : List Leaf) → s.size ≡ n → s.members ≡ ms → s.leaves ≡ ls → s ≡ record { size = n; members = ms; leaves = ls }
same_struct s n ms ls e1 e2 e3 =
    ap (λ (x : ℕ). record { size = x; members = s.members; leaves = s.leaves }) e1
    ∙ ap (λ (x : List SlotMember). record { size = n; members = x; leaves = s.leaves }) e2
    ∙ ap (λ (x : List Leaf). record { size = n; members = ms; leaves = x }) e3

module _ (p : Program) where
  locals_same : (rs : List (Option ℕ)) (x : ℕ) (ls : List Local) (gs : List SlotLocal) → EachFrom (IsLocalOf p rs) x ls gs → gs ≡ local_rows p.defs ls (drop x rs)
  locals_same rs x [] [] h = refl
  locals_same rs x [] (g ∷ gs) h = absurd h
  locals_same rs x (l ∷ ls) [] h = absurd h
  locals_same rs x (l ∷ ls) (g ∷ gs) h =
      ap (λ (r : SlotLocal). r ∷ gs) (same_local g (home_of (register_at (drop x rs) 0)) (access_of l.ctype) (size_of p.defs l.ctype) (leaves_of p.defs l.ctype) (h.0.home ∙ ap home_of (register_behind x rs)) h.0.access h.0.size h.0.leaves)
      ∙ ap (λ (rest : List SlotLocal). local_row p.defs l (register_at (drop x rs) 0) ∷ rest) (locals_same rs (suc x) ls gs h.1 ∙ ap (local_rows p.defs ls) (sym (drop_more x rs)))

  objects_same : (n : ℕ) (rows : List ObjectRow) (os : List SlotObject) → EachFrom (IsObjectOf p) n rows os → os ≡ map (object_row p) rows
  objects_same n [] [] h = refl
  objects_same n [] (o ∷ os) h = absurd h
  objects_same n (row ∷ rows) [] h = absurd h
  objects_same n (row ∷ rows) (o ∷ os) h =
      ap (λ (r : SlotObject). r ∷ os) (same_object o row.name (size_of p.defs row.ctype) (start_rows (leaves_of p.defs row.ctype) row.start) h.0.name h.0.size (h.0.start ∙ starts_same (leaves_of p.defs row.ctype) row.start))
      ∙ ap (λ (rest : List SlotObject). object_row p row ∷ rest) (objects_same (suc n) rows os h.1)

  structs_same : (n : ℕ) (ds : List StructDef) (ss : List SlotStruct) → EachFrom (IsStructOf p) n ds ss → ss ≡ struct_rows p.defs n ds
  structs_same n [] [] h = refl
  structs_same n [] (s ∷ ss) h = absurd h
  structs_same n (d ∷ ds) [] h = absurd h
  structs_same n (d ∷ ds) (s ∷ ss) h =
      ap (λ (r : SlotStruct). r ∷ ss) (same_struct s d.size (map member_of d.members) (leaves_of p.defs (Struct n)) h.0.size h.0.members h.0.leaves)
      ∙ ap (λ (rest : List SlotStruct). struct_row p.defs n d ∷ rest) (structs_same (suc n) ds ss h.1)

  module _ (accepted : KeepsRules p) (ascend : (t : CType) → LieIn 0 (leaves_of p.defs t) (size_of p.defs t)) where
    function_same : (f : ℕ) (fn : Function) (g : SlotFunction) → slice_get p.functions f ≡ Some fn → IsFunctionOf p f fn g → IsFunctionRow p f fn g
    function_same f fn g e h =
        let mine = function_there p accepted f fn e in
        let q = mine.points in
        let consecutive = subst AreConsecutive (sym h.points) (are_consecutive fn.points mine.numbered.0 mine.numbered.1) in
        let stand = subst (λ l. HasAll l g.points) (sym h.code) (subst (HasAll (function_code p f fn)) (sym h.points) (points_stand p accepted ascend f fn e q.0 q.1 q.2)) in
        record {
          name = h.name;
          params = h.params;
          locals = locals_same (registers_from fn.locals 0) 0 fn.locals g.locals h.locals;
          temporaries = h.below;
          points = h.points;
          places = are_places g.code g.points g.places stand (h.places consecutive);
          code = h.code;
        }

    functions_same : (n : ℕ) (fns : List Function) (gs : List SlotFunction) → ((i : ℕ) (fn : Function) → slice_get fns i ≡ Some fn → slice_get p.functions (i + n) ≡ Some fn) → EachFrom (IsFunctionOf p) n fns gs → AreFunctionRows p n fns gs
    functions_same n [] [] at h = tt
    functions_same n [] (g ∷ gs) at h = absurd h
    functions_same n (fn ∷ fns) [] at h = absurd h
    functions_same n (fn ∷ fns) (g ∷ gs) at h =
        let z : 0 + n ≡ n = omega arith in (
          function_same n fn g (ap (slice_get p.functions) (sym z) ∙ at 0 fn refl) h.0,
          functions_same (suc n) fns gs (λ i k e. let w : i + suc n ≡ suc i + n = omega arith in ap (slice_get p.functions) w ∙ at (suc i) k e) h.1,
        )

    pub given : (c : SlotCode) → HasRowsOf p c → IsProgramCode p c
    given c h = record {
      functions = functions_same 0 p.functions c.functions (λ i fn e. let z : i + 0 ≡ i = omega arith in ap (slice_get p.functions) z ∙ e) h.functions;
      main = h.main;
      objects = objects_same 0 p.objects c.objects h.objects;
      strings = h.strings;
      structs = structs_same 0 p.defs c.structs h.structs;
    }
