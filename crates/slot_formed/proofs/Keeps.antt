-- The rows of an accepted program's code are those that its simulation asks for.
use Rattle.std.proofs.Common.{◌≡◌, refl, sym, ap, subst, ◌∙◌, arith, ℕ, suc, zero, ◌+◌, List, [], ◌∷◌, ◌++◌, length, map, drop, true, Option, Some, None, slice_get}
use Rattle.std.specs.List.{AllByRecursion}
use Rattle.std.proofs.lemmas.List.{length-map}
use Rattle.ldb_words.specs.declared.kinds.Kind.{Kind}
use Rattle.ldb_words.specs.declared.kinds.Kind.TheVariants.{Byte, Word, Address}
use Rattle.c_tree.specs.declared.types.CType.{CType}
use Rattle.c_tree.specs.declared.types.CType.TheVariants.{Struct, Void}
use Rattle.c_tree.specs.declared.types.StructDef.{StructDef}
use Rattle.c_tree.specs.declared.types.Leaf.{Leaf}
use Rattle.c_tree.specs.declared.rows.Program.{Program}
use Rattle.c_tree.specs.declared.rows.Function.{Function}
use Rattle.c_tree.specs.declared.rows.Local.{Local}
use Rattle.c_tree.specs.declared.rows.ObjectRow.{ObjectRow}
use Rattle.c_tree.specs.declared.rows.Start.{Start}
use Rattle.c_tree.specs.declared.rows.Start.TheVariants as start
use Rattle.c_tree.specs.Layout.{size_of, leaves_of, leaves_within, leaves_of_members, members_in}
use Rattle.c_tree.specs.Ordered.{width_of}
use Rattle.c_store.specs.Store.{Value, Number, Null, At, Cell, Static, zero_of}
use Rattle.c_source.specs.Blocks.{cells_of, local_type, locals_in as rows_in}
use Rattle.c_source.specs.Begin as sources
use Rattle.c_source.specs.Begin.{main_from}
use Rattle.c_typing.specs.Starts.{Starts, AreStarts, IsObject}
use Rattle.slot_ir.specs.declared.code.SlotCode.{SlotCode}
use Rattle.slot_ir.specs.Slots.{code_in, locals_in, leaves_in, local_row as row_of}
use Rattle.slot_ir.specs.Begin as beginning
use Rattle.slot_gen.specs.Expressions.{access_of, registers_from}
use Rattle.slot_gen.specs.Correct.{IsRow, IsCodeOf}
use Rattle.slot_ir.specs.declared.code.SlotFunction.{SlotFunction}
use Rattle.slot_formed.specs.Code.{AreFunctionRows, local_rows, start_value, start_rows, object_row, struct_rows}
use Rattle.slot_formed.proofs.Formed.{code_with, function_row_at}
use Rattle.slot_formed.proofs.Lists.{no_none}
use Rattle.slot_formed.proofs.Homes.{local_there}

-- ---- static objects

abbrev zero_cell : Leaf → Cell
zero_cell l = record { at = l.at; kind = l.kind; value = zero_of l.kind }

abbrev starting : Program → Kind → Start → Value
starting p Address (start.Number n) = Null
starting p k (start.Number n) = Number n
starting p k (start.Object o i) = At o i
starting p k (start.Str s) = At (length p.objects + s) 0

abbrev starts_of : Program → List Cell → List Start → List Cell
starts_of p [] xs = []
starts_of p (c ∷ cs) [] = []
starts_of p (c ∷ cs) (x ∷ xs) = record c { value = starting p c.kind x } ∷ starts_of p cs xs

module _ (p : Program) (gs : List SlotFunction) (are : AreFunctionRows p 0 p.functions gs) where
  abbrev c : SlotCode
  c = code_with p gs

  abbrev cell_of : ℕ → Kind → Start → List Cell
  cell_of i k x = beginning.start_cells c (record { at = i; width = width_of k; value = start_value k x } ∷ [])

  cell_same : (i : ℕ) (k : Kind) (x : Start) → Starts p k x → cell_of i k x ≡ record { at = i; kind = k; value = starting p k x } ∷ []
  cell_same i Byte (start.Number n) h = refl
  cell_same i Word (start.Number n) h = refl
  cell_same i Address (start.Number n) h = refl
  cell_same i Address (start.Object o j) h = refl
  cell_same i Address (start.Str k) h = ap (λ n. record { at = i; kind = Address; value = At (n + k) 0 } ∷ []) (length-map p.objects (object_row p))
  cell_same i Byte (start.Object o j) h = absurd h
  cell_same i Byte (start.Str k) h = absurd h
  cell_same i Word (start.Object o j) h = absurd h
  cell_same i Word (start.Str k) h = absurd h

  cells_same : (ls : List Leaf) (xs : List Start) → AreStarts p ls xs → beginning.start_cells c (start_rows ls xs) ≡ starts_of p (map zero_cell ls) xs
  cells_same [] xs h = refl
  cells_same (l ∷ ls) [] h = refl
  cells_same (l ∷ ls) (x ∷ xs) h =
      ap (λ front. front ++ beginning.start_cells c (start_rows ls xs)) (cell_same l.at l.kind x h.0)
      ∙ ap (λ rest. record { at = l.at; kind = l.kind; value = starting p l.kind x } ∷ rest) (cells_same ls xs h.1)

  statics_same : (o : ℕ) (rows : List ObjectRow) → AllByRecursion (IsObject p) rows → beginning.static_objects c o (map (object_row p) rows) ≡ sources.static_objects p o rows
  statics_same o [] h = refl
  statics_same o (row ∷ rows) h =
      ap (λ cells. record { origin = Static o; live = true; size = size_of p.defs row.ctype; cells = cells } ∷ beginning.static_objects c (suc o) (map (object_row p) rows)) (cells_same (leaves_of p.defs row.ctype) row.start h.0.1)
      ∙ ap (λ rest. record { origin = Static o; live = true; size = size_of p.defs row.ctype; cells = starts_of p (cells_of p.defs row.ctype) row.start } ∷ rest) (statics_same (suc o) rows h.1)

  -- ---- functions and structs

  rows_none : (n : ℕ) (fs : List Function) (hs : List SlotFunction) (i : ℕ) → AreFunctionRows p n fs hs → slice_get fs i ≡ None → slice_get hs i ≡ None
  rows_none n [] [] i rows e = refl
  rows_none n [] (h ∷ hs) i rows e = absurd rows
  rows_none n (f ∷ fs) [] i rows e = absurd rows
  rows_none n (f ∷ fs) (h ∷ hs) zero rows e = no_none f (sym e)
  rows_none n (f ∷ fs) (h ∷ hs) (suc i) rows e = rows_none (suc n) fs hs i rows.1 e

  locals_none : (defs : List StructDef) (ls : List Local) (rs : List (Option ℕ)) (x : ℕ) → slice_get ls x ≡ None → slice_get (local_rows defs ls rs) x ≡ None
  locals_none defs [] rs x e = refl
  locals_none defs (l ∷ ls) rs zero e = no_none l (sym e)
  locals_none defs (l ∷ ls) rs (suc x) e = locals_none defs ls (drop 1 rs) x e

  abbrev type_in : Option Local → CType
  type_in None = Void
  type_in (Some l) = l.ctype

  local_is : (ls : List Local) (rs : List (Option ℕ)) (x : ℕ) (o : Option Local) → slice_get ls x ≡ o → IsRow p (slice_get (local_rows p.defs ls rs) x) (type_in (slice_get ls x))
  local_is ls rs x None e = subst (λ r. IsRow p r (type_in (slice_get ls x))) (sym (locals_none p.defs ls rs x e)) (ap type_in e)
  local_is ls rs x (Some l) e =
      subst (λ r. IsRow p r (type_in (slice_get ls x))) (sym (local_there p.defs ls rs x l e))
      (subst (λ o. (size_of p.defs l.ctype ≡ size_of p.defs (type_in o)) × (leaves_of p.defs l.ctype ≡ leaves_of p.defs (type_in o)) × (access_of l.ctype ≡ access_of (type_in o))) (sym e) (refl, refl, refl))

  row_is : (f x : ℕ) (o : Option Function) → slice_get p.functions f ≡ o → IsRow p (row_of c f x) (local_type p f x)
  row_is f x None e =
      subst (λ r. IsRow p (slice_get (locals_in r) x) (local_type p f x)) (sym (rows_none 0 p.functions gs f are e)) (ap (λ o. type_in (slice_get (rows_in o) x)) e)
  row_is f x (Some fn) e =
      let q = function_row_at p f fn gs e are in
      subst (λ r. IsRow p (slice_get (locals_in r) x) (local_type p f x)) (sym q.1)
      (subst (λ ls. IsRow p (slice_get ls x) (local_type p f x)) (sym q.2.locals)
      (subst (λ o. IsRow p (slice_get (local_rows p.defs fn.locals (registers_from fn.locals 0)) x) (type_in (slice_get (rows_in o) x))) (sym e) (local_is fn.locals (registers_from fn.locals 0) x (slice_get fn.locals x) refl)))

  struct_from : (defs : List StructDef) (n : ℕ) (ds : List StructDef) (i : ℕ) (o : Option StructDef) → slice_get ds i ≡ o → (o ≡ None → [] ≡ leaves_of defs (Struct (i + n))) → leaves_in (slice_get (struct_rows defs n ds) i) ≡ leaves_of defs (Struct (i + n))
  struct_from defs n [] i o e go = go (sym e)
  struct_from defs n (d ∷ ds) zero o e go = let z : n ≡ 0 + n = omega arith in ap (λ m. leaves_of defs (Struct m)) z
  struct_from defs n (d ∷ ds) (suc i) o e go =
      let z : i + suc n ≡ suc i + n = omega arith in
      struct_from defs (suc n) ds i o e (λ k. go k ∙ ap (λ m. leaves_of defs (Struct m)) (sym z)) ∙ ap (λ m. leaves_of defs (Struct m)) z

  no_members : (s : ℕ) (o : Option StructDef) → slice_get p.defs s ≡ o → o ≡ None → [] ≡ leaves_of p.defs (Struct s)
  no_members s o e k = ap (λ (o : Option StructDef). leaves_of_members (leaves_within p.defs 63) (members_in o)) (sym (e ∙ k))

  struct_is : (s : ℕ) → leaves_in (slice_get c.structs s) ≡ leaves_of p.defs (Struct s)
  struct_is s =
      let z : s + 0 ≡ s = omega arith in
      struct_from p.defs 0 p.defs s (slice_get p.defs s) refl (λ k. no_members s (slice_get p.defs s) refl k ∙ ap (λ m. leaves_of p.defs (Struct m)) (sym z)) ∙ ap (λ m. leaves_of p.defs (Struct m)) z

  pub is_code : AllByRecursion (IsObject p) p.objects → IsCodeOf p (code_with p gs)
  is_code h = record {
    code = λ f fn e. let q = function_row_at p f fn gs e are in ap code_in q.1 ∙ q.2.code;
    rows = λ f x. row_is f x (slice_get p.functions f) refl;
    structs = struct_is;
    objects = length-map p.objects (object_row p);
    start = λ input. ap (λ os. record { objects = os ++ beginning.string_objects 0 p.strings; input = input; output = [] }) (statics_same 0 p.objects h);
    main = refl;
  }
