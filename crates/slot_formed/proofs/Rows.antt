-- The rows of the static data, the locals and `main` of an accepted program's code.
use Rattle.std.proofs.Common.{◌≡◌, refl, sym, ap, subst, ◌∙◌, arith, ℕ, suc, zero, ◌+◌, ◌<◌, ◌≤◌, ◌^◌, List, [], ◌∷◌, length, map, Bool, true, false, not, ◌&&◌, ◌||◌, take, Option, Some, None, true≢false, slice_get, drop, ◌%◌, to_z, of_z, w32, inl, inr}
use Rattle.std.specs.Prelude.{if◌then◌else◌, sum, option_map, ℤ, pos, negsuc}
use Rattle.std.specs.Int.{next_multiple_of, w8}
use Rattle.std.specs.Int.RustNames.{unsigned_abs}
use Rattle.std.specs.List.{AllByRecursion}
use Rattle.std.proofs.lemmas.Option.{slice_get-map}
use Rattle.ldb_words.specs.declared.kinds.Kind.{Kind}
use Rattle.ldb_words.specs.declared.kinds.Kind.TheVariants.{Byte, Word, Address}
use Rattle.c_tree.specs.declared.types.CType.{CType}
use Rattle.c_tree.specs.declared.types.CType.TheVariants as ctype
use Rattle.c_tree.specs.declared.types.StructDef.{StructDef}
use Rattle.c_tree.specs.declared.types.Leaf.{Leaf}
use Rattle.c_tree.specs.declared.rows.Program.{Program}
use Rattle.c_tree.specs.declared.rows.Function.{Function}
use Rattle.c_tree.specs.declared.rows.Local.{Local}
use Rattle.c_tree.specs.declared.rows.ObjectRow.{ObjectRow}
use Rattle.c_tree.specs.declared.rows.Start.{Start}
use Rattle.c_tree.specs.declared.rows.Start.TheVariants as start
use Rattle.c_tree.specs.Layout.{size_of, leaves_of, IsWithin}
use Rattle.c_tree.specs.Ordered.{width_of, LieIn, IsAligned}
use Rattle.c_operators.specs.Bits.{low_byte}
use Rattle.c_source.specs.Begin.{main_from}
use Rattle.c_typing.specs.Plain.{plain, is_scalar}
use Rattle.c_typing.specs.Declarations.{local_type}
use Rattle.c_typing.specs.Starts.{Starts, AreStarts, IsObject as IsItsObject}
use Rattle.c_typing.specs.Programs.{is_called_main, is_main, has_main, IsLocal as IsItsLocal, KeepsRules}
use Rattle.slot_ir.specs.declared.code.SlotCode.{SlotCode}
use Rattle.slot_ir.specs.declared.code.SlotObject.{SlotObject}
use Rattle.slot_gen.specs.Expressions.{access_of, wants_register, register_at}
use Rattle.slot_gen.specs.Expressions.{is_scalar as scalar_here}
use Rattle.slot_ir.specs.WellFormed.{AreLeavesOf, IsScalar, FitsHome, IsLocal, IsStart, StartsLieIn, IsObject, static_bytes}
use Rattle.slot_formed.specs.Code.{home_of, local_row, local_rows, start_value, start_rows, object_row, program_code}
use Rattle.slot_formed.proofs.Lists.{some_same, sum_more, and_parts}
use Rattle.slot_formed.proofs.Homes.{InRegister, next_register}
use Rattle.slot_formed.proofs.Sizes.{size_plain, formed, formed_size, has_leaf}

-- ---- locals

scalar_row : (defs : List StructDef) (l : Local) (r : Option ℕ) → is_scalar (plain l.ctype) ≡ true → IsScalar (local_row defs l r)
scalar_row defs l r = by l.ctype
  where
    by : (t : CType) → is_scalar (plain t) ≡ true → IsScalar (record { home = home_of r; access = access_of t; size = size_of defs t; leaves = leaves_of defs t })
    by ctype.Char h = (record { at = 0; kind = Byte }, refl, refl, refl, tt)
    by ctype.Int h = (record { at = 0; kind = Word }, refl, refl, refl, tt)
    by ctype.Unsigned h = (record { at = 0; kind = Word }, refl, refl, refl, tt)
    by (ctype.Pointer' b t) h = (record { at = 0; kind = Address }, refl, refl, refl, tt)
    by ctype.Void h = absurd (true≢false (sym h))
    by (ctype.Array' b t m) h = absurd (true≢false (sym h))
    by (ctype.Struct s) h = absurd (true≢false (sym h))

pub scalars_there : (defs : List StructDef) (n : ℕ) (ls : List Local) (rs : List (Option ℕ)) → AllByRecursion (λ t. is_scalar t ≡ true) (take n (map local_type ls)) → AllByRecursion IsScalar (take n (local_rows defs ls rs))
scalars_there defs zero ls rs h = tt
scalars_there defs (suc n) [] rs h = tt
scalars_there defs (suc n) (l ∷ ls) rs h = (scalar_row defs l (register_at rs 0) h.0, scalars_there defs n ls (drop 1 rs) h.1)

-- leaves in order, aligned, and at most four bytes for each
abbrev pub Laid : List StructDef → Type 0
Laid defs = (t : CType) → IsWithin defs 64 t → AreLeavesOf (size_of defs t) (leaves_of defs t)

-- a local that is in a register, by its number there
abbrev pub AreRegisters : List Local → List (Option ℕ) → Type 0
AreRegisters ls rs = (x r : ℕ) → register_at rs x ≡ Some r → InRegister ls x r

module _ (p : Program) (accepted : KeepsRules p) (ascend : (t : CType) → LieIn 0 (leaves_of p.defs t) (size_of p.defs t)) where
  register_scalar : (a b c : Bool) → a && b ≡ true → not a || c ≡ true → c ≡ true
  register_scalar true b c h k = k
  register_scalar false b c h k = absurd (true≢false (sym h))

  fits_home : (l : Local) (o : Option ℕ) → IsItsLocal p.defs l → ((r : ℕ) → o ≡ Some r → (wants_register l ≡ true) × (r < 8)) → FitsHome (local_row p.defs l o)
  fits_home l None h go = tt
  fits_home l (Some r) h go = let q = go r refl in (q.1, scalar_row p.defs l (Some r) (register_scalar l.register (scalar_here l.ctype) (is_scalar (plain l.ctype)) q.0 h.1))

  local_good : (l : Local) (o : Option ℕ) → Laid p.defs → ((r : ℕ) → o ≡ Some r → (wants_register l ≡ true) × (r < 8)) → IsItsLocal p.defs l → IsLocal (local_row p.defs l o)
  local_good l o laid go h =
      let t = l.ctype in (
        has_leaf p.defs accepted.structs 64 t h.0.0.0 h.0.1,
        subst (λ m. m ≤ 1048576) (sym (size_plain p.defs t)) (formed_size p.defs (plain t) (formed p.defs t h.0.0.1)),
        laid t h.0.0.0,
        fits_home l o h go,
      )

  pub locals_good : (ls : List Local) (rs : List (Option ℕ)) → Laid p.defs → AreRegisters ls rs → AllByRecursion (IsItsLocal p.defs) ls → AllByRecursion IsLocal (local_rows p.defs ls rs)
  locals_good [] rs laid go h = tt
  locals_good (l ∷ ls) rs laid go h = (
    local_good l (register_at rs 0) laid (λ r e. let q = go 0 r e in let same : q.0 ≡ l = sym (some_same l q.0 q.1) in (subst (λ k. wants_register k ≡ true) same q.2, q.3)) h.0,
    locals_good ls (drop 1 rs) laid (λ x r e. go (suc x) r (sym (next_register rs x) ∙ e)) h.1,
  )

  -- ---- static objects

  byte_abs : (m : ℕ) → m < 2 ^ 8 → unsigned_abs (to_z w8 m) ≤ 2 ^ 31
  byte_abs m h = grind arith

  word_below : (z : ℤ) → unsigned_abs z ≤ 2 ^ 31 → of_z w32 z < 2 ^ 32
  word_below (pos m) h = omega (arith, h)
  word_below (negsuc m) h = omega (arith, h)

  byte_below : (n : ℕ) → low_byte n ≡ n → n < 2 ^ 32
  byte_below n e = let h : n % 2 ^ 8 < 2 ^ 8 = omega arith in subst (λ m. m < 2 ^ 32) e (word_below (to_z w8 (n % 2 ^ 8)) (byte_abs (n % 2 ^ 8) h))

  abbrev c : SlotCode
  c = program_code p

  inside : (i : ℕ) (row : Option ObjectRow) → elim row as (λ _. Type 0) [ None ↦ ⊥ | Some r ↦ i ≤ size_of p.defs r.ctype ] → elim (option_map (object_row p) row) as (λ _. Type 0) [ None ↦ ⊥ | Some o ↦ i ≤ o.size ]
  inside i None h = h
  inside i (Some r) h = h

  -- an address lies in its object, or is its end
  object_there : (o i : ℕ) → elim (slice_get p.objects o) as (λ _. Type 0) [ None ↦ ⊥ | Some r ↦ i ≤ size_of p.defs r.ctype ] → elim (slice_get c.objects o) as (λ _. Type 0) [ None ↦ ⊥ | Some o ↦ i ≤ o.size ]
  object_there o i h = subst (λ (r : Option SlotObject). elim r as (λ _. Type 0) [ None ↦ ⊥ | Some o ↦ i ≤ o.size ]) (sym (slice_get-map (object_row p) p.objects o)) (inside i (slice_get p.objects o) h)

  leaf_good : (l : Leaf) (k : Kind) (x : Start) → l.kind ≡ k → Starts p k x → IsStart c (record { at = l.at; width = width_of k; value = start_value k x })
  leaf_good l Byte (start.Number m) e h = (inr (refl, tt), byte_below m h)
  leaf_good l Word (start.Number m) e h = (inl refl, h)
  leaf_good l Address (start.Number m) e h = (inl refl, tt)
  leaf_good l Address (start.Object o i) e h = (inl refl, object_there o i h)
  leaf_good l Address (start.Str k) e h = (inl refl, h)
  leaf_good l Byte (start.Object o i) e h = absurd h
  leaf_good l Byte (start.Str k) e h = absurd h
  leaf_good l Word (start.Object o i) e h = absurd h
  leaf_good l Word (start.Str k) e h = absurd h

  starts_good : (ls : List Leaf) (xs : List Start) → AreStarts p ls xs → AllByRecursion (IsStart c) (start_rows ls xs)
  starts_good [] xs h = tt
  starts_good (l ∷ ls) [] h = tt
  starts_good (l ∷ ls) (x ∷ xs) h = (leaf_good l l.kind x refl h.0, starts_good ls xs h.1)

  starts_lie : (from size : ℕ) (ls : List Leaf) (xs : List Start) → AreStarts p ls xs → LieIn from ls size → AllByRecursion IsAligned ls → StartsLieIn from (start_rows ls xs) size
  starts_lie from size [] xs h lie al = lie
  starts_lie from size (l ∷ ls) [] h lie al = absurd h
  starts_lie from size (l ∷ ls) (x ∷ xs) h lie al = (lie.0, al.0, starts_lie (l.at + width_of l.kind) size ls xs h.1 lie.1 al.1)

  pub objects_good : Laid p.defs → (rows : List ObjectRow) → AllByRecursion (IsItsObject p) rows → AllByRecursion (IsObject c) (map (object_row p) rows)
  objects_good laid [] h = tt
  objects_good laid (row ∷ rows) h =
      let t = row.ctype in
      let all = laid t h.0.0.0.0 in
      ((starts_good (leaves_of p.defs t) row.start h.0.1, starts_lie 0 (size_of p.defs t) (leaves_of p.defs t) row.start h.0.1 all.0 all.1), objects_good laid rows h.1)

  -- ---- how large the static data are

  abbrev room : ℕ → ℕ
  room size = next_multiple_of size 4 + 4

  objects_room : (rows : List ObjectRow) → sum (map (λ (o : SlotObject). room o.size) (map (object_row p) rows)) ≡ sum (map (λ (row : ObjectRow). room (size_of p.defs row.ctype)) rows)
  objects_room [] = refl
  objects_room (row ∷ rows) =
      sum_more (λ (o : SlotObject). room o.size) (object_row p row) (map (object_row p) rows)
      ∙ ap (λ m. room (size_of p.defs row.ctype) + m) (objects_room rows)
      ∙ sym (sum_more (λ (row : ObjectRow). room (size_of p.defs row.ctype)) row rows)

  next_same : (m : ℕ) → room (m + 1) ≡ room (suc m)
  next_same m = let e : m + 1 ≡ suc m = omega arith in ap room e

  strings_room : (ss : List (List ℕ)) → sum (map (λ (s : List ℕ). room (length s + 1)) ss) ≡ sum (map (λ (s : List ℕ). room (suc (length s))) ss)
  strings_room [] = refl
  strings_room (s ∷ ss) =
      sum_more (λ (s : List ℕ). room (length s + 1)) s ss
      ∙ ap (λ m. room (length s + 1) + m) (strings_room ss)
      ∙ ap (λ m. m + sum (map (λ (s : List ℕ). room (suc (length s))) ss)) (next_same (length s))
      ∙ sym (sum_more (λ (s : List ℕ). room (suc (length s))) s ss)

  pub static_few : static_bytes c ≤ 1048576
  static_few = omega (arith, objects_room p.objects, strings_room p.strings, accepted.room)

  -- ---- `main`

  main_if : (n : ℕ) (f : Function) (fs : List Function) (b : Bool) → is_main f ≡ b → (b || has_main fs) ≡ true
      → (has_main fs ≡ true → (i : ℕ) × (h : Function) × (main_from (suc n) fs ≡ i + suc n) × (slice_get fs i ≡ Some h) × (is_called_main h ≡ true))
      → (i : ℕ) × (h : Function) × ((if b then n else main_from (suc n) fs) ≡ i + n) × (slice_get (f ∷ fs) i ≡ Some h) × (is_called_main h ≡ true)
  main_if n f fs true e h go = let z : n ≡ 0 + n = omega arith in (0, f, z, refl, (and_parts (not f.is_static) (is_called_main f) e).1)
  main_if n f fs false e h go =
      let q = go h in
      let z : main_from (suc n) fs ≡ suc q.0 + n = omega (arith, q.2) in
      (suc q.0, q.1, z, q.3, q.4)

  pub main_there : (n : ℕ) (fs : List Function) → has_main fs ≡ true → (i : ℕ) × (h : Function) × (main_from n fs ≡ i + n) × (slice_get fs i ≡ Some h) × (is_called_main h ≡ true)
  main_there n [] h = absurd (true≢false (sym h))
  main_there n (f ∷ fs) h = main_if n f fs (is_main f) refl h (λ k. main_there (suc n) fs k)
