-- The rows of structs: their leaves are those of their members, which stand in order, and they nest at most 63 levels deep.
use Rattle.std.proofs.Common.{◌≡◌, refl, sym, ap, subst, ◌∙◌, arith, ℕ, suc, zero, ◌+◌, ◌*◌, ◌≤◌, List, [], ◌∷◌, ◌++◌, map, length, Bool, true, false, true≢false, Option, Some, None, slice_get, append_assoc}
use Rattle.std.proofs.lemmas.List.{append-nil}
use Rattle.std.specs.List.{AllByRecursion}
use Rattle.ldb_words.specs.declared.kinds.Kind.{Kind}
use Rattle.ldb_words.specs.declared.kinds.Kind.TheVariants.{Byte, Word, Address}
use Rattle.c_tree.specs.declared.types.CType.{CType}
use Rattle.c_tree.specs.declared.types.CType.TheVariants.{Char, Int, Unsigned, Void, Pointer', Array', Struct}
use Rattle.c_tree.specs.declared.types.StructDef.{StructDef}
use Rattle.c_tree.specs.declared.types.Member.{Member}
use Rattle.c_tree.specs.declared.types.Leaf.{Leaf}
use Rattle.c_tree.specs.Layout.{size_of, size_in, members_in, members_of, IsWithin, leaves_within, leaves_of, leaves_at, leaves_of_members, repeated, AreLaid, alignment_of, alignment_of_members}
use Rattle.std.specs.Int.{next_multiple_of}
use Rattle.c_tree.specs.Ordered.{LieIn}
use Rattle.c_tree.proofs.Aligned.{same_leaves}
use Rattle.std.proofs.Math.Nat.{one-le-mul, le-mul_of_pos_right}
use Rattle.std.specs.Prelude.{nat_le, not, ◌==◌}
use Rattle.c_typing.specs.Plain.{Struct as AStruct, plain, is_complete, is_empty}
use Rattle.c_typing.specs.Written.{IsDeclared}
use Rattle.c_typing.specs.Declarations.{IsStruct as IsItsStruct}
use Rattle.c_typing.specs.Programs.{AllFrom}
use Rattle.slot_ir.specs.declared.code.SlotCode.{SlotCode}
use Rattle.slot_ir.specs.declared.code.SlotItem.{SlotItem}
use Rattle.slot_ir.specs.declared.code.SlotItem.TheVariants as an_item
use Rattle.slot_ir.specs.declared.code.SlotMember.{SlotMember}
use Rattle.slot_ir.specs.declared.code.SlotStruct.{SlotStruct}
use Rattle.slot_ir.specs.Slots.{leaves_in}
use Rattle.slot_ir.specs.WellFormed.{AreLeavesOf, item_size, item_leaves, leaves_by, IsFilled, IsItemThere, IsMember, MembersLieIn, IsWholeAlone, IsStruct, NestsWithin}
use Rattle.slot_gen.specs.Rows.{item_of, items_of, member_of}
use Rattle.slot_formed.specs.Code.{struct_row, struct_rows}
use Rattle.slot_formed.proofs.Sizes.{size_plain, formed, formed_size, positive, struct_there}
use Rattle.slot_formed.proofs.Alignments.{lone_size, lone_at}
use Rattle.slot_formed.proofs.Lists.{and_parts}

-- ---- items one behind the other

leaves_further : (a b : ℕ) (ls : List Leaf) → leaves_at a (leaves_at b ls) ≡ leaves_at (a + b) ls
leaves_further a b [] = refl
leaves_further a b (l ∷ ls) = let e : a + (b + l.at) ≡ (a + b) + l.at = omega arith in ap (λ n. record l { at = n } ∷ leaves_at a (leaves_at b ls)) e ∙ ap (λ rest. record l { at = (a + b) + l.at } ∷ rest) (leaves_further a b ls)

leaves_joined : (a : ℕ) (xs ys : List Leaf) → leaves_at a (xs ++ ys) ≡ leaves_at a xs ++ leaves_at a ys
leaves_joined a [] ys = refl
leaves_joined a (l ∷ xs) ys = ap (λ rest. record l { at = a + l.at } ∷ rest) (leaves_joined a xs ys)

repeated_further : (a n size at : ℕ) (ls : List Leaf) → leaves_at a (repeated n size at ls) ≡ repeated n size (a + at) ls
repeated_further a zero size at ls = refl
repeated_further a (suc n) size at ls =
    let e : a + (at + size) ≡ (a + at) + size = omega arith in
    leaves_joined a (leaves_at at ls) (repeated n size (at + size) ls)
    ∙ ap (λ front. front ++ leaves_at a (repeated n size (at + size) ls)) (leaves_further a at ls)
    ∙ ap (λ rest. leaves_at (a + at) ls ++ rest) (repeated_further a n size (at + size) ls ∙ ap (λ i. repeated n size i ls) e)

repeated_more : (a b size at : ℕ) (ls : List Leaf) → repeated (a + b) size at ls ≡ repeated a size at ls ++ repeated b size (at + a * size) ls
repeated_more zero b size at ls =
    let n : 0 + b ≡ b = omega arith in
    let i : at ≡ at + 0 * size = omega arith in
    ap (λ k. repeated k size at ls) n ∙ ap (λ j. repeated b size j ls) i
repeated_more (suc a) b size at ls =
    let n : suc a + b ≡ suc (a + b) = omega arith in
    let i : (at + size) + a * size ≡ at + suc a * size = omega arith in
    ap (λ k. repeated k size at ls) n
    ∙ ap (λ rest. leaves_at at ls ++ rest) (repeated_more a b size (at + size) ls ∙ ap (λ j. repeated a size (at + size) ls ++ repeated b size j ls) i)
    ∙ sym (append_assoc (leaves_at at ls) (repeated a size (at + size) ls) (repeated b size (at + suc a * size) ls))

-- items that have items themselves
repeated_twice : (n m size wide : ℕ) (xs ls : List Leaf) → wide ≡ m * size → ((at : ℕ) → leaves_at at xs ≡ repeated m size at ls) → (at : ℕ) → repeated n wide at xs ≡ repeated (n * m) size at ls
repeated_twice zero m size wide xs ls w h at = let z : 0 ≡ 0 * m = omega arith in ap (λ k. repeated k size at ls) z
repeated_twice (suc n) m size wide xs ls w h at =
    let more : m + n * m ≡ suc n * m = omega arith in
    ap (λ front. front ++ repeated n wide (at + wide) xs) (h at)
    ∙ ap (λ rest. repeated m size at ls ++ rest) (repeated_twice n m size wide xs ls w h (at + wide) ∙ ap (λ k. repeated (n * m) size (at + k) ls) w)
    ∙ sym (repeated_more m (n * m) size at ls)
    ∙ ap (λ k. repeated k size at ls) more

-- ---- the rows of structs

struct_from : (defs : List StructDef) (n : ℕ) (ds : List StructDef) (i : ℕ) → slice_get (struct_rows defs n ds) i ≡ elim (slice_get ds i) [ None ↦ None | Some d ↦ Some (struct_row defs (i + n) d) ]
struct_from defs n [] i = refl
struct_from defs n (d ∷ ds) zero = let z : n ≡ 0 + n = omega arith in ap (λ k. Some (struct_row defs k d)) z
struct_from defs n (d ∷ ds) (suc i) =
    let z : i + suc n ≡ suc i + n = omega arith in
    struct_from defs (suc n) ds i ∙ ap (λ k. elim (slice_get ds i) [ None ↦ None | Some d ↦ Some (struct_row defs k d) ]) z

module _ (defs : List StructDef) where
  row_is : (s : ℕ) (o : Option StructDef) → slice_get defs s ≡ o → slice_get (struct_rows defs 0 defs) s ≡ elim o [ None ↦ None | Some d ↦ Some (struct_row defs s d) ]
  row_is s o e =
      let z : s + 0 ≡ s = omega arith in
      struct_from defs 0 defs s ∙ ap (λ k. elim (slice_get defs s) [ None ↦ None | Some d ↦ Some (struct_row defs k d) ]) z ∙ ap (λ o. elim o [ None ↦ None | Some d ↦ Some (struct_row defs s d) ]) e

module _ (c : SlotCode) (defs : List StructDef) (same : c.structs ≡ struct_rows defs 0 defs) where
  abbrev size_by : Option SlotStruct → ℕ
  size_by None = 0
  size_by (Some s) = s.size

  abbrev members_by : Option SlotStruct → List SlotMember
  members_by None = []
  members_by (Some s) = s.members

  here : (s : ℕ) → slice_get c.structs s ≡ slice_get (struct_rows defs 0 defs) s
  here s = ap (λ rows. slice_get rows s) same

  size_there : (s : ℕ) → size_by (slice_get c.structs s) ≡ size_in (slice_get defs s)
  size_there s = by (slice_get defs s) refl
    where
      by : (o : Option StructDef) → slice_get defs s ≡ o → size_by (slice_get c.structs s) ≡ size_in (slice_get defs s)
      by None e = ap size_by (here s ∙ row_is defs s None e) ∙ sym (ap size_in e)
      by (Some d) e = ap size_by (here s ∙ row_is defs s (Some d) e) ∙ sym (ap size_in e)

  leaves_there : (s : ℕ) → leaves_in (slice_get c.structs s) ≡ leaves_of defs (Struct s)
  leaves_there s = by (slice_get defs s) refl
    where
      by : (o : Option StructDef) → slice_get defs s ≡ o → leaves_in (slice_get c.structs s) ≡ leaves_of defs (Struct s)
      by None e = ap leaves_in (here s ∙ row_is defs s None e) ∙ sym (ap (λ o. leaves_of_members (leaves_within defs 63) (members_in o)) e)
      by (Some d) e = ap leaves_in (here s ∙ row_is defs s (Some d) e)

  members_there : (s : ℕ) → members_by (slice_get c.structs s) ≡ map member_of (members_in (slice_get defs s))
  members_there s = by (slice_get defs s) refl
    where
      by : (o : Option StructDef) → slice_get defs s ≡ o → members_by (slice_get c.structs s) ≡ map member_of (members_in (slice_get defs s))
      by None e = ap members_by (here s ∙ row_is defs s None e) ∙ sym (ap (λ o. map member_of (members_in o)) e)
      by (Some d) e = ap members_by (here s ∙ row_is defs s (Some d) e) ∙ sym (ap (λ o. map member_of (members_in o)) e)

  -- a struct that is complete has members
  some_members : (ms : List Member) → not (is_empty ms) ≡ true → 1 ≤ length (map member_of ms)
  some_members [] h = absurd (true≢false (sym h))
  some_members (m ∷ ms) h = omega arith

  pub is_filled : (s : ℕ) → is_complete defs (AStruct s) ≡ true → IsFilled (slice_get c.structs s)
  is_filled s h = subst (λ (ms : List SlotMember). 1 ≤ length ms) (sym (members_there s)) (some_members (members_of defs s) h)

  -- ---- the items of a type

  one_time : (n : ℕ) → n ≡ 1 * n
  one_time n = omega arith

  size_is : (t : CType) → size_of defs t ≡ items_of t * item_size c (item_of t)
  size_is Char = refl
  size_is Int = refl
  size_is Unsigned = refl
  size_is Void = refl
  size_is (Pointer' _ t) = refl
  size_is (Array' _ t n) = ap (λ k. n * k) (size_is t) ∙ times n (items_of t) (item_size c (item_of t))
    where
      times : (a b d : ℕ) → a * (b * d) ≡ (a * b) * d
      times a b d = grind arith
  size_is (Struct s) = sym (size_there s) ∙ one_time (size_by (slice_get c.structs s))

  items_are : (deep : ℕ) → deep ≤ 64 → (t : CType) → IsWithin defs deep t → (at : ℕ) → leaves_at at (leaves_within defs deep t) ≡ repeated (items_of t) (item_size c (item_of t)) at (item_leaves c (item_of t))
  items_are zero le t w at = absurd w
  items_are (suc deep) le Char w at = refl
  items_are (suc deep) le Int w at = refl
  items_are (suc deep) le Unsigned w at = refl
  items_are (suc deep) le Void w at = refl
  items_are (suc deep) le (Pointer' _ t) w at = refl
  items_are (suc deep) le (Array' _ t n) w at =
      let low : deep ≤ 64 = omega (arith, le) in
      let z : at + 0 ≡ at = omega arith in
      repeated_further at n (size_of defs t) 0 (leaves_within defs deep t)
      ∙ ap (λ i. repeated n (size_of defs t) i (leaves_within defs deep t)) z
      ∙ repeated_twice n (items_of t) (item_size c (item_of t)) (size_of defs t) (leaves_within defs deep t) (item_leaves c (item_of t)) (size_is t) (items_are deep low t w) at
  items_are (suc deep) le (Struct s) w at =
      ap (leaves_at at) (sym (same_leaves defs (suc deep) 64 le (Struct s) w) ∙ sym (leaves_there s)) ∙ sym (append-nil (leaves_at at (leaves_in (slice_get c.structs s))))

  members_are : (ms : List Member) → AllByRecursion (λ (m : Member). IsWithin defs 63 m.ctype) ms → leaves_of_members (leaves_within defs 63) ms ≡ leaves_by c (map member_of ms)
  members_are [] w = refl
  members_are (m ∷ ms) w =
      let low : 63 ≤ 64 = omega arith in
      ap (λ front. front ++ leaves_of_members (leaves_within defs 63) ms) (items_are 63 low m.ctype w.0 m.at)
      ∙ ap (λ rest. repeated (items_of m.ctype) (item_size c (item_of m.ctype)) m.at (item_leaves c (item_of m.ctype)) ++ rest) (members_are ms w.1)

  -- ---- how deep they nest

  abbrev Nested : ℕ → SlotMember → Type 0
  Nested deep m = NestsWithin c deep (m.items == 1) m.item

  all_deeper : (deep : ℕ) → ((b : Bool) (i : SlotItem) → NestsWithin c deep b i → NestsWithin c (suc deep) b i) → (ms : List SlotMember) → AllByRecursion (Nested deep) ms → AllByRecursion (Nested (suc deep)) ms
  all_deeper deep go [] h = tt
  all_deeper deep go (m ∷ ms) h = (go (m.items == 1) m.item h.0, all_deeper deep go ms h.1)

  more_deep : (deep : ℕ) (b : Bool) (i : SlotItem) → NestsWithin c deep b i → NestsWithin c (suc deep) b i
  more_deep zero false i h = absurd h
  more_deep zero true (an_item.Scalar k) h = tt
  more_deep zero true (an_item.Struct s) h = absurd h
  more_deep (suc deep) false i h = more_deep deep true i h
  more_deep (suc deep) true (an_item.Scalar k) h = tt
  more_deep (suc deep) true (an_item.Struct s) h = all_deeper deep (more_deep deep) (members_by (slice_get c.structs s)) h

  -- fewer items nest no deeper
  as_one : (deep : ℕ) (b : Bool) (i : SlotItem) → NestsWithin c deep b i → NestsWithin c deep true i
  as_one deep true i h = h
  as_one zero false i h = absurd h
  as_one (suc deep) false i h = more_deep deep true i h

  in_array : (deep : ℕ) (b n : Bool) (i : SlotItem) → NestsWithin c deep b i → NestsWithin c (suc deep) n i
  in_array deep b true i h = more_deep deep true i (as_one deep b i h)
  in_array deep b false i h = as_one deep b i h

  one_scalar : (deep : ℕ) (k : Kind) → NestsWithin c deep true (an_item.Scalar k)
  one_scalar zero k = tt
  one_scalar (suc deep) k = tt

  abbrev IsFull : Member → Type 0
  IsFull m = is_complete defs (plain m.ctype) ≡ true

  members_nest : (deep : ℕ) → ((t : CType) → is_complete defs (plain t) ≡ true → IsWithin defs (suc deep) t → NestsWithin c deep (items_of t == 1) (item_of t)) → (ms : List Member) → AllByRecursion IsFull ms → AllByRecursion (λ (m : Member). IsWithin defs (suc deep) m.ctype) ms
      → AllByRecursion (Nested deep) (map member_of ms)
  members_nest deep go [] f w = tt
  members_nest deep go (m ∷ ms) f w = (go m.ctype f.0 w.0, members_nest deep go ms f.1 w.1)

  -- a struct that is complete is at least 2 deep
  none_flat : (ms : List Member) → not (is_empty ms) ≡ true → AllByRecursion (λ (m : Member). IsWithin defs 0 m.ctype) ms → ⊥
  none_flat [] f w = true≢false (sym f)
  none_flat (m ∷ ms) f w = w.0

  nests : ((s : ℕ) → AllByRecursion IsFull (members_in (slice_get defs s))) → (deep : ℕ) (t : CType) → is_complete defs (plain t) ≡ true → IsWithin defs (suc deep) t → NestsWithin c deep (items_of t == 1) (item_of t)
  nests full deep Char f w = one_scalar deep Byte
  nests full deep Int f w = one_scalar deep Word
  nests full deep Unsigned f w = one_scalar deep Word
  nests full deep Void f w = absurd (true≢false (sym f))
  nests full deep (Pointer' _ t) f w = one_scalar deep Address
  nests full zero (Array' _ t n) f w = absurd w
  nests full (suc deep) (Array' b t n) f w = in_array deep (items_of t == 1) (items_of (Array' b t n) == 1) (item_of t) (nests full deep t (and_parts (nat_le 1 n) (is_complete defs (plain t)) f).1 w)
  nests full zero (Struct s) f w = absurd (none_flat (members_of defs s) f w)
  nests full (suc deep) (Struct s) f w =
      subst (λ (ms : List SlotMember). AllByRecursion (Nested deep) ms) (sym (members_there s)) (members_nest deep (nests full deep) (members_in (slice_get defs s)) (full s) w)

  module _ (structs : AllFrom (IsItsStruct defs) 0 defs) where
    all_full : (ms : List Member) → AllByRecursion (λ (m : Member). IsDeclared defs m.ctype) ms → AllByRecursion IsFull ms
    all_full [] h = tt
    all_full (m ∷ ms) h = (h.0.1, all_full ms h.1)

    members_full : (s : ℕ) → AllByRecursion IsFull (members_in (slice_get defs s))
    members_full s = by (slice_get defs s) refl
      where
        by : (o : Option StructDef) → slice_get defs s ≡ o → AllByRecursion IsFull (members_in (slice_get defs s))
        by None e = subst (λ o. AllByRecursion IsFull (members_in o)) (sym e) tt
        by (Some d) e = subst (λ o. AllByRecursion IsFull (members_in o)) (sym e) (all_full d.members (struct_there defs structs s d e).2)

    -- a struct is at most 64 deep, also where there is none of that number
    within : (s : ℕ) → IsWithin defs 64 (Struct s)
    within s = by (slice_get defs s) refl
      where
        by : (o : Option StructDef) → slice_get defs s ≡ o → AllByRecursion (λ (m : Member). IsWithin defs 63 m.ctype) (members_in (slice_get defs s))
        by None e = subst (λ o. AllByRecursion (λ (m : Member). IsWithin defs 63 m.ctype) (members_in o)) (sym e) tt
        by (Some d) e = (struct_there defs structs s d e).0.0

    pub all_nest : (s : ℕ) → NestsWithin c 63 true (an_item.Struct s)
    all_nest s = subst (λ (ms : List SlotMember). AllByRecursion (Nested 62) ms) (sym (members_there s)) (members_nest 62 (nests members_full 62) (members_in (slice_get defs s)) (members_full s) (within s))

    item_there : (t : CType) → is_complete defs (plain t) ≡ true → IsItemThere c (item_of t)
    item_there Char h = tt
    item_there Int h = tt
    item_there Unsigned h = tt
    item_there Void h = absurd (true≢false (sym h))
    item_there (Pointer' _ t) h = tt
    item_there (Array' _ t n) h = item_there t (and_parts (nat_le 1 n) (is_complete defs (plain t)) h).1
    item_there (Struct s) h = is_filled s h

    at_least_one : (n : ℕ) → nat_le 1 n ≡ true → 1 ≤ n
    at_least_one n h = grind arith

    has_items : (t : CType) → is_complete defs (plain t) ≡ true → 1 ≤ items_of t
    has_items Char h = omega arith
    has_items Int h = omega arith
    has_items Unsigned h = omega arith
    has_items Void h = absurd (true≢false (sym h))
    has_items (Pointer' _ t) h = omega arith
    has_items (Array' _ t n) h = let q = and_parts (nat_le 1 n) (is_complete defs (plain t)) h in one-le-mul (at_least_one n q.0) (has_items t q.1)
    has_items (Struct s) h = omega arith

    -- a product is no less than a factor where the other is some
    no_less : (a b : ℕ) → 1 ≤ a * b → a ≤ a * b
    no_less a zero h = absurd (omega (arith, h))
    no_less a (suc b) h = le-mul_of_pos_right a (omega arith)

    few_items : ((t : CType) → LieIn 0 (leaves_of defs t) (size_of defs t)) → (t : CType) → IsDeclared defs t → items_of t ≤ 1048576
    few_items ascend t h =
        let some : 1 ≤ size_of defs t = subst (λ n. 1 ≤ n) (sym (size_plain defs t)) (positive defs structs ascend (plain t) h.1) in
        let few : size_of defs t ≤ 1048576 = subst (λ n. n ≤ 1048576) (sym (size_plain defs t)) (formed_size defs (plain t) (formed defs t h.0.1)) in
        let items = no_less (items_of t) (item_size c (item_of t)) (subst (λ n. 1 ≤ n) (size_is t) some) in
        omega (arith, items, few, size_is t)

    members_there_all : ((t : CType) → LieIn 0 (leaves_of defs t) (size_of defs t)) → (ms : List Member) → AllByRecursion (λ (m : Member). IsDeclared defs m.ctype) ms → AllByRecursion (IsMember c) (map member_of ms)
    members_there_all ascend [] h = tt
    members_there_all ascend (m ∷ ms) h = ((has_items m.ctype h.0.1, few_items ascend m.ctype h.0, item_there m.ctype h.0.1), members_there_all ascend ms h.1)

    -- ---- where members stand

    least_fits : (x y : ℕ) → x ≤ next_multiple_of x y
    least_fits x y = omega arith

    members_lie : (from last end : ℕ) (ms : List Member) → AreLaid defs from ms last → last ≤ end → MembersLieIn c from (map member_of ms) end
    members_lie from last end [] h le = omega (arith, h, le)
    members_lie from last end (m ∷ ms) h le = (
      subst (λ n. from ≤ n) (sym h.0) (least_fits from (alignment_of defs m.ctype)),
      subst (λ n. MembersLieIn c (m.at + n) (map member_of ms) end) (size_is m.ctype) (members_lie (m.at + size_of defs m.ctype) last end ms h.1 le),
    )

    whole_alone : (size last : ℕ) (ms : List Member) → AllByRecursion (λ (m : Member). IsDeclared defs m.ctype) ms → AreLaid defs 0 ms last → size ≡ next_multiple_of last (alignment_of_members (alignment_of defs) ms) → IsWholeAlone c size (map member_of ms)
    whole_alone size last [] d h e = tt
    whole_alone size last (m ∷ k ∷ ms) d h e = tt
    whole_alone size last (m ∷ []) d h e =
        let front : m.at ≡ 0 = lone_at defs m h.0 in
        let last_is : size_of defs m.ctype ≡ last = omega (arith, front, h.1) in
        (front, sym (size_is m.ctype) ∙ sym (e ∙ ap (λ n. next_multiple_of n (alignment_of_members (alignment_of defs) (m ∷ []))) (sym last_is) ∙ lone_size defs structs m d.0))

    module _ (ascend : (t : CType) → LieIn 0 (leaves_of defs t) (size_of defs t)) (leaves : (t : CType) → IsWithin defs 64 t → AreLeavesOf (size_of defs t) (leaves_of defs t)) where
      row_good : (s : ℕ) (d : StructDef) → slice_get defs s ≡ Some d → IsStruct c (struct_row defs s d)
      row_good s d e =
          let w = within s in
          let members = ap members_in e in
          let its = struct_there defs structs s d e in
          let by_members : leaves_of defs (Struct s) ≡ leaves_of_members (leaves_within defs 63) d.members = ap (leaves_of_members (leaves_within defs 63)) members in (
            subst (λ o. size_in o ≤ 1048576) e its.0.1.1,
            subst (λ n. AreLeavesOf n (leaves_of defs (Struct s))) (ap size_in e) (leaves (Struct s) w),
            by_members ∙ members_are d.members (subst (λ ms. AllByRecursion (λ (m : Member). IsWithin defs 63 m.ctype) ms) members w),
            members_there_all ascend d.members its.2,
            members_lie 0 its.3.0 d.size d.members its.3.1 (subst (λ n. its.3.0 ≤ n) (sym its.3.2) (least_fits its.3.0 (alignment_of_members (alignment_of defs) d.members))),
            whole_alone d.size its.3.0 d.members its.2 its.3.1 its.3.2,
          )

      rows_good : (n : ℕ) (ds : List StructDef) → ((i : ℕ) (d : StructDef) → slice_get ds i ≡ Some d → slice_get defs (i + n) ≡ Some d) → AllByRecursion (IsStruct c) (struct_rows defs n ds)
      rows_good n [] at = tt
      rows_good n (d ∷ ds) at =
          let z : 0 + n ≡ n = omega arith in (
            row_good n d (ap (λ k. slice_get defs k) (sym z) ∙ at 0 d refl),
            rows_good (suc n) ds λ i g e. let w : i + suc n ≡ suc i + n = omega arith in ap (λ k. slice_get defs k) w ∙ at (suc i) g e,
          )

      pub all_structs : AllByRecursion (IsStruct c) c.structs
      all_structs =
          subst (λ rows. AllByRecursion (IsStruct c) rows) (sym same) (rows_good 0 defs λ i d e. let z : i + 0 ≡ i = omega arith in ap (λ k. slice_get defs k) z ∙ e)
