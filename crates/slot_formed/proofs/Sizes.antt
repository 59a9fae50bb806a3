-- How large the types of an accepted program are, and which of them have leaves.
use Rattle.std.proofs.Common.{◌≡◌, refl, sym, ap, subst, arith, ℕ, suc, zero, ◌+◌, ◌*◌, ◌<◌, ◌≤◌, List, [], ◌∷◌, ◌++◌, length, true, not, Option, Some, None, true≢false, slice_get}
use Rattle.std.proofs.Math.Nat.{one-le-mul}
use Rattle.std.specs.Prelude.{nat_le}
use Rattle.std.specs.Int.{next_multiple_of}
use Rattle.std.specs.List.{AllByRecursion}
use Rattle.ldb_words.specs.declared.kinds.Kind.{Kind}
use Rattle.ldb_words.specs.declared.kinds.Kind.TheVariants.{Byte, Word, Address}
use Rattle.c_tree.specs.declared.types.CType.{CType}
use Rattle.c_tree.specs.declared.types.CType.TheVariants as ctype
use Rattle.c_tree.specs.declared.types.StructDef.{StructDef}
use Rattle.c_tree.specs.declared.types.Member.{Member}
use Rattle.c_tree.specs.declared.types.Leaf.{Leaf}
use Rattle.c_tree.specs.Layout.{size_of, struct_size_of, members_of, members_in, size_in, IsWithin, leaves_within, leaves_of, leaves_at, leaves_of_members, repeated, AreLaid, alignment_of, alignment_of_members}
use Rattle.c_tree.specs.Ordered.{width_of, LieIn, AllLaidOut}
use Rattle.c_typing.specs.Plain.{Plain, Char, Int, Unsigned, Void, Pointer, Array, Struct, plain, is_complete, is_empty}
use Rattle.c_typing.specs.Values as values
use Rattle.c_typing.specs.Written.{IsFormed, IsDeclared}
use Rattle.c_typing.specs.Declarations.{IsStruct}
use Rattle.c_typing.specs.Programs.{AllFrom}
use Rattle.slot_formed.proofs.Lists.{each_at_zero, and_parts, no_none, some_same}

-- ---- plain types

pub size_plain : (defs : List StructDef) (t : CType) → size_of defs t ≡ values.size_of defs (plain t)
size_plain defs ctype.Char = refl
size_plain defs ctype.Int = refl
size_plain defs ctype.Unsigned = refl
size_plain defs ctype.Void = refl
size_plain defs (ctype.Pointer' b t) = refl
size_plain defs (ctype.Array' b t n) = ap (λ m. n * m) (size_plain defs t)
size_plain defs (ctype.Struct s) = refl

-- a type and each that it points to or holds has at most 1,048,576 bytes, and its structs are there
abbrev pub Formed : List StructDef → Plain → Type 0
Formed defs Char = Unit {0}
Formed defs Int = Unit {0}
Formed defs Unsigned = Unit {0}
Formed defs Void = Unit {0}
Formed defs (Pointer t) = Formed defs t
Formed defs (Array t n) = Formed defs t × (n * values.size_of defs t ≤ 1048576)
Formed defs (Struct s) = (s < length defs) × (struct_size_of defs s ≤ 1048576)

pub formed : (defs : List StructDef) (t : CType) → IsFormed defs t → Formed defs (plain t)
formed defs ctype.Char h = tt
formed defs ctype.Int h = tt
formed defs ctype.Unsigned h = tt
formed defs ctype.Void h = tt
formed defs (ctype.Pointer' b t) h = formed defs t h.0
formed defs (ctype.Array' b t n) h = (formed defs t h.0, subst (λ m. n * m ≤ 1048576) (size_plain defs t) h.3)
formed defs (ctype.Struct s) h = h

pub formed_size : (defs : List StructDef) (t : Plain) → Formed defs t → values.size_of defs t ≤ 1048576
formed_size defs Char h = omega arith
formed_size defs Int h = omega arith
formed_size defs Unsigned h = omega arith
formed_size defs Void h = omega arith
formed_size defs (Pointer t) h = omega arith
formed_size defs (Array t n) h = h.1
formed_size defs (Struct s) h = h.1

-- ---- leaves

at_least_one : (n : ℕ) → nat_le 1 n ≡ true → 1 ≤ n
at_least_one n h = grind arith

leaves_moved : (by : ℕ) (ls more : List Leaf) → 1 ≤ length ls → 1 ≤ length (leaves_at by ls ++ more)
leaves_moved by [] more h = absurd (omega arith)
leaves_moved by (l ∷ ls) more h = omega arith

repeated_some : (n size at : ℕ) (ls : List Leaf) → 1 ≤ n → 1 ≤ length ls → 1 ≤ length (repeated n size at ls)
repeated_some zero size at ls h k = absurd (omega arith)
repeated_some (suc n) size at ls h k = leaves_moved at ls (repeated n size (at + size) ls) k

-- a member has leaves where its type is complete
members_some : (defs : List StructDef) (deep : ℕ) → ((t : CType) → IsWithin defs deep t → is_complete defs (plain t) ≡ true → 1 ≤ length (leaves_within defs deep t))
    → (ms : List Member) → not (is_empty ms) ≡ true → AllByRecursion (λ m. IsWithin defs deep m.ctype) ms → AllByRecursion (λ m. IsDeclared defs m.ctype) ms → 1 ≤ length (leaves_of_members (leaves_within defs deep) ms)
members_some defs deep f [] n h k = absurd (true≢false (sym n))
members_some defs deep f (m ∷ ms) n h k = leaves_moved m.at (leaves_within defs deep m.ctype) _ (f m.ctype h.0 k.0.1)

module _ (defs : List StructDef) (structs : AllFrom (IsStruct defs) 0 defs) where
  pub struct_there : (s : ℕ) (d : StructDef) → slice_get defs s ≡ Some d → IsStruct defs s d
  struct_there s d e = each_at_zero (IsStruct defs) defs s d structs e

  pub laid_out : AllLaidOut defs
  laid_out s d e = (struct_there s d e).3

  pub members_declared : (s : ℕ) → AllByRecursion (λ m. IsDeclared defs m.ctype) (members_of defs s)
  members_declared s = by (slice_get defs s) refl
    where
      by : (o : Option StructDef) → slice_get defs s ≡ o → AllByRecursion (λ m. IsDeclared defs m.ctype) (members_in o)
      by None e = tt
      by (Some d) e = (struct_there s d e).2

  -- a complete type has a leaf
  pub has_leaf : (deep : ℕ) (t : CType) → IsWithin defs deep t → is_complete defs (plain t) ≡ true → 1 ≤ length (leaves_within defs deep t)
  has_leaf zero t h c = absurd h
  has_leaf (suc deep) ctype.Char h c = omega arith
  has_leaf (suc deep) ctype.Int h c = omega arith
  has_leaf (suc deep) ctype.Unsigned h c = omega arith
  has_leaf (suc deep) ctype.Void h c = absurd (true≢false (sym c))
  has_leaf (suc deep) (ctype.Pointer' b t) h c = omega arith
  has_leaf (suc deep) (ctype.Array' b t n) h c =
      let q = and_parts (nat_le 1 n) (is_complete defs (plain t)) c in
      repeated_some n (size_of defs t) 0 (leaves_within defs deep t) (at_least_one n q.0) (has_leaf deep t h q.1)
  has_leaf (suc deep) (ctype.Struct s) h c = members_some defs deep (has_leaf deep) (members_of defs s) c h (members_declared s)

  -- ---- sizes

  lies_from : (a : ℕ) (ls : List Leaf) (b : ℕ) → LieIn a ls b → a ≤ b
  lies_from a [] b h = h
  lies_from a (l ∷ ls) b h = omega (arith, h.0, lies_from (l.at + width_of l.kind) ls b h.1)

  pub some_width : (k : Kind) → 1 ≤ width_of k
  some_width Byte = omega arith
  some_width Word = omega arith
  some_width Address = omega arith

  some_size : (ls : List Leaf) (size : ℕ) → LieIn 0 ls size → 1 ≤ length ls → 1 ≤ size
  some_size [] size h k = absurd (omega arith)
  some_size (l ∷ ls) size h k = omega (arith, some_width l.kind, lies_from (l.at + width_of l.kind) ls size h.1)

  -- each leaf ends in its object
  pub leaves_end : (a : ℕ) (ls : List Leaf) (b : ℕ) → LieIn a ls b → AllByRecursion (λ (l : Leaf). l.at + width_of l.kind ≤ b) ls
  leaves_end a [] b h = tt
  leaves_end a (l ∷ ls) b h = (lies_from (l.at + width_of l.kind) ls b h.1, leaves_end (l.at + width_of l.kind) ls b h.1)

  module _ (ascend : (t : CType) → LieIn 0 (leaves_of defs t) (size_of defs t)) where
    struct_positive : (s : ℕ) → not (is_empty (members_of defs s)) ≡ true → 1 ≤ struct_size_of defs s
    struct_positive s c = by (slice_get defs s) refl
      where
        by : (o : Option StructDef) → slice_get defs s ≡ o → 1 ≤ struct_size_of defs s
        by None e = absurd (true≢false (sym (subst (λ o. not (is_empty (members_in o)) ≡ true) e c)))
        by (Some d) e = some_size (leaves_of defs (ctype.Struct s)) (struct_size_of defs s) (ascend (ctype.Struct s)) (has_leaf 64 (ctype.Struct s) (struct_there s d e).0.0 c)

    pub positive : (t : Plain) → is_complete defs t ≡ true → 1 ≤ values.size_of defs t
    positive Char c = omega arith
    positive Int c = omega arith
    positive Unsigned c = omega arith
    positive Void c = absurd (true≢false (sym c))
    positive (Pointer t) c = omega arith
    positive (Array t n) c =
        let q = and_parts (nat_le 1 n) (is_complete defs t) c in
        one-le-mul (at_least_one n q.0) (positive t q.1)
    positive (Struct s) c = struct_positive s c

  -- ---- offsets of members

  least_fits : (x y : ℕ) → x ≤ next_multiple_of x y
  least_fits x y = omega arith

  laid_end : (from : ℕ) (ms : List Member) (end : ℕ) → AreLaid defs from ms end → from ≤ end
  laid_end from [] end h = omega (arith, h)
  laid_end from (m ∷ ms) end h = omega (arith, h.0, least_fits from (alignment_of defs m.ctype), laid_end (m.at + size_of defs m.ctype) ms end h.1)

  member_at : (from : ℕ) (ms : List Member) (end i : ℕ) (m : Member) → AreLaid defs from ms end → slice_get ms i ≡ Some m → m.at ≤ end
  member_at from [] end i m h e = no_none m e
  member_at from (x ∷ ms) end zero m h e = subst (λ (y : Member). y.at ≤ end) (some_same x m e) (omega (arith, laid_end (x.at + size_of defs x.ctype) ms end h.1))
  member_at from (x ∷ ms) end (suc i) m h e = member_at (x.at + size_of defs x.ctype) ms end i m h.1 e

  pub member_offset : (s i : ℕ) (m : Member) → slice_get (members_of defs s) i ≡ Some m → m.at ≤ 1048576
  member_offset s i m e = by (slice_get defs s) refl e
    where
      by : (o : Option StructDef) → slice_get defs s ≡ o → slice_get (members_in o) i ≡ Some m → m.at ≤ 1048576
      by None g k = no_none m k
      by (Some d) g k =
          let q = struct_there s d g in
          let laid = q.3 in
          let size : struct_size_of defs s ≤ 1048576 = q.0.1.1 in
          let same : d.size ≤ 1048576 = subst (λ o. size_in o ≤ 1048576) g size in
          let fits : laid.0 ≤ d.size = subst (λ n. laid.0 ≤ n) (sym laid.2) (least_fits laid.0 (alignment_of_members (alignment_of defs) d.members)) in
          omega (arith, same, fits, member_at 0 d.members laid.0 i m laid.1 k)
