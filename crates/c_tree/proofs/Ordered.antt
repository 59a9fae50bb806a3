-- The leaves of a type lie in order, inside its size.
use Rattle.std.proofs.Common.{◌≡◌, refl, sym, subst, ℕ, suc, zero, ◌+◌, ◌*◌, ◌≤◌, List, [], ◌∷◌, ◌++◌, Option, Some, None, le_refl, le_trans, arith, slice_get}
use Rattle.std.specs.Int.{next_multiple_of}
use Rattle.c_tree.specs.declared.types.CType.{CType}
use Rattle.c_tree.specs.declared.types.CType.TheVariants.{Char, Int, Unsigned, Void, Pointer', Array', Struct}
use Rattle.c_tree.specs.declared.types.StructDef.{StructDef}
use Rattle.c_tree.specs.declared.types.Member.{Member}
use Rattle.c_tree.specs.declared.types.Leaf.{Leaf}
use Rattle.c_tree.specs.Layout.{size_of, size_in, members_in, leaves_at, repeated, leaves_of_members, leaves_within, AreLaid, alignment_of, alignment_of_members}
use Rattle.c_tree.specs.Ordered.{width_of, LieIn, AllLaidOut}

-- leaves that begin earlier, and end later
wider : (from to : ℕ) (ls : List Leaf) (end last : ℕ) → from ≤ to → end ≤ last → LieIn to ls end → LieIn from ls last
wider from to [] end last p q d = le_trans p (le_trans d q)
wider from to (l ∷ ls) end last p q d = (le_trans p d.0, wider (l.at + width_of l.kind) (l.at + width_of l.kind) ls end last (le_refl (l.at + width_of l.kind)) q d.1)

joined : (a : ℕ) (xs : List Leaf) (b : ℕ) (ys : List Leaf) (c : ℕ) → LieIn a xs b → LieIn b ys c → LieIn a (xs ++ ys) c
joined a [] b ys c p q = wider a b ys c c p (le_refl c) q
joined a (l ∷ xs) b ys c p q = (p.0, joined (l.at + width_of l.kind) xs b ys c p.1 q)

-- leaves that stand further
at_place : (by from end last : ℕ) (ls : List Leaf) → by + end ≤ last → LieIn from ls end → LieIn (by + from) (leaves_at by ls) last
at_place by from end last [] e d = omega (arith, e, d)
at_place by from end last (l ∷ ls) e d =
    let assoc : (by + l.at) + width_of l.kind ≡ by + (l.at + width_of l.kind) = omega arith in
    (omega (arith, d.0), subst (λ n. LieIn n (leaves_at by ls) last) (sym assoc) (at_place by (l.at + width_of l.kind) end last ls e d.1))

from_zero : (at size end : ℕ) (ls : List Leaf) → at + size ≤ end → LieIn 0 ls size → LieIn at (leaves_at at ls) end
from_zero at size end ls e d =
    let same : at + 0 ≡ at = omega arith in
    subst (λ n. LieIn n (leaves_at at ls) end) same (at_place at 0 size end ls e d)

repeated_lie : (n size at end : ℕ) (ls : List Leaf) → end ≡ at + n * size → LieIn 0 ls size → LieIn at (repeated n size at ls) end
repeated_lie zero size at end ls e d = omega (arith, e)
repeated_lie (suc n) size at end ls e d =
    let more : end ≡ (at + size) + n * size = omega (arith, e) in
    joined at (leaves_at at ls) (at + size) (repeated n size (at + size) ls) end (from_zero at size (at + size) ls (le_refl _) d) (repeated_lie n size (at + size) end ls more d)

least_fits : (x y : ℕ) → x ≤ next_multiple_of x y
least_fits x y = omega arith

members_lie : (defs : List StructDef) (f : CType → List Leaf) → ((t : CType) → LieIn 0 (f t) (size_of defs t)) → (from : ℕ) (ms : List Member) (end : ℕ) → AreLaid defs from ms end → LieIn from (leaves_of_members f ms) end
members_lie defs f h from [] end laid = subst (λ n. from ≤ n) laid (le_refl from)
members_lie defs f h from (m ∷ ms) end laid =
    let fits : from ≤ m.at = subst (λ n. from ≤ n) (sym laid.0) (least_fits from (alignment_of defs m.ctype)) in
    joined from (leaves_at m.at (f m.ctype)) (m.at + size_of defs m.ctype) (leaves_of_members f ms) end
    (wider from m.at (leaves_at m.at (f m.ctype)) _ _ fits (le_refl _) (from_zero m.at (size_of defs m.ctype) _ (f m.ctype) (le_refl _) (h m.ctype)))
    (members_lie defs f h (m.at + size_of defs m.ctype) ms end laid.1)

struct_lies : (defs : List StructDef) → AllLaidOut defs → (f : CType → List Leaf) → ((t : CType) → LieIn 0 (f t) (size_of defs t)) → (s : ℕ) (o : Option StructDef) → slice_get defs s ≡ o
    → LieIn 0 (leaves_of_members f (members_in o)) (size_in o)
struct_lies defs all f h s None e = le_refl 0
struct_lies defs all f h s (Some d) e =
    let laid : (end : ℕ) × AreLaid defs 0 d.members end × (d.size ≡ next_multiple_of end (alignment_of_members (alignment_of defs) d.members)) = all s d e in
    let inside : laid.0 ≤ d.size = subst (λ n. laid.0 ≤ n) (sym laid.2) (least_fits laid.0 (alignment_of_members (alignment_of defs) d.members)) in
    wider 0 0 (leaves_of_members f d.members) laid.0 d.size (le_refl 0) inside (members_lie defs f h 0 d.members laid.0 laid.1)

pub lie : (defs : List StructDef) → AllLaidOut defs → (deep : ℕ) (t : CType) → LieIn 0 (leaves_within defs deep t) (size_of defs t)
lie defs all zero t = omega arith
lie defs all (suc deep) Char = (omega arith, omega arith)
lie defs all (suc deep) Int = (omega arith, omega arith)
lie defs all (suc deep) Unsigned = (omega arith, omega arith)
lie defs all (suc deep) Void = omega arith
lie defs all (suc deep) (Pointer' _ t) = (omega arith, omega arith)
lie defs all (suc deep) (Array' _ t n) = repeated_lie n (size_of defs t) 0 (n * size_of defs t) (leaves_within defs deep t) (omega arith) (lie defs all deep t)
lie defs all (suc deep) (Struct s) = struct_lies defs all (leaves_within defs deep) (lie defs all deep) s (slice_get defs s) refl
