-- The rules' completeness is C's.
use Rattle.std.proofs.Common.{◌≡◌, refl, sym, arith, ℕ, ◌≤◌, List, [], ◌∷◌, Bool, true, false, not, ◌&&◌, length, true≢false}
use Rattle.std.specs.Prelude.{nat_le}
use Rattle.c_tree.specs.declared.types.CType.{CType}
use Rattle.c_tree.specs.declared.types.CType.TheVariants.{Char, Int, Unsigned, Void, Pointer', Array', Struct}
use Rattle.c_tree.specs.declared.types.StructDef.{StructDef}
use Rattle.c_tree.specs.declared.types.Member.{Member}
use Rattle.c_tree.specs.Layout.{IsComplete, members_of}
use Rattle.c_typing.specs.Plain.{plain, is_complete, is_empty}

some_members : (ms : List Member) → not (is_empty ms) ≡ true → 1 ≤ length ms
some_members [] h = absurd (true≢false (sym h))
some_members (m ∷ ms) h = omega arith

members_some : (ms : List Member) → 1 ≤ length ms → not (is_empty ms) ≡ true
members_some [] h = absurd (omega arith)
members_some (m ∷ ms) h = refl

pub and_true : (a b : Bool) → a ≡ true → b ≡ true → a && b ≡ true
and_true true b p q = q
and_true false b p q = p

one : (n : ℕ) → 1 ≤ n → nat_le 1 n ≡ true
one n h = grind arith

pub and_parts : (a b : Bool) → a && b ≡ true → (a ≡ true) × (b ≡ true)
and_parts true b h = (refl, h)
and_parts false b h = absurd (true≢false (sym h))

at_least_one : (n : ℕ) → nat_le 1 n ≡ true → 1 ≤ n
at_least_one n h = grind arith

pub is_so : (defs : List StructDef) (t : CType) → is_complete defs (plain t) ≡ true → IsComplete defs t
is_so defs Char h = tt
is_so defs Int h = tt
is_so defs Unsigned h = tt
is_so defs Void h = absurd (true≢false (sym h))
is_so defs (Pointer' b t) h = tt
is_so defs (Array' b t n) h = let q = and_parts (nat_le 1 n) (is_complete defs (plain t)) h in (at_least_one n q.0, is_so defs t q.1)
is_so defs (Struct s) h = some_members (members_of defs s) h

pub is_asked : (defs : List StructDef) (t : CType) → IsComplete defs t → is_complete defs (plain t) ≡ true
is_asked defs Char h = refl
is_asked defs Int h = refl
is_asked defs Unsigned h = refl
is_asked defs Void h = absurd h
is_asked defs (Pointer' b t) h = refl
is_asked defs (Array' b t n) h = and_true (nat_le 1 n) (is_complete defs (plain t)) (one n h.0) (is_asked defs t h.1)
is_asked defs (Struct s) h = members_some (members_of defs s) h
