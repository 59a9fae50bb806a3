-- That keys are compared by an equivalence, and equal keys are hashed alike.
use Rattle.std.specs.Prelude.{◌≡◌, Bool, true, false, IsTrue}
use Rattle.std.specs.Bool.{beq, Decides}
use Rattle.std.proofs.Common.{refl, sym, ap, subst, true≢false}
use Rattle.std.specs.Cmp.{IsEquivalence, decided, signed_Decides}
use Rattle.std.specs.Cmp.Lexicographic.{bytes_decides}
use Rattle.std.specs.Hash as fed
use Rattle.ps_store.specs.Hashed.{text_hash}
use Rattle.ps_store.specs.declared.key.Key.{Key}
use Rattle.ps_store.specs.declared.key.Key.TheVariants.{Name, Int, Bool as Truth}
use Rattle.ps_store.specs.Key.{same_key}

-- what a hasher is fed for a key
abbrev pub key_input : Key → fed.HashWrites
key_input (Name text) = fed.u64 (text_hash text)
key_input (Int n) = fed.i32 n
key_input (Truth b) = fed.bool b

beq-eq : (a b : Bool) → beq a b ≡ true → a ≡ b
beq-eq true true h = refl
beq-eq true false h = sym h
beq-eq false true h = h
beq-eq false false h = refl

same_key-eq : (x y : Key) → same_key x y ≡ true → x ≡ y
same_key-eq (Name a) (Name b) h = ap Name ((bytes_decides a b).0 h)
same_key-eq (Int a) (Int b) h = ap Int ((signed_Decides a b).0 h)
same_key-eq (Truth a) (Truth b) h = ap Truth (beq-eq a b h)
same_key-eq (Name a) (Int b) h = absurd (true≢false (sym h))
same_key-eq (Name a) (Truth b) h = absurd (true≢false (sym h))
same_key-eq (Int a) (Name b) h = absurd (true≢false (sym h))
same_key-eq (Int a) (Truth b) h = absurd (true≢false (sym h))
same_key-eq (Truth a) (Name b) h = absurd (true≢false (sym h))
same_key-eq (Truth a) (Int b) h = absurd (true≢false (sym h))

same_key-refl : (x : Key) → same_key x x ≡ true
same_key-refl (Name a) = (bytes_decides a a).1 refl
same_key-refl (Int a) = (signed_Decides a a).1 refl
same_key-refl (Truth true) = refl
same_key-refl (Truth false) = refl

pub same_key_Decides : (x y : Key) → Decides (same_key x y) (x ≡ y)
same_key_Decides x y = (same_key-eq x y, λ h. subst (λ z. same_key x z ≡ true) h (same_key-refl x))

pub same_key_equiv : IsEquivalence same_key
same_key_equiv = decided same_key same_key_Decides

pub same_key-input : (x y : Key) → IsTrue (same_key x y) → key_input x ≡ key_input y
same_key-input x y h = ap key_input (same_key-eq x y h)
