-- Accesses by their numbers.
use Rattle.std.proofs.Common.{◌≡◌, ◌∙◌, ℕ, Bool, true, false, ◌&&◌, nat_eq, refl, sym, ap, arith}
use Rattle.std.proofs.lemmas.Bool.Decides.{nat_tests}
use Rattle.ldb_words.specs.declared.kinds.Kind.{Kind}
use Rattle.ldb_words.specs.declared.kinds.Kind.TheVariants.{Byte, Word, Address}
use Rattle.frame_bytes.specs.declared.frame.Space.{Space}
use Rattle.frame_bytes.specs.declared.frame.Space.TheVariants.{Memory, Registers, Immediate}
use Rattle.frame_bytes.specs.declared.frame.Place.{Place}
use Rattle.mem_cache.specs.declared.cached.Access.{Access}
use Rattle.mem_cache.specs.Kept.{access_of, space_number, kind_number}

space_is : (s t : Space) → space_number s ≡ space_number t → s ≡ t
space_is Memory Memory e = refl
space_is Memory Registers e = cc
space_is Memory Immediate e = cc
space_is Registers Memory e = cc
space_is Registers Registers e = refl
space_is Registers Immediate e = cc
space_is Immediate Memory e = cc
space_is Immediate Registers e = cc
space_is Immediate Immediate e = refl

kind_is : (j k : Kind) → kind_number j ≡ kind_number k → j ≡ k
kind_is Byte Byte e = refl
kind_is Byte Word e = cc
kind_is Byte Address e = cc
kind_is Word Byte e = cc
kind_is Word Word e = refl
kind_is Word Address e = cc
kind_is Address Byte e = cc
kind_is Address Word e = cc
kind_is Address Address e = refl

-- accesses of the same numbers are one
pub same_access : (p q : Place) (j k : Kind) → access_of p j ≡ access_of q k → (q.space ≡ p.space) × (q.at ≡ p.at) × (k ≡ j)
same_access p q j k e =
    (sym (space_is p.space q.space (ap (λ (a : Access). a.space) e)), sym (ap (λ (a : Access). a.at) e), sym (kind_is j k (ap (λ (a : Access). a.kind) e)))

-- the test of a cache
abbrev pub equals : Access → Access → Bool
equals a b = nat_eq a.space b.space && (nat_eq a.kind b.kind && nat_eq a.at b.at)

same_number : (m n : ℕ) → nat_eq m n ≡ true → m ≡ n
same_number m n h = grind (arith, nat_tests)

first_of : (x y : Bool) → (x && y) ≡ true → x ≡ true
first_of true y h = refl
first_of false y h = h

second_of : (x y : Bool) → (x && y) ≡ true → y ≡ true
second_of true y h = h
second_of false y h = cc

pub same_numbers : (a b : Access) → equals a b ≡ true → a ≡ b
same_numbers a b h =
    let rest = second_of (nat_eq a.space b.space) (nat_eq a.kind b.kind && nat_eq a.at b.at) h in
    let space = same_number a.space b.space (first_of (nat_eq a.space b.space) (nat_eq a.kind b.kind && nat_eq a.at b.at) h) in
    let kind = same_number a.kind b.kind (first_of (nat_eq a.kind b.kind) (nat_eq a.at b.at) rest) in
    let at = same_number a.at b.at (second_of (nat_eq a.kind b.kind) (nat_eq a.at b.at) rest) in
    ap (λ (n : ℕ). record a { space = n }) space ∙ (ap (λ (n : ℕ). record a { space = b.space; kind = n }) kind ∙ ap (λ (n : ℕ). record b { at = n }) at)
