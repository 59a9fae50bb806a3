use Rattle.std.proofs.Common.{◌≡◌, ℕ, ◌^◌, ◌<◌, ◌≤◌, ◌∙◌, ap, arith, ◌+ℤ◌, ◌*ℤ◌, ℤ, pos, negsuc, FitsSigned, to_z, of_z, w32, w64}
use Rattle.std.specs.Int.RustNames.{unsigned_abs}
use Rattle.std.proofs.Math.Nat.{mul-le-mul}
use Rattle.std.proofs.lemmas.Int.{to_z-of_z, fits_signed_from_abs, unsigned_abs-mul}
use Rattle.ps_pointers.proofs.pointers.moved.Goals as goal

abs_of : (z : ℤ) → FitsSigned w32 z → unsigned_abs z ≤ 2 ^ 31
abs_of (pos n) h = omega (arith, h)
abs_of (negsuc n) h = omega (arith, h)

wide : (z : ℤ) → FitsSigned w32 z → FitsSigned w64 z
wide z h = fits_signed_from_abs w64 z (let p : unsigned_abs z ≤ 2 ^ 31 = abs_of z h in omega arith)

product_below : (a b : ℤ) → unsigned_abs a ≤ 2 ^ 31 → unsigned_abs b ≤ 2 ^ 31 → unsigned_abs (a *ℤ b) ≤ 2 ^ 62
product_below a b p q = omega (arith, unsigned_abs-mul a b, mul-le-mul p q)

below_fits : (z : ℤ) → unsigned_abs z ≤ 2 ^ 62 → FitsSigned w64 z
below_fits z h = fits_signed_from_abs w64 z (omega arith)

sum_fits : (n : ℕ) (z : ℤ) → n < 2 ^ 32 → unsigned_abs z ≤ 2 ^ 62 → FitsSigned w64 (pos n +ℤ z)
sum_fits n z h k = grind arith

place_fits : (n : ℕ) → n < 2 ^ 32 → FitsSigned w64 (pos n)
place_fits n h = grind arith

-- what the code computes, which wraps nowhere
sum_is : (x y z : ℤ) (at : ℕ) (n m : ℤ) → at < 2 ^ 32 → FitsSigned w32 n → FitsSigned w32 m → x ≡ pos at → y ≡ to_z w32 (of_z w32 n) → z ≡ to_z w32 (of_z w32 m)
    → to_z w64 (of_z w64 (to_z w64 (of_z w64 x) +ℤ to_z w64 (of_z w64 (to_z w64 (of_z w64 y) *ℤ to_z w64 (of_z w64 z))))) ≡ pos at +ℤ (n *ℤ m)
sum_is x y z at n m below f g e e' e'' =
    let a : to_z w64 (of_z w64 x) ≡ pos at = ap (λ i. to_z w64 (of_z w64 i)) e ∙ to_z-of_z w64 (pos at) (place_fits at below) in
    let b : to_z w64 (of_z w64 y) ≡ n = ap (λ i. to_z w64 (of_z w64 i)) (e' ∙ to_z-of_z w32 n f) ∙ to_z-of_z w64 n (wide n f) in
    let d : to_z w64 (of_z w64 z) ≡ m = ap (λ i. to_z w64 (of_z w64 i)) (e'' ∙ to_z-of_z w32 m g) ∙ to_z-of_z w64 m (wide m g) in
    let small : unsigned_abs (n *ℤ m) ≤ 2 ^ 62 = product_below n m (abs_of n f) (abs_of m g) in
    let p : to_z w64 (of_z w64 (to_z w64 (of_z w64 y) *ℤ to_z w64 (of_z w64 z))) ≡ n *ℤ m =
    ap (λ i. to_z w64 (of_z w64 (i *ℤ to_z w64 (of_z w64 z)))) b ∙ (ap (λ i. to_z w64 (of_z w64 (n *ℤ i))) d ∙ to_z-of_z w64 (n *ℤ m) (below_fits (n *ℤ m) small)) in
    ap (λ i. to_z w64 (of_z w64 (i +ℤ to_z w64 (of_z w64 (to_z w64 (of_z w64 y) *ℤ to_z w64 (of_z w64 z)))))) a
    ∙ (ap (λ i. to_z w64 (of_z w64 (pos at +ℤ i))) p ∙ to_z-of_z w64 (pos at +ℤ (n *ℤ m)) (sum_fits at (n *ℤ m) below small))

pub returns : goal.returns
returns c = sum_is c.from.result c.from-2.result c.from-3.result c.args.at c.args.count c.args.size (omega arith) c.ranges.count c.ranges.size c.from.ensures c.from-2.ensures c.from-3.ensures
