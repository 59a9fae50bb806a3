-- Comparisons of numbers.
use Rattle.std.proofs.Common.{arith, ◌≡◌, ◌≤◌, ◌<◌, ◌+◌, ℕ, suc, min, max, true, false, ◌&&◌, nat_le}
use Rattle.std.specs.Ordering.{ord_max}
use Rattle.std.proofs.Common.{nat_cmp}
use Rattle.std.proofs.lemmas.Grind.{common_steps}

pub le_yes : (a b : ℕ) → a ≤ b → nat_le a b ≡ true
le_yes a b h = grind arith

pub le_no : (a b : ℕ) → b < a → nat_le a b ≡ false
le_no a b h = grind arith

pub le_told : (a b : ℕ) → nat_le a b ≡ true → a ≤ b
le_told a b h = grind arith

pub le_next : (d n : ℕ) → nat_le d n ≡ nat_le (d + 1) (suc n)
le_next d n = grind arith

pub le_min : (a b n : ℕ) → n < b → nat_le (min a b) n ≡ nat_le a n
le_min a b n h = grind arith

pub le_max : (a b n : ℕ) → nat_le (max a b) n ≡ (nat_le a n && nat_le b n)
le_max a b n = grind arith

pub most_of : (a b : ℕ) → ord_max nat_cmp a b ≡ max a b
most_of a b = grind (arith, common_steps)
