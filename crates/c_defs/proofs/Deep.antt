-- Depths, one level after another and one member after another.
use Rattle.std.proofs.Common.{arith, ◌≡◌, ◌≢◌, ◌≤◌, ◌<◌, ◌+◌, ◌-◌, ℕ, zero, suc, max, Bool, true, false, ◌&&◌, nat_le, List, length, drop, slice_index_or, refl, sym, ap, ◌∙◌}
use Rattle.c_tree.specs.declared.types.StructDef.{StructDef}
use Rattle.c_tree.specs.declared.types.Member.{Member}
use Rattle.c_tree.specs.Layout.{members_of}
use Rattle.c_typing.specs.Plain.{Plain, Struct, plain}
use Rattle.c_defs.specs.Depths.{is_within, are_within}
use Rattle.c_defs.proofs.Comparing.{le_no, le_next, le_max}
use Rattle.c_defs.proofs.Items.{item_of}

-- a struct is one deeper than its members
pub struct_deep : (defs : List StructDef) (t : Plain) (s deep d : ℕ) → t ≡ Struct s → deep ≢ 0
    → ((n : ℕ) → n ≤ deep - 1 → are_within (is_within defs n) (members_of defs s) ≡ nat_le d n) → (n : ℕ) → n ≤ deep → is_within defs n t ≡ nat_le (d + 1) n
struct_deep defs t s deep d e h w zero k = sym (le_no (d + 1) 0 (omega arith))
struct_deep defs t s deep d e h w (suc n) k = ap (is_within defs (suc n)) e ∙ (w n (omega (arith, h, k)) ∙ le_next d n)

and_none : (a b : Bool) → (a && (false && b)) ≡ false
and_none true b = refl
and_none false b = refl

and_in : (a b c : Bool) → (a && (b && c)) ≡ ((a && b) && c)
and_in true b c = refl
and_in false b c = refl

module _ (defs : List StructDef) (ms : List Member) (i : ℕ) (m : Member) (most d : ℕ) where
  first : (n : ℕ) → i < length ms → m ≡ slice_index_or ms i m → is_within defs n (plain m.ctype) ≡ nat_le d n
      → are_within (is_within defs n) (drop i ms) ≡ (nat_le d n && are_within (is_within defs n) (drop (i + 1) ms))
  first n h e w = ap (are_within (is_within defs n)) (item_of ms i m h e) ∙ ap (λ b. b && are_within (is_within defs n) (drop (i + 1) ms)) w

  -- a member that is too deep
  pub member_beyond : (deep : ℕ) → i < length ms → m ≡ slice_index_or ms i m → ((n : ℕ) → n ≤ deep → is_within defs n (plain m.ctype) ≡ nat_le d n) → deep < d
      → ((n : ℕ) → n ≤ deep → are_within (is_within defs n) ms ≡ (nat_le most n && are_within (is_within defs n) (drop i ms)))
      → (n : ℕ) → n ≤ deep → are_within (is_within defs n) ms ≡ nat_le d n
  member_beyond deep h e w b v n k =
      let no = le_no d n (omega (arith, b, k)) in
      v n k ∙ (ap (λ x. nat_le most n && x) (first n h e (w n k)) ∙
      (ap (λ x. nat_le most n && (x && are_within (is_within defs n) (drop (i + 1) ms))) no ∙ (and_none (nat_le most n) (are_within (is_within defs n) (drop (i + 1) ms)) ∙ sym no)))

  -- one member more
  pub member_deep : (deep : ℕ) → i < length ms → m ≡ slice_index_or ms i m → ((n : ℕ) → n ≤ deep → is_within defs n (plain m.ctype) ≡ nat_le d n)
      → ((n : ℕ) → n ≤ deep → are_within (is_within defs n) ms ≡ (nat_le most n && are_within (is_within defs n) (drop i ms)))
      → (n : ℕ) → n ≤ deep → are_within (is_within defs n) ms ≡ (nat_le (max most d) n && are_within (is_within defs n) (drop (i + 1) ms))
  member_deep deep h e w v n k =
      let rest = are_within (is_within defs n) (drop (i + 1) ms) in
      v n k ∙ (ap (λ x. nat_le most n && x) (first n h e (w n k)) ∙ (and_in (nat_le most n) (nat_le d n) rest ∙ ap (λ x. x && rest) (sym (le_max most d n))))
