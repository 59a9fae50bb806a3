-- Offsets that are added step by step, modulo 2^32, are those of the whole sum.
use Rattle.std.proofs.Common.{◌≡◌, refl, sym, ap, ◌∙◌, ℕ, suc, zero, ◌+◌, ◌*◌, ◌%◌, ◌^◌, List, [], ◌∷◌, ◌++◌, append_assoc, arith, zero-add}
use Rattle.std.proofs.Math.Nat.{mod-add-mod}
use Rattle.std.proofs.lemmas.Nat.{mul-mod_second}
use Rattle.std.proofs.lemmas.List.{map-append}
use Rattle.c_tree.specs.declared.types.CType.{CType}
use Rattle.c_tree.specs.declared.types.Leaf.{Leaf}
use Rattle.c_tree.specs.declared.types.Member.{Member}
use Rattle.c_tree.specs.Layout.{leaves_at, repeated, leaves_of_members}
use Rattle.c_tree.specs.Listed.{kept, kept_at}

pub sum_kept : (a b c at : ℕ) → c ≡ (a + b) % 2 ^ 32 → (a + (b + at)) % 2 ^ 32 ≡ (c + at) % 2 ^ 32
sum_kept a b c at e =
    let assoc : a + (b + at) ≡ (a + b) + at = omega arith in
    ap (λ n. n % 2 ^ 32) assoc ∙ sym (mod-add-mod (a + b) (2 ^ 32) at) ∙ ap (λ n. (n + at) % 2 ^ 32) (sym e)

-- something that stands at b in what stands at a
pub kept_at-leaves_at : (a b c : ℕ) (ls : List Leaf) → c ≡ (a + b) % 2 ^ 32 → kept_at a (leaves_at b ls) ≡ kept_at c ls
kept_at-leaves_at a b c [] e = refl
kept_at-leaves_at a b c (l ∷ ls) e =
    ap (λ n. record l { at = n } ∷ kept_at a (leaves_at b ls)) (sum_kept a b c l.at e) ∙ ap (λ rest. kept c l ∷ rest) (kept_at-leaves_at a b c ls e)

sum_moved : (a b c d x : ℕ) → x ≡ b + d → c ≡ (a + d) % 2 ^ 32 → (c + b) % 2 ^ 32 ≡ (a + x) % 2 ^ 32
sum_moved a b c d x e f =
    let same : (a + d) + b ≡ a + x = omega (arith, e) in
    ap (λ n. (n + b) % 2 ^ 32) f ∙ mod-add-mod (a + d) (2 ^ 32) b ∙ ap (λ n. n % 2 ^ 32) same

-- items that stand d further
pub kept_at-repeated : (a b c d n size x : ℕ) (ls : List Leaf) → x ≡ b + d → c ≡ (a + d) % 2 ^ 32 → kept_at a (repeated n size x ls) ≡ kept_at c (repeated n size b ls)
kept_at-repeated a b c d zero size x ls e f = refl
kept_at-repeated a b c d (suc n) size x ls e f =
    let both : ℕ = (a + x) % 2 ^ 32 in
    let first : kept_at a (leaves_at x ls) ≡ kept_at c (leaves_at b ls) = kept_at-leaves_at a x both ls refl ∙ sym (kept_at-leaves_at c b both ls (sym (sum_moved a b c d x e f))) in
    let more : x + size ≡ (b + size) + d = omega (arith, e) in
    map-append (kept a) (leaves_at x ls) (repeated n size (x + size) ls)
    ∙ ap (λ front. front ++ kept_at a (repeated n size (x + size) ls)) first
    ∙ ap (λ rest. kept_at c (leaves_at b ls) ++ rest) (kept_at-repeated a (b + size) c d n size (x + size) ls more f)
    ∙ sym (map-append (kept c) (leaves_at b ls) (repeated n size (b + size) ls))

leaves_at-zero : (ls : List Leaf) → leaves_at 0 ls ≡ ls
leaves_at-zero [] = refl
leaves_at-zero (l ∷ ls) = ap (λ n. record l { at = n } ∷ leaves_at 0 ls) (zero-add l.at) ∙ ap (λ rest. l ∷ rest) (leaves_at-zero ls)

-- one item more
pub next_item : (a c size m n : ℕ) (ls out mid all : List Leaf) → n ≡ suc m → c ≡ (a + size) % 2 ^ 32 → mid ≡ out ++ kept_at a ls
    → out ++ kept_at a (repeated n size 0 ls) ≡ all → mid ++ kept_at c (repeated m size 0 ls) ≡ all
next_item a c size m n ls out mid all e f g h =
    let rest : List Leaf = kept_at c (repeated m size 0 ls) in
    let front : kept_at a (leaves_at 0 ls) ≡ kept_at a ls = ap (kept_at a) (leaves_at-zero ls) in
    let behind : kept_at a (repeated m size (0 + size) ls) ≡ rest = kept_at-repeated a 0 c size m size (0 + size) ls refl f in
    ap (λ xs. xs ++ rest) g
    ∙ append_assoc out (kept_at a ls) rest
    ∙ ap (λ xs. out ++ (kept_at a ls ++ xs)) (sym behind)
    ∙ ap (λ xs. out ++ (xs ++ kept_at a (repeated m size (0 + size) ls))) (sym front)
    ∙ ap (λ xs. out ++ xs) (sym (map-append (kept a) (leaves_at 0 ls) (repeated m size (0 + size) ls)))
    ∙ ap (λ k. out ++ kept_at a (repeated k size 0 ls)) (sym e)
    ∙ h

-- one member more
pub next_member : (a c : ℕ) (f : CType → List Leaf) (m : Member) (rest members : List Member) (out mid all : List Leaf) → members ≡ m ∷ rest → c ≡ (a + m.at) % 2 ^ 32
    → mid ≡ out ++ kept_at c (f m.ctype) → out ++ kept_at a (leaves_of_members f members) ≡ all → mid ++ kept_at a (leaves_of_members f rest) ≡ all
next_member a c f m rest members out mid all e g h k =
    let more : List Leaf = kept_at a (leaves_of_members f rest) in
    ap (λ xs. xs ++ more) h
    ∙ append_assoc out (kept_at c (f m.ctype)) more
    ∙ ap (λ xs. out ++ (xs ++ more)) (sym (kept_at-leaves_at a m.at c (f m.ctype) g))
    ∙ ap (λ xs. out ++ xs) (sym (map-append (kept a) (leaves_at m.at (f m.ctype)) (leaves_of_members f rest)))
    ∙ ap (λ ms. out ++ kept_at a (leaves_of_members f ms)) (sym e)
    ∙ k

pub times_kept : (n r s : ℕ) → r ≡ s % 2 ^ 32 → n * r % 2 ^ 32 ≡ n * s % 2 ^ 32
times_kept n r s e = ap (λ x. n * x % 2 ^ 32) e ∙ mul-mod_second n s (2 ^ 32)
