-- A string's characters are the bytes that were escaped.
use Rattle.std.proofs.Common.{◌≡◌, ◌≢◌, ℕ, ◌-◌, Bool, true, false, ◌==◌, List, [], ◌∷◌, ◌++◌, length, take, refl, sym, ap, ◌∙◌, subst, arith, take_at, length-append, ◌⊎◌, inl, inr}
use Rattle.std.proofs.lemmas.Bool.Decides.{nat_tests}
use Rattle.ps_scan.specs.Grammar.{IsBody, empty, plain, escaped as passed}
use Rattle.ps_scan.specs.Characters.{characters, string_value}
use Rattle.ps_scan.specs.Escaping.{escaped, escaped_byte, string_token}

equal : (a b : ℕ) → (a == b) ≡ true → a ≡ b
equal a b h = grind (arith, nat_tests)

unequal : (a b : ℕ) → (a == b) ≡ false → a ≢ b
unequal a b h = grind (arith, nat_tests)

-- what one byte is escaped to, by its tests
abbrev Escaping : ℕ → List ℕ → List ℕ → Type 0
Escaping b e rest = (IsBody rest → IsBody (e ++ rest)) × (characters (e ++ rest) ≡ b ∷ characters rest)

named : (b : ℕ) (rest : List ℕ) → (b ≡ 40) ⊎ ((b ≡ 41) ⊎ (b ≡ 92)) → Escaping b (92 ∷ b ∷ []) rest
named b rest (inl e) = subst (λ b. Escaping b (92 ∷ b ∷ []) rest) (sym e) (λ h. passed 40 rest h, refl)
named b rest (inr (inl e)) = subst (λ b. Escaping b (92 ∷ b ∷ []) rest) (sym e) (λ h. passed 41 rest h, refl)
named b rest (inr (inr e)) = subst (λ b. Escaping b (92 ∷ b ∷ []) rest) (sym e) (λ h. passed 92 rest h, refl)

byte : (b : ℕ) (rest : List ℕ) (v w x y : Bool) → (b == 40) ≡ v → (b == 41) ≡ w → (b == 92) ≡ x → (b == 13) ≡ y → Escaping b (escaped_byte b) rest
byte b rest true w x y p q r z = rw p (named b rest (inl (equal b 40 p)))
byte b rest false true x y p q r z = rw (p, q) (named b rest (inr (inl (equal b 41 q))))
byte b rest false false true y p q r z = rw (p, q, r) (named b rest (inr (inr (equal b 92 r))))
byte b rest false false false true p q r z =
    rw (p, q, r, z) (subst (λ b. Escaping b (92 ∷ 114 ∷ []) rest) (sym (equal b 13 z)) (λ h. passed 114 rest h, refl))
byte b rest false false false false p q r z = rw (p, q, r, z) (λ h. plain b rest (unequal b 40 p) (unequal b 41 q) (unequal b 92 r) h, rw (r, z) refl)

pub escaped_body : (bs : List ℕ) → IsBody (escaped bs)
escaped_body [] = empty
escaped_body (b ∷ bs) = (byte b (escaped bs) (b == 40) (b == 41) (b == 92) (b == 13) refl refl refl refl).0 (escaped_body bs)

pub escaped_characters : (bs : List ℕ) → characters (escaped bs) ≡ bs
escaped_characters [] = refl
escaped_characters (b ∷ bs) = (byte b (escaped bs) (b == 40) (b == 41) (b == 92) (b == 13) refl refl refl refl).1 ∙ ap (λ xs. b ∷ xs) (escaped_characters bs)

-- the characters of the token
pub string_of_escaped : (bs : List ℕ) → string_value (string_token bs) ≡ bs
string_of_escaped bs =
    let n : length (40 ∷ (escaped bs ++ 41 ∷ [])) - 2 ≡ length (escaped bs) = omega (arith, length-append (escaped bs) (41 ∷ [])) in
    ap (λ k. characters (take k (escaped bs ++ 41 ∷ []))) n ∙ ap characters (take_at (escaped bs) (41 ∷ []) (length (escaped bs)) refl) ∙ escaped_characters bs
