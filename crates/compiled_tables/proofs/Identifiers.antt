-- Identifiers of C stand in a table as they are.
use Rattle.std.proofs.Common.{◌≡◌, ℕ, true, false, ◌==◌, List, [], ◌∷◌, ◌++◌, refl, sym, ap, ◌∙◌, ne_eqb}
use Rattle.c_lex.specs.Bytes.{is_part}
use Rattle.c_lex.specs.Numbers.{AllAre}
use Rattle.ps_scan.specs.Bytes.{is_white, is_special, is_regular}
use Rattle.ps_scan.specs.Grammar.{AllRegular}
use Rattle.ps_scan.specs.Escaping.{escaped, escaped_byte}
use Rattle.ps_emit.specs.Lengths.{IsName}
use Rattle.c_tokens.specs.Identifiers.{IsIdentifier}

-- a byte of an identifier is none that is not of one
differs : (b k : ℕ) → is_part b ≡ true → is_part k ≡ false → (b == k) ≡ false
differs b k h n = ne_eqb b k (λ e. let f : true ≡ false = sym h ∙ (ap is_part e ∙ n) in cc)

regular_byte : (b : ℕ) → is_part b ≡ true → is_regular b ≡ true
unfolding is_regular is_white is_special
regular_byte b h =
    rw (
      differs b 0 h refl,
      differs b 9 h refl,
      differs b 10 h refl,
      differs b 12 h refl,
      differs b 13 h refl,
      differs b 32 h refl,
      differs b 40 h refl,
      differs b 41 h refl,
      differs b 60 h refl,
      differs b 62 h refl,
      differs b 91 h refl,
      differs b 93 h refl,
      differs b 123 h refl,
      differs b 125 h refl,
      differs b 47 h refl,
      differs b 37 h refl,
    ) refl

plain_byte : (b : ℕ) → is_part b ≡ true → escaped_byte b ≡ b ∷ []
plain_byte b h = rw (differs b 40 h refl, differs b 41 h refl, differs b 92 h refl, differs b 13 h refl) refl

regular_all : (bs : List ℕ) → AllAre is_part bs → AllRegular bs
regular_all [] h = tt
regular_all (b ∷ bs) h = (regular_byte b h.0, regular_all bs h.1)

plain_all : (bs : List ℕ) → AllAre is_part bs → escaped bs ≡ bs
plain_all [] h = refl
plain_all (b ∷ bs) h = ap (λ (xs : List ℕ). xs ++ escaped bs) (plain_byte b h.0) ∙ ap (λ (xs : List ℕ). b ∷ xs) (plain_all bs h.1)

pub regular : (name : List ℕ) → IsIdentifier name → AllRegular name
regular name h = regular_all name h.word.1

pub named : (name : List ℕ) → IsIdentifier name → IsName name
named name h = record { plain = plain_all name h.word.1; short = h.short }
