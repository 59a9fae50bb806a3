-- Plain types as lists of pointers and bounds, the outermost first, around a type that holds no other: how a proof tells two types apart.
use Rattle.std.specs.Prelude.{◌≡◌, ℕ, zero, suc, List, [], ◌∷◌, Option, Some, None, refl}
use Rattle.std.proofs.Common.{ap}
use Rattle.std.specs.Coded.{Coded, code_by, coded×, coded_list, coded_option, coded_ℕ}
use Rattle.c_typing.specs.Plain.{Plain, Char, Int, Unsigned, Void, Pointer, Array, Struct}

-- a pointer, or the bound of an array
abbrev pub around : Plain → List (Option ℕ)
around (Pointer t) = None ∷ around t
around (Array t n) = Some n ∷ around t
around t = []

abbrev pub inmost : Plain → ℕ
inmost Char = 0
inmost Int = 1
inmost Unsigned = 2
inmost Void = 3
inmost (Pointer t) = inmost t
inmost (Array t n) = inmost t
inmost (Struct n) = suc (suc (suc (suc n)))

abbrev pub within : ℕ → Plain
within zero = Char
within (suc zero) = Int
within (suc (suc zero)) = Unsigned
within (suc (suc (suc zero))) = Void
within (suc (suc (suc (suc n)))) = Struct n

abbrev pub put_around : List (Option ℕ) → Plain → Plain
put_around [] t = t
put_around (None ∷ ps) t = Pointer (put_around ps t)
put_around (Some n ∷ ps) t = Array (put_around ps t) n

pub put_around-around : (t : Plain) → put_around (around t) (within (inmost t)) ≡ t
put_around-around Char = refl
put_around-around Int = refl
put_around-around Unsigned = refl
put_around-around Void = refl
put_around-around (Pointer t) = ap Pointer (put_around-around t)
put_around-around (Array t n) = ap (λ u. Array u n) (put_around-around t)
put_around-around (Struct n) = refl

abbrev pub plain_coded : Coded Plain
plain_coded = code_by (List (Option ℕ) × ℕ) (coded× (coded_list (coded_option coded_ℕ)) coded_ℕ) (λ t. (around t, inmost t)) (λ p. put_around p.0 (within p.1)) put_around-around
