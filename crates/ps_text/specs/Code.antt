-- Texts as terms.
use Prim.Native.String.{String}
use Rattle.std.specs.Prelude.{ℕ, ℤ, List, [], ◌∷◌, ◌++◌, codes}
use Rattle.std.specs.Fmt.{signed_decimal}
use Rattle.ps_scan.specs.Escaping.{escaped}

-- A sequence of objects as they are written: integers, names, strings and procedures.
pub data Code : Type 0 where
  Stop : Code
  Num : (n : ℤ) (rest : Code) → Code
  Word : (name : List ℕ) (rest : Code) → Code
  Lit : (name : List ℕ) (rest : Code) → Code
  Text : (bytes : List ℕ) (rest : Code) → Code
  Proc : (body : Code) (rest : Code) → Code

-- each object's text, and a space behind it
abbrev pub render : Code → List ℕ
render Stop = []
render (Num n rest) = signed_decimal n ++ 32 ∷ render rest
render (Word name rest) = name ++ 32 ∷ render rest
render (Lit name rest) = 47 ∷ (name ++ 32 ∷ render rest)
render (Text bytes rest) = 40 ∷ (escaped bytes ++ 41 ∷ 32 ∷ render rest)
render (Proc body rest) = 123 ∷ 32 ∷ (render body ++ 125 ∷ 32 ∷ render rest)

-- ---- how code is written

infixr 4 ◌▸◌
abbrev pub ◌▸◌ : (Code → Code) → Code → Code
f ▸ rest = f rest

abbrev pub n : ℤ → Code → Code
n i rest = Num i rest

abbrev pub w : String → Code → Code
w name rest = Word (codes name) rest

abbrev pub l : String → Code → Code
l name rest = Lit (codes name) rest

abbrev pub t : String → Code → Code
t bytes rest = Text (codes bytes) rest

abbrev pub p : Code → Code → Code
p body rest = Proc body rest
