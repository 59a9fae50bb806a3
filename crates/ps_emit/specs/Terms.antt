-- Terms that are put together, and the pieces that tables are written with.
use Prim.Native.String.{String}
use Rattle.std.specs.Prelude.{ℕ, ℤ, List, ◌∷◌, codes, decimal}
use Rattle.ldb_words.specs.Word.{signed}
use Rattle.ps_text.specs.Code.{Code, Stop, Num, Word, Lit, Text, Proc}

-- the objects of one term, and then those of another
infixr 4 ◌⋯◌
abbrev pub ◌⋯◌ : Code → Code → Code
Stop ⋯ k = k
Num n rest ⋯ k = Num n (rest ⋯ k)
Word name rest ⋯ k = Word name (rest ⋯ k)
Lit name rest ⋯ k = Lit name (rest ⋯ k)
Text bytes rest ⋯ k = Text bytes (rest ⋯ k)
Proc body rest ⋯ k = Proc body (rest ⋯ k)

abbrev pub word : String → Code
word name = Word (codes name) Stop

abbrev pub name : String → Code
name text = Lit (codes text) Stop

abbrev pub string : List ℕ → Code
string bytes = Text bytes Stop

abbrev pub integer : ℤ → Code
integer n = Num n Stop

-- a word of 32 bits; the dialect's integers have a sign
abbrev pub number : ℕ → Code
number n = Num (signed n) Stop

-- an object of an array, by its place
abbrev pub item : String → ℕ → Code
item array n = word array ⋯ number n ⋯ word "get"

abbrev pub bracketed : Code → Code
bracketed items = word "[" ⋯ items ⋯ word "]"

-- what a word stands for from now on
abbrev pub defined : String → Code → Code
defined text value = name text ⋯ value ⋯ word "def"

-- the name of the address of a static object or a string, by its number: strings are numbered behind the objects
abbrev pub anchor_name : ℕ → List ℕ
anchor_name number = 97 ∷ decimal number
