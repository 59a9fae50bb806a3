-- What a call writes to the transcript.
use Rattle.std.specs.Prelude.{◌≡◌, ℕ, List, ◌++◌, drop, codes, Option, None, Some, unwrap_or, IfSome}
use Rattle.cc_call.specs.Lines.{name_in}
use Rattle.ldb_make.specs.Words.{words}
use Rattle.ldb_make.specs.Program.{program_text}
use Rattle.ldb_make.specs.Commands.{commands_text}
use Rattle.ldb_top.specs.declared.words.Request.{Request}
use Rattle.ldb_top.specs.declared.words.Request.TheVariants as request
use Rattle.ldb_top.specs.Words.{Form, number_of, Debug, Go, Make}
use Rattle.ldb_top.specs.Names.{names_of, names_in_debug, names_in_go}

-- some bytes have these in front
pub record IsFront (front bytes : List ℕ) : Type 0 where
  pub rest : List ℕ
  pub is : bytes ≡ front ++ rest

-- what was taken has these bytes in front, where it is told
abbrev pub BeginsWith : List ℕ → Option (List ℕ) → Type 0
BeginsWith front taken = IfSome taken (IsFront front)

-- the generated program of a number and its commands, with a line between them
abbrev pub generated : ℕ → List ℕ
generated number = (program_text (words number) ++ codes "----\n") ++ commands_text (words number)

-- the number of the words `make N`
abbrev pub number_in : List (List ℕ) → ℕ
number_in asked = unwrap_or (number_of (name_in (drop 1 asked) 0)) 0

-- what words of a form print that reads no file, and those without a form, where it is defined
abbrev pub printed : Option Form → (asked : List (List ℕ)) → Option (List ℕ)
printed None asked = Some (codes "words\n")
printed (Some Make) asked = Some (generated (number_in asked))
printed (Some form) asked = None

-- the names and numbers of a request are those of the words behind the first
abbrev pub IsNamed : List (List ℕ) → Request → Type 0
IsNamed words (request.Debug r) = names_in_debug r ≡ names_of Debug words
IsNamed words (request.Go r) = names_in_go r ≡ names_of Go words
IsNamed words (request.Make n) = number_of (name_in words 0) ≡ Some n
IsNamed words (request.Own n) = number_of (name_in words 0) ≡ Some n
