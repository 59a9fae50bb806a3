-- Objects are read from a text, a token at a time.
use Rattle.std.specs.Prelude.{ℕ, ◌+◌, ◌-◌, zero, suc, Bool, true, false, nat_le, nat_lt, if◌then◌else◌, Option, Some, None, Result, Ok, Err, List, [], ◌∷◌, length, take, drop, reverse}
use Rattle.ps_scan.specs.declared.token.PsKind.TheVariants.{Integer, Name as Word, LiteralName, Str as Text, Open, Close}
use Rattle.ps_scan.specs.declared.token.PsToken.{PsToken}
use Rattle.ps_scan.specs.Number.{value_of}
use Rattle.ps_scan.specs.Characters.{string_value}
use Rattle.ps_scan.specs.Token.{next_token_of}
use Rattle.ps_store.specs.declared.object.PsObj.{PsObj}
use Rattle.ps_store.specs.declared.object.PsObj.TheVariants.{Int, Name, Str, Array, Mark}
use Rattle.ps_store.specs.StoreState.{StoreState}
use Rattle.ps_store.specs.Store.{making_string, making_name, making_array, bytes_of}
use Rattle.ps_store.specs.declared.object.StringId.{StringId}
use Rattle.ps_step.specs.declared.fault.PsError.{PsError}
use Rattle.ps_step.specs.declared.fault.PsError.TheVariants.{SyntaxError, LimitCheck}
use Rattle.ps_step.specs.Marks.{mark_from}
use Rattle.ps_step.specs.Results.{◌>>=◌, stored}

-- the bytes of a token
abbrev pub word_of : List ℕ → PsToken → List ℕ
word_of text token = take (token.to - token.from) (drop token.from text)

-- an object and the store after it is made
abbrev pub MadeObject : Type 0
MadeObject = Result (PsObj × StoreState) PsError

-- the characters of a name, at most 127
abbrev pub name_text : List ℕ → Option (List ℕ)
name_text word = if nat_le (length word) 127 then Some word else None

-- a name of these characters
abbrev pub naming_text : StoreState → Option (List ℕ) → Bool → MadeObject
naming_text s None x = Err LimitCheck
naming_text s (Some word) x = stored (making_name s word) >>= λ given. Ok (Name given.0 x, given.1)

-- the object of a token that is no brace
abbrev pub object_of : StoreState → List ℕ → PsToken → MadeObject
object_of s text token = elim token.kind [
  | Integer ↦ elim (value_of (word_of text token)) [ Some n ↦ Ok (Int n, s) | None ↦ Err SyntaxError ]
  | Word ↦ naming_text s (name_text (word_of text token)) true
  | LiteralName ↦ naming_text s (name_text (drop 1 (word_of text token))) false
  | Text ↦ stored (making_string s (string_value (word_of text token))) >>= λ given. Ok (Str given.0 false, given.1)
  | Open ↦ Err SyntaxError
  | Close ↦ Err SyntaxError
]

-- a procedure of the topmost objects
abbrev pub procedure_of_top : StoreState → List PsObj → ℕ → MadeObject
procedure_of_top s xs n = stored (making_array s (reverse (take n xs))) >>= λ given. Ok (Array given.0 true, given.1)

-- How reading stands: it goes on with the objects of open procedures, each above a mark, or it ends in an object
-- and the place behind it, in nothing, or in an error.
pub data Read : Type 0 where
  More : (s : StoreState) (xs : List PsObj) (at : ℕ) → Read
  Whole : (x : PsObj) (s : StoreState) (at : ℕ) → Read
  Nothing : (s : StoreState) → Read
  Bad : (e : PsError) (s : StoreState) → Read

-- an object was made: outside of procedures it is whole
abbrev pub placed : List PsObj → ℕ → StoreState → MadeObject → Read
placed xs at s (Err e) = Bad e s
placed [] at s (Ok made) = Whole made.0 made.1 at
placed (y ∷ ys) at s (Ok made) = More made.1 (made.0 ∷ y ∷ ys) at

-- a brace closes the innermost procedure
abbrev pub closed : List PsObj → ℕ → StoreState → Read
closed xs at s = elim (mark_from 0 xs) [ None ↦ Bad SyntaxError s | Some n ↦ placed (drop (n + 1) xs) at s (procedure_of_top s xs n) ]

-- a token was read
abbrev pub read_token : StoreState → List ℕ → List PsObj → PsToken → Read
read_token s text xs token = elim token.kind [
  | Open ↦ More s (Mark ∷ xs) token.to
  | Close ↦ closed xs token.to s
  | Integer ↦ placed xs token.to s (object_of s text token)
  | Word ↦ placed xs token.to s (object_of s text token)
  | LiteralName ↦ placed xs token.to s (object_of s text token)
  | Text ↦ placed xs token.to s (object_of s text token)
]

-- the text is at its end: no procedure may be open
abbrev pub ended : StoreState → List PsObj → Read
ended s [] = Nothing s
ended s (x ∷ xs) = Bad SyntaxError s

-- the next token is read
abbrev pub reading : StoreState → StringId → List PsObj → ℕ → Read
reading s t xs at =
    if nat_lt (length (bytes_of s t)) at then Bad SyntaxError s
    else elim (next_token_of (bytes_of s t) at) [
      | Err e ↦ Bad SyntaxError s
      | Ok token ↦ elim token [ None ↦ ended s xs | Some token ↦ read_token s (bytes_of s t) xs token ]
    ]

-- an object is read, with at most `n` tokens
abbrev pub reading_all : ℕ → StoreState → StringId → List PsObj → ℕ → Read
reading_all zero s t xs at = Bad SyntaxError s
reading_all (suc n) s t xs at = elim (reading s t xs at) [
  | More s' xs' at' ↦ reading_all n s' t xs' at'
  | Whole x s' at' ↦ Whole x s' at'
  | Nothing s' ↦ Nothing s'
  | Bad e s' ↦ Bad e s'
]

-- an object is read from a place on
abbrev pub reading_object : StoreState → StringId → ℕ → Read
reading_object s t at = reading_all (length (bytes_of s t) + 1) s t [] at
