-- The text of an object, as `cvs` writes it.
use Rattle.std.specs.Prelude.{ℕ, codes, slice_get, map, if◌then◌else◌, List}
use Rattle.std.specs.Option.{unwrap_or}
use Rattle.std.specs.Fmt.{signed_decimal}
use Rattle.ps_store.specs.declared.operators.TheConstants.{OPERATOR_NAMES}
use Rattle.ps_store.specs.declared.object.PsObj.{PsObj}
use Rattle.ps_store.specs.declared.object.PsObj.TheVariants.{Int, Bool as Truth, Name, Str, Op}
use Rattle.ps_store.specs.StoreState.{StoreState}
use Rattle.ps_store.specs.Store.{bytes_of}

-- what is written for an object without a text
abbrev pub no_text : List ℕ
no_text = codes "--nostringval--"

-- the name of an operator
unfoldable pub operator_name : ℕ → List ℕ
operator_name n = unwrap_or (slice_get (map (λ name. name.now) OPERATOR_NAMES) n) no_text

-- the characters of strings and names, decimal digits, `true` and `false`, an operator's name
abbrev pub text_of : StoreState → PsObj → List ℕ
text_of s (Int n) = signed_decimal n
text_of s (Truth b) = if b then codes "true" else codes "false"
text_of s (Name t x) = bytes_of s t
text_of s (Str t x) = bytes_of s t
text_of s (Op n) = operator_name n
text_of s other = no_text
