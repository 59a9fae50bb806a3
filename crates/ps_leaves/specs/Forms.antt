-- The forms of pointers.
use Rattle.std.specs.Prelude.{ℕ, zero, suc, ◌+◌, ◌/◌, ◌%◌, nat_lt, if◌then◌else◌, List, [], ◌∷◌, ◌++◌, codes, decimal, Option, Some, None, Result, Ok}
use Rattle.ps_store.specs.StoreState.{StoreState}
use Rattle.ps_store.specs.Store.{bytes_of}
use Rattle.ps_step.specs.declared.fault.PsError.{PsError}
use Rattle.ps_step.specs.declared.machine.PsCore.{PsCore}
use Rattle.ps_step.specs.Results.{◌>>=◌}
use Rattle.ps_places.specs.Places.{top_word}
use Rattle.table_model.specs.declared.found.Found.{Found}

-- hexadecimal digits in lower case
abbrev pub hex_digit : ℕ → ℕ
hex_digit n = if nat_lt n 10 then 48 + n else 87 + n

abbrev pub hex_text : (digits : ℕ) → ℕ → List ℕ
hex_text zero n = []
hex_text (suc k) n = hex_text k (n / 16) ++ hex_digit (n % 16) ∷ []

-- `0`, `&label+offset`, for a local `&label@activation+offset`, and for an address in no object `?` and eight digits
abbrev pub activation_text : Option ℕ → List ℕ
activation_text None = []
activation_text (Some n) = codes "@" ++ decimal n

abbrev pub pointer_text : StoreState → ℕ → Option Found → List ℕ
pointer_text s zero found = codes "0"
pointer_text s (suc p) None = codes "?" ++ hex_text 8 (suc p)
pointer_text s (suc p) (Some o) = codes "&" ++ (bytes_of s o.label ++ (activation_text o.activation ++ (codes "+" ++ decimal o.at)))

-- `p PutPointer`
abbrev pub pointer_text_of : Option Found → PsCore → Result (List ℕ) PsError
pointer_text_of found c = top_word c >>= λ p. Ok (pointer_text c.store p found)
