-- What is read.
use Rattle.std.specs.Prelude.{Result, Ok, Err}

-- what was read, seen in a way
abbrev pub in_ok : {A B E : Type 0} → (A → B) → Result A E → Result B E
in_ok f (Ok x) = Ok (f x)
in_ok f (Err e) = Err e
