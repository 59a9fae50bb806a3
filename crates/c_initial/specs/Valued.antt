-- What expressions give as initializers, by what is known of them.
use Rattle.std.specs.Prelude.{◌≡◌, ℕ, Bool, false, ◌==◌, List, [], ◌∷◌, ◌++◌, Option, Some, None, Result, Ok, Err}
use Rattle.c_trees.specs.Expressions.{Tree}
use Rattle.c_typing.specs.Plain.{Plain}
use Rattle.c_judge.specs.Places.{place_of}
use Rattle.c_typing.specs.declared.constant.Constant.{Constant}
use Rattle.c_typing.specs.declared.constant.Constant.TheVariants.{Number}
use Rattle.c_scope.specs.declared.refusal.Refusal.{Refusal}
use Rattle.c_scope.specs.Refused.{IsRefused}
use Rattle.c_scope.specs.Findings.{nothing, holds}
use Rattle.c_scope.specs.Environment.{Environment}
use Rattle.c_initial.specs.Initials.{Spot, text_of, fits}
use Rattle.c_initial.specs.Begins.{Begin, Bits, Text, spot_begin, characters}

abbrev pub is_zero : Constant → Bool
is_zero (Number n) = n == 0
is_zero _ = false

-- what a pointer holds, by the number that its initializer is, the string, and the place
abbrev pub pointer_begin : Environment → (string : ℕ) → Option ℕ → Option (List ℕ) → Option Spot → List Begin
pointer_begin v k (Some n) text s = Bits 0 ∷ []
pointer_begin v k None (Some text) s = Text k ∷ []
pointer_begin v k None None s = spot_begin v s

-- an array of so many items, whose initializer is an expression
abbrev pub IsArray : {A : Type 0} → Plain → ℕ → Tree → List Begin → List Begin → Result A Refusal → Type 0
IsArray t n e old new (Ok u) = (holds (fits t n (text_of e)) 13 (place_of e).at ≡ nothing) × (new ≡ old ++ characters n (text_of e))
IsArray t n e old new (Err why) = IsRefused (holds (fits t n (text_of e)) 13 (place_of e).at) why
