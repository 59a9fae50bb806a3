-- The calls of an object, of which those with listed numbers fail.
use Rattle.std.specs.Prelude.{◌↔◌, ℕ, ◌+◌, ◌-◌, ◌^◌, ◌<◌, min, Bool, IsTrue, Option, IfSome, nat_eq}
use Rattle.std.specs.Global.{Vec}
use Rattle.std.specs.List.{list_any}
use Rattle.ldb_edge.specs.declared.calls.Calls.{Calls}

-- no call was made yet, and these fail
abbrev pub no_calls : Vec ℕ → Calls
no_calls fails = record { fails = fails; made = 0 }

-- whether the next call fails
abbrev pub is_failing : Calls → Bool
is_failing calls = list_any (λ number. nat_eq number calls.made) calls.fails.items

-- after one more call
abbrev pub next_call : Calls → Calls
next_call calls = record calls { made = min (calls.made + 1) (2 ^ 64 - 1) }

-- A call failed exactly where its number is listed.
abbrev pub FailsAsListed : Option Calls → Type 0 → Type 0
FailsAsListed calls failed = IfSome calls (λ c. failed ↔ IsTrue (is_failing c))

-- A call failed where its number is listed. It may also fail for want of memory.
abbrev pub FailsIfListed : Option Calls → Type 0 → Type 0
FailsIfListed calls failed = IfSome calls (λ c. IsTrue (is_failing c) → failed)

-- An object that tells its calls takes some bytes of each piece that has any.
abbrev pub TakesSome : Option Calls → ℕ → ℕ → Type 0
TakesSome calls n size = IfSome calls (λ c. 0 < size → 0 < n)
