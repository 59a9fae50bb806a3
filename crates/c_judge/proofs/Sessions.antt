-- Scopes that find the same are the same.
use Rattle.std.proofs.Common.{◌≡◌, ℕ, Bool, List, Option}
use Rattle.c_typing.specs.Expressions as typing
use Rattle.c_judge.specs.Scope.{Scope}

pub scope_same : (a : typing.Scope) (f g : List ℕ → Option ℕ) (h k : List ℕ → ℕ) (l m : ℕ → ℕ) (b : Bool) → ((t : List ℕ) → f t ≡ g t) → ((t : List ℕ) → h t ≡ k t) → ((n : ℕ) → l n ≡ m n)
    → ◌≡◌ {A = Scope} (record { among = a; number = f; tag = h; literal = l; asks = b }) (record { among = a; number = g; tag = k; literal = m; asks = b })
scope_same a f g h k l m b p q r = λ i. record { among = a; number = λ t. p t i; tag = λ t. q t i; literal = λ n. r n i; asks = b }
