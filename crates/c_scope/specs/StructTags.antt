-- The texts of tags.
use Rattle.std.specs.Prelude.{ℕ, List}
use denote.Ref.{Bor}

abbrev pub text : Bor (List ℕ) → List ℕ
text t = t.now
