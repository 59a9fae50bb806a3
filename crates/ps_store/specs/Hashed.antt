-- The hash that is kept beside a text. One that is longer than a name may be has none.
use Rattle.std.specs.Prelude.{ℕ, List, length, nat_le, if◌then◌else◌}
use Rattle.std.specs.Hash.FoldHasher.{initial, write, finish}

unfoldable pub text_hash : List ℕ → ℕ
text_hash text = if nat_le (length text) 127 then finish (write initial text) else 0
