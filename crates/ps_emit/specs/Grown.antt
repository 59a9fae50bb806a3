-- A text that grew by the text of a term.
use Rattle.std.specs.Prelude.{◌≡◌, ℕ, List, ◌++◌}
use Rattle.ps_text.specs.Code.{Code, render}

pub record Grows (k : Code) (before after : List ℕ) : Type 0 where
  pub text : after ≡ before ++ render k
