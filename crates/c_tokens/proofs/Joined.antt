-- Joining string literals makes no more of them.
use Rattle.std.proofs.Common.{ℕ, suc, ◌≤◌, Bool, true, false, List, [], ◌∷◌, length, map, arith}
use Rattle.std.proofs.lemmas.List.{length-map}
use Rattle.std.specs.Prelude.{if◌then◌else◌, ◌&&◌}
use Rattle.c_lex.specs.declared.token.Token.{Token}
use Rattle.c_symbol.specs.declared.terminal.Terminal.{Terminal}
use Rattle.c_symbol.specs.Terminals.{terminal_of, is_text, merged, join, joined, terminals}

join_few : (t : Terminal) (us : List Terminal) → length (join t us) ≤ suc (length us)
join_few t [] = omega arith
join_few t (u ∷ us) = by (is_text t.symbol && is_text u.symbol)
  where
    by : (b : Bool) → length (if b then merged t u ∷ us else t ∷ u ∷ us) ≤ suc (length (u ∷ us))
    by true = omega arith
    by false = omega arith

joined_few : (ts : List Terminal) → length (joined ts) ≤ length ts
joined_few [] = omega arith
joined_few (t ∷ ts) = omega (arith, join_few t (joined ts), joined_few ts)

pub terminals_few : (text : List ℕ) (ts : List Token) → length (terminals text ts) ≤ length ts
terminals_few text ts = omega (arith, joined_few (map (terminal_of text) ts), length-map ts (terminal_of text))
