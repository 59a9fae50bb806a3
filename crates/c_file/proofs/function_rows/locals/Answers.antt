use Rattle.std.proofs.Common.{◌≡◌, ◌++◌, [], drop, length, sym, ap, subst, arith}
use Rattle.std.proofs.lemmas.Grind.{common_steps}
use Rattle.c_file.specs.Made.{Each}
use Rattle.c_file.specs.Progress.{IsLocalOf}
use Rattle.c_file.proofs.Standings.{none_behind}
use Rattle.c_file.proofs.function_rows.locals.Goals as goal

pub returns : goal.returns
returns c =
    let d : drop c.loop-s.s-index c.args.symbols.now ≡ [] = grind (arith, common_steps) in
    subst (Each IsLocalOf c.args.symbols.now) (none_behind c.loop-s.found) (c.loop-s.invariant [] (subst (λ l. Each IsLocalOf l []) (sym d) tt))
