-- Reading tokens as they come, where adjacent string literals are joined.
use Rattle.std.specs.Prelude.{List, [], ◌∷◌, Option, Some, None}
use Rattle.c_symbol.specs.declared.terminal.Terminal.{Terminal}
use Rattle.c_symbol.specs.Terminals.{pushed}
use Rattle.c_expr.specs.declared.state.Parser.{Parser}
use Rattle.c_expr.specs.Machine.{Next, shift}

-- one terminal more, where there is one
abbrev pub shift_some : Option Terminal → Parser → Next
shift_some None p = Some p
shift_some (Some t) p = shift p t

-- the terminals, of which `last` is kept back, are read one by one
abbrev pub feed : List Terminal → Option Terminal → Parser → Next
feed [] last p = shift_some last p
feed (t ∷ ts) last p = elim (shift_some (pushed last t).0 p) [ None ↦ None | Some q ↦ feed ts (pushed last t).1 q ]
