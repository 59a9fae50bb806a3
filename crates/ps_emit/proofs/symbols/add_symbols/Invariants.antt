use Rattle.std.proofs.Common.{◌≡◌, ◌++◌, ◌-◌, length, drop}
use Rattle.ps_text.specs.Code.{render}
use Rattle.ps_emit.specs.Places.{homes}
use Rattle.ps_emit.specs.Symbols.{symbols_code}
use Rattle.ps_emit.proofs.symbols.add_symbols.Given as goal

abbrev pub invariant-loop-i : goal.invariant-loop-i
invariant-loop-i l = l.text ≡ l.initial.text ++ render (symbols_code l.scene.functions.now (homes l.scene.places.now l.scene.locals.now) l.scene.program.now.symbols (drop (length l.chain - l.i) l.chain))
