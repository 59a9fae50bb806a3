use Rattle.std.proofs.Common.{◌≡◌, ◌++◌, drop}
use Rattle.ps_text.specs.Code.{render}
use Rattle.ps_emit.specs.Places.{strings_from}
use Rattle.ps_emit.proofs.places.add_literals.Given as goal

abbrev pub invariant-loop-string : goal.invariant-loop-string
invariant-loop-string l = l.text ++ render (strings_from l.k l.anchor (drop l.string-index l.strings)) ≡ l.initial.text ++ render (strings_from 0 l.first l.strings)
