use Rattle.std.proofs.Common.{◌≡◌, ◌++◌, drop}
use Rattle.ps_text.specs.Code.{render}
use Rattle.ps_emit.specs.Types.{tags_code}
use Rattle.ps_emit.proofs.types.add_tags.Given as goal

abbrev pub invariant-loop-def : goal.invariant-loop-def
invariant-loop-def l = l.text ++ render (tags_code l.s (drop l.def-index l.defs)) ≡ l.initial.text ++ render (tags_code 0 l.defs)
