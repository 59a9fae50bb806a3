use Rattle.std.proofs.Common.{sym, subst}
use Rattle.ps_bare.specs.Bare.{ActsBare}
use Rattle.ps_bare.proofs.Acting.{dropped_chars, chars_bare}
use Rattle.ps_bare.proofs.texts.put_characters.Goals as goal

pub returns-clause-acts : goal.returns-clause-acts
returns-clause-acts c =
    let cell = c.args.memory.now.cell in
    let core = c.args.core.now in
    subst (λ r. ActsBare 31 cell core r c.put_chars.new.memory.cell c.put_chars.new.core) (sym c.quiet.ensures)
    (dropped_chars 31 cell c.put_chars.new.memory.cell core c.put_chars.new.core c.put_chars.result c.new-out.result c.put_chars.new.out (chars_bare cell core) c.new-out.ensures c.put_chars.ensures.does)
