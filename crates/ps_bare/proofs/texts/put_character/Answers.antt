use Rattle.ps_append.specs.Appending.{char_text_of}
use Rattle.ps_bare.specs.Bare.{bare}
use Rattle.ps_bare.proofs.Acts.{acts_29}
use Rattle.ps_bare.proofs.Acting.{dropped_text}
use Rattle.ps_bare.proofs.texts.put_character.Goals as goal

pub returns-clause-acts : goal.returns-clause-acts
returns-clause-acts c =
    let core = c.args.core.now in
    λ cell. dropped_text 29 cell core c.put_char.new.core c.put_char.result 1 (char_text_of core) c.new-out.result c.put_char.new.out (acts_29 (bare cell) core) c.new-out.ensures c.put_char.ensures.does
