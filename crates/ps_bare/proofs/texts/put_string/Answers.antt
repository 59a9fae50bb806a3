use Rattle.ps_append.specs.Appending.{string_text_of}
use Rattle.ps_bare.specs.Bare.{bare}
use Rattle.ps_bare.proofs.Acts.{acts_28}
use Rattle.ps_bare.proofs.Acting.{dropped_text}
use Rattle.ps_bare.proofs.texts.put_string.Goals as goal

pub returns-clause-acts : goal.returns-clause-acts
returns-clause-acts c =
    let core = c.args.core.now in
    λ cell. dropped_text 28 cell core c.put.new.core c.put.result 1 (string_text_of core) c.new-out.result c.put.new.out (acts_28 (bare cell) core) c.new-out.ensures c.put.ensures.does
