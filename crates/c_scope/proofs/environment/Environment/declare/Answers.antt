use Rattle.std.proofs.Common.{ap, ◌∙◌}
use Rattle.c_scope.specs.Here.{meaning_of}
use Rattle.c_scope.specs.Table.{with_name}
use Rattle.c_scope.proofs.Rowing.{ok_then, declare_is}
use Rattle.c_scope.proofs.environment.Environment.declare.Goals as goal

pub returns-clause-ok : goal.returns-clause-ok
returns-clause-ok c =
    let s = c.symbol-symbol.result.0 in
    let ps = c.symbol-symbol.result.1 in
    ok_then c.declare.result
    (λ e. declare_is c.args.self.now c.declare.new.self c.args.name.now s ps c.innermost.result (meaning_of c.args.meaning) c.args.local c.declare.ensures.aligned c.declare.ensures.inside
    (c.symbol-symbol.ensures.name ∙ (c.in_ok-text.ensures ∙ c.as_bytes.ensures)) c.symbol-symbol.ensures.meaning c.innermost.ensures
    (e ∙ ap (λ n. with_name c.args.self.now.table n s ps (record { up = c.innermost.result; unit = c.args.self.now.unit; local = c.args.local })) c.as_bytes-2.ensures))
    c.declare.ensures.ok
