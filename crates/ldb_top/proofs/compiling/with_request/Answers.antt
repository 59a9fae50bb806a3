use Rattle.ldb_top.proofs.Compiled.{answer_leaves}
use Rattle.cc_call.specs.Words.{seen}
use Rattle.ldb_top.proofs.compiling.with_request.Goals as goal

pub returns-in-Ok-Built-clause-compiles : goal.returns-in-Ok-Built-clause-compiles
returns-in-Ok-Built-clause-compiles g c = answer_leaves (seen c.args.request.now) _ _ _ _ _ _ c.in-Ok-Built.field-0-is c.in-Ok-Built.ensures.leaves

pub returns-in-Ok-Refused-clause-compiles : goal.returns-in-Ok-Refused-clause-compiles
returns-in-Ok-Refused-clause-compiles g c = answer_leaves (seen c.args.request.now) _ _ _ _ _ _ c.in-Ok-Refused.field-0-is c.in-Ok-Refused.ensures.leaves

pub returns-in-Ok-Missing-clause-compiles : goal.returns-in-Ok-Missing-clause-compiles
returns-in-Ok-Missing-clause-compiles g c = answer_leaves (seen c.args.request.now) _ _ _ _ _ _ c.in-Ok-Missing.field-0-is c.in-Ok-Missing.ensures.leaves
