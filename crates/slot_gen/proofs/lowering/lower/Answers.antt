use Rattle.std.proofs.Common.{ap, ◌∙◌}
use Rattle.c_source.specs.Begin.{main_from}
use Rattle.slot_gen.specs.Rows.{IsFunctionOf, IsObjectOf, IsStructOf}
use Rattle.slot_gen.proofs.Pairs.{each_along}
use Rattle.slot_gen.proofs.Codes.{code_made}
use Rattle.slot_gen.proofs.Starting.{same_world}
use Rattle.slot_gen.proofs.Whole.{lowers}
use Rattle.slot_gen.proofs.lowering.lower.Goals as goal

made : goal.returns-clause-rows
made c =
    let p = c.args.program.now in
    record {
      functions = each_along (IsFunctionOf p) c.as_slice.result.now p.functions c.in_ok-functions.functions c.as_slice.ensures c.in_ok-functions.ensures;
      structs = each_along (IsStructOf p) c.as_slice-5.result.now p.defs c.in_ok-structs.structs c.as_slice-5.ensures c.in_ok-structs.ensures;
      objects = each_along (IsObjectOf p) c.as_slice-3.result.now p.objects c.in_ok-objects.objects c.as_slice-3.ensures c.in_ok-objects.ensures;
      strings = c.in_ok-strings.ensures ∙ c.as_slice-4.ensures;
      main = c.in_ok-main.ensures ∙ ap (main_from 0) c.as_slice-2.ensures;
    }

pub returns-clause-rows : goal.returns-clause-rows
returns-clause-rows c = made c

pub returns-clause-runs : goal.returns-clause-runs
returns-clause-runs c =
    let p = c.args.program.now in
    lowers p _ (code_made p _ (made c) (same_world p _ (made c) c.requires.fitting)) c.requires.main
