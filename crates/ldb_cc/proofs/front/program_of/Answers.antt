use Rattle.std.proofs.Common.{◌∙◌, List, map, length, ap, sym, subst}
use Rattle.c_trees.specs.declared.unit.Unit.{Unit as UnitTree}
use Rattle.c_linkage.specs.FileTags.{externals_of}
use Rattle.ldb_cc.specs.Sources.{IsTree, AreFiles}
use Rattle.ldb_cc.specs.Scanning.{items_of}
use Rattle.ldb_cc.proofs.Parsed.{length_beside}
use Rattle.ldb_cc.proofs.Refused.{refused}
use Rattle.ldb_cc.proofs.front.program_of.Goals as goal

pub check_program-requires : goal.check_program-requires
check_program-requires c =
    c.requires ∙ (length_beside items_of externals_of IsTree c.args.texts.now c.in_ok-units.units.items c.in_ok-units.ensures.trees ∙ ap (λ (us : List UnitTree). length us) (sym c.deref-2.ensures.value))

pub returns-in-Ok : goal.returns-in-Ok
returns-in-Ok c =
    let files = subst (λ (us : List UnitTree). AreFiles (map items_of c.args.texts.now) (map externals_of us)) (sym c.deref-2.ensures.value) c.in_ok-units.ensures in
    (map externals_of c.deref-2.result.now, files, c.in-Ok.ensures)

pub returns : goal.returns
returns c =
    let files = subst (λ (us : List UnitTree). AreFiles (map items_of c.args.texts.now) (map externals_of us)) (sym c.deref-2.ensures.value) c.in_ok-units.ensures in
    refused c.args.names.now (map items_of c.args.texts.now) (map externals_of c.deref-2.result.now) c.in-Err.fault c.refusal.result files c.in-Err.ensures c.refusal.ensures
