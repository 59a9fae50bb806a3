use Rattle.std.proofs.Common.{◌∙◌, sym, refl, map, length, subst, Err}
use Rattle.c_check.specs.declared.faults.CheckFault.{CheckFault}
use Rattle.c_check.specs.Faulty.{Checks}
use Rattle.c_linkage.specs.FileTags.{externals_of}
use Rattle.c_check.proofs.Checked.{arguments_told, files_told, stands_for, all_told}
use Rattle.c_check.proofs.program.check_program.Goals as goal

pub returns-then-any_file_many : goal.returns-then-any_file_many
returns-then-any_file_many c = arguments_told c.args.names.now (map externals_of c.args.units.now) (sym c.any_file_many.ensures ∙ c.if-any_file_many.true)

pub returns-in-Ok : goal.returns-in-Ok
returns-in-Ok c =
    let a = c.in-Ok.ensures in
    all_told c.args.names.now (map externals_of c.args.units.now) (length c.args.units.now) c.in-Ok.state a.0 c.finished.result (sym c.any_file_many.ensures ∙ c.if-any_file_many.false) a.1
    (stands_for c.args.units.now (length c.args.units.now) c.in-Ok.state a.0 refl a.2) c.finished.ensures

pub finished-requires : goal.finished-requires
finished-requires c =
    let a = c.in-Ok.ensures in
    (a.0, stands_for c.args.units.now (length c.args.units.now) c.in-Ok.state a.0 refl a.2)

pub returns-in-Err : goal.returns-in-Err
returns-in-Err c =
    subst (λ (e : CheckFault). Checks c.args.names.now (map externals_of c.args.units.now) (Err e)) (sym c.refused.ensures)
    (files_told c.args.names.now (map externals_of c.args.units.now) c.in-Err.f (sym c.any_file_many.ensures ∙ c.if-any_file_many.false) c.in-Err.ensures)
