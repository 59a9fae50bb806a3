use Rattle.std.proofs.Common.{◌∙◌}
use Rattle.c_rows.proofs.Filed.{file_more, none_more}
use Rattle.c_rows.specs.Units.{files_functions}
use Rattle.std.proofs.Common.{◌≡◌, List, [], subst, sym}
use Rattle.c_tree.specs.declared.rows.UnitRow.{UnitRow}
use Rattle.c_rows.proofs.units.files.Goals as goal

pub loop-name-preserved : goal.loop-name-preserved
loop-name-preserved c =
    let r : UnitRow = record { file = c.in_ok-file.file; functions = c.new.result } in
    record {
      files = file_more c.loop-name.units.items c.push.new.self.items r c.args.names.now c.loop-name.name-index c.name-item.result c.loop-name-test.true c.in_ok-push.ensures.items (c.in_ok-file.ensures ∙ c.as_bytes.ensures) c.name-item.is ∙ c.loop-name.invariant.files;
      functions = λ u. subst (λ (l : List UnitRow). files_functions l u ≡ []) (sym c.in_ok-push.ensures.items) (none_more c.loop-name.units.items r c.loop-name.invariant.functions c.new.ensures u);
    }
