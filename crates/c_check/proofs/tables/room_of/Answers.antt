use Rattle.std.proofs.Common.{ℕ, subst}
use Rattle.c_judge.specs.Parts.{IsWithinSize}
use Rattle.c_check.proofs.FilledTables.{room_same}
use Rattle.c_check.proofs.tables.room_of.Goals as goal

pub returns : goal.returns
returns c = λ n q os bs st f.
    subst (λ (m : ℕ). IsWithinSize m c.room.result)
    (room_same n c.args.state.now q os bs c.args.types.now c.as_slice-defs.result.now c.as_slice-strings.result.now st f c.as_slice-defs.ensures.value c.as_slice-strings.ensures.value) c.room.ensures
