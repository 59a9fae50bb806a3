use Rattle.std.proofs.Common.{◌≡◌, subst}
use Rattle.ldb_words.specs.declared.kinds.Order.TheVariants.{Big}
use Rattle.machine_state.specs.declared.layout.TheConstants.{CONTEXT_WORDS}
use Rattle.machine_state.specs.Regions.{words_in}
use Rattle.machine_state.specs.State.{MachineState}
use Rattle.sparc_sim.proofs.Context.{restored_is}
use Rattle.sparc_sim.proofs.machine.Machine.restore.Goals as goal

pub returns : goal.returns
returns c =
    restored_is c.saved-words.result c.args.self.now c.set_registers.new.self c.set_special.new.self
    (subst (λ (m : MachineState). c.saved-words.result ≡ words_in Big CONTEXT_WORDS m.memory.context_bytes) c.self.view_is c.saved-words.ensures)
    c.set_registers.ensures
    c.set_special.ensures
