-- Instructions that stand in the text.
use Rattle.std.specs.Prelude.{◌≡◌, Ok}
use Rattle.ldb_words.specs.declared.kinds.Order.TheVariants.{Big}
use Rattle.machine_state.specs.Regions.{fetch_of}
use Rattle.machine_state.specs.State.{MachineState}
use Rattle.sparc_isa.specs.declared.insn.Insn.{Insn}
use Rattle.sparc_isa.specs.Codec.{word_of}
use Rattle.sparc_isa.specs.Fit.{FieldsFit}

-- the machine is at this instruction
pub record IsAt (i : Insn) (m : MachineState) : Type 0 where
  pub fit : FieldsFit i
  pub word : fetch_of Big m.memory m.pc ≡ Ok (word_of i)
