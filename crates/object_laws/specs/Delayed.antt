-- Control transfers behind which a delay slot comes (the SPARC V8 manual, 5.1.2.2 and B.21 to B.26), of the instructions of this profile.
use Rattle.std.specs.Prelude.{Bool, true, false}
use Rattle.sparc_isa.specs.declared.insn.Insn.{Insn}
use Rattle.sparc_isa.specs.declared.insn.Insn.TheVariants.{Call, Bicc, Jmpl}

abbrev pub is_delayed : Insn → Bool
is_delayed (Call displacement) = true
is_delayed (Bicc annul condition displacement) = true
is_delayed (Jmpl rd rs1 operand) = true
is_delayed _ = false
