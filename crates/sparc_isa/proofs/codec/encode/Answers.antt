use Rattle.sparc_isa.proofs.RoundTrip.{insn_of-word_of}
use Rattle.sparc_isa.proofs.codec.encode.Goals as goal

pub returns-clause-decodes : goal.returns-clause-decodes
returns-clause-decodes c = rw c.word.ensures.value (insn_of-word_of c.args.insn c.word.ensures.fit)
