use Rattle.session.proofs.Registering.{registers_count, registers_meant}
use Rattle.session.proofs.Looked.{registers_counts, registers_want}
use Rattle.session.proofs.asked.registers_of.Goals as goal

pub returns-clause-faults : goal.returns-clause-faults
returns-clause-faults g c = registers_count g.L.Link.conduct g.L.Link.world g.L.Link.faults c.args.side.now c.args.talk.now c.turn.new.talk c.registers.new.talk c.turn.ensures c.registers.result c.registers.ensures.meaning

pub returns-clause-meant : goal.returns-clause-meant
returns-clause-meant g c = λ b h beside a there stands.
    registers_meant g.L.Link.conduct g.L.Link.world g.L.Link.faults c.args.side.now c.args.talk.now c.turn.new.talk c.registers.new.talk c.turn.ensures b h beside a there stands c.registers.result c.registers.ensures.meaning

pub returns-clause-count : goal.returns-clause-count
returns-clause-count g c = registers_counts g.L.Link.conduct g.L.Link.world g.L.Link.faults c.args.side.now c.args.talk.now c.turn.new.talk c.registers.new.talk c.turn.ensures c.registers.result c.registers.ensures.meaning

pub returns-clause-wanting : goal.returns-clause-wanting
returns-clause-wanting g c = λ b h beside there is.
    registers_want g.L.Link.conduct g.L.Link.world g.L.Link.faults c.args.side.now c.args.talk.now c.turn.new.talk c.registers.new.talk c.turn.ensures b h beside c.registers.result is c.registers.ensures.meaning there
