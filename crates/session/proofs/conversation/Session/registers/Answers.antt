use Rattle.std.proofs.Common.{refl, sym, subst, Option}
use Rattle.side_meaning.specs.Sessions.{SidesStand}
use Rattle.session.specs.declared.sides.SideRecord.{SideRecord}
use Rattle.session.specs.Meant.{AreThere, sides_of}
use Rattle.session.proofs.Wanting.{first_there_still}
use Rattle.session.proofs.Regs.{none_meant, some_meant}
use Rattle.session.proofs.conversation.Session.registers.Goals as goal

pub returns-in-None-clause-meant : goal.returns-in-None-clause-meant
returns-in-None-clause-meant g c = λ b hs st there sides.
    none_meant b g.L.Link.conduct (g.L.Link.world c.args.self.now.talk.memory.below.below.below.link) (g.L.Link.world c.registers_of.new.talk.memory.below.below.below.link) (g.L.Link.faults c.args.self.now.talk.memory.below.below.below.link)
    (g.L.Link.faults c.registers_of.new.talk.memory.below.below.below.link) c.args.self.now.first hs st c.registers_of.result c.args.self.now.second c.in-None.is (c.registers_of.ensures.meant b) there sides

pub returns-in-Some-clause-meant : goal.returns-in-Some-clause-meant
returns-in-Some-clause-meant g c = λ b hs st there sides.
    some_meant b g.L.Link.conduct (g.L.Link.world c.args.self.now.talk.memory.below.below.below.link) (g.L.Link.world c.registers_both.new.talk.memory.below.below.below.link) (g.L.Link.faults c.args.self.now.talk.memory.below.below.below.link)
    (g.L.Link.faults c.registers_both.new.talk.memory.below.below.below.link) c.args.self.now.first hs st c.registers_both.result c.args.self.now.second c.in-Some.second c.in-Some.is (c.registers_both.ensures.meant b hs st) there sides

pub returns-in-None-clause-stays : goal.returns-in-None-clause-stays
returns-in-None-clause-stays g c = λ b hs st there sides is.
    first_there_still b g.L.Link.conduct (g.L.Link.world c.args.self.now.talk.memory.below.below.below.link) (g.L.Link.world c.registers_of.new.talk.memory.below.below.below.link) c.args.self.now.first c.args.self.now.first c.args.self.now.second hs refl there (c.registers_of.ensures.wanting b hs.first hs.second there.first_there is)

pub returns-in-Some-clause-stays : goal.returns-in-Some-clause-stays
returns-in-Some-clause-stays g c = λ b hs st there sides is.
    let now = c.args.self.now in
    subst (λ (s : Option SideRecord). AreThere b g.L.Link.conduct (g.L.Link.world c.registers_both.new.talk.memory.below.below.below.link) now.first s hs) (sym c.in-Some.is)
    (c.registers_both.ensures.wanting b hs st (subst (λ (s : Option SideRecord). AreThere b g.L.Link.conduct (g.L.Link.world now.talk.memory.below.below.below.link) now.first s hs) c.in-Some.is there) (subst (λ (s : Option SideRecord). SidesStand (sides_of now.first s hs) st) c.in-Some.is sides) is)
