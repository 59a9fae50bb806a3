use Rattle.std.proofs.Common.{◌≡◌, ◌∙◌, sym, ap, subst, refl, ℕ, List, Option, Result}
use Rattle.nub_wire.specs.declared.message.Msg.TheVariants as msg
use Rattle.nub_wire.specs.Calls.{took_on, gave_on}
use Rattle.frame_bytes.specs.declared.frame.Space.{Space}
use Rattle.frame_bytes.specs.Bytes.{fetched, stored}
use Rattle.abs_mem.specs.Meaning.{Led}
use Rattle.abs_mem.specs.WireMeaning.{WireLeads, Exchanges, fetched_by, wire_stays}
use Rattle.abs_mem.specs.declared.memory.MemFault.{MemFault}
use Rattle.abs_mem.proofs.Nothing.{register_none, register_kept, immediate_none, immediate_kept}
use Rattle.abs_mem.proofs.Wires.{fetches_here, wire_no_fetch, led_fetch, led_by, ends_of}
use Rattle.abs_mem.proofs.wire.WireAbsMem.fetch.Goals as goal

pub returns-in-Memory-clause-meaning : goal.returns-in-Memory-clause-meaning
returns-in-Memory-clause-meaning g c =
    fetches_here g.L.Link.conduct (c.answers_at_rest.ensures.fetch g.L.Link.conduct) (g.L.Link.world c.args.self.now.link) (g.L.Link.world c.ask-asked.new.link) (g.L.Link.faults c.args.self.now.link) (g.L.Link.faults c.ask-asked.new.link)
    c.args.self.now.side c.args.self.now.order c.args.place c.args.kind c.size_of-size.result c.ask-asked.result c.fetched_by.result c.in-Memory.is c.fits_word.ensures c.size_of-size.ensures
    c.ask-asked.ensures.cause (ends_of (took_on g.L.Link.took c.args.self.now.side) (gave_on g.L.Link.gave c.args.self.now.side) (msg.Fetch c.args.place.at c.size_of-size.result) c.args.self.now.link c.ask-asked.new.link c.ask-asked.result c.ask-asked.ensures.calls) c.ask-asked.ensures.told c.fetched_by.ensures

pub returns-in-Memory-clause-calls : goal.returns-in-Memory-clause-calls
returns-in-Memory-clause-calls g c =
    let took = took_on g.L.Link.took c.args.self.now.side in
    let gave = gave_on g.L.Link.gave c.args.self.now.side in
    let h = led_fetch took gave (msg.Fetch c.args.place.at c.size_of-size.result) c.args.place c.args.self.now.link c.ask-asked.new.link c.ask-asked.result c.ask-asked.ensures.calls in
    let k = subst (λ (x : Result ℕ MemFault). Led (Exchanges took gave) c.args.self.now.link x c.ask-asked.new.link) (sym c.fetched_by.ensures) h in
    led_by g.L.Link.took g.L.Link.gave (λ w. w.link) (λ w. w.side) c.args.self.now (record { link = c.ask-asked.new.link; side = c.args.self.now.side; order = c.args.self.now.order }) c.fetched_by.result refl k

pub returns-in-Registers-clause-meaning : goal.returns-in-Registers-clause-meaning
returns-in-Registers-clause-meaning g c =
    wire_no_fetch g.L.Link.conduct (g.L.Link.world c.args.self.now.link) (g.L.Link.faults c.args.self.now.link) c.args.self.now.side c.args.self.now.order c.args.place c.args.kind
    (λ b e f. ap (λ (x : Space). fetched b x c.args.place.at c.args.kind) c.in-Registers.is ∙ register_none b c.args.place.at c.args.kind e)

pub returns-in-Registers-clause-calls : goal.returns-in-Registers-clause-calls
returns-in-Registers-clause-calls g c = wire_stays g.L.Link.took g.L.Link.gave c.args.self.now.link c.args.self.now.side

pub returns-in-Immediate-clause-meaning : goal.returns-in-Immediate-clause-meaning
returns-in-Immediate-clause-meaning g c =
    wire_no_fetch g.L.Link.conduct (g.L.Link.world c.args.self.now.link) (g.L.Link.faults c.args.self.now.link) c.args.self.now.side c.args.self.now.order c.args.place c.args.kind
    (λ b e f. ap (λ (x : Space). fetched b x c.args.place.at c.args.kind) c.in-Immediate.is ∙ immediate_none b c.args.place.at c.args.kind f)

pub returns-in-Immediate-clause-calls : goal.returns-in-Immediate-clause-calls
returns-in-Immediate-clause-calls g c = wire_stays g.L.Link.took g.L.Link.gave c.args.self.now.link c.args.self.now.side
