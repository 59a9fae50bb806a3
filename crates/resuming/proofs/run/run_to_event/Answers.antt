use Rattle.std.proofs.Common.{◌≡◌, ◌∙◌, sym, ap, ℕ, ◌^◌, ◌<◌, Bool, true, false, List, refl, None, Option, Result, Ok, Err, OnOk, OnErr, MatchResult, arith}
use Rattle.std.specs.Result.{is_err}
use Rattle.ldb_edge.specs.Known.{known_and}
use Rattle.machine_state.specs.State.{Behaviour}
use Rattle.nub_wire.specs.declared.message.Msg.TheVariants as msg
use Rattle.nub_wire.specs.Nub.{Host}
use Rattle.nub_wire.specs.Calls.{took_on, gave_on}
use Rattle.wire_talk.specs.Resuming.{Resuming}
use Rattle.resuming.specs.Standing.{Stands}
use Rattle.resuming.proofs.Calling.{owes_first, owes_more, turns_stay}
use Rattle.resuming.proofs.Coming.{next_came, first_of_run, ends_told, goes_told, stops_told, fails_told}
use Rattle.resuming.proofs.run.run_to_event.Goals as goal

when_err : {A E : Type 0} (r : Result A E) (P : Type 0) → is_err r ≡ true → OnErr r P → P
when_err (Ok x) P e h = cc
when_err (Err f) P e h = h

when_ok : {A E : Type 0} (r : Result A E) (P : A → Type 0) (Q : E → Type 0) (R : Type 0) → is_err r ≡ false → ((x : A) → P x → R) → MatchResult r P Q → R
when_ok (Ok x) P Q R e k h = k x h
when_ok (Err f) P Q R e k h = cc

pub messages-init : goal.messages-init
messages-init g c =
    let small : c.args.turns < 2 ^ 32 = omega arith in
    record {
      turns = ap (λ (r : Resuming). r.turns) c.in-Ok.ensures.calls.0;
      calls = owes_first (took_on g.L.Link.took c.args.side) (gave_on g.L.Link.gave c.args.side) c.args.turns c.args.link.now c.begin.new.link c.in-Ok.resumption c.in-Ok.ensures.calls;
      told = λ (b : Behaviour) (h : Host) (beside : Option Host) (x : Stands b g.L.Link.conduct c.args.side (g.L.Link.world c.args.link.now) h beside) none.
          first_of_run b g.L.Link.conduct c.args.side c.args.turns (g.L.Link.world c.args.link.now) h beside x none small c.in-Ok.resumption (g.L.Link.world c.begin.new.link) (g.S.Sink.taken c.args.out.now)
          (ap (λ (r : Resuming). r.printed) c.in-Ok.ensures.calls.0) c.in-Ok.ensures.told;
      faults = c.in-Ok.ensures.cause;
      out_faults = refl;
      led = g.met.S.Sink.stays c.args.out.now;
    }

pub returns-in-Err-next-clause-told : goal.returns-in-Err-next-clause-told
returns-in-Err-next-clause-told g c =
    λ (b : Behaviour) (h : Host) (beside : Option Host) (x : Stands b g.L.Link.conduct c.args.side (g.L.Link.world c.args.link.now) h beside) none.
    let small : c.args.turns < 2 ^ 32 = omega arith in
    fails_told b g.L.Link.conduct c.args.side c.args.turns (g.L.Link.world c.args.link.now) h beside x none small c.messages.resumption c.next.new.self c.in-Err-next.fault (g.L.Link.world c.messages.link) (g.L.Link.world c.next.new.link)
    (g.S.Sink.taken c.args.out.now) (g.S.Sink.taken c.messages.out) c.messages.invariant.turns (c.messages.invariant.told b h beside x none) c.in-Err-next.ensures.told

pub returns-then-is_err-clause-told : goal.returns-then-is_err-clause-told
returns-then-is_err-clause-told g c =
    λ (b : Behaviour) (h : Host) (beside : Option Host) (x : Stands b g.L.Link.conduct c.args.side (g.L.Link.world c.args.link.now) h beside) none.
    let small : c.args.turns < 2 ^ 32 = omega arith in
    let came = next_came b g.L.Link.conduct c.args.side c.args.turns x.now x.world c.messages.resumption c.next.new.self c.in-Ok-next.message (g.L.Link.world c.messages.link) (g.L.Link.world c.next.new.link)
    (g.S.Sink.taken c.args.out.now) (g.S.Sink.taken c.messages.out) x.conduct c.messages.invariant.turns (c.messages.invariant.told b h beside x none) c.in-Ok-next.ensures.fits c.in-Ok-next.ensures.told in
    let front = when_err c.put.result _ (sym c.is_err.ensures.value ∙ c.if-is_err.true) c.put.ensures.err in
    stops_told b g.L.Link.conduct c.args.side c.args.turns (g.L.Link.world c.args.link.now) h beside x none small c.next.new.self.printed c.in-Ok-next.message c.as_slice.result.now (g.L.Link.world c.next.new.link)
    (g.S.Sink.taken c.args.out.now) (g.S.Sink.taken c.messages.out) (g.S.Sink.taken c.put.new.sink) (ap (λ (l : List ℕ). msg.Output l) c.as_slice.ensures.bytes ∙ c.in-Output.ensures) came front

pub messages-preserved : goal.messages-preserved
messages-preserved g c =
    let took = took_on g.L.Link.took c.args.side in
    let gave = gave_on g.L.Link.gave c.args.side in
    let small : c.args.turns < 2 ^ 32 = omega arith in
    let i = c.messages.invariant in
    let fine : is_err c.put.result ≡ false = sym c.is_err.ensures.value ∙ c.if-is_err.false in
    let put = when_ok c.put.result _ _ (g.S.Sink.taken c.put.new.sink ≡ known_and (g.S.Sink.taken c.messages.out) c.as_slice.result.now) fine (λ x p. p) c.put.ensures.ok in
    let still = when_ok c.put.result _ _ (g.S.Sink.faults c.put.new.sink ≡ g.S.Sink.faults c.messages.out) fine (λ x p. p) c.put.ensures.cause in
    record {
      turns = turns_stay took gave c.args.turns c.messages.link c.next.new.link c.messages.resumption c.next.new.self c.in-Ok-next.message c.in-Output.bytes i.turns (sym c.in-Output.ensures) c.in-Ok-next.ensures.calls;
      calls = owes_more took gave c.args.turns c.args.link.now c.messages.link c.next.new.link c.messages.resumption c.next.new.self c.in-Ok-next.message c.in-Output.bytes i.turns (sym c.in-Output.ensures)
          c.in-Ok-next.ensures.fits i.calls c.in-Ok-next.ensures.calls;
      told = λ (b : Behaviour) (h : Host) (beside : Option Host) (x : Stands b g.L.Link.conduct c.args.side (g.L.Link.world c.args.link.now) h beside) none.
          goes_told b g.L.Link.conduct c.args.side c.args.turns (g.L.Link.world c.args.link.now) h beside x none small c.next.new.self.printed c.in-Ok-next.message c.as_slice.result.now (g.L.Link.world c.next.new.link)
          (g.S.Sink.taken c.args.out.now) (g.S.Sink.taken c.messages.out) (g.S.Sink.taken c.put.new.sink) (ap (λ (l : List ℕ). msg.Output l) c.as_slice.ensures.bytes ∙ c.in-Output.ensures)
          (next_came b g.L.Link.conduct c.args.side c.args.turns x.now x.world c.messages.resumption c.next.new.self c.in-Ok-next.message (g.L.Link.world c.messages.link) (g.L.Link.world c.next.new.link)
          (g.S.Sink.taken c.args.out.now) (g.S.Sink.taken c.messages.out) x.conduct i.turns (i.told b h beside x none) c.in-Ok-next.ensures.fits c.in-Ok-next.ensures.told) put;
      faults = c.in-Ok-next.ensures.cause ∙ i.faults;
      out_faults = still ∙ i.out_faults;
      led = g.met.S.Sink.goes_on c.args.out.now c.messages.out c.put.new.sink i.led c.put.ensures.leads;
    }

pub returns-in-End-clause-told : goal.returns-in-End-clause-told
returns-in-End-clause-told g c =
    λ (b : Behaviour) (h : Host) (beside : Option Host) (x : Stands b g.L.Link.conduct c.args.side (g.L.Link.world c.args.link.now) h beside) none.
    let small : c.args.turns < 2 ^ 32 = omega arith in
    let came = next_came b g.L.Link.conduct c.args.side c.args.turns x.now x.world c.messages.resumption c.next.new.self c.in-Ok-next.message (g.L.Link.world c.messages.link) (g.L.Link.world c.next.new.link)
    (g.S.Sink.taken c.args.out.now) (g.S.Sink.taken c.messages.out) x.conduct c.messages.invariant.turns (c.messages.invariant.told b h beside x none) c.in-Ok-next.ensures.fits c.in-Ok-next.ensures.told in
    ends_told b g.L.Link.conduct c.args.side c.args.turns (g.L.Link.world c.args.link.now) h beside x none small c.next.new.self.printed c.in-Ok-next.message c.in-End.ending (g.L.Link.world c.next.new.link)
    (g.S.Sink.taken c.args.out.now) (g.S.Sink.taken c.messages.out) c.in-End.ensures came

-- ---- what the writes leave

pub returns-in-Err-clause-leads : goal.returns-in-Err-clause-leads
returns-in-Err-clause-leads g c = g.met.S.Sink.stays c.args.out.now

pub returns-then-is_err-clause-leads : goal.returns-then-is_err-clause-leads
returns-then-is_err-clause-leads g c = g.met.S.Sink.goes_on c.args.out.now c.messages.out c.put.new.sink c.messages.invariant.led c.put.ensures.leads
