-- A side that is resumed: counts of faults, and calls.
use Rattle.std.proofs.Common.{◌≡◌, ◌∙◌, refl, subst, ℕ, List, Option, Some, None, Result, Ok, Err}
use Rattle.ldb_words.specs.declared.kinds.Order.{Order}
use Rattle.ldb_edge.specs.Count.{Rose}
use Rattle.machine_state.specs.Regions.{Regions}
use Rattle.nub_wire.specs.declared.message.Msg.TheVariants as msg
use Rattle.nub_wire.specs.declared.message.Ending.{Ending}
use Rattle.nub_wire.specs.declared.link.Side.{Side}
use Rattle.nub_wire.specs.Delivery.{Conduct, World}
use Rattle.nub_wire.specs.Calls.{BadReply, took_on, gave_on}
use Rattle.frame_bytes.specs.Bytes.{Bytes}
use Rattle.abs_mem.specs.WireMeaning.{WireLeads, Exchanges, none_more, badly, go_on, wire_seen}
use Rattle.abs_mem.proofs.Wires.{leads_by}
use Rattle.wire_talk.specs.declared.fault.TalkFault.{TalkFault}
use Rattle.wire_talk.specs.declared.fault.TalkFault.TheVariants as talk
use Rattle.wire_talk.specs.Talk.{CountsTalk}
use Rattle.resuming.specs.declared.fault.RunFault.{RunFault}
use Rattle.resuming.specs.declared.fault.RunFault.TheVariants as fault
use Rattle.resuming.specs.Runs.{CountsRun, RunsBy}
use Rattle.debug_side.specs.declared.event.Event.{Event}
use Rattle.debug_side.specs.Wrote.{Puts, LedTalk}
use Rattle.debug_side.specs.Ran.{Talked, asked, ran, SideCalled}

-- ---- counts

pub counts_talk : (A : Type 0) (link link' out : ℕ) (f : TalkFault) → CountsTalk {A = Unit {0}} link (Err f) link' → CountsRun {A = A} link link' out out (Err (fault.Talk f))
counts_talk A link link' out talk.LinkFault h = (h, refl)
counts_talk A link link' out (talk.BadReply frame) h = (h, refl)

pub counts_after : (A : Type 0) (a b c out out' : ℕ) (x : Result A RunFault) → b ≡ a → CountsRun b c out out' x → CountsRun a c out out' x
counts_after A a b c out out' x e h = subst (λ (n : ℕ). CountsRun {A = A} n c out out' x) e h

pub counts_other : (A B : Type 0) (a b out out' : ℕ) (f : RunFault) → CountsRun {A = A} a b out out' (Err f) → CountsRun {A = B} a b out out' (Err f)
counts_other A B a b out out' (fault.Talk talk.LinkFault) h = h
counts_other A B a b out out' (fault.Talk (talk.BadReply frame)) h = h
counts_other A B a b out out' fault.Output h = h

pub counts_then : (A B : Type 0) (a b c out out' : ℕ) (x : A) (f : TalkFault) → CountsRun {A = A} a b out out' (Ok x) → CountsTalk {A = Unit {0}} b (Err f) c → CountsRun {A = B} a c out out' (Err (fault.Talk f))
counts_then A B a b c out out' x talk.LinkFault h k = (subst (λ (n : ℕ). Rose n c) h.0 k, h.1)
counts_then A B a b c out out' x (talk.BadReply frame) h k = (k ∙ h.0, h.1)

-- ---- calls

module _ {S : Type 0} (took : S → Side → List ℕ → ℕ → S → Type 0) (gave : S → Side → ℕ → List ℕ → S → Type 0) where
  talked_then : {side : Side} {s u v : S} {n o : Option (List ℕ)} → Talked (took_on took side) (gave_on gave side) s n u → n ≡ None → Exchanges (took_on took side) (gave_on gave side) u o v
      → Talked (took_on took side) (gave_on gave side) s o v
  talked_then (asked x) e more = asked (go_on x e more)
  talked_then (ran turns printed end x owes rest) e more = ran turns printed end x owes (talked_then rest e more)

  pub called_none : (side : Side) (s : S) (e : Event) → SideCalled took gave side s (Ok e) side s
  called_none side s e = (refl, asked none_more)

  pub called_badly : {W : Type 0} (link : W → S) (side : W → Side) (a b : W) (f : TalkFault) → LedTalk {A = Unit {0}} (leads_by took gave link side) a (Err f) b
      → SideCalled took gave (side a) (link a) (Err (fault.Talk f)) (side b) (link b)
  called_badly link side a b talk.LinkFault h = tt
  called_badly link side a b (talk.BadReply frame) h = asked h.calls

  pub called_run : (side side' : Side) (s t u : S) (turns : ℕ) (e : Ending) (end : Event) → WireLeads took gave s side None t side'
      → RunsBy (took_on took side') (gave_on gave side') turns t (Ok e) u → SideCalled took gave side s (Ok end) side' u
  called_run side side' s t u turns e end led runs =
      let run = subst (λ (y : Side). RunsBy (took_on took y) (gave_on gave y) turns t (Ok e) u) led.side_is runs in
      (led.side_is, ran turns run.0 e led.calls run.1 (asked none_more))

  pub called_fault : (side side' : Side) (s t u : S) (turns : ℕ) (f : RunFault) → WireLeads took gave s side None t side' → RunsBy (took_on took side') (gave_on gave side') turns t (Err f) u
      → SideCalled took gave side s (Err f) side' u
  called_fault side side' s t u turns (fault.Talk talk.LinkFault) led runs = tt
  called_fault side side' s t u turns (fault.Talk (talk.BadReply frame)) led runs =
      let bad = subst (λ (y : Side). BadReply (took_on took y) (gave_on gave y) (msg.Resume turns) t frame.items u) led.side_is runs in
      asked (go_on led.calls refl (badly (msg.Resume turns) bad))
  called_fault side side' s t u turns fault.Output led runs = tt

  pub called_then : (side side' side'' : Side) (s t u : S) (e : Event) → SideCalled took gave side s (Ok e) side' t → WireLeads took gave t side' None u side'' → SideCalled took gave side s (Ok e) side'' u
  called_then side side' side'' s t u e h led =
      let x = subst (λ (y : Side). Exchanges (took_on took y) (gave_on gave y) t None u) h.0 led.calls in
      (led.side_is ∙ h.0, talked_then h.1 refl x)

  pub called_then_badly : {W : Type 0} (link : W → S) (side : W → Side) (start : Side) (s : S) (a b : W) (e : Event) (f : TalkFault) → SideCalled took gave start s (Ok e) (side a) (link a)
      → LedTalk {A = Unit {0}} (leads_by took gave link side) a (Err f) b → SideCalled took gave start s (Err (fault.Talk f)) (side b) (link b)
  called_then_badly link side start s a b e talk.LinkFault h led = tt
  called_then_badly link side start s a b e (talk.BadReply frame) h led =
      talked_then h.1 refl (subst (λ (y : Side). Exchanges (took_on took y) (gave_on gave y) (link a) (Some frame.items) (link b)) h.0 led.calls)

pub puts_count : (c : Conduct) (o o' : Option World) (f f' : ℕ) (side side' : Side) (order order' : Order) (x : Result Unit TalkFault) (P : Bytes → Regions → Type 0)
    → Puts (wire_seen c o f side order) x P (wire_seen c o' f' side' order') → CountsTalk f x f'
puts_count c o o' f f' side side' order order' (Ok x) P h = h.faults
puts_count c o o' f f' side side' order order' (Err talk.LinkFault) P h = h
puts_count c o o' f f' side side' order order' (Err (talk.BadReply frame)) P h = h.faults
