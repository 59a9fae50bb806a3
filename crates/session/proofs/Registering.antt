-- `regs` of one side, and what it is to the machine session.
use Rattle.std.proofs.Common.{◌≡◌, ◌∙◌, refl, sym, ap, subst, ℕ, ◌≤◌, List, Option, Some, None, Result, Ok, Err, arith}
use Rattle.machine_state.specs.Regions.{Regions}
use Rattle.machine_state.specs.State.{Behaviour}
use Rattle.nub_wire.specs.Nub.{Host}
use Rattle.nub_wire.specs.Delivery.{Conduct, World}
use Rattle.frame_bytes.specs.Bytes.{Bytes}
use Rattle.abs_mem.specs.declared.wire.Wire.{Wire}
use Rattle.abs_mem.specs.declared.memory.MemFault.TheVariants.{Outside, LinkFault, BadReply}
use Rattle.abs_mem.specs.Meaning.{Seen}
use Rattle.abs_mem.specs.WireMeaning.{WireRest, memory_of, wire_seen}
use Rattle.ps_ops.specs.declared.dialect.Operators.{Operators}
use Rattle.resuming.specs.Standing.{Stands}
use Rattle.debug_side.specs.Wrote.{none_written}
use Rattle.debug_side.specs.Told.{with_regions}
use Rattle.debug_side.proofs.Told.{put_stands, never_bad}
use Rattle.table_asks.specs.declared.fault.AskFault.{AskFault}
use Rattle.table_asks.specs.declared.fault.AskFault.TheVariants.{Refused, Raised, Spent, NoMemory, Broken}
use Rattle.asking.specs.Lines.{line}
use Rattle.asking.specs.Doing.{Asks}
use Rattle.asking.specs.Raw.{regs_line}
use Rattle.claims.specs.Side.{SideState}
use Rattle.claims.specs.Raw.{regs_text}
use Rattle.asking_meaning.proofs.Registers.{regs_are_meant}
use Rattle.side_meaning.specs.Standing.{StandsFor}
use Rattle.side_meaning.proofs.Asking.{regs}
use Rattle.side_meaning.proofs.Telling.{memories}
use Rattle.session.specs.declared.sides.SideRecord.{SideRecord}
use Rattle.session.specs.Turned.{byte_of, order_of, turned}
use Rattle.session.specs.Meant.{debugged, IsThere, ComesTo}

some_is : {A : Type 0} (x y : A) → Some x ≡ Some y → x ≡ y
some_is x y e = cc

never_none : {A : Type 0} (x : A) (o : Option A) → o ≡ Some x → o ≡ None → ⊥
never_none x o e f = cc

module _ {L : Type 0} (c : Conduct) (world : L → Option World) (faults : L → ℕ) where
  abbrev seen_by : Wire L → Seen WireRest
  seen_by w = wire_seen c (world w.link) (faults w.link) w.side w.order

  abbrev Registers : Operators (Wire L) → Result (List ℕ) AskFault → Operators (Wire L) → Type 0
  Registers t result new = Asks (seen_by t.memory.below.below.below) (regs_line t.view.target t.view.context) result (seen_by new.memory.below.below.below)

  module _ (side : SideRecord) (old t new : Operators (Wire L)) (turned_is : t ≡ turned side old) where
    turned_asks : (result : Result (List ℕ) AskFault) → Registers t result new → Registers (turned side old) result new
    turned_asks result d = subst (λ (x : Operators (Wire L)). Registers x result new) turned_is d

    abbrev before : ℕ
    before = faults old.memory.below.below.below.link

    abbrev behind : ℕ
    behind = faults new.memory.below.below.below.link

    same_count : before ≡ behind → before ≤ behind
    same_count e = subst (λ n. before ≤ n) e (omega arith)

    counted : (result : Result (List ℕ) AskFault) → Registers (turned side old) result new → before ≤ behind
    counted (Ok x) d = same_count (sym d.0.faults)
    counted (Err (Refused cause)) d = absurd d
    counted (Err (Raised e)) d = same_count (sym d.1.faults)
    counted (Err Spent) d = absurd d
    counted (Err NoMemory) d = same_count (sym d.faults)
    counted (Err (Broken LinkFault)) d = d.no_fall
    counted (Err (Broken (BadReply bad))) d = same_count (sym d.faults)
    counted (Err (Broken (Outside p))) d = absurd d

    pub registers_count : (result : Result (List ℕ) AskFault) → Registers t result new → before ≤ behind
    registers_count result d = counted result (turned_asks result d)

    module _ (b : Behaviour) (h : Host) (other : Option Host) (a : SideState) (there : IsThere b c (world old.memory.below.below.below.link) side h other) (stands : StandsFor (debugged side h) a) where
      abbrev f : Bytes → Option (List ℕ)
      f z = regs_line (byte_of side.machine) side.context z

      -- the line of the words of its context block
      meant : f (memory_of h.machine) ≡ Some (line (regs_text a))
      meant =
          ap (λ (n : ℕ). regs_line n side.context (memory_of h.machine)) there.target
          ∙ (ap (λ (n : ℕ). regs_line h.machine.target n (memory_of h.machine)) there.context
          ∙ (regs_are_meant (record a { machine = h.machine }) (memories b c side.which (world old.memory.below.below.below.link) h other there.stands)
          ∙ ap (λ (text : List ℕ). Some (line text)) (sym (regs (debugged side h) a stands))))

      abbrev wire_before : Seen WireRest
      wire_before = wire_seen c (world old.memory.below.below.below.link) before side.which (order_of side.machine)

      abbrev wire_behind : Seen WireRest
      wire_behind = wire_seen c (world new.memory.below.below.below.link) behind new.memory.below.below.below.side new.memory.below.below.below.order

      -- what a part that leaves the memory says of its bytes
      record Said (P : Bytes → Type 0) : Type 0 where
        is : P (memory_of h.machine)
        stays : IsThere b c (world new.memory.below.below.below.link) side h other

      abbrev Leaves : (Bytes → Type 0) → Bytes → Regions → Type 0
      Leaves P z r = (r ≡ z.regions) × P z

      left : (P : Bytes → Type 0) → wire_behind.faults ≡ wire_before.faults → ((z : Bytes) (r : WireRest) → wire_before.tells z r → P z × wire_behind.tells z r) → Said P
      left P same keeps =
          let wire = new.memory.below.below.below in
          let y =
          put_stands b c (world old.memory.below.below.below.link) side.which (order_of side.machine) h other there.stands there.order before behind wire.side wire.order (world wire.link) (Leaves P)
          (record { faults = same; after = λ (z : Bytes) (r : WireRest) t. (let k = keeps z r t in (z.regions, none_written, (refl, k.0), k.1)) }) in
          record {
            is = y.put.1;
            stays = record {
              stands = subst (λ (r : Regions). Stands b c side.which (world wire.link) (with_regions h r) other) y.put.0 y.stands;
              context = there.context;
              target = there.target;
              order = there.order;
              names = there.names;
            };
          }

      by : (result : Result (List ℕ) AskFault) → Registers (turned side old) result new
          → ComesTo before behind (λ (text : List ℕ). IsThere b c (world new.memory.below.below.below.link) side h other × (text ≡ line (regs_text a))) (λ e. ⊥) result
      by (Ok text) d =
          let x = left (λ z. f z ≡ Some text) d.0.faults (λ z r t. (d.1.holds z r t, d.0.keeps z r t)) in
          (x.stays, some_is text (line (regs_text a)) (sym x.is ∙ meant))
      by (Err (Raised e)) d = never_none (line (regs_text a)) (f (memory_of h.machine)) meant (left (λ z. f z ≡ None) d.1.faults (λ z r t. (d.2.holds z r t, d.1.keeps z r t))).is
      by (Err NoMemory) d = tt
      by (Err (Broken LinkFault)) d = d
      by (Err (Broken (BadReply bad))) d =
          let wire = new.memory.below.below.below in
          never_bad b c (world old.memory.below.below.below.link) side.which (order_of side.machine) h other there.stands there.order before behind wire.side wire.order (world wire.link) (λ z r. Unit {0}) bad d
      by (Err (Broken (Outside p))) d = d
      by (Err (Refused cause)) d = d
      by (Err Spent) d = d

      pub registers_meant : (result : Result (List ℕ) AskFault) → Registers t result new
          → ComesTo before behind (λ (text : List ℕ). IsThere b c (world new.memory.below.below.below.link) side h other × (text ≡ line (regs_text a))) (λ e. ⊥) result
      registers_meant result d = by result (turned_asks result d)
