-- The operators of a session, turned to one of its sides.
use Rattle.std.specs.Prelude.{ℕ}
use Rattle.ldb_words.specs.declared.kinds.Order.{Order}
use Rattle.ldb_words.specs.declared.kinds.Order.TheVariants.{Little, Big}
use Rattle.machine_state.specs.declared.layout.TheConstants.{MIPS, SPARC}
use Rattle.abs_mem.specs.declared.wire.Wire.{Wire}
use Rattle.ps_ops.specs.declared.dialect.Operators.{Operators}
use Rattle.session.specs.declared.sides.Machine.{Machine}
use Rattle.session.specs.declared.sides.Machine.TheVariants as machine
use Rattle.session.specs.declared.sides.SideRecord.{SideRecord}

abbrev pub byte_of : Machine → ℕ
byte_of machine.Mips = MIPS
byte_of machine.Sparc = SPARC

abbrev pub order_of : Machine → Order
order_of machine.Mips = Little
order_of machine.Sparc = Big

-- the wire leads to the side, in the order of its bytes; the operators have its target and its context block
abbrev pub turned : {L : Type 0} → SideRecord → Operators (Wire L) → Operators (Wire L)
turned side o = record o {
  memory = record o.memory {
    below = record o.memory.below {
      below = record o.memory.below.below {
        order = order_of side.machine;
        below = record o.memory.below.below.below { side = side.which; order = order_of side.machine };
      };
    };
  };
  view = record o.view { target = byte_of side.machine; context = side.context };
}
