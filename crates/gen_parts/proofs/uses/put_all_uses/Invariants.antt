use Rattle.std.proofs.Common.{◌≡◌, ◌++◌, drop}
use Rattle.gen_parts.specs.Uses.{ops_uses}
use Rattle.gen_parts.proofs.uses.put_all_uses.Given as goal

abbrev pub invariant-loop-op : goal.invariant-loop-op
invariant-loop-op l = record {
  uses : l.uses.items ++ ops_uses l.around.number l.around.entry l.around.places.now l.around.epilogue l.around.jump_word (drop l.i l.around.places.now) (drop l.op-index l.ops)
      ≡ l.fn.uses.items ++ ops_uses l.around.number l.around.entry l.around.places.now l.around.epilogue l.around.jump_word l.around.places.now l.ops;
  place : l.i ≡ l.op-index;
}
