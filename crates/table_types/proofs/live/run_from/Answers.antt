use Rattle.std.proofs.Common.{◌≡◌, ◌+◌, sym, ◌∙◌, subst, Err, arith}
use Rattle.ldb_words.specs.declared.kinds.Kind.TheVariants.{Byte}
use Rattle.table_types.specs.Offsets.{if_offset, kind_live, MOST_RUN}
use Rattle.table_types.proofs.Rows.{run_lack}
use Rattle.table_types.proofs.live.run_from.Goals as goal

pub returns-in-Err : goal.returns-in-Err
returns-in-Err c =
    let s = c.args.store.now in
    let same : c.from.result + c.from-in-loop-count.result ≡ c.args.at + c.loop-count.count = omega (arith, c.from.ensures, c.from-in-loop-count.ensures) in
    let stops : if_offset (c.args.at + c.loop-count.count) (kind_live s c.args.found Byte (c.args.at + c.loop-count.count)) ≡ Err c.in-Err.lack =
    subst (λ i. if_offset i (kind_live s c.args.found Byte i) ≡ Err c.in-Err.lack) same (sym c.byte_live.ensures ∙ c.in-Err.is) in
    sym (run_lack s c.args.found MOST_RUN c.loop-count.count (c.args.at + c.loop-count.count) c.in-Err.lack c.loop-count-test.true stops) ∙ c.loop-count.invariant
