use Rattle.std.proofs.Common.{◌≡◌, ◌∙◌, sym, ap, subst, refl, ℕ, ◌++◌, List, take, length, slice_index, arith, lit<}
use Rattle.nub_wire.specs.declared.front.Front.TheVariants.{Part, Whole, Nothing}
use Rattle.nub_wire.specs.Held.{BeginsFrame, IsQuiet}
use Rattle.nub_wire.specs.Feeding.{IsPartial, BeginsNoFrame, moved_on}
use Rattle.nub_wire.specs.Spelling.{frame_of}
use Rattle.nub_wire.proofs.Streams.{part_short}
use Rattle.nub_wire.proofs.Feeds.{by_good, front_now, refuses_now, pushed_is, one_byte_more, spells_now, all_taken, gives_now, feeding_is}
use Rattle.nub_wire.proofs.Quiet.{empty_feeding, part_now, quiet_less}
use Rattle.nub_wire.proofs.feeder.Feeder.feed.Goals as goal

pub push-requires : goal.push-requires
push-requires c = (
  lit< tt,
  part_short c.loop-index.self-inside.held.items (part_now c.loop-index.self-inside.held.items c.loop-index.self-inside.missing c.loop-index.invariant.some c.loop-index.invariant.quiet),
)

pub loop-index-preserved-then-self-gt1 : goal.loop-index-preserved-then-self-gt1
loop-index-preserved-then-self-gt1 c = record {
  held_is = pushed_is c.self.inside.held.items c.args.piece.now c.loop-index.self-inside.held.items c.push.new.self.items c.loop-index.index c.loop-index-test.true c.loop-index.invariant.held_is c.push.ensures.items;
  each = one_byte_more c.loop-index.self-inside.held.items c.push.new.self.items (slice_index c.args.piece.now c.loop-index.index) c.loop-index.invariant.each (omega (arith, c.type_inv.piece c.loop-index.index)) c.push.ensures.items;
  quiet = quiet_less c.loop-index.self-inside.held.items c.push.new.self.items (slice_index c.args.piece.now c.loop-index.index) c.loop-index.self-inside.missing (omega (arith, c.type_inv.piece c.loop-index.index)) c.loop-index.invariant.quiet c.push.ensures.items;
  some = omega arith;
  start_is = c.loop-index.invariant.start_is;
  is_good = c.loop-index.invariant.is_good;
}

pub returns-in-Nothing : goal.returns-in-Nothing
returns-in-Nothing c =
    let e = pushed_is c.self.inside.held.items c.args.piece.now c.loop-index.self-inside.held.items c.push.new.self.items c.loop-index.index c.loop-index-test.true c.loop-index.invariant.held_is c.push.ensures.items in
    let n : BeginsNoFrame c.push.new.self.items = front_now c.deref.result.now c.push.new.self.items c.judge.result Nothing c.deref.ensures.0 c.in-Nothing.is c.judge.ensures in
    rw (← c.self.view_is)
    (by_good _ _ _ c.if-self.false (record {
      at_is = c.loop-index.invariant.start_is;
      none = refuses_now c.self.inside.held.items c.args.piece.now c.push.new.self.items c.loop-index.index e n;
      new_is = feeding_is _ _ _ _ _ _ c.clear.ensures c.loop-index.invariant.start_is refl;
    }))

pub awaited-self-inside-requires : goal.awaited-self-inside-requires
awaited-self-inside-requires c =
    front_now c.deref.result.now c.deref-in-Part.result.now c.judge.result Part (c.deref.ensures.0 ∙ sym c.deref-in-Part.ensures.0) c.in-Part.is c.judge.ensures

pub loop-index-preserved : goal.loop-index-preserved
loop-index-preserved c = record {
  held_is = pushed_is c.self.inside.held.items c.args.piece.now c.loop-index.self-inside.held.items c.push.new.self.items c.loop-index.index c.loop-index-test.true c.loop-index.invariant.held_is c.push.ensures.items;
  each = one_byte_more c.loop-index.self-inside.held.items c.push.new.self.items (slice_index c.args.piece.now c.loop-index.index) c.loop-index.invariant.each (omega (arith, c.type_inv.piece c.loop-index.index)) c.push.ensures.items;
  quiet = subst (λ (l : List ℕ). IsQuiet l c.awaited-self-inside.result) c.deref-in-Part.ensures.0 c.awaited-self-inside.ensures.quiet;
  some = c.awaited-self-inside.ensures.some;
  start_is = c.loop-index.invariant.start_is;
  is_good = c.loop-index.invariant.is_good;
}

pub returns-in-Whole : goal.returns-in-Whole
returns-in-Whole c =
    let e = pushed_is c.self.inside.held.items c.args.piece.now c.loop-index.self-inside.held.items c.push.new.self.items c.loop-index.index c.loop-index-test.true c.loop-index.invariant.held_is c.push.ensures.items in
    let w : BeginsFrame c.push.new.self.items c.in-Whole.msg = front_now c.deref.result.now c.push.new.self.items c.judge.result (Whole c.in-Whole.msg) c.deref.ensures.0 c.in-Whole.is c.judge.ensures in
    let part = part_now c.loop-index.self-inside.held.items c.loop-index.self-inside.missing c.loop-index.invariant.some c.loop-index.invariant.quiet in
    let s = spells_now c.loop-index.self-inside.held.items c.push.new.self.items (slice_index c.args.piece.now c.loop-index.index) c.in-Whole.msg c.push.ensures.items part w in
    let start : c.saturating_add-self-inside.result ≡ moved_on c.self.inside.start (length (frame_of c.in-Whole.msg)) = omega (arith, c.saturating_add-self-inside.ensures, c.len.ensures.value, ap length s.is, c.loop-index.invariant.start_is) in
    let a = gives_now c.self.inside.held.items c.args.piece.now c.push.new.self.items c.loop-index.index c.in-Whole.msg c.self.inside.start c.self.inside.is_bad e c.loop-index-test.true s in
    rw (← c.self.view_is)
    (by_good _ _ _ c.if-self.false (record {
      some = omega arith;
      within = a.within;
      fits = a.fits;
      frame = a.frame;
      new_is = feeding_is _ _ _ _ _ _ c.clear-in-Whole.ensures start c.loop-index.invariant.is_good;
    }))

pub returns : goal.returns
returns c =
    let taken : take c.loop-index.index c.args.piece.now ≡ c.args.piece.now = all_taken c.loop-index.index c.args.piece.now c.loop-index-test.false in
    let e : c.loop-index.self-inside.held.items ≡ c.self.inside.held.items ++ c.args.piece.now = c.loop-index.invariant.held_is ∙ ap (λ (l : List ℕ). c.self.inside.held.items ++ l) taken in
    let part = part_now c.loop-index.self-inside.held.items c.loop-index.self-inside.missing c.loop-index.invariant.some c.loop-index.invariant.quiet in
    rw (← c.self.view_is)
    (by_good _ _ _ c.if-self.false (record {
      partial = subst (λ (l : List ℕ). IsPartial l) e part;
      new_is = feeding_is _ _ _ _ _ _ e c.loop-index.invariant.start_is c.loop-index.invariant.is_good;
    }))

pub invariant_of-self-in-Whole : goal.invariant_of-self-in-Whole
invariant_of-self-in-Whole c =
    let one : c.loop-index.self-inside.missing ≡ 1 = omega (arith, c.loop-index.invariant.some, c.if-self-gt1.false) in
    empty_feeding c.clear-in-Whole.new.self.items c.loop-index.self-inside.missing c.loop-index.self-inside.is_bad c.clear-in-Whole.ensures one c.loop-index.invariant.is_good
