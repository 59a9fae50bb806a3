use Rattle.std.proofs.Common.{refl, sym, ◌∙◌, ap, suc, ◌+◌, ◌++◌, drop}
use Rattle.ps_text.specs.Code.{render}
use Rattle.ps_emit.proofs.Followed.{one_more, none_left}
use Rattle.ps_emit.proofs.places.add_literals.Goals as goal
use Rattle.ps_emit.specs.Places.{string_code, strings_from}

pub loop-string-preserved : goal.loop-string-preserved
loop-string-preserved c =
    ap (λ k. c.add_literal.new.text ++ render (strings_from k c.in_ok-anchor.anchor (drop (c.loop-string.string-index + 1) c.args.strings.now))) c.in_ok-k.ensures ∙
    (ap (λ a. c.add_literal.new.text ++ render (strings_from (suc c.loop-string.k) a (drop (c.loop-string.string-index + 1) c.args.strings.now))) c.in_ok-anchor.ensures ∙
    (one_more (strings_from c.loop-string.k c.loop-string.anchor) (strings_from (suc c.loop-string.k) (suc c.loop-string.anchor))
    (string_code c.loop-string.k c.loop-string.anchor c.string-item.result) c.args.strings.now c.loop-string.string-index c.string-item.result
    c.loop-string-test.true c.string-item.is refl c.in_ok-add_literal.ensures
    ∙ c.loop-string.invariant))

pub returns : goal.returns
returns c = record {
  text =
      sym (none_left (strings_from c.loop-string.k c.loop-string.anchor) c.args.strings.now c.loop-string.string-index c.loop-string.text refl c.loop-string-test.false)
      ∙ c.loop-string.invariant;
}
