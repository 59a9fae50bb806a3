use Rattle.std.proofs.Common.{◌||◌, option_map, sym, ap, ◌∙◌}
use Rattle.c_typing.specs.Plain.{plain}
use Rattle.c_mentions.specs.Tags.{now}
use Rattle.c_initial.specs.Initials.{is_spot, is_characters}
use Rattle.c_initial.specs.Spots.{spot_of}
use Rattle.c_initial.proofs.values.may_point.Goals as goal

pub returns-then-is_zero : goal.returns-then-is_zero
returns-then-is_zero c = λ v.
    let t = plain c.args.t.now in
    sym (ap (λ b. (b || is_characters v t (option_map now c.args.text)) || is_spot v t (option_map spot_of c.args.s)) (sym c.is_zero.ensures ∙ c.if-is_zero.true))

pub returns-then-is_characters : goal.returns-then-is_characters
returns-then-is_characters c = λ v.
    let t = plain c.args.t.now in
    sym (ap (λ b. (b || is_characters v t (option_map now c.args.text)) || is_spot v t (option_map spot_of c.args.s)) (sym c.is_zero.ensures ∙ c.if-is_zero.false) ∙
    ap (λ b. b || is_spot v t (option_map spot_of c.args.s)) (sym (c.is_characters.ensures v) ∙ c.if-is_characters.true))

pub returns : goal.returns
returns c = λ v.
    let t = plain c.args.t.now in
    c.is_spot.ensures v ∙
    sym (ap (λ b. (b || is_characters v t (option_map now c.args.text)) || is_spot v t (option_map spot_of c.args.s)) (sym c.is_zero.ensures ∙ c.if-is_zero.false) ∙
    ap (λ b. b || is_spot v t (option_map spot_of c.args.s)) (sym (c.is_characters.ensures v) ∙ c.if-is_characters.false))
