use Rattle.std.proofs.Common.{◌||◌, sym, ap, ◌∙◌, option_map}
use Rattle.c_typing.specs.Plain.{plain}
use Rattle.c_judge.specs.Answers.{Broken}
use Rattle.c_mentions.specs.Tags.{now}
use Rattle.c_scope.specs.Here.{environment_of}
use Rattle.c_initial.specs.Initials.{spot, text_of, is_spot, is_characters}
use Rattle.c_initial.specs.Spots.{spot_of}
use Rattle.c_initial.specs.Valued.{is_zero, pointer_begin}
use Rattle.c_initial.proofs.Pointed.{no_address, an_address, address_begins}
use Rattle.c_initial.proofs.values.pointer.Goals as goal

pub returns-then-not-may_point : goal.returns-then-not-may_point
returns-then-not-may_point c =
    let v = environment_of c.args.here.now in
    let t = plain c.args.target.now in
    no_address v t c.args.e.now c.in-Ok.c c.may_point.result c.in-Ok.ensures
    (c.may_point.ensures v ∙ (ap (λ o. (is_zero c.in-Ok.c || is_characters v t o) || is_spot v t (option_map spot_of c.args.s)) c.text_of-text.ensures ∙ ap (λ s. (is_zero c.in-Ok.c || is_characters v t (text_of c.args.e.now)) || is_spot v t s) c.requires))
    c.if-not-may_point.true ∙ ap (λ p. Broken 12 p.at) (sym c.place_of.ensures)

pub returns-in_ok-pointer_begin-in-Ok : goal.returns-in_ok-pointer_begin-in-Ok
returns-in_ok-pointer_begin-in-Ok c =
    let v = environment_of c.args.here.now in
    let t = plain c.args.target.now in (
      an_address v t c.args.e.now c.in-Ok.c c.may_point.result c.in-Ok.ensures
          (c.may_point.ensures v ∙ (ap (λ o. (is_zero c.in-Ok.c || is_characters v t o) || is_spot v t (option_map spot_of c.args.s)) c.text_of-text.ensures ∙ ap (λ s. (is_zero c.in-Ok.c || is_characters v t (text_of c.args.e.now)) || is_spot v t s) c.requires))
          c.if-not-may_point.false,
      address_begins v c.args.k c.args.e.now c.in-Ok.c c.number_in.result c.in-Ok.ensures c.number_in.ensures ∙
          (ap (λ o. pointer_begin v c.args.k c.number_in.result o (spot v c.args.e.now)) (sym c.text_of-text.ensures) ∙
          (ap (λ s. pointer_begin v c.args.k c.number_in.result (option_map now c.text_of-text.result) s) (sym c.requires) ∙ c.in_ok-pointer_begin-in-Ok.ensures)),
    )
