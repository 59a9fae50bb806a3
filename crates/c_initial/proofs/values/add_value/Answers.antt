use Rattle.std.proofs.Common.{◌++◌, ◌+◌, map, length, option_map, refl, ap, ◌∙◌}
use Rattle.c_typing.specs.Plain.{plain}
use Rattle.c_judge.specs.Places.{place_of}
use Rattle.c_scope.specs.Here.{environment_of}
use Rattle.c_initial.specs.Initials.{spot, late_of}
use Rattle.c_initial.specs.Begins.{value_begins, strings_of_value}
use Rattle.c_initial.specs.Spots.{spot_of}
use Rattle.c_initial.specs.Starts.{given_of, late_place}
use Rattle.c_initial.proofs.Braced.{value_added}
use Rattle.c_initial.proofs.values.add_value.Goals as goal

pub returns : goal.returns
returns c =
    let v = environment_of c.args.here.now in
    let t = plain c.args.t.now in
    let g = given_of c.args.out.now in
    let h = given_of c.add_object.new.out in
    let ls = h.late in (
      c.in_ok-add_object.ensures.0,
      value_added g h (record h { late = map late_place c.add_late.new.late.items }) (value_begins v (c.args.first + length g.strings) t c.args.e.now) (strings_of_value v t c.args.e.now)
          (late_of v (place_of c.args.e.now).at (spot v c.args.e.now)) c.in_ok-add_object.ensures.1 refl refl
          (c.in_ok-add_late.ensures v ∙ (ap (λ p. ls ++ late_of v p.at (option_map spot_of c.in_ok-s.s)) c.place_of.ensures ∙ ap (λ s. ls ++ late_of v (place_of c.args.e.now).at s) c.in_ok-s.ensures)),
    )
