use Rattle.std.proofs.Common.{◌≡◌, sym, ap, ◌∙◌, Some, slice_get}
use Rattle.c_defs.specs.Numbers.{number_in}
use Rattle.c_scope.specs.Environment.{number_of}
use Rattle.c_scope.specs.Here.{environment_of}
use Rattle.c_initial.specs.Spots.{object_in}
use Rattle.c_initial.proofs.Spotted.{object_named, object_at}
use Rattle.c_initial.proofs.spots.object_of.Goals as goal

pub returns-in-Some : goal.returns-in-Some
returns-in-Some c =
    let v = environment_of c.args.here.now in
    let t = c.args.here.now.table in
    let n = c.in-Some.n in
    let h : number_of v.visible c.args.name.now ≡ Some n = sym (c.in-Some.ensures ∙ (ap (number_in c.numbers.result.now) c.as_bytes.ensures ∙ c.numbers.ensures c.args.name.now)) in
    c.object_in.ensures ∙
    (ap object_in (c.symbol_at.ensures ∙ ap (λ ss. slice_get ss n) c.symbols.ensures.symbols) ∙
    (sym (object_at t.symbols t.parameters t.links n c.symbols.ensures.aligned.parameters c.symbols.ensures.aligned.links) ∙ sym (object_named v c.args.name.now n h)))
