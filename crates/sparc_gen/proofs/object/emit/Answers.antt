use Rattle.std.proofs.Common.{length, ap, ◌∙◌}
use Rattle.std.proofs.lemmas.List.{length-map}
use Rattle.flat_ir.specs.declared.code.FlatCode.{FlatCode}
use Rattle.flat_gen.specs.Codes.{flat_function, flat_code}
use Rattle.flat_gen.specs.Movers.{mover}
use Rattle.gen_parts.proofs.Links.{object_in_order}
use Rattle.gen_parts.proofs.Given.{names_once}
use Rattle.sparc_gen.specs.Coding.{sparc}
use Rattle.sparc_gen.proofs.Words.{sparc_narrow, sparc_room}
use Rattle.sparc_gen.proofs.object.emit.Goals as goal

pub returns-clause-words : goal.returns-clause-words
returns-clause-words c = sparc_narrow

pub returns-in_err-flat-clause-words : goal.returns-in_err-flat-clause-words
returns-in_err-flat-clause-words c = sparc_narrow

pub returns-in_err-object-clause-words : goal.returns-in_err-object-clause-words
returns-in_err-object-clause-words c = sparc_narrow

pub returns-clause-order : goal.returns-clause-order
returns-clause-order c = object_in_order sparc sparc_room c.args.slots.now _ _ c.in_ok-object.ensures

pub returns-clause-once : goal.returns-clause-once
unfolding flat_code
returns-clause-once c = λ k.
    names_once sparc c.args.slots.now c.in_ok-flat.flat _ c.in_ok-object.ensures
    (ap (λ (f : FlatCode). length f.functions) c.in_ok-flat.ensures ∙ length-map c.args.slots.now.functions (flat_function 132 c.args.slots.now))
    (ap (λ (f : FlatCode). length f.movers) c.in_ok-flat.ensures ∙ length-map c.args.slots.now.structs (mover c.args.slots.now)) k
