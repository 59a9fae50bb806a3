use Rattle.std.proofs.Common.{◌≡◌, ◌∙◌, true, map, refl, rules}
use Rattle.cc_call.specs.Lines.{is_refusal}
use Rattle.cc_call.specs.declared.call.Answer.TheVariants.{Refused}
use Rattle.ldb_cc.specs.Scanning.{items_of}
use Rattle.cc_call.specs.Words.{seen}
use Rattle.cc_call.proofs.Outcomes.{leaves_nothing, leaves_line, leaves_built, built_of, refuses}
use Rattle.cc_call.proofs.call.with_texts.Goals as goal

pub returns-in-Err-clause-leaves : goal.returns-in-Err-clause-leaves
returns-in-Err-clause-leaves g c = λ known h a. leaves_nothing (seen c.args.request.now) known _ _ _ _ refl h

pub returns-in-Ok-compile-clause-leaves : goal.returns-in-Ok-compile-clause-leaves
returns-in-Ok-compile-clause-leaves g c = λ known h a.
    leaves_built (seen c.args.request.now) known _ _ _ _ _ c.write_both.result
    (built_of (seen c.args.request.now) known c.deref.result.now (map items_of c.args.texts.now) c.in-Ok-compile.built.image c.in-Ok-compile.built.table (c.deref.ensures.value ∙ c.in-Ok.ensures) a c.in-Ok-compile.ensures) (c.write_both.ensures.writes known h)

pub returns-then-not-is_refusal-clause-leaves : goal.returns-then-not-is_refusal-clause-leaves
returns-then-not-is_refusal-clause-leaves g c = λ known h a. leaves_nothing (seen c.args.request.now) known _ _ _ _ refl h

pub returns-clause-leaves : goal.returns-clause-leaves
returns-clause-leaves g c = λ known h a.
    let told : is_refusal c.in-Err-compile.fault ≡ true = search rules in
    leaves_line (seen c.args.request.now) known Refused _ _ _ _ c.refuse.result
    (refuses (seen c.args.request.now) known c.deref-in-Err-compile.result.now (map items_of c.args.texts.now) c.in-Err-compile.fault (c.deref-in-Err-compile.ensures.value ∙ c.in-Ok.ensures) a c.in-Err-compile.ensures told) h c.refuse.ensures.said
