use Rattle.std.proofs.Common.{map, string_bytes, refl, sym, ap, ◌∙◌, Some}
use Rattle.ldb_top.specs.declared.words.Request.{Request}
use Rattle.ldb_top.specs.Words.{Debug, Go, Own, form_of, form_in}
use Rattle.ldb_top.proofs.Left.{left_debug, left_go, made_in, unprinted, made_front}
use Rattle.ldb_top.proofs.Sources.{source_names}
use Rattle.ldb_top.proofs.program.with_words.Goals as goal

pub run_go-requires : goal.run_go-requires
run_go-requires g c = source_names (map string_bytes c.args.words.now) _ c.in-Some-Go.request c.in-Some-Go.field-0-is c.in-Some-Go.ensures.form c.in-Some-Go.ensures.named

pub returns-in-Some-Debug-clause-files : goal.returns-in-Some-Debug-clause-files
returns-in-Some-Debug-clause-files g c = left_debug (map string_bytes c.args.words.now) _ c.in-Some-Debug.request _ _ c.in-Some-Debug.field-0-is c.in-Some-Debug.ensures.form c.in-Some-Debug.ensures.named c.run_debug.ensures.kept

pub returns-in-Some-Go-clause-files : goal.returns-in-Some-Go-clause-files
returns-in-Some-Go-clause-files g c = left_go (map string_bytes c.args.words.now) _ c.in-Some-Go.request _ _ c.in-Some-Go.field-0-is c.in-Some-Go.ensures.form c.in-Some-Go.ensures.named c.run_go.ensures.kept

pub returns-in-Some-Make-clause-made : goal.returns-in-Some-Make-clause-made
returns-in-Some-Make-clause-made g c = λ form. made_in (map string_bytes c.args.words.now) _ c.in-Some-Make.number _ _ c.print_made.result c.in-Some-Make.field-0-is c.in-Some-Make.ensures.named c.print_made.ensures.made

pub returns-in-Some-Debug-clause-front : goal.returns-in-Some-Debug-clause-front
returns-in-Some-Debug-clause-front g c =
    unprinted (form_of (map string_bytes c.args.words.now)) (map string_bytes c.args.words.now) Debug _ c.run_debug.result (ap (λ (q : Request). Some (form_in q)) (sym c.in-Some-Debug.field-0-is) ∙ c.in-Some-Debug.ensures.form) refl

pub returns-in-Some-Go-clause-front : goal.returns-in-Some-Go-clause-front
returns-in-Some-Go-clause-front g c =
    unprinted (form_of (map string_bytes c.args.words.now)) (map string_bytes c.args.words.now) Go _ c.run_go.result (ap (λ (q : Request). Some (form_in q)) (sym c.in-Some-Go.field-0-is) ∙ c.in-Some-Go.ensures.form) refl

pub returns-in-Some-Own-clause-front : goal.returns-in-Some-Own-clause-front
returns-in-Some-Own-clause-front g c =
    unprinted (form_of (map string_bytes c.args.words.now)) (map string_bytes c.args.words.now) Own _ c.print_own.result (ap (λ (q : Request). Some (form_in q)) (sym c.in-Some-Own.field-0-is) ∙ c.in-Some-Own.ensures.form) refl

pub returns-in-Some-Make-clause-front : goal.returns-in-Some-Make-clause-front
returns-in-Some-Make-clause-front g c =
    made_front (form_of (map string_bytes c.args.words.now)) (map string_bytes c.args.words.now) _ c.in-Some-Make.number _ _ c.print_made.result c.in-Some-Make.field-0-is c.in-Some-Make.ensures.form c.in-Some-Make.ensures.named c.print_made.ensures.front
