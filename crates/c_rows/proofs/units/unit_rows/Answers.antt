use Rattle.std.proofs.Common.{◌≡◌, ◌==◌, ◌++◌, ◌∷◌, [], ◌∙◌, ap, sym, if◌then◌else◌, arith}
use Rattle.std.proofs.lemmas.Grind.{common_steps}
use Rattle.c_rows.specs.Units.{files_functions}
use Rattle.c_rows.proofs.Filed.{function_more, functions_left, in_files}
use Rattle.c_rows.proofs.units.unit_rows.Goals as goal

pub loop-i-preserved : goal.loop-i-preserved
loop-i-preserved c =
    let k : c.in-Ok.number ≡ c.loop-i.i = grind (arith, common_steps) in
    record {
      files = c.in_ok-add_function.ensures.files ∙ c.loop-i.invariant.files;
      functions = λ u h.
          function_more c.args.functions.now c.loop-i.i u c.index-functions-i.result (files_functions c.loop-i.units.items u) (files_functions c.add_function.new.units.items u) c.loop-i-test.true c.index-functions-i.is
          (c.in_ok-add_function.ensures.functions u (in_files c.loop-i.units.items c.args.names.now u c.loop-i.invariant.files h) ∙
          ap (λ n. if c.index-functions-i.result.unit == u then files_functions c.loop-i.units.items u ++ n ∷ [] else files_functions c.loop-i.units.items u) k) ∙ c.loop-i.invariant.functions u h;
    }

pub returns-clause-functions : goal.returns-clause-functions
returns-clause-functions c = λ u h. sym (functions_left c.args.functions.now c.loop-i.i u (files_functions c.loop-i.units.items u) c.loop-i-test.false) ∙ c.loop-i.invariant.functions u h
