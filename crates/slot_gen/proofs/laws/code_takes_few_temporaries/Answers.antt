use Rattle.std.proofs.Common.{◌+◌, arith}
use Rattle.slot_gen.specs.Bounds.{temps_of, function_temps}
use Rattle.slot_gen.proofs.Temps.{expr_below, temps_few}
use Rattle.slot_gen.proofs.TempsOfStatements.{function_below}
use Rattle.slot_gen.proofs.NodesOfStatements.{function_few}
use Rattle.slot_gen.proofs.laws.code_takes_few_temporaries.Goals as goal

pub returns : goal.returns
returns c = record {
  expression = λ p f at d e. expr_below p f (d + temps_of e) e at d (omega arith);
  function = λ p f fn. function_below p f (function_temps fn) fn (omega arith);
  few = λ e. temps_few e;
  few_of_function = λ fn. function_few fn;
}
