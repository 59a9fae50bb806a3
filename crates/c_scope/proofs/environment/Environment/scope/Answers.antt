use Rattle.std.proofs.Common.{[], length, ap, ◌∙◌}
use Rattle.c_judge.specs.Scope.{or_else_number}
use Rattle.c_defs.specs.Numbers.{number_in}
use Rattle.c_judge.specs.Judges.{denoted_all}
use Rattle.c_scope.proofs.Rowing.{rows_denote, scope_same}
use Rattle.c_scope.proofs.environment.Environment.scope.Goals as goal

pub returns : goal.returns
returns c =
    let t = c.args.self.now.table in
    let a = c.symbols.ensures.aligned in
    let d = ap (λ ss. denoted_all ss c.parameters.result.now) c.symbols.ensures.symbols ∙ (ap (denoted_all t.symbols) c.parameters.ensures ∙ rows_denote t.symbols t.parameters t.links a.parameters a.links) in
    scope_same _ _ _ _ _ _ _ _ (λ i. record { names = d i; defs = c.view.ensures i; strings = [] }) c.numbers.ensures
    (λ x. ap (λ n. or_else_number n (number_in c.numbers-2.result.now x)) c.count.ensures ∙ ap (or_else_number (length c.args.self.now.tags)) (c.numbers-2.ensures x))
