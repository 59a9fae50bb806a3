-- Reading token by token: each token gives the next state, an answer, or nothing where the tokens cannot go on.
use Rattle.std.specs.Prelude.{◌≡◌, List, [], ◌∷◌, Option, Some, None, Result, Ok, Err}
use Rattle.c_symbol.specs.declared.terminal.Terminal.{Terminal}
use Rattle.c_expr.specs.declared.state.SynFault.{SynFault}
use Rattle.c_expr.specs.declared.state.SynFault.TheVariants.{Syntax, Deep, NoMemory}
use Rattle.c_declaration.specs.declared.step.Step.{Step}
use Rattle.c_declaration.specs.declared.step.Step.TheVariants.{Goes, Ends}

-- what a reader does with all of these tokens; behind an answer nothing more is read
abbrev pub feed : {S A : Type 0} → (S → Terminal → Option (Step S A)) → List Terminal → Step S A → Option (Step S A)
feed offer [] a = Some a
feed offer (t ∷ ts) (Ends a) = None
feed offer (t ∷ ts) (Goes p) = elim (offer p t) [ None ↦ None | Some a ↦ feed offer ts a ]

-- what is given is the step, unless memory ran out
abbrev pub Answers : {S A : Type 0} → Result (Step S A) SynFault → Option (Step S A) → Type 0
Answers (Ok a) step = step ≡ Some a
Answers (Err (Syntax _)) step = step ≡ None
Answers (Err (Deep _)) step = ⊥
Answers (Err NoMemory) step = Unit {0}
