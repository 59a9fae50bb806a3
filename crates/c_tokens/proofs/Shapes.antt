-- What declares a function is a function's declarator.
use Rattle.std.proofs.Common.{◌≡◌, refl, ℕ, Bool, true, false, List, Some, None}
use Rattle.c_trees.specs.Declarators.{DeclaratorTree, Name, Parens, Pointers, Array, Function as Applied, Taking, Named, Unnamed}
use Rattle.c_typing.specs.Plain.{Plain}
use Rattle.c_judge.specs.Answers.{Known}
use Rattle.c_judge.specs.Judgement.{pointers}
use Rattle.c_scope.specs.Environment.{Environment}
use Rattle.c_scope.specs.Declarators.{Object, Function, Parameter, is_name, unbounded, bounded, unsized, shape}
use Rattle.c_tokens.proofs.Declared.{is_of_function}
use Rattle.c_tokens.proofs.Structs.{then_known}

module _ (v : Environment) where
  pub never_unsized : (named : Bool) (at : ℕ) (t r : Plain) (ps : List Parameter) → unsized v named at t ≡ Known (Function r ps) → ⊥
  never_unsized true at t r ps e = let (u, f, g) = then_known (unbounded v at t) (λ u. Known (Object u)) (Function r ps) e in absurd cc
  never_unsized false at t r ps e = absurd cc

  pub function_declares : (d : DeclaratorTree) (t r : Plain) (ps : List Parameter) → shape v d t ≡ Known (Function r ps) → is_of_function d ≡ true
  function_declares (Name at text) t r ps e = absurd cc
  function_declares (Parens at d) t r ps e = function_declares d t r ps e
  function_declares (Pointers at n d) t r ps e = let (u, f, g) = then_known (pointers v.defs at.at n t) (shape v d) (Function r ps) e in function_declares d u r ps g
  function_declares (Array at d (Some b)) t r ps e = let (u, f, g) = then_known (bounded v b t) (shape v d) (Function r ps) e in function_declares d u r ps g
  function_declares (Array at d None) t r ps e = absurd (never_unsized (is_name d) at.at t r ps e)
  function_declares (Applied at d) t r ps e = refl
  function_declares (Taking d p) t r ps e = refl
  function_declares (Named at b s d) t r ps e = absurd cc
  function_declares (Unnamed at s d) t r ps e = absurd cc
