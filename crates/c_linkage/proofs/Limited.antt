-- A type within its limits is the same type.
use Rattle.std.proofs.Common.{◌≡◌, ℕ, Bool, true, false, if◌then◌else◌, List, refl, sym}
use Rattle.c_tree.specs.declared.types.StructDef.{StructDef}
use Rattle.c_typing.specs.Plain.{Plain}
use Rattle.c_judge.specs.Answers.{Answer, Known, Unknown, Broken}
use Rattle.c_judge.specs.Judgement.{limited}

chosen : (b : Bool) (r at : ℕ) (t u : Plain) → (if b then Known t else Broken r at) ≡ Known u → u ≡ t
chosen true r at t u e = cc
chosen false r at t u e = cc

pub limited_same : (defs : List StructDef) (at : ℕ) (t u : Plain) → limited defs at t ≡ Known u → u ≡ t
limited_same defs at t u e = chosen _ 1 at t u e
