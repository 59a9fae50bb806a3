-- What comes of a struct's `}`.
use Rattle.std.specs.Prelude.{◌≡◌, ℕ, List, Result, Ok, Err}
use Rattle.c_tree.specs.declared.types.CType.{CType}
use Rattle.c_tree.specs.declared.types.StructDef.{StructDef}
use Rattle.c_typing.specs.Plain.{Plain, Struct, plain}
use Rattle.c_judge.specs.Answers.{Known, Broken}
use Rattle.c_judge.specs.Judgement.{limited}
use Rattle.c_scope.specs.declared.refusal.Refusal.{Refusal}
use Rattle.c_scope.specs.declared.refusal.Refusal.TheVariants.{Rule, NoMemory}
use Rattle.c_scope.specs.Findings.{nothing}
use Rattle.c_scope.specs.Refused.{IsRefused}
use Rattle.c_scope.specs.Environment.{Environment, struct_of}
use Rattle.c_struct.specs.Structs.{Open, Completes, completed_found}
use Rattle.c_struct.specs.Specifies.{Ends}

abbrev pub IsLimited : List StructDef → (at : ℕ) → Plain → Result CType Refusal → Type 0
IsLimited defs at t (Ok u) = (limited defs at t ≡ Known t) × (plain u ≡ t)
IsLimited defs at t (Err why) = IsRefused (limited defs at t) why

-- the struct is completed and within its limits; or the rule that is broken, behind which nothing is asked of what is declared
abbrev pub IsEnded : List StructDef → Environment → Open → Environment → Result CType Refusal → Type 0
IsEnded others v o w (Ok t) =
    (completed_found others v o ≡ nothing) × Completes v o w × (limited w.defs o.at (Struct (struct_of w.tags o.tag)) ≡ Known (Struct (struct_of w.tags o.tag))) ×
    (plain t ≡ Struct (struct_of w.tags o.tag))
IsEnded others v o w (Err (Rule r at)) = (u : Environment) × Ends others v o (Broken r at) u (λ _. ⊥)
IsEnded others v o w (Err NoMemory) = Unit {0}
