-- The type that a declaration begins with (C90 6.5.2), and what is declared behind it.
use Rattle.std.specs.Prelude.{◌≡◌, List, [], ◌∷◌}
use Rattle.c_trees.specs.declared.declaration.FileSpec.{FileSpec}
use Rattle.c_trees.specs.declared.declaration.FileSpec.TheVariants as spec
use Rattle.c_trees.specs.declared.declaration.MemberPart.{MemberPart}
use Rattle.c_trees.specs.declared.declaration.MemberPart.TheVariants.{Opens, Row, Closes}
use Rattle.c_tree.specs.declared.types.StructDef.{StructDef}
use Rattle.c_typing.specs.Plain.{Plain, Struct}
use Rattle.c_judge.specs.Answers.{Answer, Known, Unknown, Broken}
use Rattle.c_judge.specs.Judgement.{spec_type, limited}
use Rattle.c_scope.specs.Environment.{Environment, scope_of, struct_of}
use Rattle.c_struct.specs.Structs.{Open, Written, members, Completes, completed_found}

-- what comes of a part, where no rule is broken in one before it
abbrev pub Goes : {A B : Type 0} → Answer A → Environment → Answer B → Environment → (A → Type 0) → Type 0
Goes (Known x) v a w P = P x
Goes (Unknown name) v a w P = (a ≡ Unknown name) × (w ≡ v)
Goes (Broken r at) v a w P = (a ≡ Broken r at) × (w ≡ v)

module _ (others : List StructDef) where
  -- a struct's `}`: what is declared behind it, and that its size and depth are within their limits
  abbrev pub Ends : Environment → Open → Answer Plain → Environment → (Environment → Type 0) → Type 0
  Ends v o a w P = Goes (completed_found others v o) v a w (λ _. (u : Environment) × Completes v o u × Goes (limited u.defs o.at (Struct (struct_of u.tags o.tag))) u a w (λ _. P u))

  abbrev with_members : Open → List Written → Open
  with_members o ms = record o { members = ms }

  -- The structs that are open, the innermost first, and the parts that follow. Parts that do not close each struct, which no text has, break rule 3.
  abbrev pub Inside : Environment → List Open → List MemberPart → Answer Plain → Environment → Type 0
  Inside v [] ps a w = (a ≡ Broken 3 0) × (w ≡ v)
  Inside v (o ∷ []) [] a w = Ends v o a w (λ u. (a ≡ Known (Struct (struct_of u.tags o.tag))) × (w ≡ u))
  Inside v (o ∷ p ∷ os) [] a w = (a ≡ Broken 3 0) × (w ≡ v)
  Inside v (o ∷ os) (Opens at tag ∷ ps) a w = Inside v (record { at = at.at; tag = tag; members = [] } ∷ o ∷ os) ps a w
  Inside v (o ∷ os) (Row at s ds ∷ ps) a w = Goes (members v o.members (spec_type (scope_of v) s) ds) v a w (λ ms. Inside v (with_members o ms ∷ os) ps a w)
  Inside v (o ∷ []) (Closes ds ∷ ps) a w = (a ≡ Broken 3 0) × (w ≡ v)
  Inside v (o ∷ p ∷ os) (Closes ds ∷ ps) a w =
      Ends v o a w (λ u. Goes (members u p.members (Struct (struct_of u.tags o.tag)) ds) u a w (λ ms. Inside u (with_members p ms ∷ os) ps a w))

  -- the type that a declaration begins with, and what is declared behind it
  abbrev pub Specifies : Environment → FileSpec → Answer Plain → Environment → Type 0
  Specifies v (spec.Named s) a w = (a ≡ Known (spec_type (scope_of v) s)) × (w ≡ v)
  Specifies v (spec.Members (Opens at tag ∷ ps)) a w = Inside v (record { at = at.at; tag = tag; members = [] } ∷ []) ps a w
  Specifies v (spec.Members _) a w = (a ≡ Broken 3 0) × (w ≡ v)
