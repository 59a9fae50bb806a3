-- What the checker of an expression answers.
use Rattle.std.specs.Prelude.{◌≡◌, ℕ, if◌then◌else◌, List, [], ◌∷◌, map, Result, Ok, Err, Option, Some, None}
use Rattle.std.specs.BTreeMap.{get}
use Rattle.std.specs.Ordering.{nat_cmp}
use Rattle.c_lex.specs.declared.token.Place.{Place}
use Rattle.c_trees.specs.Expressions.{Tree}
use Rattle.c_tree.specs.declared.types.CType.{CType}
use Rattle.c_tree.specs.declared.typed.Typed.{Typed}
use Rattle.c_tree.specs.Types.{head_of}
use Rattle.c_typing.specs.Plain.{Plain, plain}
use Rattle.c_typing.specs.Expressions.{Denoted, Object, Function}
use Rattle.c_judge.specs.declared.part.Part.{Part}
use Rattle.c_judge.specs.declared.part.Facts.{Facts}
use Rattle.c_judge.specs.declared.fault.Fault.{Fault}
use Rattle.c_judge.specs.declared.fault.Fault.TheVariants as fault
use Rattle.c_judge.specs.declared.symbol.Symbol.{Symbol}
use Rattle.c_judge.specs.declared.scope.Scope.{Scope as Names}
use Rattle.c_defs.specs.Numbers.{number_in}
use Rattle.c_judge.specs.Scope.{Scope, or_else_number}
use Rattle.c_judge.specs.Answers.{Answer, Known, Unknown, Broken}
use Rattle.c_judge.specs.Judgement.{Verdict, judged}
use Rattle.c_judge.specs.Parts.{judged_of}
use Rattle.c_judge.specs.Elaboration.{Elaborates, site_of}

-- what a name denotes, a function with its parameters
abbrev pub denoted : Symbol → List CType → Denoted
denoted s ps = if s.function then Function (plain s.ctype) (map plain ps) else Object (plain s.ctype) s.register

abbrev pub denoted_all : List Symbol → List (List CType) → List Denoted
denoted_all [] ps = []
denoted_all (s ∷ ss) [] = denoted s [] ∷ denoted_all ss []
denoted_all (s ∷ ss) (p ∷ ps) = denoted s p ∷ denoted_all ss ps

abbrev pub known : Option (List CType) → List CType
known None = []
known (Some ps) = ps

-- the scope that the checker is given
abbrev pub scope_of : Names → Scope
scope_of v = record {
  among = record { names = denoted_all v.rows.now v.parameters.now; defs = v.defs; strings = [] };
  number = number_in v.names.now;
  tag = λ t. or_else_number v.incomplete (number_in v.tags.now t);
  literal = λ at. or_else_number 0 (get nat_cmp v.literals.now at);
  asks = v.asks;
}

-- why there is no part: a name that is not declared, or the rule that is broken and where; or there was no memory
abbrev pub IsFault : {A : Type 0} → Answer A → Fault → Type 0
IsFault j (fault.Unknown name) = j ≡ Unknown name
IsFault j (fault.Rule r at) = j ≡ Broken r at
IsFault j fault.NoMemory = Unit {0}

-- a name that is not declared
abbrev pub Tells : List ℕ → Fault → Type 0
Tells text (fault.Unknown name) = name ≡ text
Tells text (fault.Rule r at) = ⊥
Tells text fault.NoMemory = Unit {0}

-- the typed expression that this one becomes, or why there is none
abbrev pub Judges : Scope → Tree → Result Part Fault → Type 0
Judges v e (Ok p) = (judged v e ≡ Known (judged_of p)) × Elaborates v e p.typed.value
Judges v e (Err f) = IsFault (judged v e) f

-- a part that an operator makes at a place: what is known of it, and what it is
abbrev pub Makes : Verdict → (Typed → Type 0) → Place → Result Part Fault → Type 0
Makes j P at (Ok p) = (j ≡ Known (judged_of p)) × P p.typed.value × ((head_of p.typed.value).site ≡ site_of at)
Makes j P at (Err f) = IsFault j f

-- a part of this tree and these facts, where there was memory
abbrev pub IsPart : Typed → Facts → Result Part Fault → Type 0
IsPart z f (Ok p) = (p.typed.value ≡ z) × (p.facts ≡ f)
IsPart z f (Err e) = e ≡ fault.NoMemory

-- what is known of what was made, or why nothing was
abbrev pub Gives : {A B : Type 0} → (A → B) → Answer B → Result A Fault → Type 0
Gives f j (Ok x) = j ≡ Known (f x)
Gives f j (Err e) = IsFault j e

-- a type that is written, or why there is none
abbrev pub Denotes : Answer Plain → Result CType Fault → Type 0
Denotes j r = Gives plain j r
