-- What the code's shapes are.
use Rattle.std.specs.Prelude.{◌≡◌, ℕ, Bool, false, ◌||◌, List, [], ◌∷◌, ◌++◌, map, Result, Ok, Err, Some, None, option_map, bytes_eq}
use Rattle.c_typing.specs.Plain.{plain}
use Rattle.c_scope.specs.declared.shapes.Parameter.{Parameter}
use Rattle.c_scope.specs.declared.shapes.Shape.{Shape}
use Rattle.c_scope.specs.declared.shapes.Shape.TheVariants.{Object, Function}
use Rattle.std.specs.declared.vec.Vec.{Vec}
use Rattle.std.specs.declared.alloc.Global.{Global}
use Rattle.c_judge.specs.declared.fault.Fault.{Fault}
use Rattle.c_judge.specs.declared.fault.Fault.TheVariants.{NoMemory}
use Rattle.c_scope.specs.StructTags.{text}
use Rattle.c_scope.specs.Declarators as spec

abbrev pub parameter_of : Parameter → spec.Parameter
parameter_of p = record { name = option_map text p.name; ctype = plain p.ctype; register = p.register }

abbrev pub shape_of : Shape → spec.Shape
shape_of (Object t) = spec.Object (plain t)
shape_of (Function t ps) = spec.Function (plain t) (map parameter_of ps.items)

abbrev pub is_called : List ℕ → Parameter → Bool
is_called name p = elim p.name as (λ _. Bool) [ None ↦ false | Some t ↦ bytes_eq t.now name ]

abbrev pub any_called : List ℕ → List Parameter → Bool
any_called name [] = false
any_called name (p ∷ ps) = is_called name p || any_called name ps

-- with one parameter more, where there is memory for it
abbrev pub Adds : List Parameter → Parameter → Result (Vec Parameter Global) Fault → Type 0
Adds ps p (Ok v) = v.items ≡ ps ++ p ∷ []
Adds ps p (Err f) = f ≡ NoMemory
