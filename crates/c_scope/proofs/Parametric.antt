-- One parameter more.
use Rattle.std.proofs.Common.{◌≡◌, ℕ, Bool, true, false, ◌||◌, if◌then◌else◌, List, [], ◌∷◌, ◌++◌, map, option_map, bytes_eq, refl, sym, ap, ◌∙◌, subst, Result, Ok, Err, Option, Some, None}
use Rattle.std.proofs.lemmas.List.{map-append}
use denote.Ref.{Bor}
use Rattle.c_typing.specs.Declarations.{is_named}
use Rattle.c_judge.specs.Answers.{Answer, Known, Broken}
use Rattle.c_scope.specs.declared.shapes.Parameter.{Parameter}
use Rattle.c_scope.specs.Declarators as spec
use Rattle.c_scope.specs.Declarators.{names_in, is_taken, with_one}
use Rattle.std.specs.declared.vec.Vec.{Vec}
use Rattle.std.specs.declared.alloc.Global.{Global}
use Rattle.c_judge.specs.declared.fault.Fault.{Fault}
use Rattle.c_judge.specs.Judges.{IsFault, Gives}
use Rattle.c_scope.specs.Shapes.{parameter_of, any_called, Adds}
use Rattle.c_scope.specs.StructTags.{text}

called_at : (n : Option (Bor (List ℕ))) (ps : List Parameter) (name : List ℕ) → any_called name ps ≡ is_named (names_in (map parameter_of ps)) name
    → ((elim n as (λ _. Bool) [ None ↦ false | Some t ↦ bytes_eq t.now name ]) || any_called name ps)
    ≡ is_named (elim (option_map text n) as (λ _. List (List ℕ)) [ None ↦ names_in (map parameter_of ps) | Some t ↦ t ∷ names_in (map parameter_of ps) ]) name
called_at None ps name e = e
called_at (Some t) ps name e = ap (λ b. bytes_eq t.now name || b) e

-- whether one of them has a name
pub called_named : (ps : List Parameter) (name : List ℕ) → any_called name ps ≡ is_named (names_in (map parameter_of ps)) name
called_named [] name = refl
called_named (p ∷ ps) name = called_at p.name ps name (called_named ps name)

pub taken_is : (ps : List Parameter) (p : Parameter) (at : ℕ) (n : Bor (List ℕ)) → p.name ≡ Some n → any_called n.now ps ≡ true → with_one (map parameter_of ps) at (parameter_of p) ≡ Broken 5 at
taken_is ps p at n e h = ap (λ x. if is_taken (map parameter_of ps) (option_map text x) then Broken 5 at else Known (map parameter_of ps ++ parameter_of p ∷ [])) e
    ∙ ap (λ b. if b then Broken 5 at else Known (map parameter_of ps ++ parameter_of p ∷ [])) (sym (called_named ps n.now) ∙ h)

known_more : (ps : List Parameter) (p : Parameter) → Known (map parameter_of ps ++ parameter_of p ∷ []) ≡ Known (map parameter_of (ps ++ p ∷ []))
known_more ps p = ap Known (sym (map-append parameter_of ps (p ∷ [])))

pub free_is : (ps : List Parameter) (p : Parameter) (at : ℕ) (n : Bor (List ℕ)) → p.name ≡ Some n → any_called n.now ps ≡ false → with_one (map parameter_of ps) at (parameter_of p) ≡ Known (map parameter_of (ps ++ p ∷ []))
free_is ps p at n e h = ap (λ x. if is_taken (map parameter_of ps) (option_map text x) then Broken 5 at else Known (map parameter_of ps ++ parameter_of p ∷ [])) e
    ∙ (ap (λ b. if b then Broken 5 at else Known (map parameter_of ps ++ parameter_of p ∷ [])) (sym (called_named ps n.now) ∙ h) ∙ known_more ps p)

pub nameless_is : (ps : List Parameter) (p : Parameter) (at : ℕ) → p.name ≡ None → with_one (map parameter_of ps) at (parameter_of p) ≡ Known (map parameter_of (ps ++ p ∷ []))
nameless_is ps p at e = ap (λ x. if is_taken (map parameter_of ps) (option_map text x) then Broken 5 at else Known (map parameter_of ps ++ parameter_of p ∷ [])) e ∙ known_more ps p

pub adds_gives : (ps : List Parameter) (p : Parameter) (j : Answer (List spec.Parameter)) (r : Result (Vec Parameter Global) Fault) → j ≡ Known (map parameter_of (ps ++ p ∷ [])) → Adds ps p r → Gives (λ (v : Vec Parameter Global). map parameter_of v.items) j r
adds_gives ps p j (Ok v) h a = h ∙ ap (λ l. Known (map parameter_of l)) (sym a)
adds_gives ps p j (Err f) h a = subst (IsFault j) (sym a) tt
