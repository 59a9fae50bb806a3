-- What the number of a name denotes.
use Rattle.std.proofs.Common.{◌≡◌, ℕ, zero, suc, true, false, List, [], ◌∷◌, refl, sym, ap, ◌∙◌, Option, Some, None, slice_get, map}
use Rattle.c_tree.specs.declared.types.CType.{CType}
use Rattle.c_typing.specs.Plain.{plain}
use Rattle.c_typing.specs.Expressions.{Denoted}
use Rattle.c_judge.specs.declared.symbol.Symbol.{Symbol}
use Rattle.c_judge.specs.declared.scope.Scope.{Scope as Names}
use Rattle.c_judge.specs.Answers.{Known, Broken}
use Rattle.c_judge.specs.Judgement.{named, variable, function_numbered}
use Rattle.c_judge.specs.Calls.{parameters_by}
use Rattle.c_judge.specs.Judges.{known, denoted, denoted_all, scope_of}
use Rattle.c_judge.specs.Parts.{judged_as}
use Rattle.c_lex.specs.declared.token.Place.{Place}
use Rattle.c_typing.specs.declared.constant.Constant.TheVariants.{Variable}

abbrev row_in : Option Symbol → Option (List CType) → Option Denoted
row_in None ps = None
row_in (Some s) ps = Some (denoted s (known ps))

pub denoted_at : (ss : List Symbol) (ps : List (List CType)) (n : ℕ) → slice_get (denoted_all ss ps) n ≡ row_in (slice_get ss n) (slice_get ps n)
denoted_at [] ps n = refl
denoted_at (s ∷ ss) [] zero = refl
denoted_at (s ∷ ss) [] (suc n) = denoted_at ss [] n
denoted_at (s ∷ ss) (p ∷ ps) zero = refl
denoted_at (s ∷ ss) (p ∷ ps) (suc n) = denoted_at ss ps n

pub named_none : (v : Names) (at : ℕ) (text : List ℕ) (n : ℕ) → slice_get v.rows.now n ≡ None → named (scope_of v) at text (Some n) ≡ Broken 21 at
named_none v at text n e = rw (denoted_at v.rows.now v.parameters.now n, e) refl

pub named_function : (v : Names) (at : ℕ) (text : List ℕ) (n : ℕ) (s : Symbol) → slice_get v.rows.now n ≡ Some s → s.function ≡ true → named (scope_of v) at text (Some n) ≡ Broken 21 at
named_function v at text n s e f = rw (denoted_at v.rows.now v.parameters.now n, e, f) refl

pub named_object : (v : Names) (at : ℕ) (text : List ℕ) (n : ℕ) (s : Symbol) → slice_get v.rows.now n ≡ Some s → s.function ≡ false → named (scope_of v) at text (Some n) ≡ Known (variable s.register (plain s.ctype))
named_object v at text n s e f = rw (denoted_at v.rows.now v.parameters.now n, e, f) refl

-- an object is known by its name
pub numbered_known : (v : Names) (at : Place) (text : List ℕ) (n : ℕ) (s : Symbol) (t u : CType) → slice_get v.rows.now n ≡ Some s → s.function ≡ false → plain t ≡ plain s.ctype → u ≡ t
    → named (scope_of v) at.at text (Some n) ≡ Known (judged_as (plain u) (record { lvalue = true; register = s.register; string = false; constant = Variable }))
numbered_known v at text n s t u e f p c = named_object v at.at text n s e f ∙ ap (λ w. Known (variable s.register w)) (sym (ap plain c ∙ p))

pub called_none : (v : Names) (n : ℕ) → slice_get v.rows.now n ≡ None → function_numbered (scope_of v) (Some n) ≡ None
called_none v n e = rw (denoted_at v.rows.now v.parameters.now n, e) refl

pub called_object : (v : Names) (n : ℕ) (s : Symbol) → slice_get v.rows.now n ≡ Some s → s.function ≡ false → function_numbered (scope_of v) (Some n) ≡ None
called_object v n s e f = rw (denoted_at v.rows.now v.parameters.now n, e, f) refl

pub called_function : (v : Names) (n : ℕ) (s : Symbol) → slice_get v.rows.now n ≡ Some s → s.function ≡ true → function_numbered (scope_of v) (Some n) ≡ Some (plain s.ctype, map plain (parameters_by v (Some n)))
called_function v n s e f = rw (denoted_at v.rows.now v.parameters.now n, e, f) refl
