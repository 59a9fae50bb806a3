-- Calls from what is called and their arguments.
use Rattle.std.proofs.Common.{◌≡◌, ◌+◌, suc, List, [], ◌∷◌, ◌++◌, length, refl, subst, arith}
use Rattle.c_lex.specs.declared.token.Place.{Place}
use Rattle.c_trees.specs.Expressions.{Tree, Call, With, with_arguments}
use Rattle.c_tree.specs.declared.typed.Typed.{Typed}
use Rattle.c_judge.specs.Scope.{Scope}
use Rattle.c_judge.specs.Answers.{Answer, Known, Unknown, Broken, ◌then◌, two}
use Rattle.c_judge.specs.Places.{place_of}
use Rattle.c_judge.specs.Judgement.{Verdict, judged, Callee, calling, called, called_name, argument, arguments_in, name_alone, with_argument}
use Rattle.c_judge.specs.Elaboration.{Elaborates, AreArguments, IsCallee, IsCall, HasHead, callee_of}

abbrev pub IsCallForm : Tree → Type 0
IsCallForm (Call at f) = Unit {0}
IsCallForm (With c a) = Unit {0}
IsCallForm _ = ⊥

pub call_form : (c : Tree) (es : List Tree) → IsCallForm c → IsCallForm (with_arguments c es)
call_form c [] h = h
call_form c (e ∷ es) h = call_form (With c e) es tt

pub one_more : (c : Tree) (es : List Tree) (e : Tree) → with_arguments c (es ++ e ∷ []) ≡ With (with_arguments c es) e
one_more c [] e = refl
one_more c (d ∷ es) e = one_more (With c d) es e

-- a call has as many arguments as stand behind what is called, whose name it has
more_arguments : (c : Tree) (es : List Tree) → arguments_in (with_arguments c es) ≡ arguments_in c + length es
more_arguments c [] = omega arith
more_arguments c (e ∷ es) = omega (arith, more_arguments (With c e) es)

pub arguments_call : (at : Place) (f : Tree) (es : List Tree) → arguments_in (with_arguments (Call at f) es) ≡ length es
arguments_call at f es = let e : arguments_in (with_arguments (Call at f) es) ≡ 0 + length es = more_arguments (Call at f) es in omega (arith, e)

name_with : (c : Tree) (es : List Tree) → called_name (with_arguments c es) ≡ called_name c
name_with c [] = refl
name_with c (e ∷ es) = name_with (With c e) es

pub name_call : (at : Place) (f : Tree) (es : List Tree) → called_name (with_arguments (Call at f) es) ≡ name_alone f
name_call at f es = name_with (Call at f) es

called_with : (r : Answer Callee) (j : Verdict) → two (λ f x. called f) r j ≡ ◌then◌ (two with_argument r j) called
called_with (Broken r q) j = refl
called_with (Known f) (Broken r q) = refl
called_with (Known f) (Unknown name) = refl
called_with (Known f) (Known x) = refl
called_with (Unknown name) (Broken r q) = refl
called_with (Unknown name) (Unknown other) = refl
called_with (Unknown name) (Known x) = refl

module _ (v : Scope) where
  -- a call is judged by what is called and its arguments
  pub judged_call : (t : Tree) → IsCallForm t → judged v t ≡ ◌then◌ (calling v (arguments_in t) t) called
  judged_call (Call at f) h = refl
  judged_call (With c a) h = called_with (calling v (suc (arguments_in c)) c) (◌then◌ (judged v a) (argument v c (place_of a).at))
  judged_call _ h = absurd h

  pub elaborates_call : (t : Tree) (xs : List Typed) (z : Typed) → IsCallForm t → AreArguments v t xs → IsCall (IsCallee v (callee_of t)) xs z → HasHead v t z → Elaborates v t z
  elaborates_call (Call at f) xs z w a i h = (h, subst (λ ys. IsCall (IsCallee v f) ys z) a i)
  elaborates_call (With c b) xs z w a i h = (h, (xs, i, a))
  elaborates_call _ xs z w a i h = absurd w
