-- A call is no name alone, and begins where what is called does.
use Rattle.std.proofs.Common.{◌≡◌, List, [], ◌∷◌, refl, None}
use Rattle.c_lex.specs.declared.token.Place.{Place}
use Rattle.c_trees.specs.Expressions.{Tree, Call, With, with_arguments}
use Rattle.c_judge.specs.Judgement.{name_alone}
use Rattle.c_judge.specs.Places.{place_of}

with_more : (c e : Tree) (es : List Tree) → name_alone (with_arguments (With c e) es) ≡ None
with_more c e [] = refl
with_more c e (d ∷ es) = with_more (With c e) d es

pub no_name : (at : Place) (f : Tree) (es : List Tree) → name_alone (with_arguments (Call at f) es) ≡ None
no_name at f [] = refl
no_name at f (e ∷ es) = with_more (Call at f) e es

place_with : (c : Tree) (es : List Tree) → place_of (with_arguments c es) ≡ place_of c
place_with c [] = refl
place_with c (e ∷ es) = place_with (With c e) es

pub place_call : (at : Place) (f : Tree) (es : List Tree) → place_of (with_arguments (Call at f) es) ≡ at
place_call at f es = place_with (Call at f) es
