-- Calls are no strings, and lists in braces have so many items.
use Rattle.std.proofs.Common.{◌≡◌, ◌+◌, List, [], ◌∷◌, length, refl, None, arith}
use Rattle.c_lex.specs.declared.token.Place.{Place}
use Rattle.c_trees.specs.Expressions.{Tree, Call, With, with_arguments}
use Rattle.c_trees.specs.Initializers.{InitialTree, Braces, Item, with_items}
use Rattle.c_initial.specs.Initials.{text_of, count_of}

with_more : (c e : Tree) (es : List Tree) → text_of (with_arguments (With c e) es) ≡ None
with_more c e [] = refl
with_more c e (d ∷ es) = with_more (With c e) d es

pub call_is_no_text : (at : Place) (f : Tree) (es : List Tree) → text_of (with_arguments (Call at f) es) ≡ None
call_is_no_text at f [] = refl
call_is_no_text at f (e ∷ es) = with_more (Call at f) e es

counted : (i : InitialTree) (js : List InitialTree) → count_of (with_items i js) ≡ count_of i + length js
counted i [] = omega arith
counted i (j ∷ js) = omega (arith, counted (Item i j) js)

pub count_braces : (at : Place) (js : List InitialTree) → count_of (with_items (Braces at) js) ≡ length js
count_braces at js = omega (arith, counted (Braces at) js)
