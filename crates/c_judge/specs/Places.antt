-- Where expressions begin.
use Rattle.c_lex.specs.declared.token.Place.{Place}
use Rattle.c_trees.specs.Expressions.{Tree, Leaf, Paren, Index, Call, With, Member, After, Prefix, SizeofType, Cast, Binary, Choice}

-- where an expression begins
abbrev pub place_of : Tree → Place
place_of (Leaf at _ _) = at
place_of (Paren at _) = at
place_of (Index at _ _) = at
place_of (Call at _) = at
place_of (With c _) = place_of c
place_of (Member at _ _ _ _) = at
place_of (After at _ _) = at
place_of (Prefix at _ _) = at
place_of (SizeofType at _ _) = at
place_of (Cast at _ _ _) = at
place_of (Binary at _ _ _) = at
place_of (Choice at _ _ _) = at
place_of _ = record { at = 0; line = 0; column = 0 }
