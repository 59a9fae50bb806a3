-- The names and tags of calls and of declarators with bounds.
use Rattle.std.proofs.Common.{◌≡◌, List, [], ◌∷◌, ◌++◌, ◌∙◌, refl, ap, sym, Option, Some, None}
use Rattle.std.proofs.lemmas.List.{append_assoc}
use Rattle.c_lex.specs.declared.token.Place.{Place}
use Rattle.c_trees.specs.Expressions.{Tree, Call, With, Bounded, Unbounded, with_arguments, with_bounds}
use Rattle.c_names.specs.declared.mention.Mention.{Mention}
use Rattle.c_names.specs.Mentions.{mentions, in_all, in_part}

nil : (xs : List Mention) → xs ≡ xs ++ []
nil [] = refl
nil (x ∷ xs) = ap (λ ys. x ∷ ys) (nil xs)

pub nothing_behind : (xs : List Mention) → (xs ++ []) ≡ xs
nothing_behind xs = sym (nil xs)

mentions_arguments : (c : Tree) (es : List Tree) → mentions (with_arguments c es) ≡ (mentions c ++ in_all mentions es)
mentions_arguments c [] = nil (mentions c)
mentions_arguments c (e ∷ es) = mentions_arguments (With c e) es ∙ append_assoc (mentions c) (mentions e) (in_all mentions es)

-- a list with the two parts behind it
behind : (xs ys zs ws : List Mention) → ws ≡ (ys ++ zs) → (xs ++ ws) ≡ ((xs ++ ys) ++ zs)
behind xs ys zs ws e = ap (λ vs. xs ++ vs) e ∙ sym (append_assoc xs ys zs)

pub mentions_call : (xs : List Mention) (at : Place) (f : Tree) (es : List Tree) → (xs ++ mentions (with_arguments (Call at f) es)) ≡ ((xs ++ mentions f) ++ in_all mentions es)
mentions_call xs at f es = behind xs (mentions f) (in_all mentions es) (mentions (with_arguments (Call at f) es)) (mentions_arguments (Call at f) es)

more_bounds : (d : Tree) (bs : List (Option Tree)) → mentions (with_bounds d bs) ≡ (mentions d ++ in_all (in_part mentions) bs)
more_bounds d [] = nil (mentions d)
more_bounds d (None ∷ bs) = more_bounds (Unbounded d) bs
more_bounds d (Some e ∷ bs) = more_bounds (Bounded d e) bs ∙ append_assoc (mentions d) (mentions e) (in_all (in_part mentions) bs)

pub mentions_bounds : (xs : List Mention) (d : Tree) (bs : List (Option Tree)) → (xs ++ mentions (with_bounds d bs)) ≡ ((xs ++ mentions d) ++ in_all (in_part mentions) bs)
mentions_bounds xs d bs = behind xs (mentions d) (in_all (in_part mentions) bs) (mentions (with_bounds d bs)) (more_bounds d bs)
