-- The tags of a program are those that its files mention.
use Rattle.std.proofs.Common.{◌≡◌, refl, sym, ap, ℕ, Bool, true, false, ◌||◌, true≢false, List, [], ◌∷◌, ◌++◌, bytes_eq, if◌then◌else◌}
use Rattle.std.proofs.lemmas.Slice.Eq.{bytes_eq-Decides}
use Rattle.c_trees.specs.declared.unit.External.{External}
use Rattle.c_typing.specs.Declarations.{is_named}
use Rattle.c_mentions.specs.Tags.{in_all, in_external, each_once}
use Rattle.c_linkage.specs.FileTags.{tags_of}
use Rattle.c_accepted.proofs.Shapes.{AreTags}

or_right : (a b : Bool) → b ≡ true → (a || b) ≡ true
or_right true b h = refl
or_right false b h = h

named_before : (seen : List (List ℕ)) (x t : List ℕ) → is_named seen t ≡ true → is_named (seen ++ x ∷ []) t ≡ true
named_before [] x t h = absurd (true≢false (sym h))
named_before (s ∷ seen) x t h = by (bytes_eq s t) h (λ e. named_before seen x t e)
  where
    by : (b : Bool) → (b || is_named seen t) ≡ true → (is_named seen t ≡ true → is_named (seen ++ x ∷ []) t ≡ true) → (b || is_named (seen ++ x ∷ []) t) ≡ true
    by true e w = refl
    by false e w = w e

named_last : (seen : List (List ℕ)) (t : List ℕ) → is_named (seen ++ t ∷ []) t ≡ true
named_last [] t = ap (λ b. b || false) ((bytes_eq-Decides t t).1 refl)
named_last (s ∷ seen) t = or_right (bytes_eq s t) (is_named (seen ++ t ∷ []) t) (named_last seen t)

stays_named : (xs seen : List (List ℕ)) (t : List ℕ) → is_named seen t ≡ true → is_named (each_once seen xs) t ≡ true
stays_named [] seen t h = h
stays_named (x ∷ xs) seen t h = by (is_named seen x) (stays_named xs seen t h) (stays_named xs (seen ++ x ∷ []) t (named_before seen x t h))
  where
    by : (b : Bool) → is_named (each_once seen xs) t ≡ true → is_named (each_once (seen ++ x ∷ []) xs) t ≡ true → is_named (if b then each_once seen xs else each_once (seen ++ x ∷ []) xs) t ≡ true
    by true p q = p
    by false p q = q

all_named : (xs seen : List (List ℕ)) → AreTags (each_once seen xs) xs
all_named [] seen = tt
all_named (x ∷ xs) seen = by (is_named seen x) refl (all_named xs seen) (all_named xs (seen ++ x ∷ []))
  where
    by : (b : Bool) → is_named seen x ≡ b → AreTags (each_once seen xs) xs → AreTags (each_once (seen ++ x ∷ []) xs) xs → AreTags (if b then each_once seen xs else each_once (seen ++ x ∷ []) xs) (x ∷ xs)
    by true e p q = (stays_named xs seen x e, p)
    by false e p q = (stays_named xs (seen ++ x ∷ []) x (named_last seen x), q)

pub tags_there : (us : List (List External)) → AreTags (tags_of us) (in_all (in_all in_external) us)
tags_there us = all_named (in_all (in_all in_external) us) []
