-- The first name that is not in scope and the first forbidden form, of calls and of declarators.
use Rattle.std.proofs.Common.{◌≡◌, ℕ, List, [], ◌∷◌, ◌∙◌, refl, ap, Option, Some, None}
use Rattle.c_lex.specs.declared.token.Place.{Place}
use Rattle.c_trees.specs.Expressions.{Tree, Call, With, Bounded, Unbounded, with_arguments, with_bounds}
use Rattle.c_judge.specs.Scope.{Scope}
use Rattle.c_judge.specs.Forms.{first_of, unknown, unknown_all, unknown_bounds, forbidden, forbidden_bounds, forbidden_beside}
use Rattle.c_judge.specs.Places.{place_of}

first_assoc : {A : Type 0} (a b c : Option A) → first_of (first_of a b) c ≡ first_of a (first_of b c)
first_assoc None b c = refl
first_assoc (Some x) b c = refl

first_none : {A : Type 0} (a : Option A) → a ≡ first_of a None
first_none None = refl
first_none (Some x) = refl

unknown_with : (v : Scope) (c : Tree) (es : List Tree) → unknown v (with_arguments c es) ≡ first_of (unknown v c) (unknown_all v es)
unknown_with v c [] = first_none (unknown v c)
unknown_with v c (e ∷ es) = unknown_with v (With c e) es ∙ first_assoc (unknown v c) (unknown v e) (unknown_all v es)

pub unknown_call : (v : Scope) (at : Place) (f : Tree) (es : List Tree) → unknown v (with_arguments (Call at f) es) ≡ first_of (unknown v f) (unknown_all v es)
unknown_call v at f es = unknown_with v (Call at f) es

pub unknown_declarator : (v : Scope) (d : Tree) (bs : List (Option Tree)) → unknown v (with_bounds d bs) ≡ first_of (unknown v d) (unknown_bounds v bs)
unknown_declarator v d [] = first_none (unknown v d)
unknown_declarator v d (None ∷ bs) = unknown_declarator v (Unbounded d) bs
unknown_declarator v d (Some e ∷ bs) = unknown_declarator v (Bounded d e) bs ∙ first_assoc (unknown v d) (unknown v e) (unknown_bounds v bs)

forbidden_with : (c : Tree) (n : ℕ) (es : List Tree) → forbidden c ≡ Some n → forbidden (with_arguments c es) ≡ Some n
forbidden_with c n [] h = h
forbidden_with c n (e ∷ es) h = forbidden_with (With c e) n es (ap (λ o. first_of o (forbidden e)) h)

pub forbidden_call : (at : Place) (f : Tree) (es : List Tree) → forbidden (with_arguments (Call at f) es) ≡ Some at.at
forbidden_call at f es = forbidden_with (Call at f) at.at es refl

pub forbidden_declarator : (d : Tree) (bs : List (Option Tree)) → forbidden (with_bounds d bs) ≡ first_of (forbidden d) (forbidden_bounds bs)
forbidden_declarator d [] = first_none (forbidden d)
forbidden_declarator d (None ∷ bs) = forbidden_declarator (Unbounded d) bs
forbidden_declarator d (Some e ∷ bs) = forbidden_declarator (Bounded d e) bs ∙ first_assoc (forbidden d) (forbidden e) (forbidden_bounds bs)

beside_with : (c e : Tree) (es : List Tree) → forbidden_beside (with_arguments (With c e) es) ≡ Some (place_of c).at
beside_with c e [] = refl
beside_with c e (d ∷ es) = beside_with (With c e) d es

pub beside_call : (at : Place) (f : Tree) (es : List Tree) → forbidden_beside (with_arguments (Call at f) es) ≡ Some at.at
beside_call at f [] = refl
beside_call at f (e ∷ es) = beside_with (Call at f) e es
