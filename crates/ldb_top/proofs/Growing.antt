-- What a transcript has more behind lines, and fronts.
use Rattle.std.proofs.Common.{◌≡◌, ℕ, List, [], ◌∷◌, ◌++◌, take, drop, Option, None, Some, refl, sym, ap, ◌∙◌, subst, append_assoc, append-nil}
use Rattle.std.proofs.lemmas.List.{take-append-drop}
use Rattle.ldb_edge.specs.Known.{known_and}
use Rattle.cc_call.specs.Faults.{TakesFront}
use Rattle.ldb_top.specs.Conversing.{TakesMore}
use Rattle.ldb_top.specs.Said.{BeginsWith, IsFront}
use Rattle.ldb_top.proofs.Begun.{begins_more}

pub takes_same : (a : Option (List ℕ)) → TakesMore a a
takes_same None = record { more = []; is = refl }
takes_same (Some xs) = record { more = []; is = ap Some (sym (append-nil xs)) }

pub takes_on : (a b c : Option (List ℕ)) → TakesMore a b → TakesMore b c → TakesMore a c
takes_on None b c t u = record { more = []; is = u.is ∙ ap (λ o. known_and o u.more) t.is }
takes_on (Some xs) b c t u = record { more = t.more ++ u.more; is = u.is ∙ ap (λ o. known_and o u.more) t.is ∙ ap Some (append_assoc xs t.more u.more) }

pub takes_front : (a b : Option (List ℕ)) (text : List ℕ) → TakesFront a b text → TakesMore a b
takes_front a b text t = record { more = take t.count text; is = t.front }

pub takes_begins : (a b : Option (List ℕ)) → TakesMore a b → (front : List ℕ) → BeginsWith front a → BeginsWith front b
takes_begins a b t front begins = begins_more front t.more a b t.is begins

-- ---- fronts

pub nothing_front : (xs : List ℕ) → IsFront [] xs
nothing_front xs = record { rest = xs; is = refl }

pub whole_front : (xs : List ℕ) → IsFront xs xs
whole_front xs = record { rest = []; is = sym (append-nil xs) }

pub take_front : (n : ℕ) (xs : List ℕ) → IsFront (take n xs) xs
take_front n xs = record { rest = drop n xs; is = sym (take-append-drop n xs) }

pub known_nothing : (taken : Option (List ℕ)) → known_and taken [] ≡ taken
known_nothing None = refl
known_nothing (Some xs) = ap Some (append-nil xs)

-- nothing has no other front
none_left : (xs : List ℕ) → IsFront xs [] → xs ≡ []
none_left [] f = refl
none_left (x ∷ xs) f = absurd (let e = f.is in cc)

pub front_none : (xs ys : List ℕ) → ys ≡ [] → IsFront xs ys → xs ≡ []
front_none xs ys e f = none_left xs (subst (IsFront xs) e f)
