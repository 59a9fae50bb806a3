-- What a transcript begins with.
use Rattle.std.proofs.Common.{◌≡◌, ℕ, List, ◌++◌, take, Option, None, Some, sym, ap, ◌∙◌, subst, append_assoc, append-nil, [], refl}
use Rattle.ldb_edge.specs.Known.{known_and}
use Rattle.cc_call.specs.Faults.{TakesFront}
use Rattle.ldb_top.specs.Said.{BeginsWith}

known_none : (taken : Option (List ℕ)) → taken ≡ known_and taken []
known_none None = refl
known_none (Some xs) = ap Some (sym (append-nil xs))

more_known : (front more : List ℕ) (taken : Option (List ℕ)) → BeginsWith front taken → BeginsWith front (known_and taken more)
more_known front more None b = tt
more_known front more (Some xs) b = record { rest = b.rest ++ more; is = ap (λ ys. ys ++ more) b.is ∙ append_assoc front b.rest more }

-- once more was taken
pub begins_more : (front more : List ℕ) (taken taken' : Option (List ℕ)) → taken' ≡ known_and taken more → BeginsWith front taken → BeginsWith front taken'
begins_more front more taken taken' e b = subst (BeginsWith front) (sym e) (more_known front more taken b)

-- where nothing was taken, a front of any text was
pub front_nothing : (text : List ℕ) (taken taken' : Option (List ℕ)) → taken' ≡ taken → TakesFront taken taken' text
front_nothing text taken taken' e = record { count = 0; front = e ∙ known_none taken }

-- once the front of a text was taken
pub begins_front : (front text : List ℕ) (taken taken' : Option (List ℕ)) → TakesFront taken taken' text → BeginsWith front taken → BeginsWith front taken'
begins_front front text taken taken' t b = begins_more front (take t.count text) taken taken' t.front b
