-- What a sink took, piece by piece.
use Rattle.std.proofs.Common.{◌≡◌, ℕ, ◌+◌, List, [], ◌++◌, take, drop, Option, None, Some, refl, sym, ap, ◌∙◌, append_assoc, append-nil}
use Rattle.std.proofs.Math.Seq.{take-add}
use Rattle.ldb_edge.specs.Known.{known_and}

-- one piece after another
pub known_twice : (known : Option (List ℕ)) (a b : List ℕ) → known_and (known_and known a) b ≡ known_and known (a ++ b)
known_twice None a b = refl
known_twice (Some xs) a b = ap Some (append_assoc xs a b)

-- the front of a text, and n bytes more of it
pub known_more : (known : Option (List ℕ)) (d n : ℕ) (t : List ℕ) → known_and (known_and known (take d t)) (take n (drop d t)) ≡ known_and known (take (d + n) t)
known_more known d n t = known_twice known (take d t) (take n (drop d t)) ∙ ap (known_and known) (sym (take-add d n t))

-- nothing more
pub known_none : (known : Option (List ℕ)) → known ≡ known_and known []
known_none None = refl
known_none (Some xs) = ap Some (sym (append-nil xs))
