-- What a sink took, piece by piece.
use Rattle.std.proofs.Common.{◌≡◌, ◌∙◌, refl, sym, ap, ℕ, ◌+◌, List, [], ◌++◌, take, drop, Option, Some, None, append_assoc, append-nil, take-append-drop}
use Rattle.std.proofs.Math.Seq.{take-add}
use Rattle.ldb_edge.specs.Known.{known_and}
use Rattle.resuming.specs.Runs.{TakesFront}

-- one piece after another
pub known_twice : (known : Option (List ℕ)) (xs ys : List ℕ) → known_and (known_and known xs) ys ≡ known_and known (xs ++ ys)
known_twice None xs ys = refl
known_twice (Some zs) xs ys = ap Some (append_assoc zs xs ys)

-- nothing more
pub known_none : (known : Option (List ℕ)) → known ≡ known_and known []
known_none None = refl
known_none (Some xs) = ap Some (sym (append-nil xs))

-- the front of a text, and n bytes more of it
pub known_more : (known : Option (List ℕ)) (d n : ℕ) (t : List ℕ) → known_and (known_and known (take d t)) (take n (drop d t)) ≡ known_and known (take (d + n) t)
known_more known d n t = known_twice known (take d t) (take n (drop d t)) ∙ ap (known_and known) (sym (take-add d n t))

pub taken_front : (old new : Option (List ℕ)) (n : ℕ) (bytes : List ℕ) → new ≡ known_and old (take n bytes) → TakesFront old new bytes
taken_front old new n bytes e = record { front = take n bytes; back = drop n bytes; whole = take-append-drop n bytes; taken = e }

pub none_taken : (old : Option (List ℕ)) (bytes : List ℕ) → TakesFront old old bytes
none_taken old bytes = record { front = []; back = bytes; whole = refl; taken = known_none old }

-- behind what was taken, the front of more
pub front_behind : (old new more : Option (List ℕ)) (gone bytes rest whole : List ℕ) → new ≡ known_and old gone → gone ++ (bytes ++ rest) ≡ whole → TakesFront new more bytes → TakesFront old more whole
front_behind old new more gone bytes rest whole before is f = record {
  front = gone ++ f.front;
  back = f.back ++ rest;
  whole = append_assoc gone f.front (f.back ++ rest)
      ∙ ap (λ (l : List ℕ). gone ++ l) (sym (append_assoc f.front f.back rest) ∙ ap (λ (l : List ℕ). l ++ rest) f.whole)
      ∙ is;
  taken = f.taken ∙ ap (λ (k : Option (List ℕ)). known_and k f.front) before ∙ known_twice old gone f.front;
}
