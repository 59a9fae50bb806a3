-- Numbers given from the last name to the first: the first of a name counts.
use Rattle.std.proofs.Common.{◌≡◌, ℕ, suc, ◌<◌, List, length, drop, map, ◌∙◌, sym, ap, Option, Some, bytes_eq, slice_index_or, if◌then◌else◌}
use Rattle.std.proofs.Math.Seq.{drop-cons}
use Rattle.std.specs.Map.{update}
use Rattle.c_defs.specs.Numbers.{number_from}

-- one name more in front
pub numbered_more : {A : Type 0} (name : A → List ℕ) (xs : List A) (j : ℕ) (d : A) (text : List ℕ) (old new : List ℕ → Option ℕ) → j < length xs → text ≡ name (slice_index_or xs j d)
    → ((t : List ℕ) → new t ≡ update bytes_eq old text (Some j) t)
    → ((t : List ℕ) → old t ≡ number_from (suc j) (map name (drop (suc j) xs)) t)
    → (t : List ℕ) → new t ≡ number_from j (map name (drop j xs)) t
numbered_more name xs j d text old new h w u o t =
    u t ∙ (ap (λ s. if bytes_eq s t then Some j else old t) w
    ∙ (ap (λ r. if bytes_eq (name (slice_index_or xs j d)) t then Some j else r) (o t) ∙ ap (λ l. number_from j (map name l) t) (sym (drop-cons xs j d h))))
