-- Dictionaries, as lists of keys and pairs in the order in which the keys were first put. A pair has its key as an object,
-- and its value.
use Rattle.std.specs.Prelude.{ℕ, zero, suc, Option, Some, None, if◌then◌else◌, List, [], ◌∷◌, position, option_map, slice_get}
use Rattle.std.specs.Map.{keys_of}
use Rattle.ps_store.specs.declared.key.Key.{Key}
use Rattle.ps_store.specs.declared.object.PsObj.{PsObj}
use Rattle.ps_store.specs.declared.object.Pair.{Pair}
use Rattle.ps_store.specs.Key.{same_key}

-- the value under a key
abbrev pub value_at : List (Key × Pair) → Key → Option PsObj
value_at [] key = None
value_at (e ∷ es) key = if same_key key e.0 then Some e.1.value else value_at es key

-- a pair with another value
abbrev pub with_value : Key × Pair → PsObj → Key × Pair
with_value e value = (e.0, record e.1 { value = value })

-- the pairs with another value under a key, if it is there
abbrev pub replaced : List (Key × Pair) → Key → PsObj → List (Key × Pair)
replaced [] key value = []
replaced (e ∷ es) key value = if same_key key e.0 then with_value e value ∷ es else e ∷ replaced es key value

-- the place of a key
abbrev pub place_of : List (Key × Pair) → Key → Option ℕ
place_of es key = position (same_key key) (keys_of es)

-- the value at a place; the pairs with another value there
abbrev pub value_in : List (Key × Pair) → Option ℕ → Option PsObj
value_in es None = None
value_in es (Some i) = option_map (λ e. e.1.value) (slice_get es i)

abbrev pub with_value_in : List (Key × Pair) → ℕ → PsObj → List (Key × Pair)
with_value_in [] i value = []
with_value_in (e ∷ es) zero value = with_value e value ∷ es
with_value_in (e ∷ es) (suc i) value = e ∷ with_value_in es i value
