-- Where the names of a dictionary may stand. Each name is in one of 128 buckets, and each bucket has a hint: 0 where no
-- key is in it, or one more than the place of a pair whose key may be a name of it.
use Rattle.std.specs.Prelude.{◌≡◌, ℕ, ◌+◌, ◌%◌, List, Option, Some, None, slice_set, slice_index_or}
use Rattle.ps_store.specs.declared.key.Key.{Key}
use Rattle.ps_store.specs.declared.key.Key.TheVariants.{Name, Int, Bool as Truth}
use Rattle.ps_store.specs.declared.object.Pair.{Pair}
use Rattle.ps_store.specs.Hashed.{text_hash}
use Rattle.ps_store.specs.Operators.{operator_number}
use Rattle.ps_store.specs.Entries.{value_at}

-- the bucket of a name with this hash, and with this number if it is an operator's
abbrev pub bucket : ℕ → Option ℕ → ℕ
bucket hash (Some number) = number
bucket hash None = 94 + hash % 34

-- the bucket of a name
unfoldable pub bucket_of : List ℕ → ℕ
bucket_of text = bucket (text_hash text) (operator_number text)

-- no key is a name of a bucket whose hint is 0
abbrev pub Hinted : List ℕ → List (Key × Pair) → Type 0
Hinted hints es = (text : List ℕ) → slice_index_or hints (bucket_of text) 1 ≡ 0 → value_at es (Name text) ≡ None

-- the hints with a hint for a key
abbrev pub with_hint : List ℕ → Key → ℕ → List ℕ
with_hint hints (Name text) hint = slice_set hints (bucket_of text) hint
with_hint hints (Int n) hint = hints
with_hint hints (Truth b) hint = hints
