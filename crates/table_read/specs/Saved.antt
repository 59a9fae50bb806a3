-- Entries of `/saved`.
use Rattle.std.specs.Prelude.{ℕ, List, [], ◌∷◌, Option, Ok}
use Rattle.ps_store.specs.declared.object.PsObj.{PsObj}
use Rattle.ps_store.specs.StoreState.{StoreState}
use Rattle.ps_step.specs.Results.{◌>>=◌}
use Rattle.table_model.specs.Reading.{Walked, items_in, all_in}
use Rattle.table_model.specs.Frames.{Saved, saved_pair, kept_at, or_else}

abbrev pub pair_in : StoreState → PsObj → Walked (List Saved)
pair_in s x = items_in s x >>= saved_pair

abbrev pub pair_of : ℕ → ℕ → List Saved
pair_of n o = record { register = n; offset = o } ∷ []

-- where a frame keeps a register, by the entries of its function
abbrev pub kept_in : StoreState → List PsObj → (base register : ℕ) → Walked (Option ℕ)
kept_in s items base r = all_in (pair_in s) items >>= λ saved. Ok (kept_at base saved r)

-- The same one entry after another, behind entries that have told a place or none. No public contract cites it.
abbrev pub kept_from : StoreState → (base register : ℕ) → Option ℕ → List PsObj → Walked (Option ℕ)
kept_from s base r o [] = Ok o
kept_from s base r o (x ∷ xs) = pair_in s x >>= λ p. kept_from s base r (or_else o (kept_at base p r)) xs
