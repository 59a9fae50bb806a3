-- The first symbol of a name on a chain: no unit is lacking for it.
use Rattle.std.proofs.Common.{◌≡◌, refl, ℕ, zero, suc, ◌-◌, Bool, true, false, bytes_eq, List, codes, Option, Some, None, Ok}
use Rattle.ps_store.specs.declared.object.DictId.{DictId}
use Rattle.ps_store.specs.StoreState.{StoreState}
use Rattle.ps_step.specs.Results.{◌>>=◌}
use Rattle.table_model.specs.declared.lack.Lack.{Lack}
use Rattle.table_model.specs.Reading.{Walked, kind_of, text_at}
use Rattle.table_model.specs.Symbols.{MOST_SYMBOLS, uplink_of, named_among, symbol_named}
use Rattle.ps_places.specs.Lacks.{error_of}
use Rattle.table_asks.proofs.Fair.{LacksOnly, Usual, gives_any, behind_any, text_any, link_any}

-- an error is told of it
abbrev pub IsTold : Lack → Type 0
IsTold l = kind_of l ≡ Some (error_of l)

usually : Usual IsTold
usually = record { key = refl; kind = refl }

abbrev here_or : DictId → Walked (Option DictId) → Bool → Walked (Option DictId)
here_or x onward b = elim b [ true ↦ Ok (Some x) | false ↦ onward ]

here_told : (s : StoreState) (text : List ℕ) (x : DictId) (onward : Walked (Option DictId)) → LacksOnly IsTold onward → LacksOnly IsTold (text_at s x (codes "name") >>= λ name. here_or x onward (bytes_eq name text))
here_told s text x onward h =
    behind_any IsTold (text_at s x (codes "name")) (λ name. here_or x onward (bytes_eq name text)) (text_any IsTold usually s x (codes "name"))
    (λ name e. elim (bytes_eq name text) as (λ b. LacksOnly IsTold (here_or x onward b)) [ true ↦ gives_any IsTold (Some x) | false ↦ h ])

named_told : (n : ℕ) (s : StoreState) (text : List ℕ) (o : Option DictId) → LacksOnly IsTold (named_among n s text o)
named_told n s text None = gives_any IsTold None
named_told zero s text (Some x) = here_told s text x (Ok None) (gives_any IsTold None)
named_told (suc n) s text (Some x) =
    here_told s text x (uplink_of s x >>= named_among n s text) (behind_any IsTold (uplink_of s x) (named_among n s text) (link_any IsTold usually s x (codes "uplink")) (λ o e. named_told n s text o))

pub symbol_told : (s : StoreState) (scope : Option DictId) (text : List ℕ) → LacksOnly IsTold (symbol_named s scope text)
unfolding symbol_named
symbol_told s scope text = named_told (MOST_SYMBOLS - 1) s text scope
