-- Locals on a chain, one after another.
use Rattle.std.proofs.Common.{◌≡◌, ◌∙◌, refl, ap, ℕ, zero, suc, Bool, true, false, List, codes, Option, Some, None, Ok, Err}
use Rattle.ps_store.specs.declared.object.PsObj.{PsObj}
use Rattle.ps_store.specs.declared.object.DictId.{DictId}
use Rattle.ps_store.specs.StoreState.{StoreState}
use Rattle.ps_step.specs.Results.{◌>>=◌}
use Rattle.table_model.specs.declared.found.Found.{Found}
use Rattle.table_model.specs.Reading.{Walked, procedure_at}
use Rattle.table_model.specs.Symbols.{is_local, uplink_of}
use Rattle.table_model.specs.Objects.{found_symbol, local_here, local_among}
use Rattle.locate.specs.Chain.{local_one}

-- what a symbol says, or else what comes behind it
abbrev pub by_one : Walked (Option Found) → Option (Option Found) → Walked (Option Found)
by_one onward None = Ok None
by_one onward (Some None) = onward
by_one onward (Some (Some o)) = Ok (Some o)

abbrev or_onward : Walked (Option Found) → Option Found → Walked (Option Found)
or_onward onward (Some o) = Ok (Some o)
or_onward onward None = onward

abbrev if_local : {A : Type 0} → Walked (Option A) → Bool → Walked (Option A)
if_local x false = Ok None
if_local x true = x

one_here : (is : Bool) (x onward : Walked (Option Found)) → if_local (x >>= or_onward onward) is ≡ (if_local (x >>= λ found. Ok (Some found)) is >>= by_one onward)
one_here false x onward = refl
one_here true (Ok None) onward = refl
one_here true (Ok (Some o)) onward = refl
one_here true (Err l) onward = refl

parts : (w : Walked (List PsObj)) (test : List PsObj → Bool) (found : List PsObj → Walked (Option Found)) (onward : Walked (Option Found))
    → (w >>= λ xs. if_local (found xs >>= or_onward onward) (test xs)) ≡ ((w >>= λ xs. if_local (found xs >>= λ o. Ok (Some o)) (test xs)) >>= by_one onward)
parts (Ok xs) test found onward = one_here (test xs) (found xs) onward
parts (Err l) test found onward = refl

here_by_one : (s : StoreState) (base address : ℕ) (x : DictId) (onward : Walked (Option Found)) → local_here s base address x onward ≡ (local_one s base address x >>= by_one onward)
here_by_one s base address x onward = parts (procedure_at s x (codes "where")) (λ xs. is_local s xs) (λ xs. found_symbol s (Some base) address x xs) onward

-- what comes behind a symbol, where at most so many more do
abbrev pub behind : ℕ → StoreState → (base address : ℕ) → DictId → Walked (Option Found)
behind zero s base address x = Ok None
behind (suc n) s base address x = uplink_of s x >>= local_among n s base address

among_here : (n : ℕ) (s : StoreState) (base address : ℕ) (x : DictId) → local_among n s base address (Some x) ≡ (local_one s base address x >>= by_one (behind n s base address x))
among_here zero s base address x = here_by_one s base address x (Ok None)
among_here (suc n) s base address x = here_by_one s base address x (uplink_of s x >>= local_among n s base address)

-- no symbol is left
pub among_none : (n : ℕ) (s : StoreState) (base address : ℕ) (next : Option DictId) → next ≡ None → local_among n s base address next ≡ Ok None
among_none n s base address next e = ap (λ (o : Option DictId). local_among n s base address o) e ∙ none_left n s base address
  where
    none_left : (n : ℕ) (s : StoreState) (base address : ℕ) → local_among n s base address None ≡ Ok None
    none_left zero s base address = refl
    none_left (suc n) s base address = refl

-- by what the symbol says
pub among_by : (n : ℕ) (s : StoreState) (base address : ℕ) (next : Option DictId) (x : DictId) (said : Walked (Option (Option Found))) → next ≡ Some x → local_one s base address x ≡ said
    → local_among n s base address next ≡ (said >>= by_one (behind n s base address x))
among_by n s base address next x said e is =
    ap (λ (o : Option DictId). local_among n s base address o) e
    ∙ among_here n s base address x
    ∙ ap (λ (w : Walked (Option (Option Found))). w >>= by_one (behind n s base address x)) is

-- the next symbol is looked at
pub among_behind : (n k : ℕ) (s : StoreState) (base address : ℕ) (next : Option DictId) (x : DictId) (up : Walked (Option DictId)) → n ≡ suc k → next ≡ Some x → local_one s base address x ≡ Ok (Some None) → uplink_of s x ≡ up
    → local_among n s base address next ≡ (up >>= local_among k s base address)
among_behind n k s base address next x up more e is linked =
    ap (λ j. local_among j s base address next) more
    ∙ among_by (suc k) s base address next x (Ok (Some None)) e is
    ∙ ap (λ (w : Walked (Option DictId)). w >>= local_among k s base address) linked
