-- A name on a chain, symbol by symbol.
use Rattle.std.proofs.Common.{◌≡◌, refl, ap, ◌∙◌, ℕ, zero, suc, ◌-◌, ◌<◌, Bool, true, false, bytes_eq, Option, Some, None, Ok, Err, List, codes, arith}
use Rattle.ps_store.specs.declared.object.DictId.{DictId}
use Rattle.ps_store.specs.StoreState.{StoreState}
use Rattle.ps_step.specs.Results.{◌>>=◌}
use Rattle.table_model.specs.declared.lack.Lack.{Lack}
use Rattle.table_model.specs.Reading.{Walked, text_at}
use Rattle.table_model.specs.Symbols.{named_among, uplink_of}

module _ (s : StoreState) (text : List ℕ) (x : DictId) where
  -- what comes of a symbol, by what is onward of it
  abbrev here : Walked (Option DictId) → Walked (List ℕ) → Walked (Option DictId)
  here onward own = own >>= λ name. elim (bytes_eq name text) [ true ↦ Ok (Some x) | false ↦ onward ]

  abbrev onward : ℕ → Walked (Option DictId)
  onward zero = Ok None
  onward (suc n) = uplink_of s x >>= named_among n s text

  named_here : (n : ℕ) → named_among n s text (Some x) ≡ here (onward n) (text_at s x (codes "name"))
  named_here zero = refl
  named_here (suc n) = refl

  pub chain_lacks : (n : ℕ) (l : Lack) → text_at s x (codes "name") ≡ Err l → named_among n s text (Some x) ≡ Err l
  chain_lacks n l e = named_here n ∙ ap (here (onward n)) e

  module _ (own : List ℕ) (e : text_at s x (codes "name") ≡ Ok own) where
    pub chain_found : (n : ℕ) → bytes_eq own text ≡ true → named_among n s text (Some x) ≡ Ok (Some x)
    chain_found n same = named_here n ∙ ap (here (onward n)) e ∙ ap (λ (b : Bool). elim b [ true ↦ Ok (Some x) | false ↦ onward n ]) same

    other : (n : ℕ) → bytes_eq own text ≡ false → named_among n s text (Some x) ≡ onward n
    other n differs = named_here n ∙ ap (here (onward n)) e ∙ ap (λ (b : Bool). elim b [ true ↦ Ok (Some x) | false ↦ onward n ]) differs

    pub chain_ends : (n : ℕ) → n ≡ 0 → bytes_eq own text ≡ false → named_among n s text (Some x) ≡ Ok None
    chain_ends zero z differs = other zero differs
    chain_ends (suc n) z differs = absurd (omega (arith, z))

    pub chain_lost : (n : ℕ) (l : Lack) → 0 < n → bytes_eq own text ≡ false → uplink_of s x ≡ Err l → named_among n s text (Some x) ≡ Err l
    chain_lost zero l some differs up = absurd (omega (arith, some))
    chain_lost (suc n) l some differs up = other (suc n) differs ∙ ap (λ (o : Walked (Option DictId)). o >>= named_among n s text) up

    pub chain_on : (n : ℕ) (next : Option DictId) → 0 < n → bytes_eq own text ≡ false → uplink_of s x ≡ Ok next → named_among n s text (Some x) ≡ named_among (n - 1) s text next
    chain_on zero next some differs up = absurd (omega (arith, some))
    chain_on (suc n) next some differs up =
        let same : n ≡ suc n - 1 = omega arith in
        other (suc n) differs ∙ ap (λ (o : Walked (Option DictId)). o >>= named_among n s text) up ∙ ap (λ k. named_among k s text next) same
