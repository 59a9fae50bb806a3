-- What a memory with kept values tells.
use Rattle.std.proofs.Common.{◌≡◌, ◌⊎◌, ℕ, Bool, true, List, Contains, Some, Result, Ok, Err, OnOk, OnErr, refl, sym, ap, ◌∙◌, subst, inl, inr}
use Rattle.std.specs.Map.{lookup}
use Rattle.ldb_words.specs.declared.kinds.Kind.{Kind}
use Rattle.frame_bytes.specs.declared.frame.Space.{Space}
use Rattle.frame_bytes.specs.declared.frame.Place.{Place}
use Rattle.frame_bytes.specs.Bytes.{Bytes, fetched}
use Rattle.lru.specs.LruCache.{LruCache, lru_cache, promoted, put_entries}
use Rattle.lru.proofs.CallerLemmas.{Contains-lookup, Contains-promoted, Contains-put_entries, IsPut}
use Rattle.abs_mem.specs.declared.memory.MemFault.{MemFault}
use Rattle.abs_mem.specs.declared.memory.MemFault.TheVariants.{Outside, LinkFault, BadReply}
use Rattle.abs_mem.specs.Meaning.{Seen, Same, Fetches}
use Rattle.mem_cache.specs.declared.cached.Access.{Access}
use Rattle.mem_cache.specs.Kept.{access_of, AreRight, KeptTells, kept_seen}
use Rattle.mem_cache.proofs.Keys.{same_access}

abbrev Entry : Type 0
Entry = Access × ℕ

-- each of these was there
abbrev pub AreAmong : List Entry → List Entry → Type 0
AreAmong kept' kept = (e : Entry) → Contains kept' e → Contains kept e

-- each was there, or is the number of this access
abbrev pub AreAmongOr : List Entry → List Entry → Access → ℕ → Type 0
AreAmongOr kept' kept key v = (e : Entry) → Contains kept' e → Contains kept e ⊎ ((e.1 ≡ v) × (key ≡ e.0))

-- only this access passes the test
abbrev pub IsTestOf : Access → (Access → Bool) → Type 0
IsTestOf a test = (b : Access) → test b ≡ true → a ≡ b

right_among : (kept kept' : List Entry) (b : Bytes) → AreAmong kept' kept → AreRight kept b → AreRight kept' b
right_among kept kept' b a h p k v c = h p k v (a (access_of p k, v) c)

-- ---- a value that was kept

module _ {R : Type 0} (s : Seen R) (kept kept' : List Entry) (a : AreAmong kept' kept) where
  stays : Same (kept_seen kept s) (kept_seen kept' s)
  stays = record {
    faults = refl;
    keeps = λ (b : Bytes) (r : R) (t : KeptTells s kept b r). record { below = t.below; right = right_among kept kept' b a t.right };
  }

  module _ (p : Place) (k : Kind) (key : Access) (v : ℕ) (is : key ≡ access_of p k) (test : Access → Bool) (found : lookup test kept' ≡ Some v) (honest : IsTestOf key test) where
    number : Contains kept (access_of p k, v)
    number =
        let x = Contains-lookup test kept' v found in
        a (access_of p k, v) (subst (λ (n : Access). Contains kept' (n, v)) (sym (honest x.0 x.2) ∙ is) x.1)

    pub kept_fetch : Fetches (kept_seen kept s) p k (Ok v) (kept_seen kept' s)
    kept_fetch = (stays, record { holds = λ (b : Bytes) (r : R) (t : KeptTells s kept b r). t.right p k v number })

-- ---- a value that was fetched below

module _ {R : Type 0} (s s' : Seen R) (kept kept' : List Entry) (p : Place) (k : Kind) where
  told_now : (v : ℕ) (b : Bytes) → fetched b p.space p.at k ≡ Some v → (q : Place) (j : Kind) (w : ℕ) → (w ≡ v) × (access_of p k ≡ access_of q j)
      → fetched b q.space q.at j ≡ Some w
  told_now v b h q j w e =
      let x = same_access p q k j e.1 in
      ap (λ (s : Space). fetched b s q.at j) x.0
      ∙ (ap (λ (n : ℕ). fetched b p.space n j) x.1 ∙ (ap (λ (i : Kind). fetched b p.space p.at i) x.2 ∙ (h ∙ ap (λ (n : ℕ). Some n) (sym e.0))))

  module _ (key : Access) (v : ℕ) (is : key ≡ access_of p k) (a : AreAmongOr kept' kept key v) where
    right_or : (b : Bytes) → fetched b p.space p.at k ≡ Some v → AreRight kept b → AreRight kept' b
    right_or b h was q j w c = elim (a (access_of q j, w) c) [
      | inl x ↦ was q j w x
      | inr x ↦ told_now v b h q j w (x.0, sym is ∙ x.1)
    ]

    pub fresh_fetch : Fetches s p k (Ok v) s' → Fetches (kept_seen kept s) p k (Ok v) (kept_seen kept' s')
    fresh_fetch h = (
      record {
        faults = h.0.faults;
        keeps = λ (b : Bytes) (r : R) (t : KeptTells s kept b r).
            record { below = h.0.keeps b r t.below; right = right_or b (h.1.holds b r t.below) t.right };
      },
      record { holds = λ (b : Bytes) (r : R) (t : KeptTells s kept b r). h.1.holds b r t.below },
    )

  pub failed_fetch : (f : MemFault) → AreAmong kept' kept → Fetches s p k (Err f) s' → Fetches (kept_seen kept s) p k (Err f) (kept_seen kept' s')
  failed_fetch (Outside q) a h = (
    h.0,
    record {
      faults = h.1.faults;
      keeps = λ (b : Bytes) (r : R) (t : KeptTells s kept b r).
          record { below = h.1.keeps b r t.below; right = right_among kept kept' b a t.right };
    },
    record { holds = λ (b : Bytes) (r : R) (t : KeptTells s kept b r). h.2.holds b r t.below },
  )
  failed_fetch LinkFault a h = h
  failed_fetch (BadReply frame) a h = record { faults = h.faults; never = λ (b : Bytes) (r : R) (t : KeptTells s kept b r). h.never b r t.below }

-- ---- what is kept after a call of the cache

abbrev Cache : Type 0
Cache = LruCache Access ℕ

abbrev entries_of : Cache → List Entry
entries_of c = c.entries

pub promoted_are_among : (test : Access → Bool) (c c' : Cache) → c' ≡ lru_cache (promoted test c.entries) c.cap → AreAmong c'.entries c.entries
promoted_are_among test c c' h e x = Contains-promoted test c.entries e (subst (λ (es : List Entry). Contains es e) (ap entries_of h) x)

module _ (key : Access) (v : ℕ) (first c c' : Cache) (among : AreAmong c.entries first.entries) (eq : Access → Access → Bool) where
  is_now : IsTestOf key (eq key) → (e : Entry) → IsPut eq c key v e → (e.1 ≡ v) × (key ≡ e.0)
  is_now honest e h = elim h.1 [
    | inl same ↦ (h.0, sym same)
    | inr x ↦ (h.0, honest e.0 x.2)
  ]

  or_before : IsTestOf key (eq key) → (e : Entry) → Contains c.entries e ⊎ IsPut eq c key v e → Contains first.entries e ⊎ ((e.1 ≡ v) × (key ≡ e.0))
  or_before honest e (inl x) = inl (among e x)
  or_before honest e (inr x) = inr (is_now honest e x)

  pub put_are_among : {X Y : Type 0} (r : Result X Y) → OnOk r (c' ≡ lru_cache (put_entries eq c key v) c.cap) → OnErr r (c' ≡ c) → IsTestOf key (eq key)
      → AreAmongOr c'.entries first.entries key v
  put_are_among (Ok x) h k honest e d =
      or_before honest e (Contains-put_entries eq c key v e (subst (λ (es : List Entry). Contains es e) (ap entries_of h) d))
  put_are_among (Err x) h k honest e d = or_before honest e (inl (subst (λ (es : List Entry). Contains es e) (ap entries_of k) d))
