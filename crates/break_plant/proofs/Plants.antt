-- Planting, by what the memory answered.
use Rattle.std.proofs.Common.{◌≡◌, ◌≢◌, ◌∙◌, refl, sym, ap, subst, ℕ, nat_eq, Bool, true, false, if◌then◌else◌, List, Option, Some, None, Result, Ok, Err}
use Rattle.std.proofs.lemmas.Bool.{eqb-true, eqb-false}
use Rattle.ldb_words.specs.declared.kinds.Kind.TheVariants.{Word}
use Rattle.frame_bytes.specs.declared.frame.Space.TheVariants.{Memory}
use Rattle.frame_bytes.specs.declared.frame.Place.{Place}
use Rattle.frame_bytes.specs.Bytes.{Bytes, fetched, stored}
use Rattle.abs_mem.specs.declared.memory.MemFault.{MemFault}
use Rattle.abs_mem.specs.declared.memory.MemFault.TheVariants.{Outside, LinkFault, BadReply}
use Rattle.abs_mem.specs.Meaning.{Seen, Same, OnTold, Untold, Stored, Fetches, Stores, Led}
use Rattle.abs_mem.proofs.Walks.{same_then, rose_then}
use Rattle.break_plant.specs.declared.planting.PlantFault.{PlantFault}
use Rattle.break_plant.specs.declared.planting.PlantFault.TheVariants as fault
use Rattle.break_plant.specs.Planted.{noop_of, break_of, in_memory, word_at, Planted, Plants, LedPlant, seen_by, done_by}
use Rattle.break_plant.proofs.Holding.{word_none}

abbrev seen_if : Bool → (at word : ℕ) → Result Unit PlantFault
seen_if b at word = if b then Ok tt else Err (fault.NotNoop at word)

refuses : {R : Type 0} (target at : ℕ) (s u : Seen R) (word : ℕ) (b : Bool) (e : PlantFault) → b ≡ nat_eq word (noop_of target) → Fetches s (in_memory at) Word (Ok word) u
    → seen_if b at word ≡ Err e → Plants target at s (Err e) u
refuses target at s u word true e same h x = cc
refuses target at s u word false e same h x =
    let is : fault.NotNoop at word ≡ e = cc in
    subst (λ (z : PlantFault). Plants target at s (Err z) u) is (refl, (λ y. eqb-false word (noop_of target) (sym same) y), h.0, h.1)

pub refused : {R : Type 0} (target at : ℕ) (s u : Seen R) (w : Result ℕ MemFault) (e : PlantFault) → Fetches s (in_memory at) Word w u → seen_by target at w ≡ Err e → Plants target at s (Err e) u
refused target at s u (Ok word) e h x = refuses target at s u word (nat_eq word (noop_of target)) e refl h x
refused target at s u (Err (Outside p)) e h x = let is : fault.Memory (Outside p) ≡ e = cc in subst (λ (z : PlantFault). Plants target at s (Err z) u) is h
refused target at s u (Err LinkFault) e h x = let is : fault.Memory LinkFault ≡ e = cc in subst (λ (z : PlantFault). Plants target at s (Err z) u) is h
refused target at s u (Err (BadReply frame)) e h x = let is : fault.Memory (BadReply frame) ≡ e = cc in subst (λ (z : PlantFault). Plants target at s (Err z) u) is h

-- the word that was seen is the no-op
seen_noop : (target at word : ℕ) (b : Bool) (x : Unit {0}) → b ≡ nat_eq word (noop_of target) → seen_if b at word ≡ Ok x → word ≡ noop_of target
seen_noop target at word true x same e = eqb-true word (noop_of target) (sym same)
seen_noop target at word false x same e = cc

stores : {R : Type 0} (target at word : ℕ) (s u t : Seen R) (r : Result Unit MemFault) → word ≡ noop_of target → Fetches s (in_memory at) Word (Ok word) u
    → Stores u (in_memory at) Word (break_of target) r t → Plants target at s (done_by r) t
stores {R = R} target at word s u t (Ok x) is h k =
    record {
      faults = k.faults ∙ h.0.faults;
      was = record { holds = λ (b : Bytes) (r : R) y. h.1.holds b r y ∙ ap (λ (n : ℕ). Some n) is };
      is = λ (b : Bytes) (r : R) y. k.after b r (h.0.keeps b r y);
    }
stores {R = R} target at word s u t (Err (Outside p)) is h k =
    (k.0, same_then s u t h.0 k.1, record { holds = λ (b : Bytes) (r : R) y. word_none b at (break_of target) (k.2.holds b r (h.0.keeps b r y)) })
stores target at word s u t (Err LinkFault) is h k = rose_then s.faults u.faults t.faults h.0.faults k
stores {R = R} target at word s u t (Err (BadReply frame)) is h k =
    record { faults = k.faults ∙ h.0.faults; never = λ (b : Bytes) (r : R) y. k.never b r (h.0.keeps b r y) }

pub planted : {R : Type 0} (target at : ℕ) (s u t : Seen R) (w : Result ℕ MemFault) (x : Unit {0}) (r : Result Unit MemFault) → Fetches s (in_memory at) Word w u → seen_by target at w ≡ Ok x
    → Stores u (in_memory at) Word (break_of target) r t → Plants target at s (done_by r) t
planted target at s u t (Ok word) x r h e k = stores target at word s u t r (seen_noop target at word (nat_eq word (noop_of target)) x refl e) h k
planted target at s u t (Err f) x r h e k = cc

-- the same as the code has it
pub planted_by : {R : Type 0} (target at v : ℕ) (s u t : Seen R) (p : Place) (w : Result ℕ MemFault) (x : Unit {0}) (r : Result Unit MemFault) (seen done : Result Unit PlantFault) → p ≡ in_memory at → v ≡ break_of target
    → Fetches s p Word w u → seen ≡ seen_by target at w → seen ≡ Ok x → Stores u p Word v r t → done ≡ done_by r → Plants target at s done t
planted_by target at v s u t p w x r seen done there word h e is k by =
    let h' = subst (λ (q : Place). Fetches s q Word w u) there h in
    let k' = subst (λ (n : ℕ). Stores u (in_memory at) Word n r t) word (subst (λ (q : Place). Stores u q Word v r t) there k) in
    subst (λ (y : Result Unit PlantFault). Plants target at s y t) (sym by) (planted target at s u t w x r h' (sym e ∙ is) k')
