-- A store to the cell.
use Rattle.std.proofs.Common.{◌≡◌, ℕ, Option, Some, None, subst}
use Rattle.ldb_words.specs.declared.kinds.Kind.TheVariants.{Word}
use Rattle.frame_bytes.specs.declared.frame.Space.TheVariants.{Immediate}
use Rattle.frame_bytes.specs.Bytes.{Bytes, stored, cell_at, with_cell_part}
use Rattle.abs_mem.specs.Meaning.{Seen, Stored}
use Rattle.ps_places.specs.Accesses.{ButCell}

some_is : (b b' : Bytes) → Option.Some b ≡ Some b' → b' ≡ b
some_is b b' h = cc

after_part : (b b' : Bytes) (v : ℕ) (o : Option ℕ) → with_cell_part b Word v o ≡ Some b' → b' ≡ record b { cell = Some v }
after_part b b' v (Some w) e = some_is (record b { cell = Some v }) b' e
after_part b b' v None e = absurd (let k = e in cc)

after_store : (b b' : Bytes) (v : ℕ) → stored b Immediate 0 Word v ≡ Some b' → b' ≡ record b { cell = Some v }
unfolding stored
after_store b b' v e = after_part b b' v (cell_at b 0) e

-- no other byte changes
pub only_cell : {R : Type 0} (s s' : Seen R) (v : ℕ) → Stored s s' (λ b. stored b Immediate 0 Word v) → ButCell s s'
only_cell s s' v h = record {
  faults = h.faults;
  keeps = λ b r t. let k = h.after b r t in (Some v, subst (λ x. s'.tells x r) (after_store b k.0 v k.1) k.2);
}
