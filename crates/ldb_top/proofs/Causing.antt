-- How the counts of faults move where a call ends before its session.
use Rattle.std.proofs.Common.{◌≡◌, ◌⊎◌, ℕ, List, Ok, Err, inl, inr, refl, sym, subst}
use Rattle.std.specs.declared.result.Result.{Result}
use Rattle.std.specs.Prelude.{MatchResult}
use Rattle.cc_call.specs.declared.ended.Fault.{Fault}
use Rattle.cc_call.specs.declared.ended.Fault.TheVariants as fault
use Rattle.ldb_top.specs.declared.status.Status.{Status}
use Rattle.ldb_top.specs.declared.status.Status.TheVariants as status
use Rattle.ldb_top.specs.declared.status.Stop.{Stop}
use Rattle.ldb_top.specs.declared.status.Stop.TheVariants.{Read, NoMemory, Missing, TooLong, Refused, Bad}
use Rattle.ldb_top.specs.Causes.{counts, HasCauses}
use Rattle.ldb_top.specs.Stops.{ending_of, fault_of, IsOpenStop, CountsTold}

-- but for a read that failed the count of reading is as it was
reads_same : (P : Stop → Type 0) (missed : List ℕ → Type 0) (input : List ℕ) (r r' : ℕ) (stop : Stop) → (stop ≡ Read → ⊥) → IsOpenStop P missed input r r' stop → r' ≡ r
reads_same P missed input r r' stop unread (inl s) = s.1
reads_same P missed input r r' Read unread (inr s) = absurd (unread refl)
reads_same P missed input r r' NoMemory unread (inr s) = s
reads_same P missed input r r' (Missing line) unread (inr s) = s.0
reads_same P missed input r r' (TooLong line) unread (inr s) = s.0
reads_same P missed input r r' (Refused line) unread (inr s) = absurd s
reads_same P missed input r r' (Bad line) unread (inr s) = absurd s

module _ (w w' k r r' t t' : ℕ) (same : w' ≡ w) where
  abbrev Causes : Result Status Fault → Type 0
  Causes result = HasCauses result (counts r w k t) (counts r' w' k t')

  abbrev Told : Result Status Fault → Type 0
  Told result = MatchResult result (λ _. t' ≡ t) (CountsTold t t')

  -- a line was told whole, or not
  line_causes : (answer : Status) (result : Result Status Fault) → r' ≡ r → (result ≡ Ok answer) ⊎ (result ≡ Err fault.Write) → Told result → Causes result
  line_causes answer result reads (inl e) told = subst Causes (sym e) (record { reading = reads; writing = same; commands = refl; transcript = subst Told e told })
  line_causes answer result reads (inr e) told = subst Causes (sym e) (inr (subst Told e told))

  pub stop_causes : (P : Stop → Type 0) (missed : List ℕ → Type 0) (input : List ℕ) (stop : Stop) (result : Result Status Fault) → (P Read → ⊥) → IsOpenStop P missed input r r' stop → (result ≡ ending_of stop) ⊎ (result ≡ Err (fault_of stop)) → Told result → Causes result
  stop_causes P missed input Read result never (inl s) e told = absurd (never s.0)
  stop_causes P missed input Read result never (inr s) (inl e) told = subst Causes (sym e) (inl s)
  stop_causes P missed input Read result never (inr s) (inr e) told = subst Causes (sym e) (inl s)
  stop_causes P missed input NoMemory result never s (inl e) told = subst Causes (sym e) (record { reading = reads_same P missed input r r' NoMemory (λ x. cc) s; writing = same; commands = refl; transcript = subst Told e told })
  stop_causes P missed input NoMemory result never s (inr e) told = subst Causes (sym e) (record { reading = reads_same P missed input r r' NoMemory (λ x. cc) s; writing = same; commands = refl; transcript = subst Told e told })
  stop_causes P missed input (Missing line) result never s e told = line_causes status.NoFile result (reads_same P missed input r r' (Missing line) (λ x. cc) s) e told
  stop_causes P missed input (TooLong line) result never s e told = line_causes status.TooLong result (reads_same P missed input r r' (TooLong line) (λ x. cc) s) e told
  stop_causes P missed input (Refused line) result never s e told = line_causes status.Refused result (reads_same P missed input r r' (Refused line) (λ x. cc) s) e told
  stop_causes P missed input (Bad line) result never s e told = line_causes status.BadFile result (reads_same P missed input r r' (Bad line) (λ x. cc) s) e told
