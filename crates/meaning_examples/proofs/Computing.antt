-- What machines are computed with, and lists of one item or two.
use Rattle.std.specs.Prelude.{◌≡◌, ℕ, zero, suc, [], ◌∷◌, Some, slice_get, length}
use Rattle.std.proofs.Common.{subst}
use Rattle.std.proofs.lemmas.List.{length-replicate}
use Rattle.machine_state.specs.Regions.{zeros, readable, load_of, fetch_of, overwritten, written, store_of, writable, held, read_of, overlaid, write_of, saved_words, store_words_of, load_words_of}
use Rattle.machine_state.specs.Step as common
use Rattle.mips_isa.specs.Step as mips
use Rattle.mips_isa.specs.Loaded as mips_loaded
use Rattle.mips_isa.specs.Codec as mips_codec
use Rattle.sparc_isa.specs.Windows as windows
use Rattle.sparc_isa.specs.Loaded as sparc_loaded
use Rattle.machine_runs.specs.Watched.{next, done_at, led_next}

-- memory, as both targets have it
unfoldable pub remembering : ℕ
unfolding readable load_of fetch_of overwritten written store_of writable held read_of overlaid write_of saved_words store_words_of load_words_of
remembering = 0

-- a watched MIPS machine
unfoldable pub watching : ℕ
unfolding remembering next done_at led_next common.moved common.jumps common.stores common.reads_input common.puts common.requests mips.with_register mips.writes mips.act mips.sources mips.is_transfer mips.writes_hi_lo mips.is_hazard mips.step_of mips_loaded.saved_state mips_loaded.restored_state mips_codec.special mips_codec.with_immediate mips_codec.word_of mips_codec.special_insn mips_codec.immediate_insn mips_codec.named_insn mips_codec.insn_of
watching = 0

-- the save of a SPARC machine
unfoldable pub saving : ℕ
unfolding remembering windows.place_of windows.callers windows.flush_of windows.with_invalid sparc_loaded.block_of sparc_loaded.with_block sparc_loaded.saved_state
saving = 0

-- a region of zeros is as long as it says, so none is ever written out
pub zeros_long : (n : ℕ) → length (zeros n) ≡ n
unfolding zeros
zeros_long n = length-replicate n 0

pub some_same : {A : Type 0} (x y : A) → Some x ≡ Some y → x ≡ y
some_same x y e = cc

-- what holds of the one item of a list holds of each
pub of_one : {A : Type 0} (P : A → Type 0) (x : A) → P x → (i : ℕ) (y : A) → slice_get (x ∷ []) i ≡ Some y → P y
of_one P x h zero y e = subst P (some_same x y e) h
of_one P x h (suc i) y e = absurd cc

-- what holds of two items by their numbers
pub of_two : {A : Type 0} (P : ℕ → A → Type 0) (x z : A) → P 0 x → P 1 z → (i : ℕ) (y : A) → slice_get (x ∷ z ∷ []) i ≡ Some y → P i y
of_two P x z h k zero y e = subst (P 0) (some_same x y e) h
of_two P x z h k (suc zero) y e = subst (P 1) (some_same z y e) k
of_two P x z h k (suc (suc i)) y e = absurd cc
