-- What machines of both targets and interpreters are computed with.
use Rattle.std.specs.Prelude.{ℕ}
use Rattle.std.specs.Fmt.{digits}
use Rattle.machine_state.specs.Regions.{first_regions, readable, load_of, fetch_of, overwritten, written, store_of, writable, held, read_of, overlaid, write_of, saved_words, store_words_of, load_words_of}
use Rattle.machine_state.specs.Runs.{run_of, turn_by}
use Rattle.machine_state.specs.Step as common
use Rattle.mips_isa.specs.Step as mips
use Rattle.mips_isa.specs.Loaded as mips_loaded
use Rattle.mips_isa.specs.Codec as mips_codec
use Rattle.sparc_isa.specs.Step as sparc
use Rattle.sparc_isa.specs.Windows as windows
use Rattle.sparc_isa.specs.Loaded as sparc_loaded
use Rattle.sparc_isa.specs.Codec as sparc_codec
use Rattle.sparc_isa.specs.Condition as condition
use Rattle.ps_store.specs.Operators.{operator_number}
use Rattle.ps_scan.specs.Bytes.{is_white, is_special, is_regular, is_hexadecimal}
use Rattle.ps_step.specs.Text.{operator_name}
use Rattle.frame_bytes.specs.Bytes.{fetched, stored}
use Rattle.claims.specs.Resumes.{resumed}

unfoldable pub computing_sparc : ℕ
unfolding common.moved common.jumps common.stores common.reads_input common.puts common.requests digits readable load_of fetch_of overwritten written store_of writable held read_of overlaid write_of saved_words store_words_of load_words_of run_of turn_by resumed fetched stored first_regions sparc.writes sparc.traps sparc.traps_if sparc.act sparc.is_transfer sparc.reads_y sparc.is_hazard sparc.step_of windows.place_of windows.with_register windows.callers windows.flush_of windows.with_invalid sparc_loaded.first_state sparc_loaded.block_of sparc_loaded.with_block sparc_loaded.saved_state sparc_loaded.restored_state sparc_codec.operand_word sparc_codec.shift_word sparc_codec.trap_word sparc_codec.call_format sparc_codec.wide_format sparc_codec.operand_format sparc_codec.word_of sparc_codec.operand_of sparc_codec.shift_of sparc_codec.trap_of sparc_codec.wide_insn sparc_codec.arithmetic_insn sparc_codec.memory_insn sparc_codec.named_insn sparc_codec.insn_of condition.condition_code condition.condition_of condition.holds
computing_sparc = 0

-- a MIPS machine that stores nothing
unfoldable pub computing_mips : ℕ
unfolding common.moved readable load_of fetch_of held read_of saved_words mips.with_register mips.writes mips.leaves_loaded mips.act mips.sources mips.is_transfer mips.writes_hi_lo mips.is_hazard mips.step_of mips_loaded.saved_state mips_loaded.restored_state mips_codec.special mips_codec.with_immediate mips_codec.word_of mips_codec.special_insn mips_codec.immediate_insn mips_codec.named_insn mips_codec.insn_of
computing_mips = 0

-- what the interpreter computes with
unfoldable pub interpreting : ℕ
unfolding operator_number is_white is_special is_regular is_hexadecimal operator_name
interpreting = 0
