-- The machine of a hand-made MIPS image: `lui $8, 0x1000`, `lw $9, 0($8)`, `addu $10, $9, $9`. The last one reads what the one before
-- it loads.
use Rattle.std.specs.Prelude.{◌≡◌, ℕ, suc, ◌+◌, ◌-◌, List, [], ◌∷◌, ◌++◌, length, replicate, slice_set, None, Ok}
use Rattle.std.proofs.Common.{refl, ap, ◌∙◌}
use Rattle.std.proofs.lemmas.List.{length-replicate}
use Rattle.ldb_words.specs.declared.kinds.Order.TheVariants.{Little}
use Rattle.ldb_words.specs.declared.event.FaultKind.TheVariants.{Hazard}
use Rattle.machine_state.specs.Regions.{zeros, number_of, words_bytes, first_regions}
use Rattle.machine_state.specs.State.{MachineState, no_facts}
use Rattle.machine_state.specs.Runs.{Goes, Ends, ran, met, behind, run_of, turn_by}
use Rattle.machine_state.specs.declared.layout.TheConstants.{MIPS, DATA_SIZE, STACK_SIZE}
use Rattle.machine_state.specs.declared.target.Cause.TheVariants.{Fault}
use Rattle.mips_isa.specs.Loaded as mips_loaded
use Rattle.obj_file.specs.Image.{ImageFields, image_bytes, first_wrong, wrong_in_header, wrong_in_body, byte_at, half_at, word_at}
use Rattle.targets.specs.Targets.{machine_behaviour, loaded, Loads}
use Rattle.nub_wire.specs.Nub.{pc_of}
use Rattle.session_examples.proofs.Computing.{computing_mips}

-- ---- the image

abbrev text : List ℕ
text = 0x00 ∷ 0x10 ∷ 0x08 ∷ 0x3C ∷ 0x00 ∷ 0x00 ∷ 0x09 ∷ 0x8D ∷ 0x21 ∷ 0x50 ∷ 0x29 ∷ 0x01 ∷ []

abbrev image : ImageFields
image = record { target = MIPS; entry = 0x00400000; text = text; statics = 0 ∷ 0 ∷ 0 ∷ 0 ∷ [] }

abbrev bytes : List ℕ
bytes =
    0x4C ∷ 0x44 ∷ 0x42 ∷ 0x49 ∷ 0x01 ∷ 0x01 ∷ 0x00 ∷ 0x00 ∷ 0x00 ∷ 0x40 ∷ 0x00 ∷ 0x00 ∷ 0x00 ∷ 0x00 ∷ 0x00 ∷ 0x0C ∷ 0x00 ∷ 0x00 ∷ 0x00 ∷ 0x04
    ∷ 0x00 ∷ 0x10 ∷ 0x08 ∷ 0x3C ∷ 0x00 ∷ 0x00 ∷ 0x09 ∷ 0x8D ∷ 0x21 ∷ 0x50 ∷ 0x29 ∷ 0x01 ∷ 0x00 ∷ 0x00 ∷ 0x00 ∷ 0x00 ∷ []

abbrev pub machine : MachineState
machine = loaded image

it_loads : Loads bytes (Ok machine)
unfolding image_bytes first_wrong wrong_in_header wrong_in_body byte_at half_at word_at
it_loads = (image, refl, refl, refl)

-- ---- its steps, where the data begin with a zero word and are as long as they should be, as the stack is

-- one turn of a run, of which nothing more is looked at
next_turn : (n : ℕ) (m : MachineState) → run_of machine_behaviour (suc n) m ≡ met (run_of machine_behaviour n) (turn_by machine_behaviour m)
unfolding run_of
next_turn n m = refl

module _ (statics stack context : List ℕ) where
  abbrev at : (pc : ℕ) → (eight loaded : ℕ) → MachineState
  at pc eight loaded = record {
    target = MIPS;
    registers = slice_set (slice_set (replicate 32 0) 29 0x7FFEFFA0) 8 eight;
    special = 0 ∷ 0 ∷ [];
    pc = pc;
    next_pc = pc + 4;
    facts = record no_facts { loaded = loaded };
    memory = record { text_bytes = text; data_bytes = statics; stack_bytes = stack; context_bytes = context };
    left = [];
    given = 0;
    put = None;
  }

  abbrev at_lui : MachineState
  at_lui = at 0x00400000 0 0

  abbrev at_lw : MachineState
  at_lw = at 0x00400004 0x10000000 0

  abbrev at_addu : MachineState
  at_addu = at 0x00400008 0x10000000 9

  lui_goes : turn_by machine_behaviour at_lui ≡ Goes None at_lw
  unfolding computing_mips turn_by
  lui_goes = refl

  lw_goes : number_of Little 4 statics ≡ 0 → length statics ≡ DATA_SIZE → turn_by machine_behaviour at_lw ≡ Goes None at_addu
  unfolding computing_mips turn_by
  lw_goes zero long = rw long (rw zero refl)

  addu_faults : turn_by machine_behaviour at_addu ≡ Ends (Fault Hazard) at_addu
  unfolding computing_mips turn_by
  addu_faults = refl

  runs : number_of Little 4 statics ≡ 0 → length statics ≡ DATA_SIZE → run_of machine_behaviour 10000000 at_lui ≡ ran (Fault Hazard) [] at_addu
  runs zero long =
      next_turn 9999999 at_lui ∙ ap (met (run_of machine_behaviour 9999999)) lui_goes
      ∙ ap (behind []) (next_turn 9999998 at_lw ∙ ap (met (run_of machine_behaviour 9999998)) (lw_goes zero long)
      ∙ ap (behind []) (next_turn 9999997 at_addu ∙ ap (met (run_of machine_behaviour 9999997)) addu_faults))

  tells_pc : length statics ≡ DATA_SIZE → length stack ≡ STACK_SIZE → pc_of (mips_loaded.saved_state at_addu) ≡ 0x00400008
  unfolding computing_mips
  tells_pc data_long stack_long = rw data_long (rw stack_long refl)

-- ---- the machine at its start, whose context block is saved, and where it meets the hazard

zeros_long : (n : ℕ) → length (zeros n) ≡ n
unfolding zeros
zeros_long n = length-replicate n 0

abbrev statics : List ℕ
statics = 0 ∷ 0 ∷ 0 ∷ 0 ∷ zeros (DATA_SIZE - 4)

statics_long : length statics ≡ DATA_SIZE
statics_long = rw zeros_long refl

abbrev block : List ℕ
block = words_bytes Little (slice_set (replicate 32 0) 29 0x7FFEFFA0 ++ (0 ∷ 0 ∷ 0x00400000 ∷ 0x00400004 ∷ []))

abbrev pub first : MachineState
first = at_lui statics (zeros STACK_SIZE) block

abbrev hazard : MachineState
hazard = at_addu statics (zeros STACK_SIZE) block

abbrev pub last : MachineState
last = mips_loaded.saved_state hazard

pub is_saved : (machine_behaviour.saved machine).1 ≡ first
unfolding computing_mips loaded mips_loaded.first_state first_regions
is_saved = refl

is_restored : machine_behaviour.restored first ≡ first
unfolding computing_mips
is_restored = refl

pub meets_the_hazard : run_of machine_behaviour 10000000 (machine_behaviour.restored first) ≡ ran (Fault Hazard) [] hazard
meets_the_hazard = ap (run_of machine_behaviour 10000000) is_restored ∙ runs statics (zeros STACK_SIZE) block refl statics_long

pub tells_its_pc : pc_of last ≡ 0x00400008
tells_its_pc = tells_pc statics (zeros STACK_SIZE) block statics_long (zeros_long STACK_SIZE)
