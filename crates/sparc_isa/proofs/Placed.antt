-- What the step does at an instruction that stands in the text.
use Rattle.std.specs.Prelude.{◌≡◌, ℕ, ◌+◌, ◌*◌, ◌^◌, ◌<◌, false, refl, Ok, List, length}
use Rattle.std.proofs.Common.{◌∙◌, ap, get_or}
use Rattle.machine_state.specs.declared.layout.TheConstants.{TEXT}
use Rattle.machine_state.proofs.PlacedWords.{fetch_of-words}
use Rattle.ldb_words.specs.declared.kinds.Order.TheVariants.{Big}
use Rattle.machine_state.specs.Regions.{words_bytes}
use Rattle.machine_state.specs.State.{MachineState}
use Rattle.sparc_isa.specs.declared.insn.Insn.{Insn}
use Rattle.sparc_isa.specs.Codec.{word_of}
use Rattle.sparc_isa.specs.Fit.{FieldsFit}
use Rattle.sparc_isa.specs.Placed.{IsAt}
use Rattle.sparc_isa.specs.Step.{is_hazard, act, step_of}
use Rattle.sparc_isa.proofs.RoundTrip.{insn_of-word_of}

-- without a hazard the step does what the instruction does
pub step_of-at : (i : Insn) (m : MachineState) → IsAt i m → is_hazard i m.facts ≡ false → step_of m ≡ act i m
unfolding step_of
step_of-at i m at free = rw (at.word, insn_of-word_of i at.fit, free) refl

-- where the text is made of words, the machine is at the instruction of the word at pc
pub at_word : (m : MachineState) (ws : List ℕ) (k : ℕ) (i : Insn) → m.memory.text_bytes ≡ words_bytes Big ws → k < length ws
    → ((j : ℕ) → get_or ws j 0 < 2 ^ 32) → m.pc ≡ TEXT + 4 * k → get_or ws k 0 ≡ word_of i → FieldsFit i → IsAt i m
at_word m ws k i text below fit pc word fields = record {
  fit = fields;
  word = rw pc (fetch_of-words Big m.memory ws k text below fit ∙ ap Ok word);
}
