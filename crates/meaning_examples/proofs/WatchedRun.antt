-- A MIPS program of eight words that is watched at its second one: it makes 'A' out of 1, prints it, and exits with its number.
use Rattle.std.specs.Prelude.{◌≡◌, ℕ, pos, ℤ, ◌||◌, ◌==◌, ◌+◌, ◌*◌, List, [], ◌∷◌, codes, Option, Some, None, slice_index, if◌then◌else◌}
use Rattle.std.proofs.Common.{refl}
use Rattle.ldb_words.specs.declared.kinds.Order.TheVariants.{Little}
use Rattle.machine_state.specs.Regions.{words_bytes}
use Rattle.machine_state.specs.State.{MachineState, no_facts}
use Rattle.machine_state.specs.declared.layout.TheConstants.{MIPS, TEXT, CONTEXT}
use Rattle.mips_isa.specs.Loaded.{mips_behaviour}
use Rattle.runs.specs.Runs.{IllTyped, Outcome, Reached, Breaks, after}
use Rattle.machine_runs.specs.Watched.{Watched, Debugger, Led, next, watch, led_after}
use Rattle.meaning_examples.proofs.Computing.{watching}

-- addiu $8,$0,1; the point; addiu $8,$8,2; addiu $4,$8,62; addiu $2,$0,2; syscall (putchar); addiu $2,$0,3; syscall (exit)
abbrev program : (point : ℕ) → List ℕ
program point = words_bytes Little (0x2408_0001 ∷ point ∷ 0x2508_0002 ∷ 0x2504_003e ∷ 0x2402_0002 ∷ 0x0000_000c ∷ 0x2402_0003 ∷ 0x0000_000c ∷ [])

abbrev no_op : ℕ
no_op = 0

abbrev break_word : ℕ
break_word = 0x0000_000d

abbrev machine : (point : ℕ) → MachineState
machine point = record {
  target = MIPS;
  registers = 0 ∷ 0 ∷ 0 ∷ 0 ∷ 0 ∷ 0 ∷ 0 ∷ 0 ∷ 0 ∷ 0 ∷ 0 ∷ 0 ∷ 0 ∷ 0 ∷ 0 ∷ 0 ∷ 0 ∷ 0 ∷ 0 ∷ 0 ∷ 0 ∷ 0 ∷ 0 ∷ 0 ∷ 0 ∷ 0 ∷ 0 ∷ 0 ∷ 0 ∷ 0 ∷ 0 ∷ 0 ∷ [];
  special = 0 ∷ 0 ∷ [];
  pc = 0x0040_0000;
  next_pc = 0x0040_0004;
  facts = no_facts;
  memory = record { text_bytes = program point; data_bytes = []; stack_bytes = []; context_bytes = [] };
  left = [];
  given = 0;
  put = None;
}

-- stopping point 5 stands at the second word
abbrev point_at : ℕ → Option ℕ
point_at pc = if pc == 0x0040_0004 then Some 5 else None

-- ---- what a moment shows: the points, the count of the steps, the exit's number, `$8`, pc and the output

pub record Seen : Type 0 where
  pub passed : List ℕ
  pub count : ℕ
  pub exit : Option ℤ
  pub register : ℕ
  pub pc : ℕ
  pub output : List ℕ

abbrev seen_in : Watched → List ℕ → ℕ → Option ℤ → Seen
seen_in w passed count exit = record { passed = passed; count = count; exit = exit; register = slice_index w.machine.registers 8; pc = w.machine.pc; output = w.output }

abbrev seen : Outcome Watched → Option Seen
seen (Reached m) = Some (seen_in m.state m.passed m.count m.exit)
seen (Breaks why) = None

abbrev seen_led : Outcome Led → Option Seen
seen_led (Reached m) = Some (seen_in m.state.watched m.passed m.count m.exit)
seen_led (Breaks why) = None

-- where so many steps come to
abbrev run : (point steps : ℕ) → Outcome Watched
run point steps = after Watched (next mips_behaviour point_at) (λ i w. w) steps 0 (watch (machine point) [])

-- ---- without a debugger

up_to_the_point : seen (run no_op 1) ≡ Some (record { passed = []; count = 1; exit = None; register = 1; pc = 0x0040_0004; output = [] })
unfolding watching
up_to_the_point = refl

past_the_point : seen (run no_op 3) ≡ Some (record { passed = 5 ∷ []; count = 3; exit = None; register = 3; pc = 0x0040_000c; output = [] })
unfolding watching
past_the_point = refl

to_the_end : seen (run no_op 8) ≡ Some (record { passed = 5 ∷ []; count = 8; exit = Some (pos 65); register = 3; pc = 0x0040_0020; output = codes "A" })
unfolding watching
to_the_end = refl

-- a break at the point is passed too
past_a_break : seen (run break_word 3) ≡ Some (record { passed = 5 ∷ []; count = 3; exit = None; register = 3; pc = 0x0040_000c; output = [] })
unfolding watching
past_a_break = refl

-- and elsewhere it has no successor
stray_break : after Watched (next mips_behaviour (λ pc. None)) (λ i w. w) 2 0 (watch (machine break_word) []) ≡ Breaks IllTyped
unfolding watching
stray_break = refl

-- ---- with a debugger

-- the break is written before the first step; at the stop, which is met in the second one, `$8` gets 10
abbrev debugger : Debugger
debugger = record {
  saves = λ steps. steps == 0 || steps == 2;
  words = λ steps. if steps == 0 then record { at = TEXT + 4; width = 4; value = break_word } ∷ [] else [];
  stops = λ number. record { at = CONTEXT + 4 * 8; width = 4; value = 10 } ∷ [];
}

abbrev led : ℕ → Outcome Led
led steps = led_after mips_behaviour point_at debugger (machine no_op) steps

led_past : seen_led (led 2) ≡ Some (record { passed = 5 ∷ []; count = 2; exit = None; register = 10; pc = 0x0040_0008; output = [] })
unfolding watching
led_past = refl

led_to_the_end : seen_led (led 8) ≡ Some (record { passed = 5 ∷ []; count = 8; exit = Some (pos 74); register = 12; pc = 0x0040_0020; output = codes "J" })
unfolding watching
led_to_the_end = refl
