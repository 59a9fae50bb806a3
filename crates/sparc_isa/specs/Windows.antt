-- The register windows: the SPARC V8 manual, section 4.1, with 8 windows. Overflow and underflow of the
-- windows are served by the step itself, and one bit of WIM is set at a time.
use Rattle.std.specs.Prelude.{ℕ, zero, suc, Bool, true, false, ◌+◌, ◌-◌, ◌*◌, ◌%◌, ◌&&◌, nat_eq, nat_lt, is_ok, if◌then◌else◌, List, [], ◌∷◌, take, drop, slice_index, slice_set, Result, Ok, Err, None}
use Rattle.ldb_words.specs.declared.kinds.Order.TheVariants.{Big}
use Rattle.ldb_words.specs.declared.event.Event.{Event}
use Rattle.ldb_words.specs.declared.event.Event.TheVariants.{Went, Fault}
use Rattle.ldb_words.specs.declared.event.FaultKind.{FaultKind}
use Rattle.ldb_words.specs.declared.event.FaultKind.TheVariants.{Window}
use Rattle.machine_state.specs.Regions.{Regions, store_words_of, load_words_of, overwritten}
use Rattle.machine_state.specs.State.{MachineState}

-- the window that SAVE goes to, whose ins are the outs of this one
abbrev pub window_below : ℕ → ℕ
window_below w = (w + 7) % 8

-- the window that RESTORE goes to, whose outs are the ins of this one
abbrev pub window_above : ℕ → ℕ
window_above w = (w + 1) % 8

-- ---- the special words: Y, the condition codes, the current window, the window whose WIM bit is set

abbrev pub y : MachineState → ℕ
y m = slice_index m.special 0

abbrev pub codes : MachineState → ℕ
codes m = slice_index m.special 1

abbrev pub current : MachineState → ℕ
current m = slice_index m.special 2

abbrev pub invalid : MachineState → ℕ
invalid m = slice_index m.special 3

unfoldable pub with_y : ℕ → MachineState → MachineState
with_y v m = record m { special = v ∷ codes m ∷ current m ∷ invalid m ∷ [] }

unfoldable pub with_codes : ℕ → MachineState → MachineState
with_codes v m = record m { special = y m ∷ v ∷ current m ∷ invalid m ∷ [] }

unfoldable pub with_current : ℕ → MachineState → MachineState
with_current w m = record m { special = y m ∷ codes m ∷ w ∷ invalid m ∷ [] }

unfoldable pub with_invalid : ℕ → MachineState → MachineState
with_invalid w m = record m { special = y m ∷ codes m ∷ current m ∷ w ∷ [] }

-- ---- registers

-- The place of a window's register among all, which are the 8 globals and then the 8 locals and 8 ins of
-- each window: globals, outs (the ins of the window below), locals, ins.
unfoldable pub place_of : ℕ → ℕ → ℕ
place_of w r =
    if nat_lt r 8 then r else
    if nat_lt r 16 then 8 + 16 * window_below w + r else
    8 + 16 * w + (r - 16)

-- a register of the current window
abbrev pub register : MachineState → ℕ → ℕ
register m r = slice_index m.registers (place_of (current m) r)

-- nothing writes `%g0`
unfoldable pub with_register : ℕ → ℕ → MachineState → MachineState
with_register r v m = record m {
  registers = if nat_eq r 0 then m.registers else slice_set m.registers (place_of (current m) r) v;
}

-- the registers from one on, with these values
abbrev pub with_registers : ℕ → List ℕ → MachineState → MachineState
with_registers r [] m = m
with_registers r (v ∷ vs) m = with_registers (suc r) vs (with_register r v m)

-- where the locals and ins of a window stand
abbrev pub window_place : ℕ → ℕ
window_place w = 8 + 16 * w

-- the locals and ins of a window, in the order in which a spill stores them
abbrev pub window_words : List ℕ → ℕ → List ℕ
window_words words w = take 16 (drop (window_place w) words)

-- the stack pointer of a window, its `%o6`
abbrev pub stack_pointer : List ℕ → ℕ → ℕ
stack_pointer words w = slice_index words (place_of w 14)

-- ---- spills and fills

-- the memory with a window stored at its own stack pointer
abbrev pub stored_window : ℕ → List ℕ → Regions → Result Regions FaultKind
stored_window w words r = store_words_of Big r (stack_pointer words w) (window_words words w)

-- A step that did no instruction but a window's trap: the instruction is to be tried again.
abbrev pub spilled : ℕ → Result Regions FaultKind → MachineState → Event × MachineState
spilled w (Err kind) m = (Fault Window, m)
spilled w (Ok r) m = (Went, with_invalid w (record m { memory = r; put = None }))

-- a window is spilled, and its WIM bit is then set
unfoldable pub spills : ℕ → MachineState → Event × MachineState
spills w m = spilled w (stored_window w m.registers m.memory) m

abbrev pub filled : ℕ → Result (List ℕ) FaultKind → MachineState → Event × MachineState
filled w (Err kind) m = (Fault Window, m)
filled w (Ok words) m =
    (Went, with_invalid (window_above w) (record m { registers = overwritten m.registers (window_place w) words; put = None }))

-- a window is filled from the current `%i6`, and the WIM bit of the window above it is then set
unfoldable pub fills : ℕ → MachineState → Event × MachineState
fills w m = filled w (load_words_of Big m.memory (register m 30) 16) m

-- ---- the flush

-- how many valid windows there are above the current one
unfoldable pub callers : MachineState → ℕ
callers m = (invalid m + 7 - current m) % 8

-- what comes after a success
abbrev pub and_then : {A : Type 0} → {B : Type 0} → Result A FaultKind → (A → Result B FaultKind) → Result B FaultKind
and_then (Err kind) next = Err kind
and_then (Ok x) next = next x

-- the memory with so many windows stored, from one on upwards
abbrev pub stored_windows : ℕ → ℕ → List ℕ → Regions → Result Regions FaultKind
stored_windows zero w words r = Ok r
stored_windows (suc n) w words r = and_then (stored_window w words r) (stored_windows n (window_above w) words)

-- whether so many windows, from one on upwards, can each be stored where the stack pointer says
abbrev pub can_store_windows : ℕ → ℕ → List ℕ → Regions → Bool
can_store_windows zero w words r = true
can_store_windows (suc n) w words r =
    is_ok (load_words_of Big r (stack_pointer words w) 16) && can_store_windows n (window_above w) words r

abbrev pub flushed : Result Regions FaultKind → MachineState → Bool × MachineState
flushed (Err kind) m = (false, m)
flushed (Ok r) m = (true, with_invalid (window_above (current m)) (record m { memory = r }))

-- Whether all callers' windows could be stored, from the nearest one on, and the machine after it: then the window
-- above the current one has the WIM bit, else nothing is changed.
unfoldable pub flush_of : MachineState → Bool × MachineState
flush_of m = flushed (stored_windows (callers m) (window_above (current m)) m.registers m.memory) m
