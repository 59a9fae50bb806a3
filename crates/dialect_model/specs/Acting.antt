-- What operators make of a dial and of the interpreter's state: an operator says what it asks for, this is looked up, and the
-- operator leaves its result.
use Rattle.std.specs.Prelude.{ℕ, zero, suc, List, is_some, option_map, Option, Some, None, Result, Ok}
use Rattle.ps_store.specs.StoreState.{StoreState}
use Rattle.ps_step.specs.declared.fault.PsError.{PsError}
use Rattle.ps_step.specs.declared.machine.PsCore.{PsCore}
use Rattle.ps_step.specs.Results.{◌>>=◌}
use Rattle.ps_step.specs.State.{Made}
use Rattle.frame_bytes.specs.declared.frame.Space.{Space}
use Rattle.frame_bytes.specs.declared.frame.Space.TheVariants.{Registers}
use Rattle.frame_bytes.specs.Bytes.{Bytes}
use Rattle.table_model.specs.declared.found.Found.{Found}
use Rattle.table_model.specs.Objects.{found_at}
use Rattle.ps_places.specs.Places as places
use Rattle.ps_places.specs.Accesses as accesses
use Rattle.ps_append.specs.Appending as texts
use Rattle.ps_append.specs.Characters as characters
use Rattle.ps_pointers.specs.Pointers as pointers
use Rattle.ps_leaves.specs.Leaves as leaves
use Rattle.ps_leaves.specs.Forms as forms
use Rattle.ps_symbols.specs.Naming as names
use Rattle.dialect_model.specs.Dial.{Dial, Target, Acted, Act, raised, looked, memory_bytes, bytes_in, with_bytes, frame_of, scope_of}

-- ---- what is left

-- another state
abbrev pub with_state : Dial → Made → Act
with_state d made = raised made >>= λ c. Ok (d, c)

-- other bytes and another state
abbrev pub with_told : Dial → Result (Bytes × PsCore) PsError → Act
with_told d made = raised made >>= λ t. Ok (with_bytes t.0 d, t.1)

-- more text and another state; where there is no target the text is dropped
abbrev with_out : Option Target → List ℕ → Dial → Dial
with_out None out d = d
with_out (Some t) out d = record d { out = out }

abbrev pub with_text : Dial → Result (List ℕ × PsCore) PsError → Act
with_text d made = raised made >>= λ t. Ok (with_out d.target t.0 d, t.1)

-- ---- what is looked up

-- the bytes of a space: those of registers are the frame's
abbrev pub space_bytes : Dial → StoreState → Space → Acted Bytes
space_bytes d s Registers = frame_of d s >>= λ f. Ok (bytes_in d f)
space_bytes d s space = Ok (bytes_in d None)

abbrev found_in : StoreState → (address : ℕ) → Option Target → Acted (Option Found)
found_in s p None = Ok None
found_in s p (Some t) = looked (found_at t.row s (memory_bytes t) t.context p)

-- the object to which an address belongs: none where there is no target, and null belongs to none
abbrev pub found : Dial → StoreState → (address : ℕ) → Acted (Option Found)
found d s zero = Ok None
found d s (suc n) = found_in s (suc n) d.target

-- that of a second address, which is looked for only where the first belongs to an object
abbrev pub found_behind : Option Found → Dial → StoreState → (address : ℕ) → Acted (Option Found)
found_behind None d s p = Ok None
found_behind (Some o) d s p = found d s p

-- ---- places

-- `n Local`
abbrev pub placing_local : Dial → PsCore → Act
placing_local d c = do
  n ← raised (places.top_word c)
  f ← frame_of d c.store
  with_state d (places.placing_local (option_map (λ f. f.base) f) c)

-- `v Immediate`
abbrev pub placing_value : Dial → PsCore → Act
placing_value d c = with_told d (accesses.placing_value (bytes_in d None) c)

-- `space n kind fetch`
abbrev pub fetching : Dial → PsCore → Act
fetching d c = do
  a ← raised (accesses.fetch_of c)
  b ← space_bytes d c.store a.0.space
  with_told d (accesses.fetching b c)

-- `v space n kind store`
abbrev pub storing : Dial → PsCore → Act
storing d c = do
  a ← raised (accesses.store_of d.raw c)
  b ← space_bytes d c.store a.0.space
  with_told d (accesses.storing d.raw b c)

-- ---- names

-- `n /name Anchor`
abbrev pub anchoring : Dial → PsCore → Act
anchoring d c = with_state d (names.anchoring (is_some d.target) c)

-- `/tag Struct`
abbrev pub giving_struct : Dial → PsCore → Act
giving_struct d c = with_state d (names.giving_struct (is_some d.target) c)

-- `/x Where`
abbrev pub locating : Dial → PsCore → Act
locating d c = do
  name ← raised (names.top_name c)
  scope ← scope_of d c.store
  with_state d (names.locating scope c)

-- ---- pointers

-- `p n size ptradd`
abbrev pub adding : Dial → PsCore → Act
adding d c = do
  t ← raised (pointers.sum_operands c)
  o ← found d c.store t.0
  with_state d (pointers.leaving_sum o t.1 t.2 c)

-- `p q size ptrsub`
abbrev pub subtracting : Dial → PsCore → Act
subtracting d c = do
  t ← raised (pointers.difference_operands c)
  o ← found d c.store t.0
  other ← found_behind o d c.store t.1
  with_state d (pointers.leaving_difference o other t.2 c)

-- `p q ptrcmp`
abbrev pub comparing : Dial → PsCore → Act
comparing d c = do
  t ← raised (pointers.comparison_operands c)
  o ← found d c.store t.0
  other ← found_behind o d c.store t.1
  with_state d (pointers.leaving_order o other c)

-- `p kind Leaf`, `p type Leaf`
abbrev pub taking_leaf : Dial → PsCore → Act
taking_leaf d c = do
  a ← raised (leaves.leaf_operands c)
  o ← found d c.store a.0
  with_state d (leaves.leaving_leaf o c)

-- `p charrun`
abbrev pub measuring_run : Dial → PsCore → Act
measuring_run d c = do
  p ← raised (places.top_word c)
  o ← found d c.store p
  with_state d (leaves.leaving_run o c)

-- ---- text

-- `string Put`, `n PutChar`
abbrev pub putting : Dial → PsCore → Act
putting d c = with_text d (texts.appending 1 (texts.string_text_of c) d.out c)

abbrev pub putting_char : Dial → PsCore → Act
putting_char d c = with_text d (texts.appending 1 (texts.char_text_of c) d.out c)

-- `p PutPointer`
abbrev pub putting_pointer : Dial → PsCore → Act
putting_pointer d c = do
  p ← raised (places.top_word c)
  o ← found d c.store p
  with_text d (texts.appending 1 (forms.pointer_text_of o c) d.out c)

-- `space n count PutChars`
abbrev pub putting_chars : Dial → PsCore → Act
putting_chars d c = do
  a ← raised (characters.string_place c)
  b ← space_bytes d c.store a.0.space
  with_text d (characters.appending_chars d.out b c)
