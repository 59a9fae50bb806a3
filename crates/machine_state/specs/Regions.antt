-- The memory of a machine: four regions of bytes at fixed addresses.
use Rattle.std.specs.Prelude.{ℕ, zero, suc, ◌∷◌, [], ◌+◌, ◌-◌, ◌*◌, ◌%◌, nat_eq, nat_le, ◌&&◌, if◌then◌else◌, List, ◌++◌, length, replicate, take, drop, option_map, ok_or, Option, Some, None, Result, Ok, Err}
use Rattle.byteorder.specs.Endian.{big_number, little_number, big_bytes, little_bytes}
use Rattle.ldb_words.specs.declared.kinds.Order.{Order}
use Rattle.ldb_words.specs.declared.kinds.Order.TheVariants.{Little, Big}
use Rattle.ldb_words.specs.declared.event.FaultKind.{FaultKind}
use Rattle.ldb_words.specs.declared.event.FaultKind.TheVariants.{Align, Outside as OutsideFault}
use Rattle.ldb_words.specs.declared.event.Outside.{Outside}
use Rattle.machine_state.specs.declared.layout.TheConstants.{TEXT, DATA, DATA_SIZE, STACK, STACK_SIZE, CONTEXT, CONTEXT_SIZE}

-- the bytes of each region
pub record Regions : Type 0 where
  pub text_bytes : List ℕ
  pub data_bytes : List ℕ
  pub stack_bytes : List ℕ
  pub context_bytes : List ℕ

-- so many zeros; opaque, since a proof would write them all out
unfoldable pub zeros : ℕ → List ℕ
zeros n = replicate n 0

-- the regions at the start: the text, the statics, and zeros
unfoldable pub first_regions : List ℕ → List ℕ → Regions
first_regions text statics = record {
  text_bytes = text;
  data_bytes = statics ++ zeros (DATA_SIZE - length statics);
  stack_bytes = zeros STACK_SIZE;
  context_bytes = zeros CONTEXT_SIZE;
}

-- ---- numbers as bytes

-- the number in the first n bytes
abbrev pub number_of : Order → ℕ → List ℕ → ℕ
number_of Little n xs = little_number n xs
number_of Big n xs = big_number n xs

-- the lowest n bytes of x
abbrev pub bytes_of : Order → ℕ → ℕ → List ℕ
bytes_of Little n x = little_bytes n x
bytes_of Big n x = big_bytes n x

-- ---- addresses

-- the offset of `width` bytes at an address in a region, or none where they aren't all in it
abbrev pub offset_in : ℕ → ℕ → ℕ → ℕ → Option ℕ
offset_in base size at width = if nat_le base at && nat_le (at + width) (base + size) then Some (at - base) else None

-- the first that there is
abbrev pub or_else : {T : Type 0} → Option T → Option T → Option T
or_else None o = o
or_else (Some x) o = Some x

-- a region's bytes from an offset on
abbrev pub bytes_from : List ℕ → Option ℕ → Option (List ℕ)
bytes_from xs None = None
bytes_from xs (Some offset) = Some (drop offset xs)

-- the bytes from an address on, where the program may read `width` of them
unfoldable pub readable : Regions → ℕ → ℕ → Option (List ℕ)
readable r at width =
    or_else (bytes_from r.text_bytes (offset_in TEXT (length r.text_bytes) at width))
    (or_else (bytes_from r.data_bytes (offset_in DATA (length r.data_bytes) at width))
    (bytes_from r.stack_bytes (offset_in STACK (length r.stack_bytes) at width)))

-- the number of those bytes, or Outside
abbrev pub number_in : Order → ℕ → Option (List ℕ) → Result ℕ FaultKind
number_in order width None = Err OutsideFault
number_in order width (Some xs) = Ok (number_of order width xs)

-- the number, or Align where its address is no multiple of its width
abbrev pub if_aligned : {T : Type 0} → ℕ → ℕ → Result T FaultKind → Result T FaultKind
if_aligned at width (Err kind) = Err kind
if_aligned at width (Ok x) = if nat_eq (at % width) 0 then Ok x else Err Align

-- what a load of the program gives, or its fault
unfoldable pub load_of : Order → Regions → ℕ → ℕ → Result ℕ FaultKind
load_of order r at width = if_aligned at width (number_in order width (readable r at width))

-- the word of an instruction, which stands in the text, or its fault
unfoldable pub fetch_of : Order → Regions → ℕ → Result ℕ FaultKind
fetch_of order r at =
    if_aligned at 4 (number_in order 4 (bytes_from r.text_bytes (offset_in TEXT (length r.text_bytes) at 4)))

-- ---- writing

-- the bytes with others written over them from an offset on
unfoldable pub overwritten : List ℕ → ℕ → List ℕ → List ℕ
overwritten xs offset ys = take offset xs ++ (ys ++ drop (offset + length ys) xs)

-- the regions with bytes written into the data, at an offset
abbrev pub with_data : Regions → List ℕ → ℕ → Regions
with_data r ys offset = record r { data_bytes = overwritten r.data_bytes offset ys }

abbrev pub with_stack : Regions → List ℕ → ℕ → Regions
with_stack r ys offset = record r { stack_bytes = overwritten r.stack_bytes offset ys }

-- bytes written where the program may write, or Outside
unfoldable pub written : Regions → ℕ → List ℕ → Result Regions FaultKind
written r at ys =
    ok_or
    (or_else (option_map (with_data r ys) (offset_in DATA (length r.data_bytes) at (length ys)))
    (option_map (with_stack r ys) (offset_in STACK (length r.stack_bytes) at (length ys))))
    OutsideFault

-- what a store of the program leaves, or its fault
unfoldable pub store_of : Order → Regions → ℕ → ℕ → ℕ → Result Regions FaultKind
store_of order r at width value = if_aligned at width (written r at (bytes_of order width value))

-- the bytes from an address on, where the program may write `width` of them
unfoldable pub writable : Regions → ℕ → ℕ → Option (List ℕ)
writable r at width =
    or_else (bytes_from r.data_bytes (offset_in DATA (length r.data_bytes) at width))
    (bytes_from r.stack_bytes (offset_in STACK (length r.stack_bytes) at width))

-- ---- what the nub may read and write: all four regions

-- the bytes from an address on, where there are `width` of them
unfoldable pub held : Regions → ℕ → ℕ → Option (List ℕ)
held r at width =
    or_else (readable r at width) (bytes_from r.context_bytes (offset_in CONTEXT (length r.context_bytes) at width))

-- the value, or Outside where there is none or its address is no multiple of its width
abbrev pub or_outside : {T : Type 0} → ℕ → ℕ → Option T → Result T Outside
or_outside at width None = Err (record {})
or_outside at width (Some x) = if nat_eq (at % width) 0 then Ok x else Err (record {})

-- the number at an address
unfoldable pub read_of : Order → Regions → ℕ → ℕ → Result ℕ Outside
read_of order r at width = or_outside at width (option_map (number_of order width) (held r at width))

abbrev pub with_text : Regions → List ℕ → ℕ → Regions
with_text r ys offset = record r { text_bytes = overwritten r.text_bytes offset ys }

abbrev pub with_context : Regions → List ℕ → ℕ → Regions
with_context r ys offset = record r { context_bytes = overwritten r.context_bytes offset ys }

-- the regions with bytes written at an address
unfoldable pub overlaid : Regions → ℕ → List ℕ → Option Regions
overlaid r at ys =
    or_else (option_map (with_text r ys) (offset_in TEXT (length r.text_bytes) at (length ys)))
    (or_else (option_map (with_data r ys) (offset_in DATA (length r.data_bytes) at (length ys)))
    (or_else (option_map (with_stack r ys) (offset_in STACK (length r.stack_bytes) at (length ys)))
    (option_map (with_context r ys) (offset_in CONTEXT (length r.context_bytes) at (length ys)))))

-- the regions with a number's lowest bytes written at an address
unfoldable pub write_of : Order → Regions → ℕ → ℕ → ℕ → Result Regions Outside
write_of order r at width value = or_outside at width (overlaid r at (bytes_of order width value))

-- ---- the context block

-- words one after another, as bytes
abbrev pub words_bytes : Order → List ℕ → List ℕ
words_bytes order [] = []
words_bytes order (w ∷ ws) = bytes_of order 4 w ++ words_bytes order ws

-- the first n words of bytes
abbrev pub words_in : Order → ℕ → List ℕ → List ℕ
words_in order zero xs = []
words_in order (suc n) xs = number_of order 4 xs ∷ words_in order n (drop 4 xs)

-- the regions with these words in the context block
unfoldable pub saved_words : Order → List ℕ → Regions → Regions
saved_words order ws r = record r { context_bytes = words_bytes order ws }

-- words stored one after another where the program may write, or the fault
unfoldable pub store_words_of : Order → Regions → ℕ → List ℕ → Result Regions FaultKind
store_words_of order r at ws = if_aligned at 4 (written r at (words_bytes order ws))

-- the first n words of bytes, or Outside
abbrev pub words_from : Order → ℕ → Option (List ℕ) → Result (List ℕ) FaultKind
words_from order n None = Err OutsideFault
words_from order n (Some xs) = Ok (words_in order n xs)

-- n words one after another, read where the program may write, or the fault
unfoldable pub load_words_of : Order → Regions → ℕ → ℕ → Result (List ℕ) FaultKind
load_words_of order r at n = if_aligned at 4 (words_from order n (writable r at (4 * n)))
