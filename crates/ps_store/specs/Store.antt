-- A store: the arrays, dictionaries and strings that objects share, in two parts.
use Rattle.std.specs.Prelude.{◌≡◌, ◌≤◌, ℕ, ◌+◌, ◌/◌, Bool, false, ◌&&◌, nat_lt, nat_le, is_some, if◌then◌else◌, Option, Some, None, Result, Ok, Err, List, [], ◌∷◌, ◌++◌, length, take, replicate, slice_index_or, slice_set}
use Rattle.ps_store.specs.declared.object.Part.{Part}
use Rattle.ps_store.specs.declared.object.Part.TheVariants.{Table, Command}
use Rattle.ps_store.specs.declared.object.ArrayId.{ArrayId}
use Rattle.ps_store.specs.declared.object.DictId.{DictId}
use Rattle.ps_store.specs.declared.object.StringId.{StringId}
use Rattle.ps_store.specs.declared.object.PsObj.{PsObj}
use Rattle.ps_store.specs.declared.object.PsObj.TheVariants.{Null, Int, Bool as Truth, Name, Str}
use Rattle.ps_store.specs.declared.object.Pair.{Pair}
use Rattle.ps_store.specs.declared.key.Key.{Key}
use Rattle.ps_store.specs.declared.key.Key.TheVariants.{Name as NameKey, Int as IntKey, Bool as TruthKey}
use Rattle.ps_store.specs.declared.object.Mark.{Mark}
use Rattle.ps_store.specs.declared.fault.StoreFault.{StoreFault}
use Rattle.ps_store.specs.declared.fault.StoreFault.TheVariants.{Limit, ReadOnly, NoMemory}
use Rattle.ps_store.specs.declared.fault.ReadOnly.{ReadOnly as ReadOnlyFault}
use Rattle.ps_store.specs.Held.{Held}
use Rattle.ps_store.specs.StoreState.{StoreState, Closed}
use Rattle.ps_store.specs.Entries.{value_at, replaced}
use Rattle.ps_store.specs.Overwritten.{overwritten}

-- the objects of a part
abbrev pub held : StoreState → Part → Held
held s Table = s.table
held s Command = s.command

-- the store with these objects in the part
abbrev pub with_held : StoreState → Part → Held → StoreState
with_held s Table h = record s { table = h }
with_held s Command h = record s { command = h }

-- the elements of an array, the entries of a dictionary, the bytes of a string
abbrev pub elements_of : StoreState → ArrayId → List PsObj
elements_of s a = slice_index_or (held s a.part).arrays a.index []

abbrev pub entries_of : StoreState → DictId → List (Key × Pair)
entries_of s d = slice_index_or (held s d.part).dicts d.index []

abbrev pub bytes_of : StoreState → StringId → List ℕ
bytes_of s t = slice_index_or (held s t.part).strings t.index []

-- the store with other elements, entries or bytes there
abbrev pub with_elements : StoreState → ArrayId → List PsObj → StoreState
with_elements s a items = let h = held s a.part in with_held s a.part (record h { arrays = slice_set h.arrays a.index items })

abbrev pub with_entries : StoreState → DictId → List (Key × Pair) → StoreState
with_entries s d entries = let h = held s d.part in with_held s d.part (record h { dicts = slice_set h.dicts d.index entries })

abbrev pub with_bytes : StoreState → StringId → List ℕ → StoreState
with_bytes s t bytes = let h = held s t.part in with_held s t.part (record h { strings = slice_set h.strings t.index bytes })

-- whether an object of the table's part with this index is among the first `count`, which are closed
abbrev pub is_closed : Part → ℕ → ℕ → Bool
is_closed Table index count = nat_lt index count
is_closed Command index count = false

-- whether a store has room for so many more units
abbrev pub has_room : StoreState → ℕ → Bool
has_room s cost = nat_le (s.table.units + s.command.units + cost) 8000000

-- the units of a text: one, and one for each 16 bytes begun
abbrev pub text_units : List ℕ → ℕ
text_units text = 1 + (length text + 15) / 16

-- the closed objects, which are the first arrays, dictionaries and strings of the table's part
abbrev pub closed_part : StoreState → Closed
closed_part s = record {
  arrays = take s.closed.arrays s.table.arrays;
  dicts = take s.closed.dicts s.table.dicts;
  strings = take s.closed.strings s.table.strings;
  mark = s.closed;
  part = s.part;
  base = s.base;
  top = s.top;
}

-- a mark of the table's part is not below what is closed
pub record IsAbove (closed mark : Mark) : Type 0 where
  pub arrays : closed.arrays ≤ mark.arrays
  pub dicts : closed.dicts ≤ mark.dicts
  pub strings : closed.strings ≤ mark.strings
  pub units : closed.units ≤ mark.units

abbrev pub KeepsClosedIn : Part → Mark → Mark → Type 0
KeepsClosedIn Table closed mark = IsAbove closed mark
KeepsClosedIn Command closed mark = Unit {0}

abbrev pub KeepsClosed : StoreState → Mark → Type 0
KeepsClosed s mark = KeepsClosedIn s.part s.closed mark

-- What a call gives that makes something: a value and the store after it, or why it is refused.
abbrev pub Given : Type 0 → Type 0
Given X = Result (X × StoreState) StoreFault

-- an array of these elements
abbrev pub making_array : StoreState → List PsObj → Given ArrayId
making_array s items =
    let h = held s s.part in
    if nat_le (length items) 1000000 && has_room s (1 + length items)
    then Ok (record { part = s.part; index = length h.arrays }, with_held s s.part (record h { arrays = h.arrays ++ items ∷ []; units = h.units + (1 + length items) }))
    else Err Limit

-- an array of so many nulls
abbrev pub making_nulls : StoreState → ℕ → Given ArrayId
making_nulls s len = making_array s (replicate len Null)

-- an empty dictionary
abbrev pub making_dict : StoreState → Given DictId
making_dict s =
    let h = held s s.part in
    if has_room s 1
    then Ok (record { part = s.part; index = length h.dicts }, with_held s s.part (record h { dicts = h.dicts ++ [] ∷ []; units = h.units + 1 }))
    else Err Limit

-- a text of these bytes, if there are at most so many
abbrev pub making_text : ℕ → StoreState → List ℕ → Given StringId
making_text most s bytes =
    let h = held s s.part in
    if nat_le (length bytes) most && has_room s (text_units bytes)
    then Ok (record { part = s.part; index = length h.strings }, with_held s s.part (record h { strings = h.strings ++ bytes ∷ []; units = h.units + text_units bytes }))
    else Err Limit

-- a string of these bytes
abbrev pub making_string : StoreState → List ℕ → Given StringId
making_string s bytes = making_text 16777216 s bytes

-- a string of so many zeros
abbrev pub making_zeros : StoreState → ℕ → Given StringId
making_zeros s len = making_string s (replicate len 0)

-- a name of these characters
abbrev pub making_name : StoreState → List ℕ → Given StringId
making_name s text = making_text 127 s text

-- a literal name of the characters that were made
abbrev pub named_object : Given StringId → Given PsObj
named_object (Ok made) = Ok (Name made.0 false, made.1)
named_object (Err fault) = Err fault

-- the object that a key is: of a name a literal one, which is made
abbrev pub key_object : StoreState → Key → Given PsObj
key_object s (NameKey text) = named_object (making_name s text)
key_object s (IntKey n) = Ok (Int n, s)
key_object s (TruthKey b) = Ok (Truth b, s)

-- a pair is put at the end of a dictionary, and counts a unit
abbrev pub adding_pair : StoreState → DictId → Key → Pair → Given (Unit {0})
adding_pair s d key pair =
    let h = held s d.part in
    let entries = entries_of s d in
    if nat_lt (length entries) 1000000 && has_room s 1
    then Ok (tt, with_held s d.part (record h { dicts = slice_set h.dicts d.index (entries ++ (key, pair) ∷ []); units = h.units + 1 }))
    else Err Limit

-- the same, where the key's object is made first
abbrev pub adding : DictId → Key → PsObj → Given PsObj → Given (Unit {0})
adding d key value (Ok made) = adding_pair made.1 d key (record { key = made.0; value = value })
adding d key value (Err fault) = Err fault

-- A value is put under a key of a dictionary: in the place of the value that is there, or else in a new pair with the key's object.
abbrev pub putting : StoreState → DictId → Key → Given PsObj → PsObj → Given (Unit {0})
putting s d key object value =
    if is_closed d.part d.index s.closed.dicts then Err ReadOnly
    else if is_some (value_at (entries_of s d) key) then Ok (tt, with_entries s d (replaced (entries_of s d) key value))
    else adding d key value object

-- a value is put under a key; for a name that is new a name is made
abbrev pub putting_value : StoreState → DictId → Key → PsObj → Given (Unit {0})
putting_value s d key value = putting s d key (key_object s key) value

-- a value is put under a name of the store, which a new pair keeps
abbrev pub putting_under_name : StoreState → DictId → StringId → PsObj → Given (Unit {0})
putting_under_name s d t value =
    if nat_le (length (bytes_of s t)) 127 then putting s d (NameKey (bytes_of s t)) (Ok (Name t false, s)) value else Err Limit

-- The call did what the definition gives, unless memory ran out: then the store is as before.
abbrev pub Does : {X : Type 0} → Result X StoreFault → StoreState → StoreState → Given X → Type 0
Does (Ok x) old new given = given ≡ Ok (x, new)
Does (Err Limit) old new given = (given ≡ Err Limit) × (new ≡ old)
Does (Err ReadOnly) old new given = (given ≡ Err ReadOnly) × (new ≡ old)
Does (Err NoMemory) old new given = new ≡ old

-- What a call gives that changes an object: the store after it, none where the object is closed.
-- Elements are put into an array from a place on; bytes into a string.
abbrev pub writing_elements : StoreState → ArrayId → ℕ → List PsObj → Option StoreState
writing_elements s a at items =
    if is_closed a.part a.index s.closed.arrays then None
    else Some (with_elements s a (overwritten (elements_of s a) at items))

abbrev pub putting_element : StoreState → ArrayId → ℕ → PsObj → Option StoreState
putting_element s a at value = writing_elements s a at (value ∷ [])

abbrev pub writing_bytes : StoreState → StringId → ℕ → List ℕ → Option StoreState
writing_bytes s t at bytes =
    if is_closed t.part t.index s.closed.strings then None
    else Some (with_bytes s t (overwritten (bytes_of s t) at bytes))

-- The call changed what the definition gives, and is refused exactly where it gives nothing: then the store is as before.
abbrev pub Changes : Result (Unit {0}) ReadOnlyFault → StoreState → StoreState → Option StoreState → Type 0
Changes (Ok x) old new given = given ≡ Some new
Changes (Err e) old new given = (given ≡ None) × (new ≡ old)

-- whether what is under a key is an executable string
abbrev pub is_deferred : Option PsObj → Bool
is_deferred (Some (Str text executable)) = executable
is_deferred other = false

-- a new store: one base dictionary, which is empty and in the table's part
abbrev pub new_store : StoreState
new_store = record {
  table = record { arrays = []; dicts = [] ∷ []; strings = []; units = 1 };
  command = record { arrays = []; dicts = []; strings = []; units = 0 };
  part = Table;
  closed = record { arrays = 0; dicts = 0; strings = 0; units = 0 };
  base = record { part = Table; index = 0 } ∷ [];
  top = None;
}
