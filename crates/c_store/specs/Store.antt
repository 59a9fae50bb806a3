-- Values, objects, and accesses to them: what a program and its slot code have in common.
use Rattle.std.specs.Prelude.{ℕ, ◌+◌, List, [], ◌∷◌, Bool, true, false, not, ◌&&◌, ◌==◌, nat_le, ℤ, pos, negsuc, ◌+ℤ◌, Option, Some, None, Result, Ok, Err, slice_get, slice_set, if◌then◌else◌, map}
use Rattle.ldb_words.specs.declared.kinds.Undef.TheVariants.{Pointer}
use Rattle.ldb_words.specs.declared.kinds.Kind.{Kind}
use Rattle.ldb_words.specs.declared.kinds.Kind.TheVariants.{Byte, Word, Address}
use Rattle.runs.specs.Runs.{Why, Reason, Stale, IllTyped}

-- A value is a number, which is its 32-bit pattern, the null pointer, or a pointer into an object. A `char` has the pattern of the `int` that it promotes to.
pub data Value : Type 0 where
  Number : (bits : ℕ) → Value
  Null : Value
  At : (object offset : ℕ) → Value

-- where an object comes from: a static object of the program, a string, or a function's local in an activation
pub data Origin : Type 0 where
  Static : (object : ℕ) → Origin
  Text : (string : ℕ) → Origin
  Auto : (function local activation : ℕ) → Origin

-- a scalar leaf of an object, with its value
pub record Cell : Type 0 where
  pub at : ℕ
  pub kind : Kind
  pub value : Value

-- An object is a list of leaves at byte offsets. Its number is its place in the list of all objects that were made, so it is used once.
pub record Object : Type 0 where
  pub origin : Origin
  pub live : Bool
  pub size : ℕ
  pub cells : List Cell

-- the objects by number, the input left and the output so far
pub record World : Type 0 where
  pub objects : List Object
  pub input : List ℕ
  pub output : List ℕ

abbrev pub zero_of : Kind → Value
zero_of Byte = Number 0
zero_of Word = Number 0
zero_of Address = Null

abbrev zeroed : Cell → Cell
zeroed c = record c { value = zero_of c.kind }

-- the same leaves with zeros, and with these values
abbrev pub zeros : List Cell → List Cell
zeros cs = map zeroed cs

abbrev pub filled : List Cell → List Value → List Cell
filled [] vs = []
filled (c ∷ cs) [] = []
filled (c ∷ cs) (v ∷ vs) = record c { value = v } ∷ filled cs vs

abbrev pub same_kind : Kind → Kind → Bool
same_kind Byte Byte = true
same_kind Word Word = true
same_kind Address Address = true
same_kind _ _ = false

abbrev pub is_text : Origin → Bool
is_text (Text k) = true
is_text _ = false

-- ---- accesses

-- there is a leaf of this kind at the offset
abbrev pub is_here : Kind → ℕ → Cell → Bool
is_here k i c = (c.at == i) && same_kind c.kind k

abbrev pub cell_at : Kind → ℕ → List Cell → Option Value
cell_at k i [] = None
cell_at k i (c ∷ cs) = if is_here k i c then Some c.value else cell_at k i cs

abbrev pub with_cell : Kind → ℕ → Value → List Cell → List Cell
with_cell k i v [] = []
with_cell k i v (c ∷ cs) = if is_here k i c then record c { value = v } ∷ cs else c ∷ with_cell k i v cs

abbrev pub live_cells : Option Object → List Cell
live_cells None = []
live_cells (Some o) = if o.live then o.cells else []

-- the live leaf of this kind at a place
abbrev pub leaf_at : World → Kind → Value → Option Value
leaf_at w k (Number n) = None
leaf_at w k Null = None
leaf_at w k (At o i) = cell_at k i (live_cells (slice_get w.objects o))

abbrev is_dead : Option Object → Bool
is_dead None = true
is_dead (Some o) = not o.live

-- a pointer to an object whose lifetime has ended
unfoldable pub is_stale : World → Value → Bool
is_stale w (Number n) = false
is_stale w Null = false
is_stale w (At o i) = is_dead (slice_get w.objects o)

-- a value that is used, which has not to be stale
abbrev pub used : World → Value → Result Value Why
used w v = if is_stale w v then Err Stale else Ok v

abbrev pub or_pointer : {A : Type 0} → Option A → Result A Why
or_pointer None = Err (Reason Pointer)
or_pointer (Some v) = Ok v

infixl 10 ◌>>=◌
abbrev pub ◌>>=◌ : {A B E : Type 0} → Result A E → (A → Result B E) → Result B E
(Ok x) >>= f = f x
(Err e) >>= f = Err e

-- a scalar is read from a leaf of its kind
unfoldable pub load : World → Kind → Value → Result Value Why
load w k place = or_pointer (leaf_at w k place) >>= used w

abbrev is_written : Option Object → Bool
is_written None = false
is_written (Some o) = not (is_text o.origin)

abbrev replaced : Kind → ℕ → Value → Option Object → List Object → ℕ → List Object
replaced k i v None objects o = objects
replaced k i v (Some ob) objects o = slice_set objects o (record ob { cells = with_cell k i v ob.cells })

abbrev pub written : World → Kind → Value → Value → World
written w k (Number n) v = w
written w k Null v = w
written w k (At o i) v = record w { objects = replaced k i v (slice_get w.objects o) w.objects o }

abbrev pub may_write : World → Value → Bool
may_write w (Number n) = false
may_write w Null = false
may_write w (At o i) = is_written (slice_get w.objects o)

-- a leaf for a number holds no address, and one for an address no number
abbrev pub may_hold : Kind → Value → Bool
may_hold Address (Number n) = false
may_hold Address v = true
may_hold k (Number n) = true
may_hold k v = false

abbrev pub stored : World → Kind → Value → Value → Result World Why
stored w k place v = do
  old ← or_pointer (leaf_at w k place)
  if may_write w place then Ok (written w k place v) else Err (Reason Pointer)

-- and written to one, which may hold it and is in no string
unfoldable pub store : World → Kind → Value → Value → Result World Why
store w k place v = if may_hold k v then stored w k place v else Err IllTyped

-- the leaves of a scalar that begins with a value
abbrev pub with_first : Value → List Cell → Result (List Cell) Why
with_first v [] = Ok []
with_first v (c ∷ cs) = if may_hold c.kind v then Ok (record c { value = v } ∷ cs) else Err IllTyped

-- ---- arithmetic on pointers

abbrev within : ℕ → ℤ → Option Object → Result Value Why
within o (pos i) None = Err (Reason Pointer)
within o (pos i) (Some ob) = if nat_le i ob.size then Ok (At o i) else Err (Reason Pointer)
within o (negsuc i) ob = Err (Reason Pointer)

-- a pointer moved by some bytes, which stays from 0 to its object's size
unfoldable pub moved : World → Value → ℤ → Result Value Why
moved w (Number n) by = Err IllTyped
moved w Null by = Err (Reason Pointer)
moved w (At o i) by = used w (At o i) >>= λ p. within o (pos i +ℤ by) (slice_get w.objects o)

-- ---- whole structs

abbrev pub load_all : World → ℕ → ℕ → List Cell → Result (List Value) Why
load_all w o i [] = Ok []
load_all w o i (l ∷ ls) = do
  v ← load w l.kind (At o (i + l.at))
  vs ← load_all w o i ls
  Ok (v ∷ vs)

abbrev pub store_all : World → ℕ → ℕ → List Cell → List Value → Result World Why
store_all w o i [] vs = Ok w
store_all w o i (l ∷ ls) [] = Err IllTyped
store_all w o i (l ∷ ls) (v ∷ vs) = do
  w' ← store w l.kind (At o (i + l.at)) v
  store_all w' o i ls vs

-- the values of a struct's leaves at a place
unfoldable pub load_struct : World → List Cell → Value → Result (List Value) Why
load_struct w ls (Number n) = Err IllTyped
load_struct w ls Null = Err (Reason Pointer)
load_struct w ls (At o i) = load_all w o i ls

unfoldable pub store_struct : World → List Cell → Value → List Value → Result World Why
store_struct w ls (Number n) vs = Err IllTyped
store_struct w ls Null vs = Err (Reason Pointer)
store_struct w ls (At o i) vs = store_all w o i ls vs
