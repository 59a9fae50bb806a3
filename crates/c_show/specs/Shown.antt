-- What a value prints.
use Rattle.std.specs.Prelude.{◌≡◌, ◌≢◌, ℕ, suc, zero, ◌+◌, ◌-◌, ◌/◌, ◌%◌, ◌^◌, ◌<◌, List, [], ◌∷◌, ◌++◌, Bool, true, false, ◌&&◌, ◌||◌, ◌==◌, nat_le, nat_lt, Option, Some, None, slice_get, length, map, take, drop, replicate, codes, decimal, flat_map, if◌then◌else◌}
use Rattle.std.specs.Fmt.{signed_decimal}
use Rattle.std.specs.List.{AllByRecursion}
use Rattle.c_tree.specs.declared.types.CType.{CType}
use Rattle.c_tree.specs.declared.types.CType.TheVariants.{Char, Int, Unsigned, Void, Pointer', Array', Struct}
use Rattle.c_tree.specs.declared.types.StructDef.{StructDef}
use Rattle.c_tree.specs.declared.rows.Program.{Program}
use Rattle.c_tree.specs.declared.rows.ObjectRow.{ObjectRow}
use Rattle.c_tree.specs.declared.rows.Local.{Local}
use Rattle.c_tree.specs.Types.{target_of}
use Rattle.c_tree.specs.Layout.{members_of}
use Rattle.ldb_words.specs.declared.kinds.Kind.TheVariants.{Byte}
use Rattle.ldb_words.specs.Word.{signed}
use Rattle.c_show.specs.declared.held.Held.{Held}
use Rattle.c_show.specs.declared.held.Held.TheVariants as held
use Rattle.c_show.specs.Printed.{Showing, Told, Free, shown, pointer_text}
use Rattle.c_store.specs.Store.{Value, Number, Null, At, Origin, Static, Text, Auto, Object, Cell, World, cell_at, live_cells, is_stale}
use Rattle.c_source.specs.Blocks.{locals_in}
use Rattle.c_source.specs.Names.{file_name}

-- ---- labels

abbrev without_ending : List ℕ → List ℕ
without_ending name = take (length name - 2) name

abbrev static_label : Program → Option ObjectRow → List ℕ
static_label p None = []
static_label p (Some row) = if row.is_static then without_ending (file_name p row.unit) ++ codes "." ++ row.name else row.name

abbrev local_label : Option Local → ℕ → List ℕ
local_label None n = []
local_label (Some l) n = l.name ++ codes "@" ++ decimal n

-- `g`, `unit.g`, `x@n` and `strK`
abbrev pub label_of : Program → Origin → List ℕ
label_of p (Static o) = static_label p (slice_get p.objects o)
label_of p (Auto f x n) = local_label (slice_get (locals_in (slice_get p.functions f)) x) n
label_of p (Text k) = codes "str" ++ decimal k

abbrev label_in : Program → Option Object → List ℕ
label_in p None = []
label_in p (Some o) = label_of p o.origin

-- at most n bytes from an offset on, as long as there are Byte leaves
abbrev bytes_from : ℕ → ℕ → List Cell → List ℕ
bytes_from zero i cells = []
bytes_from (suc n) i cells = elim (cell_at Byte i cells) [
  | Some (Number c) ↦ (c % 2 ^ 8) ∷ bytes_from n (suc i) cells
  | _ ↦ []
]

abbrev before_nul : List ℕ → List ℕ
before_nul [] = []
before_nul (c ∷ cs) = if c == 0 then [] else c ∷ before_nul cs

-- the string at a Byte leaf, as far as it is shown
abbrev string_at : List Cell → ℕ → Option (List ℕ)
string_at cells i = elim (cell_at Byte i cells) [
  | None ↦ None
  | Some v ↦ Some (before_nul (bytes_from 201 i cells))
]

abbrev pub held_of : Program → World → Value → Held
held_of p w (Number n) = held.Number n
held_of p w Null = held.Null
held_of p w (At o i) = held.At (label_in p (slice_get w.objects o)) i (string_at (live_cells (slice_get w.objects o)) i)

abbrev hex_digit : ℕ → ℕ
hex_digit d = if nat_lt d 10 then 48 + d else 87 + d

abbrev hex_text : (digits : ℕ) → ℕ → List ℕ
hex_text zero n = []
hex_text (suc d) n = hex_text d (n / 16) ++ hex_digit (n % 16) ∷ []

-- the objects that a program may have: its static ones, its strings, and the locals of its functions
abbrev pub IsOrigin : Program → Origin → Type 0
IsOrigin p (Static o) = o < length p.objects
IsOrigin p (Text k) = k < length p.strings
IsOrigin p (Auto f x n) = x < length (locals_in (slice_get p.functions f))

-- the label of such an object
abbrev pub IsLabel : Program → List ℕ → Type 0
IsLabel p label = (origin : Origin) × IsOrigin p origin × (label ≡ label_of p origin)

-- bytes, if there are any
abbrev pub AreBytes : Option (List ℕ) → Type 0
AreBytes None = Unit {0}
AreBytes (Some cs) = AllByRecursion (λ c. c < 256) cs

-- the texts of pointers: null, one into an object of the program, perhaps with a string, and an address in none
pub data IsPointerForm (p : Program) : List ℕ → Type 0 where
  null : IsPointerForm p (codes "0")
  at_label : (to_char : Bool) (label : List ℕ) (offset : ℕ) (string : Option (List ℕ)) → IsLabel p label → offset < 2 ^ 32 → AreBytes string
      → IsPointerForm p (pointer_text to_char label offset string)
  no_object : (address : ℕ) → address < 2 ^ 32 → IsPointerForm p (63 ∷ hex_text 8 address)

abbrev pub IsOneLine : List ℕ → Type 0
IsOneLine text = AllByRecursion (λ c. c ≢ 10) text

-- any pointer's text, which is one line
abbrev pub IsPointerText : Program → List ℕ → Type 0
IsPointerText p text = IsPointerForm p text × IsOneLine text

abbrev pub showing : Program → World → (free : ℕ → List ℕ) → ℕ → List Value → List Showing
showing p w free n [] = []
showing p w free n (v ∷ vs) = (if is_stale w v then Free (free n) else Told (held_of p w v)) ∷ showing p w free (suc n) vs

-- a text that these leaf values of a type may show: a stale leaf shows any pointer text
abbrev pub Shows : Program → World → CType → List Value → List ℕ → Type 0
Shows p w t vs text = (free : ℕ → List ℕ) × ((n : ℕ) → IsPointerText p (free n)) × (text ≡ shown p.defs t (showing p w free 0 vs))
