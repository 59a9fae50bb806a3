-- The names and tags of an expression, as a table tells them: their types, and every struct that these lead to.
use Rattle.std.specs.Prelude.{ℕ, zero, suc, ◌*◌, ◌&&◌, nat_le, Bool, true, false, bytes_eq, if◌then◌else◌, List, [], ◌∷◌, ◌++◌, length, slice_get, codes, Option, Some, None, Ok, Err}
use Rattle.std.specs.List.{list_any, list_all}
use Rattle.c_typing.specs.Plain.{Plain, Char, Int, Unsigned, Void, Pointer, Array, Struct}
use Rattle.ps_store.specs.declared.object.PsObj.{PsObj}
use Rattle.ps_store.specs.declared.object.DictId.{DictId}
use Rattle.ps_store.specs.declared.key.Key.TheVariants.{Name as NameKey}
use Rattle.ps_store.specs.StoreState.{StoreState}
use Rattle.ps_store.specs.Store.{entries_of}
use Rattle.ps_store.specs.Entries.{value_at}
use Rattle.ps_step.specs.Results.{◌>>=◌}
use Rattle.table_model.specs.declared.lack.Lack.TheVariants.{TooDeep}
use Rattle.table_model.specs.Reading.{Walked, top_of, dict_in, dict_at, items_at, name_at, number_at, procedure_at}
use Rattle.table_model.specs.Symbols.{is_function, is_called}
use Rattle.table_model.specs.Types.{IntKind, UnsignedKind, CharKind, PointerKind, ArrayKind, StructKind, type_kind, member_in}

-- a struct of an expression: an incomplete one has no members
pub record MemberOf : Type 0 where
  pub name : List ℕ
  pub at : ℕ
  pub ctype : Plain

pub record StructRow : Type 0 where
  pub tag : List ℕ
  pub size : ℕ
  pub members : List MemberOf

-- a name of an expression: its symbol, its type, whether it is kept in a register, and whether it is a function's
pub record NameRow : Type 0 where
  pub name : List ℕ
  pub symbol : DictId
  pub ctype : Plain
  pub in_register : Bool
  pub of_function : Bool

pub record Known : Type 0 where
  pub names : List NameRow
  pub structs : List StructRow

-- ---- types

-- the number of a tag among the structs, which it joins if it is new
abbrev number_from : ℕ → List ℕ → List StructRow → Option ℕ
number_from n tag [] = None
number_from n tag (r ∷ rs) = if bytes_eq r.tag tag then Some n else number_from (suc n) tag rs

abbrev numbered : List ℕ → List StructRow → Option ℕ → Plain × List StructRow
numbered tag rows (Some n) = (Struct n, rows)
numbered tag rows None = (Struct (length rows), rows ++ record { tag = tag; size = 0; members = [] } ∷ [])

abbrev pub struct_of : List ℕ → List StructRow → Plain × List StructRow
struct_of tag rows = numbered tag rows (number_from 0 tag rows)

-- a type, of which at most so many levels of pointers and arrays are read: a pointer to a struct is one
abbrev pub plain_within : ℕ → StoreState → List StructRow → DictId → Walked (Plain × List StructRow)
plain_within zero s rows t = Err TooDeep
plain_within (suc deep) s rows t = type_kind s t >>= λ k. elim k [
  | IntKind ↦ Ok (Int, rows)
  | UnsignedKind ↦ Ok (Unsigned, rows)
  | CharKind ↦ Ok (Char, rows)
  | PointerKind ↦ dict_at s t (codes "to") >>= λ to. type_kind s to >>= λ kind. elim kind [
    | StructKind ↦ name_at s to (codes "tag") >>= λ tag. let p : Plain × List StructRow = struct_of tag rows in Ok (Pointer p.0, p.1)
    | _ ↦ plain_within deep s rows to >>= λ p. Ok (Pointer p.0, p.1)
  ]
  | ArrayKind ↦ dict_at s t (codes "to") >>= λ item. number_at s t (codes "count") >>= λ n. plain_within deep s rows item >>= λ p. Ok (Array p.0 n, p.1)
  | StructKind ↦ name_at s t (codes "tag") >>= λ tag. Ok (struct_of tag rows)
]

-- ---- structs

abbrev members_in : StoreState → List StructRow → List PsObj → Walked (List MemberOf × List StructRow)
members_in s rows [] = Ok ([], rows)
members_in s rows (x ∷ xs) = do
  m ← member_in s x
  p ← plain_within 64 s rows m.ctype
  rest ← members_in s p.1 xs
  Ok (record { name = m.name; at = m.at; ctype = p.0 } ∷ rest.0, rest.1)

-- the rows with one of them filled in
abbrev with_row : List StructRow → ℕ → StructRow → List StructRow
with_row [] n row = []
with_row (r ∷ rs) zero row = row ∷ rs
with_row (r ∷ rs) (suc n) row = r ∷ with_row rs n row

-- A struct whose tag the table doesn't hold, or holds without members, is incomplete.
abbrev completed : StoreState → ℕ → StructRow → List StructRow → List PsObj → DictId → Walked (List StructRow)
completed s n row rows [] t = Ok rows
completed s n row rows (x ∷ xs) t = do
  size ← number_at s t (codes "size")
  p ← members_in s rows (x ∷ xs)
  Ok (with_row p.1 n (record row { size = size; members = p.0 }))

abbrev told_struct : StoreState → ℕ → StructRow → List StructRow → Option PsObj → Walked (List StructRow)
told_struct s n row rows None = Ok rows
told_struct s n row rows (Some x) = do
  t ← dict_in x
  xs ← items_at s t (codes "members")
  completed s n row rows xs t

abbrev read_struct : StoreState → ℕ → StructRow → List StructRow → Walked (List StructRow)
read_struct s n row rows = do
  top ← top_of s
  structs ← dict_at s top (codes "structs")
  told_struct s n row rows (value_at (entries_of s structs) (NameKey row.tag))

-- every struct from one on is read, and those that it leads to; the store has room for fewer than so many
abbrev pub structs_from : ℕ → StoreState → ℕ → List StructRow → Walked (List StructRow)
structs_from zero s n rows = Ok rows
structs_from (suc most) s n rows = elim (slice_get rows n) [
  | None ↦ Ok rows
  | Some row ↦ read_struct s n row rows >>= structs_from most s (suc n)
]

abbrev pub MOST_STRUCTS : ℕ
MOST_STRUCTS = 8000000

-- ---- limits

-- what is still to be asked of a type: how deep it is, and how many bytes it and all that it leads to have
abbrev pub size_of : List StructRow → Plain → ℕ
size_of rows Char = 1
size_of rows Int = 4
size_of rows Unsigned = 4
size_of rows Void = 0
size_of rows (Pointer t) = 4
size_of rows (Array t n) = n * size_of rows t
size_of rows (Struct n) = elim (slice_get rows n) [ None ↦ 0 | Some r ↦ r.size ]

abbrev pub is_small : List StructRow → Plain → Bool
is_small rows (Pointer t) = is_small rows t
is_small rows (Array t n) = nat_le (n * size_of rows t) 1048576 && is_small rows t
is_small rows (Struct n) = nat_le (size_of rows (Struct n)) 1048576
is_small rows t = true

abbrev members_of : List StructRow → ℕ → List MemberOf
members_of rows n = elim (slice_get rows n) [ None ↦ [] | Some r ↦ r.members ]

-- a type is at most so deep: a pointer to a struct is 1 deep
abbrev pub is_shallow : ℕ → List StructRow → Plain → Bool
is_shallow zero rows t = false
is_shallow (suc deep) rows (Pointer (Struct n)) = true
is_shallow (suc deep) rows (Pointer t) = is_shallow deep rows t
is_shallow (suc deep) rows (Array t n) = is_shallow deep rows t
is_shallow (suc deep) rows (Struct n) = list_all (λ m. is_shallow deep rows m.ctype) (members_of rows n)
is_shallow (suc deep) rows t = true

abbrev fits : List StructRow → Plain → Bool
fits rows t = is_small rows t && is_shallow 64 rows t

-- a struct is one deeper than its members
abbrev row_fits : List StructRow → StructRow → Bool
row_fits rows r = nat_le r.size 1048576 && list_all (λ m. is_small rows m.ctype && is_shallow 63 rows m.ctype) r.members

abbrev pub within_limits : List StructRow → Plain → Walked (Unit {0})
within_limits rows t = if fits rows t && list_all (λ r. row_fits rows r) rows then Ok tt else Err TooDeep

-- ---- names and tags

-- a type with every struct that it leads to, by members and pointers
abbrev pub whole_type : StoreState → List StructRow → DictId → Walked (Plain × List StructRow)
whole_type s rows t = do
  p ← plain_within 64 s rows t
  all ← structs_from MOST_STRUCTS s (length rows) p.1
  u ← within_limits all p.0
  Ok (p.0, all)

-- A register is a variable whose `/where` says so. Where this is no procedure it is none, and what is lacking is met when
-- the name is evaluated.
abbrev is_register : StoreState → Walked (List PsObj) → Bool
is_register s (Ok xs) = list_any (λ y. is_called s (codes "Register") y) xs
is_register s (Err l) = false

abbrev named_variable : StoreState → Known → List ℕ → DictId → Walked Known
named_variable s k name x = do
  t ← dict_at s x (codes "type")
  p ← whole_type s k.structs t
  Ok (record {
    names = k.names ++ record { name = name; symbol = x; ctype = p.0; in_register = is_register s (procedure_at s x (codes "where")); of_function = false } ∷ [];
    structs = p.1;
  })

abbrev named_function : Known → List ℕ → DictId → Known
named_function k name x = record k { names = k.names ++ record { name = name; symbol = x; ctype = Int; in_register = false; of_function = true } ∷ [] }

abbrev pub with_name : StoreState → Known → List ℕ → DictId → Walked Known
with_name s k name x = is_function s x >>= λ b. elim b [ true ↦ Ok (named_function k name x) | false ↦ named_variable s k name x ]

abbrev pub with_tag : StoreState → Known → List ℕ → Walked Known
with_tag s k tag = do
  all ← structs_from MOST_STRUCTS s (length k.structs) (struct_of tag k.structs).1
  u ← within_limits all Void
  Ok (record k { structs = all })
