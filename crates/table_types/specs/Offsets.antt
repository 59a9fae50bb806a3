-- The leaves of a table's types by their offsets.
use Rattle.std.specs.Prelude.{ℕ, zero, suc, ◌+◌, ◌-◌, ◌/◌, ◌%◌, ◌^◌, ◌&&◌, nat_eq, nat_le, nat_lt, Bool, true, false, if◌then◌else◌, List, [], ◌∷◌, codes, Option, Some, None, Ok, Err}
use Rattle.ldb_words.specs.declared.kinds.Kind.{Kind}
use Rattle.ldb_words.specs.declared.kinds.Kind.TheVariants.{Byte, Word, Address}
use Rattle.ps_store.specs.declared.object.PsObj.{PsObj}
use Rattle.ps_store.specs.declared.object.DictId.{DictId}
use Rattle.ps_store.specs.StoreState.{StoreState}
use Rattle.ps_step.specs.Results.{◌>>=◌}
use Rattle.table_model.specs.declared.lack.Lack.TheVariants.{TooDeep}
use Rattle.table_model.specs.declared.found.Found.{Found}
use Rattle.table_model.specs.Reading.{Walked, dict_at, items_at, number_at}
use Rattle.table_model.specs.Types.{IntKind, UnsignedKind, CharKind, PointerKind, ArrayKind, StructKind, type_kind, member_in, is_within, same_kind}

-- ---- the leaf at an offset

-- a scalar has one leaf, at its beginning
abbrev pub scalar_at : Kind → (at : ℕ) → Option Kind
scalar_at k i = if nat_eq i 0 then Some k else None

-- an array's leaf is that of the item in which the offset is
abbrev pub item_at : (ℕ → Walked (Option Kind)) → (size count at : ℕ) → Walked (Option Kind)
item_at leaf size count i = if nat_lt 0 size && nat_lt (i / size) count then leaf (i % size) else Ok None

-- of a member and the best one so far, by their offsets and types, the one nearest below an offset; of equal ones the later
abbrev pub nearer : (at : ℕ) → Option (ℕ × DictId) → (from : ℕ) → DictId → Option (ℕ × DictId)
nearer i None n t = if nat_le n i then Some (n, t) else None
nearer i (Some best) n t = if nat_le n i && nat_le best.0 n then Some (n, t) else Some best

-- the member nearest below an offset
abbrev pub holder : StoreState → (at : ℕ) → Option (ℕ × DictId) → List PsObj → Walked (Option (ℕ × DictId))
holder s i best [] = Ok best
holder s i best (x ∷ xs) = member_in s x >>= λ m. holder s i (nearer i best m.at m.ctype) xs

-- a struct's leaf is that of the member in which the offset is
abbrev pub member_at : (DictId → ℕ → Walked (Option Kind)) → (at : ℕ) → Option (ℕ × DictId) → Walked (Option Kind)
member_at leaf i None = Ok None
member_at leaf i (Some m) = leaf m.1 (i - m.0)

-- the kind of the leaf at an offset of a type, if one is there
abbrev pub leaf_within : StoreState → (deep : ℕ) → DictId → (at : ℕ) → Walked (Option Kind)
leaf_within s zero t i = Err TooDeep
leaf_within s (suc deep) t i = type_kind s t >>= λ k. elim k [
  | IntKind ↦ Ok (scalar_at Word i)
  | UnsignedKind ↦ Ok (scalar_at Word i)
  | CharKind ↦ Ok (scalar_at Byte i)
  | PointerKind ↦ Ok (scalar_at Address i)
  | ArrayKind ↦ dict_at s t (codes "to") >>= λ item. number_at s item (codes "size") >>= λ size. number_at s t (codes "count") >>= λ count.
      item_at (λ j. leaf_within s deep item j) size count i
  | StructKind ↦ items_at s t (codes "members") >>= λ xs. holder s i None xs >>= member_at (λ m j. leaf_within s deep m j) i
]

-- the same of a found object, if there is one, and of types as deep as the rules allow
abbrev pub leaf_in : StoreState → Option Found → (at : ℕ) → Walked (Option Kind)
leaf_in s None i = Ok None
leaf_in s (Some o) i = leaf_within s 64 o.ctype i

-- ---- leaves that are live

-- where in its object a pointer leads
abbrev pub offset_of : Option Found → ℕ
offset_of None = 0
offset_of (Some o) = o.at

abbrev pub is_kind : Kind → Option Kind → Bool
is_kind k None = false
is_kind k (Some j) = same_kind j k

-- whether a leaf of a kind is live at an offset
abbrev pub kind_live : StoreState → Option Found → Kind → (at : ℕ) → Walked Bool
kind_live s found k i = leaf_in s found i >>= λ leaf. Ok (is_kind k leaf)

-- offsets have 32 bits
abbrev pub if_offset : (at : ℕ) → Walked Bool → Walked Bool
if_offset i live = if nat_lt i (2 ^ 32) then live else Ok false

-- whether so many items are live one behind another; the first that is not decides
abbrev pub items_live : (ℕ → Walked Bool) → (count size at : ℕ) → Walked Bool
items_live live zero size i = Ok true
items_live live (suc n) size i = if_offset i (live i) >>= λ b. elim b [ false ↦ Ok false | true ↦ items_live live n size (i + size) ]

abbrev pub members_live : StoreState → (DictId → ℕ → Walked Bool) → (at : ℕ) → List PsObj → Walked Bool
members_live s live i [] = Ok true
members_live s live i (x ∷ xs) = member_in s x >>= λ m. if_offset (i + m.at) (live m.ctype (i + m.at)) >>= λ b. elim b [ false ↦ Ok false | true ↦ members_live s live i xs ]

-- whether each leaf of a type that begins at an offset is live
abbrev pub type_live : StoreState → Option Found → (deep : ℕ) → DictId → (at : ℕ) → Walked Bool
type_live s found zero t i = Err TooDeep
type_live s found (suc deep) t i = type_kind s t >>= λ k. elim k [
  | IntKind ↦ kind_live s found Word i
  | UnsignedKind ↦ kind_live s found Word i
  | CharKind ↦ kind_live s found Byte i
  | PointerKind ↦ kind_live s found Address i
  | ArrayKind ↦ dict_at s t (codes "to") >>= λ item. number_at s item (codes "size") >>= λ size. number_at s t (codes "count") >>= λ count.
      items_live (λ j. type_live s found deep item j) count size i
  | StructKind ↦ items_at s t (codes "members") >>= members_live s (λ m j. type_live s found deep m j) i
]

-- a type is at most as deep as the rules allow; and so is that of a found object
unfoldable pub checked : StoreState → DictId → Walked (Unit {0})
checked s t = is_within s 64 t

abbrev pub checked_found : StoreState → Option Found → Walked (Unit {0})
checked_found s None = Ok tt
checked_found s (Some o) = checked s o.ctype

-- ---- runs of bytes

-- the number of Byte leaves one behind another from an offset on, up to so many, behind some that were counted
unfoldable pub run_from : StoreState → Option Found → (most counted at : ℕ) → Walked ℕ
run_from s found zero k i = Ok k
run_from s found (suc n) k i = if_offset i (kind_live s found Byte i) >>= λ b. elim b [ false ↦ Ok k | true ↦ run_from s found n (suc k) (suc i) ]

-- one more than an integer can be
abbrev pub MOST_RUN : ℕ
MOST_RUN = 2147483648

-- from where a pointer leads on
abbrev pub byte_run : StoreState → Option Found → Walked ℕ
byte_run s found = checked_found s found >>= λ u. run_from s found MOST_RUN 0 (offset_of found)
