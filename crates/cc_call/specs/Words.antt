-- The words `cc TARGET IMAGE TABLE SRC..`.
use Rattle.std.specs.Prelude.{ℕ, ◌-◌, Bool, true, ◌&&◌, not, nat_le, if◌then◌else◌, List, [], ◌∷◌, length, drop, map, codes, string_bytes, Option, Some, None}
use Rattle.std.specs.List.{list_any, list_all}
use Rattle.std.specs.Str.{bytes_eq}
use Rattle.ldb_cc.specs.declared.aim.Aim.{Aim}
use Rattle.ldb_cc.specs.declared.aim.Aim.TheVariants.{Mips, Sparc}
use Rattle.cc_call.specs.declared.words.CcRequest.{CcRequest}

-- the target, the names of the files that are written, and those of the sources
pub record Request : Type 0 where
  pub aim : Aim
  pub image : List ℕ
  pub table : List ℕ
  pub sources : List (List ℕ)

-- at most 255 bytes, of which the last are `.c` after at least one
abbrev pub is_source : List ℕ → Bool
is_source name = nat_le 3 (length name) && (nat_le (length name) 255 && bytes_eq (drop (length name - 2) name) (codes ".c"))

abbrev pub are_sources : List (List ℕ) → Bool
are_sources names = list_all is_source names

-- 1 to 16
abbrev pub is_count : ℕ → Bool
is_count n = nat_le 1 n && nat_le n 16

abbrev pub is_among : List ℕ → List (List ℕ) → Bool
is_among name names = list_any (bytes_eq name) names

abbrev pub all_differ : List (List ℕ) → Bool
all_differ [] = true
all_differ (name ∷ names) = not (is_among name names) && all_differ names

abbrev pub aim_of : List ℕ → Option Aim
aim_of word = if bytes_eq word (codes "mips") then Some Mips else if bytes_eq word (codes "sparc") then Some Sparc else None

abbrev pub for_aim : Option Aim → (image table : List ℕ) → (sources : List (List ℕ)) → Option Request
for_aim None image table sources = None
for_aim (Some aim) image table sources = Some (record { aim = aim; image = image; table = table; sources = sources })

-- what the words ask for, if they have the form
abbrev pub request_of : List (List ℕ) → Option Request
request_of (cc ∷ target ∷ image ∷ table ∷ sources) =
    if bytes_eq cc (codes "cc") && (is_count (length sources) && (are_sources sources && all_differ (image ∷ table ∷ sources)))
    then for_aim (aim_of target) image table sources
    else None
request_of _ = None

-- a request with its bytes
abbrev pub seen : CcRequest → Request
seen request = record { aim = request.aim; image = request.image.now; table = request.table.now; sources = map string_bytes request.sources.now }
