-- How the points of a function are made, with the symbols that come into scope there: in how many steps, and with how many units at most.
use Rattle.std.specs.Prelude.{◌≡◌, ◌<◌, ℕ, ◌+◌, codes, Option, Some, None, List, [], ◌∷◌, length, slice_get}
use Rattle.ldb_words.specs.Word.{signed}
use Rattle.c_tree.specs.declared.types.StructDef.{StructDef}
use Rattle.c_tree.specs.declared.rows.SymbolRow.{SymbolRow}
use Rattle.c_tree.specs.declared.rows.Point.{Point}
use Rattle.ps_store.specs.declared.object.PsObj.{PsObj}
use Rattle.ps_emit.specs.Places.{Homes}
use Rattle.ps_emit.specs.Symbols.{up_in, coming, made_with}
use Rattle.ps_emit.specs.Functions.{symbol_at}
use Rattle.ps_tables.specs.TableWords.{new_point}
use Rattle.ps_tables.specs.Pieces.{Piece, End, Number, Make}
use Rattle.ps_tables.specs.Rows.{weigh}
use Rattle.unit_tables.specs.Running.{IsMade, first_made}
use Rattle.unit_tables.specs.Symbols.{linked_then, link_steps, link_made, symbol_steps, symbol_made}

-- a stopping point, whose innermost symbol is this object
abbrev pub point_parts : (address : ℕ) → Point → PsObj → Piece
point_parts address q x =
    Make (codes "NewPoint") new_point (Number (signed q.line) (Number (signed q.column) (Number (signed address) (linked_then q.symbol x End)))) End

-- ---- symbols that come into scope

abbrev pub row_steps : List StructDef → Option SymbolRow → ℕ
row_steps defs None = 0
row_steps defs (Some row) = symbol_steps defs row

abbrev pub row_made : List StructDef → Homes → Option SymbolRow → ℕ
row_made defs h None = 0
row_made defs h (Some row) = symbol_made defs h row

-- A name whose number is below one that was made is on that one's chain, and so is what is outward of a new name; each is there.
pub record IsFollowed (ss : List SymbolRow) (made : ℕ) (x : Option ℕ) : Type 0 where
  pub there : (s : ℕ) → x ≡ Some s → s < length ss
  pub stops : (s : ℕ) → first_made (length ss) ss made x ≡ Some s → IsMade ss made s

-- each name leads outward to lower numbers
abbrev pub LeadLower : List SymbolRow → Type 0
LeadLower ss = (s u : ℕ) → up_in (slice_get ss s) ≡ Some u → u < s

module _ (defs : List StructDef) (ss : List SymbolRow) where
  abbrev pub opened_steps : (made : ℕ) → Option ℕ → ℕ
  opened_steps made x = weigh (λ s. row_steps defs (slice_get ss s)) (coming (length ss) ss made x)

  abbrev pub opened_made : Homes → (made : ℕ) → Option ℕ → ℕ
  opened_made h made x = weigh (λ s. row_made defs h (slice_get ss s)) (coming (length ss) ss made x)

  -- ---- a point

  abbrev pub point_steps : (made : ℕ) → Point → ℕ
  point_steps made q = opened_steps made q.symbol + (30 + link_steps q.symbol)

  abbrev pub point_made : Homes → (made : ℕ) → Point → ℕ
  point_made h made q = opened_made h made q.symbol + (7 + link_made q.symbol)

  -- ---- points

  module _ (points : List Point) where
    -- the points with such numbers that are there, with their addresses
    abbrev pub with_point : Option Point → (address : ℕ) → List (Point × ℕ) → List (Point × ℕ)
    with_point None address rest = rest
    with_point (Some q) address rest = (q, address) ∷ rest

    abbrev pub point_rows : (numbers addresses : List ℕ) → List (Point × ℕ)
    point_rows (x ∷ xs) (a ∷ rest) = with_point (slice_get points x) a (point_rows xs rest)
    point_rows xs rest = []

    abbrev pub steps_at : (made : ℕ) → Option Point → ℕ
    steps_at made None = 0
    steps_at made (Some q) = point_steps made q

    abbrev pub made_at : Homes → (made : ℕ) → Option Point → ℕ
    made_at h made None = 0
    made_at h made (Some q) = point_made h made q

    abbrev pub points_steps : (made : ℕ) → (numbers addresses : List ℕ) → ℕ
    points_steps made (x ∷ xs) (a ∷ rest) = steps_at made (slice_get points x) + points_steps (made_with made (symbol_at (slice_get points x))) xs rest
    points_steps made xs rest = 0

    abbrev pub points_made : Homes → (made : ℕ) → (numbers addresses : List ℕ) → ℕ
    points_made h made (x ∷ xs) (a ∷ rest) = made_at h made (slice_get points x) + points_made h (made_with made (symbol_at (slice_get points x))) xs rest
    points_made h made xs rest = 0

    -- the symbol of each point is so, where those of the points before it are made
    abbrev pub AreFollowed : (made : ℕ) → (numbers addresses : List ℕ) → Type 0
    AreFollowed made (x ∷ xs) (a ∷ rest) = IsFollowed ss made (symbol_at (slice_get points x)) × AreFollowed (made_with made (symbol_at (slice_get points x))) xs rest
    AreFollowed made xs rest = Unit {0}
