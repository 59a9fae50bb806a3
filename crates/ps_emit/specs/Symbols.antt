-- Symbols of a table. They are made unit by unit, each when it first comes into scope at a stopping point, and kept under their numbers.
use Rattle.std.specs.Prelude.{ℕ, zero, suc, nat_lt, List, [], ◌∷◌, Option, Some, None, slice_get, if◌then◌else◌}
use Rattle.obj_file.specs.declared.object.FunctionRow.{FunctionRow}
use Rattle.c_tree.specs.declared.rows.SymbolRow.{SymbolRow}
use Rattle.c_tree.specs.declared.rows.Referent.{Referent}
use Rattle.c_tree.specs.declared.rows.Referent.TheVariants as refers
use Rattle.ps_text.specs.Code.{Code, Stop}
use Rattle.ps_emit.specs.Terms.{◌⋯◌, word, string, number, item}
use Rattle.ps_emit.specs.Types.{type_code}
use Rattle.ps_emit.specs.Places.{Homes, absolute, placed_at}

-- the symbol of a number, or null
abbrev pub linked : Option ℕ → Code
linked None = word "null"
linked (Some s) = number s ⋯ word "load"

abbrev pub entry_in : Option FunctionRow → ℕ
entry_in None = 0
entry_in (Some f) = f.entry

-- ---- a symbol

abbrev pub object_symbol : SymbolRow → ℕ → Code
object_symbol row o = linked row.up ⋯ item "objects" o ⋯ word "ObjectSymbol"

abbrev pub local_symbol : Homes → SymbolRow → ℕ → Code
local_symbol h row x = string row.name ⋯ type_code row.ctype ⋯ placed_at h x ⋯ linked row.up ⋯ word "NewSymbol"

abbrev pub function_symbol : SymbolRow → (entry : ℕ) → Code
function_symbol row entry = string row.name ⋯ type_code row.ctype ⋯ absolute entry ⋯ linked row.up ⋯ word "FunctionSymbol"

-- a symbol by what its name denotes, where functions have such rows and locals such homes; a built-in stands at address 0
abbrev pub symbol_by : List FunctionRow → Homes → SymbolRow → Referent → Code
symbol_by fs h row (refers.Object o) = object_symbol row o
symbol_by fs h row (refers.Local x) = local_symbol h row x
symbol_by fs h row (refers.Function f) = function_symbol row (entry_in (slice_get fs f))
symbol_by fs h row refers.Declared = function_symbol row 0

abbrev pub symbol_code : List FunctionRow → Homes → ℕ → SymbolRow → Code
symbol_code fs h s row = number s ⋯ symbol_by fs h row row.refers ⋯ word "def"

-- ---- the symbols that come into scope

abbrev pub up_in : Option SymbolRow → Option ℕ
up_in None = None
up_in (Some row) = row.up

-- The symbols of a chain, the innermost first, before the first with a number below `made`. A symbol's number is above those of the symbols
-- outward of it; a chain has at most so many.
abbrev pub coming : ℕ → List SymbolRow → (made : ℕ) → Option ℕ → List ℕ
coming zero ss made x = []
coming (suc n) ss made None = []
coming (suc n) ss made (Some s) = if nat_lt s made then [] else s ∷ coming n ss made (up_in (slice_get ss s))

abbrev pub symbol_of : List FunctionRow → Homes → ℕ → Option SymbolRow → Code
symbol_of fs h s None = Stop
symbol_of fs h s (Some row) = symbol_code fs h s row

-- these symbols, the last one first, so that each is there when another leads to it
abbrev pub symbols_code : List FunctionRow → Homes → List SymbolRow → List ℕ → Code
symbols_code fs h ss [] = Stop
symbols_code fs h ss (s ∷ rest) = symbols_code fs h ss rest ⋯ symbol_of fs h s (slice_get ss s)

-- all symbols below which number are made, once one is
abbrev pub made_with : ℕ → Option ℕ → ℕ
made_with made None = made
made_with made (Some s) = if nat_lt s made then made else suc s
