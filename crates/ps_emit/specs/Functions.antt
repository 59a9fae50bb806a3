-- Units, functions and stopping points of a table.
use Rattle.std.specs.Prelude.{ℕ, ℤ, pos, List, [], ◌∷◌, length, Bool, true, false, Option, Some, None, slice_get}
use Rattle.obj_file.specs.declared.object.FunctionRow.{FunctionRow as Placed}
use Rattle.c_tree.specs.declared.rows.Program.{Program}
use Rattle.c_tree.specs.declared.rows.UnitRow.{UnitRow}
use Rattle.c_tree.specs.declared.rows.Function.{Function}
use Rattle.c_tree.specs.declared.rows.Point.{Point}
use Rattle.ps_text.specs.Code.{Code, Stop, render}
use Rattle.ps_emit.specs.Terms.{◌⋯◌, word, string, integer, number, bracketed}
use Rattle.ps_emit.specs.Places.{Homes, homes}
use Rattle.ps_emit.specs.Symbols.{linked, coming, symbols_code, made_with}

abbrev pub truth : Bool → Code
truth true = word "true"
truth false = word "false"

-- a register that a function saves, with its word's distance from the frame's base
abbrev pub register_offset : ℕ → ℤ → Code
register_offset register offset = integer (pos register) ⋯ integer offset

abbrev pub saved_register : ℕ → ℤ → Code
saved_register register offset = bracketed (register_offset register offset)

abbrev pub saved_code : List (ℕ × ℤ) → Code
saved_code [] = Stop
saved_code (s ∷ ss) = saved_register s.0 s.1 ⋯ saved_code ss

abbrev pub point_code : (address : ℕ) → Point → Code
point_code address q = number q.line ⋯ number q.column ⋯ number address ⋯ linked q.symbol ⋯ word "NewPoint"

abbrev pub symbol_at : Option Point → Option ℕ
symbol_at None = None
symbol_at (Some q) = q.symbol

module _ (p : Program) (fs : List Placed) where
  -- ---- points

  -- the symbols that come into scope at a point, where all below a number are made
  abbrev pub opened : Homes → (made : ℕ) → Point → Code
  opened h made q = symbols_code fs h p.symbols (coming (length p.symbols) p.symbols made q.symbol)

  -- below which number all symbols are made, once these points are
  abbrev pub made_by : (made : ℕ) → (points addresses : List ℕ) → ℕ
  made_by made (x ∷ xs) (a ∷ rest) = made_by (made_with made (symbol_at (slice_get p.points x))) xs rest
  made_by made xs rest = made

  abbrev pub point_in : Homes → (made address : ℕ) → Option Point → Code
  point_in h made address None = Stop
  point_in h made address (Some q) = opened h made q ⋯ point_code address q

  -- points by their numbers, which stand at such addresses
  abbrev pub points_code : Homes → (made : ℕ) → (points addresses : List ℕ) → Code
  points_code h made (x ∷ xs) (a ∷ rest) =
      point_in h made a (slice_get p.points x) ⋯ points_code h (made_with made (symbol_at (slice_get p.points x))) xs rest
  points_code h made xs rest = Stop

  -- ---- functions

  abbrev pub function_code : (made : ℕ) → Function → Placed → Code
  function_code made f at =
      string f.name ⋯ truth f.is_static ⋯ number at.entry ⋯ number at.end ⋯ number at.frame ⋯ bracketed (saved_code at.saved)
      ⋯ bracketed (points_code (homes at.locals f.locals) made f.points at.points) ⋯ word "NewFunction"

  abbrev pub function_in : (made : ℕ) → Option Function → Option Placed → Code
  function_in made (Some f) (Some at) = function_code made f at
  function_in made f at = Stop

  abbrev pub made_in : (made : ℕ) → Option Function → Option Placed → ℕ
  made_in made (Some f) (Some at) = made_by made f.points at.points
  made_in made f at = made

  -- functions by their numbers
  abbrev pub functions_code : (made : ℕ) → List ℕ → Code
  functions_code made [] = Stop
  functions_code made (x ∷ xs) =
      function_in made (slice_get p.functions x) (slice_get fs x) ⋯ functions_code (made_in made (slice_get p.functions x) (slice_get fs x)) xs

  -- ---- units

  -- A unit's functions are made when they are first asked for. Its symbols are kept in a dictionary that is left behind.
  abbrev pub deferred : UnitRow → Code
  deferred u = integer (pos 1) ⋯ word "dict" ⋯ word "begin" ⋯ bracketed (functions_code 0 u.functions) ⋯ word "end"

  abbrev pub unit_code : UnitRow → Code
  unit_code u = string u.file ⋯ string (render (deferred u)) ⋯ word "cvx" ⋯ word "NewUnit"

  abbrev pub units_code : List UnitRow → Code
  units_code [] = Stop
  units_code (u ∷ us) = unit_code u ⋯ units_code us
