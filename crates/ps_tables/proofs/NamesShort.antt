-- How long the symbols are that a unit's deferred text has.
use Rattle.std.proofs.Common.{◌≡◌, ℕ, ◌+◌, ◌<◌, ◌≤◌, ◌^◌, List, [], ◌∷◌, length, Option, Some, None, slice_get, refl, arith}
use Rattle.std.proofs.lemmas.Option.{slice_get_within}
use Rattle.std.specs.List.{AllByRecursion}
use Rattle.obj_file.specs.declared.object.FunctionRow.{FunctionRow}
use Rattle.obj_file.specs.declared.object.LocalPlace.{LocalPlace}
use Rattle.c_tree.specs.declared.rows.SymbolRow.{SymbolRow}
use Rattle.c_tree.specs.declared.rows.Referent.{Referent}
use Rattle.c_tree.specs.declared.rows.Referent.TheVariants as refers
use Rattle.ps_emit.specs.Places.{Homes}
use Rattle.ps_emit.specs.Symbols.{entry_in, symbol_of, symbols_code}
use Rattle.ps_emit.specs.Lengths.{written, IsWord, IsPlace, IsFound, IsSymbolRow}
use Rattle.ps_emit.proofs.Items.{symbols_short}
use Rattle.ps_emit.proofs.Lengths.{written_followed}
use Rattle.ps_tables.specs.Rows.{IsReferent, IsSymbol, IsPlaced, weigh}
use Rattle.ps_tables.proofs.Totals.{at_item, symbol_bytes}

-- ---- one symbol

entry_fits : (fs : List FunctionRow) (f : ℕ) → AllByRecursion IsPlaced fs → IsWord (entry_in (slice_get fs f))
entry_fits fs f h = by (slice_get fs f) refl
  where
    by : (o : Option FunctionRow) → slice_get fs f ≡ o → IsWord (entry_in o)
    by None e = omega arith
    by (Some row) e = (at_item IsPlaced fs f row h e).entry

place_fits : (places : List LocalPlace) (x : ℕ) → AllByRecursion (λ l. IsPlace (Some l)) places → IsPlace (slice_get places x)
place_fits places x h = by (slice_get places x) refl
  where
    by : (o : Option LocalPlace) → slice_get places x ≡ o → IsPlace o
    by None e = tt
    by (Some l) e = at_item (λ l. IsPlace (Some l)) places x l h e

module _ (fs : List FunctionRow) (ss : List SymbolRow) (placed : AllByRecursion IsPlaced fs) (rows : AllByRecursion IsSymbol ss) (few : length ss < 2 ^ 32) where
  module _ (h : Homes) (homed : AllByRecursion (λ l. IsPlace (Some l)) h.places) where
    found : (r : Referent) → IsReferent r → IsFound fs h r
    found (refers.Object o) w = w
    found (refers.Local x) w = place_fits h.places x homed
    found (refers.Function f) w = entry_fits fs f placed
    found refers.Declared w = tt

    symbol_short : (s : ℕ) (o : Option SymbolRow) → slice_get ss s ≡ o → written (symbol_of fs h s o) ≤ symbol_bytes ss s
    symbol_short s None e = omega arith
    symbol_short s (Some row) e =
        let is : IsSymbol row = at_item IsSymbol ss s row rows e in
        let l : s < length ss = slice_get_within ss s row e in
        let fits : IsSymbolRow fs h s row = record { number = omega arith; name = is.name; ctype = is.ctype; up = is.up; found = found row.refers is.refers } in
        let b = symbols_short fs h row s fits in
        rw e b

    pub symbols_written : (xs : List ℕ) → written (symbols_code fs h ss xs) ≤ weigh (symbol_bytes ss) xs
    symbols_written [] = omega arith
    symbols_written (x ∷ xs) =
        let a = symbols_written xs in
        let b = symbol_short x (slice_get ss x) refl in
        let e = written_followed (symbols_code fs h ss xs) (symbol_of fs h x (slice_get ss x)) in
        omega arith
