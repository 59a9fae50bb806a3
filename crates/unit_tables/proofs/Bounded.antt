-- What is counted for the items of a program is no less than its units take.
use Rattle.std.proofs.Common.{◌≡◌, ℕ, ◌+◌, ◌*◌, ◌<◌, ◌≤◌, Option, Some, None, List, [], ◌∷◌, length, map, slice_get, refl, arith}
use Rattle.std.specs.List.{AllByRecursion}
use Rattle.obj_file.specs.declared.object.FunctionRow.{FunctionRow as Placed}
use Rattle.c_tree.specs.declared.rows.Program.{Program}
use Rattle.c_tree.specs.declared.rows.UnitRow.{UnitRow}
use Rattle.c_tree.specs.declared.rows.Function.{Function}
use Rattle.c_tree.specs.declared.rows.Point.{Point}
use Rattle.c_tree.specs.declared.rows.SymbolRow.{SymbolRow}
use Rattle.ps_store.specs.Store.{text_units}
use Rattle.ps_emit.specs.declared.placement.Placement.{Placement}
use Rattle.ps_emit.specs.Bounds.{of_symbol, all, cost_of}
use Rattle.ps_emit.specs.Places.{Homes, homes}
use Rattle.ps_emit.specs.Symbols.{up_in, coming, made_with}
use Rattle.ps_emit.specs.Functions.{symbol_at, made_by, made_in}
use Rattle.ps_emit.specs.Lengths.{IsName}
use Rattle.ps_tables.specs.Rows.{weigh, total, weigh_units, points_in, points_of, IsAmong, AreAmong, OwnNames, IsBelow, IsSymbol, IsPlaced, HasRows, IsParted}
use Rattle.ps_tables.specs.Bounded.{IsShort, deferred_units}
use Rattle.ps_tables.specs.Tabled.{table_made, table_steps}
use Rattle.ps_tables.proofs.Bounded.{table_takes_beside, table_makes_beside}
use Rattle.ps_tables.proofs.Totals.{at_item, total_more, total_shift, total_linear}
use Rattle.ps_tables.proofs.Spent.{Spent, among_built_ins, spent_all, spends}
use Rattle.unit_tables.specs.Symbols.{ArePlaces, link_steps, link_made}
use Rattle.unit_tables.specs.Points.{row_steps, row_made, point_rows, with_point, steps_at, made_at, points_steps, points_made}
use Rattle.unit_tables.specs.Conditions.{RunsPlaced}
use Rattle.unit_tables.specs.Functions.{steps_in, units_in, with_function, function_rows, functions_steps, functions_made, unit_steps, unit_made}
use Rattle.unit_tables.specs.Bounded.{units_steps, units_made}
use Rattle.unit_tables.proofs.Symbols.{symbol_takes, symbol_makes}
use Rattle.unit_tables.proofs.Functions.{all_places}

-- ---- links

link_two : (up : Option ℕ) → (link_steps up ≤ 2) × (link_made up ≤ 2)
link_two None = (omega arith, omega arith)
link_two (Some s) = (omega arith, omega arith)

weigh_less : (v w : ℕ → ℕ) → ((s : ℕ) → v s ≤ w s) → (xs : List ℕ) → weigh v xs ≤ weigh w xs
weigh_less v w less [] = omega arith
weigh_less v w less (x ∷ xs) = let a = less x in let b = weigh_less v w less xs in omega arith

-- ---- what is counted for symbols

abbrev counted_steps : Option SymbolRow → ℕ
counted_steps None = 0
counted_steps (Some row) = (of_symbol row).steps

abbrev counted_made : Option SymbolRow → ℕ
counted_made None = 0
counted_made (Some row) = (of_symbol row).made

-- a function, a point
abbrev function_counted : Program → ℕ → ℕ
function_counted p f = 90 + 32 * points_of p f

abbrev function_units : Program → ℕ → ℕ
function_units p f = 100 + 10 * points_of p f

module _ (p : Program) (at : Placement) (rows : HasRows p at) (places : AllByRecursion RunsPlaced at.functions) where
  abbrev fs : List Placed
  fs = at.functions

  abbrev ss : List SymbolRow
  ss = p.symbols

  abbrev S : ℕ → ℕ
  S s = counted_steps (slice_get ss s)

  abbrev M : ℕ → ℕ
  M s = counted_made (slice_get ss s)

  steps_less : (s : ℕ) → row_steps p.defs (slice_get ss s) ≤ S s
  steps_less s = by (slice_get ss s)
    where
      by : (o : Option SymbolRow) → row_steps p.defs o ≤ counted_steps o
      by None = omega arith
      by (Some row) = symbol_takes p.defs row

  made_less : (h : Homes) → ArePlaces h → (s : ℕ) → row_made p.defs h (slice_get ss s) ≤ M s
  made_less h are s = by (slice_get ss s) refl
    where
      by : (o : Option SymbolRow) → slice_get ss s ≡ o → row_made p.defs h o ≤ counted_made o
      by None e = omega arith
      by (Some row) e = let is : IsSymbol row = at_item IsSymbol ss s row rows.symbols e in symbol_makes p.defs h row is.name.short are

  module _ (built_ins : (s : ℕ) → s < 3 → IsBelow s (up_in (slice_get ss s))) (low high : ℕ) (three : 3 ≤ low)
      (links : (s : ℕ) → low ≤ s → s < high → IsAmong low s (up_in (slice_get ss s))) where
    abbrev Used : (ℕ → ℕ) → (made v : ℕ) → Type 0
    Used w made v = Spent ss w built_ins low three high made v

    -- what was spent on symbols, in steps and units
    record Costs (steps units counted_steps counted_units made v w : ℕ) : Type 0 where
      pub steps_after : ℕ
      pub units_after : ℕ
      pub used_steps : Used S made steps_after
      pub used_units : Used M made units_after
      pub few_steps : steps + v ≤ counted_steps + steps_after
      pub few_units : units + w ≤ counted_units + units_after

    -- ---- points

    module _ (h : Homes) (are : ArePlaces h) where
      one_point : (made v w : ℕ) (o : Option Point) → IsAmong low high (symbol_at o) → Used S made v → Used M made w
          → Costs (steps_at p.defs ss p.points made o) (made_at p.defs ss p.points h made o + 1) 32 10 (made_with made (symbol_at o)) v w
      one_point made v w None scope u x = record { steps_after = v; units_after = w; used_steps = u; used_units = x; few_steps = omega arith; few_units = omega arith }
      one_point made v w (Some q) scope u x =
          let names : List ℕ = coming (length ss) ss made q.symbol in
          let a = weigh_less (λ s. row_steps p.defs (slice_get ss s)) S steps_less names in
          let b = weigh_less (λ s. row_made p.defs h (slice_get ss s)) M (made_less h are) names in
          let l = link_two q.symbol in
          let l₀ = l.0 in
          let l₁ = l.1 in
          record {
            steps_after = v + weigh S names;
            units_after = w + weigh M names;
            used_steps = spends ss S built_ins low three (length ss) high made v q.symbol links scope u;
            used_units = spends ss M built_ins low three (length ss) high made w q.symbol links scope x;
            few_steps = omega arith;
            few_units = omega arith;
          }

      point_row : (o : Option Point) (a : ℕ) (rest : List (Point × ℕ)) → length (with_point p.defs ss p.points o a rest) ≤ 1 + length rest
      point_row None a rest = omega arith
      point_row (Some q) a rest = omega arith

      points_cost : (made v w : ℕ) (xs addresses : List ℕ) → AllByRecursion (λ x. IsAmong low high (symbol_at (slice_get p.points x))) xs → Used S made v → Used M made w
          → Costs (points_steps p.defs ss p.points made xs addresses) (points_made p.defs ss p.points h made xs addresses + length (point_rows p.defs ss p.points xs addresses)) (32 * length xs) (10 * length xs) (made_by p fs made xs addresses) v w
      points_cost made v w [] addresses scope u x = record { steps_after = v; units_after = w; used_steps = u; used_units = x; few_steps = omega arith; few_units = omega arith }
      points_cost made v w (y ∷ ys) [] scope u x = record { steps_after = v; units_after = w; used_steps = u; used_units = x; few_steps = omega arith; few_units = omega arith }
      points_cost made v w (y ∷ ys) (a ∷ rest) scope u x =
          let q : Option Point = slice_get p.points y in
          let made' : ℕ = made_with made (symbol_at q) in
          let one = one_point made v w q scope.0 u x in
          let more = points_cost made' one.steps_after one.units_after ys rest scope.1 one.used_steps one.used_units in
          let s₀ = one.few_steps in
          let s₁ = more.few_steps in
          let m₀ = one.few_units in
          let m₁ = more.few_units in
          let r = point_row q a (point_rows p.defs ss p.points ys rest) in
          record { steps_after = more.steps_after; units_after = more.units_after; used_steps = more.used_steps; used_units = more.used_units; few_steps = omega arith; few_units = omega arith }

    -- ---- functions

    one_function : (made v w f : ℕ) (o : Option Function) (r : Option Placed) → slice_get p.functions f ≡ o → slice_get fs f ≡ r → AllByRecursion (λ x. IsAmong low high (symbol_at (slice_get p.points x))) (points_in o)
        → Used S made v → Used M made w
        → Costs (steps_in p fs made o r) (units_in p fs made o r + 1) (90 + 32 * length (points_in o)) (100 + 10 * length (points_in o)) (made_in p fs made o r) v w
    one_function made v w f None None e d scope u x = record { steps_after = v; units_after = w; used_steps = u; used_units = x; few_steps = omega arith; few_units = omega arith }
    one_function made v w f None (Some row) e d scope u x = record { steps_after = v; units_after = w; used_steps = u; used_units = x; few_steps = omega arith; few_units = omega arith }
    one_function made v w f (Some fn) None e d scope u x = record { steps_after = v; units_after = w; used_steps = u; used_units = x; few_steps = omega arith; few_units = omega arith }
    one_function made v w f (Some fn) (Some row) e d scope u x =
        let is : IsPlaced row = at_item IsPlaced fs f row rows.placed d in
        let runs : RunsPlaced row = at_item RunsPlaced fs f row places d in
        let h : Homes = homes row.locals fn.locals in
        let q = points_cost h (all_places fn row runs) made v w fn.points row.points scope u x in
        let named = (at_item (λ (g : Function). IsName g.name) p.functions f fn rows.functions e).short in
        let five : text_units fn.name ≤ 5 = omega (arith, named) in
        let few = is.few_saved in
        let s = q.few_steps in
        let m = q.few_units in
        record { steps_after = q.steps_after; units_after = q.units_after; used_steps = q.used_steps; used_units = q.used_units; few_steps = omega arith; few_units = omega arith }

    function_row : (o : Option Function) (r : Option Placed) (rest : List (Function × Placed)) → length (with_function p fs o r rest) ≤ 1 + length rest
    function_row None None rest = omega arith
    function_row None (Some row) rest = omega arith
    function_row (Some f) None rest = omega arith
    function_row (Some f) (Some row) rest = omega arith

    abbrev made_behind : ℕ → List ℕ → ℕ
    made_behind made [] = made
    made_behind made (x ∷ xs) = made_behind (made_in p fs made (slice_get p.functions x) (slice_get fs x)) xs

    functions_cost : (made v w : ℕ) (xs : List ℕ) → AreAmong p low high xs → Used S made v → Used M made w
        → Costs (functions_steps p fs made xs) (functions_made p fs made xs + length (function_rows p fs xs)) (weigh (function_counted p) xs) (weigh (function_units p) xs) (made_behind made xs) v w
    functions_cost made v w [] scope u x = record { steps_after = v; units_after = w; used_steps = u; used_units = x; few_steps = omega arith; few_units = omega arith }
    functions_cost made v w (y ∷ ys) scope u x =
        let o : Option Function = slice_get p.functions y in
        let r : Option Placed = slice_get fs y in
        let made' : ℕ = made_in p fs made o r in
        let one = one_function made v w y o r refl refl scope.0 u x in
        let more = functions_cost made' one.steps_after one.units_after ys scope.1 one.used_steps one.used_units in
        let s₀ = one.few_steps in
        let s₁ = more.few_steps in
        let m₀ = one.few_units in
        let m₁ = more.few_units in
        let k = function_row o r (function_rows p fs ys) in
        record { steps_after = more.steps_after; units_after = more.units_after; used_steps = more.used_steps; used_units = more.used_units; few_steps = omega arith; few_units = omega arith }

    -- a unit's functions have its own names and the built-ins
    unit_steps_few : (u : UnitRow) → low ≤ high → AreAmong p low high u.functions → unit_steps p fs u + total S low ≤ 6 + weigh (function_counted p) u.functions + total S high + total S 3
    unit_steps_few u l scope =
        let c = functions_cost 0 0 0 u.functions scope (among_built_ins (omega arith) (omega arith)) (among_built_ins (omega arith) (omega arith)) in
        let s = c.few_steps in
        let t = spent_all ss S built_ins low three high (made_behind 0 u.functions) c.steps_after l c.used_steps in
        omega arith

    unit_made_few : (u : UnitRow) → low ≤ high → AreAmong p low high u.functions → unit_made p fs u + total M low ≤ 12 + weigh (function_units p) u.functions + total M high + total M 3
    unit_made_few u l scope =
        let c = functions_cost 0 0 0 u.functions scope (among_built_ins (omega arith) (omega arith)) (among_built_ins (omega arith) (omega arith)) in
        let s = c.few_units in
        let t = spent_all ss M built_ins low three high (made_behind 0 u.functions) c.units_after l c.used_units in
        omega arith

-- ---- units

module _ (p : Program) (at : Placement) (rows : HasRows p at) (places : AllByRecursion RunsPlaced at.functions) (parted : IsParted p) where
  abbrev PS : ℕ → ℕ
  PS = total (λ s. counted_steps (slice_get p.symbols s))

  abbrev PM : ℕ → ℕ
  PM = total (λ s. counted_made (slice_get p.symbols s))

  outward : (s : ℕ) → s < 3 → IsBelow s (up_in (slice_get p.symbols s))
  outward s few = by (slice_get p.symbols s) refl
    where
      by : (o : Option SymbolRow) → slice_get p.symbols s ≡ o → IsBelow s (up_in o)
      by None e = tt
      by (Some row) e = (parted.built_ins s row few e).up

  built_in : (s : ℕ) → s < 3 → (counted_steps (slice_get p.symbols s) ≤ 75) × (counted_made (slice_get p.symbols s) ≤ 42)
  built_in s few = by (slice_get p.symbols s) refl
    where
      by : (o : Option SymbolRow) → slice_get p.symbols s ≡ o → (counted_steps o ≤ 75) × (counted_made o ≤ 42)
      by None e = (omega arith, omega arith)
      by (Some row) e = let b = parted.built_ins s row few e in (b.steps, b.made)

  three_few : (PS 3 ≤ 225) × (PM 3 ≤ 126)
  three_few =
      let a = built_in 0 (omega arith) in
      let b = built_in 1 (omega arith) in
      let c = built_in 2 (omega arith) in
      let a₀ = a.0 in
      let b₀ = b.0 in
      let c₀ = c.0 in
      let a₁ = a.1 in
      let b₁ = b.1 in
      let c₁ = c.1 in
      (omega arith, omega arith)

  units_from : (low : ℕ) (us : List UnitRow) → 3 ≤ low → low ≤ length p.symbols → OwnNames p low us
      → (units_steps p at.functions us + PS low ≤ weigh_units (function_counted p) us + 231 * length us + PS (length p.symbols))
      × (units_made p at.functions us + PM low ≤ weigh_units (function_units p) us + 138 * length us + PM (length p.symbols))
  units_from low [] three l own =
      let a = total_more (λ s. counted_steps (slice_get p.symbols s)) low (length p.symbols) l in
      let b = total_more (λ s. counted_made (slice_get p.symbols s)) low (length p.symbols) l in
      (omega arith, omega arith)
  units_from low (u ∷ us) three l own =
      let high : ℕ = own.0 in
      let one = own.1 in
      let a = unit_steps_few p at rows places outward low high three one.links u one.ordered one.points in
      let b = unit_made_few p at rows places outward low high three one.links u one.ordered one.points in
      let o = one.ordered in
      let c = units_from high us (omega arith) one.within own.2 in
      let c₀ = c.0 in
      let c₁ = c.1 in
      let t₀ = three_few.0 in
      let t₁ = three_few.1 in
      (omega arith, omega arith)

  all_units : (us : List UnitRow) → OwnNames p 3 us
      → (units_steps p at.functions us ≤ weigh_units (function_counted p) us + 231 * length us + PS (length p.symbols))
      × (units_made p at.functions us ≤ weigh_units (function_units p) us + 138 * length us + PM (length p.symbols))
  all_units [] own = (omega arith, omega arith)
  all_units (u ∷ us) own =
      let o = own.1.ordered in
      let i = own.1.within in
      let c = units_from 3 (u ∷ us) (omega arith) (omega arith) own in
      let c₀ = c.0 in
      let c₁ = c.1 in
      (omega arith, omega arith)

  steps_total : (ss : List SymbolRow) → (total (λ s. counted_steps (slice_get ss s)) (length ss) ≡ (all (map of_symbol ss)).steps) × (total (λ s. counted_made (slice_get ss s)) (length ss) ≡ (all (map of_symbol ss)).made)
  steps_total [] = (refl, refl)
  steps_total (s ∷ ss) =
      let e = steps_total ss in
      let e₀ = e.0 in
      let e₁ = e.1 in
      let f = total_shift (λ i. counted_steps (slice_get (s ∷ ss) i)) (λ i. counted_steps (slice_get ss i)) (length ss) (λ i. refl) in
      let g = total_shift (λ i. counted_made (slice_get (s ∷ ss) i)) (λ i. counted_made (slice_get ss i)) (length ss) (λ i. refl) in
      (omega arith, omega arith)

  -- what the units take when each is run once
  pub units_few : (units_steps p at.functions p.units ≤ 231 * length p.units + 90 * length p.functions + 32 * length p.points + (all (map of_symbol p.symbols)).steps)
      × (units_made p at.functions p.units ≤ 138 * length p.units + 100 * length p.functions + 10 * length p.points + (all (map of_symbol p.symbols)).made)
  units_few =
      let a = all_units p.units parted.names in
      let a₀ = a.0 in
      let a₁ = a.1 in
      let b = parted.functions (function_counted p) in
      let c = parted.functions (function_units p) in
      let d = total_linear 90 32 (points_of p) (length p.functions) in
      let e = total_linear 100 10 (points_of p) (length p.functions) in
      let f = parted.points in
      let t = steps_total p.symbols in
      let t₀ = t.0 in
      let t₁ = t.1 in
      (omega arith, omega arith)

-- ---- all of it

pub all_steps : (p : Program) (at : Placement) → HasRows p at → IsParted p → IsShort p at → AllByRecursion RunsPlaced at.functions → table_steps p at + units_steps p at.functions p.units ≤ (cost_of p).steps
all_steps p at rows parted short places =
    let a = table_takes_beside p at short in
    let b = (units_few p at rows places parted).0 in
    omega arith

pub all_made : (p : Program) (at : Placement) → HasRows p at → IsParted p → IsShort p at → AllByRecursion RunsPlaced at.functions
    → table_made p at + units_made p at.functions p.units ≤ (cost_of p).made + deferred_units p at.functions p.units
all_made p at rows parted short places =
    let a = table_makes_beside p at short in
    let b = (units_few p at rows places parted).1 in
    omega arith
