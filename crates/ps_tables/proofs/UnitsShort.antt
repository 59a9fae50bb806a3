-- How long the deferred texts of a program's units are in its table.
use Rattle.std.proofs.Common.{◌≡◌, ℕ, suc, ◌+◌, ◌*◌, ◌<◌, ◌≤◌, ◌^◌, Bool, true, false, nat_lt, List, [], ◌∷◌, length, map, Option, Some, None, slice_get, refl, sym, ap, ◌∙◌, subst, arith, length-append, ℤ, negsuc, ◌-◌}
use Rattle.std.proofs.lemmas.Bool.{ltb-true, ltb-false, le-ltb}
use Rattle.std.specs.List.{AllByRecursion}
use Rattle.ldb_words.specs.Word.{signed}
use Rattle.obj_file.specs.declared.object.FunctionRow.{FunctionRow}
use Rattle.c_tree.specs.declared.rows.Program.{Program}
use Rattle.c_tree.specs.declared.rows.UnitRow.{UnitRow}
use Rattle.c_tree.specs.declared.rows.SymbolRow.{SymbolRow}
use Rattle.c_tree.specs.declared.rows.Function.{Function}
use Rattle.c_tree.specs.declared.rows.Point.{Point}
use Rattle.ps_text.specs.Code.{Code, render}
use Rattle.ps_emit.specs.declared.placement.Placement.{Placement}
use Rattle.ps_emit.specs.Terms.{◌⋯◌, word}
use Rattle.ps_emit.specs.Places.{Homes, homes}
use Rattle.ps_emit.specs.Symbols.{linked, up_in, coming, made_with}
use Rattle.ps_emit.specs.Functions.{saved_register, saved_code, symbol_at, opened, point_in, point_code, points_code, made_by, function_in, made_in, functions_code, unit_code, units_code}
use Rattle.ps_emit.specs.Bounds.{all, of_symbol}
use Rattle.ps_emit.specs.Lengths.{size, written, IsWord, IsInteger, IsName, IsPlace}
use Rattle.ps_emit.proofs.Items.{saved_short, functions_short, units_short}
use Rattle.ps_emit.proofs.Followed.{render_followed}
use Rattle.ps_emit.proofs.Lengths.{IsShort, short_word, weight, Neat, weight_followed, neat_followed, neat_written, written_followed}
use Rattle.ps_tables.specs.Rows.{IsPlaced, HasRows, weigh, total, weigh_units, points_in, points_of, IsAmong, AreAmong, OwnNames, IsBelow, IsParted}
use Rattle.ps_tables.proofs.Totals.{at_item, total_more, total_linear, row_bytes, symbol_bytes, symbols_total}
use Rattle.ps_tables.proofs.NamesShort.{symbols_written}
use Rattle.ps_tables.proofs.Spent.{Spent, among_built_ins, spent_all, spends}

-- a function without its symbols: 382 bytes with 9 saved registers, and 62 for each point
abbrev pub function_bytes : Program → ℕ → ℕ
function_bytes p i = 382 + 62 * points_of p i

saved_written : (ss : List (ℕ × ℤ)) → AllByRecursion (λ s. IsWord s.0 × IsInteger s.1) ss → written (saved_code ss) ≤ 28 * length ss
saved_written [] h = omega arith
saved_written (s ∷ ss) h =
    let a = saved_written ss h.1 in
    let b = saved_short s.0 s.1 h.0.0 h.0.1 in
    let e = written_followed (saved_register s.0 s.1) (saved_code ss) in
    omega arith

-- ---- numbers, whose places are those of a word with its sign

short_any : (n : ℕ) → IsShort (signed n)
short_any n = by (nat_lt n (2 ^ 32)) refl
  where
    by : (b : Bool) → nat_lt n (2 ^ 32) ≡ b → IsShort (signed n)
    by true e = short_word n (ltb-true n (2 ^ 32) e)
    by false e =
        let l = ltb-false n (2 ^ 32) e in
        let high : nat_lt n (2 ^ 31) ≡ false = le-ltb n (2 ^ 31) (omega arith) in
        let is : signed n ≡ negsuc (2 ^ 32 - suc n) = rw high refl in
        let none : 2 ^ 32 - suc n ≡ 0 = omega arith in
        let last : signed 4294967295 ≡ negsuc 0 = refl in
        subst IsShort (sym (is ∙ (ap negsuc none ∙ sym last))) (short_word 4294967295 (omega arith))

neat_link : (s : Option ℕ) → Neat (linked s)
neat_link None = (record { same = refl }, tt)
neat_link (Some s) = (short_any s, (record { same = refl }, tt))

weight_link : (s : Option ℕ) → weight (linked s) ≤ 17
weight_link None = omega arith
weight_link (Some s) = omega arith

point_short : (address : ℕ) (q : Point) → written (point_code address q) ≤ 62
point_short address q =
    let n = neat_written (point_code address q)
    (short_any q.line, (short_any q.column, (short_any address, neat_followed (linked q.symbol) (word "NewPoint") (neat_link q.symbol) (record { same = refl }, tt)))) in
    let e = weight_followed (linked q.symbol) (word "NewPoint") in
    let l = weight_link q.symbol in
    omega arith

module _ (p : Program) (at : Placement) (rows : HasRows p at) (built_ins : (s : ℕ) → s < 3 → IsBelow s (up_in (slice_get p.symbols s))) (low high : ℕ) (three : 3 ≤ low)
    (links : (s : ℕ) → low ≤ s → s < high → IsAmong low s (up_in (slice_get p.symbols s))) where
  abbrev fs : List FunctionRow
  fs = at.functions

  abbrev ss : List SymbolRow
  ss = p.symbols

  abbrev Used : (made v : ℕ) → Type 0
  Used made v = Spent ss (symbol_bytes ss) built_ins low three high made v

  -- ---- points

  -- what stands there has so many bytes beside those of symbols, and what was spent before on symbols is now so much
  record Costs (bytes made before : ℕ) (k : Code) : Type 0 where
    pub after : ℕ
    pub used : Used made after
    pub short : written k + before ≤ bytes + after

  module _ (h : Homes) (homed : AllByRecursion (λ l. IsPlace (Some l)) h.places) where
    one_point : (made address v : ℕ) (x : ℕ) (o : Option Point) → slice_get p.points x ≡ o → IsWord address → IsAmong low high (symbol_at o) → Used made v → Costs 62 (made_with made (symbol_at o)) v (point_in p fs h made address o)
    one_point made address v x None e a scope u = record { after = v; used = u; short = omega arith }
    one_point made address v x (Some q) e a scope u =
        let b = point_short address q in
        let c = symbols_written fs ss rows.placed rows.symbols rows.few_symbols h homed (coming (length ss) ss made q.symbol) in
        let f = written_followed (opened p fs h made q) (point_code address q) in
        record { after = v + weigh (symbol_bytes ss) (coming (length ss) ss made q.symbol); used = spends ss (symbol_bytes ss) built_ins low three (length ss) high made v q.symbol links scope u; short = omega arith }

    points_cost : (made v : ℕ) (xs addresses : List ℕ) → AllByRecursion IsWord addresses → AllByRecursion (λ x. IsAmong low high (symbol_at (slice_get p.points x))) xs → Used made v
        → Costs (62 * length xs) (made_by p fs made xs addresses) v (points_code p fs h made xs addresses)
    points_cost made v [] [] a scope u = record { after = v; used = u; short = omega arith }
    points_cost made v [] (b ∷ bs) a scope u = record { after = v; used = u; short = omega arith }
    points_cost made v (x ∷ xs) [] a scope u = record { after = v; used = u; short = omega arith }
    points_cost made v (x ∷ xs) (b ∷ bs) a scope u =
        let q : Option Point = slice_get p.points x in
        let made' : ℕ = made_with made (symbol_at q) in
        let one : Costs 62 made' v (point_in p fs h made b q) = one_point made b v x q refl a.0 scope.0 u in
        let rest : Costs (62 * length xs) (made_by p fs made' xs bs) one.after (points_code p fs h made' xs bs) = points_cost made' one.after xs bs a.1 scope.1 one.used in
        let s = one.short in
        let t = rest.short in
        let e = written_followed (point_in p fs h made b q) (points_code p fs h made' xs bs) in
        record { after = rest.after; used = rest.used; short = omega arith }

  -- ---- functions

  one_function : (made v f : ℕ) (o : Option Function) (r : Option FunctionRow) → slice_get p.functions f ≡ o → slice_get fs f ≡ r → AllByRecursion (λ x. IsAmong low high (symbol_at (slice_get p.points x))) (points_in o) → Used made v
      → Costs (382 + 62 * length (points_in o)) (made_in p fs made o r) v (function_in p fs made o r)
  one_function made v f None None e d scope u = record { after = v; used = u; short = omega arith }
  one_function made v f None (Some row) e d scope u = record { after = v; used = u; short = omega arith }
  one_function made v f (Some fn) None e d scope u = record { after = v; used = u; short = omega arith }
  one_function made v f (Some fn) (Some row) e d scope u =
      let is : IsPlaced row = at_item IsPlaced fs f row rows.placed d in
      let named : IsName fn.name = at_item (λ (g : Function). IsName g.name) p.functions f fn rows.functions e in
      let h : Homes = homes row.locals fn.locals in
      let q = points_cost h is.locals made v fn.points row.points is.points scope u in
      let a = functions_short p fs made fn row (record { name = named; entry = is.entry; end = is.end; frame = is.frame }) in
      let b = saved_written row.saved is.saved in
      let few = is.few_saved in
      let s = q.short in
      record { after = q.after; used = q.used; short = omega arith }

  abbrev made_behind : ℕ → List ℕ → ℕ
  made_behind made [] = made
  made_behind made (x ∷ xs) = made_behind (made_in p fs made (slice_get p.functions x) (slice_get fs x)) xs

  functions_cost : (made v : ℕ) (xs : List ℕ) → AreAmong p low high xs → Used made v → Costs (weigh (function_bytes p) xs) (made_behind made xs) v (functions_code p fs made xs)
  functions_cost made v [] scope u = record { after = v; used = u; short = omega arith }
  functions_cost made v (x ∷ xs) scope u =
      let o : Option Function = slice_get p.functions x in
      let r : Option FunctionRow = slice_get fs x in
      let made' : ℕ = made_in p fs made o r in
      let one : Costs (382 + 62 * length (points_in o)) made' v (function_in p fs made o r) = one_function made v x o r refl refl scope.0 u in
      let rest : Costs (weigh (function_bytes p) xs) (made_behind made' xs) one.after (functions_code p fs made' xs) = functions_cost made' one.after xs scope.1 one.used in
      let s = one.short in
      let t = rest.short in
      let e = written_followed (function_in p fs made o r) (functions_code p fs made' xs) in
      record { after = rest.after; used = rest.used; short = omega arith }

  -- a unit's functions have its own names and the built-ins
  pub unit_written : (u : UnitRow) → low ≤ high → AreAmong p low high u.functions
      → written (functions_code p fs 0 u.functions) + total (symbol_bytes ss) low ≤ weigh (function_bytes p) u.functions + total (symbol_bytes ss) high + total (symbol_bytes ss) 3
  unit_written u l scope =
      let c = functions_cost 0 0 u.functions scope (among_built_ins (omega arith) (omega arith)) in
      let s = c.short in
      let t = spent_all ss (symbol_bytes ss) built_ins low three high (made_behind 0 u.functions) c.after l c.used in
      omega arith

-- ---- units

pub size_followed : (a b : Code) → size (a ⋯ b) ≡ size a + size b
size_followed a b = ap (λ (ts : List ℕ). length ts) (render_followed a b) ∙ length-append (render a) (render b)

module _ (p : Program) (at : Placement) (rows : HasRows p at) (parted : IsParted p) where
  abbrev P : ℕ → ℕ
  P = total (symbol_bytes p.symbols)

  outward : (s : ℕ) → s < 3 → IsBelow s (up_in (slice_get p.symbols s))
  outward s few = by (slice_get p.symbols s) refl
    where
      by : (o : Option SymbolRow) → slice_get p.symbols s ≡ o → IsBelow s (up_in o)
      by None e = tt
      by (Some row) e = (parted.built_ins s row few e).up

  built_in_bytes : (s : ℕ) → s < 3 → symbol_bytes p.symbols s ≤ 189
  built_in_bytes s few = by (slice_get p.symbols s) refl
    where
      by : (o : Option SymbolRow) → slice_get p.symbols s ≡ o → row_bytes o ≤ 189
      by None e = omega arith
      by (Some row) e = (parted.built_ins s row few e).bytes

  three_short : P 3 ≤ 567
  three_short = let a = built_in_bytes 0 (omega arith) in let b = built_in_bytes 1 (omega arith) in let c = built_in_bytes 2 (omega arith) in omega arith

  units_from : (low : ℕ) (us : List UnitRow) → 3 ≤ low → low ≤ length p.symbols → AllByRecursion (λ (u : UnitRow). length u.file ≤ 255) us → OwnNames p low us
      → size (units_code p at.functions us) + P low ≤ weigh_units (function_bytes p) us + 1126 * length us + P (length p.symbols)
  units_from low [] three l short own = let a = total_more (symbol_bytes p.symbols) low (length p.symbols) l in omega arith
  units_from low (u ∷ us) three l short own =
      let high : ℕ = own.0 in
      let one = own.1 in
      let w = unit_written p at rows outward low high three one.links u one.ordered one.points in
      let a = units_short p at.functions u short.0 in
      let o = one.ordered in
      let b = units_from high us (omega arith) one.within short.1 own.2 in
      let e = size_followed (unit_code p at.functions u) (units_code p at.functions us) in
      let t = three_short in
      omega arith

  all_units : (us : List UnitRow) → AllByRecursion (λ (u : UnitRow). length u.file ≤ 255) us → OwnNames p 3 us → size (units_code p at.functions us) ≤ weigh_units (function_bytes p) us + 1126 * length us + P (length p.symbols)
  all_units [] short own = omega arith
  all_units (u ∷ us) short own =
      let o = own.1.ordered in
      let i = own.1.within in
      let a = units_from 3 (u ∷ us) (omega arith) (omega arith) short own in
      omega arith

  -- the bytes of the units, functions, points and symbols
  pub units_bytes : size (units_code p at.functions p.units) ≤ 1126 * length p.units + 382 * length p.functions + 62 * length p.points + (all (map of_symbol p.symbols)).bytes
  units_bytes =
      let a = all_units p.units rows.units parted.names in
      let b = parted.functions (function_bytes p) in
      let c = total_linear 382 62 (points_of p) (length p.functions) in
      let d = parted.points in
      let e = symbols_total p.symbols in
      omega arith
