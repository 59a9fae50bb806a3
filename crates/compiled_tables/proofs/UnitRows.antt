-- The rows of an accepted program and of where it is placed are such as its units ask that run.
use Rattle.std.proofs.Common.{◌≡◌, ℕ, suc, ◌+◌, ◌<◌, ◌≤◌, Bool, true, false, ◌==◌, List, [], ◌∷◌, length, Option, Some, None, slice_get, refl, ap, arith}
use Rattle.std.proofs.lemmas.Option.{slice_get_within}
use Rattle.std.specs.List.{AllByRecursion}
use Rattle.obj_file.specs.declared.object.FunctionRow.{FunctionRow as Placed}
use Rattle.c_tree.specs.declared.types.CType.{CType}
use Rattle.c_tree.specs.declared.types.StructDef.{StructDef}
use Rattle.c_tree.specs.declared.types.Member.{Member}
use Rattle.c_tree.specs.declared.rows.Program.{Program}
use Rattle.c_tree.specs.declared.rows.UnitRow.{UnitRow}
use Rattle.c_tree.specs.declared.rows.ObjectRow.{ObjectRow}
use Rattle.c_tree.specs.declared.rows.SymbolRow.{SymbolRow}
use Rattle.c_tree.specs.declared.rows.Function.{Function}
use Rattle.c_tree.specs.declared.rows.Referent.{Referent}
use Rattle.c_tree.specs.declared.rows.Referent.TheVariants as refers
use Rattle.c_typing.specs.Plain.{Plain, plain}
use Rattle.c_typing.specs.Written.{IsFormed}
use Rattle.c_typing.specs.Programs.{AllFrom, IsOfObject, IsReferent, IsSymbol, KeepsRules}
use Rattle.c_tokens.specs.Identifiers.{IsIdentifier, HasIdentifiers}
use Rattle.c_file.specs.Files.{State, Bodied}
use Rattle.c_file.specs.Made as made
use Rattle.ps_emit.specs.declared.placement.Placement.{Placement}
use Rattle.ps_tables.specs.Runnable.{RunsType}
use Rattle.ps_tables.specs.Bounded.{IsShortMember, IsShortStruct, IsShortObject, IsShort}
use Rattle.unit_tables.specs.Symbols.{RunsSymbol, RunsReferent}
use Rattle.unit_tables.specs.Conditions.{RunsPlaced, RunsFunction, RunsUnits}
use Rattle.compiled_tables.specs.Conditions.{AreFileNames, IsFramed, IsAffordable}
use Rattle.compiled_tables.proofs.Parts.{as_many, points_long, function_points, functions_long}
use Rattle.compiled_tables.proofs.Followed.{lead_lower}
use Rattle.compiled_tables.proofs.Compiled.{few_symbols, files_short, file_short}

-- ---- symbols

module _ (p : Program) (formed : (t : CType) → IsFormed p.defs t → RunsType p.defs t) where
  object_there : (o : ℕ) (t : Plain) (x : Option ObjectRow) → slice_get p.objects o ≡ x → IsOfObject p t x → o < length p.objects
  object_there o t None e h = absurd h
  object_there o t (Some row) e h = slice_get_within p.objects o row e

  referent_runs : (row : SymbolRow) (t : Plain) (name : List ℕ) (r : Referent) → IsFormed p.defs row.ctype → IsReferent p t name r → RunsReferent p.defs (length p.objects) row r
  referent_runs row t name (refers.Object o) f h = object_there o t (slice_get p.objects o) refl h
  referent_runs row t name (refers.Local x) f h = formed row.ctype f
  referent_runs row t name (refers.Function g) f h = formed row.ctype f
  referent_runs row t name refers.Declared f h = formed row.ctype f

  symbols_run : (n : ℕ) (ss : List SymbolRow) → AllFrom (IsSymbol p) n ss → AllByRecursion (λ (s : SymbolRow). IsIdentifier s.name) ss → AllByRecursion (RunsSymbol p.defs (length p.objects)) ss
  symbols_run n [] h i = tt
  symbols_run n (s ∷ ss) h i = (
    record { name = (let l = i.0.short in omega arith); referent = referent_runs s (plain s.ctype) s.name s.refers h.0.0.1 h.0.1 },
    symbols_run (suc n) ss h.1 i.1,
  )

-- ---- functions

functions_run : (q : State) (names : List (List ℕ)) (p : Program) (rows : made.HasRows q names p) (fs : List Function) → function_points q names p rows fs ≤ 40000 → AllByRecursion (λ (f : Function). IsIdentifier f.name) fs → AllByRecursion RunsFunction fs
functions_run q names p rows [] l i = tt
functions_run q names p rows (f ∷ fs) l i = (record { name = (let k = i.0.short in omega arith); few_points = omega arith }, functions_run q names p rows fs (omega arith) i.1)

pub placed_run : (fs : List Placed) → AllByRecursion IsFramed fs → AllByRecursion RunsPlaced fs
placed_run [] h = tt
placed_run (f ∷ fs) h = (record { saved = h.0.saved; few_saved = (let l = h.0.few_saved in omega arith); locals = h.0.locals }, placed_run fs h.1)

fewer : (q : State) (u n : ℕ) (bs : List Bodied) → length (made.functions_of q u n bs) ≤ length bs
fewer q u n [] = omega arith
fewer q u n (b ∷ bs) = by (b.unit == u) refl (fewer q u (suc n) bs)
  where
    by : (c : Bool) → (b.unit == u) ≡ c → length (made.functions_of q u (suc n) bs) ≤ length bs → length (made.functions_of q u n (b ∷ bs)) ≤ suc (length bs)
    by true e h = rw e (omega (arith, h))
    by false e h = rw e (omega (arith, h))

units_few : (q : State) (u : ℕ) (names : List (List ℕ)) (us : List UnitRow) → length q.bodies ≤ 40000 → made.AreUnits q u names us → AllByRecursion (λ (r : UnitRow). length r.functions ≤ 40000) us
units_few q u [] [] l h = tt
units_few q u [] (r ∷ us) l h = absurd h
units_few q u (n ∷ ns) [] l h = absurd h
units_few q u (n ∷ ns) (r ∷ us) l h =
    let e : length r.functions ≡ length (made.functions_of q u 0 q.bodies) = ap (λ (xs : List ℕ). length xs) h.1 in
    let f = fewer q u 0 q.bodies in
    (omega (arith, e, f, l), units_few q (suc u) ns us l h.2)

-- ---- names are short

short_members : (ms : List Member) → AllByRecursion (λ (m : Member). IsIdentifier m.name) ms → AllByRecursion IsShortMember ms
short_members [] h = tt
short_members (m ∷ ms) h = (h.0.short, short_members ms h.1)

short_structs : (ds : List StructDef) → AllByRecursion (λ (d : StructDef). IsIdentifier d.tag × AllByRecursion (λ (m : Member). IsIdentifier m.name) d.members) ds → AllByRecursion IsShortStruct ds
short_structs [] h = tt
short_structs (d ∷ ds) h = (record { tag = h.0.0.short; members = short_members d.members h.0.1 }, short_structs ds h.1)

short_objects : (us : List UnitRow) (os : List ObjectRow) → AllByRecursion (λ (r : UnitRow). length r.file ≤ 255) us → AllByRecursion (λ (o : ObjectRow). IsIdentifier o.name) os → AllByRecursion (IsShortObject us) os
short_objects us [] f h = tt
short_objects us (o ∷ os) f h = (record { name = h.0.short; file = file_short us o.unit f }, short_objects us os f h.1)

module _ (q : State) (names : List (List ℕ)) (p : Program) (at : Placement) (rows : made.HasRows q names p) (identifiers : HasIdentifiers p) (items : length p.objects + length p.strings + length p.functions + length p.points ≤ 40000) where
  pub units_run : KeepsRules p → ((t : CType) → IsFormed p.defs t → RunsType p.defs t) → IsAffordable p → length p.defs ≤ 40000 → AllByRecursion IsFramed at.functions → RunsUnits p at.functions
  units_run keeps formed affordable few framed =
      let s = few_symbols p affordable in
      let a = functions_long q names p rows q.bodies p.functions rows.functions in
      let b = points_long q 0 q.bodies in
      let d : length p.points ≡ length (made.all_points q 0 q.bodies) = ap (λ l. length l) rows.points in
      record {
        symbols = symbols_run p formed 0 p.symbols keeps.symbols identifiers.symbols;
        lower = lead_lower p keeps;
        functions = functions_run q names p rows p.functions (omega (arith, a, b, d, items)) identifiers.functions;
        placed = placed_run at.functions framed;
        few_structs = omega (arith, few);
        few_objects = omega (arith, items);
        few_symbols = s;
      }

  pub few_functions : AllByRecursion (λ (u : UnitRow). length u.functions ≤ 40000) p.units
  few_functions = let e = as_many (made.IsFunctionOf q) q.bodies p.functions rows.functions in units_few q 0 names p.units (omega (arith, e, items)) rows.units

  pub short_rows : AreFileNames names → length at.anchors ≡ length p.objects + length p.strings → IsShort p at
  short_rows files one =
      let units = files_short q 0 names p.units rows.units files in
      record { structs = short_structs p.defs identifiers.tags; objects = short_objects p.units p.objects units identifiers.objects; units = units; placed = one; few = omega (arith, items) }
