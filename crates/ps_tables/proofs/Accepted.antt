-- The types of an accepted program run.
use Rattle.std.proofs.Common.{◌≡◌, ℕ, suc, zero, ◌+◌, ◌<◌, ◌≤◌, ◌^◌, true, Some, List, [], ◌∷◌, length, slice_get, sym, ap, ◌∙◌, subst, arith}
use Rattle.std.specs.List.{AllByRecursion}
use Rattle.c_tree.specs.declared.types.CType.{CType}
use Rattle.c_tree.specs.declared.types.CType.TheVariants.{Char, Int, Unsigned, Void, Pointer', Array', Struct}
use Rattle.c_tree.specs.declared.types.StructDef.{StructDef}
use Rattle.c_tree.specs.declared.types.Member.{Member}
use Rattle.c_tree.specs.declared.rows.Program.{Program}
use Rattle.c_tree.specs.declared.rows.ObjectRow.{ObjectRow}
use Rattle.c_tree.specs.Layout.{size_in, struct_size_of}
use Rattle.c_typing.specs.Plain.{plain, is_complete}
use Rattle.c_typing.specs.Written.{IsFormed, IsDeclared}
use Rattle.c_typing.specs.Declarations.{IsStruct}
use Rattle.c_typing.specs.Starts.{IsObject}
use Rattle.c_typing.specs.Programs.{AllFrom, KeepsRules}
use Rattle.ps_tables.specs.Runnable.{IsItem, RunsType, RunsRow}

module _ (defs : List StructDef) where
  item_known : (t : CType) → is_complete defs (plain t) ≡ true → IsItem t
  item_known Char h = tt
  item_known Int h = tt
  item_known Unsigned h = tt
  item_known Void h = absurd cc
  item_known (Pointer' b t) h = tt
  item_known (Array' b t n) h = tt
  item_known (Struct s) h = tt

  pub type_runs : (t : CType) → IsFormed defs t → RunsType defs t
  type_runs Char h = tt
  type_runs Int h = tt
  type_runs Unsigned h = tt
  type_runs Void h = tt
  type_runs (Pointer' b t) h = type_runs t h.0
  type_runs (Array' b t n) h = (type_runs t h.0, item_known t h.1, omega (arith, h.2), omega (arith, h.3))
  type_runs (Struct s) h = h.0

  members_run : (ms : List Member) → AllByRecursion (λ m. IsDeclared defs m.ctype) ms → AllByRecursion (λ m. RunsType defs m.ctype) ms
  members_run [] h = tt
  members_run (m ∷ ms) h = (type_runs m.ctype h.0.0.1, members_run ms h.1)

  rows_run : (s : ℕ) (ds : List StructDef) → ((j : ℕ) → slice_get defs (s + j) ≡ slice_get ds j) → AllFrom (IsStruct defs) s ds → AllByRecursion (RunsRow defs) ds
  rows_run s [] same h = tt
  rows_run s (d ∷ ds) same h =
      let here : slice_get defs s ≡ Some d = ap (slice_get defs) (let e : s ≡ s + 0 = omega arith in e) ∙ same 0 in
      let size : struct_size_of defs s ≡ d.size = ap size_in here in
      let small : struct_size_of defs s ≤ 1048576 = h.0.0.1.1 in
      ((omega arith, members_run d.members h.0.2), rows_run (suc s) ds (λ j. ap (slice_get defs) (let e : suc s + j ≡ s + suc j = omega arith in e) ∙ same (suc j)) h.1)

objects_run : (p : Program) (os : List ObjectRow) → AllByRecursion (IsObject p) os → AllByRecursion (λ o. RunsType p.defs o.ctype) os
objects_run p [] h = tt
objects_run p (o ∷ os) h = (type_runs p.defs o.ctype h.0.0.0.1, objects_run p os h.1)

pub structs_run : (p : Program) → KeepsRules p → AllByRecursion (RunsRow p.defs) p.defs
structs_run p k = rows_run p.defs 0 p.defs (λ j. ap (slice_get p.defs) (let e : 0 + j ≡ j = omega arith in e)) k.structs

pub static_run : (p : Program) → KeepsRules p → AllByRecursion (λ o. RunsType p.defs o.ctype) p.objects
static_run p k = objects_run p p.objects k.objects
