-- The numbers in the types of an accepted program are words.
use Rattle.std.proofs.Common.{◌≡◌, ℕ, suc, ◌+◌, ◌<◌, ◌≤◌, ◌^◌, List, [], ◌∷◌, length, Option, Some, None, slice_get, refl, arith}
use Rattle.std.proofs.lemmas.Option.{slice_get_within}
use Rattle.std.specs.List.{AllByRecursion}
use Rattle.std.specs.Int.{next_multiple_of}
use Rattle.c_tree.specs.declared.types.CType.{CType}
use Rattle.c_tree.specs.declared.types.CType.TheVariants.{Char, Int, Unsigned, Void, Pointer', Array', Struct}
use Rattle.c_tree.specs.declared.types.StructDef.{StructDef}
use Rattle.c_tree.specs.declared.types.Member.{Member}
use Rattle.c_tree.specs.declared.rows.Program.{Program}
use Rattle.c_tree.specs.declared.rows.ObjectRow.{ObjectRow}
use Rattle.c_tree.specs.declared.rows.SymbolRow.{SymbolRow}
use Rattle.c_tree.specs.declared.rows.Referent.{Referent}
use Rattle.c_tree.specs.declared.rows.Referent.TheVariants as refers
use Rattle.c_tree.specs.Layout.{alignment_of_members, alignment_of, size_of, AreLaid, IsLaidOut}
use Rattle.c_typing.specs.Plain.{Plain, plain}
use Rattle.c_typing.specs.Written.{IsFormed}
use Rattle.c_typing.specs.Declarations.{IsStruct}
use Rattle.c_typing.specs.Programs.{AllFrom, IsOfObject, IsReferent, IsBelow, IsSymbol, KeepsRules}
use Rattle.ps_emit.specs.Lengths.{IsWord, HasWords, IsLink, IsMemberRow}
use Rattle.ps_tables.specs.Runnable.{RunsType, RunsRow}
use Rattle.ps_tables.specs.Rows as rows
use Rattle.c_tokens.specs.Identifiers.{IsIdentifier, HasIdentifiers}
use Rattle.compiled_tables.proofs.Identifiers.{named}

pub type_words : (defs : List StructDef) (t : CType) → length defs ≤ 40000 → RunsType defs t → HasWords t
type_words defs Char few h = tt
type_words defs Int few h = tt
type_words defs Unsigned few h = tt
type_words defs Void few h = tt
type_words defs (Pointer' b t) few h = type_words defs t few h
type_words defs (Array' b t n) few h = (type_words defs t few h.0, let l : n < 2 ^ 31 = h.2 in omega arith)
type_words defs (Struct s) few h = let l : s < length defs = h in omega arith

-- ---- members stand within their struct

multiple_up : (x y : ℕ) → x ≤ next_multiple_of x y
multiple_up x y = omega arith

laid_up : (defs : List StructDef) (from : ℕ) (ms : List Member) (end : ℕ) → AreLaid defs from ms end → from ≤ end
laid_up defs from [] end h = omega (arith, h)
laid_up defs from (m ∷ ms) end h =
    let a = laid_up defs (m.at + size_of defs m.ctype) ms end h.1 in
    let b = multiple_up from (alignment_of defs m.ctype) in
    let c : next_multiple_of from (alignment_of defs m.ctype) ≤ m.at = let e = h.0 in omega (arith, e) in
    omega (arith, a, b, c)

abbrev NamedMember : Member → Type 0
NamedMember m = IsIdentifier m.name

member_rows : (defs : List StructDef) (few : length defs ≤ 40000) (from : ℕ) (ms : List Member) (end : ℕ) → end < 2 ^ 32 → AreLaid defs from ms end → AllByRecursion (λ (m : Member). RunsType defs m.ctype) ms → AllByRecursion NamedMember ms → AllByRecursion IsMemberRow ms
member_rows defs few from [] end l h t n = tt
member_rows defs few from (m ∷ ms) end l h t n =
    let a = laid_up defs (m.at + size_of defs m.ctype) ms end h.1 in
    (record { name = named m.name n.0; at = omega (arith, a); ctype = type_words defs m.ctype few t.0 }, member_rows defs few (m.at + size_of defs m.ctype) ms end l h.1 t.1 n.1)

abbrev NamedStruct : StructDef → Type 0
NamedStruct d = IsIdentifier d.tag × AllByRecursion NamedMember d.members

struct_rows : (defs : List StructDef) (few : length defs ≤ 40000) (s : ℕ) (ds : List StructDef) → AllFrom (IsStruct defs) s ds → AllByRecursion (RunsRow defs) ds → AllByRecursion NamedStruct ds → AllByRecursion rows.IsStruct ds
struct_rows defs few s [] h r n = tt
struct_rows defs few s (d ∷ ds) h r n =
    let laid : IsLaidOut defs d = h.0.3 in
    let up = multiple_up laid.0 (alignment_of_members (alignment_of defs) d.members) in
    let size : d.size ≡ next_multiple_of laid.0 (alignment_of_members (alignment_of defs) d.members) = laid.2 in
    let small : d.size < 2 ^ 31 = r.0.0 in
    (record { tag = named d.tag n.0.0; size = omega (arith, small); members = member_rows defs few 0 d.members laid.0 (omega (arith, up, size, small)) laid.1 r.0.1 n.0.1 }, struct_rows defs few (suc s) ds h.1 r.1 n.1)

pub structs_are_rows : (p : Program) → KeepsRules p → length p.defs ≤ 40000 → AllByRecursion (RunsRow p.defs) p.defs → HasIdentifiers p → AllByRecursion rows.IsStruct p.defs
structs_are_rows p k few r n = struct_rows p.defs few 0 p.defs k.structs r n.tags

-- ---- symbols

module _ (p : Program) (few : length p.defs ≤ 40000) (many : length p.symbols < 2 ^ 32) (objects : length p.objects < 2 ^ 32) (formed : (t : CType) → IsFormed p.defs t → RunsType p.defs t) where
  link : (n : ℕ) (o : Option ℕ) → n ≤ length p.symbols → IsBelow p n o → IsLink o
  link n None l h = tt
  link n (Some s) l h = omega (arith, h)

  object_word : (o : ℕ) (t : Plain) (x : Option ObjectRow) → slice_get p.objects o ≡ x → IsOfObject p t x → IsWord o
  object_word o t None e h = absurd h
  object_word o t (Some row) e h = let l = slice_get_within p.objects o row e in omega arith

  referent_word : (t : Plain) (name : List ℕ) (r : Referent) → IsReferent p t name r → rows.IsReferent r
  referent_word t name (refers.Object o) h = object_word o t (slice_get p.objects o) refl h
  referent_word t name (refers.Local x) h = tt
  referent_word t name (refers.Function f) h = tt
  referent_word t name refers.Declared h = tt

  symbol_rows : (n : ℕ) (ss : List SymbolRow) → n + length ss ≤ length p.symbols → AllFrom (IsSymbol p) n ss → AllByRecursion (λ (s : SymbolRow). IsIdentifier s.name) ss → AllByRecursion rows.IsSymbol ss
  symbol_rows n [] l h i = tt
  symbol_rows n (s ∷ ss) l h i = (
    record { name = named s.name i.0; ctype = type_words p.defs s.ctype few (formed s.ctype h.0.0.1); up = link n s.up (omega arith) h.0.2; refers = referent_word (plain s.ctype) s.name s.refers h.0.1 },
    symbol_rows (suc n) ss (omega arith) h.1 i.1,
  )

  pub symbols_are_rows : KeepsRules p → HasIdentifiers p → AllByRecursion rows.IsSymbol p.symbols
  symbols_are_rows k n = symbol_rows 0 p.symbols (omega arith) k.symbols n.symbols
