-- The words of a program's types are known.
use Rattle.std.proofs.Common.{◌≡◌, ℕ, pos, suc, zero, ◌+◌, ◌*◌, ◌<◌, ◌≤◌, ◌^◌, Some, List, [], ◌∷◌, ◌++◌, length, codes, slice_get, refl, sym, ap, ◌∙◌, subst, arith}
use Rattle.std.specs.List.{AllByRecursion}
use Rattle.ps_scan.specs.Bytes.{is_regular, is_white, is_special}
use Rattle.c_tree.specs.declared.types.CType.{CType}
use Rattle.c_tree.specs.declared.types.CType.TheVariants.{Char, Int as IntType, Unsigned, Void, Pointer', Array', Struct}
use Rattle.c_tree.specs.declared.types.StructDef.{StructDef}
use Rattle.c_tree.specs.Layout.{size_of, struct_size_of}
use Rattle.ps_store.specs.declared.object.PsObj.{PsObj}
use Rattle.ps_store.specs.declared.object.PsObj.TheVariants.{Int, Dict}
use Rattle.ps_store.specs.declared.object.DictId.{DictId}
use Rattle.ps_store.specs.StoreState.{StoreState}
use Rattle.ps_store.specs.Store.{entries_of}
use Rattle.ps_text.specs.Code.{Code, Stop, Word}
use Rattle.ps_text.specs.Spells.{Fine}
use Rattle.ps_text.proofs.Checks.{fine}
use Rattle.ps_terms.specs.Machine.{Does}
use Rattle.ps_terms.specs.Stands.{Means}
use Rattle.ps_emit.specs.Terms.{◌⋯◌}
use Rattle.ps_emit.specs.Types.{type_code}
use Rattle.ps_tables.specs.Defined.{in_table}
use Rattle.ps_tables.specs.Making.{HasFields}
use Rattle.ps_tables.specs.Types.{Type', Basic, Nothing, To, Many, Numbered, written, type_term, bytes_of_type, IsSized, IsSome, KnowsType, of_pointers}
use Rattle.ps_tables.specs.Senses.{Sense, Sized, Kind, Called, Structs, basic_fields, IsStruct, AreStructs, HasSense, Knowing}
use Rattle.ps_tables.specs.WordsKnown.{Printers, pointer_body}
use Rattle.ps_tables.specs.Types.{array_body}
use Rattle.ps_tables.specs.PartsKnown.{with_structs}
use Rattle.ps_tables.specs.Runnable.{IsItem, RunsType, RunsStruct}
use Rattle.ps_tables.proofs.Types.{fields_value}
use Rattle.ps_tables.proofs.TypeTexts.{small_signed}
use Rattle.ps_tables.proofs.TablePieces.{assoc}
use Rattle.ps_tables.proofs.WordsKnown.{sense_is}

char_fine : Fine (Word (codes "char") Stop)
unfolding is_white is_special is_regular
char_fine = fine (Word (codes "char") Stop) refl

int_fine : Fine (Word (codes "int") Stop)
unfolding is_white is_special is_regular
int_fine = fine (Word (codes "int") Stop) refl

unsigned_fine : Fine (Word (codes "unsigned") Stop)
unfolding is_white is_special is_regular
unsigned_fine = fine (Word (codes "unsigned") Stop) refl

-- a type's text
pub type_is : (defs : List StructDef) (t : CType) (k : Code) → type_term (written defs t) k ≡ (type_code t ⋯ k)
type_is defs Char k = refl
type_is defs IntType k = refl
type_is defs Unsigned k = refl
type_is defs Void k = refl
type_is defs (Pointer' b t) k = type_is defs t (Word (codes "PointerTo") k) ∙ sym (assoc (type_code t) (Word (codes "PointerTo") Stop) k)
type_is defs (Array' b t n) k = type_is defs t _ ∙ sym (assoc (type_code t) _ k)
type_is defs (Struct s) k = refl

pub bytes_are : (defs : List StructDef) (t : CType) → bytes_of_type (written defs t) ≡ size_of defs t
bytes_are defs Char = refl
bytes_are defs IntType = refl
bytes_are defs Unsigned = refl
bytes_are defs Void = refl
bytes_are defs (Pointer' b t) = refl
bytes_are defs (Array' b t n) = ap (λ m. n * m) (bytes_are defs t)
bytes_are defs (Struct s) = refl

-- ---- structs by their numbers

pub record Nth (s : StoreState) (xs : List PsObj) (defs : List StructDef) (n : ℕ) : Type 0 where
  pub object : PsObj
  pub at : slice_get xs n ≡ Some object
  pub sized : IsSized s object (struct_size_of defs n)

pub nth : (all : List StructDef) (s : StoreState) (b : ℕ) (xs : List PsObj) (defs : List StructDef) (n : ℕ) → AllByRecursion (RunsStruct all) defs → AreStructs s b xs defs → n < length defs → Nth s xs defs n
nth all s b [] [] n small h few = absurd (omega arith)
nth all s b [] (d ∷ defs) n small h few = absurd h
nth all s b (x ∷ xs) [] n small h few = absurd h
nth all s b (x ∷ xs) (d ∷ defs) zero small h few = record {
  object = x;
  at = refl;
  sized = record { dict = h.0.dict; is = h.0.is; there = h.0.there; has = h.0.size ∙ ap (λ z. Some (Int z)) (small_signed d.size small.0.size) };
}
nth all s b (x ∷ xs) (d ∷ defs) (suc n) small h few =
    let r : Nth s xs defs n = nth all s b xs defs n small.1 h.1 (omega arith) in
    record { object = r.object; at = r.at; sized = r.sized }

-- ---- types

module _ (s : StoreState) (index : ℕ) (ds : List DictId) (m : ℕ) (p : Printers) (bound : ℕ) (defs : List StructDef) (knowing : Knowing s index ds m (with_structs p bound defs)) (small : AllByRecursion (RunsStruct defs) defs) (few : length defs ≤ 90000) where
  abbrev all : List DictId
  all = in_table index ∷ ds

  sized_by : (word : List ℕ) (size : ℕ) → Fine (Word word Stop) → HasSense s all word (Sized size) → KnowsType s all (Basic word size)
  sized_by word size written h =
      (written, Dict h.2.0, h.1 ∙ ap Some h.2.3, record { dict = h.2.0; is = refl; there = h.2.4.is_there; has = fields_value s (entries_of s h.2.0) (basic_fields size h.2.1 h.2.2) (codes "size") h.2.4.are })

  some_item : (t : CType) → IsItem t → IsSome (written defs t)
  some_item Char h = tt
  some_item IntType h = tt
  some_item Unsigned h = tt
  some_item Void h = absurd h
  some_item (Pointer' b t) h = tt
  some_item (Array' b t n) h = tt
  some_item (Struct n) h = tt

  pub type_known : (t : CType) → RunsType defs t → KnowsType s all (written defs t)
  type_known Char h = sized_by (codes "char") 1 char_fine (sense_is s all (with_structs p bound defs) (codes "char") (Sized 1) knowing.have refl)
  type_known IntType h = sized_by (codes "int") 4 int_fine (sense_is s all (with_structs p bound defs) (codes "int") (Sized 4) knowing.have refl)
  type_known Unsigned h = sized_by (codes "unsigned") 4 unsigned_fine (sense_is s all (with_structs p bound defs) (codes "unsigned") (Sized 4) knowing.have refl)
  type_known Void h = tt
  type_known (Pointer' b t) h =
      let w : HasSense s all (codes "PointerTo") (Called pointer_body) = sense_is s all (with_structs p bound defs) (codes "PointerTo") (Called pointer_body) knowing.have refl in
      let f : HasSense s all (codes "PointerType") (Sized 4) = sense_is s all (with_structs p bound defs) (codes "PointerType") (Sized 4) knowing.have refl in
      (type_known t h, f.2.0, f.2.1, f.2.2, (w.2.0, w.1 ∙ ap Some w.2.1, w.2.2, w.2.3), (f.1 ∙ ap Some f.2.3, f.2.4, (omega arith, tt), omega arith))
  type_known (Array' b t n) h =
      let w : HasSense s all (codes "ArrayOf") (Called array_body) = sense_is s all (with_structs p bound defs) (codes "ArrayOf") (Called array_body) knowing.have refl in
      let f : HasSense s all (codes "ArrayType") Kind = sense_is s all (with_structs p bound defs) (codes "ArrayType") Kind knowing.have refl in
      let bytes : n * bytes_of_type (written defs t) < 2 ^ 31 = subst (λ (k : ℕ). n * k < 2 ^ 31) (sym (bytes_are defs t)) h.3 in
      (type_known t h.0, some_item t h.1, h.2, bytes, f.2.0, f.2.1, f.2.2, (w.2.0, w.1 ∙ ap Some w.2.1, w.2.2, w.2.3), f.1 ∙ ap Some f.2.3, f.2.4)
  type_known (Struct n) h =
      let w : HasSense s all (codes "structs") (Structs bound defs) = sense_is s all (with_structs p bound defs) (codes "structs") (Structs bound defs) knowing.have refl in
      let r : Nth s w.2.1 defs n = nth defs s bound w.2.1 defs n small w.2.4 h in
      (omega arith, w.2.0, w.2.1, r.object, w.1 ∙ ap Some w.2.2, w.2.3, r.at, r.sized)

  -- the string's type
  pub char_known : (n : ℕ) → n < 2 ^ 30 → KnowsType s all (Many (Basic (codes "char") 1) (suc n))
  char_known n h =
      let w : HasSense s all (codes "ArrayOf") (Called array_body) = sense_is s all (with_structs p bound defs) (codes "ArrayOf") (Called array_body) knowing.have refl in
      let f : HasSense s all (codes "ArrayType") Kind = sense_is s all (with_structs p bound defs) (codes "ArrayType") Kind knowing.have refl in
      (type_known Char tt, tt, omega arith, omega arith, f.2.0, f.2.1, f.2.2, (w.2.0, w.1 ∙ ap Some w.2.1, w.2.2, w.2.3), f.1 ∙ ap Some f.2.3, f.2.4)
