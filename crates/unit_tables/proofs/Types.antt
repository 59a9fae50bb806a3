-- What is known of the types of symbols.
use Rattle.std.proofs.Common.{ℕ, ◌*◌, ◌<◌, ◌≤◌, ◌^◌, Some, List, length, codes, refl, sym, ap, ◌∙◌, subst, arith}
use Rattle.ps_scan.specs.Bytes.{is_regular, is_white, is_special}
use Rattle.c_tree.specs.declared.types.CType.{CType}
use Rattle.c_tree.specs.declared.types.CType.TheVariants.{Char, Int as IntType, Unsigned, Void, Pointer', Array', Struct}
use Rattle.c_tree.specs.declared.types.StructDef.{StructDef}
use Rattle.ps_store.specs.declared.object.PsObj.TheVariants.{Dict}
use Rattle.ps_store.specs.declared.object.DictId.{DictId}
use Rattle.ps_store.specs.StoreState.{StoreState}
use Rattle.ps_store.specs.Store.{entries_of}
use Rattle.ps_text.specs.Code.{Stop, Word}
use Rattle.ps_text.specs.Spells.{Fine}
use Rattle.ps_text.proofs.Checks.{fine}
use Rattle.ps_tables.specs.Runnable.{IsItem, RunsType}
use Rattle.ps_tables.specs.Types.{Basic, written, bytes_of_type, IsSome, KnowsType, array_body}
use Rattle.ps_tables.specs.Senses.{Sized, Kind, Called, basic_fields, HasSense, HaveSenses}
use Rattle.ps_tables.specs.WordsKnown.{pointer_body, word_senses}
use Rattle.ps_tables.proofs.Types.{fields_value}
use Rattle.ps_tables.proofs.WordsKnown.{sense_is}
use Rattle.ps_tables.proofs.TypesKnown.{bytes_are}
use Rattle.unit_tables.specs.Running.{HasStructs}

char_fine : Fine (Word (codes "char") Stop)
unfolding is_white is_special is_regular
char_fine = fine (Word (codes "char") Stop) refl

int_fine : Fine (Word (codes "int") Stop)
unfolding is_white is_special is_regular
int_fine = fine (Word (codes "int") Stop) refl

unsigned_fine : Fine (Word (codes "unsigned") Stop)
unfolding is_white is_special is_regular
unsigned_fine = fine (Word (codes "unsigned") Stop) refl

module _ (s : StoreState) (ds : List DictId) (defs : List StructDef) (have : HaveSenses s ds word_senses) (structs : HasStructs s ds defs) (few : length defs ≤ 90000) where
  sized_by : (word : List ℕ) (size : ℕ) → Fine (Word word Stop) → HasSense s ds word (Sized size) → KnowsType s ds (Basic word size)
  sized_by word size reads h =
      (reads, Dict h.2.0, h.1 ∙ ap Some h.2.3, record { dict = h.2.0; is = refl; there = h.2.4.is_there; has = fields_value s (entries_of s h.2.0) (basic_fields size h.2.1 h.2.2) (codes "size") h.2.4.are })

  some_item : (t : CType) → IsItem t → IsSome (written defs t)
  some_item Char h = tt
  some_item IntType h = tt
  some_item Unsigned h = tt
  some_item Void h = absurd h
  some_item (Pointer' b t) h = tt
  some_item (Array' b t n) h = tt
  some_item (Struct n) h = tt

  -- the words of a type that runs are known
  pub type_known : (t : CType) → RunsType defs t → KnowsType s ds (written defs t)
  type_known Char h = sized_by (codes "char") 1 char_fine (sense_is s ds word_senses (codes "char") (Sized 1) have refl)
  type_known IntType h = sized_by (codes "int") 4 int_fine (sense_is s ds word_senses (codes "int") (Sized 4) have refl)
  type_known Unsigned h = sized_by (codes "unsigned") 4 unsigned_fine (sense_is s ds word_senses (codes "unsigned") (Sized 4) have refl)
  type_known Void h = tt
  type_known (Pointer' b t) h =
      let w : HasSense s ds (codes "PointerTo") (Called pointer_body) = sense_is s ds word_senses (codes "PointerTo") (Called pointer_body) have refl in
      let f : HasSense s ds (codes "PointerType") (Sized 4) = sense_is s ds word_senses (codes "PointerType") (Sized 4) have refl in
      (type_known t h, f.2.0, f.2.1, f.2.2, (w.2.0, w.1 ∙ ap Some w.2.1, w.2.2, w.2.3), (f.1 ∙ ap Some f.2.3, f.2.4, (omega arith, tt), omega arith))
  type_known (Array' b t n) h =
      let w : HasSense s ds (codes "ArrayOf") (Called array_body) = sense_is s ds word_senses (codes "ArrayOf") (Called array_body) have refl in
      let f : HasSense s ds (codes "ArrayType") Kind = sense_is s ds word_senses (codes "ArrayType") Kind have refl in
      let bytes : n * bytes_of_type (written defs t) < 2 ^ 31 = subst (λ (k : ℕ). n * k < 2 ^ 31) (sym (bytes_are defs t)) h.3 in
      (type_known t h.0, some_item t h.1, h.2, bytes, f.2.0, f.2.1, f.2.2, (w.2.0, w.1 ∙ ap Some w.2.1, w.2.2, w.2.3), f.1 ∙ ap Some f.2.3, f.2.4)
  type_known (Struct n) h =
      let r = structs.sized n h in
      (omega (arith, h), structs.array, structs.items, r.0, structs.means, structs.holds, r.1, r.2)
