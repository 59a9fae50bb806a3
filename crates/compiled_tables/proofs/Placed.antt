-- The addresses in the rows of a linked image are words.
use Rattle.std.proofs.Common.{◌≡◌, ℕ, suc, ◌+◌, ◌<◌, ◌≤◌, ◌^◌, ℤ, Bool, true, false, ◌&&◌, nat_le, nat_lt, List, [], ◌∷◌, length, map, Option, Some, slice_get, refl, sym, ap, ◌∙◌, subst, arith, append-nil}
use Rattle.std.proofs.lemmas.Bool.{leb-true, ltb-true}
use Rattle.std.specs.List.{AllByRecursion, list_all}
use Rattle.machine_state.specs.declared.layout.TheConstants.{TEXT, DATA, DATA_SIZE}
use Rattle.obj_file.specs.Image.{ImageFields}
use Rattle.obj_file.specs.declared.object.Object.{Object}
use Rattle.obj_file.specs.declared.object.StaticDef.{StaticDef}
use Rattle.obj_file.specs.declared.object.FunctionRow.{FunctionRow}
use Rattle.obj_file.specs.declared.object.LocalPlace.{LocalPlace}
use Rattle.obj_file.specs.declared.object.LocalPlace.TheVariants.{Slot, Reg}
use Rattle.obj_file.specs.declared.object.LoaderRows.{LoaderRows}
use Rattle.obj_placed.specs.Placed.{IsFound, IsResolved, all_statics, anchors_at, placed_text, moved_point, moved_row}
use Rattle.obj_placed.specs.Words.{ArePatched}
use Rattle.link_image.specs.Linked.{linked_addresses, linked_address, linked_text}
use Rattle.link_image.specs.Conditions.{point_lies, row_lies, has_rows_inside}
use Rattle.link_image.specs.Links.{IsLinked}
use Rattle.ps_emit.specs.Lengths.{IsWord, IsInteger, IsPlace}
use Rattle.unit_tables.specs.Symbols.{RunsPlace}
use Rattle.ps_tables.specs.Rows.{IsPlaced}
use Rattle.compiled_tables.specs.Conditions.{IsFramed}

both : (a b : Bool) → (a && b) ≡ true → (a ≡ true) × (b ≡ true)
both true b h = (refl, h)
both false b h = absurd cc

-- ---- anchors

anchor_words : (addresses : List ℕ) (ss : List StaticDef) → ((j a : ℕ) (s : StaticDef) → slice_get ss j ≡ Some s → slice_get addresses j ≡ Some a → a + length s.bytes ≤ DATA + DATA_SIZE) → AllByRecursion (λ a. IsWord a.1) (anchors_at addresses ss)
anchor_words as' [] h = tt
anchor_words [] (s ∷ ss) h = tt
anchor_words (a ∷ addresses) (s ∷ ss) h = (let l = h 0 a s refl refl in omega arith, anchor_words addresses ss (λ j. h (suc j)))

-- ---- functions

points_words : (size : ℕ) (points : List ℕ) → size ≤ 2 ^ 24 → list_all (point_lies size) points ≡ true → AllByRecursion IsWord (map (moved_point TEXT) points)
points_words size [] l h = tt
points_words size (x ∷ xs) l h =
    let b = both (point_lies size x) (list_all (point_lies size) xs) h in
    let k = ltb-true x size b.0 in
    (omega arith, points_words size xs l b.1)

saved_words : (ss : List (ℕ × ℤ)) → AllByRecursion (λ (s : ℕ × ℤ). (s.0 < 2 ^ 31) × IsInteger s.1) ss → AllByRecursion (λ (s : ℕ × ℤ). IsWord s.0 × IsInteger s.1) ss
saved_words [] h = tt
saved_words (s ∷ ss) h = ((let l = h.0.0 in omega arith, h.0.1), saved_words ss h.1)

local_words : (ls : List LocalPlace) → AllByRecursion (λ (l : LocalPlace). RunsPlace (Some l)) ls → AllByRecursion (λ (l : LocalPlace). IsPlace (Some l)) ls
local_words [] h = tt
local_words (Slot offset ∷ ls) h = (h.0, local_words ls h.1)
local_words (Reg r ∷ ls) h = (let l = h.0 in omega arith, local_words ls h.1)

row_words : (size : ℕ) (row : FunctionRow) → size ≤ 2 ^ 24 → row_lies size row ≡ true → IsFramed (moved_row TEXT row) → IsPlaced (moved_row TEXT row)
row_words size row l h f =
    let a = both (nat_le row.entry row.end) (nat_le row.end size && list_all (point_lies size) row.points) h in
    let b = both (nat_le row.end size) (list_all (point_lies size) row.points) a.1 in
    let x = leb-true row.entry row.end a.0 in
    let y = leb-true row.end size b.0 in
    record {
      entry = omega arith;
      end = omega arith;
      frame = f.frame;
      few_saved = f.few_saved;
      saved = saved_words (moved_row TEXT row).saved f.saved;
      points = points_words size row.points l b.1;
      locals = local_words (moved_row TEXT row).locals f.locals;
    }

rows_words : (size : ℕ) (rows : List FunctionRow) → size ≤ 2 ^ 24 → list_all (row_lies size) rows ≡ true → AllByRecursion IsFramed (map (moved_row TEXT) rows) → AllByRecursion IsPlaced (map (moved_row TEXT) rows)
rows_words size [] l h f = tt
rows_words size (r ∷ rs) l h f =
    let b = both (row_lies size r) (list_all (row_lies size) rs) h in
    (row_words size r l b.0 f.0, rows_words size rs l b.1 f.1)

module _ (o : Object) (image : ImageFields) (rows : LoaderRows) (linked : IsLinked (o ∷ []) image rows) where
  pub anchors_are_words : AllByRecursion (λ a. IsWord a.1) rows.anchors
  anchors_are_words =
      subst (AllByRecursion (λ a. IsWord a.1)) (sym linked.anchors) (anchor_words (linked_addresses (o ∷ [])) (all_statics (o ∷ [])) (λ j a s e f. (linked.placing.inside j a s e f).1))

  module _ (patched : (address_of : List ℕ → Option ℕ) (base : ℕ) (o : Object) → AllByRecursion (IsFound address_of true (length o.text)) o.uses → ArePatched o.target base address_of true o.uses o.text (placed_text address_of base o)) where
    text_size : length o.text ≤ 2 ^ 24
    unfolding linked_text
    text_size =
        let address : List ℕ → Option ℕ = linked_address (o ∷ []) in
        let resolved : IsResolved address o = linked.resolved.0 in
        let same : length (placed_text address TEXT o) ≡ length o.text = (patched address TEXT o resolved.text).size in
        let whole : length (linked_text (o ∷ [])) ≡ length (placed_text address TEXT o) = ap (λ (l : List ℕ). length l) (append-nil (placed_text address TEXT o)) in
        let b = both (nat_le 4 (length (linked_text (o ∷ [])))) (nat_le (length (linked_text (o ∷ []))) (2 ^ 24)) linked.linkable.size in
        let l = leb-true (length (linked_text (o ∷ []))) (2 ^ 24) b.1 in
        omega arith

    pub rows_are_placed : AllByRecursion IsFramed rows.functions → AllByRecursion IsPlaced rows.functions
    rows_are_placed f =
        let is : rows.functions ≡ map (moved_row TEXT) o.functions = linked.functions ∙ append-nil (map (moved_row TEXT) o.functions) in
        let inside = both (has_rows_inside o) (list_all has_rows_inside []) linked.linkable.rows in
        let here = both (list_all (λ n. nat_lt n.at (length o.text)) o.names) (list_all (row_lies (length o.text)) o.functions) inside.0 in
        subst (AllByRecursion IsPlaced) (sym is) (rows_words (length o.text) o.functions text_size here.1 (subst (AllByRecursion IsFramed) is f))
