-- The texts of a table's parts are those of pieces.
use Rattle.std.proofs.Common.{◌≡◌, ℕ, ℤ, pos, suc, Option, Some, None, ◌+◌, ◌<◌, ◌≤◌, ◌^◌, List, [], ◌∷◌, ◌++◌, length, codes, refl, sym, subst, ap, ◌∙◌, arith}
use Rattle.std.proofs.lemmas.Int.{to_z_pos}
use Rattle.std.specs.Int.{w32}
use Rattle.ldb_words.specs.Word.{signed}
use Rattle.obj_file.specs.declared.object.FunctionRow.{FunctionRow}
use Rattle.c_tree.specs.declared.types.StructDef.{StructDef}
use Rattle.c_tree.specs.declared.rows.Program.{Program}
use Rattle.c_tree.specs.declared.rows.UnitRow.{UnitRow}
use Rattle.c_tree.specs.declared.rows.Point.{Point}
use Rattle.ps_store.specs.declared.object.PsObj.{PsObj}
use Rattle.ps_store.specs.declared.object.ArrayId.{ArrayId}
use Rattle.ps_store.specs.declared.object.DictId.{DictId}
use Rattle.ps_store.specs.declared.object.StringId.{StringId}
use Rattle.ps_store.specs.StoreState.{StoreState}
use Rattle.ps_step.specs.declared.item.Item.{Item}
use Rattle.ps_text.specs.Code.{Code, Stop, Num, Word, Lit, Text, Proc, render}
use Rattle.ps_emit.specs.declared.placement.Placement.{Placement}
use Rattle.ps_emit.specs.Terms.{◌⋯◌, anchor_name}
use Rattle.ps_emit.specs.Functions.{saved_register, point_code, deferred, units_code}
use Rattle.ps_emit.specs.Symbols.{linked}
use Rattle.ps_emit.specs.Bounds.{per_saved, per_point}
use Rattle.ps_emit.specs.Table.{target_name, anchors_code, top_code}
use Rattle.ps_emit.specs.Types.{tags_code}
use Rattle.ps_tables.specs.Making.{IsMaking}
use Rattle.ps_tables.specs.Later.{StandsAt}
use Rattle.ps_tables.specs.TableWords.{new_point}
use Rattle.ps_tables.specs.Pieces.{Piece, End, Number, Make, code, cost, steps, Knows, HasRoom, Bottom, after, Performs}
use Rattle.ps_tables.specs.TablePieces.{saved, link, point, anchors, tags, units, top}
use Rattle.ps_tables.proofs.Pieces.{performs}

small_signed : (n : ℕ) → n < 2 ^ 31 → signed n ≡ pos n
small_signed n h = to_z_pos w32 n h

pub assoc : (a b c : Code) → ((a ⋯ b) ⋯ c) ≡ (a ⋯ (b ⋯ c))
assoc Stop b c = refl
assoc (Num n rest) b c = ap (λ k. Num n k) (assoc rest b c)
assoc (Word name rest) b c = ap (λ k. Word name k) (assoc rest b c)
assoc (Lit name rest) b c = ap (λ k. Lit name k) (assoc rest b c)
assoc (Text bytes rest) b c = ap (λ k. Text bytes k) (assoc rest b c)
assoc (Proc body rest) b c = ap (λ k. Proc body k) (assoc rest b c)

-- ---- items of functions

pub saved_are : (r : ℕ) (z : ℤ) (rest : Piece) (k : Code) → code (saved r z rest) k ≡ (saved_register r z ⋯ code rest k)
saved_are r z rest k = refl

pub point_are : (address : ℕ) (q : Point) (x : PsObj) (rest : Piece) (k : Code) → code (point address q x rest) k ≡ (point_code address q ⋯ code rest k)
point_are address q x rest k = by q.symbol
  where
    by : (symbol : Option ℕ) → Num (signed q.line) (Num (signed q.column) (Num (signed address) (code (link symbol x) (Word (codes "NewPoint") (code rest k)))))
        ≡ Num (signed q.line) (Num (signed q.column) (Num (signed address) ((linked symbol ⋯ Word (codes "NewPoint") Stop) ⋯ code rest k)))
    by None = refl
    by (Some s) = refl

-- the steps and units of an item are those that are counted; an array counts one more for each item that it holds
pub saved_cost : (r : ℕ) (z : ℤ) → (steps (saved r z End) ≡ per_saved.steps) × (cost (saved r z End) + 1 ≤ per_saved.made)
saved_cost r z = (refl, omega arith)

pub point_cost : (address : ℕ) (q : Point) (x : PsObj) → (steps (point address q x End) ≤ per_point.steps) × (cost (point address q x End) + 1 ≤ per_point.made)
point_cost address q x = by q.symbol
  where
    by : (symbol : Option ℕ) → (steps (Make (codes "NewPoint") new_point (Number (signed q.line) (Number (signed q.column) (Number (signed address) (link symbol x)))) End) ≤ per_point.steps)
        × (cost (Make (codes "NewPoint") new_point (Number (signed q.line) (Number (signed q.column) (Number (signed address) (link symbol x)))) End) + 1 ≤ per_point.made)
    by None = (omega arith, omega arith)
    by (Some s) = (omega arith, omega arith)

pub anchors_are : (k : ℕ) (rows : List (List ℕ × ℕ)) (rest : Code) → code (anchors k rows) rest ≡ (anchors_code k rows ⋯ rest)
anchors_are k [] rest = refl
anchors_are k (a ∷ rows) rest = ap (λ c. Lit (anchor_name k) (Num (signed a.1) c)) (anchors_are (suc k) rows rest)

pub tags_are : (s : ℕ) (ds : List StructDef) (xs : List PsObj) (rest : Code) → length xs ≡ length ds → s + length ds < 2 ^ 31 → code (tags s ds xs) rest ≡ (tags_code s ds ⋯ rest)
tags_are s [] [] rest same few = refl
tags_are s [] (x ∷ xs) rest same few = absurd (omega arith)
tags_are s (d ∷ ds) [] rest same few = absurd (omega arith)
tags_are s (d ∷ ds) (x ∷ xs) rest same few =
    let small : signed s ≡ pos s = small_signed s (omega arith) in
    ap (λ c. Lit d.tag (Word (codes "structs") (Num (pos s) (Word (codes "get") c)))) (tags_are (suc s) ds xs rest (omega arith) (omega arith))
    ∙ ap (λ z. Lit d.tag (Word (codes "structs") (Num z (Word (codes "get") (tags_code (suc s) ds ⋯ rest))))) (sym small)

pub units_are : (p : Program) (fs : List FunctionRow) (us : List UnitRow) (rest : Code) → code (units p fs us) rest ≡ (units_code p fs us ⋯ rest)
units_are p fs [] rest = refl
units_are p fs (u ∷ us) rest = ap (λ c. Text u.file (Text (render (deferred p fs u)) (Word (codes "cvx") (Word (codes "NewUnit") c)))) (units_are p fs us rest)

-- what stands behind a closing bracket
behind : (a r z k : Code) (word : List ℕ) → ((((a ⋯ Word word Stop) ⋯ r) ⋯ z) ⋯ k) ≡ (a ⋯ Word word ((r ⋯ z) ⋯ k))
behind a r z k word = assoc ((a ⋯ Word word Stop) ⋯ r) z k ∙ assoc (a ⋯ Word word Stop) r (z ⋯ k) ∙ assoc a (Word word Stop) (r ⋯ (z ⋯ k)) ∙ ap (λ c. a ⋯ Word word c) (sym (assoc r z k))

pub top_is : (p : Program) (at : Placement) (objects : ArrayId) (structs : List PsObj) (k : Code) → length structs ≡ length p.defs → length p.defs < 2 ^ 31 → code (top p at objects structs) k ≡ (top_code p at ⋯ k)
top_is p at objects structs k same few =
    let close : Code = Word (codes ">>") Stop in
    let end : Code = Word (codes "]") (Word (codes ">>") k) in
    let list : Code = Word (codes "[") (units_code p at.functions p.units ⋯ Word (codes "]") Stop) in
    let third : Code = Lit (codes "objects") (Word (codes "objects") (Lit (codes "units") list)) in
    let second : Code = Lit (codes "structs") (Word (codes "<<") ((tags_code 0 p.defs ⋯ close) ⋯ third)) in
    let first : Code → Code = λ c. Word (codes "<<") (Lit (codes "ldb") (Num (pos 1) (Lit (codes "target") (Text (target_name at.target) (Lit (codes "anchors") (Word (codes "<<") c)))))) in
    let on_tags : Code → Code = λ c. first (anchors_code 0 at.anchors ⋯ Word (codes ">>") (Lit (codes "structs") (Word (codes "<<") c))) in
    let on_units : Code → Code = λ c. on_tags (tags_code 0 p.defs ⋯ Word (codes ">>") (Lit (codes "objects") (Word (codes "objects") (Lit (codes "units") (Word (codes "[") c))))) in
    let units_end : Code = code (units p at.functions p.units) end in
    let tags_end : Code = Word (codes ">>") (Lit (codes "objects") (Word (codes "objects") (Lit (codes "units") (Word (codes "[") units_end)))) in
    let anchors_end : Code = Word (codes ">>") (Lit (codes "structs") (Word (codes "<<") (code (tags 0 p.defs structs) tags_end))) in
    ap first (anchors_are 0 at.anchors anchors_end)
    ∙ ap on_tags (tags_are 0 p.defs structs tags_end same (omega arith))
    ∙ ap on_units (units_are p at.functions p.units end)
    ∙ ap on_units (sym (assoc (units_code p at.functions p.units ⋯ Word (codes "]") Stop) close k ∙ assoc (units_code p at.functions p.units) (Word (codes "]") Stop) (close ⋯ k)))
    ∙ ap on_tags (sym (behind (tags_code 0 p.defs) third close k (codes ">>")))
    ∙ ap first (sym (behind (anchors_code 0 at.anchors) second close k (codes ">>")))

-- the dictionary that is left
module _ (ds : List DictId) (t : StringId) (under : List Item) (items_fit : length under + 100 ≤ 1000) (post : List ℕ) where
  pub top_performs : (p : Program) (place : Placement) (objects : ArrayId) (structs : List PsObj) (k : Code) (s : StoreState) (o : List PsObj) (at : ℕ) → length structs ≡ length p.defs → length p.defs < 2 ^ 31
      → IsMaking s ds → Knows s ds (top p place objects structs) → HasRoom (length o) (top p place objects structs) → s.table.units + s.command.units + cost (top p place objects structs) ≤ 8000000
      → StandsAt s t at (render (top_code p place ⋯ k) ++ post)
      → Performs (cost (top p place objects structs)) (steps (top p place objects structs)) (after (top p place objects structs) Bottom) s ds o o t at (render k ++ post) under
  top_performs p place objects structs k s o at same few is knows room fits here =
      performs ds t under items_fit post (top p place objects structs) k Bottom s [] o at is knows room fits refl
      (subst (λ (c : Code). StandsAt s t at (render c ++ post)) (sym (top_is p place objects structs k same few)) here)
