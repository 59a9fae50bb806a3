-- What slot code begins with is what its program begins with.
use Rattle.std.proofs.Common.{◌≡◌, ℕ, suc, ◌+◌, List, [], ◌∷◌, ◌++◌, length, refl, sym, ap, ◌∙◌}
use Rattle.std.specs.Prelude.{map, true}
use Rattle.ldb_words.specs.declared.kinds.Kind.{Kind}
use Rattle.ldb_words.specs.declared.kinds.Kind.TheVariants.{Byte, Word, Address}
use Rattle.c_tree.specs.declared.types.Leaf.{Leaf}
use Rattle.c_tree.specs.declared.rows.Program.{Program}
use Rattle.c_tree.specs.declared.rows.ObjectRow.{ObjectRow}
use Rattle.c_tree.specs.declared.rows.Start.{Start}
use Rattle.c_tree.specs.declared.rows.Start.TheVariants as start
use Rattle.c_tree.specs.Layout.{size_of, leaves_of}
use Rattle.c_operators.specs.Bits.{low_byte}
use Rattle.c_store.specs.Store.{Number, At, Cell, Static, Text}
use Rattle.c_source.specs.Blocks.{zero_cell}
use Rattle.c_source.specs.Begin as sources
use Rattle.slot_ir.specs.declared.code.SlotCode.{SlotCode}
use Rattle.slot_ir.specs.declared.code.SlotObject.{SlotObject}
use Rattle.slot_ir.specs.Begin as beginning
use Rattle.slot_gen.specs.Rows.{EachFrom, IsObjectOf, HasRowsOf, starts_of, Fits, AreFitting, AllFitting}
use Rattle.slot_gen.proofs.Pairs.{each_length}

same_characters : (i : ℕ) (s : List ℕ) → beginning.characters i s ≡ sources.characters i s
same_characters i [] = refl
same_characters i (c ∷ cs) = ap (λ l. record { at = i; kind = Byte; value = Number (low_byte c) } ∷ l) (same_characters (suc i) cs)

same_strings : (k : ℕ) (ss : List (List ℕ)) → beginning.string_objects k ss ≡ sources.string_objects k ss
same_strings k [] = refl
same_strings k (s ∷ ss) =
    ap (λ c. record { origin = Text k; live = true; size = suc (length s); cells = c } ∷ beginning.string_objects (suc k) ss) (same_characters 0 s)
    ∙ ap (λ l. record { origin = Text k; live = true; size = suc (length s); cells = sources.characters 0 s } ∷ l) (same_strings (suc k) ss)

module _ (p : Program) (c : SlotCode) (count : length c.objects ≡ length p.objects) where
  one : (a : ℕ) (k : Kind) (ls : List Leaf) (x : Start) (xs : List Start) → Fits k x
      → beginning.start_cells c (starts_of (record { at = a; kind = k } ∷ ls) (x ∷ xs)) ≡ record { at = a; kind = k; value = sources.starting p k x } ∷ beginning.start_cells c (starts_of ls xs)
  one a Byte ls (start.Number m) xs f = refl
  one a Word ls (start.Number m) xs f = refl
  one a Address ls (start.Number m) xs f = refl
  one a Byte ls (start.Object o i) xs f = refl
  one a Word ls (start.Object o i) xs f = absurd f
  one a Address ls (start.Object o i) xs f = refl
  one a Byte ls (start.Str t) xs f = ap (λ n. record { at = a; kind = Byte; value = At (n + t) 0 } ∷ beginning.start_cells c (starts_of ls xs)) count
  one a Word ls (start.Str t) xs f = absurd f
  one a Address ls (start.Str t) xs f = ap (λ n. record { at = a; kind = Address; value = At (n + t) 0 } ∷ beginning.start_cells c (starts_of ls xs)) count

  same_cells : (ls : List Leaf) (xs : List Start) → AreFitting ls xs → beginning.start_cells c (starts_of ls xs) ≡ sources.starts_of p (map zero_cell ls) xs
  same_cells [] xs f = refl
  same_cells (l ∷ ls) [] f = refl
  same_cells (l ∷ ls) (x ∷ xs) f = one l.at l.kind ls x xs f.0 ∙ ap (λ cs. record { at = l.at; kind = l.kind; value = sources.starting p l.kind x } ∷ cs) (same_cells ls xs f.1)

  same_objects : (o : ℕ) (rows : List ObjectRow) (ss : List SlotObject) → EachFrom (IsObjectOf p) o rows ss → AllFitting p rows → beginning.static_objects c o ss ≡ sources.static_objects p o rows
  same_objects o [] [] e f = refl
  same_objects o [] (s ∷ ss) e f = absurd e
  same_objects o (row ∷ rows) [] e f = absurd e
  same_objects o (row ∷ rows) (s ∷ ss) e f =
      let rest = sources.static_objects p (suc o) rows in
      ap (λ r. record { origin = Static o; live = true; size = s.size; cells = beginning.start_cells c s.start } ∷ r) (same_objects (suc o) rows ss e.1 f.1)
      ∙ ap (λ n. record { origin = Static o; live = true; size = n; cells = beginning.start_cells c s.start } ∷ rest) e.0.size
      ∙ ap (λ x. record { origin = Static o; live = true; size = size_of p.defs row.ctype; cells = beginning.start_cells c x } ∷ rest) e.0.start
      ∙ ap (λ x. record { origin = Static o; live = true; size = size_of p.defs row.ctype; cells = x } ∷ rest) (same_cells (leaves_of p.defs row.ctype) row.start f.0)

pub same_world : (p : Program) (c : SlotCode) → HasRowsOf p c → AllFitting p p.objects → (input : List ℕ) → beginning.world_at_first c input ≡ sources.world_at_first p input
same_world p c rows f input =
    let count = each_length (IsObjectOf p) 0 p.objects c.objects rows.objects in
    ap (λ x. record { objects = x ++ beginning.string_objects 0 c.strings; input = input; output = [] }) (same_objects p c count 0 p.objects c.objects rows.objects f)
    ∙ ap (λ x. record { objects = sources.static_objects p 0 p.objects ++ beginning.string_objects 0 x; input = input; output = [] }) rows.strings
    ∙ ap (λ x. record { objects = sources.static_objects p 0 p.objects ++ x; input = input; output = [] }) (same_strings 0 p.strings)
