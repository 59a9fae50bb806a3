-- Files in memory, row by row.
use Rattle.std.proofs.Common.{◌≡◌, ℕ, ◌+◌, ◌<◌, true, false, not, cond, nat_lt, List, [], ◌∷◌, ◌++◌, length, suc, get_or, Option, Some, None, slice_set, refl, sym, ap, ◌∙◌, arith, subst, string_bytes}
use Rattle.std.specs.Prelude.{unwrap_or}
use Rattle.std.specs.List.{position_or_len}
use Rattle.std.specs.FinMap as map
use Rattle.std.specs.Cmp.Lexicographic.{slice_cmp}
use Rattle.std.specs.Ordering.{nat_cmp}
use Rattle.std.specs.Str.{bytes_eq}
use Rattle.std.proofs.lemmas.Bool.{ltb-true, lt-ltb}
use Rattle.std.proofs.lemmas.Slice.Eq.{bytes_eq-Decides}
use Rattle.ldb_edge.specs.Known.{appended}
use Rattle.ldb_edge.specs.MemFiles.{Row, map_of, has_name, place_of}
use Rattle.ldb_edge.proofs.Maps.{get-insert, insert_again, insert_apart, insert_same, equal_bytes}

-- where the file of a name stands, or the number of files
abbrev pub spot : List ℕ → List Row → ℕ
spot name rows = position_or_len (has_name name) rows

one_more : (n : ℕ) → 1 + n ≡ suc n
one_more n = omega arith

pub found : (name : List ℕ) (rows : List Row) (d : Row) → spot name rows < length rows → map.get (map_of rows) name ≡ Some (get_or rows (spot name rows) d).1.items
found name [] d lt = absurd (omega arith)
found name (r ∷ rows) d lt =
    get-insert (map_of rows) (string_bytes r.0) r.1.items name
    ∙ elim (has_name name r) as (λ b. cond (not b) (1 + spot name rows) 0 < length (r ∷ rows) → cond b (Some r.1.items) (map.get (map_of rows) name) ≡ Some (get_or (r ∷ rows) (cond (not b) (1 + spot name rows) 0) d).1.items) [
      | true ↦ λ l. refl
      | false ↦ λ l. found name rows d (omega arith) ∙ ap (λ n. Some (get_or (r ∷ rows) n d).1.items) (sym (one_more (spot name rows)))
    ] lt

pub nowhere : (name : List ℕ) (rows : List Row) → (spot name rows < length rows → ⊥) → map.get (map_of rows) name ≡ None
nowhere name [] without = map.get-empty (slice_cmp nat_cmp) name
nowhere name (r ∷ rows) without =
    get-insert (map_of rows) (string_bytes r.0) r.1.items name
    ∙ elim (has_name name r) as (λ b. (cond (not b) (1 + spot name rows) 0 < length (r ∷ rows) → ⊥) → cond b (Some r.1.items) (map.get (map_of rows) name) ≡ None) [
      | true ↦ λ l. absurd (l (omega arith))
      | false ↦ λ l. nowhere name rows (λ lt. l (omega arith))
    ] without

differs : (name : List ℕ) (r : Row) → has_name name r ≡ false → string_bytes r.0 ≡ name → ⊥
differs name r e s = let t = (bytes_eq-Decides name (string_bytes r.0)).1 (sym s) in let f : true ≡ false = sym t ∙ e in cc

-- after a file's bytes were changed in place
pub stored : (name : List ℕ) (rows : List Row) (row : Row) → has_name name row ≡ true → spot name rows < length rows → map_of (slice_set rows (spot name rows) row) ≡ map.insert (map_of rows) name row.1.items
stored name [] row h lt = absurd (omega arith)
stored name (r ∷ rows) row h lt =
    let m = map_of rows in
    let bytes = row.1.items in
    elim (has_name name r) as (λ b. has_name name r ≡ b → cond (not b) (1 + spot name rows) 0 < length (r ∷ rows) → map_of (slice_set (r ∷ rows) (cond (not b) (1 + spot name rows) 0) row) ≡ map.insert (map_of (r ∷ rows)) name bytes) [
      | true ↦ λ e l.
          ap (λ k. map.insert m k bytes) (sym (equal_bytes name (string_bytes row.0) h))
          ∙ sym (insert_again m name r.1.items bytes)
          ∙ ap (λ k. map.insert (map.insert m k r.1.items) name bytes) (equal_bytes name (string_bytes r.0) e)
      | false ↦ λ e l.
          ap (λ n. map_of (slice_set (r ∷ rows) n row)) (one_more (spot name rows))
          ∙ ap (λ f. map.insert f (string_bytes r.0) r.1.items) (stored name rows row h (omega arith))
          ∙ insert_apart m (string_bytes r.0) name r.1.items bytes (differs name r e)
    ] refl lt

-- after a file was added at the end
pub pushed : (name : List ℕ) (rows : List Row) (row : Row) → has_name name row ≡ true → (spot name rows < length rows → ⊥) → map_of (rows ++ row ∷ []) ≡ map.insert (map_of rows) name row.1.items
pushed name [] row h without = ap (λ k. map.insert (map_of []) k row.1.items) (sym (equal_bytes name (string_bytes row.0) h))
pushed name (r ∷ rows) row h without =
    let bytes = row.1.items in
    elim (has_name name r) as (λ b. has_name name r ≡ b → (cond (not b) (1 + spot name rows) 0 < length (r ∷ rows) → ⊥) → map_of ((r ∷ rows) ++ row ∷ []) ≡ map.insert (map_of (r ∷ rows)) name bytes) [
      | true ↦ λ e l. absurd (l (omega arith))
      | false ↦ λ e l.
          ap (λ f. map.insert f (string_bytes r.0) r.1.items) (pushed name rows row h (λ lt. l (omega arith)))
          ∙ insert_apart (map_of rows) (string_bytes r.0) name r.1.items bytes (differs name r e)
    ] refl without

-- what a place says
abbrev pub IsSpot : List ℕ → List Row → Option ℕ → Type 0
IsSpot name rows None = spot name rows < length rows → ⊥
IsSpot name rows (Some i) = (spot name rows < length rows) × (i ≡ spot name rows)

pub placed : (name : List ℕ) (rows : List Row) → IsSpot name rows (place_of rows name)
placed name rows =
    elim (nat_lt (spot name rows) (length rows)) as (λ b. nat_lt (spot name rows) (length rows) ≡ b → IsSpot name rows (cond b (Some (spot name rows)) None)) [
      | true ↦ λ e. (ltb-true _ _ e, refl)
      | false ↦ λ e lt. let t : true ≡ false = sym (lt-ltb _ _ lt) ∙ e in cc
    ] refl

named : (name : List ℕ) (rows : List Row) (d : Row) → spot name rows < length rows → has_name name (get_or rows (spot name rows) d) ≡ true
named name [] d lt = absurd (omega arith)
named name (r ∷ rows) d lt =
    elim (has_name name r) as (λ b. has_name name r ≡ b → cond (not b) (1 + spot name rows) 0 < length (r ∷ rows) → has_name name (get_or (r ∷ rows) (cond (not b) (1 + spot name rows) 0) d) ≡ true) [
      | true ↦ λ e l. e
      | false ↦ λ e l. ap (λ n. has_name name (get_or (r ∷ rows) n d)) (one_more (spot name rows)) ∙ named name rows d (omega arith)
    ] refl lt

module _ (name : List ℕ) (rows : List Row) where
  pub absent_at : place_of rows name ≡ None → map.get (map_of rows) name ≡ None
  absent_at e = nowhere name rows (subst (IsSpot name rows) e (placed name rows))

  pub pushed_at : (row : Row) → string_bytes row.0 ≡ name → place_of rows name ≡ None → map_of (rows ++ row ∷ []) ≡ map.insert (map_of rows) name row.1.items
  pushed_at row s e = pushed name rows row ((bytes_eq-Decides name (string_bytes row.0)).1 (sym s)) (subst (IsSpot name rows) e (placed name rows))

  module _ (i : ℕ) (e : place_of rows name ≡ Some i) where
    at_spot : (spot name rows < length rows) × (i ≡ spot name rows)
    at_spot = subst (IsSpot name rows) e (placed name rows)

    module _ (d : Row) (v : d ≡ get_or rows i d) where
      pub held_at : map.get (map_of rows) name ≡ Some d.1.items
      held_at = found name rows d at_spot.0 ∙ ap (λ n. Some (get_or rows n d).1.items) (sym at_spot.1) ∙ ap (λ r. Some r.1.items) (sym v)

      pub stored_at : (row : Row) → row.0 ≡ d.0 → map_of (slice_set rows i row) ≡ map.insert (map_of rows) name row.1.items
      stored_at row s =
          let h : has_name name row ≡ true = ap (λ n. bytes_eq name (string_bytes n)) s ∙ ap (λ r. has_name name r) v ∙ ap (λ n. has_name name (get_or rows n d)) at_spot.1 ∙ named name rows d at_spot.0 in
          ap (λ n. map_of (slice_set rows n row)) at_spot.1 ∙ stored name rows row h at_spot.0

      pub same_at : (row : Row) → row.0 ≡ d.0 → row.1.items ≡ d.1.items → map_of (slice_set rows i row) ≡ map_of rows
      same_at row s b = stored_at row s ∙ ap (map.insert (map_of rows) name) b ∙ insert_same (map_of rows) name d.1.items held_at

      pub grown_at : (row : Row) (more : List ℕ) → row.0 ≡ d.0 → row.1.items ≡ d.1.items ++ more → map_of (slice_set rows i row) ≡ appended (map_of rows) name more
      grown_at row more s b = stored_at row s ∙ ap (map.insert (map_of rows) name) (b ∙ ap (λ o. unwrap_or o [] ++ more) (sym held_at))
