-- The numbers of rows, where one row comes behind the others.
use Rattle.std.proofs.Common.{◌≡◌, ◌<◌, ℕ, zero, suc, Bool, true, false, not, ◌&&◌, ◌==◌, List, [], ◌∷◌, ◌++◌, length, map, reverse, ◌∙◌, sym, refl, ap, subst, Option, Some, None, option_map, slice_get, bytes_eq, if◌then◌else◌, arith, length-append}
use Rattle.std.proofs.lemmas.Bool.{and_parts, eqb-true}
use Rattle.std.proofs.lemmas.List.{reverse-append}
use Rattle.std.proofs.lemmas.Slice.Eq.{bytes_eq-Decides}
use Rattle.std.specs.Map.{update}
use Rattle.c_linkage.specs.declared.file_names.FileName.{FileName as Row}
use Rattle.c_scope.specs.Here.{meaning_of}
use Rattle.c_linkage.specs.Names.{FileName, is_here, is_external}
use Rattle.c_linkage.specs.FileNames.{file_name}
use Rattle.c_linkage.specs.FileNumbers.{with_number}
use Rattle.c_linkage.specs.Numbered.{is_open_row, more_number, Points, declared}
use Rattle.c_linkage.specs.Telling.{is_open, more_told, telling}

get_before : {X : Type 0} (xs ys : List X) (i : ℕ) → i < length xs → slice_get (xs ++ ys) i ≡ slice_get xs i
get_before [] ys i h = absurd (omega arith)
get_before (x ∷ xs) ys zero h = refl
get_before (x ∷ xs) ys (suc i) h = get_before xs ys i (omega arith)

get_last : {X : Type 0} (xs : List X) (x : X) → slice_get (xs ++ x ∷ []) (length xs) ≡ Some x
get_last [] x = refl
get_last (y ∷ ys) x = get_last ys x

map_last : (rows : List Row) (r : Row) → map file_name (rows ++ r ∷ []) ≡ (map file_name rows ++ file_name r ∷ [])
map_last [] r = refl
map_last (x ∷ rows) r = ap (λ l. file_name x ∷ l) (map_last rows r)

pub declared_last : (rows : List Row) (r : Row) → declared (rows ++ r ∷ []) ≡ (file_name r ∷ declared rows)
declared_last rows r = ap reverse (map_last rows r) ∙ reverse-append (map file_name rows) (file_name r ∷ [])

kept : (rows : List Row) (r : Row) (o : Option ℕ) (x : Option FileName) → Points rows o x → Points (rows ++ r ∷ []) o x
kept rows r None x p = record { below = tt; row = p.row }
kept rows r (Some m) x p =
    let l = length-append rows (r ∷ []) in
    let b : m < length rows = p.below in
    record { below = omega (arith, l, b); row = ap (option_map file_name) (get_before rows (r ∷ []) m b) ∙ p.row }

last : (rows : List Row) (r : Row) → Points (rows ++ r ∷ []) (Some (length rows)) (Some (file_name r))
last rows r =
    let l = length-append rows (r ∷ []) in
    record { below = omega (arith, l); row = ap (option_map file_name) (get_last rows r) }

more_points : (rows : List Row) (r : Row) (o : Option ℕ) (x : Option FileName) → Points rows o x
    → Points (rows ++ r ∷ []) (Some (more_number rows o (length rows))) (Some (more_told (file_name r) x))
more_points rows r None x p = subst (λ (y : Option FileName). Points (rows ++ r ∷ []) (Some (length rows)) (Some (more_told (file_name r) y))) p.row (last rows r)
more_points rows r (Some m) x p =
    let P : Option Row → Type 0 = λ o. slice_get rows m ≡ o → Points (rows ++ r ∷ []) (Some (if is_open_row o then length rows else m)) (Some (more_told (file_name r) (option_map file_name o))) in
    let Q : Option FileName → Type 0 = λ y. Points (rows ++ r ∷ []) (Some (more_number rows (Some m) (length rows))) (Some (more_told (file_name r) y)) in
    subst Q p.row
    ((elim (slice_get rows m) as P [
      | None ↦ λ e. last rows r
      | Some g ↦ λ e.
          let found : Points rows (Some m) (Some (file_name g)) = record { below = p.below; row = ap (option_map file_name) e } in
          elim (is_open (meaning_of g.meaning)) as (λ b. Points (rows ++ r ∷ []) (Some (if b then length rows else m)) (Some (if b then file_name r else file_name g))) [ true ↦ last rows r | false ↦ kept rows r (Some m) (Some (file_name g)) found ]
    ]) refl)

-- of the names of a file
files_more : (rows : List Row) (r : Row) (f : ℕ → List ℕ → Option ℕ) → ((u : ℕ) (t : List ℕ) → Points rows (f u t) (telling (is_here u t) (declared rows)))
    → (u : ℕ) (t : List ℕ) → Points (rows ++ r ∷ []) (with_number f r.unit r.name.now (Some (more_number rows (f r.unit r.name.now) (length rows))) u t) (telling (is_here u t) (file_name r ∷ declared rows))
files_more rows r f h u t =
    let n = Some (more_number rows (f r.unit r.name.now) (length rows)) in
    let P : Bool → Type 0 = λ b. ((r.unit == u) && bytes_eq r.name.now t) ≡ b
    → Points (rows ++ r ∷ []) (if b then n else f u t) (if b then Some (more_told (file_name r) (telling (is_here u t) (declared rows))) else telling (is_here u t) (declared rows)) in
    (elim ((r.unit == u) && bytes_eq r.name.now t) as P [
      | true ↦ λ e.
          let p = and_parts (r.unit == u) (bytes_eq r.name.now t) e in
          let Q : ℕ → Type 0 = λ v. Points (rows ++ r ∷ []) n (Some (more_told (file_name r) (telling (is_here v t) (declared rows)))) in
          let R : List ℕ → Type 0 = λ s. Points (rows ++ r ∷ []) n (Some (more_told (file_name r) (telling (is_here r.unit s) (declared rows)))) in
          subst Q (eqb-true r.unit u p.0) (subst R ((bytes_eq-Decides r.name.now t).0 p.1) (more_points rows r (f r.unit r.name.now) (telling (is_here r.unit r.name.now) (declared rows)) (h r.unit r.name.now)))
      | false ↦ λ e. kept rows r (f u t) (telling (is_here u t) (declared rows)) (h u t)
    ]) refl

pub files_numbered : (rows new : List Row) (r : Row) (n : ℕ) (f g : ℕ → List ℕ → Option ℕ) → new ≡ (rows ++ r ∷ []) → n ≡ length rows
    → ((u : ℕ) (t : List ℕ) → Points rows (f u t) (telling (is_here u t) (declared rows)))
    → ((u : ℕ) (t : List ℕ) → g u t ≡ with_number f r.unit r.name.now (Some (more_number rows (f r.unit r.name.now) n)) u t)
    → (u : ℕ) (t : List ℕ) → Points new (g u t) (telling (is_here u t) (declared new))
files_numbered rows new r n f g e l h w u t =
    let P : List Row → Type 0 = λ x. Points x (g u t) (telling (is_here u t) (declared x)) in
    let Q : List FileName → Type 0 = λ d. Points (rows ++ r ∷ []) (g u t) (telling (is_here u t) d) in
    let R : Option ℕ → Type 0 = λ o. Points (rows ++ r ∷ []) o (telling (is_here u t) (file_name r ∷ declared rows)) in
    subst P (sym e) (subst Q (sym (declared_last rows r))
    (subst R (sym (w u t ∙ ap (λ k. with_number f r.unit r.name.now (Some (more_number rows (f r.unit r.name.now) k)) u t) l)) (files_more rows r f h u t)))

-- of external names
externals_more : (rows : List Row) (r : Row) (s : Bool) → r.is_static ≡ s → (f : List ℕ → Option ℕ) → ((t : List ℕ) → Points rows (f t) (telling (is_external t) (declared rows)))
    → (t : List ℕ) → Points (rows ++ r ∷ []) (if s then f t else update bytes_eq f r.name.now (Some (more_number rows (f r.name.now) (length rows))) t)
    (if not s && bytes_eq r.name.now t then Some (more_told (file_name r) (telling (is_external t) (declared rows))) else telling (is_external t) (declared rows))
externals_more rows r true s f h t = kept rows r (f t) (telling (is_external t) (declared rows)) (h t)
externals_more rows r false s f h t =
    let n = Some (more_number rows (f r.name.now) (length rows)) in
    let P : Bool → Type 0 = λ b. bytes_eq r.name.now t ≡ b
    → Points (rows ++ r ∷ []) (if b then n else f t) (if b then Some (more_told (file_name r) (telling (is_external t) (declared rows))) else telling (is_external t) (declared rows)) in
    (elim (bytes_eq r.name.now t) as P [
      | true ↦ λ e.
          let R : List ℕ → Type 0 = λ s. Points (rows ++ r ∷ []) n (Some (more_told (file_name r) (telling (is_external s) (declared rows)))) in
          subst R ((bytes_eq-Decides r.name.now t).0 e) (more_points rows r (f r.name.now) (telling (is_external r.name.now) (declared rows)) (h r.name.now))
      | false ↦ λ e. kept rows r (f t) (telling (is_external t) (declared rows)) (h t)
    ]) refl

pub externals_numbered : (rows new : List Row) (r : Row) (n : ℕ) (f g : List ℕ → Option ℕ) → new ≡ (rows ++ r ∷ []) → n ≡ length rows
    → ((t : List ℕ) → Points rows (f t) (telling (is_external t) (declared rows)))
    → ((t : List ℕ) → g t ≡ (if r.is_static then f t else update bytes_eq f r.name.now (Some (more_number rows (f r.name.now) n)) t))
    → (t : List ℕ) → Points new (g t) (telling (is_external t) (declared new))
externals_numbered rows new r n f g e l h w t =
    let P : List Row → Type 0 = λ x. Points x (g t) (telling (is_external t) (declared x)) in
    let Q : List FileName → Type 0 = λ d. Points (rows ++ r ∷ []) (g t) (telling (is_external t) d) in
    let R : Option ℕ → Type 0 = λ o. Points (rows ++ r ∷ []) o (telling (is_external t) (file_name r ∷ declared rows)) in
    subst P (sym e) (subst Q (sym (declared_last rows r))
    (subst R (sym (w t ∙ ap (λ k. if r.is_static then f t else update bytes_eq f r.name.now (Some (more_number rows (f r.name.now) k)) t) l)) (externals_more rows r r.is_static refl f h t)))
