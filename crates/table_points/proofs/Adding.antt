-- Points that are added, one item onward.
use Rattle.std.proofs.Common.{◌≡◌, ◌∙◌, refl, sym, ap, subst, ℕ, ◌+◌, ◌<◌, List, [], ◌∷◌, ◌++◌, map, drop, length, get_or, append_assoc, codes, Result, Ok, Err}
use Rattle.std.proofs.lemmas.List.{append-nil}
use Rattle.ps_store.specs.declared.object.DictId.{DictId}
use Rattle.ps_store.specs.declared.object.PsObj.{PsObj}
use Rattle.ps_store.specs.declared.object.PsObj.TheVariants.{Int, Bool as Truth, Name, Str, Array, Dict, Op, Mark as MarkObject, Null}
use Rattle.ps_store.specs.declared.object.StringId.{StringId}
use Rattle.ps_store.specs.Store.{bytes_of}
use Rattle.ps_store.specs.StoreState.{StoreState}
use Rattle.ps_step.specs.Results.{◌>>=◌}
use Rattle.table_model.specs.declared.lack.Lack.{Lack}
use Rattle.table_model.specs.Reading.{Walked, entry, dict_in, string_in, text_in, string_at, text_at, all_from, all_in}
use Rattle.table_model.specs.Rows.{PointRow, points_of}
use Rattle.table_model.specs.Places.{row_of, rows_of}
use Rattle.table_read.specs.Reads.{in_ok}
use Rattle.table_points.specs.declared.row.Point.{Point}
use Rattle.table_points.specs.declared.every.PointsFault.{PointsFault}
use Rattle.table_points.specs.declared.every.PointsFault.TheVariants.{Lacks, NoMemory}
use Rattle.table_points.specs.Rows.{row_in}
use Rattle.table_points.specs.Every.{joined, rows_in_store, Adds}
use Rattle.table_points.proofs.Gathering.{got, got_is, gather_behind, gather_fails}

pub rows_join : (c ys zs : List PointRow) → joined c (ys ++ zs) ≡ joined (joined c ys) zs
rows_join c ys zs = sym (append_assoc c ys zs)

added_row : (s : StoreState) (ps : List Point) (p : Point) → rows_in_store s (ps ++ p ∷ []) ≡ joined (rows_in_store s ps) (row_in s p ∷ [])
added_row s [] p = refl
added_row s (q ∷ ps) p = ap (λ (l : List PointRow). row_in s q ∷ l) (added_row s ps p)

-- one point more
pub one_added : (s : StoreState) (w : Walked (List PointRow)) (ps : List Point) (p : Point) → w ≡ Ok (row_in s p ∷ []) → in_ok (joined (rows_in_store s ps)) w ≡ got (rows_in_store s (ps ++ p ∷ []))
one_added s w ps p e = ap (λ (x : Walked (List PointRow)). in_ok (joined (rows_in_store s ps)) x) e ∙ ap (λ (l : List PointRow). got l) (sym (added_row s ps p))

lacks_joined : (before : List PointRow) (w : Walked (List PointRow)) (l : Lack) → in_ok (joined before) w ≡ Err l → w ≡ Err l
lacks_joined before (Ok rows) l h = absurd (let k = h in cc)
lacks_joined before (Err m) l h = let k = h in cc

lacks_also : (before : List PointRow) (w : Walked (List PointRow)) (l : Lack) → w ≡ Err l → in_ok (joined before) w ≡ Err l
lacks_also before w l e = ap (λ (x : Walked (List PointRow)). in_ok (joined before) x) e

module _ {A : Type 0} (s : StoreState) (test : ℕ → A → Walked (List PointRow)) (xs : List A) (before : List Point) where
  -- so many items were read, and their points are there
  abbrev pub SoFar : (n : ℕ) → List Point → Type 0
  SoFar n now = in_ok (joined (rows_in_store s now)) (all_from test n (drop n xs)) ≡ in_ok (joined (rows_in_store s before)) (all_from test 0 xs)

  pub so_far_on : (n : ℕ) (d : A) (now next : List Point) → n < length xs → SoFar n now → in_ok (joined (rows_in_store s now)) (test n (get_or xs n d)) ≡ got (rows_in_store s next) → SoFar (n + 1) next
  so_far_on n d now next less far h = sym (gather_behind joined rows_join test n xs d less (rows_in_store s now) (rows_in_store s next) h) ∙ far

  pub so_far_lacks : (n : ℕ) (d : A) (now : List Point) (l : Lack) → n < length xs → SoFar n now → test n (get_or xs n d) ≡ Err l → all_from test 0 xs ≡ Err l
  so_far_lacks n d now l less far h =
      lacks_joined (rows_in_store s before) (all_from test 0 xs) l (sym far ∙ gather_fails joined rows_join test n xs d less (rows_in_store s now) l (lacks_also (rows_in_store s now) (test n (get_or xs n d)) l h))

  pub so_far_fails : (n : ℕ) (d : A) (now next : List Point) (f : PointsFault) → n < length xs → SoFar n now → Adds s (test n (get_or xs n d)) now (Err f) next → Adds s (all_from test 0 xs) before (Err f) next
  so_far_fails n d now next (Lacks l) less far h = so_far_lacks n d now l less far h
  so_far_fails n d now next NoMemory less far h = tt

  pub so_far_all : (now : List Point) (n : ℕ) → drop n xs ≡ [] → SoFar n now → Adds s (all_from test 0 xs) before (Ok tt) now
  so_far_all now n e far =
      sym far ∙ ap (λ (ys : List A). in_ok (joined (rows_in_store s now)) (all_from test n ys)) e ∙ ap (λ (l : List PointRow). got l) (append-nil (rows_in_store s now))

-- ---- the rows of a function, by what was read of it

string_is : (s : StoreState) (x : PsObj) (t : StringId) → string_in x ≡ Ok t → text_in s x ≡ Ok (bytes_of s t)
string_is s (Str u executable) t h = ap (λ (v : StringId). got (bytes_of s v)) (got_is u t h)
string_is s (Int n) t h = absurd (let k = h in cc)
string_is s (Truth b) t h = absurd (let k = h in cc)
string_is s (Name u executable) t h = absurd (let k = h in cc)
string_is s (Array a executable) t h = absurd (let k = h in cc)
string_is s (Dict d) t h = absurd (let k = h in cc)
string_is s (Op n) t h = absurd (let k = h in cc)
string_is s MarkObject t h = absurd (let k = h in cc)
string_is s Null t h = absurd (let k = h in cc)

text_is : (s : StoreState) (w : Walked PsObj) (t : StringId) → (w >>= string_in) ≡ Ok t → (w >>= text_in s) ≡ Ok (bytes_of s t)
text_is s (Ok x) t h = string_is s x t h
text_is s (Err l) t h = absurd (let k = h in cc)

pub function_rows : (s : StoreState) (file : List ℕ) (x : PsObj) (f : DictId) (name : StringId) (ps : List PsObj) → dict_in x ≡ Ok f → string_at s f (codes "name") ≡ Ok name → points_of s f ≡ Ok ps
    → rows_of s file x ≡ all_in (row_of s file (bytes_of s name)) ps
function_rows s file x f name ps is called stand =
    ap (λ (w : Walked DictId). w >>= λ f. text_at s f (codes "name") >>= λ name. points_of s f >>= all_in (row_of s file name)) is
    ∙ ap (λ (w : Walked (List ℕ)). w >>= λ name. points_of s f >>= all_in (row_of s file name)) (text_is s (entry s f (codes "name")) name called)
    ∙ ap (λ (w : Walked (List PsObj)). w >>= all_in (row_of s file (bytes_of s name))) stand
