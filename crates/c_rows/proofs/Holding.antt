-- What objects hold at first, leaf by leaf.
use Rattle.std.proofs.Common.{◌≡◌, ◌<◌, ◌+◌, ◌-◌, ℕ, zero, suc, List, [], ◌∷◌, ◌++◌, map, length, replicate, drop, ◌∙◌, sym, refl, ap, slice_index_or, arith}
use Rattle.std.proofs.Math.Seq.{drop-cons}
use Rattle.std.proofs.lemmas.List.{map-append, append_assoc}
use Rattle.c_tree.specs.declared.types.CType.{CType}
use Rattle.c_tree.specs.declared.rows.Start.{Start}
use Rattle.c_tree.specs.declared.rows.Start.TheVariants.{Number}
use Rattle.c_tree.specs.declared.rows.ObjectRow.{ObjectRow}
use Rattle.c_tree.specs.declared.types.StructDef.{StructDef}
use Rattle.c_typing.specs.Plain.{Plain, plain}
use Rattle.c_defs.specs.Depths.{deepest}
use Rattle.c_linkage.specs.declared.definitions.Definition.{Definition}
use Rattle.c_rows.specs.declared.places.Places.{Places}
use Rattle.c_rows.specs.declared.starts.Starts.{Starts as Kept}
use Rattle.c_linkage.specs.Names.{defining}
use Rattle.c_initial.specs.Begins.{Begin, Bits, zeros}
use Rattle.c_initial.specs.Starts.{begins_of_row, begins_in}
use Rattle.c_initial.specs.declared.starts.Begin.{Begin as Row}
use Rattle.c_defs.specs.Leaves.{leaf_count}
use Rattle.c_rows.specs.Placed.{start_by}
use Rattle.c_rows.specs.Objects.{Said, object_said, said_by, said_all}

append_append : (xs : List Start) (x : Start) (ys : List Start) → ((xs ++ x ∷ []) ++ ys) ≡ (xs ++ x ∷ ys)
append_append [] x ys = refl
append_append (y ∷ xs) x ys = ap (λ l. y ∷ l) (append_append xs x ys)

-- one zero more
pub zero_more : (n k : ℕ) (xs ys : List Start) (x : Start) → k < n → ys ≡ (xs ++ x ∷ []) → (ys ++ replicate (n - (k + 1)) x) ≡ (xs ++ replicate (n - k) x)
zero_more n k xs ys x h e =
    ap (λ l. l ++ replicate (n - (k + 1)) x) e ∙
    (append_append xs x (replicate (n - (k + 1)) x) ∙ ap (λ m. xs ++ replicate m x) (let f : suc (n - (k + 1)) ≡ n - k = omega arith in f))

pub zeros_of : (p : Places) (u n : ℕ) → replicate n (Number 0) ≡ map (start_by p u) (replicate n (Bits 0))
zeros_of p u zero = refl
zeros_of p u (suc n) = ap (λ l. Number 0 ∷ l) (zeros_of p u n)

pub zeros_held : (p : Places) (u : ℕ) (defs : List StructDef) (t : Plain) → replicate (leaf_count defs deepest t) (Number 0) ≡ map (start_by p u) (zeros defs t)
zeros_held p u defs t = zeros_of p u (leaf_count defs deepest t)

-- the leaves of a row go from those that are left to those that are made
pub begins_held : (p : Places) (u : ℕ) (xs ys : List Start) (b : Row) (bs rest : List Row) → ys ≡ (xs ++ map (start_by p u) (begins_of_row b)) → bs ≡ b ∷ rest
    → (ys ++ map (start_by p u) (begins_in rest)) ≡ (xs ++ map (start_by p u) (begins_in bs))
begins_held p u xs ys b bs rest e d =
    let f : Begin → Start = start_by p u in
    ap (λ l. l ++ map f (begins_in rest)) e ∙
    (append_assoc xs (map f (begins_of_row b)) (map f (begins_in rest)) ∙
    (ap (λ l. xs ++ l) (sym (map-append f (begins_of_row b) (begins_in rest))) ∙ ap (λ l. xs ++ map f (begins_in l)) (sym d)))

append_said : (xs : List Said) (x : Said) (ys : List Said) → ((xs ++ x ∷ []) ++ ys) ≡ (xs ++ x ∷ ys)
append_said [] x ys = refl
append_said (y ∷ xs) x ys = ap (λ l. y ∷ l) (append_said xs x ys)

said_last : (os : List ObjectRow) (o : ObjectRow) → map object_said (os ++ o ∷ []) ≡ (map object_said os ++ object_said o ∷ [])
said_last [] o = refl
said_last (x ∷ os) o = ap (λ l. object_said x ∷ l) (said_last os o)

-- a row goes from those that are left to those that are made
pub row_more : (p : Places) (k : Kept) (ds : List Definition) (ts : List CType) (i : ℕ) (d : Definition) (t : CType) (os ps : List ObjectRow) (o : ObjectRow) → i < length ds → length ts ≡ length ds
    → d ≡ slice_index_or ds i d → t ≡ slice_index_or ts i t → ps ≡ (os ++ o ∷ []) → object_said o ≡ said_by p k (defining d) (plain t)
    → (map object_said ps ++ said_all p k (map defining (drop (i + 1) ds)) (map plain (drop (i + 1) ts))) ≡ (map object_said os ++ said_all p k (map defining (drop i ds)) (map plain (drop i ts)))
row_more p k ds ts i d t os ps o h l e f m s =
    let rest : List Said = said_all p k (map defining (drop (i + 1) ds)) (map plain (drop (i + 1) ts)) in
    ap (λ x. map object_said x ++ rest) m ∙
    (ap (λ x. x ++ rest) (said_last os o) ∙
    (append_said (map object_said os) (object_said o) rest ∙
    (ap (λ x. map object_said os ++ x ∷ rest) s ∙
    ap (λ x. map object_said os ++ x)
    (ap (λ j. said_by p k (defining d) (plain t) ∷ said_all p k (map defining (drop j ds)) (map plain (drop j ts))) (let x : i + 1 ≡ suc i = omega arith in x) ∙
    ((λ j. said_all p k (map defining (e j ∷ drop (suc i) ds)) (map plain (f j ∷ drop (suc i) ts))) ∙
    (λ j. said_all p k (map defining (sym (drop-cons ds i d h) j)) (map plain (sym (drop-cons ts i t (let x : i < length ts = omega (arith, h, l) in x)) j))))))))
