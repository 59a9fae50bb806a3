-- Files and their functions.
use Rattle.std.proofs.Common.{◌≡◌, ◌<◌, ◌≤◌, ◌+◌, ℕ, zero, suc, Bool, true, false, ◌==◌, List, [], ◌∷◌, ◌++◌, length, map, ◌∙◌, sym, refl, ap, subst, slice_index_or, slice_set, drop, if◌then◌else◌, arith}
use Rattle.std.proofs.Math.Seq.{drop-cons}
use Rattle.c_tree.specs.declared.rows.UnitRow.{UnitRow}
use Rattle.c_tree.specs.declared.rows.Function.{Function}
use Rattle.c_rows.specs.Units.{file_of, files_functions, functions_by}

equal : (m n : ℕ) → (m == n) ≡ true → m ≡ n
equal m n h = grind arith

same_next : (m n : ℕ) → (suc m == suc n) ≡ (m == n)
same_next m n = grind arith

zero_next : (n : ℕ) → (0 == suc n) ≡ false
zero_next n = grind arith

next_zero : (n : ℕ) → (suc n == 0) ≡ false
next_zero n = grind arith

-- a file with other functions keeps its name
pub file_kept : (us : List UnitRow) (i : ℕ) (r : UnitRow) (fs : List ℕ) → r ≡ slice_index_or us i r → map file_of (slice_set us i (record { file = r.file; functions = fs })) ≡ map file_of us
file_kept [] i r fs h = refl
file_kept (x ∷ us) zero r fs h = ap (λ y. file_of y ∷ map file_of us) h
file_kept (x ∷ us) (suc i) r fs h = ap (λ l. file_of x ∷ l) (file_kept us i r fs h)

functions_set : (us : List UnitRow) (i u : ℕ) (r : UnitRow) → u < length us → files_functions (slice_set us i r) u ≡ (if i == u then r.functions else files_functions us u)
functions_set [] i u r h = absurd (omega (arith, h))
functions_set (x ∷ us) zero zero r h = refl
functions_set (x ∷ us) zero (suc u) r h = ap (λ b. if b then r.functions else files_functions us u) (sym (zero_next u))
functions_set (x ∷ us) (suc i) zero r h = ap (λ b. if b then r.functions else x.functions) (sym (next_zero i))
functions_set (x ∷ us) (suc i) (suc u) r h = functions_set us i u r (omega (arith, h)) ∙ ap (λ b. if b then r.functions else files_functions us u) (sym (same_next i u))

functions_at : (us : List UnitRow) (i : ℕ) (r : UnitRow) → i < length us → r ≡ slice_index_or us i r → files_functions us i ≡ r.functions
functions_at [] i r l h = absurd (omega (arith, l))
functions_at (x ∷ us) zero r l h = ap (λ y. y.functions) (sym h)
functions_at (x ∷ us) (suc i) r l h = functions_at us i r (omega (arith, l)) h

-- the functions of each file, where one gets one more
pub functions_added : (us : List UnitRow) (i u : ℕ) (r : UnitRow) (fs : List ℕ) (n : ℕ) → u < length us → r ≡ slice_index_or us i r → fs ≡ (r.functions ++ n ∷ [])
    → files_functions (slice_set us i (record { file = r.file; functions = fs })) u ≡ (if i == u then files_functions us u ++ n ∷ [] else files_functions us u)
functions_added us i u r fs n l h e =
    functions_set us i u (record { file = r.file; functions = fs }) l ∙
    (let P : Bool → Type 0 = λ b. (i == u) ≡ b → (if b then fs else files_functions us u) ≡ (if b then files_functions us u ++ n ∷ [] else files_functions us u) in
    (elim (i == u) as P [
      | true ↦ λ t. e ∙ ap (λ l. l ++ n ∷ []) (sym (functions_at us u r l (h ∙ ap (λ j. slice_index_or us j r) (equal i u t))))
      | false ↦ λ t. refl
    ]) refl)

-- a file without functions behind others
pub none_more : (us : List UnitRow) (r : UnitRow) → ((u : ℕ) → files_functions us u ≡ []) → r.functions ≡ [] → (u : ℕ) → files_functions (us ++ r ∷ []) u ≡ []
none_more [] r h e zero = e
none_more [] r h e (suc u) = refl
none_more (x ∷ us) r h e zero = h 0
none_more (x ∷ us) r h e (suc u) = none_more us r (λ v. h (suc v)) e u

append_append : (xs : List ℕ) (n : ℕ) (ys : List ℕ) → ((xs ++ n ∷ []) ++ ys) ≡ (xs ++ n ∷ ys)
append_append [] n ys = refl
append_append (x ∷ xs) n ys = ap (λ l. x ∷ l) (append_append xs n ys)

one_function : (b : Bool) (old ys : List ℕ) (n : ℕ) → ((if b then old ++ n ∷ [] else old) ++ ys) ≡ (old ++ (if b then n ∷ ys else ys))
one_function true old ys n = append_append old n ys
one_function false old ys n = refl

-- a function goes from those that are left to those that are in their files
pub function_more : (fs : List Function) (i u : ℕ) (f : Function) (old new : List ℕ) → i < length fs → f ≡ slice_index_or fs i f → new ≡ (if f.unit == u then old ++ i ∷ [] else old)
    → (new ++ functions_by u (i + 1) (drop (i + 1) fs)) ≡ (old ++ functions_by u i (drop i fs))
function_more fs i u f old new h e n =
    ap (λ l. l ++ functions_by u (i + 1) (drop (i + 1) fs)) n ∙
    (one_function (f.unit == u) old (functions_by u (i + 1) (drop (i + 1) fs)) i ∙
    ap (λ l. old ++ l) (ap (λ j. if f.unit == u then i ∷ functions_by u j (drop j fs) else functions_by u j (drop j fs)) (let x : i + 1 ≡ suc i = omega arith in x) ∙
    (ap (λ g. functions_by u i (g ∷ drop (suc i) fs)) e ∙ ap (functions_by u i) (sym (drop-cons fs i f h)))))

append_file : (fs : List (List ℕ)) (f : List ℕ) (gs : List (List ℕ)) → ((fs ++ f ∷ []) ++ gs) ≡ (fs ++ f ∷ gs)
append_file [] f gs = refl
append_file (g ∷ fs) f gs = ap (λ l. g ∷ l) (append_file fs f gs)

file_last : (us : List UnitRow) (r : UnitRow) → map file_of (us ++ r ∷ []) ≡ (map file_of us ++ r.file ∷ [])
file_last [] r = refl
file_last (u ∷ us) r = ap (λ l. file_of u ∷ l) (file_last us r)

-- a name goes from those that are left to those of the files
pub file_more : (us vs : List UnitRow) (r : UnitRow) (ns : List (List ℕ)) (i : ℕ) (n : List ℕ) → i < length ns → vs ≡ (us ++ r ∷ []) → r.file ≡ n → n ≡ slice_index_or ns i n
    → (map file_of vs ++ drop (i + 1) ns) ≡ (map file_of us ++ drop i ns)
file_more us vs r ns i n h v f e =
    ap (λ l. map file_of l ++ drop (i + 1) ns) v ∙
    (ap (λ l. l ++ drop (i + 1) ns) (file_last us r) ∙
    (append_file (map file_of us) r.file (drop (i + 1) ns) ∙
    ap (λ l. map file_of us ++ l) (ap (λ j. r.file ∷ drop j ns) (let x : i + 1 ≡ suc i = omega arith in x) ∙ (ap (λ g. g ∷ drop (suc i) ns) (f ∙ e) ∙ sym (drop-cons ns i n h)))))

counted : (us : List UnitRow) → length (map file_of us) ≡ length us
counted [] = refl
counted (x ∷ us) = ap suc (counted us)

pub in_files : (us : List UnitRow) (ns : List (List ℕ)) (u : ℕ) → map file_of us ≡ ns → u < length ns → u < length us
in_files us ns u e h = subst (λ (n : ℕ). u < n) (sym (ap length e) ∙ counted us) h

append_nothing : (xs : List ℕ) → (xs ++ []) ≡ xs
append_nothing [] = refl
append_nothing (x ∷ xs) = ap (λ l. x ∷ l) (append_nothing xs)

left_from : (fs : List Function) (i n u : ℕ) (old : List ℕ) → length fs ≤ i → (old ++ functions_by u n (drop i fs)) ≡ old
left_from [] zero n u old h = append_nothing old
left_from [] (suc i) n u old h = append_nothing old
left_from (f ∷ fs) zero n u old h = absurd (omega (arith, h))
left_from (f ∷ fs) (suc i) n u old h = left_from fs i n u old (omega (arith, h))

pub functions_left : (fs : List Function) (i u : ℕ) (old : List ℕ) → length fs ≤ i → (old ++ functions_by u i (drop i fs)) ≡ old
functions_left fs i u old h = left_from fs i i u old h
