-- Maps after an insert.
use Rattle.std.proofs.Common.{◌≡◌, ℕ, Bool, true, false, cond, List, [], ◌++◌, Option, Some, refl, sym, ap, ◌∙◌, subst}
use Rattle.std.specs.Prelude.{IsSome, unwrap_or}
use Rattle.std.specs.Cmp.Lexicographic.{nat_list_cmp_total}
use Rattle.std.specs.Str.{bytes_eq}
use Rattle.std.specs.FinMap as map
use Rattle.std.proofs.lemmas.Map.Text.{is_eq-slice_cmp}
use Rattle.std.proofs.lemmas.Slice.Eq.{bytes_eq-Decides}
use Rattle.ldb_edge.specs.Known.{FileMap, appended}

pub get-insert : (m : FileMap) (name bytes q : List ℕ) → map.get (map.insert m name bytes) q ≡ cond (bytes_eq q name) (Some bytes) (map.get m q)
get-insert m name bytes q = map.get-insert nat_list_cmp_total m name bytes q ∙ ap (λ t. cond t (Some bytes) (map.get m q)) (is_eq-slice_cmp q name)

-- two maps that answer alike
pub alike : (m n : FileMap) → ((q : List ℕ) → map.get m q ≡ map.get n q) → m ≡ n
alike m n = map.same_map nat_list_cmp_total (map.slice_cmp-IsAntisymmetric map.nat_cmp-IsAntisymmetric) m n

pub equal_bytes : (a b : List ℕ) → bytes_eq a b ≡ true → a ≡ b
equal_bytes a b = (bytes_eq-Decides a b).0

pub same_bytes : (a : List ℕ) → bytes_eq a a ≡ true
same_bytes a = (bytes_eq-Decides a a).1 refl

twice : {A : Type 0} (b : Bool) (x y z : A) → cond b x (cond b y z) ≡ cond b x z
twice true x y z = refl
twice false x y z = refl

swapped : {A : Type 0} (a b : Bool) (x y z : A) → (a ≡ true → b ≡ true → ⊥) → cond a x (cond b y z) ≡ cond b y (cond a x z)
swapped true true x y z apart = absurd (apart refl refl)
swapped true false x y z apart = refl
swapped false b x y z apart = refl

-- the last value of a name counts
pub insert_again : (m : FileMap) (name old new : List ℕ) → map.insert (map.insert m name old) name new ≡ map.insert m name new
insert_again m name old new = alike _ _ (λ q.
    get-insert (map.insert m name old) name new q
    ∙ ap (cond (bytes_eq q name) (Some new)) (get-insert m name old q)
    ∙ twice (bytes_eq q name) (Some new) (Some old) (map.get m q)
    ∙ sym (get-insert m name new q))

-- two names in either order
pub insert_apart : (m : FileMap) (a b xs ys : List ℕ) → (a ≡ b → ⊥) → map.insert (map.insert m b ys) a xs ≡ map.insert (map.insert m a xs) b ys
insert_apart m a b xs ys apart = alike _ _ (λ q.
    get-insert (map.insert m b ys) a xs q
    ∙ ap (cond (bytes_eq q a) (Some xs)) (get-insert m b ys q)
    ∙ swapped (bytes_eq q a) (bytes_eq q b) (Some xs) (Some ys) (map.get m q) (λ s t. apart (sym (equal_bytes q a s) ∙ equal_bytes q b t))
    ∙ sym (ap (cond (bytes_eq q b) (Some ys)) (get-insert m a xs q))
    ∙ sym (get-insert (map.insert m a xs) b ys q))

kept_at : (m : FileMap) (name bytes q : List ℕ) → map.get m name ≡ Some bytes → (b : Bool) → bytes_eq q name ≡ b → cond b (Some bytes) (map.get m q) ≡ map.get m q
kept_at m name bytes q e true t = sym e ∙ ap (map.get m) (sym (equal_bytes q name t))
kept_at m name bytes q e false t = refl

-- to put back what a name holds changes nothing
pub insert_same : (m : FileMap) (name bytes : List ℕ) → map.get m name ≡ Some bytes → map.insert m name bytes ≡ m
insert_same m name bytes e = alike _ _ (λ q. get-insert m name bytes q ∙ kept_at m name bytes q e (bytes_eq q name) refl)

-- a name that is held stays held
some_stays : (b : Bool) (x y : Option (List ℕ)) → IsSome x → IsSome y → IsSome (cond b x y)
some_stays true x y s t = s
some_stays false x y s t = t

pub stays_held : (m : FileMap) (name bytes q : List ℕ) → IsSome (map.get m q) → IsSome (map.get (map.insert m name bytes) q)
stays_held m name bytes q h = subst IsSome (sym (get-insert m name bytes q)) (some_stays (bytes_eq q name) (Some bytes) (map.get m q) refl h)

pub held_after : (m : FileMap) (name bytes : List ℕ) → IsSome (map.get (map.insert m name bytes) name)
held_after m name bytes = subst IsSome (sym (get-insert m name bytes name)) (subst (λ b. IsSome (cond b (Some bytes) (map.get m name))) (sym (same_bytes name)) refl)

-- what is added to a file that was just put there
pub appended-insert : (m : FileMap) (name old more : List ℕ) → appended (map.insert m name old) name more ≡ map.insert m name (old ++ more)
appended-insert m name old more =
    let there : map.get (map.insert m name old) name ≡ Some old = get-insert m name old name ∙ ap (λ b. cond b (Some old) (map.get m name)) (same_bytes name) in
    ap (λ o. map.insert (map.insert m name old) name (unwrap_or o [] ++ more)) there ∙ insert_again m name old (old ++ more)
