-- Lists of locals, of shapes and of objects.
use Rattle.std.proofs.Common.{◌≡◌, refl, sym, ◌∙◌, subst, ap, ℕ, suc, zero, List, [], ◌∷◌, ◌++◌, Bool, true, false, Option, Some, None, length, take, drop, reverse, map, append_assoc, true≢false}
use Rattle.std.specs.Prelude.{◌==◌, if◌then◌else◌}
use Rattle.std.proofs.lemmas.List.{reverse-append, reverse-reverse, length-reverse}
use Rattle.c_store.specs.Store.{Value}
use Rattle.c_store.specs.Frames.{Binding, is_free, bound}
use Rattle.c_typing.specs.Declarations.{has}
use Rattle.c_sound.proofs.Ready.{locals_of}

-- ---- locals

pub locals_append : (bs cs : List Binding) → locals_of (bs ++ cs) ≡ locals_of bs ++ locals_of cs
locals_append [] cs = refl
locals_append (b ∷ bs) cs = ap (λ xs. b.local ∷ xs) (locals_append bs cs)

pub locals_take : (n : ℕ) (bs : List Binding) → locals_of (take n bs) ≡ take n (locals_of bs)
locals_take zero bs = refl
locals_take (suc n) [] = refl
locals_take (suc n) (b ∷ bs) = ap (λ xs. b.local ∷ xs) (locals_take n bs)

pub locals_length : (bs : List Binding) → length bs ≡ length (locals_of bs)
locals_length [] = refl
locals_length (b ∷ bs) = ap suc (locals_length bs)

-- a local in scope has an object
bound_by : (t : Bool) (o : ℕ) (there : Bool) (rest : Option ℕ) → (there ≡ true → (q : ℕ) × (rest ≡ Some q)) → (if t then true else there) ≡ true → (q : ℕ) × ((if t then Some o else rest) ≡ Some q)
bound_by true o there rest f h = (o, refl)
bound_by false o there rest f h = f h

pub bound_here : (x : ℕ) (bs : List Binding) → has (locals_of bs) x ≡ true → (o : ℕ) × (bound x bs ≡ Some o)
bound_here x [] h = absurd (true≢false (sym h))
bound_here x (b ∷ bs) h = bound_by (b.local == x) b.object (has (locals_of bs) x) (bound x bs) (bound_here x bs) h

-- and one that is not in scope has none
free_by : (t there free : Bool) → (there ≡ false → free ≡ true) → (if t then true else there) ≡ false → (if t then false else free) ≡ true
free_by true there free f h = absurd (true≢false h)
free_by false there free f h = f h

pub free_here : (x : ℕ) (bs : List Binding) → has (locals_of bs) x ≡ false → is_free x bs ≡ true
free_here x [] h = refl
free_here x (b ∷ bs) h = free_by (b.local == x) (has (locals_of bs) x) (is_free x bs) (free_here x bs) h

-- ---- shapes

pub take_map : (f : Value → Bool) (n : ℕ) (vs : List Value) → map f (take n vs) ≡ take n (map f vs)
take_map f zero vs = refl
take_map f (suc n) [] = refl
take_map f (suc n) (v ∷ vs) = ap (λ xs. f v ∷ xs) (take_map f n vs)

pub drop_map : (f : Value → Bool) (n : ℕ) (vs : List Value) → map f (drop n vs) ≡ drop n (map f vs)
drop_map f zero vs = refl
drop_map f (suc n) [] = refl
drop_map f (suc n) (v ∷ vs) = drop_map f n vs

map_append : (f : Value → Bool) (us vs : List Value) → map f (us ++ vs) ≡ map f us ++ map f vs
map_append f [] vs = refl
map_append f (u ∷ us) vs = ap (λ xs. f u ∷ xs) (map_append f us vs)

reverse_cons : {A : Type 0} (x : A) (xs : List A) → reverse (x ∷ xs) ≡ reverse xs ++ x ∷ []
reverse_cons x xs = reverse-append (x ∷ []) xs

pub reverse_map : (f : Value → Bool) (vs : List Value) → map f (reverse vs) ≡ reverse (map f vs)
reverse_map f [] = refl
reverse_map f (v ∷ vs) = ap (map f) (reverse_cons v vs) ∙ map_append f (reverse vs) (v ∷ []) ∙ ap (λ xs. xs ++ f v ∷ []) (reverse_map f vs) ∙ sym (reverse_cons (f v) (map f vs))

pub map_length : (f : Value → Bool) (vs : List Value) → length (map f vs) ≡ length vs
map_length f [] = refl
map_length f (v ∷ vs) = ap suc (map_length f vs)

-- values on a stack, the last first
abbrev pub onto : List Bool → List Bool → List Bool
onto [] ss = ss
onto (x ∷ xs) ss = onto xs (x ∷ ss)

onto_reverse : (xs ss : List Bool) → onto xs ss ≡ reverse xs ++ ss
onto_reverse [] ss = refl
onto_reverse (x ∷ xs) ss = onto_reverse xs (x ∷ ss) ∙ sym (append_assoc (reverse xs) (x ∷ []) ss) ∙ ap (λ ys. ys ++ ss) (sym (reverse_cons x xs))

take_front : (xs ss : List Bool) → take (length xs) (xs ++ ss) ≡ xs
take_front [] ss = refl
take_front (x ∷ xs) ss = ap (λ ys. x ∷ ys) (take_front xs ss)

drop_front : (xs ss : List Bool) → drop (length xs) (xs ++ ss) ≡ ss
drop_front [] ss = refl
drop_front (x ∷ xs) ss = drop_front xs ss

-- the arguments are taken from the stack again
pub taken : (xs ss : List Bool) (n : ℕ) → n ≡ length xs → reverse (take n (onto xs ss)) ≡ xs
taken xs ss n e =
    ap (λ m. reverse (take m (onto xs ss))) (e ∙ sym (length-reverse xs)) ∙ ap (λ ys. reverse (take (length (reverse xs)) ys)) (onto_reverse xs ss)
    ∙ ap reverse (take_front (reverse xs) ss) ∙ reverse-reverse xs

pub dropped : (xs ss : List Bool) (n : ℕ) → n ≡ length xs → drop n (onto xs ss) ≡ ss
dropped xs ss n e =
    ap (λ m. drop m (onto xs ss)) (e ∙ sym (length-reverse xs)) ∙ ap (λ ys. drop (length (reverse xs)) ys) (onto_reverse xs ss)
    ∙ drop_front (reverse xs) ss

more_by : (t a b : Bool) → (a ≡ true → b ≡ true) → (if t then true else a) ≡ true → (if t then true else b) ≡ true
more_by true a b f h = refl
more_by false a b f h = f h

pub has_more : (ls xs : List ℕ) (x : ℕ) → has ls x ≡ true → has (ls ++ xs) x ≡ true
has_more [] xs x h = absurd (true≢false (sym h))
has_more (y ∷ ls) xs x h = more_by (y == x) (has ls x) (has (ls ++ xs) x) (has_more ls xs x) h

pub take_seam : (xs ys : List ℕ) → take (length xs) (xs ++ ys) ≡ xs
take_seam [] ys = refl
take_seam (x ∷ xs) ys = ap (λ zs. x ∷ zs) (take_seam xs ys)

no_object : {A : Type 0} (o : ℕ) → ◌≡◌ {A = Option ℕ} None (Some o) → A
no_object {A} o e = absurd (subst (λ (q : Option ℕ). elim q as (λ _. Type 0) [ None ↦ Unit {0} | Some z ↦ ⊥ ]) e tt)

live_by : (t : Bool) (o q : ℕ) (rest : Option ℕ) (there : Bool) → (rest ≡ Some o → there ≡ true) → (if t then Some q else rest) ≡ Some o → (if t then true else there) ≡ true
live_by true o q rest there f e = refl
live_by false o q rest there f e = f e

-- a local with an object is in scope
pub live_here : (x o : ℕ) (bs : List Binding) → bound x bs ≡ Some o → has (locals_of bs) x ≡ true
live_here x o [] e = no_object o e
live_here x o (b ∷ bs) e = live_by (b.local == x) o b.object (bound x bs) (has (locals_of bs) x) (live_here x o bs) e
