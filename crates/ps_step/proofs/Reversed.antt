-- A list whose last items are a stack's topmost ones.
use borrow.Rule.Slice.PartMut.{put_mid}
use Rattle.std.proofs.Common.{◌≡◌, ℕ, ◌+◌, ◌-◌, ◌<◌, ◌≤◌, List, refl, [], ◌∷◌, ◌++◌, length, reverse, set, get_or, take, drop, sym, ◌∙◌, ap, arith, length-drop, length-append}
use Rattle.std.proofs.lemmas.List.{take-append-drop, get_or-reverse, reverse-append, length-reverse, length-set, drop_at, take_at, take_more_set, reverse-reverse, take_all, drop_all, append-nil, drop-drop, drop-take, length-take-le}

-- without the n topmost items the first k are left
pub drop-reverse : {T : Type 0} (xs : List T) (k n : ℕ) → k + n ≡ length xs → drop n (reverse xs) ≡ reverse (take k xs)
drop-reverse xs k n h =
    let len : length (reverse (drop k xs)) ≡ n = length-reverse (drop k xs) ∙ length-drop k xs ∙ omega arith in
    ap (λ l. drop n (reverse l)) (sym (take-append-drop k xs))
    ∙ ap (drop n) (reverse-append (take k xs) (drop k xs))
    ∙ drop_at (reverse (drop k xs)) (reverse (take k xs)) n len

-- an item was written above the first k, and those above it cut off
pub reverse-take-set : {T : Type 0} (xs : List T) (k n : ℕ) (x : T) → k + n ≡ length xs → k < length xs
    → reverse (take (k + 1) (set xs k x)) ≡ x ∷ drop n (reverse xs)
reverse-take-set xs k n x h lt =
    ap reverse (take_more_set xs k x lt) ∙ reverse-append (take k xs) (x ∷ []) ∙ ap (λ l. x ∷ l) (sym (drop-reverse xs k n h))

-- the topmost item was replaced
pub reverse-set-last : {T : Type 0} (xs : List T) (k : ℕ) (x : T) → k + 1 ≡ length xs → reverse (set xs k x) ≡ x ∷ drop 1 (reverse xs)
reverse-set-last xs k x h =
    let whole : take (k + 1) (set xs k x) ≡ set xs k x = take_all (k + 1) (set xs k x) (omega (arith, length-set xs k x, h)) in
    ap reverse (sym whole) ∙ reverse-take-set xs k 1 x h (omega (arith, h))

-- the topmost item is the last one
pub last-of-reverse : {T : Type 0} (xs : List T) (k : ℕ) (x d : T) (rest : List T) → k + 1 ≡ length xs → reverse xs ≡ x ∷ rest → get_or xs k d ≡ x
last-of-reverse xs k x d rest h is =
    let place : k ≡ length xs - 1 - 0 = omega (arith, h) in
    ap (λ i. get_or xs i d) place ∙ sym (get_or-reverse xs 0 d (omega (arith, h))) ∙ ap (λ l. get_or l 0 d) is

-- the items behind the first k are the n topmost ones
pub drop-topmost : {T : Type 0} (xs : List T) (k n : ℕ) → k + n ≡ length xs → drop k xs ≡ reverse (take n (reverse xs))
drop-topmost xs k n h =
    let len : length (reverse (drop k xs)) ≡ n = length-reverse (drop k xs) ∙ length-drop k xs ∙ omega arith in
    let whole : reverse xs ≡ reverse (drop k xs) ++ reverse (take k xs) = ap reverse (sym (take-append-drop k xs)) ∙ reverse-append (take k xs) (drop k xs) in
    sym (ap (λ l. reverse (take n l)) whole ∙ ap reverse (take_at (reverse (drop k xs)) (reverse (take k xs)) n len) ∙ reverse-reverse (drop k xs))

-- the n topmost items are those behind the first k
pub take-reverse : {T : Type 0} (xs : List T) (k n : ℕ) → k + n ≡ length xs → take n (reverse xs) ≡ reverse (drop k xs)
take-reverse xs k n h = sym (ap reverse (drop-topmost xs k n h) ∙ reverse-reverse (take n (reverse xs)))

-- the n items under the topmost one
pub take-under : {T : Type 0} (xs : List T) (k n : ℕ) → (k + n) + 1 ≡ length xs → take n (drop k xs) ≡ reverse (take n (drop 1 (reverse xs)))
take-under xs k n h =
    let ys = take (k + n) xs in
    let len : length ys ≡ k + n = length-take-le (k + n) xs (omega arith) in
    sym (drop-take k n xs) ∙ drop-topmost ys k n (sym len) ∙ ap (λ l. reverse (take n l)) (sym (drop-reverse xs (k + n) 1 h))

-- the n topmost items, which are those from a on, of which the b topmost were put under the others
turned : {T : Type 0} (xs : List T) (a n b : ℕ) → a + n ≡ length xs → b ≤ n
    → reverse (take a xs ++ (drop (n - b) (drop a xs) ++ take (n - b) (drop a xs))) ≡ drop b (take n (reverse xs)) ++ take b (reverse xs) ++ drop n (reverse xs)
turned xs a n b h le =
    let m = drop a xs in
    let k = n - b in
    let lm : length m ≡ n = length-drop a xs ∙ omega arith in
    let split : k + b ≡ length m = omega (arith, lm) in
    let upper : drop b (take n (reverse xs)) ≡ reverse (take k m) = ap (drop b) (take-reverse xs a n h) ∙ drop-reverse m k b split in
    let lower : take b (reverse xs) ≡ reverse (drop k m) = take-reverse xs (a + k) b (omega (arith, lm)) ∙ ap reverse (sym (drop-drop k a xs)) in
    let below : drop n (reverse xs) ≡ reverse (take a xs) = drop-reverse xs a n h in
    reverse-append (take a xs) (drop k m ++ take k m)
    ∙ ap (λ l. l ++ reverse (take a xs)) (reverse-append (drop k m) (take k m))
    ∙ sym (rw (upper, lower, below) refl)

pub rolled : {T : Type 0} (xs ys : List T) (a k n b : ℕ) → a + n ≡ length xs → k ≡ n → b ≤ n
    → ys ≡ drop (length (take k (drop a xs)) - b) (take k (drop a xs)) ++ take (length (take k (drop a xs)) - b) (take k (drop a xs))
    → reverse (put_mid a k xs ys) ≡ drop b (take n (reverse xs)) ++ take b (reverse xs) ++ drop n (reverse xs)
rolled xs ys a k n b h e le is =
    let m = drop a xs in
    let lm : length m ≡ n = length-drop a xs ∙ omega arith in
    let whole : take k m ≡ m = take_all k m (omega (arith, lm, e)) in
    let none : drop k m ≡ [] = drop_all k m (omega (arith, lm, e)) in
    let long : length (take k m) - b ≡ n - b = ap (λ l. length l - b) whole ∙ ap (λ i. i - b) lm in
    let ys_is : ys ≡ drop (n - b) m ++ take (n - b) m = is ∙ ap (λ i. drop i (take k m) ++ take i (take k m)) long ∙ ap (λ l. drop (n - b) l ++ take (n - b) l) whole in
    ap (λ l. reverse (take a xs ++ (ys ++ l))) none
    ∙ ap (λ l. reverse (take a xs ++ l)) (append-nil ys ∙ ys_is)
    ∙ turned xs a n b h le

-- as many items are there as before
pub length-turned : {T : Type 0} (xs ys : List T) (a k n : ℕ) → a + n ≡ length xs → k ≡ n → length ys ≡ n → length (put_mid a k xs ys) ≡ length xs
length-turned xs ys a k n h e long =
    let low : length (take a xs) ≡ a = length-take-le a xs (omega arith) in
    let none : length (drop k (drop a xs)) ≡ 0 = length-drop k (drop a xs) ∙ ap (λ i. i - k) (length-drop a xs) ∙ omega arith in
    length-append (take a xs) (ys ++ drop k (drop a xs)) ∙ ap (λ i. length (take a xs) + i) (length-append ys (drop k (drop a xs))) ∙ omega (arith, low, none, long, h)

-- the n topmost items were put on top once more
pub copied : {T : Type 0} (xs : List T) (k n e : ℕ) → k + n ≡ length xs → e ≡ length xs
    → reverse (xs ++ take (e - k) (drop k xs)) ≡ take n (reverse xs) ++ reverse xs
copied xs k n e h whole =
    let all : take (e - k) (drop k xs) ≡ drop k xs = take_all (e - k) (drop k xs) (rw (length-drop k xs, whole) (omega arith)) in
    reverse-append xs (take (e - k) (drop k xs)) ∙ ap (λ l. reverse l ++ reverse xs) all ∙ ap (λ l. l ++ reverse xs) (sym (take-reverse xs k n h))
