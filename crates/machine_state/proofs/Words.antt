-- Words as bytes, one more at the front.
use Rattle.std.proofs.Common.{◌≡◌, ◌≤◌, ◌<◌, ◌*◌, ◌++◌, ◌∙◌, sym, ap, refl, length, drop, take, get_or, ℕ, suc, ◌-◌, List, [], ◌∷◌, arith, append_assoc, length-append, length-drop}
use Rattle.std.proofs.lemmas.Grind.{common_steps}
use Rattle.std.proofs.lemmas.List.{drop-drop}
use Rattle.ldb_words.specs.declared.kinds.Order.{Order}
use Rattle.ldb_words.specs.declared.kinds.Order.TheVariants.{Little, Big}
use Rattle.machine_state.specs.Regions.{number_of, bytes_of, words_bytes, words_in}
use borrow.Rule.Slice.PartMut.{put_mid}

pub length-bytes_of : (order : Order) (w : ℕ) → length (bytes_of order 4 w) ≡ 4
length-bytes_of Little w = refl
length-bytes_of Big w = refl

all_taken : (n : ℕ) (xs : List ℕ) → length xs ≤ n → take n xs ≡ xs
all_taken n xs h = grind (arith, common_steps)

-- a part put back behind its first four
put_back : (nb nw : List ℕ) → put_mid 4 (length nb - 4) nb nw ≡ take 4 nb ++ nw
put_back nb nw = grind (arith, common_steps)

pub take_four : (order : Order) (w : ℕ) (rest : List ℕ) → take 4 (bytes_of order 4 w ++ rest) ≡ bytes_of order 4 w
take_four Little w rest = refl
take_four Big w rest = refl

pub drop_four : (order : Order) (w : ℕ) (rest : List ℕ) → drop 4 (bytes_of order 4 w ++ rest) ≡ rest
drop_four Little w rest = refl
drop_four Big w rest = refl

pub dropped_twice : (n : ℕ) (xs : List ℕ) → drop (4 * n) (drop 4 xs) ≡ drop (4 * suc n) xs
dropped_twice n xs = drop-drop (4 * n) 4 xs ∙ ap (λ k. drop k xs) (omega arith)

pub words_written : (order : Order) (words bytes nb nw : List ℕ) → 1 ≤ length words → 4 * length words ≤ length bytes
    → nb ≡ bytes_of order 4 (get_or words 0 0) ++ drop 4 bytes
    → nw ≡ words_bytes order (take (length words - 1) (drop 1 words)) ++ drop (4 * length (take (length words - 1) (drop 1 words))) (take (length nb - 4) (drop 4 nb))
    → put_mid 4 (length nb - 4) nb nw ≡ words_bytes order words ++ drop (4 * length words) bytes
words_written order [] bytes nb nw some fits e f = absurd (omega arith)
words_written order (w ∷ ws) bytes nb nw some fits e f =
    let rest : take (length (w ∷ ws) - 1) ws ≡ ws = all_taken (length (w ∷ ws) - 1) ws (omega arith) in
    let first : take 4 nb ≡ bytes_of order 4 w = ap (take 4) e ∙ take_four order w (drop 4 bytes) in
    let behind : drop 4 nb ≡ drop 4 bytes = ap (drop 4) e ∙ drop_four order w (drop 4 bytes) in
    let whole : take (length nb - 4) (drop 4 nb) ≡ drop 4 bytes = all_taken (length nb - 4) (drop 4 nb) (omega (arith, length-drop 4 nb)) ∙ behind in
    let after : nw ≡ words_bytes order ws ++ drop (4 * length ws) (drop 4 bytes) = f ∙ rw (rest, whole) refl in
    put_back nb nw
    ∙ (ap (λ xs. xs ++ nw) first
    ∙ (ap (λ xs. bytes_of order 4 w ++ xs) (after ∙ ap (λ xs. words_bytes order ws ++ xs) (dropped_twice (length ws) bytes))
    ∙ sym (append_assoc (bytes_of order 4 w) (words_bytes order ws) (drop (4 * suc (length ws)) bytes))))

pub words_read : (order : Order) (xs bytes : List ℕ)
    → ((k : ℕ) → k < length xs → get_or xs k 0 ≡ number_of order 4 (drop (4 * k) bytes)) → xs ≡ words_in order (length xs) bytes
words_read order [] bytes at = refl
words_read order (x ∷ xs) bytes at =
    let first : x ≡ number_of order 4 bytes = at 0 (omega arith) in
    let rest : xs ≡ words_in order (length xs) (drop 4 bytes) =
    words_read order xs (drop 4 bytes) (λ k h. at (suc k) (omega arith) ∙ ap (number_of order 4) (sym (dropped_twice k bytes))) in
    ap (λ y. y ∷ xs) first ∙ ap (λ ys. number_of order 4 bytes ∷ ys) rest

pub length_words_bytes : (order : Order) (ws : List ℕ) → length (words_bytes order ws) ≡ 4 * length ws
length_words_bytes order [] = refl
length_words_bytes order (w ∷ ws) =
    omega (
      arith,
      length-append (bytes_of order 4 w) (words_bytes order ws),
      length-bytes_of order w,
      length_words_bytes order ws,
    )
