-- Words that stand in the text, as a fetch reads them.
use Rattle.std.proofs.Common.{◌≡◌, ◌∙◌, sym, ap, ℕ, zero, suc, ◌+◌, ◌*◌, ◌%◌, ◌^◌, ◌<◌, ◌≤◌, List, [], ◌∷◌, ◌++◌, Some, length, drop, get_or, Ok, arith}
use Rattle.std.proofs.lemmas.Bool.Decides.{nat_tests}
use Rattle.byteorder.specs.Numbers.{big_number-reads_back, little_number-reads_back}
use Rattle.ldb_words.specs.declared.kinds.Order.{Order}
use Rattle.ldb_words.specs.declared.kinds.Order.TheVariants.{Little, Big}
use Rattle.machine_state.specs.declared.layout.TheConstants.{TEXT}
use Rattle.machine_state.specs.Regions.{Regions, number_of, bytes_of, words_bytes, offset_in, fetch_of}
use Rattle.machine_state.proofs.Words.{drop_four, dropped_twice, length_words_bytes}

reads_back : (order : Order) (w : ℕ) (rest : List ℕ) → w < 256 ^ 4 → number_of order 4 (bytes_of order 4 w ++ rest) ≡ w
reads_back Little w rest h = little_number-reads_back 4 w rest h
reads_back Big w rest h = big_number-reads_back 4 w rest h

pub number_of-words : (order : Order) (ws : List ℕ) (k : ℕ) → k < length ws → ((i : ℕ) → get_or ws i 0 < 2 ^ 32)
    → number_of order 4 (drop (4 * k) (words_bytes order ws)) ≡ get_or ws k 0
number_of-words order [] k h fit = absurd (omega arith)
number_of-words order (w ∷ ws) zero h fit = reads_back order w (words_bytes order ws) (fit 0)
number_of-words order (w ∷ ws) (suc k) h fit =
    ap (number_of order 4) (sym (dropped_twice k (bytes_of order 4 w ++ words_bytes order ws)) ∙ ap (drop (4 * k)) (drop_four order w (words_bytes order ws)))
    ∙ number_of-words order ws k (omega arith) (λ i. fit (suc i))

placed : (size k : ℕ) → 4 * k + 4 ≤ size → offset_in TEXT size (TEXT + 4 * k) 4 ≡ Some (4 * k)
placed size k h = grind (arith, nat_tests)

aligned : (k : ℕ) → (TEXT + 4 * k) % 4 ≡ 0
aligned k = omega arith

-- a fetch of the word at place k of the text
pub fetch_of-words : (order : Order) (r : Regions) (ws : List ℕ) (k : ℕ) → r.text_bytes ≡ words_bytes order ws → k < length ws
    → ((i : ℕ) → get_or ws i 0 < 2 ^ 32) → fetch_of order r (TEXT + 4 * k) ≡ Ok (get_or ws k 0)
unfolding fetch_of
fetch_of-words order r ws k text h fit =
    rw (text, placed (length (words_bytes order ws)) k (omega (arith, length_words_bytes order ws)), aligned k)
    (ap Ok (number_of-words order ws k h fit))
