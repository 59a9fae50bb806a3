-- Arrays of places.
use Rattle.std.proofs.Common.{◌≡◌, ◌∙◌, refl, sym, ap, ℕ, suc, ◌+◌, ◌-◌, ◌<◌, ◌%◌, ◌^◌, List, [], ◌∷◌, ◌++◌, take, drop, set, length, Option, Some, arith}
use Rattle.std.proofs.lemmas.Slice.{take-put_mid}
use borrow.Rule.Slice.PartMut.{put_mid}
use Rattle.std.proofs.lemmas.List.{append_assoc, take_more_set, length-set, length-drop, take_all}
use Rattle.ldb_words.specs.Word.{sum_of}
use Rattle.table_model.specs.Frames.{words_from, window_places}

pub window_is : (at : ℕ) (inner places : List (Option ℕ)) → length inner ≡ 32 → take 16 places ≡ take 8 inner ++ drop 24 inner → take 16 places ++ words_from 16 at ≡ window_places at inner
window_is at inner places size e = ap (λ l. l ++ words_from 16 at) e ∙ append_assoc (take 8 inner) (drop 24 inner) (words_from 16 at)

-- the outs are the ins of the inner frame
pub outs_are : (inner ys : List (Option ℕ)) → length inner ≡ 32 → ys ≡ take 8 (drop 24 inner) → take 16 (put_mid 8 8 inner ys) ≡ take 8 inner ++ drop 24 inner
outs_are inner ys size e =
    let last : length (drop 24 inner) ≡ 8 = length-drop 24 inner ∙ ap (λ n. n - 24) size in
    let all : ys ≡ drop 24 inner = e ∙ take_all 8 (drop 24 inner) (omega (arith, last)) in
    let count : length ys ≡ 8 = ap length all ∙ last in
    take-put_mid 8 8 inner ys 16 (omega (arith, count)) (omega (arith, size)) ∙ ap (λ l. take 8 inner ++ l) all

-- one more word
pub words_more : (places : List (Option ℕ)) (i word next : ℕ) (whole : List (Option ℕ)) → i < 32 → length places ≡ 32 → next ≡ sum_of word 4 → take i places ++ words_from (32 - i) word ≡ whole
    → take (i + 1) (set places i (Some word)) ++ words_from (32 - (i + 1)) next ≡ whole
words_more places i word next whole lt size step is =
    let n = 32 - (i + 1) in
    let here : i < length places = omega (arith, size) in
    let left : 32 - i ≡ suc n = omega arith in
    ap (λ l. l ++ words_from n next) (take_more_set places i (Some word) here)
    ∙ append_assoc (take i places) (Some word ∷ []) (words_from n next)
    ∙ ap (λ w. take i places ++ Some word ∷ words_from n w) step
    ∙ sym (ap (λ k. take i places ++ words_from k word) left)
    ∙ is

pub size_kept : (places : List (Option ℕ)) (i : ℕ) (p : Option ℕ) → length places ≡ 32 → length (set places i p) ≡ 32
size_kept places i p e = length-set places i p ∙ e
