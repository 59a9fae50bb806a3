-- `regs`: the words of the context block, one by one.
use Rattle.std.proofs.Common.{◌≡◌, ◌∙◌, refl, sym, ap, ℕ, zero, suc, ◌+◌, ◌-◌, ◌*◌, ◌%◌, ◌≤◌, ◌<◌, nat_eq, Bool, true, if◌then◌else◌, List, [], ◌∷◌, ◌++◌, codes, length, drop, Option, Some, None, option_map, Ok, Err, drop-drop, arith}
use Rattle.std.proofs.lemmas.Bool.Decides.{nat_tests}
use Rattle.ldb_words.specs.Word.{sum_of}
use Rattle.machine_state.specs.declared.layout.TheConstants.{TEXT, DATA, STACK, CONTEXT, CONTEXT_WORDS}
use Rattle.machine_state.specs.Regions.{Regions, read_of, held, readable, or_else, or_outside, bytes_from, offset_in, number_of, words_in}
use Rattle.machine_state.specs.Sound.{IsMemory}
use Rattle.frame_bytes.specs.Bytes.{Bytes, fetched, or_none}
use Rattle.break_plant.specs.Planted.{word_at}
use Rattle.ps_leaves.specs.Forms.{hex_text}
use Rattle.asking.specs.Lines.{line}
use Rattle.asking.specs.Lines as asked_lines
use Rattle.asking.specs.Raw as asked_raw
use Rattle.claims.specs.Side.{memory_of}
use Rattle.claims.specs.Lines as side_lines
use Rattle.asking_meaning.specs.Meant.{RegsAreMeant}

-- ---- a word of the context block

elsewhere : (base size at : ℕ) → base + size < at + 4 → offset_in base size at 4 ≡ None
elsewhere base size at h = grind (arith, nat_tests)

there : (base size at : ℕ) → base ≤ at → at + 4 ≤ base + size → offset_in base size at 4 ≡ Some (at - base)
there base size at h k = grind (arith, nat_tests)

word_is : (b : Bytes) (at : ℕ) → word_at b at ≡ or_none (or_outside at 4 (option_map (number_of b.order 4) (held b.regions at 4)))
unfolding fetched read_of
word_is b at = refl

held_by : (r : Regions) (t d s c : Option ℕ) (n : ℕ) → t ≡ None → d ≡ None → s ≡ None → c ≡ Some n
    → or_else (or_else (bytes_from r.text_bytes t) (or_else (bytes_from r.data_bytes d) (bytes_from r.stack_bytes s))) (bytes_from r.context_bytes c) ≡ Some (drop n r.context_bytes)
held_by r t d s c n et ed es ec = rw (et, ed, es, ec) refl

held_there : (r : Regions) (n : ℕ) → IsMemory r → n + 4 ≤ 144 → held r (CONTEXT + n) 4 ≡ Some (drop (CONTEXT + n - CONTEXT) r.context_bytes)
unfolding held readable
held_there r n m h =
    let size = m.statics.size_is in
    let stack = m.stack.size_is in
    let context = m.context.size_is in
    let fits = m.text_fits in
    held_by r (offset_in TEXT (length r.text_bytes) (CONTEXT + n) 4) (offset_in DATA (length r.data_bytes) (CONTEXT + n) 4) (offset_in STACK (length r.stack_bytes) (CONTEXT + n) 4)
    (offset_in CONTEXT (length r.context_bytes) (CONTEXT + n) 4) (CONTEXT + n - CONTEXT)
    (elsewhere TEXT (length r.text_bytes) (CONTEXT + n) (omega arith)) (elsewhere DATA (length r.data_bytes) (CONTEXT + n) (omega arith)) (elsewhere STACK (length r.stack_bytes) (CONTEXT + n) (omega arith))
    (there CONTEXT (length r.context_bytes) (CONTEXT + n) (omega arith) (omega arith))

aligned : (k : ℕ) → nat_eq ((CONTEXT + 4 * k) % 4) 0 ≡ true
aligned k = grind (arith, nat_tests)

if_aligned : (at x : ℕ) → nat_eq (at % 4) 0 ≡ true → or_none (or_outside at 4 (Some x)) ≡ Some x
if_aligned at x e = ap (λ (c : Bool). or_none (if c then Ok x else Err (record {}))) e

context_word : (b : Bytes) (k : ℕ) → IsMemory b.regions → k < 36 → word_at b (sum_of CONTEXT (4 * k)) ≡ Some (number_of b.order 4 (drop (4 * k) b.regions.context_bytes))
context_word b k m h =
    let n = 4 * k in
    let sum : sum_of CONTEXT n ≡ CONTEXT + n = omega arith in
    let back : CONTEXT + n - CONTEXT ≡ n = omega arith in
    ap (word_at b) sum
    ∙ (word_is b (CONTEXT + n)
    ∙ (ap (λ (x : Option (List ℕ)). or_none (or_outside (CONTEXT + n) 4 (option_map (number_of b.order 4) x))) (held_there b.regions n m (omega arith))
    ∙ (if_aligned (CONTEXT + n) (number_of b.order 4 (drop (CONTEXT + n - CONTEXT) b.regions.context_bytes)) (aligned k)
    ∙ ap (λ (i : ℕ). Some (number_of b.order 4 (drop i b.regions.context_bytes))) back)))

-- ---- all of them

dropped : (xs : List ℕ) (k : ℕ) → drop 4 (drop (4 * k) xs) ≡ drop (4 * suc k) xs
dropped xs k = drop-drop 4 (4 * k) xs ∙ ap (λ n. drop n xs) (omega arith)

words_are : (b : Bytes) (n k : ℕ) → IsMemory b.regions → k + n ≤ 36 → asked_raw.context_words b CONTEXT k n ≡ Some (words_in b.order n (drop (4 * k) b.regions.context_bytes))
words_are b zero k m h = refl
words_are b (suc n) k m h =
    ap (λ (w : Option ℕ). asked_raw.with_word w (asked_raw.context_words b CONTEXT (suc k) n)) (context_word b k m (omega arith))
    ∙ (ap (λ (ws : Option (List ℕ)). asked_raw.with_word (Some (number_of b.order 4 (drop (4 * k) b.regions.context_bytes))) ws) (words_are b n (suc k) m (omega arith))
    ∙ ap (λ (xs : List ℕ). Some (number_of b.order 4 (drop (4 * k) b.regions.context_bytes) ∷ words_in b.order n xs)) (sym (dropped b.regions.context_bytes k)))

same_words : (ws : List ℕ) → asked_lines.words_text ws ≡ side_lines.words_text ws
same_words [] = refl
same_words (w ∷ ws) = ap (λ text. codes " " ++ (hex_text 8 w ++ text)) (same_words ws)

pub regs_are_meant : RegsAreMeant
regs_are_meant a m =
    let b = memory_of a in
    ap (λ (ws : Option (List ℕ)). option_map (λ ws. line (codes "regs " ++ (asked_lines.target_text a.machine.target ++ asked_lines.words_text ws))) ws) (words_are b CONTEXT_WORDS 0 m (omega arith))
    ∙ ap (λ text. Some (line (codes "regs " ++ (side_lines.target_text a.machine.target ++ text)))) (same_words (words_in b.order CONTEXT_WORDS b.regions.context_bytes))
