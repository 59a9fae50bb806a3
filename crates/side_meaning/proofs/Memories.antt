-- What words that are put leave of a memory.
use Rattle.std.proofs.Common.{◌≡◌, ◌∙◌, inr, refl, sym, ap, subst, ℕ, ◌+◌, ◌%◌, ◌^◌, ◌≤◌, ◌<◌, nat_eq, Bool, true, false, if◌then◌else◌, List, [], ◌∷◌, length, Option, Some, None, option_map, IfOk, Result, Ok, Err, arith}
use Rattle.std.proofs.lemmas.Bool.Decides.{nat_tests}
use Rattle.ldb_words.specs.declared.kinds.Order.{Order}
use Rattle.ldb_words.specs.declared.kinds.Order.TheVariants.{Little, Big}
use Rattle.ldb_words.specs.declared.event.Outside.{Outside}
use Rattle.ldb_words.specs.Word.{sum_of}
use Rattle.machine_state.specs.declared.layout.TheConstants.{TEXT, DATA, STACK, CONTEXT}
use Rattle.machine_state.specs.Regions.{Regions, write_of, overlaid, or_else, or_outside, offset_in, bytes_of, with_text, with_data, with_stack, with_context}
use Rattle.machine_state.specs.Sound.{IsMemory}
use Rattle.machine_state.proofs.SoundMemory.{write_memory}
use Rattle.frame_bytes.specs.declared.frame.Space.TheVariants.{Memory}
use Rattle.ldb_words.specs.declared.kinds.Kind.TheVariants.{Word}
use Rattle.frame_bytes.specs.Bytes.{Bytes, stored, or_none}
use Rattle.table_points.specs.declared.row.Point.{Point}
use Rattle.break_plant.specs.Planted.{break_of}
use Rattle.debug_side.specs.Wrote.{or_same, word_put, words_put, passed}
use Rattle.debug_side.specs.Planting.{PutsWords, at_none, is_put, is_passed}
use Rattle.side_meaning.proofs.Resuming.{put_back, stored_is}

-- ---- it holds bytes still

same_memory : (r : Regions) (x : Result Regions Outside) → IsMemory r → IfOk x IsMemory → IsMemory (or_same r (or_none x))
same_memory r (Ok r') m h = h
same_memory r (Err e) m h = m

word_memory : (o : Order) (w at : ℕ) (r : Regions) → IsMemory r → IsMemory (word_put o w at r)
word_memory o w at r m = same_memory r (write_of o r at 4 w) m (write_memory o r at 4 w (inr (inr refl)) m)

pub words_memory : (o : Order) (w : ℕ) (ats : List ℕ) (r : Regions) → IsMemory r → IsMemory (words_put o w ats r)
words_memory o w [] r m = m
words_memory o w (at ∷ ats) r m = words_memory o w ats (word_put o w at r) (word_memory o w at r m)

some_is : {T : Type 0} {x y : T} → Some x ≡ Some y → x ≡ y
some_is e = cc

memory_by : (b c : Bytes) (x : Result Regions Outside) → IfOk x IsMemory → put_back b (or_none x) ≡ Some c → IsMemory c.regions
memory_by b c (Ok r) h e = subst IsMemory (ap (λ (z : Bytes). z.regions) (some_is e)) h
memory_by b c (Err f) h e = cc

stored_memory : (b c : Bytes) (at w : ℕ) → IsMemory b.regions → stored b Memory at Word w ≡ Some c → IsMemory c.regions
stored_memory b c at w m e = memory_by b c (write_of b.order b.regions at 4 w) (write_memory b.order b.regions at 4 w (inr (inr refl)) m) (sym (stored_is b at w) ∙ e)

-- the words of a step are put into it
pub puts_memory : (target : ℕ) (b d : Bytes) (ps kept : List Point) → IsMemory b.regions → PutsWords target b ps kept d → IsMemory d.regions
puts_memory target b d ps kept m at_none = m
puts_memory target b d ps kept m (is_passed {ps = qs} p w there differs rest) = puts_memory target b d qs kept m rest
puts_memory target b d ps kept m (is_put {c = c} {ps = qs} {kept = ks} p was put rest) = puts_memory target c d qs ks (stored_memory b c p.at (break_of target) m put) rest

-- ---- the text stays where a word is put behind it

put_behind : (b : Bool) (r r' : Regions) → r'.text_bytes ≡ r.text_bytes → (or_same r (or_none (if b then Ok r' else Err (record {})))).text_bytes ≡ r.text_bytes
put_behind true r r' e = e
put_behind false r r' e = refl

four_long : (o : Order) (v : ℕ) → length (bytes_of o 4 v) ≡ 4
four_long Little v = refl
four_long Big v = refl

abbrev laid : Regions → List ℕ → (a b c d : Option ℕ) → Option Regions
laid r ys a b c d = or_else (option_map (with_text r ys) a) (or_else (option_map (with_data r ys) b) (or_else (option_map (with_stack r ys) c) (option_map (with_context r ys) d)))

laid_behind : (at : ℕ) (r : Regions) (ys : List ℕ) (b c d : Option ℕ) → (or_same r (or_none (or_outside at 4 (laid r ys None b c d)))).text_bytes ≡ r.text_bytes
laid_behind at r ys (Some n) c d = put_behind (nat_eq (at % 4) 0) r (with_data r ys n) refl
laid_behind at r ys None (Some n) d = put_behind (nat_eq (at % 4) 0) r (with_stack r ys n) refl
laid_behind at r ys None None (Some n) = put_behind (nat_eq (at % 4) 0) r (with_context r ys n) refl
laid_behind at r ys None None None = refl

word_behind : (o : Order) (w at : ℕ) (r : Regions) → offset_in TEXT (length r.text_bytes) at 4 ≡ None → (word_put o w at r).text_bytes ≡ r.text_bytes
unfolding write_of overlaid
word_behind o w at r e =
    let ys : List ℕ = bytes_of o 4 w in
    let b : Option ℕ = offset_in DATA (length r.data_bytes) at (length ys) in
    let c : Option ℕ = offset_in STACK (length r.stack_bytes) at (length ys) in
    let d : Option ℕ = offset_in CONTEXT (length r.context_bytes) at (length ys) in
    ap (λ (a : Option ℕ). (or_same r (or_none (or_outside at 4 (laid r ys a b c d)))).text_bytes) (ap (offset_in TEXT (length r.text_bytes) at) (four_long o w) ∙ e)
    ∙ laid_behind at r ys b c d

behind_text : (size at : ℕ) → size ≤ 2 ^ 24 → TEXT + 2 ^ 24 ≤ at → offset_in TEXT size at 4 ≡ None
behind_text size at h k = grind (arith, nat_tests)

context_behind : (o : Order) (w offset : ℕ) (r : Regions) → IsMemory r → TEXT + 2 ^ 24 ≤ sum_of CONTEXT offset → (word_put o w (sum_of CONTEXT offset) r).text_bytes ≡ r.text_bytes
context_behind o w offset r m h = word_behind o w (sum_of CONTEXT offset) r (behind_text (length r.text_bytes) (sum_of CONTEXT offset) m.text_fits h)

pub passed_text : (context : ℕ) (at : Option ℕ) (o : Order) (r : Regions) → context ≡ CONTEXT → IsMemory r → (passed context at o r).text_bytes ≡ r.text_bytes
passed_text context None o r e m = refl
passed_text context (Some at) o r e m =
    let first : Regions = word_put o (sum_of at 4) (sum_of CONTEXT 136) r in
    ap (λ (c : ℕ). (passed c (Some at) o r).text_bytes) e
    ∙ (context_behind o (sum_of at 8) 140 first (word_memory o (sum_of at 4) (sum_of CONTEXT 136) r m) (omega arith) ∙ context_behind o (sum_of at 4) 136 r m (omega arith))

-- ---- the context block stays where a word is put before it

put_before : (b : Bool) (r r' : Regions) → r'.context_bytes ≡ r.context_bytes → (or_same r (or_none (if b then Ok r' else Err (record {})))).context_bytes ≡ r.context_bytes
put_before true r r' e = e
put_before false r r' e = refl

laid_before : (at : ℕ) (r : Regions) (ys : List ℕ) (a b c : Option ℕ) → (or_same r (or_none (or_outside at 4 (laid r ys a b c None)))).context_bytes ≡ r.context_bytes
laid_before at r ys (Some n) b c = put_before (nat_eq (at % 4) 0) r (with_text r ys n) refl
laid_before at r ys None (Some n) c = put_before (nat_eq (at % 4) 0) r (with_data r ys n) refl
laid_before at r ys None None (Some n) = put_before (nat_eq (at % 4) 0) r (with_stack r ys n) refl
laid_before at r ys None None None = refl

before_context : (size at : ℕ) → at < DATA → offset_in CONTEXT size at 4 ≡ None
before_context size at h = let k : at < CONTEXT = omega (arith, h) in grind (arith, nat_tests)

pub word_before : (o : Order) (w at : ℕ) (r : Regions) → at < DATA → (word_put o w at r).context_bytes ≡ r.context_bytes
unfolding write_of overlaid
word_before o w at r h =
    let ys : List ℕ = bytes_of o 4 w in
    let a : Option ℕ = offset_in TEXT (length r.text_bytes) at (length ys) in
    let b : Option ℕ = offset_in DATA (length r.data_bytes) at (length ys) in
    let c : Option ℕ = offset_in STACK (length r.stack_bytes) at (length ys) in
    ap (λ (x : Option ℕ). (or_same r (or_none (or_outside at 4 (laid r ys a b c x)))).context_bytes) (ap (offset_in CONTEXT (length r.context_bytes) at) (four_long o w) ∙ before_context (length r.context_bytes) at h)
    ∙ laid_before at r ys a b c
