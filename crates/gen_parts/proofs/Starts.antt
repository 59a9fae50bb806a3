-- Static objects leaf by leaf.
use Rattle.std.proofs.Common.{◌≡◌, ℕ, ◌+◌, ◌-◌, List, ◌++◌, ◌∷◌, ◌<◌, suc, drop, get_or, length, sym, ap, ap₂, ◌∙◌, append_assoc, length-append, arith}
use Rattle.std.proofs.Math.Seq.{drop-cons}
use Rattle.std.proofs.lemmas.List.{length-replicate}
use Rattle.ldb_words.specs.declared.kinds.Order.{Order}
use Rattle.machine_state.specs.Regions.{zeros}
use Rattle.obj_file.specs.declared.object.Use.{Use}
use Rattle.slot_ir.specs.declared.code.SlotStart.{SlotStart}
use Rattle.gen_parts.specs.Statics.{leaf_bytes, value_uses, start_bytes, start_uses}

zeros_length : (n : ℕ) → length (zeros n) ≡ n
unfolding zeros
zeros_length n = length-replicate n 0

pub filled_length : (bytes : List ℕ) (n : ℕ) → length (bytes ++ zeros n) ≡ length bytes + n
filled_length bytes n = length-append bytes (zeros n) ∙ ap (λ m. length bytes + m) (zeros_length n)

longer : (bytes leaf : List ℕ) (n : ℕ) → length (bytes ++ zeros n ++ leaf) ≡ length bytes + n + length leaf
longer bytes leaf n = length-append (bytes ++ zeros n) leaf ∙ ap (λ m. m + length leaf) (filled_length bytes n)

pub bytes_step : (order : Order) (before after : List ℕ) (s : SlotStart) (ss : List SlotStart) → after ≡ before ++ zeros (s.at - length before) ++ leaf_bytes order s
    → after ++ start_bytes order (length after) ss ≡ before ++ start_bytes order (length before) (s ∷ ss)
bytes_step order before after s ss e =
    ap (λ l. l ++ start_bytes order (length l) ss) e
    ∙ (ap (λ n. (before ++ zeros (s.at - length before) ++ leaf_bytes order s) ++ start_bytes order n ss) (longer before (leaf_bytes order s) (s.at - length before))
    ∙ (append_assoc (before ++ zeros (s.at - length before)) (leaf_bytes order s) _
    ∙ (append_assoc before (zeros (s.at - length before)) _ ∙ ap (λ l. before ++ l) (sym (append_assoc (zeros (s.at - length before)) (leaf_bytes order s) _)))))

pub uses_step : (order : Order) (objects n : ℕ) (before after : List ℕ) (uses uses₁ : List Use) (s : SlotStart) (ss : List SlotStart) → after ≡ before ++ zeros (s.at - length before) ++ leaf_bytes order s
    → uses₁ ≡ uses ++ value_uses objects (n + (length before + (s.at - length before))) s.value
    → uses₁ ++ start_uses order objects n (length after) ss ≡ uses ++ start_uses order objects n (length before) (s ∷ ss)
uses_step order objects n before after uses uses₁ s ss e u =
    ap₂ (λ l m. l ++ start_uses order objects n m ss) u (ap length e ∙ longer before (leaf_bytes order s) (s.at - length before))
    ∙ append_assoc uses _ _

item_from : (given starts : List SlotStart) (i : ℕ) (d : SlotStart) → given ≡ starts → i < length given → get_or given i d ∷ drop (i + 1) starts ≡ drop i starts
item_from given starts i d same h =
    let next : suc i ≡ i + 1 = omega arith in
    ap (λ l. get_or given i d ∷ drop (i + 1) l) (sym same)
    ∙ (sym (drop-cons given i d h ∙ ap (λ j. get_or given i d ∷ drop j given) next) ∙ ap (λ l. drop i l) same)

pub bytes_loop : (order : Order) (before after : List ℕ) (given starts : List SlotStart) (i : ℕ) (d : SlotStart) → given ≡ starts → i < length given
    → after ≡ before ++ zeros ((get_or given i d).at - length before) ++ leaf_bytes order (get_or given i d)
    → after ++ start_bytes order (length after) (drop (i + 1) starts) ≡ before ++ start_bytes order (length before) (drop i starts)
bytes_loop order before after given starts i d same h e =
    bytes_step order before after (get_or given i d) (drop (i + 1) starts) e ∙ ap (λ l. before ++ start_bytes order (length before) l) (item_from given starts i d same h)

pub uses_loop : (order : Order) (objects n : ℕ) (before after : List ℕ) (uses uses₁ : List Use) (given starts : List SlotStart) (i : ℕ) (d : SlotStart) → given ≡ starts → i < length given
    → after ≡ before ++ zeros ((get_or given i d).at - length before) ++ leaf_bytes order (get_or given i d)
    → uses₁ ≡ uses ++ value_uses objects (n + (length before + ((get_or given i d).at - length before))) (get_or given i d).value
    → uses₁ ++ start_uses order objects n (length after) (drop (i + 1) starts) ≡ uses ++ start_uses order objects n (length before) (drop i starts)
uses_loop order objects n before after uses uses₁ given starts i d same h e u =
    uses_step order objects n before after uses uses₁ (get_or given i d) (drop (i + 1) starts) e u ∙ ap (λ l. uses ++ start_uses order objects n (length before) l) (item_from given starts i d same h)
