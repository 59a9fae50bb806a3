-- Memory that holds bytes: what is read of it fits, and what may be written into it leaves it so.
use Rattle.std.proofs.Common.{◌≡◌, ◌∙◌, inl, inr, refl, ap, subst, ℕ, zero, suc, ◌+◌, ◌-◌, ◌*◌, ◌%◌, ◌^◌, ◌≤◌, ◌<◌, nat_eq, nat_le, ◌&&◌, cond, Bool, true, false, if◌then◌else◌, List, [], ◌∷◌, ◌++◌, length, take, drop, get_or, replicate, Option, Some, None, IfSome, IfOk, option_map, Result, Ok, Err, arith, length-append, lit<}
use Rattle.std.specs.Prelude.{ok_or}
use Rattle.std.proofs.lemmas.Grind.{common_steps}
use Rattle.std.proofs.lemmas.Bool.Decides.{nat_tests}
use Rattle.ldb_words.specs.declared.kinds.Order.{Order}
use Rattle.ldb_words.specs.declared.kinds.Order.TheVariants.{Little, Big}
use Rattle.ldb_words.specs.declared.event.Outside.{Outside}
use Rattle.ldb_words.specs.declared.event.FaultKind.{FaultKind}
use Rattle.ldb_words.specs.declared.event.FaultKind.TheVariants.{Align, Outside as OutsideFault}
use Rattle.machine_state.specs.declared.layout.TheConstants.{TEXT, DATA, DATA_SIZE, STACK, STACK_SIZE, CONTEXT, CONTEXT_SIZE}
use Rattle.machine_state.specs.Regions.{Regions, zeros, first_regions, read_of, write_of, load_of, fetch_of, store_of, written, held, readable, writable, overlaid, overwritten, or_else, bytes_from, or_outside, if_aligned, number_in, offset_in, number_of, bytes_of, with_text, with_data, with_stack, with_context, saved_words, words_bytes, words_in, store_words_of, load_words_of, words_from}
use Rattle.machine_state.specs.Sound.{AllBelow, AreBytes, IsRegion, IsMemory, IsWidth}
use Rattle.machine_state.proofs.Words.{length_words_bytes}

-- ---- lists of small numbers

pub below_drop : (bound n : ℕ) (xs : List ℕ) → AllBelow bound xs → AllBelow bound (drop n xs)
below_drop bound zero xs h = h
below_drop bound (suc n) [] h = tt
below_drop bound (suc n) (x ∷ xs) h = below_drop bound n xs h.1

pub below_take : (bound n : ℕ) (xs : List ℕ) → AllBelow bound xs → AllBelow bound (take n xs)
below_take bound zero xs h = tt
below_take bound (suc n) [] h = tt
below_take bound (suc n) (x ∷ xs) h = (h.0, below_take bound n xs h.1)

pub below_append : (bound : ℕ) (xs ys : List ℕ) → AllBelow bound xs → AllBelow bound ys → AllBelow bound (xs ++ ys)
below_append bound [] ys h k = k
below_append bound (x ∷ xs) ys h k = (h.0, below_append bound xs ys h.1 k)

pub below_index : (bound : ℕ) (xs : List ℕ) (i : ℕ) → 0 < bound → AllBelow bound xs → get_or xs i 0 < bound
below_index bound [] i p h = p
below_index bound (x ∷ xs) zero p h = h.0
below_index bound (x ∷ xs) (suc i) p h = below_index bound xs i p h.1

pub below_zeros : (bound n : ℕ) → 0 < bound → AllBelow bound (replicate n 0)
below_zeros bound zero p = tt
below_zeros bound (suc n) p = (p, below_zeros bound n p)

pub bytes_index : (xs : List ℕ) (i : ℕ) → AreBytes xs → get_or xs i 0 < 256
bytes_index xs i h = below_index 256 xs i (lit< tt) h

-- ---- numbers as bytes

pub one_byte : (o : Order) (xs : List ℕ) → AreBytes xs → number_of o 1 xs < 256
one_byte Little xs h = omega (arith, bytes_index xs 0 h)
one_byte Big xs h = omega (arith, bytes_index xs 0 h)

two_bytes : (o : Order) (xs : List ℕ) → AreBytes xs → number_of o 2 xs < 2 ^ 16
two_bytes Little xs h = omega (arith, bytes_index xs 0 h, bytes_index xs 1 h)
two_bytes Big xs h = omega (arith, bytes_index xs 0 h, bytes_index xs 1 h)

pub four_bytes : (o : Order) (xs : List ℕ) → AreBytes xs → number_of o 4 xs < 2 ^ 32
four_bytes Little xs h = omega (arith, bytes_index xs 0 h, bytes_index xs 1 h, bytes_index xs 2 h, bytes_index xs 3 h)
four_bytes Big xs h = omega (arith, bytes_index xs 0 h, bytes_index xs 1 h, bytes_index xs 2 h, bytes_index xs 3 h)

pub bytes_of_one : (o : Order) (v : ℕ) → AreBytes (bytes_of o 1 v)
bytes_of_one Little v = (omega arith, tt)
bytes_of_one Big v = (omega arith, tt)

bytes_of_two : (o : Order) (v : ℕ) → AreBytes (bytes_of o 2 v)
bytes_of_two Little v = (omega arith, (omega arith, tt))
bytes_of_two Big v = (omega arith, (omega arith, tt))

pub bytes_of_four : (o : Order) (v : ℕ) → AreBytes (bytes_of o 4 v)
bytes_of_four Little v = (omega arith, (omega arith, (omega arith, (omega arith, tt))))
bytes_of_four Big v = (omega arith, (omega arith, (omega arith, (omega arith, tt))))

pub bytes_of_width : (o : Order) (width v : ℕ) → IsWidth width → AreBytes (bytes_of o width v)
bytes_of_width o width v (inl e) = rw e (bytes_of_one o v)
bytes_of_width o width v (inr (inl e)) = rw e (bytes_of_two o v)
bytes_of_width o width v (inr (inr e)) = rw e (bytes_of_four o v)

pub words_are_bytes : (o : Order) (ws : List ℕ) → AreBytes (words_bytes o ws)
words_are_bytes o [] = tt
words_are_bytes o (w ∷ ws) = below_append 256 (bytes_of o 4 w) (words_bytes o ws) (bytes_of_four o w) (words_are_bytes o ws)

pub words_fit : (o : Order) (n : ℕ) (xs : List ℕ) → AreBytes xs → AllBelow (2 ^ 32) (words_in o n xs)
words_fit o zero xs h = tt
words_fit o (suc n) xs h = (four_bytes o xs h, words_fit o n (drop 4 xs) (below_drop 256 4 xs h))

pub length_words_in : (o : Order) (n : ℕ) (xs : List ℕ) → length (words_in o n xs) ≡ n
length_words_in o zero xs = refl
length_words_in o (suc n) xs = ap suc (length_words_in o n (drop 4 xs))

-- ---- what is read

record BytesIn (o : Option (List ℕ)) : Type 0 where
  is : (xs : List ℕ) → o ≡ Some xs → AreBytes xs

in_else : (o p : Option (List ℕ)) → BytesIn o → BytesIn p → BytesIn (or_else o p)
in_else None p h k = k
in_else (Some xs) p h k = h

in_from : (xs : List ℕ) (o : Option ℕ) → AreBytes xs → BytesIn (bytes_from xs o)
in_from xs None h = record { is = λ (ys : List ℕ) (e : None ≡ Some ys). cc }
in_from xs (Some n) h = record { is = λ (ys : List ℕ) (e : Some (drop n xs) ≡ Some ys). let same : drop n xs ≡ ys = cc in subst AreBytes same (below_drop 256 n xs h) }

module _ {r : Regions} (h : IsMemory r) where
  readable_bytes : (at width : ℕ) → BytesIn (readable r at width)
  unfolding readable
  readable_bytes at width = in_else _ _ (in_from r.text_bytes _ h.text) (in_else _ _ (in_from r.data_bytes _ h.statics.each) (in_from r.stack_bytes _ h.stack.each))

  held_bytes : (at width : ℕ) → BytesIn (held r at width)
  unfolding held
  held_bytes at width = in_else _ _ (readable_bytes at width) (in_from r.context_bytes _ h.context.each)

  writable_bytes : (at width : ℕ) → BytesIn (writable r at width)
  unfolding writable
  writable_bytes at width = in_else _ _ (in_from r.data_bytes _ h.statics.each) (in_from r.stack_bytes _ h.stack.each)

abbrev nothing_there : Outside
nothing_there = record {}

if_ok : (b : Bool) (x v : ℕ) (P : ℕ → Type 0) → P x → (if b then Ok x else Err nothing_there) ≡ Ok v → P v
if_ok true x v P h e = let same : x ≡ v = cc in subst P same h
if_ok false x v P h e = cc

read_by : (at width v : ℕ) (f : List ℕ → ℕ) (P : ℕ → Type 0) (o : Option (List ℕ)) → BytesIn o → ((xs : List ℕ) → AreBytes xs → P (f xs))
    → or_outside at width (option_map f o) ≡ Ok v → P v
read_by at width v f P None h k e = cc
read_by at width v f P (Some xs) h k e = if_ok (nat_eq (at % width) 0) (f xs) v P (k xs (h.is xs refl)) e

-- what the nub reads
pub read_byte : (o : Order) (r : Regions) (at v : ℕ) → IsMemory r → read_of o r at 1 ≡ Ok v → v < 256
unfolding read_of
read_byte o r at v h e = read_by at 1 v (number_of o 1) (λ (n : ℕ). n < 256) (held r at 1) (held_bytes h at 1) (one_byte o) e

pub read_word : (o : Order) (r : Regions) (at v : ℕ) → IsMemory r → read_of o r at 4 ≡ Ok v → v < 2 ^ 32
unfolding read_of
read_word o r at v h e = read_by at 4 v (number_of o 4) (λ (n : ℕ). n < 2 ^ 32) (held r at 4) (held_bytes h at 4) (four_bytes o) e

-- the fact of what was loaded, if something was
abbrev pub LoadedBelow : ℕ → Result ℕ FaultKind → Type 0
LoadedBelow bound (Ok v) = v < bound
LoadedBelow bound (Err kind) = Unit {0}

aligned_below : (b : Bool) (bound v : ℕ) → v < bound → LoadedBelow bound (cond b (Ok v) (Err Align))
aligned_below true bound v h = h
aligned_below false bound v h = tt

load_by : (o : Order) (at width bound : ℕ) (xs : Option (List ℕ)) → BytesIn xs → ((ys : List ℕ) → AreBytes ys → number_of o width ys < bound)
    → LoadedBelow bound (if_aligned at width (number_in o width xs))
load_by o at width bound None h k = tt
load_by o at width bound (Some ys) h k = aligned_below (nat_eq (at % width) 0) bound (number_of o width ys) (k ys (h.is ys refl))

-- what the program loads
pub load_one : (o : Order) (r : Regions) (at : ℕ) → IsMemory r → LoadedBelow 256 (load_of o r at 1)
unfolding load_of
load_one o r at h = load_by o at 1 256 (readable r at 1) (readable_bytes h at 1) (one_byte o)

pub load_two : (o : Order) (r : Regions) (at : ℕ) → IsMemory r → LoadedBelow (2 ^ 16) (load_of o r at 2)
unfolding load_of
load_two o r at h = load_by o at 2 (2 ^ 16) (readable r at 2) (readable_bytes h at 2) (two_bytes o)

pub load_four : (o : Order) (r : Regions) (at : ℕ) → IsMemory r → LoadedBelow (2 ^ 32) (load_of o r at 4)
unfolding load_of
load_four o r at h = load_by o at 4 (2 ^ 32) (readable r at 4) (readable_bytes h at 4) (four_bytes o)

text_from : (r : Regions) (at : ℕ) → IsMemory r → BytesIn (bytes_from r.text_bytes (offset_in TEXT (length r.text_bytes) at 4))
text_from r at h = in_from r.text_bytes _ h.text

pub fetch_fits : (o : Order) (r : Regions) (at : ℕ) → IsMemory r → LoadedBelow (2 ^ 32) (fetch_of o r at)
unfolding fetch_of
fetch_fits o r at h = load_by o at 4 (2 ^ 32) _ (text_from r at h) (four_bytes o)

-- words that are loaded one after another
abbrev pub WordsFit : ℕ → Result (List ℕ) FaultKind → Type 0
WordsFit n (Ok ws) = (length ws ≡ n) × AllBelow (2 ^ 32) ws
WordsFit n (Err kind) = Unit {0}

aligned_words : (b : Bool) (n : ℕ) (ws : List ℕ) → length ws ≡ n → AllBelow (2 ^ 32) ws → WordsFit n (cond b (Ok ws) (Err Align))
aligned_words true n ws e h = (e, h)
aligned_words false n ws e h = tt

words_by : (o : Order) (at n : ℕ) (xs : Option (List ℕ)) → BytesIn xs → WordsFit n (if_aligned at 4 (words_from o n xs))
words_by o at n None h = tt
words_by o at n (Some ys) h = aligned_words (nat_eq (at % 4) 0) n (words_in o n ys) (length_words_in o n ys) (words_fit o n ys (h.is ys refl))

pub load_words_fit : (o : Order) (r : Regions) (at n : ℕ) → IsMemory r → WordsFit n (load_words_of o r at n)
unfolding load_words_of
load_words_fit o r at n h = words_by o at n (writable r at (4 * n)) (writable_bytes h at (4 * n))

-- ---- what is written

length-overwritten : (xs : List ℕ) (offset : ℕ) (ys : List ℕ) → offset + length ys ≤ length xs → length (overwritten xs offset ys) ≡ length xs
unfolding overwritten
length-overwritten xs offset ys fits = grind (arith, common_steps)

pub below_over : (bound : ℕ) (xs ys : List ℕ) (n : ℕ) → AllBelow bound xs → AllBelow bound ys → AllBelow bound (overwritten xs n ys)
unfolding overwritten
below_over bound xs ys n h k = below_append bound (take n xs) (ys ++ drop (n + length ys) xs) (below_take bound n xs h) (below_append bound ys (drop (n + length ys) xs) k (below_drop bound (n + length ys) xs h))

region_over : (size n : ℕ) (xs ys : List ℕ) → IsRegion size xs → AreBytes ys → n + length ys ≤ length xs → IsRegion size (overwritten xs n ys)
region_over size n xs ys h k fits = record { size_is = length-overwritten xs n ys fits ∙ h.size_is; each = below_over 256 xs ys n h.each k }

offset_fits : (base size at width : ℕ) → IfSome (offset_in base size at width) (λ o. o + width ≤ size)
offset_fits base size at width =
    elim (nat_le base at && nat_le (at + width) (base + size)) as (λ b. (nat_le base at && nat_le (at + width) (base + size)) ≡ b → IfSome (cond b (Some (at - base)) None) (λ o. o + width ≤ size)) [
      | true ↦ λ e. grind (arith, nat_tests)
      | false ↦ λ e. tt
    ] refl

-- what an option of regions holds
abbrev MemoryIn : Option Regions → Type 0
MemoryIn o = IfSome o IsMemory

memory_else : (o p : Option Regions) → MemoryIn o → MemoryIn p → MemoryIn (or_else o p)
memory_else None p h k = k
memory_else (Some r) p h k = h

memory_map : (f : ℕ → Regions) (P : ℕ → Type 0) (o : Option ℕ) → IfSome o P → ((n : ℕ) → P n → IsMemory (f n)) → MemoryIn (option_map f o)
memory_map f P None p h = tt
memory_map f P (Some n) p h = h n p

module _ {r : Regions} (h : IsMemory r) (ys : List ℕ) (k : AreBytes ys) where
  text_written : (n : ℕ) → n + length ys ≤ length r.text_bytes → IsMemory (with_text r ys n)
  text_written n fits = record {
    text = below_over 256 r.text_bytes ys n h.text k;
    text_fits = rw (length-overwritten r.text_bytes n ys fits) h.text_fits;
    statics = h.statics;
    stack = h.stack;
    context = h.context;
  }

  data_written : (n : ℕ) → n + length ys ≤ length r.data_bytes → IsMemory (with_data r ys n)
  data_written n fits = record { text = h.text; text_fits = h.text_fits; statics = region_over DATA_SIZE n r.data_bytes ys h.statics k fits; stack = h.stack; context = h.context }

  stack_written : (n : ℕ) → n + length ys ≤ length r.stack_bytes → IsMemory (with_stack r ys n)
  stack_written n fits = record { text = h.text; text_fits = h.text_fits; statics = h.statics; stack = region_over STACK_SIZE n r.stack_bytes ys h.stack k fits; context = h.context }

  context_written : (n : ℕ) → n + length ys ≤ length r.context_bytes → IsMemory (with_context r ys n)
  context_written n fits = record { text = h.text; text_fits = h.text_fits; statics = h.statics; stack = h.stack; context = region_over CONTEXT_SIZE n r.context_bytes ys h.context k fits }

  data_map : (at : ℕ) → MemoryIn (option_map (with_data r ys) (offset_in DATA (length r.data_bytes) at (length ys)))
  data_map at = memory_map (with_data r ys) (λ (n : ℕ). n + length ys ≤ length r.data_bytes) _ (offset_fits DATA (length r.data_bytes) at (length ys)) data_written

  stack_map : (at : ℕ) → MemoryIn (option_map (with_stack r ys) (offset_in STACK (length r.stack_bytes) at (length ys)))
  stack_map at = memory_map (with_stack r ys) (λ (n : ℕ). n + length ys ≤ length r.stack_bytes) _ (offset_fits STACK (length r.stack_bytes) at (length ys)) stack_written

  overlaid_memory : (at : ℕ) → MemoryIn (overlaid r at ys)
  unfolding overlaid
  overlaid_memory at =
      memory_else _ _ (memory_map (with_text r ys) (λ (n : ℕ). n + length ys ≤ length r.text_bytes) _ (offset_fits TEXT (length r.text_bytes) at (length ys)) text_written)
      (memory_else _ _ (data_map at)
      (memory_else _ _ (stack_map at)
      (memory_map (with_context r ys) (λ (n : ℕ). n + length ys ≤ length r.context_bytes) _ (offset_fits CONTEXT (length r.context_bytes) at (length ys)) context_written)))

  or_fault : (o : Option Regions) → MemoryIn o → IfOk (ok_or o OutsideFault) IsMemory
  or_fault None m = tt
  or_fault (Some x) m = m

  pub written_memory : (at : ℕ) → IfOk (written r at ys) IsMemory
  unfolding written
  written_memory at = or_fault _ (memory_else _ _ (data_map at) (stack_map at))

outside_memory : (b : Bool) (x : Regions) → IsMemory x → IfOk (if b then Ok x else Err nothing_there) IsMemory
outside_memory true x h = h
outside_memory false x h = tt

write_by : (at width : ℕ) (o : Option Regions) → MemoryIn o → IfOk (or_outside at width o) IsMemory
write_by at width None h = tt
write_by at width (Some x) h = outside_memory (nat_eq (at % width) 0) x h

-- what the nub writes
pub write_memory : (o : Order) (r : Regions) (at width v : ℕ) → IsWidth width → IsMemory r → IfOk (write_of o r at width v) IsMemory
unfolding write_of
write_memory o r at width v w h = write_by at width _ (overlaid_memory h (bytes_of o width v) (bytes_of_width o width v w) at)

aligned_memory : (b : Bool) (x : Regions) → IsMemory x → IfOk {E = FaultKind} (cond b (Ok x) (Err Align)) IsMemory
aligned_memory true x h = h
aligned_memory false x h = tt

store_by : (at width : ℕ) (x : Result Regions FaultKind) → IfOk x IsMemory → IfOk (if_aligned at width x) IsMemory
store_by at width (Err kind) h = tt
store_by at width (Ok x) h = aligned_memory (nat_eq (at % width) 0) x h

-- what the program stores
pub store_memory : (o : Order) (r : Regions) (at width v : ℕ) → IsWidth width → IsMemory r → IfOk (store_of o r at width v) IsMemory
unfolding store_of
store_memory o r at width v w h = store_by at width _ (written_memory h (bytes_of o width v) (bytes_of_width o width v w) at)

pub store_words_memory : (o : Order) (r : Regions) (at : ℕ) (ws : List ℕ) → IsMemory r → IfOk (store_words_of o r at ws) IsMemory
unfolding store_words_of
store_words_memory o r at ws h = store_by at 4 _ (written_memory h (words_bytes o ws) (words_are_bytes o ws) at)

-- ---- the context block, and the start

pub saved_memory : (o : Order) (ws : List ℕ) (r : Regions) → length ws ≡ 36 → IsMemory r → IsMemory (saved_words o ws r)
unfolding saved_words
saved_memory o ws r e h = record {
  text = h.text;
  text_fits = h.text_fits;
  statics = h.statics;
  stack = h.stack;
  context = record { size_is = length_words_bytes o ws ∙ ap (λ (n : ℕ). 4 * n) e; each = words_are_bytes o ws };
}

zeros_region : (n : ℕ) → IsRegion n (zeros n)
unfolding zeros
zeros_region n = record { size_is = grind (arith, common_steps); each = below_zeros 256 n (lit< tt) }

data_region : (statics : List ℕ) → AreBytes statics → length statics ≤ DATA_SIZE → IsRegion DATA_SIZE (statics ++ zeros (DATA_SIZE - length statics))
data_region statics h fits =
    let z = zeros_region (DATA_SIZE - length statics) in
    record {
      size_is = length-append statics (zeros (DATA_SIZE - length statics)) ∙ omega (arith, z.size_is);
      each = below_append 256 statics (zeros (DATA_SIZE - length statics)) h z.each;
    }

pub first_memory : (text statics : List ℕ) → AreBytes text → length text ≤ 2 ^ 24 → AreBytes statics → length statics ≤ DATA_SIZE → IsMemory (first_regions text statics)
unfolding first_regions
first_memory text statics t tf s sf = record {
  text = t;
  text_fits = tf;
  statics = data_region statics s sf;
  stack = zeros_region STACK_SIZE;
  context = zeros_region CONTEXT_SIZE;
}

-- ---- bytes that are read one by one

pub one_more_byte : (k : ℕ) (xs : List ℕ) → k < length xs → get_or xs k 0 < 256 → AreBytes (take k xs) → AreBytes (take (k + 1) xs)
one_more_byte k [] h fits b = absurd (omega arith)
one_more_byte zero (x ∷ xs) h fits b = (fits, tt)
one_more_byte (suc k) (x ∷ xs) h fits b =
    let same : suc (k + 1) ≡ suc k + 1 = omega arith in
    subst (λ (n : ℕ). AreBytes (take n (x ∷ xs))) same (b.0, one_more_byte k xs (omega arith) fits b.1)

pub all_bytes : (k : ℕ) (xs : List ℕ) → length xs ≤ k → AreBytes (take k xs) → AreBytes xs
all_bytes k xs h b = let same : take k xs ≡ xs = grind (arith, common_steps) in subst AreBytes same b
