-- Words of a step that are all put back, the first first.
use Rattle.std.proofs.Common.{◌≡◌, ◌≢◌, ◌∙◌, ◌⊎◌, inl, inr, refl, sym, ap, subst, ℕ, ◌+◌, ◌%◌, ◌^◌, ◌≤◌, ◌<◌, nat_eq, Bool, true, false, if◌then◌else◌, List, [], ◌∷◌, ◌++◌, length, drop, get_or, map, Option, Some, None, option_map, Result, lit<, IfOk, arith}
use Rattle.std.proofs.lemmas.Grind.{common_steps}
use Rattle.std.proofs.lemmas.List.{get_or-drop}
use Rattle.byteorder.specs.Numbers.{big_number-reads_back, little_number-reads_back}
use Rattle.ldb_words.specs.declared.kinds.Order.{Order}
use Rattle.ldb_words.specs.declared.kinds.Order.TheVariants.{Little, Big}
use Rattle.ldb_words.specs.declared.kinds.Kind.TheVariants.{Word}
use Rattle.ldb_words.specs.declared.event.Outside.{Outside}
use Rattle.machine_state.specs.Regions.{Regions, read_of, write_of, overwritten, or_outside, number_of, bytes_of}
use Rattle.machine_state.specs.declared.layout.TheConstants.{SPARC}
use Rattle.machine_state.specs.Sound.{IsMemory}
use Rattle.machine_state.proofs.SoundMemory.{write_memory}
use Rattle.frame_bytes.specs.declared.frame.Space.TheVariants.{Memory}
use Rattle.frame_bytes.specs.Bytes.{Bytes, fetched, stored, or_none}
use Rattle.abs_mem.proofs.Wires.{put_back}
use Rattle.break_plant.specs.Planted.{noop_of, break_of, word_at}
use Rattle.table_points.specs.declared.row.Point.{Point}
use Rattle.debug_side.specs.Meant.{address_of}
use Rattle.debug_side.specs.Wrote.{or_same, word_put, words_put}
use Rattle.debug_side.specs.Planting.{PutsWords, at_none, is_put, is_passed}
use Rattle.debug_side.proofs.Putting.{stored_word, left_of}
use Rattle.debug_side.proofs.Undone.{some_is, undone}
use Rattle.debug_side.proofs.Places.{base_of, Region, Text, Statics, Stack, Context, bytes_in, Place, place_of, with_word, bytes_at, four_long, put_is, read_is, place_fits, put_in, still_there, front, rear, commutes_by, apart_by}

-- ---- two words are put in any order

pub puts_commute : (o : Order) (v w p q : ℕ) (r : Regions) → p ≢ q → nat_eq (p % 4) 0 ≡ true → nat_eq (q % 4) 0 ≡ true → word_put o v q (word_put o w p r) ≡ word_put o w p (word_put o v q r)
puts_commute o v w p q r differ e f =
    let ys = bytes_of o 4 w in
    let zs = bytes_of o 4 v in
    let y : length (bytes_of o 4 w) ≡ 4 = four_long o w in
    let z : length (bytes_of o 4 v) ≡ 4 = four_long o v in
    let first : word_put o w p r ≡ with_word (place_of r p) (bytes_of o 4 w) r = put_is o w p r e in
    let second : word_put o v q r ≡ with_word (place_of r q) (bytes_of o 4 v) r = put_is o v q r f in
    ap (word_put o v q) first
    ∙ (put_is o v q (with_word (place_of r p) (bytes_of o 4 w) r) f
    ∙ (ap (λ (b : Option Place). with_word b (bytes_of o 4 v) (with_word (place_of r p) (bytes_of o 4 w) r)) (still_there r p q (bytes_of o 4 w) y (place_of r p) refl)
    ∙ (commutes_by p q r (bytes_of o 4 w) (bytes_of o 4 v) y z differ e f (place_of r p) (place_of r q) refl refl
    ∙ sym (ap (word_put o w p) second
    ∙ (put_is o w p (with_word (place_of r q) (bytes_of o 4 v) r) e
    ∙ ap (λ (b : Option Place). with_word b (bytes_of o 4 w) (with_word (place_of r q) (bytes_of o 4 v) r)) (still_there r q p (bytes_of o 4 v) z (place_of r q) refl))))))

-- each of some points has an address that is a multiple of 4, and another than this one
abbrev pub AreOthers : ℕ → List Point → Type 0
AreOthers at [] = Unit {0}
AreOthers at (p ∷ ps) = (p.at ≢ at) × (nat_eq (p.at % 4) 0 ≡ true) × AreOthers at ps

pub puts_through : (o : Order) (v w q : ℕ) (ps : List Point) (r : Regions) → nat_eq (q % 4) 0 ≡ true → AreOthers q ps → word_put o v q (words_put o w (map address_of ps) r) ≡ words_put o w (map address_of ps) (word_put o v q r)
puts_through o v w q [] r f h = refl
puts_through o v w q (p ∷ ps) r f h =
    puts_through o v w q ps (word_put o w p.at r) f h.2 ∙ ap (words_put o w (map address_of ps)) (puts_commute o v w p.at q r h.0 h.1 f)

-- ---- a word is read again

four_numbers : (o : Order) (xs ys : List ℕ) → ((i : ℕ) → i < 4 → get_or xs i 0 ≡ get_or ys i 0) → number_of o 4 xs ≡ number_of o 4 ys
four_numbers Little xs ys h = rw (h 0 (omega arith), h 1 (omega arith), h 2 (omega arith), h 3 (omega arith)) refl
four_numbers Big xs ys h = rw (h 0 (omega arith), h 1 (omega arith), h 2 (omega arith), h 3 (omega arith)) refl

number_there : (o : Order) (xs ys : List ℕ) (n m : ℕ) → length ys ≡ 4 → n + 4 ≤ length xs → m + 4 ≤ length xs → (n + 4 ≤ m) ⊎ (m + 4 ≤ n) → number_of o 4 (drop m (overwritten xs n ys)) ≡ number_of o 4 (drop m xs)
number_there o xs ys n m y f g (inl h) = four_numbers o (drop m (overwritten xs n ys)) (drop m xs) (λ (i : ℕ). λ k. get_or-drop m (overwritten xs n ys) i 0 ∙ (rear xs ys n (m + i) (omega (arith, y, f)) (omega (arith, y, h)) ∙ sym (get_or-drop m xs i 0)))
number_there o xs ys n m y f g (inr h) = four_numbers o (drop m (overwritten xs n ys)) (drop m xs) (λ (i : ℕ). λ k. get_or-drop m (overwritten xs n ys) i 0 ∙ (front xs ys n (m + i) (omega (arith, y, f)) (omega (arith, k, h)) ∙ sym (get_or-drop m xs i 0)))

-- the number at one place, where a word is put at another
number_apart : (o : Order) (g k : Region) (n m : ℕ) (ys : List ℕ) (r : Regions) → length ys ≡ 4 → n + 4 ≤ length (bytes_in g r) → m + 4 ≤ length (bytes_in k r) → (g ≡ k → (n + 4 ≤ m) ⊎ (m + 4 ≤ n))
    → number_of o 4 (drop m (bytes_in k (put_in g n ys r))) ≡ number_of o 4 (drop m (bytes_in k r))
number_apart o Text Text n m ys r y f h apart = number_there o r.text_bytes ys n m y f h (apart refl)
number_apart o Text Statics n m ys r y f h apart = refl
number_apart o Text Stack n m ys r y f h apart = refl
number_apart o Text Context n m ys r y f h apart = refl
number_apart o Statics Text n m ys r y f h apart = refl
number_apart o Statics Statics n m ys r y f h apart = number_there o r.data_bytes ys n m y f h (apart refl)
number_apart o Statics Stack n m ys r y f h apart = refl
number_apart o Statics Context n m ys r y f h apart = refl
number_apart o Stack Text n m ys r y f h apart = refl
number_apart o Stack Statics n m ys r y f h apart = refl
number_apart o Stack Stack n m ys r y f h apart = number_there o r.stack_bytes ys n m y f h (apart refl)
number_apart o Stack Context n m ys r y f h apart = refl
number_apart o Context Text n m ys r y f h apart = refl
number_apart o Context Statics n m ys r y f h apart = refl
number_apart o Context Stack n m ys r y f h apart = refl
number_apart o Context Context n m ys r y f h apart = number_there o r.context_bytes ys n m y f h (apart refl)

abbrev pub number_at : Order → Option Place → Regions → Option ℕ
number_at o p r = option_map (number_of o 4) (bytes_at p r)

other_number : (o : Order) (p q : ℕ) (r : Regions) (ys : List ℕ) → length ys ≡ 4 → p ≢ q → nat_eq (p % 4) 0 ≡ true → nat_eq (q % 4) 0 ≡ true → (a b : Option Place) → place_of r p ≡ a → place_of r q ≡ b → number_at o b (with_word a ys r) ≡ number_at o b r
other_number o p q r ys y differ e f a None g h = refl
other_number o p q r ys y differ e f None (Some b) g h = refl
other_number o p q r ys y differ e f (Some a) (Some b) g h =
    let u = place_fits r p a g in
    let v = place_fits r q b h in
    ap Some (number_apart o a.region b.region a.offset b.offset ys r y u.inside v.inside (λ same. apart_by p q a b differ e f u.where_is (v.where_is ∙ ap (λ (k : Region). base_of k + b.offset) (sym same))))

-- a word that is put leaves the others
pub other_word : (o : Order) (w p q : ℕ) (r : Regions) → p ≢ q → nat_eq (p % 4) 0 ≡ true → nat_eq (q % 4) 0 ≡ true → or_none (read_of o (word_put o w p r) q 4) ≡ or_none (read_of o r q 4)
other_word o w p q r differ e f =
    let y : length (bytes_of o 4 w) ≡ 4 = four_long o w in
    ap (λ (x : Regions). or_none (read_of o x q 4)) (put_is o w p r e)
    ∙ (read_is o q (with_word (place_of r p) (bytes_of o 4 w) r)
    ∙ (ap (λ (b : Option Place). or_none (or_outside q 4 (number_at o b (with_word (place_of r p) (bytes_of o 4 w) r)))) (still_there r p q (bytes_of o 4 w) y (place_of r p) refl)
    ∙ (ap (λ (x : Option ℕ). or_none (or_outside q 4 x)) (other_number o p q r (bytes_of o 4 w) y differ e f (place_of r p) (place_of r q) refl refl) ∙ sym (read_is o q r))))

-- ---- the word that was put is read

reads_back : (o : Order) (w : ℕ) (rest : List ℕ) → w < 256 ^ 4 → number_of o 4 (bytes_of o 4 w ++ rest) ≡ w
reads_back Little w rest h = little_number-reads_back 4 w rest h
reads_back Big w rest h = big_number-reads_back 4 w rest h

dropped_over : (xs ys : List ℕ) (n : ℕ) → n + length ys ≤ length xs → drop n (overwritten xs n ys) ≡ ys ++ drop (n + length ys) xs
unfolding overwritten
dropped_over xs ys n h = grind (arith, common_steps)

over_again : (o : Order) (w n : ℕ) (xs : List ℕ) → w < 256 ^ 4 → n + 4 ≤ length xs → number_of o 4 (drop n (overwritten xs n (bytes_of o 4 w))) ≡ w
over_again o w n xs small h =
    ap (number_of o 4) (dropped_over xs (bytes_of o 4 w) n (omega (arith, h, four_long o w))) ∙ reads_back o w (drop (n + length (bytes_of o 4 w)) xs) small

in_again : (o : Order) (w : ℕ) (g : Region) (n : ℕ) (r : Regions) → w < 256 ^ 4 → n + 4 ≤ length (bytes_in g r) → number_of o 4 (drop n (bytes_in g (put_in g n (bytes_of o 4 w) r))) ≡ w
in_again o w Text n r small h = over_again o w n r.text_bytes small h
in_again o w Statics n r small h = over_again o w n r.data_bytes small h
in_again o w Stack n r small h = over_again o w n r.stack_bytes small h
in_again o w Context n r small h = over_again o w n r.context_bytes small h

-- what was read, and so can be written
word_again : (o : Order) (w p : ℕ) (r : Regions) (ys : List ℕ) → ys ≡ bytes_of o 4 w → w < 256 ^ 4 → (a : Option Place) → place_of r p ≡ a → (x : ℕ) → number_at o a r ≡ Some x → number_at o a (with_word a ys r) ≡ Some w
word_again o w p r ys e small None g x h = cc
word_again o w p r ys e small (Some a) g x h =
    let u = place_fits r p a g in
    ap Some (ap (λ (zs : List ℕ). number_of o 4 (drop a.offset (bytes_in a.region (put_in a.region a.offset zs r)))) e ∙ in_again o w a.region a.offset r small u.inside)

pub not_some : {T : Type 0} {x : T} → None ≡ Some x → ⊥
not_some e = cc

pub test_true : (at y : ℕ) → nat_eq (at % 4) 0 ≡ true → or_none (or_outside at 4 (Some y)) ≡ Some y
test_true at y e = rw e refl

test_false : (at y : ℕ) → nat_eq (at % 4) 0 ≡ false → or_none (or_outside at 4 (Some y)) ≡ None
test_false at y e = rw e refl

by_test : (at y x : ℕ) (b : Bool) → nat_eq (at % 4) 0 ≡ b → or_none (or_outside at 4 (Some y)) ≡ Some x → (nat_eq (at % 4) 0 ≡ true) × (Some y ≡ Some x)
by_test at y x true f e = (f, sym (test_true at y f) ∙ e)
by_test at y x false f e = absurd (not_some (sym (test_false at y f) ∙ e))

aligned_some : (at : ℕ) (o : Option ℕ) (x : ℕ) → or_none (or_outside at 4 o) ≡ Some x → (nat_eq (at % 4) 0 ≡ true) × (o ≡ Some x)
aligned_some at None x e = absurd (not_some e)
aligned_some at (Some y) x e = by_test at y x (nat_eq (at % 4) 0) refl e

-- what is read of a word
pub read_some : (o : Order) (at x : ℕ) (r : Regions) → or_none (read_of o r at 4) ≡ Some x → (nat_eq (at % 4) 0 ≡ true) × (number_at o (place_of r at) r ≡ Some x)
read_some o at x r e = aligned_some at (number_at o (place_of r at) r) x (sym (read_is o at r) ∙ e)

-- where a word was read, one that is put there is read
pub put_read : (o : Order) (w at x : ℕ) (r : Regions) → w < 256 ^ 4 → or_none (read_of o r at 4) ≡ Some x → or_none (read_of o (word_put o w at r) at 4) ≡ Some w
put_read o w at x r small e =
    let h = read_some o at x r e in
    let y : length (bytes_of o 4 w) ≡ 4 = four_long o w in
    ap (λ (z : Regions). or_none (read_of o z at 4)) (put_is o w at r h.0)
    ∙ (read_is o at (with_word (place_of r at) (bytes_of o 4 w) r)
    ∙ (ap (λ (b : Option Place). or_none (or_outside at 4 (number_at o b (with_word (place_of r at) (bytes_of o 4 w) r)))) (still_there r at at (bytes_of o 4 w) y (place_of r at) refl)
    ∙ (ap (λ (z : Option ℕ). or_none (or_outside at 4 z)) (word_again o w at r (bytes_of o 4 w) refl small (place_of r at) refl x h.1) ∙ test_true at w h.0)))

-- ---- the words of a step

small_by : (b : Bool) → (if b then 2446336001 else 13) < 256 ^ 4
small_by true = lit< tt
small_by false = lit< tt

abbrev break_by : Bool → ℕ
break_by b = if b then 2446336001 else 13

abbrev noop_by : Bool → ℕ
noop_by b = if b then 16777216 else 0

differs_by : (b : Bool) → break_by b ≢ noop_by b
differs_by true e = absurd (omega (arith, e))
differs_by false e = absurd (omega (arith, e))

break_small : (target : ℕ) → break_of target < 256 ^ 4
break_small target = small_by (nat_eq target SPARC)

not_noop : (target : ℕ) → break_of target ≢ noop_of target
not_noop target = differs_by (nat_eq target SPARC)

pub read_word : (b : Bytes) (at : ℕ) → word_at b at ≡ or_none (read_of b.order b.regions at 4)
unfolding fetched
read_word b at = refl

-- the bytes after a word was stored
pub record Wrote (b : Bytes) (at w : ℕ) (c : Bytes) : Type 0 where
  pub order : c.order ≡ b.order
  pub regions : c.regions ≡ word_put b.order w at b.regions

wrote_by : (b c : Bytes) (at w : ℕ) (o : Option Regions) → or_none (write_of b.order b.regions at 4 w) ≡ o → put_back b o ≡ Some c → Wrote b at w c
wrote_by b c at w None e is = absurd (not_some is)
wrote_by b c at w (Some r) e is =
    let same : record b { regions = r } ≡ c = some_is is in
    record { order = ap (λ (x : Bytes). x.order) (sym same); regions = ap (λ (x : Bytes). x.regions) (sym same) ∙ ap (or_same b.regions) (sym e) }

pub wrote_of : (b c : Bytes) (at w : ℕ) → stored b Memory at Word w ≡ Some c → Wrote b at w c
wrote_of b c at w e = wrote_by b c at w (or_none (write_of b.order b.regions at 4 w)) refl (sym (stored_word b at w) ∙ e)

put_once : (target : ℕ) (b c : Bytes) (at : ℕ) → IsMemory b.regions → word_at b at ≡ Some (noop_of target) → stored b Memory at Word (break_of target) ≡ Some c → word_put b.order (noop_of target) at c.regions ≡ b.regions
put_once target b c at m was put =
    let l = left_of b c at (break_of target) put in
    let same : c.regions ≡ l.regions = ap (λ (x : Bytes). x.regions) l.is in
    ap (word_put b.order (noop_of target) at) same ∙ ap (or_same l.regions) (undone b.order b.regions l.regions at (break_of target) (noop_of target) m (sym (read_word b at) ∙ was) l.wrote)

memory_after : (b c : Bytes) (at w : ℕ) → IsMemory b.regions → stored b Memory at Word w ≡ Some c → IsMemory c.regions
memory_after b c at w m put =
    let l = left_of b c at w put in
    subst IsMemory (sym (ap (λ (x : Bytes). x.regions) l.is)) (subst (λ (z : Result Regions Outside). IfOk z IsMemory) l.wrote (write_memory b.order b.regions at 4 w (inr (inr refl)) m))

-- while words are put behind it, a break word stays and its point isn't kept again
stays : (target at : ℕ) (b d : Bytes) (ps kept : List Point) → nat_eq (at % 4) 0 ≡ true → word_at b at ≡ Some (break_of target) → PutsWords target b ps kept d → AreOthers at kept
stays target at b d ps kept f h at_none = tt
stays target at b d ps kept f h (is_passed {ps = qs} p w there differs rest) = stays target at b d qs kept f h rest
stays target at b d ps kept f h (is_put {c = c} {ps = qs} {kept = ks} p was put rest) =
    let w = wrote_of b c p.at (break_of target) put in
    let even = (read_some b.order p.at (noop_of target) b.regions (sym (read_word b p.at) ∙ was)).0 in
    let other : p.at ≢ at = λ same. not_noop target (some_is (sym h ∙ (ap (word_at b) (sym same) ∙ was))) in
    let again : word_at c at ≡ Some (break_of target) =
    read_word c at
    ∙ (ap (λ (o : Order). or_none (read_of o c.regions at 4)) w.order
    ∙ (ap (λ (r : Regions). or_none (read_of b.order r at 4)) w.regions
    ∙ (other_word b.order (break_of target) p.at at b.regions other even f ∙ (sym (read_word b at) ∙ h)))) in
    (other, even, stays target at c d qs ks f again rest)

one_undone : (target : ℕ) (b c d : Bytes) (p : Point) (ps kept : List Point) → IsMemory b.regions → word_at b p.at ≡ Some (noop_of target) → stored b Memory p.at Word (break_of target) ≡ Some c → PutsWords target c ps kept d
    → words_put c.order (noop_of target) (map address_of kept) d.regions ≡ c.regions → words_put b.order (noop_of target) (map address_of (p ∷ kept)) d.regions ≡ b.regions
one_undone target b c d p ps kept m was put rest undo =
    let w = wrote_of b c p.at (break_of target) put in
    let read : or_none (read_of b.order b.regions p.at 4) ≡ Some (noop_of target) = sym (read_word b p.at) ∙ was in
    let even = (read_some b.order p.at (noop_of target) b.regions read).0 in
    let there : word_at c p.at ≡ Some (break_of target) =
    read_word c p.at
    ∙ (ap (λ (o : Order). or_none (read_of o c.regions p.at 4)) w.order
    ∙ (ap (λ (r : Regions). or_none (read_of b.order r p.at 4)) w.regions ∙ put_read b.order (break_of target) p.at (noop_of target) b.regions (break_small target) read)) in
    sym (puts_through b.order (noop_of target) (noop_of target) p.at kept d.regions even (stays target p.at c d ps kept even there rest))
    ∙ (ap (word_put b.order (noop_of target) p.at) (ap (λ (o : Order). words_put o (noop_of target) (map address_of kept) d.regions) (sym w.order) ∙ undo) ∙ put_once target b c p.at m was put)

-- Where the words of a step are put back at their points, the first first, the memory is as before.
pub all_undone : (target : ℕ) (b d : Bytes) (ps kept : List Point) → IsMemory b.regions → PutsWords target b ps kept d → words_put b.order (noop_of target) (map address_of kept) d.regions ≡ b.regions
all_undone target b d ps kept m at_none = refl
all_undone target b d ps kept m (is_passed {ps = qs} p w there differs rest) = all_undone target b d qs kept m rest
all_undone target b d ps kept m (is_put {c = c} {ps = qs} {kept = ks} p was put rest) =
    one_undone target b c d p qs ks m was put rest (all_undone target c d qs ks (memory_after b c p.at (break_of target) m put) rest)
