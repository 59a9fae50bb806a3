-- A word that is put where another one was read, and that one put back.
use Rattle.std.proofs.Common.{◌≡◌, ◌∙◌, refl, sym, ap, subst, ℕ, zero, suc, ◌+◌, ◌*◌, ◌/◌, ◌%◌, ◌≤◌, ◌<◌, nat_eq, Bool, true, false, if◌then◌else◌, List, [], ◌∷◌, ◌++◌, length, take, drop, Option, Some, None, option_map, Result, Ok, Err, arith, take-append-drop, length-drop}
use Rattle.std.proofs.lemmas.Grind.{common_steps}
use Rattle.std.proofs.lemmas.List.{drop-drop}
use Rattle.std.proofs.lemmas.Bool.Decides.{nat_tests}
use Rattle.ldb_words.specs.declared.kinds.Order.{Order}
use Rattle.ldb_words.specs.declared.kinds.Order.TheVariants.{Little, Big}
use Rattle.ldb_words.specs.declared.event.Outside.{Outside}
use Rattle.machine_state.specs.declared.layout.TheConstants.{TEXT, DATA, STACK, CONTEXT}
use Rattle.machine_state.specs.Regions.{Regions, read_of, write_of, held, readable, overlaid, overwritten, or_else, or_outside, offset_in, number_of, bytes_of, with_text, with_data, with_stack, with_context}
use Rattle.machine_state.specs.Sound.{AreBytes, IsMemory}
use Rattle.frame_bytes.specs.Bytes.{or_none}

-- ---- numbers and bytes

-- four bytes are those of their number
bytes_again : (o : Order) (a b c d : ℕ) (rest : List ℕ) → a < 256 → b < 256 → c < 256 → d < 256 → bytes_of o 4 (number_of o 4 (a ∷ b ∷ c ∷ d ∷ rest)) ≡ a ∷ b ∷ c ∷ d ∷ []
bytes_again Little a b c d rest p q r s =
    let x0 : (a + 256 * (b + 256 * (c + 256 * (d + 256 * 0)))) % 256 ≡ a = omega (arith, p, q, r, s) in
    let x1 : (a + 256 * (b + 256 * (c + 256 * (d + 256 * 0)))) / 256 % 256 ≡ b = omega (arith, p, q, r, s) in
    let x2 : (a + 256 * (b + 256 * (c + 256 * (d + 256 * 0)))) / 65536 % 256 ≡ c = omega (arith, p, q, r, s) in
    let x3 : (a + 256 * (b + 256 * (c + 256 * (d + 256 * 0)))) / 16777216 % 256 ≡ d = omega (arith, p, q, r, s) in
    rw (x0, x1, x2, x3) refl
bytes_again Big a b c d rest p q r s =
    let x0 : (a * 16777216 + (b * 65536 + (c * 256 + (d * 1 + 0)))) / 16777216 % 256 ≡ a = omega (arith, p, q, r, s) in
    let x1 : (a * 16777216 + (b * 65536 + (c * 256 + (d * 1 + 0)))) / 65536 % 256 ≡ b = omega (arith, p, q, r, s) in
    let x2 : (a * 16777216 + (b * 65536 + (c * 256 + (d * 1 + 0)))) / 256 % 256 ≡ c = omega (arith, p, q, r, s) in
    let x3 : (a * 16777216 + (b * 65536 + (c * 256 + (d * 1 + 0)))) % 256 ≡ d = omega (arith, p, q, r, s) in
    rw (x0, x1, x2, x3) refl

pub four_again : (o : Order) (xs : List ℕ) → 4 ≤ length xs → AreBytes xs → bytes_of o 4 (number_of o 4 xs) ≡ take 4 xs
four_again o [] n h = absurd (omega arith)
four_again o (a ∷ []) n h = absurd (omega arith)
four_again o (a ∷ b ∷ []) n h = absurd (omega arith)
four_again o (a ∷ b ∷ c ∷ []) n h = absurd (omega arith)
four_again o (a ∷ b ∷ c ∷ d ∷ rest) n h = bytes_again o a b c d rest h.0 h.1.0 h.1.1.0 h.1.1.1.0

four_long : (o : Order) (v : ℕ) → length (bytes_of o 4 v) ≡ 4
four_long Little v = refl
four_long Big v = refl

-- ---- bytes of a region

pub below_drop : (n : ℕ) (xs : List ℕ) → AreBytes xs → AreBytes (drop n xs)
below_drop zero xs h = h
below_drop (suc n) [] h = tt
below_drop (suc n) (x ∷ xs) h = below_drop n xs h.1

front_of : (xs t : List ℕ) (n : ℕ) → n ≤ length xs → take n (take n xs ++ t) ≡ take n xs
front_of xs t n h = grind (arith, common_steps)

behind : (ps t : List ℕ) (n : ℕ) → length ps ≡ n → drop n (ps ++ t) ≡ t
behind ps t n h = grind (arith, common_steps)

back_of : (ps ys r : List ℕ) (n : ℕ) → length ps ≡ n → length ys ≡ 4 → drop (n + 4) (ps ++ (ys ++ r)) ≡ r
back_of ps ys r n h k = sym (drop-drop 4 n (ps ++ (ys ++ r))) ∙ (ap (drop 4) (behind ps (ys ++ r) n h) ∙ behind ys r 4 k)

pub all_of : (xs : List ℕ) (n : ℕ) → take n xs ++ (take 4 (drop n xs) ++ drop (n + 4) xs) ≡ xs
all_of xs n =
    ap (λ (r : List ℕ). take n xs ++ (take 4 (drop n xs) ++ r)) (sym (drop-drop 4 n xs))
    ∙ (ap (λ (r : List ℕ). take n xs ++ r) (take-append-drop 4 (drop n xs)) ∙ take-append-drop n xs)

length_front : (xs : List ℕ) (n : ℕ) → n ≤ length xs → length (take n xs) ≡ n
length_front xs n h = grind (arith, common_steps)

pub twice : (xs ys zs : List ℕ) (n : ℕ) → n + 4 ≤ length xs → length ys ≡ 4 → length zs ≡ 4 → zs ≡ take 4 (drop n xs) → overwritten (overwritten xs n ys) n zs ≡ xs
unfolding overwritten
twice xs ys zs n fits y z e =
    let shorter : n ≤ length xs = omega (arith, fits) in
    let front = front_of xs (ys ++ drop (n + length ys) xs) n shorter in
    let back : drop (n + length zs) (take n xs ++ (ys ++ drop (n + length ys) xs)) ≡ drop (n + length ys) xs = rw z (back_of (take n xs) ys (drop (n + length ys) xs) n (length_front xs n shorter) y) in
    let here : drop (n + length ys) xs ≡ drop (n + 4) xs = ap (λ (k : ℕ). drop (n + k) xs) y in
    ap (λ (p : List ℕ). p ++ (zs ++ drop (n + length zs) (take n xs ++ (ys ++ drop (n + length ys) xs)))) front
    ∙ (ap (λ (r : List ℕ). take n xs ++ (zs ++ r)) (back ∙ here)
    ∙ (ap (λ (q : List ℕ). take n xs ++ (q ++ drop (n + 4) xs)) e ∙ all_of xs n))

longer : (xs ys : List ℕ) (n : ℕ) → n + length ys ≤ length xs → length (overwritten xs n ys) ≡ length xs
unfolding overwritten
longer xs ys n fits = grind (arith, common_steps)

-- ---- regions

pub some_is : {T : Type 0} {x y : T} → Some x ≡ Some y → x ≡ y
some_is e = cc

abbrev fine : {T : Type 0} → T → Result T Outside
fine x = Ok x

abbrev nothing_there : {T : Type 0} → Result T Outside
nothing_there = Err (record {})

ok_is : {T : Type 0} {x y : T} → fine x ≡ fine y → x ≡ y
ok_is e = cc

none_not : {T : Type 0} (o : Result T Outside) (x : T) → or_none o ≡ Some x → o ≡ Ok x
none_not (Ok y) x e = ap Ok (some_is e)
none_not (Err y) x e = cc

-- what a write at an address did: the region and the offset
data Put (r : Regions) (at : ℕ) (ys : List ℕ) : Regions → Type 0 where
  in_text : (n : ℕ) → offset_in TEXT (length r.text_bytes) at (length ys) ≡ Some n → Put r at ys (with_text r ys n)
  in_data : (n : ℕ) → offset_in TEXT (length r.text_bytes) at (length ys) ≡ None → offset_in DATA (length r.data_bytes) at (length ys) ≡ Some n → Put r at ys (with_data r ys n)
  in_stack : (n : ℕ) → offset_in TEXT (length r.text_bytes) at (length ys) ≡ None → offset_in DATA (length r.data_bytes) at (length ys) ≡ None
      → offset_in STACK (length r.stack_bytes) at (length ys) ≡ Some n → Put r at ys (with_stack r ys n)
  in_context : (n : ℕ) → offset_in TEXT (length r.text_bytes) at (length ys) ≡ None → offset_in DATA (length r.data_bytes) at (length ys) ≡ None
      → offset_in STACK (length r.stack_bytes) at (length ys) ≡ None → offset_in CONTEXT (length r.context_bytes) at (length ys) ≡ Some n → Put r at ys (with_context r ys n)

module _ (r : Regions) (at : ℕ) (ys : List ℕ) where
  put_fourth : (o : Option ℕ) (r' : Regions) → offset_in TEXT (length r.text_bytes) at (length ys) ≡ None → offset_in DATA (length r.data_bytes) at (length ys) ≡ None
      → offset_in STACK (length r.stack_bytes) at (length ys) ≡ None → offset_in CONTEXT (length r.context_bytes) at (length ys) ≡ o → option_map (with_context r ys) o ≡ Some r' → Put r at ys r'
  put_fourth None r' t d s c e = cc
  put_fourth (Some n) r' t d s c e = subst (Put r at ys) (some_is e) (in_context n t d s c)

  put_third : (o : Option ℕ) (r' : Regions) → offset_in TEXT (length r.text_bytes) at (length ys) ≡ None → offset_in DATA (length r.data_bytes) at (length ys) ≡ None
      → offset_in STACK (length r.stack_bytes) at (length ys) ≡ o → or_else (option_map (with_stack r ys) o) (option_map (with_context r ys) (offset_in CONTEXT (length r.context_bytes) at (length ys))) ≡ Some r' → Put r at ys r'
  put_third None r' t d s e = put_fourth (offset_in CONTEXT (length r.context_bytes) at (length ys)) r' t d s refl e
  put_third (Some n) r' t d s e = subst (Put r at ys) (some_is e) (in_stack n t d s)

  put_second : (o : Option ℕ) (r' : Regions) → offset_in TEXT (length r.text_bytes) at (length ys) ≡ None → offset_in DATA (length r.data_bytes) at (length ys) ≡ o
      → or_else (option_map (with_data r ys) o) (or_else (option_map (with_stack r ys) (offset_in STACK (length r.stack_bytes) at (length ys))) (option_map (with_context r ys) (offset_in CONTEXT (length r.context_bytes) at (length ys)))) ≡ Some r' → Put r at ys r'
  put_second None r' t d e = put_third (offset_in STACK (length r.stack_bytes) at (length ys)) r' t d refl e
  put_second (Some n) r' t d e = subst (Put r at ys) (some_is e) (in_data n t d)

  put_first : (o : Option ℕ) (r' : Regions) → offset_in TEXT (length r.text_bytes) at (length ys) ≡ o
      → or_else (option_map (with_text r ys) o) (or_else (option_map (with_data r ys) (offset_in DATA (length r.data_bytes) at (length ys))) (or_else (option_map (with_stack r ys) (offset_in STACK (length r.stack_bytes) at (length ys))) (option_map (with_context r ys) (offset_in CONTEXT (length r.context_bytes) at (length ys))))) ≡ Some r' → Put r at ys r'
  put_first None r' t e = put_second (offset_in DATA (length r.data_bytes) at (length ys)) r' t refl e
  put_first (Some n) r' t e = subst (Put r at ys) (some_is e) (in_text n t)

  put_of : (r' : Regions) → overlaid r at ys ≡ Some r' → Put r at ys r'
  unfolding overlaid
  put_of r' e = put_first (offset_in TEXT (length r.text_bytes) at (length ys)) r' refl e

within : (base size at width n : ℕ) → offset_in base size at width ≡ Some n → n + width ≤ size
within base size at width n e = grind (arith, nat_tests)

-- what is there before bytes are put, and what is there again
module _ (o : Order) (r : Regions) (at : ℕ) (ys zs : List ℕ) (w : ℕ) (h : IsMemory r) (y : length ys ≡ 4) (z : zs ≡ bytes_of o 4 w) where
  bytes_there : (xs : List ℕ) (n : ℕ) → AreBytes xs → n + 4 ≤ length xs → number_of o 4 (drop n xs) ≡ w → zs ≡ take 4 (drop n xs)
  bytes_there xs n b fits e = z ∙ (ap (bytes_of o 4) (sym e) ∙ four_again o (drop n xs) (omega (arith, fits, length-drop n xs)) (below_drop n xs b))

  z_long : length zs ≡ 4
  z_long = ap length z ∙ four_long o w

  back_in : (xs : List ℕ) (n : ℕ) → AreBytes xs → n + length ys ≤ length xs → number_of o 4 (drop n xs) ≡ w → overwritten (overwritten xs n ys) n zs ≡ xs
  back_in xs n b fits e = let four : n + 4 ≤ length xs = omega (arith, fits, y) in twice xs ys zs n four y z_long (bytes_there xs n b four e)

  other_offset : (base : ℕ) (xs : List ℕ) (found : Option ℕ) → offset_in base (length xs) at (length ys) ≡ found → offset_in base (length xs) at (length zs) ≡ found
  other_offset base xs found e = subst (λ (k : ℕ). offset_in base (length xs) at k ≡ found) (y ∙ sym z_long) e

  same_offset : (base : ℕ) (xs : List ℕ) (n : ℕ) (found : Option ℕ) → n + length ys ≤ length xs → offset_in base (length xs) at (length ys) ≡ found → offset_in base (length (overwritten xs n ys)) at (length zs) ≡ found
  same_offset base xs n found fits e =
      subst (λ (k : ℕ). offset_in base k at (length zs) ≡ found) (sym (longer xs ys n fits)) (other_offset base xs found e)

  -- the number there, by the region that has it
  in_held : (xs : List ℕ) (n : ℕ) → held r at 4 ≡ Some (drop n xs) → option_map (number_of o 4) (held r at 4) ≡ Some w → number_of o 4 (drop n xs) ≡ w
  in_held xs n is e = some_is (sym (ap (option_map (number_of o 4)) is) ∙ e)

  at_four : (base : ℕ) (xs : List ℕ) (found : Option ℕ) → offset_in base (length xs) at (length ys) ≡ found → offset_in base (length xs) at 4 ≡ found
  at_four base xs found e = subst (λ (k : ℕ). offset_in base (length xs) at k ≡ found) y e

  -- the bytes there are put back
  undo : (r' : Regions) → Put r at ys r' → option_map (number_of o 4) (held r at 4) ≡ Some w → overlaid r' at zs ≡ Some r
  unfolding overlaid held readable
  undo r' (in_text n t) e =
      let fits = within TEXT (length r.text_bytes) at (length ys) n t in
      let is : held r at 4 ≡ Some (drop n r.text_bytes) = rw (at_four TEXT r.text_bytes (Some n) t) refl in
      rw (same_offset TEXT r.text_bytes n (Some n) fits t) (ap (λ (xs : List ℕ). Some (record r { text_bytes = xs })) (back_in r.text_bytes n h.text fits (in_held r.text_bytes n is e)))
  undo r' (in_data n t d) e =
      let fits = within DATA (length r.data_bytes) at (length ys) n d in
      let is : held r at 4 ≡ Some (drop n r.data_bytes) = rw (at_four TEXT r.text_bytes None t, at_four DATA r.data_bytes (Some n) d) refl in
      rw (other_offset TEXT r.text_bytes None t, same_offset DATA r.data_bytes n (Some n) fits d) (ap (λ (xs : List ℕ). Some (record r { data_bytes = xs })) (back_in r.data_bytes n h.statics.each fits (in_held r.data_bytes n is e)))
  undo r' (in_stack n t d s) e =
      let fits = within STACK (length r.stack_bytes) at (length ys) n s in
      let is : held r at 4 ≡ Some (drop n r.stack_bytes) = rw (at_four TEXT r.text_bytes None t, at_four DATA r.data_bytes None d, at_four STACK r.stack_bytes (Some n) s) refl in
      rw (other_offset TEXT r.text_bytes None t, other_offset DATA r.data_bytes None d, same_offset STACK r.stack_bytes n (Some n) fits s)
      (ap (λ (xs : List ℕ). Some (record r { stack_bytes = xs })) (back_in r.stack_bytes n h.stack.each fits (in_held r.stack_bytes n is e)))
  undo r' (in_context n t d s c) e =
      let fits = within CONTEXT (length r.context_bytes) at (length ys) n c in
      let is : held r at 4 ≡ Some (drop n r.context_bytes) =
      rw (at_four TEXT r.text_bytes None t, at_four DATA r.data_bytes None d, at_four STACK r.stack_bytes None s, at_four CONTEXT r.context_bytes (Some n) c) refl in
      rw (other_offset TEXT r.text_bytes None t, other_offset DATA r.data_bytes None d, other_offset STACK r.stack_bytes None s, same_offset CONTEXT r.context_bytes n (Some n) fits c)
      (ap (λ (xs : List ℕ). Some (record r { context_bytes = xs })) (back_in r.context_bytes n h.context.each fits (in_held r.context_bytes n is e)))

-- ---- words

data WroteAt {A : Type 0} (at : ℕ) (o : Option A) (x : A) : Type 0 where
  wrote_at : nat_eq (at % 4) 0 ≡ true → o ≡ Some x → WroteAt at o x

wrote_by : {A : Type 0} (at : ℕ) (b : Bool) (y x : A) → nat_eq (at % 4) 0 ≡ b → (if b then fine y else nothing_there) ≡ fine x → WroteAt at (Some y) x
wrote_by at true y x e is = wrote_at e (ap Some (ok_is is))
wrote_by at false y x e is = cc

wrote_of : {A : Type 0} (at : ℕ) (o : Option A) (x : A) → or_outside at 4 o ≡ Ok x → WroteAt at o x
wrote_of at None x e = cc
wrote_of at (Some y) x e = wrote_by at (nat_eq (at % 4) 0) y x refl e

again : {A : Type 0} (at : ℕ) (o : Option A) (x : A) → nat_eq (at % 4) 0 ≡ true → o ≡ Some x → or_none (or_outside at 4 o) ≡ Some x
again at o x a e = rw (e, a) refl

read_there : (at : ℕ) (o : Option ℕ) (w : ℕ) → or_none (or_outside at 4 o) ≡ Some w → WroteAt at o w
read_there at None w e = cc
read_there at (Some y) w e = wrote_of at (Some y) w (none_not (or_outside at 4 (Some y)) w e)

-- A word is put where another one was read; when that one is put back, the memory is as before.
pub undone : (o : Order) (r r' : Regions) (at v w : ℕ) → IsMemory r → or_none (read_of o r at 4) ≡ Some w → write_of o r at 4 v ≡ Ok r' → or_none (write_of o r' at 4 w) ≡ Some r
unfolding read_of write_of
undone o r r' at v w h e f =
    elim (wrote_of at (overlaid r at (bytes_of o 4 v)) r' f) [
      | wrote_at a put ↦ elim (read_there at (option_map (number_of o 4) (held r at 4)) w e) [
        | wrote_at b is ↦ again at (overlaid r' at (bytes_of o 4 w)) r a (undo o r at (bytes_of o 4 v) (bytes_of o 4 w) w h (four_long o v) refl r' (put_of r at (bytes_of o 4 v) r' put) is)
      ]
    ]
