-- Words at two addresses of a memory.
use Rattle.std.proofs.Common.{◌≡◌, ◌≢◌, ◌∙◌, refl, sym, ap, subst, ℕ, ◌+◌, ◌-◌, ◌%◌, ◌≤◌, ◌<◌, ◌&&◌, ◌⊎◌, inl, inr, nat_eq, nat_le, nat_lt, Bool, true, false, if◌then◌else◌, List, length, drop, get_or, Option, Some, None, option_map, arith}
use Rattle.std.proofs.lemmas.Grind.{common_steps, same_number_lists}
use Rattle.std.proofs.lemmas.Bool.Decides.{nat_tests}
use Rattle.ldb_words.specs.declared.kinds.Order.{Order}
use Rattle.ldb_words.specs.declared.kinds.Order.TheVariants.{Little, Big}
use Rattle.machine_state.specs.declared.layout.TheConstants.{TEXT, DATA, STACK, CONTEXT}
use Rattle.machine_state.specs.Regions.{Regions, read_of, write_of, held, readable, overlaid, overwritten, or_else, or_outside, bytes_from, offset_in, number_of, bytes_of, with_text, with_data, with_stack, with_context}
use Rattle.frame_bytes.specs.Bytes.{or_none}
use Rattle.debug_side.specs.Wrote.{or_same, word_put}

some_is : {T : Type 0} {x y : T} → Some x ≡ Some y → x ≡ y
some_is e = cc

-- ---- where a word stands

pub data Region : Type 0 where
  Text Statics Stack Context : Region

abbrev pub bytes_in : Region → Regions → List ℕ
bytes_in Text r = r.text_bytes
bytes_in Statics r = r.data_bytes
bytes_in Stack r = r.stack_bytes
bytes_in Context r = r.context_bytes

abbrev pub with_bytes : Region → List ℕ → Regions → Regions
with_bytes Text xs r = record r { text_bytes = xs }
with_bytes Statics xs r = record r { data_bytes = xs }
with_bytes Stack xs r = record r { stack_bytes = xs }
with_bytes Context xs r = record r { context_bytes = xs }

abbrev pub base_of : Region → ℕ
base_of Text = TEXT
base_of Statics = DATA
base_of Stack = STACK
base_of Context = CONTEXT

pub record Place : Type 0 where
  pub region : Region
  pub offset : ℕ

place_is : {x y : Place} → Some x ≡ Some y → x ≡ y
place_is e = cc

abbrev pub there : Region → Option ℕ → Option Place
there g None = None
there g (Some n) = Some (record { region = g; offset = n })

abbrev pub first_of : Option Place → Option Place → Option Place
first_of (Some p) other = Some p
first_of None other = other

abbrev in_region : Regions → ℕ → Region → Option Place
in_region r at g = there g (offset_in (base_of g) (length (bytes_in g r)) at 4)

-- the region that has the four bytes at an address, and how far in it they stand
unfoldable pub place_of : Regions → ℕ → Option Place
place_of r at = first_of (in_region r at Text) (first_of (in_region r at Statics) (first_of (in_region r at Stack) (in_region r at Context)))

abbrev pub with_word : Option Place → List ℕ → Regions → Regions
with_word None ys r = r
with_word (Some p) ys r = with_bytes p.region (overwritten (bytes_in p.region r) p.offset ys) r

abbrev pub bytes_at : Option Place → Regions → Option (List ℕ)
bytes_at None r = None
bytes_at (Some p) r = Some (drop p.offset (bytes_in p.region r))

-- ---- where the four bytes are

module _ (r : Regions) (at : ℕ) where
  abbrev laid : (ys : List ℕ) → Option ℕ → Option ℕ → Option ℕ → Option ℕ → Option Regions
  laid ys a b c d = or_else (option_map (with_text r ys) a) (or_else (option_map (with_data r ys) b) (or_else (option_map (with_stack r ys) c) (option_map (with_context r ys) d)))

  laid_is : (ys : List ℕ) (a b c d : Option ℕ) → laid ys a b c d ≡ option_map (λ p. with_word (Some p) ys r) (first_of (there Text a) (first_of (there Statics b) (first_of (there Stack c) (there Context d))))
  laid_is ys (Some n) b c d = refl
  laid_is ys None (Some n) c d = refl
  laid_is ys None None (Some n) d = refl
  laid_is ys None None None (Some n) = refl
  laid_is ys None None None None = refl

  offset_of : Region → ℕ → Option ℕ
  offset_of g n = offset_in (base_of g) (length (bytes_in g r)) at n

  pub overlaid_is : (ys : List ℕ) → length ys ≡ 4 → overlaid r at ys ≡ option_map (λ p. with_word (Some p) ys r) (place_of r at)
  unfolding overlaid place_of
  overlaid_is ys e =
      ap (λ (n : ℕ). laid ys (offset_in TEXT (length r.text_bytes) at n) (offset_in DATA (length r.data_bytes) at n) (offset_in STACK (length r.stack_bytes) at n) (offset_in CONTEXT (length r.context_bytes) at n)) e
      ∙ laid_is ys (offset_in TEXT (length r.text_bytes) at 4) (offset_in DATA (length r.data_bytes) at 4) (offset_in STACK (length r.stack_bytes) at 4) (offset_in CONTEXT (length r.context_bytes) at 4)

  held_by : (a b c d : Option ℕ) → or_else (or_else (bytes_from r.text_bytes a) (or_else (bytes_from r.data_bytes b) (bytes_from r.stack_bytes c))) (bytes_from r.context_bytes d)
      ≡ bytes_at (first_of (there Text a) (first_of (there Statics b) (first_of (there Stack c) (there Context d)))) r
  held_by (Some n) b c d = refl
  held_by None (Some n) c d = refl
  held_by None None (Some n) d = refl
  held_by None None None (Some n) = refl
  held_by None None None None = refl

  held_is : held r at 4 ≡ bytes_at (place_of r at) r
  unfolding held readable place_of
  held_is = held_by (offset_in TEXT (length r.text_bytes) at 4) (offset_in DATA (length r.data_bytes) at 4) (offset_in STACK (length r.stack_bytes) at 4) (offset_in CONTEXT (length r.context_bytes) at 4)

pub four_long : (o : Order) (v : ℕ) → length (bytes_of o 4 v) ≡ 4
four_long Little v = refl
four_long Big v = refl

-- ---- a word that is put, and one that is read

put_by : (at : ℕ) (b : Bool) (r : Regions) (ys : List ℕ) (p : Option Place) → nat_eq (at % 4) 0 ≡ b → or_same r (or_none (or_outside at 4 (option_map (λ q. with_word (Some q) ys r) p))) ≡ (if b then with_word p ys r else r)
put_by at true r ys None e = refl
put_by at false r ys None e = refl
put_by at true r ys (Some p) e = rw e refl
put_by at false r ys (Some p) e = rw e refl

-- at an address that is a multiple of 4
pub put_is : (o : Order) (v at : ℕ) (r : Regions) → nat_eq (at % 4) 0 ≡ true → word_put o v at r ≡ with_word (place_of r at) (bytes_of o 4 v) r
unfolding write_of
put_is o v at r e = ap (λ (x : Option Regions). or_same r (or_none (or_outside at 4 x))) (overlaid_is r at (bytes_of o 4 v) (four_long o v)) ∙ put_by at true r (bytes_of o 4 v) (place_of r at) e

pub read_is : (o : Order) (at : ℕ) (r : Regions) → or_none (read_of o r at 4) ≡ or_none (or_outside at 4 (option_map (number_of o 4) (bytes_at (place_of r at) r)))
unfolding read_of
read_is o at r = ap (λ (x : Option (List ℕ)). or_none (or_outside at 4 (option_map (number_of o 4) x))) (held_is r at)

-- ---- offsets

pub record Fits (r : Regions) (at : ℕ) (p : Place) : Type 0 where
  pub inside : p.offset + 4 ≤ length (bytes_in p.region r)
  pub where_is : at ≡ base_of p.region + p.offset

within : (base size at n : ℕ) → offset_in base size at 4 ≡ Some n → (n + 4 ≤ size) × (at ≡ base + n)
within base size at n e =
    elim (nat_le base at && nat_le (at + 4) (base + size)) as (λ b. (nat_le base at && nat_le (at + 4) (base + size)) ≡ b → (if b then Some (at - base) else None) ≡ Some n → (n + 4 ≤ size) × (at ≡ base + n)) [
      | true ↦ λ t f. let m : at - base ≡ n = some_is f in let low : base ≤ at = grind (arith, nat_tests) in let high : at + 4 ≤ base + size = grind (arith, nat_tests) in (omega (arith, m, low, high), omega (arith, m, low))
      | false ↦ λ t f. cc
    ] refl e

fits_there : (r : Regions) (at : ℕ) (g : Region) (o : Option ℕ) (p : Place) → offset_in (base_of g) (length (bytes_in g r)) at 4 ≡ o → there g o ≡ Some p → Fits r at p
fits_there r at g None p e f = cc
fits_there r at g (Some n) p e f =
    let w = within (base_of g) (length (bytes_in g r)) at n e in
    subst (Fits r at) (place_is f) (record { inside = w.0; where_is = w.1 })

fits_first : (r : Regions) (at : ℕ) (x y : Option Place) (p : Place) → (x ≡ Some p → Fits r at p) → (y ≡ Some p → Fits r at p) → first_of x y ≡ Some p → Fits r at p
fits_first r at (Some q) y p h k e = h e
fits_first r at None y p h k e = k e

pub place_fits : (r : Regions) (at : ℕ) (p : Place) → place_of r at ≡ Some p → Fits r at p
unfolding place_of
place_fits r at p e =
    let fit : (g : Region) → in_region r at g ≡ Some p → Fits r at p = λ (g : Region). fits_there r at g (offset_in (base_of g) (length (bytes_in g r)) at 4) p refl in
    fits_first r at (in_region r at Text) _ p (fit Text) (fits_first r at (in_region r at Statics) _ p (fit Statics) (fits_first r at (in_region r at Stack) _ p (fit Stack) (fit Context))) e

-- ---- lengths

longer : (xs ys : List ℕ) (n : ℕ) → n + length ys ≤ length xs → length (overwritten xs n ys) ≡ length xs
unfolding overwritten
longer xs ys n fits = grind (arith, common_steps)

abbrev pub put_in : Region → ℕ → List ℕ → Regions → Regions
put_in g n ys r = with_bytes g (overwritten (bytes_in g r) n ys) r

as_long : (g k : Region) (n : ℕ) (ys : List ℕ) (r : Regions) → n + length ys ≤ length (bytes_in g r) → length (bytes_in k (put_in g n ys r)) ≡ length (bytes_in k r)
as_long Text Text n ys r h = longer r.text_bytes ys n h
as_long Text Statics n ys r h = refl
as_long Text Stack n ys r h = refl
as_long Text Context n ys r h = refl
as_long Statics Text n ys r h = refl
as_long Statics Statics n ys r h = longer r.data_bytes ys n h
as_long Statics Stack n ys r h = refl
as_long Statics Context n ys r h = refl
as_long Stack Text n ys r h = refl
as_long Stack Statics n ys r h = refl
as_long Stack Stack n ys r h = longer r.stack_bytes ys n h
as_long Stack Context n ys r h = refl
as_long Context Text n ys r h = refl
as_long Context Statics n ys r h = refl
as_long Context Stack n ys r h = refl
as_long Context Context n ys r h = longer r.context_bytes ys n h

place_again : (r r' : Regions) (at : ℕ) → ((k : Region) → length (bytes_in k r') ≡ length (bytes_in k r)) → place_of r' at ≡ place_of r at
unfolding place_of
place_again r r' at h =
    let f : ℕ → ℕ → ℕ → ℕ → Option Place = λ t d s c. first_of (there Text (offset_in TEXT t at 4)) (first_of (there Statics (offset_in DATA d at 4)) (first_of (there Stack (offset_in STACK s at 4)) (there Context (offset_in CONTEXT c at 4)))) in
    ap (λ (t : ℕ). f t (length r'.data_bytes) (length r'.stack_bytes) (length r'.context_bytes)) (h Text)
    ∙ (ap (λ (d : ℕ). f (length r.text_bytes) d (length r'.stack_bytes) (length r'.context_bytes)) (h Statics)
    ∙ (ap (λ (x : ℕ). f (length r.text_bytes) (length r.data_bytes) x (length r'.context_bytes)) (h Stack)
    ∙ ap (λ (c : ℕ). f (length r.text_bytes) (length r.data_bytes) (length r.stack_bytes) c) (h Context)))

-- a word that is put leaves where the words stand
pub still_there : (r : Regions) (p at : ℕ) (ys : List ℕ) → length ys ≡ 4 → (o : Option Place) → place_of r p ≡ o → place_of (with_word o ys r) at ≡ place_of r at
still_there r p at ys e None h = refl
still_there r p at ys e (Some q) h =
    let f = place_fits r p q h in
    let fits : q.offset + length ys ≤ length (bytes_in q.region r) = omega (arith, f.inside, e) in
    place_again r (with_word (Some q) ys r) at (λ (k : Region). as_long q.region k q.offset ys r fits)

-- ---- two words

pub front : (xs ys : List ℕ) (n i : ℕ) → n + length ys ≤ length xs → i < n → get_or (overwritten xs n ys) i 0 ≡ get_or xs i 0
unfolding overwritten
front xs ys n i fits h = grind (arith, common_steps)

middle : (xs ys : List ℕ) (n i : ℕ) → n + length ys ≤ length xs → n ≤ i → i < n + length ys → get_or (overwritten xs n ys) i 0 ≡ get_or ys (i - n) 0
unfolding overwritten
middle xs ys n i fits h k = grind (arith, common_steps)

pub rear : (xs ys : List ℕ) (n i : ℕ) → n + length ys ≤ length xs → n + length ys ≤ i → get_or (overwritten xs n ys) i 0 ≡ get_or xs i 0
unfolding overwritten
rear xs ys n i fits h = grind (arith, common_steps)

pub split : {P : Type 0} (i n : ℕ) → (i < n → P) → (n ≤ i → P) → P
split {P = P} i n f g = elim (nat_lt i n) as (λ b. nat_lt i n ≡ b → P) [ true ↦ λ e. f (grind (arith, nat_tests)) | false ↦ λ e. g (grind (arith, nat_tests)) ] refl

module _ (xs ys zs : List ℕ) (n m : ℕ) (y : length ys ≡ 4) (z : length zs ≡ 4) (apart : n + 4 ≤ m) (fits : m + 4 ≤ length xs) where
  fits_n : n + length ys ≤ length xs
  fits_n = omega (arith, y, apart, fits)

  fits_m : m + length zs ≤ length xs
  fits_m = omega (arith, z, fits)

  over_m : m + length zs ≤ length (overwritten xs n ys)
  over_m = omega (arith, z, fits, longer xs ys n fits_n)

  over_n : n + length ys ≤ length (overwritten xs m zs)
  over_n = omega (arith, y, apart, fits, longer xs zs m fits_m)

  abbrev SameAt : ℕ → Type 0
  SameAt k = get_or (overwritten (overwritten xs n ys) m zs) k 0 ≡ get_or (overwritten (overwritten xs m zs) n ys) k 0

  same_at : (k : ℕ) → SameAt k
  same_at k =
      split {P = SameAt k} k n
      (λ a. let b : k < m = omega (arith, a, apart) in front (overwritten xs n ys) zs m k over_m b ∙ (front xs ys n k fits_n a ∙ sym (front (overwritten xs m zs) ys n k over_n a ∙ front xs zs m k fits_m b)))
      (λ a. split {P = SameAt k} k (n + 4)
      (λ b. let c : k < m = omega (arith, b, apart) in let d : k < n + length ys = omega (arith, b, y) in
      front (overwritten xs n ys) zs m k over_m c ∙ (middle xs ys n k fits_n a d ∙ sym (middle (overwritten xs m zs) ys n k over_n a d)))
      (λ b. let c : n + length ys ≤ k = omega (arith, b, y) in
      split {P = SameAt k} k m
      (λ d. front (overwritten xs n ys) zs m k over_m d ∙ (rear xs ys n k fits_n c ∙ sym (rear (overwritten xs m zs) ys n k over_n c ∙ front xs zs m k fits_m d)))
      (λ d. split {P = SameAt k} k (m + 4)
      (λ e. let f : k < m + length zs = omega (arith, e, z) in middle (overwritten xs n ys) zs m k over_m d f ∙ sym (rear (overwritten xs m zs) ys n k over_n c ∙ middle xs zs m k fits_m d f))
      (λ e. let f : m + length zs ≤ k = omega (arith, e, z) in rear (overwritten xs n ys) zs m k over_m f ∙ (rear xs ys n k fits_n c ∙ sym (rear (overwritten xs m zs) ys n k over_n c ∙ rear xs zs m k fits_m f))))))

  over_commutes : overwritten (overwritten xs n ys) m zs ≡ overwritten (overwritten xs m zs) n ys
  over_commutes =
      let e : length (overwritten (overwritten xs n ys) m zs) ≡ length (overwritten (overwritten xs m zs) n ys) =
      longer (overwritten xs n ys) zs m over_m ∙ (longer xs ys n fits_n ∙ sym (longer (overwritten xs m zs) ys n over_n ∙ longer xs zs m fits_m)) in
      same_number_lists (overwritten (overwritten xs n ys) m zs) (overwritten (overwritten xs m zs) n ys) e (λ (k : ℕ). λ h. same_at k)

-- two words of one region that don't overlap
either_way : (xs ys zs : List ℕ) (n m : ℕ) → length ys ≡ 4 → length zs ≡ 4 → n + 4 ≤ length xs → m + 4 ≤ length xs → (n + 4 ≤ m) ⊎ (m + 4 ≤ n) → overwritten (overwritten xs n ys) m zs ≡ overwritten (overwritten xs m zs) n ys
either_way xs ys zs n m y z f g (inl h) = over_commutes xs ys zs n m y z h g
either_way xs ys zs n m y z f g (inr h) = sym (over_commutes xs zs ys m n z y h f)

abbrev pub AreApart : Place → Place → Type 0
AreApart p q = p.region ≡ q.region → (p.offset + 4 ≤ q.offset) ⊎ (q.offset + 4 ≤ p.offset)

in_commutes : (g k : Region) (n m : ℕ) (ys zs : List ℕ) (r : Regions) → length ys ≡ 4 → length zs ≡ 4 → n + 4 ≤ length (bytes_in g r) → m + 4 ≤ length (bytes_in k r) → (g ≡ k → (n + 4 ≤ m) ⊎ (m + 4 ≤ n))
    → put_in k m zs (put_in g n ys r) ≡ put_in g n ys (put_in k m zs r)
in_commutes Text Text n m ys zs r y z f h apart = ap (λ (xs : List ℕ). with_bytes Text xs r) (either_way r.text_bytes ys zs n m y z f h (apart refl))
in_commutes Text Statics n m ys zs r y z f h apart = refl
in_commutes Text Stack n m ys zs r y z f h apart = refl
in_commutes Text Context n m ys zs r y z f h apart = refl
in_commutes Statics Text n m ys zs r y z f h apart = refl
in_commutes Statics Statics n m ys zs r y z f h apart = ap (λ (xs : List ℕ). with_bytes Statics xs r) (either_way r.data_bytes ys zs n m y z f h (apart refl))
in_commutes Statics Stack n m ys zs r y z f h apart = refl
in_commutes Statics Context n m ys zs r y z f h apart = refl
in_commutes Stack Text n m ys zs r y z f h apart = refl
in_commutes Stack Statics n m ys zs r y z f h apart = refl
in_commutes Stack Stack n m ys zs r y z f h apart = ap (λ (xs : List ℕ). with_bytes Stack xs r) (either_way r.stack_bytes ys zs n m y z f h (apart refl))
in_commutes Stack Context n m ys zs r y z f h apart = refl
in_commutes Context Text n m ys zs r y z f h apart = refl
in_commutes Context Statics n m ys zs r y z f h apart = refl
in_commutes Context Stack n m ys zs r y z f h apart = refl
in_commutes Context Context n m ys zs r y z f h apart = ap (λ (xs : List ℕ). with_bytes Context xs r) (either_way r.context_bytes ys zs n m y z f h (apart refl))

far_by : (p q base n m : ℕ) → p ≢ q → p % 4 ≡ 0 → q % 4 ≡ 0 → p ≡ base + n → q ≡ base + m → m ≤ n → m + 4 ≤ n
far_by p q base n m differ e f x y l =
    split {P = m + 4 ≤ n} m n
    (λ h. omega (arith, e, f, x, y, h))
    (λ h. let same : m ≡ n = omega (arith, l, h) in absurd (differ (x ∙ (ap (λ (k : ℕ). base + k) (sym same) ∙ sym y))))

pub apart_by : (p q : ℕ) (a b : Place) → p ≢ q → nat_eq (p % 4) 0 ≡ true → nat_eq (q % 4) 0 ≡ true → p ≡ base_of a.region + a.offset → q ≡ base_of a.region + b.offset → (a.offset + 4 ≤ b.offset) ⊎ (b.offset + 4 ≤ a.offset)
apart_by p q a b differ e f x y =
    let m : p % 4 ≡ 0 = grind (arith, nat_tests) in
    let k : q % 4 ≡ 0 = grind (arith, nat_tests) in
    split {P = (a.offset + 4 ≤ b.offset) ⊎ (b.offset + 4 ≤ a.offset)} a.offset b.offset
    (λ l. inl (omega (arith, m, k, x, y, l)))
    (λ l. inr (far_by p q (base_of a.region) a.offset b.offset differ m k x y l))

pub commutes_by : (p q : ℕ) (r : Regions) (ys zs : List ℕ) → length ys ≡ 4 → length zs ≡ 4 → p ≢ q → nat_eq (p % 4) 0 ≡ true → nat_eq (q % 4) 0 ≡ true → (a b : Option Place) → place_of r p ≡ a → place_of r q ≡ b
    → with_word b zs (with_word a ys r) ≡ with_word a ys (with_word b zs r)
commutes_by p q r ys zs y z differ e f None b g h = refl
commutes_by p q r ys zs y z differ e f (Some a) None g h = refl
commutes_by p q r ys zs y z differ e f (Some a) (Some b) g h =
    let u = place_fits r p a g in
    let v = place_fits r q b h in
    in_commutes a.region b.region a.offset b.offset ys zs r y z u.inside v.inside (λ same. apart_by p q a b differ e f u.where_is (v.where_is ∙ ap (λ (k : Region). base_of k + b.offset) (sym same)))
