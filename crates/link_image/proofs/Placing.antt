-- Where a linker places static objects they may lie, and the image that it makes of them is one.
use Rattle.std.proofs.Common.{◌≡◌, ◌≢◌, ◌⊎◌, inl, inr, ℕ, zero, suc, ◌+◌, ◌-◌, ◌%◌, ◌<◌, ◌≤◌, Bool, true, false, ◌&&◌, nat_le, List, [], ◌∷◌, ◌++◌, length, map, take, drop, get_or, Option, Some, None, refl, sym, ap, ap₂, ◌∙◌, subst, length-append, length-drop, arith}
use Rattle.std.specs.Prelude.{slice_get}
use Rattle.std.specs.Int.{next_multiple_of}
use Rattle.std.specs.List.{AllByRecursion, list_all}
use Rattle.std.proofs.lemmas.Bool.Decides.{nat_tests}
use Rattle.std.proofs.lemmas.List.{length-take-le}
use Rattle.machine_state.specs.Regions.{zeros}
use Rattle.machine_state.specs.declared.layout.TheConstants.{TEXT, DATA, DATA_SIZE}
use Rattle.obj_file.specs.declared.object.StaticDef.{StaticDef}
use Rattle.obj_file.specs.declared.object.Object.{Object}
use Rattle.obj_placed.specs.Placed.{IsPlacing, IsResolved, all_statics, joined, cut, placed_text, placed_texts, placed_bytes, placed_statics}
use Rattle.obj_placed.specs.Words.{ArePatched}
use Rattle.obj_placed.proofs.WordByWord.{text_patched, statics_patched}
use Rattle.link_image.specs.Linked.{room_of, addresses_from, linked_address, linked_addresses, linked_text, linked_statics, data_from, next_address}
use Rattle.link_image.specs.Conditions.{has_whole_words, are_fitting}
use Rattle.link_image.specs.Tables.{IsUnfit}
use Rattle.link_image.specs.declared.fault.LinkFault.{LinkFault}
use Rattle.link_image.specs.declared.fault.LinkFault.TheVariants as fault
use Rattle.link_image.proofs.Lists.{zeros_length}

-- ---- addresses

roomy : (s : StaticDef) → length s.bytes + 4 ≤ room_of s
roomy s = omega arith

room_is_aligned : (s : StaticDef) → room_of s % 4 ≡ 0
room_is_aligned s = omega arith

pub and_parts : (p q : Bool) → (p && q) ≡ true → (p ≡ true) × (q ≡ true)
and_parts true q e = (refl, e)
and_parts false q e = absurd (no e)
  where
    no : false ≡ true → ⊥
    no e = cc

some_same : {A : Type 0} (x y : A) → Some x ≡ Some y → x ≡ y
some_same x y e = cc

none_some : {A : Type 0} (x : A) → ◌≡◌ {A = Option A} None (Some x) → ⊥
none_some x e = cc

same_count : (at : ℕ) (ss : List StaticDef) → length (addresses_from at ss) ≡ length ss
same_count at [] = refl
same_count at (s ∷ ss) = ap suc (same_count (at + room_of s) ss)

all_aligned : (at : ℕ) (ss : List StaticDef) (j a : ℕ) → at % 4 ≡ 0 → slice_get (addresses_from at ss) j ≡ Some a → a % 4 ≡ 0
all_aligned at [] j a m e = absurd (none_some a e)
all_aligned at (s ∷ ss) zero a m e = subst (λ n. n % 4 ≡ 0) (some_same at a e) m
all_aligned at (s ∷ ss) (suc j) a m e = all_aligned (at + room_of s) ss j a (let r = room_is_aligned s in omega (arith, m, r)) e

all_inside : (at : ℕ) (ss : List StaticDef) (j a : ℕ) (t : StaticDef) → DATA ≤ at → are_fitting at ss ≡ true → slice_get ss j ≡ Some t → slice_get (addresses_from at ss) j ≡ Some a
    → (DATA ≤ a) × (a + length t.bytes ≤ DATA + DATA_SIZE)
all_inside at [] j a t d f e g = absurd (none_some t e)
all_inside at (s ∷ ss) zero a t d f e g =
    let here : at ≡ a = some_same at a g in
    let it : s ≡ t = some_same s t e in
    let h : nat_le (at + length s.bytes) (DATA + DATA_SIZE) ≡ true = (and_parts (nat_le (at + length s.bytes) (DATA + DATA_SIZE)) (are_fitting (at + room_of s) ss) f).0 in
    let below : at + length s.bytes ≤ DATA + DATA_SIZE = grind (arith, nat_tests) in
    subst (λ (n : ℕ). (DATA ≤ n) × (n + length t.bytes ≤ DATA + DATA_SIZE)) here (d, subst (λ (x : StaticDef). at + length x.bytes ≤ DATA + DATA_SIZE) it below)
all_inside at (s ∷ ss) (suc j) a t d f e g =
    all_inside (at + room_of s) ss j a t (omega (arith, d)) (and_parts (nat_le (at + length s.bytes) (DATA + DATA_SIZE)) (are_fitting (at + room_of s) ss) f).1 e g

-- each address is as great as the first
least : (at : ℕ) (ss : List StaticDef) (j a : ℕ) → slice_get (addresses_from at ss) j ≡ Some a → at ≤ a
least at [] j a e = absurd (none_some a e)
least at (s ∷ ss) zero a e = let h : at ≡ a = some_same at a e in omega (arith, h)
least at (s ∷ ss) (suc j) a e = let h = least (at + room_of s) ss j a e in omega (arith, h)

behind_first : (at : ℕ) (s t : StaticDef) (ss : List StaticDef) (k a b : ℕ) → s ≡ t → at ≡ a → slice_get (addresses_from (at + room_of s) ss) k ≡ Some b → a + length t.bytes + 4 ≤ b
behind_first at s t ss k a b e f g =
    let h = least (at + room_of s) ss k b g in
    let r = roomy s in
    subst (λ (x : StaticDef). a + length x.bytes + 4 ≤ b) e (omega (arith, f, h, r))

all_apart : (at : ℕ) (ss : List StaticDef) (j k a b : ℕ) (s t : StaticDef) → j ≢ k → slice_get ss j ≡ Some s → slice_get ss k ≡ Some t → slice_get (addresses_from at ss) j ≡ Some a → slice_get (addresses_from at ss) k ≡ Some b
    → (a + length s.bytes + 4 ≤ b) ⊎ (b + length t.bytes + 4 ≤ a)
all_apart at [] j k a b s t n e f g h = absurd (none_some s e)
all_apart at (x ∷ ss) zero zero a b s t n e f g h = absurd (n refl)
all_apart at (x ∷ ss) zero (suc k) a b s t n e f g h = inl (behind_first at x s ss k a b (some_same x s e) (some_same at a g) h)
all_apart at (x ∷ ss) (suc j) zero a b s t n e f g h = inr (behind_first at x t ss j b a (some_same x t f) (some_same at b h) g)
all_apart at (x ∷ ss) (suc j) (suc k) a b s t n e f g h = all_apart (at + room_of x) ss j k a b s t (λ z. n (ap suc z)) e f g h

pub placing_of : (ss : List StaticDef) → are_fitting DATA ss ≡ true → IsPlacing ss (addresses_from DATA ss)
placing_of ss f = record {
  count = same_count DATA ss;
  aligned = λ j a e. all_aligned DATA ss j a (omega arith) e;
  inside = λ j a s e g. all_inside DATA ss j a s (omega arith) f e g;
  apart = λ j k a b s t n e f g h. all_apart DATA ss j k a b s t n e f g h;
}

-- ---- how long texts and data are

module _ (f : List ℕ → Option ℕ) where
  pub whole_texts : (base : ℕ) (os : List Object) → AllByRecursion (IsResolved f) os → list_all has_whole_words os ≡ true → length (placed_texts f base os) % 4 ≡ 0
  whole_texts base [] r w = refl
  whole_texts base (o ∷ os) r w =
      let parts = and_parts (has_whole_words o) (list_all has_whole_words os) w in
      let first : length o.text % 4 ≡ 0 = (let h = parts.0 in grind (arith, nat_tests)) in
      let size : length (placed_text f base o) ≡ length o.text = (text_patched f base o r.0.text).size in
      let rest = whole_texts (base + length o.text) os r.1 parts.1 in
      let all = length-append (placed_text f base o) (placed_texts f (base + length o.text) os) in
      omega (arith, first, size, rest, all)

  -- as many bytes as each static object has
  abbrev sizes : List StaticDef → List ℕ
  sizes [] = []
  sizes (s ∷ ss) = length s.bytes ∷ sizes ss

  sizes_after : (ss ts : List StaticDef) → sizes (ss ++ ts) ≡ sizes ss ++ sizes ts
  sizes_after [] ts = refl
  sizes_after (s ∷ ss) ts = ap (λ l. length s.bytes ∷ l) (sizes_after ss ts)

  cut_sizes : (ss : List StaticDef) (bytes : List ℕ) → length bytes ≡ length (joined ss) → map length (cut ss bytes) ≡ sizes ss
  cut_sizes [] bytes e = refl
  cut_sizes (s ∷ ss) bytes e =
      let all = length-append s.bytes (joined ss) in
      let first : length (take (length s.bytes) bytes) ≡ length s.bytes = length-take-le (length s.bytes) bytes (omega (arith, e, all)) in
      let rest : length (drop (length s.bytes) bytes) ≡ length (joined ss) = length-drop (length s.bytes) bytes ∙ omega (arith, e, all) in
      ap₂ (λ n l. n ∷ l) first (cut_sizes ss (drop (length s.bytes) bytes) rest)

  map_after : (xs ys : List (List ℕ)) → map length (xs ++ ys) ≡ map length xs ++ map length ys
  map_after [] ys = refl
  map_after (x ∷ xs) ys = ap (λ l. length x ∷ l) (map_after xs ys)

  placed_sizes : (os : List Object) → AllByRecursion (IsResolved f) os → map length (placed_statics f os) ≡ sizes (all_statics os)
  placed_sizes [] r = refl
  placed_sizes (o ∷ os) r =
      map_after (cut o.statics (placed_bytes f o)) (placed_statics f os)
      ∙ (ap₂ (λ l m. l ++ m) (cut_sizes o.statics (placed_bytes f o) (statics_patched f o r.0.statics).size) (placed_sizes os r.1) ∙ sym (sizes_after o.statics (all_statics os)))

  head_same : (n m : ℕ) (ns ms : List ℕ) → n ∷ ns ≡ m ∷ ms → (n ≡ m) × (ns ≡ ms)
  head_same n m ns ms e = (ap (λ l. get_or l 0 0) e, ap (λ l. drop 1 l) e)

  data_short : (there at : ℕ) (ss : List StaticDef) (ps : List (List ℕ)) → map length ps ≡ sizes ss → are_fitting at ss ≡ true → there + DATA ≤ at → there ≤ DATA_SIZE → there + length (data_from there (addresses_from at ss) ps) ≤ DATA_SIZE
  data_short there at [] ps e f l m = omega (arith, m)
  data_short there at (s ∷ ss) [] e f l m = omega (arith, m)
  data_short there at (s ∷ ss) (p ∷ ps) e f l m =
      let parts = and_parts (nat_le (at + length s.bytes) (DATA + DATA_SIZE)) (are_fitting (at + room_of s) ss) f in
      let below : at + length s.bytes ≤ DATA + DATA_SIZE = (let h = parts.0 in grind (arith, nat_tests)) in
      let same = head_same (length p) (length s.bytes) (map length ps) (sizes ss) e in
      let size : length p ≡ length s.bytes = same.0 in
      let r = roomy s in
      let rest = data_short (there + (at - DATA - there) + length p) (at + room_of s) ss ps same.1 parts.1 (omega (arith, size, l, r)) (omega (arith, size, l, below)) in
      let z = zeros_length (at - DATA - there) in
      let a = length-append (zeros (at - DATA - there) ++ p) (data_from (there + (at - DATA - there) + length p) (addresses_from (at + room_of s) ss) ps) in
      let b = length-append (zeros (at - DATA - there)) p in
      let whole : there + length ((zeros (at - DATA - there) ++ p) ++ data_from (there + (at - DATA - there) + length p) (addresses_from (at + room_of s) ss) ps) ≤ DATA_SIZE = omega (arith, rest, z, a, b) in
      whole

pub short_statics : (os : List Object) → AllByRecursion (IsResolved (linked_address os)) os → are_fitting DATA (all_statics os) ≡ true → length (linked_statics os) ≤ DATA_SIZE
unfolding linked_statics
short_statics os r f =
    let h = data_short (linked_address os) 0 DATA (all_statics os) (placed_statics (linked_address os) os) (placed_sizes (linked_address os) os r) f (omega arith) (omega arith) in
    omega (arith, h)

pub whole_text : (os : List Object) → AllByRecursion (IsResolved (linked_address os)) os → list_all has_whole_words os ≡ true → length (linked_text os) % 4 ≡ 0
unfolding linked_text
whole_text os r w = whole_texts (linked_address os) TEXT os r w

-- ---- static objects of which some lie in the region

and_assoc : (p q r : Bool) → (p && (q && r)) ≡ ((p && q) && r)
and_assoc true q r = refl
and_assoc false q r = refl

fit_after : (at : ℕ) (ss ts : List StaticDef) → are_fitting at (ss ++ ts) ≡ (are_fitting at ss && are_fitting (next_address at ss) ts)
fit_after at [] ts = refl
fit_after at (s ∷ ss) ts =
    ap (λ b. nat_le (at + length s.bytes) (DATA + DATA_SIZE) && b) (fit_after (at + room_of s) ss ts)
    ∙ and_assoc (nat_le (at + length s.bytes) (DATA + DATA_SIZE)) (are_fitting (at + room_of s) ss) (are_fitting (next_address (at + room_of s) ss) ts)

pub fit_step : (at next : ℕ) (o : Object) (ss : List StaticDef) (os : List Object) → ss ≡ o.statics → are_fitting at ss ≡ true → next ≡ next_address at ss
    → are_fitting next (all_statics os) ≡ are_fitting at (all_statics (o ∷ os))
fit_step at next o ss os e h n =
    ap (λ m. are_fitting m (all_statics os)) n
    ∙ (sym (fit_after at ss (all_statics os) ∙ ap (λ b. b && are_fitting (next_address at ss) (all_statics os)) h) ∙ ap (λ l. are_fitting at (l ++ all_statics os)) e)

unfit_same : (a b : ℕ) (ss ts : List StaticDef) (f : LinkFault) → are_fitting a ss ≡ are_fitting b ts → IsUnfit a ss f → IsUnfit b ts f
unfit_same a b ss ts fault.Target e h = absurd h
unfit_same a b ss ts fault.Words e h = absurd h
unfit_same a b ss ts fault.Size e h = absurd h
unfit_same a b ss ts fault.Statics e h = sym e ∙ h
unfit_same a b ss ts fault.Rows e h = absurd h
unfit_same a b ss ts fault.Uses e h = absurd h
unfit_same a b ss ts (fault.Unresolved n) e h = absurd h
unfit_same a b ss ts (fault.Doubled n) e h = absurd h
unfit_same a b ss ts fault.NoMemory e h = tt

unfit_first : (at : ℕ) (o : Object) (ss : List StaticDef) (os : List Object) (f : LinkFault) → ss ≡ o.statics → IsUnfit at ss f → IsUnfit at (all_statics (o ∷ os)) f
unfit_first at o ss os fault.Target e h = absurd h
unfit_first at o ss os fault.Words e h = absurd h
unfit_first at o ss os fault.Size e h = absurd h
unfit_first at o ss os fault.Statics e h =
    sym (ap (λ l. are_fitting at (l ++ all_statics os)) e) ∙ (fit_after at ss (all_statics os) ∙ ap (λ b. b && are_fitting (next_address at ss) (all_statics os)) h)
unfit_first at o ss os fault.Rows e h = absurd h
unfit_first at o ss os fault.Uses e h = absurd h
unfit_first at o ss os (fault.Unresolved n) e h = absurd h
unfit_first at o ss os (fault.Doubled n) e h = absurd h
unfit_first at o ss os fault.NoMemory e h = tt

pub unfit_step : (first at : ℕ) (all : List Object) (o : Object) (ss : List StaticDef) (os left : List Object) (f : LinkFault) → ss ≡ o.statics → left ≡ o ∷ os
    → are_fitting at (all_statics left) ≡ are_fitting first (all_statics all) → IsUnfit at ss f → IsUnfit first (all_statics all) f
unfit_step first at all o ss os left f e l i h =
    unfit_same at first (all_statics (o ∷ os)) (all_statics all) f (ap (λ (ps : List Object). are_fitting at (all_statics ps)) (sym l) ∙ i) (unfit_first at o ss os f e h)
