-- Where what stood at some points is put back, a word that was put at one of them since is gone.
use Rattle.std.proofs.Common.{◌≡◌, ◌≢◌, ◌∙◌, ◌⊎◌, inl, inr, refl, sym, ap, subst, ℕ, ◌+◌, ◌%◌, ◌≤◌, nat_eq, Bool, true, false, List, [], ◌∷◌, ◌++◌, length, take, drop, Option, Some, None, option_map, arith, length-drop}
use Rattle.std.proofs.lemmas.Bool.Decides.{nat_tests}
use Rattle.ldb_words.specs.declared.kinds.Order.{Order}
use Rattle.machine_state.specs.Regions.{Regions, read_of, write_of, overlaid, overwritten, or_outside, number_of, bytes_of}
use Rattle.machine_state.specs.Sound.{AreBytes, IsMemory}
use Rattle.frame_bytes.specs.Bytes.{Bytes, or_none}
use Rattle.break_plant.specs.Planted.{word_at}
use Rattle.table_points.specs.declared.row.Point.{Point}
use Rattle.debug_side.specs.Wrote.{or_same, word_put}
use Rattle.debug_side.specs.There.{there_at, words_at, put_there, all_there, IsAmong}
use Rattle.debug_side.proofs.Places.{Region, Text, Statics, Stack, Context, bytes_in, with_bytes, Place, place_of, with_word, four_long, put_is, read_is, place_fits, still_there}
use Rattle.debug_side.proofs.Undone.{four_again, below_drop, all_of, twice}
use Rattle.debug_side.proofs.Undoing.{number_at, not_some, test_true, read_some, read_word, puts_commute}

-- ---- in one region

region_bytes : (g : Region) (r : Regions) → IsMemory r → AreBytes (bytes_in g r)
region_bytes Text r h = h.text
region_bytes Statics r h = h.statics.each
region_bytes Stack r h = h.stack.each
region_bytes Context r h = h.context.each

same_bytes : (g : Region) (xs : List ℕ) (r : Regions) → xs ≡ bytes_in g r → with_bytes g xs r ≡ r
same_bytes Text xs r e = ap (λ (l : List ℕ). record r { text_bytes = l }) e
same_bytes Statics xs r e = ap (λ (l : List ℕ). record r { data_bytes = l }) e
same_bytes Stack xs r e = ap (λ (l : List ℕ). record r { stack_bytes = l }) e
same_bytes Context xs r e = ap (λ (l : List ℕ). record r { context_bytes = l }) e

put_twice : (g : Region) (n : ℕ) (ys zs : List ℕ) (r : Regions) → with_bytes g (overwritten (bytes_in g (with_bytes g (overwritten (bytes_in g r) n ys) r)) n zs) (with_bytes g (overwritten (bytes_in g r) n ys) r) ≡ with_bytes g (overwritten (overwritten (bytes_in g r) n ys) n zs) r
put_twice Text n ys zs r = refl
put_twice Statics n ys zs r = refl
put_twice Stack n ys zs r = refl
put_twice Context n ys zs r = refl

-- the bytes of the number that is there
there_now : (o : Order) (w n : ℕ) (xs : List ℕ) → AreBytes xs → n + 4 ≤ length xs → number_of o 4 (drop n xs) ≡ w → bytes_of o 4 w ≡ take 4 (drop n xs)
there_now o w n xs b fits e = ap (bytes_of o 4) (sym e) ∙ four_again o (drop n xs) (omega (arith, fits, length-drop n xs)) (below_drop n xs b)

over_same : (xs zs : List ℕ) (n : ℕ) → length zs ≡ 4 → zs ≡ take 4 (drop n xs) → overwritten xs n zs ≡ xs
unfolding overwritten
over_same xs zs n z e = ap (λ (k : ℕ). take n xs ++ (zs ++ drop (n + k) xs)) z ∙ (ap (λ (l : List ℕ). take n xs ++ (l ++ drop (n + 4) xs)) e ∙ all_of xs n)

-- ---- one word

module _ (o : Order) (r : Regions) (h : IsMemory r) where
  some_number : {x y : ℕ} → Some x ≡ Some y → x ≡ y
  some_number e = cc

  -- a word that stands there is put
  same_in : (w at : ℕ) (a : Option Place) → place_of r at ≡ a → number_at o a r ≡ Some w → with_word a (bytes_of o 4 w) r ≡ r
  same_in w at None p e = refl
  same_in w at (Some a) p e =
      let u = place_fits r at a p in
      same_bytes a.region (overwritten (bytes_in a.region r) a.offset (bytes_of o 4 w)) r
      (over_same (bytes_in a.region r) (bytes_of o 4 w) a.offset (four_long o w) (there_now o w a.offset (bytes_in a.region r) (region_bytes a.region r h) u.inside (some_number e)))

  same_word : (w at : ℕ) → or_none (read_of o r at 4) ≡ Some w → word_put o w at r ≡ r
  same_word w at e = let s = read_some o at w r e in put_is o w at r s.0 ∙ same_in w at (place_of r at) refl s.1

  -- it is put again, behind another one
  back_in : (v w at : ℕ) (a : Option Place) → place_of r at ≡ a → number_at o a r ≡ Some w → with_word a (bytes_of o 4 w) (with_word a (bytes_of o 4 v) r) ≡ r
  back_in v w at None p e = refl
  back_in v w at (Some a) p e =
      let u = place_fits r at a p in
      let xs = bytes_in a.region r in
      put_twice a.region a.offset (bytes_of o 4 v) (bytes_of o 4 w) r
      ∙ same_bytes a.region (overwritten (overwritten xs a.offset (bytes_of o 4 v)) a.offset (bytes_of o 4 w)) r
      (twice xs (bytes_of o 4 v) (bytes_of o 4 w) a.offset u.inside (four_long o v) (four_long o w) (there_now o w a.offset xs (region_bytes a.region r h) u.inside (some_number e)))

  pub back_word : (v w at : ℕ) → or_none (read_of o r at 4) ≡ Some w → word_put o w at (word_put o v at r) ≡ r
  back_word v w at e =
      let s = read_some o at w r e in
      ap (word_put o w at) (put_is o v at r s.0)
      ∙ (put_is o w at (with_word (place_of r at) (bytes_of o 4 v) r) s.0
      ∙ (ap (λ (b : Option Place). with_word b (bytes_of o 4 w) (with_word (place_of r at) (bytes_of o 4 v) r)) (still_there r at at (bytes_of o 4 v) (four_long o v) (place_of r at) refl)
      ∙ back_in v w at (place_of r at) refl s.1))

-- where no word can be read, none is put
some_none : {x : ℕ} → Some x ≡ None → ⊥
some_none e = cc

no_place : (o : Order) (r : Regions) (at : ℕ) (a : Option Place) → nat_eq (at % 4) 0 ≡ true → or_none (or_outside at 4 (number_at o a r)) ≡ None → (ys : List ℕ) → with_word a ys r ≡ r
no_place o r at None f e ys = refl
no_place o r at (Some a) f e ys = absurd (some_none (sym (test_true at (number_of o 4 (drop a.offset (bytes_in a.region r))) f) ∙ e))

not_aligned : (at : ℕ) (r : Regions) (x : Option Regions) → nat_eq (at % 4) 0 ≡ false → or_same r (or_none (or_outside at 4 x)) ≡ r
not_aligned at r None f = refl
not_aligned at r (Some y) f = rw f refl

none_by : (o : Order) (v at : ℕ) (r : Regions) (b : Bool) → nat_eq (at % 4) 0 ≡ b → or_none (read_of o r at 4) ≡ None → word_put o v at r ≡ r
unfolding write_of
none_by o v at r true f e = put_is o v at r f ∙ no_place o r at (place_of r at) f (sym (read_is o at r) ∙ e) (bytes_of o 4 v)
none_by o v at r false f e = not_aligned at r (overlaid r at (bytes_of o 4 v)) f

none_word : (o : Order) (v at : ℕ) (r : Regions) → or_none (read_of o r at 4) ≡ None → word_put o v at r ≡ r
none_word o v at r e = none_by o v at r (nat_eq (at % 4) 0) refl e

-- ---- all of them

module _ (b : Bytes) (h : IsMemory b.regions) where
  abbrev kept : List Point → Regions → Regions
  kept ps r = all_there b.order (words_at b ps) r

  abbrev put_by : (at : ℕ) → Option ℕ → Regions → Regions
  put_by at x r = put_there b.order (record { at = at; word = x }) r

  -- what stands there is put
  one_same : (at : ℕ) (x : Option ℕ) → word_at b at ≡ x → put_by at x b.regions ≡ b.regions
  one_same at None e = refl
  one_same at (Some w) e = same_word b.order b.regions h w at (sym (read_word b at) ∙ e)

  all_same : (ps : List Point) → kept ps b.regions ≡ b.regions
  all_same [] = refl
  all_same (p ∷ ps) = ap (kept ps) (one_same p.at (word_at b p.at) refl) ∙ all_same ps

  -- behind another word there
  one_back : (v at : ℕ) (x : Option ℕ) → word_at b at ≡ x → put_by at x (word_put b.order v at b.regions) ≡ b.regions
  one_back v at None e = none_word b.order v at b.regions (sym (read_word b at) ∙ e)
  one_back v at (Some w) e = back_word b.order b.regions h v w at (sym (read_word b at) ∙ e)

  -- behind another word elsewhere
  other_by : (v at p w : ℕ) (c : Bool) → nat_eq (at % 4) 0 ≡ c → p ≢ at → word_at b p ≡ Some w → word_put b.order w p (word_put b.order v at b.regions) ≡ word_put b.order v at b.regions
  unfolding write_of
  other_by v at p w true f differ e =
      let read = sym (read_word b p) ∙ e in
      let s = read_some b.order p w b.regions read in
      puts_commute b.order w v at p b.regions (λ k. differ (sym k)) f s.0 ∙ ap (word_put b.order v at) (same_word b.order b.regions h w p read)
  other_by v at p w false f differ e =
      let same : word_put b.order v at b.regions ≡ b.regions = not_aligned at b.regions (overlaid b.regions at (bytes_of b.order 4 v)) f in
      ap (word_put b.order w p) same ∙ (same_word b.order b.regions h w p (sym (read_word b p) ∙ e) ∙ sym same)

  one_other : (v at p : ℕ) (x : Option ℕ) → p ≢ at → word_at b p ≡ x → put_by p x (word_put b.order v at b.regions) ≡ word_put b.order v at b.regions
  one_other v at p None differ e = refl
  one_other v at p (Some w) differ e = other_by v at p w (nat_eq (at % 4) 0) refl differ e

  first_or_not : (v at : ℕ) (p : Point) (ps : List Point) (c : Bool) → nat_eq p.at at ≡ c → (IsAmong at ps → kept ps (word_put b.order v at b.regions) ≡ b.regions) → IsAmong at (p ∷ ps) → kept (p ∷ ps) (word_put b.order v at b.regions) ≡ b.regions
  first_or_not v at p ps true f more among =
      let e : p.at ≡ at = grind (arith, nat_tests) in
      ap (kept ps) (subst (λ (q : ℕ). put_by q (word_at b q) (word_put b.order v at b.regions) ≡ b.regions) (sym e) (one_back v at (word_at b at) refl)) ∙ all_same ps
  first_or_not v at p ps false f more among =
      let differ : p.at ≢ at = λ e. grind (arith, nat_tests) in
      ap (kept ps) (one_other v at p.at (word_at b p.at) differ refl)
      ∙ elim among [
        | inl e ↦ absurd (differ e)
        | inr k ↦ more k
      ]

  -- The memory is as it was read.
  pub restored : (v at : ℕ) (ps : List Point) → IsAmong at ps → kept ps (word_put b.order v at b.regions) ≡ b.regions
  restored v at [] among = absurd among
  restored v at (p ∷ ps) among = first_or_not v at p ps (nat_eq p.at at) refl (restored v at ps) among

  -- so it is where none was put
  pub unchanged : (ps : List Point) → kept ps b.regions ≡ b.regions
  unchanged ps = all_same ps
