-- Patched bytes, word by word.
use Rattle.std.proofs.Common.{◌≡◌, ◌≢◌, ◌≤◌, ◌<◌, ◌⊎◌, inl, inr, refl, sym, ap, ◌∙◌, subst, ℕ, zero, suc, ◌+◌, ◌-◌, ◌*◌, ◌/◌, ◌%◌, ◌^◌, Bool, true, false, cond, if◌then◌else◌, List, [], ◌∷◌, ◌++◌, length, take, drop, Option, Some, None, nat_eq, arith, length-append, length-drop, append_assoc, drop-drop}
use Rattle.std.specs.Prelude.{slice_get}
use Rattle.std.specs.List.{AllByRecursion}
use Rattle.std.proofs.lemmas.List.{take-append-drop, take-append-le, drop-append-le, length-take-le}
use Rattle.std.proofs.Math.Seq.{drop-append-add, drop-append_seam}
use Rattle.byteorder.specs.Numbers.{big_number-reads_back, little_number-reads_back, big_from-take, little_from-take}
use Rattle.ldb_words.specs.declared.kinds.Order.{Order}
use Rattle.ldb_words.specs.declared.kinds.Order.TheVariants.{Little, Big}
use Rattle.machine_state.specs.declared.layout.TheConstants.{MIPS}
use Rattle.machine_state.specs.Regions.{number_of, bytes_of}
use Rattle.machine_state.specs.Sound.{AreBytes}
use Rattle.machine_state.proofs.SoundMemory.{below_append, below_take, below_drop, four_bytes, bytes_of_four}
use Rattle.machine_state.proofs.Words.{length-bytes_of}
use Rattle.obj_file.specs.declared.object.Form.{Form}
use Rattle.obj_file.specs.declared.object.Form.TheVariants.{High, Low, Jump, Word}
use Rattle.obj_file.specs.declared.object.Object.{Object}
use Rattle.obj_file.specs.declared.object.Use.{Use}
use Rattle.obj_placed.specs.Fields.{mips_word, sparc_word, patched_word, order_of}
use Rattle.obj_placed.specs.Patched.{wrapped, patched_at, stands_in, patched_by, patched}
use Rattle.obj_placed.specs.Placed.{IsFound, joined, placed_text, placed_bytes}
use Rattle.obj_placed.specs.Words.{word_at, IsApart, IsAlone, ArePatched}

-- ---- four bytes written over others

over : (at : ℕ) (mid bytes : List ℕ) → List ℕ
over at mid bytes = take at bytes ++ (mid ++ drop (at + 4) bytes)

length_over : (at : ℕ) (mid bytes : List ℕ) → length mid ≡ 4 → at + 4 ≤ length bytes → length (take at bytes ++ (mid ++ drop (at + 4) bytes)) ≡ length bytes
length_over at mid bytes m h =
    let a = length-append (take at bytes) (mid ++ drop (at + 4) bytes) in
    let b = length-append mid (drop (at + 4) bytes) in
    let t = length-take-le at bytes (omega (arith, h)) in
    let d = length-drop (at + 4) bytes in
    omega (arith, a, b, t, d, m, h)

-- what lies before
before_over : (at size p : ℕ) (rest bytes : List ℕ) → p ≤ length bytes → at + size ≤ p → take size (drop at (take p bytes ++ rest)) ≡ take size (drop at bytes)
before_over at size p rest bytes h k =
    let front : List ℕ = take p bytes in
    let f : length front ≡ p = length-take-le p bytes h in
    let d : length (drop at front) ≡ length front - at = length-drop at front in
    let one : (ys : List ℕ) → take size (drop at (front ++ ys)) ≡ take size (drop at front) =
    (λ ys. ap (take size) (drop-append-le at front ys (omega (arith, f, k))) ∙ take-append-le size (drop at front) ys (omega (arith, f, d, k))) in
    one rest ∙ (sym (one (drop p bytes)) ∙ ap (λ xs. take size (drop at xs)) (take-append-drop p bytes))

-- what lies behind
behind_over : (at p : ℕ) (mid bytes : List ℕ) → length mid ≡ 4 → p ≤ length bytes → p + 4 ≤ at → drop at (take p bytes ++ (mid ++ drop (p + 4) bytes)) ≡ drop at bytes
behind_over at p mid bytes m h k =
    let front : List ℕ = take p bytes ++ mid in
    let f : length front ≡ p + 4 = length-append (take p bytes) mid ∙ (let t = length-take-le p bytes h in omega (arith, t, m)) in
    let n : at ≡ length front + (at - (p + 4)) = omega (arith, f, k) in
    ap (drop at) (sym (append_assoc (take p bytes) mid (drop (p + 4) bytes)))
    ∙ (ap (λ i. drop i (front ++ drop (p + 4) bytes)) n
    ∙ (drop-append-add front (drop (p + 4) bytes) (at - (p + 4))
    ∙ (drop-drop (at - (p + 4)) (p + 4) bytes ∙ ap (λ i. drop i bytes) (let e : p + 4 + (at - (p + 4)) ≡ at = omega (arith, k) in e))))

apart_over : (at size p : ℕ) (mid bytes : List ℕ) → length mid ≡ 4 → p + 4 ≤ length bytes → (p + 4 ≤ at) ⊎ (at + size ≤ p)
    → take size (drop at (take p bytes ++ (mid ++ drop (p + 4) bytes))) ≡ take size (drop at bytes)
apart_over at size p mid bytes m h (inl k) = ap (take size) (behind_over at p mid bytes m (omega (arith, h)) k)
apart_over at size p mid bytes m h (inr k) = before_over at size p (mid ++ drop (p + 4) bytes) bytes (omega (arith, h)) k

there_over : (p : ℕ) (rest bytes : List ℕ) → p ≤ length bytes → drop p (take p bytes ++ rest) ≡ rest
there_over p rest bytes h = ap (λ i. drop i (take p bytes ++ rest)) (sym (length-take-le p bytes h)) ∙ drop-append_seam (take p bytes) rest

-- ---- numbers of four bytes

number_of_four : (order : Order) (xs : List ℕ) → number_of order 4 (take 4 xs) ≡ number_of order 4 xs
number_of_four Little xs = little_from-take 0 4 4 xs (omega arith)
number_of_four Big xs = big_from-take 0 4 4 xs (omega arith)

same_word : (order : Order) (xs ys : List ℕ) → take 4 xs ≡ take 4 ys → number_of order 4 xs ≡ number_of order 4 ys
same_word order xs ys e = sym (number_of_four order xs) ∙ (ap (number_of order 4) e ∙ number_of_four order ys)

reads_back : (order : Order) (w : ℕ) (rest : List ℕ) → w < 256 ^ 4 → number_of order 4 (bytes_of order 4 w ++ rest) ≡ w
reads_back Little w rest h = little_number-reads_back 4 w rest h
reads_back Big w rest h = big_number-reads_back 4 w rest h

mips_fits : (form : Form) (address word : ℕ) → address < 2 ^ 32 → word < 2 ^ 32 → mips_word form address word < 256 ^ 4
mips_fits High address word a w = omega (arith, a, w)
mips_fits Low address word a w = omega (arith, a, w)
mips_fits Jump address word a w = omega (arith, a, w)
mips_fits Word address word a w = omega (arith, a, w)

sparc_fits : (form : Form) (stands address word : ℕ) → address < 2 ^ 32 → word < 2 ^ 32 → sparc_word form stands address word < 256 ^ 4
sparc_fits High stands address word a w = omega (arith, a, w)
sparc_fits Low stands address word a w = omega (arith, a, w)
sparc_fits Jump stands address word a w = omega (arith, a, w)
sparc_fits Word stands address word a w = omega (arith, a, w)

either_fits : (b : Bool) (x y : ℕ) → x < 256 ^ 4 → y < 256 ^ 4 → (if b then x else y) < 256 ^ 4
either_fits true x y h k = h
either_fits false x y h k = k

word_fits : (target : ℕ) (form : Form) (stands address word : ℕ) → address < 2 ^ 32 → word < 2 ^ 32 → patched_word target form stands address word < 256 ^ 4
unfolding patched_word
word_fits target form stands address word a w = either_fits (nat_eq target MIPS) _ _ (mips_fits form address word a w) (sparc_fits form stands address word a w)

wrapped_fits : (n : ℕ) → wrapped n < 2 ^ 32
wrapped_fits n = omega arith

-- ---- one use

module _ (target base : ℕ) where
  abbrev asked : Use → ℕ → List ℕ → ℕ
  asked u address bytes = patched_word target u.form (wrapped (base + u.at)) (wrapped (address + u.add)) (word_at target u.at bytes)

  length_one : (address : ℕ) (u : Use) (bytes : List ℕ) → u.at + 4 ≤ length bytes → length (patched_at target base address u bytes) ≡ length bytes
  unfolding patched_at
  length_one address u bytes h = length_over u.at (bytes_of (order_of target) 4 (asked u address bytes)) bytes (length-bytes_of (order_of target) (asked u address bytes)) h

  bytes_one : (address : ℕ) (u : Use) (bytes : List ℕ) → AreBytes bytes → AreBytes (patched_at target base address u bytes)
  unfolding patched_at
  bytes_one address u bytes h =
      below_append 256 (take u.at bytes) _ (below_take 256 u.at bytes h)
      (below_append 256 (bytes_of (order_of target) 4 (asked u address bytes)) (drop (u.at + 4) bytes) (bytes_of_four (order_of target) (asked u address bytes)) (below_drop 256 (u.at + 4) bytes h))

  apart_one : (at size address : ℕ) (u : Use) (bytes : List ℕ) → u.at + 4 ≤ length bytes → (u.at + 4 ≤ at) ⊎ (at + size ≤ u.at)
      → take size (drop at (patched_at target base address u bytes)) ≡ take size (drop at bytes)
  unfolding patched_at
  apart_one at size address u bytes h k = apart_over at size u.at (bytes_of (order_of target) 4 (asked u address bytes)) bytes (length-bytes_of (order_of target) (asked u address bytes)) h k

  used_one : (address : ℕ) (u : Use) (bytes : List ℕ) → AreBytes bytes → u.at + 4 ≤ length bytes → word_at target u.at (patched_at target base address u bytes) ≡ asked u address bytes
  unfolding patched_at
  used_one address u bytes b h =
      let w : ℕ = asked u address bytes in
      let fits : w < 256 ^ 4 = word_fits target u.form (wrapped (base + u.at)) (wrapped (address + u.add)) (word_at target u.at bytes) (wrapped_fits (address + u.add)) (four_bytes (order_of target) (drop u.at bytes) (below_drop 256 u.at bytes b)) in
      ap (number_of (order_of target) 4) (there_over u.at (bytes_of (order_of target) 4 w ++ drop (u.at + 4) bytes) bytes (omega (arith, h)))
      ∙ reads_back (order_of target) w (drop (u.at + 4) bytes) fits

  -- ---- a use that may stand elsewhere

  abbrev step : Bool → Option ℕ → Use → List ℕ → List ℕ
  step b o u bytes = if b then patched_by target base o u bytes else bytes

  length_step : (b : Bool) (o : Option ℕ) (u : Use) (bytes : List ℕ) → (b ≡ true → u.at + 4 ≤ length bytes) → length (step b o u bytes) ≡ length bytes
  length_step false o u bytes h = refl
  length_step true None u bytes h = refl
  length_step true (Some a) u bytes h = length_one a u bytes (h refl)

  bytes_step : (b : Bool) (o : Option ℕ) (u : Use) (bytes : List ℕ) → AreBytes bytes → AreBytes (step b o u bytes)
  bytes_step false o u bytes h = h
  bytes_step true None u bytes h = h
  bytes_step true (Some a) u bytes h = bytes_one a u bytes h

  apart_step : (at size : ℕ) (b : Bool) (o : Option ℕ) (u : Use) (bytes : List ℕ) → (b ≡ true → u.at + 4 ≤ length bytes) → (b ≡ true → (u.at + 4 ≤ at) ⊎ (at + size ≤ u.at))
      → take size (drop at (step b o u bytes)) ≡ take size (drop at bytes)
  apart_step at size false o u bytes h k = refl
  apart_step at size true None u bytes h k = refl
  apart_step at size true (Some a) u bytes h k = apart_one at size a u bytes (h refl) (k refl)

  used_step : (b : Bool) (o : Option ℕ) (a : ℕ) (u : Use) (bytes : List ℕ) → b ≡ true → o ≡ Some a → AreBytes bytes → u.at + 4 ≤ length bytes → word_at target u.at (step b o u bytes) ≡ asked u a bytes
  used_step b o a u bytes e f h k =
      subst (λ (c : Bool). word_at target u.at (step c o u bytes) ≡ asked u a bytes) (sym e)
      (subst (λ (p : Option ℕ). word_at target u.at (step true p u bytes) ≡ asked u a bytes) (sym f) (used_one a u bytes h k))

  -- ---- uses in order

  module _ (f : List ℕ → Option ℕ) (in_text : Bool) where
    abbrev next : Use → List ℕ → List ℕ
    next u bytes = step (stands_in in_text u) (f u.name) u bytes

    -- each use that stands there lies in so many bytes
    abbrev AreIn : ℕ → List Use → Type 0
    AreIn size us = AllByRecursion (IsFound f in_text size) us

    in_next : (u : Use) (us : List Use) (bytes : List ℕ) → AreIn (length bytes) (u ∷ us) → AreIn (length (next u bytes)) us
    in_next u us bytes h = subst (λ n. AreIn n us) (sym (length_step (stands_in in_text u) (f u.name) u bytes (λ e. (h.0 e).1))) h.1

    length_all : (us : List Use) (bytes : List ℕ) → AreIn (length bytes) us → length (patched target base f in_text us bytes) ≡ length bytes
    length_all [] bytes h = refl
    length_all (u ∷ us) bytes h = length_all us (next u bytes) (in_next u us bytes h) ∙ length_step (stands_in in_text u) (f u.name) u bytes (λ e. (h.0 e).1)

    bytes_all : (us : List Use) (bytes : List ℕ) → AreBytes bytes → AreBytes (patched target base f in_text us bytes)
    bytes_all [] bytes h = h
    bytes_all (u ∷ us) bytes h = bytes_all us (next u bytes) (bytes_step (stands_in in_text u) (f u.name) u bytes h)

    unused_all : (us : List Use) (bytes : List ℕ) (at size : ℕ) → AreIn (length bytes) us → AllByRecursion (IsApart in_text at size) us → take size (drop at (patched target base f in_text us bytes)) ≡ take size (drop at bytes)
    unused_all [] bytes at size h k = refl
    unused_all (u ∷ us) bytes at size h k =
        unused_all us (next u bytes) at size (in_next u us bytes h) k.1 ∙ apart_step at size (stands_in in_text u) (f u.name) u bytes (λ e. (h.0 e).1) k.0

    -- uses behind one that is alone are apart from it
    all_apart : (us : List Use) (at : ℕ) → ((k : ℕ) (v : Use) → slice_get us k ≡ Some v → IsApart in_text at 4 v) → AllByRecursion (IsApart in_text at 4) us
    all_apart [] at h = tt
    all_apart (v ∷ us) at h = (h zero v refl, all_apart us at (λ k w e. h (suc k) w e))

    one_some : (u v : Use) → Some u ≡ Some v → u ≡ v
    one_some u v e = cc

    used_all : (us : List Use) (bytes : List ℕ) (j a : ℕ) (u : Use) → AreIn (length bytes) us → AreBytes bytes → IsAlone in_text us j u → f u.name ≡ Some a
        → word_at target u.at (patched target base f in_text us bytes) ≡ asked u a bytes
    used_all [] bytes j a u h b k e = absurd (none_some u k.is)
      where
        none_some : (v : Use) → ◌≡◌ {A = Option Use} None (Some v) → ⊥
        none_some v e = cc
    used_all (v ∷ us) bytes zero a u h b k e =
        let same : v ≡ u = one_some v u k.is in
        let inside : IsFound f in_text (length bytes) u = subst (IsFound f in_text (length bytes)) same h.0 in
        let rest : AllByRecursion (IsApart in_text u.at 4) us = all_apart us u.at (λ i w g. k.apart (suc i) w (λ z. absurd (omega (arith, z))) g) in
        same_word (order_of target) (drop u.at (patched target base f in_text us (next v bytes))) (drop u.at (next v bytes)) (unused_all us (next v bytes) u.at 4 (in_next v us bytes h) rest)
        ∙ (ap (λ w. word_at target u.at (next w bytes)) same ∙ used_step (stands_in in_text u) (f u.name) a u bytes k.stands e b (inside k.stands).1)
    used_all (v ∷ us) bytes (suc j) a u h b k e =
        let apart : IsApart in_text u.at 4 v = k.apart zero v (λ z. absurd (omega (arith, z))) refl in
        let alone : IsAlone in_text us j u = record { is = k.is; stands = k.stands; apart = λ i w n g. k.apart (suc i) w (λ z. n (let y : i ≡ j = omega (arith, z) in y)) g } in
        let kept : word_at target u.at (next v bytes) ≡ word_at target u.at bytes =
        same_word (order_of target) (drop u.at (next v bytes)) (drop u.at bytes) (apart_step u.at 4 (stands_in in_text v) (f v.name) v bytes (λ z. (h.0 z).1) apart) in
        used_all us (next v bytes) j a u (in_next v us bytes h) (bytes_step (stands_in in_text v) (f v.name) v bytes b) alone e
        ∙ ap (λ w. patched_word target u.form (wrapped (base + u.at)) (wrapped (a + u.add)) w) kept

    all_patched : (us : List Use) (bytes : List ℕ) → AreIn (length bytes) us → ArePatched target base f in_text us bytes (patched target base f in_text us bytes)
    all_patched us bytes h = record {
      size = length_all us bytes h;
      are_bytes = bytes_all us bytes;
      unused = λ at size k. unused_all us bytes at size h k;
      used = λ b j a u k e. used_all us bytes j a u h b k e;
    }

pub text_patched : (f : List ℕ → Option ℕ) (base : ℕ) (o : Object) → AllByRecursion (IsFound f true (length o.text)) o.uses → ArePatched o.target base f true o.uses o.text (placed_text f base o)
unfolding placed_text
text_patched f base o h = all_patched o.target base f true o.uses o.text h

pub statics_patched : (f : List ℕ → Option ℕ) (o : Object) → AllByRecursion (IsFound f false (length (joined o.statics))) o.uses → ArePatched o.target 0 f false o.uses (joined o.statics) (placed_bytes f o)
unfolding placed_bytes
statics_patched f o h = all_patched o.target 0 f false o.uses (joined o.statics) h
