-- The bytes of an image have nothing wrong, and are those of no other image.
use Rattle.std.proofs.Common.{◌≡◌, ◌∙◌, refl, sym, ap, ℕ, ◌+◌, ◌%◌, ◌^◌, ◌<◌, ◌≤◌, nat_le, nat_eq, nat_lt, ◌&&◌, ◌||◌, Bool, true, false, List, ◌++◌, length, drop, Option, Some, None, Result, Ok, Err, arith, lit<, lit≤, inl, inr}
use Rattle.std.specs.Prelude.{◌⊎◌, if◌then◌else◌}
use Rattle.std.proofs.lemmas.Bool.Decides.{nat_tests}
use Rattle.std.proofs.Math.Seq.{take-append_seam, drop-append_seam}
use Rattle.std.proofs.lemmas.List.{length-append}
use Rattle.std.proofs.lemmas.Nat.{from_be_bytes-to_be_bytes_4}
use Rattle.machine_state.specs.declared.layout.TheConstants.{MIPS, SPARC, TEXT}
use Rattle.obj_file.specs.declared.image.ImageFault.{ImageFault}
use Rattle.obj_file.specs.declared.image.ImageFault.TheVariants.{BadImage, NoMemory}
use Rattle.obj_file.specs.Image.{ImageFields, IsImage, magic, image_bytes, byte_at, half_at, word_at, holds, are_there, wrong_in_header, wrong_in_body, first_wrong, Reads}

size : (i : ImageFields) → length (image_bytes i) ≡ 20 + (length i.text + length i.statics)
unfolding image_bytes
size i = omega (arith, length-append i.text i.statics)

long : (i : ImageFields) (n : ℕ) → n ≤ 20 → nat_le n (length (image_bytes i)) ≡ true
long i n h = let e = size i in grind (arith, nat_tests)

found : (b : Bool) (x n : ℕ) → b ≡ true → x ≡ n → (if b then Some x else None) ≡ Some n
found true x n e f = ap Some f
found false x n e f = cc

-- ---- what stands in the header

module _ (i : ImageFields) (f : IsImage i) where
  at_magic : word_at 0 (image_bytes i) ≡ Some magic
  unfolding word_at image_bytes
  at_magic = found (nat_le (0 + 4) (length (image_bytes i))) _ magic (long i 4 (lit≤ tt)) (from_be_bytes-to_be_bytes_4 magic (lit< tt))

  at_version : byte_at 4 (image_bytes i) ≡ Some 1
  unfolding byte_at image_bytes
  at_version = found (nat_le (4 + 1) (length (image_bytes i))) _ 1 (long i 5 (lit≤ tt)) refl

  at_target : byte_at 5 (image_bytes i) ≡ Some i.target
  unfolding byte_at image_bytes
  at_target = found (nat_le (5 + 1) (length (image_bytes i))) _ i.target (long i 6 (lit≤ tt)) (omega arith)

  at_zeros : half_at 6 (image_bytes i) ≡ Some 0
  unfolding half_at image_bytes
  at_zeros = found (nat_le (6 + 2) (length (image_bytes i))) _ 0 (long i 8 (lit≤ tt)) refl

  entry_fits : i.entry < 2 ^ 32
  entry_fits = let a = f.entry_below in let b = f.most_text in omega arith

  at_entry : word_at 8 (image_bytes i) ≡ Some i.entry
  unfolding word_at image_bytes
  at_entry = found (nat_le (8 + 4) (length (image_bytes i))) _ i.entry (long i 12 (lit≤ tt)) (from_be_bytes-to_be_bytes_4 i.entry entry_fits)

  at_text : word_at 12 (image_bytes i) ≡ Some (length i.text)
  unfolding word_at image_bytes
  at_text =
      let b = f.most_text in
      found (nat_le (12 + 4) (length (image_bytes i))) _ (length i.text) (long i 16 (lit≤ tt)) (from_be_bytes-to_be_bytes_4 (length i.text) (omega arith))

  at_data : word_at 16 (image_bytes i) ≡ Some (length i.statics)
  unfolding word_at image_bytes
  at_data =
      let b = f.most_data in
      found (nat_le (16 + 4) (length (image_bytes i))) _ (length i.statics) (long i 20 (lit≤ tt)) (from_be_bytes-to_be_bytes_4 (length i.statics) (omega arith))

  at_body : drop 20 (image_bytes i) ≡ i.text ++ i.statics
  unfolding image_bytes
  at_body = refl

-- ---- nothing is wrong

pass : (at : ℕ) (b : Bool) (more : Option ℕ) → b ≡ true → more ≡ None → (if b then more else Some at) ≡ None
pass at true more e f = f
pass at false more e f = cc

passes : (o : Option ℕ) (n : ℕ) (test : ℕ → Bool) → o ≡ Some n → test n ≡ true → holds o test ≡ true
passes o n test e f = rw e f

known_target : (n : ℕ) → (n ≡ MIPS) ⊎ (n ≡ SPARC) → (nat_eq n MIPS || nat_eq n SPARC) ≡ true
known_target n (inl e) = rw e refl
known_target n (inr e) = rw e refl

all_of : (a b : Bool) → a ≡ true → b ≡ true → (a && b) ≡ true
all_of a b e f = rw (e, f) refl

module _ (i : ImageFields) (f : IsImage i) where
  right_length : (nat_le 4 (length i.text) && nat_le (length i.text) (2 ^ 24) && nat_eq (length i.text % 4) 0) ≡ true
  right_length =
      let a = f.least_text in let b = f.most_text in let c = f.whole_words in
      let x : nat_le 4 (length i.text) ≡ true = grind (arith, nat_tests) in
      let y : nat_le (length i.text) (2 ^ 24) ≡ true = grind (arith, nat_tests) in
      let z : nat_eq (length i.text % 4) 0 ≡ true = grind (arith, nat_tests) in
      all_of _ _ (all_of _ _ x y) z

  right_data : nat_le (length i.statics) (2 ^ 20) ≡ true
  right_data = let a = f.most_data in grind (arith, nat_tests)

  right_entry : (nat_eq (i.entry % 4) 0 && nat_le TEXT i.entry && nat_lt i.entry (TEXT + length i.text)) ≡ true
  right_entry =
      let a = f.entry_aligned in let b = f.entry_from in let c = f.entry_below in
      let x : nat_eq (i.entry % 4) 0 ≡ true = grind (arith, nat_tests) in
      let y : nat_le TEXT i.entry ≡ true = grind (arith, nat_tests) in
      let z : nat_lt i.entry (TEXT + length i.text) ≡ true = grind (arith, nat_tests) in
      all_of _ _ (all_of _ _ x y) z

  header_right : wrong_in_header (image_bytes i) ≡ None
  unfolding wrong_in_header
  header_right =
      pass 0 _ _ (passes _ magic (λ n. nat_eq n magic) (at_magic i f) refl)
      (pass 4 _ _ (passes _ 1 (λ n. nat_eq n 1) (at_version i f) refl)
      (pass 5 _ _ (passes _ i.target (λ n. nat_eq n MIPS || nat_eq n SPARC) (at_target i f) (known_target i.target f.known))
      (pass 6 _ _ (passes _ 0 (λ n. nat_eq n 0) (at_zeros i f) refl)
      (pass 8 _ _ (passes _ i.entry (λ n. true) (at_entry i f) refl)
      (pass 12 _ _ (passes _ (length i.text) (λ n. nat_le 4 n && nat_le n (2 ^ 24) && nat_eq (n % 4) 0) (at_text i f) right_length)
      (pass 16 _ _ (passes _ (length i.statics) (λ n. nat_le n (2 ^ 20)) (at_data i f) right_data) refl))))))

  body_right : wrong_in_body i.entry (length i.text) (length i.statics) (image_bytes i) ≡ None
  unfolding wrong_in_body
  body_right =
      let e = size i in
      let x : are_there 20 (length i.text) (image_bytes i) ≡ true = grind (arith, nat_tests) in
      let y : are_there (20 + length i.text) (length i.statics) (image_bytes i) ≡ true = grind (arith, nat_tests) in
      let z : nat_eq (length (image_bytes i)) (20 + length i.text + length i.statics) ≡ true = grind (arith, nat_tests) in
      pass 20 _ _ x (pass _ _ _ y (pass 8 _ _ right_entry (pass _ _ _ z refl)))

  pub nothing_wrong : first_wrong (image_bytes i) ≡ None
  unfolding first_wrong
  nothing_wrong = rw (header_right, at_entry i f, at_text i f, at_data i f) body_right

-- ---- one image for some bytes

same_fields : (i j : ImageFields) → i.target ≡ j.target → i.entry ≡ j.entry → i.text ≡ j.text → i.statics ≡ j.statics → i ≡ j
same_fields i j a b c d =
    ap (λ n. record { target = n; entry = i.entry; text = i.text; statics = i.statics }) a
    ∙ ap (λ n. record { target = j.target; entry = n; text = i.text; statics = i.statics }) b
    ∙ ap (λ n. record { target = j.target; entry = j.entry; text = n; statics = i.statics }) c
    ∙ ap (λ n. record { target = j.target; entry = j.entry; text = j.text; statics = n }) d

some_inj : (a b : ℕ) → Some a ≡ Some b → a ≡ b
some_inj a b e = cc

front : (xs ys us vs : List ℕ) → length xs ≡ length us → xs ++ ys ≡ us ++ vs → xs ≡ us
front xs ys us vs n e = sym (take-append_seam xs ys) ∙ (rw (n, e) (take-append_seam us vs))

back : (xs ys us vs : List ℕ) → length xs ≡ length us → xs ++ ys ≡ us ++ vs → ys ≡ vs
back xs ys us vs n e = sym (drop-append_seam xs ys) ∙ (rw (n, e) (drop-append_seam us vs))

pub one_image : (i j : ImageFields) → IsImage i → IsImage j → image_bytes i ≡ image_bytes j → i ≡ j
one_image i j f g e =
    let t : i.target ≡ j.target = some_inj _ _ (sym (at_target i f) ∙ (ap (byte_at 5) e ∙ at_target j g)) in
    let n : i.entry ≡ j.entry = some_inj _ _ (sym (at_entry i f) ∙ (ap (word_at 8) e ∙ at_entry j g)) in
    let l : length i.text ≡ length j.text = some_inj _ _ (sym (at_text i f) ∙ (ap (word_at 12) e ∙ at_text j g)) in
    let b : i.text ++ i.statics ≡ j.text ++ j.statics = sym (at_body i f) ∙ (ap (drop 20) e ∙ at_body j g) in
    same_fields i j t n (front _ _ _ _ l b) (back _ _ _ _ l b)

-- what a reader may answer to the bytes of an image
pub read_back : (i : ImageFields) (r : Result ImageFields ImageFault) → IsImage i → Reads (image_bytes i) r
    → ((j : ImageFields) → r ≡ Ok j → IsImage j) → (r ≡ Ok i) ⊎ (r ≡ Err NoMemory)
read_back i (Ok j) f reads well = inl (ap Ok (sym (one_image i j f (well j refl) reads.1)))
read_back i (Err (BadImage at)) f reads well = let e : ◌≡◌ {A = Option ℕ} None (Some at) = sym (nothing_wrong i f) ∙ reads in cc
read_back i (Err NoMemory) f reads well = inr refl
