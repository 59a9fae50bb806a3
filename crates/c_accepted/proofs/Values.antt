-- An expression that begins an object of a scalar type, or a string that begins an array, gives what the leaves may hold.
use Rattle.std.proofs.Common.{◌≡◌, ◌≤◌, ◌<◌, refl, sym, ap, subst, arith, ℕ, zero, suc, ◌+◌, ◌-◌, ◌%◌, ◌^◌, Bool, true, false, ◌||◌, true≢false, List, [], ◌∷◌, ◌++◌, length, map, replicate, Option, Some, None}
use Rattle.std.specs.Prelude.{ℤ, nat_le}
use Rattle.std.proofs.Common.{pos, negsuc, w8}
use Rattle.std.specs.Int.RustNames.{unsigned_abs}
use Rattle.std.specs.Int.{cast_signed, cast_unsigned}
use Rattle.std.proofs.lemmas.Int.{of_z-to_z}
use Rattle.ldb_words.specs.Word.{word_of_signed}
use Rattle.ldb_words.specs.declared.kinds.Kind.TheVariants.{Byte, Word, Address}
use Rattle.c_symbol.specs.declared.symbol.LeafKind.TheVariants as leaf
use Rattle.c_trees.specs.Expressions.{Tree, Leaf}
use Rattle.c_tree.specs.declared.rows.Program.{Program}
use Rattle.c_operators.specs.Bits.{low_byte}
use Rattle.c_typing.specs.Plain.{Plain, Char, Int, Unsigned, Void, Pointer, Array, Struct, same}
use Rattle.c_defs.specs.Depths.{deepest}
use Rattle.c_typing.specs.declared.constant.Constant.{Constant}
use Rattle.c_typing.specs.declared.constant.Constant.TheVariants.{Number, Variable, Undefined}
use Rattle.c_judge.specs.Answers.{Answer, Known, Unknown, Broken, ◌then◌}
use Rattle.c_judge.specs.Judgement.{judged}
use Rattle.c_judge.specs.Places.{place_of}
use Rattle.c_mentions.specs.Literals.{in_tree, texts}
use Rattle.c_scope.specs.Environment.{Environment, scope_of}
use Rattle.c_scope.specs.Declarators.{constant}
use Rattle.c_scope.specs.Findings.{nothing, holds}
use Rattle.c_initial.specs.Initials.{Spot, spot, text_of, number, number_in, fits, is_spot, is_characters, is_address, address_found}
use Rattle.c_initial.specs.Begins.{Begin, Bits, Text, bits_of, character, characters, spot_begin, address_begin}
use Rattle.c_file.specs.Files.{State}
use Rattle.c_file.specs.Made.{started}
use Rattle.c_linkage.proofs.Telling.{same_plain}
use Rattle.c_accepted.proofs.Growth.{both_parts}
use Rattle.c_accepted.proofs.KindsOfLeaves.{times_of, kinds_of, Hold}
use Rattle.c_accepted.proofs.Filled.{ValueGives}

-- ---- bytes

of_bytes : (z : ℤ) (k : ℕ) → cast_unsigned w8 z ≡ k → unsigned_abs z ≤ 2 ^ 7 → k < 2 ^ 8 → word_of_signed z % 2 ^ 8 ≡ k
of_bytes (pos m) k e a h = omega (arith, e, h)
of_bytes (negsuc m) k e a h = omega (arith, e, a, h)

abs_byte : (n : ℕ) → n < 2 ^ 8 → unsigned_abs (cast_signed w8 n) ≤ 2 ^ 7
abs_byte n h = grind arith

low_bits : (n : ℕ) → low_byte n % 2 ^ 8 ≡ n % 2 ^ 8
low_bits n =
    let m : n % 2 ^ 8 < 2 ^ 8 = omega arith in
    of_bytes (cast_signed w8 (n % 2 ^ 8)) (n % 2 ^ 8) (of_z-to_z w8 (n % 2 ^ 8) m) (abs_byte (n % 2 ^ 8) m) m

-- the low byte of one is itself
pub byte_again : (n : ℕ) → low_byte (low_byte n) ≡ low_byte n
byte_again n = ap (λ k. word_of_signed (cast_signed w8 k)) (low_bits n)

-- ---- expressions

pub holds_true : (b : Bool) (r at : ℕ) → holds b r at ≡ nothing → b ≡ true
holds_true true r at h = refl
holds_true false r at h = absurd (let x : Broken r at ≡ nothing = h in cc)

pub or_right : (a b : Bool) → a ≡ false → (a || b) ≡ true → b ≡ true
or_right false b e h = h
or_right true b e h = absurd (true≢false e)

pub at_most : (n k : ℕ) → nat_le n k ≡ true → n ≤ k
at_most n k h = grind arith

-- what begins a pointer and is no number is a string or a place
module _ (v : Environment) where
  not_number : (t : Plain) (e : Tree) (c : Constant) → number_in (Known c) ≡ None → is_address v t e (Known c) ≡ true → (is_characters v t (text_of e) || is_spot v t (spot v e)) ≡ true
  not_number t e (Number n) h k = absurd (let x : Some n ≡ None = h in cc)
  not_number t e Variable h k = k
  not_number t e Undefined h k = k

  pub spotted : (t : Plain) (e : Tree) (a : Answer Constant) → number_in a ≡ None → (a then λ c. holds (is_address v t e (Known c)) 12 (place_of e).at) ≡ nothing → (is_characters v t (text_of e) || is_spot v t (spot v e)) ≡ true
  spotted t e (Known c) h k = not_number t e c h (holds_true (is_address v t e (Known c)) 12 (place_of e).at k)
  spotted t e (Unknown n) h k = absurd (let x : Unknown n ≡ nothing = k in cc)
  spotted t e (Broken r at) h k = absurd (let x : Broken r at ≡ nothing = k in cc)

module _ (p : Program) (q : State) (unit : ℕ) (v : Environment) where
  bytes_give : (text : List ℕ) (n : ℕ) → length text ≤ n → Hold p (times_of n (Byte ∷ [])) (map (started q unit) (map character text ++ replicate (n - length text) (Bits 0)))
  bytes_give [] zero h = tt
  bytes_give [] (suc n) h = subst (λ m. Hold p (Byte ∷ times_of n (Byte ∷ [])) (map (started q unit) (replicate m (Bits 0)))) (let e : suc n ≡ suc n - 0 = omega arith in e) (refl, zeros_give n)
    where
      zeros_give : (n : ℕ) → Hold p (times_of n (Byte ∷ [])) (map (started q unit) (replicate n (Bits 0)))
      zeros_give zero = tt
      zeros_give (suc n) = (refl, zeros_give n)
  bytes_give (c ∷ text) zero h = absurd (omega (arith, h))
  bytes_give (c ∷ text) (suc n) h =
      let rest = bytes_give text n (omega (arith, h)) in
      let e : n - length text ≡ suc n - suc (length text) = omega arith in
      (byte_again c, subst (λ m. Hold p (times_of n (Byte ∷ [])) (map (started q unit) (map character text ++ replicate m (Bits 0)))) e rest)

  characters_give : (t : Plain) (n : ℕ) (o : Option (List ℕ)) → fits t n o ≡ true → Hold p (times_of n (kinds_of v.defs 63 t)) (map (started q unit) (characters n o))
  characters_give t n None h = absurd (true≢false (sym h))
  characters_give t n (Some text) h =
      let f = both_parts (same t Char) (nat_le (length text) n) h in
      subst (λ u. Hold p (times_of n (kinds_of v.defs 63 u)) (map (started q unit) (characters n (Some text)))) (sym (same_plain t Char f.0)) (bytes_give text n (at_most (length text) n f.1))

  char_gives : (o : Option ℕ) → Hold p (Byte ∷ []) (map (started q unit) (bits_of Char o))
  char_gives None = (refl, tt)
  char_gives (Some n) = (byte_again n, tt)

  word_gives : (o : Option ℕ) → Hold p (Word ∷ []) (map (started q unit) (bits_of Int o))
  word_gives None = (tt, tt)
  word_gives (Some n) = (tt, tt)

  unsigned_gives : (o : Option ℕ) → Hold p (Word ∷ []) (map (started q unit) (bits_of Unsigned o))
  unsigned_gives None = (tt, tt)
  unsigned_gives (Some n) = (tt, tt)

  -- ---- addresses

  place_gives : (t : Plain) (s : Option Spot) → is_spot v t s ≡ true → Hold p (Address ∷ []) (map (started q unit) (spot_begin v s))
  place_gives t None h = absurd (true≢false (sym h))
  place_gives t (Some s) h = (tt, tt)

  text_strings : (e : Tree) (text : List ℕ) → text_of e ≡ Some text → length (texts (in_tree e)) ≡ 1
  text_strings (Leaf at leaf.Text x) text h = refl
  text_strings (Leaf at leaf.Name x) text h = absurd (let f : None ≡ Some text = h in cc)
  text_strings (Leaf at (leaf.Constant i) x) text h = absurd (let f : None ≡ Some text = h in cc)
  text_strings _ text h = absurd (let f : None ≡ Some text = h in cc)

  address_gives : (k : ℕ) (t : Plain) (e : Tree) → address_found v t e ≡ nothing → k + length (texts (in_tree e)) ≤ length p.strings → Hold p (Address ∷ []) (map (started q unit) (address_begin v k e (number v e)))
  address_gives k t e h l = by (number v e) refl (text_of e) refl
    where
      by : (o : Option ℕ) → number v e ≡ o → (x : Option (List ℕ)) → text_of e ≡ x
          → Hold p (Address ∷ []) (map (started q unit) (elim o as (λ _. List Begin) [ Some n ↦ Bits 0 ∷ [] | None ↦ (elim x as (λ _. List Begin) [ Some text ↦ Text k ∷ [] | None ↦ spot_begin v (spot v e) ]) ]))
      by (Some n) f x g = (refl, tt)
      by None f (Some text) g = let one = text_strings e text g in let j : k < length p.strings = omega (arith, l, one) in (j, tt)
      by None f None g =
          let z = spotted v t e (constant (judged (scope_of v) e)) f h in
          place_gives t (spot v e) (or_right (is_characters v t (text_of e)) (is_spot v t (spot v e)) (ap (is_characters v t) g) z)

  -- what an expression gives
  pub value_gives : (e : Tree) → ValueGives p q unit v e
  unfolding deepest
  value_gives e k Char i c h l = char_gives (number v e)
  value_gives e k Int i c h l = word_gives (number v e)
  value_gives e k Unsigned i c h l = unsigned_gives (number v e)
  value_gives e k Void i c h l = absurd (true≢false (sym c))
  value_gives e k (Pointer t) i c h l = address_gives k t e h l
  value_gives e k (Array t m) i c h l = characters_give t m (text_of e) (holds_true (fits t m (text_of e)) 13 (place_of e).at h)
  value_gives e k (Struct x) i c h l = absurd (let f : Broken 13 (place_of e).at ≡ nothing = h in cc)
