-- Places of stops that are noted in one pass over a code.
use Rattle.std.proofs.Common.{◌≡◌, ℕ, suc, ◌+◌, ◌<◌, ◌≤◌, List, [], ◌∷◌, length, Option, Some, None, Bool, true, false, true≢false, refl, sym, ap, ◌∙◌, arith, subst, get_or, ◌⊎◌, inl, inr}
use Rattle.std.proofs.lemmas.Option.{slice_get-get_or}
use Rattle.std.specs.Prelude.{slice_get, option_map, if◌then◌else◌, ◌==◌}
use Rattle.std.specs.List.{AllZip, range_with_len}
use Rattle.c_tree.specs.Points.{first_of}
use Rattle.slot_ir.specs.declared.code.SlotOp.{SlotOp}
use Rattle.slot_ir.specs.declared.code.SlotOp.TheVariants.{Stop}
use Rattle.slot_gen.specs.Rows.{AreConsecutive, StandsAt, is_stop}

-- where one of the first n operators stops at a point, so does that at the point's place
abbrev pub Noted : List SlotOp → ℕ → ℕ → List ℕ → Type 0
Noted code first n places = (i j k : ℕ) → k < n → slice_get code k ≡ Some (Stop (first + i)) → slice_get places i ≡ Some j → slice_get code j ≡ Some (Stop (first + i))

pub none_noted : (code : List SlotOp) (first : ℕ) (places : List ℕ) → Noted code first 0 places
none_noted code first places i j k lt = absurd (omega (arith, lt))

-- ---- one more operator

same_number : (x y : ℕ) → (x == y) ≡ true → x ≡ y
same_number x y h = grind (arith, h)

self_number : (x : ℕ) → (x == x) ≡ true
self_number x = grind arith

pub stop_there : (q : ℕ) (o : SlotOp) → is_stop q o ≡ true → o ≡ Stop q
stop_there q (Stop r) h = ap Stop (sym (same_number q r h))
stop_there q _ h = absurd (true≢false (sym h))

pub stop_seen : (q : ℕ) (o : SlotOp) → o ≡ Stop q → is_stop q o ≡ true
stop_seen q o e = ap (is_stop q) e ∙ self_number q

noted_in : (o : Option ℕ) (at j : ℕ) → option_map (λ _. at) o ≡ Some j → j ≡ at
noted_in None at j e = absurd (cc e)
noted_in (Some i) at j e = cc e

some_same : {A : Type 0} (x y : A) → Some x ≡ Some y → x ≡ y
some_same x y e = cc e

last_or_before : (k n : ℕ) → k < n + 1 → (k < n) ⊎ (k ≡ n)
last_or_before k n h = grind (arith, h)

abbrev NotesOne : ℕ → SlotOp → ℕ → List ℕ → List ℕ → Type 0
NotesOne first op at old new = (i : ℕ) → slice_get new i ≡ if is_stop (first + i) op then option_map (λ _. at) (slice_get old i) else slice_get old i

pub one_noted : (code : List SlotOp) (first n at : ℕ) (op : SlotOp) (d : SlotOp) (old new : List ℕ) → n < length code → op ≡ get_or code n d → at ≡ n → Noted code first n old → NotesOne first op at old new → Noted code first (n + 1) new
one_noted code first n at op d old new within is same noted one i j k lt stands got = by (is_stop (first + i) op) refl (one i)
  where
    here : slice_get code n ≡ Some op
    here = slice_get-get_or code n d within ∙ ap Some (sym is)

    before : is_stop (first + i) op ≡ false → slice_get old i ≡ Some j → (k < n) ⊎ (k ≡ n) → slice_get code j ≡ Some (Stop (first + i))
    before e g (inl less) = noted i j k less stands g
    before e g (inr last) =
        let seen = some_same op (Stop (first + i)) (sym here ∙ ap (slice_get code) (sym last) ∙ stands) in
        absurd (true≢false (sym (stop_seen (first + i) op seen) ∙ e))

    by : (b : Bool) → is_stop (first + i) op ≡ b → slice_get new i ≡ (if b then option_map (λ _. at) (slice_get old i) else slice_get old i) → slice_get code j ≡ Some (Stop (first + i))
    by true e h = ap (slice_get code) (noted_in (slice_get old i) at j (sym h ∙ got) ∙ same) ∙ here ∙ ap Some (stop_there (first + i) op e)
    by false e h = before e (sym h ∙ got) (last_or_before k n lt)

-- ---- and then each point's

placed : (code : List SlotOp) (a : ℕ) (qs is : List ℕ) → length is ≡ length qs → qs ≡ range_with_len a (length qs) → ((i j : ℕ) → slice_get is i ≡ Some j → StandsAt code (a + i) j) → AllZip (StandsAt code) qs is
placed code a [] [] many e h = tt
placed code a [] (i ∷ is) many e h = absurd (omega (arith, many))
placed code a (q ∷ qs) [] many e h = absurd (omega (arith, many))
placed code a (q ∷ qs) (i ∷ is) many e h =
    let first : q ≡ a = cc e in
    let rest : qs ≡ range_with_len (a + 1) (length qs) = cc e in
    let here : a + 0 ≡ q = omega (arith, first) in (
      subst (λ r. StandsAt code r i) here (h 0 i refl),
      placed code (a + 1) qs is (omega (arith, many)) rest λ m j g. let behind : a + suc m ≡ a + 1 + m = omega arith in subst (λ r. StandsAt code r j) behind (h (suc m) j g),
    )

pub all_placed : (code : List SlotOp) (points places : List ℕ) (first n : ℕ) → first ≡ first_of points → length places ≡ length points → length code ≤ n → Noted code first n places → AreConsecutive points → AllZip (StandsAt code) points places
all_placed code points places first n is many whole noted consecutive =
    placed code first points places many (consecutive ∙ ap (λ a. range_with_len a (length points)) (sym is)) λ i j g c.
    noted i j c.0 (omega (arith, c.1, whole)) (slice_get-get_or code c.0 (Stop (first + i)) c.1 ∙ ap Some c.2) g

-- and of the same code, points and places
pub placed_row : (code code' : List SlotOp) (points points' places places' : List ℕ) → code ≡ code' → points ≡ points' → places ≡ places' → (AreConsecutive points → AllZip (StandsAt code) points places) → AreConsecutive points' → AllZip (StandsAt code') points' places'
placed_row code code' points points' places places' c q i h consecutive =
    subst (λ l. AllZip (StandsAt l) points' places') c
    (subst (λ qs. AllZip (StandsAt code) qs places') q
    (subst (λ is. AllZip (StandsAt code) points is) i (h (subst AreConsecutive (sym q) consecutive))))
