-- The digits of a number are appended.
use Rattle.std.proofs.Common.{◌≡◌, ℕ, ℤ, pos, zero, suc, ◌+◌, ◌*◌, ◌<◌, ◌≤◌, ◌/◌, ◌%◌, ◌^◌, Bool, true, false, nat_lt, List, [], ◌∷◌, ◌++◌, decimal, if◌then◌else◌, refl, sym, ap, ◌∙◌, subst, arith, ltb-true, ltb-false}
use Rattle.std.proofs.lemmas.Fmt.{decimal_digit, decimal_step}
use Rattle.std.specs.Ordering.{int_eq}
use Rattle.std.specs.Cmp.{signed_Decides}
use Rattle.ps_store.specs.declared.object.PsObj.{PsObj}
use Rattle.ps_store.specs.declared.object.PsObj.TheVariants.{Int, Bool as Truth, Array}
use Rattle.ps_store.specs.declared.object.ArrayId.{ArrayId}
use Rattle.ps_store.specs.declared.object.DictId.{DictId}
use Rattle.ps_store.specs.StoreState.{StoreState}
use Rattle.ps_step.specs.declared.item.Item.{Item}
use Rattle.ps_run.specs.Runs.{Operates}
use Rattle.ps_text.specs.Code.{Stop, n, w}
use Rattle.ps_terms.specs.Faring.{Aim}
use Rattle.ps_terms.specs.Machine.{Obj, State, state}
use Rattle.ps_terms.specs.Stands.{Are, none, more}
use Rattle.ps_terms.specs.Printing.{word, AllPrintable, Printing}
use Rattle.ps_terms.proofs.Steps.{Room}
use Rattle.ps_terms.specs.Printing.{further}
use Rattle.ps_terms.proofs.Going.{Ends, goes_on, goes_end, goes_call}
use Rattle.ps_print.specs.Prelude.{digits_put, digits_last, digits_rest, digits_more, digits_test, digits_body}
use Rattle.ps_print.specs.Words.{words, Holds, RoomFor, ten}
use Rattle.ps_print.specs.Things.{last, one, many, digits_steps}
use Rattle.ps_print.proofs.Parts.{word_small, On, put_goes, udivs_goes, urem_goes, digit_goes}

zero_test : (q : ℕ) → q < 2 ^ 31 → q ≡ 0 → int_eq (word q) (pos 0) ≡ true
zero_test q h e = (signed_Decides (word q) (pos 0)).1 (word_small q h ∙ ap pos e)

pos_number : ℤ → ℕ
pos_number (pos n) = n
pos_number other = 0

some_test : (q : ℕ) → q < 2 ^ 31 → 0 < q → int_eq (word q) (pos 0) ≡ false
unfolding pos_number
some_test q h some = by_case (int_eq (word q) (pos 0)) refl
  where
    by_case : (b : Bool) → int_eq (word q) (pos 0) ≡ b → int_eq (word q) (pos 0) ≡ false
    by_case false e = e
    by_case true e =
        let same : pos q ≡ pos 0 = sym (word_small q h) ∙ (signed_Decides (word q) (pos 0)).0 e in
        let none : q ≡ 0 = ap pos_number same in
        absurd (omega arith)

printable_digit : (r : ℕ) → r < 10 → AllPrintable ((48 + r) ∷ [])
printable_digit r h = (omega arith, omega arith, tt)

module _ {D : Type 0} (Op : Operates D) (prints : Printing Op) (s : StoreState) (ds : List DictId) (digits : ArrayId) (holds : Holds s ds digits) (aim : Aim Op prints s ds) where
  module _ (o : List PsObj) (under : List Item) (room : Room o under) where
    abbrev Here : ℕ → D → State → Type 0
    Here n d st = On Op prints s ds digits holds aim o under n d st

    -- a digit is appended
    last_goes : (v : ℕ) (n₀ : ℕ) (d : D) → v < 2 ^ 32 → Here n₀ (prints.append d ((48 + v % 10) ∷ [])) (state [] [])
        → Here (last n₀) d (state (w "urem" digits_last ∷ []) (Obj (Int (pos 10)) ∷ Obj (Int (word v)) ∷ []))
    last_goes v n₀ d h g =
        let r : ℕ = v % 10 in
        let digit : r < 10 = omega arith in
        urem_goes Op prints s ds digits holds aim o under digits_last [] v 10 [] (further 2 (suc (suc n₀))) d h (omega arith) (omega arith)
        (goes_on Op prints s ds (words digits) holds.knows aim o under room 2 (suc (suc n₀)) d
        (state (digits_last ∷ []) (Obj (Int (word r)) ∷ []))
        (state (w "get" digits_put ∷ []) (Obj (Int (word r)) ∷ Obj (Array digits false) ∷ [])) refl
        (digit_goes Op prints s ds digits holds aim o under digits_put [] r [] (suc n₀) d digit
        (put_goes Op prints s ds digits holds aim o under Stop [] ((48 + r) ∷ []) [] n₀ d (printable_digit r digit) g)))

    -- up to the test whether there are more
    test_goes : (v n₀ : ℕ) (d : D) → v < 2 ^ 32 → Here n₀ d (state (digits_more ∷ []) (Obj (Truth (int_eq (word (v / 10)) (pos 0))) ∷ Obj (Int (word (v / 10))) ∷ Obj (Int (word v)) ∷ []))
        → Here (further 2 (suc (further 3 n₀))) d (state (digits_body ∷ []) (Obj (Int (word v)) ∷ []))
    test_goes v n₀ d h g =
        goes_on Op prints s ds (words digits) holds.knows aim o under room 2 (suc (further 3 n₀)) d
        (state (digits_body ∷ []) (Obj (Int (word v)) ∷ []))
        (state (w "udivs" digits_test ∷ []) (Obj (Int (pos 10)) ∷ Obj (Int (word v)) ∷ Obj (Int (word v)) ∷ [])) refl
        (udivs_goes Op prints s ds digits holds aim o under digits_test [] v 10 (Obj (Int (word v)) ∷ []) (further 3 n₀) d h (omega arith) (omega arith)
        (goes_on Op prints s ds (words digits) holds.knows aim o under room 3 n₀ d
        (state (digits_test ∷ []) (Obj (Int (word (v / 10))) ∷ Obj (Int (word v)) ∷ []))
        (state (digits_more ∷ []) (Obj (Truth (int_eq (word (v / 10)) (pos 0))) ∷ Obj (Int (word (v / 10))) ∷ Obj (Int (word v)) ∷ [])) refl g))

    one_goes : (v n₀ : ℕ) (d : D) → v < 10 → Here n₀ (prints.append d (decimal v)) (state [] []) → Here (one n₀) d (state (digits_body ∷ []) (Obj (Int (word v)) ∷ []))
    one_goes v n₀ d h g =
        let q : v / 10 ≡ 0 = omega arith in
        let r : v % 10 ≡ v = omega arith in
        let text : decimal v ≡ (48 + v % 10) ∷ [] = decimal_digit v h ∙ ap (λ k. (48 + k) ∷ []) (sym r) in
        test_goes v (further 5 (last n₀)) d (omega arith)
        (subst (λ b. Here (further 5 (last n₀)) d (state (digits_more ∷ []) (Obj (Truth b) ∷ Obj (Int (word (v / 10))) ∷ Obj (Int (word v)) ∷ []))) (sym (zero_test (v / 10) (omega arith) q))
        (goes_on Op prints s ds (words digits) holds.knows aim o under room 5 (last n₀) d
        (state (digits_more ∷ []) (Obj (Truth true) ∷ Obj (Int (word (v / 10))) ∷ Obj (Int (word v)) ∷ []))
        (state (w "urem" digits_last ∷ []) (Obj (Int (pos 10)) ∷ Obj (Int (word v)) ∷ [])) refl
        (last_goes v n₀ d (omega arith) (subst (λ text. Here n₀ (prints.append d text) (state [] [])) text g))))

    many_goes : (v m n₀ : ℕ) (d : D) → v < 2 ^ 32 → 10 ≤ v
        → (Here (further 1 (last n₀)) (prints.append d (decimal (v / 10))) (state (digits_rest ∷ []) (Obj (Int (word v)) ∷ []))
        → Here m d (state (digits_body ∷ digits_rest ∷ []) (Obj (Int (word (v / 10))) ∷ Obj (Int (word v)) ∷ [])))
        → Here n₀ (prints.append d (decimal v)) (state [] []) → Here (many m) d (state (digits_body ∷ []) (Obj (Int (word v)) ∷ []))
    many_goes v m n₀ d h ten_more inner g =
        let text : decimal v ≡ decimal (v / 10) ++ ((48 + v % 10) ∷ []) = decimal_step v ten_more (omega arith) in
        let whole : prints.append d (decimal v) ≡ prints.append (prints.append d (decimal (v / 10))) ((48 + v % 10) ∷ []) =
        ap (prints.append d) text ∙ sym (prints.append_twice d (decimal (v / 10)) ((48 + v % 10) ∷ [])) in
        test_goes v (further 4 m) d h
        (subst (λ b. Here (further 4 m) d (state (digits_more ∷ []) (Obj (Truth b) ∷ Obj (Int (word (v / 10))) ∷ Obj (Int (word v)) ∷ []))) (sym (some_test (v / 10) (omega arith) (omega arith)))
        (goes_on Op prints s ds (words digits) holds.knows aim o under room 4 m d
        (state (digits_more ∷ []) (Obj (Truth false) ∷ Obj (Int (word (v / 10))) ∷ Obj (Int (word v)) ∷ []))
        (state (digits_body ∷ digits_rest ∷ []) (Obj (Int (word (v / 10))) ∷ Obj (Int (word v)) ∷ [])) refl
        (inner
        (goes_on Op prints s ds (words digits) holds.knows aim o under room 1 (last n₀) (prints.append d (decimal (v / 10)))
        (state (digits_rest ∷ []) (Obj (Int (word v)) ∷ []))
        (state (w "urem" digits_last ∷ []) (Obj (Int (pos 10)) ∷ Obj (Int (word v)) ∷ [])) refl
        (last_goes v n₀ (prints.append d (decimal (v / 10))) h (subst (λ d. Here n₀ d (state [] [])) whole g))))))

  pub room_here : (k : ℕ) (o : List PsObj) (under : List Item) → RoomFor k o under → Room o under
  room_here k o under r = let a = r.operands in let b = r.items in record { operands = omega arith; items = omega arith }

  -- where no operand of its own is left the others stand there
  pub finishes : (n₀ : ℕ) (d : D) (o : List PsObj) (under : List Item) → Ends Op prints s ds aim n₀ d o under → On Op prints s ds digits holds aim o under n₀ d (state [] [])
  finishes n₀ d o under g = goes_end Op prints s ds (words digits) holds.knows aim o under n₀ d [] (λ xs are. nothing xs are)
    where
      nothing : (xs : List PsObj) → Are s xs [] → Ends Op prints s ds aim n₀ d (xs ++ o) under
      nothing _ none = g

  -- the run of `Digits` appends the decimal digits, in exactly so many steps
  pub digits_run : (f v left : ℕ) (d : D) (o : List PsObj) (under : List Item) → RoomFor f o under → v < 10 * ten f → v < 2 ^ 32
      → Ends Op prints s ds aim left (prints.append d (decimal v)) o under
      → On Op prints s ds digits holds aim o under (digits_steps f v left) d (state (digits_body ∷ []) (Obj (Int (word v)) ∷ []))
  digits_run zero v left d o under room h small g = one_goes o under (room_here 0 o under room) v left d (omega arith) (finishes left (prints.append d (decimal v)) o under g)
  digits_run (suc f) v left d o under room h small g = by_size (λ o' under' room' q g'. digits_run f (v / 10) (further 1 (last left)) d o' under' room' (omega arith) (omega arith) g') (nat_lt v 10) refl
    where
      Inner : Type 0
      Inner = (o' : List PsObj) (under' : List Item) → RoomFor f o' under' → 10 ≤ v → Ends Op prints s ds aim (further 1 (last left)) (prints.append d (decimal (v / 10))) o' under'
          → On Op prints s ds digits holds aim o' under' (digits_steps f (v / 10) (further 1 (last left))) d (state (digits_body ∷ []) (Obj (Int (word (v / 10))) ∷ []))

      by_size : Inner → (b : Bool) → nat_lt v 10 ≡ b
          → On Op prints s ds digits holds aim o under (if b then one left else many (digits_steps f (v / 10) (further 1 (last left)))) d (state (digits_body ∷ []) (Obj (Int (word v)) ∷ []))
      by_size inner true e = one_goes o under (room_here (suc f) o under room) v left d (ltb-true _ _ e) (finishes left (prints.append d (decimal v)) o under g)
      by_size inner false e =
          let ten_more : 10 ≤ v = ltb-false _ _ e in
          many_goes o under (room_here (suc f) o under room) v (digits_steps f (v / 10) (further 1 (last left))) left d small ten_more
          (λ rest. goes_call Op prints s ds (words digits) holds.knows aim o under digits_body (digits_rest ∷ []) (Obj (Int (word (v / 10)))) (Obj (Int (word v)) ∷ [])
          (digits_steps f (v / 10) (further 1 (last left))) (further 1 (last left)) d (prints.append d (decimal (v / 10)))
          (λ o' under' lo lu g' x items is frames. inner o' under' (let a = room.operands in let b = room.items in record { operands = omega arith; items = omega arith }) ten_more g' (x ∷ []) items (more x (Obj (Int (word (v / 10)))) [] [] is none) frames)
          rest)
          (finishes left (prints.append d (decimal v)) o under g)
