-- A signed number is appended, and an integer at a place.
use Rattle.std.proofs.Common.{◌≡◌, ℕ, ℤ, pos, negsuc, ◌-ℤ◌, suc, ◌-◌, ◌<◌, ◌≤◌, ◌^◌, Bool, true, false, nat_lt, int_lt, Some, None, Result, Ok, List, [], ◌∷◌, ◌++◌, codes, decimal, if◌then◌else◌, refl, sym, ap, ◌∙◌, subst, arith, lt-ltb, le-ltb, ltb-true, ltb-false}
use Rattle.std.specs.Fmt.{signed_decimal}
use Rattle.std.proofs.lemmas.Int.{ints}
use Rattle.std.specs.Ordering.{int_cmp}
use Rattle.std.specs.declared.cmp.Ordering.TheVariants.{Less, Equal, Greater}
use Rattle.ps_store.specs.declared.object.PsObj.{PsObj}
use Rattle.ps_store.specs.declared.object.PsObj.TheVariants.{Int, Bool as Truth}
use Rattle.ps_store.specs.declared.object.ArrayId.{ArrayId}
use Rattle.ps_store.specs.declared.object.DictId.{DictId}
use Rattle.ps_store.specs.StoreState.{StoreState}
use Rattle.ps_step.specs.declared.compare.Relation.TheVariants.{Lt}
use Rattle.ps_step.specs.declared.fault.PsError.{PsError}
use Rattle.ps_step.specs.declared.item.Item.{Item}
use Rattle.ps_step.specs.Arithmetic.{difference, in_range}
use Rattle.ps_step.specs.Compare.{holds as relates}
use Rattle.ps_run.specs.Runs.{Operates}
use Rattle.ps_text.specs.Code.{Stop, w}
use Rattle.ps_terms.specs.Faring.{Aim}
use Rattle.ps_terms.specs.Machine.{Val, Obj, Key, Bytes, state, acted, result}
use Rattle.ps_terms.specs.Stands.{Are, none, more}
use Rattle.ps_terms.specs.Printing.{word, Printing, FindsAt}
use Rattle.ps_terms.proofs.Steps.{Room}
use Rattle.ps_terms.specs.Printing.{further}
use Rattle.ps_terms.proofs.Going.{Ends, goes_on, goes_end, goes_call}
use Rattle.ps_print.specs.Prelude.{digits_body, showunsigned_value, showunsigned_body, signed_minus, signed_rest, signed_body, showint_rest, showint_value, showint_body}
use Rattle.ps_print.specs.Words.{words, Holds, RoomFor}
use Rattle.ps_print.proofs.Parts.{word_small, On, put_goes, usub_goes, fetch_goes}
use Rattle.ps_print.specs.Things.{digits_steps, minus_steps, below_zero, signed_steps, showint_steps, showunsigned_steps}
use Rattle.ps_print.proofs.Digits.{digits_run, room_here}

less_false : (b c : Bool) → b ≡ false → relates Lt (if b then Less else if c then Greater else Equal) ≡ false
less_false true c e = cc
less_false false true e = refl
less_false false false e = refl

not_below : (v : ℕ) → relates Lt (int_cmp (pos v) (pos 0)) ≡ false
not_below v = less_false (int_lt (pos v) (pos 0)) (int_lt (pos 0) (pos v)) (le-ltb v 0 (omega arith))

word_large : (v : ℕ) → 2 ^ 31 ≤ v → word v ≡ negsuc (2 ^ 32 - suc v)
word_large v h = let large : nat_lt v (2 ^ 31) ≡ false = le-ltb v (2 ^ 31) h in rw large refl

module _ {D : Type 0} (Op : Operates D) (prints : Printing Op) (s : StoreState) (ds : List DictId) (digits : ArrayId) (holds : Holds s ds digits) (aim : Aim Op prints s ds) where
  -- the run of `Signed` appends the signed decimal digits
  pub signed_run : (v left : ℕ) (d : D) (o : List PsObj) (under : List Item) → RoomFor 12 o under → v < 2 ^ 32
      → Ends Op prints s ds aim left (prints.append d (signed_decimal (word v))) o under
      → On Op prints s ds digits holds aim o under (signed_steps v left) d (state (signed_body ∷ []) (Obj (Int (word v)) ∷ []))
  signed_run v left d o under room h g = by_sign (nat_lt v 2147483648) refl
    where
      room' : Room o under
      room' = room_here Op prints s ds digits holds aim 12 o under room

      room'' : RoomFor 9 o under
      room'' = let a = room.operands in let b = room.items in record { operands = omega arith; items = omega arith }

      by_sign : (b : Bool) → nat_lt v 2147483648 ≡ b
          → On Op prints s ds digits holds aim o under (further 3 (if b then further 3 (digits_steps 9 v left) else minus_steps (digits_steps 9 (below_zero v) left))) d (state (signed_body ∷ []) (Obj (Int (word v)) ∷ []))
      by_sign true e =
          let small : v < 2 ^ 31 = ltb-true _ _ e in
          let number : word v ≡ pos v = word_small v small in
          let test : relates Lt (int_cmp (word v) (pos 0)) ≡ false = ap (λ z. relates Lt (int_cmp z (pos 0))) number ∙ not_below v in
          goes_on Op prints s ds (words digits) holds.knows aim o under room' 3 (further 3 (digits_steps 9 v left)) d
          (state (signed_body ∷ []) (Obj (Int (word v)) ∷ []))
          (state (signed_rest ∷ []) (Obj (Truth (relates Lt (int_cmp (word v) (pos 0)))) ∷ Obj (Int (word v)) ∷ [])) refl
          (subst (λ b. On Op prints s ds digits holds aim o under (further 3 (digits_steps 9 v left)) d (state (signed_rest ∷ []) (Obj (Truth b) ∷ Obj (Int (word v)) ∷ []))) (sym test)
          (goes_on Op prints s ds (words digits) holds.knows aim o under room' 3 (digits_steps 9 v left) d
          (state (signed_rest ∷ []) (Obj (Truth false) ∷ Obj (Int (word v)) ∷ []))
          (state (digits_body ∷ []) (Obj (Int (word v)) ∷ [])) refl
          (digits_run Op prints s ds digits holds aim 9 v left d o under room'' (omega arith) h
          (subst (λ z. Ends Op prints s ds aim left (prints.append d (signed_decimal z)) o under) number g))))
      by_sign false e =
          let large : 2 ^ 31 ≤ v = ltb-false _ _ e in
          let number : word v ≡ negsuc (2 ^ 32 - suc v) = word_large v large in
          let test : relates Lt (int_cmp (word v) (pos 0)) ≡ true = ap (λ z. relates Lt (int_cmp z (pos 0))) number in
          let size : suc (2 ^ 32 - suc v) ≡ below_zero v = omega arith in
          let fits : below_zero v < 2 ^ 32 = omega arith in
          let text : prints.append d (signed_decimal (word v)) ≡ prints.append (prints.append d (45 ∷ [])) (decimal (below_zero v)) =
          ap (λ z. prints.append d (signed_decimal z)) number ∙ ap (λ k. prints.append d (45 ∷ decimal k)) size ∙ sym (prints.append_twice d (45 ∷ []) (decimal (below_zero v))) in
          goes_on Op prints s ds (words digits) holds.knows aim o under room' 3 (minus_steps (digits_steps 9 (below_zero v) left)) d
          (state (signed_body ∷ []) (Obj (Int (word v)) ∷ []))
          (state (signed_rest ∷ []) (Obj (Truth (relates Lt (int_cmp (word v) (pos 0)))) ∷ Obj (Int (word v)) ∷ [])) refl
          (subst (λ b. On Op prints s ds digits holds aim o under (minus_steps (digits_steps 9 (below_zero v) left)) d (state (signed_rest ∷ []) (Obj (Truth b) ∷ Obj (Int (word v)) ∷ []))) (sym test)
          (goes_on Op prints s ds (words digits) holds.knows aim o under room' 3 (suc (further 2 (suc (further 1 (digits_steps 9 (below_zero v) left))))) d
          (state (signed_rest ∷ []) (Obj (Truth true) ∷ Obj (Int (word v)) ∷ []))
          (state (w "Put" signed_minus ∷ w "Digits" Stop ∷ []) (Bytes (45 ∷ []) ∷ Obj (Int (word v)) ∷ [])) refl
          (put_goes Op prints s ds digits holds aim o under signed_minus (w "Digits" Stop ∷ []) (45 ∷ []) (Obj (Int (word v)) ∷ []) (further 2 (suc (further 1 (digits_steps 9 (below_zero v) left)))) d
          (omega arith, omega arith, tt)
          (goes_on Op prints s ds (words digits) holds.knows aim o under room' 2 (suc (further 1 (digits_steps 9 (below_zero v) left))) (prints.append d (45 ∷ []))
          (state (signed_minus ∷ w "Digits" Stop ∷ []) (Obj (Int (word v)) ∷ []))
          (state (w "usub" Stop ∷ w "Digits" Stop ∷ []) (Obj (Int (word v)) ∷ Obj (Int (pos 0)) ∷ [])) refl
          (usub_goes Op prints s ds digits holds aim o under Stop (w "Digits" Stop ∷ []) 0 v [] (further 1 (digits_steps 9 (below_zero v) left)) (prints.append d (45 ∷ [])) (omega arith) h
          (goes_on Op prints s ds (words digits) holds.knows aim o under room' 1 (digits_steps 9 (below_zero v) left) (prints.append d (45 ∷ []))
          (state (w "Digits" Stop ∷ []) (Obj (Int (word (below_zero v))) ∷ []))
          (state (digits_body ∷ []) (Obj (Int (word (below_zero v))) ∷ [])) refl
          (digits_run Op prints s ds digits holds aim 9 (below_zero v) left (prints.append d (45 ∷ [])) o under room'' (omega arith) fits
          (subst (λ d'. Ends Op prints s ds aim left d' o under) text g))))))))

-- one item less
less_one : (r : ℕ) → pos (suc r) -ℤ pos 1 ≡ pos r
less_one r = omega (arith, ints)

pub sub_one : (r : ℕ) → r < 2 ^ 31 → difference (pos (suc r)) (pos 1) ≡ Ok (pos r)
sub_one r h =
    let fits : nat_lt r (2 ^ 31) ≡ true = lt-ltb _ _ h in
    ap in_range (less_one r) ∙ rw fits refl

module _ {D : Type 0} (Op : Operates D) (prints : Printing Op) (s : StoreState) (ds : List DictId) (digits : ArrayId) (holds : Holds s ds digits) (aim : Aim Op prints s ds) where
  -- where one operand of its own is left it stands above the others
  pub leaves : (x : PsObj) (n₀ : ℕ) (d : D) (o : List PsObj) (under : List Item) → Ends Op prints s ds aim n₀ d (x ∷ o) under → On Op prints s ds digits holds aim o under n₀ d (state [] (Obj x ∷ []))
  leaves x n₀ d o under g = goes_end Op prints s ds (words digits) holds.knows aim o under n₀ d (Obj x ∷ []) (λ xs are. one xs are)
    where
      one : (xs : List PsObj) → Are s xs (Obj x ∷ []) → Ends Op prints s ds aim n₀ d (xs ++ o) under
      one _ (more y _ _ _ i none) = subst (λ z. Ends Op prints s ds aim n₀ d (z ∷ o) under) (sym i) g

  -- one item less is left
  pub count_goes : (r n₀ : ℕ) (d : D) (o : List PsObj) (under : List Item) → Room o under → r < 2 ^ 31 → Ends Op prints s ds aim n₀ d (Int (pos r) ∷ o) under
      → On Op prints s ds digits holds aim o under (further 2 n₀) d (state (showint_rest ∷ []) (Obj (Int (pos (suc r))) ∷ []))
  count_goes r n₀ d o under room h g =
      goes_on Op prints s ds (words digits) holds.knows aim o under room 2 n₀ d
      (state (showint_rest ∷ []) (Obj (Int (pos (suc r))) ∷ [])) (state [] (Obj (Int (pos r)) ∷ []))
      (ap (λ (m : Result ℤ PsError). elim (acted Stop [] (result [] m)) [ None ↦ None | Some st ↦ Some st ]) (sub_one r h))
      (leaves (Int (pos r)) n₀ d o under g)

  -- The run of `ShowInt` appends the integer at the place, and leaves the room less one.
  pub int_run : (v r left : ℕ) (space : List ℕ) (place : ℤ) (type : Val) (d : D) (o : List PsObj) (under : List Item) → RoomFor 13 o under → v < 2 ^ 32 → r < 2 ^ 31
      → FindsAt Op prints s aim.first d d 6 (Key (codes "w") ∷ Obj (Int place) ∷ Key space ∷ []) (Int (word v) ∷ [])
      → Ends Op prints s ds aim left (prints.append d (signed_decimal (word v))) (Int (pos r) ∷ o) under
      → On Op prints s ds digits holds aim o under (showint_steps v left) d (state (showint_body ∷ []) (type ∷ Obj (Int place) ∷ Key space ∷ Obj (Int (pos (suc r))) ∷ []))
  int_run v r left space place type d o under room h small known g =
      let room' : Room o under = room_here Op prints s ds digits holds aim 13 o under room in
      goes_on Op prints s ds (words digits) holds.knows aim o under room' 2 (suc (further 1 (signed_steps v (further 2 left)))) d
      (state (showint_body ∷ []) (type ∷ Obj (Int place) ∷ Key space ∷ Obj (Int (pos (suc r))) ∷ []))
      (state (w "fetch" showint_value ∷ []) (Key (codes "w") ∷ Obj (Int place) ∷ Key space ∷ Obj (Int (pos (suc r))) ∷ [])) refl
      (fetch_goes Op prints s ds digits holds aim o under showint_value [] space (codes "w") place (word v) (Obj (Int (pos (suc r))) ∷ []) (further 1 (signed_steps v (further 2 left))) d known
      (goes_on Op prints s ds (words digits) holds.knows aim o under room' 1 (signed_steps v (further 2 left)) d
      (state (showint_value ∷ []) (Obj (Int (word v)) ∷ Obj (Int (pos (suc r))) ∷ []))
      (state (signed_body ∷ showint_rest ∷ []) (Obj (Int (word v)) ∷ Obj (Int (pos (suc r))) ∷ [])) refl
      (goes_call Op prints s ds (words digits) holds.knows aim o under signed_body (showint_rest ∷ []) (Obj (Int (word v))) (Obj (Int (pos (suc r))) ∷ [])
      (signed_steps v (further 2 left)) (further 2 left) d (prints.append d (signed_decimal (word v)))
      (λ o' under' lo lu g' x items is frames.
      signed_run Op prints s ds digits holds aim v (further 2 left) d o' under' (let a = room.operands in let b = room.items in record { operands = omega arith; items = omega arith }) h g'
      (x ∷ []) items (more x (Obj (Int (word v))) [] [] is none) frames)
      (count_goes r left (prints.append d (signed_decimal (word v))) o under room' small g))))

  -- The run of `ShowUnsigned` appends the unsigned number at the place, and leaves the room less one.
  pub unsigned_run : (v r left : ℕ) (space : List ℕ) (place : ℤ) (type : Val) (d : D) (o : List PsObj) (under : List Item) → RoomFor 13 o under → v < 2 ^ 32 → r < 2 ^ 31
      → FindsAt Op prints s aim.first d d 6 (Key (codes "w") ∷ Obj (Int place) ∷ Key space ∷ []) (Int (word v) ∷ [])
      → Ends Op prints s ds aim left (prints.append d (decimal v)) (Int (pos r) ∷ o) under
      → On Op prints s ds digits holds aim o under (showunsigned_steps v left) d (state (showunsigned_body ∷ []) (type ∷ Obj (Int place) ∷ Key space ∷ Obj (Int (pos (suc r))) ∷ []))
  unsigned_run v r left space place type d o under room h small known g =
      let room' : Room o under = room_here Op prints s ds digits holds aim 13 o under room in
      goes_on Op prints s ds (words digits) holds.knows aim o under room' 2 (suc (further 1 (digits_steps 9 v (further 2 left)))) d
      (state (showunsigned_body ∷ []) (type ∷ Obj (Int place) ∷ Key space ∷ Obj (Int (pos (suc r))) ∷ []))
      (state (w "fetch" showunsigned_value ∷ []) (Key (codes "w") ∷ Obj (Int place) ∷ Key space ∷ Obj (Int (pos (suc r))) ∷ [])) refl
      (fetch_goes Op prints s ds digits holds aim o under showunsigned_value [] space (codes "w") place (word v) (Obj (Int (pos (suc r))) ∷ []) (further 1 (digits_steps 9 v (further 2 left))) d known
      (goes_on Op prints s ds (words digits) holds.knows aim o under room' 1 (digits_steps 9 v (further 2 left)) d
      (state (showunsigned_value ∷ []) (Obj (Int (word v)) ∷ Obj (Int (pos (suc r))) ∷ []))
      (state (digits_body ∷ showint_rest ∷ []) (Obj (Int (word v)) ∷ Obj (Int (pos (suc r))) ∷ [])) refl
      (goes_call Op prints s ds (words digits) holds.knows aim o under digits_body (showint_rest ∷ []) (Obj (Int (word v))) (Obj (Int (pos (suc r))) ∷ [])
      (digits_steps 9 v (further 2 left)) (further 2 left) d (prints.append d (decimal v))
      (λ o' under' lo lu g' x items is frames.
      digits_run Op prints s ds digits holds aim 9 v (further 2 left) d o' under' (let a = room.operands in let b = room.items in record { operands = omega arith; items = omega arith }) (omega arith) h g'
      (x ∷ []) items (more x (Obj (Int (word v))) [] [] is none) frames)
      (count_goes r left (prints.append d (decimal v)) o under room' small g))))
