-- Values are printed.
use Rattle.std.proofs.Common.{◌≡◌, ℕ, suc, pos, Bool, false, true≢false, ◌∙◌, List, [], ◌∷◌, ◌++◌, refl, sym, subst, arith}
use Rattle.ps_store.specs.declared.object.PsObj.{PsObj}
use Rattle.ps_store.specs.declared.object.PsObj.TheVariants.{Int, Dict}
use Rattle.ps_store.specs.declared.object.ArrayId.{ArrayId}
use Rattle.ps_store.specs.declared.object.DictId.{DictId}
use Rattle.ps_store.specs.StoreState.{StoreState}
use Rattle.ps_step.specs.declared.item.Item.{Item}
use Rattle.ps_step.specs.declared.item.Item.TheVariants.{Object, Procedure}
use Rattle.ps_step.specs.declared.machine.PsCore.{PsCore}
use Rattle.ps_run.specs.Runs.{Answer, Operates, Runs}
use Rattle.ps_run.specs.Step.{Next}
use Rattle.ps_run.proofs.Apart.{behind}
use Rattle.c_tree.specs.declared.types.CType.{CType}
use Rattle.c_tree.specs.declared.types.StructDef.{StructDef}
use Rattle.c_show.specs.Printed.{Showing, shown}
use Rattle.ps_text.specs.Code.{Stop, n, w, t}
use Rattle.ps_terms.specs.Faring.{Stays, Aim, Fares, arrives, fails, starves, Comes}
use Rattle.ps_terms.specs.Machine.{Val, Obj, Key, state}
use Rattle.ps_terms.specs.Stands.{Are, Frames, Keeps, core}
use Rattle.ps_terms.specs.Printing.{word, Printing, further, Looked, nothing, after}
use Rattle.ps_terms.proofs.Steps.{Room}
use Rattle.ps_terms.proofs.Going.{Ends, ends_here, Goes, goes_on, goes_through}
use Rattle.ps_terms.proofs.Kept.{keeps_same}
use Rattle.ps_print.specs.Prelude.{show_body, print_body}
use Rattle.ps_print.specs.Words.{words, Holds, IsPrinter, RoomFor}
use Rattle.ps_print.specs.Items.{Thing}
use Rattle.ps_print.specs.Things.{print_steps}
use Rattle.ps_print.specs.Leads.{Leads}
use Rattle.ps_print.specs.Laid.{Laid}
use Rattle.ps_print.proofs.Behind.{printer_begins}
use Rattle.ps_print.proofs.Digits.{room_here, finishes}
use Rattle.ps_print.proofs.Items.{Shows}
use Rattle.ps_print.proofs.Laid.{laid_shows, laid_shown}

module _ {D : Type 0} (Op : Operates D) (prints : Printing Op) (s : StoreState) (ds : List DictId) (digits : ArrayId) (d : D) (space : List ℕ) where
  -- what is shown is printed, with room for 1,000 items
  print_goes : (holds : Holds s ds digits) (aim : Aim Op prints s ds) (type : DictId) (place : ℕ) (i : Thing) (left : ℕ) (o : List PsObj) (under : List Item) → RoomFor 400 o under
      → Shows Op prints s ds digits holds aim 391 d type space 0 999 place i → (empty : prints.append d [] ≡ d) → Ends Op prints s ds aim left (prints.append d (i.text 1000)) o under
      → Goes Op prints s ds (words digits) holds.knows aim o under (print_steps i left) d (state (print_body ∷ []) (Obj (Dict type) ∷ Obj (Int (word place)) ∷ Key space ∷ []))
  print_goes holds aim type place i left o under room shows empty g =
      let room' : Room o under = room_here Op prints s ds digits holds aim 400 o under room in
      let own : List Val = Obj (Dict type) ∷ Obj (Int (word place)) ∷ Key space ∷ Obj (Int (pos 1000)) ∷ [] in
      goes_on Op prints s ds (words digits) holds.knows aim o under room' 5 (i.steps 1000 (further 1 left)) d
      (state (print_body ∷ []) (Obj (Dict type) ∷ Obj (Int (word place)) ∷ Key space ∷ [])) (state (show_body ∷ w "pop" Stop ∷ []) own) refl
      (subst (λ d'. Goes Op prints s ds (words digits) holds.knows aim o under (i.steps 1000 (further 1 left)) d' (state (show_body ∷ w "pop" Stop ∷ []) own)) empty
      (goes_through Op prints s ds (words digits) holds.knows aim o under show_body (w "pop" Stop ∷ []) own [] (Int (pos (i.room 1000))) (i.steps 1000 (further 1 left)) (further 1 left)
      (prints.append d []) (prints.append d (i.text 1000))
      (λ o' under' lo lu g'. shows [] (further 1 left) o' under' (let a = room.operands in let b = room.items in record { operands = omega arith; items = omega arith }) (omega arith) g')
      (goes_on Op prints s ds (words digits) holds.knows aim o under room' 1 left (prints.append d (i.text 1000))
      (state (w "pop" Stop ∷ []) (Obj (Int (pos (i.room 1000))) ∷ [])) (state [] []) refl
      (finishes Op prints s ds digits holds aim left (prints.append d (i.text 1000)) o under g))))

module _ {D : Type 0} (Op : Operates D) (prints : Printing Op) (s first : StoreState) (ds : List DictId) (digits : ArrayId) (d : D) (space : List ℕ) (defs : List StructDef) (t : CType) (type : DictId) (place : ℕ) (xs : List Showing) (i : Thing) (left : ℕ)
    (operands o : List PsObj) (items under : List Item) where
  pub printed : Holds s ds digits → Stays Op prints s ds first → Laid Op prints s first d space defs 63 999 t type place xs i → RoomFor 400 o under
      → Are s operands (Obj (Dict type) ∷ Obj (Int (word place)) ∷ Key space ∷ []) → Frames s under items (print_body ∷ [])
      → Comes Op prints.needs first (print_steps i left) d (core first ds (operands ++ o) items) ds left (prints.append d (shown defs t xs)) o under
  printed holds stays laid room are frames =
      let aim : Aim Op prints s ds = record { first = first; stays = stays; left = left; dialect = prints.append d (shown defs t xs); operands = o; items = under } in
      (print_goes Op prints s ds digits d space holds aim type place i left o under room (laid_shows Op prints s ds digits holds aim d space defs 63 999 t type place xs i laid) (prints.append_none d)
      (subst (λ x. Ends Op prints s ds aim left (prints.append d x) o under) (sym (laid_shown Op prints s first d space defs t type place xs i laid)) (ends_here Op prints s ds aim))
      operands items are frames first (print_steps i left) 0 nothing (omega arith)).1

-- so is it where a printer is executed, which takes a step more
module _ {D : Type 0} (Op : Operates D) (prints : Printing Op) (s first : StoreState) (ds : List DictId) (digits : ArrayId) (d : D) (space : List ℕ) (defs : List StructDef) (t : CType) (type : DictId) (place : ℕ) (xs : List Showing) (i : Thing) (left : ℕ)
    (operands o : List PsObj) (x : PsObj) (under : List Item) where
  pub printed_by : Holds s ds digits → Stays Op prints s ds first → Laid Op prints s first d space defs 63 999 t type place xs i → RoomFor 400 o under
      → Are s operands (Obj (Dict type) ∷ Obj (Int (word place)) ∷ Key space ∷ []) → IsPrinter s x
      → Comes Op prints.needs first (suc (print_steps i left)) d (core first ds (operands ++ o) (Object x ∷ under)) ds left (prints.append d (shown defs t xs)) o under
  printed_by holds stays laid room are is r m d₂ c₂ other run =
      let entered = printer_begins s first ds (operands ++ o) x under (stays first 0 nothing) is (let e = room.items in omega arith) in
      let items : List Item = Procedure entered.0 0 ∷ under in
      printed Op prints s first ds digits d space defs t type place xs i left operands o items under holds stays laid room are entered.2 r m d₂ c₂ other
      (behind Op (print_steps i left) d (core first ds (operands ++ o) (Object x ∷ under)) (Next (core first ds (operands ++ o) items)) r m d₂ c₂ entered.1 run)

-- ---- where no operator needs a unit

module _ {D : Type 0} (Op : Operates D) (needs : D → PsCore → ℕ → Bool) (s : StoreState) (none_needs : (d : D) (c : PsCore) (op j : ℕ) → Looked Op needs s c.store j → needs d c op ≡ false) where
  looked_same : (now : StoreState) (j : ℕ) → Looked Op needs s now j → (now ≡ s) × (j ≡ 0)
  looked_same _ _ nothing = (refl, refl)
  looked_same _ _ (after d d' c c' op n k i j looked some operates settled sum) = absurd (true≢false (sym some ∙ none_needs d c op i looked))

  leads : (ds : List DictId) (n left : ℕ) (d d' : D) (operands o : List PsObj) (items under : List Item) → Comes Op needs s n d (core s ds operands items) ds left d' o under
      → Leads Op n d (core s ds operands items) left d' (core s ds o under)
  leads ds n left d d' operands o items under comes r m d₂ c₂ other run = by_fare r m d₂ c₂ (comes r m d₂ c₂ other run)
    where
      by_fare : (r : Answer) (m : ℕ) (d₂ : D) (c₂ : PsCore) → Fares Op needs s ds left d' o under r m d₂ c₂ → Runs Op left d' (core s ds o under) r m d₂ c₂
      by_fare _ _ _ _ (arrives r m d₂ c₂ now k j looked sum rest) =
          let same = looked_same now j looked in
          subst (λ q. Runs Op q d' (core s ds o under) r m d₂ c₂) (let none = same.1 in omega (arith, sum))
          (subst (λ q. Runs Op k d' (core q ds o under) r m d₂ c₂) same.0 rest)
      by_fare _ _ _ _ (fails r m d₂ c₂ d₁ c₁ op k j f looked enough some met given) = absurd (true≢false (sym some ∙ none_needs d₁ c₁ op j looked))
      by_fare _ _ _ _ (starves m d₂ c₂ now j looked less) = let none = (looked_same now j looked).1 in absurd (omega arith)

-- a value is printed at once
pub printed_at_once : {D : Type 0} (Op : Operates D) (prints : Printing Op) (s : StoreState) (ds : List DictId) (digits : ArrayId) (d : D) (space : List ℕ) (defs : List StructDef) (t : CType) (type : DictId) (place : ℕ) (xs : List Showing) (i : Thing) (left : ℕ)
    (operands o : List PsObj) (items under : List Item) → ((d : D) (c : PsCore) (op j : ℕ) → Looked Op prints.needs s c.store j → prints.needs d c op ≡ false) → Holds s ds digits
    → Laid Op prints s s d space defs 63 999 t type place xs i → RoomFor 400 o under
    → Are s operands (Obj (Dict type) ∷ Obj (Int (word place)) ∷ Key space ∷ []) → Frames s under items (print_body ∷ [])
    → Leads Op (print_steps i left) d (core s ds (operands ++ o) items) left (prints.append d (shown defs t xs)) (core s ds o under)
printed_at_once {D} Op prints s ds digits d space defs t type place xs i left operands o items under none_needs holds laid room are frames =
    leads Op prints.needs s none_needs ds (print_steps i left) left d (prints.append d (shown defs t xs)) (operands ++ o) o items under
    (printed Op prints s s ds digits d space defs t type place xs i left operands o items under holds
    (λ now j looked. subst (λ q. Keeps s ds q) (sym (looked_same Op prints.needs s none_needs now j looked).0) (keeps_same s ds)) laid room are frames)
