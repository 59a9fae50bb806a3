-- `print`: a type's printer runs.
use Rattle.std.proofs.Common.{◌≡◌, ◌∙◌, refl, sym, ap, subst, nat_lt, if◌then◌else◌, Bool, true, false, List, [], ◌∷◌, codes, length, Option, None, Result, Ok, Err}
use Rattle.machine_state.specs.Regions.{Regions}
use Rattle.ps_store.specs.declared.object.DictId.{DictId}
use Rattle.ps_store.specs.declared.object.PsObj.{PsObj}
use Rattle.ps_store.specs.declared.object.PsObj.TheVariants.{Dict}
use Rattle.ps_store.specs.StoreState.{StoreState}
use Rattle.ps_step.specs.declared.fault.PsError.{PsError}
use Rattle.ps_step.specs.declared.fault.PsError.TheVariants.{StackOverflow}
use Rattle.ps_step.specs.declared.fault.PsFault.{PsFault}
use Rattle.ps_step.specs.declared.fault.PsFault.TheVariants as ps
use Rattle.ps_step.specs.declared.item.Item.{Item}
use Rattle.ps_step.specs.declared.item.Item.TheVariants.{Object}
use Rattle.ps_step.specs.declared.machine.PsCore.{PsCore}
use Rattle.ps_step.specs.State.{Made, pushing, with_operands, with_execution}
use Rattle.ps_step.specs.Effects.{Does}
use Rattle.abs_mem.specs.Meaning.{Seen}
use Rattle.table_model.specs.declared.lack.Lack.{Lack}
use Rattle.table_model.specs.Reading.{Walked, entry}
use Rattle.dialect_model.specs.TableUse.{TableUse, Kind, Eval, Looks, told, lacks, ◌>>=◌}
use Rattle.dialect_model.specs.Running.{Run, or_error, running}
use Rattle.ps_ops.specs.Desk.{dial_of}
use Rattle.ps_ops.specs.declared.dialect.Operators.{Operators}
use Rattle.told_runs.specs.Told.{desk, target}
use Rattle.table_asks.specs.declared.fault.Cause.{Cause}
use Rattle.table_asks.specs.declared.fault.AskFault.{AskFault}
use Rattle.table_asks.specs.declared.fault.AskFault.TheVariants.{Raised}
use Rattle.table_asks.specs.declared.inquiry.Inquiry.{Inquiry}
use Rattle.table_asks.specs.Asking.{left_of}
use Rattle.table_asks.specs.Faults.{fault_of_run, raised}
use Rattle.table_asks.specs.Running.{RunsOver}
use Rattle.asking.specs.Printing.{EndsFrom, target_with, used_at, run_at, RanFrom, shown}
use Rattle.asking.proofs.Lacking.{entry_told}
use Rattle.asking.proofs.Ending.{fails_from, then_from, run_done, run_fails}

-- ---- a type's printer

abbrev done : PsCore → Made
done c = Ok c

done_is : (c c' : PsCore) → done c ≡ done c' → c ≡ c'
done_is c c' h = cc

module _ (x : PsObj) (c : PsCore) (execution : List Item) where
  abbrev pushed_if : PsCore → Bool → Made
  pushed_if c room = if room then Ok (with_operands c (x ∷ c.operands)) else Err StackOverflow

  pushed_by : (room : Bool) (c' : PsCore) → pushed_if c room ≡ Ok c' → (pushed_if (with_execution c execution) room ≡ Ok (with_execution c' execution)) × (c'.store ≡ c.store)
  pushed_by true c' h =
      let is : with_operands c (x ∷ c.operands) ≡ c' = done_is (with_operands c (x ∷ c.operands)) c' h in
      (ap (λ (z : PsCore). done (with_execution z execution)) is, ap (λ (z : PsCore). z.store) (sym is))
  pushed_by false c' h = absurd (let k = h in cc)

  unpushed_by : (room : Bool) (e : PsError) → pushed_if c room ≡ Err e → pushed_if (with_execution c execution) room ≡ Err e
  unpushed_by true e h = absurd (let k = h in cc)
  unpushed_by false e h = let k = h in cc

  -- what is left to run is no part of it
  pushed_on : (c' : PsCore) → pushing x c ≡ Ok c' → (pushing x (with_execution c execution) ≡ Ok (with_execution c' execution)) × (c'.store ≡ c.store)
  pushed_on c' h = pushed_by (nat_lt (length c.operands) 100000) c' h

  unpushed_on : (e : PsError) → pushing x c ≡ Err e → pushing x (with_execution c execution) ≡ Err e
  unpushed_on e h = unpushed_by (nat_lt (length c.operands) 100000) e h

module _ {W R : Type 0} (seen : W → Seen R) (type : DictId) (i : Inquiry) (o : Operators W) where
  abbrev s : Seen R
  s = target seen o

  module _ (own : Option DictId) (execution : List Item) where
    abbrev start : TableUse
    start = used_at o i own

    abbrev push : Eval Cause PsCore
    push = or_error (pushing (Dict type) (with_execution i.core execution))

    abbrev rest_of : Regions → PsCore → Eval Cause Run
    rest_of regions c = Looks (λ s. entry s type (codes "printer")) >>= λ printer. running printer (dial_of (desk o) regions) c

    abbrev whole : Regions → Eval Cause Run
    whole regions = shown type (run_at o i execution regions)

    push_stops : (e : PsError) (i' : Inquiry) → pushing (Dict type) i.core ≡ Err e → i'.core ≡ i.core → left_of i' ≡ left_of i → EndsFrom whole (target_with o) start s (Err (Raised e)) i' s
    push_stops e i' h same left =
        fails_from (λ regions. push) rest_of (target_with o) start s s i' (Raised e)
        (λ regions rest t. (
          t,
          record {
            use_after = start;
            comes = subst (λ (m : Made). or_error {R = Cause} m start (Err (Kind e)) start) (sym (unpushed_on (Dict type) i.core execution e h)) (refl, refl);
            store = ap (λ (c : PsCore). c.store) (sym same);
            left = sym left;
          },
        ))

    pub push_fails : (f : PsFault) (i' : Inquiry) → Does (Err f) i.core i'.core (pushing (Dict type) i.core) → left_of i' ≡ left_of i → EndsFrom whole (target_with o) start s (Err (fault_of_run f None)) i' s
    push_fails (ps.Error e) i' h left = push_stops e i' h.0 h.1 left
    push_fails ps.NoMemory i' h left = λ regions rest t. t
    push_fails ps.Spent i' h left = absurd h
    push_fails ps.Link i' h left = absurd h

    -- the type is on top
    module _ (j : Inquiry) (is : pushing (Dict type) i.core ≡ Ok j.core) (left : left_of j ≡ left_of i) where
      abbrev top : PsCore
      top = with_execution j.core execution

      same_store : j.core.store ≡ i.core.store
      same_store = (pushed_on (Dict type) i.core execution j.core is).1

      pushes : push start (Ok top) start
      pushes = subst (λ (m : Made). or_error {R = Cause} m start (Ok top) start) (sym (pushed_on (Dict type) i.core execution j.core is).0) (refl, refl)

      entry_is : (w : Walked PsObj) → entry j.core.store type (codes "printer") ≡ w → entry i.core.store type (codes "printer") ≡ w
      entry_is w h = ap (λ (s : StoreState). entry s type (codes "printer")) (sym same_store) ∙ h

      behind_push : (r : Result Run AskFault) (i' : Inquiry) (s' : Seen R) → EndsFrom (λ regions. rest_of regions top) (target_with o) start s r i' s' → EndsFrom whole (target_with o) start s r i' s'
      behind_push r i' s' h = then_from (λ regions. push) rest_of (target_with o) start s s' i' s top start (λ regions rest t. (t, pushes)) r h

      pub printer_fails : (l : Lack) → entry j.core.store type (codes "printer") ≡ Err l → EndsFrom whole (target_with o) start s (Err (raised l)) j s
      printer_fails l h =
          behind_push (Err (raised l)) j s
          (fails_from (λ regions. Looks (λ s. entry s type (codes "printer"))) (λ regions printer. running printer (dial_of (desk o) regions) top) (target_with o) start s s j (raised l)
          (λ regions rest t. (t, record { use_after = start; comes = lacks (entry_is (Err l) h) ((entry_told i.core.store type (codes "printer")).lacks l (entry_is (Err l) h)); store = sym same_store; left = sym left })))

      module _ (printer : PsObj) (there : entry j.core.store type (codes "printer") ≡ Ok printer) (i' : Inquiry) (o' : Operators W) (dark : o.view.raw ≡ false) where
        looks : Looks {R = Cause} (λ s. entry s type (codes "printer")) start (Ok printer) start
        looks = told (entry_is (Ok printer) there)

        is_ready : with_execution j.core (Object printer ∷ []) ≡ record top { store = i.core.store; execution = Object printer ∷ [] }
        is_ready = ap (λ (s : StoreState). record j.core { store = s; execution = Object printer ∷ [] }) same_store

        pub printer_done : RunsOver seen printer j o (Ok tt) i' o' → RanFrom seen whole start o (Ok tt) i' o'
        printer_done h regions rest t =
            let r = run_done seen printer j i' o o' dark top i.core.store (left_of i) own is_ready left h regions rest t in
            record {
              regions' = r.regions';
              execution = r.execution;
              own = r.own;
              comes = (Ok top, start, pushes, (Ok printer, start, looks, r.comes));
              same = r.same;
              raw = r.raw;
              tells = r.tells;
            }

        pub printer_stops : (f : AskFault) → RunsOver seen printer j o (Err f) i' o' → RanFrom seen whole start o (Err f) i' o'
        printer_stops f h =
            behind_push (Err f) i' (target seen o')
            (then_from (λ regions. Looks (λ s. entry s type (codes "printer"))) (λ regions printer. running printer (dial_of (desk o) regions) top) (target_with o) start s (target seen o') i' s printer start (λ regions rest t. (t, looks)) (Err f)
            (run_fails seen printer j i' o o' dark top i.core.store (left_of i) own is_ready left f h))

        pub printer_runs : (r : Result (Unit {0}) AskFault) → RunsOver seen printer j o r i' o' → RanFrom seen whole start o r i' o'
        printer_runs (Ok u) h = printer_done h
        printer_runs (Err f) h = printer_stops f h
