-- A command that runs PostScript and stores nothing, between its begin and its end.
use Rattle.std.proofs.Common.{◌≡◌, ℕ, List, Some, Result, Ok, Err, refl, sym, ap, ◌∙◌, subst}
use Rattle.machine_state.specs.Regions.{Regions}
use Rattle.ps_store.specs.declared.object.Part.TheVariants.{Command}
use Rattle.ps_store.specs.StoreState.{StoreState}
use Rattle.abs_mem.specs.Meaning.{Seen}
use Rattle.dialect_model.specs.Dial.{Target, memory_bytes}
use Rattle.dialect_model.specs.TableUse.{TableUse, use_of, Trouble, Kind, Eval}
use Rattle.dialect_model.specs.TableUse.{Refused as RefusedFor, Spent as StepsSpent}
use Rattle.table_asks.specs.declared.fault.Cause.{Cause}
use Rattle.table_asks.specs.declared.fault.AskFault.{AskFault}
use Rattle.table_asks.specs.declared.fault.AskFault.TheVariants.{Refused, Raised, Spent, NoMemory, Broken}
use Rattle.table_asks.specs.declared.inquiry.Inquiry.{Inquiry}
use Rattle.table_asks.specs.Asking.{left_of}
use Rattle.asking.specs.Printing.{Ends, EndsOnTold, EndsOver}
use Rattle.claims.specs.Side.{SideState, Change, OnSide, MOST_STEPS, target_of, memory_of, table_after, side_after}
use Rattle.asking_meaning.specs.Meant.{Matched, Covers, Says, answer_of, Stands, IsEnded}
use Rattle.asking_meaning.specs.Told.{if_done, MeantOver, RunsAreMeant}
use Rattle.asking_meaning.proofs.Wholes.{some_is, begun_at, ample, table_is, same_table, left_nothing}
use Rattle.asking_meaning.proofs.Telling.{asked_side}

if_same : {A B : Type 0} (r : Result A (Trouble Cause)) (x : B) → if_done r x x ≡ x
if_same (Ok y) x = refl
if_same (Err e) x = refl

module _ {R : Type 0} (s s' : Seen R) (asked : Target → Eval Cause (List ℕ)) (m : OnSide Change) (a : SideState) (covers : Covers (Says a) (asked (target_of a)) m) where
  -- what an answer is over the bytes that are told
  module _ (at : Regions → Target) (j k : Inquiry) (part : j.core.store.part ≡ Command) where
    abbrev Over : Result (List ℕ) (Trouble Cause) → Type 0
    Over r = EndsOnTold (λ regions. asked (at regions)) at (use_of j.core.store (left_of j)) s r k s'

    over : (result : Result (List ℕ) AskFault) (r : Result (List ℕ) (Trouble Cause)) → EndsOver asked at j s result k s' → answer_of result ≡ Some r → Over r
    over (Ok x) r h e = subst Over (some_is (Ok x) r e) (h part)
    over (Err (Refused cause)) r h e = subst Over (some_is (Err (RefusedFor cause)) r e) (h part)
    over (Err (Raised x)) r h e = subst Over (some_is (Err (Kind x)) r e) (h part)
    over (Err Spent) r h e = subst Over (some_is (Err StepsSpent) r e) (h part)
    over (Err NoMemory) r h e = absurd (let w = e in cc)
    over (Err (Broken f)) r h e = absurd (let w = e in cc)

  abbrev start : TableUse
  start = use_of a.table MOST_STEPS

  whole : (rest : R) (i k l : Inquiry) (r : Result (List ℕ) (Trouble Cause)) → Stands i a → IsEnded i k l → s'.tells (memory_of a) rest → Ends (asked (target_of a)) start r k → MeantOver m a r a.frame a.breaks l s' rest
  whole rest i k l r stands ended told e =
      let w : Matched (Says a) m start r e.use_after = covers start r e.use_after e.comes in
      let side = side_after a w.result e.use_after in
      let st : Stands l side = record {
        table = table_is a w.result e.use_after ∙ (ap (table_after a) e.store ∙ same_table a i k l stands ended);
        nothing = left_nothing i k l a stands ended;
      } in
      let is = asked_side s s' a rest a.frame m l r w.result side e.use_after w.matches (record { use_after = e.use_after; comes = ample m start w.result e.use_after w.comes; leaves = refl }) refl st told in
      subst (λ (frame : ℕ). MeantOver m a r frame a.breaks l s' rest) (if_same r a.frame) is

  pub runs_meant : RunsAreMeant s s' asked m a
  runs_meant rest i j k l result r at told stands begun is h e ended =
      let part : j.core.store.part ≡ Command = ap (λ (x : StoreState). x.part) begun.store in
      let here : s.tells (memory_bytes (at a.machine.memory)) rest = subst (λ (t : Target). s.tells (memory_bytes t) rest) (sym is) told in
      let w = over at j k part result r h e a.machine.memory rest here in
      let told' : s'.tells (memory_of a) rest = subst (λ (t : Target). s'.tells (memory_bytes t) rest) is w.0 in
      let ends : Ends (asked (target_of a)) start r k =
      subst (λ (u : TableUse). Ends (asked (target_of a)) u r k) (begun_at a i j stands begun) (subst (λ (t : Target). Ends (asked t) (use_of j.core.store (left_of j)) r k) is w.1) in
      whole rest i k l r stands ended told' ends
