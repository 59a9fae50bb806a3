-- `print`: a symbol's procedure runs.
use Rattle.std.proofs.Common.{◌≡◌, refl, sym, ap, subst, false, [], ◌∷◌, Option, Some, Result, Ok, Err}
use Rattle.machine_state.specs.Regions.{Regions}
use Rattle.ps_store.specs.declared.object.DictId.{DictId}
use Rattle.ps_store.specs.declared.object.PsObj.{PsObj}
use Rattle.ps_step.specs.declared.fault.PsError.{PsError}
use Rattle.ps_step.specs.declared.item.Item.TheVariants.{Object}
use Rattle.ps_step.specs.declared.machine.PsCore.{PsCore}
use Rattle.ps_step.specs.State.{with_execution}
use Rattle.frame_bytes.specs.declared.frame.Frame.{Frame}
use Rattle.abs_mem.specs.Meaning.{Seen}
use Rattle.table_model.specs.declared.lack.Lack.{Lack}
use Rattle.dialect_model.specs.Dial.{Target}
use Rattle.dialect_model.specs.TableUse.{TableUse, use_of, Kind, Eval, Looks, told, lacks, ◌>>=◌}
use Rattle.dialect_model.specs.Running.{Run, core_in, beginning, running}
use Rattle.ps_ops.specs.declared.view.Standing.TheVariants as standing
use Rattle.ps_ops.specs.declared.dialect.Operators.{Operators}
use Rattle.told_runs.specs.Told.{target}
use Rattle.table_asks.specs.declared.fault.Cause.{Cause}
use Rattle.table_asks.specs.declared.fault.AskFault.{AskFault}
use Rattle.table_asks.specs.declared.fault.AskFault.TheVariants.{Refused, Raised, Spent, NoMemory, Broken}
use Rattle.table_asks.specs.declared.inquiry.Inquiry.{Inquiry}
use Rattle.table_asks.specs.Asking.{left_of}
use Rattle.table_asks.specs.Faults.{raised}
use Rattle.table_asks.specs.Running.{Begins, RunsOver}
use Rattle.asking.specs.Doing.{talk_in}
use Rattle.asking.specs.Printing.{EndsFrom, target_with, PlacedOver, placed, procedure_of, dial_in}
use Rattle.asking.proofs.Ps.{begins, not_made}
use Rattle.asking.proofs.Lacking.{procedure_told}
use Rattle.asking.proofs.Ending.{fails_from, then_from, run_done, run_fails}

-- ---- a symbol's place

module _ {W R : Type 0} (seen : W → Seen R) (x : DictId) (f : Frame) (scope : Option DictId) (i : Inquiry) (t : Operators W) where
  abbrev o : Operators W
  o = talk_in t (standing.InFrame f scope) false

  abbrev s : Seen R
  s = target seen t

  abbrev at : Regions → Target
  at regions = target_with t regions

  abbrev start : TableUse
  start = use_of i.core.store (left_of i)

  abbrev where_is : Eval Cause PsObj
  where_is = Looks (λ s. procedure_of s x)

  abbrev run_of : Regions → PsObj → Eval Cause Run
  run_of regions what = beginning >>= λ c. running what (dial_in (at regions) f scope) c

  pub where_fails : (l : Lack) → procedure_of i.core.store x ≡ Err l → PlacedOver seen x f scope i t (Err (raised l)) i t
  where_fails l e part =
      fails_from (λ regions. where_is) run_of at start s s i (raised l)
      (λ regions rest h. (h, record { use_after = start; comes = lacks e ((procedure_told i.core.store x).lacks l e); store = refl; left = refl }))

  module _ (what : PsObj) (is : procedure_of i.core.store x ≡ Ok what) where
    abbrev placing : (r : Result Run AskFault) (i' : Inquiry) (s' : Seen R) → EndsFrom (λ regions. run_of regions what) at start s r i' s' → EndsFrom (λ regions. placed x (dial_in (at regions) f scope)) at start s r i' s'
    placing r i' s' h = then_from (λ regions. where_is) run_of at start s s' i' s what start (λ regions rest h. (h, told is)) r h

    -- where no dictionary is made
    pub begin_fails : (f' : AskFault) (i' : Inquiry) → Begins i (Err f') i' → left_of i' ≡ left_of i → PlacedOver seen x f scope i t (Err f') i' t
    begin_fails (Raised e) i' h left part =
        placing (Err (Raised e)) i' s
        (fails_from (λ regions. beginning) (λ regions c. running what (dial_in (at regions) f scope) c) at start s s i' (Raised e)
        (λ regions rest t. (t, record { use_after = start; comes = subst (λ (z : PsError). beginning {R = Cause} start (Err (Kind z)) start) (sym h.0) (not_made i.core.store (left_of i) part h.2 h.3); store = sym h.1; left = sym left })))
    begin_fails NoMemory i' h left part = λ regions rest t. t
    begin_fails Spent i' h left part = absurd h
    begin_fails (Refused cause) i' h left part = absurd h
    begin_fails (Broken b) i' h left part = absurd h

    module _ (j i' : Inquiry) (o' : Operators W) (begun : Begins i (Ok tt) j) (left : left_of j ≡ left_of i) where
      abbrev own : DictId
      own = begun.0

      abbrev core : PsCore
      core = core_in j.core.store own

      abbrev mid : TableUse
      mid = record start { store = j.core.store; own = Some own }

      is_ready : with_execution j.core (Object what ∷ []) ≡ record core { store = j.core.store; execution = Object what ∷ [] }
      is_ready = ap (λ (c : PsCore). with_execution c (Object what ∷ [])) begun.2

      pub place_done : RunsOver seen what j o (Ok tt) i' o' → PlacedOver seen x f scope i t (Ok tt) i' o'
      place_done h part regions rest told_here =
          let r = run_done seen what j i' o o' refl core j.core.store (left_of i) (Some own) is_ready left h regions rest told_here in
          record {
            regions' = r.regions';
            execution = r.execution;
            own = r.own;
            comes = (Ok what, start, told is, (Ok core, mid, begins i.core.store (left_of i) part own j.core.store begun.1, r.comes));
            same = r.same;
            raw = r.raw;
            tells = r.tells;
          }

      pub place_fails : (f' : AskFault) → RunsOver seen what j o (Err f') i' o' → PlacedOver seen x f scope i t (Err f') i' o'
      place_fails f' h part =
          placing (Err f') i' (target seen o')
          (then_from (λ regions. beginning) (λ regions c. running what (dial_in (at regions) f scope) c) at start s (target seen o') i' s core mid
          (λ regions rest h. (h, begins i.core.store (left_of i) part own j.core.store begun.1)) (Err f')
          (run_fails seen what j i' o o' refl core j.core.store (left_of i) (Some own) is_ready left f' h))

      pub place_runs : (r : Result (Unit {0}) AskFault) → RunsOver seen what j o r i' o' → PlacedOver seen x f scope i t r i' o'
      place_runs (Ok u) h = place_done h
      place_runs (Err f') h = place_fails f' h
