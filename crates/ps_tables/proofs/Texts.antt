-- A step of a text executes an object.
use Rattle.std.proofs.Common.{◌≡◌, ℕ, ◌+◌, ◌≤◌, List, ◌∷◌, ◌++◌, drop, refl, ap, ◌∙◌}
use Rattle.ps_store.specs.declared.object.StringId.{StringId}
use Rattle.ps_step.specs.declared.item.Item.{Item}
use Rattle.ps_step.specs.declared.item.Item.TheVariants.{Text}
use Rattle.ps_step.specs.declared.machine.PsCore.{PsCore}
use Rattle.ps_step.specs.Executing.{meeting}
use Rattle.ps_run.specs.Scan.{Read, More, Whole, Nothing, Bad, reading_object}
use Rattle.ps_run.specs.Step.{Outcome, Ended, settled, raising, stepping, step}
use Rattle.ps_text.specs.Code.{Code, render}
use Rattle.ps_text.specs.Grown.{IsString}
use Rattle.ps_text.specs.Spells.{units, Fine}
use Rattle.ps_text.specs.Reading.{first, IsMore, Lead, ReadsFirst}
use Rattle.ps_text.proofs.First.{reads_first}
use Rattle.ps_tables.specs.Executed.{Executes}

module _ (c : PsCore) (t : StringId) (at : ℕ) (under : List Item) where
  -- what a step makes of what was read
  abbrev reads : Read → Outcome
  reads (Nothing s) = stepping under (record c { store = s; execution = under })
  reads (Whole x s next) = settled (meeting x (record c { store = s; execution = Text t next ∷ under }))
  reads (Bad e s) = raising e (record c { store = s; execution = under })
  reads (More s xs next) = Ended c

  pub step_reads : c.execution ≡ Text t at ∷ under → (r : Read) → reading_object c.store t at ≡ r → step c ≡ reads r
  step_reads e r f = ap (λ (items : List Item). stepping items c) e ∙ by (reading_object c.store t at) ∙ ap reads f
    where
      by : (q : Read) → (elim q [
        | Nothing s ↦ stepping under (record c { store = s; execution = under })
        | Whole x s next ↦ settled (meeting x (record c { store = s; execution = Text t next ∷ under }))
        | Bad e s ↦ raising e (record c { store = s; execution = under })
        | More s xs next ↦ Ended c
      ]) ≡ reads q
      by (Nothing s) = refl
      by (Whole x s next) = refl
      by (Bad e s) = refl
      by (More s xs next) = refl

  pub executes : (post text g : List ℕ) (k : Code) → Lead g → IsString c.store t text → IsMore k → Fine (first k) → drop at text ≡ g ++ (render k ++ post)
      → c.store.table.units + c.store.command.units + units (first k) ≤ 8000000 → c.execution ≡ Text t at ∷ under → Executes k post text c t at under
  executes post text g k lead is some fine here room e =
      let r : ReadsFirst k post text c.store t at = reads_first post text g lead c.store t at is k some fine here room in
      record { object = r.object; store = r.store; to = r.to; steps = step_reads e (Whole r.object r.store r.to) r.reads; grown = r.grown; spells = r.spells; rest = r.rest }
