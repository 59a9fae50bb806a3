-- What becomes of what a query lacks.
use Rattle.std.proofs.Common.{◌≡◌, ◌≢◌, ◌∙◌, refl, sym, subst, ℕ, Ok, Err}
use Rattle.ps_store.specs.Store.{closed_part}
use Rattle.ps_step.specs.declared.fault.PsError.{PsError}
use Rattle.ps_step.specs.declared.fault.PsFault.TheVariants.{Error, Spent as OutOfSteps, NoMemory as OutOfMemory}
use Rattle.ps_run.specs.Runs.{Answer}
use Rattle.frame_bytes.specs.declared.frame.Place.{Place}
use Rattle.abs_mem.specs.declared.memory.MemFault.{MemFault}
use Rattle.abs_mem.specs.declared.memory.MemFault.TheVariants.{Outside, LinkFault, BadReply}
use Rattle.abs_mem.specs.declared.walk.WalkFault.TheVariants as walk
use Rattle.table_model.specs.declared.lack.Lack.{Lack}
use Rattle.table_model.specs.declared.lack.Lack.TheVariants as lack
use Rattle.ps_places.specs.Lacks.{error_of}
use Rattle.ps_bare.specs.Deferred.{IsDeferred}
use Rattle.dialect_model.specs.Forcing.{ForcesUnit, idle}
use Rattle.table_asks.specs.declared.fault.AskFault.TheVariants.{Raised, Spent, NoMemory, Broken}
use Rattle.table_asks.specs.declared.inquiry.Inquiry.{Inquiry}
use Rattle.table_asks.specs.Asking.{left_of, SettlesLack, SettlesWalk}
use Rattle.table_asks.proofs.Looking.{forces_idle}

-- a unit was met, and run
module _ (l : Lack) (u : ℕ) (is : l ≡ lack.Unforced u) (old new : Inquiry) where
  module _ (a : Answer) (forces : IsDeferred old.core.store u → a ≢ Err OutOfMemory → ForcesUnit u old.core (left_of old) a (left_of new) new.core) where
    ran : (b : Answer) → a ≡ b → b ≢ Err OutOfMemory → IsDeferred old.core.store u → ForcesUnit u (idle old.core.store) (left_of old) b (left_of new) (idle new.core.store)
    ran b e other h = subst (λ (x : Answer). ForcesUnit u (idle old.core.store) (left_of old) x (left_of new) (idle new.core.store)) e (forces_idle u old.core (left_of old) a (left_of new) new.core (forces h (λ k. other (sym e ∙ k))))

    pub ran_ok : a ≡ Ok tt → SettlesLack l old (Ok tt) new
    ran_ok e = subst (λ (x : Lack). SettlesLack x old (Ok tt) new) (sym is) (ran (Ok tt) e (λ k. let j = k in cc))

    pub ran_error : (x : PsError) → a ≡ Err (Error x) → SettlesLack l old (Err (Raised x)) new
    ran_error x e = subst (λ (y : Lack). SettlesLack y old (Err (Raised x)) new) (sym is) (ran (Err (Error x)) e (λ k. let j = k in cc))

    pub ran_spent : a ≡ Err OutOfSteps → SettlesLack l old (Err Spent) new
    ran_spent e = subst (λ (y : Lack). SettlesLack y old (Err Spent) new) (sym is) (ran (Err OutOfSteps) e (λ k. let j = k in cc))

  pub ran_out : closed_part new.core.store ≡ closed_part old.core.store → SettlesLack l old (Err NoMemory) new
  ran_out e = subst (λ (y : Lack). SettlesLack y old (Err NoMemory) new) (sym is) e

-- anything else
pub other_lack : (l : Lack) (i : Inquiry) → ((u : ℕ) → l ≡ lack.Unforced u → ⊥) → SettlesLack l i (Err (Raised (error_of l))) i
other_lack (lack.Unforced u) i h = absurd (h u refl)
other_lack lack.Missing i h = (refl, refl)
other_lack lack.NoPoint i h = (refl, refl)
other_lack lack.WrongType i h = (refl, refl)
other_lack lack.TooDeep i h = (refl, refl)
other_lack lack.Outside i h = (refl, refl)

pub other_fault : (f : MemFault) (i : Inquiry) → ((p : Place) → f ≡ Outside p → ⊥) → SettlesWalk (walk.Memory f) i (Err (Broken f)) i
other_fault (Outside p) i h = absurd (h p refl)
other_fault LinkFault i h = (refl, refl)
other_fault (BadReply frame) i h = (refl, refl)
