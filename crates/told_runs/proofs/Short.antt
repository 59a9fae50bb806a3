-- A run over a memory of which memory ran out, operator by operator.
use Rattle.std.proofs.Common.{◌≡◌, ◌≢◌, ◌∙◌, ℕ, suc, List, Option, None, Ok, Err, refl}
use Rattle.machine_state.specs.Regions.{Regions}
use Rattle.abs_mem.specs.Meaning.{Seen}
use Rattle.ps_step.specs.declared.fault.PsFault.{PsFault}
use Rattle.ps_step.specs.declared.fault.PsFault.TheVariants.{Error, Spent, Link, NoMemory}
use Rattle.ps_step.specs.declared.machine.PsCore.{PsCore}
use Rattle.ps_run.specs.Runs.{Answer, Settles}
use Rattle.ps_run.specs.Reaching.{Reaches, here, stepped, answered, RanShort, in_step, in_operator}
use Rattle.ps_run.proofs.Reaching.{short_keeps}
use Rattle.dialect_model.specs.Dial.{Dial}
use Rattle.dialect_model.specs.Operating.{Operates}
use Rattle.dialect_model.specs.Operating as model
use Rattle.ps_ops.specs.Acting.{RunsShort, acting, running}
use Rattle.ps_ops.specs.Desk.{dial_of}
use Rattle.ps_ops.specs.declared.dialect.Operators.{Operators}
use Rattle.told_runs.specs.Told.{desk, target, Tells, Does, ReachesTold}
use Rattle.told_runs.proofs.Told.{DoesTold, does_told, AskedTold, asked_told}

-- ---- an operator that has no result leaves the target of its dial

abbrev fails : PsFault → Answer
fails f = Err f

raised_keeps : (d : Dial) (c : PsCore) (op left : ℕ) (r : Answer) (d' : Dial) (c' : PsCore) (left' : ℕ) (f : PsFault) → r ≡ fails f → Operates d c op left r d' c' left' → d'.target ≡ d.target
raised_keeps _ _ _ _ _ _ _ _ f is (model.acted d d' c c' op left e) = absurd (let h = is in cc)
raised_keeps _ _ _ _ _ _ _ _ f is (model.raised d c op left e h) = refl
raised_keeps _ _ _ _ _ _ _ _ f is (model.forced d d' c c₁ c' op u left m left' r h force on) = raised_keeps d c₁ op m r d' c' left' f is on
raised_keeps _ _ _ _ _ _ _ _ f is (model.broken d c c' op u left m g h k) = refl
raised_keeps _ _ _ _ _ _ _ _ f is (model.wanting d c op left) = refl

short_target : (d : Dial) (op : ℕ) (c : PsCore) (left : ℕ) (d' : Dial) (c' : PsCore) (left' : ℕ) → RunsShort d op c left d' c' left' → d'.target ≡ d.target
short_target d op c left _ _ _ (acting p same closed) = same
short_target d op c left _ _ _ (running p needs deferred closed b) = refl

module _ {W R : Type 0} (seen : W → Seen R) (leads : W → Option (List ℕ) → W → Type 0) where
  -- ---- the link

  -- no fault came, and calls led from one memory to the other
  abbrev Quiet : Operators W → Operators W → Type 0
  Quiet o o' = ((target seen o').faults ≡ (target seen o).faults) × leads o.memory.below.below.below None o'.memory.below.below.below

  one_quiet : (o : Operators W) (c : PsCore) (op n : ℕ) (r : Answer) (o' : Operators W) (c' : PsCore) (k : ℕ) → r ≢ Err Link → Does seen leads o c op n r o' c' k → Quiet o o'
  one_quiet o c op n (Ok x) o' c' k other d = (d.1.2.0, d.2)
  one_quiet o c op n (Err (Error e)) o' c' k other d = (d.1.2.0, d.2)
  one_quiet o c op n (Err Spent) o' c' k other d = (d.1.2.0, d.2)
  one_quiet o c op n (Err NoMemory) o' c' k other d = (d.1.2.0.faults, d.2)
  one_quiet o c op n (Err Link) o' c' k other d = absurd (other refl)

  pub short_quiet : ((m : W) → leads m None m) → ((a b c : W) (o : Option (List ℕ)) → leads a None b → leads b o c → leads a o c)
      → (left : ℕ) (o : Operators W) (c : PsCore) (o' : Operators W) → RanShort (Does seen leads) left o c o' → Quiet o o'
  short_quiet stays goes_on left o c o' h =
      short_keeps (Does seen leads) Quiet (λ o. (refl, stays o.memory.below.below.below))
      (λ a b z h k. (k.0 ∙ h.0, goes_on a.memory.below.below.below b.memory.below.below.below z.memory.below.below.below None h.1 k.1)) one_quiet left o c o' h

  -- ---- the bytes that are told

  module _ (rest : R) (rg : Regions) (left : ℕ) (o : Operators W) (c : PsCore) (t : Tells seen o rg rest) where
    -- a place on the way
    record PlaceTold (n : ℕ) (o' : Operators W) (c' : PsCore) : Type 0 where
      pub regions' : Regions
      pub tells : Tells seen o' regions' rest
      pub reaches : Reaches Operates left (dial_of (desk o) rg) c n (dial_of (desk o') regions') c'

    place_told : (n : ℕ) (o' : Operators W) (c' : PsCore) → Reaches (Does seen leads) left o c n o' c' → PlaceTold n o' c'
    place_told _ _ _ here = record { regions' = rg; tells = t; reaches = here }
    place_told _ _ _ (stepped {n = n} {d₁ = o₁} {c₁ = c₁} {c₂ = c₂} h s) =
        let before : PlaceTold (suc n) o₁ c₁ = place_told (suc n) o₁ c₁ h in
        record { regions' = before.regions'; tells = before.tells; reaches = stepped before.reaches s }
    place_told _ _ _ (answered {n = n} {k = k} {op = op} {d₁ = o₁} {d₂ = o₂} {c₁ = c₁} {c₂ = c₂} {c₃ = c₃} h s a) =
        let before : PlaceTold (suc n) o₁ c₁ = place_told (suc n) o₁ c₁ h in
        let on : AskedTold seen leads rest before.regions' o₁ c₂ op n (Ok tt) o₂ c₃ k = asked_told seen leads rest before.regions' o₁ c₂ op n (Ok tt) o₂ c₃ k (λ e. cc) (λ e. cc) a before.tells in
        record { regions' = on.regions'; tells = on.tells; reaches = answered before.reaches s on.asks }

    -- the operator that lacked memory leaves the target that was there
    given_short : (n : ℕ) (o₁ : Operators W) (c₁ : PsCore) (before : PlaceTold (suc n) o₁ c₁) (c₂ : PsCore) (op k : ℕ) (given : Answer) (o' : Operators W) (core c' : PsCore)
        → Does seen leads o₁ c₂ op n given o' core k → Settles given core (Err NoMemory) c' → ReachesTold seen rest rg left o c o'
    given_short n o₁ c₁ before c₂ op k (Ok x) o' core c' d s = absurd (let e = s.0 in cc)
    given_short n o₁ c₁ before c₂ op k (Err Spent) o' core c' d s = absurd (let e = s.0 in cc)
    given_short n o₁ c₁ before c₂ op k (Err Link) o' core c' d s = absurd (let e = s.0 in cc)
    given_short n o₁ c₁ before c₂ op k (Err (Error e)) o' core c' d s =
        let does : DoesTold seen leads rest before.regions' o₁ c₂ op n (Err (Error e)) o' core k = does_told seen leads rest before.regions' o₁ c₂ op n (Err (Error e)) o' core k (λ h. cc) (λ h. cc) d before.tells in
        record {
          regions' = does.regions';
          left' = suc n;
          dial = dial_of (desk o₁) before.regions';
          core = c₁;
          tells = does.tells;
          reaches = before.reaches;
          target = raised_keeps (dial_of (desk o₁) before.regions') c₂ op n (Err (Error e)) (dial_of (desk o') does.regions') core k (Error e) refl does.does;
        }
    given_short n o₁ c₁ before c₂ op k (Err NoMemory) o' core c' d s =
        record {
          regions' = before.regions';
          left' = suc n;
          dial = dial_of (desk o₁) before.regions';
          core = c₁;
          tells = d.1.2.0.keeps before.regions' rest before.tells;
          reaches = before.reaches;
          target = short_target (dial_of (desk o₁) before.regions') op c₂ n (dial_of (desk o') before.regions') core k (d.1.2.1 before.regions' rest before.tells);
        }

    pub short_told : (o' : Operators W) → RanShort (Does seen leads) left o c o' → ReachesTold seen rest rg left o c o'
    short_told _ (in_step {n = n} {d₁ = o₁} {c₁ = c₁} h) =
        let before : PlaceTold n o₁ c₁ = place_told n o₁ c₁ h in
        record { regions' = before.regions'; left' = n; dial = dial_of (desk o₁) before.regions'; core = c₁; tells = before.tells; reaches = before.reaches; target = refl }
    short_told _ (in_operator {n = n} {k = k} {op = op} {d₁ = o₁} {d₂ = o₂} {c₁ = c₁} {c₂ = c₂} {c₃ = c₃} h s a) =
        given_short n o₁ c₁ (place_told (suc n) o₁ c₁ h) c₂ op k a.given o₂ a.core c₃ a.operates a.settles
