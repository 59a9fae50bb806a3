use Rattle.std.proofs.Common.{◌≡◌, ◌≢◌, ◌≤◌, ◌-◌, refl, sym, ap, subst, ◌∙◌, arith, None, Result, Ok, Err}
use Rattle.ps_store.specs.Store.{closed_part}
use Rattle.ps_store.specs.Settled.{Settled}
use Rattle.ps_store.proofs.Settling.{settled_same, settled_on}
use Rattle.ps_ops.specs.declared.halt.Halt.{Halt}
use Rattle.ps_ops.specs.declared.halt.Halt.TheVariants.{Raised, Wanting, Broken, Needs}
use Rattle.ps_ops.specs.Desk.{Desk, desk_of}
use Rattle.ps_ops.specs.Acting.{ActsOn}
use Rattle.ps_ops.proofs.Retries.{so_far_begun, done_on, raised_on, wanting_on, broken_on, stopped_on, forced_again}
use Rattle.ps_ops.specs.Halts.{LedHalt}
use Rattle.ps_ops.proofs.Calls.{led_stop, led_stopped}
use Rattle.ps_ops.proofs.dialect.run_operator.Goals as goal

pub again-init : goal.again-init
again-init g c =
    let m = c.args.memory.now in
    record {
      far = so_far_begun c.args.op (desk_of c.args.view.now m.below.below.order m.below.cell c.args.out.now) (g.W.AbsMem.seen m.below.below.below) c.args.core.now (c.args.steps.now.limit - c.args.steps.now.taken);
      led = g.met.W.AbsMem.stays m.below.below.below;
      limit = refl;
      within = c.requires;
      more = omega arith;
      closed = settled_same (closed_part c.args.core.now.store);
    }

pub returns-in-Ok-clause-operates : goal.returns-in-Ok-clause-operates
returns-in-Ok-clause-operates g c =
    let m = c.args.memory.now in
    let m₁ = c.again.memory in
    let m' = c.act.new.memory in
    let seen = g.W.AbsMem.seen in
    let k : Desk = desk_of c.args.view.now m.below.below.order m.below.cell c.args.out.now in
    let k₁ : Desk = desk_of c.args.view.now m₁.below.below.order m₁.below.cell c.again.out in
    let k' : Desk = desk_of c.args.view.now m'.below.below.order m'.below.cell c.act.new.out in
    let acts : ActsOn c.args.op k₁ (seen m₁.below.below.below) c.again.core (Ok tt) k' (seen m'.below.below.below) c.act.new.core =
    subst (λ (r : Result (Unit {0}) Halt). ActsOn c.args.op k₁ (seen m₁.below.below.below) c.again.core r k' (seen m'.below.below.below) c.act.new.core) c.in-Ok.is c.act.ensures.acts in
    done_on c.args.op k (seen m.below.below.below) c.args.core.now (c.args.steps.now.limit - c.args.steps.now.taken) k₁ (seen m₁.below.below.below) c.again.core (c.again.steps.limit - c.again.steps.taken) c.again.invariant.far
    k' (seen m'.below.below.below) c.act.new.core _ (omega (arith, c.again.invariant.more, c.again.invariant.limit)) acts

pub returns-in-Err-Raised-clause-operates : goal.returns-in-Err-Raised-clause-operates
returns-in-Err-Raised-clause-operates g c =
    let m = c.args.memory.now in
    let m₁ = c.again.memory in
    let m' = c.act.new.memory in
    let seen = g.W.AbsMem.seen in
    let k : Desk = desk_of c.args.view.now m.below.below.order m.below.cell c.args.out.now in
    let k₁ : Desk = desk_of c.args.view.now m₁.below.below.order m₁.below.cell c.again.out in
    let k' : Desk = desk_of c.args.view.now m'.below.below.order m'.below.cell c.act.new.out in
    let acts : ActsOn c.args.op k₁ (seen m₁.below.below.below) c.again.core (Err (Raised c.in-Err-Raised.error)) k' (seen m'.below.below.below) c.act.new.core =
    subst (λ (r : Result (Unit {0}) Halt). ActsOn c.args.op k₁ (seen m₁.below.below.below) c.again.core r k' (seen m'.below.below.below) c.act.new.core) (c.in-Err-Raised.is ∙ ap Err c.in-Err-Raised.field-0-is) c.act.ensures.acts in
    raised_on c.args.op k (seen m.below.below.below) c.args.core.now (c.args.steps.now.limit - c.args.steps.now.taken) k₁ (seen m₁.below.below.below) c.again.core (c.again.steps.limit - c.again.steps.taken) c.again.invariant.far
    k' (seen m'.below.below.below) c.act.new.core _ c.in-Err-Raised.error (omega (arith, c.again.invariant.more, c.again.invariant.limit)) acts

pub returns-in-Err-Wanting-clause-operates : goal.returns-in-Err-Wanting-clause-operates
returns-in-Err-Wanting-clause-operates g c =
    let m = c.args.memory.now in
    let m₁ = c.again.memory in
    let m' = c.act.new.memory in
    let seen = g.W.AbsMem.seen in
    let k : Desk = desk_of c.args.view.now m.below.below.order m.below.cell c.args.out.now in
    let k₁ : Desk = desk_of c.args.view.now m₁.below.below.order m₁.below.cell c.again.out in
    let k' : Desk = desk_of c.args.view.now m'.below.below.order m'.below.cell c.act.new.out in
    let acts : ActsOn c.args.op k₁ (seen m₁.below.below.below) c.again.core (Err Wanting) k' (seen m'.below.below.below) c.act.new.core =
    subst (λ (r : Result (Unit {0}) Halt). ActsOn c.args.op k₁ (seen m₁.below.below.below) c.again.core r k' (seen m'.below.below.below) c.act.new.core) (c.in-Err-Wanting.is ∙ ap Err c.in-Err-Wanting.field-0-is) c.act.ensures.acts in
    wanting_on c.args.op k (seen m.below.below.below) c.args.core.now (c.args.steps.now.limit - c.args.steps.now.taken) k₁ (seen m₁.below.below.below) c.again.core (c.again.steps.limit - c.again.steps.taken) c.again.invariant.far
    k' (seen m'.below.below.below) c.act.new.core _ (omega (arith, c.again.invariant.more, c.again.invariant.limit)) c.act.ensures.closed acts

pub returns-in-Err-Broken-clause-operates : goal.returns-in-Err-Broken-clause-operates
returns-in-Err-Broken-clause-operates g c =
    let m = c.args.memory.now in
    let m₁ = c.again.memory in
    let m' = c.act.new.memory in
    let seen = g.W.AbsMem.seen in
    let k : Desk = desk_of c.args.view.now m.below.below.order m.below.cell c.args.out.now in
    let k₁ : Desk = desk_of c.args.view.now m₁.below.below.order m₁.below.cell c.again.out in
    let k' : Desk = desk_of c.args.view.now m'.below.below.order m'.below.cell c.act.new.out in
    let acts : ActsOn c.args.op k₁ (seen m₁.below.below.below) c.again.core (Err (Broken c.in-Err-Broken.why)) k' (seen m'.below.below.below) c.act.new.core =
    subst (λ (r : Result (Unit {0}) Halt). ActsOn c.args.op k₁ (seen m₁.below.below.below) c.again.core r k' (seen m'.below.below.below) c.act.new.core) (c.in-Err-Broken.is ∙ ap Err c.in-Err-Broken.field-0-is) c.act.ensures.acts in
    broken_on c.args.op k (seen m.below.below.below) c.args.core.now (c.args.steps.now.limit - c.args.steps.now.taken) k₁ (seen m₁.below.below.below) c.again.core (c.again.steps.limit - c.again.steps.taken) c.again.invariant.far
    k' (seen m'.below.below.below) c.act.new.core c.args.fault.now c.in-Err-Broken.why (omega (arith, c.again.invariant.more, c.again.invariant.limit)) acts

pub returns-in-Err-clause-operates : goal.returns-in-Err-clause-operates
returns-in-Err-clause-operates g c =
    let m = c.args.memory.now in
    let m₁ = c.again.memory in
    let m' = c.act.new.memory in
    let seen = g.W.AbsMem.seen in
    let u = c.in-Err-Needs.unit in
    let k : Desk = desk_of c.args.view.now m.below.below.order m.below.cell c.args.out.now in
    let k₁ : Desk = desk_of c.args.view.now m₁.below.below.order m₁.below.cell c.again.out in
    let k' : Desk = desk_of c.args.view.now m'.below.below.order m'.below.cell c.act.new.out in
    let acts : ActsOn c.args.op k₁ (seen m₁.below.below.below) c.again.core (Err (Needs u)) k' (seen m'.below.below.below) c.act.new.core =
    subst (λ (r : Result (Unit {0}) Halt). ActsOn c.args.op k₁ (seen m₁.below.below.below) c.again.core r k' (seen m'.below.below.below) c.act.new.core) (c.in-Err-Needs.is ∙ ap Err c.in-Err-Needs.field-0-is) c.act.ensures.acts in
    stopped_on c.args.op k (seen m.below.below.below) c.args.core.now (c.args.steps.now.limit - c.args.steps.now.taken) k₁ (seen m₁.below.below.below) c.again.core (c.again.steps.limit - c.again.steps.taken) c.again.invariant.far
    k' (seen m'.below.below.below) c.act.new.core _ u acts c.force_unit.new.core (c.force_unit.new.steps.limit - c.force_unit.new.steps.taken) c.in-Err.stopped
    (omega (arith, c.again.invariant.more, c.again.invariant.limit, c.force_unit.ensures.more, c.force_unit.ensures.limit)) (omega (arith, c.force_unit.ensures.more, c.force_unit.ensures.limit)) c.in-Err.ensures.stays c.in-Err.ensures.unlinked c.in-Err.ensures.forces

pub again-preserved : goal.again-preserved
again-preserved g c =
    let m = c.args.memory.now in
    let m₁ = c.again.memory in
    let m' = c.act.new.memory in
    let seen = g.W.AbsMem.seen in
    let u = c.in-Err-Needs.unit in
    let k : Desk = desk_of c.args.view.now m.below.below.order m.below.cell c.args.out.now in
    let k₁ : Desk = desk_of c.args.view.now m₁.below.below.order m₁.below.cell c.again.out in
    let k' : Desk = desk_of c.args.view.now m'.below.below.order m'.below.cell c.act.new.out in
    let acts : ActsOn c.args.op k₁ (seen m₁.below.below.below) c.again.core (Err (Needs u)) k' (seen m'.below.below.below) c.act.new.core =
    subst (λ (r : Result (Unit {0}) Halt). ActsOn c.args.op k₁ (seen m₁.below.below.below) c.again.core r k' (seen m'.below.below.below) c.act.new.core) (c.in-Err-Needs.is ∙ ap Err c.in-Err-Needs.field-0-is) c.act.ensures.acts in
    let first : Settled (closed_part c.args.core.now.store) (closed_part c.act.new.core.store) =
    subst (λ p. Settled (closed_part c.args.core.now.store) p) (sym c.act.ensures.closed) c.again.invariant.closed in
    record {
      far = forced_again c.args.op k (seen m.below.below.below) c.args.core.now (c.args.steps.now.limit - c.args.steps.now.taken) k₁ (seen m₁.below.below.below) c.again.core (c.again.steps.limit - c.again.steps.taken)
          c.again.invariant.far k' (seen m'.below.below.below) c.act.new.core None u acts c.force_unit.new.core (c.force_unit.new.steps.limit - c.force_unit.new.steps.taken) c.force_unit.result c.in-Ok-force_unit.is c.force_unit.ensures.forces;
      led = g.met.W.AbsMem.goes_on m.below.below.below m₁.below.below.below m'.below.below.below None c.again.invariant.led
          (subst (λ (r : Result (Unit {0}) Halt). LedHalt g.W.AbsMem.leads m₁.below.below.below r m'.below.below.below) (c.in-Err-Needs.is ∙ ap Err c.in-Err-Needs.field-0-is) c.act.ensures.calls);
      limit = c.force_unit.ensures.limit ∙ c.again.invariant.limit;
      within = c.force_unit.ensures.within;
      more = omega (arith, c.again.invariant.more, c.force_unit.ensures.more);
      closed = settled_on _ _ _ first c.force_unit.ensures.closed;
    }

pub returns-in-Ok-clause-calls : goal.returns-in-Ok-clause-calls
returns-in-Ok-clause-calls g c =
    let m = c.args.memory.now.below.below.below in
    let m₁ = c.again.memory.below.below.below in
    let m' = c.act.new.memory.below.below.below in
    let led : LedHalt {A = Unit {0}} g.W.AbsMem.leads m₁ (Ok tt) m' = subst (λ (r : Result (Unit {0}) Halt). LedHalt g.W.AbsMem.leads m₁ r m') c.in-Ok.is c.act.ensures.calls in
    g.met.W.AbsMem.goes_on m m₁ m' None c.again.invariant.led led

pub returns-in-Err-Raised-clause-calls : goal.returns-in-Err-Raised-clause-calls
returns-in-Err-Raised-clause-calls g c =
    let m = c.args.memory.now.below.below.below in
    let m₁ = c.again.memory.below.below.below in
    let m' = c.act.new.memory.below.below.below in
    let led : LedHalt {A = Unit {0}} g.W.AbsMem.leads m₁ (Err (Raised c.in-Err-Raised.error)) m' = subst (λ (r : Result (Unit {0}) Halt). LedHalt g.W.AbsMem.leads m₁ r m') (c.in-Err-Raised.is ∙ ap Err c.in-Err-Raised.field-0-is) c.act.ensures.calls in
    g.met.W.AbsMem.goes_on m m₁ m' None c.again.invariant.led led

pub returns-in-Err-Wanting-clause-calls : goal.returns-in-Err-Wanting-clause-calls
returns-in-Err-Wanting-clause-calls g c =
    let m = c.args.memory.now.below.below.below in
    let m₁ = c.again.memory.below.below.below in
    let m' = c.act.new.memory.below.below.below in
    let led : LedHalt {A = Unit {0}} g.W.AbsMem.leads m₁ (Err Wanting) m' = subst (λ (r : Result (Unit {0}) Halt). LedHalt g.W.AbsMem.leads m₁ r m') (c.in-Err-Wanting.is ∙ ap Err c.in-Err-Wanting.field-0-is) c.act.ensures.calls in
    g.met.W.AbsMem.goes_on m m₁ m' None c.again.invariant.led led

pub returns-in-Err-Broken-clause-calls : goal.returns-in-Err-Broken-clause-calls
returns-in-Err-Broken-clause-calls g c =
    let m = c.args.memory.now.below.below.below in
    let m₁ = c.again.memory.below.below.below in
    let m' = c.act.new.memory.below.below.below in
    let led : LedHalt {A = Unit {0}} g.W.AbsMem.leads m₁ (Err (Broken c.in-Err-Broken.why)) m' = subst (λ (r : Result (Unit {0}) Halt). LedHalt g.W.AbsMem.leads m₁ r m') (c.in-Err-Broken.is ∙ ap Err c.in-Err-Broken.field-0-is) c.act.ensures.calls in
    led_stop g.W.AbsMem.leads g.met.W.AbsMem.goes_on m m₁ m' c.again.invariant.led (Broken c.in-Err-Broken.why) led

pub returns-in-Err-clause-calls : goal.returns-in-Err-clause-calls
returns-in-Err-clause-calls g c =
    let m = c.args.memory.now.below.below.below in
    let m₁ = c.again.memory.below.below.below in
    let m' = c.act.new.memory.below.below.below in
    let led : LedHalt {A = Unit {0}} g.W.AbsMem.leads m₁ (Err (Needs c.in-Err-Needs.unit)) m' = subst (λ (r : Result (Unit {0}) Halt). LedHalt g.W.AbsMem.leads m₁ r m') (c.in-Err-Needs.is ∙ ap Err c.in-Err-Needs.field-0-is) c.act.ensures.calls in
    led_stopped g.W.AbsMem.leads m m' c.in-Err.stopped c.again.fault c.in-Err.ensures.unlinked (g.met.W.AbsMem.goes_on m m₁ m' None c.again.invariant.led led)
