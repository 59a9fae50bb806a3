use Rattle.std.proofs.Common.{◌≡◌, ◌≢◌, ◌∙◌, refl, sym, ap, ℕ, ◌+◌, ◌<◌, ◌≤◌, nat_eq, Bool, true, false, List, [], ◌∷◌, length, drop, Option, Some, arith, eq-eqb}
use Rattle.std.proofs.lemmas.Bool.{eqb-true}
use Rattle.std.proofs.lemmas.Grind.{common_steps}
use Rattle.table_points.specs.declared.row.Point.{Point}
use Rattle.debug_side.specs.Meant.{point_at}
use Rattle.debug_side.proofs.Putting.{at_drop}
use Rattle.debug_side.proofs.point.point_at.Goals as goal

here : (ps : List Point) (i : ℕ) (p : Point) (at : ℕ) (whole : Option Point) → drop i ps ≡ p ∷ drop (i + 1) ps → p.at ≡ at → point_at (drop i ps) at ≡ whole → Some p ≡ whole
here ps i p at whole e same h =
    let test : nat_eq p.at at ≡ true = eq-eqb p.at at same in
    let found : point_at (p ∷ drop (i + 1) ps) at ≡ Some p = rw test refl in
    sym found ∙ sym (ap (λ (l : List Point). point_at l at) e) ∙ h

differs : (w v : ℕ) (t : Bool) → nat_eq w v ≡ t → (w ≢ v) → t ≡ false
differs w v true e n = absurd (n (eqb-true w v e))
differs w v false e n = refl

further : (ps : List Point) (i : ℕ) (p : Point) (at : ℕ) (whole : Option Point) → drop i ps ≡ p ∷ drop (i + 1) ps → (p.at ≢ at) → point_at (drop i ps) at ≡ whole → point_at (drop (i + 1) ps) at ≡ whole
further ps i p at whole e other h =
    let test : nat_eq p.at at ≡ false = differs p.at at (nat_eq p.at at) refl other in
    let passed : point_at (p ∷ drop (i + 1) ps) at ≡ point_at (drop (i + 1) ps) at = rw test refl in
    sym passed ∙ sym (ap (λ (l : List Point). point_at l at) e) ∙ h

past_end : (ps : List Point) (i : ℕ) → length ps ≤ i → drop i ps ≡ []
past_end ps i h = grind (arith, common_steps)

pub returns-then-point-at : goal.returns-then-point-at
returns-then-point-at c =
    let inside : c.loop-point.point-index < length c.args.points.now = omega arith in
    here c.args.points.now c.loop-point.point-index _ c.args.at (point_at c.args.points.now c.args.at) (at_drop c.args.points.now c.loop-point.point-index _ inside) c.if-point-at.true c.loop-point.invariant

pub loop-point-preserved : goal.loop-point-preserved
loop-point-preserved c =
    let inside : c.loop-point.point-index < length c.args.points.now = omega arith in
    further c.args.points.now c.loop-point.point-index _ c.args.at (point_at c.args.points.now c.args.at) (at_drop c.args.points.now c.loop-point.point-index _ inside) c.if-point-at.false c.loop-point.invariant

pub returns : goal.returns
returns c =
    let past : length c.args.points.now ≤ c.loop-point.point-index = omega arith in
    sym (ap (λ (l : List Point). point_at l c.args.at) (past_end c.args.points.now c.loop-point.point-index past)) ∙ c.loop-point.invariant
