use Rattle.std.proofs.Common.{◌≡◌, ◌∙◌, ◌-◌, ◌≤◌, ap, subst, ℕ, List, length, take, drop}
use Rattle.near_link.proofs.Queues.{take_rest, drop_rest, least_taken}
use Rattle.near_link.proofs.Waits.{sides_are}
use Rattle.near_link.proofs.side.NearSide.give.Goals as goal

pub returns-clause-left : goal.returns-clause-left
returns-clause-left c =
    let n = c.copy_front-count.result in
    let r = c.self.inside.ready in
    let bytes = c.self.inside.back in
    let slice = c.as_slice.result.now in
    let same : take r slice ≡ take r bytes = ap (λ (l : List ℕ). take r l) c.as_slice.ensures in
    let less : n ≤ r = least_taken n (length c.copy_front-count.new.buf) r slice c.copy_front-count.ensures.count in
    let rest : drop n (take r bytes) ≡ drop (length c.copy_front-count.new.buf) (take r bytes) =
    subst (λ (l : List ℕ). drop n l ≡ drop (length c.copy_front-count.new.buf) l) same c.copy_front-count.ensures.rest in
    rw (← c.self.view_is)
    (sides_are c.self.inside.sent c.self.inside.feeder c.self.inside.nub _ _ _ _
    (ap (drop (r - n)) c.skip.ensures ∙ drop_rest r n bytes less)
    (ap (take (r - n)) c.skip.ensures ∙ take_rest r n bytes less ∙ rest))
