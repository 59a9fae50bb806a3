use Rattle.std.proofs.Common.{◌≡◌, ◌∙◌, ◌-◌, ◌^◌, sym, ap, subst, None, true, length, nat_eq}
use Rattle.near_link.specs.Near.{near_conduct}
use Rattle.nub_wire.specs.Delivery.{LinkSide, UntilAnswer, shut}
use Rattle.near_link.proofs.Waits.{runs_to, shut_of}
use Rattle.near_link.proofs.side.NearSide.answer_on.Goals as goal

pub returns-then-not-is_open : goal.returns-then-not-is_open
returns-then-not-is_open c =
    let none : c.args.self.now.host.nub.left ≡ None =
    ap (λ (s : LinkSide). s.host.nub.left) (sym c.self.view_is) ∙ shut_of c.self.inside.nub.nub.left (sym c.is_open.ensures ∙ c.if-not-is_open.true) in
    shut none

pub returns-in-Some : goal.returns-in-Some
returns-in-Some c =
    let silent = subst (λ (s : LinkSide). nat_eq (length s.answers) 0 ≡ true) (sym c.self.view_is) (sym c.is_silent.ensures ∙ c.if-not-is_silent.false) in
    subst
    (λ (s : LinkSide). UntilAnswer near_conduct s c.answer.new.self)
    c.self.view_is
    (runs_to near_conduct _ c.answer.new.self (2 ^ 32 - 1) c.in-Some.message c.next_message.new.self silent c.in-Some.ensures.turn c.answer.ensures)
