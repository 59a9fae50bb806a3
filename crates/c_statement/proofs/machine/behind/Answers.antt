use Rattle.std.proofs.Common.{◌≡◌, List, Option, None, drop, sym, ◌∙◌, ap, subst}
use Rattle.c_expr.specs.First.{first}
use Rattle.c_declaration.specs.declared.built.Built.{Built}
use Rattle.c_trees.specs.Statements.{StatementTree}
use Rattle.c_statement.specs.Parts.{also_of}
use Rattle.c_statement.specs.declared.state.Frame.{Frame}
use Rattle.c_statement.specs.declared.state.Outer.{Outer}
use Rattle.c_statement.specs.declared.state.Outer.TheVariants as outer
use Rattle.c_statement.specs.Machine.{Next, Gives, outer_of, until, inside, continues}
use Rattle.c_statement.proofs.machine.behind.Goals as goal

pub returns-in-Do : goal.returns-in-Do
returns-in-Do c =
    let given : Next → Type 0 = λ n. Gives c.until.result n in
    let on : Outer → Next = λ o. continues o c.args.part (drop 1 c.args.stack) c.args.next in
    let o : outer_of (first c.args.stack) ≡ outer.Do c.in-Do.begun = ap outer_of (sym c.pop.ensures.item) ∙ sym c.outer_of.ensures ∙ c.in-Do.is in
    subst given (sym (ap on o ∙ ap (until c.args.next.symbol c.in-Do.begun c.args.part) (sym c.pop.ensures.rest))) c.until.ensures

pub returns-in_ok-also_of-in-Block : goal.returns-in_ok-also_of-in-Block
returns-in_ok-also_of-in-Block c =
    let given : Next → Type 0 = λ n. Gives c.inside.result n in
    let on : Outer → Next = λ o. continues o c.args.part (drop 1 c.args.stack) c.args.next in
    let o : outer_of (first c.args.stack) ≡ outer.Block c.in-Block.block = ap outer_of (sym c.pop.ensures.item) ∙ sym c.outer_of.ensures ∙ c.in-Block.is in
    let more : Option (Built StatementTree) → Next = λ b. inside c.args.next.symbol b c.pop.new.self c.args.next in
    let rest : List Frame → Next = λ s. inside c.args.next.symbol (also_of c.in-Block.block c.args.part) s c.args.next in
    let left : List Frame → Next = λ s. inside c.args.next.symbol c.in_ok-also_of-in-Block.field-0 s c.args.next in
    subst given (sym (ap on o ∙ ap rest (sym c.pop.ensures.rest) ∙ ap more (sym c.in_ok-also_of-in-Block.ensures) ∙ ap left (sym c.stack.view_is))) c.inside.ensures

pub returns-in-Other : goal.returns-in-Other
returns-in-Other c =
    let on : Outer → Next = λ o. continues o c.args.part (drop 1 c.args.stack) c.args.next in
    let o : outer_of (first c.args.stack) ≡ outer.Other = ap outer_of (sym c.pop.ensures.item) ∙ sym c.outer_of.ensures ∙ c.in-Other.is in
    ap on o
