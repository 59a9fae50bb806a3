use Rattle.std.proofs.Common.{◌≡◌, ◌∙◌, sym, ap, length, bytes_eq, Some, None, arith}
use Rattle.std.specs.Map.{update}
use Rattle.std.proofs.lemmas.Grind.{common_steps}
use Rattle.c_defs.specs.Numbers.{number_in}
use Rattle.c_linkage.proofs.Once.{tag_added, number_added}
use Rattle.c_linkage.proofs.tag_numbers.add.Goals as goal

pub returns-clause-tags : goal.returns-clause-tags
returns-clause-tags c =
    let none : number_in c.args.numbers.now c.args.tag.now ≡ None = grind (arith, common_steps) in
    tag_added c.args.tags.now.items c.push.new.self.items c.args.tag c.in_ok-push.ensures.items (sym (c.requires c.args.tag.now) ∙ none)

pub returns-clause-numbers : goal.returns-clause-numbers
returns-clause-numbers c =
    let none : number_in c.args.numbers.now c.args.tag.now ≡ None = grind (arith, common_steps) in
    let count : c.in-Ok.number ≡ length c.args.tags.now.items = grind (arith, common_steps) in
    number_added c.args.tags.now.items c.push.new.self.items c.args.tag c.in-Ok.number (number_in c.args.numbers.now) (number_in c.set.new.self) c.in_ok-push.ensures.items count none c.requires
    (λ t. c.in_ok-set.ensures.ok t ∙ ap (λ x. update bytes_eq (number_in c.args.numbers.now) x (Some c.in-Ok.number) t) c.as_bytes-name.ensures)
