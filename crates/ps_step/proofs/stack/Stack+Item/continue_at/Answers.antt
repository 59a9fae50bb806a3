use Rattle.std.proofs.Common.{◌≡◌, ◌+◌, ◌-◌, ◌∷◌, length, reverse, drop, sym, ap, ◌∙◌, arith}
use Rattle.std.proofs.lemmas.List.{length-reverse}
use Rattle.ps_store.specs.declared.object.ArrayId.{ArrayId}
use Rattle.ps_step.specs.declared.item.Item.{Item}
use Rattle.ps_step.specs.declared.item.Item.TheVariants.{Procedure}
use Rattle.ps_step.proofs.Reversed.{last-of-reverse, reverse-set-last}
use Rattle.ps_step.proofs.stack.Stack+Item.continue_at.Goals as goal
use Rattle.ps_step.proofs.stack.Stack+Item.continue_at.Goals.{in-Procedure, in_default}

-- the array of a procedure
procedure-array : ArrayId → Item → ArrayId
procedure-array other (Procedure a at) = a
procedure-array other item = other

pub returns : goal.returns
unfolding procedure-array
returns c =
    let xs = c.self.inside.items.items in
    let k = c.len-last.result - 1 in
    let a = c.args.a in
    let next = c.args.next in
    let now : reverse xs ≡ Procedure a c.args.at ∷ drop 1 c.args.self.now = c.self.view_is ∙ c.requires in
    let some : length xs ≡ length (Procedure a c.args.at ∷ drop 1 c.args.self.now) = sym (length-reverse xs) ∙ ap length now in
    let split : k + 1 ≡ length xs = omega (arith, c.self.inside.items.ok.0, some) in
    let top : c.index_mut.result.now ≡ Procedure a c.args.at = c.index_mut.ensures.value ∙ last-of-reverse xs k (Procedure a c.args.at) c.index_mut.result.now (drop 1 c.args.self.now) split now in
    elim c.match-index_mut.branch [
      | in-Procedure w ↦
          ap (λ s. reverse s.items.items) w.self-inside-is
          ∙ reverse-set-last xs k (Procedure w.in-Procedure.field-0 next) split
          ∙ ap (λ l. Procedure w.in-Procedure.field-0 next ∷ drop 1 l) c.self.view_is
          ∙ ap (λ item. Procedure (procedure-array a item) next ∷ drop 1 c.args.self.now) (sym w.in-Procedure.is ∙ top)
      | in_default w ↦ elim (w.in_default.not-Procedure a c.args.at top) [ ]
    ]
