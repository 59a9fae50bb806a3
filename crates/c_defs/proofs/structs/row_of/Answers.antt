use Rattle.std.proofs.Common.{◌≡◌, ◌==◌, true, false, List, [], ◌∷◌, length, sym, subst, ◌∙◌, refl, arith, Result, Ok, Err, ℕ}
use Rattle.std.proofs.lemmas.Grind.{common_steps}
use Rattle.std.specs.Prelude.{IfOk}
use Rattle.std.specs.Result.{result_ok}
use Rattle.std.specs.declared.alloc.AllocError.{AllocError}
use Rattle.c_typing.specs.Plain.{is_empty}
use Rattle.c_tree.specs.declared.types.Member.{Member}
use Rattle.c_defs.specs.Depths.{are_within}
use Rattle.c_defs.specs.Kept.{is_settled, IsCount}
use Rattle.c_defs.specs.Leaves.{leaf_count, leaves_of_members}
use Rattle.c_defs.proofs.Completed.{row_made}
use Rattle.c_defs.proofs.structs.row_of.Goals as goal

not_empty : (ms : List Member) → (length ms == 0) ≡ false → is_empty ms ≡ false
not_empty [] h = h
not_empty (m ∷ ms) h = refl

count_told : (r : Result ℕ AllocError) (n : ℕ) → IfOk r (λ k. k ≡ n) → IsCount (result_ok r) n
count_told (Ok k) n h = sym h
count_told (Err e) n h = tt

pub returns : goal.returns
returns c =
    let some : is_empty c.args.members.now ≡ false = not_empty c.args.members.now (sym c.is_empty.ensures ∙ c.if-is_empty.false) in
    let settled : are_within (is_settled c.args.rows.now) c.args.members.now ≡ true = grind (arith, common_steps) in
    let count : IsCount c.ok.result (leaves_of_members (leaf_count c.args.defs.now 63) c.args.members.now) = subst (λ o. IsCount o (leaves_of_members (leaf_count c.args.defs.now 63) c.args.members.now)) (sym c.ok.ensures.value)
    (count_told c.leaves_of_members.result (leaves_of_members (leaf_count c.args.defs.now 63) c.args.members.now) c.leaves_of_members.ensures) in
    row_made c.args.defs.now c.args.rows.now c.args.members.now (record { deepest = c.deepest.result; wide = c.any_wide.result; leaves = c.ok.result; numbers = c.args.numbers })
    some settled c.deepest.ensures.within c.any_wide.ensures count c.requires.numbers
