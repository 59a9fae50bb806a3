use Rattle.std.proofs.Common.{◌≡◌, ◌≤◌, ◌+◌, ℕ, List, take, drop, sym, ap, subst, ◌∙◌, arith, Result, Ok, Err}
use Rattle.std.specs.Prelude.{IfOk}
use Rattle.std.specs.declared.alloc.AllocError.{AllocError}
use Rattle.c_tree.specs.declared.types.Member.{Member}
use Rattle.c_defs.specs.Leaves.{leaf_count, leaves_of_members}
use Rattle.c_defs.proofs.Same.{split_leaves}
use Rattle.c_defs.proofs.leaf_counts.leaves_behind.Goals as goal

rest_told : (r : Result ℕ AllocError) (first rest all : ℕ) → first + rest ≡ all → IfOk r (λ n. n + first ≡ all) → IfOk r (λ n. n ≡ rest)
rest_told (Ok n) first rest all h k = omega (arith, h, k)
rest_told (Err e) first rest all h k = tt

pub behind-requires-clause-all : goal.behind-requires-clause-all
behind-requires-clause-all c =
    let f = leaf_count c.args.defs.now c.args.deep in
    let ms = c.members-members.result.now in
    let all : c.in-Some-kept_leaves.all ≡ leaves_of_members f ms = sym c.in-Some-kept_leaves.ensures ∙ ap (leaves_of_members f) (sym c.members-members.ensures) in
    omega (arith, all, split_leaves f ms c.args.k)

pub returns-in-Some-kept_leaves : goal.returns-in-Some-kept_leaves
returns-in-Some-kept_leaves c =
    let f = leaf_count c.args.defs.now c.args.deep in
    let ms = c.members-members.result.now in
    let all : leaves_of_members f (take c.args.k ms) + leaves_of_members f (drop c.args.k ms) ≡ c.in-Some-kept_leaves.all =
    split_leaves f ms c.args.k ∙ (ap (leaves_of_members f) c.members-members.ensures ∙ c.in-Some-kept_leaves.ensures) in
    subst (λ (l : List Member). IfOk c.behind.result (λ n. n ≡ leaves_of_members f (drop c.args.k l))) c.members-members.ensures
    (rest_told c.behind.result (leaves_of_members f (take c.args.k ms)) (leaves_of_members f (drop c.args.k ms)) c.in-Some-kept_leaves.all all c.behind.ensures)
