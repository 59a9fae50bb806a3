use Rattle.std.proofs.Common.{◌≡◌, ℕ, suc, ◌-◌, ◌+◌, ◌≤◌, length, drop, map, subst, arith}
use Rattle.std.specs.BTreeMap.{get}
use Rattle.std.specs.Ordering.{nat_cmp}
use Rattle.c_judge.specs.Scope.{or_else_number}
use Rattle.c_mentions.specs.Literals.{literal, number_at}
use Rattle.c_mentions.proofs.Numbered.{literal_more}
use Rattle.c_mentions.proofs.numbering.literal_numbers.Goals as goal

pub numbering-preserved : goal.numbering-preserved
numbering-preserved c =
    let e : c.numbering.i ≡ suc (c.numbering.i - 1) = omega arith in
    let inside : c.numbering.i - 1 ≤ length c.args.literals.now = omega arith in (
      inside,
      literal_more c.args.first (c.numbering.i - 1) c.args.literals.now _ (get nat_cmp c.numbering.numbers) _ (omega arith) c.in_ok-set.ensures
          (subst (λ k. (at : ℕ) → or_else_number 0 (get nat_cmp c.numbering.numbers at) ≡ number_at (c.args.first + k) (map literal (drop k c.args.literals.now)) at) e c.numbering.invariant.1),
    )

pub returns : goal.returns
returns c =
    let e : c.numbering.i ≡ 0 = omega arith in
    let first : c.args.first + 0 ≡ c.args.first = omega arith in
    λ at. subst (λ (n : ℕ). or_else_number 0 (get nat_cmp c.numbering.numbers at) ≡ number_at n (map literal c.args.literals.now) at) first
    (subst (λ (k : ℕ). or_else_number 0 (get nat_cmp c.numbering.numbers at) ≡ number_at (c.args.first + k) (map literal (drop k c.args.literals.now)) at) e (c.numbering.invariant.1 at))
