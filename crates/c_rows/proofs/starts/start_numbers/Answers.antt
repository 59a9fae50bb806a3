use Rattle.std.proofs.Common.{◌≡◌, ℕ, List, suc, ◌-◌, map, drop, subst, arith}
use Rattle.std.proofs.lemmas.Grind.{common_steps}
use Rattle.c_linkage.specs.FileNumbers.{number_at}
use Rattle.c_linkage.specs.Wanted.{started}
use Rattle.c_rows.specs.Objects.{start_number}
use Rattle.c_rows.proofs.Listed.{start_more}
use Rattle.c_rows.proofs.starts.start_numbers.Goals as goal

pub numbering-preserved : goal.numbering-preserved
numbering-preserved c =
    let e : c.numbering.i ≡ suc (c.numbering.i - 1) = omega arith in
    let k : c.in-Ok.number ≡ c.numbering.i - 1 = grind (arith, common_steps) in
    record {
      inside = omega arith;
      finds = start_more c.args.starts.now (c.numbering.i - 1) c.in-Ok.number c.index-starts-i.result c.as_bytes.result.now (number_at c.numbering.numbers) (number_at c.set.new.self) (omega arith) c.index-starts-i.is c.as_bytes.ensures k c.in_ok-set.ensures.ok
          (subst (λ (k : ℕ). (u : ℕ) (t : List ℕ) → number_at c.numbering.numbers u t ≡ start_number k (map started (drop k c.args.starts.now)) u t) e c.numbering.invariant.finds);
    }

pub returns : goal.returns
returns c =
    let e : c.numbering.i ≡ 0 = omega arith in
    subst (λ (k : ℕ). (u : ℕ) (t : List ℕ) → number_at c.numbering.numbers u t ≡ start_number k (map started (drop k c.args.starts.now)) u t) e c.numbering.invariant.finds
