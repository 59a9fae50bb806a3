use Rattle.std.proofs.Common.{◌≡◌, ℕ, Bool, List, suc, ◌-◌, map, drop, subst, arith}
use Rattle.std.proofs.lemmas.Grind.{common_steps}
use Rattle.c_linkage.specs.Names.{defining}
use Rattle.c_linkage.specs.Defined.{number_from}
use Rattle.c_rows.specs.Linked.{linked_in}
use Rattle.c_rows.proofs.Listed.{number_more}
use Rattle.c_rows.proofs.numbering.numbered.Goals as goal

pub numbering-preserved : goal.numbering-preserved
numbering-preserved c =
    let e : c.numbering.i ≡ suc (c.numbering.i - 1) = omega arith in
    let k : c.in-Ok.number ≡ c.numbering.i - 1 = grind (arith, common_steps) in
    record {
      inside = omega arith;
      finds = number_more c.args.definitions.now (c.numbering.i - 1) c.in-Ok.number c.index-definitions-i.result c.as_bytes.result.now (linked_in c.numbering.numbers) (linked_in c.set.new.self) (omega arith) c.index-definitions-i.is c.as_bytes.ensures k c.in_ok-set.ensures
          (subst (λ (k : ℕ). (u : ℕ) (s : Bool) (t : List ℕ) → linked_in c.numbering.numbers u s t ≡ number_from k (map defining (drop k c.args.definitions.now)) u s t) e c.numbering.invariant.finds);
    }

pub returns : goal.returns
returns c =
    let e : c.numbering.i ≡ 0 = omega arith in
    subst (λ (k : ℕ). (u : ℕ) (s : Bool) (t : List ℕ) → linked_in c.numbering.numbers u s t ≡ number_from k (map defining (drop k c.args.definitions.now)) u s t) e c.numbering.invariant.finds
