use Rattle.std.proofs.Common.{◌≡◌, ℕ, List, suc, ◌-◌, drop, map, subst, arith, ap, ◌∙◌}
use Rattle.c_defs.specs.Numbers.{number_in}
use Rattle.c_defs.specs.Numbers.{number_from}
use Rattle.c_scope.specs.StructTags.{text}
use Rattle.c_scope.proofs.FirstNumber.{numbered_more}
use Rattle.c_scope.proofs.struct_tags.numbered.Goals as goal

pub numbering-preserved : goal.numbering-preserved
numbering-preserved c =
    let e : c.numbering.i ≡ suc (c.numbering.i - 1) = omega arith in
    record {
      inside = omega arith;
      found = numbered_more text c.args.texts.now (c.numbering.i - 1) _ _ _ _ (omega arith) (c.as_bytes.ensures ∙ ap text c.index-texts-i.is) c.in_ok-set.ensures.ok
          (subst (λ k. (t : List ℕ) → number_in c.numbering.numbers t ≡ number_from k (map text (drop k c.args.texts.now)) t) e c.numbering.invariant.found);
    }

pub returns : goal.returns
returns c =
    let e : c.numbering.i ≡ 0 = omega arith in
    λ t. subst (λ k. number_in c.numbering.numbers t ≡ number_from k (map text (drop k c.args.texts.now)) t) e (c.numbering.invariant.found t)
