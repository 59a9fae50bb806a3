use Rattle.std.proofs.Common.{◌∙◌, ap, sym, refl}
use Rattle.c_symbol.specs.declared.symbol.PrefixOp.TheVariants as prefix
use Rattle.c_tree.specs.Types.{type_of}
use Rattle.c_typing.specs.Plain.{plain}
use Rattle.c_typing.specs.declared.constant.Constant.TheVariants.{Number}
use Rattle.c_judge.specs.Answers.{Known}
use Rattle.c_judge.specs.Judgement.{sized, folded}
use Rattle.c_judge.specs.Elaboration.{IsPrefixed}
use Rattle.c_judge.proofs.Sized.{sized_known}
use Rattle.c_judge.proofs.Wholly.{makes_part}
use Rattle.c_judge.proofs.operators.size_of.Goals as goal

pub returns : goal.returns
returns c =
    let t = plain (type_of c.args.x.typed.value) in
    makes_part (sized c.args.defs.now c.args.at.at t) (IsPrefixed prefix.Sizeof c.args.x.typed.value) c.args.at _ _ c.part_of.result c.part_of.ensures
    (sized_known c.args.defs.now c.args.at.at c.is_complete.result (plain c.type_of-t.result.now) t c.in-Some.size c.type_of-t.ensures c.is_complete.ensures c.if-not-is_complete.false c.in-Some.ensures
    ∙ ap (λ u. Known (folded (Number c.in-Some.size) (plain u))) (sym c.head.ensures.ctype))
    refl c.head.ensures.site
