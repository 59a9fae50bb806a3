use Rattle.std.proofs.Common.{refl, Some}
use Rattle.std.proofs.lemmas.Option.{slice_get_read, slice_get_past}
use Rattle.c_judge.proofs.Rows.{named_none, named_function, numbered_known}
use Rattle.c_judge.proofs.Wholly.{makes_part}
use Rattle.c_judge.specs.Judgement.{named}
use Rattle.c_judge.specs.Elaboration.{IsNamed}
use Rattle.c_judge.specs.Judges.{scope_of}
use Rattle.c_judge.proofs.leaf.numbered.Goals as goal

pub returns-in_default : goal.returns-in_default
returns-in_default c = λ text. named_none c.args.v.now c.args.at.at text c.args.n (slice_get_past c.args.v.now.rows.now c.args.n c.in_default.ensures.lookup.3)

pub returns-then-symbol : goal.returns-then-symbol
returns-then-symbol c = λ text. named_function c.args.v.now c.args.at.at text c.args.n c.in-Some.symbol.now (slice_get_read c.args.v.now.rows.now _ c.args.n c.in-Some.symbol.now refl c.in-Some.ensures.lookup.3.0 c.in-Some.ensures.lookup.1) c.if-symbol.true

pub returns : goal.returns
returns c = λ text. makes_part (named (scope_of c.args.v.now) c.args.at.at text (Some c.args.n)) (IsNamed c.args.n) c.args.at _ _ c.part_of.result c.part_of.ensures
    (numbered_known c.args.v.now c.args.at text c.args.n c.in-Some.symbol.now c.in_ok-t.t c.head.result.ctype (slice_get_read c.args.v.now.rows.now _ c.args.n c.in-Some.symbol.now refl c.in-Some.ensures.lookup.3.0 c.in-Some.ensures.lookup.1) c.if-symbol.false c.in_ok-t.ensures c.head.ensures.ctype)
    refl c.head.ensures.site
