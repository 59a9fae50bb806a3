use Rattle.std.proofs.Common.{◌∙◌, arith}
use Rattle.c_lex.specs.Grammar.{start}
use Rattle.ldb_cc.specs.Sources.{IsTree}
use Rattle.ldb_cc.proofs.Lengths.{as_many, of_texts, spelled_shortly}
use Rattle.ldb_cc.proofs.accepted.programs_of_sources.Goals as goal

pub returns : goal.returns
returns c = record {
  rules = λ names texts p n is. c.checked_programs_are_accepted.ensures names is.0 p is.2 (n ∙ as_many IsTree texts is.0 is.1.trees) (of_texts _ (c.files_are_texts.ensures start) texts is.0 is.1.trees);
  few = λ names texts p is.
      let short = spelled_shortly c.programs_have_few_tokens.ensures.joined c.one_reading.ensures.tokens texts is.0 is.1.few.0 40000 is.1.trees is.1.few.1.tokens is.1.few.2 in
      omega (arith, c.programs_have_few_tokens.ensures.fewest names is.0 short.0 p short.1 is.2, short.2);
}
