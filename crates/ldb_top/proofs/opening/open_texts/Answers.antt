use Rattle.std.proofs.Common.{◌∙◌, sym, subst}
use Rattle.ldb_top.specs.Names.{AreSourceNames}
use Rattle.ldb_top.proofs.opening.open_texts.Goals as goal

pub begin-requires-clause-named : goal.begin-requires-clause-named
begin-requires-clause-named c = subst AreSourceNames (sym (c.deref.ensures.value ∙ c.in_ok-names.ensures)) c.requires.named
