use Rattle.std.proofs.Common.{◌∙◌, ◌++◌, List, ℕ, ap, codes}
use Rattle.ldb_make.specs.Commands.{rounds_text, commands_text}
use Rattle.ldb_make.proofs.Pieces.{two_pieces}
use Rattle.ldb_make.proofs.commands.commands_of.Goals as goal

pub returns : goal.returns
unfolding commands_text
returns c =
    let end = codes "clear f0\ncontinue\n" in
    c.in_ok-append.ensures.ok
    ∙ two_pieces c.in_ok-text.text (rounds_text c.args.words.now) end c.add_rounds.new.text c.in_ok-add_rounds.ensures
    ∙ ap (λ (front : List ℕ). front ++ (rounds_text c.args.words.now ++ end)) c.in_ok-text.ensures
