use Rattle.std.proofs.Common.{ap, ◌∙◌}
use Rattle.c_show.specs.Printed.{Page, put_within}
use Rattle.c_show.specs.Seen.{all_told}
use Rattle.c_show.proofs.value.show.Goals as goal

pub returns : goal.returns
returns c =
    ap (λ (q : Page). q.text)
    (c.in_ok-put_within.ensures
    ∙ ap (λ text. put_within c.args.defs.now 64 c.args.t.now (record { text = text; rest = all_told c.args.held.now; room = 1000 })) c.new.ensures)
