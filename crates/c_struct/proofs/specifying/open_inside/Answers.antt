use Rattle.c_struct.proofs.Within.{opened_passes}
use Rattle.c_struct.proofs.specifying.open_inside.Goals as goal

pub returns : goal.returns
returns c = λ others v.
    opened_passes others v c.args.n (record { outer = c.push.new.outer; inner = c.opened.result }) c.args.at c.args.tag.now c.requires c.opened.ensures.names c.in_ok-push.ensures
    (λ i. record { at = c.opened.ensures.begun i; tag = c.opened.ensures.tagged i; members = c.opened.ensures.members i })
