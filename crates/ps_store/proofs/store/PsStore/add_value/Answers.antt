use Rattle.ps_store.proofs.Putting.{dropped}
use Rattle.ps_store.proofs.store.PsStore.add_value.Goals as goal

pub returns-in-Err-add_pair-clause-does : goal.returns-in-Err-add_pair-clause-does
returns-in-Err-add_pair-clause-does c =
    dropped c.args.self.now c.make_key.new.self c.add_pair.new.self c.cut_back.new.self c.args.d c.args.key c.in-Ok.object c.args.value c.mark-mark.result c.in-Err-add_pair.fault
    c.in-Ok.ensures.does c.mark-mark.ensures.mark c.in-Err-add_pair.ensures.does c.cut_back.ensures.cut
