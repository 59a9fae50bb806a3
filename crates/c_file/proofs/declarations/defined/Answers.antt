use Rattle.std.proofs.Common.{sym}
use Rattle.c_typing.specs.Plain.{plain}
use Rattle.c_file.proofs.Named.{without_initial, with_initial_at}
use Rattle.c_file.proofs.declarations.defined.Goals as goal

pub returns-in_ok-uninitialized-in-None : goal.returns-in_ok-uninitialized-in-None
returns-in_ok-uninitialized-in-None c =
    without_initial c.args.storage c.args.d.now (plain c.args.t.now) c.name_in-name.result.now c.name_in-name.ensures c.args.state.now c.uninitialized.new.state
    c.in-None.is (c.in_ok-uninitialized-in-None.ensures (plain c.args.t.now))

pub returns-in-Some : goal.returns-in-Some
returns-in-Some c =
    with_initial_at c.args.storage c.args.d.now (plain c.args.t.now) c.name_in-name.result.now c.name_in-name.ensures c.args.state.now c.initialized.new.state
    c.initialized.result c.in-Some.i (sym c.in-Some.is) c.initialized.ensures
