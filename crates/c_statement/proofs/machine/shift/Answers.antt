use Rattle.std.proofs.Common.{sym, ap, subst}
use Rattle.c_statement.specs.declared.state.Mode.{Mode}
use Rattle.c_statement.specs.Machine.{Next, Gives, shift_mode}
use Rattle.c_statement.proofs.machine.shift.Goals as goal

pub returns-in-Begin : goal.returns-in-Begin
returns-in-Begin c =
    let given : Next → Type 0 = λ n. Gives c.begins.result n in
    let by : Mode → Next = λ m. shift_mode m c.args.reader.stack c.args.next in
    subst given (sym (ap by c.in-Begin.is)) c.begins.ensures

pub returns-in-Items : goal.returns-in-Items
returns-in-Items c =
    let given : Next → Type 0 = λ n. Gives c.items.result n in
    let by : Mode → Next = λ m. shift_mode m c.args.reader.stack c.args.next in
    subst given (sym (ap by c.in-Items.is)) c.items.ensures

pub returns-in-Declaring : goal.returns-in-Declaring
returns-in-Declaring c =
    let given : Next → Type 0 = λ n. Gives c.declares_on.result n in
    let by : Mode → Next = λ m. shift_mode m c.args.reader.stack c.args.next in
    subst given (sym (ap by c.in-Declaring.is)) c.declares_on.ensures

pub returns-in-After : goal.returns-in-After
returns-in-After c =
    let given : Next → Type 0 = λ n. Gives c.after.result n in
    let by : Mode → Next = λ m. shift_mode m c.args.reader.stack c.args.next in
    subst given (sym (ap by c.in-After.is)) c.after.ensures

pub returns-in-Paren : goal.returns-in-Paren
returns-in-Paren c =
    let given : Next → Type 0 = λ n. Gives c.paren.result n in
    let by : Mode → Next = λ m. shift_mode m c.args.reader.stack c.args.next in
    subst given (sym (ap by c.in-Paren.is)) c.paren.ensures

pub returns-in-Ends : goal.returns-in-Ends
returns-in-Ends c =
    let given : Next → Type 0 = λ n. Gives c.semicolon.result n in
    let by : Mode → Next = λ m. shift_mode m c.args.reader.stack c.args.next in
    subst given (sym (ap by c.in-Ends.is)) c.semicolon.ensures

pub returns-in-Colon : goal.returns-in-Colon
returns-in-Colon c =
    let given : Next → Type 0 = λ n. Gives c.colon.result n in
    let by : Mode → Next = λ m. shift_mode m c.args.reader.stack c.args.next in
    subst given (sym (ap by c.in-Colon.is)) c.colon.ensures

pub returns-in-May : goal.returns-in-May
returns-in-May c =
    let given : Next → Type 0 = λ n. Gives c.maybe.result n in
    let by : Mode → Next = λ m. shift_mode m c.args.reader.stack c.args.next in
    subst given (sym (ap by c.in-May.is)) c.maybe.ensures

pub returns-in-Value : goal.returns-in-Value
returns-in-Value c =
    let given : Next → Type 0 = λ n. Gives c.valued.result n in
    let by : Mode → Next = λ m. shift_mode m c.args.reader.stack c.args.next in
    subst given (sym (ap by c.in-Value.is)) c.valued.ensures

pub returns-in-Done : goal.returns-in-Done
returns-in-Done c = let by : Mode → Next = λ m. shift_mode m c.args.reader.stack c.args.next in ap by c.in-Done.is
