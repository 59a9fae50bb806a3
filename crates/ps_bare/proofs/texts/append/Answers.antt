use Rattle.std.proofs.Common.{◌≡◌, arith}
use Rattle.ps_bare.proofs.Acting.{at_number}
use Rattle.ps_bare.proofs.texts.append.Goals as goal

pub returns-in-28-clause-acts : goal.returns-in-28-clause-acts
returns-in-28-clause-acts c =
    let cell = c.args.memory.now.cell in
    at_number 28 c.args.op cell c.args.core.now c.put_string.result cell c.put_string.new.core c.in-28.is (c.put_string.ensures.acts cell)

pub returns-in-29-clause-acts : goal.returns-in-29-clause-acts
returns-in-29-clause-acts c =
    let cell = c.args.memory.now.cell in
    at_number 29 c.args.op cell c.args.core.now c.put_character.result cell c.put_character.new.core c.in-29.is (c.put_character.ensures.acts cell)

pub returns-in-30-clause-acts : goal.returns-in-30-clause-acts
returns-in-30-clause-acts c =
    let cell = c.args.memory.now.cell in
    at_number 30 c.args.op cell c.args.core.now c.put_address.result cell c.put_address.new.core c.in-30.is (c.put_address.ensures.acts cell)

pub returns-in_default-clause-acts : goal.returns-in_default-clause-acts
returns-in_default-clause-acts c =
    let last : c.args.op ≡ 31 = omega arith in
    at_number 31 c.args.op c.args.memory.now.cell c.args.core.now c.put_characters.result c.put_characters.new.memory.cell c.put_characters.new.core last c.put_characters.ensures.acts
