use Rattle.std.proofs.Common.{◌-◌}
use Rattle.ps_emit.proofs.Followed.{◌and◌}
use Rattle.ps_emit.proofs.functions.add_function.Goals as goal

pub returns : goal.returns
returns c =
    let named = rw c.as_bytes.ensures at c.in_ok-add_string.ensures in
    let saved = rw c.as_slice.ensures at c.in_ok-add_saved.ensures in
    let points = rw (c.requires.places, c.requires.locals, c.as_slice-2.ensures, c.as_slice-3.ensures) at c.in_ok-made.ensures.text in
    record {
      text =
          named and c.in_ok-add_truth.ensures and c.in_ok-add_number.ensures and c.in_ok-add_number-2.ensures and c.in_ok-add_number-3.ensures
          and (c.in_ok-add_word.ensures and saved and c.in_ok-add_word-2.ensures) and (c.in_ok-add_word-3.ensures and points and c.in_ok-add_word-4.ensures) and c.in_ok-add_word-5.ensures;
      made = rw (c.as_slice-2.ensures, c.as_slice-3.ensures) at c.in_ok-made.ensures.made;
    }
