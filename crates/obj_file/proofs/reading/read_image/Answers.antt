use Rattle.std.proofs.Common.{◌≡◌, ◌∙◌, sym, ap, ◌+◌, take, drop, None, arith}
use Rattle.std.proofs.lemmas.List.{take_rest}
use Rattle.obj_file.specs.Image.{IsHeader, IsBody, wrong_in_body}
use Rattle.obj_file.proofs.Cutting.{AreBytes, joined, right}
use Rattle.obj_file.proofs.reading.read_image.Goals as goal

pub returns : goal.returns
returns c =
    let bytes = c.args.bytes.now in
    let h = c.in-Ok.header in
    let header : IsHeader bytes h.target h.entry h.text_length h.data_length = c.in-Ok.ensures in
    let none : wrong_in_body h.entry h.text_length h.data_length bytes ≡ None = sym c.wrong_in_body.ensures.first ∙ c.in_default.is in
    let body : IsBody bytes h.entry h.text_length h.data_length = c.wrong_in_body.ensures.right c.in_default.is in
    let text : c.in-Ok-from_slice.text.items ≡ take h.text_length (drop 20 bytes)
    = c.in-Ok-from_slice.ensures.items ∙ ap (λ n. take n (drop 20 bytes)) (omega arith) in
    let statics : c.in-Ok-from_slice-2.statics.items ≡ drop (20 + h.text_length) bytes
    = c.in-Ok-from_slice-2.ensures.items ∙ take_rest bytes (20 + h.text_length) in
    let small : AreBytes bytes = λ i. omega (arith, c.type_inv.bytes i) in (
      right bytes h.target h.entry h.text_length h.data_length header none,
      rw c.new.ensures
          (joined bytes small h.target h.entry h.text_length h.data_length header c.in-Ok-from_slice.text.items c.in-Ok-from_slice-2.statics.items body.whole text statics),
    )
