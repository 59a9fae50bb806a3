use Rattle.std.proofs.Common.{◌≡◌, ◌∙◌, rules, true, false, subst, sym}
use Rattle.std.specs.List.{list_all}
use Rattle.machine_state.specs.declared.layout.TheConstants.{TEXT, DATA}
use Rattle.obj_placed.specs.Placed.{all_statics, placed_rows}
use Rattle.link_image.specs.Linked.{anchors_from}
use Rattle.link_image.specs.Conditions.{has_whole_words, has_rows_inside, is_sized}
use Rattle.link_image.specs.Tables.{entry_in}
use Rattle.link_image.proofs.Image.{image_is, linked_is, unsized}
use Rattle.link_image.proofs.linking.link.Goals as goal

pub returns-then-not-is_sized : goal.returns-then-not-is_sized
returns-then-not-is_sized c =
    let size : is_sized c.in_ok-text.text.items ≡ false = search rules in
    unsized c.args.objects.now (entry_in c.in_ok-addresses.addresses) c.in_ok-text.text.items c.in_ok-addresses.ensures c.in_ok-text.ensures.text size

pub new-image-requires : goal.new-image-requires
new-image-requires c =
    let words : list_all has_whole_words c.args.objects.now ≡ true = search rules in
    let size : is_sized c.in_ok-text.text.items ≡ true = search rules in
    image_is c.args.objects.now (entry_in c.in_ok-addresses.addresses) c.in_ok-addresses.ensures c.in_ok-text.text.items c.in_ok-statics.statics.items c.in_ok-text.ensures.taken c.in_ok-statics.ensures.taken words c.in_ok-anchors.ensures.fit c.in_ok-text.ensures.text c.in_ok-statics.ensures.bytes
    c.in_ok-target.target c.in_ok-target.ensures.known size

pub returns : goal.returns
returns c =
    let words : list_all has_whole_words c.args.objects.now ≡ true = search rules in
    let inside : list_all has_rows_inside c.args.objects.now ≡ true = search rules in
    let size : is_sized c.in_ok-text.text.items ≡ true = search rules in
    linked_is c.args.objects.now (entry_in c.in_ok-addresses.addresses) c.in_ok-addresses.ensures c.in_ok-text.text.items c.in_ok-statics.statics.items c.in_ok-text.ensures.taken c.in_ok-statics.ensures.taken words c.in_ok-anchors.ensures.fit c.in_ok-text.ensures.text c.in_ok-statics.ensures.bytes
    c.in_ok-target.target _ _ c.in_ok-target.ensures.one c.in_ok-target.ensures.each inside size c.new-image.ensures (search rules) (search rules)
