use Rattle.link_image.specs.Tables.{entry_in}
use Rattle.link_image.proofs.Named.{names_linked}
use Rattle.link_image.proofs.names.addresses_of.Goals as goal

pub returns : goal.returns
returns c = λ t.
    names_linked (entry_in c.new-addresses.result t) (entry_in c.add_texts.new.addresses t) (entry_in c.add_all_statics.new.addresses t) c.args.objects.now t
    (c.new-addresses.ensures t) (c.in_ok-add_texts.ensures t) (c.in_ok-add_all_statics.ensures t)
