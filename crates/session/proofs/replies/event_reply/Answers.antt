use Rattle.std.proofs.Common.{◌∙◌}
use Rattle.session.proofs.Rooms.{adds_both, adds_whole}
use Rattle.session.proofs.replies.event_reply.Goals as goal

pub returns : goal.returns
returns c = λ h. c.into_text.ensures ∙ adds_whole _ (adds_both c.add_event.ensures.adds c.add.ensures) h c.add_event.ensures.short
