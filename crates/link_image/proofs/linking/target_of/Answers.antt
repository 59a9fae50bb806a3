use Rattle.std.proofs.Common.{◌≡◌, rules, length}
use Rattle.link_image.proofs.Image.{no_texts}
use Rattle.link_image.proofs.linking.target_of.Goals as goal

pub returns-then-is_empty-clause-fault : goal.returns-then-is_empty-clause-fault
returns-then-is_empty-clause-fault c = no_texts c.args.objects.now (let none : length c.args.objects.now ≡ 0 = search rules in none)
