use Rattle.obj_file.proofs.Written.{nothing_wrong, one_image, read_back}
use Rattle.obj_file.proofs.laws.written_images_read_back.Goals as goal

pub returns-clause-right : goal.returns-clause-right
returns-clause-right c = nothing_wrong

pub returns-clause-one : goal.returns-clause-one
returns-clause-one c = one_image

pub returns-clause-back : goal.returns-clause-back
returns-clause-back c = read_back
