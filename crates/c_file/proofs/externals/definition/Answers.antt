use Rattle.c_scope.specs.Shapes.{shape_of}
use Rattle.c_file.proofs.Goes.{definition_goes, definition_not_begun, definition_not_shaped}
use Rattle.c_file.proofs.externals.definition.Goals as goal

pub returns-in-Ok-shape : goal.returns-in-Ok-shape
returns-in-Ok-shape c =
    definition_goes c.args.h.now c.args.body.now c.args.state c.begun.new.state c.in-Ok.t (shape_of c.in-Ok-shape.s) c.in-Ok.ensures c.in-Ok-shape.ensures c.function.result c.function.ensures

pub returns-in-Err-shape : goal.returns-in-Err-shape
returns-in-Err-shape c = definition_not_shaped c.args.h.now c.args.body.now c.args.state c.begun.new.state c.in-Ok.t c.in-Err-shape.f c.in-Ok.ensures c.in-Err-shape.ensures

pub returns-in-Err : goal.returns-in-Err
returns-in-Err c = definition_not_begun c.args.h.now c.args.body.now c.args.state c.begun.new.state c.in-Err.f c.in-Err.ensures
