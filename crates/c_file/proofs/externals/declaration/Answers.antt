use Rattle.std.proofs.Common.{subst}
use Rattle.c_typing.specs.Plain.{plain}
use Rattle.c_file.specs.Files.{all_found, after_all}
use Rattle.c_file.specs.Progress.{Gains, Fails}
use Rattle.c_file.proofs.Goes.{declaration_goes, declaration_fails, declaration_not_begun}
use Rattle.c_file.proofs.externals.declaration.Goals as goal

pub returns-in-Ok-all_declared : goal.returns-in-Ok-all_declared
returns-in-Ok-all_declared c =
    let h = c.args.h.now in
    let t = plain c.in-Ok.t in
    declaration_goes h c.args.state c.begun.new.state c.all_declared.new.state c.in-Ok.t c.in-Ok.ensures
    (subst (λ ds. Gains (λ p. all_found h.storage t p ds) (λ p. after_all h.storage t p ds) c.begun.new.state c.all_declared.new.state) c.as_slice.ensures c.in-Ok-all_declared.ensures)

pub returns-in-Err-all_declared : goal.returns-in-Err-all_declared
returns-in-Err-all_declared c =
    let h = c.args.h.now in
    let t = plain c.in-Ok.t in
    declaration_fails h c.args.state c.begun.new.state c.in-Ok.t c.in-Err-all_declared.f c.in-Ok.ensures
    (subst (λ ds. Fails (λ p. all_found h.storage t p ds) c.begun.new.state c.in-Err-all_declared.f) c.as_slice.ensures c.in-Err-all_declared.ensures)

pub returns-in-Err : goal.returns-in-Err
returns-in-Err c = declaration_not_begun c.args.h.now c.args.state c.begun.new.state c.in-Err.f c.in-Err.ensures
