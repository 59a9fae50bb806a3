use Rattle.std.proofs.Common.{◌∙◌, ap, subst, List, [], ◌∷◌, ◌++◌}
use Rattle.obj_file.specs.Image.{ImageFields}
use Rattle.ps_store.specs.StoreState.{StoreState}
use Rattle.targets.specs.Targets.{machine_behaviour, loaded}
use Rattle.near_link.specs.Near.{Begins}
use Rattle.ldb_top.proofs.Starts.{first_is, both_are}
use Rattle.ldb_top.proofs.opening.Sides.start.Goals as goal

pub returns-in-Ok-clause-over : goal.returns-in-Ok-clause-over
returns-in-Ok-clause-over c = λ room image text one.
    let begins : Begins (image ∷ []) c.args.schedule.items c.in_ok-link.link = subst (λ (xs : List ImageFields). Begins xs c.args.schedule.items c.in_ok-link.link) (c.deref.ensures.value ∙ one.images_are) c.in_ok-link.ensures in
    let there = c.in-Ok.ensures.one machine_behaviour (loaded image) one.store one.tables_are (first_is image c.args.schedule.items c.in_ok-link.link one.store c.near_nubs_fit.ensures.sides begins one.known one.shape) room in
    record { hosts = there.0; represents = there.1; raw_is = c.in-Ok.ensures.fresh.2 }

pub returns-in-Ok-clause-over_both : goal.returns-in-Ok-clause-over_both
returns-in-Ok-clause-over_both c = λ room image other text other_text images tables one two.
    let images_are = two.images_are ∙ ap (λ (xs : List ImageFields). xs ++ other ∷ []) one.images_are in
    let tables_are = two.tables_are ∙ ap (λ (xs : List StoreState). xs ++ two.store ∷ []) one.tables_are in
    let begins : Begins (image ∷ other ∷ []) c.args.schedule.items c.in_ok-link.link = subst (λ (xs : List ImageFields). Begins xs c.args.schedule.items c.in_ok-link.link) (c.deref.ensures.value ∙ images_are) c.in_ok-link.ensures in
    let there = c.in-Ok.ensures.two machine_behaviour (loaded image) (loaded other) one.store two.store tables_are
    (both_are image other c.args.schedule.items c.in_ok-link.link one.store two.store c.near_nubs_fit.ensures.sides begins one.known two.known one.shape two.shape) room in
    record { hosts = there.0; represents = there.1; raw_is = c.in-Ok.ensures.fresh.2 }
