use Rattle.std.proofs.Common.{[], map, sym, subst}
use Rattle.ldb_cc.specs.Scanning.{items_of}
use Rattle.ldb_top.specs.declared.opening.Sides.{Sides}
use Rattle.ldb_top.specs.Names.{aim_in}
use Rattle.ldb_top.specs.Why.{AddsFor}
use Rattle.ldb_top.proofs.Opened.{adds_one, adds_both}
use Rattle.ldb_top.proofs.opening.sides_of.Goals as goal
use Rattle.ldb_top.proofs.opening.sides_of.Goals.{in-One+in_ok-compile-in-One, in-Both+in_ok-compile-in-Both+in_ok-compile-in-Both-2}

pub returns-clause-adds : goal.returns-clause-adds
returns-clause-adds c =
    let names = c.args.names.now in
    let texts = map items_of c.args.texts.now in
    let images = c.new-sides.result.images.items in
    let tables = c.new-sides.result.tables.items in
    let So = λ (s : Sides). AddsFor (aim_in c.args.aims) names texts [] s.images.items [] s.tables.items in
    elim c.match-aims.branch [
      | in-One+in_ok-compile-in-One w ↦
          let one = w.compile.new.self in
          subst So (sym w.sides-is) (adds_one c.args.aims w.in-One.aim names texts images one.images.items tables one.tables.items w.in-One.is c.new-sides.ensures.images c.new-sides.ensures.tables w.in_ok-compile-in-One.ensures.adds)
      | in-Both+in_ok-compile-in-Both+in_ok-compile-in-Both-2 w ↦
          let one = w.compile-in-Both.new.self in
          let two = w.compile-in-Both-2.new.self in
          subst So (sym w.sides-is) (adds_both c.args.aims names texts images one.images.items two.images.items tables one.tables.items two.tables.items w.in-Both.is c.new-sides.ensures.images c.new-sides.ensures.tables
          w.in_ok-compile-in-Both.ensures.adds w.in_ok-compile-in-Both-2.ensures.adds)
    ]
