use Rattle.std.proofs.Common.{◌≡◌, ◌∷◌, ◌++◌, [], List, Some, true, length, sym, ap, subst, ◌∙◌, arith, bytes_eq, if◌then◌else◌}
use Rattle.std.specs.Map.{update}
use Rattle.c_defs.specs.Numbers.{number_in}
use Rattle.c_linkage.specs.Names.{FileName, one_linkage, one_type}
use Rattle.c_linkage.specs.FileNames.{file_name, AreConsistent}
use Rattle.c_linkage.specs.FileNumbers.{number_at, with_number}
use Rattle.c_linkage.specs.Numbered.{more_number, declared}
use Rattle.c_linkage.proofs.NumberedRows.{declared_last, files_numbered, externals_numbered}
use Rattle.c_linkage.proofs.file_names.FileNames.add.Goals as goal

pub invariant_of-self-2 : goal.invariant_of-self-2
invariant_of-self-2 c =
    let rows = c.self.inside.rows.items in
    let r = c.args.f in
    let e = c.put.ensures ∙ ap (λ l. l ++ r ∷ []) c.in_ok-reserve.ensures.items in
    let d = c.deref.ensures.value ∙ c.in_ok-reserve.ensures.items in
    let n : c.in-Ok.number ≡ length rows = omega (arith, c.in-Ok.ensures, c.len.ensures, c.in_ok-reserve.ensures.len) in
    let f = number_at c.self.inside.by_file in
    let g = number_in c.self.inside.by_name in
    record {
      consistent = subst AreConsistent (sym (ap declared e ∙ declared_last rows r)) (
        subst (λ (fs : List FileName). one_linkage (file_name r) fs ≡ true) (sym c.self.view_is) c.requires.linkage,
        subst (λ (fs : List FileName). one_type (file_name r) fs ≡ true) (sym c.self.view_is) c.requires.types,
        c.self.invariant.consistent,
      );
      files = files_numbered rows c.put.new.rows.items r c.in-Ok.number f (number_at c.note.new.by_file) e n c.self.invariant.files
          (λ u t. c.in_ok-note.ensures.files u t ∙ ap (λ x. with_number f r.unit r.name.now (Some (more_number x (f r.unit r.name.now) c.in-Ok.number)) u t) d);
      externals = externals_numbered rows c.put.new.rows.items r c.in-Ok.number g (number_in c.note.new.by_name) e n c.self.invariant.externals
          (λ t. c.in_ok-note.ensures.externals t ∙ ap (λ x. if r.is_static then g t else update bytes_eq g r.name.now (Some (more_number x (g r.name.now) c.in-Ok.number)) t) d);
    }
