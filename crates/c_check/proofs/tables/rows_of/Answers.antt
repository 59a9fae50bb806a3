use Rattle.std.proofs.Common.{refl}
use Rattle.c_check.proofs.FilledTables.{from_slices}
use Rattle.c_check.proofs.tables.rows_of.Goals as goal

pub returns-in-None : goal.returns-in-None
returns-in-None c = λ n q st.
    let d = c.in-Ok.defined in
    c.in-None.ensures n q d.objects.items d.bodies.items st
    (from_slices c.args.state.now q d.objects.items d.objects.items d.bodies.items d.bodies.items d.types.items c.as_slice-types.result.now refl refl c.as_slice-types.ensures.value (c.in-Ok.ensures.from n q st))

pub returns-in-Ok-filled : goal.returns-in-Ok-filled
returns-in-Ok-filled c = λ n q st k.
    let d = c.in-Ok.defined in (
      c.in-Ok-filled.ensures n q st k (c.in-Ok.ensures.from n q st),
      (c.in-Some.ensures n q d.objects.items d.bodies.items st
          (from_slices c.args.state.now q d.objects.items d.objects.items d.bodies.items d.bodies.items d.types.items c.as_slice-types.result.now refl refl c.as_slice-types.ensures.value (c.in-Ok.ensures.from n q st))).1,
    )
