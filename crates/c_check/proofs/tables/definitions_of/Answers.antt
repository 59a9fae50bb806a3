use Rattle.std.proofs.Common.{◌∙◌, ap, map, sym}
use Rattle.c_linkage.specs.Names.{defining}
use Rattle.c_file.specs.Made.{object_type}
use Rattle.c_check.proofs.FilledTables.{from_state}
use Rattle.c_check.proofs.tables.definitions_of.Goals as goal

pub returns-clause-from : goal.returns-clause-from
returns-clause-from c = λ n q st.
    from_state n c.args.state.now q c.as_slice-definitions.result.now c.in_ok-objects.objects.items c.in_ok-bodies.bodies.items c.in_ok-types.types.items st c.as_slice-definitions.ensures.value
    c.in_ok-objects.ensures c.in_ok-bodies.ensures (c.in_ok-types.ensures.types q (sym st.names) ∙ ap (λ l. map (object_type q) (map defining l)) c.as_slice-listed.ensures.value)
