-- What the code's environment is.
use Rattle.std.specs.Prelude.{map}
use Rattle.c_typing.specs.Plain.{plain}
use Rattle.c_typing.specs.Expressions as typing
use Rattle.c_typing.specs.Expressions.{Denoted}
use Rattle.c_scope.specs.declared.meaning.Meaning.{Meaning}
use Rattle.c_scope.specs.declared.meaning.Meaning.TheVariants.{Object, Function}
use Rattle.c_scope.specs.declared.environment.Environment.{Environment as Here}
use Rattle.c_scope.specs.Table.{rows, names_from}
use Rattle.c_scope.specs.Environment.{Environment}

abbrev pub environment_of : Here → Environment
environment_of e = record {
  unit = e.unit;
  names = rows e.table.symbols e.table.parameters e.table.links;
  visible = e.table.visible;
  block = names_from e.table.start e.table.visible;
  locals = e.locals;
  defs = e.defs;
  tags = e.tags;
}

abbrev pub meaning_of : Meaning → Denoted
meaning_of (Object t r) = typing.Object (plain t) r
meaning_of (Function t ps) = typing.Function (plain t) (map plain ps)
