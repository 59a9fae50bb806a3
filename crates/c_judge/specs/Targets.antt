-- What a pointer points to.
use Rattle.std.specs.Prelude.{Option, Some, None}
use Rattle.c_typing.specs.Plain.{Plain, Pointer}

abbrev pub target_of : Plain → Option Plain
target_of (Pointer t) = Some t
target_of _ = None
