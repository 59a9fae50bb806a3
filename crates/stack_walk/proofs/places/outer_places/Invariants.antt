use Rattle.std.proofs.Common.{◌≡◌, ◌++◌, take, drop, length, is_ok, true}
use Rattle.table_model.specs.Frames.{outer_places}
use Rattle.stack_walk.specs.Callers.{saved_in, by_saved}
use Rattle.stack_walk.proofs.places.outer_places.Given as goal

-- the places so far and those that are left are all
abbrev pub invariant-loop-register : goal.invariant-loop-register
invariant-loop-register l = record {
  size : length l.places ≡ 32;
  read : is_ok (saved_in l.table l.saved) ≡ true;
  all : by_saved (saved_in l.table l.saved) (λ s. take l.register l.places ++ outer_places (drop l.register l.preserved) l.register l.base l.inner s)
      ≡ by_saved (saved_in l.table l.saved) (outer_places l.preserved 0 l.base l.inner);
}
