use Rattle.std.proofs.Common.{◌≡◌, drop, map}
use Rattle.c_linkage.specs.FileTags.{externals_of}
use Rattle.c_mentions.specs.Tags.{now}
use Rattle.c_file.proofs.HeldExternals.{Kept}
use Rattle.c_file.proofs.files.files_with.Given as goal

abbrev pub invariant-loop-unit : goal.invariant-loop-unit
invariant-loop-unit l = record {
  kept : Kept (map now l.tags) (map externals_of l.units) l.state (map externals_of (drop l.unit-index l.units));
  unit : l.state.here.unit ≡ l.unit-index;
}
