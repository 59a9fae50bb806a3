-- Which table goes with an image: that of the program, where its static objects, strings and functions are placed.
use Rattle.std.specs.Prelude.{ℕ, List, codes}
use Rattle.machine_state.specs.declared.layout.TheConstants.{MIPS, SPARC}
use Rattle.obj_file.specs.declared.object.LoaderRows.{LoaderRows}
use Rattle.ps_emit.specs.declared.placement.Placement.{Placement}
use Rattle.ldb_cc.specs.declared.aim.Aim.{Aim}
use Rattle.ldb_cc.specs.declared.aim.Aim.TheVariants.{Mips, Sparc}

abbrev pub target_name : Aim → List ℕ
target_name Mips = codes "mips"
target_name Sparc = codes "sparc"

-- the byte of a target in an image
abbrev pub target_byte : Aim → ℕ
target_byte Mips = MIPS
target_byte Sparc = SPARC

-- where the rows of a linked image say that the parts of a program are
abbrev pub placement_of : Aim → LoaderRows → Placement
placement_of aim rows = record { target = target_byte aim; anchors = rows.anchors; functions = rows.functions }
