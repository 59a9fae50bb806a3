-- What is built of sources.
use Rattle.std.specs.Prelude.{◌≡◌, ℕ, ◌+◌, List, [], ◌∷◌, length, Result, Ok, Err}
use Rattle.machine_state.specs.declared.layout.TheConstants.{TEXT}
use Rattle.c_tree.specs.declared.rows.Program.{Program}
use Rattle.slot_ir.specs.declared.code.SlotCode.{SlotCode}
use Rattle.slot_gen.specs.Rows.{HasRowsOf}
use Rattle.slot_gen.specs.Correct.{Lowers}
use Rattle.slot_ir.specs.WellFormed.{IsWellFormed}
use Rattle.slot_pointers.specs.Taken.{TakesPointers}
use Rattle.obj_file.specs.Image.{ImageFields}
use Rattle.obj_file.specs.declared.object.Object.{Object}
use Rattle.obj_file.specs.declared.object.LoaderRows.{LoaderRows}
use Rattle.flat_gen.specs.Codes.{flat_code}
use Rattle.gen_parts.specs.Parts.{IsObjectOf}
use Rattle.mips_gen.specs.Coding.{mips}
use Rattle.sparc_gen.specs.Coding.{sparc}
use Rattle.link_image.specs.Links.{IsLinked}
use Rattle.ldb_cc.specs.declared.aim.Aim.{Aim}
use Rattle.ldb_cc.specs.declared.aim.Aim.TheVariants.{Mips, Sparc}
use Rattle.ldb_cc.specs.declared.compiling.Built.{Built}
use Rattle.ldb_cc.specs.declared.fault.BuildFault.{BuildFault}
use Rattle.ldb_cc.specs.Sources.{IsProgram, IsCause}
use Rattle.ps_emit.specs.Table.{table_text}
use Rattle.ldb_cc.specs.Table.{target_byte, placement_of}

-- an image of a target, which begins with the first word of the text
pub record IsFor (aim : Aim) (image : ImageFields) : Type 0 where
  pub target : image.target ≡ target_byte aim
  pub entry : image.entry ≡ TEXT

-- one anchor for each static object and each string
abbrev pub AreAnchorsOf : {A : Type 0} → Program → List A → Type 0
AreAnchorsOf program anchors = length anchors ≡ length program.objects + length program.strings

-- the object that a target's generator makes of slot code
abbrev pub IsEmitted : Aim → SlotCode → Object → Type 0
IsEmitted Mips code o = IsObjectOf mips code (flat_code 100 code) o
IsEmitted Sparc code o = IsObjectOf sparc code (flat_code 132 code) o

-- The image of a program, and its rows: slot code of the program, which is well formed, keeps its run and takes no number but 0 as a pointer; the object of the slot code, and what a linker makes of this one object. So
-- the anchors are the program's static objects and then its strings, in its order, each with the address at which it is placed.
pub record IsImageOf (aim : Aim) (program : Program) (image : ImageFields) (rows : LoaderRows) : Type 0 where
  pub code : SlotCode
  pub has_rows : HasRowsOf program code
  pub formed : IsWellFormed code
  pub lowers : Lowers program code
  pub pointers : TakesPointers code
  pub object : Object
  pub emitted : IsEmitted aim code object
  pub linked : IsLinked (object ∷ []) image rows
  pub is_for : IsFor aim image
  pub one_each : AreAnchorsOf program rows.anchors

-- an image, and the table that goes with it, of the program that sources with these names are
pub record IsBuilt (aim : Aim) (names texts : List (List ℕ)) (image : ImageFields) (table : List ℕ) : Type 0 where
  pub program : Program
  pub is_program : IsProgram names texts program
  pub rows : LoaderRows
  pub image_of : IsImageOf aim program image rows
  pub table_is : table ≡ table_text program (placement_of aim rows)

-- what is built of sources with these names, or the cause why nothing is
abbrev pub Builds : Aim → (names texts : List (List ℕ)) → Result Built BuildFault → Type 0
Builds aim names texts (Ok b) = IsBuilt aim names texts b.image b.table
Builds aim names texts (Err f) = IsCause texts f
