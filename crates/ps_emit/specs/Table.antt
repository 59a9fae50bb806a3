-- The table of a program that is placed: a PostScript program that leaves one dictionary.
use Rattle.std.specs.Prelude.{ℕ, suc, pos, List, [], ◌∷◌, codes, ◌==◌, if◌then◌else◌}
use Rattle.machine_state.specs.declared.layout.TheConstants.{SPARC}
use Rattle.c_tree.specs.declared.rows.Program.{Program}
use Rattle.ps_text.specs.Code.{Code, Stop, Lit, render}
use Rattle.ps_emit.specs.declared.placement.Placement.{Placement}
use Rattle.ps_emit.specs.Terms.{◌⋯◌, word, name, string, integer, number, bracketed, anchor_name}
use Rattle.ps_emit.specs.Words.{words}
use Rattle.ps_emit.specs.Types.{structs_code, filled_structs, tags_code}
use Rattle.ps_emit.specs.Places.{objects_code}
use Rattle.ps_emit.specs.Functions.{units_code}

abbrev pub target_name : ℕ → List ℕ
target_name target = if target == SPARC then codes "sparc" else codes "mips"

-- the address of the static object or string with a number
abbrev pub anchor_code : (k address : ℕ) → Code
anchor_code k address = Lit (anchor_name k) Stop ⋯ number address

abbrev pub anchors_code : ℕ → List (List ℕ × ℕ) → Code
anchors_code k [] = Stop
anchors_code k (a ∷ rest) = anchor_code k a.1 ⋯ anchors_code (suc k) rest

-- pairs of a key and a value
abbrev pub paired : Code → Code
paired pairs = word "<<" ⋯ pairs ⋯ word ">>"

abbrev pub top_code : Program → Placement → Code
top_code p at = paired (
    name "ldb" ⋯ integer (pos 1) ⋯ name "target" ⋯ string (target_name at.target)
    ⋯ name "anchors" ⋯ paired (anchors_code 0 at.anchors)
    ⋯ name "structs" ⋯ paired (tags_code 0 p.defs)
    ⋯ name "objects" ⋯ word "objects"
    ⋯ name "units" ⋯ bracketed (units_code p at.functions p.units))

-- what stands behind the words
abbrev pub parts_code : Program → Placement → Code
parts_code p at = structs_code p.defs ⋯ filled_structs 0 p.defs ⋯ objects_code p ⋯ top_code p at

abbrev pub table_code : Program → Placement → Code
table_code p at = words ⋯ parts_code p at

unfoldable pub table_text : Program → Placement → List ℕ
table_text p at = render (table_code p at)
