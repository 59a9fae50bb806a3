-- Numbers of the names at file scope by their linkage.
use Rattle.std.specs.Prelude.{ℕ, Bool, not, ◌&&◌, ◌==◌, if◌then◌else◌, List, Option, bytes_eq}
use Rattle.c_defs.specs.Numbers.{number_in}
use Rattle.c_rows.specs.declared.linked.LinkedNumbers.{LinkedNumbers}
use Rattle.c_linkage.specs.FileNumbers.{number_at}

abbrev pub linked_in : LinkedNumbers → (unit : ℕ) → Bool → List ℕ → Option ℕ
linked_in m u s t = if s then number_at m.statics u t else number_in m.externals t

-- whether a name of a file means what another does
abbrev pub is_linked : (unit : ℕ) → Bool → List ℕ → ℕ → Bool → List ℕ → Bool
is_linked v is_static name u s t = bytes_eq name t && (if s then is_static && (v == u) else not is_static)
