-- The rows that tell the types of objects.
use Rattle.std.proofs.Common.{◌≡◌, ℕ, true, false, List, ◌∙◌, sym, ap, Option, Some, None, option_map, Result, Ok, Err}
use denote.Ref.{Bor}
use Rattle.std.specs.Prelude.{IfOk}
use Rattle.c_tree.specs.declared.types.CType.{CType}
use Rattle.c_typing.specs.Plain.{Plain, plain}
use Rattle.c_linkage.specs.declared.definitions.Definition.{Definition}
use Rattle.c_linkage.specs.declared.file_names.FileName.{FileName as Row}
use Rattle.c_linkage.specs.Names.{FileName, Defining, defining, is_here, is_external}
use Rattle.c_linkage.specs.FileNames.{file_name, AreConsistent}
use Rattle.c_linkage.specs.Telling.{telling}
use Rattle.c_file.specs.Files.{State}
use Rattle.c_file.specs.Made.{object_type}
use Rattle.c_check.specs.TypesTold.{IsToldOf}
use Rattle.c_check.proofs.TypesTold.{static_type, external_type}

abbrev pub row_of : Option (Bor Row) → Option FileName
row_of o = option_map (λ f. file_name f.now) o

pub here_told : (fs : List FileName) (d : Definition) (name : List ℕ) (h : Bor Row) → name ≡ d.name.now → AreConsistent fs → d.is_static ≡ true → row_of (Some h) ≡ telling (is_here d.unit name) fs
    → IsToldOf fs (defining d) (Some h)
here_told fs d name h a c s e = λ q n. static_type q (defining d) fs (file_name h.now) n c s (ap (λ x. telling (is_here d.unit x) fs) (sym a) ∙ sym e)

pub external_told : (fs : List FileName) (d : Definition) (name : List ℕ) (h : Bor Row) (o : Option (Bor Row)) → name ≡ d.name.now → AreConsistent fs → d.is_static ≡ false → h.now.is_static ≡ false
    → row_of (Some h) ≡ telling (is_here d.unit name) fs → row_of o ≡ telling (is_external name) fs → IsToldOf fs (defining d) o
external_told fs d name h None a c s p e f = tt
external_told fs d name h (Some g) a c s p e f = λ q n.
    external_type q (defining d) fs (file_name h.now) (file_name g.now) n c s (ap (λ x. telling (is_here d.unit x) fs) (sym a) ∙ sym e) p (ap (λ x. telling (is_external x) fs) (sym a) ∙ sym f)

pub type_copied : {E : Type 0} → (r : Result CType E) (t : Plain) (fs : List FileName) (d : Defining) → IfOk r (λ u. plain u ≡ t) → ((q : State) → q.names ≡ fs → object_type q d ≡ t)
    → IfOk r (λ u. (q : State) → q.names ≡ fs → plain u ≡ object_type q d)
type_copied (Ok u) t fs d e h = λ q n. e ∙ sym (h q n)
type_copied (Err x) t fs d e h = tt
