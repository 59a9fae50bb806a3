-- What the call does with a request and the files: a line is printed, and two files are written.
use Rattle.std.specs.Prelude.{◌≡◌, ◌<◌, ◌⊎◌, ℕ, true, List, [], length, take, Option, Some, Result, Ok, Err}
use Rattle.std.specs.FinMap as map
use Rattle.std.specs.Option.{option_map}
use Rattle.ldb_edge.specs.Known.{FileMap, known_and}
use Rattle.obj_file.specs.Image.{ImageFields, image_bytes}
use Rattle.ldb_cc.specs.declared.fault.BuildFault.{BuildFault}
use Rattle.ldb_cc.specs.Sources.{IsCause}
use Rattle.ldb_cc.specs.Built.{IsBuilt}
use Rattle.cc_call.specs.declared.call.Answer.{Answer}
use Rattle.cc_call.specs.declared.call.Answer.TheVariants.{Built, Refused, Missing}
use Rattle.cc_call.specs.declared.ended.Fault.{Fault}
use Rattle.cc_call.specs.Words.{Request}
use Rattle.cc_call.specs.Lines.{name_in, missing_line, is_refusal, refused_line, built_line}
use Rattle.cc_call.specs.Faults.{TakesFront}
use Rattle.cc_call.specs.Found.{AreRead, IsMissing}

-- ---- what is done

-- the line says why the sources are refused
pub record IsRefused (r : Request) (known : FileMap) (line : List ℕ) : Type 0 where
  pub texts : List (List ℕ)
  pub read : AreRead known r.sources texts
  pub fault : BuildFault
  pub is_cause : IsCause texts fault
  pub is_told : is_refusal fault ≡ true
  pub line_is : line ≡ refused_line r.sources fault

-- the bytes of an image and of a table that are built of the sources
pub record AreBuilt (r : Request) (known : FileMap) (image table : List ℕ) : Type 0 where
  pub texts : List (List ℕ)
  pub read : AreRead known r.sources texts
  pub fields : ImageFields
  pub image_is : image ≡ image_bytes fields
  pub built : IsBuilt r.aim r.sources texts fields table

-- the files with the image and the table
abbrev pub with_files : Request → (image table : List ℕ) → FileMap → FileMap
with_files r image table known = map.insert (map.insert known r.image image) r.table table

-- the call is answered so, with this line printed and these files left
abbrev pub Does : Request → FileMap → Answer → List ℕ → FileMap → Type 0
Does r known Missing line after = (n : ℕ) × (m : IsMissing known r.sources n) × (line ≡ missing_line m.text) × (after ≡ known)
Does r known Refused line after = IsRefused r known line × (after ≡ known)
Does r known Built line after = (image : List ℕ) × (table : List ℕ) × AreBuilt r known image table × (line ≡ built_line) × (after ≡ with_files r image table known)

-- ---- after a fault

-- the front of one file, or the first file and the front of the second
abbrev pub IsStage : Request → (image table : List ℕ) → FileMap → FileMap → Type 0
IsStage r image table known after =
    (after ≡ known) ⊎
    ((k : ℕ) × (after ≡ map.insert known r.image (take k image))) ⊎
    ((k : ℕ) × (after ≡ map.insert (map.insert known r.image image) r.table (take k table)))

-- nothing was done, or no line was printed and the files are on the way, or all but the end of the line was done
abbrev pub DoesPart : Request → FileMap → List ℕ → FileMap → Type 0
DoesPart r known out after =
    ((out ≡ []) × (after ≡ known)) ⊎
    ((image : List ℕ) × (table : List ℕ) × AreBuilt r known image table × (out ≡ []) × IsStage r image table known after) ⊎
    ((answer : Answer) × (line : List ℕ) × (k : ℕ) × Does r known answer line after × (out ≡ take k line))

abbrev pub DoesAs : Request → FileMap → Result Answer Fault → List ℕ → FileMap → Type 0
DoesAs r known (Ok answer) out after = Does r known answer out after
DoesAs r known (Err fault) out after = DoesPart r known out after

-- what the transcript and the files hold afterwards, where the files are told
pub record LeavesAll (r : Request) (known : FileMap) (result : Result Answer Fault) (taken taken' : Option (List ℕ)) (held : Option FileMap) : Type 0 where
  pub out : List ℕ
  pub after : FileMap
  pub taken_is : taken' ≡ known_and taken out
  pub held_is : held ≡ Some after
  pub does : DoesAs r known result out after

abbrev pub Leaves : Request → Option FileMap → Option FileMap → (taken taken' : Option (List ℕ)) → Result Answer Fault → Type 0
Leaves r held held' taken taken' result = (known : FileMap) → held ≡ Some known → LeavesAll r known result taken taken' held'

-- of one of these names the files said that it isn't there, and the line says so
pub record HasMissed (missed : List ℕ → Type 0) (names : List (List ℕ)) (taken taken' : Option (List ℕ)) : Type 0 where
  pub number : ℕ
  pub below : number < length names
  pub told : missed (name_in names number)
  pub line_is : taken' ≡ known_and taken (missing_line (name_in names number))

-- ---- on the way

-- a line was written whole, or its front was
abbrev pub IsSaid : Answer → List ℕ → (taken taken' : Option (List ℕ)) → Result Answer Fault → Type 0
IsSaid answer line taken taken' (Ok said) = (said ≡ answer) × (taken' ≡ known_and taken line)
IsSaid answer line taken taken' (Err fault) = TakesFront taken taken' line

-- a file holds these bytes, or a front of them where writing failed
abbrev pub with_file : List ℕ → List ℕ → Option FileMap → Option FileMap
with_file name bytes held = option_map (λ known. map.insert known name bytes) held

abbrev pub IsWrittenPart : (name bytes : List ℕ) → (held held' : Option FileMap) → Type 0
IsWrittenPart name bytes held held' = (held' ≡ held) ⊎ ((k : ℕ) × (held' ≡ with_file name (take k bytes) held))

-- both files and the line were written, or a part of this
abbrev pub WritesAs : Request → (image table : List ℕ) → FileMap → (taken taken' : Option (List ℕ)) → (held' : Option FileMap) → Result Answer Fault → Type 0
WritesAs r image table known taken taken' held' (Ok answer) = (answer ≡ Built) × (taken' ≡ known_and taken built_line) × (held' ≡ Some (with_files r image table known))
WritesAs r image table known taken taken' held' (Err fault) =
    ((taken' ≡ taken) × ((after : FileMap) × (held' ≡ Some after) × IsStage r image table known after)) ⊎
    (TakesFront taken taken' built_line × (held' ≡ Some (with_files r image table known)))

abbrev pub Writes : Request → (image table : List ℕ) → (held held' : Option FileMap) → (taken taken' : Option (List ℕ)) → Result Answer Fault → Type 0
Writes r image table held held' taken taken' result = (known : FileMap) → held ≡ Some known → WritesAs r image table known taken taken' held' result
