-- Why a call ends before its session, by the files that it is to read.
use Rattle.std.specs.Prelude.{◌≡◌, ◌⊎◌, ℕ, Bool, true, false, List, [], ◌∷◌, ◌++◌, map, Option, None, Some, Result, Ok, Err}
use Rattle.std.specs.Global.{Vec}
use Rattle.std.specs.FinMap as files
use Rattle.c_tree.specs.declared.rows.Program.{Program}
use Rattle.ldb_edge.specs.Known.{FileMap}
use Rattle.machine_state.specs.declared.layout.TheConstants.{MIPS, SPARC}
use Rattle.nub_wire.specs.Delivery.{World}
use Rattle.targets.specs.Targets.{machine_behaviour, loaded}
use Rattle.claims.specs.Side.{SessionState}
use Rattle.session.specs.declared.conversation.Session.{Session}
use Rattle.session.specs.Starting.{one_session, two_session}
use Rattle.obj_file.specs.Image.{ImageFields, first_wrong, Reads}
use Rattle.obj_file.specs.declared.image.ImageFault.{ImageFault}
use Rattle.obj_file.specs.declared.image.ImageFault.TheVariants.{BadImage}
use Rattle.ps_store.specs.StoreState.{StoreState}
use Rattle.table_run.specs.declared.run.TableFault.{TableFault}
use Rattle.table_run.specs.Shape.{HasShape}
use Rattle.table_run.specs.Tables.{IsTableOf}
use Rattle.ldb_cc.specs.declared.aim.Aim.{Aim}
use Rattle.ldb_cc.specs.declared.aim.Aim.TheVariants.{Mips, Sparc}
use Rattle.ldb_cc.specs.declared.fault.BuildFault.{BuildFault}
use Rattle.ldb_cc.specs.Built.{IsBuilt}
use Rattle.ldb_cc.specs.Scanning.{items_of}
use Rattle.ldb_cc.specs.Sources.{IsCause, IsProgram}
use Rattle.cc_call.specs.Lines.{name_in, missing_line}
use Rattle.cc_call.specs.Found.{AreRead}
use Rattle.ldb_top.specs.declared.status.Stop.{Stop}
use Rattle.ldb_top.specs.declared.status.Stop.TheVariants.{Read, NoMemory, Missing, TooLong, Refused, Bad}
use Rattle.ldb_top.specs.Lines.{long_line, bad_image_line, TellsRefusal, TellsTable}
use Rattle.ldb_top.specs.Words.{Form, Debug, Go}
use Rattle.ldb_top.specs.Names.{Names, read_names}
use Rattle.ldb_top.specs.Conversing.{IsOver}
use Rattle.ldb_top.specs.Files.{first_missing, is_long, IsRead}

-- ---- sources that are compiled

-- they are a program
abbrev pub AreProgram : (names texts : List (List ℕ)) → Type 0
AreProgram names texts = (p : Program) × IsProgram names texts p

-- the line says why they are refused
pub record IsRefusal (names texts : List (List ℕ)) (line : List ℕ) : Type 0 where
  pub fault : BuildFault
  pub is_cause : IsCause texts fault
  pub tells : TellsRefusal names fault line

-- the line says why the text of a table gives none for a target
pub record IsTableWhy (target : ℕ) (text line : List ℕ) : Type 0 where
  pub fault : TableFault
  pub comes : IsTableOf text target (Err fault)
  pub tells : TellsTable fault line

-- a table can't be used, or there was no memory
abbrev pub IsTableStop : (target : ℕ) → (text : List ℕ) → Stop → Type 0
IsTableStop target text NoMemory = Unit {0}
IsTableStop target text (Bad line) = IsTableWhy target text line
IsTableStop target text _ = ⊥

-- The image that one of the targets has of them, and the text of its table, with a store to which this comes, as the claims on whole
-- sessions have it too (`table_ends::tables_are_run`).
pub record AreCompiled (aim : Aim) (names texts : List (List ℕ)) : Type 0 where
  pub image : ImageFields
  pub text : List ℕ
  pub built : IsBuilt aim names texts image text
  pub store : StoreState
  pub comes : IsTableOf text image.target (Ok store)

-- why none of them is begun with
abbrev pub IsBuildWhy : (names texts : List (List ℕ)) → Stop → Type 0
IsBuildWhy names texts NoMemory = Unit {0}
IsBuildWhy names texts (Refused line) = IsRefusal names texts line
IsBuildWhy names texts _ = ⊥

-- they are a program, or it is said why not; the table of a program can be used
abbrev pub BuildsFrom : {A : Type 0} → (names texts : List (List ℕ)) → Result A Stop → Type 0
BuildsFrom names texts (Ok begun) = AreProgram names texts
BuildsFrom names texts (Err stop) = IsBuildWhy names texts stop

-- ---- an image and a table

-- the bytes of an image, and of a table for its target
pub record AreGood (text table_text : List ℕ) : Type 0 where
  pub image : ImageFields
  pub reads : Reads text (Ok image)
  pub store : StoreState
  pub comes : IsTableOf table_text image.target (Ok store)

-- the bytes of an image, with a table that can't be used, as the line says
pub record IsBadTable (text table_text line : List ℕ) : Type 0 where
  pub image : ImageFields
  pub reads : Reads text (Ok image)
  pub told : IsTableWhy image.target table_text line

-- the image has a wrong field, or the table can't be used
abbrev pub IsBadImage : (text table_text line : List ℕ) → Type 0
IsBadImage text table_text line = ((at : ℕ) × (first_wrong text ≡ Some at) × (line ≡ bad_image_line at)) ⊎ IsBadTable text table_text line

-- what is told of bytes that are no image
abbrev pub IsImageTold : ImageFault → Stop → Type 0
IsImageTold fault NoMemory = Unit {0}
IsImageTold (BadImage at) (Bad line) = line ≡ bad_image_line at
IsImageTold fault _ = ⊥

abbrev pub IsLoadWhy : (text table_text : List ℕ) → Stop → Type 0
IsLoadWhy text table_text NoMemory = Unit {0}
IsLoadWhy text table_text (Bad line) = IsBadImage text table_text line
IsLoadWhy text table_text _ = ⊥

-- one more image, and the store of its table, behind others
pub record AddsSide (image : ImageFields) (text : List ℕ) (images images' : List ImageFields) (tables tables' : List StoreState) : Type 0 where
  pub store : StoreState
  pub comes : IsTableOf text image.target (Ok store)
  pub shape : HasShape store image.target
  pub known : (image.target ≡ MIPS) ⊎ (image.target ≡ SPARC)
  pub images_are : images' ≡ images ++ image ∷ []
  pub tables_are : tables' ≡ tables ++ store ∷ []

-- the same, compiled of sources for a target
pub record AddsCompiled (aim : Aim) (names texts : List (List ℕ)) (images images' : List ImageFields) (tables tables' : List StoreState) : Type 0 where
  pub image : ImageFields
  pub text : List ℕ
  pub built : IsBuilt aim names texts image text
  pub adds : AddsSide image text images images' tables tables'

-- for two of them, one after the other
pub record AddsBoth (aim other : Aim) (names texts : List (List ℕ)) (images images' : List ImageFields) (tables tables' : List StoreState) : Type 0 where
  pub images_between : List ImageFields
  pub tables_between : List StoreState
  pub first : AddsCompiled aim names texts images images_between tables tables_between
  pub second : AddsCompiled other names texts images_between images' tables_between tables'

-- for this target, or for MIPS and then SPARC
abbrev pub AddsFor : Option Aim → (names texts : List (List ℕ)) → (images images' : List ImageFields) → (tables tables' : List StoreState) → Type 0
AddsFor (Some aim) names texts images images' tables tables' = AddsCompiled aim names texts images images' tables tables'
AddsFor None names texts images images' tables tables' = AddsBoth Mips Sparc names texts images images' tables tables'

-- ---- machine sessions

-- the machine session over an image with a table's store, with this input
abbrev pub starting : (input : List ℕ) → ImageFields → StoreState → SessionState
starting input image store = one_session machine_behaviour input (loaded image) store

-- and over two of them, which get the same input
abbrev pub starting_both : (input : List ℕ) → (image other : ImageFields) → (store other_store : StoreState) → SessionState
starting_both input image other store other_store = two_session machine_behaviour input (loaded image) (loaded other) store other_store

-- a session over an image and a table takes `ps`
abbrev pub IsLoaded : (text table_text input : List ℕ) → Session World → Type 0
IsLoaded text table_text input session = (good : AreGood text table_text) × IsOver true session (starting input good.image good.store)

-- a session over these images and tables: one of each, or two
abbrev pub OverOne : (raw : Bool) → (input : List ℕ) → (images : List ImageFields) → (tables : List StoreState) → Session World → Type 0
OverOne raw input images tables session = (image : ImageFields) (text : List ℕ) (one : AddsSide image text [] images [] tables) → IsOver raw session (starting input image one.store)

abbrev pub OverBoth : (raw : Bool) → (input : List ℕ) → (images : List ImageFields) → (tables : List StoreState) → Session World → Type 0
OverBoth raw input images tables session =
    (image other : ImageFields) (text other_text : List ℕ) (images_between : List ImageFields) (tables_between : List StoreState)
    → (one : AddsSide image text [] images_between [] tables_between) (two : AddsSide other other_text images_between images tables_between tables) → IsOver raw session (starting_both input image other one.store two.store)

module _ (P : (raw : Bool) → SessionState → Type 0) where
  -- So it is with the machine session over what sources were compiled to, which takes no `ps`: for the one target, or for both,
  -- of which MIPS is first.
  abbrev pub CompiledFor : Option Aim → (names texts : List (List ℕ)) → (input : List ℕ) → Type 0
  CompiledFor (Some aim) names texts input = (built : AreCompiled aim names texts) × P false (starting input built.image built.store)
  CompiledFor None names texts input =
      (mips : AreCompiled Mips names texts) × (sparc : AreCompiled Sparc names texts) × P false (starting_both input mips.image sparc.image mips.store sparc.store)

abbrev pub IsCompiledFor : Option Aim → (names texts : List (List ℕ)) → (input : List ℕ) → Session World → Type 0
IsCompiledFor aim names texts input session = CompiledFor (λ (raw : Bool) (st : SessionState). IsOver raw session st) aim names texts input

-- both are good, and the session stands for the machine session over them, or it is said what is wrong
abbrev pub LoadsFrom : (text table_text input : List ℕ) → Result (Session World) Stop → Type 0
LoadsFrom text table_text input (Ok session) = IsLoaded text table_text input session
LoadsFrom text table_text input (Err stop) = IsLoadWhy text table_text stop

-- ---- files that are read

-- of files that are read one of which may be missing
abbrev pub IsFileStop : FileMap → List (List ℕ) → Stop → Type 0
IsFileStop known names Read = Unit {0}
IsFileStop known names NoMemory = Unit {0}
IsFileStop known names (Missing line) = (name : List ℕ) × (first_missing known names ≡ Some name) × (line ≡ missing_line name)
IsFileStop known names _ = ⊥

-- the texts of sources, or a stop
abbrev pub FindsSources : FileMap → List (List ℕ) → Result (Vec (Vec ℕ)) Stop → Type 0
FindsSources known names (Ok texts) = (first_missing known names ≡ None) × AreRead known names (map items_of texts.items)
FindsSources known names (Err stop) = IsFileStop known names stop

-- the text of a file, or a stop
abbrev pub FindsFile : ℕ → FileMap → List ℕ → Result (Vec ℕ) Stop → Type 0
FindsFile most known name (Ok text) = (first_missing known (name ∷ []) ≡ None) × IsRead most (files.get known name) text.items
FindsFile most known name (Err stop) = IsFileStop known (name ∷ []) stop

-- the input is missing, or too long
abbrev pub IsInputStop : FileMap → List ℕ → Stop → Type 0
IsInputStop known name (TooLong line) = (first_missing known (name ∷ []) ≡ None) × (is_long (files.get known name) ≡ true) × (line ≡ long_line name)
IsInputStop known name stop = IsFileStop known (name ∷ []) stop

-- the input, which is not too long, or a stop
abbrev pub FindsInput : FileMap → List ℕ → Result (Vec ℕ) Stop → Type 0
FindsInput known name (Ok input) = (first_missing known (name ∷ []) ≡ None) × (is_long (files.get known name) ≡ false) × (files.get known name ≡ Some input.items)
FindsInput known name (Err stop) = IsInputStop known name stop

-- ---- all of it

-- all files are there, and the input isn't too long
pub record AreRight (n : Names) (known : FileMap) : Type 0 where
  pub there : first_missing known (read_names n) ≡ None
  pub short : is_long (files.get known n.input) ≡ false

-- the texts that were read of the sources, or what was read of the image and the table: 17,825,812 bytes are the most of an image,
-- and 16,777,216 of a table
abbrev pub OfTexts : (List (List ℕ) → Type 0) → Names → FileMap → Type 0
OfTexts P n known = (texts : List (List ℕ)) × AreRead known n.about texts × P texts

abbrev pub OfImage : (List ℕ → List ℕ → Type 0) → Names → FileMap → Type 0
OfImage P n known = (text table_text : List ℕ) × IsRead 17825812 (files.get known (name_in n.about 0)) text × IsRead 16777216 (files.get known (name_in n.about 1)) table_text × P text table_text

-- a session is begun
abbrev pub Begins : Form → Names → FileMap → Type 0
Begins Go n known = AreRight n known × OfTexts (AreProgram n.about) n known
Begins Debug n known = AreRight n known × OfImage AreGood n known
Begins _ n known = ⊥

-- the whole input
abbrev pub OfInput : (List ℕ → Type 0) → Names → FileMap → Type 0
OfInput P n known = (input : List ℕ) × (files.get known n.input ≡ Some input) × P input

module _ (P : (raw : Bool) → SessionState → Type 0) where
  -- so it is with the machine session that is begun, in which `ps` is a command where this is true
  abbrev pub BeginsAs : Form → Names → FileMap → Type 0
  BeginsAs Go n known = OfInput (λ input. OfTexts (λ texts. CompiledFor P n.aim n.about texts input) n known) n known
  BeginsAs Debug n known = OfInput (λ input. OfImage (λ text table_text. (good : AreGood text table_text) × P true (starting input good.image good.store)) n known) n known
  BeginsAs _ n known = ⊥

-- the sources are refused
abbrev pub IsRefusedFor : Form → Names → FileMap → List ℕ → Type 0
IsRefusedFor Go n known line = AreRight n known × OfTexts (λ texts. IsRefusal n.about texts line) n known
IsRefusedFor _ n known line = ⊥

-- an image or a table can't be used
abbrev pub IsBadFor : Form → Names → FileMap → List ℕ → Type 0
IsBadFor Debug n known line = AreRight n known × OfImage (λ text table_text. IsBadImage text table_text line) n known
IsBadFor _ n known line = ⊥

-- why there is no session, as the line tells it
abbrev pub IsWhy : Form → Names → FileMap → Stop → Type 0
IsWhy form n known Read = Unit {0}
IsWhy form n known NoMemory = Unit {0}
IsWhy form n known (Missing line) = (name : List ℕ) × (first_missing known (read_names n) ≡ Some name) × (line ≡ missing_line name)
IsWhy form n known (TooLong line) = (first_missing known (read_names n) ≡ None) × (is_long (files.get known n.input) ≡ true) × (line ≡ long_line n.input)
IsWhy form n known (Refused line) = IsRefusedFor form n known line
IsWhy form n known (Bad line) = IsBadFor form n known line

-- a session is begun, which stands for the machine session, or it is said why not
abbrev pub Opens : Form → Names → FileMap → Result (Session World) Stop → Type 0
Opens form n known (Ok session) = Begins form n known × BeginsAs (λ (raw : Bool) (st : SessionState). IsOver raw session st) form n known
Opens form n known (Err stop) = IsWhy form n known stop
