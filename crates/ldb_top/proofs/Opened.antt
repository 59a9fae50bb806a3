-- Sessions that are begun, and why others aren't.
use Rattle.std.proofs.Common.{◌≡◌, ℕ, true, false, List, [], ◌∷◌, ◌++◌, Option, None, Some, Ok, Err, refl, sym, ap, ◌∙◌, subst}
use Rattle.std.specs.declared.result.Result.{Result}
use Rattle.std.specs.Prelude.{IfErr, IfOk}
use Rattle.std.specs.FinMap as files
use Rattle.ldb_edge.specs.Known.{FileMap}
use Rattle.obj_file.specs.Image.{ImageFields, Reads}
use Rattle.ps_store.specs.StoreState.{StoreState}
use Rattle.table_run.specs.declared.run.TableFault.{TableFault}
use Rattle.table_run.specs.declared.run.TableFault.TheVariants as table
use Rattle.table_run.specs.Tables.{IsTableOf}
use Rattle.ldb_cc.specs.declared.aim.Aim.{Aim}
use Rattle.ldb_cc.specs.declared.aim.Aim.TheVariants.{Mips, Sparc}
use Rattle.ldb_cc.specs.Built.{IsBuilt}
use Rattle.cc_call.specs.Found.{AreRead}
use Rattle.nub_wire.specs.Delivery.{World}
use Rattle.session.specs.declared.conversation.Session.{Session}
use Rattle.ldb_top.specs.Files.{first_missing, is_long, IsRead}
use Rattle.ldb_top.specs.Lines.{table_word}
use Rattle.ldb_top.specs.Names.{Names, aim_in, read_names}
use Rattle.ldb_top.specs.declared.words.Aims.{Aims}
use Rattle.ldb_top.specs.declared.words.Aims.TheVariants.{One, Both}
use Rattle.ldb_top.specs.Words.{Form, Debug, Go}
use Rattle.ldb_top.specs.declared.status.Stop.{Stop}
use Rattle.ldb_top.specs.declared.status.Stop.TheVariants.{Read, NoMemory, Missing, TooLong, Refused, Bad}
use Rattle.ldb_top.specs.Stops.{IsBuildStop}
use Rattle.ldb_top.specs.Why.{IsTableStop, IsBuildWhy, IsLoadWhy, BuildsFrom, LoadsFrom, AreProgram, AreCompiled, IsFileStop, IsInputStop, AreRight, Opens, IsWhy, AddsSide, AddsCompiled, IsCompiledFor, AddsFor, OverOne, OverBoth}
use Rattle.ldb_top.proofs.Fronted.{all_on, missing_on}

-- ---- sources, and an image

-- a text that comes to no fault but want of memory is no bad table
no_bad : (target : ℕ) (text : List ℕ) (stop : Stop) → ((f : TableFault) → IsTableOf text target (Err f) → f ≡ table.NoMemory) → IsTableStop target text stop → stop ≡ NoMemory
no_bad target text NoMemory only t = refl
no_bad target text (Bad line) only t =
    let none : None ≡ Some t.tells.word = subst (λ (f : TableFault). table_word f ≡ Some t.tells.word) (only t.fault t.comes) t.tells.word_is in
    absurd cc
no_bad target text Read only t = absurd t
no_bad target text (Missing line) only t = absurd t
no_bad target text (TooLong line) only t = absurd t
no_bad target text (Refused line) only t = absurd t

no_bad_table : {A : Type 0} (target : ℕ) (text : List ℕ) (r : Result A Stop) → ((f : TableFault) → IsTableOf text target (Err f) → f ≡ table.NoMemory) → IfErr r (IsTableStop target text) → IfErr r (λ stop. stop ≡ NoMemory)
no_bad_table target text (Ok x) only t = tt
no_bad_table target text (Err stop) only t = no_bad target text stop only t

started_then : {A : Type 0} (names texts : List (List ℕ)) (r : Result A Stop) → AreProgram names texts → IfErr r (λ stop. stop ≡ NoMemory) → BuildsFrom names texts r
started_then names texts (Ok x) p e = p
started_then names texts (Err stop) p e = subst (IsBuildWhy names texts) (sym e) tt

-- what stops sources that were compiled for a target, where this text is that of their table
pub built_then : {A : Type 0} (aim : Aim) (names texts : List (List ℕ)) (image : ImageFields) (built_text text : List ℕ) (r : Result A Stop) → IsBuilt aim names texts image built_text → ((f : TableFault) → IsTableOf built_text image.target (Err f) → f ≡ table.NoMemory) → text ≡ built_text
    → IfErr r (IsTableStop image.target text) → BuildsFrom names texts r
built_then aim names texts image built_text text r built only e told =
    started_then names texts r (built.program, built.is_program) (no_bad_table image.target built_text r only (subst (λ (x : List ℕ). IfErr r (IsTableStop image.target x)) e told))

pub built_stops : {A : Type 0} (names texts : List (List ℕ)) (r : Result A Stop) → BuildsFrom names texts r → IfErr r IsBuildStop
built_stops names texts (Ok x) b = tt
built_stops names texts (Err NoMemory) b = tt
built_stops names texts (Err (Refused line)) b = tt
built_stops names texts (Err Read) b = absurd b
built_stops names texts (Err (Missing line)) b = absurd b
built_stops names texts (Err (TooLong line)) b = absurd b
built_stops names texts (Err (Bad line)) b = absurd b

pub loaded_then : (text table input : List ℕ) (image : ImageFields) (images : List ImageFields) (tables : List StoreState) (r : Result (Session World) Stop) → Reads text (Ok image) → (one : AddsSide image table [] images [] tables) → IfErr r (λ stop. stop ≡ NoMemory)
    → IfOk r (OverOne true input images tables) → LoadsFrom text table input r
loaded_then text table input image images tables (Ok session) reads one e over = (record { image = image; reads = reads; store = one.store; comes = one.comes }, over image table one)
loaded_then text table input image images tables (Err stop) reads one e over = subst (IsLoadWhy text table) (sym e) tt

abbrev pub compiled : (aim : Aim) (names texts : List (List ℕ)) (images images' : List ImageFields) (tables tables' : List StoreState) → AddsCompiled aim names texts images images' tables tables' → AreCompiled aim names texts
compiled aim names texts images images' tables tables' one = record { image = one.image; text = one.text; built = one.built; store = one.adds.store; comes = one.adds.comes }

compiled_so : (aim : Option Aim) (names texts : List (List ℕ)) (input : List ℕ) (images : List ImageFields) (tables : List StoreState) (session : Session World) → AddsFor aim names texts [] images [] tables → OverOne false input images tables session → OverBoth false input images tables session
    → IsCompiledFor aim names texts input session
compiled_so (Some aim) names texts input images tables session adds one both = (compiled aim names texts [] images [] tables adds, one adds.image adds.text adds.adds)
compiled_so None names texts input images tables session adds one both = (
  compiled Mips names texts [] adds.images_between [] adds.tables_between adds.first,
  compiled Sparc names texts adds.images_between images adds.tables_between tables adds.second,
  both adds.first.image adds.second.image adds.first.text adds.second.text adds.images_between adds.tables_between adds.first.adds adds.second.adds,
)

-- the images and tables of one target, or of both, where none were there before
pub adds_one : (aims : Aims) (aim : Aim) (names texts : List (List ℕ)) (before images : List ImageFields) (among tables : List StoreState) → aims ≡ One aim → before ≡ [] → among ≡ [] → AddsCompiled aim names texts before images among tables → AddsFor (aim_in aims) names texts [] images [] tables
adds_one aims aim names texts before images among tables e f g h =
    subst (λ (x : Aims). AddsFor (aim_in x) names texts [] images [] tables) (sym e) (subst (λ (xs : List ImageFields). AddsCompiled aim names texts xs images [] tables) f (subst (λ (ys : List StoreState). AddsCompiled aim names texts before images ys tables) g h))

pub adds_both : (aims : Aims) (names texts : List (List ℕ)) (before between images : List ImageFields) (among amid tables : List StoreState) → aims ≡ Both → before ≡ [] → among ≡ [] → AddsCompiled Mips names texts before between among amid → AddsCompiled Sparc names texts between images amid tables
    → AddsFor (aim_in aims) names texts [] images [] tables
adds_both aims names texts before between images among amid tables e f g h k =
    subst (λ (x : Aims). AddsFor (aim_in x) names texts [] images [] tables) (sym e) (record {
      images_between = between;
      tables_between = amid;
      first = subst (λ (xs : List ImageFields). AddsCompiled Mips names texts xs between [] amid) f (subst (λ (ys : List StoreState). AddsCompiled Mips names texts before between ys amid) g h);
      second = k;
    })

pub compiled_then : (aim : Option Aim) (names texts : List (List ℕ)) (input : List ℕ) (images : List ImageFields) (tables : List StoreState) (r : Result (Session World) Stop) → AddsFor aim names texts [] images [] tables
    → IfOk r (OverOne false input images tables) → IfOk r (OverBoth false input images tables) → IfOk r (IsCompiledFor aim names texts input)
compiled_then aim names texts input images tables (Ok session) adds one both = compiled_so aim names texts input images tables session adds one both
compiled_then aim names texts input images tables (Err stop) adds one both = tt

-- ---- why there is no session

-- of a part of the files, behind others that are there, one is missing
pub file_why : (form : Form) (n : Names) (known : FileMap) (before names after : List (List ℕ)) (stop : Stop) → read_names n ≡ before ++ (names ++ after) → first_missing known before ≡ None → IsFileStop known names stop → IsWhy form n known stop
file_why form n known before names after Read e b s = tt
file_why form n known before names after NoMemory e b s = tt
file_why form n known before names after (Missing line) e b s = (s.0, ap (first_missing known) e ∙ all_on known before (names ++ after) b ∙ missing_on known names after s.0 s.1, s.2)
file_why form n known before names after (TooLong line) e b s = absurd s
file_why form n known before names after (Refused line) e b s = absurd s
file_why form n known before names after (Bad line) e b s = absurd s

there : (known : FileMap) (n : Names) → first_missing known n.about ≡ None → first_missing known (n.input ∷ []) ≡ None → first_missing known (read_names n) ≡ None
there known n a i = all_on known n.about (n.input ∷ []) a ∙ i

pub input_why : (form : Form) (n : Names) (known : FileMap) (stop : Stop) → first_missing known n.about ≡ None → IsInputStop known n.input stop → IsWhy form n known stop
input_why form n known (TooLong line) a s = (there known n a s.0, s.1, s.2)
input_why form n known Read a s = tt
input_why form n known NoMemory a s = tt
input_why form n known (Missing line) a s = (s.0, all_on known n.about (n.input ∷ []) a ∙ s.1, s.2)
input_why form n known (Refused line) a s = absurd s
input_why form n known (Bad line) a s = absurd s

right : (n : Names) (known : FileMap) → first_missing known n.about ≡ None → first_missing known (n.input ∷ []) ≡ None → is_long (files.get known n.input) ≡ false → AreRight n known
right n known a i s = record { there = there known n a i; short = s }

-- ---- all of it

pub go_opens : (n : Names) (known : FileMap) (input : List ℕ) (texts : List (List ℕ)) (r : Result (Session World) Stop) → first_missing known n.about ≡ None → AreRead known n.about texts → first_missing known (n.input ∷ []) ≡ None → is_long (files.get known n.input) ≡ false
    → files.get known n.input ≡ Some input → BuildsFrom n.about texts r → IfOk r (IsCompiledFor n.aim n.about texts input) → Opens Go n known r
go_opens n known input texts (Ok x) a t i s got b over = ((right n known a i s, (texts, t, b)), (input, got, (texts, t, over)))
go_opens n known input texts (Err NoMemory) a t i s got b over = tt
go_opens n known input texts (Err (Refused line)) a t i s got b over = (right n known a i s, (texts, t, b))
go_opens n known input texts (Err (Bad line)) a t i s got b over = absurd b
go_opens n known input texts (Err Read) a t i s got b over = absurd b
go_opens n known input texts (Err (Missing line)) a t i s got b over = absurd b
go_opens n known input texts (Err (TooLong line)) a t i s got b over = absurd b

pub debug_opens : (image table input output : List ℕ) (known : FileMap) (text table_text bytes : List ℕ) (r : Result (Session World) Stop) → first_missing known (image ∷ table ∷ []) ≡ None → IsRead 17825812 (files.get known image) text → IsRead 16777216 (files.get known table) table_text
    → first_missing known (input ∷ []) ≡ None → is_long (files.get known input) ≡ false → files.get known input ≡ Some bytes → LoadsFrom text table_text bytes r
    → Opens Debug (record { aim = None; about = image ∷ table ∷ []; input = input; output = output }) known r
debug_opens image table input output known text table_text bytes (Ok x) a t u i s got b =
    ((right (record { aim = None; about = image ∷ table ∷ []; input = input; output = output }) known a i s, (text, table_text, t, u, b.0)), (bytes, got, (text, table_text, t, u, b)))
debug_opens image table input output known text table_text bytes (Err NoMemory) a t u i s got b = tt
debug_opens image table input output known text table_text bytes (Err (Bad line)) a t u i s got b = (right (record { aim = None; about = image ∷ table ∷ []; input = input; output = output }) known a i s, (text, table_text, t, u, b))
debug_opens image table input output known text table_text bytes (Err Read) a t u i s got b = absurd b
debug_opens image table input output known text table_text bytes (Err (Missing line)) a t u i s got b = absurd b
debug_opens image table input output known text table_text bytes (Err (TooLong line)) a t u i s got b = absurd b
debug_opens image table input output known text table_text bytes (Err (Refused line)) a t u i s got b = absurd b
