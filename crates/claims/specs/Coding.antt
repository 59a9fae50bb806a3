-- `code`: a text of PostScript that has the value of an expression.
use Rattle.std.specs.Prelude.{◌≡◌, ◌≢◌, ◌⊎◌, ◌≤◌, ℕ, true, false, List, [], ◌∷◌, ◌++◌, length, codes, Some, Ok, Err}
use Rattle.std.specs.List.{AllByRecursion}
use Rattle.ldb_words.specs.Word.{signed}
use Rattle.machine_state.specs.declared.layout.TheConstants.{CONTEXT}
use Rattle.machine_state.specs.Sound.{IsMemory}
use Rattle.c_tree.specs.Types.{type_of, is_struct}
use Rattle.c_tree.specs.Layout.{leaves_of}
use Rattle.ps_store.specs.declared.object.PsObj.{PsObj}
use Rattle.ps_store.specs.declared.object.PsObj.TheVariants.{Int}
use Rattle.ps_store.specs.declared.object.DictId.{DictId}
use Rattle.ps_store.specs.StoreState.{StoreState}
use Rattle.ps_step.specs.declared.fault.PsError.{PsError}
use Rattle.ps_step.specs.declared.machine.PsCore.{PsCore}
use Rattle.ps_run.specs.Runs.{Answer, Runs}
use Rattle.frame_bytes.specs.declared.frame.Frame.{Frame}
use Rattle.table_model.specs.Frames.{frame_at, point_of}
use Rattle.ps_words.specs.Words.{error_of}
use Rattle.dialect_model.specs.Dial.{Dial}
use Rattle.dialect_model.specs.Operating.{Operates}
use Rattle.dialect_model.specs.TableUse.{TableUse, use_of, Trouble, Refused, Kind, Spent, Wanting, Eval, trouble_of, gives, ◌>>=◌}
use Rattle.dialect_model.specs.Running.{Run}
use Rattle.dialect_model.specs.Near.{slackened}
use Rattle.c_reading.specs.Readings.{AsValue}
use Rattle.c_bytes.specs.Lvalues.{Cause, Reason, Disturbed, Scene, Named, place_in}
use Rattle.c_bytes.specs.Evaluation.{values_of, fetch_all}
use Rattle.claims.specs.Side.{SideState, Change, OnSide, MOST_STEPS, row_of, memory_of, target_of}
use Rattle.claims.specs.Raw.{text_ready}
use Rattle.claims.specs.Reading.{ReadText, reading}
use Rattle.claims.specs.Evaluating.{HasRun, is_disturbed}

-- ---- what a text leaves

abbrev LeavesAll : Scene → ReadText → List ℕ → Dial → PsCore → Type 0
LeavesAll sc x vs d c = (space at : PsObj) × (c.operands ≡ at ∷ space ∷ []) × (p : _) × (place_in c (space, at) ≡ Ok p)
    × (t t' : TableUse) × fetch_all sc (Named p d.cell) (leaves_of sc.defs (type_of x.tree)) t (Ok vs) t'

-- a scalar's value alone; of a struct a place, whose leaves have the values
abbrev pub Leaves : Scene → ReadText → List ℕ → Dial → PsCore → Type 0
Leaves sc x vs d c =
    ((is_struct (type_of x.tree) ≡ false) × (v : ℕ) × (vs ≡ v ∷ []) × (c.operands ≡ Int (signed v) ∷ []))
    ⊎ ((is_struct (type_of x.tree) ≡ true) × LeavesAll sc x vs d c)

-- the error of an evaluation that has no value
abbrev is_error : PsError → Trouble Cause → Type 0
is_error e (Refused (Reason u)) = e ≡ error_of u
is_error e (Kind e') = e ≡ e'
is_error e other = ⊥

-- what the expression may come to: the text's own steps and objects count too
abbrev valued : Scene → ReadText → Eval Cause (List ℕ)
valued sc x = slackened (values_of sc x.tree)

-- where memory is wanting nothing is said
abbrev ServesTrouble : Scene → ReadText → TableUse → Trouble ⊥ → Type 0
ServesTrouble sc x t (Kind e) = (cause : Trouble Cause) × (t' : TableUse) × valued sc x t (Err cause) t' × is_error e cause
ServesTrouble sc x t Spent = (t' : TableUse) × valued sc x t (Err Spent) t'
ServesTrouble sc x t Wanting = Unit {0}
ServesTrouble sc x t (Refused cause) = ⊥

-- A run leaves the expression's value, or ends with its undefined reason or error, or as it does spends the steps.
abbrev ServesBy : Scene → ReadText → TableUse → Answer → Dial → PsCore → Type 0
ServesBy sc x t (Ok u) d c = (vs : List ℕ) × (t' : TableUse) × valued sc x t (Ok vs) t' × Leaves sc x vs d c
ServesBy sc x t (Err f) d c = ServesTrouble sc x t (trouble_of f)

-- It stores nothing in the target. No text can mean an expression in which a disturbed place is met.
abbrev pub Serves : Scene → ReadText → TableUse → Answer → Dial → PsCore → Type 0
Serves sc x t answer d c = ((d.target ≡ Some sc.target) × ServesBy sc x t answer d c) ⊎ ((t' : TableUse) × values_of sc x.tree t (Err (Refused Disturbed)) t')

-- ---- where it is run

-- A frame of any machine of the side's target, whose memory holds bytes, that stands at the point at which the chosen frame stands,
-- where a session chose it. The functions of more units may have been run there.
pub record StandsAlike (a : SideState) (s : StoreState) (x : ReadText) (b : SideState) (f : Frame) : Type 0 where
  pub target : b.machine.target ≡ a.machine.target
  pub memory : IsMemory b.machine.memory
  pub table : HasRun s b.table
  pub point : DictId
  pub here : point_of s a.frame x.frame ≡ Ok point
  pub found : frame_at (row_of b) b.table (memory_of b) CONTEXT b.frame ≡ Ok (Some f)
  pub there : point_of b.table b.frame f ≡ Ok point

abbrev scene_in : SideState → Frame → Scene → Scene
scene_in b f sc = record sc { target = target_of b; frame = f }

-- The text has no LF, and no more characters than a string may have. It serves wherever it is run as a text of `ps` that may not store in the target, as no evaluation may; but
-- under a disturbed table no text does.
abbrev pub IsCode : SideState → ReadText → StoreState → List ℕ → Type 0
IsCode a x s text = AllByRecursion (λ c. c ≢ 10) text × (length text ≤ 16777216)
    × (is_disturbed s ≡ false → (b : SideState) (f : Frame) (run : Run) (t : TableUse) (answer : Answer) (left : ℕ) (d : Dial) (c : PsCore)
    → StandsAlike a s x b f → text_ready false b text (use_of b.table MOST_STEPS) (Ok run) t → Runs Operates t.left run.dial run.core answer left d c
    → Serves (scene_in b f x.scene) x (use_of b.table MOST_STEPS) answer d c)

abbrev any_code : SideState → ReadText → OnSide (List ℕ)
any_code a x t r t' = (text : List ℕ) × IsCode a x t.store text × (r ≡ Ok text) × (t' ≡ t)

abbrev pub coding : SideState → List ℕ → OnSide Change
coding a text = do
  x ← reading AsValue a text
  code ← any_code a x
  gives (record { lines = (codes "code " ++ code) ∷ []; side = a })
