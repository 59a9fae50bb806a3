-- `regs` and `ps`: commands about the target itself.
use Rattle.std.specs.Prelude.{◌≡◌, ◌≤◌, ℕ, zero, Bool, true, List, [], ◌∷◌, ◌++◌, reverse, codes, Option, Some, None, Result, Ok, Err}
use Rattle.machine_state.specs.declared.layout.TheConstants.{CONTEXT_WORDS}
use Rattle.machine_state.specs.State.{order_of}
use Rattle.machine_state.specs.Regions.{words_in}
use Rattle.ps_store.specs.declared.object.PsObj.{PsObj}
use Rattle.ps_store.specs.declared.object.PsObj.TheVariants.{Str}
use Rattle.ps_store.specs.StoreState.{StoreState}
use Rattle.ps_store.specs.Store.{Given, making_string}
use Rattle.ps_store.specs.declared.object.StringId.{StringId}
use Rattle.ps_step.specs.declared.fault.PsError.TheVariants.{LimitCheck}
use Rattle.ps_step.specs.declared.fault.PsFault.TheVariants.{Spent as SpentFault}
use Rattle.ps_step.specs.declared.machine.PsCore.{PsCore}
use Rattle.ps_step.specs.Text.{text_of}
use Rattle.ps_run.specs.Runs.{Answer, Runs}
use Rattle.dialect_model.specs.Dial.{Dial, Target, Numbered}
use Rattle.dialect_model.specs.Operating.{Operates}
use Rattle.dialect_model.specs.TableUse.{TableUse, use_of, Kind, Wanting, trouble_of, ◌>>=◌}
use Rattle.dialect_model.specs.Running.{Run, beginning, ready}
use Rattle.claims.specs.Side.{SideState, Change, OnSide, Troubled, MOST_STEPS, dial_of, with_memory, with_table_of}
use Rattle.claims.specs.Lines.{target_text, words_text}

-- ---- `regs`

abbrev pub regs_text : SideState → List ℕ
regs_text a = codes "regs " ++ (target_text a.machine.target ++ words_text (words_in (order_of a.machine) CONTEXT_WORDS a.machine.memory.context_bytes))

-- ---- `ps`

-- the text as an executable string of the command's
abbrev texted_by : TableUse → Dial → PsCore → Given StringId → Result Run Troubled → TableUse → Type 0
texted_by t d c (Ok (text, s)) r t' = (r ≡ Ok (record { dial = d; core = ready (Str text true) c (record t { store = s }) })) × (t' ≡ record t { store = s })
texted_by t d c (Err f) r t' = (r ≡ Err (Kind LimitCheck)) × (t' ≡ t)

abbrev texted : List ℕ → Dial → PsCore → OnSide Run
texted text d c t r t' = texted_by t d c (making_string t.store text) r t'

-- What is to run, where a text may store in the target (`raw`) or not. No frame is walked before the text asks for the chosen one.
abbrev pub text_ready : (raw : Bool) → SideState → List ℕ → OnSide Run
text_ready raw a text = beginning >>= texted text (dial_of a (Numbered a.frame) raw)

abbrev pub ps_ready : SideState → List ℕ → OnSide Run
ps_ready a text = text_ready true a text

-- the operands that are left, from the bottom
abbrev pub operand_texts : StoreState → List PsObj → List ℕ
operand_texts s [] = []
operand_texts s (x ∷ xs) = codes " " ++ (text_of s x ++ operand_texts s xs)

abbrev with_target : Option Target → SideState → SideState
with_target None a = a
with_target (Some t) a = with_memory t.regions a

-- what the text stored stays, however the run ended
abbrev pub with_run : SideState → Dial → PsCore → SideState
with_run a d c = with_table_of (with_target d.target a) c.store

abbrev pub ps_result : SideState → Answer → Dial → PsCore → Result Change Troubled
ps_result a (Ok u) d c = Ok (record { lines = (codes "ps" ++ operand_texts c.store (reverse c.operands)) ∷ []; side = with_run a d c })
ps_result a (Err f) d c = Err (trouble_of f)

-- `ps` on one side: it doesn't come to run; it runs to an end; or memory is wanting after some steps.
pub data RunsPs (a : SideState) (text : List ℕ) : Result Change Troubled → SideState → Type 0 where
  wants : RunsPs a text (Err Wanting) a
  not_begun : {e : Troubled} {t : TableUse} → ps_ready a text (use_of a.table MOST_STEPS) (Err e) t → RunsPs a text (Err e) (with_table_of a t.store)
  ended : {run : Run} {t : TableUse} {answer : Answer} {left : ℕ} {d : Dial} {c : PsCore} → ps_ready a text (use_of a.table MOST_STEPS) (Ok run) t
      → Runs Operates t.left run.dial run.core answer left d c → RunsPs a text (ps_result a answer d c) (with_run a d c)
  wanting : {run : Run} {t : TableUse} {taken : ℕ} {d : Dial} {c : PsCore} → ps_ready a text (use_of a.table MOST_STEPS) (Ok run) t
      → taken ≤ t.left → Runs Operates taken run.dial run.core (Err SpentFault) zero d c → RunsPs a text (Err Wanting) (with_run a d c)
  wanting_at_end : {run : Run} {t : TableUse} {left : ℕ} {d : Dial} {c : PsCore} → ps_ready a text (use_of a.table MOST_STEPS) (Ok run) t
      → Runs Operates t.left run.dial run.core (Ok tt) left d c → RunsPs a text (Err Wanting) (with_run a d c)
