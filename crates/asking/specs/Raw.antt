-- `regs` and `ps`.
use Rattle.std.specs.Prelude.{◌≡◌, ℕ, zero, suc, ◌*◌, true, List, [], ◌∷◌, ◌++◌, reverse, codes, Option, Some, None, option_map, Result, Ok, Err}
use Rattle.ldb_words.specs.Word.{sum_of}
use Rattle.machine_state.specs.declared.layout.TheConstants.{CONTEXT_WORDS}
use Rattle.machine_state.specs.Regions.{Regions}
use Rattle.ps_store.specs.declared.object.Part.TheVariants.{Command}
use Rattle.ps_store.specs.declared.object.PsObj.{PsObj}
use Rattle.ps_store.specs.declared.object.PsObj.TheVariants.{Str}
use Rattle.ps_store.specs.declared.object.StringId.{StringId}
use Rattle.ps_store.specs.declared.fault.StoreFault.{StoreFault}
use Rattle.ps_store.specs.declared.fault.StoreFault.TheVariants as store
use Rattle.ps_store.specs.StoreState.{StoreState}
use Rattle.ps_store.specs.Store.{Given, making_string}
use Rattle.ps_step.specs.declared.fault.PsError.TheVariants.{LimitCheck}
use Rattle.ps_step.specs.declared.machine.PsCore.{PsCore}
use Rattle.ps_step.specs.Text.{text_of}
use Rattle.ps_run.specs.Runs.{Answer, Runs}
use Rattle.ps_run.specs.Reaching.{Reaches}
use Rattle.frame_bytes.specs.Bytes.{Bytes}
use Rattle.abs_mem.specs.Meaning.{Seen}
use Rattle.abs_mem.specs.declared.memory.MemFault.TheVariants.{BadReply}
use Rattle.break_plant.specs.Planted.{word_at}
use Rattle.dialect_model.specs.Dial.{Dial}
use Rattle.dialect_model.specs.Operating.{Operates}
use Rattle.dialect_model.specs.TableUse.{TableUse, use_of, Trouble, Kind, Eval, trouble_of, ◌>>=◌}
use Rattle.dialect_model.specs.TableUse.{Spent as StepsSpent}
use Rattle.dialect_model.specs.Running.{Run, beginning, ready}
use Rattle.ps_ops.specs.Desk.{dial_of}
use Rattle.ps_ops.specs.declared.dialect.Operators.{Operators}
use Rattle.told_runs.specs.Told.{desk, Tells}
use Rattle.table_asks.specs.declared.fault.Cause.{Cause}
use Rattle.table_asks.specs.declared.fault.AskFault.{AskFault}
use Rattle.table_asks.specs.declared.fault.AskFault.TheVariants.{Refused, Raised, Spent, NoMemory, Broken}
use Rattle.table_asks.specs.declared.inquiry.Inquiry.{Inquiry}
use Rattle.table_asks.specs.Asking.{left_of}
use Rattle.asking.specs.Lines.{line, target_text, words_text}

abbrev pub with_word : Option ℕ → Option (List ℕ) → Option (List ℕ)
with_word None ws = None
with_word (Some w) ws = option_map (λ ws. w ∷ ws) ws

-- so many words of a context block, from the one with a number on
abbrev pub context_words : Bytes → (context number count : ℕ) → Option (List ℕ)
context_words b context k zero = Some []
context_words b context k (suc n) = with_word (word_at b (sum_of context (4 * k))) (context_words b context (suc k) n)

-- a text and such words behind it
abbrev pub words_behind : List ℕ → (context number count : ℕ) → Bytes → Option (List ℕ)
words_behind text context k n b = option_map (λ ws. text ++ words_text ws) (context_words b context k n)

-- the line of the words of the context block at an address
abbrev pub regs_line : (target context : ℕ) → Bytes → Option (List ℕ)
regs_line target context b = option_map (λ ws. line (codes "regs " ++ (target_text target ++ words_text ws))) (context_words b context 0 CONTEXT_WORDS)

-- ---- `ps`

-- the text as an executable string of the command's
abbrev pub texted_by : TableUse → Dial → PsCore → Given StringId → Result Run (Trouble Cause) → TableUse → Type 0
texted_by t d c (Ok (text, s)) r t' = (r ≡ Ok (record { dial = d; core = ready (Str text true) c (record t { store = s }) })) × (t' ≡ record t { store = s })
texted_by t d c (Err f) r t' = (r ≡ Err (Kind LimitCheck)) × (t' ≡ t)

abbrev pub texted : List ℕ → Dial → PsCore → Eval Cause Run
texted text d c t r t' = texted_by t d c (making_string t.store text) r t'

-- why the text isn't made a string
abbrev pub text_fault : StoreFault → AskFault
text_fault store.NoMemory = NoMemory
text_fault store.Limit = Raised LimitCheck
text_fault store.ReadOnly = Raised LimitCheck

-- what is to run
abbrev pub ps_ready : Dial → List ℕ → Eval Cause Run
ps_ready d text = beginning >>= texted text d

-- the operands that are left, from the bottom
abbrev pub operand_texts : StoreState → List PsObj → List ℕ
operand_texts s [] = []
operand_texts s (x ∷ xs) = codes " " ++ (text_of s x ++ operand_texts s xs)

abbrev pub ps_line : PsCore → List ℕ
ps_line c = line (codes "ps" ++ operand_texts c.store (reverse c.operands))

abbrev pub ps_result : Answer → PsCore → Result (List ℕ) (Trouble Cause)
ps_result (Ok u) c = Ok (ps_line c)
ps_result (Err f) c = Err (trouble_of f)

-- `ps` over a dial: it doesn't come to run, or it runs to an end. With the dial, the table's store and the steps that it leaves.
pub data RunsPs (d : Dial) (text : List ℕ) (t : TableUse) : Result (List ℕ) (Trouble Cause) → Dial → StoreState → ℕ → Type 0 where
  not_begun : {e : Trouble Cause} {t' : TableUse} → ps_ready d text t (Err e) t' → RunsPs d text t (Err e) d t'.store t'.left
  ended : {run : Run} {t' : TableUse} {answer : Answer} {left : ℕ} {d' : Dial} {c : PsCore} → ps_ready d text t (Ok run) t'
      → Runs Operates t'.left run.dial run.core answer left d' c → RunsPs d text t (ps_result answer c) d' c.store left

-- `ps` over a dial, as far as it came before memory ran out: it doesn't come to run, or a run of it goes so far. With the dial that it has there.
pub data RunsPsSoFar (d : Dial) (text : List ℕ) (t : TableUse) : Dial → Type 0 where
  not_run : RunsPsSoFar d text t d
  so_far : {run : Run} {t' : TableUse} {left : ℕ} {d' : Dial} {c : PsCore} → ps_ready d text t (Ok run) t' → Reaches Operates t'.left run.dial run.core left d' c → RunsPsSoFar d text t d'

module _ {W R : Type 0} (seen : W → Seen R) (text : List ℕ) where
  -- over the bytes that are told, where what is made is the command's; the bytes that `ps` leaves are told after it
  abbrev PsAs : Inquiry → Operators W → Result (List ℕ) (Trouble Cause) → Inquiry → Operators W → Type 0
  PsAs i o r i' o' =
      i.core.store.part ≡ Command → (regions : Regions) (rest : R) → Tells seen o regions rest
      → (regions' : Regions) × Tells seen o' regions' rest
      × RunsPs (dial_of (desk o) regions) text (use_of i.core.store (left_of i)) r (dial_of (desk o') regions') i'.core.store (left_of i')

  -- over the bytes that are told; the bytes that `ps` has at that place are told after it
  abbrev pub PsSoFar : Inquiry → Operators W → Operators W → Type 0
  PsSoFar i o o' =
      i.core.store.part ≡ Command → (regions : Regions) (rest : R) → Tells seen o regions rest
      → (regions' : Regions) × Tells seen o' regions' rest
      × (d' : Dial) × RunsPsSoFar (dial_of (desk o) regions) text (use_of i.core.store (left_of i)) d' × ((dial_of (desk o') regions').target ≡ d'.target)

  -- Where memory ran out the text ran so far. Where the memory of the target gave no answer nothing is said of the run; a bad reply came only where no bytes were told.
  abbrev pub PsOver : Inquiry → Operators W → Result (List ℕ) AskFault → Inquiry → Operators W → Type 0
  PsOver i o (Ok x) i' o' = PsAs i o (Ok x) i' o'
  PsOver i o (Err (Raised e)) i' o' = PsAs i o (Err (Kind e)) i' o'
  PsOver i o (Err Spent) i' o' = PsAs i o (Err StepsSpent) i' o'
  PsOver i o (Err NoMemory) i' o' = PsSoFar i o o'
  PsOver i o (Err (Broken (BadReply frame))) i' o' = (regions : Regions) (rest : R) → Tells seen o regions rest → ⊥
  PsOver i o (Err (Broken f)) i' o' = Unit {0}
  PsOver i o (Err (Refused cause)) i' o' = ⊥
