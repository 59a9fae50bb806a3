-- What is looked up for an operator: a function of the bytes that the memory tells.
use Rattle.std.specs.Prelude.{◌≡◌, ℕ, zero, suc, Option, Some, None, Result, Ok, Err}
use Rattle.ldb_edge.specs.Count.{Rose}
use Rattle.ps_store.specs.StoreState.{StoreState}
use Rattle.ps_store.specs.declared.object.DictId.{DictId}
use Rattle.ps_step.specs.declared.fault.PsError.TheVariants.{RangeCheck}
use Rattle.ps_step.specs.Results.{◌>>=◌}
use Rattle.frame_bytes.specs.Bytes.{Bytes}
use Rattle.frame_bytes.specs.declared.frame.Frame.{Frame}
use Rattle.frame_bytes.specs.declared.frame.Space.{Space}
use Rattle.frame_bytes.specs.declared.frame.Space.TheVariants.{Registers}
use Rattle.table_model.specs.declared.found.Found.{Found}
use Rattle.table_model.specs.Frames.{row_of_target, frame_at}
use Rattle.table_model.specs.Symbols.{scope_of}
use Rattle.table_model.specs.Objects.{found_at}
use Rattle.abs_mem.specs.Meaning.{Seen, Same, OnTold, Untold}
use Rattle.abs_mem.specs.declared.memory.MemFault.TheVariants.{Outside, LinkFault, BadReply}
use Rattle.dialect_model.specs.Dial.{Acted, Raises, Needs as Wants, looked}
use Rattle.ps_bare.specs.Deferred.{IsDeferred}
use Rattle.ps_ops.specs.declared.view.View.{View}
use Rattle.ps_ops.specs.declared.view.Standing.{Standing}
use Rattle.ps_ops.specs.declared.view.Standing.TheVariants as standing
use Rattle.ps_ops.specs.declared.halt.Halt.{Halt}
use Rattle.ps_ops.specs.declared.halt.Halt.TheVariants.{Raised, Wanting, Broken, Needs}

-- A look-up changes nothing. A unit that it needs has its functions as an executable string.
abbrev pub LooksUp : {R A : Type 0} → StoreState → (Bytes → Acted A) → Seen R → Result A Halt → Seen R → Type 0
LooksUp t f s (Ok x) s' = Same s s' × OnTold s (λ b. f b ≡ Ok x)
LooksUp t f s (Err (Raised e)) s' = Same s s' × OnTold s (λ b. f b ≡ Err (Raises e))
LooksUp t f s (Err (Needs u)) s' = Same s s' × OnTold s (λ b. (f b ≡ Err (Wants u)) × IsDeferred t u)
LooksUp t f s (Err Wanting) s' = ⊥
LooksUp t f s (Err (Broken LinkFault)) s' = Rose s.faults s'.faults
LooksUp t f s (Err (Broken (BadReply frame))) s' = Untold s s'
LooksUp t f s (Err (Broken (Outside p))) s' = ⊥

-- ---- what is looked up

-- the frame in which operators work
abbrev pub frame_on : Standing → View → StoreState → Bytes → Acted (Option Frame)
frame_on standing.NoFrame v t b = Ok None
frame_on (standing.InFrame f scope) v t b = Ok (Some f)
frame_on (standing.Numbered n) v t b = looked (frame_at (row_of_target v.target) t b v.context n)

abbrev pub frame_by : View → StoreState → Bytes → Acted (Option Frame)
frame_by v = frame_on v.standing v

abbrev pub or_no_frame : Option Frame → Acted Frame
or_no_frame None = Err (Raises RangeCheck)
or_no_frame (Some f) = Ok f

-- the innermost symbol in scope there
abbrev pub scope_on : Standing → View → StoreState → Bytes → Acted (Option DictId)
scope_on standing.NoFrame v t b = Err (Raises RangeCheck)
scope_on (standing.InFrame f scope) v t b = Ok scope
scope_on (standing.Numbered n) v t b = frame_by v t b >>= λ o. or_no_frame o >>= λ f. looked (scope_of t n f)

abbrev pub scope_by : View → StoreState → Bytes → Acted (Option DictId)
scope_by v = scope_on v.standing v

-- the object to which an address belongs
abbrev pub found_by : View → StoreState → Bytes → (address : ℕ) → Acted (Option Found)
found_by v t b zero = Ok None
found_by v t b (suc p) = looked (found_at (row_of_target v.target) t b v.context (suc p))

-- the frame whose registers a space has
abbrev pub frame_for : View → StoreState → Bytes → Space → Acted (Option Frame)
frame_for v t b Registers = frame_by v t b
frame_for v t b space = Ok None

-- that of a second address, behind the object of the first
abbrev pub found_behind : View → StoreState → Bytes → Option Found → (address : ℕ) → Acted (Option Found)
found_behind v t b None p = Ok None
found_behind v t b (Some o) p = found_by v t b p

-- both
abbrev pub found_two : View → StoreState → Bytes → (p q : ℕ) → Acted (Option Found × Option Found)
found_two v t b p q = found_by v t b p >>= λ o. found_behind v t b o q >>= λ other. Ok (o, other)
