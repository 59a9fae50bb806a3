-- `print`: the frame with the number.
use Rattle.std.proofs.Common.{◌≡◌, refl, sym, subst, ℕ, List, Option, Some, None, Result, Ok, Err}
use Rattle.machine_state.specs.Regions.{Regions}
use Rattle.ps_store.specs.Store.{closed_part}
use Rattle.frame_bytes.specs.declared.frame.Frame.{Frame}
use Rattle.abs_mem.specs.Meaning.{Seen, Same, OnTold}
use Rattle.abs_mem.specs.declared.memory.MemFault.TheVariants.{Outside, LinkFault, BadReply}
use Rattle.dialect_model.specs.Dial.{Target, memory_bytes}
use Rattle.dialect_model.specs.TableUse.{TableUse, use_of, Trouble, Kind, Eval, Looks, ◌>>=◌, Refused as RefusedFor, Spent as StepsSpent}
use Rattle.ps_ops.specs.Desk.{target_of}
use Rattle.table_asks.specs.declared.fault.Cause.{Cause}
use Rattle.table_asks.specs.declared.fault.AskFault.{AskFault}
use Rattle.table_asks.specs.declared.fault.AskFault.TheVariants.{Refused, Raised, Spent, NoMemory, Broken}
use Rattle.table_asks.specs.declared.inquiry.Inquiry.{Inquiry}
use Rattle.table_asks.specs.Asking.{left_of, used_by, ComesOver}
use Rattle.table_asks.specs.Closing.{Settles}
use Rattle.asking.specs.Printing.{EndsOnTold, EndsFrom, EndsOver, printed_in, printing}
use Rattle.frame_bytes.specs.Bytes.{Bytes}
use Rattle.ldb_words.specs.declared.kinds.Order.{Order}
use Rattle.table_model.specs.Frames.{row_of_target, frame_at}
use Rattle.ps_ops.specs.declared.view.View.{View}
use Rattle.table_asks.specs.declared.fault.Cause.TheVariants.{NoFrame}
use Rattle.asking.specs.Frames.{or_no_frame}
use Rattle.asking.proofs.Ending.{part_stays, fails_from, then_from}
use Rattle.asking.proofs.Scoped.{here_fails}

-- ---- the frame with a number

module _ {R : Type 0} (v : View) (order : Order) (n : ℕ) (name : List ℕ) (i j : Inquiry) (s u : Seen R) where
  abbrev at : Regions → Target
  at regions = target_of v order regions

  abbrev start : TableUse
  start = use_of i.core.store (left_of i)

  abbrev mid : TableUse
  mid = use_of j.core.store (left_of j)

  abbrev framed : Bytes → Eval Cause (Option Frame)
  framed b = Looks (λ s. frame_at (row_of_target v.target) s b v.context n)

  abbrev found_in : Regions → Eval Cause (Option Frame)
  found_in regions = framed (memory_bytes (at regions))

  abbrev behind_frame : Regions → Option Frame → Eval Cause (List ℕ)
  behind_frame regions o = or_no_frame o >>= λ f. printed_in n f name (at regions)

  looked_at : (r : Result (Option Frame) (Trouble Cause)) → Same s u → OnTold s (λ b. (t : TableUse) → framed b (used_by i t) r (used_by j t))
      → (regions : Regions) (rest : R) → s.tells (memory_bytes (at regions)) rest → u.tells (memory_bytes (at regions)) rest × found_in regions start r mid
  looked_at r same h regions rest t = (same.keeps (memory_bytes (at regions)) rest t, h.holds (memory_bytes (at regions)) rest t start)

  looked_ends : (r : Result (Option Frame) (Trouble Cause)) → Same s u → OnTold s (λ b. (t : TableUse) → framed b (used_by i t) r (used_by j t)) → EndsOnTold found_in at start s r j u
  looked_ends r same h regions rest t = let w = looked_at r same h regions rest t in (w.0, record { use_after = mid; comes = w.1; store = refl; left = refl })

  look_fails : (f : AskFault) → ComesOver framed i s (Err f) j u → EndsFrom found_in at start s (Err f) j u
  look_fails (Refused cause) h = looked_ends (Err (RefusedFor cause)) h.0 h.1
  look_fails (Raised e) h = looked_ends (Err (Kind e)) h.0 h.1
  look_fails Spent h = looked_ends (Err StepsSpent) h.0 h.1
  look_fails NoMemory h = λ regions rest t. h.0.keeps (memory_bytes (at regions)) rest t
  look_fails (Broken LinkFault) h = tt
  look_fails (Broken (BadReply frame)) h = λ regions rest t. h.never (memory_bytes (at regions)) rest t
  look_fails (Broken (Outside p)) h = tt

  pub frame_fails : (f : AskFault) → ComesOver framed i s (Err f) j u → EndsOver (printing n name) at i s (Err f) j u
  frame_fails f h part = fails_from found_in behind_frame at start s u j f (look_fails f h)

  module _ (found : Option Frame) (is : ComesOver framed i s (Ok found) j u) where
    frame_then : (r : Result (List ℕ) AskFault) (i' : Inquiry) (s' : Seen R) → EndsFrom (λ regions. behind_frame regions found) at mid u r i' s' → EndsFrom (λ regions. printing n name (at regions)) at start s r i' s'
    frame_then r i' s' h = then_from found_in behind_frame at start s s' i' u found mid (looked_at (Ok found) is.0 is.1) r h

    pub no_frame : found ≡ None → EndsOver (printing n name) at i s (Err (Refused NoFrame)) j u
    no_frame none part =
        frame_then (Err (Refused NoFrame)) j u
        (fails_from (λ regions. or_no_frame found) (λ regions f. printed_in n f name (at regions)) at mid u u j (Refused NoFrame)
        (here_fails (λ regions. or_no_frame found) at mid j u NoFrame refl refl (λ regions. subst (λ (o : Option Frame). or_no_frame o mid (Err (RefusedFor NoFrame)) mid) (sym none) (refl, refl))))

    pub frame_then_printed : (f : Frame) → found ≡ Some f → Settles (closed_part i.core.store) (closed_part j.core.store) → (r : Result (List ℕ) AskFault) (i' : Inquiry) (s' : Seen R)
        → EndsOver (printed_in n f name) at j u r i' s' → EndsOver (printing n name) at i s r i' s'
    frame_then_printed f some settles r i' s' h part =
        frame_then r i' s'
        (then_from (λ regions. or_no_frame found) (λ regions f. printed_in n f name (at regions)) at mid u s' i' u f mid
        (λ regions rest t. (t, subst (λ (o : Option Frame). or_no_frame o mid (Ok f) mid) (sym some) (refl, refl))) r
        (h (part_stays i.core.store j.core.store settles part)))
