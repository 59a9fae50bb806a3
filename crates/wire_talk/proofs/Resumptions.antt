-- A resume whose messages come one by one.
use Rattle.std.proofs.Common.{◌≡◌, refl, sym, subst, ℕ, ◌+◌, ◌≤◌, nat_le, Bool, true, false, if◌then◌else◌, List, length, Err, arith}
use Rattle.std.proofs.lemmas.Bool.Decides.{nat_tests}
use Rattle.nub_wire.specs.declared.message.Msg.{Msg}
use Rattle.nub_wire.specs.declared.message.Msg.TheVariants as msg
use Rattle.nub_wire.specs.declared.reply.Heard.TheVariants.{GoesOn, Bad}
use Rattle.nub_wire.specs.Spelling.{frame_of}
use Rattle.nub_wire.specs.Replies.{heard, ending, ends_reply}
use Rattle.nub_wire.specs.Calls.{SendsNone, BadReply, takes_none}
use Rattle.wire_talk.specs.declared.fault.TalkFault.{TalkFault}
use Rattle.wire_talk.specs.declared.fault.TalkFault.TheVariants as fault
use Rattle.wire_talk.specs.Talk.{SendsAll}
use Rattle.wire_talk.specs.Resuming.{BeginsBy}

no_end : (ends : Bool) (q : ℕ) → ending ends ≡ GoesOn q → ⊥
no_end true q e = cc
no_end false q e = cc

within_by : (t count q : ℕ) (b : Bool) → nat_le count t ≡ b → (if b then GoesOn count else Bad) ≡ GoesOn q → q ≤ t
within_by t count q true x e =
    let same : count ≡ q = cc in
    let less : count ≤ t = grind (arith, nat_tests) in
    omega (arith, same, less)
within_by t count q false x e = cc

-- no more output than turns is heard
pub goes_within : (t p q : ℕ) (m : Msg) → heard (msg.Resume t) p m ≡ GoesOn q → q ≤ t
goes_within t p q (msg.Output bytes) e = within_by t (p + length bytes) q (nat_le (p + length bytes) t) refl e
goes_within t p q msg.Hello e = absurd (no_end (ends_reply (msg.Resume t) msg.Hello) q e)
goes_within t p q (msg.Fetch address size) e = absurd (no_end (ends_reply (msg.Resume t) (msg.Fetch address size)) q e)
goes_within t p q (msg.Store address size value) e = absurd (no_end (ends_reply (msg.Resume t) (msg.Store address size value)) q e)
goes_within t p q (msg.Resume turns) e = absurd (no_end (ends_reply (msg.Resume t) (msg.Resume turns)) q e)
goes_within t p q msg.Kill e = absurd (no_end (ends_reply (msg.Resume t) msg.Kill) q e)
goes_within t p q (msg.Input bytes) e = absurd (no_end (ends_reply (msg.Resume t) (msg.Input bytes)) q e)
goes_within t p q (msg.Word value) e = absurd (no_end (ends_reply (msg.Resume t) (msg.Word value)) q e)
goes_within t p q msg.Done e = absurd (no_end (ends_reply (msg.Resume t) msg.Done) q e)
goes_within t p q msg.Outside e = absurd (no_end (ends_reply (msg.Resume t) msg.Outside) q e)
goes_within t p q (msg.Stopped why pc) e = absurd (no_end (ends_reply (msg.Resume t) (msg.Stopped why pc)) q e)
goes_within t p q (msg.Exited status) e = absurd (no_end (ends_reply (msg.Resume t) (msg.Exited status)) q e)
goes_within t p q (msg.Faulted kind pc) e = absurd (no_end (ends_reply (msg.Resume t) (msg.Faulted kind pc)) q e)
goes_within t p q msg.Turns e = absurd (no_end (ends_reply (msg.Resume t) msg.Turns) q e)
goes_within t p q msg.Stack e = absurd (no_end (ends_reply (msg.Resume t) msg.Stack) q e)

pub begins_none : {S : Type 0} (took : S → List ℕ → ℕ → S → Type 0) (gave : S → ℕ → List ℕ → S → Type 0) (turns : ℕ) (bytes : List ℕ) (s u : S) (f : TalkFault) → bytes ≡ frame_of (msg.Resume turns)
    → SendsAll took bytes s (Err f) u → BeginsBy took gave turns s (Err f) u
begins_none took gave turns bytes s u fault.LinkFault e h = tt
begins_none took gave turns bytes s u (fault.BadReply frame) e h =
    subst (λ (l : List ℕ). BadReply took gave (msg.Resume turns) s l u) (sym h.0) (takes_none (subst (λ (l : List ℕ). SendsNone took l s u) e h.1))
