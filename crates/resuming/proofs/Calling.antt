-- A resume message by message, by the calls of a link.
use Rattle.std.proofs.Common.{◌≡◌, ◌≢◌, ◌∙◌, refl, sym, ap, subst, ℕ, ◌+◌, ◌≤◌, nat_le, Bool, true, false, if◌then◌else◌, List, [], ◌++◌, length, Result, Ok, Err, arith, append-nil}
use Rattle.std.proofs.lemmas.Bool.Decides.{nat_tests}
use Rattle.nub_wire.specs.declared.message.Msg.{Msg}
use Rattle.nub_wire.specs.declared.message.Msg.TheVariants as msg
use Rattle.nub_wire.specs.declared.reply.Heard.TheVariants.{GoesOn, Bad}
use Rattle.nub_wire.specs.Spelling.{frame_of, MsgFits}
use Rattle.nub_wire.specs.Replies.{heard}
use Rattle.nub_wire.specs.Calls.{Owes, sent_whole, goes_on}
use Rattle.wire_talk.specs.Talk.{owing, HeardOn}
use Rattle.wire_talk.specs.Resuming.{Resuming, asked_by, after_heard, BeginsBy, NextCame}

-- ---- output

-- output goes on, with no more bytes than turns
pub record Goes (r r' : Resuming) (bytes : List ℕ) : Type 0 where
  pub turns : r'.turns ≡ r.turns
  pub printed : r'.printed ≡ r.printed + length bytes
  pub within : r.printed + length bytes ≤ r.turns
  pub is : heard (asked_by r) r.printed (msg.Output bytes) ≡ GoesOn r'.printed

goes_by : (r r' : Resuming) (bytes : List ℕ) (n : ℕ) (t : Bool) → n ≡ r.printed + length bytes → nat_le n r.turns ≡ t → (if t then GoesOn n else Bad) ≢ Bad
    → r' ≡ after_heard (if t then GoesOn n else Bad) r → heard (asked_by r) r.printed (msg.Output bytes) ≡ (if nat_le n r.turns then GoesOn n else Bad) → Goes r r' bytes
goes_by r r' bytes n true is e not_bad new h = record {
  turns = ap (λ (x : Resuming). x.turns) new;
  printed = ap (λ (x : Resuming). x.printed) new ∙ is;
  within = grind (arith, nat_tests);
  is = h ∙ ap (λ (t : Bool). if t then GoesOn n else Bad) e ∙ ap GoesOn (sym (ap (λ (x : Resuming). x.printed) new));
}
goes_by r r' bytes n false is e not_bad new h = absurd (not_bad refl)

pub output_goes : (r r' : Resuming) (bytes : List ℕ) → heard (asked_by r) r.printed (msg.Output bytes) ≢ Bad → r' ≡ after_heard (heard (asked_by r) r.printed (msg.Output bytes)) r → Goes r r' bytes
output_goes r r' bytes not_bad new =
    let n : ℕ = r.printed + length bytes in
    goes_by r r' bytes n (nat_le n r.turns) refl refl not_bad new refl

-- ---- by the calls

module _ {S : Type 0} (took : S → List ℕ → ℕ → S → Type 0) (gave : S → ℕ → List ℕ → S → Type 0) where
  pub owes_first : (turns : ℕ) (s u : S) (r : Resuming) → BeginsBy took gave turns s (Ok r) u → Owes took gave (msg.Resume turns) s (owing (msg.Resume turns) r.printed []) u
  owes_first turns s u r h = subst (λ (x : Resuming). Owes took gave (msg.Resume turns) s (owing (msg.Resume turns) x.printed []) u) (sym h.0) (sent_whole h.1)

  pub turns_stay : (turns : ℕ) (s u : S) (r r' : Resuming) (m : Msg) (bytes : List ℕ) → r.turns ≡ turns → m ≡ msg.Output bytes → NextCame took gave r s m r' u → r'.turns ≡ turns
  turns_stay turns s u r r' m bytes same is came =
      let not_bad = subst (λ (x : Msg). heard (asked_by r) r.printed x ≢ Bad) is came.is_reply in
      let new = subst (λ (x : Msg). r' ≡ after_heard (heard (asked_by r) r.printed x) r) is came.new_is in
      (output_goes r r' bytes not_bad new).turns ∙ same

  pub owes_more : (turns : ℕ) (v s u : S) (r r' : Resuming) (m : Msg) (bytes : List ℕ) → r.turns ≡ turns → m ≡ msg.Output bytes → MsgFits m → Owes took gave (msg.Resume turns) v (owing (msg.Resume turns) r.printed []) s
      → NextCame took gave r s m r' u → Owes took gave (msg.Resume turns) v (owing (msg.Resume turns) r'.printed []) u
  owes_more turns v s u r r' m bytes same is fits owes came =
      let not_bad = subst (λ (x : Msg). heard (asked_by r) r.printed x ≢ Bad) is came.is_reply in
      let new = subst (λ (x : Msg). r' ≡ after_heard (heard (asked_by r) r.printed x) r) is came.new_is in
      let g = output_goes r r' bytes not_bad new in
      let on : HeardOn took gave s (frame_of (msg.Output bytes)) u = subst (λ (x : Msg). HeardOn took gave s (frame_of x) u) is came.heard_on in
      let owed : Owes took gave (msg.Resume turns) v (owing (msg.Resume turns) r.printed (frame_of (msg.Output bytes) ++ [])) u =
      subst (λ (l : List ℕ). Owes took gave (msg.Resume turns) v (owing (msg.Resume turns) r.printed l) u) (sym (append-nil (frame_of (msg.Output bytes)))) (on.owes (msg.Resume turns) r.printed v owes) in
      let goes : heard (msg.Resume turns) r.printed (msg.Output bytes) ≡ GoesOn r'.printed = subst (λ (n : ℕ). heard (msg.Resume n) r.printed (msg.Output bytes) ≡ GoesOn r'.printed) same g.is in
      goes_on r.printed r'.printed (msg.Output bytes) [] owed (subst MsgFits is fits) goes
