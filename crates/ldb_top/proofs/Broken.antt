-- Sessions that a fault ended, line by line.
use Rattle.std.proofs.Common.{◌≡◌, ℕ, Bool, true, false, List, [], ◌∷◌, ◌++◌, take, Option, Some, Ok, Err, inl, inr, refl, sym, ap, ◌∙◌, subst, append-nil}
use Rattle.std.specs.declared.result.Result.{Result}
use Rattle.std.specs.Prelude.{OnErr, IfErr}
use Rattle.c_session.specs.declared.command.Command.{Command}
use Rattle.cmd_lang.specs.Words.{is_empty}
use Rattle.cmd_lang.specs.Commands.{read_of}
use Rattle.ldb_edge.specs.Known.{known_and}
use Rattle.cc_call.specs.declared.ended.Fault.{Fault}
use Rattle.cc_call.specs.declared.ended.Fault.TheVariants.{Write}
use Rattle.cc_call.specs.Faults.{TakesFront}
use Rattle.nub_wire.specs.Delivery.{World}
use Rattle.claims.specs.Side.{SessionState}
use Rattle.session.specs.declared.answers.Answer.{Answer}
use Rattle.session.specs.declared.conversation.Session.{Session}
use Rattle.ldb_top.specs.declared.serving.Next.{Next}
use Rattle.ldb_top.specs.Ahead.{Lines, line_and, lines_if}
use Rattle.ldb_top.specs.Conversed.{commands_in, reply_of}
use Rattle.ldb_top.specs.Conversing.{IsOver, IsReply, IsAnswered, IsUnwritten, Here, here, IsPart, IsSoFar}
use Rattle.ldb_top.specs.Fronts.{BreaksOff}
use Rattle.ldb_top.specs.Said.{IsFront}
use Rattle.ldb_top.proofs.Conversations.{read_line, front_so, line_alone}
use Rattle.ldb_top.proofs.Growing.{whole_front, take_front, known_nothing, front_none}

-- ---- conversations

-- before any line
before_lines : (fault : Fault) (st : SessionState) (cs : List (Option Command)) → BreaksOff fault st cs [] st.written
before_lines fault st [] = (refl, refl)
before_lines fault st (c ∷ cs) = inl (refl, refl)

pub here_part : (fault : Fault) (raw : Bool) (st : SessionState) (lines : Option Lines) (taken out taken' out' : Option (List ℕ)) → taken' ≡ taken → out' ≡ Some st.written → IsPart fault raw st (here lines taken out) taken' out'
here_part fault raw st lines taken out taken' out' same put ls before e known = record {
  transcript = [];
  output = st.written;
  taken_is = same ∙ known ∙ ap Some (sym (append-nil before));
  out_is = put;
  so = before_lines fault st (commands_in raw ls.0);
}

-- in a line that is not blank
line_part : (fault : Fault) (raw : Bool) (st : SessionState) (line : List ℕ) (lines : Option Lines) (taken out taken' out' : Option (List ℕ)) (told put : List ℕ) → is_empty line ≡ false → taken' ≡ known_and taken told → out' ≡ Some put
    → ((cs : List (Option Command)) → BreaksOff fault st (read_of raw line ∷ cs) told put) → IsPart fault raw st (here (line_and line lines) taken out) taken' out'
line_part fault raw st line lines taken out taken' out' told put full took out_is breaks_off =
    front_so (BreaksOff fault) raw st line lines taken out taken' out' (λ ls before e known. record {
      transcript = told;
      output = put;
      taken_is = took ∙ ap (λ k. known_and k told) known;
      out_is = out_is;
      so = subst (λ (cs : List (Option Command)). BreaksOff fault st cs told put) (sym (read_line raw line ls.0 full)) (breaks_off (commands_in raw ls.0));
    })

-- ---- one line

module _ (raw : Bool) (st : SessionState) (s : Session World) (line : List ℕ) (lines : Option Lines) (taken taken' out out' : Option (List ℕ)) where
  abbrev Part : Type 0
  Part = IsPart Write raw st (here (line_and line lines) taken out) taken' out'

  reply_either : (told : List ℕ) (a : Answer) (b : Bool) → is_empty line ≡ b → IsAnswered raw st line s out' a → IsFront told (reply_of a) → taken' ≡ known_and taken told → Part
  reply_either told a true e is front took =
      let nothing = subst (λ b. IsReply b st (read_of raw line) (reply_of a) is.session) e is.is_reply in
      here_part Write raw st (line_and line lines) taken out taken' out' (took ∙ ap (known_and taken) (front_none told (reply_of a) nothing.0 front) ∙ known_nothing taken) (is.put ∙ ap (λ (x : SessionState). Some x.written) nothing.1)
  reply_either told a false e is front took =
      line_part Write raw st line lines taken out taken' out' told is.session.written e took is.put (λ cs. inr (inl (record {
        unwritten = refl;
        reply = reply_of a;
        next = is.session;
        is_next = subst (λ b. IsReply b st (read_of raw line) (reply_of a) is.session) e is.is_reply;
        told_front = front;
        put_front = whole_front is.session.written;
        behind = is.behind;
        output_first = inr refl;
      })))

  -- a reply that was told in part
  pub reply_part : (n : ℕ) (a : Answer) → IsAnswered raw st line s out' a → taken' ≡ known_and taken (take n (reply_of a)) → Part
  reply_part n a is took = reply_either (take n (reply_of a)) a (is_empty line) refl is (take_front n (reply_of a)) took

  -- where the output failed
  pub fault_part : IsUnwritten raw st line out' → taken' ≡ taken → Part
  fault_part u took = line_part Write raw st line lines taken out taken' out' [] u.bytes u.full (took ∙ sym (known_nothing taken)) u.put (λ cs. inr (inl u.part))

-- where a reply was told in part
pub if_front : (r : Result Next Fault) (text : List ℕ) (taken taken' : Option (List ℕ)) (P : Fault → Type 0) → IfErr r (λ fault. fault ≡ Write) → OnErr r (TakesFront taken taken' text)
    → ((n : ℕ) → taken' ≡ known_and taken (take n text) → P Write) → IfErr r P
if_front (Ok n) text taken taken' P e f p = tt
if_front (Err x) text taken taken' P e f p = subst P (sym e) (p f.count f.front)

-- ---- one line after another

-- where the line in front was read from the source
pub whole_part : (raw : Bool) (st : SessionState) (line line' : List ℕ) (before after : Option Lines) (taken out t o : Option (List ℕ)) (r : Result Next Fault) → IfErr r (λ fault. IsPart fault raw st (here (line_and line' after) taken out) t o) → before ≡ line_and line after → line' ≡ line
    → IfErr r (λ fault. IsPart fault raw st (here before taken out) t o)
whole_part raw st line line' before after taken out t o r part is same = subst (λ x. IfErr r (λ fault. IsPart fault raw st (here x taken out) t o)) (ap (λ l. line_and l after) same ∙ sym is) part

-- and was the last one
pub last_part : (fault : Fault) (raw : Bool) (st : SessionState) (line line' : List ℕ) (before : Option Lines) (left taken out t o : Option (List ℕ)) → IsPart fault raw st (here (line_and line' (lines_if left ([], false))) taken out) t o → before ≡ lines_if left (line ∷ [], false) → line' ≡ line
    → IsPart fault raw st (here before taken out) t o
last_part fault raw st line line' before left taken out t o part is same =
    subst (λ x. IsPart fault raw st (here x taken out) t o) (ap (λ l. line_and l (lines_if left ([], false))) same ∙ line_alone line left ∙ sym is) part

-- the next one
pub next_part : (fault : Fault) (raw : Bool) (st : SessionState) (start : Here) (s : Session World) (now behind : Here) → IsSoFar raw st start s now
    → ((between : SessionState) → IsOver raw s between → now.out ≡ Some between.written → IsPart fault raw between now behind.taken behind.out) → IsPart fault raw st start behind.taken behind.out
next_part fault raw st start s now behind g step = g.part fault behind.taken behind.out (step g.session g.over g.put)
