-- Sessions, line by line.
use Rattle.std.proofs.Common.{◌≡◌, ℕ, Bool, true, false, if◌then◌else◌, List, [], ◌∷◌, ◌++◌, Option, None, Some, Ok, Err, inl, inr, refl, sym, ap, ◌∙◌, subst, append_assoc, append-nil}
use Rattle.std.specs.declared.result.Result.{Result}
use Rattle.std.specs.Prelude.{IfOk, OnOk}
use Rattle.c_session.specs.declared.command.Command.{Command}
use Rattle.cmd_lang.specs.Words.{is_empty}
use Rattle.cmd_lang.specs.Commands.{read_of}
use Rattle.ldb_edge.specs.Known.{known_and}
use Rattle.cc_call.specs.declared.ended.Fault.{Fault}
use Rattle.nub_wire.specs.Delivery.{World}
use Rattle.targets.specs.Targets.{machine_behaviour}
use Rattle.claims.specs.Side.{SessionState}
use Rattle.session.specs.declared.answers.Answer.{Answer}
use Rattle.session.specs.declared.conversation.Session.{Session}
use Rattle.ldb_top.specs.declared.serving.Next.{Next}
use Rattle.ldb_top.specs.declared.serving.Next.TheVariants as next
use Rattle.ldb_top.specs.Ahead.{Lines, line_and, lines_if}
use Rattle.ldb_top.specs.Conversed.{commands_in, reply_of, IsNext, IsPassed, Converses, Told}
use Rattle.ldb_top.specs.Fronts.{BreaksOff}
use Rattle.ldb_top.specs.Conversing.{IsOver, IsReply, IsAnswered, IsEnd, Here, here, IsSo, IsSoFar, NextIsSo}

-- ---- which lines have a reply

blank_line : (raw : Bool) (line : List ℕ) (ls : List (List ℕ)) → is_empty line ≡ true → commands_in raw (line ∷ ls) ≡ commands_in raw ls
blank_line raw line ls e = ap (λ b. if b then commands_in raw ls else read_of raw line ∷ commands_in raw ls) e

pub read_line : (raw : Bool) (line : List ℕ) (ls : List (List ℕ)) → is_empty line ≡ false → commands_in raw (line ∷ ls) ≡ read_of raw line ∷ commands_in raw ls
read_line raw line ls e = ap (λ b. if b then commands_in raw ls else read_of raw line ∷ commands_in raw ls) e

-- ---- what comes behind a line

module _ (R : SessionState → List (Option Command) → (transcript output : List ℕ) → Type 0) where
  -- from there on it is so, as a conversation or as one that was broken off
  abbrev pub IsSoBy : (raw : Bool) → SessionState → Here → (taken out : Option (List ℕ)) → Type 0
  IsSoBy raw st at taken out = (ls : Lines) (before : List ℕ) → at.lines ≡ Some ls → at.taken ≡ Some before → Told before taken out (R st (commands_in raw ls.0))

  -- Behind a line it is so, if it is with the line in front whenever it is told what was said so far.
  pub front_so : (raw : Bool) (st : SessionState) (line : List ℕ) (lines : Option Lines) (taken out t o : Option (List ℕ))
      → ((ls : Lines) (before : List ℕ) → lines ≡ Some ls → taken ≡ Some before → Told before t o (R st (commands_in raw (line ∷ ls.0)))) → IsSoBy raw st (here (line_and line lines) taken out) t o
  front_so raw st line None taken out t o f ls before e told = absurd cc
  front_so raw st line (Some (rest, cut)) taken out t o f ls before e told =
      let same : (line ∷ rest, cut) ≡ ls = cc in
      subst (λ (x : Lines). Told before t o (R st (commands_in raw x.0))) same (f (rest, cut) before refl told)

  -- with a line in front, where this is so of one that has a reply
  line_on : (raw : Bool) (st after : SessionState) (line : List ℕ) (ls : List (List ℕ)) (text rest output : List ℕ) (b : Bool) → ((c : Option Command) (cs : List (Option Command)) → IsNext IsPassed machine_behaviour st c text after → R after cs rest output → R st (c ∷ cs) (text ++ rest) output)
      → is_empty line ≡ b → IsReply (is_empty line) st (read_of raw line) text after → R after (commands_in raw ls) rest output → R st (commands_in raw (line ∷ ls)) (text ++ rest) output
  line_on raw st after line ls text rest output true step e is so =
      let nothing = subst (λ b. IsReply b st (read_of raw line) text after) e is in
      subst (λ (cs : List (Option Command)). R st cs (text ++ rest) output) (sym (blank_line raw line ls e))
      (subst (λ (x : SessionState). R x (commands_in raw ls) (text ++ rest) output) nothing.1 (subst (λ t. R after (commands_in raw ls) (t ++ rest) output) (sym nothing.0) so))
  line_on raw st after line ls text rest output false step e is so =
      subst (λ (cs : List (Option Command)). R st cs (text ++ rest) output) (sym (read_line raw line ls e)) (step (read_of raw line) (commands_in raw ls) (subst (λ b. IsReply b st (read_of raw line) text after) e is) so)

  -- what was told in front of the rest
  front_told : (raw : Bool) (st after : SessionState) (line : List ℕ) (lines : Option Lines) (taken taken' out out' t o : Option (List ℕ)) (text : List ℕ) → taken' ≡ known_and taken text
      → ((ls : List (List ℕ)) (rest output : List ℕ) → R after (commands_in raw ls) rest output → R st (commands_in raw (line ∷ ls)) (text ++ rest) output)
      → IsSoBy raw after (here lines taken' out') t o → IsSoBy raw st (here (line_and line lines) taken out) t o
  front_told raw st after line lines taken taken' out out' t o text told step so =
      front_so raw st line lines taken out t o (λ ls before e known.
      let behind : Told (before ++ text) t o (R after (commands_in raw ls.0)) = so ls (before ++ text) e (told ∙ ap (λ k. known_and k text) known) in
      record {
        transcript = text ++ behind.transcript;
        output = behind.output;
        taken_is = behind.taken_is ∙ ap Some (append_assoc before text behind.transcript);
        out_is = behind.out_is;
        so = step ls.0 behind.transcript behind.output behind.so;
      })

-- behind an answer
pub answered_so : (raw : Bool) (st : SessionState) (s' : Session World) (line : List ℕ) (lines : Option Lines) (taken taken' out out' : Option (List ℕ)) (a : Answer) → IsAnswered raw st line s' out' a → taken' ≡ known_and taken (reply_of a)
    → IsSoFar raw st (here (line_and line lines) taken out) s' (here lines taken' out')
answered_so raw st s' line lines taken taken' out out' a is told = record {
  session = is.session;
  over = is.over;
  put = is.put;
  on = λ t o so. front_told Converses raw st is.session line lines taken taken' out out' t o (reply_of a) told (λ ls rest output c.
      line_on Converses raw st is.session line ls (reply_of a) rest output (is_empty line) (λ k cs n d. inr (reply_of a, rest, is.session, n, refl, d)) refl is.is_reply c) so;
  part = λ f t o so. front_told (BreaksOff f) raw st is.session line lines taken taken' out out' t o (reply_of a) told (λ ls rest output c.
      line_on (BreaksOff f) raw st is.session line ls (reply_of a) rest output (is_empty line) (λ k cs n d. inr (inr (reply_of a, rest, is.session, n, refl, d))) refl is.is_reply c) so;
}

-- `quit`
pub quit_so : (raw : Bool) (st : SessionState) (line : List ℕ) (lines : Option Lines) (taken out out' : Option (List ℕ)) → IsEnd raw st line out' → IsSo raw st (here (line_and line lines) taken out) taken out'
quit_so raw st line lines taken out out' end =
    front_so Converses raw st line lines taken out taken out' (λ ls before e known. record {
      transcript = [];
      output = st.written;
      taken_is = known ∙ ap Some (sym (append-nil before));
      out_is = end.put;
      so = subst (λ (cs : List (Option Command)). Converses st cs [] st.written) (sym (read_line raw line ls.0 end.full)) (inl (end.quits, refl, refl));
    })

-- where a reply was written
pub if_line : (raw : Bool) (st : SessionState) (start : Here) (s : Session World) (now : Here) (text : List ℕ) (taken taken' : Option (List ℕ)) (r : Result Next Fault) → IfOk r (λ n. n ≡ next.Line) → OnOk r (taken' ≡ known_and taken text)
    → (taken' ≡ known_and taken text → IsSoFar raw st start s now) → IfOk r (NextIsSo raw st start s now)
if_line raw st start s now text taken taken' (Ok n) e told g = subst (NextIsSo raw st start s now) (sym e) (g told)
if_line raw st start s now text taken taken' (Err f) e told g = tt

-- ---- one line after another

-- no line is left
pub none_so : (raw : Bool) (st : SessionState) (left : Option (List ℕ)) (cut : Bool) (taken out out' : Option (List ℕ)) → out' ≡ Some st.written → IsSo raw st (here (lines_if left ([], cut)) taken out) taken out'
none_so raw st None cut taken out out' put ls before e known = absurd cc
none_so raw st (Some bytes) cut taken out out' put ls before e known =
    let same : ([], cut) ≡ ls = cc in
    subst (λ (x : Lines). Told before taken out' (Converses st (commands_in raw x.0))) same (record { transcript = []; output = st.written; taken_is = known ∙ ap Some (sym (append-nil before)); out_is = put; so = (refl, refl) })

-- behind the last line
last_so : (raw : Bool) (st : SessionState) (start : Here) (s : Session World) (left taken out : Option (List ℕ)) (n : Next) → NextIsSo raw st start s (here (lines_if left ([], false)) taken out) n → IsSo raw st start taken out
last_so raw st start s left taken out next.Line g = g.on taken out (none_so raw g.session left false taken out out g.put)
last_so raw st start s left taken out next.End g = g
last_so raw st start s left taken out next.Late g = g

-- where the line in front was read from the source
pub whole_so : (raw : Bool) (st : SessionState) (s : Session World) (line line' : List ℕ) (before after : Option Lines) (taken out : Option (List ℕ)) (now : Here) (r : Result Next Fault) → IfOk r (NextIsSo raw st (here (line_and line' after) taken out) s now) → before ≡ line_and line after
    → line' ≡ line → IfOk r (NextIsSo raw st (here before taken out) s now)
whole_so raw st s line line' before after taken out now r so is same = subst (λ x. IfOk r (NextIsSo raw st (here x taken out) s now)) (ap (λ l. line_and l after) same ∙ sym is) so

pub line_alone : (line : List ℕ) (left : Option (List ℕ)) → line_and line (lines_if left ([], false)) ≡ lines_if left (line ∷ [], false)
line_alone line None = refl
line_alone line (Some bytes) = refl

pub ended_last : (raw : Bool) (st : SessionState) (s : Session World) (line line' : List ℕ) (before : Option Lines) (left taken out taken' out' : Option (List ℕ)) (n : Next)
    → NextIsSo raw st (here (line_and line' (lines_if left ([], false))) taken out) s (here (lines_if left ([], false)) taken' out') n → before ≡ lines_if left (line ∷ [], false) → line' ≡ line → IsSo raw st (here before taken out) taken' out'
ended_last raw st s line line' before left taken out taken' out' n so is same =
    subst (λ x. IsSo raw st (here x taken out) taken' out') (ap (λ l. line_and l (lines_if left ([], false))) same ∙ line_alone line left ∙ sym is) (last_so raw st _ s left taken' out' n so)

-- the next one
pub next_so : (raw : Bool) (st : SessionState) (start : Here) (s s' : Session World) (now behind : Here) (n : Next) → IsSoFar raw st start s now
    → ((between : SessionState) → IsOver raw s between → now.out ≡ Some between.written → NextIsSo raw between now s' behind n) → NextIsSo raw st start s' behind n
next_so raw st start s s' now behind next.Line g step =
    let h = step g.session g.over g.put in
    record { session = h.session; over = h.over; put = h.put; on = λ t o so. g.on t o (h.on t o so); part = λ f t o so. g.part f t o (h.part f t o so) }
next_so raw st start s s' now behind next.End g step = g.on behind.taken behind.out (step g.session g.over g.put)
next_so raw st start s s' now behind next.Late g step = g.on behind.taken behind.out (step g.session g.over g.put)
