-- What a session makes of a line, by its contract.
use Rattle.std.proofs.Common.{◌≡◌, ◌⊎◌, ℕ, Bool, true, false, if◌then◌else◌, List, [], ◌∷◌, ◌++◌, length, codes, nat_le, Option, None, Some, Ok, Err, inl, inr, refl, sym, ap, ◌∙◌, subst, append_assoc, append-nil, arith}
use Rattle.std.specs.declared.result.Result.{Result}
use Rattle.std.specs.Prelude.{◌≢◌}
use Rattle.c_session.specs.declared.command.Command.{Command}
use Rattle.c_session.specs.declared.command.Command.TheVariants.{Break, Clear, Continue, Step, Turns, Frames, Frame, Print, Eval, Assign, Quit, Regs, Code, Ps}
use Rattle.c_session.specs.Commands.{Refusal, HasEnded, refusal_text}
use Rattle.cmd_lang.specs.Words.{is_empty, is_nothing, without_blanks}
use Rattle.cmd_lang.specs.Commands.{read_of, read_words}
use Rattle.ldb_edge.specs.Count.{Rose}
use Rattle.ldb_edge.specs.Known.{known_and}
use Rattle.nub_wire.specs.Delivery.{World}
use Rattle.near_link.specs.Near.{near_conduct}
use Rattle.targets.specs.Targets.{machine_behaviour}
use Rattle.claims.specs.Side.{SessionState, Ended}
use Rattle.asking_meaning.specs.Meant.{joined}
use Rattle.claims.specs.Lines.{Reply}
use Rattle.claims.specs.Outcome.{Answers, refused_by_state}
use Rattle.session.specs.declared.answers.Answer.{Answer}
use Rattle.session.specs.declared.answers.Answer.TheVariants as answer
use Rattle.session.specs.declared.answers.End.{End}
use Rattle.session.specs.declared.answers.End.TheVariants as end
use Rattle.session.specs.declared.conversation.Session.{Session}
use Rattle.session.specs.declared.modes.Mode.{Mode}
use Rattle.session.specs.declared.modes.Mode.TheVariants as mode
use Rattle.session.specs.Answered.{state_of, refusal_reply}
use Rattle.session.specs.Answered.{Answers as Replied}
use Rattle.session.specs.Kept.{KeepsMode}
use Rattle.session.specs.Meant.{Hosts, Represents, PutInPart, AnswersAs, MeantAnswers, IsSaidIfAny}
use Rattle.session.specs.Wanting.{LeavesIfAny, LeavesTarget, RepresentsAgain, WithSides}
use Rattle.ldb_top.specs.Conversed.{asks_sides, refused_in, reply_of, IsPassed, IsNext}
use Rattle.ldb_top.specs.Conversing.{IsOver, IsReply, IsAnswered, IsEnd, IsUnwritten, IsAnswer}
use Rattle.ldb_top.specs.Late.{asks_quit}
use Rattle.ldb_top.specs.Said.{IsFront}
use Rattle.ldb_top.proofs.Growing.{nothing_front, whole_front}

-- ---- by what a line is

-- a command of which the session's contract doesn't tell what it says, by what is used of it
record IsUntold (c : Option Command) : Type 0 where
  command : Command
  is : c ≡ Some command
  unlike : (command ≢ Continue) × (command ≢ Step)
  refused : refused_by_state Ended command ≡ Some HasEnded
  asks : asks_sides c ≡ true
  leaves : (text : List ℕ) → LeavesTarget c (Ok (answer.Lines text))

-- whether it tells what a line means
said_or_not : (c : Option Command) → IsSaidIfAny c ⊎ IsUntold c
said_or_not None = inl tt
said_or_not (Some (Break x)) = inl tt
said_or_not (Some (Clear x)) = inl tt
said_or_not (Some Continue) = inl tt
said_or_not (Some Step) = inl tt
said_or_not (Some (Turns x)) = inl tt
said_or_not (Some Frames) = inl tt
said_or_not (Some (Frame x)) = inl tt
said_or_not (Some (Print x)) = inl tt
said_or_not (Some (Eval x)) = inr (record { command = Eval x; is = refl; unlike = (λ e. cc, λ e. cc); refused = refl; asks = refl; leaves = λ text. tt })
said_or_not (Some (Assign x)) = inr (record { command = Assign x; is = refl; unlike = (λ e. cc, λ e. cc); refused = refl; asks = refl; leaves = λ text. tt })
said_or_not (Some Quit) = inl tt
said_or_not (Some Regs) = inl tt
said_or_not (Some (Code x)) = inr (record { command = Code x; is = refl; unlike = (λ e. cc, λ e. cc); refused = refl; asks = refl; leaves = λ text. tt })
said_or_not (Some (Ps x)) = inl tt

-- a line that asks none
abbrev AsksNone : Option Command → Type 0
AsksNone c = (c ≡ None) ⊎ ((c ≡ Some Quit) ⊎ ((n : ℕ) × (c ≡ Some (Turns n))))

asks_or_not : (c : Option Command) → (asks_sides c ≡ true) ⊎ AsksNone c
asks_or_not None = inr (inl refl)
asks_or_not (Some (Break x)) = inl refl
asks_or_not (Some (Clear x)) = inl refl
asks_or_not (Some Continue) = inl refl
asks_or_not (Some Step) = inl refl
asks_or_not (Some (Turns x)) = inr (inr (inr (x, refl)))
asks_or_not (Some Frames) = inl refl
asks_or_not (Some (Frame x)) = inl refl
asks_or_not (Some (Print x)) = inl refl
asks_or_not (Some (Eval x)) = inl refl
asks_or_not (Some (Assign x)) = inl refl
asks_or_not (Some Quit) = inr (inr (inl refl))
asks_or_not (Some Regs) = inl refl
asks_or_not (Some (Code x)) = inl refl
asks_or_not (Some (Ps x)) = inl refl

-- ---- what a session says of a line

none_rose : Rose 0 0 → ⊥
none_rose r = omega (arith, r.higher)

-- a session stands for this machine session
abbrev Stands : Session World → Hosts → SessionState → Type 0
Stands s hs st = Represents machine_behaviour near_conduct (Some s.talk.memory.below.below.below.link) s.first s.second s.mode s.limit hs st

-- what a session's contract says of its answer to a line, by what the output held before and behind it
pub record Says (s s' : Session World) (line : List ℕ) (st : SessionState) (old new : Option (List ℕ)) (r : Result Answer End) : Type 0 where
  pub blank : is_empty line ≡ true → r ≡ Ok (answer.Lines [])
  pub quits : r ≡ Err end.Quit → read_of s.raw line ≡ Some Quit
  pub quit : read_of s.raw line ≡ Some Quit → r ≡ Err end.Quit
  pub malformed : read_of s.raw line ≡ None → (s' ≡ s) × (new ≡ old)
  pub turned : (n : ℕ) → read_of s.raw line ≡ Some (Turns n) → refused_by_state (state_of s.mode) (Turns n) ≡ None → r ≡ Ok answer.NoMemory → s' ≡ s
  pub refused : (k : Command) (u : Refusal) → read_of s.raw line ≡ Some k → refused_by_state (state_of s.mode) k ≡ Some u → Replied (refusal_reply u) r × (s' ≡ s) × (new ≡ old)
  pub wanting : r ≡ Ok answer.NoMemory → (s'.mode ≡ s.mode) × (new ≡ old)
  pub asked : (k : Command) → read_of s.raw line ≡ Some k → k ≢ Continue → k ≢ Step → (new ≡ old) × KeepsMode s.mode s'.mode s.broken r
  pub failed : r ≡ Err end.OutFault → s'.mode ≡ mode.Ended
  pub meant : (hs : Hosts) → Stands s hs st → is_empty line ≡ false → IsSaidIfAny (read_of s.raw line)
      → AnswersAs machine_behaviour near_conduct (Some s'.talk.memory.below.below.below.link) s'.first s'.second s'.mode s'.limit st old new (MeantAnswers machine_behaviour st (read_of s.raw line)) 0 0 s.broken r
  pub stays : (hs : Hosts) → Stands s hs st → LeavesTarget (read_of s.raw line) r → s'.mode ≡ s.mode
      → RepresentsAgain (LeavesIfAny (read_of s.raw line) r) machine_behaviour near_conduct (Some s'.talk.memory.below.below.below.link) s'.first s'.second s'.mode s'.limit st
  pub target : (hs : Hosts) (k : Command) → Stands s hs st → read_of s.raw line ≡ Some k → k ≢ Continue → k ≢ Step → (s'.mode ≡ s.mode) ⊎ Rose 0 0
  pub raw : s'.raw ≡ s.raw

-- ---- the machine session's answers to lines that change nothing

-- to a line that the state refuses
refused_answers : (st : SessionState) (c : Option Command) (u : Refusal) → refused_in st.state c ≡ Some u → Answers machine_behaviour st c (refusal_text u ∷ []) st
refused_answers st None u e = absurd (let w = e in cc)
refused_answers st (Some k) u e = rw e (inl (refl, refl))

-- where there is no memory to refuse a line, or to tell a new limit
abbrev wanting_reply : Reply
wanting_reply = codes "no memory" ∷ []

wanting_refused : (st : SessionState) (c : Option Command) (u : Refusal) → refused_in st.state c ≡ Some u → Answers machine_behaviour st c wanting_reply st
wanting_refused st None u e = absurd (let w = e in cc)
wanting_refused st (Some k) u e = rw e (inr (refl, refl))

wanting_turns : (st : SessionState) (n : ℕ) → refused_in st.state (Some (Turns n)) ≡ None → Answers machine_behaviour st (Some (Turns n)) wanting_reply st
wanting_turns st n e = rw e (inr (refl, refl))

-- of a line of blanks nothing is read
nothing_read : (raw : Bool) (bytes : List ℕ) → is_nothing bytes ≡ true → read_words raw bytes ≡ None
nothing_read raw [] e = refl
nothing_read raw (b ∷ bytes) e = absurd cc

either_none : (b : Bool) (o : Option Command) → o ≡ None → (if b then o else None) ≡ None
either_none true o e = e
either_none false o e = refl

pub blank_none : (raw : Bool) (line : List ℕ) → is_empty line ≡ true → read_of raw line ≡ None
blank_none raw line e = either_none (nat_le (length line) 1000) _ (nothing_read raw (without_blanks line) e)

-- ---- what a session makes of a line

-- a state that is kept has ended before, where the output failed
ended_before : (old new : Mode) (broken : List ℕ) (r : Result Answer End) → r ≡ Err end.OutFault → KeepsMode old new broken r → new ≡ mode.Ended → old ≡ mode.Ended
ended_before old new broken r is (inl same) e = sym same ∙ e
ended_before old new broken r is (inr off) e = absurd (let t = off.1 in cc)

module _ (st : SessionState) (s s' : Session World) (line : List ℕ) (old new : Option (List ℕ)) (r : Result Answer End) (over : IsOver s.raw s st) (held : old ≡ Some st.written) (h : Says s s' line st old new r) where
  abbrev c : Option Command
  c = read_of s.raw line

  abbrev Is : Answer → Type 0
  Is a = IsAnswered s.raw st line s' new a

  -- a line that isn't blank
  is_next : (a : Answer) (after : SessionState) (hs : Hosts) → is_empty line ≡ false → Stands s' hs after → IsNext IsPassed machine_behaviour st c (reply_of a) after → new ≡ Some after.written → IsFront st.written after.written → Is a
  is_next a after hs full stands is put behind = record {
    session = after;
    over = record { hosts = hs; represents = stands; raw_is = h.raw };
    is_reply = subst (λ b. IsReply b st c (reply_of a) after) (sym full) is;
    put = put;
    behind = behind;
  }

  -- nothing changed
  same_over : s' ≡ s → IsOver s.raw s' st
  same_over same = subst (λ (x : Session World). IsOver s.raw x st) (sym same) over

  blank_is : (a : Answer) → is_empty line ≡ true → r ≡ Ok a → Is a
  blank_is a e is =
      let stays = h.malformed (blank_none s.raw line e) in
      let none : a ≡ answer.Lines [] = cc (is, h.blank e) in
      record {
        session = st;
        over = same_over stays.0;
        is_reply = subst (λ b. IsReply b st c (reply_of a) st) (sym e) (ap reply_of none, refl);
        put = stays.1 ∙ held;
        behind = whole_front st.written;
      }

  stays_is : (a : Answer) (reply : Reply) → is_empty line ≡ false → s' ≡ s → new ≡ old → Answers machine_behaviour st c reply st → reply_of a ≡ joined reply → Is a
  stays_is a reply full same kept answers is =
      let o = same_over same in
      is_next a st o.hosts full o.represents (inl (reply, answers, is)) (kept ∙ held) (whole_front st.written)

  -- a line that the state refuses, by what it is
  refuses : (k : Option Command) (u : Refusal) → c ≡ k → refused_in st.state k ≡ Some u → Replied (refusal_reply u) r × (s' ≡ s) × (new ≡ old)
  refuses None u e why = absurd (let w = why in cc)
  refuses (Some k) u e why = h.refused k u e (subst (λ x. refused_by_state x k ≡ Some u) over.represents.state why)

  refused_is : (a : Answer) (u : Refusal) → is_empty line ≡ false → r ≡ Ok a → refused_in st.state c ≡ Some u → Is a
  refused_is (answer.Lines text) u full is why =
      let f = refuses c u refl why in
      stays_is (answer.Lines text) (refusal_text u ∷ []) full f.1 f.2 (refused_answers st c u why) (subst (Replied (refusal_reply u)) is f.0 ∙ sym (append-nil (refusal_reply u)))
  refused_is answer.NoMemory u full is why = (let f = refuses c u refl why in stays_is answer.NoMemory wanting_reply full f.1 f.2 (wanting_refused st c u why) refl)

  -- a line that is passed
  passed_is : (a : Answer) → is_empty line ≡ false → r ≡ Ok a → asks_sides c ≡ true → refused_in st.state c ≡ None → LeavesTarget c (Ok a) → s'.mode ≡ s.mode → new ≡ old → Is a
  passed_is a full is asks why leaves same kept =
      let again = h.stays over.hosts over.represents (subst (LeavesTarget c) (sym is) leaves) same in
      let written : st.written ≡ again.after.written = sym (ap (λ (x : SessionState). x.written) again.changed.same) in
      is_next a again.after again.hosts full again.represents
      (inr (record { answer = a; passes = leaves; asks = asks; unrefused = why; reply_is = refl; leaves = subst (λ x. WithSides (LeavesIfAny c x) st again.after) is again.changed }))
      (kept ∙ held ∙ ap Some written) (subst (IsFront st.written) written (whole_front st.written))

  -- a command of which it isn't told what it says, by whether the state refuses it
  untold_is : (text : List ℕ) (why : Option Refusal) → refused_in st.state c ≡ why → is_empty line ≡ false → r ≡ Ok (answer.Lines text) → IsUntold c → Is (answer.Lines text)
  untold_is text (Some u) e full is u' = refused_is (answer.Lines text) u full is e
  untold_is text None e full is u =
      let kept : s'.mode ≡ s.mode = elim (h.target over.hosts u.command over.represents u.is u.unlike.0 u.unlike.1) [ inl same ↦ same | inr rose ↦ absurd (none_rose rose) ] in
      passed_is (answer.Lines text) full is u.asks e (u.leaves text) kept (h.asked u.command u.is u.unlike.0 u.unlike.1).0

  lines_is : (text : List ℕ) → is_empty line ≡ false → r ≡ Ok (answer.Lines text) → IsSaidIfAny c ⊎ IsUntold c → Is (answer.Lines text)
  lines_is text full is (inl said) =
      elim (subst (λ x. AnswersAs machine_behaviour near_conduct (Some s'.talk.memory.below.below.below.link) s'.first s'.second s'.mode s'.limit st old new (MeantAnswers machine_behaviour st c) 0 0 s.broken x) is (h.meant over.hosts over.represents full said)) [
        | inl off ↦ absurd (none_rose off.0)
        | inr a ↦ is_next (answer.Lines text) a.after a.hosts full a.represents (inl (a.reply, a.says, a.text_is)) (a.put ∙ ap (λ k. known_and k a.output) held ∙ ap Some (sym a.written)) (record { rest = a.output; is = a.written })
      ]
  lines_is text full is (inr untold) = untold_is text (refused_in st.state c) refl full is untold

  -- that there was no memory, by what the line is
  settled : (k : Option Command) → c ≡ k → AsksNone k → refused_in st.state k ≡ None → r ≡ Ok answer.NoMemory → (s' ≡ s) × Answers machine_behaviour st k wanting_reply st
  settled k e (inl none) why is = ((h.malformed (e ∙ none)).0, subst (λ (x : Option Command). Answers machine_behaviour st x wanting_reply st) (sym none) (inr (refl, refl)))
  settled k e (inr (inl quit)) why is = absurd (let q : r ≡ Err end.Quit = h.quit (e ∙ quit) in cc)
  settled k e (inr (inr turns)) why is =
      let unrefused : refused_in st.state (Some (Turns turns.0)) ≡ None = subst (λ x. refused_in st.state x ≡ None) turns.1 why in
      (h.turned turns.0 (e ∙ turns.1) (subst (λ x. refused_by_state x (Turns turns.0) ≡ None) over.represents.state unrefused) is, subst (λ (x : Option Command). Answers machine_behaviour st x wanting_reply st) (sym turns.1) (wanting_turns st turns.0 unrefused))

  wanting_is : (why : Option Refusal) → refused_in st.state c ≡ why → is_empty line ≡ false → r ≡ Ok answer.NoMemory → (asks_sides c ≡ true) ⊎ AsksNone c → Is answer.NoMemory
  wanting_is (Some u) e full is asks = refused_is answer.NoMemory u full is e
  wanting_is None e full is (inl asks) = (let w = h.wanting is in passed_is answer.NoMemory full is asks e tt w.0 w.1)
  wanting_is None e full is (inr none) = (let stays = settled c refl none e is in stays_is answer.NoMemory wanting_reply full stays.0 (h.wanting is).1 stays.1 refl)

  answer_is : (a : Answer) (b : Bool) → is_empty line ≡ b → r ≡ Ok a → Is a
  answer_is a true e is = blank_is a e is
  answer_is (answer.Lines text) false e is = lines_is text e is (said_or_not c)
  answer_is answer.NoMemory false e is = wanting_is (refused_in st.state c) refl e is (asks_or_not c)

  -- an end isn't the answer to a line of blanks
  full_line : (why : End) (b : Bool) → is_empty line ≡ b → r ≡ Err why → is_empty line ≡ false
  full_line why true e is = absurd (let l = h.blank e in cc)
  full_line why false e is = e

  quit_is : r ≡ Err end.Quit → IsEnd s.raw st line new
  quit_is is =
      let q = h.quits is in
      record { full = full_line end.Quit (is_empty line) refl is; quits = ap asks_quit q; put = (h.asked Quit q (λ e. cc) (λ e. cc)).0 ∙ held }

  -- where the output failed
  fault_is : is_empty line ≡ false → r ≡ Err end.OutFault → IsSaidIfAny c ⊎ IsUntold c → IsUnwritten s.raw st line new
  fault_is full is (inl said) =
      let a : PutInPart st old new (MeantAnswers machine_behaviour st c) =
      subst (λ x. AnswersAs machine_behaviour near_conduct (Some s'.talk.memory.below.below.below.link) s'.first s'.second s'.mode s'.limit st old new (MeantAnswers machine_behaviour st c) 0 0 s.broken x) is (h.meant over.hosts over.represents full said) in
      let f = a.front in
      record {
        full = full;
        bytes = st.written ++ f.front;
        put = f.taken ∙ ap (λ k. known_and k f.front) held;
        part = record {
          unwritten = refl;
          reply = joined a.reply;
          next = a.after;
          is_next = inl (a.reply, a.says, refl);
          told_front = nothing_front (joined a.reply);
          put_front = record { rest = f.back; is = a.written ∙ ap (λ z. st.written ++ z) (sym f.whole) ∙ sym (append_assoc st.written f.front f.back) };
          behind = record { rest = f.front; is = refl };
          output_first = inl refl;
        };
      }
  fault_is full is (inr u) =
      let ended = ended_before s.mode s'.mode s.broken r is (h.asked u.command u.is u.unlike.0 u.unlike.1).1 (h.failed is) in
      absurd (subst (Replied (refusal_reply HasEnded)) is (h.refused u.command HasEnded u.is (ap (λ m. refused_by_state (state_of m) u.command) ended ∙ u.refused)).0)

  own_answer : (v : Result Answer End) → r ≡ v → IsAnswer s.raw st line s' new v
  own_answer (Ok a) is = answer_is a (is_empty line) refl is
  own_answer (Err end.Quit) is = quit_is is
  own_answer (Err end.OutFault) is = fault_is (full_line end.OutFault (is_empty line) refl is) is (said_or_not c)

-- with what is held behind it
pub line_answer : (raw : Bool) (st : SessionState) (s s' : Session World) (line : List ℕ) (old new out : Option (List ℕ)) (r : Result Answer End) → out ≡ new → IsOver raw s st → old ≡ Some st.written → Says s s' line st old new r → IsAnswer raw st line s' out r
line_answer raw st s s' line old new out r same over held h =
    subst (λ o. IsAnswer raw st line s' o r) (sym same) (subst (λ x. IsOver x s st → IsAnswer x st line s' new r) over.raw_is (λ own. own_answer st s s' line old new r own held h r refl) over)
