-- Commands that are too many, line by line.
use Rattle.std.proofs.Common.{◌≡◌, ℕ, Bool, true, false, ◌&&◌, ◌||◌, not, List, [], ◌∷◌, Option, None, Some, Ok, Err, refl, sym, ap, ◌∙◌, subst, nat_le, codes, length, if◌then◌else◌}
use Rattle.std.proofs.lemmas.Bool.{false≢true}
use Rattle.std.specs.declared.result.Result.{Result}
use Rattle.std.specs.Prelude.{IfOk}
use Rattle.std.specs.List.{list_any}
use Rattle.std.specs.Option.{option_map}
use Rattle.std.specs.Str.{bytes_eq}
use Rattle.c_session.specs.declared.command.Command.{Command}
use Rattle.c_session.specs.declared.command.Command.TheVariants.{Break, Clear, Continue, Step, Turns, Frames, Frame, Print, Eval, Assign, Quit, Regs, Code, Ps}
use Rattle.c_session.specs.declared.command.Spot.{Spot}
use Rattle.cc_call.specs.declared.ended.Fault.{Fault}
use Rattle.cmd_lang.specs.Numbers.{number_of, limit_of}
use Rattle.cmd_lang.specs.Places.{spot_of}
use Rattle.cmd_lang.specs.Words.{is_nothing, without_blanks, first_word, behind_word, lone_word}
use Rattle.cmd_lang.specs.Commands.{with_word, with_lone, with_text, command_of, read_of, alone}
use Rattle.ldb_top.specs.Ahead.{Lines, line_and, lines_if}
use Rattle.ldb_top.specs.Late.{asks_quit, is_quit, LateAs, Follows}
use Rattle.ldb_top.specs.declared.serving.Next.{Next}
use Rattle.ldb_top.specs.declared.serving.Next.TheVariants as next

-- ---- `quit` is read the same where PostScript is taken

mapped_break : (o : Option Spot) → asks_quit (option_map Break o) ≡ false
mapped_break None = refl
mapped_break (Some x) = refl

mapped_clear : (o : Option Spot) → asks_quit (option_map Clear o) ≡ false
mapped_clear None = refl
mapped_clear (Some x) = refl

mapped_turns : (o : Option ℕ) → asks_quit (option_map Turns o) ≡ false
mapped_turns None = refl
mapped_turns (Some x) = refl

mapped_frame : (o : Option ℕ) → asks_quit (option_map Frame o) ≡ false
mapped_frame None = refl
mapped_frame (Some x) = refl

-- a test of which both answers ask for no end
neither : (b : Bool) (x y : Option Command) → asks_quit x ≡ false → asks_quit y ≡ false → asks_quit (if b then x else y) ≡ false
neither true x y p q = p
neither false x y p q = q

word_no_quit : (w a : List ℕ) → asks_quit (with_word w a) ≡ false
word_no_quit w a =
    neither (bytes_eq w (codes "print")) _ _ refl
    (neither (bytes_eq w (codes "break")) _ _ (mapped_break (spot_of a))
    (neither (bytes_eq w (codes "clear")) _ _ (mapped_clear (spot_of a))
    (neither (bytes_eq w (codes "turns")) _ _ (mapped_turns (limit_of a))
    (neither (bytes_eq w (codes "frame")) _ _ (mapped_frame (number_of a)) refl))))

lone_no_quit : (w : List ℕ) (o : Option (List ℕ)) → asks_quit (with_lone w o) ≡ false
lone_no_quit w None = refl
lone_no_quit w (Some a) = word_no_quit w a

text_no_quit : (raw : Bool) (w text : List ℕ) → asks_quit (with_text raw w text) ≡ false
text_no_quit raw w text =
    neither (bytes_eq w (codes "eval")) _ _ refl
    (neither (bytes_eq w (codes "assign")) _ _ refl
    (neither (bytes_eq w (codes "code")) _ _ refl
    (neither (raw && bytes_eq w (codes "ps")) _ _ refl (lone_no_quit w (lone_word text)))))

same_test : (b : Bool) (x y z : Option Command) → asks_quit y ≡ asks_quit z → asks_quit (if b then x else y) ≡ asks_quit (if b then x else z)
same_test true x y z e = refl
same_test false x y z e = e

same_front : (b : Bool) (x y : Option Command) → asks_quit x ≡ asks_quit y → asks_quit (if b then x else None) ≡ asks_quit (if b then y else None)
same_front true x y e = e
same_front false x y e = refl

pub same_quit : (raw : Bool) (line : List ℕ) → asks_quit (read_of raw line) ≡ is_quit line
same_quit raw line =
    let text = without_blanks line in
    let w = first_word text in
    let rest = behind_word text in
    same_front (nat_le (length line) 1000) (command_of raw w rest) (command_of false w rest)
    (same_test (is_nothing rest) (alone w) (with_text raw w rest) (with_text false w rest) (text_no_quit raw w rest ∙ sym (text_no_quit false w rest)))

pub quits : (raw : Bool) (line : List ℕ) → read_of raw line ≡ Some Quit → is_quit line ≡ true
quits raw line e = sym (same_quit raw line) ∙ ap asks_quit e

-- a line that is `quit` is read so
quit_alone_is : (o : Option Command) → asks_quit o ≡ true → o ≡ Some Quit
quit_alone_is None e = absurd (false≢true e)
quit_alone_is (Some Quit) e = refl
quit_alone_is (Some (Break x)) e = absurd (false≢true e)
quit_alone_is (Some (Clear x)) e = absurd (false≢true e)
quit_alone_is (Some Continue) e = absurd (false≢true e)
quit_alone_is (Some Step) e = absurd (false≢true e)
quit_alone_is (Some (Turns x)) e = absurd (false≢true e)
quit_alone_is (Some Frames) e = absurd (false≢true e)
quit_alone_is (Some (Frame x)) e = absurd (false≢true e)
quit_alone_is (Some (Print x)) e = absurd (false≢true e)
quit_alone_is (Some (Eval x)) e = absurd (false≢true e)
quit_alone_is (Some (Assign x)) e = absurd (false≢true e)
quit_alone_is (Some Regs) e = absurd (false≢true e)
quit_alone_is (Some (Code x)) e = absurd (false≢true e)
quit_alone_is (Some (Ps x)) e = absurd (false≢true e)

pub quit_read : (raw : Bool) (line : List ℕ) → is_quit line ≡ true → read_of raw line ≡ Some Quit
quit_read raw line e = quit_alone_is (read_of raw line) (same_quit raw line ∙ e)

-- ---- one line, answered

not_quit : (b : Bool) → (b ≡ true → ⊥) → b ≡ false
not_quit true n = absurd (n refl)
not_quit false n = refl

-- behind a reply
pub follows_reply : (line : List ℕ) (r : Result Next Fault) → (is_quit line ≡ true → ⊥) → IfOk r (λ x. x ≡ next.Line) → IfOk r (Follows line)
follows_reply line (Ok x) n e = subst (Follows line) (sym e) (not_quit (is_quit line) n)
follows_reply line (Err f) n e = tt

-- ---- one line after another

pub late_on : (line : List ℕ) (before after : Option Lines) → before ≡ line_and line after → is_quit line ≡ false → (late : Bool) → LateAs late after → LateAs late before
late_on line before None e q late l = subst (LateAs late) (sym e) tt
late_on line before (Some (lines, cut)) e q late l = subst (LateAs late) (sym e) (ap (λ b. cut && not (b || list_any is_quit lines)) q ∙ l)

and_false : (b : Bool) → (b && false) ≡ false
and_false true = refl
and_false false = refl

pub late_quit : (line : List ℕ) (before after : Option Lines) → before ≡ line_and line after → is_quit line ≡ true → LateAs false before
late_quit line before None e q = subst (LateAs false) (sym e) tt
late_quit line before (Some (lines, cut)) e q = subst (LateAs false) (sym e) (ap (λ b. cut && not (b || list_any is_quit lines)) q ∙ and_false cut)

pub late_last : (line : List ℕ) (before : Option Lines) (left : Option (List ℕ)) → before ≡ lines_if left (line ∷ [], false) → LateAs false before
late_last line before None e = subst (LateAs false) (sym e) tt
late_last line before (Some bytes) e = subst (LateAs false) (sym e) refl

pub late_cut : (before : Option Lines) (left : Option (List ℕ)) → before ≡ lines_if left ([], true) → LateAs true before
late_cut before None e = subst (LateAs true) (sym e) tt
late_cut before (Some bytes) e = subst (LateAs true) (sym e) refl
