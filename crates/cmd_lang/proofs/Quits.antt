-- What is no `quit`, and where a text is read.
use Rattle.std.proofs.Common.{◌≡◌, ◌≢◌, ℕ, Bool, true, false, cond, List, [], ◌∷◌, length, codes, Option, Some, None, refl, sym, ap, ◌∙◌, arith}
use Rattle.std.specs.Bool.{◌==◌}
use Rattle.std.specs.Option.{option_map}
use Rattle.std.specs.Str.{bytes_eq}
use Rattle.c_session.specs.declared.command.Command.TheVariants.{Break, Clear, Quit}
use Rattle.c_session.specs.declared.command.Spot.{Spot}
use Rattle.cmd_lang.specs.Commands.{with_word, with_text, read_words}
use Rattle.cmd_lang.specs.Places.{spot_of}
use Rattle.cmd_lang.specs.Words.{is_nothing, first_word, behind_word}

if_true : {A : Type 0} (t : Bool) (x y : A) → t ≡ true → cond t x y ≡ x
if_true t x y e = ap (λ s. cond s x y) e

if_false : {A : Type 0} (t : Bool) (x y : A) → t ≡ false → cond t x y ≡ y
if_false t x y e = ap (λ s. cond s x y) e

broken : (o : Option Spot) → option_map Break o ≢ Some Quit
broken None = λ e. grind arith
broken (Some spot) = λ e. grind arith

cleared : (o : Option Spot) → option_map Clear o ≢ Some Quit
cleared None = λ e. grind arith
cleared (Some spot) = λ e. grind arith

pub break_no_quit : (w a : List ℕ) → bytes_eq w (codes "print") ≡ false → bytes_eq w (codes "break") ≡ true → with_word w a ≢ Some Quit
break_no_quit w a no_print is_break = λ q. broken (spot_of a) (sym (if_false _ _ _ no_print ∙ if_true _ _ _ is_break) ∙ q)

pub clear_no_quit : (w a : List ℕ) → bytes_eq w (codes "print") ≡ false → bytes_eq w (codes "break") ≡ false → bytes_eq w (codes "clear") ≡ true → with_word w a ≢ Some Quit
clear_no_quit w a no_print no_break is_clear = λ q. cleared (spot_of a) (sym (if_false _ _ _ no_print ∙ if_false _ _ _ no_break ∙ if_true _ _ _ is_clear) ∙ q)

filled : (xs : List ℕ) → (length xs == 0) ≡ false → is_nothing xs ≡ false
filled [] e = e
filled (b ∷ rest) e = refl

pub text_of_words : (raw : Bool) (line word rest : List ℕ) → word ≡ first_word line → rest ≡ behind_word line → (length rest == 0) ≡ false → read_words raw line ≡ with_text raw word rest
text_of_words raw line word rest w r e = if_false _ _ _ (ap is_nothing (sym r) ∙ filled rest e) ∙ rw (w, r) refl
