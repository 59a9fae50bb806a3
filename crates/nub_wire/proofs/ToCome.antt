-- How many bytes are still to come of a frame.
use Rattle.std.proofs.Common.{◌≡◌, ◌≢◌, ◌∙◌, refl, sym, ap, ℕ, suc, ◌+◌, ◌-◌, ◌*◌, ◌/◌, ◌%◌, ◌≤◌, Bool, true, false, List, [], ◌∷◌, ◌++◌, length, slice_index, arith, length-append}
use Rattle.nub_wire.specs.declared.message.Msg.{Msg}
use Rattle.nub_wire.specs.declared.message.Msg.TheVariants as msg
use Rattle.nub_wire.specs.Spelling.{frame_of, body_of, MsgFits}
use Rattle.nub_wire.specs.Held.{IsFeeding}
use Rattle.nub_wire.specs.Feeding.{IsPartial, EndsNoSooner}
use Rattle.nub_wire.proofs.Streams.{append_nil, one_message_lem}
use Rattle.nub_wire.proofs.Pendings.{frame_some}
use Rattle.nub_wire.proofs.Quiet.{part_now}

-- the two bytes of a length
length_is : (h l : ℕ) (rest more : List ℕ) (m : Msg) → (h ∷ l ∷ rest) ++ more ≡ frame_of m → 2 + (256 * h + l) ≡ length (frame_of m)
unfolding frame_of
length_is h l rest more m e =
    let n : ℕ = length (body_of m) in
    let high : h ≡ n / 256 = cc in
    let low : l ≡ n % 256 = cc in
    let all : length (frame_of m) ≡ suc (suc n) = refl in
    omega (arith, high, low, all)

body_some : (m : Msg) → 1 ≤ length (body_of m)
body_some msg.Hello = omega arith
body_some (msg.Fetch address s) = omega arith
body_some (msg.Store address s value) = omega arith
body_some (msg.Resume turns) = omega arith
body_some msg.Kill = omega arith
body_some (msg.Input bytes) = omega arith
body_some (msg.Word value) = omega arith
body_some msg.Done = omega arith
body_some msg.Outside = omega arith
body_some (msg.Stopped why pc) = omega arith
body_some (msg.Output bytes) = omega arith
body_some (msg.Exited status) = omega arith
body_some (msg.Faulted fault pc) = omega arith
body_some msg.Turns = omega arith
body_some msg.Stack = omega arith

frame_three : (m : Msg) → 3 ≤ length (frame_of m)
unfolding frame_of
frame_three m = let some : 1 ≤ length (body_of m) = body_some m in omega (arith, some)

-- a frame that has begun isn't whole
more_comes : (held : List ℕ) (missing : ℕ) (is_bad : Bool) (m : Msg) (more : List ℕ) → IsFeeding held missing is_bad → MsgFits m → held ++ more ≡ frame_of m → more ≢ []
more_comes held missing true m more f fits e none =
    frame_some m (sym e ∙ ap (λ (l : List ℕ). l ++ more) (f.cleared refl) ∙ none)
more_comes held missing false m more f fits e none =
    let part : IsPartial held = part_now held missing f.some (f.partial refl) in
    let whole : held ≡ frame_of m = sym (append_nil held) ∙ ap (λ (l : List ℕ). held ++ l) (sym none) ∙ e in
    let joined : frame_of m ++ part.rest ≡ frame_of part.message ++ [] = ap (λ (l : List ℕ). l ++ part.rest) (sym whole) ∙ part.whole ∙ sym (append_nil (frame_of part.message)) in
    part.some (one_message_lem m part.message part.rest [] fits part.fits joined).1

some_length : (xs : List ℕ) → xs ≢ [] → 1 ≤ length xs
some_length [] h = absurd (h refl)
some_length (x ∷ xs) h = omega arith

-- a frame has at least three bytes
pub three_at_least : (bytes : List ℕ) (n : ℕ) → n ≤ 3 - length bytes → EndsNoSooner bytes n
three_at_least bytes n small = λ (m : Msg) (more : List ℕ) (fits : MsgFits m) (e : bytes ++ more ≡ frame_of m).
    let all : length bytes + length more ≡ length (frame_of m) = sym (length-append bytes more) ∙ ap length e in
    let least : 3 ≤ length (frame_of m) = frame_three m in
    omega (arith, all, least, small)

-- and as many as its length tells
told_at_least : (high low n : ℕ) (rest : List ℕ) → n ≤ 256 * high + low - length rest → EndsNoSooner (high ∷ low ∷ rest) n
told_at_least high low n rest small = λ (m : Msg) (more : List ℕ) (fits : MsgFits m) (e : (high ∷ low ∷ rest) ++ more ≡ frame_of m).
    let all : length (high ∷ low ∷ rest) + length more ≡ length (frame_of m) = sym (length-append (high ∷ low ∷ rest) more) ∙ ap length e in
    let same : 2 + (256 * high + low) ≡ length (frame_of m) = length_is high low rest more m e in
    omega (arith, all, same, small)

pub two_at_least : (bytes : List ℕ) (n : ℕ) → 2 ≤ length bytes → n ≤ 256 * slice_index bytes 0 + slice_index bytes 1 - (length bytes - 2) → EndsNoSooner bytes n
two_at_least [] n some small = absurd (omega arith)
two_at_least (x ∷ []) n some small = absurd (omega arith)
two_at_least (x ∷ y ∷ rest) n some small = told_at_least x y n rest (omega (arith, small))

pub no_sooner : (held : List ℕ) (missing least n : ℕ) (is_bad : Bool) → IsFeeding held missing is_bad → EndsNoSooner held least → n ≤ 1 + (least - 1) → EndsNoSooner held n
no_sooner held missing least n is_bad f ends small = λ (m : Msg) (more : List ℕ) (fits : MsgFits m) (e : held ++ more ≡ frame_of m).
    let enough : least ≤ length more = ends m more fits e in
    let some : 1 ≤ length more = some_length more (more_comes held missing is_bad m more f fits e) in
    omega (arith, enough, some, small)
