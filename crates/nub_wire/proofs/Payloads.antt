-- What the readers of payloads find, by the reader that computes.
use Rattle.std.proofs.Common.{◌≡◌, ◌≢◌, ◌∙◌, ap, subst, refl, ℕ, suc, ◌+◌, ◌-◌, ◌*◌, ◌/◌, ◌%◌, ◌^◌, ◌<◌, ◌≤◌, List, [], ◌∷◌, ◌++◌, length, take, slice_index, true, false, nat_le, ◌&&◌, Option, Some, None, ◌⊎◌, inl, inr, arith}
use Rattle.std.proofs.lemmas.Bool.Decides.{nat_tests}
use Rattle.ldb_words.specs.declared.event.FaultKind.{FaultKind}
use Rattle.ldb_words.specs.declared.event.FaultKind.TheVariants as kind
use Rattle.nub_wire.specs.declared.message.Size.{Size}
use Rattle.nub_wire.specs.declared.message.Size.TheVariants as size
use Rattle.nub_wire.specs.declared.message.Reason.{Reason}
use Rattle.nub_wire.specs.declared.message.Reason.TheVariants as reason
use Rattle.nub_wire.specs.declared.message.Msg.{Msg}
use Rattle.nub_wire.specs.declared.message.Msg.TheVariants as msg
use Rattle.nub_wire.specs.declared.front.Front.{Front}
use Rattle.nub_wire.specs.declared.front.Front.TheVariants.{Part, Whole, Nothing}
use Rattle.nub_wire.specs.Spelling.{word_bytes, size_byte, reason_byte, kind_byte, body_of, frame_of, AllBytes, MsgFits}
use Rattle.nub_wire.specs.Held.{IsFront}
use Rattle.nub_wire.proofs.Reader.{cut_word, cut_byte, size_named, reason_named, kind_named, chosen, then_part, worded, fetched, stored, stopped, faulted, held_bytes, read, Bytes, tagged, front_of}
use Rattle.nub_wire.proofs.Cuts.{cut_short}
use Rattle.nub_wire.proofs.Fronts.{word_again, size_back, reason_back, kind_back, not_lt, yes_lt}
use Rattle.nub_wire.proofs.Streams.{stands, whole_length}

pub below : (xs : List ℕ) → ((i : ℕ) → slice_index xs i < 256) → AllBytes xs
below [] h = tt
below (x ∷ xs) h = (h 0, below xs (λ i. h (suc i)))

behind : (xs rest : List ℕ) → AllBytes (xs ++ rest) → AllBytes rest
behind [] rest b = b
behind (x ∷ xs) rest b = behind xs rest b.1

-- ---- words and names

word_below : (rest : List ℕ) (v : ℕ) → AllBytes (word_bytes v ++ rest) → v < 2 ^ 32
word_below rest v b = let top : v / 2 ^ 24 < 256 = b.0 in omega (arith, top)

cut_again : (p rest : List ℕ) (v : ℕ) → AllBytes p → p ≡ word_bytes v ++ rest → cut_word p ≡ Some (v, rest)
cut_again p rest v b e =
    let small : v < 2 ^ 32 = word_below rest v (subst (λ (l : List ℕ). AllBytes l) e b) in
    ap cut_word e ∙ ap (λ (n : ℕ). Some (n, rest)) (word_again v small)

size_self : (s : Size) → size_named (size_byte s) ≡ Some s
size_self size.Byte = refl
size_self size.Word = refl

size_none_by : (b : ℕ) (o : Option Size) → size_named b ≡ o → ((s : Size) → size_byte s ≢ b) → o ≡ None
size_none_by b None e h = refl
size_none_by b (Some s) e h = absurd (h s (size_back b s e))

pub size_none : (b : ℕ) → ((s : Size) → size_byte s ≢ b) → size_named b ≡ None
size_none b h = size_none_by b (size_named b) refl h

pub size_some : (b : ℕ) (s : Size) → size_byte s ≡ b → size_named b ≡ Some s
size_some b s e = subst (λ (k : ℕ). size_named k ≡ Some s) e (size_self s)

reason_self : (r : Reason) → reason_named (reason_byte r) ≡ Some r
reason_self reason.Break = refl
reason_self reason.Pause = refl

reason_none_by : (b : ℕ) (o : Option Reason) → reason_named b ≡ o → ((r : Reason) → reason_byte r ≢ b) → o ≡ None
reason_none_by b None e h = refl
reason_none_by b (Some r) e h = absurd (h r (reason_back b r e))

pub reason_none : (b : ℕ) → ((r : Reason) → reason_byte r ≢ b) → reason_named b ≡ None
reason_none b h = reason_none_by b (reason_named b) refl h

pub reason_some : (b : ℕ) (r : Reason) → reason_byte r ≡ b → reason_named b ≡ Some r
reason_some b r e = subst (λ (k : ℕ). reason_named k ≡ Some r) e (reason_self r)

kind_self : (k : FaultKind) → kind_named (kind_byte k) ≡ Some k
kind_self kind.Hazard = refl
kind_self kind.Illegal = refl
kind_self kind.Align = refl
kind_self kind.Outside = refl
kind_self kind.Break = refl
kind_self kind.Division = refl
kind_self kind.Request = refl
kind_self kind.Window = refl

kind_none_by : (b : ℕ) (o : Option FaultKind) → kind_named b ≡ o → ((k : FaultKind) → kind_byte k ≢ b) → o ≡ None
kind_none_by b None e h = refl
kind_none_by b (Some k) e h = absurd (h k (kind_back b k e))

pub kind_none : (b : ℕ) → ((k : FaultKind) → kind_byte k ≢ b) → kind_named b ≡ None
kind_none b h = kind_none_by b (kind_named b) refl h

pub kind_some : (b : ℕ) (k : FaultKind) → kind_byte k ≡ b → kind_named b ≡ Some k
kind_some b k e = subst (λ (n : ℕ). kind_named n ≡ Some k) e (kind_self k)

-- ---- payloads of one length

framed_front : (length tag : ℕ) (p : List ℕ) (f : Front) → length < 256 → tag < 256 → AllBytes p → front_of (0 ∷ length ∷ tag ∷ p) ≡ f
    → IsFront (0 ∷ length ∷ tag ∷ p) f
framed_front length tag p f small fits b e = stands (0 ∷ length ∷ tag ∷ p) f (omega arith, (small, (fits, b))) e

word_part : (make : ℕ → Msg) (p : List ℕ) → length p < 4 → worded make p ≡ Part
word_part make p short = rw (cut_short p short) refl

word_whole : (make : ℕ → Msg) (p rest : List ℕ) (v : ℕ) → AllBytes p → p ≡ word_bytes v ++ rest → worded make p ≡ Whole (make v)
word_whole make p rest v b e = rw (cut_again p rest v b e) refl

resume_front : (p : List ℕ) (f : Front) → AllBytes p → worded msg.Resume p ≡ f → IsFront (0 ∷ 5 ∷ 0x04 ∷ p) f
unfolding tagged
resume_front p f b e = framed_front 5 0x04 p f (omega arith) (omega arith) b e

pub resume_part : (p : List ℕ) → AllBytes p → length p < 4 → IsFront (0 ∷ 5 ∷ 0x04 ∷ p) Part
resume_part p b short = resume_front p Part b (word_part msg.Resume p short)

pub resume_whole : (p rest : List ℕ) (v : ℕ) → AllBytes p → p ≡ word_bytes v ++ rest → IsFront (0 ∷ 5 ∷ 0x04 ∷ p) (Whole (msg.Resume v))
resume_whole p rest v b e = resume_front p (Whole (msg.Resume v)) b (word_whole msg.Resume p rest v b e)

answer_front : (p : List ℕ) (f : Front) → AllBytes p → worded msg.Word p ≡ f → IsFront (0 ∷ 5 ∷ 0x81 ∷ p) f
unfolding tagged
answer_front p f b e = framed_front 5 0x81 p f (omega arith) (omega arith) b e

pub answer_part : (p : List ℕ) → AllBytes p → length p < 4 → IsFront (0 ∷ 5 ∷ 0x81 ∷ p) Part
answer_part p b short = answer_front p Part b (word_part msg.Word p short)

pub answer_whole : (p rest : List ℕ) (v : ℕ) → AllBytes p → p ≡ word_bytes v ++ rest → IsFront (0 ∷ 5 ∷ 0x81 ∷ p) (Whole (msg.Word v))
answer_whole p rest v b e = answer_front p (Whole (msg.Word v)) b (word_whole msg.Word p rest v b e)

exit_front : (p : List ℕ) (f : Front) → AllBytes p → worded msg.Exited p ≡ f → IsFront (0 ∷ 5 ∷ 0x86 ∷ p) f
unfolding tagged
exit_front p f b e = framed_front 5 0x86 p f (omega arith) (omega arith) b e

pub exit_part : (p : List ℕ) → AllBytes p → length p < 4 → IsFront (0 ∷ 5 ∷ 0x86 ∷ p) Part
exit_part p b short = exit_front p Part b (word_part msg.Exited p short)

pub exit_whole : (p rest : List ℕ) (v : ℕ) → AllBytes p → p ≡ word_bytes v ++ rest → IsFront (0 ∷ 5 ∷ 0x86 ∷ p) (Whole (msg.Exited v))
exit_whole p rest v b e = exit_front p (Whole (msg.Exited v)) b (word_whole msg.Exited p rest v b e)

stop_front : (p : List ℕ) (f : Front) → AllBytes p → stopped p ≡ f → IsFront (0 ∷ 6 ∷ 0x84 ∷ p) f
unfolding tagged
stop_front p f b e = framed_front 6 0x84 p f (omega arith) (omega arith) b e

pub stop_none : (p : List ℕ) → AllBytes p → p ≡ [] → IsFront (0 ∷ 6 ∷ 0x84 ∷ p) Part
stop_none p b e = stop_front p Part b (ap stopped e)

pub stop_unnamed : (p rest : List ℕ) (byte : ℕ) → AllBytes p → p ≡ byte ∷ rest → ((x : Reason) → reason_byte x ≢ byte) → IsFront (0 ∷ 6 ∷ 0x84 ∷ p) Nothing
stop_unnamed p rest byte b e unnamed = stop_front p Nothing b (ap stopped e ∙ rw (reason_none byte unnamed) refl)

pub stop_part : (p rest : List ℕ) (byte : ℕ) (x : Reason) → AllBytes p → p ≡ byte ∷ rest → reason_byte x ≡ byte → length rest < 4 → IsFront (0 ∷ 6 ∷ 0x84 ∷ p) Part
stop_part p rest byte x b e is short = stop_front p Part b (ap stopped e ∙ rw (reason_some byte x is) (word_part (msg.Stopped x) rest short))

pub stop_whole : (p rest more : List ℕ) (byte v : ℕ) (x : Reason) → AllBytes p → p ≡ byte ∷ rest → reason_byte x ≡ byte → rest ≡ word_bytes v ++ more
    → IsFront (0 ∷ 6 ∷ 0x84 ∷ p) (Whole (msg.Stopped x v))
stop_whole p rest more byte v x b e is word =
    let bytes : AllBytes rest = (subst (λ (l : List ℕ). AllBytes l) e b).1 in
    stop_front p (Whole (msg.Stopped x v)) b (ap stopped e ∙ rw (reason_some byte x is) (word_whole (msg.Stopped x) rest more v bytes word))

fault_front : (p : List ℕ) (f : Front) → AllBytes p → faulted p ≡ f → IsFront (0 ∷ 6 ∷ 0x87 ∷ p) f
unfolding tagged
fault_front p f b e = framed_front 6 0x87 p f (omega arith) (omega arith) b e

pub fault_none : (p : List ℕ) → AllBytes p → p ≡ [] → IsFront (0 ∷ 6 ∷ 0x87 ∷ p) Part
fault_none p b e = fault_front p Part b (ap faulted e)

pub fault_unnamed : (p rest : List ℕ) (byte : ℕ) → AllBytes p → p ≡ byte ∷ rest → ((x : FaultKind) → kind_byte x ≢ byte) → IsFront (0 ∷ 6 ∷ 0x87 ∷ p) Nothing
fault_unnamed p rest byte b e unnamed = fault_front p Nothing b (ap faulted e ∙ rw (kind_none byte unnamed) refl)

pub fault_part : (p rest : List ℕ) (byte : ℕ) (x : FaultKind) → AllBytes p → p ≡ byte ∷ rest → kind_byte x ≡ byte → length rest < 4 → IsFront (0 ∷ 6 ∷ 0x87 ∷ p) Part
fault_part p rest byte x b e is short = fault_front p Part b (ap faulted e ∙ rw (kind_some byte x is) (word_part (msg.Faulted x) rest short))

pub fault_whole : (p rest more : List ℕ) (byte v : ℕ) (x : FaultKind) → AllBytes p → p ≡ byte ∷ rest → kind_byte x ≡ byte → rest ≡ word_bytes v ++ more
    → IsFront (0 ∷ 6 ∷ 0x87 ∷ p) (Whole (msg.Faulted x v))
fault_whole p rest more byte v x b e is word =
    let bytes : AllBytes rest = (subst (λ (l : List ℕ). AllBytes l) e b).1 in
    fault_front p (Whole (msg.Faulted x v)) b (ap faulted e ∙ rw (kind_some byte x is) (word_whole (msg.Faulted x) rest more v bytes word))

abbrev fetch_by : ℕ → Option (ℕ × List ℕ) → Front
fetch_by a o = then_part o (λ width _. chosen (size_named width) (λ s. Whole (msg.Fetch a s)))

fetch_front : (p : List ℕ) (f : Front) → AllBytes p → fetched p ≡ f → IsFront (0 ∷ 6 ∷ 0x02 ∷ p) f
unfolding tagged
fetch_front p f b e = framed_front 6 0x02 p f (omega arith) (omega arith) b e

fetch_reads : (p rest : List ℕ) (a : ℕ) → AllBytes p → p ≡ word_bytes a ++ rest → fetched p ≡ fetch_by a (cut_byte rest)
fetch_reads p rest a b e = rw (cut_again p rest a b e) refl

pub fetch_short : (p : List ℕ) → AllBytes p → length p < 4 → IsFront (0 ∷ 6 ∷ 0x02 ∷ p) Part
fetch_short p b short = fetch_front p Part b (rw (cut_short p short) refl)

pub fetch_part : (p rest : List ℕ) (a : ℕ) → AllBytes p → p ≡ word_bytes a ++ rest → rest ≡ [] → IsFront (0 ∷ 6 ∷ 0x02 ∷ p) Part
fetch_part p rest a b e none = fetch_front p Part b (fetch_reads p rest a b e ∙ ap (λ (l : List ℕ). fetch_by a (cut_byte l)) none)

pub fetch_unnamed : (p rest more : List ℕ) (a byte : ℕ) → AllBytes p → p ≡ word_bytes a ++ rest → rest ≡ byte ∷ more → ((s : Size) → size_byte s ≢ byte)
    → IsFront (0 ∷ 6 ∷ 0x02 ∷ p) Nothing
fetch_unnamed p rest more a byte b e next unnamed =
    fetch_front p Nothing b (fetch_reads p rest a b e ∙ ap (λ (l : List ℕ). fetch_by a (cut_byte l)) next ∙ rw (size_none byte unnamed) refl)

pub fetch_whole : (p rest more : List ℕ) (a byte : ℕ) (s : Size) → AllBytes p → p ≡ word_bytes a ++ rest → rest ≡ byte ∷ more → size_byte s ≡ byte
    → IsFront (0 ∷ 6 ∷ 0x02 ∷ p) (Whole (msg.Fetch a s))
fetch_whole p rest more a byte s b e next is =
    fetch_front p (Whole (msg.Fetch a s)) b (fetch_reads p rest a b e ∙ ap (λ (l : List ℕ). fetch_by a (cut_byte l)) next ∙ rw (size_some byte s is) refl)

abbrev store_by : ℕ → Option (ℕ × List ℕ) → Front
store_by a o = then_part o (λ width more. chosen (size_named width) (λ s. worded (msg.Store a s) more))

store_front : (p : List ℕ) (f : Front) → AllBytes p → stored p ≡ f → IsFront (0 ∷ 10 ∷ 0x03 ∷ p) f
unfolding tagged
store_front p f b e = framed_front 10 0x03 p f (omega arith) (omega arith) b e

store_reads : (p rest : List ℕ) (a : ℕ) → AllBytes p → p ≡ word_bytes a ++ rest → stored p ≡ store_by a (cut_byte rest)
store_reads p rest a b e = rw (cut_again p rest a b e) refl

pub store_short : (p : List ℕ) → AllBytes p → length p < 4 → IsFront (0 ∷ 10 ∷ 0x03 ∷ p) Part
store_short p b short = store_front p Part b (rw (cut_short p short) refl)

pub store_part : (p rest : List ℕ) (a : ℕ) → AllBytes p → p ≡ word_bytes a ++ rest → rest ≡ [] → IsFront (0 ∷ 10 ∷ 0x03 ∷ p) Part
store_part p rest a b e none = store_front p Part b (store_reads p rest a b e ∙ ap (λ (l : List ℕ). store_by a (cut_byte l)) none)

pub store_unnamed : (p rest more : List ℕ) (a byte : ℕ) → AllBytes p → p ≡ word_bytes a ++ rest → rest ≡ byte ∷ more → ((s : Size) → size_byte s ≢ byte)
    → IsFront (0 ∷ 10 ∷ 0x03 ∷ p) Nothing
store_unnamed p rest more a byte b e next unnamed =
    store_front p Nothing b (store_reads p rest a b e ∙ ap (λ (l : List ℕ). store_by a (cut_byte l)) next ∙ rw (size_none byte unnamed) refl)

pub store_half : (p rest more : List ℕ) (a byte : ℕ) (s : Size) → AllBytes p → p ≡ word_bytes a ++ rest → rest ≡ byte ∷ more → size_byte s ≡ byte → length more < 4
    → IsFront (0 ∷ 10 ∷ 0x03 ∷ p) Part
store_half p rest more a byte s b e next is short =
    store_front p Part b
    (store_reads p rest a b e ∙ ap (λ (l : List ℕ). store_by a (cut_byte l)) next ∙ rw (size_some byte s is) (word_part (msg.Store a s) more short))

pub store_whole : (p rest more end : List ℕ) (a byte v : ℕ) (s : Size) → AllBytes p → p ≡ word_bytes a ++ rest → rest ≡ byte ∷ more → size_byte s ≡ byte → more ≡ word_bytes v ++ end
    → IsFront (0 ∷ 10 ∷ 0x03 ∷ p) (Whole (msg.Store a s v))
store_whole p rest more end a byte v s b e next is word =
    let tail : AllBytes rest = behind (word_bytes a) rest (subst (λ (l : List ℕ). AllBytes l) e b) in
    let bytes : AllBytes more = (subst (λ (l : List ℕ). AllBytes l) next tail).1 in
    store_front p (Whole (msg.Store a s v)) b
    (store_reads p rest a b e ∙ ap (λ (l : List ℕ). store_by a (cut_byte l)) next ∙ rw (size_some byte s is) (word_whole (msg.Store a s) more end v bytes word))

-- ---- payloads of bytes

in_bytes : (count : ℕ) → 1 ≤ count → count ≤ 1024 → (nat_le 2 (count + 1) && nat_le (count + 1) 1025) ≡ true
in_bytes count some small = grind (arith, nat_tests)

less_one : (count : ℕ) → count + 1 - 1 ≡ count
less_one count = omega arith

read_held : (make : List ℕ → Msg) (count : ℕ) (p : List ℕ) → 1 ≤ count → count ≤ 1024 → read (count + 1) (Bytes make) p ≡ held_bytes make count p
read_held make count p some small = rw (in_bytes count some small) (ap (λ (n : ℕ). held_bytes make n p) (less_one count))

short_held : (make : List ℕ → Msg) (count : ℕ) (p : List ℕ) → length p < count → held_bytes make count p ≡ Part
short_held make count p short = rw (yes_lt (length p) count short) refl

long_held : (make : List ℕ → Msg) (count : ℕ) (p : List ℕ) → count ≤ length p → held_bytes make count p ≡ Whole (make (take count p))
long_held make count p long = rw (not_lt (length p) count long) refl

pub long_front : (n tag : ℕ) (p : List ℕ) (f : Front) → n ≤ 65535 → tag < 256 → AllBytes p → tagged n tag p ≡ f → IsFront (n / 256 ∷ n % 256 ∷ tag ∷ p) f
long_front n tag p f small fits b e =
    let high : n / 256 < 256 = omega arith in
    let low : n % 256 < 256 = omega arith in
    stands (n / 256 ∷ n % 256 ∷ tag ∷ p) f (high, (low, (fits, b))) (ap (λ (k : ℕ). tagged k tag p) (whole_length n) ∙ e)

input_front : (count : ℕ) (p : List ℕ) (f : Front) → 1 ≤ count → count ≤ 1024 → AllBytes p → held_bytes msg.Input count p ≡ f → IsFront ((count + 1) / 256 ∷ (count + 1) % 256 ∷ 0x06 ∷ p) f
unfolding tagged
input_front count p f some small b e = long_front (count + 1) 0x06 p f (omega arith) (omega arith) b (read_held msg.Input count p some small ∙ e)

pub input_part : (count : ℕ) (p : List ℕ) → 1 ≤ count → count ≤ 1024 → AllBytes p → length p < count → IsFront ((count + 1) / 256 ∷ (count + 1) % 256 ∷ 0x06 ∷ p) Part
input_part count p some small b short = input_front count p Part some small b (short_held msg.Input count p short)

pub input_whole : (count : ℕ) (p : List ℕ) → 1 ≤ count → count ≤ 1024 → AllBytes p → count ≤ length p
    → IsFront ((count + 1) / 256 ∷ (count + 1) % 256 ∷ 0x06 ∷ p) (Whole (msg.Input (take count p)))
input_whole count p some small b long = input_front count p (Whole (msg.Input (take count p))) some small b (long_held msg.Input count p long)

output_front : (count : ℕ) (p : List ℕ) (f : Front) → 1 ≤ count → count ≤ 1024 → AllBytes p → held_bytes msg.Output count p ≡ f → IsFront ((count + 1) / 256 ∷ (count + 1) % 256 ∷ 0x85 ∷ p) f
unfolding tagged
output_front count p f some small b e = long_front (count + 1) 0x85 p f (omega arith) (omega arith) b (read_held msg.Output count p some small ∙ e)

pub output_part : (count : ℕ) (p : List ℕ) → 1 ≤ count → count ≤ 1024 → AllBytes p → length p < count → IsFront ((count + 1) / 256 ∷ (count + 1) % 256 ∷ 0x85 ∷ p) Part
output_part count p some small b short = output_front count p Part some small b (short_held msg.Output count p short)

pub output_whole : (count : ℕ) (p : List ℕ) → 1 ≤ count → count ≤ 1024 → AllBytes p → count ≤ length p
    → IsFront ((count + 1) / 256 ∷ (count + 1) % 256 ∷ 0x85 ∷ p) (Whole (msg.Output (take count p)))
output_whole count p some small b long = output_front count p (Whole (msg.Output (take count p))) some small b (long_held msg.Output count p long)

-- ---- tags alone

pub alone_front : (m : Msg) (length tag t : ℕ) (p : List ℕ) → MsgFits m → body_of m ≡ t ∷ [] → length ≡ 1 → tag ≡ t → IsFront (length / 256 ∷ length % 256 ∷ tag ∷ p) (Whole m)
unfolding frame_of
alone_front m length tag t p fits is one same = record { fits = fits; behind = p; whole = rw (is, one, same) refl }

-- ---- lengths

le_yes : (a b : ℕ) → a ≤ b → nat_le a b ≡ true
le_yes a b h = grind (arith, nat_tests)

le_no : (a b : ℕ) → b < a → nat_le a b ≡ false
le_no a b h = grind (arith, nat_tests)

in_length : (n : ℕ) → 1 ≤ n → n ≤ 1025 → (nat_le 1 n && nat_le n 1025) ≡ true
in_length n some small = grind (arith, nat_tests)

out_length : (n : ℕ) → ((1 ≤ n) × (1025 < n)) ⊎ (n < 1) → (nat_le 1 n && nat_le n 1025) ≡ false
out_length n (inl h) = let big : 1025 < n = h.1 in grind (arith, nat_tests)
out_length n (inr h) = grind (arith, nat_tests)

pub empty_front : (xs : List ℕ) → length xs < 1 → IsFront xs Part
empty_front [] h = stands [] Part tt refl
empty_front (x ∷ xs) h = absurd (omega arith)

pub one_part : (xs : List ℕ) → AllBytes xs → 1 ≤ length xs → length xs < 2 → slice_index xs 0 ≤ 4 → IsFront xs Part
one_part [] b some h small = absurd (omega arith)
one_part (x ∷ []) b some h small = stands (x ∷ []) Part b (rw (le_yes x 4 small) refl)
one_part (x ∷ y ∷ xs) b some h small = absurd (omega arith)

pub one_nothing : (xs : List ℕ) → AllBytes xs → 1 ≤ length xs → length xs < 2 → 4 < slice_index xs 0 → IsFront xs Nothing
one_nothing [] b some h big = absurd (omega arith)
one_nothing (x ∷ []) b some h big = stands (x ∷ []) Nothing b (rw (le_no x 4 big) refl)
one_nothing (x ∷ y ∷ xs) b some h big = absurd (omega arith)

pub two_part : (xs : List ℕ) (n : ℕ) → AllBytes xs → 2 ≤ length xs → length xs < 3 → n ≡ 256 * slice_index xs 0 + slice_index xs 1 → 1 ≤ n → n ≤ 1025 → IsFront xs Part
two_part [] n b some h e least most = absurd (omega arith)
two_part (x ∷ []) n b some h e least most = absurd (omega arith)
two_part (x ∷ y ∷ []) n b some h e least most = stands (x ∷ y ∷ []) Part b (rw (← e, in_length n least most) refl)
two_part (x ∷ y ∷ z ∷ xs) n b some h e least most = absurd (omega arith)

pub two_nothing : (xs : List ℕ) (n : ℕ) → AllBytes xs → 2 ≤ length xs → length xs < 3 → n ≡ 256 * slice_index xs 0 + slice_index xs 1 → ((1 ≤ n) × (1025 < n)) ⊎ (n < 1) → IsFront xs Nothing
two_nothing [] n b some h e out = absurd (omega arith)
two_nothing (x ∷ []) n b some h e out = absurd (omega arith)
two_nothing (x ∷ y ∷ []) n b some h e out = stands (x ∷ y ∷ []) Nothing b (rw (← e, out_length n out) refl)
two_nothing (x ∷ y ∷ z ∷ xs) n b some h e out = absurd (omega arith)
