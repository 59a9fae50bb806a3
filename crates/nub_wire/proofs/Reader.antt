-- A reader of frames that computes: the middle term of the proofs about what stands at the front of bytes.
use Rattle.std.specs.Prelude.{ℕ, ◌+◌, ◌-◌, ◌*◌, ◌^◌, List, [], ◌∷◌, length, take, nat_eq, nat_le, nat_lt, ◌&&◌, if◌then◌else◌, Option, Some, None}
use Rattle.ldb_words.specs.declared.event.FaultKind.{FaultKind}
use Rattle.ldb_words.specs.declared.event.FaultKind.TheVariants as kind
use Rattle.nub_wire.specs.declared.message.Size.{Size}
use Rattle.nub_wire.specs.declared.message.Size.TheVariants as size
use Rattle.nub_wire.specs.declared.message.Reason.{Reason}
use Rattle.nub_wire.specs.declared.message.Reason.TheVariants as reason
use Rattle.nub_wire.specs.declared.message.Msg.{Msg}
use Rattle.nub_wire.specs.declared.message.Msg.TheVariants as msg
use Rattle.nub_wire.specs.declared.front.Front.{Front}
use Rattle.nub_wire.specs.declared.front.Front.TheVariants.{Part, Whole, Nothing}

abbrev pub word_of : ℕ → ℕ → ℕ → ℕ → ℕ
word_of a b c d = a * 2 ^ 24 + b * 2 ^ 16 + c * 2 ^ 8 + d

-- the number in the first four bytes, and the bytes behind it
abbrev pub cut_word : List ℕ → Option (ℕ × List ℕ)
cut_word (a ∷ b ∷ c ∷ d ∷ rest) = Some (word_of a b c d, rest)
cut_word _ = None

abbrev pub cut_byte : List ℕ → Option (ℕ × List ℕ)
cut_byte [] = None
cut_byte (b ∷ rest) = Some (b, rest)

abbrev pub size_named : ℕ → Option Size
size_named b = if nat_eq b 1 then Some size.Byte else if nat_eq b 4 then Some size.Word else None

abbrev pub reason_named : ℕ → Option Reason
reason_named b = if nat_eq b 1 then Some reason.Break else if nat_eq b 2 then Some reason.Pause else None

abbrev pub kind_named : ℕ → Option FaultKind
kind_named b =
    if nat_eq b 1 then Some kind.Hazard else if nat_eq b 2 then Some kind.Illegal else if nat_eq b 3 then Some kind.Align
    else if nat_eq b 4 then Some kind.Outside else if nat_eq b 5 then Some kind.Break else if nat_eq b 6 then Some kind.Division
    else if nat_eq b 7 then Some kind.Request else if nat_eq b 8 then Some kind.Window else None

-- ---- payloads

abbrev pub then_part : Option (ℕ × List ℕ) → (ℕ → List ℕ → Front) → Front
then_part None k = Part
then_part (Some p) k = k p.0 p.1

abbrev pub chosen : {X : Type 0} → Option X → (X → Front) → Front
chosen None k = Nothing
chosen (Some x) k = k x

abbrev pub worded : (ℕ → Msg) → List ℕ → Front
worded make payload = then_part (cut_word payload) (λ value _. Whole (make value))

abbrev pub fetched : List ℕ → Front
fetched payload =
    then_part (cut_word payload) (λ address rest. then_part (cut_byte rest) (λ width _.
    chosen (size_named width) (λ s. Whole (msg.Fetch address s))))

abbrev pub stored : List ℕ → Front
stored payload =
    then_part (cut_word payload) (λ address rest. then_part (cut_byte rest) (λ width more.
    chosen (size_named width) (λ s. worded (msg.Store address s) more)))

abbrev pub stopped : List ℕ → Front
stopped payload = then_part (cut_byte payload) (λ why rest. chosen (reason_named why) (λ r. worded (msg.Stopped r) rest))

abbrev pub faulted : List ℕ → Front
faulted payload = then_part (cut_byte payload) (λ fault rest. chosen (kind_named fault) (λ f. worded (msg.Faulted f) rest))

abbrev pub held_bytes : (List ℕ → Msg) → ℕ → List ℕ → Front
held_bytes make count payload = if nat_lt (length payload) count then Part else Whole (make (take count payload))

-- ---- tags

-- how a payload is read: a tag that there isn't, a payload of one length, or bytes
pub data Reader : Type 0 where
  NoTag : Reader
  Fixed : ℕ → (List ℕ → Front) → Reader
  Bytes : (List ℕ → Msg) → Reader

abbrev pub alone : Msg → Reader
alone m = Fixed 1 (λ _. Whole m)

abbrev pub reader_of : ℕ → Reader
reader_of tag =
    if nat_eq tag 0x01 then alone msg.Hello
    else if nat_eq tag 0x02 then Fixed 6 fetched
    else if nat_eq tag 0x03 then Fixed 10 stored
    else if nat_eq tag 0x04 then Fixed 5 (worded msg.Resume)
    else if nat_eq tag 0x05 then alone msg.Kill
    else if nat_eq tag 0x06 then Bytes msg.Input
    else if nat_eq tag 0x81 then Fixed 5 (worded msg.Word)
    else if nat_eq tag 0x82 then alone msg.Done
    else if nat_eq tag 0x83 then alone msg.Outside
    else if nat_eq tag 0x84 then Fixed 6 stopped
    else if nat_eq tag 0x85 then Bytes msg.Output
    else if nat_eq tag 0x86 then Fixed 5 (worded msg.Exited)
    else if nat_eq tag 0x87 then Fixed 6 faulted
    else if nat_eq tag 0x88 then alone msg.Turns
    else if nat_eq tag 0x89 then alone msg.Stack
    else NoTag

-- a payload behind a length of n, which counts the tag
abbrev pub read : ℕ → Reader → List ℕ → Front
read n NoTag payload = Nothing
read n (Fixed want f) payload = if nat_eq n want then f payload else Nothing
read n (Bytes make) payload = if nat_le 2 n && nat_le n 1025 then held_bytes make (n - 1) payload else Nothing

unfoldable pub tagged : ℕ → ℕ → List ℕ → Front
tagged n tag payload = read n (reader_of tag) payload

abbrev pub front_of : List ℕ → Front
front_of [] = Part
front_of (high ∷ []) = if nat_le high 4 then Part else Nothing
front_of (high ∷ low ∷ []) = if nat_le 1 (256 * high + low) && nat_le (256 * high + low) 1025 then Part else Nothing
front_of (high ∷ low ∷ tag ∷ payload) = tagged (256 * high + low) tag payload
