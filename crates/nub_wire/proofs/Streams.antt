-- The front of bytes and the frames of messages.
use Rattle.std.proofs.Common.{◌≡◌, ◌≢◌, ◌∙◌, sym, ap, subst, refl, ℕ, ◌+◌, ◌-◌, ◌*◌, ◌/◌, ◌%◌, ◌^◌, ◌<◌, ◌≤◌, ◌⊎◌, inl, inr, List, [], ◌∷◌, ◌++◌, length, take, Bool, true, false, nat_le, nat_lt, ◌&&◌, if◌then◌else◌, arith, length-append, append_assoc}
use Rattle.std.proofs.lemmas.Grind.{common_steps}
use Rattle.std.proofs.lemmas.Bool.Decides.{nat_tests}
use Rattle.ldb_words.specs.declared.event.FaultKind.TheVariants as kind
use Rattle.nub_wire.specs.declared.message.Size.TheVariants as size
use Rattle.nub_wire.specs.declared.message.Reason.TheVariants as reason
use Rattle.nub_wire.specs.declared.message.Msg.{Msg}
use Rattle.nub_wire.specs.declared.message.Msg.TheVariants as msg
use Rattle.nub_wire.specs.declared.front.Front.{Front}
use Rattle.nub_wire.specs.declared.front.Front.TheVariants.{Part, Whole, Nothing}
use Rattle.nub_wire.specs.Spelling.{body_of, frame_of, AllBytes, IsChunk, MsgFits}
use Rattle.nub_wire.proofs.Reader.{word_of, read, Bytes, tagged, front_of}
use Rattle.nub_wire.specs.Feeding.{IsPartial, BeginsNoFrame}
use Rattle.nub_wire.specs.Held.{BeginsFrame, IsFront}
use Rattle.nub_wire.proofs.Fronts.{IsWhole, tagged_good, front_stays, front_fills, append_bytes, word_again}

high_of : (high low n : ℕ) → low < 256 → n ≡ 256 * high + low → n / 256 ≡ high
high_of high low n h e = omega arith

low_of : (high low n : ℕ) → low < 256 → n ≡ 256 * high + low → n % 256 ≡ low
low_of high low n h e = omega arith

if_never : {A : Type 0} (b : Bool) (m : Msg) → (if b then Part else Nothing) ≡ Whole m → A
if_never true m h = cc
if_never false m h = cc

pub front_spelled : (xs : List ℕ) (m : Msg) → AllBytes xs → front_of xs ≡ Whole m → BeginsFrame xs m
unfolding frame_of
front_spelled [] m b h = cc
front_spelled (high ∷ []) m b h = if_never (nat_le high 4) m h
front_spelled (high ∷ low ∷ []) m b h = if_never (nat_le 1 (256 * high + low) && nat_le (256 * high + low) 1025) m h
front_spelled (high ∷ low ∷ tag ∷ p) m b h =
    let s = (tagged_good tag (256 * high + low)).spelled p m b.1.1.1 h in
    record {
      fits = s.fits;
      behind = s.rest;
      whole = rw (high_of high low (length (body_of m)) b.1.0 s.size, low_of high low (length (body_of m)) b.1.0 s.size) (ap (λ (l : List ℕ). high ∷ low ∷ l) s.body);
    }

-- ---- a frame is read again, whatever follows

take_front : (n : ℕ) (xs rest : List ℕ) → n ≡ length xs → take n (xs ++ rest) ≡ xs
take_front n xs rest h = grind (arith, common_steps)

held_again : (make : List ℕ → Msg) (xs rest : List ℕ) (n : ℕ) → IsChunk xs → n ≡ length xs + 1 → read n (Bytes make) (xs ++ rest) ≡ Whole (make xs)
held_again make xs rest n c e =
    let some : 1 ≤ length xs = c.some in
    let small : length xs ≤ 1024 = c.fits in
    let t : (nat_le 2 n && nat_le n 1025) ≡ true = grind (arith, nat_tests) in
    let long : length (xs ++ rest) ≡ length xs + length rest = length-append xs rest in
    let u : nat_lt (length (xs ++ rest)) (n - 1) ≡ false = grind (arith, nat_tests) in
    rw (t, u) (ap (λ (l : List ℕ). Whole (make l)) (take_front (n - 1) xs rest (omega arith)))

pub whole_length : (n : ℕ) → 256 * (n / 256) + n % 256 ≡ n
whole_length n = omega arith

pub front_again : (m : Msg) (rest : List ℕ) → MsgFits m → front_of (frame_of m ++ rest) ≡ Whole m
unfolding frame_of tagged
front_again msg.Hello rest f = refl
front_again (msg.Fetch address size.Byte) rest f = ap (λ (v : ℕ). Whole (msg.Fetch v size.Byte)) (word_again address f)
front_again (msg.Fetch address size.Word) rest f = ap (λ (v : ℕ). Whole (msg.Fetch v size.Word)) (word_again address f)
front_again (msg.Store address size.Byte value) rest f =
    ap (λ (v : ℕ). Whole (msg.Store v size.Byte (word_of (value / 2 ^ 24) (value / 2 ^ 16 % 256) (value / 2 ^ 8 % 256) (value % 256)))) (word_again address f.0)
    ∙ ap (λ (v : ℕ). Whole (msg.Store address size.Byte v)) (word_again value f.1)
front_again (msg.Store address size.Word value) rest f =
    ap (λ (v : ℕ). Whole (msg.Store v size.Word (word_of (value / 2 ^ 24) (value / 2 ^ 16 % 256) (value / 2 ^ 8 % 256) (value % 256)))) (word_again address f.0)
    ∙ ap (λ (v : ℕ). Whole (msg.Store address size.Word v)) (word_again value f.1)
front_again (msg.Resume turns) rest f = ap (λ (v : ℕ). Whole (msg.Resume v)) (word_again turns f)
front_again msg.Kill rest f = refl
front_again (msg.Input bytes) rest f = held_again msg.Input bytes rest (256 * (length (6 ∷ bytes) / 256) + length (6 ∷ bytes) % 256) f (omega arith)
front_again (msg.Word value) rest f = ap (λ (v : ℕ). Whole (msg.Word v)) (word_again value f)
front_again msg.Done rest f = refl
front_again msg.Outside rest f = refl
front_again (msg.Stopped reason.Break pc) rest f = ap (λ (v : ℕ). Whole (msg.Stopped reason.Break v)) (word_again pc f)
front_again (msg.Stopped reason.Pause pc) rest f = ap (λ (v : ℕ). Whole (msg.Stopped reason.Pause v)) (word_again pc f)
front_again (msg.Output bytes) rest f = held_again msg.Output bytes rest (256 * (length (0x85 ∷ bytes) / 256) + length (0x85 ∷ bytes) % 256) f (omega arith)
front_again (msg.Exited status) rest f = ap (λ (v : ℕ). Whole (msg.Exited v)) (word_again status f)
front_again (msg.Faulted kind.Hazard pc) rest f = ap (λ (v : ℕ). Whole (msg.Faulted kind.Hazard v)) (word_again pc f)
front_again (msg.Faulted kind.Illegal pc) rest f = ap (λ (v : ℕ). Whole (msg.Faulted kind.Illegal v)) (word_again pc f)
front_again (msg.Faulted kind.Align pc) rest f = ap (λ (v : ℕ). Whole (msg.Faulted kind.Align v)) (word_again pc f)
front_again (msg.Faulted kind.Outside pc) rest f = ap (λ (v : ℕ). Whole (msg.Faulted kind.Outside v)) (word_again pc f)
front_again (msg.Faulted kind.Break pc) rest f = ap (λ (v : ℕ). Whole (msg.Faulted kind.Break v)) (word_again pc f)
front_again (msg.Faulted kind.Division pc) rest f = ap (λ (v : ℕ). Whole (msg.Faulted kind.Division v)) (word_again pc f)
front_again (msg.Faulted kind.Request pc) rest f = ap (λ (v : ℕ). Whole (msg.Faulted kind.Request v)) (word_again pc f)
front_again (msg.Faulted kind.Window pc) rest f = ap (λ (v : ℕ). Whole (msg.Faulted kind.Window v)) (word_again pc f)
front_again msg.Turns rest f = refl
front_again msg.Stack rest f = refl

-- ---- no frame begins another

cancel : (a x y : List ℕ) → a ++ x ≡ a ++ y → x ≡ y
cancel [] x y e = e
cancel (z ∷ a) x y e = cancel a x y (cc)

same_message : (m n : Msg) (xs ys : List ℕ) → MsgFits m → MsgFits n → frame_of m ++ xs ≡ frame_of n ++ ys → m ≡ n
same_message m n xs ys f g e =
    let p : front_of (frame_of m ++ xs) ≡ Whole m = front_again m xs f in
    let q : front_of (frame_of n ++ ys) ≡ Whole n = front_again n ys g in
    let s : front_of (frame_of m ++ xs) ≡ front_of (frame_of n ++ ys) = ap front_of e in
    let w : Whole m ≡ Whole n = sym p ∙ s ∙ q in
    cc

pub one_message_lem : (m n : Msg) (xs ys : List ℕ) → MsgFits m → MsgFits n → frame_of m ++ xs ≡ frame_of n ++ ys → (m ≡ n) × (xs ≡ ys)
one_message_lem m n xs ys f g e =
    let same : m ≡ n = same_message m n xs ys f g e in
    (same, cancel (frame_of m) xs ys (e ∙ ap (λ (k : Msg). frame_of k ++ ys) (sym same)))

pub append_nil : (xs : List ℕ) → xs ++ [] ≡ xs
append_nil xs = grind (arith, common_steps)

nothing_left : (xs ys : List ℕ) → ys ≢ [] → xs ++ ys ≡ [] → ⊥
nothing_left [] ys h e = h e
nothing_left (x ∷ xs) ys h e = cc

-- part of a frame begins with no frame
pub no_frame : {A : Type 0} (m : Msg) (more rest : List ℕ) → MsgFits m → IsPartial rest → frame_of m ++ more ≡ rest → A
no_frame m more rest f p e =
    let whole : frame_of m ++ (more ++ p.rest) ≡ frame_of p.message ++ [] =
    sym (append_assoc (frame_of m) more p.rest) ∙ ap (λ (l : List ℕ). l ++ p.rest) e ∙ p.whole ∙ sym (append_nil (frame_of p.message)) in
    let o = one_message_lem m p.message (more ++ p.rest) [] f p.fits whole in
    absurd (nothing_left more p.rest p.some o.1)

-- ---- where two lists are split

pub record Shorter (a b c d : List ℕ) : Type 0 where
  pub more : List ℕ
  pub some : more ≢ []
  pub front : a ++ more ≡ c
  pub back : b ≡ more ++ d

pub record Longer (a c : List ℕ) : Type 0 where
  pub more : List ℕ
  pub front : a ≡ c ++ more

longer_cons : (x : ℕ) (a c : List ℕ) → Longer a c → Longer (x ∷ a) (x ∷ c)
longer_cons x a c l = record { more = l.more; front = ap (λ (k : List ℕ). x ∷ k) l.front }

shorter_cons : (x : ℕ) (a b c d : List ℕ) → Shorter a b c d → Shorter (x ∷ a) b (x ∷ c) d
shorter_cons x a b c d l = record { more = l.more; some = l.some; front = ap (λ (k : List ℕ). x ∷ k) l.front; back = l.back }

split_cons : (x : ℕ) (a b c d : List ℕ) → Longer a c ⊎ Shorter a b c d → Longer (x ∷ a) (x ∷ c) ⊎ Shorter (x ∷ a) b (x ∷ c) d
split_cons x a b c d (inl l) = inl (longer_cons x a c l)
split_cons x a b c d (inr s) = inr (shorter_cons x a b c d s)

pub split : (a b c d : List ℕ) → a ++ b ≡ c ++ d → Longer a c ⊎ Shorter a b c d
split [] b [] d e = inl (record { more = []; front = refl })
split [] b (y ∷ c) d e = inr (record { more = y ∷ c; some = λ h. (cc); front = refl; back = e })
split (x ∷ a) b [] d e = inl (record { more = x ∷ a; front = refl })
split (x ∷ a) b (y ∷ c) d e =
    let head : x ≡ y = cc in
    let tail : a ++ b ≡ c ++ d = cc in
    subst (λ (z : ℕ). Longer (x ∷ a) (z ∷ c) ⊎ Shorter (x ∷ a) b (z ∷ c) d) head (split_cons x a b c d (split a b c d tail))

-- ---- what the front says

-- no frame stands where nothing does
pub none_begins : (xs : List ℕ) → front_of xs ≡ Nothing → BeginsNoFrame xs
none_begins xs h m more rest fits e =
    let stays : front_of (xs ++ more) ≡ Nothing = front_stays xs more h in
    let again : front_of (frame_of m ++ rest) ≡ Whole m = front_again m rest fits in
    let same : front_of (xs ++ more) ≡ front_of (frame_of m ++ rest) = ap front_of e in
    cc

-- what has a frame at its front isn't part of one
not_part : {A : Type 0} (xs more : List ℕ) (m : Msg) → MsgFits m → xs ≡ frame_of m ++ more → front_of xs ≡ Part → A
not_part xs more m fits e h =
    let again : front_of (frame_of m ++ more) ≡ Whole m = front_again m more fits in
    let same : front_of xs ≡ front_of (frame_of m ++ more) = ap front_of e in
    cc

pub record Message (f : Front) : Type 0 where
  pub message : Msg
  pub is : f ≡ Whole message

message_of : (f : Front) → IsWhole f → Message f
message_of Part h = absurd h
message_of (Whole m) h = record { message = m; is = refl }
message_of Nothing h = absurd h

part_of : (xs : List ℕ) (m : Msg) (b d : List ℕ) → MsgFits m → front_of xs ≡ Part → Longer xs (frame_of m) ⊎ Shorter xs b (frame_of m) d → IsPartial xs
part_of xs m b d fits h (inl l) = not_part xs l.more m fits l.front h
part_of xs m b d fits h (inr s) = record { message = m; rest = s.more; fits = fits; some = s.some; whole = s.front }

pub part_begins : (xs : List ℕ) → AllBytes xs → front_of xs ≡ Part → IsPartial xs
part_begins xs b h =
    let f = front_fills xs h in
    let m = message_of (front_of (xs ++ f.more)) f.whole in
    let w = front_spelled (xs ++ f.more) m.message (append_bytes xs f.more b f.bytes) m.is in
    part_of xs m.message f.more w.behind w.fits h (split xs f.more (frame_of m.message) w.behind w.whole)

one_more : (x : ℕ) (more d : List ℕ) → more ≢ [] → x ∷ [] ≡ more ++ d → more ≡ x ∷ []
one_more x [] d some e = absurd (some refl)
one_more x (y ∷ []) d some e = cc
one_more x (y ∷ z ∷ more) d some e = cc

pub record Spells (xs : List ℕ) (m : Msg) : Type 0 where
  pub fits : MsgFits m
  pub is : xs ≡ frame_of m

whole_of : (xs : List ℕ) (x : ℕ) (m : Msg) (d : List ℕ) → MsgFits m → IsPartial xs
    → Longer xs (frame_of m) ⊎ Shorter xs (x ∷ []) (frame_of m) d → Spells (xs ++ x ∷ []) m
whole_of xs x m d fits h (inl l) = no_frame m l.more xs fits h (sym l.front)
whole_of xs x m d fits h (inr s) = record { fits = fits; is = ap (λ (l : List ℕ). xs ++ l) (sym (one_more x s.more d s.some s.back)) ∙ s.front }

-- the byte that completes a frame is its last
pub whole_spells : (xs : List ℕ) (x : ℕ) (m : Msg) → IsPartial xs → BeginsFrame (xs ++ x ∷ []) m → Spells (xs ++ x ∷ []) m
whole_spells xs x m p w = whole_of xs x m w.behind w.fits p (split xs (x ∷ []) (frame_of m) w.behind w.whole)

-- ---- the reader and the front

pub stands : (xs : List ℕ) (f : Front) → AllBytes xs → front_of xs ≡ f → IsFront xs f
stands xs Part b e = part_begins xs b e
stands xs (Whole m) b e = front_spelled xs m b e
stands xs Nothing b e = none_begins xs e

reads_part : (xs : List ℕ) (f : Front) → AllBytes xs → IsPartial xs → front_of xs ≡ f → f ≡ Part
reads_part xs Part b p e = refl
reads_part xs (Whole m) b p e = let w = front_spelled xs m b e in no_frame m w.behind xs w.fits p (sym w.whole)
reads_part xs Nothing b p e = absurd (none_begins xs e p.message p.rest [] p.fits (p.whole ∙ sym (append_nil (frame_of p.message))))

-- the reader sees part of a frame where there is one
pub part_reads : (xs : List ℕ) → AllBytes xs → IsPartial xs → front_of xs ≡ Part
part_reads xs b p = reads_part xs (front_of xs) b p refl

-- ---- lengths

pub frame_short : (m : Msg) → MsgFits m → length (frame_of m) ≤ 1027
unfolding frame_of
frame_short msg.Hello f = omega arith
frame_short (msg.Fetch a s) f = omega arith
frame_short (msg.Store a s v) f = omega arith
frame_short (msg.Resume t) f = omega arith
frame_short msg.Kill f = omega arith
frame_short (msg.Input bytes) f = let h : length bytes ≤ 1024 = f.fits in omega arith
frame_short (msg.Word v) f = omega arith
frame_short msg.Done f = omega arith
frame_short msg.Outside f = omega arith
frame_short (msg.Stopped r pc) f = omega arith
frame_short (msg.Output bytes) f = let h : length bytes ≤ 1024 = f.fits in omega arith
frame_short (msg.Exited status) f = omega arith
frame_short (msg.Faulted k pc) f = omega arith
frame_short msg.Turns f = omega arith
frame_short msg.Stack f = omega arith

some_length : (xs : List ℕ) → xs ≢ [] → 1 ≤ length xs
some_length [] h = absurd (h refl)
some_length (x ∷ xs) h = omega arith

pub part_short : (xs : List ℕ) → IsPartial xs → length xs < 1027
part_short xs p =
    let short : length (frame_of p.message) ≤ 1027 = frame_short p.message p.fits in
    let some : 1 ≤ length p.rest = some_length p.rest p.some in
    omega (arith, length-append xs p.rest, ap length p.whole)
