-- What stands at the front of bytes, against the spelling of messages.
use Rattle.std.proofs.Common.{◌≡◌, ◌∙◌, sym, ap, subst, refl, ℕ, zero, suc, ◌+◌, ◌-◌, ◌*◌, ◌/◌, ◌%◌, ◌^◌, ◌<◌, ◌≤◌, List, [], ◌∷◌, ◌++◌, length, take, drop, replicate, Bool, true, false, nat_eq, nat_le, nat_lt, ◌&&◌, if◌then◌else◌, Option, Some, None, arith, length-append}
use Rattle.std.proofs.lemmas.Grind.{common_steps}
use Rattle.std.proofs.lemmas.Bool.Decides.{nat_tests}
use Rattle.ldb_words.specs.declared.event.FaultKind.{FaultKind}
use Rattle.ldb_words.specs.declared.event.FaultKind.TheVariants as kind
use Rattle.nub_wire.specs.declared.message.Size.{Size}
use Rattle.nub_wire.specs.declared.message.Size.TheVariants as size
use Rattle.nub_wire.specs.declared.message.Reason.{Reason}
use Rattle.nub_wire.specs.declared.message.Reason.TheVariants as reason
use Rattle.nub_wire.specs.declared.message.Msg.{Msg}
use Rattle.nub_wire.specs.declared.message.Msg.TheVariants as msg
use Rattle.nub_wire.specs.declared.front.Front.{Front}
use Rattle.nub_wire.specs.declared.front.Front.TheVariants.{Part, Whole, Nothing}
use Rattle.nub_wire.specs.Spelling.{word_bytes, size_byte, reason_byte, kind_byte, body_of, AllBytes, IsChunk, MsgFits}
use Rattle.nub_wire.proofs.Reader.{word_of, size_named, reason_named, kind_named, chosen, worded, fetched, stored, stopped, faulted, held_bytes, Reader, NoTag, Fixed, Bytes, alone, reader_of, read, tagged, front_of}

-- ---- what must be shown of a payload's reader

abbrev pub IsWhole : Front → Type 0
IsWhole Part = ⊥
IsWhole (Whole m) = Unit {0}
IsWhole Nothing = ⊥

-- bytes that complete a frame
pub record Filling (f : List ℕ → Front) (p : List ℕ) : Type 0 where
  pub more : List ℕ
  pub bytes : AllBytes more
  pub whole : IsWhole (f (p ++ more))

-- a tag and a payload spell a message, and have bytes behind it
pub record Spelled (tag n : ℕ) (p : List ℕ) (m : Msg) : Type 0 where
  pub fits : MsgFits m
  pub rest : List ℕ
  pub body : tag ∷ p ≡ body_of m ++ rest
  pub size : length (body_of m) ≡ n

pub record Good (tag n : ℕ) (f : List ℕ → Front) : Type 0 where
  pub stays : (p ys : List ℕ) → f p ≡ Nothing → f (p ++ ys) ≡ Nothing
  pub fills : (p : List ℕ) → f p ≡ Part → Filling f p
  pub spelled : (p : List ℕ) (m : Msg) → AllBytes p → f p ≡ Whole m → Spelled tag n p m

none_good : (tag n : ℕ) → Good tag n (λ _. Nothing)
none_good tag n = record {
  stays = λ p ys h. refl;
  fills = λ p h. (cc);
  spelled = λ p m b h. (cc);
}

whole_good : (tag n : ℕ) (m : Msg) → MsgFits m → body_of m ≡ tag ∷ [] → n ≡ 1 → Good tag n (λ _. Whole m)
whole_good tag n m fits e one = record {
  stays = λ p ys h. (cc);
  fills = λ p h. (cc);
  spelled = λ p m' b h.
      let same : m ≡ m' = cc in
      subst (λ (x : Msg). Spelled tag n p x) same (record { fits = fits; rest = p; body = rw e refl; size = rw e (sym one) });
}

-- ---- words

pub word_again : (n : ℕ) → n < 2 ^ 32 → word_of (n / 2 ^ 24) (n / 2 ^ 16 % 256) (n / 2 ^ 8 % 256) (n % 256) ≡ n
word_again n h = omega arith

bytes_again : (a b c d : ℕ) → a < 256 → b < 256 → c < 256 → d < 256 → word_bytes (word_of a b c d) ≡ a ∷ b ∷ c ∷ d ∷ []
bytes_again a b c d ha hb hc hd =
    let e1 : word_of a b c d / 2 ^ 24 ≡ a = omega arith in
    let e2 : word_of a b c d / 2 ^ 16 % 256 ≡ b = omega arith in
    let e3 : word_of a b c d / 2 ^ 8 % 256 ≡ c = omega arith in
    let e4 : word_of a b c d % 256 ≡ d = omega arith in
    cc

word_fits : (a b c d : ℕ) → a < 256 → b < 256 → c < 256 → d < 256 → word_of a b c d < 2 ^ 32
word_fits a b c d ha hb hc hd = omega arith

byte : (b : ℕ) → nat_lt b 256 ≡ true → b < 256
byte b h = grind (arith, nat_tests)

-- ---- payloads that are one word

worded_stays : (make : ℕ → Msg) (p ys : List ℕ) → worded make p ≡ Nothing → worded make (p ++ ys) ≡ Nothing
worded_stays make [] ys h = cc
worded_stays make (a ∷ []) ys h = cc
worded_stays make (a ∷ b ∷ []) ys h = cc
worded_stays make (a ∷ b ∷ c ∷ []) ys h = cc
worded_stays make (a ∷ b ∷ c ∷ d ∷ rest) ys h = cc

zero_byte : 0 < 256
zero_byte = omega arith

worded_fills : (make : ℕ → Msg) (p : List ℕ) → worded make p ≡ Part → Filling (worded make) p
worded_fills make [] h = record { more = 0 ∷ 0 ∷ 0 ∷ 0 ∷ []; bytes = (zero_byte, (zero_byte, (zero_byte, (zero_byte, tt)))); whole = tt }
worded_fills make (a ∷ []) h = record { more = 0 ∷ 0 ∷ 0 ∷ []; bytes = (zero_byte, (zero_byte, (zero_byte, tt))); whole = tt }
worded_fills make (a ∷ b ∷ []) h = record { more = 0 ∷ 0 ∷ []; bytes = (zero_byte, (zero_byte, tt)); whole = tt }
worded_fills make (a ∷ b ∷ c ∷ []) h = record { more = 0 ∷ []; bytes = (zero_byte, tt); whole = tt }
worded_fills make (a ∷ b ∷ c ∷ d ∷ rest) h = cc

-- the word that a payload begins with
pub record Worded (make : ℕ → Msg) (p : List ℕ) (m : Msg) : Type 0 where
  pub value : ℕ
  pub rest : List ℕ
  pub fits : value < 2 ^ 32
  pub bytes : p ≡ word_bytes value ++ rest
  pub is : m ≡ make value

worded_spelled : (make : ℕ → Msg) (p : List ℕ) (m : Msg) → AllBytes p → worded make p ≡ Whole m → Worded make p m
worded_spelled make [] m b h = cc
worded_spelled make (x ∷ []) m b h = cc
worded_spelled make (x ∷ y ∷ []) m b h = cc
worded_spelled make (x ∷ y ∷ z ∷ []) m b h = cc
worded_spelled make (x ∷ y ∷ z ∷ w ∷ rest) m b h = record {
  value = word_of x y z w;
  rest = rest;
  fits = word_fits x y z w b.0 b.1.0 b.1.1.0 b.1.1.1.0;
  bytes = ap (λ (l : List ℕ). l ++ rest) (sym (bytes_again x y z w b.0 b.1.0 b.1.1.0 b.1.1.1.0));
  is = cc;
}

word_good : (tag n : ℕ) (make : ℕ → Msg) → ((v : ℕ) → v < 2 ^ 32 → MsgFits (make v)) → ((v : ℕ) → body_of (make v) ≡ tag ∷ word_bytes v) → n ≡ 5
    → Good tag n (worded make)
word_good tag n make fits spelling five = record {
  stays = worded_stays make;
  fills = worded_fills make;
  spelled = λ p m b h.
      let w = worded_spelled make p m b h in
      subst
      (λ (x : Msg). Spelled tag n p x)
      (sym w.is)
      (record { fits = fits w.value w.fits; rest = w.rest; body = rw (spelling w.value) (ap (λ (l : List ℕ). tag ∷ l) w.bytes); size = rw (spelling w.value) (sym five) });
}

-- ---- payloads that begin with a byte of a few

chosen_stays : {X : Type 0} (o : Option X) (make : X → ℕ → Msg) (p ys : List ℕ)
    → chosen o (λ x. worded (make x) p) ≡ Nothing → chosen o (λ x. worded (make x) (p ++ ys)) ≡ Nothing
chosen_stays None make p ys h = refl
chosen_stays (Some x) make p ys h = worded_stays (make x) p ys h

pub record Chosen {X : Type 0} (o : Option X) (make : X → ℕ → Msg) (p : List ℕ) : Type 0 where
  pub more : List ℕ
  pub bytes : AllBytes more
  pub whole : IsWhole (chosen o (λ x. worded (make x) (p ++ more)))

chosen_fills : {X : Type 0} (o : Option X) (make : X → ℕ → Msg) (p : List ℕ) → chosen o (λ x. worded (make x) p) ≡ Part → Chosen o make p
chosen_fills None make p h = cc
chosen_fills (Some x) make p h = let f = worded_fills (make x) p h in record { more = f.more; bytes = f.bytes; whole = f.whole }

pub record Picked {X : Type 0} (o : Option X) (make : X → ℕ → Msg) (p : List ℕ) (m : Msg) : Type 0 where
  pub x : X
  pub x_is : o ≡ Some x
  pub word : Worded (make x) p m

chosen_spelled : {X : Type 0} (o : Option X) (make : X → ℕ → Msg) (p : List ℕ) (m : Msg) → AllBytes p
    → chosen o (λ x. worded (make x) p) ≡ Whole m → Picked o make p m
chosen_spelled None make p m b h = cc
chosen_spelled (Some x) make p m b h = record { x = x; x_is = refl; word = worded_spelled (make x) p m b h }

-- the bytes that name something
pub size_back : (b : ℕ) (s : Size) → size_named b ≡ Some s → size_byte s ≡ b
size_back b size.Byte h = grind (arith, nat_tests)
size_back b size.Word h = grind (arith, nat_tests)

pub reason_back : (b : ℕ) (r : Reason) → reason_named b ≡ Some r → reason_byte r ≡ b
reason_back b reason.Break h = grind (arith, nat_tests)
reason_back b reason.Pause h = grind (arith, nat_tests)

pub kind_back : (b : ℕ) (k : FaultKind) → kind_named b ≡ Some k → kind_byte k ≡ b
kind_back b kind.Hazard h = grind (arith, nat_tests)
kind_back b kind.Illegal h = grind (arith, nat_tests)
kind_back b kind.Align h = grind (arith, nat_tests)
kind_back b kind.Outside h = grind (arith, nat_tests)
kind_back b kind.Break h = grind (arith, nat_tests)
kind_back b kind.Division h = grind (arith, nat_tests)
kind_back b kind.Request h = grind (arith, nat_tests)
kind_back b kind.Window h = grind (arith, nat_tests)

-- ---- a byte and a word

stopped_stays : (p ys : List ℕ) → stopped p ≡ Nothing → stopped (p ++ ys) ≡ Nothing
stopped_stays [] ys h = cc
stopped_stays (b ∷ p) ys h = chosen_stays (reason_named b) msg.Stopped p ys h

stopped_fills : (p : List ℕ) → stopped p ≡ Part → Filling stopped p
stopped_fills [] h = record { more = 1 ∷ 0 ∷ 0 ∷ 0 ∷ 0 ∷ []; bytes = (omega arith, (zero_byte, (zero_byte, (zero_byte, (zero_byte, tt))))); whole = tt }
stopped_fills (b ∷ p) h = let c = chosen_fills (reason_named b) msg.Stopped p h in record { more = c.more; bytes = c.bytes; whole = c.whole }

stopped_spelled : (p : List ℕ) (m : Msg) → AllBytes p → stopped p ≡ Whole m → Spelled 0x84 6 p m
stopped_spelled [] m b h = cc
stopped_spelled (a ∷ p) m b h =
    let c = chosen_spelled (reason_named a) msg.Stopped p m b.1 h in
    subst
    (λ (x : Msg). Spelled 0x84 6 (a ∷ p) x)
    (sym c.word.is)
    (record { fits = c.word.fits; rest = c.word.rest; body = rw (reason_back a c.x c.x_is) (ap (λ (l : List ℕ). 0x84 ∷ a ∷ l) c.word.bytes); size = refl })

stopped_good : Good 0x84 6 stopped
stopped_good = record { stays = stopped_stays; fills = stopped_fills; spelled = stopped_spelled }

faulted_stays : (p ys : List ℕ) → faulted p ≡ Nothing → faulted (p ++ ys) ≡ Nothing
faulted_stays [] ys h = cc
faulted_stays (b ∷ p) ys h = chosen_stays (kind_named b) msg.Faulted p ys h

faulted_fills : (p : List ℕ) → faulted p ≡ Part → Filling faulted p
faulted_fills [] h = record { more = 1 ∷ 0 ∷ 0 ∷ 0 ∷ 0 ∷ []; bytes = (omega arith, (zero_byte, (zero_byte, (zero_byte, (zero_byte, tt))))); whole = tt }
faulted_fills (b ∷ p) h = let c = chosen_fills (kind_named b) msg.Faulted p h in record { more = c.more; bytes = c.bytes; whole = c.whole }

faulted_spelled : (p : List ℕ) (m : Msg) → AllBytes p → faulted p ≡ Whole m → Spelled 0x87 6 p m
faulted_spelled [] m b h = cc
faulted_spelled (a ∷ p) m b h =
    let c = chosen_spelled (kind_named a) msg.Faulted p m b.1 h in
    subst
    (λ (x : Msg). Spelled 0x87 6 (a ∷ p) x)
    (sym c.word.is)
    (record { fits = c.word.fits; rest = c.word.rest; body = rw (kind_back a c.x c.x_is) (ap (λ (l : List ℕ). 0x87 ∷ a ∷ l) c.word.bytes); size = refl })

faulted_good : Good 0x87 6 faulted
faulted_good = record { stays = faulted_stays; fills = faulted_fills; spelled = faulted_spelled }

-- ---- a word and a byte, and maybe a word

one_byte : 1 < 256
one_byte = omega arith

size_part : {A : Type 0} (o : Option Size) (make : Size → Msg) → chosen o (λ s. Whole (make s)) ≡ Part → A
size_part None make h = cc
size_part (Some s) make h = cc

pub record Sized (o : Option Size) (make : Size → Msg) (m : Msg) : Type 0 where
  pub s : Size
  pub s_is : o ≡ Some s
  pub m_is : m ≡ make s

size_whole : (o : Option Size) (make : Size → Msg) (m : Msg) → chosen o (λ s. Whole (make s)) ≡ Whole m → Sized o make m
size_whole None make m h = cc
size_whole (Some s) make m h = record { s = s; s_is = refl; m_is = cc }

fetched_stays : (p ys : List ℕ) → fetched p ≡ Nothing → fetched (p ++ ys) ≡ Nothing
fetched_stays [] ys h = cc
fetched_stays (a ∷ []) ys h = cc
fetched_stays (a ∷ b ∷ []) ys h = cc
fetched_stays (a ∷ b ∷ c ∷ []) ys h = cc
fetched_stays (a ∷ b ∷ c ∷ d ∷ []) ys h = cc
fetched_stays (a ∷ b ∷ c ∷ d ∷ w ∷ p) ys h = h

fetched_fills : (p : List ℕ) → fetched p ≡ Part → Filling fetched p
fetched_fills [] h = record { more = 0 ∷ 0 ∷ 0 ∷ 0 ∷ 1 ∷ []; bytes = (zero_byte, (zero_byte, (zero_byte, (zero_byte, (one_byte, tt))))); whole = tt }
fetched_fills (a ∷ []) h = record { more = 0 ∷ 0 ∷ 0 ∷ 1 ∷ []; bytes = (zero_byte, (zero_byte, (zero_byte, (one_byte, tt)))); whole = tt }
fetched_fills (a ∷ b ∷ []) h = record { more = 0 ∷ 0 ∷ 1 ∷ []; bytes = (zero_byte, (zero_byte, (one_byte, tt))); whole = tt }
fetched_fills (a ∷ b ∷ c ∷ []) h = record { more = 0 ∷ 1 ∷ []; bytes = (zero_byte, (one_byte, tt)); whole = tt }
fetched_fills (a ∷ b ∷ c ∷ d ∷ []) h = record { more = 1 ∷ []; bytes = (one_byte, tt); whole = tt }
fetched_fills (a ∷ b ∷ c ∷ d ∷ w ∷ p) h = size_part (size_named w) (λ s. msg.Fetch (word_of a b c d) s) h

fetched_spelled : (p : List ℕ) (m : Msg) → AllBytes p → fetched p ≡ Whole m → Spelled 2 6 p m
fetched_spelled [] m x h = cc
fetched_spelled (a ∷ []) m x h = cc
fetched_spelled (a ∷ b ∷ []) m x h = cc
fetched_spelled (a ∷ b ∷ c ∷ []) m x h = cc
fetched_spelled (a ∷ b ∷ c ∷ d ∷ []) m x h = cc
fetched_spelled (a ∷ b ∷ c ∷ d ∷ w ∷ p) m x h =
    let o = size_whole (size_named w) (λ s. msg.Fetch (word_of a b c d) s) m h in
    let word : word_bytes (word_of a b c d) ≡ a ∷ b ∷ c ∷ d ∷ [] = bytes_again a b c d x.0 x.1.0 x.1.1.0 x.1.1.1.0 in
    subst
    (λ (y : Msg). Spelled 2 6 (a ∷ b ∷ c ∷ d ∷ w ∷ p) y)
    (sym o.m_is)
    (record {
      fits = word_fits a b c d x.0 x.1.0 x.1.1.0 x.1.1.1.0;
      rest = p;
      body = rw (size_back w o.s o.s_is) (ap (λ (l : List ℕ). 2 ∷ (l ++ w ∷ p)) (sym word));
      size = refl;
    })

fetched_good : Good 2 6 fetched
fetched_good = record { stays = fetched_stays; fills = fetched_fills; spelled = fetched_spelled }

stored_stays : (p ys : List ℕ) → stored p ≡ Nothing → stored (p ++ ys) ≡ Nothing
stored_stays [] ys h = cc
stored_stays (a ∷ []) ys h = cc
stored_stays (a ∷ b ∷ []) ys h = cc
stored_stays (a ∷ b ∷ c ∷ []) ys h = cc
stored_stays (a ∷ b ∷ c ∷ d ∷ []) ys h = cc
stored_stays (a ∷ b ∷ c ∷ d ∷ w ∷ p) ys h = chosen_stays (size_named w) (λ s. msg.Store (word_of a b c d) s) p ys h

stored_five : AllBytes (1 ∷ 0 ∷ 0 ∷ 0 ∷ 0 ∷ [])
stored_five = (one_byte, (zero_byte, (zero_byte, (zero_byte, (zero_byte, tt)))))

stored_fills : (p : List ℕ) → stored p ≡ Part → Filling stored p
stored_fills [] h = record { more = 0 ∷ 0 ∷ 0 ∷ 0 ∷ 1 ∷ 0 ∷ 0 ∷ 0 ∷ 0 ∷ []; bytes = (zero_byte, (zero_byte, (zero_byte, (zero_byte, stored_five)))); whole = tt }
stored_fills (a ∷ []) h = record { more = 0 ∷ 0 ∷ 0 ∷ 1 ∷ 0 ∷ 0 ∷ 0 ∷ 0 ∷ []; bytes = (zero_byte, (zero_byte, (zero_byte, stored_five))); whole = tt }
stored_fills (a ∷ b ∷ []) h = record { more = 0 ∷ 0 ∷ 1 ∷ 0 ∷ 0 ∷ 0 ∷ 0 ∷ []; bytes = (zero_byte, (zero_byte, stored_five)); whole = tt }
stored_fills (a ∷ b ∷ c ∷ []) h = record { more = 0 ∷ 1 ∷ 0 ∷ 0 ∷ 0 ∷ 0 ∷ []; bytes = (zero_byte, stored_five); whole = tt }
stored_fills (a ∷ b ∷ c ∷ d ∷ []) h = record { more = 1 ∷ 0 ∷ 0 ∷ 0 ∷ 0 ∷ []; bytes = stored_five; whole = tt }
stored_fills (a ∷ b ∷ c ∷ d ∷ w ∷ p) h =
    let f = chosen_fills (size_named w) (λ s. msg.Store (word_of a b c d) s) p h in
    record { more = f.more; bytes = f.bytes; whole = f.whole }

stored_spelled : (p : List ℕ) (m : Msg) → AllBytes p → stored p ≡ Whole m → Spelled 3 10 p m
stored_spelled [] m x h = cc
stored_spelled (a ∷ []) m x h = cc
stored_spelled (a ∷ b ∷ []) m x h = cc
stored_spelled (a ∷ b ∷ c ∷ []) m x h = cc
stored_spelled (a ∷ b ∷ c ∷ d ∷ []) m x h = cc
stored_spelled (a ∷ b ∷ c ∷ d ∷ w ∷ p) m x h =
    let o = chosen_spelled (size_named w) (λ s. msg.Store (word_of a b c d) s) p m x.1.1.1.1.1 h in
    let word : word_bytes (word_of a b c d) ≡ a ∷ b ∷ c ∷ d ∷ [] = bytes_again a b c d x.0 x.1.0 x.1.1.0 x.1.1.1.0 in
    subst
    (λ (y : Msg). Spelled 3 10 (a ∷ b ∷ c ∷ d ∷ w ∷ p) y)
    (sym o.word.is)
    (record {
      fits = (word_fits a b c d x.0 x.1.0 x.1.1.0 x.1.1.1.0, o.word.fits);
      rest = o.word.rest;
      body = rw (size_back w o.x o.x_is) (ap (λ (l : List ℕ). 3 ∷ a ∷ b ∷ c ∷ d ∷ w ∷ l) o.word.bytes ∙ ap (λ (l : List ℕ). 3 ∷ (l ++ w ∷ (word_bytes o.word.value ++ o.word.rest))) (sym word));
      size = refl;
    })

stored_good : Good 3 10 stored
stored_good = record { stays = stored_stays; fills = stored_fills; spelled = stored_spelled }

-- ---- bytes

if_nothing : {A : Type 0} (b : Bool) (m : Msg) → (if b then Part else Whole m) ≡ Nothing → A
if_nothing true m h = cc
if_nothing false m h = cc

if_whole : (b : Bool) (m m' : Msg) → (if b then Part else Whole m) ≡ Whole m' → (b ≡ false) × (m ≡ m')
if_whole true m m' h = cc
if_whole false m m' h = (refl, cc)

zeros_bytes : (n : ℕ) → AllBytes (replicate n 0)
zeros_bytes zero = tt
zeros_bytes (suc n) = (zero_byte, zeros_bytes n)

take_bytes : (n : ℕ) (xs : List ℕ) → AllBytes xs → AllBytes (take n xs)
take_bytes zero xs h = tt
take_bytes (suc n) [] h = tt
take_bytes (suc n) (x ∷ xs) h = (h.0, take_bytes n xs h.1)

pub append_bytes : (xs ys : List ℕ) → AllBytes xs → AllBytes ys → AllBytes (xs ++ ys)
append_bytes [] ys h k = k
append_bytes (x ∷ xs) ys h k = (h.0, append_bytes xs ys h.1 k)

length_zeros : (n : ℕ) → length {A = ℕ} (replicate n 0) ≡ n
length_zeros n = grind (arith, common_steps)

false_whole : (b : Bool) (m : Msg) → b ≡ false → IsWhole (if b then Part else Whole m)
false_whole true m h = cc
false_whole false m h = tt

pub not_lt : (a b : ℕ) → b ≤ a → nat_lt a b ≡ false
not_lt a b h = grind (arith, nat_tests)

pub yes_lt : (a b : ℕ) → a < b → nat_lt a b ≡ true
yes_lt a b h = grind (arith, nat_tests)

lt_no : (a b : ℕ) → nat_lt a b ≡ false → b ≤ a
lt_no a b h = grind (arith, nat_tests)

split_take : (n : ℕ) (xs : List ℕ) → xs ≡ take n xs ++ drop n xs
split_take n xs = grind (arith, common_steps)

length_take : (n : ℕ) (xs : List ℕ) → n ≤ length xs → length (take n xs) ≡ n
length_take n xs h = grind (arith, common_steps)

bytes_good : (tag count : ℕ) (make : List ℕ → Msg) → 1 ≤ count → count ≤ 1024 → ((xs : List ℕ) → IsChunk xs → MsgFits (make xs)) → ((xs : List ℕ) → body_of (make xs) ≡ tag ∷ xs)
    → Good tag (count + 1) (held_bytes make count)
bytes_good tag count make some small fits spelling = record {
  stays = λ p ys h. if_nothing (nat_lt (length p) count) (make (take count p)) h;
  fills = λ p h. record {
    more = replicate count 0;
    bytes = zeros_bytes count;
    whole = false_whole
        (nat_lt (length (p ++ replicate count 0)) count)
        (make (take count (p ++ replicate count 0)))
        (not_lt (length (p ++ replicate count 0)) count (omega (arith, length-append p (replicate count 0), length_zeros count)));
  };
  spelled = λ p m b h.
      let w = if_whole (nat_lt (length p) count) (make (take count p)) m h in
      let long : count ≤ length p = lt_no (length p) count w.0 in
      let size : length (take count p) ≡ count = length_take count p long in
      subst
      (λ (x : Msg). Spelled tag (count + 1) p x)
      w.1
      (record {
        fits = fits (take count p) (record { some = omega arith; fits = omega arith; each = take_bytes count p b });
        rest = drop count p;
        body = rw (spelling (take count p)) (ap (λ (l : List ℕ). tag ∷ l) (split_take count p));
        size = rw (spelling (take count p)) (omega arith);
      });
}

-- ---- tags

abbrev pub GoodReader : ℕ → Reader → Type 0
GoodReader tag NoTag = Unit {0}
GoodReader tag (Fixed n f) = Good tag n f × (1 ≤ n) × (n ≤ 1025)
GoodReader tag (Bytes make) = ((xs : List ℕ) → IsChunk xs → MsgFits (make xs)) × ((xs : List ℕ) → body_of (make xs) ≡ tag ∷ xs)

guarded_good : (tag n : ℕ) (f : List ℕ → Front) (b : Bool) → (b ≡ true → Good tag n f) → Good tag n (λ p. if b then f p else Nothing)
guarded_good tag n f true g = g refl
guarded_good tag n f false g = none_good tag n

pub eq_yes : (a b : ℕ) → nat_eq a b ≡ true → a ≡ b
eq_yes a b h = grind (arith, nat_tests)

in_range : (n : ℕ) → (nat_le 2 n && nat_le n 1025) ≡ true → (2 ≤ n) × (n ≤ 1025)
in_range n h = (grind (arith, nat_tests), grind (arith, nat_tests))

read_good : (tag n : ℕ) (r : Reader) → GoodReader tag r → Good tag n (read n r)
read_good tag n NoTag g = none_good tag n
read_good tag n (Fixed want f) g = guarded_good tag n f (nat_eq n want) (λ e. subst (λ (k : ℕ). Good tag k f) (sym (eq_yes n want e)) g.0)
read_good tag n (Bytes make) g =
    guarded_good tag n (held_bytes make (n - 1)) (nat_le 2 n && nat_le n 1025) (λ e.
    let r = in_range n e in
    let one : n - 1 + 1 ≡ n = omega (arith, r.0) in
    subst (λ (k : ℕ). Good tag k (held_bytes make (n - 1))) one (bytes_good tag (n - 1) make (omega (arith, r.0)) (omega (arith, r.0, r.1)) g.0 g.1))

tag_case : (tag t : ℕ) (x y : Reader) (b : Bool) → (b ≡ true → tag ≡ t) → GoodReader t x → GoodReader tag y → GoodReader tag (if b then x else y)
tag_case tag t x y true e gx gy = subst (λ (k : ℕ). GoodReader k x) (sym (e refl)) gx
tag_case tag t x y false e gx gy = gy

pick : (tag t : ℕ) (x y : Reader) → GoodReader t x → GoodReader tag y → GoodReader tag (if nat_eq tag t then x else y)
pick tag t x y gx gy = tag_case tag t x y (nat_eq tag t) (eq_yes tag t) gx gy

lone : (tag : ℕ) (m : Msg) → MsgFits m → body_of m ≡ tag ∷ [] → GoodReader tag (alone m)
lone tag m fits e = (whole_good tag 1 m fits e refl, omega arith, omega arith)

some_word : (tag : ℕ) (make : ℕ → Msg) → ((v : ℕ) → v < 2 ^ 32 → MsgFits (make v)) → ((v : ℕ) → body_of (make v) ≡ tag ∷ word_bytes v) → GoodReader tag (Fixed 5 (worded make))
some_word tag make fits spelling = (word_good tag 5 make fits spelling refl, omega arith, omega arith)

readers_good : (tag : ℕ) → GoodReader tag (reader_of tag)
readers_good tag =
    pick tag 0x01 _ _ (lone 0x01 msg.Hello tt refl)
    (pick tag 0x02 _ _ (fetched_good, omega arith, omega arith)
    (pick tag 0x03 _ _ (stored_good, omega arith, omega arith)
    (pick tag 0x04 _ _ (some_word 0x04 msg.Resume (λ v h. h) (λ v. refl))
    (pick tag 0x05 _ _ (lone 0x05 msg.Kill tt refl)
    (pick tag 0x06 _ _ (λ xs h. h, λ xs. refl)
    (pick tag 0x81 _ _ (some_word 0x81 msg.Word (λ v h. h) (λ v. refl))
    (pick tag 0x82 _ _ (lone 0x82 msg.Done tt refl)
    (pick tag 0x83 _ _ (lone 0x83 msg.Outside tt refl)
    (pick tag 0x84 _ _ (stopped_good, omega arith, omega arith)
    (pick tag 0x85 _ _ (λ xs h. h, λ xs. refl)
    (pick tag 0x86 _ _ (some_word 0x86 msg.Exited (λ v h. h) (λ v. refl))
    (pick tag 0x87 _ _ (faulted_good, omega arith, omega arith)
    (pick tag 0x88 _ _ (lone 0x88 msg.Turns tt refl)
    (pick tag 0x89 _ NoTag (lone 0x89 msg.Stack tt refl) tt))))))))))))))

pub tagged_good : (tag n : ℕ) → Good tag n (tagged n tag)
unfolding tagged
tagged_good tag n = read_good tag n (reader_of tag) (readers_good tag)

-- ---- the length

not_eq : (n want : ℕ) → 1 ≤ want → want ≤ 1025 → (nat_le 1 n && nat_le n 1025) ≡ false → nat_eq n want ≡ false
not_eq n want some small h = grind (arith, nat_tests)

not_two : (n : ℕ) → (nat_le 1 n && nat_le n 1025) ≡ false → (nat_le 2 n && nat_le n 1025) ≡ false
not_two n h = grind (arith, nat_tests)

read_outside : (tag n : ℕ) (r : Reader) (p : List ℕ) → GoodReader tag r → (nat_le 1 n && nat_le n 1025) ≡ false → read n r p ≡ Nothing
read_outside tag n NoTag p g h = refl
read_outside tag n (Fixed want f) p g h = rw (not_eq n want g.1 g.2 h) refl
read_outside tag n (Bytes make) p g h = rw (not_two n h) refl

tagged_outside : (tag n : ℕ) (p : List ℕ) → (nat_le 1 n && nat_le n 1025) ≡ false → tagged n tag p ≡ Nothing
unfolding tagged
tagged_outside tag n p h = read_outside tag n (reader_of tag) p (readers_good tag) h

if_part_else : (b : Bool) → (if b then Part else Nothing) ≡ Nothing → b ≡ false
if_part_else true h = cc
if_part_else false h = refl

if_part_then : (b : Bool) → (if b then Part else Nothing) ≡ Part → b ≡ true
if_part_then true h = refl
if_part_then false h = cc

too_high : (high low : ℕ) → nat_le high 4 ≡ false → (nat_le 1 (256 * high + low) && nat_le (256 * high + low) 1025) ≡ false
too_high high low h = grind (arith, nat_tests)

-- what begins no frame begins none however it goes on
pub front_stays : (xs ys : List ℕ) → front_of xs ≡ Nothing → front_of (xs ++ ys) ≡ Nothing
front_stays [] ys h = cc
front_stays (high ∷ []) [] h = h
front_stays (high ∷ []) (low ∷ []) h = rw (too_high high low (if_part_else (nat_le high 4) h)) refl
front_stays (high ∷ []) (low ∷ tag ∷ p) h = tagged_outside tag (256 * high + low) p (too_high high low (if_part_else (nat_le high 4) h))
front_stays (high ∷ low ∷ []) [] h = h
front_stays (high ∷ low ∷ []) (tag ∷ p) h = tagged_outside tag (256 * high + low) p (if_part_else (nat_le 1 (256 * high + low) && nat_le (256 * high + low) 1025) h)
front_stays (high ∷ low ∷ tag ∷ p) ys h = (tagged_good tag (256 * high + low)).stays p ys h

-- ---- a frame that has begun can be completed

three_fills : (high low tag : ℕ) (p : List ℕ) → tagged (256 * high + low) tag p ≡ Part → Filling front_of (high ∷ low ∷ tag ∷ p)
three_fills high low tag p h =
    let f = (tagged_good tag (256 * high + low)).fills p h in
    record { more = f.more; bytes = f.bytes; whole = f.whole }

input_begun : (n : ℕ) → 2 ≤ n → n ≤ 1025 → tagged n 6 [] ≡ Part
unfolding tagged
input_begun n h k = let t : (nat_le 2 n && nat_le n 1025) ≡ true = grind (arith, nat_tests) in let u : nat_lt 0 (n - 1) ≡ true = grind (arith, nat_tests) in rw (t, u) refl

kill_whole : (n : ℕ) → n ≡ 1 → IsWhole (tagged n 5 [])
unfolding tagged
kill_whole n h = rw h tt

in_one : (n : ℕ) → (nat_le 1 n && nat_le n 1025) ≡ true → (1 ≤ n) × (n ≤ 1025)
in_one n h = (grind (arith, nat_tests), grind (arith, nat_tests))

two_by : (high low : ℕ) (b : Bool) → nat_eq (256 * high + low) 1 ≡ b → 1 ≤ 256 * high + low → 256 * high + low ≤ 1025 → Filling front_of (high ∷ low ∷ [])
two_by high low true e some small = record { more = 5 ∷ []; bytes = (omega arith, tt); whole = kill_whole (256 * high + low) (eq_yes (256 * high + low) 1 e) }
two_by high low false e some small =
    let more : 2 ≤ 256 * high + low = grind (arith, nat_tests) in
    let f = three_fills high low 6 [] (input_begun (256 * high + low) more small) in
    record { more = 6 ∷ f.more; bytes = (omega arith, f.bytes); whole = f.whole }

two_fills : (high low : ℕ) → (nat_le 1 (256 * high + low) && nat_le (256 * high + low) 1025) ≡ true → Filling front_of (high ∷ low ∷ [])
two_fills high low h = let r = in_one (256 * high + low) h in two_by high low (nat_eq (256 * high + low) 1) refl r.0 r.1

low_enough : (high : ℕ) → nat_le high 4 ≡ true → (nat_le 1 (256 * high + 1) && nat_le (256 * high + 1) 1025) ≡ true
low_enough high h = grind (arith, nat_tests)

pub front_fills : (xs : List ℕ) → front_of xs ≡ Part → Filling front_of xs
front_fills [] h = let f = two_fills 0 1 refl in record { more = 0 ∷ 1 ∷ f.more; bytes = (omega arith, (omega arith, f.bytes)); whole = f.whole }
front_fills (high ∷ []) h =
    let f = two_fills high 1 (low_enough high (if_part_then (nat_le high 4) h)) in
    record { more = 1 ∷ f.more; bytes = (omega arith, f.bytes); whole = f.whole }
front_fills (high ∷ low ∷ []) h = two_fills high low (if_part_then (nat_le 1 (256 * high + low) && nat_le (256 * high + low) 1025) h)
front_fills (high ∷ low ∷ tag ∷ p) h = three_fills high low tag p h
