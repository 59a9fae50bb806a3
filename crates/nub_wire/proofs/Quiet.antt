-- Part of a frame, and how many bytes more decide something about it.
use Rattle.std.proofs.Common.{◌≡◌, ◌∙◌, sym, ap, subst, refl, ℕ, ◌+◌, ◌-◌, ◌*◌, ◌<◌, ◌≤◌, ◌⊎◌, inl, inr, List, [], ◌∷◌, ◌++◌, length, slice_index, Bool, true, false, nat_le, nat_lt, ◌&&◌, if◌then◌else◌, arith, append_assoc, length-append}
use Rattle.std.proofs.lemmas.Bool.Decides.{nat_tests}
use Rattle.nub_wire.specs.declared.message.Msg.{Msg}
use Rattle.nub_wire.specs.declared.message.Msg.TheVariants as msg
use Rattle.nub_wire.specs.declared.front.Front.{Front}
use Rattle.nub_wire.specs.declared.front.Front.TheVariants.{Part, Whole, Nothing}
use Rattle.nub_wire.specs.Spelling.{AllBytes}
use Rattle.nub_wire.specs.Feeding.{IsPartial}
use Rattle.nub_wire.specs.Held.{IsFeeding, IsQuiet}
use Rattle.nub_wire.proofs.Reader.{read, Bytes, tagged}
use Rattle.nub_wire.proofs.Fronts.{append_bytes, yes_lt}
use Rattle.nub_wire.proofs.Streams.{append_nil, part_begins, part_reads}

pub one_quiet : (xs : List ℕ) → IsPartial xs → IsQuiet xs 1
one_quiet xs p [] b lt = subst (λ (l : List ℕ). IsPartial l) (sym (append_nil xs)) p
one_quiet xs p (x ∷ more) b lt = absurd (omega arith)

empty_part : IsPartial []
empty_part = part_begins [] tt refl

-- before a frame
pub empty_feeding : (held : List ℕ) (missing : ℕ) (is_bad : Bool) → held ≡ [] → missing ≡ 1 → is_bad ≡ false → IsFeeding held missing is_bad
empty_feeding held missing is_bad none one good = record {
  each = rw none tt;
  partial = λ h. rw (none, one) (one_quiet [] empty_part);
  some = omega arith;
  cleared = λ h. none;
}

pub part_now : (xs : List ℕ) (missing : ℕ) → 1 ≤ missing → IsQuiet xs missing → IsPartial xs
part_now xs missing some q = subst (λ (l : List ℕ). IsPartial l) (append_nil xs) (q [] tt (omega arith))

-- a byte that decides nothing
pub quiet_less : (now pushed : List ℕ) (b missing : ℕ) → b < 256 → IsQuiet now missing → pushed ≡ now ++ b ∷ [] → IsQuiet pushed (missing - 1)
quiet_less now pushed b missing k q e = λ more bytes lt.
    let longer : length (b ∷ more) < missing = omega arith in
    let same : now ++ b ∷ more ≡ pushed ++ more = sym (append_assoc now (b ∷ []) more) ∙ ap (λ (l : List ℕ). l ++ more) (sym e) in
    subst (λ (l : List ℕ). IsPartial l) same (q (b ∷ more) (k, bytes) longer)

-- ---- payloads of bytes

cond_part : (b : Bool) (x : Front) → (if b then x else Nothing) ≡ Part → x ≡ Part
cond_part true x h = h
cond_part false x h = cc

cond_again : (b : Bool) (x y : Front) → (if b then x else Nothing) ≡ Part → y ≡ Part → (if b then y else Nothing) ≡ Part
cond_again true x y h e = e
cond_again false x y h e = h

if_part_yes : (b : Bool) (m : Msg) → (if b then Part else Whole m) ≡ Part → b ≡ true
if_part_yes true m h = refl
if_part_yes false m h = cc

yes_part : (b : Bool) (m : Msg) → b ≡ true → (if b then Part else Whole m) ≡ Part
yes_part true m h = refl
yes_part false m h = cc

lt_yes : (a b : ℕ) → nat_lt a b ≡ true → a < b
lt_yes a b h = grind (arith, nat_tests)

bytes_short : (make : List ℕ → Msg) (n : ℕ) (p : List ℕ) → read n (Bytes make) p ≡ Part → length p < n - 1
bytes_short make n p h = lt_yes (length p) (n - 1) (if_part_yes _ _ (cond_part (nat_le 2 n && nat_le n 1025) _ h))

bytes_quiet : (make : List ℕ → Msg) (n : ℕ) (p ys : List ℕ) → read n (Bytes make) p ≡ Part → length ys < n - 1 - length p → read n (Bytes make) (p ++ ys) ≡ Part
bytes_quiet make n p ys h lt =
    let short : length (p ++ ys) < n - 1 = omega (arith, length-append p ys) in
    cond_again (nat_le 2 n && nat_le n 1025) _ _ h (yes_part _ _ (yes_lt (length (p ++ ys)) (n - 1) short))

-- ---- by the tag

pub record Waiting (n tag : ℕ) (p : List ℕ) : Type 0 where
  pub some : length p < n - 1
  pub stays : (ys : List ℕ) → length ys < n - 1 - length p → tagged n tag (p ++ ys) ≡ Part

input_waits : (n : ℕ) (p : List ℕ) → tagged n 0x06 p ≡ Part → Waiting n 0x06 p
unfolding tagged
input_waits n p h = record { some = bytes_short msg.Input n p h; stays = λ ys lt. bytes_quiet msg.Input n p ys h lt }

output_waits : (n : ℕ) (p : List ℕ) → tagged n 0x85 p ≡ Part → Waiting n 0x85 p
unfolding tagged
output_waits n p h = record { some = bytes_short msg.Output n p h; stays = λ ys lt. bytes_quiet msg.Output n p ys h lt }

tag_waits : (n tag : ℕ) (p : List ℕ) → (tag ≡ 0x06) ⊎ (tag ≡ 0x85) → tagged n tag p ≡ Part → Waiting n tag p
tag_waits n tag p (inl is) h = subst (λ (k : ℕ). Waiting n k p) (sym is) (input_waits n p (subst (λ (k : ℕ). tagged n k p ≡ Part) is h))
tag_waits n tag p (inr is) h = subst (λ (k : ℕ). Waiting n k p) (sym is) (output_waits n p (subst (λ (k : ℕ). tagged n k p ≡ Part) is h))

-- of a frame of bytes only the last byte decides something
pub record Awaits (xs : List ℕ) (n : ℕ) : Type 0 where
  pub some : 1 ≤ n
  pub quiet : IsQuiet xs n

bytes_await : (high low tag : ℕ) (p : List ℕ) → (tag ≡ 0x06) ⊎ (tag ≡ 0x85) → AllBytes (high ∷ low ∷ tag ∷ p) → IsPartial (high ∷ low ∷ tag ∷ p)
    → Awaits (high ∷ low ∷ tag ∷ p) (256 * high + low - 1 - length p)
bytes_await high low tag p t b h =
    let w = tag_waits (256 * high + low) tag p t (part_reads (high ∷ low ∷ tag ∷ p) b h) in
    let short : length p < 256 * high + low - 1 = w.some in
    record {
      some = omega arith;
      quiet = λ more bytes lt. part_begins (high ∷ low ∷ tag ∷ (p ++ more)) (append_bytes (high ∷ low ∷ tag ∷ p) more b bytes) (w.stays more lt);
    }

pub three_await : (xs : List ℕ) (n : ℕ) → AllBytes xs → IsPartial xs → 3 ≤ length xs → (slice_index xs 2 ≡ 0x06) ⊎ (slice_index xs 2 ≡ 0x85)
    → n ≡ 256 * slice_index xs 0 + slice_index xs 1 - 1 - (length xs - 3) → Awaits xs n
three_await [] n b h some t e = absurd (omega arith)
three_await (x ∷ []) n b h some t e = absurd (omega arith)
three_await (x ∷ y ∷ []) n b h some t e = absurd (omega arith)
three_await (x ∷ y ∷ z ∷ xs) n b h some t e =
    let same : 256 * x + y - 1 - length xs ≡ n = omega (arith, e) in
    subst (λ (k : ℕ). Awaits (x ∷ y ∷ z ∷ xs) k) same (bytes_await x y z xs t b h)
