-- Replies of a nub at rest.
use Rattle.std.proofs.Common.{◌≡◌, ◌∙◌, refl, ap, ℕ, ◌+◌, ◌^◌, ◌<◌, ◌≤◌, nat_le, List, length, Bool, true, false, if◌then◌else◌, Some, Result, Ok, Err, arith}
use Rattle.std.proofs.lemmas.Bool.Decides.{nat_tests}
use Rattle.ldb_words.specs.declared.event.Outside.{Outside}
use Rattle.machine_state.specs.Regions.{Regions, read_of}
use Rattle.machine_state.specs.State.{MachineState, Behaviour, order_of, with_memory, with_input}
use Rattle.machine_state.specs.declared.layout.TheConstants.{CONTEXT}
use Rattle.nub_wire.specs.declared.message.Size.{Size}
use Rattle.nub_wire.specs.declared.message.Size.TheVariants as size
use Rattle.nub_wire.specs.declared.message.Msg.TheVariants as msg
use Rattle.nub_wire.specs.Spelling.{MsgFits, IsChunk}
use Rattle.nub_wire.specs.Replies.{ends_reply}
use Rattle.nub_wire.specs.Nub.{NubState, Host, Replied, host, handled, served, fetch_reply, after_done}
use Rattle.nub_wire.specs.Delivery.{Conduct, LinkSide}
use Rattle.nub_wire.specs.Rest.{IsAtRest}
use Rattle.nub_wire.specs.Exchange.{RepliesAtOnce}
use Rattle.machine_state.specs.Sound.{IsMemory}
use Rattle.nub_wire.specs.AtOnce.{MeetsMemory, fetch_of, store_of, store_reply, after_store, ShortLaws}
use Rattle.machine_state.proofs.SoundMemory.{read_byte, read_word}

chosen : (x y : Bool) (p q r : Replied) → x ≡ false → y ≡ false → (if x then p else if y then q else r) ≡ r
chosen x y p q r e f = rw (e, f) refl

-- ---- fetches

reply_fits : (r : Result ℕ Outside) → ((v : ℕ) → r ≡ Ok v → v < 2 ^ 32) → MsgFits (fetch_reply r)
reply_fits (Ok v) h = h v refl
reply_fits (Err e) h = tt

byte_small : (o : Result ℕ Outside) → ((v : ℕ) → o ≡ Ok v → v < 256) → (v : ℕ) → o ≡ Ok v → v < 2 ^ 32
byte_small o h v e = let small : v < 256 = h v e in omega (arith, small)

fits : (side : LinkSide) (at : ℕ) (s : Size) → IsMemory side.host.machine.memory → MsgFits (fetch_of side.host.machine at s)
fits side at size.Byte h =
    let m = side.host.machine in
    reply_fits (read_of (order_of m) m.memory at 1) (byte_small (read_of (order_of m) m.memory at 1) (λ (v : ℕ) e. read_byte (order_of m) m.memory at v h e))
fits side at size.Word h = let m = side.host.machine in reply_fits (read_of (order_of m) m.memory at 4) (λ (v : ℕ) e. read_word (order_of m) m.memory at v h e)

byte_ends : (at : ℕ) (r : Result ℕ Outside) → ((v : ℕ) → r ≡ Ok v → v < 256) → ends_reply (msg.Fetch at size.Byte) (fetch_reply r) ≡ true
byte_ends at (Ok v) h = let small : v < 256 = h v refl in grind (arith, nat_tests)
byte_ends at (Err e) h = refl

word_ends : (at : ℕ) (r : Result ℕ Outside) → ends_reply (msg.Fetch at size.Word) (fetch_reply r) ≡ true
word_ends at (Ok v) = refl
word_ends at (Err e) = refl

ends : (side : LinkSide) (at : ℕ) (s : Size) → IsMemory side.host.machine.memory → ends_reply (msg.Fetch at s) (fetch_of side.host.machine at s) ≡ true
ends side at size.Byte h = let m = side.host.machine in byte_ends at (read_of (order_of m) m.memory at 1) (λ (v : ℕ) e. read_byte (order_of m) m.memory at v h e)
ends side at size.Word h = let m = side.host.machine in word_ends at (read_of (order_of m) m.memory at 4)

fetch_handled : (c : Conduct) (side : LinkSide) (at : ℕ) (s : Size) → MeetsMemory c → IsAtRest side → c.handles (msg.Fetch at s) side.host ≡ (Some (fetch_of side.host.machine at s), side.host)
unfolding handled served
fetch_handled c side at s meets rest = meets.fetches at s side.host ∙ chosen side.host.nub.blocked side.host.nub.killed _ _ _ rest.idle.takes rest.lives

pub fetch_law : (c : Conduct) (side : LinkSide) (at : ℕ) (s : Size) → MeetsMemory c → IsAtRest side → IsMemory side.host.machine.memory → at < 2 ^ 32
    → RepliesAtOnce c (msg.Fetch at s) side.host (fetch_of side.host.machine at s) side.host × (ends_reply (msg.Fetch at s) (fetch_of side.host.machine at s) ≡ true)
fetch_law c side at s meets rest h small =
    (record { fits = small; reply_fits = fits side at s h; is = fetch_handled c side at s meets rest; none_open = rest.idle.none_open; takes = rest.idle.takes }, ends side at s h)

-- ---- stores

stored_is : (r : Result Regions Outside) (h : Host) → after_done h.nub (with_memory r h.machine) ≡ (Some (store_reply r), after_store r h)
stored_is (Ok r) h = refl
stored_is (Err e) h = refl

store_handled : (c : Conduct) (side : LinkSide) (at : ℕ) (s : Size) (v : ℕ) → MeetsMemory c → IsAtRest side
    → c.handles (msg.Store at s v) side.host ≡ (Some (store_reply (store_of side.host.machine at s v)), after_store (store_of side.host.machine at s v) side.host)
unfolding handled served
store_handled c side at s v meets rest =
    meets.stores at s v side.host ∙ chosen side.host.nub.blocked side.host.nub.killed _ _ _ rest.idle.takes rest.lives ∙ stored_is (store_of side.host.machine at s v) side.host

done_fits : (r : Result Regions Outside) → MsgFits (store_reply r)
done_fits (Ok r) = tt
done_fits (Err e) = tt

done_ends : (at v : ℕ) (s : Size) (r : Result Regions Outside) → ends_reply (msg.Store at s v) (store_reply r) ≡ true
done_ends at v s (Ok r) = refl
done_ends at v s (Err e) = refl

nub_same : (r : Result Regions Outside) (h : Host) → (after_store r h).nub ≡ h.nub
nub_same (Ok r) h = refl
nub_same (Err e) h = refl

pub store_law : (c : Conduct) (side : LinkSide) (at : ℕ) (s : Size) (v : ℕ) → MeetsMemory c → IsAtRest side → at < 2 ^ 32 → v < 2 ^ 32
    → RepliesAtOnce c (msg.Store at s v) side.host (store_reply (store_of side.host.machine at s v)) (after_store (store_of side.host.machine at s v) side.host)
    × (ends_reply (msg.Store at s v) (store_reply (store_of side.host.machine at s v)) ≡ true)
store_law c side at s v meets rest small fits =
    let r = store_of side.host.machine at s v in (
      record {
        fits = (small, fits);
        reply_fits = done_fits r;
        is = store_handled c side at s v meets rest;
        none_open = ap (λ x. x.left) (nub_same r side.host) ∙ rest.idle.none_open;
        takes = ap (λ x. x.blocked) (nub_same r side.host) ∙ rest.idle.takes;
      },
      done_ends at v s r,
    )

-- ---- other messages

hello_handled : (b : Behaviour) (side : LinkSide) → IsAtRest side → handled b msg.Hello side.host ≡ (Some (msg.Word CONTEXT), side.host)
unfolding handled served
hello_handled b side rest = chosen side.host.nub.blocked side.host.nub.killed _ _ _ rest.idle.takes rest.lives

kill_handled : (b : Behaviour) (side : LinkSide) → IsAtRest side → handled b msg.Kill side.host ≡ (Some msg.Done, host (record side.host.nub { killed = true }) side.host.machine)
unfolding handled served
kill_handled b side rest = chosen side.host.nub.blocked side.host.nub.killed _ _ _ rest.idle.takes rest.lives

given_all : (nub : NubState) (bytes : List ℕ) (m : MachineState) (fits : Bool) → fits ≡ true
    → after_done nub (if fits then (true, with_input bytes m) else (false, m)) ≡ (Some msg.Done, host nub (with_input bytes m))
given_all nub bytes m true e = refl
given_all nub bytes m false e = cc

input_handled : (b : Behaviour) (side : LinkSide) (bytes : List ℕ) → IsAtRest side → side.host.machine.given + length bytes ≤ 2 ^ 24
    → handled b (msg.Input bytes) side.host ≡ (Some msg.Done, host side.host.nub (with_input bytes side.host.machine))
unfolding handled served
input_handled b side bytes rest room =
    let e : nat_le (side.host.machine.given + length bytes) (2 ^ 24) ≡ true = grind (arith, nat_tests) in
    chosen side.host.nub.blocked side.host.nub.killed _ _ _ rest.idle.takes rest.lives ∙ given_all side.host.nub bytes side.host.machine (nat_le (side.host.machine.given + length bytes) (2 ^ 24)) e

pub short_laws : (b : Behaviour) → ShortLaws b
short_laws b = record {
  memory = record { fetches = λ at s h. refl; stores = λ at s v h. refl };
  hello = λ (side : LinkSide) (rest : IsAtRest side). record { fits = tt; reply_fits = omega arith; is = hello_handled b side rest; none_open = rest.idle.none_open; takes = rest.idle.takes };
  input = λ (side : LinkSide) (bytes : List ℕ) (rest : IsAtRest side) (fits : IsChunk bytes) room.
      record { fits = fits; reply_fits = tt; is = input_handled b side bytes rest room; none_open = rest.idle.none_open; takes = rest.idle.takes };
  kill = λ (side : LinkSide) (rest : IsAtRest side). record { fits = tt; reply_fits = tt; is = kill_handled b side rest; none_open = rest.idle.none_open; takes = rest.idle.takes };
}
