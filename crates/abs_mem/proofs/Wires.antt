-- The memory behind a link.
use Rattle.std.proofs.Common.{◌≡◌, ◌∙◌, refl, sym, ap, subst, inl, inr, ℕ, ◌^◌, ◌<◌, Bool, true, false, List, [], Option, Some, None, Result, Ok, Err, IfOk}
use Rattle.ldb_words.specs.declared.kinds.Order.{Order}
use Rattle.ldb_words.specs.declared.kinds.Kind.{Kind}
use Rattle.ldb_words.specs.declared.kinds.Kind.TheVariants.{Byte, Word, Address}
use Rattle.ldb_words.specs.declared.event.Outside.{Outside as OutsideError}
use Rattle.ldb_edge.specs.Count.{Rose}
use Rattle.machine_state.specs.Regions.{Regions, read_of, write_of}
use Rattle.machine_state.specs.State.{MachineState, order_of}
use Rattle.nub_wire.specs.declared.link.Side.{Side}
use Rattle.nub_wire.specs.declared.message.Size.{Size}
use Rattle.nub_wire.specs.declared.message.Size.TheVariants as size
use Rattle.nub_wire.specs.declared.message.Msg.{Msg}
use Rattle.nub_wire.specs.declared.message.Msg.TheVariants as msg
use Rattle.nub_wire.specs.Spelling.{frame_of, size_byte}
use Rattle.nub_wire.specs.declared.reply.Heard.TheVariants.{Ends}
use Rattle.nub_wire.specs.Replies.{heard, ending}
use Rattle.nub_wire.specs.Nub.{NubState, Host, host, fetch_reply}
use Rattle.nub_wire.specs.Delivery.{Conduct, LinkSide, World, side_of}
use Rattle.nub_wire.specs.Rest.{IsIdle, IsAtRest, other, KeepsOther}
use Rattle.nub_wire.specs.Calls.{Asks, took_on, gave_on}
use Rattle.nub_wire.specs.Exchange.{RepliesAtOnce, Exchanged}
use Rattle.nub_wire.specs.AtOnce.{MeetsMemory, FetchLaw, StoreLaw, fetch_of, store_of, store_reply, after_store}
use Rattle.machine_state.specs.Sound.{IsMemory, IsWidth}
use Rattle.machine_state.proofs.SoundMemory.{write_memory}
use Rattle.wire_talk.specs.declared.fault.TalkFault.{TalkFault}
use Rattle.wire_talk.specs.declared.fault.TalkFault.TheVariants as talk
use Rattle.wire_talk.specs.Talk.{CountsTalk, TellsReply, Came, Talks}
use Rattle.frame_bytes.specs.declared.frame.Space.{Space}
use Rattle.frame_bytes.specs.declared.frame.Space.TheVariants.{Memory}
use Rattle.frame_bytes.specs.declared.frame.Place.{Place}
use Rattle.frame_bytes.specs.Bytes.{Bytes, fetched, stored, width_of, or_none, no_regions, no_places}
use Rattle.abs_mem.specs.Meaning.{Seen, Same, OnTold, Untold, Stored, Fetches, Stores, Led}
use Rattle.abs_mem.specs.declared.memory.MemFault.{MemFault}
use Rattle.abs_mem.specs.declared.memory.MemFault.TheVariants.{Outside, LinkFault, BadReply}
use Rattle.abs_mem.specs.WireMeaning.{WireLeads, WireRest, WireTells, IsBeside, memory_of, rest_of, wire_seen, size_of, fetched_by, stored_by, Exchanges, none_more, asks, badly}

abbrev place_at : Space → ℕ → Place
place_at s at = record { space = s; at = at }

abbrev pub in_memory : ℕ → Place
in_memory at = record { space = Memory; at = at }

same_size : (k : Kind) → size_byte (size_of k) ≡ width_of k
same_size Byte = refl
same_size Word = refl
same_size Address = refl

-- ---- after an exchange

beside_kept : (side : Side) (w w' : World) (x : Option Host) (o : Option LinkSide) → o ≡ side_of (other side) w → KeepsOther side w w' → IsBeside o x → IsBeside (side_of (other side) w') x
beside_kept side w w' None o e k h = tt
beside_kept side w w' (Some g) None e k h = absurd h
beside_kept side w w' (Some g) (Some s) e k h = subst (λ (y : Option LinkSide). IsBeside y (Some g)) (sym (k s (sym e) h.0)) h

abbrev blank : MachineState → MachineState
blank m = record m { memory = no_regions }

abbrev rest_from : Side → Order → NubState → MachineState → Option Host → WireRest
rest_from side order nub m beside = record { side = side; order = order; nub = nub; machine = m; beside = beside }

-- what is told after an exchange that left a nub and machine of the same kind
tells_after : (c : Conduct) (o o' : Option World) (side : Side) (order : Order) (b : Bytes) (r : WireRest) (t : WireTells c o side order b r) (h : Host) (w' : World)
    → o' ≡ Some w' → Exchanged side h t.world w' → h.nub ≡ t.now.host.nub → (record h.machine { memory = no_regions }) ≡ (record t.now.host.machine { memory = no_regions })
    → IsMemory h.machine.memory → order_of h.machine ≡ order_of t.now.host.machine → WireTells c o' side order (memory_of h.machine) r
tells_after c o o' side order b r t h w' is x nub machine holds same =
    let host_is : x.now.host ≡ h = x.host_is in
    let rest_is : r ≡ rest_of side order x.now.host r.beside =
    t.rest_is
    ∙ ap (λ (n : NubState). rest_from side order n (blank t.now.host.machine) r.beside) (sym nub)
    ∙ ap (λ (m : MachineState). rest_from side order h.nub m r.beside) (sym machine)
    ∙ ap (λ (g : Host). rest_of side order g r.beside) (sym host_is) in
    record {
      meets = t.meets;
      world = w';
      told = is;
      now = x.now;
      there = x.there;
      rest = record { idle = x.idle; lives = ap (λ (g : Host). g.nub.killed) host_is ∙ ap (λ n. n.killed) nub ∙ t.rest.lives; none_gathered = ap (λ (g : Host). g.nub.output) host_is ∙ ap (λ n. n.output) nub ∙ t.rest.none_gathered };
      holds = subst (λ (g : Host). IsMemory g.machine.memory) (sym host_is) holds;
      order_is = t.order_is ∙ sym (ap (λ (g : Host). order_of g.machine) host_is ∙ same);
      bytes_are = ap (λ (g : Host). memory_of g.machine) (sym host_is);
      rest_is = rest_is;
      beside = beside_kept side t.world w' r.beside (side_of (other side) t.world) refl x.keeps t.beside;
    }

-- ---- a fetch

fetch_replies : (at : ℕ) (s : Size) (r : Msg) → heard (msg.Fetch at s) 0 r ≡ Ends → (msg.Outside ≡ r → ⊥) → ((v : ℕ) → msg.Word v ≡ r → ⊥) → ⊥
fetch_replies at size.Byte (msg.Word v) e no_out no_word = no_word v refl
fetch_replies at size.Word (msg.Word v) e no_out no_word = no_word v refl
fetch_replies at size.Byte msg.Outside e no_out no_word = no_out refl
fetch_replies at size.Word msg.Outside e no_out no_word = no_out refl
fetch_replies at size.Byte _ e no_out no_word = cc
fetch_replies at size.Word _ e no_out no_word = cc

read_some : (o : Result ℕ OutsideError) (v : ℕ) → msg.Word v ≡ fetch_reply o → or_none o ≡ Some v
read_some (Ok x) v e = let same : v ≡ x = cc in ap (λ (n : ℕ). Some n) (sym same)
read_some (Err x) v e = cc

read_none : (o : Result ℕ OutsideError) → msg.Outside ≡ fetch_reply o → or_none o ≡ None
read_none (Ok x) e = cc
read_none (Err x) e = refl

-- what the bytes of a machine give
fetched_memory : (m : MachineState) (at : ℕ) (k : Kind) → fetched (memory_of m) Memory at k ≡ or_none (read_of (order_of m) m.memory at (size_byte (size_of k)))
unfolding fetched
fetched_memory m at k = ap (λ (n : ℕ). or_none (read_of (order_of m) m.memory at n)) (sym (same_size k))

-- the exchange of a fetch where the wire tells its bytes
pub record Fetched (c : Conduct) (o o' : Option World) (side : Side) (order : Order) (at : ℕ) (k : Kind) (x : Msg) (b : Bytes) (r : WireRest) : Type 0 where
  pub tells : WireTells c o' side order b r
  pub some : (v : ℕ) → x ≡ msg.Word v → fetched b Memory at k ≡ Some v
  pub none : x ≡ msg.Outside → fetched b Memory at k ≡ None

fetched_told : (c : Conduct) → FetchLaw c → (o o' : Option World) (side : Side) (order : Order) (at : ℕ) (k : Kind) (x : Msg) → at < 2 ^ 32
    → ((w : World) → o ≡ Some w → TellsReply c side (msg.Fetch at (size_of k)) w (Ok x) o') → (b : Bytes) (r : WireRest) → WireTells c o side order b r → Fetched c o o' side order at k x b r
fetched_told c law o o' side order at k x small tell b r t =
    let m = t.now.host.machine in
    let l = law t.now at (size_of k) t.meets t.rest t.holds small in
    let came = tell t.world t.told t.now (fetch_of m at (size_of k)) t.now.host t.there t.rest.idle l.0 (ap ending l.1) in
    let after : WireTells c o' side order (memory_of m) r = tells_after c o o' side order b r t t.now.host came.1 came.2 came.3 refl refl t.holds refl in
    let read = read_of (order_of m) m.memory at (size_byte (size_of k)) in
    record {
      tells = subst (λ (y : Bytes). WireTells c o' side order y r) (sym t.bytes_are) after;
      some = λ (v : ℕ) (e : x ≡ msg.Word v). ap (λ (y : Bytes). fetched y Memory at k) t.bytes_are ∙ fetched_memory m at k ∙ read_some read v (sym e ∙ came.0);
      none = λ (e : x ≡ msg.Outside). ap (λ (y : Bytes). fetched y Memory at k) t.bytes_are ∙ fetched_memory m at k ∙ read_none read (sym e ∙ came.0);
    }

pub wire_fetches : (c : Conduct) → FetchLaw c → (o o' : Option World) (f f' : ℕ) (side : Side) (order : Order) (at : ℕ) (k : Kind) (asked : Result Msg TalkFault) → at < 2 ^ 32
    → CountsTalk f asked f' → IfOk asked (λ r. heard (msg.Fetch at (size_of k)) 0 r ≡ Ends)
    → ((w : World) → o ≡ Some w → TellsReply c side (msg.Fetch at (size_of k)) w asked o')
    → Fetches (wire_seen c o f side order) (in_memory at) k (fetched_by (in_memory at) asked) (wire_seen c o' f' side order)
wire_fetches c law o o' f f' side order at k (Ok (msg.Word v)) small counts ends tell = (
  record { faults = counts; keeps = λ b r t. (fetched_told c law o o' side order at k (msg.Word v) small tell b r t).tells },
  record { holds = λ b r t. (fetched_told c law o o' side order at k (msg.Word v) small tell b r t).some v refl },
)
wire_fetches c law o o' f f' side order at k (Ok msg.Outside) small counts ends tell = (
  refl,
  record { faults = counts; keeps = λ b r t. (fetched_told c law o o' side order at k msg.Outside small tell b r t).tells },
  record { holds = λ b r t. (fetched_told c law o o' side order at k msg.Outside small tell b r t).none refl },
)
wire_fetches c law o o' f f' side order at k (Ok x) small counts ends tell = absurd (fetch_replies at (size_of k) x ends (λ e. (cc)) (λ v e. (cc)))
wire_fetches c law o o' f f' side order at k (Err talk.LinkFault) small counts ends tell = counts
wire_fetches c law o o' f f' side order at k (Err (talk.BadReply frame)) small counts ends tell =
    record {
      faults = counts;
      never = λ (b : Bytes) (r : WireRest) (t : WireTells c o side order b r).
          let l = law t.now at (size_of k) t.meets t.rest t.holds small in
          tell t.world t.told t.now (fetch_of t.now.host.machine at (size_of k)) t.now.host t.there t.rest.idle l.0 (ap ending l.1);
    }

-- ---- a store

store_replies : (at v : ℕ) (s : Size) (r : Msg) → heard (msg.Store at s v) 0 r ≡ Ends → (msg.Outside ≡ r → ⊥) → (msg.Done ≡ r → ⊥) → ⊥
store_replies at v s msg.Done e no_out no_done = no_done refl
store_replies at v s msg.Outside e no_out no_done = no_out refl
store_replies at v s _ e no_out no_done = cc

abbrev pub put_back : Bytes → Option Regions → Option Bytes
put_back b None = None
put_back b (Some r) = Some (record b { regions = r })

stored_memory : (m : MachineState) (at : ℕ) (k : Kind) (v : ℕ) → stored (memory_of m) Memory at k v ≡ put_back (memory_of m) (or_none (store_of m at (size_of k) v))
unfolding stored
stored_memory m at k v = ap (λ (n : ℕ). put_back (memory_of m) (or_none (write_of (order_of m) m.memory at n v))) (sym (same_size k))

-- the exchange of a store where the wire tells its bytes
pub record Put (c : Conduct) (o o' : Option World) (side : Side) (order : Order) (at : ℕ) (k : Kind) (v : ℕ) (x : Msg) (b : Bytes) (r : WireRest) : Type 0 where
  pub done : x ≡ msg.Done → (b' : Bytes) × (stored b Memory at k v ≡ Some b') × WireTells c o' side order b' r
  pub none : x ≡ msg.Outside → (stored b Memory at k v ≡ None) × WireTells c o' side order b r

stored_case : (c : Conduct) (o o' : Option World) (side : Side) (order : Order) (at : ℕ) (k : Kind) (v : ℕ) (x : Msg) (b : Bytes) (r : WireRest) (t : WireTells c o side order b r)
    (w' : World) (res : Result Regions OutsideError) → ((y : Regions) → res ≡ Ok y → IsMemory y) → store_of t.now.host.machine at (size_of k) v ≡ res → x ≡ store_reply res → o' ≡ Some w'
    → Exchanged side (after_store res t.now.host) t.world w' → Put c o o' side order at k v x b r
stored_case c o o' side order at k v x b r t w' (Ok y) kept e is there came =
    let m = t.now.host.machine in
    let after : MachineState = record m { memory = y } in
    let told : WireTells c o' side order (memory_of after) r = tells_after c o o' side order b r t (host t.now.host.nub after) w' there came refl refl (kept y refl) refl in
    record {
      done = λ (d : x ≡ msg.Done). (memory_of after, ap (λ (z : Bytes). stored z Memory at k v) t.bytes_are ∙ stored_memory m at k v ∙ ap (λ (z : Result Regions OutsideError). put_back (memory_of m) (or_none z)) e, told);
      none = λ (d : x ≡ msg.Outside). let both : msg.Done ≡ msg.Outside = sym is ∙ d in (cc);
    }
stored_case c o o' side order at k v x b r t w' (Err y) kept e is there came =
    let m = t.now.host.machine in
    let told : WireTells c o' side order (memory_of m) r = tells_after c o o' side order b r t t.now.host w' there came refl refl t.holds refl in
    record {
      done = λ (d : x ≡ msg.Done). let both : msg.Outside ≡ msg.Done = sym is ∙ d in (cc);
      none = λ (d : x ≡ msg.Outside). (
        ap (λ (z : Bytes). stored z Memory at k v) t.bytes_are ∙ stored_memory m at k v ∙ ap (λ (z : Result Regions OutsideError). put_back (memory_of m) (or_none z)) e,
        subst (λ (z : Bytes). WireTells c o' side order z r) (sym t.bytes_are) told,
      );
    }

is_width : (s : Size) → IsWidth (size_byte s)
is_width size.Byte = inl refl
is_width size.Word = inr (inr refl)

kept_in : (x : Result Regions OutsideError) (y : Regions) → x ≡ Ok y → IfOk x IsMemory → IsMemory y
kept_in x y e h = subst (λ (z : Result Regions OutsideError). IfOk z IsMemory) e h

stored_told : (c : Conduct) → StoreLaw c → (o o' : Option World) (side : Side) (order : Order) (at : ℕ) (k : Kind) (v : ℕ) (x : Msg) → at < 2 ^ 32 → v < 2 ^ 32
    → ((w : World) → o ≡ Some w → TellsReply c side (msg.Store at (size_of k) v) w (Ok x) o') → (b : Bytes) (r : WireRest) → WireTells c o side order b r → Put c o o' side order at k v x b r
stored_told c law o o' side order at k v x small fits tell b r t =
    let m = t.now.host.machine in
    let res = store_of m at (size_of k) v in
    let l = law t.now at (size_of k) v t.meets t.rest small fits in
    let came = tell t.world t.told t.now (store_reply res) (after_store res t.now.host) t.there t.rest.idle l.0 (ap ending l.1) in
    stored_case c o o' side order at k v x b r t came.1 res (λ (y : Regions) e. kept_in res y e (write_memory (order_of m) m.memory at (size_byte (size_of k)) v (is_width (size_of k)) t.holds)) refl came.0 came.2 came.3

pub wire_stores : (c : Conduct) → StoreLaw c → (o o' : Option World) (f f' : ℕ) (side : Side) (order : Order) (at : ℕ) (k : Kind) (v : ℕ) (asked : Result Msg TalkFault)
    → at < 2 ^ 32 → v < 2 ^ 32 → CountsTalk f asked f' → IfOk asked (λ r. heard (msg.Store at (size_of k) v) 0 r ≡ Ends)
    → ((w : World) → o ≡ Some w → TellsReply c side (msg.Store at (size_of k) v) w asked o')
    → Stores (wire_seen c o f side order) (in_memory at) k v (stored_by (in_memory at) asked) (wire_seen c o' f' side order)
wire_stores c law o o' f f' side order at k v (Ok msg.Done) small fits counts ends tell =
    record { faults = counts; after = λ b r t. (stored_told c law o o' side order at k v msg.Done small fits tell b r t).done refl }
wire_stores c law o o' f f' side order at k v (Ok msg.Outside) small fits counts ends tell = (
  refl,
  record { faults = counts; keeps = λ b r t. ((stored_told c law o o' side order at k v msg.Outside small fits tell b r t).none refl).1 },
  record { holds = λ b r t. ((stored_told c law o o' side order at k v msg.Outside small fits tell b r t).none refl).0 },
)
wire_stores c law o o' f f' side order at k v (Ok x) small fits counts ends tell = absurd (store_replies at v (size_of k) x ends (λ e. (cc)) (λ e. (cc)))
wire_stores c law o o' f f' side order at k v (Err talk.LinkFault) small fits counts ends tell = counts
wire_stores c law o o' f f' side order at k v (Err (talk.BadReply frame)) small fits counts ends tell =
    record {
      faults = counts;
      never = λ (b : Bytes) (r : WireRest) (t : WireTells c o side order b r).
          let res = store_of t.now.host.machine at (size_of k) v in
          let l = law t.now at (size_of k) v t.meets t.rest small fits in
          tell t.world t.told t.now (store_reply res) (after_store res t.now.host) t.there t.rest.idle l.0 (ap ending l.1);
    }

-- ---- the calls

pub ends_of : {S : Type 0} (took : S → List ℕ → ℕ → S → Type 0) (gave : S → ℕ → List ℕ → S → Type 0) (m : Msg) (s u : S) (asked : Result Msg TalkFault)
    → Talks took gave m s asked u → IfOk asked (λ r. heard m 0 r ≡ Ends)
ends_of took gave m s u (Ok r) h = h.ends
ends_of took gave m s u (Err fault) h = tt

pub led_fetch : {S : Type 0} (took : S → List ℕ → ℕ → S → Type 0) (gave : S → ℕ → List ℕ → S → Type 0) (m : Msg) (p : Place) (s u : S) (asked : Result Msg TalkFault)
    → Talks took gave m s asked u → Led (Exchanges took gave) s (fetched_by p asked) u
led_fetch took gave m p s u (Ok (msg.Word v)) h = asks m (msg.Word v) h none_more
led_fetch took gave m p s u (Ok x) h = asks m x h none_more
led_fetch took gave m p s u (Err talk.LinkFault) h = tt
led_fetch took gave m p s u (Err (talk.BadReply frame)) h = badly m h

pub led_store : {S : Type 0} (took : S → List ℕ → ℕ → S → Type 0) (gave : S → ℕ → List ℕ → S → Type 0) (m : Msg) (p : Place) (s u : S) (asked : Result Msg TalkFault)
    → Talks took gave m s asked u → Led (Exchanges took gave) s (stored_by p asked) u
led_store took gave m p s u (Ok msg.Done) h = asks m msg.Done h none_more
led_store took gave m p s u (Ok x) h = asks m x h none_more
led_store took gave m p s u (Err talk.LinkFault) h = tt
led_store took gave m p s u (Err (talk.BadReply frame)) h = badly m h

-- ---- places that a wire doesn't hold

pub wire_no_fetch : (c : Conduct) (o : Option World) (f : ℕ) (side : Side) (order : Order) (p : Place) (k : Kind)
    → ((b : Bytes) → b.registers ≡ no_places → b.cell ≡ None → fetched b p.space p.at k ≡ None)
    → Fetches (wire_seen c o f side order) p k (Err (Outside p)) (wire_seen c o f side order)
wire_no_fetch c o f side order p k none = (
  refl,
  record { faults = refl; keeps = λ b r t. t },
  record { holds = λ (b : Bytes) (r : WireRest) (t : WireTells c o side order b r). none b (ap (λ (z : Bytes). z.registers) t.bytes_are) (ap (λ (z : Bytes). z.cell) t.bytes_are) },
)

pub wire_no_store : (c : Conduct) (o : Option World) (f : ℕ) (side : Side) (order : Order) (p : Place) (k : Kind) (v : ℕ)
    → ((b : Bytes) → b.registers ≡ no_places → b.cell ≡ None → stored b p.space p.at k v ≡ None)
    → Stores (wire_seen c o f side order) p k v (Err (Outside p)) (wire_seen c o f side order)
wire_no_store c o f side order p k v none = (
  refl,
  record { faults = refl; keeps = λ b r t. t },
  record { holds = λ (b : Bytes) (r : WireRest) (t : WireTells c o side order b r). none b (ap (λ (z : Bytes). z.registers) t.bytes_are) (ap (λ (z : Bytes). z.cell) t.bytes_are) },
)

-- ---- as the code has it

at_memory : (p : Place) → p.space ≡ Memory → p ≡ in_memory p.at
at_memory p e = ap (λ (s : Space). place_at s p.at) e

pub fetches_here : (c : Conduct) → FetchLaw c → (o o' : Option World) (f f' : ℕ) (side : Side) (order : Order) (p : Place) (k : Kind) (sz : Size) (asked : Result Msg TalkFault) (result : Result ℕ MemFault)
    → p.space ≡ Memory → p.at < 2 ^ 32 → sz ≡ size_of k → CountsTalk f asked f' → IfOk asked (λ r. heard (msg.Fetch p.at sz) 0 r ≡ Ends)
    → ((w : World) → o ≡ Some w → TellsReply c side (msg.Fetch p.at sz) w asked o') → result ≡ fetched_by p asked
    → Fetches (wire_seen c o f side order) p k result (wire_seen c o' f' side order)
fetches_here c law o o' f f' side order p k sz asked result there small size_is counts ends tell is =
    let ends' = subst (λ (z : Size). IfOk asked (λ r. heard (msg.Fetch p.at z) 0 r ≡ Ends)) size_is ends in
    let tell' = subst (λ (z : Size). (w : World) → o ≡ Some w → TellsReply c side (msg.Fetch p.at z) w asked o') size_is tell in
    let y = wire_fetches c law o o' f f' side order p.at k asked small counts ends' tell' in
    let z = subst (λ (q : Place). Fetches (wire_seen c o f side order) q k (fetched_by q asked) (wire_seen c o' f' side order)) (sym (at_memory p there)) y in
    subst (λ (x : Result ℕ MemFault). Fetches (wire_seen c o f side order) p k x (wire_seen c o' f' side order)) (sym is) z

pub stores_here : (c : Conduct) → StoreLaw c → (o o' : Option World) (f f' : ℕ) (side : Side) (order : Order) (p : Place) (k : Kind) (v : ℕ) (sz : Size)
    (asked : Result Msg TalkFault) (result : Result Unit MemFault) → p.space ≡ Memory → p.at < 2 ^ 32 → v < 2 ^ 32 → sz ≡ size_of k → CountsTalk f asked f'
    → IfOk asked (λ r. heard (msg.Store p.at sz v) 0 r ≡ Ends) → ((w : World) → o ≡ Some w → TellsReply c side (msg.Store p.at sz v) w asked o') → result ≡ stored_by p asked
    → Stores (wire_seen c o f side order) p k v result (wire_seen c o' f' side order)
stores_here c law o o' f f' side order p k v sz asked result there small fits size_is counts ends tell is =
    let ends' = subst (λ (z : Size). IfOk asked (λ r. heard (msg.Store p.at z v) 0 r ≡ Ends)) size_is ends in
    let tell' = subst (λ (z : Size). (w : World) → o ≡ Some w → TellsReply c side (msg.Store p.at z v) w asked o') size_is tell in
    let y = wire_stores c law o o' f f' side order p.at k v asked small fits counts ends' tell' in
    let z = subst (λ (q : Place). Stores (wire_seen c o f side order) q k v (stored_by q asked) (wire_seen c o' f' side order)) (sym (at_memory p there)) y in
    subst (λ (x : Result Unit MemFault). Stores (wire_seen c o f side order) p k v x (wire_seen c o' f' side order)) (sym is) z

-- calls on one side of the link of a wire are calls of the wire
abbrev pub leads_by : {W S : Type 0} → (S → Side → List ℕ → ℕ → S → Type 0) → (S → Side → ℕ → List ℕ → S → Type 0) → (W → S) → (W → Side) → W → Option (List ℕ) → W → Type 0
leads_by took gave link side a o b = WireLeads took gave (link a) (side a) o (link b) (side b)

pub led_by : {W S A : Type 0} (took : S → Side → List ℕ → ℕ → S → Type 0) (gave : S → Side → ℕ → List ℕ → S → Type 0) (link : W → S) (side : W → Side) (a b : W) (r : Result A MemFault)
    → side b ≡ side a → Led (Exchanges (took_on took (side a)) (gave_on gave (side a))) (link a) r (link b) → Led (leads_by took gave link side) a r b
led_by took gave link side a b (Ok x) e h = record { side_is = e; calls = h }
led_by took gave link side a b (Err (Outside q)) e h = record { side_is = e; calls = h }
led_by took gave link side a b (Err LinkFault) e h = tt
led_by took gave link side a b (Err (BadReply frame)) e h = record { side_is = e; calls = h }
