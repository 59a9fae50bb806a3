-- What the messages before a session leave of a nub.
use Rattle.std.proofs.Common.{◌≡◌, ◌∙◌, refl, sym, ap, subst, ℕ, zero, suc, ◌+◌, ◌≤◌, ◌^◌, nat_le, Bool, true, false, if◌then◌else◌, List, [], ◌∷◌, ◌++◌, length, take, drop, Option, Some, None, Result, Ok, Err, arith, length-append, append-nil, add-zero}
use Rattle.std.proofs.lemmas.List.{append_assoc}
use Rattle.ldb_edge.specs.Count.{Rose}
use Rattle.machine_state.specs.declared.layout.TheConstants.{CONTEXT}
use Rattle.machine_state.specs.State.{MachineState, Behaviour, with_input}
use Rattle.nub_wire.specs.declared.link.Side.{Side}
use Rattle.nub_wire.specs.declared.message.Msg.{Msg}
use Rattle.nub_wire.specs.declared.message.Msg.TheVariants as msg
use Rattle.nub_wire.specs.declared.reply.Heard.TheVariants.{Ends}
use Rattle.nub_wire.specs.Replies.{heard}
use Rattle.nub_wire.specs.Spelling.{IsChunk}
use Rattle.nub_wire.specs.Nub.{Host, host, first_host}
use Rattle.nub_wire.specs.Delivery.{Conduct, nubs_over, LinkSide, World, side_of}
use Rattle.nub_wire.specs.Rest.{other, KeepsOther}
use Rattle.nub_wire.specs.Exchange.{RepliesAtOnce, Exchanged, at_once}
use Rattle.nub_wire.specs.Fits.{TellsFitting}
use Rattle.nub_wire.proofs.AtOnce.{short_laws}
use Rattle.nub_wire.proofs.NoBadReplies.{nubs_stay}
use Rattle.wire_talk.specs.declared.fault.TalkFault.{TalkFault}
use Rattle.wire_talk.specs.declared.fault.TalkFault.TheVariants as talk
use Rattle.wire_talk.specs.Talk.{Came, TellsReply, CountsTalk}
use Rattle.abs_mem.specs.WireMeaning.{IsBeside}
use Rattle.resuming.specs.Standing.{Stands}
use Rattle.std.specs.List.{AllByRecursion}
use Rattle.std.proofs.lemmas.Bool.Decides.{nat_tests}
use Rattle.ldb_words.specs.declared.kinds.Order.TheVariants.{Little, Big}
use Rattle.machine_state.specs.State.{order_of_target}
use Rattle.ps_store.specs.declared.object.Part.TheVariants.{Command}
use Rattle.ps_store.specs.StoreState.{StoreState}
use Rattle.table_points.specs.Named.{IsNamed}
use Rattle.side_meaning.specs.Standing.{Debugged}
use Rattle.side_meaning.specs.Asking.{IsNamedEvent}
use Rattle.session.specs.declared.answers.StartFault.{StartFault}
use Rattle.session.specs.declared.answers.StartFault.TheVariants.{Target, NoMemory}
use Rattle.session.specs.declared.sides.Machine.{Machine}
use Rattle.session.specs.declared.sides.Machine.TheVariants as machine
use Rattle.session.specs.declared.sides.SideRecord.{SideRecord}
use Rattle.session.specs.Turned.{byte_of, order_of}
use Rattle.side_meaning.proofs.Starting.{begin}
use Rattle.nub_wire.specs.declared.link.Side.TheVariants.{First, Second}
use Rattle.session.specs.declared.modes.Mode.TheVariants.{Fresh}
use Rattle.session.specs.Meant.{debugged, Represents}
use Rattle.session.specs.Starting.{target_in, given_to, begun_host, IsFirst, AreFirst, IsBegun, StartsAs, one_session, two_session}
use Rattle.session.proofs.Beside.{stands_beside, first_beside}

beside_kept : (side : Side) (w w' : World) (x : Option Host) (o : Option LinkSide) → o ≡ side_of (other side) w → KeepsOther side w w' → IsBeside o x → IsBeside (side_of (other side) w') x
beside_kept side w w' None o e k h = tt
beside_kept side w w' (Some g) None e k h = absurd h
beside_kept side w w' (Some g) (Some s) e k h = subst (λ (y : Option LinkSide). IsBeside y (Some g)) (sym (k s (sym e) h.0)) h

-- this was replied, and the nub and machine stand so
abbrev pub Replied : Behaviour → Conduct → Side → Msg → Host → Option Host → Result Msg TalkFault → Option World → Type 0
Replied b c side r h beside (Ok y) o = (y ≡ r) × Stands b c side o h beside
Replied b c side r h beside (Err talk.LinkFault) o = Unit {0}
Replied b c side r h beside (Err (talk.BadReply frame)) o = ⊥

module _ (b : Behaviour) (c : Conduct) (side : Side) (o : Option World) (h : Host) (beside : Option Host) (x : Stands b c side o h beside) where
  -- by a message that is replied to at once
  module _ (m r : Msg) (h' : Host) (lives : h'.nub.killed ≡ false) (none : h'.nub.output ≡ []) (fits : TellsFitting b h') where
    stands : (u : World) (o' : Option World) → o' ≡ Some u → Exchanged side h' x.world u → Stands b c side o' h' beside
    stands u o' told done = record {
      conduct = x.conduct;
      world = u;
      told = told;
      now = done.now;
      there = done.there;
      rest = record { idle = done.idle; lives = ap (λ (g : Host). g.nub.killed) done.host_is ∙ lives; none_gathered = ap (λ (g : Host). g.nub.output) done.host_is ∙ none };
      host_is = done.host_is;
      fits = fits;
      beside_is = beside_kept side x.world u beside (side_of (other side) x.world) refl done.keeps x.beside_is;
    }

    replied_by : (result : Result Msg TalkFault) (o' : Option World) → Came side r h' x.world result o' → Replied b c side r h' beside result o'
    replied_by (Ok y) o' came = (came.0, stands came.1 o' came.2 came.3)
    replied_by (Err talk.LinkFault) o' came = tt
    replied_by (Err (talk.BadReply f)) o' came = came

    replied : RepliesAtOnce c m x.now.host r h' → heard m 0 r ≡ Ends → (result : Result Msg TalkFault) (o' : Option World) → ((w : World) → o ≡ Some w → TellsReply c side m w result o')
        → Replied b c side r h' beside result o'
    replied now ends result o' tells = replied_by result o' (tells x.world x.told x.now r h' x.there x.rest.idle now ends)

  abbrev fits_now : TellsFitting b x.now.host
  fits_now = subst (TellsFitting b) (sym x.host_is) x.fits

  over : (P : Conduct → Type 0) → P (nubs_over b) → P c
  over P p = subst P (sym x.conduct) p

  -- the address of the context block is told
  pub hello : (result : Result Msg TalkFault) (o' : Option World) → ((w : World) → o ≡ Some w → TellsReply c side msg.Hello w result o') → Replied b c side (msg.Word CONTEXT) h beside result o'
  hello result o' tells =
      subst (λ (g : Host). Replied b c side (msg.Word CONTEXT) g beside result o') x.host_is
      (replied msg.Hello (msg.Word CONTEXT) x.now.host x.rest.lives x.rest.none_gathered fits_now
      (over (λ (d : Conduct). RepliesAtOnce d msg.Hello x.now.host (msg.Word CONTEXT) x.now.host) ((short_laws b).hello x.now x.rest)) refl result o' tells)

  -- a piece of the input is taken
  pub gives : (bytes : List ℕ) → IsChunk bytes → h.machine.given + length bytes ≤ 16777216 → (result : Result Msg TalkFault) (o' : Option World) → ((w : World) → o ≡ Some w → TellsReply c side (msg.Input bytes) w result o')
      → Replied b c side msg.Done (given_to bytes h) beside result o'
  gives bytes chunk room result o' tells =
      let within : x.now.host.machine.given + length bytes ≤ 16777216 = subst (λ (g : Host). g.machine.given + length bytes ≤ 16777216) (sym x.host_is) room in
      let now = (short_laws b).input x.now bytes x.rest chunk within in
      let goes = nubs_stay b (msg.Input bytes) x.now.host (given_to bytes x.now.host) _ fits_now x.rest.idle.takes x.rest.none_gathered chunk (at_once msg.Done now.is now.none_open) in
      subst (λ (g : Host). Replied b c side msg.Done (given_to bytes g) beside result o') x.host_is
      (replied (msg.Input bytes) msg.Done (given_to bytes x.now.host) x.rest.lives x.rest.none_gathered goes.0 (over (λ (d : Conduct). RepliesAtOnce d (msg.Input bytes) x.now.host msg.Done (given_to bytes x.now.host)) now) refl result o' tells)

-- where no reply came the link had counted its fault
pub counted : (b : Behaviour) (c : Conduct) (side : Side) (r : Msg) (h : Host) (beside : Option Host) (f : TalkFault) (o : Option World) (old new : ℕ)
    → Replied b c side r h beside (Err f) o → CountsTalk {A = Msg} old (Err f) new → Rose old new
counted b c side r h beside talk.LinkFault o old new said rose = rose
counted b c side r h beside (talk.BadReply frame) o old new said rose = absurd said

nothing_taken : (k : ℕ) → take {A = ℕ} k [] ≡ []
nothing_taken zero = refl
nothing_taken (suc k) = refl

-- the start of a list and the piece behind it
pub taken_more : (n m : ℕ) (xs : List ℕ) → take n xs ++ take m (drop n xs) ≡ take (n + m) xs
taken_more zero m xs = let e : m ≡ 0 + m = omega arith in ap (λ (k : ℕ). take k xs) e
taken_more (suc n) m [] = nothing_taken m ∙ sym (nothing_taken (suc n + m))
taken_more (suc n) m (x ∷ xs) = let e : suc (n + m) ≡ suc n + m = omega arith in ap (λ (l : List ℕ). x ∷ l) (taken_more n m xs) ∙ ap (λ (k : ℕ). take k (x ∷ xs)) e

-- input given in two pieces is given as one
given_with : (h : Host) (l l' : List ℕ) (g g' : ℕ) → l ≡ l' → g ≡ g' → host h.nub (record h.machine { left = l; given = g }) ≡ host h.nub (record h.machine { left = l'; given = g' })
given_with h l l' g g' e f = rw (e, f) refl

pub given_twice : (xs ys : List ℕ) (h : Host) → given_to ys (given_to xs h) ≡ given_to (xs ++ ys) h
given_twice xs ys h = given_with h _ _ _ _ (append_assoc h.machine.left xs ys) (omega (arith, length-append xs ys))

pub given_none : (h : Host) → given_to [] h ≡ h
given_none h = given_with h _ _ _ _ (append-nil h.machine.left) (omega arith)

taken_short : (n : ℕ) (xs : List ℕ) → length (take n xs) ≤ length xs
taken_short zero xs = omega arith
taken_short (suc n) [] = omega arith
taken_short (suc n) (x ∷ xs) = omega (arith, taken_short n xs)

-- the room for the whole is room for each piece
pub piece_room : (given n m : ℕ) (xs : List ℕ) → given + length xs ≤ 16777216 → given + length (take n xs) + length (take m (drop n xs)) ≤ 16777216
piece_room given n m xs room =
    omega (arith, room, taken_short (n + m) xs, ap length (taken_more n m xs), length-append (take n xs) (take m (drop n xs)))

-- ---- a side

pub not_begun : {A B : Type 0} (P : A → Type 0) (Q : B → Type 0) (old now new : ℕ) (fault : StartFault) → now ≡ old → StartsAs now new P (Err fault) → StartsAs old new Q (Err fault)
not_begun P Q old now new NoMemory e s = tt
not_begun P Q old now new Target e s = subst (λ (n : ℕ). Rose n new) e s

order_known : (k : Machine) (target : ℕ) → byte_of k ≡ target → order_of k ≡ order_of_target target
order_known machine.Mips target e = subst (λ (t : ℕ). Little ≡ order_of_target t) e refl
order_known machine.Sparc target e = subst (λ (t : ℕ). Big ≡ order_of_target t) e refl

abbrev given_if : List ℕ → MachineState → Bool → Bool × MachineState
given_if input m fits = if fits then (true, with_input input m) else (false, m)

given_whole : (input : List ℕ) (m : MachineState) (fits : Bool) → fits ≡ true → (given_if input m fits).1 ≡ with_input input m
given_whole input m true e = refl
given_whole input m false e = cc

pub side_begun : (b : Behaviour) (c : Conduct) (o o' : Option World) (r : SideRecord) (input : List ℕ) (m : MachineState) (beside : Option Host) (table : StoreState) → IsFirst b c o r.which m beside table → length input ≤ 16777216
    → Stands b c r.which o' (begun_host b input m) beside → r.context ≡ CONTEXT → byte_of r.machine ≡ target_in table → r.inquiry.core.store ≡ record table { part = Command } → r.frame ≡ 0 → r.row.breaks.items ≡ [] → r.row.step_words.items ≡ []
    → r.row.stands_at ≡ None → r.row.kept ≡ None → IsBegun b c o' r input m beside table
side_begun b c o o' r input m beside table f room x context known store frame breaks words at kept =
    let target : byte_of r.machine ≡ (b.saved m).1.target = known ∙ f.target in
    let fits : nat_le ((b.saved m).1.given + length input) (2 ^ 24) ≡ true = given_fits (b.saved m).1.given (length input) f.none_given room in
    let d : Debugged = debugged r (begun_host b input m) in
    record {
      there = record {
        stands = x;
        context = context;
        target = target;
        order = order_known r.machine (b.saved m).1.target target;
        names = record {
          breaks = subst (AllByRecursion (IsNamed d.table)) (sym breaks) tt;
          words = subst (AllByRecursion (IsNamed d.table)) (sym words) tt;
          kept = subst (IsNamedEvent d.table) (sym kept) tt;
        };
      };
      new = record {
        table_is = store;
        nothing = ap (λ (s : StoreState). s.command) store ∙ f.nothing;
        frame = frame;
        breaks = breaks;
        words = words;
        stands_at = at;
        kept = kept;
        machine = sym (given_whole input (b.saved m).1 (nat_le ((b.saved m).1.given + length input) (2 ^ 24)) fits);
        ended = refl;
      };
    }
  where
    given_fits : (g n : ℕ) → g ≡ 0 → n ≤ 16777216 → nat_le (g + n) (2 ^ 24) ≡ true
    given_fits g n e h = grind (arith, nat_tests)

-- one side that is begun represents the machine session of it
pub one_begun : (b : Behaviour) (c : Conduct) (o : Option World) (r : SideRecord) (second : Option SideRecord) (input : List ℕ) (m : MachineState) (table : StoreState) → r.which ≡ First → second ≡ None → IsBegun b c o r input m None table
    → Represents b c o r second Fresh 10000000 (record { first = begun_host b input m; second = None }) (one_session b input m table)
one_begun b c o r None input m table which none g = record {
  there = record { first_is = which; first_there = g.there; second_there = tt };
  sides = record { first = begin b input (debugged r (begun_host b input m)) (record table { part = Command }) m g.new; second = tt };
  state = refl;
  limit_is = refl;
}
one_begun b c o r (Some other) input m table which none g = cc

-- ---- two sides

-- once the first side is begun, the second one is as it was
pub second_first : (b : Behaviour) (c : Conduct) (o o' : Option World) (side : SideRecord) (input : List ℕ) (m n : MachineState) (table other : StoreState) → AreFirst b c o m n table other → side.which ≡ First
    → IsBegun b c o' side input m (Some (first_host b n)) table → IsFirst b c o' Second n (Some (begun_host b input m)) other
second_first b c o o' side input m n table other x which g = record {
  stands = stands_beside b c o o' (first_host b n) (begun_host b input m) (Some (first_host b m)) Second x.second.stands
      (subst (λ (w : Side). Stands b c w o' (begun_host b input m) (Some (first_host b n))) which g.there.stands);
  none_given = x.second.none_given;
  target = x.second.target;
  nothing = x.second.nothing;
}

-- both that are begun represent the machine session of them
pub two_begun : (b : Behaviour) (c : Conduct) (o1 o2 : Option World) (r : SideRecord) (q : SideRecord) (input : List ℕ) (m n : MachineState) (table other : StoreState) → r.which ≡ First → q.which ≡ Second
    → IsBegun b c o1 r input m (Some (first_host b n)) table → IsBegun b c o2 q input n (Some (begun_host b input m)) other
    → Represents b c o2 r (Some q) Fresh 10000000 (record { first = begun_host b input m; second = Some (begun_host b input n) }) (two_session b input m n table other)
two_begun b c o1 o2 r q input m n table other which second x y = record {
  there = record {
    first_is = which;
    first_there = first_beside b c o1 o2 r q (begun_host b input m) (begun_host b input n) (Some (first_host b n)) which x.there second y.there;
    second_there = (second, y.there);
  };
  sides = record {
    first = begin b input (debugged r (begun_host b input m)) (record table { part = Command }) m x.new;
    second = begin b input (debugged q (begun_host b input n)) (record other { part = Command }) n y.new;
  };
  state = refl;
  limit_is = refl;
}

-- a start that finds no target has counted a fault
pub target_rose : {A B : Type 0} (D : B → Type 0) (f f' : ℕ) (fault : StartFault) (r : Result A StartFault) → r ≡ Err fault → r ≡ Err Target → StartsAs f f' D (Err fault) → Rose f f'
target_rose D f f' Target r e e' x = x
target_rose D f f' NoMemory r e e' x = let no : ⊥ = cc in absurd no

pub no_target : {B : Type 0} (D : B → Type 0) (f f' : ℕ) (r : Result B StartFault) → r ≡ Err Target → StartsAs f f' D r → Rose f f'
no_target D f f' r e x = subst (λ (z : Result _ StartFault). StartsAs f f' D z) e x
