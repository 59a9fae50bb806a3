-- All sides before a resume, and before a command that doesn't resume.
use Rattle.std.proofs.Common.{◌≡◌, ◌≢◌, ◌∙◌, refl, sym, subst, ℕ, ◌≤◌, [], Option, Some, None, Result, Ok, Err, OnOk, IfErr, arith}
use Rattle.ldb_edge.specs.Count.{Rose}
use Rattle.machine_state.specs.State.{Behaviour}
use Rattle.nub_wire.specs.declared.link.Side.TheVariants.{First, Second}
use Rattle.nub_wire.specs.Nub.{Host}
use Rattle.nub_wire.specs.Delivery.{Conduct, World}
use Rattle.abs_mem.specs.declared.memory.MemFault.{MemFault}
use Rattle.abs_mem.specs.declared.memory.MemFault.TheVariants as mem
use Rattle.debug_side.proofs.Undoing.{all_undone}
use Rattle.table_asks.specs.declared.fault.AskFault.{AskFault}
use Rattle.table_asks.specs.declared.fault.AskFault.TheVariants.{Refused, Raised, Spent, NoMemory, Broken}
use Rattle.table_asks.specs.Faults.{IsUnbroken}
use Rattle.c_session.specs.Commands.{Resume, ByStep, ByContinue}
use Rattle.claims.specs.Side.{SideState, SessionState, Troubled, State, Fresh, Stopped, Running, Ended}
use Rattle.claims.specs.Lines.{Reply, trouble_reply}
use Rattle.claims.specs.Outcome as outcome
use Rattle.side_meaning.specs.Standing.{Debugged, StandsFor}
use Rattle.side_meaning.specs.Sessions.{OnSecond, StandsIn, SidesStand, Prepared, PreparedIn, SecondPrepared, IsStill}
use Rattle.side_meaning.proofs.Starting.{no_words, in_state, settle}
use Rattle.side_meaning.proofs.Beginning.{Undone, step_undone}
use Rattle.side_meaning.proofs.Telling.{memories}
use Rattle.session.specs.declared.modes.Mode.{Mode}
use Rattle.session.specs.declared.modes.Mode.TheVariants as mode
use Rattle.session.specs.declared.sides.SideRecord.{SideRecord}
use Rattle.session.specs.declared.modes.How.{How}
use Rattle.session.specs.declared.modes.How.TheVariants as hows
use Rattle.session.specs.Answered.{state_of, resume_of}
use Rattle.session.specs.Meant.{debugged, IsThere, Hosts, second_of, sides_of, AreThere, ComesTo, Settled, Stepped, Unstepped, AllPrepared, AllSettled, NotAll, ResumesAs, IsResumable}
use Rattle.session.proofs.Beside.{second_beside, first_beside}

-- ---- faults

rose_wider : (f f1 f2 f3 : ℕ) → f ≤ f1 → f2 ≤ f3 → Rose f1 f2 → Rose f f3
rose_wider f f1 f2 f3 h k r = record { no_fall = omega (arith, h, k, r.no_fall); higher = omega (arith, h, k, r.higher) }

-- a fault of one part is that of the whole
pub moved : {A B : Type 0} (f f1 f2 f3 : ℕ) (D : A → Type 0) (D' : B → Type 0) (N N' : Troubled → Type 0) (e : AskFault) → f ≤ f1 → f2 ≤ f3 → ((t : Troubled) → N t → N' t) → ComesTo f1 f2 D N (Err e) → ComesTo f f3 D' N' (Err e)
moved f f1 f2 f3 D D' N N' (Refused cause) h k to n = to _ n
moved f f1 f2 f3 D D' N N' (Raised e) h k to n = to _ n
moved f f1 f2 f3 D D' N N' Spent h k to n = to _ n
moved f f1 f2 f3 D D' N N' NoMemory h k to n = tt
moved f f1 f2 f3 D D' N N' (Broken mem.LinkFault) h k to n = rose_wider f f1 f2 f3 h k n
moved f f1 f2 f3 D D' N N' (Broken (mem.BadReply frame)) h k to n = n
moved f f1 f2 f3 D D' N N' (Broken (mem.Outside place)) h k to n = n

-- ---- sides

abbrev pub hosts : Host → Option Host → Hosts
hosts h x = record { first = h; second = x }

-- where the session stands
prepared_in : (state : State) (how : Resume) (d d' : Debugged) (a : SideState) → IsStill state → Prepared how d d' a → PreparedIn state how d d' a
prepared_in Fresh how d d' a still p = p
prepared_in Stopped how d d' a still p = p
prepared_in (Running began) how d d' a still p = absurd still
prepared_in Ended how d d' a still p = absurd still

none_prepared : (state : State) (how : Resume) (oa : Option SideState) → OnSecond (StandsIn state) None oa → SecondPrepared state how None None oa
none_prepared state how None h = tt
none_prepared state how (Some a) h = absurd h

record HasSecond (state : State) (d : Debugged) (oa : Option SideState) : Type 0 where
  side : SideState
  is : oa ≡ Some side
  stands : StandsIn state d side

has_second : (state : State) (d : Debugged) (oa : Option SideState) → OnSecond (StandsIn state) (Some d) oa → HasSecond state d oa
has_second state d None h = absurd h
has_second state d (Some a) h = record { side = a; is = refl; stands = h }

module _ (b : Behaviour) (c : Conduct) where
  abbrev SecondThere : Option World → Host → SideRecord → Host → Type 0
  SecondThere o it side h = (side.which ≡ Second) × IsThere b c o side h (Some it)

  -- the second side, once something was done to the first one
  pub second_stays : (o o' : Option World) (first : SideRecord) (h it : Host) (second : Option SideRecord) (x : Option Host) → OnSecond (SecondThere o h) second x → first.which ≡ First → IsThere b c o' first it x → OnSecond (SecondThere o' it) second x
  second_stays o o' first h it None None q e y = tt
  second_stays o o' first h it (Some side) (Some g) q e y = (q.0, second_beside b c o o' first side g it (Some h) q.0 q.1 e y)
  second_stays o o' first h it None (Some g) q e y = absurd q
  second_stays o o' first h it (Some side) None q e y = absurd q

  -- ---- words are taken away

  abbrev pub TakesAway : (o o' : Option World) (f f' : ℕ) (side side' : SideRecord) → Result (Unit {0}) AskFault → Type 0
  TakesAway o o' f f' side side' r = (h : Host) (beside : Option Host) → IsThere b c o side h beside → ComesTo {A = Unit {0}} f f' (λ u. Settled b c o' side side' h beside) (λ e. ⊥) r

  module _ (o o1 : Option World) (f f1 : ℕ) (first first' : SideRecord) (which : first'.which ≡ first.which) where
    settled_one : (h : Host) (x : Option Host) (st : SessionState) → AreThere b c o first None (hosts h x) → SidesStand (sides_of first None (hosts h x)) st → IsStill st.state → Settled b c o1 first first' h x → AllSettled b c o1 first first' None None (hosts h x) st
    settled_one h None st there stands still s =
        let r = settle (sides_of first None (hosts h None)) (sides_of first' None (hosts s.host None)) st still stands s.settled tt in
        record {
          hosts = hosts s.host None;
          there = record { first_is = which ∙ there.first_is; first_there = s.there; second_there = tt };
          prepared = record { first = prepared_in st.state ByContinue (debugged first h) (debugged first' s.host) st.first still s.settled; second = none_prepared st.state ByContinue st.second stands.second };
          ready = record { sides = r.0; ready = r.1; still = still };
        }
    settled_one h (Some g) st there stands still s = absurd there.second_there

    one_comes : (hs : Hosts) (st : SessionState) (r : Result (Unit {0}) AskFault) → AreThere b c o first None hs → SidesStand (sides_of first None hs) st → IsStill st.state → ComesTo {A = Unit {0}} f f1 (λ u. Settled b c o1 first first' hs.first hs.second) (λ e. ⊥) r
        → ComesTo {A = Unit {0}} f f1 (λ u. AllSettled b c o1 first first' None None hs st) (λ e. ⊥) r
    one_comes hs st (Ok u) there stands still s = settled_one hs.first hs.second st there stands still s
    one_comes hs st (Err e) there stands still s = moved {A = Unit {0}} {B = Unit {0}} f f f1 f1 (λ u. Settled b c o1 first first' hs.first hs.second) (λ u. AllSettled b c o1 first first' None None hs st) (λ e. ⊥) (λ e. ⊥) e (omega arith) (omega arith) (λ t z. z) s

    pub settle_one : (hs : Hosts) (st : SessionState) (r : Result (Unit {0}) AskFault) → AreThere b c o first None hs → SidesStand (sides_of first None hs) st → IsStill st.state → TakesAway o o1 f f1 first first' r
        → ComesTo {A = Unit {0}} f f1 (λ u. AllSettled b c o1 first first' None None hs st) (λ e. ⊥) r
    settle_one hs st r there stands still m = one_comes hs st r there stands still (m hs.first hs.second there.first_there)

    pub settle_none : (second : Option SideRecord) → second ≡ None → (hs : Hosts) (st : SessionState) → AreThere b c o first second hs → SidesStand (sides_of first second hs) st → IsStill st.state → TakesAway o o1 f f1 first first' (Ok tt) → AllSettled b c o1 first first' second second hs st
    settle_none second e hs st there stands still m =
        subst (λ (s : Option SideRecord). AllSettled b c o1 first first' s s hs st) (sym e)
        (settle_one hs st (Ok tt) (subst (λ (s : Option SideRecord). AreThere b c o first s hs) e there) (subst (λ (s : Option SideRecord). SidesStand (sides_of first s hs) st) e stands) still m)

    module _ (o2 : Option World) (f2 : ℕ) (second second' : SideRecord) (second_which : second'.which ≡ second.which) (m1 : TakesAway o o1 f f1 first first' (Ok tt)) where
      two_there : (h g : Host) (one two : Host) → first.which ≡ First → second.which ≡ Second → IsThere b c o1 first' one (Some g) → IsThere b c o2 second' two (Some one) → AreThere b c o2 first' (Some second') (hosts one (Some two))
      two_there h g one two e k x y = record {
        first_is = which ∙ e;
        first_there = first_beside b c o1 o2 first' second' one two (Some g) (which ∙ e) x (second_which ∙ k) y;
        second_there = (second_which ∙ k, y);
      }

      settled_two : (h g : Host) (st : SessionState) → AreThere b c o first (Some second) (hosts h (Some g)) → SidesStand (sides_of first (Some second) (hosts h (Some g))) st → IsStill st.state → (s : Settled b c o1 first first' h (Some g)) → Settled b c o2 second second' g (Some s.host)
          → AllSettled b c o2 first first' (Some second) (Some second') (hosts h (Some g)) st
      settled_two h g st there stands still s t =
          let r = settle (sides_of first (Some second) (hosts h (Some g))) (sides_of first' (Some second') (hosts s.host (Some t.host))) st still stands s.settled t.settled in
          let two = has_second st.state (debugged second g) st.second stands.second in
          record {
            hosts = hosts s.host (Some t.host);
            there = two_there h g s.host t.host there.first_is there.second_there.0 s.there t.there;
            prepared = record {
              first = prepared_in st.state ByContinue (debugged first h) (debugged first' s.host) st.first still s.settled;
              second = subst (SecondPrepared st.state ByContinue (Some (debugged second g)) (Some (debugged second' t.host))) (sym two.is) (prepared_in st.state ByContinue (debugged second g) (debugged second' t.host) two.side still t.settled);
            };
            ready = record { sides = r.0; ready = r.1; still = still };
          }

      two_come : (h g : Host) (st : SessionState) (r : Result (Unit {0}) AskFault) → f ≤ f1 → AreThere b c o first (Some second) (hosts h (Some g)) → SidesStand (sides_of first (Some second) (hosts h (Some g))) st → IsStill st.state → (s : Settled b c o1 first first' h (Some g))
          → ComesTo {A = Unit {0}} f1 f2 (λ u. Settled b c o2 second second' g (Some s.host)) (λ e. ⊥) r → ComesTo {A = Unit {0}} f f2 (λ u. AllSettled b c o2 first first' (Some second) (Some second') (hosts h (Some g)) st) (λ e. ⊥) r
      two_come h g st (Ok u) k there stands still s t = settled_two h g st there stands still s t
      two_come h g st (Err e) k there stands still s t = moved {A = Unit {0}} {B = Unit {0}} f f1 f2 f2 (λ u. Settled b c o2 second second' g (Some s.host)) (λ u. AllSettled b c o2 first first' (Some second) (Some second') (hosts h (Some g)) st) (λ e. ⊥) (λ e. ⊥) e k (omega arith) (λ t z. z) t

      settle_two_by : (h : Host) (x : Option Host) (st : SessionState) (r : Result (Unit {0}) AskFault) → f ≤ f1 → AreThere b c o first (Some second) (hosts h x) → SidesStand (sides_of first (Some second) (hosts h x)) st → IsStill st.state → TakesAway o1 o2 f1 f2 second second' r
          → ComesTo {A = Unit {0}} f f2 (λ u. AllSettled b c o2 first first' (Some second) (Some second') (hosts h x) st) (λ e. ⊥) r
      settle_two_by h None st r k there stands still m2 = absurd there.second_there
      settle_two_by h (Some g) st r k there stands still m2 =
          let s = m1 h (Some g) there.first_there in
          two_come h g st r k there stands still s
          (m2 g (Some s.host) (second_beside b c o o1 first' second g s.host (Some h) there.second_there.0 there.second_there.1 (which ∙ there.first_is) s.there))

      pub settle_two : (hs : Hosts) (st : SessionState) (r : Result (Unit {0}) AskFault) → f ≤ f1 → AreThere b c o first (Some second) hs → SidesStand (sides_of first (Some second) hs) st → IsStill st.state → TakesAway o1 o2 f1 f2 second second' r
          → ComesTo {A = Unit {0}} f f2 (λ u. AllSettled b c o2 first first' (Some second) (Some second') hs st) (λ e. ⊥) r
      settle_two hs st r k there stands still m2 = settle_two_by hs.first hs.second st r k there stands still m2

      pub settle_some : (other : Option SideRecord) → other ≡ Some second → (hs : Hosts) (st : SessionState) (r : Result (Unit {0}) AskFault) → f ≤ f1 → AreThere b c o first other hs → SidesStand (sides_of first other hs) st → IsStill st.state → TakesAway o1 o2 f1 f2 second second' r
          → ComesTo {A = Unit {0}} f f2 (λ u. AllSettled b c o2 first first' other (Some second') hs st) (λ e. ⊥) r
      settle_some other e hs st r k there stands still m2 =
          subst (λ (s : Option SideRecord). ComesTo {A = Unit {0}} f f2 (λ u. AllSettled b c o2 first first' s (Some second') hs st) (λ e. ⊥) r) (sym e)
          (settle_two hs st r k (subst (λ (s : Option SideRecord). AreThere b c o first s hs) e there) (subst (λ (s : Option SideRecord). SidesStand (sides_of first s hs) st) e stands) still m2)

      talks_two_by : (h : Host) (x : Option Host) (r : Result (Unit {0}) AskFault) → f ≤ f1 → AreThere b c o first (Some second) (hosts h x) → TakesAway o1 o2 f1 f2 second second' r → ComesTo {A = Unit {0}} f f2 (λ u. Unit {0}) (λ e. ⊥) r
      talks_two_by h None r k there m2 = absurd there.second_there
      talks_two_by h (Some g) (Ok u) k there m2 = tt
      talks_two_by h (Some g) (Err e) k there m2 =
          let s = m1 h (Some g) there.first_there in
          moved {A = Unit {0}} {B = Unit {0}} f f1 f2 f2 (λ u. Settled b c o2 second second' g (Some s.host)) (λ u. Unit {0}) (λ e. ⊥) (λ e. ⊥) e k (omega arith) (λ t z. z)
          (m2 g (Some s.host) (second_beside b c o o1 first' second g s.host (Some h) there.second_there.0 there.second_there.1 (which ∙ there.first_is) s.there))

      pub talks_two : (hs : Hosts) (r : Result (Unit {0}) AskFault) → f ≤ f1 → AreThere b c o first (Some second) hs → TakesAway o1 o2 f1 f2 second second' r → ComesTo {A = Unit {0}} f f2 (λ u. Unit {0}) (λ e. ⊥) r
      talks_two hs r k there m2 = talks_two_by hs.first hs.second r k there m2

      pub talks_some : (other : Option SideRecord) → other ≡ Some second → (hs : Hosts) (r : Result (Unit {0}) AskFault) → f ≤ f1 → AreThere b c o first other hs → TakesAway o1 o2 f1 f2 second second' r → ComesTo {A = Unit {0}} f f2 (λ u. Unit {0}) (λ e. ⊥) r
      talks_some other e hs r k there m2 = talks_two hs r k (subst (λ (s : Option SideRecord). AreThere b c o first s hs) e there) m2

    talks_by : (h : Host) (x : Option Host) (r : Result (Unit {0}) AskFault) → ComesTo {A = Unit {0}} f f1 (λ u. Settled b c o1 first first' h x) (λ e. ⊥) r → ComesTo {A = Unit {0}} f f1 (λ u. Unit {0}) (λ e. ⊥) r
    talks_by h x (Ok u) s = tt
    talks_by h x (Err e) s = moved {A = Unit {0}} {B = Unit {0}} f f f1 f1 (λ u. Settled b c o1 first first' h x) (λ u. Unit {0}) (λ e. ⊥) (λ e. ⊥) e (omega arith) (omega arith) (λ t z. z) s

    pub talks_one : (hs : Hosts) (second : Option SideRecord) (r : Result (Unit {0}) AskFault) → AreThere b c o first second hs → TakesAway o o1 f f1 first first' r → ComesTo {A = Unit {0}} f f1 (λ u. Unit {0}) (λ e. ⊥) r
    talks_one hs second r there m = talks_by hs.first hs.second r (m hs.first hs.second there.first_there)

  -- the first side's talk failed
  pub first_failed : (o o1 : Option World) (f f1 : ℕ) (first first' : SideRecord) (second : Option SideRecord) (hs : Hosts) (D : Unit {0} → Type 0) (e : AskFault) → AreThere b c o first second hs → TakesAway o o1 f f1 first first' (Err e) → ComesTo {A = Unit {0}} f f1 D (λ e. ⊥) (Err e)
  first_failed o o1 f f1 first first' second hs D e there m =
      moved {A = Unit {0}} {B = Unit {0}} f f f1 f1 (λ u. Settled b c o1 first first' hs.first hs.second) D (λ e. ⊥) (λ e. ⊥) e (omega arith) (omega arith) (λ t z. z) (m hs.first hs.second there.first_there)

  -- ---- words are put

  abbrev pub PutsOn : (o o' : Option World) (f f' : ℕ) (side side' : SideRecord) → Result (Unit {0}) AskFault → Type 0
  PutsOn o o' f f' side side' r =
      (h : Host) (beside : Option Host) (a : SideState) → IsThere b c o side h beside → StandsFor (debugged side h) a → a.step_words ≡ [] → ComesTo {A = Unit {0}} f f' (λ u. Stepped b c o' side side' h beside a) (Unstepped b c o' side side' h beside a) r

  module _ (st : SessionState) (still : IsStill st.state) (o o1 : Option World) (f f1 : ℕ) (first first' : SideRecord) (which : first'.which ≡ first.which) where
    no_first : (d : Debugged) → StandsIn st.state d st.first → st.first.step_words ≡ []
    no_first d h = no_words st.state d st.first still h

    -- the first side's words are not put
    not_first : (second : Option SideRecord) (hs : Hosts) (e : Troubled) → AreThere b c o first second hs → SidesStand (sides_of first second hs) st → Unstepped b c o1 first first' hs.first hs.second st.first e → NotAll b c o1 first' second st (outcome.Begins b ByStep st) e
    not_first second hs e there stands u = record {
      reply = trouble_reply e;
      after = record st { first = u.after };
      hosts = hs;
      says = (Err e, u.after, u.prepares, (refl, refl));
      text_is = refl;
      there = record { first_is = which ∙ there.first_is; first_there = u.there; second_there = second_stays o o1 first' hs.first hs.first second hs.second there.second_there (which ∙ there.first_is) u.there };
      sides = record { first = in_state st.state (debugged first' hs.first) u.after still u.stands u.words; second = stands.second };
      state = refl;
      limit = refl;
      written = refl;
    }

    pub first_unput : (second : Option SideRecord) (hs : Hosts) (D : Unit {0} → Type 0) (e : AskFault) → AreThere b c o first second hs → SidesStand (sides_of first second hs) st → PutsOn o o1 f f1 first first' (Err e)
        → ComesTo {A = Unit {0}} f f1 D (NotAll b c o1 first' second st (outcome.Begins b ByStep st)) (Err e)
    first_unput second hs D e there stands m =
        moved {A = Unit {0}} {B = Unit {0}} f f f1 f1 (λ u. Stepped b c o1 first first' hs.first hs.second st.first) D (Unstepped b c o1 first first' hs.first hs.second st.first) (NotAll b c o1 first' second st (outcome.Begins b ByStep st)) e (omega arith) (omega arith)
        (λ t u. not_first second hs t there stands u)
        (m hs.first hs.second st.first there.first_there stands.first.stands (no_first (debugged first hs.first) stands.first))

    -- one side
    one_put : (h : Host) (x : Option Host) → AreThere b c o first None (hosts h x) → SidesStand (sides_of first None (hosts h x)) st → Stepped b c o1 first first' h x st.first → AllPrepared b c o1 first first' None None (hosts h x) st ByStep
    one_put h None there stands s = record {
      hosts = hosts s.host None;
      there = record { first_is = which ∙ there.first_is; first_there = s.there; second_there = tt };
      prepared = record { first = prepared_in st.state ByStep (debugged first h) (debugged first' s.host) st.first still (s.use_after, s.stepped); second = none_prepared st.state ByStep st.second stands.second };
    }
    one_put h (Some g) there stands s = absurd there.second_there

    module _ (m1 : PutsOn o o1 f f1 first first' (Ok tt)) where
      pub prepare_one : (hs : Hosts) → AreThere b c o first None hs → SidesStand (sides_of first None hs) st → AllPrepared b c o1 first first' None None hs st ByStep
      prepare_one hs there stands = one_put hs.first hs.second there stands (m1 hs.first hs.second st.first there.first_there stands.first.stands (no_first (debugged first hs.first) stands.first))

      pub prepare_none : (second : Option SideRecord) → second ≡ None → (hs : Hosts) → AreThere b c o first second hs → SidesStand (sides_of first second hs) st → AllPrepared b c o1 first first' second second hs st ByStep
      prepare_none second e hs there stands =
          subst (λ (s : Option SideRecord). AllPrepared b c o1 first first' s s hs st ByStep) (sym e)
          (prepare_one hs (subst (λ (s : Option SideRecord). AreThere b c o first s hs) e there) (subst (λ (s : Option SideRecord). SidesStand (sides_of first s hs) st) e stands))

      -- two sides
      module _ (o2 : Option World) (f2 : ℕ) (second second' : SideRecord) (second_which : second'.which ≡ second.which) where
        module _ (h g : Host) (there : AreThere b c o first (Some second) (hosts h (Some g))) (stands : SidesStand (sides_of first (Some second) (hosts h (Some g))) st) where
          put_first : Stepped b c o1 first first' h (Some g) st.first
          put_first = m1 h (Some g) st.first there.first_there stands.first.stands (no_first (debugged first h) stands.first)

          other_side : HasSecond st.state (debugged second g) st.second
          other_side = has_second st.state (debugged second g) st.second stands.second

          -- the second side, once words were put on the first one
          second_then : IsThere b c o1 second g (Some put_first.host)
          second_then = second_beside b c o o1 first' second g put_first.host (Some h) there.second_there.0 there.second_there.1 (which ∙ there.first_is) put_first.there

          no_second : other_side.side.step_words ≡ []
          no_second = no_words st.state (debugged second g) other_side.side still other_side.stands

          put_second : (r : Result (Unit {0}) AskFault) → PutsOn o1 o2 f1 f2 second second' r → ComesTo {A = Unit {0}} f1 f2 (λ u. Stepped b c o2 second second' g (Some put_first.host) other_side.side) (Unstepped b c o2 second second' g (Some put_first.host) other_side.side) r
          put_second r m = m g (Some put_first.host) other_side.side second_then other_side.stands.stands no_second

          both_put : Stepped b c o2 second second' g (Some put_first.host) other_side.side → AllPrepared b c o2 first first' (Some second) (Some second') (hosts h (Some g)) st ByStep
          both_put t = record {
            hosts = hosts put_first.host (Some t.host);
            there = record {
              first_is = which ∙ there.first_is;
              first_there = first_beside b c o1 o2 first' second' put_first.host t.host (Some g) (which ∙ there.first_is) put_first.there (second_which ∙ there.second_there.0) t.there;
              second_there = (second_which ∙ there.second_there.0, t.there);
            };
            prepared = record {
              first = prepared_in st.state ByStep (debugged first h) (debugged first' put_first.host) st.first still (put_first.use_after, put_first.stepped);
              second = subst (SecondPrepared st.state ByStep (Some (debugged second g)) (Some (debugged second' t.host))) (sym other_side.is) (prepared_in st.state ByStep (debugged second g) (debugged second' t.host) other_side.side still (t.use_after, t.stepped));
            };
          }

          -- the second one's words are not put, and the first one's were taken away
          not_second : (o3 : Option World) (first'' : SideRecord) (e : Troubled) → first''.which ≡ first'.which → Unstepped b c o2 second second' g (Some put_first.host) other_side.side e → Settled b c o3 first' first'' put_first.host (Some g)
              → NotAll b c o3 first'' (Some second') st (outcome.Begins b ByStep st) e
          not_second o3 first'' e again u t =
              let w : Undone (debugged first'' t.host) st.first =
              step_undone (λ (target : _) (ps kept : _) (z d : _) m k. all_undone target z d ps kept m k) (debugged first h) (debugged first' put_first.host) st.first put_first.use_after (memories b c first.which o h (Some g) there.first_there.stands)
              stands.first.stands (no_first (debugged first h) stands.first) (debugged first'' t.host) put_first.stepped t.settled in
              let one : SideState = record st.first { table = w.side.table } in
              let next : SessionState = record st { first = one; second = Some u.after } in
              record {
                reply = trouble_reply e;
                after = next;
                hosts = hosts t.host (Some g);
                says = (
                  Ok w.result,
                  w.side,
                  w.prepares,
                  subst (λ (y : Option SideState). outcome.FirstPrepared b ByStep st (Ok w.result) w.side y (trouble_reply e) next) (sym other_side.is) (Err e, u.after, u.prepares, (refl, refl)),
                );
                text_is = refl;
                there = record {
                  first_is = again ∙ (which ∙ there.first_is);
                  first_there = t.there;
                  second_there = (second_which ∙ there.second_there.0, second_beside b c o2 o3 first'' second' g t.host (Some put_first.host) (second_which ∙ there.second_there.0) u.there (again ∙ (which ∙ there.first_is)) t.there);
                };
                sides = record {
                  first = in_state st.state (debugged first'' t.host) one still w.stands (no_first (debugged first h) stands.first);
                  second = in_state st.state (debugged second' g) u.after still u.stands u.words;
                };
                state = refl;
                limit = refl;
                written = refl;
              }

          -- the first one, once the second one's words were not put
          first_then : (e : Troubled) → Unstepped b c o2 second second' g (Some put_first.host) other_side.side e → IsThere b c o2 first' put_first.host (Some g)
          first_then e u = first_beside b c o1 o2 first' second' put_first.host g (Some g) (which ∙ there.first_is) put_first.there (second_which ∙ there.second_there.0) u.there

          module _ (o3 : Option World) (f3 : ℕ) (first'' : SideRecord) (again : first''.which ≡ first'.which) (D : Unit {0} → Type 0) (why : AskFault) (h1 : f ≤ f1) (h2 : f1 ≤ f2) where
            abbrev Fails : AskFault → Type 0
            Fails e = ComesTo {A = Unit {0}} f f3 D (NotAll b c o3 first'' (Some second') st (outcome.Begins b ByStep st)) (Err e)

            -- the talk of taking away failed
            back_failed : (e : AskFault) → ComesTo {A = Unit {0}} f2 f3 (λ u. Settled b c o3 first' first'' put_first.host (Some g)) (λ t. ⊥) (Err e) → Fails e
            back_failed e m = moved {A = Unit {0}} {B = Unit {0}} f f2 f3 f3 (λ u. Settled b c o3 first' first'' put_first.host (Some g)) D (λ t. ⊥) (NotAll b c o3 first'' (Some second') st (outcome.Begins b ByStep st)) e (omega (arith, h1, h2)) (omega arith) (λ t z. absurd z) m

            for_trouble : (e : AskFault) (t : Troubled) (r : Result (Unit {0}) AskFault) → (NotAll b c o3 first'' (Some second') st (outcome.Begins b ByStep st) t → Fails e) → Unstepped b c o2 second second' g (Some put_first.host) other_side.side t
                → ComesTo {A = Unit {0}} f2 f3 (λ u. Settled b c o3 first' first'' put_first.host (Some g)) (λ t. ⊥) r → OnOk r (why ≡ e) → IfErr r (λ (x : AskFault). why ≡ x) → Fails why
            for_trouble e t (Ok x) to u m ok err = subst Fails (sym ok) (to (not_second o3 first'' t again u m))
            for_trouble e t (Err x) to u m ok err = subst Fails (sym err) (back_failed x m)

            for_memory : (r : Result (Unit {0}) AskFault) → ComesTo {A = Unit {0}} f2 f3 (λ u. Settled b c o3 first' first'' put_first.host (Some g)) (λ t. ⊥) r → OnOk r (why ≡ NoMemory) → IfErr r (λ (x : AskFault). why ≡ x) → Fails why
            for_memory (Ok x) m ok err = subst Fails (sym ok) tt
            for_memory (Err x) m ok err = subst Fails (sym err) (back_failed x m)

            second_fails : (e : AskFault) (r : Result (Unit {0}) AskFault) → ((x : MemFault) → e ≢ Broken x) → (e ≡ NoMemory → o2 ≡ o1) → ComesTo {A = Unit {0}} f1 f2 (λ u. Stepped b c o2 second second' g (Some put_first.host) other_side.side) (Unstepped b c o2 second second' g (Some put_first.host) other_side.side) (Err e)
                → TakesAway o2 o3 f2 f3 first' first'' r → OnOk r (why ≡ e) → IfErr r (λ (x : AskFault). why ≡ x) → Fails why
            second_fails (Refused cause) r whole same u m ok err = for_trouble (Refused cause) _ r (λ z. z) u (m put_first.host (Some g) (first_then _ u)) ok err
            second_fails (Raised x) r whole same u m ok err = for_trouble (Raised x) _ r (λ z. z) u (m put_first.host (Some g) (first_then _ u)) ok err
            second_fails Spent r whole same u m ok err = for_trouble Spent _ r (λ z. z) u (m put_first.host (Some g) (first_then _ u)) ok err
            second_fails NoMemory r whole same u m ok err = for_memory r (m put_first.host (Some g) (subst (λ (w : Option World). IsThere b c w first' put_first.host (Some g)) (sym (same refl)) put_first.there)) ok err
            second_fails (Broken x) r whole same u m ok err = absurd (whole x refl)

        prepare_two_by : (h : Host) (x : Option Host) → AreThere b c o first (Some second) (hosts h x) → SidesStand (sides_of first (Some second) (hosts h x)) st → PutsOn o1 o2 f1 f2 second second' (Ok tt) → AllPrepared b c o2 first first' (Some second) (Some second') (hosts h x) st ByStep
        prepare_two_by h None there stands m = absurd there.second_there
        prepare_two_by h (Some g) there stands m = both_put h g there stands (put_second h g there stands (Ok tt) m)

        pub prepare_two : (hs : Hosts) → AreThere b c o first (Some second) hs → SidesStand (sides_of first (Some second) hs) st → PutsOn o1 o2 f1 f2 second second' (Ok tt) → AllPrepared b c o2 first first' (Some second) (Some second') hs st ByStep
        prepare_two hs there stands m = prepare_two_by hs.first hs.second there stands m

        pub prepare_some : (other : Option SideRecord) → other ≡ Some second → (hs : Hosts) → AreThere b c o first other hs → SidesStand (sides_of first other hs) st → PutsOn o1 o2 f1 f2 second second' (Ok tt) → AllPrepared b c o2 first first' other (Some second') hs st ByStep
        prepare_some other e hs there stands m =
            subst (λ (s : Option SideRecord). AllPrepared b c o2 first first' s (Some second') hs st ByStep) (sym e)
            (prepare_two hs (subst (λ (s : Option SideRecord). AreThere b c o first s hs) e there) (subst (λ (s : Option SideRecord). SidesStand (sides_of first s hs) st) e stands) m)

        -- the second one's link failed
        broken_by : (h : Host) (x : Option Host) (D : Unit {0} → Type 0) (N : Troubled → Type 0) (e : MemFault) → f ≤ f1 → AreThere b c o first (Some second) (hosts h x) → SidesStand (sides_of first (Some second) (hosts h x)) st → PutsOn o1 o2 f1 f2 second second' (Err (Broken e))
            → ComesTo {A = Unit {0}} f f2 D N (Err (Broken e))
        broken_by h None D N e k there stands m = absurd there.second_there
        broken_by h (Some g) D N mem.LinkFault k there stands m = rose_wider f f1 f2 f2 k (omega arith) (put_second h g there stands (Err (Broken mem.LinkFault)) m)
        broken_by h (Some g) D N (mem.BadReply frame) k there stands m = put_second h g there stands (Err (Broken (mem.BadReply frame))) m
        broken_by h (Some g) D N (mem.Outside place) k there stands m = put_second h g there stands (Err (Broken (mem.Outside place))) m

        pub second_broken : (hs : Hosts) (D : Unit {0} → Type 0) (N : Troubled → Type 0) (e : MemFault) → f ≤ f1 → AreThere b c o first (Some second) hs → SidesStand (sides_of first (Some second) hs) st → PutsOn o1 o2 f1 f2 second second' (Err (Broken e))
            → ComesTo {A = Unit {0}} f f2 D N (Err (Broken e))
        second_broken hs D N e k there stands m = broken_by hs.first hs.second D N e k there stands m

        pub broken_some : (other : Option SideRecord) → other ≡ Some second → (hs : Hosts) (D : Unit {0} → Type 0) (N : Troubled → Type 0) (e : AskFault) (why : MemFault) → e ≡ Broken why → f ≤ f1 → AreThere b c o first other hs → SidesStand (sides_of first other hs) st → PutsOn o1 o2 f1 f2 second second' (Err e)
            → ComesTo {A = Unit {0}} f f2 D N (Err e)
        broken_some other is hs D N e why k h there stands m =
            subst (λ (z : AskFault). ComesTo {A = Unit {0}} f f2 D N (Err z)) (sym k)
            (second_broken hs D N why h (subst (λ (s : Option SideRecord). AreThere b c o first s hs) is there) (subst (λ (s : Option SideRecord). SidesStand (sides_of first s hs) st) is stands) (subst (λ (z : AskFault). PutsOn o1 o2 f1 f2 second second' (Err z)) k m))

        unput_by : (h : Host) (x : Option Host) (o3 : Option World) (f3 : ℕ) (first'' : SideRecord) (D : Unit {0} → Type 0) (why e : AskFault) (r : Result (Unit {0}) AskFault) → AreThere b c o first (Some second) (hosts h x) → SidesStand (sides_of first (Some second) (hosts h x)) st → first''.which ≡ first'.which
            → f ≤ f1 → f1 ≤ f2 → ((x : MemFault) → e ≢ Broken x) → (e ≡ NoMemory → o2 ≡ o1) → PutsOn o1 o2 f1 f2 second second' (Err e) → TakesAway o2 o3 f2 f3 first' first'' r → OnOk r (why ≡ e) → IfErr r (λ (x : AskFault). why ≡ x)
            → ComesTo {A = Unit {0}} f f3 D (NotAll b c o3 first'' (Some second') st (outcome.Begins b ByStep st)) (Err why)
        unput_by h None o3 f3 first'' D why e r there stands again h1 h2 whole same m2 m3 ok err = absurd there.second_there
        unput_by h (Some g) o3 f3 first'' D why e r there stands again h1 h2 whole same m2 m3 ok err =
            second_fails h g there stands o3 f3 first'' again D why h1 h2 e r whole same (put_second h g there stands (Err e) m2) m3 ok err

        pub second_unput : (hs : Hosts) (o3 : Option World) (f3 : ℕ) (first'' : SideRecord) (D : Unit {0} → Type 0) (why e : AskFault) (r : Result (Unit {0}) AskFault) → AreThere b c o first (Some second) hs → SidesStand (sides_of first (Some second) hs) st → first''.which ≡ first'.which
            → f ≤ f1 → f1 ≤ f2 → ((x : MemFault) → e ≢ Broken x) → (e ≡ NoMemory → o2 ≡ o1) → PutsOn o1 o2 f1 f2 second second' (Err e) → TakesAway o2 o3 f2 f3 first' first'' r → OnOk r (why ≡ e) → IfErr r (λ (x : AskFault). why ≡ x)
            → ComesTo {A = Unit {0}} f f3 D (NotAll b c o3 first'' (Some second') st (outcome.Begins b ByStep st)) (Err why)
        second_unput hs o3 f3 first'' D why e r there stands again h1 h2 whole same m2 m3 ok err = unput_by hs.first hs.second o3 f3 first'' D why e r there stands again h1 h2 whole same m2 m3 ok err

        pub unput_some : (other : Option SideRecord) → other ≡ Some second → (hs : Hosts) (o3 : Option World) (f3 : ℕ) (first'' : SideRecord) (D : Unit {0} → Type 0) (why e : AskFault) (r : Result (Unit {0}) AskFault) → AreThere b c o first other hs → SidesStand (sides_of first other hs) st
            → first''.which ≡ first'.which → f ≤ f1 → f1 ≤ f2 → IsUnbroken e → (e ≡ NoMemory → o2 ≡ o1) → PutsOn o1 o2 f1 f2 second second' (Err e) → TakesAway o2 o3 f2 f3 first' first'' r → OnOk r (why ≡ e) → IfErr r (λ (x : AskFault). why ≡ x)
            → ComesTo {A = Unit {0}} f f3 D (NotAll b c o3 first'' (Some second') st (outcome.Begins b ByStep st)) (Err why)
        unput_some other is hs o3 f3 first'' D why e r there stands again h1 h2 whole same m2 m3 ok err =
            second_unput hs o3 f3 first'' D why e r (subst (λ (s : Option SideRecord). AreThere b c o first s hs) is there) (subst (λ (s : Option SideRecord). SidesStand (sides_of first s hs) st) is stands) again h1 h2 (λ (x : MemFault) k. subst IsUnbroken k whole) same m2 m3 ok err

  -- ---- all that is done before a resume

  pub settled_prepares : (o : Option World) (first first' : SideRecord) (second second' : Option SideRecord) (hs : Hosts) (st : SessionState) → AllSettled b c o first first' second second' hs st → AllPrepared b c o first first' second second' hs st ByContinue
  settled_prepares o first first' second second' hs st s = record { hosts = s.hosts; there = s.there; prepared = s.prepared }

  begins_as : (state : State) (how : Resume) (st st' : SessionState) (reply : Reply) → IsStill state → outcome.Begins b how st reply st' → outcome.Resumes b how st state reply st'
  begins_as Fresh how st st' reply still h = h
  begins_as Stopped how st st' reply still h = h
  begins_as (Running began) how st st' reply still h = absurd still
  begins_as Ended how st st' reply still h = absurd still

  pub not_begun : (o : Option World) (first : SideRecord) (second : Option SideRecord) (st : SessionState) (how : Resume) (t : Troubled) → IsStill st.state → NotAll b c o first second st (outcome.Begins b how st) t → NotAll b c o first second st (ResumesAs b how st) t
  not_begun o first second st how t still n = record {
    reply = n.reply;
    after = n.after;
    hosts = n.hosts;
    says = begins_as st.state how st n.after n.reply still n.says;
    text_is = n.text_is;
    there = n.there;
    sides = n.sides;
    state = n.state;
    limit = n.limit;
    written = n.written;
  }

  pub not_ready : {A : Type 0} (f f1 : ℕ) (D : A → Type 0) (o : Option World) (first : SideRecord) (second : Option SideRecord) (st : SessionState) (how : How) (e : AskFault) → IsStill st.state → how ≡ hows.ByStep
      → ComesTo {A = Unit {0}} f f1 (λ u. Unit {0}) (NotAll b c o first second st (outcome.Begins b ByStep st)) (Err e) → ComesTo f f1 D (NotAll b c o first second st (ResumesAs b (resume_of how) st)) (Err e)
  not_ready {A} f f1 D o first second st how e still is n =
      subst (λ (w : How). ComesTo f f1 D (NotAll b c o first second st (ResumesAs b (resume_of w) st)) (Err e)) (sym is)
      (moved {A = Unit {0}} {B = A} f f f1 f1 (λ u. Unit {0}) D (NotAll b c o first second st (outcome.Begins b ByStep st)) (NotAll b c o first second st (ResumesAs b ByStep st)) e (omega arith) (omega arith) (λ t z. not_begun o first second st ByStep t still z) n)

  same_second : (state : State) (began how : Resume) (o : Option Debugged) (oa : Option SideState) → state ≡ Running began → OnSecond (StandsIn state) o oa → SecondPrepared state how o o oa
  same_second state began how None None e h = tt
  same_second state began how (Some d) (Some a) e h = subst (λ (s : State). PreparedIn s how d d a) (sym e) refl
  same_second state began how None (Some a) e h = absurd h
  same_second state began how (Some d) None e h = absurd h

  -- an interrupted resume goes on as it is
  pub running_prepared : (o : Option World) (first : SideRecord) (second : Option SideRecord) (hs : Hosts) (st : SessionState) (began how : Resume) → st.state ≡ Running began → AreThere b c o first second hs → SidesStand (sides_of first second hs) st → AllPrepared b c o first first second second hs st how
  running_prepared o first second hs st began how e there stands = record {
    hosts = hs;
    there = there;
    prepared = record { first = subst (λ (s : State). PreparedIn s how (debugged first hs.first) (debugged first hs.first) st.first) (sym e) refl; second = same_second st.state began how (second_of second hs.second) st.second e stands.second };
  }

  -- without memory for a line
  pub no_line : {A : Type 0} (f f1 f2 : ℕ) (D : A → Type 0) (N : Troubled → Type 0) (why : AskFault) (r : Result (Unit {0}) AskFault) → f ≤ f1 → ComesTo {A = Unit {0}} f1 f2 (λ u. Unit {0}) (λ e. ⊥) r → OnOk r (why ≡ NoMemory) → IfErr r (λ (x : AskFault). why ≡ x) → ComesTo f f2 D N (Err why)
  no_line {A} f f1 f2 D N why (Ok u) h m ok err = subst (λ (e : AskFault). ComesTo f f2 D N (Err e)) (sym ok) tt
  no_line {A} f f1 f2 D N why (Err e) h m ok err = subst (λ (e : AskFault). ComesTo f f2 D N (Err e)) (sym err) (moved {A = Unit {0}} {B = A} f f1 f2 f2 (λ u. Unit {0}) D (λ e. ⊥) N e h (omega arith) (λ t z. absurd z) m)

-- where the session's mode is no interrupted resume, and a resume is no refusal
pub is_still : (m : Mode) (st : SessionState) → ((how : _) → m ≢ mode.Running how) → st.state ≡ state_of m → IsResumable st.state → IsStill st.state
is_still mode.Fresh st n e h = subst IsStill (sym e) tt
is_still mode.Stopped st n e h = subst IsStill (sym e) tt
is_still (mode.Running how) st n e h = absurd (n how refl)
is_still mode.Ended st n e h = absurd (subst IsResumable e h)
