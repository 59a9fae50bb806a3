-- `regs` of one side or two.
use Rattle.std.proofs.Common.{◌≡◌, ◌∙◌, refl, sym, ap, subst, ℕ, ◌≤◌, List, [], ◌∷◌, ◌++◌, append-nil, Option, Some, None, Result, Ok, Err, arith, ◌+◌, ◌-◌}
use Rattle.ldb_edge.specs.Count.{Rose}
use Rattle.machine_state.specs.State.{Behaviour}
use Rattle.nub_wire.specs.declared.link.Side.TheVariants.{First, Second}
use Rattle.nub_wire.specs.Nub.{Host}
use Rattle.nub_wire.specs.Delivery.{Conduct, World}
use Rattle.abs_mem.specs.declared.memory.MemFault.TheVariants.{Outside, LinkFault, BadReply}
use Rattle.table_asks.specs.declared.fault.AskFault.{AskFault}
use Rattle.table_asks.specs.declared.fault.AskFault.TheVariants.{Refused, Raised, Spent, NoMemory, Broken}
use Rattle.asking.specs.Lines.{line}
use Rattle.asking_meaning.specs.Meant.{joined}
use Rattle.claims.specs.Side.{SideState, SessionState, Troubled}
use Rattle.claims.specs.Raw.{regs_text}
use Rattle.claims.specs.Outcome.{all_regs}
use Rattle.side_meaning.specs.Standing.{StandsFor}
use Rattle.side_meaning.specs.Sessions.{OnSecond, StandsIn, SidesStand}
use Rattle.session.specs.declared.sides.SideRecord.{SideRecord}
use Rattle.session.specs.Meant.{debugged, second_of, sides_of, Hosts, IsSecond, IsThere, AreThere, ComesTo}
use Rattle.session.proofs.Beside.{second_beside, first_beside}

pub rose_since : (x y z : ℕ) → x ≤ y → Rose y z → Rose x z
rose_since x y z h r = record { no_fall = omega (arith, h, r.no_fall); higher = omega (arith, h, r.higher) }

-- a command that fails, whatever it says where it is done
abbrev pub Fails : (x y : ℕ) → (Troubled → Type 0) → AskFault → Type 0
Fails x y I fault = ComesTo x y (λ (u : Unit {0}). ⊥) I (Err fault)

-- A fault of a part is one of the whole, where the link had not failed before.
pub since : (x y z : ℕ) (I : Troubled → Type 0) (fault : AskFault) → x ≤ y → Fails y z I fault → Fails x z I fault
since x y z I (Refused cause) h w = w
since x y z I (Raised e) h w = w
since x y z I Spent h w = w
since x y z I NoMemory h w = w
since x y z I (Broken LinkFault) h w = rose_since x y z h w
since x y z I (Broken (BadReply bad)) h w = w
since x y z I (Broken (Outside p)) h w = w

-- what is done says this too
pub comes_on : (x y : ℕ) (D E : List ℕ → Type 0) (I : Troubled → Type 0) (r : Result (List ℕ) AskFault) → ((text : List ℕ) → D text → E text) → ComesTo x y D I r → ComesTo x y E I r
comes_on x y D E I (Ok text) f w = f text w
comes_on x y D E I (Err (Refused cause)) f w = w
comes_on x y D E I (Err (Raised e)) f w = w
comes_on x y D E I (Err Spent) f w = w
comes_on x y D E I (Err NoMemory) f w = w
comes_on x y D E I (Err (Broken LinkFault)) f w = w
comes_on x y D E I (Err (Broken (BadReply bad))) f w = w
comes_on x y D E I (Err (Broken (Outside p))) f w = w

-- two sides that are there, and what they stand for
pub record Two (b : Behaviour) (c : Conduct) (o : Option World) (first second : SideRecord) (hs : Hosts) (st : SessionState) : Type 0 where
  pub host : Host
  pub host_is : hs.second ≡ Some host
  pub side : SideState
  pub side_is : st.second ≡ Some side
  pub which : second.which ≡ Second
  pub there : IsThere b c o second host (Some hs.first)
  pub first_which : first.which ≡ First
  pub first_there : IsThere b c o first hs.first (Some host)
  pub stands : StandsIn st.state (debugged first hs.first) st.first
  pub second_stands : StandsIn st.state (debugged second host) side

module _ (b : Behaviour) (c : Conduct) (o : Option World) (first second : SideRecord) where
  two_by : (g : Host) (h : Option Host) (st : SessionState) (s : Option SideState) → st.second ≡ s → AreThere b c o first (Some second) (record { first = g; second = h }) → StandsIn st.state (debugged first g) st.first
      → OnSecond (StandsIn st.state) (second_of (Some second) h) s → Two b c o first second (record { first = g; second = h }) st
  two_by g (Some h) st (Some s) e there stands other = record {
    host = h;
    host_is = refl;
    side = s;
    side_is = e;
    which = there.second_there.0;
    there = there.second_there.1;
    first_which = there.first_is;
    first_there = there.first_there;
    stands = stands;
    second_stands = other;
  }
  two_by g (Some h) st None e there stands other = absurd other
  two_by g None st s e there stands other = absurd there.second_there

  pub two_of : (hs : Hosts) (st : SessionState) → AreThere b c o first (Some second) hs → SidesStand (sides_of first (Some second) hs) st → Two b c o first second hs st
  two_of hs st there sides = two_by hs.first hs.second st st.second refl there sides.first sides.second

module _ (b : Behaviour) (c : Conduct) (o o1 o2 : Option World) (first second : SideRecord) (hs : Hosts) (st : SessionState) (t : Two b c o first second hs st) where
  -- once the first side was asked
  pub second_there : IsThere b c o1 first hs.first (Some t.host) → IsThere b c o1 second t.host (Some hs.first)
  second_there x = second_beside b c o o1 first second t.host hs.first (Some hs.first) t.which t.there t.first_which x

  -- once both were
  pub both_said : IsThere b c o1 first hs.first (Some t.host) → IsThere b c o2 second t.host (Some hs.first) → (text other : List ℕ) → text ≡ line (regs_text st.first) → other ≡ line (regs_text t.side)
      → AreThere b c o2 first (Some second) hs × (text ++ other ≡ joined (all_regs st))
  both_said x y text other e f =
      let one : IsThere b c o2 first hs.first (Some t.host) = first_beside b c o1 o2 first second hs.first t.host (Some t.host) t.first_which x t.which y in
      let reply : joined (all_regs st) ≡ line (regs_text st.first) ++ (line (regs_text t.side) ++ []) =
      ap (λ (s : Option SideState). joined (regs_text st.first ∷ elim s as (λ s. List (List ℕ)) [ None ↦ [] | Some a ↦ regs_text a ∷ [] ])) t.side_is in (
        record {
          first_is = t.first_which;
          first_there = subst (IsThere b c o2 first hs.first) (sym t.host_is) one;
          second_there = subst (λ (h : Option Host). OnSecond (IsSecond b c o2 hs.first) (Some second) h) (sym t.host_is) (t.which, y);
        },
        ap (λ (x : List ℕ). x ++ other) e ∙ (ap (λ (x : List ℕ). line (regs_text st.first) ++ x) (f ∙ sym (append-nil (line (regs_text t.side)))) ∙ sym reply),
      )

-- one side alone
module _ (b : Behaviour) (c : Conduct) (o : Option World) (first : SideRecord) where
  pub record Alone (hs : Hosts) (st : SessionState) : Type 0 where
    pub host_is : hs.second ≡ None
    pub side_is : st.second ≡ None
    pub first_which : first.which ≡ First
    pub first_there : IsThere b c o first hs.first None
    pub stands : StandsIn st.state (debugged first hs.first) st.first

  alone_by : (g : Host) (h : Option Host) (st : SessionState) (s : Option SideState) → st.second ≡ s → AreThere b c o first None (record { first = g; second = h }) → StandsIn st.state (debugged first g) st.first
      → OnSecond (StandsIn st.state) (second_of None h) s → Alone (record { first = g; second = h }) st
  alone_by g None st None e there stands other = record { host_is = refl; side_is = e; first_which = there.first_is; first_there = there.first_there; stands = stands }
  alone_by g (Some h) st s e there stands other = absurd there.second_there
  alone_by g None st (Some s) e there stands other = absurd other

  pub alone_of : (hs : Hosts) (st : SessionState) → AreThere b c o first None hs → SidesStand (sides_of first None hs) st → Alone hs st
  alone_of hs st there sides = alone_by hs.first hs.second st st.second refl there sides.first sides.second

  pub alone_said : (hs : Hosts) (st : SessionState) (o1 : Option World) (x : Alone hs st) → IsThere b c o1 first hs.first None → (text : List ℕ) → text ≡ line (regs_text st.first) → AreThere b c o1 first None hs × (text ≡ joined (all_regs st))
  alone_said hs st o1 x there text e =
      let reply : joined (all_regs st) ≡ line (regs_text st.first) ++ [] =
      ap (λ (s : Option SideState). joined (regs_text st.first ∷ elim s as (λ s. List (List ℕ)) [ None ↦ [] | Some a ↦ regs_text a ∷ [] ])) x.side_is in (
        record {
          first_is = x.first_which;
          first_there = subst (IsThere b c o1 first hs.first) (sym x.host_is) there;
          second_there = subst (λ (h : Option Host). OnSecond (IsSecond b c o1 hs.first) None h) (sym x.host_is) tt;
        },
        e ∙ (sym (append-nil (line (regs_text st.first))) ∙ sym reply),
      )

abbrev never : Troubled → Type 0
never e = ⊥

module _ (b : Behaviour) (c : Conduct) (o o1 : Option World) (f f1 : ℕ) (first : SideRecord) (hs : Hosts) (st : SessionState) (result : Result (List ℕ) AskFault) where
  -- what `regs` says of this side
  abbrev pub OneRegs : Type 0
  OneRegs =
      (h : Host) (beside : Option Host) (a : SideState) → IsThere b c o first h beside → StandsFor (debugged first h) a → ComesTo f f1 (λ (text : List ℕ). IsThere b c o1 first h beside × (text ≡ line (regs_text a))) never result

  -- what it says of all sides
  abbrev pub AllRegs : Option SideRecord → Type 0
  AllRegs second =
      AreThere b c o first second hs → SidesStand (sides_of first second hs) st → ComesTo f f1 (λ (text : List ℕ). AreThere b c o1 first second hs × (text ≡ joined (all_regs st))) never result

  alone_meant : OneRegs → AllRegs None
  alone_meant one there sides =
      let x : Alone b c o first hs st = alone_of b c o first hs st there sides in
      comes_on f f1 (λ (text : List ℕ). IsThere b c o1 first hs.first None × (text ≡ line (regs_text st.first))) (λ (text : List ℕ). AreThere b c o1 first None hs × (text ≡ joined (all_regs st))) never result
      (λ text w. alone_said b c o first hs st o1 x w.0 text w.1) (one hs.first None st.first x.first_there x.stands.stands)

  pub none_meant : (second : Option SideRecord) → second ≡ None → OneRegs → AllRegs second
  none_meant second e one = subst AllRegs (sym e) (alone_meant one)

  pub some_meant : (second : Option SideRecord) (s : SideRecord) → second ≡ Some s → AllRegs (Some s) → AllRegs second
  some_meant second s e all = subst AllRegs (sym e) all
