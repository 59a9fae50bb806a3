-- Sides that stand as before where a command found no memory.
use Rattle.std.proofs.Common.{◌≡◌, ◌≢◌, ◌∙◌, refl, sym, ap, subst, inl, inr, ℕ, List, [], map, Option, Some, None, Result, Ok, Err, IfErr, ◌⊎◌}
use Rattle.std.specs.Global.{Vec}
use Rattle.std.specs.List.{AllByRecursion}
use Rattle.machine_state.specs.Sound.{IsMemory}
use Rattle.machine_state.specs.Regions.{Regions}
use Rattle.machine_state.specs.State.{Behaviour, order_of}
use Rattle.nub_wire.specs.declared.link.Side.{Side}
use Rattle.nub_wire.specs.declared.link.Side.TheVariants.{First, Second}
use Rattle.nub_wire.specs.Rest.{other}
use Rattle.nub_wire.specs.Nub.{Host}
use Rattle.nub_wire.specs.Delivery.{Conduct, World}
use Rattle.resuming.specs.Standing.{Stands}
use Rattle.ps_store.specs.declared.object.Part.{Part}
use Rattle.ps_store.specs.declared.object.Part.TheVariants.{Command as CommandPart}
use Rattle.ps_store.specs.declared.object.Mark.{Mark}
use Rattle.ps_store.specs.Held.{Held}
use Rattle.ps_store.specs.StoreState.{StoreState}
use Rattle.ps_store.specs.Store.{closed_part}
use Rattle.ps_store.specs.Cut.{mark_of, cut}
use Rattle.ps_store.specs.Settled.{Settled}
use Rattle.ps_store.proofs.Settling.{settled_same, settled_on}
use Rattle.table_points.specs.declared.row.Point.{Point}
use Rattle.table_points.specs.Rows.{row_in}
use Rattle.table_points.specs.Named.{IsNamed}
use Rattle.table_asks.specs.Closing.{Settles}
use Rattle.table_asks.specs.declared.inquiry.Inquiry.{Inquiry}
use Rattle.table_asks.specs.declared.fault.AskFault.{AskFault}
use Rattle.table_asks.specs.declared.fault.AskFault.TheVariants.{Refused, Raised, Spent, NoMemory, Broken}
use Rattle.table_asks.specs.Faults.{IsOwn, IsUnbroken}
use Rattle.debug_side.proofs.Undoing.{all_undone}
use Rattle.dialect_model.specs.TableUse.{TableUse}
use Rattle.c_session.specs.Commands.{Resume, ByStep, ByContinue}
use Rattle.c_session.specs.declared.command.Command.{Command}
use Rattle.c_session.specs.declared.command.Command.TheVariants as command
use Rattle.claims.specs.Side.{SideState, SessionState, State, Fresh, Stopped, Running, Ended}
use Rattle.side_meaning.specs.Standing.{Debugged, StandsFor, no_objects}
use Rattle.side_meaning.specs.Stepping.{IsStill, IsSettled, IsStepped, FindsWords, IsReady}
use Rattle.side_meaning.specs.Asking.{HasNames}
use Rattle.side_meaning.specs.Storing.{StoresNumbers, none_stored}
use Rattle.side_meaning.specs.Sessions as sessions
use Rattle.side_meaning.specs.Sessions.{OnSecond, StandsIn, SidesStand, Prepared, PreparedIn, SecondPrepared, ArePrepared}
use Rattle.side_meaning.proofs.Asking.{names_stay}
use Rattle.side_meaning.proofs.Beginning.{settled_stands, stands_with, step_undone, Undone}
use Rattle.side_meaning.proofs.Starting.{no_words, in_state}
use Rattle.side_meaning.proofs.Telling.{memories}
use Rattle.session.specs.declared.answers.Answer.{Answer}
use Rattle.session.specs.declared.answers.Answer.TheVariants as answer
use Rattle.session.specs.declared.answers.End.{End}
use Rattle.session.specs.declared.modes.Mode.{Mode}
use Rattle.session.specs.declared.sides.SideRecord.{SideRecord}
use Rattle.session.specs.Answered.{state_of}
use Rattle.session.specs.Resuming as behind
use Rattle.session.specs.Meant.{debugged, IsThere, Hosts, second_of, sides_of, AreThere, AreReadyFor, AllPrepared, AllCleared, Represents}
use Rattle.session.specs.Wanting.{OnlySettles, in_command, TableStays, KeepsTable, OnlyRan, StaysOne, WithTable, WithNumbers, WithSides, IsText, Leaves, LeavesIfAny, StandAgain, RepresentsAgain}
use Rattle.session.proofs.Asking.{none_mapped}
use Rattle.session.proofs.Pointing.{cut_nothing}
use Rattle.session.proofs.Beside.{stands_beside, second_beside, first_beside}
use Rattle.session.proofs.Readying.{second_stays, PutsOn, TakesAway}

-- ---- a table

pub same_settles : (s : StoreState) → OnlySettles s s
same_settles s = record { closed = settled_same (closed_part s); nothing = λ e. e }

pub same_table : (s : StoreState) → TableStays s s
same_table s = record { names = λ d names. (record { breaks = refl; stands_at = refl; kept = refl }, names); settles = same_settles (in_command s) }

-- the machine session's tables of two that only settle
pub settles_for : (s s' t t' : StoreState) → t ≡ in_command s → t' ≡ in_command s' → OnlySettles (in_command s) (in_command s') → OnlySettles t t'
settles_for s s' t t' e e' h = subst (λ (z : StoreState). OnlySettles z t') (sym e) (subst (λ (z : StoreState). OnlySettles (in_command s) z) (sym e') h)

-- from the begin of a command to its end
module _ (s begun k t : StoreState) (m : Mark) (store : begun ≡ in_command s) (mark : m ≡ mark_of s.command) (closed : Settles (closed_part begun) (closed_part k)) (ends : t ≡ record k { part = CommandPart; command = cut k.command m }) where
  settled : Settled (closed_part (in_command s)) (closed_part k)
  settled = closed (closed_part (in_command s)) (subst (λ (z : StoreState). Settled (closed_part (in_command s)) (closed_part z)) (sym store) (settled_same (closed_part (in_command s))))

  abbrev last : StoreState
  last = record k { part = CommandPart; command = cut k.command m }

  settled_last : Settled (closed_part k) (closed_part last)
  settled_last = subst (λ (p : Part). Settled (closed_part k) (record (closed_part k) { part = p })) settled.part (settled_same (closed_part k))

  names_last : (d : Debugged) → HasNames (record d { table = s }) → IsStill (record d { table = s }) (record d { table = last }) × HasNames (record d { table = last })
  names_last d names =
      let x = names_stay (record d { table = in_command s }) k settled (record { breaks = names.breaks; words = names.words; kept = names.kept }) in
      let y = names_stay (record d { table = k }) last settled_last (record { breaks = x.1.breaks; words = x.1.words; kept = x.1.kept }) in
      (record { breaks = y.0.breaks ∙ x.0.breaks; stands_at = refl; kept = y.0.kept ∙ x.0.kept }, record { breaks = y.1.breaks; words = y.1.words; kept = y.1.kept })

  pub table_stays : TableStays s t
  table_stays = record {
    names = λ d names. subst (λ (z : StoreState). IsStill (record d { table = s }) (record d { table = z }) × HasNames (record d { table = z })) (sym ends) (names_last d names);
    settles = record {
      closed = subst (λ (z : StoreState). Settled (closed_part (in_command s)) (closed_part (in_command z))) (sym ends) (settled_on (closed_part (in_command s)) (closed_part k) (closed_part last) settled settled_last);
      nothing = λ e. ap (λ (z : StoreState). z.command) ends ∙ (ap (λ (n : Mark). cut k.command n) (mark ∙ ap (λ (h : Held). mark_of h) e) ∙ cut_nothing k.command);
    };
  }

-- points that aren't told
pub points_unbroken : {A : Type 0} (told r : Result A AskFault) → IfErr told (λ (f : AskFault). IsOwn f) → IfErr r (λ (f : AskFault). (told ≡ Err f) ⊎ (f ≡ NoMemory)) → IfErr r (λ (f : AskFault). IsUnbroken f)
points_unbroken told (Ok x) own err = tt
points_unbroken told (Err (Broken x)) own (inl e) = subst (λ z. IfErr z (λ (f : AskFault). IsOwn f)) e own
points_unbroken told (Err (Broken x)) own (inr e) = cc
points_unbroken told (Err (Refused cause)) own err = tt
points_unbroken told (Err (Raised e)) own err = tt
points_unbroken told (Err Spent) own err = tt
points_unbroken told (Err NoMemory) own err = tt

-- ---- a side

pub ran_same : (d : Debugged) (a : SideState) → StandsFor d a → OnlyRan d a
ran_same d a for = record { table = a.table; settles = same_settles a.table; stands = for }

-- it has another table, and the breakpoints of before
module _ (b : Behaviour) (c : Conduct) (o o' : Option World) (side : SideRecord) (h : Host) (beside : Option Host) (x : IsThere b c o side h beside) (i : Inquiry) (v : Vec Point) (n : ℕ) (breaks : v.items ≡ side.row.breaks.items)
    (table : TableStays side.inquiry.core.store i.core.store) (stands : Stands b c side.which o' h beside) where
  abbrev pub after : SideRecord
  after = record side { inquiry = i; row = record side.row { breaks = v }; frame = n }

  names : IsStill (debugged side h) (record (debugged side h) { table = i.core.store }) × HasNames (record (debugged side h) { table = i.core.store })
  names = table.names (debugged side h) x.names

  there_so : IsThere b c o' after h beside
  there_so = record {
    stands = stands;
    context = x.context;
    target = x.target;
    order = x.order;
    names = record {
      breaks = subst (λ ps. AllByRecursion (IsNamed i.core.store) ps) (sym breaks) names.1.breaks;
      words = names.1.words;
      kept = names.1.kept;
    };
  }

  pub there_stays : (side' : SideRecord) → side' ≡ after → IsThere b c o' side' h beside
  there_stays side' e = subst (λ (z : SideRecord). IsThere b c o' z h beside) (sym e) there_so

  -- and the chosen frame, and no word of a step is there
  module _ (a : SideState) (for : StandsFor (debugged side h) a) (none : a.step_words ≡ []) (free : side.row.step_words.items ≡ []) (frame : n ≡ side.frame) where
    ran_so : OnlyRan (debugged after h) a
    ran_so = record {
      table = in_command i.core.store;
      settles = settles_for side.inquiry.core.store i.core.store a.table (in_command i.core.store) for.table.same refl table.settles;
      stands = stands_with (debugged side h) (debugged after h) a (in_command i.core.store) for none free (record { same = refl; command = table.settles.nothing for.table.command }) frame free
          (record { breaks = ap (λ ps. map (row_in i.core.store) ps) breaks ∙ names.0.breaks; stands_at = refl; kept = names.0.kept }) refl;
    }

    pub one_stays : (side' : SideRecord) → side' ≡ after → StaysOne b c o' side' h beside a
    one_stays side' e = subst (λ (z : SideRecord). StaysOne b c o' z h beside a) (sym e) (record { there = there_so; ran = ran_so })

-- so it does where it is there still
pub side_stays : (b : Behaviour) (c : Conduct) (o o' : Option World) (side side' : SideRecord) (h : Host) (beside : Option Host) → IsThere b c o side h beside → (a : SideState) → IsReady (debugged side h) a → a.step_words ≡ [] → side' ≡ record side { inquiry = side'.inquiry }
    → TableStays side.inquiry.core.store side'.inquiry.core.store → IsThere b c o' side' h beside → StaysOne b c o' side' h beside a
side_stays b c o o' side side' h beside x a ready none same table there =
    one_stays b c o o' side h beside x side'.inquiry side.row.breaks side.frame refl table (subst (λ (w : Side). Stands b c w o' h beside) (ap (λ (z : SideRecord). z.which) same) there.stands) a ready.stands none
    (none_mapped (row_in side.inquiry.core.store) side.row.step_words.items (sym ready.planted.words ∙ none)) refl side' same

-- the words of a step were put, or stood still, and were taken away
pub undone_ran : (d d' d'' : Debugged) (a : SideState) (u : TableUse) → IsMemory d.host.machine.memory → StandsFor d a → a.step_words ≡ [] → IsStepped d d' a.table u ⊎ FindsWords d d' → OnlySettles (in_command d.table) (in_command d'.table) → IsSettled d' d'' → OnlyRan d'' a
undone_ran d d' d'' a u memory for none p settles s =
    let w : Undone d'' a = step_undone (λ (target : _) (ps kept : _) (z d : _) m k. all_undone target z d ps kept m k) d d' a u memory for none d'' p s in
    record {
      table = w.side.table;
      settles = settles_for d.table d'.table a.table w.side.table for.table.same (w.stands.table.same ∙ ap (λ (z : StoreState). in_command z) s.table) settles;
      stands = w.stands;
    }

-- only before a step units of the table are run
abbrev pub TableSettles : Resume → (s s' : StoreState) → Type 0
TableSettles ByContinue s s' = Unit {0}
TableSettles ByStep s s' = OnlySettles (in_command s) (in_command s')

abbrev pub TablesStay : Resume → (first first' : SideRecord) (second second' : Option SideRecord) → Type 0
TablesStay ByContinue first first' second second' = Unit {0}
TablesStay ByStep first first' second second' = KeepsTable first first' × behind.OnSecond KeepsTable second second'

pub cleared_ran : (how : Resume) (d d' d'' : Debugged) (a : SideState) → IsMemory d.host.machine.memory → StandsFor d a → a.step_words ≡ [] → Prepared how d d' a → TableSettles how d.table d'.table → IsSettled d' d'' → OnlyRan d'' a
cleared_ran ByContinue d d' d'' a memory for none p settles s =
    let y = settled_stands d d' a for none p in
    let z = settled_stands d' d'' a y.stands none s in
    ran_same d'' a z.stands
cleared_ran ByStep d d' d'' a memory for none p settles s = undone_ran d d' d'' a p.0 memory for none p.1 settles s

-- the second side, once the first one was asked
pub first_there_still : (b : Behaviour) (c : Conduct) (o o' : Option World) (first first' : SideRecord) (second : Option SideRecord) (hs : Hosts) → first'.which ≡ first.which → AreThere b c o first second hs → IsThere b c o' first' hs.first hs.second → AreThere b c o' first' second hs
first_there_still b c o o' first first' second hs which there x = record {
  first_is = which ∙ there.first_is;
  first_there = x;
  second_there = second_stays b c o o' first' hs.first hs.first second hs.second there.second_there (which ∙ there.first_is) x;
}

-- ---- the session

-- a side that does so, where the machine session's has no word of a step
abbrev pub RanNone : Debugged → SideState → Type 0
RanNone d a = OnlyRan d a × (a.step_words ≡ [])

abbrev pub Change : Type 1
Change = SideState → SideState → Type 0

pub second_all : (P : Change) (x : Option SideState) → ((a : SideState) → P a a) → OnSecond P x x
second_all P None h = tt
second_all P (Some a) h = h a

pub stands_same : (P : Change) → ((a : SideState) → P a a) → (b : Behaviour) (c : Conduct) (o : Option World) (first : SideRecord) (second : Option SideRecord) (hs : Hosts) (st : SessionState) → AreThere b c o first second hs → SidesStand (sides_of first second hs) st → StandAgain P b c o first second st
stands_same P same b c o first second hs st there sides = record { after = st; hosts = hs; there = there; sides = sides; changed = record { same = refl; first = same st.first; second = second_all P st.second same } }

-- what is changed less is changed so
second_as : (P Q : Change) (x y : Option SideState) → ((a a' : SideState) → P a a' → Q a a') → OnSecond P x y → OnSecond Q x y
second_as P Q None None to h = tt
second_as P Q (Some a) (Some a') to h = to a a' h
second_as P Q None (Some a) to h = absurd h
second_as P Q (Some a) None to h = absurd h

sides_as : (P Q : Change) (st st' : SessionState) → ((a a' : SideState) → P a a' → Q a a') → WithSides P st st' → WithSides Q st st'
sides_as P Q st st' to w = record { same = w.same; first = to st.first st'.first w.first; second = second_as P Q st.second st'.second to w.second }

pub again_as : (P Q : Change) → ((a a' : SideState) → P a a' → Q a a') → (b : Behaviour) (c : Conduct) (o : Option World) (first : SideRecord) (second : Option SideRecord) (st : SessionState) → StandAgain P b c o first second st → StandAgain Q b c o first second st
again_as P Q to b c o first second st s = record { after = s.after; hosts = s.hosts; there = s.there; sides = s.sides; changed = sides_as P Q st s.after to s.changed }

pub represents_as : (P Q : Change) → ((a a' : SideState) → P a a' → Q a a') → (b : Behaviour) (c : Conduct) (o : Option World) (first : SideRecord) (second : Option SideRecord) (mode : Mode) (limit : ℕ) (st : SessionState) → RepresentsAgain P b c o first second mode limit st → RepresentsAgain Q b c o first second mode limit st
represents_as P Q to b c o first second mode limit st s = record { after = s.after; hosts = s.hosts; represents = s.represents; changed = sides_as P Q st s.after to s.changed }

-- what a command leaves
pub table_leaves : (c : Command) (a a' : SideState) → WithTable a a' → Leaves c a a'
table_leaves (command.Ps text) a a' h =
    let memory : a.machine.memory ≡ a'.machine.memory = ap (λ (z : SideState). z.machine.memory) (sym h.same) in
    record {
      same = h.same ∙ ap (λ (m : Regions). record a { machine = record a.machine { memory = m }; table = a'.table }) memory;
      stores = subst (λ (m : Regions). StoresNumbers (order_of a.machine) a.machine.memory m) memory none_stored;
      settles = h.settles;
    }
table_leaves c a a' h = h

pub numbers_leave : (c : Command) → IsText c → (a a' : SideState) → WithNumbers a a' → Leaves c a a'
numbers_leave (command.Ps text) is a a' h = h
numbers_leave c is a a' h = absurd is

pub text_is : (c : Command) → IsText c → ((text : List ℕ) → c ≢ command.Ps text) → ⊥
text_is (command.Ps text) h n = n text refl
text_is c h n = h

pub same_with : (a : SideState) → WithTable a a
same_with a = record { same = refl; settles = same_settles a.table }

pub same_leaves : (c : Command) (a : SideState) → Leaves c a a
same_leaves c a = table_leaves c a a (same_with a)

pub same_numbers : (a : SideState) → WithNumbers a a
same_numbers a = record { same = refl; stores = none_stored; settles = same_settles a.table }

-- what its answer leaves
pub leaves_if_any : (c : Command) (r : Result Answer End) (a a' : SideState) → Leaves c a a' → LeavesIfAny (Some c) r a a'
leaves_if_any (command.Assign text) (Ok (answer.Lines l)) a a' h = table_leaves (command.Ps text) a a' h
leaves_if_any c r a a' h = h

pub numbers_leave_if_any : (c : Command) (text l : List ℕ) → c ≡ command.Assign text → (a a' : SideState) → WithNumbers a a' → LeavesIfAny (Some c) (Ok (answer.Lines l)) a a'
numbers_leave_if_any c text l is a a' h = subst (λ (d : Command). LeavesIfAny (Some d) (Ok (answer.Lines l)) a a') (sym is) h

pub same_leaves_if_any : (c : Option Command) (r : Result Answer End) (a : SideState) → LeavesIfAny c r a a
same_leaves_if_any None r a = refl
same_leaves_if_any (Some c) r a = leaves_if_any c r a a (same_leaves c a)

record SecondAgain (state : State) (d : Option Debugged) (a : Option SideState) : Type 0 where
  after : Option SideState
  stands : OnSecond (StandsIn state) d after
  tables : OnSecond WithTable a after

second_again : (state : State) (d : Option Debugged) (a : Option SideState) → sessions.IsStill state → OnSecond RanNone d a → SecondAgain state d a
second_again state None None still r = record { after = None; stands = tt; tables = tt }
second_again state (Some d) (Some a) still r = record { after = Some (record a { table = r.0.table }); stands = in_state state d (record a { table = r.0.table }) still r.0.stands r.1; tables = record { same = refl; settles = r.0.settles } }
second_again state None (Some a) still r = absurd r
second_again state (Some d) None still r = absurd r

second_same : (state : State) (d : Option Debugged) (a : Option SideState) → sessions.IsStill state → OnSecond (StandsIn state) d a → OnSecond RanNone d a
second_same state None None still r = tt
second_same state (Some d) (Some a) still r = (ran_same d a r.stands, no_words state d a still r)
second_same state None (Some a) still r = absurd r
second_same state (Some d) None still r = absurd r

module _ (b : Behaviour) (c : Conduct) (st : SessionState) (still : sessions.IsStill st.state) where
  pub stand_again : (o : Option World) (first : SideRecord) (second : Option SideRecord) (hs : Hosts) → AreThere b c o first second hs → OnlyRan (debugged first hs.first) st.first → st.first.step_words ≡ [] → OnSecond RanNone (second_of second hs.second) st.second
      → StandAgain WithTable b c o first second st
  stand_again o first second hs there one none two =
      let more = second_again st.state (second_of second hs.second) st.second still two in
      record {
        after = record st { first = record st.first { table = one.table }; second = more.after };
        hosts = hs;
        there = there;
        sides = record { first = in_state st.state (debugged first hs.first) (record st.first { table = one.table }) still one.stands none; second = more.stands };
        changed = record { same = refl; first = record { same = refl; settles = one.settles }; second = more.tables };
      }

  -- the first side alone was asked
  pub first_wanted : (o o1 : Option World) (first first' : SideRecord) (second : Option SideRecord) (hs : Hosts) → AreThere b c o first second hs → SidesStand (sides_of first second hs) st → first'.which ≡ first.which → StaysOne b c o1 first' hs.first hs.second st.first
      → StandAgain WithTable b c o1 first' second st
  first_wanted o o1 first first' second hs there sides which s =
      stand_again o1 first' second hs
      (first_there_still b c o o1 first first' second hs which there s.there)
      s.ran (no_words st.state (debugged first hs.first) st.first still sides.first) (second_same st.state (second_of second hs.second) st.second still sides.second)

  -- both were asked, and what was done on the first side was undone
  pub both_wanted : (o o' : Option World) (first second : SideRecord) (g h : Host) (s : SideState) (beside : Option Host) → st.second ≡ Some s → first.which ≡ First → second.which ≡ Second → StaysOne b c o' first g (Some h) st.first → StaysOne b c o second h beside s
      → st.first.step_words ≡ [] → s.step_words ≡ [] → StandAgain WithTable b c o' first (Some second) st
  both_wanted o o' first second g h s beside is e k x y none more =
      stand_again o' first (Some second) (record { first = g; second = Some h })
      (record { first_is = e; first_there = x.there; second_there = (k, second_beside b c o o' first second h g beside k y.there e x.there) })
      x.ran none (subst (λ (z : Option SideState). OnSecond RanNone (Some (debugged second h)) z) (sym is) (y.ran, more))

  -- both were asked, and nothing was done on either
  pub second_asked : (o o1 o2 : Option World) (first first' second second' : SideRecord) (hs : Hosts) → AreThere b c o first (Some second) hs → AreReadyFor first (Some second) hs st → first'.which ≡ first.which → second'.which ≡ second.which → StaysOne b c o1 first' hs.first hs.second st.first
      → ((h : Host) (beside : Option Host) (a : SideState) → IsThere b c o1 second h beside → IsReady (debugged second h) a → a.step_words ≡ [] → StaysOne b c o2 second' h beside a) → StandAgain WithTable b c o2 first' (Some second') st
  second_asked o o1 o2 first first' second second' hs there ready which second_which x stays = by hs.second st.second there ready refl x
    where
      by : (k : Option Host) (s : Option SideState) → AreThere b c o first (Some second) (record { first = hs.first; second = k }) → AreReadyFor first (Some second) (record { first = hs.first; second = k }) (record st { second = s }) → st.second ≡ s → StaysOne b c o1 first' hs.first k st.first
          → StandAgain WithTable b c o2 first' (Some second') st
      by None s t r e x = absurd t.second_there
      by (Some h) None t r e x = absurd r.ready.1
      by (Some h) (Some s) t r e x =
          let more = no_words st.state (debugged second h) s still r.sides.second in
          let waits : IsThere b c o1 second h (Some hs.first) = second_beside b c o o1 first' second h hs.first (Some hs.first) t.second_there.0 t.second_there.1 (which ∙ t.first_is) x.there in
          let y = stays h (Some hs.first) s waits r.ready.1 more in
          stand_again o2 first' (Some second') (record { first = hs.first; second = Some h })
          (record {
            first_is = which ∙ t.first_is;
            first_there = first_beside b c o1 o2 first' second' hs.first h (Some h) (which ∙ t.first_is) x.there (second_which ∙ t.second_there.0) y.there;
            second_there = (second_which ∙ t.second_there.0, y.there);
          })
          x.ran (no_words st.state (debugged first hs.first) st.first still r.sides.first) (subst (λ (z : Option SideState). OnSecond RanNone (Some (debugged second' h)) z) (sym e) (y.ran, more))

  -- the second side alone found no memory, and the first one was undone
  pub given_again : (o o1 o2 o3 : Option World) (first first' first'' second second' : SideRecord) (hs : Hosts) → AreThere b c o first (Some second) hs → AreReadyFor first (Some second) hs st → first'.which ≡ first.which → first''.which ≡ first'.which → second'.which ≡ second.which
      → (g : Host) → IsThere b c o1 first' g hs.second
      → ((h : Host) (beside : Option Host) (a : SideState) → IsThere b c o1 second h beside → IsReady (debugged second h) a → a.step_words ≡ [] → StaysOne b c o2 second' h beside a)
      → (Stands b c first'.which o2 g hs.second → StaysOne b c o3 first'' hs.first hs.second st.first) → StandAgain WithTable b c o3 first'' (Some second') st
  given_again o o1 o2 o3 first first' first'' second second' hs there ready which again second_which g mid stays back = by hs.second st.second there ready refl mid back
    where
      by : (x : Option Host) (y : Option SideState) → AreThere b c o first (Some second) (record { first = hs.first; second = x }) → AreReadyFor first (Some second) (record { first = hs.first; second = x }) (record st { second = y }) → st.second ≡ y
          → IsThere b c o1 first' g x → (Stands b c first'.which o2 g x → StaysOne b c o3 first'' hs.first x st.first) → StandAgain WithTable b c o3 first'' (Some second') st
      by None y t r e m k = absurd t.second_there
      by (Some h) None t r e m k = absurd r.ready.1
      by (Some h) (Some s) t r e m k =
          let none = no_words st.state (debugged first hs.first) st.first still r.sides.first in
          let more = no_words st.state (debugged second h) s still r.sides.second in
          let waits : IsThere b c o1 second h (Some g) = second_beside b c o o1 first' second h g (Some hs.first) t.second_there.0 t.second_there.1 (which ∙ t.first_is) m in
          let u = stays h (Some g) s waits r.ready.1 more in
          let other_is : second.which ≡ other first'.which = t.second_there.0 ∙ ap other (sym (which ∙ t.first_is)) in
          let rests : Stands b c first'.which o2 g (Some h) = stands_beside b c o1 o2 g h (Some h) first'.which m.stands (subst (λ (w : Side). Stands b c w o2 h (Some g)) (second_which ∙ other_is) u.there.stands) in
          both_wanted o2 o3 first'' second' hs.first h s (Some g) e (again ∙ (which ∙ t.first_is)) (second_which ∙ t.second_there.0) (k rests) u none more

  -- ---- behind what was done before a resume

  prepared_so : (how : Resume) (state : State) (d d' : Debugged) (a : SideState) → sessions.IsStill state → PreparedIn state how d d' a → Prepared how d d' a
  prepared_so how Fresh d d' a s p = p
  prepared_so how Stopped d d' a s p = p
  prepared_so how (Running began) d d' a s p = absurd s
  prepared_so how Ended d d' a s p = absurd s

  first_cleared : (how : Resume) (d d' d'' : Debugged) → IsMemory d.host.machine.memory → StandsIn st.state d st.first → PreparedIn st.state how d d' st.first → TableSettles how d.table d'.table → IsSettled d' d'' → OnlyRan d'' st.first
  first_cleared how d d' d'' memory for p settles s = cleared_ran how d d' d'' st.first memory for.stands (no_words st.state d st.first still for) (prepared_so how st.state d d' st.first still p) settles s

  -- of a second side that is there before and after
  abbrev BothSettle : Resume → (d d' : Option Debugged) → Type 0
  BothSettle ByContinue d d' = Unit {0}
  BothSettle ByStep (Some d) (Some d') = OnlySettles (in_command d.table) (in_command d'.table)
  BothSettle ByStep d d' = Unit {0}

  both_settle : (how : Resume) (d d' : Debugged) → BothSettle how (Some d) (Some d') → TableSettles how d.table d'.table
  both_settle ByContinue d d' h = tt
  both_settle ByStep d d' h = h

  second_settles : (second second' : Option SideRecord) (x y : Option Host) → behind.OnSecond KeepsTable second second' → BothSettle ByStep (second_of second x) (second_of second' y)
  second_settles None second' x y h = tt
  second_settles (Some a) second' None y h = tt
  second_settles (Some a) None (Some g) y h = absurd h
  second_settles (Some a) (Some a') (Some g) None h = tt
  second_settles (Some a) (Some a') (Some g) (Some g') h = h.settles

  tables_settle : (how : Resume) (first first' : SideRecord) (second second' : Option SideRecord) (x y : Option Host) → TablesStay how first first' second second'
      → TableSettles how first.inquiry.core.store first'.inquiry.core.store × BothSettle how (second_of second x) (second_of second' y)
  tables_settle ByContinue first first' second second' x y h = (tt, tt)
  tables_settle ByStep first first' second second' x y h = (h.0.settles, second_settles second second' x y h.1)

  second_cleared : (how : Resume) (d d' d'' : Option Debugged) (a : Option SideState) → sessions.IfSecond (λ (z : Debugged). IsMemory z.host.machine.memory) d → OnSecond (StandsIn st.state) d a → SecondPrepared st.state how d d' a → BothSettle how d d' → OnSecond IsSettled d' d'' → OnSecond RanNone d'' a
  second_cleared how (Some d) (Some d') (Some d'') (Some a) memory for p settles s =
      let none = no_words st.state d a still for in
      (cleared_ran how d d' d'' a memory for.stands none (prepared_so how st.state d d' a still p) (both_settle how d d' settles) s, none)
  second_cleared how None None None None memory for p settles s = tt
  second_cleared how None None (Some d'') a memory for p settles s = absurd s
  second_cleared how None None None (Some a) memory for p settles s = absurd for
  second_cleared how None (Some d') d'' a memory for p settles s = absurd p
  second_cleared how (Some d) None d'' a memory for p settles s = absurd p
  second_cleared how (Some d) (Some d') None a memory for p settles s = absurd s
  second_cleared how (Some d) (Some d') (Some d'') None memory for p settles s = absurd for

  second_memory : (o : Option World) (h : Host) (second : Option SideRecord) (x : Option Host) → OnSecond (λ (side : SideRecord) (g : Host). (side.which ≡ Second) × IsThere b c o side g (Some h)) second x → sessions.IfSecond (λ (z : Debugged). IsMemory z.host.machine.memory) (second_of second x)
  second_memory o h None None q = tt
  second_memory o h None (Some g) q = tt
  second_memory o h (Some side) None q = tt
  second_memory o h (Some side) (Some g) q = memories b c side.which o g (Some h) q.1.stands

  -- the words of the second side were not put, and those of the first one were taken away
  pub second_unput : (o o1 o2 o3 : Option World) (f f1 f2 f3 : ℕ) (first first' first'' second second' : SideRecord) (hs : Hosts) → first'.which ≡ first.which → first''.which ≡ first'.which → second'.which ≡ second.which → AreThere b c o first (Some second) hs
      → SidesStand (sides_of first (Some second) hs) st → PutsOn b c o o1 f f1 first first' (Ok tt) → TableStays first.inquiry.core.store first'.inquiry.core.store
      → ((h : Host) (beside : Option Host) (a : SideState) → IsThere b c o1 second h beside → StandsFor (debugged second h) a → a.step_words ≡ [] → StaysOne b c o2 second' h beside a)
      → TakesAway b c o2 o3 f2 f3 first' first'' (Ok tt) → StandAgain WithTable b c o3 first'' (Some second') st
  second_unput o o1 o2 o3 f f1 f2 f3 first first' first'' second second' hs which again second_which there sides puts table stays away = by hs.second st.second there sides refl
    where
      by : (x : Option Host) (y : Option SideState) → AreThere b c o first (Some second) (record { first = hs.first; second = x }) → SidesStand (sides_of first (Some second) (record { first = hs.first; second = x })) (record st { second = y }) → st.second ≡ y
          → StandAgain WithTable b c o3 first'' (Some second') st
      by None y t r e = absurd t.second_there
      by (Some g) None t r e = absurd r.second
      by (Some g) (Some s) t r e =
          let none = no_words st.state (debugged first hs.first) st.first still r.first in
          let more = no_words st.state (debugged second g) s still r.second in
          let put = puts hs.first (Some g) st.first t.first_there r.first.stands none in
          let waits : IsThere b c o1 second g (Some put.host) = second_beside b c o o1 first' second g put.host (Some hs.first) t.second_there.0 t.second_there.1 (which ∙ t.first_is) put.there in
          let u = stays g (Some put.host) s waits r.second.stands more in
          let back = away put.host (Some g) (first_beside b c o1 o2 first' second' put.host g (Some g) (which ∙ t.first_is) put.there (second_which ∙ t.second_there.0) u.there) in
          let w : OnlyRan (debugged first'' back.host) st.first =
          undone_ran (debugged first hs.first) (debugged first' put.host) (debugged first'' back.host) st.first put.use_after (memories b c first.which o hs.first (Some g) t.first_there.stands) r.first.stands none put.stepped table.settles back.settled in
          both_wanted o2 o3 first'' second' back.host g s (Some put.host) e (again ∙ (which ∙ t.first_is)) (second_which ∙ t.second_there.0) (record { there = back.there; ran = w }) u none more

  -- all is taken away again
  pub unprepared : (how : Resume) (o o1 o2 : Option World) (first first' first'' : SideRecord) (second second' second'' : Option SideRecord) (hs : Hosts) → AreThere b c o first second hs → SidesStand (sides_of first second hs) st
      → (p : AllPrepared b c o1 first first' second second' hs st how) → TablesStay how first first' second second'
      → AllCleared b c o2 first' first'' second' second'' p.hosts → StandAgain WithTable b c o2 first'' second'' st
  unprepared how o o1 o2 first first' first'' second second' second'' hs there sides p stay s =
      let settles = tables_settle how first first' second second' hs.second p.hosts.second stay in
      stand_again o2 first'' second'' s.hosts s.there
      (first_cleared how (debugged first hs.first) (debugged first' p.hosts.first) (debugged first'' s.hosts.first) (memories b c first.which o hs.first hs.second there.first_there.stands) sides.first p.prepared.first settles.0 s.first_settled)
      (no_words st.state (debugged first hs.first) st.first still sides.first)
      (second_cleared how (second_of second hs.second) (second_of second' p.hosts.second) (second_of second'' s.hosts.second) st.second (second_memory o hs.first second hs.second there.second_there) sides.second p.prepared.second settles.1 s.second_settled)

pub represents_again : (P : Change) (b : Behaviour) (c : Conduct) (o : Option World) (first : SideRecord) (second : Option SideRecord) (mode : Mode) (limit : ℕ) (st : SessionState) → st.state ≡ state_of mode → st.limit ≡ limit → StandAgain P b c o first second st → RepresentsAgain P b c o first second mode limit st
represents_again P b c o first second mode limit st state lim s = record {
  after = s.after;
  hosts = s.hosts;
  represents = record { there = s.there; sides = s.sides; state = ap (λ (z : SessionState). z.state) s.changed.same ∙ state; limit_is = ap (λ (z : SessionState). z.limit) s.changed.same ∙ lim };
  changed = s.changed;
}

pub represents_same : (P : Change) → ((a : SideState) → P a a) → (b : Behaviour) (c : Conduct) (o : Option World) (first : SideRecord) (second : Option SideRecord) (m : Mode) (limit : ℕ) (hs : Hosts) (st : SessionState) → Represents b c o first second m limit hs st → RepresentsAgain P b c o first second m limit st
represents_same P same b c o first second m limit hs st x = represents_again P b c o first second m limit st x.state x.limit_is (stands_same P same b c o first second hs st x.there x.sides)
