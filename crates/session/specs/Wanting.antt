-- What a command leaves that found no memory, or that evaluated an expression: a session that stands for the machine session as before, over the
-- tables that it has then, behind `ps` without memory and behind `assign` with numbers stored. What was closed of these tables is settled at most, more of them may be closed, and nothing of the command is
-- left in them. (What a unit that was run settled, and what it closed, is what the text of its table makes: that isn't said here.)
use Rattle.std.specs.Prelude.{◌≡◌, ℕ, [], Option, Some, None, Result, Ok, Err}
use Rattle.machine_state.specs.State.{Behaviour, order_of}
use Rattle.nub_wire.specs.Nub.{Host}
use Rattle.nub_wire.specs.Delivery.{Conduct, World}
use Rattle.ps_store.specs.declared.object.Part.TheVariants.{Command as CommandPart}
use Rattle.ps_store.specs.StoreState.{StoreState}
use Rattle.ps_store.specs.Store.{closed_part}
use Rattle.ps_store.specs.Settled.{Settled}
use Rattle.c_session.specs.declared.command.Command.{Command}
use Rattle.c_session.specs.declared.command.Command.TheVariants as command
use Rattle.claims.specs.Side.{SideState, SessionState}
use Rattle.side_meaning.specs.Standing.{Debugged, StandsFor, no_objects}
use Rattle.side_meaning.specs.Stepping.{IsStill}
use Rattle.side_meaning.specs.Asking.{HasNames, IsAsked}
use Rattle.side_meaning.specs.Sessions.{OnSecond, SidesStand}
use Rattle.side_meaning.specs.Storing.{StoresNumbers}
use Rattle.session.specs.declared.answers.Answer.{Answer}
use Rattle.session.specs.declared.answers.Answer.TheVariants as answer
use Rattle.session.specs.declared.answers.End.{End}
use Rattle.session.specs.declared.modes.Mode.{Mode}
use Rattle.session.specs.declared.sides.SideRecord.{SideRecord}
use Rattle.session.specs.Meant.{debugged, sides_of, Hosts, IsThere, AreThere, Represents, IsPlain}

-- one that is asked of each side, but for `ps`
abbrev pub IsAskedAlone : Command → Type 0
IsAskedAlone (command.Eval text) = Unit {0}
IsAskedAlone (command.Code text) = Unit {0}
IsAskedAlone c = IsPlain c

-- a text of PostScript, which alone may store to the target where it isn't done
abbrev pub IsText : Command → Type 0
IsText (command.Ps text) = Unit {0}
IsText c = ⊥

-- one that is answered by what the sides tell
abbrev pub IsInquired : Command → Type 0
IsInquired command.Regs = Unit {0}
IsInquired (command.Assign text) = Unit {0}
IsInquired (command.Ps text) = Unit {0}
IsInquired c = IsAskedAlone c

-- ---- a table

-- Units of it may have been run: what was closed is settled at most, and more may be closed. No objects of a command are there where none were.
pub record OnlySettles (s t : StoreState) : Type 0 where
  pub closed : Settled (closed_part s) (closed_part t)
  pub nothing : s.command ≡ no_objects → t.command ≡ no_objects

-- the same table, where what is made is a command's
abbrev pub in_command : StoreState → StoreState
in_command s = record s { part = CommandPart }

-- so is a side's table behind a command, and points whose names were closed are the same rows
pub record TableStays (s t : StoreState) : Type 0 where
  pub names : (d : Debugged) → HasNames (record d { table = s }) → IsStill (record d { table = s }) (record d { table = t }) × HasNames (record d { table = t })
  pub settles : OnlySettles (in_command s) (in_command t)

abbrev pub KeepsTable : (old new : SideRecord) → Type 0
KeepsTable old new = TableStays old.inquiry.core.store new.inquiry.core.store

-- ---- what is changed of a side

-- units of its table may have been run
pub record WithTable (a a' : SideState) : Type 0 where
  pub same : a' ≡ record a { table = a'.table }
  pub settles : OnlySettles a.table a'.table

-- numbers were stored in the memory of its machine, too
pub record WithNumbers (a a' : SideState) : Type 0 where
  pub same : a' ≡ record a { machine = record a.machine { memory = a'.machine.memory }; table = a'.table }
  pub stores : StoresNumbers (order_of a.machine) a.machine.memory a'.machine.memory
  pub settles : OnlySettles a.table a'.table

-- by a command that found no memory
abbrev pub Leaves : Command → (a a' : SideState) → Type 0
Leaves (command.Ps text) a a' = WithNumbers a a'
Leaves c a a' = WithTable a a'

-- ---- an answer

-- it finds no memory, or is whatever line `eval`, `assign` or `code` say, a refusal too
abbrev pub LeavesTarget : Option Command → Result Answer End → Type 0
LeavesTarget c (Ok answer.NoMemory) = Unit {0}
LeavesTarget (Some (command.Eval text)) (Ok (answer.Lines l)) = Unit {0}
LeavesTarget (Some (command.Assign text)) (Ok (answer.Lines l)) = Unit {0}
LeavesTarget (Some (command.Code text)) (Ok (answer.Lines l)) = Unit {0}
LeavesTarget c r = ⊥

-- what it leaves changed of a side: an assignment that was answered by a line, also by a refusal, may have stored numbers, and a line without a command leaves all as it is
abbrev pub LeavesIfAny : Option Command → Result Answer End → (a a' : SideState) → Type 0
LeavesIfAny None r a a' = a' ≡ a
LeavesIfAny (Some (command.Assign text)) (Ok (answer.Lines l)) a a' = WithNumbers a a'
LeavesIfAny (Some c) r a a' = Leaves c a a'

-- ---- a side

-- it stands for the machine session's side where units of its table may have been run
pub record OnlyRan (d : Debugged) (a : SideState) : Type 0 where
  pub table : StoreState
  pub settles : OnlySettles a.table table
  pub stands : StandsFor d (record a { table = table })

-- its nub and machine are at rest, as they were
pub record StaysOne (b : Behaviour) (c : Conduct) (o : Option World) (side : SideRecord) (h : Host) (beside : Option Host) (a : SideState) : Type 0 where
  pub there : IsThere b c o side h beside
  pub ran : OnlyRan (debugged side h) a

-- behind a text of PostScript: they are at rest, and numbers were stored on both sides alike
pub record StoresOne (b : Behaviour) (c : Conduct) (o : Option World) (side side' : SideRecord) (h : Host) (beside : Option Host) (a : SideState) : Type 0 where
  pub host : Host
  pub after : SideState
  pub there : IsThere b c o side' host beside
  pub alike : IsAsked (debugged side h) (debugged side' host) a after
  pub numbers : WithNumbers a after

-- ---- the session

-- the machine session with other sides: its limit and its output are as before
pub record WithSides (P : (a a' : SideState) → Type 0) (st st' : SessionState) : Type 0 where
  pub same : st' ≡ record st { first = st'.first; second = st'.second }
  pub first : P st.first st'.first
  pub second : OnSecond P st.second st'.second

module _ (P : (a a' : SideState) → Type 0) (b : Behaviour) (c : Conduct) (o : Option World) (first : SideRecord) (second : Option SideRecord) where
  -- the sides stand for those of such a machine session
  pub record StandAgain (st : SessionState) : Type 0 where
    pub after : SessionState
    pub hosts : Hosts
    pub there : AreThere b c o first second hosts
    pub sides : SidesStand (sides_of first second hosts) after
    pub changed : WithSides P st after

  -- and so does the session
  pub record RepresentsAgain (mode : Mode) (limit : ℕ) (st : SessionState) : Type 0 where
    pub after : SessionState
    pub hosts : Hosts
    pub represents : Represents b c o first second mode limit hosts after
    pub changed : WithSides P st after
