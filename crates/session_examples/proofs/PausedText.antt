-- A session over a hand-made SPARC image: `mov 7, %o0`, `ta 20` (a pause), with a table that has no units. At the pause a text of
-- PostScript leaves two numbers, a name and a truth value.
use Rattle.std.specs.Prelude.{ℕ, true, ◌+◌, List, [], ◌∷◌, codes, Some, None, Ok}
use Rattle.std.proofs.Common.{refl}
use Rattle.machine_state.specs.State.{MachineState}
use Rattle.sparc_isa.specs.Loaded.{first_state}
use Rattle.targets.specs.Targets.{machine_behaviour}
use Rattle.ps_store.specs.declared.object.Part.TheVariants.{Command}
use Rattle.ps_store.specs.declared.object.PsObj.TheVariants.{Str}
use Rattle.ps_store.specs.Store.{text_units}
use Rattle.ps_store.specs.StoreState.{StoreState}
use Rattle.ps_step.specs.declared.item.Item.TheVariants.{Object}
use Rattle.ps_step.specs.declared.machine.PsCore.{PsCore}
use Rattle.ps_run.specs.Step.{Ended, Next, Asks, Failed, step}
use Rattle.ps_run.specs.Runs.{Runs, next, ended}
use Rattle.dialect_model.specs.Dial.{Dial, Numbered}
use Rattle.dialect_model.specs.Operating.{Operates}
use Rattle.dialect_model.specs.TableUse.{TableUse, use_of}
use Rattle.c_session.specs.declared.command.Command.TheVariants as command
use Rattle.c_session.specs.Commands.{ByContinue}
use Rattle.claims.specs.Side.{SideState, SessionState, MOST_STEPS, first_side, first_session, dial_of}
use Rattle.claims.specs.Raw as raw
use Rattle.claims.specs.Resumes.{Resumed, resumed}
use Rattle.claims.specs.Outcome.{Answers}
use Rattle.session_examples.proofs.Computing.{computing_sparc, interpreting}
use Rattle.session_examples.proofs.BareTable.{dict, bare_table}

abbrev text : List ℕ
text = 0x90 ∷ 0x10 ∷ 0x20 ∷ 0x07 ∷ 0x91 ∷ 0xD0 ∷ 0x20 ∷ 0x14 ∷ []

abbrev table : StoreState
table = bare_table (codes "sparc")

abbrev machine : MachineState
machine = first_state 0x00400000 text []

abbrev start : SessionState
start = first_session (first_side machine_behaviour [] table machine) None

abbrev paused : Resumed
paused = resumed machine_behaviour ByContinue start

abbrev now : TableUse
now = use_of (record table { part = Command }) MOST_STEPS

abbrev here : SideState
here = paused.session.first

-- the state after a step, and the one at which a run has ended
abbrev after : PsCore → PsCore
after c = elim (step c) [ Next c' ↦ c' | Ended c' ↦ c' | Asks op c' ↦ c' | Failed e c' ↦ c' ]

abbrev operands : List ℕ
operands = codes "1 2 /a true"

-- the state before the text runs: the text and a dictionary stand in the command's part
abbrev begun : PsCore
begun = record {
  store = record table {
    command = record { arrays = []; dicts = [] ∷ []; strings = operands ∷ []; units = 1 + text_units operands };
    part = Command;
  };
  operands = [];
  dictionaries = record { part = Command; index = 0 } ∷ dict 1 ∷ dict 0 ∷ [];
  execution = Object (Str (record { part = Command; index = 0 }) true) ∷ [];
}

-- the state in which the command has its dictionary
abbrev bare : PsCore
bare = record begun {
  store = record table { command = record { arrays = []; dicts = [] ∷ []; strings = []; units = 1 }; part = Command };
  execution = [];
}

abbrev owned : StoreState → TableUse
owned s = record now { store = s; own = Some (record { part = Command; index = 0 }) }

abbrev dial : Dial
dial = dial_of here (Numbered here.frame) true

abbrev one : PsCore
one = after begun

abbrev two : PsCore
two = after one

abbrev named : PsCore
named = after two

abbrev all : PsCore
all = after named

abbrev at_end : PsCore
at_end = after all

abbrev last : PsCore
last = after at_end

runs : Runs Operates 10000000 dial begun (Ok tt) 9999995 dial last
unfolding interpreting
runs =
    next 9999999 9999995 dial dial begun one last (Ok tt) refl
    (next 9999998 9999995 dial dial one two last (Ok tt) refl
    (next 9999997 9999995 dial dial two named last (Ok tt) refl
    (next 9999996 9999995 dial dial named all last (Ok tt) refl
    (next 9999995 9999995 dial dial all at_end last (Ok tt) refl
    (ended 9999994 dial at_end last refl)))))

is_ready : raw.ps_ready here operands now (Ok (record { dial = dial; core = begun })) (owned begun.store)
is_ready = (Ok bare, owned bare.store, (refl, refl), (refl, refl))

leaves : Answers machine_behaviour paused.session (Some (command.Ps operands)) (codes "ps 1 2 a true" ∷ []) paused.session
unfolding computing_sparc interpreting
leaves = (raw.ps_result here (Ok tt) dial last, raw.with_run here dial last, raw.ended is_ready runs, (refl, refl))
