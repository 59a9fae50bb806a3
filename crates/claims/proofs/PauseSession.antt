-- A session over a hand-made SPARC image: `mov 7, %o0`, `ta 20` (a pause), `mov 7, %o0`, `ta 19` (exit), with a table that has no
-- units. Its lines, one after another: the registers, `continue`, a text of PostScript, the frames, `continue`, and one line more.
use Rattle.std.specs.Prelude.{◌≡◌, ℕ, pos, true, false, ◌+◌, List, [], ◌∷◌, codes, Some, None, Ok, Err}
use Rattle.std.proofs.Common.{refl, inl}
use Rattle.machine_state.specs.State.{MachineState}
use Rattle.machine_state.specs.declared.layout.TheConstants.{CONTEXT}
use Rattle.sparc_isa.specs.Loaded.{first_state}
use Rattle.targets.specs.Targets.{machine_behaviour}
use Rattle.ps_store.specs.declared.object.Part.TheVariants.{Table, Command}
use Rattle.ps_store.specs.declared.object.PsObj.{PsObj}
use Rattle.ps_store.specs.declared.object.PsObj.TheVariants.{Int, Name, Str, Array, Dict}
use Rattle.ps_store.specs.declared.object.DictId.{DictId}
use Rattle.ps_store.specs.declared.object.Pair.{Pair}
use Rattle.ps_store.specs.declared.key.Key.{Key}
use Rattle.ps_store.specs.declared.key.Key.TheVariants.{Name as NameKey}
use Rattle.ps_store.specs.Store.{text_units}
use Rattle.ps_store.specs.StoreState.{StoreState}
use Rattle.ps_step.specs.declared.fault.PsError.TheVariants.{UndefinedResult}
use Rattle.ps_step.specs.declared.fault.PsFault.TheVariants.{Error}
use Rattle.ps_step.specs.declared.item.Item.TheVariants.{Object}
use Rattle.ps_step.specs.declared.machine.PsCore.{PsCore}
use Rattle.ps_run.specs.Step.{Ended, Next, Asks, Failed, step}
use Rattle.ps_run.specs.Runs.{Runs, next, ended, failed}
use Rattle.table_model.specs.Rows.{function_at}
use Rattle.table_model.specs.Frames.{told_frames, first_frame}
use Rattle.dialect_model.specs.Dial.{Dial, Numbered}
use Rattle.dialect_model.specs.Operating.{Operates}
use Rattle.dialect_model.specs.TableUse.{TableUse, use_of, told, Kind}
use Rattle.c_session.specs.declared.command.Command.TheVariants as command
use Rattle.c_session.specs.Commands.{ByContinue}
use Rattle.claims.specs.Side.{SideState, SessionState, MOST_STEPS, first_side, first_session, row_of, memory_of, dial_of}
use Rattle.claims.specs.Raw as raw
use Rattle.claims.specs.Resumes.{Resumed, resumed}
use Rattle.claims.specs.Outcome.{Answers}
use Rattle.claims.proofs.Computing.{computing, interpreting, zeros_long}

abbrev text : List ℕ
text = 0x90 ∷ 0x10 ∷ 0x20 ∷ 0x07 ∷ 0x91 ∷ 0xD0 ∷ 0x20 ∷ 0x14 ∷ 0x90 ∷ 0x10 ∷ 0x20 ∷ 0x07 ∷ 0x91 ∷ 0xD0 ∷ 0x20 ∷ 0x13 ∷ []

abbrev dict : ℕ → DictId
dict n = record { part = Table; index = n }

abbrev under : ℕ → List ℕ → PsObj → Key × Pair
under n name x = (NameKey name, record { key = Name (record { part = Table; index = n }) false; value = x })

-- the store after `<< /ldb 1 /target (sparc) /anchors << >> /structs << >> /units [ ] >>`, above two base dictionaries; the first
-- three strings are the spaces' names
abbrev table : StoreState
table = record {
  table = record {
    arrays = [] ∷ [];
    dicts = [] ∷ [] ∷ [] ∷ [] ∷ (under 4 (codes "ldb") (Int (pos 1)) ∷ under 5 (codes "target") (Str (record { part = Table; index = 3 }) false) ∷ under 6 (codes "anchors") (Dict (dict 2)) ∷ under 7 (codes "structs") (Dict (dict 3)) ∷ under 8 (codes "units") (Array (record { part = Table; index = 0 }) false) ∷ []) ∷ [];
    strings = codes "d" ∷ codes "r" ∷ codes "i" ∷ codes "sparc" ∷ codes "ldb" ∷ codes "target" ∷ codes "anchors" ∷ codes "structs" ∷ codes "units" ∷ [];
    units = 29;
  };
  command = record { arrays = []; dicts = []; strings = []; units = 0 };
  part = Table;
  closed = record { arrays = 1; dicts = 5; strings = 9; units = 29 };
  base = dict 0 ∷ dict 1 ∷ [];
  top = Some (dict 4);
}

abbrev machine : MachineState
machine = first_state 0x00400000 text []

abbrev start : SessionState
start = first_session (first_side machine_behaviour [] table machine) None

abbrev paused : Resumed
paused = resumed machine_behaviour ByContinue start

abbrev now : TableUse
now = use_of (record table { part = Command }) MOST_STEPS

-- ---- the registers, and the first event

regs : Answers machine_behaviour start (Some command.Regs) (codes "regs sparc 00000000 00000000 00000000 00000000 00000000 00000000 00000000 00000000 00000000 00000000 00000000 00000000 00000000 00000000 7ffeffa0 00000000 00000000 00000000 00000000 00000000 00000000 00000000 00000000 00000000 00000000 00000000 00000000 00000000 00000000 00000000 00000000 00000000 00000000 00000000 00400000 00400004" ∷ []) start
unfolding computing
regs = inl (refl, refl)

pauses : Answers machine_behaviour start (Some command.Continue) (codes "pause at 00400008" ∷ []) paused.session
unfolding computing
pauses = (
  Ok start.first,
  start.first,
  record { use_after = now; comes = (Ok tt, now, (refl, inl refl), (Ok start.first, now, (refl, refl), (Ok tt, now, (refl, inl refl), (refl, refl)))); leaves = refl },
  (rw zeros_long refl, refl),
)

-- ---- at the pause

abbrev here : SideState
here = paused.session.first

no_frames : told_frames (row_of here) here.table (memory_of here) CONTEXT ≡ Ok []
unfolding computing told_frames first_frame function_at
no_frames = rw zeros_long refl

lists_frames : Answers machine_behaviour paused.session (Some command.Frames) (codes "frames 0" ∷ []) paused.session
unfolding computing
lists_frames = (
  Ok (record { lines = codes "frames 0" ∷ []; side = here }),
  here,
  record {
    use_after = now;
    comes = (Ok tt, now, (refl, inl refl), (Ok (record { lines = codes "frames 0" ∷ []; side = here }), now, (Ok [], now, told no_frames, (refl, refl)), (Ok tt, now, (refl, inl refl), (refl, refl))));
    leaves = refl;
  },
  (refl, refl),
)

-- ---- `ps 2 3 add` and `ps 1 0 idiv`

-- the state after a step, and the one at which a run has ended
abbrev after : PsCore → PsCore
after c = elim (step c) [ Next c' ↦ c' | Ended c' ↦ c' | Asks op c' ↦ c' | Failed e c' ↦ c' ]

-- the state before a text runs: the text and a dictionary stand in the command's part
abbrev core_of : List ℕ → PsCore
core_of text = record {
  store = record table {
    command = record { arrays = []; dicts = [] ∷ []; strings = text ∷ []; units = 1 + text_units text };
    part = Command;
  };
  operands = [];
  dictionaries = record { part = Command; index = 0 } ∷ dict 1 ∷ dict 0 ∷ [];
  execution = Object (Str (record { part = Command; index = 0 }) true) ∷ [];
}

-- the state in which the command has its dictionary
abbrev begun_core : PsCore
begun_core = record (core_of []) {
  store = record table { command = record { arrays = []; dicts = [] ∷ []; strings = []; units = 1 }; part = Command };
  execution = [];
}

abbrev owned : StoreState → TableUse
owned s = record now { store = s; own = Some (record { part = Command; index = 0 }) }

abbrev dial : Dial
dial = dial_of here (Numbered here.frame) true

abbrev sum : PsCore
sum = core_of (codes "2 3 add")

adds : Runs Operates 10000000 dial sum (Ok tt) 9999996 dial (after (after (after (after (after sum)))))
unfolding interpreting
adds =
    next 9999999 9999996 dial dial sum (after sum) (after (after (after (after (after sum))))) (Ok tt) refl
    (next 9999998 9999996 dial dial (after sum) (after (after sum)) (after (after (after (after (after sum))))) (Ok tt) refl
    (next 9999997 9999996 dial dial (after (after sum)) (after (after (after sum))) (after (after (after (after (after sum))))) (Ok tt) refl
    (next 9999996 9999996 dial dial (after (after (after sum))) (after (after (after (after sum)))) (after (after (after (after (after sum))))) (Ok tt) refl
    (ended 9999995 dial (after (after (after (after sum)))) (after (after (after (after (after sum))))) refl))))

abbrev last : PsCore
last = after (after (after (after (after sum))))

is_ready : raw.ps_ready here (codes "2 3 add") now (Ok (record { dial = dial; core = sum })) (owned sum.store)
is_ready = (Ok begun_core, owned begun_core.store, (refl, refl), (refl, refl))

adds_up : Answers machine_behaviour paused.session (Some (command.Ps (codes "2 3 add"))) (codes "ps 5" ∷ []) paused.session
unfolding computing interpreting
adds_up = (raw.ps_result here (Ok tt) dial last, raw.with_run here dial last, raw.ended is_ready adds, (refl, refl))

abbrev quotient : PsCore
quotient = core_of (codes "1 0 idiv")

abbrev broken : PsCore
broken = after (after (after quotient))

divides : Runs Operates 10000000 dial quotient (Err (Error UndefinedResult)) 9999996 dial (after broken)
unfolding interpreting
divides =
    next 9999999 9999996 dial dial quotient (after quotient) (after broken) (Err (Error UndefinedResult)) refl
    (next 9999998 9999996 dial dial (after quotient) (after (after quotient)) (after broken) (Err (Error UndefinedResult)) refl
    (next 9999997 9999996 dial dial (after (after quotient)) broken (after broken) (Err (Error UndefinedResult)) refl
    (failed 9999996 dial broken (after broken) UndefinedResult (Error UndefinedResult) refl refl)))

is_ready_too : raw.ps_ready here (codes "1 0 idiv") now (Ok (record { dial = dial; core = quotient })) (owned quotient.store)
is_ready_too = (Ok begun_core, owned begun_core.store, (refl, refl), (refl, refl))

fails_to_divide : Answers machine_behaviour paused.session (Some (command.Ps (codes "1 0 idiv"))) (codes "psfault undefinedresult" ∷ []) paused.session
unfolding computing interpreting
fails_to_divide = (raw.ps_result here (Err (Error UndefinedResult)) dial (after broken), raw.with_run here dial (after broken), raw.ended is_ready_too divides, (Kind UndefinedResult, None, (refl, refl), refl, refl))

-- ---- the end

exits : Answers machine_behaviour paused.session (Some command.Continue) (codes "exited 7" ∷ []) (resumed machine_behaviour ByContinue paused.session).session
unfolding computing
exits = (
  Ok here,
  here,
  record { use_after = now; comes = (Ok tt, now, (refl, inl refl), (Ok here, now, (refl, refl), (Ok tt, now, (refl, inl refl), (refl, refl)))); leaves = refl },
  (refl, refl),
)

abbrev over : SessionState
over = (resumed machine_behaviour ByContinue paused.session).session

is_over : Answers machine_behaviour over (Some command.Frames) (codes "refused ended" ∷ []) over
unfolding computing
is_over = inl (refl, refl)
