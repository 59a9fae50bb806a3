-- Commands on three frames made by hand on MIPS: `main` has called `f`, which saved `$16`, and `f` has called `g`, which stands at a point.
use Rattle.std.specs.Prelude.{◌≡◌, ℕ, ◌+◌, pos, negsuc, true, false, List, [], ◌∷◌, ◌++◌, codes, replicate, Option, Some, None, Ok}
use Rattle.std.proofs.Common.{refl, inl}
use Rattle.ldb_words.specs.declared.kinds.Order.TheVariants.{Little}
use Rattle.machine_state.specs.Regions.{words_bytes}
use Rattle.machine_state.specs.State.{MachineState}
use Rattle.machine_state.specs.declared.layout.TheConstants.{CONTEXT}
use Rattle.mips_isa.specs.Loaded.{first_state}
use Rattle.ps_store.specs.declared.object.Part.TheVariants.{Table, Command}
use Rattle.ps_store.specs.declared.object.PsObj.{PsObj}
use Rattle.ps_store.specs.declared.object.PsObj.TheVariants.{Int, Bool as Truth, Name, Str, Array, Dict, Null}
use Rattle.ps_store.specs.declared.object.DictId.{DictId}
use Rattle.ps_store.specs.declared.object.Pair.{Pair}
use Rattle.ps_store.specs.declared.key.Key.{Key}
use Rattle.ps_store.specs.declared.key.Key.TheVariants.{Name as NameKey}
use Rattle.ps_store.specs.StoreState.{StoreState}
use Rattle.ps_store.specs.Operators.{operator_number}
use Rattle.ps_step.specs.declared.item.Item.{Item}
use Rattle.ps_step.specs.declared.item.Item.TheVariants.{Object, Procedure}
use Rattle.ps_step.specs.declared.machine.PsCore.{PsCore}
use Rattle.ps_run.specs.Runs.{Runs, next, asked, ended}
use Rattle.frame_bytes.specs.declared.frame.Frame.{Frame}
use Rattle.table_model.specs.Reading.{Walked}
use Rattle.table_model.specs.Rows.{PointRow, function_at}
use Rattle.table_model.specs.Places.{spot_point}
use Rattle.table_model.specs.Frames.{first_frame, next_frame, frame_at, point_of, told_frame, told_frames}
use Rattle.table_model.specs.Symbols.{scope_of, symbol_named}
use Rattle.dialect_model.specs.Dial.{Dial, InFrame}
use Rattle.dialect_model.specs.Operators.{act}
use Rattle.dialect_model.specs.Operating.{Operates, acted}
use Rattle.dialect_model.specs.TableUse.{TableUse, use_of, told}
use Rattle.c_session.specs.declared.command.Spot.TheVariants.{Line}
use Rattle.claims.specs.Side.{SideState, MOST_STEPS, row_of, memory_of, dial_of}
use Rattle.claims.specs.Breaks.{breaking, clearing, word_at, with_word}
use Rattle.claims.specs.Frames.{listing}
use Rattle.claims.specs.Printing.{printing}
use Rattle.claims.proofs.Computing.{computing}

-- ---- the table: its first three strings are the names of the spaces

abbrev str : ℕ → PsObj
str n = Str (record { part = Table; index = 3 + n }) false

abbrev name : ℕ → PsObj
name n = Name (record { part = Table; index = 3 + n }) false

abbrev call : ℕ → PsObj
call n = Name (record { part = Table; index = 3 + n }) true

abbrev dict : ℕ → DictId
dict n = record { part = Table; index = n }

abbrev items : ℕ → PsObj
items n = Array (record { part = Table; index = n }) false

abbrev procedure : ℕ → PsObj
procedure n = Array (record { part = Table; index = n }) true

-- the key's own object is not asked for here
abbrev under : List ℕ → PsObj → Key × Pair
under key x = (NameKey key, record { key = Null; value = x })

abbrev function : ℕ → ℕ → ℕ → ℕ → ℕ → ℕ → List (Key × Pair)
function named from end size saved points =
    under (codes "name") (str named) ∷ under (codes "static") (Truth false) ∷ under (codes "entry") (Int (pos from)) ∷ under (codes "end") (Int (pos end))
    ∷ under (codes "frame") (Int (pos size)) ∷ under (codes "saved") (items saved) ∷ under (codes "points") (items points) ∷ []

abbrev point_entry : ℕ → ℕ → ℕ → PsObj → List (Key × Pair)
point_entry line column at scope =
    under (codes "line") (Int (pos line)) ∷ under (codes "column") (Int (pos column)) ∷ under (codes "address") (Int (pos at)) ∷ under (codes "symbols") scope ∷ []

abbrev symbol : ℕ → ℕ → PsObj → List (Key × Pair)
symbol named where_is up =
    under (codes "name") (str named) ∷ under (codes "kind") (name 6) ∷ under (codes "type") (Dict (dict 13)) ∷ under (codes "where") (procedure where_is)
    ∷ under (codes "label") (str named) ∷ under (codes "uplink") up ∷ []

abbrev table : StoreState
table = record {
  table = record {
    strings = codes "d" ∷ codes "r" ∷ codes "i" ∷ codes "mips" ∷ codes "a.c" ∷ codes "main" ∷ codes "f" ∷ codes "g" ∷ codes "x" ∷ codes "variable" ∷ codes "int" ∷ codes "v" ∷ codes "Local" ∷ codes "Absolute" ∷ codes "pop" ∷ codes "w" ∷ codes "fetch" ∷ codes "PutChar" ∷ [];
    arrays =
        (Dict (dict 5) ∷ []) ∷ (Dict (dict 6) ∷ Dict (dict 7) ∷ Dict (dict 8) ∷ []) ∷ []
        ∷ (Int (pos 31) ∷ Int (negsuc 3) ∷ []) ∷ (Int (pos 16) ∷ Int (negsuc 7) ∷ [])
        ∷ (items 3 ∷ []) ∷ (items 3 ∷ items 4 ∷ [])
        ∷ (Dict (dict 9) ∷ []) ∷ (Dict (dict 10) ∷ []) ∷ (Dict (dict 11) ∷ [])
        ∷ (Int (negsuc 11) ∷ call 9 ∷ []) ∷ (Int (pos 0x10000000) ∷ call 10 ∷ []) ∷ (Dict (dict 14) ∷ []) ∷ (call 11 ∷ name 12 ∷ call 13 ∷ call 14 ∷ []) ∷ [];
    dicts =
        [] ∷ []
        ∷ (under (codes "ldb") (Int (pos 1)) ∷ under (codes "target") (str 0) ∷ under (codes "anchors") (Dict (dict 3)) ∷ under (codes "structs") (Dict (dict 4)) ∷ under (codes "units") (items 0) ∷ under (codes "objects") (items 12) ∷ [])
        ∷ [] ∷ []
        ∷ (under (codes "file") (str 1) ∷ under (codes "functions") (items 1) ∷ [])
        ∷ function 2 0x00400000 0x00400040 16 2 9
        ∷ function 3 0x00400040 0x00400080 32 6 8
        ∷ function 4 0x00400080 0x004000C0 32 5 7
        ∷ point_entry 1 5 0x00400088 (Dict (dict 12))
        ∷ point_entry 2 3 0x00400044 (Dict (dict 14))
        ∷ point_entry 3 3 0x00400004 (Dict (dict 14))
        ∷ symbol 5 10 (Dict (dict 14))
        ∷ (under (codes "kind") (name 7) ∷ under (codes "size") (Int (pos 4)) ∷ under (codes "printer") (procedure 13) ∷ [])
        ∷ symbol 8 11 Null ∷ [];
    units = 200;
  };
  command = record { arrays = []; dicts = []; strings = []; units = 0 };
  part = Table;
  closed = record { arrays = 14; dicts = 15; strings = 18; units = 200 };
  base = dict 0 ∷ dict 1 ∷ [];
  top = Some (dict 2);
}

-- ---- the machine: at `g`'s point, with short regions

abbrev context : List ℕ
context = replicate 16 0 ++ (0xAAAA0010 ∷ (replicate 12 0 ++ (0x7FEF0000 ∷ 0 ∷ 0 ∷ 0 ∷ 0 ∷ 0x00400088 ∷ 0x0040008C ∷ [])))

abbrev stack : List ℕ
stack = replicate 5 0 ++ (42 ∷ 0 ∷ 0x00400050 ∷ (replicate 6 0 ++ (0x12345641 ∷ 0x00400010 ∷ (replicate 4 0))))

abbrev machine : MachineState
machine = record (first_state 0x00400000 [] []) {
  memory = record { text_bytes = replicate 256 0; data_bytes = replicate 8 0; stack_bytes = words_bytes Little stack; context_bytes = words_bytes Little context };
}

abbrev side : SideState
side = record { machine = machine; table = table; breaks = []; step_words = []; stands_at = None; kept = None; frame = 0 }

abbrev now : TableUse
now = use_of table MOST_STEPS

-- ---- `frames`

abbrev point : PointRow
point = record { file = codes "a.c"; function = codes "g"; line = 1; column = 5; at = 0x00400088 }

abbrev callers : List PointRow
callers = record { file = codes "a.c"; function = codes "f"; line = 2; column = 3; at = 0x00400044 } ∷ record { file = codes "a.c"; function = codes "main"; line = 3; column = 3; at = 0x00400004 } ∷ []

it_lists : listing side now (Ok (record { lines = codes "frames 3" ∷ codes "frame 0 g a.c:1.5" ∷ codes "frame 1 f a.c:2.3" ∷ codes "frame 2 main a.c:3.3" ∷ []; side = side })) now
unfolding computing told_frames told_frame point_of first_frame next_frame function_at
it_lists = (Ok (point ∷ callers), now, told refl, (refl, refl))

-- ---- `break` and `clear`

abbrev or_side : Option SideState → SideState
or_side None = side
or_side (Some a) = a

abbrev planted : SideState
planted = record (or_side (with_word side 0x00400088 13)) { breaks = point ∷ [] }

it_sets : breaking side (Line (codes "a.c") 1 None) now (Ok (record { lines = codes "break a.c:1.5" ∷ []; side = planted })) now
unfolding computing spot_point
it_sets = (
  Ok (Some point),
  now,
  told refl,
  (
    Ok point,
    now,
    (refl, refl),
    (
      Ok planted,
      now,
      (Ok (or_side (with_word side 0x00400088 13)), now, (Ok 0, now, (refl, refl), (refl, refl)), (refl, refl)),
      (refl, refl),
    ),
  ),
)

it_plants : word_at planted 0x00400088 ≡ Some 13
unfolding computing
it_plants = refl

it_leaves_the_next : word_at planted 0x0040008C ≡ Some 0
unfolding computing
it_leaves_the_next = refl

-- set again it is answered again, and nothing changes
it_sets_again : breaking planted (Line (codes "a.c") 1 None) now (Ok (record { lines = codes "break a.c:1.5" ∷ []; side = planted })) now
unfolding computing spot_point
it_sets_again = (
  Ok (Some point),
  now,
  told refl,
  (
    Ok point,
    now,
    (refl, refl),
    (
      Ok planted,
      now,
      (refl, refl),
      (refl, refl),
    ),
  ),
)

it_clears : clearing planted (Line (codes "a.c") 1 (Some 5)) now (Ok (record { lines = codes "clear a.c:1.5" ∷ []; side = side })) now
unfolding computing spot_point
it_clears = (
  Ok (Some point),
  now,
  told refl,
  (
    Ok point,
    now,
    (refl, refl),
    (
      Ok side,
      now,
      (Ok (record planted { machine = side.machine }), now, (refl, refl), (refl, refl)),
      (refl, refl),
    ),
  ),
)

-- ---- `print x`: the symbol's procedure `-12 Local`, and the type's printer `pop /w fetch PutChar`

abbrev or_frame : Walked (Option Frame) → Frame
or_frame (Ok (Some f)) = f
or_frame w = record { pc = 0; base = 0; places = [] }

abbrev inner : Frame
inner = or_frame (frame_at (row_of side) table (memory_of side) CONTEXT 0)

abbrev dial : Dial
dial = dial_of side (InFrame inner (Some (dict 12))) false

-- the command's part has its dictionary: no operator makes a name
abbrev p : List PsObj → List Item → PsCore
p operands execution = record {
  store = record table { command = record { arrays = []; dicts = [] ∷ []; strings = []; units = 1 }; part = Command };
  operands = operands;
  dictionaries = record { part = Command; index = 0 } ∷ dict 1 ∷ dict 0 ∷ [];
  execution = execution;
}

abbrev at : ℕ → ℕ → List Item
at n i = Procedure (record { part = Table; index = n }) i ∷ []

abbrev offset : List PsObj
offset = Int (negsuc 11) ∷ []

-- the place of `x`
abbrev place : List PsObj
place = Int (pos 0x7FEF0014) ∷ Name (record { part = Table; index = 0 }) false ∷ []

unfoldable interpreting : ℕ
unfolding computing operator_number act
interpreting = 0

leaves_a_place : Runs Operates 10000000 dial (p [] (Object (procedure 10) ∷ [])) (Ok tt) 9999997 dial (p place [])
unfolding interpreting frame_at first_frame function_at
leaves_a_place =
    next 9999999 9999997 dial dial (p [] (Object (procedure 10) ∷ [])) (p [] (at 10 0)) (p place []) (Ok tt) refl
    (next 9999998 9999997 dial dial (p [] (at 10 0)) (p offset (at 10 1)) (p place []) (Ok tt) refl
    (asked 9999997 9999997 9999997 dial dial dial (p offset (at 10 1)) (p offset []) (p place []) (p place []) 2 (Ok tt) refl
    (record { given = Ok tt; core = p place []; operates = acted dial dial (p offset []) (p place []) 2 9999997 refl; settles = (refl, refl) })
    (ended 9999996 dial (p place []) (p place []) refl)))

abbrev printed : Dial
printed = record dial { out = codes "42 '*'" }

abbrev with_kind : List PsObj
with_kind = Name (record { part = Table; index = 15 }) false ∷ place

abbrev value : List PsObj
value = Int (pos 42) ∷ []

fetches : act 6 dial (p with_kind (at 13 3)) ≡ Ok (dial, p value (at 13 3))
unfolding interpreting frame_at first_frame function_at
fetches = refl

puts : act 29 dial (p value []) ≡ Ok (printed, p [] [])
unfolding interpreting frame_at first_frame function_at
puts = refl

prints : Runs Operates 9999997 dial (p (Dict (dict 13) ∷ place) (Object (procedure 13) ∷ [])) (Ok tt) 9999992 printed (p [] [])
unfolding interpreting
prints =
    next 9999996 9999992 dial printed (p (Dict (dict 13) ∷ place) (Object (procedure 13) ∷ [])) (p (Dict (dict 13) ∷ place) (at 13 0)) (p [] []) (Ok tt) refl
    (next 9999995 9999992 dial printed (p (Dict (dict 13) ∷ place) (at 13 0)) (p place (at 13 1)) (p [] []) (Ok tt) refl
    (next 9999994 9999992 dial printed (p place (at 13 1)) (p with_kind (at 13 2)) (p [] []) (Ok tt) refl
    (asked 9999993 9999993 9999992 dial dial printed (p with_kind (at 13 2)) (p with_kind (at 13 3)) (p value (at 13 3)) (p [] []) 6 (Ok tt) refl
    (record { given = Ok tt; core = p value (at 13 3); operates = acted dial dial (p with_kind (at 13 3)) (p value (at 13 3)) 6 9999993 fetches; settles = (refl, refl) })
    (asked 9999992 9999992 9999992 dial printed printed (p value (at 13 3)) (p value []) (p [] []) (p [] []) 29 (Ok tt) refl
    (record { given = Ok tt; core = p [] []; operates = acted dial printed (p value []) (p [] []) 29 9999992 puts; settles = (refl, refl) })
    (ended 9999991 printed (p [] []) (p [] []) refl)))))

-- once the command has its dictionary
abbrev then_left : ℕ → TableUse
then_left n = record (use_of (p [] []).store n) { own = Some (record { part = Command; index = 0 }) }

it_prints : printing side (codes "x") now (Ok (record { lines = codes "value 42 '*'" ∷ []; side = side })) (then_left 9999992)
unfolding interpreting frame_at first_frame function_at scope_of point_of symbol_named
it_prints = (
  Ok inner,
  now,
  (Ok (Some inner), now, told refl, (refl, refl)),
  (
    Ok tt,
    now,
    (refl, refl),
    (
      Ok (Some (dict 12)),
      now,
      told refl,
      (
        Ok (Some (dict 12)),
        now,
        told refl,
        (
          Ok (dict 12),
          now,
          (refl, refl),
          (
            Ok false,
            now,
            told refl,
            (
              Ok tt,
              now,
              (refl, refl),
              (
                Ok (dict 13),
                now,
                told refl,
                (
                  Ok printed.out,
                  then_left 9999992,
                  (
                    Ok (procedure 10),
                    now,
                    told refl,
                    (
                      Ok (p [] []),
                      then_left 10000000,
                      (refl, refl),
                      (
                        Ok (record { dial = dial; core = p place [] }),
                        then_left 9999997,
                        inl (record { answer = Ok tt; left = 9999997; dial = dial; core = p place []; runs = leaves_a_place; result = refl; leaves = refl }),
                        (
                          Ok (p (Dict (dict 13) ∷ place) []),
                          then_left 9999997,
                          (refl, refl),
                          (
                            Ok (procedure 13),
                            then_left 9999997,
                            told refl,
                            (
                              Ok (record { dial = printed; core = p [] [] }),
                              then_left 9999992,
                              inl (record { answer = Ok tt; left = 9999992; dial = printed; core = p [] []; runs = prints; result = refl; leaves = refl }),
                              (refl, refl),
                            ),
                          ),
                        ),
                      ),
                    ),
                  ),
                  (refl, refl),
                ),
              ),
            ),
          ),
        ),
      ),
    ),
  ),
)
