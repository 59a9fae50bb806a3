-- The tables that the code fills are those of the program.
use Rattle.std.proofs.Common.{◌≡◌, ◌<◌, ◌≤◌, ℕ, ◌+◌, List, [], ◌∷◌, map, length, sum, ◌∙◌, sym, refl, ap, subst, Option, None}
use denote.Ref.{Bor}
use Rattle.c_tree.specs.declared.types.CType.{CType}
use Rattle.c_tree.specs.declared.types.StructDef.{StructDef}
use Rattle.c_tree.specs.declared.rows.Program.{Program}
use Rattle.c_tree.specs.declared.rows.ObjectRow.{ObjectRow}
use Rattle.c_tree.specs.declared.rows.SymbolRow.{SymbolRow}
use Rattle.c_tree.specs.declared.rows.UnitRow.{UnitRow}
use Rattle.c_tree.specs.declared.rows.Function.{Function}
use Rattle.c_typing.specs.Plain.{plain}
use Rattle.c_linkage.specs.declared.definitions.Definition.{Definition}
use Rattle.c_linkage.specs.declared.state.State.{State as Standing}
use Rattle.c_check.specs.declared.tables.Rows.{Rows}
use Rattle.c_mentions.specs.Tags.{now}
use Rattle.c_linkage.specs.Names.{Defining, defining}
use Rattle.c_file.specs.Files.{State}
use Rattle.c_file.specs.Standing.{Stands, AreFunctions}
use Rattle.c_rows.specs.Rooms as rooms
use Rattle.c_rows.specs.Rooms.{text_room}
use Rattle.c_rows.specs.Units.{file_of, files_functions, functions_by}
use Rattle.c_check.specs.Tables.{IsFrom, AreAll}
use Rattle.c_file.specs.Made.{Each, objects, object_type, object_room, string_room, room, IsObjectOf, IsSymbolOf, IsFunctionOf, AreUnits, HasRows}
use Rattle.c_linkage.specs.Defined.{objects_from, bodies_of}
use Rattle.c_check.proofs.RowsMade.{units_made}

pub from_state : (n : ℕ) (s : Standing) (q : State) (ds os bs : List Definition) (ts : List CType) → Stands n s q → ds ≡ s.definitions.items
    → map defining os ≡ objects_from [] (map defining ds) → map defining bs ≡ bodies_of (map defining ds)
    → map plain ts ≡ map (object_type q) (map defining os) → IsFrom s os bs ts q
from_state n s q ds os bs ts st d o b t = record {
  here = st.here;
  names = st.names;
  others = st.others;
  starts = st.starts;
  objects = o ∙ (ap (λ l. objects_from [] (map defining l)) d ∙ ap (objects_from []) st.definitions);
  bodies = b ∙ (ap (λ l. bodies_of (map defining l)) d ∙ ap bodies_of st.definitions);
  types = t;
}

pub from_slices : (s : Standing) (q : State) (os os' bs bs' : List Definition) (ts ts' : List CType) → os' ≡ os → bs' ≡ bs → ts' ≡ ts → IsFrom s os bs ts q → IsFrom s os' bs' ts' q
from_slices s q os os' bs bs' ts ts' o b t f =
    subst (λ (l : List Definition). IsFrom s l bs' ts' q) (sym o) (subst (λ (l : List Definition). IsFrom s os l ts' q) (sym b) (subst (λ (l : List CType). IsFrom s os bs l q) (sym t) f))

-- ---- room

rooms_of : (q : State) (ds : List Defining) → map (rooms.room_of q.others) (map (object_type q) ds) ≡ map (object_room q) ds
rooms_of q [] = refl
rooms_of q (d ∷ ds) = ap (λ l. object_room q d ∷ l) (rooms_of q ds)

rooms_for : (q : State) (ts : List (List ℕ)) → map text_room ts ≡ map (string_room q) ts
rooms_for q [] = refl
rooms_for q (t ∷ ts) = ap (λ l. string_room q t ∷ l) (rooms_for q ts)

pub room_same : (n : ℕ) (s : Standing) (q : State) (os bs : List Definition) (ts : List CType) (defs : List StructDef) (texts : List (Bor (List ℕ))) → Stands n s q → IsFrom s os bs ts q
    → defs ≡ s.others.items → texts ≡ s.strings.items
    → (sum (map (rooms.room_of defs) (map plain ts)) + sum (map text_room (map now texts))) ≡ room q
room_same n s q os bs ts defs texts st f d t =
    (λ i. sum (map (rooms.room_of ((d ∙ f.others) i)) ((f.types ∙ ap (map (object_type q)) f.objects) i)) + sum (map text_room ((ap (map now) t ∙ st.strings) i))) ∙
    (λ i. sum (rooms_of q (objects q) i) + sum (rooms_for q q.strings i))

-- ---- all rows

pub all_made : (n : ℕ) (s : Standing) (q : State) (names : List (List ℕ)) (r : Rows) (fs : List Function) (texts : List (Bor (List ℕ))) → Stands n s q → s.unknown ≡ None
    → Each (IsObjectOf q) (objects q) r.tables.objects.items × Each (IsSymbolOf q) q.here.names r.tables.symbols.items
    → map file_of r.units.items ≡ names → ((u : ℕ) → u < length names → files_functions r.units.items u ≡ functions_by u 0 fs) → fs ≡ s.functions.items
    → r.strings.items ≡ map now texts → texts ≡ s.strings.items → AreAll q names r
all_made n s q names r fs texts st k t e h f x y = record {
  tables = record { objects = t.0; symbols = t.1 };
  units = units_made q names r.units.items fs
      (subst (λ (l : List Function). Each (IsFunctionOf q) q.bodies l) (sym f) (subst (λ (o : Option (List ℕ)). AreFunctions q o s.functions.items) k st.functions)) e h;
  strings = x ∙ (ap (map now) y ∙ st.strings);
}

pub has_rows : (n : ℕ) (s : Standing) (q : State) (names : List (List ℕ)) (r : Rows) (p : Program) → Stands n s q → s.unknown ≡ None → AreAll q names r × (room q ≤ 1048576)
    → p.units ≡ r.units.items → p.defs ≡ s.others.items → p.objects ≡ r.tables.objects.items → p.strings ≡ r.strings.items → p.functions ≡ s.functions.items → p.points ≡ s.points.items
    → p.symbols ≡ r.tables.symbols.items → HasRows q names p
has_rows n s q names r p st k a u d o x f t y = record {
  units = subst (λ (l : List UnitRow). AreUnits q 0 names l) (sym u) a.0.units;
  defs = d ∙ st.others;
  objects = subst (λ (l : List ObjectRow). Each (IsObjectOf q) (objects q) l) (sym o) a.0.tables.objects;
  strings = x ∙ a.0.strings;
  functions = subst (λ (l : List Function). Each (IsFunctionOf q) q.bodies l) (sym f) (subst (λ (o : Option (List ℕ)). AreFunctions q o s.functions.items) k st.functions);
  points = t ∙ st.points;
  symbols = subst (λ (l : List SymbolRow). Each (IsSymbolOf q) q.here.names l) (sym y) a.0.tables.symbols;
  room = a.1;
}
