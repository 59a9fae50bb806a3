-- The frames of compiled functions, and where their locals and saved registers lie, are words.
use Rattle.std.proofs.Common.{◌≡◌, ℕ, pos, negsuc, zero, suc, ◌+◌, ◌-◌, ◌*◌, ◌-ℤ◌, ◌<◌, ◌≤◌, ◌^◌, Bool, true, false, nat_lt, nat_le, if◌then◌else◌, List, [], ◌∷◌, ◌++◌, length, map, take, drop, Option, Some, None, slice_get, refl, sym, ap, ◌∙◌, subst, arith, append-nil, w32}
use Rattle.std.proofs.lemmas.Int.{ints}
use Rattle.std.proofs.lemmas.Bool.{ltb-true, ltb-false, leb-true}
use Rattle.std.proofs.Math.Facts.{to_z_pos, to_z-neg}
use Rattle.std.specs.List.{AllByRecursion}
use Rattle.std.specs.Int.{next_multiple_of}
use Rattle.machine_state.specs.declared.layout.TheConstants.{TEXT}
use Rattle.slot_ir.specs.declared.code.SlotCode.{SlotCode}
use Rattle.slot_ir.specs.declared.code.SlotFunction.{SlotFunction}
use Rattle.slot_ir.specs.declared.code.SlotLocal.{SlotLocal}
use Rattle.slot_ir.specs.declared.code.Home.{Home}
use Rattle.slot_ir.specs.declared.code.Home.TheVariants.{Block, Register}
use Rattle.obj_file.specs.declared.object.FunctionRow.{FunctionRow}
use Rattle.flat_gen.specs.declared.layout.TheConstants.{GREATEST_FRAME}
use Rattle.flat_gen.specs.Layout.{room, rooms, places_from, frame_size, temps_at, layout}
use Rattle.flat_gen.specs.declared.layout.Layout.{Layout}
use Rattle.flat_gen.specs.Layout as frames
use Rattle.gen_parts.specs.Rows.{slot_by, place_by, local_places, saved_place}
use Rattle.c_tree.specs.declared.rows.Program.{Program}
use Rattle.slot_ir.specs.WellFormed.{IsScalar, IsLocal, IsFunction}
use Rattle.obj_file.specs.Image.{ImageFields}
use Rattle.obj_file.specs.declared.object.Object.{Object}
use Rattle.obj_file.specs.declared.object.LoaderRows.{LoaderRows}
use Rattle.obj_placed.specs.Placed.{moved_row}
use Rattle.flat_ir.specs.declared.code.FlatFunction.{FlatFunction}
use Rattle.flat_gen.specs.Codes.{flat_by, flat_function, flat_code}
use Rattle.gen_parts.specs.Coding.{Coding}
use Rattle.gen_parts.specs.Text.{function_insns}
use Rattle.gen_parts.specs.Parts.{function_row, functions_rows, functions_at, program_rows, IsObjectOf}
use Rattle.mips_gen.specs.Coding.{mips}
use Rattle.sparc_gen.specs.Coding.{sparc}
use Rattle.ldb_cc.specs.declared.aim.Aim.{Aim}
use Rattle.ldb_cc.specs.declared.aim.Aim.TheVariants.{Mips, Sparc}
use Rattle.ldb_cc.specs.Built.{IsEmitted, IsImageOf}
use Rattle.ps_tables.proofs.Totals.{at_item}
use Rattle.ps_emit.specs.Lengths.{IsInteger}
use Rattle.unit_tables.specs.Symbols.{RunsPlace}
use Rattle.compiled_tables.specs.Conditions.{IsFramed}

-- a difference of small numbers is one of the dialect's integers
integer : (a b : ℕ) → a < 2 ^ 31 → b < 2 ^ 31 → IsInteger (pos a -ℤ pos b)
integer a b h k = by (nat_lt a b) refl
  where
    by : (c : Bool) → nat_lt a b ≡ c → IsInteger (pos a -ℤ pos b)
    by true e =
        let l : a < b = ltb-true a b e in
        let n : ℕ = b - a - 1 in
        let is : pos a -ℤ pos b ≡ negsuc n = omega (arith, ints) in
        let below : n < 2 ^ 31 = omega arith in
        (2 ^ 32 - suc n, omega arith, is ∙ sym (to_z-neg w32 n below))
    by false e =
        let l : b ≤ a = ltb-false a b e in
        let is : pos (a - b) ≡ pos a -ℤ pos b = omega (arith, ints) in
        (a - b, omega arith, sym is ∙ sym (to_z_pos w32 {n = a - b} (omega arith)))

nothing : IsInteger (pos 0)
nothing = (0, omega arith, sym (to_z_pos w32 {n = 0} (omega arith)))

-- ---- where locals lie

abbrev IsSmall : ℕ → Type 0
IsSmall at = at ≤ GREATEST_FRAME

all_small : (at : ℕ) (ls : List SlotLocal) → at + rooms ls ≤ GREATEST_FRAME → AllByRecursion IsSmall (places_from at ls)
all_small at [] h = tt
all_small at (l ∷ ls) h = (omega arith, all_small (at + room l.size) ls (omega arith))

small_append : (xs ys : List ℕ) → AllByRecursion IsSmall xs → AllByRecursion IsSmall ys → AllByRecursion IsSmall (xs ++ ys)
small_append [] ys h k = k
small_append (x ∷ xs) ys h k = (h.0, small_append xs ys h.1 k)

rooms_apart : (n : ℕ) (ls : List SlotLocal) → rooms (take n ls) + rooms (drop n ls) ≡ rooms ls
rooms_apart zero ls = omega arith
rooms_apart (suc n) [] = omega arith
rooms_apart (suc n) (l ∷ ls) = let e = rooms_apart n ls in omega arith

multiple_up : (x y : ℕ) → x ≤ next_multiple_of x y
multiple_up x y = omega arith

module _ (linkage : ℕ) (f : SlotFunction) where
  fitting : frame_size linkage f ≤ GREATEST_FRAME → AllByRecursion IsSmall (frames.local_places linkage f)
  fitting h =
      let a = rooms_apart f.params f.locals in
      let u = multiple_up (rooms f.locals + (4 * f.temporaries + linkage)) 8 in
      small_append (places_from linkage (take f.params f.locals)) (places_from (temps_at linkage f + f.temporaries * 4) (drop f.params f.locals))
      (all_small linkage (take f.params f.locals) (omega arith)) (all_small (temps_at linkage f + f.temporaries * 4) (drop f.params f.locals) (omega arith))

  abbrev chosen : Bool → Layout
  chosen true = record { frame = frame_size linkage f; fits = true; temporaries = temps_at linkage f; locals = frames.local_places linkage f }
  chosen false = record { frame = GREATEST_FRAME; fits = false; temporaries = 0; locals = [] }

  by_fitting : (b : Bool) → nat_le (frame_size linkage f) GREATEST_FRAME ≡ b → ((chosen b).frame ≤ GREATEST_FRAME) × AllByRecursion IsSmall (chosen b).locals
  by_fitting true e = let l = leb-true (frame_size linkage f) GREATEST_FRAME e in (l, fitting l)
  by_fitting false e = (omega arith, tt)

  as_chosen : (b : Bool) → ◌≡◌ {A = Layout} (if b then record { frame = frame_size linkage f; fits = true; temporaries = temps_at linkage f; locals = frames.local_places linkage f }
      else record { frame = GREATEST_FRAME; fits = false; temporaries = 0; locals = [] }) (chosen b)
  as_chosen true = refl
  as_chosen false = refl

  laid_out : layout linkage f ≡ chosen (nat_le (frame_size linkage f) GREATEST_FRAME)
  unfolding layout
  laid_out = as_chosen (nat_le (frame_size linkage f) GREATEST_FRAME)

  pub laid : ((layout linkage f).frame ≤ GREATEST_FRAME) × AllByRecursion IsSmall (layout linkage f).locals
  laid = subst (λ (l : Layout). (l.frame ≤ GREATEST_FRAME) × AllByRecursion IsSmall l.locals) (sym laid_out) (by_fitting (nat_le (frame_size linkage f) GREATEST_FRAME) refl)

-- ---- rows

module _ (size : ℕ) (few : size ≤ GREATEST_FRAME) where
  slot_place : (places : List ℕ) (x : ℕ) → AllByRecursion IsSmall places → RunsPlace (Some (slot_by size (slice_get places x)))
  slot_place places x h = by (slice_get places x) refl
    where
      by : (o : Option ℕ) → slice_get places x ≡ o → RunsPlace (Some (slot_by size o))
      by None e = nothing
      by (Some at) e = integer at size (let s = at_item IsSmall places x at h e in omega arith) (omega arith)

  places_fit : (f : FlatFunction) → f.frame ≡ size → AllByRecursion IsSmall f.locals → (x : ℕ) (ls : List SlotLocal) → AllByRecursion IsLocal ls → AllByRecursion (λ l. RunsPlace (Some l)) (local_places f x ls)
  places_fit f e h x [] w = tt
  places_fit f e h x (l ∷ ls) w = (by l.home w.0.3, places_fit f e h (suc x) ls w.1)
    where
      by : (k : Home) → (elim k as (λ h. Type 0) [ Block ↦ Unit {0} | Register r ↦ (r < 8) × IsScalar l ]) → RunsPlace (Some (place_by f.frame (slice_get f.locals x) k))
      by Block u = subst (λ n. RunsPlace (Some (slot_by n (slice_get f.locals x)))) (sym e) (slot_place f.locals x h)
      by (Register r) u = let l = u.0 in omega arith

  saved_fit : (ss : List (ℕ × ℕ)) → AllByRecursion (λ s. (s.0 < 32) × (s.1 ≤ 96)) ss → AllByRecursion (λ s. (s.0 < 2 ^ 31) × IsInteger s.1) (map (saved_place size) ss)
  saved_fit [] h = tt
  saved_fit (s ∷ ss) h = ((let l = h.0.0 in omega arith, integer s.1 size (let l = h.0.1 in omega arith) (omega arith)), saved_fit ss h.1)

saved_long : (size : ℕ) (ss : List (ℕ × ℕ)) → length (map (saved_place size) ss) ≡ length ss
saved_long size [] = refl
saved_long size (s ∷ ss) = ap suc (saved_long size ss)

module _ {Insn : Type 0} (t : Coding Insn) (few : length t.saved ≤ 9) (small : AllByRecursion (λ s. (s.0 < 32) × (s.1 ≤ 96)) t.saved) (linkage : ℕ) (c : SlotCode) where
  row_framed : (n : ℕ) (s : SlotFunction) → AllByRecursion IsLocal s.locals → IsFramed (moved_row TEXT (function_row t n s (flat_function linkage c s)))
  unfolding function_row flat_function
  row_framed n s w =
      let l = laid linkage s in
      let frame : ℕ = (layout linkage s).frame in
      record {
        frame = let a = l.0 in omega arith;
        few_saved = let e = saved_long frame t.saved in omega arith;
        saved = saved_fit frame l.0 t.saved small;
        locals = places_fit frame l.0 (flat_by c s (layout linkage s)) refl l.1 0 s.locals w;
      }

  rows_framed : (n : ℕ) (slots : List SlotFunction) → AllByRecursion (IsFunction c) slots → AllByRecursion IsFramed (map (moved_row TEXT) (functions_rows t n slots (map (flat_function linkage c) slots)))
  rows_framed n [] w = tt
  rows_framed n (s ∷ slots) w = (row_framed n s w.0.4, rows_framed (n + length (function_insns t (flat_function linkage c s))) slots w.1)

  object_framed : (o : Object) → AllByRecursion (IsFunction c) c.functions → IsObjectOf t c (flat_code linkage c) o → AllByRecursion IsFramed (map (moved_row TEXT) o.functions)
  unfolding flat_code program_rows
  object_framed o w h = subst (λ (rs : List FunctionRow). AllByRecursion IsFramed (map (moved_row TEXT) rs)) (sym h.functions) (rows_framed (functions_at t (flat_code linkage c)) c.functions w)

mips_saved : AllByRecursion (λ s. (s.0 < 32) × (s.1 ≤ 96)) mips.saved
mips_saved = ((omega arith, omega arith), ((omega arith, omega arith), ((omega arith, omega arith), ((omega arith, omega arith), ((omega arith, omega arith), ((omega arith, omega arith), ((omega arith, omega arith), ((omega arith, omega arith), ((omega arith, omega arith), tt)))))))))

emitted_framed : (aim : Aim) (c : SlotCode) (o : Object) → AllByRecursion (IsFunction c) c.functions → IsEmitted aim c o → AllByRecursion IsFramed (map (moved_row TEXT) o.functions)
emitted_framed Mips c o w h = object_framed mips (omega arith) mips_saved 100 c o w h
emitted_framed Sparc c o w h = object_framed sparc (omega arith) tt 132 c o w h

pub are_framed : (aim : Aim) (p : Program) (image : ImageFields) (rows : LoaderRows) → IsImageOf aim p image rows → AllByRecursion IsFramed rows.functions
are_framed aim p image rows h =
    let is : rows.functions ≡ map (moved_row TEXT) h.object.functions = h.linked.functions ∙ append-nil (map (moved_row TEXT) h.object.functions) in
    subst (AllByRecursion IsFramed) (sym is) (emitted_framed aim h.code h.object h.formed.1 h.emitted)
