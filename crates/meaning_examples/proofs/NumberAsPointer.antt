-- A number as a pointer, in slot code and in flat code: they agree on 0. On another number slot code has the null pointer and flat code keeps the number, and there the strict run of slot code is undefined.
use Rattle.std.proofs.Common.{◌≡◌, ℕ, [], ◌∷◌, List, Option, None, Some, refl}
use Rattle.std.specs.Prelude.{ℤ, pos, codes, map}
use Rattle.ldb_words.specs.declared.kinds.Order.TheVariants.{Little}
use Rattle.runs.specs.Runs.{IllTyped, Outcome, Reached, Breaks, after}
use Rattle.slot_ir.specs.declared.code.SlotCode.{SlotCode}
use Rattle.slot_ir.specs.declared.code.Access.TheVariants as access
use Rattle.slot_ir.specs.declared.code.UnaryWordOp.TheVariants as unary_word
use Rattle.slot_ir.specs.declared.code.SlotOp.TheVariants.{Const, Convert, Unary, Exit}
use Rattle.c_store.specs.Store.{is_stale}
use Rattle.slot_ir.specs.Operators.{unary}
use Rattle.slot_ir.specs.Slots as slots
use Rattle.slot_ir.specs.Begin as slots_begin
use Rattle.slot_pointers.specs.Taken.{strict_step}
use Rattle.flat_ir.specs.Memory.{overlaid, number_at, opened, closed}
use Rattle.flat_ir.specs.Flat.{FlatState, Setting, step, begin, first_memory, on_word}
use Rattle.flat_ir.specs.declared.code.FlatCode.{FlatCode}
use Rattle.flat_gen.specs.Layout.{layout}
use Rattle.flat_gen.specs.Codes.{starts_of, function_code, flat_function}

-- whether a number is true once it is a pointer
abbrev code : ℕ → SlotCode
code n = record {
  functions = record { name = codes "main"; params = 0; locals = []; temporaries = 1; points = []; places = []; code = Const 0 n ∷ Convert 0 access.Pointer ∷ Unary 0 unary_word.Truth ∷ Exit 0 ∷ [] } ∷ [];
  main = 0;
  objects = [];
  strings = [];
  structs = [];
}

abbrev flat_code : ℕ → FlatCode
flat_code n = record { functions = map (flat_function 100 (code n)) (code n).functions; main = 0; movers = [] }

abbrev setting : Setting
setting = record { order = Little; linkage = 100; addresses = []; structs = [] }

abbrev slot_exit : Outcome slots.SlotState → Option ℤ
slot_exit (Reached m) = m.exit
slot_exit (Breaks w) = None

abbrev flat_exit : Outcome FlatState → Option ℤ
flat_exit (Reached m) = m.exit
flat_exit (Breaks w) = None

five_in_slot_code : slot_exit (after slots.SlotState (slots.step (code 5)) (λ i s. s) 10 0 (slots_begin.begin (code 5) [])) ≡ Some (pos 0)
unfolding unary is_stale
five_in_slot_code = refl

five_in_flat_code : flat_exit (after FlatState (step (flat_code 5) setting) (λ i s. s) 20 0 (begin (flat_code 5) setting [] [])) ≡ Some (pos 1)
unfolding overlaid number_at opened closed step begin first_memory on_word layout starts_of function_code flat_function
five_in_flat_code = refl

five_is_undefined : after slots.SlotState (strict_step (code 5)) (λ i s. s) 10 0 (slots_begin.begin (code 5) []) ≡ Breaks IllTyped
five_is_undefined = refl

zero_in_slot_code : slot_exit (after slots.SlotState (strict_step (code 0)) (λ i s. s) 10 0 (slots_begin.begin (code 0) [])) ≡ Some (pos 0)
unfolding unary is_stale
zero_in_slot_code = refl

zero_in_flat_code : flat_exit (after FlatState (step (flat_code 0) setting) (λ i s. s) 20 0 (begin (flat_code 0) setting [] [])) ≡ Some (pos 0)
unfolding overlaid number_at opened closed step begin first_memory on_word layout starts_of function_code flat_function
zero_in_flat_code = refl
