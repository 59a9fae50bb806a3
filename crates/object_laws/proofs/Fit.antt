-- The static objects of well-formed slot code fit the data region.
use Rattle.std.proofs.Common.{◌≡◌, ◌≤◌, ℕ, suc, ◌+◌, ◌-◌, List, [], ◌∷◌, ◌++◌, length, length-append, map, sum, Bool, true, ◌&&◌, refl, sym, ap, ap₂, ◌∙◌, arith, le-leb}
use Rattle.std.specs.Int.{next_multiple_of}
use Rattle.std.specs.List.{AllByRecursion}
use Rattle.std.proofs.lemmas.List.Sums.{sum_by-cons}
use Rattle.ldb_words.specs.declared.kinds.Order.{Order}
use Rattle.machine_state.specs.Regions.{zeros}
use Rattle.machine_state.specs.declared.layout.TheConstants.{DATA, DATA_SIZE}
use Rattle.obj_file.specs.declared.object.Object.{Object}
use Rattle.obj_file.specs.declared.object.StaticDef.{StaticDef}
use Rattle.slot_ir.specs.declared.code.SlotCode.{SlotCode}
use Rattle.slot_ir.specs.declared.code.SlotObject.{SlotObject}
use Rattle.slot_ir.specs.declared.code.SlotStart.{SlotStart}
use Rattle.slot_ir.specs.WellFormed.{IsStart, StartsLieIn, IsObject, IsWellFormed, static_bytes}
use Rattle.flat_gen.specs.Codes.{flat_code}
use Rattle.gen_parts.specs.Coding.{Coding}
use Rattle.gen_parts.specs.Parts.{IsObjectOf}
use Rattle.gen_parts.specs.Statics.{leaf_bytes, start_bytes, object_bytes, objects_statics, strings_statics, program_statics}
use Rattle.gen_parts.proofs.Starts.{filled_length}
use Rattle.link_image.specs.Linked.{room_of}
use Rattle.link_image.specs.Conditions.{are_fitting}
use Rattle.object_laws.proofs.StaticUses.{value_long}

-- ---- an object has as many bytes as its size says

starts_long : (c : SlotCode) (order : Order) (here from size : ℕ) (ss : List SlotStart) → here ≡ from → AllByRecursion (IsStart c) ss → StartsLieIn from ss size → here + length (start_bytes order here ss) ≤ size
starts_long c order here from size [] e h l = omega (arith, e, l)
starts_long c order here from size (s ∷ ss) e h l =
    let gap : List ℕ = zeros (s.at - here) in
    let leaf : List ℕ = leaf_bytes order s in
    let next : ℕ = here + (s.at - here) + length leaf in
    let long : length leaf ≡ s.width = value_long order s.width s.value h.0.0 in
    let zeros_long : length gap ≡ 0 + (s.at - here) = filled_length [] (s.at - here) in
    let more : next + length (start_bytes order next ss) ≤ size = starts_long c order next (s.at + s.width) size ss (omega (arith, e, l.0, long)) h.1 l.2 in
    omega (arith, length-append (gap ++ leaf) (start_bytes order next ss), length-append gap leaf, zeros_long, more)

object_long : (c : SlotCode) (order : Order) (o : SlotObject) → IsObject c o → length (object_bytes order o) ≡ o.size
unfolding object_bytes
object_long c order o h =
    let bytes : List ℕ = start_bytes order 0 o.start in
    omega (arith, filled_length bytes (o.size - length bytes), starts_long c order 0 0 o.size o.start refl h.0 h.1)

-- ---- the room of all

abbrev rooms : List StaticDef → ℕ
rooms [] = 0
rooms (s ∷ ss) = room_of s + rooms ss

rooms_append : (ss ts : List StaticDef) → rooms (ss ++ ts) ≡ rooms ss + rooms ts
rooms_append [] ts = omega arith
rooms_append (s ∷ ss) ts = omega (arith, rooms_append ss ts)

abbrev room : ℕ → ℕ
room size = next_multiple_of size 4 + 4

objects_rooms : (c : SlotCode) (order : Order) (number : ℕ) (os : List SlotObject) → AllByRecursion (IsObject c) os → rooms (objects_statics order number os) ≡ sum (map (λ (o : SlotObject). room o.size) os)
objects_rooms c order number [] h = refl
objects_rooms c order number (o ∷ os) h =
    ap₂ (λ (a b : ℕ). a + b) (ap room (object_long c order o h.0)) (objects_rooms c order (suc number) os h.1) ∙ sym (sum_by-cons (λ (n : ℕ). n) (room o.size) (map (λ (x : SlotObject). room x.size) os))

strings_rooms : (number : ℕ) (ts : List (List ℕ)) → rooms (strings_statics number ts) ≡ sum (map (λ (s : List ℕ). room (length s + 1)) ts)
strings_rooms number [] = refl
strings_rooms number (t ∷ ts) =
    ap₂ (λ (a b : ℕ). a + b) (ap room (length-append t (0 ∷ []))) (strings_rooms (suc number) ts) ∙ sym (sum_by-cons (λ (n : ℕ). n) (room (length t + 1)) (map (λ (s : List ℕ). room (length s + 1)) ts))

fits : (at : ℕ) (ss : List StaticDef) → at + rooms ss ≤ DATA + DATA_SIZE → are_fitting at ss ≡ true
fits at [] h = refl
fits at (s ∷ ss) h = ap₂ (λ (a b : Bool). a && b) (le-leb (at + length s.bytes) (DATA + DATA_SIZE) (omega (arith, h))) (fits (at + room_of s) ss (omega (arith, h)))

program_fits : (order : Order) (c : SlotCode) → IsWellFormed c → are_fitting DATA (program_statics order c) ≡ true
unfolding program_statics
program_fits order c h =
    let objects : List StaticDef = objects_statics order 0 c.objects in
    let strings : List StaticDef = strings_statics (length c.objects) c.strings in
    let total : rooms (objects ++ strings) ≡ static_bytes c =
    rooms_append objects strings ∙ ap₂ (λ (a b : ℕ). a + b) (objects_rooms c order 0 c.objects h.2) (strings_rooms (length c.objects) c.strings) in
    let size : DATA_SIZE ≡ 1048576 = refl in
    fits DATA (objects ++ strings) (omega (arith, total, h.5, size))

pub statics_fit : {Insn : Type 0} (t : Coding Insn) (linkage : ℕ) (c : SlotCode) (o : Object) → IsWellFormed c → IsObjectOf t c (flat_code linkage c) o → are_fitting DATA o.statics ≡ true
statics_fit t linkage c o h is = ap (are_fitting DATA) is.statics ∙ program_fits t.shape.order c h
