-- The uses in static objects.
use Rattle.std.proofs.Common.{◌≡◌, ◌≤◌, ◌<◌, ◌⊎◌, inl, inr, ℕ, zero, suc, ◌+◌, ◌-◌, ◌*◌, ◌/◌, ◌%◌, List, [], ◌∷◌, ◌++◌, length, true≢false, refl, sym, ap, subst, ◌∙◌, arith}
use Rattle.std.specs.List.{AllByRecursion}
use Rattle.ldb_words.specs.declared.kinds.Order.{Order}
use Rattle.ldb_words.specs.declared.kinds.Order.TheVariants.{Little, Big}
use Rattle.obj_file.specs.declared.object.Form.TheVariants.{Word}
use Rattle.obj_file.specs.declared.object.Object.{Object}
use Rattle.obj_file.specs.declared.object.StaticDef.{StaticDef}
use Rattle.obj_file.specs.declared.object.Use.{Use}
use Rattle.slot_ir.specs.declared.code.SlotCode.{SlotCode}
use Rattle.slot_ir.specs.declared.code.SlotObject.{SlotObject}
use Rattle.slot_ir.specs.declared.code.SlotStart.{SlotStart}
use Rattle.slot_ir.specs.declared.code.SlotValue.{SlotValue}
use Rattle.slot_ir.specs.declared.code.SlotValue.TheVariants as value
use Rattle.slot_ir.specs.WellFormed.{IsNumber, IsStart, StartsLieIn, IsObject, IsWellFormed}
use Rattle.flat_gen.specs.Codes.{flat_code}
use Rattle.gen_parts.specs.Coding.{Coding}
use Rattle.gen_parts.specs.Links.{IsOneOf, static_names}
use Rattle.gen_parts.specs.Names.{object_name}
use Rattle.gen_parts.specs.Parts.{program_uses, IsObjectOf}
use Rattle.gen_parts.specs.Statics.{number_bytes, value_bytes, leaf_bytes, value_uses, start_bytes, start_uses, object_bytes, objects_statics, objects_uses, strings_statics, program_statics, data_uses}
use Rattle.gen_parts.proofs.Starts.{filled_length}
use Rattle.object_laws.specs.Found.{LiesInOne, IsStaticUse}
use Rattle.object_laws.proofs.Lists.{all_append, all_weaker}
use Rattle.object_laws.proofs.InText.{IsInText, program_in}

-- ---- names

object_there : (order : Order) (number k : ℕ) (os : List SlotObject) (more : List StaticDef) → k < length os → IsOneOf (object_name (number + k)) (static_names (objects_statics order number os ++ more))
object_there order number k [] more h = absurd (omega (arith, h))
object_there order number zero (o ∷ os) more h = let e : number + 0 ≡ number = omega arith in inl (ap object_name e)
object_there order number (suc k) (o ∷ os) more h =
    let e : suc number + k ≡ number + suc k = omega arith in
    inr (subst (λ (n : ℕ). IsOneOf (object_name n) (static_names (objects_statics order (suc number) os ++ more))) e (object_there order (suc number) k os more (omega (arith, h))))

string_there : (number k : ℕ) (ts : List (List ℕ)) → k < length ts → IsOneOf (object_name (number + k)) (static_names (strings_statics number ts))
string_there number k [] h = absurd (omega (arith, h))
string_there number zero (t ∷ ts) h = let e : number + 0 ≡ number = omega arith in inl (ap object_name e)
string_there number (suc k) (t ∷ ts) h =
    let e : suc number + k ≡ number + suc k = omega arith in
    inr (subst (λ (n : ℕ). IsOneOf (object_name n) (static_names (strings_statics (suc number) ts))) e (string_there (suc number) k ts (omega (arith, h))))

behind_others : (name : List ℕ) (ss ts : List StaticDef) → IsOneOf name (static_names ts) → IsOneOf name (static_names (ss ++ ts))
behind_others name [] ts h = h
behind_others name (s ∷ ss) ts h = inr (behind_others name ss ts h)

-- ---- leaves

number_long : (order : Order) (bits : ℕ) → (length (number_bytes order 4 bits) ≡ 4) × (length (number_bytes order 1 bits) ≡ 1)
number_long Little bits = (refl, refl)
number_long Big bits = (refl, refl)

pub value_long : (order : Order) (width : ℕ) (v : SlotValue) → (width ≡ 4) ⊎ ((width ≡ 1) × IsNumber v) → length (value_bytes order width v) ≡ width
value_long order width (value.Number bits) (inl e) = subst (λ (w : ℕ). length (number_bytes order w bits) ≡ w) (sym e) (number_long order bits).0
value_long order width (value.Number bits) (inr e) = subst (λ (w : ℕ). length (number_bytes order w bits) ≡ w) (sym e.0) (number_long order bits).1
value_long order width value.Null (inl e) = subst (λ (w : ℕ). length (number_bytes order w 0) ≡ w) (sym e) (number_long order 0).0
value_long order width value.Null (inr e) = absurd e.1
value_long order width (value.Object object offset) (inl e) = sym e
value_long order width (value.Object object offset) (inr e) = absurd e.1
value_long order width (value.Str string) (inl e) = sym e
value_long order width (value.Str string) (inr e) = absurd e.1

starts_end : (from : ℕ) (ss : List SlotStart) (end : ℕ) → StartsLieIn from ss end → from ≤ end
starts_end from [] end h = h
starts_end from (s ∷ ss) end h = omega (arith, h.0, starts_end (s.at + s.width) ss end h.2)

-- an address in an object is that of one that is there
object_in : (c : SlotCode) (os : List SlotObject) (object offset at width : ℕ) → IsStart (record c { objects = os }) (record { at = at; width = width; value = value.Object object offset }) → object < length os
object_in c [] object offset at width h = absurd h.1
object_in c (o ∷ os) zero offset at width h = omega arith
object_in c (o ∷ os) (suc object) offset at width h = omega (arith, object_in c os object offset at width (h.0, h.1))

four : (width : ℕ) → (width ≡ 4) ⊎ ((width ≡ 1) × ⊥) → width ≡ 4
four width (inl e) = e
four width (inr e) = absurd e.1

module _ (c : SlotCode) (order : Order) (names : List (List ℕ)) (objects : (k : ℕ) → k < length c.objects → IsOneOf (object_name k) names)
    (strings : (k : ℕ) → k < length c.strings → IsOneOf (object_name (length c.objects + k)) names) where
  -- a use in an object of a size
  abbrev Inside : (before size : ℕ) → Use → Type 0
  Inside before size u = (u.form ≡ Word) × ((k : ℕ) × (u.at ≡ before + k * 4) × (k * 4 + 4 ≤ size)) × IsOneOf u.name names

  word_in : (before at from size width : ℕ) → width ≡ 4 → at ≡ before + from → from % width ≡ 0 → from + width ≤ size → (k : ℕ) × (at ≡ before + k * 4) × (k * 4 + 4 ≤ size)
  word_in before at from size width w e m h =
      let aligned : from % 4 ≡ 0 = subst (λ (n : ℕ). from % n ≡ 0) w m in
      let whole : from / 4 * 4 ≡ from = omega (arith, aligned) in
      (from / 4, omega (arith, e, whole), omega (arith, h, w, whole))

  value_inside : (before at from size width : ℕ) (v : SlotValue) → IsStart c (record { at = from; width = width; value = v }) → at ≡ before + from → from % width ≡ 0 → from + width ≤ size
      → AllByRecursion (Inside before size) (value_uses (length c.objects) at v)
  value_inside before at from size width (value.Number bits) s e m h = tt
  value_inside before at from size width value.Null s e m h = tt
  value_inside before at from size width (value.Object object offset) s e m h =
      ((refl, word_in before at from size width (four width s.0) e m h, objects object (object_in c c.objects object offset from width s)), tt)
  value_inside before at from size width (value.Str string) s e m h = ((refl, word_in before at from size width (four width s.0) e m h, strings string s.1), tt)

  starts_inside : (before here from size : ℕ) (ss : List SlotStart) → here ≡ from → AllByRecursion (IsStart c) ss → StartsLieIn from ss size → AllByRecursion (Inside before size) (start_uses order (length c.objects) before here ss)
  starts_inside before here from size [] e h l = tt
  starts_inside before here from size (s ∷ ss) e h l =
      let at : before + (here + (s.at - here)) ≡ before + s.at = omega (arith, e, l.0) in
      let next : here + (s.at - here) + length (leaf_bytes order s) ≡ s.at + s.width = omega (arith, e, l.0, value_long order s.width s.value h.0.0) in
      all_append (Inside before size) (value_uses (length c.objects) (before + (here + (s.at - here))) s.value) _
      (value_inside before (before + (here + (s.at - here))) s.at size s.width s.value h.0 at l.1 (starts_end (s.at + s.width) ss size l.2))
      (starts_inside before (here + (s.at - here) + length (leaf_bytes order s)) (s.at + s.width) size ss next h.1 l.2)

  -- ---- objects

  object_size : (o : SlotObject) → o.size ≤ length (object_bytes order o)
  unfolding object_bytes
  object_size o =
      let bytes : List ℕ = start_bytes order 0 o.start in
      omega (arith, filled_length bytes (o.size - length bytes))

  abbrev InOne : (before : ℕ) → List StaticDef → Use → Type 0
  InOne before ss u = (u.form ≡ Word) × LiesInOne before ss u.at × IsOneOf u.name names

  objects_inside : (before number : ℕ) (os : List SlotObject) (more : List StaticDef) → AllByRecursion (IsObject c) os
      → AllByRecursion (InOne before (objects_statics order number os ++ more)) (objects_uses order (length c.objects) before os)
  objects_inside before number [] more h = tt
  objects_inside before number (o ∷ os) more h =
      let size : o.size ≤ length (object_bytes order o) = object_size o in
      let behind : ℕ = before + length (object_bytes order o) in
      let rest : List StaticDef = objects_statics order (suc number) os ++ more in
      all_append (InOne before (objects_statics order number (o ∷ os) ++ more)) (start_uses order (length c.objects) before 0 o.start) (objects_uses order (length c.objects) behind os)
      (all_weaker (Inside before o.size) (InOne before (objects_statics order number (o ∷ os) ++ more)) (λ u k. (k.0, inl (k.1.0, k.1.1, omega (arith, size, k.1.2)), k.2)) (start_uses order (length c.objects) before 0 o.start)
      (starts_inside before 0 0 o.size o.start refl h.0.0 h.0.1))
      (all_weaker (InOne behind rest) (InOne before (objects_statics order number (o ∷ os) ++ more)) (λ u k. (k.0, inr k.1, k.2)) (objects_uses order (length c.objects) behind os)
      (objects_inside behind (suc number) os more h.1))

-- ---- the object

pub object_named : (order : Order) (c : SlotCode) (k : ℕ) → k < length c.objects → IsOneOf (object_name k) (static_names (program_statics order c))
unfolding program_statics
object_named order c k h =
    let e : 0 + k ≡ k = omega arith in
    subst (λ (n : ℕ). IsOneOf (object_name n) (static_names (objects_statics order 0 c.objects ++ strings_statics (length c.objects) c.strings))) e
    (object_there order 0 k c.objects (strings_statics (length c.objects) c.strings) h)

pub string_named : (order : Order) (c : SlotCode) (k : ℕ) → k < length c.strings → IsOneOf (object_name (length c.objects + k)) (static_names (program_statics order c))
unfolding program_statics
string_named order c k h = behind_others (object_name (length c.objects + k)) (objects_statics order 0 c.objects) (strings_statics (length c.objects) c.strings) (string_there (length c.objects) k c.strings h)

abbrev Lies : (order : Order) (c : SlotCode) → Use → Type 0
Lies order c u = (u.form ≡ Word) × LiesInOne 0 (program_statics order c) u.at × IsOneOf u.name (static_names (program_statics order c))

uses_lie : (order : Order) (c : SlotCode) (h : IsWellFormed c) → AllByRecursion (Lies order c) (data_uses order c)
unfolding program_statics data_uses
uses_lie order c h =
    objects_inside c order (static_names (program_statics order c)) (object_named order c) (string_named order c) 0 0 c.objects (strings_statics (length c.objects) c.strings) h.2

pub data_named : (order : Order) (c : SlotCode) (h : IsWellFormed c) → AllByRecursion (λ (u : Use). IsOneOf u.name (static_names (program_statics order c))) (data_uses order c)
data_named order c h = all_weaker (Lies order c) (λ (u : Use). IsOneOf u.name (static_names (program_statics order c))) (λ u k. k.2) (data_uses order c) (uses_lie order c h)

pub static_uses_found : {Insn : Type 0} (t : Coding Insn) (linkage : ℕ) (c : SlotCode) (o : Object) → IsWellFormed c → IsObjectOf t c (flat_code linkage c) o → AllByRecursion (IsStaticUse o.statics) o.uses
static_uses_found t linkage c o h is =
    let text : List Use = program_uses t (flat_code linkage c) in
    let statics : List Use = data_uses t.shape.order c in
    let in_text : AllByRecursion (IsStaticUse (program_statics t.shape.order c)) text =
    all_weaker IsInText (IsStaticUse (program_statics t.shape.order c)) (λ u i k. absurd (true≢false (sym i ∙ k))) text (program_in t (flat_code linkage c)) in
    subst (λ (ss : List StaticDef). AllByRecursion (IsStaticUse ss) o.uses) (sym is.statics)
    (subst (λ (us : List Use). AllByRecursion (IsStaticUse (program_statics t.shape.order c)) us) (sym is.uses)
    (all_append (IsStaticUse (program_statics t.shape.order c)) text statics in_text (all_weaker (Lies t.shape.order c) (IsStaticUse (program_statics t.shape.order c)) (λ u k i. k) statics (uses_lie t.shape.order c h))))
