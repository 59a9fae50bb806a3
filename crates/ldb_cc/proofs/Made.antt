-- The image of a program, by its parts.
use Rattle.std.proofs.Common.{◌≡◌, ℕ, suc, ◌+◌, List, [], ◌∷◌, ◌++◌, length, refl, sym, ap, ap₂, ◌∙◌, append-nil, length-append}
use Rattle.ldb_words.specs.declared.kinds.Order.{Order}
use Rattle.ldb_words.specs.declared.kinds.Order.TheVariants.{Little, Big}
use Rattle.machine_state.specs.declared.layout.TheConstants.{DATA}
use Rattle.c_tree.specs.declared.rows.Program.{Program}
use Rattle.slot_ir.specs.declared.code.SlotCode.{SlotCode}
use Rattle.slot_ir.specs.declared.code.SlotObject.{SlotObject}
use Rattle.slot_gen.specs.Rows.{EachFrom, HasRowsOf, IsObjectOf}
use Rattle.slot_gen.specs.Correct.{Lowers}
use Rattle.slot_ir.specs.WellFormed.{IsWellFormed}
use Rattle.slot_pointers.specs.Taken.{TakesPointers}
use Rattle.obj_file.specs.Image.{ImageFields}
use Rattle.obj_file.specs.declared.object.Object.{Object}
use Rattle.obj_file.specs.declared.object.StaticDef.{StaticDef}
use Rattle.obj_file.specs.declared.object.LoaderRows.{LoaderRows}
use Rattle.gen_parts.specs.Statics.{objects_statics, strings_statics, program_statics}
use Rattle.link_image.specs.Linked.{room_of, anchors_from}
use Rattle.link_image.specs.Links.{IsLinked}
use Rattle.ldb_cc.specs.declared.aim.Aim.{Aim}
use Rattle.ldb_cc.specs.declared.aim.Aim.TheVariants.{Mips, Sparc}
use Rattle.ldb_cc.specs.Table.{target_byte}
use Rattle.ldb_cc.specs.Built.{AreAnchorsOf, IsEmitted, IsImageOf}

-- ---- how many there are

anchor_count : (at : ℕ) (ss : List StaticDef) → length (anchors_from at ss) ≡ length ss
anchor_count at [] = refl
anchor_count at (s ∷ ss) = ap suc (anchor_count (at + room_of s) ss)

object_count : (order : Order) (n : ℕ) (os : List SlotObject) → length (objects_statics order n os) ≡ length os
object_count order n [] = refl
object_count order n (o ∷ os) = ap suc (object_count order (suc n) os)

string_count : (n : ℕ) (ts : List (List ℕ)) → length (strings_statics n ts) ≡ length ts
string_count n [] = refl
string_count n (t ∷ ts) = ap suc (string_count (suc n) ts)

statics_count : (order : Order) (c : SlotCode) → length (program_statics order c) ≡ length c.objects + length c.strings
unfolding program_statics
statics_count order c =
    length-append (objects_statics order 0 c.objects) (strings_statics (length c.objects) c.strings)
    ∙ ap₂ (λ a b. a + b) (object_count order 0 c.objects) (string_count (length c.objects) c.strings)

each_count : {A B : Type 0} (P : ℕ → A → B → Type 0) (n : ℕ) (xs : List A) (ys : List B) → EachFrom P n xs ys → length ys ≡ length xs
each_count P n [] [] e = refl
each_count P n [] (y ∷ ys) e = absurd e
each_count P n (x ∷ xs) [] e = absurd e
each_count P n (x ∷ xs) (y ∷ ys) e = ap suc (each_count P (suc n) xs ys e.1)

-- ---- the object of a target

emitted_target : (aim : Aim) (c : SlotCode) (o : Object) → IsEmitted aim c o → o.target ≡ target_byte aim
emitted_target Mips c o h = h.target
emitted_target Sparc c o h = h.target

emitted_count : (aim : Aim) (c : SlotCode) (o : Object) → IsEmitted aim c o → length o.statics ≡ length c.objects + length c.strings
emitted_count Mips c o h = ap (λ (ss : List StaticDef). length ss) h.statics ∙ statics_count Little c
emitted_count Sparc c o h = ap (λ (ss : List StaticDef). length ss) h.statics ∙ statics_count Big c

anchored : (aim : Aim) (p : Program) (c : SlotCode) (o : Object) (image : ImageFields) (rows : LoaderRows) → HasRowsOf p c → IsEmitted aim c o → IsLinked (o ∷ []) image rows → AreAnchorsOf p rows.anchors
anchored aim p c o image rows r e l =
    ap (λ (xs : List (List ℕ × ℕ)). length xs) l.anchors
    ∙ (ap (λ (ss : List StaticDef). length (anchors_from DATA ss)) (append-nil o.statics)
    ∙ (anchor_count DATA o.statics
    ∙ (emitted_count aim c o e
    ∙ ap₂ (λ a b. a + b) (each_count (IsObjectOf p) 0 p.objects c.objects r.objects) (ap (λ (ts : List (List ℕ)). length ts) r.strings))))

pub made : (aim : Aim) (p : Program) (c : SlotCode) (o : Object) (image : ImageFields) (rows : LoaderRows) → HasRowsOf p c → IsWellFormed c → Lowers p c → TakesPointers c → IsEmitted aim c o → IsLinked (o ∷ []) image rows → IsImageOf aim p image rows
made aim p c o image rows r f k t e l = record {
  code = c;
  has_rows = r;
  formed = f;
  lowers = k;
  pointers = t;
  object = o;
  emitted = e;
  linked = l;
  is_for = record { target = sym l.target.0 ∙ emitted_target aim c o e; entry = l.entry };
  one_each = anchored aim p c o image rows r e l;
}
