-- Uses lie in the text, or are of words in the static objects, as a linker asks.
use Rattle.std.proofs.Common.{◌≡◌, ◌≤◌, ◌⊎◌, inl, inr, ℕ, ◌+◌, List, [], ◌∷◌, length, length-append, Bool, true, false, not, ◌&&◌, ◌||◌, nat_le, refl, sym, ap, ap₂, subst, ◌∙◌, arith, le-leb}
use Rattle.std.specs.List.{AllByRecursion, list_all}
use Rattle.obj_file.specs.declared.object.Form.{Form}
use Rattle.obj_file.specs.declared.object.Form.TheVariants.{High, Low, Jump, Word}
use Rattle.obj_file.specs.declared.object.Object.{Object}
use Rattle.obj_file.specs.declared.object.StaticDef.{StaticDef}
use Rattle.obj_file.specs.declared.object.Use.{Use}
use Rattle.gen_parts.specs.Links.{UsesLieIn, IsInData, IsInOrder}
use Rattle.obj_placed.specs.Placed.{joined}
use Rattle.link_image.specs.Conditions.{has_form, use_lies, has_uses_inside}
use Rattle.object_laws.specs.Found.{LiesInOne, IsStaticUse}
use Rattle.object_laws.proofs.Lists.{all_append}

-- a use in the text before its end, or one in static objects
abbrev pub Stands : (size : ℕ) → Use → Type 0
Stands size u = ((u.in_text ≡ true) × (u.at + 4 ≤ size)) ⊎ (u.in_text ≡ false)

uses_end : (from : ℕ) (us : List Use) (end : ℕ) → UsesLieIn from us end → from ≤ end
uses_end from [] end h = h
uses_end from (u ∷ us) end h = omega (arith, h.2, uses_end (u.at + 4) us end h.3)

text_stands : (from size : ℕ) (us : List Use) → UsesLieIn from us size → AllByRecursion (Stands size) us
text_stands from size [] h = tt
text_stands from size (u ∷ us) h = (inl (h.0, uses_end (u.at + 4) us size h.3), text_stands (u.at + 4) size us h.3)

data_stands : (size : ℕ) (us : List Use) → AllByRecursion IsInData us → AllByRecursion (Stands size) us
data_stands size [] h = tt
data_stands size (u ∷ us) h = (inr h.0, data_stands size us h.1)

pub all_stand : (o : Object) → IsInOrder o → AllByRecursion (Stands (length o.text)) o.uses
all_stand o order =
    subst (λ (us : List Use). AllByRecursion (Stands (length o.text)) us) (sym order.uses)
    (all_append (Stands (length o.text)) order.text_uses order.data_uses (text_stands 0 (length o.text) order.text_uses order.in_text) (data_stands (length o.text) order.data_uses order.in_data))

-- ---- as a linker asks

any_form : (f : Form) → has_form true f ≡ true
any_form High = refl
any_form Low = refl
any_form Jump = refl
any_form Word = refl

or_true : (b : Bool) → (b || true) ≡ true
or_true true = refl
or_true false = refl

in_text_lies : (size : ℕ) (u : Use) → Stands size u → use_lies true size u ≡ true
in_text_lies size u (inl h) =
    ap₂ (λ (a b : Bool). not u.in_text || (a && b)) (le-leb (u.at + 4) size h.1) (any_form u.form) ∙ or_true (not u.in_text)
in_text_lies size u (inr h) = ap (λ (b : Bool). not b || (nat_le (u.at + 4) size && has_form true u.form)) h

word_inside : (before : ℕ) (ss : List StaticDef) (at : ℕ) → LiesInOne before ss at → at + 4 ≤ before + length (joined ss)
word_inside before [] at h = absurd h
word_inside before (s ∷ ss) at (inl h) = omega (arith, h.1, h.2, length-append s.bytes (joined ss))
word_inside before (s ∷ ss) at (inr h) = omega (arith, word_inside (before + length s.bytes) ss at h, length-append s.bytes (joined ss))

in_statics_lies : (ss : List StaticDef) (size : ℕ) (u : Use) → Stands size u → IsStaticUse ss u → use_lies false (length (joined ss)) u ≡ true
in_statics_lies ss size u (inl h) k = ap (λ (b : Bool). not (not b) || (nat_le (u.at + 4) (length (joined ss)) && has_form false u.form)) h.0
in_statics_lies ss size u (inr h) k =
    let inside : u.at + 4 ≤ length (joined ss) = omega (arith, word_inside 0 ss u.at (k h).1) in
    ap₂ (λ (a b : Bool). not (not u.in_text) || (a && b)) (le-leb (u.at + 4) (length (joined ss)) inside) (ap (has_form false) (k h).0) ∙ or_true (not (not u.in_text))

texts_lie : (size : ℕ) (us : List Use) → AllByRecursion (Stands size) us → list_all (use_lies true size) us ≡ true
texts_lie size [] h = refl
texts_lie size (u ∷ us) h = ap₂ (λ (a b : Bool). a && b) (in_text_lies size u h.0) (texts_lie size us h.1)

statics_lie : (ss : List StaticDef) (size : ℕ) (us : List Use) → AllByRecursion (Stands size) us → AllByRecursion (IsStaticUse ss) us → list_all (use_lies false (length (joined ss))) us ≡ true
statics_lie ss size [] h k = refl
statics_lie ss size (u ∷ us) h k = ap₂ (λ (a b : Bool). a && b) (in_statics_lies ss size u h.0 k.0) (statics_lie ss size us h.1 k.1)

pub uses_inside : (o : Object) → IsInOrder o → AllByRecursion (IsStaticUse o.statics) o.uses → has_uses_inside o ≡ true
uses_inside o order statics = ap₂ (λ (a b : Bool). a && b) (texts_lie (length o.text) o.uses (all_stand o order)) (statics_lie o.statics (length o.text) o.uses (all_stand o order) statics)
