-- What was there stays where objects are added.
use Rattle.std.proofs.Common.{◌≡◌, refl, ap, subst, ◌∙◌, ℕ, ◌+◌, ◌<◌, Bool, true, false, nat_le, ◌&&◌, if◌then◌else◌, Ok, Err, List, [], ◌∷◌, ◌++◌, length, slice_index_or, arith}
use Rattle.std.proofs.lemmas.List.{get_or_append_left}
use Rattle.ps_store.specs.declared.object.Part.{Part}
use Rattle.ps_store.specs.declared.object.Part.TheVariants.{Table, Command}
use Rattle.ps_store.specs.declared.object.PsObj.{PsObj}
use Rattle.ps_store.specs.declared.object.ArrayId.{ArrayId}
use Rattle.ps_store.specs.declared.object.DictId.{DictId}
use Rattle.ps_store.specs.declared.object.StringId.{StringId}
use Rattle.ps_store.specs.declared.fault.StoreFault.TheVariants.{Limit}
use Rattle.ps_store.specs.Held.{Held}
use Rattle.ps_store.specs.StoreState.{StoreState}
use Rattle.ps_store.specs.Store.{Given, held, with_held, elements_of, entries_of, bytes_of, has_room, text_units, making_array, making_dict, making_text}
use Rattle.ps_store.specs.Settled.{Begins}
use Rattle.ps_store.specs.Extends.{Adds, Extends, HoldsArray, HoldsDict, HoldsString}
use Rattle.ps_store.proofs.Settling.{begins_same, begins_on}

adds_same : (h : Held) → Adds h h
adds_same h = record { arrays = begins_same h.arrays; dicts = begins_same h.dicts; strings = begins_same h.strings; units = omega arith }

adds_on : (g h k : Held) → Adds g h → Adds h k → Adds g k
adds_on g h k a b =
    let u = a.units in let v = b.units in
    record {
      arrays = begins_on g.arrays h.arrays k.arrays a.arrays b.arrays;
      dicts = begins_on g.dicts h.dicts k.dicts a.dicts b.dicts;
      strings = begins_on g.strings h.strings k.strings a.strings b.strings;
      units = omega arith;
    }

pub extends_same : (s : StoreState) → Extends s s
extends_same s = record { table = adds_same s.table; command = adds_same s.command; part = refl; closed = refl; base = refl; top = refl }

pub extends_on : (s t u : StoreState) → Extends s t → Extends t u → Extends s u
extends_on s t u h k = record {
  table = adds_on s.table t.table u.table h.table k.table;
  command = adds_on s.command t.command u.command h.command k.command;
  part = k.part ∙ h.part;
  closed = k.closed ∙ h.closed;
  base = k.base ∙ h.base;
  top = k.top ∙ h.top;
}

adds_in : (s t : StoreState) (p : Part) → Extends s t → Adds (held s p) (held t p)
adds_in s t Table h = h.table
adds_in s t Command h = h.command

begun : {X : Type 0} (xs ys : List X) (i : ℕ) (d : X) → i < length xs → Begins xs ys → slice_index_or ys i d ≡ slice_index_or xs i d
begun xs ys i d within b = ap (λ l. slice_index_or l i d) b.whole ∙ get_or_append_left xs b.rest d i within

pub array_there : (s t : StoreState) (a : ArrayId) → Extends s t → HoldsArray s a → elements_of t a ≡ elements_of s a
array_there s t a h is = begun (held s a.part).arrays (held t a.part).arrays a.index [] is (adds_in s t a.part h).arrays

pub dict_there : (s t : StoreState) (d : DictId) → Extends s t → HoldsDict s d → entries_of t d ≡ entries_of s d
dict_there s t d h is = begun (held s d.part).dicts (held t d.part).dicts d.index [] is (adds_in s t d.part h).dicts

pub string_there : (s t : StoreState) (x : StringId) → Extends s t → HoldsString s x → bytes_of t x ≡ bytes_of s x
string_there s t x h is = begun (held s x.part).strings (held t x.part).strings x.index [] is (adds_in s t x.part h).strings

-- ---- objects that are made

extends_in : (s : StoreState) (p : Part) (h : Held) → Adds (held s p) h → Extends s (with_held s p h)
extends_in s Table h a = record { table = a; command = adds_same s.command; part = refl; closed = refl; base = refl; top = refl }
extends_in s Command h a = record { table = adds_same s.table; command = a; part = refl; closed = refl; base = refl; top = refl }

abbrev given_if : {X : Type 0} → Bool → X × StoreState → Given X
given_if b r = if b then Ok r else Err Limit

abbrev store_given : {X : Type 0} → Given X → StoreState → StoreState
store_given (Ok r) s = r.1
store_given (Err f) s = s

granted : {X : Type 0} (b : Bool) (x y : X) (s t u : StoreState) → given_if b (x, u) ≡ Ok (y, t) → Extends s u → Extends s t
granted true x y s t u e h = subst (λ v. Extends s v) (ap (λ g. store_given g s) e) h
granted false x y s t u e h = absurd (cc)

pub array_made : (s t : StoreState) (items : List PsObj) (a : ArrayId) → making_array s items ≡ Ok (a, t) → Extends s t
array_made s t items a e =
    let h = held s s.part in
    let h' : Held = record h { arrays = h.arrays ++ items ∷ []; units = h.units + (1 + length items) } in
    granted (nat_le (length items) 1000000 && has_room s (1 + length items)) (record { part = s.part; index = length h.arrays }) a s t (with_held s s.part h') e
    (extends_in s s.part h' (record { arrays = record { rest = items ∷ []; whole = refl }; dicts = begins_same h.dicts; strings = begins_same h.strings; units = omega arith }))

pub dict_made : (s t : StoreState) (d : DictId) → making_dict s ≡ Ok (d, t) → Extends s t
dict_made s t d e =
    let h = held s s.part in
    let h' : Held = record h { dicts = h.dicts ++ [] ∷ []; units = h.units + 1 } in
    granted (has_room s 1) (record { part = s.part; index = length h.dicts }) d s t (with_held s s.part h') e
    (extends_in s s.part h' (record { arrays = begins_same h.arrays; dicts = record { rest = [] ∷ []; whole = refl }; strings = begins_same h.strings; units = omega arith }))

pub text_made : (most : ℕ) (s t : StoreState) (bytes : List ℕ) (x : StringId) → making_text most s bytes ≡ Ok (x, t) → Extends s t
text_made most s t bytes x e =
    let h = held s s.part in
    let h' : Held = record h { strings = h.strings ++ bytes ∷ []; units = h.units + text_units bytes } in
    granted (nat_le (length bytes) most && has_room s (text_units bytes)) (record { part = s.part; index = length h.strings }) x s t (with_held s s.part h') e
    (extends_in s s.part h' (record { arrays = begins_same h.arrays; dicts = begins_same h.dicts; strings = record { rest = bytes ∷ []; whole = refl }; units = omega arith }))
