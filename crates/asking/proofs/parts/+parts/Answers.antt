use Rattle.std.proofs.Common.{◌≡◌, ◌<◌, sym, ap, subst, ◌∙◌, Ok, List, Bor, codes, arith}
use Rattle.ps_store.specs.declared.object.PsObj.{PsObj}
use Rattle.table_model.specs.Reading.{Walked, dict_at, items_at}
use Rattle.table_model.specs.Types.{PointerKind, ArrayKind, StructKind, type_kind}
use Rattle.table_types.specs.declared.kinds.TypeKind.TheVariants.{Pointer, Array, Struct}
use Rattle.table_types.proofs.Unfolding.{kind_is, seen_is, within_beyond, within_item, within_members}
use Rattle.asking.specs.Printing.{FoundWithin}
use Rattle.asking.proofs.parts.+parts.Goals as goal

pub parts_left-returns-in_default : goal.parts_left-returns-in_default
parts_left-returns-in_default t c =
    let s = c.args.store.now in
    let to = c.in_ok-to-in-Pointer.to in
    let some : 0 < c.args.deep = omega arith in
    let k : type_kind s c.args.t ≡ Ok PointerKind = kind_is c.type_kind.result (type_kind s c.args.t) Pointer c.type_kind.ensures (c.in_ok-type_kind.was ∙ ap Ok c.in-Pointer.is) in
    let d : dict_at s c.args.t (codes "to") ≡ Ok to = sym c.dict_at.ensures ∙ c.in_ok-to-in-Pointer.was in
    let far = kind_is c.type_kind-in-Pointer.result (type_kind s to) c.in_ok-type_kind-in-Pointer.field-0 c.type_kind-in-Pointer.ensures c.in_ok-type_kind-in-Pointer.was in
    subst (λ (w : Walked (Unit {0})). FoundWithin c.parts_left.result w) (sym (within_beyond s c.args.t c.args.deep some to c.in_ok-type_kind-in-Pointer.field-0 k d far c.in_default.not-Struct)) c.parts_left.ensures

pub parts_left-returns-in_ok-item-in-Array : goal.parts_left-returns-in_ok-item-in-Array
parts_left-returns-in_ok-item-in-Array t c =
    let s = c.args.store.now in
    let item = c.in_ok-item-in-Array.item in
    let some : 0 < c.args.deep = omega arith in
    let k : type_kind s c.args.t ≡ Ok ArrayKind = kind_is c.type_kind.result (type_kind s c.args.t) Array c.type_kind.ensures (c.in_ok-type_kind.was ∙ ap Ok c.in-Array.is) in
    let d : dict_at s c.args.t (codes "to") ≡ Ok item = sym c.dict_at-in-Array.ensures ∙ c.in_ok-item-in-Array.was in
    subst (λ (w : Walked (Unit {0})). FoundWithin c.parts_left-in-Array.result w) (sym (within_item s c.args.t c.args.deep some item k d)) c.parts_left-in-Array.ensures

pub parts_left-returns-in_ok-members-in-Struct : goal.parts_left-returns-in_ok-members-in-Struct
parts_left-returns-in_ok-members-in-Struct t c =
    let s = c.args.store.now in
    let xs = c.in_ok-members-in-Struct.members.now in
    let some : 0 < c.args.deep = omega arith in
    let k : type_kind s c.args.t ≡ Ok StructKind = kind_is c.type_kind.result (type_kind s c.args.t) Struct c.type_kind.ensures (c.in_ok-type_kind.was ∙ ap Ok c.in-Struct.is) in
    let d : items_at s c.args.t (codes "members") ≡ Ok xs = seen_is (λ (items : Bor (List PsObj)). items.now) c.items_at.result (items_at s c.args.t (codes "members")) c.in_ok-members-in-Struct.members c.items_at.ensures c.in_ok-members-in-Struct.was in
    subst (λ (w : Walked (Unit {0})). FoundWithin c.members_left.result w) (sym (within_members s c.args.t c.args.deep some xs k d)) c.members_left.ensures
