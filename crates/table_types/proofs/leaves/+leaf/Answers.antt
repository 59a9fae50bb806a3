use Rattle.std.proofs.Common.{◌≡◌, ◌<◌, sym, ap, ◌∙◌, Ok, Err, List, Bor, codes, arith}
use Rattle.ps_store.specs.declared.object.PsObj.{PsObj}
use Rattle.table_model.specs.Reading.{dict_at, items_at, number_at}
use Rattle.table_model.specs.Types.{ArrayKind, StructKind, type_kind}
use Rattle.table_types.specs.declared.kinds.TypeKind.TheVariants.{Array, Struct}
use Rattle.table_types.proofs.Unfolding.{kind_is, seen_is, leaf_item, leaf_member}
use Rattle.table_types.proofs.leaves.+leaf.Goals as goal

pub leaf_within-returns-in_ok-count-in-Array : goal.leaf_within-returns-in_ok-count-in-Array
leaf_within-returns-in_ok-count-in-Array t c =
    let s = c.args.store.now in
    let item = c.in_ok-item-in-Array.item in
    let some : 0 < c.args.deep = omega arith in
    let k : type_kind s c.args.t ≡ Ok ArrayKind = kind_is c.type_kind.result (type_kind s c.args.t) Array c.type_kind.ensures (c.in_ok-type_kind.was ∙ ap Ok c.in-Array.is) in
    let d : dict_at s c.args.t (codes "to") ≡ Ok item = sym c.dict_at.ensures ∙ c.in_ok-item-in-Array.was in
    let e : number_at s item (codes "size") ≡ Ok c.in_ok-size-in-Array.size = sym c.number_at.ensures ∙ c.in_ok-size-in-Array.was in
    let f : number_at s c.args.t (codes "count") ≡ Ok c.in_ok-count-in-Array.count = sym c.number_at-in-Array.ensures ∙ c.in_ok-count-in-Array.was in
    c.leaf_of_item.ensures ∙ sym (leaf_item s c.args.t c.args.at c.args.deep some item c.in_ok-size-in-Array.size c.in_ok-count-in-Array.count k d e f)

pub leaf_within-returns-in-Err : goal.leaf_within-returns-in-Err
leaf_within-returns-in-Err t c =
    let s = c.args.store.now in
    let xs = c.in_ok-members-in-Struct.members.now in
    let some : 0 < c.args.deep = omega arith in
    let k : type_kind s c.args.t ≡ Ok StructKind = kind_is c.type_kind.result (type_kind s c.args.t) Struct c.type_kind.ensures (c.in_ok-type_kind.was ∙ ap Ok c.in-Struct.is) in
    let d : items_at s c.args.t (codes "members") ≡ Ok xs = seen_is (λ (items : Bor (List PsObj)). items.now) c.items_at.result (items_at s c.args.t (codes "members")) c.in_ok-members-in-Struct.members c.items_at.ensures c.in_ok-members-in-Struct.was in
    sym (leaf_member s c.args.t c.args.at c.args.deep some xs (Err c.in-Err.lack) k d (sym c.holder.ensures ∙ c.in-Err.is))

pub leaf_within-returns-in-Ok : goal.leaf_within-returns-in-Ok
leaf_within-returns-in-Ok t c =
    let s = c.args.store.now in
    let xs = c.in_ok-members-in-Struct.members.now in
    let some : 0 < c.args.deep = omega arith in
    let k : type_kind s c.args.t ≡ Ok StructKind = kind_is c.type_kind.result (type_kind s c.args.t) Struct c.type_kind.ensures (c.in_ok-type_kind.was ∙ ap Ok c.in-Struct.is) in
    let d : items_at s c.args.t (codes "members") ≡ Ok xs = seen_is (λ (items : Bor (List PsObj)). items.now) c.items_at.result (items_at s c.args.t (codes "members")) c.in_ok-members-in-Struct.members c.items_at.ensures c.in_ok-members-in-Struct.was in
    c.leaf_held.ensures ∙ sym (leaf_member s c.args.t c.args.at c.args.deep some xs (Ok c.in-Ok.held) k d (sym c.holder.ensures ∙ c.in-Ok.is))
