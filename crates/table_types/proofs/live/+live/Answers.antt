use Rattle.std.proofs.Common.{rules, ◌≡◌, ◌<◌, ◌+◌, ◌-◌, sym, ap, ◌∙◌, ℕ, true, Ok, Err, List, Bor, codes, arith}
use Rattle.ps_store.specs.declared.object.PsObj.{PsObj}
use Rattle.table_model.specs.Reading.{dict_at, items_at, number_at}
use Rattle.table_model.specs.Types.{IntKind, UnsignedKind, CharKind, PointerKind, ArrayKind, StructKind, type_kind}
use Rattle.table_types.specs.Offsets.{if_offset, items_live, type_live}
use Rattle.table_types.specs.declared.kinds.TypeKind.TheVariants.{Int, Unsigned, Char, Pointer, Array, Struct}
use Rattle.table_types.proofs.Rows.{items_lack, items_on}
use Rattle.table_types.proofs.Unfolding.{kind_is, seen_is, live_by, live_items, live_members}
use Rattle.table_types.proofs.live.+live.Goals as goal

pub items_live-returns-in-Err : goal.items_live-returns-in-Err
items_live-returns-in-Err t c =
    let s = c.args.store.now in
    let stops : if_offset c.loop.next (type_live s c.args.found c.args.deep c.args.item c.loop.next) ≡ Err c.in-Err.lack = sym c.live_from.ensures ∙ c.in-Err.is in
    sym (items_lack s c.args.found c.args.deep c.args.item c.args.size c.loop.next c.args.count c.loop.counter c.in-Err.lack (omega arith) stops) ∙ c.loop.invariant

pub items_live-loop-preserved : goal.items_live-loop-preserved
items_live-loop-preserved t c =
    let s = c.args.store.now in
    let yes : c.live_from.result ≡ Ok true = search rules in
    let goes : if_offset c.loop.next (type_live s c.args.found c.args.deep c.args.item c.loop.next) ≡ Ok true = sym c.live_from.ensures ∙ yes in
    ap (λ (j : ℕ). items_live (λ i. type_live s c.args.found c.args.deep c.args.item i) (c.args.count - (c.loop.counter + 1)) c.args.size (c.loop.next + j)) c.from-next-in-Ok-true.ensures
    ∙ (sym (items_on s c.args.found c.args.deep c.args.item c.args.size c.loop.next c.args.count c.loop.counter (omega arith) goes) ∙ c.loop.invariant)

pub live_within-returns-in-Int : goal.live_within-returns-in-Int
live_within-returns-in-Int t c =
    let s = c.args.store.now in
    let some : 0 < c.args.deep = omega arith in
    let k : type_kind s c.args.t ≡ Ok IntKind = kind_is c.type_kind.result (type_kind s c.args.t) Int c.type_kind.ensures (c.in_ok-type_kind.was ∙ ap Ok c.in-Int.is) in
    c.kind_live.ensures ∙ sym (live_by s c.args.found c.args.t c.args.at c.args.deep (Ok IntKind) some k)

pub live_within-returns-in-Unsigned : goal.live_within-returns-in-Unsigned
live_within-returns-in-Unsigned t c =
    let s = c.args.store.now in
    let some : 0 < c.args.deep = omega arith in
    let k : type_kind s c.args.t ≡ Ok UnsignedKind = kind_is c.type_kind.result (type_kind s c.args.t) Unsigned c.type_kind.ensures (c.in_ok-type_kind.was ∙ ap Ok c.in-Unsigned.is) in
    c.kind_live-in-Unsigned.ensures ∙ sym (live_by s c.args.found c.args.t c.args.at c.args.deep (Ok UnsignedKind) some k)

pub live_within-returns-in-Char : goal.live_within-returns-in-Char
live_within-returns-in-Char t c =
    let s = c.args.store.now in
    let some : 0 < c.args.deep = omega arith in
    let k : type_kind s c.args.t ≡ Ok CharKind = kind_is c.type_kind.result (type_kind s c.args.t) Char c.type_kind.ensures (c.in_ok-type_kind.was ∙ ap Ok c.in-Char.is) in
    c.kind_live-in-Char.ensures ∙ sym (live_by s c.args.found c.args.t c.args.at c.args.deep (Ok CharKind) some k)

pub live_within-returns-in-Pointer : goal.live_within-returns-in-Pointer
live_within-returns-in-Pointer t c =
    let s = c.args.store.now in
    let some : 0 < c.args.deep = omega arith in
    let k : type_kind s c.args.t ≡ Ok PointerKind = kind_is c.type_kind.result (type_kind s c.args.t) Pointer c.type_kind.ensures (c.in_ok-type_kind.was ∙ ap Ok c.in-Pointer.is) in
    c.kind_live-in-Pointer.ensures ∙ sym (live_by s c.args.found c.args.t c.args.at c.args.deep (Ok PointerKind) some k)

pub live_within-returns-in_ok-count-in-Array : goal.live_within-returns-in_ok-count-in-Array
live_within-returns-in_ok-count-in-Array t c =
    let s = c.args.store.now in
    let item = c.in_ok-item-in-Array.item in
    let some : 0 < c.args.deep = omega arith in
    let k : type_kind s c.args.t ≡ Ok ArrayKind = kind_is c.type_kind.result (type_kind s c.args.t) Array c.type_kind.ensures (c.in_ok-type_kind.was ∙ ap Ok c.in-Array.is) in
    let d : dict_at s c.args.t (codes "to") ≡ Ok item = sym c.dict_at.ensures ∙ c.in_ok-item-in-Array.was in
    let e : number_at s item (codes "size") ≡ Ok c.in_ok-size-in-Array.size = sym c.number_at.ensures ∙ c.in_ok-size-in-Array.was in
    let f : number_at s c.args.t (codes "count") ≡ Ok c.in_ok-count-in-Array.count = sym c.number_at-in-Array.ensures ∙ c.in_ok-count-in-Array.was in
    c.items_live.ensures ∙ sym (live_items s c.args.found c.args.t c.args.at c.args.deep some item c.in_ok-size-in-Array.size c.in_ok-count-in-Array.count k d e f)

pub live_within-returns-in_ok-members-in-Struct : goal.live_within-returns-in_ok-members-in-Struct
live_within-returns-in_ok-members-in-Struct t c =
    let s = c.args.store.now in
    let xs = c.in_ok-members-in-Struct.members.now in
    let some : 0 < c.args.deep = omega arith in
    let k : type_kind s c.args.t ≡ Ok StructKind = kind_is c.type_kind.result (type_kind s c.args.t) Struct c.type_kind.ensures (c.in_ok-type_kind.was ∙ ap Ok c.in-Struct.is) in
    let d : items_at s c.args.t (codes "members") ≡ Ok xs = seen_is (λ (items : Bor (List PsObj)). items.now) c.items_at.result (items_at s c.args.t (codes "members")) c.in_ok-members-in-Struct.members c.items_at.ensures c.in_ok-members-in-Struct.was in
    c.members_live.ensures ∙ sym (live_members s c.args.found c.args.t c.args.at c.args.deep some xs k d)
