-- Each expression's pieces leave its value.
use Rattle.std.proofs.Common.{◌≡◌, refl, sym, ap, subst, ◌∙◌, ℕ, ◌+◌, ◌^◌, ◌<◌, ◌≤◌, nat_lt, true, false, Bool, if◌then◌else◌, cond, Option, Some, None, Result, Ok, Err, List, [], ◌∷◌, length, codes, pos, nat_eq, ◌%◌, lt-ltb, le-leb, arith, slice_get}
use Rattle.std.specs.Prelude.{nat_le}
use Rattle.machine_state.specs.Regions.{read_of}
use Rattle.machine_state.specs.Sound.{IsMemory}
use Rattle.machine_state.proofs.SoundMemory.{read_word}
use Rattle.ldb_words.specs.Word.{signed}
use Rattle.ldb_words.specs.declared.kinds.Kind.{Kind}
use Rattle.ldb_words.specs.declared.kinds.Kind.TheVariants.{Word as WordKind, Address}
use Rattle.ldb_words.specs.declared.event.Outside.{Outside}
use Rattle.c_tree.specs.declared.types.CType.{CType}
use Rattle.c_tree.specs.declared.types.CType.TheVariants as ctype
use Rattle.c_tree.specs.declared.types.StructDef.{StructDef}
use Rattle.c_tree.specs.declared.typed.Head.{Head}
use Rattle.c_tree.specs.declared.typed.Typed.{Typed}
use Rattle.c_tree.specs.declared.typed.Typed.TheVariants.{Address', Arrow', Dot', Follow', Index', SizeOf', SizeOfType, Constant}
use Rattle.c_tree.specs.declared.typed.BinaryOp.TheVariants.{Add}
use Rattle.c_tree.specs.declared.types.Member.{Member}
use Rattle.c_source.specs.Source as source
use Rattle.c_source.specs.Source.{struct_number, target_number}
use Rattle.c_tree.specs.Types.{type_of, target_of, is_array, kind_of}
use Rattle.c_tree.specs.Layout.{size_of, members_of}
use Rattle.c_judge.specs.declared.symbol.Symbol.{Symbol}
use Rattle.ps_store.specs.declared.object.PsObj.{PsObj}
use Rattle.ps_store.specs.declared.object.PsObj.TheVariants.{Array}
use Rattle.ps_store.specs.declared.object.ArrayId.{ArrayId}
use Rattle.ps_store.specs.declared.object.DictId.{DictId}
use Rattle.ps_store.specs.StoreState.{StoreState}
use Rattle.ps_store.specs.Store.{elements_of}
use Rattle.ps_step.specs.declared.fault.PsError.TheVariants.{RangeCheck}
use Rattle.ps_step.specs.declared.fault.PsFault.TheVariants.{Spent}
use Rattle.ps_step.specs.declared.item.Item.{Item}
use Rattle.ps_step.specs.declared.item.Item.TheVariants.{Object}
use Rattle.ps_step.specs.declared.machine.PsCore.{PsCore}
use Rattle.ps_step.specs.Item.{under_stopped}
use Rattle.ps_step.specs.Results.{at}
use Rattle.ps_step.specs.State.{Made}
use Rattle.ps_step.specs.Executing.{alone}
use Rattle.ps_run.specs.Step.{settled}
use Rattle.ps_run.specs.Runs.{Answer, Runs}
use Rattle.ps_text.specs.Code.{Code, Stop, Num, Word, Lit}
use Rattle.ps_text.specs.Grown.{HasArray}
use Rattle.ps_text.specs.Spells.{Spells}
use Rattle.ps_terms.specs.Machine.{entered}
use Rattle.ps_terms.specs.Stands.{Frames, bottom, core}
use Rattle.ps_terms.proofs.Sound.{Enters, enters}
use Rattle.ps_words.specs.Operators.{integer}
use Rattle.ps_emit.specs.Terms.{◌⋯◌}
use Rattle.ps_places.specs.Places.{place}
use Rattle.frame_bytes.specs.declared.frame.Place.{Place}
use Rattle.frame_bytes.specs.declared.frame.Space.TheVariants.{Memory}
use Rattle.frame_bytes.specs.Bytes.{Bytes, fetched, fetched_at, or_none, span_of_word, word_address, number_at}
use Rattle.dialect_model.specs.Dial.{Dial}
use Rattle.dialect_model.specs.Operating.{Operates}
use Rattle.dialect_model.specs.TableUse.{TableUse, Trouble, Kind as Raised, gives, ◌>>=◌}
use Rattle.c_bytes.specs.Lvalues.{Scene, Cause, Lvalue, Means, load, moved, member_at, bytes_with, Pointed as Led, address_of as lvalue_address}
use Rattle.c_bytes.specs.Operators.{converted, combined}
use Rattle.c_bytes.specs.Evaluation.{value_of, place_of}
use Rattle.expr_serve.specs.declared.emit.Standing.{Standing}
use Rattle.expr_serve.specs.declared.emit.Standing.TheVariants as standing
use Rattle.expr_serve.specs.Types.{bytes_of}
use Rattle.expr_serve.specs.Codes.{value_code, place_code, standing_of, address_of, further as further_pieces, place_further, offset_of, offset_behind, fetched as fetched_code, value_at}
use Rattle.serving_laws.specs.Plain.{RoomFor}
use Rattle.serving_laws.specs.Left.{AreOperators}
use Rattle.serving_laws.specs.Named.{IsScalar, Stands, by_name as at_name, in_struct, in_parens as place_in_parens, IsRead, scalar, array, address, dial_in, HasSpaces, dictionaries_in, use_in, ComesTo}
use Rattle.serving_laws.specs.Evaluated.{IsSettled, IsOffset, OnPointers, IsEvaluated, constant, size, size_of_type, by_name, in_parens, cast, on_one, on_two, in_turn, one_of, either, both, pointed_array, pointed_address, pointed_scalar, on_pointers, IsPointed, followed, item, member, member_there, followed_in_parens, Evaluates, evaluates, ends, spends, AreEvaluated}
use Rattle.serving_laws.proofs.Small.{byte_small}
use Rattle.serving_laws.proofs.Stepping.{at_bottom, next_reaches}
use Rattle.serving_laws.proofs.Values.{follows_assoc, follows_stop}
use Rattle.serving_laws.proofs.Reading.{IsFetched, scalars_fetched, IsHeld, in_memory, in_registers, small, all_held, stands_named, value_code_is, lvalue_reaches, fetch_reaches, address_reaches, scalar_means, unheld_means, array_means, address_means}
use Rattle.serving_laws.proofs.Taking.{Takes, given, after, stops}
use Rattle.serving_laws.proofs.Evaluating.{Comes, Roomy, Reached, Behind, Breaks, At, comma_comes, cast_comes, one_comes, taken_come, operands_come, two_come, choice_comes, or_comes, and_comes, number_is_left}
use Rattle.serving_laws.proofs.Moving.{further_reaches}
use Rattle.serving_laws.proofs.Pointers.{pointers_come, scalar_reaches}

-- ---- room

abbrev Room : ℕ → ℕ → Type 0
Room o i = (o + 5 ≤ 100000) × (i + 3 ≤ 1000)

stands_room : (sc : Scene) (s : StoreState) (names : List Symbol) (e : Typed) (t : CType) (p : Place) → Stands sc s names e t p → (o i : ℕ) → RoomFor e o i → Room o i
stands_room sc s names _ _ _ (at_name h n p x) o i r = r
stands_room sc s names _ _ _ (in_struct h b a t k m row p st is get low) o i r = stands_room sc s names a t p st o i r
stands_room sc s names _ _ _ (place_in_parens h b a t p st) o i r = stands_room sc s names a t p st o i r

read_room : (sc : Scene) (s : StoreState) (names : List Symbol) (e : Typed) → IsRead sc s names e → (o i : ℕ) → RoomFor e o i → Room o i
read_room sc s names _ (scalar e t p st is) o i r = stands_room sc s names e t p st o i r
read_room sc s names _ (array e t p st is) o i r = stands_room sc s names e t p st o i r
read_room sc s names _ (address h b e t p st) o i r = stands_room sc s names e t p st o i r

mutual
  pub room : (sc : Scene) (s : StoreState) (names : List Symbol) (e : Typed) → IsEvaluated sc s names e → (o i : ℕ) → RoomFor e o i → Room o i
  room sc s names _ (constant h n low) o i r = r
  room sc s names _ (size h p a low) o i r = r
  room sc s names _ (size_of_type h t low) o i r = r
  room sc s names _ (by_name e is) o i r = read_room sc s names e is o i r
  room sc s names _ (in_parens h p a is) o i r = room sc s names a is o i r
  room sc s names _ (cast h p a is) o i r = room sc s names a is o i r
  room sc s names _ (on_one h op p a is) o i r = room sc s names a is o i r
  room sc s names _ (on_two h p a op q b taken is is') o i r = room sc s names a is o i r.0
  room sc s names _ (in_turn h p a q b is is') o i r = room sc s names a is o i r.0
  room sc s names _ (one_of h p c q a r' b is is' is'') o i r = room sc s names c is o i r.0
  room sc s names _ (either h p a q b is is') o i r = room sc s names a is o i r.0
  room sc s names _ (both h p a q b is is') o i r = room sc s names a is o i r.0
  room sc s names _ (pointed_array e t is at_array) o i r = pointed_room sc s names e t is o i r
  room sc s names _ (pointed_address h p e t is) o i r = pointed_room sc s names e t is o i r
  room sc s names _ (pointed_scalar e t is at_scalar settled) o i r = pointed_room sc s names e t is o i r
  room sc s names _ (on_pointers h p a op q b moves settled is is') o i r = room sc s names a is o i r.0

  pointed_room : (sc : Scene) (s : StoreState) (names : List Symbol) (e : Typed) (t : CType) → IsPointed sc s names e t → (o i : ℕ) → RoomFor e o i → Room o i
  pointed_room sc s names _ _ (followed h p a is) o i r = room sc s names a is o i r
  pointed_room sc s names _ _ (item h p a q b moves settled is is') o i r = room sc s names a is o i r.0
  pointed_room sc s names _ _ (member h p a k m row to get low settled is) o i r = room sc s names a is o i r
  pointed_room sc s names _ _ (member_there h p a t k m row is get low settled at) o i r = pointed_room sc s names a t at o i r
  pointed_room sc s names _ _ (followed_in_parens h p a t is) o i r = pointed_room sc s names a t is o i r

-- ---- numbers

size_code : (defs : List StructDef) (k : CType) → size_of defs k ≤ 1048576 → pos (bytes_of defs k) ≡ signed (size_of defs k)
size_code defs k h =
    let low : nat_le (size_of defs k) 1048576 ≡ true = le-leb _ _ h in
    let half : nat_lt (size_of defs k) 2147483648 ≡ true = lt-ltb _ _ (omega (arith, h)) in
    rw (low, half) refl

read_small : (r : Result ℕ Outside) (v : ℕ) → or_none r ≡ Some v → r ≡ Ok v
read_small (Ok n) v e = cc
read_small (Err x) v e = cc

-- a scalar that memory holds is a word, once it is converted
module _ (sc : Scene) (cell : ℕ) (memory : IsMemory sc.target.regions) where
  abbrev bytes : Bytes
  bytes = bytes_with sc cell

  word_there : (at v : ℕ) → number_at bytes (Some (record { from = at; width = 4 })) ≡ Some v → v < 2 ^ 32
  word_there at v e = read_word sc.target.order sc.target.regions at v memory (read_small (read_of sc.target.order sc.target.regions at 4) v e)

  aligned_there : (b : Bool) (at v : ℕ) → number_at bytes (if b then Some (record { from = at; width = 4 }) else None) ≡ Some v → v < 2 ^ 32
  aligned_there true at v e = word_there at v e
  aligned_there false at v e = cc

  word_in_register : (at : Option ℕ) (v : ℕ) → number_at bytes (span_of_word sc.target.order WordKind at) ≡ Some v → v < 2 ^ 32
  word_in_register None v e = aligned_there false 0 v e
  word_in_register (Some at) v e = aligned_there (nat_eq (at % 4) 0) at v e

  pub word_small : (p : Place) → IsHeld p → (v : ℕ) → fetched_at bytes p WordKind ≡ Some v → v < 2 ^ 32
  unfolding fetched
  word_small _ (in_memory n h) v e = word_there n v e
  word_small _ (in_registers n h) v e = word_in_register (word_address bytes.registers n) v e

  pub address_small : (p : Place) → IsHeld p → (v : ℕ) → fetched_at bytes p Address ≡ Some v → v < 2 ^ 32
  unfolding fetched
  address_small _ (in_memory n h) v e = word_there n v e
  address_small _ (in_registers n h) v e = in_register (word_address bytes.registers n) e
    where
      in_register : (at : Option ℕ) → number_at bytes (span_of_word sc.target.order Address at) ≡ Some v → v < 2 ^ 32
      in_register None e = aligned_there false 0 v e
      in_register (Some at) e = aligned_there (nat_eq (at % 4) 0) at v e

  pub scalar_small : (t : CType) → IsScalar t → (f : IsFetched t) (p : Place) → IsHeld p → (v : ℕ) → fetched_at bytes p f.kind ≡ Some v → converted t v < 2 ^ 32
  scalar_small ctype.Char is f p at_p v e = byte_small v
  scalar_small ctype.Int is f p at_p v e = word_small p at_p v (ap (λ (k : Kind). fetched_at bytes p k) f.kind_is ∙ e)
  scalar_small ctype.Unsigned is f p at_p v e = word_small p at_p v (ap (λ (k : Kind). fetched_at bytes p k) f.kind_is ∙ e)
  scalar_small (ctype.Pointer' _ t) is f p at_p v e = address_small p at_p v (ap (λ (k : Kind). fetched_at bytes p k) f.kind_is ∙ e)
  scalar_small ctype.Void is f p at_p v e = absurd is
  scalar_small (ctype.Array' _ t n) is f p at_p v e = absurd is
  scalar_small (ctype.Struct n) is f p at_p v e = absurd is

-- ---- leaves and forms

module _ (sc : Scene) (s : StoreState) (cell : ℕ) (own : DictId) (names : List Symbol) (out : List ℕ) (raw : Bool) (spaces : HasSpaces s) (are : AreOperators s (dictionaries_in s own))
    (memory : IsMemory sc.target.regions) (Good : Answer → ℕ → Dial → PsCore → Type 0) (spent : (m : ℕ) (d' : Dial) (c' : PsCore) → Good (Err Spent) m d' c') where
  abbrev ds : List DictId
  ds = dictionaries_in s own

  abbrev t : TableUse
  t = use_in s cell own

  abbrev Come : Typed → Type 0
  Come e = Comes sc s cell own names out raw are Good spent e

  abbrev Reach : List PsObj → List Item → Type 0
  Reach o items = Reached sc s cell own names out raw are Good spent o items

  abbrev Then : List Item → Code → List PsObj → Type 0
  Then under rest o = Behind sc s cell own names out raw are Good spent under rest o

  abbrev Starts : List Item → Code → List Item → Type 0
  Starts under k items = At sc s cell own names out raw are Good spent under k items

  takes : (e : Typed) (r : Result ℕ (Trouble Cause)) → ComesTo sc e t r → Takes t (value_of sc e) r
  takes e r c = (c.taken, c.comes)

  begun : (under : List Item) (e : Typed) (a b rest : Code) → value_code names sc.defs e ≡ (a ⋯ b) → (items : List Item) → Starts under (value_code names sc.defs e ⋯ rest) items → Starts under (a ⋯ (b ⋯ rest)) items
  begun under e a b rest is items f = subst (λ (k : Code). Starts under k items) (ap (λ (k : Code). k ⋯ rest) is ∙ follows_assoc a b rest) f

  read_comes : (e : Typed) → IsRead sc s names e → Come e
  read_comes _ (scalar e k p st is) rest under o items i none low r f go bad =
      let base = stands_room sc s names e k p st (length o) i r in
      let g = scalars_fetched k is in
      lvalue_reaches sc s ds cell out raw are Good spent under none (omega (arith, base.1, low)) names e k p st (Lit g.name (Word (codes "fetch") rest)) o items base.0
      (begun under e (place_code names sc.defs e) (Lit g.name (Word (codes "fetch") Stop)) rest (value_code_is names sc s e k p st ∙ ap (λ (c : Code). place_code names sc.defs e ⋯ c) (rw (g.plain, g.piece) refl)) items f)
      (λ after f'. fetch_reaches sc s ds cell out raw are Good spent under none (omega (arith, base.1, low)) spaces g.kind g.name g.named p (all_held sc s names e k p st) rest o after base.0 f'
      (λ v there. subst (Then under rest) (ap (λ (x : PsObj). x ∷ o) (sym (g.same v)))
      (go (converted k v) (scalar_small sc cell memory k is g p (all_held sc s names e k p st) v there) (takes e (Ok (converted k v)) (scalar_means sc s cell own names spaces are e k p st g v there))))
      (λ there. bad (Raised RangeCheck) RangeCheck refl (takes e (Err (Raised RangeCheck)) (unheld_means sc s cell own names spaces are e k p st g there))))
  read_comes _ (array e k p st is) rest under o items i none low r f go bad =
      let base = stands_room sc s names e k p st (length o) i r in
      lvalue_reaches sc s ds cell out raw are Good spent under none (omega (arith, base.1, low)) names e k p st (Word (codes "exch") (Word (codes "pop") rest)) o items base.0
      (begun under e (place_code names sc.defs e) (Word (codes "exch") (Word (codes "pop") Stop)) rest (value_code_is names sc s e k p st ∙ ap (λ (c : Code). place_code names sc.defs e ⋯ c) (rw is refl)) items f)
      (λ after f'. address_reaches sc s ds cell out raw are Good spent under none (omega (arith, base.1, low)) p rest o after f'
      (go p.at (small p (all_held sc s names e k p st)) (takes e (Ok p.at) (array_means sc s cell own names spaces are e k p st is))))
  read_comes _ (address h b e k p st) rest under o items i none low r f go bad =
      let base = stands_room sc s names e k p st (length o) i r in
      lvalue_reaches sc s ds cell out raw are Good spent under none (omega (arith, base.1, low)) names e k p st (Word (codes "exch") (Word (codes "pop") rest)) o items base.0
      (begun under (Address' h b e) (place_code names sc.defs e) (Word (codes "exch") (Word (codes "pop") Stop)) rest (ap (λ (z : Standing). place_code names sc.defs e ⋯ address_of z) (stands_named sc s names e k p st)) items f)
      (λ after f'. address_reaches sc s ds cell out raw are Good spent under none (omega (arith, base.1, low)) p rest o after f'
      (go p.at (small p (all_held sc s names e k p st)) (takes (Address' h b e) (Ok p.at) (address_means sc s cell own names spaces are h b e k p st))))

  -- ---- places behind pointers

  -- the address of the place is left
  abbrev Leads : Typed → Type 0
  Leads e = (rest : Code) (under : List Item) (o : List PsObj) (items : List Item) (i : ℕ) → under_stopped under ≡ None → length under ≤ i → RoomFor e (length o) i
      → Starts under (place_code names sc.defs e ⋯ rest) items → ((v : ℕ) → v < 2 ^ 32 → Takes t (place_of sc e) (Ok (Led v)) → Then under rest (integer v ∷ o))
      → Breaks sc s cell own names out raw are Good spent (place_of sc e) → Reach o items

  pointed_stands : (e : Typed) (k : CType) → IsPointed sc s names e k → standing_of e ≡ standing.Pointed
  pointed_stands _ _ (followed h p a is) = refl
  pointed_stands _ _ (item h p a q b moves settled is is') = refl
  pointed_stands _ _ (member h p a k m row to get low settled is) = refl
  pointed_stands _ _ (member_there h p a t k m row is get low settled at) = pointed_stands a t at
  pointed_stands _ _ (followed_in_parens h p a k is) = pointed_stands a k is

  pointed_code : (e : Typed) (k : CType) → IsPointed sc s names e k → value_code names sc.defs e ≡ (place_code names sc.defs e ⋯ value_at standing.Pointed k)
  pointed_code _ _ (followed h p a is) = refl
  pointed_code _ _ (item h p a q b moves settled is is') = refl
  pointed_code _ _ (member h p a k m row to get low settled is) = refl
  pointed_code _ _ (member_there h p a t k m row is get low settled at) = ap (λ (z : Standing). place_code names sc.defs (Dot' h p a m) ⋯ value_at z h.ctype) (pointed_stands a t at)
  pointed_code _ _ (followed_in_parens h p a k is) = pointed_code a k is

  -- what stands at a place behind a pointer
  abbrev there : CType → Lvalue → Means ℕ
  there k p = cond (is_array k) (gives (lvalue_address p)) (load sc (kind_of k) p >>= λ n. gives (converted k n))

  pointed_value : (e : Typed) (k : CType) → IsPointed sc s names e k → (p : Lvalue) (r : Result ℕ (Trouble Cause)) → Takes t (place_of sc e) (Ok p) → Takes t (there k p) r → Takes t (value_of sc e) r
  pointed_value _ _ (followed h q a is) p r g v = after t (place_of sc (Follow' h q a)) (there h.ctype) p r g v
  pointed_value _ _ (item h q a q' b moves settled is is') p r g v = after t (place_of sc (Index' h q a q' b)) (there h.ctype) p r g v
  pointed_value _ _ (member h q a k m row to get low settled is) p r g v = after t (place_of sc (Arrow' h q a m)) (there h.ctype) p r g v
  pointed_value _ _ (member_there h q a t' k m row is get low settled at) p r g v = after t (place_of sc (Dot' h q a m)) (there h.ctype) p r g v
  pointed_value _ _ (followed_in_parens h q a k is) p r g v = pointed_value a k is p r g v

  pointed_breaks : (e : Typed) (k : CType) → IsPointed sc s names e k → (x : Trouble Cause) → Takes t (place_of sc e) (Err x) → Takes t (value_of sc e) (Err x)
  pointed_breaks _ _ (followed h q a is) x g = stops t (place_of sc (Follow' h q a)) (there h.ctype) x g
  pointed_breaks _ _ (item h q a q' b moves settled is is') x g = stops t (place_of sc (Index' h q a q' b)) (there h.ctype) x g
  pointed_breaks _ _ (member h q a k m row to get low settled is) x g = stops t (place_of sc (Arrow' h q a m)) (there h.ctype) x g
  pointed_breaks _ _ (member_there h q a t' k m row is get low settled at) x g = stops t (place_of sc (Dot' h q a m)) (there h.ctype) x g
  pointed_breaks _ _ (followed_in_parens h q a k is) x g = pointed_breaks a k is x g

  array_comes : (e : Typed) (k : CType) → IsPointed sc s names e k → is_array k ≡ true → Leads e → Come e
  array_comes e k is at_array le rest under o items i none low r f go bad =
      le rest under o items i none low r
      (subst (λ (c : Code). Starts under (c ⋯ rest) items) (pointed_code e k is ∙ ap (λ (b : Bool). place_code names sc.defs e ⋯ (if b then Stop else fetched_code standing.Pointed k)) at_array ∙ follows_stop (place_code names sc.defs e)) f)
      (λ v hv g. go v hv (pointed_value e k is (Led v) (Ok v) g (subst (λ (b : Bool). Takes t (cond b (gives v) (load sc (kind_of k) (Led v) >>= λ n. gives (converted k n))) (Ok v)) (sym at_array) (given t v))))
      (λ x f e' g. bad x f e' (pointed_breaks e k is x g))

  taken_comes : (h : Head) (p : _) (e : Typed) (k : CType) → IsPointed sc s names e k → Leads e → Come (Address' h p e)
  taken_comes h p e k is le rest under o items i none low r f go bad =
      le rest under o items i none low r
      (subst (λ (c : Code). Starts under (c ⋯ rest) items) (ap (λ (z : Standing). place_code names sc.defs e ⋯ address_of z) (pointed_stands e k is) ∙ follows_stop (place_code names sc.defs e)) f)
      (λ v hv g. go v hv (after t (place_of sc e) (λ s. gives (lvalue_address s)) (Led v) (Ok v) g (given t v)))
      (λ x f e' g. bad x f e' (stops t (place_of sc e) (λ s. gives (lvalue_address s)) x g))

  followed_leads : (h : Head) (p : _) (a : Typed) → Come a → Leads (Follow' h p a)
  followed_leads h p a ca rest under o items i none low r f go bad =
      ca rest under o items i none low r f
      (λ v hv g. go v hv (after t (value_of sc a) (λ v. gives (Led v)) v (Ok (Led v)) g (given t (Led v))))
      (λ x f e g. bad x f e (stops t (value_of sc a) (λ v. gives (Led v)) x g))

  -- a scalar
  scalar_comes : (e : Typed) (k : CType) → IsPointed sc s names e k → IsScalar k → IsSettled sc s → Leads e → Come e
  scalar_comes e k is at_scalar settled le rest under o items i none low r f go bad =
      let base = pointed_room sc s names e k is (length o) i r in
      let g = scalars_fetched k at_scalar in
      le (Lit g.name (Word (codes "Leaf") (Lit g.name (Word (codes "fetch") rest)))) under o items i none low r
      (begun under e (place_code names sc.defs e) (Lit g.name (Word (codes "Leaf") (Lit g.name (Word (codes "fetch") Stop)))) rest
      (pointed_code e k is ∙ ap (λ (c : Code). place_code names sc.defs e ⋯ c) (rw (g.plain, g.piece) refl)) items f)
      (λ v hv gp after f'. scalar_reaches sc s cell own names out raw spaces settled are Good spent k g v rest under o after hv none (omega (arith, base.1, low)) base.0
      (λ n e'. scalar_small sc cell memory k at_scalar g (place Memory v) (in_memory v hv) n e') f'
      (λ n hn gn. go n hn (pointed_value e k is (Led v) (Ok n) gp (plainly k g v (Ok n) gn))) (λ x e' told gn. bad x e' told (pointed_value e k is (Led v) (Err x) gp (plainly k g v (Err x) gn))))
      (λ x e' told g. bad x e' told (pointed_breaks e k is x g))
    where
      plainly : (k : CType) (g : IsFetched k) (v : ℕ) (r : Result ℕ (Trouble Cause)) → Takes t (load sc (kind_of k) (Led v) >>= λ n. gives (converted k n)) r → Takes t (there k (Led v)) r
      plainly k g v r h = subst (λ (b : Bool). Takes t (cond b (gives v) (load sc (kind_of k) (Led v) >>= λ n. gives (converted k n))) r) (sym g.plain) h

  -- ---- members and items where a pointer leads

  -- the place so many bytes behind one
  abbrev moves_to : ℕ → ℕ → Means Lvalue
  moves_to n v = moved sc v (pos n) >>= λ q. gives (Led q)

  member_leads : (h : Head) (p : _) (a : Typed) (k m : ℕ) (row : Member) → target_of (type_of a) ≡ Some (ctype.Struct k) → slice_get (members_of sc.defs k) m ≡ Some row → IsOffset sc s row.at → IsSettled sc s
      → Roomy sc s cell own names out raw are Good spent a → Come a → Leads (Arrow' h p a m)
  member_leads h p a k m row to get low' settled ra ca rest under o items i none low r f go bad =
      let base = ra (length o) i r in
      ca (further_pieces row.at ⋯ rest) under o items i none low r
      (subst (λ (c : Code). Starts under c items) (ap (λ (n : ℕ). (value_code names sc.defs a ⋯ further_pieces n) ⋯ rest) offset ∙ follows_assoc (value_code names sc.defs a) (further_pieces row.at) rest) f)
      (λ v hv ga after' f'. further_reaches sc s cell own names out raw settled are Good spent v row.at rest under o after' hv low' none base.0 f'
      (λ w hw gw. go w hw (behind v (Ok (Led w)) ga (after t (moved sc v (pos row.at)) (λ q. gives (Led q)) w (Ok (Led w)) gw (given t (Led w)))))
      (λ x e told gw. bad x e told (behind v (Err x) ga (stops t (moved sc v (pos row.at)) (λ q. gives (Led q)) x gw))))
      (λ x e told ga. bad x e told (stops t (value_of sc a) (λ v. moves_to (source.offset_of sc.defs (target_number (target_of (type_of a))) m) v) x ga))
    where
      offset : offset_behind sc.defs (target_of (type_of a)) m ≡ row.at
      offset = rw (to, get) refl

      means_offset : source.offset_of sc.defs (target_number (target_of (type_of a))) m ≡ row.at
      means_offset = rw (to, get) refl

      behind : (v : ℕ) (r : Result Lvalue (Trouble Cause)) → Takes t (value_of sc a) (Ok v) → Takes t (moves_to row.at v) r → Takes t (place_of sc (Arrow' h p a m)) r
      behind v r ga g =
          after t (value_of sc a) (λ v. moves_to (source.offset_of sc.defs (target_number (target_of (type_of a))) m) v) v r ga
          (subst (λ (n : ℕ). Takes t (moves_to n v) r) (sym means_offset) g)

  member_there_leads : (h : Head) (p : _) (a : Typed) (t' : CType) (k m : ℕ) (row : Member) → type_of a ≡ ctype.Struct k → slice_get (members_of sc.defs k) m ≡ Some row → IsOffset sc s row.at → IsSettled sc s
      → IsPointed sc s names a t' → Leads a → Leads (Dot' h p a m)
  member_there_leads h p a t' k m row is get low' settled at la rest under o items i none low r f go bad =
      let base = pointed_room sc s names a t' at (length o) i r in
      la (further_pieces row.at ⋯ rest) under o items i none low r
      (subst (λ (c : Code). Starts under c items) (ap (λ (z : Standing). (place_code names sc.defs a ⋯ place_further z (offset_of sc.defs (type_of a) m)) ⋯ rest) (pointed_stands a t' at)
      ∙ ap (λ (n : ℕ). (place_code names sc.defs a ⋯ further_pieces n) ⋯ rest) offset ∙ follows_assoc (place_code names sc.defs a) (further_pieces row.at) rest) f)
      (λ v hv ga after' f'. further_reaches sc s cell own names out raw settled are Good spent v row.at rest under o after' hv low' none base.0 f'
      (λ w hw gw. go w hw (behind v (Ok (Led w)) ga (after t (moved sc v (pos row.at)) (λ q. gives (Led q)) w (Ok (Led w)) gw (given t (Led w)))))
      (λ x e told gw. bad x e told (behind v (Err x) ga (stops t (moved sc v (pos row.at)) (λ q. gives (Led q)) x gw))))
      (λ x e told ga. bad x e told (stops t (place_of sc a) (λ z. member_at sc (source.offset_of sc.defs (struct_number (type_of a)) m) z) x ga))
    where
      offset : offset_of sc.defs (type_of a) m ≡ row.at
      offset = rw (is, get) refl

      means_offset : source.offset_of sc.defs (struct_number (type_of a)) m ≡ row.at
      means_offset = rw (is, get) refl

      behind : (v : ℕ) (r : Result Lvalue (Trouble Cause)) → Takes t (place_of sc a) (Ok (Led v)) → Takes t (moves_to row.at v) r → Takes t (place_of sc (Dot' h p a m)) r
      behind v r ga g =
          after t (place_of sc a) (λ z. member_at sc (source.offset_of sc.defs (struct_number (type_of a)) m) z) (Led v) r ga
          (subst (λ (n : ℕ). Takes t (moves_to n v) r) (sym means_offset) g)

  item_leads : (h : Head) (p : _) (a : Typed) (q : _) (b : Typed) → OnPointers sc s Add (type_of a) (type_of b) → IsSettled sc s → Roomy sc s cell own names out raw are Good spent a → Come a → Come b → Leads (Index' h p a q b)
  item_leads h p a q b moves settled ra ca cb rest under o items i none low r f go bad =
      operands_come sc s cell own names out raw are Good spent Add a b (λ x y. combined sc Add (type_of a) (type_of b) x y >>= λ p. gives (Led p)) Led
      (λ x y v g. after t (combined sc Add (type_of a) (type_of b) x y) (λ p. gives (Led p)) v (Ok (Led v)) g (given t (Led v)))
      (λ x y z g. stops t (combined sc Add (type_of a) (type_of b) x y) (λ p. gives (Led p)) z g)
      (pointers_come sc s cell own names out raw spaces settled are Good spent Add (type_of a) (type_of b) moves) ra ca cb rest under o items i none low r f go bad

  -- ---- all

  roomy : (e : Typed) → IsEvaluated sc s names e → Roomy sc s cell own names out raw are Good spent e
  roomy e is o i r = room sc s names e is o i r

  mutual
    pub comes : (e : Typed) → IsEvaluated sc s names e → Come e
    comes _ (constant h n low) = number_is_left sc s cell own names out raw are Good spent (Constant h n) n low refl (given t n) (roomy (Constant h n) (constant h n low))
    comes _ (size h p a low) =
        number_is_left sc s cell own names out raw are Good spent (SizeOf' h p a) (size_of sc.defs (type_of a)) (omega (arith, low)) (ap (λ z. Num z Stop) (size_code sc.defs (type_of a) low)) (given t (size_of sc.defs (type_of a)))
        (roomy (SizeOf' h p a) (size h p a low))
    comes _ (size_of_type h k low) =
        number_is_left sc s cell own names out raw are Good spent (SizeOfType h k) (size_of sc.defs k) (omega (arith, low)) (ap (λ z. Num z Stop) (size_code sc.defs k low)) (given t (size_of sc.defs k))
        (roomy (SizeOfType h k) (size_of_type h k low))
    comes _ (by_name e is) = read_comes e is
    comes _ (in_parens h p a is) = λ rest under o items i none low r f go bad. comes a is rest under o items i none low r f go bad
    comes _ (cast h p a is) = cast_comes sc s cell own names out raw are Good spent h p a (roomy a is) (comes a is)
    comes _ (on_one h op p a is) = one_comes sc s cell own names out raw are Good spent h op p a (roomy a is) (comes a is)
    comes _ (on_two h p a op q b taken is is') =
        two_come sc s cell own names out raw are Good spent h p a op q b (taken_come sc s cell own names out raw are Good spent op (type_of a) (type_of b) taken) (roomy a is) (comes a is) (comes b is')
    comes _ (on_pointers h p a op q b moves settled is is') =
        two_come sc s cell own names out raw are Good spent h p a op q b (pointers_come sc s cell own names out raw spaces settled are Good spent op (type_of a) (type_of b) moves) (roomy a is) (comes a is) (comes b is')
    comes _ (in_turn h p a q b is is') = comma_comes sc s cell own names out raw are Good spent h p a q b (comes a is) (comes b is')
    comes _ (one_of h p c q a r b is is' is'') =
        choice_comes sc s cell own names out raw are Good spent h p c q a r b (roomy c is) (roomy a is') (roomy b is'') (comes c is) (comes a is') (comes b is'')
    comes _ (either h p a q b is is') = or_comes sc s cell own names out raw are Good spent h p a q b (roomy a is) (roomy b is') (comes a is) (comes b is')
    comes _ (both h p a q b is is') = and_comes sc s cell own names out raw are Good spent h p a q b (roomy a is) (roomy b is') (comes a is) (comes b is')
    comes _ (pointed_array e k is at_array) = array_comes e k is at_array (leads e k is)
    comes _ (pointed_address h p e k is) = taken_comes h p e k is (leads e k is)
    comes _ (pointed_scalar e k is at_scalar settled) = scalar_comes e k is at_scalar settled (leads e k is)

    leads : (e : Typed) (k : CType) → IsPointed sc s names e k → Leads e
    leads _ _ (followed h p a is) = followed_leads h p a (comes a is)
    leads _ _ (item h p a q b moves settled is is') = item_leads h p a q b moves settled (roomy a is) (comes a is) (comes b is')
    leads _ _ (member h p a k m row to get low settled is) = member_leads h p a k m row to get low settled (roomy a is) (comes a is)
    leads _ _ (member_there h p a k' k m row is get low settled at) = member_there_leads h p a k' k m row is get low settled at (leads a k' at)
    leads _ _ (followed_in_parens h p a k is) = λ rest under o items i none low r f go bad. leads a k is rest under o items i none low r f go bad

-- the pieces alone, in a procedure that is executed
module _ (sc : Scene) (s : StoreState) (cell : ℕ) (own : DictId) (names : List Symbol) (e : Typed) (o : List PsObj) (items : List Item) (a : ArrayId) (out : List ℕ) (raw : Bool) where
  abbrev dicts : List DictId
  dicts = dictionaries_in s own

  abbrev d : Dial
  d = dial_in sc cell out raw

  abbrev Good : Answer → ℕ → Dial → PsCore → Type 0
  Good = Evaluates sc e (use_in s cell own) s dicts o items d

  pub values_evaluated : HasSpaces s → AreOperators s (dictionaries_in s own) → IsMemory sc.target.regions → IsEvaluated sc s names e → RoomFor e (length o) (length items) → under_stopped items ≡ None
      → HasArray s a → Spells s (elements_of s a) (value_code names sc.defs e)
      → AreEvaluated sc e s cell own o items (dial_in sc cell out raw) (core s (dictionaries_in s own) o (Object (Array a true) ∷ items))
  values_evaluated spaces are memory is roomy none has spells =
      let base = room sc s names e is (length o) (length items) roomy in
      let inside : Enters s s dicts items items a (entered (value_code names sc.defs e) []) = enters s s dicts items items a [] bottom (omega (arith, base.1)) has refl (value_code names sc.defs e) spells in
      next_reaches s dicts are d Good (λ m d' c'. spends m d' c') o o (Object (Array a true) ∷ items) inside.after
      (ap (λ (r : Made). settled (alone (at (core s dicts o items) r))) (inside.calls o))
      (comes sc s cell own names out raw spaces are memory Good (λ m d' c'. spends m d' c') e is Stop items o inside.after (length items) none (omega arith) roomy
      (subst (λ k. Frames s items inside.after (entered k [])) (sym (follows_stop (value_code names sc.defs e))) inside.frames)
      (λ v small g after' at' n r m d' c' other run.
      evaluates v n r m d' c' small (record { taken = g.0; comes = g.1 }) (subst (λ x. Runs Operates n d (core s dicts (integer v ∷ o) x) r m d' c') (at_bottom s items after' at') run))
      (λ x f e' g m operands. ends x f m operands e' (record { taken = g.0; comes = g.1 })))
