-- The pieces of a name of a scalar leave what stands at its place.
use Rattle.std.proofs.Common.{◌≡◌, ◌≢◌, refl, sym, ap, subst, ◌∙◌, ℕ, suc, ◌+◌, ◌<◌, ◌≤◌, ◌^◌, ◌%◌, nat_le, nat_lt, true, false, Bool, if◌then◌else◌, cond, inl, Option, Some, None, Result, Ok, Err, List, [], ◌∷◌, length, codes, slice_get, lt-ltb, le-leb, arith}
use Rattle.std.specs.Int.{w8, w32, cast_signed}
use Rattle.std.proofs.Math.Facts.{Fits-of_lt, sfits_to_z, sfits_widen}
use Rattle.std.proofs.lemmas.Int.{to_z-of_z}
use Rattle.ldb_words.specs.Word.{signed, sum_of}
use Rattle.ldb_words.specs.declared.kinds.Undef.{Undef}
use Rattle.ldb_words.specs.declared.kinds.Kind.{Kind}
use Rattle.ldb_words.specs.declared.kinds.Kind.TheVariants.{Byte, Word as WordKind, Address}
use Rattle.c_tree.specs.declared.types.CType.{CType}
use Rattle.c_tree.specs.declared.types.CType.TheVariants as ctype
use Rattle.c_tree.specs.declared.typed.Head.{Head}
use Rattle.c_tree.specs.declared.types.Member.{Member}
use Rattle.c_tree.specs.declared.typed.Typed.{Typed}
use Rattle.c_tree.specs.declared.typed.Typed.TheVariants.{Address', Dot'}
use Rattle.c_tree.specs.Types.{type_of, kind_of, is_array}
use Rattle.c_tree.specs.Layout.{members_of}
use Rattle.c_operators.specs.Bits.{low_byte}
use Rattle.c_source.specs.Source as source
use Rattle.c_source.specs.Source.{struct_number}
use Rattle.c_judge.specs.declared.symbol.Symbol.{Symbol}
use Rattle.ps_store.specs.declared.object.PsObj.{PsObj}
use Rattle.ps_store.specs.declared.object.PsObj.TheVariants.{Int, Name, Array}
use Rattle.ps_store.specs.declared.object.ArrayId.{ArrayId}
use Rattle.ps_store.specs.declared.object.DictId.{DictId}
use Rattle.ps_store.specs.declared.object.StringId.{StringId}
use Rattle.ps_store.specs.StoreState.{StoreState}
use Rattle.ps_store.specs.Store.{elements_of, bytes_of}
use Rattle.ps_step.specs.declared.fault.PsError.{PsError}
use Rattle.ps_step.specs.declared.fault.PsError.TheVariants.{RangeCheck}
use Rattle.ps_step.specs.declared.fault.PsFault.TheVariants.{Spent, NoMemory}
use Rattle.ps_step.specs.declared.item.Item.{Item}
use Rattle.ps_step.specs.declared.item.Item.TheVariants.{Object}
use Rattle.ps_step.specs.declared.machine.PsCore.{PsCore}
use Rattle.ps_step.specs.Item.{under_stopped}
use Rattle.ps_step.specs.Results.{◌>>=◌, at}
use Rattle.ps_step.specs.State.{Made}
use Rattle.ps_step.specs.Executing.{alone}
use Rattle.ps_run.specs.Step.{settled}
use Rattle.ps_run.specs.Runs.{Answer, Runs, ended}
use Rattle.ps_text.specs.Code.{Code, Stop, Num, Word, Lit}
use Rattle.ps_text.specs.Grown.{HasArray}
use Rattle.ps_text.specs.Spells.{Spells}
use Rattle.ps_terms.specs.Machine.{entered}
use Rattle.ps_terms.specs.Stands.{Frames, bottom, core}
use Rattle.ps_terms.proofs.Sound.{push_next, frames_length, Enters, enters}
use Rattle.ps_words.specs.declared.words.WordOperator.TheVariants as word_op
use Rattle.ps_words.specs.Words.{of_two}
use Rattle.ps_words.specs.Operators.{integer}
use Rattle.ps_places.specs.Places.{kind_named, space_name, place}
use Rattle.ps_places.specs.Accesses.{value_of as held_of, or_outside}
use Rattle.ps_emit.specs.Terms.{◌⋯◌, word}
use Rattle.frame_bytes.specs.declared.frame.Space.TheVariants.{Memory, Registers}
use Rattle.frame_bytes.specs.declared.frame.Place.{Place}
use Rattle.frame_bytes.specs.Bytes.{Bytes, fetched, fetched_at}
use Rattle.table_model.specs.Reading.{entry}
use Rattle.dialect_model.specs.Dial.{Dial, bytes_in, with_bytes}
use Rattle.dialect_model.specs.Acting.{with_told}
use Rattle.dialect_model.specs.Operators.{act}
use Rattle.dialect_model.specs.Operating.{Operates}
use Rattle.dialect_model.specs.TableUse.{TableUse, Trouble, Kind as Raised, told, gives, ◌>>=◌ as ◌then◌}
use Rattle.dialect_model.specs.Running.{Run, RunsToEnd, core_in, procedure, beginning}
use Rattle.dialect_model.specs.Near.{looking}
use Rattle.c_bytes.specs.Lvalues.{Cause, Means, Scene, Named, dial_of, bytes_with, place_in, only_place, lvalue_left, place_of_symbol, where_is, or_range, load, member_at}
use Rattle.c_bytes.specs.Operators.{converted}
use Rattle.c_bytes.specs.Evaluation.{value_of, place_of}
use Rattle.expr_serve.specs.declared.emit.Standing.{Standing}
use Rattle.expr_serve.specs.declared.emit.Standing.TheVariants as standing
use Rattle.expr_serve.specs.Operators as pieces
use Rattle.expr_serve.specs.Codes.{standing_of, address_of, place_of_name, place_further, value_at, offset_of, value_code, place_code}
use Rattle.serving_laws.specs.Left.{AreOperators}
use Rattle.serving_laws.specs.Named.{IsScalar, Stands, by_name, in_struct, in_parens, IsRead, scalar, array, address, dial_in, HasSpaces, Leads, at_anchor, in_frame, in_frame_as_register, at_address, in_register, IsNamed, dictionaries_in, use_in, with_left, ComesTo, AreRead, Reads, reads, outside, spends}
use Rattle.serving_laws.proofs.Names.{where_is as where_named, fetch_is, uadd_is, exch_is, pop_is}
use Rattle.serving_laws.proofs.Numbers.{back, done_same}
use Rattle.serving_laws.proofs.Stepping.{done, Reaches, Fails, acted_reaches, Then, makes, meets_word, at_bottom, next_reaches, number_reaches, manual_reaches, dialect_reaches, entered_few}
use Rattle.serving_laws.proofs.Operating.{left_same, failed_same, left_failed, two_reaches, uadd_acts}
use Rattle.serving_laws.proofs.Values.{follows_assoc}
use Rattle.serving_laws.proofs.Places.{placed, Path, here, goes, acts, To, forward, MeetsName, meets_name, place_to}

-- ---- scalars

-- how the scalar of a type is fetched: its kind, and the name of this in a text
pub record IsFetched (t : CType) : Type 0 where
  pub kind : Kind
  pub name : List ℕ
  pub named : kind_named name ≡ Ok kind
  pub kind_is : kind_of t ≡ kind
  pub piece : pieces.kind t ≡ Lit name Stop
  pub plain : is_array t ≡ false
  pub same : (v : ℕ) → held_of kind v ≡ integer (converted t v)

byte_back : (v : ℕ) → held_of Byte v ≡ integer (low_byte v)
byte_back v =
    let low : v % 2 ^ 8 < 2 ^ 8 = omega arith in
    ap Int (sym (to_z-of_z w32 (cast_signed w8 (v % 2 ^ 8)) (sfits_widen {w = w8} {w' = w32} tt (sfits_to_z {w = w8} {n = v % 2 ^ 8} (Fits-of_lt {w = w8} {n = v % 2 ^ 8} low)))))

char_fetched : IsFetched ctype.Char
char_fetched = record { kind = Byte; name = codes "c"; named = refl; kind_is = refl; piece = refl; plain = refl; same = byte_back }

int_fetched : IsFetched ctype.Int
int_fetched = record { kind = WordKind; name = codes "w"; named = refl; kind_is = refl; piece = refl; plain = refl; same = λ v. refl }

unsigned_fetched : IsFetched ctype.Unsigned
unsigned_fetched = record { kind = WordKind; name = codes "w"; named = refl; kind_is = refl; piece = refl; plain = refl; same = λ v. refl }

pub scalars_fetched : (t : CType) → IsScalar t → IsFetched t
scalars_fetched ctype.Char w = char_fetched
scalars_fetched ctype.Int w = int_fetched
scalars_fetched ctype.Unsigned w = unsigned_fetched
scalars_fetched (ctype.Pointer' _ t) w = record { kind = Address; name = codes "p"; named = refl; kind_is = refl; piece = refl; plain = refl; same = λ v. refl }
scalars_fetched ctype.Void w = absurd w
scalars_fetched (ctype.Array' _ t n) w = absurd w
scalars_fetched (ctype.Struct n) w = absurd w

-- ---- places that are held

pub data IsHeld : Place → Type 0 where
  in_memory : (n : ℕ) → n < 2 ^ 32 → IsHeld (place Memory n)
  in_registers : (n : ℕ) → n < 2 ^ 32 → IsHeld (place Registers n)

held : (sc : Scene) (s : StoreState) (code : Code) (p : Place) → Leads sc s code p → IsHeld p
held sc s _ _ (at_anchor n at name h short there) = in_memory ((n + at) % 2 ^ 32) (omega arith)
held sc s _ _ (in_frame n h) = in_memory ((sc.frame.base + n) % 2 ^ 32) (omega arith)
held sc s _ _ (in_frame_as_register n h) = in_memory ((sc.frame.base + n) % 2 ^ 32) (omega arith)
held sc s _ _ (at_address n h) = in_memory n h
held sc s _ _ (in_register n h) = in_registers n h

further_held : (p : Place) (n : ℕ) → IsHeld p → IsHeld (record { space = p.space; at = sum_of p.at n })
further_held _ n (in_memory m h) = in_memory ((m + n) % 2 ^ 32) (omega arith)
further_held _ n (in_registers m h) = in_registers ((m + n) % 2 ^ 32) (omega arith)

pub small : (p : Place) → IsHeld p → p.at < 2 ^ 32
small _ (in_memory m h) = h
small _ (in_registers m h) = h

pub all_held : (sc : Scene) (s : StoreState) (names : List Symbol) (e : Typed) (t : CType) (p : Place) → Stands sc s names e t p → IsHeld p
all_held sc s names _ _ _ (by_name h n p x) = held sc s x.code p x.leads
all_held sc s names _ _ _ (in_struct h b a t k m row p st is get low) = further_held p row.at (all_held sc s names a t p st)
all_held sc s names _ _ _ (in_parens h b a t p st) = all_held sc s names a t p st

place_is : (s : StoreState) (c : PsCore) (p : Place) → HasSpaces s → c.store ≡ s → IsHeld p → place_in c (space_name p.space, integer p.at) ≡ Ok p
place_is s c _ spaces e (in_memory n h) = rw (e, spaces.memory, back n h) refl
place_is s c _ spaces e (in_registers n h) = rw (e, spaces.registers, back n h) refl

-- ---- pieces of lvalues

pub stands_named : (sc : Scene) (s : StoreState) (names : List Symbol) (e : Typed) (t : CType) (p : Place) → Stands sc s names e t p → standing_of e ≡ standing.Named
stands_named sc s names _ _ _ (by_name h n p x) = refl
stands_named sc s names _ _ _ (in_struct h b a t k m row p st is get low) = stands_named sc s names a t p st
stands_named sc s names _ _ _ (in_parens h b a t p st) = stands_named sc s names a t p st

name_code : (names : List Symbol) (sc : Scene) (s : StoreState) (n : ℕ) (p : Place) (x : IsNamed sc s names n p) → place_of_name (slice_get names n) ≡ Lit x.row.name (word "Where")
name_code names sc s n p x = rw (x.row_is, x.plain) refl

member_code : (names : List Symbol) (sc : Scene) (s : StoreState) (a : Typed) (t : CType) (k m : ℕ) (row : Member) (p : Place) → Stands sc s names a t p → type_of a ≡ ctype.Struct k
    → slice_get (members_of sc.defs k) m ≡ Some row → (rest : Code)
    → ((place_code names sc.defs a ⋯ place_further (standing_of a) (offset_of sc.defs (type_of a) m)) ⋯ rest) ≡ (place_code names sc.defs a ⋯ Num (signed row.at) (Word (codes "uadd") rest))
member_code names sc s a t k m row p st is get rest =
    follows_assoc (place_code names sc.defs a) (place_further (standing_of a) (offset_of sc.defs (type_of a) m)) rest
    ∙ ap (λ (c : Code). place_code names sc.defs a ⋯ (c ⋯ rest)) further_is
  where
    offset_is : offset_of sc.defs (type_of a) m ≡ row.at
    offset_is = rw (is, get) refl

    further_is : place_further (standing_of a) (offset_of sc.defs (type_of a) m) ≡ Num (signed row.at) (Word (codes "uadd") Stop)
    further_is = ap (λ (z : Standing). place_further z (offset_of sc.defs (type_of a) m)) (stands_named sc s names a t p st) ∙ ap (λ (n : ℕ). place_further standing.Named n) offset_is

pub value_code_is : (names : List Symbol) (sc : Scene) (s : StoreState) (e : Typed) (t : CType) (p : Place) → Stands sc s names e t p → value_code names sc.defs e ≡ (place_code names sc.defs e ⋯ value_at standing.Named t)
value_code_is names sc s _ _ _ (by_name h n p x) = refl
value_code_is names sc s _ _ _ (in_struct h b a t k m row p st is get low) =
    ap (λ (z : Standing). (place_code names sc.defs a ⋯ place_further (standing_of a) (offset_of sc.defs (type_of a) m)) ⋯ value_at z h.ctype) (stands_named sc s names a t p st)
value_code_is names sc s _ _ _ (in_parens h b a t p st) = value_code_is names sc s a t p st

never : (x y : ℕ) (u : Undef) → of_two word_op.Add x y ≡ Err u → ⊥
never x y u e = cc

-- what is fetched, in the place of a place; a byte that isn't held is out of range
abbrev told_at : Kind → List PsObj → Option ℕ → Result (List PsObj) PsError
told_at k o None = Err RangeCheck
told_at k o (Some v) = Ok (held_of k v ∷ o)

module _ (sc : Scene) (s : StoreState) (ds : List DictId) (cell : ℕ) (out : List ℕ) (raw : Bool) (are : AreOperators s ds) (Good : Answer → ℕ → Dial → PsCore → Type 0)
    (spent : (m : ℕ) (d' : Dial) (c' : PsCore) → Good (Err Spent) m d' c') where
  abbrev d : Dial
  d = dial_in sc cell out raw

  abbrev Reached : List PsObj → List Item → Type 0
  Reached o items = Reaches s ds are d Good spent o items

  -- a straight run is followed
  followed : (k : ℕ) (o o' : List PsObj) (items items' : List Item) → Path sc s ds cell out raw k o items o' items' → Reached o' items' → Reached o items
  followed _ _ _ _ _ (here o items) go = go
  followed _ _ _ _ _ (goes k o o₁ o' items items₁ items' e p) go =
      next_reaches s ds are d Good spent o o₁ items items₁ e (followed k o₁ o' items₁ items' p go)
  followed _ _ _ _ _ (acts k op o o₁ o' items items₁ items' e a p) go =
      acted_reaches s ds are d Good spent op o o₁ items items₁ items₁ e a (followed k o₁ o' items₁ items' p go)

  -- ---- `/k fetch`

  told_makes : (k : Kind) (o : List PsObj) (after : List Item) (b : Bytes) → with_bytes b d ≡ d → (r : Option ℕ)
      → with_told d (or_outside r >>= λ v. Ok (b, core s ds (held_of k v ∷ o) after)) ≡ makes s ds are d Good spent (told_at k o r) after
  told_makes k o after b same None = refl
  told_makes k o after b same (Some v) = ap (λ (x : Dial). done x (core s ds (held_of k v ∷ o) after)) same

  fetch_makes : HasSpaces s → (k : Kind) (name : List ℕ) → kind_named name ≡ Ok k → (u : StringId) → bytes_of s u ≡ name → (p : Place) → IsHeld p → (o : List PsObj) (after : List Item)
      → act 6 d (core s ds (Name u false ∷ placed p o) after) ≡ makes s ds are d Good spent (told_at k o (fetched_at (bytes_with sc cell) p k)) after
  unfolding act fetched
  fetch_makes spaces k name named u is _ (in_memory n h) o after =
      rw (spaces.memory, back n h, is, named) (told_makes k o after (bytes_in d None) refl (fetched_at (bytes_with sc cell) (place Memory n) k))
  fetch_makes spaces k name named u is _ (in_registers n h) o after =
      rw (spaces.registers, back n h, is, named) (told_makes k o after (bytes_in d (Some sc.frame)) refl (fetched_at (bytes_with sc cell) (place Registers n) k))

  -- ---- `/x Where`

  where_does : (names : List Symbol) (n : ℕ) (p : Place) (x : IsNamed sc s names n p) (u : StringId) → bytes_of s u ≡ x.row.name → (o : List PsObj) (after : List Item) → length after < 1000
      → act 5 d (core s ds (Name u false ∷ o) after) ≡ done d (core s ds o (Object (Array x.body true) ∷ after))
  unfolding act
  where_does names n p x u is o after room =
      let short : nat_le (length x.row.name) 127 ≡ true = le-leb _ _ x.short in
      let fits : nat_lt (length after) 1000 ≡ true = lt-ltb _ _ room in
      rw (is, short, x.found, x.where_is, fits) refl

  module _ (under : List Item) (none : under_stopped under ≡ None) (room : length under + 3 ≤ 1000) where
    abbrev Behind : Code → List PsObj → Type 0
    Behind rest o = Then s ds are d Good spent under rest o

    few_after : (after : List Item) (rest : Code) → Frames s under after (entered rest []) → length after < 1000
    few_after after rest f = let e = frames_length s under after (entered rest []) f in let k = entered_few rest in omega (arith, e, k, room)

    pub name_reaches : (name : List ℕ) (rest : Code) (o : List PsObj) (items : List Item) → length o < 100000 → Frames s under items (Lit name rest ∷ [])
        → ((u : StringId) → bytes_of s u ≡ name → Behind rest (Name u false ∷ o)) → Reached o items
    name_reaches name rest o items few f go =
        let l : MeetsName sc s ds cell out raw are under items name rest = meets_name sc s ds cell out raw are under items name rest f in
        next_reaches s ds are d Good spent o (Name l.string false ∷ o) items l.meets.after (l.meets.steps o ∙ push_next (Name l.string false) (core s ds o l.meets.after) few)
        (go l.string l.bytes l.meets.after l.meets.frames)

    -- the place of a name
    place_reaches : (names : List Symbol) (n : ℕ) (p : Place) (x : IsNamed sc s names n p) (rest : Code) (o : List PsObj) (items : List Item) → length o + 5 ≤ 100000
        → Frames s under items (Lit x.row.name (Word (codes "Where") rest) ∷ []) → Behind rest (placed p o) → Reached o items
    place_reaches names n p x rest o items few f go =
        name_reaches x.row.name (Word (codes "Where") rest) o items (omega (arith, few)) f (λ u is after g.
        let m = meets_word s ds are under after (codes "Where") 66 rest where_named g in
        let low : length m.after < 1000 = few_after m.after rest m.frames in
        let way = place_to sc s ds cell out raw are m.after x.body x.code p x.has x.spells x.leads o (omega (arith, few)) low in
        acted_reaches s ds are d Good spent 5 (Name u false ∷ o) o after m.after (Object (Array x.body true) ∷ m.after) (m.steps (Name u false ∷ o)) (where_does names n p x u is o m.after low)
        (followed way.steps o (placed p o) (Object (Array x.body true) ∷ m.after) m.after way.path (go m.after m.frames)))

    -- what stands there
    pub fetch_reaches : HasSpaces s → (k : Kind) (name : List ℕ) → kind_named name ≡ Ok k → (p : Place) → IsHeld p → (rest : Code) (o : List PsObj) (items : List Item) → length o + 5 ≤ 100000
        → Frames s under items (Lit name (Word (codes "fetch") rest) ∷ [])
        → ((v : ℕ) → fetched_at (bytes_with sc cell) p k ≡ Some v → Behind rest (held_of k v ∷ o))
        → (fetched_at (bytes_with sc cell) p k ≡ None → Fails s ds are d Good spent RangeCheck) → Reached (placed p o) items
    fetch_reaches spaces k name named p at_p rest o items few f go bad =
        name_reaches name (Word (codes "fetch") rest) (placed p o) items (omega (arith, few)) f (λ u is after g.
        dialect_reaches s ds are d Good spent under (codes "fetch") 67 6 rest (Name u false ∷ placed p o) after fetch_is (λ after. refl) none (told_at k o (fetched_at (bytes_with sc cell) p k))
        (fetch_makes spaces k name named u is p at_p o) g (λ o' e. by_value (fetched_at (bytes_with sc cell) p k) refl o' e) (λ e h. by_error (fetched_at (bytes_with sc cell) p k) refl e h))
      where
        by_value : (r : Option ℕ) → fetched_at (bytes_with sc cell) p k ≡ r → (o' : List PsObj) → told_at k o r ≡ Ok o' → Behind rest o'
        by_value (Some v) e o' h = subst (Behind rest) (left_same (held_of k v ∷ o) o' h) (go v e)
        by_value None e o' h = absurd (left_failed o' RangeCheck (sym h))

        by_error : (r : Option ℕ) → fetched_at (bytes_with sc cell) p k ≡ r → (e : PsError) → told_at k o r ≡ Err e → Fails s ds are d Good spent e
        by_error (Some v) e x h = absurd (left_failed (held_of k v ∷ o) x h)
        by_error None e x h = subst (Fails s ds are d Good spent) (failed_same RangeCheck x h) (bad e)

    -- the place of an lvalue
    pub lvalue_reaches : (names : List Symbol) (e : Typed) (t : CType) (p : Place) → Stands sc s names e t p → (rest : Code) (o : List PsObj) (items : List Item) → length o + 5 ≤ 100000
        → Frames s under items (entered (place_code names sc.defs e ⋯ rest) []) → Behind rest (placed p o) → Reached o items
    lvalue_reaches names _ _ _ (by_name h n p x) rest o items few f go =
        place_reaches names n p x rest o items few (subst (λ (k : Code). Frames s under items (entered (k ⋯ rest) [])) (name_code names sc s n p x) f) go
    lvalue_reaches names _ _ _ (in_parens h b a t p st) rest o items few f go = lvalue_reaches names a t p st rest o items few f go
    lvalue_reaches names _ _ _ (in_struct h b a t k m row p st is get low) rest o items few f go =
        lvalue_reaches names a t p st (Num (signed row.at) (Word (codes "uadd") rest)) o items few (subst (λ (c : Code). Frames s under items (entered c [])) (member_code names sc s a t k m row p st is get rest) f)
        (λ after g. number_reaches s ds are d Good spent under (signed row.at) (Word (codes "uadd") rest) (placed p o) after (omega (arith, few)) g
        (λ after g. two_reaches s ds are d Good spent under none (codes "uadd") 16 word_op.Add p.at row.at rest (space_name p.space ∷ o) after uadd_is (λ c. refl) (uadd_acts s ds are d Good spent under none)
        (small p (all_held sc s names a t p st)) low g
        (λ v e. subst (λ (n : ℕ). Behind rest (integer n ∷ space_name p.space ∷ o)) (done_same (sum_of p.at row.at) v e) go)
        (λ u e. absurd (never p.at row.at u e))))

    -- its address
    pub address_reaches : (p : Place) (rest : Code) (o : List PsObj) (items : List Item) → Frames s under items (Word (codes "exch") (Word (codes "pop") rest) ∷ []) → Behind rest (integer p.at ∷ o) → Reached (placed p o) items
    address_reaches p rest o items f go =
        manual_reaches s ds are d Good spent under (codes "exch") 0 (Word (codes "pop") rest) (placed p o) (space_name p.space ∷ integer p.at ∷ o) items exch_is (λ after. refl) f
        (λ after g. manual_reaches s ds are d Good spent under (codes "pop") 2 rest (space_name p.space ∷ integer p.at ∷ o) (integer p.at ∷ o) after pop_is (λ after. refl) g go)

-- ---- what the name means

module _ (sc : Scene) (s : StoreState) (cell : ℕ) (own : DictId) (names : List Symbol) (spaces : HasSpaces s) (are : AreOperators s (dictionaries_in s own)) where
  abbrev all : List DictId
  all = dictionaries_in s own

  -- with so many steps left
  abbrev by_left : ℕ → TableUse
  by_left k = with_left (use_in s cell own) k

  module _ (n : ℕ) (p : Place) (x : IsNamed sc s names n p) where
    -- the run of the place's procedure
    way : To sc s all cell [] false [] (Object (Array x.body true) ∷ []) (placed p []) []
    way = place_to sc s all cell [] false are [] x.body x.code p x.has x.spells x.leads [] (omega arith) (omega arith)

    abbrev run_left : Run
    run_left = record { dial = dial_in sc cell [] false; core = core s all (placed p []) [] }

    runs : (k : ℕ) → RunsToEnd {R = Cause} (Array x.body true) (dial_of sc) (core_in s own) (by_left (way.steps + suc k)) (Ok run_left) (by_left (suc k))
    runs k = record {
      answer = Ok tt;
      left = suc k;
      dial = dial_in sc cell [] false;
      core = core s all (placed p []) [];
      runs =
          forward sc s all cell [] false way.steps [] (placed p []) (Object (Array x.body true) ∷ []) [] way.path (suc k) (Ok tt) (suc k) (dial_in sc cell [] false) (core s all (placed p []) [])
          (ended k (dial_in sc cell [] false) (core s all (placed p []) []) (core s all (placed p []) []) refl);
      result = refl;
      leaves = refl;
    }

    asked : (k : ℕ) → looking {R = Cause} (λ s. entry s x.symbol (codes "where") >>= procedure) (by_left k) (Ok (Array x.body true)) (by_left k)
    asked k = inl (told (rw x.where_is refl))

    began : (k : ℕ) → beginning {R = Cause} (by_left k) (Ok (core_in s own)) (by_left k)
    began k = (refl, refl)

    left_is : (k : ℕ) → lvalue_left run_left (only_place run_left.core.operands) (by_left k) (Ok (Named p cell)) (by_left k)
    left_is k = rw (place_is s run_left.core p spaces refl (held sc s x.code p x.leads)) (Ok p, by_left k, (refl, refl), (refl, refl))

    name_means : (k : ℕ) → where_is sc n (by_left (way.steps + suc k)) (Ok (Named p cell)) (by_left (suc k))
    name_means k =
        subst (λ (o : Option DictId). place_of_symbol sc o (by_left (way.steps + suc k)) (Ok (Named p cell)) (by_left (suc k))) (sym x.symbol_is) (
          Ok (Array x.body true),
          by_left (way.steps + suc k),
          asked (way.steps + suc k),
          (Ok (core_in s own), by_left (way.steps + suc k), began (way.steps + suc k), (Ok run_left, by_left (suc k), inl (inl (inl (runs k))), inl (left_is (suc k)))),
        )

  -- the steps that its name's procedure takes
  abbrev steps_of : (e : Typed) (t : CType) (p : Place) → Stands sc s names e t p → ℕ
  steps_of _ _ _ (by_name h n p x) = (way n p x).steps
  steps_of _ _ _ (in_struct h b a t k m row p st is get low) = steps_of a t p st
  steps_of _ _ _ (in_parens h b a t p st) = steps_of a t p st

  place_means : (e : Typed) (t : CType) (p : Place) (st : Stands sc s names e t p) (k : ℕ) → place_of sc e (by_left (steps_of e t p st + suc k)) (Ok (Named p cell)) (by_left (suc k))
  place_means _ _ _ (by_name h n p x) k = name_means n p x k
  place_means _ _ _ (in_parens h b a t p st) k = place_means a t p st k
  place_means _ _ _ (in_struct h b a t i m row p st is get low) k = (
    Ok (Named p cell),
    by_left (suc k),
    place_means a t p st k,
    subst (λ (z : ℕ). member_at sc z (Named p cell) (by_left (suc k)) (Ok (Named (record { space = p.space; at = sum_of p.at row.at }) cell)) (by_left (suc k))) (sym offset_is) (refl, refl),
  )
    where
      offset_is : source.offset_of sc.defs (struct_number (type_of a)) m ≡ row.at
      offset_is = rw (is, get) refl

  -- what is read at a place
  abbrev read_at : CType → Place → Means ℕ
  read_at t p = cond (is_array t) (gives p.at) (load sc (kind_of t) (Named p cell) then (λ v. gives (converted t v)))

  value_means : (e : Typed) (t : CType) (p : Place) (st : Stands sc s names e t p) (r : Result ℕ (Trouble Cause)) (k : ℕ) → read_at t p (by_left (suc k)) r (by_left (suc k))
      → value_of sc e (by_left (steps_of e t p st + suc k)) r (by_left (suc k))
  value_means _ _ _ (by_name h n p x) r k there = (Ok (Named p cell), by_left (suc k), name_means n p x k, there)
  value_means _ _ _ (in_struct h b a t i m row p st is get low) r k there =
      (Ok (Named (record { space = p.space; at = sum_of p.at row.at }) cell), by_left (suc k), place_means (Dot' h b a m) h.ctype (record { space = p.space; at = sum_of p.at row.at }) (in_struct h b a t i m row p st is get low) k, there)
  value_means _ _ _ (in_parens h b a t p st) r k there = value_means a t p st r k there

  -- ---- each form

  loaded : (t : CType) (f : IsFetched t) (p : Place) (v : ℕ) → fetched_at (bytes_with sc cell) p f.kind ≡ Some v → (k : ℕ) → read_at t p (by_left k) (Ok (converted t v)) (by_left k)
  loaded t f p v e k =
      rw (f.plain, f.kind_is) (Ok v, by_left k, (Ok tt, by_left k, (refl, refl), subst (λ (b : Option ℕ). or_range b (by_left k) (Ok v) (by_left k)) (sym e) (refl, refl)), (refl, refl))

  unheld : (t : CType) (f : IsFetched t) (p : Place) → fetched_at (bytes_with sc cell) p f.kind ≡ None → (k : ℕ) → read_at t p (by_left k) (Err (Raised RangeCheck)) (by_left k)
  unheld t f p e k =
      rw (f.plain, f.kind_is)
      (Err (Raised RangeCheck), by_left k, (Ok tt, by_left k, (refl, refl), subst (λ (b : Option ℕ). or_range b (by_left k) (Err (Raised RangeCheck)) (by_left k)) (sym e) (refl, refl)), (refl, refl))

  pub scalar_means : (e : Typed) (t : CType) (p : Place) → Stands sc s names e t p → (f : IsFetched t) (v : ℕ) → fetched_at (bytes_with sc cell) p f.kind ≡ Some v → ComesTo sc e (use_in s cell own) (Ok (converted t v))
  scalar_means e t p st f v held_there = record { taken = steps_of e t p st; comes = λ k. value_means e t p st (Ok (converted t v)) k (loaded t f p v held_there (suc k)) }

  pub unheld_means : (e : Typed) (t : CType) (p : Place) → Stands sc s names e t p → (f : IsFetched t) → fetched_at (bytes_with sc cell) p f.kind ≡ None → ComesTo sc e (use_in s cell own) (Err (Raised RangeCheck))
  unheld_means e t p st f none_there = record { taken = steps_of e t p st; comes = λ k. value_means e t p st (Err (Raised RangeCheck)) k (unheld t f p none_there (suc k)) }

  pub array_means : (e : Typed) (t : CType) (p : Place) → Stands sc s names e t p → is_array t ≡ true → ComesTo sc e (use_in s cell own) (Ok p.at)
  array_means e t p st is = record { taken = steps_of e t p st; comes = λ k. value_means e t p st (Ok p.at) k (rw is (refl, refl)) }

  pub address_means : (h : Head) (b : _) (e : Typed) (t : CType) (p : Place) → Stands sc s names e t p → ComesTo sc (Address' h b e) (use_in s cell own) (Ok p.at)
  address_means h b e t p st = record { taken = steps_of e t p st; comes = λ k. (Ok (Named p cell), by_left (suc k), place_means e t p st k, (refl, refl)) }

-- ---- whole runs

module _ (sc : Scene) (s : StoreState) (cell : ℕ) (own : DictId) (names : List Symbol) (o : List PsObj) (items : List Item) (out : List ℕ) (raw : Bool)
    (spaces : HasSpaces s) (are : AreOperators s (dictionaries_in s own)) (few : length o + 5 ≤ 100000) (room : length items + 3 ≤ 1000) (none : under_stopped items ≡ None) where
  abbrev dicts : List DictId
  dicts = dictionaries_in s own

  abbrev dial : Dial
  dial = dial_in sc cell out raw

  abbrev Good : Typed → Answer → ℕ → Dial → PsCore → Type 0
  Good e = Reads sc e (use_in s cell own) s dicts o items dial

  -- where the pieces of an expression begin
  abbrev Arrives : Typed → Type 0
  Arrives e = (after : List Item) → Frames s items after (entered (value_code names sc.defs e) []) → Reaches s dicts are dial (Good e) (λ m d' c'. spends m d' c') o after

  left_by : (e : Typed) (v : ℕ) → ComesTo sc e (use_in s cell own) (Ok v) → (x : PsObj) → x ≡ integer v → (after : List Item) → Frames s items after [] → (k : ℕ) (r : Answer) (m : ℕ) (d' : Dial) (c' : PsCore)
      → r ≢ Err NoMemory → Runs Operates k dial (core s dicts (x ∷ o) after) r m d' c' → Good e r m d' c'
  left_by e v comes x is after g k r m d' c' other run =
      reads v k r m d' c' comes (subst (λ y. Runs Operates k dial (core s dicts (y ∷ o) items) r m d' c') is (subst (λ y. Runs Operates k dial (core s dicts (x ∷ o) y) r m d' c') (at_bottom s items after g) run))

  scalar_arrives : (e : Typed) (t : CType) (p : Place) → Stands sc s names e t p → IsFetched t → Arrives e
  scalar_arrives e t p st f after g =
      lvalue_reaches sc s dicts cell out raw are (Good e) (λ m d' c'. spends m d' c') items none room names e t p st (Lit f.name (Word (codes "fetch") Stop)) o after (omega (arith, few))
      (subst (λ (k : Code). Frames s items after (entered k [])) code g)
      (λ after g. fetch_reaches sc s dicts cell out raw are (Good e) (λ m d' c'. spends m d' c') items none room spaces f.kind f.name f.named p (all_held sc s names e t p st) Stop o after (omega (arith, few)) g
      (λ v there. left_by e (converted t v) (scalar_means sc s cell own names spaces are e t p st f v there) (held_of f.kind v) (f.same v))
      (λ there m operands. outside m operands (unheld_means sc s cell own names spaces are e t p st f there)))
    where
      code : value_code names sc.defs e ≡ (place_code names sc.defs e ⋯ Lit f.name (Word (codes "fetch") Stop))
      code = value_code_is names sc s e t p st ∙ ap (λ (k : Code). place_code names sc.defs e ⋯ k) (rw (f.plain, f.piece) refl)

  array_arrives : (e : Typed) (t : CType) (p : Place) → Stands sc s names e t p → is_array t ≡ true → Arrives e
  array_arrives e t p st is after g =
      lvalue_reaches sc s dicts cell out raw are (Good e) (λ m d' c'. spends m d' c') items none room names e t p st (Word (codes "exch") (Word (codes "pop") Stop)) o after (omega (arith, few))
      (subst (λ (k : Code). Frames s items after (entered k [])) code g)
      (λ after g. address_reaches sc s dicts cell out raw are (Good e) (λ m d' c'. spends m d' c') items none room p Stop o after g
      (left_by e p.at (array_means sc s cell own names spaces are e t p st is) (integer p.at) refl))
    where
      code : value_code names sc.defs e ≡ (place_code names sc.defs e ⋯ Word (codes "exch") (Word (codes "pop") Stop))
      code = value_code_is names sc s e t p st ∙ ap (λ (k : Code). place_code names sc.defs e ⋯ k) (rw is refl)

  address_arrives : (h : Head) (b : _) (e : Typed) (t : CType) (p : Place) → Stands sc s names e t p → Arrives (Address' h b e)
  address_arrives h b e t p st after g =
      lvalue_reaches sc s dicts cell out raw are (Good (Address' h b e)) (λ m d' c'. spends m d' c') items none room names e t p st (Word (codes "exch") (Word (codes "pop") Stop)) o after (omega (arith, few))
      (subst (λ (k : Code). Frames s items after (entered k [])) code g)
      (λ after g. address_reaches sc s dicts cell out raw are (Good (Address' h b e)) (λ m d' c'. spends m d' c') items none room p Stop o after g
      (left_by (Address' h b e) p.at (address_means sc s cell own names spaces are h b e t p st) (integer p.at) refl))
    where
      code : value_code names sc.defs (Address' h b e) ≡ (place_code names sc.defs e ⋯ Word (codes "exch") (Word (codes "pop") Stop))
      code = ap (λ (z : Standing). place_code names sc.defs e ⋯ address_of z) (stands_named sc s names e t p st)

  arrives : (e : Typed) → IsRead sc s names e → Arrives e
  arrives _ (scalar e t p st is) = scalar_arrives e t p st (scalars_fetched t is)
  arrives _ (array e t p st is) = array_arrives e t p st is
  arrives _ (address h b e t p st) = address_arrives h b e t p st

  pub places_read : (e : Typed) (a : ArrayId) → IsRead sc s names e → HasArray s a → Spells s (elements_of s a) (value_code names sc.defs e)
      → AreRead sc e s cell own o items dial (core s dicts o (Object (Array a true) ∷ items))
  places_read e a is has spells =
      let inside : Enters s s dicts items items a (entered (value_code names sc.defs e) []) = enters s s dicts items items a [] bottom (omega (arith, room)) has refl (value_code names sc.defs e) spells in
      next_reaches s dicts are dial (Good e) (λ m d' c'. spends m d' c') o o (Object (Array a true) ∷ items) inside.after (ap (λ (r : Made). settled (alone (at (core s dicts o items) r))) (inside.calls o))
      (arrives e is inside.after inside.frames)
