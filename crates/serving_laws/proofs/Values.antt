-- The pieces of an expression that needs no memory leave its value.
use Rattle.std.proofs.Common.{◌≡◌, refl, sym, ap, subst, ℕ, suc, ◌+◌, ◌^◌, ◌<◌, ◌≤◌, true, false, Bool, if◌then◌else◌, cond, nat_lt, inl, inr, Option, Some, None, Result, Ok, Err, List, [], ◌∷◌, length, codes, pos, lit<, lt-ltb, le-leb, arith}
use Rattle.std.specs.Prelude.{◌==◌, nat_le}
use Rattle.ldb_words.specs.Word.{signed}
use Rattle.ldb_words.specs.declared.kinds.Undef.{Undef}
use Rattle.c_tree.specs.declared.types.CType.{CType}
use Rattle.c_tree.specs.declared.types.CType.TheVariants as ctype
use Rattle.c_tree.specs.declared.types.StructDef.{StructDef}
use Rattle.c_tree.specs.declared.typed.BinaryOp.{BinaryOp}
use Rattle.c_tree.specs.declared.typed.BinaryOp.TheVariants.{Equal, Unequal}
use Rattle.c_tree.specs.declared.typed.UnaryOp.{UnaryOp}
use Rattle.c_tree.specs.declared.typed.Head.{Head}
use Rattle.c_tree.specs.declared.typed.Typed.{Typed}
use Rattle.c_tree.specs.declared.typed.Typed.TheVariants.{Comma', Assign', Choice', Or', And', Binary', Cast', Before', Address', Follow', Unary', SizeOf', SizeOfType, Index', Call', Dot', Arrow', After', Name, Constant, Literal, Parens'}
use Rattle.c_tree.specs.Types.{type_of, target_of, kind_of, is_unsigned, is_array}
use Rattle.c_tree.specs.Layout.{size_of}
use Rattle.c_judge.specs.declared.symbol.Symbol.{Symbol}
use Rattle.c_operators.specs.Arithmetic.{on_integer, operating_type}
use Rattle.ps_store.specs.declared.object.PsObj.{PsObj}
use Rattle.ps_store.specs.declared.object.PsObj.TheVariants.{Int, Array}
use Rattle.ps_store.specs.declared.object.ArrayId.{ArrayId}
use Rattle.ps_store.specs.declared.object.DictId.{DictId}
use Rattle.ps_store.specs.StoreState.{StoreState}
use Rattle.ps_store.specs.Store.{elements_of}
use Rattle.ps_step.specs.declared.fault.PsFault.TheVariants.{Spent}
use Rattle.ps_step.specs.declared.item.Item.{Item}
use Rattle.ps_step.specs.declared.item.Item.TheVariants.{Object}
use Rattle.ps_step.specs.declared.machine.PsCore.{PsCore}
use Rattle.ps_step.specs.Item.{under_stopped}
use Rattle.ps_step.specs.Results.{at}
use Rattle.ps_step.specs.State.{Made}
use Rattle.ps_step.specs.Executing.{alone}
use Rattle.ps_run.specs.Step.{settled}
use Rattle.ps_run.specs.Runs.{Answer, Runs}
use Rattle.ps_text.specs.Code.{Code, Stop, Num, Word, Lit, Text, Proc}
use Rattle.ps_text.specs.Grown.{HasArray}
use Rattle.ps_text.specs.Spells.{Spells}
use Rattle.ps_terms.specs.Machine.{entered}
use Rattle.ps_terms.specs.Stands.{Frames, bottom, core}
use Rattle.ps_terms.proofs.Sound.{Enters, enters}
use Rattle.ps_words.specs.Words.{error_of}
use Rattle.ps_words.specs.Operators.{integer}
use Rattle.ps_emit.specs.Terms.{◌⋯◌}
use Rattle.dialect_model.specs.Dial.{Dial}
use Rattle.dialect_model.specs.Operating.{Operates}
use Rattle.dialect_model.specs.TableUse.{TableUse, Trouble, Refused, gives, ◌>>=◌}
use Rattle.c_bytes.specs.Lvalues.{Scene, Cause, Reason, Means, load, Pointed as Led}
use Rattle.c_bytes.specs.Operators.{converted, defined, by_targets}
use Rattle.c_bytes.specs.Evaluation.{value_of, place_of}
use Rattle.expr_serve.specs.Operators as pieces
use Rattle.expr_serve.specs.declared.emit.Standing.{Standing}
use Rattle.expr_serve.specs.declared.emit.Standing.TheVariants.{Pointed}
use Rattle.expr_serve.specs.Types.{bytes_of}
use Rattle.expr_serve.specs.Codes.{value_code, place_code, standing_of, address_of, fetched, value_at, on_two, by_targets as two_by}
use Rattle.serving_laws.specs.Plain.{AreTaken, IsPlain, IsLed, RoomFor}
use Rattle.serving_laws.specs.Left.{AreOperators, AreLeft, Leaves, leaves, fails, spends}
use Rattle.serving_laws.proofs.Small.{Small, words_small, one_small, byte_small}
use Rattle.serving_laws.proofs.Names.{pop_is}
use Rattle.serving_laws.proofs.Stepping.{Reaches, Fails, Then, at_bottom, not_stopped, next_reaches, number_reaches, manual_reaches}
use Rattle.serving_laws.proofs.Operating.{exchanged, integers_reach, one_reaches, zero_reaches, conversion_reaches, result_by}

pub follows_assoc : (a b c : Code) → ((a ⋯ b) ⋯ c) ≡ (a ⋯ (b ⋯ c))
follows_assoc Stop b c = refl
follows_assoc (Num n rest) b c = ap (Num n) (follows_assoc rest b c)
follows_assoc (Word name rest) b c = ap (Word name) (follows_assoc rest b c)
follows_assoc (Lit name rest) b c = ap (Lit name) (follows_assoc rest b c)
follows_assoc (Text bytes rest) b c = ap (Text bytes) (follows_assoc rest b c)
follows_assoc (Proc body rest) b c = ap (Proc body) (follows_assoc rest b c)

pub follows_stop : (a : Code) → (a ⋯ Stop) ≡ a
follows_stop Stop = refl
follows_stop (Num n rest) = ap (Num n) (follows_stop rest)
follows_stop (Word name rest) = ap (Word name) (follows_stop rest)
follows_stop (Lit name rest) = ap (Lit name) (follows_stop rest)
follows_stop (Text bytes rest) = ap (Text bytes) (follows_stop rest)
follows_stop (Proc body rest) = ap (Proc body) (follows_stop rest)

mutual
  -- what is left where any plain expression has room
  pub base_room : (defs : List StructDef) (e : Typed) (o i : ℕ) → IsPlain defs e → RoomFor e o i → (o + 5 ≤ 100000) × (i + 3 ≤ 1000)
  base_room defs (Comma' _ _ a _ b) o i p r = base_room defs a o i p.0 r.0
  base_room defs (Choice' _ _ c _ a _ b) o i p r = base_room defs c o i p.0 r.0
  base_room defs (Or' _ _ a _ b) o i p r = base_room defs a o i p.0 r.0
  base_room defs (And' _ _ a _ b) o i p r = base_room defs a o i p.0 r.0
  base_room defs (Binary' _ _ a op _ b) o i p r = base_room defs a o i p.1 r.0
  base_room defs (Cast' _ _ a) o i p r = base_room defs a o i p r
  base_room defs (Address' _ _ a) o i p r = led_room defs a o i p r
  base_room defs (Follow' _ _ a) o i p r = base_room defs a o i p.1 r
  base_room defs (Unary' _ op _ a) o i p r = base_room defs a o i p r
  base_room defs (SizeOf' _ _ a) o i p r = r
  base_room defs (SizeOfType _ t) o i p r = r
  base_room defs (Constant _ n) o i p r = r
  base_room defs (Parens' _ _ a) o i p r = base_room defs a o i p r
  base_room defs (Assign' _ _ _ _ _ _) o i p r = absurd p
  base_room defs (Before' _ _ _ _) o i p r = absurd p
  base_room defs (Index' _ _ _ _ _) o i p r = absurd p
  base_room defs (Call' _ _ _ _) o i p r = absurd p
  base_room defs (Dot' _ _ _ _) o i p r = absurd p
  base_room defs (Arrow' _ _ _ _) o i p r = absurd p
  base_room defs (After' _ _ _ _) o i p r = absurd p
  base_room defs (Name _ _) o i p r = absurd p
  base_room defs (Literal _ _) o i p r = absurd p

  led_room : (defs : List StructDef) (e : Typed) (o i : ℕ) → IsLed defs e → RoomFor e o i → (o + 5 ≤ 100000) × (i + 3 ≤ 1000)
  led_room defs (Follow' _ _ a) o i p r = base_room defs a o i p r
  led_room defs (Parens' _ _ a) o i p r = led_room defs a o i p r
  led_room defs (Comma' _ _ _ _ _) o i p r = absurd p
  led_room defs (Assign' _ _ _ _ _ _) o i p r = absurd p
  led_room defs (Choice' _ _ _ _ _ _ _) o i p r = absurd p
  led_room defs (Or' _ _ _ _ _) o i p r = absurd p
  led_room defs (And' _ _ _ _ _) o i p r = absurd p
  led_room defs (Binary' _ _ _ _ _ _) o i p r = absurd p
  led_room defs (Cast' _ _ _) o i p r = absurd p
  led_room defs (Before' _ _ _ _) o i p r = absurd p
  led_room defs (Address' _ _ _) o i p r = absurd p
  led_room defs (Unary' _ _ _ _) o i p r = absurd p
  led_room defs (SizeOf' _ _ _) o i p r = absurd p
  led_room defs (SizeOfType _ _) o i p r = absurd p
  led_room defs (Index' _ _ _ _ _) o i p r = absurd p
  led_room defs (Call' _ _ _ _) o i p r = absurd p
  led_room defs (Dot' _ _ _ _) o i p r = absurd p
  led_room defs (Arrow' _ _ _ _) o i p r = absurd p
  led_room defs (After' _ _ _ _) o i p r = absurd p
  led_room defs (Name _ _) o i p r = absurd p
  led_room defs (Constant _ _) o i p r = absurd p
  led_room defs (Literal _ _) o i p r = absurd p

-- such a place stands as a pointer
led_stands : (defs : List StructDef) (e : Typed) → IsLed defs e → standing_of e ≡ Pointed
led_stands defs (Follow' _ _ a) p = refl
led_stands defs (Parens' _ _ a) p = led_stands defs a p
led_stands defs (Comma' _ _ _ _ _) p = absurd p
led_stands defs (Assign' _ _ _ _ _ _) p = absurd p
led_stands defs (Choice' _ _ _ _ _ _ _) p = absurd p
led_stands defs (Or' _ _ _ _ _) p = absurd p
led_stands defs (And' _ _ _ _ _) p = absurd p
led_stands defs (Binary' _ _ _ _ _ _) p = absurd p
led_stands defs (Cast' _ _ _) p = absurd p
led_stands defs (Before' _ _ _ _) p = absurd p
led_stands defs (Address' _ _ _) p = absurd p
led_stands defs (Unary' _ _ _ _) p = absurd p
led_stands defs (SizeOf' _ _ _) p = absurd p
led_stands defs (SizeOfType _ _) p = absurd p
led_stands defs (Index' _ _ _ _ _) p = absurd p
led_stands defs (Call' _ _ _ _) p = absurd p
led_stands defs (Dot' _ _ _ _) p = absurd p
led_stands defs (Arrow' _ _ _ _) p = absurd p
led_stands defs (After' _ _ _ _) p = absurd p
led_stands defs (Name _ _) p = absurd p
led_stands defs (Constant _ _) p = absurd p
led_stands defs (Literal _ _) p = absurd p

-- what a conversion makes of a word is one
pub converted_small : (t : CType) (v : ℕ) → v < 2 ^ 32 → converted t v < 2 ^ 32
converted_small ctype.Char v h = byte_small v
converted_small ctype.Int v h = h
converted_small ctype.Unsigned v h = h
converted_small ctype.Void v h = h
converted_small (ctype.Pointer' _ t) v h = h
converted_small (ctype.Array' _ t n) v h = h
converted_small (ctype.Struct n) v h = h

module _ (s : StoreState) (ds : List DictId) (are : AreOperators s ds) (d : Dial) (Good : Answer → ℕ → Dial → PsCore → Type 0)
    (spent : (m : ℕ) (d' : Dial) (c' : PsCore) → Good (Err Spent) m d' c') (sc : Scene) (names : List Symbol) (t : TableUse) where
  -- the expression has a value, or is undefined
  abbrev pub Gives : Typed → ℕ → Type 0
  Gives e v = value_of sc e t (Ok v) t

  abbrev pub Lacks : Typed → Undef → Type 0
  Lacks e u = value_of sc e t (Err (Refused (Reason u))) t

  abbrev At : List Item → Code → List Item → Type 0
  At under k items = Frames s under items (entered k [])

  abbrev Reached : List PsObj → List Item → Type 0
  Reached o items = Reaches s ds are d Good spent o items

  abbrev Behind : List Item → Code → List PsObj → Type 0
  Behind under rest o = Then s ds are d Good spent under rest o

  abbrev Failed : Undef → Type 0
  Failed u = Fails s ds are d Good spent (error_of u)

  -- what is claimed of an expression at any place
  abbrev Comes : Typed → Type 0
  Comes e = (rest : Code) (under : List Item) (o : List PsObj) (items : List Item) (i : ℕ) → under_stopped under ≡ None → length under ≤ i → RoomFor e (length o) i
      → At under (value_code names sc.defs e ⋯ rest) items
      → ((v : ℕ) → v < 2 ^ 32 → Gives e v → Behind under rest (integer v ∷ o)) → ((u : Undef) → Lacks e u → Failed u) → Reached o items

  moved : (under : List Item) (a b c : Code) (items : List Item) → At under ((a ⋯ b) ⋯ c) items → At under (a ⋯ (b ⋯ c)) items
  moved under a b c items f = subst (λ k. At under k items) (follows_assoc a b c) f

  small_ok : (r : Result ℕ Undef) (v : ℕ) → Small r → r ≡ Ok v → v < 2 ^ 32
  small_ok r v h e = subst Small e h

  given : (r : Result ℕ Undef) (v : ℕ) → r ≡ Ok v → defined r t (Ok v) t
  given r v e = subst (λ (r : Result ℕ Undef). defined r t (Ok v) t) (sym e) (refl, refl)

  lacking : (r : Result ℕ Undef) (u : Undef) → r ≡ Err u → defined r t (Err (Refused (Reason u))) t
  lacking r u e = subst (λ (r : Result ℕ Undef). defined r t (Err (Refused (Reason u))) t) (sym e) (refl, refl)

  -- ---- forms

  comma_comes : (h : _) (p q : _) (a b : Typed) → Comes a → Comes b → Comes (Comma' h p a q b)
  comma_comes h p q a b ca cb rest under o items i none low room f go bad =
      ca (Word (codes "pop") (value_code names sc.defs b ⋯ rest)) under o items i none low room.0 (moved under (value_code names sc.defs a) (Word (codes "pop") (value_code names sc.defs b)) rest items f)
      (λ v hv gv after at. manual_reaches s ds are d Good spent under (codes "pop") 2 (value_code names sc.defs b ⋯ rest) (integer v ∷ o) o after pop_is (λ after. refl) at
      (λ after at. cb rest under o after i none low room.1 at
      (λ w hw gw. go w hw (Ok v, t, gv, (Ok v, t, (refl, refl), (Ok w, t, gw, (refl, refl)))))
      (λ u lu. bad u (Ok v, t, gv, (Ok v, t, (refl, refl), (Err (Refused (Reason u)), t, lu, (refl, refl)))))))
      (λ u lu. bad u (Err (Refused (Reason u)), t, lu, (refl, refl)))

  cast_comes : (h : _) (p : _) (a : Typed) → IsPlain sc.defs a → Comes a → Comes (Cast' h p a)
  cast_comes h p a plain ca rest under o items i none low room f go bad =
      let base = base_room sc.defs a (length o) i plain room in
      ca (pieces.conversion h.ctype ⋯ rest) under o items i none low room (moved under (value_code names sc.defs a) (pieces.conversion h.ctype) rest items f)
      (λ v hv gv after at. conversion_reaches s ds are d Good spent under none h.ctype v rest o after hv (omega (arith, base.0)) at
      (go (converted h.ctype v) (converted_small h.ctype v hv) (Ok v, t, gv, (refl, refl))))
      (λ u lu. bad u (Err (Refused (Reason u)), t, lu, (refl, refl)))

  unary_comes : (h : _) (p : _) (op : UnaryOp) (a : Typed) → IsPlain sc.defs a → Comes a → Comes (Unary' h op p a)
  unary_comes h p op a plain ca rest under o items i none low room f go bad =
      let base = base_room sc.defs a (length o) i plain room in
      ca (pieces.on_one op (type_of a) ⋯ rest) under o items i none low room (moved under (value_code names sc.defs a) (pieces.on_one op (type_of a)) rest items f)
      (λ v hv gv after at. one_reaches s ds are d Good spent under none (omega (arith, base.1, low)) op (type_of a) v rest o after hv (omega (arith, base.0)) at
      (λ w e. go w (small_ok (on_integer op (type_of a) v) w (one_small op (type_of a) v hv) e) (Ok v, t, gv, given (on_integer op (type_of a) v) w e))
      (λ u e. bad u (Ok v, t, gv, lacking (on_integer op (type_of a) v) u e)))
      (λ u lu. bad u (Err (Refused (Reason u)), t, lu, (refl, refl)))

  -- what is claimed of the pieces of a binary operator on two words
  abbrev Two : BinaryOp → CType → CType → Option CType → Option CType → Type 0
  Two op k l a b = (x y : ℕ) (rest : Code) (under : List Item) (o : List PsObj) (items : List Item) → x < 2 ^ 32 → y < 2 ^ 32 → under_stopped under ≡ None → length under + 3 ≤ 1000
      → length o + 3 ≤ 100000 → At under (two_by sc.defs op k l a b ⋯ rest) items
      → ((v : ℕ) → v < 2 ^ 32 → by_targets sc op k l a b x y t (Ok v) t → Behind under rest (integer v ∷ o))
      → ((w : Undef) → by_targets sc op k l a b x y t (Err (Refused (Reason w))) t → Failed w) → Reached (integer y ∷ integer x ∷ o) items

  numbers_come : (u : Bool) (op : BinaryOp) (x y : ℕ) (rest : Code) (under : List Item) (o : List PsObj) (items : List Item) → x < 2 ^ 32 → y < 2 ^ 32 → under_stopped under ≡ None
      → length under + 3 ≤ 1000 → length o + 3 ≤ 100000 → At under ((if u then pieces.on_unsigned op else pieces.on_ints op) ⋯ rest) items
      → ((v : ℕ) → v < 2 ^ 32 → defined (result_by u op x y) t (Ok v) t → Behind under rest (integer v ∷ o))
      → ((w : Undef) → defined (result_by u op x y) t (Err (Refused (Reason w))) t → Failed w) → Reached (integer y ∷ integer x ∷ o) items
  numbers_come u op x y rest under o items hx hy none room few f go bad =
      integers_reach s ds are d Good spent under none room u op x y rest o items hx hy few f
      (λ v e. go v (small_ok (result_by u op x y) v (words_small op u x y hx hy) e) (given (result_by u op x y) v e)) (λ w e. bad w (lacking (result_by u op x y) w e))

  equals_come : (k l : CType) (a b : Option CType) → Two Equal k l a b
  equals_come k l None None = numbers_come (is_unsigned (operating_type Equal k l)) Equal
  equals_come k l (Some a) None = numbers_come false Equal
  equals_come k l (Some a) (Some b) = numbers_come false Equal
  equals_come k l None (Some b) = λ x y rest under o items hx hy none room few f go bad.
      exchanged s ds are d Good spent under none (integer x) (integer y) (pieces.on_ints Equal ⋯ rest) o items f
      (λ after at. numbers_come false Equal y x rest under o after hy hx none room few at go bad)

  unequals_come : (k l : CType) (a b : Option CType) → Two Unequal k l a b
  unequals_come k l None None = numbers_come (is_unsigned (operating_type Unequal k l)) Unequal
  unequals_come k l (Some a) None = numbers_come false Unequal
  unequals_come k l (Some a) (Some b) = numbers_come false Unequal
  unequals_come k l None (Some b) = λ x y rest under o items hx hy none room few f go bad.
      exchanged s ds are d Good spent under none (integer x) (integer y) (pieces.on_ints Unequal ⋯ rest) o items f
      (λ after at. numbers_come false Unequal y x rest under o after hy hx none room few at go bad)

  two_come : (op : BinaryOp) (k l : CType) → AreTaken op k l → Two op k l (target_of k) (target_of l)
  two_come op k l (inl e) =
      subst (λ (z : Option CType). Two op k l z (target_of l)) (sym e.0) (subst (λ (z : Option CType). Two op k l None z) (sym e.1) (numbers_come (is_unsigned (operating_type op k l)) op))
  two_come op k l (inr (inl e)) = subst (λ (z : BinaryOp). Two z k l (target_of k) (target_of l)) (sym e) (equals_come k l (target_of k) (target_of l))
  two_come op k l (inr (inr e)) = subst (λ (z : BinaryOp). Two z k l (target_of k) (target_of l)) (sym e) (unequals_come k l (target_of k) (target_of l))

  binary_comes : (h : _) (p q : _) (op : BinaryOp) (a b : Typed) → AreTaken op (type_of a) (type_of b) → IsPlain sc.defs a → Comes a → Comes b → Comes (Binary' h p a op q b)
  binary_comes h p q op a b taken plain ca cb rest under o items i none low room f go bad =
      let base = base_room sc.defs a (length o) i plain room.0 in
      ca (value_code names sc.defs b ⋯ (on_two sc.defs op (type_of a) (type_of b) ⋯ rest)) under o items i none low room.0 (here items f)
      (λ x hx gx after at. cb (on_two sc.defs op (type_of a) (type_of b) ⋯ rest) under (integer x ∷ o) after i none low room.1 at
      (λ y hy gy after at. two_come op (type_of a) (type_of b) taken x y rest under o after hx hy none (omega (arith, base.1, low)) (omega (arith, base.0)) at
      (λ v hv gv. go v hv (Ok x, t, gx, (Ok y, t, gy, gv))) (λ w gw. bad w (Ok x, t, gx, (Ok y, t, gy, gw))))
      (λ w lw. bad w (Ok x, t, gx, (Err (Refused (Reason w)), t, lw, (refl, refl)))))
      (λ w lw. bad w (Err (Refused (Reason w)), t, lw, (refl, refl)))
    where
      here : (items : List Item) → At under ((value_code names sc.defs a ⋯ (value_code names sc.defs b ⋯ on_two sc.defs op (type_of a) (type_of b))) ⋯ rest) items
          → At under (value_code names sc.defs a ⋯ (value_code names sc.defs b ⋯ (on_two sc.defs op (type_of a) (type_of b) ⋯ rest))) items
      here items f =
          subst (λ k. At under (value_code names sc.defs a ⋯ k) items) (follows_assoc (value_code names sc.defs b) (on_two sc.defs op (type_of a) (type_of b)) rest)
          (moved under (value_code names sc.defs a) (value_code names sc.defs b ⋯ on_two sc.defs op (type_of a) (type_of b)) rest items f)

  -- a part of a choice, in a procedure of its own: its conversion follows, and then the procedure has ended
  part_comes : (e : Typed) (k : CType) (rest : Code) (under below : List Item) (o : List PsObj) (items : List Item) (i : ℕ) → IsPlain sc.defs e → Comes e
      → under_stopped under ≡ None → length below ≤ suc i → RoomFor e (length o) (suc i) → At under rest below → At below (value_code names sc.defs e ⋯ pieces.conversion k) items
      → ((v : ℕ) → v < 2 ^ 32 → Gives e v → Behind under rest (integer (converted k v) ∷ o)) → ((u : Undef) → Lacks e u → Failed u) → Reached o items
  part_comes e k rest under below o items i plain ce none low room there f go bad =
      let none' : under_stopped below ≡ None = not_stopped s under below (entered rest []) there none in
      let base = base_room sc.defs e (length o) (suc i) plain room in
      ce (pieces.conversion k) below o items (suc i) none' low room f
      (λ v hv gv after at. conversion_reaches s ds are d Good spent below none' k v Stop o after hv (omega (arith, base.0)) (subst (λ c. At below c after) (sym (follows_stop (pieces.conversion k))) at)
      (λ after at. subst (Reached (integer (converted k v) ∷ o)) (sym (at_bottom s below after at)) (go v hv gv below there)))
      bad

  -- a part of a choice
  abbrev part_code : Typed → CType → Code
  part_code e k = value_code names sc.defs e ⋯ pieces.conversion k

  abbrev chosen_as : CType → Typed → Means ℕ
  chosen_as k e = value_of sc e >>= λ v. gives v >>= λ x. gives (converted k x)

  choice_comes : (h : _) (p q r : _) (c a b : Typed) → IsPlain sc.defs c → IsPlain sc.defs a → IsPlain sc.defs b → Comes c → Comes a → Comes b → Comes (Choice' h p c q a r b)
  choice_comes h p q r c a b pc pa pb cc' ca cb rest under o items i none low room f go bad =
      let base = base_room sc.defs c (length o) i pc room.0 in
      cc' (pieces.by_zero (part_code b h.ctype) (part_code a h.ctype) ⋯ rest) under o items i none low room.0 (moved under (value_code names sc.defs c) (pieces.by_zero (part_code b h.ctype) (part_code a h.ctype)) rest items f)
      (λ v hv gv after at. zero_reaches s ds are d Good spent under none (omega (arith, base.1, low)) v (part_code b h.ctype) (part_code a h.ctype) rest o after hv (omega (arith, base.0)) at
      (λ below inner l there at'. by v hv gv (v == 0) refl below inner (omega (arith, l, low)) there at'))
      (λ u lu. bad u (Err (Refused (Reason u)), t, lu, (refl, refl)))
    where
      tested : (v : ℕ) (result : Result ℕ (Trouble Cause)) (b' : Bool) → (v == 0) ≡ b' → Gives c v → cond b' (chosen_as h.ctype b) (chosen_as h.ctype a) t result t → value_of sc (Choice' h p c q a r b) t result t
      tested v result b' e gv m = (Ok v, t, gv, (Ok v, t, (refl, refl), subst (λ x. cond x (chosen_as h.ctype b) (chosen_as h.ctype a) t result t) (sym e) m))

      by : (v : ℕ) → v < 2 ^ 32 → Gives c v → (b' : Bool) → (v == 0) ≡ b' → (below inner : List Item) → length below ≤ suc i → At under rest below
          → Frames s below inner (entered (if b' then part_code b h.ctype else part_code a h.ctype) []) → Reached o inner
      by v hv gv true e below inner l there at =
          part_comes b h.ctype rest under below o inner i pb cb none l room.2 there at
          (λ w hw gw. go (converted h.ctype w) (converted_small h.ctype w hw) (tested v (Ok (converted h.ctype w)) true e gv (Ok w, t, gw, (Ok w, t, (refl, refl), (refl, refl)))))
          (λ u lu. bad u (tested v (Err (Refused (Reason u))) true e gv (Err (Refused (Reason u)), t, lu, (refl, refl))))
      by v hv gv false e below inner l there at =
          part_comes a h.ctype rest under below o inner i pa ca none l room.1 there at
          (λ w hw gw. go (converted h.ctype w) (converted_small h.ctype w hw) (tested v (Ok (converted h.ctype w)) false e gv (Ok w, t, gw, (Ok w, t, (refl, refl), (refl, refl)))))
          (λ u lu. bad u (tested v (Err (Refused (Reason u))) false e gv (Err (Refused (Reason u)), t, lu, (refl, refl))))

  -- ---- `||` and `&&`

  abbrev number_means : ℕ → Means ℕ
  number_means n = gives n

  abbrev truth_of : Typed → Means ℕ
  truth_of e = value_of sc e >>= λ v. gives v >>= λ x. cond (x == 0) (number_means 0) (number_means 1)

  abbrev truth_code : Code
  truth_code = pieces.by_zero (Num (pos 0) Stop) (Num (pos 1) Stop)

  -- a number alone in a procedure
  number_comes : (n : ℕ) (rest : Code) (under below : List Item) (o : List PsObj) (items : List Item) → integer n ≡ Int (pos n) → length o < 100000 → At under rest below → At below (Num (pos n) Stop) items
      → Behind under rest (integer n ∷ o) → Reached o items
  number_comes n rest under below o items same few there f go =
      number_reaches s ds are d Good spent below (pos n) Stop o items few f
      (λ after at. subst (Reached (Int (pos n) ∷ o)) (sym (at_bottom s below after at)) (subst (λ x. Reached (x ∷ o) below) same (go below there)))

  -- whether a number is 0, at the end of a procedure
  truth_comes : (v : ℕ) (rest : Code) (under below : List Item) (o : List PsObj) (items : List Item) → v < 2 ^ 32 → under_stopped below ≡ None → length below + 3 ≤ 1000 → length o + 4 ≤ 100000
      → At under rest below → At below (truth_code ⋯ Stop) items → Behind under rest (integer (if v == 0 then 0 else 1) ∷ o) → Reached (integer v ∷ o) items
  truth_comes v rest under below o items hv none room few there f go =
      zero_reaches s ds are d Good spent below none room v (Num (pos 0) Stop) (Num (pos 1) Stop) Stop o items hv few f
      (λ low inner l at f'. by (v == 0) (subst (λ x. Frames s under x (entered rest [])) (sym (at_bottom s below low at)) there) f' go)
    where
      by : {low inner : List Item} (b : Bool) → At under rest low → Frames s low inner (entered (if b then Num (pos 0) Stop else Num (pos 1) Stop) []) → Behind under rest (integer (if b then 0 else 1) ∷ o) → Reached o inner
      by {low} {inner} true there f go = number_comes 0 rest under low o inner refl (omega (arith, few)) there f go
      by {low} {inner} false there f go = number_comes 1 rest under low o inner refl (omega (arith, few)) there f go

  -- the second operand, in a procedure of its own
  second_comes : (e : Typed) (rest : Code) (under below : List Item) (o : List PsObj) (items : List Item) (i : ℕ) → IsPlain sc.defs e → Comes e
      → under_stopped under ≡ None → length below ≤ suc i → RoomFor e (length o) (suc i) → At under rest below → At below (value_code names sc.defs e ⋯ truth_code) items
      → ((v : ℕ) → v < 2 ^ 32 → Gives e v → Behind under rest (integer (if v == 0 then 0 else 1) ∷ o)) → ((u : Undef) → Lacks e u → Failed u) → Reached o items
  second_comes e rest under below o items i plain ce none low room there f go bad =
      let none' : under_stopped below ≡ None = not_stopped s under below (entered rest []) there none in
      let base = base_room sc.defs e (length o) (suc i) plain room in
      ce truth_code below o items (suc i) none' low room f
      (λ v hv gv after at. truth_comes v rest under below o after hv none' (omega (arith, base.1, low)) (omega (arith, base.0)) there at (go v hv gv)) bad

  truth_given : (e : Typed) (v : ℕ) → Gives e v → truth_of e t (Ok (if v == 0 then 0 else 1)) t
  truth_given e v g = (Ok v, t, g, (Ok v, t, (refl, refl), by (v == 0)))
    where
      by : (b : Bool) → cond b (number_means 0) (number_means 1) t (Ok (if b then 0 else 1)) t
      by true = (refl, refl)
      by false = (refl, refl)

  bit_small : (b : Bool) → (if b then 0 else 1) < 2 ^ 32
  bit_small true = lit< tt
  bit_small false = lit< tt

  or_comes : (h : _) (p q : _) (a b : Typed) → IsPlain sc.defs a → IsPlain sc.defs b → Comes a → Comes b → Comes (Or' h p a q b)
  or_comes h p q a b pa pb ca cb rest under o items i none low room f go bad =
      let base = base_room sc.defs a (length o) i pa room.0 in
      ca (pieces.by_zero (value_code names sc.defs b ⋯ truth_code) (Num (pos 1) Stop) ⋯ rest) under o items i none low room.0
      (moved under (value_code names sc.defs a) (pieces.by_zero (value_code names sc.defs b ⋯ truth_code) (Num (pos 1) Stop)) rest items f)
      (λ v hv gv after at. zero_reaches s ds are d Good spent under none (omega (arith, base.1, low)) v (value_code names sc.defs b ⋯ truth_code) (Num (pos 1) Stop) rest o after hv (omega (arith, base.0)) at
      (λ below inner l there at'. by v hv gv (v == 0) refl below inner (omega (arith, l, low)) there at'))
      (λ u lu. bad u (Err (Refused (Reason u)), t, lu, (refl, refl)))
    where
      tested : (v : ℕ) (result : Result ℕ (Trouble Cause)) (b' : Bool) → (v == 0) ≡ b' → Gives a v → cond b' (truth_of b) (number_means 1) t result t → value_of sc (Or' h p a q b) t result t
      tested v result b' e gv m = (Ok v, t, gv, (Ok v, t, (refl, refl), subst (λ x. cond x (truth_of b) (number_means 1) t result t) (sym e) m))

      few : length o < 100000
      few = let base = base_room sc.defs a (length o) i pa room.0 in omega (arith, base.0)

      by : (v : ℕ) → v < 2 ^ 32 → Gives a v → (b' : Bool) → (v == 0) ≡ b' → (below inner : List Item) → length below ≤ suc i → At under rest below
          → Frames s below inner (entered (if b' then value_code names sc.defs b ⋯ truth_code else Num (pos 1) Stop) []) → Reached o inner
      by v hv gv true e below inner l there at =
          second_comes b rest under below o inner i pb cb none l room.1 there at
          (λ w hw gw. go (if w == 0 then 0 else 1) (bit_small (w == 0)) (tested v (Ok (if w == 0 then 0 else 1)) true e gv (truth_given b w gw)))
          (λ u lu. bad u (tested v (Err (Refused (Reason u))) true e gv (Err (Refused (Reason u)), t, lu, (refl, refl))))
      by v hv gv false e below inner l there at =
          number_comes 1 rest under below o inner refl few there at (go 1 (lit< tt) (tested v (Ok 1) false e gv (refl, refl)))

  and_comes : (h : _) (p q : _) (a b : Typed) → IsPlain sc.defs a → IsPlain sc.defs b → Comes a → Comes b → Comes (And' h p a q b)
  and_comes h p q a b pa pb ca cb rest under o items i none low room f go bad =
      let base = base_room sc.defs a (length o) i pa room.0 in
      ca (pieces.by_zero (Num (pos 0) Stop) (value_code names sc.defs b ⋯ truth_code) ⋯ rest) under o items i none low room.0
      (moved under (value_code names sc.defs a) (pieces.by_zero (Num (pos 0) Stop) (value_code names sc.defs b ⋯ truth_code)) rest items f)
      (λ v hv gv after at. zero_reaches s ds are d Good spent under none (omega (arith, base.1, low)) v (Num (pos 0) Stop) (value_code names sc.defs b ⋯ truth_code) rest o after hv (omega (arith, base.0)) at
      (λ below inner l there at'. by v hv gv (v == 0) refl below inner (omega (arith, l, low)) there at'))
      (λ u lu. bad u (Err (Refused (Reason u)), t, lu, (refl, refl)))
    where
      tested : (v : ℕ) (result : Result ℕ (Trouble Cause)) (b' : Bool) → (v == 0) ≡ b' → Gives a v → cond b' (number_means 0) (truth_of b) t result t → value_of sc (And' h p a q b) t result t
      tested v result b' e gv m = (Ok v, t, gv, (Ok v, t, (refl, refl), subst (λ x. cond x (number_means 0) (truth_of b) t result t) (sym e) m))

      few : length o < 100000
      few = let base = base_room sc.defs a (length o) i pa room.0 in omega (arith, base.0)

      by : (v : ℕ) → v < 2 ^ 32 → Gives a v → (b' : Bool) → (v == 0) ≡ b' → (below inner : List Item) → length below ≤ suc i → At under rest below
          → Frames s below inner (entered (if b' then Num (pos 0) Stop else (value_code names sc.defs b ⋯ truth_code)) []) → Reached o inner
      by v hv gv true e below inner l there at =
          number_comes 0 rest under below o inner refl few there at (go 0 (lit< tt) (tested v (Ok 0) true e gv (refl, refl)))
      by v hv gv false e below inner l there at =
          second_comes b rest under below o inner i pb cb none l room.1 there at
          (λ w hw gw. go (if w == 0 then 0 else 1) (bit_small (w == 0)) (tested v (Ok (if w == 0 then 0 else 1)) false e gv (truth_given b w gw)))
          (λ u lu. bad u (tested v (Err (Refused (Reason u))) false e gv (Err (Refused (Reason u)), t, lu, (refl, refl))))

  -- ---- numbers

  size_is : (k : CType) → size_of sc.defs k ≤ 1048576 → Int (pos (bytes_of sc.defs k)) ≡ integer (size_of sc.defs k)
  size_is k h =
      let low : nat_le (size_of sc.defs k) 1048576 ≡ true = le-leb _ _ h in
      let half : nat_lt (size_of sc.defs k) 2147483648 ≡ true = lt-ltb _ _ (omega (arith, h)) in
      rw (low, half) refl

  size_comes : (e : Typed) (k : CType) → size_of sc.defs k ≤ 1048576 → value_code names sc.defs e ≡ Num (pos (bytes_of sc.defs k)) Stop → Gives e (size_of sc.defs k)
      → (rest : Code) (under : List Item) (o : List PsObj) (items : List Item) → length o < 100000 → At under (value_code names sc.defs e ⋯ rest) items
      → ((v : ℕ) → v < 2 ^ 32 → Gives e v → Behind under rest (integer v ∷ o)) → Reached o items
  size_comes e k small code g rest under o items few f go =
      number_reaches s ds are d Good spent under (pos (bytes_of sc.defs k)) rest o items few (subst (λ c. At under (c ⋯ rest) items) code f)
      (subst (λ x. Behind under rest (x ∷ o)) (sym (size_is k small)) (go (size_of sc.defs k) (omega (arith, small)) g))

  -- ---- places behind pointers

  -- the place has an address, or is undefined
  abbrev LeadsTo : Typed → ℕ → Type 0
  LeadsTo e v = place_of sc e t (Ok (Led v)) t

  abbrev LacksPlace : Typed → Undef → Type 0
  LacksPlace e u = place_of sc e t (Err (Refused (Reason u))) t

  -- what is claimed of such a place
  abbrev Leads : Typed → Type 0
  Leads e = (rest : Code) (under : List Item) (o : List PsObj) (items : List Item) (i : ℕ) → under_stopped under ≡ None → length under ≤ i → RoomFor e (length o) i
      → At under (place_code names sc.defs e ⋯ rest) items
      → ((v : ℕ) → v < 2 ^ 32 → LeadsTo e v → Behind under rest (integer v ∷ o)) → ((u : Undef) → LacksPlace e u → Failed u) → Reached o items

  address_comes : (h : _) (p : _) (a : Typed) → IsLed sc.defs a → Leads a → Comes (Address' h p a)
  address_comes h p a led la rest under o items i none low room f go bad =
      la rest under o items i none low room (here items f) (λ v hv gv. go v hv (Ok (Led v), t, gv, (refl, refl))) (λ u lu. bad u (Err (Refused (Reason u)), t, lu, (refl, refl)))
    where
      here : (items : List Item) → At under ((place_code names sc.defs a ⋯ address_of (standing_of a)) ⋯ rest) items → At under (place_code names sc.defs a ⋯ rest) items
      here items f =
          subst (λ (k : Code). At under (k ⋯ rest) items) (follows_stop (place_code names sc.defs a))
          (subst (λ (z : Standing). At under ((place_code names sc.defs a ⋯ address_of z) ⋯ rest) items) (led_stands sc.defs a led) f)

  -- an array
  array_comes : (h : Head) (p : _) (a : Typed) → is_array h.ctype ≡ true → Comes a → Comes (Follow' h p a)
  array_comes h p a array ca rest under o items i none low room f go bad =
      ca rest under o items i none low room (here items f) (λ v hv gv. go v hv (Ok (Led v), t, (Ok v, t, gv, (refl, refl)), found v))
      (λ u lu. bad u (Err (Refused (Reason u)), t, (Err (Refused (Reason u)), t, lu, (refl, refl)), (refl, refl)))
    where
      here : (items : List Item) → At under ((value_code names sc.defs a ⋯ value_at Pointed h.ctype) ⋯ rest) items → At under (value_code names sc.defs a ⋯ rest) items
      here items f =
          subst (λ (k : Code). At under (k ⋯ rest) items) (follows_stop (value_code names sc.defs a))
          (subst (λ (b : Bool). At under ((value_code names sc.defs a ⋯ (if b then Stop else fetched Pointed h.ctype)) ⋯ rest) items) array f)

      found : (v : ℕ) → cond (is_array h.ctype) (gives v) (load sc (kind_of h.ctype) (Led v) >>= λ n. gives (converted h.ctype n)) t (Ok v) t
      found v = subst (λ (b : Bool). cond b (gives v) (load sc (kind_of h.ctype) (Led v) >>= λ n. gives (converted h.ctype n)) t (Ok v) t) (sym array) (refl, refl)

  -- ---- all

  mutual
    pub comes : (e : Typed) → IsPlain sc.defs e → Comes e
    comes (Comma' h p a q b) plain = comma_comes h p q a b (comes a plain.0) (comes b plain.1)
    comes (Choice' h p c q a r b) plain = choice_comes h p q r c a b plain.0 plain.1 plain.2 (comes c plain.0) (comes a plain.1) (comes b plain.2)
    comes (Or' h p a q b) plain = or_comes h p q a b plain.0 plain.1 (comes a plain.0) (comes b plain.1)
    comes (And' h p a q b) plain = and_comes h p q a b plain.0 plain.1 (comes a plain.0) (comes b plain.1)
    comes (Binary' h p a op q b) plain = binary_comes h p q op a b plain.0 plain.1 (comes a plain.1) (comes b plain.2)
    comes (Cast' h p a) plain = cast_comes h p a plain (comes a plain)
    comes (Address' h p a) plain = address_comes h p a plain (leads a plain)
    comes (Follow' h p a) plain = array_comes h p a plain.0 (comes a plain.1)
    comes (Unary' h op p a) plain = unary_comes h p op a plain (comes a plain)
    comes (SizeOf' h p a) plain = λ rest under o items i none low room f go bad.
        size_comes (SizeOf' h p a) (type_of a) plain refl (refl, refl) rest under o items (omega (arith, room.0)) f go
    comes (SizeOfType h k) plain = λ rest under o items i none low room f go bad.
        size_comes (SizeOfType h k) k plain refl (refl, refl) rest under o items (omega (arith, room.0)) f go
    comes (Constant h n) plain = λ rest under o items i none low room f go bad.
        number_reaches s ds are d Good spent under (signed n) rest o items (omega (arith, room.0)) f (go n plain (refl, refl))
    comes (Parens' h p a) plain = λ rest under o items i none low room f go bad. comes a plain rest under o items i none low room f go bad
    comes (Assign' _ _ _ _ _ _) plain = absurd plain
    comes (Before' _ _ _ _) plain = absurd plain
    comes (Index' _ _ _ _ _) plain = absurd plain
    comes (Call' _ _ _ _) plain = absurd plain
    comes (Dot' _ _ _ _) plain = absurd plain
    comes (Arrow' _ _ _ _) plain = absurd plain
    comes (After' _ _ _ _) plain = absurd plain
    comes (Name _ _) plain = absurd plain
    comes (Literal _ _) plain = absurd plain

    leads : (e : Typed) → IsLed sc.defs e → Leads e
    leads (Follow' h p a) led = λ rest under o items i none low room f go bad. comes a led rest under o items i none low room f
        (λ v hv gv. go v hv (Ok v, t, gv, (refl, refl))) (λ u lu. bad u (Err (Refused (Reason u)), t, lu, (refl, refl)))
    leads (Parens' h p a) led = λ rest under o items i none low room f go bad. leads a led rest under o items i none low room f go bad
    leads (Comma' _ _ _ _ _) led = absurd led
    leads (Assign' _ _ _ _ _ _) led = absurd led
    leads (Choice' _ _ _ _ _ _ _) led = absurd led
    leads (Or' _ _ _ _ _) led = absurd led
    leads (And' _ _ _ _ _) led = absurd led
    leads (Binary' _ _ _ _ _ _) led = absurd led
    leads (Cast' _ _ _) led = absurd led
    leads (Before' _ _ _ _) led = absurd led
    leads (Address' _ _ _) led = absurd led
    leads (Unary' _ _ _ _) led = absurd led
    leads (SizeOf' _ _ _) led = absurd led
    leads (SizeOfType _ _) led = absurd led
    leads (Index' _ _ _ _ _) led = absurd led
    leads (Call' _ _ _ _) led = absurd led
    leads (Dot' _ _ _ _) led = absurd led
    leads (Arrow' _ _ _ _) led = absurd led
    leads (After' _ _ _ _) led = absurd led
    leads (Name _ _) led = absurd led
    leads (Constant _ _) led = absurd led
    leads (Literal _ _) led = absurd led

-- the pieces alone, in a procedure that is executed
pub values_left : (sc : Scene) (t : TableUse) (names : List Symbol) (e : Typed) (s : StoreState) (ds : List DictId) (o : List PsObj) (items : List Item) (a : ArrayId) (d : Dial)
    → AreOperators s ds → IsPlain sc.defs e → RoomFor e (length o) (length items) → under_stopped items ≡ None → HasArray s a → Spells s (elements_of s a) (value_code names sc.defs e)
    → AreLeft sc e t s ds o items d (core s ds o (Object (Array a true) ∷ items))
values_left sc t names e s ds o items a d are plain room none has spells =
    let base = base_room sc.defs e (length o) (length items) plain room in
    let inside : Enters s s ds items items a (entered (value_code names sc.defs e) []) = enters s s ds items items a [] bottom (omega (arith, base.1)) has refl (value_code names sc.defs e) spells in
    next_reaches s ds are d (Leaves sc e t s ds o items d) (λ m d' c'. spends m d' c') o o (Object (Array a true) ∷ items) inside.after
    (ap (λ (r : Made). settled (alone (at (core s ds o items) r))) (inside.calls o))
    (comes s ds are d (Leaves sc e t s ds o items d) (λ m d' c'. spends m d' c') sc names t e plain Stop items o inside.after (length items) none (omega arith) room
    (subst (λ k. Frames s items inside.after (entered k [])) (sym (follows_stop (value_code names sc.defs e))) inside.frames)
    (λ v small gives after at' n r m d' c' other run.
    leaves v n r m d' c' small gives (subst (λ x. Runs Operates n d (core s ds (integer v ∷ o) x) r m d' c') (at_bottom s items after at') run))
    (λ u lacks m operands. fails u m operands lacks))
