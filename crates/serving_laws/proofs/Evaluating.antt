-- The pieces of an expression leave its value: by induction over its tree, whatever its leaves are.
use Rattle.std.proofs.Common.{◌≡◌, refl, sym, subst, ℕ, suc, ◌+◌, ◌^◌, ◌<◌, ◌≤◌, true, false, Bool, if◌then◌else◌, cond, inl, inr, Option, Some, None, Result, Ok, Err, List, [], ◌∷◌, length, codes, pos, lit<, arith}
use Rattle.std.specs.Prelude.{◌==◌}
use Rattle.ldb_words.specs.Word.{signed}
use Rattle.ldb_words.specs.declared.kinds.Undef.{Undef}
use Rattle.c_tree.specs.declared.types.CType.{CType}
use Rattle.c_tree.specs.declared.typed.BinaryOp.{BinaryOp}
use Rattle.c_tree.specs.declared.typed.BinaryOp.TheVariants.{Equal, Unequal}
use Rattle.c_tree.specs.declared.typed.UnaryOp.{UnaryOp}
use Rattle.c_tree.specs.declared.typed.Head.{Head}
use Rattle.c_tree.specs.declared.typed.Typed.{Typed}
use Rattle.c_tree.specs.declared.typed.Typed.TheVariants.{Comma', Choice', Or', And', Binary', Cast', Unary'}
use Rattle.c_tree.specs.Types.{type_of, target_of, is_unsigned}
use Rattle.c_judge.specs.declared.symbol.Symbol.{Symbol}
use Rattle.c_operators.specs.Arithmetic.{on_integer, operating_type}
use Rattle.ps_store.specs.declared.object.PsObj.{PsObj}
use Rattle.ps_store.specs.declared.object.PsObj.TheVariants.{Int}
use Rattle.ps_store.specs.declared.object.DictId.{DictId}
use Rattle.ps_store.specs.StoreState.{StoreState}
use Rattle.ps_step.specs.declared.fault.PsError.{PsError}
use Rattle.ps_step.specs.declared.fault.PsFault.TheVariants.{Spent}
use Rattle.ps_step.specs.declared.item.Item.{Item}
use Rattle.ps_step.specs.declared.machine.PsCore.{PsCore}
use Rattle.ps_step.specs.Item.{under_stopped}
use Rattle.ps_run.specs.Runs.{Answer}
use Rattle.ps_text.specs.Code.{Code, Stop, Num, Word}
use Rattle.ps_terms.specs.Machine.{entered}
use Rattle.ps_terms.specs.Stands.{Frames}
use Rattle.ps_words.specs.Words.{error_of}
use Rattle.ps_words.specs.Operators.{integer}
use Rattle.ps_emit.specs.Terms.{◌⋯◌}
use Rattle.dialect_model.specs.Dial.{Dial}
use Rattle.dialect_model.specs.TableUse.{TableUse, Trouble, Refused, gives, ◌>>=◌}
use Rattle.c_bytes.specs.Lvalues.{Scene, Cause, Reason, Means}
use Rattle.c_bytes.specs.Operators.{converted, defined, changed, combined, by_targets}
use Rattle.c_bytes.specs.Evaluation.{value_of}
use Rattle.expr_serve.specs.Operators as pieces
use Rattle.expr_serve.specs.Codes.{value_code, on_two as two_code, by_targets as two_by}
use Rattle.serving_laws.specs.Plain.{AreTaken, RoomFor}
use Rattle.serving_laws.specs.Left.{AreOperators}
use Rattle.serving_laws.specs.Named.{dial_in, dictionaries_in, use_in}
use Rattle.serving_laws.specs.Evaluated.{told_as}
use Rattle.serving_laws.proofs.Small.{Small, words_small, one_small}
use Rattle.serving_laws.proofs.Names.{pop_is}
use Rattle.serving_laws.proofs.Stepping.{Reaches, Fails, Then, at_bottom, not_stopped, number_reaches, manual_reaches}
use Rattle.serving_laws.proofs.Operating.{exchanged, integers_reach, one_reaches, zero_reaches, conversion_reaches, result_by}
use Rattle.serving_laws.proofs.Values.{follows_assoc, follows_stop, converted_small}
use Rattle.serving_laws.proofs.Taking.{Takes, still, given, after, stops, used, passed, tested}

module _ (sc : Scene) (s : StoreState) (cell : ℕ) (own : DictId) (names : List Symbol) (out : List ℕ) (raw : Bool) (are : AreOperators s (dictionaries_in s own))
    (Good : Answer → ℕ → Dial → PsCore → Type 0) (spent : (m : ℕ) (d' : Dial) (c' : PsCore) → Good (Err Spent) m d' c') where
  abbrev ds : List DictId
  ds = dictionaries_in s own

  abbrev d : Dial
  d = dial_in sc cell out raw

  abbrev t : TableUse
  t = use_in s cell own

  abbrev pub At : List Item → Code → List Item → Type 0
  At under k items = Frames s under items (entered k [])

  abbrev pub Reached : List PsObj → List Item → Type 0
  Reached o items = Reaches s ds are d Good spent o items

  abbrev pub Behind : List Item → Code → List PsObj → Type 0
  Behind under rest o = Then s ds are d Good spent under rest o

  abbrev pub Failed : PsError → Type 0
  Failed e = Fails s ds are d Good spent e

  -- a value is left where there is one, and else its error ends the run
  abbrev pub Goes : Means ℕ → List Item → Code → List PsObj → Type 0
  Goes m under rest o = (v : ℕ) → v < 2 ^ 32 → Takes t m (Ok v) → Behind under rest (integer v ∷ o)

  abbrev pub Breaks : {A : Type 0} → Means A → Type 0
  Breaks m = (x : Trouble Cause) (f : PsError) → told_as x ≡ Some f → Takes t m (Err x) → Failed f

  -- what is claimed of an expression at any place
  abbrev pub Comes : Typed → Type 0
  Comes e = (rest : Code) (under : List Item) (o : List PsObj) (items : List Item) (i : ℕ) → under_stopped under ≡ None → length under ≤ i → RoomFor e (length o) i
      → At under (value_code names sc.defs e ⋯ rest) items → Goes (value_of sc e) under rest o → Breaks (value_of sc e) → Reached o items

  -- where it has room there is room for any scalar
  abbrev pub Roomy : Typed → Type 0
  Roomy e = (o i : ℕ) → RoomFor e o i → (o + 5 ≤ 100000) × (i + 3 ≤ 1000)

  pub moved : (under : List Item) (a b c : Code) (items : List Item) → At under ((a ⋯ b) ⋯ c) items → At under (a ⋯ (b ⋯ c)) items
  moved under a b c items f = subst (λ k. At under k items) (follows_assoc a b c) f

  small_ok : (r : Result ℕ Undef) (v : ℕ) → Small r → r ≡ Ok v → v < 2 ^ 32
  small_ok r v h e = subst Small e h

  pub has : (r : Result ℕ Undef) (v : ℕ) → r ≡ Ok v → Takes t (defined r) (Ok v)
  has r v e = subst (λ (r : Result ℕ Undef). Takes t (defined r) (Ok v)) (sym e) (given t v)

  pub lacks : (r : Result ℕ Undef) (u : Undef) → r ≡ Err u → Takes t (defined r) (Err (Refused (Reason u)))
  lacks r u e = subst (λ (r : Result ℕ Undef). Takes t (defined r) (Err (Refused (Reason u)))) (sym e) (still t (defined (Err u)) (Err (Refused (Reason u))) (λ n. (refl, refl)))

  -- ---- forms

  pub comma_comes : (h : Head) (p : _) (a : Typed) (q : _) (b : Typed) → Comes a → Comes b → Comes (Comma' h p a q b)
  comma_comes h p a q b ca cb rest under o items i none low room f go bad =
      ca (Word (codes "pop") (value_code names sc.defs b ⋯ rest)) under o items i none low room.0 (moved under (value_code names sc.defs a) (Word (codes "pop") (value_code names sc.defs b)) rest items f)
      (λ v hv ga after at. manual_reaches s ds are d Good spent under (codes "pop") 2 (value_code names sc.defs b ⋯ rest) (integer v ∷ o) o after pop_is (λ after. refl) at
      (λ after at. cb rest under o after i none low room.1 at
      (λ w hw gb. go w hw (behind v (Ok w) ga (passed t (value_of sc b) w gb)))
      (λ x f e gb. bad x f e (behind v (Err x) ga (stops t (value_of sc b) (λ w. gives w) x gb)))))
      (λ x f e ga. bad x f e (stops t (value_of sc a) (λ v. gives v >>= λ x. value_of sc b >>= λ w. gives w) x ga))
    where
      behind : (v : ℕ) (r : Result ℕ (Trouble Cause)) → Takes t (value_of sc a) (Ok v) → Takes t (value_of sc b >>= λ w. gives w) r → Takes t (value_of sc (Comma' h p a q b)) r
      behind v r ga gb = after t (value_of sc a) (λ v. gives v >>= λ x. value_of sc b >>= λ w. gives w) v r ga (used t v (λ x. value_of sc b >>= λ w. gives w) r gb)

  pub cast_comes : (h : Head) (p : _) (a : Typed) → Roomy a → Comes a → Comes (Cast' h p a)
  cast_comes h p a ra ca rest under o items i none low room f go bad =
      let base = ra (length o) i room in
      ca (pieces.conversion h.ctype ⋯ rest) under o items i none low room (moved under (value_code names sc.defs a) (pieces.conversion h.ctype) rest items f)
      (λ v hv ga after' at. conversion_reaches s ds are d Good spent under none h.ctype v rest o after' hv (omega (arith, base.0)) at
      (go (converted h.ctype v) (converted_small h.ctype v hv) (after t (value_of sc a) (λ v. gives (converted h.ctype v)) v (Ok (converted h.ctype v)) ga (given t (converted h.ctype v)))))
      (λ x f e ga. bad x f e (stops t (value_of sc a) (λ v. gives (converted h.ctype v)) x ga))

  pub one_comes : (h : Head) (op : UnaryOp) (p : _) (a : Typed) → Roomy a → Comes a → Comes (Unary' h op p a)
  one_comes h op p a ra ca rest under o items i none low room f go bad =
      let base = ra (length o) i room in
      ca (pieces.on_one op (type_of a) ⋯ rest) under o items i none low room (moved under (value_code names sc.defs a) (pieces.on_one op (type_of a)) rest items f)
      (λ v hv ga after' at. one_reaches s ds are d Good spent under none (omega (arith, base.1, low)) op (type_of a) v rest o after' hv (omega (arith, base.0)) at
      (λ w e. go w (small_ok (on_integer op (type_of a) v) w (one_small op (type_of a) v hv) e) (behind v (Ok w) ga (has (on_integer op (type_of a) v) w e)))
      (λ u e. bad (Refused (Reason u)) (error_of u) refl (behind v (Err (Refused (Reason u))) ga (lacks (on_integer op (type_of a) v) u e))))
      (λ x f e ga. bad x f e (stops t (value_of sc a) (λ v. changed op (type_of a) v) x ga))
    where
      behind : (v : ℕ) (r : Result ℕ (Trouble Cause)) → Takes t (value_of sc a) (Ok v) → Takes t (defined (on_integer op (type_of a) v)) r → Takes t (value_of sc (Unary' h op p a)) r
      behind v r ga gb = after t (value_of sc a) (λ v. changed op (type_of a) v) v r ga gb

  -- ---- two operands

  -- what is claimed of the pieces of a binary operator on two words
  abbrev pub Two : BinaryOp → CType → CType → Option CType → Option CType → Type 0
  Two op k l a b = (x y : ℕ) (rest : Code) (under : List Item) (o : List PsObj) (items : List Item) → x < 2 ^ 32 → y < 2 ^ 32 → under_stopped under ≡ None → length under + 3 ≤ 1000
      → length o + 5 ≤ 100000 → At under (two_by sc.defs op k l a b ⋯ rest) items → Goes (by_targets sc op k l a b x y) under rest o → Breaks (by_targets sc op k l a b x y)
      → Reached (integer y ∷ integer x ∷ o) items

  numbers_come : (u : Bool) (op : BinaryOp) (x y : ℕ) (rest : Code) (under : List Item) (o : List PsObj) (items : List Item) → x < 2 ^ 32 → y < 2 ^ 32 → under_stopped under ≡ None
      → length under + 3 ≤ 1000 → length o + 5 ≤ 100000 → At under ((if u then pieces.on_unsigned op else pieces.on_ints op) ⋯ rest) items
      → Goes (defined (result_by u op x y)) under rest o → Breaks (defined (result_by u op x y)) → Reached (integer y ∷ integer x ∷ o) items
  numbers_come u op x y rest under o items hx hy none room few f go bad =
      integers_reach s ds are d Good spent under none room u op x y rest o items hx hy (omega (arith, few)) f
      (λ v e. go v (small_ok (result_by u op x y) v (words_small op u x y hx hy) e) (has (result_by u op x y) v e))
      (λ w e. bad (Refused (Reason w)) (error_of w) refl (lacks (result_by u op x y) w e))

  equals_come : (k l : CType) (a b : Option CType) → Two Equal k l a b
  equals_come k l None None = numbers_come (is_unsigned (operating_type Equal k l)) Equal
  equals_come k l (Some a) None = numbers_come false Equal
  equals_come k l (Some a) (Some b) = numbers_come false Equal
  equals_come k l None (Some b) = λ x y rest under o items hx hy none room few f go bad.
      exchanged s ds are d Good spent under none (integer x) (integer y) (pieces.on_ints Equal ⋯ rest) o items f
      (λ after at. numbers_come false Equal y x rest under o after hy hx none room few at go bad)

  unequals_come : (k l : CType) (a b : Option CType) → Two Unequal k l a b
  unequals_come k l None None = numbers_come (is_unsigned (operating_type Unequal k l)) Unequal
  unequals_come k l (Some a) None = numbers_come false Unequal
  unequals_come k l (Some a) (Some b) = numbers_come false Unequal
  unequals_come k l None (Some b) = λ x y rest under o items hx hy none room few f go bad.
      exchanged s ds are d Good spent under none (integer x) (integer y) (pieces.on_ints Unequal ⋯ rest) o items f
      (λ after at. numbers_come false Unequal y x rest under o after hy hx none room few at go bad)

  pub taken_come : (op : BinaryOp) (k l : CType) → AreTaken op k l → Two op k l (target_of k) (target_of l)
  taken_come op k l (inl e) =
      subst (λ (z : Option CType). Two op k l z (target_of l)) (sym e.0) (subst (λ (z : Option CType). Two op k l None z) (sym e.1) (numbers_come (is_unsigned (operating_type op k l)) op))
  taken_come op k l (inr (inl e)) = subst (λ (z : BinaryOp). Two z k l (target_of k) (target_of l)) (sym e) (equals_come k l (target_of k) (target_of l))
  taken_come op k l (inr (inr e)) = subst (λ (z : BinaryOp). Two z k l (target_of k) (target_of l)) (sym e) (unequals_come k l (target_of k) (target_of l))

  -- both operands, then the operator, and what is made of its result
  module _ {B : Type 0} (op : BinaryOp) (a b : Typed) (whole : ℕ → ℕ → Means B) (made : ℕ → B)
      (ok : (x y v : ℕ) → Takes t (combined sc op (type_of a) (type_of b) x y) (Ok v) → Takes t (whole x y) (Ok (made v)))
      (no : (x y : ℕ) (z : Trouble Cause) → Takes t (combined sc op (type_of a) (type_of b) x y) (Err z) → Takes t (whole x y) (Err z)) where
    abbrev pub Combining : Means B
    Combining = value_of sc a >>= λ x. value_of sc b >>= λ y. whole x y

    behind : (x y : ℕ) (r : Result B (Trouble Cause)) → Takes t (value_of sc a) (Ok x) → Takes t (value_of sc b) (Ok y) → Takes t (whole x y) r → Takes t Combining r
    behind x y r ga gb gv = after t (value_of sc a) (λ x. value_of sc b >>= λ y. whole x y) x r ga (after t (value_of sc b) (λ y. whole x y) y r gb gv)

    here : (under : List Item) (rest : Code) (items : List Item) → At under ((value_code names sc.defs a ⋯ (value_code names sc.defs b ⋯ two_code sc.defs op (type_of a) (type_of b))) ⋯ rest) items
        → At under (value_code names sc.defs a ⋯ (value_code names sc.defs b ⋯ (two_code sc.defs op (type_of a) (type_of b) ⋯ rest))) items
    here under rest items f =
        subst (λ k. At under (value_code names sc.defs a ⋯ k) items) (follows_assoc (value_code names sc.defs b) (two_code sc.defs op (type_of a) (type_of b)) rest)
        (moved under (value_code names sc.defs a) (value_code names sc.defs b ⋯ two_code sc.defs op (type_of a) (type_of b)) rest items f)

    pub operands_come : Two op (type_of a) (type_of b) (target_of (type_of a)) (target_of (type_of b)) → Roomy a → Comes a → Comes b
        → (rest : Code) (under : List Item) (o : List PsObj) (items : List Item) (i : ℕ) → under_stopped under ≡ None → length under ≤ i → RoomFor a (length o) i × RoomFor b (suc (length o)) i
        → At under ((value_code names sc.defs a ⋯ (value_code names sc.defs b ⋯ two_code sc.defs op (type_of a) (type_of b))) ⋯ rest) items
        → ((v : ℕ) → v < 2 ^ 32 → Takes t Combining (Ok (made v)) → Behind under rest (integer v ∷ o)) → Breaks Combining → Reached o items
    operands_come two ra ca cb rest under o items i none low room f go bad =
        let base = ra (length o) i room.0 in
        ca (value_code names sc.defs b ⋯ (two_code sc.defs op (type_of a) (type_of b) ⋯ rest)) under o items i none low room.0 (here under rest items f)
        (λ x hx ga after' at. cb (two_code sc.defs op (type_of a) (type_of b) ⋯ rest) under (integer x ∷ o) after' i none low room.1 at
        (λ y hy gb after' at. two x y rest under o after' hx hy none (omega (arith, base.1, low)) (omega (arith, base.0)) at
        (λ v hv gv. go v hv (behind x y (Ok (made v)) ga gb (ok x y v gv))) (λ z f e gw. bad z f e (behind x y (Err z) ga gb (no x y z gw))))
        (λ z f e gb. bad z f e (after t (value_of sc a) (λ x. value_of sc b >>= λ y. whole x y) x (Err z) ga (stops t (value_of sc b) (λ y. whole x y) z gb))))
        (λ z f e ga. bad z f e (stops t (value_of sc a) (λ x. value_of sc b >>= λ y. whole x y) z ga))

  -- a binary operator
  pub two_come : (h : Head) (p : _) (a : Typed) (op : BinaryOp) (q : _) (b : Typed) → Two op (type_of a) (type_of b) (target_of (type_of a)) (target_of (type_of b)) → Roomy a → Comes a → Comes b → Comes (Binary' h p a op q b)
  two_come h p a op q b two ra ca cb rest under o items i none low room f go bad =
      operands_come op a b (λ x y. combined sc op (type_of a) (type_of b) x y) (λ v. v) (λ x y v g. g) (λ x y z g. g) two ra ca cb rest under o items i none low room f go bad

  -- ---- parts of a choice

  -- one in a procedure of its own: its conversion follows, and then the procedure has ended
  part_comes : (e : Typed) (k : CType) (rest : Code) (under below : List Item) (o : List PsObj) (items : List Item) (i : ℕ) → Roomy e → Comes e
      → under_stopped under ≡ None → length below ≤ suc i → RoomFor e (length o) (suc i) → At under rest below → At below (value_code names sc.defs e ⋯ pieces.conversion k) items
      → ((v : ℕ) → v < 2 ^ 32 → Takes t (value_of sc e) (Ok v) → Behind under rest (integer (converted k v) ∷ o)) → Breaks (value_of sc e) → Reached o items
  part_comes e k rest under below o items i re ce none low room there f go bad =
      let none' : under_stopped below ≡ None = not_stopped s under below (entered rest []) there none in
      let base = re (length o) (suc i) room in
      ce (pieces.conversion k) below o items (suc i) none' low room f
      (λ v hv ge after' at. conversion_reaches s ds are d Good spent below none' k v Stop o after' hv (omega (arith, base.0)) (subst (λ c. At below c after') (sym (follows_stop (pieces.conversion k))) at)
      (λ after' at. subst (Reached (integer (converted k v) ∷ o)) (sym (at_bottom s below after' at)) (go v hv ge below there)))
      bad

  abbrev part_code : Typed → CType → Code
  part_code e k = value_code names sc.defs e ⋯ pieces.conversion k

  abbrev chosen_as : CType → Typed → Means ℕ
  chosen_as k e = value_of sc e >>= λ v. gives v >>= λ x. gives (converted k x)

  chosen_is : (k : CType) (e : Typed) (w : ℕ) → Takes t (value_of sc e) (Ok w) → Takes t (chosen_as k e) (Ok (converted k w))
  chosen_is k e w g = after t (value_of sc e) (λ v. gives v >>= λ x. gives (converted k x)) w (Ok (converted k w)) g (used t w (λ x. gives (converted k x)) (Ok (converted k w)) (given t (converted k w)))

  pub choice_comes : (h : Head) (p : _) (c : Typed) (q : _) (a : Typed) (r : _) (b : Typed) → Roomy c → Roomy a → Roomy b → Comes c → Comes a → Comes b → Comes (Choice' h p c q a r b)
  choice_comes h p c q a r b rc ra rb cc' ca cb rest under o items i none low room f go bad =
      let base = rc (length o) i room.0 in
      cc' (pieces.by_zero (part_code b h.ctype) (part_code a h.ctype) ⋯ rest) under o items i none low room.0 (moved under (value_code names sc.defs c) (pieces.by_zero (part_code b h.ctype) (part_code a h.ctype)) rest items f)
      (λ v hv gc after' at. zero_reaches s ds are d Good spent under none (omega (arith, base.1, low)) v (part_code b h.ctype) (part_code a h.ctype) rest o after' hv (omega (arith, base.0)) at
      (λ below inner l there at'. by v gc (v == 0) refl below inner (omega (arith, l, low)) there at'))
      (λ x f e gc. bad x f e (stops t (value_of sc c) (λ v. gives v >>= λ x. cond (x == 0) (chosen_as h.ctype b) (chosen_as h.ctype a)) x gc))
    where
      by : (v : ℕ) → Takes t (value_of sc c) (Ok v) → (b' : Bool) → (v == 0) ≡ b' → (below inner : List Item) → length below ≤ suc i → At under rest below
          → Frames s below inner (entered (if b' then part_code b h.ctype else part_code a h.ctype) []) → Reached o inner
      by v gc true e below inner l there at =
          part_comes b h.ctype rest under below o inner i rb cb none l room.2 there at
          (λ w hw gw. go (converted h.ctype w) (converted_small h.ctype w hw)
          (tested t (value_of sc c) (chosen_as h.ctype a) (chosen_as h.ctype b) v true (Ok (converted h.ctype w)) e gc (chosen_is h.ctype b w gw)))
          (λ x f k gw. bad x f k (tested t (value_of sc c) (chosen_as h.ctype a) (chosen_as h.ctype b) v true (Err x) e gc (stops t (value_of sc b) (λ v. gives v >>= λ x. gives (converted h.ctype x)) x gw)))
      by v gc false e below inner l there at =
          part_comes a h.ctype rest under below o inner i ra ca none l room.1 there at
          (λ w hw gw. go (converted h.ctype w) (converted_small h.ctype w hw)
          (tested t (value_of sc c) (chosen_as h.ctype a) (chosen_as h.ctype b) v false (Ok (converted h.ctype w)) e gc (chosen_is h.ctype a w gw)))
          (λ x f k gw. bad x f k (tested t (value_of sc c) (chosen_as h.ctype a) (chosen_as h.ctype b) v false (Err x) e gc (stops t (value_of sc a) (λ v. gives v >>= λ x. gives (converted h.ctype x)) x gw)))

  -- ---- `||` and `&&`

  abbrev number_means : ℕ → Means ℕ
  number_means n = gives n

  abbrev truth_of : Typed → Means ℕ
  truth_of e = value_of sc e >>= λ v. gives v >>= λ x. cond (x == 0) (number_means 0) (number_means 1)

  truth_is : (e : Typed) (v : ℕ) → Takes t (value_of sc e) (Ok v) → Takes t (truth_of e) (Ok (if v == 0 then 0 else 1))
  truth_is e v g = by (v == 0) refl
    where
      by : (b : Bool) → (v == 0) ≡ b → Takes t (truth_of e) (Ok (if b then 0 else 1))
      by true k = tested t (value_of sc e) (number_means 1) (number_means 0) v true (Ok 0) k g (given t 0)
      by false k = tested t (value_of sc e) (number_means 1) (number_means 0) v false (Ok 1) k g (given t 1)

  abbrev truth_code : Code
  truth_code = pieces.by_zero (Num (pos 0) Stop) (Num (pos 1) Stop)

  -- a number alone in a procedure
  number_comes : (n : ℕ) (rest : Code) (under below : List Item) (o : List PsObj) (items : List Item) → integer n ≡ Int (pos n) → length o < 100000 → At under rest below → At below (Num (pos n) Stop) items
      → Behind under rest (integer n ∷ o) → Reached o items
  number_comes n rest under below o items same few there f go =
      number_reaches s ds are d Good spent below (pos n) Stop o items few f
      (λ after at. subst (Reached (Int (pos n) ∷ o)) (sym (at_bottom s below after at)) (subst (λ x. Reached (x ∷ o) below) same (go below there)))

  -- whether a number is 0, at the end of a procedure
  truth_comes : (v : ℕ) (rest : Code) (under below : List Item) (o : List PsObj) (items : List Item) → v < 2 ^ 32 → under_stopped below ≡ None → length below + 3 ≤ 1000 → length o + 4 ≤ 100000
      → At under rest below → At below (truth_code ⋯ Stop) items → Behind under rest (integer (if v == 0 then 0 else 1) ∷ o) → Reached (integer v ∷ o) items
  truth_comes v rest under below o items hv none room few there f go =
      zero_reaches s ds are d Good spent below none room v (Num (pos 0) Stop) (Num (pos 1) Stop) Stop o items hv few f
      (λ low inner l at f'. by (v == 0) (subst (λ x. Frames s under x (entered rest [])) (sym (at_bottom s below low at)) there) f' go)
    where
      by : {low inner : List Item} (b : Bool) → At under rest low → Frames s low inner (entered (if b then Num (pos 0) Stop else Num (pos 1) Stop) []) → Behind under rest (integer (if b then 0 else 1) ∷ o) → Reached o inner
      by {low} {inner} true there f go = number_comes 0 rest under low o inner refl (omega (arith, few)) there f go
      by {low} {inner} false there f go = number_comes 1 rest under low o inner refl (omega (arith, few)) there f go

  -- the second operand, in a procedure of its own
  second_comes : (e : Typed) (rest : Code) (under below : List Item) (o : List PsObj) (items : List Item) (i : ℕ) → Roomy e → Comes e
      → under_stopped under ≡ None → length below ≤ suc i → RoomFor e (length o) (suc i) → At under rest below → At below (value_code names sc.defs e ⋯ truth_code) items
      → ((v : ℕ) → v < 2 ^ 32 → Takes t (value_of sc e) (Ok v) → Behind under rest (integer (if v == 0 then 0 else 1) ∷ o)) → Breaks (value_of sc e) → Reached o items
  second_comes e rest under below o items i re ce none low room there f go bad =
      let none' : under_stopped below ≡ None = not_stopped s under below (entered rest []) there none in
      let base = re (length o) (suc i) room in
      ce truth_code below o items (suc i) none' low room f
      (λ v hv ge after at. truth_comes v rest under below o after hv none' (omega (arith, base.1, low)) (omega (arith, base.0)) there at (go v hv ge)) bad

  bit_small : (b : Bool) → (if b then 0 else 1) < 2 ^ 32
  bit_small true = lit< tt
  bit_small false = lit< tt

  pub or_comes : (h : Head) (p : _) (a : Typed) (q : _) (b : Typed) → Roomy a → Roomy b → Comes a → Comes b → Comes (Or' h p a q b)
  or_comes h p a q b ra rb ca cb rest under o items i none low room f go bad =
      let base = ra (length o) i room.0 in
      ca (pieces.by_zero (value_code names sc.defs b ⋯ truth_code) (Num (pos 1) Stop) ⋯ rest) under o items i none low room.0
      (moved under (value_code names sc.defs a) (pieces.by_zero (value_code names sc.defs b ⋯ truth_code) (Num (pos 1) Stop)) rest items f)
      (λ v hv ga after at. zero_reaches s ds are d Good spent under none (omega (arith, base.1, low)) v (value_code names sc.defs b ⋯ truth_code) (Num (pos 1) Stop) rest o after hv (omega (arith, base.0)) at
      (λ below inner l there at'. by v ga (v == 0) refl below inner (omega (arith, l, low)) there at'))
      (λ x f e ga. bad x f e (stops t (value_of sc a) (λ v. gives v >>= λ x. cond (x == 0) (truth_of b) (number_means 1)) x ga))
    where
      few : length o < 100000
      few = let base = ra (length o) i room.0 in omega (arith, base.0)

      by : (v : ℕ) → Takes t (value_of sc a) (Ok v) → (b' : Bool) → (v == 0) ≡ b' → (below inner : List Item) → length below ≤ suc i → At under rest below
          → Frames s below inner (entered (if b' then value_code names sc.defs b ⋯ truth_code else Num (pos 1) Stop) []) → Reached o inner
      by v ga true e below inner l there at =
          second_comes b rest under below o inner i rb cb none l room.1 there at
          (λ w hw gb. go (if w == 0 then 0 else 1) (bit_small (w == 0)) (tested t (value_of sc a) (number_means 1) (truth_of b) v true (Ok (if w == 0 then 0 else 1)) e ga (truth_is b w gb)))
          (λ x f k gb. bad x f k (tested t (value_of sc a) (number_means 1) (truth_of b) v true (Err x) e ga (stops t (value_of sc b) (λ v. gives v >>= λ x. cond (x == 0) (number_means 0) (number_means 1)) x gb)))
      by v ga false e below inner l there at =
          number_comes 1 rest under below o inner refl few there at (go 1 (lit< tt) (tested t (value_of sc a) (number_means 1) (truth_of b) v false (Ok 1) e ga (given t 1)))

  pub and_comes : (h : Head) (p : _) (a : Typed) (q : _) (b : Typed) → Roomy a → Roomy b → Comes a → Comes b → Comes (And' h p a q b)
  and_comes h p a q b ra rb ca cb rest under o items i none low room f go bad =
      let base = ra (length o) i room.0 in
      ca (pieces.by_zero (Num (pos 0) Stop) (value_code names sc.defs b ⋯ truth_code) ⋯ rest) under o items i none low room.0
      (moved under (value_code names sc.defs a) (pieces.by_zero (Num (pos 0) Stop) (value_code names sc.defs b ⋯ truth_code)) rest items f)
      (λ v hv ga after at. zero_reaches s ds are d Good spent under none (omega (arith, base.1, low)) v (Num (pos 0) Stop) (value_code names sc.defs b ⋯ truth_code) rest o after hv (omega (arith, base.0)) at
      (λ below inner l there at'. by v ga (v == 0) refl below inner (omega (arith, l, low)) there at'))
      (λ x f e ga. bad x f e (stops t (value_of sc a) (λ v. gives v >>= λ x. cond (x == 0) (number_means 0) (truth_of b)) x ga))
    where
      few : length o < 100000
      few = let base = ra (length o) i room.0 in omega (arith, base.0)

      by : (v : ℕ) → Takes t (value_of sc a) (Ok v) → (b' : Bool) → (v == 0) ≡ b' → (below inner : List Item) → length below ≤ suc i → At under rest below
          → Frames s below inner (entered (if b' then Num (pos 0) Stop else (value_code names sc.defs b ⋯ truth_code)) []) → Reached o inner
      by v ga true e below inner l there at =
          number_comes 0 rest under below o inner refl few there at (go 0 (lit< tt) (tested t (value_of sc a) (truth_of b) (number_means 0) v true (Ok 0) e ga (given t 0)))
      by v ga false e below inner l there at =
          second_comes b rest under below o inner i rb cb none l room.1 there at
          (λ w hw gb. go (if w == 0 then 0 else 1) (bit_small (w == 0)) (tested t (value_of sc a) (truth_of b) (number_means 0) v false (Ok (if w == 0 then 0 else 1)) e ga (truth_is b w gb)))
          (λ x f k gb. bad x f k (tested t (value_of sc a) (truth_of b) (number_means 0) v false (Err x) e ga (stops t (value_of sc b) (λ v. gives v >>= λ x. cond (x == 0) (number_means 0) (number_means 1)) x gb)))

  -- ---- numbers

  pub number_is_left : (e : Typed) (n : ℕ) → n < 2 ^ 32 → value_code names sc.defs e ≡ Num (signed n) Stop → Takes t (value_of sc e) (Ok n) → Roomy e → Comes e
  number_is_left e n small code g re rest under o items i none low room f go bad =
      let base = re (length o) i room in
      number_reaches s ds are d Good spent under (signed n) rest o items (omega (arith, base.0)) (subst (λ c. At under (c ⋯ rest) items) code f) (go n small g)
