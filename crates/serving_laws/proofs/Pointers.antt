-- Pointers as operands: sums with integers, and what is read where one leads.
use Rattle.std.proofs.Common.{◌≡◌, refl, sym, ap, subst, ◌∙◌, ℕ, ◌+◌, ◌^◌, ◌<◌, ◌≤◌, true, false, Bool, Option, Some, None, Result, Ok, Err, List, [], ◌∷◌, length, codes, pos, arith}
use Rattle.ldb_words.specs.declared.kinds.Kind.{Kind}
use Rattle.c_tree.specs.declared.types.CType.{CType}
use Rattle.c_tree.specs.declared.typed.BinaryOp.{BinaryOp}
use Rattle.c_tree.specs.declared.typed.BinaryOp.TheVariants.{Less, Greater, LessEqual, GreaterEqual, Add, Subtract}
use Rattle.c_tree.specs.Types.{target_of, kind_of}
use Rattle.c_tree.specs.Layout.{size_of}
use Rattle.c_judge.specs.declared.symbol.Symbol.{Symbol}
use Rattle.ps_store.specs.declared.object.PsObj.{PsObj}
use Rattle.ps_store.specs.declared.object.DictId.{DictId}
use Rattle.ps_store.specs.StoreState.{StoreState}
use Rattle.ps_step.specs.declared.fault.PsError.TheVariants.{RangeCheck}
use Rattle.ps_step.specs.declared.fault.PsFault.TheVariants.{Spent}
use Rattle.ps_step.specs.declared.item.Item.{Item}
use Rattle.ps_step.specs.declared.machine.PsCore.{PsCore}
use Rattle.ps_step.specs.Item.{under_stopped}
use Rattle.ps_run.specs.Runs.{Answer}
use Rattle.ps_text.specs.Code.{Code, Num, Word, Lit}
use Rattle.ps_words.specs.Operators.{integer}
use Rattle.ps_places.specs.Places.{place}
use Rattle.frame_bytes.specs.declared.frame.Space.TheVariants.{Memory}
use Rattle.frame_bytes.specs.Bytes.{fetched, fetched_at}
use Rattle.dialect_model.specs.Dial.{Dial}
use Rattle.dialect_model.specs.TableUse.{TableUse, Trouble, Kind as Raised, gives, ◌>>=◌}
use Rattle.c_bytes.specs.Lvalues.{Scene, Cause, Means, Pointed, bytes_with, load, live_at, fetched_from, or_range, leaf_of}
use Rattle.c_bytes.specs.Operators.{converted}
use Rattle.ps_emit.specs.Terms.{◌⋯◌}
use Rattle.expr_serve.specs.Codes.{on_pointer}
use Rattle.serving_laws.specs.Left.{AreOperators}
use Rattle.serving_laws.specs.Named.{dial_in, HasSpaces, dictionaries_in, use_in}
use Rattle.serving_laws.specs.Evaluated.{IsSettled, IsOrder, less, greater, at_most, at_least, OnPointers, on, on_by, back, ordered, apart}
use Rattle.serving_laws.proofs.Operating.{exchanged}
use Rattle.serving_laws.proofs.Reading.{IsFetched, in_memory, name_reaches, fetch_reaches}
use Rattle.serving_laws.proofs.Taking.{Takes, still, given, after, stops}
use Rattle.serving_laws.proofs.Evaluating.{At, Reached, Behind, Goes, Breaks, Two}
use Rattle.serving_laws.proofs.Pointing.{leaf_reaches}
use Rattle.serving_laws.proofs.Moving.{size_same, counted_reach}
use Rattle.serving_laws.proofs.Comparing.{ordered_reach, difference_reaches}

module _ (sc : Scene) (s : StoreState) (cell : ℕ) (own : DictId) (names : List Symbol) (out : List ℕ) (raw : Bool) (spaces : HasSpaces s) (settled : IsSettled sc s) (are : AreOperators s (dictionaries_in s own))
    (Good : Answer → ℕ → Dial → PsCore → Type 0) (spent : (m : ℕ) (d' : Dial) (c' : PsCore) → Good (Err Spent) m d' c') where
  abbrev ds : List DictId
  ds = dictionaries_in s own

  abbrev d : Dial
  d = dial_in sc cell out raw

  abbrev t : TableUse
  t = use_in s cell own

  abbrev Reach : List PsObj → List Item → Type 0
  Reach o items = Reached sc s cell own names out raw are Good spent o items

  abbrev Then : List Item → Code → List PsObj → Type 0
  Then under rest o = Behind sc s cell own names out raw are Good spent under rest o

  abbrev Starts : List Item → Code → List Item → Type 0
  Starts under k items = At sc s cell own names out raw are Good spent under k items

  abbrev Go : Means ℕ → List Item → Code → List PsObj → Type 0
  Go m under rest o = Goes sc s cell own names out raw are Good spent m under rest o

  abbrev Break : {A : Type 0} → Means A → Type 0
  Break m = Breaks sc s cell own names out raw are Good spent m

  -- ---- two operands

  abbrev Twice : BinaryOp → CType → CType → Option CType → Option CType → Type 0
  Twice op k l a b = Two sc s cell own names out raw are Good spent op k l a b

  ordered_come : (op : BinaryOp) (k l a b : CType) → IsOrder op → Twice op k l (Some a) (Some b)
  ordered_come _ k l a b less x y rest under o items hx hy none room few f go bad =
      ordered_reach sc s cell own names out raw settled are Good spent under none Less less (size_of sc.defs a) x y rest o items hx hy room few f go bad
  ordered_come _ k l a b greater x y rest under o items hx hy none room few f go bad =
      ordered_reach sc s cell own names out raw settled are Good spent under none Greater greater (size_of sc.defs a) x y rest o items hx hy room few f go bad
  ordered_come _ k l a b at_most x y rest under o items hx hy none room few f go bad =
      ordered_reach sc s cell own names out raw settled are Good spent under none LessEqual at_most (size_of sc.defs a) x y rest o items hx hy room few f go bad
  ordered_come _ k l a b at_least x y rest under o items hx hy none room few f go bad =
      ordered_reach sc s cell own names out raw settled are Good spent under none GreaterEqual at_least (size_of sc.defs a) x y rest o items hx hy room few f go bad

  pub pointers_come : (op : BinaryOp) (k l : CType) → OnPointers sc s op k l → Twice op k l (target_of k) (target_of l)
  pointers_come _ _ _ (on k l item e e' count low) =
      subst (λ (z : Option CType). Twice Add k l z (target_of l)) (sym e) (subst (λ (z : Option CType). Twice Add k l (Some item) z) (sym e')
      (λ x y rest under o items hx hy none room few f go bad.
      counted_reach sc s cell own names out raw settled are Good spent false item l x y rest under o items low count hx hy none room few f go bad))
  pointers_come _ _ _ (on_by k l item e e' count low) =
      subst (λ (z : Option CType). Twice Add k l z (target_of l)) (sym e) (subst (λ (z : Option CType). Twice Add k l None z) (sym e')
      (λ x y rest under o items hx hy none room few f go bad.
      exchanged s ds are d Good spent under none (integer x) (integer y) (on_pointer sc.defs Add item k ⋯ rest) o items f
      (λ after f. counted_reach sc s cell own names out raw settled are Good spent false item k y x rest under o after low count hy hx none room few f go bad)))
  pointers_come _ _ _ (back k l item e e' count low) =
      subst (λ (z : Option CType). Twice Subtract k l z (target_of l)) (sym e) (subst (λ (z : Option CType). Twice Subtract k l (Some item) z) (sym e')
      (λ x y rest under o items hx hy none room few f go bad.
      counted_reach sc s cell own names out raw settled are Good spent true item l x y rest under o items low count hx hy none room few f go bad))
  pointers_come _ _ _ (ordered op k l a b is e e') =
      subst (λ (z : Option CType). Twice op k l z (target_of l)) (sym e) (subst (λ (z : Option CType). Twice op k l (Some a) z) (sym e')
      (λ x y rest under o items hx hy none room few f go bad.
      ordered_come op k l a b is x y rest under o items hx hy none room few f go bad))
  pointers_come _ _ _ (apart k l a b e e' low) =
      subst (λ (z : Option CType). Twice Subtract k l z (target_of l)) (sym e) (subst (λ (z : Option CType). Twice Subtract k l (Some a) z) (sym e')
      (λ x y rest under o items hx hy none room few f go bad.
      difference_reaches sc s cell own names out raw settled are Good spent under none (size_of sc.defs a) x y rest o items hx hy few
      (subst (λ (n : ℕ). Starts under (Num (pos n) (Word (codes "ptrsub") rest)) items) (size_same sc.defs a low) f) go bad))

  -- ---- a scalar where a pointer leads

  abbrev scalar_at : CType → ℕ → Means ℕ
  scalar_at k v = load sc (kind_of k) (Pointed v) >>= λ n. gives (converted k n)

  memory_same : (v : ℕ) (k : Kind) → fetched_at (bytes_with sc cell) (place Memory v) k ≡ fetched_at (bytes_with sc 0) (place Memory v) k
  unfolding fetched
  memory_same v k = refl

  abbrev Loads : CType → ℕ → Kind → Result ℕ (Trouble Cause) → Type 0
  Loads k v kind r = Takes t (load sc kind (Pointed v) >>= λ n. gives (converted k n)) r

  loads : (k : CType) (v : ℕ) (kind : Kind) (n : ℕ) → Takes t (live_at sc (Pointed v) (leaf_of kind ∷ [])) (Ok tt) → fetched_at (bytes_with sc cell) (place Memory v) kind ≡ Some n → Loads k v kind (Ok (converted k n))
  loads k v kind n live e =
      after t (load sc kind (Pointed v)) (λ n. gives (converted k n)) n (Ok (converted k n))
      (after t (live_at sc (Pointed v) (leaf_of kind ∷ [])) (λ u. fetched_from sc kind (Pointed v)) tt (Ok n) live
      (subst (λ (b : Option ℕ). Takes t (or_range b) (Ok n)) (sym (sym (memory_same v kind) ∙ e)) (given t n))) (given t (converted k n))

  outside : (k : CType) (v : ℕ) (kind : Kind) → Takes t (live_at sc (Pointed v) (leaf_of kind ∷ [])) (Ok tt) → fetched_at (bytes_with sc cell) (place Memory v) kind ≡ None → Loads k v kind (Err (Raised RangeCheck))
  outside k v kind live e =
      stops t (load sc kind (Pointed v)) (λ n. gives (converted k n)) (Raised RangeCheck)
      (after t (live_at sc (Pointed v) (leaf_of kind ∷ [])) (λ u. fetched_from sc kind (Pointed v)) tt (Err (Raised RangeCheck)) live
      (subst (λ (b : Option ℕ). Takes t (or_range b) (Err (Raised RangeCheck))) (sym (sym (memory_same v kind) ∙ e)) (still t (or_range None) (Err (Raised RangeCheck)) (λ n. (refl, refl)))))

  dead : (k : CType) (v : ℕ) (kind : Kind) (x : Trouble Cause) → Takes t (live_at sc (Pointed v) (leaf_of kind ∷ [])) (Err x) → Loads k v kind (Err x)
  dead k v kind x g =
      stops t (load sc kind (Pointed v)) (λ n. gives (converted k n)) x (stops t (live_at sc (Pointed v) (leaf_of kind ∷ [])) (λ u. fetched_from sc kind (Pointed v)) x g)

  pub scalar_reaches : (k : CType) (g : IsFetched k) (v : ℕ) (rest : Code) (under : List Item) (o : List PsObj) (items : List Item) → v < 2 ^ 32 → under_stopped under ≡ None → length under + 3 ≤ 1000
      → length o + 5 ≤ 100000 → ((n : ℕ) → fetched_at (bytes_with sc cell) (place Memory v) g.kind ≡ Some n → converted k n < 2 ^ 32)
      → Starts under (Lit g.name (Word (codes "Leaf") (Lit g.name (Word (codes "fetch") rest)))) items → Go (scalar_at k v) under rest o → Break (scalar_at k v) → Reach (integer v ∷ o) items
  scalar_reaches k g v rest under o items hv none room few small f go bad =
      name_reaches sc s ds cell out raw are Good spent under none room g.name (Word (codes "Leaf") (Lit g.name (Word (codes "fetch") rest))) (integer v ∷ o) items (omega (arith, few)) f
      (λ u is after f. leaf_reaches sc s cell own out raw settled are Good spent under none v u g.name g.kind (Lit g.name (Word (codes "fetch") rest)) o after hv is g.named f
      (λ live after f. fetch_reaches sc s ds cell out raw are Good spent under none room spaces g.kind g.name g.named (place Memory v) (in_memory v hv) rest o after few f
      (λ n there. subst (Then under rest) (ap (λ (x : PsObj). x ∷ o) (sym (g.same n))) (go (converted k n) (small n there) (as_kind (Ok (converted k n)) (loads k v g.kind n live there))))
      (λ there. bad (Raised RangeCheck) RangeCheck refl (as_kind (Err (Raised RangeCheck)) (outside k v g.kind live there))))
      (λ x e told no. bad x e told (as_kind (Err x) (dead k v g.kind x no))))
    where
      as_kind : (r : Result ℕ (Trouble Cause)) → Loads k v g.kind r → Takes t (scalar_at k v) r
      as_kind r h = subst (λ (kind : Kind). Loads k v kind r) (sym g.kind_is) h
