-- Two pointers into one object: their order, and how many items lie between.
use Rattle.std.proofs.Common.{◌≡◌, refl, sym, ap, subst, ◌∙◌, ℕ, ℤ, zero, suc, ◌+◌, ◌^◌, ◌<◌, ◌≤◌, nat_eq, nat_lt, true, false, Bool, if◌then◌else◌, Option, Some, None, Result, Ok, Err, List, ◌∷◌, length, codes, pos, negsuc, lit<, ltb-true, arith}
use Rattle.std.specs.Prelude.{◌-ℤ◌, ◌&&◌, int_lt, int_le, int_div}
use Rattle.std.specs.Int.{w32}
use Rattle.std.proofs.lemmas.Int.{to_z-of_z}
use Rattle.ldb_words.specs.Word.{signed, word_of_signed}
use Rattle.ldb_words.specs.declared.kinds.Undef.{Undef}
use Rattle.c_tree.specs.declared.typed.BinaryOp.{BinaryOp}
use Rattle.c_tree.specs.declared.typed.BinaryOp.TheVariants.{Less, Greater, LessEqual, GreaterEqual, Subtract}
use Rattle.c_judge.specs.declared.symbol.Symbol.{Symbol}
use Rattle.c_operators.specs.Arithmetic.{truth, on_ints}
use Rattle.ps_store.specs.declared.object.PsObj.{PsObj}
use Rattle.ps_store.specs.declared.object.PsObj.TheVariants.{Int}
use Rattle.ps_store.specs.declared.object.DictId.{DictId}
use Rattle.ps_store.specs.StoreState.{StoreState}
use Rattle.ps_step.specs.declared.fault.PsError.{PsError}
use Rattle.ps_step.specs.declared.fault.PsError.TheVariants.{RangeCheck, UndefinedResult}
use Rattle.ps_step.specs.declared.fault.PsFault.TheVariants.{Spent}
use Rattle.ps_step.specs.declared.item.Item.{Item}
use Rattle.ps_step.specs.declared.machine.PsCore.{PsCore}
use Rattle.ps_step.specs.Item.{under_stopped}
use Rattle.ps_step.specs.Results.{◌>>=◌}
use Rattle.ps_step.specs.Arithmetic.{is_integer, in_range, quotient}
use Rattle.ps_run.specs.Runs.{Answer}
use Rattle.ps_text.specs.Code.{Code, Num, Word}
use Rattle.ps_terms.specs.Stands.{core}
use Rattle.ps_words.specs.Operators.{integer}
use Rattle.ps_emit.specs.Terms.{◌⋯◌}
use Rattle.ps_pointers.specs.Pointers as pointers
use Rattle.ps_pointers.specs.Pointers.{offsets_in_one, distance, order_of, pointer_difference}
use Rattle.table_model.specs.declared.found.Found.{Found}
use Rattle.dialect_model.specs.Dial.{Dial, Act, Acted, raised}
use Rattle.dialect_model.specs.Acting.{found, found_behind, with_state}
use Rattle.dialect_model.specs.Operators.{act}
use Rattle.dialect_model.specs.TableUse.{TableUse, Kind as Raised, fails, gives, ◌>>=◌ as ◌then◌}
use Rattle.c_bytes.specs.Lvalues.{Scene, Means, live, or_pointer}
use Rattle.c_bytes.specs.Operators.{in_one, counted, two_pointers}
use Rattle.expr_serve.specs.Operators as pieces
use Rattle.serving_laws.specs.Left.{AreOperators}
use Rattle.serving_laws.specs.Named.{dial_in, dictionaries_in, use_in}
use Rattle.serving_laws.specs.Evaluated.{IsSettled, IsOrder, less, greater, at_most, at_least}
use Rattle.serving_laws.proofs.Names.{ptrsub_is, ptrcmp_is}
use Rattle.serving_laws.proofs.Numbers.{back}
use Rattle.serving_laws.proofs.Stepping.{number_reaches}
use Rattle.serving_laws.proofs.Operating.{integers_reach}
use Rattle.serving_laws.proofs.Taking.{still, given}
use Rattle.serving_laws.proofs.Evaluating.{At, Reached, Behind, Goes, Breaks}
use Rattle.serving_laws.proofs.Pointing.{Comes, comes_then, seen, found_is, live_comes, or_pointer_comes, Makes, acted_as, looked_reaches}

-- ---- order, by the sign of a distance

abbrev pub holds : BinaryOp → ℤ → ℤ → Bool
holds Less i j = int_lt i j
holds Greater i j = int_lt j i
holds LessEqual i j = int_le i j
holds GreaterEqual i j = int_le j i
holds op i j = false

by_sign : (op : BinaryOp) → IsOrder op → (a b : ℕ) → holds op (order_of (pos a -ℤ pos b)) (pos 0) ≡ holds op (pos a) (pos b)
by_sign _ less a b = grind arith
by_sign _ greater a b = grind arith
by_sign _ at_most a b = grind arith
by_sign _ at_least a b = grind arith

-- a sign as a word
abbrev sign_word : ℤ → ℕ
sign_word (negsuc n) = 4294967295
sign_word (pos zero) = 0
sign_word (pos (suc n)) = 1

sign_small : (z : ℤ) → sign_word z < 2 ^ 32
sign_small (negsuc n) = lit< tt
sign_small (pos zero) = lit< tt
sign_small (pos (suc n)) = lit< tt

sign_is : (z : ℤ) → signed (sign_word z) ≡ order_of z
sign_is (negsuc n) = refl
sign_is (pos zero) = refl
sign_is (pos (suc n)) = refl

truth_small : (b : Bool) → truth b < 2 ^ 32
truth_small true = lit< tt
truth_small false = lit< tt

abbrev word_done : ℕ → Result ℕ Undef
word_done n = Ok n

ints_hold : (op : BinaryOp) → IsOrder op → (x y : ℕ) → on_ints op x y ≡ word_done (truth (holds op (signed x) (signed y)))
ints_hold _ less x y = refl
ints_hold _ greater x y = refl
ints_hold _ at_most x y = refl
ints_hold _ at_least x y = refl

word_same : (x y : ℕ) → word_done x ≡ word_done y → x ≡ y
word_same x y h = cc

never_word : (x : ℕ) (u : Undef) → word_done x ≡ Err u → ⊥
never_word x u h = cc

-- ---- a quotient is an integer

integer_back : (n : ℤ) → is_integer n ≡ true → signed (word_of_signed n) ≡ n
integer_back (pos n) e = to_z-of_z w32 (pos n) (record { sfits = ltb-true _ _ e })
integer_back (negsuc n) e = to_z-of_z w32 (negsuc n) (record { sfits = ltb-true _ _ e })

abbrev number_done : ℤ → Result ℤ PsError
number_done n = Ok n

done_same : (a b : ℤ) → number_done a ≡ number_done b → a ≡ b
done_same a b h = cc

never_done : (e : PsError) (n : ℤ) → Err e ≡ number_done n → ⊥
never_done e n h = cc

in_range_is : (z n : ℤ) → in_range z ≡ number_done n → is_integer n ≡ true
in_range_is z n e = by (is_integer z) refl e
  where
    by : (b : Bool) → is_integer z ≡ b → (if b then Ok z else Err RangeCheck) ≡ number_done n → is_integer n ≡ true
    by true is e = subst (λ (n : ℤ). is_integer n ≡ true) (done_same z n e) is
    by false is e = absurd (never_done RangeCheck n e)

quotient_back : (a b n : ℤ) → quotient a b ≡ number_done n → signed (word_of_signed n) ≡ n
quotient_back a (negsuc b) n e = integer_back n (in_range_is (int_div a (negsuc b)) n e)
quotient_back a (pos b) n e = by (nat_lt 0 b) e
  where
    by : (c : Bool) → (if c then in_range (int_div a (pos b)) else Err UndefinedResult) ≡ number_done n → signed (word_of_signed n) ≡ n
    by true e = integer_back n (in_range_is (int_div a (pos b)) n e)
    by false e = absurd (never_done UndefinedResult n e)

-- ---- two look-ups

abbrev Seen : Type 0
Seen = Result (Option Found) PsError

-- the second one is asked where the first finds an object
abbrev behind : Option Found → Seen → Seen
behind None r = Ok None
behind (Some o) r = r

abbrev both : {A : Type 0} → Seen → Seen → (Option Found → Option Found → Result A PsError) → Result A PsError
both r q f = r >>= λ o. behind o q >>= λ p. f o p

-- the offsets in the one object
abbrev within : {A : Type 0} → Seen → Seen → (ℤ × ℤ → Result A PsError) → Result A PsError
within r q f = (r >>= pointers.or_pointer) >>= λ a. (q >>= pointers.or_pointer) >>= λ b. pointers.or_pointer (offsets_in_one a b) >>= f

abbrev pair_if : Bool → ℤ → ℤ → Option (ℤ × ℤ)
pair_if c i j = if c then Some (i, j) else None

within_both : {B : Type 0} (r q : Seen) (f : ℤ × ℤ → Result B PsError) (g : ℤ → Result B PsError) → ((a b : ℕ) → f (pos a, pos b) ≡ g (pos a -ℤ pos b)) → within r q f ≡ (both r q distance >>= g)
within_both (Err e) q f g h = refl
within_both (Ok None) q f g h = refl
within_both (Ok (Some a)) (Err e) f g h = refl
within_both (Ok (Some a)) (Ok None) f g h = refl
within_both (Ok (Some a)) (Ok (Some b)) f g h = by (nat_eq a.base b.base && nat_eq a.size b.size)
  where
    by : (c : Bool) → (pointers.or_pointer (pair_if c (pos a.at) (pos b.at)) >>= f) ≡ ((pointers.or_pointer (pair_if c (pos a.at) (pos b.at)) >>= λ ij. number_done (ij.0 -ℤ ij.1)) >>= g)
    by true = h a.at b.at
    by false = refl

both_then : {A : Type 0} (r q : Seen) (f : ℤ → Result A PsError) → both r q (λ o p. distance o p >>= f) ≡ (both r q distance >>= f)
both_then (Err e) q f = refl
both_then (Ok o) q f = by (behind o q)
  where
    by : (p : Seen) → (p >>= λ p. distance o p >>= f) ≡ ((p >>= λ p. distance o p) >>= f)
    by (Err e) = refl
    by (Ok p) = refl

-- what follows what follows
onward : {A B C : Type 0} (r : Result A PsError) (f : A → Result B PsError) (g : B → Result C PsError) → (r >>= λ x. f x >>= g) ≡ ((r >>= f) >>= g)
onward (Ok x) f g = refl
onward (Err e) f g = refl

module _ (sc : Scene) (s : StoreState) (cell : ℕ) (own : DictId) (names : List Symbol) (out : List ℕ) (raw : Bool) (settled : IsSettled sc s) (are : AreOperators s (dictionaries_in s own))
    (Good : Answer → ℕ → Dial → PsCore → Type 0) (spent : (m : ℕ) (d' : Dial) (c' : PsCore) → Good (Err Spent) m d' c') where
  abbrev ds : List DictId
  ds = dictionaries_in s own

  abbrev d : Dial
  d = dial_in sc cell out raw

  abbrev t : TableUse
  t = use_in s cell own

  abbrev Come : {A : Type 0} → Means A → Result A PsError → Type 0
  Come m r = Comes sc s cell own out raw settled m r

  abbrev look : ℕ → Seen
  look p = seen sc s cell own out raw settled p

  in_one_comes : (p q : ℕ) (f : ℤ → ℤ → Means ℕ) (g : ℤ × ℤ → Result ℕ PsError) → ((ij : ℤ × ℤ) → Come (f ij.0 ij.1) (g ij)) → Come (in_one sc p q f) (within (look p) (look q) g)
  in_one_comes p q f g h =
      comes_then sc s cell own out raw settled (live sc p) (λ a. live sc q then λ b. or_pointer (offsets_in_one a b) then λ ij. f ij.0 ij.1) (look p >>= pointers.or_pointer)
      (λ a. (look q >>= pointers.or_pointer) >>= λ b. pointers.or_pointer (offsets_in_one a b) >>= g) (live_comes sc s cell own out raw settled p)
      (λ a e. comes_then sc s cell own out raw settled (live sc q) (λ b. or_pointer (offsets_in_one a b) then λ ij. f ij.0 ij.1) (look q >>= pointers.or_pointer)
      (λ b. pointers.or_pointer (offsets_in_one a b) >>= g) (live_comes sc s cell own out raw settled q)
      (λ b e. comes_then sc s cell own out raw settled (or_pointer (offsets_in_one a b)) (λ ij. f ij.0 ij.1) (pointers.or_pointer (offsets_in_one a b)) g
      (or_pointer_comes sc s cell own out raw settled (offsets_in_one a b)) (λ ij e. h ij)))

  -- ---- the operators

  abbrev Makes' : {A : Type 0} → Act → Result A PsError → (A → List PsObj) → List Item → Type 0
  Makes' a r g after = Makes sc s cell own out raw settled are Good spent a r g after

  behind_is : (o : Option Found) (q : ℕ) → found_behind o d s q ≡ raised (behind o (look q))
  behind_is None q = refl
  behind_is (Some o) q = found_is sc s cell own out raw settled q

  both_act : {A : Type 0} (r : Seen) (q : ℕ) (m : Option Found → Option Found → Result A PsError) (g : A → List PsObj) (after : List Item)
      → Makes' (raised r >>= λ o. found_behind o d s q >>= λ p. with_state d (m o p >>= λ x. Ok (core s ds (g x) after))) (both r (look q) m) g after
  both_act (Err e) q m g after = refl
  both_act (Ok o) q m g after =
      ap (λ (z : Acted (Option Found)). z >>= λ p. with_state d (m o p >>= λ x. Ok (core s ds (g x) after))) (behind_is o q)
      ∙ acted_as sc s cell own out raw settled are Good spent (behind o (look q)) (m o) g after

  order_acts : (p q : ℕ) (o : List PsObj) (after : List Item) → p < 2 ^ 32 → q < 2 ^ 32
      → Makes' (act 25 d (core s ds (integer q ∷ integer p ∷ o) after)) (both (look p) (look q) distance) (λ z. Int (order_of z) ∷ o) after
  unfolding act
  order_acts p q o after h k =
      ap (λ (n : ℕ). found d s n >>= λ found. found_behind found d s (word_of_signed (signed q)) >>= λ other. with_state d (distance found other >>= λ z. Ok (core s ds (Int (order_of z) ∷ o) after))) (back p h)
      ∙ ap (λ (n : ℕ). found d s p >>= λ found. found_behind found d s n >>= λ other. with_state d (distance found other >>= λ z. Ok (core s ds (Int (order_of z) ∷ o) after))) (back q k)
      ∙ ap (λ (r : Acted (Option Found)). r >>= λ found. found_behind found d s q >>= λ other. with_state d (distance found other >>= λ z. Ok (core s ds (Int (order_of z) ∷ o) after)))
      (found_is sc s cell own out raw settled p)
      ∙ both_act (look p) q distance (λ z. Int (order_of z) ∷ o) after

  difference_acts : (p q : ℕ) (size : ℤ) (o : List PsObj) (after : List Item) → p < 2 ^ 32 → q < 2 ^ 32
      → Makes' (act 24 d (core s ds (Int size ∷ integer q ∷ integer p ∷ o) after)) (both (look p) (look q) (λ a b. pointer_difference a b size)) (λ n. Int n ∷ o) after
  unfolding act
  difference_acts p q size o after h k =
      ap (λ (n : ℕ). found d s n >>= λ found. found_behind found d s (word_of_signed (signed q)) >>= λ other. with_state d (pointer_difference found other size >>= λ n. Ok (core s ds (Int n ∷ o) after))) (back p h)
      ∙ ap (λ (n : ℕ). found d s p >>= λ found. found_behind found d s n >>= λ other. with_state d (pointer_difference found other size >>= λ n. Ok (core s ds (Int n ∷ o) after))) (back q k)
      ∙ ap (λ (r : Acted (Option Found)). r >>= λ found. found_behind found d s q >>= λ other. with_state d (pointer_difference found other size >>= λ n. Ok (core s ds (Int n ∷ o) after)))
      (found_is sc s cell own out raw settled p)
      ∙ both_act (look p) q (λ a b. pointer_difference a b size) (λ n. Int n ∷ o) after

  -- ---- what they leave

  module _ (under : List Item) (none : under_stopped under ≡ None) where
    abbrev Reach : List PsObj → List Item → Type 0
    Reach o items = Reached sc s cell own names out raw are Good spent o items

    abbrev Starts : Code → List Item → Type 0
    Starts k items = At sc s cell own names out raw are Good spent under k items

    abbrev Go : Means ℕ → Code → List PsObj → Type 0
    Go m rest o = Goes sc s cell own names out raw are Good spent m under rest o

    abbrev Break : Means ℕ → Type 0
    Break m = Breaks sc s cell own names out raw are Good spent m

    abbrev ordering : BinaryOp → ℕ → ℕ → Means ℕ
    ordering op p q = in_one sc p q (λ i j. gives (truth (holds op i j)))

    order_reaches : (op : BinaryOp) → IsOrder op → (p q : ℕ) (rest : Code) (o : List PsObj) (items : List Item) → p < 2 ^ 32 → q < 2 ^ 32 → length under + 3 ≤ 1000 → length o + 5 ≤ 100000
        → Starts (Word (codes "ptrcmp") (Num (pos 0) (pieces.on_ints op ⋯ rest))) items → Go (ordering op p q) rest o → Break (ordering op p q) → Reach (integer q ∷ integer p ∷ o) items
    order_reaches op is p q rest o items h k room few f go bad =
        looked_reaches sc s cell own out raw settled are Good spent under none (codes "ptrcmp") 25 (both (look p) (look q) distance) (λ z. Int (order_of z) ∷ o) (Num (pos 0) (pieces.on_ints op ⋯ rest)) (integer q ∷ integer p ∷ o) items
        ptrcmp_is (λ c. refl) (λ after. order_acts p q o after h k) f (ordering op p q) (within (look p) (look q) told) means (λ e x. same ∙ ap (λ (r : Result ℤ PsError). r >>= said) x)
        (λ z x after at. subst (λ (i : ℤ). Reach (Int i ∷ o) after) (sign_is z)
        (number_reaches s ds are d Good spent under (pos 0) (pieces.on_ints op ⋯ rest) (integer (sign_word z) ∷ o) after (omega (arith, few)) at
        (λ after at. integers_reach s ds are d Good spent under none room false op (sign_word z) 0 rest o after (sign_small z) (lit< tt) (omega (arith, few)) at
        (λ v e. let v_is = value_is z v e in subst (λ (v : ℕ). Behind sc s cell own names out raw are Good spent under rest (integer v ∷ o)) v_is
        (go (truth (holds op (order_of z) (pos 0))) (truth_small (holds op (order_of z) (pos 0)))
        (subst (λ (r : Result ℕ PsError). Come (ordering op p q) r) (same ∙ ap (λ (r : Result ℤ PsError). r >>= said) x) means)))
        (λ u e. absurd (never z u e))))) bad
      where
        told : ℤ × ℤ → Result ℕ PsError
        told ij = Ok (truth (holds op ij.0 ij.1))

        said : ℤ → Result ℕ PsError
        said z = Ok (truth (holds op (order_of z) (pos 0)))

        means : Come (ordering op p q) (within (look p) (look q) told)
        means = in_one_comes p q (λ i j. gives (truth (holds op i j))) told (λ ij. given t (truth (holds op ij.0 ij.1)))

        same : within (look p) (look q) told ≡ (both (look p) (look q) distance >>= said)
        same = within_both (look p) (look q) told said (λ a b. ap (λ (c : Bool). Ok (truth c)) (sym (by_sign op is a b)))

        told_word : (z : ℤ) → on_ints op (sign_word z) 0 ≡ word_done (truth (holds op (order_of z) (pos 0)))
        told_word z = ints_hold op is (sign_word z) 0 ∙ ap (λ (i : ℤ). word_done (truth (holds op i (pos 0)))) (sign_is z)

        value_is : (z : ℤ) (v : ℕ) → on_ints op (sign_word z) 0 ≡ word_done v → truth (holds op (order_of z) (pos 0)) ≡ v
        value_is z v e = word_same (truth (holds op (order_of z) (pos 0))) v (sym (told_word z) ∙ e)

        never : (z : ℤ) (u : Undef) → on_ints op (sign_word z) 0 ≡ Err u → ⊥
        never z u e = never_word (truth (holds op (order_of z) (pos 0))) u (sym (told_word z) ∙ e)

    pub ordered_reach : (op : BinaryOp) → IsOrder op → (size p q : ℕ) (rest : Code) (o : List PsObj) (items : List Item) → p < 2 ^ 32 → q < 2 ^ 32 → length under + 3 ≤ 1000 → length o + 5 ≤ 100000
        → Starts (pieces.on_pointers op ⋯ rest) items → Go (two_pointers sc op size p q) rest o → Break (two_pointers sc op size p q) → Reach (integer q ∷ integer p ∷ o) items
    ordered_reach _ less size p q rest o items h k room few f go bad = order_reaches Less less p q rest o items h k room few f go bad
    ordered_reach _ greater size p q rest o items h k room few f go bad = order_reaches Greater greater p q rest o items h k room few f go bad
    ordered_reach _ at_most size p q rest o items h k room few f go bad = order_reaches LessEqual at_most p q rest o items h k room few f go bad
    ordered_reach _ at_least size p q rest o items h k room few f go bad = order_reaches GreaterEqual at_least p q rest o items h k room few f go bad

    -- how many items lie between
    abbrev counting : ℕ → ℕ → ℕ → Means ℕ
    counting size p q = two_pointers sc Subtract size p q

    pub difference_reaches : (size p q : ℕ) (rest : Code) (o : List PsObj) (items : List Item) → p < 2 ^ 32 → q < 2 ^ 32 → length o + 5 ≤ 100000
        → Starts (Num (pos size) (Word (codes "ptrsub") rest)) items → Go (counting size p q) rest o → Break (counting size p q) → Reach (integer q ∷ integer p ∷ o) items
    difference_reaches size p q rest o items h k few f go bad =
        number_reaches s ds are d Good spent under (pos size) (Word (codes "ptrsub") rest) (integer q ∷ integer p ∷ o) items (omega (arith, few)) f
        (λ after f. looked_reaches sc s cell own out raw settled are Good spent under none (codes "ptrsub") 24 (both (look p) (look q) (λ a b. pointer_difference a b (pos size))) (λ n. Int n ∷ o) rest
        (Int (pos size) ∷ integer q ∷ integer p ∷ o) after ptrsub_is (λ c. refl) (λ after. difference_acts p q (pos size) o after h k) f
        (counting size p q) (within (look p) (look q) told) means (λ e x. same ∙ ap (λ (r : Result ℤ PsError). r >>= word) x)
        (λ n x. subst (λ (i : ℤ). Behind sc s cell own names out raw are Good spent under rest (Int i ∷ o)) (number_back n x)
        (go (word_of_signed n) (number_small n x) (subst (λ (r : Result ℕ PsError). Come (counting size p q) r) (same ∙ ap (λ (r : Result ℤ PsError). r >>= word) x) means))) bad)
      where
        word : ℤ → Result ℕ PsError
        word n = Ok (word_of_signed n)

        counted_by : ℤ → Result ℕ PsError
        counted_by z = quotient z (pos size) >>= word

        told : ℤ × ℤ → Result ℕ PsError
        told ij = counted_by (ij.0 -ℤ ij.1)

        counts : (r : Result ℤ PsError) → Come (counted r) (r >>= word)
        counts (Ok n) = given t (word_of_signed n)
        counts (Err e) = (Raised e, refl, still t (fails (Raised e)) (Err (Raised e)) (λ n. (refl, refl)))

        means : Come (counting size p q) (within (look p) (look q) told)
        means = in_one_comes p q (λ i j. counted (quotient (i -ℤ j) (pos size))) told (λ ij. counts (quotient (ij.0 -ℤ ij.1) (pos size)))

        same : within (look p) (look q) told ≡ (both (look p) (look q) (λ a b. pointer_difference a b (pos size)) >>= word)
        same =
            within_both (look p) (look q) told counted_by (λ a b. refl) ∙ onward (both (look p) (look q) distance) (λ z. quotient z (pos size)) word
            ∙ ap (λ (r : Result ℤ PsError). r >>= word) (sym (both_then (look p) (look q) (λ z. quotient z (pos size))))

        by_distance : (r : Result ℤ PsError) (n : ℤ) → (r >>= λ z. quotient z (pos size)) ≡ number_done n → signed (word_of_signed n) ≡ n
        by_distance (Ok z) n e = quotient_back z (pos size) n e
        by_distance (Err x) n e = absurd (never_done x n e)

        number_back : (n : ℤ) → both (look p) (look q) (λ a b. pointer_difference a b (pos size)) ≡ number_done n → signed (word_of_signed n) ≡ n
        number_back n x = by_distance (both (look p) (look q) distance) n (sym (both_then (look p) (look q) (λ z. quotient z (pos size))) ∙ x)

        number_small : (n : ℤ) → both (look p) (look q) (λ a b. pointer_difference a b (pos size)) ≡ number_done n → word_of_signed n < 2 ^ 32
        number_small n x = by n (number_back n x)
          where
            by : (n : ℤ) → signed (word_of_signed n) ≡ n → word_of_signed n < 2 ^ 32
            by (pos m) e = grind arith
            by (negsuc m) e = omega arith
