-- The shapes of what the operators give.
use Rattle.std.proofs.Common.{◌≡◌, refl, sym, ℕ, ◌-◌, List, Bool, true, false, not, ◌&&◌, Option, Some, None, true≢false}
use Rattle.std.specs.Prelude.{Result, Ok, Err, if◌then◌else◌, ◌==◌, ℤ, pos, neg_ℤ, ◌*ℤ◌, ◌-ℤ◌, int_div, nat_lt, nat_le}
use Rattle.ldb_words.specs.Word.{word_of_signed}
use Rattle.ldb_words.specs.declared.kinds.Undef.{Undef}
use Rattle.ldb_words.specs.declared.kinds.Undef.TheVariants.{Pointer}
use Rattle.runs.specs.Runs.{Why, Reason, Stale, IllTyped}
use Rattle.c_tree.specs.declared.types.CType.{CType}
use Rattle.c_tree.specs.declared.types.CType.TheVariants as ctype
use Rattle.c_tree.specs.declared.types.StructDef.{StructDef}
use Rattle.c_tree.specs.declared.typed.BinaryOp.{BinaryOp}
use Rattle.c_tree.specs.declared.typed.BinaryOp.TheVariants.{Equal, Unequal, Less, Greater, LessEqual, GreaterEqual, Add, Subtract}
use Rattle.c_tree.specs.declared.typed.UnaryOp.{UnaryOp}
use Rattle.c_tree.specs.declared.typed.UnaryOp.TheVariants.{Plus, Minus, Complement, Not}
use Rattle.c_tree.specs.Types.{target_of, is_unsigned, kind_of}
use Rattle.c_tree.specs.Layout.{size_of}
use Rattle.c_store.specs.Store.{Value, Number, Null, At, World, used, moved, ◌>>=◌}
use Rattle.c_operators.specs.Bits.{minus_one, subtract, signed_negate}
use Rattle.c_source.specs.Blocks.{as_pointer, converted, zero_as}
use Rattle.c_source.specs.Operators.{bits_in, same_pointer, combined, changed}
use Rattle.c_operators.specs.Arithmetic.{number_of, truth, on_ints, on_unsigned, operating_type}
use Rattle.c_sound.specs.Shapes.{is_place, is_address}
use Rattle.c_sound.proofs.World.{Gives, gives_then, either_gives, used_gives, moved_gives}

-- ---- types and conversions

-- whether the values of a type are addresses
abbrev pub addr : CType → Bool
addr t = is_address (kind_of t)

-- the shape of a converted value
abbrev pub conv : CType → Bool → Bool
conv (ctype.Pointer' _ t) s = true
conv _ s = s

pub converted_gives : (t : CType) (v : Value) → conv t (is_place v) ≡ addr t → Gives (λ x. is_place x ≡ addr t) (converted t v)
converted_gives ctype.Char (Number n) h = refl
converted_gives ctype.Char Null h = true≢false h
converted_gives ctype.Char (At o i) h = true≢false h
converted_gives ctype.Int v h = h
converted_gives ctype.Unsigned v h = h
converted_gives ctype.Void v h = h
converted_gives (ctype.Pointer' b t) (Number n) h = refl
converted_gives (ctype.Pointer' b t) Null h = refl
converted_gives (ctype.Pointer' b t) (At o i) h = refl
converted_gives (ctype.Array' b t n) v h = h
converted_gives (ctype.Struct s) v h = h

pub zero_shape : (t : CType) → is_place (zero_as t) ≡ conv t false
zero_shape ctype.Char = refl
zero_shape ctype.Int = refl
zero_shape ctype.Unsigned = refl
zero_shape ctype.Void = refl
zero_shape (ctype.Pointer' b t) = refl
zero_shape (ctype.Array' b t n) = refl
zero_shape (ctype.Struct s) = refl

-- a value that fits a type fits it when it is converted
pub conv_own : (t : CType) → conv t (addr t) ≡ addr t
conv_own ctype.Char = refl
conv_own ctype.Int = refl
conv_own ctype.Unsigned = refl
conv_own ctype.Void = refl
conv_own (ctype.Pointer' b t) = refl
conv_own (ctype.Array' b t n) = refl
conv_own (ctype.Struct s) = refl

-- ---- binary operators

abbrev pub is_number : Bool → Bool
is_number s = not s

-- `+` and `-` of a pointer and an integer
abbrev pub is_move : BinaryOp → Bool
is_move Add = true
is_move Subtract = true
is_move _ = false

-- operators on a pointer of shape a and an integer of shape b that are there
abbrev pub takes_pointer : BinaryOp → Bool → Bool → Bool
takes_pointer Add a b = a && not b
takes_pointer Subtract a b = a && not b
takes_pointer Equal a b = true
takes_pointer Unequal a b = true
takes_pointer _ a b = false

abbrev pub takes_pointers : BinaryOp → Bool
takes_pointers Equal = true
takes_pointers Unequal = true
takes_pointers Less = true
takes_pointers Greater = true
takes_pointers LessEqual = true
takes_pointers GreaterEqual = true
takes_pointers Subtract = true
takes_pointers _ = false

-- the operator takes operands of these types, whose values have shapes a and b
abbrev pub takes_by : BinaryOp → Option CType → Option CType → Bool → Bool → Bool
takes_by op None None a b = not a && not b
takes_by op (Some s) None a b = takes_pointer op a b
takes_by op None (Some t) a b = takes_pointer op b a
takes_by op (Some s) (Some t) a b = takes_pointers op

abbrev pub gives_by : BinaryOp → Option CType → Option CType → Bool
gives_by op None None = false
gives_by op (Some s) None = is_move op
gives_by op None (Some t) = is_move op
gives_by op (Some s) (Some t) = false

abbrev pub takes : BinaryOp → CType → CType → Bool → Bool → Bool
takes op s t a b = takes_by op (target_of s) (target_of t) a b

abbrev pub gives : BinaryOp → CType → CType → Bool
gives op s t = gives_by op (target_of s) (target_of t)

-- ---- the same cases as the operators have

abbrev because : Result ℕ Undef → Result Value Why
because (Ok n) = Ok (Number n)
because (Err r) = Err (Reason r)

abbrev HasShape : Bool → Value → Type 0
HasShape s v = is_place v ≡ s

because_gives : (r : Result ℕ Undef) → Gives (HasShape false) (because r)
because_gives (Ok n) = refl
because_gives (Err r) = tt

pub any_gives : {A : Type 0} (m : Result A Why) (P : A → Type 0) → Gives P m → Gives (λ _. Unit {0}) m
any_gives (Ok x) P h = tt
any_gives (Err (Reason u)) P h = tt
any_gives (Err Stale) P h = tt
any_gives (Err IllTyped) P h = h

used_any : (w : World) (v : Value) → Gives (λ _. Unit {0}) (used w v)
used_any w v = any_gives (used w v) (λ x. x ≡ v) (used_gives w v)

pointer_used : (w : World) (x : Value) → Gives (λ _. Unit {0}) (as_pointer x >>= used w)
pointer_used w (Number n) = used_any w Null
pointer_used w Null = used_any w Null
pointer_used w (At o i) = used_any w (At o i)

abbrev are_equal : World → Value → Value → Result Bool Why
are_equal w x y = as_pointer x >>= used w >>= λ u. as_pointer y >>= used w >>= λ v. Ok (same_pointer u v)

equal_any : (w : World) (x y : Value) → Gives (λ _. Unit {0}) (are_equal w x y)
equal_any w x y =
    gives_then (λ _. Unit {0}) (λ _. Unit {0}) (as_pointer x >>= used w) _ (pointer_used w x) λ u h.
    gives_then (λ _. Unit {0}) (λ _. Unit {0}) (as_pointer y >>= used w) _ (pointer_used w y) λ v k. tt

equal_gives : (w : World) (x y : Value) (f : Bool → ℕ) → Gives (HasShape false) (are_equal w x y >>= λ b. Ok (Number (f b)))
equal_gives w x y f = gives_then (λ _. Unit {0}) (HasShape false) (are_equal w x y) _ (equal_any w x y) λ b h. refl

abbrev at_offsets : Value → Value → (ℕ → ℕ → Result Value Why) → Result Value Why
at_offsets (At o i) (At o' j) f = if o == o' then f i j else Err (Reason Pointer)
at_offsets _ _ f = Err (Reason Pointer)

offsets_give : (x y : Value) (f : ℕ → ℕ → ℕ) → Gives (HasShape false) (at_offsets x y (λ i j. Ok (Number (f i j))))
offsets_give (Number m) (Number n) f = tt
offsets_give (Number m) Null f = tt
offsets_give (Number m) (At o j) f = tt
offsets_give Null (Number n) f = tt
offsets_give Null Null f = tt
offsets_give Null (At o j) f = tt
offsets_give (At o i) (Number n) f = tt
offsets_give (At o i) Null f = tt
offsets_give (At o i) (At o' j) f = either_gives (HasShape false) (o == o') (Ok (Number (f i j))) (Err (Reason Pointer)) refl tt

abbrev in_one : World → Value → Value → (ℕ → ℕ → Result Value Why) → Result Value Why
in_one w x y f = used w x >>= λ u. used w y >>= λ v. at_offsets u v f

one_gives : (w : World) (x y : Value) (f : ℕ → ℕ → ℕ) → Gives (HasShape false) (in_one w x y (λ i j. Ok (Number (f i j))))
one_gives w x y f =
    gives_then (λ _. Unit {0}) (HasShape false) (used w x) _ (used_any w x) λ u h.
    gives_then (λ _. Unit {0}) (HasShape false) (used w y) _ (used_any w y) λ v k. offsets_give u v f

-- ---- a pointer and an integer

abbrev by_items : World → Value → ℕ → ℤ → Result Value Why
by_items w x size n = moved w x (pos size *ℤ n)

abbrev pointer_integer : World → BinaryOp → ℕ → CType → Value → Value → Result Value Why
pointer_integer w Add size t x y = bits_in y >>= λ n. by_items w x size (number_of t n)
pointer_integer w Subtract size t x y = bits_in y >>= λ n. by_items w x size (neg_ℤ (number_of t n))
pointer_integer w Equal size t x y = are_equal w x y >>= λ b. Ok (Number (truth b))
pointer_integer w Unequal size t x y = are_equal w x y >>= λ b. Ok (Number (truth (not b)))
pointer_integer w op size t x y = Err IllTyped

pub bits_give : (v : Value) → is_place v ≡ false → Gives (λ _. Unit {0}) (bits_in v)
bits_give (Number n) h = tt
bits_give Null h = true≢false h
bits_give (At o i) h = true≢false h

first_of_both : (a b : Bool) → a && not b ≡ true → a ≡ true
first_of_both true b h = refl
first_of_both false b h = h

second_of_both : (a b : Bool) → a && not b ≡ true → b ≡ false
second_of_both true true h = sym h
second_of_both true false h = refl
second_of_both false b h = absurd (true≢false (sym h))

move_gives : (w : World) (x y : Value) (f : ℕ → ℤ) → is_place x && not (is_place y) ≡ true → Gives (HasShape true) (bits_in y >>= λ n. moved w x (f n))
move_gives w x y f h =
    gives_then (λ _. Unit {0}) (HasShape true) (bits_in y) (λ n. moved w x (f n)) (bits_give y (second_of_both (is_place x) (is_place y) h)) λ n u.
    moved_gives w x (f n) (first_of_both (is_place x) (is_place y) h)

pointer_integer_gives : (w : World) (op : BinaryOp) (size : ℕ) (t : CType) (x y : Value) → takes_pointer op (is_place x) (is_place y) ≡ true
    → Gives (HasShape (is_move op)) (pointer_integer w op size t x y)
pointer_integer_gives w Add size t x y h = move_gives w x y (λ n. pos size *ℤ number_of t n) h
pointer_integer_gives w Subtract size t x y h = move_gives w x y (λ n. pos size *ℤ neg_ℤ (number_of t n)) h
pointer_integer_gives w Equal size t x y h = equal_gives w x y truth
pointer_integer_gives w Unequal size t x y h = equal_gives w x y (λ b. truth (not b))
pointer_integer_gives w _ size t x y h = absurd (true≢false (sym h))

abbrev two_pointers : World → BinaryOp → ℕ → Value → Value → Result Value Why
two_pointers w Equal size x y = are_equal w x y >>= λ b. Ok (Number (truth b))
two_pointers w Unequal size x y = are_equal w x y >>= λ b. Ok (Number (truth (not b)))
two_pointers w Less size x y = in_one w x y (λ i j. Ok (Number (truth (nat_lt i j))))
two_pointers w Greater size x y = in_one w x y (λ i j. Ok (Number (truth (nat_lt j i))))
two_pointers w LessEqual size x y = in_one w x y (λ i j. Ok (Number (truth (nat_le i j))))
two_pointers w GreaterEqual size x y = in_one w x y (λ i j. Ok (Number (truth (nat_le j i))))
two_pointers w Subtract size x y = in_one w x y (λ i j. Ok (Number (word_of_signed (int_div (pos i -ℤ pos j) (pos size)))))
two_pointers w op size x y = Err IllTyped

two_pointers_give : (w : World) (op : BinaryOp) (size : ℕ) (x y : Value) → takes_pointers op ≡ true → Gives (HasShape false) (two_pointers w op size x y)
two_pointers_give w Equal size x y h = equal_gives w x y truth
two_pointers_give w Unequal size x y h = equal_gives w x y (λ b. truth (not b))
two_pointers_give w Less size x y h = one_gives w x y (λ i j. truth (nat_lt i j))
two_pointers_give w Greater size x y h = one_gives w x y (λ i j. truth (nat_lt j i))
two_pointers_give w LessEqual size x y h = one_gives w x y (λ i j. truth (nat_le i j))
two_pointers_give w GreaterEqual size x y h = one_gives w x y (λ i j. truth (nat_le j i))
two_pointers_give w Subtract size x y h = one_gives w x y (λ i j. word_of_signed (int_div (pos i -ℤ pos j) (pos size)))
two_pointers_give w _ size x y h = absurd (true≢false (sym h))

abbrev on_integers : BinaryOp → CType → CType → Value → Value → Result Value Why
on_integers op s t x y = bits_in x >>= λ m. bits_in y >>= λ n. because (if is_unsigned (operating_type op s t) then on_unsigned op m n else on_ints op m n)

neither : (a b : Bool) → not a && not b ≡ true → (a ≡ false) × (b ≡ false)
neither true b h = absurd (true≢false (sym h))
neither false true h = absurd (true≢false (sym h))
neither false false h = (refl, refl)

integers_give : (op : BinaryOp) (s t : CType) (x y : Value) → not (is_place x) && not (is_place y) ≡ true → Gives (HasShape false) (on_integers op s t x y)
integers_give op s t x y h =
    let q = neither (is_place x) (is_place y) h in
    gives_then (λ _. Unit {0}) (HasShape false) (bits_in x) _ (bits_give x q.0) λ m u.
    gives_then (λ _. Unit {0}) (HasShape false) (bits_in y) _ (bits_give y q.1) λ n v.
    because_gives (if is_unsigned (operating_type op s t) then on_unsigned op m n else on_ints op m n)

module _ (defs : List StructDef) (w : World) where
  abbrev by_targets : BinaryOp → CType → CType → Option CType → Option CType → Value → Value → Result Value Why
  by_targets op s t None None x y = on_integers op s t x y
  by_targets op s t (Some a) None x y = pointer_integer w op (size_of defs a) t x y
  by_targets op s t None (Some b) x y = pointer_integer w op (size_of defs b) s y x
  by_targets op s t (Some a) (Some b) x y = two_pointers w op (size_of defs a) x y

  targets_give : (op : BinaryOp) (s t : CType) (a b : Option CType) (x y : Value) → takes_by op a b (is_place x) (is_place y) ≡ true → Gives (HasShape (gives_by op a b)) (by_targets op s t a b x y)
  targets_give op s t None None x y h = integers_give op s t x y h
  targets_give op s t (Some a) None x y h = pointer_integer_gives w op (size_of defs a) t x y h
  targets_give op s t None (Some b) x y h = pointer_integer_gives w op (size_of defs b) s y x h
  targets_give op s t (Some a) (Some b) x y h = two_pointers_give w op (size_of defs a) x y h

  pub combined_gives : (op : BinaryOp) (s t : CType) (x y : Value) → takes op s t (is_place x) (is_place y) ≡ true → Gives (λ z. is_place z ≡ gives op s t) (combined defs w op s t x y)
  unfolding combined
  combined_gives op s t x y h = targets_give op s t (target_of s) (target_of t) x y h

-- ---- unary operators

abbrev pub takes_one : UnaryOp → Bool → Bool
takes_one Not s = true
takes_one _ s = not s

number_there : (s : Bool) → not s ≡ true → s ≡ false
number_there true h = sym h
number_there false h = refl

abbrev on_integer : UnaryOp → CType → ℕ → Result ℕ Undef
on_integer Plus t n = Ok n
on_integer Minus t n = if is_unsigned t then Ok (subtract 0 n) else signed_negate n
on_integer Complement t n = Ok (minus_one - n)
on_integer Not t n = Ok (truth (n == 0))

one_number : (op : UnaryOp) (t : CType) (v : Value) → not (is_place v) ≡ true → Gives (λ z. is_place z ≡ false) (bits_in v >>= λ n. because (on_integer op t n))
one_number op t v h = gives_then (λ _. Unit {0}) (HasShape false) (bits_in v) _ (bits_give v (number_there (is_place v) h)) λ n u. because_gives (on_integer op t n)

pub changed_gives : (w : World) (op : UnaryOp) (t : CType) (v : Value) → takes_one op (is_place v) ≡ true → Gives (λ z. is_place z ≡ false) (changed w op t v)
unfolding changed
changed_gives w Not t v h = gives_then (λ _. Unit {0}) (HasShape false) (used w v) _ (used_any w v) λ x u. refl
changed_gives w Plus t v h = one_number Plus t v h
changed_gives w Minus t v h = one_number Minus t v h
changed_gives w Complement t v h = one_number Complement t v h
