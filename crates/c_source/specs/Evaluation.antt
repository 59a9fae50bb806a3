-- The value of an expression without assignments and calls, by recursion over its tree, over anything that can be loaded, moved and used.
use Rattle.std.specs.Prelude.{ℕ, Bool, cond, List, [], ◌∷◌}
use Rattle.c_tree.specs.declared.types.CType.{CType}
use Rattle.c_tree.specs.declared.types.StructDef.{StructDef}
use Rattle.c_tree.specs.declared.typed.BinaryOp.{BinaryOp}
use Rattle.c_tree.specs.declared.typed.UnaryOp.{UnaryOp}
use Rattle.c_tree.specs.declared.typed.Typed.{Typed}
use Rattle.c_tree.specs.declared.typed.Typed.TheVariants.{Comma', Choice', Or', And', Binary', Cast', Address', Follow', Unary', SizeOf', SizeOfType, Index', Dot', Arrow', Name, Constant, Literal, Parens'}
use Rattle.c_tree.specs.Types.{type_of, target_of, is_struct, is_array}
use Rattle.c_tree.specs.Layout.{size_of}
use Rattle.c_source.specs.Source.{offset_of, struct_number, target_number}

-- What an expression is evaluated over: M is what an evaluation may come to, V are the values and S the places.
pub record Ground {ℓ} (M : Type 0 → Type ℓ) (V S : Type 0) : Type (ℓ ⊔ 1) where
  -- a result, what is made of one, and none
  pub gives : {A : Type 0} → A → M A
  pub chain : {A B : Type 0} → M A → (A → M B) → M B
  pub ill_typed : {A : Type 0} → M A
  -- values
  pub number : ℕ → V
  pub is_zero : V → Bool
  pub use_of : V → M V
  pub convert : CType → V → M V
  pub combine : BinaryOp → CType → CType → V → V → M V
  pub change : UnaryOp → CType → V → M V
  -- places: of a name and of a string by their numbers, where a pointer leads, which uses it, and where the sum of a pointer and an integer leads
  pub name_at : (symbol : ℕ) → M S
  pub text_at : (string : ℕ) → M S
  pub led_by : V → M S
  pub item_at : CType → CType → V → V → M S
  -- a member so many bytes from a place, and from where a pointer leads
  pub member : (bytes : ℕ) → S → M S
  pub led_member : (bytes : ℕ) → V → M S
  -- the pointer to a place; a scalar and all leaves of a struct there
  pub address_of : S → V
  pub load : CType → S → M V
  pub load_struct : CType → S → M (List V)

module _ {ℓ} {M : Type 0 → Type ℓ} {V S : Type 0} (defs : List StructDef) (g : Ground M V S) where
  -- what stands at a place: a scalar is read, and an array is its place
  abbrev pub value_at : CType → S → M V
  value_at t s = cond (is_array t) (g.gives (g.address_of s)) (g.load t s)

  -- a condition, which is a use
  abbrev pub tested : M V → (holds fails : M V) → M V
  tested m holds fails = g.chain m (λ v. g.chain (g.use_of v) (λ x. cond (g.is_zero x) fails holds))

  abbrev pub truth_of : M V → M V
  truth_of m = tested m (g.gives (g.number 1)) (g.gives (g.number 0))

  -- an operand that is chosen is used
  abbrev pub chosen_as : CType → M V → M V
  chosen_as t m = g.chain m (λ v. g.chain (g.use_of v) (g.convert t))

  abbrev pub indexed : CType → CType → M V → M V → M S
  indexed s t a b = g.chain a (λ x. g.chain b (λ y. g.item_at s t x y))

  abbrev mutual
    -- the value of an expression
    pub value_by : Typed → M V
    value_by (Comma' t _ a _ b) = g.chain (value_by a) (λ v. g.chain (g.use_of v) (λ x. g.chain (value_by b) g.use_of))
    value_by (Choice' t _ c _ a _ b) = tested (value_by c) (chosen_as t.ctype (value_by a)) (chosen_as t.ctype (value_by b))
    value_by (Or' t _ a _ b) = tested (value_by a) (g.gives (g.number 1)) (truth_of (value_by b))
    value_by (And' t _ a _ b) = tested (value_by a) (truth_of (value_by b)) (g.gives (g.number 0))
    value_by (Binary' t _ a op _ b) = g.chain (value_by a) (λ x. g.chain (value_by b) (λ y. g.combine op (type_of a) (type_of b) x y))
    value_by (Cast' t _ a) = g.chain (value_by a) (g.convert t.ctype)
    value_by (Address' t _ a) = g.chain (place_by a) (λ s. g.gives (g.address_of s))
    value_by (Unary' t op _ a) = g.chain (value_by a) (λ v. g.change op (type_of a) v)
    value_by (SizeOf' t _ a) = g.gives (g.number (size_of defs (type_of a)))
    value_by (SizeOfType t of) = g.gives (g.number (size_of defs of))
    value_by (Constant t n) = g.gives (g.number n)
    value_by (Parens' t _ a) = value_by a
    value_by (Name t n) = g.chain (g.name_at n) (value_at t.ctype)
    value_by (Literal t n) = g.chain (g.text_at n) (value_at t.ctype)
    value_by (Follow' t _ a) = g.chain (g.chain (value_by a) g.led_by) (value_at t.ctype)
    value_by (Index' t _ a _ b) = g.chain (indexed (type_of a) (type_of b) (value_by a) (value_by b)) (value_at t.ctype)
    value_by (Dot' t _ a m) = g.chain (g.chain (place_by a) (g.member (offset_of defs (struct_number (type_of a)) m))) (value_at t.ctype)
    value_by (Arrow' t _ a m) = g.chain (g.chain (value_by a) (g.led_member (offset_of defs (target_number (target_of (type_of a))) m))) (value_at t.ctype)
    value_by _ = g.ill_typed

    -- where an lvalue stands
    pub place_by : Typed → M S
    place_by (Name t n) = g.name_at n
    place_by (Literal t n) = g.text_at n
    place_by (Follow' t _ a) = g.chain (value_by a) g.led_by
    place_by (Index' t _ a _ b) = indexed (type_of a) (type_of b) (value_by a) (value_by b)
    place_by (Dot' t _ a m) = g.chain (place_by a) (g.member (offset_of defs (struct_number (type_of a)) m))
    place_by (Arrow' t _ a m) = g.chain (value_by a) (g.led_member (offset_of defs (target_number (target_of (type_of a))) m))
    place_by (Parens' t _ a) = place_by a
    place_by _ = g.ill_typed

  -- the leaf values of an expression: of a struct place all of them, and else its one value
  abbrev pub values_by : Typed → M (List V)
  values_by e = cond (is_struct (type_of e)) (g.chain (place_by e) (g.load_struct (type_of e))) (g.chain (value_by e) (λ v. g.gives (v ∷ [])))
