-- What an expression means in an activation: its evaluation over the store. It makes no calls and assigns nothing; an assignment is a case of its own.
use Rattle.std.specs.Prelude.{◌+◌, List, length, pos, Option, Some, None, Result, Ok, Err, slice_get, if◌then◌else◌}
use Rattle.c_tree.specs.declared.types.CType.{CType}
use Rattle.c_tree.specs.declared.typed.BinaryOp.TheVariants.{Add}
use Rattle.c_tree.specs.declared.typed.Typed.{Typed}
use Rattle.c_tree.specs.declared.typed.Typed.TheVariants.{Comma', Assign', Choice', Or', And', Binary', Cast', Before', Address', Follow', Unary', SizeOf', SizeOfType, Index', Call', Dot', Arrow', After', Name, Constant, Literal, Parens'}
use Rattle.c_tree.specs.declared.rows.Program.{Program}
use Rattle.c_tree.specs.Types.{type_of, kind_of, is_struct}
use Rattle.runs.specs.Runs.{Why, IllTyped}
use Rattle.c_store.specs.Store.{Value, Number, At, World, used, load, store, moved, load_struct, store_struct, ◌>>=◌}
use Rattle.c_store.specs.Frames.{Here}
use Rattle.c_source.specs.Blocks.{cells_of, converted}
use Rattle.c_source.specs.Operators.{is_zero, combined, changed}
use Rattle.c_source.specs.Source.{place_in, no_value}
use Rattle.c_source.specs.Evaluation.{Ground, value_by, place_by, values_by}

-- the world and the value after an assignment
pub record Given : Type 0 where
  pub world : World
  pub value : Value

-- a result, or why there is none
abbrev pub Told : Type 0 → Type 0
Told A = Result A Why

abbrev pub Meant : Type 0
Meant = Told Value

abbrev pub or_ill_typed : Option Value → Meant
or_ill_typed None = Err IllTyped
or_ill_typed (Some v) = Ok v

-- Values and places are the store's values, and what is used is not stale.
abbrev pub over_store : Program → Here → Ground Told Value Value
over_store p h = record {
  gives = λ x. Ok x;
  chain = λ m f. m >>= f;
  ill_typed = Err IllTyped;
  number = λ n. Number n;
  is_zero = is_zero;
  use_of = λ v. used h.world v;
  convert = converted;
  combine = λ op s t x y. combined p.defs h.world op s t x y;
  change = λ op t v. changed h.world op t v;
  name_at = λ n. or_ill_typed (place_in (slice_get p.symbols n) h);
  text_at = λ n. Ok (At (length p.objects + n) 0);
  led_by = λ v. used h.world v;
  item_at = λ s t x y. combined p.defs h.world Add s t x y;
  member = λ n v. moved h.world v (pos n);
  led_member = λ n v. moved h.world v (pos n);
  address_of = λ v. v;
  load = λ t v. load h.world (kind_of t) v >>= converted t;
  load_struct = λ t v. load_struct h.world (cells_of p.defs t) v;
}

module _ (p : Program) (h : Here) where
  -- the value of an expression, and where an lvalue stands
  abbrev pub value_of : Typed → Meant
  value_of e = value_by p.defs (over_store p h) e

  abbrev pub place_of : Typed → Meant
  place_of e = place_by p.defs (over_store p h) e

  -- the leaf values of an expression: of a struct place all of them, and else its one value
  abbrev pub values_meant : Typed → Told (List Value)
  values_meant e = values_by p.defs (over_store p h) e

  abbrev pub scalar_assigned : CType → Typed → Typed → Told Given
  scalar_assigned t a b =
      place_of a >>= λ place. value_of b >>= λ v. converted t v >>= λ x.
      store h.world (kind_of t) place x >>= λ w. Ok (record { world = w; value = x })

  abbrev pub struct_assigned : CType → Typed → Typed → Told Given
  struct_assigned t a b =
      place_of a >>= λ to. place_of b >>= λ from.
      load_struct h.world (cells_of p.defs t) from >>= λ xs.
      store_struct h.world (cells_of p.defs t) to xs >>= λ w. Ok (record { world = w; value = no_value })

  -- a plain assignment: the place, then the right side, then the leaves
  abbrev pub assigned : Typed → Told Given
  assigned (Assign' t _ a None _ b) = if is_struct (type_of a) then struct_assigned (type_of a) a b else scalar_assigned (type_of a) a b
  assigned _ = Err IllTyped

-- an expression without assignments and calls
abbrev pub IsPlain : Typed → Type 0
IsPlain (Comma' t _ a _ b) = IsPlain a × IsPlain b
IsPlain (Assign' t _ a op _ b) = ⊥
IsPlain (Choice' t _ c _ a _ b) = IsPlain c × IsPlain a × IsPlain b
IsPlain (Or' t _ a _ b) = IsPlain a × IsPlain b
IsPlain (And' t _ a _ b) = IsPlain a × IsPlain b
IsPlain (Binary' t _ a op _ b) = IsPlain a × IsPlain b
IsPlain (Cast' t _ a) = IsPlain a
IsPlain (Before' t op _ a) = ⊥
IsPlain (Address' t _ a) = IsPlain a
IsPlain (Follow' t _ a) = IsPlain a
IsPlain (Unary' t op _ a) = IsPlain a
IsPlain (SizeOf' t _ a) = Unit {0}
IsPlain (SizeOfType t of) = Unit {0}
IsPlain (Index' t _ a _ b) = IsPlain a × IsPlain b
IsPlain (Call' t f _ row) = ⊥
IsPlain (Dot' t _ a m) = IsPlain a
IsPlain (Arrow' t _ a m) = IsPlain a
IsPlain (After' t _ a op) = ⊥
IsPlain (Name t n) = Unit {0}
IsPlain (Constant t n) = Unit {0}
IsPlain (Literal t n) = Unit {0}
IsPlain (Parens' t _ a) = IsPlain a

-- a plain assignment of one such expression to another
abbrev pub IsAssignment : Typed → Type 0
IsAssignment (Assign' t _ a None _ b) = IsPlain a × IsPlain b
IsAssignment _ = ⊥
