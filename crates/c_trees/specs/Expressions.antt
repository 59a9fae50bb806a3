-- Trees of expressions and of the declarators in names of types, without where they lie in memory. Each alternative of an expression has the place of its first token.
use Rattle.std.specs.Prelude.{ℕ, ◌+◌, List, [], ◌∷◌, Option, Some, None}
use Rattle.c_lex.specs.declared.token.Place.{Place}
use Rattle.c_symbol.specs.declared.symbol.LeafKind.{LeafKind}
use Rattle.c_symbol.specs.declared.symbol.Step.{Step}
use Rattle.c_symbol.specs.declared.symbol.Access.{Access}
use Rattle.c_symbol.specs.declared.symbol.PrefixOp.{PrefixOp}
use Rattle.c_symbol.specs.declared.symbol.BinaryOp.{BinaryOp}
use Rattle.c_trees.specs.declared.expression.Spec.{Spec}

pub data Tree : Type 0 where
  Leaf : Place → LeafKind → List ℕ → Tree
  Paren : Place → Tree → Tree
  Index : Place → Tree → Tree → Tree
  -- a call without arguments, and a call with one argument more
  Call : Place → Tree → Tree
  With : Tree → Tree → Tree
  Member : Place → Tree → Access → Place → List ℕ → Tree
  After : Place → Tree → Step → Tree
  Prefix : Place → PrefixOp → Tree → Tree
  -- the type's name is its beginning and a declarator
  SizeofType : Place → Spec → Tree → Tree
  Cast : Place → Spec → Tree → Tree → Tree
  Binary : Place → BinaryOp → Tree → Tree → Tree
  Choice : Place → Tree → Tree → Tree → Tree
  -- a declarator: so many `*`, and perhaps a declarator in parentheses behind them; and one with a bound behind it
  Stars : ℕ → Tree
  Around : ℕ → Tree → Tree
  Bounded : Tree → Tree → Tree
  Unbounded : Tree → Tree

-- more than the depth of each part
abbrev pub depth : Tree → ℕ
depth (Leaf _ _ _) = 0
depth (Paren _ a) = depth a + 1
depth (Index _ a b) = depth a + depth b + 1
depth (Call _ a) = depth a + 1
depth (With a b) = depth a + depth b + 1
depth (Member _ a _ _ _) = depth a + 1
depth (After _ a _) = depth a + 1
depth (Prefix _ _ a) = depth a + 1
depth (SizeofType _ _ d) = depth d + 1
depth (Cast _ _ d a) = depth d + depth a + 1
depth (Binary _ _ a b) = depth a + depth b + 1
depth (Choice _ a b c) = depth a + depth b + depth c + 1
depth (Stars _) = 0
depth (Around _ a) = depth a + 1
depth (Bounded a b) = depth a + depth b + 1
depth (Unbounded a) = depth a + 1

-- a call with all of its arguments
abbrev pub with_arguments : Tree → List Tree → Tree
with_arguments t [] = t
with_arguments t (x ∷ xs) = with_arguments (With t x) xs

-- a declarator before its bounds
abbrev pub behind_stars : {B : Type 0} → (B → Tree) → ℕ → Option B → Tree
behind_stars value n None = Stars n
behind_stars value n (Some b) = Around n (value b)

-- a declarator with a bound behind it, or with `[]`
abbrev pub bound_behind : Tree → Option Tree → Tree
bound_behind d None = Unbounded d
bound_behind d (Some b) = Bounded d b

-- a declarator with all of its bounds
abbrev pub with_bounds : Tree → List (Option Tree) → Tree
with_bounds d [] = d
with_bounds d (b ∷ bs) = with_bounds (bound_behind d b) bs
