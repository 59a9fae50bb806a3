-- Names that are not in scope, and forms that a session forbids.
use Rattle.std.specs.Prelude.{ℕ, List, [], ◌∷◌, Option, Some, None}
use Rattle.c_symbol.specs.declared.symbol.LeafKind.{LeafKind}
use Rattle.c_symbol.specs.declared.symbol.LeafKind.TheVariants as leaf
use Rattle.c_symbol.specs.declared.symbol.PrefixOp.{PrefixOp}
use Rattle.c_symbol.specs.declared.symbol.PrefixOp.TheVariants.{Step}
use Rattle.c_symbol.specs.declared.symbol.AssignOp.TheVariants.{Plain}
use Rattle.c_symbol.specs.declared.symbol.BinaryOp.{BinaryOp}
use Rattle.c_symbol.specs.declared.symbol.BinaryOp.TheVariants.{Assign}
use Rattle.c_lex.specs.declared.token.Place.{Place}
use Rattle.c_trees.specs.Expressions.{Tree, Leaf, Paren, Index, Call, With, Member, After, Prefix, SizeofType, Cast, Binary, Choice, Stars, Around, Bounded, Unbounded}
use Rattle.c_judge.specs.Scope.{Scope}
use Rattle.c_judge.specs.Places.{place_of}
use Rattle.c_judge.specs.declared.check.Mode.{Mode}
use Rattle.c_judge.specs.declared.check.Mode.TheVariants as mode

abbrev pub first_of : {A : Type 0} → Option A → Option A → Option A
first_of (Some x) b = Some x
first_of None b = b

abbrev pub unless_numbered : List ℕ → Option ℕ → Option (List ℕ)
unless_numbered text None = Some text
unless_numbered text (Some n) = None

abbrev pub unknown_leaf : Scope → LeafKind → List ℕ → Option (List ℕ)
unknown_leaf v leaf.Name text = unless_numbered text (v.number text)
unknown_leaf v _ text = None

-- the first name of an expression that is not in scope
abbrev pub unknown : Scope → Tree → Option (List ℕ)
unknown v (Leaf _ kind text) = unknown_leaf v kind text
unknown v (Paren _ a) = unknown v a
unknown v (Index _ a b) = first_of (unknown v a) (unknown v b)
unknown v (Call _ f) = unknown v f
unknown v (With c a) = first_of (unknown v c) (unknown v a)
unknown v (Member _ a _ _ _) = unknown v a
unknown v (After _ a _) = unknown v a
unknown v (Prefix _ _ a) = unknown v a
unknown v (SizeofType _ _ d) = unknown v d
unknown v (Cast _ _ d a) = first_of (unknown v d) (unknown v a)
unknown v (Binary _ _ a b) = first_of (unknown v a) (unknown v b)
unknown v (Choice _ c a b) = first_of (unknown v c) (first_of (unknown v a) (unknown v b))
unknown v (Stars _) = None
unknown v (Around _ d) = unknown v d
unknown v (Bounded d e) = first_of (unknown v d) (unknown v e)
unknown v (Unbounded d) = unknown v d

abbrev pub forbidden_leaf : Place → LeafKind → Option ℕ
forbidden_leaf at leaf.Text = Some at.at
forbidden_leaf at _ = None

abbrev pub forbidden_prefix : Place → PrefixOp → Option ℕ
forbidden_prefix at (Step s) = Some at.at
forbidden_prefix at _ = None

abbrev pub forbidden_binary : Place → BinaryOp → Option ℕ
forbidden_binary at (Assign o) = Some at.at
forbidden_binary at _ = None

-- where the first call, assignment, `++`, `--` or string of an expression begins
abbrev pub forbidden : Tree → Option ℕ
forbidden (Leaf at kind _) = forbidden_leaf at kind
forbidden (Paren _ a) = forbidden a
forbidden (Index _ a b) = first_of (forbidden a) (forbidden b)
forbidden (Call at f) = Some at.at
forbidden (With c a) = first_of (forbidden c) (forbidden a)
forbidden (Member _ a _ _ _) = forbidden a
forbidden (After at _ _) = Some at.at
forbidden (Prefix at w a) = first_of (forbidden_prefix at w) (forbidden a)
forbidden (SizeofType _ _ d) = forbidden d
forbidden (Cast _ _ d a) = first_of (forbidden d) (forbidden a)
forbidden (Binary at w a b) = first_of (forbidden_binary at w) (first_of (forbidden a) (forbidden b))
forbidden (Choice _ c a b) = first_of (forbidden c) (first_of (forbidden a) (forbidden b))
forbidden (Stars _) = None
forbidden (Around _ d) = forbidden d
forbidden (Bounded d e) = first_of (forbidden d) (forbidden e)
forbidden (Unbounded d) = forbidden d

-- the parts of a plain assignment, which `assign` takes; anything else is forbidden there
abbrev pub forbidden_as : BinaryOp → Place → Option ℕ → Option ℕ
forbidden_as (Assign Plain) at parts = parts
forbidden_as _ at parts = Some at.at

abbrev pub forbidden_beside : Tree → Option ℕ
forbidden_beside (Binary at w a b) = forbidden_as w at (first_of (forbidden a) (forbidden b))
forbidden_beside e = Some (place_of e).at

abbrev pub forbidden_in : Mode → Tree → Option ℕ
forbidden_in mode.Value e = forbidden e
forbidden_in mode.Assign e = forbidden_beside e

-- the first of some expressions, and of the bounds of an array
abbrev pub unknown_all : Scope → List Tree → Option (List ℕ)
unknown_all v [] = None
unknown_all v (e ∷ es) = first_of (unknown v e) (unknown_all v es)

abbrev pub unknown_bound : Scope → Option Tree → Option (List ℕ)
unknown_bound v None = None
unknown_bound v (Some e) = unknown v e

abbrev pub unknown_bounds : Scope → List (Option Tree) → Option (List ℕ)
unknown_bounds v [] = None
unknown_bounds v (b ∷ bs) = first_of (unknown_bound v b) (unknown_bounds v bs)

abbrev pub forbidden_bound : Option Tree → Option ℕ
forbidden_bound None = None
forbidden_bound (Some e) = forbidden e

abbrev pub forbidden_bounds : List (Option Tree) → Option ℕ
forbidden_bounds [] = None
forbidden_bounds (b ∷ bs) = first_of (forbidden_bound b) (forbidden_bounds bs)
