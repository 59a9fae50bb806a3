-- What an expression stands among at its place in a file, and what its typed tree stands among in the whole program.
use Rattle.std.specs.Prelude.{◌≡◌, ◌<◌, ℕ, Bool, true, List, length, Option, Some, None, slice_get}
use Rattle.c_lex.specs.declared.token.Place.{Place}
use Rattle.c_symbol.specs.declared.symbol.LeafKind.{LeafKind}
use Rattle.c_symbol.specs.declared.symbol.LeafKind.TheVariants as leaf
use Rattle.c_trees.specs.declared.expression.Spec.{Spec}
use Rattle.c_trees.specs.declared.expression.Spec.TheVariants as spec
use Rattle.c_trees.specs.Expressions.{Tree, Leaf, Paren, Index, Call, With, Member, After, Prefix, SizeofType, Cast, Binary, Choice}
use Rattle.c_tree.specs.declared.types.CType.TheVariants.{Struct}
use Rattle.c_typing.specs.Plain.{Plain}
use Rattle.c_typing.specs.Written.{IsWritten}
use Rattle.c_typing.specs.Expressions as typing
use Rattle.c_typing.specs.Expressions.{Object, Function}
use Rattle.c_judge.specs.Scope.{Scope, defs_of}
use Rattle.c_judge.specs.Judgement.{name_alone}
use Rattle.c_accepted.specs.Grown.{Grows}

-- The objects in scope denote the same, what is complete stays as it is, each struct is within its limits in the whole program, and calls are asked
-- for their parameters.
pub record Reads (v : Scope) (s : typing.Scope) : Type 0 where
  pub objects : (text : List ℕ) (n : ℕ) (t : Plain) (r : Bool) → v.number text ≡ Some n → slice_get v.among.names n ≡ Some (Object t r) → slice_get s.names n ≡ Some (Object t r)
  pub grows : Grows (defs_of v) s.defs
  pub structs : (n : ℕ) → n < length s.defs → IsWritten s.defs (Struct n)
  pub asks : v.asks ≡ true

module _ (v : Scope) (s : typing.Scope) where
  -- a literal has its text among the strings of the program
  abbrev pub IsLeafRead : Place → LeafKind → List ℕ → Type 0
  IsLeafRead at leaf.Text text = slice_get s.strings (v.literal at.at) ≡ Some text
  IsLeafRead at _ text = Unit {0}

  -- a function that is called is one of the program
  abbrev pub IsCalleeRead : Option (List ℕ) → Type 0
  IsCalleeRead None = Unit {0}
  IsCalleeRead (Some text) = (n : ℕ) (r : Plain) (ts : List Plain) → v.number text ≡ Some n → slice_get v.among.names n ≡ Some (Function r ts) → slice_get s.names n ≡ Some (Function r ts)

  -- a tag names a struct of the program
  abbrev pub IsSpecRead : Spec → Type 0
  IsSpecRead (spec.Struct tag) = v.tag tag < length (defs_of v)
  IsSpecRead _ = Unit {0}

  -- the literals, called functions and tags of an expression are those of the program
  abbrev pub IsRead : Tree → Type 0
  IsRead (Leaf at kind text) = IsLeafRead at kind text
  IsRead (Paren at a) = IsRead a
  IsRead (Index at a b) = IsRead a × IsRead b
  IsRead (Call at f) = IsCalleeRead (name_alone f)
  IsRead (With c a) = IsRead c × IsRead a
  IsRead (Member at a w q name) = IsRead a
  IsRead (After at a step) = IsRead a
  IsRead (Prefix at w a) = IsRead a
  IsRead (SizeofType at q d) = IsSpecRead q
  IsRead (Cast at q d a) = IsRead a
  IsRead (Binary at w a b) = IsRead a × IsRead b
  IsRead (Choice at c a b) = IsRead c × IsRead a × IsRead b
  IsRead _ = Unit {0}
