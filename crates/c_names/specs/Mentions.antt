-- The names and tags that an expression mentions, in the order of its text.
use Rattle.std.specs.Prelude.{ℕ, List, [], ◌∷◌, ◌++◌, Option, Some, None}
use Rattle.c_symbol.specs.declared.symbol.LeafKind.{LeafKind}
use Rattle.c_symbol.specs.declared.symbol.LeafKind.TheVariants as leaf
use Rattle.c_trees.specs.declared.expression.Spec.{Spec}
use Rattle.c_trees.specs.declared.expression.Spec.TheVariants as spec
use Rattle.c_trees.specs.Expressions.{Tree, Leaf, Paren, Index, Call, With, Member, After, Prefix, SizeofType, Cast, Binary, Choice, Stars, Around, Bounded, Unbounded}
use Rattle.c_names.specs.declared.mention.Mention.{Mention}
use Rattle.c_names.specs.declared.mention.Mention.TheVariants as mention

abbrev pub of_leaf : LeafKind → List ℕ → List Mention
of_leaf leaf.Name text = mention.Name text ∷ []
of_leaf _ text = []

abbrev pub of_spec : Spec → List Mention
of_spec (spec.Struct tag) = mention.Tag tag ∷ []
of_spec _ = []

abbrev pub mentions : Tree → List Mention
mentions (Leaf _ kind text) = of_leaf kind text
mentions (Paren _ a) = mentions a
mentions (Index _ a b) = mentions a ++ mentions b
mentions (Call _ f) = mentions f
mentions (With c a) = mentions c ++ mentions a
mentions (Member _ a _ _ _) = mentions a
mentions (After _ a _) = mentions a
mentions (Prefix _ _ a) = mentions a
mentions (SizeofType _ s d) = of_spec s ++ mentions d
mentions (Cast _ s d a) = of_spec s ++ (mentions d ++ mentions a)
mentions (Binary _ _ a b) = mentions a ++ mentions b
mentions (Choice _ c a b) = mentions c ++ (mentions a ++ mentions b)
mentions (Stars _) = []
mentions (Around _ d) = mentions d
mentions (Bounded d e) = mentions d ++ mentions e
mentions (Unbounded d) = mentions d

-- those of each part of a list, and of a part that may be absent
abbrev pub in_all : {A : Type 0} → (A → List Mention) → List A → List Mention
in_all f [] = []
in_all f (x ∷ xs) = f x ++ in_all f xs

abbrev pub in_part : {A : Type 0} → (A → List Mention) → Option A → List Mention
in_part f None = []
in_part f (Some e) = f e
