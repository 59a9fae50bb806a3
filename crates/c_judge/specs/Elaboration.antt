-- Which typed tree an expression becomes: its own form, with names, members and constants by their numbers, and each part with its type.
use Rattle.std.specs.Prelude.{◌≡◌, ℕ, List, [], ◌∷◌, ◌++◌, Option, Some, None}
use Rattle.ldb_words.specs.Word.{word_of_signed}
use Rattle.c_lex.specs.declared.token.Place.{Place}
use Rattle.c_symbol.specs.declared.symbol.LeafKind.{LeafKind}
use Rattle.c_symbol.specs.declared.symbol.LeafKind.TheVariants as leaf
use Rattle.c_symbol.specs.declared.symbol.Access.{Access}
use Rattle.c_symbol.specs.declared.symbol.Access.TheVariants as access
use Rattle.c_symbol.specs.declared.symbol.Step.{Step}
use Rattle.c_tree.specs.declared.types.StructDef.{StructDef}
use Rattle.c_symbol.specs.declared.symbol.PrefixOp.{PrefixOp}
use Rattle.c_symbol.specs.declared.symbol.PrefixOp.TheVariants as prefix
use Rattle.c_symbol.specs.declared.symbol.BinaryOp.{BinaryOp}
use Rattle.c_symbol.specs.declared.symbol.BinaryOp.TheVariants as written
use Rattle.c_trees.specs.Expressions.{Tree, Leaf, Paren, Index, Call, With, Member, After, Prefix, SizeofType, Cast, Binary, Choice}
use Rattle.c_tree.specs.declared.typed.Site.{Site}
use Rattle.c_tree.specs.declared.typed.Head.{Head}
use Rattle.c_tree.specs.declared.typed.BinaryOp.{BinaryOp as Operator}
use Rattle.c_tree.specs.declared.typed.BinaryOp.TheVariants as op
use Rattle.c_tree.specs.declared.typed.UnaryOp.{UnaryOp}
use Rattle.c_tree.specs.declared.typed.UnaryOp.TheVariants.{Plus, Minus, Complement, Not}
use Rattle.c_tree.specs.declared.typed.Typed.{Typed}
use Rattle.c_tree.specs.declared.typed.Typed.TheVariants.{Comma', Assign', Choice', Or', And', Binary', Cast', Before', Address', Follow', Unary', SizeOf', SizeOfType, Index', Call', Dot', Arrow', After', Name, Constant, Literal, Parens'}
use Rattle.c_tree.specs.Types.{type_of, head_of}
use Rattle.c_tree.specs.Rows.{exprs}
use Rattle.c_typing.specs.Plain.{Plain, plain, value_type}
use Rattle.c_judge.specs.Scope.{Scope, defs_of, pointed_number}
use Rattle.c_defs.specs.Members.{member_number}
use Rattle.c_judge.specs.Places.{place_of}
use Rattle.c_judge.specs.Answers.{Known}
use Rattle.c_judge.specs.Judgement.{Verdict, judged, declared, name_alone, spec_type, step_of, compound_of}

abbrev pub site_of : Place → Site
site_of at = record { at = at.at; line = at.line; column = at.column }

abbrev pub type_in : Verdict → Option Plain
type_in (Known j) = Some j.operand.ctype
type_in _ = None

-- what a node keeps: the place of its first token, and its type
abbrev pub IsHead : Verdict → Place → Head → Type 0
IsHead j at h = (h.site ≡ site_of at) × (type_in j ≡ Some (plain h.ctype))

-- `+ - ~ !` in front of a part
abbrev pub IsUnary : UnaryOp → Typed → Typed → Type 0
IsUnary o x (Unary' h w _ y) = (w ≡ o) × (y ≡ x)
IsUnary o x _ = ⊥

-- what an operator in front of a part becomes
abbrev pub IsPrefixed : PrefixOp → Typed → Typed → Type 0
IsPrefixed (prefix.Step step) x (Before' h o _ y) = (o ≡ step_of step) × (y ≡ x)
IsPrefixed prefix.Address x (Address' h _ y) = y ≡ x
IsPrefixed prefix.Dereference x (Follow' h _ y) = y ≡ x
IsPrefixed prefix.Sizeof x (SizeOf' h _ y) = y ≡ x
IsPrefixed prefix.Plus x z = IsUnary Plus x z
IsPrefixed prefix.Minus x z = IsUnary Minus x z
IsPrefixed prefix.Complement x z = IsUnary Complement x z
IsPrefixed prefix.Not x z = IsUnary Not x z
IsPrefixed _ _ _ = ⊥

-- an assignment between two parts, and an operation on them
abbrev pub IsAssigned : Option Operator → Typed → Typed → Typed → Type 0
IsAssigned w x y (Assign' h _ a o _ b) = (w ≡ o) × (a ≡ x) × (b ≡ y)
IsAssigned w x y _ = ⊥

abbrev pub IsOperation : Operator → Typed → Typed → Typed → Type 0
IsOperation w x y (Binary' h _ a o _ b) = (w ≡ o) × (a ≡ x) × (b ≡ y)
IsOperation w x y _ = ⊥

-- what an operator between two parts becomes
abbrev pub IsJoined : BinaryOp → Typed → Typed → Typed → Type 0
IsJoined written.Comma x y (Comma' h _ a _ b) = (a ≡ x) × (b ≡ y)
IsJoined written.LogicalOr x y (Or' h _ a _ b) = (a ≡ x) × (b ≡ y)
IsJoined written.LogicalAnd x y (And' h _ a _ b) = (a ≡ x) × (b ≡ y)
IsJoined (written.Assign w) x y z = IsAssigned (compound_of w) x y z
IsJoined written.BitOr x y z = IsOperation op.BitOr x y z
IsJoined written.BitXor x y z = IsOperation op.BitXor x y z
IsJoined written.BitAnd x y z = IsOperation op.BitAnd x y z
IsJoined written.Equal x y z = IsOperation op.Equal x y z
IsJoined written.NotEqual x y z = IsOperation op.Unequal x y z
IsJoined written.Less x y z = IsOperation op.Less x y z
IsJoined written.Greater x y z = IsOperation op.Greater x y z
IsJoined written.LessEqual x y z = IsOperation op.LessEqual x y z
IsJoined written.GreaterEqual x y z = IsOperation op.GreaterEqual x y z
IsJoined written.ShiftLeft x y z = IsOperation op.ShiftLeft x y z
IsJoined written.ShiftRight x y z = IsOperation op.ShiftRight x y z
IsJoined written.Add x y z = IsOperation op.Add x y z
IsJoined written.Subtract x y z = IsOperation op.Subtract x y z
IsJoined written.Multiply x y z = IsOperation op.Multiply x y z
IsJoined written.Divide x y z = IsOperation op.Divide x y z
IsJoined written.Remainder x y z = IsOperation op.Remainder x y z
IsJoined _ _ _ _ = ⊥

abbrev pub IsParen : Typed → Typed → Type 0
IsParen x (Parens' h _ y) = y ≡ x
IsParen x _ = ⊥

abbrev pub IsIndex : Typed → Typed → Typed → Type 0
IsIndex x y (Index' h _ a _ b) = (a ≡ x) × (b ≡ y)
IsIndex x y _ = ⊥

abbrev pub IsMember : List StructDef → Access → List ℕ → Typed → Typed → Type 0
IsMember defs access.Dot name x (Dot' h _ y m) = (y ≡ x) × (member_number defs (plain (type_of x)) name ≡ Some m)
IsMember defs access.Arrow name x (Arrow' h _ y m) = (y ≡ x) × (pointed_number defs (value_type (plain (type_of x))) name ≡ Some m)
IsMember defs _ name x _ = ⊥

abbrev pub IsAfter : Step → Typed → Typed → Type 0
IsAfter step x (After' h _ y o) = (o ≡ step_of step) × (y ≡ x)
IsAfter step x _ = ⊥

abbrev pub IsChoice : Typed → Typed → Typed → Typed → Type 0
IsChoice c x y (Choice' h _ d _ a _ b) = (d ≡ c) × (a ≡ x) × (b ≡ y)
IsChoice c x y _ = ⊥

abbrev pub IsCast : Typed → Typed → Type 0
IsCast x (Cast' h _ y) = y ≡ x
IsCast x _ = ⊥

abbrev pub IsSizeOfType : Plain → Typed → Type 0
IsSizeOfType t (SizeOfType h u) = plain u ≡ t
IsSizeOfType t _ = ⊥

abbrev pub IsConstant : ℕ → Typed → Type 0
IsConstant m (Constant h n) = n ≡ m
IsConstant m _ = ⊥

abbrev pub IsNamed : ℕ → Typed → Type 0
IsNamed m (Name h n) = n ≡ m
IsNamed m _ = ⊥

abbrev pub IsLiteral : ℕ → Typed → Type 0
IsLiteral m (Literal h n) = n ≡ m
IsLiteral m _ = ⊥

-- a node that begins at a place
abbrev pub IsNode : (Typed → Type 0) → Place → Typed → Type 0
IsNode P at z = ((head_of z).site ≡ site_of at) × P z

-- a name, a constant or a string, by its number or its bits
abbrev pub IsLeaf : Scope → Place → LeafKind → List ℕ → Typed → Type 0
IsLeaf v at leaf.Name text (Name h n) = v.number text ≡ Some n
IsLeaf v at (leaf.Constant i) text z = IsConstant i.value z
IsLeaf v at (leaf.Character c) text z = IsConstant (word_of_signed c) z
IsLeaf v at leaf.Text text (Literal h n) = n ≡ v.literal at.at
IsLeaf v at kind text _ = ⊥

-- what is made of one part, of two, and of three
abbrev pub OfOne : (Typed → Typed → Type 0) → (Typed → Type 0) → Typed → Type 0
OfOne R P z = (x : Typed) × R x z × P x

abbrev pub OfTwo : (Typed → Typed → Typed → Type 0) → (P Q : Typed → Type 0) → Typed → Type 0
OfTwo R P Q z = (x : Typed) × (y : Typed) × R x y z × P x × Q y

abbrev pub OfThree : (Typed → Typed → Typed → Typed → Type 0) → (P Q S : Typed → Type 0) → Typed → Type 0
OfThree R P Q S z = (c : Typed) × (x : Typed) × (y : Typed) × R c x y z × P c × Q x × S y

-- what is made of a list of parts
abbrev pub OfList : (List Typed → Typed → Type 0) → (List Typed → Type 0) → Typed → Type 0
OfList R P z = (xs : List Typed) × R xs z × P xs

-- a list with such a last item
abbrev pub HasLast : (List Typed → Type 0) → (Typed → Type 0) → List Typed → Type 0
HasLast P Q xs = (ys : List Typed) × (y : Typed) × (xs ≡ ys ++ y ∷ []) × P ys × Q y

-- a call by a number, with these arguments
abbrev pub IsCall : (ℕ → Type 0) → List Typed → Typed → Type 0
IsCall P xs (Call' h n _ row) = P n × (exprs row ≡ xs)
IsCall P xs _ = ⊥

-- what is called
abbrev pub callee_of : Tree → Tree
callee_of (Call _ f) = f
callee_of (With c _) = callee_of c
callee_of t = t

module _ (v : Scope) where
  -- A function is called by the number of its name. Where calls are not asked for their parameters, what is no name may have any number.
  abbrev pub IsNumberOf : Option (List ℕ) → ℕ → Type 0
  IsNumberOf (Some text) n = v.number text ≡ Some n
  IsNumberOf None n = Unit {0}

  abbrev pub IsCallee : Tree → ℕ → Type 0
  IsCallee f n = IsNumberOf (name_alone f) n

  -- what a node keeps, for the tree that it stands for
  abbrev pub HasHead : Tree → Typed → Type 0
  HasHead e z = IsHead (judged v e) (place_of e) (head_of z)

  abbrev mutual
    -- the typed tree of an expression
    pub Elaborates : Tree → Typed → Type 0
    Elaborates (Leaf at kind text) z = HasHead (Leaf at kind text) z × IsLeaf v at kind text z
    Elaborates (Paren at a) z = HasHead (Paren at a) z × OfOne IsParen (Elaborates a) z
    Elaborates (Index at a b) z = HasHead (Index at a b) z × OfTwo IsIndex (Elaborates a) (Elaborates b) z
    Elaborates (Call at f) z = HasHead (Call at f) z × IsCall (IsCallee f) [] z
    Elaborates (With c a) z = HasHead (With c a) z × OfList (IsCall (IsCallee (callee_of c))) (HasLast (AreArguments c) (Elaborates a)) z
    Elaborates (Member at a w q name) z = HasHead (Member at a w q name) z × OfOne (IsMember (defs_of v) w name) (Elaborates a) z
    Elaborates (After at a step) z = HasHead (After at a step) z × OfOne (IsAfter step) (Elaborates a) z
    Elaborates (Prefix at w a) z = HasHead (Prefix at w a) z × OfOne (IsPrefixed w) (Elaborates a) z
    Elaborates (SizeofType at s d) z = HasHead (SizeofType at s d) z × ((t : Plain) × (declared v at.at d (Known (spec_type v s)) ≡ Known t) × IsSizeOfType t z)
    Elaborates (Cast at s d a) z = HasHead (Cast at s d a) z × OfOne IsCast (Elaborates a) z
    Elaborates (Binary at w a b) z = HasHead (Binary at w a b) z × OfTwo (IsJoined w) (Elaborates a) (Elaborates b) z
    Elaborates (Choice at c a b) z = HasHead (Choice at c a b) z × OfThree IsChoice (Elaborates c) (Elaborates a) (Elaborates b) z
    Elaborates _ z = ⊥

    -- the arguments of a call, in order
    pub AreArguments : Tree → List Typed → Type 0
    AreArguments (Call at f) xs = xs ≡ []
    AreArguments (With c a) xs = HasLast (AreArguments c) (Elaborates a) xs
    AreArguments _ xs = ⊥
