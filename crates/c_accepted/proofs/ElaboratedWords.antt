-- The constants of a typed tree are words where those of the expression that it stands for are.
use Rattle.std.proofs.Common.{sym, subst, ℕ, ◌<◌, ◌^◌, List, [], ◌∷◌, Option}
use Rattle.std.specs.List.{AllByRecursion}
use Rattle.c_lex.specs.declared.token.Place.{Place}
use Rattle.c_symbol.specs.declared.symbol.LeafKind.{LeafKind}
use Rattle.c_symbol.specs.declared.symbol.LeafKind.TheVariants as leaf
use Rattle.c_symbol.specs.declared.symbol.Access.{Access}
use Rattle.c_symbol.specs.declared.symbol.Access.TheVariants as access
use Rattle.c_symbol.specs.declared.symbol.Step.{Step}
use Rattle.c_symbol.specs.declared.symbol.PrefixOp.{PrefixOp}
use Rattle.c_symbol.specs.declared.symbol.PrefixOp.TheVariants as prefix
use Rattle.c_symbol.specs.declared.symbol.BinaryOp.{BinaryOp}
use Rattle.c_symbol.specs.declared.symbol.BinaryOp.TheVariants as written
use Rattle.c_trees.specs.Expressions.{Tree, Leaf, Paren, Index, Call, With, Member, After, Prefix, SizeofType, Cast, Binary, Choice, Stars, Around, Bounded, Unbounded}
use Rattle.c_tree.specs.declared.types.StructDef.{StructDef}
use Rattle.c_tree.specs.declared.typed.BinaryOp.{BinaryOp as Operator}
use Rattle.c_tree.specs.declared.typed.BinaryOp.TheVariants as op
use Rattle.c_tree.specs.declared.typed.UnaryOp.{UnaryOp}
use Rattle.c_tree.specs.declared.typed.UnaryOp.TheVariants as sign
use Rattle.c_tree.specs.declared.typed.Typed.{Typed, Row_of-Typed, end_of-Typed, more_of-Typed}
use Rattle.c_tree.specs.declared.typed.Typed.TheVariants.{Comma', Assign', Choice', Or', And', Binary', Cast', Before', Address', Follow', Unary', SizeOf', SizeOfType, Index', Call', Dot', Arrow', After', Name, Constant, Literal, Parens'}
use Rattle.c_tree.specs.Rows.{exprs}
use Rattle.c_typing.specs.Plain.{Plain}
use Rattle.c_judge.specs.Scope.{Scope, defs_of}
use Rattle.c_judge.specs.Elaboration.{IsUnary, IsPrefixed, IsAssigned, IsOperation, IsJoined, IsParen, IsIndex, IsMember, IsAfter, IsChoice, IsCast, IsSizeOfType, IsConstant, IsLeaf, IsCall, Elaborates, AreArguments}
use Rattle.c_judge.specs.Judgement.{compound_of}
use Rattle.c_accepted.specs.Sources.{IsWord, AreWords}
use Rattle.c_accepted.proofs.Words.{HasWords, AllHaveWords}
use Rattle.c_accepted.proofs.Runs.{all_both}

constant_words : (m : ℕ) (z : Typed) → IsConstant m z → m < 2 ^ 32 → HasWords z
constant_words m (Constant h n) e w = subst (λ k. k < 2 ^ 32) (sym e) w
constant_words m _ e w = absurd e

leaf_words : (v : Scope) (at : Place) (kind : LeafKind) (text : List ℕ) (z : Typed) → IsLeaf v at kind text z → IsWord kind → HasWords z
leaf_words v at leaf.Name text (Name h n) e w = tt
leaf_words v at leaf.Name text _ e w = absurd e
leaf_words v at (leaf.Constant i) text z e w = constant_words i.value z e w
leaf_words v at (leaf.Character c) text z e w = constant_words _ z e w
leaf_words v at leaf.Text text (Literal h n) e w = tt
leaf_words v at leaf.Text text _ e w = absurd e

-- ---- what is made of one part

unary_words : (o : UnaryOp) (x z : Typed) → IsUnary o x z → HasWords x → HasWords z
unary_words o x (Unary' h u n y) e w = subst HasWords (sym e.1) w
unary_words o x _ e w = absurd e

prefixed_words : (o : PrefixOp) (x z : Typed) → IsPrefixed o x z → HasWords x → HasWords z
prefixed_words (prefix.Step step) x (Before' h o n y) e w = subst HasWords (sym e.1) w
prefixed_words (prefix.Step step) x _ e w = absurd e
prefixed_words prefix.Address x (Address' h n y) e w = subst HasWords (sym e) w
prefixed_words prefix.Address x _ e w = absurd e
prefixed_words prefix.Dereference x (Follow' h n y) e w = subst HasWords (sym e) w
prefixed_words prefix.Dereference x _ e w = absurd e
prefixed_words prefix.Sizeof x (SizeOf' h n y) e w = subst HasWords (sym e) w
prefixed_words prefix.Sizeof x _ e w = absurd e
prefixed_words prefix.Plus x z e w = unary_words sign.Plus x z e w
prefixed_words prefix.Minus x z e w = unary_words sign.Minus x z e w
prefixed_words prefix.Complement x z e w = unary_words sign.Complement x z e w
prefixed_words prefix.Not x z e w = unary_words sign.Not x z e w

paren_words : (x z : Typed) → IsParen x z → HasWords x → HasWords z
paren_words x (Parens' h n y) e w = subst HasWords (sym e) w
paren_words x _ e w = absurd e

member_words : (defs : List StructDef) (a : Access) (name : List ℕ) (x z : Typed) → IsMember defs a name x z → HasWords x → HasWords z
member_words defs access.Dot name x (Dot' h n y m) e w = subst HasWords (sym e.0) w
member_words defs access.Dot name x _ e w = absurd e
member_words defs access.Arrow name x (Arrow' h n y m) e w = subst HasWords (sym e.0) w
member_words defs access.Arrow name x _ e w = absurd e

after_words : (step : Step) (x z : Typed) → IsAfter step x z → HasWords x → HasWords z
after_words step x (After' h n y o) e w = subst HasWords (sym e.1) w
after_words step x _ e w = absurd e

cast_words : (x z : Typed) → IsCast x z → HasWords x → HasWords z
cast_words x (Cast' h n y) e w = subst HasWords (sym e) w
cast_words x _ e w = absurd e

size_words : (t : Plain) (z : Typed) → IsSizeOfType t z → HasWords z
size_words t (SizeOfType h u) e = tt
size_words t _ e = absurd e

-- ---- of two and of three

index_words : (x y z : Typed) → IsIndex x y z → HasWords x → HasWords y → HasWords z
index_words x y (Index' h m a n b) e w u = (subst HasWords (sym e.0) w, subst HasWords (sym e.1) u)
index_words x y _ e w u = absurd e

operation_words : (o : Operator) (x y z : Typed) → IsOperation o x y z → HasWords x → HasWords y → HasWords z
operation_words o x y (Binary' h m a p n b) e w u = (subst HasWords (sym e.1) w, subst HasWords (sym e.2) u)
operation_words o x y _ e w u = absurd e

assigned_words : (o : Option Operator) (x y z : Typed) → IsAssigned o x y z → HasWords x → HasWords y → HasWords z
assigned_words o x y (Assign' h m a p n b) e w u = (subst HasWords (sym e.1) w, subst HasWords (sym e.2) u)
assigned_words o x y _ e w u = absurd e

joined_words : (o : BinaryOp) (x y z : Typed) → IsJoined o x y z → HasWords x → HasWords y → HasWords z
joined_words written.Comma x y (Comma' h m a n b) e w u = (subst HasWords (sym e.0) w, subst HasWords (sym e.1) u)
joined_words written.Comma x y _ e w u = absurd e
joined_words written.LogicalOr x y (Or' h m a n b) e w u = (subst HasWords (sym e.0) w, subst HasWords (sym e.1) u)
joined_words written.LogicalOr x y _ e w u = absurd e
joined_words written.LogicalAnd x y (And' h m a n b) e w u = (subst HasWords (sym e.0) w, subst HasWords (sym e.1) u)
joined_words written.LogicalAnd x y _ e w u = absurd e
joined_words (written.Assign o) x y z e w u = assigned_words (compound_of o) x y z e w u
joined_words written.BitOr x y z e w u = operation_words op.BitOr x y z e w u
joined_words written.BitXor x y z e w u = operation_words op.BitXor x y z e w u
joined_words written.BitAnd x y z e w u = operation_words op.BitAnd x y z e w u
joined_words written.Equal x y z e w u = operation_words op.Equal x y z e w u
joined_words written.NotEqual x y z e w u = operation_words op.Unequal x y z e w u
joined_words written.Less x y z e w u = operation_words op.Less x y z e w u
joined_words written.Greater x y z e w u = operation_words op.Greater x y z e w u
joined_words written.LessEqual x y z e w u = operation_words op.LessEqual x y z e w u
joined_words written.GreaterEqual x y z e w u = operation_words op.GreaterEqual x y z e w u
joined_words written.ShiftLeft x y z e w u = operation_words op.ShiftLeft x y z e w u
joined_words written.ShiftRight x y z e w u = operation_words op.ShiftRight x y z e w u
joined_words written.Add x y z e w u = operation_words op.Add x y z e w u
joined_words written.Subtract x y z e w u = operation_words op.Subtract x y z e w u
joined_words written.Multiply x y z e w u = operation_words op.Multiply x y z e w u
joined_words written.Divide x y z e w u = operation_words op.Divide x y z e w u
joined_words written.Remainder x y z e w u = operation_words op.Remainder x y z e w u

choice_words : (c x y z : Typed) → IsChoice c x y z → HasWords c → HasWords x → HasWords y → HasWords z
choice_words c x y (Choice' h l d m a n b) e w u t = (subst HasWords (sym e.0) w, subst HasWords (sym e.1) u, subst HasWords (sym e.2) t)
choice_words c x y _ e w u t = absurd e

-- ---- calls

row_words : {m : _} (row : Row_of-Typed m) → AllByRecursion HasWords (exprs row) → AllHaveWords row
row_words end_of-Typed w = tt
row_words (more_of-Typed e rest) w = (w.0, row_words rest w.1)

call_words : (P : ℕ → Type 0) (xs : List Typed) (z : Typed) → IsCall P xs z → AllByRecursion HasWords xs → HasWords z
call_words P xs (Call' h n m row) e w = row_words row (subst (AllByRecursion HasWords) (sym e.1) w)
call_words P xs _ e w = absurd e

-- ---- expressions

module _ (v : Scope) where
  mutual
    pub elaborated_words : (e : Tree) (z : Typed) → AreWords e → Elaborates v e z → HasWords z
    elaborated_words (Leaf at kind text) z w l = leaf_words v at kind text z l.1 w
    elaborated_words (Paren at a) z w (h, (x, r, l)) = paren_words x z r (elaborated_words a x w l)
    elaborated_words (Index at a b) z w (h, (x, y, r, l, m)) = index_words x y z r (elaborated_words a x w.0 l) (elaborated_words b y w.1 m)
    elaborated_words (Call at f) z w l = call_words _ [] z l.1 tt
    elaborated_words (With c a) z w (h, (xs, r, (ys, y, e, l, m))) =
        call_words _ xs z r (subst (AllByRecursion HasWords) (sym e) (all_both HasWords ys (y ∷ []) (argument_words c ys w.0 l) (elaborated_words a y w.1 m, tt)))
    elaborated_words (Member at a access q name) z w (h, (x, r, l)) = member_words (defs_of v) access name x z r (elaborated_words a x w l)
    elaborated_words (After at a step) z w (h, (x, r, l)) = after_words step x z r (elaborated_words a x w l)
    elaborated_words (Prefix at o a) z w (h, (x, r, l)) = prefixed_words o x z r (elaborated_words a x w l)
    elaborated_words (SizeofType at s d) z w (h, (t, e, r)) = size_words t z r
    elaborated_words (Cast at s d a) z w (h, (x, r, l)) = cast_words x z r (elaborated_words a x w.1 l)
    elaborated_words (Binary at o a b) z w (h, (x, y, r, l, m)) = joined_words o x y z r (elaborated_words a x w.0 l) (elaborated_words b y w.1 m)
    elaborated_words (Choice at c a b) z w (h, (q, x, y, r, l, m, n)) = choice_words q x y z r (elaborated_words c q w.0 l) (elaborated_words a x w.1 m) (elaborated_words b y w.2 n)
    elaborated_words (Stars n) z w l = absurd l
    elaborated_words (Around n d) z w l = absurd l
    elaborated_words (Bounded d e) z w l = absurd l
    elaborated_words (Unbounded d) z w l = absurd l

    argument_words : (c : Tree) (xs : List Typed) → AreWords c → AreArguments v c xs → AllByRecursion HasWords xs
    argument_words (Call at f) xs w e = subst (AllByRecursion HasWords) (sym e) tt
    argument_words (With c a) xs w (ys, y, e, l, m) = subst (AllByRecursion HasWords) (sym e) (all_both HasWords ys (y ∷ []) (argument_words c ys w.0 l) (elaborated_words a y w.1 m, tt))
    argument_words _ xs w e = absurd e
