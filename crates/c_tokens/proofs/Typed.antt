-- What an expression becomes has at most as many tokens as the expression is spelled with.
use Rattle.std.proofs.Common.{◌≡◌, refl, ap, ◌∙◌, ℕ, ◌+◌, ◌-◌, ◌≤◌, List, [], ◌∷◌, ◌++◌, length, length-append, arith}
use Rattle.c_lex.specs.declared.token.Place.{Place}
use Rattle.c_symbol.specs.declared.symbol.LeafKind.{LeafKind}
use Rattle.c_symbol.specs.declared.symbol.LeafKind.TheVariants as leaf
use Rattle.c_symbol.specs.declared.symbol.Access.{Access}
use Rattle.c_symbol.specs.declared.symbol.Access.TheVariants as access
use Rattle.c_symbol.specs.declared.symbol.Step.{Step}
use Rattle.c_symbol.specs.declared.symbol.PrefixOp.{PrefixOp}
use Rattle.c_symbol.specs.declared.symbol.PrefixOp.TheVariants as prefix
use Rattle.c_symbol.specs.declared.symbol.BinaryOp.{BinaryOp as Written}
use Rattle.c_symbol.specs.declared.symbol.BinaryOp.TheVariants as written
use Rattle.c_trees.specs.Expressions.{Tree, Leaf, Paren, Index, Call, With, Member, After, Prefix, SizeofType, Cast, Binary, Choice}
use Rattle.c_tree.specs.declared.types.StructDef.{StructDef}
use Rattle.c_tree.specs.declared.typed.BinaryOp.{BinaryOp as Operator}
use Rattle.c_tree.specs.declared.typed.UnaryOp.{UnaryOp}
use Rattle.c_tree.specs.declared.typed.UnaryOp.TheVariants.{Plus, Minus, Complement, Not}
use Rattle.c_tree.specs.declared.typed.Typed.{Typed, Row_of-Typed, end_of-Typed, more_of-Typed}
use Rattle.c_tree.specs.declared.typed.Typed.TheVariants.{Comma', Assign', Choice', Or', And', Binary', Cast', Before', Address', Follow', Unary', SizeOf', SizeOfType, Index', Call', Dot', Arrow', After', Name, Constant, Literal, Parens'}
use Rattle.c_tree.specs.Rows.{exprs}
use Rattle.c_typing.specs.Plain.{Plain}
use Rattle.slot_gen.specs.Tokens.{tokens_of, row_tokens}
use Rattle.c_judge.specs.Scope.{Scope}
use Rattle.c_judge.specs.Elaboration.{Elaborates, AreArguments, IsUnary, IsPrefixed, IsOperation, IsJoined, IsParen, IsIndex, IsMember, IsAfter, IsChoice, IsCast, IsSizeOfType, IsConstant, IsLeaf, IsCall}
use Rattle.c_tokens.proofs.Spelled.{tree_tokens, arguments_tokens}

-- ---- the forms

unary_tokens : (o : UnaryOp) (x z : Typed) → IsUnary o x z → tokens_of z ≡ 1 + tokens_of x
unary_tokens o x (Unary' h w i y) e = ap (λ t. 1 + tokens_of t) e.1
unary_tokens o x z e = absurd e

prefixed_tokens : (op : PrefixOp) (x z : Typed) → IsPrefixed op x z → tokens_of z ≡ 1 + tokens_of x
prefixed_tokens (prefix.Step step) x (Before' h o i y) e = ap (λ t. 1 + tokens_of t) e.1
prefixed_tokens prefix.Address x (Address' h i y) e = ap (λ t. 1 + tokens_of t) e
prefixed_tokens prefix.Dereference x (Follow' h i y) e = ap (λ t. 1 + tokens_of t) e
prefixed_tokens prefix.Sizeof x (SizeOf' h i y) e = ap (λ t. 1 + tokens_of t) e
prefixed_tokens prefix.Plus x z e = unary_tokens Plus x z e
prefixed_tokens prefix.Minus x z e = unary_tokens Minus x z e
prefixed_tokens prefix.Complement x z e = unary_tokens Complement x z e
prefixed_tokens prefix.Not x z e = unary_tokens Not x z e
prefixed_tokens op x z e = absurd e

two : (a b x y : Typed) → a ≡ x → b ≡ y → 1 + (tokens_of a + tokens_of b) ≡ 1 + (tokens_of x + tokens_of y)
two a b x y e f = ap (λ t. 1 + (tokens_of t + tokens_of b)) e ∙ ap (λ t. 1 + (tokens_of x + tokens_of t)) f

abbrev Both : Typed → Typed → Typed → Type 0
Both x y z = tokens_of z ≡ 1 + (tokens_of x + tokens_of y)

operation_tokens : (w : Operator) (x y z : Typed) → IsOperation w x y z → Both x y z
operation_tokens w x y (Binary' h i a o j b) e = two a b x y e.1 e.2
operation_tokens w x y z e = absurd e

joined_tokens : (w : Written) (x y z : Typed) → IsJoined w x y z → Both x y z
joined_tokens written.Comma x y (Comma' h i a j b) e = two a b x y e.0 e.1
joined_tokens written.LogicalOr x y (Or' h i a j b) e = two a b x y e.0 e.1
joined_tokens written.LogicalAnd x y (And' h i a j b) e = two a b x y e.0 e.1
joined_tokens (written.Assign w) x y (Assign' h i a o j b) e = two a b x y e.1 e.2
joined_tokens written.BitOr x y z e = operation_tokens _ x y z e
joined_tokens written.BitXor x y z e = operation_tokens _ x y z e
joined_tokens written.BitAnd x y z e = operation_tokens _ x y z e
joined_tokens written.Equal x y z e = operation_tokens _ x y z e
joined_tokens written.NotEqual x y z e = operation_tokens _ x y z e
joined_tokens written.Less x y z e = operation_tokens _ x y z e
joined_tokens written.Greater x y z e = operation_tokens _ x y z e
joined_tokens written.LessEqual x y z e = operation_tokens _ x y z e
joined_tokens written.GreaterEqual x y z e = operation_tokens _ x y z e
joined_tokens written.ShiftLeft x y z e = operation_tokens _ x y z e
joined_tokens written.ShiftRight x y z e = operation_tokens _ x y z e
joined_tokens written.Add x y z e = operation_tokens _ x y z e
joined_tokens written.Subtract x y z e = operation_tokens _ x y z e
joined_tokens written.Multiply x y z e = operation_tokens _ x y z e
joined_tokens written.Divide x y z e = operation_tokens _ x y z e
joined_tokens written.Remainder x y z e = operation_tokens _ x y z e
joined_tokens w x y z e = absurd e

paren_tokens : (x z : Typed) → IsParen x z → tokens_of z ≡ 2 + tokens_of x
paren_tokens x (Parens' h i y) e = ap (λ t. 2 + tokens_of t) e
paren_tokens x z e = absurd e

index_tokens : (x y z : Typed) → IsIndex x y z → tokens_of z ≡ 2 + (tokens_of x + tokens_of y)
index_tokens x y (Index' h i a j b) e = ap (λ t. 2 + (tokens_of t + tokens_of b)) e.0 ∙ ap (λ t. 2 + (tokens_of x + tokens_of t)) e.1
index_tokens x y z e = absurd e

member_tokens : (defs : List StructDef) (w : Access) (name : List ℕ) (x z : Typed) → IsMember defs w name x z → tokens_of z ≡ 2 + tokens_of x
member_tokens defs access.Dot name x (Dot' h i y m) e = ap (λ t. 2 + tokens_of t) e.0
member_tokens defs access.Arrow name x (Arrow' h i y m) e = ap (λ t. 2 + tokens_of t) e.0
member_tokens defs w name x z e = absurd e

after_tokens : (step : Step) (x z : Typed) → IsAfter step x z → tokens_of z ≡ 1 + tokens_of x
after_tokens step x (After' h i y o) e = ap (λ t. 1 + tokens_of t) e.1
after_tokens step x z e = absurd e

cast_tokens : (x z : Typed) → IsCast x z → tokens_of z ≡ 3 + tokens_of x
cast_tokens x (Cast' h i y) e = ap (λ t. 3 + tokens_of t) e
cast_tokens x z e = absurd e

size_tokens : (t : Plain) (z : Typed) → IsSizeOfType t z → tokens_of z ≡ 4
size_tokens t (SizeOfType h u) e = refl
size_tokens t z e = absurd e

choice_tokens : (c x y z : Typed) → IsChoice c x y z → tokens_of z ≡ 2 + (tokens_of c + (tokens_of x + tokens_of y))
choice_tokens c x y (Choice' h i d j a k b) e =
    ap (λ t. 2 + (tokens_of t + (tokens_of a + tokens_of b))) e.0 ∙ ap (λ t. 2 + (tokens_of c + (tokens_of t + tokens_of b))) e.1 ∙ ap (λ t. 2 + (tokens_of c + (tokens_of x + tokens_of t))) e.2
choice_tokens c x y z e = absurd e

constant_tokens : (n : ℕ) (z : Typed) → IsConstant n z → tokens_of z ≡ 1
constant_tokens n (Constant h m) e = refl
constant_tokens n z e = absurd e

leaf_tokens : (v : Scope) (at : Place) (kind : LeafKind) (text : List ℕ) (z : Typed) → IsLeaf v at kind text z → tokens_of z ≡ 1
leaf_tokens v at leaf.Name text (Name h n) e = refl
leaf_tokens v at (leaf.Constant i) text z e = constant_tokens _ z e
leaf_tokens v at (leaf.Character c) text z e = constant_tokens _ z e
leaf_tokens v at leaf.Text text (Literal h n) e = refl
leaf_tokens v at kind text z e = absurd e

-- ---- calls

abbrev list_tokens : List Typed → ℕ
list_tokens [] = 0
list_tokens (x ∷ xs) = tokens_of x + list_tokens xs

list-append : (xs ys : List Typed) → list_tokens (xs ++ ys) ≡ list_tokens xs + list_tokens ys
list-append [] ys = omega arith
list-append (x ∷ xs) ys = let e = list-append xs ys in omega (arith, e)

row_list : {m : _} (row : Row_of-Typed m) → row_tokens row ≡ list_tokens (exprs row)
row_list end_of-Typed = refl
row_list (more_of-Typed e rest) = ap (λ n. tokens_of e + n) (row_list rest)

call_tokens : (P : ℕ → Type 0) (xs : List Typed) (z : Typed) → IsCall P xs z → tokens_of z ≡ 3 + (list_tokens xs + (length xs - 1))
call_tokens P xs (Call' h f i row) e = ap (λ n. 3 + (n + (length (exprs row) - 1))) (row_list row) ∙ ap (λ l. 3 + (list_tokens l + (length l - 1))) e.1
call_tokens P xs z e = absurd e

module _ (v : Scope) where
  mutual
    pub typed : (e : Tree) (z : Typed) → Elaborates v e z → tokens_of z ≤ tree_tokens e
    typed (Leaf at kind text) z (h, l) = let e = leaf_tokens v at kind text z l in omega (arith, e)
    typed (Paren at a) z (h, (x, r, f)) = let n = typed a x f in let e = paren_tokens x z r in omega (arith, n, e)
    typed (Index at a b) z (h, (x, y, r, f, g)) = let n = typed a x f in let m = typed b y g in let e = index_tokens x y z r in omega (arith, n, m, e)
    typed (Call at f) z (h, c) = let e = call_tokens _ [] z c in omega (arith, e)
    typed (With c a) z (h, (xs, r, (ys, y, e, f, g))) =
        let n = arguments c ys f in
        let m = typed a y g in
        let k = call_tokens _ xs z r ∙ ap (λ l. 3 + (list_tokens l + (length l - 1))) e in
        omega (arith, n, m, k, list-append ys (y ∷ []), length-append ys (y ∷ []))
    typed (Member at a w q name) z (h, (x, r, f)) = let n = typed a x f in let e = member_tokens _ w name x z r in omega (arith, n, e)
    typed (After at a step) z (h, (x, r, f)) = let n = typed a x f in let e = after_tokens step x z r in omega (arith, n, e)
    typed (Prefix at w a) z (h, (x, r, f)) = let n = typed a x f in let e = prefixed_tokens w x z r in omega (arith, n, e)
    typed (SizeofType at s d) z (h, (t, k, r)) = let e = size_tokens t z r in omega (arith, e)
    typed (Cast at s d a) z (h, (x, r, f)) = let n = typed a x f in let e = cast_tokens x z r in omega (arith, n, e)
    typed (Binary at w a b) z (h, (x, y, r, f, g)) = let n = typed a x f in let m = typed b y g in let e = joined_tokens w x y z r in omega (arith, n, m, e)
    typed (Choice at c a b) z (h, (u, x, y, r, f, g, k)) =
        let l = typed c u f in let n = typed a x g in let m = typed b y k in let e = choice_tokens u x y z r in omega (arith, l, n, m, e)
    typed e z h = absurd h

    arguments : (c : Tree) (xs : List Typed) → AreArguments v c xs → list_tokens xs + length xs ≤ arguments_tokens c
    arguments (Call at f) xs e = let n = ap list_tokens e in let m = ap (λ l. length l) e in omega (arith, n, m)
    arguments (With c a) xs (ys, y, e, f, g) =
        let n = arguments c ys f in
        let m = typed a y g in
        let k = ap list_tokens e in
        let l = ap (λ l. length l) e in
        omega (arith, n, m, k, l, list-append ys (y ∷ []), length-append ys (y ∷ []))
    arguments c xs h = absurd h
