-- The fewest terminals with which a tree of an expression is spelled, beside one for each tag of a struct in it.
use Rattle.std.proofs.Common.{◌≡◌, ℕ, ◌+◌, ◌≤◌, List, [], ◌∷◌, ◌++◌, length, length-append, arith}
use Rattle.c_lex.specs.declared.token.Place.{Place}
use Rattle.c_symbol.specs.declared.terminal.Terminal.{Terminal}
use Rattle.c_symbol.specs.declared.symbol.TypeWord.{TypeWord}
use Rattle.c_symbol.specs.declared.symbol.TypeWord.TheVariants as word
use Rattle.c_trees.specs.declared.expression.Spec.{Spec}
use Rattle.c_trees.specs.Expressions.{Tree, Leaf, Paren, Index, Call, With, Member, After, Prefix, SizeofType, Cast, Binary, Choice, Stars, Around, Bounded, Unbounded}
use Rattle.c_mentions.specs.Tags.{in_spec, in_tree}
use Rattle.c_expr.specs.Grammar.{IsSpec, one_word, unsigned_int, tagged, IsAbstract, stars, around, bounded, unbounded, spec_of, IsExpr, leaf, paren, index, member, after, prefixed, sizeof_type, cast, binary, choice, call, call_with, IsCall, first_argument, next_argument}

-- An argument comes with a comma or the parenthesis in front of it.
abbrev mutual
  pub tree_tokens : Tree → ℕ
  tree_tokens (Paren at a) = 2 + tree_tokens a
  tree_tokens (Index at a b) = 2 + (tree_tokens a + tree_tokens b)
  tree_tokens (Call at f) = 3
  tree_tokens (With c a) = 2 + (arguments_tokens c + (1 + tree_tokens a))
  tree_tokens (Member at a w q name) = 2 + tree_tokens a
  tree_tokens (After at a step) = 1 + tree_tokens a
  tree_tokens (Prefix at op a) = 1 + tree_tokens a
  tree_tokens (SizeofType at spec d) = 4
  tree_tokens (Cast at spec d a) = 3 + tree_tokens a
  tree_tokens (Binary at op a b) = 1 + (tree_tokens a + tree_tokens b)
  tree_tokens (Choice at a b c) = 2 + (tree_tokens a + (tree_tokens b + tree_tokens c))
  tree_tokens _ = 1

  pub arguments_tokens : Tree → ℕ
  arguments_tokens (With c a) = arguments_tokens c + (1 + tree_tokens a)
  arguments_tokens _ = 0

pub some_tokens : (e : Tree) → 1 ≤ tree_tokens e
some_tokens (Leaf at kind text) = omega arith
some_tokens (Paren at a) = omega arith
some_tokens (Index at a b) = omega arith
some_tokens (Call at f) = omega arith
some_tokens (With c a) = omega arith
some_tokens (Member at a w q name) = omega arith
some_tokens (After at a step) = omega arith
some_tokens (Prefix at op a) = omega arith
some_tokens (SizeofType at spec d) = omega arith
some_tokens (Cast at spec d a) = omega arith
some_tokens (Binary at op a b) = omega arith
some_tokens (Choice at a b c) = omega arith
some_tokens (Stars n) = omega arith
some_tokens (Around n d) = omega arith
some_tokens (Bounded d e) = omega arith
some_tokens (Unbounded d) = omega arith

-- the length of a list with a piece between two others
pub around_length : (us : List Terminal) (o : Terminal) (vs : List Terminal) → length (us ++ o ∷ vs) ≡ length us + (1 + length vs)
around_length us o vs = omega (arith, length-append us (o ∷ vs))

-- the tags in two parts, and in three
two_tags : (xs ys : List (List ℕ)) → length (xs ++ ys) ≡ length xs + length ys
two_tags xs ys = length-append xs ys

three_tags : (xs ys zs : List (List ℕ)) → length (xs ++ ys ++ zs) ≡ length xs + (length ys + length zs)
three_tags xs ys zs = omega (arith, length-append (xs ++ ys) zs, length-append xs ys)

untagged : (w : TypeWord) → length (in_spec (spec_of w)) ≡ 0
untagged word.Char = omega arith
untagged word.Int = omega arith
untagged word.Unsigned = omega arith
untagged word.Void = omega arith

pub spec_tokens : {s : Spec} {us : List Terminal} → IsSpec s us → 1 + length (in_spec s) ≤ length us
spec_tokens (one_word t w e) = omega (arith, untagged w)
spec_tokens (unsigned_int t i e f) = omega arith
spec_tokens (tagged t name e f) = omega arith

mutual
  pub spelled : {p : ℕ} {e : Tree} {at : Place} {h : ℕ} {ts : List Terminal} → IsExpr p e at h ts → tree_tokens e + length (in_tree e) ≤ length ts
  spelled (leaf p t kind le te) = omega arith
  spelled (paren p o c {a} {at} {h} {ts} le oe d ce) = omega (arith, spelled d, length-append ts (c ∷ []))
  spelled (index p o c {a} {b} {at} {at'} {m} {n} {us} {vs} le d oe d' ce) =
      omega (arith, spelled d, spelled d', two_tags (in_tree a) (in_tree b), around_length us o (vs ++ c ∷ []), length-append vs (c ∷ []))
  spelled (member p t name w {a} {at} {h} {ts} le d te ne) = omega (arith, spelled d, around_length ts t (name ∷ []))
  spelled (after p t step {a} {at} {h} {ts} le d te) = omega (arith, spelled d, length-append ts (t ∷ []))
  spelled (prefixed p t op {a} {at} {h} {ts} le te d) = omega (arith, spelled d)
  spelled (sizeof_type p t o c {spec} {d} {m} {us} {ts} le te oe sd d' ce) =
      omega (arith, spec_tokens sd, abstract_tags d', two_tags (in_spec spec) (in_tree d), length-append us (ts ++ c ∷ []), length-append ts (c ∷ []))
  spelled (cast p o c {spec} {d} {m} {us} {ts} {a} {at} {h} {vs} le oe sd d' ce d'') =
      omega (arith, spec_tokens sd, abstract_tags d', spelled d'', three_tags (in_spec spec) (in_tree d) (in_tree a), length-append us (ts ++ c ∷ vs), around_length ts c vs)
  spelled (binary p t op {a} {b} {at} {at'} {m} {n} {us} {vs} le d te d') = omega (arith, spelled d, spelled d', two_tags (in_tree a) (in_tree b), around_length us t vs)
  spelled (choice p q c {a} {b} {e} {at} {at'} {at''} {l} {m} {n} {us} {vs} {ws} le d qe d' ce d'') =
      omega (arith, spelled d, spelled d', spelled d'', three_tags (in_tree a) (in_tree b) (in_tree e), around_length us q (vs ++ c ∷ ws), around_length vs c ws)
  spelled (call p o c {f} {at} {h} {us} le d oe ce) = omega (arith, spelled d, some_tokens f, around_length us o (c ∷ []))
  spelled (call_with p c {e} {at} {h} {us} le d ce) = omega (arith, spelled_call d, length-append us (c ∷ []))

  -- a call with arguments lacks its `)`
  spelled_call : {e : Tree} {at : Place} {h : ℕ} {ts : List Terminal} → IsCall e at h ts → tree_tokens e + length (in_tree e) ≤ 1 + length ts
  spelled_call (first_argument o {f} {a} {at} {at'} {m} {n} {us} {vs} d oe d') =
      omega (arith, spelled d, spelled d', some_tokens f, two_tags (in_tree f) (in_tree a), around_length us o vs)
  spelled_call (next_argument t {f} {a} {at} {at'} {m} {n} {us} {vs} d te d') =
      omega (arith, spelled_call d, spelled d', with_tokens d, two_tags (in_tree f) (in_tree a), around_length us t vs)

  -- the tree of a call with arguments
  with_tokens : {e : Tree} {at : Place} {h : ℕ} {ts : List Terminal} → IsCall e at h ts → tree_tokens e ≡ 2 + arguments_tokens e
  with_tokens (first_argument o d oe d') = omega arith
  with_tokens (next_argument t d te d') = omega arith

  pub abstract_tags : {d : Tree} {m : ℕ} {ts : List Terminal} → IsAbstract d m ts → length (in_tree d) ≤ length ts
  abstract_tags (stars d) = omega arith
  abstract_tags (around o c {n} {d} {m} {us} {ts} s oe d' ne ce) = omega (arith, abstract_tags d', length-append us (o ∷ (ts ++ c ∷ [])), length-append ts (c ∷ []))
  abstract_tags (bounded o c {d} {e} {at} {m} {h} {us} {vs} d' oe e' ce) =
      omega (arith, abstract_tags d', spelled e', two_tags (in_tree d) (in_tree e), around_length us o (vs ++ c ∷ []), length-append vs (c ∷ []))
  abstract_tags (unbounded o c {d} {m} {us} d' oe ce) = omega (arith, abstract_tags d', around_length us o (c ∷ []))
