-- The literals of an expression are those of the terminals that spell it, in their order.
use Rattle.std.proofs.Common.{◌≡◌, refl, sym, ap, ◌∙◌, ℕ, List, [], ◌∷◌, ◌++◌, append_assoc}
use Rattle.c_lex.specs.declared.token.Place.{Place}
use Rattle.c_symbol.specs.declared.terminal.Terminal.{Terminal}
use Rattle.c_symbol.specs.declared.symbol.PrefixOp.{PrefixOp}
use Rattle.c_symbol.specs.declared.symbol.PrefixOp.TheVariants as prefix
use Rattle.c_symbol.specs.declared.symbol.Symbol.{Symbol}
use Rattle.c_symbol.specs.declared.symbol.Symbol.TheVariants as symbol
use Rattle.c_trees.specs.declared.expression.Spec.{Spec}
use Rattle.c_trees.specs.Expressions.{Tree}
use Rattle.c_expr.specs.Grammar.{prefix_symbol, AreStars, no_star, star, IsSpec, one_word, unsigned_int, tagged, IsAbstract, stars, around, bounded, unbounded, IsExpr, leaf, paren, index, member, after, prefixed, sizeof_type, cast, binary, choice, call, call_with, IsCall, first_argument, next_argument}
use Rattle.c_mentions.specs.Literals.{Literal, in_leaf, in_tree}

-- the literal that a terminal with this symbol is
abbrev pub literal_by : Terminal → Symbol → List Literal
literal_by t (symbol.Leaf kind) = in_leaf t.place kind t.text
literal_by t _ = []

abbrev pub literals_of : List Terminal → List Literal
literals_of [] = []
literals_of (t ∷ ts) = literal_by t t.symbol ++ literals_of ts

-- a terminal that is none
abbrev IsOther : Terminal → Type 0
IsOther t = literal_by t t.symbol ≡ []

pub literals_append : (us vs : List Terminal) → literals_of (us ++ vs) ≡ literals_of us ++ literals_of vs
literals_append [] vs = refl
literals_append (t ∷ us) vs = ap (λ ls. literal_by t t.symbol ++ ls) (literals_append us vs) ∙ sym (append_assoc (literal_by t t.symbol) (literals_of us) (literals_of vs))

first_other : (t : Terminal) (ts : List Terminal) → IsOther t → literals_of (t ∷ ts) ≡ literals_of ts
first_other t ts e = ap (λ ls. ls ++ literals_of ts) e

last_other : (ts : List Terminal) (c : Terminal) → IsOther c → literals_of (ts ++ c ∷ []) ≡ literals_of ts
last_other [] c e = first_other c [] e
last_other (t ∷ ts) c e = ap (λ ls. literal_by t t.symbol ++ ls) (last_other ts c e)

middle_other : (us : List Terminal) (o : Terminal) (vs : List Terminal) → IsOther o → literals_of (us ++ o ∷ vs) ≡ literals_of us ++ literals_of vs
middle_other us o vs e = literals_append us (o ∷ vs) ∙ ap (λ ls. literals_of us ++ ls) (first_other o vs e)

nothing_more : (ls : List Literal) → ls ++ [] ≡ ls
nothing_more [] = refl
nothing_more (l ∷ ls) = ap (λ ms. l ∷ ms) (nothing_more ls)

prefix_other : (t : Terminal) (op : PrefixOp) → literal_by t (prefix_symbol op) ≡ []
prefix_other t (prefix.Step step) = refl
prefix_other t prefix.Address = refl
prefix_other t prefix.Dereference = refl
prefix_other t prefix.Plus = refl
prefix_other t prefix.Minus = refl
prefix_other t prefix.Complement = refl
prefix_other t prefix.Not = refl
prefix_other t prefix.Sizeof = refl

stars_other : {n : ℕ} {ts : List Terminal} → AreStars n ts → literals_of ts ≡ []
stars_other no_star = refl
stars_other (star {n} {ts} t d e) = last_other ts t (ap (literal_by t) e) ∙ stars_other d

spec_other : {s : Spec} {us : List Terminal} → IsSpec s us → literals_of us ≡ []
spec_other (one_word t w e) = first_other t [] (ap (literal_by t) e)
spec_other (unsigned_int t i e f) = first_other t (i ∷ []) (ap (literal_by t) e) ∙ first_other i [] (ap (literal_by i) f)
spec_other (tagged t name e f) = first_other t (name ∷ []) (ap (literal_by t) e) ∙ first_other name [] (ap (literal_by name) f)

-- a type's name before its parenthesis, by its declarator's literals
named_type : {s : Spec} {us : List Terminal} → IsSpec s us → (ts : List Terminal) (c : Terminal) (vs : List Terminal) → IsOther c → (ls : List Literal) → literals_of ts ≡ ls → literals_of (us ++ (ts ++ c ∷ vs)) ≡ ls ++ literals_of vs
named_type {s} {us} sd ts c vs e ls d =
    literals_append us (ts ++ c ∷ vs) ∙ ap (λ ms. ms ++ literals_of (ts ++ c ∷ vs)) (spec_other sd) ∙ middle_other ts c vs e ∙ ap (λ ms. ms ++ literals_of vs) d

mutual
  pub literals_are : {p : ℕ} {e : Tree} {at : Place} {h : ℕ} {ts : List Terminal} → IsExpr p e at h ts → literals_of ts ≡ in_tree e
  literals_are (leaf p t kind le te) = ap (λ y. literal_by t y ++ []) te ∙ nothing_more (in_leaf t.place kind t.text)
  literals_are (paren p o c {a} {at} {h} {ts} le oe d ce) = first_other o (ts ++ c ∷ []) (ap (literal_by o) oe) ∙ last_other ts c (ap (literal_by c) ce) ∙ literals_are d
  literals_are (index p o c {a} {b} {at} {at'} {m} {n} {us} {vs} le d oe d' ce) =
      middle_other us o (vs ++ c ∷ []) (ap (literal_by o) oe) ∙ (λ i. literals_are d i ++ (last_other vs c (ap (literal_by c) ce) ∙ literals_are d') i)
  literals_are (member p t name w {a} {at} {h} {ts} le d te ne) =
      middle_other ts t (name ∷ []) (ap (literal_by t) te) ∙ (λ i. literals_are d i ++ first_other name [] (ap (literal_by name) ne) i) ∙ nothing_more (in_tree a)
  literals_are (after p t step {a} {at} {h} {ts} le d te) = last_other ts t (ap (literal_by t) te) ∙ literals_are d
  literals_are (prefixed p t op {a} {at} {h} {ts} le te d) = first_other t ts (ap (literal_by t) te ∙ prefix_other t op) ∙ literals_are d
  literals_are (sizeof_type p t o c {spec} {d} {m} {us} {ts} le te oe sd d' ce) =
      first_other t (o ∷ (us ++ (ts ++ c ∷ []))) (ap (literal_by t) te) ∙ first_other o (us ++ (ts ++ c ∷ [])) (ap (literal_by o) oe) ∙
      named_type sd ts c [] (ap (literal_by c) ce) (in_tree d) (abstract_literals d') ∙ nothing_more (in_tree d)
  literals_are (cast p o c {spec} {d} {m} {us} {ts} {a} {at} {h} {vs} le oe sd d' ce d'') =
      first_other o (us ++ (ts ++ c ∷ vs)) (ap (literal_by o) oe) ∙ named_type sd ts c vs (ap (literal_by c) ce) (in_tree d) (abstract_literals d') ∙ ap (λ ls. in_tree d ++ ls) (literals_are d'')
  literals_are (binary p t op {a} {b} {at} {at'} {m} {n} {us} {vs} le d te d') = middle_other us t vs (ap (literal_by t) te) ∙ (λ i. literals_are d i ++ literals_are d' i)
  literals_are (choice p q c {a} {b} {e} {at} {at'} {at''} {l} {m} {n} {us} {vs} {ws} le d qe d' ce d'') =
      middle_other us q (vs ++ c ∷ ws) (ap (literal_by q) qe) ∙ (λ i. literals_are d i ++ (middle_other vs c ws (ap (literal_by c) ce) ∙ (λ j. literals_are d' j ++ literals_are d'' j)) i) ∙
      sym (append_assoc (in_tree a) (in_tree b) (in_tree e))
  literals_are (call p o c {f} {at} {h} {us} le d oe ce) =
      middle_other us o (c ∷ []) (ap (literal_by o) oe) ∙ (λ i. literals_are d i ++ first_other c [] (ap (literal_by c) ce) i) ∙ nothing_more (in_tree f)
  literals_are (call_with p c {e} {at} {h} {us} le d ce) = last_other us c (ap (literal_by c) ce) ∙ call_literals d

  call_literals : {e : Tree} {at : Place} {h : ℕ} {ts : List Terminal} → IsCall e at h ts → literals_of ts ≡ in_tree e
  call_literals (first_argument o {f} {a} {at} {at'} {m} {n} {us} {vs} d oe d') = middle_other us o vs (ap (literal_by o) oe) ∙ (λ i. literals_are d i ++ literals_are d' i)
  call_literals (next_argument t {f} {a} {at} {at'} {m} {n} {us} {vs} d te d') = middle_other us t vs (ap (literal_by t) te) ∙ (λ i. call_literals d i ++ literals_are d' i)

  abstract_literals : {d : Tree} {m : ℕ} {ts : List Terminal} → IsAbstract d m ts → literals_of ts ≡ in_tree d
  abstract_literals (stars d) = stars_other d
  abstract_literals (around o c {n} {d} {m} {us} {ts} s oe d' ne ce) =
      middle_other us o (ts ++ c ∷ []) (ap (literal_by o) oe) ∙ (λ i. stars_other s i ++ (last_other ts c (ap (literal_by c) ce) ∙ abstract_literals d') i)
  abstract_literals (bounded o c {d} {e} {at} {m} {h} {us} {vs} d' oe e' ce) =
      middle_other us o (vs ++ c ∷ []) (ap (literal_by o) oe) ∙ (λ i. abstract_literals d' i ++ (last_other vs c (ap (literal_by c) ce) ∙ literals_are e') i)
  abstract_literals (unbounded o c {d} {m} {us} d' oe ce) =
      middle_other us o (c ∷ []) (ap (literal_by o) oe) ∙ (λ i. abstract_literals d' i ++ first_other c [] (ap (literal_by c) ce) i) ∙ nothing_more (in_tree d)
