-- What the string literals and the tags of structs weigh in an expression, in a declarator and in an initializer is at most what their tokens pay for, and a
-- declarator's name, `*`, bounds and parentheses pay besides.
use Rattle.std.proofs.Common.{◌≡◌, ap, ℕ, ◌+◌, ◌*◌, ◌≤◌, List, [], ◌∷◌, ◌++◌, length, length-append, arith}
use Rattle.std.proofs.Math.Nat.{mul-le-mul_left, mul-le-mul_right}
use Rattle.c_lex.specs.declared.token.Place.{Place}
use Rattle.c_symbol.specs.declared.terminal.Terminal.{Terminal}
use Rattle.c_symbol.specs.declared.symbol.LeafKind.{LeafKind}
use Rattle.c_symbol.specs.declared.symbol.LeafKind.TheVariants as leaf_kind
use Rattle.c_symbol.specs.declared.symbol.TypeWord.{TypeWord}
use Rattle.c_symbol.specs.declared.symbol.TypeWord.TheVariants as a_word
use Rattle.c_trees.specs.declared.expression.Spec.{Spec}
use Rattle.c_trees.specs.Expressions.{Tree}
use Rattle.c_expr.specs.Grammar.{AreStars, no_star, star, spec_of, IsSpec, one_word, unsigned_int, tagged, IsAbstract, stars, around, bounded, unbounded, IsExpr, leaf, paren, index, member, after, prefixed, sizeof_type, cast, binary, choice, call, call_with, IsCall, first_argument, next_argument}
use Rattle.c_trees.specs.Declarators.{DeclaratorTree}
use Rattle.c_trees.specs.Initializers.{InitialTree}
use Rattle.c_declaration.specs.Grammar.{IsDirect, name, parens, array, open_array, no_parameters, void_parameters, parameters, IsDeclarator, direct, pointers, AreParameters, first_parameter, next_parameter, IsParameter, named, unnamed, IsInitial, value, braces, braces_comma, AreItems, first_item, next_item}
use Rattle.c_mentions.specs.Literals.{Literal, in_leaf, in_tree, in_declarator}
use Rattle.c_mentions.specs.Tags as tags
use Rattle.compiled_tables.specs.Weights.{Rates, AreCovered, derived, literals, of_parameter, of_parameters, of_function}
use Rattle.compiled_tables.proofs.Sums.{times_append}

-- ---- lists

-- how much more a list counts at a rate that goes on behind another one
pub round : {A : Type 0} (n : ℕ) (us : List A) (o : A) (vs : List A) → n * length (us ++ o ∷ vs) ≡ n * length us + (n + n * length vs)
round n us o vs = omega (arith, times_append n us (o ∷ vs))

pub last : {A : Type 0} (n : ℕ) (us : List A) (c : A) → n * length (us ++ c ∷ []) ≡ n * length us + n
last n us c = omega (arith, times_append n us (c ∷ []))

-- ---- what literals and tags weigh

leaf_mentions : (at : Place) (kind : LeafKind) (text : List ℕ) → length (in_leaf at kind text) ≤ 1
leaf_mentions at leaf_kind.Name text = omega arith
leaf_mentions at (leaf_kind.Constant i) text = omega arith
leaf_mentions at (leaf_kind.Character c) text = omega arith
leaf_mentions at leaf_kind.Text text = omega arith

word_tags : (w : TypeWord) → length (tags.in_spec (spec_of w)) ≡ 0
word_tags a_word.Char = omega arith
word_tags a_word.Int = omega arith
word_tags a_word.Unsigned = omega arith
word_tags a_word.Void = omega arith

pub stars_long : {n : ℕ} {ts : List Terminal} → AreStars n ts → length ts ≡ n
stars_long no_star = omega arith
stars_long (star {n} {ts} t s e) = omega (arith, stars_long s, length-append ts (t ∷ []))

module _ (r : Rates) where
  abbrev pub weight : List Literal → List (List ℕ) → ℕ
  weight ls ts = r.string * length ls + r.struct * length ts

  -- of lists that are of two or of three parts
  pub pair : (ps qs : List Literal) (xs ys : List (List ℕ)) → weight (ps ++ qs) (xs ++ ys) ≡ weight ps xs + weight qs ys
  pair ps qs xs ys = omega (arith, times_append r.string ps qs, times_append r.struct xs ys)

  pub triple : (ps qs rs : List Literal) (xs ys zs : List (List ℕ)) → weight (ps ++ qs ++ rs) (xs ++ ys ++ zs) ≡ weight ps xs + weight qs ys + weight rs zs
  triple ps qs rs xs ys zs = omega (arith, pair (ps ++ qs) rs (xs ++ ys) zs, pair ps qs xs ys)

  abbrev pub mentions : Tree → ℕ
  mentions e = weight (in_tree e) (tags.in_tree e)

  abbrev pub in_types : DeclaratorTree → ℕ
  in_types d = weight (in_declarator d) (tags.in_declarator d)

  module _ (is : AreCovered r) where
    -- ---- expressions: the token behind one pays for what is left of it and for a point

    leaf_spelled : (n : ℕ) → n ≤ 1 → r.string * n + r.point ≤ 2 * r.token
    leaf_spelled n l = let m = mul-le-mul_left r.string l in omega (arith, m, is.string)

    -- a tag stands behind `struct`
    pub spec_tags : {s : Spec} {ts : List Terminal} → IsSpec s ts → r.token + r.struct * length (tags.in_spec s) ≤ r.token * length ts
    spec_tags (one_word t w e) = let n = ap (λ m. r.struct * m) (word_tags w) in omega (arith, n)
    spec_tags (unsigned_int t i e f) = omega arith
    spec_tags (tagged t tag e f) = omega (arith, is.struct)

    mutual
      pub spelled : {p : ℕ} {e : Tree} {at : Place} {h : ℕ} {ts : List Terminal} → IsExpr p e at h ts → mentions e + r.point ≤ r.token + r.token * length ts
      spelled (leaf p t kind le te) = omega (arith, leaf_spelled (length (in_leaf t.place kind t.text)) (leaf_mentions t.place kind t.text))
      spelled (paren p o c {a} {at} {h} {ts} le oe d ce) = omega (arith, spelled d, last r.token ts c)
      spelled (index p o c {a} {b} {at} {at'} {m} {n} {us} {vs} le d oe d' ce) =
          omega (arith, spelled d, spelled d', pair (in_tree a) (in_tree b) (tags.in_tree a) (tags.in_tree b), round r.token us o (vs ++ c ∷ []), last r.token vs c)
      spelled (member p t word w {a} {at} {h} {ts} le d te ne) = omega (arith, spelled d, round r.token ts t (word ∷ []))
      spelled (after p t step {a} {at} {h} {ts} le d te) = omega (arith, spelled d, last r.token ts t)
      spelled (prefixed p t op {a} {at} {h} {ts} le te d) = omega (arith, spelled d)
      spelled (sizeof_type p t o c {spec} {d} {m} {us} {ts} le te oe sd d' ce) =
          omega (
            arith,
            is.point,
            spec_tags sd,
            abstract_spelled d',
            times_append r.struct (tags.in_spec spec) (tags.in_tree d),
            times_append r.token us (ts ++ c ∷ []),
            last r.token ts c,
          )
      spelled (cast p o c {spec} {d} {m} {us} {ts} {a} {at} {h} {vs} le oe sd d' ce d'') =
          omega (
            arith,
            spec_tags sd,
            abstract_spelled d',
            spelled d'',
            pair (in_tree d) (in_tree a) (tags.in_spec spec ++ tags.in_tree d) (tags.in_tree a),
            times_append r.struct (tags.in_spec spec) (tags.in_tree d),
            times_append r.token us (ts ++ c ∷ vs),
            round r.token ts c vs,
          )
      spelled (binary p t op {a} {b} {at} {at'} {m} {n} {us} {vs} le d te d') =
          omega (arith, spelled d, spelled d', pair (in_tree a) (in_tree b) (tags.in_tree a) (tags.in_tree b), round r.token us t vs)
      spelled (choice p q c {a} {b} {e} {at} {at'} {at''} {l} {m} {n} {us} {vs} {ws} le d qe d' ce d'') =
          omega (
            arith,
            spelled d,
            spelled d',
            spelled d'',
            triple (in_tree a) (in_tree b) (in_tree e) (tags.in_tree a) (tags.in_tree b) (tags.in_tree e),
            round r.token us q (vs ++ c ∷ ws),
            round r.token vs c ws,
          )
      spelled (call p o c {f} {at} {h} {us} le d oe ce) = omega (arith, spelled d, round r.token us o (c ∷ []))
      spelled (call_with p c {e} {at} {h} {us} le d ce) = omega (arith, call_spelled d, last r.token us c)

      -- a call with arguments
      call_spelled : {e : Tree} {at : Place} {h : ℕ} {ts : List Terminal} → IsCall e at h ts → mentions e + r.point ≤ r.token + r.token * length ts
      call_spelled (first_argument o {f} {a} {at} {at'} {m} {n} {us} {vs} d oe d') =
          omega (arith, spelled d, spelled d', pair (in_tree f) (in_tree a) (tags.in_tree f) (tags.in_tree a), round r.token us o vs)
      call_spelled (next_argument t {f} {a} {at} {at'} {m} {n} {us} {vs} d te d') =
          omega (arith, call_spelled d, spelled d', pair (in_tree f) (in_tree a) (tags.in_tree f) (tags.in_tree a), round r.token us t vs)

      abstract_spelled : {d : Tree} {m : ℕ} {ts : List Terminal} → IsAbstract d m ts → mentions d ≤ r.token * length ts
      abstract_spelled (stars d) = omega arith
      abstract_spelled (around o c {n} {d} {m} {us} {ts} s oe d' ne ce) = omega (arith, abstract_spelled d', round r.token us o (ts ++ c ∷ []), last r.token ts c)
      abstract_spelled (bounded o c {d} {e} {at} {m} {h} {us} {vs} d' oe e' ce) =
          omega (
            arith,
            abstract_spelled d',
            spelled e',
            pair (in_tree d) (in_tree e) (tags.in_tree d) (tags.in_tree e),
            round r.token us o (vs ++ c ∷ []),
            last r.token vs c,
          )
      abstract_spelled (unbounded o c {d} {m} {us} d' oe ce) = omega (arith, abstract_spelled d', round r.token us o (c ∷ []))

    -- ---- declarators: a name stands in each, a `*` or `[` for each type that is derived, and two parentheses for a function; a parameter with a name has
    -- two tokens more

    -- what a declarator weighs beside its name
    abbrev beside_name : DeclaratorTree → ℕ
    beside_name d = in_types d + r.constructor * derived d + of_function r d + of_parameters r d

    stars_pay : {n : ℕ} {ts : List Terminal} → AreStars n ts → r.constructor * n ≤ r.token * length ts
    stars_pay {n} {ts} s =
        let a = mul-le-mul_right n is.constructor in
        let b = ap (λ m. r.token * m) (stars_long s) in
        omega (arith, a, b)

    mutual
      direct_spelled : {d : DeclaratorTree} {h : ℕ} {ts : List Terminal} → IsDirect d h ts → r.token + beside_name d ≤ r.token * length ts
      direct_spelled (name t te) = omega arith
      direct_spelled (parens o c {d} {h} {ts} oe d' ce) = omega (arith, declarator_spelled d', last r.token ts c)
      direct_spelled (array o c {d} {e} {at} {m} {n} {us} {vs} d' oe e' ce) =
          omega (
            arith,
            is.constructor,
            direct_spelled d',
            spelled e',
            pair (in_declarator d) (in_tree e) (tags.in_declarator d) (tags.in_tree e),
            round r.token us o (vs ++ c ∷ []),
            last r.token vs c,
          )
      direct_spelled (open_array o c {d} {m} {us} d' oe ce) =
          omega (arith, is.constructor, direct_spelled d', pair (in_declarator d) [] (tags.in_declarator d) [], round r.token us o (c ∷ []))
      direct_spelled (no_parameters o c {d} {m} {us} d' oe ce) = omega (arith, is.function, direct_spelled d', round r.token us o (c ∷ []))
      direct_spelled (void_parameters o v c {d} {m} {us} d' oe ve ce) = omega (arith, is.function, direct_spelled d', round r.token us o (v ∷ c ∷ []))
      direct_spelled (parameters c {d} {h} {us} ps ne ce) = omega (arith, parameters_spelled ps, last r.token us c)

      pub declarator_spelled : {d : DeclaratorTree} {h : ℕ} {ts : List Terminal} → IsDeclarator d h ts → r.token + beside_name d ≤ r.token * length ts
      declarator_spelled (direct d) = direct_spelled d
      declarator_spelled (pointers t {n} {h} {d} {us} {vs} s d') = omega (arith, stars_pay s, direct_spelled d', times_append r.token us vs)

      -- without the `)`
      parameters_spelled : {d : DeclaratorTree} {h : ℕ} {ts : List Terminal} → AreParameters d h ts → beside_name d ≤ r.token * length ts
      parameters_spelled (first_parameter o {d} {p} {m} {n} {us} {vs} d' oe p') =
          omega (
            arith,
            is.function,
            direct_spelled d',
            parameter_spelled p',
            pair (in_declarator d) (in_declarator p) (tags.in_declarator d) (tags.in_declarator p),
            round r.token us o vs,
          )
      parameters_spelled (next_parameter t {d} {p} {m} {n} {us} {vs} d' te p') =
          omega (arith, parameters_spelled d', parameter_spelled p', pair (in_declarator d) (in_declarator p) (tags.in_declarator d) (tags.in_declarator p), round r.token us t vs)

      parameter_spelled : {d : DeclaratorTree} {h : ℕ} {ts : List Terminal} → IsParameter d h ts → in_types d + of_parameter r d ≤ r.token * length ts
      parameter_spelled (named {base} {d} {us} {vs} {ws} rd sd fd d') =
          omega (
            arith,
            is.local,
            spec_tags sd,
            declarator_spelled d',
            times_append r.struct (tags.in_spec base) (tags.in_declarator d),
            times_append r.token us (vs ++ ws),
            times_append r.token vs ws,
          )
      parameter_spelled (unnamed {at} {base} {a} {m} {us} {vs} sd fd a') =
          omega (arith, spec_tags sd, abstract_spelled a', times_append r.struct (tags.in_spec base) (tags.in_tree a), times_append r.token us vs)

    -- ---- initializers, with a point

    abbrev in_items : InitialTree → ℕ
    in_items i = r.string * literals i + r.struct * length (tags.in_initial i)

    mutual
      pub initial_spelled : {i : InitialTree} {h : ℕ} {ts : List Terminal} → IsInitial i h ts → in_items i + r.point ≤ r.token + r.token * length ts
      initial_spelled (value d) = spelled d
      initial_spelled (braces c {i} {h} {ts} d ce) = omega (arith, is.point, items_spelled d, last r.token ts c)
      initial_spelled (braces_comma t c {i} {h} {ts} d te ce) = omega (arith, is.point, items_spelled d, times_append r.token ts (t ∷ c ∷ []))

      items_spelled : {i : InitialTree} {h : ℕ} {ts : List Terminal} → AreItems i h ts → in_items i ≤ r.token * length ts
      items_spelled (first_item o {i} {h} {ts} oe d) = omega (arith, initial_spelled d)
      items_spelled (next_item t {i} {j} {m} {n} {us} {vs} d te d') =
          omega (arith, items_spelled d, initial_spelled d', times_append r.struct (tags.in_initial i) (tags.in_initial j), round r.token us t vs)
