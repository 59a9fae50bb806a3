-- The tags in a tree, and the names that it declares, are identifiers where those of its terminals are.
use Rattle.std.proofs.Common.{ℕ, List, [], ◌∷◌, ◌++◌}
use Rattle.std.specs.List.{AllByRecursion}
use Rattle.c_lex.specs.declared.token.Place.{Place}
use Rattle.c_symbol.specs.declared.terminal.Terminal.{Terminal}
use Rattle.c_symbol.specs.declared.symbol.TypeWord.{TypeWord}
use Rattle.c_symbol.specs.declared.symbol.TypeWord.TheVariants as word
use Rattle.c_trees.specs.declared.expression.Spec.{Spec}
use Rattle.c_trees.specs.Expressions.{Tree}
use Rattle.c_expr.specs.Grammar.{IsSpec, one_word, unsigned_int, tagged, IsAbstract, stars, around, bounded, unbounded, spec_of, IsExpr, leaf, paren, index, member, after, prefixed, sizeof_type, cast, binary, choice, call, call_with, IsCall, first_argument, next_argument}
use Rattle.c_trees.specs.Declarators as tree
use Rattle.c_trees.specs.Declarators.{DeclaratorTree}
use Rattle.c_trees.specs.Initializers.{InitialTree}
use Rattle.c_trees.specs.declared.declaration.Declared.{Declared}
use Rattle.c_trees.specs.declared.declaration.Local.{Local}
use Rattle.c_declaration.specs.Grammar.{IsDirect, name, parens, array, open_array, no_parameters, void_parameters, parameters, IsDeclarator, direct, pointers, AreParameters, first_parameter, next_parameter, IsParameter, named, unnamed, IsInitial, value, braces, braces_comma, AreItems, first_item, next_item, IsDeclared, plain, with_initial, AreDeclared, one_name, more_names, IsLocal, local}
use Rattle.c_mentions.specs.Tags.{in_spec, in_tree, in_all, in_declarator, in_initial, in_declared, in_local}
use Rattle.c_scope.specs.Declarators.{name_in}
use Rattle.c_tokens.specs.Identifiers.{IsIdentifier}
use Rattle.c_tokens.proofs.Words as words
use Rattle.c_tokens.proofs.Words.{AreNamed, front, back}

abbrev pub All : List (List ℕ) → Type 0
All names = AllByRecursion IsIdentifier names

pub both : (xs ys : List (List ℕ)) → All xs → All ys → All (xs ++ ys)
both [] ys h k = k
both (x ∷ xs) ys h k = (h.0, both xs ys h.1 k)

pub in_each : {A : Type 0} (f : A → List (List ℕ)) (P : A → Type 0) → ((x : A) → P x → All (f x)) → (xs : List A) → AllByRecursion P xs → All (in_all f xs)
in_each f P g [] h = tt
in_each f P g (x ∷ xs) h = both (f x) (in_all f xs) (g x h.0) (in_each f P g xs h.1)

-- one more behind a list
pub one_more : {A : Type 0} (P : A → Type 0) (xs : List A) (y : A) → AllByRecursion P xs → P y → AllByRecursion P (xs ++ y ∷ [])
one_more P [] y h k = (k, tt)
one_more P (x ∷ xs) y h k = (h.0, one_more P xs y h.1 k)

-- ---- expressions

pub spec_tag : {s : Spec} {us : List Terminal} → IsSpec s us → AreNamed us → All (in_spec s)
spec_tag (one_word t w e) q = by w
  where
    by : (w : TypeWord) → All (in_spec (spec_of w))
    by word.Char = tt
    by _ = tt
spec_tag (unsigned_int t i e f) q = tt
spec_tag (tagged t tag e f) q = (words.named tag f q.1.0, tt)

mutual
  pub tags : {p : ℕ} {e : Tree} {at : Place} {h : ℕ} {ts : List Terminal} → IsExpr p e at h ts → AreNamed ts → All (in_tree e)
  tags (leaf p t kind le te) q = tt
  tags (paren p o c {a} {at} {h} {ts} le oe d ce) q = tags d (front ts _ q.1)
  tags (index p o c {a} {b} {at} {at'} {m} {n} {us} {vs} le d oe d' ce) q = both (in_tree a) (in_tree b) (tags d (front us _ q)) (tags d' (front vs _ (back us _ q).1))
  tags (member p t x w {a} {at} {h} {ts} le d te ne) q = tags d (front ts _ q)
  tags (after p t step {a} {at} {h} {ts} le d te) q = tags d (front ts _ q)
  tags (prefixed p t op le te d) q = tags d q.1
  tags (sizeof_type p t o c {spec} {d} {m} {us} {ts} le te oe sd d' ce) q = both (in_spec spec) (in_tree d) (spec_tag sd (front us _ q.1.1)) (abstract_tags d' (front ts _ (back us _ q.1.1)))
  tags (cast p o c {spec} {d} {m} {us} {ts} {a} {at} {h} {vs} le oe sd d' ce d'') q =
      let k = back us _ q.1 in
      both (in_spec spec ++ in_tree d) (in_tree a) (both (in_spec spec) (in_tree d) (spec_tag sd (front us _ q.1)) (abstract_tags d' (front ts _ k))) (tags d'' (back ts _ k).1)
  tags (binary p t op {a} {b} {at} {at'} {m} {n} {us} {vs} le d te d') q = both (in_tree a) (in_tree b) (tags d (front us _ q)) (tags d' (back us _ q).1)
  tags (choice p x c {a} {b} {e} {at} {at'} {at''} {l} {m} {n} {us} {vs} {ws} le d qe d' ce d'') q =
      let k = (back us _ q).1 in both (in_tree a ++ in_tree b) (in_tree e) (both (in_tree a) (in_tree b) (tags d (front us _ q)) (tags d' (front vs _ k))) (tags d'' (back vs _ k).1)
  tags (call p o c {f} {at} {h} {us} le d oe ce) q = tags d (front us _ q)
  tags (call_with p c {e} {at} {h} {us} le d ce) q = call_tags d (front us _ q)

  call_tags : {e : Tree} {at : Place} {h : ℕ} {ts : List Terminal} → IsCall e at h ts → AreNamed ts → All (in_tree e)
  call_tags (first_argument o {f} {a} {at} {at'} {m} {n} {us} {vs} d oe d') q = both (in_tree f) (in_tree a) (tags d (front us _ q)) (tags d' (back us _ q).1)
  call_tags (next_argument t {f} {a} {at} {at'} {m} {n} {us} {vs} d te d') q = both (in_tree f) (in_tree a) (call_tags d (front us _ q)) (tags d' (back us _ q).1)

  abstract_tags : {d : Tree} {m : ℕ} {ts : List Terminal} → IsAbstract d m ts → AreNamed ts → All (in_tree d)
  abstract_tags (stars d) q = tt
  abstract_tags (around o c {n} {d} {m} {us} {ts} s oe d' ne ce) q = abstract_tags d' (front ts _ (back us _ q).1)
  abstract_tags (bounded o c {d} {e} {at} {m} {h} {us} {vs} d' oe e' ce) q = both (in_tree d) (in_tree e) (abstract_tags d' (front us _ q)) (tags e' (front vs _ (back us _ q).1))
  abstract_tags (unbounded o c {d} {m} {us} d' oe ce) q = abstract_tags d' (front us _ q)

-- ---- declarators

-- a declarator declares an identifier, and so do those of its parameters that have a name
abbrev mutual
  pub Declares : DeclaratorTree → Type 0
  Declares (tree.Name at text) = IsIdentifier text
  Declares (tree.Parens at d) = Declares d
  Declares (tree.Pointers at n d) = Declares d
  Declares (tree.Array at d e) = Declares d
  Declares (tree.Function at d) = Declares d
  Declares (tree.Taking d p) = Declares d × Takes p
  Declares _ = ⊥

  pub Takes : DeclaratorTree → Type 0
  Takes (tree.Named at r s d) = Declares d
  Takes _ = Unit {0}

pub declared_name : (d : DeclaratorTree) → Declares d → IsIdentifier (name_in d)
declared_name (tree.Name at text) h = h
declared_name (tree.Parens at d) h = declared_name d h
declared_name (tree.Pointers at n d) h = declared_name d h
declared_name (tree.Array at d e) h = declared_name d h
declared_name (tree.Function at d) h = declared_name d h
declared_name (tree.Taking d p) h = declared_name d h.0
declared_name (tree.Named at r s d) h = absurd h
declared_name (tree.Unnamed at s d) h = absurd h

abbrev pub Declarator : DeclaratorTree → Type 0
Declarator d = All (in_declarator d) × Declares d

mutual
  direct_named : {d : DeclaratorTree} {h : ℕ} {ts : List Terminal} → IsDirect d h ts → AreNamed ts → Declarator d
  direct_named (name t te) q = (tt, words.named t te q.0)
  direct_named (parens o c {d} {h} {ts} oe d' ce) q = declarator_named d' (front ts _ q.1)
  direct_named (array o c {d} {e} {at} {m} {n} {us} {vs} d' oe e' ce) q =
      let k = direct_named d' (front us _ q) in (both (in_declarator d) (in_tree e) k.0 (tags e' (front vs _ (back us _ q).1)), k.1)
  direct_named (open_array o c {d} {m} {us} d' oe ce) q = let k = direct_named d' (front us _ q) in (both (in_declarator d) [] k.0 tt, k.1)
  direct_named (no_parameters o c {d} {m} {us} d' oe ce) q = direct_named d' (front us _ q)
  direct_named (void_parameters o v c {d} {m} {us} d' oe ve ce) q = direct_named d' (front us _ q)
  direct_named (parameters c {d} {h} {us} ps ne ce) q = parameters_named ps (front us _ q)

  pub declarator_named : {d : DeclaratorTree} {h : ℕ} {ts : List Terminal} → IsDeclarator d h ts → AreNamed ts → Declarator d
  declarator_named (direct d) q = direct_named d q
  declarator_named (pointers t {n} {h} {d} {us} {vs} s d') q = direct_named d' (back us _ q.1)

  parameters_named : {d : DeclaratorTree} {h : ℕ} {ts : List Terminal} → AreParameters d h ts → AreNamed ts → Declarator d
  parameters_named (first_parameter o {d} {p} {m} {n} {us} {vs} d' oe p') q =
      let k = direct_named d' (front us _ q) in let l = parameter_named p' (back us _ q).1 in (both (in_declarator d) (in_declarator p) k.0 l.0, (k.1, l.1))
  parameters_named (next_parameter t {d} {p} {m} {n} {us} {vs} d' te p') q =
      let k = parameters_named d' (front us _ q) in let l = parameter_named p' (back us _ q).1 in (both (in_declarator d) (in_declarator p) k.0 l.0, (k.1, l.1))

  parameter_named : {d : DeclaratorTree} {h : ℕ} {ts : List Terminal} → IsParameter d h ts → AreNamed ts → All (in_declarator d) × Takes d
  parameter_named (named {at} {r} {base} {d} {h} {us} {vs} {ws} rd sd fd d') q =
      let b = back us _ q in let k = declarator_named d' (back vs _ b) in (both (in_spec base) (in_declarator d) (spec_tag sd (front vs _ b)) k.0, k.1)
  parameter_named (unnamed {at} {base} {a} {m} {us} {vs} sd fd a') q = (both (in_spec base) (in_tree a) (spec_tag sd (front us _ q)) (abstract_tags a' (back us _ q)), tt)

-- ---- initializers and declarations in a block

mutual
  pub initial_named : {i : InitialTree} {h : ℕ} {ts : List Terminal} → IsInitial i h ts → AreNamed ts → All (in_initial i)
  initial_named (value d) q = tags d q
  initial_named (braces c {i} {h} {ts} d ce) q = items_named d (front ts _ q)
  initial_named (braces_comma t c {i} {h} {ts} d te ce) q = items_named d (front ts _ q)

  items_named : {i : InitialTree} {h : ℕ} {ts : List Terminal} → AreItems i h ts → AreNamed ts → All (in_initial i)
  items_named (first_item o oe d) q = initial_named d q.1
  items_named (next_item t {i} {j} {m} {n} {us} {vs} d te d') q = both (in_initial i) (in_initial j) (items_named d (front us _ q)) (initial_named d' (back us _ q).1)

abbrev pub Name : Declared → Type 0
Name d = All (in_declared d) × Declares d.declarator

declared_named : {d : Declared} {h : ℕ} {ts : List Terminal} → IsDeclared d h ts → AreNamed ts → Name d
declared_named (plain {d} {h} {ts} d') q = let k = declarator_named d' q in (both (in_declarator d) [] k.0 tt, k.1)
declared_named (with_initial t {d} {i} {m} {n} {us} {vs} d' te i') q =
    let k = declarator_named d' (front us _ q) in (both (in_declarator d) (in_initial i) k.0 (initial_named i' (back us _ q).1), k.1)

names_named : {ds : List Declared} {h : ℕ} {ts : List Terminal} → AreDeclared ds h ts → AreNamed ts → AllByRecursion Name ds
names_named (one_name d) q = (declared_named d q, tt)
names_named (more_names t {d} {ds} {m} {n} {us} {vs} ds' te d') q = one_more Name ds d (names_named ds' (front us _ q)) (declared_named d' (back us _ q).1)

pub names_tags : (ds : List Declared) → AllByRecursion Name ds → All (in_all in_declared ds)
names_tags ds h = in_each in_declared Name (λ d k. k.0) ds h

pub local_named : {l : Local} {h : ℕ} {ts : List Terminal} → IsLocal l h ts → AreNamed ts → All (in_local l) × AllByRecursion Name l.names
local_named (local c {r} {base} {at} {ds} {h} {us} {vs} {ws} rd sd fd ds' ce) q =
    let b = back us _ q in let k = names_named ds' (front ws _ (back vs _ b)) in (both (in_spec base) (in_all in_declared ds) (spec_tag sd (front vs _ b)) (names_tags ds k), k)
