-- The files that a text is read to are trees of a text.
use Rattle.std.proofs.Common.{◌≡◌, subst, ℕ, false, ◌==◌, List, [], ◌∷◌, ◌++◌}
use Rattle.std.specs.List.{AllByRecursion}
use Rattle.c_lex.specs.declared.token.Place.{Place}
use Rattle.c_lex.specs.declared.token.Token.{Token}
use Rattle.c_lex.specs.Grammar.{Lexes}
use Rattle.c_symbol.specs.declared.terminal.Terminal.{Terminal}
use Rattle.c_symbol.specs.Terminals.{terminals}
use Rattle.c_trees.specs.Expressions.{Tree}
use Rattle.c_expr.specs.Grammar.{IsExpr}
use Rattle.c_trees.specs.Initializers.{InitialTree}
use Rattle.c_trees.specs.declared.declaration.Declared.{Declared}
use Rattle.c_trees.specs.declared.declaration.Head.{Head}
use Rattle.c_declaration.specs.Grammar.{IsInitial, value, braces, braces_comma, first_item, next_item, IsFileDeclared, bare, with_value, AreFileDeclared, one_file_name, more_file_names, IsHead, only_spec, with_names}
use Rattle.c_declaration.specs.Grammar as grammar
use Rattle.c_trees.specs.declared.unit.External.{External}
use Rattle.c_mentions.specs.Literals.{Literal}
use Rattle.c_syntax.specs.Grammar.{IsExternal, declaration, definition, IsUnit, first_external, next_external}
use Rattle.c_accepted.specs.Sources.{AreApart, IsApart, AreWords, IsInitializer, AreItems, IsDeclared, IsText}
use Rattle.c_accepted.proofs.Runs.{all_first, all_second, all_both}
use Rattle.c_accepted.proofs.SpelledLiterals.{literals_of, literals_append, literals_are}
use Rattle.c_accepted.proofs.SpelledWords.{IsWordTerminal, HaveWords, words_are}
use Rattle.c_accepted.proofs.SpelledTrees.{block_order, block_holds}
use Rattle.c_accepted.proofs.TokenPlaces.{terminals_apart, all_words}

-- ---- literals of a part

apart_first : (ks ls : List Literal) → AreApart (ks ++ ls) → AreApart ks
apart_first [] ls h = tt
apart_first (k ∷ ks) ls h = (all_first (λ (m : Literal). (k.at == m.at) ≡ false) ks ls h.0, apart_first ks ls h.1)

apart_second : (ks ls : List Literal) → AreApart (ks ++ ls) → AreApart ls
apart_second [] ls h = h
apart_second (k ∷ ks) ls h = apart_second ks ls h.1

abbrev AreApartIn : List Terminal → Type 0
AreApartIn ts = AreApart (literals_of ts)

apart_before : (us vs : List Terminal) → AreApartIn (us ++ vs) → AreApartIn us
apart_before us vs h = apart_first (literals_of us) (literals_of vs) (subst AreApart (literals_append us vs) h)

apart_behind : (us vs : List Terminal) → AreApartIn (us ++ vs) → AreApartIn vs
apart_behind us vs h = apart_second (literals_of us) (literals_of vs) (subst AreApart (literals_append us vs) h)

expression_apart : (p : ℕ) (e : Tree) (at : Place) (h : ℕ) (ts : List Terminal) → IsExpr p e at h ts → AreApartIn ts → IsApart e
expression_apart p e at h ts d a = subst AreApart (literals_are d) a

expression_words : (p : ℕ) (e : Tree) (at : Place) (h : ℕ) (ts : List Terminal) → IsExpr p e at h ts → HaveWords ts → AreWords e
expression_words p e at h ts d w = words_are d w

words_before : (us vs : List Terminal) → HaveWords (us ++ vs) → HaveWords us
words_before us vs w = all_first IsWordTerminal us vs w

words_behind : (us vs : List Terminal) → HaveWords (us ++ vs) → HaveWords vs
words_behind us vs w = all_second IsWordTerminal us vs w

-- ---- initializers

mutual
  initial_is : {i : InitialTree} {h : ℕ} {ts : List Terminal} → IsInitial i h ts → HaveWords ts → IsInitializer i
  initial_is (value d) w = words_are d w
  initial_is (braces c {i} {h} {ts} d ce) w = (items_are d (words_before ts (c ∷ []) w)).1
  initial_is (braces_comma t c {i} {h} {ts} d te ce) w = (items_are d (words_before ts (t ∷ c ∷ []) w)).1

  items_are : {i : InitialTree} {h : ℕ} {ts : List Terminal} → grammar.AreItems i h ts → HaveWords ts → AreItems i × IsInitializer i
  items_are (first_item o oe d) w = let k = initial_is d w.1 in ((tt, k), (tt, k))
  items_are (next_item t {i} {j} {m} {n} {us} {vs} d te d') w =
      let k = (items_are d (words_before us (t ∷ vs) w)).0 in
      let l = initial_is d' (words_behind us (t ∷ vs) w).1 in ((k, l), (k, l))

-- ---- files

name_is : {d : Declared} {h : ℕ} {ts : List Terminal} → IsFileDeclared d h ts → HaveWords ts → IsDeclared d
name_is (bare d) w = tt
name_is (with_value t {d} {i} {m} {n} {us} {vs} d' te i') w = initial_is i' (words_behind us (t ∷ vs) w).1

names_are : {ds : List Declared} {h : ℕ} {ts : List Terminal} → AreFileDeclared ds h ts → HaveWords ts → AllByRecursion IsDeclared ds
names_are (one_file_name d) w = (name_is d w, tt)
names_are (more_file_names t {d} {ds} {m} {n} {us} {vs} d' te d'') w = all_both IsDeclared ds (d ∷ []) (names_are d' (words_before us (t ∷ vs) w)) (name_is d'' (words_behind us (t ∷ vs) w).1, tt)

head_is : {h : Head} {n : ℕ} {ts : List Terminal} → IsHead h n ts → HaveWords ts → AllByRecursion IsDeclared h.names
head_is (only_spec c s f e ce) w = tt
head_is (with_names c {st} {f} {at} {ds} {m} {n} {us} {vs} {ws} s fd e d ce) w = names_are d (words_before ws (c ∷ []) (words_behind vs (ws ++ c ∷ []) (words_behind us (vs ++ (ws ++ c ∷ [])) w)))

external_is : {e : External} {h : ℕ} {ts : List Terminal} → IsExternal e h ts → AreApartIn ts → HaveWords ts → IsText e
external_is (declaration d) a w = head_is d w
external_is (definition {d} {x} {m} {n} {us} {vs} f b) a w = (
  block_order b,
  block_holds AreApartIn IsApart apart_before apart_behind expression_apart b (apart_behind us vs a),
  block_holds HaveWords AreWords words_before words_behind expression_words b (words_behind us vs w),
)

unit_is : {es : List External} {h : ℕ} {ts : List Terminal} → IsUnit es h ts → AreApartIn ts → HaveWords ts → AllByRecursion IsText es
unit_is (first_external d) a w = (external_is d a w, tt)
unit_is (next_external {es} {e} {m} {n} {us} {vs} d d') a w =
    all_both IsText es (e ∷ []) (unit_is d (apart_before us vs a) (words_before us vs w)) (external_is d' (apart_behind us vs a) (words_behind us vs w), tt)

pub texts : (p : Place) (text : List ℕ) (ts : List Token) (es : List External) (h : ℕ) → Lexes p text ts → IsUnit es h (terminals text ts) → AllByRecursion IsText es
texts p text ts es h l u = unit_is u (terminals_apart p text ts l) (all_words text ts)
