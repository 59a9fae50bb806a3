-- The constants of an expression are words where those of its terminals are.
use Rattle.std.proofs.Common.{subst, ℕ, List, [], ◌∷◌, ◌++◌}
use Rattle.std.specs.List.{AllByRecursion}
use Rattle.c_lex.specs.declared.token.Place.{Place}
use Rattle.c_symbol.specs.declared.terminal.Terminal.{Terminal}
use Rattle.c_symbol.specs.declared.symbol.Symbol.{Symbol}
use Rattle.c_symbol.specs.declared.symbol.Symbol.TheVariants as symbol
use Rattle.c_trees.specs.Expressions.{Tree}
use Rattle.c_expr.specs.Grammar.{IsAbstract, stars, around, bounded, unbounded, IsExpr, leaf, paren, index, member, after, prefixed, sizeof_type, cast, binary, choice, call, call_with, IsCall, first_argument, next_argument}
use Rattle.c_accepted.specs.Sources.{IsWord, AreWords}
use Rattle.c_accepted.proofs.Runs.{all_first, all_second}

abbrev pub IsWordSymbol : Symbol → Type 0
IsWordSymbol (symbol.Leaf kind) = IsWord kind
IsWordSymbol _ = Unit {0}

abbrev pub IsWordTerminal : Terminal → Type 0
IsWordTerminal t = IsWordSymbol t.symbol

abbrev pub HaveWords : List Terminal → Type 0
HaveWords ts = AllByRecursion IsWordTerminal ts

before : (us vs : List Terminal) → HaveWords (us ++ vs) → HaveWords us
before us vs w = all_first IsWordTerminal us vs w

behind : (us vs : List Terminal) → HaveWords (us ++ vs) → HaveWords vs
behind us vs w = all_second IsWordTerminal us vs w

mutual
  pub words_are : {p : ℕ} {e : Tree} {at : Place} {h : ℕ} {ts : List Terminal} → IsExpr p e at h ts → HaveWords ts → AreWords e
  words_are (leaf p t kind le te) w = subst IsWordSymbol te w.0
  words_are (paren p o c {a} {at} {h} {ts} le oe d ce) w = words_are d (before ts (c ∷ []) w.1)
  words_are (index p o c {a} {b} {at} {at'} {m} {n} {us} {vs} le d oe d' ce) w = (words_are d (before us (o ∷ (vs ++ c ∷ [])) w), words_are d' (before vs (c ∷ []) (behind us (o ∷ (vs ++ c ∷ [])) w).1))
  words_are (member p t name access {a} {at} {h} {ts} le d te ne) w = words_are d (before ts (t ∷ name ∷ []) w)
  words_are (after p t step {a} {at} {h} {ts} le d te) w = words_are d (before ts (t ∷ []) w)
  words_are (prefixed p t op {a} {at} {h} {ts} le te d) w = words_are d w.1
  words_are (sizeof_type p t o c {spec} {d} {m} {us} {ts} le te oe sd d' ce) w = abstract_words d' (before ts (c ∷ []) (behind us (ts ++ c ∷ []) w.1.1))
  words_are (cast p o c {spec} {d} {m} {us} {ts} {a} {at} {h} {vs} le oe sd d' ce d'') w =
      let rest = behind us (ts ++ c ∷ vs) w.1 in (abstract_words d' (before ts (c ∷ vs) rest), words_are d'' (behind ts (c ∷ vs) rest).1)
  words_are (binary p t op {a} {b} {at} {at'} {m} {n} {us} {vs} le d te d') w = (words_are d (before us (t ∷ vs) w), words_are d' (behind us (t ∷ vs) w).1)
  words_are (choice p q c {a} {b} {e} {at} {at'} {at''} {l} {m} {n} {us} {vs} {ws} le d qe d' ce d'') w =
      let rest = (behind us (q ∷ (vs ++ c ∷ ws)) w).1 in (words_are d (before us (q ∷ (vs ++ c ∷ ws)) w), words_are d' (before vs (c ∷ ws) rest), words_are d'' (behind vs (c ∷ ws) rest).1)
  words_are (call p o c {f} {at} {h} {us} le d oe ce) w = words_are d (before us (o ∷ c ∷ []) w)
  words_are (call_with p c {e} {at} {h} {us} le d ce) w = call_words d (before us (c ∷ []) w)

  call_words : {e : Tree} {at : Place} {h : ℕ} {ts : List Terminal} → IsCall e at h ts → HaveWords ts → AreWords e
  call_words (first_argument o {f} {a} {at} {at'} {m} {n} {us} {vs} d oe d') w = (words_are d (before us (o ∷ vs) w), words_are d' (behind us (o ∷ vs) w).1)
  call_words (next_argument t {f} {a} {at} {at'} {m} {n} {us} {vs} d te d') w = (call_words d (before us (t ∷ vs) w), words_are d' (behind us (t ∷ vs) w).1)

  abstract_words : {d : Tree} {m : ℕ} {ts : List Terminal} → IsAbstract d m ts → HaveWords ts → AreWords d
  abstract_words (stars d) w = tt
  abstract_words (around o c {n} {d} {m} {us} {ts} s oe d' ne ce) w = abstract_words d' (before ts (c ∷ []) (behind us (o ∷ (ts ++ c ∷ [])) w).1)
  abstract_words (bounded o c {d} {e} {at} {m} {h} {us} {vs} d' oe e' ce) w = (abstract_words d' (before us (o ∷ (vs ++ c ∷ [])) w), words_are e' (before vs (c ∷ []) (behind us (o ∷ (vs ++ c ∷ [])) w).1))
  abstract_words (unbounded o c {d} {m} {us} d' oe ce) w = abstract_words d' (before us (o ∷ c ∷ []) w)
