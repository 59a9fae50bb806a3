-- The files that sources are: how many there are, what each has of its text, and how many terminals they have.
use Rattle.std.proofs.Common.{◌≡◌, refl, sym, ap, ◌∙◌, subst, ℕ, suc, ◌+◌, ◌≤◌, List, [], ◌∷◌, length, arith}
use Rattle.std.specs.List.{AllByRecursion}
use Rattle.c_lex.specs.declared.token.Token.{Token}
use Rattle.c_lex.specs.Grammar.{Lexes, start}
use Rattle.c_symbol.specs.declared.terminal.Terminal.{Terminal}
use Rattle.c_symbol.specs.Terminals.{terminals}
use Rattle.c_trees.specs.declared.unit.External.{External}
use Rattle.c_syntax.specs.Grammar.{IsUnit}
use Rattle.c_file.specs.Made.{Each}
use Rattle.c_tokens.specs.Units.{AreSpelled, terminals_in}
use Rattle.ldb_cc.specs.Sources.{IsTree, HasTokens, token_count}

-- as many items in one list as in the other
pub as_many : {A B : Type 0} (P : A → B → Type 0) (xs : List A) (ys : List B) → Each P xs ys → length xs ≡ length ys
as_many P [] [] e = refl
as_many P [] (y ∷ ys) e = absurd e
as_many P (x ∷ xs) [] e = absurd e
as_many P (x ∷ xs) (y ∷ ys) e = ap suc (as_many P xs ys e.1)

-- a property of each file that follows from its text
module _ (Q : List External → Type 0) (holds : (text : List ℕ) (ts : List Token) (externals : List External) (h : ℕ) → Lexes start text ts → IsUnit externals h (terminals text ts) → Q externals) where
  pub of_texts : (texts : List (List ℕ)) (us : List (List External)) → Each IsTree texts us → AllByRecursion Q us
  of_texts [] [] e = tt
  of_texts [] (u ∷ us) e = absurd e
  of_texts (t ∷ ts) [] e = absurd e
  of_texts (t ∷ ts) (u ∷ us) e = (holds t e.0.2.tokens u e.0.0 e.0.2.lexes e.0.2.unit, of_texts ts us e.1)

-- the terminals of each file
abbrev spelling : (texts : List (List ℕ)) (us : List (List External)) → Each IsTree texts us → List (List Terminal)
spelling [] [] e = []
spelling [] (u ∷ us) e = absurd e
spelling (t ∷ ts) [] e = absurd e
spelling (t ∷ ts) (u ∷ us) e = terminals t e.0.2.tokens ∷ spelling ts us e.1

spelled : (texts : List (List ℕ)) (us : List (List External)) (e : Each IsTree texts us) → AreSpelled us (spelling texts us e)
spelled [] [] e = tt
spelled [] (u ∷ us) e = absurd e
spelled (t ∷ ts) [] e = absurd e
spelled (t ∷ ts) (u ∷ us) e = ((e.0.0, e.0.2.unit), spelled ts us e.1)

module _ (joined : (text : List ℕ) (ts : List Token) → length (terminals text ts) ≤ length ts)
    (one : (text : List ℕ) (ts us : List Token) → Lexes start text ts → Lexes start text us → ts ≡ us) where
  few_terminals : (texts : List (List ℕ)) (us : List (List External)) (e : Each IsTree texts us) (all : List (List Token)) → Each HasTokens texts all → terminals_in (spelling texts us e) ≤ token_count all
  few_terminals [] [] e [] h = omega (arith)
  few_terminals [] [] e (ts ∷ all) h = absurd h
  few_terminals [] (u ∷ us) e all h = absurd e
  few_terminals (t ∷ texts) [] e all h = absurd e
  few_terminals (t ∷ texts) (u ∷ us) e [] h = absurd h
  few_terminals (t ∷ texts) (u ∷ us) e (ts ∷ all) h =
      omega (arith, joined t e.0.2.tokens, ap (λ (xs : List Token). length xs) (one t e.0.2.tokens ts e.0.2.lexes h.0), few_terminals texts us e.1 all h.1)

  -- files of at most so many tokens are spelled by at most as many terminals
  pub spelled_shortly : (texts : List (List ℕ)) (us : List (List External)) (all : List (List Token)) (n : ℕ) → Each IsTree texts us → Each HasTokens texts all → token_count all ≤ n
      → (tss : List (List Terminal)) × AreSpelled us tss × (terminals_in tss ≤ n)
  spelled_shortly texts us all n e h few = (spelling texts us e, spelled texts us e, omega (arith, few_terminals texts us e all h, few))
