-- Typed statements as memory holds them, where each constant has 32 bits.
use Rattle.std.specs.Prelude.{◌<◌, ◌^◌, List, [], ◌∷◌, Option, Some, None}
use Rattle.c_tree.specs.declared.typed.Typed.{Typed}
use Rattle.c_tree.specs.declared.typed.Pointed.{Pointed}
use Rattle.c_tree.specs.declared.typed.DeclaredLocal.{DeclaredLocal}
use Rattle.c_tree.specs.declared.typed.Stmt.{Stmt, Row_of-Stmt, end_of-Stmt, more_of-Stmt, Held-Stmt-If-3, None', Some'}
use Rattle.c_tree.specs.declared.typed.Stmt.TheVariants as typed
use Rattle.c_accepted.proofs.Words.{HasWords}

abbrev pub HasWordsPart : Option Pointed → Type 0
HasWordsPart None = Unit {0}
HasWordsPart (Some q) = HasWords q.e

abbrev pub HaveWordsInits : List DeclaredLocal → Type 0
HaveWordsInits [] = Unit {0}
HaveWordsInits (d ∷ ds) = HasWordsPart d.init × HaveWordsInits ds

abbrev pub HasWordsValue : Option Typed → Type 0
HasWordsValue None = Unit {0}
HasWordsValue (Some e) = HasWords e

abbrev mutual
  -- each constant of a statement is a word
  pub HasWordsIn : Stmt → Type 0
  HasWordsIn (typed.Value _ e) = HasWordsPart e
  HasWordsIn (typed.Block' _ ds _ row l c) = HaveWordsInits ds × HaveWordsRow row
  HasWordsIn (typed.If' _ q _ s t) = HasWords q.e × HasWordsIn s × HasWordsElse t
  HasWordsIn (typed.While' _ q _ s) = HasWords q.e × HasWordsIn s
  HasWordsIn (typed.Do' _ _ s q) = HasWordsIn s × HasWords q.e
  HasWordsIn (typed.For' _ i q t _ s) = HasWordsPart i × HasWordsPart q × HasWordsPart t × HasWordsIn s
  HasWordsIn (typed.Switch' _ q _ s) = HasWords q.e × HasWordsIn s
  HasWordsIn (typed.Case' _ c _ s) = (c < 2 ^ 32) × HasWordsIn s
  HasWordsIn (typed.Default' _ _ s) = HasWordsIn s
  HasWordsIn (typed.Break _) = Unit {0}
  HasWordsIn (typed.Continue _) = Unit {0}
  HasWordsIn (typed.Return _ q e) = HasWordsValue e

  pub HaveWordsRow : {m : _} → Row_of-Stmt m → Type 0
  HaveWordsRow end_of-Stmt = Unit {0}
  HaveWordsRow (more_of-Stmt s rest) = HasWordsIn s × HaveWordsRow rest

  pub HasWordsElse : Held-Stmt-If-3 → Type 0
  HasWordsElse None' = Unit {0}
  HasWordsElse (Some' _ s) = HasWordsIn s
