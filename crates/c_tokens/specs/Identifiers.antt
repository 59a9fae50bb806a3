-- The names of a program.
use Rattle.std.specs.Prelude.{ℕ, ◌≤◌, List, length}
use Rattle.std.specs.List.{AllByRecursion}
use Rattle.c_lex.specs.declared.token.Token.{Token}
use Rattle.c_lex.specs.Grammar.{IsWord, Lexes, start}
use Rattle.c_symbol.specs.Terminals.{terminals}
use Rattle.c_trees.specs.declared.unit.External.{External}
use Rattle.c_syntax.specs.Grammar.{IsUnit}
use Rattle.c_tree.specs.declared.types.StructDef.{StructDef}
use Rattle.c_tree.specs.declared.types.Member.{Member}
use Rattle.c_tree.specs.declared.rows.Program.{Program}
use Rattle.c_tree.specs.declared.rows.ObjectRow.{ObjectRow}
use Rattle.c_tree.specs.declared.rows.SymbolRow.{SymbolRow}
use Rattle.c_tree.specs.declared.rows.Function.{Function}

-- an identifier of at most 63 bytes (C90 6.1.2)
pub record IsIdentifier (name : List ℕ) : Type 0 where
  pub word : IsWord name
  pub short : length name ≤ 63

-- the names of a program are identifiers
pub record HasIdentifiers (p : Program) : Type 0 where
  pub tags : AllByRecursion (λ (d : StructDef). IsIdentifier d.tag × AllByRecursion (λ (m : Member). IsIdentifier m.name) d.members) p.defs
  pub objects : AllByRecursion (λ (o : ObjectRow). IsIdentifier o.name) p.objects
  pub functions : AllByRecursion (λ (f : Function). IsIdentifier f.name) p.functions
  pub symbols : AllByRecursion (λ (s : SymbolRow). IsIdentifier s.name) p.symbols

-- a file is the unit that the tokens of a text are
abbrev pub IsOfText : List External → Type 0
IsOfText u = (text : List ℕ) × (ts : List Token) × (h : ℕ) × Lexes start text ts × IsUnit u h (terminals text ts)
