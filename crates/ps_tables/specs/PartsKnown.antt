-- What the words of a table stand for behind its definitions.
use Rattle.std.specs.Prelude.{ℕ, List, ◌∷◌, ◌++◌, codes}
use Rattle.c_tree.specs.declared.types.StructDef.{StructDef}
use Rattle.ps_tables.specs.Senses.{Structs, Objects, Senses}
use Rattle.ps_tables.specs.WordsKnown.{Printers, printer_senses, word_senses}

-- with so many entries at most in each struct's dictionary
abbrev pub with_structs : Printers → ℕ → List StructDef → Senses
with_structs p few defs = (codes "structs", Structs few defs) ∷ (word_senses ++ printer_senses p)

abbrev pub with_objects : Printers → ℕ → (objects : ℕ) → List StructDef → Senses
with_objects p few count defs = (codes "objects", Objects count) ∷ with_structs p few defs
