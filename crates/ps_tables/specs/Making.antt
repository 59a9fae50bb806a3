-- How a table makes dictionaries of operands.
use Rattle.std.specs.Prelude.{◌≡◌, ℕ, pos, negsuc, ◌+◌, ◌<◌, ◌≤◌, Some, List, [], ◌∷◌, length, map, codes, bytes_eq, if◌then◌else◌}
use Rattle.ps_store.specs.declared.object.Part.TheVariants.{Table}
use Rattle.ps_store.specs.declared.object.PsObj.{PsObj}
use Rattle.ps_store.specs.declared.object.PsObj.TheVariants.{Dict, Op}
use Rattle.ps_store.specs.declared.object.DictId.{DictId}
use Rattle.ps_store.specs.declared.object.Pair.{Pair}
use Rattle.ps_store.specs.declared.key.Key.{Key}
use Rattle.ps_store.specs.Operators.{operator_number}
use Rattle.ps_store.specs.StoreState.{StoreState}
use Rattle.ps_store.specs.Store.{held, entries_of}
use Rattle.ps_step.specs.Keys.{named}
use Rattle.ps_step.specs.declared.item.Item.{Item}
use Rattle.ps_text.specs.Code.{Code, Stop, Num, Word, Lit, Text, Proc}
use Rattle.ps_terms.specs.Stands.{core}
use Rattle.ps_terms.specs.Printing.{further}
use Rattle.ps_tables.specs.Taken.{Takes}
use Rattle.ps_tables.specs.Dictionaries.{Fields, AreFields, with_dict, next_dict}

-- ---- terms

-- the procedure that a term defines under a name
abbrev pub procedure_under : List ℕ → Code → Code
procedure_under name Stop = Stop
procedure_under name (Lit other (Proc body rest)) = if bytes_eq name other then body else procedure_under name rest
procedure_under name (Num n rest) = procedure_under name rest
procedure_under name (Word w rest) = procedure_under name rest
procedure_under name (Lit other rest) = procedure_under name rest
procedure_under name (Text bytes rest) = procedure_under name rest
procedure_under name (Proc body rest) = procedure_under name rest

-- the operands below a dictionary become the values of these names, the topmost one first
abbrev pub taking : List (List ℕ) → Code → Code
taking [] rest = rest
taking (key ∷ keys) rest = Word (codes "dup") (Lit key (Num (pos 4) (Num (negsuc 0) (Word (codes "roll") (Word (codes "put") (taking keys rest))))))

-- a new dictionary of operands
abbrev pub making : ℕ → List (List ℕ) → Code
making room keys = Num (pos room) (Word (codes "dict") (taking keys Stop))

-- a copy of the dictionary that is the topmost operand, with more of the operands
abbrev pub copying : ℕ → List (List ℕ) → Code → Code
copying room keys rest = Num (pos room) (Word (codes "dict") (Word (codes "copy") (taking keys rest)))

-- the same of a dictionary that a word stands for
abbrev pub begun_as : List ℕ → ℕ → List (List ℕ) → Code → Code
begun_as word room keys rest = Word word (copying room keys rest)

-- the operand below a dictionary becomes the value of a name, and stays
abbrev pub sharing : List ℕ → Code → Code
sharing key rest = Word (codes "dup") (Lit key (Num (pos 3) (Word (codes "index") (Word (codes "put") rest))))

-- in front of what makes a type of arrays: the size of the type that is the operand below the count, as often as the count says
abbrev pub array_making : Code → Code
array_making rest = Num (pos 2) (Word (codes "copy") (Word (codes "exch") (Lit (codes "size") (Word (codes "get") (Word (codes "mul") rest)))))

-- the steps for these names
abbrev pub taking_steps : List (List ℕ) → ℕ → ℕ
taking_steps [] left = left
taking_steps (key ∷ keys) left = further 6 (taking_steps keys left)

-- ---- states

abbrev pub AreThere : StoreState → List DictId → Type 0
AreThere s [] = Unit {0}
AreThere s (d ∷ ds) = (d.index < length (held s d.part).dicts) × AreThere s ds

-- A state in which a table makes objects: it makes them in its own part, of which nothing is closed that is not there; the dictionaries of the stack are
-- there, and give no operator's name another meaning.
pub record IsMaking (s : StoreState) (ds : List DictId) : Type 0 where
  pub part : s.part ≡ Table
  pub closed : s.closed.dicts ≤ length s.table.dicts
  pub there : AreThere s ds
  pub operators : (name : List ℕ) (n : ℕ) → operator_number name ≡ Some n → named s ds name ≡ Some (Op n)

-- room for so many units, above so many operands and items
pub record Fits (more : ℕ) (s : StoreState) (stack : List PsObj) (under : List Item) : Type 0 where
  pub units : s.table.units + s.command.units + more ≤ 8000000
  pub operands : length stack + 101 ≤ 100000
  pub items : length under + 10 ≤ 1000

abbrev pub AreShort : List (List ℕ) → Type 0
AreShort [] = Unit {0}
AreShort (key ∷ keys) = (length key ≤ 127) × AreShort keys

-- the fields of a dictionary that is there, whose names are short
pub record HasFields (s : StoreState) (d : DictId) (fields : Fields) : Type 0 where
  pub is_there : d.index < length (held s d.part).dicts
  pub are : AreFields s (entries_of s d) fields
  pub short : AreShort (map (λ f. f.0) fields)

-- in so many steps a dictionary of these fields takes the place of operands
pub record Makes (n : ℕ) (s : StoreState) (ds : List DictId) (fields : Fields) (operands : List PsObj) (items : List Item) (below : List PsObj) (under : List Item) : Type 0 where
  pub entries : List (Key × Pair)
  pub are : AreFields s entries fields
  pub takes : Takes n (core s ds operands items) (core (with_dict s entries) ds (Dict (next_dict s) ∷ below) under)
