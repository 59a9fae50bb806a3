-- What the text of a table is made of: objects, words that make dictionaries of what stands before them, and arrays.
use Rattle.std.specs.Prelude.{◌≡◌, ℕ, ℤ, pos, suc, ◌+◌, ◌<◌, ◌≤◌, true, false, Some, List, [], ◌∷◌, ◌++◌, length, reverse, slice_get, codes}
use Rattle.ps_store.specs.declared.object.PsObj.{PsObj}
use Rattle.ps_store.specs.declared.object.PsObj.TheVariants.{Int, Bool as Truth, Name, Str, Array, Dict, Op, Mark, Null}
use Rattle.ps_store.specs.declared.object.ArrayId.{ArrayId}
use Rattle.ps_store.specs.declared.object.DictId.{DictId}
use Rattle.ps_store.specs.declared.object.StringId.{StringId}
use Rattle.ps_store.specs.declared.key.Key.TheVariants.{Int as IntKey}
use Rattle.ps_store.specs.StoreState.{StoreState}
use Rattle.ps_store.specs.Store.{elements_of, text_units}
use Rattle.ps_step.specs.Keys.{found_in, named}
use Rattle.ps_step.specs.declared.item.Item.{Item}
use Rattle.ps_step.specs.declared.item.Item.TheVariants.{Text as TextItem}
use Rattle.ps_text.specs.Code.{Code, Stop, Num, Word, Lit, Text, Proc, render}
use Rattle.ps_text.specs.Grown.{HasArray, IsArray, IsString}
use Rattle.ps_text.specs.Spells.{Spells, Fine, units}
use Rattle.ps_terms.specs.Machine.{Does}
use Rattle.ps_terms.specs.Stands.{Means, core}
use Rattle.ps_terms.specs.Printing.{further}
use Rattle.ps_tables.specs.Taken.{Takes}
use Rattle.ps_tables.specs.Dictionaries.{Fields, updated}
use Rattle.ps_tables.specs.Making.{HasFields}
use Rattle.ps_tables.specs.Later.{IsOpen, Later, StandsAt}
use Rattle.ps_tables.specs.Makers.{Maker, body, making_steps, taken_by, most, calls, Ready, MadeBy}
use Rattle.ps_tables.specs.Types.{Type', type_term, type_steps, type_cost, IsType, KnowsType}

-- ---- new dictionaries

-- What is put into a new dictionary: a literal name, an integer, what a word stands for, or what the dictionaries have under a name.
pub data Given : Type 0 where
  Called : (name : List ℕ) → Given
  Counted : (n : ℤ) → Given
  Meant : (word : List ℕ) (x : PsObj) → Given
  Loads : (name : List ℕ) (x : PsObj) → Given

abbrev pub given_term : Given → Code → Code
given_term (Called name) k = Lit name k
given_term (Counted n) k = Num n k
given_term (Meant word x) k = Word word k
given_term (Loads name x) k = Lit name (Word (codes "load") k)

abbrev pub given_steps : Given → ℕ
given_steps (Loads name x) = 2
given_steps other = 1

abbrev pub given_cost : Given → ℕ
given_cost (Called name) = text_units name
given_cost (Counted n) = 0
given_cost (Meant word x) = text_units word
given_cost (Loads name x) = text_units name + text_units (codes "load")

-- names with what is put under them
abbrev pub Entries : Type 0
Entries = List (List ℕ × Given)

abbrev pub putting : Entries → Code → Code
putting [] k = k
putting (e ∷ es) k = Word (codes "dup") (Lit e.0 (given_term e.1 (Word (codes "put") (putting es k))))

abbrev pub putting_steps : Entries → ℕ
putting_steps [] = 0
putting_steps (e ∷ es) = further 2 (further (given_steps e.1) (suc (putting_steps es)))

-- each pair counts one unit
abbrev pub putting_cost : Entries → ℕ
putting_cost [] = 0
putting_cost (e ∷ es) = text_units (codes "dup") + text_units e.0 + (given_cost e.1 + (text_units (codes "put") + 1 + putting_cost es))

-- ---- pieces

-- A piece, and what stands behind it: an integer, a literal name, a string, a procedure; a word that stands for a value; an object of an array that a
-- word stands for; a word that makes a dictionary of the values of parts; an array of items; what the dictionaries of the stack have under an integer;
-- a string that is to be executed later; a name and its value; a dictionary of names and values; a type;
-- a new dictionary into which entries are put.
pub data Piece : Type 0 where
  End : Piece
  Number : (n : ℤ) (rest : Piece) → Piece
  Literal : (name : List ℕ) (rest : Piece) → Piece
  Chars : (text : List ℕ) (rest : Piece) → Piece
  Quote : (body : Code) (rest : Piece) → Piece
  Value : (word : List ℕ) (x : PsObj) (rest : Piece) → Piece
  Element : (word : List ℕ) (place : ℕ) (x : PsObj) (rest : Piece) → Piece
  Make : (word : List ℕ) (m : Maker) (parts rest : Piece) → Piece
  Row : (items rest : Piece) → Piece
  Loaded : (key : ℤ) (x : PsObj) (rest : Piece) → Piece
  Deferred : (text : List ℕ) (rest : Piece) → Piece
  Field : (name : List ℕ) (value rest : Piece) → Piece
  Pairs : (fields rest : Piece) → Piece
  Typed : (t : Type') (rest : Piece) → Piece
  New : (room : ℕ) (entries : Entries) (rest : Piece) → Piece

-- its term, and what stands behind it
abbrev pub code : Piece → Code → Code
code End k = k
code (Number n rest) k = Num n (code rest k)
code (Literal name rest) k = Lit name (code rest k)
code (Chars text rest) k = Text text (code rest k)
code (Quote body rest) k = Proc body (code rest k)
code (Value word x rest) k = Word word (code rest k)
code (Element word place x rest) k = Word word (Num (pos place) (Word (codes "get") (code rest k)))
code (Make word m parts rest) k = code parts (Word word (code rest k))
code (Row items rest) k = Word (codes "[") (code items (Word (codes "]") (code rest k)))
code (Loaded key x rest) k = Num key (Word (codes "load") (code rest k))
code (Deferred text rest) k = Text text (Word (codes "cvx") (code rest k))
code (Field name value rest) k = Lit name (code value (code rest k))
code (Pairs fields rest) k = Word (codes "<<") (code fields (Word (codes ">>") (code rest k)))
code (Typed t rest) k = type_term t (code rest k)
code (New room entries rest) k = Num (pos room) (Word (codes "dict") (putting entries (code rest k)))

-- the steps that it takes
abbrev pub steps : Piece → ℕ
steps End = 0
steps (Number n rest) = suc (steps rest)
steps (Literal name rest) = suc (steps rest)
steps (Chars text rest) = suc (steps rest)
steps (Quote body rest) = suc (steps rest)
steps (Value word x rest) = suc (steps rest)
steps (Element word place x rest) = suc (suc (suc (steps rest)))
steps (Make word m parts rest) = further (steps parts) (suc (further (making_steps m) (steps rest)))
steps (Row items rest) = suc (further (steps items) (suc (steps rest)))
steps (Loaded key x rest) = suc (suc (steps rest))
steps (Deferred text rest) = suc (suc (steps rest))
steps (Field name value rest) = suc (further (steps value) (steps rest))
steps (Pairs fields rest) = suc (further (steps fields) (suc (steps rest)))
steps (Typed t rest) = further (type_steps t) (steps rest)
steps (New room entries rest) = further 2 (further (putting_steps entries) (steps rest))

-- how many values it leaves
abbrev pub left_by : Piece → ℕ
left_by End = 0
left_by (Number n rest) = suc (left_by rest)
left_by (Literal name rest) = suc (left_by rest)
left_by (Chars text rest) = suc (left_by rest)
left_by (Quote body rest) = suc (left_by rest)
left_by (Value word x rest) = suc (left_by rest)
left_by (Element word place x rest) = suc (left_by rest)
left_by (Make word m parts rest) = suc (left_by rest)
left_by (Row items rest) = suc (left_by rest)
left_by (Loaded key x rest) = suc (left_by rest)
left_by (Deferred text rest) = suc (left_by rest)
left_by (Field name value rest) = suc (suc (left_by rest))
left_by (Pairs fields rest) = suc (left_by rest)
left_by (Typed t rest) = suc (left_by rest)
left_by (New room entries rest) = suc (left_by rest)

-- names with values, how many they are
abbrev pub FieldsAlone : Piece → Type 0
FieldsAlone End = Unit {0}
FieldsAlone (Field name value rest) = FieldsAlone rest
FieldsAlone other = ⊥

abbrev pub fields_in : Piece → ℕ
fields_in (Field name value rest) = suc (fields_in rest)
fields_in other = 0

-- the units that it makes at most: those of its texts, one for each dictionary and array, and one for each pair and item
abbrev pub cost : Piece → ℕ
cost End = 0
cost (Number n rest) = cost rest
cost (Literal name rest) = text_units name + cost rest
cost (Chars text rest) = text_units text + cost rest
cost (Quote body rest) = units (Proc body Stop) + cost rest
cost (Value word x rest) = text_units word + cost rest
cost (Element word place x rest) = text_units word + text_units (codes "get") + cost rest
cost (Make word m parts rest) = cost parts + (text_units word + (1 + most m) + cost rest)
cost (Row items rest) = text_units (codes "[") + cost items + (text_units (codes "]") + (1 + left_by items) + cost rest)
cost (Loaded key x rest) = text_units (codes "load") + cost rest
cost (Deferred text rest) = text_units text + text_units (codes "cvx") + cost rest
cost (Field name value rest) = text_units name + (cost value + cost rest)
cost (Pairs fields rest) = text_units (codes "<<") + cost fields + (text_units (codes ">>") + (1 + fields_in fields) + cost rest)
cost (Typed t rest) = type_cost t + cost rest
cost (New room entries rest) = text_units (codes "dict") + 1 + (putting_cost entries + cost rest)

-- ---- what is known of the words

-- an object that is pushed where it is executed, and is no mark
abbrev pub IsValue : PsObj → Type 0
IsValue (Array a true) = ⊥
IsValue (Name t true) = ⊥
IsValue (Str t true) = ⊥
IsValue (Op n) = ⊥
IsValue Mark = ⊥
IsValue other = Unit {0}

-- what a word stands for leaves this value: it is the value, or one of three operators
pub data Gives : PsObj → PsObj → Type 0 where
  itself : (x : PsObj) → IsValue x → Gives x x
  truth : Gives (Op 58) (Truth true)
  falsehood : Gives (Op 59) (Truth false)
  nothing : Gives (Op 60) Null

-- an object that is no mark
abbrev pub IsNoMark : PsObj → Type 0
IsNoMark Mark = ⊥
IsNoMark other = Unit {0}

abbrev pub KnowsGiven : StoreState → List DictId → Given → Type 0
KnowsGiven s ds (Called name) = Fine (Lit name Stop)
KnowsGiven s ds (Counted n) = Fine (Num n Stop)
KnowsGiven s ds (Meant word x) = Fine (Word word Stop) × (y : PsObj) × (named s ds word ≡ Some y) × Gives y x
KnowsGiven s ds (Loads name x) = Fine (Lit name Stop) × (named s ds name ≡ Some x) × IsNoMark x

abbrev pub KnowsEntries : StoreState → List DictId → Entries → Type 0
KnowsEntries s ds [] = Unit {0}
KnowsEntries s ds (e ∷ es) = Fine (Lit e.0 Stop) × KnowsGiven s ds e.1 × KnowsEntries s ds es

-- each object may be read, and the words have their meanings
abbrev pub Knows : StoreState → List DictId → Piece → Type 0
Knows s ds End = Unit {0}
Knows s ds (Number n rest) = Fine (Num n Stop) × Knows s ds rest
Knows s ds (Literal name rest) = Fine (Lit name Stop) × Knows s ds rest
Knows s ds (Chars text rest) = Fine (Text text Stop) × Knows s ds rest
Knows s ds (Quote body rest) = Fine (Proc body Stop) × Knows s ds rest
Knows s ds (Value word x rest) = Fine (Word word Stop) × (y : PsObj) × (named s ds word ≡ Some y) × Gives y x × Knows s ds rest
Knows s ds (Element word place x rest) =
    Fine (Word word Stop) × Fine (Num (pos place) Stop) × (a : ArrayId) × (xs : List PsObj) × (named s ds word ≡ Some (Array a false)) × IsArray s a xs × (slice_get xs place ≡ Some x) × IsValue x
    × Knows s ds rest
Knows s ds (Make word m parts rest) =
    Fine (Word word Stop) × Means s ds word (Does (body m)) × Ready s ds m × (left_by parts ≡ taken_by m) × (calls m ≤ 80) × Knows s ds parts × Knows s ds rest
Knows s ds (Row items rest) = (left_by items ≤ 1000000) × Knows s ds items × Knows s ds rest
Knows s ds (Loaded key x rest) = Fine (Num key Stop) × (found_in s ds (IntKey key) ≡ Some x) × IsValue x × Knows s ds rest
Knows s ds (Deferred text rest) = Fine (Text text Stop) × Knows s ds rest
Knows s ds (Field name value rest) = Fine (Lit name Stop) × (left_by value ≡ 1) × Knows s ds value × Knows s ds rest
Knows s ds (Pairs fields rest) = FieldsAlone fields × (fields_in fields ≤ 500000) × Knows s ds fields × Knows s ds rest
Knows s ds (Typed t rest) = KnowsType s ds t × Knows s ds rest
Knows s ds (New room entries rest) = Fine (Num (pos room) Stop) × (length entries ≤ 1000) × KnowsEntries s ds entries × Knows s ds rest

-- from so many operands on there are never more than 100,000, with 110 to spare
abbrev pub HasRoom : ℕ → Piece → Type 0
HasRoom n End = n + 110 ≤ 100000
HasRoom n (Make word m parts rest) = HasRoom n parts × HasRoom (suc n) rest
HasRoom n (Row items rest) = HasRoom (suc n) items × HasRoom (suc n) rest
HasRoom n (Number i rest) = HasRoom (suc n) rest
HasRoom n (Literal name rest) = HasRoom (suc n) rest
HasRoom n (Chars text rest) = HasRoom (suc n) rest
HasRoom n (Quote body rest) = HasRoom (suc n) rest
HasRoom n (Value word x rest) = HasRoom (suc n) rest
HasRoom n (Element word place x rest) = HasRoom (suc n) rest
HasRoom n (Loaded key x rest) = HasRoom (suc n) rest
HasRoom n (Deferred text rest) = HasRoom (suc n) rest
HasRoom n (Field name value rest) = HasRoom (suc n) value × HasRoom (suc (suc n)) rest
HasRoom n (Pairs fields rest) = HasRoom (suc n) fields × HasRoom (suc n) rest
HasRoom n (Typed t rest) = HasRoom (suc n) rest
HasRoom n (New room entries rest) = (n + 120 ≤ 100000) × HasRoom (suc n) rest

-- ---- the values

-- What is known of operands, the topmost first: this object; the literal name or string of these characters; a procedure of this term; an array of items,
-- of which the last one stands first; the dictionary that a word makes of these values, of which the last one stands first; a string to be executed; a
-- value on top of a literal name; a dictionary of such pairs; the object of a type; an object that may be one to be executed.
pub data Values : Type 0 where
  Bottom : Values
  This : (x : PsObj) (below : Values) → Values
  Named : (name : List ℕ) (below : Values) → Values
  Written : (text : List ℕ) (below : Values) → Values
  Quoted : (body : Code) (below : Values) → Values
  Listed : (items below : Values) → Values
  Entry : (m : Maker) (parts below : Values) → Values
  Runs : (text : List ℕ) (below : Values) → Values
  Under : (name : List ℕ) (value below : Values) → Values
  Paired : (items below : Values) → Values
  OfType : (t : Type') (below : Values) → Values
  That : (x : PsObj) (below : Values) → Values

abbrev pub given_value : Given → Values
given_value (Called name) = Named name Bottom
given_value (Counted n) = This (Int n) Bottom
given_value (Meant word x) = This x Bottom
given_value (Loads name x) = That x Bottom

abbrev pub entry_values : Entries → Values → Values
entry_values [] vs = vs
entry_values (e ∷ es) vs = entry_values es (Under e.0 (given_value e.1) vs)

-- what a piece leaves on top of others
abbrev pub after : Piece → Values → Values
after End vs = vs
after (Number n rest) vs = after rest (This (Int n) vs)
after (Literal name rest) vs = after rest (Named name vs)
after (Chars text rest) vs = after rest (Written text vs)
after (Quote body rest) vs = after rest (Quoted body vs)
after (Value word x rest) vs = after rest (This x vs)
after (Element word place x rest) vs = after rest (This x vs)
after (Make word m parts rest) vs = after rest (Entry m (after parts Bottom) vs)
after (Row items rest) vs = after rest (Listed (after items Bottom) vs)
after (Loaded key x rest) vs = after rest (This x vs)
after (Deferred text rest) vs = after rest (Runs text vs)
after (Field name value rest) vs = after rest (Under name (after value Bottom) vs)
after (Pairs fields rest) vs = after rest (Paired (after fields Bottom) vs)
after (Typed t rest) vs = after rest (OfType t vs)
after (New room entries rest) vs = after rest (Paired (entry_values entries Bottom) vs)

-- pairs alone
abbrev pub OnlyPairs : Values → Type 0
OnlyPairs Bottom = Unit {0}
OnlyPairs (Under name value below) = OnlyPairs below
OnlyPairs other = ⊥

-- the fields that they are, the last one first
abbrev pub pairs : Values → List PsObj → Fields
pairs (Under name value below) (v ∷ key ∷ xs) = updated (pairs below xs) name v
pairs vs xs = []

-- operands are such values
abbrev pub Show : StoreState → List PsObj → Values → Type 0
Show s xs Bottom = xs ≡ []
Show s xs (This x below) = (ys : List PsObj) × (xs ≡ x ∷ ys) × IsValue x × Show s ys below
Show s xs (Named name below) = (t : StringId) × (ys : List PsObj) × (xs ≡ Name t false ∷ ys) × IsString s t name × Show s ys below
Show s xs (Written text below) = (t : StringId) × (ys : List PsObj) × (xs ≡ Str t false ∷ ys) × IsString s t text × Show s ys below
Show s xs (Quoted body below) = (a : ArrayId) × (ys : List PsObj) × (xs ≡ Array a true ∷ ys) × HasArray s a × Spells s (elements_of s a) body × Show s ys below
Show s xs (Listed items below) = (a : ArrayId) × (zs ys : List PsObj) × (xs ≡ Array a false ∷ ys) × IsArray s a (reverse zs) × Show s zs items × Show s ys below
Show s xs (Entry m parts below) =
    (d : DictId) × (zs ys : List PsObj) × (fields : Fields) × (xs ≡ Dict d ∷ ys) × HasFields s d fields × MadeBy s m zs fields × IsOpen s d × Show s zs parts × Show s ys below
Show s xs (Runs text below) = (t : StringId) × (ys : List PsObj) × (xs ≡ Str t true ∷ ys) × IsString s t text × Show s ys below
Show s xs (Under name value below) =
    (v : PsObj) × (t : StringId) × (ys : List PsObj) × (xs ≡ v ∷ Name t false ∷ ys) × IsString s t name × (length name ≤ 127) × Show s (v ∷ []) value × Show s ys below
Show s xs (OfType t below) = (x : PsObj) × (ys : List PsObj) × (xs ≡ x ∷ ys) × IsType s x t × Show s ys below
Show s xs (That x below) = (ys : List PsObj) × (xs ≡ x ∷ ys) × IsNoMark x × Show s ys below
Show s xs (Paired items below) = (d : DictId) × (zs ys : List PsObj) × (xs ≡ Dict d ∷ ys) × HasFields s d (pairs items zs) × Show s zs items × Show s ys below

-- A part of a text is executed: in so many steps, with at most so many units made, these values come on top of operands, and the text goes on behind it.
pub record Performs (cost steps : ℕ) (vs : Values) (s : StoreState) (ds : List DictId) (from o : List PsObj) (t : StringId) (at : ℕ) (rest : List ℕ) (under : List Item) : Type 0 where
  pub store : StoreState
  pub operands : List PsObj
  pub to : ℕ
  pub later : Later cost s store
  pub shows : Show store operands vs
  pub stands : StandsAt store t to rest
  pub takes : Takes steps (core s ds from (TextItem t at ∷ under)) (core store ds (operands ++ o) (TextItem t to ∷ under))
