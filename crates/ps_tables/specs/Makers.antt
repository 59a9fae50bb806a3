-- Words that make a dictionary of operands.
use Rattle.std.specs.Prelude.{◌≡◌, ℕ, suc, ◌+◌, ◌≤◌, false, Some, List, [], ◌∷◌, ◌++◌, length, codes}
use Rattle.ps_store.specs.declared.object.PsObj.{PsObj}
use Rattle.ps_store.specs.declared.object.PsObj.TheVariants.{Dict, Name}
use Rattle.ps_store.specs.declared.object.DictId.{DictId}
use Rattle.ps_store.specs.declared.object.StringId.{StringId}
use Rattle.ps_store.specs.StoreState.{StoreState}
use Rattle.ps_step.specs.Keys.{named}
use Rattle.ps_step.specs.declared.item.Item.{Item}
use Rattle.ps_text.specs.Code.{Code, Stop, Lit, Word}
use Rattle.ps_text.specs.Grown.{IsString}
use Rattle.ps_terms.specs.Machine.{Does}
use Rattle.ps_terms.specs.Stands.{Means}
use Rattle.ps_terms.specs.Printing.{further}
use Rattle.ps_tables.specs.Dictionaries.{Fields, updated, filled, joined}
use Rattle.ps_tables.specs.Making.{taking, making, begun_as, sharing, taking_steps, HasFields, AreShort, Makes}

-- What a word makes: a dictionary of operands under these keys, the topmost operand first; the same in a copy of the dictionary that a word stands
-- for; the same, and one more operand under two keys; what another word makes, and more operands; or that, and a literal name under a key.
pub data Maker : Type 0 where
  Fresh : (room : ℕ) (keys : List (List ℕ)) → Maker
  Begun : (word : List ℕ) (dict : DictId) (fields : Fields) (room : ℕ) (keys : List (List ℕ)) → Maker
  Twice : (word : List ℕ) (dict : DictId) (fields : Fields) (room : ℕ) (keys : List (List ℕ)) (first second : List ℕ) → Maker
  More : (word : List ℕ) (m : Maker) (keys : List (List ℕ)) → Maker
  Told : (word : List ℕ) (m : Maker) (key name : List ℕ) → Maker

-- a literal name becomes the value of a key
abbrev pub telling : List ℕ → List ℕ → Code → Code
telling key name rest = Word (codes "dup") (Lit key (Lit name (Word (codes "put") rest)))

-- the word's procedure
abbrev pub body : Maker → Code
body (Fresh room keys) = making room keys
body (Begun word dict fields room keys) = begun_as word room keys Stop
body (Twice word dict fields room keys first second) = begun_as word room keys (sharing first (taking (second ∷ []) Stop))
body (More word m keys) = Word word (taking keys Stop)
body (Told word m key name) = Word word (telling key name Stop)

-- the steps that its procedure takes
abbrev pub making_steps : Maker → ℕ
making_steps (Fresh room keys) = further 2 (taking_steps keys 0)
making_steps (Begun word dict fields room keys) = further 4 (taking_steps keys 0)
making_steps (Twice word dict fields room keys first second) = further 4 (further (taking_steps keys 0) 11)
making_steps (More word m keys) = suc (further (making_steps m) (taking_steps keys 0))
making_steps (Told word m key name) = suc (further (making_steps m) 4)

-- how many operands it takes
abbrev pub taken_by : Maker → ℕ
taken_by (Fresh room keys) = length keys
taken_by (Begun word dict fields room keys) = length keys
taken_by (Twice word dict fields room keys first second) = suc (length keys)
taken_by (More word m keys) = taken_by m + length keys
taken_by (Told word m key name) = taken_by m

-- how many pairs there are at most
abbrev pub most : Maker → ℕ
most (Fresh room keys) = length keys
most (Begun word dict fields room keys) = length fields + length keys
most (Twice word dict fields room keys first second) = length fields + length keys + 2
most (More word m keys) = most m + length keys
most (Told word m key name) = most m + 1

-- how many words call one another
abbrev pub calls : Maker → ℕ
calls (More word m keys) = suc (calls m)
calls (Told word m key name) = suc (calls m)
calls other = 0

-- what has to be known of the words that its procedure uses, beside the operators
abbrev pub Ready : StoreState → List DictId → Maker → Type 0
Ready s ds (Fresh room keys) = AreShort keys × (length keys ≤ 90)
Ready s ds (Begun word dict fields room keys) = (named s ds word ≡ Some (Dict dict)) × HasFields s dict fields × AreShort keys × (length fields + length keys ≤ 90)
Ready s ds (Twice word dict fields room keys first second) =
    (named s ds word ≡ Some (Dict dict)) × HasFields s dict fields × AreShort (first ∷ second ∷ keys) × (length fields + length keys ≤ 90)
Ready s ds (More word m keys) = Means s ds word (Does (body m)) × Ready s ds m × AreShort keys × (most m + length keys ≤ 90)
Ready s ds (Told word m key name) = Means s ds word (Does (body m)) × Ready s ds m × (length key ≤ 127) × (most m ≤ 90)

-- these are the fields that it makes of the operands
abbrev pub MadeBy : StoreState → Maker → List PsObj → Fields → Type 0
MadeBy s (Fresh room keys) vs fields = fields ≡ filled [] keys vs
MadeBy s (Begun word dict begun room keys) vs fields = fields ≡ filled (joined [] begun) keys vs
MadeBy s (Twice word dict begun room keys first second) vs fields =
    (us : List PsObj) × (v : PsObj) × (vs ≡ us ++ v ∷ []) × (fields ≡ updated (updated (filled (joined [] begun) keys us) first v) second v)
MadeBy s (More word m keys) vs fields = (us ws : List PsObj) × (inner : Fields) × (vs ≡ us ++ ws) × MadeBy s m us inner × (fields ≡ filled inner keys ws) × (length us ≡ taken_by m)
MadeBy s (Told word m key name) vs fields = (inner : Fields) × (t : StringId) × IsString s t name × MadeBy s m vs inner × (fields ≡ updated inner key (Name t false))

-- the operands of a word make way for its dictionary
pub record Leaves (s : StoreState) (ds : List DictId) (m : Maker) (vs o : List PsObj) (items under : List Item) : Type 0 where
  pub fields : Fields
  pub are : MadeBy s m vs fields
  pub makes : Makes (making_steps m) s ds fields (vs ++ o) items o under
