-- On the way to the tokens of sources.
use Rattle.std.specs.Prelude.{◌≡◌, ◌≤◌, ◌<◌, ℕ, ◌+◌, Bool, true, false, List, [], ◌∷◌, ◌++◌, length, map, Option, Some, None, Result, Ok, Err}
use Rattle.std.specs.Global.{Vec}
use Rattle.c_lex.specs.declared.token.Token.{Token}
use Rattle.c_file.specs.Made.{Each}
use Rattle.ldb_cc.specs.declared.fault.BuildFault.{BuildFault}
use Rattle.ldb_cc.specs.declared.fault.BuildFault.TheVariants as cause
use Rattle.ldb_cc.specs.declared.scanning.Scanned.{Scanned}
use Rattle.ldb_cc.specs.Sources.{HasTokens, IsUnlexed, IsCause, AreLexed, token_count}

abbrev pub items_of : {A : Type 0} → Vec A → List A
items_of v = v.items

-- the tokens of a text, or None where they are more than 40,000
abbrev pub IsTokensOf : ℕ → List ℕ → Result (Option (Vec Token)) BuildFault → Type 0
IsTokensOf unit text (Ok (Some ts)) = HasTokens text ts.items × (length ts.items ≤ 40000)
IsTokensOf unit text (Ok None) = (ts : List Token) × HasTokens text ts × (40000 < length ts)
IsTokensOf unit text (Err (cause.Lex u line column)) = (u ≡ unit) × IsUnlexed line column text
IsTokensOf unit text (Err cause.NoMemory) = Unit {0}
IsTokensOf unit text (Err _) = ⊥

-- so many tokens of these lists, or more than 40,000
abbrev pub IsCounted : (many : Bool) → (count : ℕ) → (kept all : List (List Token)) → Type 0
IsCounted true count kept all = 40000 < token_count all
IsCounted false count kept all = (kept ≡ all) × (count ≡ token_count all)

-- the texts so far have tokens, and these are kept or are too many
pub record AreScanned (done : List (List ℕ)) (s : Scanned) : Type 0 where
  pub all : List (List Token)
  pub tokens : Each HasTokens done all
  pub counted : IsCounted s.many s.count (map items_of s.all.items) all
  pub few : s.count ≤ 40000

-- the tokens of one text more
abbrev pub ScansMore : Bool → List Token → (old new : Scanned) → Type 0
ScansMore true ts old new = (new.many ≡ true) × (40000 < old.count + length ts)
ScansMore false ts old new = (new.many ≡ old.many) × (new.count ≡ old.count + length ts) × (map items_of new.all.items ≡ map items_of old.all.items ++ ts ∷ [])

abbrev pub Scans : List Token → (old new : Scanned) → Type 0
Scans ts old new = (b : Bool) × ScansMore b ts old new

abbrev pub ScansOf : Option (Vec Token) → (old new : Scanned) → Type 0
ScansOf (Some ts) old new = Scans ts.items old new
ScansOf None old new = new.many ≡ true

-- the tokens of all texts
abbrev pub AreTokens : (texts : List (List ℕ)) → (all : List (List Token)) → Type 0
AreTokens texts all = AreLexed texts all × (token_count all ≤ 40000)

abbrev pub AreSeen : List (List ℕ) → Result (Vec (Vec Token)) BuildFault → Type 0
AreSeen texts (Ok all) = AreTokens texts (map items_of all.items)
AreSeen texts (Err f) = IsCause texts f
