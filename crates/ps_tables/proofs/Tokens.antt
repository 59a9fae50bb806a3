-- What the objects of a text do.
use Rattle.std.proofs.Common.{◌≡◌, ℕ, ℤ, ◌+◌, ◌<◌, ◌≤◌, true, false, Some, List, [], ◌∷◌, ◌++◌, length, drop, zero, suc, refl, sym, ap, ◌∙◌, subst, arith}
use Rattle.ps_store.specs.declared.object.PsObj.{PsObj}
use Rattle.ps_store.specs.declared.object.PsObj.TheVariants.{Int, Bool as Truth, Name, Str, Array, Dict, Op, Mark, Null}
use Rattle.ps_store.specs.declared.object.DictId.{DictId}
use Rattle.ps_store.specs.declared.object.StringId.{StringId}
use Rattle.ps_store.specs.StoreState.{StoreState}
use Rattle.ps_step.specs.declared.item.Item.{Item}
use Rattle.ps_step.specs.declared.item.Item.TheVariants.{Text as TextItem}
use Rattle.ps_step.specs.declared.machine.PsCore.{PsCore}
use Rattle.ps_step.specs.Results.{at as at_state}
use Rattle.ps_step.specs.State.{pushing}
use Rattle.ps_step.specs.Executing.{alone, acting, meeting}
use Rattle.ps_step.specs.Keys.{named}
use Rattle.ps_run.specs.Step.{Next, settled, step}
use Rattle.ps_text.specs.Code.{Code, Stop, Num, Word, Lit, Text, Proc, render}
use Rattle.ps_text.specs.Spells.{Spells, Fine, units}
use Rattle.ps_text.specs.Reading.{first, behind, IsMore, space}
use Rattle.ps_text.proofs.Growing.{string_kept}
use Rattle.ps_terms.specs.Stands.{core}
use Rattle.ps_terms.proofs.Sound.{push_next, name_acts}
use Rattle.ps_tables.specs.Executed.{Executes}
use Rattle.ps_tables.specs.Making.{AreThere}
use Rattle.ps_tables.specs.Later.{Later, StandsAt}
use Rattle.ps_tables.specs.Pieces.{IsValue, Gives, itself, truth, falsehood, nothing}
use Rattle.ps_tables.proofs.Texts.{executes}
use Rattle.ps_tables.proofs.Stores.{later_grown, named_later}

value_acts : (x : PsObj) (c : PsCore) → IsValue x → acting x c ≡ alone (at_state c (pushing x c))
value_acts (Int i) c h = refl
value_acts (Truth b) c h = refl
value_acts (Name t true) c h = absurd h
value_acts (Name t false) c h = refl
value_acts (Str t true) c h = absurd h
value_acts (Str t false) c h = refl
value_acts (Array a true) c h = absurd h
value_acts (Array a false) c h = refl
value_acts (Dict d) c h = refl
value_acts (Op n) c h = absurd h
value_acts Mark c h = absurd h
value_acts Null c h = refl

pub gives_acts : (y x : PsObj) (c : PsCore) → Gives y x → acting y c ≡ alone (at_state c (pushing x c))
gives_acts _ _ c (itself x h) = value_acts x c h
gives_acts _ _ c truth = refl
gives_acts _ _ c falsehood = refl
gives_acts _ _ c nothing = refl

pub head_is : (x y : PsObj) (ys : List PsObj) → x ∷ [] ≡ y ∷ ys → x ≡ y
head_is x y ys e = cc

pub gives_value : (y x : PsObj) → Gives y x → IsValue x
gives_value _ _ (itself x h) = h
gives_value _ _ truth = tt
gives_value _ _ falsehood = tt
gives_value _ _ nothing = tt

-- ---- the first object of a text

drop_within : (n : ℕ) (xs : List ℕ) (y : ℕ) (ys : List ℕ) → drop n xs ≡ y ∷ ys → n ≤ length xs
drop_within zero xs y ys h = omega arith
drop_within (suc n) [] y ys h = absurd cc
drop_within (suc n) (x ∷ xs) y ys h = let e = drop_within n xs y ys h in omega arith

module _ (s : StoreState) (ds : List DictId) (xs : List PsObj) (t : StringId) (at : ℕ) (under : List Item) where
  -- it is met
  pub record Met (k : Code) (post : List ℕ) : Type 0 where
    pub object : PsObj
    pub store : StoreState
    pub to : ℕ
    pub later : Later (units (first k)) s store
    pub spells : Spells store (object ∷ []) (first k)
    pub stands : StandsAt store t to (render (behind k) ++ post)
    pub steps : step (core s ds xs (TextItem t at ∷ under)) ≡ settled (meeting object (core store ds xs (TextItem t to ∷ under)))

  pub meets : (k : Code) (post : List ℕ) → IsMore k → Fine (first k) → StandsAt s t at (render k ++ post) → s.table.units + s.command.units + units (first k) ≤ 8000000 → Met k post
  meets k post some fine h room =
      let e : Executes k post h.text (core s ds xs (TextItem t at ∷ under)) t at under =
      executes (core s ds xs (TextItem t at ∷ under)) t at under post h.text h.lead k h.is_lead h.is some fine h.here room refl in
      record {
        object = e.object;
        store = e.store;
        to = e.to;
        later = later_grown (units (first k)) s e.store e.grown;
        spells = e.spells;
        stands = record { text = h.text; lead = 32 ∷ []; is_lead = space; is = string_kept (units (first k)) s e.store t h.text e.grown h.is; here = e.rest; within = drop_within e.to h.text 32 _ e.rest };
        steps = e.steps;
      }

  -- it is pushed
  pub record Pushed (x : PsObj) (cost : ℕ) (rest : List ℕ) : Type 0 where
    pub store : StoreState
    pub to : ℕ
    pub later : Later cost s store
    pub stands : StandsAt store t to rest
    pub steps : step (core s ds xs (TextItem t at ∷ under)) ≡ Next (core store ds (x ∷ xs) (TextItem t to ∷ under))

  -- an object that is met and is pushed
  abbrev pub Stays : PsObj → Type 0
  Stays x = (c : PsCore) → meeting x c ≡ alone (at_state c (pushing x c))

  pub met_step : (k : Code) (post : List ℕ) (m : Met k post) (x : PsObj) → m.object ≡ x → length xs + 110 ≤ 100000 → Stays x
      → step (core s ds xs (TextItem t at ∷ under)) ≡ Next (core m.store ds (x ∷ xs) (TextItem t m.to ∷ under))
  met_step k post m x same room stays =
      let c : PsCore = core m.store ds xs (TextItem t m.to ∷ under) in
      m.steps ∙ ap (λ (y : PsObj). settled (meeting y c)) same ∙ ap settled (stays c) ∙ push_next x c (omega arith)

  -- it is a word, whose meaning acts
  pub record Acted (x : PsObj) (cost : ℕ) (rest : List ℕ) : Type 0 where
    pub store : StoreState
    pub to : ℕ
    pub later : Later cost s store
    pub stands : StandsAt store t to rest
    pub steps : step (core s ds xs (TextItem t at ∷ under)) ≡ settled (acting x (core store ds xs (TextItem t to ∷ under)))

  pub word_acts : (word : List ℕ) (k : Code) (post : List ℕ) (x : PsObj) → Fine (Word word Stop) → named s ds word ≡ Some x → AreThere s ds → StandsAt s t at (render (Word word k) ++ post)
      → s.table.units + s.command.units + units (Word word Stop) ≤ 8000000 → Acted x (units (Word word Stop)) (render k ++ post)
  word_acts word k post x fine means there h room =
      let m : Met (Word word k) post = meets (Word word k) post tt fine h room in
      let sp = m.spells in
      let c : PsCore = core m.store ds xs (TextItem t m.to ∷ under) in
      record {
        store = m.store;
        to = m.to;
        later = m.later;
        stands = m.stands;
        steps = m.steps ∙ ap (λ (y : PsObj). settled (meeting y c)) (head_is m.object (Name sp.0 true) sp.1 sp.2)
            ∙ ap settled (name_acts m.store ds xs (TextItem t m.to ∷ under) sp.0 word x sp.3.bytes (named_later (units (Word word Stop)) s m.store m.later ds word there ∙ means));
      }

  pub word_pushes : (word : List ℕ) (k : Code) (post : List ℕ) (y x : PsObj) → Fine (Word word Stop) → named s ds word ≡ Some y → Gives y x → AreThere s ds → StandsAt s t at (render (Word word k) ++ post)
      → s.table.units + s.command.units + units (Word word Stop) ≤ 8000000 → length xs + 110 ≤ 100000 → Pushed x (units (Word word Stop)) (render k ++ post)
  word_pushes word k post y x fine means gives there h room stack =
      let a : Acted y (units (Word word Stop)) (render k ++ post) = word_acts word k post y fine means there h room in
      let c : PsCore = core a.store ds xs (TextItem t a.to ∷ under) in
      record { store = a.store; to = a.to; later = a.later; stands = a.stands; steps = a.steps ∙ ap settled (gives_acts y x c gives) ∙ push_next x c (omega arith) }

  pub number_pushes : (n : ℤ) (k : Code) (post : List ℕ) → Fine (Num n Stop) → StandsAt s t at (render (Num n k) ++ post) → s.table.units + s.command.units ≤ 8000000 → length xs + 110 ≤ 100000
      → Pushed (Int n) 0 (render k ++ post)
  number_pushes n k post fine h room stack =
      let m : Met (Num n k) post = meets (Num n k) post tt fine h (omega arith) in
      record { store = m.store; to = m.to; later = m.later; stands = m.stands; steps = met_step (Num n k) post m (Int n) (head_is m.object (Int n) m.spells.0 m.spells.1) stack (λ c. refl) }
