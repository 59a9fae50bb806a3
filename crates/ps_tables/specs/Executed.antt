-- What a step of a text does.
use Rattle.std.specs.Prelude.{◌≡◌, ℕ, List, [], ◌∷◌, ◌++◌, drop}
use Rattle.ps_store.specs.declared.object.PsObj.{PsObj}
use Rattle.ps_store.specs.declared.object.StringId.{StringId}
use Rattle.ps_store.specs.StoreState.{StoreState}
use Rattle.ps_step.specs.declared.item.Item.{Item}
use Rattle.ps_step.specs.declared.item.Item.TheVariants.{Text}
use Rattle.ps_step.specs.declared.machine.PsCore.{PsCore}
use Rattle.ps_step.specs.Executing.{meeting}
use Rattle.ps_run.specs.Step.{settled, step}
use Rattle.ps_text.specs.Code.{Code, render}
use Rattle.ps_text.specs.Grown.{Grown}
use Rattle.ps_text.specs.Spells.{Spells, units}
use Rattle.ps_text.specs.Reading.{first, behind}

-- The first object of a term is executed, and the text goes on behind it: nothing but the object and its parts is made.
pub record Executes (k : Code) (post text : List ℕ) (c : PsCore) (t : StringId) (at : ℕ) (under : List Item) : Type 0 where
  pub object : PsObj
  pub store : StoreState
  pub to : ℕ
  pub steps : step c ≡ settled (meeting object (record c { store = store; execution = Text t to ∷ under }))
  pub grown : Grown (units (first k)) c.store store
  pub spells : Spells store (object ∷ []) (first k)
  pub rest : drop to text ≡ 32 ∷ (render (behind k) ++ post)
