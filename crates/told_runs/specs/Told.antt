-- Runs over a memory, and the bytes that it tells.
use Rattle.std.specs.Prelude.{◌≡◌, ℕ, Bool, List, Option, Some, None}
use Rattle.machine_state.specs.Regions.{Regions}
use Rattle.abs_mem.specs.Meaning.{Seen}
use Rattle.abs_mem.specs.declared.memory.MemFault.{MemFault}
use Rattle.abs_mem.specs.declared.memory.MemFault.TheVariants.{Outside, LinkFault, BadReply}
use Rattle.ps_store.specs.declared.object.DictId.{DictId}
use Rattle.ps_store.specs.declared.object.PsObj.{PsObj}
use Rattle.ps_store.specs.StoreState.{StoreState}
use Rattle.ps_step.specs.declared.item.Item.{Item}
use Rattle.ps_step.specs.declared.machine.PsCore.{PsCore}
use Rattle.ps_run.specs.Runs.{Answer, Operates as Dialect, Runs}
use Rattle.ps_run.specs.Reaching.{Reaches}
use Rattle.ps_terms.specs.Faring.{Fares}
use Rattle.dialect_model.specs.Dial.{Dial}
use Rattle.dialect_model.specs.Operating.{Operates}
use Rattle.ps_ops.specs.Acting.{OperatesOn, LedKept}
use Rattle.ps_ops.specs.Desk.{Desk, desk_of, dial_of, memory_of}
use Rattle.ps_ops.specs.declared.dialect.Operators.{Operators}

-- what operators have beside the memory of the target
abbrev pub desk : {W : Type 0} → Operators W → Desk
desk o = desk_of o.view o.memory.below.below.order o.memory.below.cell o.out

-- no bad reply is kept
abbrev pub IsNoBadReply : Option MemFault → Type 0
IsNoBadReply (Some (BadReply frame)) = ⊥
IsNoBadReply (Some LinkFault) = Unit {0}
IsNoBadReply (Some (Outside p)) = Unit {0}
IsNoBadReply None = Unit {0}

module _ {W R : Type 0} (seen : W → Seen R) where
  -- the memory of the target, as they see it
  abbrev pub target : Operators W → Seen R
  target o = seen o.memory.below.below.below

  -- it tells these regions, and this rest
  abbrev pub Tells : Operators W → Regions → R → Type 0
  Tells o rg rest = (target o).tells (memory_of (desk o) rg) rest

  -- what one of the operators does
  abbrev pub Does : (leads : W → Option (List ℕ) → W → Type 0) → Dialect (Operators W)
  Does leads o c op left answer o' c' left' =
      (o'.view ≡ o.view)
      × OperatesOn (desk o) (target o) c op left answer (desk o') (target o') c' left' o'.fault
      × LedKept leads o.memory.below.below.below answer o'.memory.below.below.below o'.fault

  -- A run is one of the dialect, over these regions, and leaves some that are told with the same rest.
  pub record IsTold (rest : R) (regions : Regions) (left : ℕ) (o : Operators W) (c : PsCore) (answer : Answer) (left' : ℕ) (o' : Operators W) (c' : PsCore) : Type 0 where
    pub regions' : Regions
    pub tells : Tells o' regions' rest
    pub runs : Runs Operates left (dial_of (desk o) regions) c answer left' (dial_of (desk o') regions') c'

  -- A run of the dialect, over these regions, goes so far, and the target that it has there is told with the same rest.
  pub record ReachesTold (rest : R) (regions : Regions) (left : ℕ) (o : Operators W) (c : PsCore) (o' : Operators W) : Type 0 where
    pub regions' : Regions
    pub left' : ℕ
    pub dial : Dial
    pub core : PsCore
    pub tells : Tells o' regions' rest
    pub reaches : Reaches Operates left (dial_of (desk o) regions) c left' dial core
    pub target : (dial_of (desk o') regions').target ≡ dial.target

  -- It fares as a run of the dialect does, and leaves regions that are told with the same rest.
  pub record FaresTold (needs : Dial → PsCore → ℕ → Bool) (first : StoreState) (rest : R) (ds : List DictId) (left : ℕ) (dial : Dial) (operands : List PsObj) (items : List Item) (answer : Answer) (left' : ℕ) (o' : Operators W) (c' : PsCore) : Type 0 where
    pub regions' : Regions
    pub tells : Tells o' regions' rest
    pub fares : Fares Operates needs first ds left dial operands items answer left' (dial_of (desk o') regions') c'
