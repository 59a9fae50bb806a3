-- Steps at the end of a `stopped`, and where nothing is left.
use Rattle.std.proofs.Common.{◌≡◌, ◌≤◌, Bool, true, false, nat_lt, if◌then◌else◌, Some, None, List, [], ◌∷◌, length, drop, slice_get, refl, ap, ◌∙◌}
use Rattle.std.proofs.lemmas.Bool.{le-ltb}
use Rattle.ps_step.specs.declared.item.Item.{Item}
use Rattle.ps_step.specs.declared.item.Item.TheVariants.{Stopped}
use Rattle.ps_step.specs.declared.fault.PsError.TheVariants.{StackOverflow}
use Rattle.ps_step.specs.declared.machine.PsCore.{PsCore}
use Rattle.ps_store.specs.declared.object.PsObj.TheVariants.{Bool as Truth}
use Rattle.ps_step.specs.State.{with_execution}
use Rattle.ps_run.specs.Step.{Outcome, Ended, Failed, stepping, step}

top_of : (xs : List Item) (x : Item) → slice_get xs 0 ≡ Some x → xs ≡ x ∷ drop 1 xs
top_of [] x h = cc
top_of (y ∷ ys) x h = let e : y ≡ x = cc in ap (λ z. z ∷ ys) e

bottom : (xs : List Item) → slice_get xs 0 ≡ None → xs ≡ []
bottom [] h = refl
bottom (y ∷ ys) h = cc

otherwise : (b : Bool) (x y : Outcome) → b ≡ false → (if b then x else y) ≡ y
otherwise true x y h = cc
otherwise false x y h = refl

-- no room for what a `stopped` leaves
pub full_guard : (c : PsCore) → slice_get c.execution 0 ≡ Some Stopped → 100000 ≤ length c.operands → step c ≡ Failed StackOverflow (with_execution c [])
full_guard c h le =
    let rest = drop 1 c.execution in
    let left : PsCore = record c { operands = Truth false ∷ c.operands; execution = rest } in
    ap (λ xs. stepping xs c) (top_of c.execution Stopped h)
    ∙ otherwise (nat_lt (length c.operands) 100000) (stepping rest left) (Failed StackOverflow (with_execution c [])) (le-ltb (length c.operands) 100000 le)

-- nothing is left
pub ended_at : (c : PsCore) → slice_get c.execution 0 ≡ None → step c ≡ Ended c
ended_at c h = ap (λ xs. stepping xs c) (bottom c.execution h)
