-- The first key and value of a list.
use Rattle.std.proofs.Common.{◌≡◌, ℕ, ◌≤◌, Option, Some, None, Ok, List, [], ◌∷◌, length, drop, slice_get, refl, arith}
use Rattle.ps_store.specs.declared.object.PsObj.{PsObj}
use Rattle.ps_store.specs.declared.object.DictId.{DictId}
use Rattle.ps_store.specs.StoreState.{StoreState}
use Rattle.ps_step.specs.Composites.{putting_objects, putting_first}

pub pair_first : (s : StoreState) (d : DictId) (xs : List PsObj) (x y : PsObj) → slice_get xs 0 ≡ Some x → slice_get xs 1 ≡ Some y
    → putting_objects s d xs ≡ putting_first s d x y (drop 2 xs)
pair_first s d [] x y h k = cc
pair_first s d (a ∷ []) x y h k = cc
pair_first s d (a ∷ b ∷ rest) x y h k =
    let ea : a ≡ x = cc in
    let eb : b ≡ y = cc in
    rw (← ea, ← eb) refl

pub no_pair : (s : StoreState) (d : DictId) (xs : List PsObj) → slice_get xs 1 ≡ None → putting_objects s d xs ≡ Ok s
no_pair s d [] h = refl
no_pair s d (a ∷ []) h = refl
no_pair s d (a ∷ b ∷ rest) h = cc
