-- `eval` and `assign` on one side.
use Rattle.std.specs.Prelude.{◌≡◌, ◌≢◌, is_some, ℕ, Bool, true, false, List, [], ◌∷◌, ◌++◌, codes, Some, Result, Ok, Err}
use Rattle.std.specs.List.{list_any, AllByRecursion}
use Rattle.ldb_words.specs.declared.kinds.Undef.TheVariants as undef
use Rattle.c_tree.specs.declared.typed.Typed.{Typed}
use Rattle.c_tree.specs.Types.{type_of}
use Rattle.c_tree.specs.Layout.{leaves_of}
use Rattle.ps_store.specs.declared.key.Key.{Key}
use Rattle.ps_store.specs.declared.key.Key.TheVariants.{Name as NameKey}
use Rattle.ps_store.specs.StoreState.{StoreState}
use Rattle.ps_store.specs.Store.{entries_of}
use Rattle.ps_store.specs.Operators.{operator_number}
use Rattle.ps_step.specs.declared.fault.PsError.{PsError}
use Rattle.ps_step.specs.declared.fault.PsError.TheVariants as ps
use Rattle.ps_step.specs.declared.machine.PsCore.{PsCore}
use Rattle.frame_bytes.specs.Bytes.{Bytes}
use Rattle.dialect_model.specs.Forcing.{ForcesUnit, idle}
use Rattle.dialect_model.specs.TableUse.{TableUse, with_store, Trouble, Refused, Kind, Spent, Wanting, gives, ◌>>=◌}
use Rattle.dialect_model.specs.Near.{slackened}
use Rattle.c_reading.specs.Readings.{AsValue, AsAssignment}
use Rattle.c_session.specs.Commands.{IsUndefined}
use Rattle.c_bytes.specs.Lvalues.{Cause, Reason, Disturbed, IllTyped, Means, Scene, Lvalue, bytes_with}
use Rattle.c_bytes.specs.Evaluation.{assignment, leavings, stored_all}
use Rattle.c_bytes.specs.Shown.{text_of}
use Rattle.claims.specs.Side.{SideState, Change, OnSide, Troubled, with_memory}
use Rattle.claims.specs.Reading.{reading}

-- ---- the dialect's four errors are refusals, whichever procedure raised them

abbrev pub reasoned : PsError → Troubled
reasoned ps.Overflow = Refused (IsUndefined undef.Overflow)
reasoned ps.Division = Refused (IsUndefined undef.Division)
reasoned ps.Shift = Refused (IsUndefined undef.Shift)
reasoned ps.Pointer = Refused (IsUndefined undef.Pointer)
reasoned e = Kind e

abbrev with_reason : {A : Type 0} → Result A Troubled → Result A Troubled
with_reason (Ok x) = Ok x
with_reason (Err (Kind e)) = Err (reasoned e)
with_reason (Err e) = Err e

abbrev pub reasoning : {A : Type 0} → OnSide A → OnSide A
reasoning m t r t' = (r₁ : _) × m t r₁ t' × (r ≡ with_reason r₁)

-- ---- what an evaluation comes to

-- what may come where no text can mean the tree: any refusal or error, and of results these
abbrev pub Freely : {A : Type 0} → (A → Type 0) → Result A Troubled → Type 0
Freely free (Ok x) = free x
Freely free (Err e) = Unit {0}

abbrev pub Tells : {A : Type 0} → (A → Type 0) → Result A (Trouble Cause) → Result A Troubled → Type 0
Tells free (Ok x) r = r ≡ Ok x
Tells free (Err (Refused (Reason u))) r = r ≡ Err (Refused (IsUndefined u))
Tells free (Err (Refused Disturbed)) r = Freely free r
Tells free (Err (Refused IllTyped)) r = ⊥
Tells free (Err (Kind e)) r = r ≡ Err (Kind e)
Tells free (Err Spent) r = r ≡ Err Spent
Tells free (Err Wanting) r = r ≡ Err Wanting

-- A table is disturbed too where a base dictionary gives an operator's name a meaning of its own.
abbrev is_operator : Key → Bool
is_operator (NameKey text) = is_some (operator_number text)
is_operator key = false

abbrev pub is_disturbed : StoreState → Bool
is_disturbed s = list_any (λ d. list_any (λ e. is_operator e.0) (entries_of s d)) s.base

abbrev TellsIn : {A : Type 0} → Bool → (A → Type 0) → Result A (Trouble Cause) → Result A Troubled → Type 0
TellsIn true free result r = Freely free r
TellsIn false free result r = Tells free result r

-- a table in which the functions of some more units were run
pub data HasRun : StoreState → StoreState → Type 0 where
  no_more : {s : StoreState} → HasRun s s
  one_more : {s s' : StoreState} {u n m : ℕ} {c : PsCore} → ForcesUnit u (idle s) n (Ok tt) m c → HasRun c.store s' → HasRun s s'

-- where no text can mean the tree, the functions of any units may have been run, and any steps be left
abbrev UsesFreely : TableUse → TableUse → Type 0
UsesFreely t t' = (s : StoreState) × (left : ℕ) × HasRun t.store s × (t' ≡ with_store t s left)

-- the use of the table behind an evaluation, by that behind the tree's
abbrev Uses : {A : Type 0} → Bool → Result A (Trouble Cause) → (t tree_after t' : TableUse) → Type 0
Uses true result t u t' = UsesFreely t t'
Uses false (Err (Refused Disturbed)) t u t' = UsesFreely t t'
Uses false result t u t' = t' ≡ u

abbrev pub told_by : {A : Type 0} → (free : A → Type 0) → Means A → OnSide A
told_by free m t r t' = (result : _) × (u : TableUse) × m t result u × TellsIn (is_disturbed t.store) free result r × Uses (is_disturbed t.store) result t u t'

-- any text of one line
abbrev pub AnyText : List ℕ → Type 0
AnyText text = AllByRecursion (λ c. c ≢ 10) text

-- any numbers in the leaves of some one place of the type of the left side
abbrev pub AnyLeaves : Scene → Typed → Bytes → Type 0
AnyLeaves sc e b = (to : Lvalue) × (vs : List ℕ) × (stored_all sc (leavings sc to (leaves_of sc.defs (type_of e)) vs) (bytes_with sc 0) ≡ Some b)

-- ---- the commands

abbrev pub evaluating : SideState → List ℕ → OnSide Change
evaluating a text = reasoning (slackened (do
  e ← reading AsValue a text
  shown ← told_by AnyText (text_of e.scene e.tree)
  gives (record { lines = (codes "value " ++ shown) ∷ []; side = a })))

-- all leaves are stored once nothing can fail any more
abbrev pub assigning : SideState → List ℕ → OnSide Change
assigning a text = reasoning (slackened (do
  e ← reading AsAssignment a text
  b ← told_by (AnyLeaves e.scene e.tree) (assignment e.scene e.tree)
  gives (record { lines = codes "set" ∷ []; side = with_memory b.regions a })))
