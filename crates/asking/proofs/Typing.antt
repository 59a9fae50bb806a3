-- The type of a variable, by what its walk found.
use Rattle.std.proofs.Common.{◌≡◌, ◌∙◌, refl, ap, ℕ, zero, suc, Bool, true, false, codes, Result, Ok, Err}
use Rattle.ps_store.specs.declared.object.DictId.{DictId}
use Rattle.ps_store.specs.StoreState.{StoreState}
use Rattle.ps_step.specs.Results as results
use Rattle.table_model.specs.declared.lack.Lack.{Lack}
use Rattle.table_model.specs.declared.lack.Lack.TheVariants as lack
use Rattle.table_model.specs.Reading.{Walked, dict_at}
use Rattle.table_model.specs.Symbols.{is_function}
use Rattle.table_model.specs.Types.{is_within}
use Rattle.dialect_model.specs.TableUse.{Refused as RefusedFor, Spent as StepsSpent}
use Rattle.dialect_model.specs.TableUse.{TableUse, Trouble, Kind, Wanting, Eval, Looks, told, lacks, wanting, ◌>>=◌}
use Rattle.table_asks.specs.declared.fault.Cause.{Cause}
use Rattle.table_asks.specs.declared.fault.Cause.TheVariants.{BadType}
use Rattle.table_asks.specs.declared.fault.AskFault.{AskFault}
use Rattle.table_asks.specs.declared.fault.AskFault.TheVariants.{Refused, Raised, Spent, NoMemory, Broken}
use Rattle.table_asks.specs.declared.inquiry.Inquiry.{Inquiry}
use Rattle.table_asks.specs.Asking.{used_by, Comes}
use Rattle.table_asks.specs.Faults.{raised}
use Rattle.table_asks.proofs.Fair.{LacksOnly}
use Rattle.table_asks.proofs.Binding.{behind_fault}
use Rattle.asking.specs.Printing.{FoundWithin, unless_too_deep, printed_type, type_of, of_object, variable_type}
use Rattle.asking.proofs.Lacking.{IsTold, function_told, type_told}

-- ---- a query for which no unit is run

module _ {A : Type 0} (q : StoreState → Walked A) (i : Inquiry) where
  query_told : (x : A) → q i.core.store ≡ Ok x → Comes (Looks q) i (Ok x) i
  query_told x e = λ t. told e

  query_lacks : (l : Lack) → LacksOnly IsTold (q i.core.store) → q i.core.store ≡ Err l → Comes (Looks q) i (Err (raised l)) i
  query_lacks l h e = λ t. lacks e (h.lacks l e)

  query_wants : Comes (Looks q) i (Err NoMemory) i
  query_wants = λ t. record { use_after = used_by i t; comes = wanting; closed = refl }

-- ---- the type

pub not_deep : (t : DictId) (l : Lack) → (l ≡ lack.TooDeep → ⊥) → unless_too_deep t (Err l) ≡ Ok t
not_deep t lack.TooDeep other = absurd (other refl)
not_deep t l other = refl

printed_is : (s : StoreState) (t : DictId) → printed_type s t ≡ unless_too_deep t (is_within s 64 t)
unfolding printed_type
printed_is s t = refl

found_some : (left : ℕ) (within : Walked (Unit {0})) → (left ≡ 0 → ⊥) → FoundWithin (Ok left) within → within ≡ Ok tt
found_some zero within some h = absurd (some refl)
found_some (suc n) within some h = h

module _ (i : Inquiry) (x : DictId) where
  abbrev asked : StoreState → Walked DictId
  asked s = results.◌>>=◌ (dict_at s x (codes "type")) (printed_type s)

  pub no_type : (l : Lack) → dict_at i.core.store x (codes "type") ≡ Err l → Comes (type_of x) i (Err (raised l)) i
  no_type l e = query_lacks asked i l (type_told i.core.store x) (ap (λ w. results.◌>>=◌ w (printed_type i.core.store)) e)

  pub type_unwalked : Comes (type_of x) i (Err NoMemory) i
  type_unwalked = query_wants asked i

  module _ (t : DictId) (is : dict_at i.core.store x (codes "type") ≡ Ok t) where
    type_by : (within : Walked (Unit {0})) (w : Walked DictId) → is_within i.core.store 64 t ≡ within → unless_too_deep t within ≡ w → asked i.core.store ≡ w
    type_by within w h e = ap (λ w. results.◌>>=◌ w (printed_type i.core.store)) is ∙ (printed_is i.core.store t ∙ (ap (unless_too_deep t) h ∙ e))

    pub type_lacks : (l l' : Lack) → is_within i.core.store 64 t ≡ Err l → unless_too_deep t (Err l) ≡ Err l' → Comes (type_of x) i (Err (raised l')) i
    type_lacks l l' h e = query_lacks asked i l' (type_told i.core.store x) (type_by (Err l) (Err l') h e)

    pub type_is : (l : Lack) (t' : DictId) → is_within i.core.store 64 t ≡ Err l → unless_too_deep t (Err l) ≡ Ok t' → Comes (type_of x) i (Ok t') i
    type_is l t' h e = query_told asked i t' (type_by (Err l) (Ok t') h e)

    pub type_walked : (left : ℕ) → (left ≡ 0 → ⊥) → FoundWithin (Ok left) (is_within i.core.store 64 t) → Comes (type_of x) i (Ok t) i
    type_walked left some h = query_told asked i t (type_by (Ok tt) (Ok t) (found_some left (is_within i.core.store 64 t) some h) refl)

  -- ---- a variable's

  abbrev behind_kind : Bool → Eval Cause DictId
  behind_kind function = of_object function >>= λ v. type_of x

  pub no_kind : (l : Lack) → is_function i.core.store x ≡ Err l → Comes (variable_type x) i (Err (raised l)) i
  no_kind l e = behind_fault (Looks (λ s. is_function s x)) behind_kind i i (raised l) (query_lacks (λ s. is_function s x) i l (function_told i.core.store x) e)

  pub is_of_function : is_function i.core.store x ≡ Ok true → Comes (variable_type x) i (Err (Refused BadType)) i
  is_of_function e t = (Ok true, used_by i t, told e, (Err (RefusedFor BadType), used_by i t, (refl, refl), (refl, refl)))

  module _ (e : is_function i.core.store x ≡ Ok false) where
    behind_function : (t : TableUse) (r : Result DictId (Trouble Cause)) (t' : TableUse) → type_of x (used_by i t) r t' → variable_type x (used_by i t) r t'
    behind_function t r t' h = (Ok false, used_by i t, told e, (Ok tt, used_by i t, (refl, refl), h))

    pub of_variable : (r : Result DictId AskFault) → Comes (type_of x) i r i → Comes (variable_type x) i r i
    of_variable (Ok y) h = λ t. behind_function t (Ok y) (used_by i t) (h t)
    of_variable (Err (Refused cause)) h = λ t. behind_function t (Err (RefusedFor cause)) (used_by i t) (h t)
    of_variable (Err (Raised f)) h = λ t. behind_function t (Err (Kind f)) (used_by i t) (h t)
    of_variable (Err Spent) h = λ t. behind_function t (Err StepsSpent) (used_by i t) (h t)
    of_variable (Err NoMemory) h = λ t. let w = h t in record { use_after = w.use_after; comes = behind_function t (Err Wanting) w.use_after w.comes; closed = w.closed }
    of_variable (Err (Broken f)) h = λ t. absurd (h t)
