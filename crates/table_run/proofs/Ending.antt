-- What a table's text comes to.
use Rattle.std.proofs.Common.{◌≡◌, ◌≢◌, ◌∙◌, refl, sym, ap, subst, ℕ, Bool, true, false, nat_eq, ◌&&◌, List, [], ◌∷◌, length, Option, Some, None, Result, Ok, Err, if◌then◌else◌}
use Rattle.ps_store.specs.declared.fault.StoreFault.{StoreFault}
use Rattle.ps_store.specs.declared.fault.StoreFault.TheVariants as store_fault
use Rattle.ps_store.specs.declared.object.DictId.{DictId}
use Rattle.ps_store.specs.declared.object.StringId.{StringId}
use Rattle.ps_store.specs.declared.key.Key.{Key}
use Rattle.ps_store.specs.declared.object.Pair.{Pair}
use Rattle.ps_store.specs.declared.object.PsObj.{PsObj}
use Rattle.ps_store.specs.declared.object.PsObj.TheVariants.{Str}
use Rattle.std.proofs.Common.{arith}
use Rattle.std.proofs.lemmas.Bool.{eqb-true, false≢true}
use Rattle.ps_store.specs.Cut.{mark_of}
use Rattle.ps_store.specs.Held.{Held}
use Rattle.ps_store.specs.StoreState.{StoreState}
use Rattle.ps_store.specs.Store.{Given, making_string, Does}
use Rattle.ps_step.specs.declared.fault.PsFault.{PsFault}
use Rattle.ps_step.specs.declared.fault.PsFault.TheVariants as ps
use Rattle.ps_step.specs.declared.machine.PsCore.{PsCore}
use Rattle.ps_step.specs.Results.{fault_of}
use Rattle.ps_run.specs.Runs.{Answer, RunsObject}
use Rattle.ps_print.specs.Loaded.{loaded}
use Rattle.dialect_model.specs.Forcing.{NoTarget}
use Rattle.ps_bare.specs.Bare.{bare}
use Rattle.ps_bare.specs.declared.dialect.NoTarget.{NoTarget as Bare}
use Rattle.ps_bare.proofs.Units.{Op', dial_of, object_over}
use Rattle.table_run.specs.declared.run.TheConstants.{MOST_STEPS}
use Rattle.table_run.specs.declared.run.TableFault.{TableFault}
use Rattle.table_run.specs.declared.run.TableFault.TheVariants.{Shape, NoMemory}
use Rattle.table_run.specs.Shape.{has_entries, is_unused, is_table, no_objects, HasShape}
use Rattle.table_run.specs.Tables.{runs_made, RunsText, why, left_by, closed_with, table_with, table_in, IsTableOf}

abbrev ends : PsFault → Answer
ends f = Err f

-- ---- its run

-- a text for which there is room
pub made_runs : (start : PsCore) (text : List ℕ) (t : StringId) (s : StoreState) (r : Answer) (left : ℕ) (d d' : Bare) (c : PsCore) → d.cell ≡ 0 → making_string start.store text ≡ Ok (t, s)
    → RunsObject Op' MOST_STEPS (Str t true) d (record start { store = s }) r left d' c → RunsText start text r c
made_runs start text t s r left d d' c none made runs =
    subst (λ (g : Given StringId). runs_made start g r c) (sym made) (record {
      left = left;
      dial = dial_of d';
      runs = subst (λ (n : ℕ). RunsObject NoTarget MOST_STEPS (Str t true) (bare n) (record start { store = s }) r left (dial_of d') c) none (object_over MOST_STEPS (Str t true) d (record start { store = s }) r left d' c runs);
    })

-- one for which there is none
pub not_made : (start c : PsCore) (text : List ℕ) (s : StoreState) (f : StoreFault) (e : PsFault) → e ≡ fault_of f → Does {X = StringId} (Err f) start.store s (making_string start.store text) → ends e ≢ ends ps.NoMemory
    → RunsText start text (Err e) c
not_made start c text s store_fault.Limit e is h some = subst (λ (g : Given StringId). runs_made start g (Err e) c) (sym h.0) (ap Err is)
not_made start c text s store_fault.ReadOnly e is h some = subst (λ (g : Given StringId). runs_made start g (Err e) c) (sym h.0) (ap Err is)
not_made start c text s store_fault.NoMemory e is h some = absurd (some (ap Err is))

-- ---- its end

pub failed : (start c : PsCore) (text : List ℕ) (target : ℕ) (f : PsFault) → start ≡ loaded → (ends f ≢ ends ps.NoMemory → RunsText start text (Err f) c) → IsTableOf text target (Err (why f))
failed start c text target (ps.Error e) l r = (c, record { start = start; is_loaded = l; runs = r (λ q. cc) })
failed start c text target ps.Spent l r = (c, record { start = start; is_loaded = l; runs = r (λ q. cc) })
failed start c text target ps.Link l r = tt
failed start c text target ps.NoMemory l r = tt

pub none_left : (start c : PsCore) (text : List ℕ) (target : ℕ) → start ≡ loaded → RunsText start text (Ok tt) c → left_by c ≡ None → IsTableOf text target (Err Shape)
none_left start c text target l r e = (c, record { start = start; is_loaded = l; runs = r }, ap (table_with target c) e)

-- the store that is closed and has its top
pub closed_so : (c : PsCore) (top : DictId) (s t u : StoreState) → s ≡ c.store → t ≡ record s { closed = mark_of s.table } → u ≡ record t { top = Some top } → u ≡ closed_with c top
closed_so c top s t u e f g = g ∙ ap (λ (x : StoreState). record x { top = Some top }) (f ∙ ap (λ (x : StoreState). record x { closed = mark_of x.table }) e)

chosen : (x y : Result StoreState TableFault) (b v : Bool) → b ≡ v → (if b then x else y) ≡ (if v then x else y)
chosen x y b v e = ap (λ z. if z then x else y) e

pub table_left : (start c : PsCore) (text : List ℕ) (target : ℕ) (top : DictId) (u : StoreState) → start ≡ loaded → RunsText start text (Ok tt) c → left_by c ≡ Some top → u ≡ closed_with c top → is_table u target top ≡ true
    → IsTableOf text target (Ok u)
table_left start c text target top u l r e is has = (
  c,
  record { start = start; is_loaded = l; runs = r },
  ap (table_with target c) e ∙ (chosen (Ok (closed_with c top)) (Err Shape) _ true (ap (λ (x : StoreState). is_table x target top) (sym is) ∙ has) ∙ ap Ok (sym is)),
)

pub other_shape : (start c : PsCore) (text : List ℕ) (target : ℕ) (top : DictId) (u : StoreState) → start ≡ loaded → RunsText start text (Ok tt) c → left_by c ≡ Some top → u ≡ closed_with c top → is_table u target top ≡ false
    → IsTableOf text target (Err Shape)
other_shape start c text target top u l r e is has = (
  c,
  record { start = start; is_loaded = l; runs = r },
  ap (table_with target c) e ∙ chosen (Ok (closed_with c top)) (Err Shape) _ false (ap (λ (x : StoreState). is_table x target top) (sym is) ∙ has),
)

-- ---- its shape

both_true : (a b : Bool) → (a && b) ≡ true → (a ≡ true) × (b ≡ true)
both_true true b e = (refl, e)
both_true false b e = absurd (false≢true e)

empty_of : {A : Type 0} (xs : List A) → nat_eq (length xs) 0 ≡ true → xs ≡ []
empty_of [] e = refl
empty_of (x ∷ xs) e = absurd (let n : length (x ∷ xs) ≡ 0 = eqb-true _ _ e in omega (arith, n))

unused_is : (h : Held) → is_unused h ≡ true → h ≡ no_objects
unused_is h e =
    let arrays = both_true (nat_eq (length h.arrays) 0) _ e in
    let dicts = both_true (nat_eq (length h.dicts) 0) _ arrays.1 in
    let strings = both_true (nat_eq (length h.strings) 0) _ dicts.1 in
    ap (λ (x : List (List PsObj)). record h { arrays = x }) (empty_of h.arrays arrays.0)
    ∙ ap (λ (x : List (List (Key × Pair))). record h { arrays = []; dicts = x }) (empty_of h.dicts dicts.0)
    ∙ ap (λ (x : List (List ℕ)). record h { arrays = []; dicts = []; strings = x }) (empty_of h.strings strings.0)
    ∙ ap (λ (n : ℕ). record h { arrays = []; dicts = []; strings = []; units = n }) (eqb-true h.units 0 strings.1)

pub shape_of : (c : PsCore) (target : ℕ) (top : DictId) (u : StoreState) → u ≡ closed_with c top → is_table u target top ≡ true → HasShape u target
shape_of c target top u is has =
    let parts = both_true (has_entries u target top) (is_unused u.command) has in
    record { top = top; top_is = ap (λ (x : StoreState). x.top) is; entries = parts.0; nothing = unused_is u.command parts.1 }
