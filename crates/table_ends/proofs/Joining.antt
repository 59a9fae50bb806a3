-- What a table's text comes to is what the claims on whole sessions say.
use Rattle.std.proofs.Common.{◌≡◌, ◌≢◌, ◌⊎◌, ◌∙◌, refl, sym, ap, subst, inl, inr, ℕ, Bool, true, false, nat_eq, ◌&&◌, if◌then◌else◌, List, [], ◌∷◌, length, reverse, Option, Some, None, Result, Ok, Err, arith}
use Rattle.std.proofs.lemmas.Bool.{ne_eqb}
use Rattle.std.specs.Fmt.{digits}
use Rattle.ps_scan.specs.Bytes.{is_white, is_special, is_regular, is_hexadecimal}
use Rattle.ps_store.specs.Operators.{operator_number}
use Rattle.machine_state.specs.declared.layout.TheConstants.{MIPS, SPARC}
use Rattle.ps_store.specs.declared.fault.StoreFault.{StoreFault}
use Rattle.ps_store.specs.declared.fault.StoreFault.TheVariants.{Limit}
use Rattle.ps_store.specs.declared.object.DictId.{DictId}
use Rattle.ps_store.specs.declared.object.StringId.{StringId}
use Rattle.ps_store.specs.declared.object.Part.{Part}
use Rattle.ps_store.specs.declared.object.Part.TheVariants.{Table, Command}
use Rattle.ps_store.specs.declared.object.PsObj.{PsObj}
use Rattle.ps_store.specs.declared.object.PsObj.TheVariants as obj
use Rattle.ps_store.specs.Held.{Held}
use Rattle.ps_store.specs.StoreState.{StoreState}
use Rattle.ps_store.specs.Store.{Given, with_held, making_string}
use Rattle.ps_step.specs.declared.fault.PsFault.{PsFault}
use Rattle.ps_step.specs.declared.fault.PsFault.TheVariants as ps
use Rattle.ps_step.specs.declared.fault.PsError.TheVariants.{LimitCheck}
use Rattle.ps_step.specs.declared.item.Item.{Item}
use Rattle.ps_step.specs.declared.item.Item.TheVariants.{Object}
use Rattle.ps_step.specs.declared.machine.PsCore.{PsCore}
use Rattle.ps_step.specs.Results.{fault_of}
use Rattle.ps_step.specs.State.{with_execution}
use Rattle.ps_run.specs.Runs.{Answer, Runs}
use Rattle.ps_print.specs.Loaded.{loaded}
use Rattle.dialect_model.specs.Dial.{Dial, no_target}
use Rattle.dialect_model.specs.Forcing.{NoTarget, forcing}
use Rattle.claims.specs.Tables.{RunsTable, RunFault, full, ran, finished, has_shape}
use Rattle.claims.specs.Tables as claims
use Rattle.table_run.specs.declared.run.TableFault.{TableFault}
use Rattle.table_run.specs.declared.run.TableFault.TheVariants as fault
use Rattle.claims.specs.Side.{MOST_STEPS}
use Rattle.table_run.specs.Shape.{has_entries, is_unused}
use Rattle.table_run.specs.Tables.{runs_made, dict_of, table_with, table_in, closed_with}
use Rattle.table_ends.specs.Joined.{RunsAs, TablesRun}

-- ---- the state behind the prelude, by computing

loaded_part : loaded.store.part ≡ Table
unfolding digits is_white is_special is_regular is_hexadecimal operator_number
loaded_part = refl

loaded_operands : loaded.operands ≡ []
unfolding digits is_white is_special is_regular is_hexadecimal operator_number
loaded_operands = refl

loaded_dictionaries : loaded.dictionaries ≡ reverse loaded.store.base
unfolding digits is_white is_special is_regular is_hexadecimal operator_number
loaded_dictionaries = refl

-- a state in which a table's text may begin
record Begins (c : PsCore) : Type 0 where
  part : c.store.part ≡ Table
  operands : c.operands ≡ []
  dictionaries : c.dictionaries ≡ reverse c.store.base

loaded_begins : Begins loaded
loaded_begins = record { part = loaded_part; operands = loaded_operands; dictionaries = loaded_dictionaries }

-- ---- its text

held_part : (s : StoreState) (p : Part) (h : Held) → ((with_held s p h).part ≡ s.part) × ((with_held s p h).base ≡ s.base)
held_part s Table h = (refl, refl)
held_part s Command h = (refl, refl)

record Made (s filled : StoreState) : Type 0 where
  part : filled.part ≡ s.part
  base : filled.base ≡ s.base

made_by : (b : Bool) (s filled : StoreState) (p : Part) (h : Held) (t u : StringId) → ◌≡◌ {A = Given StringId} (if b then Ok (u, with_held s p h) else Err Limit) (Ok (t, filled)) → Made s filled
made_by false s filled p h t u e = absurd cc
made_by true s filled p h t u e =
    let both : (u, with_held s p h) ≡ (t, filled) = cc in
    let same : with_held s p h ≡ filled = ap (λ (x : StringId × StoreState). x.1) both in
    record { part = ap (λ (x : StoreState). x.part) (sym same) ∙ (held_part s p h).0; base = ap (λ (x : StoreState). x.base) (sym same) ∙ (held_part s p h).1 }

made_same : (s filled : StoreState) (text : List ℕ) (t : StringId) → making_string s text ≡ Ok (t, filled) → Made s filled
made_same s filled text t e = made_by _ s filled s.part _ t _ e

limit_by : (b : Bool) (x : StringId × StoreState) (f : StoreFault) → ◌≡◌ {A = Given StringId} (if b then Ok x else Err Limit) (Err f) → f ≡ Limit
limit_by true x f e = absurd cc
limit_by false x f e = cc

only_limit : (s : StoreState) (text : List ℕ) (f : StoreFault) → making_string s text ≡ Err f → f ≡ Limit
only_limit s text f e = limit_by _ _ f e

-- ---- its start

abbrev core_of : StoreState → List PsObj → List DictId → List Item → PsCore
core_of s operands ds execution = record { store = s; operands = operands; dictionaries = ds; execution = execution }

forced : (c : PsCore) (filled : StoreState) (x : PsObj) → Begins c → Made c.store filled → with_execution (record c { store = filled }) (Object x ∷ []) ≡ forcing filled x
forced c filled x begins made =
    ap (λ (s : StoreState). core_of s c.operands c.dictionaries (Object x ∷ [])) (ap (λ (p : Part). record filled { part = p }) (made.part ∙ begins.part))
    ∙ ap (λ (xs : List PsObj). core_of (record filled { part = Table }) xs c.dictionaries (Object x ∷ [])) begins.operands
    ∙ ap (λ (ds : List DictId). core_of (record filled { part = Table }) [] ds (Object x ∷ [])) (begins.dictionaries ∙ ap (λ (ds : List DictId). reverse ds) (sym made.base))

-- ---- its end

-- what is asked of a table is the same
shape_same : (s : StoreState) (target : ℕ) (d : DictId) → (target ≡ MIPS) ⊎ (target ≡ SPARC) → has_entries (closed_with (core_of s [] [] []) d) target d ≡ has_shape (finished s d) target
shape_same s target d (inl e) = subst (λ t. has_entries (closed_with (core_of s [] [] []) d) t d ≡ has_shape (finished s d) t) (sym e) refl
shape_same s target d (inr e) = subst (λ t. has_entries (closed_with (core_of s [] [] []) d) t d ≡ has_shape (finished s d) t) (sym e) refl

-- as the claims have it
abbrev shaped : StoreState → Bool → Result StoreState claims.TableFault
shaped s true = Ok s
shaped s false = Err claims.Shape

-- and as it is run
abbrev picked : StoreState → (b e u : Bool) → Result StoreState TableFault
picked s true true true = Ok s
picked s b e u = Err fault.Shape

same_none : (b : Bool) → ◌≡◌ {A = Option DictId} (if b then None else None) None
same_none true = refl
same_none false = refl

no_end : (f : PsFault) → ◌≡◌ {A = Answer} (Ok tt) (Err f) → ⊥
no_end f e = cc

module _ (prelude : StoreState) (text : List ℕ) (target : ℕ) (known : (target ≡ MIPS) ⊎ (target ≡ SPARC)) where
  chosen : (s : StoreState) (b e u : Bool) → is_unused s.command ≡ u → RunsTable prelude text target (shaped s (b && e)) → RunsAs prelude text target (picked s b e u)
  chosen s true true true unused h = h
  chosen s true true false unused h = inr (s, h, unused)
  chosen s true false u unused h = inl h
  chosen s false e u unused h = inl h

  module _ (t : StringId) (filled : StoreState) (made : making_string prelude text ≡ Ok (t, filled)) (left : ℕ) (dial : Dial) (s : StoreState) (ds : List DictId) (execution : List Item) where
    -- one dictionary was left
    left_one : (d : DictId) (b e u : Bool) → nat_eq (length ds) (length s.base) ≡ b → has_shape (finished s d) target ≡ e → is_unused s.command ≡ u
        → Runs NoTarget MOST_STEPS no_target (forcing filled (obj.Str t true)) (Ok tt) left dial (core_of s (obj.Dict d ∷ []) ds execution) → RunsAs prelude text target (picked (finished s d) b e u)
    left_one d b e u same shape unused runs =
        chosen (finished s d) b e u unused
        (subst (λ x. RunsTable prelude text target (shaped (finished s d) (x && e))) same (subst (λ x. RunsTable prelude text target (shaped (finished s d) (nat_eq (length ds) (length s.base) && x))) shape (ran made runs)))

    table_value : (d : DictId) (b e u : Bool) → nat_eq (length ds) (length s.base) ≡ b → has_entries (closed_with (core_of s [] [] []) d) target d ≡ e → is_unused s.command ≡ u → table_in target (core_of s (obj.Dict d ∷ []) ds execution) ≡ picked (finished s d) b e u
    table_value d true true true same shape unused =
        ap (λ x. table_with target (core_of s (obj.Dict d ∷ []) ds execution) (if x then Some d else None)) same ∙ ap (λ x. if x && is_unused s.command then Ok (finished s d) else Err fault.Shape) shape ∙ ap (λ x. if x then Ok (finished s d) else Err fault.Shape) unused
    table_value d true true false same shape unused =
        ap (λ x. table_with target (core_of s (obj.Dict d ∷ []) ds execution) (if x then Some d else None)) same ∙ ap (λ x. if x && is_unused s.command then Ok (finished s d) else Err fault.Shape) shape ∙ ap (λ x. if x then Ok (finished s d) else Err fault.Shape) unused
    table_value d true false u same shape unused =
        ap (λ x. table_with target (core_of s (obj.Dict d ∷ []) ds execution) (if x then Some d else None)) same ∙ ap (λ x. if x && is_unused s.command then Ok (finished s d) else Err fault.Shape) shape
    table_value d false e u same shape unused = ap (λ x. table_with target (core_of s (obj.Dict d ∷ []) ds execution) (if x then Some d else None)) same

    -- something else was
    other : (x : PsObj) (r : Result StoreState TableFault) → (if nat_eq (length ds) (length s.base) then dict_of (Some x) else None) ≡ None → RunsTable prelude text target (Err claims.Shape) → table_in target (core_of s (x ∷ []) ds execution) ≡ r → RunsAs prelude text target r
    other x r none h e = subst (RunsAs prelude text target) (sym (ap (λ o. table_with target (core_of s (x ∷ []) ds execution) o) none) ∙ e) (inl h)

    -- several objects were
    several : (x y : PsObj) (more : List PsObj) (r : Result StoreState TableFault) → RunsTable prelude text target (Err claims.Shape) → table_in target (core_of s (x ∷ y ∷ more) ds execution) ≡ r → RunsAs prelude text target r
    several x y more r h e =
        let many : nat_eq (length (x ∷ y ∷ more)) 1 ≡ false = ne_eqb (length (x ∷ y ∷ more)) 1 (λ o. omega (arith, o)) in
        subst (RunsAs prelude text target) (sym (ap (λ b. table_with target (core_of s (x ∷ y ∷ more) ds execution) (if b && nat_eq (length ds) (length s.base) then dict_of (Some x) else None)) many) ∙ e) (inl h)

    went : (operands : List PsObj) (r : Result StoreState TableFault) → Runs NoTarget MOST_STEPS no_target (forcing filled (obj.Str t true)) (Ok tt) left dial (core_of s operands ds execution) → table_in target (core_of s operands ds execution) ≡ r → RunsAs prelude text target r
    went [] r runs e = subst (RunsAs prelude text target) e (inl (ran made runs))
    went (obj.Int n ∷ y ∷ more) r runs e = several (obj.Int n) y more r (ran made runs) e
    went (obj.Bool b ∷ y ∷ more) r runs e = several (obj.Bool b) y more r (ran made runs) e
    went (obj.Name u x ∷ y ∷ more) r runs e = several (obj.Name u x) y more r (ran made runs) e
    went (obj.Str u x ∷ y ∷ more) r runs e = several (obj.Str u x) y more r (ran made runs) e
    went (obj.Array a x ∷ y ∷ more) r runs e = several (obj.Array a x) y more r (ran made runs) e
    went (obj.Dict d ∷ y ∷ more) r runs e = several (obj.Dict d) y more r (ran made runs) e
    went (obj.Op n ∷ y ∷ more) r runs e = several (obj.Op n) y more r (ran made runs) e
    went (obj.Mark ∷ y ∷ more) r runs e = several (obj.Mark) y more r (ran made runs) e
    went (obj.Null ∷ y ∷ more) r runs e = several (obj.Null) y more r (ran made runs) e
    went (obj.Dict d ∷ []) r runs e =
        let shape = shape_same s target d known in
        subst (RunsAs prelude text target) (sym (table_value d _ _ _ refl shape refl) ∙ e) (left_one d _ _ _ refl refl refl runs)
    went (obj.Int n ∷ []) r runs e = other (obj.Int n) r (same_none (nat_eq (length ds) (length s.base))) (ran made runs) e
    went (obj.Bool b ∷ []) r runs e = other (obj.Bool b) r (same_none (nat_eq (length ds) (length s.base))) (ran made runs) e
    went (obj.Name u x ∷ []) r runs e = other (obj.Name u x) r (same_none (nat_eq (length ds) (length s.base))) (ran made runs) e
    went (obj.Str u x ∷ []) r runs e = other (obj.Str u x) r (same_none (nat_eq (length ds) (length s.base))) (ran made runs) e
    went (obj.Array a x ∷ []) r runs e = other (obj.Array a x) r (same_none (nat_eq (length ds) (length s.base))) (ran made runs) e
    went (obj.Op n ∷ []) r runs e = other (obj.Op n) r (same_none (nat_eq (length ds) (length s.base))) (ran made runs) e
    went (obj.Mark ∷ []) r runs e = other (obj.Mark) r (same_none (nat_eq (length ds) (length s.base))) (ran made runs) e
    went (obj.Null ∷ []) r runs e = other (obj.Null) r (same_none (nat_eq (length ds) (length s.base))) (ran made runs) e

  -- ---- a run of the text

  made_runs : (made : Given StringId) → making_string prelude text ≡ made → (start c : PsCore) → start.store ≡ prelude → Begins start → (r : Result StoreState TableFault) → runs_made start made (Ok tt) c → table_in target c ≡ r → RunsAs prelude text target r
  made_runs (Ok (t, filled)) e start c same begins r h is =
      let went_on = h.runs (λ x. cc) in
      let made : Made start.store filled = made_same start.store filled text t (subst (λ (s : StoreState). making_string s text ≡ Ok (t, filled)) (sym same) e) in
      went t filled e h.left h.dial c.store c.dictionaries went_on.0 c.operands r (subst (λ (x : PsCore). Runs NoTarget MOST_STEPS no_target x (Ok tt) h.left h.dial (with_execution c went_on.0)) (forced start filled (obj.Str t true) begins made) went_on.1) is
  made_runs (Err f) e start c same begins r h is = absurd (no_end (fault_of f) h)

  failed_runs : (made : Given StringId) → making_string prelude text ≡ made → (start c : PsCore) → start.store ≡ prelude → Begins start → (f : PsFault) → f ≢ ps.NoMemory → runs_made start made (Err f) c → RunsTable prelude text target (Err (RunFault f))
  failed_runs (Ok (t, filled)) e start c same begins f some h =
      let went_on = h.runs (λ x. some (let y = x in cc)) in
      let made : Made start.store filled = made_same start.store filled text t (subst (λ (s : StoreState). making_string s text ≡ Ok (t, filled)) (sym same) e) in
      ran e (subst (λ (x : PsCore). Runs NoTarget MOST_STEPS no_target x (Err f) h.left h.dial (with_execution c went_on.0)) (forced start filled (obj.Str t true) begins made) went_on.1)
  failed_runs (Err g) e start c same begins f some h =
      let limit : fault_of g ≡ ps.Error LimitCheck = ap fault_of (only_limit prelude text g e) in
      let is : f ≡ fault_of g = cc in
      subst (λ (x : PsFault). RunsTable prelude text target (Err (RunFault x))) (sym (is ∙ limit)) (full e)

behind : (c : PsCore) → c ≡ loaded → Begins c
behind c e = subst Begins (sym e) loaded_begins

pub tables_run : TablesRun
tables_run prelude text target (Ok s) p known h =
    let b = h.1 in
    let same : b.start.store ≡ prelude = ap (λ (c : PsCore). c.store) b.is_loaded ∙ sym p in
    made_runs prelude text target known (making_string prelude text) refl b.start h.0 same (behind b.start b.is_loaded) (Ok s) (subst (λ (x : StoreState). runs_made b.start (making_string x text) (Ok tt) h.0) same b.runs) h.2
tables_run prelude text target (Err fault.Shape) p known h =
    let b = h.1 in
    let same : b.start.store ≡ prelude = ap (λ (c : PsCore). c.store) b.is_loaded ∙ sym p in
    made_runs prelude text target known (making_string prelude text) refl b.start h.0 same (behind b.start b.is_loaded) (Err fault.Shape) (subst (λ (x : StoreState). runs_made b.start (making_string x text) (Ok tt) h.0) same b.runs) h.2
tables_run prelude text target (Err (fault.Raised e)) p known h =
    let b = h.1 in
    let same : b.start.store ≡ prelude = ap (λ (c : PsCore). c.store) b.is_loaded ∙ sym p in
    failed_runs prelude text target known (making_string prelude text) refl b.start h.0 same (behind b.start b.is_loaded) (ps.Error e) (λ x. cc) (subst (λ (x : StoreState). runs_made b.start (making_string x text) (Err (ps.Error e)) h.0) same b.runs)
tables_run prelude text target (Err fault.Spent) p known h =
    let b = h.1 in
    let same : b.start.store ≡ prelude = ap (λ (c : PsCore). c.store) b.is_loaded ∙ sym p in
    failed_runs prelude text target known (making_string prelude text) refl b.start h.0 same (behind b.start b.is_loaded) ps.Spent (λ x. cc) (subst (λ (x : StoreState). runs_made b.start (making_string x text) (Err ps.Spent) h.0) same b.runs)
tables_run prelude text target (Err fault.NoMemory) p known h = tt
