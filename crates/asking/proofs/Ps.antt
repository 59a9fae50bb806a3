-- `ps`, by what its parts did.
use Rattle.std.proofs.Common.{◌≡◌, ◌∙◌, refl, sym, ap, subst, ℕ, true, List, [], ◌∷◌, Some, Result, Ok, Err}
use Rattle.machine_state.specs.Regions.{Regions}
use Rattle.ps_store.specs.declared.object.Part.{Part}
use Rattle.ps_store.specs.declared.object.Part.TheVariants.{Command}
use Rattle.ps_store.specs.declared.object.DictId.{DictId}
use Rattle.ps_store.specs.declared.object.StringId.{StringId}
use Rattle.ps_store.specs.declared.object.PsObj.TheVariants.{Str}
use Rattle.ps_store.specs.declared.fault.StoreFault.{StoreFault}
use Rattle.ps_store.specs.declared.fault.StoreFault.TheVariants as store
use Rattle.ps_store.specs.StoreState.{StoreState}
use Rattle.ps_store.specs.Store.{Given, making_dict, making_string, Does}
use Rattle.ps_step.specs.declared.fault.PsError.{PsError}
use Rattle.ps_step.specs.declared.fault.PsError.TheVariants.{LimitCheck}
use Rattle.ps_step.specs.declared.fault.PsFault.TheVariants as ps
use Rattle.ps_step.specs.declared.item.Item.{Item}
use Rattle.ps_step.specs.declared.item.Item.TheVariants.{Object}
use Rattle.ps_step.specs.declared.machine.PsCore.{PsCore}
use Rattle.ps_step.specs.State.{with_execution}
use Rattle.ps_run.specs.Runs.{Answer, Runs}
use Rattle.ps_run.specs.Reaching.{Reaches, here}
use Rattle.ps_run.proofs.Reaching.{reached_end}
use Rattle.abs_mem.specs.Meaning.{Seen}
use Rattle.abs_mem.specs.declared.memory.MemFault.TheVariants.{Outside, LinkFault, BadReply}
use Rattle.dialect_model.specs.Dial.{Dial}
use Rattle.dialect_model.specs.Operating.{Operates}
use Rattle.dialect_model.specs.TableUse.{TableUse, use_of, Trouble, Kind}
use Rattle.dialect_model.specs.Running.{Run, beginning, core_in, ready}
use Rattle.ps_ops.specs.Desk.{dial_of}
use Rattle.ps_ops.specs.declared.dialect.Operators.{Operators}
use Rattle.told_runs.specs.Told.{desk, Tells, IsTold}
use Rattle.table_asks.specs.declared.fault.Cause.{Cause}
use Rattle.table_asks.specs.declared.fault.AskFault.{AskFault}
use Rattle.table_asks.specs.declared.fault.AskFault.TheVariants.{Refused, Raised, Spent, NoMemory, Broken}
use Rattle.table_asks.specs.declared.inquiry.Inquiry.{Inquiry}
use Rattle.table_asks.specs.Asking.{left_of}
use Rattle.table_asks.specs.Running.{Begins, RunsOver, RunsSoFar}
use Rattle.asking.specs.Raw.{text_fault, texted, texted_by, ps_line, ps_result, RunsPs, not_begun, ended, RunsPsSoFar, not_run, so_far, PsSoFar, PsOver}

-- ---- the command's dictionary

-- what making it gives, taken apart
abbrev begun_by : TableUse → Given DictId → Result PsCore (Trouble Cause) → TableUse → Type 0
begun_by t (Ok (d, s)) r t' = (r ≡ Ok (core_in s d)) × (t' ≡ record t { store = s; own = Some d })
begun_by t (Err f) r t' = (r ≡ Err (Kind LimitCheck)) × (t' ≡ t)

module _ (s : StoreState) (n : ℕ) (part : s.part ≡ Command) where
  in_part : record s { part = Command } ≡ s
  in_part = ap (λ (p : Part). record s { part = p }) (sym part)

  abbrev before : TableUse
  before = use_of s n

  abbrev after : DictId → StoreState → TableUse
  after d s' = record before { store = s'; own = Some d }

  pub begins : (d : DictId) (s' : StoreState) → making_dict s ≡ Ok (d, s') → beginning {R = Cause} before (Ok (core_in s' d)) (after d s')
  begins d s' e =
      let is : making_dict (record s { part = Command }) ≡ Ok (d, s') = ap making_dict in_part ∙ e in
      subst (λ (g : Given DictId). begun_by before g (Ok (core_in s' d)) (after d s')) (sym is) (refl, refl)

  pub not_made : (f : StoreFault) → making_dict s ≡ Err f → beginning {R = Cause} before (Err (Kind LimitCheck)) before
  not_made f e =
      let is : making_dict (record s { part = Command }) ≡ Err f = ap making_dict in_part ∙ e in
      subst (λ (g : Given DictId). begun_by before g (Err (Kind LimitCheck)) before) (sym is) (refl, refl)

  -- ---- the text

  module _ (dial : Dial) (text : List ℕ) where
    no_dictionary : (f : StoreFault) → making_dict s ≡ Err f → RunsPs dial text before (Err (Kind LimitCheck)) dial s n
    no_dictionary f e = not_begun (Err (Kind LimitCheck), before, not_made f e, (refl, refl))

    module _ (d : DictId) (s' : StoreState) (made : making_dict s ≡ Ok (d, s')) where
      no_string : (f : StoreFault) → making_string s' text ≡ Err f → RunsPs dial text before (Err (Kind LimitCheck)) dial s' n
      no_string f e =
          let fails : texted text dial (core_in s' d) (after d s') (Err (Kind LimitCheck)) (after d s') =
          subst (λ (g : Given StringId). texted_by (after d s') dial (core_in s' d) g (Err (Kind LimitCheck)) (after d s')) (sym e) (refl, refl) in
          not_begun (Ok (core_in s' d), after d s', begins d s' made, fails)

      abbrev to_run : StringId → StoreState → PsCore
      to_run x s₂ = ready (Str x true) (core_in s' d) (after d s₂)

      ran : (x : StringId) (s₂ : StoreState) → making_string s' text ≡ Ok (x, s₂) → (answer : Answer) (left : ℕ) (dial' : Dial) (c : PsCore)
          → Runs Operates n dial (to_run x s₂) answer left dial' c → RunsPs dial text before (ps_result answer c) dial' c.store left
      ran x s₂ e answer left dial' c runs =
          let run : Run = record { dial = dial; core = to_run x s₂ } in
          let is : texted text dial (core_in s' d) (after d s') (Ok run) (after d s₂) =
          subst (λ (g : Given StringId). texted_by (after d s') dial (core_in s' d) g (Ok run) (after d s₂)) (sym e) (refl, refl) in
          ended {run = run} {t' = after d s₂} (Ok (core_in s' d), after d s', begins d s' made, is) runs

      came : (x : StringId) (s₂ : StoreState) → making_string s' text ≡ Ok (x, s₂) → (left : ℕ) (dial' : Dial) (c : PsCore)
          → Reaches Operates n dial (to_run x s₂) left dial' c → RunsPsSoFar dial text before dial'
      came x s₂ e left dial' c reaches =
          let run : Run = record { dial = dial; core = to_run x s₂ } in
          let is : texted text dial (core_in s' d) (after d s') (Ok run) (after d s₂) =
          subst (λ (g : Given StringId). texted_by (after d s') dial (core_in s' d) g (Ok run) (after d s₂)) (sym e) (refl, refl) in
          so_far {run = run} {t' = after d s₂} (Ok (core_in s' d), after d s', begins d s' made, is) reaches

-- what is left to run is no part of the line
same_result : (answer : Answer) (c : PsCore) (execution : List Item) → ps_result answer (with_execution c execution) ≡ ps_result answer c
same_result (Ok u) c execution = refl
same_result (Err f) c execution = refl

-- ---- over a memory

module _ {W R : Type 0} (seen : W → Seen R) (text : List ℕ) (i i' : Inquiry) (o o' : Operators W) where
  not_run_over : PsSoFar seen text i o o
  not_run_over = λ part regions rest t. (regions, t, dial_of (desk o) regions, not_run, refl)

  pub not_made_over : (f : StoreFault) → making_dict i.core.store ≡ Err f → i'.core.store ≡ i.core.store → left_of i' ≡ left_of i → PsOver seen text i o (Err (Raised LimitCheck)) i' o
  not_made_over f e same left =
      λ part regions rest t. (
        regions,
        t,
        subst (λ (n : ℕ). RunsPs (dial_of (desk o) regions) text (use_of i.core.store (left_of i)) (Err (Kind LimitCheck)) (dial_of (desk o) regions) i'.core.store n) (sym left)
            (subst (λ (s : StoreState). RunsPs (dial_of (desk o) regions) text (use_of i.core.store (left_of i)) (Err (Kind LimitCheck)) (dial_of (desk o) regions) s (left_of i)) (sym same)
            (no_dictionary i.core.store (left_of i) part (dial_of (desk o) regions) text f e)),
      )

  module _ (d : DictId) (s' : StoreState) (made : making_dict i.core.store ≡ Ok (d, s')) where
    pub no_string_over : (f : StoreFault) → making_string s' text ≡ Err f → i'.core.store ≡ s' → left_of i' ≡ left_of i → PsOver seen text i o (Err (Raised LimitCheck)) i' o
    no_string_over f e same left =
        λ part regions rest t. (
          regions,
          t,
          subst (λ (n : ℕ). RunsPs (dial_of (desk o) regions) text (use_of i.core.store (left_of i)) (Err (Kind LimitCheck)) (dial_of (desk o) regions) i'.core.store n) (sym left)
              (subst (λ (s : StoreState). RunsPs (dial_of (desk o) regions) text (use_of i.core.store (left_of i)) (Err (Kind LimitCheck)) (dial_of (desk o) regions) s (left_of i)) (sym same)
              (no_string i.core.store (left_of i) part (dial_of (desk o) regions) text d s' made f e)),
        )

    -- what was run, once the text is a string
    module _ (x : StringId) (j : Inquiry) (string : making_string s' text ≡ Ok (x, j.core.store)) (stands : j.core ≡ record (core_in s' d) { store = j.core.store }) (left : left_of j ≡ left_of i) where
      abbrev Ran : Answer → Type 0
      Ran answer =
          (regions : Regions) (rest : R) → Tells seen o regions rest
          → (execution : List Item) × IsTold seen rest regions (left_of j) o (with_execution j.core (Object (Str x true) ∷ [])) answer (left_of i') o' (with_execution i'.core execution)

      ran_over : (answer : Answer) → Ran answer → i.core.store.part ≡ Command → (regions : Regions) (rest : R) → Tells seen o regions rest
          → (regions' : Regions) × Tells seen o' regions' rest × RunsPs (dial_of (desk o) regions) text (use_of i.core.store (left_of i)) (ps_result answer i'.core) (dial_of (desk o') regions') i'.core.store (left_of i')
      ran_over answer h part regions rest t =
          let got = h regions rest t in
          let is = got.1 in
          let whole = with_execution i'.core got.0 in
          let runs : Runs Operates (left_of i) (dial_of (desk o) regions) (to_run i.core.store (left_of i) part (dial_of (desk o) regions) text d s' made x j.core.store) answer (left_of i') (dial_of (desk o') is.regions') whole =
          subst (λ (c : PsCore). Runs Operates (left_of i) (dial_of (desk o) regions) (with_execution c (Object (Str x true) ∷ [])) answer (left_of i') (dial_of (desk o') is.regions') whole) stands
          (subst (λ (n : ℕ). Runs Operates n (dial_of (desk o) regions) (with_execution j.core (Object (Str x true) ∷ [])) answer (left_of i') (dial_of (desk o') is.regions') whole) left is.runs) in
          let done = ran i.core.store (left_of i) part (dial_of (desk o) regions) text d s' made x j.core.store string answer (left_of i') (dial_of (desk o') is.regions') whole runs in (
            is.regions',
            is.tells,
            subst (λ (r : Result (List ℕ) (Trouble Cause)). RunsPs (dial_of (desk o) regions) text (use_of i.core.store (left_of i)) r (dial_of (desk o') is.regions') i'.core.store (left_of i')) (same_result answer i'.core got.0) done,
          )

      came_over : i.core.store.part ≡ Command → (regions : Regions) (left' : ℕ) (dial' : Dial) (c : PsCore) → Reaches Operates (left_of j) (dial_of (desk o) regions) (with_execution j.core (Object (Str x true) ∷ [])) left' dial' c
          → RunsPsSoFar (dial_of (desk o) regions) text (use_of i.core.store (left_of i)) dial'
      came_over part regions left' dial' c h =
          let reaches : Reaches Operates (left_of i) (dial_of (desk o) regions) (to_run i.core.store (left_of i) part (dial_of (desk o) regions) text d s' made x j.core.store) left' dial' c =
          subst (λ (z : PsCore). Reaches Operates (left_of i) (dial_of (desk o) regions) (with_execution z (Object (Str x true) ∷ [])) left' dial' c) stands
          (subst (λ (n : ℕ). Reaches Operates n (dial_of (desk o) regions) (with_execution j.core (Object (Str x true) ∷ [])) left' dial' c) left h) in
          came i.core.store (left_of i) part (dial_of (desk o) regions) text d s' made x j.core.store string left' dial' c reaches

      -- memory ran out
      ps_short : RunsSoFar seen (Str x true) j o o' → PsSoFar seen text i o o'
      ps_short h =
          λ part regions rest t.
          let got = h regions rest t in
          (got.regions', got.tells, got.dial, came_over part regions got.left' got.dial got.core got.reaches, got.target)

      -- it did once the text had run
      pub ps_wants : RunsOver seen (Str x true) j o (Ok tt) i' o' → PsSoFar seen text i o o'
      ps_wants h =
          λ part regions rest t.
          let got = h regions rest t in
          let is = got.1 in
          let start = with_execution j.core (Object (Str x true) ∷ []) in
          let there = reached_end Operates (left_of j) (dial_of (desk o) regions) start (left_of j) (dial_of (desk o) regions) start (Ok tt) (left_of i') (dial_of (desk o') is.regions') (with_execution i'.core got.0) refl is.runs here in
          (is.regions', is.tells, dial_of (desk o') is.regions', came_over part regions there.0 (dial_of (desk o') is.regions') there.1 there.2, refl)

      pub ps_done : RunsOver seen (Str x true) j o (Ok tt) i' o' → PsOver seen text i o (Ok (ps_line i'.core)) i' o'
      ps_done h = ran_over (Ok tt) h

      pub ps_fails : (f : AskFault) → RunsOver seen (Str x true) j o (Err f) i' o' → PsOver seen text i o (Err f) i' o'
      ps_fails (Raised e) h = ran_over (Err (ps.Error e)) h
      ps_fails Spent h = ran_over (Err ps.Spent) h
      ps_fails NoMemory h = ps_short h
      ps_fails (Broken (BadReply frame)) h = h
      ps_fails (Broken LinkFault) h = tt
      ps_fails (Broken (Outside p)) h = tt
      ps_fails (Refused cause) h = absurd h

  -- ---- by the answers of its parts

  pub begin_fails : (f : AskFault) → Begins i (Err f) i' → left_of i' ≡ left_of i → PsOver seen text i o (Err f) i' o
  begin_fails (Raised e) h left = subst (λ (x : PsError). PsOver seen text i o (Err (Raised x)) i' o) (sym h.0) (not_made_over h.2 h.3 h.1 left)
  begin_fails NoMemory h left = not_run_over
  begin_fails Spent h left = absurd h
  begin_fails (Refused cause) h left = absurd h
  begin_fails (Broken f) h left = absurd h

  module _ (b : Inquiry) (begun : Begins i (Ok tt) b) where
    pub string_fails : (f : StoreFault) → Does {X = StringId} (Err f) b.core.store i'.core.store (making_string b.core.store text) → left_of i' ≡ left_of i → PsOver seen text i o (Err (text_fault f)) i' o
    string_fails store.Limit h left = no_string_over begun.0 b.core.store begun.1 store.Limit h.0 h.1 left
    string_fails store.ReadOnly h left = no_string_over begun.0 b.core.store begun.1 store.ReadOnly h.0 h.1 left
    string_fails store.NoMemory h left = not_run_over

    module _ (x : StringId) (j : Inquiry) (string : making_string b.core.store text ≡ Ok (x, j.core.store)) (core : j.core ≡ record b.core { store = j.core.store }) (left : left_of j ≡ left_of i) where
      stands : j.core ≡ record (core_in b.core.store begun.0) { store = j.core.store }
      stands = core ∙ ap (λ (c : PsCore). record c { store = j.core.store }) begun.2

      pub text_done : RunsOver seen (Str x true) j o (Ok tt) i' o' → PsOver seen text i o (Ok (ps_line i'.core)) i' o'
      text_done h = ps_done begun.0 b.core.store begun.1 x j string stands left h

      pub text_wants : RunsOver seen (Str x true) j o (Ok tt) i' o' → PsOver seen text i o (Err NoMemory) i' o'
      text_wants h = ps_wants begun.0 b.core.store begun.1 x j string stands left h

      pub text_fails : (f : AskFault) → RunsOver seen (Str x true) j o (Err f) i' o' → PsOver seen text i o (Err f) i' o'
      text_fails f h = ps_fails begun.0 b.core.store begun.1 x j string stands left f h
