-- An operator that acts again once a unit was run.
use Rattle.std.proofs.Common.{◌≡◌, ◌≢◌, ◌≤◌, ℕ, Option, Some, IsSome, Result, Ok, Err, refl, sym, ap, subst, ◌∙◌}
use Rattle.ldb_edge.specs.Count.{Rose}
use Rattle.machine_state.specs.Regions.{Regions}
use Rattle.ps_store.specs.Store.{closed_part}
use Rattle.ps_step.specs.declared.fault.PsError.{PsError}
use Rattle.ps_step.specs.declared.fault.PsFault.{PsFault}
use Rattle.ps_step.specs.declared.fault.PsFault.TheVariants.{Error, Spent, Link, NoMemory}
use Rattle.ps_step.specs.declared.machine.PsCore.{PsCore}
use Rattle.ps_run.specs.Runs.{Answer}
use Rattle.abs_mem.specs.Meaning.{Seen}
use Rattle.abs_mem.specs.declared.memory.MemFault.{MemFault}
use Rattle.abs_mem.specs.declared.memory.MemFault.TheVariants.{Outside, LinkFault, BadReply}
use Rattle.dialect_model.specs.Dial.{Dial, Raises, Needs as Wants}
use Rattle.dialect_model.specs.Operators.{act}
use Rattle.dialect_model.specs.Operating as model
use Rattle.dialect_model.specs.Forcing.{ForcesUnit}
use Rattle.ps_bare.specs.Deferred.{IsDeferred}
use Rattle.ps_ops.specs.declared.halt.Halt.TheVariants.{Raised, Wanting, Broken, Needs}
use Rattle.ps_ops.specs.Desk.{Desk, dial_of, memory_of}
use Rattle.ps_ops.specs.Acting.{ActsOn, NeverTold, KeepsMemory, KeepsFault, OperatesTold, OperatesOn, Prepares, begun, further, RunsShort, acting, running}

-- what it does once units were run is what it does
pub prepared : (d : Dial) (op : ℕ) (c : PsCore) (left : ℕ) (c₁ : PsCore) (m : ℕ) → Prepares d op c left c₁ m → (answer : Answer) (d' : Dial) (c' : PsCore) (left' : ℕ) → model.Operates d c₁ op m answer d' c' left'
    → model.Operates d c op left answer d' c' left'
prepared d op c left _ _ begun answer d' c' left' h = h
prepared d op c left _ _ (further {c₁ = c₁} {c₂ = c₂} {u = u} {m = m} {n = n} p e f) answer d' c' left' h =
    prepared d op c left c₁ m p answer d' c' left' (model.forced d d' c₁ c₂ c' op u m n left' answer e f h)

module _ {R : Type 0} (op : ℕ) (k : Desk) (s : Seen R) (c : PsCore) (n : ℕ) where
  -- units were run, and the dial is as it was
  pub record SoFar (k₁ : Desk) (s₁ : Seen R) (c₁ : PsCore) (m : ℕ) : Type 0 where
    pub faults : s₁.faults ≡ s.faults
    pub told : (rg : Regions) (r : R) → s.tells (memory_of k rg) r → s₁.tells (memory_of k₁ rg) r × (dial_of k₁ rg ≡ dial_of k rg) × Prepares (dial_of k rg) op c n c₁ m

  pub so_far_begun : SoFar k s c n
  so_far_begun = record { faults = refl; told = λ rg r t. (t, refl, begun) }

  module _ (k₁ : Desk) (s₁ : Seen R) (c₁ : PsCore) (m : ℕ) (far : SoFar k₁ s₁ c₁ m) (k' : Desk) (s' : Seen R) (c' : PsCore) where
    pub done_acts : ActsOn op k₁ s₁ c₁ (Ok tt) k' s' c' → OperatesTold k s c op n (Ok tt) k' s' c' m
    done_acts h = (
      h.0 ∙ far.faults,
      λ rg r t.
          let before = far.told rg r t in
          let after = h.1 rg r before.0 in (
            after.0,
            after.1,
            prepared (dial_of k rg) op c n c₁ m before.2 (Ok tt) (dial_of k' after.0) c' m
                (model.acted (dial_of k rg) (dial_of k' after.0) c₁ c' op m (ap (λ d. act op d c₁) (sym before.1) ∙ after.2)),
          ),
    )

    pub raised_acts : (e : PsError) → ActsOn op k₁ s₁ c₁ (Err (Raised e)) k' s' c' → OperatesTold k s c op n (Err (Error e)) k' s' c' m
    raised_acts e h = (
      h.0 ∙ far.faults,
      λ rg r t.
          let before = far.told rg r t in
          let after = h.2 rg r before.0 in
          let same : dial_of k' rg ≡ dial_of k rg = after.1 ∙ before.1 in (
            rg,
            after.0,
            subst (λ d. model.Operates (dial_of k rg) c op n (Err (Error e)) d c' m) (sym same)
                (subst (λ x. model.Operates (dial_of k rg) c op n (Err (Error e)) (dial_of k rg) x m) (sym h.1)
                (prepared (dial_of k rg) op c n c₁ m before.2 (Err (Error e)) (dial_of k rg) c₁ m (model.raised (dial_of k rg) c₁ op m e (ap (λ d. act op d c₁) (sym before.1) ∙ after.2)))),
          ),
    )

    pub rose_acts : Rose s₁.faults s'.faults → Rose s.faults s'.faults
    rose_acts h = subst (λ j. Rose j s'.faults) far.faults h

    pub never_acts : NeverTold k₁ s₁ s' → NeverTold k s s'
    never_acts h = record { faults = h.faults ∙ far.faults; never = λ rg r t. let before = far.told rg r t in h.never rg r before.0 }

    pub keeps_acts : KeepsMemory k₁ s₁ k' s' → KeepsMemory k s k' s'
    keeps_acts h = record { faults = h.faults ∙ far.faults; keeps = λ rg r t. let before = far.told rg r t in h.keeps rg r before.0 }

    module _ (u : ℕ) (acts : ActsOn op k₁ s₁ c₁ (Err (Needs u)) k' s' c') (c'' : PsCore) (j : ℕ) where
      -- the unit was run
      pub forced_on : (IsDeferred c'.store u → ForcesUnit u c' m (Ok tt) j c'') → SoFar k' s' c'' j
      forced_on f = record {
        faults = acts.0 ∙ far.faults;
        told =
            λ rg r t.
            let before = far.told rg r t in
            let after = acts.2 rg r before.0 in
            let needs : act op (dial_of k rg) c₁ ≡ Err (Wants u) = ap (λ d. act op d c₁) (sym before.1) ∙ after.2 in
            let deferred : IsDeferred c'.store u = subst (λ (x : PsCore). IsDeferred x.store u) (sym acts.1) after.3 in
            (after.0, after.1 ∙ before.1, further before.2 needs (subst (λ x. ForcesUnit u x m (Ok tt) j c'') acts.1 (f deferred)));
      }

      -- memory ran out
      pub force_lacks : KeepsMemory k s k' s'
      force_lacks = record { faults = acts.0 ∙ far.faults; keeps = λ rg r t. let before = far.told rg r t in let after = acts.2 rg r before.0 in after.0 }

      -- which units were run by then
      pub force_short : j ≤ m → closed_part c''.store ≡ closed_part c'.store → (rg : Regions) (r : R) → s.tells (memory_of k rg) r → RunsShort (dial_of k rg) op c n (dial_of k' rg) c'' j
      force_short b closed rg r t =
          let before = far.told rg r t in
          let after = acts.2 rg r before.0 in
          let needs : act op (dial_of k rg) c₁ ≡ Err (Wants u) = ap (λ d. act op d c₁) (sym before.1) ∙ after.2 in
          let same : dial_of k' rg ≡ dial_of k rg = after.1 ∙ before.1 in
          subst (λ d. RunsShort (dial_of k rg) op c n d c'' j) (sym same) (running before.2 needs after.3 (closed ∙ ap (λ (x : PsCore). closed_part x.store) acts.1) b)

      -- its run failed
      pub force_fails : (f : PsFault) → (IsDeferred c'.store u → ForcesUnit u c' m (Err f) j c'') → (s'.faults ≡ s.faults)
          × ((rg : Regions) (r : R) → s.tells (memory_of k rg) r → (rg' : Regions) × s'.tells (memory_of k' rg') r × model.Operates (dial_of k rg) c op n (Err f) (dial_of k' rg') c'' j)
      force_fails f h = (
        acts.0 ∙ far.faults,
        λ rg r t.
            let before = far.told rg r t in
            let after = acts.2 rg r before.0 in
            let needs : act op (dial_of k rg) c₁ ≡ Err (Wants u) = ap (λ d. act op d c₁) (sym before.1) ∙ after.2 in
            let deferred : IsDeferred c'.store u = subst (λ (x : PsCore). IsDeferred x.store u) (sym acts.1) after.3 in
            let same : dial_of k' rg ≡ dial_of k rg = after.1 ∙ before.1 in (
              rg,
              after.0,
              subst (λ d. model.Operates (dial_of k rg) c op n (Err f) d c'' j) (sym same)
                  (prepared (dial_of k rg) op c n c₁ m before.2 (Err f) (dial_of k rg) c'' j
                  (model.broken (dial_of k rg) c₁ c'' op u m j f needs (subst (λ x. ForcesUnit u x m (Err f) j c'') acts.1 (h deferred)))),
            ),
      )

-- ---- the answers of the loop

abbrev is_fault : PsFault → Answer
is_fault f = Err f

some_fault : (why : MemFault) → IsSome (Option.Some why)
some_fault why = refl

module _ {R : Type 0} (op : ℕ) (k : Desk) (s : Seen R) (c : PsCore) (n : ℕ) (k₁ : Desk) (s₁ : Seen R) (c₁ : PsCore) (m : ℕ) (far : SoFar op k s c n k₁ s₁ c₁ m) (k' : Desk) (s' : Seen R) (c' : PsCore)
    (fault : Option MemFault) where
  pub done_on : m ≤ n → ActsOn op k₁ s₁ c₁ (Ok tt) k' s' c' → OperatesOn k s c op n (Ok tt) k' s' c' m fault
  done_on b h = (b, λ e. absurd (let a = e in cc), done_acts op k s c n k₁ s₁ c₁ m far k' s' c' h)

  pub raised_on : (e : PsError) → m ≤ n → ActsOn op k₁ s₁ c₁ (Err (Raised e)) k' s' c' → OperatesOn k s c op n (Err (Error e)) k' s' c' m fault
  raised_on e b h = (b, λ e. absurd (let a = e in cc), raised_acts op k s c n k₁ s₁ c₁ m far k' s' c' e h)

  pub wanting_on : m ≤ n → closed_part c'.store ≡ closed_part c₁.store → ActsOn op k₁ s₁ c₁ (Err Wanting) k' s' c' → OperatesOn k s c op n (Err NoMemory) k' s' c' m fault
  wanting_on b closed h =
      (b, λ e. absurd (let a = e in cc), (keeps_acts op k s c n k₁ s₁ c₁ m far k' s' c' h.0, λ rg r t. let before = far.told rg r t in acting before.2 (h.1 rg r before.0 ∙ ap (λ (d : Dial). d.target) before.1) closed))

  broken_by : (why : MemFault) → ActsOn op k₁ s₁ c₁ (Err (Broken why)) k' s' c' → KeepsFault (Some why) k s s'
  broken_by LinkFault h = rose_acts op k s c n k₁ s₁ c₁ m far k' s' c' h
  broken_by (BadReply frame) h = never_acts op k s c n k₁ s₁ c₁ m far k' s' c' h
  broken_by (Outside p) h = h

  pub broken_on : (why : MemFault) → m ≤ n → ActsOn op k₁ s₁ c₁ (Err (Broken why)) k' s' c' → OperatesOn k s c op n (Err Link) k' s' c' m (Some why)
  broken_on why b h = (b, λ e. some_fault why, broken_by why h)

  module _ (u : ℕ) (acts : ActsOn op k₁ s₁ c₁ (Err (Needs u)) k' s' c') (c'' : PsCore) (j : ℕ) where
    -- the unit that it needed was run
    pub forced_again : (res : Answer) → res ≡ Ok tt → (IsDeferred c'.store u → res ≢ Err NoMemory → ForcesUnit u c' m res j c'') → SoFar op k s c n k' s' c'' j
    forced_again res e h = forced_on op k s c n k₁ s₁ c₁ m far k' s' c' u acts c'' j (λ d. subst (λ r. ForcesUnit u c' m r j c'') e (h d (λ a. let x = a in let y = e in cc)))

    -- its run failed
    pub stopped_on : (f : PsFault) → j ≤ n → j ≤ m → closed_part c''.store ≡ closed_part c'.store → is_fault f ≢ Err Link → (IsDeferred c'.store u → is_fault f ≢ Err NoMemory → ForcesUnit u c' m (Err f) j c'') → OperatesOn k s c op n (Err f) k' s' c'' j fault
    stopped_on (Error e) b b' closed not_link h =
        (b, λ a. absurd (let x = a in cc), force_fails op k s c n k₁ s₁ c₁ m far k' s' c' u acts c'' j (Error e) (λ d. h d (λ a. let x = a in cc)))
    stopped_on Spent b b' closed not_link h = (b, λ a. absurd (let x = a in cc), force_fails op k s c n k₁ s₁ c₁ m far k' s' c' u acts c'' j Spent (λ d. h d (λ a. let x = a in cc)))
    stopped_on Link b b' closed not_link h = absurd (not_link refl)
    stopped_on NoMemory b b' closed not_link h =
        (b, λ a. absurd (let x = a in cc), (force_lacks op k s c n k₁ s₁ c₁ m far k' s' c' u acts c'' j, force_short op k s c n k₁ s₁ c₁ m far k' s' c' u acts c'' j b' closed))
