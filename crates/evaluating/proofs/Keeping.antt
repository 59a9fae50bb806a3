-- Parts of commands that store nothing to the target, one after another.
use Rattle.std.proofs.Common.{◌≡◌, ◌∙◌, refl, sym, ap, subst, ℕ, false, List, [], ◌∷◌, Option, Some, None, Result, Ok, Err, IfErr}
use Rattle.ldb_edge.specs.Count.{Rose}
use Rattle.ldb_words.specs.declared.kinds.Kind.{Kind}
use Rattle.ldb_words.specs.declared.kinds.Order.{Order}
use Rattle.machine_state.specs.Regions.{Regions}
use Rattle.frame_bytes.specs.declared.frame.Place.{Place}
use Rattle.frame_bytes.specs.Bytes.{Bytes, no_places}
use Rattle.ps_store.specs.declared.object.PsObj.{PsObj}
use Rattle.ps_step.specs.declared.fault.PsError.TheVariants as error
use Rattle.abs_mem.specs.Meaning.{Seen, Same, Untold, Fetches, Stores}
use Rattle.abs_mem.specs.Layers.{AliasRest, AliasTells, CellTells, alias_seen, cell_seen}
use Rattle.abs_mem.specs.Walking.{Walks}
use Rattle.abs_mem.specs.declared.memory.MemFault.{MemFault}
use Rattle.abs_mem.specs.declared.memory.MemFault.TheVariants.{Outside, LinkFault, BadReply}
use Rattle.abs_mem.specs.declared.walk.WalkFault.{WalkFault}
use Rattle.abs_mem.specs.declared.walk.WalkFault.TheVariants as walk
use Rattle.abs_mem.proofs.Walks.{rose_then}
use Rattle.table_model.specs.Reading.{Walked}
use Rattle.dialect_model.specs.Dial.{Target}
use Rattle.ps_ops.specs.Acting.{KeepsMemory, NeverTold}
use Rattle.ps_ops.specs.Desk.{Desk, dial_of, target_of, memory_of}
use Rattle.ps_ops.specs.declared.dialect.Operators.{Operators}
use Rattle.told_runs.specs.Told.{desk, target, Tells, IsTold}
use Rattle.table_asks.specs.declared.fault.AskFault.{AskFault}
use Rattle.table_asks.specs.declared.fault.AskFault.TheVariants.{Refused, Raised, Spent, NoMemory, Broken}
use Rattle.table_asks.specs.declared.inquiry.Inquiry.{Inquiry}
use Rattle.table_asks.specs.Asking.{left_of, SettlesWalk}
use Rattle.table_asks.specs.Faults.{memory_fault}
use Rattle.table_asks.specs.Running.{RanOver, RunsOver, RunsSoFar}
use Rattle.ps_step.specs.State.{with_execution}
use Rattle.ps_step.specs.declared.item.Item.TheVariants.{Object}
use Rattle.asking.proofs.Unstored.{runs_stay, reaches_stay}
use Rattle.evaluating.specs.Told.{reasoned, Keeps, Fails, StoresNone, StoresAll, Changed, StoresLeaves, none_stored, stores}

module _ {W R : Type 0} (seen : W → Seen R) where
  -- ---- one part after another

  -- the memory itself is the same
  pub keeps_here : (o o' : Operators W) → o'.memory.below.below.below ≡ o.memory.below.below.below → o'.memory.below.below.order ≡ o.memory.below.below.order → Keeps seen o o'
  keeps_here o o' e f = record {
    faults = ap (λ (w : W). (seen w).faults) e;
    keeps = λ rg r t.
        subst (λ (w : W). (seen w).tells (memory_of (desk o') rg) r) (sym e)
        (subst (λ (x : Order). (target seen o).tells (record { order = x; regions = rg; registers = no_places; cell = None }) r) (sym f) t);
  }

  pub keeps_on : (a b c : Operators W) → Keeps seen a b → Keeps seen b c → Keeps seen a c
  keeps_on a b c h k = record { faults = k.faults ∙ h.faults; keeps = λ rg r t. k.keeps rg r (h.keeps rg r t) }

  -- a part that fails, behind one that kept the memory
  pub fails_on : (a b c : Operators W) → Keeps seen a b → (f : AskFault) → Fails seen b f c → Fails seen a f c
  fails_on a b c h (Refused cause) k = keeps_on a b c h k
  fails_on a b c h (Raised e) k = keeps_on a b c h k
  fails_on a b c h Spent k = keeps_on a b c h k
  fails_on a b c h NoMemory k = keeps_on a b c h k
  fails_on a b c h (Broken LinkFault) k = rose_then (target seen a).faults (target seen b).faults (target seen c).faults h.faults k
  fails_on a b c h (Broken (BadReply frame)) k = record { faults = k.faults ∙ h.faults; never = λ rg r t. k.never rg r (h.keeps rg r t) }
  fails_on a b c h (Broken (Outside p)) k = absurd k

  -- an error of the dialect, told as a refusal
  reasoned_as : (a c : Operators W) (f : AskFault) → Fails seen a f c → Fails seen a (reasoned f) c
  reasoned_as a c (Raised error.Overflow) k = k
  reasoned_as a c (Raised error.Division) k = k
  reasoned_as a c (Raised error.Shift) k = k
  reasoned_as a c (Raised error.Pointer) k = k
  reasoned_as a c other k = k

  pub reasoned_told : (a c : Operators W) (f why : AskFault) → why ≡ reasoned f → Fails seen a f c → Fails seen a why c
  reasoned_told a c f why is k = subst (λ (z : AskFault). Fails seen a z c) (sym is) (reasoned_as a c f k)

  -- ---- the memory of the target alone

  abbrev with_memory : Operators W → W → Operators W
  with_memory o w = record o { memory = record o.memory { below = record o.memory.below { below = record o.memory.below.below { below = w } } } }

  pub same_keeps : (o : Operators W) (w : W) → Same (target seen o) (seen w) → Keeps seen o (with_memory o w)
  same_keeps o w h = record { faults = h.faults; keeps = λ rg r t. h.keeps (memory_of (desk o) rg) r t }

  untold_never : (o : Operators W) (w : W) → Untold (target seen o) (seen w) → NeverTold (desk o) (target seen o) (seen w)
  untold_never o w h = record { faults = h.faults; never = λ rg r t. h.never (memory_of (desk o) rg) r t }

  -- a walk, one after others that changed nothing
  pub walked : {A : Type 0} (f : Bytes → Walked A) (s t : Seen R) (x : A) → Walks f s (Ok x) t → Same s t
  walked f s t x h = h.0

  same_on : (s t u : Seen R) → Same s t → Same t u → Same s u
  same_on s t u h k = record { faults = k.faults ∙ h.faults; keeps = λ b r x. k.keeps b r (h.keeps b r x) }

  pub walked_on : {A : Type 0} (f : Bytes → Walked A) (s t u : Seen R) (x : A) → Same s t → Walks f t (Ok x) u → Same s u
  walked_on f s t u x h k = same_on s t u h k.0

  -- what it met was settled
  pub settled_on : {A : Type 0} (f : Bytes → Walked A) (s t u : Seen R) (fault : WalkFault) (i i' : Inquiry) → Same s t → Walks f t (Err fault) u → SettlesWalk fault i (Ok tt) i' → Same s u
  settled_on f s t u (walk.Memory (Outside p)) i i' h k w = absurd (let e = w.0 in cc)
  settled_on f s t u (walk.Memory LinkFault) i i' h k w = absurd (let e = w.0 in cc)
  settled_on f s t u (walk.Memory (BadReply frame)) i i' h k w = absurd (let e = w.0 in cc)
  settled_on f s t u (walk.Shape missing) i i' h k w = absurd (let e = w.0 in cc)
  settled_on f s t u (walk.Unforced n) i i' h k w = same_on s t u h k.0

  abbrev ask_err : AskFault → Result (Unit {0}) AskFault
  ask_err f = Err f

  err_is : (f g : AskFault) → ask_err f ≡ Err g → f ≡ g
  err_is f g e = cc

  -- or it wasn't
  settles_unbroken : (o : Operators W) (w : W) (u : ℕ) (i i' : Inquiry) (f : AskFault) → Keeps seen o (with_memory o w) → SettlesWalk (walk.Unforced u) i (Err f) i' → Fails seen o f (with_memory o w)
  settles_unbroken o w u i i' (Refused cause) h k = absurd k
  settles_unbroken o w u i i' (Raised e) h k = h
  settles_unbroken o w u i i' Spent h k = h
  settles_unbroken o w u i i' NoMemory h k = h
  settles_unbroken o w u i i' (Broken x) h k = absurd k

  pub walk_fails : {A : Type 0} (m : Bytes → Walked A) (o : Operators W) (t : Seen R) (w : W) (fault : WalkFault) (f : AskFault) (i i' : Inquiry) → Same (target seen o) t → Walks m t (Err fault) (seen w) → SettlesWalk fault i (Err f) i' → Fails seen o f (with_memory o w)
  walk_fails m o t w (walk.Memory (Outside p)) f i i' h k e = subst (λ (x : AskFault). Fails seen o x (with_memory o w)) (sym (err_is f _ e.0)) (same_keeps o w (same_on (target seen o) t (seen w) h k.0))
  walk_fails m o t w (walk.Memory LinkFault) f i i' h k e = subst (λ (x : AskFault). Fails seen o x (with_memory o w)) (sym (err_is f _ e.0)) (rose_then (target seen o).faults t.faults (seen w).faults h.faults k)
  walk_fails m o t w (walk.Memory (BadReply frame)) f i i' h k e =
      subst (λ (x : AskFault). Fails seen o x (with_memory o w)) (sym (err_is f _ e.0)) (untold_never o w (record { faults = k.faults ∙ h.faults; never = λ b r x. k.never b r (h.keeps b r x) }))
  walk_fails m o t w (walk.Shape missing) f i i' h k e = subst (λ (x : AskFault). Fails seen o x (with_memory o w)) (sym (err_is f _ e.0)) (same_keeps o w (same_on (target seen o) t (seen w) h k.0))
  walk_fails m o t w (walk.Unforced u) f i i' h k e = settles_unbroken o w u i i' f (same_keeps o w (same_on (target seen o) t (seen w) h k.0)) e

  -- ---- the memory of a frame

  abbrev pub joined : Operators W → Seen (AliasRest R)
  joined o = cell_seen o.memory.below.cell (alias_seen o.memory.below.below.places o.memory.below.below.order (target seen o))

  abbrev pub bytes : Operators W → Regions → Bytes
  bytes o rg = record { order = o.memory.below.below.order; regions = rg; registers = o.memory.below.below.places; cell = Some o.memory.below.cell }

  abbrev pub rest : Operators W → R → AliasRest R
  rest o r = record { places = o.memory.below.below.places; order = o.memory.below.below.order; below = r }

  pub joined_told : (o : Operators W) (rg : Regions) (r : R) → (target seen o).tells (memory_of (desk o) rg) r → (joined o).tells (bytes o rg) (rest o r)
  joined_told o rg r t = record { cell_is = refl; below = record { registers = refl; order_is = refl; rest_is = refl; below = t } }

  pub joined_keeps : (o o' : Operators W) → Same (joined o) (joined o') → Keeps seen o o'
  joined_keeps o o' h = record {
    faults = h.faults;
    keeps = λ rg r t.
        let now : CellTells (alias_seen o'.memory.below.below.places o'.memory.below.below.order (target seen o')) o'.memory.below.cell (bytes o rg) (rest o r) = h.keeps (bytes o rg) (rest o r) (joined_told o rg r t) in
        let there : AliasTells (target seen o') o'.memory.below.below.places o'.memory.below.below.order (record (bytes o rg) { cell = None }) (rest o r) = now.below in
        subst (λ (x : Order). (target seen o').tells (record { order = x; regions = rg; registers = no_places; cell = None }) r) there.order_is there.below;
  }

  pub fetch_keeps : (o o' : Operators W) (p : Place) (k : Kind) (v : ℕ) → Fetches (joined o) p k (Ok v) (joined o') → Keeps seen o o'
  fetch_keeps o o' p k v h = joined_keeps o o' h.0

  pub fetch_fails : (o o' : Operators W) (p : Place) (k : Kind) (fault : MemFault) → Fetches (joined o) p k (Err fault) (joined o') → Fails seen o (memory_fault fault) o'
  fetch_fails o o' p k (Outside q) h = joined_keeps o o' h.1
  fetch_fails o o' p k LinkFault h = h
  fetch_fails o o' p k (BadReply frame) h = record { faults = h.faults; never = λ rg r t. h.never (bytes o rg) (rest o r) (joined_told o rg r t) }

  -- ---- a run

  abbrev pub some_target : Target → Option Target
  some_target t = Some t

  pub target_is : (t u : Target) → some_target t ≡ Some u → t ≡ u
  target_is t u e = cc

  module _ (leads : W → Option (List ℕ) → W → Type 0) (what : PsObj) (i i' : Inquiry) (o o' : Operators W) (dark : o.view.raw ≡ false) where
    told_keeps : (answer : _) → (target seen o').faults ≡ (target seen o).faults
        → ((rg : Regions) (r : R) → Tells seen o rg r → (execution : _) × IsTold seen r rg (left_of i) o (with_execution i.core (Object what ∷ [])) answer (left_of i') o' (with_execution i'.core execution)) → Keeps seen o o'
    told_keeps answer e h = record {
      faults = e;
      keeps = λ rg r t.
          let y = h rg r t in
          let w = runs_stay (left_of i) (dial_of (desk o) rg) (with_execution i.core (Object what ∷ [])) answer (left_of i') (dial_of (desk o') y.1.regions') (with_execution i'.core y.0) y.1.runs dark in
          let is : target_of o'.view o'.memory.below.below.order y.1.regions' ≡ target_of o.view o.memory.below.below.order rg = target_is _ _ w.0 in
          subst (λ (m : Regions). (target seen o').tells (memory_of (desk o') m) r) (ap (λ (z : Target). z.regions) is) y.1.tells;
    }

    -- memory ran out
    short_keeps : (target seen o').faults ≡ (target seen o).faults → RunsSoFar seen what i o o' → Keeps seen o o'
    short_keeps e h = record {
      faults = e;
      keeps = λ rg r t.
          let y = h rg r t in
          let w = reaches_stay (left_of i) (dial_of (desk o) rg) (with_execution i.core (Object what ∷ [])) y.left' y.dial y.core y.reaches dark in
          let is : target_of o'.view o'.memory.below.below.order y.regions' ≡ target_of o.view o.memory.below.below.order rg = target_is _ _ (y.target ∙ w.0) in
          subst (λ (m : Regions). (target seen o').tells (memory_of (desk o') m) r) (ap (λ (z : Target). z.regions) is) y.tells;
    }

    pub ran_keeps : RanOver seen leads {A = Unit {0}} o.memory.below.below.below (Ok tt) o'.memory.below.below.below → RunsOver seen what i o (Ok tt) i' o' → Keeps seen o o'
    ran_keeps ran runs = told_keeps (Ok tt) ran.0 runs

    pub ran_fails : (f : AskFault) → RanOver seen leads {A = Unit {0}} o.memory.below.below.below (Err f) o'.memory.below.below.below → RunsOver seen what i o (Err f) i' o' → Fails seen o f o'
    ran_fails (Refused cause) ran runs = absurd runs
    ran_fails (Raised e) ran runs = told_keeps _ ran.0 runs
    ran_fails Spent ran runs = told_keeps _ ran.0 runs
    ran_fails NoMemory ran runs = short_keeps ran.0 runs
    ran_fails (Broken LinkFault) ran runs = ran
    ran_fails (Broken (BadReply frame)) ran runs = record { faults = ran.0; never = runs }
    ran_fails (Broken (Outside p)) ran runs = absurd ran

    pub ran_told : (r : Result (Unit {0}) AskFault) → RanOver seen leads o.memory.below.below.below r o'.memory.below.below.below → RunsOver seen what i o r i' o' → StoresNone seen o r o'
    ran_told (Ok tt) ran runs = ran_keeps ran runs
    ran_told (Err f) ran runs = ran_fails f ran runs

module _ {W R : Type 0} (seen : W → Seen R) where
  -- one part behind another
  pub runs_on : {A : Type 0} (a b c : Operators W) → Keeps seen a b → (r : Result A AskFault) → StoresNone seen b r c → StoresNone seen a r c
  runs_on a b c h (Ok x) k = keeps_on seen a b c h k
  runs_on a b c h (Err f) k = fails_on seen a b c h f k

  -- where what stands beside the memory was changed before it
  pub through : {A : Type 0} (a b b' c : Operators W) → b'.memory.below.below.below ≡ b.memory.below.below.below → b'.memory.below.below.order ≡ b.memory.below.below.order → Keeps seen a b → (r : Result A AskFault) → StoresNone seen b' r c → StoresNone seen a r c
  through a b b' c e f h r k = runs_on a b' c (keeps_on seen a b b' h (keeps_here seen b b' e f)) r k

  -- and behind it
  pub kept_as : (a b : Operators W) (k : Desk) → k.order ≡ b.memory.below.below.order → Keeps seen a b → KeepsMemory (desk a) (target seen a) k (target seen b)
  kept_as a b k e h = record {
    faults = h.faults;
    keeps = λ rg r t. subst (λ (x : Order). (target seen b).tells (record { order = x; regions = rg; registers = no_places; cell = None }) r) (sym e) (h.keeps rg r t);
  }

  -- ---- what is stored in leaves

  pub nothing_changed : (o o' : Operators W) → o'.memory.below.below.below ≡ o.memory.below.below.below → o'.memory.below.below.order ≡ o.memory.below.below.order → Changed seen o o'
  nothing_changed o o' e f = record {
    faults = ap (λ (w : W). (seen w).faults) e;
    after = λ r rest t. (
      r,
      subst (λ (x : Order). StoresLeaves o.memory.below.below.order r x r) (sym f) none_stored,
      (keeps_here seen o o' e f).keeps r rest t,
    );
  }

  -- one more
  pub stored_on : (a b c : Operators W) (p : Place) (k : Kind) (v : ℕ) → Changed seen a b → Stores (joined seen b) p k v (Ok tt) (joined seen c) → Changed seen a c
  stored_on a b c p k v h s = record {
    faults = s.faults ∙ h.faults;
    after = λ r r' t.
        let x = h.after r r' t in
        let given = s.after (bytes seen b x.0) (rest seen b r') (joined_told seen b x.0 r' x.2) in
        let now : CellTells (alias_seen c.memory.below.below.places c.memory.below.below.order (target seen c)) c.memory.below.cell given.0 (rest seen b r') = given.2 in
        let there : AliasTells (target seen c) c.memory.below.below.places c.memory.below.below.order (record given.0 { cell = None }) (rest seen b r') = now.below in (
          given.0.regions,
          subst (λ (z : Order). StoresLeaves a.memory.below.below.order r z given.0.regions) there.order_is (stores (bytes seen b x.0) given.0 p.space p.at k v x.1 given.1),
          subst (λ (z : Order). (target seen c).tells (record { order = z; regions = given.0.regions; registers = no_places; cell = None }) r') there.order_is there.below,
        );
  }

  pub store_fails : (a b c : Operators W) (p : Place) (k : Kind) (v : ℕ) (fault : MemFault) → Changed seen a b → Stores (joined seen b) p k v (Err fault) (joined seen c) → StoresAll seen a (Err (memory_fault fault)) c
  store_fails a b c p k v (Outside q) h s =
      let same = joined_keeps seen b c s.1 in
      record {
        faults = same.faults ∙ h.faults;
        after = λ r r' t.
            let x = h.after r r' t in
            let now : CellTells (alias_seen c.memory.below.below.places c.memory.below.below.order (target seen c)) c.memory.below.cell (bytes seen b x.0) (rest seen b r') = s.1.keeps (bytes seen b x.0) (rest seen b r') (joined_told seen b x.0 r' x.2) in
            let there : AliasTells (target seen c) c.memory.below.below.places c.memory.below.below.order (record (bytes seen b x.0) { cell = None }) (rest seen b r') = now.below in
            (x.0, subst (λ (z : Order). StoresLeaves a.memory.below.below.order r z x.0) there.order_is x.1, same.keeps x.0 r' x.2);
      }
  store_fails a b c p k v LinkFault h s = rose_then (target seen a).faults (target seen b).faults (target seen c).faults h.faults s
  store_fails a b c p k v (BadReply frame) h s = record {
    faults = s.faults ∙ h.faults;
    never = λ r r' t. let x = h.after r r' t in s.never (bytes seen b x.0) (rest seen b r') (joined_told seen b x.0 r' x.2);
  }
