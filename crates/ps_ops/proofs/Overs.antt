-- An operator over the memory of a frame, by the memory below.
use Rattle.std.proofs.Common.{◌≡◌, ℕ, List, Option, Some, None, Result, Ok, Err, refl, sym, ap, subst, ◌∙◌}
use Rattle.ldb_edge.specs.Count.{Rose}
use Rattle.ldb_words.specs.declared.kinds.Order.{Order}
use Rattle.machine_state.specs.Regions.{Regions}
use Rattle.ps_step.specs.declared.fault.PsError.{PsError}
use Rattle.ps_step.specs.declared.fault.PsFault.TheVariants.{Error, Spent, Link, NoMemory}
use Rattle.ps_step.specs.declared.machine.PsCore.{PsCore}
use Rattle.ps_step.specs.Results.{◌>>=◌}
use Rattle.frame_bytes.specs.Bytes.{Bytes, places_of}
use Rattle.frame_bytes.specs.declared.frame.Frame.{Frame}
use Rattle.abs_mem.specs.Meaning.{Seen, Same}
use Rattle.abs_mem.specs.Layers.{AliasRest, AliasTells, CellTells, alias_seen, cell_seen}
use Rattle.abs_mem.specs.declared.memory.MemFault.TheVariants.{Outside, LinkFault, BadReply}
use Rattle.ps_places.specs.declared.access.Trouble.{Trouble}
use Rattle.ps_places.specs.declared.access.Trouble.TheVariants.{Ps, Broken}
use Rattle.ps_places.specs.Accesses as accesses
use Rattle.ps_places.specs.Accesses.{Over, ButCell}
use Rattle.ps_append.specs.Characters.{AppendsChars, appending_chars}
use Rattle.dialect_model.specs.Dial.{Dial, Acted, bytes_in, with_bytes}
use Rattle.dialect_model.specs.Acting.{with_told, with_text}
use Rattle.dialect_model.specs.Operators.{act}
use Rattle.ps_ops.specs.Desk.{Desk, dial_of, memory_of}
use Rattle.ps_ops.specs.Halts.{left_over}
use Rattle.ps_ops.specs.Asking.{LooksUp}
use Rattle.ps_ops.specs.Acting.{ActsOn}

some_is : (n m : ℕ) → Option.Some n ≡ Some m → m ≡ n
some_is n m h = cc

-- what holds of the memory of a frame, where its parts are known
pub framed : {R W : Type 0} (seen : W → Seen R) (P : Seen (AliasRest R) → Type 0) (m₀ m : W) (places₀ places : List (Option ℕ)) (order₀ order : Order) (cell₀ cell : ℕ) → m₀ ≡ m → places₀ ≡ places → order₀ ≡ order
    → cell₀ ≡ cell → P (cell_seen cell₀ (alias_seen places₀ order₀ (seen m₀))) → P (cell_seen cell (alias_seen places order (seen m)))
framed seen P m₀ m places₀ places order₀ order cell₀ cell em ep eo ec h =
    subst (λ x. P (cell_seen x (alias_seen places order (seen m)))) ec
    (subst (λ x. P (cell_seen cell₀ (alias_seen places x (seen m)))) eo
    (subst (λ x. P (cell_seen cell₀ (alias_seen x order₀ (seen m)))) ep (subst (λ x. P (cell_seen cell₀ (alias_seen places₀ order₀ (seen x)))) em h)))

module _ {R : Type 0} (n : ℕ) (k : Desk) (s s₁ s' : Seen R) (c c' : PsCore) (f : Option Frame) (look : Bytes → Acted (Option Frame)) (places : List (Option ℕ)) (order : Order) (cell : ℕ)
    (looked : LooksUp c.store look s (Ok f) s₁) where
  -- the memory of the frame before, and after
  abbrev before : Seen (AliasRest R)
  before = cell_seen k.cell (alias_seen (places_of f) k.order s₁)

  abbrev after : Seen (AliasRest R)
  after = cell_seen cell (alias_seen places order s')

  abbrev bytes : Regions → Bytes
  bytes rg = bytes_in (dial_of k rg) f

  abbrev rest : R → AliasRest R
  rest r = record { places = places_of f; order = k.order; below = r }

  told : (rg : Regions) (r : R) → s.tells (memory_of k rg) r → before.tells (bytes rg) (rest r)
  told rg r t = record { cell_is = refl; below = record { registers = refl; order_is = refl; rest_is = refl; below = looked.0.keeps (memory_of k rg) r t } }

  -- what was told still is
  still : (out : List ℕ) → Same before after → (rg : Regions) (r : R) → s.tells (memory_of k rg) r
      → s'.tells (memory_of (record k { order = order; cell = cell; out = out }) rg) r × (dial_of (record k { order = order; cell = cell; out = out }) rg ≡ dial_of (record k { out = out }) rg)
  still out h rg r t =
      let now : CellTells (alias_seen places order s') cell (bytes rg) (rest r) = h.keeps (bytes rg) (rest r) (told rg r t) in
      let there : AliasTells s' places order (record (bytes rg) { cell = None }) (rest r) = now.below in (
        subst (λ o. s'.tells (memory_of (record k { order = o; cell = cell; out = out }) rg) r) there.order_is there.below,
        ap (λ w. dial_of (record k { order = order; cell = w; out = out }) rg) (some_is k.cell cell now.cell_is)
            ∙ ap (λ o. dial_of (record k { order = o; out = out }) rg) (sym there.order_is),
      )

  -- but for the cell
  but_cell : ButCell before after → (rg : Regions) (r : R) → s.tells (memory_of k rg) r → AliasTells s' places order (record (bytes rg) { cell = None }) (rest r)
  but_cell h rg r t =
      let given = h.keeps (bytes rg) (rest r) (told rg r t) in
      let now : CellTells (alias_seen places order s') cell (record (bytes rg) { cell = given.0 }) (rest r) = given.1 in
      now.below

  rose : Rose s₁.faults s'.faults → Rose s.faults s'.faults
  rose h = subst (λ n. Rose n s'.faults) looked.0.faults h

  module _ (g : Bytes → PsCore → accesses.Act) (acts : (rg : Regions) → act n (dial_of k rg) c ≡ (look (memory_of k rg) >>= λ f. with_told (dial_of k rg) (g (bytes_in (dial_of k rg) f) c))) where
    pub over_acts : (r : Result (Unit {0}) Trouble) → Over g before c r after c' → ActsOn n k s c (left_over r) (record k { order = order; cell = cell }) s' c'
    over_acts (Ok x) h = (
      h.0 ∙ looked.0.faults,
      λ rg r t.
          let given = h.1 (bytes rg) (rest r) (told rg r t) in
          let now : CellTells (alias_seen places order s') cell given.0 (rest r) = given.1 in
          let there : AliasTells s' places order (record given.0 { cell = None }) (rest r) = now.below in (
            given.0.regions,
            subst (λ o. s'.tells (memory_of (record k { order = o; cell = cell }) given.0.regions) r) there.order_is there.below,
            acts rg ∙ ap (λ m. m >>= λ f. with_told (dial_of k rg) (g (bytes_in (dial_of k rg) f) c)) (looked.1.holds (memory_of k rg) r t)
                ∙ ap (with_told (dial_of k rg)) given.2
                ∙ ap (λ w. Ok (with_bytes (record given.0 { cell = w }) (dial_of k rg), c')) now.cell_is
                ∙ ap (λ o. Ok (with_bytes (record given.0 { order = o; cell = Some cell }) (dial_of k rg), c')) there.order_is,
          ),
    )
    over_acts (Err (Ps (Error e))) h = (
      h.0.faults ∙ looked.0.faults,
      h.1,
      λ rg r t.
          let on = still k.out h.0 rg r t in (
            on.0,
            on.1,
            acts rg ∙ ap (λ m. m >>= λ f. with_told (dial_of k rg) (g (bytes_in (dial_of k rg) f) c)) (looked.1.holds (memory_of k rg) r t)
                ∙ ap (with_told (dial_of k rg)) (h.2 (bytes rg) (rest r) (told rg r t)),
          ),
    )
    over_acts (Err (Ps NoMemory)) h = (
      record {
        faults = h.faults ∙ looked.0.faults;
        keeps =
            λ rg r t.
            let there = but_cell h rg r t in
            subst (λ o. s'.tells (memory_of (record k { order = o; cell = cell }) rg) r) there.order_is there.below;
      },
      λ rg r t. let there = but_cell h rg r t in ap (λ o. (dial_of (record k { order = o }) rg).target) (sym there.order_is),
    )
    over_acts (Err (Ps Spent)) h = absurd h
    over_acts (Err (Ps Link)) h = absurd h
    over_acts (Err (Broken LinkFault)) h = rose h
    over_acts (Err (Broken (BadReply frame))) h = record { faults = h.faults ∙ looked.0.faults; never = λ rg r t. h.never (bytes rg) (rest r) (told rg r t) }
    over_acts (Err (Broken (Outside p))) h = h

  module _ (acts : (rg : Regions) → act n (dial_of k rg) c ≡ (look (memory_of k rg) >>= λ f. with_text (dial_of k rg) (appending_chars k.out (bytes_in (dial_of k rg) f) c))) where
    pub chars_act : (out : List ℕ) (r : Result (Unit {0}) Trouble) → AppendsChars k.out before c r out after c' → ActsOn n k s c (left_over r) (record k { order = order; cell = cell; out = out }) s' c'
    chars_act out (Ok x) h = (
      h.0.faults ∙ looked.0.faults,
      λ rg r t.
          let on = still out h.0 rg r t in (
            rg,
            on.0,
            acts rg ∙ ap (λ m. m >>= λ f. with_text (dial_of k rg) (appending_chars k.out (bytes_in (dial_of k rg) f) c)) (looked.1.holds (memory_of k rg) r t)
                ∙ ap (with_text (dial_of k rg)) (h.1 (bytes rg) (rest r) (told rg r t)) ∙ ap (λ d. Ok (d, c')) (sym on.1),
          ),
    )
    chars_act out (Err (Ps (Error e))) h = (
      h.0.faults ∙ looked.0.faults,
      h.2,
      λ rg r t.
          let on = still out h.0 rg r t in (
            on.0,
            on.1 ∙ ap (λ o. dial_of (record k { out = o }) rg) h.1,
            acts rg ∙ ap (λ m. m >>= λ f. with_text (dial_of k rg) (appending_chars k.out (bytes_in (dial_of k rg) f) c)) (looked.1.holds (memory_of k rg) r t)
                ∙ ap (with_text (dial_of k rg)) (h.3 (bytes rg) (rest r) (told rg r t)),
          ),
    )
    chars_act out (Err (Ps NoMemory)) h = (
      record { faults = h.faults ∙ looked.0.faults; keeps = λ rg r t. let on = still out h rg r t in on.0 },
      λ rg r t. let on = still out h rg r t in ap (λ (d : Dial). d.target) on.1,
    )
    chars_act out (Err (Ps Spent)) h = absurd h
    chars_act out (Err (Ps Link)) h = absurd h
    chars_act out (Err (Broken LinkFault)) h = rose h
    chars_act out (Err (Broken (BadReply frame))) h = record { faults = h.faults ∙ looked.0.faults; never = λ rg r t. h.never (bytes rg) (rest r) (told rg r t) }
    chars_act out (Err (Broken (Outside p))) h = h
