-- Operators on places and operators that append, by what they look up.
use Rattle.std.proofs.Common.{◌≡◌, ◌∙◌, ℕ, List, Option, Some, None, Result, Ok, Err, refl, ap, option_map, option_copied, Bor}
use Rattle.ldb_words.specs.declared.kinds.Kind.{Kind}
use Rattle.ldb_words.specs.declared.kinds.Order.{Order}
use Rattle.machine_state.specs.Regions.{Regions}
use Rattle.ps_step.specs.declared.fault.PsError.{PsError}
use Rattle.ps_step.specs.declared.machine.PsCore.{PsCore}
use Rattle.ps_step.specs.Effects.{Does}
use Rattle.ps_run.specs.Runs.{Answer}
use Rattle.frame_bytes.specs.Bytes.{Bytes, places_of}
use Rattle.frame_bytes.specs.declared.frame.Frame.{Frame}
use Rattle.frame_bytes.specs.declared.frame.Place.{Place}
use Rattle.table_model.specs.declared.found.Found.{Found}
use Rattle.abs_mem.specs.Meaning.{Seen}
use Rattle.abs_mem.specs.Layers.{alias_seen, cell_seen}
use Rattle.ps_places.specs.declared.access.Trouble.{Trouble}
use Rattle.ps_places.specs.Places as places
use Rattle.ps_places.specs.Accesses as accesses
use Rattle.ps_places.specs.Accesses.{Over}
use Rattle.ps_append.specs.Appending as texts
use Rattle.ps_append.specs.Appending.{Appends}
use Rattle.ps_append.specs.Characters.{AppendsChars, string_place, appending_chars}
use Rattle.ps_leaves.specs.Forms as forms
use Rattle.dialect_model.specs.Dial.{Acted, bytes_in}
use Rattle.dialect_model.specs.Acting.{with_state, with_told, with_text}
use Rattle.ps_bare.proofs.Acts.{acts_2, acts_6, acts_7, acts_28, acts_29, acts_30, acts_31}
use Rattle.ps_ops.specs.declared.view.View.{View}
use Rattle.ps_ops.specs.declared.halt.Halt.{Halt}
use Rattle.ps_ops.specs.declared.halt.Halt.TheVariants.{Raised}
use Rattle.ps_ops.specs.Desk.{Desk, desk_of, dial_of}
use Rattle.ps_ops.specs.Halts.{left, left_over}
use Rattle.ps_ops.specs.Asking.{LooksUp, frame_by, frame_for, found_by}
use Rattle.ps_ops.specs.Acting.{ActsOn}
use Rattle.ps_ops.proofs.Asked.{unasked, look_halts, look_leaves, text_acts}
use Rattle.ps_ops.proofs.Looking.{looks_given}
use Rattle.ps_ops.proofs.Overs.{framed, over_acts, chars_act}
use Rattle.ps_ops.proofs.Equations.{then_err, local_is, value_is, fetch_is, store_is, chars_are, pointer_is}

-- nothing is looked up
abbrev nothing : Bytes → Acted (Unit {0})
nothing b = Ok tt

abbrev no_frame : Bytes → Acted (Option Frame)
no_frame b = Ok None

module _ {R : Type 0} (v : View) (o : Order) (cell : ℕ) (out : List ℕ) (s : Seen R) (c : PsCore) where
  abbrev k : Desk
  k = desk_of v o cell out

  pub local_unasked : (e : PsError) → places.top_word c ≡ Err e → ActsOn 2 (desk_of v o cell out) s c (Err (Raised e)) (desk_of v o cell out) s c
  local_unasked e h = unasked 2 k s c e (λ rg. acts_2 (dial_of k rg) c ∙ then_err (places.top_word c) _ e h)

  pub fetch_unasked : (e : PsError) → accesses.fetch_of c ≡ Err e → ActsOn 6 (desk_of v o cell out) s c (Err (Raised e)) (desk_of v o cell out) s c
  fetch_unasked e h = unasked 6 k s c e (λ rg. acts_6 (dial_of k rg) c ∙ then_err (accesses.fetch_of c) _ e h)

  pub store_unasked : (e : PsError) → accesses.store_of v.raw c ≡ Err e → ActsOn 7 (desk_of v o cell out) s c (Err (Raised e)) (desk_of v o cell out) s c
  store_unasked e h = unasked 7 k s c e (λ rg. acts_7 (dial_of k rg) c ∙ then_err (accesses.store_of v.raw c) _ e h)

  pub pointer_unasked : (e : PsError) → places.top_word c ≡ Err e → ActsOn 30 (desk_of v o cell out) s c (Err (Raised e)) (desk_of v o cell out) s c
  pointer_unasked e h = unasked 30 k s c e (λ rg. acts_30 (dial_of k rg) c ∙ then_err (places.top_word c) _ e h)

  pub chars_unasked : (e : PsError) → string_place c ≡ Err e → ActsOn 31 (desk_of v o cell out) s c (Err (Raised e)) (desk_of v o cell out) s c
  chars_unasked e h = unasked 31 k s c e (λ rg. acts_31 (dial_of k rg) c ∙ then_err (string_place c) _ e h)

  -- `Put`, `PutChar`
  module _ (out' : List ℕ) (r : Answer) (c' : PsCore) where
    pub put_acts : Appends 1 (texts.string_text_of c) out c r out' c' → ActsOn 28 (desk_of v o cell out) s c (left r) (desk_of v o cell out') s c'
    put_acts d = text_acts 28 k s c nothing (λ x. texts.string_text_of c) tt s r out' c' (λ rg. acts_28 (dial_of k rg) c) (looks_given c.store nothing s tt (λ b. refl)) d

    pub put_char_acts : Appends 1 (texts.char_text_of c) out c r out' c' → ActsOn 29 (desk_of v o cell out) s c (left r) (desk_of v o cell out') s c'
    put_char_acts d = text_acts 29 k s c nothing (λ x. texts.char_text_of c) tt s r out' c' (λ rg. acts_29 (dial_of k rg) c) (looks_given c.store nothing s tt (λ b. refl)) d

  module _ (s' : Seen R) where
    -- `Local`
    module _ (n : ℕ) (h : places.top_word c ≡ Ok n) where
      pub local_halts : (x : Halt) → LooksUp c.store (λ b. frame_by v c.store b) s (Err x) s' → ActsOn 2 (desk_of v o cell out) s c (Err x) (desk_of v o cell out) s' c
      local_halts x l =
          look_halts 2 k s c (λ b. frame_by v c.store b) (λ d (f : Option Frame). with_state d (places.placing_local (option_map (λ (f : Frame). f.base) f) c)) s' x (λ rg. local_is k rg c n h) l

      pub local_leaves : (f : Option Frame) (r : Answer) (c' : PsCore) → LooksUp c.store (λ b. frame_by v c.store b) s (Ok f) s' → Does r c c' (places.placing_local (option_map (λ (f : Frame). f.base) f) c)
          → ActsOn 2 (desk_of v o cell out) s c (left r) (desk_of v o cell out) s' c'
      local_leaves f r c' l d =
          look_leaves 2 k s c (λ b. frame_by v c.store b) (λ (f : Option Frame). places.placing_local (option_map (λ (f : Frame). f.base) f) c) f s' r c' (λ rg. local_is k rg c n h) l d

    -- `PutPointer`
    module _ (p : ℕ) (h : places.top_word c ≡ Ok p) where
      pub pointer_halts : (x : Halt) → LooksUp c.store (λ b. found_by v c.store b p) s (Err x) s' → ActsOn 30 (desk_of v o cell out) s c (Err x) (desk_of v o cell out) s' c
      pointer_halts x l =
          look_halts 30 k s c (λ b. found_by v c.store b p) (λ d (o : Option Found). with_text d (texts.appending 1 (forms.pointer_text_of o c) out c)) s' x (λ rg. pointer_is k rg c p h) l

      pub pointer_put : (found : Option Found) (r : Answer) (out' : List ℕ) (c' : PsCore) → LooksUp c.store (λ b. found_by v c.store b p) s (Ok found) s'
          → Appends 1 (forms.pointer_text_of found c) out c r out' c' → ActsOn 30 (desk_of v o cell out) s c (left r) (desk_of v o cell out') s' c'
      pointer_put found r out' c' l d =
          text_acts 30 k s c (λ b. found_by v c.store b p) (λ (o : Option Found). forms.pointer_text_of o c) found s' r out' c' (λ rg. pointer_is k rg c p h) l d

    -- the frame of `fetch`, `store` and `PutChars`
    module _ (x : Halt) where
      pub fetch_halts : (p : Place) (kind : Kind) → accesses.fetch_of c ≡ Ok (p, kind) → LooksUp c.store (λ b. frame_for v c.store b p.space) s (Err x) s' → ActsOn 6 (desk_of v o cell out) s c (Err x) (desk_of v o cell out) s' c
      fetch_halts p kind h l =
          look_halts 6 k s c (λ b. frame_for v c.store b p.space) (λ d (f : Option Frame). with_told d (accesses.fetching (bytes_in d f) c)) s' x (λ rg. fetch_is k rg c (p, kind) h) l

      pub store_halts : (p : Place) (kind : Kind) (n : ℕ) → accesses.store_of v.raw c ≡ Ok (p, kind, n) → LooksUp c.store (λ b. frame_for v c.store b p.space) s (Err x) s'
          → ActsOn 7 (desk_of v o cell out) s c (Err x) (desk_of v o cell out) s' c
      store_halts p kind n h l =
          look_halts 7 k s c (λ b. frame_for v c.store b p.space) (λ d (f : Option Frame). with_told d (accesses.storing v.raw (bytes_in d f) c)) s' x (λ rg. store_is k rg c (p, kind, n) h) l

      pub chars_halt : (p : Place) (n : ℕ) → string_place c ≡ Ok (p, n) → LooksUp c.store (λ b. frame_for v c.store b p.space) s (Err x) s' → ActsOn 31 (desk_of v o cell out) s c (Err x) (desk_of v o cell out) s' c
      chars_halt p n h l =
          look_halts 31 k s c (λ b. frame_for v c.store b p.space) (λ d (f : Option Frame). with_text d (appending_chars out (bytes_in d f) c)) s' x (λ rg. chars_are k rg c (p, n) h) l

-- ---- over the memory of a frame that was found: what holds of the memory with the frame set

-- the registers of a frame that is set
pub places_set : (x : Option (Bor Frame)) (f : Option Frame) (places : List (Option ℕ)) → places ≡ places_of (option_map (λ (b : Bor Frame). b.now) x) → option_copied x ≡ f → places ≡ places_of f
places_set x f places e same = e ∙ ap places_of same

module _ {R W : Type 0} (seen : W → Seen R) (v : View) (o : Order) (cell : ℕ) (out : List ℕ) (m m₁ m₂ m' : W) (c c' : PsCore) (f : Option Frame) (places₁ places' : List (Option ℕ)) (order₁ order' : Order) (cell₁ cell' : ℕ)
    (r : Result (Unit {0}) Trouble) (em : m₂ ≡ m₁) (ep : places₁ ≡ places_of f) (eo : order₁ ≡ o) (ec : cell₁ ≡ cell) where
  abbrev kept : Desk
  kept = desk_of v o cell out

  pub value_put : m₁ ≡ m → f ≡ None → Over accesses.placing_value (cell_seen cell₁ (alias_seen places₁ order₁ (seen m₂))) c r (cell_seen cell' (alias_seen places' order' (seen m'))) c'
      → ActsOn 4 (desk_of v o cell out) (seen m) c (left_over r) (desk_of v order' cell' out) (seen m') c'
  value_put e n h =
      over_acts 4 kept (seen m) (seen m) (seen m') c c' None no_frame places' order' cell' (looks_given c.store no_frame (seen m) None (λ b. refl)) accesses.placing_value (λ rg. value_is kept rg c) r
      (framed seen (λ t. Over accesses.placing_value t c r (cell_seen cell' (alias_seen places' order' (seen m'))) c') m₂ m places₁ (places_of None) order₁ o cell₁ cell (em ∙ e) (ep ∙ ap places_of n) eo ec h)

  module _ (p : Place) (l : LooksUp c.store (λ b. frame_for v c.store b p.space) (seen m) (Ok f) (seen m₁)) where
    pub fetch_acts : (kind : Kind) → accesses.fetch_of c ≡ Ok (p, kind) → Over accesses.fetching (cell_seen cell₁ (alias_seen places₁ order₁ (seen m₂))) c r (cell_seen cell' (alias_seen places' order' (seen m'))) c'
        → ActsOn 6 (desk_of v o cell out) (seen m) c (left_over r) (desk_of v order' cell' out) (seen m') c'
    fetch_acts kind e h =
        over_acts 6 kept (seen m) (seen m₁) (seen m') c c' f (λ b. frame_for v c.store b p.space) places' order' cell' l accesses.fetching (λ rg. fetch_is kept rg c (p, kind) e) r
        (framed seen (λ t. Over accesses.fetching t c r (cell_seen cell' (alias_seen places' order' (seen m'))) c') m₂ m₁ places₁ (places_of f) order₁ o cell₁ cell em ep eo ec h)

    pub store_acts : (kind : Kind) (n : ℕ) → accesses.store_of v.raw c ≡ Ok (p, kind, n)
        → Over (accesses.storing v.raw) (cell_seen cell₁ (alias_seen places₁ order₁ (seen m₂))) c r (cell_seen cell' (alias_seen places' order' (seen m'))) c'
        → ActsOn 7 (desk_of v o cell out) (seen m) c (left_over r) (desk_of v order' cell' out) (seen m') c'
    store_acts kind n e h =
        over_acts 7 kept (seen m) (seen m₁) (seen m') c c' f (λ b. frame_for v c.store b p.space) places' order' cell' l (accesses.storing v.raw) (λ rg. store_is kept rg c (p, kind, n) e) r
        (framed seen (λ t. Over (accesses.storing v.raw) t c r (cell_seen cell' (alias_seen places' order' (seen m'))) c') m₂ m₁ places₁ (places_of f) order₁ o cell₁ cell em ep eo ec h)

    pub chars_put : (n : ℕ) (out' : List ℕ) → string_place c ≡ Ok (p, n) → AppendsChars out (cell_seen cell₁ (alias_seen places₁ order₁ (seen m₂))) c r out' (cell_seen cell' (alias_seen places' order' (seen m'))) c'
        → ActsOn 31 (desk_of v o cell out) (seen m) c (left_over r) (desk_of v order' cell' out') (seen m') c'
    chars_put n out' e h =
        chars_act 31 kept (seen m) (seen m₁) (seen m') c c' f (λ b. frame_for v c.store b p.space) places' order' cell' l (λ rg. chars_are kept rg c (p, n) e) out' r
        (framed seen (λ t. AppendsChars out t c r out' (cell_seen cell' (alias_seen places' order' (seen m'))) c') m₂ m₁ places₁ (places_of f) order₁ o cell₁ cell em ep eo ec h)
