-- What is looked up for an operator.
use Rattle.std.proofs.Common.{◌≡◌, ℕ, zero, suc, Option, Some, None, Result, Ok, Err, refl, ap, subst, ◌∙◌}
use Rattle.ps_store.specs.StoreState.{StoreState}
use Rattle.ps_store.specs.declared.object.DictId.{DictId}
use Rattle.ps_step.specs.declared.fault.PsError.{PsError}
use Rattle.ps_step.specs.declared.fault.PsError.TheVariants.{RangeCheck}
use Rattle.ps_step.specs.Results.{◌>>=◌}
use Rattle.frame_bytes.specs.Bytes.{Bytes}
use Rattle.frame_bytes.specs.declared.frame.Frame.{Frame}
use Rattle.table_model.specs.declared.lack.Lack.{Lack}
use Rattle.table_model.specs.declared.lack.Lack.TheVariants.{Missing, WrongType, Outside as NotHeld, NoPoint, TooDeep, Unforced}
use Rattle.table_model.specs.declared.found.Found.{Found}
use Rattle.table_model.specs.Frames.{row_of_target, frame_at}
use Rattle.table_model.specs.Symbols.{scope_of}
use Rattle.table_model.specs.Objects.{found_at}
use Rattle.ps_places.specs.Lacks.{error_of}
use Rattle.abs_mem.specs.Meaning.{Seen}
use Rattle.abs_mem.specs.Walking.{Walks}
use Rattle.abs_mem.specs.declared.memory.MemFault.TheVariants.{Outside, LinkFault, BadReply}
use Rattle.abs_mem.specs.declared.walk.WalkFault.{WalkFault}
use Rattle.dialect_model.specs.Dial.{Acted, Raises, looked}
use Rattle.ps_bare.proofs.Lacking.{Lacks, frame_at_lacks, found_at_lacks, scope_of_lacks}
use Rattle.ps_ops.specs.declared.view.View.{View}
use Rattle.ps_ops.specs.declared.view.Standing.TheVariants as standing
use Rattle.ps_ops.specs.declared.halt.Halt.{Halt}
use Rattle.ps_ops.specs.declared.halt.Halt.TheVariants.{Raised, Wanting, Broken, Needs}
use Rattle.ps_ops.specs.Halts.{halted, halted_of}
use Rattle.ps_ops.specs.Asking.{LooksUp, frame_on, frame_by, or_no_frame, scope_on, scope_by, found_by, found_behind, found_two}
use Rattle.ps_ops.proofs.Halting.{looks_up}
use Rattle.ps_ops.proofs.Asked.{looks_then}

-- the same function of the bytes, put otherwise
pub looks_as : {R A : Type 0} (t : StoreState) (f g : Bytes → Acted A) (s s' : Seen R) (r : Result A Halt) → ((b : Bytes) → g b ≡ f b) → LooksUp t f s r s' → LooksUp t g s r s'
looks_as t f g s s' (Ok x) e h = (h.0, record { holds = λ b r q. e b ∙ h.1.holds b r q })
looks_as t f g s s' (Err (Raised x)) e h = (h.0, record { holds = λ b r q. e b ∙ h.1.holds b r q })
looks_as t f g s s' (Err (Needs u)) e h = (h.0, record { holds = λ b r q. let on = h.1.holds b r q in (e b ∙ on.0, on.1) })
looks_as t f g s s' (Err Wanting) e h = h
looks_as t f g s s' (Err (Broken LinkFault)) e h = h
looks_as t f g s s' (Err (Broken (BadReply frame))) e h = h
looks_as t f g s s' (Err (Broken (Outside p))) e h = h

-- the memory is not asked
pub looks_given : {R A : Type 0} (t : StoreState) (f : Bytes → Acted A) (s : Seen R) (x : A) → ((b : Bytes) → f b ≡ Ok x) → LooksUp t f s (Ok x) s
looks_given t f s x e = (record { faults = refl; keeps = λ b r q. q }, record { holds = λ b r q. e b })

looks_raised : {R A : Type 0} (t : StoreState) (f : Bytes → Acted A) (s : Seen R) (e : PsError) → ((b : Bytes) → f b ≡ Err (Raises e)) → LooksUp t f s (Err (Raised e)) s
looks_raised t f s x e = (record { faults = refl; keeps = λ b r q. q }, record { holds = λ b r q. e b })

-- what comes behind a look-up that had no result
pub looks_fail : {R A B : Type 0} (t : StoreState) (f : Bytes → Acted A) (k : Bytes → A → Acted B) (s s' : Seen R) (x : Halt) → LooksUp t f s (Err x) s' → LooksUp t (λ b. f b >>= k b) s (Err x) s'
looks_fail t f k s s' (Raised e) h = (h.0, record { holds = λ b r q. ap (λ m. m >>= k b) (h.1.holds b r q) })
looks_fail t f k s s' (Needs u) h = (h.0, record { holds = λ b r q. let on = h.1.holds b r q in (ap (λ m. m >>= k b) on.0, on.1) })
looks_fail t f k s s' Wanting h = h
looks_fail t f k s s' (Broken LinkFault) h = h
looks_fail t f k s s' (Broken (BadReply frame)) h = h
looks_fail t f k s s' (Broken (Outside p)) h = h

-- and one that had one
pub looks_on : {R A B : Type 0} (t : StoreState) (f : Bytes → Acted A) (k : A → Acted B) (s s' : Seen R) (x : A) (y : B) → k x ≡ Ok y → LooksUp t f s (Ok x) s' → LooksUp t (λ b. f b >>= k) s (Ok y) s'
looks_on t f k s s' x y e h = (h.0, record { holds = λ b r q. ap (λ m. m >>= k) (h.1.holds b r q) ∙ e })

looks_on_raised : {R A B : Type 0} (t : StoreState) (f : Bytes → Acted A) (k : A → Acted B) (s s' : Seen R) (x : A) (e : PsError) → k x ≡ Err (Raises e) → LooksUp t f s (Ok x) s' → LooksUp t (λ b. f b >>= k) s (Err (Raised e)) s'
looks_on_raised t f k s s' x y e h = (h.0, record { holds = λ b r q. ap (λ m. m >>= k) (h.1.holds b r q) ∙ e })

module _ {R : Type 0} (v : View) (t : StoreState) (s : Seen R) where
  -- ---- where the memory is not asked

  pub no_frame : v.standing ≡ standing.NoFrame → LooksUp t (λ b. frame_by v t b) s (Ok None) s
  no_frame e = looks_given t (frame_by v t) s None (λ b. ap (λ st. frame_on st v t b) e)

  pub known_frame : (f : Frame) (scope : Option DictId) → v.standing ≡ standing.InFrame f scope → LooksUp t (λ b. frame_by v t b) s (Ok (Some f)) s
  known_frame f scope e = looks_given t (frame_by v t) s (Some f) (λ b. ap (λ st. frame_on st v t b) e)

  pub no_scope : v.standing ≡ standing.NoFrame → LooksUp t (λ b. scope_by v t b) s (Err (Raised RangeCheck)) s
  no_scope e = looks_raised t (scope_by v t) s RangeCheck (λ b. ap (λ st. scope_on st v t b) e)

  pub known_scope : (f : Frame) (scope : Option DictId) → v.standing ≡ standing.InFrame f scope → LooksUp t (λ b. scope_by v t b) s (Ok scope) s
  known_scope f scope e = looks_given t (scope_by v t) s scope (λ b. ap (λ st. scope_on st v t b) e)

  pub found_null : (p : ℕ) → p ≡ 0 → LooksUp t (λ b. found_by v t b p) s (Ok None) s
  found_null p e = looks_given t (λ b. found_by v t b p) s None (λ b. ap (found_by v t b) e)

module _ {R : Type 0} (v : View) (t : StoreState) (s s' : Seen R) where
  -- ---- the frame with a number

  numbered_frame : (n : ℕ) (r : Result (Option Frame) WalkFault) → v.standing ≡ standing.Numbered n → Walks (λ b. frame_at (row_of_target v.target) t b v.context n) s r s' → LooksUp t (λ b. frame_by v t b) s (halted_of r) s'
  numbered_frame n r e h =
      looks_as t (λ b. looked (frame_at (row_of_target v.target) t b v.context n)) (frame_by v t) s s' (halted_of r) (λ b. ap (λ st. frame_on st v t b) e)
      (looks_up t (λ b. frame_at (row_of_target v.target) t b v.context n) s s' r (λ b. frame_at_lacks t b (row_of_target v.target) v.context n) h)

  pub numbered_told : (n : ℕ) (f : Option Frame) → v.standing ≡ standing.Numbered n → Walks (λ b. frame_at (row_of_target v.target) t b v.context n) s (Ok f) s' → LooksUp t (λ b. frame_by v t b) s (Ok f) s'
  numbered_told n f e h = numbered_frame n (Ok f) e h

  pub numbered_halts : (n : ℕ) (x : WalkFault) → v.standing ≡ standing.Numbered n → Walks (λ b. frame_at (row_of_target v.target) t b v.context n) s (Err x) s' → LooksUp t (λ b. frame_by v t b) s (Err (halted x)) s'
  numbered_halts n x e h = numbered_frame n (Err x) e h

  -- ---- the innermost symbol in scope there

  module _ (n : ℕ) (e : v.standing ≡ standing.Numbered n) where
    abbrev scope_there : Option Frame → Acted (Option DictId)
    scope_there o = or_no_frame o >>= λ f. looked (scope_of t n f)

    -- the scope of the frame with a number, behind the frame
    scope_is : (b : Bytes) → scope_by v t b ≡ (frame_by v t b >>= scope_there)
    scope_is b = ap (λ st. scope_on st v t b) e

    pub scope_unframed : (x : Halt) → LooksUp t (λ b. frame_by v t b) s (Err x) s' → LooksUp t (λ b. scope_by v t b) s (Err x) s'
    scope_unframed x h = looks_as t (λ b. frame_by v t b >>= scope_there) (scope_by v t) s s' (Err x) scope_is (looks_fail t (frame_by v t) (λ b. scope_there) s s' x h)

    pub scope_no_frame : LooksUp t (λ b. frame_by v t b) s (Ok None) s' → LooksUp t (λ b. scope_by v t b) s (Err (Raised RangeCheck)) s'
    scope_no_frame h =
        looks_as t (λ b. frame_by v t b >>= scope_there) (scope_by v t) s s' (Err (Raised RangeCheck)) scope_is (looks_on_raised t (frame_by v t) scope_there s s' None RangeCheck refl h)

    module _ (f : Frame) (h : LooksUp t (λ b. frame_by v t b) s (Ok (Some f)) s') where
      pub scope_told : (scope : Option DictId) → scope_of t n f ≡ Ok scope → LooksUp t (λ b. scope_by v t b) s (Ok scope) s'
      scope_told scope w =
          looks_as t (λ b. frame_by v t b >>= scope_there) (scope_by v t) s s' (Ok scope) scope_is (looks_on t (frame_by v t) scope_there s s' (Some f) scope (ap looked w) h)

      pub scope_unforced : (u : ℕ) → scope_of t n f ≡ Err (Unforced u) → LooksUp t (λ b. scope_by v t b) s (Err (Needs u)) s'
      scope_unforced u w =
          (h.0, record { holds = λ b r q. (scope_is b ∙ ap (λ m. m >>= scope_there) (h.1.holds b r q) ∙ ap looked w, subst (Lacks t) w (scope_of_lacks t n f)) })

      scope_raised : (x : PsError) → looked (scope_of t n f) ≡ Err (Raises x) → LooksUp t (λ b. scope_by v t b) s (Err (Raised x)) s'
      scope_raised x w =
          looks_as t (λ b. frame_by v t b >>= scope_there) (scope_by v t) s s' (Err (Raised x)) scope_is (looks_on_raised t (frame_by v t) scope_there s s' (Some f) x w h)

      pub scope_lacks : (l : Lack) → scope_of t n f ≡ Err l → ((u : ℕ) → l ≡ Unforced u → ⊥) → LooksUp t (λ b. scope_by v t b) s (Err (Raised (error_of l))) s'
      scope_lacks Missing w other = scope_raised (error_of Missing) (ap looked w)
      scope_lacks WrongType w other = scope_raised (error_of WrongType) (ap looked w)
      scope_lacks NotHeld w other = scope_raised (error_of NotHeld) (ap looked w)
      scope_lacks NoPoint w other = scope_raised (error_of NoPoint) (ap looked w)
      scope_lacks TooDeep w other = scope_raised (error_of TooDeep) (ap looked w)
      scope_lacks (Unforced u) w other = absurd (other u refl)

  -- ---- the object of an address

  found_looks : (p : ℕ) (r : Result (Option Found) WalkFault) → (p ≡ 0 → ⊥) → Walks (λ b. found_at (row_of_target v.target) t b v.context p) s r s' → LooksUp t (λ b. found_by v t b p) s (halted_of r) s'
  found_looks zero r other h = absurd (other refl)
  found_looks (suc p) r other h =
      looks_up t (λ b. found_at (row_of_target v.target) t b v.context (suc p)) s s' r (λ b. found_at_lacks t (row_of_target v.target) b (suc p) v.context) h

  pub found_told : (p : ℕ) (o : Option Found) → (p ≡ 0 → ⊥) → Walks (λ b. found_at (row_of_target v.target) t b v.context p) s (Ok o) s' → LooksUp t (λ b. found_by v t b p) s (Ok o) s'
  found_told p o other h = found_looks p (Ok o) other h

  pub found_halts : (p : ℕ) (x : WalkFault) → (p ≡ 0 → ⊥) → Walks (λ b. found_at (row_of_target v.target) t b v.context p) s (Err x) s' → LooksUp t (λ b. found_by v t b p) s (Err (halted x)) s'
  found_halts p x other h = found_looks p (Err x) other h

  -- ---- the objects of two

  pub two_fail : (p q : ℕ) (x : Halt) → LooksUp t (λ b. found_by v t b p) s (Err x) s' → LooksUp t (λ b. found_two v t b p q) s (Err x) s'
  two_fail p q x h = looks_fail t (λ b. found_by v t b p) (λ b o. found_behind v t b o q >>= λ other. Ok (o, other)) s s' x h

  pub two_none : (p q : ℕ) → LooksUp t (λ b. found_by v t b p) s (Ok None) s' → LooksUp t (λ b. found_two v t b p q) s (Ok (None, None)) s'
  two_none p q h = (h.0, record { holds = λ b r k. ap (λ m. m >>= λ o. found_behind v t b o q >>= λ other. Ok (o, other)) (h.1.holds b r k) })

  module _ (s'' : Seen R) (p q : ℕ) (o : Found) (h : LooksUp t (λ b. found_by v t b p) s (Ok (Some o)) s') where
    abbrev behind : Option Found → Bytes → Acted (Option Found × Option Found)
    behind o b = found_behind v t b o q >>= λ other. Ok (o, other)

    pub two_found : (x : Option Found) → LooksUp t (λ b. found_by v t b q) s' (Ok x) s'' → LooksUp t (λ b. found_two v t b p q) s (Ok (Some o, x)) s''
    two_found x k =
        looks_then t (λ b. found_by v t b p) behind s s' s'' (Some o) (Ok (Some o, x)) h
        (looks_on t (λ b. found_by v t b q) (λ other. Ok (Some o, other)) s' s'' x (Some o, x) refl k)

    pub two_lack : (x : Halt) → LooksUp t (λ b. found_by v t b q) s' (Err x) s'' → LooksUp t (λ b. found_two v t b p q) s (Err x) s''
    two_lack x k =
        looks_then t (λ b. found_by v t b p) behind s s' s'' (Some o) (Err x) h
        (looks_fail t (λ b. found_by v t b q) (λ b other. Ok (Some o, other)) s' s'' x k)
