-- What a run of PostScript leaves of the memory of its target.
use Rattle.std.proofs.Common.{◌≡◌, ◌∙◌, refl, sym, ap, subst, inl, inr, ℕ, zero, suc, ◌%◌, nat_eq, Bool, true, false, if◌then◌else◌, List, [], ◌∷◌, slice_get, Option, Some, None, Result, Ok, Err}
use Rattle.ldb_words.specs.declared.event.Outside.{Outside}
use Rattle.ldb_words.specs.declared.kinds.Kind.{Kind}
use Rattle.ldb_words.specs.declared.kinds.Kind.TheVariants.{Byte, Word, Address}
use Rattle.ldb_words.specs.declared.kinds.Order.{Order}
use Rattle.machine_state.specs.Regions.{Regions, write_of}
use Rattle.machine_state.specs.Sound.{IsWidth}
use Rattle.machine_state.specs.State.{MachineState, Behaviour, order_of, with_memory}
use Rattle.nub_wire.specs.Fits.{Reached, begins}
use Rattle.nub_wire.specs.Fits.{stored as then_stored}
use Rattle.frame_bytes.specs.declared.frame.Frame.{Frame}
use Rattle.frame_bytes.specs.declared.frame.Space.{Space}
use Rattle.frame_bytes.specs.declared.frame.Space.TheVariants.{Memory, Registers, Immediate}
use Rattle.frame_bytes.specs.Bytes.{Bytes, Span, or_none, fetched, stored, with_number_at, with_cell_part, span_in_word, span_of_word, word_address, width_of, cell_at}
use Rattle.ps_step.specs.declared.fault.PsError.{PsError}
use Rattle.ps_step.specs.declared.machine.PsCore.{PsCore}
use Rattle.ps_step.specs.Results.{◌>>=◌}
use Rattle.ps_step.specs.State.{Made}
use Rattle.ps_run.proofs.Reaching.{reaches_keeps}
use Rattle.ps_run.specs.Runs.{Answer, Asked, Runs, spent, ended, failed, next, asked, broken}
use Rattle.ps_words.specs.declared.words.WordOperator.{WordOperator}
use Rattle.ps_words.specs.declared.words.WordOperator.TheVariants.{SignedAdd, SignedSubtract, SignedMultiply, SignedDivide, SignedRemainder, Divide, Remainder, Add, Subtract, Multiply, ShiftLeft, SignedShiftRight, ShiftRight}
use Rattle.ps_words.specs.Operators.{on_two, negating, below}
use Rattle.ps_places.specs.Places.{placing_at}
use Rattle.ps_places.specs.Places as places
use Rattle.ps_places.specs.Accesses as accesses
use Rattle.ps_append.specs.Appending as texts
use Rattle.ps_append.specs.Characters as characters
use Rattle.ps_pointers.specs.Pointers as pointers
use Rattle.ps_leaves.specs.Leaves as leaves
use Rattle.ps_leaves.specs.Forms as forms
use Rattle.ps_symbols.specs.Naming as names
use Rattle.dialect_model.specs.Dial.{Dial, Target, Halt, Act, raised, bytes_in, frame_of, scope_of}
use Rattle.dialect_model.specs.Acting.{with_state, with_told, with_text, space_bytes, found, found_behind, anchoring, placing_local, placing_value, locating, fetching, storing, adding, subtracting, comparing, taking_leaf, giving_struct, putting, putting_char, putting_pointer, putting_chars, measuring_run}
use Rattle.dialect_model.specs.Operators.{Operator, operators, act_of, act}
use Rattle.dialect_model.specs.Operating as dialect
use Rattle.dialect_model.specs.Operating.{Operates}
use Rattle.side_meaning.specs.Storing.{StoresNumbers, none_stored, stores, SameTarget, KeepsTarget, RunsStoreNumbers, ReachesStoreNumbers, NumbersAreReached}

-- ---- numbers that are stored

pub more_stored : {o : Order} {r s t : Regions} → StoresNumbers o r s → StoresNumbers o s t → StoresNumbers o r t
more_stored x none_stored = x
more_stored x (stores at width value w y is) = stores at width value w (more_stored x y) is

reached_by : (b : Behaviour) (m : MachineState) (r r' : Regions) → StoresNumbers (order_of m) r r' → r ≡ m.memory → Reached b m (record m { memory = r' })
reached_by b m r r' none_stored e = subst (λ (x : Regions). Reached b m (record m { memory = x })) (sym e) begins
reached_by b m r r' (stores {s = s} at width value w before is) e =
    subst (λ (x : Result Regions Outside). Reached b m (with_memory x (record m { memory = s })).1) is (then_stored at width value w (reached_by b m r s before e))

pub reached : NumbersAreReached
reached b m r s = reached_by b m m.memory r s refl

-- ---- one store

pub record Left (b b' : Bytes) : Type 0 where
  pub order : b'.order ≡ b.order
  pub stored : StoresNumbers b.order b.regions b'.regions

abbrev pub LeftIf : Bytes → Option Bytes → Type 0
LeftIf b None = Unit {0}
LeftIf b (Some b') = Left b b'

width_known : (k : Kind) → IsWidth (width_of k)
width_known Byte = inl refl
width_known Word = inr (inr refl)
width_known Address = inr (inr refl)

abbrev put_back : Bytes → Option Regions → Option Bytes
put_back b None = None
put_back b (Some r) = Some (record b { regions = r })

written_left : (b : Bytes) (at width value : ℕ) (x : Result Regions Outside) → IsWidth width → write_of b.order b.regions at width value ≡ x → LeftIf b (put_back b (or_none x))
written_left b at width value (Ok r) w e = record { order = refl; stored = stores at width value w none_stored e }
written_left b at width value (Err f) w e = tt

number_is : (b : Bytes) (s : Span) (v : ℕ) → with_number_at b (Some s) v ≡ put_back b (or_none (write_of b.order b.regions s.from s.width v))
number_is b s v = refl

number_left : (b : Bytes) (s : Span) (v : ℕ) → IsWidth s.width → LeftIf b (with_number_at b (Some s) v)
number_left b s v w = subst (LeftIf b) (sym (number_is b s v)) (written_left b s.from s.width v (write_of b.order b.regions s.from s.width v) w refl)

word_left : (b : Bytes) (k : Kind) (at v : ℕ) (aligned : Bool) → LeftIf b (with_number_at b (if aligned then Some (span_in_word b.order at k) else None) v)
word_left b Byte at v true = number_left b (span_in_word b.order at Byte) v (inl refl)
word_left b Word at v true = number_left b (span_in_word b.order at Word) v (inr (inr refl))
word_left b Address at v true = number_left b (span_in_word b.order at Address) v (inr (inr refl))
word_left b k at v false = tt

register_left : (b : Bytes) (k : Kind) (v : ℕ) (place : Option ℕ) → LeftIf b (with_number_at b (span_of_word b.order k place) v)
register_left b k v None = tt
register_left b k v (Some at) = word_left b k at v (nat_eq (at % 4) 0)

cell_left : (b : Bytes) (k : Kind) (v : ℕ) (w : Option ℕ) → LeftIf b (with_cell_part b k v w)
cell_left b k v None = tt
cell_left b k v (Some w) = record { order = refl; stored = none_stored }

pub stored_left : (b : Bytes) (s : Space) (at : ℕ) (k : Kind) (v : ℕ) → LeftIf b (stored b s at k v)
unfolding stored
stored_left b Memory at k v = number_left b (record { from = at; width = width_of k }) v (width_known k)
stored_left b Registers at k v = register_left b k v (word_address b.registers at)
stored_left b Immediate at k v = cell_left b k v (cell_at b at)

-- ---- results

-- what is given is of a kind
abbrev All : {A E : Type 0} → (A → Type 0) → Result A E → Type 0
All P (Ok x) = P x
All P (Err e) = Unit {0}

module _ {A B E : Type 0} (P : B → Type 0) where
  behind : (r : Result A E) (f : A → Result B E) → ((x : A) → All P (f x)) → All P (r >>= f)
  behind (Ok x) f h = h x
  behind (Err e) f h = tt

  behind_all : (R : A → Type 0) (r : Result A E) (f : A → Result B E) → All R r → ((x : A) → R x → All P (f x)) → All P (r >>= f)
  behind_all R (Ok x) f q h = h x q
  behind_all R (Err e) f q h = tt

-- ---- what operators leave

pub same_target : (t : Option Target) → KeepsTarget t t
same_target None = tt
same_target (Some t) = record { row = refl; context = refl; order = refl; stores = none_stored }

more_kept : (t u v : Option Target) → KeepsTarget t u → KeepsTarget u v → KeepsTarget t v
more_kept None None None x y = tt
more_kept (Some t) (Some u) (Some v) x y = record { row = y.row ∙ x.row; context = y.context ∙ x.context; order = y.order ∙ x.order; stores = more_stored x.stores (subst (λ (o : Order). StoresNumbers o u.regions v.regions) x.order y.stores) }
more_kept None None (Some v) x y = absurd y
more_kept None (Some u) v x y = absurd x
more_kept (Some t) None v x y = absurd x
more_kept (Some t) (Some u) None x y = absurd y

abbrev Kept : Option Target → Dial × PsCore → Type 0
Kept t x = KeepsTarget t x.0.target

-- bytes that are the target's, but for numbers that were stored
abbrev AreOf : Option Target → Bytes → Type 0
AreOf None b = Unit {0}
AreOf (Some t) b = (b.order ≡ t.order) × StoresNumbers t.order t.regions b.regions

abbrev AreGiven : Option Target → Bytes × PsCore → Type 0
AreGiven t x = AreOf t x.0

module _ (d : Dial) where
  abbrev at : Option Target → Dial
  at t = record d { target = t }

  state_kept : (t : Option Target) (r : Made) → All (Kept t) (with_state (at t) r)
  state_kept t (Ok c) = same_target t
  state_kept t (Err e) = tt

  text_kept : (t : Option Target) (r : Result (List ℕ × PsCore) PsError) → All (Kept t) (with_text (at t) r)
  text_kept None (Ok x) = tt
  text_kept (Some t) (Ok x) = same_target (Some t)
  text_kept None (Err e) = tt
  text_kept (Some t) (Err e) = tt

  told_kept : (t : Option Target) (r : Result (Bytes × PsCore) PsError) → All (AreGiven t) r → All (Kept t) (with_told (at t) r)
  told_kept None (Ok x) h = tt
  told_kept (Some t) (Ok x) h = record { row = refl; context = refl; order = h.0; stores = h.1 }
  told_kept None (Err e) h = tt
  told_kept (Some t) (Err e) h = tt

  bytes_are : (t : Option Target) (f : Option Frame) → AreOf t (bytes_in (at t) f)
  bytes_are None f = tt
  bytes_are (Some t) f = (refl, none_stored)

  stored_are : (t : Option Target) (b b' : Bytes) → AreOf t b → Left b b' → AreOf t b'
  stored_are None b b' h l = tt
  stored_are (Some t) b b' h l = (l.order ∙ h.0, more_stored h.1 (subst (λ (o : Order). StoresNumbers o b.regions b'.regions) h.0 l.stored))

  -- bytes behind a store, with another state
  outside_kept : (t : Option Target) (b : Bytes) (o : Option Bytes) (f : Bytes → PsCore) → AreOf t b → LeftIf b o → All (AreGiven t) (accesses.or_outside o >>= λ b'. Ok (b', f b'))
  outside_kept t b None f h l = tt
  outside_kept t b (Some b') f h l = stored_are t b b' h l

  value_kept : (t : Option Target) (c : PsCore) → All (Kept t) (placing_value (at t) c)
  value_kept t c =
      told_kept t (accesses.placing_value (bytes_in (at t) None) c)
      (behind (AreGiven t) (accesses.immediate_value c) _ (λ v. outside_kept t (bytes_in (at t) None) (stored (bytes_in (at t) None) Immediate 0 Word v) (λ b. accesses.with_cell_place c) (bytes_are t None) (stored_left (bytes_in (at t) None) Immediate 0 Word v)))

  space_kept : (t : Option Target) (c : PsCore) (s : Space) → All (AreOf t) (space_bytes (at t) c.store s)
  space_kept t c Registers = behind (AreOf t) (frame_of (at t) c.store) (λ f. Ok (bytes_in (at t) f)) (λ f. bytes_are t f)
  space_kept t c Memory = bytes_are t None
  space_kept t c Immediate = bytes_are t None

  fetched_kept : (t : Option Target) (c : PsCore) (b : Bytes) → AreOf t b → All (AreGiven t) (accesses.fetching b c)
  fetched_kept t c b h = behind (AreGiven t) (accesses.fetch_of c) _ (λ a. behind (AreGiven t) (accesses.or_outside (fetched b a.0.space a.0.at a.1)) _ (λ v. h))

  fetching_kept : (t : Option Target) (c : PsCore) → All (Kept t) (fetching (at t) c)
  fetching_kept t c =
      behind (Kept t) (raised (accesses.fetch_of c)) _ (λ a. behind_all (Kept t) (AreOf t) (space_bytes (at t) c.store a.0.space) _ (space_kept t c a.0.space) (λ b h. told_kept t (accesses.fetching b c) (fetched_kept t c b h)))

  storing_kept : (t : Option Target) (c : PsCore) → All (Kept t) (storing (at t) c)
  storing_kept t c =
      behind (Kept t) (raised (accesses.store_of d.raw c)) _ (λ a. behind_all (Kept t) (AreOf t) (space_bytes (at t) c.store a.0.space) _ (space_kept t c a.0.space) (λ b h.
      told_kept t (accesses.storing d.raw b c)
      (behind (AreGiven t) (accesses.store_of d.raw c) _ (λ x. outside_kept t b (stored b x.0.space x.0.at x.1 x.2) (λ b'. _) h (stored_left b x.0.space x.0.at x.1 x.2)))))

  anchoring_kept : (t : Option Target) (c : PsCore) → All (Kept t) (anchoring (at t) c)
  anchoring_kept t c = state_kept t _

  local_kept : (t : Option Target) (c : PsCore) → All (Kept t) (placing_local (at t) c)
  local_kept t c = behind (Kept t) (raised (places.top_word c)) _ (λ n. behind (Kept t) (frame_of (at t) c.store) _ (λ f. state_kept t _))

  locating_kept : (t : Option Target) (c : PsCore) → All (Kept t) (locating (at t) c)
  locating_kept t c = behind (Kept t) (raised (names.top_name c)) _ (λ name. behind (Kept t) (scope_of (at t) c.store) _ (λ scope. state_kept t _))

  adding_kept : (t : Option Target) (c : PsCore) → All (Kept t) (adding (at t) c)
  adding_kept t c = behind (Kept t) (raised (pointers.sum_operands c)) _ (λ x. behind (Kept t) (found (at t) c.store x.0) _ (λ o. state_kept t _))

  subtracting_kept : (t : Option Target) (c : PsCore) → All (Kept t) (subtracting (at t) c)
  subtracting_kept t c =
      behind (Kept t) (raised (pointers.difference_operands c)) _ (λ x. behind (Kept t) (found (at t) c.store x.0) _ (λ o. behind (Kept t) (found_behind o (at t) c.store x.1) _ (λ q. state_kept t _)))

  comparing_kept : (t : Option Target) (c : PsCore) → All (Kept t) (comparing (at t) c)
  comparing_kept t c =
      behind (Kept t) (raised (pointers.comparison_operands c)) _ (λ x. behind (Kept t) (found (at t) c.store x.0) _ (λ o. behind (Kept t) (found_behind o (at t) c.store x.1) _ (λ q. state_kept t _)))

  leaf_kept : (t : Option Target) (c : PsCore) → All (Kept t) (taking_leaf (at t) c)
  leaf_kept t c = behind (Kept t) (raised (leaves.leaf_operands c)) _ (λ a. behind (Kept t) (found (at t) c.store a.0) _ (λ o. state_kept t _))

  run_kept : (t : Option Target) (c : PsCore) → All (Kept t) (measuring_run (at t) c)
  run_kept t c = behind (Kept t) (raised (places.top_word c)) _ (λ p. behind (Kept t) (found (at t) c.store p) _ (λ o. state_kept t _))

  pointer_kept : (t : Option Target) (c : PsCore) → All (Kept t) (putting_pointer (at t) c)
  pointer_kept t c = behind (Kept t) (raised (places.top_word c)) _ (λ p. behind (Kept t) (found (at t) c.store p) _ (λ o. text_kept t _))

  chars_kept : (t : Option Target) (c : PsCore) → All (Kept t) (putting_chars (at t) c)
  chars_kept t c = behind (Kept t) (raised (characters.string_place c)) _ (λ a. behind (Kept t) (space_bytes (at t) c.store a.0.space) _ (λ b. text_kept t _))

-- ---- by its number

abbrev Keeps : (Dial → PsCore → Act) → Type 0
Keeps f = (d : Dial) (c : PsCore) → All (Kept d.target) (f d c)

abbrev EachKeeps : List Operator → Type 0
EachKeeps [] = Unit {0}
EachKeeps (o ∷ os) = Keeps o.act × EachKeeps os

numbered : (os : List Operator) → EachKeeps os → (n : ℕ) → Keeps (act_of (slice_get os n))
numbered [] k n d c = tt
numbered (o ∷ os) k zero d c = k.0 d c
numbered (o ∷ os) k (suc n) d c = numbered os k.1 n d c

alone : (f : PsCore → Made) → Keeps (λ d c. with_state d (f c))
alone f d c = state_kept d d.target (f c)

each : EachKeeps operators
each = (
  λ d c. anchoring_kept d d.target c,
  (
    alone (placing_at Memory),
    (
      λ d c. local_kept d d.target c,
      (
        alone (placing_at Registers),
        (
          λ d c. value_kept d d.target c,
          (
            λ d c. locating_kept d d.target c,
            (
              λ d c. fetching_kept d d.target c,
              (
                λ d c. storing_kept d d.target c,
                (
                  alone (on_two SignedAdd),
                  (
                    alone (on_two SignedSubtract),
                    (
                      alone (on_two SignedMultiply),
                      (
                        alone (on_two SignedDivide),
                        (
                          alone (on_two SignedRemainder),
                          (
                            alone negating,
                            (
                              alone (on_two Divide),
                              (
                                alone (on_two Remainder),
                                (
                                  alone (on_two Add),
                                  (
                                    alone (on_two Subtract),
                                    (
                                      alone (on_two Multiply),
                                      (
                                        alone (on_two ShiftLeft),
                                        (
                                          alone (on_two SignedShiftRight),
                                          (
                                            alone (on_two ShiftRight),
                                            (
                                              alone below,
                                              (
                                                λ d c. adding_kept d d.target c,
                                                (
                                                  λ d c. subtracting_kept d d.target c,
                                                  (
                                                    λ d c. comparing_kept d d.target c,
                                                    (
                                                      λ d c. leaf_kept d d.target c,
                                                      (
                                                        λ d c. state_kept d d.target _,
                                                        (
                                                          λ d c. text_kept d d.target _,
                                                          (
                                                            λ d c. text_kept d d.target _,
                                                            (
                                                              λ d c. pointer_kept d d.target c,
                                                              (
                                                                λ d c. chars_kept d d.target c,
                                                                (
                                                                  λ d c. run_kept d d.target c,
                                                                  tt,
                                                                ),
                                                              ),
                                                            ),
                                                          ),
                                                        ),
                                                      ),
                                                    ),
                                                  ),
                                                ),
                                              ),
                                            ),
                                          ),
                                        ),
                                      ),
                                    ),
                                  ),
                                ),
                              ),
                            ),
                          ),
                        ),
                      ),
                    ),
                  ),
                ),
              ),
            ),
          ),
        ),
      ),
    ),
  ),
)

acts : (op : ℕ) → Keeps (act op)
unfolding act
acts op d c = numbered operators each op d c

target_kept : (t : Option Target) (a : Act) (d' : Dial) (c' : PsCore) → All (Kept t) a → a ≡ Ok (d', c') → KeepsTarget t d'.target
target_kept t (Ok x) d' c' h e = subst (λ (r : Act). All (Kept t) r) e h
target_kept t (Err x) d' c' h e = absurd cc

-- ---- runs

operates_kept : {d d' : Dial} {c c' : PsCore} {op left left' : ℕ} {r : Answer} → Operates d c op left r d' c' left' → KeepsTarget d.target d'.target
operates_kept (dialect.acted d d' c c' op left e) = target_kept d.target (act op d c) d' c' (acts op d c) e
operates_kept (dialect.raised d c op left e is) = same_target d.target
operates_kept (dialect.forced d d' c c₁ c' op u left m left' r e forces more) = operates_kept more
operates_kept (dialect.broken d c c' op u left m f e forces) = same_target d.target
operates_kept (dialect.wanting d c op left) = same_target d.target

pub runs_kept : RunsStoreNumbers
runs_kept _ _ _ _ _ _ _ (spent d c) = same_target d.target
runs_kept _ _ _ _ _ _ _ (ended n d c c' s) = same_target d.target
runs_kept _ _ _ _ _ _ _ (failed n d c c' e f s how) = same_target d.target
runs_kept _ _ _ _ _ _ _ (next n m d d' c c₁ c' r s run) = runs_kept n m d d' c₁ c' r run
runs_kept _ _ _ _ _ _ _ (asked n k m d d₁ d' c c₁ c₂ c' op r s a run) = more_kept d.target d₁.target d'.target (operates_kept a.operates) (runs_kept k m d₁ d' c₂ c' r run)
runs_kept _ _ _ _ _ _ _ (broken n k d d₁ c c₁ c₂ op g f s a how) = operates_kept a.operates

pub reaches_keep : ReachesStoreNumbers
reaches_keep n m d d' c c' h = reaches_keeps Operates (λ (e e' : Dial). KeepsTarget e.target e'.target) (λ e. same_target e.target) (λ e f g first second. more_kept e.target f.target g.target first second)
    (λ e x op k r f y left no does. operates_kept does) n d c m d' c' h
