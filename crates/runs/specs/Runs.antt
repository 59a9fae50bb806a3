-- Runs of a step function, from stopping point to stopping point.
use Rattle.std.specs.Prelude.{◌≡◌, ℕ, suc, zero, ◌+◌, List, [], ◌∷◌, Bool, true, false, ℤ, Option, Some, None}
use Rattle.ldb_words.specs.declared.kinds.Undef.{Undef}

-- Why a step has no successor: one of the four reasons, or a stale pointer is used, or a value has not the shape that its type has. The last is what never comes.
pub data Why : Type 0 where
  Reason : (reason : Undef) → Why
  Stale : Why
  IllTyped : Why

-- what a step does: it goes on, passes a stopping point, ends the program, or is undefined
pub data Next (S : Type 0) : Type 0 where
  Goes : (count : ℕ) (after : S) → Next S
  Passes : (point count : ℕ) (after : S) → Next S
  Exits : (number : ℤ) (count : ℕ) (after : S) → Next S
  Undefined : (why : Why) → Next S

-- the first event of a run: a point of the given set is passed, the program exits, or a step is undefined
pub data Event (S : Type 0) : Type 0 where
  Stopped : (point : ℕ) (at : S) → Event S
  Exited : (number : ℤ) (at : S) → Event S
  Failed : (why : Why) → Event S

-- what some steps come to, with their count
pub data Course (S : Type 0) : Type 0 where
  Going : (count : ℕ) (at : S) → Course S
  Comes : (count : ℕ) (event : Event S) → Course S

abbrev pub counted : {S : Type 0} → ℕ → Course S → Course S
counted c (Going d s) = Going (c + d) s
counted c (Comes d e) = Comes (c + d) e

module _ (S : Type 0) (step : S → Next S) where
  abbrev pub passing : Bool → ℕ → ℕ → S → (S → Course S) → Course S
  passing true q c s go = Comes c (Stopped q s)
  passing false q c s go = counted c (go s)

  abbrev pub onward : (ℕ → Bool) → Next S → (S → Course S) → Course S
  onward stops (Goes c s) go = counted c (go s)
  onward stops (Passes q c s) go = passing (stops q) q c s go
  onward stops (Exits v c s) go = Comes c (Exited v s)
  onward stops (Undefined w) go = Comes 1 (Failed w)

  -- where at most n steps come to, up to the first of these points
  abbrev pub until : (ℕ → Bool) → ℕ → S → Course S
  until stops zero s = Going 0 s
  until stops (suc n) s = onward stops (step s) (until stops n)

  -- the count of the step at a state
  abbrev pub count_of : Next S → ℕ
  count_of (Goes c s) = c
  count_of (Passes q c s) = c
  count_of (Exits v c s) = c
  count_of (Undefined w) = 1

  -- a run from s first meets this event, after steps of this count
  abbrev pub RunsTo : (ℕ → Bool) → S → ℕ → Event S → Type 0
  RunsTo stops s count e = (n : ℕ) × (until stops n s ≡ Comes count e)

  -- q is on the way from s, before any event
  abbrev pub OnTheWay : (ℕ → Bool) → S → ℕ → S → Type 0
  OnTheWay stops s count q = (n : ℕ) × (until stops n s ≡ Going count q)

-- ---- a run through all its stops, with assignments made at them

-- a moment: the state, the points passed so far in order, the count of the steps, and the number that the program exited with
pub record Moment (S : Type 0) : Type 0 where
  pub state : S
  pub passed : List ℕ
  pub count : ℕ
  pub exit : Option ℤ

-- what some steps come to: a moment, or an undefined step
pub data Outcome (S : Type 0) : Type 0 where
  Reached : (m : Moment S) → Outcome S
  Breaks : (why : Why) → Outcome S

-- what is done to the state at each stop, by the stop's number
abbrev pub Actions : Type 0 → Type 0
Actions S = ℕ → S → S

module _ (S : Type 0) where
  abbrev pub here : S → Moment S
  here s = record { state = s; passed = []; count = 0; exit = None }

  abbrev pub over : S → ℤ → ℕ → Moment S
  over s v c = record { state = s; passed = []; count = c; exit = Some v }

  abbrev pub after_count : ℕ → Outcome S → Outcome S
  after_count c (Reached m) = Reached (record m { count = c + m.count })
  after_count c (Breaks r) = Breaks r

  abbrev pub past : ℕ → Outcome S → Outcome S
  past p (Reached m) = Reached (record m { passed = p ∷ m.passed })
  past p (Breaks r) = Breaks r

module _ (S : Type 0) (step : S → Next S) (acts : Actions S) where
  abbrev pub then_on : Next S → (ℕ → S → Outcome S) → ℕ → Outcome S
  then_on (Goes c s) go i = after_count S c (go i s)
  then_on (Passes p c s) go i = after_count S c (past S p (go (suc i) (acts i s)))
  then_on (Exits v c s) go i = Reached (over S s v c)
  then_on (Undefined r) go i = Breaks r

  -- where at most n steps come to, of which the first stop has number i
  abbrev pub after : ℕ → ℕ → S → Outcome S
  after zero i s = Reached (here S s)
  after (suc n) i s = then_on (step s) (after n) i
