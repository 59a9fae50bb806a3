-- A run has one first event.
use Rattle.std.proofs.Common.{◌≡◌, sym, ap, ◌∙◌, ℕ, suc, zero, ◌+◌, Bool, true, false}
use Rattle.runs.specs.Runs.{Next, Goes, Passes, Exits, Undefined, Event, Course, Going, Comes, counted, passing, onward, until}

-- what an event comes from, before the count of a step is added
pub record Added (S : Type 0) (c : ℕ) (o : Course S) (d : ℕ) (e : Event S) : Type 0 where
  pub rest : ℕ
  pub comes : o ≡ Comes rest e
  pub count : d ≡ c + rest

pub added : {S : Type 0} (c : ℕ) (o : Course S) (d : ℕ) (e : Event S) → counted c o ≡ Comes d e → Added S c o d e
added c (Going r s) d e h = absurd cc
added c (Comes r f) d e h = record { rest = r; comes = cc; count = cc }

pub record Same (S : Type 0) (c d : ℕ) (e f : Event S) : Type 0 where
  pub count : c ≡ d
  pub event : e ≡ f

module _ {S : Type 0} (step : S → Next S) (stops : ℕ → Bool) where
  abbrev Once : Course S → Course S → Type 0
  Once o q = (c d : ℕ) (e f : Event S) → o ≡ Comes c e → q ≡ Comes d f → Same S c d e f

  more : (c : ℕ) (o q : Course S) → Once o q → Once (counted c o) (counted c q)
  more c o q once = λ c' d' e f h k.
      let a : Added S c o c' e = added c o c' e h in
      let b : Added S c q d' f = added c q d' f k in
      let s : Same S a.rest b.rest e f = once _ _ e f a.comes b.comes in
      record { count = a.count ∙ ap (λ n. c + n) s.count ∙ sym b.count; event = s.event }

  passes : (b : Bool) (q c : ℕ) (s : S) (go on : S → Course S) → Once (go s) (on s) → Once (passing S step b q c s go) (passing S step b q c s on)
  passes true q c s go on once = λ c' d' e f h k. record { count = cc; event = cc }
  passes false q c s go on once = more c (go s) (on s) once

  steps : (x : Next S) (go on : S → Course S) → ((s : S) → Once (go s) (on s)) → Once (onward S step stops x go) (onward S step stops x on)
  steps (Goes c s) go on once = more c (go s) (on s) (once s)
  steps (Passes q c s) go on once = passes (stops q) q c s go on (once s)
  steps (Exits v c s) go on once = λ c' d' e f h k. record { count = cc; event = cc }
  steps (Undefined w) go on once = λ c' d' e f h k. record { count = cc; event = cc }

  -- whatever the number of steps at which it is seen
  pub until_once : (n m : ℕ) (s : S) → Once (until S step stops n s) (until S step stops m s)
  until_once zero m s = λ c d e f h k. absurd cc
  until_once (suc n) zero s = λ c d e f h k. absurd cc
  until_once (suc n) (suc m) s = steps (step s) (until S step stops n) (until S step stops m) (until_once n m)
