-- Of the first program the first `step` is answered by its first stopping point, or there is no memory; and nothing was written.
use Rattle.std.proofs.Common.{◌≡◌, refl, sym, ap, subst, ◌∙◌, ℕ, ◌*◌, ◌<◌, zero, suc, List, [], ◌∷◌, ◌++◌, Some, inl, inr, arith}
use Rattle.std.specs.Prelude.{Box, codes, ◌⊎◌}
use Rattle.std.specs.declared.alloc.Global.{Global}
use Rattle.runs.specs.Runs.{Course, Going, Comes, Event, Stopped, until}
use Rattle.runs.proofs.Once.{until_once, Same}
use Rattle.c_session.specs.declared.command.Command.TheVariants as command
use Rattle.c_source.specs.Control.{State}
use Rattle.c_source.specs.Source.{step}
use Rattle.c_source.specs.Begin.{begin}
use Rattle.c_session.specs.Commands.{ByStep, OneSide, Positions, One}
use Rattle.c_source.specs.Size.{need_of}
use Rattle.c_session.specs.Allowed.{Lines, Allowed, AllowedFrom, stops_by, event_text, ResumeReplies, Moves, one, IsBroken, event_output, at_first, Standing}
use Rattle.c_session.proofs.Computed.{computing}
use Rattle.c_session.proofs.AssignmentSession.{program}

module _ (b : Box (Unit {0}) Global) where
  abbrev pub start : State
  start = begin (program b) []

  abbrev pub run : ℕ → Course State
  run n = until State (step (program b)) (stops_by [] ByStep) n start

  abbrev pub state_in : Course State → State
  state_in (Comes c (Stopped q s)) = s
  state_in _ = start

  abbrev pub stop : Event State
  stop = Stopped 0 (state_in (run 1))

  meets : run 1 ≡ Comes 1 stop
  unfolding computing
  meets = refl

  is_stop : (n c : ℕ) (e : Event State) → run n ≡ Comes c e → Same State c 1 e stop
  is_stop n c e h = until_once (step (program b)) (stops_by [] ByStep) n 1 start c 1 e stop h meets

  abbrev Replies : Lines → List ℕ → Type 0
  Replies t out = ((t ≡ codes "stop a.c:1.23 main" ∷ []) ⊎ (t ≡ codes "no memory" ∷ [])) × (out ≡ [])

  text : event_text (program b) stop ≡ codes "stop a.c:1.23 main"
  unfolding computing
  text = refl

  nothing_written : event_output stop ≡ []
  unfolding computing
  nothing_written = refl

  lines : (t reply rest : Lines) (a : List ℕ) → t ≡ reply ++ rest → reply ≡ a ∷ [] → rest ≡ [] → t ≡ a ∷ []
  lines t reply rest a e r k = e ∙ ap (λ z. z ++ rest) r ∙ ap (λ z. (a ∷ []) ++ z) k

  -- no `turns`: the stop comes after one step
  no_turns : (qs : Positions) (w : List ℕ) → Moves (program b) (stops_by [] ByStep) 10000000 [] (One start) qs w → ⊥
  no_turns _ _ (one s q w m k) = let h : 10000000 < 128 * 1 = m.0 1 stop (1, meets) tt in omega arith

  -- no `stack`: nothing stands between the start and the stop
  shallow : (q : State) → q ≡ start → 1048576 < need_of (program b) q → ⊥
  unfolding computing
  shallow q e h = let k : 1048576 < 536 = subst (λ z. 1048576 < need_of (program b) z) e h in omega arith

  meets_soon : (m : ℕ) → run (suc m) ≡ Comes 1 stop
  unfolding computing
  meets_soon m = refl

  at_start : (c : ℕ) (q : State) → run zero ≡ Going c q → q ≡ start
  at_start c q h = cc

  no_stack : (n c : ℕ) (q : State) → run n ≡ Going c q → 1048576 < need_of (program b) q → ⊥
  no_stack zero c q h d = shallow q (at_start c q h) d
  no_stack (suc m) c q h d = cc (meets_soon m, h)

  by_resume : (t : Lines) (out : List ℕ) (reply rest : Lines) (next : Standing) → t ≡ reply ++ rest
      → ResumeReplies (program b) (at_first (program b) []) ByStep (One start) reply next
      → AllowedFrom (program b) OneSide next [] rest out → Replies t out
  by_resume t out reply rest next e (inl (ev, is, m, r, x)) k =
      let same : Same State m.0 1 ev stop = is_stop m.1.0 m.0 ev m.1.1 in (
        inl (lines t reply rest _ e (r ∙ ap (λ z. z ∷ []) (ap (event_text (program b)) same.event ∙ text)) k.0),
        k.1 ∙ ap (λ n. n.written) x ∙ ap event_output same.event ∙ nothing_written,
      )
  by_resume t out reply rest next e (inr (inl (qs, w, m, front, r, x))) k = absurd (no_turns qs w m)
  by_resume t out reply rest next e (inr (inr (w, d, front, r, x))) k = absurd (no_stack d.2.0 d.0 d.1 d.2.1 d.3)

  undoomed : (s : State) (n c : ℕ) (e : Event State) → start ≡ s → until State (step (program b)) (stops_by [] ByStep) n s ≡ Comes c e → IsBroken e → ⊥
  undoomed s n c e p h u =
      let h' : run n ≡ Comes c e = subst (λ z. until State (step (program b)) (stops_by [] ByStep) n z ≡ Comes c e) (sym p) h in
      subst IsBroken (is_stop n c e h').event u

  only : (t : Lines) (out : List ℕ) → Allowed (program b) OneSide [] (Some command.Step ∷ []) t out → Replies t out
  only t out (inl (reply, rest, next, e, m, k)) = (inr (lines t reply rest _ e m.1 k.0), k.1 ∙ ap (λ n. n.written) m.2)
  only t out (inr (y, _, inl (q, _, _))) = absurd q
  only t out (inr (y, _, inr (inl ((s, c, e, p, m, u), _)))) = absurd (undoomed s m.0 c e p m.1 u)
  only t out (inr (y, _, inr (inr (reply, rest, next, e, a, k)))) = by_resume t out reply rest next e a k
