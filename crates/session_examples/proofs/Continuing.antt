-- `continue` over one machine that was never resumed: what its resume tells is the answer, and no other is but for want of memory.
use Rattle.std.specs.Prelude.{◌≡◌, ◌⊎◌, ◌↔◌, Some, None, Result, Ok, Err}
use Rattle.std.proofs.Common.{refl, ap, subst, ◌∙◌, inl, inr}
use Rattle.machine_state.specs.State.{Behaviour}
use Rattle.dialect_model.specs.TableUse.{TableUse, use_of, Wanting, onward, gives, takes_memory, ◌>>=◌}
use Rattle.c_session.specs.declared.command.Command.TheVariants.{Continue}
use Rattle.c_session.specs.Commands.{ByContinue}
use Rattle.claims.specs.Side.{SideState, SessionState, Troubled, MOST_STEPS, first_session, with_table_of}
use Rattle.claims.specs.Lines.{Reply, trouble_reply}
use Rattle.claims.specs.Resumes.{Resumed, resumed}
use Rattle.claims.specs.Outcome.{Answers, Says, Prepares, FirstPrepared, Goes, with_memory_wanting}

-- ---- a part that gives something and asks the table nothing

module _ {A : Type 0} (x : A) where
  abbrev Came : TableUse → Result A Troubled → TableUse → Type 0
  Came t r t' = (t' ≡ t) × ((r ≡ Ok x) ⊎ (r ≡ Err Wanting))

  from_here : (t u t' : TableUse) (r : Result A Troubled) → u ≡ t → Came u r t' → Came t r t'
  from_here t u t' r same c = subst (λ (v : TableUse). Came v r t') same c

  after_it : (t u t' : TableUse) (z : Result (Unit {0}) Troubled) (y : A) (r : Result A Troubled) → y ≡ x → takes_memory t z u → onward (λ v. gives y) z u r t' → Came t r t'
  after_it t u t' (Ok v) y r e (same, taken) (done, left) = (cc, inl cc)
  after_it t u t' (Err f) y r e (same, inl taken) o = absurd cc
  after_it t u t' (Err f) y r e (same, inr wanting) (done, left) = (cc, inr cc)

  at_it : (t u t' : TableUse) (z r : Result A Troubled) → gives x t z u → onward (λ y. takes_memory >>= λ v. gives y) z u r t' → Came t r t'
  at_it t u t' (Ok y) r (given, same) (z, w, taken, o) = from_here t u t' r same (let e : y ≡ x = cc in after_it u w t' z y r e taken o)
  at_it t u t' (Err f) r (given, same) o = absurd cc

  before_it : (t u t' : TableUse) (z : Result (Unit {0}) Troubled) (r : Result A Troubled) → takes_memory t z u
      → onward (λ v. gives x >>= λ y. takes_memory >>= λ w. gives y) z u r t' → Came t r t'
  before_it t u t' (Ok v) r (same, taken) (y, w, given, o) = from_here t u t' r same (at_it u w t' y r given o)
  before_it t u t' (Err f) r (same, inl taken) o = absurd cc
  before_it t u t' (Err f) r (same, inr wanting) (done, left) = (cc, inr cc)

  comes : (t t' : TableUse) (r : Result A Troubled) → with_memory_wanting (gives x) t r t' → Came t r t'
  comes t t' r (z, u, taken, o) = before_it t u t' z r taken o

-- ---- `continue`

module _ (b : Behaviour) (side : SideState) (reply : Reply) (after : SessionState) where
  abbrev opened : SessionState
  opened = first_session side None

  abbrev now : TableUse
  now = use_of side.table MOST_STEPS

  abbrev its : Resumed
  its = resumed b ByContinue opened

  abbrev Said : Type 0
  Said = Says opened its.lines its.session reply after

  goes_on : (y a : SideState) (t : TableUse) → Came side now (Ok y) t → a ≡ with_table_of y t.store → FirstPrepared b ByContinue opened (Ok y) a None reply after → Said
  goes_on y a t (same, inl came) e h =
      let f : y ≡ side = cc in
      let is_side : a ≡ side = e ∙ ap (λ (u : TableUse). with_table_of y u.store) same ∙ ap (λ (z : SideState). with_table_of z now.store) f in
      inl (subst (λ (z : SideState). Goes b ByContinue opened (first_session z None) reply after) is_side h)
  goes_on y a t (same, inr came) e h = absurd cc

  wants : (f : Troubled) (a : SideState) (t : TableUse) → Came side now (Err f) t → a ≡ with_table_of side t.store → FirstPrepared b ByContinue opened (Err f) a None reply after → Said
  wants f a t (same, inl came) e h = absurd cc
  wants f a t (same, inr came) e h =
      let g : f ≡ Wanting = cc in
      let is_side : a ≡ side = e ∙ ap (λ (u : TableUse). with_table_of side u.store) same in
      inr (h.0 ∙ ap trouble_reply g, h.1 ∙ ap (λ (z : SideState). first_session z None) is_side)

  only : (r : Result SideState Troubled) (a : SideState) → Prepares ByContinue side r a → FirstPrepared b ByContinue opened r a None reply after → Said
  only (Ok y) a p h = goes_on y a p.use_after (comes side now p.use_after (Ok y) p.comes) p.leaves h
  only (Err f) a p h = wants f a p.use_after (comes side now p.use_after (Err f) p.comes) p.leaves h

  may : Said → Answers b opened (Some Continue) reply after
  may (inl says) = (
    Ok side,
    side,
    record { use_after = now; comes = (Ok tt, now, (refl, inl refl), (Ok side, now, (refl, refl), (Ok tt, now, (refl, inl refl), (refl, refl)))); leaves = refl },
    says,
  )
  may (inr says) = (Err Wanting, side, record { use_after = now; comes = (Err Wanting, now, (refl, inr refl), (refl, refl)); leaves = refl }, says)

  pub continues : Answers b opened (Some Continue) reply after ↔ Said
  continues = (λ (r, a, p, h). only r a p h, may)
