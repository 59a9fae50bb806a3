-- Sides and schedules of a link.
use Rattle.std.proofs.Common.{◌≡◌, ◌≢◌, ◌∙◌, ◌⊎◌, inl, inr, sym, ap, subst, refl, ℕ, zero, suc, ◌+◌, ◌-◌, ◌≤◌, ◌<◌, ◌^◌, nat_eq, is_some, List, [], ◌∷◌, ◌++◌, length, take, drop, get_or, Option, Some, None, option_map, Bool, true, false, if◌then◌else◌, arith}
use Rattle.std.proofs.lemmas.Bool.Decides.{nat_tests}
use Rattle.machine_state.specs.State.{MachineState}
use Rattle.machine_state.specs.Sound.{AreBytes}
use Rattle.machine_state.specs.declared.layout.TheConstants.{SPARC}
use Rattle.mips_isa.specs.Loaded as mips
use Rattle.sparc_isa.specs.Loaded as sparc
use Rattle.obj_file.specs.Image.{ImageFields, IsImage}
use Rattle.targets.specs.Targets.{machine_behaviour, loaded, IsSound}
use Rattle.targets.proofs.Sound.{first_sound, keeps_sound}
use Rattle.nub_wire.specs.declared.link.Side.{Side}
use Rattle.nub_wire.specs.declared.link.Side.TheVariants.{First, Second}
use Rattle.nub_wire.specs.declared.link.Entry.{Entry}
use Rattle.nub_wire.specs.Nub.{Host, first_host}
use Rattle.nub_wire.specs.Delivery.{Conduct, LinkSide, World, side_of, on_side, first_side, Enters, Waits, has_ready, enters, used_up, WaitsOut, ready_of, without_ready, Gets, GetsFrom, Receives}
use Rattle.nub_wire.specs.Rest.{IsFresh}
use Rattle.near_link.specs.Near.{Begins, BeginsSide}

-- ---- the start

pub image_sound : (i : ImageFields) → IsImage i → AreBytes i.text → AreBytes i.statics → IsSound (loaded i)
image_sound = first_sound

chosen_given : (b : Bool) (m n : MachineState) → m.given ≡ 0 → n.given ≡ 0 → (if b then m else n).given ≡ 0
chosen_given true m n h k = h
chosen_given false m n h k = k

mips_given : (entry : ℕ) (text statics : List ℕ) → (mips.first_state entry text statics).given ≡ 0
unfolding mips.first_state
mips_given entry text statics = refl

sparc_given : (entry : ℕ) (text statics : List ℕ) → (sparc.first_state entry text statics).given ≡ 0
unfolding sparc.first_state
sparc_given entry text statics = refl

pub given_zero : (i : ImageFields) → (loaded i).given ≡ 0
unfolding loaded
given_zero i = chosen_given (nat_eq i.target SPARC) _ _ (sparc_given i.entry i.text i.statics) (mips_given i.entry i.text i.statics)

pub begins_side : (i : ImageFields) (m : MachineState) (s : LinkSide) → m ≡ loaded i → IsSound (loaded i) → IsFresh machine_behaviour m s → BeginsSide i s
begins_side i m s e sound fresh =
    let f : IsFresh machine_behaviour (loaded i) s = subst (λ (x : MachineState). IsFresh machine_behaviour x s) e fresh in
    let saved : IsSound (first_host machine_behaviour (loaded i)).machine = keeps_sound.saved (loaded i) sound in
    (f, subst (λ (x : LinkSide). IsSound x.host.machine) (sym f.side_is) saved)

-- ---- a wait

abbrev pub WaitsFrom : Conduct → Side → World → World → Type 0
WaitsFrom c side start now = (v : World) → Waits c side now v → Waits c side start v

pub waits_first : (c : Conduct) (side : Side) (w : World) → WaitsFrom c side w w
waits_first c side w = λ (v : World) (x : Waits c side w v). x

pub silent_is : (xs : List ℕ) → nat_eq (length xs) 0 ≡ true → xs ≡ []
silent_is [] h = refl
silent_is (x ∷ xs) h = let e : suc (length xs) ≡ 0 = grind (arith, nat_tests) in absurd (omega (arith, e))

loud_is : (xs : List ℕ) → nat_eq (length xs) 0 ≡ false → xs ≢ []
loud_is [] h e = cc
loud_is (x ∷ xs) h e = cc

-- the side that is there
record There (side : Side) (w : World) : Type 0 where
  now : LinkSide
  is : side_of side w ≡ Some now

there_by : (side : Side) (w : World) (o : Option LinkSide) → side_of side w ≡ o → is_some o ≡ true → There side w
there_by side w None e h = cc
there_by side w (Some s) e h = record { now = s; is = e }

there_of : (side : Side) (w : World) → is_some (side_of side w) ≡ true → There side w
there_of side w h = there_by side w (side_of side w) refl h

pub waits_entered : (c : Conduct) (side : Side) (start now new : World) → WaitsFrom c side start now → is_some (side_of side now) ≡ true → nat_eq (length (ready_of (side_of side now))) 0 ≡ true
    → ((e : Entry) × (rest : List Entry) × (now.schedule ≡ e ∷ rest) × Enters c e (record now { schedule = rest }) new) → WaitsFrom c side start new
waits_entered c side start now new from there silent x =
    let t = there_of side now there in
    let none : t.now.ready ≡ [] = sym (ap ready_of t.is) ∙ silent_is (ready_of (side_of side now)) silent in
    λ (v : World) (y : Waits c side new v). from v (enters t.now x.0 x.1 t.is none x.2 x.3 y)

pub waits_ready : (c : Conduct) (side : Side) (start now : World) → WaitsFrom c side start now → is_some (side_of side now) ≡ true → nat_eq (length (ready_of (side_of side now))) 0 ≡ false
    → Waits c side start now
waits_ready c side start now from there loud =
    let t = there_of side now there in
    from now (has_ready t.now t.is (λ (e : t.now.ready ≡ []). loud_is (ready_of (side_of side now)) loud (ap ready_of t.is ∙ e)))

pub waits_on : (c : Conduct) (side : Side) (start now new : World) → WaitsFrom c side start now → Waits c side now new → Waits c side start new
waits_on c side start now new from w = from new w

pub first_out : (c : Conduct) (side : Side) (w : World) (f t : LinkSide) (second : Option LinkSide) (es : List Entry) → record { first = f; second = second; schedule = es } ≡ w → side ≡ First
    → ready_of (side_of side w) ≡ [] → w.schedule ≡ [] → WaitsOut c f f.answers t → Waits c side w (record { first = t; second = second; schedule = es })
first_out c side w f t second es e at silent over out =
    let none : f.ready ≡ [] = ap (λ (x : World). x.first.ready) e ∙ (ap (λ (x : Side). ready_of (side_of x w)) (sym at) ∙ silent) in
    let over_now : es ≡ [] = ap (λ (x : World). x.schedule) e ∙ over in
    let waits : Waits c First (record { first = f; second = second; schedule = es }) (record { first = t; second = second; schedule = es }) = used_up f t refl none over_now out in
    subst
    (λ (x : Side). Waits c x w (record { first = t; second = second; schedule = es }))
    (sym at)
    (subst (λ (x : World). Waits c First x (record { first = t; second = second; schedule = es })) e waits)

pub second_out : (c : Conduct) (side : Side) (w : World) (f s t : LinkSide) (second : Option LinkSide) (es : List Entry) → record { first = f; second = second; schedule = es } ≡ w
    → second ≡ Some s → side ≡ Second → ready_of (side_of side w) ≡ [] → w.schedule ≡ [] → WaitsOut c s s.answers t
    → Waits c side w (record { first = f; second = Some t; schedule = es })
second_out c side w f s t second es e there at silent over out =
    let is : record { first = f; second = Some s; schedule = es } ≡ w = ap (λ (o : Option LinkSide). record { first = f; second = o; schedule = es }) (sym there) ∙ e in
    let none : s.ready ≡ [] = ap (λ (x : World). ready_of x.second) is ∙ (ap (λ (x : Side). ready_of (side_of x w)) (sym at) ∙ silent) in
    let over_now : es ≡ [] = ap (λ (x : World). x.schedule) is ∙ over in
    let waits : Waits c Second (record { first = f; second = Some s; schedule = es }) (record { first = f; second = Some t; schedule = es }) = used_up s t refl none over_now out in
    subst
    (λ (x : Side). Waits c x w (record { first = f; second = Some t; schedule = es }))
    (sym at)
    (subst (λ (x : World). Waits c Second x (record { first = f; second = Some t; schedule = es })) is waits)

-- ---- the schedule

pub one_entry : (k : ℕ) (es : List Entry) (e : Entry) → k < length es → e ≡ get_or es k e → drop k es ≡ e ∷ drop (k + 1) es
one_entry k [] e less is = absurd (omega (arith, less))
one_entry zero (x ∷ es) e less is = ap (λ (y : Entry). y ∷ es) (sym is)
one_entry (suc k) (x ∷ es) e less is =
    let next : suc k + 1 ≡ suc (k + 1) = omega arith in
    let below : k < length es = omega (arith, less) in
    one_entry k es e below is ∙ ap (λ (n : ℕ). e ∷ drop n (x ∷ es)) (sym next)

pub entered_by : (c : Conduct) (k : ℕ) (es : List Entry) (f : LinkSide) (second : Option LinkSide) (w new : World) (e : Entry) → record { first = f; second = second; schedule = drop k es } ≡ w
    → k < length es → e ≡ get_or es k e → Enters c e (record { first = f; second = second; schedule = drop (k + 1) es }) new
    → (x : Entry) × (rest : List Entry) × (w.schedule ≡ x ∷ rest) × Enters c x (record w { schedule = rest }) new
entered_by c k es f second w new e is less at entered =
    subst
    (λ (v : World). (x : Entry) × (rest : List Entry) × (v.schedule ≡ x ∷ rest) × Enters c x (record v { schedule = rest }) new)
    is
    (e, drop (k + 1) es, one_entry k es e less at, entered)

pub none_over : (k : ℕ) (es : List Entry) → k ≡ length es → drop k es ≡ []
none_over k es h = ap (λ (n : ℕ). drop n es) h ∙ by es
  where
    by : (xs : List Entry) → drop (length xs) xs ≡ []
    by [] = refl
    by (x ∷ xs) = by xs

pub shorter_by : (e : Entry) (rest before after : List Entry) → before ≡ e ∷ rest → after ≡ rest → length after < length before
shorter_by e rest before after h k = rw (h, k) (omega arith)

pub there_still : (side : Side) (w w' : World) → is_some w'.second ≡ is_some w.second → is_some (side_of side w) ≡ true → is_some (side_of side w') ≡ true
there_still First w w' e h = refl
there_still Second w w' e h = e ∙ h

-- ---- a receive

empty_gets : (c : Conduct) (side : Side) (o : Option LinkSide) (w : World) (n : ℕ) (bytes : List ℕ) → n ≡ 0 → bytes ≡ [] → GetsFrom c side o n bytes w w
empty_gets c side None w n bytes e none = (none, refl)
empty_gets c side (Some s) w zero bytes e none = (none, refl)
empty_gets c side (Some s) w (suc n) bytes e none = absurd (omega (arith, e))

pub gets_nothing : (c : Conduct) (side : Side) (w : World) (n : ℕ) (bytes : List ℕ) → n ≡ 0 → bytes ≡ [] → Receives c side n bytes w w
gets_nothing c side w n bytes e none = empty_gets c side (side_of side w) w n bytes e none

absent_gets : (c : Conduct) (side : Side) (o : Option LinkSide) (w : World) (n : ℕ) (bytes : List ℕ) → is_some o ≡ false → bytes ≡ [] → GetsFrom c side o n bytes w w
absent_gets c side None w n bytes e none = (none, refl)
absent_gets c side (Some s) w n bytes e none = cc

pub gets_absent : (c : Conduct) (side : Side) (w : World) (n : ℕ) (bytes : List ℕ) → is_some (side_of side w) ≡ false → bytes ≡ [] → Receives c side n bytes w w
gets_absent c side w n bytes e none = absent_gets c side (side_of side w) w n bytes e none

gets_by : (c : Conduct) (side : Side) (o : Option LinkSide) (w v : World) (n : ℕ) (bytes : List ℕ) → (n ≡ 0 → ⊥) → is_some o ≡ true → Waits c side w v
    → bytes ≡ take n (ready_of (side_of side v)) → GetsFrom c side o n bytes w (on_side side (without_ready n) v)
gets_by c side None w v n bytes h there x e = cc
gets_by c side (Some s) w v zero bytes h there x e = absurd (h refl)
gets_by c side (Some s) w v (suc n) bytes h there x e = record { waited = v; waits = x; given = e; new_is = refl }

pub gets_some : (c : Conduct) (side : Side) (w v : World) (n : ℕ) (bytes : List ℕ) → (n ≡ 0 → ⊥) → is_some (side_of side w) ≡ true → Waits c side w v
    → bytes ≡ take n (ready_of (side_of side v)) → Receives c side n bytes w (on_side side (without_ready n) v)
gets_some c side w v n bytes h there x e = gets_by c side (side_of side w) w v n bytes h there x e
