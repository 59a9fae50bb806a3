-- What `break` and `clear` that are done leave of a side's memory, and what it is once they are undone.
use Rattle.std.proofs.Common.{◌≡◌, ◌∙◌, refl, sym, ap, subst, inl, inr, ℕ, zero, suc, ◌+◌, nat_eq, ◌||◌, Bool, true, false, ◌&&◌, List, [], ◌∷◌, ◌++◌, length, drop, map, Option, Some, None, Result, Ok, Err, append-nil, arith}
use Rattle.std.proofs.lemmas.Bool.Decides.{nat_tests}
use Rattle.ldb_words.specs.declared.kinds.Order.{Order}
use Rattle.ldb_words.specs.declared.kinds.Kind.TheVariants.{Word}
use Rattle.machine_state.specs.Regions.{Regions}
use Rattle.machine_state.specs.Sound.{IsMemory}
use Rattle.machine_state.specs.State.{MachineState, order_of as machine_order}
use Rattle.nub_wire.specs.Nub.{Host}
use Rattle.ps_store.specs.StoreState.{StoreState}
use Rattle.frame_bytes.specs.declared.frame.Space.TheVariants.{Memory}
use Rattle.frame_bytes.specs.Bytes.{Bytes, stored}
use Rattle.abs_mem.specs.WireMeaning.{memory_of}
use Rattle.break_plant.specs.Planted.{noop_of, break_of, word_at}
use Rattle.table_model.specs.Rows.{PointRow}
use Rattle.table_points.specs.declared.row.Point.{Point}
use Rattle.table_points.specs.Rows.{row_in}
use Rattle.dialect_model.specs.TableUse.{TableUse, gives, ◌>>=◌}
use Rattle.debug_side.specs.Meant.{address_of}
use Rattle.debug_side.specs.Wrote.{word_put, words_put}
use Rattle.debug_side.specs.There.{words_at, all_there, IsAmong}
use Rattle.debug_side.specs.Told.{with_regions}
use Rattle.debug_side.specs.declared.there.WordThere.{WordThere}
use Rattle.debug_side.proofs.Restored.{restored, back_word}
use Rattle.debug_side.proofs.Undoing.{wrote_of, read_word}
use Rattle.c_session.specs.declared.command.Spot.{Spot}
use Rattle.c_session.specs.declared.command.Command.{Command}
use Rattle.c_session.specs.declared.command.Command.TheVariants as command
use Rattle.claims.specs.Side.{SideState, Change, OnSide, Troubled, has, same_point, without}
use Rattle.claims.specs.Breaks as side
use Rattle.claims.specs.Outcome.{OneSide, Comes, with_memory_wanting}
use Rattle.side_meaning.specs.Standing.{Debugged}
use Rattle.side_meaning.specs.Asking.{IsAsked}
use Rattle.session.specs.Meant.{SetsBreaks}
use Rattle.session.specs.Undoing.{words_before, undone_in, undone_host}

abbrev fine : {A : Type 0} → A → Result A Troubled
fine x = Ok x

abbrev troubled : {A : Type 0} → Troubled → Result A Troubled
troubled e = Err e

not_fine : {A : Type 0} {x : A} {e : Troubled} → fine x ≡ troubled e → ⊥
not_fine e = cc

fine_is : {A : Type 0} {x y : A} → fine x ≡ fine y → x ≡ y
fine_is e = cc

-- what comes with memory found before it and behind it
found : {A : Type 0} (m : OnSide A) (t t' : TableUse) (x : A) → with_memory_wanting m t (Ok x) t' → (u : TableUse) × (v : TableUse) × m u (Ok x) v
found m t t' x (Err e, u, h, k) = absurd (not_fine k.0)
found m t t' x (Ok tt, u, h, (Err e, v, k, l)) = absurd (not_fine l.0)
found m t t' x (Ok tt, u, h, (Ok y, v, k, (Err e, w, l, n))) = absurd (not_fine n.0)
found {A = A} m t t' x (Ok tt, u, h, (Ok y, v, k, (Ok z, w, l, n))) = (u, v, subst (λ (q : A). m u (Ok q) v) (sym (fine_is n.0)) k)

-- ---- a word that is written

record WithWord (a : SideState) (at word : ℕ) (s : SideState) : Type 0 where
  memory : s.machine.memory ≡ word_put (machine_order a.machine) word at a.machine.memory
  breaks : s.breaks ≡ a.breaks

abbrev written : SideState → Option Bytes → Option SideState
written a None = None
written a (Some b) = Some (record a { machine = record a.machine { memory = b.regions } })

some_not : {A : Type 0} {x : A} → Some x ≡ None → ⊥
some_not e = cc

some_is : {A : Type 0} {x y : A} → Some x ≡ Some y → x ≡ y
some_is e = cc

word_by : (a s : SideState) (at word : ℕ) (o : Option Bytes) → stored (memory_of a.machine) Memory at Word word ≡ o → written a o ≡ Some s → WithWord a at word s
word_by a s at word None e is = absurd (some_not (sym is))
word_by a s at word (Some b) e is =
    let w = wrote_of (memory_of a.machine) b at word e in
    record { memory = ap (λ (z : SideState). z.machine.memory) (sym (some_is is)) ∙ w.regions; breaks = ap (λ (z : SideState). z.breaks) (sym (some_is is)) }

in_range : {A B : Type 0} (f : A → OnSide B) (o : Option A) (y : B) (u v : TableUse) → (side.or_range o >>= f) u (Ok y) v → (x : A) × (w : TableUse) × (o ≡ Some x) × f x w (Ok y) v
in_range f None y u v (Ok x, w, h, k) = absurd (not_fine h.0)
in_range f None y u v (Err e, w, h, k) = absurd (not_fine k.0)
in_range f (Some x) y u v (Err e, w, h, k) = absurd (not_fine k.0)
in_range f (Some x) y u v (Ok z, w, h, k) = (z, w, ap Some (sym (fine_is h.0)), k)

-- ---- `clear`

record Cleared (a s : SideState) : Type 0 where
  point : PointRow
  is_set : has a.breaks point ≡ true
  memory : s.machine.memory ≡ word_put (machine_order a.machine) (noop_of a.machine.target) point.at a.machine.memory

cleared_by : (a s : SideState) (p : PointRow) (is : Bool) (u v : TableUse) → has a.breaks p ≡ is → side.cleared_at a p is u (Ok s) v → Cleared a s
cleared_by a s p false u v e h = absurd (not_fine h.0)
cleared_by a s p true u v e h =
    let y = in_range (λ (z : SideState). gives (record z { breaks = without p z.breaks })) (side.with_word a p.at (noop_of a.machine.target)) s u v h in
    let w = word_by a y.0 p.at (noop_of a.machine.target) (stored (memory_of a.machine) Memory p.at Word (noop_of a.machine.target)) refl y.2 in
    record { point = p; is_set = e; memory = ap (λ (z : SideState). z.machine.memory) (fine_is y.3.0) ∙ w.memory }

of_clear : (a : SideState) (spot : Spot) (change : Change) (u v : TableUse) → side.clearing a spot u (Ok change) v → Cleared a change.side
of_clear a spot change u v (Err e, w, h, k) = absurd (not_fine k.0)
of_clear a spot change u v (Ok None, w, h, (Err e, x, l, k)) = absurd (not_fine k.0)
of_clear a spot change u v (Ok None, w, h, (Ok p, x, l, k)) = absurd (not_fine l.0)
of_clear a spot change u v (Ok (Some q), w, h, (Err e, x, l, k)) = absurd (not_fine k.0)
of_clear a spot change u v (Ok (Some q), w, h, (Ok p, x, l, (Err e, y, m, k))) = absurd (not_fine k.0)
of_clear a spot change u v (Ok (Some q), w, h, (Ok p, x, l, (Ok s, y, m, k))) =
    subst (λ (z : SideState). Cleared a z) (sym (ap (λ (c : Change). c.side) (fine_is k.0))) (cleared_by a s p (has a.breaks p) x y refl m)

-- ---- `break`

-- a break word was put where the no-op stood, at one point more
record Added (a s : SideState) (p : PointRow) : Type 0 where
  was : side.word_at a p.at ≡ Some (noop_of a.machine.target)
  memory : s.machine.memory ≡ word_put (machine_order a.machine) (break_of a.machine.target) p.at a.machine.memory
  breaks : s.breaks ≡ a.breaks ++ p ∷ []

data Broken (a s : SideState) : Type 0 where
  set_already : s.machine.memory ≡ a.machine.memory → s.breaks ≡ a.breaks → Broken a s
  set_now : (p : PointRow) → Added a s p → Broken a s

planted_by : (a s : SideState) (p : PointRow) (w : ℕ) (is : Bool) (u v : TableUse) → nat_eq w (noop_of a.machine.target) ≡ is → side.word_at a p.at ≡ Some w → side.planted_if a p is u (Ok s) v
    → (side.word_at a p.at ≡ Some (noop_of a.machine.target)) × WithWord a p.at (break_of a.machine.target) s
planted_by a s p w false u v e there h = absurd (not_fine h.0)
planted_by a s p w true u v e there h =
    let same : w ≡ noop_of a.machine.target = grind (arith, nat_tests) in
    (there ∙ ap Some same, put_by (side.with_word a p.at (break_of a.machine.target)) refl h)
  where
    put_by : (o : Option SideState) → side.with_word a p.at (break_of a.machine.target) ≡ o → side.or_range o u (Ok s) v → WithWord a p.at (break_of a.machine.target) s
    put_by None e k = absurd (not_fine k.0)
    put_by (Some z) e k =
        subst (λ (y : SideState). WithWord a p.at (break_of a.machine.target) y) (sym (fine_is k.0))
        (word_by a z p.at (break_of a.machine.target) (stored (memory_of a.machine) Memory p.at Word (break_of a.machine.target)) refl e)

broken_by : (a s : SideState) (p : PointRow) (is : Bool) (u v : TableUse) → side.broken_at a p is u (Ok s) v → Broken a s
broken_by a s p true u v h = set_already (ap (λ (z : SideState). z.machine.memory) (fine_is h.0)) (ap (λ (z : SideState). z.breaks) (fine_is h.0))
broken_by a s p false u v (Err e, w, h, k) = absurd (not_fine k.0)
broken_by a s p false u v (Ok z, w, h, k) =
    let y = in_range (λ (n : ℕ). side.planted_if a p (nat_eq n (noop_of a.machine.target))) (side.word_at a p.at) z u w h in
    let x = planted_by a z p y.0 (nat_eq y.0 (noop_of a.machine.target)) y.1 w refl y.2 y.3 in
    set_now p (record {
      was = x.0;
      memory = ap (λ (r : SideState). r.machine.memory) (fine_is k.0) ∙ x.1.memory;
      breaks = ap (λ (r : SideState). r.breaks) (fine_is k.0) ∙ ap (λ (ps : List PointRow). ps ++ p ∷ []) x.1.breaks;
    })

of_break : (a : SideState) (spot : Spot) (change : Change) (u v : TableUse) → side.breaking a spot u (Ok change) v → Broken a change.side
of_break a spot change u v (Err e, w, h, k) = absurd (not_fine k.0)
of_break a spot change u v (Ok None, w, h, (Err e, x, l, k)) = absurd (not_fine k.0)
of_break a spot change u v (Ok None, w, h, (Ok p, x, l, k)) = absurd (not_fine l.0)
of_break a spot change u v (Ok (Some q), w, h, (Err e, x, l, k)) = absurd (not_fine k.0)
of_break a spot change u v (Ok (Some q), w, h, (Ok p, x, l, (Err e, y, m, k))) = absurd (not_fine k.0)
of_break a spot change u v (Ok (Some q), w, h, (Ok p, x, l, (Ok s, y, m, k))) =
    subst (λ (z : SideState). Broken a z) (sym (ap (λ (c : Change). c.side) (fine_is k.0))) (broken_by a s p (has a.breaks p) x y m)

-- ---- points and their rows

false_not : false ≡ true → ⊥
false_not e = cc

among_if : (s : StoreState) (p : PointRow) (q : Point) (b c : Bool) → nat_eq q.at p.at ≡ b → (b && c) ≡ true → q.at ≡ p.at
among_if s p q true c e h = grind (arith, nat_tests)
among_if s p q false c e h = absurd (false_not h)

-- either test holds
either : {P : Type 0} (x y : Bool) → (x || y) ≡ true → (x ≡ true → P) → (y ≡ true → P) → P
either true y e first second = first refl
either false y e first second = second e

-- a row that is set is that of a point with its address
among : (s : StoreState) (p : PointRow) (ps : List Point) → has (map (row_in s) ps) p ≡ true → IsAmong p.at ps
among s p [] e = absurd (false_not e)
among s p (q ∷ ps) e = either (same_point (row_in s q) p) (has (map (row_in s) ps) p) e (λ h. inl (among_if s p q (nat_eq q.at p.at) _ refl h)) (λ h. inr (among s p ps h))

mapped_length : {A B : Type 0} (f : A → B) (xs : List A) → length (map f xs) ≡ length xs
mapped_length f [] = refl
mapped_length f (x ∷ xs) = ap (λ (n : ℕ). suc n) (mapped_length f xs)

-- the addresses of the points behind some rows
abbrev row_address : PointRow → ℕ
row_address p = p.at

addresses : (s : StoreState) (n : ℕ) (ps : List Point) → map address_of (drop n ps) ≡ map row_address (drop n (map (row_in s) ps))
addresses s zero [] = refl
addresses s zero (p ∷ ps) = ap (λ (l : List ℕ). p.at ∷ l) (addresses s zero ps)
addresses s (suc n) [] = refl
addresses s (suc n) (p ∷ ps) = addresses s n ps

behind_all : (rows : List PointRow) (more : List PointRow) → drop (length rows) (rows ++ more) ≡ more
behind_all [] more = refl
behind_all (r ∷ rows) more = behind_all rows more

-- ---- undone

module _ (d d' : Debugged) (a after : SideState) (old : a.machine ≡ d.host.machine) (breaks : a.breaks ≡ map (row_in d.table) d.row.breaks.items) (asked : IsAsked d d' a after) (holds : IsMemory d.host.machine.memory) where
  abbrev m : MachineState
  m = d.host.machine

  abbrev o : Order
  o = machine_order m

  abbrev r : Regions
  r = m.memory

  abbrev count : ℕ
  count = length d.row.breaks.items

  abbrev added : List Point
  added = drop count d'.row.breaks.items

  -- as many rows as points
  counted : length a.breaks ≡ count
  counted = ap (λ (rows : List PointRow). length rows) breaks ∙ mapped_length (row_in d.table) d.row.breaks.items

  -- those of one breakpoint more
  one_more : (p : PointRow) → after.breaks ≡ a.breaks ++ p ∷ [] → map address_of added ≡ p.at ∷ []
  one_more p e =
      addresses d'.table count d'.row.breaks.items
      ∙ (ap (λ (rows : List PointRow). map row_address (drop count rows)) (sym asked.breaks ∙ e)
      ∙ (ap (λ (n : ℕ). map row_address (drop n (a.breaks ++ p ∷ []))) (sym counted) ∙ ap (map row_address) (behind_all a.breaks (p ∷ []))))

  no_more : after.breaks ≡ a.breaks → map address_of added ≡ []
  no_more e =
      addresses d'.table count d'.row.breaks.items
      ∙ (ap (λ (rows : List PointRow). map row_address (drop count rows)) (sym asked.breaks ∙ (e ∙ sym (append-nil a.breaks)))
      ∙ (ap (λ (n : ℕ). map row_address (drop n (a.breaks ++ []))) (sym counted) ∙ ap (map row_address) (behind_all a.breaks [])))

  -- the memory of the machine session's side behind the command
  abbrev left : Regions
  left = after.machine.memory

  break_undone : Broken a after → words_put o (noop_of m.target) (map address_of added) left ≡ r
  break_undone (set_already same e) = ap (λ (ats : List ℕ). words_put o (noop_of m.target) ats left) (no_more e) ∙ (same ∙ ap (λ (n : MachineState). n.memory) old)
  break_undone (set_now p x) =
      ap (λ (ats : List ℕ). words_put o (noop_of m.target) ats left) (one_more p x.breaks)
      ∙ (ap (word_put o (noop_of m.target) p.at) (x.memory ∙ ap (λ (n : MachineState). word_put (machine_order n) (break_of n.target) p.at n.memory) old)
      ∙ back_word o r holds (break_of m.target) (noop_of m.target) p.at (sym (read_word (memory_of m) p.at) ∙ subst (λ (n : MachineState). word_at (memory_of n) p.at ≡ Some (noop_of n.target)) old x.was))

  clear_undone : Cleared a after → all_there o (words_at (memory_of m) d.row.breaks.items) left ≡ r
  clear_undone x =
      ap (all_there o (words_at (memory_of m) d.row.breaks.items)) (x.memory ∙ ap (λ (n : MachineState). word_put (machine_order n) (noop_of n.target) x.point.at n.memory) old)
      ∙ restored (memory_of m) holds (noop_of m.target) x.point.at d.row.breaks.items (among d.table x.point d.row.breaks.items (subst (λ (rows : List PointRow). has rows x.point ≡ true) breaks x.is_set))

  host_back : (G : Host → Regions) → G (with_regions d.host left) ≡ r → with_regions d'.host (G d'.host) ≡ d.host
  host_back G e = subst (λ (h : Host). with_regions h (G h) ≡ d.host) (sym asked.host) (ap (λ (x : Regions). with_regions d.host x) e)

  -- the side behind a command that is done
  broken_after : (change : Change) {c : OnSide Change} → Comes c a (Ok change) after → Broken a change.side → Broken a after
  broken_after change one (set_already same e) = set_already (ap (λ (z : SideState). z.machine.memory) one.leaves ∙ same) (ap (λ (z : SideState). z.breaks) one.leaves ∙ e)
  broken_after change one (set_now p x) =
      set_now p (record { was = x.was; memory = ap (λ (z : SideState). z.machine.memory) one.leaves ∙ x.memory; breaks = ap (λ (z : SideState). z.breaks) one.leaves ∙ x.breaks })

  cleared_after : (change : Change) {c : OnSide Change} → Comes c a (Ok change) after → Cleared a change.side → Cleared a after
  cleared_after change one x = record { point = x.point; is_set = x.is_set; memory = ap (λ (z : SideState). z.machine.memory) one.leaves ∙ x.memory }

  -- the side's nub and machine are as before
  pub undone_is : (now : Command) → SetsBreaks now → (change : Change) (words : List WordThere) → OneSide now a (Ok change) after → words ≡ words_before now (memory_of m) d.row.breaks.items → undone_host now m.target added words d'.host ≡ d.host
  undone_is (command.Break spot) sets change words one e =
      let f = found (side.breaking a spot) _ _ change one.comes in
      host_back (λ (h : Host). words_put (machine_order h.machine) (noop_of m.target) (map address_of added) h.machine.memory)
      (break_undone (broken_after change one (of_break a spot change f.0 f.1 f.2)))
  undone_is (command.Clear spot) sets change words one e =
      let f = found (side.clearing a spot) _ _ change one.comes in
      host_back (λ (h : Host). all_there (machine_order h.machine) words h.machine.memory)
      (ap (λ (ws : List WordThere). all_there o ws left) e ∙ clear_undone (cleared_after change one (of_clear a spot change f.0 f.1 f.2)))
  undone_is c sets change words one e = absurd sets
