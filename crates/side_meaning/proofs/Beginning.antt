-- What is done before a resume, and a whole `continue` and `step`.
use Rattle.std.proofs.Common.{◌≡◌, ◌≢◌, ◌⊎◌, ◌∙◌, refl, sym, ap, subst, inl, inr, ℕ, true, false, List, [], ◌∷◌, ◌++◌, map, Ok, Err}
use Rattle.machine_state.specs.Regions.{Regions}
use Rattle.machine_state.specs.State.{MachineState, order_of}
use Rattle.machine_state.specs.Sound.{IsMemory}
use Rattle.nub_wire.specs.Nub.{Host}
use Rattle.frame_bytes.specs.Bytes.{bytes_of}
use Rattle.ps_step.specs.declared.fault.PsError.TheVariants.{RangeCheck}
use Rattle.ps_store.specs.StoreState.{StoreState}
use Rattle.table_model.specs.Rows.{PointRow}
use Rattle.table_model.specs.Places.{all_points}
use Rattle.table_points.specs.declared.row.Point.{Point}
use Rattle.table_points.specs.Rows.{row_in}
use Rattle.break_plant.specs.Planted.{noop_of}
use Rattle.debug_side.specs.declared.point.MachineKind.{MachineKind}
use Rattle.debug_side.specs.declared.point.SideRow.{SideRow}
use Rattle.debug_side.specs.Meant.{address_of}
use Rattle.debug_side.specs.Wrote.{words_put}
use Rattle.debug_side.specs.Told.{behind}
use Rattle.debug_side.specs.Planting.{PutsWords}
use Rattle.dialect_model.specs.TableUse.{TableUse, use_of, Kind, Looks, told}
use Rattle.c_session.specs.Commands.{Refusal, ByStep, ByContinue}
use Rattle.claims.specs.Side.{SideState, MOST_STEPS, with_memory}
use Rattle.claims.specs.Breaks.{step_words_at}
use Rattle.claims.specs.Outcome.{Prepares}
use Rattle.side_meaning.specs.Standing.{Debugged, EndsWith, IsTable, cleared, IsPlanted, IsLeft, IsAgain, StandsFor}
use Rattle.side_meaning.specs.Resuming.{IsFit}
use Rattle.side_meaning.specs.Stepping.{StepsAreUndone, StepsAreAgain, IsStill, IsSettled, IsStepped, FindsWords, IsReady, ContinuesAreMeant, StepsBegin, PointsFail, WordsFail, ContinuesAreWhole, StepsAreWhole}
use Rattle.side_meaning.proofs.Stepping.{puts, fails}
use Rattle.side_meaning.proofs.Memories.{words_memory, puts_memory}
use Rattle.side_meaning.proofs.Behind.{resumes}

-- ---- no words

no_rows : (s : StoreState) (ps : List Point) → map (row_in s) ps ≡ [] → ps ≡ []
no_rows s [] e = refl
no_rows s (p ∷ ps) e = cc

cleared_of_none : (row : SideRow) (h : Host) → row.step_words.items ≡ [] → (cleared row h).machine ≡ h.machine
cleared_of_none row h e = ap (λ (ps : List Point). (behind false h.machine.target ps h).machine) e

module _ (d : Debugged) (a : SideState) (for : StandsFor d a) (none : a.step_words ≡ []) where
  -- with the no-ops back it is the machine of the machine session
  as_cleared : IsPlanted d.table d.row d.host a ⊎ IsLeft d.row d.host a → a.machine ≡ (cleared d.row d.host).machine
  as_cleared (inl p) = p.machine ∙ sym (cleared_of_none d.row d.host (no_rows d.table d.row.step_words.items (sym p.words ∙ none)))
  as_cleared (inr q) = q.machine

  pub is_cleared : a.machine ≡ (cleared d.row d.host).machine
  is_cleared = as_cleared for.alike.words

  -- words that stand stay in the text
  words_stay : d.row.step_words.items ≢ [] → IsPlanted d.table d.row d.host a ⊎ IsLeft d.row d.host a → d.row.words_stay ≡ true
  words_stay some (inl p) = absurd (some (no_rows d.table d.row.step_words.items (sym p.words ∙ none)))
  words_stay some (inr q) = q.stay

  again_or : d.row.step_words.items ≢ [] → (d.row.step_words.items ≡ []) ⊎ IsAgain d a.table → IsAgain d a.table
  again_or some (inl e) = absurd (some e)
  again_or some (inr x) = x

  pub found_again : d.row.step_words.items ≢ [] → IsAgain d a.table
  found_again some = again_or some (for.again (words_stay some for.alike.words))

-- ---- `continue`

module _ (d d' : Debugged) (a : SideState) (for : StandsFor d a) (none : a.step_words ≡ []) (g : IsSettled d d') where
  planted_settled : IsPlanted d'.table d'.row d'.host a
  planted_settled = record {
    words = none ∙ sym (ap (map (row_in d'.table)) g.words);
    machine = is_cleared d a for none ∙ ap (λ (h : Host). h.machine) (sym g.host);
  }

  pub settled_stands : IsReady d' a
  settled_stands = record {
    stands = record {
      table = subst (λ (s : StoreState). IsTable s a.table) (sym g.table) for.table;
      frame = for.frame ∙ sym g.frame;
      alike = record {
        breaks = for.alike.breaks ∙ sym g.still.breaks;
        stands_at = for.alike.stands_at ∙ sym g.still.stands_at;
        kept = for.alike.kept ∙ sym g.still.kept;
        words = inl planted_settled;
      };
      ended = subst (EndsWith a.kept) (sym (ap (λ (h : Host). h.nub.ended) g.host)) for.ended;
      unended = for.unended;
      again = λ stay. inl g.words;
    };
    planted = planted_settled;
  }

nothing_prepared : (a : SideState) → Prepares ByContinue a (Ok a) a
nothing_prepared a =
    let t : TableUse = use_of a.table MOST_STEPS in
    record { use_after = t; comes = (Ok tt, t, (refl, inl refl), (Ok a, t, (refl, refl), (Ok tt, t, (refl, inl refl), (refl, refl)))); leaves = refl }

pub continues : ContinuesAreMeant
continues d d' a for none g = (nothing_prepared a, settled_stands d d' a for none g)

-- ---- `step`

-- a command that reads some points and puts words at them
prepared_by : (a x : SideState) (rows : List PointRow) (u : TableUse) → Looks {R = Refusal} all_points (use_of a.table MOST_STEPS) (Ok rows) u → step_words_at rows a u (Ok x) u
    → Prepares ByStep a (Ok x) (record x { table = record u.store { command = x.table.command; part = x.table.part } })
prepared_by a x rows u looks steps =
    let t : TableUse = use_of a.table MOST_STEPS in
    record { use_after = u; comes = (Ok tt, t, (refl, inl refl), (Ok x, u, (Ok rows, u, looks, steps), (Ok tt, u, (refl, inl refl), (refl, refl)))); leaves = refl }

-- the side with words known at some points, in another memory
abbrev worded : StoreState → List Point → Regions → SideState → SideState
worded s ps r a = record (with_memory r a) { step_words = a.step_words ++ map (row_in s) ps }

-- words that stand are put there
module _ (d : Debugged) (a : SideState) (for : StandsFor d a) (none : a.step_words ≡ []) (x : IsAgain d a.table) where
  abbrev known : SideState
  known = worded d.table d.row.step_words.items d.host.machine.memory a

  known_put : (u : TableUse) → step_words_at (map (row_in d.table) x.points) a u (Ok known) u
  known_put u =
      let same = sym (is_cleared d a for none) in
      puts d.table d.host.machine.target x.points d.row.step_words.items (bytes_of (cleared d.row d.host).machine) (bytes_of d.host.machine) a u
      (ap (λ (m : MachineState). order_of m) same) (ap (λ (m : MachineState). m.memory) same) (ap (λ (m : MachineState). m.target) same) x.puts

  planted_known : IsPlanted d.table d.row d.host known
  planted_known = record {
    words = ap (λ (l : List PointRow). l ++ map (row_in d.table) d.row.step_words.items) none;
    machine = ap (λ (m : MachineState). record m { memory = d.host.machine.memory }) (is_cleared d a for none);
  }

  known_ready : IsReady d known
  known_ready = record {
    stands = record {
      table = for.table;
      frame = for.frame;
      alike = record { breaks = for.alike.breaks; stands_at = for.alike.stands_at; kept = for.alike.kept; words = inl planted_known };
      ended = for.ended;
      unended = for.unended;
      again = for.again;
    };
    planted = planted_known;
  }

  found_begins : (y a' : SideState) × Prepares ByStep a (Ok y) a' × IsReady d a'
  found_begins = (known, known, prepared_by a known (map (row_in d.table) x.points) (use_of a.table MOST_STEPS) (told x.all) (known_put (use_of a.table MOST_STEPS)), known_ready)

-- words are put at all points
module _ (undone : StepsAreUndone) (d d' : Debugged) (a : SideState) (u : TableUse) (memory : IsMemory d.host.machine.memory) (for : StandsFor d a) (none : a.step_words ≡ []) (g : IsStepped d d' a.table u) where
  same_machine : a.machine ≡ d.host.machine
  same_machine = is_cleared d a for none ∙ cleared_of_none d.row d.host g.none

  abbrev put_there : SideState
  put_there = worded d'.table d'.row.step_words.items d'.host.machine.memory a

  abbrev stepped : SideState
  stepped = record put_there { table = record u.store { command = a.table.command; part = a.table.part } }

  words_there : step_words_at (map (row_in d'.table) g.points) a u (Ok put_there) u
  words_there =
      let same = sym same_machine in
      puts d'.table d.host.machine.target g.points d'.row.step_words.items (bytes_of d.host.machine) (bytes_of d'.host.machine) a u
      (ap (λ (m : MachineState). order_of m) same) (ap (λ (m : MachineState). m.memory) same) (ap (λ (m : MachineState). m.target) same) g.puts

  machine_there : d'.host.machine ≡ record d.host.machine { memory = d'.host.machine.memory }
  machine_there = ap (λ (h : Host). h.machine) g.host

  planted_there : IsPlanted d'.table d'.row d'.host stepped
  planted_there = record {
    words = ap (λ (l : List PointRow). l ++ map (row_in d'.table) d'.row.step_words.items) none;
    machine = ap (λ (m : MachineState). record m { memory = d'.host.machine.memory }) same_machine ∙ sym machine_there;
  }

  -- with the no-ops back it is the machine of before
  cleared_there : (cleared d'.row d'.host).machine ≡ d.host.machine
  cleared_there =
      let ws : List Point = d'.row.step_words.items in
      ap (λ (m : MachineState). record m { memory = words_put (order_of m) (noop_of m.target) (map address_of ws) m.memory }) machine_there
      ∙ ap (λ (r : Regions). record d.host.machine { memory = r }) (undone d.host.machine.target g.points ws (bytes_of d.host.machine) (bytes_of d'.host.machine) memory g.puts)

  again_there : d'.row.words_stay ≡ true → IsAgain d' stepped.table
  again_there stay = record {
    points = g.points;
    all = g.found;
    in_text = sym g.stay ∙ stay;
    puts = subst (λ (t : ℕ). PutsWords t (bytes_of (cleared d'.row d'.host).machine) g.points d'.row.step_words.items (bytes_of d'.host.machine)) (sym (ap (λ (m : MachineState). m.target) machine_there))
        (subst (λ (m : MachineState). PutsWords d.host.machine.target (bytes_of m) g.points d'.row.step_words.items (bytes_of d'.host.machine)) (sym cleared_there) g.puts);
  }

  stepped_ready : IsReady d' stepped
  stepped_ready = record {
    stands = record {
      table = g.table;
      frame = for.frame ∙ sym g.frame;
      alike = record {
        breaks = for.alike.breaks ∙ sym g.still.breaks;
        stands_at = for.alike.stands_at ∙ sym g.still.stands_at;
        kept = for.alike.kept ∙ sym g.still.kept;
        words = inl planted_there;
      };
      ended = subst (EndsWith a.kept) (sym (ap (λ (h : Host). h.nub.ended) g.host)) for.ended;
      unended = for.unended;
      again = λ stay. inr (again_there stay);
    };
    planted = planted_there;
  }

  step_begins : (x a' : SideState) × Prepares ByStep a (Ok x) a' × IsReady d' a'
  step_begins = (put_there, stepped, prepared_by a put_there (map (row_in d'.table) g.points) u g.told words_there, stepped_ready)

found_same : (d d' : Debugged) (a : SideState) → d' ≡ d → (x a' : SideState) × Prepares ByStep a (Ok x) a' × IsReady d a' → (x a' : SideState) × Prepares ByStep a (Ok x) a' × IsReady d' a'
found_same d d' a e r = subst (λ (z : Debugged). (x a' : SideState) × Prepares ByStep a (Ok x) a' × IsReady z a') (sym e) r

pub steps_begin : StepsAreUndone → StepsBegin
steps_begin undone d d' a u memory for none (inl g) = step_begins undone d d' a u memory for none g
steps_begin undone d d' a u memory for none (inr f) = found_same d d' a f.same (found_begins d a for none (found_again d a for none f.some))

-- ---- a step that isn't begun

-- the words that were put before it, or stood still, were taken away: the side is as it was, but for its table
pub record Undone (d : Debugged) (a : SideState) : Type 0 where
  pub result : SideState
  pub side : SideState
  pub prepares : Prepares ByStep a (Ok result) side
  pub stands : StandsFor d (record a { table = side.table })

module _ (undone : StepsAreUndone) (d d' : Debugged) (a : SideState) (u : TableUse) (memory : IsMemory d.host.machine.memory) (for : StandsFor d a) (none : a.step_words ≡ []) where
  back_there : IsStepped d d' a.table u ⊎ FindsWords d d' → a.machine ≡ (cleared d'.row d'.host).machine
  back_there (inl g) = same_machine undone d d' a u memory for none g ∙ sym (cleared_there undone d d' a u memory for none g)
  back_there (inr f) = is_cleared d a for none ∙ ap (λ (z : Debugged). (cleared z.row z.host).machine) (sym f.same)

  still_there : IsStepped d d' a.table u ⊎ FindsWords d d' → IsStill d d'
  still_there (inl g) = g.still
  still_there (inr f) = subst (IsStill d) (sym f.same) (record { breaks = refl; stands_at = refl; kept = refl })

  frame_there : IsStepped d d' a.table u ⊎ FindsWords d d' → d'.frame ≡ d.frame
  frame_there (inl g) = g.frame
  frame_there (inr f) = ap (λ (z : Debugged). z.frame) f.same

  ended_there : IsStepped d d' a.table u ⊎ FindsWords d d' → d'.host.nub.ended ≡ d.host.nub.ended
  ended_there (inl g) = ap (λ (h : Host). h.nub.ended) g.host
  ended_there (inr f) = ap (λ (z : Debugged). z.host.nub.ended) f.same

  pub step_undone : (d'' : Debugged) → IsStepped d d' a.table u ⊎ FindsWords d d' → IsSettled d' d'' → Undone d'' a
  step_undone d'' g s =
      let c = steps_begin undone d d' a u memory for none g in
      let still : IsStill d d' = still_there g in
      record {
        result = c.0;
        side = c.1;
        prepares = c.2;
        stands = record {
          table = subst (λ (t : StoreState). IsTable t c.1.table) (sym s.table) c.3.stands.table;
          frame = for.frame ∙ sym (s.frame ∙ frame_there g);
          alike = record {
            breaks = for.alike.breaks ∙ sym (s.still.breaks ∙ still.breaks);
            stands_at = for.alike.stands_at ∙ sym (s.still.stands_at ∙ still.stands_at);
            kept = for.alike.kept ∙ sym (s.still.kept ∙ still.kept);
            words = inl (record { words = none ∙ sym (ap (map (row_in d''.table)) s.words); machine = back_there g ∙ ap (λ (h : Host). h.machine) (sym s.host) });
          };
          ended = subst (EndsWith a.kept) (sym (ap (λ (h : Host). h.nub.ended) s.host ∙ ended_there g)) for.ended;
          unended = for.unended;
          again = λ stay. inl s.words;
        };
      }

-- where no word of a step is there, and its table alone has changed, it stands with that
pub stands_with : (d d' : Debugged) (a : SideState) (t : StoreState) → StandsFor d a → a.step_words ≡ [] → d.row.step_words.items ≡ [] → IsTable d'.table t → d'.frame ≡ d.frame → d'.row.step_words.items ≡ [] → IsStill d d' → d'.host ≡ d.host
    → StandsFor d' (record a { table = t })
stands_with d d' a t for none free table frame left still host = record {
  table = table;
  frame = for.frame ∙ sym frame;
  alike = record {
    breaks = for.alike.breaks ∙ sym still.breaks;
    stands_at = for.alike.stands_at ∙ sym still.stands_at;
    kept = for.alike.kept ∙ sym still.kept;
    words = inl (record {
      words = none ∙ sym (ap (map (row_in d'.table)) left);
      machine = is_cleared d a for none ∙ (cleared_of_none d.row d.host free ∙ ap (λ (h : Host). h.machine) (sym host));
    });
  };
  ended = subst (EndsWith a.kept) (sym (ap (λ (h : Host). h.nub.ended) host)) for.ended;
  unended = for.unended;
  again = λ stay. inl left;
}

pub points_fail : PointsFail
points_fail a e u looks =
    let t : TableUse = use_of a.table MOST_STEPS in
    record { use_after = u; comes = (Ok tt, t, (refl, inl refl), (Err e, u, (Err e, u, looks, (refl, refl)), (refl, refl))); leaves = refl }

pub words_fail : WordsFail
words_fail d a s points u for none free looks meets =
    let t : TableUse = use_of a.table MOST_STEPS in
    let same : d.host.machine ≡ a.machine = sym (is_cleared d a for none ∙ cleared_of_none d.row d.host free) in
    let steps : step_words_at (map (row_in s) points) a u (Err (Kind RangeCheck)) u =
    fails s d.host.machine.target points (bytes_of d.host.machine) a u (ap (λ (m : MachineState). order_of m) same) (ap (λ (m : MachineState). m.memory) same) (ap (λ (m : MachineState). m.target) same) meets in
    record { use_after = u; comes = (Ok tt, t, (refl, inl refl), (Err (Kind RangeCheck), u, (Ok (map (row_in s) points), u, looks, steps), (refl, refl))); leaves = refl }

-- ---- whole

settled_target : (d d' : Debugged) → IsSettled d d' → d'.host.machine.target ≡ d.host.machine.target
settled_target d d' g = ap (λ (h : Host). h.machine.target) g.host

settled_memory : (d d' : Debugged) → IsMemory d.host.machine.memory → IsSettled d d' → IsMemory d'.host.machine.memory
settled_memory d d' m g =
    subst (λ (h : Host). IsMemory h.machine.memory) (sym g.host)
    (words_memory (order_of d.host.machine) (noop_of d.host.machine.target) (map address_of d.row.step_words.items) d.host.machine.memory m)

pub settled_fit : (kind : MachineKind) (d d' : Debugged) → IsFit kind d → IsSettled d d' → IsFit kind d'
settled_fit kind d d' f g = record { context = f.context; target = f.target ∙ sym (settled_target d d' g); memory = settled_memory d d' f.memory g }

pub whole_continue : StepsAreAgain → ContinuesAreWhole
whole_continue again b kind limit all d d' d'' a steady fit for none g r =
    let c = continues d d' a for none g in
    (c.0, resumes again b kind limit all d' d'' a steady (settled_fit kind d d' fit g) c.1.stands (λ k. c.1.planted) r)

begun_target : (d d' : Debugged) (t : StoreState) (u : TableUse) → IsStepped d d' t u ⊎ FindsWords d d' → d'.host.machine.target ≡ d.host.machine.target
begun_target d d' t u (inl g) = ap (λ (h : Host). h.machine.target) g.host
begun_target d d' t u (inr f) = ap (λ (z : Debugged). z.host.machine.target) f.same

begun_memory : (d d' : Debugged) (t : StoreState) (u : TableUse) → IsMemory d.host.machine.memory → IsStepped d d' t u ⊎ FindsWords d d' → IsMemory d'.host.machine.memory
begun_memory d d' t u m (inl g) = puts_memory d.host.machine.target (bytes_of d.host.machine) (bytes_of d'.host.machine) g.points d'.row.step_words.items m g.puts
begun_memory d d' t u m (inr f) = subst (λ (z : Debugged). IsMemory z.host.machine.memory) (sym f.same) m

pub begun_fit : (kind : MachineKind) (d d' : Debugged) (t : StoreState) (u : TableUse) → IsFit kind d → IsStepped d d' t u ⊎ FindsWords d d' → IsFit kind d'
begun_fit kind d d' t u f g = record { context = f.context; target = f.target ∙ sym (begun_target d d' t u g); memory = begun_memory d d' t u f.memory g }

pub whole_step : StepsAreUndone → StepsAreAgain → StepsAreWhole
whole_step undone again b kind limit all d d' d'' a u steady fit for none g r =
    let c = steps_begin undone d d' a u fit.memory for none g in
    (c.0, c.1, c.2, resumes again b kind limit all d' d'' c.1 steady (begun_fit kind d d' a.table u fit g) c.3.stands (λ k. c.3.planted) r)
