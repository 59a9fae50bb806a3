-- Each step of the program is answered by its code.
use Rattle.std.proofs.Common.{◌≡◌, ℕ, zero, suc, ◌+◌, List, [], ◌∷◌, ◌++◌, length, take, drop, Option, Some, None, Bool, true, false, refl, sym, ap, ◌∙◌, subst, arith, length-append, length-take-le, append_assoc, ⊎_elim, true≢false}
use Rattle.std.specs.Prelude.{slice_get, bytes_eq, codes, ◌==◌, ◌&&◌, if◌then◌else◌}
use Rattle.c_tree.specs.declared.types.CType.{CType}
use Rattle.c_tree.specs.declared.types.CType.TheVariants.{Struct}
use Rattle.c_tree.specs.declared.typed.DeclaredLocal.{DeclaredLocal}
use Rattle.c_tree.specs.declared.typed.Stmt.{Stmt}
use Rattle.c_tree.specs.declared.typed.Stmt.TheVariants.{While', Do', For'}
use Rattle.c_tree.specs.declared.rows.SymbolRow.{SymbolRow}
use Rattle.c_tree.specs.declared.rows.Referent.{Referent}
use Rattle.c_tree.specs.declared.rows.Referent.TheVariants.{Object, Local, Function as Defined, Declared}
use Rattle.c_tree.specs.Types.{is_array}
use Rattle.c_tree.specs.Layout.{leaves_of}
use Rattle.runs.specs.Runs.{Goes as GoesOn, Passes, Undefined, IllTyped}
use Rattle.c_store.specs.Store.{Value, Number, Null, At, is_stale, load_struct}
use Rattle.c_store.specs.Frames.{Here, with_point, made, left, is_free, bound}
use Rattle.c_source.specs.Blocks.{local_type, opened, opened_one, can_open, leaf_count, cells_of}
use Rattle.c_tree.specs.Rows.{statements_in}
use Rattle.c_source.specs.Operators.{bits_in}
use Rattle.c_source.specs.Control.{Item, State, Activation, Eval, Locate, Push, Bound, Load, Convert, Store, Copy, Update, Change, Combine, Offset, Use, Discard, Truth, AndThen, OrElse, Pick, Joined, Enter, Run, Stop, Choose, Open, Close, Turn, Again, Select, Seek, Switched, GiveBack, Leave, Label, seeks, runs_of, part_of, test_of, loop_goes_on, loop_turns, labels_in, default_in, outermost_of}
use Rattle.c_tree.specs.Points.{last_of}
use Rattle.c_source.specs.Source as source
use Rattle.slot_ir.specs.declared.code.SlotOp.{SlotOp}
use Rattle.slot_ir.specs.declared.code.SlotOp.TheVariants as op
use Rattle.slot_ir.specs.Operators as slot_operators
use Rattle.slot_ir.specs.Slots.{Temps, SlotState, Frame, with_temp}
use Rattle.slot_ir.specs.Slots as slots
use Rattle.slot_gen.specs.Expressions.{enter_code, call_code, built_in_code}
use Rattle.slot_gen.specs.Statements.{Around, stmt_code, stmts_code, zeros_code, in_switch, targets_of, defaults_of, seek_code, first_target, end_place}
use Rattle.slot_gen.proofs.Follow.{HasAt, has_front, has_back, Where, InTemp, InReg, Kept, Holds, Follows, Loops, IsInside, RunsAt, Seeks, IsLoop, step_in, test_in, body_in, loop_of, switch_of, temps_on, chosen_first, chosen_second, runs_follow, loops_runs}
use Rattle.slot_gen.proofs.Match.{Setting, Ground, Doing, Outer, Matches, Answered, Steps, D, F, slot, now, code, again, at_op, one_step, some_steps, puts}
use Rattle.slot_gen.proofs.Values.{push_answers, bound_answers, load_answers, read_answers, convert_answers, store_answers, write_answers, update_answers, change_answers, combine_answers, change_by, offset_answers, use_answers, discard_answers, truth_answers, copy_answers, tested, zero_jumps}
use Rattle.slot_gen.proofs.Evaluations.{eval_answers, locate_answers, pick_answers, and_answers, or_answers}
use Rattle.slot_gen.proofs.Rounds.{length-zeros, length-seeks, Stands, body_stands, goes_on, labels_follow, default_follows}
use Rattle.slot_gen.proofs.Calls.{call_answers, get_answers, put_answers, zeroed_same, counted_same}
use Rattle.slot_gen.proofs.Executions.{run_answers, stand_jump}

-- ---- the end of an activation

module _ (set : Setting) where
  leave_answers : (h : Here) (v : Value) (outer : List Activation) (r : ℕ) (frames : List Frame) → Outer set outer frames r → (temps : Temps) (pc : ℕ) (k : List Item) → Doing set h.activation (InTemp ∷ []) (InTemp ∷ []) (v ∷ []) (Leave ∷ k) temps pc
      → Answered set (record { here = h; values = v ∷ []; control = Leave ∷ k; outer = outer }) (source.end_with set.p h outer v outer) (record { here = h; temps = temps; pc = pc; result_at = r; outer = frames })
  leave_answers h (Number n) [] r [] out temps pc k d =
      let t : SlotState = record { here = h; temps = temps; pc = pc; result_at = r; outer = [] } in
      (0, 0, t, t, omega arith, (refl, refl), ap (slots.at_op set.c t) d.follows ∙ ap (λ o. slots.on_temp o (λ v. slots.returns set.c t v [])) d.holds.0, (refl, refl), refl)
  leave_answers h Null [] r [] out temps pc k d = tt
  leave_answers h (At o i) [] r [] out temps pc k d = tt
  leave_answers h v [] r (g ∷ gs) out temps pc k d = absurd out
  leave_answers h v (a ∷ rest) r [] out temps pc k d = absurd out
  leave_answers h v (a ∷ rest) r (g ∷ gs) out temps pc k d =
      let t : SlotState = record { here = h; temps = temps; pc = pc; result_at = r; outer = g ∷ gs } in
      let w = out.3 in
      let u : SlotState = record { here = record { world = (left 0 h).world; activation = g.activation }; temps = with_temp g.temps r v; pc = g.pc; result_at = g.result_at; outer = gs } in (
        1,
        1,
        u,
        omega arith,
        (1, 0, u, refl, ap (slots.at_op set.c t) d.follows ∙ ap (λ o. slots.on_temp o (λ v. slots.returns set.c t v (g ∷ gs))) d.holds.0, (refl, refl), refl),
        record {
          same = ap (λ p. record { world = (left 0 h).world; activation = p }) out.0;
          ws = InTemp ∷ out.1;
          doing = record { fn = w.fn; found = w.found; ends = w.ends; around = w.around; loops = w.loops; holds = subst (λ i. Holds a.activation (with_temp g.temps i v) (InTemp ∷ out.1) (v ∷ a.values)) (sym out.2) (puts a.activation g.temps v out.1 a.values w.holds); follows = w.follows };
          outer = out.4;
        },
        tt,
      )

-- ---- loops by their parts

stays : (i : ℕ) → i ≡ i + 0
stays i = omega arith

turns_same : (s : Stmt) (n : ℕ) → IsLoop s → loop_turns s n ≡ Run (body_in s) ∷ Again s n ∷ []
turns_same (While' x q y b) n i = refl
turns_same (Do' x y b q) n i = refl
turns_same (For' x j q t y b) n i = refl
turns_same s n i = absurd i

goes_on_same : (s : Stmt) (n : ℕ) → IsLoop s → loop_goes_on s n ≡ part_of (step_in s) ++ test_of (test_in s) (body_in s) s n
goes_on_same (While' x q y b) n i = refl
goes_on_same (Do' x y b q) n i = refl
goes_on_same (For' x j q t y b) n i = refl
goes_on_same s n i = absurd i

module _ (set : Setting) (g : Ground set) where
  abbrev f : ℕ
  f = g.h.activation.function

  abbrev n : ℕ
  n = length g.h.activation.locals

  -- ---- calls

  enter_answers : (q m : ℕ) (us : List Where) (k : List Item) (vs : List Value) (temps : Temps) (pc : ℕ) → (d : D set g (temps_on m us) vs (Enter q m ∷ k) temps pc)
      → (o : Option SymbolRow) → HasAt (code set g) pc (enter_code (length us) o m) → F set g d.around (pc + length (enter_code (length us) o m)) (InTemp ∷ us) k
      → Answered set (now set g vs (Enter q m ∷ k)) (source.on_some o (λ s. source.call set.p g.h g.outer s.refers s.name m vs k)) (slot set g temps pc)
  enter_answers q m us k vs temps pc d None has rest = tt
  enter_answers q m us k vs temps pc d (Some s) has rest = by s.refers has rest
    where
      built : (m : ℕ) (vs : List Value) → (d : D set g (temps_on m us) vs (Enter q m ∷ k) temps pc) → HasAt (code set g) pc (built_in_code (length us) s.name m) → F set g d.around (pc + length (built_in_code (length us) s.name m)) (InTemp ∷ us) k
          → Answered set (now set g vs (Enter q m ∷ k)) (source.built_in set.p g.h g.outer s.name (take m vs) (drop m vs) k) (slot set g temps pc)
      built zero vs d has rest = get_answers set g q s.name k us vs temps pc d (bytes_eq s.name (codes "getchar")) has rest
      built (suc zero) [] d has rest = absurd d.holds
      built (suc zero) (x ∷ vs) d has rest = put_answers set g q x k us vs temps pc d (bytes_eq s.name (codes "getchar")) (bytes_eq s.name (codes "putchar")) (bytes_eq s.name (codes "exit")) has rest
      built (suc (suc m)) [] d has rest = absurd d.holds
      built (suc (suc m)) (x ∷ []) d has rest = absurd d.holds.1
      built (suc (suc m)) (x ∷ y ∷ vs) d has rest = tt

      by : (r : Referent) → HasAt (code set g) pc (call_code (length us) r s.name m) → F set g d.around (pc + length (call_code (length us) r s.name m)) (InTemp ∷ us) k
          → Answered set (now set g vs (Enter q m ∷ k)) (source.call set.p g.h g.outer r s.name m vs k) (slot set g temps pc)
      by (Object o) has rest = tt
      by (Local x) has rest = tt
      by (Defined j) has rest = call_answers set g q j m us k vs temps pc d has.0 rest (slice_get set.p.functions j) refl
      by Declared has rest = built m vs d has rest

  -- ---- blocks

  opened-function : (ds : List DeclaredLocal) (j : ℕ) (h : Here) → (opened set.p j ds h).activation.function ≡ h.activation.function
  unfolding made
  opened-function [] j h = refl
  opened-function (d ∷ ds) j h = opened-function ds j (opened_one set.p j d.local h)

  opened-scope : (ds : List DeclaredLocal) (j : ℕ) (h : Here) → length (opened set.p j ds h).activation.locals ≡ length h.activation.locals + length ds
  unfolding made
  opened-scope [] j h = omega arith
  opened-scope (d ∷ ds) j h = omega (arith, opened-scope ds j (opened_one set.p j d.local h), length-append h.activation.locals (record { local = d.local; object = length h.world.objects } ∷ []))

  both_true : (a b : Bool) → a && b ≡ true → (a ≡ true) × (b ≡ true)
  both_true true b h = (refl, h)
  both_true false b h = absurd (true≢false (sym h))

  -- the objects of a block are made one after another
  opens : (ds : List DeclaredLocal) (o : State) (h : Here) (temps : Temps) (pc : ℕ) → h.activation.function ≡ f → h.world.output ≡ o.here.world.output → can_open set.p f ds h ≡ true → HasAt (code set g) pc (zeros_code ds)
      → Steps set g o (length ds) (leaf_count set.p f ds) (record { here = h; temps = temps; pc = pc; result_at = g.at; outer = g.frames }) (record { here = opened set.p f ds h; temps = temps; pc = pc + length ds; result_at = g.at; outer = g.frames })
  unfolding made
  opens [] o h temps pc e w can has = (refl, ap (λ i. record { here = h; temps = temps; pc = i; result_at = g.at; outer = g.frames }) (stays pc))
  opens (d ∷ ds) o h temps pc e w can has =
      let t : SlotState = record { here = h; temps = temps; pc = pc; result_at = g.at; outer = g.frames } in
      let h' = opened_one set.p f d.local h in
      let u : SlotState = record { here = h'; temps = temps; pc = pc + 1; result_at = g.at; outer = g.frames } in
      let one = length (leaves_of set.p.defs (local_type set.p f d.local)) in
      let both = both_true (is_free d.local h.activation.locals) (can_open set.p f ds h') can in
      let step =
      ap (λ j. slots.at_op set.c t (slice_get (slots.code_of set.c j) pc)) e
      ∙ ap (slots.at_op set.c t) has.0
      ∙ ap (λ b. if b then slots.goes set.c t (slots.leaf_count_in (slots.local_row set.c h.activation.function d.local)) (slots.zeroed_local set.c d.local h) else Undefined IllTyped) both.0
      ∙ ap (λ j. slots.goes set.c t (slots.leaf_count_in (slots.local_row set.c j d.local)) (slots.zeroed_local set.c d.local h)) e
      ∙ ap (λ c. slots.goes set.c t c (slots.zeroed_local set.c d.local h)) (counted_same set.p set.c set.is f d.local)
      ∙ ap (slots.goes set.c t one) (zeroed_same set.p set.c set.is d.local h)
      ∙ ap (λ j. slots.goes set.c t one (opened_one set.p j d.local h)) e in
      let rest = opens ds o h' temps (pc + 1) e w both.1 has.1 in
      let at : pc + 1 + length ds ≡ pc + suc (length ds) = omega arith in
      (one, leaf_count set.p f ds, u, refl, step, subst (λ i. Steps set g o (length ds) (leaf_count set.p f ds) u (record { here = opened set.p f ds h'; temps = temps; pc = i; result_at = g.at; outer = g.frames })) at rest, w)

  -- ---- labels

  seek_jumps : (st : SlotState) (v c to : ℕ) (b : Bool) → st.temps 0 ≡ Some (Number v) → (c == v) ≡ b → slots.act set.c st (op.JumpIfEqual 0 c to) ≡ slots.jumps_if set.c st b to
  seek_jumps st v c to b t e =
      ap (λ o. slots.on_temp o (λ x. slots.on_ok (slot_operators.number_in x) (λ m. slots.jumps_if set.c st (c == m) to))) t ∙ ap (λ b. slots.jumps_if set.c st b to) e

  -- the statements from a label on, inside the `switch`
  label_stands : (r u : Around) (m end d : ℕ) (ss : List Stmt) (k : List Item) → n ≡ m → IsInside r n → slice_get (code set g) u.leave ≡ Some (op.Jump end) → u.leave_scope ≡ m → u.again ≡ r.again → u.again_scope ≡ r.again_scope
      → RunsAt set.p f (code set g) u n end d ss → Follows set.p f (code set g) r m end [] k → Loops set.p f (code set g) r k → Stands set.p f (code set g) n d (runs_of ss ++ Switched m ∷ k)
  label_stands r u m end d ss k nm inside jump ls ag sc runs after l = record {
    around = u;
    loops = loops_runs set.p f (code set g) u ss (Switched m ∷ k) (end, r, jump, ls, ag, sc, after, l);
    follows = runs_follow set.p f (code set g) u n ss d (Switched m ∷ k) (omega (arith, ls, nm), omega (arith, sc, inside.1)) runs.0 (nm, end, runs.1, jump);
  }

  -- two operators, the second of which is a jump
  stand_two : (k0 k : List Item) (ws : List Where) (vs : List Value) (temps : Temps) (pc mid to : ℕ) (o : SlotOp) → D set g ws vs k0 temps pc → slice_get (code set g) pc ≡ Some o
      → slots.act set.c (slot set g temps pc) o ≡ slots.jumps set.c (slot set g temps pc) mid → slice_get (code set g) mid ≡ Some (op.Jump to)
      → Stands set.p f (code set g) n to k → Answered set (now set g vs k0) (GoesOn 1 (now set g [] k)) (slot set g temps pc)
  stand_two k0 k ws vs temps pc mid to o d e a j s =
      some_steps set g (now set g vs k0) (now set g [] k) (slot set g temps pc) (slot set g temps to) 1 2 2 (omega arith) (omega arith)
      (1, 1, slot set g temps mid, omega arith, at_op set g temps pc o e ∙ a, (1, 0, slot set g temps to, omega arith, at_op set g temps mid (op.Jump to) j, (refl, refl), refl), refl)
      (record { same = refl; ws = []; doing = record { fn = d.fn; found = d.found; ends = d.ends; around = s.around; loops = s.loops; holds = tt; follows = s.follows }; outer = g.out })

  -- a value is compared with the next label, or the statements from `default` on are reached
  sought : (v : ℕ) (ls : List Label) (default : List Stmt) (m : ℕ) (k0 k : List Item) (ws : List Where) (vs : List Value) (temps : Temps) (pc mid : ℕ) (o : SlotOp) (u : Around) (end : ℕ) → (d : D set g ws vs k0 temps pc)
      → slice_get (code set g) pc ≡ Some o → slots.act set.c (slot set g temps pc) o ≡ slots.jumps set.c (slot set g temps pc) mid → temps 0 ≡ Some (Number v)
      → n ≡ m → IsInside d.around n → slice_get (code set g) u.leave ≡ Some (op.Jump end) → u.leave_scope ≡ m → u.again ≡ d.around.again → u.again_scope ≡ d.around.again_scope
      → Seeks set.p f (code set g) u n end mid ls default → Follows set.p f (code set g) d.around m end [] k → Loops set.p f (code set g) d.around k
      → Answered set (now set g vs k0) (GoesOn 1 (now set g [] (seeks v ls default m k))) (slot set g temps pc)
  sought v [] default m k0 k ws vs temps pc mid o u end d e a kept nm inside jump ls ag sc s after l =
      stand_two k0 (runs_of default ++ Switched m ∷ k) ws vs temps pc mid s.0 o d e a s.1 (label_stands d.around u m end s.0 default k nm inside jump ls ag sc s.2 after l)
  sought v (x ∷ xs) default m k0 k ws vs temps pc mid o u end d e a kept nm inside jump ls ag sc s after l =
      one_step set g k0 (Seek v x xs default m ∷ k) vs [] temps temps pc mid 1 1 (Kept v ∷ []) o (omega arith) e a
      (again set g ws (Kept v ∷ []) vs [] k0 (Seek v x xs default m ∷ k) temps temps pc mid d (kept, tt) l (refl, nm, inside, u, end, jump, ls, ag, sc, s, after))

  seek_answers : (v : ℕ) (l : Label) (ls : List Label) (default : List Stmt) (m : ℕ) (k : List Item) (y : ℕ) (temps : Temps) (pc : ℕ) → D set g (Kept y ∷ []) [] (Seek v l ls default m ∷ k) temps pc
      → Answered set (now set g [] (Seek v l ls default m ∷ k)) (source.seek set.p g.h g.outer v l ls default m [] k) (slot set g temps pc)
  seek_answers v l ls default m k y temps pc d = by (l.constant == v) refl
    where
      by : (b : Bool) → (l.constant == v) ≡ b → Answered set (now set g [] (Seek v l ls default m ∷ k)) (GoesOn 1 (now set g [] (if b then runs_of l.from ++ Switched m ∷ k else seeks v ls default m k))) (slot set g temps pc)
      by true e =
          let fo = d.follows in
          let s = fo.9 in
          let st = slot set g temps pc in
          let kept : temps 0 ≡ Some (Number v) = d.holds.0 ∙ ap (λ x. Some (Number x)) fo.0 in
          stand_jump set g (Seek v l ls default m ∷ k) (runs_of l.from ++ Switched m ∷ k) (Kept y ∷ []) [] temps pc s.0 (op.JumpIfEqual 0 l.constant s.0) d s.1 (seek_jumps st v l.constant s.0 true kept e)
          (label_stands d.around fo.3 m fo.4 s.0 l.from k fo.1 fo.2 fo.5 fo.6 fo.7 fo.8 s.2 fo.10 d.loops)
      by false e =
          let fo = d.follows in
          let s = fo.9 in
          let st = slot set g temps pc in
          let kept : temps 0 ≡ Some (Number v) = d.holds.0 ∙ ap (λ x. Some (Number x)) fo.0 in
          sought v ls default m (Seek v l ls default m ∷ k) k (Kept y ∷ []) [] temps pc (pc + 1) (op.JumpIfEqual 0 l.constant s.0) fo.3 fo.4 d s.1 (seek_jumps st v l.constant s.0 false kept e) kept
          fo.1 fo.2 fo.5 fo.6 fo.7 fo.8 s.3 fo.10 d.loops

  -- ---- the rest of a `switch`

  select_answers : (b : Stmt) (m : ℕ) (k : List Item) (v : Value) (temps : Temps) (pc : ℕ) → D set g (InTemp ∷ []) (v ∷ []) (Select b m ∷ k) temps pc
      → Answered set (now set g (v ∷ []) (Select b m ∷ k)) (source.on_ok (bits_in v) (λ x. GoesOn 1 (now set g [] (seeks x (labels_in (statements_in b)) (default_in (statements_in b)) m k)))) (slot set g temps pc)
  select_answers b m k Null temps pc d = tt
  select_answers b m k (At o i) temps pc d = tt
  select_answers b m k (Number x) temps pc d =
      let co = code set g in
      let ss = statements_in b in
      let r = d.around in
      let u = in_switch pc n r in
      let body = stmts_code set.p f u n (pc + 2) ss in
      let labels = targets_of set.p f u n (pc + 2) ss in
      let defaults = defaults_of set.p f u n (pc + 2) ss in
      let over = pc + 2 + length body in
      let end = over + 1 + length labels + 1 in
      let fo = d.follows in
      let has = fo.2 in
      let two : pc + 1 + 1 ≡ pc + 2 = omega arith in
      let last = op.Jump (first_target over defaults) ∷ [] in
      let rest = subst (λ i. HasAt co i (body ++ op.Jump end ∷ (seek_code labels ++ last))) two has.1.1 in
      let behind = has_back co (pc + 2) body (op.Jump end ∷ (seek_code labels ++ last)) rest in
      let runs : RunsAt set.p f co u n end (pc + 2) ss = (has_front co (pc + 2) body (op.Jump end ∷ (seek_code labels ++ last)) rest, behind.0) in
      let found = labels_follow set.p f co u n end ss (pc + 2) (over + 1) last (default_in ss) runs behind.1 (λ i h. default_follows set.p f co u n end ss (pc + 2) over i runs refl h.0) in
      let len : pc + length (switch_of set.p f co r n pc ss) ≡ end = omega (arith, length-append body (op.Jump end ∷ (seek_code labels ++ last)), length-append (seek_code labels) last, length-seeks labels) in
      let after = subst (λ i. F set g r i [] k) len fo.3 in
      sought x (labels_in ss) (default_in ss) m (Select b m ∷ k) k (InTemp ∷ []) (Number x ∷ []) temps pc (over + 1) (op.Jump (over + 1)) u end d has.0 refl d.holds.0
      fo.0 fo.1 has.1.0 fo.0 refl refl found (subst (λ i. Follows set.p f co r i end [] k) fo.0 after) d.loops

  switched_answers : (m : ℕ) (k : List Item) (temps : Temps) (pc : ℕ) → D set g [] [] (Switched m ∷ k) temps pc
      → Answered set (now set g [] (Switched m ∷ k)) (GoesOn 1 (now set g [] k)) (slot set g temps pc)
  switched_answers m k temps pc d =
      let fo = d.follows in
      let l = d.loops in
      let same : l.0 ≡ fo.1 = same_jump (sym l.2 ∙ fo.3) in
      let at = subst (λ i. Follows set.p f (code set g) l.1 i fo.1 [] k) (sym fo.0) (subst (λ i. Follows set.p f (code set g) l.1 m i [] k) same l.6) in
      stand_jump set g (Switched m ∷ k) k [] [] temps pc fo.1 (op.Jump fo.1) d fo.2 refl (record { around = l.1; loops = l.7; follows = at })
    where
      same_jump : {a b : ℕ} → Some (op.Jump a) ≡ Some (op.Jump b) → a ≡ b
      same_jump e = cc e

  -- ---- choices and loops

  choose_answers : (a : Stmt) (b : List Stmt) (k : List Item) (v : Value) (temps : Temps) (pc : ℕ) → D set g (InTemp ∷ []) (v ∷ []) (Choose a b ∷ k) temps pc
      → Answered set (now set g (v ∷ []) (Choose a b ∷ k)) (source.on_test set.p g.h g.outer v (GoesOn 1 (now set g [] (Run a ∷ Joined ∷ k))) (GoesOn 1 (now set g [] (runs_of b ++ k)))) (slot set g temps pc)
  choose_answers a b k v temps pc d =
      let co = code set g in
      let r = d.around in
      let st = slot set g temps pc in
      let ca = stmt_code set.p f r n (pc + 1) a in
      let other = pc + 1 + length ca + 1 in
      let cb = stmts_code set.p f r n other b in
      let fo = d.follows in
      let x = chosen_first set.p f co r n 0 ca cb pc [] k fo.1 fo.2 in
      let y = chosen_second set.p f co r n 0 ca cb pc [] k fo.1 fo.2 in
      tested set g v (now set g (v ∷ []) (Choose a b ∷ k)) (GoesOn 1 (now set g [] (Run a ∷ Joined ∷ k))) (GoesOn 1 (now set g [] (runs_of b ++ k))) st
      (λ s e. stand_jump set g (Choose a b ∷ k) (Run a ∷ Joined ∷ k) (InTemp ∷ []) (v ∷ []) temps pc (pc + 1) (op.JumpIfZero 0 other) d fo.1.0 (zero_jumps set g st 0 other v false d.holds.0 s e)
      (record { around = r; loops = d.loops; follows = (fo.0, x.0, x.1) }))
      (λ s e. stand_jump set g (Choose a b ∷ k) (runs_of b ++ k) (InTemp ∷ []) (v ∷ []) temps pc other (op.JumpIfZero 0 other) d fo.1.0 (zero_jumps set g st 0 other v true d.holds.0 s e)
      (record { around = r; loops = loops_runs set.p f co r b k d.loops; follows = runs_follow set.p f co r n b other k fo.0 y.0 y.1 }))

  turn_answers : (s : Stmt) (m : ℕ) (k : List Item) (v : Value) (temps : Temps) (pc : ℕ) → D set g (InTemp ∷ []) (v ∷ []) (Turn s m ∷ k) temps pc
      → Answered set (now set g (v ∷ []) (Turn s m ∷ k)) (source.on_test set.p g.h g.outer v (GoesOn 1 (now set g [] (loop_turns s m ++ k))) (GoesOn 1 (now set g [] k))) (slot set g temps pc)
  turn_answers s m k v temps pc d =
      let co = code set g in
      let fo = d.follows in
      let st = slot set g temps pc in
      let start = fo.0 in
      let end = start + length (loop_of set.p f co start m s) in
      let inside = body_stands set.p f co start m s d.around k fo.2 fo.5 fo.6 d.loops in
      let there = subst (λ i. Stands set.p f co m i (Run (body_in s) ∷ Again s m ∷ k)) (sym fo.4) inside in
      let body = subst (λ l. Stands set.p f co n (pc + 1) (l ++ k)) (sym (turns_same s m fo.2)) (subst (λ i. Stands set.p f co i (pc + 1) (Run (body_in s) ∷ Again s m ∷ k)) (sym fo.1) there) in
      tested set g v (now set g (v ∷ []) (Turn s m ∷ k)) (GoesOn 1 (now set g [] (loop_turns s m ++ k))) (GoesOn 1 (now set g [] k)) st
      (λ z e. stand_jump set g (Turn s m ∷ k) (loop_turns s m ++ k) (InTemp ∷ []) (v ∷ []) temps pc (pc + 1) (op.JumpIfZero 0 end) d fo.3 (zero_jumps set g st 0 end v false d.holds.0 z e) body)
      (λ z e. stand_jump set g (Turn s m ∷ k) k (InTemp ∷ []) (v ∷ []) temps pc end (op.JumpIfZero 0 end) d fo.3 (zero_jumps set g st 0 end v true d.holds.0 z e)
      (record { around = d.around; loops = d.loops; follows = subst (λ i. Follows set.p f co d.around i end [] k) (sym fo.1) fo.6 }))

  again_answers : (s : Stmt) (m : ℕ) (k : List Item) (temps : Temps) (pc : ℕ) → D set g [] [] (Again s m ∷ k) temps pc
      → Answered set (now set g [] (Again s m ∷ k)) (GoesOn 1 (now set g [] (loop_goes_on s m ++ k))) (slot set g temps pc)
  again_answers s m k temps pc d =
      let co = code set g in
      let l = d.loops in
      let start = l.0 in
      let jump : slice_get co pc ≡ Some (op.Jump (start + 2)) = d.follows.1 ∙ ap (λ (r : Around). Some (op.Jump r.again)) l.2 in
      let on = goes_on set.p f co start m s l.1 k l.3 l.4 l.5 l.6 in
      let all = subst (λ i. Stands set.p f co m (start + 2) i) (sym (append_assoc (part_of (step_in s)) (test_of (test_in s) (body_in s) s m) k)) on in
      let named = subst (λ i. Stands set.p f co m (start + 2) (i ++ k)) (sym (goes_on_same s m l.3)) all in
      stand_jump set g (Again s m ∷ k) (loop_goes_on s m ++ k) [] [] temps pc (start + 2) (op.Jump (start + 2)) d jump refl (subst (λ i. Stands set.p f co i (start + 2) (loop_goes_on s m ++ k)) (sym d.follows.0) named)

  -- ---- blocks that are entered and left

  open_matches : (ds : List DeclaredLocal) (k : List Item) (temps : Temps) (pc i : ℕ) → (d : D set g [] [] (Open ds ∷ k) temps pc) → Follows set.p f (code set g) d.around (n + length ds) i [] k
      → Matches set (record { here = opened set.p f ds g.h; values = []; control = k; outer = g.outer }) (record { here = opened set.p f ds g.h; temps = temps; pc = i; result_at = g.at; outer = g.frames })
  open_matches ds k temps pc i d fo =
      let a = (opened set.p f ds g.h).activation in
      let e : f ≡ a.function = sym (opened-function ds f g.h) in
      record {
        same = refl;
        ws = [];
        doing = record {
          fn = d.fn;
          found = subst (λ j. slice_get set.p.functions j ≡ Some d.fn) e d.found;
          ends = subst (λ j. HasAt (slots.code_of set.c j) end_place (op.Leave (outermost_of d.fn) ∷ op.Stop (last_of d.fn.points) ∷ op.Return 0 ∷ [])) e d.ends;
          around = d.around;
          loops = subst (λ j. Loops set.p j (slots.code_of set.c j) d.around k) e d.loops;
          holds = tt;
          follows = subst (λ m. Follows set.p a.function (slots.code_of set.c a.function) d.around m i [] k) (sym (opened-scope ds f g.h)) (subst (λ j. Follows set.p j (slots.code_of set.c j) d.around (n + length ds) i [] k) e fo);
        };
        outer = g.out;
      }

  opened_answers : (ds : List DeclaredLocal) (k : List Item) (temps : Temps) (pc : ℕ) → D set g [] [] (Open ds ∷ k) temps pc → can_open set.p f ds g.h ≡ true
      → Answered set (now set g [] (Open ds ∷ k)) (GoesOn (1 + leaf_count set.p f ds) (record { here = opened set.p f ds g.h; values = []; control = k; outer = g.outer })) (slot set g temps pc)
  opened_answers ds k temps pc d can =
      let fo = d.follows in
      let to = fo.0 in
      let o = now set g [] (Open ds ∷ k) in
      let c = leaf_count set.p f ds in
      let len : to + length (zeros_code ds) ≡ to + length ds = omega (arith, length-zeros ds) in
      let made_all = opens ds o g.h temps to refl refl can fo.2 in
      let s : State = record { here = opened set.p f ds g.h; values = []; control = k; outer = g.outer } in
      let ma = open_matches ds k temps pc (to + length ds) d (subst (λ i. Follows set.p f (code set g) d.around (n + length ds) i [] k) len fo.3) in
      ⊎_elim
      (λ e. by_zeros ds k temps pc to e made_all ma)
      (λ e. some_steps set g o s (slot set g temps pc) (record { here = opened set.p f ds g.h; temps = temps; pc = to + length ds; result_at = g.at; outer = g.frames }) (1 + c) (suc (length ds)) (1 + c) (omega arith) (omega arith)
      (1, c, slot set g temps to, omega arith, at_op set g temps pc (op.Jump to) e, made_all, refl) ma)
      fo.1
    where
      by_zeros : (ds : List DeclaredLocal) (k : List Item) (temps : Temps) (pc to : ℕ) → pc ≡ to
          → Steps set g (now set g [] (Open ds ∷ k)) (length ds) (leaf_count set.p f ds) (slot set g temps to) (record { here = opened set.p f ds g.h; temps = temps; pc = to + length ds; result_at = g.at; outer = g.frames })
          → Matches set (record { here = opened set.p f ds g.h; values = []; control = k; outer = g.outer }) (record { here = opened set.p f ds g.h; temps = temps; pc = to + length ds; result_at = g.at; outer = g.frames })
          → Answered set (now set g [] (Open ds ∷ k)) (GoesOn (1 + leaf_count set.p f ds) (record { here = opened set.p f ds g.h; values = []; control = k; outer = g.outer })) (slot set g temps pc)
      by_zeros [] k temps pc to e st ma =
          (0, 0, slot set g temps (to + 0), omega arith, (refl, ap (slot set g temps) (e ∙ stays to)), ma, omega arith)
      by_zeros (d ∷ ds) k temps pc to e st ma =
          let q : slot set g temps to ≡ slot set g temps pc = ap (slot set g temps) (sym e) in
          let c = leaf_count set.p f (d ∷ ds) in (
            length (d ∷ ds),
            c,
            record { here = opened set.p f (d ∷ ds) g.h; temps = temps; pc = to + length (d ∷ ds); result_at = g.at; outer = g.frames },
            omega arith,
            subst (λ t. Steps set g (now set g [] (Open (d ∷ ds) ∷ k)) (length (d ∷ ds)) c t (record { here = opened set.p f (d ∷ ds) g.h; temps = temps; pc = to + length (d ∷ ds); result_at = g.at; outer = g.frames })) q st,
            ma,
            tt,
          )

  open_answers : (ds : List DeclaredLocal) (k : List Item) (temps : Temps) (pc : ℕ) → D set g [] [] (Open ds ∷ k) temps pc
      → Answered set (now set g [] (Open ds ∷ k)) (if can_open set.p f ds g.h then GoesOn (1 + leaf_count set.p f ds) (record { here = opened set.p f ds g.h; values = []; control = k; outer = g.outer }) else Undefined IllTyped) (slot set g temps pc)
  open_answers ds k temps pc d = by (can_open set.p f ds g.h) refl
    where
      by : (b : Bool) → can_open set.p f ds g.h ≡ b
          → Answered set (now set g [] (Open ds ∷ k)) (if b then GoesOn (1 + leaf_count set.p f ds) (record { here = opened set.p f ds g.h; values = []; control = k; outer = g.outer }) else Undefined IllTyped) (slot set g temps pc)
      by true e = opened_answers ds k temps pc d e
      by false e = tt

  close_answers : (m : ℕ) (k : List Item) (temps : Temps) (pc : ℕ) → D set g [] [] (Close m ∷ k) temps pc
      → Answered set (now set g [] (Close m ∷ k)) (GoesOn 1 (record { here = left m g.h; values = []; control = k; outer = g.outer })) (slot set g temps pc)
  unfolding left
  close_answers m k temps pc d =
      let fo = d.follows in
      let u : SlotState = record { here = left m g.h; temps = temps; pc = pc + 1; result_at = g.at; outer = g.frames } in
      let len : length (take m g.h.activation.locals) ≡ m = length-take-le m g.h.activation.locals fo.0 in (
        1,
        0,
        u,
        omega arith,
        (0, 0, u, omega arith, at_op set g temps pc (op.Leave m) fo.1, (refl, refl), refl),
        record {
          same = refl;
          ws = [];
          doing = record { fn = d.fn; found = d.found; ends = d.ends; around = d.around; loops = d.loops; holds = tt; follows = subst (λ i. Follows set.p f (code set g) d.around i (pc + 1) [] k) (sym len) fo.2 };
          outer = g.out;
        },
        tt,
      )

  give_back_answers : (v : Value) (k : List Item) (temps : Temps) (pc : ℕ) → (d : D set g (InTemp ∷ []) (v ∷ []) (GiveBack ∷ k) temps pc)
      → Answered set (now set g (v ∷ []) (GiveBack ∷ k)) (GoesOn 1 (record { here = left (outermost_of d.fn) g.h; values = v ∷ []; control = Stop (last_of d.fn.points) ∷ Leave ∷ []; outer = g.outer })) (slot set g temps pc)
  unfolding left
  give_back_answers v k temps pc d =
      let o = outermost_of d.fn in
      let t = slot set g temps pc in
      let u = slot set g temps end_place in
      let w : SlotState = record { here = left o g.h; temps = temps; pc = end_place + 1; result_at = g.at; outer = g.frames } in (
        2,
        1,
        w,
        omega arith,
        (1, 0, u, omega arith, at_op set g temps pc (op.Jump end_place) d.follows, (0, 0, w, omega arith, at_op set g temps end_place (op.Leave o) d.ends.0, (refl, refl), refl), refl),
        record {
          same = refl;
          ws = InTemp ∷ [];
          doing = record { fn = d.fn; found = d.found; ends = d.ends; around = d.around; loops = tt; holds = d.holds; follows = (d.ends.1.0, d.ends.1.1.0) };
          outer = g.out;
        },
        tt,
      )

  stop_answers : (q : ℕ) (k : List Item) (ws : List Where) (vs : List Value) (temps : Temps) (pc : ℕ) → D set g ws vs (Stop q ∷ k) temps pc
      → Answered set (now set g vs (Stop q ∷ k)) (Passes q 1 (record { here = with_point g.h q; values = vs; control = k; outer = g.outer })) (slot set g temps pc)
  stop_answers q k ws vs temps pc d =
      let t = slot set g temps pc in (
        0,
        0,
        t,
        record { here = with_point g.h q; temps = temps; pc = pc + 1; result_at = g.at; outer = g.frames },
        omega arith,
        (refl, refl),
        at_op set g temps pc (op.Stop q) d.follows.0,
        record {
          same = refl;
          ws = ws;
          doing = record { fn = d.fn; found = d.found; ends = d.ends; around = d.around; loops = d.loops; holds = held_at_point ws vs d.holds; follows = d.follows.1 };
          outer = g.out;
        },
        refl,
      )
    where
      held_at_point : (ws : List Where) (vs : List Value) → Holds g.h.activation temps ws vs → Holds (with_point g.h q).activation temps ws vs
      held_at_point [] [] h = tt
      held_at_point [] (x ∷ vs) h = absurd h
      held_at_point (InTemp ∷ ws) [] h = absurd h
      held_at_point (InTemp ∷ ws) (x ∷ vs) h = (h.0, held_at_point ws vs h.1)
      held_at_point (InReg y ∷ ws) [] h = absurd h
      held_at_point (InReg y ∷ ws) (x ∷ vs) h = (h.0, held_at_point ws vs h.1)
      held_at_point (Kept y ∷ ws) vs h = (h.0, held_at_point ws vs h.1)

  joined_answers : (k : List Item) (ws : List Where) (vs : List Value) (temps : Temps) (pc : ℕ) → D set g ws vs (Joined ∷ k) temps pc
      → Answered set (now set g vs (Joined ∷ k)) (GoesOn 1 (now set g vs k)) (slot set g temps pc)
  joined_answers k ws vs temps pc d =
      let m = d.follows.0 in
      one_step set g (Joined ∷ k) k vs vs temps temps pc m 1 1 ws (op.Jump m) (omega arith) d.follows.1 refl (again set g ws ws vs vs (Joined ∷ k) k temps temps pc m d d.holds d.loops d.follows.2)

  -- ---- the first thing that remains to be done

  copy_from : (t : CType) (k : List Item) (ws : List Where) (from to : Value) (vs : List Value) (temps : Temps) (pc : ℕ) → D set g (InTemp ∷ InTemp ∷ ws) (from ∷ to ∷ vs) (Copy t ∷ k) temps pc
      → Answered set (now set g (from ∷ to ∷ vs) (Copy t ∷ k)) (source.copy set.p g.h g.outer t to from vs k) (slot set g temps pc)
  copy_from t k ws from to vs temps pc d =
      let s = d.follows.0 in
      let e : t ≡ Struct s = d.follows.1 in
      subst (λ t. Answered set (now set g (from ∷ to ∷ vs) (Copy t ∷ k)) (source.copy set.p g.h g.outer t to from vs k) (slot set g temps pc)) (sym e)
      (copy_answers set g s k ws from to vs temps pc
      (record { fn = d.fn; found = d.found; ends = d.ends; around = d.around; loops = d.loops; holds = d.holds; follows = (s, refl, d.follows.2, d.follows.3) }) d.follows.2 d.follows.3 (load_struct g.h.world (cells_of set.p.defs (Struct s)) from) refl)

  enter_at : (q m : ℕ) (k : List Item) (ws : List Where) (vs : List Value) (temps : Temps) (pc : ℕ) → D set g ws vs (Enter q m ∷ k) temps pc
      → Answered set (now set g vs (Enter q m ∷ k)) (source.act set.p g.h g.outer (Enter q m) vs k) (slot set g temps pc)
  enter_at q m k ws vs temps pc d =
      let fo = d.follows in
      enter_answers q m fo.0 k vs temps pc
      (record { fn = d.fn; found = d.found; ends = d.ends; around = d.around; loops = d.loops; holds = subst (λ ws. Holds g.h.activation temps ws vs) fo.1 d.holds; follows = (fo.0, refl, fo.2, fo.3) })
      (slice_get set.p.symbols q) fo.2 fo.3

  give_back_at : (v : Value) (k : List Item) (temps : Temps) (pc : ℕ) → D set g (InTemp ∷ []) (v ∷ []) (GiveBack ∷ k) temps pc
      → Answered set (now set g (v ∷ []) (GiveBack ∷ k)) (source.act set.p g.h g.outer GiveBack (v ∷ []) k) (slot set g temps pc)
  give_back_at v k temps pc d =
      subst (λ o. Answered set (now set g (v ∷ []) (GiveBack ∷ k)) (source.on_some o (λ fn. GoesOn 1 (record { here = left (outermost_of fn) g.h; values = v ∷ []; control = Stop (last_of fn.points) ∷ Leave ∷ []; outer = g.outer }))) (slot set g temps pc)) (sym d.found)
      (give_back_answers v k temps pc d)

  act_answers : (i : Item) (k : List Item) (ws : List Where) (vs : List Value) (temps : Temps) (pc : ℕ) → D set g ws vs (i ∷ k) temps pc
      → Answered set (now set g vs (i ∷ k)) (source.act set.p g.h g.outer i vs k) (slot set g temps pc)
  act_answers (Eval e) k ws vs temps pc d = eval_answers set g e k ws vs temps pc d
  act_answers (Locate e) k ws vs temps pc d = locate_answers set g e k ws vs temps pc d
  act_answers (Push v) k ws vs temps pc d = push_answers set g v k ws vs temps pc d
  act_answers (Bound y) k ws vs temps pc d = bound_answers set g y k ws vs temps pc (bound y g.h.activation.locals) refl d
  act_answers (Load t) k [] vs temps pc d = absurd d.follows
  act_answers (Load t) k (Kept y ∷ ws) vs temps pc d = absurd d.follows
  act_answers (Load t) k (InTemp ∷ ws) [] temps pc d = absurd d.holds
  act_answers (Load t) k (InTemp ∷ ws) (x ∷ vs) temps pc d = load_answers set g (is_array t) t k ws x vs temps pc d d.follows.0 d.follows.1
  act_answers (Load t) k (InReg y ∷ ws) [] temps pc d = absurd d.holds
  act_answers (Load t) k (InReg y ∷ ws) (x ∷ vs) temps pc d = read_answers set g t y k ws x vs temps pc d
  act_answers (Convert t) k [] vs temps pc d = absurd d.follows
  act_answers (Convert t) k (InReg y ∷ ws) vs temps pc d = absurd d.follows
  act_answers (Convert t) k (Kept y ∷ ws) vs temps pc d = absurd d.follows
  act_answers (Convert t) k (InTemp ∷ ws) [] temps pc d = absurd d.holds
  act_answers (Convert t) k (InTemp ∷ ws) (x ∷ vs) temps pc d = convert_answers set g t k ws x vs temps pc d
  act_answers (Store t) k [] vs temps pc d = absurd d.follows
  act_answers (Store t) k (InReg y ∷ ws) vs temps pc d = absurd d.follows
  act_answers (Store t) k (Kept y ∷ ws) vs temps pc d = absurd d.follows
  act_answers (Store t) k (InTemp ∷ []) vs temps pc d = absurd d.follows
  act_answers (Store t) k (InTemp ∷ Kept y ∷ ws) vs temps pc d = absurd d.follows
  act_answers (Store t) k (InTemp ∷ InReg y ∷ ws) [] temps pc d = absurd d.holds
  act_answers (Store t) k (InTemp ∷ InReg y ∷ ws) (x ∷ []) temps pc d = absurd d.holds.1
  act_answers (Store t) k (InTemp ∷ InReg y ∷ ws) (x ∷ z ∷ vs) temps pc d = write_answers set g t y k ws x z vs temps pc d
  act_answers (Store t) k (InTemp ∷ InTemp ∷ ws) [] temps pc d = absurd d.holds
  act_answers (Store t) k (InTemp ∷ InTemp ∷ ws) (x ∷ []) temps pc d = absurd d.holds.1
  act_answers (Store t) k (InTemp ∷ InTemp ∷ ws) (x ∷ z ∷ vs) temps pc d = store_answers set g t k ws x z vs temps pc d
  act_answers (Copy t) k [] vs temps pc d = absurd d.follows
  act_answers (Copy t) k (InReg y ∷ ws) vs temps pc d = absurd d.follows
  act_answers (Copy t) k (Kept y ∷ ws) vs temps pc d = absurd d.follows
  act_answers (Copy t) k (InTemp ∷ []) vs temps pc d = absurd d.follows
  act_answers (Copy t) k (InTemp ∷ Kept y ∷ ws) vs temps pc d = absurd d.follows
  act_answers (Copy t) k (InTemp ∷ InReg y ∷ ws) vs temps pc d = absurd d.follows
  act_answers (Copy t) k (InTemp ∷ InTemp ∷ ws) [] temps pc d = absurd d.holds
  act_answers (Copy t) k (InTemp ∷ InTemp ∷ ws) (x ∷ []) temps pc d = absurd d.holds.1
  act_answers (Copy t) k (InTemp ∷ InTemp ∷ ws) (x ∷ z ∷ vs) temps pc d = copy_from t k ws x z vs temps pc d
  act_answers (Update t b s new) k [] vs temps pc d = absurd d.follows
  act_answers (Update t b s new) k (InReg y ∷ ws) vs temps pc d = absurd d.follows
  act_answers (Update t b s new) k (Kept y ∷ ws) vs temps pc d = absurd d.follows
  act_answers (Update t b s new) k (InTemp ∷ []) vs temps pc d = absurd d.follows
  act_answers (Update t b s new) k (InTemp ∷ Kept y ∷ ws) vs temps pc d = absurd d.follows
  act_answers (Update t b s new) k (InTemp ∷ InReg y ∷ ws) [] temps pc d = absurd d.holds
  act_answers (Update t b s new) k (InTemp ∷ InReg y ∷ ws) (x ∷ []) temps pc d = absurd d.holds.1
  act_answers (Update t b s new) k (InTemp ∷ InReg y ∷ ws) (x ∷ z ∷ vs) temps pc d = change_answers set g t b s new y k ws x z vs temps pc d
  act_answers (Update t b s new) k (InTemp ∷ InTemp ∷ ws) [] temps pc d = absurd d.holds
  act_answers (Update t b s new) k (InTemp ∷ InTemp ∷ ws) (x ∷ []) temps pc d = absurd d.holds.1
  act_answers (Update t b s new) k (InTemp ∷ InTemp ∷ ws) (x ∷ z ∷ vs) temps pc d = update_answers set g t b s new k ws x z vs temps pc d
  act_answers (Change o t) k [] vs temps pc d = absurd d.follows
  act_answers (Change o t) k (InReg y ∷ ws) vs temps pc d = absurd d.follows
  act_answers (Change o t) k (Kept y ∷ ws) vs temps pc d = absurd d.follows
  act_answers (Change o t) k (InTemp ∷ ws) [] temps pc d = absurd d.holds
  act_answers (Change o t) k (InTemp ∷ ws) (x ∷ vs) temps pc d = change_by set g o t k ws x vs temps pc d
  act_answers (Combine o s t) k [] vs temps pc d = absurd d.follows
  act_answers (Combine o s t) k (InReg y ∷ ws) vs temps pc d = absurd d.follows
  act_answers (Combine o s t) k (Kept y ∷ ws) vs temps pc d = absurd d.follows
  act_answers (Combine o s t) k (InTemp ∷ []) vs temps pc d = absurd d.follows
  act_answers (Combine o s t) k (InTemp ∷ Kept y ∷ ws) vs temps pc d = absurd d.follows
  act_answers (Combine o s t) k (InTemp ∷ InReg y ∷ ws) vs temps pc d = absurd d.follows
  act_answers (Combine o s t) k (InTemp ∷ InTemp ∷ ws) [] temps pc d = absurd d.holds
  act_answers (Combine o s t) k (InTemp ∷ InTemp ∷ ws) (x ∷ []) temps pc d = absurd d.holds.1
  act_answers (Combine o s t) k (InTemp ∷ InTemp ∷ ws) (x ∷ z ∷ vs) temps pc d = combine_answers set g o s t k ws x z vs temps pc d
  act_answers (Offset m) k [] vs temps pc d = absurd d.follows
  act_answers (Offset m) k (InReg y ∷ ws) vs temps pc d = absurd d.follows
  act_answers (Offset m) k (Kept y ∷ ws) vs temps pc d = absurd d.follows
  act_answers (Offset m) k (InTemp ∷ ws) [] temps pc d = absurd d.holds
  act_answers (Offset m) k (InTemp ∷ ws) (x ∷ vs) temps pc d = offset_answers set g m k ws x vs temps pc d
  act_answers Use k [] vs temps pc d = absurd d.follows
  act_answers Use k (InReg y ∷ ws) vs temps pc d = absurd d.follows
  act_answers Use k (Kept y ∷ ws) vs temps pc d = absurd d.follows
  act_answers Use k (InTemp ∷ ws) [] temps pc d = absurd d.holds
  act_answers Use k (InTemp ∷ ws) (x ∷ vs) temps pc d = use_answers set g (is_stale g.h.world x) k ws x vs temps pc d
  act_answers Discard k [] vs temps pc d = absurd d.follows
  act_answers Discard k (InReg y ∷ ws) vs temps pc d = absurd d.follows
  act_answers Discard k (Kept y ∷ ws) vs temps pc d = absurd d.follows
  act_answers Discard k (InTemp ∷ ws) [] temps pc d = absurd d.holds
  act_answers Discard k (InTemp ∷ ws) (x ∷ vs) temps pc d = discard_answers set g k ws x vs temps pc d
  act_answers Truth k [] vs temps pc d = absurd d.follows
  act_answers Truth k (InReg y ∷ ws) vs temps pc d = absurd d.follows
  act_answers Truth k (Kept y ∷ ws) vs temps pc d = absurd d.follows
  act_answers Truth k (InTemp ∷ ws) [] temps pc d = absurd d.holds
  act_answers Truth k (InTemp ∷ ws) (x ∷ vs) temps pc d = truth_answers set g k ws x vs temps pc d
  act_answers (AndThen e) k [] vs temps pc d = absurd d.follows
  act_answers (AndThen e) k (InReg y ∷ ws) vs temps pc d = absurd d.follows
  act_answers (AndThen e) k (Kept y ∷ ws) vs temps pc d = absurd d.follows
  act_answers (AndThen e) k (InTemp ∷ ws) [] temps pc d = absurd d.holds
  act_answers (AndThen e) k (InTemp ∷ ws) (x ∷ vs) temps pc d = and_answers set g e k ws x vs temps pc d
  act_answers (OrElse e) k [] vs temps pc d = absurd d.follows
  act_answers (OrElse e) k (InReg y ∷ ws) vs temps pc d = absurd d.follows
  act_answers (OrElse e) k (Kept y ∷ ws) vs temps pc d = absurd d.follows
  act_answers (OrElse e) k (InTemp ∷ ws) [] temps pc d = absurd d.holds
  act_answers (OrElse e) k (InTemp ∷ ws) (x ∷ vs) temps pc d = or_answers set g e k ws x vs temps pc d
  act_answers (Pick t a b) k [] vs temps pc d = absurd d.follows
  act_answers (Pick t a b) k (InReg y ∷ ws) vs temps pc d = absurd d.follows
  act_answers (Pick t a b) k (Kept y ∷ ws) vs temps pc d = absurd d.follows
  act_answers (Pick t a b) k (InTemp ∷ ws) [] temps pc d = absurd d.holds
  act_answers (Pick t a b) k (InTemp ∷ ws) (x ∷ vs) temps pc d = pick_answers set g t a b k ws x vs temps pc d
  act_answers Joined k ws vs temps pc d = joined_answers k ws vs temps pc d
  act_answers (Enter q m) k ws vs temps pc d = enter_at q m k ws vs temps pc d
  act_answers (Run s) k (w ∷ ws) vs temps pc d = absurd d.follows
  act_answers (Run s) k [] (x ∷ vs) temps pc d = absurd d.holds
  act_answers (Run s) k [] [] temps pc d = run_answers set g s k temps pc d
  act_answers (Stop q) k ws vs temps pc d = stop_answers q k ws vs temps pc d
  act_answers (Choose a b) k [] vs temps pc d = absurd d.follows
  act_answers (Choose a b) k (InReg y ∷ ws) vs temps pc d = absurd d.follows
  act_answers (Choose a b) k (Kept y ∷ ws) vs temps pc d = absurd d.follows
  act_answers (Choose a b) k (InTemp ∷ w ∷ ws) vs temps pc d = absurd d.follows
  act_answers (Choose a b) k (InTemp ∷ []) [] temps pc d = absurd d.holds
  act_answers (Choose a b) k (InTemp ∷ []) (x ∷ z ∷ vs) temps pc d = absurd d.holds.1
  act_answers (Choose a b) k (InTemp ∷ []) (x ∷ []) temps pc d = choose_answers a b k x temps pc d
  act_answers (Open ds) k (w ∷ ws) vs temps pc d = absurd d.follows
  act_answers (Open ds) k [] (x ∷ vs) temps pc d = absurd d.holds
  act_answers (Open ds) k [] [] temps pc d = open_answers ds k temps pc d
  act_answers (Close m) k (w ∷ ws) vs temps pc d = absurd d.follows
  act_answers (Close m) k [] (x ∷ vs) temps pc d = absurd d.holds
  act_answers (Close m) k [] [] temps pc d = close_answers m k temps pc d
  act_answers (Turn s m) k [] vs temps pc d = absurd d.follows
  act_answers (Turn s m) k (InReg y ∷ ws) vs temps pc d = absurd d.follows
  act_answers (Turn s m) k (Kept y ∷ ws) vs temps pc d = absurd d.follows
  act_answers (Turn s m) k (InTemp ∷ w ∷ ws) vs temps pc d = absurd d.follows
  act_answers (Turn s m) k (InTemp ∷ []) [] temps pc d = absurd d.holds
  act_answers (Turn s m) k (InTemp ∷ []) (x ∷ z ∷ vs) temps pc d = absurd d.holds.1
  act_answers (Turn s m) k (InTemp ∷ []) (x ∷ []) temps pc d = turn_answers s m k x temps pc d
  act_answers (Again s m) k (w ∷ ws) vs temps pc d = absurd d.follows
  act_answers (Again s m) k [] (x ∷ vs) temps pc d = absurd d.holds
  act_answers (Again s m) k [] [] temps pc d = again_answers s m k temps pc d
  act_answers (Select b m) k [] vs temps pc d = absurd d.follows
  act_answers (Select b m) k (InReg y ∷ ws) vs temps pc d = absurd d.follows
  act_answers (Select b m) k (Kept y ∷ ws) vs temps pc d = absurd d.follows
  act_answers (Select b m) k (InTemp ∷ w ∷ ws) vs temps pc d = absurd d.follows
  act_answers (Select b m) k (InTemp ∷ []) [] temps pc d = absurd d.holds
  act_answers (Select b m) k (InTemp ∷ []) (x ∷ z ∷ vs) temps pc d = absurd d.holds.1
  act_answers (Select b m) k (InTemp ∷ []) (x ∷ []) temps pc d = select_answers b m k x temps pc d
  act_answers (Seek v l ls default m) k [] vs temps pc d = absurd d.follows
  act_answers (Seek v l ls default m) k (InTemp ∷ ws) vs temps pc d = absurd d.follows
  act_answers (Seek v l ls default m) k (InReg y ∷ ws) vs temps pc d = absurd d.follows
  act_answers (Seek v l ls default m) k (Kept y ∷ w ∷ ws) vs temps pc d = absurd d.follows
  act_answers (Seek v l ls default m) k (Kept y ∷ []) (x ∷ vs) temps pc d = absurd d.holds.1
  act_answers (Seek v l ls default m) k (Kept y ∷ []) [] temps pc d = seek_answers v l ls default m k y temps pc d
  act_answers (Switched m) k (w ∷ ws) vs temps pc d = absurd d.follows
  act_answers (Switched m) k [] (x ∷ vs) temps pc d = absurd d.holds
  act_answers (Switched m) k [] [] temps pc d = switched_answers m k temps pc d
  act_answers GiveBack k [] vs temps pc d = absurd d.follows
  act_answers GiveBack k (InReg y ∷ ws) vs temps pc d = absurd d.follows
  act_answers GiveBack k (Kept y ∷ ws) vs temps pc d = absurd d.follows
  act_answers GiveBack k (InTemp ∷ w ∷ ws) vs temps pc d = absurd d.follows
  act_answers GiveBack k (InTemp ∷ []) [] temps pc d = absurd d.holds
  act_answers GiveBack k (InTemp ∷ []) (x ∷ z ∷ vs) temps pc d = absurd d.holds.1
  act_answers GiveBack k (InTemp ∷ []) (x ∷ []) temps pc d = give_back_at x k temps pc d
  act_answers Leave k [] vs temps pc d = absurd d.follows
  act_answers Leave k (InReg y ∷ ws) vs temps pc d = absurd d.follows
  act_answers Leave k (Kept y ∷ ws) vs temps pc d = absurd d.follows
  act_answers Leave k (InTemp ∷ w ∷ ws) vs temps pc d = absurd d.follows
  act_answers Leave k (InTemp ∷ []) [] temps pc d = absurd d.holds
  act_answers Leave k (InTemp ∷ []) (x ∷ z ∷ vs) temps pc d = absurd d.holds.1
  act_answers Leave k (InTemp ∷ []) (x ∷ []) temps pc d = leave_answers set g.h x g.outer g.at g.frames g.out temps pc k d

module _ (set : Setting) where
  -- each step of the program is answered by its code
  pub step_answers : (s : State) (t : SlotState) → Matches set s t → Answered set s (source.step set.p s) t
  step_answers s t m =
      subst (λ h. Answered set s (source.step set.p s) (record t { here = h })) (sym m.same) (on_control s.control m.doing)
    where
      on_control : (k : List Item) → Doing set s.here.activation m.ws m.ws s.values k t.temps t.pc → Answered set (record s { control = k }) (source.on_control set.p s.here s.outer k s.values) (record t { here = s.here })
      on_control [] d = absurd d.follows
      on_control (i ∷ k) d = act_answers set (record { h = s.here; outer = s.outer; at = t.result_at; frames = t.outer; out = m.outer }) i k m.ws s.values t.temps t.pc d
