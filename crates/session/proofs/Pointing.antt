-- All points of a side's table, from the begin of their command to its end.
use Rattle.std.proofs.Common.{◌≡◌, ◌⊎◌, ◌∙◌, refl, sym, ap, subst, inl, inr, ℕ, ◌-◌, min, List, [], ◌∷◌, length, map, Result, Ok, Err, IfOk, IfErr, arith}
use Rattle.std.specs.Global.{Vec}
use Rattle.std.specs.List.{AllByRecursion}
use Rattle.ps_store.specs.declared.object.Mark.{Mark}
use Rattle.ps_store.specs.declared.object.Part.{Part}
use Rattle.ps_store.specs.declared.object.Part.TheVariants.{Command}
use Rattle.ps_store.specs.Held.{Held}
use Rattle.ps_store.specs.StoreState.{StoreState}
use Rattle.ps_store.specs.Store.{closed_part, held}
use Rattle.ps_store.specs.Cut.{mark_of, cut}
use Rattle.ps_store.specs.Settled.{Settled}
use Rattle.ps_store.proofs.Settling.{settled_same}
use Rattle.ps_run.specs.declared.dialect.Steps.{Steps}
use Rattle.table_read.specs.Reads.{in_ok}
use Rattle.table_model.specs.Rows.{PointRow}
use Rattle.table_model.specs.Reading.{Walked}
use Rattle.table_model.specs.Places.{all_points}
use Rattle.table_points.specs.declared.row.Point.{Point}
use Rattle.table_points.specs.Rows.{row_in}
use Rattle.table_points.specs.Named.{IsNamed}
use Rattle.dialect_model.specs.TableUse.{TableUse, use_of, Trouble, Kind, with_store, Looks, told, lacks, forced, broken, wanting}
use Rattle.dialect_model.specs.TableUse.{Spent as StepsSpent}
use Rattle.table_asks.specs.declared.fault.Cause.{Cause}
use Rattle.table_asks.specs.declared.fault.AskFault.{AskFault}
use Rattle.table_asks.specs.declared.fault.AskFault.TheVariants.{Refused, Raised, Spent, NoMemory, Broken}
use Rattle.table_asks.specs.declared.inquiry.Inquiry.{Inquiry}
use Rattle.table_asks.specs.Asking.{left_of, used_by, Comes, ComesFrom}
use Rattle.table_asks.specs.Closing.{Settles}
use Rattle.table_asks.specs.Faults.{IsOwn}
use Rattle.c_session.specs.Commands.{Refusal}
use Rattle.claims.specs.Side.{Troubled, MOST_STEPS}
use Rattle.asking_meaning.specs.Meant.{trouble_in, Matches}
use Rattle.asking_meaning.proofs.Covering.{looks_cover}
use Rattle.side_meaning.specs.Standing.{no_objects, IsTable}
use Rattle.session.specs.Meant.{ComesTo}
use Rattle.session.specs.Pointed.{Last, HasRun, AllTold, NoneTold}

-- ---- queries

told_by : (t t' : TableUse) (rows : List PointRow) (r : Result (List PointRow) Troubled) → Matches (λ (x y : List PointRow). x ≡ y) (Ok rows) r → Looks {R = Refusal} all_points t r t' → Looks {R = Refusal} all_points t (Ok rows) t'
told_by t t' rows (Ok y) m l = subst (λ (z : List PointRow). Looks {R = Refusal} all_points t (Ok z) t') (sym m) l
told_by t t' rows (Err e) m l = absurd m

fails_by : (t t' : TableUse) (e : Trouble Cause) (r : Result (List PointRow) Troubled) → Matches (λ (x y : List PointRow). x ≡ y) (Err e) r → Looks {R = Refusal} all_points t r t' → Looks {R = Refusal} all_points t (Err (trouble_in e)) t'
fails_by t t' e (Ok y) m l = absurd m
fails_by t t' e (Err f) m l = subst (λ (z : Troubled). Looks {R = Refusal} all_points t (Err z) t') m l

asked_so : (t t' : TableUse) (rows : List PointRow) → Looks {R = Cause} all_points t (Ok rows) t' → Looks {R = Refusal} all_points t (Ok rows) t'
asked_so t t' rows l = let w = looks_cover all_points all_points (λ s. refl) t (Ok rows) t' l in told_by t t' rows w.result w.matches w.comes

failed_so : (t t' : TableUse) (e : Trouble Cause) → Looks {R = Cause} all_points t (Err e) t' → Looks {R = Refusal} all_points t (Err (trouble_in e)) t'
failed_so t t' e l = let w = looks_cover all_points all_points (λ s. refl) t (Err e) t' l in fails_by t t' e w.result w.matches w.comes

ok_is : {A E : Type 0} {x y : A} → ◌≡◌ {A = Result A E} (Ok x) (Ok y) → x ≡ y
ok_is e = cc

-- the last query is told
last_told : {R A : Type 0} (q : StoreState → Walked A) (t t' : TableUse) (r : Result A (Trouble R)) (x : A) → Looks q t r t' → r ≡ Ok x → q t'.store ≡ Ok x
last_told q t _ _ x (told {x = y} e) k = e ∙ ap (λ (z : _). Ok z) (ok_is k)
last_told q t _ _ x (lacks e k) h = cc
last_told q t t' r x (forced {n = n} {c = c} e h l) k = last_told q (with_store t c.store n) t' r x l k
last_told q t _ _ x (broken e h) k = cc
last_told q t _ _ x wanting k = cc

-- ---- the store behind the command

pub cut_nothing : (h : Held) → cut h (mark_of no_objects) ≡ no_objects
cut_nothing h = let e : min 0 h.units ≡ 0 = omega arith in ap (λ (n : ℕ). record { arrays = []; dicts = []; strings = []; units = n }) e

pub no_items : {A : Type 0} (xs : List A) → length xs ≡ 0 → xs ≡ []
no_items [] e = refl
no_items (x ∷ xs) e = absurd (omega (arith, e))

has_nothing : (h : Held) → mark_of h ≡ mark_of no_objects → h ≡ no_objects
has_nothing h e =
    ap (λ (x : _). record { arrays = x; dicts = h.dicts; strings = h.strings; units = h.units }) (no_items h.arrays (ap (λ (m : Mark). m.arrays) e))
    ∙ (ap (λ (x : _). record { arrays = []; dicts = x; strings = h.strings; units = h.units }) (no_items h.dicts (ap (λ (m : Mark). m.dicts) e))
    ∙ (ap (λ (x : _). record { arrays = []; dicts = []; strings = x; units = h.units }) (no_items h.strings (ap (λ (m : Mark). m.strings) e))
    ∙ ap (λ (x : ℕ). record { arrays = []; dicts = []; strings = []; units = x }) (ap (λ (m : Mark). m.units) e)))

abbrev in_command : StoreState → StoreState
in_command s = record s { part = Command }

module _ (s t n e : StoreState) (mark : Mark) (is : IsTable s t) (there : mark ≡ mark_of s.command) (settled : Settled (closed_part (in_command s)) (closed_part n)) (ends : e ≡ record n { part = Command; command = cut n.command mark }) where
  no_mark : mark ≡ mark_of no_objects
  no_mark = there ∙ ap mark_of is.command

  ended : e ≡ record n { part = Command; command = no_objects }
  ended = ends ∙ ap (λ (h : Held). record n { part = Command; command = h }) (ap (cut n.command) no_mark ∙ cut_nothing n.command)

  closed_is : closed_part n ≡ closed_part e
  closed_is = ap (λ (p : Part). record (closed_part n) { part = p }) settled.part ∙ sym (ap closed_part ended)

  -- the machine session's table then
  abbrev ours : StoreState
  ours = record n { command = t.command; part = t.part }

  ours_is : ours ≡ record n { command = no_objects; part = Command }
  ours_is =
      ap (λ (h : Held). record n { command = h; part = t.part }) (ap (λ (z : StoreState). z.command) is.same ∙ is.command)
      ∙ ap (λ (p : Part). record n { command = no_objects; part = p }) (ap (λ (z : StoreState). z.part) is.same)

  has_run : (left : ℕ) → HasRun s e t (use_of n left)
  has_run left = record {
    table = record { same = ours_is ∙ sym (ap in_command ended); command = ap (λ (z : StoreState). z.command) ended };
    settled = subst (Settled (closed_part (in_command s))) closed_is settled;
  }

  none_told : (left : ℕ) (x : Trouble Cause) → Looks {R = Cause} all_points (use_of t MOST_STEPS) (Err x) (use_of n left) → NoneTold s e t (trouble_in x)
  none_told left x l = record { use_after = use_of n left; fails = failed_so (use_of t MOST_STEPS) (use_of n left) x l; has_run = has_run left }

  module _ (points : List Point) (last : Last n mark points) where
    nothing_made : n.command ≡ no_objects
    nothing_made = has_nothing n.command (ap (λ (p : Part). mark_of (held n p)) (sym settled.part) ∙ (last.nothing ∙ no_mark))

    same_store : e ≡ n
    same_store = ended ∙ (ap (λ (h : Held). record n { part = Command; command = h }) (sym nothing_made) ∙ ap (λ (p : Part). record n { part = p }) (sym settled.part))

    ours_same : ours ≡ n
    ours_same = ours_is ∙ (sym ended ∙ same_store)

    all_told : (left : ℕ) → Looks {R = Cause} all_points (use_of t MOST_STEPS) (Ok (map (row_in n) points)) (use_of n left) → AllTold s e t points
    all_told left l =
        let rows : map (row_in n) points ≡ map (row_in e) points = ap (λ (z : StoreState). map (row_in z) points) (sym same_store) in
        record {
          use_after = use_of n left;
          told = subst (λ (x : List PointRow). Looks {R = Refusal} all_points (use_of t MOST_STEPS) (Ok x) (use_of n left)) rows (asked_so (use_of t MOST_STEPS) (use_of n left) (map (row_in n) points) l);
          found = ap all_points ours_same ∙ (last_told all_points (use_of t MOST_STEPS) (use_of n left) (Ok (map (row_in n) points)) (map (row_in n) points) l refl ∙ ap (λ (x : List PointRow). Ok x) rows);
          has_run = has_run left;
          names = subst (λ (z : StoreState). AllByRecursion (IsNamed z) points) (sym same_store) last.names;
        }

-- ---- from the begin of the command to its end

module _ (s t : StoreState) (begun asked ended : Inquiry) (mark : Mark) (told : Result (Vec Point) AskFault) (is : IsTable s t)
    (store : begun.core.store ≡ in_command s) (steps : begun.steps ≡ record { taken = 0; limit = 10000000 }) (there : mark ≡ mark_of s.command)
    (closed : Settles (closed_part begun.core.store) (closed_part asked.core.store)) (own : IfErr told (λ (f : AskFault). IsOwn f))
    (meaning : Comes (Looks all_points) begun (in_ok (λ (ps : Vec Point). map (row_in asked.core.store) ps.items) told) asked)
    (ends : ended.core.store ≡ record asked.core.store { part = Command; command = cut asked.core.store.command mark }) where
  abbrev Answered : Result (Vec Point) AskFault → Type 0
  Answered r = ComesTo 0 0 (λ (ps : Vec Point). AllTold s ended.core.store t ps.items) (NoneTold s ended.core.store t) r

  settled_on : Settled (closed_part (in_command s)) (closed_part asked.core.store)
  settled_on = closed (closed_part (in_command s)) (subst (Settled (closed_part (in_command s))) (sym (ap closed_part store)) (settled_same (closed_part (in_command s))))

  -- where the command begins
  begins : used_by begun (use_of t 0) ≡ use_of t MOST_STEPS
  begins =
      ap (λ (z : StoreState). use_of z (left_of begun)) (store ∙ sym is.same)
      ∙ ap (λ (z : Steps). use_of t (z.limit - z.taken)) steps

  -- what it comes to
  abbrev Came : Result (List PointRow) AskFault → Type 0
  Came r = ComesFrom (Looks {R = Cause} all_points) begun r asked (use_of t 0)

  ok_answered : (ps : Vec Point) → told ≡ Ok ps → Last asked.core.store mark ps.items → Answered (Ok ps)
  ok_answered ps e last =
      let l : Came (Ok (map (row_in asked.core.store) ps.items)) = subst (λ (x : Result (Vec Point) AskFault). Came (in_ok (λ (qs : Vec Point). map (row_in asked.core.store) qs.items) x)) e (meaning (use_of t 0)) in
      all_told s t asked.core.store ended.core.store mark is there settled_on ends ps.items last (left_of asked)
      (subst (λ (u : TableUse). Looks {R = Cause} all_points u (Ok (map (row_in asked.core.store) ps.items)) (use_of asked.core.store (left_of asked))) begins l)

  came_err : (f : AskFault) → told ≡ Err f → Came (Err f) × IsOwn f
  came_err f e = (
    subst (λ (x : Result (Vec Point) AskFault). Came (in_ok (λ (qs : Vec Point). map (row_in asked.core.store) qs.items) x)) e (meaning (use_of t 0)),
    subst (λ (x : Result (Vec Point) AskFault). IfErr x (λ (g : AskFault). IsOwn g)) e own,
  )

  fails_so : (x : Trouble Cause) → Looks {R = Cause} all_points (used_by begun (use_of t 0)) (Err x) (use_of asked.core.store (left_of asked)) → NoneTold s ended.core.store t (trouble_in x)
  fails_so x l =
      none_told s t asked.core.store ended.core.store mark is there settled_on ends (left_of asked) x
      (subst (λ (u : TableUse). Looks {R = Cause} all_points u (Err x) (use_of asked.core.store (left_of asked))) begins l)

  err_answered : (f : AskFault) → (told ≡ Err f) ⊎ (f ≡ NoMemory) → Answered (Err f)
  err_answered (Refused cause) (inl e) = absurd (came_err (Refused cause) e).1
  err_answered (Refused cause) (inr e) = cc
  err_answered (Raised x) (inl e) = fails_so (Kind x) (came_err (Raised x) e).0
  err_answered (Raised x) (inr e) = cc
  err_answered Spent (inl e) = fails_so StepsSpent (came_err Spent e).0
  err_answered Spent (inr e) = cc
  err_answered NoMemory e = tt
  err_answered (Broken x) (inl e) = absurd (came_err (Broken x) e).1
  err_answered (Broken x) (inr e) = cc

  pub answered : (r : Result (Vec Point) AskFault) → IfOk r (λ (ps : Vec Point). (told ≡ Ok ps) × Last asked.core.store mark ps.items) → IfErr r (λ (f : AskFault). (told ≡ Err f) ⊎ (f ≡ NoMemory)) → Answered r
  answered (Ok ps) ok err = ok_answered ps ok.0 ok.1
  answered (Err f) ok err = err_answered f err
