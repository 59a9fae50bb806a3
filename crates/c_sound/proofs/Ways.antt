-- Lists of items whose points find their locals in scope.
use Rattle.std.proofs.Common.{◌≡◌, sym, subst, ℕ, ◌≤◌, List, [], ◌∷◌, ◌++◌, Bool, true, false, Option, Some, None, length, take, le_trans, le_of_eq, take_all, length-append, le-add_right, length-take-le}
use Rattle.std.proofs.lemmas.List.{take-append-le}
use Rattle.std.specs.Prelude.{if◌then◌else◌}
use Rattle.c_tree.specs.declared.typed.Typed.{Typed}
use Rattle.c_tree.specs.declared.typed.Pointed.{Pointed}
use Rattle.c_tree.specs.declared.typed.DeclaredLocal.{DeclaredLocal}
use Rattle.c_tree.specs.declared.typed.Stmt.{Stmt, Row_of-Stmt, end_of-Stmt, more_of-Stmt, Held-Stmt-If-3, None', Some'}
use Rattle.c_tree.specs.declared.typed.Stmt.TheVariants.{Block', While', Do', For', Case', Default'}
use Rattle.c_tree.specs.declared.rows.Program.{Program}
use Rattle.c_tree.specs.Rows.{stmts}
use Rattle.c_tree.specs.Rows.{statements_in}
use Rattle.c_source.specs.Control.{Item, Eval, Locate, Push, Bound, Load, Convert, Store, Copy, Update, Change, Combine, Offset, Use, Discard, Truth, AndThen, OrElse, Pick, Joined, Enter, Run, Stop, Choose, Open, Close, Turn, Again, Select, Seek, Switched, GiveBack, Leave, Label, Round, runs_of, evals_of, inits_of, part_of, loop_begins, loop_goes_on, loop_turns, broken, continued, labels_in, default_in}
use Rattle.c_sound.proofs.Scoped.{At, AtPart, PlacedInits, PlacedS, PlacedRows, PlacedElse, PlacedBody, EachPlaced, EachLabelPlaced, PlacedLoop, Scoped, AfterBreak, AfterContinue}

module _ (p : Program) (f : ℕ) where
  abbrev S : List Item → List ℕ → Type 0 → Type 0
  S k ls C = Scoped p f k ls C

  pub weaken : (k : List Item) (ls : List ℕ) (C D : Type 0) → (C → D) → S k ls C → S k ls D
  weaken [] ls C D g h = tt
  weaken (Eval e ∷ k) ls C D g h = (g h.0, weaken k ls C D g h.1)
  weaken (Locate e ∷ k) ls C D g h = (g h.0, weaken k ls C D g h.1)
  weaken (AndThen e ∷ k) ls C D g h = (g h.0, weaken k ls C D g h.1)
  weaken (OrElse e ∷ k) ls C D g h = (g h.0, weaken k ls C D g h.1)
  weaken (Pick t a b ∷ k) ls C D g h = (g h.0, weaken k ls C D g h.1)
  weaken (Enter e n ∷ k) ls C D g h = (g h.0, weaken k ls C D g h.1)
  weaken (Push v ∷ k) ls C D g h = weaken k ls C D g h
  weaken (Bound x ∷ k) ls C D g h = weaken k ls C D g h
  weaken (Load t ∷ k) ls C D g h = weaken k ls C D g h
  weaken (Convert t ∷ k) ls C D g h = weaken k ls C D g h
  weaken (Store t ∷ k) ls C D g h = weaken k ls C D g h
  weaken (Copy t ∷ k) ls C D g h = weaken k ls C D g h
  weaken (Update t op u new ∷ k) ls C D g h = weaken k ls C D g h
  weaken (Change op t ∷ k) ls C D g h = weaken k ls C D g h
  weaken (Combine op t u ∷ k) ls C D g h = weaken k ls C D g h
  weaken (Offset n ∷ k) ls C D g h = weaken k ls C D g h
  weaken (Use ∷ k) ls C D g h = weaken k ls C D g h
  weaken (Discard ∷ k) ls C D g h = weaken k ls C D g h
  weaken (Truth ∷ k) ls C D g h = weaken k ls C D g h
  weaken (Joined ∷ k) ls C D g h = weaken k ls C D g h
  weaken (Stop q ∷ k) ls C D g h = h
  weaken (Run s ∷ k) ls C D g h = h
  weaken (Choose s t ∷ k) ls C D g h = h
  weaken (Open ds ∷ k) ls C D g h = h
  weaken (Close n ∷ k) ls C D g h = h
  weaken (Turn s n ∷ k) ls C D g h = h
  weaken (Again s n ∷ k) ls C D g h = h
  weaken (Select body n ∷ k) ls C D g h = h
  weaken (Seek v x labels default n ∷ k) ls C D g h = h
  weaken (Switched n ∷ k) ls C D g h = h
  weaken (GiveBack ∷ k) ls C D g h = h
  weaken (Leave ∷ k) ls C D g h = h

  -- behind a statement
  pub behind : (k : List Item) (ls : List ℕ) (D : Type 0) → S k ls ⊥ → S k ls D
  behind k ls D h = weaken k ls ⊥ D (λ x. absurd x) h

  pub args_scoped : (es : List Typed) (k : List Item) (ls : List ℕ) (C : Type 0) → C → S k ls C → S (evals_of es ++ k) ls C
  args_scoped [] k ls C c r = r
  args_scoped (e ∷ es) k ls C c r = (c, args_scoped es k ls C c r)

  break_runs : (xs : List Stmt) (k : List Item) (ls : List ℕ) → AfterBreak p f k ls → AfterBreak p f (runs_of xs ++ k) ls
  break_runs [] k ls h = h
  break_runs (s ∷ rest) k ls h = break_runs rest k ls h

  continue_runs : (xs : List Stmt) (k : List Item) (ls : List ℕ) → AfterContinue p f k ls → AfterContinue p f (runs_of xs ++ k) ls
  continue_runs [] k ls h = h
  continue_runs (s ∷ rest) k ls h = continue_runs rest k ls h

  pub runs_scoped : (xs : List Stmt) (k : List Item) (ls : List ℕ) → EachPlaced p f ls xs → AfterBreak p f k ls → AfterContinue p f k ls → S k ls ⊥ → S (runs_of xs ++ k) ls ⊥
  runs_scoped [] k ls q x y r = r
  runs_scoped (s ∷ rest) k ls q x y r = (q.0, break_runs rest k ls x, continue_runs rest k ls y, runs_scoped rest k ls q.1 x y r)

  pub rows_placed : {m : _} (row : Row_of-Stmt m) (ls : List ℕ) → PlacedRows p f ls row → EachPlaced p f ls (stmts row)
  rows_placed end_of-Stmt ls q = tt
  rows_placed (more_of-Stmt s rest) ls q = (q.0, rows_placed rest ls q.1)

  pub body_placed : (s : Stmt) (ls : List ℕ) → PlacedBody p f ls s → EachPlaced p f ls (statements_in s)
  body_placed (Block' at ds _ row l c) ls q = rows_placed row ls q
  body_placed _ ls q = tt

  -- ---- with more locals in scope

  longer : (n : ℕ) (ls xs : List ℕ) → n ≤ length ls → n ≤ length (ls ++ xs)
  longer n ls xs h = le_trans h (subst (λ m. length ls ≤ m) (sym (length-append ls xs)) (le-add_right (length ls) (length xs)))

  pub break_more : (k : List Item) (ls xs : List ℕ) → AfterBreak p f k ls → AfterBreak p f k (ls ++ xs)
  break_more [] ls xs h = tt
  break_more (Again s n ∷ k) ls xs h = (longer n ls xs h.0, subst (λ ys. S k ys ⊥) (sym (take-append-le n ls xs h.0)) h.1)
  break_more (Switched n ∷ k) ls xs h = (longer n ls xs h.0, subst (λ ys. S k ys ⊥) (sym (take-append-le n ls xs h.0)) h.1)
  break_more (_ ∷ k) ls xs h = break_more k ls xs h

  pub continue_more : (k : List Item) (ls xs : List ℕ) → AfterContinue p f k ls → AfterContinue p f k (ls ++ xs)
  continue_more [] ls xs h = tt
  continue_more (Again s n ∷ k) ls xs h =
      let e = sym (take-append-le n ls xs h.0) in
      (longer n ls xs h.0, subst (λ ys. PlacedLoop p f ys s) e h.1, subst (λ ys. S k ys ⊥) e h.2)
  continue_more (_ ∷ k) ls xs h = continue_more k ls xs h

  -- ---- jumps

  abbrev pub LandsIn : List ℕ → Option Round → Type 0
  LandsIn ls None = Unit {0}
  LandsIn ls (Some r) = S r.control (take r.scope ls) ⊥

  pub break_lands : (k : List Item) (ls : List ℕ) → AfterBreak p f k ls → LandsIn ls (broken k)
  break_lands [] ls h = tt
  break_lands (Again s n ∷ k) ls h = h.1
  break_lands (Switched n ∷ k) ls h = h.1
  break_lands (_ ∷ k) ls h = break_lands k ls h

  pub continue_lands : (k : List Item) (ls : List ℕ) → AfterContinue p f k ls → LandsIn ls (continued k)
  continue_lands [] ls h = tt
  continue_lands (Again s n ∷ k) ls h = (sym (length-take-le n ls h.0), h.1, h.2)
  continue_lands (_ ∷ k) ls h = continue_lands k ls h

  -- ---- declarations and parts

  one_init : (d : ℕ) (o : Option Pointed) (ds : List DeclaredLocal) (k : List Item) (ls : List ℕ) → AtPart p f o ls → S (inits_of p f ds ++ k) ls ⊥ → S (inits_of p f (record { local = d; init = o } ∷ ds) ++ k) ls ⊥
  one_init d None ds k ls q r = r
  one_init d (Some e) ds k ls q r = (q, (q, behind (inits_of p f ds ++ k) ls (At p f e.point ls) r))

  pub inits_scoped : (ds : List DeclaredLocal) (k : List Item) (ls : List ℕ) → PlacedInits p f ls ds → S k ls ⊥ → S (inits_of p f ds ++ k) ls ⊥
  inits_scoped [] k ls q r = r
  inits_scoped (d ∷ ds) k ls q r = one_init d.local d.init ds k ls q.0 (inits_scoped ds k ls q.1 r)

  pub part_scoped : (o : Option Pointed) (k : List Item) (ls : List ℕ) → AtPart p f o ls → S k ls ⊥ → S (part_of o ++ k) ls ⊥
  part_scoped None k ls q r = r
  part_scoped (Some e) k ls q r = (q, (q, behind k ls (At p f e.point ls) r))

  abbrev else_list : Held-Stmt-If-3 → List Stmt
  else_list None' = []
  else_list (Some' _ s) = s ∷ []

  pub else_placed : (e : Held-Stmt-If-3) (ls : List ℕ) → PlacedElse p f ls e → EachPlaced p f ls (else_list e)
  else_placed None' ls q = tt
  else_placed (Some' _ s) ls q = (q, tt)

  -- ---- loops

  again_scoped : (body loop : Stmt) (n : ℕ) (k : List Item) (ls : List ℕ) → n ≡ length ls → PlacedS p f ls body → PlacedLoop p f ls loop → S k ls ⊥ → S (Run body ∷ Again loop n ∷ k) ls ⊥
  again_scoped body loop n k ls e q s r =
      let back = sym (take_all n ls (le_of_eq (sym e))) in
      (q, (le_of_eq e, subst (λ ys. S k ys ⊥) back r), (le_of_eq e, subst (λ ys. PlacedLoop p f ys loop) back s, subst (λ ys. S k ys ⊥) back r), (e, s, r))

  pub turns_scoped : (s : Stmt) (n : ℕ) (k : List Item) (ls : List ℕ) → n ≡ length ls → PlacedLoop p f ls s → S k ls ⊥ → S (loop_turns s n ++ k) ls ⊥
  turns_scoped (While' at q b s) n k ls e h r = again_scoped s (While' at q b s) n k ls e h.1 h r
  turns_scoped (Do' at b s q) n k ls e h r = again_scoped s (Do' at b s q) n k ls e h.1 h r
  turns_scoped (For' at i q t b s) n k ls e h r = again_scoped s (For' at i q t b s) n k ls e h.2 h r
  turns_scoped _ n k ls e h r = r

  for_goes_on : (at : _) (i q t : Option Pointed) (b : _) (s : Stmt) (n : ℕ) (k : List Item) (ls : List ℕ) → n ≡ length ls → PlacedLoop p f ls (For' at i q t b s) → S k ls ⊥ → S (loop_goes_on (For' at i q t b s) n ++ k) ls ⊥
  for_goes_on at i None None b s n k ls e h r = again_scoped s (For' at i None None b s) n k ls e h.2 h r
  for_goes_on at i None (Some t) b s n k ls e h r = (h.1, (h.1, again_scoped s (For' at i None (Some t) b s) n k ls e h.2 h r))
  for_goes_on at i (Some q) None b s n k ls e h r = (h.0, (h.0, (e, h, r)))
  for_goes_on at i (Some q) (Some t) b s n k ls e h r = (h.1, (h.1, (h.0, (h.0, (e, h, r)))))

  pub goes_on_scoped : (s : Stmt) (n : ℕ) (k : List Item) (ls : List ℕ) → n ≡ length ls → PlacedLoop p f ls s → S k ls ⊥ → S (loop_goes_on s n ++ k) ls ⊥
  goes_on_scoped (While' at q _ s) n k ls e h r = (h.0, (h.0, (e, h, r)))
  goes_on_scoped (Do' at _ s q) n k ls e h r = (h.0, (h.0, (e, h, r)))
  goes_on_scoped (For' at i q t b s) n k ls e h r = for_goes_on at i q t b s n k ls e h r
  goes_on_scoped _ n k ls e h r = r

  pub for_starts : (at : _) (i q t : Option Pointed) (b : _) (s : Stmt) (n : ℕ) (k : List Item) (ls : List ℕ) → n ≡ length ls → AtPart p f i ls → PlacedLoop p f ls (For' at i q t b s) → S k ls ⊥ → S (loop_begins (For' at i q t b s) n ++ k) ls ⊥
  for_starts at None None t b s n k ls e j h r = again_scoped s (For' at None None t b s) n k ls e h.2 h r
  for_starts at None (Some q) t b s n k ls e j h r = (h.0, (h.0, (e, h, r)))
  for_starts at (Some i) None t b s n k ls e j h r = (j, (j, again_scoped s (For' at (Some i) None t b s) n k ls e h.2 h r))
  for_starts at (Some i) (Some q) t b s n k ls e j h r = (j, (j, (h.0, (h.0, (e, h, r)))))

  pub while_starts : (at : _) (q : Pointed) (b : _) (s : Stmt) (n : ℕ) (k : List Item) (ls : List ℕ) → n ≡ length ls → PlacedLoop p f ls (While' at q b s) → S k ls ⊥ → S (loop_begins (While' at q b s) n ++ k) ls ⊥
  while_starts at q b s n k ls e h r = (h.0, (h.0, (e, h, r)))

  pub do_starts : (at : _) (q : Pointed) (b : _) (s : Stmt) (n : ℕ) (k : List Item) (ls : List ℕ) → n ≡ length ls → PlacedLoop p f ls (Do' at b s q) → S k ls ⊥ → S (loop_begins (Do' at b s q) n ++ k) ls ⊥
  do_starts at q b s n k ls e h r = again_scoped s (Do' at b s q) n k ls e h.1 h r

  -- ---- labels

  abbrev labels_of : Stmt → List Stmt → List Label
  labels_of (Case' at c _ s) from = record { constant = c; from = from } ∷ labels_of s from
  labels_of (Default' at _ s) from = labels_of s from
  labels_of s from = []

  abbrev is_default : Stmt → Bool
  is_default (Case' at c _ s) = is_default s
  is_default (Default' at _ s) = true
  is_default s = false

  labels_from : (s : Stmt) (from : List Stmt) (rest : List Label) (ls : List ℕ) → EachPlaced p f ls from → EachLabelPlaced p f ls rest → EachLabelPlaced p f ls (labels_of s from ++ rest)
  labels_from (Case' at c _ s) from rest ls q r = (q, labels_from s from rest ls q r)
  labels_from (Default' at _ s) from rest ls q r = labels_from s from rest ls q r
  labels_from _ from rest ls q r = r

  pub labels_placed : (xs : List Stmt) (ls : List ℕ) → EachPlaced p f ls xs → EachLabelPlaced p f ls (labels_in xs)
  labels_placed [] ls q = tt
  labels_placed (s ∷ rest) ls q = labels_from s (s ∷ rest) (labels_in rest) ls q (labels_placed rest ls q.1)

  either_placed : (b : Bool) (xs ys : List Stmt) (ls : List ℕ) → EachPlaced p f ls xs → EachPlaced p f ls ys → EachPlaced p f ls (if b then xs else ys)
  either_placed true xs ys ls q r = q
  either_placed false xs ys ls q r = r

  pub default_placed : (xs : List Stmt) (ls : List ℕ) → EachPlaced p f ls xs → EachPlaced p f ls (default_in xs)
  default_placed [] ls q = tt
  default_placed (s ∷ rest) ls q = either_placed (is_default s) (s ∷ rest) (default_in rest) ls q (default_placed rest ls q.1)
