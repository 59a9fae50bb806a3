-- Lists of items that can be done.
use Rattle.std.proofs.Common.{◌≡◌, refl, sym, ◌∙◌, subst, ap, ℕ, suc, ◌≤◌, List, [], ◌∷◌, ◌++◌, Bool, true, false, Option, Some, None, length, take, drop, length-take-le, le_of_eq, le_trans, take_all, length-append, le-add_right}
use Rattle.std.proofs.lemmas.List.{take-append-le}
use Rattle.std.specs.Prelude.{slice_get, if◌then◌else◌, length}
use Rattle.c_tree.specs.declared.types.CType.{CType}
use Rattle.c_tree.specs.declared.types.CType.TheVariants.{Struct}
use Rattle.c_tree.specs.declared.typed.Typed.{Typed, Row_of-Typed, end_of-Typed, more_of-Typed}
use Rattle.c_tree.specs.declared.typed.Pointed.{Pointed}
use Rattle.c_tree.specs.declared.typed.DeclaredLocal.{DeclaredLocal}
use Rattle.c_tree.specs.declared.typed.Stmt.{Stmt, Row_of-Stmt, end_of-Stmt, more_of-Stmt, Held-Stmt-If-3, None', Some'}
use Rattle.c_tree.specs.declared.typed.Stmt.TheVariants.{Block', While', Do', For', Case', Default'}
use Rattle.c_tree.specs.declared.rows.Program.{Program}
use Rattle.c_tree.specs.declared.rows.Function.{Function}
use Rattle.c_tree.specs.declared.rows.SymbolRow.{SymbolRow}
use Rattle.c_tree.specs.declared.rows.Referent.{Referent}
use Rattle.c_tree.specs.declared.rows.Referent.TheVariants.{Object, Local, Function as Defined, Declared}
use Rattle.c_tree.specs.Types.{is_struct}
use Rattle.c_tree.specs.Rows.{exprs, stmts}
use Rattle.c_source.specs.Blocks.{result_type}
use Rattle.c_tree.specs.Rows.{statements_in}
use Rattle.c_source.specs.Control.{Item, Eval, Locate, Store, Copy, Run, Again, Switched, Label, Round, runs_of, evals_of, inits_of, part_of, loop_begins, loop_goes_on, loop_turns, broken, continued, labels_in, default_in}
use Rattle.c_sound.proofs.Operators.{addr, conv}
use Rattle.c_sound.proofs.Shaped.{shape, ByCase, row_shapes, is_getchar, is_putchar, is_exit, OneNumber, CalledFunction, CalledBuiltIn, CalledBy, Called, Given, ShapedE, ShapedL, ShapedRow, ShapedPart, ShapedInit, ShapedInits, ShapedS, ShapedRows, ShapedElse, ShapedBody, EachShaped, ShapedLoop}
use Rattle.c_sound.proofs.Ready.{EntersFunction, EntersBuiltIn, EntersBy, Enters, EachLabel, Ready, Breaks, Continues}
use Rattle.c_sound.proofs.Lists.{onto, taken, dropped}

pub nil_cons : {A : Type 0} (x : Bool) (xs : List Bool) → x ∷ xs ≡ [] → A
nil_cons {A} x xs e = absurd (subst (λ (ys : List Bool). elim ys as (λ _. Type 0) [ [] ↦ ⊥ | y ∷ zs ↦ Unit {0} ]) e tt)

module _ (p : Program) (f : ℕ) where
  pub fit : (k : List Item) (ls : List ℕ) (ss : List Bool) (s t : Bool) → s ≡ t → Ready p f k ls (t ∷ ss) → Ready p f k ls (s ∷ ss)
  fit k ls ss s t e r = subst (λ x. Ready p f k ls (x ∷ ss)) (sym e) r

  -- ---- expressions

  pub assign_ready : (ls : List ℕ) (ss : List Bool) (t : CType) (a b : Typed) (k : List Item) → ShapedL p ls a → ByCase (is_struct t) (ShapedL p ls b) (ShapedE p ls b × (conv t (shape b) ≡ addr t))
      → Ready p f k ls (addr t ∷ ss) → Ready p f (if is_struct t then Locate a ∷ Locate b ∷ Copy t ∷ k else Locate a ∷ Eval b ∷ Store t ∷ k) ls ss
  assign_ready ls ss (Struct s) a b k la q r = (la, (q, (refl, refl, r)))
  assign_ready ls ss _ a b k la q r = (la, (q.0, (q.1, r)))

  pub args_ready : {m : _} (row : Row_of-Typed m) (ls : List ℕ) (ss : List Bool) (k : List Item) → ShapedRow p ls row → Ready p f k ls (onto (row_shapes row) ss) → Ready p f (evals_of (exprs row) ++ k) ls ss
  args_ready end_of-Typed ls ss k q r = r
  args_ready (more_of-Typed e rest) ls ss k q r = (q.0, args_ready rest ls (shape e ∷ ss) k q.1 r)

  pub row_length : {m : _} (row : Row_of-Typed m) → length (exprs row) ≡ length (row_shapes row)
  row_length end_of-Typed = refl
  row_length (more_of-Typed e rest) = ap suc (row_length rest)

  -- a call with arguments of these shapes
  enters_function : (g : ℕ) (fn : Option Function) (n : ℕ) (xs ss : List Bool) (r : Bool) (go : List Bool → Type 0) → n ≡ length xs → CalledFunction p g fn xs r → go (r ∷ ss) → EntersFunction p g fn n (onto xs ss) go
  enters_function g None n xs ss r go e q x = absurd q
  enters_function g (Some fn) n xs ss r go e q x =
      let back = sym (taken xs ss n e) in (
        sym (e ∙ q.0),
        subst (λ ys. length ys ≡ fn.params) back q.0,
        subst (λ ys. Given p g 0 ys) back q.1,
        subst (λ ys. go (addr (result_type p g) ∷ ys)) (sym (dropped xs ss n e)) (subst (λ s. go (s ∷ ss)) (sym q.2) x),
      )

  one_entered : (n : ℕ) (xs ss : List Bool) (go : List Bool → Type 0) → n ≡ length xs → OneNumber p xs → go (false ∷ ss) → OneNumber p (take n (onto xs ss)) × go (false ∷ drop n (onto xs ss))
  one_entered n [] ss go e q x = absurd q
  one_entered n (s ∷ []) ss go e q x = subst (λ m. OneNumber p (take m (s ∷ ss)) × go (false ∷ drop m (s ∷ ss))) (sym e) (q, x)
  one_entered n (s ∷ t ∷ xs) ss go e q x = absurd q

  enters_built_in : (b c d : Bool) (n : ℕ) (xs ss : List Bool) (go : List Bool → Type 0) → n ≡ length xs → CalledBuiltIn p b c d xs → go (false ∷ ss) → EntersBuiltIn p b c d n (onto xs ss) go
  enters_built_in true c d n [] ss go e q x = subst (λ m. (take m ss ≡ []) × go (false ∷ drop m ss)) (sym e) (refl, x)
  enters_built_in true c d n (s ∷ xs) ss go e q x = nil_cons s xs q
  enters_built_in false true d n xs ss go e q x = one_entered n xs ss go e q x
  enters_built_in false false true n xs ss go e q x = one_entered n xs ss go e q x
  enters_built_in false false false n xs ss go e q x = absurd q

  enters_by : (r : Referent) (name : List ℕ) (n : ℕ) (xs ss : List Bool) (s : Bool) (go : List Bool → Type 0) → n ≡ length xs → CalledBy p r name xs s → go (s ∷ ss) → EntersBy p r name n (onto xs ss) go
  enters_by (Object o) name n xs ss s go e q x = absurd q
  enters_by (Local o) name n xs ss s go e q x = absurd q
  enters_by (Defined g) name n xs ss s go e q x = enters_function g (slice_get p.functions g) n xs ss s go e q x
  enters_by Declared name n xs ss s go e q x = enters_built_in (is_getchar name) (is_putchar name) (is_exit name) n xs ss go e q.0 (subst (λ b. go (b ∷ ss)) q.1 x)

  pub enters : (row : Option SymbolRow) (n : ℕ) (xs ss : List Bool) (s : Bool) (go : List Bool → Type 0) → n ≡ length xs → Called p row xs s → go (s ∷ ss) → Enters p row n (onto xs ss) go
  enters None n xs ss s go e q x = absurd q
  enters (Some row) n xs ss s go e q x = enters_by row.refers row.name n xs ss s go e q x

  -- ---- statements one after the other

  abbrev pub MayBreak : Bool → List Item → List ℕ → Type 0
  MayBreak b k ls = b ≡ true → Breaks p f k ls

  abbrev pub MayContinue : Bool → List Item → List ℕ → Type 0
  MayContinue l k ls = l ≡ true → Continues p f k ls

  breaks_runs : (xs : List Stmt) (k : List Item) (ls : List ℕ) → Breaks p f k ls → Breaks p f (runs_of xs ++ k) ls
  breaks_runs [] k ls h = h
  breaks_runs (s ∷ rest) k ls h = breaks_runs rest k ls h

  continues_runs : (xs : List Stmt) (k : List Item) (ls : List ℕ) → Continues p f k ls → Continues p f (runs_of xs ++ k) ls
  continues_runs [] k ls h = h
  continues_runs (s ∷ rest) k ls h = continues_runs rest k ls h

  pub runs_ready : (xs : List Stmt) (k : List Item) (ls : List ℕ) (l b : Bool) → EachShaped p f ls l b xs → MayBreak b k ls → MayContinue l k ls → Ready p f k ls [] → Ready p f (runs_of xs ++ k) ls []
  runs_ready [] k ls l b q x y r = r
  runs_ready (s ∷ rest) k ls l b q x y r =
      (tt, (l, b, q.0, (λ e. breaks_runs rest k ls (x e)), (λ e. continues_runs rest k ls (y e))), runs_ready rest k ls l b q.1 x y r)

  pub rows_shaped : {m : _} (row : Row_of-Stmt m) (ls : List ℕ) (l b : Bool) → ShapedRows p f ls l b row → EachShaped p f ls l b (stmts row)
  rows_shaped end_of-Stmt ls l b q = tt
  rows_shaped (more_of-Stmt s rest) ls l b q = (q.0, rows_shaped rest ls l b q.1)

  pub body_shaped : (s : Stmt) (ls : List ℕ) (l : Bool) → ShapedBody p f ls l s → EachShaped p f ls l true (statements_in s)
  body_shaped (Block' at ds _ row line column) ls l q = rows_shaped row ls l true q
  body_shaped _ ls l q = tt

  -- ---- with more locals in scope

  longer : (n : ℕ) (ls xs : List ℕ) → n ≤ length ls → n ≤ length (ls ++ xs)
  longer n ls xs h = le_trans h (subst (λ m. length ls ≤ m) (sym (length-append ls xs)) (le-add_right (length ls) (length xs)))

  pub breaks_more : (k : List Item) (ls xs : List ℕ) → Breaks p f k ls → Breaks p f k (ls ++ xs)
  breaks_more [] ls xs h = absurd h
  breaks_more (Again s n ∷ k) ls xs h = (longer n ls xs h.0, subst (λ ys. Ready p f k ys []) (sym (take-append-le n ls xs h.0)) h.1)
  breaks_more (Switched n ∷ k) ls xs h = (longer n ls xs h.0, subst (λ ys. Ready p f k ys []) (sym (take-append-le n ls xs h.0)) h.1)
  breaks_more (_ ∷ k) ls xs h = breaks_more k ls xs h

  pub continues_more : (k : List Item) (ls xs : List ℕ) → Continues p f k ls → Continues p f k (ls ++ xs)
  continues_more [] ls xs h = absurd h
  continues_more (Again s n ∷ k) ls xs h =
      let e = sym (take-append-le n ls xs h.0) in
      (longer n ls xs h.0, subst (λ ys. ShapedLoop p f ys s) e h.1, subst (λ ys. Ready p f k ys []) e h.2)
  continues_more (_ ∷ k) ls xs h = continues_more k ls xs h

  -- ---- jumps

  abbrev pub Lands : List Item → List ℕ → Option Round → Type 0
  Lands k ls o = (r : Round) × (o ≡ Some r) × Ready p f r.control (take r.scope ls) []

  pub breaks_land : (k : List Item) (ls : List ℕ) → Breaks p f k ls → Lands k ls (broken k)
  breaks_land [] ls h = absurd h
  breaks_land (Again s n ∷ k) ls h = (record { scope = n; control = k }, refl, h.1)
  breaks_land (Switched n ∷ k) ls h = (record { scope = n; control = k }, refl, h.1)
  breaks_land (_ ∷ k) ls h = breaks_land k ls h

  pub continues_land : (k : List Item) (ls : List ℕ) → Continues p f k ls → Lands k ls (continued k)
  continues_land [] ls h = absurd h
  continues_land (Again s n ∷ k) ls h = (record { scope = n; control = Again s n ∷ k }, refl, (tt, sym (length-take-le n ls h.0), h.1, h.2))
  continues_land (_ ∷ k) ls h = continues_land k ls h

  -- ---- declarations

  one_init_ready : (d : ℕ) (o : Option Pointed) (ds : List DeclaredLocal) (k : List Item) (ls : List ℕ) → ShapedInit p f ls d o
      → Ready p f (inits_of p f ds ++ k) ls [] → Ready p f (inits_of p f (record { local = d; init = o } ∷ ds) ++ k) ls []
  one_init_ready d None ds k ls q r = r
  one_init_ready d (Some e) ds k ls q r = (q.0, (q.1, (q.2, r)))

  pub inits_ready : (ds : List DeclaredLocal) (k : List Item) (ls : List ℕ) → ShapedInits p f ls ds → Ready p f k ls [] → Ready p f (inits_of p f ds ++ k) ls []
  inits_ready [] k ls q r = r
  inits_ready (d ∷ ds) k ls q r = one_init_ready d.local d.init ds k ls q.0 (inits_ready ds k ls q.1 r)

  -- ---- parts

  pub part_ready : (o : Option Pointed) (k : List Item) (ls : List ℕ) → ShapedPart p ls o → Ready p f k ls [] → Ready p f (part_of o ++ k) ls []
  part_ready None k ls q r = r
  part_ready (Some e) k ls q r = (q, r)

  abbrev else_list : Held-Stmt-If-3 → List Stmt
  else_list None' = []
  else_list (Some' _ s) = s ∷ []

  pub else_shaped : (e : Held-Stmt-If-3) (ls : List ℕ) (l b : Bool) → ShapedElse p f ls l b e → EachShaped p f ls l b (else_list e)
  else_shaped None' ls l b q = tt
  else_shaped (Some' _ s) ls l b q = (q, tt)

  -- ---- loops

  again_ready : (body loop : Stmt) (n : ℕ) (k : List Item) (ls : List ℕ) → n ≡ length ls → ShapedS p f ls true true body → ShapedLoop p f ls loop → Ready p f k ls []
      → Ready p f (Run body ∷ Again loop n ∷ k) ls []
  again_ready body loop n k ls e q s r =
      let back = sym (take_all n ls (le_of_eq (sym e))) in
      (tt, (true, true, q, (λ _. (le_of_eq e, subst (λ ys. Ready p f k ys []) back r)), (λ _. (le_of_eq e, subst (λ ys. ShapedLoop p f ys loop) back s, subst (λ ys. Ready p f k ys []) back r))), (tt, e, s, r))

  pub turns_ready : (s : Stmt) (n : ℕ) (k : List Item) (ls : List ℕ) → n ≡ length ls → ShapedLoop p f ls s → Ready p f k ls [] → Ready p f (loop_turns s n ++ k) ls []
  turns_ready (While' at q b s) n k ls e h r = again_ready s (While' at q b s) n k ls e h.1 h r
  turns_ready (Do' at b s q) n k ls e h r = again_ready s (Do' at b s q) n k ls e h.1 h r
  turns_ready (For' at i q t b s) n k ls e h r = again_ready s (For' at i q t b s) n k ls e h.2 h r
  turns_ready _ n k ls e h r = absurd h

  for_goes_on : (at : _) (i q t : Option Pointed) (b : _) (s : Stmt) (n : ℕ) (k : List Item) (ls : List ℕ) → n ≡ length ls → ShapedLoop p f ls (For' at i q t b s) → Ready p f k ls []
      → Ready p f (loop_goes_on (For' at i q t b s) n ++ k) ls []
  for_goes_on at i None None b s n k ls e h r = again_ready s (For' at i None None b s) n k ls e h.2 h r
  for_goes_on at i None (Some t) b s n k ls e h r = (h.1, again_ready s (For' at i None (Some t) b s) n k ls e h.2 h r)
  for_goes_on at i (Some q) None b s n k ls e h r = (h.0, (tt, e, h, r))
  for_goes_on at i (Some q) (Some t) b s n k ls e h r = (h.1, (h.0, (tt, e, h, r)))

  pub goes_on_ready : (s : Stmt) (n : ℕ) (k : List Item) (ls : List ℕ) → n ≡ length ls → ShapedLoop p f ls s → Ready p f k ls [] → Ready p f (loop_goes_on s n ++ k) ls []
  goes_on_ready (While' at q _ s) n k ls e h r = (h.0, (tt, e, h, r))
  goes_on_ready (Do' at _ s q) n k ls e h r = (h.0, (tt, e, h, r))
  goes_on_ready (For' at i q t b s) n k ls e h r = for_goes_on at i q t b s n k ls e h r
  goes_on_ready _ n k ls e h r = absurd h

  pub for_begins : (at : _) (i q t : Option Pointed) (b : _) (s : Stmt) (n : ℕ) (k : List Item) (ls : List ℕ) → n ≡ length ls → ShapedPart p ls i → ShapedLoop p f ls (For' at i q t b s) → Ready p f k ls []
      → Ready p f (loop_begins (For' at i q t b s) n ++ k) ls []
  for_begins at None None t b s n k ls e j h r = again_ready s (For' at None None t b s) n k ls e h.2 h r
  for_begins at None (Some q) t b s n k ls e j h r = (h.0, (tt, e, h, r))
  for_begins at (Some i) None t b s n k ls e j h r = (j, again_ready s (For' at (Some i) None t b s) n k ls e h.2 h r)
  for_begins at (Some i) (Some q) t b s n k ls e j h r = (j, (h.0, (tt, e, h, r)))

  pub while_begins : (at : _) (q : Pointed) (b : _) (s : Stmt) (n : ℕ) (k : List Item) (ls : List ℕ) → n ≡ length ls → ShapedLoop p f ls (While' at q b s) → Ready p f k ls []
      → Ready p f (loop_begins (While' at q b s) n ++ k) ls []
  while_begins at q b s n k ls e h r = (h.0, (tt, e, h, r))

  pub do_begins : (at : _) (q : Pointed) (b : _) (s : Stmt) (n : ℕ) (k : List Item) (ls : List ℕ) → n ≡ length ls → ShapedLoop p f ls (Do' at b s q) → Ready p f k ls []
      → Ready p f (loop_begins (Do' at b s q) n ++ k) ls []
  do_begins at q b s n k ls e h r = again_ready s (Do' at b s q) n k ls e h.1 h r

  -- ---- labels

  abbrev labels_of : Stmt → List Stmt → List Label
  labels_of (Case' at c _ s) from = record { constant = c; from = from } ∷ labels_of s from
  labels_of (Default' at _ s) from = labels_of s from
  labels_of s from = []

  abbrev is_default : Stmt → Bool
  is_default (Case' at c _ s) = is_default s
  is_default (Default' at _ s) = true
  is_default s = false

  labels_from : (s : Stmt) (from : List Stmt) (rest : List Label) (ls : List ℕ) (l : Bool) → EachShaped p f ls l true from → EachLabel p f ls l rest → EachLabel p f ls l (labels_of s from ++ rest)
  labels_from (Case' at c _ s) from rest ls l q r = (q, labels_from s from rest ls l q r)
  labels_from (Default' at _ s) from rest ls l q r = labels_from s from rest ls l q r
  labels_from _ from rest ls l q r = r

  pub labels_shaped : (xs : List Stmt) (ls : List ℕ) (l : Bool) → EachShaped p f ls l true xs → EachLabel p f ls l (labels_in xs)
  labels_shaped [] ls l q = tt
  labels_shaped (s ∷ rest) ls l q = labels_from s (s ∷ rest) (labels_in rest) ls l q (labels_shaped rest ls l q.1)

  either_shaped : (b : Bool) (xs ys : List Stmt) (ls : List ℕ) (l : Bool) → EachShaped p f ls l true xs → EachShaped p f ls l true ys → EachShaped p f ls l true (if b then xs else ys)
  either_shaped true xs ys ls l q r = q
  either_shaped false xs ys ls l q r = r

  pub default_shaped : (xs : List Stmt) (ls : List ℕ) (l : Bool) → EachShaped p f ls l true xs → EachShaped p f ls l true (default_in xs)
  default_shaped [] ls l q = tt
  default_shaped (s ∷ rest) ls l q = either_shaped (is_default s) (s ∷ rest) (default_in rest) ls l q (default_shaped rest ls l q.1)
