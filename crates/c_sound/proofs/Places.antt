-- The points of an accepted program find their locals in scope.
use Rattle.std.proofs.Common.{◌≡◌, refl, sym, ◌∙◌, subst, ℕ, ◌≤◌, List, [], ◌∷◌, ◌++◌, Bool, true, false, Option, Some, None, true≢false, length, take, reverse, append_assoc, length-append, le-add_right, le_trans, le_refl, take_all}
use Rattle.std.proofs.lemmas.List.{reverse-append, take-append-le}
use Rattle.std.specs.Prelude.{if◌then◌else◌, ◌==◌}
use Rattle.c_tree.specs.declared.typed.Pointed.{Pointed}
use Rattle.c_tree.specs.declared.typed.DeclaredLocal.{DeclaredLocal}
use Rattle.c_tree.specs.declared.typed.Stmt.{Stmt, Row_of-Stmt, end_of-Stmt, more_of-Stmt, Held-Stmt-If-3, None', Some'}
use Rattle.c_tree.specs.declared.typed.Stmt.TheVariants.{Value as Expression, Block', If', While', Do', For', Switch', Case', Default', Break, Continue, Return}
use Rattle.c_tree.specs.declared.rows.Program.{Program}
use Rattle.c_tree.specs.Rows.{stmts}
use Rattle.c_tree.specs.Rows.{declared_in, statements_in}
use Rattle.c_source.specs.Control.{Item, runs_of, inits_of}
use Rattle.c_typing.specs.Plain.{Plain}
use Rattle.c_typing.specs.Declarations.{has}
use Rattle.c_typing.specs.Statements.{Around, in_function, IsPointWith, IsTestOrNone, IsDropped, IsInitializer, AreInitialized, IsStatement, AreStatements, IsElse, IsSwitched}
use Rattle.c_typing.specs.Programs.{IsBlock}
use Rattle.c_sound.proofs.Shaped.{local_numbers}
use Rattle.c_sound.proofs.Lists.{has_more}
use Rattle.c_sound.proofs.Bodies.{same_numbers, has_or}
use Rattle.c_sound.proofs.Scoped.{At, AtPart, Ends, PlacedInits, PlacedS, PlacedRows, PlacedElse, PlacedBody, Scoped, AfterBreak, AfterContinue}
use Rattle.c_sound.proofs.Ways.{inits_scoped, runs_scoped, rows_placed}

-- ---- lists

reverse_of : (x : ℕ) (xs : List ℕ) → reverse (x ∷ xs) ≡ reverse xs ++ x ∷ []
reverse_of x xs = reverse-append (x ∷ []) xs

-- what is on two lists after each other is on one of them
has_part : (xs : List ℕ) (y x : ℕ) (P : Type 0) → (has xs x ≡ true → P) → (has (y ∷ []) x ≡ true → P) → has (xs ++ y ∷ []) x ≡ true → P
has_part [] y x P f g h = g h
has_part (z ∷ xs) y x P f g h = by_test (z == x) h f (has_part xs y x P)
  where
    by_test : (t : Bool) → (if t then true else has (xs ++ y ∷ []) x) ≡ true → ((if t then true else has xs x) ≡ true → P) → ((has xs x ≡ true → P) → (has (y ∷ []) x ≡ true → P) → has (xs ++ y ∷ []) x ≡ true → P) → P
    by_test true h f ih = f refl
    by_test false h f ih = ih f g h

has_last : (t : Bool) (a : Bool) → (if t then true else false) ≡ true → (if t then true else a) ≡ true
has_last true a h = refl
has_last false a h = absurd (true≢false (sym h))

has_reversed : (v : List ℕ) (x : ℕ) → has (reverse v) x ≡ true → has v x ≡ true
has_reversed [] x h = h
has_reversed (y ∷ v) x h =
    has_part (reverse v) y x (has (y ∷ v) x ≡ true) (λ q. has_or (y == x) (has v x) (has_reversed v x q)) (λ q. has_last (y == x) (has v x) q) (subst (λ xs. has xs x ≡ true) (reverse_of y v) h)

module _ (p : Program) (f : ℕ) (r : Plain) where
  -- a point that is placed where v is in scope finds its locals in a larger scope
  at_there : (q : ℕ) (v ls : List ℕ) → IsPointWith p f v q → ((x : ℕ) → has v x ≡ true → has ls x ≡ true) → At p f q ls
  at_there q v ls e within = ((λ x h. within x (has_reversed v x (subst (λ xs. has xs x ≡ true) e.0 h))), e.1)

  pub at_here : (q : ℕ) (v : List ℕ) → IsPointWith p f v q → At p f q v
  at_here q v e = at_there q v v e (λ x h. h)

  dropped_at : (v : List ℕ) (o : Option Pointed) → IsDropped p f r v o → AtPart p f o v
  dropped_at v None q = tt
  dropped_at v (Some c) q = at_here c.point v q.2

  tested_at : (v : List ℕ) (o : Option Pointed) → IsTestOrNone p f r v o → AtPart p f o v
  tested_at v None q = tt
  tested_at v (Some c) q = at_here c.point v q.2

  init_at : (v ls : List ℕ) (x : ℕ) (o : Option Pointed) → ((y : ℕ) → has v y ≡ true → has ls y ≡ true) → IsInitializer p f r v x o → AtPart p f o ls
  init_at v ls x None within q = tt
  init_at v ls x (Some c) within q = at_there c.point v ls q.2 within

  inits_at : (ds : List DeclaredLocal) (v ls : List ℕ) → ((y : ℕ) → has (v ++ local_numbers ds) y ≡ true → has ls y ≡ true) → AreInitialized p f r v ds → PlacedInits p f ls ds
  inits_at [] v ls within q = tt
  inits_at (d ∷ ds) v ls within q =
      let rest = local_numbers ds in
      let more : (y : ℕ) → has ((v ++ d.local ∷ []) ++ rest) y ≡ true → has ls y ≡ true = λ y h. within y (subst (λ xs. has xs y ≡ true) (append_assoc v (d.local ∷ []) rest) h) in
      (init_at (v ++ d.local ∷ []) ls d.local d.init (λ y h. more y (has_more (v ++ d.local ∷ []) rest y h)) q.0, inits_at ds (v ++ d.local ∷ []) ls more q.1)

  -- ---- statements of a function whose outermost locals are these

  module _ (outermost : List ℕ) (ends : (ls : List ℕ) → take (length outermost) ls ≡ outermost → Ends p f ls) where
    -- a scope begins with the outermost locals
    abbrev Begins : List ℕ → Type 0
    Begins v = (length outermost ≤ length v) × (take (length outermost) v ≡ outermost)

    begins_more : (v xs : List ℕ) → Begins v → Begins (v ++ xs)
    begins_more v xs b =
        (le_trans b.0 (subst (λ m. length v ≤ m) (sym (length-append v xs)) (le-add_right (length v) (length xs))), take-append-le (length outermost) v xs b.0 ∙ b.1)

    mutual
      pub placed : (s : Stmt) (v : List ℕ) (a : Around) → Begins v → IsStatement p f r v a s → PlacedS p f v s
      placed (Expression at e) v a b q = dropped_at v e q
      placed (Block' at ds x row l c) v a b q =
          (inits_at ds v (v ++ local_numbers ds) (λ y h. h) q.0, rows_at row (v ++ local_numbers ds) (record a { labels = false }) (begins_more v (local_numbers ds) b) (subst (λ xs. AreStatements p f r (v ++ xs) (record a { labels = false }) row) (same_numbers ds) q.1))
      placed (If' at c x s t) v a b q = (at_here c.point v q.0.2, placed s v _ b q.1, else_at t v _ b q.2)
      placed (Switch' at c x s) v a b q = (at_here c.point v q.0.2, switched_at s v _ b q.1)
      placed (While' at c x s) v a b q = (at_here c.point v q.0.2, placed s v _ b q.1)
      placed (Do' at x s c) v a b q = (at_here c.point v q.1.2, placed s v _ b q.0)
      placed (For' at i c t x s) v a b q = (dropped_at v i q.0, tested_at v c q.1, dropped_at v t q.2, placed s v _ b q.3)
      placed (Case' at c x s) v a b q = placed s v a b q.2
      placed (Default' at x s) v a b q = placed s v a b q.1
      placed (Break at) v a b q = tt
      placed (Continue at) v a b q = tt
      placed (Return at c e) v a b q = (at_here c v q.1, ends v b.1)

      pub rows_at : {m : _} (row : Row_of-Stmt m) (v : List ℕ) (a : Around) → Begins v → AreStatements p f r v a row → PlacedRows p f v row
      rows_at end_of-Stmt v a b q = tt
      rows_at (more_of-Stmt s rest) v a b q = (placed s v a b q.0, rows_at rest v a b q.1)

      pub else_at : (e : Held-Stmt-If-3) (v : List ℕ) (a : Around) → Begins v → IsElse p f r v a e → PlacedElse p f v e
      else_at None' v a b q = tt
      else_at (Some' x s) v a b q = placed s v a b q

      pub switched_at : (s : Stmt) (v : List ℕ) (a : Around) → Begins v → IsSwitched p f r v a s → PlacedBody p f v s
      switched_at (Block' at ds x row l c) v a b q = rows_at row v a b q.1
      switched_at _ v a b q = tt

  -- ---- a body

  -- the outermost block's declarations and statements, and what comes behind them
  pub body_at : (s : Stmt) (v : List ℕ) (k : List Item) → IsBlock s → IsStatement p f r v in_function s → ((ls : List ℕ) → take (length (v ++ local_numbers (declared_in s))) ls ≡ v ++ local_numbers (declared_in s) → Ends p f ls)
      → ((ls : List ℕ) → AfterBreak p f k ls) → ((ls : List ℕ) → AfterContinue p f k ls) → Scoped p f k (v ++ local_numbers (declared_in s)) ⊥
      → Scoped p f (inits_of p f (declared_in s) ++ (runs_of (statements_in s) ++ k)) (v ++ local_numbers (declared_in s)) ⊥
  body_at (Block' at ds x row l c) v k b q ends breaks continues rest =
      let xs = v ++ local_numbers ds in
      let all = take_all (length xs) xs (le_refl (length xs)) in
      let rows = subst (λ ys. AreStatements p f r (v ++ ys) (record in_function { labels = false }) row) (same_numbers ds) q.1 in
      inits_scoped p f ds (runs_of (stmts row) ++ k) xs (inits_at ds v xs (λ y h. h) q.0)
      (runs_scoped p f (stmts row) k xs (rows_placed p f row xs (rows_at xs ends row xs (record in_function { labels = false }) (le_refl (length xs), all) rows)) (breaks xs) (continues xs) rest)
  body_at _ v k b q ends breaks continues rest = absurd b
