-- Control whose stopping points find their locals in scope.
use Rattle.std.proofs.Common.{◌≡◌, ℕ, ◌≤◌, List, [], ◌∷◌, ◌++◌, true, Option, Some, None, length, take}
use Rattle.std.specs.Prelude.{slice_get}
use Rattle.c_tree.specs.declared.typed.Pointed.{Pointed}
use Rattle.c_tree.specs.declared.typed.DeclaredLocal.{DeclaredLocal}
use Rattle.c_tree.specs.declared.typed.Stmt.{Stmt, Row_of-Stmt, end_of-Stmt, more_of-Stmt, Held-Stmt-If-3, None', Some'}
use Rattle.c_tree.specs.declared.typed.Stmt.TheVariants.{Value as Expression, Block', If', While', Do', For', Switch', Case', Default', Break, Continue, Return}
use Rattle.c_tree.specs.declared.rows.Program.{Program}
use Rattle.c_tree.specs.declared.rows.Function.{Function}
use Rattle.c_store.specs.Frames.{ActivationRecord}
use Rattle.c_tree.specs.Rows.{statements_in}
use Rattle.c_source.specs.Control.{Item, Eval, Locate, Push, Bound, Load, Convert, Store, Copy, Update, Change, Combine, Offset, Use, Discard, Truth, AndThen, OrElse, Pick, Joined, Enter, Run, Stop, Choose, Open, Close, Turn, Again, Select, Seek, Switched, GiveBack, Leave, Label, State, Activation, outermost_of}
use Rattle.c_tree.specs.Points.{last_of}
use Rattle.c_typing.specs.Declarations.{has}
use Rattle.c_typing.specs.Statements.{locals_at, function_at}
use Rattle.c_sound.proofs.Shaped.{local_numbers}
use Rattle.c_sound.proofs.Ready.{locals_of}

module _ (p : Program) where
  -- a point of function f, whose locals are in scope
  abbrev pub At : (f q : ℕ) → List ℕ → Type 0
  At f q ls = ((x : ℕ) → has (locals_at p q) x ≡ true → has ls x ≡ true) × (function_at p q ≡ Some f)

  abbrev pub AtPart : ℕ → Option Pointed → List ℕ → Type 0
  AtPart f None ls = Unit {0}
  AtPart f (Some q) ls = At f q.point ls

  -- where a function gives back, those of its last point are
  abbrev pub EndsIn : ℕ → Option Function → List ℕ → Type 0
  EndsIn f None ls = Unit {0}
  EndsIn f (Some fn) ls = At f (last_of fn.points) (take (outermost_of fn) ls)

  module _ (f : ℕ) where
    abbrev pub Ends : List ℕ → Type 0
    Ends ls = EndsIn f (slice_get p.functions f) ls

    abbrev pub PlacedInits : List ℕ → List DeclaredLocal → Type 0
    PlacedInits ls [] = Unit {0}
    PlacedInits ls (d ∷ ds) = AtPart f d.init ls × PlacedInits ls ds

    abbrev mutual
      pub PlacedS : List ℕ → Stmt → Type 0
      PlacedS ls (Expression at e) = AtPart f e ls
      PlacedS ls (Block' at ds _ row l c) = PlacedInits (ls ++ local_numbers ds) ds × PlacedRows (ls ++ local_numbers ds) row
      PlacedS ls (If' at q _ s t) = At f q.point ls × PlacedS ls s × PlacedElse ls t
      PlacedS ls (Switch' at q _ s) = At f q.point ls × PlacedBody ls s
      PlacedS ls (While' at q _ s) = At f q.point ls × PlacedS ls s
      PlacedS ls (Do' at _ s q) = At f q.point ls × PlacedS ls s
      PlacedS ls (For' at i q t _ s) = AtPart f i ls × AtPart f q ls × AtPart f t ls × PlacedS ls s
      PlacedS ls (Case' at c _ s) = PlacedS ls s
      PlacedS ls (Default' at _ s) = PlacedS ls s
      PlacedS ls (Break at) = Unit {0}
      PlacedS ls (Continue at) = Unit {0}
      PlacedS ls (Return at q e) = At f q ls × Ends ls

      pub PlacedRows : {m : _} → List ℕ → Row_of-Stmt m → Type 0
      PlacedRows ls end_of-Stmt = Unit {0}
      PlacedRows ls (more_of-Stmt s rest) = PlacedS ls s × PlacedRows ls rest

      pub PlacedElse : List ℕ → Held-Stmt-If-3 → Type 0
      PlacedElse ls None' = Unit {0}
      PlacedElse ls (Some' _ s) = PlacedS ls s

      pub PlacedBody : List ℕ → Stmt → Type 0
      PlacedBody ls (Block' at ds _ row l c) = PlacedRows ls row
      PlacedBody ls _ = Unit {0}

    abbrev pub EachPlaced : List ℕ → List Stmt → Type 0
    EachPlaced ls [] = Unit {0}
    EachPlaced ls (s ∷ rest) = PlacedS ls s × EachPlaced ls rest

    abbrev pub EachLabelPlaced : List ℕ → List Label → Type 0
    EachLabelPlaced ls [] = Unit {0}
    EachLabelPlaced ls (l ∷ rest) = EachPlaced ls l.from × EachLabelPlaced ls rest

    abbrev pub PlacedLoop : List ℕ → Stmt → Type 0
    PlacedLoop ls (While' at q _ s) = At f q.point ls × PlacedS ls s
    PlacedLoop ls (Do' at _ s q) = At f q.point ls × PlacedS ls s
    PlacedLoop ls (For' at i q t _ s) = AtPart f q ls × AtPart f t ls × PlacedS ls s
    PlacedLoop ls _ = Unit {0}

    -- C says that the point passed last finds its locals in scope. It has to hold wherever a call may come; behind a statement nothing is known of it, up to the next point.
    abbrev mutual
      pub Scoped : List Item → List ℕ → Type 0 → Type 0
      Scoped [] ls C = Unit {0}
      Scoped (Eval e ∷ k) ls C = C × Scoped k ls C
      Scoped (Locate e ∷ k) ls C = C × Scoped k ls C
      Scoped (AndThen e ∷ k) ls C = C × Scoped k ls C
      Scoped (OrElse e ∷ k) ls C = C × Scoped k ls C
      Scoped (Pick t a b ∷ k) ls C = C × Scoped k ls C
      Scoped (Enter g n ∷ k) ls C = C × Scoped k ls C
      Scoped (Push v ∷ k) ls C = Scoped k ls C
      Scoped (Bound x ∷ k) ls C = Scoped k ls C
      Scoped (Load t ∷ k) ls C = Scoped k ls C
      Scoped (Convert t ∷ k) ls C = Scoped k ls C
      Scoped (Store t ∷ k) ls C = Scoped k ls C
      Scoped (Copy t ∷ k) ls C = Scoped k ls C
      Scoped (Update t op u new ∷ k) ls C = Scoped k ls C
      Scoped (Change op t ∷ k) ls C = Scoped k ls C
      Scoped (Combine op t u ∷ k) ls C = Scoped k ls C
      Scoped (Offset n ∷ k) ls C = Scoped k ls C
      Scoped (Use ∷ k) ls C = Scoped k ls C
      Scoped (Discard ∷ k) ls C = Scoped k ls C
      Scoped (Truth ∷ k) ls C = Scoped k ls C
      Scoped (Joined ∷ k) ls C = Scoped k ls C
      Scoped (Stop q ∷ k) ls C = At f q ls × Scoped k ls (At f q ls)
      Scoped (Run s ∷ k) ls C = PlacedS ls s × AfterBreak k ls × AfterContinue k ls × Scoped k ls ⊥
      Scoped (Choose s t ∷ k) ls C = PlacedS ls s × EachPlaced ls t × AfterBreak k ls × AfterContinue k ls × Scoped k ls ⊥
      Scoped (Open ds ∷ k) ls C = Scoped k (ls ++ local_numbers ds) ⊥
      Scoped (Close n ∷ k) ls C = Scoped k (take n ls) ⊥
      Scoped (Turn s n ∷ k) ls C = (n ≡ length ls) × PlacedLoop ls s × Scoped k ls ⊥
      Scoped (Again s n ∷ k) ls C = (n ≡ length ls) × PlacedLoop ls s × Scoped k ls ⊥
      Scoped (Select body n ∷ k) ls C = (n ≡ length ls) × EachPlaced ls (statements_in body) × AfterContinue k ls × Scoped k ls ⊥
      Scoped (Seek v x labels default n ∷ k) ls C = (n ≡ length ls) × EachLabelPlaced ls (x ∷ labels) × EachPlaced ls default × AfterContinue k ls × Scoped k ls ⊥
      Scoped (Switched n ∷ k) ls C = Scoped k ls ⊥
      Scoped (GiveBack ∷ k) ls C = Ends ls
      Scoped (Leave ∷ k) ls C = Unit {0}

      pub AfterBreak : List Item → List ℕ → Type 0
      AfterBreak [] ls = Unit {0}
      AfterBreak (Again s n ∷ k) ls = (n ≤ length ls) × Scoped k (take n ls) ⊥
      AfterBreak (Switched n ∷ k) ls = (n ≤ length ls) × Scoped k (take n ls) ⊥
      AfterBreak (_ ∷ k) ls = AfterBreak k ls

      pub AfterContinue : List Item → List ℕ → Type 0
      AfterContinue [] ls = Unit {0}
      AfterContinue (Again s n ∷ k) ls = (n ≤ length ls) × PlacedLoop (take n ls) s × Scoped k (take n ls) ⊥
      AfterContinue (_ ∷ k) ls = AfterContinue k ls

  -- ---- states

  -- the point passed last finds its locals in scope
  abbrev pub Covered : ℕ → Option ℕ → List ℕ → Type 0
  Covered f None ls = ⊥
  Covered f (Some q) ls = At f q ls

  abbrev pub CoveredAt : ActivationRecord → Type 0
  CoveredAt a = Covered a.function a.point (locals_of a.locals)

  abbrev pub ScopedAt : ActivationRecord → List Item → Type 0
  ScopedAt a k = Scoped a.function k (locals_of a.locals) (CoveredAt a)

  abbrev pub OuterScoped : List Activation → Type 0
  OuterScoped [] = Unit {0}
  OuterScoped (a ∷ rest) = CoveredAt a.activation × ScopedAt a.activation a.control × OuterScoped rest

  pub record InScope (s : State) : Type 0 where
    pub inner : ScopedAt s.here.activation s.control
    pub outer : OuterScoped s.outer
