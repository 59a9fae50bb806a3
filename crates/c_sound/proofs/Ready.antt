-- Control that can be done with values of these shapes, where these locals are in scope.
use Rattle.std.proofs.Common.{◌≡◌, ℕ, ◌≤◌, List, [], ◌∷◌, ◌++◌, Bool, true, false, Option, Some, None, length, take, drop, reverse, map}
use Rattle.std.specs.Prelude.{slice_get}
use Rattle.c_tree.specs.declared.rows.Program.{Program}
use Rattle.c_tree.specs.declared.rows.Function.{Function}
use Rattle.c_tree.specs.declared.rows.SymbolRow.{SymbolRow}
use Rattle.c_tree.specs.declared.rows.Referent.{Referent}
use Rattle.c_tree.specs.declared.rows.Referent.TheVariants.{Object, Local, Function as Defined, Declared}
use Rattle.c_store.specs.Frames.{Binding}
use Rattle.c_source.specs.Blocks.{result_type}
use Rattle.c_tree.specs.Rows.{statements_in}
use Rattle.c_source.specs.Control.{Item, Eval, Locate, Push, Bound, Load, Convert, Store, Copy, Update, Change, Combine, Offset, Use, Discard, Truth, AndThen, OrElse, Pick, Joined, Enter, Run, Stop, Choose, Open, Close, Turn, Again, Select, Seek, Switched, GiveBack, Leave, Label, State, Activation}
use Rattle.c_typing.specs.Declarations.{has}
use Rattle.c_sound.specs.Shapes.{is_place}
use Rattle.c_sound.proofs.World.{WorldFits}
use Rattle.c_sound.proofs.Operators.{addr, conv, takes, gives, takes_one}
use Rattle.c_sound.proofs.Shaped.{shape, top, Updates, is_getchar, is_putchar, is_exit, local_numbers, Fresh, CalledBuiltIn, Given, ShapedE, ShapedL, ShapedS, EachShaped, ShapedLoop}

-- there are no values computed
abbrev pub IsClear : List Bool → Type 0
IsClear [] = Unit {0}
IsClear (s ∷ ss) = ⊥

abbrev pub locals_of : List Binding → List ℕ
locals_of [] = []
locals_of (b ∷ bs) = b.local ∷ locals_of bs

module _ (p : Program) where
  -- ---- calls: the arguments on the stack, and then the result

  abbrev pub EntersFunction : ℕ → Option Function → ℕ → List Bool → (List Bool → Type 0) → Type 0
  EntersFunction g None n ss go = ⊥
  EntersFunction g (Some fn) n ss go = (fn.params ≡ n) × (length (reverse (take n ss)) ≡ fn.params) × Given p g 0 (reverse (take n ss)) × go (addr (result_type p g) ∷ drop n ss)

  abbrev pub EntersBuiltIn : (get put exit : Bool) → ℕ → List Bool → (List Bool → Type 0) → Type 0
  EntersBuiltIn b c d n ss go = CalledBuiltIn p b c d (take n ss) × go (false ∷ drop n ss)

  abbrev pub EntersBy : Referent → List ℕ → ℕ → List Bool → (List Bool → Type 0) → Type 0
  EntersBy (Object o) name n ss go = ⊥
  EntersBy (Local x) name n ss go = ⊥
  EntersBy (Defined g) name n ss go = EntersFunction g (slice_get p.functions g) n ss go
  EntersBy Declared name n ss go = EntersBuiltIn (is_getchar name) (is_putchar name) (is_exit name) n ss go

  abbrev pub Enters : Option SymbolRow → ℕ → List Bool → (List Bool → Type 0) → Type 0
  Enters None n ss go = ⊥
  Enters (Some row) n ss go = EntersBy row.refers row.name n ss go

  module _ (f : ℕ) where
    abbrev pub EachLabel : List ℕ → Bool → List Label → Type 0
    EachLabel ls l [] = Unit {0}
    EachLabel ls l (x ∷ xs) = EachShaped p f ls l true x.from × EachLabel ls l xs

    -- what is left after a `break` in a place with locals ls can be done; and after a `continue`
    abbrev mutual
      pub Ready : List Item → List ℕ → List Bool → Type 0
      Ready [] ls ss = ⊥
      Ready (Eval e ∷ k) ls ss = ShapedE p ls e × Ready k ls (shape e ∷ ss)
      Ready (Locate e ∷ k) ls ss = ShapedL p ls e × Ready k ls (true ∷ ss)
      Ready (Push v ∷ k) ls ss = Ready k ls (is_place v ∷ ss)
      Ready (Bound x ∷ k) ls ss = (has ls x ≡ true) × Ready k ls (true ∷ ss)
      Ready (Load t ∷ k) ls ss = top ss (λ s rest. (s ≡ true) × Ready k ls (addr t ∷ rest))
      Ready (Convert t ∷ k) ls ss = top ss (λ s rest. (conv t s ≡ addr t) × Ready k ls (addr t ∷ rest))
      Ready (Store t ∷ k) ls ss = top ss (λ s more. top more (λ place rest. (conv t s ≡ addr t) × Ready k ls (addr t ∷ rest)))
      Ready (Copy t ∷ k) ls ss = top ss (λ s more. top more (λ place rest. (s ≡ true) × (place ≡ true) × Ready k ls (false ∷ rest)))
      Ready (Update t op u new ∷ k) ls ss = top ss (λ s more. top more (λ place rest. Updates t op u s × Ready k ls (addr t ∷ rest)))
      Ready (Change op t ∷ k) ls ss = top ss (λ s rest. (takes_one op s ≡ true) × Ready k ls (false ∷ rest))
      Ready (Combine op t u ∷ k) ls ss = top ss (λ y more. top more (λ x rest. (takes op t u x y ≡ true) × Ready k ls (gives op t u ∷ rest)))
      Ready (Offset n ∷ k) ls ss = top ss (λ s rest. (s ≡ true) × Ready k ls (true ∷ rest))
      Ready (Use ∷ k) ls ss = top ss (λ s rest. Ready k ls (s ∷ rest))
      Ready (Discard ∷ k) ls ss = top ss (λ s rest. Ready k ls rest)
      Ready (Truth ∷ k) ls ss = top ss (λ s rest. Ready k ls (false ∷ rest))
      Ready (AndThen e ∷ k) ls ss = top ss (λ s rest. ShapedE p ls e × Ready k ls (false ∷ rest))
      Ready (OrElse e ∷ k) ls ss = top ss (λ s rest. ShapedE p ls e × Ready k ls (false ∷ rest))
      Ready (Pick t a b ∷ k) ls ss = top ss (λ s rest. ShapedE p ls a × ShapedE p ls b × (conv t (shape a) ≡ addr t) × (conv t (shape b) ≡ addr t) × Ready k ls (addr t ∷ rest))
      Ready (Joined ∷ k) ls ss = Ready k ls ss
      Ready (Enter g n ∷ k) ls ss = Enters (slice_get p.symbols g) n ss (Ready k ls)
      Ready (Run s ∷ k) ls ss = IsClear ss × ((l : Bool) × (b : Bool) × ShapedS p f ls l b s × (b ≡ true → Breaks k ls) × (l ≡ true → Continues k ls)) × Ready k ls []
      Ready (Stop q ∷ k) ls ss = Ready k ls ss
      Ready (Choose s t ∷ k) ls ss = top ss (λ c rest. IsClear rest × ((l : Bool) × (b : Bool) × ShapedS p f ls l b s × EachShaped p f ls l b t × (b ≡ true → Breaks k ls) × (l ≡ true → Continues k ls)) × Ready k ls [])
      Ready (Open ds ∷ k) ls ss = Fresh ls (local_numbers ds) × Ready k (ls ++ local_numbers ds) ss
      Ready (Close n ∷ k) ls ss = Ready k (take n ls) ss
      Ready (Turn s n ∷ k) ls ss = top ss (λ c rest. IsClear rest × (n ≡ length ls) × ShapedLoop p f ls s × Ready k ls [])
      Ready (Again s n ∷ k) ls ss = IsClear ss × (n ≡ length ls) × ShapedLoop p f ls s × Ready k ls []
      Ready (Select body n ∷ k) ls ss = top ss (λ c rest. (c ≡ false) × IsClear rest × (n ≡ length ls) × ((l : Bool) × EachShaped p f ls l true (statements_in body) × (l ≡ true → Continues k ls)) × Ready k ls [])
      Ready (Seek v x labels default n ∷ k) ls ss = IsClear ss × (n ≡ length ls) × ((l : Bool) × EachLabel ls l (x ∷ labels) × EachShaped p f ls l true default × (l ≡ true → Continues k ls)) × Ready k ls []
      Ready (Switched n ∷ k) ls ss = IsClear ss × Ready k ls []
      Ready (GiveBack ∷ k) ls ss = top ss (λ s rest. s ≡ addr (result_type p f))
      Ready (Leave ∷ k) ls ss = top ss (λ s rest. s ≡ addr (result_type p f))

      pub Breaks : List Item → List ℕ → Type 0
      Breaks [] ls = ⊥
      Breaks (Again s n ∷ k) ls = (n ≤ length ls) × Ready k (take n ls) []
      Breaks (Switched n ∷ k) ls = (n ≤ length ls) × Ready k (take n ls) []
      Breaks (_ ∷ k) ls = Breaks k ls

      pub Continues : List Item → List ℕ → Type 0
      Continues [] ls = ⊥
      Continues (Again s n ∷ k) ls = (n ≤ length ls) × ShapedLoop p f (take n ls) s × Ready k (take n ls) []
      Continues (_ ∷ k) ls = Continues k ls

  -- ---- states

  abbrev pub HasFunction : Option Function → Type 0
  HasFunction None = ⊥
  HasFunction (Some fn) = Unit {0}

  -- the outer activations can go on with a value of this shape
  abbrev pub Outside : Bool → List Activation → Type 0
  Outside r [] = r ≡ false
  Outside r (a ∷ rest) = HasFunction (slice_get p.functions a.activation.function) × Ready a.activation.function a.control (locals_of a.activation.locals) (r ∷ map is_place a.values) × Outside (addr (result_type p a.activation.function)) rest

  -- each leaf holds a value that fits it, and what remains can be done with the values computed
  pub record Good (s : State) : Type 0 where
    pub world : WorldFits s.here.world
    pub inner : HasFunction (slice_get p.functions s.here.activation.function)
    pub control : Ready s.here.activation.function s.control (locals_of s.here.activation.locals) (map is_place s.values)
    pub outer : Outside (addr (result_type p s.here.activation.function)) s.outer
