-- When a statement is well typed (C90 6.6), by recursion over it.
use Rattle.std.specs.Prelude.{◌≡◌, ℕ, suc, ◌+◌, ◌≤◌, ◌<◌, ◌^◌, Bool, true, false, List, [], ◌∷◌, ◌++◌, Option, Some, None, slice_get, option_map, length, reverse, zero}
use Rattle.c_tree.specs.declared.typed.Typed.{Typed}
use Rattle.c_tree.specs.declared.typed.Pointed.{Pointed}
use Rattle.c_tree.specs.declared.typed.DeclaredLocal.{DeclaredLocal}
use Rattle.c_tree.specs.declared.typed.Stmt.{Stmt, Row_of-Stmt, end_of-Stmt, more_of-Stmt, Held-Stmt-If-3, None', Some'}
use Rattle.c_tree.specs.declared.typed.Stmt.TheVariants.{Value, Block', If', While', Do', For', Switch', Case', Default', Break, Continue, Return}
use Rattle.c_tree.specs.declared.rows.Program.{Program}
use Rattle.c_tree.specs.declared.rows.Local.{Local}
use Rattle.c_tree.specs.declared.rows.Point.{Point}
use Rattle.c_tree.specs.declared.rows.SymbolRow.{SymbolRow}
use Rattle.c_tree.specs.declared.rows.Referent.{Referent}
use Rattle.c_tree.specs.declared.rows.Referent.TheVariants as refers
use Rattle.c_typing.specs.Plain.{Plain, Void, plain, is_integer, is_scalar, is_void}
use Rattle.c_typing.specs.Rules.{may_drop, converts}
use Rattle.c_typing.specs.Expressions.{Scope, operand, value, IsTyped}
use Rattle.c_typing.specs.Declarations.{has, scope_at, locals_in}

-- what stands round a statement: a loop, a loop or `switch`, and whether labels may stand before it
pub record Around : Type 0 where
  pub loop : Bool
  pub breaks : Bool
  pub labels : Bool

abbrev pub in_function : Around
in_function = record { loop = false; breaks = false; labels = false }

abbrev pub in_loop : Around
in_loop = record { loop = true; breaks = true; labels = false }

-- directly in the block of a `switch`
abbrev pub in_switch : Around → Around
in_switch a = record { loop = a.loop; breaks = true; labels = true }

abbrev pub inside : Around → Around
inside a = record a { labels = false }

abbrev pub local_numbers : List DeclaredLocal → List ℕ
local_numbers [] = []
local_numbers (d ∷ ds) = d.local ∷ local_numbers ds

-- ---- labels

-- the constants of the labels before a statement, and how many of them are `default`
abbrev pub constants_before : Stmt → List ℕ
constants_before (Case' at c _ s) = c ∷ constants_before s
constants_before (Default' at _ s) = constants_before s
constants_before s = []

abbrev pub defaults_before : Stmt → ℕ
defaults_before (Case' at c _ s) = defaults_before s
defaults_before (Default' at _ s) = suc (defaults_before s)
defaults_before s = 0

abbrev pub constants_in : {m : _} → Row_of-Stmt m → List ℕ
constants_in end_of-Stmt = []
constants_in (more_of-Stmt s rest) = constants_before s ++ constants_in rest

abbrev pub defaults_in : {m : _} → Row_of-Stmt m → ℕ
defaults_in end_of-Stmt = 0
defaults_in (more_of-Stmt s rest) = defaults_before s + defaults_in rest

abbrev pub AreDifferent : List ℕ → Type 0
AreDifferent [] = Unit {0}
AreDifferent (c ∷ cs) = (has cs c ≡ false) × AreDifferent cs

abbrev pub type_in : Option Local → Plain
type_in None = Void
type_in (Some l) = plain l.ctype

-- ---- names at stopping points

abbrev pub local_on : Referent → List ℕ
local_on (refers.Local x) = x ∷ []
local_on _ = []

-- the locals among so many names from one outward
abbrev pub locals_from : List SymbolRow → (left : ℕ) → Option ℕ → List ℕ
locals_from rows zero s = []
locals_from rows (suc left) None = []
locals_from rows (suc left) (Some s) = elim (slice_get rows s) as (λ _. List ℕ) [ None ↦ [] | Some row ↦ local_on row.refers ++ locals_from rows left row.up ]

abbrev symbol_in : Option Point → Option ℕ
symbol_in None = None
symbol_in (Some q) = q.symbol

-- the locals in scope at a stopping point, the innermost first
abbrev pub locals_at : Program → (point : ℕ) → List ℕ
locals_at p q = locals_from p.symbols (length p.symbols) (symbol_in (slice_get p.points q))

abbrev pub function_at : Program → (point : ℕ) → Option ℕ
function_at p q = option_map (λ row. row.function) (slice_get p.points q)

-- a stopping point of a function, at which these locals are in scope (C90 6.1.2.1)
abbrev pub IsPointWith : Program → (function : ℕ) → List ℕ → (point : ℕ) → Type 0
IsPointWith p f visible q = (locals_at p q ≡ reverse visible) × (function_at p q ≡ Some f)

module _ (p : Program) (f : ℕ) (result : Plain) where
  -- the type of a local of the function
  abbrev pub type_of_local : ℕ → Plain
  type_of_local x = type_in (slice_get (locals_in (slice_get p.functions f)) x)

  module _ (visible : List ℕ) where
    abbrev pub here : Scope
    here = scope_at p f visible

    abbrev pub IsPlaced : (point : ℕ) → Type 0
    IsPlaced q = IsPointWith p f visible q

    -- 16. A controlling expression is a scalar (C90 6.6.4, 6.6.5).
    abbrev pub IsTest : Pointed → Type 0
    IsTest q = IsTyped here q.e × (is_scalar (value here q.e) ≡ true) × IsPlaced q.point

    abbrev pub IsTestOrNone : Option Pointed → Type 0
    IsTestOrNone None = Unit {0}
    IsTestOrNone (Some q) = IsTest q

    -- 17. A `switch` expression is an integer (C90 6.6.4.2).
    abbrev pub IsSelector : Pointed → Type 0
    IsSelector q = IsTyped here q.e × (is_integer (value here q.e) ≡ true) × IsPlaced q.point

    -- an expression whose value is dropped (C90 6.6.3, 6.6.5.3)
    abbrev pub IsDropped : Option Pointed → Type 0
    IsDropped None = Unit {0}
    IsDropped (Some q) = IsTyped here q.e × (may_drop (operand here q.e) ≡ true) × IsPlaced q.point

    -- 14. A local's initializer is an expression that can be assigned to it, and the local is a scalar (C90 6.5.7).
    abbrev pub IsInitializer : ℕ → Option Pointed → Type 0
    IsInitializer x None = Unit {0}
    IsInitializer x (Some q) = IsTyped here q.e × (converts (type_of_local x) (operand here q.e) ≡ true) × IsPlaced q.point

    -- 20. `return` has an expression exactly where the result isn't `void`, and it can be assigned to the result (C90 6.6.6.4).
    abbrev pub IsReturned : Option Typed → Type 0
    IsReturned None = is_void result ≡ true
    IsReturned (Some e) = IsTyped here e × (converts result (operand here e) ≡ true)

  -- each declared name is in scope from its declarator on (C90 6.1.2.1)
  abbrev pub AreInitialized : List ℕ → List DeclaredLocal → Type 0
  AreInitialized visible [] = Unit {0}
  AreInitialized visible (d ∷ ds) = IsInitializer (visible ++ d.local ∷ []) d.local d.init × AreInitialized (visible ++ d.local ∷ []) ds

  abbrev mutual
    pub IsStatement : List ℕ → Around → Stmt → Type 0
    -- expression statements and blocks (C90 6.6.2, 6.6.3)
    IsStatement v a (Value at e) = IsDropped v e
    IsStatement v a (Block' at ds _ row l c) = AreInitialized v ds × AreStatements (v ++ local_numbers ds) (inside a) row
    -- selections (6.6.4)
    IsStatement v a (If' at q _ s t) = IsTest v q × IsStatement v (inside a) s × IsElse v (inside a) t
    IsStatement v a (Switch' at q _ s) = IsSelector v q × IsSwitched v (in_switch a) s
    -- loops (6.6.5)
    IsStatement v a (While' at q _ s) = IsTest v q × IsStatement v in_loop s
    IsStatement v a (Do' at _ s q) = IsStatement v in_loop s × IsTest v q
    IsStatement v a (For' at i q t _ s) = IsDropped v i × IsTestOrNone v q × IsDropped v t × IsStatement v in_loop s
    -- 18. labels stand directly before the statements of a `switch`'s block (6.6.1)
    IsStatement v a (Case' at c _ s) = (a.labels ≡ true) × (c < 2 ^ 32) × IsStatement v a s
    IsStatement v a (Default' at _ s) = (a.labels ≡ true) × IsStatement v a s
    -- 19. `break` stands in a loop or `switch`, `continue` in a loop (6.6.6)
    IsStatement v a (Break at) = a.breaks ≡ true
    IsStatement v a (Continue at) = a.loop ≡ true
    IsStatement v a (Return at q e) = IsReturned v e × IsPlaced v q

    pub AreStatements : {m : _} → List ℕ → Around → Row_of-Stmt m → Type 0
    AreStatements v a end_of-Stmt = Unit {0}
    AreStatements v a (more_of-Stmt s rest) = IsStatement v a s × AreStatements v a rest

    pub IsElse : List ℕ → Around → Held-Stmt-If-3 → Type 0
    IsElse v a None' = Unit {0}
    IsElse v a (Some' _ s) = IsStatement v a s

    -- 18. A `switch` body is a block without declarations; the constants of its labels differ, and at most one is `default` (6.6.4.2).
    pub IsSwitched : List ℕ → Around → Stmt → Type 0
    IsSwitched v a (Block' at ds _ row l c) = (ds ≡ []) × AreStatements v a row × AreDifferent (constants_in row) × (defaults_in row ≤ 1)
    IsSwitched v a _ = ⊥

-- ---- the locals of a function's body, in the order of the source

abbrev mutual
  pub locals_of : Stmt → List ℕ
  locals_of (Block' at ds _ row l c) = local_numbers ds ++ locals_of_row row
  locals_of (If' at q _ s t) = locals_of s ++ locals_of_else t
  locals_of (While' at q _ s) = locals_of s
  locals_of (Do' at _ s q) = locals_of s
  locals_of (For' at i q t _ s) = locals_of s
  locals_of (Switch' at q _ s) = locals_of s
  locals_of (Case' at c _ s) = locals_of s
  locals_of (Default' at _ s) = locals_of s
  locals_of _ = []

  pub locals_of_row : {m : _} → Row_of-Stmt m → List ℕ
  locals_of_row end_of-Stmt = []
  locals_of_row (more_of-Stmt s rest) = locals_of s ++ locals_of_row rest

  pub locals_of_else : Held-Stmt-If-3 → List ℕ
  locals_of_else None' = []
  locals_of_else (Some' _ s) = locals_of s
