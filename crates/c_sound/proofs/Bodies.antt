-- The bodies of an accepted program's functions can be done.
use Rattle.std.proofs.Common.{◌≡◌, refl, sym, ◌∙◌, subst, ap, arith, ℕ, List, [], ◌∷◌, ◌++◌, Bool, true, false, Option, Some, None, true≢false, append_assoc, append-nil}
use Rattle.std.specs.Prelude.{slice_get, if◌then◌else◌, ◌==◌}
use Rattle.c_tree.specs.declared.types.CType.{CType}
use Rattle.c_tree.specs.declared.types.CType.TheVariants as ctype
use Rattle.c_tree.specs.declared.typed.Typed.{Typed}
use Rattle.c_tree.specs.declared.typed.Pointed.{Pointed}
use Rattle.c_tree.specs.declared.typed.DeclaredLocal.{DeclaredLocal}
use Rattle.c_tree.specs.declared.typed.Stmt.{Stmt, Row_of-Stmt, end_of-Stmt, more_of-Stmt, Held-Stmt-If-3, None', Some'}
use Rattle.c_tree.specs.declared.typed.Stmt.TheVariants.{Value as Expression, Block', If', While', Do', For', Switch', Case', Default', Break, Continue, Return}
use Rattle.c_tree.specs.declared.rows.Program.{Program}
use Rattle.c_tree.specs.declared.rows.Function.{Function}
use Rattle.c_tree.specs.declared.rows.Local.{Local}
use Rattle.c_tree.specs.declared.rows.SymbolRow.{SymbolRow}
use Rattle.c_tree.specs.Rows.{stmts}
use Rattle.c_source.specs.Blocks.{local_type, result_type}
use Rattle.c_tree.specs.Rows.{declared_in, statements_in}
use Rattle.c_source.specs.Control.{Item, Open, runs_of, inits_of}
use Rattle.c_typing.specs.Plain.{Plain, Char, Int, Unsigned, Void, Pointer, Array, Struct, plain, is_void}
use Rattle.c_typing.specs.Rules.{converts}
use Rattle.c_typing.specs.Expressions.{operand, value, IsTyped}
use Rattle.c_typing.specs.Declarations.{has, scope_at, is_result, locals_in}
use Rattle.c_typing.specs.Statements.{Around, in_function, local_numbers as numbers_of, type_of_local, IsTestOrNone, IsDropped, IsInitializer, AreInitialized, IsReturned, IsStatement, AreStatements, IsElse, IsSwitched, locals_of, locals_of_row, locals_of_else}
use Rattle.c_typing.specs.Programs.{IsBlock}
use Rattle.c_sound.proofs.Operators.{addr, conv}
use Rattle.c_sound.proofs.Shaped.{shape, local_numbers, Fresh, ShapedE, ShapedPart, ShapedInit, ShapedInits, ShapedReturn, ShapedS, ShapedRows, ShapedElse, ShapedBody}
use Rattle.c_sound.proofs.Ready.{Ready}
use Rattle.c_sound.proofs.Lists.{has_more}
use Rattle.c_sound.proofs.Continues.{inits_ready, runs_ready, rows_shaped}
use Rattle.c_sound.proofs.Rules.{ashape, addr_plain, integer_shape, pconv, converts_shape}
use Rattle.c_sound.proofs.Typed.{HasParameters, conv_there, sh, typed_keeps, evaluated}

-- a type for each symbol: the one that its own file declares
abbrev as_declared : SymbolRow → Plain
as_declared row = plain row.ctype

-- ---- lists of locals

pub same_numbers : (ds : List DeclaredLocal) → numbers_of ds ≡ local_numbers ds
same_numbers [] = refl
same_numbers (d ∷ ds) = ap (λ xs. d.local ∷ xs) (same_numbers ds)

pub has_by : (t : Bool) (a : Bool) → t ≡ true → (if t then true else a) ≡ true
has_by true a h = refl
has_by false a h = absurd (true≢false (sym h))

pub has_or : (t a : Bool) → a ≡ true → (if t then true else a) ≡ true
has_or true a h = refl
has_or false a h = h

pub same_number : (x : ℕ) → (x == x) ≡ true
same_number x = grind arith

has_here : (v : List ℕ) (x : ℕ) (rest : List ℕ) → has (v ++ x ∷ rest) x ≡ true
has_here [] x rest = has_by (x == x) (has rest x) (same_number x)
has_here (y ∷ v) x rest = has_or (y == x) (has (v ++ x ∷ rest) x) (has_here v x rest)

void_shape : (t : Plain) → is_void t ≡ true → ashape t ≡ false
void_shape Void h = refl
void_shape Char h = refl
void_shape Int h = refl
void_shape Unsigned h = refl
void_shape (Pointer t) h = absurd (true≢false (sym h))
void_shape (Array t n) h = absurd (true≢false (sym h))
void_shape (Struct s) h = refl

abbrev type_in : Option Local → CType
type_in None = ctype.Void
type_in (Some l) = l.ctype

abbrev plain_in : Option Local → Plain
plain_in None = Void
plain_in (Some l) = plain l.ctype

-- ---- locals that begin one after another

fresh_split : (v xs ys : List ℕ) → Fresh v (xs ++ ys) → Fresh v xs × Fresh (v ++ xs) ys
fresh_split v [] ys q = (tt, subst (λ l. Fresh l ys) (sym (append-nil v)) q)
fresh_split v (x ∷ xs) ys q = let r = fresh_split (v ++ x ∷ []) xs ys q.1 in ((q.0, r.0), subst (λ l. Fresh l ys) (append_assoc v (x ∷ []) xs) r.1)

fewer_by : (t a b : Bool) → (b ≡ false → a ≡ false) → (if t then true else b) ≡ false → (if t then true else a) ≡ false
fewer_by true a b f h = h
fewer_by false a b f h = f h

has_fewer : (v w : List ℕ) (x : ℕ) → has (v ++ w) x ≡ false → has v x ≡ false
has_fewer [] w x h = refl
has_fewer (y ∷ v) w x h = fewer_by (y == x) (has v x) (has (v ++ w) x) (has_fewer v w x) h

-- also where fewer are in scope
abbrev Fewer : List ℕ → List ℕ → Type 0
Fewer u v = (x : ℕ) → has v x ≡ false → has u x ≡ false

fewer_more : (u v : List ℕ) (y : ℕ) → Fewer u v → Fewer (u ++ y ∷ []) (v ++ y ∷ [])
fewer_more u v y f x h = on_end u (f x (has_fewer v (y ∷ []) x h)) (last_of v h)
  where
    last_of : (v : List ℕ) → has (v ++ y ∷ []) x ≡ false → (y == x) ≡ false
    last_of [] h = by (y == x) h
      where
        by : (t : Bool) → (if t then true else false) ≡ false → t ≡ false
        by true h = h
        by false h = refl
    last_of (z ∷ v) h = last_of v (behind (z == x) (has (v ++ y ∷ []) x) h)
      where
        behind : (t b : Bool) → (if t then true else b) ≡ false → b ≡ false
        behind true b h = absurd (true≢false h)
        behind false b h = h

    on_end : (u : List ℕ) → has u x ≡ false → (y == x) ≡ false → has (u ++ y ∷ []) x ≡ false
    on_end [] h e = ap (λ t. if t then true else false) e
    on_end (z ∷ u) h e = fewer_by (z == x) (has (u ++ y ∷ []) x) (has u x) (λ k. on_end u k e) h

fresh_fewer : (u v xs : List ℕ) → Fewer u v → Fresh v xs → Fresh u xs
fresh_fewer u v [] f q = tt
fresh_fewer u v (x ∷ xs) f q = (f x q.0, fresh_fewer (u ++ x ∷ []) (v ++ x ∷ []) xs (fewer_more u v x f) q.1)

-- behind others
pub fresh_behind : (v xs ys : List ℕ) → Fresh v (xs ++ ys) → Fresh v ys
fresh_behind v xs ys q = fresh_fewer v (v ++ xs) ys (λ x h. has_fewer v xs x h) (fresh_split v xs ys q).1

pub fresh_first : (v xs ys : List ℕ) → Fresh v (xs ++ ys) → Fresh v xs
fresh_first v xs ys q = (fresh_split v xs ys q).0

pub fresh_second : (v xs ys : List ℕ) → Fresh v (xs ++ ys) → Fresh (v ++ xs) ys
fresh_second v xs ys q = (fresh_split v xs ys q).1

-- the value of a function whose end is reached
pub given_back : (t : CType) → is_result (plain t) ≡ true → conv t false ≡ addr t
given_back ctype.Char h = refl
given_back ctype.Int h = refl
given_back ctype.Unsigned h = refl
given_back ctype.Void h = refl
given_back (ctype.Pointer' b t) h = refl
given_back (ctype.Array' b t n) h = h
given_back (ctype.Struct s) h = refl

module _ (p : Program) (functions : (g : ℕ) (fn : Function) → slice_get p.functions g ≡ Some fn → HasParameters fn) (f : ℕ) (r : Plain) (is_its : r ≡ plain (result_type p f)) where
  expression : (v : List ℕ) (e : Typed) → IsTyped (scope_at p f v) e → ShapedE p v e
  expression v e q = evaluated as_declared p f v v (λ x h. h) functions e (typed_keeps (scope_at p f v) e q)

  shape_there : (v : List ℕ) (e : Typed) → shape e ≡ ashape (value (scope_at p f v) e)
  shape_there v e = sh as_declared p f v v (λ x h. h) functions e

  dropped : (v : List ℕ) (o : Option Pointed) → IsDropped p f r v o → ShapedPart p v o
  dropped v None q = tt
  dropped v (Some c) q = expression v c.e q.0

  tested : (v : List ℕ) (o : Option Pointed) → IsTestOrNone p f r v o → ShapedPart p v o
  tested v None q = tt
  tested v (Some c) q = expression v c.e q.0

  -- ---- declarations

  local_there : (o : Option Local) → plain (type_in o) ≡ plain_in o
  local_there None = refl
  local_there (Some l) = refl

  initialized : (v ls : List ℕ) (x : ℕ) (o : Option Pointed) → ((y : ℕ) → has v y ≡ true → has ls y ≡ true) → has ls x ≡ true → IsInitializer p f r v x o → ShapedInit p f ls x o
  initialized v ls x None within there q = tt
  initialized v ls x (Some c) within there q =
      let t = local_type p f x in
      let e : plain t ≡ type_of_local p f r x = local_there (slice_get (locals_in (slice_get p.functions f)) x) in
      let k : converts (plain t) (operand (scope_at p f v) c.e) ≡ true = ap (λ u. converts u (operand (scope_at p f v) c.e)) e ∙ q.1 in
      (there, evaluated as_declared p f v ls within functions c.e (typed_keeps (scope_at p f v) c.e q.0), ap (conv t) (shape_there v c.e) ∙ conv_there t (ashape (value (scope_at p f v) c.e)) (converts_shape (plain t) (operand (scope_at p f v) c.e) k))

  all_initialized : (ds : List DeclaredLocal) (v ls : List ℕ) → ((y : ℕ) → has (v ++ local_numbers ds) y ≡ true → has ls y ≡ true) → AreInitialized p f r v ds → ShapedInits p f ls ds
  all_initialized [] v ls within q = tt
  all_initialized (d ∷ ds) v ls within q =
      let rest = local_numbers ds in
      let more : (y : ℕ) → has ((v ++ d.local ∷ []) ++ rest) y ≡ true → has ls y ≡ true = λ y h. within y (subst (λ xs. has xs y ≡ true) (append_assoc v (d.local ∷ []) rest) h) in (
        initialized (v ++ d.local ∷ []) ls d.local d.init (λ y h. more y (has_more (v ++ d.local ∷ []) rest y h)) (within d.local (has_here v d.local rest)) q.0,
        all_initialized ds (v ++ d.local ∷ []) ls more q.1,
      )

  -- ---- statements

  returned : (v : List ℕ) (o : Option Typed) → IsReturned p f r v o → ShapedReturn p f v o
  returned v None q = sym (addr_plain (result_type p f) ∙ ap ashape (sym is_its) ∙ void_shape r q)
  returned v (Some e) q =
      let t = result_type p f in
      (expression v e q.0, ap (conv t) (shape_there v e) ∙ conv_there t (ashape (value (scope_at p f v) e)) (subst (λ u. pconv u (ashape (value (scope_at p f v) e)) ≡ ashape u) is_its (converts_shape r (operand (scope_at p f v) e) q.1)))

  mutual
    pub statement : (s : Stmt) (v : List ℕ) (a : Around) → Fresh v (locals_of s) → IsStatement p f r v a s → ShapedS p f v a.loop a.breaks s
    statement (Expression at e) v a n q = dropped v e q
    statement (Block' at ds x row l c) v a n q =
        let e = same_numbers ds in
        let new : Fresh v (local_numbers ds ++ locals_of_row row) = subst (λ xs. Fresh v (xs ++ locals_of_row row)) e n in
        (all_initialized ds v (v ++ local_numbers ds) (λ y h. h) q.0, statements row (v ++ local_numbers ds) _ (fresh_second v (local_numbers ds) (locals_of_row row) new) (subst (λ xs. AreStatements p f r (v ++ xs) (record a { labels = false }) row) e q.1), fresh_first v (local_numbers ds) (locals_of_row row) new)
    statement (If' at c x s t) v a n q = (expression v c.e q.0.0, statement s v _ (fresh_first v (locals_of s) (locals_of_else t) n) q.1, otherwise t v _ (fresh_behind v (locals_of s) (locals_of_else t) n) q.2)
    statement (Switch' at c x s) v a n q = (expression v c.e q.0.0, shape_there v c.e ∙ integer_shape (value (scope_at p f v) c.e) q.0.1, switched s v a n q.1)
    statement (While' at c x s) v a n q = (expression v c.e q.0.0, statement s v _ n q.1)
    statement (Do' at x s c) v a n q = (expression v c.e q.1.0, statement s v _ n q.0)
    statement (For' at i c t x s) v a n q = (dropped v i q.0, tested v c q.1, dropped v t q.2, statement s v _ n q.3)
    statement (Case' at c x s) v a n q = statement s v a n q.2
    statement (Default' at x s) v a n q = statement s v a n q.1
    statement (Break at) v a n q = q
    statement (Continue at) v a n q = q
    statement (Return at c e) v a n q = returned v e q.0

    pub statements : {m : _} (row : Row_of-Stmt m) (v : List ℕ) (a : Around) → Fresh v (locals_of_row row) → AreStatements p f r v a row → ShapedRows p f v a.loop a.breaks row
    statements end_of-Stmt v a n q = tt
    statements (more_of-Stmt s rest) v a n q = (statement s v a (fresh_first v (locals_of s) (locals_of_row rest) n) q.0, statements rest v a (fresh_behind v (locals_of s) (locals_of_row rest) n) q.1)

    pub otherwise : (e : Held-Stmt-If-3) (v : List ℕ) (a : Around) → Fresh v (locals_of_else e) → IsElse p f r v a e → ShapedElse p f v a.loop a.breaks e
    otherwise None' v a n q = tt
    otherwise (Some' x s) v a n q = statement s v a n q

    pub switched : (s : Stmt) (v : List ℕ) (a : Around) → Fresh v (locals_of s) → IsSwitched p f r v (record { loop = a.loop; breaks = true; labels = true }) s → ShapedBody p f v a.loop s
    switched (Block' at ds x row l c) v a n q = statements row v (record { loop = a.loop; breaks = true; labels = true }) (fresh_behind v (numbers_of ds) (locals_of_row row) n) q.1
    switched _ v a n q = tt

  -- ---- bodies

  pub body_ready : (s : Stmt) (v : List ℕ) (k : List Item) → Fresh v (locals_of s) → IsBlock s → IsStatement p f r v in_function s → ((ls : List ℕ) → Ready p f k ls [])
      → Ready p f (Open (declared_in s) ∷ (inits_of p f (declared_in s) ++ (runs_of (statements_in s) ++ k))) v []
  body_ready (Block' at ds x row l c) v k n b q go =
      let u = statement (Block' at ds x row l c) v in_function n q in
      let ls = v ++ local_numbers ds in
      (u.2, inits_ready p f ds (runs_of (stmts row) ++ k) ls u.0 (runs_ready p f (stmts row) k ls false false (rows_shaped p f row ls false false u.1) (λ e. absurd (true≢false (sym e))) (λ e. absurd (true≢false (sym e))) (go ls)))
  body_ready _ v k n b q go = absurd b
