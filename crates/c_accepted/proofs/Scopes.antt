-- At each place of a function the names in scope denote in the program what they denote in its file.
use Rattle.std.proofs.Common.{◌≡◌, ◌≤◌, ◌<◌, refl, sym, ap, ◌∙◌, subst, arith, ℕ, zero, suc, ◌+◌, Bool, true, false, true≢false, List, [], ◌∷◌, ◌++◌, length, map, length-append, Option, Some, None}
use Rattle.std.specs.Prelude.{slice_get, option_map, if◌then◌else◌, reverse, bytes_eq, ◌==◌, ◌&&◌}
use Rattle.std.proofs.lemmas.Option.{slice_get-map}
use Rattle.std.proofs.lemmas.List.{reverse-append}
use Rattle.c_tree.specs.declared.types.StructDef.{StructDef}
use Rattle.c_tree.specs.declared.rows.Program.{Program}
use Rattle.c_tree.specs.declared.rows.Function.{Function as FunctionRow}
use Rattle.c_tree.specs.declared.rows.Local.{Local}
use Rattle.c_tree.specs.declared.rows.Point.{Point}
use Rattle.c_tree.specs.declared.rows.SymbolRow.{SymbolRow}
use Rattle.c_tree.specs.declared.rows.Referent.{Referent}
use Rattle.c_tree.specs.declared.rows.Referent.TheVariants as refers
use Rattle.c_tree.specs.declared.types.CType.TheVariants as ctype
use Rattle.c_typing.specs.Plain.{Plain, Char, Int, Unsigned, Void, Pointer, Array, Struct, plain, same}
use Rattle.c_typing.specs.Written.{IsWritten}
use Rattle.c_typing.specs.Expressions.{Denoted, Object, Function, Hidden}
use Rattle.c_typing.specs.Declarations.{has, local_in, locals_in, denoted_by, denoted, scope_at}
use Rattle.c_typing.specs.Statements.{local_on, locals_from, IsPointWith}
use Rattle.c_scope.specs.Environment as environment
use Rattle.c_scope.specs.Environment.{Environment, Row, Visible, declare_local, enter, innermost, number_of, scope}
use Rattle.c_accepted.specs.Grown.{Grows}
use Rattle.c_accepted.specs.Reads.{Reads}
use Rattle.c_accepted.proofs.Keeps.{Keeps, Within}

-- ---- places of lists

pub some_same : {A : Type 0} (x y : A) → ◌≡◌ {A = Option A} (Some x) (Some y) → x ≡ y
some_same x y e = cc

pub mapped_there : {A B : Type 0} (g : A → B) (xs : List A) (n : ℕ) (y : B) → slice_get (map g xs) n ≡ Some y → (x : A) × (slice_get xs n ≡ Some x) × (g x ≡ y)
mapped_there g [] n y e = absurd (let k : None ≡ Some y = e in cc)
mapped_there g (x ∷ xs) zero y e = (x, refl, some_same (g x) y e)
mapped_there g (x ∷ xs) (suc n) y e = mapped_there g xs n y e

pub first_there : {A : Type 0} (xs ys : List A) (n : ℕ) (x : A) → slice_get xs n ≡ Some x → slice_get (xs ++ ys) n ≡ Some x
first_there [] ys n x e = absurd (let k : None ≡ Some x = e in cc)
first_there (y ∷ xs) ys zero x e = e
first_there (y ∷ xs) ys (suc n) x e = first_there xs ys n x e

pub last_there : {A : Type 0} (xs ys : List A) (x : A) → slice_get ((xs ++ x ∷ []) ++ ys) (length xs) ≡ Some x
last_there [] ys x = refl
last_there (y ∷ xs) ys x = last_there xs ys x

-- ---- types that are the same

both_true : (a b : Bool) → a ≡ true → b ≡ true → a && b ≡ true
both_true true b e f = f
both_true false b e f = e

equal_self : (n : ℕ) → (n == n) ≡ true
equal_self n = grind arith

pub same_self : (t : Plain) → same t t ≡ true
same_self Char = refl
same_self Int = refl
same_self Unsigned = refl
same_self Void = refl
same_self (Pointer t) = same_self t
same_self (Array t n) = both_true (same t t) (n == n) (same_self t) (equal_self n)
same_self (Struct n) = equal_self n

-- ---- what a symbol denotes

module _ (p : Program) (f : ℕ) where
  local_object : (t u : Plain) (g : Bool) (l : Local) → plain l.ctype ≡ t → local_in t (Some l) ≡ Object t l.register
  local_object t u g l e = ap (λ b. if b then Object t l.register else Hidden) (ap (same t) e ∙ same_self t)

  no_function : (t r : Plain) (ts : List Plain) (o : Option Local) → local_in t o ≡ Function r ts → ⊥
  no_function t r ts None e = cc
  no_function t r ts (Some l) e = by (same t (plain l.ctype)) e
    where
      by : (b : Bool) → (if b then Object t l.register else Hidden) ≡ Function r ts → ⊥
      by true k = cc
      by false k = cc

  shown_if : (b c : Bool) (d : Denoted) (t : Plain) (g : Bool) → (b ≡ true → c ≡ true) → (if b then d else Hidden) ≡ Object t g → (if c then d else Hidden) ≡ Object t g
  shown_if true c d t g h e = ap (λ b. if b then d else Hidden) (h refl) ∙ e
  shown_if false c d t g h e = absurd (let k : Hidden ≡ Object t g = e in cc)

  never_if : (b : Bool) (d : Denoted) (r : Plain) (ts : List Plain) → (d ≡ Function r ts → ⊥) → (if b then d else Hidden) ≡ Function r ts → ⊥
  never_if true d r ts h e = h e
  never_if false d r ts h e = cc

  -- an object that is shown stays so where more locals are in scope
  object_more : (us vs : List ℕ) → ((x : ℕ) → has us x ≡ true → has vs x ≡ true) → (s : SymbolRow) (t : Plain) (g : Bool) (r : Referent)
      → denoted_by p f us (plain s.ctype) s.name r ≡ Object t g → denoted_by p f vs (plain s.ctype) s.name r ≡ Object t g
  object_more us vs h s t g (refers.Object o) e = e
  object_more us vs h s t g (refers.Local x) e = shown_if (has us x) (has vs x) _ t g (h x) e
  object_more us vs h s t g (refers.Function k) e = e
  object_more us vs h s t g refers.Declared e = e

  -- a function is the same wherever it is named
  function_more : (us vs : List ℕ) (s : SymbolRow) (t : Plain) (ts : List Plain) (r : Referent)
      → denoted_by p f us (plain s.ctype) s.name r ≡ Function t ts → denoted_by p f vs (plain s.ctype) s.name r ≡ Function t ts
  function_more us vs s t ts (refers.Object o) e = e
  function_more us vs s t ts (refers.Local x) e = absurd (never_if (has us x) _ t ts (no_function (plain s.ctype) t ts _) e)
  function_more us vs s t ts (refers.Function k) e = e
  function_more us vs s t ts refers.Declared e = e

  object_there : (us vs : List ℕ) → ((x : ℕ) → has us x ≡ true → has vs x ≡ true) → (o : Option SymbolRow) (t : Plain) (g : Bool)
      → option_map (denoted p f us) o ≡ Some (Object t g) → option_map (denoted p f vs) o ≡ Some (Object t g)
  object_there us vs h None t g e = absurd (let k : None ≡ Some (Object t g) = e in cc)
  object_there us vs h (Some s) t g e = ap Some (object_more us vs h s t g s.refers (some_same (denoted p f us s) (Object t g) e))

  function_there : (us vs : List ℕ) (o : Option SymbolRow) (t : Plain) (ts : List Plain)
      → option_map (denoted p f us) o ≡ Some (Function t ts) → option_map (denoted p f vs) o ≡ Some (Function t ts)
  function_there us vs None t ts e = absurd (let k : None ≡ Some (Function t ts) = e in cc)
  function_there us vs (Some s) t ts e = ap Some (function_more us vs s t ts s.refers (some_same (denoted p f us s) (Function t ts) e))

  pub objects_more : (us vs : List ℕ) → ((x : ℕ) → has us x ≡ true → has vs x ≡ true) → (n : ℕ) (t : Plain) (g : Bool)
      → slice_get (scope_at p f us).names n ≡ Some (Object t g) → slice_get (scope_at p f vs).names n ≡ Some (Object t g)
  objects_more us vs h n t g e =
      slice_get-map (denoted p f vs) p.symbols n ∙ object_there us vs h (slice_get p.symbols n) t g (sym (slice_get-map (denoted p f us) p.symbols n) ∙ e)

  pub functions_more : (us vs : List ℕ) (n : ℕ) (t : Plain) (ts : List Plain)
      → slice_get (scope_at p f us).names n ≡ Some (Function t ts) → slice_get (scope_at p f vs).names n ≡ Some (Function t ts)
  functions_more us vs n t ts e =
      slice_get-map (denoted p f vs) p.symbols n ∙ function_there us vs (slice_get p.symbols n) t ts (sym (slice_get-map (denoted p f us) p.symbols n) ∙ e)

or_more : (b c d : Bool) → (c ≡ true → d ≡ true) → (if b then true else c) ≡ true → (if b then true else d) ≡ true
or_more true c d h k = refl
or_more false c d h k = h k

or_last : (b c : Bool) → c ≡ true → (if b then true else c) ≡ true
or_last true c h = refl
or_last false c h = h

has_more : (us : List ℕ) (y x : ℕ) → has us x ≡ true → has (us ++ y ∷ []) x ≡ true
has_more [] y x e = absurd (true≢false (sym e))
has_more (u ∷ us) y x e = or_more (u == x) (has us x) (has (us ++ y ∷ []) x) (has_more us y x) e

has_last : (us : List ℕ) (y : ℕ) → has (us ++ y ∷ []) y ≡ true
has_last [] y = ap (λ b. if b then true else false) (equal_self y)
has_last (u ∷ us) y = or_last (u == y) (has (us ++ y ∷ []) y) (has_last us y)

-- ---- a function of a program

-- Function f of a program, whose parameters and locals are the names from `base` to the last of `ends`. `outside` is in scope round it.
pub record Ground (p : Program) (f : ℕ) (fn : FunctionRow) (ends : List Row) (base : ℕ) (defs : List StructDef) : Type 0 where
  pub function : slice_get p.functions f ≡ Some fn
  pub many : length ends ≤ length p.symbols
  pub symbol : (n : ℕ) (r : Row) → slice_get ends n ≡ Some r → (s : SymbolRow) × (slice_get p.symbols n ≡ Some s) × (s.up ≡ r.up) ×
      ((x : ℕ) (t : Plain) (g : Bool) → r.local ≡ Some x → r.denoted ≡ Object t g → (s.refers ≡ refers.Local x) × (plain s.ctype ≡ t))
  pub own : (i : ℕ) (r : Row) → slice_get ends (base + i) ≡ Some r → r.local ≡ Some i → (l : Local) × (slice_get fn.locals i ≡ Some l) × (Object (plain l.ctype) l.register ≡ r.denoted)
  pub grows : Grows defs p.defs
  pub structs : (n : ℕ) → n < length p.defs → IsWritten p.defs (ctype.Struct n)

module _ (p : Program) (f : ℕ) (fn : FunctionRow) (ends : List Row) (base : ℕ) (defs : List StructDef) (tags : List (List ℕ)) (outside : List Visible) where
  -- What is in scope where these locals are: the chain of symbols has them, and what is an object or a function is so in the program.
  pub record Fits (v : Environment) (visible : List ℕ) : Type 0 where
    pub size : length v.visible ≤ length v.names
    pub count : length v.names ≡ base + v.locals
    pub same_defs : v.defs ≡ defs
    pub same_tags : v.tags ≡ tags
    pub chain : (left : ℕ) → length v.visible ≤ left → locals_from p.symbols left (innermost v.visible) ≡ reverse visible
    pub objects : (text : List ℕ) (n : ℕ) (r : Row) (t : Plain) (g : Bool) → number_of v.visible text ≡ Some n → slice_get ends n ≡ Some r → r.denoted ≡ Object t g
        → slice_get (scope_at p f visible).names n ≡ Some (Object t g)
    pub functions : (text : List ℕ) (n : ℕ) (r : Row) (t : Plain) (ts : List Plain) → number_of v.visible text ≡ Some n → slice_get ends n ≡ Some r → r.denoted ≡ Function t ts
        → number_of outside text ≡ Some n
    pub below : (text : List ℕ) (n : ℕ) → number_of v.visible text ≡ Some n → n < length v.names

  pub fits_same : (v w : Environment) (us : List ℕ) → w.visible ≡ v.visible → Keeps v w → Fits v us → Fits w us
  fits_same v w us e k h =
      let l = ap length k.names ∙ length-append v.names k.more in record {
        size = subst (λ xs. length xs ≤ length w.names) (sym e) (omega (arith, h.size, l));
        count = k.count base h.count;
        same_defs = k.defs ∙ h.same_defs;
        same_tags = k.tags ∙ h.same_tags;
        chain = subst (λ xs. (left : ℕ) → length xs ≤ left → locals_from p.symbols left (innermost xs) ≡ reverse us) (sym e) h.chain;
        objects = λ text n r t g i. h.objects text n r t g (sym (ap (λ xs. number_of xs text) e) ∙ i);
        functions = λ text n r t ts i. h.functions text n r t ts (sym (ap (λ xs. number_of xs text) e) ∙ i);
        below = λ text n i. (let b = h.below text n (sym (ap (λ xs. number_of xs text) e) ∙ i) in omega (arith, b, l));
      }

  module _ (ground : Ground p f fn ends base defs) where
    module _ (v : Environment) (us : List ℕ) (name : List ℕ) (t : Plain) (g : Bool) (h : Fits v us) (there : Within ends (declare_local v name (Object t g))) where
      abbrev row : Row
      row = record { name = name; denoted = Object t g; up = innermost v.visible; unit = v.unit; local = Some v.locals }

      abbrev vs : List ℕ
      vs = us ++ v.locals ∷ []

      row_there : slice_get ends (length v.names) ≡ Some row
      row_there = ap (λ xs. slice_get xs (length v.names)) there.1 ∙ last_there v.names there.0 row

      declared_chain : (left : ℕ) → suc (length v.visible) ≤ left → locals_from p.symbols left (Some (length v.names)) ≡ reverse vs
      declared_chain zero l = absurd (omega (arith, l))
      declared_chain (suc left) l =
          let (s, at, up, is) = ground.symbol (length v.names) row row_there in
          ap (λ o. elim o as (λ _. List ℕ) [ None ↦ [] | Some r ↦ local_on r.refers ++ locals_from p.symbols left r.up ]) at ∙
          ap (λ r. local_on r ++ locals_from p.symbols left s.up) (is v.locals t g refl refl).0 ∙
          ap (λ u. v.locals ∷ locals_from p.symbols left u) up ∙ ap (λ xs. v.locals ∷ xs) (h.chain left (omega (arith, l))) ∙ sym (reverse-append us (v.locals ∷ []))

      declared_object : slice_get (scope_at p f vs).names (length v.names) ≡ Some (Object t g)
      declared_object =
          let (s, at, up, is) = ground.symbol (length v.names) row row_there in
          let (l, on, same) = ground.own v.locals row (ap (slice_get ends) (sym h.count) ∙ row_there) refl in
          let k : plain l.ctype ≡ t = (let e : Object (plain l.ctype) l.register ≡ Object t g = same in cc) in
          let m : l.register ≡ g = (let e : Object (plain l.ctype) l.register ≡ Object t g = same in cc) in
          slice_get-map (denoted p f vs) p.symbols (length v.names) ∙ ap (option_map (denoted p f vs)) at ∙
          ap Some (ap (denoted_by p f vs (plain s.ctype) s.name) (is v.locals t g refl refl).0 ∙
          ap (λ b. if b then local_in (plain s.ctype) (slice_get (locals_in (slice_get p.functions f)) v.locals) else Hidden) (has_last us v.locals) ∙
          ap (λ o. local_in (plain s.ctype) (slice_get (locals_in o) v.locals)) ground.function ∙ ap (local_in (plain s.ctype)) on ∙
          ap (λ u. local_in u (Some l)) (is v.locals t g refl refl).1 ∙ local_object p f t t g l k ∙ ap (Object t) m)

      declared_objects : (text : List ℕ) (n : ℕ) (r : Row) (u : Plain) (k : Bool) (b : Bool) → (if b then Some (length v.names) else number_of v.visible text) ≡ Some n → slice_get ends n ≡ Some r → r.denoted ≡ Object u k
          → slice_get (scope_at p f vs).names n ≡ Some (Object u k)
      declared_objects text n r u k true i at d =
          let e = some_same (length v.names) n i in
          let same : row ≡ r = some_same row r (sym row_there ∙ ap (slice_get ends) e ∙ at) in
          ap (slice_get (scope_at p f vs).names) (sym e) ∙ declared_object ∙ ap Some (ap (λ (x : Row). x.denoted) same ∙ d)
      declared_objects text n r u k false i at d = objects_more p f us vs (has_more us v.locals) n u k (h.objects text n r u k i at d)

      declared_functions : (text : List ℕ) (n : ℕ) (r : Row) (u : Plain) (ts : List Plain) (b : Bool) → (if b then Some (length v.names) else number_of v.visible text) ≡ Some n → slice_get ends n ≡ Some r → r.denoted ≡ Function u ts
          → number_of outside text ≡ Some n
      declared_functions text n r u ts true i at d =
          let e = some_same (length v.names) n i in
          let same : row ≡ r = some_same row r (sym row_there ∙ ap (slice_get ends) e ∙ at) in
          absurd (let k : Object t g ≡ Function u ts = ap (λ (x : Row). x.denoted) same ∙ d in cc)
      declared_functions text n r u ts false i at d = h.functions text n r u ts i at d

      declared_below : (text : List ℕ) (n m : ℕ) (b : Bool) → length v.names < m → (if b then Some (length v.names) else number_of v.visible text) ≡ Some n → n < m
      declared_below text n m true l i = subst (λ k. k < m) (some_same (length v.names) n i) l
      declared_below text n m false l i = let k = h.below text n i in omega (arith, k, l)

      pub fits_local : Fits (declare_local v name (Object t g)) vs
      fits_local = (
          let m : length (declare_local v name (Object t g)).names ≡ length v.names + 1 = length-append v.names _ in record {
            size = omega (arith, m, h.size);
            count = omega (arith, m, h.count);
            same_defs = h.same_defs;
            same_tags = h.same_tags;
            chain = declared_chain;
            objects = λ text n r u k. declared_objects text n r u k (bytes_eq name text);
            functions = λ text n r u ts. declared_functions text n r u ts (bytes_eq name text);
            below = λ text n. declared_below text n (length (declare_local v name (Object t g)).names) (bytes_eq name text) (omega (arith, m));
          })

    -- ---- what an expression reads, and points

    pub reads : (v : Environment) (us : List ℕ) (literal : ℕ → ℕ) → Fits v us → Within ends v → Reads (scope v literal) (scope_at p f us)
    reads v us literal h (rest, e) = record {
      objects = λ text n t r i k.
          (let (row, at, d) = mapped_there environment.denoted_by v.names n (Object t r) k in
          h.objects text n row t r i (ap (λ xs. slice_get xs n) e ∙ first_there v.names rest n row at) d);
      grows = subst (λ ds. Grows ds p.defs) (sym h.same_defs) ground.grows;
      structs = ground.structs;
      asks = refl;
    }

    pub placed : (v : Environment) (us : List ℕ) (q line column : ℕ) → Fits v us → Within ends v
        → slice_get p.points q ≡ Some (record { function = f; line = line; column = column; symbol = innermost v.visible }) → IsPointWith p f us q
    placed v us q line column h (rest, e) at =
        let m = ap length e ∙ length-append v.names rest in (
          rw at (h.chain (length p.symbols) (omega (arith, h.size, m, ground.many))),
          ap (option_map (λ (r : Point). r.function)) at,
        )
