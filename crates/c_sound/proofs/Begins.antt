-- An accepted program begins in a good state.
use Rattle.std.proofs.Common.{◌≡◌, refl, sym, ◌∙◌, subst, ap, arith, ℕ, suc, ◌+◌, List, [], ◌∷◌, Bool, true, false, not, ◌&&◌, ◌||◌, Option, Some, None, length, map, true≢false}
use Rattle.std.specs.Prelude.{slice_get, if◌then◌else◌, ◌==◌}
use Rattle.std.specs.List.{AllByRecursion}
use Rattle.ldb_words.specs.declared.kinds.Kind.{Kind}
use Rattle.ldb_words.specs.declared.kinds.Kind.TheVariants.{Byte, Word, Address}
use Rattle.c_tree.specs.declared.types.CType.{CType}
use Rattle.c_tree.specs.declared.types.CType.TheVariants.{Char, Int, Unsigned, Void, Pointer', Array', Struct}
use Rattle.c_tree.specs.declared.types.Leaf.{Leaf}
use Rattle.c_tree.specs.declared.rows.Program.{Program}
use Rattle.c_tree.specs.declared.rows.Function.{Function}
use Rattle.c_tree.specs.declared.rows.ObjectRow.{ObjectRow}
use Rattle.c_tree.specs.declared.rows.Start.{Start}
use Rattle.c_tree.specs.declared.rows.Start.TheVariants as start
use Rattle.c_tree.specs.Layout.{size_of, leaves_of}
use Rattle.c_operators.specs.Bits.{low_byte}
use Rattle.c_store.specs.Store.{Value, Number, Null, At, Object, Cell, Static, Text, zero_of}
use Rattle.c_source.specs.Blocks.{cells_of}
use Rattle.c_source.specs.Control.{Item, body_of}
use Rattle.c_source.specs.Begin.{world_at_first, begin}
use Rattle.c_typing.specs.Plain.{plain, same, Int as an_int}
use Rattle.c_typing.specs.Starts.{Starts, AreStarts, IsObject}
use Rattle.c_typing.specs.Programs.{numbers, is_called_main, is_main, has_main}
use Rattle.c_sound.specs.Shapes.{Fits}
use Rattle.c_sound.proofs.World.{CellFits, ObjectFits, WorldFits, each_append}
use Rattle.c_sound.proofs.Operators.{addr}
use Rattle.c_sound.proofs.Ready.{Ready, HasFunction, Good}
use Rattle.c_sound.proofs.Steps.{ShapedFunction}

-- ---- static objects and strings

abbrev zero_cell : Leaf → Cell
zero_cell l = record { at = l.at; kind = l.kind; value = zero_of l.kind }

abbrev starting : Program → Kind → Start → Value
starting p Address (start.Number n) = Null
starting p k (start.Number n) = Number n
starting p k (start.Object o i) = At o i
starting p k (start.Str s) = At (length p.objects + s) 0

abbrev starts_of : Program → List Cell → List Start → List Cell
starts_of p [] xs = []
starts_of p (c ∷ cs) [] = []
starts_of p (c ∷ cs) (x ∷ xs) = record c { value = starting p c.kind x } ∷ starts_of p cs xs

start_fits : (p : Program) (k : Kind) (x : Start) → Starts p k x → Fits k (starting p k x)
start_fits p Byte (start.Number n) h = refl
start_fits p Word (start.Number n) h = refl
start_fits p Address (start.Number n) h = refl
start_fits p Address (start.Object o i) h = refl
start_fits p Address (start.Str k) h = refl
start_fits p Byte (start.Object o i) h = absurd h
start_fits p Byte (start.Str k) h = absurd h
start_fits p Word (start.Object o i) h = absurd h
start_fits p Word (start.Str k) h = absurd h

starts_fit : (p : Program) (ls : List Leaf) (xs : List Start) → AreStarts p ls xs → AllByRecursion CellFits (starts_of p (map zero_cell ls) xs)
starts_fit p [] xs h = tt
starts_fit p (l ∷ ls) [] h = tt
starts_fit p (l ∷ ls) (x ∷ xs) h = (start_fits p l.kind x h.0, starts_fit p ls xs h.1)

abbrev static_object : Program → ℕ → ObjectRow → Object
static_object p o row = record { origin = Static o; live = true; size = size_of p.defs row.ctype; cells = starts_of p (cells_of p.defs row.ctype) row.start }

abbrev static_objects : Program → ℕ → List ObjectRow → List Object
static_objects p o [] = []
static_objects p o (row ∷ rows) = static_object p o row ∷ static_objects p (suc o) rows

statics_fit : (p : Program) (o : ℕ) (rows : List ObjectRow) → AllByRecursion (IsObject p) rows → AllByRecursion ObjectFits (static_objects p o rows)
statics_fit p o [] h = tt
statics_fit p o (row ∷ rows) h = (starts_fit p (leaves_of p.defs row.ctype) row.start h.0.1, statics_fit p (suc o) rows h.1)

abbrev characters : ℕ → List ℕ → List Cell
characters i [] = record { at = i; kind = Byte; value = Number 0 } ∷ []
characters i (c ∷ cs) = record { at = i; kind = Byte; value = Number (low_byte c) } ∷ characters (suc i) cs

characters_fit : (i : ℕ) (cs : List ℕ) → AllByRecursion CellFits (characters i cs)
characters_fit i [] = (refl, tt)
characters_fit i (c ∷ cs) = (refl, characters_fit (suc i) cs)

abbrev string_objects : ℕ → List (List ℕ) → List Object
string_objects k [] = []
string_objects k (s ∷ ss) = record { origin = Text k; live = true; size = suc (length s); cells = characters 0 s } ∷ string_objects (suc k) ss

strings_fit : (k : ℕ) (ss : List (List ℕ)) → AllByRecursion ObjectFits (string_objects k ss)
strings_fit k [] = tt
strings_fit k (s ∷ ss) = (characters_fit 0 s, strings_fit (suc k) ss)

world_fits : (p : Program) (input : List ℕ) → AllByRecursion (IsObject p) p.objects → WorldFits (world_at_first p input)
world_fits p input h = each_append ObjectFits (static_objects p 0 p.objects) (string_objects 0 p.strings) (statics_fit p 0 p.objects h) (strings_fit 0 p.strings)

-- ---- `main`

abbrev pub main_from : ℕ → List Function → ℕ
main_from n [] = n
main_from n (f ∷ fs) = if is_main f then n else main_from (suc n) fs

abbrev IsMain : List Function → ℕ → ℕ → Type 0
IsMain fs n found = (k : ℕ) × (fn : Function) × (found ≡ k + n) × (slice_get fs k ≡ Some fn) × (is_main fn ≡ true)

main_by : (b : Bool) (f : Function) (fs : List Function) (n : ℕ) (rest : Bool) (found : ℕ) → b ≡ is_main f → (rest ≡ true → IsMain fs (suc n) found) → b || rest ≡ true → IsMain (f ∷ fs) n (if b then n else found)
main_by true f fs n rest found m ih h = let e : n ≡ 0 + n = omega arith in (0, f, e, refl, sym m)
main_by false f fs n rest found m ih h =
    let q = ih h in
    let e : found ≡ suc q.0 + n = omega (arith, q.2) in
    (suc q.0, q.1, e, q.3, q.4)

main_there : (fs : List Function) (n : ℕ) → has_main fs ≡ true → IsMain fs n (main_from n fs)
main_there [] n h = absurd (true≢false (sym h))
main_there (f ∷ fs) n h = main_by (is_main f) f fs n (has_main fs) (main_from (suc n) fs) refl (main_there fs (suc n)) h

int_shape : (t : CType) → same (plain t) an_int ≡ true → addr t ≡ false
int_shape Char h = refl
int_shape Int h = refl
int_shape Unsigned h = refl
int_shape Void h = refl
int_shape (Pointer' b t) h = absurd (true≢false (sym h))
int_shape (Array' b t n) h = absurd (true≢false (sym h))
int_shape (Struct s) h = refl

pub and_parts : (a b : Bool) → a && b ≡ true → (a ≡ true) × (b ≡ true)
and_parts true b h = (refl, h)
and_parts false b h = absurd (true≢false (sym h))

no_params : (n : ℕ) → (n == 0) ≡ true → n ≡ 0
no_params n h = grind arith

abbrev pub control_in : Program → ℕ → Option Function → List Item
control_in p n None = []
control_in p n (Some f) = body_of p n f

control_ready : (p : Program) (n : ℕ) (o : Option Function) (fn : Function) → o ≡ Some fn → fn.params ≡ 0 → ShapedFunction p n o → Ready p n (control_in p n o) [] []
control_ready p n None fn e z s = absurd (subst (λ q. elim q as (λ _. Type 0) [ None ↦ Unit {0} | Some x ↦ ⊥ ]) e tt)
control_ready p n (Some g) fn e z s = subst (λ k. Ready p n (body_of p n g) (numbers 0 k) []) (ap (λ q. elim q as (λ _. ℕ) [ None ↦ 0 | Some x ↦ x.params ]) e ∙ z) s

abbrev result_in : Option Function → CType
result_in None = Void
result_in (Some f) = f.result

-- `main` is `int(void)`
abbrev pub IsIntVoid : Function → Type 0
IsIntVoid fn = not (is_called_main fn) || (same (plain fn.result) an_int && (fn.params == 0)) ≡ true

not_or : (a b : Bool) → a ≡ true → not a || b ≡ true → b ≡ true
not_or true b e h = h
not_or false b e h = absurd (true≢false (sym e))

-- the function that begins
pub main_of : (p : Program) → has_main p.functions ≡ true → ((g : ℕ) (fn : Function) → slice_get p.functions g ≡ Some fn → IsIntVoid fn)
    → (fn : Function) × (slice_get p.functions (main_from 0 p.functions) ≡ Some fn) × (fn.params ≡ 0) × (addr fn.result ≡ false)
main_of p main as_main =
    let m = main_there p.functions 0 main in
    let n = main_from 0 p.functions in
    let e : n ≡ m.0 = omega (arith, m.2) in
    let fn = m.1 in
    let at : slice_get p.functions n ≡ Some fn = ap (slice_get p.functions) e ∙ m.3 in
    let called = (and_parts (not fn.is_static) (is_called_main fn) m.4).1 in
    let q = and_parts (same (plain fn.result) an_int) (fn.params == 0) (not_or (is_called_main fn) (same (plain fn.result) an_int && (fn.params == 0)) called (as_main n fn at)) in
    (fn, at, no_params fn.params q.1, int_shape fn.result q.0)

pub begins_good : (p : Program) (input : List ℕ) → ((g : ℕ) → ShapedFunction p g (slice_get p.functions g)) → AllByRecursion (IsObject p) p.objects → has_main p.functions ≡ true
    → ((g : ℕ) (fn : Function) → slice_get p.functions g ≡ Some fn → IsIntVoid fn) → Good p (begin p input)
begins_good p input bodies objects main as_main =
    let n = main_from 0 p.functions in
    let m = main_of p main as_main in
    record {
      world = world_fits p input objects;
      inner = subst (HasFunction p) (sym m.1) tt;
      control = control_ready p n (slice_get p.functions n) m.0 m.1 m.2 (bodies n);
      outer = ap (λ o. addr (result_in o)) m.1 ∙ m.3;
    }
