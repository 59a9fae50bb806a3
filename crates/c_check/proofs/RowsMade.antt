-- The rows that the code makes are those of the program.
use Rattle.std.proofs.Common.{◌≡◌, ◌<◌, ℕ, zero, suc, ◌+◌, true, false, ◌&&◌, ◌==◌, if◌then◌else◌, List, [], ◌∷◌, map, length, ◌∙◌, sym, refl, ap, Option, Some, None, bytes_eq, slice_get, option_and_then, option_map, arith}
use Rattle.c_tree.specs.declared.types.CType.{CType}
use Rattle.c_tree.specs.declared.rows.ObjectRow.{ObjectRow}
use Rattle.c_tree.specs.declared.rows.SymbolRow.{SymbolRow}
use Rattle.c_tree.specs.declared.rows.UnitRow.{UnitRow}
use Rattle.c_tree.specs.declared.rows.Function.{Function as FunctionRow}
use Rattle.c_tree.specs.declared.rows.Start.TheVariants as start
use Rattle.c_tree.specs.declared.rows.Referent.{Referent}
use Rattle.c_tree.specs.declared.rows.Referent.TheVariants as refers
use Rattle.c_typing.specs.Plain.{Plain, plain}
use Rattle.c_typing.specs.Expressions.{Object, Function}
use Rattle.c_judge.specs.Judges.{denoted}
use Rattle.c_judge.specs.declared.symbol.Symbol.{Symbol}
use Rattle.c_scope.specs.declared.link.Link.{Link}
use Rattle.c_linkage.specs.declared.definitions.Definition.{Definition}
use Rattle.c_rows.specs.declared.places.Places.{Places}
use Rattle.c_rows.specs.declared.starts.Starts.{Starts as Kept}
use Rattle.c_scope.specs.Environment.{Row}
use Rattle.c_scope.specs.Table.{row, rows}
use Rattle.c_linkage.specs.FileNumbers.{number_at}
use Rattle.c_linkage.specs.Names.{Defining, defining}
use Rattle.c_initial.specs.Begins.{Begin, Bits, Within, Text, zeros}
use Rattle.c_file.specs.Files.{State, Bodied}
use Rattle.c_linkage.specs.Wanted.{Started}
use Rattle.c_linkage.specs.declared.state.Started.{Started as StartedRow}
use Rattle.c_linkage.specs.Wanted as standing
use Rattle.c_rows.specs.Placed.{start_by, refers_by, local_or, referent_by, function_or_none}
use Rattle.c_check.specs.Placing.{ArePlaces}
use Rattle.c_rows.specs.Objects.{start_number, started_at, begins_or, starts_by, object_said, said_by, said_all}
use Rattle.c_check.specs.Placing.{AreStarts}
use Rattle.c_rows.specs.Symbols as symbols
use Rattle.c_rows.specs.Symbols.{symbol_said, symbol_by, symbols_by}
use Rattle.c_rows.specs.Units.{file_of, files_functions, functions_by}
use Rattle.c_judge.specs.Scope.{or_else_number}
use Rattle.c_file.specs.Made as made
use Rattle.c_file.specs.Made.{Each, objects, object_type, object_number, function_number, started, begins_in, IsObjectOf, IsFunctionOf, IsSymbolOf, referent_of, referent, type_of_name, functions_of, AreUnits}

-- ---- lists

abbrev head_or : {A : Type 0} → A → List A → A
head_or a [] = a
head_or a (x ∷ xs) = x

abbrev tail_of : {A : Type 0} → List A → List A
tail_of [] = []
tail_of (x ∷ xs) = xs

-- what the items of two lists say alike
each_said : {A B C : Type 0} → (P : A → B → Type 0) (f : A → C) (g : B → C) → ((a : A) (b : B) → g b ≡ f a → P a b) → (xs : List A) (ys : List B) → map g ys ≡ map f xs → Each P xs ys
each_said P f g k [] [] e = tt
each_said P f g k [] (y ∷ ys) e = absurd (let h : g y ∷ map g ys ≡ [] = e in cc)
each_said P f g k (x ∷ xs) [] e = absurd (let h : [] ≡ f x ∷ map f xs = e in cc)
each_said P f g k (x ∷ xs) (y ∷ ys) e = (k x y (ap (head_or (g y)) e), each_said P f g k xs ys (ap tail_of e))

-- ---- what objects hold at first

zero_same : (q : State) (o : Option ℕ) → or_else_number 0 o ≡ made.or_zero q o
zero_same q None = refl
zero_same q (Some n) = refl

none_same : (q : State) (o : Option ℕ) → function_or_none o ≡ made.function_or_none q o
none_same q None = refl
none_same q (Some n) = refl

start_same : (p : Places) (q : State) → ArePlaces p q → (u : ℕ) (b : Begin) → start_by p u b ≡ started q u b
start_same p q h u (Bits n) = refl
start_same p q h u (Within name n) = ap (λ o. start.Object (or_else_number 0 o) n) (h.objects u name) ∙ ap (λ k. start.Object k n) (zero_same q (object_number q u name))
start_same p q h u (Text k) = refl

shifted : (n : ℕ) (ss : List Started) (u : ℕ) (t : List ℕ) → start_number (suc n) ss u t ≡ option_map suc (start_number n ss u t)
shifted n [] u t = refl
shifted n (s ∷ ss) u t = elim ((s.unit == u) && bytes_eq s.name t) as (λ b. (if b then Some (suc n) else start_number (suc (suc n)) ss u t) ≡ option_map suc (if b then Some n else start_number (suc n) ss u t)) [ true ↦ refl | false ↦ shifted (suc n) ss u t ]

behind_one : (s : Started) (ss : List Started) (o : Option ℕ) → option_and_then (slice_get (s ∷ ss)) (option_map suc o) ≡ option_and_then (slice_get ss) o
behind_one s ss None = refl
behind_one s ss (Some n) = refl

found_begins : (q : State) (d : Defining) (ss : List Started)
    → begins_in q ss d ≡ begins_or (zeros q.others (object_type q d)) (option_and_then (slice_get ss) (start_number 0 ss d.unit d.name))
found_begins q d [] = refl
found_begins q d (s ∷ ss) =
    elim ((s.unit == d.unit) && bytes_eq s.name d.name) as (λ b. (if b then s.begins else begins_in q ss d)
    ≡ begins_or (zeros q.others (object_type q d)) (option_and_then (slice_get (s ∷ ss)) (if b then Some 0 else start_number 1 ss d.unit d.name))) [
      | true ↦ refl
      | false ↦ found_begins q d ss ∙ ap (begins_or (zeros q.others (object_type q d))) (sym (ap (option_and_then (slice_get (s ∷ ss))) (shifted 0 ss d.unit d.name) ∙ behind_one s ss (start_number 0 ss d.unit d.name)))
    ]

get_started : (ss : List StartedRow) (n : ℕ) → option_map standing.started (slice_get ss n) ≡ slice_get (map standing.started ss) n
get_started [] n = refl
get_started (s ∷ ss) zero = refl
get_started (s ∷ ss) (suc n) = get_started ss n

at_started : (ss : List StartedRow) (o : Option ℕ) → started_at ss o ≡ option_and_then (slice_get (map standing.started ss)) o
at_started ss None = refl
at_started ss (Some n) = get_started ss n

held_same : (p : Places) (k : Kept) (q : State) → ArePlaces p q → AreStarts k q → (d : Defining) → starts_by p k d (object_type q d) ≡ map (started q d.unit) (begins_in q q.starts d)
held_same p k q h s d =
    ap (λ o. map (start_by p d.unit) (begins_or (zeros k.defs.now (object_type q d)) o)) (at_started k.of.now (number_at k.numbers d.unit d.name)) ∙
    ((λ i. map (λ b. start_same p q h d.unit b i) (begins_or (zeros (s.defs i) (object_type q d)) (option_and_then (slice_get (s.of i)) ((s.numbers d.unit d.name ∙ ap (λ l. start_number 0 l d.unit d.name) s.of) i)))) ∙
    ap (map (started q d.unit)) (sym (found_begins q d q.starts)))

said_types : (p : Places) (k : Kept) (f : Defining → Plain) (ds : List Defining) → said_all p k ds (map f ds) ≡ map (λ d. said_by p k d (f d)) ds
said_types p k f [] = refl
said_types p k f (d ∷ ds) = ap (λ l. said_by p k d (f d) ∷ l) (said_types p k f ds)

pub objects_made : (p : Places) (k : Kept) (q : State) (ds : List Definition) (ts : List CType) (os : List ObjectRow) → ArePlaces p q → AreStarts k q
    → map defining ds ≡ objects q → map plain ts ≡ map (object_type q) (map defining ds)
    → map object_said os ≡ said_all p k (map defining ds) (map plain ts) → Each (IsObjectOf q) (objects q) os
objects_made p k q ds ts os h s e t m =
    each_said (IsObjectOf q) (λ d. said_by p k d (object_type q d)) object_said
    (λ d o x. (ap (λ y. y.0) x, ap (λ y. y.1) x, ap (λ y. y.2) x, ap (λ y. y.3) x, ap (λ y. y.4) x ∙ held_same p k q h s d)) (objects q) os
    (m ∙ (ap (said_all p k (map defining ds)) t ∙ (said_types p k (object_type q) (map defining ds) ∙ ap (map (λ d. said_by p k d (object_type q d))) e)))

-- ---- names

abbrev symbol_of : State → Row → symbols.Said
symbol_of q r = (r.name, type_of_name q r.denoted, referent q r, r.up)

type_same : (q : State) (s : Symbol) (ps : List CType) → type_of_name q (denoted s ps) ≡ plain s.ctype
type_same q s ps = elim s.function as (λ b. type_of_name q (if b then Function (plain s.ctype) (map plain ps) else Object (plain s.ctype) s.register) ≡ plain s.ctype) [ true ↦ refl | false ↦ refl ]

refers_same : (p : Places) (q : State) → ArePlaces p q → (s : Symbol) (ps : List CType) (u : ℕ) → refers_by p s.function u s.name ≡ referent_of q (denoted s ps) u s.name
refers_same p q h s ps u =
    elim s.function as (λ b. refers_by p b u s.name ≡ referent_of q (if b then Function (plain s.ctype) (map plain ps) else Object (plain s.ctype) s.register) u s.name) [
      | true ↦ ap function_or_none (h.functions u s.name) ∙ none_same q (function_number q u s.name)
      | false ↦ ap (λ o. refers.Object (or_else_number 0 o)) (h.objects u s.name) ∙ ap refers.Object (zero_same q (object_number q u s.name))
    ]

referent_same : (p : Places) (q : State) → ArePlaces p q → (s : Symbol) (ps : List CType) (l : Link) → referent_by p s l ≡ referent q (row s ps l)
referent_same p q h s ps l =
    elim l.local as (λ o. local_or o (refers_by p s.function l.unit s.name) ≡ elim o as (λ _. Referent) [ Some x ↦ refers.Local x | None ↦ referent_of q (denoted s ps) l.unit s.name ]) [
      | Some x ↦ refl
      | None ↦ refers_same p q h s ps l.unit
    ]

symbol_same : (p : Places) (q : State) → ArePlaces p q → (s : Symbol) (ps : List CType) (l : Link) → symbol_by p s l ≡ symbol_of q (row s ps l)
symbol_same p q h s ps l = λ i. (s.name, sym (type_same q s ps) i, referent_same p q h s ps l i, l.up)

symbols_same : (p : Places) (q : State) → ArePlaces p q → (ss : List Symbol) (ps : List (List CType)) (ls : List Link) → length ps ≡ length ss → length ls ≡ length ss
    → symbols_by p ss ls ≡ map (symbol_of q) (rows ss ps ls)
symbols_same p q h [] ps ls m n = refl
symbols_same p q h (s ∷ ss) [] ls m n = absurd (omega (arith, m))
symbols_same p q h (s ∷ ss) (x ∷ ps) [] m n = absurd (omega (arith, n))
symbols_same p q h (s ∷ ss) (x ∷ ps) (l ∷ ls) m n = λ i. symbol_same p q h s x l i ∷ symbols_same p q h ss ps ls (omega (arith, m)) (omega (arith, n)) i

pub symbols_made : (p : Places) (q : State) (ss : List Symbol) (ps : List (List CType)) (ls : List Link) (os : List SymbolRow) → ArePlaces p q → length ps ≡ length ss → length ls ≡ length ss
    → rows ss ps ls ≡ q.here.names → map symbol_said os ≡ symbols_by p ss ls → Each (IsSymbolOf q) q.here.names os
symbols_made p q ss ps ls os h m n e t =
    each_said (IsSymbolOf q) (symbol_of q) symbol_said (λ r o x. (ap (λ y. y.0) x, ap (λ y. y.1) x, ap (λ y. y.2) x, ap (λ y. y.3) x)) q.here.names os
    (t ∙ (symbols_same p q h ss ps ls m n ∙ ap (map (symbol_of q)) e))

-- ---- files

functions_same : (q : State) (u n : ℕ) (bs : List Bodied) (fs : List FunctionRow) → Each (IsFunctionOf q) bs fs → functions_by u n fs ≡ functions_of q u n bs
functions_same q u n [] [] h = refl
functions_same q u n (b ∷ bs) (f ∷ fs) h = λ i. if h.0.1 i == u then n ∷ functions_same q u (suc n) bs fs h.1 i else functions_same q u (suc n) bs fs h.1 i
functions_same q u n _ _ h = absurd h

units_alike : (q : State) (u : ℕ) (ns : List (List ℕ)) (rs : List UnitRow) → map file_of rs ≡ ns
    → ((k : ℕ) → k < length ns → files_functions rs k ≡ functions_of q (u + k) 0 q.bodies) → AreUnits q u ns rs
units_alike q u [] [] e h = tt
units_alike q u [] (r ∷ rs) e h = absurd (let x : file_of r ∷ map file_of rs ≡ [] = e in cc)
units_alike q u (n ∷ ns) [] e h = absurd (let x : [] ≡ n ∷ ns = e in cc)
units_alike q u (n ∷ ns) (r ∷ rs) e h = (
  ap (head_or n) e,
  h 0 (omega arith) ∙ ap (λ v. functions_of q v 0 q.bodies) (let x : u + 0 ≡ u = omega arith in x),
  units_alike q (suc u) ns rs (ap tail_of e) (λ k lt. h (suc k) (omega arith) ∙ ap (λ v. functions_of q v 0 q.bodies) (let x : u + suc k ≡ suc u + k = omega arith in x)),
)

pub units_made : (q : State) (ns : List (List ℕ)) (rs : List UnitRow) (fs : List FunctionRow) → Each (IsFunctionOf q) q.bodies fs → map file_of rs ≡ ns
    → ((k : ℕ) → k < length ns → files_functions rs k ≡ functions_by k 0 fs) → AreUnits q 0 ns rs
units_made q ns rs fs b e h = units_alike q 0 ns rs e (λ k lt. h k lt ∙ (functions_same q k 0 q.bodies fs b ∙ ap (λ v. functions_of q v 0 q.bodies) (let x : k ≡ 0 + k = omega arith in x)))
