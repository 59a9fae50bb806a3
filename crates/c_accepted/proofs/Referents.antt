-- What each name of a program stands for has the type of the name, and what is called is a function of the program.
use Rattle.std.proofs.Common.{◌≡◌, refl, sym, ap, ◌∙◌, subst, arith, ℕ, zero, suc, ◌+◌, Bool, true, false, ◌&&◌, ◌||◌, ◌==◌, true≢false, List, [], ◌∷◌, ◌++◌, length, map, Option, Some, None, bytes_eq, if◌then◌else◌}
use Rattle.std.specs.Prelude.{slice_get, option_map}
use Rattle.std.specs.List.{AllByRecursion}
use Rattle.std.proofs.lemmas.Bool.{eqb-true}
use Rattle.std.proofs.lemmas.Slice.Eq.{bytes_eq-Decides}
use Rattle.std.proofs.lemmas.Option.{slice_get-map}
use Rattle.c_tree.specs.declared.rows.Program.{Program}
use Rattle.c_tree.specs.declared.rows.Function.{Function as FunctionRow}
use Rattle.c_tree.specs.declared.rows.ObjectRow.{ObjectRow}
use Rattle.c_tree.specs.declared.rows.SymbolRow.{SymbolRow}
use Rattle.c_tree.specs.declared.rows.Referent.{Referent}
use Rattle.c_tree.specs.declared.rows.Referent.TheVariants as refers
use Rattle.c_tree.specs.declared.types.StructDef.{StructDef}
use Rattle.c_typing.specs.Plain.{Plain, Char, Int, Unsigned, Void, Pointer, Array, Struct, plain, same}
use Rattle.c_typing.specs.Declarations.{built_in, is_result, parameters, function_in, denoted, denoted_by}
use Rattle.c_typing.specs.Expressions.{Denoted, Object, Function, Hidden}
use Rattle.c_typing.specs.Programs.{AllFrom, IsReferent, agrees}
use Rattle.c_scope.specs.Environment.{Row}
use Rattle.c_scope.specs.Declarators.{parameter_type}
use Rattle.c_linkage.specs.Names.{FileName, Defining, composite, is_here, is_same, is_built_in, one_type, told_before, defines, is_defined}
use Rattle.c_linkage.specs.FileNames.{AreConsistent}
use Rattle.c_file.specs.Files.{State, Bodied}
use Rattle.c_linkage.specs.Wanted.{Called}
use Rattle.c_file.specs.Programs.{uncalled}
use Rattle.c_linkage.specs.Bounds.{is_static_in}
use Rattle.c_file.specs.Made.{HasRows, IsFunctionOf, IsSymbolOf, object_number, function_number, or_zero, function_or_none, referent_of, type_of_name}
use Rattle.c_linkage.specs.Defined.{is_body, bodies_of, number_from}
use Rattle.c_accepted.proofs.Declarations.{IsDeclaredBy, IsBodyFor, AreDeclared, IsWholeIn}
use Rattle.c_accepted.proofs.Sought.{AreSought}
use Rattle.c_accepted.proofs.Asked.{CallsAreThere}
use Rattle.c_accepted.proofs.Growth.{both_parts}
use Rattle.c_accepted.proofs.Scopes.{some_same}
use Rattle.c_accepted.proofs.Types.{IsDenotedIn}
use Rattle.c_accepted.proofs.Scoping.{IsRowIn}
use Rattle.c_accepted.proofs.Differing.{all_at, is_function, body_is, same_kind}
use Rattle.c_accepted.proofs.Composite.{IsTold, IsToldOf, composite_told, same_self, is_same_turned, one_agrees}
use Rattle.c_accepted.proofs.Wanted.{static_as}
use Rattle.c_accepted.proofs.Found.{found_first, numbered_first, same_kind_of, said, same_entity}
use Rattle.c_accepted.proofs.ObjectsFound.{HasRow, has_row, each_at}
use Rattle.c_accepted.proofs.Symbols.{IsReferentOf}
use Rattle.c_accepted.proofs.Bodied.{parameter_types}
use Rattle.c_accepted.proofs.Entries.{Entry}
use Rattle.c_accepted.proofs.Denotes.{IsMeant, IsTelling, IsRowOf, IsOuterRow, IsBodyTold, AreTold, agree_same, built_function, told_function}

-- ---- lists

all_of : {A : Type 0} (P : A → Type 0) (xs : List A) → ((n : ℕ) (x : A) → slice_get xs n ≡ Some x → P x) → AllByRecursion P xs
all_of P [] h = tt
all_of P (x ∷ xs) h = (h 0 x refl, all_of P xs (λ n y e. h (suc n) y e))

behind_all : {A : Type 0} (P : A → Type 0) (xs ys : List A) → AllByRecursion P (xs ++ ys) → AllByRecursion P ys
behind_all P [] ys h = h
behind_all P (x ∷ xs) ys h = behind_all P xs ys h.1

pub there_in : {A : Type 0} (xs : List A) (y : A) (ys : List A) → slice_get (xs ++ y ∷ ys) (length xs) ≡ Some y
there_in [] y ys = refl
there_in (x ∷ xs) y ys = there_in xs y ys

-- ---- functions that are declared

same_function : (fs : List FileName) (m n : ℕ) (f g : FileName) → AreConsistent fs → slice_get fs n ≡ Some f → slice_get fs m ≡ Some g → is_same f g ≡ true → is_function f.denoted ≡ true → is_function g.denoted ≡ true → f.denoted ≡ g.denoted
same_function [] m n f g c d e s i j = absurd (let q : None ≡ Some f = d in cc)
same_function (x ∷ fs) zero zero f g c d e s i j =
    let p : Some x ≡ Some f = d in
    let q : Some x ≡ Some g = e in
    let k : f ≡ g = cc in
    ap (λ (y : FileName). y.denoted) k
same_function (x ∷ fs) (suc m) zero f g c d e s i j =
    let p : Some x ≡ Some f = d in
    let k : x ≡ f = cc in
    agree_same f.denoted g.denoted j (one_agrees f fs m g (subst (λ y. one_type y fs ≡ true) k c.1) e s)
same_function (x ∷ fs) zero (suc n) f g c d e s i j =
    let q : Some x ≡ Some g = e in
    let k : x ≡ g = cc in
    sym (agree_same g.denoted f.denoted i (one_agrees g fs n f (subst (λ y. one_type y fs ≡ true) k c.1) d (is_same_turned f g s)))
same_function (x ∷ fs) (suc m) (suc n) f g c d e s i j = same_function fs m n f g c.2 d e s i j

-- ---- numbers of definitions

record IsAt (ds : List Defining) (u : ℕ) (s : Bool) (name : List ℕ) (n k : ℕ) : Type 0 where
  place : ℕ
  definition : Defining
  number : k ≡ n + place
  there : slice_get ds place ≡ Some definition
  defining : defines u s name definition ≡ true

number_at : (n : ℕ) (ds : List Defining) (u : ℕ) (s : Bool) (name : List ℕ) (k : ℕ) → number_from n ds u s name ≡ Some k → IsAt ds u s name n k
number_at n [] u s name k h = absurd (let x : None ≡ Some k = h in cc)
number_at n (d ∷ ds) u s name k h = by (defines u s name d) refl h (λ e. number_at (suc n) ds u s name k e)
  where
    by : (b : Bool) → defines u s name d ≡ b → (if b then Some n else number_from (suc n) ds u s name) ≡ Some k → (number_from (suc n) ds u s name ≡ Some k → IsAt ds u s name (suc n) k) → IsAt (d ∷ ds) u s name n k
    by true e f w = record { place = 0; definition = d; number = (let g = some_same n k f in let z : n ≡ n + 0 = omega arith in sym g ∙ z); there = refl; defining = e }
    by false e f w = let r = w f in record { place = suc r.place; definition = r.definition; number = (let g = r.number in omega (arith, g)); there = r.there; defining = r.defining }

-- a definition with a body is one of those
body_place : (ds : List Defining) (k : ℕ) (d : Defining) → slice_get ds k ≡ Some d → is_body d.manner ≡ true → (j : ℕ) × (slice_get (bodies_of ds) j ≡ Some d)
body_place [] k d e h = absurd (let x : None ≡ Some d = e in cc)
body_place (x ∷ ds) zero d e h =
    let i : x ≡ d = some_same x d e in
    (0, ap (λ b. slice_get (if b then x ∷ bodies_of ds else bodies_of ds) 0) (ap (λ (y : Defining). is_body y.manner) i ∙ h) ∙ e)
body_place (x ∷ ds) (suc k) d e h = by (is_body x.manner) (body_place ds k d e h)
  where
    by : (b : Bool) → (j : ℕ) × (slice_get (bodies_of ds) j ≡ Some d) → (j : ℕ) × (slice_get (if b then x ∷ bodies_of ds else bodies_of ds) j ≡ Some d)
    by true (j, f) = (suc j, f)
    by false r = r

-- ---- types of objects

told_as : (t : Plain) (gs : List FileName) (f : FileName) → IsToldOf f.denoted t → AllByRecursion (λ (g : FileName). is_here f.unit f.name g ≡ true → IsToldOf g.denoted t) gs → IsToldOf (told_before gs f) t
told_as t [] f h w = h
told_as t (g ∷ gs) f h w = by (is_here f.unit f.name g) refl (told_as t gs f h w.1)
  where
    by : (b : Bool) → is_here f.unit f.name g ≡ b → IsToldOf (told_before gs f) t → IsToldOf (if b then composite (told_before gs f) g.denoted else told_before gs f) t
    by true e k = composite_told (told_before gs f) g.denoted t k (w.0 e)
    by false e k = k

same_if : (s t : Plain) → s ≡ t → same s t ≡ true
same_if s t h = ap (same s) (sym h) ∙ same_self s

told_agree : (p : Program) (s t : Plain) → IsTold s t → agrees p s t ≡ true
told_agree p (Array s zero) (Array t n) h = same_if s t h
told_agree p (Array s zero) Char h = same_if (Array s zero) Char h
told_agree p (Array s zero) Int h = same_if (Array s zero) Int h
told_agree p (Array s zero) Unsigned h = same_if (Array s zero) Unsigned h
told_agree p (Array s zero) Void h = same_if (Array s zero) Void h
told_agree p (Array s zero) (Pointer t) h = same_if (Array s zero) (Pointer t) h
told_agree p (Array s zero) (Struct n) h = same_if (Array s zero) (Struct n) h
told_agree p (Array s (suc m)) t h = same_if (Array s (suc m)) t h
told_agree p Char t h = same_if Char t h
told_agree p Int t h = same_if Int t h
told_agree p Unsigned t h = same_if Unsigned t h
told_agree p Void t h = same_if Void t h
told_agree p (Pointer s) t h = same_if (Pointer s) t h
told_agree p (Struct n) t h = same_if (Struct n) t h

-- ---- names at the end of the program

is_object_if : (d : Denoted) → IsMeant d → is_function d ≡ false → (t : Plain) × (r : Bool) × (d ≡ Object t r)
is_object_if (Object t r) m h = (t, r, refl)
is_object_if (Function t ps) m h = absurd (true≢false h)
is_object_if Hidden m h = absurd m

is_function_if : (d : Denoted) → is_function d ≡ true → (t : Plain) × (ps : List Plain) × (d ≡ Function t ps)
is_function_if (Function t ps) h = (t, ps, refl)
is_function_if (Object t r) h = absurd (true≢false (sym h))
is_function_if Hidden h = absurd (true≢false (sym h))

abbrev IsOfObjectAs : Program → Plain → Option ObjectRow → Type 0
IsOfObjectAs p t None = ⊥
IsOfObjectAs p t (Some row) = agrees p t (plain row.ctype) ≡ true

abbrev IsOfFunctionAs : Plain → Option FunctionRow → Type 0
IsOfFunctionAs t None = ⊥
IsOfFunctionAs t (Some fn) = t ≡ plain fn.result

abbrev IsUndefinedAs : Plain → Denoted → Type 0
IsUndefinedAs t (Function r ts) = t ≡ r
IsUndefinedAs t _ = is_result t ≡ true

composite_kind : (d e : Denoted) → is_function d ≡ false → is_function (composite d e) ≡ false
composite_kind (Object t r) (Object s q) h = refl
composite_kind (Object t r) (Function s ps) h = refl
composite_kind (Object t r) Hidden h = refl
composite_kind Hidden e h = refl
composite_kind (Function t ps) e h = absurd (true≢false h)

told_no_function : (gs : List FileName) (f : FileName) → is_function f.denoted ≡ false → is_function (told_before gs f) ≡ false
told_no_function [] f h = h
told_no_function (g ∷ gs) f h = by (is_here f.unit f.name g) (told_no_function gs f h)
  where
    by : (b : Bool) → is_function (told_before gs f) ≡ false → is_function (if b then composite (told_before gs f) g.denoted else told_before gs f) ≡ false
    by true k = composite_kind (told_before gs f) g.denoted k
    by false k = k

-- a name of a function is declared as one
declared_function : (fs : List FileName) (r : Row) (z : IsTelling fs r) → is_function r.denoted ≡ true → is_function z.declaration.denoted ≡ true
declared_function fs r z i = by (is_function z.declaration.denoted) refl
  where
    by : (b : Bool) → is_function z.declaration.denoted ≡ b → is_function z.declaration.denoted ≡ true
    by true e = e
    by false e = absurd (true≢false (sym i ∙ ap is_function z.denoted ∙ told_no_function z.before z.declaration e))

declared_at : (fs : List FileName) (r : Row) (z : IsTelling fs r) → slice_get fs (length z.front) ≡ Some z.declaration
declared_at fs r z = ap (λ xs. slice_get xs (length z.front)) z.split ∙ there_in z.front z.declaration z.before

-- what has to be defined is
passes_at : (q : State) (cs : List Called) (i : ℕ) (c : Called) → uncalled q cs ≡ None → slice_get cs i ≡ Some c → (is_built_in c.name || is_defined q.definitions c.unit (is_static_in q.names c.unit c.name) c.name) ≡ true
passes_at q [] i c h e = absurd (let x : None ≡ Some c = e in cc)
passes_at q (x ∷ cs) i c h e = by (x.declared && (is_built_in x.name || is_defined q.definitions x.unit (is_static_in q.names x.unit x.name) x.name)) refl h i e (λ j k f. passes_at q cs j c k f)
  where
    by : (b : Bool) → (x.declared && (is_built_in x.name || is_defined q.definitions x.unit (is_static_in q.names x.unit x.name) x.name)) ≡ b → (if b then uncalled q cs else Some x.name) ≡ None → (i : ℕ) → slice_get (x ∷ cs) i ≡ Some c
        → ((j : ℕ) → uncalled q cs ≡ None → slice_get cs j ≡ Some c → (is_built_in c.name || is_defined q.definitions c.unit (is_static_in q.names c.unit c.name) c.name) ≡ true)
        → (is_built_in c.name || is_defined q.definitions c.unit (is_static_in q.names c.unit c.name) c.name) ≡ true
    by false f k i e w = absurd (let y : Some x.name ≡ None = k in cc)
    by true f k zero e w =
        subst (λ (y : Called). (is_built_in y.name || is_defined q.definitions y.unit (is_static_in q.names y.unit y.name) y.name) ≡ true) (some_same x c e)
        (both_parts x.declared (is_built_in x.name || is_defined q.definitions x.unit (is_static_in q.names x.unit x.name) x.name) f).1
    by true f k (suc i) e w = w i k e

undefined_plain : (d : Denoted) (t : Plain) → (elim d as (λ _. Bool) [ Object t r ↦ true | Function r ps ↦ true | Hidden ↦ false ]) ≡ false → is_result t ≡ true → IsUndefinedAs t d
undefined_plain (Object s r) t h k = absurd (true≢false h)
undefined_plain (Function s ps) t h k = absurd (true≢false h)
undefined_plain Hidden t h k = k

result_of : (defs : List StructDef) (t : Plain) (ps : List Plain) (d : Denoted) → d ≡ Function t ps → IsDenotedIn defs d → is_result t ≡ true
result_of defs t ps d e h = (subst (IsDenotedIn defs) e h).1

module _ (names : List (List ℕ)) (p : Program) (q : State) (rows : HasRows q names p) (declared : AreDeclared q) (sought : AreSought q) (called : uncalled q q.calls ≡ None) (wholes : AllByRecursion (IsWholeIn p.defs q.names) q.definitions)
    (told : AreTold q) (units : ℕ) (entries : (i : ℕ) (b : Bodied) → slice_get q.bodies i ≡ Some b → Entry units q.others q i b) where
  -- ---- functions

  record IsBodyAt (u : ℕ) (s : Bool) (name : List ℕ) (g : ℕ) : Type 0 where
    body : Bodied
    row : FunctionRow
    at : slice_get q.bodies g ≡ Some body
    on : slice_get p.functions g ≡ Some row
    is : IsFunctionOf q body row
    told_by : IsBodyTold q.names body
    same_name : body.name ≡ name
    inside : (s ≡ true) → (body.is_static ≡ true) × (body.unit ≡ u)
    outside : (s ≡ false) → body.is_static ≡ false

  body_at : (u : ℕ) (name : List ℕ) (g : ℕ) → function_number q u name ≡ Some g → IsBodyAt u (is_static_in q.names u name) name g
  body_at u name g h =
      let s = is_static_in q.names u name in
      let k = number_at 0 (bodies_of q.definitions) u s name g h in
      let place : k.place ≡ g = (let e = k.number in omega (arith, e)) in
      let d = k.definition in
      let there : slice_get (bodies_of q.definitions) g ≡ Some d = ap (slice_get (bodies_of q.definitions)) (sym place) ∙ k.there in
      let (b, at, of) = each_at IsBodyFor (bodies_of q.definitions) q.bodies g d declared.bodies there in
      let (fn, on, is) = each_at (IsFunctionOf q) q.bodies p.functions g b rows.functions at in
      let is_def = said u s name d k.defining in
      record {
        body = b;
        row = fn;
        at = at;
        on = on;
        is = is;
        told_by = all_at (IsBodyTold q.names) q.bodies g b told.bodies at;
        same_name = of.0 ∙ is_def.0;
        inside = λ e. (of.2 ∙ (is_def.1 e).0, of.1 ∙ (is_def.1 e).1);
        outside = λ e. of.2 ∙ is_def.2 e;
      }

  -- no built-in has a body
  none_built : (u : ℕ) (name : List ℕ) → is_built_in name ≡ true → function_number q u name ≡ None
  none_built u name h = by (function_number q u name) refl
    where
      by : (o : Option ℕ) → function_number q u name ≡ o → o ≡ None
      by None e = refl
      by (Some g) e = let k = body_at u name g e in absurd (true≢false (sym h ∙ ap is_built_in (sym k.same_name) ∙ k.told_by.own))

  -- a declared function that has a number has a row of its type
  function_there : (n : ℕ) (f : FileName) (t : Plain) (ps : List Plain) → slice_get q.names n ≡ Some f → f.denoted ≡ Function t ps → (g : ℕ) → function_number q f.unit f.name ≡ Some g
      → (fn : FunctionRow) × (slice_get p.functions g ≡ Some fn) × (Function (plain fn.result) (parameters fn) ≡ Function t ps) × (t ≡ plain fn.result)
  function_there n f t ps e d g h =
      let k = body_at f.unit f.name g h in
      let b = k.body in
      let w = k.told_by in
      let static = static_as q.names n f declared.consistent e in
      let same = same_entity q.names declared.consistent q.definitions declared.defined f w.declaration f.is_static refl (w.name ∙ k.same_name) (λ s. w.unit ∙ (k.inside (static ∙ s)).1) (λ s. w.linkage ∙ k.outside (static ∙ s)) in
      let equal : f.denoted ≡ w.declaration.denoted = same_function q.names w.number n f w.declaration declared.consistent e w.there same (ap is_function d) (ap is_function w.denoted) in
      let entry = entries g b k.at in
      let types = parameter_types p q g k.row b entry.outer k.is entry.here entry.none entry.named in
      let row_type : Function (plain k.row.result) (parameters k.row) ≡ Function b.result (map parameter_type b.parameters) = (λ i. Function (k.is.3 i) (types i)) in
      let all : Function (plain k.row.result) (parameters k.row) ≡ Function t ps = row_type ∙ sym w.denoted ∙ sym equal ∙ d in
      (k.row, k.on, all, sym (ap (type_of_name q) all))

  -- ---- referents

  named_function : (r : Row) (t : Plain) (ps : List Plain) → is_result t ≡ true → is_built_in r.name ≡ false → r.denoted ≡ Function t ps → IsTelling q.names r → (o : Option ℕ) → function_number q r.unit r.name ≡ o → IsReferent p t r.name (function_or_none q o)
  named_function r t ps result own d z None e = undefined_plain (built_in r.name) t own result
  named_function r t ps result own d z (Some g) e =
      let f = z.declaration in
      let function = declared_function q.names r z (ap is_function d) in
      let (fn, on, all, same) = function_there (length z.front) f t ps (declared_at q.names r z) (sym (told_function z.before f function) ∙ sym z.denoted ∙ d) g (sym (λ i. function_number q (z.unit i) (z.name i)) ∙ e) in
      subst (IsOfFunctionAs t) (sym on) same

  object_case : (d : Denoted) (u : ℕ) (name : List ℕ) (row : ObjectRow) → IsToldOf d (plain row.ctype) → slice_get p.objects (or_zero q (object_number q u name)) ≡ Some row → IsReferent p (type_of_name q d) name (referent_of q d u name)
  object_case (Object t r) u name row h e = subst (IsOfObjectAs p t) (sym e) (told_agree p t (plain row.ctype) h)
  object_case (Function t ps) u name row h e = absurd h
  object_case Hidden u name row h e = absurd h

  row_of_object : (n : ℕ) (f : FileName) → slice_get q.names n ≡ Some f → is_function f.denoted ≡ false → HasRow p q f
  row_of_object n f e i =
      let (t, r, d) = is_object_if f.denoted (all_at (λ (g : FileName). IsMeant g.denoted) q.names n f told.meant e) i in
      has_row p q declared sought called wholes rows.objects n f t r e d

  named_object : (r : Row) (z : IsTelling q.names r) → is_function z.declaration.denoted ≡ false → IsReferent p (type_of_name q r.denoted) r.name (referent_of q r.denoted r.unit r.name)
  named_object r z i =
      let f = z.declaration in
      let n = length z.front in
      let at = declared_at q.names r z in
      let own = row_of_object n f at i in
      let t = plain own.row.ctype in
      let P : FileName → Type 0 = λ g. is_here f.unit f.name g ≡ true → IsToldOf g.denoted t in
      let all : AllByRecursion P q.names = all_of P q.names (λ m g e h. one f n at i own m g e h) in
      let before = (behind_all P z.front (f ∷ z.before) (subst (AllByRecursion P) z.split all)).1 in
      let there = (λ i. slice_get p.objects (or_zero q (object_number q (z.unit i) (z.name i)))) ∙ own.there in
      object_case r.denoted r.unit r.name own.row (subst (λ d. IsToldOf d t) (sym z.denoted) (told_as t z.before f own.tells before)) there
    where
      one : (f : FileName) (n : ℕ) → slice_get q.names n ≡ Some f → is_function f.denoted ≡ false → (own : HasRow p q f) → (m : ℕ) (g : FileName) → slice_get q.names m ≡ Some g → is_here f.unit f.name g ≡ true → IsToldOf g.denoted (plain own.row.ctype)
      one f n at i own m g e h =
          let k = both_parts (g.unit == f.unit) (bytes_eq g.name f.name) h in
          let unit : g.unit ≡ f.unit = eqb-true g.unit f.unit k.0 in
          let name : g.name ≡ f.name = (bytes_eq-Decides g.name f.name).0 k.1 in
          let other = row_of_object m g e (same_kind q.names m n g f declared.consistent e at unit name ∙ i) in
          let same : other.row ≡ own.row = some_same other.row own.row (sym other.there ∙ (λ i. slice_get p.objects (or_zero q (object_number q (unit i) (name i)))) ∙ own.there) in
          subst (λ (w : ObjectRow). IsToldOf g.denoted (plain w.ctype)) same other.tells

  outer_referent : (r : Row) → IsDenotedIn p.defs r.denoted → IsRowOf q.names r → IsReferent p (type_of_name q r.denoted) r.name (referent_of q r.denoted r.unit r.name)
  outer_referent r h w = by (is_built_in r.name) refl
    where
      with_type : (t : Plain) (ps : List Plain) → r.denoted ≡ Function t ps → IsReferent p t r.name (function_or_none q (function_number q r.unit r.name)) → IsReferent p (type_of_name q r.denoted) r.name (referent_of q r.denoted r.unit r.name)
      with_type t ps d k = subst (λ x. IsReferent p (type_of_name q x) r.name (referent_of q x r.unit r.name)) (sym d) k

      declared_as : (z : IsTelling q.names r) → is_built_in r.name ≡ false → (b : Bool) → is_function z.declaration.denoted ≡ b → IsReferent p (type_of_name q r.denoted) r.name (referent_of q r.denoted r.unit r.name)
      declared_as z own true i =
          let (t, ps, d) = is_function_if z.declaration.denoted i in
          let same : r.denoted ≡ Function t ps = z.denoted ∙ told_function z.before z.declaration i ∙ d in
          with_type t ps same (named_function r t ps (result_of p.defs t ps r.denoted same h) own same z (function_number q r.unit r.name) refl)
      declared_as z own false i = named_object r z i

      by : (b : Bool) → is_built_in r.name ≡ b → IsReferent p (type_of_name q r.denoted) r.name (referent_of q r.denoted r.unit r.name)
      by true e =
          let (t, ps, d) = is_function_if (built_in r.name) (built_function r.name e) in
          with_type t ps (w.0 e ∙ d) (subst (λ o. IsReferent p t r.name (function_or_none q o)) (sym (none_built r.unit r.name e)) (subst (IsUndefinedAs t) (sym d) refl))
      by false e = declared_as (w.1 e) e (is_function (w.1 e).declaration.denoted) refl

  one_referent : (r : Row) → IsDenotedIn p.defs r.denoted → IsOuterRow q.names r → IsReferentOf p q r
  one_referent r h w = by r.local refl
    where
      by : (o : Option ℕ) → r.local ≡ o → IsReferent p (type_of_name q r.denoted) r.name (elim o as (λ _. Referent) [ Some x ↦ refers.Local x | None ↦ referent_of q r.denoted r.unit r.name ])
      by (Some x) e = tt
      by None e = outer_referent r h (w e)

  -- what each name stands for has its type
  pub referents_there : (n : ℕ) (rs : List Row) → AllFrom (IsRowIn p.defs) n rs → AllByRecursion (IsOuterRow q.names) rs → AllByRecursion (IsReferentOf p q) rs
  referents_there n [] h w = tt
  referents_there n (r ∷ rs) h w = (one_referent r h.0.0 w.0, referents_there (suc n) rs h.1 w.1)

  -- ---- calls

  -- a declared function that is defined has a number
  function_numbered : (n : ℕ) (f : FileName) → slice_get q.names n ≡ Some f → is_function f.denoted ≡ true → is_defined q.definitions f.unit (is_static_in q.names f.unit f.name) f.name ≡ true
      → (g : ℕ) × (function_number q f.unit f.name ≡ Some g)
  function_numbered n f e i h =
      let s = is_static_in q.names f.unit f.name in
      let static = static_as q.names n f declared.consistent e in
      let k = found_first q.definitions f.unit s f.name h in
      let d = k.definition in
      let is = said f.unit s f.name d k.defining in
      let w = all_at (IsDeclaredBy q.names) q.definitions k.number d declared.defined k.there in
      let g = w.declaration in
      let same = same_entity q.names declared.consistent q.definitions declared.defined f g f.is_static refl (w.name ∙ is.0) (λ b. w.unit ∙ (is.1 (static ∙ b)).1) (λ b. w.linkage ∙ is.2 (static ∙ b)) in
      let body : is_body d.manner ≡ true = body_is d.manner g.denoted w.fits ∙ sym (same_kind_of q.names w.number n f g declared.consistent e w.there same) ∙ i in
      let (j, on) = body_place q.definitions k.number d k.there body in
      let m = numbered_first 0 (bodies_of q.definitions) f.unit s f.name j d on k.defining in
      (0 + m.place, m.number)

  -- what is called is there
  pub calls_there : CallsAreThere p q
  calls_there i c at n r t ts on local name unit d f =
      let (s, there, k) = each_at (IsSymbolOf q) q.here.names p.symbols n r rows.symbols on in
      let w : IsRowOf q.names r = all_at (IsOuterRow q.names) q.here.names n r told.rows on local in
      let refers_to : s.refers ≡ function_or_none q (function_number q r.unit r.name) =
      k.2 ∙ ap (λ o. elim o as (λ _. Referent) [ Some x ↦ refers.Local x | None ↦ referent_of q r.denoted r.unit r.name ]) local ∙ ap (λ x. referent_of q x r.unit r.name) d in
      slice_get-map (denoted p f []) p.symbols n ∙ ap (option_map (denoted p f [])) there ∙ ap Some (ap (denoted_by p f [] (plain s.ctype) s.name) refers_to ∙ by s k.0 w (is_built_in r.name) refl)
    where
      by : (s : SymbolRow) → s.name ≡ r.name → IsRowOf q.names r → (b : Bool) → is_built_in r.name ≡ b → denoted_by p f [] (plain s.ctype) s.name (function_or_none q (function_number q r.unit r.name)) ≡ Function t ts
      by s e w true b = ap (λ o. denoted_by p f [] (plain s.ctype) s.name (function_or_none q o)) (none_built r.unit r.name b) ∙ ap built_in e ∙ sym (w.0 b) ∙ d
      by s e w false b =
          let z = w.1 b in
          let g = z.declaration in
          let here = declared_at q.names r z in
          let function = declared_function q.names r z (ap is_function d) in
          let text : c.name ≡ g.name = sym name ∙ z.name in
          let file : c.unit ≡ g.unit = sym (unit b) ∙ z.unit in
          let own : is_built_in g.name ≡ false = sym (ap is_built_in z.name) ∙ b in
          let passed : (is_built_in g.name || is_defined q.definitions g.unit (is_static_in q.names g.unit g.name) g.name) ≡ true =
          sym (λ i. is_built_in (text i) || is_defined q.definitions (file i) (is_static_in q.names (file i) (text i)) (text i)) ∙ passes_at q q.calls i c called at in
          let defined : is_defined q.definitions g.unit (is_static_in q.names g.unit g.name) g.name ≡ true = sym (ap (λ x. x || is_defined q.definitions g.unit (is_static_in q.names g.unit g.name) g.name) own) ∙ passed in
          let (m, number) = function_numbered (length z.front) g here function defined in
          let (fn, on_row, all, same) = function_there (length z.front) g t ts here (sym (told_function z.before g function) ∙ sym z.denoted ∙ d) m number in
          ap (λ o. denoted_by p f [] (plain s.ctype) s.name (function_or_none q o)) ((λ i. function_number q (z.unit i) (z.name i)) ∙ number) ∙ ap function_in on_row ∙ all
