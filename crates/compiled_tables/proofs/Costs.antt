-- What a program costs is what its rows weigh, and what its files cost.
use Rattle.std.proofs.Common.{◌≡◌, refl, sym, ap, ◌∙◌, ℕ, suc, ◌+◌, ◌*◌, List, [], ◌∷◌, map, length, Option, Some, None, arith}
use Rattle.c_tree.specs.declared.types.CType.{CType}
use Rattle.c_tree.specs.declared.types.CType.TheVariants.{Char, Int, Unsigned, Void, Pointer', Array', Struct}
use Rattle.c_tree.specs.declared.types.StructDef.{StructDef}
use Rattle.c_tree.specs.declared.types.Member.{Member}
use Rattle.c_tree.specs.declared.rows.Program.{Program}
use Rattle.c_tree.specs.declared.rows.UnitRow.{UnitRow}
use Rattle.c_tree.specs.declared.rows.ObjectRow.{ObjectRow}
use Rattle.c_tree.specs.declared.rows.SymbolRow.{SymbolRow}
use Rattle.c_tree.specs.declared.rows.Referent.{Referent}
use Rattle.c_tree.specs.declared.rows.Referent.TheVariants as refers
use Rattle.c_typing.specs.Plain.{plain}
use Rattle.c_typing.specs.Expressions as typing
use Rattle.c_typing.specs.Expressions.{Denoted}
use Rattle.c_scope.specs.Environment.{Row}
use Rattle.c_linkage.specs.Names.{Defining}
use Rattle.c_file.specs.Files.{State}
use Rattle.c_file.specs.Made.{Each, AreUnits, HasRows, IsObjectOf, IsSymbolOf, IsFunctionOf, objects, object_type, function_number, function_or_none, referent_of, type_of_name}
use Rattle.ps_emit.specs.Bounds as bounds
use Rattle.ps_emit.specs.Bounds.{Cost, none, ◌and◌, times, all, per_constructor, per_object_symbol, per_symbol, per_point, per_function, per_unit, per_struct, per_member, per_object, per_string, always, of_type, of_member, of_object, of_named, of_symbol, cost_of}
use Rattle.compiled_tables.specs.Weights.{Rates, rates, total, constructors, of_typed, of_inner, of_global, of_row}
use Rattle.compiled_tables.proofs.Files.{stop_count}
use Rattle.compiled_tables.proofs.StructRows.{of_row_member, of_row_members, all_members}
use Rattle.compiled_tables.proofs.BodyAdds.{made}
use Rattle.compiled_tables.proofs.Parts.{as_many, points_long}

-- ---- what the rows of a program weigh

module _ (r : Rates) (q : State) where
  -- an object with its type
  abbrev pub of_defined : Defining → ℕ
  of_defined d = r.object + r.constructor * constructors (object_type q d)

  abbrev pub weight_of : ℕ
  weight_of = total of_defined (objects q) + (made r q + (r.struct * length q.others + all_members r q.others))

-- ---- lists

units_long : (q : State) (u : ℕ) (names : List (List ℕ)) (us : List UnitRow) → AreUnits q u names us → length us ≡ length names
units_long q u [] [] h = refl
units_long q u [] (x ∷ us) h = absurd h
units_long q u (n ∷ ns) [] h = absurd h
units_long q u (n ∷ ns) (x ∷ us) h = ap suc (units_long q (suc u) ns us h.2)

same_total : {A B : Type 0} (P : A → B → Type 0) (f : A → ℕ) (g : B → ℕ) → ((x : A) (y : B) → P x y → g y ≡ f x) → (xs : List A) (ys : List B) → Each P xs ys → total g ys ≡ total f xs
same_total P f g h [] [] e = refl
same_total P f g h [] (y ∷ ys) e = absurd e
same_total P f g h (x ∷ xs) [] e = absurd e
same_total P f g h (x ∷ xs) (y ∷ ys) e = omega (arith, h x y e.0, same_total P f g h xs ys e.1)

same_constructors : (t : CType) → bounds.constructors t ≡ constructors (plain t)
same_constructors Char = refl
same_constructors Int = refl
same_constructors Unsigned = refl
same_constructors Void = refl
same_constructors (Pointer' b t) = ap suc (same_constructors t)
same_constructors (Array' b t n) = ap suc (same_constructors t)
same_constructors (Struct s) = refl

-- ---- a measure of costs, such as their bytes

module _ (of : Cost → ℕ) (token : ℕ) (adds : (a b : Cost) → of (a and b) ≡ of a + of b) (nothing : of none ≡ 0) (scales : (n : ℕ) (c : Cost) → of (times n c) ≡ n * of c) where
  abbrev r : Rates
  r = rates of token

  all_cost : {A : Type 0} (f : A → Cost) (g : A → ℕ) → ((x : A) → of (f x) ≡ g x) → (xs : List A) → of (all (map f xs)) ≡ total g xs
  all_cost f g h [] = nothing
  all_cost f g h (x ∷ xs) = omega (arith, adds (f x) (all (map f xs)), h x, all_cost f g h xs)

  eight : (a b c d e f g h : Cost) → of (a and b and c and d and e and f and g and h) ≡ of a + of b + of c + of d + of e + of f + of g + of h
  eight a b c d e f g h =
      omega (
        arith,
        adds a b,
        adds (a and b) c,
        adds (a and b and c) d,
        adds (a and b and c and d) e,
        adds (a and b and c and d and e) f,
        adds (a and b and c and d and e and f) g,
        adds (a and b and c and d and e and f and g) h,
      )

  type_cost : (t : CType) → of (of_type t) ≡ r.constructor * constructors (plain t)
  type_cost t = let e = ap (λ n. n * of per_constructor) (same_constructors t) in omega (arith, scales (bounds.constructors t) per_constructor, e)

  member_cost : (m : Member) → of (of_member m) ≡ of_row_member r m
  member_cost m = omega (arith, adds per_member (of_type m.ctype), type_cost m.ctype)

  abbrev struct_of : StructDef → Cost
  struct_of d = per_struct and all (map of_member d.members)

  struct_cost : (d : StructDef) → of (struct_of d) ≡ r.struct + of_row_members r d
  struct_cost d = omega (arith, adds per_struct (all (map of_member d.members)), all_cost of_member (of_row_member r) member_cost d.members)

  structs_cost : (ds : List StructDef) → of (all (map struct_of ds)) ≡ r.struct * length ds + all_members r ds
  structs_cost [] = omega (arith, nothing)
  structs_cost (d ∷ ds) = omega (arith, adds (struct_of d) (all (map struct_of ds)), struct_cost d, structs_cost ds)

  typed_cost : (t : CType) → of (per_symbol and of_type t) ≡ of_typed r (plain t)
  typed_cost t = omega (arith, adds per_symbol (of_type t), type_cost t)

  module _ (q : State) where
    object_cost : (d : Defining) (o : ObjectRow) → IsObjectOf q d o → of (of_object o) ≡ of_defined r q d
    object_cost d o h =
        let e : r.constructor * constructors (plain o.ctype) ≡ r.constructor * constructors (object_type q d) = ap (λ t. r.constructor * constructors t) h.3 in
        omega (arith, adds per_object (of_type o.ctype), type_cost o.ctype, e)

    -- what a name at file scope refers to
    global_cost : (d : Denoted) (u : ℕ) (name : List ℕ) (t : CType) → plain t ≡ type_of_name q d → of (of_named (referent_of q d u name) t) ≡ of_global r d
    global_cost (typing.Object s b) u name t e = refl
    global_cost typing.Hidden u name t e = refl
    global_cost (typing.Function s ps) u name t e = by (function_number q u name)
      where
        by : (f : Option ℕ) → of (of_named (function_or_none q f) t) ≡ of_typed r s
        by None = typed_cost t ∙ ap (of_typed r) e
        by (Some f) = typed_cost t ∙ ap (of_typed r) e

    inner_cost : (d : Denoted) (t : CType) → plain t ≡ type_of_name q d → of (per_symbol and of_type t) ≡ of_inner r d
    inner_cost (typing.Object s b) t e = typed_cost t ∙ ap (of_typed r) e
    inner_cost (typing.Function s ps) t e = typed_cost t ∙ ap (of_typed r) e
    inner_cost typing.Hidden t e = typed_cost t ∙ ap (of_typed r) e

    named_cost : (x : Option ℕ) (d : Denoted) (u : ℕ) (name : List ℕ) (t : CType) → plain t ≡ type_of_name q d
        → of (of_named (elim x as (λ _. Referent) [ Some l ↦ refers.Local l | None ↦ referent_of q d u name ]) t) ≡ (elim x as (λ _. ℕ) [ Some l ↦ of_inner r d | None ↦ of_global r d ])
    named_cost None d u name t e = global_cost d u name t e
    named_cost (Some l) d u name t e = inner_cost d t e

    symbol_cost : (n : Row) (s : SymbolRow) → IsSymbolOf q n s → of (of_symbol s) ≡ of_row r n
    symbol_cost n s h = ap (λ x. of (of_named x s.ctype)) h.2 ∙ named_cost n.local n.denoted n.unit n.name s.ctype h.1

    pub costs : (names : List (List ℕ)) (p : Program) → HasRows q names p → q.points ≡ stop_count q.bodies → of (cost_of p) ≡ of always + of per_unit * length names + weight_of r q
    costs names p rows stopped =
        let units : of (times (length p.units) per_unit) ≡ of per_unit * length names =
        let e = ap (λ n. n * of per_unit) (units_long q 0 names p.units rows.units) in omega (arith, scales (length p.units) per_unit, e) in
        let defs : of (all (map struct_of p.defs)) ≡ r.struct * length q.others + all_members r q.others = structs_cost p.defs ∙ ap (λ ds. r.struct * length ds + all_members r ds) rows.defs in
        let things : of (all (map of_object p.objects)) ≡ total (of_defined r q) (objects q) =
        all_cost of_object (λ o. of (of_object o)) (λ o. refl) p.objects ∙ same_total (IsObjectOf q) (of_defined r q) (λ o. of (of_object o)) object_cost (objects q) p.objects rows.objects in
        let texts : of (times (length p.strings) per_string) ≡ r.string * length q.strings =
        let e = ap (λ (xs : List (List ℕ)). length xs * of per_string) rows.strings in omega (arith, scales (length p.strings) per_string, e) in
        let functions : of (times (length p.functions) per_function) ≡ r.function * length q.bodies =
        let e = ap (λ n. n * of per_function) (sym (as_many (IsFunctionOf q) q.bodies p.functions rows.functions)) in omega (arith, scales (length p.functions) per_function, e) in
        let points : of (times (length p.points) per_point) ≡ r.point * q.points =
        let e = ap (λ n. n * of per_point) (ap (λ l. length l) rows.points ∙ (points_long q 0 q.bodies ∙ sym stopped)) in omega (arith, scales (length p.points) per_point, e) in
        let symbols : of (all (map of_symbol p.symbols)) ≡ total (of_row r) q.here.names =
        all_cost of_symbol (λ s. of (of_symbol s)) (λ s. refl) p.symbols ∙ same_total (IsSymbolOf q) (of_row r) (λ s. of (of_symbol s)) symbol_cost q.here.names p.symbols rows.symbols in
        eight always (times (length p.units) per_unit) (all (map struct_of p.defs)) (all (map of_object p.objects)) (times (length p.strings) per_string)
        (times (length p.functions) per_function) (times (length p.points) per_point) (all (map of_symbol p.symbols))
        ∙ omega (arith, units, defs, things, texts, functions, points, symbols)
