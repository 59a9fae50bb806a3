-- A function of the program keeps to every rule on functions.
use Rattle.std.proofs.Common.{◌≡◌, ◌≤◌, ◌<◌, refl, sym, ap, ◌∙◌, subst, arith, ℕ, zero, suc, ◌+◌, Bool, true, false, not, ◌&&◌, ◌||◌, true≢false, List, [], ◌∷◌, ◌++◌, length, map, drop, Option, Some, None}
use Rattle.std.specs.Prelude.{slice_get, if◌then◌else◌, ◌==◌, bytes_eq, codes}
use Rattle.std.specs.List.{AllByRecursion}
use Rattle.c_trees.specs.Expressions.{Tree}
use Rattle.c_trees.specs.Initializers.{InitialTree, Value, Braces, Item}
use Rattle.c_trees.specs.declared.declaration.Declared.{Declared}
use Rattle.c_trees.specs.Statements.{StatementTree, Empty, Evaluate, Begun, Declares, Also, Closed, If, IfElse, Headed, Do, Break, Continue, Return}
use Rattle.c_trees.specs.declared.statement.Head.{Head}
use Rattle.c_trees.specs.declared.statement.Head.TheVariants as head
use Rattle.c_tree.specs.declared.rows.Program.{Program}
use Rattle.c_tree.specs.declared.rows.UnitRow.{UnitRow}
use Rattle.c_tree.specs.declared.rows.Function.{Function as FunctionRow}
use Rattle.c_typing.specs.Plain.{Plain, Int, plain, same}
use Rattle.c_typing.specs.Written.{IsWritten}
use Rattle.c_typing.specs.Expressions.{Function}
use Rattle.c_typing.specs.Declarations.{has, is_result}
use Rattle.c_typing.specs.Programs.{IsFunction, AreScalars, IsLocal}
use Rattle.c_mentions.specs.Tags as tags
use Rattle.c_scope.specs.Environment.{Environment, struct_of}
use Rattle.c_scope.specs.Declarators.{Parameter, parameter_type}
use Rattle.c_scope.specs.Declarators as shapes
use Rattle.c_body.specs.Stops.{inside_block}
use Rattle.c_linkage.specs.Names.{declared_as_main, agree_as}
use Rattle.c_file.specs.Files.{State, Bodied}
use Rattle.c_file.specs.Made.{HasRows, AreUnits, functions_of, behind_block}
use Rattle.c_accepted.specs.Sources.{IsApart, IsInOrder, AllIn, AllInPart, AllInInitial, AllInNames, AllInHead}
use Rattle.c_accepted.proofs.StatementWords.{HasWordsIn}
use Rattle.c_accepted.proofs.Runs.{all_first, all_second}
use Rattle.c_accepted.proofs.Written.{IsNamed, written}
use Rattle.c_accepted.proofs.Statements.{AllTold, IsSource}
use Rattle.c_accepted.proofs.Declarators.{IsTaken, IsShaped}
use Rattle.c_accepted.proofs.Locals.{IsGood, AreTagged, Goods, goods_on, after_good, parameters_good, locals_good}
use Rattle.c_accepted.proofs.Bodied.{ends, Stood, ground, keeps_ends, each_local, parameters_are}
use Rattle.c_accepted.proofs.Functions.{is_block, is_typed, has_points, is_numbered, are_ends, are_declared}

-- ---- the sources of expressions

module _ (P : List ℕ → Type 0) where
  abbrev pub IsSourced : Tree → Type 0
  IsSourced e = IsApart e × AllByRecursion P (tags.in_tree e)

  part_sourced : (i : Option Tree) → AllInPart IsApart i → AllByRecursion P (tags.in_part tags.in_tree i) → AllInPart IsSourced i
  part_sourced None a h = tt
  part_sourced (Some e) a h = (a, h)

  initial_sourced : (i : Option InitialTree) → AllInInitial IsApart i → AllByRecursion P (tags.in_part tags.in_initial i) → AllInInitial IsSourced i
  initial_sourced None a h = tt
  initial_sourced (Some (Value e)) a h = (a, h)
  initial_sourced (Some (Braces at)) a h = tt
  initial_sourced (Some (Item i j)) a h = tt

  names_sourced : (ds : List Declared) → AllInNames IsApart ds → AllByRecursion P (tags.in_all tags.in_declared ds) → AllInNames IsSourced ds
  names_sourced [] a h = tt
  names_sourced (d ∷ ds) a h = (
    initial_sourced d.initial a.0 (all_second P (tags.in_declarator d.declarator) (tags.in_part tags.in_initial d.initial) (all_first P (tags.in_declared d) (tags.in_all tags.in_declared ds) h)),
    names_sourced ds a.1 (all_second P (tags.in_declared d) (tags.in_all tags.in_declared ds) h),
  )

  head_sourced : (x : Head) → AllInHead IsApart x → AllByRecursion P (tags.in_head x) → AllInHead IsSourced x
  head_sourced (head.While at e) a h = (a, h)
  head_sourced (head.For at i e k) a h = (
    part_sourced i a.0 (all_first P (tags.in_part tags.in_tree i) (tags.in_part tags.in_tree e) (all_first P (tags.in_part tags.in_tree i ++ tags.in_part tags.in_tree e) (tags.in_part tags.in_tree k) h)),
    part_sourced e a.1 (all_second P (tags.in_part tags.in_tree i) (tags.in_part tags.in_tree e) (all_first P (tags.in_part tags.in_tree i ++ tags.in_part tags.in_tree e) (tags.in_part tags.in_tree k) h)),
    part_sourced k a.2 (all_second P (tags.in_part tags.in_tree i ++ tags.in_part tags.in_tree e) (tags.in_part tags.in_tree k) h),
  )
  head_sourced (head.Switch at e) a h = (a, h)
  head_sourced (head.Case at e) a h = (a, h)
  head_sourced (head.Default at) a h = tt

  pub all_sourced : (s : StatementTree) → AllIn IsApart s → AllByRecursion P (tags.in_statement s) → AllIn IsSourced s
  all_sourced (Evaluate e) a h = (a, h)
  all_sourced (Declares b l) a h = (
    all_sourced b a.0 (all_first P (tags.in_statement b) (tags.in_local l) h),
    names_sourced l.names a.1 (all_second P (tags.in_spec l.spec) (tags.in_all tags.in_declared l.names) (all_second P (tags.in_statement b) (tags.in_local l) h)),
  )
  all_sourced (Also b s) a h = (all_sourced b a.0 (all_first P (tags.in_statement b) (tags.in_statement s) h), all_sourced s a.1 (all_second P (tags.in_statement b) (tags.in_statement s) h))
  all_sourced (Closed b at) a h = all_sourced b a h
  all_sourced (If at e s) a h = ((a.0, all_first P (tags.in_tree e) (tags.in_statement s) h), all_sourced s a.1 (all_second P (tags.in_tree e) (tags.in_statement s) h))
  all_sourced (IfElse at e s r) a h =
      let two = all_first P (tags.in_tree e ++ tags.in_statement s) (tags.in_statement r) h in (
        (a.0, all_first P (tags.in_tree e) (tags.in_statement s) two),
        all_sourced s a.1 (all_second P (tags.in_tree e) (tags.in_statement s) two),
        all_sourced r a.2 (all_second P (tags.in_tree e ++ tags.in_statement s) (tags.in_statement r) h),
      )
  all_sourced (Headed x s) a h = (head_sourced x a.0 (all_first P (tags.in_head x) (tags.in_statement s) h), all_sourced s a.1 (all_second P (tags.in_head x) (tags.in_statement s) h))
  all_sourced (Do at s e) a h = (all_sourced s a.0 (all_first P (tags.in_statement s) (tags.in_tree e) h), (a.1, all_second P (tags.in_statement s) (tags.in_tree e) h))
  all_sourced (Return at e) a h = part_sourced e a h
  all_sourced (Empty at) a h = tt
  all_sourced (Begun at) a h = tt
  all_sourced (Break at) a h = tt
  all_sourced (Continue at) a h = tt

  inside_tags : (x : StatementTree) → AllByRecursion P (tags.in_statement x) → AllByRecursion P (tags.in_statement (inside_block x))
  inside_tags (Closed b at) h = h
  inside_tags _ h = h

-- ---- files

equal_self : (n : ℕ) → (n == n) ≡ true
equal_self n = grind arith

module _ (q : State) where
  later : (u n m : ℕ) (b : Bool) (ns : List ℕ) → has ns m ≡ true → has (if b then n ∷ ns else ns) m ≡ true
  later u n m false ns h = h
  later u n m true ns h = by (n == m)
    where
      by : (c : Bool) → (if c then true else has ns m) ≡ true
      by true = refl
      by false = h

  -- a function is among those of its file
  pub among_functions : (u n i : ℕ) (bs : List Bodied) (b : Bodied) → slice_get bs i ≡ Some b → b.unit ≡ u → has (functions_of q u n bs) (n + i) ≡ true
  among_functions u n i [] b e k = absurd (let x : None ≡ Some b = e in cc)
  among_functions u n zero (c ∷ bs) b e k =
      let same : c ≡ b = (let x : Some c ≡ Some b = e in cc) in
      let here : (c.unit == u) ≡ true = ap (λ x. x == u) (ap (λ (y : Bodied). y.unit) same ∙ k) ∙ equal_self u in
      ap (λ t. has (if t then n ∷ functions_of q u (suc n) bs else functions_of q u (suc n) bs) (n + 0)) here ∙
      ap (λ t. if t then true else has (functions_of q u (suc n) bs) (n + 0)) (ap (λ m. n == m) (let x : n + 0 ≡ n = omega arith in x) ∙ equal_self n)
  among_functions u n (suc i) (c ∷ bs) b e k =
      later u n (n + suc i) (c.unit == u) (functions_of q u (suc n) bs) (ap (has (functions_of q u (suc n) bs)) (let x : n + suc i ≡ suc n + i = omega arith in x) ∙ among_functions u (suc n) i bs b e k)

  pub unit_there : (u n : ℕ) (names : List (List ℕ)) (rows : List UnitRow) → AreUnits q u names rows → n < length names → (row : UnitRow) × (slice_get rows n ≡ Some row) × (row.functions ≡ functions_of q (u + n) 0 q.bodies)
  unit_there u n [] [] h l = absurd (omega (arith, l))
  unit_there u zero (x ∷ names) (r ∷ rows) h l = (r, refl, h.1 ∙ ap (λ m. functions_of q m 0 q.bodies) (let k : u ≡ u + 0 = omega arith in k))
  unit_there u (suc n) (x ∷ names) (r ∷ rows) h l =
      let (row, at, e) = unit_there (suc u) n names rows h.2 (omega (arith, l)) in
      (row, at, e ∙ ap (λ m. functions_of q m 0 q.bodies) (let k : suc u + n ≡ u + suc n = omega arith in k))
  unit_there u n [] (r ∷ rows) h l = absurd h
  unit_there u n (x ∷ names) [] h l = absurd h

both_parts : (a b : Bool) → a && b ≡ true → (a ≡ true) × (b ≡ true)
both_parts true b h = (refl, h)
both_parts false b h = absurd (true≢false (sym h))

-- `main` has no parameters
main_kept : (c : Bool) (t : Plain) (ps : List Parameter) → (not c || agree_as (Function t (map parameter_type ps)) (Function Int [])) ≡ true → (not c || (same t Int && (length ps == 0))) ≡ true
main_kept false t ps h = refl
main_kept true t [] h = ap (λ b. b && true) (both_parts (same t Int) true h).0
main_kept true t (p ∷ ps) h = absurd (true≢false (sym (both_parts (same t Int) false h).1))

scalars_of : (v : Environment) (ps : List Parameter) → AllByRecursion (IsTaken v) ps → AreScalars (map parameter_type ps)
scalars_of v [] h = tt
scalars_of v (p ∷ ps) h = (h.0.1, scalars_of v ps h.1)

drop_first : {A : Type 0} (xs ys : List A) → drop (length xs) (xs ++ ys) ≡ ys
drop_first [] ys = refl
drop_first (x ∷ xs) ys = drop_first xs ys

-- ---- a function

-- what was found of a function beside its body
pub record Heading (names : List (List ℕ)) (b : Bodied) (outer : Environment) : Type 0 where
  pub shaped : IsShaped outer (shapes.Function b.result b.parameters)
  pub few : length b.parameters ≤ 16
  pub main : declared_as_main b.name (Function b.result (map parameter_type b.parameters)) ≡ true
  pub tagged : AreTagged outer.defs outer.tags (tags.in_statement b.block)
  pub unit : b.unit < length names

module _ (names : List (List ℕ)) (p : Program) (q : State) (rows : HasRows q names p) (all_told : AllTold) (f : ℕ) (fn : FunctionRow) (b : Bodied) (outer : Environment) (at : slice_get q.bodies f ≡ Some b)
    (s : Stood p q f fn b outer) (h : Heading names b outer) (order : IsInOrder b.block) (apart : AllIn IsApart b.block) (words : HasWordsIn fn.body) where
  sources : AllIn (IsSource p f fn (ends p q f fn b outer) (length outer.names) outer.defs outer.tags outer.visible (ground p q f fn b outer s) all_told b.result) b.block
  sources = all_sourced (λ tag. struct_of outer.tags tag < length outer.defs) b.block apart h.tagged

  result_written : IsWritten p.defs fn.result
  result_written =
      let n = subst (IsNamed outer.defs) (sym s.row.3) h.shaped.0 in
      written outer.defs p.defs s.grows s.structs fn.result n.0 n.1

  goods : Goods outer.defs outer.tags outer (behind_block q b)
  goods =
      let one = subst (Goods outer.defs outer.tags outer) (sym s.here) (parameters_good outer.defs outer.tags outer b.parameters refl refl s.named h.shaped.2) in
      goods_on outer.defs outer.tags outer b.here (behind_block q b) one
      (after_good outer.defs outer.tags b.here (inside_block b.block) one.same_defs one.same_tags (inside_tags (λ tag. struct_of outer.tags tag < length outer.defs) b.block h.tagged))

  are_locals : AllByRecursion (IsLocal p.defs) fn.locals
  are_locals =
      let k = keeps_ends p q f fn b outer s in
      let same : goods.more ≡ k.more = sym (drop_first outer.names goods.more) ∙ ap (drop (length outer.names)) (sym goods.names ∙ k.names) ∙ drop_first outer.names k.more in
      locals_good q outer.defs p.defs s.grows s.structs outer.tags k.more fn.locals (subst (AllByRecursion (IsGood outer.defs outer.tags)) same goods.good) (each_local p q f fn b outer s)

  pub is_function : IsFunction p f fn
  is_function =
      let (unit, there, functions) = unit_there q 0 fn.unit names p.units rows.units (subst (λ u. u < length names) (sym s.row.1) h.unit) in
      let among : has unit.functions f ≡ true = ap (λ ns. has ns f) functions ∙ ap (has (functions_of q (0 + fn.unit) 0 q.bodies)) (let e : f ≡ 0 + f = omega arith in e) ∙ among_functions q (0 + fn.unit) 0 f q.bodies b at (sym s.row.1 ∙ (let e : fn.unit ≡ 0 + fn.unit = omega arith in e)) in record {
        result = ap is_result s.row.3 ∙ h.shaped.1;
        written = result_written;
        few = subst (λ n. n ≤ 16) (sym s.row.4) h.few;
        scalars = subst AreScalars (sym (parameters_are p q f fn b outer s)) (scalars_of outer b.parameters h.shaped.2);
        locals = are_locals;
        declared = are_declared p q f fn b outer s all_told order sources words;
        block = is_block p q f fn b outer s all_told order sources words;
        body = is_typed p q f fn b outer s all_told order sources words;
        points = has_points p q f fn b outer s all_told order sources words;
        numbered = is_numbered p q f fn b outer s all_told order sources words;
        ends = are_ends p q f fn b outer s all_told order sources words;
        unit = rw there among;
        main = subst (λ n. (not (bytes_eq n (codes "main")) || (same (plain fn.result) Int && (fn.params == 0))) ≡ true) (sym s.row.0)
            (subst (λ u. (not (bytes_eq b.name (codes "main")) || (same u Int && (fn.params == 0))) ≡ true) (sym s.row.3)
            (subst (λ n. (not (bytes_eq b.name (codes "main")) || (same b.result Int && (n == 0))) ≡ true) (sym s.row.4) (main_kept (bytes_eq b.name (codes "main")) b.result b.parameters h.main)));
      }
