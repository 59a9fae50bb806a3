-- A file weighs no more than its tokens pay for.
use Rattle.std.proofs.Common.{◌≡◌, ap, ℕ, ◌+◌, ◌*◌, ◌≤◌, Bool, List, [], ◌∷◌, ◌++◌, length, length-append, Option, Some, None, arith}
use Rattle.std.proofs.Math.Nat.{mul-le-mul_left}
use Rattle.c_lex.specs.declared.token.Place.{Place}
use Rattle.c_symbol.specs.declared.terminal.Terminal.{Terminal}
use Rattle.c_trees.specs.Expressions.{Tree}
use Rattle.c_trees.specs.Declarators.{DeclaratorTree}
use Rattle.c_trees.specs.Initializers.{InitialTree, Value, Braces, Item}
use Rattle.c_trees.specs.declared.declaration.Declared.{Declared}
use Rattle.c_trees.specs.declared.declaration.Local.{Local}
use Rattle.c_trees.specs.declared.declaration.FileSpec.{FileSpec}
use Rattle.c_trees.specs.declared.declaration.MemberPart.{MemberPart}
use Rattle.c_trees.specs.declared.declaration.MemberPart.TheVariants.{Row, Closes}
use Rattle.c_trees.specs.declared.declaration.Head.{Head as FileHead}
use Rattle.c_trees.specs.declared.declaration.FunctionHead.{FunctionHead}
use Rattle.c_declaration.specs.Grammar.{IsDeclared, plain, with_initial, AreDeclared, one_name, more_names, IsLocal, local, AreDeclarators, one_declarator, more_declarators, AreMembers, no_members, named_row, struct_row, IsFileSpec, named_spec, struct_spec, IsFileDeclared, bare, with_value, AreFileDeclared, one_file_name, more_file_names, IsHead as IsFileHead, only_spec, with_names, IsFunctionHead, function_head}
use Rattle.c_trees.specs.Statements.{StatementTree}
use Rattle.c_trees.specs.declared.statement.Head.{Head}
use Rattle.c_statement.specs.declared.state.Control.{Control}
use Rattle.c_statement.specs.Grammar.{IsOptional, absent, present as is_present, IsControl, controlled, IsHead, while_head, switch_head, for_head, case_head, default_head, IsOpened, opened, next_local, IsStatement, empty_statement, expression_statement, block, if_only, if_else, headed, do_while, break_statement, continue_statement, return_statement, IsElse, up_to_else, IsBlock, closed, IsBegun, only_declarations, next_statement}
use Rattle.c_trees.specs.declared.unit.External.{External}
use Rattle.c_trees.specs.declared.unit.External.TheVariants.{Declaration}
use Rattle.c_syntax.specs.Grammar.{IsExternal, declaration, definition, IsUnit, first_external, next_external}
use Rattle.c_mentions.specs.Literals.{Literal, in_tree, in_part, in_all, in_declarator, in_member, in_value, in_declared, in_local, in_head, in_statement}
use Rattle.c_mentions.specs.Tags as tags
use Rattle.c_tokens.specs.Units.{AreSpelled, terminals_in}
use Rattle.compiled_tables.specs.Weights.{Rates, AreCovered, total, literals, present, head_points, of_member, of_part, of_declared_local, of_locals, of_statement, of_spec, of_name, of_head, of_external, of_unit, of_units}
use Rattle.compiled_tables.proofs.Sums.{total-append, times_append}
use Rattle.compiled_tables.proofs.Mentions.{round, last, weight, pair, triple, mentions, spec_tags, spelled, declarator_spelled, initial_spelled}

-- ---- lists

literals-append : {A : Type 0} (f : A → List Literal) (xs ys : List A) → length (in_all f (xs ++ ys)) ≡ length (in_all f xs) + length (in_all f ys)
literals-append f [] ys = omega arith
literals-append f (x ∷ xs) ys = omega (arith, literals-append f xs ys, length-append (f x) (in_all f (xs ++ ys)), length-append (f x) (in_all f xs))

tags-append : {A : Type 0} (f : A → List (List ℕ)) (xs ys : List A) → length (tags.in_all f (xs ++ ys)) ≡ length (tags.in_all f xs) + length (tags.in_all f ys)
tags-append f [] ys = omega arith
tags-append f (x ∷ xs) ys = omega (arith, tags-append f xs ys, length-append (f x) (tags.in_all f (xs ++ ys)), length-append (f x) (tags.in_all f xs))

value_literals : (i : InitialTree) → length (in_value i) ≤ literals i
value_literals (Value e) = omega arith
value_literals (Braces at) = omega arith
value_literals (Item i j) = omega arith

module _ (r : Rates) (is : AreCovered r) where
  -- what the items of a list weigh with the literals and the tags in them, where a list is in parts
  module _ {A : Type 0} (f : A → ℕ) (g : A → List Literal) (t : A → List (List ℕ)) where
    abbrev all_weigh : List A → ℕ
    all_weigh xs = total f xs + weight r (in_all g xs) (tags.in_all t xs)

    weight-append : (xs ys : List A) → all_weigh (xs ++ ys) ≡ all_weigh xs + all_weigh ys
    weight-append xs ys =
        let a = ap (λ n. r.string * n) (literals-append g xs ys) in
        let b = ap (λ n. r.struct * n) (tags-append t xs ys) in
        omega (arith, total-append f xs ys, a, b)

    weight-one : (x : A) → all_weigh (x ∷ []) ≡ f x + weight r (g x) (t x)
    weight-one x = omega (arith, pair r (g x) [] (t x) [])

  -- ---- declarations in a block: a name pays together with what follows it

  abbrev local_weight : Declared → ℕ
  local_weight d = of_declared_local r d + weight r (in_declared d) (tags.in_declared d)

  declared_spelled : {d : Declared} {h : ℕ} {ts : List Terminal} → IsDeclared d h ts → local_weight d ≤ r.token + r.token * length ts
  declared_spelled (plain {d} {h} {ts} d') = omega (arith, is.local, declarator_spelled r is d', pair r (in_declarator d) [] (tags.in_declarator d) [])
  declared_spelled (with_initial t {d} {i} {m} {n} {us} {vs} d' te i') =
      omega (
        arith,
        is.local,
        declarator_spelled r is d',
        initial_spelled r is i',
        mul-le-mul_left r.string (value_literals i),
        pair r (in_declarator d) (in_value i) (tags.in_declarator d) (tags.in_initial i),
        round r.token us t vs,
      )

  names_spelled : {ds : List Declared} {h : ℕ} {ts : List Terminal} → AreDeclared ds h ts → all_weigh (of_declared_local r) in_declared tags.in_declared ds ≤ r.token + r.token * length ts
  names_spelled (one_name {d} {h} {ts} d') = omega (arith, declared_spelled d', weight-one (of_declared_local r) in_declared tags.in_declared d)
  names_spelled (more_names t {d} {ds} {m} {n} {us} {vs} ds' te d') =
      omega (
        arith,
        names_spelled ds',
        declared_spelled d',
        weight-append (of_declared_local r) in_declared tags.in_declared ds (d ∷ []),
        weight-one (of_declared_local r) in_declared tags.in_declared d,
        round r.token us t vs,
      )

  local_spelled : {l : Local} {h : ℕ} {ts : List Terminal} → IsLocal l h ts → of_locals r l + weight r (in_local l) (tags.in_local l) ≤ r.token * length ts
  local_spelled (local c {base} {ds} {us} {vs} {ws} rd sd fd ds' ce) =
      omega (
        arith,
        spec_tags r is sd,
        names_spelled ds',
        times_append r.struct (tags.in_spec base) (tags.in_all tags.in_declared ds),
        times_append r.token us (vs ++ (ws ++ c ∷ [])),
        times_append r.token vs (ws ++ c ∷ []),
        last r.token ws c,
      )

  -- ---- statements: the word, the `;` or the brace at a stopping point pays for it

  part_spelled : {e : Option Tree} {h : ℕ} {ts : List Terminal} → IsOptional e h ts → weight r (in_part in_tree e) (tags.in_part tags.in_tree e) + r.point ≤ r.token + r.token * length ts
  part_spelled absent = omega (arith, is.point)
  part_spelled (is_present d) = spelled r is d

  one_part : {A : Type 0} (e : Option A) → r.point * present e ≤ r.point
  one_part None = omega arith
  one_part (Some e) = omega arith

  control_spelled : {k : Control} {q : Place × Tree} {h : ℕ} {ts : List Terminal} → IsControl k q h ts → 2 * r.token + mentions r q.1 + r.point ≤ r.token * length ts
  control_spelled (controlled k t o c {e} {at} {h} {ts} te oe d ce) = omega (arith, spelled r is d, last r.token ts c)

  head_spelled : {hd : Head} {h : ℕ} {ts : List Terminal} → IsHead hd h ts → r.point * head_points hd + weight r (in_head hd) (tags.in_head hd) ≤ r.token * length ts
  head_spelled (while_head d) = omega (arith, control_spelled d)
  head_spelled (switch_head d) = omega (arith, control_spelled d)
  head_spelled (for_head t o y z c {d} {e} {f} {k} {m} {n} {us} {vs} {ws} te oe d' ye e' ze f' ce) =
      omega (
        arith,
        part_spelled d',
        part_spelled e',
        part_spelled f',
        one_part d,
        one_part e,
        one_part f,
        triple r (in_part in_tree d) (in_part in_tree e) (in_part in_tree f) (tags.in_part tags.in_tree d) (tags.in_part tags.in_tree e) (tags.in_part tags.in_tree f),
        round r.token us y (vs ++ z ∷ (ws ++ c ∷ [])),
        round r.token vs z (ws ++ c ∷ []),
        last r.token ws c,
      )
  head_spelled (case_head t c {e} {at} {h} {ts} te d ce) = omega (arith, spelled r is d, last r.token ts c)
  head_spelled (default_head t c te ce) = omega arith

  abbrev statement_weight : StatementTree → ℕ
  statement_weight x = of_statement r x + weight r (in_statement x) (tags.in_statement x)

  opened_spelled : {x : StatementTree} {h : ℕ} {ts : List Terminal} → IsOpened x h ts → r.token + statement_weight x ≤ r.token * length ts
  opened_spelled (opened o oe) = omega arith
  opened_spelled (next_local {x} {l} {m} {n} {us} {vs} d d') =
      omega (arith, opened_spelled d, local_spelled d', pair r (in_statement x) (in_local l) (tags.in_statement x) (tags.in_local l), times_append r.token us vs)

  mutual
    statement_spelled : {b : Bool} {x : StatementTree} {h : ℕ} {ts : List Terminal} → IsStatement b x h ts → statement_weight x ≤ r.token * length ts
    statement_spelled (empty_statement c ce) = omega arith
    statement_spelled (expression_statement c {e} {at} {h} {ts} d ce) = omega (arith, spelled r is d, last r.token ts c)
    statement_spelled (block d) = omega (arith, block_spelled d)
    statement_spelled (if_only {b} {at} {e} {x} {m} {n} {us} {vs} d d') =
        omega (arith, control_spelled d, statement_spelled d', pair r (in_tree e) (in_statement x) (tags.in_tree e) (tags.in_statement x), times_append r.token us vs)
    statement_spelled (if_else {b} {at} {e} {x} {x'} {m} {n} {us} {vs} d d') =
        omega (
          arith,
          else_spelled d,
          statement_spelled d',
          triple r (in_tree e) (in_statement x) (in_statement x') (tags.in_tree e) (tags.in_statement x) (tags.in_statement x'),
          times_append r.token us vs,
        )
    statement_spelled (headed {b} {hd} {x} {m} {n} {us} {vs} d d') =
        omega (arith, head_spelled d, statement_spelled d', pair r (in_head hd) (in_statement x) (tags.in_head hd) (tags.in_statement x), times_append r.token us vs)
    statement_spelled (do_while t c {b} {at} {x} {e} {m} {n} {us} {vs} te d d' ce) =
        omega (
          arith,
          statement_spelled d,
          control_spelled d',
          pair r (in_statement x) (in_tree e) (tags.in_statement x) (tags.in_tree e),
          times_append r.token us (vs ++ c ∷ []),
          last r.token vs c,
        )
    statement_spelled (break_statement t c te ce) = omega arith
    statement_spelled (continue_statement t c te ce) = omega arith
    statement_spelled (return_statement t c {e} {h} {ts} te d ce) = omega (arith, part_spelled d, last r.token ts c)

    else_spelled : {q : (Place × Tree) × StatementTree} {h : ℕ} {ts : List Terminal} → IsElse q h ts → mentions r q.0.1 + r.point + statement_weight q.1 ≤ r.token * length ts
    else_spelled (up_to_else l {at} {e} {x} {m} {n} {us} {vs} d d' le) =
        omega (arith, control_spelled d, statement_spelled d', times_append r.token us (vs ++ l ∷ []), last r.token vs l)

    -- with its two braces
    block_spelled : {x : StatementTree} {h : ℕ} {ts : List Terminal} → IsBlock x h ts → 2 * r.token + statement_weight x ≤ r.token * length ts
    block_spelled (closed c {b} {h} {ts} d ce) = omega (arith, begun_spelled d, last r.token ts c)

    begun_spelled : {x : StatementTree} {h : ℕ} {ts : List Terminal} → IsBegun x h ts → r.token + statement_weight x ≤ r.token * length ts
    begun_spelled (only_declarations d) = opened_spelled d
    begun_spelled (next_statement {b} {x} {x'} {m} {n} {us} {vs} d d') =
        omega (arith, begun_spelled d, statement_spelled d', pair r (in_statement x) (in_statement x') (tags.in_statement x) (tags.in_statement x'), times_append r.token us vs)

  -- ---- members of structs

  abbrev declarators_weight : List DeclaratorTree → ℕ
  declarators_weight ds = all_weigh (of_member r) in_declarator tags.in_declarator ds

  declarators_spelled : {ds : List DeclaratorTree} {h : ℕ} {ts : List Terminal} → AreDeclarators ds h ts → declarators_weight ds ≤ r.token + r.token * length ts
  declarators_spelled (one_declarator {d} {h} {ts} d') = omega (arith, is.member, declarator_spelled r is d', weight-one (of_member r) in_declarator tags.in_declarator d)
  declarators_spelled (more_declarators t {d} {ds} {m} {n} {us} {vs} ds' te d') =
      omega (
        arith,
        is.member,
        declarators_spelled ds',
        declarator_spelled r is d',
        weight-append (of_member r) in_declarator tags.in_declarator ds (d ∷ []),
        weight-one (of_member r) in_declarator tags.in_declarator d,
        round r.token us t vs,
      )

  abbrev parts_weight : List MemberPart → ℕ
  parts_weight ps = all_weigh (of_part r) in_member tags.in_member ps

  members_spelled : {ps : List MemberPart} {h : ℕ} {ts : List Terminal} → AreMembers ps h ts → r.token + parts_weight ps ≤ r.token * length ts
  members_spelled (no_members t word o te ne oe) = omega (arith, is.struct)
  members_spelled (named_row c {ps} {base} {at} {ds} {m} {n} {us} {vs} {ws} d sd fd ds' ce) =
      omega (
        arith,
        members_spelled d,
        spec_tags r is sd,
        declarators_spelled ds',
        weight-append (of_part r) in_member tags.in_member ps (Row at base ds ∷ []),
        weight-one (of_part r) in_member tags.in_member (Row at base ds),
        times_append r.struct (tags.in_spec base) (tags.in_all tags.in_declarator ds),
        times_append r.token us (vs ++ (ws ++ c ∷ [])),
        times_append r.token vs (ws ++ c ∷ []),
        last r.token ws c,
      )
  members_spelled (struct_row o c {ps} {qs} {ds} {l} {m} {n} {us} {vs} {ws} d d' oe ds' ce) =
      omega (
        arith,
        members_spelled d,
        members_spelled d',
        declarators_spelled ds',
        weight-append (of_part r) in_member tags.in_member ps (qs ++ Closes ds ∷ []),
        weight-append (of_part r) in_member tags.in_member qs (Closes ds ∷ []),
        weight-one (of_part r) in_member tags.in_member (Closes ds),
        times_append r.token us (vs ++ o ∷ (ws ++ c ∷ [])),
        round r.token vs o (ws ++ c ∷ []),
        last r.token ws c,
      )

  -- what a declaration begins with has a token besides
  spec_spelled : {f : FileSpec} {h : ℕ} {ts : List Terminal} → IsFileSpec f h ts → r.token + of_spec r f + r.struct * length (tags.in_file_spec f) ≤ r.token * length ts
  spec_spelled (named_spec sd) = omega (arith, spec_tags r is sd)
  spec_spelled (struct_spec c {ps} {h} {ts} d ce) = omega (arith, members_spelled d, last r.token ts c)

  -- ---- external declarations

  abbrev name_weight : Declared → ℕ
  name_weight d = of_name r d + r.struct * length (tags.in_declared d)

  file_declared : {d : Declared} {h : ℕ} {ts : List Terminal} → IsFileDeclared d h ts → name_weight d ≤ r.token + r.token * length ts
  file_declared (bare {d} {h} {ts} d') = omega (arith, is.object, declarator_spelled r is d', times_append r.struct (tags.in_declarator d) [])
  file_declared (with_value t {d} {i} {m} {n} {us} {vs} d' te i') =
      omega (
        arith,
        is.object,
        declarator_spelled r is d',
        initial_spelled r is i',
        times_append r.struct (tags.in_declarator d) (tags.in_initial i),
        round r.token us t vs,
      )

  abbrev names_weight : List Declared → ℕ
  names_weight ds = total (of_name r) ds + r.struct * length (tags.in_all tags.in_declared ds)

  file_names : {ds : List Declared} {h : ℕ} {ts : List Terminal} → AreFileDeclared ds h ts → names_weight ds ≤ r.token + r.token * length ts
  file_names (one_file_name {d} {h} {ts} d') = omega (arith, file_declared d', times_append r.struct (tags.in_declared d) [])
  file_names (more_file_names t {d} {ds} {m} {n} {us} {vs} ds' te d') =
      omega (
        arith,
        file_names ds',
        file_declared d',
        total-append (of_name r) ds (d ∷ []),
        ap (λ k. r.struct * k) (tags-append tags.in_declared ds (d ∷ [])),
        times_append r.struct (tags.in_declared d) [],
        round r.token us t vs,
      )

  declaration_spelled : {d : FileHead} {h : ℕ} {ts : List Terminal} → IsFileHead d h ts → of_external r (Declaration d) ≤ r.token * length ts
  declaration_spelled (only_spec c {st} {f} {at} {h} {us} {vs} sd fd pd ce) =
      omega (arith, spec_spelled fd, times_append r.struct (tags.in_file_spec f) [], times_append r.token us (vs ++ c ∷ []), last r.token vs c)
  declaration_spelled (with_names c {st} {f} {at} {ds} {m} {n} {us} {vs} {ws} sd fd pd ds' ce) =
      omega (
        arith,
        spec_spelled fd,
        file_names ds',
        times_append r.struct (tags.in_file_spec f) (tags.in_all tags.in_declared ds),
        times_append r.token us (vs ++ (ws ++ c ∷ [])),
        times_append r.token vs (ws ++ c ∷ []),
        last r.token ws c,
      )

  -- the braces of the body pay for the points at them
  head_of_function : {h : FunctionHead} {m : ℕ} {us : List Terminal}
      → IsFunctionHead h m us → of_spec r h.spec + of_head r h.declarator + r.struct * (length (tags.in_file_spec h.spec) + length (tags.in_declarator h.declarator)) ≤ 2 * r.token + r.token * length us
  head_of_function (function_head {st} {f} {at} {d} {m} {n} {us} {vs} {ws} sd fd pd dd) =
      omega (arith, is.local, is.point, spec_spelled fd, declarator_spelled r is dd, times_append r.token us (vs ++ ws), times_append r.token vs ws)

  external_spelled : {e : External} {h : ℕ} {ts : List Terminal} → IsExternal e h ts → of_external r e ≤ r.token * length ts
  external_spelled (declaration d) = declaration_spelled d
  external_spelled (definition {d} {x} {m} {n} {us} {vs} d' x') =
      omega (
        arith,
        head_of_function d',
        block_spelled x',
        times_append r.struct (tags.in_file_spec d.spec ++ tags.in_declarator d.declarator) (tags.in_statement x),
        times_append r.struct (tags.in_file_spec d.spec) (tags.in_declarator d.declarator),
        times_append r.token us vs,
      )

  unit_spelled : {es : List External} {h : ℕ} {ts : List Terminal} → IsUnit es h ts → of_unit r es ≤ r.token * length ts
  unit_spelled (first_external {e} {h} {ts} d) = omega (arith, external_spelled d)
  unit_spelled (next_external {es} {e} {m} {n} {us} {vs} d d') =
      omega (arith, unit_spelled d, external_spelled d', total-append (of_external r) es (e ∷ []), times_append r.token us vs)

  -- the files that are spelled by some terminals weigh at most what these pay for
  pub units_weigh : (us : List (List External)) (tss : List (List Terminal)) → AreSpelled us tss → of_units r us ≤ r.token * terminals_in tss
  units_weigh [] [] s = omega arith
  units_weigh [] (ts ∷ tss) s = absurd s
  units_weigh (u ∷ us) [] s = absurd s
  units_weigh (u ∷ us) (ts ∷ tss) s = omega (arith, unit_spelled s.0.1, units_weigh us tss s.1)
