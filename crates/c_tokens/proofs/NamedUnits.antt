-- The tags in the units of texts, and the names that these declare, are identifiers.
use Rattle.std.proofs.Common.{ℕ, Bool, List, [], ◌∷◌, ◌++◌, Option}
use Rattle.std.specs.List.{AllByRecursion}
use Rattle.c_lex.specs.declared.token.Place.{Place}
use Rattle.c_symbol.specs.declared.terminal.Terminal.{Terminal}
use Rattle.c_trees.specs.Expressions.{Tree}
use Rattle.c_trees.specs.Declarators.{DeclaratorTree}
use Rattle.c_trees.specs.declared.declaration.Declared.{Declared}
use Rattle.c_trees.specs.declared.declaration.FileSpec.{FileSpec}
use Rattle.c_trees.specs.declared.declaration.FileSpec.TheVariants as file
use Rattle.c_trees.specs.declared.declaration.MemberPart.{MemberPart}
use Rattle.c_trees.specs.declared.declaration.MemberPart.TheVariants.{Opens, Row, Closes}
use Rattle.c_trees.specs.declared.declaration.Head.{Head as Declaring}
use Rattle.c_trees.specs.declared.declaration.FunctionHead.{FunctionHead}
use Rattle.c_declaration.specs.Grammar as grammar
use Rattle.c_declaration.specs.Grammar.{AreDeclarators, one_declarator, more_declarators, AreMembers, no_members, named_row, struct_row, IsFileSpec, named_spec, struct_spec, IsFileDeclared, bare, with_value, AreFileDeclared, one_file_name, more_file_names, only_spec, with_names, IsFunctionHead, function_head}
use Rattle.c_trees.specs.Statements.{StatementTree, Declares, Also, Closed, If, IfElse, Headed, Do}
use Rattle.c_trees.specs.declared.statement.Head.{Head}
use Rattle.c_statement.specs.declared.state.Control.{Control}
use Rattle.c_trees.specs.declared.unit.External.{External}
use Rattle.c_trees.specs.declared.unit.External.TheVariants.{Declaration, Definition}
use Rattle.c_statement.specs.Grammar.{IsOptional, absent, present, IsControl, controlled, IsHead, while_head, switch_head, for_head, case_head, default_head, IsOpened, opened, next_local, IsStatement, empty_statement, expression_statement, block, if_only, if_else, headed, do_while, break_statement, continue_statement, return_statement, IsElse, up_to_else, IsBlock, closed, IsBegun, only_declarations, next_statement}
use Rattle.c_syntax.specs.Grammar.{IsExternal, declaration, definition, IsUnit, first_external, next_external}
use Rattle.c_mentions.specs.Tags.{in_spec, in_tree, in_part, in_all, in_declarator, in_initial, in_declared, in_local, in_head, in_statement, in_member, in_file_spec, in_external}
use Rattle.c_tokens.specs.Identifiers.{IsIdentifier, IsOfText}
use Rattle.c_tokens.proofs.Words as words
use Rattle.c_tokens.proofs.Words.{AreNamed, front, back, terminals_named}
use Rattle.c_tokens.proofs.Named.{All, both, in_each, one_more, spec_tag, tags, Declarator, declarator_named, initial_named, Name, names_tags, local_named}

-- ---- statements

part_tags : {e : Option Tree} {h : ℕ} {ts : List Terminal} → IsOptional e h ts → AreNamed ts → All (in_part in_tree e)
part_tags absent q = tt
part_tags (present d) q = tags d q

control_tags : {k : Control} {x : Place × Tree} {h : ℕ} {ts : List Terminal} → IsControl k x h ts → AreNamed ts → All (in_tree x.1)
control_tags (controlled k t o c {e} {at} {h} {ts} te oe d ce) q = tags d (front ts _ q.1.1)

head_tags : {hd : Head} {h : ℕ} {ts : List Terminal} → IsHead hd h ts → AreNamed ts → All (in_head hd)
head_tags (while_head d) q = control_tags d q
head_tags (switch_head d) q = control_tags d q
head_tags (for_head t o y z c {d} {e} {f} {k} {m} {n} {us} {vs} {ws} te oe d' ye e' ze f' ce) q =
    let i = (back us _ q.1.1).1 in
    let j = (back vs _ i).1 in
    both (in_part in_tree d ++ in_part in_tree e) (in_part in_tree f)
    (both (in_part in_tree d) (in_part in_tree e) (part_tags d' (front us _ q.1.1)) (part_tags e' (front vs _ i))) (part_tags f' (front ws _ j))
head_tags (case_head t c {e} {at} {h} {ts} te d ce) q = tags d (front ts _ q.1)
head_tags (default_head t c te ce) q = tt

-- the names that the declarations in a statement declare
abbrev pub Within : StatementTree → Type 0
Within (Declares b l) = Within b × AllByRecursion Name l.names
Within (Also b s) = Within b × Within s
Within (Closed b at) = Within b
Within (If at e s) = Within s
Within (IfElse at e s r) = Within s × Within r
Within (Headed h s) = Within s
Within (Do at s e) = Within s
Within _ = Unit {0}

abbrev pub Statement : StatementTree → Type 0
Statement x = All (in_statement x) × Within x

opened_named : {x : StatementTree} {h : ℕ} {ts : List Terminal} → IsOpened x h ts → AreNamed ts → Statement x
opened_named (opened o oe) q = (tt, tt)
opened_named (next_local {x} {l} {m} {n} {us} {vs} d d') q =
    let k = opened_named d (front us _ q) in let j = local_named d' (back us _ q) in (both (in_statement x) (in_local l) k.0 j.0, (k.1, j.1))

mutual
  statement_named : {b : Bool} {x : StatementTree} {h : ℕ} {ts : List Terminal} → IsStatement b x h ts → AreNamed ts → Statement x
  statement_named (empty_statement c ce) q = (tt, tt)
  statement_named (expression_statement c {e} {at} {h} {ts} d ce) q = (tags d (front ts _ q), tt)
  statement_named (block d) q = block_named d q
  statement_named (if_only {b} {at} {e} {x} {m} {n} {us} {vs} d d') q =
      let j = statement_named d' (back us _ q) in (both (in_tree e) (in_statement x) (control_tags d (front us _ q)) j.0, j.1)
  statement_named (if_else {b} {at} {e} {x} {x'} {m} {n} {us} {vs} d d') q =
      let k = else_named d (front us _ q) in let j = statement_named d' (back us _ q) in (both (in_tree e ++ in_statement x) (in_statement x') k.0 j.0, (k.1, j.1))
  statement_named (headed {b} {hd} {x} {m} {n} {us} {vs} d d') q = let j = statement_named d' (back us _ q) in (both (in_head hd) (in_statement x) (head_tags d (front us _ q)) j.0, j.1)
  statement_named (do_while t c {b} {at} {x} {e} {m} {n} {us} {vs} te d d' ce) q =
      let k = statement_named d (front us _ q.1) in (both (in_statement x) (in_tree e) k.0 (control_tags d' (front vs _ (back us _ q.1))), k.1)
  statement_named (break_statement t c te ce) q = (tt, tt)
  statement_named (continue_statement t c te ce) q = (tt, tt)
  statement_named (return_statement t c {e} {h} {ts} te d ce) q = (part_tags d (front ts _ q.1), tt)

  else_named : {x : (Place × Tree) × StatementTree} {h : ℕ} {ts : List Terminal} → IsElse x h ts → AreNamed ts → All (in_tree x.0.1 ++ in_statement x.1) × Within x.1
  else_named (up_to_else l {at} {e} {x} {m} {n} {us} {vs} d d' le) q =
      let j = statement_named d' (front vs _ (back us _ q)) in (both (in_tree e) (in_statement x) (control_tags d (front us _ q)) j.0, j.1)

  block_named : {x : StatementTree} {h : ℕ} {ts : List Terminal} → IsBlock x h ts → AreNamed ts → Statement x
  block_named (closed c {b} {h} {ts} d ce) q = begun_named d (front ts _ q)

  begun_named : {x : StatementTree} {h : ℕ} {ts : List Terminal} → IsBegun x h ts → AreNamed ts → Statement x
  begun_named (only_declarations d) q = opened_named d q
  begun_named (next_statement {b} {x} {x'} {m} {n} {us} {vs} d d') q =
      let k = begun_named d (front us _ q) in let j = statement_named d' (back us _ q) in (both (in_statement x) (in_statement x') k.0 j.0, (k.1, j.1))

-- ---- members

abbrev pub Part : MemberPart → Type 0
Part (Opens at tag) = IsIdentifier tag
Part (Row at s ds) = All (in_spec s) × AllByRecursion Declarator ds
Part (Closes ds) = AllByRecursion Declarator ds

abbrev pub Specifier : FileSpec → Type 0
Specifier (file.Named s) = All (in_spec s)
Specifier (file.Members ps) = AllByRecursion Part ps

declarators_tags : (ds : List DeclaratorTree) → AllByRecursion Declarator ds → All (in_all in_declarator ds)
declarators_tags ds h = in_each in_declarator Declarator (λ d k. k.0) ds h

member_tags : (p : MemberPart) → Part p → All (in_member p)
member_tags (Opens at tag) h = (h, tt)
member_tags (Row at s ds) h = both (in_spec s) (in_all in_declarator ds) h.0 (declarators_tags ds h.1)
member_tags (Closes ds) h = declarators_tags ds h

file_spec_tags : (s : FileSpec) → Specifier s → All (in_file_spec s)
file_spec_tags (file.Named s) h = h
file_spec_tags (file.Members ps) h = in_each in_member Part member_tags ps h

declarators_named : {ds : List DeclaratorTree} {h : ℕ} {ts : List Terminal} → AreDeclarators ds h ts → AreNamed ts → AllByRecursion Declarator ds
declarators_named (one_declarator d) q = (declarator_named d q, tt)
declarators_named (more_declarators t {d} {ds} {m} {n} {us} {vs} ds' te d') q = one_more Declarator ds d (declarators_named ds' (front us _ q)) (declarator_named d' (back us _ q).1)

parts_append : (ps qs : List MemberPart) → AllByRecursion Part ps → AllByRecursion Part qs → AllByRecursion Part (ps ++ qs)
parts_append [] qs h k = k
parts_append (p ∷ ps) qs h k = (h.0, parts_append ps qs h.1 k)

members_named : {ps : List MemberPart} {h : ℕ} {ts : List Terminal} → AreMembers ps h ts → AreNamed ts → AllByRecursion Part ps
members_named (no_members t tag o te ne oe) q = (words.named tag ne q.1.0, tt)
members_named (named_row c {ps} {base} {at} {ds} {m} {n} {us} {vs} {ws} d sd fd ds' ce) q =
    let b = back us _ q in one_more Part ps (Row at base ds) (members_named d (front us _ q)) (spec_tag sd (front vs _ b), declarators_named ds' (front ws _ (back vs _ b)))
members_named (struct_row o c {ps} {qs} {ds} {l} {m} {n} {us} {vs} {ws} d d' oe ds' ce) q =
    let b = back us _ q in
    parts_append ps (qs ++ Closes ds ∷ []) (members_named d (front us _ q)) (one_more Part qs (Closes ds) (members_named d' (front vs _ b)) (declarators_named ds' (front ws _ (back vs _ b).1)))

file_spec_named : {s : FileSpec} {h : ℕ} {ts : List Terminal} → IsFileSpec s h ts → AreNamed ts → Specifier s
file_spec_named (named_spec sd) q = spec_tag sd q
file_spec_named (struct_spec c {ps} {h} {ts} d ce) q = members_named d (front ts _ q)

-- ---- external declarations

file_name_named : {d : Declared} {h : ℕ} {ts : List Terminal} → IsFileDeclared d h ts → AreNamed ts → Name d
file_name_named (bare {d} {h} {ts} d') q = let k = declarator_named d' q in (both (in_declarator d) [] k.0 tt, k.1)
file_name_named (with_value t {d} {i} {m} {n} {us} {vs} d' te i') q =
    let k = declarator_named d' (front us _ q) in (both (in_declarator d) (in_initial i) k.0 (initial_named i' (back us _ q).1), k.1)

file_names_named : {ds : List Declared} {h : ℕ} {ts : List Terminal} → AreFileDeclared ds h ts → AreNamed ts → AllByRecursion Name ds
file_names_named (one_file_name d) q = (file_name_named d q, tt)
file_names_named (more_file_names t {d} {ds} {m} {n} {us} {vs} ds' te d') q = one_more Name ds d (file_names_named ds' (front us _ q)) (file_name_named d' (back us _ q).1)

abbrev pub Outer : External → Type 0
Outer (Declaration h) = Specifier h.spec × AllByRecursion Name h.names
Outer (Definition h x) = Specifier h.spec × Declarator h.declarator × Statement x

head_named : {d : Declaring} {h : ℕ} {ts : List Terminal} → grammar.IsHead d h ts → AreNamed ts → Specifier d.spec × AllByRecursion Name d.names
head_named (only_spec c {st} {f} {at} {h} {us} {vs} sd fd pd ce) q = (file_spec_named fd (front vs _ (back us _ q)), tt)
head_named (with_names c {st} {f} {at} {ds} {m} {n} {us} {vs} {ws} sd fd pd ds' ce) q =
    let b = back us _ q in (file_spec_named fd (front vs _ b), file_names_named ds' (front ws _ (back vs _ b)))

function_head_named : {d : FunctionHead} {h : ℕ} {ts : List Terminal} → IsFunctionHead d h ts → AreNamed ts → Specifier d.spec × Declarator d.declarator
function_head_named (function_head {st} {f} {at} {d} {m} {n} {us} {vs} {ws} sd fd pd d') q =
    let b = back us _ q in (file_spec_named fd (front vs _ b), declarator_named d' (back vs _ b))

external_named : {e : External} {h : ℕ} {ts : List Terminal} → IsExternal e h ts → AreNamed ts → Outer e
external_named (declaration d) q = head_named d q
external_named (definition {d} {x} {m} {n} {us} {vs} d' x') q = let k = function_head_named d' (front us _ q) in (k.0, k.1, block_named x' (back us _ q))

unit_named : {es : List External} {h : ℕ} {ts : List Terminal} → IsUnit es h ts → AreNamed ts → AllByRecursion Outer es
unit_named (first_external d) q = (external_named d q, tt)
unit_named (next_external {es} {e} {m} {n} {us} {vs} d d') q = one_more Outer es e (unit_named d (front us _ q)) (external_named d' (back us _ q))

abbrev pub Files : List (List External) → Type 0
Files us = AllByRecursion (AllByRecursion Outer) us

pub files_named : (us : List (List External)) → AllByRecursion IsOfText us → Files us
files_named [] h = tt
files_named (u ∷ us) h = let (text, ts, n, lexes, is) = h.0 in (unit_named is (terminals_named text ts lexes), files_named us h.1)

-- ---- tags

external_tags : (e : External) → Outer e → All (in_external e)
external_tags (Declaration h) k = both (in_file_spec h.spec) (in_all in_declared h.names) (file_spec_tags h.spec k.0) (names_tags h.names k.1)
external_tags (Definition h x) k =
    both (in_file_spec h.spec ++ in_declarator h.declarator) (in_statement x) (both (in_file_spec h.spec) (in_declarator h.declarator) (file_spec_tags h.spec k.0) k.1.0) k.2.0

pub files_tags : (us : List (List External)) → Files us → All (in_all (in_all in_external) us)
files_tags us h = in_each (in_all in_external) (AllByRecursion Outer) (λ u k. in_each in_external Outer external_tags u k) us h
