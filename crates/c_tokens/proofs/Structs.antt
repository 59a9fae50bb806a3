-- The members of structs: how many a declaration gives, and the terminals that it takes for them.
use Rattle.std.proofs.Common.{◌≡◌, refl, sym, ap, ℕ, zero, suc, ◌+◌, ◌*◌, ◌≤◌, Bool, true, false, List, [], ◌∷◌, ◌++◌, length, length-append, Option, Some, None, arith}
use Rattle.std.proofs.lemmas.List.{length-map}
use Rattle.std.specs.Prelude.{slice_get, ◌==◌, if◌then◌else◌}
use Rattle.c_symbol.specs.declared.terminal.Terminal.{Terminal}
use Rattle.c_trees.specs.declared.expression.Spec.{Spec}
use Rattle.c_trees.specs.Declarators.{DeclaratorTree, begins}
use Rattle.c_trees.specs.declared.declaration.FileSpec.{FileSpec}
use Rattle.c_trees.specs.declared.declaration.FileSpec.TheVariants as file
use Rattle.c_trees.specs.declared.declaration.MemberPart.{MemberPart}
use Rattle.c_trees.specs.declared.declaration.MemberPart.TheVariants.{Opens, Row, Closes}
use Rattle.c_declaration.specs.Grammar.{AreDeclarators, one_declarator, more_declarators, AreMembers, no_members, named_row, struct_row, IsFileSpec, named_spec, struct_spec}
use Rattle.c_mentions.specs.Tags.{in_spec, in_all, in_declarator, in_member, in_file_spec}
use Rattle.c_tree.specs.declared.types.StructDef.{StructDef}
use Rattle.c_typing.specs.Plain.{Plain, Struct}
use Rattle.c_judge.specs.Answers.{Answer, Known, Unknown, Broken, ◌then◌}
use Rattle.c_judge.specs.Judgement.{spec_type, limited}
use Rattle.c_scope.specs.Environment.{Environment, scope_of, struct_of}
use Rattle.c_scope.specs.Declarators.{Shape, Object, Function, shape, name_in}
use Rattle.c_struct.specs.Structs.{Open, Written, written, member, members, IsRowOf, Completes, completed_found}
use Rattle.c_struct.specs.Specifies.{Goes, Ends, Inside, Specifies}
use Rattle.c_tokens.proofs.Spelled.{spec_tokens}
use Rattle.c_tokens.proofs.Declared.{declarator_spelled, tags_of_two, all-append}

-- ---- how many members are declared

abbrev part_members : MemberPart → ℕ
part_members (Opens at tag) = 0
part_members (Row at s ds) = length ds
part_members (Closes ds) = length ds

abbrev parts_members : List MemberPart → ℕ
parts_members [] = 0
parts_members (p ∷ ps) = part_members p + parts_members ps

abbrev pub spec_members : FileSpec → ℕ
spec_members (file.Named s) = 0
spec_members (file.Members ps) = parts_members ps

members-append : (ps qs : List MemberPart) → parts_members (ps ++ qs) ≡ parts_members ps + parts_members qs
members-append [] qs = omega arith
members-append (p ∷ ps) qs = omega (arith, members-append ps qs)

-- a comma less than there are members
declarators_spelled : {ds : List DeclaratorTree} {h : ℕ} {ts : List Terminal} → AreDeclarators ds h ts → 2 * length ds + length (in_all in_declarator ds) ≤ 1 + length ts
declarators_spelled (one_declarator {d} {h} {ts} d') = omega (arith, declarator_spelled d', tags_of_two (in_declarator d) [])
declarators_spelled (more_declarators t {d} {ds} {m} {n} {us} {vs} ds' te d') =
    omega (arith, declarators_spelled ds', declarator_spelled d', length-append ds (d ∷ []), all-append in_declarator ds (d ∷ []), tags_of_two (in_declarator d) [], length-append us (t ∷ vs))

members_spelled : {ps : List MemberPart} {h : ℕ} {ts : List Terminal} → AreMembers ps h ts → 2 * parts_members ps + length (in_all in_member ps) ≤ length ts
members_spelled (no_members t name o te ne oe) = omega arith
members_spelled (named_row c {ps} {base} {at} {ds} {m} {n} {us} {vs} {ws} d sd fd ds' ce) =
    omega (
      arith,
      members_spelled d,
      spec_tokens sd,
      declarators_spelled ds',
      members-append ps (Row at base ds ∷ []),
      all-append in_member ps (Row at base ds ∷ []),
      tags_of_two (in_spec base ++ in_all in_declarator ds) [],
      tags_of_two (in_spec base) (in_all in_declarator ds),
      length-append us (vs ++ (ws ++ c ∷ [])),
      length-append vs (ws ++ c ∷ []),
      length-append ws (c ∷ []),
    )
members_spelled (struct_row o c {ps} {qs} {ds} {l} {m} {n} {us} {vs} {ws} d d' oe ds' ce) =
    omega (
      arith,
      members_spelled d,
      members_spelled d',
      declarators_spelled ds',
      members-append ps (qs ++ Closes ds ∷ []),
      members-append qs (Closes ds ∷ []),
      all-append in_member ps (qs ++ Closes ds ∷ []),
      all-append in_member qs (Closes ds ∷ []),
      tags_of_two (in_all in_declarator ds) [],
      length-append us (vs ++ o ∷ (ws ++ c ∷ [])),
      length-append vs (o ∷ (ws ++ c ∷ [])),
      length-append ws (c ∷ []),
    )

pub file_spec_spelled : {f : FileSpec} {h : ℕ} {ts : List Terminal} → IsFileSpec f h ts → 1 + (2 * spec_members f + length (in_file_spec f)) ≤ length ts
file_spec_spelled (named_spec sd) = omega (arith, spec_tokens sd)
file_spec_spelled (struct_spec c {ps} {h} {ts} d ce) = omega (arith, members_spelled d, length-append ts (c ∷ []))

-- ---- how many members the structs have

abbrev pub count : List StructDef → ℕ
count [] = 0
count (d ∷ ds) = length d.members + count ds

same_get : (n : ℕ) (ds es : List StructDef) → Type 0
same_get n ds es = slice_get es n ≡ slice_get ds n

some_same : (d e : StructDef) → Some e ≡ Some d → length e.members ≡ length d.members
some_same d e h = ap (λ (o : Option StructDef). elim o [ None ↦ 0 | Some x ↦ length x.members ]) h

count_same : (ds es : List StructDef) → length ds ≡ length es → ((n : ℕ) → slice_get es n ≡ slice_get ds n) → count es ≡ count ds
count_same [] [] l h = refl
count_same [] (e ∷ es) l h = absurd (omega (arith, l))
count_same (d ∷ ds) [] l h = absurd (omega (arith, l))
count_same (d ∷ ds) (e ∷ es) l h = omega (arith, some_same d e (h 0), count_same ds es (omega (arith, l)) (λ n. h (suc n)))

abbrev members_of : Option StructDef → ℕ
members_of None = 0
members_of (Some d) = length d.members

later : (n : ℕ) → (suc n == zero) ≡ false
later n = grind arith

earlier : (s : ℕ) → (zero == suc s) ≡ false
earlier s = grind arith

next : (n s : ℕ) → (n == s) ≡ false → (suc n == suc s) ≡ false
next n s e = grind (arith, e)

-- all rows but one are as before
count_with : (s : ℕ) (ds es : List StructDef) → length ds ≡ length es → ((n : ℕ) → (n == s) ≡ false → slice_get es n ≡ slice_get ds n)
    → count es ≤ count ds + members_of (slice_get es s)
count_with s [] [] l h = omega arith
count_with s [] (e ∷ es) l h = absurd (omega (arith, l))
count_with s (d ∷ ds) [] l h = absurd (omega (arith, l))
count_with zero (d ∷ ds) (e ∷ es) l h = omega (arith, count_same ds es (omega (arith, l)) (λ n. h (suc n) (later n)))
count_with (suc s) (d ∷ ds) (e ∷ es) l h = omega (arith, some_same d e (h 0 (earlier s)), count_with s ds es (omega (arith, l)) (λ n k. h (suc n) (next n s k)))

-- ---- what a declaration does

pub then_known : {A B : Type 0} (m : Answer A) (f : A → Answer B) (j : B) → (m then f) ≡ Known j → (x : A) × (m ≡ Known x) × (f x ≡ Known j)
then_known (Known x) f j e = (x, refl, e)
then_known (Unknown n) f j e = absurd cc
then_known (Broken r at) f j e = absurd cc

known_length : (ms more : List Written) → Known ms ≡ Known more → length more ≡ length ms
known_length ms more e = ap (λ (a : Answer (List Written)). elim a [ Known xs ↦ length xs | Unknown n ↦ 0 | Broken r at ↦ 0 ]) (sym e)

object_more : (b : Bool) (ms more : List Written) (w : Written) (at : ℕ) → (if b then Known (ms ++ w ∷ []) else Broken 3 at) ≡ Known more → length more ≡ suc (length ms)
object_more true ms more w at e = omega (arith, length-append ms (w ∷ []), known_length (ms ++ w ∷ []) more e)
object_more false ms more w at e = absurd cc

module _ (v : Environment) where
  member_more : (ms more : List Written) (at : ℕ) (name : List ℕ) (s : Shape) → member v ms at name s ≡ Known more → length more ≡ suc (length ms)
  member_more ms more at name (Object t) e = object_more _ ms more _ at e
  member_more ms more at name (Function t ps) e = absurd cc

  members_more : (ms more : List Written) (t : Plain) (ds : List DeclaratorTree) → members v ms t ds ≡ Known more → length more ≡ length ms + length ds
  members_more ms more t [] e = omega (arith, known_length ms more e)
  members_more ms more t (d ∷ ds) e =
      let (one, f, g) = then_known (shape v d t then member v ms (begins d).at (name_in d)) (λ l. members v l t ds) more e in
      let (s, h, k) = then_known (shape v d t) (member v ms (begins d).at (name_in d)) one f in
      omega (arith, member_more ms one (begins d).at (name_in d) s k, members_more one more t ds g)

row_members : (defs : List StructDef) (o : Open) (x : Option StructDef) → IsRowOf defs o x → members_of x ≡ length o.members
row_members defs o None h = absurd h
row_members defs o (Some d) h = omega (arith, length-map d.members written, ap (λ l. length l) h.0)

completes_count : (v u : Environment) (o : Open) → Completes v o u → count u.defs ≤ count v.defs + length o.members
completes_count v u o (e, (l, r, h)) = omega (arith, count_with (struct_of v.tags o.tag) v.defs u.defs l h, row_members v.defs o (slice_get u.defs (struct_of v.tags o.tag)) r)

goes_count : {A B : Type 0} (x : Answer A) (v w : Environment) (a : Answer B) (P : A → Type 0) (n : ℕ) → count v.defs ≤ n
    → ((y : A) → x ≡ Known y → P y → count w.defs ≤ n) → Goes x v a w P → count w.defs ≤ n
goes_count (Known y) v w a P n le f h = f y refl h
goes_count (Unknown name) v w a P n le f h = omega (arith, le, ap (λ (u : Environment). count u.defs) h.1)
goes_count (Broken r at) v w a P n le f h = omega (arith, le, ap (λ (u : Environment). count u.defs) h.1)

abbrev open_members : List Open → ℕ
open_members [] = 0
open_members (o ∷ os) = length o.members + open_members os

module _ (others : List StructDef) where
  ends_count : (v w : Environment) (o : Open) (a : Answer Plain) (P : Environment → Type 0) (n : ℕ) → count v.defs + length o.members ≤ n
      → ((u : Environment) → count u.defs ≤ count v.defs + length o.members → P u → count w.defs ≤ n) → Ends others v o a w P → count w.defs ≤ n
  ends_count v w o a P n le f h =
      goes_count (completed_found others v o) v w a _ n (omega (arith, le))
      (λ y e g. let c = completes_count v g.0 o g.1 in
      goes_count (limited g.0.defs o.at (Struct (struct_of g.0.tags o.tag))) g.0 w a _ n (omega (arith, le, c)) (λ z k p. f g.0 c p) g.2) h

  at_end : (v w : Environment) (n : ℕ) → w ≡ v → count w.defs ≤ count v.defs + n
  at_end v w n e = omega (arith, ap (λ (u : Environment). count u.defs) e)

  row_count : (v w : Environment) (o : Open) (os : List Open) (s : Spec) (ds : List DeclaratorTree) (ps : List MemberPart) (a : Answer Plain)
      → ((ms : List Written) → Inside others v (record o { members = ms } ∷ os) ps a w → count w.defs ≤ count v.defs + (length ms + (open_members os + parts_members ps)))
      → Goes (members v o.members (spec_type (scope_of v) s) ds) v a w (λ ms. Inside others v (record o { members = ms } ∷ os) ps a w)
      → count w.defs ≤ count v.defs + (length o.members + (open_members os + (length ds + parts_members ps)))
  row_count v w o os s ds ps a f h =
      goes_count (members v o.members (spec_type (scope_of v) s) ds) v w a _ _ (omega arith)
      (λ ms e k. omega (arith, members_more v o.members ms (spec_type (scope_of v) s) ds e, f ms k)) h

  inside_count : (v w : Environment) (os : List Open) (ps : List MemberPart) (a : Answer Plain) → Inside others v os ps a w
      → count w.defs ≤ count v.defs + (open_members os + parts_members ps)
  inside_count v w [] ps a h = at_end v w _ h.1
  inside_count v w (o ∷ []) [] a h = ends_count v w o a _ _ (omega arith) (λ u c p. omega (arith, c, ap (λ (x : Environment). count x.defs) p.1)) h
  inside_count v w (o ∷ p ∷ os) [] a h = at_end v w _ h.1
  inside_count v w (o ∷ []) (Opens at tag ∷ ps) a h = omega (arith, inside_count v w (record { at = at.at; tag = tag; members = [] } ∷ o ∷ []) ps a h)
  inside_count v w (o ∷ p ∷ os) (Opens at tag ∷ ps) a h = omega (arith, inside_count v w (record { at = at.at; tag = tag; members = [] } ∷ o ∷ p ∷ os) ps a h)
  inside_count v w (o ∷ []) (Row at s ds ∷ ps) a h = omega (arith, row_count v w o [] s ds ps a (λ ms k. omega (arith, inside_count v w (record o { members = ms } ∷ []) ps a k)) h)
  inside_count v w (o ∷ p ∷ os) (Row at s ds ∷ ps) a h = omega (arith, row_count v w o (p ∷ os) s ds ps a (λ ms k. omega (arith, inside_count v w (record o { members = ms } ∷ p ∷ os) ps a k)) h)
  inside_count v w (o ∷ []) (Closes ds ∷ ps) a h = at_end v w _ h.1
  inside_count v w (o ∷ p ∷ os) (Closes ds ∷ ps) a h =
      ends_count v w o a _ _ (omega arith)
      (λ u c g. goes_count (members u p.members (Struct (struct_of u.tags o.tag)) ds) u w a _ _ (omega (arith, c))
      (λ ms e k. omega (arith, c, members_more u p.members ms (Struct (struct_of u.tags o.tag)) ds e, inside_count u w (record p { members = ms } ∷ os) ps a k)) g) h

  pub specifies_count : (v w : Environment) (f : FileSpec) (a : Answer Plain) → Specifies others v f a w → count w.defs ≤ count v.defs + spec_members f
  specifies_count v w (file.Named s) a h = at_end v w _ h.1
  specifies_count v w (file.Members []) a h = at_end v w _ h.1
  specifies_count v w (file.Members (Opens at tag ∷ ps)) a h = omega (arith, inside_count v w (record { at = at.at; tag = tag; members = [] } ∷ []) ps a h)
  specifies_count v w (file.Members (Row at s ds ∷ ps)) a h = at_end v w _ h.1
  specifies_count v w (file.Members (Closes ds ∷ ps)) a h = at_end v w _ h.1
