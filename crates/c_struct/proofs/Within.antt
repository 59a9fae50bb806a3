-- Structs in structs, part by part.
use Rattle.std.proofs.Common.{arith, ◌≡◌, ◌<◌, ◌+◌, ℕ, List, [], ◌∷◌, ◌++◌, length, drop, refl, sym, ap, subst, ◌∙◌, Result, Ok, Err}
use Rattle.c_lex.specs.declared.token.Place.{Place}
use Rattle.c_trees.specs.declared.expression.Spec.{Spec}
use Rattle.c_trees.specs.Declarators.{DeclaratorTree}
use Rattle.c_trees.specs.declared.declaration.MemberPart.{MemberPart}
use Rattle.c_trees.specs.declared.declaration.MemberPart.TheVariants.{Opens, Row, Closes}
use Rattle.c_trees.specs.declared.declaration.FileSpec.TheVariants as file
use Rattle.c_tree.specs.declared.types.CType.{CType}
use Rattle.c_tree.specs.declared.types.StructDef.{StructDef}
use Rattle.c_typing.specs.Plain.{Plain, Struct, plain}
use Rattle.c_judge.specs.declared.fault.Fault.{Fault}
use Rattle.c_judge.specs.declared.fault.Fault.TheVariants as fault
use Rattle.c_judge.specs.Answers.{Answer, Known, Unknown, Broken}
use Rattle.c_judge.specs.Judgement.{spec_type}
use Rattle.c_judge.specs.Judges.{IsFault}
use Rattle.c_struct.specs.declared.members.OpenStruct.{OpenStruct}
use Rattle.c_scope.specs.declared.refusal.Refusal.{Refusal}
use Rattle.c_scope.specs.declared.refusal.Refusal.TheVariants.{Rule, NoMemory}
use Rattle.c_struct.specs.declared.specifying.Nesting.{Nesting}
use Rattle.c_scope.specs.Refused.{fault_of}
use Rattle.c_scope.specs.Environment.{Environment, struct_of, scope_of}
use Rattle.c_struct.specs.Structs.{Open, members}
use Rattle.c_struct.specs.Opened.{members_in, HasNames}
use Rattle.c_struct.specs.Specifies.{Goes, Inside, Specifies}
use Rattle.c_struct.specs.Laying.{open_of}
use Rattle.c_struct.specs.Completing.{IsEnded}
use Rattle.c_struct.specs.Nested.{unbalanced, last_first, opens_of, AllNamed, AreNamed, Passes}
use Rattle.c_struct.specs.Specified.{Answers}
use Rattle.c_struct.proofs.Ended.{goes_along, goes_broken, goes_unknown, ends_more, ends_well}

-- ---- the structs that are open

pub one_more : (behind : List Open) (os : List OpenStruct) (o : OpenStruct) → last_first behind (os ++ o ∷ []) ≡ open_of o ∷ last_first behind os
one_more behind [] o = refl
one_more behind (p ∷ os) o = one_more (open_of p ∷ behind) os o

pub named_more : (os : List OpenStruct) (o : OpenStruct) → AllNamed os → HasNames o → AllNamed (os ++ o ∷ [])
named_more [] o h k = (k, tt)
named_more (p ∷ os) o h k = (h.0, named_more os o h.1 k)

pub named_front : (os : List OpenStruct) (o : OpenStruct) → AllNamed (os ++ o ∷ []) → AllNamed os × HasNames o
named_front [] o h = (tt, h.0)
named_front (p ∷ os) o h = let k = named_front os o h.1 in ((h.0, k.0), k.1)

-- a struct with other members
pub same_open : (o p : OpenStruct) → p.at ≡ o.at → p.tag ≡ o.tag → record (open_of o) { members = members_in p } ≡ open_of p
same_open o p h k = λ i. record { at = sym h i; tag = (sym k i).now; members = members_in p }

-- ---- parts

module _ (others : List StructDef) where
  inside_opens : (v : Environment) (o : Open) (os : List Open) (at : Place) (tag : List ℕ) (ps : List MemberPart) (a : Answer Plain) (w : Environment)
      → Inside others v (record { at = at.at; tag = tag; members = [] } ∷ o ∷ os) ps a w → Inside others v (o ∷ os) (Opens at tag ∷ ps) a w
  inside_opens v o [] at tag ps a w h = h
  inside_opens v o (p ∷ os) at tag ps a w h = h

  inside_row : (v : Environment) (o : Open) (os : List Open) (at : Place) (s : Spec) (ds : List DeclaratorTree) (ps : List MemberPart) (a : Answer Plain) (w : Environment)
      → Goes (members v o.members (spec_type (scope_of v) s) ds) v a w (λ ms. Inside others v (record o { members = ms } ∷ os) ps a w) → Inside others v (o ∷ os) (Row at s ds ∷ ps) a w
  inside_row v o [] at s ds ps a w h = h
  inside_row v o (p ∷ os) at s ds ps a w h = h

  pub opened_passes : (v : Environment) (n m : Nesting) (at : Place) (tag : List ℕ) → AreNamed n → HasNames m.inner → m.outer.items ≡ (n.outer.items ++ n.inner ∷ [])
      → open_of m.inner ≡ record { at = at.at; tag = tag; members = [] } → Passes others v (opens_of n) (Opens at tag) v (Ok m)
  opened_passes v n m at tag h k e o = (
    (k, subst AllNamed (sym e) (named_more n.outer.items n.inner h.1 h.0)),
    λ ps a x i. inside_opens v (open_of n.inner) (last_first [] n.outer.items) at tag ps a x
        (subst (λ os. Inside others v os ps a x) ((λ j. o j ∷ last_first [] (e j)) ∙ ap (λ os. record { at = at.at; tag = tag; members = [] } ∷ os) (one_more [] n.outer.items n.inner)) i),
  )

  pub row_passes : (v : Environment) (n m : Nesting) (at : Place) (s : Spec) (ds : List DeclaratorTree) → AreNamed n → HasNames m.inner → m.outer.items ≡ n.outer.items
      → m.inner.at ≡ n.inner.at → m.inner.tag ≡ n.inner.tag → members v (members_in n.inner) (spec_type (scope_of v) s) ds ≡ Known (members_in m.inner)
      → Passes others v (opens_of n) (Row at s ds) v (Ok m)
  row_passes v n m at s ds h k e p q g = (
    (k, subst AllNamed (sym e) h.1),
    λ ps a x i. inside_row v (open_of n.inner) (last_first [] n.outer.items) at s ds ps a x
        (goes_along (members v (members_in n.inner) (spec_type (scope_of v) s) ds) (members_in m.inner) v a x _ g
        (subst (λ os. Inside others v os ps a x) (λ j. sym (same_open n.inner m.inner p q) j ∷ last_first [] (e j)) i)),
  )

  pub row_fails : (v : Environment) (n : Nesting) (at : Place) (s : Spec) (ds : List DeclaratorTree) (f : Fault) → IsFault (members v (members_in n.inner) (spec_type (scope_of v) s) ds) f
      → Passes others v (opens_of n) (Row at s ds) v (Err f)
  row_fails v n at s ds (fault.Unknown name) h = λ ps. (v, inside_row v (open_of n.inner) (last_first [] n.outer.items) at s ds ps (Unknown name) v (goes_unknown (members v (members_in n.inner) (spec_type (scope_of v) s) ds) name v _ h))
  row_fails v n at s ds (fault.Rule r k) h = λ ps. (v, inside_row v (open_of n.inner) (last_first [] n.outer.items) at s ds ps (Broken r k) v (goes_broken (members v (members_in n.inner) (spec_type (scope_of v) s) ds) r k v _ h))
  row_fails v n at s ds fault.NoMemory h = tt

  -- a `}` with no struct around it
  pub unbalanced_close : (v w : Environment) (n : Nesting) (ds : List DeclaratorTree) → n.outer.items ≡ [] → Passes others v (opens_of n) (Closes ds) w (Err unbalanced)
  unbalanced_close v w n ds e = λ ps. (v, subst (λ os. Inside others v (open_of n.inner ∷ last_first [] os) (Closes ds ∷ ps) (Broken 3 0) v) (sym e) (refl, refl))

  abbrev closed : Environment → Open → Open → List Open → List DeclaratorTree → List MemberPart → Answer Plain → Environment → Environment → Type 0
  closed v o p os ds ps a x u = Goes (members u p.members (Struct (struct_of u.tags o.tag)) ds) u a x (λ ms. Inside others u (record p { members = ms } ∷ os) ps a x)

  opens_closed : (n : Nesting) (p : OpenStruct) (os : List OpenStruct) → n.outer.items ≡ (os ++ p ∷ []) → opens_of n ≡ open_of n.inner ∷ open_of p ∷ last_first [] os
  opens_closed n p os e = ap (λ qs. open_of n.inner ∷ last_first [] qs) e ∙ ap (λ qs. open_of n.inner ∷ qs) (one_more [] os p)

  pub close_refused : (v w z : Environment) (n : Nesting) (p : OpenStruct) (os : List OpenStruct) (ds : List DeclaratorTree) (why : Refusal) → n.outer.items ≡ (os ++ p ∷ [])
      → IsEnded others v (open_of n.inner) w (Err why) → Passes others v (opens_of n) (Closes ds) z (Err (fault_of why))
  close_refused v w z n p os ds (Rule r at) e h = λ ps. (
    h.0,
    subst (λ qs. Inside others v qs (Closes ds ∷ ps) (Broken r at) h.0) (sym (opens_closed n p os e))
        (ends_more others v (open_of n.inner) (Broken r at) h.0 (closed v (open_of n.inner) (open_of p) (last_first [] os) ds ps (Broken r at) h.0) h.1),
  )
  close_refused v w z n p os ds NoMemory e h = tt

  pub close_passes : (v u : Environment) (n m : Nesting) (p : OpenStruct) (os : List OpenStruct) (ds : List DeclaratorTree) (t : CType) → n.outer.items ≡ (os ++ p ∷ [])
      → AreNamed n → IsEnded others v (open_of n.inner) u (Ok t) → HasNames m.inner → m.outer.items ≡ os → m.inner.at ≡ p.at → m.inner.tag ≡ p.tag
      → members u (members_in p) (plain t) ds ≡ Known (members_in m.inner) → Passes others v (opens_of n) (Closes ds) u (Ok m)
  close_passes v u n m p os ds t e h d k f q r g = (
    (k, subst AllNamed (sym f) (named_front os p (subst AllNamed e h.1)).0),
    λ ps a x i. subst (λ qs. Inside others v qs (Closes ds ∷ ps) a x) (sym (opens_closed n p os e))
        (ends_well others v (open_of n.inner) u a x (closed v (open_of n.inner) (open_of p) (last_first [] os) ds ps a x) d.0 d.1 d.2
        (goes_along (members u (members_in p) (Struct (struct_of u.tags n.inner.tag.now)) ds) (members_in m.inner) u a x _ (ap (λ s. members u (members_in p) s ds) (sym d.3) ∙ g)
        (subst (λ qs. Inside others u qs ps a x) (λ j. sym (same_open p m.inner q r) j ∷ last_first [] (f j)) i))),
  )

  pub close_fails : (v u : Environment) (n : Nesting) (p : OpenStruct) (os : List OpenStruct) (ds : List DeclaratorTree) (t : CType) (f : Fault) → n.outer.items ≡ (os ++ p ∷ [])
      → IsEnded others v (open_of n.inner) u (Ok t) → IsFault (members u (members_in p) (plain t) ds) f → Passes others v (opens_of n) (Closes ds) u (Err f)
  close_fails v u n p os ds t (fault.Unknown name) e d h = λ ps. (
    u,
    subst (λ qs. Inside others v qs (Closes ds ∷ ps) (Unknown name) u) (sym (opens_closed n p os e))
        (ends_well others v (open_of n.inner) u (Unknown name) u (closed v (open_of n.inner) (open_of p) (last_first [] os) ds ps (Unknown name) u) d.0 d.1 d.2
        (goes_unknown (members u (members_in p) (Struct (struct_of u.tags n.inner.tag.now)) ds) name u _ (ap (λ s. members u (members_in p) s ds) (sym d.3) ∙ h))),
  )
  close_fails v u n p os ds t (fault.Rule r at) e d h = λ ps. (
    u,
    subst (λ qs. Inside others v qs (Closes ds ∷ ps) (Broken r at) u) (sym (opens_closed n p os e))
        (ends_well others v (open_of n.inner) u (Broken r at) u (closed v (open_of n.inner) (open_of p) (last_first [] os) ds ps (Broken r at) u) d.0 d.1 d.2
        (goes_broken (members u (members_in p) (Struct (struct_of u.tags n.inner.tag.now)) ds) r at u _ (ap (λ s. members u (members_in p) s ds) (sym d.3) ∙ h))),
  )
  close_fails v u n p os ds t fault.NoMemory e d h = tt

  -- ---- the end of the parts

  not_all : (v : Environment) (o : Open) (os : List OpenStruct) → 0 < length os → (behind : List Open) → Inside others v (o ∷ last_first behind os) [] (Broken 3 0) v
  not_all v o [] h behind = absurd (omega arith)
  not_all v o (p ∷ []) h behind = (refl, refl)
  not_all v o (p ∷ q ∷ os) h behind = not_all v o (q ∷ os) (omega arith) (open_of p ∷ behind)

  pub left_open : (v w : Environment) (n : Nesting) → 0 < length n.outer.items → Answers (Inside others v (opens_of n) []) (Err unbalanced) w
  left_open v w n h = (v, not_all v (open_of n.inner) n.outer.items h [])

  pub all_closed : (v u : Environment) (n : Nesting) (t : CType) → n.outer.items ≡ [] → IsEnded others v (open_of n.inner) u (Ok t) → Answers (Inside others v (opens_of n) []) (Ok t) u
  all_closed v u n t e d =
      subst (λ os. Inside others v (open_of n.inner ∷ last_first [] os) [] (Known (plain t)) u) (sym e)
      (ends_well others v (open_of n.inner) u (Known (plain t)) u (λ w. (Known (plain t) ≡ Known (Struct (struct_of w.tags n.inner.tag.now))) × (u ≡ w)) d.0 d.1 d.2 (ap Known d.3, refl))

  pub all_refused : (v u w : Environment) (n : Nesting) (why : Refusal) → n.outer.items ≡ [] → IsEnded others v (open_of n.inner) u (Err why) → Answers (Inside others v (opens_of n) []) (Err (fault_of why)) w
  all_refused v u w n (Rule r at) e h = (
    h.0,
    subst (λ os. Inside others v (open_of n.inner ∷ last_first [] os) [] (Broken r at) h.0) (sym e)
        (ends_more others v (open_of n.inner) (Broken r at) h.0 (λ x. (Broken r at ≡ Known (Struct (struct_of x.tags n.inner.tag.now))) × (h.0 ≡ x)) h.1),
  )
  all_refused v u w n NoMemory e h = tt

  -- ---- one part after another

  pub part_fails : (v w z : Environment) (os : List Open) (parts : List MemberPart) (i : ℕ) (p : MemberPart) (f : Fault) (Q : Answer Plain → Environment → Type 0) → drop i parts ≡ (p ∷ drop (i + 1) parts)
      → Passes others v os p w (Err f) → ((a : Answer Plain) (x : Environment) → Inside others v os (drop i parts) a x → Q a x) → Answers Q (Err f) z
  part_fails v w z os parts i p (fault.Unknown name) Q e h g = let k = h (drop (i + 1) parts) in (k.0, g (Unknown name) k.0 (subst (λ ps. Inside others v os ps (Unknown name) k.0) (sym e) k.1))
  part_fails v w z os parts i p (fault.Rule r at) Q e h g = let k = h (drop (i + 1) parts) in (k.0, g (Broken r at) k.0 (subst (λ ps. Inside others v os ps (Broken r at) k.0) (sym e) k.1))
  part_fails v w z os parts i p fault.NoMemory Q e h g = tt

  pub answers_more : (r : Result CType Fault) (w : Environment) (P Q : Answer Plain → Environment → Type 0) → ((a : Answer Plain) (x : Environment) → P a x → Q a x) → Answers P r w → Answers Q r w
  answers_more (Ok t) w P Q g h = g (Known (plain t)) w h
  answers_more (Err (fault.Unknown name)) w P Q g h = (h.0, g (Unknown name) h.0 h.1)
  answers_more (Err (fault.Rule r at)) w P Q g h = (h.0, g (Broken r at) h.0 h.1)
  answers_more (Err fault.NoMemory) w P Q g h = tt

  -- parts that do not begin with a struct
  pub no_parts : (v : Environment) (ps : List MemberPart) → ps ≡ [] → Specifies others v (file.Members ps) (Broken 3 0) v
  no_parts v ps e = subst (λ qs. Specifies others v (file.Members qs) (Broken 3 0) v) (sym e) (refl, refl)

  pub row_first : (v : Environment) (ps : List MemberPart) (p : MemberPart) (at : Place) (s : Spec) (ds : List DeclaratorTree) → ps ≡ (p ∷ drop 1 ps) → p ≡ Row at s ds → Specifies others v (file.Members ps) (Broken 3 0) v
  row_first v ps p at s ds e f = subst (λ qs. Specifies others v (file.Members qs) (Broken 3 0) v) (sym (e ∙ ap (λ q. q ∷ drop 1 ps) f)) (refl, refl)

  pub close_first : (v : Environment) (ps : List MemberPart) (p : MemberPart) (ds : List DeclaratorTree) → ps ≡ (p ∷ drop 1 ps) → p ≡ Closes ds → Specifies others v (file.Members ps) (Broken 3 0) v
  close_first v ps p ds e f = subst (λ qs. Specifies others v (file.Members qs) (Broken 3 0) v) (sym (e ∙ ap (λ q. q ∷ drop 1 ps) f)) (refl, refl)
