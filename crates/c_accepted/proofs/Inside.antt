-- Behind the type that a declaration begins with, its structs are sound.
use Rattle.std.proofs.Common.{◌≡◌, refl, sym, ap, ◌∙◌, subst, ℕ, List, [], ◌∷◌, ◌++◌, Option, Some, None}
use Rattle.c_trees.specs.declared.declaration.FileSpec.{FileSpec}
use Rattle.c_trees.specs.declared.declaration.FileSpec.TheVariants as file
use Rattle.c_trees.specs.declared.declaration.MemberPart.{MemberPart}
use Rattle.c_trees.specs.declared.declaration.MemberPart.TheVariants.{Opens, Row, Closes}
use Rattle.c_tree.specs.declared.types.StructDef.{StructDef}
use Rattle.c_tree.specs.declared.types.Member.{Member}
use Rattle.c_typing.specs.Plain.{Plain, Struct, is_empty}
use Rattle.c_judge.specs.Answers.{Answer, Known, Unknown, Broken}
use Rattle.c_judge.specs.Judgement.{limited, spec_type}
use Rattle.c_scope.specs.Environment.{Environment, scope_of, struct_of}
use Rattle.c_scope.specs.Findings.{Fine, fine, nothing}
use Rattle.c_mentions.specs.Tags.{in_spec, in_all, in_member, in_file_spec, in_declarator}
use Rattle.c_struct.specs.Structs.{Written, Open, members, Completes, completed_found}
use Rattle.c_struct.specs.Specifies.{Goes, Ends, Inside, Specifies}
use Rattle.c_accepted.specs.Grown.{Grows}
use Rattle.c_accepted.proofs.Growth.{complete_grows}
use Rattle.c_accepted.proofs.Known.{never, one_known}
use Rattle.c_accepted.proofs.Written.{IsNamed}
use Rattle.c_accepted.proofs.Completing.{all_of, made_grows, extended, no_more}
use Rattle.c_accepted.proofs.Shapes.{AreTags, both_tags, spec_named}
use Rattle.c_accepted.proofs.Specified.{IsHeldAs, AreOpen, AllOpen, members_open, Holds, Passes, completed, completed_within}

-- ---- what is known goes on

goes_on : {A B : Type 0} (j : Answer A) (v w : Environment) (a : Answer B) (P : A → Type 0) (t : B) → Goes j v a w P → a ≡ Known t → (x : A) × (j ≡ Known x) × P x
goes_on (Known x) v w a P t h e = (x, refl, h)
goes_on (Unknown n) v w a P t h e = never (Unknown n) t (λ k. k) (sym h.0 ∙ e)
goes_on (Broken r at) v w a P t h e = never (Broken r at) t (λ k. k) (sym h.0 ∙ e)

only_fine : (x : Fine) → x ≡ fine
only_fine fine = refl

unbroken : {B : Type 0} (a : Answer B) (t : B) (r at : ℕ) → a ≡ Broken r at → a ≡ Known t → ⊥
unbroken a t r at e f = never (Broken r at) t (λ k. k) (sym e ∙ f)

-- ---- what is opened stays so

open_grows : (before behind : List StructDef) → Grows before behind → (ws : List Written) → AreOpen before ws → AreOpen behind ws
open_grows before behind g ws o = (all_of (IsHeldAs before) (IsHeldAs behind) (λ w h. (made_grows before behind g w.ctype h.0, complete_grows before behind g w.ctype h.1)) ws o.0, o.1)

abbrev IsOpenIn : List StructDef → Open → Type 0
IsOpenIn defs o = AreOpen defs o.members

opens_grow : (before behind : List StructDef) → Grows before behind → (os : List Open) → AllOpen before os → AllOpen behind os
opens_grow before behind g os h = all_of (IsOpenIn before) (IsOpenIn behind) (λ o k. open_grows before behind g o.members k) os h

module _ (others : List StructDef) where
  pub stays : (v : Environment) → Holds others v → Passes others v v
  stays v h = record { behind = h; extends = no_more v.defs; only = refl }

  same_only : (u v w : Environment) → v ≡ record u { defs = v.defs } → w ≡ record v { defs = w.defs } → w ≡ record u { defs = w.defs }
  same_only u v w e f = f ∙ ap (λ (x : Environment). record x { defs = w.defs }) e

  pub passes_on : (u v w : Environment) → Passes others u v → Passes others v w → Passes others u w
  passes_on u v w p q = record {
    behind = q.behind;
    extends = record {
      count = p.extends.count ∙ q.extends.count;
      rows = λ s e.
          let k = p.extends.rows s e in
          q.extends.rows s (ap (λ r. is_empty (in_row r)) k ∙ e) ∙ k;
    };
    only = same_only u v w p.only q.only;
  }
    where
      in_row : Option StructDef → List Member
      in_row None = []
      in_row (Some d) = d.members

  pub grows_behind : (v w : Environment) → Holds others v → Passes others v w → Grows v.defs w.defs
  grows_behind v w h p = extended v.defs w.defs h.sound p.extends

  pub tags_behind : (v w : Environment) → Passes others v w → w.tags ≡ v.tags
  tags_behind v w p = ap (λ x. x.tags) p.only

  -- what comes behind a type that is known
  pub record Behind (v w : Environment) (t : Plain) : Type 0 where
    pub passes : Passes others v w
    pub named : IsNamed w.defs t

  behind_on : (v u w : Environment) (t : Plain) → Passes others v u → Behind u w t → Behind v w t
  behind_on v u w t p b = record { passes = passes_on v u w p b.passes; named = b.named }

  record Ended (v u : Environment) (o : Open) : Type 0 where
    pub passes : Passes others v u
    pub named : IsNamed u.defs (Struct (struct_of u.tags o.tag))

  struct_named : (v u : Environment) (o : Open) (h : Holds others v) (opened : AreOpen v.defs o.members) (c : Completes v o u) (f : completed_found others v o ≡ nothing) (x : Plain)
      → limited u.defs o.at (Struct (struct_of u.tags o.tag)) ≡ Known x → Ended v u o
  struct_named v u o h opened c f x l =
      let same : u.tags ≡ v.tags = ap (λ w. w.tags) c.0 in
      let k : limited u.defs o.at (Struct (struct_of v.tags o.tag)) ≡ Known x = subst (λ ts. limited u.defs o.at (Struct (struct_of ts o.tag)) ≡ Known x) same l in
      record {
        passes = completed others v u o h opened c f o.at x k;
        named = subst (λ ts. IsNamed u.defs (Struct (struct_of ts o.tag))) (sym same) (completed_within others v u o h opened c f, tt);
      }

  ends : (v w : Environment) (o : Open) (a : Answer Plain) (P : Environment → Type 0) (t : Plain) → Holds others v → AreOpen v.defs o.members → Ends others v o a w P → a ≡ Known t → (u : Environment) × Ended v u o × P u
  ends v w o a P t h opened e k =
      let (x, f, r) = goes_on (completed_found others v o) v w a _ t e k in
      let u = r.0 in
      let (y, l, p) = goes_on (limited u.defs o.at (Struct (struct_of u.tags o.tag))) u w a (λ _. P u) t r.2 k in
      (u, struct_named v u o h opened r.1 (f ∙ ap (λ (z : Fine). Known z) (only_fine x)) y l, p)

  inside : (ps : List MemberPart) (v w : Environment) (os : List Open) (a : Answer Plain) (t : Plain) → Holds others v → AllOpen v.defs os → AreTags v.tags (in_all in_member ps) → Inside others v os ps a w → a ≡ Known t → Behind v w t
  inside ps v w [] a t h opened g i k = absurd (unbroken a t 3 0 i.0 k)
  inside [] v w (o ∷ []) a t h opened g i k =
      let (u, e, p) = ends v w o a _ t h opened.0 i k in
      let same : Struct (struct_of u.tags o.tag) ≡ t = one_known (Struct (struct_of u.tags o.tag)) t (sym p.0 ∙ k) in
      subst (λ x. Behind v x t) (sym p.1) (record { passes = e.passes; named = subst (IsNamed u.defs) same e.named })
  inside [] v w (o ∷ p ∷ os) a t h opened g i k = absurd (unbroken a t 3 0 i.0 k)
  inside (Opens at tag ∷ ps) v w (o ∷ os) a t h opened g i k =
      inside ps v w (record { at = at.at; tag = tag; members = [] } ∷ o ∷ os) a t h ((tt, tt), opened) g.1 i k
  inside (Row at s ds ∷ ps) v w (o ∷ os) a t h opened g i k =
      let q = both_tags v.tags (in_spec s ++ in_all in_declarator ds) (in_all in_member ps) g in
      let r = both_tags v.tags (in_spec s) (in_all in_declarator ds) q.0 in
      let (ms, e, j) = goes_on (members v o.members (spec_type (scope_of v) s) ds) v w a _ t i k in
      inside ps v w (record o { members = ms } ∷ os) a t h (members_open v o.members ms (spec_type (scope_of v) s) ds opened.0 (spec_named v s h.count r.0) e, opened.1) q.1 j k
  inside (Closes ds ∷ ps) v w (o ∷ []) a t h opened g i k = absurd (unbroken a t 3 0 i.0 k)
  inside (Closes ds ∷ ps) v w (o ∷ p ∷ os) a t h opened g i k =
      let (u, e, c) = ends v w o a _ t h opened.0 i k in
      let (ms, f, j) = goes_on (members u p.members (Struct (struct_of u.tags o.tag)) ds) u w a _ t c k in
      let q = both_tags v.tags (in_all in_declarator ds) (in_all in_member ps) g in
      let more = opens_grow v.defs u.defs (grows_behind v u h e.passes) (p ∷ os) opened.1 in
      let tags : AreTags u.tags (in_all in_member ps) = subst (λ ts. AreTags ts (in_all in_member ps)) (sym (tags_behind v u e.passes)) q.1 in
      behind_on v u w t e.passes (inside ps u w (record p { members = ms } ∷ os) a t e.passes.behind (members_open u p.members ms (Struct (struct_of u.tags o.tag)) ds more.0 e.named f, more.1) tags j k)

  -- where the type that a declaration begins with is known, the structs behind it are sound
  pub specified : (s : FileSpec) (v w : Environment) (a : Answer Plain) (t : Plain) → Holds others v → AreTags v.tags (in_file_spec s) → Specifies others v s a w → a ≡ Known t → Behind v w t
  specified (file.Named s) v w a t h g i k =
      let same : spec_type (scope_of v) s ≡ t = one_known (spec_type (scope_of v) s) t (sym i.0 ∙ k) in
      subst (λ x. Behind v x t) (sym i.1) (record { passes = stays v h; named = subst (IsNamed v.defs) same (spec_named v s h.count g) })
  specified (file.Members (Opens at tag ∷ ps)) v w a t h g i k = inside ps v w (record { at = at.at; tag = tag; members = [] } ∷ []) a t h ((tt, tt), tt) g.1 i k
  specified (file.Members []) v w a t h g i k = absurd (unbroken a t 3 0 i.0 k)
  specified (file.Members (Row at s ds ∷ ps)) v w a t h g i k = absurd (unbroken a t 3 0 i.0 k)
  specified (file.Members (Closes ds ∷ ps)) v w a t h g i k = absurd (unbroken a t 3 0 i.0 k)
