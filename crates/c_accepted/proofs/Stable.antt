-- What is known of an expression stays as more names are declared that are not in scope.
use Rattle.std.proofs.Common.{◌≡◌, ℕ, suc, true, List, [], refl, ap, ◌∙◌, Option, Some, None}
use Rattle.std.specs.Prelude.{slice_get, map, option_and_then}
use Rattle.c_symbol.specs.declared.symbol.LeafKind.{LeafKind}
use Rattle.c_symbol.specs.declared.symbol.LeafKind.TheVariants as leaf
use Rattle.c_trees.specs.declared.expression.Spec.{Spec}
use Rattle.c_trees.specs.declared.expression.Spec.TheVariants as spec
use Rattle.c_trees.specs.Expressions.{Tree, Leaf, Paren, Index, Call, With, Member, After, Prefix, SizeofType, Cast, Binary, Choice, Stars, Around, Bounded, Unbounded}
use Rattle.c_tree.specs.declared.types.StructDef.{StructDef}
use Rattle.c_typing.specs.Plain.{Plain}
use Rattle.c_typing.specs.Expressions.{Denoted, object_type}
use Rattle.c_judge.specs.Scope.{Scope}
use Rattle.c_judge.specs.Places.{place_of}
use Rattle.c_judge.specs.Answers.{Answer, Known, Broken, ◌then◌, two, joint, both_known}
use Rattle.c_judge.specs.Judgement.{Verdict, judged, calling, within, starred, named, by_rule, variable, register_of, function_of, leaf_of, callee_by, callee_named, name_alone, called, called_name, counted, arguments_in, argument, passed, parameter_at, function_numbered, function_named, with_argument, indexed, member_of, stepped, prefixed, sized, cast_to, joined, chosen_of, bounded, pointers, stars_of, spec_type}
use Rattle.c_scope.specs.Environment.{Environment, Visible, number_of, struct_of, denoted_by, scope}

both : {A B C : Type 0} (f : A → B → Answer C) {a c : Answer A} {b d : Answer B} → a ≡ c → b ≡ d → two f a b ≡ two f c d
both f p q = λ i. two f (p i) (q i)

jointly : {A B C : Type 0} (at : ℕ) (l : A → Option ℕ) (r : B → Option ℕ) (f : A → B → Answer C) {a c : Answer A} {b d : Answer B} → a ≡ c → b ≡ d → joint at l r f a b ≡ joint at l r f c d
jointly at l r f p q = λ i. joint at l r f (p i) (q i)

module _ (visible : List Visible) (defs : List StructDef) (tags : List (List ℕ)) where
  abbrev pub among : (ℕ → ℕ) → List Denoted → Scope
  among literal ns = record {
    among = record { names = ns; defs = defs; strings = [] };
    number = number_of visible;
    tag = struct_of tags;
    literal = literal;
    asks = true;
  }

  module _ (one other : ℕ → ℕ) (ns ms : List Denoted) (same : (text : List ℕ) (n : ℕ) → number_of visible text ≡ Some n → slice_get ms n ≡ slice_get ns n) where
    plain_name : (at : ℕ) (text : List ℕ) (o : Option ℕ) → number_of visible text ≡ o → named (among other ms) at text o ≡ named (among one ns) at text o
    plain_name at text None e = refl
    plain_name at text (Some n) e = ap (λ d. by_rule 21 at (variable (register_of d)) (option_and_then object_type d)) (same text n e)

    plain_leaf : (at : ℕ) (kind : LeafKind) (text : List ℕ) → leaf_of (among other ms) at kind text ≡ leaf_of (among one ns) at kind text
    plain_leaf at leaf.Name text = plain_name at text (number_of visible text) refl
    plain_leaf at (leaf.Constant i) text = refl
    plain_leaf at (leaf.Character c) text = refl
    plain_leaf at leaf.Text text = refl

    plain_spec : (s : Spec) → spec_type (among other ms) s ≡ spec_type (among one ns) s
    plain_spec spec.Char = refl
    plain_spec spec.Int = refl
    plain_spec spec.Unsigned = refl
    plain_spec spec.UnsignedInt = refl
    plain_spec spec.Void = refl
    plain_spec (spec.Struct tag) = refl

    plain_callee_named : (text : List ℕ) (o : Option ℕ) → number_of visible text ≡ o → callee_named (among other ms) text o ≡ callee_named (among one ns) text o
    plain_callee_named text None e = refl
    plain_callee_named text (Some n) e = ap (λ d. Known (function_of d)) (same text n e)

    plain_callee : (o : Option (List ℕ)) (j k : Verdict) → j ≡ k → callee_by (among other ms) o j ≡ callee_by (among one ns) o k
    plain_callee (Some text) j k e = plain_callee_named text (number_of visible text) refl
    plain_callee None j k e = ap (λ x. ◌then◌ x (λ y. Known None)) e

    plain_function : (text : List ℕ) (o : Option ℕ) → number_of visible text ≡ o → function_numbered (among other ms) o ≡ function_numbered (among one ns) o
    plain_function text None e = refl
    plain_function text (Some n) e = ap function_of (same text n e)

    plain_named : (o : Option (List ℕ)) → function_named (among other ms) o ≡ function_named (among one ns) o
    plain_named None = refl
    plain_named (Some text) = plain_function text (number_of visible text) refl

    both_argued : (c : Tree) (at : ℕ) {j k : Verdict} → j ≡ k → ◌then◌ j (argument (among other ms) c at) ≡ ◌then◌ k (argument (among one ns) c at)
    both_argued c at p = λ i. ◌then◌ (p i) (λ x. passed true at (parameter_at true (plain_named (called_name c) i) (arguments_in c)) x)

    plain_stars : (at : ℕ) (d : Tree) (s : Spec) → starred (among other ms) at d (Known (spec_type (among other ms) s)) ≡ starred (among one ns) at d (Known (spec_type (among one ns) s))
    plain_stars at d s = ap (λ t. pointers defs at (stars_of d) t) (plain_spec s)

    mutual
      pub stable : (e : Tree) → judged (among other ms) e ≡ judged (among one ns) e
      stable (Leaf at kind text) = plain_leaf at.at kind text
      stable (Paren at a) = stable a
      stable (Index at a b) = jointly at.at _ _ (indexed defs at.at) (stable a) (stable b)
      stable (Call at f) = ap (λ x. ◌then◌ (◌then◌ x (counted true at.at 0)) called) (plain_callee (name_alone f) _ _ (stable f))
      stable (With c a) = both (λ f x. called f) (uncalled (suc (arguments_in c)) c) (both_argued c (place_of a).at (stable a))
      stable (Member at a w q name) = ap (λ x. ◌then◌ x (member_of defs at.at w name)) (stable a)
      stable (After at a step) = ap (λ x. ◌then◌ x (stepped defs at.at step)) (stable a)
      stable (Prefix at w a) = ap (λ x. ◌then◌ x (prefixed defs at.at w)) (stable a)
      stable (SizeofType at s d) = ap (λ x. ◌then◌ x (sized defs at.at)) (unwritten at.at d _ _ (plain_stars at.at d s))
      stable (Cast at s d a) = jointly at.at _ _ (cast_to at.at) (unwritten at.at d _ _ (plain_stars at.at d s)) (stable a)
      stable (Binary at w a b) = jointly at.at _ _ (joined defs at.at w) (stable a) (stable b)
      stable (Choice at c a b) = jointly at.at _ _ (λ z p. chosen_of at.at z p.0 p.1) (stable c) (jointly at.at _ _ both_known (stable a) (stable b))
      stable (Stars n) = refl
      stable (Around n d) = refl
      stable (Bounded d e) = refl
      stable (Unbounded d) = refl

      uncalled : (n : ℕ) (e : Tree) → calling (among other ms) n e ≡ calling (among one ns) n e
      uncalled k (Call at f) = ap (λ x. ◌then◌ x (counted true at.at k)) (plain_callee (name_alone f) _ _ (stable f))
      uncalled k (With c a) = both with_argument (uncalled k c) (both_argued c (place_of a).at (stable a))
      uncalled k (Leaf at kind text) = refl
      uncalled k (Paren at a) = refl
      uncalled k (Index at a b) = refl
      uncalled k (Member at a w q name) = refl
      uncalled k (After at a step) = refl
      uncalled k (Prefix at w a) = refl
      uncalled k (SizeofType at s d) = refl
      uncalled k (Cast at s d a) = refl
      uncalled k (Binary at w a b) = refl
      uncalled k (Choice at c a b) = refl
      uncalled k (Stars n) = refl
      uncalled k (Around n d) = refl
      uncalled k (Bounded d e) = refl
      uncalled k (Unbounded d) = refl

      unwritten : (at : ℕ) (d : Tree) (t u : Answer Plain) → t ≡ u → within (among other ms) at d t ≡ within (among one ns) at d u
      unwritten at (Stars n) t u h = h
      unwritten at (Around n d) t u h = unwritten at d _ _ (ap (λ x. ◌then◌ x (pointers defs at (stars_of d))) h)
      unwritten at (Bounded d e) t u h = unwritten at d _ _ (both (bounded defs at (place_of e).at) h (stable e))
      unwritten at (Unbounded d) t u h = unwritten at d _ _ (ap (λ x. ◌then◌ x (λ y. Broken 2 at)) h)
      unwritten at (Leaf q kind text) t u h = refl
      unwritten at (Paren q a) t u h = refl
      unwritten at (Index q a b) t u h = refl
      unwritten at (Call q f) t u h = refl
      unwritten at (With c a) t u h = refl
      unwritten at (Member q a w r name) t u h = refl
      unwritten at (After q a step) t u h = refl
      unwritten at (Prefix q w a) t u h = refl
      unwritten at (SizeofType q s d) t u h = refl
      unwritten at (Cast q s d a) t u h = refl
      unwritten at (Binary q w a b) t u h = refl
      unwritten at (Choice q c a b) t u h = refl

-- an environment with more names that are not in scope; nor are the numbers of literals asked for
pub stable_in : (v w : Environment) (one other : ℕ → ℕ) (e : Tree) → w.visible ≡ v.visible → w.defs ≡ v.defs → w.tags ≡ v.tags
    → ((text : List ℕ) (n : ℕ) → number_of v.visible text ≡ Some n → slice_get (map denoted_by w.names) n ≡ slice_get (map denoted_by v.names) n)
    → judged (scope w other) e ≡ judged (scope v one) e
stable_in v w one other e a b c same =
    (λ i. judged (among (a i) (b i) (c i) other (map denoted_by w.names)) e) ∙ stable v.visible v.defs v.tags one other (map denoted_by v.names) (map denoted_by w.names) same e
