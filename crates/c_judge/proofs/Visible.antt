-- Where each name of an expression is in scope, it is judged: no name is left to blame.
use Rattle.std.specs.Prelude.{nat_le, nat_lt, ◌&&◌, ◌||◌, not}
use Rattle.std.proofs.Common.{◌≡◌, ℕ, zero, suc, Bool, true, false, List, [], refl, ap, subst, Option, Some, None, if◌then◌else◌, length}
use Rattle.c_symbol.specs.declared.symbol.LeafKind.{LeafKind}
use Rattle.c_symbol.specs.declared.symbol.LeafKind.TheVariants as leaf
use Rattle.c_symbol.specs.declared.symbol.Access.{Access}
use Rattle.c_symbol.specs.declared.symbol.Access.TheVariants as access
use Rattle.c_symbol.specs.declared.symbol.PrefixOp.{PrefixOp}
use Rattle.c_symbol.specs.declared.symbol.PrefixOp.TheVariants as prefix
use Rattle.c_symbol.specs.declared.symbol.BinaryOp.{BinaryOp}
use Rattle.c_symbol.specs.declared.symbol.BinaryOp.TheVariants as written
use Rattle.c_tree.specs.declared.typed.BinaryOp.{BinaryOp as Operator}
use Rattle.c_tree.specs.declared.types.StructDef.{StructDef}
use Rattle.c_trees.specs.Expressions.{Tree, Leaf, Paren, Index, Call, With, Member, After, Prefix, SizeofType, Cast, Binary, Choice, Stars, Around, Bounded, Unbounded}
use Rattle.c_typing.specs.Plain.{Plain, Pointer, Array, is_void, is_complete}
use Rattle.c_typing.specs.Rules.{size_type}
use Rattle.c_typing.specs.declared.constant.Constant.{Constant}
use Rattle.c_typing.specs.declared.constant.Constant.TheVariants.{Variable, Undefined, Number}
use Rattle.c_judge.specs.Scope.{Scope, defs_of}
use Rattle.c_judge.specs.Answers.{Answer, Known, Unknown, Broken, ◌then◌, two, both_known, alone, unless_broken, joint}
use Rattle.c_judge.specs.Judgement.{Judged, Verdict, Callee, by_rule, judged, calling, within, callee, callee_by, callee_named, name_alone, called, called_name, counted, has_parameters, arguments_in, argument, parameter_at, goes_to, function_named, with_argument, named, leaf_of, indexed, stepped, sized, prefixed, assigned, compound_of, joined, member_of, chosen_of, cast_to, pointer, pointers, limited, array, bound, bounded, starred, stars_of, spec_type, folded, string_of}
use Rattle.c_defs.specs.Depths.{deepest, is_within}
use Rattle.c_typing.specs.Values.{size_of}
use Rattle.c_judge.specs.Places.{place_of}
use Rattle.c_judge.specs.Forms.{first_of, unknown, unknown_leaf, unless_numbered}

abbrev pub IsJudged : {A : Type 0} → Answer A → Type 0
IsJudged (Unknown name) = ⊥
IsJudged _ = Unit {0}

then_judged : {A B : Type 0} (g : A → Answer B) → ((x : A) → IsJudged (g x)) → (j : Answer A) → IsJudged j → IsJudged (◌then◌ j g)
then_judged g k (Known x) h = k x
then_judged g k (Unknown name) h = absurd h
then_judged g k (Broken r at) h = tt

two_judged : {A B C : Type 0} (f : A → B → Answer C) → ((x : A) (y : B) → IsJudged (f x y)) → (a : Answer A) (b : Answer B) → IsJudged a → IsJudged b → IsJudged (two f a b)
two_judged f g (Broken r at) b h k = tt
two_judged f g (Unknown name) b h k = absurd h
two_judged f g (Known x) (Broken r at) h k = tt
two_judged f g (Known x) (Unknown name) h k = absurd k
two_judged f g (Known x) (Known y) h k = g x y

unless_judged : {A : Type 0} (at : ℕ) (o : Option ℕ) (j : Answer A) → IsJudged j → IsJudged (unless_broken at o j)
unless_judged at None j h = h
unless_judged at (Some r) j h = tt

joint_judged : {A B C : Type 0} (at : ℕ) (l : A → Option ℕ) (r : B → Option ℕ) (f : A → B → Answer C) → ((x : A) (y : B) → IsJudged (f x y)) → (a : Answer A) (b : Answer B) → IsJudged a → IsJudged b → IsJudged (joint at l r f a b)
joint_judged at l r f g a b h k = unless_judged at (alone l r a b) (two f a b) (two_judged f g a b h k)

if_judged : {A : Type 0} (b : Bool) (x y : Answer A) → IsJudged x → IsJudged y → IsJudged (if b then x else y)
if_judged true x y h k = h
if_judged false x y h k = k

rule_judged : (r at : ℕ) (f : Plain → Judged) (o : Option Plain) → IsJudged (by_rule r at f o)
rule_judged r at f None = tt
rule_judged r at f (Some t) = tt

sized_judged : (defs : List StructDef) (at : ℕ) (t : Plain) → IsJudged (sized defs at t)
sized_judged defs at t =
    let small = nat_le (size_of defs t) 1048576 in
    let held = folded (Number (size_of defs t)) in
    then_judged (λ j. if small then Known j else Broken 1 at) (λ j. if_judged small (Known j) (Broken 1 at) tt tt) (by_rule 40 at held (size_type defs t)) (rule_judged 40 at held (size_type defs t))

prefixed_judged : (defs : List StructDef) (at : ℕ) (w : PrefixOp) (x : Judged) → IsJudged (prefixed defs at w x)
prefixed_judged defs at (prefix.Step s) x = rule_judged _ at _ _
prefixed_judged defs at prefix.Address x = rule_judged _ at _ _
prefixed_judged defs at prefix.Dereference x = rule_judged _ at _ _
prefixed_judged defs at prefix.Plus x = rule_judged _ at _ _
prefixed_judged defs at prefix.Minus x = rule_judged _ at _ _
prefixed_judged defs at prefix.Complement x = rule_judged _ at _ _
prefixed_judged defs at prefix.Not x = rule_judged _ at _ _
prefixed_judged defs at prefix.Sizeof x = sized_judged defs at x.operand.ctype

assigned_judged : (defs : List StructDef) (at : ℕ) (o : Option Operator) (x y : Judged) → IsJudged (assigned defs at o x y)
assigned_judged defs at None x y = rule_judged _ at _ _
assigned_judged defs at (Some o) x y = rule_judged _ at _ _

joined_judged : (defs : List StructDef) (at : ℕ) (w : BinaryOp) (x y : Judged) → IsJudged (joined defs at w x y)
joined_judged defs at (written.Assign o) x y = assigned_judged defs at (compound_of o) x y
joined_judged defs at written.Comma x y = rule_judged _ at _ _
joined_judged defs at written.LogicalOr x y = rule_judged _ at _ _
joined_judged defs at written.LogicalAnd x y = rule_judged _ at _ _
joined_judged defs at written.BitOr x y = rule_judged _ at _ _
joined_judged defs at written.BitXor x y = rule_judged _ at _ _
joined_judged defs at written.BitAnd x y = rule_judged _ at _ _
joined_judged defs at written.Equal x y = rule_judged _ at _ _
joined_judged defs at written.NotEqual x y = rule_judged _ at _ _
joined_judged defs at written.Less x y = rule_judged _ at _ _
joined_judged defs at written.Greater x y = rule_judged _ at _ _
joined_judged defs at written.LessEqual x y = rule_judged _ at _ _
joined_judged defs at written.GreaterEqual x y = rule_judged _ at _ _
joined_judged defs at written.ShiftLeft x y = rule_judged _ at _ _
joined_judged defs at written.ShiftRight x y = rule_judged _ at _ _
joined_judged defs at written.Add x y = rule_judged _ at _ _
joined_judged defs at written.Subtract x y = rule_judged _ at _ _
joined_judged defs at written.Multiply x y = rule_judged _ at _ _
joined_judged defs at written.Divide x y = rule_judged _ at _ _
joined_judged defs at written.Remainder x y = rule_judged _ at _ _

member_judged : (defs : List StructDef) (at : ℕ) (w : Access) (name : List ℕ) (x : Judged) → IsJudged (member_of defs at w name x)
member_judged defs at access.Dot name x = rule_judged _ at _ _
member_judged defs at access.Arrow name x = rule_judged _ at _ _

counted_judged : (asks : Bool) (at n : ℕ) (f : Callee) → IsJudged (counted asks at n f)
counted_judged asks at n f = if_judged (not asks || has_parameters n f) (Known f) (Broken 29 at) tt tt

limited_judged : (defs : List StructDef) (at : ℕ) (t : Plain) → IsJudged (limited defs at t)
limited_judged defs at t = if_judged (is_within defs deepest t && nat_le (size_of defs t) 1048576) (Known t) (Broken 1 at) tt tt

pointer_judged : (defs : List StructDef) (at : ℕ) (t : Plain) → IsJudged (pointer defs at t)
pointer_judged defs at t = if_judged (is_void t) (Broken 9 at) (limited defs at (Pointer t)) tt (limited_judged defs at (Pointer t))

array_judged : (defs : List StructDef) (at : ℕ) (t : Plain) (n : ℕ) → IsJudged (array defs at t n)
array_judged defs at t n = if_judged (is_complete defs t) (limited defs at (Array t n)) (Broken 2 at) (limited_judged defs at (Array t n)) tt

pointers_judged : (defs : List StructDef) (at n : ℕ) (t : Plain) → IsJudged (pointers defs at n t)
pointers_judged defs at zero t = tt
pointers_judged defs at (suc n) t = then_judged (pointers defs at n) (pointers_judged defs at n) (pointer defs at t) (pointer_judged defs at t)

bound_judged : (at : ℕ) (c : Constant) → IsJudged (bound at c)
bound_judged at (Number n) = if_judged (nat_le 1 n && nat_le n 1048576) (Known n) (Broken 2 at) tt tt
bound_judged at Variable = tt
bound_judged at Undefined = tt

bounded_judged : (defs : List StructDef) (at q : ℕ) (t : Plain) (x : Judged) → IsJudged (bounded defs at q t x)
bounded_judged defs at q t x = then_judged (array defs at t) (array_judged defs at t) (bound q x.constant) (bound_judged q x.constant)

left_none : {A : Type 0} (a b : Option A) → first_of a b ≡ None → a ≡ None
left_none None b h = refl
left_none (Some x) b h = h

right_none : {A : Type 0} (a b : Option A) → first_of a b ≡ None → b ≡ None
right_none None b h = h
right_none (Some x) b h = cc

module _ (v : Scope) where
  numbered_judged : (at : ℕ) (text : List ℕ) (o : Option ℕ) → unless_numbered text o ≡ None → IsJudged (named v at text o)
  numbered_judged at text (Some n) h = rule_judged _ at _ _
  numbered_judged at text None h = cc

  leaf_judged : (at : ℕ) (kind : LeafKind) (text : List ℕ) → unknown_leaf v kind text ≡ None → IsJudged (leaf_of v at kind text)
  leaf_judged at leaf.Name text h = numbered_judged at text (v.number text) h
  leaf_judged at (leaf.Constant i) text h = tt
  leaf_judged at (leaf.Character c) text h = tt
  leaf_judged at leaf.Text text h = if_judged (nat_lt (length text) 1048576) (Known (string_of text)) (Broken 1 at) tt tt

  text_in : Option (List ℕ) → List ℕ
  text_in None = []
  text_in (Some text) = text

  some_same : (word text : List ℕ) → Some word ≡ Some text → unless_numbered word (v.number word) ≡ None → unless_numbered text (v.number text) ≡ None
  unfolding text_in
  some_same word text e h = subst (λ w. unless_numbered w (v.number w) ≡ None) (ap text_in e) h

  named_callee : (text : List ℕ) (o : Option ℕ) → unless_numbered text o ≡ None → IsJudged (callee_named v text o)
  named_callee text (Some n) h = tt
  named_callee text None h = cc

  argument_judged : (c : Tree) (at : ℕ) (x : Judged) → IsJudged (argument v c at x)
  argument_judged c at x = if_judged (goes_to (parameter_at v.asks (function_named v (called_name c)) (arguments_in c)) x.operand) (Known x) (Broken (if v.asks then 29 else 22) at) tt tt

  by_name : (o : Option (List ℕ)) (j : Verdict) → ((text : List ℕ) → o ≡ Some text → unless_numbered text (v.number text) ≡ None) → IsJudged j → IsJudged (callee_by v o j)
  by_name (Some text) j h k = named_callee text (v.number text) (h text refl)
  by_name None j h k = then_judged (λ x. Known None) (λ x. tt) j k

  none_alone : (f : Tree) (text : List ℕ) → unknown v f ≡ None → name_alone f ≡ Some text → unless_numbered text (v.number text) ≡ None
  none_alone (Leaf at leaf.Name word) text h e = some_same word text e h
  none_alone f text h e = cc

  mutual
    judged_visible : (t : Tree) → unknown v t ≡ None → IsJudged (judged v t)
    judged_visible (Leaf at kind text) h = leaf_judged at.at kind text h
    judged_visible (Paren at a) h = judged_visible a h
    judged_visible (Index at a b) h = joint_judged at.at _ _ (indexed (defs_of v) at.at) (λ x y. rule_judged _ at.at _ _) (judged v a) (judged v b) (judged_visible a (left_none (unknown v a) (unknown v b) h)) (judged_visible b (right_none (unknown v a) (unknown v b) h))
    judged_visible (Call at f) h = then_judged called (λ g. tt) _ (then_judged _ (counted_judged v.asks at.at 0) (callee v f (judged v f)) (by_name (name_alone f) (judged v f) (λ text e. none_alone f text h e) (judged_visible f h)))
    judged_visible (With c a) h = two_judged (λ f x. called f) (λ f x. tt) (calling v (suc (arguments_in c)) c) _ (calling_visible (suc (arguments_in c)) c (left_none (unknown v c) (unknown v a) h)) (then_judged _ (argument_judged c (place_of a).at) (judged v a) (judged_visible a (right_none (unknown v c) (unknown v a) h)))
    judged_visible (Member at a w q name) h = then_judged (member_of (defs_of v) at.at w name) (member_judged (defs_of v) at.at w name) (judged v a) (judged_visible a h)
    judged_visible (After at a step) h = then_judged (stepped (defs_of v) at.at step) (λ x. rule_judged _ at.at _ _) (judged v a) (judged_visible a h)
    judged_visible (Prefix at w a) h = then_judged (prefixed (defs_of v) at.at w) (prefixed_judged (defs_of v) at.at w) (judged v a) (judged_visible a h)
    judged_visible (SizeofType at s d) h = then_judged (sized (defs_of v) at.at) (sized_judged (defs_of v) at.at) (within v at.at d (starred v at.at d (Known (spec_type v s)))) (within_visible at.at d _ h (pointers_judged (defs_of v) at.at (stars_of d) (spec_type v s)))
    judged_visible (Cast at s d a) h = joint_judged at.at _ _ (cast_to at.at) (λ t x. rule_judged _ at.at _ _) (within v at.at d (starred v at.at d (Known (spec_type v s)))) (judged v a) (within_visible at.at d _ (left_none (unknown v d) (unknown v a) h) (pointers_judged (defs_of v) at.at (stars_of d) (spec_type v s))) (judged_visible a (right_none (unknown v d) (unknown v a) h))
    judged_visible (Binary at w a b) h = joint_judged at.at _ _ (joined (defs_of v) at.at w) (joined_judged (defs_of v) at.at w) (judged v a) (judged v b) (judged_visible a (left_none (unknown v a) (unknown v b) h)) (judged_visible b (right_none (unknown v a) (unknown v b) h))
    judged_visible (Choice at c a b) h =
        let rest = right_none (unknown v c) (first_of (unknown v a) (unknown v b)) h in
        joint_judged at.at _ _ (λ z p. chosen_of at.at z p.0 p.1) (λ z p. rule_judged _ at.at _ _) (judged v c) _
        (judged_visible c (left_none (unknown v c) (first_of (unknown v a) (unknown v b)) h))
        (joint_judged at.at _ _ both_known (λ x y. tt) (judged v a) (judged v b) (judged_visible a (left_none (unknown v a) (unknown v b) rest)) (judged_visible b (right_none (unknown v a) (unknown v b) rest)))
    judged_visible _ h = tt

    calling_visible : (n : ℕ) (t : Tree) → unknown v t ≡ None → IsJudged (calling v n t)
    calling_visible n (Call at f) h = then_judged _ (counted_judged v.asks at.at n) (callee v f (judged v f)) (by_name (name_alone f) (judged v f) (λ text e. none_alone f text h e) (judged_visible f h))
    calling_visible n (With c a) h = two_judged with_argument (λ f x. tt) (calling v n c) _ (calling_visible n c (left_none (unknown v c) (unknown v a) h)) (then_judged _ (argument_judged c (place_of a).at) (judged v a) (judged_visible a (right_none (unknown v c) (unknown v a) h)))
    calling_visible n _ h = tt

    within_visible : (at : ℕ) (t : Tree) (j : Answer Plain) → unknown v t ≡ None → IsJudged j → IsJudged (within v at t j)
    within_visible at (Stars n) j h k = k
    within_visible at (Around n d) j h k = within_visible at d (starred v at d j) h (then_judged (pointers (defs_of v) at (stars_of d)) (pointers_judged (defs_of v) at (stars_of d)) j k)
    within_visible at (Bounded d e) j h k = within_visible at d _ (left_none (unknown v d) (unknown v e) h) (two_judged (bounded (defs_of v) at (place_of e).at) (bounded_judged (defs_of v) at (place_of e).at) j (judged v e) k (judged_visible e (right_none (unknown v d) (unknown v e) h)))
    within_visible at (Unbounded d) j h k = within_visible at d _ h (then_judged _ (λ u. tt) j k)
    within_visible at _ j h k = tt

  -- no name is left
  pub none_unknown : (t : Tree) (name : List ℕ) → unknown v t ≡ None → judged v t ≡ Unknown name → ⊥
  none_unknown t name h e = subst IsJudged e (judged_visible t h)
