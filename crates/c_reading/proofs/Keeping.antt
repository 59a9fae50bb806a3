-- What the checker of a session takes keeps to the typing rules.
use Rattle.std.proofs.Common.{◌≡◌, refl, sym, ap, ◌∙◌, subst, ℕ, List, Bool, true, false, Option, Some, None}
use Rattle.std.specs.Prelude.{slice_get, nat_le, ◌&&◌, if◌then◌else◌, option_and_then}
use Rattle.ldb_words.specs.Word.{word_of_signed}
use Rattle.c_lex.specs.declared.token.Place.{Place}
use Rattle.c_symbol.specs.declared.symbol.LeafKind.{LeafKind}
use Rattle.c_symbol.specs.declared.symbol.LeafKind.TheVariants as leaf
use Rattle.c_symbol.specs.declared.symbol.Access.{Access}
use Rattle.c_symbol.specs.declared.symbol.Access.TheVariants as access
use Rattle.c_symbol.specs.declared.symbol.PrefixOp.{PrefixOp}
use Rattle.c_symbol.specs.declared.symbol.PrefixOp.TheVariants as prefix
use Rattle.c_symbol.specs.declared.symbol.AssignOp.TheVariants as assign
use Rattle.c_symbol.specs.declared.symbol.BinaryOp.{BinaryOp as Written}
use Rattle.c_symbol.specs.declared.symbol.BinaryOp.TheVariants as written
use Rattle.c_trees.specs.Expressions.{Tree, Leaf, Paren, Index, Call, With, Member, After, Prefix, SizeofType, Cast, Binary, Choice}
use Rattle.c_tree.specs.declared.typed.BinaryOp.{BinaryOp}
use Rattle.c_tree.specs.declared.typed.BinaryOp.TheVariants as op
use Rattle.c_tree.specs.declared.typed.UnaryOp.{UnaryOp}
use Rattle.c_tree.specs.declared.typed.UnaryOp.TheVariants.{Plus, Minus, Complement, Not}
use Rattle.c_tree.specs.declared.typed.Typed.{Typed}
use Rattle.c_tree.specs.declared.typed.Typed.TheVariants.{Comma', Assign', Choice', Or', And', Binary', Cast', Address', Follow', Unary', SizeOf', SizeOfType, Index', Dot', Arrow', Name, Constant, Parens'}
use Rattle.c_tree.specs.Types.{type_of}
use Rattle.c_source.specs.Meaning.{IsPlain, IsAssignment}
use Rattle.c_typing.specs.Plain.{Plain, Int, Unsigned, plain, value_type, is_integer}
use Rattle.c_typing.specs.Rules.{only, unary_type, followed, address_type, dot_type, arrow_type, index_type, binary_type, assignment_type, logical_type, choice_type, comma_type, cast_type, size_type, may_drop}
use Rattle.c_typing.specs.Expressions as typing
use Rattle.c_typing.specs.Expressions.{Denoted, Object, Function, Hidden, name_type, operand, value, is_lvalue, is_string, is_register, is_constant_type}
use Rattle.c_typing.specs.Constants as constants
use Rattle.c_defs.specs.Members.{member_number}
use Rattle.c_typing.specs.declared.constant.Constant.TheVariants as folds
use Rattle.c_judge.specs.Scope.{Scope, pointed_number}
use Rattle.c_judge.specs.Answers.{Answer, Known, Unknown, Broken, ◌then◌, two, both_known, alone, unless_broken, joint}
use Rattle.c_typing.specs.Values as values
use Rattle.c_judge.specs.Judgement.{Judged, value_type_of, object, variable, folded, by_rule, judged, declared, spec_type, unary, sized, cast_to, indexed, prefixed, joined, operation, assigned, member_of, chosen_of, named, leaf_of, register_of, integer_type, rule_of, index_alone, cast_alone, cast_operand_alone, left_alone, right_alone, scalar_alone, branches_alone}
use Rattle.c_judge.specs.Forms.{first_of, forbidden_leaf, forbidden_prefix, forbidden_binary, forbidden, forbidden_beside, forbidden_as}
use Rattle.c_judge.specs.Checks.{IsKnown}
use Rattle.c_judge.specs.Elaboration.{HasHead, Elaborates, IsUnary, IsPrefixed, IsAssigned, IsOperation, IsJoined, IsParen, IsIndex, IsMember, IsChoice, IsCast, IsSizeOfType, IsConstant, IsLeaf, AreArguments, type_in}
use Rattle.c_reading.specs.Kept.{KeepsRules}
use Rattle.c_reading.proofs.Meanings.{one_some, one_known, no_some}

-- ---- answers

unknown_known : {A B : Type 0} (m : Answer A) (x : A) → (IsKnown m → ⊥) → m ≡ Known x → B
unknown_known {A} {B} m x n e = absurd (n (subst IsKnown (sym e) tt))

then_known : {A B : Type 0} (m : Answer A) (f : A → Answer B) (j : B) → (m then f) ≡ Known j → (x : A) × (m ≡ Known x) × (f x ≡ Known j)
then_known (Known x) f j e = (x, refl, e)
then_known (Unknown n) f j e = unknown_known (Unknown n) j (λ k. k) e
then_known (Broken r at) f j e = unknown_known (Broken r at) j (λ k. k) e

two_known : {A B C : Type 0} (f : A → B → Answer C) (a : Answer A) (b : Answer B) (j : C) → two f a b ≡ Known j → (x : A) × (y : B) × (a ≡ Known x) × (b ≡ Known y) × (f x y ≡ Known j)
two_known f (Known x) (Known y) j e = (x, y, refl, refl, e)
two_known f (Known x) (Unknown n) j e = unknown_known (Unknown n) j (λ k. k) e
two_known f (Known x) (Broken r at) j e = unknown_known (Broken r at) j (λ k. k) e
two_known f (Unknown n) (Known y) j e = unknown_known (Unknown n) j (λ k. k) e
two_known f (Unknown n) (Unknown m) j e = unknown_known (Unknown n) j (λ k. k) e
two_known f (Unknown n) (Broken r at) j e = unknown_known (Broken r at) j (λ k. k) e
two_known f (Broken r at) b j e = unknown_known (Broken r at) j (λ k. k) e

unbroken : {C : Type 0} (at : ℕ) (o : Option ℕ) (k : Answer C) (j : C) → unless_broken at o k ≡ Known j → k ≡ Known j
unbroken at None k j e = e
unbroken at (Some r) k j e = unknown_known (Broken r at) j (λ k. k) e

joint_known : {A B C : Type 0} (at : ℕ) (g : A → Option ℕ) (h : B → Option ℕ) (f : A → B → Answer C) (a : Answer A) (b : Answer B) (j : C) → joint at g h f a b ≡ Known j
    → (x : A) × (y : B) × (a ≡ Known x) × (b ≡ Known y) × (f x y ≡ Known j)
joint_known at g h f a b j e = two_known f a b j (unbroken at (alone g h a b) (two f a b) j e)

ruled : (r at : ℕ) (f : Plain → Judged) (o : Option Plain) (j : Judged) → by_rule r at f o ≡ Known j → (t : Plain) × (o ≡ Some t) × (f t ≡ j)
ruled r at f None j e = unknown_known (Broken r at) j (λ k. k) e
ruled r at f (Some t) j e = (t, refl, one_known (f t) j e)

only_this : (b : Bool) (t r : Plain) → only b t ≡ Some r → t ≡ r
only_this true t r e = one_some t r e
only_this false t r e = no_some r e

neither : {A : Type 0} (x y : Option A) → first_of x y ≡ None → (x ≡ None) × (y ≡ None)
neither None y e = (refl, e)
neither (Some x) y e = no_some x (sym e)

pub known_first : {A B : Type 0} (m : Answer A) (f : A → Answer B) → IsKnown (m then f) → (x : A) × (m ≡ Known x)
known_first (Known x) f k = (x, refl)
known_first (Unknown n) f k = absurd k
known_first (Broken r at) f k = absurd k

register_same : (o : Option Denoted) → typing.register_in o ≡ register_of o
register_same None = refl
register_same (Some (Object t r)) = refl
register_same (Some (Function r ts)) = refl
register_same (Some Hidden) = refl

module _ (v : Scope) where
  abbrev s : typing.Scope
  s = v.among

  -- what is known of an expression holds of its typed tree
  pub record Told (z : Typed) (j : Judged) : Type 0 where
    pub plainly : IsPlain z
    pub keeps : KeepsRules s z
    pub ctype : plain (type_of z) ≡ j.operand.ctype
    pub lvalue : is_lvalue z ≡ j.operand.lvalue
    pub register : is_register s z ≡ j.operand.register
    pub string : is_string z ≡ j.operand.string
    pub null : values.is_null j.constant ≡ j.operand.null
    pub constant : constants.constant s.defs z ≡ j.constant

  value_is : (z : Typed) (j : Judged) → Told z j → value s z ≡ value_type_of j
  value_is z j k = ap value_type k.ctype

  operand_is : (z : Typed) (j : Judged) → Told z j → operand s z ≡ j.operand
  operand_is z j k =
      let o = j.operand in
      let n : constants.is_null s.defs z ≡ o.null = ap values.is_null k.constant ∙ k.null in
      ap (λ t. record { ctype = t; lvalue = is_lvalue z; register = is_register s z; string = is_string z; null = constants.is_null s.defs z }) k.ctype
      ∙ ap (λ b. record { ctype = o.ctype; lvalue = b; register = is_register s z; string = is_string z; null = constants.is_null s.defs z }) k.lvalue
      ∙ ap (λ b. record { ctype = o.ctype; lvalue = o.lvalue; register = b; string = is_string z; null = constants.is_null s.defs z }) k.register
      ∙ ap (λ b. record { ctype = o.ctype; lvalue = o.lvalue; register = o.register; string = b; null = constants.is_null s.defs z }) k.string
      ∙ ap (λ b. record { ctype = o.ctype; lvalue = o.lvalue; register = o.register; string = o.string; null = b }) n

  made : (z : Typed) (k j : Judged) → k ≡ j → IsPlain z → KeepsRules s z → plain (type_of z) ≡ j.operand.ctype → is_lvalue z ≡ k.operand.lvalue → is_register s z ≡ k.operand.register → is_string z ≡ k.operand.string
      → values.is_null k.constant ≡ k.operand.null → constants.constant s.defs z ≡ k.constant → Told z j
  made z k j e pl ke c l r st n co = record {
    plainly = pl;
    keeps = ke;
    ctype = c;
    lvalue = l ∙ ap (λ (x : Judged). x.operand.lvalue) e;
    register = r ∙ ap (λ (x : Judged). x.operand.register) e;
    string = st ∙ ap (λ (x : Judged). x.operand.string) e;
    null = subst (λ (x : Judged). values.is_null x.constant ≡ x.operand.null) e n;
    constant = co ∙ ap (λ (x : Judged). x.constant) e;
  }

  -- the type that a rule gives is that of the node
  typed_as : (k j : Judged) (t u : Plain) → k ≡ j → t ≡ k.operand.ctype → u ≡ j.operand.ctype → ◌≡◌ {A = Option Plain} (Some t) (Some u)
  typed_as k j t u e f g = ap Some (f ∙ ap (λ (x : Judged). x.operand.ctype) e ∙ sym g)

  abbrev Has : Typed → Judged → Type 0
  Has z j = plain (type_of z) ≡ j.operand.ctype

  moved_told : (a x : Typed) (j : Judged) → a ≡ x → Told x j → Told a j
  moved_told a x j e k = subst (λ w. Told w j) (sym e) k

  -- ---- the forms

  paren_told : (z x : Typed) (j : Judged) → IsParen x z → Has z j → Told x j → Told z j
  paren_told (Parens' h i a) x j e c k =
      let p = moved_told a x j e k in
      record { plainly = p.plainly; keeps = (p.keeps, p.ctype ∙ sym c); ctype = c; lvalue = p.lvalue; register = p.register; string = p.string; null = p.null; constant = p.constant }
  paren_told z x j e c k = absurd e

  index_told : (z x y : Typed) (k l j : Judged) (at : ℕ) → IsIndex x y z → Has z j → indexed s.defs at k l ≡ Known j → Told x k → Told y l → Told z j
  index_told (Index' h i a m b) x y k l j at e c r p q =
      let (t, o, f) = ruled 28 at object (index_type s.defs (value_type_of k) (value_type_of l)) j r in
      let pa = moved_told a x k e.0 p in
      let pb = moved_told b y l e.1 q in
      made (Index' h i a m b) (object t) j f (pa.plainly, pb.plainly)
      (pa.keeps, pb.keeps, ap (λ u. index_type s.defs u (value s b)) (value_is a k pa) ∙ ap (index_type s.defs (value_type_of k)) (value_is b l pb) ∙ o ∙ typed_as (object t) j t (plain h.ctype) f refl c) c refl refl refl refl refl
  index_told z x y k l j at e c r p q = absurd e

  member_told : (w : Access) (name : List ℕ) (z x : Typed) (k j : Judged) (at : ℕ) → IsMember s.defs w name x z → Has z j → member_of s.defs at w name k ≡ Known j → Told x k → Told z j
  member_told access.Dot name (Dot' h i a m) x k j at e c r p =
      let (t, o, f) = ruled 26 at object (option_and_then (dot_type s.defs k.operand) (member_number s.defs k.operand.ctype name)) j r in
      let pa = moved_told a x k e.0 p in
      let n : member_number s.defs k.operand.ctype name ≡ Some m = sym (ap (λ u. member_number s.defs u name) p.ctype) ∙ e.1 in
      made (Dot' h i a m) (object t) j f pa.plainly
      (pa.keeps, ap (λ u. dot_type s.defs u m) (operand_is a k pa) ∙ sym (ap (option_and_then (dot_type s.defs k.operand)) n) ∙ o ∙ typed_as (object t) j t (plain h.ctype) f refl c) c refl refl refl refl refl
  member_told access.Arrow name (Arrow' h i a m) x k j at e c r p =
      let (t, o, f) = ruled 27 at object (option_and_then (arrow_type s.defs (value_type_of k)) (pointed_number s.defs (value_type_of k) name)) j r in
      let pa = moved_told a x k e.0 p in
      let n : pointed_number s.defs (value_type_of k) name ≡ Some m = sym (ap (λ u. pointed_number s.defs (value_type u) name) p.ctype) ∙ e.1 in
      made (Arrow' h i a m) (object t) j f pa.plainly
      (pa.keeps, ap (λ u. arrow_type s.defs u m) (value_is a k pa) ∙ sym (ap (option_and_then (arrow_type s.defs (value_type_of k))) n) ∙ o ∙ typed_as (object t) j t (plain h.ctype) f refl c) c refl refl refl refl refl
  member_told w name z x k j at e c r p = absurd e

  unary_told : (o : UnaryOp) (z x : Typed) (k j : Judged) (at : ℕ) → IsUnary o x z → Has z j → unary at o k ≡ Known j → Told x k → Told z j
  unary_told o (Unary' h w i a) x k j at e c r p =
      let r' : unary at w k ≡ Known j = subst (λ o. unary at o k ≡ Known j) (sym e.0) r in
      let pa = moved_told a x k e.1 p in
      let n = values.with_one (values.turned w (values.is_unsigned (value_type_of k))) k.constant in
      let (t, y, f) = ruled 23 at (folded n) (unary_type w (value_type_of k)) j r' in
      made (Unary' h w i a) (folded n t) j f pa.plainly (pa.keeps, ap (unary_type w) (value_is a k pa) ∙ y ∙ typed_as (folded n t) j t (plain h.ctype) f refl c) c refl refl refl refl
      (ap (λ u. values.with_one (values.turned w (values.is_unsigned u)) (constants.constant s.defs a)) (value_is a k pa) ∙ ap (values.with_one (values.turned w (values.is_unsigned (value_type_of k)))) pa.constant)
  unary_told o z x k j at e c r p = absurd e

  sized_known : (at : ℕ) (t : Plain) (j : Judged) → sized s.defs at t ≡ Known j → (u : Plain) × (size_type s.defs t ≡ Some u) × (folded (folds.Number (values.size_of s.defs t)) u ≡ j)
  sized_known at t j e =
      let (k, f, g) = then_known (by_rule 40 at (folded (folds.Number (values.size_of s.defs t))) (size_type s.defs t)) _ j e in
      let (u, o, q) = ruled 40 at (folded (folds.Number (values.size_of s.defs t))) (size_type s.defs t) k f in
      (u, o, q ∙ by (nat_le (values.size_of s.defs t) 1048576) k g)
    where
      by : (b : Bool) (k : Judged) → (if b then Known k else Broken 1 at) ≡ Known j → k ≡ j
      by true k g = one_known k j g
      by false k g = unknown_known (Broken 1 at) j (λ k. k) g

  prefix_told : (w : PrefixOp) (z x : Typed) (k j : Judged) (at : ℕ) → IsPrefixed w x z → Has z j → prefixed s.defs at w k ≡ Known j → Told x k → (place : Place) → forbidden_prefix place w ≡ None → Told z j
  prefix_told prefix.Address (Address' h i a) x k j at e c r p place n =
      let (t, o, f) = ruled 25 at (folded folds.Variable) (address_type k.operand) j r in
      let pa = moved_told a x k e p in
      made (Address' h i a) (folded folds.Variable t) j f pa.plainly (pa.keeps, ap address_type (operand_is a k pa) ∙ o ∙ typed_as (folded folds.Variable t) j t (plain h.ctype) f refl c) c refl refl refl refl refl
  prefix_told prefix.Dereference (Follow' h i a) x k j at e c r p place n =
      let (t, o, f) = ruled 24 at object (followed s.defs (value_type_of k)) j r in
      let pa = moved_told a x k e p in
      made (Follow' h i a) (object t) j f pa.plainly (pa.keeps, ap (followed s.defs) (value_is a k pa) ∙ o ∙ typed_as (object t) j t (plain h.ctype) f refl c) c refl refl refl refl refl
  prefix_told prefix.Sizeof (SizeOf' h i a) x k j at e c r p place n =
      let (u, o, f) = sized_known at k.operand.ctype j r in
      let pa = moved_told a x k e p in
      let g = folded (folds.Number (values.size_of s.defs k.operand.ctype)) u in
      made (SizeOf' h i a) g j f tt (pa.keeps, ap (size_type s.defs) pa.ctype ∙ o ∙ typed_as g j u (plain h.ctype) f refl c) c refl refl refl refl (ap (λ t. folds.Number (values.size_of s.defs t)) pa.ctype)
  prefix_told prefix.Plus z x k j at e c r p place n = unary_told Plus z x k j at e c r p
  prefix_told prefix.Minus z x k j at e c r p place n = unary_told Minus z x k j at e c r p
  prefix_told prefix.Complement z x k j at e c r p place n = unary_told Complement z x k j at e c r p
  prefix_told prefix.Not z x k j at e c r p place n = unary_told Not z x k j at e c r p
  prefix_told (prefix.Step o) z x k j at e c r p place n = no_some place.at (sym n)
  prefix_told prefix.Address z x k j at e c r p place n = absurd e
  prefix_told prefix.Dereference z x k j at e c r p place n = absurd e
  prefix_told prefix.Sizeof z x k j at e c r p place n = absurd e

  size_type_told : (t : Plain) (z : Typed) (j : Judged) (at : ℕ) → IsSizeOfType t z → Has z j → sized s.defs at t ≡ Known j → Told z j
  size_type_told t (SizeOfType h u) j at e c r =
      let (w, o, f) = sized_known at t j r in
      made (SizeOfType h u) (folded (folds.Number (values.size_of s.defs t)) w) j f tt (ap (size_type s.defs) e ∙ o ∙ typed_as (folded (folds.Number (values.size_of s.defs t)) w) j w (plain h.ctype) f refl c) c refl refl refl refl
      (ap (λ t. folds.Number (values.size_of s.defs t)) e)
  size_type_told t z j at e c r = absurd e

  cast_told : (z x : Typed) (t : Plain) (k j : Judged) (at : ℕ) → IsCast x z → Has z j → cast_to at t k ≡ Known j → Told x k → Told z j
  cast_told (Cast' h i a) x t k j at e c r p =
      let n = values.with_one (values.converted t) k.constant in
      let (u, o, f) = ruled 40 at (folded n) (cast_type t (value_type_of k)) j r in
      let pa = moved_told a x k e p in
      let same : t ≡ u = only_this (is_integer t && is_integer (value_type_of k)) t u o in
      let here : u ≡ plain h.ctype = ap (λ (x : Judged). x.operand.ctype) f ∙ sym c in
      let whole : t ≡ plain h.ctype = same ∙ here in
      made (Cast' h i a) (folded n u) j f pa.plainly
      (pa.keeps, ap (cast_type (plain h.ctype)) (value_is a k pa) ∙ ap (λ w. cast_type w (value_type_of k)) (sym whole) ∙ o ∙ ap Some here) c refl refl refl refl
      (ap (λ w. values.with_one (values.converted w) (constants.constant s.defs a)) (sym whole) ∙ ap (values.with_one (values.converted t)) pa.constant)
  cast_told z x t k j at e c r p = absurd e

  operation_told : (o : BinaryOp) (z x y : Typed) (k l j : Judged) (at : ℕ) → IsOperation o x y z → Has z j → operation s.defs at o k l ≡ Known j → Told x k → Told y l → Told z j
  operation_told o (Binary' h i a w m b) x y k l j at e c r p q =
      let r' : operation s.defs at w k l ≡ Known j = subst (λ o. operation s.defs at o k l ≡ Known j) e.0 r in
      let pa = moved_told a x k e.1 p in
      let pb = moved_told b y l e.2 q in
      let n = values.combined w (value_type_of k) (value_type_of l) k.constant l.constant in
      let (t, u, f) = ruled (rule_of w) at (folded n) (binary_type s.defs w k.operand l.operand) j r' in
      made (Binary' h i a w m b) (folded n t) j f (pa.plainly, pb.plainly)
      (pa.keeps, pb.keeps, ap (λ g. binary_type s.defs w g (operand s b)) (operand_is a k pa) ∙ ap (binary_type s.defs w k.operand) (operand_is b l pb) ∙ u ∙ typed_as (folded n t) j t (plain h.ctype) f refl c) c refl refl refl refl
      (ap (λ g. values.combined w g (value s b) (constants.constant s.defs a) (constants.constant s.defs b)) (value_is a k pa)
      ∙ ap (λ g. values.combined w (value_type_of k) g (constants.constant s.defs a) (constants.constant s.defs b)) (value_is b l pb)
      ∙ ap (λ g. values.combined w (value_type_of k) (value_type_of l) g (constants.constant s.defs b)) pa.constant
      ∙ ap (values.combined w (value_type_of k) (value_type_of l) k.constant) pb.constant)
  operation_told o z x y k l j at e c r p q = absurd e

  joined_told : (w : Written) (z x y : Typed) (k l j : Judged) (at : ℕ) → IsJoined w x y z → Has z j → joined s.defs at w k l ≡ Known j → Told x k → Told y l → (place : Place) → forbidden_binary place w ≡ None → Told z j
  joined_told written.Comma (Comma' h i a m b) x y k l j at e c r p q place n =
      let (t, o, f) = ruled (if may_drop k.operand then 39 else 22) at (folded folds.Variable) (comma_type k.operand l.operand) j r in
      let pa = moved_told a x k e.0 p in
      let pb = moved_told b y l e.1 q in
      made (Comma' h i a m b) (folded folds.Variable t) j f (pa.plainly, pb.plainly)
      (pa.keeps, pb.keeps, ap (λ g. comma_type g (operand s b)) (operand_is a k pa) ∙ ap (comma_type k.operand) (operand_is b l pb) ∙ o ∙ typed_as (folded folds.Variable t) j t (plain h.ctype) f refl c) c refl refl refl refl refl
  joined_told written.LogicalOr (Or' h i a m b) x y k l j at e c r p q place n =
      let d = values.either k.constant l.constant in
      let (t, o, f) = ruled 38 at (folded d) (logical_type (value_type_of k) (value_type_of l)) j r in
      let pa = moved_told a x k e.0 p in
      let pb = moved_told b y l e.1 q in
      made (Or' h i a m b) (folded d t) j f (pa.plainly, pb.plainly)
      (pa.keeps, pb.keeps, ap (λ g. logical_type g (value s b)) (value_is a k pa) ∙ ap (logical_type (value_type_of k)) (value_is b l pb) ∙ o ∙ typed_as (folded d t) j t (plain h.ctype) f refl c) c refl refl refl refl
      (ap (λ g. values.either g (constants.constant s.defs b)) pa.constant ∙ ap (values.either k.constant) pb.constant)
  joined_told written.LogicalAnd (And' h i a m b) x y k l j at e c r p q place n =
      let d = values.both k.constant l.constant in
      let (t, o, f) = ruled 38 at (folded d) (logical_type (value_type_of k) (value_type_of l)) j r in
      let pa = moved_told a x k e.0 p in
      let pb = moved_told b y l e.1 q in
      made (And' h i a m b) (folded d t) j f (pa.plainly, pb.plainly)
      (pa.keeps, pb.keeps, ap (λ g. logical_type g (value s b)) (value_is a k pa) ∙ ap (logical_type (value_type_of k)) (value_is b l pb) ∙ o ∙ typed_as (folded d t) j t (plain h.ctype) f refl c) c refl refl refl refl
      (ap (λ g. values.both g (constants.constant s.defs b)) pa.constant ∙ ap (values.both k.constant) pb.constant)
  joined_told (written.Assign o) z x y k l j at e c r p q place n = no_some place.at (sym n)
  joined_told written.BitOr z x y k l j at e c r p q place n = operation_told op.BitOr z x y k l j at e c r p q
  joined_told written.BitXor z x y k l j at e c r p q place n = operation_told op.BitXor z x y k l j at e c r p q
  joined_told written.BitAnd z x y k l j at e c r p q place n = operation_told op.BitAnd z x y k l j at e c r p q
  joined_told written.Equal z x y k l j at e c r p q place n = operation_told op.Equal z x y k l j at e c r p q
  joined_told written.NotEqual z x y k l j at e c r p q place n = operation_told op.Unequal z x y k l j at e c r p q
  joined_told written.Less z x y k l j at e c r p q place n = operation_told op.Less z x y k l j at e c r p q
  joined_told written.Greater z x y k l j at e c r p q place n = operation_told op.Greater z x y k l j at e c r p q
  joined_told written.LessEqual z x y k l j at e c r p q place n = operation_told op.LessEqual z x y k l j at e c r p q
  joined_told written.GreaterEqual z x y k l j at e c r p q place n = operation_told op.GreaterEqual z x y k l j at e c r p q
  joined_told written.ShiftLeft z x y k l j at e c r p q place n = operation_told op.ShiftLeft z x y k l j at e c r p q
  joined_told written.ShiftRight z x y k l j at e c r p q place n = operation_told op.ShiftRight z x y k l j at e c r p q
  joined_told written.Add z x y k l j at e c r p q place n = operation_told op.Add z x y k l j at e c r p q
  joined_told written.Subtract z x y k l j at e c r p q place n = operation_told op.Subtract z x y k l j at e c r p q
  joined_told written.Multiply z x y k l j at e c r p q place n = operation_told op.Multiply z x y k l j at e c r p q
  joined_told written.Divide z x y k l j at e c r p q place n = operation_told op.Divide z x y k l j at e c r p q
  joined_told written.Remainder z x y k l j at e c r p q place n = operation_told op.Remainder z x y k l j at e c r p q
  joined_told written.Comma z x y k l j at e c r p q place n = absurd e
  joined_told written.LogicalOr z x y k l j at e c r p q place n = absurd e
  joined_told written.LogicalAnd z x y k l j at e c r p q place n = absurd e

  choice_told : (z w x y : Typed) (i k l j : Judged) (at : ℕ) → IsChoice w x y z → Has z j → chosen_of at i k l ≡ Known j → Told w i → Told x k → Told y l → Told z j
  choice_told (Choice' h a' d b' a c' b) w x y i k l j at e c r o p q =
      let n = values.chosen i.constant k.constant l.constant in
      let (t, u, f) = ruled 38 at (folded n) (choice_type (value_type_of i) k.operand l.operand) j r in
      let pd = moved_told d w i e.0 o in
      let pa = moved_told a x k e.1 p in
      let pb = moved_told b y l e.2 q in
      made (Choice' h a' d b' a c' b) (folded n t) j f (pd.plainly, pa.plainly, pb.plainly) (
        pd.keeps,
        pa.keeps,
        pb.keeps,
        ap (λ g. choice_type g (operand s a) (operand s b)) (value_is d i pd) ∙ ap (λ g. choice_type (value_type_of i) g (operand s b)) (operand_is a k pa) ∙ ap (choice_type (value_type_of i) k.operand) (operand_is b l pb) ∙ u ∙ typed_as (folded n t) j t (plain h.ctype) f refl c,
      ) c refl refl refl refl
      (ap (λ g. values.chosen g (constants.constant s.defs a) (constants.constant s.defs b)) pd.constant
      ∙ ap (λ g. values.chosen i.constant g (constants.constant s.defs b)) pa.constant
      ∙ ap (values.chosen i.constant k.constant) pb.constant)
  choice_told z w x y i k l j at e c r o p q = absurd e

  -- ---- leaves

  constant_told : (m : ℕ) (t : Plain) (z : Typed) (j : Judged) → is_constant_type t ≡ true → IsConstant m z → Has z j → Known (folded (folds.Number m) t) ≡ Known j → Told z j
  constant_told m t (Constant h n) j i e c r =
      let f = one_known (folded (folds.Number m) t) j r in
      let here : t ≡ plain h.ctype = ap (λ (x : Judged). x.operand.ctype) f ∙ sym c in
      made (Constant h n) (folded (folds.Number m) t) j f tt (subst (λ u. is_constant_type u ≡ true) here i) c refl refl refl refl (ap folds.Number e)
  constant_told m t z j i e c r = absurd e

  integer_is : (b : Bool) → is_constant_type (if b then Unsigned else Int) ≡ true
  integer_is true = refl
  integer_is false = refl

  leaf_told : (at : Place) (kind : LeafKind) (text : List ℕ) (z : Typed) (j : Judged) → IsLeaf v at kind text z → Has z j → leaf_of v at.at kind text ≡ Known j → forbidden_leaf at kind ≡ None → Told z j
  leaf_told at leaf.Name text (Name h n) j e c r free =
      let (t, o, f) = ruled 21 at.at (variable (register_of (slice_get s.names n))) (name_type s n) j (sym (ap (named v at.at text) e) ∙ r) in
      made (Name h n) (variable (register_of (slice_get s.names n)) t) j f tt (o ∙ typed_as (variable (register_of (slice_get s.names n)) t) j t (plain h.ctype) f refl c) c refl (register_same (slice_get s.names n)) refl refl refl
  leaf_told at (leaf.Constant i) text z j e c r free = constant_told i.value (integer_type i) z j (integer_is i.is_unsigned) e c r
  leaf_told at (leaf.Character q) text z j e c r free = constant_told (word_of_signed q) Int z j refl e c r
  leaf_told at leaf.Text text z j e c r free = no_some at.at (sym free)
  leaf_told at leaf.Name text z j e c r free = absurd e

  -- ---- whole expressions

  head_type : (t : Tree) (z : Typed) (j : Judged) → HasHead v t z → judged v t ≡ Known j → Has z j
  head_type t z j a e = one_some (plain (type_of z)) j.operand.ctype (sym a.1 ∙ ap type_in e)

  -- what has arguments has a call in it
  calls : (t : Tree) (xs : List Typed) → AreArguments v t xs → forbidden t ≡ None → ⊥
  calls (Call at f) xs a e = no_some at.at (sym e)
  calls (With c a) xs (ys, y, k, b, q) e = calls c ys b (neither (forbidden c) (forbidden a) e).0
  calls _ xs a e = absurd a

  pub told : (t : Tree) (z : Typed) (j : Judged) → judged v t ≡ Known j → forbidden t ≡ None → Elaborates v t z → Told z j
  told (Leaf at kind text) z j e n (i, r) = leaf_told at kind text z j r (head_type (Leaf at kind text) z j i e) e n
  told (Paren at a) z j e n (i, (x, r, k)) = paren_told z x j r (head_type (Paren at a) z j i e) (told a x j e n k)
  told (Index at a b) z j e n (i, (x, y, r, k, l)) =
      let (p, q, f, g, w) = joint_known at.at (index_alone s.defs) (index_alone s.defs) (indexed s.defs at.at) (judged v a) (judged v b) j e in
      let o = neither (forbidden a) (forbidden b) n in
      index_told z x y p q j at.at r (head_type (Index at a b) z j i e) w (told a x p f o.0 k) (told b y q g o.1 l)
  told (Call at f) z j e n d = no_some at.at (sym n)
  told (With c a) z j e n (i, (xs, r, (ys, y, k, b, q))) = absurd (calls c ys b (neither (forbidden c) (forbidden a) n).0)
  told (Member at a w q name) z j e n (i, (x, r, k)) =
      let (p, f, g) = then_known (judged v a) (member_of s.defs at.at w name) j e in
      member_told w name z x p j at.at r (head_type (Member at a w q name) z j i e) g (told a x p f n k)
  told (After at a step) z j e n d = no_some at.at (sym n)
  told (Prefix at w a) z j e n (i, (x, r, k)) =
      let (p, f, g) = then_known (judged v a) (prefixed s.defs at.at w) j e in
      let o = neither (forbidden_prefix at w) (forbidden a) n in
      prefix_told w z x p j at.at r (head_type (Prefix at w a) z j i e) g (told a x p f o.1 k) at o.0
  told (SizeofType at q d) z j e n (i, (t, k, r)) =
      let (p, f, g) = then_known (declared v at.at d (Known (spec_type v q))) (sized s.defs at.at) j e in
      let same : p ≡ t = one_known p t (sym f ∙ k) in
      size_type_told t z j at.at r (head_type (SizeofType at q d) z j i e) (subst (λ u. sized s.defs at.at u ≡ Known j) same g)
  told (Cast at q d a) z j e n (i, (x, r, k)) =
      let (t, p, f, g, w) = joint_known at.at cast_alone cast_operand_alone (cast_to at.at) (declared v at.at d (Known (spec_type v q))) (judged v a) j e in
      let o = neither (forbidden d) (forbidden a) n in
      cast_told z x t p j at.at r (head_type (Cast at q d a) z j i e) w (told a x p g o.1 k)
  told (Binary at w a b) z j e n (i, (x, y, r, k, l)) =
      let (p, q, f, g, u) = joint_known at.at (left_alone s.defs w) (right_alone s.defs w) (joined s.defs at.at w) (judged v a) (judged v b) j e in
      let o = neither (forbidden_binary at w) (first_of (forbidden a) (forbidden b)) n in
      let m = neither (forbidden a) (forbidden b) o.1 in
      joined_told w z x y p q j at.at r (head_type (Binary at w a b) z j i e) u (told a x p f m.0 k) (told b y q g m.1 l) at o.0
  told (Choice at c a b) z j e n (i, (w, x, y, r, k, l, m)) =
      let (p, qd, f, g, u) = joint_known at.at scalar_alone branches_alone (λ z p. chosen_of at.at z p.0 p.1) (judged v c) (joint at.at scalar_alone scalar_alone both_known (judged v a) (judged v b)) j e in
      let (q, d, f1, f2, same) = joint_known at.at scalar_alone scalar_alone both_known (judged v a) (judged v b) qd g in
      let is : (q, d) ≡ qd = one_known (q, d) qd same in
      let u' : chosen_of at.at p q d ≡ Known j = subst (λ (h : Judged × Judged). chosen_of at.at p h.0 h.1 ≡ Known j) (sym is) u in
      let o = neither (forbidden c) (first_of (forbidden a) (forbidden b)) n in
      let o2 = neither (forbidden a) (forbidden b) o.1 in
      choice_told z w x y p q d j at.at r (head_type (Choice at c a b) z j i e) u' (told c w p f o.0 k) (told a x q f1 o2.0 l) (told b y d f2 o2.1 m)
  told _ z j e n d = absurd d

  -- ---- a plain assignment

  assignment_told : (z x y : Typed) (k l j : Judged) (at : ℕ) → IsAssigned None x y z → Has z j → assigned s.defs at None k l ≡ Known j → Told x k → Told y l → IsAssignment z × KeepsRules s z
  assignment_told (Assign' h i a None m b) x y k l j at e c r p q =
      let (t, o, f) = ruled 36 at (folded folds.Variable) (assignment_type k.operand l.operand) j r in
      let pa = moved_told a x k e.1 p in
      let pb = moved_told b y l e.2 q in
      ((pa.plainly, pb.plainly), (pa.keeps, pb.keeps, ap (λ g. assignment_type g (operand s b)) (operand_is a k pa) ∙ ap (assignment_type k.operand) (operand_is b l pb) ∙ o ∙ typed_as (folded folds.Variable t) j t (plain h.ctype) f refl c))
  assignment_told (Assign' h i a (Some w) m b) x y k l j at e c r p q = no_some w e.0
  assignment_told z x y k l j at e c r p q = absurd e

  plainly_assigns : (w : Written) (place : Place) (parts : Option ℕ) → forbidden_as w place parts ≡ None → (w ≡ written.Assign assign.Plain) × (parts ≡ None)
  plainly_assigns (written.Assign assign.Plain) place parts e = (refl, e)
  plainly_assigns w place parts e = no_some place.at (sym e)

  pub assigns_told : (t : Tree) (z : Typed) (j : Judged) → judged v t ≡ Known j → forbidden_beside t ≡ None → Elaborates v t z → IsAssignment z × KeepsRules s z
  assigns_told (Binary at w a b) z j e n (i, (x, y, r, k, l)) =
      let (p, q, f, g, u) = joint_known at.at (left_alone s.defs w) (right_alone s.defs w) (joined s.defs at.at w) (judged v a) (judged v b) j e in
      let o = plainly_assigns w at (first_of (forbidden a) (forbidden b)) n in
      let m = neither (forbidden a) (forbidden b) o.1 in
      assignment_told z x y p q j at.at (subst (λ w. IsJoined w x y z) o.0 r) (head_type (Binary at w a b) z j i e) (subst (λ w. joined s.defs at.at w p q ≡ Known j) o.0 u) (told a x p f m.0 k) (told b y q g m.1 l)
  assigns_told t z j e n d = no_some _ (sym n)

  pub value_told : (t : Tree) (z : Typed) (j : Judged) → judged v t ≡ Known j → forbidden t ≡ None → Elaborates v t z → IsPlain z × KeepsRules s z
  value_told t z j e n d = let k = told t z j e n d in (k.plainly, k.keeps)
