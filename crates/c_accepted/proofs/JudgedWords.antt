-- The value of a constant expression is a word where its constants are.
use Rattle.std.proofs.Common.{◌≡◌, refl, arith, ℕ, zero, suc, ◌≤◌, ◌<◌, ◌^◌, Bool, true, false, ◌==◌, List, Option, Some, None, lit<}
use Rattle.std.specs.Prelude.{Result, Ok, Err, nat_le, nat_lt, length, if◌then◌else◌, option_and_then, slice_get}
use Rattle.std.proofs.lemmas.Nat.{xor_lt}
use Rattle.ldb_words.specs.declared.kinds.Undef.{Undef}
use Rattle.c_symbol.specs.declared.symbol.LeafKind.{LeafKind}
use Rattle.c_symbol.specs.declared.symbol.LeafKind.TheVariants as leaf
use Rattle.c_symbol.specs.declared.symbol.Access.{Access}
use Rattle.c_symbol.specs.declared.symbol.Access.TheVariants as access
use Rattle.c_symbol.specs.declared.symbol.PrefixOp.{PrefixOp}
use Rattle.c_symbol.specs.declared.symbol.PrefixOp.TheVariants as prefix
use Rattle.c_symbol.specs.declared.symbol.BinaryOp.{BinaryOp}
use Rattle.c_symbol.specs.declared.symbol.BinaryOp.TheVariants as written
use Rattle.c_trees.specs.Expressions.{Tree, Leaf, Paren, Index, Call, With, Member, After, Prefix, SizeofType, Cast, Binary, Choice, Stars, Around, Bounded, Unbounded}
use Rattle.c_tree.specs.declared.types.StructDef.{StructDef}
use Rattle.c_tree.specs.declared.typed.BinaryOp.{BinaryOp as Operator}
use Rattle.c_tree.specs.declared.typed.BinaryOp.TheVariants as op
use Rattle.c_tree.specs.declared.typed.UnaryOp.{UnaryOp}
use Rattle.c_tree.specs.declared.typed.UnaryOp.TheVariants as sign
use Rattle.c_operators.specs.Bits.{minus_one}
use Rattle.c_operators.specs.Arithmetic.{on_ints, on_unsigned}
use Rattle.c_typing.specs.Plain.{Plain, Char}
use Rattle.c_typing.specs.Expressions.{name_type}
use Rattle.c_typing.specs.Rules.{may_drop, unary_type, followed, address_type, dot_type, arrow_type, index_type, binary_type, assignment_type, compound_type, step_type, logical_type, choice_type, comma_type, cast_type, size_type}
use Rattle.c_typing.specs.Values.{is_unsigned, size_of, defined, operated, with_one, turned, converted, chosen, truth_in, both, either, combined, works_unsigned}
use Rattle.c_typing.specs.declared.constant.Constant.{Constant}
use Rattle.c_typing.specs.declared.constant.Constant.TheVariants.{Variable, Undefined, Number}
use Rattle.c_judge.specs.Scope.{Scope, defs_of, pointed_number}
use Rattle.c_judge.specs.Answers.{Answer, Known, Unknown, Broken, ◌then◌, two, both_known, alone, unless_broken, joint}
use Rattle.c_defs.specs.Members.{member_number}
use Rattle.c_judge.specs.Places.{place_of}
use Rattle.c_judge.specs.Judgement.{Judged, Verdict, value_type_of, object, variable, value, folded, by_rule, step_of, unary, sized, stepped, cast_to, indexed, prefixed, compound_of, rule_of, operation, compound_rule, assigned, joined, member_of, chosen_of, index_alone, scalar_alone, branches_alone, cast_alone, cast_operand_alone, left_alone, right_alone, spec_type, register_of, named, string_of, leaf_of, callee, counted, arguments_in, argument, called, judged, calling, declared}
use Rattle.c_accepted.specs.Sources.{AreWords}
use Rattle.c_accepted.proofs.OperatorWords.{Small, byte_small, truth_small, words_small}

-- ---- values

abbrev pub IsWordConstant : Constant → Type 0
IsWordConstant (Number n) = n < 2 ^ 32
IsWordConstant _ = Unit {0}

defined_word : (r : Result ℕ Undef) → Small r → IsWordConstant (defined r)
defined_word (Ok n) h = h
defined_word (Err e) h = tt

operated_word : (o : Operator) (u : Bool) (x y : ℕ) → x < 2 ^ 32 → y < 2 ^ 32 → IsWordConstant (operated o u x y)
operated_word o u x y h k = defined_word (if u then on_unsigned o x y else on_ints o x y) (words_small o u x y h k)

combined_word : (o : Operator) (s t : Plain) (a b : Constant) → IsWordConstant a → IsWordConstant b → IsWordConstant (combined o s t a b)
combined_word o s t (Number x) (Number y) h k = operated_word o (works_unsigned o s t) x y h k
combined_word o s t Variable b h k = tt
combined_word o s t Undefined Variable h k = tt
combined_word o s t Undefined _ h k = tt
combined_word o s t (Number x) Variable h k = tt
combined_word o s t (Number x) Undefined h k = tt

turned_word : (o : UnaryOp) (u : Bool) (n : ℕ) → n < 2 ^ 32 → IsWordConstant (turned o u n)
turned_word sign.Plus u n h = h
turned_word sign.Minus u n h = operated_word op.Subtract u 0 n (lit< tt) h
turned_word sign.Complement u n h = xor_lt 32 minus_one n (lit< tt) h
turned_word sign.Not u n h = truth_small (n == 0)

converted_word : (t : Plain) (n : ℕ) → n < 2 ^ 32 → IsWordConstant (converted t n)
converted_word Char n h = byte_small n
converted_word _ n h = h

one_word : (f : ℕ → Constant) → ((n : ℕ) → n < 2 ^ 32 → IsWordConstant (f n)) → (c : Constant) → IsWordConstant c → IsWordConstant (with_one f c)
one_word f w (Number n) h = w n h
one_word f w _ h = tt

chosen_word : (c a b : Constant) → IsWordConstant a → IsWordConstant b → IsWordConstant (chosen c a b)
chosen_word Variable a b h k = tt
chosen_word Undefined Variable b h k = tt
chosen_word Undefined _ Variable h k = tt
chosen_word Undefined _ _ h k = tt
chosen_word (Number zero) Variable b h k = tt
chosen_word (Number zero) _ Variable h k = tt
chosen_word (Number zero) _ _ h k = k
chosen_word (Number (suc n)) Variable b h k = tt
chosen_word (Number (suc n)) _ Variable h k = tt
chosen_word (Number (suc n)) _ _ h k = h

truth_word : (c : Constant) → IsWordConstant (with_one truth_in c)
truth_word (Number n) = truth_small (if n == 0 then false else true)
truth_word _ = tt

both_word : (a b : Constant) → IsWordConstant (both a b)
both_word a b = chosen_word a (with_one truth_in b) (Number 0) (truth_word b) (lit< tt)

either_word : (a b : Constant) → IsWordConstant (either a b)
either_word a b = chosen_word a (Number 1) (with_one truth_in b) (lit< tt) (truth_word b)

-- ---- answers

abbrev pub Holds : {A : Type 0} → (A → Type 0) → Answer A → Type 0
Holds P (Known x) = P x
Holds P _ = Unit {0}

then_holds : {A B : Type 0} (P : A → Type 0) (R : B → Type 0) (f : A → Answer B) → ((x : A) → P x → Holds R (f x)) → (a : Answer A) → Holds P a → Holds R (a then f)
then_holds P R f w (Known x) h = w x h
then_holds P R f w (Unknown name) h = tt
then_holds P R f w (Broken r at) h = tt

two_hold : {A B C : Type 0} (P : A → Type 0) (Q : B → Type 0) (R : C → Type 0) (f : A → B → Answer C) → ((x : A) (y : B) → P x → Q y → Holds R (f x y)) → (a : Answer A) (b : Answer B) → Holds P a → Holds Q b → Holds R (two f a b)
two_hold P Q R f w (Known x) (Known y) h k = w x y h k
two_hold P Q R f w (Known x) (Unknown name) h k = tt
two_hold P Q R f w (Known x) (Broken r at) h k = tt
two_hold P Q R f w (Unknown name) (Known y) h k = tt
two_hold P Q R f w (Unknown name) (Unknown m) h k = tt
two_hold P Q R f w (Unknown name) (Broken r at) h k = tt
two_hold P Q R f w (Broken r at) b h k = tt

unless_holds : {C : Type 0} (R : C → Type 0) (at : ℕ) (o : Option ℕ) (c : Answer C) → Holds R c → Holds R (unless_broken at o c)
unless_holds R at None c h = h
unless_holds R at (Some r) c h = tt

joint_holds : {A B C : Type 0} (P : A → Type 0) (Q : B → Type 0) (R : C → Type 0) (at : ℕ) (g : A → Option ℕ) (h : B → Option ℕ) (f : A → B → Answer C) → ((x : A) (y : B) → P x → Q y → Holds R (f x y)) → (a : Answer A) (b : Answer B) → Holds P a → Holds Q b
    → Holds R (joint at g h f a b)
joint_holds P Q R at g h f w a b i k = unless_holds R at (alone g h a b) (two f a b) (two_hold P Q R f w a b i k)

-- ---- verdicts

abbrev pub IsWordJudged : Judged → Type 0
IsWordJudged j = IsWordConstant j.constant

abbrev Anything : {A : Type 0} → A → Type 0
Anything x = Unit {0}

anything : {A : Type 0} (a : Answer A) → Holds Anything a
anything (Known x) = tt
anything (Unknown name) = tt
anything (Broken r at) = tt

abbrev pub IsWordVerdict : Verdict → Type 0
IsWordVerdict j = Holds IsWordJudged j

-- what a rule gives, where it is no constant expression, and where it has this constant
object_word : (r at : ℕ) (o : Option Plain) → IsWordVerdict (by_rule r at object o)
object_word r at None = tt
object_word r at (Some t) = tt

variable_word : (r at : ℕ) (b : Bool) (o : Option Plain) → IsWordVerdict (by_rule r at (variable b) o)
variable_word r at b None = tt
variable_word r at b (Some t) = tt

folded_word : (r at : ℕ) (c : Constant) (o : Option Plain) → IsWordConstant c → IsWordVerdict (by_rule r at (folded c) o)
folded_word r at c None h = tt
folded_word r at c (Some t) h = h

value_word : (r at : ℕ) (o : Option Plain) → IsWordVerdict (by_rule r at value o)
value_word r at o = folded_word r at Variable o tt

at_most : (n : ℕ) → nat_le n 1048576 ≡ true → n < 2 ^ 32
at_most n h = let l : n ≤ 1048576 = grind arith in omega (arith, l)

sized_word : (defs : List StructDef) (at : ℕ) (t : Plain) → IsWordVerdict (sized defs at t)
sized_word defs at t = by (size_type defs t)
  where
    limit : (u : Plain) (b : Bool) → nat_le (size_of defs t) 1048576 ≡ b → IsWordVerdict (if b then Known (folded (Number (size_of defs t)) u) else Broken 1 at)
    limit u true e = at_most (size_of defs t) e
    limit u false e = tt

    by : (o : Option Plain) → IsWordVerdict (by_rule 40 at (folded (Number (size_of defs t))) o then λ j. if nat_le (size_of defs t) 1048576 then Known j else Broken 1 at)
    by None = tt
    by (Some u) = limit u (nat_le (size_of defs t) 1048576) refl

module _ (defs : List StructDef) (at : ℕ) where
  unary_word : (o : UnaryOp) (x : Judged) → IsWordJudged x → IsWordVerdict (unary at o x)
  unary_word o x h =
      let u = is_unsigned (value_type_of x) in
      folded_word 23 at (with_one (turned o u) x.constant) (unary_type o (value_type_of x)) (one_word (turned o u) (turned_word o u) x.constant h)

  prefixed_word : (w : PrefixOp) (x : Judged) → IsWordJudged x → IsWordVerdict (prefixed defs at w x)
  prefixed_word (prefix.Step s) x h = value_word 37 at (step_type defs (step_of s) x.operand)
  prefixed_word prefix.Address x h = value_word 25 at (address_type x.operand)
  prefixed_word prefix.Dereference x h = object_word 24 at (followed defs (value_type_of x))
  prefixed_word prefix.Plus x h = unary_word sign.Plus x h
  prefixed_word prefix.Minus x h = unary_word sign.Minus x h
  prefixed_word prefix.Complement x h = unary_word sign.Complement x h
  prefixed_word prefix.Not x h = unary_word sign.Not x h
  prefixed_word prefix.Sizeof x h = sized_word defs at x.operand.ctype

  operation_word : (o : Operator) (x y : Judged) → IsWordJudged x → IsWordJudged y → IsWordVerdict (operation defs at o x y)
  operation_word o x y h k =
      folded_word (rule_of o) at (combined o (value_type_of x) (value_type_of y) x.constant y.constant) (binary_type defs o x.operand y.operand) (combined_word o (value_type_of x) (value_type_of y) x.constant y.constant h k)

  assigned_word : (o : Option Operator) (x y : Judged) → IsWordVerdict (assigned defs at o x y)
  assigned_word None x y = value_word 36 at (assignment_type x.operand y.operand)
  assigned_word (Some o) x y = value_word (compound_rule defs o x y) at (compound_type defs o x.operand (value_type_of y))

  joined_word : (w : BinaryOp) (x y : Judged) → IsWordJudged x → IsWordJudged y → IsWordVerdict (joined defs at w x y)
  joined_word written.Comma x y h k = value_word (if may_drop x.operand then 39 else 22) at (comma_type x.operand y.operand)
  joined_word (written.Assign o) x y h k = assigned_word (compound_of o) x y
  joined_word written.LogicalOr x y h k = folded_word 38 at (either x.constant y.constant) (logical_type (value_type_of x) (value_type_of y)) (either_word x.constant y.constant)
  joined_word written.LogicalAnd x y h k = folded_word 38 at (both x.constant y.constant) (logical_type (value_type_of x) (value_type_of y)) (both_word x.constant y.constant)
  joined_word written.BitOr x y h k = operation_word op.BitOr x y h k
  joined_word written.BitXor x y h k = operation_word op.BitXor x y h k
  joined_word written.BitAnd x y h k = operation_word op.BitAnd x y h k
  joined_word written.Equal x y h k = operation_word op.Equal x y h k
  joined_word written.NotEqual x y h k = operation_word op.Unequal x y h k
  joined_word written.Less x y h k = operation_word op.Less x y h k
  joined_word written.Greater x y h k = operation_word op.Greater x y h k
  joined_word written.LessEqual x y h k = operation_word op.LessEqual x y h k
  joined_word written.GreaterEqual x y h k = operation_word op.GreaterEqual x y h k
  joined_word written.ShiftLeft x y h k = operation_word op.ShiftLeft x y h k
  joined_word written.ShiftRight x y h k = operation_word op.ShiftRight x y h k
  joined_word written.Add x y h k = operation_word op.Add x y h k
  joined_word written.Subtract x y h k = operation_word op.Subtract x y h k
  joined_word written.Multiply x y h k = operation_word op.Multiply x y h k
  joined_word written.Divide x y h k = operation_word op.Divide x y h k
  joined_word written.Remainder x y h k = operation_word op.Remainder x y h k

  member_word : (w : Access) (name : List ℕ) (x : Judged) → IsWordVerdict (member_of defs at w name x)
  member_word access.Dot name x = object_word 26 at (option_and_then (dot_type defs x.operand) (member_number defs x.operand.ctype name))
  member_word access.Arrow name x = object_word 27 at (option_and_then (arrow_type defs (value_type_of x)) (pointed_number defs (value_type_of x) name))

-- ---- expressions

module _ (v : Scope) where
  named_word : (at : ℕ) (text : List ℕ) (o : Option ℕ) → IsWordVerdict (named v at text o)
  named_word at text None = tt
  named_word at text (Some n) = variable_word 21 at (register_of (slice_get v.among.names n)) (name_type v.among n)

  leaf_word : (at : ℕ) (kind : LeafKind) (text : List ℕ) → AreWords (Leaf (record { at = at; line = 0; column = 0 }) kind text) → IsWordVerdict (leaf_of v at kind text)
  leaf_word at leaf.Name text w = named_word at text (v.number text)
  leaf_word at (leaf.Constant i) text w = w
  leaf_word at (leaf.Character c) text w = w
  leaf_word at leaf.Text text w = by (nat_lt (length text) 1048576)
    where
      by : (b : Bool) → IsWordVerdict (if b then Known (string_of text) else Broken 1 at)
      by true = tt
      by false = tt

  abbrev Both : Judged × Judged → Type 0
  Both p = IsWordJudged p.0 × IsWordJudged p.1

  pub judged_word : (e : Tree) → AreWords e → IsWordVerdict (judged v e)
  judged_word (Leaf at kind text) w = leaf_word at.at kind text w
  judged_word (Paren at a) w = judged_word a w
  judged_word (Index at a b) w =
      joint_holds Anything Anything IsWordJudged at.at (index_alone (defs_of v)) (index_alone (defs_of v)) (indexed (defs_of v) at.at) (λ x y h k. object_word 28 at.at (index_type (defs_of v) (value_type_of x) (value_type_of y)))
      (judged v a) (judged v b) (anything (judged v a)) (anything (judged v b))
  judged_word (Call at f) w = let c = callee v f (judged v f) then counted v.asks at.at 0 in then_holds Anything IsWordJudged called (λ x h. tt) c (anything c)
  judged_word (With c a) w =
      let f = calling v (suc (arguments_in c)) c in
      let x = judged v a then argument v c (place_of a).at in
      two_hold Anything Anything IsWordJudged (λ f x. called f) (λ f x h k. tt) f x (anything f) (anything x)
  judged_word (Member at a access q name) w = then_holds Anything IsWordJudged (member_of (defs_of v) at.at access name) (λ x h. member_word (defs_of v) at.at access name x) (judged v a) (anything (judged v a))
  judged_word (After at a step) w = then_holds Anything IsWordJudged (stepped (defs_of v) at.at step) (λ x h. value_word 37 at.at (step_type (defs_of v) (step_of step) x.operand)) (judged v a) (anything (judged v a))
  judged_word (Prefix at o a) w = then_holds IsWordJudged IsWordJudged (prefixed (defs_of v) at.at o) (prefixed_word (defs_of v) at.at o) (judged v a) (judged_word a w)
  judged_word (SizeofType at s d) w =
      let t = declared v at.at d (Known (spec_type v s)) in then_holds Anything IsWordJudged (sized (defs_of v) at.at) (λ t h. sized_word (defs_of v) at.at t) t (anything t)
  judged_word (Cast at s d a) w =
      let t = declared v at.at d (Known (spec_type v s)) in
      joint_holds Anything IsWordJudged IsWordJudged at.at cast_alone cast_operand_alone (cast_to at.at)
      (λ t x h k. folded_word 40 at.at (with_one (converted t) x.constant) (cast_type t (value_type_of x)) (one_word (converted t) (converted_word t) x.constant k)) t (judged v a) (anything t) (judged_word a w.1)
  judged_word (Binary at o a b) w =
      joint_holds IsWordJudged IsWordJudged IsWordJudged at.at (left_alone (defs_of v) o) (right_alone (defs_of v) o) (joined (defs_of v) at.at o) (joined_word (defs_of v) at.at o) (judged v a) (judged v b) (judged_word a w.0) (judged_word b w.1)
  judged_word (Choice at c a b) w =
      let two = joint at.at scalar_alone scalar_alone both_known (judged v a) (judged v b) in
      let words = joint_holds IsWordJudged IsWordJudged Both at.at scalar_alone scalar_alone both_known (λ x y h k. (h, k)) (judged v a) (judged v b) (judged_word a w.1) (judged_word b w.2) in
      joint_holds Anything Both IsWordJudged at.at scalar_alone branches_alone (λ z p. chosen_of at.at z p.0 p.1)
      (λ z p h k. folded_word 38 at.at (chosen z.constant p.0.constant p.1.constant) (choice_type (value_type_of z) p.0.operand p.1.operand) (chosen_word z.constant p.0.constant p.1.constant k.0 k.1))
      (judged v c) two (anything (judged v c)) words
  judged_word (Stars n) w = tt
  judged_word (Around n d) w = tt
  judged_word (Bounded d e) w = tt
  judged_word (Unbounded d) w = tt
