-- Each form of an expression: what its rule gives at its place in a file, it gives in the whole program.
use Rattle.std.proofs.Common.{◌≡◌, refl, sym, ap, ◌∙◌, subst, ℕ, suc, List, Bool, true, false, Option, Some, None}
use Rattle.std.specs.Prelude.{slice_get, length, nat_lt, ◌&&◌, if◌then◌else◌, option_and_then, option_map}
use Rattle.ldb_words.specs.Word.{word_of_signed}
use Rattle.c_lex.specs.declared.token.Place.{Place}
use Rattle.c_symbol.specs.declared.symbol.LeafKind.{LeafKind}
use Rattle.c_symbol.specs.declared.symbol.LeafKind.TheVariants as leaf
use Rattle.c_symbol.specs.declared.symbol.Access.{Access}
use Rattle.c_symbol.specs.declared.symbol.Access.TheVariants as access
use Rattle.c_symbol.specs.declared.symbol.Step.{Step}
use Rattle.c_symbol.specs.declared.symbol.PrefixOp.{PrefixOp}
use Rattle.c_symbol.specs.declared.symbol.PrefixOp.TheVariants as prefix
use Rattle.c_symbol.specs.declared.symbol.BinaryOp.{BinaryOp as Written}
use Rattle.c_symbol.specs.declared.symbol.BinaryOp.TheVariants as written
use Rattle.c_tree.specs.declared.typed.BinaryOp.{BinaryOp}
use Rattle.c_tree.specs.declared.typed.BinaryOp.TheVariants as op
use Rattle.c_tree.specs.declared.typed.UnaryOp.{UnaryOp}
use Rattle.c_tree.specs.declared.typed.UnaryOp.TheVariants.{Plus, Minus, Complement, Not}
use Rattle.c_tree.specs.declared.typed.Typed.{Typed}
use Rattle.c_tree.specs.declared.typed.Typed.TheVariants.{Comma', Assign', Choice', Or', And', Binary', Cast', Before', Address', Follow', Unary', SizeOf', SizeOfType, Index', Dot', Arrow', After', Name, Constant, Literal, Parens'}
use Rattle.c_tree.specs.declared.types.StructDef.{StructDef}
use Rattle.c_typing.specs.Plain.{Plain, Char, Array, Int, Unsigned, plain, value_type, is_integer}
use Rattle.c_typing.specs.Written.{IsWritten}
use Rattle.c_typing.specs.Rules.{unary_type, followed, address_type, dot_type, arrow_type, index_type, binary_type, assignment_type, compound_type, step_type, logical_type, choice_type, comma_type, cast_type, size_type, may_drop}
use Rattle.c_typing.specs.Expressions as typing
use Rattle.c_typing.specs.Expressions.{Denoted, Object, Function, Hidden, object_type, name_type, operand, value, is_constant_type, string_type}
use Rattle.c_typing.specs.Constants as constants
use Rattle.c_defs.specs.Members.{member_number}
use Rattle.c_typing.specs.declared.constant.Constant.TheVariants as folds
use Rattle.c_judge.specs.Scope.{Scope, pointed_number}
use Rattle.c_judge.specs.Answers.{Known, Broken}
use Rattle.c_typing.specs.Values as values
use Rattle.c_judge.specs.Judgement.{Judged, value_type_of, object, variable, string_of, folded, unary, sized, stepped, step_of, cast_to, indexed, prefixed, joined, operation, compound_of, compound_rule, assigned, member_of, chosen_of, named, leaf_of, register_of, integer_type, rule_of}
use Rattle.c_judge.specs.Elaboration.{IsUnary, IsPrefixed, IsAssigned, IsOperation, IsJoined, IsParen, IsIndex, IsMember, IsAfter, IsChoice, IsCast, IsSizeOfType, IsConstant, IsLeaf}
use Rattle.c_accepted.specs.Grown.{Grows}
use Rattle.c_accepted.specs.Reads.{Reads, IsLeafRead}
use Rattle.c_accepted.proofs.Known.{never, one_known, ruled, only_this}
use Rattle.c_accepted.proofs.Growth.{size_grows, dot_grows, arrow_grows, followed_grows, index_grows, binary_grows, compound_grows, step_grows, size_type_grows}
use Rattle.c_accepted.proofs.Told.{sized_known, Told, value_is, operand_is, Has, made, typed_as, moved}

integer_is : (b : Bool) → is_constant_type (if b then Unsigned else Int) ≡ true
integer_is true = refl
integer_is false = refl

-- a name that denotes an object
denotes : (o : Option Denoted) (t : Plain) → option_and_then object_type o ≡ Some t → (r : Bool) × (o ≡ Some (Object t r)) × (register_of o ≡ r)
denotes (Some (Object u r)) t h = (r, ap (λ w. Some (Object w r)) cc, refl)
denotes (Some (Function r ts)) t h = absurd (let k : None ≡ Some t = h in cc)
denotes (Some Hidden) t h = absurd (let k : None ≡ Some t = h in cc)
denotes None t h = absurd (let k : None ≡ Some t = h in cc)

-- `d` are the structs at the place, and those of `s` the ones of the program
module _ (d : List StructDef) (s : typing.Scope) (g : Grows d s.defs) where
  pub paren_told : (z x : Typed) (j : Judged) → IsParen x z → Has s z j → Told s x j → Told s z j
  paren_told (Parens' h i a) x j e c k =
      let p = moved s a x j e k in
      record { typed = λ words. (p.typed words, p.ctype ∙ sym c); ctype = c; lvalue = p.lvalue; register = p.register; string = p.string; null = p.null; constant = p.constant }
  paren_told z x j e c k = absurd e

  pub index_told : (z x y : Typed) (k l j : Judged) (at : ℕ) → IsIndex x y z → Has s z j → indexed d at k l ≡ Known j → Told s x k → Told s y l → Told s z j
  index_told (Index' h i a m b) x y k l j at e c r p q =
      let (t, o, f) = ruled 28 at object (index_type d (value_type_of k) (value_type_of l)) j r in
      let pa = moved s a x k e.0 p in
      let pb = moved s b y l e.1 q in
      let here : t ≡ plain h.ctype = typed_as s (Index' h i a m b) (object t) j t f refl c in
      made s (Index' h i a m b) (object t) j f
      (λ words. (
        pa.typed words.0,
        pb.typed words.1,
        ap (λ u. index_type s.defs u (value s b)) (value_is s a k pa) ∙ ap (index_type s.defs (value_type_of k)) (value_is s b l pb) ∙
            index_grows d s.defs g (value_type_of k) (value_type_of l) (plain h.ctype) (o ∙ ap Some here),
      )) c refl refl refl refl refl
  index_told z x y k l j at e c r p q = absurd e

  pub member_told : (w : Access) (name : List ℕ) (z x : Typed) (k j : Judged) (at : ℕ) → IsMember d w name x z → Has s z j → member_of d at w name k ≡ Known j → Told s x k → Told s z j
  member_told access.Dot name (Dot' h i a m) x k j at e c r p =
      let (t, o, f) = ruled 26 at object (option_and_then (dot_type d k.operand) (member_number d k.operand.ctype name)) j r in
      let pa = moved s a x k e.0 p in
      let n : member_number d k.operand.ctype name ≡ Some m = sym (ap (λ u. member_number d u name) p.ctype) ∙ e.1 in
      let here : t ≡ plain h.ctype = typed_as s (Dot' h i a m) (object t) j t f refl c in
      made s (Dot' h i a m) (object t) j f
      (λ words. (pa.typed words, ap (λ u. dot_type s.defs u m) (operand_is s a k pa) ∙ dot_grows d s.defs g k.operand m (plain h.ctype) (sym (ap (option_and_then (dot_type d k.operand)) n) ∙ o ∙ ap Some here))) c refl refl refl refl refl
  member_told access.Arrow name (Arrow' h i a m) x k j at e c r p =
      let (t, o, f) = ruled 27 at object (option_and_then (arrow_type d (value_type_of k)) (pointed_number d (value_type_of k) name)) j r in
      let pa = moved s a x k e.0 p in
      let n : pointed_number d (value_type_of k) name ≡ Some m = sym (ap (λ u. pointed_number d (value_type u) name) p.ctype) ∙ e.1 in
      let here : t ≡ plain h.ctype = typed_as s (Arrow' h i a m) (object t) j t f refl c in
      made s (Arrow' h i a m) (object t) j f
      (λ words. (pa.typed words, ap (λ u. arrow_type s.defs u m) (value_is s a k pa) ∙ arrow_grows d s.defs g (value_type_of k) m (plain h.ctype) (sym (ap (option_and_then (arrow_type d (value_type_of k))) n) ∙ o ∙ ap Some here))) c refl refl refl refl refl
  member_told w name z x k j at e c r p = absurd e

  -- ---- operators in front of and behind an operand

  unary_told : (o : UnaryOp) (z x : Typed) (k j : Judged) (at : ℕ) → IsUnary o x z → Has s z j → unary at o k ≡ Known j → Told s x k → Told s z j
  unary_told o (Unary' h w i a) x k j at e c r p =
      let r' : unary at w k ≡ Known j = subst (λ o. unary at o k ≡ Known j) (sym e.0) r in
      let pa = moved s a x k e.1 p in
      let n = values.with_one (values.turned w (values.is_unsigned (value_type_of k))) k.constant in
      let (t, y, f) = ruled 23 at (folded n) (unary_type w (value_type_of k)) j r' in
      let here : t ≡ plain h.ctype = typed_as s (Unary' h w i a) (folded n t) j t f refl c in
      made s (Unary' h w i a) (folded n t) j f (λ words. (pa.typed words, ap (unary_type w) (value_is s a k pa) ∙ y ∙ ap Some here)) c refl refl refl refl
      (ap (λ u. values.with_one (values.turned w (values.is_unsigned u)) (constants.constant s.defs a)) (value_is s a k pa) ∙ ap (values.with_one (values.turned w (values.is_unsigned (value_type_of k)))) pa.constant)
  unary_told o z x k j at e c r p = absurd e

  before_told : (step : Step) (z x : Typed) (k j : Judged) (at : ℕ) → IsPrefixed (prefix.Step step) x z → Has s z j → stepped d at step k ≡ Known j → Told s x k → Told s z j
  before_told step (Before' h w i a) x k j at e c r p =
      let (t, o, f) = ruled 37 at (folded folds.Variable) (step_type d (step_of step) k.operand) j r in
      let pa = moved s a x k e.1 p in
      let here : t ≡ plain h.ctype = typed_as s (Before' h w i a) (folded folds.Variable t) j t f refl c in
      made s (Before' h w i a) (folded folds.Variable t) j f
      (λ words. (pa.typed words, ap (λ w. step_type s.defs w (operand s a)) e.0 ∙ ap (step_type s.defs (step_of step)) (operand_is s a k pa) ∙ step_grows d s.defs g (step_of step) k.operand (plain h.ctype) (o ∙ ap Some here))) c refl refl refl refl refl
  before_told step z x k j at e c r p = absurd e

  pub after_told : (step : Step) (z x : Typed) (k j : Judged) (at : ℕ) → IsAfter step x z → Has s z j → stepped d at step k ≡ Known j → Told s x k → Told s z j
  after_told step (After' h i a w) x k j at e c r p =
      let (t, o, f) = ruled 37 at (folded folds.Variable) (step_type d (step_of step) k.operand) j r in
      let pa = moved s a x k e.1 p in
      let here : t ≡ plain h.ctype = typed_as s (After' h i a w) (folded folds.Variable t) j t f refl c in
      made s (After' h i a w) (folded folds.Variable t) j f
      (λ words. (pa.typed words, ap (λ w. step_type s.defs w (operand s a)) e.0 ∙ ap (step_type s.defs (step_of step)) (operand_is s a k pa) ∙ step_grows d s.defs g (step_of step) k.operand (plain h.ctype) (o ∙ ap Some here))) c refl refl refl refl refl
  after_told step z x k j at e c r p = absurd e

  pub prefix_told : (w : PrefixOp) (z x : Typed) (k j : Judged) (at : ℕ) → IsPrefixed w x z → Has s z j → prefixed d at w k ≡ Known j → Told s x k → Told s z j
  prefix_told prefix.Address (Address' h i a) x k j at e c r p =
      let (t, o, f) = ruled 25 at (folded folds.Variable) (address_type k.operand) j r in
      let pa = moved s a x k e p in
      let here : t ≡ plain h.ctype = typed_as s (Address' h i a) (folded folds.Variable t) j t f refl c in
      made s (Address' h i a) (folded folds.Variable t) j f (λ words. (pa.typed words, ap address_type (operand_is s a k pa) ∙ o ∙ ap Some here)) c refl refl refl refl refl
  prefix_told prefix.Dereference (Follow' h i a) x k j at e c r p =
      let (t, o, f) = ruled 24 at object (followed d (value_type_of k)) j r in
      let pa = moved s a x k e p in
      let here : t ≡ plain h.ctype = typed_as s (Follow' h i a) (object t) j t f refl c in
      made s (Follow' h i a) (object t) j f (λ words. (pa.typed words, ap (followed s.defs) (value_is s a k pa) ∙ followed_grows d s.defs g (value_type_of k) (plain h.ctype) (o ∙ ap Some here))) c refl refl refl refl refl
  prefix_told prefix.Sizeof (SizeOf' h i a) x k j at e c r p =
      let (n, o, f) = sized_known d at k.operand.ctype j r in
      let pa = moved s a x k e p in
      let v = folded (folds.Number (values.size_of d k.operand.ctype)) Unsigned in
      let here : Unsigned ≡ plain h.ctype = typed_as s (SizeOf' h i a) v j Unsigned f refl c in
      made s (SizeOf' h i a) v j f (λ words. (pa.typed words, ap (size_type s.defs) pa.ctype ∙ size_type_grows d s.defs g k.operand.ctype (plain h.ctype) (o ∙ ap Some here))) c refl refl refl refl
      (ap folds.Number (ap (values.size_of s.defs) pa.ctype ∙ size_grows d s.defs g k.operand.ctype n))
  prefix_told prefix.Plus z x k j at e c r p = unary_told Plus z x k j at e c r p
  prefix_told prefix.Minus z x k j at e c r p = unary_told Minus z x k j at e c r p
  prefix_told prefix.Complement z x k j at e c r p = unary_told Complement z x k j at e c r p
  prefix_told prefix.Not z x k j at e c r p = unary_told Not z x k j at e c r p
  prefix_told (prefix.Step step) z x k j at e c r p = before_told step z x k j at e c r p
  prefix_told prefix.Address z x k j at e c r p = absurd e
  prefix_told prefix.Dereference z x k j at e c r p = absurd e
  prefix_told prefix.Sizeof z x k j at e c r p = absurd e

  -- ---- types that are written

  pub size_type_told : (t : Plain) (z : Typed) (j : Judged) (at : ℕ) → IsSizeOfType t z → ((u : _) → plain u ≡ t → IsWritten s.defs u) → Has s z j → sized d at t ≡ Known j → Told s z j
  size_type_told t (SizeOfType h u) j at e w c r =
      let (n, o, f) = sized_known d at t j r in
      let v = folded (folds.Number (values.size_of d t)) Unsigned in
      let here : Unsigned ≡ plain h.ctype = typed_as s (SizeOfType h u) v j Unsigned f refl c in
      made s (SizeOfType h u) v j f (λ words. (w u e, ap (size_type s.defs) e ∙ size_type_grows d s.defs g t (plain h.ctype) (o ∙ ap Some here))) c refl refl refl refl
      (ap folds.Number (ap (values.size_of s.defs) e ∙ size_grows d s.defs g t n))
  size_type_told t z j at e w c r = absurd e

  pub cast_told : (z x : Typed) (t : Plain) (k j : Judged) (at : ℕ) → IsCast x z → Has s z j → cast_to at t k ≡ Known j → Told s x k → Told s z j
  cast_told (Cast' h i a) x t k j at e c r p =
      let n = values.with_one (values.converted t) k.constant in
      let (u, o, f) = ruled 40 at (folded n) (cast_type t (value_type_of k)) j r in
      let pa = moved s a x k e p in
      let same : t ≡ u = (only_this (is_integer t && is_integer (value_type_of k)) t u o).1 in
      let here : u ≡ plain h.ctype = typed_as s (Cast' h i a) (folded n u) j u f refl c in
      let whole : t ≡ plain h.ctype = same ∙ here in
      made s (Cast' h i a) (folded n u) j f
      (λ words. (pa.typed words, ap (cast_type (plain h.ctype)) (value_is s a k pa) ∙ ap (λ w. cast_type w (value_type_of k)) (sym whole) ∙ o ∙ ap Some here)) c refl refl refl refl
      (ap (λ w. values.with_one (values.converted w) (constants.constant s.defs a)) (sym whole) ∙ ap (values.with_one (values.converted t)) pa.constant)
  cast_told z x t k j at e c r p = absurd e

  -- ---- operators between two operands

  operation_told : (o : BinaryOp) (z x y : Typed) (k l j : Judged) (at : ℕ) → IsOperation o x y z → Has s z j → operation d at o k l ≡ Known j → Told s x k → Told s y l → Told s z j
  operation_told o (Binary' h i a w m b) x y k l j at e c r p q =
      let r' : operation d at w k l ≡ Known j = subst (λ o. operation d at o k l ≡ Known j) e.0 r in
      let pa = moved s a x k e.1 p in
      let pb = moved s b y l e.2 q in
      let n = values.combined w (value_type_of k) (value_type_of l) k.constant l.constant in
      let (t, u, f) = ruled (rule_of w) at (folded n) (binary_type d w k.operand l.operand) j r' in
      let here : t ≡ plain h.ctype = typed_as s (Binary' h i a w m b) (folded n t) j t f refl c in
      made s (Binary' h i a w m b) (folded n t) j f
      (λ words. (
        pa.typed words.0,
        pb.typed words.1,
        ap (λ g. binary_type s.defs w g (operand s b)) (operand_is s a k pa) ∙ ap (binary_type s.defs w k.operand) (operand_is s b l pb) ∙
            binary_grows d s.defs g w k.operand l.operand (plain h.ctype) (u ∙ ap Some here),
      )) c refl refl refl refl
      (ap (λ g. values.combined w g (value s b) (constants.constant s.defs a) (constants.constant s.defs b)) (value_is s a k pa)
      ∙ ap (λ g. values.combined w (value_type_of k) g (constants.constant s.defs a) (constants.constant s.defs b)) (value_is s b l pb)
      ∙ ap (λ g. values.combined w (value_type_of k) (value_type_of l) g (constants.constant s.defs b)) pa.constant
      ∙ ap (values.combined w (value_type_of k) (value_type_of l) k.constant) pb.constant)
  operation_told o z x y k l j at e c r p q = absurd e

  assigned_told : (o : Option BinaryOp) (z x y : Typed) (k l j : Judged) (at : ℕ) → IsAssigned o x y z → Has s z j → assigned d at o k l ≡ Known j → Told s x k → Told s y l → Told s z j
  assigned_told None (Assign' h i a None m b) x y k l j at e c r p q =
      let (t, o, f) = ruled 36 at (folded folds.Variable) (assignment_type k.operand l.operand) j r in
      let pa = moved s a x k e.1 p in
      let pb = moved s b y l e.2 q in
      let here : t ≡ plain h.ctype = typed_as s (Assign' h i a None m b) (folded folds.Variable t) j t f refl c in
      made s (Assign' h i a None m b) (folded folds.Variable t) j f
      (λ words. (pa.typed words.0, pb.typed words.1, ap (λ g. assignment_type g (operand s b)) (operand_is s a k pa) ∙ ap (assignment_type k.operand) (operand_is s b l pb) ∙ o ∙ ap Some here)) c refl refl refl refl refl
  assigned_told (Some w) (Assign' h i a (Some w') m b) x y k l j at e c r p q =
      let same : w ≡ w' = (let v = e.0 in cc) in
      let (t, o, f) = ruled (compound_rule d w k l) at (folded folds.Variable) (compound_type d w k.operand (value_type_of l)) j r in
      let pa = moved s a x k e.1 p in
      let pb = moved s b y l e.2 q in
      let here : t ≡ plain h.ctype = typed_as s (Assign' h i a (Some w') m b) (folded folds.Variable t) j t f refl c in
      made s (Assign' h i a (Some w') m b) (folded folds.Variable t) j f
      (λ words. (
        pa.typed words.0,
        pb.typed words.1,
        ap (λ w. compound_type s.defs w (operand s a) (value s b)) (sym same) ∙ ap (λ g. compound_type s.defs w g (value s b)) (operand_is s a k pa) ∙ ap (compound_type s.defs w k.operand) (value_is s b l pb) ∙
            compound_grows d s.defs g w k.operand (value_type_of l) (plain h.ctype) (o ∙ ap Some here),
      )) c refl refl refl refl refl
  assigned_told None (Assign' h i a (Some w) m b) x y k l j at e c r p q = absurd (let v = e.0 in cc)
  assigned_told (Some w) (Assign' h i a None m b) x y k l j at e c r p q = absurd (let v = e.0 in cc)
  assigned_told o z x y k l j at e c r p q = absurd e

  pub joined_told : (w : Written) (z x y : Typed) (k l j : Judged) (at : ℕ) → IsJoined w x y z → Has s z j → joined d at w k l ≡ Known j → Told s x k → Told s y l → Told s z j
  joined_told written.Comma (Comma' h i a m b) x y k l j at e c r p q =
      let (t, o, f) = ruled (if may_drop k.operand then 39 else 22) at (folded folds.Variable) (comma_type k.operand l.operand) j r in
      let pa = moved s a x k e.0 p in
      let pb = moved s b y l e.1 q in
      let here : t ≡ plain h.ctype = typed_as s (Comma' h i a m b) (folded folds.Variable t) j t f refl c in
      made s (Comma' h i a m b) (folded folds.Variable t) j f
      (λ words. (pa.typed words.0, pb.typed words.1, ap (λ g. comma_type g (operand s b)) (operand_is s a k pa) ∙ ap (comma_type k.operand) (operand_is s b l pb) ∙ o ∙ ap Some here)) c refl refl refl refl refl
  joined_told written.LogicalOr (Or' h i a m b) x y k l j at e c r p q =
      let n = values.either k.constant l.constant in
      let (t, o, f) = ruled 38 at (folded n) (logical_type (value_type_of k) (value_type_of l)) j r in
      let pa = moved s a x k e.0 p in
      let pb = moved s b y l e.1 q in
      let here : t ≡ plain h.ctype = typed_as s (Or' h i a m b) (folded n t) j t f refl c in
      made s (Or' h i a m b) (folded n t) j f
      (λ words. (pa.typed words.0, pb.typed words.1, ap (λ g. logical_type g (value s b)) (value_is s a k pa) ∙ ap (logical_type (value_type_of k)) (value_is s b l pb) ∙ o ∙ ap Some here)) c refl refl refl refl
      (ap (λ g. values.either g (constants.constant s.defs b)) pa.constant ∙ ap (values.either k.constant) pb.constant)
  joined_told written.LogicalAnd (And' h i a m b) x y k l j at e c r p q =
      let n = values.both k.constant l.constant in
      let (t, o, f) = ruled 38 at (folded n) (logical_type (value_type_of k) (value_type_of l)) j r in
      let pa = moved s a x k e.0 p in
      let pb = moved s b y l e.1 q in
      let here : t ≡ plain h.ctype = typed_as s (And' h i a m b) (folded n t) j t f refl c in
      made s (And' h i a m b) (folded n t) j f
      (λ words. (pa.typed words.0, pb.typed words.1, ap (λ g. logical_type g (value s b)) (value_is s a k pa) ∙ ap (logical_type (value_type_of k)) (value_is s b l pb) ∙ o ∙ ap Some here)) c refl refl refl refl
      (ap (λ g. values.both g (constants.constant s.defs b)) pa.constant ∙ ap (values.both k.constant) pb.constant)
  joined_told (written.Assign o) z x y k l j at e c r p q = assigned_told (compound_of o) z x y k l j at e c r p q
  joined_told written.BitOr z x y k l j at e c r p q = operation_told op.BitOr z x y k l j at e c r p q
  joined_told written.BitXor z x y k l j at e c r p q = operation_told op.BitXor z x y k l j at e c r p q
  joined_told written.BitAnd z x y k l j at e c r p q = operation_told op.BitAnd z x y k l j at e c r p q
  joined_told written.Equal z x y k l j at e c r p q = operation_told op.Equal z x y k l j at e c r p q
  joined_told written.NotEqual z x y k l j at e c r p q = operation_told op.Unequal z x y k l j at e c r p q
  joined_told written.Less z x y k l j at e c r p q = operation_told op.Less z x y k l j at e c r p q
  joined_told written.Greater z x y k l j at e c r p q = operation_told op.Greater z x y k l j at e c r p q
  joined_told written.LessEqual z x y k l j at e c r p q = operation_told op.LessEqual z x y k l j at e c r p q
  joined_told written.GreaterEqual z x y k l j at e c r p q = operation_told op.GreaterEqual z x y k l j at e c r p q
  joined_told written.ShiftLeft z x y k l j at e c r p q = operation_told op.ShiftLeft z x y k l j at e c r p q
  joined_told written.ShiftRight z x y k l j at e c r p q = operation_told op.ShiftRight z x y k l j at e c r p q
  joined_told written.Add z x y k l j at e c r p q = operation_told op.Add z x y k l j at e c r p q
  joined_told written.Subtract z x y k l j at e c r p q = operation_told op.Subtract z x y k l j at e c r p q
  joined_told written.Multiply z x y k l j at e c r p q = operation_told op.Multiply z x y k l j at e c r p q
  joined_told written.Divide z x y k l j at e c r p q = operation_told op.Divide z x y k l j at e c r p q
  joined_told written.Remainder z x y k l j at e c r p q = operation_told op.Remainder z x y k l j at e c r p q
  joined_told written.Comma z x y k l j at e c r p q = absurd e
  joined_told written.LogicalOr z x y k l j at e c r p q = absurd e
  joined_told written.LogicalAnd z x y k l j at e c r p q = absurd e

  pub choice_told : (z w x y : Typed) (i k l j : Judged) (at : ℕ) → IsChoice w x y z → Has s z j → chosen_of at i k l ≡ Known j → Told s w i → Told s x k → Told s y l → Told s z j
  choice_told (Choice' h a' q b' a c' b) w x y i k l j at e c r o p m =
      let n = values.chosen i.constant k.constant l.constant in
      let (t, u, f) = ruled 38 at (folded n) (choice_type (value_type_of i) k.operand l.operand) j r in
      let pq = moved s q w i e.0 o in
      let pa = moved s a x k e.1 p in
      let pb = moved s b y l e.2 m in
      let here : t ≡ plain h.ctype = typed_as s (Choice' h a' q b' a c' b) (folded n t) j t f refl c in
      made s (Choice' h a' q b' a c' b) (folded n t) j f (λ words. (
        pq.typed words.0,
        pa.typed words.1,
        pb.typed words.2,
        ap (λ g. choice_type g (operand s a) (operand s b)) (value_is s q i pq) ∙ ap (λ g. choice_type (value_type_of i) g (operand s b)) (operand_is s a k pa) ∙ ap (choice_type (value_type_of i) k.operand) (operand_is s b l pb) ∙ u ∙ ap Some here,
      )) c refl refl refl refl
      (ap (λ g. values.chosen g (constants.constant s.defs a) (constants.constant s.defs b)) pq.constant
      ∙ ap (λ g. values.chosen i.constant g (constants.constant s.defs b)) pa.constant
      ∙ ap (values.chosen i.constant k.constant) pb.constant)
  choice_told z w x y i k l j at e c r o p m = absurd e

-- ---- leaves

module _ (s : typing.Scope) where
  constant_told : (m : ℕ) (t : Plain) (z : Typed) (j : Judged) → is_constant_type t ≡ true → IsConstant m z → Has s z j → Known (folded (folds.Number m) t) ≡ Known j → Told s z j
  constant_told m t (Constant h n) j i e c r =
      let f = one_known (folded (folds.Number m) t) j r in
      let here : t ≡ plain h.ctype = typed_as s (Constant h n) (folded (folds.Number m) t) j t f refl c in
      made s (Constant h n) (folded (folds.Number m) t) j f (λ words. (subst (λ u. is_constant_type u ≡ true) here i, words)) c refl refl refl refl (ap folds.Number e)
  constant_told m t z j i e c r = absurd e

  module _ (v : Scope) (reads : Reads v s) where
    name_told : (at : Place) (text : List ℕ) (z : Typed) (j : Judged) → IsLeaf v at leaf.Name text z → Has s z j → leaf_of v at.at leaf.Name text ≡ Known j → Told s z j
    name_told at text (Name h n) j e c r =
        let o = slice_get v.among.names n in
        let (t, k, f) = ruled 21 at.at (variable (register_of o)) (name_type v.among n) j (sym (ap (named v at.at text) e) ∙ r) in
        let (b, is, reg) = denotes o t k in
        let there : slice_get s.names n ≡ Some (Object t b) = reads.objects text n t b e is in
        let here : t ≡ plain h.ctype = typed_as s (Name h n) (variable (register_of o) t) j t f refl c in
        made s (Name h n) (variable (register_of o) t) j f (λ words. ap (option_and_then object_type) there ∙ ap Some here) c refl (ap typing.register_in there ∙ sym reg) refl refl refl
    name_told at text z j e c r = absurd e

    text_told : (at : Place) (text : List ℕ) (z : Typed) (j : Judged) → IsLeaf v at leaf.Text text z → IsLeafRead v s at leaf.Text text → Has s z j → leaf_of v at.at leaf.Text text ≡ Known j → Told s z j
    text_told at text (Literal h n) j e l c r =
        let f : string_of text ≡ j = short (nat_lt (length text) 1048576) r in
        let here : Array Char (suc (length text)) ≡ plain h.ctype = typed_as s (Literal h n) (string_of text) j (Array Char (suc (length text))) f refl c in
        made s (Literal h n) (string_of text) j f (λ words. ap (λ m. option_map (λ (t : List ℕ). Array Char (suc (length t))) (slice_get s.strings m)) e ∙ ap (option_map (λ (t : List ℕ). Array Char (suc (length t)))) l ∙ ap Some here) c refl refl refl refl refl
      where
        short : (b : Bool) → (if b then Known (string_of text) else Broken 1 at.at) ≡ Known j → string_of text ≡ j
        short true k = one_known (string_of text) j k
        short false k = never (Broken 1 at.at) j (λ x. x) k
    text_told at text z j e l c r = absurd e

    pub leaf_told : (at : Place) (kind : LeafKind) (text : List ℕ) (z : Typed) (j : Judged) → IsLeafRead v s at kind text → IsLeaf v at kind text z → Has s z j → leaf_of v at.at kind text ≡ Known j → Told s z j
    leaf_told at leaf.Name text z j l e c r = name_told at text z j e c r
    leaf_told at (leaf.Constant i) text z j l e c r = constant_told i.value (integer_type i) z j (integer_is i.is_unsigned) e c r
    leaf_told at (leaf.Character q) text z j l e c r = constant_told (word_of_signed q) Int z j refl e c r
    leaf_told at leaf.Text text z j l e c r = text_told at text z j e l c r
