-- A part that is made of checked parts is what the whole expression becomes.
use Rattle.std.proofs.Common.{◌≡◌, ℕ, List, ◌∙◌, sym, refl, ap, subst, Result, Ok, Err}
use Rattle.c_lex.specs.declared.token.Place.{Place}
use Rattle.c_symbol.specs.declared.symbol.Access.{Access}
use Rattle.c_symbol.specs.declared.symbol.Step.{Step}
use Rattle.c_symbol.specs.declared.symbol.PrefixOp.{PrefixOp}
use Rattle.c_symbol.specs.declared.symbol.BinaryOp.{BinaryOp}
use Rattle.c_trees.specs.declared.expression.Spec.{Spec}
use Rattle.c_trees.specs.Expressions.{Tree, Paren, Index, Member, After, Prefix, SizeofType, Cast, Binary, Choice}
use Rattle.c_tree.specs.declared.types.CType.{CType}
use Rattle.c_tree.specs.declared.typed.Typed.{Typed}
use Rattle.c_tree.specs.Types.{head_of}
use Rattle.c_typing.specs.Plain.{Plain, plain}
use Rattle.c_judge.specs.declared.part.Part.{Part}
use Rattle.c_judge.specs.declared.fault.Fault.{Fault}
use Rattle.c_judge.specs.Scope.{Scope, defs_of}
use Rattle.c_judge.specs.Answers.{Answer, Known, joint, both_known}
use Rattle.c_judge.specs.Places.{place_of}
use Rattle.c_judge.specs.Pairs.{paired, told_alone, refused}
use Rattle.c_judge.specs.Judgement.{Verdict, judged, declared, spec_type, indexed, stepped, cast_to, sized, chosen_of, member_of, prefixed, joined, index_alone, left_alone, right_alone, cast_alone, cast_operand_alone, scalar_alone, branches_alone}
use Rattle.c_judge.specs.Parts.{judged_of}
use Rattle.c_judge.specs.Elaboration.{Elaborates, site_of, type_in, HasHead, IsParen, IsIndex, IsMember, IsAfter, IsChoice, IsCast, IsSizeOfType, IsPrefixed, IsJoined}
use Rattle.c_judge.specs.Judges.{Judges, Makes, IsFault, Gives, Denotes}
use Rattle.c_judge.proofs.Faults.{then_fails, then_gives, joint_fails, joint_known, joint_both, joint_gives, judges_gives}

-- what is known of two parts, where both are there
pub there : (v : Scope) (a : Tree) (r : Result Part Fault) (x : Part) → Judges v a r → r ≡ Ok x → (judged v a ≡ Known (judged_of x)) × Elaborates v a x.typed.value
there v a r x h e = subst (Judges v a) e h

type_there : (j : Answer Plain) (r : Result CType Fault) (t : CType) → Denotes j r → r ≡ Ok t → j ≡ Known (plain t)
type_there j r t h e = subst (Gives plain j) e h

module _ (v : Scope) where
  -- its head is the expression's
  headed : (e : Tree) (at : Place) (p : Part) → place_of e ≡ at → judged v e ≡ Known (judged_of p) → (head_of p.typed.value).site ≡ site_of at → HasHead v e p.typed.value
  headed e at p w j s = (s ∙ ap site_of (sym w), ap type_in j)

  -- a form whose parts are there
  pub made : (e : Tree) (at : Place) (j : Verdict) (P : Typed → Type 0) (r : Result Part Fault) → place_of e ≡ at → judged v e ≡ j → ((z : Typed) → HasHead v e z → P z → Elaborates v e z) → Makes j P at r → Judges v e r
  made e at j P (Ok p) w h b (m, i, s) = let k : judged v e ≡ Known (judged_of p) = h ∙ m in (k, b p.typed.value (headed e at p w k s) i)
  made e at j P (Err f) w h b m = subst (λ y. IsFault y f) (sym h) m

  pub paren_judges : (at : Place) (a : Tree) (x : Part) (r : Result Part Fault) → judged v a ≡ Known (judged_of x) → Elaborates v a x.typed.value → Makes (Known (judged_of x)) (IsParen x.typed.value) at r → Judges v (Paren at a) r
  paren_judges at a x r j l m = made (Paren at a) at _ (IsParen x.typed.value) r refl j (λ z h i. (h, (x.typed.value, i, l))) m

  pub member_judges : (at : Place) (a : Tree) (w : Access) (q : Place) (name : List ℕ) (x : Part) (r : Result Part Fault) → judged v a ≡ Known (judged_of x) → Elaborates v a x.typed.value → Makes (member_of (defs_of v) at.at w name (judged_of x)) (IsMember (defs_of v) w name x.typed.value) at r → Judges v (Member at a w q name) r
  member_judges at a w q name x r j l m = made (Member at a w q name) at _ (IsMember (defs_of v) w name x.typed.value) r refl (then_gives (judged v a) (judged_of x) (member_of (defs_of v) at.at w name) j) (λ z h i. (h, (x.typed.value, i, l))) m

  pub member_fails : (at : Place) (a : Tree) (w : Access) (q : Place) (name : List ℕ) (f : Fault) → IsFault (judged v a) f → IsFault (judged v (Member at a w q name)) f
  member_fails at a w q name f h = then_fails (judged v a) (member_of (defs_of v) at.at w name) f h

  pub after_judges : (at : Place) (a : Tree) (step : Step) (x : Part) (r : Result Part Fault) → judged v a ≡ Known (judged_of x) → Elaborates v a x.typed.value → Makes (stepped (defs_of v) at.at step (judged_of x)) (IsAfter step x.typed.value) at r → Judges v (After at a step) r
  after_judges at a step x r j l m = made (After at a step) at _ (IsAfter step x.typed.value) r refl (then_gives (judged v a) (judged_of x) (stepped (defs_of v) at.at step) j) (λ z h i. (h, (x.typed.value, i, l))) m

  pub after_fails : (at : Place) (a : Tree) (step : Step) (f : Fault) → IsFault (judged v a) f → IsFault (judged v (After at a step)) f
  after_fails at a step f h = then_fails (judged v a) (stepped (defs_of v) at.at step) f h

  pub prefix_judges : (at : Place) (w : PrefixOp) (a : Tree) (x : Part) (r : Result Part Fault) → judged v a ≡ Known (judged_of x) → Elaborates v a x.typed.value → Makes (prefixed (defs_of v) at.at w (judged_of x)) (IsPrefixed w x.typed.value) at r → Judges v (Prefix at w a) r
  prefix_judges at w a x r j l m = made (Prefix at w a) at _ (IsPrefixed w x.typed.value) r refl (then_gives (judged v a) (judged_of x) (prefixed (defs_of v) at.at w) j) (λ z h i. (h, (x.typed.value, i, l))) m

  pub prefix_fails : (at : Place) (w : PrefixOp) (a : Tree) (f : Fault) → IsFault (judged v a) f → IsFault (judged v (Prefix at w a)) f
  prefix_fails at w a f h = then_fails (judged v a) (prefixed (defs_of v) at.at w) f h

  pub size_judges : (at : Place) (s : Spec) (d : Tree) (t : CType) (r : Result Part Fault) → declared v at.at d (Known (spec_type v s)) ≡ Known (plain t) → Makes (sized (defs_of v) at.at (plain t)) (IsSizeOfType (plain t)) at r → Judges v (SizeofType at s d) r
  size_judges at s d t r j m = made (SizeofType at s d) at _ (IsSizeOfType (plain t)) r refl (then_gives (declared v at.at d (Known (spec_type v s))) (plain t) (sized (defs_of v) at.at) j) (λ z h i. (h, (plain t, j, i))) m

  pub size_fails : (at : Place) (s : Spec) (d : Tree) (f : Fault) → IsFault (declared v at.at d (Known (spec_type v s))) f → IsFault (judged v (SizeofType at s d)) f
  size_fails at s d f h = then_fails (declared v at.at d (Known (spec_type v s))) (sized (defs_of v) at.at) f h

  pub index_judges : (at : Place) (a b : Tree) (rx ry : Result Part Fault) (x y : Part) (r : Result Part Fault) → Judges v a rx → Judges v b ry → refused at.at (told_alone (λ p. index_alone (defs_of v) (judged_of p)) (λ q. index_alone (defs_of v) (judged_of q)) rx ry) (paired rx ry) ≡ Ok (x, y)
      → Makes (indexed (defs_of v) at.at (judged_of x) (judged_of y)) (IsIndex x.typed.value y.typed.value) at r → Judges v (Index at a b) r
  index_judges at a b rx ry x y r h k p m =
      let two_there = joint_both at.at _ rx ry (x, y) p in
      let (j, l) = there v a rx x h two_there.0 in
      let (o, n) = there v b ry y k two_there.1 in
      made (Index at a b) at _ (IsIndex x.typed.value y.typed.value) r refl (joint_known at.at (index_alone (defs_of v)) (index_alone (defs_of v)) (indexed (defs_of v) at.at) judged_of judged_of (judged v a) (judged v b) _ _ j o) (λ z w i. (w, (x.typed.value, y.typed.value, i, l, n))) m

  pub index_fails : (at : Place) (a b : Tree) (rx ry : Result Part Fault) (f : Fault) → Judges v a rx → Judges v b ry → refused at.at (told_alone (λ p. index_alone (defs_of v) (judged_of p)) (λ q. index_alone (defs_of v) (judged_of q)) rx ry) (paired rx ry) ≡ Err f → IsFault (judged v (Index at a b)) f
  index_fails at a b rx ry f h k p = joint_fails at.at (index_alone (defs_of v)) (index_alone (defs_of v)) (indexed (defs_of v) at.at) judged_of judged_of (judged v a) (judged v b) rx ry f (judges_gives v a rx h) (judges_gives v b ry k) p

  pub binary_judges : (at : Place) (w : BinaryOp) (a b : Tree) (rx ry : Result Part Fault) (x y : Part) (r : Result Part Fault) → Judges v a rx → Judges v b ry → refused at.at (told_alone (λ p. left_alone (defs_of v) w (judged_of p)) (λ q. right_alone (defs_of v) w (judged_of q)) rx ry) (paired rx ry) ≡ Ok (x, y)
      → Makes (joined (defs_of v) at.at w (judged_of x) (judged_of y)) (IsJoined w x.typed.value y.typed.value) at r → Judges v (Binary at w a b) r
  binary_judges at w a b rx ry x y r h k p m =
      let two_there = joint_both at.at _ rx ry (x, y) p in
      let (j, l) = there v a rx x h two_there.0 in
      let (o, n) = there v b ry y k two_there.1 in
      made (Binary at w a b) at _ (IsJoined w x.typed.value y.typed.value) r refl (joint_known at.at (left_alone (defs_of v) w) (right_alone (defs_of v) w) (joined (defs_of v) at.at w) judged_of judged_of (judged v a) (judged v b) _ _ j o) (λ z q i. (q, (x.typed.value, y.typed.value, i, l, n))) m

  pub binary_fails : (at : Place) (w : BinaryOp) (a b : Tree) (rx ry : Result Part Fault) (f : Fault) → Judges v a rx → Judges v b ry → refused at.at (told_alone (λ p. left_alone (defs_of v) w (judged_of p)) (λ q. right_alone (defs_of v) w (judged_of q)) rx ry) (paired rx ry) ≡ Err f → IsFault (judged v (Binary at w a b)) f
  binary_fails at w a b rx ry f h k p = joint_fails at.at (left_alone (defs_of v) w) (right_alone (defs_of v) w) (joined (defs_of v) at.at w) judged_of judged_of (judged v a) (judged v b) rx ry f (judges_gives v a rx h) (judges_gives v b ry k) p

  pub cast_judges : (at : Place) (s : Spec) (d a : Tree) (rt : Result CType Fault) (rx : Result Part Fault) (t : CType) (x : Part) (r : Result Part Fault) → Denotes (declared v at.at d (Known (spec_type v s))) rt → Judges v a rx → refused at.at (told_alone (λ p. cast_alone (plain p)) (λ q. cast_operand_alone (judged_of q)) rt rx) (paired rt rx) ≡ Ok (t, x)
      → Makes (cast_to at.at (plain t) (judged_of x)) (IsCast x.typed.value) at r → Judges v (Cast at s d a) r
  cast_judges at s d a rt rx t x r h k p m =
      let two_there = joint_both at.at _ rt rx (t, x) p in
      let (o, n) = there v a rx x k two_there.1 in
      let j = type_there (declared v at.at d (Known (spec_type v s))) rt t h two_there.0 in
      made (Cast at s d a) at _ (IsCast x.typed.value) r refl (joint_known at.at cast_alone cast_operand_alone (cast_to at.at) plain judged_of (declared v at.at d (Known (spec_type v s))) (judged v a) _ _ j o) (λ z q i. (q, (x.typed.value, i, n))) m

  pub cast_fails : (at : Place) (s : Spec) (d a : Tree) (rt : Result CType Fault) (rx : Result Part Fault) (f : Fault) → Denotes (declared v at.at d (Known (spec_type v s))) rt → Judges v a rx → refused at.at (told_alone (λ p. cast_alone (plain p)) (λ q. cast_operand_alone (judged_of q)) rt rx) (paired rt rx) ≡ Err f → IsFault (judged v (Cast at s d a)) f
  cast_fails at s d a rt rx f h k p = joint_fails at.at cast_alone cast_operand_alone (cast_to at.at) plain judged_of (declared v at.at d (Known (spec_type v s))) (judged v a) rt rx f h (judges_gives v a rx k) p

  module _ (at : Place) (c a b : Tree) (rz rx ry : Result Part Fault) (rp : Result (Part × Part) Fault) (g : Judges v c rz) (h : Judges v a rx) (k : Judges v b ry) (w : rp ≡ refused at.at (told_alone (λ p. scalar_alone (judged_of p)) (λ q. scalar_alone (judged_of q)) rx ry) (paired rx ry)) where
    branches_give : Gives (λ (q : Part × Part). (judged_of q.0, judged_of q.1)) (joint at.at scalar_alone scalar_alone both_known (judged v a) (judged v b)) rp
    branches_give = joint_gives at.at scalar_alone scalar_alone judged_of judged_of (judged v a) (judged v b) rx ry rp (judges_gives v a rx h) (judges_gives v b ry k) w

    pub choice_judges : (z : Part) (q : Part × Part) (r : Result Part Fault) → refused at.at (told_alone (λ p. scalar_alone (judged_of p)) (λ q. branches_alone (judged_of q.0, judged_of q.1)) rz rp) (paired rz rp) ≡ Ok (z, q)
        → Makes (chosen_of at.at (judged_of z) (judged_of q.0) (judged_of q.1)) (IsChoice z.typed.value q.0.typed.value q.1.typed.value) at r → Judges v (Choice at c a b) r
    choice_judges z q r p m =
        let (first, last) = joint_both at.at _ rz rp (z, q) p in
        let two_there = joint_both at.at _ rx ry q (sym w ∙ last) in
        let (j, l) = there v c rz z g first in
        let (o, n) = there v a rx q.0 h two_there.0 in
        let (u, i) = there v b ry q.1 k two_there.1 in
        let both : joint at.at scalar_alone scalar_alone both_known (judged v a) (judged v b) ≡ Known (judged_of q.0, judged_of q.1) = joint_known at.at scalar_alone scalar_alone both_known judged_of judged_of (judged v a) (judged v b) _ _ o u in
        made (Choice at c a b) at _ (IsChoice z.typed.value q.0.typed.value q.1.typed.value) r refl
        (joint_known at.at scalar_alone branches_alone (λ y p. chosen_of at.at y p.0 p.1) judged_of (λ (p : Part × Part). (judged_of p.0, judged_of p.1)) (judged v c) (joint at.at scalar_alone scalar_alone both_known (judged v a) (judged v b)) _ _ j both)
        (λ e s t. (s, (z.typed.value, q.0.typed.value, q.1.typed.value, t, l, n, i))) m

    pub choice_fails : (f : Fault) → refused at.at (told_alone (λ p. scalar_alone (judged_of p)) (λ q. branches_alone (judged_of q.0, judged_of q.1)) rz rp) (paired rz rp) ≡ Err f → IsFault (judged v (Choice at c a b)) f
    choice_fails f p =
        joint_fails at.at scalar_alone branches_alone (λ y p. chosen_of at.at y p.0 p.1) judged_of (λ (p : Part × Part). (judged_of p.0, judged_of p.1)) (judged v c) (joint at.at scalar_alone scalar_alone both_known (judged v a) (judged v b)) rz rp f
        (judges_gives v c rz g) branches_give p
