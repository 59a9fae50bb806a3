-- What is known of an expression at its place in a file holds of its typed tree in the whole program.
use Rattle.std.proofs.Common.{◌≡◌, ◌≤◌, refl, sym, ap, ◌∙◌, subst, arith, ℕ, suc, List, Some}
use Rattle.c_trees.specs.Expressions.{Tree, Leaf, Paren, Index, Call, With, Member, After, Prefix, SizeofType, Cast, Binary, Choice}
use Rattle.c_tree.specs.declared.typed.Typed.{Typed}
use Rattle.c_tree.specs.Types.{type_of}
use Rattle.c_typing.specs.Plain.{plain}
use Rattle.c_typing.specs.Expressions as typing
use Rattle.c_judge.specs.Scope.{Scope, defs_of}
use Rattle.c_judge.specs.Answers.{Known, ◌then◌, both_known, joint}
use Rattle.c_judge.specs.Places.{place_of}
use Rattle.c_judge.specs.Judgement.{Judged, Callee, judged, declared, spec_type, sized, stepped, cast_to, indexed, prefixed, joined, member_of, chosen_of, index_alone, cast_alone, cast_operand_alone, left_alone, right_alone, scalar_alone, branches_alone, callee, counted, called, calling, argument, arguments_in, with_argument}
use Rattle.c_judge.specs.Elaboration.{HasHead, Elaborates, AreArguments, type_in}
use Rattle.c_accepted.specs.Reads.{Reads, IsRead}
use Rattle.c_accepted.proofs.Known.{one_known, then_known, two_known, joint_known}
use Rattle.c_accepted.proofs.Written.{IsNamed, written, spec_named, declared_named}
use Rattle.c_accepted.proofs.Told.{Told, Has}
use Rattle.c_accepted.proofs.Forms.{paren_told, index_told, member_told, after_told, prefix_told, size_type_told, cast_told, joined_told, choice_told, leaf_told}
use Rattle.c_accepted.proofs.Calls.{Given, called_names, none_given, one_given, call_told}

module _ (v : Scope) (s : typing.Scope) (reads : Reads v s) where
  head_type : (t : Tree) (z : Typed) (j : Judged) → HasHead v t z → judged v t ≡ Known j → Has s z j
  head_type t z j a e = (let w : Some (plain (type_of z)) ≡ Some j.operand.ctype = sym a.1 ∙ ap type_in e in cc)

  mutual
    pub told : (t : Tree) (z : Typed) (j : Judged) → IsRead v s t → judged v t ≡ Known j → Elaborates v t z → Told s z j
    told (Leaf at kind text) z j q e (i, r) = leaf_told s v reads at kind text z j q r (head_type (Leaf at kind text) z j i e) e
    told (Paren at a) z j q e (i, (x, r, k)) = paren_told (defs_of v) s reads.grows z x j r (head_type (Paren at a) z j i e) (told a x j q e k)
    told (Index at a b) z j q e (i, (x, y, r, k, l)) =
        let (p, o, f, g, w) = joint_known at.at (index_alone (defs_of v)) (index_alone (defs_of v)) (indexed (defs_of v) at.at) (judged v a) (judged v b) j e in
        index_told (defs_of v) s reads.grows z x y p o j at.at r (head_type (Index at a b) z j i e) w (told a x p q.0 f k) (told b y o q.1 g l)
    told (Call at f) z j q e (i, r) =
        let (c, k, l) = then_known (callee v f (judged v f) then counted v.asks at.at 0) called j e in
        call_told v s reads 0 (Call at f) c _ z j (none_given v s reads at f 0 c _ q k refl) refl r (head_type (Call at f) z j i e) l
    told (With c a) z j q e (i, (xs, r, (ys, y, same, k, l))) =
        let n = suc (arguments_in c) in
        let (f, x, g, h, w) = two_known (λ f x. called f) (calling v n c) (judged v a then argument v c (place_of a).at) j e in
        let (m, o, u) = then_known (judged v a) (argument v c (place_of a).at) x h in
        let whole = one_given v s reads c a n f xs ys y (place_of a).at m x (omega arith) (called_names v s c ys k) (given c ys n f q.0 (omega arith) g k) (told a y m q.1 o l) u same in
        call_told v s reads n (With c a) f xs z j whole refl r (head_type (With c a) z j i e) w
    told (Member at a w place name) z j q e (i, (x, r, k)) =
        let (p, f, g) = then_known (judged v a) (member_of (defs_of v) at.at w name) j e in
        member_told (defs_of v) s reads.grows w name z x p j at.at r (head_type (Member at a w place name) z j i e) g (told a x p q f k)
    told (After at a step) z j q e (i, (x, r, k)) =
        let (p, f, g) = then_known (judged v a) (stepped (defs_of v) at.at step) j e in
        after_told (defs_of v) s reads.grows step z x p j at.at r (head_type (After at a step) z j i e) g (told a x p q f k)
    told (Prefix at w a) z j q e (i, (x, r, k)) =
        let (p, f, g) = then_known (judged v a) (prefixed (defs_of v) at.at w) j e in
        prefix_told (defs_of v) s reads.grows w z x p j at.at r (head_type (Prefix at w a) z j i e) g (told a x p q f k)
    told (SizeofType at b d) z j q e (i, (t, k, r)) =
        let (p, f, g) = then_known (declared v at.at d (Known (spec_type v b))) (sized (defs_of v) at.at) j e in
        let same : p ≡ t = one_known p t (sym f ∙ k) in
        let named = declared_named v at.at d (spec_type v b) t (spec_named v s b q) k in
        size_type_told (defs_of v) s reads.grows t z j at.at r (λ u h. let m : IsNamed (defs_of v) (plain u) = subst (IsNamed (defs_of v)) (sym h) named in written (defs_of v) s.defs reads.grows reads.structs u m.0 m.1)
        (head_type (SizeofType at b d) z j i e) (subst (λ u. sized (defs_of v) at.at u ≡ Known j) same g)
    told (Cast at b d a) z j q e (i, (x, r, k)) =
        let (t, p, f, g, w) = joint_known at.at cast_alone cast_operand_alone (cast_to at.at) (declared v at.at d (Known (spec_type v b))) (judged v a) j e in
        cast_told (defs_of v) s reads.grows z x t p j at.at r (head_type (Cast at b d a) z j i e) w (told a x p q g k)
    told (Binary at w a b) z j q e (i, (x, y, r, k, l)) =
        let (p, o, f, g, u) = joint_known at.at (left_alone (defs_of v) w) (right_alone (defs_of v) w) (joined (defs_of v) at.at w) (judged v a) (judged v b) j e in
        joined_told (defs_of v) s reads.grows w z x y p o j at.at r (head_type (Binary at w a b) z j i e) u (told a x p q.0 f k) (told b y o q.1 g l)
    told (Choice at c a b) z j q e (i, (w, x, y, r, k, l, m)) =
        let (p, po, f, g, u) = joint_known at.at scalar_alone branches_alone (λ z p. chosen_of at.at z p.0 p.1) (judged v c) (joint at.at scalar_alone scalar_alone both_known (judged v a) (judged v b)) j e in
        let (o, d, f1, f2, same) = joint_known at.at scalar_alone scalar_alone both_known (judged v a) (judged v b) po g in
        let is : (o, d) ≡ po = one_known (o, d) po same in
        let u' : chosen_of at.at p o d ≡ Known j = subst (λ (h : Judged × Judged). chosen_of at.at p h.0 h.1 ≡ Known j) (sym is) u in
        choice_told (defs_of v) s reads.grows z w x y p o d j at.at r (head_type (Choice at c a b) z j i e) u' (told c w p q.0 f k) (told a x o q.1 f1 l) (told b y d q.2 f2 m)
    told _ z j q e d = absurd d

    -- the arguments that a call has so far
    given : (t : Tree) (xs : List Typed) (n : ℕ) (c : Callee) → IsRead v s t → arguments_in t ≤ n → calling v n t ≡ Known c → AreArguments v t xs → Given v s n t c xs
    given (Call at f) xs n c q l e a = none_given v s reads at f n c xs q e a
    given (With t a) xs n c q l e (ys, y, same, k, m) =
        let (f, x, g, h, w) = two_known with_argument (calling v n t) (judged v a then argument v t (place_of a).at) c e in
        let (p, o, u) = then_known (judged v a) (argument v t (place_of a).at) x h in
        let is : f ≡ c = one_known f c w in
        let whole = one_given v s reads t a n f xs ys y (place_of a).at p x l (called_names v s t ys k) (given t ys n f q.0 (omega arith) g k) (told a y p q.1 o m) u same in
        subst (λ f. Given v s n (With t a) f xs) is whole
    given _ xs n c q l e a = absurd a
