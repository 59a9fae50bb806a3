-- Calls: what is called is a function of the program, and each argument goes to its parameter.
use Rattle.std.proofs.Common.{◌≡◌, ◌≤◌, ◌<◌, refl, sym, ap, ◌∙◌, subst, arith, ℕ, suc, ◌==◌, List, [], ◌∷◌, ◌++◌, length, map, take, get_or, true, not, ◌&&◌, ◌||◌, true≢false, Option, Some, None}
use Rattle.std.specs.Prelude.{slice_get, if◌then◌else◌, option_and_then}
use Rattle.std.specs.List.{AllByRecursion}
use Rattle.std.proofs.Math.Seq.{take-suc}
use Rattle.std.proofs.lemmas.List.{take_all, map-append}
use Rattle.std.proofs.lemmas.Option.{slice_get-get_or}
use Rattle.c_lex.specs.declared.token.Place.{Place}
use Rattle.c_trees.specs.Expressions.{Tree, Call, With}
use Rattle.c_tree.specs.declared.typed.Typed.{Typed, Row_of-Typed, end_of-Typed, more_of-Typed}
use Rattle.c_tree.specs.declared.typed.Typed.TheVariants.{Call'}
use Rattle.c_tree.specs.Rows.{exprs}
use Rattle.c_typing.specs.Plain.{Plain, Int, plain}
use Rattle.c_typing.specs.Rules.{Operand, converts, takes}
use Rattle.c_typing.specs.Expressions as typing
use Rattle.c_typing.specs.Expressions.{Denoted, Object, Function, Hidden, result_type, operand, operands, call_type, IsTyped, AreTyped}
use Rattle.c_judge.specs.Scope.{Scope}
use Rattle.c_judge.specs.Answers.{Known, Unknown, ◌then◌}
use Rattle.c_judge.specs.Judgement.{Judged, Callee, value, function_of, name_alone, callee_named, callee_by, callee, has_parameters, counted, called_name, arguments_in, function_numbered, function_named, parameter_at, goes_to, argument, called, judged}
use Rattle.c_judge.specs.Elaboration.{IsCall, IsCallee, IsNumberOf, AreArguments, callee_of}
use Rattle.c_accepted.proofs.Words.{HasWords, AllHaveWords}
use Rattle.c_accepted.specs.Reads.{Reads, IsCalleeRead}
use Rattle.c_accepted.proofs.Growth.{both_parts}
use Rattle.c_accepted.proofs.Known.{never, one_known, then_known, if_known}
use Rattle.c_accepted.proofs.Told.{Told, operand_is, Has, made, typed_as}

same_number : (m n : ℕ) → (m == n) ≡ true → m ≡ n
same_number m n h = grind arith

takes_last : (ts : List Plain) (t : Plain) (xs : List Operand) (a : Operand) → takes ts xs ≡ true → converts t a ≡ true → takes (ts ++ t ∷ []) (xs ++ a ∷ []) ≡ true
takes_last [] t [] a h k = ap (λ b. b && true) k
takes_last (u ∷ ts) t (b ∷ xs) a h k =
    let q = both_parts (converts u b) (takes ts xs) h in
    ap (λ c. c && takes (ts ++ t ∷ []) (xs ++ a ∷ [])) q.0 ∙ takes_last ts t xs a q.1 k
takes_last [] t (b ∷ xs) a h k = absurd (true≢false (sym h))
takes_last (u ∷ ts) t [] a h k = absurd (true≢false (sym h))

abbrev pub TypedByWords : typing.Scope → Typed → Type 0
TypedByWords s x = HasWords x → IsTyped s x

pub all_last : {A : Type 0} (P : A → Type 0) (xs : List A) (x : A) → AllByRecursion P xs → P x → AllByRecursion P (xs ++ x ∷ [])
all_last P [] x a p = (p, tt)
all_last P (y ∷ xs) x a p = (a.0, all_last P xs x a.1 p)

row_typed : (s : typing.Scope) → {m : _} (row : Row_of-Typed m) → AllByRecursion (TypedByWords s) (exprs row) → AllHaveWords row → AreTyped s row
row_typed s end_of-Typed a w = tt
row_typed s (more_of-Typed e rest) a w = (a.0 w.0, row_typed s rest a.1 w.1)

row_operands : (s : typing.Scope) → {m : _} (row : Row_of-Typed m) → operands s row ≡ map (operand s) (exprs row)
row_operands s end_of-Typed = refl
row_operands s (more_of-Typed e rest) = ap (λ xs. operand s e ∷ xs) (row_operands s rest)

module _ (v : Scope) (s : typing.Scope) where
  -- what is called with so many arguments
  pub record Called (n : ℕ) (f : Tree) (c : Callee) : Type 0 where
    pub result : Plain
    pub parameters : List Plain
    pub is : c ≡ Some (result, parameters)
    pub many : length parameters ≡ n
    pub text : List ℕ
    pub number : ℕ
    pub name : name_alone f ≡ Some text
    pub numbered : v.number text ≡ Some number
    pub denotes : slice_get v.among.names number ≡ Some (Function result parameters)
    pub there : slice_get s.names number ≡ Some (Function result parameters)

  -- and the arguments that it has so far
  pub record Given (n : ℕ) (t : Tree) (c : Callee) (xs : List Typed) : Type 0 where
    pub calls : Called n (callee_of t) c
    pub typed : AllByRecursion (TypedByWords s) xs
    pub goes : takes (take (arguments_in t) calls.parameters) (map (operand s) xs) ≡ true

  pub called_names : (t : Tree) (xs : List Typed) → AreArguments v t xs → called_name t ≡ name_alone (callee_of t)
  called_names (Call at f) xs a = refl
  called_names (With c x) xs (ys, y, e, p, q) = called_names c ys p
  called_names _ xs a = absurd a

  module _ (reads : Reads v s) where
    counted_known : (at n : ℕ) (f c : Callee) → counted v.asks at n f ≡ Known c → (has_parameters n f ≡ true) × (f ≡ c)
    counted_known at n f c h =
        let q = if_known (not v.asks || has_parameters n f) f c 29 at h in
        (sym (ap (λ b. not b || has_parameters n f) reads.asks) ∙ q.0, q.1)

    module _ (at : ℕ) (f : Tree) (n : ℕ) (c : Callee) where
      by_denoted : (text : List ℕ) (m : ℕ) → name_alone f ≡ Some text → IsCalleeRead v s (Some text) → v.number text ≡ Some m
          → (o : Option Denoted) → slice_get v.among.names m ≡ o → counted v.asks at n (function_of o) ≡ Known c → Called n f c
      by_denoted text m e i k (Some (Function r ts)) p h =
          let q = counted_known at n (Some (r, ts)) c h in
          record { result = r; parameters = ts; is = sym q.1; many = same_number (length ts) n q.0; text = text; number = m; name = e; numbered = k; denotes = p; there = i m r ts k p }
      by_denoted text m e i k (Some (Object t r)) p h = absurd (true≢false (sym (counted_known at n None c h).0))
      by_denoted text m e i k (Some Hidden) p h = absurd (true≢false (sym (counted_known at n None c h).0))
      by_denoted text m e i k None p h = absurd (true≢false (sym (counted_known at n None c h).0))

      by_number : (text : List ℕ) → name_alone f ≡ Some text → IsCalleeRead v s (Some text) → (o : Option ℕ) → v.number text ≡ o → (callee_named v text o then counted v.asks at n) ≡ Known c → Called n f c
      by_number text e i None k h = never (Unknown text) c (λ x. x) h
      by_number text e i (Some m) k h = by_denoted text m e i k (slice_get v.among.names m) refl h

      no_callee : (w : Callee) → None ≡ w → counted v.asks at n w ≡ Known c → Called n f c
      no_callee w e h = absurd (true≢false (sym (ap (has_parameters n) e ∙ (counted_known at n w c h).0)))

      by_name : (o : Option (List ℕ)) → name_alone f ≡ o → IsCalleeRead v s o → (callee_by v o (judged v f) then counted v.asks at n) ≡ Known c → Called n f c
      by_name (Some text) e i h = by_number text e i (v.number text) refl h
      by_name None e i h =
          let (w, p, q) = then_known (judged v f then λ x. Known None) (counted v.asks at n) c h in
          let (x, _, r) = then_known (judged v f) (λ x. Known None) w p in
          no_callee w (one_known None w r) q

    -- a call without arguments
    pub none_given : (at : Place) (f : Tree) (n : ℕ) (c : Callee) (xs : List Typed) → IsCalleeRead v s (name_alone f) → (callee v f (judged v f) then counted v.asks at.at n) ≡ Known c → xs ≡ [] → Given n (Call at f) c xs
    none_given at f n c xs i h e =
        let k = by_name at.at f n c (name_alone f) refl i h in
        subst (Given n (Call at f) c) (sym e) (record { calls = k; typed = tt; goes = refl })

    -- one argument more
    pub one_given : (c a : Tree) (n : ℕ) (f : Callee) (xs ys : List Typed) (y : Typed) (at : ℕ) (x j : Judged) → suc (arguments_in c) ≤ n → called_name c ≡ name_alone (callee_of c)
        → Given n c f ys → Told s y x → argument v c at x ≡ Known j → xs ≡ ys ++ y ∷ [] → Given n (With c a) f xs
    one_given c a n f xs ys y at x j l nm k p h e =
        let q = k.calls in
        let i = arguments_in c in
        let ts = q.parameters in
        let t = get_or ts i Int in
        let within : i < length ts = omega (arith, l, q.many) in
        let who : function_named v (called_name c) ≡ Some (q.result, ts) = ap (function_named v) (nm ∙ q.name) ∙ ap (function_numbered v) q.numbered ∙ ap function_of q.denotes in
        let to : parameter_at v.asks (function_named v (called_name c)) i ≡ Some t =
        ap (λ o. parameter_at v.asks o i) who ∙ ap (λ b. if b then slice_get ts i else None) reads.asks ∙ slice_get-get_or ts i Int within in
        let goes = (if_known (goes_to (parameter_at v.asks (function_named v (called_name c)) i) x.operand) x j (if v.asks then 29 else 22) at h).0 in
        let converting : converts t (operand s y) ≡ true = ap (converts t) (operand_is s y x p) ∙ sym (ap (λ o. goes_to o x.operand) to) ∙ goes in
        let all : takes (take (suc i) ts) (map (operand s) (ys ++ y ∷ [])) ≡ true =
        ap (λ us. takes us (map (operand s) (ys ++ y ∷ []))) (take-suc ts i Int within) ∙ ap (takes (take i ts ++ t ∷ [])) (map-append (operand s) ys (y ∷ [])) ∙
        takes_last (take i ts) t (map (operand s) ys) (operand s y) k.goes converting in
        subst (Given n (With c a) f) (sym e) (record { calls = q; typed = all_last (TypedByWords s) ys y k.typed p.typed; goes = all })

    -- ---- a whole call

    pub call_told : (n : ℕ) (t : Tree) (c : Callee) (xs : List Typed) (z : Typed) (j : Judged) → Given n t c xs → arguments_in t ≡ n → IsCall (IsCallee v (callee_of t)) xs z → Has s z j → called c ≡ Known j → Told s z j
    call_told n t c xs (Call' h m b row) j k l e i r =
        let q = k.calls in
        let named : v.number q.text ≡ Some m = subst (λ o. IsNumberOf v o m) q.name e.0 in
        let same : m ≡ q.number = (let w : Some m ≡ Some q.number = sym named ∙ q.numbered in cc) in
        let f : value q.result ≡ j = one_known (value q.result) j (sym (ap called q.is) ∙ r) in
        let here : q.result ≡ plain h.ctype = typed_as s (Call' h m b row) (value q.result) j q.result f refl i in
        let few : length q.parameters ≤ arguments_in t = omega (arith, l, q.many) in
        let goes : takes q.parameters (operands s row) ≡ true =
        ap (takes q.parameters) (row_operands s row ∙ ap (map (operand s)) e.1) ∙ ap (λ us. takes us (map (operand s) xs)) (sym (take_all (arguments_in t) q.parameters few)) ∙ k.goes in
        let by_rule : call_type s m (operands s row) ≡ Some (plain h.ctype) =
        ap (λ n. call_type s n (operands s row)) same ∙ ap (option_and_then (λ d. result_type d (operands s row))) q.there ∙ ap (λ b. if b then Some q.result else None) goes ∙ ap Some here in
        made s (Call' h m b row) (value q.result) j f (λ words. (row_typed s row (subst (AllByRecursion (TypedByWords s)) (sym e.1) k.typed) words, by_rule)) i refl refl refl refl refl
    call_told n t c xs z j k l e i r = absurd e
