-- What a call becomes.
use Rattle.std.proofs.Common.{◌≡◌, ℕ, Bool, true, false, ◌||◌, not, if◌then◌else◌, List, [], ◌∷◌, ◌++◌, length, ◌∙◌, sym, refl, ap, subst, map, Result, Ok, Err, Option, Some, None}
use Rattle.c_lex.specs.declared.token.Place.{Place}
use Rattle.c_trees.specs.Expressions.{Tree, Call, With, with_arguments}
use Rattle.c_tree.specs.declared.typed.Typed.{Typed}
use Rattle.c_tree.specs.declared.typed.Typed.TheVariants.{Call'}
use Rattle.c_judge.specs.declared.part.Part.{Part}
use Rattle.c_judge.specs.declared.calls.Calling.{Calling as Gathering}
use Rattle.c_judge.specs.declared.fault.Fault.{Fault}
use Rattle.c_judge.specs.declared.fault.Fault.TheVariants.{Rule}
use Rattle.c_judge.specs.Scope.{Scope}
use Rattle.c_judge.specs.Answers.{Known, Broken, ◌then◌}
use Rattle.c_judge.specs.Places.{place_of}
use Rattle.c_judge.specs.Pairs.{paired, dropped}
use Rattle.c_judge.specs.Judgement.{judged, callee, calling, called, called_name, counted, has_parameters, function_numbered, function_named, parameter_at, goes_to, passed, argument, arguments_in, with_argument, name_alone}
use Rattle.c_typing.specs.Plain.{Plain}
use Rattle.c_judge.specs.Parts.{judged_of, operand_of}
use Rattle.c_judge.specs.Elaboration.{Elaborates, IsCall, IsCallee, callee_of}
use Rattle.c_judge.specs.Calls.{Calls, Gathers, NamesCallee, IsWith, IsPassed, IsArgument, number_or_none, typed_in}
use Rattle.c_judge.specs.Judges.{Judges, Makes, IsFault, Gives}
use Rattle.c_judge.proofs.Alone.{place_call}
use Rattle.c_judge.proofs.Faults.{then_fails, then_gives, two_fails, two_known, paired_both}
use Rattle.c_judge.proofs.Made.{made}
use Rattle.c_judge.proofs.Gathered.{arguments_call, name_call, call_form, judged_call, elaborates_call}

-- a call by the number that a name has
numbered : (v : Scope) (f : Tree) (k : ℕ) (xs : List Typed) (z : Typed) → IsCallee v f k → IsCall (λ m. m ≡ k) xs z → IsCall (IsCallee v f) xs z
numbered v f k xs (Call' h m _ row) w (e, i) = (subst (IsCallee v f) (sym e) w, i)
numbered v f k xs z w i = absurd i

map_last : {A B : Type 0} (f : A → B) (xs : List A) (x : A) → map f (xs ++ x ∷ []) ≡ map f xs ++ f x ∷ []
map_last f [] x = refl
map_last f (y ∷ xs) x = ap (λ ys. f y ∷ ys) (map_last f xs x)

module _ (v : Scope) where
  gathers_gives : (n : ℕ) (t : Tree) (r : Result Gathering Fault) → Gathers v n t r → Gives (λ (c : Gathering). function_numbered v c.callee) (calling v n t) r
  gathers_gives n t (Ok c) h = h.0
  gathers_gives n t (Err e) h = h

  argument_gives : (t e : Tree) (r : Result Part Fault) → IsArgument v t e r → Gives judged_of (◌then◌ (judged v e) (argument v t (place_of e).at)) r
  argument_gives t e (Ok x) h = h.0
  argument_gives t e (Err f) h = h

  pub extended_fails : (n : ℕ) (t e : Tree) (rc : Result Gathering Fault) (rx : Result Part Fault) (f : Fault) → Gathers v n t rc → IsArgument v t e rx → paired rc rx ≡ Err f → IsFault (calling v n (With t e)) f
  extended_fails n t e rc rx f g h p = two_fails with_argument (λ (c : Gathering). function_numbered v c.callee) judged_of (calling v n t) (◌then◌ (judged v e) (argument v t (place_of e).at)) rc rx f (gathers_gives n t rc g) (argument_gives t e rx h) p

  extended : (n : ℕ) (t e : Tree) (c : Gathering) (x : Part) (r : Result Gathering Fault) → Gathers v n t (Ok c) → IsArgument v t e (Ok x) → IsWith c x r → Gathers v n (With t e) r
  extended n t e c x (Ok d) (g, m, a) (h, l) (w, i) =
      let types : map typed_in d.arguments.items ≡ map typed_in c.arguments.items ++ x.typed.value ∷ [] = ap (map typed_in) i ∙ map_last typed_in c.arguments.items x in
      let known : calling v n (With t e) ≡ Known (function_numbered v c.callee) = two_known with_argument (calling v n t) (◌then◌ (judged v e) (argument v t (place_of e).at)) _ _ g h in (
        known ∙ ap (λ k. Known (function_numbered v k)) (sym w),
        subst (λ k. IsCallee v (callee_of t) (number_or_none k)) (sym w) m,
        (map typed_in c.arguments.items, x.typed.value, types, a, l),
      )
  extended n t e c x (Err f) g h w = subst (λ f. IsFault (calling v n (With t e)) f) (sym w) tt

  pub extended_gathers : (n : ℕ) (t e : Tree) (rc : Result Gathering Fault) (rx : Result Part Fault) (c : Gathering) (x : Part) (r : Result Gathering Fault) → Gathers v n t rc → IsArgument v t e rx → paired rc rx ≡ Ok (c, x) → IsWith c x r → Gathers v n (With t e) r
  extended_gathers n t e rc rx c x r g h p w =
      let two_there = paired_both rc rx (c, x) p in
      extended n t e c x r (subst (Gathers v n t) two_there.0 g) (subst (IsArgument v t e) two_there.1 h) w

  one_decides : (t e : Tree) (p : Part) (b : Bool) (r : Result Part Fault) → ◌then◌ (judged v e) (argument v t (place_of e).at) ≡ (if b then Known (judged_of p) else Broken (if v.asks then 29 else 22) (place_of e).at) → Elaborates v e p.typed.value
      → r ≡ (if b then Ok p else Err (Rule (if v.asks then 29 else 22) (place_of e).at)) → IsArgument v t e r
  one_decides t e p true r h l k = subst (IsArgument v t e) (sym k) (h, l)
  one_decides t e p false r h l k = subst (IsArgument v t e) (sym k) h

  one_passes : (t e : Tree) (p : Part) (u : Option Plain) (b : Bool) (r : Result Part Fault) → u ≡ parameter_at v.asks (function_named v (called_name t)) (arguments_in t) → goes_to u (operand_of p) ≡ b → judged v e ≡ Known (judged_of p) → Elaborates v e p.typed.value
      → r ≡ (if b then Ok p else Err (Rule (if v.asks then 29 else 22) (place_of e).at)) → IsArgument v t e r
  one_passes t e p u b r w g j l k =
      let at = (place_of e).at in
      let told : ◌then◌ (judged v e) (argument v t at) ≡ (if b then Known (judged_of p) else Broken (if v.asks then 29 else 22) at) =
      then_gives (judged v e) (judged_of p) (argument v t at) j ∙ (ap (λ o. passed v.asks at o (judged_of p)) (sym w) ∙ ap (λ c. if c then Known (judged_of p) else Broken (if v.asks then 29 else 22) at) g) in
      one_decides t e p b r told l k

  -- an argument is asked for the parameter of its place
  pub argument_is : (at : Place) (f : Tree) (es : List Tree) (e : Tree) (n : Option ℕ) (i q : ℕ) (x r : Result Part Fault) → function_numbered v n ≡ function_named v (name_alone f) → i ≡ length es → q ≡ (place_of e).at → Judges v e x
      → IsPassed v.asks q (parameter_at v.asks (function_numbered v n) i) x r → IsArgument v (with_arguments (Call at f) es) e r
  argument_is at f es e n i q (Ok p) r w c s (j, l) k =
      let t = with_arguments (Call at f) es in
      let named : function_numbered v n ≡ function_named v (called_name t) = w ∙ ap (function_named v) (sym (name_call at f es)) in
      let parameter : parameter_at v.asks (function_numbered v n) i ≡ parameter_at v.asks (function_named v (called_name t)) (arguments_in t) =
      ap (λ g. parameter_at v.asks g i) named ∙ ap (parameter_at v.asks (function_named v (called_name t))) (c ∙ sym (arguments_call at f es)) in
      one_passes t e p (parameter_at v.asks (function_numbered v n) i) (goes_to (parameter_at v.asks (function_numbered v n) i) (operand_of p)) r parameter refl j l
      (k ∙ ap (λ y. if goes_to (parameter_at v.asks (function_numbered v n) i) (operand_of p) then Ok p else Err (Rule (if v.asks then 29 else 22) y)) s)
  argument_is at f es e n i q (Err g) r w c s h k =
      let t = with_arguments (Call at f) es in
      subst (IsArgument v t e) (sym k) (then_fails (judged v e) (argument v t (place_of e).at) g h)

  pub named_calls : (f : Tree) (text : List ℕ) (r : Result (Option ℕ) Fault) → Some text ≡ name_alone f → NamesCallee v text r → Calls v f r
  named_calls f text (Ok n) e (h, w) = let a = sym e in (rw a h, rw a w)
  named_calls f text (Err x) e h = let a = sym e in rw a h

  pub unnamed_calls : (f : Tree) (x : Part) → None ≡ name_alone f → judged v f ≡ Known (judged_of x) → Calls v f (Ok None)
  unnamed_calls f x e h = let a = sym e in (rw (a, h) refl, rw a tt)

  pub unnamed_fails : (f : Tree) (e : Fault) → None ≡ name_alone f → IsFault (judged v f) e → Calls v f (Err e)
  unnamed_fails f e n h = let a = sym n in rw a (then_fails (judged v f) (λ x. Known None) e h)

  pub call_judges : (at : Place) (f : Tree) (es : List Tree) (c : Gathering) (r : Result Part Fault) → Gathers v (length es) (with_arguments (Call at f) es) (Ok c)
      → Makes (called (function_numbered v c.callee)) (IsCall (λ m. m ≡ number_or_none c.callee) (map typed_in c.arguments.items)) at r → Judges v (with_arguments (Call at f) es) r
  call_judges at f es c r (g, n, a) m =
      let t = with_arguments (Call at f) es in
      let form = call_form (Call at f) es tt in
      let place : place_of t ≡ at = place_call at f es in
      let known : judged v t ≡ called (function_numbered v c.callee) =
      judged_call v t form ∙ (ap (λ k. ◌then◌ (calling v k t) called) (arguments_call at f es) ∙ then_gives (calling v (length es) t) (function_numbered v c.callee) called g) in
      made v t at _ (IsCall (λ m. m ≡ number_or_none c.callee) (map typed_in c.arguments.items)) r place known (λ z h i. elaborates_call v t (map typed_in c.arguments.items) z form a (numbered v (callee_of t) (number_or_none c.callee) (map typed_in c.arguments.items) z n i) h) m

  pub call_fails : (at : Place) (f : Tree) (es : List Tree) (e : Fault) → IsFault (calling v (length es) (with_arguments (Call at f) es)) e → IsFault (judged v (with_arguments (Call at f) es)) e
  call_fails at f es e h =
      let t = with_arguments (Call at f) es in
      subst (λ j. IsFault j e) (sym (judged_call v t (call_form (Call at f) es tt) ∙ ap (λ k. ◌then◌ (calling v k t) called) (arguments_call at f es))) (then_fails (calling v (length es) t) called e h)

  counts : (at : Place) (f : Tree) (m : ℕ) (n : Option ℕ) (b : Bool) → (not v.asks || has_parameters m (function_numbered v n)) ≡ b → Calls v f (Ok n) → calling v m (Call at f) ≡ (if b then Known (function_numbered v n) else Broken 29 at.at)
  counts at f m n b e h = then_gives (callee v f (judged v f)) (function_numbered v n) (counted v.asks at.at m) h.0 ∙ ap (λ c. if c then Known (function_numbered v n) else Broken 29 at.at) e

  pub begun_gathers : (at : Place) (f : Tree) (m : ℕ) (n : Option ℕ) (c : Gathering) → (not v.asks || has_parameters m (function_numbered v n)) ≡ true → c.callee ≡ n → c.arguments.items ≡ [] → Calls v f (Ok n) → Gathers v m (Call at f) (Ok c)
  begun_gathers at f m n c b e i h = (
    counts at f m n true b h ∙ ap (λ k. Known (function_numbered v k)) (sym e),
    subst (λ k. IsCallee v f (number_or_none k)) (sym e) h.1,
    ap (map typed_in) i,
  )

  pub begun_breaks : (at : Place) (f : Tree) (m : ℕ) (n : Option ℕ) → (not v.asks || has_parameters m (function_numbered v n)) ≡ false → Calls v f (Ok n) → calling v m (Call at f) ≡ Broken 29 at.at
  begun_breaks at f m n b h = counts at f m n false b h

  pub begun_fails : (at : Place) (f : Tree) (m : ℕ) (e : Fault) → Calls v f (Err e) → IsFault (calling v m (Call at f)) e
  begun_fails at f m e h = then_fails (callee v f (judged v f)) (counted v.asks at.at m) e h

  pub dropped_calls : (f : Tree) (x : Result Part Fault) → None ≡ name_alone f → Judges v f x → Calls v f (dropped x None)
  dropped_calls f (Ok p) n h = unnamed_calls f p n h.0
  dropped_calls f (Err e) n h = unnamed_fails f e n h
