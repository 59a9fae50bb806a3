-- Expressions as initializers of pointers.
use Rattle.std.proofs.Common.{arith, ◌≡◌, ℕ, zero, suc, Bool, true, false, ◌||◌, ◌==◌, List, [], ◌∷◌, refl, sym, ap, ◌∙◌, Option, Some, None}
use Rattle.c_trees.specs.Expressions.{Tree}
use Rattle.c_typing.specs.Plain.{Plain}
use Rattle.c_typing.specs.declared.constant.Constant.{Constant}
use Rattle.c_typing.specs.declared.constant.Constant.TheVariants.{Variable, Undefined, Number}
use Rattle.c_judge.specs.Answers.{Known, Broken, ◌then◌}
use Rattle.c_judge.specs.Judgement.{judged}
use Rattle.c_judge.specs.Places.{place_of}
use Rattle.c_scope.specs.Findings.{nothing, holds}
use Rattle.c_scope.specs.Environment.{Environment, scope_of}
use Rattle.c_scope.specs.Declarators.{constant}
use Rattle.c_initial.specs.Initials.{Spot, spot, text_of, number, number_in, is_spot, is_characters, is_address, address_found}
use Rattle.c_initial.specs.Begins.{Begin, Text, spot_begin, address_begin}
use Rattle.c_initial.specs.Valued.{is_zero, pointer_begin}

is_address_of : (v : Environment) (t : Plain) (e : Tree) (c : Constant) → is_address v t e (Known c) ≡ (is_zero c || (is_characters v t (text_of e) || is_spot v t (spot v e)))
is_address_of v t e (Number zero) = refl
is_address_of v t e (Number (suc n)) = let f : (suc n == 0) ≡ false = grind arith in sym (ap (λ b. b || (is_characters v t (text_of e) || is_spot v t (spot v e))) f)
is_address_of v t e Variable = refl
is_address_of v t e Undefined = refl

or_or : (a b c : Bool) → (a || (b || c)) ≡ ((a || b) || c)
or_or true b c = refl
or_or false b c = refl

asked_of : (v : Environment) (t : Plain) (e : Tree) (c : Constant) (b : Bool) → constant (judged (scope_of v) e) ≡ Known c
    → b ≡ ((is_zero c || is_characters v t (text_of e)) || is_spot v t (spot v e)) → address_found v t e ≡ holds b 12 (place_of e).at
asked_of v t e c b h k =
    ap (λ j. j then λ x. holds (is_address v t e (Known x)) 12 (place_of e).at) h ∙
    ap (λ x. holds x 12 (place_of e).at) (is_address_of v t e c ∙ (or_or (is_zero c) (is_characters v t (text_of e)) (is_spot v t (spot v e)) ∙ sym k))

pub no_address : (v : Environment) (t : Plain) (e : Tree) (c : Constant) (b : Bool) → constant (judged (scope_of v) e) ≡ Known c
    → b ≡ ((is_zero c || is_characters v t (text_of e)) || is_spot v t (spot v e)) → b ≡ false → address_found v t e ≡ Broken 12 (place_of e).at
no_address v t e c b h k f = asked_of v t e c b h k ∙ ap (λ x. holds x 12 (place_of e).at) f

pub an_address : (v : Environment) (t : Plain) (e : Tree) (c : Constant) (b : Bool) → constant (judged (scope_of v) e) ≡ Known c
    → b ≡ ((is_zero c || is_characters v t (text_of e)) || is_spot v t (spot v e)) → b ≡ true → address_found v t e ≡ nothing
an_address v t e c b h k f = asked_of v t e c b h k ∙ ap (λ x. holds x 12 (place_of e).at) f

text_or_place : (v : Environment) (k : ℕ) (o : Option (List ℕ)) (s : Option Spot) → (elim o as (λ _. List Begin) [ Some text ↦ Text k ∷ [] | None ↦ spot_begin v s ]) ≡ pointer_begin v k None o s
text_or_place v k None s = refl
text_or_place v k (Some text) s = refl

begin_same : (v : Environment) (k : ℕ) (e : Tree) (n : Option ℕ) → address_begin v k e n ≡ pointer_begin v k n (text_of e) (spot v e)
begin_same v k e None = text_or_place v k (text_of e) (spot v e)
begin_same v k e (Some n) = refl

pub address_begins : (v : Environment) (k : ℕ) (e : Tree) (c : Constant) (n : Option ℕ) → constant (judged (scope_of v) e) ≡ Known c → n ≡ number_in (Known c)
    → address_begin v k e (number v e) ≡ pointer_begin v k n (text_of e) (spot v e)
address_begins v k e c n h m = ap (λ j. address_begin v k e (number_in j)) h ∙ (ap (address_begin v k e) (sym m) ∙ begin_same v k e n)
