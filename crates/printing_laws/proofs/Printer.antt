-- The debugger's dialect is one that prints.
use Rattle.std.proofs.Common.{◌≡◌, ℕ, ℤ, ◌+◌, ◌-◌, ◌/◌, ◌%◌, ◌^◌, ◌<◌, ◌≤◌, ◌&&◌, nat_le, Bool, true, if◌then◌else◌, Option, Some, None, Result, Ok, Err, List, [], ◌∷◌, ◌++◌, refl, sym, ap, subst, ◌∙◌, append-nil, append_assoc, le-leb, ne_eqb, arith}
use Rattle.std.specs.Int.{w32}
use Rattle.std.proofs.lemmas.Int.{of_z-to_z}
use Rattle.ldb_words.specs.Word.{word_of_signed}
use Rattle.ldb_words.specs.declared.kinds.Undef.{Undef}
use Rattle.ldb_words.specs.declared.kinds.Undef.TheVariants.{Division}
use Rattle.c_show.specs.Printed.{is_printable}
use Rattle.ps_store.specs.declared.object.PsObj.{PsObj}
use Rattle.ps_store.specs.declared.object.PsObj.TheVariants.{Int, Str}
use Rattle.ps_store.specs.declared.object.StringId.{StringId}
use Rattle.ps_store.specs.Store.{bytes_of}
use Rattle.ps_step.specs.declared.machine.PsCore.{PsCore}
use Rattle.ps_step.specs.Results.{◌>>=◌}
use Rattle.ps_step.specs.State.{with_operands}
use Rattle.ps_words.specs.declared.words.WordOperator.{WordOperator}
use Rattle.ps_words.specs.declared.words.WordOperator.TheVariants.{Divide, Remainder, Add, Subtract}
use Rattle.ps_words.specs.Words.{of_two, defined}
use Rattle.ps_words.specs.Operators.{on_two, integer}
use Rattle.ps_append.specs.Appending.{plain_text}
use Rattle.ps_run.specs.Runs.{Answer}
use Rattle.ps_terms.specs.Printing.{word, AllPrintable, Answers, full, done, Surely, Printing}
use Rattle.dialect_model.specs.Dial.{Dial, Target, Act}
use Rattle.dialect_model.specs.Acting.{with_state, with_text}
use Rattle.dialect_model.specs.Operators.{act}
use Rattle.dialect_model.specs.Operating.{Operates, acted, raised, forced, broken, wanting}
use Rattle.printing_laws.specs.Dialect.{out_with, append, needs, char_text}

-- ---- what is appended

out_none : (t : Option Target) (out : List ℕ) → out_with t [] out ≡ out
out_none None out = refl
out_none (Some t) out = append-nil out

out_twice : (t : Option Target) (a b out : List ℕ) → out_with t b (out_with t a out) ≡ out_with t (a ++ b) out
out_twice None a b out = refl
out_twice (Some t) a b out = append_assoc out a b

pub append_none : (d : Dial) → append d [] ≡ d
append_none d = ap (λ (out : List ℕ). record d { out = out }) (out_none d.target d.out)

pub append_twice : (d : Dial) (a b : List ℕ) → append (append d a) b ≡ append d (a ++ b)
append_twice d a b = ap (λ (out : List ℕ). record d { out = out }) (out_twice d.target a b d.out)

told_to : (t : Option Target) (d : Dial) (text : List ℕ) (c : PsCore) → with_text (record d { target = t }) (Ok (d.out ++ text, c)) ≡ Ok (append (record d { target = t }) text, c)
told_to None d text c = refl
told_to (Some t) d text c = refl

-- an operator that tells a text appends it
pub told : (d : Dial) (text : List ℕ) (c : PsCore) → with_text d (Ok (d.out ++ text, c)) ≡ Ok (append d text, c)
told d text c = told_to d.target d text c

-- ---- what an operator does that raises nothing and needs nothing

given_dial : Dial → Act → Dial
given_dial d (Ok made) = made.0
given_dial d (Err halt) = d

given_core : PsCore → Act → PsCore
given_core c (Ok made) = made.1
given_core c (Err halt) = c

pub same_dial : (d d' : Dial) (c c' : PsCore) (a : Act) → a ≡ Ok (d, c) → a ≡ Ok (d', c') → d ≡ d'
unfolding given_dial
same_dial d d' c c' a e f = ap (given_dial d) (sym e ∙ f)

pub same_core : (d d' : Dial) (c c' : PsCore) (a : Act) → a ≡ Ok (d, c) → a ≡ Ok (d', c') → c ≡ c'
unfolding given_core
same_core d d' c c' a e f = ap (given_core c) (sym e ∙ f)

surely : (d : Dial) (c : PsCore) (op n : ℕ) (r : Answer) (d₁ : Dial) (c₁ : PsCore) (k : ℕ) → Operates d c op n r d₁ c₁ k → (d' : Dial) (c' : PsCore) → act op d c ≡ Ok (d', c')
    → Answers d' c' n r d₁ c₁ k
surely _ _ _ _ _ _ _ _ (acted d d₁ c c₁ op n e) d' c' h =
    subst (λ x. Answers x c' n (Ok tt) d₁ c₁ n) (sym (same_dial d' d₁ c' c₁ (act op d c) h e))
    (subst (λ y. Answers d₁ y n (Ok tt) d₁ c₁ n) (sym (same_core d' d₁ c' c₁ (act op d c) h e)) done)
surely _ _ _ _ _ _ _ _ (raised d c op n x e) d' c' h = absurd (cc)
surely _ _ _ _ _ _ _ _ (forced d d₁ c c₁ c₂ op u n m k r e f rest) d' c' h = absurd (cc)
surely _ _ _ _ _ _ _ _ (broken d c c₁ op u n m f e g) d' c' h = absurd (cc)
surely _ _ _ _ _ _ _ _ (wanting d c op n) d' c' h = full d c n

-- the same, where the operands are known
pub sure : (op : ℕ) (d d' : Dial) (c : PsCore) (operands left : List PsObj) → c.operands ≡ operands → act op d (with_operands c operands) ≡ Ok (d', with_operands c left)
    → Surely Operates d c op d' (with_operands c left)
sure op d d' c operands left e h =
    let here : act op d c ≡ Ok (d', with_operands c left) = subst (λ o. act op d (with_operands c o) ≡ Ok (d', with_operands c left)) (sym e) h in
    λ n r d₁ c₁ k run. surely d c op n r d₁ c₁ k run d' (with_operands c left) here

-- ---- text

printable : (b : ℕ) → 32 ≤ b → b ≤ 126 → is_printable b ≡ true
printable b low high = ap (λ q. q && nat_le b 126) (le-leb 32 b low) ∙ le-leb b 126 high

plain : (bs : List ℕ) → AllPrintable bs → plain_text bs ≡ bs
plain [] h = refl
plain (b ∷ bs) h =
    ap (λ (q : Bool). (if q then b ∷ [] else 92 ∷ (48 + b / 64) ∷ (48 + b / 8 % 8) ∷ (48 + b % 8) ∷ []) ++ plain_text bs) (printable b h.0 h.1)
    ∙ ap (λ l. b ∷ l) (plain bs h.2)

pub putting : (d : Dial) (c : PsCore) (t : StringId) (x : Bool) (rest : List PsObj) → AllPrintable (bytes_of c.store t)
    → act 28 d (with_operands c (Str t x ∷ rest)) ≡ Ok (append d (bytes_of c.store t), with_operands c rest)
unfolding act
putting d c t x rest h = told d (plain_text (bytes_of c.store t)) (with_operands c rest) ∙ ap (λ text. Ok (append d text, with_operands c rest)) (plain (bytes_of c.store t) h)

pub putting_char : (d : Dial) (c : PsCore) (n : ℤ) (rest : List PsObj) → act 29 d (with_operands c (Int n ∷ rest)) ≡ Ok (append d (char_text n), with_operands c rest)
unfolding act
putting_char d c n rest = told d (char_text n) (with_operands c rest)

-- ---- words

on_words : (op : WordOperator) (c : PsCore) (a b n : ℕ) (rest : List PsObj) → a < 2 ^ 32 → b < 2 ^ 32 → of_two op a b ≡ Ok n
    → on_two op (with_operands c (Int (word b) ∷ Int (word a) ∷ rest)) ≡ Ok (with_operands c (Int (word n) ∷ rest))
on_words op c a b n rest la lb e =
    ap (λ x. defined (of_two op x (word_of_signed (word b))) >>= λ n. Ok (with_operands c (integer n ∷ rest))) (of_z-to_z w32 a la)
    ∙ ap (λ y. defined (of_two op a y) >>= λ n. Ok (with_operands c (integer n ∷ rest))) (of_z-to_z w32 b lb)
    ∙ ap (λ (r : Result ℕ Undef). defined r >>= λ n. Ok (with_operands c (integer n ∷ rest))) e

divides : (a b : ℕ) → 0 < b → of_two Divide a b ≡ Ok (a / b)
divides a b h = ap (λ (q : Bool). if q then Err Division else Ok (a / b)) (ne_eqb b 0 (λ z. omega (arith, h)))

leaves : (a b : ℕ) → 0 < b → of_two Remainder a b ≡ Ok (a % b)
leaves a b h = ap (λ (q : Bool). if q then Err Division else Ok (a % b)) (ne_eqb b 0 (λ z. omega (arith, h)))

takes : (a b : ℕ) → b < 2 ^ 32 → of_two Subtract a b ≡ Ok ((a + 2 ^ 32 - b) % 2 ^ 32)
takes a b h = let e : a + (2 ^ 32 - b) ≡ a + 2 ^ 32 - b = omega (arith, h) in ap (λ n. Ok (n % 2 ^ 32)) e

pub dividing : (d : Dial) (c : PsCore) (a b : ℕ) (rest : List PsObj) → a < 2 ^ 32 → b < 2 ^ 32 → 0 < b
    → act 14 d (with_operands c (Int (word b) ∷ Int (word a) ∷ rest)) ≡ Ok (d, with_operands c (Int (word (a / b)) ∷ rest))
unfolding act
dividing d c a b rest la lb h = ap (with_state d) (on_words Divide c a b (a / b) rest la lb (divides a b h))

pub leaving : (d : Dial) (c : PsCore) (a b : ℕ) (rest : List PsObj) → a < 2 ^ 32 → b < 2 ^ 32 → 0 < b
    → act 15 d (with_operands c (Int (word b) ∷ Int (word a) ∷ rest)) ≡ Ok (d, with_operands c (Int (word (a % b)) ∷ rest))
unfolding act
leaving d c a b rest la lb h = ap (with_state d) (on_words Remainder c a b (a % b) rest la lb (leaves a b h))

pub taking : (d : Dial) (c : PsCore) (a b : ℕ) (rest : List PsObj) → a < 2 ^ 32 → b < 2 ^ 32
    → act 17 d (with_operands c (Int (word b) ∷ Int (word a) ∷ rest)) ≡ Ok (d, with_operands c (Int (word ((a + 2 ^ 32 - b) % 2 ^ 32)) ∷ rest))
unfolding act
taking d c a b rest la lb = ap (with_state d) (on_words Subtract c a b ((a + 2 ^ 32 - b) % 2 ^ 32) rest la lb (takes a b lb))

pub summing : (d : Dial) (c : PsCore) (a b : ℕ) (rest : List PsObj) → a < 2 ^ 32 → b < 2 ^ 32
    → act 16 d (with_operands c (Int (word b) ∷ Int (word a) ∷ rest)) ≡ Ok (d, with_operands c (Int (word ((a + b) % 2 ^ 32)) ∷ rest))
unfolding act
summing d c a b rest la lb = ap (with_state d) (on_words Add c a b ((a + b) % 2 ^ 32) rest la lb refl)

-- the debugger's dialect prints
abbrev pub printing : Printing Operates
printing = record {
  append = append;
  append_none = append_none;
  append_twice = append_twice;
  needs = needs;
  put = λ d c t x rest e h. sure 28 d (append d (bytes_of c.store t)) c (Str t x ∷ rest) rest e (putting d c t x rest h);
  udivs = λ d c a b rest e la lb h. sure 14 d d c (Int (word b) ∷ Int (word a) ∷ rest) (Int (word (a / b)) ∷ rest) e (dividing d c a b rest la lb h);
  urem = λ d c a b rest e la lb h. sure 15 d d c (Int (word b) ∷ Int (word a) ∷ rest) (Int (word (a % b)) ∷ rest) e (leaving d c a b rest la lb h);
  usub = λ d c a b rest e la lb. sure 17 d d c (Int (word b) ∷ Int (word a) ∷ rest) (Int (word ((a + 2 ^ 32 - b) % 2 ^ 32)) ∷ rest) e (taking d c a b rest la lb);
  uadd = λ d c a b rest e la lb. sure 16 d d c (Int (word b) ∷ Int (word a) ∷ rest) (Int (word ((a + b) % 2 ^ 32)) ∷ rest) e (summing d c a b rest la lb);
  char_text = char_text;
  put_char = λ d c n rest e. sure 29 d (append d (char_text n)) c (Int n ∷ rest) rest e (putting_char d c n rest);
}
