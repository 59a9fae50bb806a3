-- The longest token at the front.
use Rattle.std.proofs.Common.{◌≡◌, ◌⊎◌, inl, inr, ℕ, suc, ◌+◌, ◌-◌, ◌≤◌, ◌<◌, Bool, true, false, cond, nat_le, ◌==◌, ◌&&◌, ◌||◌, not, List, [], ◌∷◌, ◌++◌, length, take, drop, Option, Some, None, refl, sym, ◌∙◌, ap, ap₂, subst, le-leb, leb-true, arith, length-append, length-drop, append_assoc, one-add, add-one}
use Rattle.std.specs.Prelude.{if◌then◌else◌}
use Rattle.std.specs.List.{prefix_len}
use Rattle.std.proofs.lemmas.Bool.{eqb-true, cases_lt}
use Rattle.std.proofs.lemmas.Bool.Decides.{nat_tests}
use Rattle.std.proofs.lemmas.List.{drop-drop, take-append-drop, length-take-le}
use Rattle.std.proofs.lemmas.List.Sums.{prefix_len-le-length}
use Rattle.std.proofs.Math.Seq.{drop-append_seam, take-add}
use Rattle.c_lex.specs.declared.token.TokenKind.{TokenKind}
use Rattle.c_lex.specs.declared.token.TokenKind.TheVariants.{Identifier, Keyword, Integer, Character, Str, Punctuator}
use Rattle.c_lex.specs.declared.longest.Class.{Class}
use Rattle.c_lex.specs.declared.longest.Class.TheVariants.{Word, Number, Quote, DoubleQuote, Other}
use Rattle.c_lex.specs.Bytes.{is_letter, is_digit, is_octal, is_hex, is_part, lookup}
use Rattle.c_lex.specs.Keywords as keywords
use Rattle.c_lex.specs.declared.punctuator.Punctuator
use Rattle.c_lex.specs.Punctuators.{ones, before_equal, before_greater, twins, shifts, two_bytes, three_bytes, punctuator_of}
use Rattle.c_lex.specs.Numbers.{AllAre, IsNumber, decimal, octal, hexadecimal, is_suffix, IsSuffix, no_suffix, a_suffix, IsInteger, starts_hex, zero_len, number_len, suffix_len, integer_len}
use Rattle.c_lex.specs.Literals.{Literal, starts, IsClosed, IsOne}
use Rattle.c_lex.specs.Grammar.{is_some, IsWord, is_barred, IsToken, Longest}
use Rattle.c_lex.specs.Front.{class_of, base, word_kind, has_mark, mark_len, Front}
use Rattle.c_lex.proofs.Literals.{true_false, when_true, when_false, and_left, and_right, not_true, lookup_test}

-- the first bytes of each kind
digit_no_letter : (b : ℕ) → is_digit b ≡ true → is_letter b ≡ false
digit_no_letter b h = grind (arith, nat_tests)

digit_class : (b : ℕ) (bs : List ℕ) → is_digit b ≡ true → class_of (b ∷ bs) ≡ Number
digit_class b bs h = when_false (is_letter b) _ _ (digit_no_letter b h) ∙ when_true (is_digit b) _ _ h

number_class : (ds more : List ℕ) → IsNumber ds → class_of (ds ++ more) ≡ Number
number_class _ more (decimal d ds n all) = digit_class d (ds ++ more) all.0
number_class _ more (octal ds all) = refl
number_class _ more (hexadecimal d ds all) = refl

is_mark : ℕ → Bool
is_mark b = not (is_letter b) && (not (is_digit b) && (not (b == 39) && not (b == 34)))

mark_class : (b : ℕ) (bs : List ℕ) → is_mark b ≡ true → class_of (b ∷ bs) ≡ Other
unfolding is_mark
mark_class b bs h =
    let r = and_right (not (is_letter b)) _ h in
    let s = and_right (not (is_digit b)) _ r in
    when_false (is_letter b) _ _ (not_true _ (and_left _ _ h)) ∙ when_false (is_digit b) _ _ (not_true _ (and_left _ _ r))
    ∙ when_false (b == 39) _ _ (not_true _ (and_left _ _ s)) ∙ when_false (b == 34) _ _ (not_true _ (and_right _ _ s))

some_is : {V : Type 0} (o : Option V) → is_some o ≡ true → (v : V) × (o ≡ Some v)
some_is None e = absurd (true_false (sym e))
some_is (Some v) e = (v, refl)

ones_mark : (b : ℕ) → is_some (lookup ones b) ≡ true → is_mark b ≡ true
unfolding is_mark
ones_mark b h = let s = some_is _ h in lookup_test is_mark ones refl b s.0 s.1

equal_mark : (b : ℕ) → is_some (lookup before_equal b) ≡ true → is_mark b ≡ true
unfolding is_mark
equal_mark b h = let s = some_is _ h in lookup_test is_mark before_equal refl b s.0 s.1

greater_mark : (b : ℕ) → is_some (lookup before_greater b) ≡ true → is_mark b ≡ true
unfolding is_mark
greater_mark b h = let s = some_is _ h in lookup_test is_mark before_greater refl b s.0 s.1

twins_mark : (b : ℕ) → is_some (lookup twins b) ≡ true → is_mark b ≡ true
unfolding is_mark
twins_mark b h = let s = some_is _ h in lookup_test is_mark twins refl b s.0 s.1

shifts_mark : (b : ℕ) → is_some (lookup shifts b) ≡ true → is_mark b ≡ true
unfolding is_mark
shifts_mark b h = let s = some_is _ h in lookup_test is_mark shifts refl b s.0 s.1

choose_some : {V : Type 0} (P : Type 0) (b : Bool) (x y : Option V) → (is_some x ≡ true → P) → (is_some y ≡ true → P) → is_some (if b then x else y) ≡ true → P
choose_some P true x y f g h = f h
choose_some P false x y f g h = g h

no_some : (P : Type 0) → is_some {V = Punctuator.Punctuator} None ≡ true → P
no_some P e = absurd (true_false (sym e))

two_mark : (a b : ℕ) → is_some (two_bytes a b) ≡ true → is_mark a ≡ true
two_mark a b h =
    choose_some (is_mark a ≡ true) (b == 61) (lookup before_equal a) _ (equal_mark a)
    (choose_some (is_mark a ≡ true) (b == 62) (lookup before_greater a) _ (greater_mark a)
    (choose_some (is_mark a ≡ true) (a == b) (lookup twins a) None (twins_mark a) (no_some (is_mark a ≡ true)))) h

three_mark : (a b c : ℕ) → is_some (three_bytes a b c) ≡ true → is_mark a ≡ true
three_mark a b c h = choose_some (is_mark a ≡ true) (a == b && c == 61) (lookup shifts a) None (shifts_mark a) (no_some (is_mark a ≡ true)) h

punctuator_class : (t more : List ℕ) → is_some (punctuator_of t) ≡ true → class_of (t ++ more) ≡ Other
punctuator_class [] more h = absurd (true_false (sym h))
punctuator_class (a ∷ []) more h = mark_class a more (ones_mark a h)
punctuator_class (a ∷ b ∷ []) more h = mark_class a (b ∷ more) (two_mark a b h)
punctuator_class (a ∷ b ∷ c ∷ []) more h = mark_class a (b ∷ c ∷ more) (three_mark a b c h)
punctuator_class (a ∷ b ∷ c ∷ d ∷ t) more h = absurd (true_false (sym h))

word_class : (t more : List ℕ) → IsWord t → class_of (t ++ more) ≡ Word
word_class [] more h = absurd (true_false (sym h.0))
word_class (b ∷ bs) more h = when_true (is_letter b) _ _ h.0

class_as : (K : Class) (us vs : List ℕ) → us ≡ vs → class_of us ≡ K → class_of vs ≡ K
class_as K us vs e h = ap class_of (sym e) ∙ h

-- a token's first byte tells its kind
pub classed : (k : TokenKind) (t rest : List ℕ) → IsToken k t rest → class_of (t ++ rest) ≡ base k
classed Identifier t rest h = word_class t rest h.0
classed Keyword t rest h = word_class t rest h.0
classed Integer t rest h =
    class_as Number (h.0 ++ (h.1 ++ rest)) (t ++ rest) (sym (append_assoc h.0 h.1 rest) ∙ ap (λ l. l ++ rest) (sym h.2)) (number_class h.0 (h.1 ++ rest) h.3)
classed Character t rest h = class_as Quote (39 ∷ (h.0 ++ rest)) (t ++ rest) (ap (λ l. l ++ rest) (sym h.2)) refl
classed Str t rest h = class_as DoubleQuote (34 ∷ (h.0 ++ rest)) (t ++ rest) (ap (λ l. l ++ rest) (sym h.2)) refl
classed Punctuator t rest h = punctuator_class t rest h.0

pub classed_at : (k : TokenKind) (m : ℕ) (text : List ℕ) → IsToken k (take m text) (drop m text) → class_of text ≡ base k
classed_at k m text h = ap class_of (sym (take-append-drop m text)) ∙ classed k (take m text) (drop m text) h

-- the lengths of the tokens of one kind at the front
abbrev pub Exact : TokenKind → List ℕ → Option ℕ → Type 0
Exact K text None = (m : ℕ) → m ≤ length text → IsToken K (take m text) (drop m text) → ⊥
Exact K text (Some n) = (n ≤ length text) × IsToken K (take n text) (drop n text) × ((m : ℕ) → m ≤ length text → IsToken K (take m text) (drop m text) → m ≤ n)

abbrev pub sized : TokenKind → Option ℕ → Option (TokenKind × ℕ)
sized K None = None
sized K (Some n) = Some (K, n)

only_kind : (k K : TokenKind) → base k ≡ base K → (base K ≡ Word → ⊥) → k ≡ K
only_kind Identifier K e h = absurd (h (sym e))
only_kind Keyword K e h = absurd (h (sym e))
only_kind Integer Integer e h = refl
only_kind Character Character e h = refl
only_kind Str Str e h = refl
only_kind Punctuator Punctuator e h = refl
only_kind _ _ e h = cc

as_kind : (k K : TokenKind) (t rest : List ℕ) → k ≡ K → IsToken k t rest → IsToken K t rest
as_kind k K t rest e h = let P : TokenKind → Type 0 = λ x. IsToken x t rest in subst P e h

-- where the first byte leaves one kind, its longest is the longest
pub only : (K : TokenKind) (text : List ℕ) (n : Option ℕ) → (base K ≡ Word → ⊥) → class_of text ≡ base K → Exact K text n → Front text (sized K n)
only K text None h c e = λ k m le t. e m le (as_kind k K _ _ (only_kind k K (sym (classed_at k m text t) ∙ c) h) t)
only K text (Some n) h c e = record { within = e.0; is = e.1; most = λ k m le t. e.2 m le (as_kind k K _ _ (only_kind k K (sym (classed_at k m text t) ∙ c) h) t) }

-- bytes of a class
pub all_len : (p : ℕ → Bool) (t rest : List ℕ) → AllAre p t → length t ≤ prefix_len p (t ++ rest)
all_len p [] rest h = omega arith
all_len p (b ∷ bs) rest h = let ih = all_len p bs rest h.1 in rw h.0 (omega (arith, ih))

prefix_step : (p : ℕ → Bool) (b : ℕ) (bs : List ℕ) → AllAre p (take (prefix_len p bs) bs) → (v : Bool) → p b ≡ v
    → AllAre p (take (cond v (1 + prefix_len p bs) 0) (b ∷ bs))
prefix_step p b bs ih true e = let P : ℕ → Type 0 = λ n. AllAre p (take n (b ∷ bs)) in subst P (sym (one-add (prefix_len p bs))) (e, ih)
prefix_step p b bs ih false e = tt

pub prefix_all : (p : ℕ → Bool) (l : List ℕ) → AllAre p (take (prefix_len p l) l)
prefix_all p [] = tt
prefix_all p (b ∷ bs) = prefix_step p b bs (prefix_all p bs) (p b) refl

-- words
letter_part : (b : ℕ) → is_letter b ≡ true → is_part b ≡ true
letter_part b h = ap (λ v. v || is_digit b) h

letter_of : (v x y z : Bool) → (if v then Word else if x then Number else if y then Quote else if z then DoubleQuote else Other) ≡ Word → v ≡ true
letter_of true x y z e = refl
letter_of false true y z e = cc
letter_of false false true z e = cc
letter_of false false false true e = cc
letter_of false false false false e = cc

digit_by : (v x y z : Bool) → (if v then Word else if x then Number else if y then Quote else if z then DoubleQuote else Other) ≡ Number → x ≡ true
digit_by true x y z e = cc
digit_by false true y z e = refl
digit_by false false true z e = cc
digit_by false false false true e = cc
digit_by false false false false e = cc

quote_by : (v x y z : Bool) → (if v then Word else if x then Number else if y then Quote else if z then DoubleQuote else Other) ≡ Quote → y ≡ true
quote_by true x y z e = cc
quote_by false true y z e = cc
quote_by false false true z e = refl
quote_by false false false true e = cc
quote_by false false false false e = cc

double_by : (v x y z : Bool) → (if v then Word else if x then Number else if y then Quote else if z then DoubleQuote else Other) ≡ DoubleQuote → z ≡ true
double_by true x y z e = cc
double_by false true y z e = cc
double_by false false true z e = cc
double_by false false false true e = refl
double_by false false false false e = cc

digit_of_class : (b : ℕ) (bs : List ℕ) → class_of (b ∷ bs) ≡ Number → is_digit b ≡ true
digit_of_class b bs e = digit_by (is_letter b) (is_digit b) (b == 39) (b == 34) e

quote_first : (text : List ℕ) → class_of text ≡ Quote → text ≡ 39 ∷ drop 1 text
quote_first [] e = cc
quote_first (b ∷ bs) e = ap (λ x. x ∷ bs) (eqb-true b 39 (quote_by (is_letter b) (is_digit b) (b == 39) (b == 34) e))

double_first : (text : List ℕ) → class_of text ≡ DoubleQuote → text ≡ 34 ∷ drop 1 text
double_first [] e = cc
double_first (b ∷ bs) e = ap (λ x. x ∷ bs) (eqb-true b 34 (double_by (is_letter b) (is_digit b) (b == 39) (b == 34) e))

letter_some : (text : List ℕ) → class_of text ≡ Word → starts is_letter text ≡ true
letter_some [] e = cc
letter_some (b ∷ bs) e = letter_of (is_letter b) (is_digit b) (b == 39) (b == 34) e

pub word_is : (text : List ℕ) → class_of text ≡ Word → IsWord (take (prefix_len is_part text) text)
word_is [] e = cc
word_is (b ∷ bs) e =
    let l : is_letter b ≡ true = letter_some (b ∷ bs) e in
    let n : prefix_len is_part (b ∷ bs) ≡ suc (prefix_len is_part bs) = when_true (is_part b) _ _ (letter_part b l) ∙ one-add _ in
    let P : ℕ → Type 0 = λ k. starts is_letter (take k (b ∷ bs)) ≡ true in
    (subst P (sym n) l, prefix_all is_part (b ∷ bs))

word_most : (text : List ℕ) (m : ℕ) → m ≤ length text → IsWord (take m text) → m ≤ prefix_len is_part text
word_most text m le h =
    let a = all_len is_part (take m text) (drop m text) h.1 in
    let l : length (take m text) ≡ m = length-take-le m text le in
    let e : prefix_len is_part (take m text ++ drop m text) ≡ prefix_len is_part text = ap (prefix_len is_part) (take-append-drop m text) in
    omega (arith, a, l, e)

word_of : (k : TokenKind) (t rest : List ℕ) → base k ≡ Word → IsToken k t rest → IsWord t
word_of Identifier t rest e h = h.0
word_of Keyword t rest e h = h.0
word_of Integer t rest e h = cc
word_of Character t rest e h = cc
word_of Str t rest e h = cc
word_of Punctuator t rest e h = cc

pub word_longest : (K : TokenKind) (text : List ℕ) → class_of text ≡ Word → IsToken K (take (prefix_len is_part text) text) (drop (prefix_len is_part text) text)
    → Longest K text (prefix_len is_part text)
word_longest K text c h = record {
  within = prefix_len-le-length is_part text;
  is = h;
  most = λ k m le t. word_most text m le (word_of k _ _ (sym (classed_at k m text t) ∙ c) t);
}

word_token : (t rest : List ℕ) → IsWord t → (v : Bool) → is_some (keywords.keyword_of t) ≡ v → IsToken (if v then Keyword else Identifier) t rest
word_token t rest h true e = (h, e)
word_token t rest h false e = (h, e)

-- the word at the front, as it is read
pub word_front : (text : List ℕ) (K : TokenKind) (n : ℕ) → class_of text ≡ Word → n ≡ prefix_len is_part text → K ≡ word_kind (take n text) → Longest K text n
word_front text K n c e k =
    let t = word_token (take (prefix_len is_part text) text) (drop (prefix_len is_part text) text) (word_is text c) (is_some (keywords.keyword_of (take (prefix_len is_part text) text))) refl in
    let P : TokenKind → Type 0 = λ x. Longest x text n in
    let Q : ℕ → Type 0 = λ m. Longest (word_kind (take m text)) text m in
    subst P (sym k) (subst Q (sym e) (word_longest (word_kind (take (prefix_len is_part text) text)) text c t))

-- punctuators
mark_size : (t : List ℕ) → is_some (punctuator_of t) ≡ true → (1 ≤ length t) × (length t ≤ 3)
mark_size [] h = absurd (true_false (sym h))
mark_size (a ∷ []) h = (omega arith, omega arith)
mark_size (a ∷ b ∷ []) h = (omega arith, omega arith)
mark_size (a ∷ b ∷ c ∷ []) h = (omega arith, omega arith)
mark_size (a ∷ b ∷ c ∷ d ∷ t) h = absurd (true_false (sym h))

both_true : (a b : Bool) → a ≡ true → b ≡ true → (a && b) ≡ true
both_true a b h k = ap₂ (λ x y. x && y) h k

-- the punctuators of m bytes at the front
record Mark (text : List ℕ) (m : ℕ) : Type 0 where
  least : 1 ≤ m
  size : m ≤ 3
  has : has_mark text m ≡ true

mark_of : (text : List ℕ) (m : ℕ) → m ≤ length text → is_some (punctuator_of (take m text)) ≡ true → Mark text m
mark_of text m le h =
    let s = mark_size (take m text) h in
    let l : length (take m text) ≡ m = length-take-le m text le in
    record { least = omega (arith, s.0, l); size = omega (arith, s.1, l); has = both_true _ _ (le-leb m (length text) le) h }

mark_no : (text : List ℕ) (m n : ℕ) → m ≡ n → has_mark text m ≡ true → has_mark text n ≡ false → ⊥
mark_no text m n e h k = true_false (sym h ∙ ap (has_mark text) e ∙ k)

barred_as : (text : List ℕ) (m : ℕ) → is_barred text ≡ false → is_barred (take m text ++ drop m text) ≡ false
barred_as text m h = ap is_barred (take-append-drop m text) ∙ h

below_three : (text : List ℕ) (m : ℕ) → Mark text m → has_mark text 3 ≡ false → m ≤ 2
below_three text m k e =
    let small = k.size in
    elim (cases_lt m 3) [ inl lt ↦ omega (arith, lt) | inr le ↦ absurd (mark_no text m 3 (omega (arith, le, small)) k.has e) ]

below_two : (text : List ℕ) (m : ℕ) → Mark text m → has_mark text 3 ≡ false → has_mark text 2 ≡ false → m ≤ 1
below_two text m k e f =
    let small = below_three text m k e in
    elim (cases_lt m 2) [ inl lt ↦ omega (arith, lt) | inr le ↦ absurd (mark_no text m 2 (omega (arith, le, small)) k.has f) ]

no_mark : (text : List ℕ) (m : ℕ) → Mark text m → has_mark text 3 ≡ false → has_mark text 2 ≡ false → has_mark text 1 ≡ false → ⊥
no_mark text m k e f g = let small = below_two text m k e f in let least = k.least in mark_no text m 1 (omega (arith, small, least)) k.has g

mark_exact_some : (text : List ℕ) (n : ℕ) → is_barred text ≡ false → has_mark text n ≡ true → ((m : ℕ) → Mark text m → m ≤ n) → Exact Punctuator text (Some n)
mark_exact_some text n b h most = (
  leb-true n (length text) (and_left _ _ h),
  (and_right (nat_le n (length text)) _ h, barred_as text n b),
  λ m le t. most m (mark_of text m le t.0),
)

mark_by : (text : List ℕ) → is_barred text ≡ false → (x y z : Bool) → has_mark text 3 ≡ x → has_mark text 2 ≡ y → has_mark text 1 ≡ z
    → Exact Punctuator text (if x then Some 3 else if y then Some 2 else if z then Some 1 else None)
mark_by text b true y z e f g = mark_exact_some text 3 b e (λ m k. k.size)
mark_by text b false true z e f g = mark_exact_some text 2 b f (λ m k. below_three text m k e)
mark_by text b false false true e f g = mark_exact_some text 1 b g (λ m k. below_two text m k e f)
mark_by text b false false false e f g = λ m le t. no_mark text m (mark_of text m le t.0) e f g

mark_barred : (text : List ℕ) (v : Bool) → is_barred text ≡ v
    → Exact Punctuator text (if v then None else if has_mark text 3 then Some 3 else if has_mark text 2 then Some 2 else if has_mark text 1 then Some 1 else None)
mark_barred text true e = λ m le t. true_false (sym e ∙ ap is_barred (sym (take-append-drop m text)) ∙ t.1)
mark_barred text false e = mark_by text e (has_mark text 3) (has_mark text 2) (has_mark text 1) refl refl refl

pub mark_exact : (text : List ℕ) → Exact Punctuator text (mark_len text)
mark_exact text = mark_barred text (is_barred text) refl

-- integer constants
hex_first : (x : ℕ) (l : List ℕ) → starts_hex (x ∷ l) ≡ true → (x == 120) ≡ true
hex_first x [] e = absurd (true_false (sym e))
hex_first x (d ∷ l) e = and_left _ _ e

octal_by : (ds more : List ℕ) → AllAre is_octal ds → (v : Bool) → starts_hex (ds ++ more) ≡ v
    → suc (length ds) ≤ (if v then prefix_len is_hex (drop 1 (ds ++ more)) + 2 else prefix_len is_octal (ds ++ more) + 1)
octal_by [] more all true e = omega arith
octal_by (x ∷ ds) more all true e = absurd (true_false (sym all.0 ∙ ap is_octal (eqb-true x 120 (hex_first x (ds ++ more) e))))
octal_by ds more all false e = let a = all_len is_octal ds more all in omega (arith, a)

octal_fits : (ds more : List ℕ) → AllAre is_octal ds → suc (length ds) ≤ zero_len (ds ++ more)
octal_fits ds more all = octal_by ds more all (starts_hex (ds ++ more)) refl

number_fits : (ds more : List ℕ) → IsNumber ds → length ds ≤ number_len (ds ++ more)
number_fits _ more (decimal d ds n all) =
    let a = all_len is_digit (d ∷ ds) more all in
    let e : number_len (d ∷ (ds ++ more)) ≡ prefix_len is_digit (d ∷ (ds ++ more)) = when_false (d == 48) _ _ n in
    omega (arith, a, e)
number_fits _ more (octal ds all) = octal_fits ds more all
number_fits _ more (hexadecimal d ds all) =
    let a = all_len is_hex (d ∷ ds) more all in
    let e : zero_len (120 ∷ d ∷ (ds ++ more)) ≡ prefix_len is_hex (d ∷ (ds ++ more)) + 2 = when_true (is_hex d) _ _ all.0 in
    omega (arith, a, e)

suffix_fits : (s more : List ℕ) → IsSuffix s → length s ≤ suffix_len (s ++ more)
suffix_fits _ more no_suffix = omega arith
suffix_fits _ more (a_suffix b h) = let e : suffix_len (b ∷ more) ≡ 1 = when_true (is_suffix b) _ _ h in omega (arith, e)

suffix_one : (s : List ℕ) → IsSuffix s → length s ≤ 1
suffix_one _ no_suffix = omega arith
suffix_one _ (a_suffix b h) = omega arith

-- a shorter number leaves room for a suffix; one as long has it behind it
room : (ds s more : List ℕ) (n : ℕ) → length ds ≤ n → IsSuffix s → (n ≡ length ds) ⊎ (length ds < n) → length (ds ++ s) ≤ n + suffix_len (drop n (ds ++ (s ++ more)))
room ds s more n le suf (inl e) =
    let d : drop n (ds ++ (s ++ more)) ≡ s ++ more = ap (λ k. drop k (ds ++ (s ++ more))) e ∙ drop-append_seam ds (s ++ more) in
    let f = suffix_fits s more suf in
    let g : suffix_len (drop n (ds ++ (s ++ more))) ≡ suffix_len (s ++ more) = ap suffix_len d in
    omega (arith, f, g, length-append ds s, e)
room ds s more n le suf (inr lt) = omega (arith, suffix_one s suf, length-append ds s)

split : (a b : ℕ) → a ≤ b → (b ≡ a) ⊎ (a < b)
split a b h = elim (cases_lt a b) [ inl lt ↦ inr lt | inr le ↦ inl (omega (arith, le, h)) ]

integer_fits : (t more : List ℕ) → IsInteger t → length t ≤ integer_len (t ++ more)
integer_fits t more h =
    let ds = h.0 in
    let s = h.1 in
    let all : t ++ more ≡ ds ++ (s ++ more) = ap (λ l. l ++ more) h.2 ∙ append_assoc ds s more in
    let f = number_fits ds (s ++ more) h.3 in
    let r = room ds s more (number_len (ds ++ (s ++ more))) f h.4 (split (length ds) (number_len (ds ++ (s ++ more))) f) in
    let e : integer_len (t ++ more) ≡ integer_len (ds ++ (s ++ more)) = ap integer_len all in
    omega (arith, r, e, ap length h.2)

suffix_by : (b : ℕ) (bs : List ℕ) (v : Bool) → is_suffix b ≡ v → IsSuffix (take (if v then 1 else 0) (b ∷ bs))
suffix_by b bs true e = a_suffix b e
suffix_by b bs false e = no_suffix

suffix_is : (l : List ℕ) → IsSuffix (take (suffix_len l) l)
suffix_is [] = no_suffix
suffix_is (b ∷ bs) = suffix_by b bs (is_suffix b) refl

zero_by : (bs : List ℕ) (v : Bool) → starts_hex bs ≡ v → IsNumber (take (if v then prefix_len is_hex (drop 1 bs) + 2 else prefix_len is_octal bs + 1) (48 ∷ bs))
zero_by [] true e = absurd (true_false (sym e))
zero_by (x ∷ []) true e = absurd (true_false (sym e))
zero_by (x ∷ d ∷ bs) true e =
    let h : is_hex d ≡ true = and_right (x == 120) _ e in
    let n : prefix_len is_hex (d ∷ bs) ≡ suc (prefix_len is_hex bs) = when_true (is_hex d) _ _ h ∙ one-add _ in
    let P : ℕ → Type 0 = λ k. IsNumber (take k (48 ∷ x ∷ d ∷ bs)) in
    let Q : ℕ → Type 0 = λ c. IsNumber (48 ∷ c ∷ d ∷ take (prefix_len is_hex bs) bs) in
    let three : suc (suc (suc (prefix_len is_hex bs))) ≡ prefix_len is_hex (d ∷ bs) + 2 = omega (arith, n) in
    subst P three (subst Q (sym (eqb-true x 120 (and_left _ _ e))) (hexadecimal d (take (prefix_len is_hex bs) bs) (h, prefix_all is_hex bs)))
zero_by bs false e =
    let P : ℕ → Type 0 = λ k. IsNumber (take k (48 ∷ bs)) in
    subst P (sym (add-one (prefix_len is_octal bs))) (octal (take (prefix_len is_octal bs) bs) (prefix_all is_octal bs))

number_by : (b : ℕ) (bs : List ℕ) → is_digit b ≡ true → (v : Bool) → (b == 48) ≡ v → IsNumber (take (if v then zero_len bs else prefix_len is_digit (b ∷ bs)) (b ∷ bs))
number_by b bs h true e = let P : ℕ → Type 0 = λ c. IsNumber (take (zero_len bs) (c ∷ bs)) in subst P (sym (eqb-true b 48 e)) (zero_by bs (starts_hex bs) refl)
number_by b bs h false e =
    let n : prefix_len is_digit (b ∷ bs) ≡ suc (prefix_len is_digit bs) = when_true (is_digit b) _ _ h ∙ one-add _ in
    let P : ℕ → Type 0 = λ k. IsNumber (take k (b ∷ bs)) in
    subst P (sym n) (decimal b (take (prefix_len is_digit bs) bs) e (h, prefix_all is_digit bs))

number_is : (text : List ℕ) → class_of text ≡ Number → IsNumber (take (number_len text) text)
number_is [] e = cc
number_is (b ∷ bs) e = number_by b bs (digit_of_class b bs e) (b == 48) refl

pub integer_exact : (text : List ℕ) → class_of text ≡ Number → integer_len text ≤ length text → Exact Integer text (Some (integer_len text))
integer_exact text c within = (
  within,
  (
    take (number_len text) text,
    take (suffix_len (drop (number_len text) text)) (drop (number_len text) text),
    take-add (number_len text) (suffix_len (drop (number_len text) text)) text,
    number_is text c,
    suffix_is (drop (number_len text) text),
  ),
  λ m le t.
      let f = integer_fits (take m text) (drop m text) t in
      let e : integer_len (take m text ++ drop m text) ≡ integer_len text = ap integer_len (take-append-drop m text) in
      let l : length (take m text) ≡ m = length-take-le m text le in
      omega (arith, f, e, l),
)

-- literals
body_at : (q : ℕ) (m : ℕ) (text body : List ℕ) → take m text ≡ q ∷ body → drop 1 text ≡ body ++ drop m text
body_at q m text body e = ap (drop 1) (sym (take-append-drop m text) ∙ ap (λ l. l ++ drop m text) e)

tail_is : (n : ℕ) (text : List ℕ) → drop n (drop 1 text) ≡ drop (n + 1) text
tail_is n text = drop-drop n 1 text ∙ ap (λ k. drop k text) (omega arith)

same_end : (m n : ℕ) (text : List ℕ) → m ≤ length text → n + 1 ≤ length text → drop m text ≡ drop n (drop 1 text) → m ≤ n + 1
same_end m n text a b e =
    let l : length (drop m text) ≡ length (drop n (drop 1 text)) = ap length e in
    let x : length (drop n (drop 1 text)) ≡ length text - (n + 1) = ap length (tail_is n text) ∙ length-drop (n + 1) text in
    omega (arith, l, x, length-drop m text)

head_by : (q : ℕ) (K : TokenKind) (n : ℕ) (text : List ℕ) → text ≡ q ∷ drop 1 text → take (n + 1) text ≡ q ∷ take n (drop 1 text)
head_by q K n text e = ap (take (n + 1)) e ∙ ap (λ k. take k (q ∷ drop 1 text)) (add-one n)

lit_as : (q : ℕ) (us vs values rest rest' : List ℕ) → us ≡ vs → rest ≡ rest' → Literal q us values rest → Literal q vs values rest'
lit_as q us vs values rest rest' e f d = let P : List ℕ → Type 0 = λ l. Literal q l values rest in let Q : List ℕ → Type 0 = λ l. Literal q vs values l in subst Q f (subst P e d)

abbrev pub more_by_one : Option ℕ → Option ℕ
more_by_one None = None
more_by_one (Some n) = Some (n + 1)

size_of : (n : ℕ) (text : List ℕ) → 1 ≤ length text → n ≤ length (drop 1 text) → n + 1 ≤ length text
size_of n text some h = omega (arith, some, h, length-drop 1 text)

pub one_exact : (text : List ℕ) → class_of text ≡ Quote → 1 ≤ length text → (n : Option ℕ) → IsOne (drop 1 text) n → Front text (sized Character (more_by_one n))
one_exact text c some None h = only Character text None (λ e. cc) c (λ m le t. h t.1 (drop m text) (lit_as 39 _ _ _ _ _ (sym (body_at 39 m text t.0 t.2)) refl t.3))
one_exact text c some (Some n) h = only Character text (Some (n + 1)) (λ e. cc) c (
  size_of n text some h.0,
  (
    take n (drop 1 text),
    h.1.0,
    head_by 39 Character n text (quote_first text c),
    lit_as 39 _ _ _ _ _ (sym (take-append-drop n (drop 1 text)) ∙ ap (λ l. take n (drop 1 text) ++ l) (tail_is n text)) (tail_is n text) h.1.1,
  ),
  λ m le t. same_end m n text le (size_of n text some h.0) (h.2 t.1 (drop m text) (lit_as 39 _ _ _ _ _ (sym (body_at 39 m text t.0 t.2)) refl t.3)),
)

pub closed_exact : (text : List ℕ) → class_of text ≡ DoubleQuote → 1 ≤ length text → (n : Option ℕ) → IsClosed 34 (drop 1 text) n → Front text (sized Str (more_by_one n))
closed_exact text c some None h = only Str text None (λ e. cc) c (λ m le t. h t.1 (drop m text) (lit_as 34 _ _ _ _ _ (sym (body_at 34 m text t.0 t.2)) refl t.3))
closed_exact text c some (Some n) h = only Str text (Some (n + 1)) (λ e. cc) c (
  size_of n text some h.0,
  (
    take n (drop 1 text),
    h.1.0,
    head_by 34 Str n text (double_first text c),
    lit_as 34 _ _ _ _ _ (sym (take-append-drop n (drop 1 text)) ∙ ap (λ l. take n (drop 1 text) ++ l) (tail_is n text)) (tail_is n text) h.1.1,
  ),
  λ m le t. same_end m n text le (size_of n text some h.0) (h.2 t.1 (drop m text) (lit_as 34 _ _ _ _ _ (sym (body_at 34 m text t.0 t.2)) refl t.3)),
)

-- a token has a byte
word_some : (t : List ℕ) → IsWord t → 1 ≤ length t
word_some [] h = absurd (true_false (sym h.0))
word_some (b ∷ t) h = omega arith

number_some : (ds s : List ℕ) → IsNumber ds → 1 ≤ length (ds ++ s)
number_some _ s (decimal d ds n all) = omega arith
number_some _ s (octal ds all) = omega arith
number_some _ s (hexadecimal d ds all) = omega arith

pub token_some : (k : TokenKind) (t rest : List ℕ) → IsToken k t rest → 1 ≤ length t
token_some Identifier t rest h = word_some t h.0
token_some Keyword t rest h = word_some t h.0
token_some Integer t rest h = let n = number_some h.0 h.1 h.3 in omega (arith, n, ap length h.2)
token_some Character t rest h = omega (arith, ap length h.2)
token_some Str t rest h = omega (arith, ap length h.2)
token_some Punctuator t rest h = (mark_size t h.0).0

pub one_front : (text tail : List ℕ) → tail ≡ drop 1 text → class_of text ≡ Quote → 1 ≤ length text → (n : Option ℕ) → IsOne tail n → Front text (sized Character (more_by_one n))
one_front text tail e c some n h = let P : List ℕ → Type 0 = λ l. IsOne l n in one_exact text c some n (subst P e h)

pub closed_front : (text tail : List ℕ) → tail ≡ drop 1 text → class_of text ≡ DoubleQuote → 1 ≤ length text → (n : Option ℕ) → IsClosed 34 tail n → Front text (sized Str (more_by_one n))
closed_front text tail e c some n h = let P : List ℕ → Type 0 = λ l. IsClosed 34 l n in closed_exact text c some n (subst P e h)

pub integer_front : (text : List ℕ) (n : ℕ) → class_of text ≡ Number → n ≡ integer_len text → n ≤ length text → Front text (Some (Integer, n))
integer_front text n c e h = let P : ℕ → Type 0 = λ m. m ≤ length text in only Integer text (Some n) (λ x. cc) c (let Q : ℕ → Type 0 = λ m. Exact Integer text (Some m) in subst Q (sym e) (integer_exact text c (subst P e h)))

pub mark_front : (text : List ℕ) (n : Option ℕ) → class_of text ≡ Other → n ≡ mark_len text → Front text (sized Punctuator n)
mark_front text n c e = only Punctuator text n (λ x. cc) c (let Q : Option ℕ → Type 0 = λ m. Exact Punctuator text m in subst Q (sym e) (mark_exact text))

pub quote_some : (text : List ℕ) → class_of text ≡ Quote → 1 ≤ length text
quote_some [] e = cc
quote_some (b ∷ bs) e = omega arith

pub double_some : (text : List ℕ) → class_of text ≡ DoubleQuote → 1 ≤ length text
double_some [] e = cc
double_some (b ∷ bs) e = omega arith
