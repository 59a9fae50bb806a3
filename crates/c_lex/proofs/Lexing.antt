-- The tokens of a text, read from the front, and in one way.
use Rattle.std.proofs.Common.{◌≡◌, ℕ, ◌+◌, ◌≤◌, true, false, List, [], ◌∷◌, ◌++◌, length, take, drop, Some, None, refl, sym, ◌∙◌, ap, ap₂, subst, arith, length-drop, append_assoc, append-nil, le_antisymm}
use Rattle.std.proofs.lemmas.List.{drop-drop, length-take-le, drop_all}
use Rattle.c_lex.specs.declared.token.TokenKind.{TokenKind}
use Rattle.c_lex.specs.declared.token.TokenKind.TheVariants.{Identifier, Keyword, Integer, Character, Str, Punctuator}
use Rattle.c_lex.specs.declared.token.Token.{Token}
use Rattle.c_lex.specs.declared.token.Place.{Place}
use Rattle.c_lex.specs.Grammar.{IsToken, Longest, fits, gap_of, after, token_at, Lexes, ended, gap, token, Faults, none_begins, out_of_range, behind_gap, behind_token, start}
use Rattle.c_lex.specs.Front.{base, Front, Begins}
use Rattle.c_lex.proofs.Literals.{true_false, none_some}
use Rattle.c_lex.proofs.Front.{classed_at, token_some}

pub record Lexed (text : List ℕ) (p : Place) (ts : List Token) : Type 0 where
  pub at_most : p.at ≤ length text
  pub line : p.line ≤ p.at + 1
  pub column : p.column ≤ p.at + 1
  pub forth : (more : List Token) → Lexes p (drop p.at text) more → Lexes start text (ts ++ more)
  pub faults : (at : ℕ) → Faults p (drop p.at text) at → Faults start text at

pub begin : (text : List ℕ) → Lexed text start []
begin text = record { at_most = omega arith; line = omega arith; column = omega arith; forth = λ more d. d; faults = λ at d. d }

-- a place further on
pub record Next (text : List ℕ) (p : Place) (n : ℕ) (q : Place) : Type 0 where
  pub is : q ≡ after p (take n (drop p.at text))
  pub within : n ≤ length (drop p.at text)
  pub at : q.at ≡ p.at + length (take n (drop p.at text))
  pub line : q.line ≤ q.at + 1
  pub column : q.column ≤ q.at + 1

next_at : {text : List ℕ} {p : Place} {n : ℕ} {q : Place} → Next text p n q → q.at ≡ p.at + n
next_at {text} {p} {n} {q} k = k.at ∙ ap (λ m. p.at + m) (length-take-le n (drop p.at text) k.within)

next_rest : {text : List ℕ} {p : Place} {n : ℕ} {q : Place} → Next text p n q → drop n (drop p.at text) ≡ drop q.at text
next_rest {text} {p} {n} {q} k = drop-drop n p.at text ∙ ap (λ m. drop m text) (sym (next_at k))

next_most : {text : List ℕ} {p : Place} {n : ℕ} {q : Place} → p.at ≤ length text → Next text p n q → q.at ≤ length text
next_most {text} {p} {n} {q} h k = let a = next_at k in let w = k.within in omega (arith, a, w, h, length-drop p.at text)

pub next_of : (text : List ℕ) (p : Place) (n : ℕ) (q : Place) (rest front : List ℕ) → rest ≡ drop p.at text → front ≡ take n rest → q ≡ after p front → n ≤ length rest
    → q.at ≡ p.at + length front → q.line ≤ q.at + 1 → q.column ≤ q.at + 1 → Next text p n q
next_of text p n q rest front e f g w a l k =
    let same_front : front ≡ take n (drop p.at text) = f ∙ ap (take n) e in
    let P : List ℕ → Type 0 = λ x. n ≤ length x in
    record { is = g ∙ ap (after p) same_front; within = subst P e w; at = a ∙ ap (λ x. p.at + length x) same_front; line = l; column = k }

lexes_at : {text : List ℕ} {p : Place} {n : ℕ} {q : Place} → Next text p n q → (ts : List Token) → Lexes q (drop q.at text) ts → Lexes (after p (take n (drop p.at text))) (drop n (drop p.at text)) ts
lexes_at {text} {p} {n} {q} k ts d =
    let P : Place → Type 0 = λ r. Lexes r (drop n (drop p.at text)) ts in
    let Q : List ℕ → Type 0 = λ l. Lexes q l ts in
    subst P k.is (subst Q (sym (next_rest k)) d)

faults_at : {text : List ℕ} {p : Place} {n : ℕ} {q : Place} → Next text p n q → (at : ℕ) → Faults q (drop q.at text) at → Faults (after p (take n (drop p.at text))) (drop n (drop p.at text)) at
faults_at {text} {p} {n} {q} k at d =
    let P : Place → Type 0 = λ r. Faults r (drop n (drop p.at text)) at in
    let Q : List ℕ → Type 0 = λ l. Faults q l at in
    subst P k.is (subst Q (sym (next_rest k)) d)

pub gap_on : (text : List ℕ) (p : Place) (ts : List Token) (n : ℕ) (q : Place) → Lexed text p ts → gap_of (drop p.at text) ≡ Some n → Next text p n q → Lexed text q ts
gap_on text p ts n q l e k = record {
  at_most = next_most l.at_most k;
  line = k.line;
  column = k.column;
  forth = λ more d. l.forth more (gap p (drop p.at text) n e (lexes_at k more d));
  faults = λ at d. l.faults at (behind_gap p (drop p.at text) n e (faults_at k at d));
}

pub token_on : (text : List ℕ) (p : Place) (ts : List Token) (t : TokenKind × ℕ) (q : Place) → Lexed text p ts → gap_of (drop p.at text) ≡ None → Begins (drop p.at text) (Some t)
    → Next text p t.1 q → Lexed text q (ts ++ token_at t.0 p t.1 ∷ [])
token_on text p ts t q l e b k =
    let P : List Token → Type 0 = λ x. Lexes start text x in
    record {
      at_most = next_most l.at_most k;
      line = k.line;
      column = k.column;
      forth = λ more d. subst P (sym (append_assoc ts (token_at t.0 p t.1 ∷ []) more)) (l.forth (token_at t.0 p t.1 ∷ more) (token p (drop p.at text) t.0 t.1 e b.0 b.1 (lexes_at k more d)));
      faults = λ at d. l.faults at (behind_token p (drop p.at text) t.0 t.1 e b.0 b.1 (faults_at k at d));
    }

pub bad : (text : List ℕ) (p : Place) (ts : List Token) → Lexed text p ts → Begins (drop p.at text) None → Faults start text p.at
bad text p ts l b = l.faults p.at (b p)

pub finish : (text : List ℕ) (p : Place) (ts : List Token) → Lexed text p ts → length text ≤ p.at → Lexes start text ts
finish text p ts l h =
    let P : List ℕ → Type 0 = λ x. Lexes p x [] in
    let Q : List Token → Type 0 = λ x. Lexes start text x in
    subst Q (append-nil ts) (l.forth [] (subst P (sym (drop_all p.at text h)) (ended p)))

longest_some : (text : List ℕ) (k : TokenKind) (n : ℕ) → Longest k text n → 1 ≤ n
longest_some text k n l =
    let s = token_some k (take n text) (drop n text) l.is in
    omega (arith, s, length-take-le n text l.within)

some_same : {m n : ℕ} → Some m ≡ Some n → m ≡ n
some_same e = cc

-- what begins at the front
pub begins_some : (text : List ℕ) (t : TokenKind × ℕ) → Front text (Some t) → fits t.0 (take t.1 text) ≡ true → Begins text (Some t)
begins_some text t f e = (f, e, longest_some text t.0 t.1 f)

pub begins_large : (text : List ℕ) (t : TokenKind × ℕ) → gap_of text ≡ None → Front text (Some t) → fits t.0 (take t.1 text) ≡ false → Begins text None
begins_large text t g f e = λ p. out_of_range p text t.0 t.1 g f e

pub begins_none : (text : List ℕ) → 1 ≤ length text → gap_of text ≡ None → Front text None → Begins text None
begins_none [] h g f = absurd (omega arith)
begins_none (b ∷ bs) h g f = λ p. none_begins p b bs g f

-- one reading
kind_by : (k j : TokenKind) (t rest : List ℕ) → IsToken k t rest → IsToken j t rest → base k ≡ base j → k ≡ j
kind_by Identifier Identifier t rest a b e = refl
kind_by Identifier Keyword t rest a b e = absurd (true_false (sym b.1 ∙ a.1))
kind_by Keyword Identifier t rest a b e = absurd (true_false (sym a.1 ∙ b.1))
kind_by Keyword Keyword t rest a b e = refl
kind_by Integer Integer t rest a b e = refl
kind_by Character Character t rest a b e = refl
kind_by Str Str t rest a b e = refl
kind_by Punctuator Punctuator t rest a b e = refl
kind_by _ _ t rest a b e = cc

record Same (k j : TokenKind) (m n : ℕ) : Type 0 where
  kinds : k ≡ j
  sizes : m ≡ n

one_longest : (text : List ℕ) (k j : TokenKind) (m n : ℕ) → Longest k text m → Longest j text n → Same k j m n
one_longest text k j m n a b =
    let e : n ≡ m = le_antisymm (a.most j n b.within b.is) (b.most k m a.within a.is) in
    let P : ℕ → Type 0 = λ x. IsToken j (take x text) (drop x text) in
    record { kinds = kind_by k j _ _ a.is (subst P e b.is) (sym (classed_at k m text a.is) ∙ classed_at j n text b.is); sizes = sym e }

lexes_as : (p : Place) (text : List ℕ) (m n : ℕ) (ts : List Token) → m ≡ n → Lexes (after p (take m text)) (drop m text) ts → Lexes (after p (take n text)) (drop n text) ts
lexes_as p text m n ts e d = let P : ℕ → Type 0 = λ x. Lexes (after p (take x text)) (drop x text) ts in subst P e d

faults_as : (p : Place) (text : List ℕ) (m n at : ℕ) → m ≡ n → Faults (after p (take m text)) (drop m text) at → Faults (after p (take n text)) (drop n text) at
faults_as p text m n at e d = let P : ℕ → Type 0 = λ x. Faults (after p (take x text)) (drop x text) at in subst P e d

gap_not : (text : List ℕ) (n : ℕ) → gap_of text ≡ None → gap_of text ≡ Some n → ⊥
gap_not text n a b = none_some (sym a ∙ b)

gap_one : (text : List ℕ) (m n : ℕ) → gap_of text ≡ Some m → gap_of text ≡ Some n → n ≡ m
gap_one text m n a b = some_same (sym b ∙ a)

no_longest : (k : TokenKind) (n : ℕ) → Longest k [] n → ⊥
no_longest k n l = let s = longest_some [] k n l in let w = l.within in omega (arith, s, w)

fits_as : (text : List ℕ) (k j : TokenKind) (m n : ℕ) → Same k j m n → fits k (take m text) ≡ true → fits j (take n text) ≡ false → ⊥
fits_as text k j m n s a b = true_false (sym a ∙ ap₂ (λ x y. fits x (take y text)) s.kinds s.sizes ∙ b)

pub one_list : {p : Place} {text : List ℕ} {ts : List Token} → Lexes p text ts → {us : List Token} → Lexes p text us → ts ≡ us
one_list (ended p) (ended _) = refl
one_list (ended p) (gap _ _ n e d) = absurd (none_some e)
one_list (ended p) (token _ _ k n g l f d) = absurd (no_longest k n l)
one_list (gap p text n e d) (ended _) = absurd (none_some e)
one_list (gap p text n e d) (gap _ _ m e' d') = one_list d (lexes_as p text m n _ (gap_one text n m e e') d')
one_list (gap p text n e d) (token _ _ k m g l f d') = absurd (gap_not text n g e)
one_list (token p text k n g l f d) (ended _) = absurd (no_longest k n l)
one_list (token p text k n g l f d) (gap _ _ m e d') = absurd (gap_not text m g e)
one_list (token p text k n g l f d) (token _ _ j m g' l' f' d') =
    let s = one_longest text k j n m l l' in
    ap₂ (λ x ts. x ∷ ts) (ap₂ (λ x y. token_at x p y) s.kinds s.sizes) (one_list d (lexes_as p text m n _ (sym s.sizes) d'))

pub not_both : {p : Place} {text : List ℕ} {ts : List Token} → Lexes p text ts → {at : ℕ} → Faults p text at → ⊥
not_both (ended p) (out_of_range _ _ k n g l f) = no_longest k n l
not_both (ended p) (behind_gap _ _ n e d) = none_some e
not_both (ended p) (behind_token _ _ k n g l f d) = no_longest k n l
not_both (gap p text n e d) (none_begins _ b bs g none) = gap_not text n g e
not_both (gap p text n e d) (out_of_range _ _ k m g l f) = gap_not text n g e
not_both (gap p text n e d) (behind_gap _ _ m e' d') = not_both d (faults_as p text m n _ (gap_one text n m e e') d')
not_both (gap p text n e d) (behind_token _ _ k m g l f d') = gap_not text n g e
not_both (token p text k n g l f d) (none_begins _ b bs g' none) = none k n l.within l.is
not_both (token p text k n g l f d) (out_of_range _ _ j m g' l' f') = fits_as text k j n m (one_longest text k j n m l l') f f'
not_both (token p text k n g l f d) (behind_gap _ _ m e d') = gap_not text m g e
not_both (token p text k n g l f d) (behind_token _ _ j m g' l' f' d') = not_both d (faults_as p text m n _ (sym (one_longest text k j n m l l').sizes) d')

pub one_fault : {p : Place} {text : List ℕ} {a : ℕ} → Faults p text a → {b : ℕ} → Faults p text b → a ≡ b
one_fault (none_begins p c cs g none) (none_begins _ _ _ g' none') = refl
one_fault (none_begins p c cs g none) (out_of_range _ _ k n g' l f) = refl
one_fault (none_begins p c cs g none) (behind_gap _ _ n e d) = absurd (gap_not (c ∷ cs) n g e)
one_fault (none_begins p c cs g none) (behind_token _ _ k n g' l f d) = absurd (none k n l.within l.is)
one_fault (out_of_range p text k n g l f) (none_begins _ c cs g' none) = refl
one_fault (out_of_range p text k n g l f) (out_of_range _ _ j m g' l' f') = refl
one_fault (out_of_range p text k n g l f) (behind_gap _ _ m e d) = absurd (gap_not text m g e)
one_fault (out_of_range p text k n g l f) (behind_token _ _ j m g' l' f' d) = absurd (fits_as text j k m n (one_longest text j k m n l' l) f' f)
one_fault (behind_gap p text n e d) (none_begins _ c cs g none) = absurd (gap_not (c ∷ cs) n g e)
one_fault (behind_gap p text n e d) (out_of_range _ _ j m g' l' f') = absurd (gap_not text n g' e)
one_fault (behind_gap p text n e d) (behind_gap _ _ m e' d') = one_fault d (faults_as p text m n _ (gap_one text n m e e') d')
one_fault (behind_gap p text n e d) (behind_token _ _ j m g' l' f' d') = absurd (gap_not text n g' e)
one_fault (behind_token p text k n g l f d) (none_begins _ c cs g' none) = absurd (none k n l.within l.is)
one_fault (behind_token p text k n g l f d) (out_of_range _ _ j m g' l' f') = absurd (fits_as text k j n m (one_longest text k j n m l l') f f')
one_fault (behind_token p text k n g l f d) (behind_gap _ _ m e d') = absurd (gap_not text m g e)
one_fault (behind_token p text k n g l f d) (behind_token _ _ j m g' l' f' d') = one_fault d (faults_as p text m n _ (sym (one_longest text k j n m l l').sizes) d')
