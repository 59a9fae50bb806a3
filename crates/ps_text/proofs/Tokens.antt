-- The next token of a text, and the object that it makes.
use Rattle.std.proofs.Common.{◌≡◌, ◌≢◌, ℕ, ℤ, zero, suc, ◌+◌, ◌-◌, ◌<◌, ◌≤◌, Bool, true, false, ◌==◌, nat_le, nat_lt, if◌then◌else◌, Option, Some, None, Result, Ok, Err, List, [], ◌∷◌, ◌++◌, length, take, drop, refl, sym, ap, ◌∙◌, subst, inl, inr, drop-drop, drop_at, arith, length-append, length-drop, take_at, le-leb, le-ltb, ne_eqb, append_assoc}
use Rattle.std.proofs.lemmas.Bool.Decides.{nat_tests}
use Rattle.ps_scan.specs.declared.token.PsKind.{PsKind}
use Rattle.ps_scan.specs.declared.token.PsKind.TheVariants.{Integer, Name as WordKind, LiteralName, Str as TextKind, Open, Close}
use Rattle.ps_scan.specs.declared.token.PsToken.{PsToken}
use Rattle.ps_scan.specs.declared.token.SyntaxError.{SyntaxError}
use Rattle.ps_scan.specs.Bytes.{is_white, is_special, is_regular}
use Rattle.ps_scan.specs.Spans.{blank_len}
use Rattle.ps_scan.specs.Token.{token_end, token_from, next_token_of}
use Rattle.ps_scan.specs.Grammar.{IsWord, IsBracket, IsToken, Delimits}
use Rattle.ps_store.specs.declared.object.PsObj.{PsObj}
use Rattle.ps_store.specs.declared.object.StringId.{StringId}
use Rattle.ps_store.specs.StoreState.{StoreState}
use Rattle.ps_store.specs.Store.{bytes_of}
use Rattle.ps_step.specs.declared.fault.PsError.TheVariants.{SyntaxError as BadSyntax}
use Rattle.ps_run.specs.Scan.{Read, Bad, word_of, read_token, ended, reading}
use Rattle.ps_text.specs.Reading.{Lead, bare, space}
use Rattle.ps_scan.proofs.Exact.{token_exact}

space_delimits : (rest : List ℕ) → Delimits (32 ∷ rest)
unfolding is_regular is_white
space_delimits rest = refl

abbrev pub token : PsKind → ℕ → ℕ → PsToken
token kind from len = record { kind = kind; from = from; to = from + len }

-- A token stands behind so many blanks from a place of a text on, and a space behind it.
pub record Stands (text : List ℕ) (at skip : ℕ) (kind : PsKind) (word rest : List ℕ) : Type 0 where
  pub blanks : blank_len false (drop at text) ≡ skip
  pub here : drop (at + skip) text ≡ word ++ 32 ∷ rest
  pub is : IsToken kind word

module _ (text : List ℕ) (at skip : ℕ) (kind : PsKind) (word rest : List ℕ) (h : Stands text at skip kind word rest) where
  left_len : length text - (at + skip) ≡ length word + suc (length rest)
  left_len = sym (length-drop (at + skip) text) ∙ ap length h.here ∙ length-append word (32 ∷ rest)

  pub within : at + skip + length word < length text
  within = let e = left_len in omega arith

  pub token_next : next_token_of text at ≡ Ok (Some (token kind (at + skip) (length word)))
  token_next =
      let more : (at + skip == length text) ≡ false = ne_eqb _ _ (λ e. let l = within in omega arith) in
      let read : token_end (at + skip) (drop (at + skip) text) ≡ Some (kind, at + skip + length word) =
      ap (token_end (at + skip)) h.here ∙ token_exact kind (at + skip) word (32 ∷ rest) h.is (space_delimits rest) in
      ap (λ n. token_from text (at + n)) h.blanks ∙ rw (more, read) refl

  pub word_is : word_of text (token kind (at + skip) (length word)) ≡ word
  word_is =
      let n : at + skip + length word - (at + skip) ≡ length word = omega arith in
      ap (λ k. take k (drop (at + skip) text)) n ∙ ap (take (length word)) h.here ∙ take_at word (32 ∷ rest) (length word) refl

  pub token_read : (s : StoreState) (t : StringId) (xs : List PsObj) → bytes_of s t ≡ text
      → reading s t xs at ≡ read_token s text xs (token kind (at + skip) (length word))
  token_read s t xs e =
      let behind : nat_lt (length text) at ≡ false = le-ltb (length text) at (let l = within in omega arith) in
      ap (λ bytes. if nat_lt (length bytes) at then Bad BadSyntax s
      else elim (next_token_of bytes at) [
        | Err e ↦ Bad BadSyntax s
        | Ok found ↦ elim found [ None ↦ ended s xs | Some token ↦ read_token s bytes xs token ]
      ]) e
      ∙ rw (behind, token_next) refl

-- ---- blanks

not_percent : is_regular 37 ≡ true → ⊥
unfolding is_regular is_special is_white
not_percent e = cc

white_special : (b : ℕ) → is_regular b ≡ true → (v w : Bool) → (b == 37) ≡ v → is_white b ≡ w → (v ≡ false) × (w ≡ false)
unfolding is_regular is_special
white_special b r true w p q =
    let same : b ≡ 37 = grind (arith, nat_tests) in
    absurd (not_percent (subst (λ x. is_regular x ≡ true) same r))
white_special b r false true p q = absurd (let e = rw q at r in cc)
white_special b r false false p q = (refl, refl)

-- no blank stands before a byte that may stand in a name
pub regular_first : (b : ℕ) (bs : List ℕ) → is_regular b ≡ true → blank_len false (b ∷ bs) ≡ 0
regular_first b bs r = let p = white_special b r (b == 37) (is_white b) refl refl in rw (p.0, p.1) refl

pub space_first : (bs : List ℕ) (n : ℕ) → blank_len false bs ≡ n → blank_len false (32 ∷ bs) ≡ suc n
unfolding is_white
space_first bs n e = ap suc e

-- nor before one of /({}
pub special_first : (bs : List ℕ) → (blank_len false (47 ∷ bs) ≡ 0) × (blank_len false (40 ∷ bs) ≡ 0) × (blank_len false (123 ∷ bs) ≡ 0) × (blank_len false (125 ∷ bs) ≡ 0)
unfolding is_white
special_first bs = (refl, refl, refl, refl)

pub bracket_first : (bs : List ℕ) → (blank_len false (91 ∷ bs) ≡ 0) × (blank_len false (93 ∷ bs) ≡ 0) × (blank_len false (60 ∷ bs) ≡ 0) × (blank_len false (62 ∷ bs) ≡ 0)
unfolding is_white
bracket_first bs = (refl, refl, refl, refl)

word_first : (t more : List ℕ) → IsWord t → blank_len false (t ++ more) ≡ 0
word_first [] more h = absurd h
word_first (b ∷ bs) more h = regular_first b (bs ++ more) h.0

bracket_blank : (t more : List ℕ) → IsBracket t → blank_len false (t ++ more) ≡ 0
bracket_blank t more (inl e) = subst (λ t. blank_len false (t ++ more) ≡ 0) (sym e) (bracket_first more).0
bracket_blank t more (inr (inl e)) = subst (λ t. blank_len false (t ++ more) ≡ 0) (sym e) (bracket_first more).1
bracket_blank t more (inr (inr (inl e))) = subst (λ t. blank_len false (t ++ more) ≡ 0) (sym e) (bracket_first (60 ∷ more)).2
bracket_blank t more (inr (inr (inr e))) = subst (λ t. blank_len false (t ++ more) ≡ 0) (sym e) (bracket_first (62 ∷ more)).3

-- a token begins with no blank
pub token_first : (kind : PsKind) (t more : List ℕ) → IsToken kind t → blank_len false (t ++ more) ≡ 0
token_first Integer t more h = word_first t more h.0
token_first WordKind t more (inl h) = word_first t more h.0
token_first WordKind t more (inr h) = bracket_blank t more h
token_first LiteralName t more h = subst (λ t. blank_len false (t ++ more) ≡ 0) (sym h.1) (special_first (h.0 ++ more)).0
token_first TextKind t more (inl h) = subst (λ t. blank_len false (t ++ more) ≡ 0) (sym h.1) (special_first ((h.0 ++ 41 ∷ []) ++ more)).1
token_first TextKind t more (inr h) = subst (λ t. blank_len false (t ++ more) ≡ 0) (sym h.1) (bracket_first ((h.0 ++ 62 ∷ []) ++ more)).2
token_first Open t more h = subst (λ t. blank_len false (t ++ more) ≡ 0) (sym h) (special_first more).2
token_first Close t more h = subst (λ t. blank_len false (t ++ more) ≡ 0) (sym h) (special_first more).3

pub stands : (g : List ℕ) → Lead g → (text : List ℕ) (at : ℕ) (kind : PsKind) (word rest : List ℕ) → drop at text ≡ g ++ (word ++ 32 ∷ rest) → IsToken kind word
    → Stands text at (length g) kind word rest
stands _ bare text at kind word rest e h = record {
  blanks = ap (blank_len false) e ∙ token_first kind word (32 ∷ rest) h;
  here = ap (λ n. drop n text) (omega arith) ∙ e;
  is = h;
}
stands _ space text at kind word rest e h = record {
  blanks = ap (blank_len false) e ∙ space_first (word ++ 32 ∷ rest) 0 (token_first kind word (32 ∷ rest) h);
  here = sym (drop-drop 1 at text) ∙ ap (drop 1) e;
  is = h;
}

-- what is behind the token
pub behind_token : (text : List ℕ) (at skip : ℕ) (kind : PsKind) (word rest : List ℕ) → Stands text at skip kind word rest
    → drop (at + skip + length word) text ≡ 32 ∷ rest
behind_token text at skip kind word rest h = sym (drop-drop (length word) (at + skip) text) ∙ ap (drop (length word)) h.here ∙ drop_at word (32 ∷ rest) (length word) refl
