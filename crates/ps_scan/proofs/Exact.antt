-- A token that a delimiter follows is read as it is.
use Rattle.std.proofs.Common.{◌≡◌, ℕ, ℤ, suc, ◌+◌, false, Option, Some, None, IsSome, IsNone, List, [], ◌∷◌, ◌++◌, length, take, refl, sym, ap, ◌∙◌, subst, inl, inr, option_map, arith, append_assoc, length-append, take_at}
use Rattle.ps_scan.specs.declared.token.PsKind.{PsKind}
use Rattle.ps_scan.specs.declared.token.PsKind.TheVariants.{Integer, Name, LiteralName, Str, Open, Close}
use Rattle.ps_scan.specs.Bytes.{is_white, is_special, is_regular, is_hexadecimal}
use Rattle.ps_scan.specs.Number.{value_of}
use Rattle.ps_scan.specs.Spans.{regular_len, string_end, hexadecimal_end}
use Rattle.ps_scan.specs.Token.{word_kind, word_at, twin_end, token_end}
use Rattle.ps_scan.specs.Grammar.{AllRegular, IsWord, IsBody, AllHexadecimal, IsBracket, IsToken, Delimits}
use Rattle.ps_scan.proofs.Longest.{body_passed, digits_passed}

-- what is read from a text that begins at `at`, with t in front of this, is t
abbrev Exact : PsKind → ℕ → List ℕ → List ℕ → Type 0
Exact kind at t more = token_end at (t ++ more) ≡ Some (kind, at + length t)

regular_exact : (t more : List ℕ) → AllRegular t → Delimits more → regular_len (t ++ more) ≡ length t
regular_exact [] [] h e = refl
regular_exact [] (b ∷ more) h e = rw e refl
regular_exact (x ∷ xs) more h e = rw h.0 (ap suc (regular_exact xs more h.1 e))

kind_integer : (o : Option ℤ) → IsSome o → (elim o [ Some n ↦ Integer | None ↦ Name ]) ≡ Integer
kind_integer (Some n) h = refl
kind_integer None h = cc

kind_name : (o : Option ℤ) → IsNone o → (elim o [ Some n ↦ Integer | None ↦ Name ]) ≡ Name
kind_name (Some n) h = cc
kind_name None h = refl

abbrev found : PsKind → ℕ → Option (PsKind × ℕ)
found kind end = Some (kind, end)

some_end : (kind : PsKind) (n m : ℕ) → n ≡ m → found kind n ≡ found kind m
some_end kind n m e = ap (found kind) e

word_exact : (kind : PsKind) (at : ℕ) (t more : List ℕ) → Delimits more → IsWord t → word_kind t ≡ kind → Exact kind at t more
word_exact kind at [] more e h k = absurd h
word_exact kind at (x ∷ xs) more e h k =
    let len : regular_len (x ∷ (xs ++ more)) ≡ length (x ∷ xs) = regular_exact (x ∷ xs) more h e in
    let all : take (regular_len (x ∷ (xs ++ more))) (x ∷ (xs ++ more)) ≡ x ∷ xs = take_at (x ∷ xs) more (regular_len (x ∷ (xs ++ more))) (sym len) in
    let first : token_end at (x ∷ (xs ++ more)) ≡ Some (word_at at (x ∷ (xs ++ more))) = rw h.0 refl in
    first
    ∙ ap (λ t. Some (word_kind t, at + regular_len (x ∷ (xs ++ more)))) all
    ∙ ap (λ n. Some (word_kind (x ∷ xs), at + n)) len
    ∙ ap (λ c. Some (c, at + length (x ∷ xs))) k

literal_exact : (at : ℕ) (name more : List ℕ) → Delimits more → AllRegular name → Exact LiteralName at (47 ∷ name) more
unfolding is_white is_special is_regular
literal_exact at name more e h = some_end LiteralName _ _ (let n = regular_exact name more h e in omega (arith, n))

string_exact : (at : ℕ) (body more : List ℕ) → IsBody body → Exact Str at (40 ∷ (body ++ 41 ∷ [])) more
unfolding is_white is_special is_regular
string_exact at body more h =
    ap (λ r. option_map {U = PsKind × ℕ} (λ end. (Str, end)) r) (ap (string_end (at + 1) 0 false) (append_assoc body (41 ∷ []) more) ∙ body_passed body h (at + 1) 0 (41 ∷ more))
    ∙ some_end Str _ _ (omega (arith, length-append body (41 ∷ [])))

hexadecimal_exact : (at : ℕ) (body more : List ℕ) → AllHexadecimal body → Exact Str at (60 ∷ (body ++ 62 ∷ [])) more
unfolding is_white is_special is_regular
hexadecimal_exact at body more h =
    ap (λ r. elim r [ Some end ↦ Some (Str, end) | None ↦ twin_end at 60 ((body ++ 62 ∷ []) ++ more) ])
    (ap (hexadecimal_end (at + 1)) (append_assoc body (62 ∷ []) more) ∙ digits_passed body h (at + 1) more)
    ∙ some_end Str _ _ (omega (arith, length-append body (62 ∷ [])))

bracket_exact : (at : ℕ) (t more : List ℕ) → IsBracket t → Exact Name at t more
unfolding is_white is_special is_regular is_hexadecimal
bracket_exact at t more (inl e) = let P : List ℕ → Type 0 = λ t. Exact Name at t more in subst P (sym e) refl
bracket_exact at t more (inr (inl e)) = let P : List ℕ → Type 0 = λ t. Exact Name at t more in subst P (sym e) refl
bracket_exact at t more (inr (inr (inl e))) = let P : List ℕ → Type 0 = λ t. Exact Name at t more in subst P (sym e) refl
bracket_exact at t more (inr (inr (inr e))) = let P : List ℕ → Type 0 = λ t. Exact Name at t more in subst P (sym e) refl

open_exact : (at : ℕ) (more : List ℕ) → Exact Open at (123 ∷ []) more
unfolding is_white is_special is_regular
open_exact at more = refl

close_exact : (at : ℕ) (more : List ℕ) → Exact Close at (125 ∷ []) more
unfolding is_white is_special is_regular
close_exact at more = refl

-- a token at the front, behind which a delimiter stands, is read, and ends there
pub token_exact : (kind : PsKind) (at : ℕ) (t more : List ℕ) → IsToken kind t → Delimits more → token_end at (t ++ more) ≡ Some (kind, at + length t)
token_exact Integer at t more h e = word_exact Integer at t more e h.0 (kind_integer (value_of t) h.1)
token_exact Name at t more (inl h) e = word_exact Name at t more e h.0 (kind_name (value_of t) h.1)
token_exact Name at t more (inr h) e = bracket_exact at t more h
token_exact LiteralName at t more h e = let P : List ℕ → Type 0 = λ t. Exact LiteralName at t more in subst P (sym h.1) (literal_exact at h.0 more e h.2)
token_exact Str at t more (inl h) e = let P : List ℕ → Type 0 = λ t. Exact Str at t more in subst P (sym h.1) (string_exact at h.0 more h.2)
token_exact Str at t more (inr h) e = let P : List ℕ → Type 0 = λ t. Exact Str at t more in subst P (sym h.1) (hexadecimal_exact at h.0 more h.2)
token_exact Open at t more h e = let P : List ℕ → Type 0 = λ t. Exact Open at t more in subst P (sym h) (open_exact at more)
token_exact Close at t more h e = let P : List ℕ → Type 0 = λ t. Exact Close at t more in subst P (sym h) (close_exact at more)
