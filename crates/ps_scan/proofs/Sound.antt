-- What is read is a token.
use Rattle.std.proofs.Common.{◌≡◌, ◌≢◌, ◌⊎◌, ℕ, ℤ, ◌||◌, zero, suc, ◌+◌, Bool, true, false, ◌==◌, if◌then◌else◌, ◌-◌, Option, Some, None, List, [], ◌∷◌, ◌++◌, length, refl, sym, ap, ◌∙◌, subst, inl, inr, arith, append_assoc, length-append, true≢false, unwrap_or, is_some, option_map, take}
use Rattle.ps_scan.specs.Number.{value_of}
use Rattle.std.proofs.lemmas.List.{take_at}
use Rattle.std.proofs.lemmas.Bool.Decides.{nat_tests}
use Rattle.ps_scan.specs.declared.token.PsKind.{PsKind}
use Rattle.ps_scan.specs.declared.token.PsKind.TheVariants.{Integer, Name, LiteralName, Str, Open, Close}
use Rattle.ps_scan.specs.Spans.{regular_len, string_end, hexadecimal_end}
use Rattle.ps_scan.specs.Token.{word_kind, word_at, twin_end, less_end, token_end}
use Rattle.ps_scan.specs.Bytes.{is_regular, is_hexadecimal}
use Rattle.ps_scan.specs.Grammar.{AllRegular, AllHexadecimal, IsBody, empty, plain, escaped, nested, IsToken, IsRead}

none_some : {X : Type 0} {x : X} → None ≡ Some x → ⊥
none_some {X} {x} h = true≢false (sym (ap is_some h))

-- a test's answer, where one is given by value
equal : (a b : ℕ) → (a == b) ≡ true → a ≡ b
equal a b h = grind (arith, nat_tests)

unequal : (a b : ℕ) → (a == b) ≡ false → a ≢ b
unequal a b h = λ e. absurd (true≢false (sym (eq_test a b e) ∙ h))
  where
    eq_test : (a b : ℕ) → a ≡ b → (a == b) ≡ true
    eq_test a b e = grind (arith, nat_tests)

same_some : {x y : ℕ} → Some x ≡ Some y → x ≡ y
same_some h = ap (λ o. unwrap_or o 0) h

-- what is left of a string with `d` more parentheses open
abbrev Closes : ℕ → List ℕ → Type 0
Closes zero t = (body : List ℕ) × (t ≡ body ++ 41 ∷ []) × IsBody body
Closes (suc d) t = (body : List ℕ) × (rest : List ℕ) × (t ≡ body ++ 41 ∷ rest) × IsBody body × Closes d rest

-- a part in front of it
in_front : (d : ℕ) (t front : List ℕ) → ((body : List ℕ) → IsBody body → IsBody (front ++ body)) → Closes d t → Closes d (front ++ t)
in_front zero t front grows c = (front ++ c.0, ap (λ xs. front ++ xs) c.1 ∙ sym (append_assoc front c.0 (41 ∷ [])), grows c.0 c.2)
in_front (suc d) t front grows c = (front ++ c.0, c.1, ap (λ xs. front ++ xs) c.2 ∙ sym (append_assoc front c.0 (41 ∷ c.1)), grows c.0 c.3, c.4)

-- an inner pair of parentheses in front of it
paired : (d : ℕ) (t : List ℕ) → Closes (suc d) t → Closes d (40 ∷ t)
paired zero t c = (40 ∷ (c.0 ++ 41 ∷ c.4.0), ap (λ xs. 40 ∷ xs) (c.2 ∙ ap (λ r. c.0 ++ 41 ∷ r) c.4.1 ∙ sym (append_assoc c.0 (41 ∷ c.4.0) (41 ∷ []))), nested c.0 c.4.0 c.3 c.4.2)
paired (suc d) t c = (40 ∷ (c.0 ++ 41 ∷ c.4.0), c.4.1, ap (λ xs. 40 ∷ xs) (c.2 ∙ ap (λ r. c.0 ++ 41 ∷ r) c.4.2 ∙ sym (append_assoc c.0 (41 ∷ c.4.0) (41 ∷ c.4.1))), nested c.0 c.4.0 c.3 c.4.3, c.4.4)

-- what the scan of a string read: the rest of the string, behind a byte that is escaped
record Scanned (at d end : ℕ) (bs : List ℕ) : Type 0 where
  text : List ℕ
  more : List ℕ
  whole : bs ≡ text ++ more
  closes : Closes d text
  ends : end ≡ at + length text

abbrev Behind : Bool → ℕ → ℕ → ℕ → List ℕ → Type 0
Behind false at d end bs = Scanned at d end bs
Behind true at d end bs = (b : ℕ) × (rest : List ℕ) × (bs ≡ b ∷ rest) × Scanned (at + 1) d end rest

-- one byte in front
one_more : (at n d end b : ℕ) (bs : List ℕ) (s : Scanned (at + 1) n end bs) → Closes d (b ∷ s.text) → Scanned at d end (b ∷ bs)
one_more at n d end b bs s c = record { text = b ∷ s.text; more = s.more; whole = ap (λ xs. b ∷ xs) s.whole; closes = c; ends = s.ends ∙ omega arith }

-- what follows a byte is scanned
abbrev Goes : List ℕ → Type 0
Goes bs = (at d end : ℕ) (flag : Bool) → string_end at d flag bs ≡ Some end → Behind flag at d end bs

closing : (b : ℕ) (bs : List ℕ) (at d end : ℕ) → Goes bs → b ≡ 41 → (if d == 0 then Some (at + 1) else string_end (at + 1) (d - 1) false bs) ≡ Some end → Scanned at d end (b ∷ bs)
closing b bs at zero end goes e g = record { text = 41 ∷ []; more = bs; whole = ap (λ x. x ∷ bs) e; closes = ([], refl, empty); ends = sym (same_some g) }
closing b bs at (suc d) end goes e g =
    let some : (suc d == 0) ≡ false = grind (arith, nat_tests) in
    let less : d ≡ suc d - 1 = omega arith in
    let after : string_end (at + 1) (suc d - 1) false bs ≡ Some end = rw some at g in
    let s = goes (at + 1) d end false (ap (λ n. string_end (at + 1) n false bs) less ∙ after) in
    one_more at d (suc d) end b bs s (subst (λ x. Closes (suc d) (x ∷ s.text)) (sym e) ([], s.text, refl, empty, s.closes))

close_here : (b : ℕ) (bs : List ℕ) (at d end : ℕ) → Goes bs → b ≢ 92 → b ≢ 40 → (v : Bool) → (b == 41) ≡ v
    → (if v then (if d == 0 then Some (at + 1) else string_end (at + 1) (d - 1) false bs) else string_end (at + 1) d false bs) ≡ Some end → Scanned at d end (b ∷ bs)
close_here b bs at d end goes p q true e g = closing b bs at d end goes (equal b 41 e) g
close_here b bs at d end goes p q false e g =
    let s = goes (at + 1) d end false g in
    one_more at d d end b bs s (in_front d s.text (b ∷ []) (λ body k. plain b body q (unequal b 41 e) p k) s.closes)

open_here : (b : ℕ) (bs : List ℕ) (at d end : ℕ) → Goes bs → b ≢ 92 → (v : Bool) → (b == 40) ≡ v
    → (if v then string_end (at + 1) (d + 1) false bs else if b == 41 then (if d == 0 then Some (at + 1) else string_end (at + 1) (d - 1) false bs) else string_end (at + 1) d false bs) ≡ Some end → Scanned at d end (b ∷ bs)
open_here b bs at d end goes p true e g =
    let s = goes (at + 1) (d + 1) end false g in
    let next : d + 1 ≡ suc d = omega arith in
    record {
      text = 40 ∷ s.text;
      more = s.more;
      whole = ap (λ x. x ∷ bs) (equal b 40 e) ∙ ap (λ xs. 40 ∷ xs) s.whole;
      closes = paired d s.text (subst (λ n. Closes n s.text) next s.closes);
      ends = s.ends ∙ omega arith;
    }
open_here b bs at d end goes p false e g = close_here b bs at d end goes p (unequal b 40 e) (b == 41) refl g

slash_here : (b : ℕ) (bs : List ℕ) (at d end : ℕ) → Goes bs → string_end at d false (b ∷ bs) ≡ Some end → (v : Bool) → (b == 92) ≡ v → Scanned at d end (b ∷ bs)
slash_here b bs at d end goes h true e =
    let g : string_end (at + 1) d true bs ≡ Some end = rw e at h in
    let s = goes (at + 1) d end true g in
    record {
      text = 92 ∷ s.0 ∷ s.3.text;
      more = s.3.more;
      whole = ap (λ x. x ∷ bs) (equal b 92 e) ∙ ap (λ xs. 92 ∷ xs) (s.2 ∙ ap (λ xs. s.0 ∷ xs) s.3.whole);
      closes = in_front d s.3.text (92 ∷ s.0 ∷ []) (λ body k. escaped s.0 body k) s.3.closes;
      ends = s.3.ends ∙ omega arith;
    }
slash_here b bs at d end goes h false e = open_here b bs at d end goes (unequal b 92 e) (b == 40) refl (rw e at h)

scanned : (bs : List ℕ) → Goes bs
scanned [] at d end true h = absurd (none_some h)
scanned [] at d end false h = absurd (none_some h)
scanned (b ∷ bs) at d end true h = (b, bs, refl, scanned bs (at + 1) d end false h)
scanned (b ∷ bs) at d end false h = slash_here b bs at d end (λ at d end flag g. scanned bs at d end flag g) h (b == 92) refl

-- the run of bytes of a name at the front
record Run (bs : List ℕ) : Type 0 where
  text : List ℕ
  more : List ℕ
  whole : bs ≡ text ++ more
  all : AllRegular text
  len : regular_len bs ≡ length text

run_more : (b : ℕ) (bs : List ℕ) → Run bs → (v : Bool) → is_regular b ≡ v → Run (b ∷ bs)
run_more b bs r true e = record { text = b ∷ r.text; more = r.more; whole = ap (λ xs. b ∷ xs) r.whole; all = (e, r.all); len = rw e (ap suc r.len) }
run_more b bs r false e = record { text = []; more = b ∷ bs; whole = refl; all = tt; len = rw e refl }

run : (bs : List ℕ) → Run bs
run [] = record { text = []; more = []; whole = refl; all = tt; len = refl }
run (b ∷ bs) = run_more b bs (run bs) (is_regular b) refl

-- a token's kind and end
abbrev found : PsKind → ℕ → Option (PsKind × ℕ)
found kind end = Some (kind, end)

-- a kind and an end that are given are those
abbrev kind_of : Option (PsKind × ℕ) → PsKind
kind_of None = Name
kind_of (Some p) = p.0

abbrev end_of : Option (PsKind × ℕ) → ℕ
end_of None = 0
end_of (Some p) = p.1

-- one that begins with a byte of a name
word_read : (at b : ℕ) (bs : List ℕ) (kind : PsKind) (end : ℕ) → is_regular b ≡ true → found (word_at at (b ∷ bs)).0 (word_at at (b ∷ bs)).1 ≡ found kind end → IsRead at (b ∷ bs) kind end
word_read at b bs kind end e h = by (value_of word) refl
  where
    r : Run bs
    r = run bs

    word : List ℕ
    word = b ∷ r.text

    len : regular_len (b ∷ bs) ≡ length word
    len = rw e (ap suc r.len)

    whole : b ∷ bs ≡ word ++ r.more
    whole = ap (λ xs. b ∷ xs) r.whole

    taken : take (regular_len (b ∷ bs)) (b ∷ bs) ≡ word
    taken = ap (λ xs. take (regular_len (b ∷ bs)) xs) whole ∙ take_at word r.more (regular_len (b ∷ bs)) (sym len)

    kind_is : word_kind word ≡ kind
    kind_is = sym (ap word_kind taken) ∙ ap kind_of h

    end_is : end ≡ at + length word
    end_is = sym (ap end_of h) ∙ ap (λ n. at + n) len

    by : (v : Option ℤ) → value_of word ≡ v → IsRead at (b ∷ bs) kind end
    by (Some n) q = record { text = word; more = r.more; whole = whole; token = subst (λ k. IsToken k word) (sym (ap (λ v. elim v [ Some n ↦ Integer | None ↦ Name ]) q) ∙ kind_is) ((e, r.all), ap is_some q); ends = end_is }
    by None q = record { text = word; more = r.more; whole = whole; token = subst (λ k. IsToken k word) (sym (ap (λ v. elim v [ Some n ↦ Integer | None ↦ Name ]) q) ∙ kind_is) (inl ((e, r.all), ap is_some q)); ends = end_is }

-- one whose text is known
known : (at b : ℕ) (bs text more : List ℕ) (k kind : PsKind) (n end : ℕ) → found k n ≡ found kind end → b ∷ bs ≡ text ++ more → IsToken k text → n ≡ at + length text → IsRead at (b ∷ bs) kind end
known at b bs text more k kind n end h whole token ends = record {
  text = text;
  more = more;
  whole = whole;
  token = subst (λ k. IsToken k text) (ap kind_of h) token;
  ends = sym (ap end_of h) ∙ ends;
}

literal_read : (at b : ℕ) (bs : List ℕ) (kind : PsKind) (end : ℕ) → b ≡ 47 → found LiteralName (at + 1 + regular_len bs) ≡ found kind end → IsRead at (b ∷ bs) kind end
literal_read at b bs kind end e h =
    let r = run bs in
    known at b bs (47 ∷ r.text) r.more LiteralName kind (at + 1 + regular_len bs) end h
    (ap (λ x. x ∷ bs) e ∙ ap (λ xs. 47 ∷ xs) r.whole) (r.text, refl, r.all) (ap (λ n. at + 1 + n) r.len ∙ omega arith)

string_read : (at b : ℕ) (bs : List ℕ) (kind : PsKind) (end : ℕ) → b ≡ 40 → (o : Option ℕ) → string_end (at + 1) 0 false bs ≡ o → option_map {U = PsKind × ℕ} (λ end. (Str, end)) o ≡ found kind end → IsRead at (b ∷ bs) kind end
string_read at b bs kind end e None q h = absurd (none_some h)
string_read at b bs kind end e (Some n) q h =
    let s = scanned bs (at + 1) 0 n false q in
    known at b bs (40 ∷ s.text) s.more Str kind n end h
    (ap (λ x. x ∷ bs) e ∙ ap (λ xs. 40 ∷ xs) s.whole) (inl (s.closes.0, ap (λ xs. 40 ∷ xs) s.closes.1, s.closes.2)) (s.ends ∙ omega arith)

-- the digits of a hexadecimal string and its bracket
record Digits (at end : ℕ) (bs : List ℕ) : Type 0 where
  body : List ℕ
  more : List ℕ
  whole : bs ≡ (body ++ 62 ∷ []) ++ more
  all : AllHexadecimal body
  ends : end ≡ at + length body + 1

bracket_here : (b : ℕ) (bs : List ℕ) (at end : ℕ) (v : Bool) → (b == 62) ≡ v → (if v then Some (at + 1) else None) ≡ Some end → Digits at end (b ∷ bs)
bracket_here b bs at end true e g = record { body = []; more = bs; whole = ap (λ x. x ∷ bs) (equal b 62 e); all = tt; ends = sym (same_some g) ∙ omega arith }
bracket_here b bs at end false e g = absurd (none_some g)

digits_more : (b : ℕ) (bs : List ℕ) (at end : ℕ) → (hexadecimal_end (at + 1) bs ≡ Some end → Digits (at + 1) end bs) → hexadecimal_end at (b ∷ bs) ≡ Some end
    → (v : Bool) → is_hexadecimal b ≡ v → Digits at end (b ∷ bs)
digits_more b bs at end rest h true e =
    let d = rest (rw e at h) in
    record { body = b ∷ d.body; more = d.more; whole = ap (λ xs. b ∷ xs) d.whole; all = (e, d.all); ends = d.ends ∙ omega arith }
digits_more b bs at end rest h false e = bracket_here b bs at end (b == 62) refl (rw e at h)

digits : (bs : List ℕ) (at end : ℕ) → hexadecimal_end at bs ≡ Some end → Digits at end bs
digits [] at end h = absurd (none_some h)
digits (b ∷ bs) at end h = digits_more b bs at end (λ g. digits bs (at + 1) end g) h (is_hexadecimal b) refl

twin_read : (at b : ℕ) (bs : List ℕ) (kind : PsKind) (end : ℕ) → (b ≡ 60) ⊎ (b ≡ 62) → twin_end at b bs ≡ found kind end → IsRead at (b ∷ bs) kind end
twin_read at b [] kind end e h = absurd (none_some h)
twin_read at b (c ∷ bs) kind end e h = by (c == b) refl
  where
    two : (b ≡ 60) ⊎ (b ≡ 62) → c ≡ b → found Name (at + 2) ≡ found kind end → IsRead at (b ∷ c ∷ bs) kind end
    two (inl e) q g = known at b (c ∷ bs) (60 ∷ 60 ∷ []) bs Name kind (at + 2) end g (ap (λ x. b ∷ x ∷ bs) q ∙ ap (λ x. x ∷ x ∷ bs) e) (inr (inr (inr (inl refl)))) refl
    two (inr e) q g = known at b (c ∷ bs) (62 ∷ 62 ∷ []) bs Name kind (at + 2) end g (ap (λ x. b ∷ x ∷ bs) q ∙ ap (λ x. x ∷ x ∷ bs) e) (inr (inr (inr (inr refl)))) refl

    by : (v : Bool) → (c == b) ≡ v → IsRead at (b ∷ c ∷ bs) kind end
    by true q = two e (equal c b q) (rw q at h)
    by false q = absurd (none_some (rw q at h))

less_read : (at b : ℕ) (bs : List ℕ) (kind : PsKind) (end : ℕ) → b ≡ 60 → (o : Option ℕ) → hexadecimal_end (at + 1) bs ≡ o → (elim o [ Some end ↦ found Str end | None ↦ twin_end at 60 bs ]) ≡ found kind end → IsRead at (b ∷ bs) kind end
less_read at b bs kind end e (Some n) q h =
    let d = digits bs (at + 1) n q in
    known at b bs (60 ∷ (d.body ++ 62 ∷ [])) d.more Str kind n end h
    (ap (λ x. x ∷ bs) e ∙ ap (λ xs. 60 ∷ xs) d.whole) (inr (d.body, refl, d.all)) (d.ends ∙ omega (arith, length-append d.body (62 ∷ [])))
less_read at b bs kind end e None q h = twin_read at b bs kind end (inl e) (subst (λ x. twin_end at x bs ≡ found kind end) (sym e) h)

-- what is read is a token
pub token_read : (at : ℕ) (bs : List ℕ) (kind : PsKind) (end : ℕ) → token_end at bs ≡ found kind end → IsRead at bs kind end
token_read at [] kind end h = absurd (none_some h)
token_read at (b ∷ bs) kind end h = regular (is_regular b) refl
  where
    Rest : Type 0
    Rest = IsRead at (b ∷ bs) kind end

    greater : (v : Bool) → (b == 62) ≡ v → (if v then twin_end at b bs else None) ≡ found kind end → Rest
    greater true e g = twin_read at b bs kind end (inr (equal b 62 e)) g
    greater false e g = absurd (none_some g)

    less : (v : Bool) → (b == 60) ≡ v → (if v then less_end at bs else if b == 62 then twin_end at b bs else None) ≡ found kind end → Rest
    less true e g = less_read at b bs kind end (equal b 60 e) (hexadecimal_end (at + 1) bs) refl g
    less false e g = greater (b == 62) refl g

    string : (v : Bool) → (b == 40) ≡ v → (if v then option_map {U = PsKind × ℕ} (λ end. (Str, end)) (string_end (at + 1) 0 false bs) else if b == 60 then less_end at bs else if b == 62 then twin_end at b bs else None) ≡ found kind end → Rest
    string true e g = string_read at b bs kind end (equal b 40 e) (string_end (at + 1) 0 false bs) refl g
    string false e g = less (b == 60) refl g

    literal : (v : Bool) → (b == 47) ≡ v → (if v then found LiteralName (at + 1 + regular_len bs) else if b == 40 then option_map {U = PsKind × ℕ} (λ end. (Str, end)) (string_end (at + 1) 0 false bs) else if b == 60 then less_end at bs else if b == 62 then twin_end at b bs else None) ≡ found kind end → Rest
    literal true e g = literal_read at b bs kind end (equal b 47 e) g
    literal false e g = string (b == 40) refl g

    bracket : (v w : Bool) → (b == 91) ≡ v → (b == 93) ≡ w → (if v || w then found Name (at + 1) else if b == 47 then found LiteralName (at + 1 + regular_len bs) else if b == 40 then option_map {U = PsKind × ℕ} (λ end. (Str, end)) (string_end (at + 1) 0 false bs) else if b == 60 then less_end at bs else if b == 62 then twin_end at b bs else None) ≡ found kind end → Rest
    bracket true w e f g = known at b bs (91 ∷ []) bs Name kind (at + 1) end g (ap (λ x. x ∷ bs) (equal b 91 e)) (inr (inl refl)) refl
    bracket false true e f g = known at b bs (93 ∷ []) bs Name kind (at + 1) end g (ap (λ x. x ∷ bs) (equal b 93 f)) (inr (inr (inl refl))) refl
    bracket false false e f g = literal (b == 47) refl g

    close : (v : Bool) → (b == 125) ≡ v → (if v then found Close (at + 1) else if b == 91 || b == 93 then found Name (at + 1) else if b == 47 then found LiteralName (at + 1 + regular_len bs) else if b == 40 then option_map {U = PsKind × ℕ} (λ end. (Str, end)) (string_end (at + 1) 0 false bs) else if b == 60 then less_end at bs else if b == 62 then twin_end at b bs else None) ≡ found kind end → Rest
    close true e g = known at b bs (125 ∷ []) bs Close kind (at + 1) end g (ap (λ x. x ∷ bs) (equal b 125 e)) refl refl
    close false e g = bracket (b == 91) (b == 93) refl refl g

    open_ : (v : Bool) → (b == 123) ≡ v → (if v then found Open (at + 1) else if b == 125 then found Close (at + 1) else if b == 91 || b == 93 then found Name (at + 1) else if b == 47 then found LiteralName (at + 1 + regular_len bs) else if b == 40 then option_map {U = PsKind × ℕ} (λ end. (Str, end)) (string_end (at + 1) 0 false bs) else if b == 60 then less_end at bs else if b == 62 then twin_end at b bs else None) ≡ found kind end → Rest
    open_ true e g = known at b bs (123 ∷ []) bs Open kind (at + 1) end g (ap (λ x. x ∷ bs) (equal b 123 e)) refl refl
    open_ false e g = close (b == 125) refl g

    regular : (v : Bool) → is_regular b ≡ v → Rest
    regular true e =
        let first : token_end at (b ∷ bs) ≡ found (word_at at (b ∷ bs)).0 (word_at at (b ∷ bs)).1 = rw e refl in
        word_read at b bs kind end e (sym first ∙ h)
    regular false e = open_ (b == 123) refl (rw e at h)
