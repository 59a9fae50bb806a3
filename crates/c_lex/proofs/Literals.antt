-- Literals are read item by item, and in one way.
use Rattle.std.proofs.Common.{◌≡◌, ℕ, pos, zero, suc, ◌+◌, ◌*◌, ◌-◌, ◌≤◌, ◌<◌, Bool, true, false, nat_le, ◌==◌, ◌&&◌, ◌||◌, not, List, [], ◌∷◌, ◌++◌, length, drop, Option, Some, None, IfSome, refl, sym, ◌∙◌, ap, subst, le-leb, leb-true, arith, length-append, length-drop, append_assoc, append-nil}
use Rattle.std.specs.Prelude.{if◌then◌else◌}
use Rattle.std.proofs.lemmas.Bool.{eqb-true, eq-eqb}
use Rattle.std.proofs.lemmas.Bool.Decides.{nat_tests}
use Rattle.std.proofs.Math.Seq.{drop-append_seam}
use Rattle.std.proofs.lemmas.List.{drop-drop, drop_all}
use Rattle.c_lex.specs.Bytes.{is_octal, is_hex, digit_of, lookup, starts_with}
use Rattle.c_lex.specs.Literals.{is_trigraph, escapes, starts, IsItem, plain, escape, octal_one, octal_two, octal_three, hex_one, hex_two, Literal, ends, item, hex_last, hex_item, octal_last, octal_item, escaped, escape_item, item_of, IsClosed, IsOne, values_of, character_of, signed_char}

abbrev pub Found : Type 0
Found = Option (ℕ × ℕ)

pub true_false : true ≡ false → ⊥
true_false e = cc

pub same : (b : ℕ) → (b == b) ≡ true
same b = eq-eqb b b refl

-- choices
pub when_true : {A : Type 0} (b : Bool) (x y : A) → b ≡ true → (if b then x else y) ≡ x
when_true true x y e = refl
when_true false x y e = absurd (true_false (sym e))

pub either_empty : (b : Bool) (l : List ℕ) → l ≡ [] → (if b then [] else l) ≡ []
either_empty true l e = refl
either_empty false l e = e

pub refl_false : (b : Bool) → b ≡ false → b ≡ false
refl_false b e = e

pub when_false : {A : Type 0} (b : Bool) (x y : A) → b ≡ false → (if b then x else y) ≡ y
when_false true x y e = absurd (true_false e)
when_false false x y e = refl

pub and_left : (a b : Bool) → (a && b) ≡ true → a ≡ true
and_left true b e = refl
and_left false b e = e

pub and_right : (a b : Bool) → (a && b) ≡ true → b ≡ true
and_right true b e = e
and_right false b e = absurd (true_false (sym e))

pub or_left : (a b : Bool) → (a || b) ≡ false → a ≡ false
or_left true b e = e
or_left false b e = refl

pub or_right : (a b : Bool) → (a || b) ≡ false → b ≡ false
or_right true b e = absurd (true_false e)
or_right false b e = e

pub neither : (a b : Bool) → a ≡ false → b ≡ false → (a || b) ≡ false
neither true b e f = e
neither false b e f = f

pub not_true : (b : Bool) → not b ≡ true → b ≡ false
not_true true e = absurd (true_false (sym e))
not_true false e = refl

-- what holds of each row of a table holds of a byte that it has
abbrev pub all_rows : {V : Type 0} → (ℕ → Bool) → List (ℕ × V) → Bool
all_rows T [] = true
all_rows T (row ∷ rows) = T row.0 && all_rows T rows

lookup_row : {V : Type 0} (T : ℕ → Bool) (row : ℕ × V) (b : ℕ) (v : V) (more : Option V) → T row.0 ≡ true → (more ≡ Some v → T b ≡ true) → (w : Bool) → (b == row.0) ≡ w
    → (if w then Some row.1 else more) ≡ Some v → T b ≡ true
lookup_row T row b v more h ih true e k = ap T (eqb-true b row.0 e) ∙ h
lookup_row T row b v more h ih false e k = ih k

pub lookup_test : {V : Type 0} (T : ℕ → Bool) (rows : List (ℕ × V)) → all_rows T rows ≡ true → (b : ℕ) (v : V) → lookup rows b ≡ Some v → T b ≡ true
lookup_test T [] h b v e = cc
lookup_test T (row ∷ rows) h b v e = lookup_row T row b v (lookup rows b) (and_left _ _ h) (λ k. lookup_test T rows (and_right _ _ h) b v k) (b == row.0) refl e

-- an escape is no octal digit and no x
simple_test : ℕ → Bool
simple_test b = not (is_octal b) && not (b == 120)

simple_escapes : (b v : ℕ) → lookup escapes b ≡ Some v → (is_octal b ≡ false) × ((b == 120) ≡ false)
unfolding simple_test
simple_escapes b v e =
    let t = lookup_test simple_test escapes refl b v e in
    (not_true _ (and_left _ _ t), not_true _ (and_right _ _ t))

octal_stops : (v : ℕ) (next : List ℕ) → starts is_octal next ≡ false → octal_item v next ≡ Some (2, v)
octal_stops v [] e = refl
octal_stops v (b ∷ s) e = when_false _ _ _ e

octal_ends : (v : ℕ) (next : List ℕ) → starts is_octal next ≡ false → octal_last v next ≡ Some (3, v)
octal_ends v [] e = refl
octal_ends v (b ∷ s) e = when_false _ _ _ e

hex_stops : (v : ℕ) (next : List ℕ) → starts is_hex next ≡ false → hex_last v next ≡ (3, v)
hex_stops v [] e = refl
hex_stops v (b ∷ s) e = when_false _ _ _ e

-- an item is read
pub item_is : (q : ℕ) {i : List ℕ} {v : ℕ} {next : List ℕ} → IsItem q i v next → item_of q (i ++ next) ≡ Some (length i, v)
item_is q (plain c next e eq en et) =
    when_false (c == 92) _ _ e ∙ when_false ((c == q || c == 10) || is_trigraph (c ∷ next)) _ _ (neither _ _ (neither _ _ eq en) et)
item_is q (escape c v next e et) =
    let s = simple_escapes c v e in
    when_false (is_octal c) _ _ s.0 ∙ when_false (c == 120) _ _ s.1 ∙ ap (λ o. escaped o (c ∷ next)) e ∙ when_false (is_trigraph (c ∷ next)) _ _ et
item_is q (octal_one a next o e) = when_true (is_octal a) _ _ o ∙ octal_stops (a - 48) next e
item_is q (octal_two a b next oa ob e) = when_true (is_octal a) _ _ oa ∙ when_true (is_octal b) _ _ ob ∙ octal_ends _ next e
item_is q (octal_three a b c next oa ob oc le) =
    when_true (is_octal a) _ _ oa ∙ when_true (is_octal b) _ _ ob ∙ when_true (is_octal c) _ _ oc ∙ when_true _ _ _ (le-leb _ 255 le)
item_is q (hex_one a next h e) = when_true (is_hex a) _ _ h ∙ ap Some (hex_stops (digit_of a) next e)
item_is q (hex_two a b next ha hb) = when_true (is_hex a) _ _ ha ∙ ap Some (when_true (is_hex b) _ _ hb)

-- what is read is an item
pub data Read (q : ℕ) (text : List ℕ) : Found → Type 0 where
  nothing : Read q text None
  something : (i next : List ℕ) (v n : ℕ) → text ≡ i ++ next → n ≡ length i → IsItem q i v next → Read q text (Some (n, v))

choose : (q : ℕ) (text : List ℕ) (b : Bool) (x y : Found) → (b ≡ true → Read q text x) → (b ≡ false → Read q text y) → Read q text (if b then x else y)
choose q text true x y f g = f refl
choose q text false x y f g = g refl

read_octal_last : (q a b : ℕ) (s : List ℕ) → is_octal a ≡ true → is_octal b ≡ true → Read q (92 ∷ a ∷ b ∷ s) (octal_last ((a - 48) * 8 + (b - 48)) s)
read_octal_last q a b [] oa ob = something (92 ∷ a ∷ b ∷ []) [] _ _ refl refl (octal_two a b [] oa ob refl)
read_octal_last q a b (c ∷ s) oa ob =
    choose q _ (is_octal c) _ _
    (λ oc. choose q _ (nat_le (((a - 48) * 8 + (b - 48)) * 8 + (c - 48)) 255) _ _ (λ le. something (92 ∷ a ∷ b ∷ c ∷ []) s _ _ refl refl (octal_three a b c s oa ob oc (leb-true _ _ le))) (λ _. nothing))
    (λ e. something (92 ∷ a ∷ b ∷ []) (c ∷ s) _ _ refl refl (octal_two a b (c ∷ s) oa ob e))

read_octal : (q a : ℕ) (s : List ℕ) → is_octal a ≡ true → Read q (92 ∷ a ∷ s) (octal_item (a - 48) s)
read_octal q a [] oa = something (92 ∷ a ∷ []) [] _ _ refl refl (octal_one a [] oa refl)
read_octal q a (b ∷ s) oa =
    choose q _ (is_octal b) _ _ (λ ob. read_octal_last q a b s oa ob) (λ e. something (92 ∷ a ∷ []) (b ∷ s) _ _ refl refl (octal_one a (b ∷ s) oa e))

abbrev hex_pair : ℕ → ℕ → ℕ × ℕ
hex_pair n v = (n, v)

some_if : (b : Bool) (x y : ℕ × ℕ) → (if b then Some x else Some y) ≡ Some (if b then x else y)
some_if true x y = refl
some_if false x y = refl

read_hex : (q : ℕ) (s : List ℕ) → Read q (92 ∷ 120 ∷ s) (hex_item s)
read_hex q [] = nothing
read_hex q (a ∷ []) = choose q _ (is_hex a) _ _ (λ h. something (92 ∷ 120 ∷ a ∷ []) [] _ _ refl refl (hex_one a [] h refl)) (λ _. nothing)
read_hex q (a ∷ b ∷ s) =
    choose q _ (is_hex a) _ _
    (λ ha. let P : Found → Type 0 = λ o. Read q (92 ∷ 120 ∷ a ∷ b ∷ s) o in
    subst P (some_if (is_hex b) (hex_pair 4 (digit_of a * 16 + digit_of b)) (hex_pair 3 (digit_of a)))
    (choose q _ (is_hex b) _ _ (λ hb. something (92 ∷ 120 ∷ a ∷ b ∷ []) s _ _ refl refl (hex_two a b s ha hb)) (λ e. something (92 ∷ 120 ∷ a ∷ []) (b ∷ s) _ _ refl refl (hex_one a (b ∷ s) ha e))))
    (λ _. nothing)

read_simple : (q c : ℕ) (s : List ℕ) (o : Option ℕ) → lookup escapes c ≡ o → Read q (92 ∷ c ∷ s) (escaped o (c ∷ s))
read_simple q c s None e = nothing
read_simple q c s (Some v) e = choose q _ (is_trigraph (c ∷ s)) _ _ (λ _. nothing) (λ t. something (92 ∷ c ∷ []) s _ _ refl refl (escape c v s e t))

read_escape : (q : ℕ) (s : List ℕ) → Read q (92 ∷ s) (escape_item s)
read_escape q [] = nothing
read_escape q (c ∷ s) =
    choose q _ (is_octal c) _ _ (λ o. read_octal q c s o)
    (λ _. choose q _ (c == 120) _ _
    (λ e. let P : ℕ → Type 0 = λ x. Read q (92 ∷ x ∷ s) (hex_item s) in subst P (sym (eqb-true c 120 e)) (read_hex q s))
    (λ _. read_simple q c s (lookup escapes c) refl))

pub read : (q : ℕ) (text : List ℕ) → Read q text (item_of q text)
read q [] = nothing
read q (c ∷ s) =
    choose q _ (c == 92) _ _
    (λ e. let P : ℕ → Type 0 = λ x. Read q (x ∷ s) (escape_item s) in subst P (sym (eqb-true c 92 e)) (read_escape q s))
    (λ e. choose q _ ((c == q || c == 10) || is_trigraph (c ∷ s)) _ _ (λ _. nothing)
    (λ n. let l = or_left _ _ n in something (c ∷ []) s _ _ refl refl (plain c s e (or_left _ _ l) (or_right _ _ l) (or_right _ _ n))))

-- the item at the front, as it was read
pub record Item (q : ℕ) (text : List ℕ) (n v : ℕ) : Type 0 where
  pub bytes : List ℕ
  pub next : List ℕ
  pub all : text ≡ bytes ++ next
  pub len : n ≡ length bytes
  pub is : IsItem q bytes v next

took : {q : ℕ} {text : List ℕ} {o : Found} → Read q text o → (p : ℕ × ℕ) → o ≡ Some p → Item q text p.0 p.1
took nothing p e = cc
took {q} {text} (something i next v n all len is) p e =
    let m : p.0 ≡ n = cc in
    let w : p.1 ≡ v = cc in
    let P : ℕ → Type 0 = λ x. IsItem q i x next in
    record { bytes = i; next = next; all = all; len = m ∙ len; is = subst P (sym w) is }

pub item_at : (q : ℕ) (text : List ℕ) (p : ℕ × ℕ) → item_of q text ≡ Some p → Item q text p.0 p.1
item_at q text p e = took (read q text) p e

item_some : {q v : ℕ} {i next : List ℕ} → IsItem q i v next → 1 ≤ length i
item_some (plain c next e eq en et) = omega arith
item_some (escape c v next e et) = omega arith
item_some (octal_one a next o e) = omega arith
item_some (octal_two a b next oa ob e) = omega arith
item_some (octal_three a b c next oa ob oc le) = omega arith
item_some (hex_one a next h e) = omega arith
item_some (hex_two a b next ha hb) = omega arith

pub item_within : (q : ℕ) (text : List ℕ) (p : ℕ × ℕ) → item_of q text ≡ Some p → (1 ≤ p.0) × (p.0 ≤ length text)
item_within q text p e =
    let r = item_at q text p e in
    let some = item_some r.is in
    (omega (arith, some, r.len), omega (arith, ap length r.all, length-append r.bytes r.next, r.len))

pub item_rest : (q : ℕ) (text : List ℕ) (p : ℕ × ℕ) (e : item_of q text ≡ Some p) → (item_at q text p e).next ≡ drop p.0 text
item_rest q text p e =
    let r = item_at q text p e in
    sym (ap (λ n. drop n text) r.len ∙ ap (drop (length r.bytes)) r.all ∙ drop-append_seam r.bytes r.next)

-- one item before a literal
pub join : (q : ℕ) (text values rest : List ℕ) (p : ℕ × ℕ) → item_of q text ≡ Some p → Literal q (drop p.0 text) values rest → Literal q text (p.1 ∷ values) rest
join q text values rest p e d =
    let r = item_at q text p e in
    let P : List ℕ → Type 0 = λ l. Literal q l values rest in
    let Q : List ℕ → Type 0 = λ l. Literal q l (p.1 ∷ values) rest in
    subst Q (sym r.all) (item r.is (subst P (sym (item_rest q text p e)) d))

pub none_some : {A : Type 0} {a : A} → None ≡ Some a → ⊥
none_some e = cc

quoted : (q : ℕ) (rest : List ℕ) (b : Bool) → b ≡ true → (if (b || q == 10) || is_trigraph (q ∷ rest) then None else Some (hex_pair 1 q)) ≡ None
quoted q rest true e = refl
quoted q rest false e = absurd (true_false (sym e))

-- an item does not begin with the quote
not_quote : (q c : ℕ) → (q == 92) ≡ false → (92 == q) ≡ true → ⊥
not_quote q c h e = true_false (sym (same 92 ∙ refl) ∙ ap (λ x. x == 92) (eqb-true 92 q e) ∙ h)

no_quote : (q : ℕ) → (q == 92) ≡ false → {i next : List ℕ} {v : ℕ} → IsItem q i v next → starts_with q (i ++ next) ≡ true → ⊥
no_quote q h (plain c next e eq en et) k = true_false (sym k ∙ eq)
no_quote q h (escape c v next e et) k = not_quote q c h k
no_quote q h (octal_one a next o e) k = not_quote q a h k
no_quote q h (octal_two a b next oa ob e) k = not_quote q a h k
no_quote q h (octal_three a b c next oa ob oc le) k = not_quote q a h k
no_quote q h (hex_one a next hh e) k = not_quote q a h k
no_quote q h (hex_two a b next ha hb) k = not_quote q a h k

-- no item at a quote
quote_none : (q : ℕ) → (q == 92) ≡ false → (rest : List ℕ) → item_of q (q ∷ rest) ≡ None
quote_none q h rest = when_false (q == 92) _ _ h ∙ quoted q rest (q == q) (same q)

-- one item of a literal
pub record Step (q : ℕ) (text values rest : List ℕ) (n v : ℕ) : Type 0 where
  pub more : List ℕ
  pub values_are : values ≡ v ∷ more
  pub is : Literal q (drop n text) more rest

pub step : (q : ℕ) → (q == 92) ≡ false → {text values rest : List ℕ} → Literal q text values rest → (p : ℕ × ℕ) → item_of q text ≡ Some p → Step q text values rest p.0 p.1
step q h (ends rest) p e = absurd (none_some (sym (quote_none q h rest) ∙ e))
step q h (item {i} {next} {values} {rest} {v} is d) p e =
    let known = item_is q is in
    let m : p.0 ≡ length i = cc in
    let w : p.1 ≡ v = cc in
    let P : List ℕ → Type 0 = λ l. Literal q l values rest in
    record { more = values; values_are = ap (λ x. x ∷ values) (sym w); is = subst P (sym (ap (λ n. drop n (i ++ next)) m ∙ drop-append_seam i next)) d }

-- no literal where there is neither a quote nor an item
pub stuck : (q : ℕ) {text values rest : List ℕ} → Literal q text values rest → item_of q text ≡ None → starts_with q text ≡ false → ⊥
stuck q (ends rest) e h = true_false (sym (same q) ∙ h)
stuck q (item is d) e h = none_some (sym e ∙ item_is q is)

-- at the quote a literal ends
pub record Stop (q : ℕ) (text values rest : List ℕ) : Type 0 where
  pub none : values ≡ []
  pub behind : rest ≡ drop 1 text

pub stop : (q : ℕ) → (q == 92) ≡ false → {text values rest : List ℕ} → Literal q text values rest → starts_with q text ≡ true → Stop q text values rest
stop q h (ends rest) e = record { none = refl; behind = refl }
stop q h (item is d) e = absurd (no_quote q h is e)

pub closes : (q : ℕ) (text : List ℕ) → starts_with q text ≡ true → Literal q text [] (drop 1 text)
closes q [] e = absurd (true_false (sym e))
closes q (b ∷ s) e = let P : ℕ → Type 0 = λ x. Literal q (x ∷ s) [] s in subst P (sym (eqb-true b q e)) (ends s)

length_some : (q : ℕ) (l : List ℕ) → starts_with q l ≡ true → 1 ≤ length l
length_some q [] e = absurd (true_false (sym e))
length_some q (b ∷ l) e = omega arith

starts_within : (q : ℕ) (text : List ℕ) (at : ℕ) → starts_with q (drop at text) ≡ true → at + 1 ≤ length text
starts_within q text at e = omega (arith, length_some q (drop at text) e, length-drop at text)

pub item_ends : (q : ℕ) (text : List ℕ) (o : Found) → o ≡ item_of q text → IfSome o (λ p. p.0 ≤ length text)
item_ends q text None e = tt
item_ends q text (Some p) e = (item_within q text p (sym e)).1

pub item_begins : (q : ℕ) (text : List ℕ) (o : Found) → o ≡ item_of q text → IfSome o (λ p. 1 ≤ p.0)
item_begins q text None e = tt
item_begins q text (Some p) e = (item_within q text p (sym e)).0

pub no_backslash : (q : ℕ) → q < 92 → (q == 92) ≡ false
no_backslash q h = grind (arith, nat_tests)

-- reading a literal up to a place
pub record Walk (q : ℕ) (text : List ℕ) (at : ℕ) : Type 0 where
  pub within : at ≤ length text
  pub forth : (values rest : List ℕ) → Literal q (drop at text) values rest → (all : List ℕ) × Literal q text all rest
  pub back : (values rest : List ℕ) → Literal q text values rest → (left : List ℕ) × Literal q (drop at text) left rest

pub walk_start : (q : ℕ) (text : List ℕ) → Walk q text 0
walk_start q text = record { within = omega arith; forth = λ values rest d. (values, d); back = λ values rest d. (values, d) }

pub walk_on : (q : ℕ) → (q == 92) ≡ false → (text : List ℕ) (at : ℕ) → Walk q text at → (p : ℕ × ℕ) → item_of q (drop at text) ≡ Some p → Walk q text (at + p.0)
walk_on q h text at w p e =
    let size = item_within q (drop at text) p e in
    let P : List ℕ → List ℕ → List ℕ → Type 0 = λ l values rest. Literal q l values rest in
    record {
      within = omega (arith, size.1, length-drop at text, w.within);
      forth = λ values rest d. let F : List ℕ → Type 0 = λ l. Literal q l values rest in w.forth (p.1 ∷ values) rest (join q (drop at text) values rest p e (subst F (sym (drop-drop p.0 at text)) d));
      back = λ values rest d.
          let b = w.back values rest d in
          let s = step q h b.1 p e in
          let F : List ℕ → Type 0 = λ l. Literal q l s.more rest in
          (s.more, subst F (drop-drop p.0 at text) s.is);
    }

pub walk_closed : (q : ℕ) → (q == 92) ≡ false → (text : List ℕ) (at : ℕ) → Walk q text at → starts_with q (drop at text) ≡ true → IsClosed q text (Some (at + 1))
walk_closed q h text at w e =
    let c = closes q (drop at text) e in
    let same_rest : drop 1 (drop at text) ≡ drop (at + 1) text = drop-drop 1 at text in
    let f = w.forth [] _ c in
    let F : List ℕ → Type 0 = λ l. Literal q text f.0 l in (
      starts_within q text at e,
      (f.0, subst F same_rest f.1),
      λ values rest d. let b = w.back values rest d in (stop q h b.1 e).behind ∙ same_rest,
    )

pub walk_stuck : (q : ℕ) (text : List ℕ) (at : ℕ) → Walk q text at → item_of q (drop at text) ≡ None → starts_with q (drop at text) ≡ false → IsClosed q text None
walk_stuck q text at w e h = λ values rest d. stuck q (w.back values rest d).1 e h

-- the values of a literal
skipped : (k : ℕ) (s : List ℕ) → values_of k s ≡ values_of 0 (drop k s)
skipped zero s = refl
skipped (suc k) [] = refl
skipped (suc k) (c ∷ s) = skipped k s

dropped : (n c : ℕ) (s : List ℕ) → 1 ≤ n → drop n (c ∷ s) ≡ drop (n - 1) s
dropped zero c s h = absurd (omega arith)
dropped (suc n) c s h = ap (λ k. drop k s) (omega arith)

value_found : (c : ℕ) (s : List ℕ) (p : ℕ × ℕ) (o : Found) → o ≡ Some p
    → elim o [ None ↦ [] | Some r ↦ r.1 ∷ values_of (r.0 - 1) s ] ≡ p.1 ∷ values_of (p.0 - 1) s
value_found c s p None e = absurd (none_some e)
value_found c s p (Some r) e = let same_pair : r ≡ p = cc in ap (λ (x : ℕ × ℕ). x.1 ∷ values_of (x.0 - 1) s) same_pair

pub value_step : (text : List ℕ) (p : ℕ × ℕ) → item_of 34 text ≡ Some p → starts_with 34 text ≡ false → values_of 0 text ≡ p.1 ∷ values_of 0 (drop p.0 text)
value_step [] p e h = absurd (none_some e)
value_step (c ∷ s) p e h =
    let some = (item_within 34 (c ∷ s) p e).0 in
    when_false (c == 34) _ _ h ∙ value_found c s p (item_of 34 (c ∷ s)) e ∙ ap (λ l. p.1 ∷ l) (skipped (p.0 - 1) s ∙ ap (values_of 0) (sym (dropped p.0 c s some)))

value_none : (s : List ℕ) (o : Found) → o ≡ None → ◌≡◌ {A = List ℕ} (elim o [ None ↦ [] | Some r ↦ r.1 ∷ values_of (r.0 - 1) s ]) []
value_none s None e = refl
value_none s (Some r) e = absurd (none_some (sym e))

value_stuck : (text : List ℕ) → item_of 34 text ≡ None → values_of 0 text ≡ []
value_stuck [] e = refl
value_stuck (c ∷ s) e = either_empty (c == 34) _ (value_none s (item_of 34 (c ∷ s)) e)

value_quote : (text : List ℕ) → starts_with 34 text ≡ true → values_of 0 text ≡ []
value_quote [] h = refl
value_quote (c ∷ s) h = when_true (c == 34) _ _ h

no_quoted : {i next : List ℕ} {v : ℕ} → IsItem 34 i v next → (b : Bool) → starts_with 34 (i ++ next) ≡ b → b ≡ false
no_quoted is true e = absurd (no_quote 34 refl is e)
no_quoted is false e = refl

pub values_are : {text values rest : List ℕ} → Literal 34 text values rest → values_of 0 text ≡ values
values_are (ends rest) = refl
values_are (item {i} {next} {values} {rest} {v} is d) =
    value_step (i ++ next) (length i, v) (item_is 34 is) (let b : starts_with 34 (i ++ next) ≡ false = refl_false _ (no_quoted is (starts_with 34 (i ++ next)) refl) in b)
    ∙ ap (λ l. v ∷ values_of 0 l) (drop-append_seam i next) ∙ ap (λ l. v ∷ l) (values_are d)

pub record Reading (text : List ℕ) (at : ℕ) (found : List ℕ) : Type 0 where
  pub within : at ≤ length text
  pub so_far : found ++ values_of 0 (drop at text) ≡ values_of 0 text

pub reading_start : (text : List ℕ) → Reading text 0 []
reading_start text = record { within = omega arith; so_far = refl }

pub reading_on : (text : List ℕ) (at : ℕ) (found : List ℕ) → Reading text at found → (p : ℕ × ℕ) → item_of 34 (drop at text) ≡ Some p → starts_with 34 (drop at text) ≡ false
    → Reading text (at + p.0) (found ++ p.1 ∷ [])
reading_on text at found w p e h =
    let size = item_within 34 (drop at text) p e in
    record {
      within = omega (arith, size.1, length-drop at text, w.within);
      so_far = append_assoc found (p.1 ∷ []) (values_of 0 (drop (at + p.0) text))
          ∙ ap (λ l. found ++ p.1 ∷ values_of 0 l) (sym (drop-drop p.0 at text))
          ∙ ap (λ l. found ++ l) (sym (value_step (drop at text) p e h)) ∙ w.so_far;
    }

reading_empty : (text : List ℕ) (at : ℕ) (found : List ℕ) → Reading text at found → values_of 0 (drop at text) ≡ [] → found ≡ values_of 0 text
reading_empty text at found w e = sym (append-nil found) ∙ ap (λ l. found ++ l) (sym e) ∙ w.so_far

pub reading_closed : (text : List ℕ) (at : ℕ) (found : List ℕ) → Reading text at found → starts_with 34 (drop at text) ≡ true → found ≡ values_of 0 text
reading_closed text at found w e = reading_empty text at found w (value_quote (drop at text) e)

pub reading_stuck : (text : List ℕ) (at : ℕ) (found : List ℕ) → Reading text at found → item_of 34 (drop at text) ≡ None → found ≡ values_of 0 text
reading_stuck text at found w e = reading_empty text at found w (value_stuck (drop at text) e)

pub reading_ended : (text : List ℕ) (at : ℕ) (found : List ℕ) → Reading text at found → length text ≤ at → found ≡ values_of 0 text
reading_ended text at found w h = reading_empty text at found w (ap (values_of 0) (drop_all at text h))

pub walk_ended : (q : ℕ) (text : List ℕ) (at : ℕ) → Walk q text at → length text ≤ at → IsClosed q text None
walk_ended q text at w h =
    let e : drop at text ≡ [] = drop_all at text h in
    walk_stuck q text at w (ap (item_of q) e) (ap (starts_with q) e)

-- a character constant has one item
nil_tail : (v w : ℕ) (l : List ℕ) → v ∷ [] ≡ w ∷ l → l ≡ []
nil_tail v w l e = cc

cons_nil : (v : ℕ) (l : List ℕ) → v ∷ l ≡ [] → ⊥
cons_nil v l e = cc

first_of_two : {text values rest : List ℕ} {v : ℕ} → Literal 39 text values rest → values ≡ v ∷ [] → item_of 39 text ≡ None → ⊥
first_of_two (ends rest) k e = cons_nil _ _ (sym k)
first_of_two (item is d) k e = none_some (sym e ∙ item_is 39 is)

not_one : (q : ℕ) {text values rest : List ℕ} → Literal q text values rest → values ≡ [] → starts_with q text ≡ false → ⊥
not_one q (ends rest) e h = true_false (sym (same q) ∙ h)
not_one q (item is d) e h = cons_nil _ _ e

pub no_first : (text : List ℕ) → item_of 39 text ≡ None → (v : ℕ) (rest : List ℕ) → Literal 39 text (v ∷ []) rest → ⊥
no_first text e v rest d = first_of_two d refl e

pub one_none : (text : List ℕ) → item_of 39 text ≡ None → IsOne text None
one_none text e = λ v rest d. no_first text e v rest d

pub one_some : (text : List ℕ) (p : ℕ × ℕ) → item_of 39 text ≡ Some p → starts_with 39 (drop p.0 text) ≡ true → IsOne text (Some (p.0 + 1))
one_some text p e k =
    let c = closes 39 (drop p.0 text) k in
    let same_rest : drop 1 (drop p.0 text) ≡ drop (p.0 + 1) text = drop-drop 1 p.0 text in
    let F : List ℕ → Type 0 = λ l. Literal 39 text (p.1 ∷ []) l in (
      starts_within 39 text p.0 k,
      (p.1, subst F same_rest (join 39 text [] _ p e c)),
      λ v rest d. let s = step 39 refl d p e in (stop 39 refl s.is k).behind ∙ same_rest,
    )

pub one_more : (text : List ℕ) (p : ℕ × ℕ) → item_of 39 text ≡ Some p → starts_with 39 (drop p.0 text) ≡ false → IsOne text None
one_more text p e k = λ v rest d. let s = step 39 refl d p e in not_one 39 s.is (nil_tail v p.1 s.more s.values_are) k

character_found : (o : Found) → (v : ℕ) (p : ℕ × ℕ) → o ≡ Some p → p.1 ≡ v → elim o [ None ↦ pos 0 | Some r ↦ signed_char r.1 ] ≡ signed_char v
character_found None v p e k = absurd (none_some e)
character_found (Some r) v p e k = let same_value : r.1 ≡ v = cc in ap signed_char same_value

character_by : {text values rest : List ℕ} {v : ℕ} → Literal 39 text values rest → values ≡ v ∷ [] → character_of text ≡ signed_char v
character_by (ends rest) k = absurd (cons_nil _ _ (sym k))
character_by {v = w} (item {i} {next} {values} {rest} {v} is d) k = let same_value : v ≡ w = cc in character_found (item_of 39 (i ++ next)) w (length i, v) (item_is 39 is) same_value

pub character_is : (text : List ℕ) (v : ℕ) (rest : List ℕ) → Literal 39 text (v ∷ []) rest → character_of text ≡ signed_char v
character_is text v rest d = character_by d refl
