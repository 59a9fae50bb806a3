-- Tokens that are counted text by text.
use Rattle.std.proofs.Common.{◌≡◌, ◌<◌, ◌≤◌, ℕ, ◌+◌, Bool, true, false, List, [], ◌∷◌, ◌++◌, length, map, take, get_or, Option, Some, None, Ok, Err, sym, ap, ◌∙◌, subst, arith}
use Rattle.std.specs.Global.{Vec}
use Rattle.std.specs.Prelude.{IfSome}
use Rattle.std.specs.List.{list_any}
use Rattle.c_lex.specs.declared.token.Token.{Token}
use Rattle.c_file.specs.Made.{Each}
use Rattle.ldb_cc.specs.declared.scanning.Scanned.{Scanned}
use Rattle.ldb_cc.specs.declared.fault.BuildFault.{BuildFault}
use Rattle.ldb_cc.specs.declared.fault.BuildFault.TheVariants as cause
use Rattle.ldb_cc.specs.Sources.{HasTokens, IsFirst, IsLexed, IsUnlexed, IsCause, is_long, token_count}
use Rattle.ldb_cc.specs.Scanning.{IsCounted, AreScanned, ScansMore, Scans, ScansOf, IsTokensOf, AreTokens, items_of}
use Rattle.ldb_cc.proofs.Firsts.{each_more, each_all, more_read, all_read, first_of}

pub count_more : (all : List (List Token)) (ts : List Token) → token_count (all ++ ts ∷ []) ≡ token_count all + length ts
count_more [] ts = omega arith
count_more (us ∷ all) ts = let e = count_more all ts in omega (arith, e)

-- lists that are kept with one more
kept_more : (m : Bool) (count : ℕ) (kept all : List (List Token)) (ts : List Token) → IsCounted m count kept all → IsCounted m (count + length ts) (kept ++ ts ∷ []) (all ++ ts ∷ [])
kept_more true count kept all ts c = let e = count_more all ts in omega (arith, e, c)
kept_more false count kept all ts c = (ap (λ l. l ++ ts ∷ []) c.0, ap (λ n. n + length ts) c.1 ∙ sym (count_more all ts))

-- too many with these
over : (m : Bool) (count : ℕ) (kept all : List (List Token)) (ts : List Token) → IsCounted m count kept all → 40000 < count + length ts → 40000 < token_count (all ++ ts ∷ [])
over true count kept all ts c l = let e = count_more all ts in omega (arith, e, c)
over false count kept all ts c l = let e = count_more all ts in let n = c.1 in omega (arith, e, n, l)

counted_more : (b : Bool) (ts : List Token) (old new : Scanned) (all : List (List Token)) → IsCounted old.many old.count (map items_of old.all.items) all → ScansMore b ts old new
    → IsCounted new.many new.count (map items_of new.all.items) (all ++ ts ∷ [])
counted_more true ts old new all c s =
    subst (λ m. IsCounted m new.count (map items_of new.all.items) (all ++ ts ∷ [])) (sym s.0) (over old.many old.count (map items_of old.all.items) all ts c s.1)
counted_more false ts old new all c s =
    subst (λ m. IsCounted m new.count (map items_of new.all.items) (all ++ ts ∷ [])) (sym s.0)
    (subst (λ n. IsCounted old.many n (map items_of new.all.items) (all ++ ts ∷ [])) (sym s.1)
    (subst (λ k. IsCounted old.many (old.count + length ts) k (all ++ ts ∷ [])) (sym s.2)
    (kept_more old.many old.count (map items_of old.all.items) all ts c)))

-- the tokens of one text more
pub scanned_more : (done : List (List ℕ)) (text : List ℕ) (ts : List Token) (old new : Scanned) → AreScanned done old → HasTokens text ts → Scans ts old new → new.count ≤ 40000 → AreScanned (done ++ text ∷ []) new
scanned_more done text ts old new a h s l = record {
  all = a.all ++ ts ∷ [];
  tokens = each_more HasTokens done a.all text ts a.tokens h;
  counted = counted_more s.0 ts old new a.all a.counted s.1;
  few = l;
}

long_count : (all : List (List Token)) (ts : List Token) → 40000 < length ts → 40000 < token_count (all ++ ts ∷ [])
long_count all ts l = let e = count_more all ts in omega (arith, e, l)

-- one text has too many
pub scanned_over : (done : List (List ℕ)) (text : List ℕ) (ts : List Token) (old new : Scanned) → AreScanned done old → HasTokens text ts → 40000 < length ts → new.many ≡ true → new.count ≤ 40000 → AreScanned (done ++ text ∷ []) new
scanned_over done text ts old new a h l m few = record {
  all = a.all ++ ts ∷ [];
  tokens = each_more HasTokens done a.all text ts a.tokens h;
  counted = subst (λ b. IsCounted b new.count (map items_of new.all.items) (a.all ++ ts ∷ [])) (sym m) (long_count a.all ts l);
  few = few;
}

-- what was found in one text more
found_more : (done : List (List ℕ)) (unit : ℕ) (text : List ℕ) (found : Option (Vec Token)) (old new : Scanned) → AreScanned done old → IsTokensOf unit text (Ok found) → ScansOf found old new → new.count ≤ 40000 → AreScanned (done ++ text ∷ []) new
found_more done unit text (Some ts) old new a t s l = scanned_more done text ts.items old new a t.0 s l
found_more done unit text None old new a t s l = scanned_over done text t.0 old new a t.1 t.2 s l

pub scanned_found : (vs : List (Vec ℕ)) (i : ℕ) (v : Vec ℕ) (unit : ℕ) (text : List ℕ) (found : Option (Vec Token)) (old new : Scanned) → i < length vs → v ≡ get_or vs i v → text ≡ v.items
    → AreScanned (map items_of (take i vs)) old → IsTokensOf unit text (Ok found) → ScansOf found old new → new.count ≤ 40000 → AreScanned (map items_of (take (i + 1) vs)) new
scanned_found vs i v unit text found old new l e t a k s few =
    subst (λ (ts : List (List ℕ)). AreScanned ts new) (sym (more_read items_of vs i v l e))
    (subst (λ (x : List ℕ). AreScanned (map items_of (take i vs) ++ x ∷ []) new) t (found_more (map items_of (take i vs)) unit text found old new a k s few))

pub found_few : (unit : ℕ) (text : List ℕ) (found : Option (Vec Token)) → IsTokensOf unit text (Ok found) → IfSome found (λ ts. length ts.items ≤ 40000)
found_few unit text (Some ts) k = k.1
found_few unit text None k = tt

pub scanned_none : (s : Scanned) → s.all.items ≡ [] → s.count ≡ 0 → s.many ≡ false → AreScanned [] s
scanned_none s e n m = record {
  all = [];
  tokens = tt;
  counted = subst (λ b. IsCounted b s.count (map items_of s.all.items) []) (sym m) (ap (map items_of) e, n);
  few = omega (arith, n);
}

-- why the tokens of a text are the cause
pub lex_cause : (vs : List (Vec ℕ)) (i : ℕ) (v : Vec ℕ) (unit : ℕ) (text : List ℕ) (s : Scanned) (f : BuildFault) → list_any is_long (map items_of vs) ≡ false → i < length vs → v ≡ get_or vs i v → text ≡ v.items → unit ≡ i
    → AreScanned (map items_of (take i vs)) s → IsTokensOf unit text (Err f) → IsCause (map items_of vs) f
lex_cause vs i v unit text s cause.Source n l e t u a k = absurd k
lex_cause vs i v unit text s (cause.Lex w line column) n l e t u a k =
    (n, subst (λ j. IsFirst_at j) (sym (k.0 ∙ u)) (first_of items_of IsLexed (IsUnlexed line column) vs i v l e (each_all HasTokens (map items_of (take i vs)) a.all a.tokens) (subst (IsUnlexed line column) t k.1)))
  where
    IsFirst_at : ℕ → Type 0
    IsFirst_at j = IsFirst IsLexed (IsUnlexed line column) j (map items_of vs)
lex_cause vs i v unit text s cause.Tokens n l e t u a k = absurd k
lex_cause vs i v unit text s (cause.Syntax _ _ _) n l e t u a k = absurd k
lex_cause vs i v unit text s (cause.Deep _ _ _) n l e t u a k = absurd k
lex_cause vs i v unit text s cause.Arguments n l e t u a k = absurd k
lex_cause vs i v unit text s (cause.Rule _ _ _ _) n l e t u a k = absurd k
lex_cause vs i v unit text s (cause.Twice _) n l e t u a k = absurd k
lex_cause vs i v unit text s (cause.Unknown _) n l e t u a k = absurd k
lex_cause vs i v unit text s cause.NoMain n l e t u a k = absurd k
lex_cause vs i v unit text s cause.Statics n l e t u a k = absurd k
lex_cause vs i v unit text s cause.NoMemory n l e t u a k = tt

-- all texts were scanned
scanned_whole : (vs : List (Vec ℕ)) (i : ℕ) (s : Scanned) → length vs ≤ i → AreScanned (map items_of (take i vs)) s → AreScanned (map items_of vs) s
scanned_whole vs i s l a = subst (λ (ts : List (List ℕ)). AreScanned ts s) (all_read items_of vs i l) a

pub too_many : (vs : List (Vec ℕ)) (i : ℕ) (s : Scanned) → list_any is_long (map items_of vs) ≡ false → length vs ≤ i → AreScanned (map items_of (take i vs)) s → s.many ≡ true → IsCause (map items_of vs) cause.Tokens
too_many vs i s n l a m =
    let w = scanned_whole vs i s l a in
    (w.all, record { short = n; tokens = w.tokens }, subst (λ b. IsCounted b s.count (map items_of s.all.items) w.all) m w.counted)

pub all_seen : (vs : List (Vec ℕ)) (i : ℕ) (s : Scanned) → list_any is_long (map items_of vs) ≡ false → length vs ≤ i → AreScanned (map items_of (take i vs)) s → s.many ≡ false → AreTokens (map items_of vs) (map items_of s.all.items)
all_seen vs i s n l a m =
    let w = scanned_whole vs i s l a in
    let c : (map items_of s.all.items ≡ w.all) × (s.count ≡ token_count w.all) = subst (λ b. IsCounted b s.count (map items_of s.all.items) w.all) m w.counted in (
      record { short = n; tokens = subst (λ (ts : List (List Token)). Each HasTokens (map items_of vs) ts) (sym c.0) w.tokens },
      subst (λ k. k ≤ 40000) (c.1 ∙ ap token_count (sym c.0)) w.few,
    )
