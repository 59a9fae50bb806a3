-- Sets of names.
use Rattle.std.proofs.Common.{◌≡◌, ◌<◌, ◌≤◌, ◌+◌, ℕ, zero, suc, Bool, true, false, ◌||◌, List, [], ◌∷◌, ◌++◌, length, drop, map, slice_get, slice_index_or, ◌∙◌, sym, refl, ap, None, arith}
use Rattle.std.proofs.Math.Seq.{drop-cons}
use Rattle.std.specs.Option.{is_some}
use Rattle.c_defs.specs.declared.numbers.Numbers.{Numbers}
use Rattle.c_defs.specs.Numbers.{number_in}
use Rattle.c_linkage.specs.declared.definitions.Definition.{Definition}
use Rattle.c_linkage.specs.Names.{defining, defines, is_defined, AreWithin}
use Rattle.c_rows.specs.Sets.{in_file}

or_turned : (a b c : Bool) → ((a || b) || c) ≡ (b || (a || c))
or_turned true true c = refl
or_turned true false c = refl
or_turned false b c = refl

-- a definition goes from those that are left to those that are in the sets
pub one_further : (ds : List Definition) (i u : ℕ) (s : Bool) (t : List ℕ) (d : Definition) (old new : Bool) → i < length ds → d ≡ slice_index_or ds i d
    → new ≡ (defines u s t (defining d) || old) → (new || is_defined (map defining (drop (i + 1) ds)) u s t) ≡ (old || is_defined (map defining (drop i ds)) u s t)
one_further ds i u s t d old new h e n =
    ap (λ b. b || is_defined (map defining (drop (i + 1) ds)) u s t) n ∙
    (or_turned (defines u s t (defining d)) old (is_defined (map defining (drop (i + 1) ds)) u s t) ∙
    ap (λ l. old || is_defined (map defining l) u s t)
    (sym (drop-cons ds i d h ∙ (ap (λ x. x ∷ drop (suc i) ds) (sym e) ∙ ap (λ j. d ∷ drop j ds) (let f : suc i ≡ i + 1 = omega arith in f)))))

pub unit_within : (n : ℕ) (ds : List Definition) (i : ℕ) (d : Definition) → AreWithin n (map defining ds) → i < length ds → (slice_index_or ds i d).unit < n
unit_within n [] i d w h = absurd (omega arith)
unit_within n (e ∷ ds) zero d w h = w.0
unit_within n (e ∷ ds) (suc i) d w h = unit_within n ds i d w.1 (omega arith)

or_false : (a : Bool) → (a || false) ≡ a
or_false true = refl
or_false false = refl

pub none_left : (ds : List Definition) (i u : ℕ) (s : Bool) (t : List ℕ) (b : Bool) → length ds ≤ i → (b || is_defined (map defining (drop i ds)) u s t) ≡ b
none_left [] zero u s t b h = or_false b
none_left [] (suc i) u s t b h = or_false b
none_left (d ∷ ds) zero u s t b h = absurd (omega arith)
none_left (d ∷ ds) (suc i) u s t b h = none_left ds i u s t b (omega arith)

-- a set without names behind others
pub no_more : (xs : List Numbers) (m : Numbers) → ((u : ℕ) (t : List ℕ) → in_file (slice_get xs u) t ≡ false) → ((t : List ℕ) → number_in m t ≡ None)
    → (u : ℕ) (t : List ℕ) → in_file (slice_get (xs ++ m ∷ []) u) t ≡ false
no_more [] m h n zero t = ap is_some (n t)
no_more [] m h n (suc u) t = refl
no_more (x ∷ xs) m h n zero t = h zero t
no_more (x ∷ xs) m h n (suc u) t = no_more xs m (λ v s. h (suc v) s) n u t
