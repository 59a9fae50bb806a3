-- Sources that are read one by one.
use Rattle.std.proofs.Common.{◌≡◌, ◌<◌, ℕ, ◌+◌, List, [], ◌∷◌, ◌++◌, length, map, take, get_or, Option, Some, None, String, string_bytes, refl, sym, ap, ◌∙◌, subst}
use Rattle.std.proofs.lemmas.List.{map-append, length_push}
use Rattle.std.specs.Prelude.{IsSome}
use Rattle.std.specs.Global.{Vec, Global}
use Rattle.std.specs.List.{AllByRecursion}
use Rattle.std.specs.FinMap as files
use Rattle.ldb_edge.specs.Known.{FileMap}
use Rattle.ldb_cc.specs.Scanning.{items_of}
use Rattle.ldb_cc.proofs.Firsts.{each_more, more_read, first_of}
use Rattle.cc_call.specs.Found.{IsRead, AreRead, IsMissing}

read_some : (held : Option (List ℕ)) (text : List ℕ) → IsRead held text → IsSome held
read_some None text r = absurd r
read_some (Some whole) text r = refl

all_some : (known : FileMap) (names texts : List (List ℕ)) → AreRead known names texts → AllByRecursion (λ name. IsSome (files.get known name)) names
all_some known [] texts r = tt
all_some known (n ∷ names) [] r = absurd r
all_some known (n ∷ names) (t ∷ texts) r = (read_some (files.get known n) t r.0, all_some known names texts r.1)

-- a file isn't there
pub missing_read : (known : FileMap) (names : List (String Global)) (i : ℕ) (v : String Global) (w : List ℕ) (texts : List (Vec ℕ)) → i < length names → v ≡ get_or names i v → w ≡ string_bytes v
    → AreRead known (map string_bytes (take i names)) (map items_of texts) → files.get known w ≡ None → IsMissing known (map string_bytes names) i
missing_read known names i v w texts l e b r m =
    first_of string_bytes (λ name. IsSome (files.get known name)) (λ name. files.get known name ≡ None) names i v l e (all_some known (map string_bytes (take i names)) (map items_of texts) r)
    (subst (λ (x : List ℕ). files.get known x ≡ None) b m)

-- one more is there
pub read_more : (known : FileMap) (names : List (String Global)) (i : ℕ) (v : String Global) (w : List ℕ) (texts texts' : List (Vec ℕ)) (text : Vec ℕ) → i < length names → v ≡ get_or names i v → w ≡ string_bytes v → texts' ≡ texts ++ text ∷ []
    → AreRead known (map string_bytes (take i names)) (map items_of texts) → IsRead (files.get known w) text.items → AreRead known (map string_bytes (take (i + 1) names)) (map items_of texts')
read_more known names i v w texts texts' text l e b p r f =
    subst (λ (ns : List (List ℕ)). AreRead known ns (map items_of texts')) (sym (more_read string_bytes names i v l e))
    (subst (λ (ts : List (List ℕ)). AreRead known (map string_bytes (take i names) ++ string_bytes v ∷ []) ts) (sym (ap (map items_of) p ∙ map-append items_of texts (text ∷ [])))
    (each_more (λ name t. IsRead (files.get known name) t) (map string_bytes (take i names)) (map items_of texts) (string_bytes v) text.items r (subst (λ (x : List ℕ). IsRead (files.get known x) text.items) b f)))

pub one_longer : (texts texts' : List (Vec ℕ)) (text : Vec ℕ) (i : ℕ) → texts' ≡ texts ++ text ∷ [] → length texts ≡ i → length texts' ≡ i + 1
one_longer texts texts' text i p n = ap length p ∙ (length_push texts text ∙ ap (λ k. k + 1) n)
