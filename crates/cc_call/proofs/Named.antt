-- Names of sources.
use Rattle.std.proofs.Common.{◌≡◌, ◌<◌, ◌≤◌, ℕ, zero, suc, List, [], ◌∷◌, length, map, get_or, String, string_bytes, refl, ap, arith}
use Rattle.std.specs.Global.{Global}
use Rattle.cc_call.specs.Lines.{name_in}

pub name_at : (names : List (List ℕ)) (i : ℕ) (name : List ℕ) → i < length names → name ≡ get_or names i name → name ≡ name_in names i
name_at [] i name l e = absurd (omega arith)
name_at (n ∷ names) zero name l e = e
name_at (n ∷ names) (suc i) name l e = name_at names i name (omega arith) e

pub name_past : (names : List (List ℕ)) (i : ℕ) → length names ≤ i → ◌≡◌ {A = List ℕ} [] (name_in names i)
name_past [] i l = refl
name_past (n ∷ names) zero l = absurd (omega arith)
name_past (n ∷ names) (suc i) l = name_past names i (omega arith)

pub name_read : (names : List (String Global)) (i : ℕ) (v : String Global) → i < length names → v ≡ get_or names i v → string_bytes v ≡ name_in (map string_bytes names) i
name_read [] i v l e = absurd (omega arith)
name_read (n ∷ names) zero v l e = ap string_bytes e
name_read (n ∷ names) (suc i) v l e = name_read names i v (omega arith) e
