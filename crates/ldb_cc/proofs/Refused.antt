-- What the checker finds is a cause.
use Rattle.std.proofs.Common.{◌≡◌, ◌<◌, ◌≤◌, ℕ, zero, suc, false, List, [], ◌∷◌, length, map, get_or, Option, Err, refl, sym, ap, subst, arith}
use Rattle.std.specs.Global.{Vec}
use Rattle.std.specs.List.{list_any}
use Rattle.c_trees.specs.declared.unit.External.{External}
use Rattle.c_file.specs.Programs.{Fault, Faults}
use Rattle.c_check.specs.declared.faults.CheckFault.{CheckFault}
use Rattle.c_check.specs.declared.faults.CheckFault.TheVariants as check
use Rattle.c_check.specs.Faulty.{Checks}
use Rattle.ldb_cc.specs.declared.fault.BuildFault.{BuildFault}
use Rattle.ldb_cc.specs.Sources.{is_long, text_of, AreFiles, IsCause}
use Rattle.ldb_cc.specs.Scanning.{items_of}
use Rattle.ldb_cc.specs.Parsing.{IsRefusal}
use Rattle.ldb_cc.proofs.Firsts.{or_false, is_short}

pub text_at : (vs : List (Vec ℕ)) (i : ℕ) (v : Vec ℕ) → i < length vs → v ≡ get_or vs i v → v.items ≡ text_of (map items_of vs) i
text_at [] i v l e = absurd (omega arith)
text_at (w ∷ vs) zero v l e = ap (λ (x : Vec ℕ). x.items) e
text_at (w ∷ vs) (suc i) v l e = text_at vs i v (omega arith) e

pub text_past : (vs : List (Vec ℕ)) (i : ℕ) → length vs ≤ i → ◌≡◌ {A = List ℕ} [] (text_of (map items_of vs) i)
text_past [] i l = refl
text_past (w ∷ vs) zero l = absurd (omega arith)
text_past (w ∷ vs) (suc i) l = text_past vs i (omega arith)

pub text_short : (ts : List (List ℕ)) (i : ℕ) → list_any is_long ts ≡ false → length (text_of ts i) ≤ 1048576
text_short [] i n = omega arith
text_short (t ∷ ts) zero n = is_short t (or_false (is_long t) (list_any is_long ts) n).0
text_short (t ∷ ts) (suc i) n = text_short ts i (or_false (is_long t) (list_any is_long ts) n).1

found : (us : List (List External)) (x : Option Fault) (y : Option Fault) → Faults us x → x ≡ y → Faults us y
found us x y f e = subst (λ (z : Option Fault). Faults us z) e f

pub refused : (names texts : List (List ℕ)) (us : List (List External)) (fault : CheckFault) (f : BuildFault) → AreFiles texts us → Checks names us (Err fault) → IsRefusal texts fault f → IsCause texts f
refused names texts us check.Arguments f a k r = subst (λ (g : BuildFault). IsCause texts g) (sym r) (us, a, found us k.0 _ k.1 k.2)
refused names texts us (check.Rule rule unit at) f a k r = subst (λ (g : BuildFault). IsCause texts g) (sym r.3) (at, (us, a, found us k.0 _ k.1 k.2), r.2)
refused names texts us (check.Twice name) f a k r = subst (λ (g : BuildFault). IsCause texts g) (sym r) (us, a, found us k.0 _ k.1 k.2)
refused names texts us (check.Unknown name) f a k r = subst (λ (g : BuildFault). IsCause texts g) (sym r) (us, a, found us k.0 _ k.1 k.2)
refused names texts us check.NoMain f a k r = subst (λ (g : BuildFault). IsCause texts g) (sym r) (us, a, found us k.0 _ k.1 k.2)
refused names texts us check.TooBig f a k r = subst (λ (g : BuildFault). IsCause texts g) (sym r) (us, a, found us k.0 _ k.1 k.2, k.3)
refused names texts us check.NoMemory f a k r = subst (λ (g : BuildFault). IsCause texts g) (sym r) tt
