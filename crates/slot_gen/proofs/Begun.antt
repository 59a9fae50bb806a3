-- The rows of slot code, made one by one.
use Rattle.std.proofs.Common.{◌≡◌, ℕ, zero, suc, ◌+◌, ◌<◌, ◌≤◌, List, [], ◌∷◌, ◌++◌, Option, Some, None, length, refl, sym, ap, ◌∙◌, arith, subst, append_assoc, get_or, drop, take}
use Rattle.std.specs.Prelude.{Result, Ok, Err, IfOk, ◌%◌, ◌^◌, slice_get, true, false, Bool, not, ◌&&◌, bytes_eq, codes, if◌then◌else◌}
use Rattle.std.proofs.Math.Seq.{drop-cons}
use Rattle.std.specs.Prelude.{map}
use Rattle.std.proofs.lemmas.List.{append-nil, take_more, map-append}
use Rattle.std.proofs.lemmas.Option.{slice_get-get_or}
use Rattle.c_tree.specs.declared.types.CType.TheVariants.{Struct}
use Rattle.c_tree.specs.declared.types.StructDef.{StructDef}
use Rattle.c_tree.specs.declared.types.Member.{Member}
use Rattle.c_tree.specs.declared.types.Leaf.{Leaf}
use Rattle.c_tree.specs.declared.rows.Program.{Program}
use Rattle.c_tree.specs.declared.rows.Function.{Function}
use Rattle.c_tree.specs.declared.rows.Local.{Local}
use Rattle.c_tree.specs.declared.rows.ObjectRow.{ObjectRow}
use Rattle.c_tree.specs.declared.rows.Start.{Start}
use Rattle.c_tree.specs.Layout.{size_of, leaves_of}
use Rattle.c_tree.specs.Listed.{kept_at}
use Rattle.c_tree.specs.Ordered.{LieIn, width_of}
use Rattle.c_source.specs.Begin.{main_from}
use Rattle.slot_ir.specs.declared.code.Access.{Access}
use Rattle.slot_ir.specs.declared.code.Home.{Home}
use Rattle.slot_ir.specs.declared.code.SlotLocal.{SlotLocal}
use Rattle.slot_ir.specs.declared.code.SlotStart.{SlotStart}
use Rattle.slot_ir.specs.declared.code.SlotMember.{SlotMember}
use Rattle.slot_gen.specs.Expressions.{access_of, register_at}
use Rattle.slot_gen.specs.Rows.{EachFrom, IsLocalOf, IsStructOf, IsObjectOf, home_of, one_start, starts_of, member_of}

-- ---- offsets below 2^32

lies : (from end : ℕ) (ls : List Leaf) → LieIn from ls end → from ≤ end
lies from end [] h = h
lies from end (l ∷ ls) h = let below = lies (l.at + width_of l.kind) end ls h.1 in let here = h.0 in omega arith

small : (n : ℕ) → n < 2 ^ 32 → n % 2 ^ 32 ≡ n
small n h = omega arith

pub kept_same : (from end : ℕ) (ls : List Leaf) → end ≤ 1048576 → LieIn from ls end → kept_at 0 ls ≡ ls
kept_same from end [] h e = refl
kept_same from end (l ∷ ls) h e =
    let below = lies (l.at + width_of l.kind) end ls e.1 in
    let s : (0 + l.at) % 2 ^ 32 ≡ l.at = small (0 + l.at) (omega arith) ∙ omega arith in
    let rest = kept_same (l.at + width_of l.kind) end ls h e.1 in
    ap (λ n. record l { at = n } ∷ kept_at 0 ls) s ∙ ap (λ x. l ∷ x) rest

-- ---- the loops that make rows

no_starts : (ls : List Leaf) → starts_of ls [] ≡ []
no_starts [] = refl
no_starts (l ∷ ls) = refl

no_start : (o : Option Leaf) → one_start o None ≡ []
no_start None = refl
no_start (Some l) = refl

starts_step : (i : ℕ) (ls : List Leaf) (xs : List Start) → starts_of (drop i ls) (drop i xs) ≡ one_start (slice_get ls i) (slice_get xs i) ++ starts_of (drop (suc i) ls) (drop (suc i) xs)
starts_step zero [] xs = refl
starts_step zero (l ∷ ls) [] = sym (no_starts ls)
starts_step zero (l ∷ ls) (x ∷ xs) = refl
starts_step (suc i) [] [] = refl
starts_step (suc i) [] (x ∷ xs) = refl
starts_step (suc i) (l ∷ ls) [] = no_starts (drop i ls) ∙ sym (ap (λ z. one_start (slice_get ls i) None ++ z) (no_starts (drop (suc i) ls)) ∙ ap (λ z. z ++ []) (no_start (slice_get ls i)))
starts_step (suc i) (l ∷ ls) (x ∷ xs) = starts_step i ls xs

pub starts_more : (all r0 r1 : List SlotStart) (i : ℕ) (ls : List Leaf) (xs : List Start) (o : Option Leaf) (q : Option Start) → o ≡ slice_get ls i → q ≡ slice_get xs i → r0 ++ starts_of (drop i ls) (drop i xs) ≡ all → r1 ≡ r0 ++ one_start o q → r1 ++ starts_of (drop (i + 1) ls) (drop (i + 1) xs) ≡ all
starts_more all r0 r1 i ls xs o q eo eq is e =
    let next : i + 1 ≡ suc i = omega arith in
    let rest = starts_of (drop (suc i) ls) (drop (suc i) xs) in
    ap (λ j. r1 ++ starts_of (drop j ls) (drop j xs)) next
    ∙ ap (λ z. z ++ rest) (e ∙ ap (λ z. r0 ++ one_start z q) eo ∙ ap (λ z. r0 ++ one_start (slice_get ls i) z) eq)
    ∙ append_assoc r0 (one_start (slice_get ls i) (slice_get xs i)) rest
    ∙ ap (λ z. r0 ++ z) (sym (starts_step i ls xs))
    ∙ is

pub starts_end : (all r : List SlotStart) (i : ℕ) (ls : List Leaf) (xs : List Start) → length ls ≤ i → r ++ starts_of (drop i ls) (drop i xs) ≡ all → r ≡ all
starts_end all r i ls xs le is =
    let none : drop i ls ≡ [] = drop_all i ls le in
    sym (ap (λ z. r ++ starts_of z (drop i xs)) none ∙ append-nil r) ∙ is
  where
    drop_all : (j : ℕ) (l : List Leaf) → length l ≤ j → drop j l ≡ []
    drop_all zero [] h = refl
    drop_all (suc j) [] h = refl
    drop_all zero (x ∷ l) h = absurd (omega arith)
    drop_all (suc j) (x ∷ l) h = drop_all j l (omega arith)

pub there_of : (fs all : List Function) (i n : ℕ) (a : Function) → fs ≡ all → n ≡ i → i < length fs → a ≡ get_or fs i a → slice_get all n ≡ Some a
there_of fs all i n a e en lt at =
    ap (λ l. slice_get l n) (sym e) ∙ ap (λ k. slice_get fs k) en ∙ slice_get-get_or fs i a lt ∙ ap Some (sym at)

-- ---- `main`

pub main_here : (n : ℕ) (f : Function) (rest : List Function) → (not f.is_static && bytes_eq f.name (codes "main")) ≡ true → main_from n (f ∷ rest) ≡ n
main_here n f rest e = ap (λ b. if b then n else main_from (suc n) rest) e

pub main_later : (n : ℕ) (f : Function) (rest : List Function) → (not f.is_static && bytes_eq f.name (codes "main")) ≡ false → main_from n (f ∷ rest) ≡ main_from (suc n) rest
main_later n f rest e = ap (λ b. if b then n else main_from (suc n) rest) e

pub main_found : (all : ℕ) (n : ℕ) (fs : List Function) (i : ℕ) (f : Function) (b : Bool) → i < length fs → f ≡ get_or fs i f → b ≡ (not f.is_static && bytes_eq f.name (codes "main")) → b ≡ true → main_from n (drop i fs) ≡ all → n ≡ all
main_found all n fs i f b lt at e holds is =
    sym (ap (main_from n) (drop-cons fs i f lt ∙ ap (λ x. x ∷ drop (suc i) fs) (sym at)) ∙ main_here n f (drop (suc i) fs) (sym e ∙ holds)) ∙ is

pub main_more : (all : ℕ) (n m : ℕ) (fs : List Function) (i : ℕ) (f : Function) (b : Bool) → i < length fs → f ≡ get_or fs i f → b ≡ (not f.is_static && bytes_eq f.name (codes "main")) → b ≡ false → m ≡ n + 1 → main_from n (drop i fs) ≡ all → main_from m (drop (i + 1) fs) ≡ all
main_more all n m fs i f b lt at e fails em is =
    let next : i + 1 ≡ suc i = omega arith in
    let m' : m ≡ suc n = omega arith in
    ap (λ j. main_from m (drop j fs)) next ∙ ap (λ k. main_from k (drop (suc i) fs)) m'
    ∙ sym (ap (main_from n) (drop-cons fs i f lt ∙ ap (λ x. x ∷ drop (suc i) fs) (sym at)) ∙ main_later n f (drop (suc i) fs) (sym e ∙ fails))
    ∙ is

pub each_same : {E : Type 0} (res : Result (List SlotLocal) E) (p : Program) (rs rs' : List (Option ℕ)) (ls : List Local) → rs ≡ rs' → IfOk res (λ rows. EachFrom (IsLocalOf p rs) 0 ls rows) → IfOk res (λ rows. EachFrom (IsLocalOf p rs') 0 ls rows)
each_same (Ok rows) p rs rs' ls e h = subst (λ l. EachFrom (IsLocalOf p l) 0 ls rows) e h
each_same (Err x) p rs rs' ls e h = tt

-- ---- single rows

pub local_made : (p : Program) (rs : List (Option ℕ)) (x : ℕ) (l : Local) (h : Home) (a : Access) (n : ℕ) (ls : List Leaf) (ds es : List StructDef) → h ≡ home_of (register_at rs x) → a ≡ access_of l.ctype → ds ≡ p.defs → n ≡ size_of ds l.ctype → es ≡ p.defs → ls ≡ leaves_of es l.ctype
    → IsLocalOf p rs x l (record { home = h; access = a; size = n; leaves = ls })
local_made p rs x l h a n ls ds es eh ea ed en ee el = record {
  home = eh;
  access = ea;
  size = en ∙ ap (λ d. size_of d l.ctype) ed;
  leaves = el ∙ ap (λ d. leaves_of d l.ctype) ee;
}

pub members_more : (r0 r1 : List SlotMember) (ms : List Member) (i : ℕ) (m : Member) (row : SlotMember) → i < length ms → m ≡ get_or ms i m → row ≡ member_of m → r0 ≡ map member_of (take i ms) → r1 ≡ r0 ++ row ∷ [] → r1 ≡ map member_of (take (i + 1) ms)
members_more r0 r1 ms i m row lt at er is e =
    e
    ∙ ap (λ x. x ++ row ∷ []) is
    ∙ ap (λ x. map member_of (take i ms) ++ x ∷ []) (er ∙ ap member_of at)
    ∙ sym (ap (map member_of) (take_more ms i m lt) ∙ map-append member_of (take i ms) (get_or ms i m ∷ []))

pub struct_made : (p : Program) (s : ℕ) (d : StructDef) (ms : List SlotMember) (held : List Member) (ls : List Leaf) (es : List StructDef) → held ≡ d.members → ms ≡ map member_of held → es ≡ p.defs → ls ≡ leaves_of es (Struct s)
    → IsStructOf p s d (record { size = d.size; members = ms; leaves = ls })
struct_made p s d ms held ls es eh em ee el = record { size = refl; members = em ∙ ap (map member_of) eh; leaves = el ∙ ap (λ x. leaves_of x (Struct s)) ee }

pub object_made : (p : Program) (o : ℕ) (row : ObjectRow) (name bytes : List ℕ) (n : ℕ) (start : List SlotStart) (ls ms : List Leaf) (xs : List Start) (ds es : List StructDef) → name ≡ bytes → bytes ≡ row.name → ds ≡ p.defs → n ≡ size_of ds row.ctype → es ≡ p.defs → ms ≡ leaves_of es row.ctype → ls ≡ ms → xs ≡ row.start → start ≡ starts_of ls xs
    → IsObjectOf p o row (record { name = name; size = n; start = start })
object_made p o row name bytes n start ls ms xs ds es e1 e2 ed en ee em el ex et = record {
  name = e1 ∙ e2;
  size = en ∙ ap (λ d. size_of d row.ctype) ed;
  start = et ∙ ap (λ l. starts_of l xs) (el ∙ em ∙ ap (λ d. leaves_of d row.ctype) ee) ∙ ap (λ x. starts_of (leaves_of p.defs row.ctype) x) ex;
}

pub strings_more : (r0 r1 ss : List (List ℕ)) (i : ℕ) (s v bytes : List ℕ) → i < length ss → s ≡ get_or ss i s → v ≡ bytes → bytes ≡ s → r0 ≡ take i ss → r1 ≡ r0 ++ v ∷ [] → r1 ≡ take (i + 1) ss
strings_more r0 r1 ss i s v bytes lt at ev eb is e = e ∙ ap (λ x. x ++ v ∷ []) is ∙ ap (λ x. take i ss ++ x ∷ []) (ev ∙ eb ∙ at) ∙ sym (take_more ss i s lt)
