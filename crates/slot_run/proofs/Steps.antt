-- The loops that look through a program.
use Rattle.std.proofs.Common.{◌≡◌, ℕ, zero, suc, ◌+◌, ◌<◌, ◌≤◌, List, [], ◌∷◌, Some, length, refl, sym, ap, ◌∙◌, arith, subst, get_or, drop, true, false}
use Rattle.std.specs.Prelude.{Result, Ok, Err, IfOk, ◌%◌, ◌^◌, max, slice_get, Bool, not, ◌&&◌, bytes_eq, codes, if◌then◌else◌}
use Rattle.std.specs.Int.{next_multiple_of}
use Rattle.std.proofs.Math.Seq.{drop-cons}
use borrow.Author.Count.{below_more}
use Rattle.std.proofs.lemmas.Option.{slice_get-get_or, slice_get_within}
use Rattle.c_tree.specs.declared.types.CType.{CType}
use Rattle.c_tree.specs.declared.types.Member.{Member}
use Rattle.c_tree.specs.declared.types.StructDef.{StructDef}
use Rattle.c_tree.specs.declared.types.Leaf.{Leaf}
use Rattle.c_tree.specs.declared.rows.Function.{Function}
use Rattle.c_tree.specs.declared.rows.ObjectRow.{ObjectRow}
use Rattle.c_tree.specs.declared.rows.Program.{Program}
use Rattle.c_tree.specs.declared.rows.Start.{Start}
use Rattle.c_tree.specs.Layout.{size_of, leaves_of, alignment_of, alignment_of_members, AreLaid, IsLaidOut}
use Rattle.c_tree.specs.Listed.{kept_at}
use Rattle.c_tree.specs.Ordered.{LieIn, width_of, AllLaidOut}
use Rattle.c_source.specs.Begin.{main_from}
use Rattle.slot_gen.specs.Rows.{AreFitting, AllFitting, IsLowerable}

-- ---- offsets below 2^32

lies : (from end : ℕ) (ls : List Leaf) → LieIn from ls end → from ≤ end
lies from end [] h = h
lies from end (l ∷ ls) h = let below = lies (l.at + width_of l.kind) end ls h.1 in let here = h.0 in omega arith

small : (n : ℕ) → n < 2 ^ 32 → n % 2 ^ 32 ≡ n
small n h = omega arith

pub kept_same : (from end : ℕ) (ls : List Leaf) → end ≤ 1048576 → LieIn from ls end → kept_at 0 ls ≡ ls
kept_same from end [] h e = refl
kept_same from end (l ∷ ls) h e =
    let below = lies (l.at + width_of l.kind) end ls e.1 in
    let s : (0 + l.at) % 2 ^ 32 ≡ l.at = small (0 + l.at) (omega arith) ∙ omega arith in
    let rest = kept_same (l.at + width_of l.kind) end ls h e.1 in
    ap (λ n. record l { at = n } ∷ kept_at 0 ls) s ∙ ap (λ x. l ∷ x) rest

-- ---- what is left

pub none_left : {A : Type 0} (j : ℕ) (l : List A) → length l ≤ j → drop j l ≡ []
none_left zero [] h = refl
none_left (suc j) [] h = refl
none_left zero (x ∷ l) h = absurd (omega arith)
none_left (suc j) (x ∷ l) h = none_left j l (omega arith)

pub one_left : {A : Type 0} (i : ℕ) (l : List A) (x : A) → i < length l → x ≡ get_or l i x → drop i l ≡ x ∷ drop (i + 1) l
one_left i l x lt at =
    let next : i + 1 ≡ suc i = omega arith in
    drop-cons l i x lt ∙ ap (λ y. y ∷ drop (suc i) l) (sym at) ∙ ap (λ j. x ∷ drop j l) (sym next)

-- ---- alignment

pub positive : (f : CType → ℕ) (ms : List Member) → 1 ≤ alignment_of_members f ms
positive f [] = omega arith
positive f (m ∷ ms) = let rest = positive f ms in omega arith

pub largest_more : (f : CType → ℕ) (i : ℕ) (ms : List Member) (m : Member) (a b c all : ℕ) → i < length ms → m ≡ get_or ms i m → b ≡ f m.ctype → c ≡ max a b
    → max a (alignment_of_members f (drop i ms)) ≡ all → max c (alignment_of_members f (drop (i + 1) ms)) ≡ all
largest_more f i ms m a b c all lt at eb ec h =
    let rest : ℕ = alignment_of_members f (drop (i + 1) ms) in
    let e : alignment_of_members f (drop i ms) ≡ max (f m.ctype) rest = ap (alignment_of_members f) (one_left i ms m lt at) in
    omega (arith, e)

pub largest_end : (f : CType → ℕ) (i : ℕ) (ms : List Member) (a all : ℕ) → length ms ≤ i → 1 ≤ a → max a (alignment_of_members f (drop i ms)) ≡ all → a ≡ all
largest_end f i ms a all le h e =
    let none : alignment_of_members f (drop i ms) ≡ 1 = ap (alignment_of_members f) (none_left i ms le) in
    omega (arith, none)

pub largest_begin : (f : CType → ℕ) (ms : List Member) → max 1 (alignment_of_members f ms) ≡ alignment_of_members f ms
largest_begin f ms = let least = positive f ms in omega arith

-- ---- members

pub laid_more : (defs : List StructDef) (from next i : ℕ) (ms : List Member) (m : Member) (end : ℕ) → i < length ms → m ≡ get_or ms i m
    → m.at ≡ next_multiple_of from (alignment_of defs m.ctype) → next ≡ m.at + size_of defs m.ctype → AreLaid defs next (drop (i + 1) ms) end → AreLaid defs from (drop i ms) end
laid_more defs from next i ms m end lt at here e rest =
    subst (λ l. AreLaid defs from l end) (sym (one_left i ms m lt at)) (here, subst (λ n. AreLaid defs n (drop (i + 1) ms) end) e rest)

pub laid_end : (defs : List StructDef) (from i : ℕ) (ms : List Member) → length ms ≤ i → AreLaid defs from (drop i ms) from
laid_end defs from i ms le = subst (λ l. AreLaid defs from l from) (sym (none_left i ms le)) refl

-- the structs in front of one are laid out
abbrev pub AreLaidBelow : List StructDef → ℕ → Type 0
AreLaidBelow defs i = (s : ℕ) → s < i → (d : StructDef) → slice_get defs s ≡ Some d → IsLaidOut defs d

this_one : (defs : List StructDef) (i : ℕ) (def : StructDef) → slice_get defs i ≡ Some def → IsLaidOut defs def → (d : StructDef) → slice_get defs i ≡ Some d → IsLaidOut defs d
this_one defs i def at here d e = let same : def ≡ d = cc in subst (λ x. IsLaidOut defs x) same here

pub one_laid : (defs : List StructDef) (i : ℕ) (def : StructDef) → i < length defs → def ≡ get_or defs i def → IsLaidOut defs def → AreLaidBelow defs i → AreLaidBelow defs (i + 1)
one_laid defs i def lt at here below =
    below_more (λ s. (d : StructDef) → slice_get defs s ≡ Some d → IsLaidOut defs d) i below (this_one defs i def (slice_get-get_or defs i def lt ∙ ap Some (sym at)) here)

pub all_laid : (defs : List StructDef) (i : ℕ) → length defs ≤ i → AreLaidBelow defs i → AllLaidOut defs
all_laid defs i le below s d e = let lt = slice_get_within defs s d e in below s (omega arith) d e

-- ---- objects

nothing_fits : (ls : List Leaf) → AreFitting ls []
nothing_fits [] = tt
nothing_fits (l ∷ ls) = tt

pub fitting_end : (i : ℕ) (ls : List Leaf) (xs : List Start) → length xs ≤ i → AreFitting (drop i ls) (drop i xs)
fitting_end i ls xs le = subst (λ x. AreFitting (drop i ls) x) (sym (none_left i xs le)) (nothing_fits (drop i ls))

-- the leaves that were listed are the type's
pub row_fits : (defs es : List StructDef) (t : CType) (items shown : List Leaf) (start xs : List Start) → es ≡ defs → LieIn 0 (leaves_of defs t) (size_of defs t) → size_of es t ≤ 1048576
    → items ≡ kept_at 0 (leaves_of es t) → shown ≡ items → xs ≡ start → AreFitting shown xs → AreFitting (leaves_of defs t) start
row_fits defs es t items shown start xs ee lie small_size ei el ex fit =
    let same : kept_at 0 (leaves_of defs t) ≡ leaves_of defs t = kept_same 0 (size_of defs t) (leaves_of defs t) (subst (λ d. size_of d t ≤ 1048576) ee small_size) lie in
    let all : shown ≡ leaves_of defs t = el ∙ ei ∙ ap (λ d. kept_at 0 (leaves_of d t)) ee ∙ same in
    subst (λ l. AreFitting l start) all (subst (λ x. AreFitting shown x) ex fit)

pub fitting_more : (p : Program) (i : ℕ) (rows : List ObjectRow) (row : ObjectRow) → i < length rows → row ≡ get_or rows i row
    → AreFitting (leaves_of p.defs row.ctype) row.start → AllFitting p (drop (i + 1) rows) → AllFitting p (drop i rows)
fitting_more p i rows row lt at here rest = subst (λ x. AllFitting p x) (sym (one_left i rows row lt at)) (here, rest)

-- ---- `main`

main_here : (n : ℕ) (f : Function) (rest : List Function) → (not f.is_static && bytes_eq f.name (codes "main")) ≡ true → main_from n (f ∷ rest) ≡ n
main_here n f rest e = ap (λ b. if b then n else main_from (suc n) rest) e

main_later : (n : ℕ) (f : Function) (rest : List Function) → (not f.is_static && bytes_eq f.name (codes "main")) ≡ false → main_from n (f ∷ rest) ≡ main_from (suc n) rest
main_later n f rest e = ap (λ b. if b then n else main_from (suc n) rest) e

pub main_found : (all : ℕ) (fs : List Function) (i : ℕ) (f : Function) (b : Bool) → i < length fs → f ≡ get_or fs i f → b ≡ (not f.is_static && bytes_eq f.name (codes "main")) → b ≡ true → main_from i (drop i fs) ≡ all → i ≡ all
main_found all fs i f b lt at e holds is =
    sym (ap (main_from i) (one_left i fs f lt at) ∙ main_here i f (drop (i + 1) fs) (sym e ∙ holds)) ∙ is

pub main_more : (all : ℕ) (fs : List Function) (i : ℕ) (f : Function) (b : Bool) → i < length fs → f ≡ get_or fs i f → b ≡ (not f.is_static && bytes_eq f.name (codes "main")) → b ≡ false → main_from i (drop i fs) ≡ all → main_from (i + 1) (drop (i + 1) fs) ≡ all
main_more all fs i f b lt at e fails is =
    let next : suc i ≡ i + 1 = omega arith in
    ap (λ k. main_from k (drop (i + 1) fs)) (sym next)
    ∙ sym (ap (main_from i) (one_left i fs f lt at) ∙ main_later i f (drop (i + 1) fs) (sym e ∙ fails))
    ∙ is

pub main_at : (all : ℕ) (fs : List Function) (i : ℕ) (f : Function) → i < length fs → f ≡ get_or fs i f → i ≡ all → slice_get fs all ≡ Some f
main_at all fs i f lt at e = ap (slice_get fs) (sym e) ∙ slice_get-get_or fs i f lt ∙ ap Some (sym at)

-- ---- the whole

pub lowerable : {E : Type 0} (p : Program) (answer : Result Bool E) (defs : List StructDef) (objects : List ObjectRow) (fs : List Function) → defs ≡ p.defs → objects ≡ p.objects → fs ≡ p.functions
    → AllLaidOut defs → (main : Function) × (slice_get fs (main_from 0 fs) ≡ Some main) × (main.params ≡ 0)
    → IfOk answer (λ b. b ≡ true → AllFitting p objects) → IfOk answer (λ b. b ≡ true → IsLowerable p)
lowerable p (Ok b) defs objects fs ed eo ef laid main fitting = λ e. record {
  laid_out = subst (λ d. AllLaidOut d) ed laid;
  fitting = subst (λ x. AllFitting p x) eo (fitting e);
  main = subst (λ x. (main : Function) × (slice_get x (main_from 0 x) ≡ Some main) × (main.params ≡ 0)) ef main;
}
lowerable p (Err x) defs objects fs ed eo ef laid main fitting = tt
