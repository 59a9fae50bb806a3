-- Reading is exact.
use Rattle.std.proofs.Common.{◌≡◌, ℕ, ◌≤◌, ◌<◌, List, [], ◌∷◌, ◌++◌, Some, None, Err, map, refl, sym, ◌∙◌, ap, subst, append-nil, arith}
use Rattle.c_lex.specs.declared.token.Token.{Token}
use Rattle.c_symbol.specs.declared.terminal.Terminal.{Terminal}
use Rattle.c_symbol.specs.Terminals.{terminal_of, terminals}
use Rattle.c_expr.specs.declared.state.SynFault.{SynFault}
use Rattle.c_expr.specs.declared.state.SynFault.TheVariants.{Syntax, Deep, NoMemory}
use Rattle.c_trees.specs.declared.unit.External.{External}
use Rattle.c_syntax.specs.declared.state.Kept.{Kept}
use Rattle.c_syntax.specs.declared.state.Kept.TheVariants.{All, TooDeep}
use Rattle.c_syntax.specs.declared.state.Mode.{Mode}
use Rattle.c_syntax.specs.declared.state.Mode.TheVariants.{Between, Heading, Body}
use Rattle.c_syntax.specs.Grammar.{IsUnit, first_external, next_external}
use Rattle.c_syntax.specs.Machine.{Next, run, start, some_read, whole_mode, whole, reading, feed, Reads}
use Rattle.c_syntax.specs.Parses.{Parses, OneUnit}
use Rattle.c_syntax.proofs.Keeping.{KeptIs}
use Rattle.c_syntax.proofs.Fed.{read_is}
use Rattle.c_syntax.proofs.Complete.{Ending, unit_runs}
use Rattle.c_syntax.proofs.Sound.{Being, AreSome, nothing, some, SoFar, Holds, unit_sound}

-- a unit has an external declaration
snoc_some : {T : Type 0} (es : List T) (e : T) → es ++ e ∷ [] ≡ [] → ⊥
snoc_some [] e k = cc
snoc_some (x ∷ es) e k = cc

unit_some : {es : List External} {h : ℕ} {ts : List Terminal} → IsUnit es h ts → es ≡ [] → ⊥
unit_some (first_external {e} d) k = snoc_some [] e k
unit_some (next_external {es} {e} d d') k = snoc_some es e k

-- what is read of a unit
some_kept : (k : Kept) (es : List External) (h : ℕ) → KeptIs k es h → (es ≡ [] → ⊥) → some_read k ≡ Some k
some_kept (All []) es h d full = absurd (full (sym d.0))
some_kept (All (e ∷ fs)) es h d full = refl
some_kept (TooDeep at) es h d full = refl

pub reads_unit : Ending → {es : List External} {h : ℕ} {ts : List Terminal} → IsUnit es h ts → (k : Kept) × KeptIs k es h × (reading ts ≡ Some k)
reads_unit laws {es} {h} {ts} d =
    let r = unit_runs laws d in
    (r.0, r.1, ap (λ l. whole (run l start)) (sym (append-nil ts)) ∙ ap whole (r.2 []) ∙ some_kept r.0 es h r.1 (unit_some d))

-- what is read is a unit
kept_same : (k l : Kept) → Some k ≡ Some l → k ≡ l
kept_same k l e = cc

none_kept : (k : Kept) → None ≡ Some k → ⊥
none_kept k e = cc

some_same : (k l : Kept) → some_read k ≡ Some l → k ≡ l
some_same (All []) l e = absurd (none_kept l e)
some_same (All (x ∷ xs)) l e = kept_same (All (x ∷ xs)) l e
some_same (TooDeep at) l e = kept_same (TooDeep at) l e

empty_read : (h : ℕ) (k : Kept) → KeptIs k [] 0 → some_read k ≡ Some k → ⊥
empty_read h (All []) d e = none_kept (All []) e
empty_read h (All (x ∷ xs)) d e = let empty : x ∷ xs ≡ [] = d.0 in cc
empty_read h (TooDeep at) d e = omega (arith, d)

abbrev IsRead : Kept → List Terminal → Type 0
IsRead k ts = (es : List External) × (h : ℕ) × IsUnit es h ts × KeptIs k es h

some_unit : {es : List External} {h : ℕ} {ts : List Terminal} → AreSome es h ts → (k : Kept) → KeptIs k es h → some_read k ≡ Some k → IsRead k ts
some_unit nothing k d e = absurd (empty_read 0 k d e)
some_unit (some {es} {h} u) k d e = (es, h, u, d)

so_read : (k l : Kept) (ts : List Terminal) → SoFar k ts → some_read k ≡ Some l → IsRead l ts
so_read k l ts d e =
    let same : k ≡ l = some_same k l e in
    let P : Kept → Type 0 = λ x. IsRead x ts in
    subst P same (some_unit d.2 k d.3 (e ∙ ap Some (sym same)))

mode_read : (m : Mode) (k l : Kept) (ts : List Terminal) → Holds m k ts → whole_mode m k ≡ Some l → IsRead l ts
mode_read Between k l ts d e = so_read k l ts d e
mode_read (Heading p) k l ts d e = absurd (none_kept l e)
mode_read (Body at brace f r) k l ts d e = absurd (none_kept l e)

whole_read : Being → (ts : List Terminal) (n : Next) (k : Kept) → run ts start ≡ n → whole n ≡ Some k → IsRead k ts
whole_read laws ts None k r e = absurd (none_kept k e)
whole_read laws ts (Some q) k r e = mode_read q.mode q.kept k ts (unit_sound laws ts q r) e

pub read_unit : Being → (ts : List Terminal) (k : Kept) → reading ts ≡ Some k → IsRead k ts
read_unit laws ts k e = whole_read laws ts (run ts start) k refl e

-- the answers
pub is_unit : Being → (ts : List Terminal) (es : List External) → reading ts ≡ Some (All es) → (h : ℕ) × (h ≤ 64) × IsUnit es h ts
is_unit laws ts es e =
    let d = read_unit laws ts (All es) e in
    let P : List External → Type 0 = λ l. IsUnit l d.1 ts in
    (d.1, d.3.1, subst P (sym d.3.0) d.2)

pub is_deep : Being → (ts : List Terminal) (at : _) → reading ts ≡ Some (TooDeep at) → (es : List External) × (h : ℕ) × (64 < h) × IsUnit es h ts
is_deep laws ts at e = let d = read_unit laws ts (TooDeep at) e in (d.0, d.1, d.3, d.2)

pub is_none : Ending → (ts : List Terminal) → reading ts ≡ None → (es : List External) (h : ℕ) → IsUnit es h ts → ⊥
is_none laws ts e es h d = let r = reads_unit laws d in none_kept r.0 (sym e ∙ r.2)

pub of_fault : Ending → (text : List ℕ) (tokens : List Token) (f : SynFault) → Reads (Err f) (whole (feed (map (terminal_of text) tokens) None start)) → Parses (Err f) (terminals text tokens)
of_fault laws text tokens (Syntax _) k = is_none laws (terminals text tokens) (sym (read_is text tokens) ∙ k)
of_fault laws text tokens (Deep _) k = absurd k
of_fault laws text tokens NoMemory k = tt

-- one unit at most
same_units : (k l : Kept) (a b : List External) (m n : ℕ) → k ≡ l → m ≤ 64 → KeptIs k a m → KeptIs l b n → (a ≡ b) × (n ≤ 64)
same_units (All xs) (All ys) a b m n e low d d' =
    let list : Kept → List External = elim [ All es ↦ es | TooDeep at ↦ [] ] in
    let same : xs ≡ ys = ap list e in
    (sym d.0 ∙ same ∙ d'.0, d'.1)
same_units (All xs) (TooDeep at) a b m n e low d d' = cc
same_units (TooDeep at) l a b m n e low d d' = absurd (omega (arith, d, low))

pub one : Ending → OneUnit
one laws ts a b m n low d d' =
    let r = reads_unit laws d in
    let r' = reads_unit laws d' in
    same_units r.0 r'.0 a b m n (kept_same r.0 r'.0 (sym r.2 ∙ r'.2)) low r.1 r'.1
