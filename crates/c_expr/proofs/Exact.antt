-- Reading is exact.
use Rattle.std.proofs.Common.{◌≡◌, ℕ, ◌≤◌, ◌<◌, List, Option, Some, None, Err, map, sym, ◌∙◌, ap, subst, inl, inr}
use Rattle.std.proofs.lemmas.Bool.{cases_lt}
use Rattle.c_symbol.specs.declared.terminal.Terminal.{Terminal}
use Rattle.c_symbol.specs.Terminals.{terminal_of, terminals}
use Rattle.c_expr.specs.declared.frame.Least.TheVariants.{Expression}
use Rattle.c_expr.specs.declared.grown.Built.{Built}
use Rattle.c_expr.specs.declared.grown.Grown.{Grown}
use Rattle.c_trees.specs.Expressions.{Tree}
use Rattle.c_expr.specs.Grammar.{Spells}
use Rattle.c_lex.specs.declared.token.Token.{Token}
use Rattle.c_expr.specs.Machine.{start, whole, reading, Reads}
use Rattle.c_expr.specs.Feeding.{feed}
use Rattle.c_expr.proofs.Fed.{read_is}
use Rattle.c_expr.specs.Grown.{cut}
use Rattle.c_expr.specs.Parses.{Parses}
use Rattle.c_expr.specs.declared.state.SynFault.{SynFault}
use Rattle.c_expr.specs.declared.state.SynFault.TheVariants.{Syntax, Deep, NoMemory}
use Rattle.c_expr.proofs.Pieces.{cut_some, cut_none, piece}
use Rattle.c_expr.proofs.Complete.{complete}
use Rattle.c_expr.proofs.Standing.{Stands}
use Rattle.c_expr.proofs.Sound.{OnWhole, sound}

stands : (ts : List Terminal) (g : Grown) → reading Expression ts ≡ Some g → Stands 1 g ts
stands ts g e = let P : Option Grown → Type 0 = λ o. OnWhole Expression o ts in subst P e (sound Expression ts)

none_some : (b : Built) → None ≡ Some b → ⊥
none_some b k = cc

cut_is : (e : Tree) (h : ℕ) (b : Built) → cut e h ≡ Some b → (h ≤ 64) × (e ≡ b.expr) × (h ≡ b.height)
cut_is e h b k =
    elim (cases_lt 64 h) [
      | inl hi ↦ absurd (none_some b (sym (cut_none e h hi) ∙ k))
      | inr lo ↦ let make : Built = record { height = h; expr = e } in let yes : Some make ≡ Some b = sym (cut_some e h lo) ∙ k in let same : make ≡ b = cc in (lo, ap (λ x. x.expr) same, ap (λ x. x.height) same)
    ]

cut_high : (e : Tree) (h : ℕ) → cut e h ≡ None → 64 < h
cut_high e h k =
    elim (cases_lt 64 h) [
      | inl hi ↦ hi
      | inr lo ↦ absurd (none_some (record { height = h; expr = e }) (sym k ∙ cut_some e h lo))
    ]

pub is_tree : (ts : List Terminal) (g : Grown) (b : Built) → reading Expression ts ≡ Some g → g.tree ≡ Some b → (h : ℕ) × (h ≤ 64) × Spells ts b.expr h
is_tree ts g b e k =
    let d = stands ts g e in
    let c = cut_is d.tree d.height b (sym d.kept ∙ k) in
    let P : Tree → Type 0 = λ t. Spells ts t d.height in
    (d.height, c.0, subst P c.1 (g.place, d.is))

pub is_deep : (ts : List Terminal) (g : Grown) → reading Expression ts ≡ Some g → g.tree ≡ None → (e : Tree) × (h : ℕ) × (64 < h) × Spells ts e h
is_deep ts g e k =
    let d = stands ts g e in
    (d.tree, d.height, cut_high d.tree d.height (sym d.kept ∙ k), (g.place, d.is))

pub is_none : (ts : List Terminal) → reading Expression ts ≡ None → (e : Tree) (h : ℕ) → Spells ts e h → ⊥
is_none ts k e h d = let c = complete Expression d.1 in let no : None ≡ Some (piece c.0 e d.0 h) = sym k ∙ c.1 in cc

pub of_fault : (text : List ℕ) (tokens : List Token) (f : SynFault) → Reads (Err f) (whole Expression (feed (map (terminal_of text) tokens) None (start Expression))) → Parses (Err f) (terminals text tokens)
of_fault text tokens (Syntax _) k = is_none (terminals text tokens) (sym (read_is Expression text tokens) ∙ k)
of_fault text tokens (Deep _) k = absurd k
of_fault text tokens NoMemory k = tt

-- the tokens have one tree
pub one : (ts : List Terminal) (a b : Tree) (m n : ℕ) → m ≤ 64 → Spells ts a m → Spells ts b n → (a ≡ b) × (m ≡ n)
one ts a b m n low d d' =
    let c = complete Expression d.1 in
    let c' = complete Expression d'.1 in
    let same : Some (piece c.0 a d.0 m) ≡ Some (piece c'.0 b d'.0 n) = sym c.1 ∙ c'.1 in
    let tree_of : Option Grown → Option Built = elim [ None ↦ None | Some g ↦ g.tree ] in
    let cuts : cut b n ≡ Some (record { height = m; expr = a }) = sym (ap tree_of same) ∙ cut_some a m low in
    let k = cut_is b n (record { height = m; expr = a }) cuts in
    (sym k.1, sym k.2)
