-- Symbols that come into scope, as they are found and as they are added.
use Rattle.std.proofs.Common.{◌≡◌, ◌<◌, ◌≤◌, ℕ, zero, suc, ◌+◌, ◌-◌, List, [], ◌∷◌, ◌++◌, length, drop, get_or, slice_get, Some, None, if◌then◌else◌, refl, sym, ap, ◌∙◌, append_assoc, append-nil, arith}
use Rattle.std.proofs.lemmas.List.{at_drop_more}
use Rattle.std.proofs.lemmas.Bool.{lt-ltb, le-ltb}
use Rattle.obj_file.specs.declared.object.FunctionRow.{FunctionRow}
use Rattle.c_tree.specs.declared.rows.SymbolRow.{SymbolRow}
use Rattle.ps_text.specs.Code.{render}
use Rattle.ps_emit.specs.Grown.{Grows}
use Rattle.ps_emit.specs.Places.{Homes}
use Rattle.ps_emit.specs.Symbols.{up_in, coming, symbol_of, symbols_code}
use Rattle.ps_emit.proofs.Followed.{◌and◌}

-- a chain that ends, and one that goes on
pub coming_none : (n : ℕ) (ss : List SymbolRow) (made : ℕ) → coming n ss made None ≡ []
coming_none zero ss made = refl
coming_none (suc n) ss made = refl

pub coming_made : (n : ℕ) (ss : List SymbolRow) (made s : ℕ) → s < made → coming n ss made (Some s) ≡ []
coming_made zero ss made s l = refl
coming_made (suc n) ss made s l = ap (λ b. if b then [] else s ∷ coming n ss made (up_in (slice_get ss s))) (lt-ltb s made l)

pub coming_more : (n k : ℕ) (ss : List SymbolRow) (made s : ℕ) → n ≡ suc k → made ≤ s → coming n ss made (Some s) ≡ s ∷ coming k ss made (up_in (slice_get ss s))
coming_more n k ss made s e l =
    ap (λ m. coming m ss made (Some s)) e ∙ ap (λ b. if b then [] else s ∷ coming k ss made (up_in (slice_get ss s))) (le-ltb s made l)

-- the chain so far, and what still comes
pub chain_more : (front : List ℕ) (n i : ℕ) (ss : List SymbolRow) (made s : ℕ) (all : List ℕ) → i < n → made ≤ s
    → front ++ coming (n - i) ss made (Some s) ≡ all → (front ++ s ∷ []) ++ coming (n - (i + 1)) ss made (up_in (slice_get ss s)) ≡ all
chain_more front n i ss made s all within l e =
    append_assoc front (s ∷ []) (coming (n - (i + 1)) ss made (up_in (slice_get ss s))) ∙
    (ap (λ (xs : List ℕ). front ++ xs) (sym (coming_more (n - i) (n - (i + 1)) ss made s (omega arith) l)) ∙ e)

pub chain_ends : (front rest all : List ℕ) → rest ≡ [] → front ++ rest ≡ all → front ≡ all
chain_ends front rest all e h = sym (append-nil front) ∙ (ap (λ (xs : List ℕ). front ++ xs) (sym e) ∙ h)

-- one symbol more in front of those that are added
pub one_before : (fs : List FunctionRow) (homes : Homes) (ss : List SymbolRow) (xs : List ℕ) (i x : ℕ) (a b c : List ℕ) → i < length xs
    → x ≡ get_or xs (length xs - (i + 1)) 0 → b ≡ a ++ render (symbols_code fs homes ss (drop (length xs - i) xs)) → Grows (symbol_of fs homes x (slice_get ss x)) b c
    → c ≡ a ++ render (symbols_code fs homes ss (drop (length xs - (i + 1)) xs))
one_before fs homes ss xs i x a b c l e h g =
    let k : ℕ = length xs - (i + 1) in
    let next : length xs - i ≡ k + 1 = omega arith in
    let within : k < length xs = omega arith in
    let before : Grows (symbols_code fs homes ss (drop (k + 1) xs)) a b = record { text = h ∙ ap (λ n. a ++ render (symbols_code fs homes ss (drop n xs))) next } in
    (before and g).text ∙
    (ap (λ y. a ++ render (symbols_code fs homes ss (y ∷ drop (k + 1) xs))) e ∙
    sym (at_drop_more (λ ys. a ++ render (symbols_code fs homes ss ys)) xs k 0 within))
