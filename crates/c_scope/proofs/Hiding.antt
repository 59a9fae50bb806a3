-- Names in scope, the innermost first.
use Rattle.std.proofs.Common.{◌≡◌, ◌≤◌, ◌<◌, ℕ, suc, ◌+◌, ◌-◌, Bool, true, false, ◌||◌, nat_le, if◌then◌else◌, List, [], ◌∷◌, ◌++◌, length, refl, sym, ap, ◌∙◌, subst, arith, Option, Some, None, option_map, slice_get, bytes_eq}
use Rattle.std.specs.Map.{update}
use Rattle.std.specs.Cmp.Lexicographic.{bytes_decides}
use Rattle.c_typing.specs.Declarations.{is_named}
use Rattle.c_scope.specs.declared.table.Shadowing.{Shadowing}
use Rattle.c_scope.specs.Environment.{Visible, number_of, innermost}
use Rattle.c_tree.specs.declared.types.CType.{CType}
use Rattle.c_judge.specs.declared.symbol.Symbol.{Symbol}
use Rattle.c_scope.specs.declared.link.Link.{Link}
use Rattle.c_scope.specs.Table.{Names, names_from, AreBelow, outermost}
use Rattle.c_scope.specs.Tabled.{seen, visible_from, Hide}

pub visible_push : (vs : List Visible) (ss : List Shadowing) (s : Shadowing) → visible_from vs (ss ++ s ∷ []) ≡ seen s ∷ visible_from vs ss
visible_push vs [] s = refl
visible_push vs (x ∷ ss) s = visible_push (seen x ∷ vs) ss s

pub hide_push : (vs : List Visible) (ss : List Shadowing) (s : Shadowing) → Hide vs ss → s.hidden ≡ number_of (visible_from vs ss) s.name.now → Hide vs (ss ++ s ∷ [])
hide_push vs [] s h e = (e, tt)
hide_push vs (x ∷ ss) s h e = (h.0, hide_push (seen x ∷ vs) ss s h.1 e)

pub hide_pop : (vs : List Visible) (ss : List Shadowing) (s : Shadowing) → Hide vs (ss ++ s ∷ []) → Hide vs ss × (s.hidden ≡ number_of (visible_from vs ss) s.name.now)
hide_pop vs [] s h = (tt, h.0)
hide_pop vs (x ∷ ss) s h = let r = hide_pop (seen x ∷ vs) ss s h.1 in ((h.0, r.0), r.1)

pub visible_length : (vs : List Visible) (ss : List Shadowing) → length (visible_from vs ss) ≡ length ss + length vs
visible_length vs [] = omega arith
visible_length vs (x ∷ ss) = let e = visible_length (seen x ∷ vs) ss in omega (arith, e)

pub below_more : (m n : ℕ) (vs : List Visible) → m ≤ n → AreBelow m vs → AreBelow n vs
below_more m n [] h b = tt
below_more m n (v ∷ vs) h b = let c = b.0 in (omega (arith, h, c), b.1)

pub below_pop : (n : ℕ) (v : Visible) (vs : List Visible) → AreBelow n (v ∷ vs) → AreBelow n vs
below_pop n v vs b = let c = b.0 in below_more v.number n vs (omega (arith, c)) b.1

is_from : ℕ → Option ℕ → Bool
is_from start None = false
is_from start (Some n) = nat_le start n

-- whether a name is one of the innermost block
outside : (start m : ℕ) (vs : List Visible) (t : List ℕ) → m ≤ start → AreBelow m vs → is_from start (number_of vs t) ≡ false
unfolding is_from
outside start m [] t h b = refl
outside start m (v ∷ vs) t h b =
    let c = b.0 in
    let e : nat_le start v.number ≡ false = grind (arith, h, c) in
    elim (bytes_eq v.name t) as (λ x. is_from start (if x then Some v.number else number_of vs t) ≡ false) [
      | true ↦ e
      | false ↦ outside start v.number vs t (omega (arith, h, c)) b.1
    ]

here_at : (start : ℕ) (v : Visible) (vs : List Visible) (t : List ℕ) (x : Bool) → nat_le start v.number ≡ x → AreBelow v.number vs → is_from start (number_of vs t) ≡ is_named (names_from start vs) t
    → is_from start (number_of (v ∷ vs) t) ≡ is_named (if x then v.name ∷ names_from start vs else []) t
unfolding is_from
here_at start v vs t true e b i = elim (bytes_eq v.name t) as (λ y. is_from start (if y then Some v.number else number_of vs t) ≡ (y || is_named (names_from start vs) t)) [ true ↦ e | false ↦ i ]
here_at start v vs t false e b i = elim (bytes_eq v.name t) as (λ y. is_from start (if y then Some v.number else number_of vs t) ≡ false) [ true ↦ e | false ↦ outside start v.number vs t (grind (arith, e)) b ]

here_all : (start m : ℕ) (vs : List Visible) (t : List ℕ) → AreBelow m vs → is_from start (number_of vs t) ≡ is_named (names_from start vs) t
unfolding is_from
here_all start m [] t b = refl
here_all start m (v ∷ vs) t b = here_at start v vs t (nat_le start v.number) refl b.1 (here_all start v.number vs t b.1)

pub here_none : (start m : ℕ) (vs : List Visible) (t : List ℕ) → AreBelow m vs → number_of vs t ≡ None → is_named (names_from start vs) t ≡ false
unfolding is_from
here_none start m vs t b e = sym (here_all start m vs t b) ∙ ap (is_from start) e

pub here_some : (start m : ℕ) (vs : List Visible) (t : List ℕ) (n : ℕ) → AreBelow m vs → number_of vs t ≡ Some n → is_named (names_from start vs) t ≡ nat_le start n
unfolding is_from
here_some start m vs t n b e = sym (here_all start m vs t b) ∙ ap (is_from start) e

-- ---- names come into scope and go out of it

module _ (numbers old : List ℕ → Option ℕ) (v : Visible) (vs : List Visible) where
  pub inner_found : ((t : List ℕ) → old t ≡ number_of vs t) → ((t : List ℕ) → numbers t ≡ update bytes_eq old v.name (Some v.number) t) → (t : List ℕ) → numbers t ≡ number_of (v ∷ vs) t
  inner_found f u t = u t ∙ ap (λ x. if bytes_eq v.name t then Some v.number else x) (f t)

  outer_at : (hidden : Option ℕ) → hidden ≡ number_of vs v.name → (t : List ℕ) (y : Bool) → bytes_eq v.name t ≡ y → (if y then hidden else (if y then Some v.number else number_of vs t)) ≡ number_of vs t
  outer_at hidden h t true e = h ∙ ap (number_of vs) ((bytes_decides v.name t).0 e)
  outer_at hidden h t false e = refl

  pub outer_found : (hidden : Option ℕ) → hidden ≡ number_of vs v.name → ((t : List ℕ) → old t ≡ number_of (v ∷ vs) t)
      → ((t : List ℕ) → numbers t ≡ update bytes_eq old v.name hidden t) → (t : List ℕ) → numbers t ≡ number_of vs t
  outer_found hidden h f u t = u t ∙ (ap (λ x. if bytes_eq v.name t then hidden else x) (f t) ∙ outer_at hidden h t (bytes_eq v.name t) refl)

pub found_itself : (v : Visible) (vs : List Visible) → number_of (v ∷ vs) v.name ≡ Some v.number
found_itself v vs = let e : bytes_eq v.name v.name ≡ true = (bytes_decides v.name v.name).1 refl in ap (λ x. if x then Some v.number else number_of vs v.name) e

pub outermost_less : (k : ℕ) (v : Visible) (vs : List Visible) → k < suc (length vs) → outermost k (v ∷ vs) ≡ outermost k vs
outermost_less k v vs h = let e : nat_le (suc (length vs)) k ≡ false = grind (arith, h) in ap (λ x. if x then v ∷ vs else outermost k vs) e

pub outermost_all : (k : ℕ) (vs : List Visible) → length vs ≤ k → outermost k vs ≡ vs
outermost_all k [] h = refl
outermost_all k (v ∷ vs) h = let e : nat_le (suc (length vs)) k ≡ true = grind (arith, h) in ap (λ x. if x then v ∷ vs else outermost k vs) e

pub outermost_below : (k n : ℕ) (vs : List Visible) → AreBelow n vs → AreBelow n (outermost k vs)
outermost_below k n [] b = tt
outermost_below k n (v ∷ vs) b = elim (nat_le (suc (length vs)) k) as (λ x. AreBelow n (if x then v ∷ vs else outermost k vs)) [ true ↦ b | false ↦ outermost_below k n vs (below_pop n v vs b) ]

-- ---- the last that came into scope

last_from : (vs : List Visible) (x : Shadowing) (ss : List Shadowing) → innermost (visible_from vs (x ∷ ss)) ≡ option_map (λ (s : Shadowing). s.number) (slice_get (x ∷ ss) (length ss))
last_from vs x [] = refl
last_from vs x (y ∷ ss) = last_from (seen x ∷ vs) y ss

IsNo : Option Shadowing → Type 0
IsNo None = Unit {0}
IsNo (Some s) = ⊥

pub last_number : (ss : List Shadowing) (s : Shadowing) → slice_get ss (length ss - 1) ≡ Some s → innermost (visible_from [] ss) ≡ Some s.number
unfolding IsNo
last_number [] s e = absurd (subst IsNo e tt)
last_number (x ∷ ss) s e =
    let n : length ss ≡ length (x ∷ ss) - 1 = omega arith in
    last_from [] x ss ∙ ap (option_map (λ (s : Shadowing). s.number)) (ap (λ k. slice_get (x ∷ ss) k) n ∙ e)

-- tables with the same parts are the same
pub names_same : (s s2 : List Symbol) (p p2 : List (List CType)) (l l2 : List Link) (v v2 : List Visible) (n : ℕ) → s ≡ s2 → p ≡ p2 → l ≡ l2 → v ≡ v2
    → ◌≡◌ {A = Names} (record { symbols = s; parameters = p; links = l; visible = v; start = n }) (record { symbols = s2; parameters = p2; links = l2; visible = v2; start = n })
names_same s s2 p p2 l l2 v v2 n a b c d = λ i. record { symbols = a i; parameters = b i; links = c i; visible = d i; start = n }

-- of the names so far none is declared from here on
pub none_from : (n : ℕ) (vs : List Visible) → AreBelow n vs → names_from n vs ≡ []
none_from n [] b = refl
none_from n (v ∷ vs) b = let c = b.0 in let e : nat_le n v.number ≡ false = grind (arith, c) in ap (λ x. if x then v.name ∷ names_from n vs else []) e
