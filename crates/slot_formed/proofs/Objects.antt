-- Objects that begin and end leave the activation's function and point.
use Rattle.std.proofs.Common.{◌≡◌, refl, ◌∙◌, ℕ, suc, List, [], ◌∷◌, Option, Some, None}
use Rattle.std.specs.Prelude.{Result, Ok, Err}
use Rattle.runs.specs.Runs.{Why}
use Rattle.c_store.specs.Store.{Value, with_first, ◌>>=◌}
use Rattle.c_store.specs.Frames.{Here, ActivationRecord, made, left}
use Rattle.slot_ir.specs.declared.code.SlotCode.{SlotCode}
use Rattle.slot_ir.specs.declared.code.SlotLocal.{SlotLocal}
use Rattle.slot_ir.specs.Operators.{extended}
use Rattle.slot_ir.specs.Slots.{local_row, zero_cells, zeroed_row, given_row, given}

made_point : (x size : ℕ) (cells : List _) (h : Here) → (made x size cells h).activation.point ≡ h.activation.point
unfolding made
made_point x size cells h = refl

made_function : (x size : ℕ) (cells : List _) (h : Here) → (made x size cells h).activation.function ≡ h.activation.function
unfolding made
made_function x size cells h = refl

pub left_point : (n : ℕ) (h : Here) → (left n h).activation.point ≡ h.activation.point
unfolding left
left_point n h = refl

pub left_function : (n : ℕ) (h : Here) → (left n h).activation.function ≡ h.activation.function
unfolding left
left_function n h = refl

-- the activation has the function and the point of another one
abbrev pub IsAs : ActivationRecord → Here → Type 0
IsAs a h = (h.activation.point ≡ a.point) × (h.activation.function ≡ a.function)

pub zeroed_as : (o : Option SlotLocal) (x : ℕ) (h : Here) → IsAs h.activation (zeroed_row o x h)
zeroed_as None x h = (made_point x 0 [] h, made_function x 0 [] h)
zeroed_as (Some l) x h = (made_point x l.size (zero_cells l.leaves) h, made_function x l.size (zero_cells l.leaves) h)

abbrev pub GivesAs : ActivationRecord → Result Here Why → Type 0
GivesAs a (Ok h) = IsAs a h
GivesAs a (Err w) = Unit {0}

row_as : (o : Option SlotLocal) (x : ℕ) (v : Value) (h : Here) → GivesAs h.activation (given_row o x v h)
row_as None x v h = (made_point x 0 [] h, made_function x 0 [] h)
row_as (Some l) x v h = by (extended l.access v)
  where
    cells : (r : Result (List _) Why) → GivesAs h.activation (r >>= λ cells. Ok (made x l.size cells h))
    cells (Err w) = tt
    cells (Ok cs) = (made_point x l.size cs h, made_function x l.size cs h)

    by : (r : Result Value Why) → GivesAs h.activation (r >>= λ u. with_first u (zero_cells l.leaves) >>= λ cells. Ok (made x l.size cells h))
    by (Err w) = tt
    by (Ok u) = cells (with_first u (zero_cells l.leaves))

pub given_as : (c : SlotCode) (f x : ℕ) (vs : List Value) (h : Here) → GivesAs h.activation (given c f x vs h)
given_as c f x [] h = (refl, refl)
given_as c f x (v ∷ vs) h = by (given_row (local_row c f x) x v h) (row_as (local_row c f x) x v h) (λ h'. given_as c f (suc x) vs h')
  where
    more : (h' : Here) → IsAs h.activation h' → (r : Result Here Why) → GivesAs h'.activation r → GivesAs h.activation r
    more h' e (Ok u) g = (g.0 ∙ e.0, g.1 ∙ e.1)
    more h' e (Err w) g = tt

    by : (r : Result Here Why) → GivesAs h.activation r → ((h' : Here) → GivesAs h'.activation (given c f (suc x) vs h')) → GivesAs h.activation (r >>= given c f (suc x) vs)
    by (Err w) g rest = tt
    by (Ok h') g rest = more h' g (given c f (suc x) vs h') (rest h')
