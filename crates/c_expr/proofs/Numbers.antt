-- What the levels of operators and frames have to do with one another.
use Rattle.std.proofs.Common.{◌≡◌, ◌⊎◌, ℕ, ◌+◌, ◌≤◌, ◌<◌, List, [], ◌∷◌, refl, inl, inr, arith, lit≤, lit<, None}
use Rattle.c_symbol.specs.declared.symbol.BinaryOp.{BinaryOp}
use Rattle.c_symbol.specs.declared.symbol.BinaryOp.TheVariants.{Comma, Assign, LogicalOr, LogicalAnd, BitOr, BitXor, BitAnd, Equal, NotEqual, Less, Greater, LessEqual, GreaterEqual, ShiftLeft, ShiftRight, Add, Subtract, Multiply, Divide, Remainder}
use Rattle.c_symbol.specs.declared.symbol.PrefixOp.{PrefixOp}
use Rattle.c_symbol.specs.declared.symbol.PrefixOp.TheVariants.{Step, Address, Dereference, Plus, Minus, Complement, Not, Sizeof}
use Rattle.c_expr.specs.declared.grown.Grown.{Grown}
use Rattle.c_expr.specs.declared.frame.Frame.{Frame}
use Rattle.c_expr.specs.declared.frame.Least.{Least}
use Rattle.c_expr.specs.declared.frame.Least.TheVariants.{Expression, Assignment, Constant}
use Rattle.c_expr.specs.declared.frame.Frame.TheVariants.{Start, Prefix, Typed, Nest, Bound, Cast, Binary, Then, Else, Paren, Index, Begun, Call}
use Rattle.c_expr.specs.Levels.{level_of, left_of, ends_of, right_of, operand_of}
use Rattle.c_expr.specs.Frames.{least_of, frame_level, top_level, need_of, need, reduce, sizeof_place}
use Rattle.c_expr.proofs.Pieces.{if_false, gt-leb}

-- an assignment's level, those on its sides and the one at which it ends others; or those of another operator
pub record Assigns (level left ends right : ℕ) : Type 0 where
  pub level_is : level ≡ 2
  pub left_is : left ≡ 15
  pub ends_is : ends ≡ 14
  pub right_is : right ≡ 2

pub record Joins (level left ends right : ℕ) : Type 0 where
  pub left_is : left ≡ level
  pub ends_is : ends ≡ level
  pub right_is : right ≡ level + 1
  pub which : (level ≡ 1) ⊎ (4 ≤ level)
  pub most : level ≤ 13

abbrev pub Kinds : ℕ → ℕ → ℕ → ℕ → Type 0
Kinds level left ends right = Assigns level left ends right ⊎ Joins level left ends right

joins : (k : ℕ) → (k ≡ 1) ⊎ (4 ≤ k) → k ≤ 13 → Joins k k k (k + 1)
joins k w m = record { left_is = refl; ends_is = refl; right_is = refl; which = w; most = m }

pub kinds : (op : BinaryOp) → Kinds (level_of op) (left_of op) (ends_of op) (right_of op)
kinds Comma = inr (joins 1 (inl refl) (lit≤ tt))
kinds (Assign _) = inl (record { level_is = refl; left_is = refl; ends_is = refl; right_is = refl })
kinds LogicalOr = inr (joins 4 (inr (lit≤ tt)) (lit≤ tt))
kinds LogicalAnd = inr (joins 5 (inr (lit≤ tt)) (lit≤ tt))
kinds BitOr = inr (joins 6 (inr (lit≤ tt)) (lit≤ tt))
kinds BitXor = inr (joins 7 (inr (lit≤ tt)) (lit≤ tt))
kinds BitAnd = inr (joins 8 (inr (lit≤ tt)) (lit≤ tt))
kinds Equal = inr (joins 9 (inr (lit≤ tt)) (lit≤ tt))
kinds NotEqual = inr (joins 9 (inr (lit≤ tt)) (lit≤ tt))
kinds Less = inr (joins 10 (inr (lit≤ tt)) (lit≤ tt))
kinds Greater = inr (joins 10 (inr (lit≤ tt)) (lit≤ tt))
kinds LessEqual = inr (joins 10 (inr (lit≤ tt)) (lit≤ tt))
kinds GreaterEqual = inr (joins 10 (inr (lit≤ tt)) (lit≤ tt))
kinds ShiftLeft = inr (joins 11 (inr (lit≤ tt)) (lit≤ tt))
kinds ShiftRight = inr (joins 11 (inr (lit≤ tt)) (lit≤ tt))
kinds Add = inr (joins 12 (inr (lit≤ tt)) (lit≤ tt))
kinds Subtract = inr (joins 12 (inr (lit≤ tt)) (lit≤ tt))
kinds Multiply = inr (joins 13 (inr (lit≤ tt)) (lit≤ tt))
kinds Divide = inr (joins 13 (inr (lit≤ tt)) (lit≤ tt))
kinds Remainder = inr (joins 13 (inr (lit≤ tt)) (lit≤ tt))

pub level_most : (op : BinaryOp) → level_of op ≤ 13
level_most op = elim (kinds op) [ inl k ↦ omega (arith, k.level_is) | inr k ↦ k.most ]

pub level_left : (op : BinaryOp) → level_of op ≤ left_of op
level_left op = elim (kinds op) [ inl k ↦ omega (arith, k.level_is, k.left_is) | inr k ↦ omega (arith, k.left_is) ]

pub level_right : (op : BinaryOp) → level_of op ≤ right_of op
level_right op = elim (kinds op) [ inl k ↦ omega (arith, k.level_is, k.right_is) | inr k ↦ omega (arith, k.right_is) ]

pub ends_left : (op : BinaryOp) → ends_of op ≤ left_of op
ends_left op = elim (kinds op) [ inl k ↦ omega (arith, k.ends_is, k.left_is) | inr k ↦ omega (arith, k.left_is, k.ends_is) ]

pub ends_most : (op : BinaryOp) → ends_of op ≤ 14
ends_most op = elim (kinds op) [ inl k ↦ omega (arith, k.ends_is) | inr k ↦ omega (arith, k.most, k.ends_is) ]

pub ends_least : (op : BinaryOp) → 1 ≤ ends_of op
ends_least op = elim (kinds op) [ inl k ↦ omega (arith, k.ends_is) | inr k ↦ elim k.which [ inl o ↦ omega (arith, k.ends_is, o) | inr o ↦ omega (arith, k.ends_is, o) ] ]

pub right_most : (op : BinaryOp) → right_of op ≤ 15
right_most op = elim (kinds op) [ inl k ↦ omega (arith, k.right_is) | inr k ↦ omega (arith, k.right_is, k.most) ]

pub operand_least : (op : PrefixOp) → 14 ≤ operand_of op
operand_least (Step _) = lit≤ tt
operand_least Address = lit≤ tt
operand_least Dereference = lit≤ tt
operand_least Plus = lit≤ tt
operand_least Minus = lit≤ tt
operand_least Complement = lit≤ tt
operand_least Not = lit≤ tt
operand_least Sizeof = lit≤ tt

pub operand_most : (op : PrefixOp) → operand_of op ≤ 15
operand_most (Step _) = lit≤ tt
operand_most Address = lit≤ tt
operand_most Dereference = lit≤ tt
operand_most Plus = lit≤ tt
operand_most Minus = lit≤ tt
operand_most Complement = lit≤ tt
operand_most Not = lit≤ tt
operand_most Sizeof = lit≤ tt

-- a frame's level against what it needs
abbrev pub Waits : ℕ → ℕ → Type 0
Waits level wants = (level < wants) ⊎ (((level ≤ wants) × (wants ≡ 2)) ⊎ (((level ≤ wants) × (wants ≡ 3)) ⊎ (14 ≤ wants)))

binary_waits : (op : BinaryOp) → Waits (level_of op) (right_of op)
binary_waits op = elim (kinds op) [ inl k ↦ inr (inl (omega (arith, k.level_is, k.right_is), k.right_is)) | inr k ↦ inl (omega (arith, k.right_is)) ]

start_waits : (least : Least) → Waits 0 (least_of least)
start_waits Expression = inl (lit< tt)
start_waits Assignment = inl (lit< tt)
start_waits Constant = inl (lit< tt)

pub frame_waits : (f : Frame) → Waits (frame_level f) (need_of f)
frame_waits (Start least) = start_waits least
frame_waits (Prefix _ op) = inr (inr (inr (operand_least op)))
frame_waits (Typed _ _) = inl (lit< tt)
frame_waits (Nest _) = inl (lit< tt)
frame_waits (Bound _) = inl (lit< tt)
frame_waits (Cast _ _ _) = inr (inr (inr (lit≤ tt)))
frame_waits (Binary op _) = binary_waits op
frame_waits (Then _) = inl (lit< tt)
frame_waits (Else _ _) = inr (inr (inl (lit≤ tt, refl)))
frame_waits (Paren _) = inl (lit< tt)
frame_waits (Index _) = inl (lit< tt)
frame_waits (Begun _) = inl (lit< tt)
frame_waits (Call _) = inl (lit< tt)

-- each frame waits for something
some_wants : (level wants : ℕ) → Waits level wants → 1 ≤ wants
some_wants level wants (inl w) = omega arith
some_wants level wants (inr (inl w)) = omega (arith, w.1)
some_wants level wants (inr (inr (inl w))) = omega (arith, w.1)
some_wants level wants (inr (inr (inr w))) = omega arith

pub needs_some : (f : Frame) → 1 ≤ need_of f
needs_some f = some_wants (frame_level f) (need_of f) (frame_waits f)

pub least_some : (least : Least) → 1 ≤ least_of least
least_some least = needs_some (Start least)

pub least_most : (least : Least) → least_of least ≤ 14
least_most Expression = lit≤ tt
least_most Assignment = lit≤ tt
least_most Constant = lit≤ tt

below : (level wants l left ends right : ℕ) → Waits level wants → Kinds l left ends right → wants ≤ l → level < ends
below level wants l left ends right (inl w) (inl k) h = omega (arith, k.level_is, k.ends_is)
below level wants l left ends right (inl w) (inr k) h = omega (arith, k.ends_is)
below level wants l left ends right (inr (inl w)) (inl k) h = omega (arith, k.level_is, k.ends_is, w.0, w.1)
below level wants l left ends right (inr (inl w)) (inr k) h = elim k.which [ inl o ↦ absurd (omega (arith, w.1, o)) | inr o ↦ omega (arith, w.0, w.1, o, k.ends_is) ]
below level wants l left ends right (inr (inr (inl w))) (inl k) h = absurd (omega (arith, k.level_is, w.1))
below level wants l left ends right (inr (inr (inl w))) (inr k) h = elim k.which [ inl o ↦ absurd (omega (arith, w.1, o)) | inr o ↦ omega (arith, w.0, w.1, o, k.ends_is) ]
below level wants l left ends right (inr (inr (inr w))) (inl k) h = absurd (omega (arith, k.level_is))
below level wants l left ends right (inr (inr (inr w))) (inr k) h = absurd (omega (arith, k.most))

below_four : (level wants : ℕ) → Waits level wants → wants ≤ 3 → level < 4
below_four level wants (inl w) h = omega arith
below_four level wants (inr (inl w)) h = omega (arith, w.0)
below_four level wants (inr (inr (inl w))) h = omega (arith, w.0)
below_four level wants (inr (inr (inr w))) h = absurd (omega arith)

-- what waits on the stack is not ended where it binds less tightly
pub stays : (level : ℕ) (g : Grown) (s : List Frame) → top_level s < level → reduce level g s ≡ (g, s)
stays level g [] h = refl
stays level g (f ∷ s) h = if_false _ _ _ (gt-leb level (frame_level f) h)

pub before_operator : (op : BinaryOp) (g : Grown) (s : List Frame) → need s ≤ level_of op → reduce (ends_of op) g s ≡ (g, s)
before_operator op g [] h = refl
before_operator op g (f ∷ s) h = stays (ends_of op) g (f ∷ s) (below _ _ _ _ _ _ (frame_waits f) (kinds op) h)

pub before_choice : (g : Grown) (s : List Frame) → need s ≤ 3 → reduce 4 g s ≡ (g, s)
before_choice g [] h = refl
before_choice g (f ∷ s) h = stays 4 g (f ∷ s) (below_four _ _ (frame_waits f) h)

sizeof_waits : (op : PrefixOp) (at : _) (s : List Frame) → operand_of op ≤ 14 → sizeof_place (Prefix at op ∷ s) ≡ None
sizeof_waits (Step _) at s h = refl
sizeof_waits Address at s h = refl
sizeof_waits Dereference at s h = refl
sizeof_waits Plus at s h = refl
sizeof_waits Minus at s h = refl
sizeof_waits Complement at s h = refl
sizeof_waits Not at s h = refl
sizeof_waits Sizeof at s h = absurd (omega arith)

pub no_sizeof : (s : List Frame) → need s ≤ 14 → sizeof_place s ≡ None
no_sizeof [] h = refl
no_sizeof (Prefix at op ∷ s) h = sizeof_waits op at s h
no_sizeof (Start _ ∷ s) h = refl
no_sizeof (Typed _ _ ∷ s) h = refl
no_sizeof (Nest _ ∷ s) h = refl
no_sizeof (Bound _ ∷ s) h = refl
no_sizeof (Cast _ _ _ ∷ s) h = refl
no_sizeof (Binary _ _ ∷ s) h = refl
no_sizeof (Then _ ∷ s) h = refl
no_sizeof (Else _ _ ∷ s) h = refl
no_sizeof (Paren _ ∷ s) h = refl
no_sizeof (Index _ ∷ s) h = refl
no_sizeof (Begun _ ∷ s) h = refl
no_sizeof (Call _ ∷ s) h = refl
