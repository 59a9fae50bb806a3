-- Temporaries of an operator and of code.
use Rattle.std.proofs.Common.{◌≡◌, ℕ, zero, suc, ◌+◌, ◌<◌, ◌≤◌, max, List, [], ◌∷◌, length, arith, slice_index_or, drop, subst}
use Rattle.slot_ir.specs.declared.code.SlotOp.{SlotOp}
use Rattle.slot_ir.specs.declared.code.SlotOp.TheVariants.{Const, Null, StaticAddress, TextAddress, LocalAddress, Load, Store, ReadRegister, WriteRegister, Convert, Unary, Binary, Compare, Index, Distance, Offset, Take, Jump, JumpIfZero, JumpIfNotZero, JumpIfEqual, Call, Return, Stop, Move, Zero, Leave, GetChar, PutChar, Exit}
use Rattle.slot_gen.specs.Bounds.{IsBelow, AreBelow}

pub below_more : (n m : ℕ) → n ≤ m → (o : SlotOp) → IsBelow n o → IsBelow m o
below_more n m h (Const d b) e = omega (arith, h, e)
below_more n m h (Null d) e = omega (arith, h, e)
below_more n m h (StaticAddress d o) e = omega (arith, h, e)
below_more n m h (TextAddress d k) e = omega (arith, h, e)
below_more n m h (LocalAddress d x) e = omega (arith, h, e)
below_more n m h (Load d i k a) e = (omega (arith, h, e.0), omega (arith, h, e.1))
below_more n m h (Store i j k) e = (omega (arith, h, e.0), omega (arith, h, e.1))
below_more n m h (ReadRegister d x k a) e = omega (arith, h, e)
below_more n m h (WriteRegister j x k) e = omega (arith, h, e)
below_more n m h (Convert d a) e = omega (arith, h, e)
below_more n m h (Unary d u) e = omega (arith, h, e)
below_more n m h (Binary d i j u) e = (omega (arith, h, e.0), omega (arith, h, e.1), omega (arith, h, e.2))
below_more n m h (Compare d i j u) e = (omega (arith, h, e.0), omega (arith, h, e.1), omega (arith, h, e.2))
below_more n m h (Index d i j s u b) e = (omega (arith, h, e.0), omega (arith, h, e.1), omega (arith, h, e.2))
below_more n m h (Distance d i j s) e = (omega (arith, h, e.0), omega (arith, h, e.1), omega (arith, h, e.2))
below_more n m h (Offset d b) e = omega (arith, h, e)
below_more n m h (Take d i) e = (omega (arith, h, e.0), omega (arith, h, e.1))
below_more n m h (Jump q) e = tt
below_more n m h (JumpIfZero d q) e = omega (arith, h, e)
below_more n m h (JumpIfNotZero d q) e = omega (arith, h, e)
below_more n m h (JumpIfEqual d b q) e = omega (arith, h, e)
below_more n m h (Call d f k) e = (omega (arith, h, e.0), omega (arith, h, e.1))
below_more n m h (Return d) e = omega (arith, h, e)
below_more n m h (Stop q) e = tt
below_more n m h (Move i j s) e = (omega (arith, h, e.0), omega (arith, h, e.1))
below_more n m h (Zero x) e = tt
below_more n m h (Leave k) e = tt
below_more n m h (GetChar d) e = omega (arith, h, e)
below_more n m h (PutChar d) e = omega (arith, h, e)
below_more n m h (Exit d) e = omega (arith, h, e)

next_of : (i : ℕ) → suc i + 1 ≡ suc (i + 1)
next_of i = omega (arith)

-- an operator in front of those that are below a number
pub one_more : (m : ℕ) (code : List SlotOp) (i : ℕ) (d : SlotOp) → i < length code → IsBelow m (slice_index_or code i d) → AreBelow m (drop (i + 1) code) → AreBelow m (drop i code)
one_more m [] i d lt h e = absurd (omega (arith, lt))
one_more m (x ∷ code) zero d lt h e = (h, e)
one_more m (x ∷ code) (suc i) d lt h e = one_more m code i d (omega (arith, lt)) h (subst (λ k. AreBelow m (drop k (x ∷ code))) (next_of i) e)

pub at_below : (m : ℕ) (code : List SlotOp) (i : ℕ) (d : SlotOp) → i < length code → AreBelow m code → IsBelow m (slice_index_or code i d)
at_below m [] i d lt e = absurd (omega (arith, lt))
at_below m (x ∷ code) zero d lt e = e.0
at_below m (x ∷ code) (suc i) d lt e = at_below m code i d (omega (arith, lt)) e.1

-- the higher of two numbers
pub is_high : (k a b m : ℕ) → k ≡ max a b → a ≤ m → b ≤ m → k ≤ m
is_high k a b m h p q = omega (arith, h, p, q)

pub left_of : (k a b m : ℕ) → k ≡ max a b → k ≤ m → a ≤ m
left_of k a b m h p = omega (arith, h, p)

pub right_of : (k a b m : ℕ) → k ≡ max a b → k ≤ m → b ≤ m
right_of k a b m h p = omega (arith, h, p)
