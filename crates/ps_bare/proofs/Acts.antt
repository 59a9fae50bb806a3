-- The operators by their numbers.
use Rattle.std.proofs.Common.{◌≡◌, ◌≤◌, ℕ, Err, refl, ap}
use Rattle.std.proofs.lemmas.Option.{slice_get_past}
use Rattle.ps_step.specs.declared.fault.PsError.TheVariants.{Undefined}
use Rattle.ps_step.specs.declared.machine.PsCore.{PsCore}
use Rattle.frame_bytes.specs.declared.frame.Space.TheVariants.{Memory, Registers}
use Rattle.ps_words.specs.declared.words.WordOperator.TheVariants.{SignedAdd, SignedSubtract, SignedMultiply, SignedDivide, SignedRemainder, Divide, Remainder, Add, Subtract, Multiply, ShiftLeft, SignedShiftRight, ShiftRight}
use Rattle.ps_words.specs.Operators.{on_two, negating, below}
use Rattle.ps_places.specs.Places.{placing_at}
use Rattle.dialect_model.specs.Dial.{Dial, Raises}
use Rattle.dialect_model.specs.Acting.{with_state, anchoring, placing_local, placing_value, locating, fetching, storing, adding, subtracting, comparing, taking_leaf, giving_struct, putting, putting_char, putting_pointer, putting_chars, measuring_run}
use Rattle.dialect_model.specs.Operators.{act, act_of, operators}

module _ (d : Dial) (c : PsCore) where
  pub acts_0 : act 0 d c ≡ anchoring d c
  unfolding act
  acts_0 = refl

  pub acts_1 : act 1 d c ≡ with_state d (placing_at Memory c)
  unfolding act
  acts_1 = refl

  pub acts_2 : act 2 d c ≡ placing_local d c
  unfolding act
  acts_2 = refl

  pub acts_3 : act 3 d c ≡ with_state d (placing_at Registers c)
  unfolding act
  acts_3 = refl

  pub acts_4 : act 4 d c ≡ placing_value d c
  unfolding act
  acts_4 = refl

  pub acts_5 : act 5 d c ≡ locating d c
  unfolding act
  acts_5 = refl

  pub acts_6 : act 6 d c ≡ fetching d c
  unfolding act
  acts_6 = refl

  pub acts_7 : act 7 d c ≡ storing d c
  unfolding act
  acts_7 = refl

  pub acts_8 : act 8 d c ≡ with_state d (on_two SignedAdd c)
  unfolding act
  acts_8 = refl

  pub acts_9 : act 9 d c ≡ with_state d (on_two SignedSubtract c)
  unfolding act
  acts_9 = refl

  pub acts_10 : act 10 d c ≡ with_state d (on_two SignedMultiply c)
  unfolding act
  acts_10 = refl

  pub acts_11 : act 11 d c ≡ with_state d (on_two SignedDivide c)
  unfolding act
  acts_11 = refl

  pub acts_12 : act 12 d c ≡ with_state d (on_two SignedRemainder c)
  unfolding act
  acts_12 = refl

  pub acts_13 : act 13 d c ≡ with_state d (negating c)
  unfolding act
  acts_13 = refl

  pub acts_14 : act 14 d c ≡ with_state d (on_two Divide c)
  unfolding act
  acts_14 = refl

  pub acts_15 : act 15 d c ≡ with_state d (on_two Remainder c)
  unfolding act
  acts_15 = refl

  pub acts_16 : act 16 d c ≡ with_state d (on_two Add c)
  unfolding act
  acts_16 = refl

  pub acts_17 : act 17 d c ≡ with_state d (on_two Subtract c)
  unfolding act
  acts_17 = refl

  pub acts_18 : act 18 d c ≡ with_state d (on_two Multiply c)
  unfolding act
  acts_18 = refl

  pub acts_19 : act 19 d c ≡ with_state d (on_two ShiftLeft c)
  unfolding act
  acts_19 = refl

  pub acts_20 : act 20 d c ≡ with_state d (on_two SignedShiftRight c)
  unfolding act
  acts_20 = refl

  pub acts_21 : act 21 d c ≡ with_state d (on_two ShiftRight c)
  unfolding act
  acts_21 = refl

  pub acts_22 : act 22 d c ≡ with_state d (below c)
  unfolding act
  acts_22 = refl

  pub acts_23 : act 23 d c ≡ adding d c
  unfolding act
  acts_23 = refl

  pub acts_24 : act 24 d c ≡ subtracting d c
  unfolding act
  acts_24 = refl

  pub acts_25 : act 25 d c ≡ comparing d c
  unfolding act
  acts_25 = refl

  pub acts_26 : act 26 d c ≡ taking_leaf d c
  unfolding act
  acts_26 = refl

  pub acts_27 : act 27 d c ≡ giving_struct d c
  unfolding act
  acts_27 = refl

  pub acts_28 : act 28 d c ≡ putting d c
  unfolding act
  acts_28 = refl

  pub acts_29 : act 29 d c ≡ putting_char d c
  unfolding act
  acts_29 = refl

  pub acts_30 : act 30 d c ≡ putting_pointer d c
  unfolding act
  acts_30 = refl

  pub acts_31 : act 31 d c ≡ putting_chars d c
  unfolding act
  acts_31 = refl

  pub acts_32 : act 32 d c ≡ measuring_run d c
  unfolding act
  acts_32 = refl

  -- behind the last there is none
  pub acts_past : (op : ℕ) → 33 ≤ op → act op d c ≡ Err (Raises Undefined)
  unfolding act
  acts_past op h = ap (λ o. act_of o d c) (slice_get_past operators op h)
