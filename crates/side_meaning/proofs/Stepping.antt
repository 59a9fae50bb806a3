-- The words of a step, and those of the machine session.
use Rattle.std.proofs.Common.{◌≡◌, ◌≢◌, ◌∙◌, refl, sym, ap, subst, ℕ, nat_eq, Bool, true, false, List, [], ◌∷◌, ◌++◌, map, Option, Some, None, Result, Ok, Err, append_assoc, append-nil, arith}
use Rattle.std.proofs.lemmas.Bool.Decides.{nat_tests}
use Rattle.ldb_words.specs.declared.kinds.Kind.TheVariants.{Word}
use Rattle.ldb_words.specs.declared.kinds.Order.{Order}
use Rattle.machine_state.specs.Regions.{Regions, read_of, write_of}
use Rattle.machine_state.specs.State.{order_of}
use Rattle.frame_bytes.specs.declared.frame.Space.TheVariants.{Memory}
use Rattle.frame_bytes.specs.Bytes.{Bytes, fetched, stored, or_none}
use Rattle.ps_step.specs.declared.fault.PsError.TheVariants.{RangeCheck}
use Rattle.ps_store.specs.StoreState.{StoreState}
use Rattle.table_model.specs.Rows.{PointRow}
use Rattle.table_points.specs.declared.row.Point.{Point}
use Rattle.table_points.specs.Rows.{row_in}
use Rattle.break_plant.specs.Planted as planted
use Rattle.break_plant.specs.Planted.{noop_of, break_of}
use Rattle.debug_side.specs.Planting.{at_none, is_put, is_passed, is_outside, behind_put, behind_passed}
use Rattle.dialect_model.specs.TableUse.{TableUse, Kind}
use Rattle.claims.specs.Side.{SideState, Troubled, memory_of, with_memory}
use Rattle.claims.specs.Breaks.{or_range, word_at, with_word, step_word_at, step_words_at}
use Rattle.side_meaning.specs.Stepping.{StepsAreMeant, NoStepIsMeant}
use Rattle.side_meaning.proofs.Resuming.{put_back, bytes_in, stored_is}

-- ---- a word

some_is : {T : Type 0} {x y : T} → Some x ≡ Some y → x ≡ y
some_is e = cc

pub read_is : (b : Bytes) (at : ℕ) → planted.word_at b at ≡ or_none (read_of b.order b.regions at 4)
unfolding fetched
read_is b at = refl

module _ (b : Bytes) (a : SideState) (order : b.order ≡ order_of a.machine) (regions : b.regions ≡ a.machine.memory) where
  same_word : (at : ℕ) → word_at a at ≡ planted.word_at b at
  same_word at =
      read_is (memory_of a) at
      ∙ (ap (λ (o : Order). or_none (read_of o a.machine.memory at 4)) (sym order)
      ∙ (ap (λ (r : Regions). or_none (read_of b.order r at 4)) (sym regions) ∙ sym (read_is b at)))

  regions_of : (o : Option Regions) (c : Bytes) → put_back b o ≡ Some c → o ≡ Some c.regions
  regions_of None c e = cc
  regions_of (Some r) c e = ap Some (ap (λ (x : Bytes). x.regions) (some_is e))

  same_store : (at w : ℕ) (c : Bytes) → stored b Memory at Word w ≡ Some c → with_word a at w ≡ Some (with_memory c.regions a)
  same_store at w c e =
      ap (bytes_in a) (stored_is (memory_of a) at w)
      ∙ ap (λ (o : Option Regions). bytes_in a (put_back (memory_of a) o))
      (ap (λ (o : Order). or_none (write_of o a.machine.memory at 4 w)) (sym order)
      ∙ (ap (λ (r : Regions). or_none (write_of b.order r at 4 w)) (sym regions) ∙ regions_of (or_none (write_of b.order b.regions at 4 w)) c (sym (stored_is b at w) ∙ e)))

  order_by : (o : Option Regions) (c : Bytes) → put_back b o ≡ Some c → c.order ≡ order_of a.machine
  order_by None c e = cc
  order_by (Some r) c e = ap (λ (x : Bytes). x.order) (sym (some_is e)) ∙ order

  order_after : (at w : ℕ) (c : Bytes) → stored b Memory at Word w ≡ Some c → c.order ≡ order_of a.machine
  order_after at w c e = order_by (or_none (write_of b.order b.regions at 4 w)) c (sym (stored_is b at w) ∙ e)

-- ---- one after another

given : {A : Type 0} (o : Option A) (x : A) (u : TableUse) → o ≡ Some x → or_range o u (Ok x) u
given {A = A} o x u e = subst (λ (z : Option A). or_range z u (Ok x) u) (sym e) (refl, refl)

not_given : {A : Type 0} (o : Option A) (u : TableUse) → o ≡ None → or_range o u (Err (Kind RangeCheck)) u
not_given {A = A} o u e = subst (λ (z : Option A). or_range z u (Err (Kind RangeCheck)) u) (sym e) (refl, refl)

same_number : (n : ℕ) → nat_eq n n ≡ true
same_number n = grind (arith, nat_tests)

other_number : (n m : ℕ) → n ≢ m → nat_eq n m ≡ false
other_number n m h = grind (arith, nat_tests)

abbrev with_words : List PointRow → SideState → SideState
with_words ws a = record a { step_words = a.step_words ++ ws }

-- the side with a break word put at a point
abbrev with_break : PointRow → Regions → SideState → SideState
with_break p r a = with_words (p ∷ []) (with_memory r a)

put_one : (a : SideState) (p : PointRow) (r : Regions) (u : TableUse) → with_word a p.at (break_of a.machine.target) ≡ Some (with_memory r a) → step_word_at a p true u (Ok (with_break p r a)) u
put_one a p r u e = (Ok (with_memory r a), u, given (with_word a p.at (break_of a.machine.target)) (with_memory r a) u e, (refl, refl))

by_test : (a : SideState) (p : PointRow) (t t' : Bool) (r : Result SideState Troubled) (u : TableUse) → t ≡ t' → step_word_at a p t' u r u → step_word_at a p t u r u
by_test a p t t' r u e h = subst (λ (z : Bool). step_word_at a p z u r u) (sym e) h

after : (p : PointRow) (ps : List PointRow) (a x : SideState) (w : ℕ) (r : Result SideState Troubled) (u : TableUse) → word_at a p.at ≡ Some w → step_word_at a p (nat_eq w (noop_of a.machine.target)) u (Ok x) u → step_words_at ps x u r u
    → step_words_at (p ∷ ps) a u r u
after p ps a x w r u e h k = (Ok w, u, given (word_at a p.at) w u e, (Ok x, u, h, k))

abbrev Puts : StoreState → (ps kept : List Point) → (d : Bytes) → SideState → TableUse → Type 0
Puts s ps kept d a u = step_words_at (map (row_in s) ps) a u (Ok (with_words (map (row_in s) kept) (with_memory d.regions a))) u

none_put : (s : StoreState) (b : Bytes) (a : SideState) (u : TableUse) → b.regions ≡ a.machine.memory → Puts s [] [] b a u
none_put s b a u m = (ap (λ (r : Regions). Ok (with_words [] (with_memory r a))) m ∙ ap (λ (l : List PointRow). Ok (record a { step_words = l })) (append-nil a.step_words), refl)

-- where the no-op stands
one_put : (s : StoreState) (target : ℕ) (p : Point) (ps kept : List Point) (b c d : Bytes) (a : SideState) (u : TableUse) → b.order ≡ order_of a.machine → b.regions ≡ a.machine.memory → target ≡ a.machine.target
    → planted.word_at b p.at ≡ Some (noop_of target) → stored b Memory p.at Word (break_of target) ≡ Some c → Puts s ps kept d (with_break (row_in s p) c.regions a) u → Puts s (p ∷ ps) (p ∷ kept) d a u
one_put s target p ps kept b c d a u o m t was put rest =
    let noop : word_at a p.at ≡ Some (noop_of a.machine.target) = same_word b a o m p.at ∙ (was ∙ ap (λ (n : ℕ). Some (noop_of n)) t) in
    let store : with_word a p.at (break_of a.machine.target) ≡ Some (with_memory c.regions a) = same_store b a o m p.at (break_of a.machine.target) c (ap (λ (n : ℕ). stored b Memory p.at Word (break_of n)) (sym t) ∙ put) in
    let first = by_test a (row_in s p) (nat_eq (noop_of a.machine.target) (noop_of a.machine.target)) true (Ok (with_break (row_in s p) c.regions a)) u (same_number (noop_of a.machine.target)) (put_one a (row_in s p) c.regions u store) in
    after (row_in s p) (map (row_in s) ps) a (with_break (row_in s p) c.regions a) (noop_of a.machine.target) (Ok (with_words (map (row_in s) (p ∷ kept)) (with_memory d.regions a))) u noop first
    (subst (λ (l : List PointRow). step_words_at (map (row_in s) ps) (with_break (row_in s p) c.regions a) u (Ok (record (with_memory d.regions a) { step_words = l })) u) (append_assoc a.step_words (row_in s p ∷ []) (map (row_in s) kept)) rest)

-- where another word stands
one_passed : (s : StoreState) (target : ℕ) (p : Point) (ps : List Point) (b : Bytes) (w : ℕ) (a : SideState) (r : Result SideState Troubled) (u : TableUse) → b.order ≡ order_of a.machine → b.regions ≡ a.machine.memory → target ≡ a.machine.target
    → planted.word_at b p.at ≡ Some w → w ≢ noop_of target → step_words_at (map (row_in s) ps) a u r u → step_words_at (map (row_in s) (p ∷ ps)) a u r u
one_passed s target p ps b w a r u o m t there differs rest =
    after (row_in s p) (map (row_in s) ps) a a w r u (same_word b a o m p.at ∙ there)
    (by_test a (row_in s p) (nat_eq w (noop_of a.machine.target)) false (Ok a) u (other_number w (noop_of a.machine.target) (subst (λ (n : ℕ). w ≢ noop_of n) t differs)) (refl, refl)) rest

one_outside : (s : StoreState) (p : Point) (ps : List Point) (b : Bytes) (a : SideState) (u : TableUse) → b.order ≡ order_of a.machine → b.regions ≡ a.machine.memory → planted.word_at b p.at ≡ None → step_words_at (map (row_in s) (p ∷ ps)) a u (Err (Kind RangeCheck)) u
one_outside s p ps b a u o m e = (Err (Kind RangeCheck), u, not_given (word_at a p.at) u (same_word b a o m p.at ∙ e), (refl, refl))

-- the same where a word was put before
one_fails : (s : StoreState) (target : ℕ) (p : Point) (ps : List Point) (b c : Bytes) (a : SideState) (u : TableUse) → b.order ≡ order_of a.machine → b.regions ≡ a.machine.memory → target ≡ a.machine.target → planted.word_at b p.at ≡ Some (noop_of target)
    → stored b Memory p.at Word (break_of target) ≡ Some c → step_words_at (map (row_in s) ps) (with_break (row_in s p) c.regions a) u (Err (Kind RangeCheck)) u → step_words_at (map (row_in s) (p ∷ ps)) a u (Err (Kind RangeCheck)) u
one_fails s target p ps b c a u o m t was put rest =
    let noop : word_at a p.at ≡ Some (noop_of a.machine.target) = same_word b a o m p.at ∙ (was ∙ ap (λ (n : ℕ). Some (noop_of n)) t) in
    let store : with_word a p.at (break_of a.machine.target) ≡ Some (with_memory c.regions a) = same_store b a o m p.at (break_of a.machine.target) c (ap (λ (n : ℕ). stored b Memory p.at Word (break_of n)) (sym t) ∙ put) in
    let first = by_test a (row_in s p) (nat_eq (noop_of a.machine.target) (noop_of a.machine.target)) true (Ok (with_break (row_in s p) c.regions a)) u (same_number (noop_of a.machine.target)) (put_one a (row_in s p) c.regions u store) in
    after (row_in s p) (map (row_in s) ps) a (with_break (row_in s p) c.regions a) (noop_of a.machine.target) (Err (Kind RangeCheck)) u noop first rest

pub puts : StepsAreMeant
puts s target ps kept b d a u o m t at_none = none_put s b a u m
puts s target ps kept b d a u o m t (is_put {c = c} {ps = qs} {kept = ks} p was put rest) =
    one_put s target p qs ks b c d a u o m t was put (puts s target qs ks c d (with_break (row_in s p) c.regions a) u (order_after b a o m p.at (break_of target) c put) refl t rest)
puts s target ps kept b d a u o m t (is_passed {ps = qs} p w there differs rest) =
    one_passed s target p qs b w a (Ok (with_words (map (row_in s) kept) (with_memory d.regions a))) u o m t there differs (puts s target qs kept b d a u o m t rest)

pub fails : NoStepIsMeant
fails s target ps b a u o m t (is_outside {ps = qs} p e) = one_outside s p qs b a u o m e
fails s target ps b a u o m t (behind_put {c = c} {ps = qs} p was put rest) =
    one_fails s target p qs b c a u o m t was put (fails s target qs c (with_break (row_in s p) c.regions a) u (order_after b a o m p.at (break_of target) c put) refl t rest)
fails s target ps b a u o m t (behind_passed {ps = qs} p w there differs rest) =
    one_passed s target p qs b w a (Err (Kind RangeCheck)) u o m t there differs (fails s target qs b a u o m t rest)
