-- Breakpoints that are set and taken away.
use Rattle.std.proofs.Common.{◌≡◌, ◌≢◌, ◌∙◌, refl, sym, ap, subst, ℕ, Bool, true, false, nat_eq, ◌||◌, eq-eqb, List, [], ◌∷◌, ◌++◌, filter, codes, if◌then◌else◌, Option, Some, None, Result, Ok, Err}
use Rattle.std.proofs.lemmas.Bool.{eqb-true}
use Rattle.std.specs.List.{list_any}
use Rattle.ldb_words.specs.declared.kinds.Kind.TheVariants.{Word}
use Rattle.ps_store.specs.StoreState.{StoreState}
use Rattle.ps_step.specs.declared.fault.PsError.TheVariants.{RangeCheck}
use Rattle.frame_bytes.specs.Bytes.{Bytes, stored}
use Rattle.frame_bytes.specs.declared.frame.Space.TheVariants.{Memory}
use Rattle.abs_mem.specs.Meaning.{Seen, Stores}
use Rattle.abs_mem.specs.declared.memory.MemFault.{MemFault}
use Rattle.abs_mem.specs.declared.memory.MemFault.TheVariants.{Outside, LinkFault, BadReply}
use Rattle.abs_mem.proofs.Walks.{same_here}
use Rattle.table_model.specs.Reading.{Walked}
use Rattle.table_model.specs.Rows.{PointRow}
use Rattle.table_points.specs.declared.row.Point.{Point}
use Rattle.table_points.specs.Rows.{row_in}
use Rattle.dialect_model.specs.TableUse.{TableUse, Refused as RefusedFor, Kind, Wanting, Eval, Looks, ◌>>=◌}
use Rattle.break_plant.specs.Planted.{noop_of, break_of, word_at, in_memory, Plants, LedPlant}
use Rattle.break_plant.specs.declared.planting.PlantFault.{PlantFault}
use Rattle.break_plant.specs.declared.planting.PlantFault.TheVariants as plant
use Rattle.table_asks.specs.declared.fault.Cause.{Cause}
use Rattle.table_asks.specs.declared.fault.Cause.TheVariants.{NoPlace}
use Rattle.table_asks.specs.declared.fault.AskFault.{AskFault}
use Rattle.table_asks.specs.declared.fault.AskFault.TheVariants.{Refused, Raised, Spent, NoMemory, Broken}
use Rattle.table_asks.specs.declared.inquiry.Inquiry.{Inquiry}
use Rattle.table_asks.specs.Faults.{IsOwn, memory_fault}
use Rattle.table_asks.specs.Asking.{used_by, Comes, LedAsk}
use Rattle.table_asks.proofs.Binding.{behind_fault, looks_wants}
use Rattle.asking.specs.Lines.{line, place_text}
use Rattle.asking.specs.Doing.{Change, Changes, ChangesOver, or_range}
use Rattle.asking.specs.Breaks.{without, rows_in, or_no_place, planting_fault, planted_if, broken_at, cleared_at}

-- ---- rows of points

pub any_row : (test : PointRow → Bool) (s : StoreState) (ps : List Point) → list_any (λ p. test (row_in s p)) ps ≡ list_any test (rows_in s ps)
any_row test s [] = refl
any_row test s (p ∷ ps) = ap (λ (b : Bool). test (row_in s p) || b) (any_row test s ps)

kept_row : (s : StoreState) (p : Point) (ps : List Point) (rows : List PointRow) (b : Bool) → rows_in s ps ≡ rows → rows_in s (if b then p ∷ ps else ps) ≡ (if b then row_in s p ∷ rows else rows)
kept_row s p ps rows true e = ap (λ (l : List PointRow). row_in s p ∷ l) e
kept_row s p ps rows false e = e

pub kept_rows : (test : PointRow → Bool) (s : StoreState) (ps : List Point) → rows_in s (filter (λ p. test (row_in s p)) ps) ≡ filter test (rows_in s ps)
kept_rows test s [] = refl
kept_rows test s (p ∷ ps) = kept_row s p (filter (λ p. test (row_in s p)) ps) (filter test (rows_in s ps)) (test (row_in s p)) (kept_rows test s ps)

pub added_row : (s : StoreState) (ps : List Point) (p : Point) → rows_in s (ps ++ p ∷ []) ≡ rows_in s ps ++ row_in s p ∷ []
added_row s [] p = refl
added_row s (q ∷ ps) p = ap (λ (l : List PointRow). row_in s q ∷ l) (added_row s ps p)

-- ---- a word of a target

gave : {A : Type 0} (o : Option A) (x : A) (u : TableUse) → o ≡ Some x → or_range o u (Ok x) u
gave {A = A} o x u e = subst (λ (p : Option A). or_range p u (Ok x) u) (sym e) (refl, refl)

ranged : {A : Type 0} (o : Option A) (u : TableUse) → o ≡ None → or_range o u (Err (Kind RangeCheck)) u
ranged {A = A} o u e = subst (λ (p : Option A). or_range p u (Err (Kind RangeCheck)) u) (sym e) (refl, refl)

differs : (w v : ℕ) (b : Bool) → nat_eq w v ≡ b → w ≢ v → b ≡ false
differs w v true e n = absurd (n (eqb-true w v e))
differs w v false e n = refl

module _ {R : Type 0} (known target : ℕ) (rows : List PointRow) (p : PointRow) (s s' : Seen R) where
  abbrev Breaks : Result (List ℕ) AskFault → List PointRow → Type 0
  Breaks r breaks = Changes (λ b. broken_at target rows b p false) s r breaks s'

  abbrev Clears : Result (List ℕ) AskFault → List PointRow → Type 0
  Clears r breaks = Changes (λ b. cleared_at target rows b p true) s r breaks s'

  pub planted : noop_of known ≡ noop_of target → break_of known ≡ break_of target → Plants known p.at s (Ok tt) s' → Breaks (Ok (line (codes "break " ++ place_text p))) (rows ++ p ∷ [])
  planted no_op word h = (
    h.faults,
    λ (b : Bytes) (r : R) told.
        let after = h.is b r told in
        let stands : word_at b p.at ≡ Some (noop_of target) = h.was.holds b r told ∙ ap (λ (n : ℕ). Some n) no_op in
        let is : stored b Memory p.at Word (break_of target) ≡ Some after.0 = ap (λ (n : ℕ). stored b Memory p.at Word n) (sym word) ∙ after.1 in (
          after.0,
          λ u.
              let there : planted_if target rows b p (nat_eq (noop_of target) (noop_of target)) u (Ok after.0) u =
              subst (λ (t : Bool). planted_if target rows b p t u (Ok after.0) u) (sym (eq-eqb (noop_of target) (noop_of target) refl)) (gave (stored b Memory p.at Word (break_of target)) after.0 u is) in
              (Ok after.0, u, (Ok (noop_of target), u, gave (word_at b p.at) (noop_of target) u stands, there), (refl, refl)),
          after.2,
        ),
  )

  pub planting_fails : noop_of known ≡ noop_of target → (f : PlantFault) (breaks : List PointRow) → Plants known p.at s (Err f) s' → Breaks (Err (planting_fault f)) breaks
  planting_fails no_op (plant.NotNoop at word) breaks h = (
    h.2,
    record {
      holds = λ (b : Bytes) (r : R) told u.
          let other : nat_eq word (noop_of target) ≡ false = differs word (noop_of target) (nat_eq word (noop_of target)) refl (λ e. h.1 (e ∙ sym no_op)) in
          let refused : planted_if target rows b p (nat_eq word (noop_of target)) u (Err (RefusedFor NoPlace)) u = subst (λ (t : Bool). planted_if target rows b p t u (Err (RefusedFor NoPlace)) u) (sym other) (refl, refl) in
          (Err (RefusedFor NoPlace), u, (Ok word, u, gave (word_at b p.at) word u (h.3.holds b r told), refused), (refl, refl));
    },
  )
  planting_fails no_op (plant.Memory (Outside q)) breaks h = (
    h.1,
    record { holds = λ (b : Bytes) (r : R) told u. (Err (Kind RangeCheck), u, (Err (Kind RangeCheck), u, ranged (word_at b p.at) u (h.2.holds b r told), (refl, refl)), (refl, refl)) },
  )
  planting_fails no_op (plant.Memory LinkFault) breaks h = h
  planting_fails no_op (plant.Memory (BadReply frame)) breaks h = h

  pub cleared : noop_of known ≡ noop_of target → Stores s (in_memory p.at) Word (noop_of known) (Ok tt) s' → Clears (Ok (line (codes "clear " ++ place_text p))) (without p rows)
  cleared no_op h = (
    h.faults,
    λ (b : Bytes) (r : R) told.
        let after = h.after b r told in
        let is : stored b Memory p.at Word (noop_of target) ≡ Some after.0 = ap (λ (n : ℕ). stored b Memory p.at Word n) (sym no_op) ∙ after.1 in
        (after.0, λ u. (Ok after.0, u, gave (stored b Memory p.at Word (noop_of target)) after.0 u is, (refl, refl)), after.2),
  )

  pub clear_fails : noop_of known ≡ noop_of target → (f : MemFault) (breaks : List PointRow) → Stores s (in_memory p.at) Word (noop_of known) (Err f) s' → Clears (Err (memory_fault f)) breaks
  clear_fails no_op (Outside q) breaks h = (
    h.1,
    record {
      holds = λ (b : Bytes) (r : R) told u.
          let is : stored b Memory p.at Word (noop_of target) ≡ None = ap (λ (n : ℕ). stored b Memory p.at Word n) (sym no_op) ∙ h.2.holds b r told in
          (Err (Kind RangeCheck), u, ranged (stored b Memory p.at Word (noop_of target)) u is, (refl, refl));
    },
  )
  clear_fails no_op LinkFault breaks h = h
  clear_fails no_op (BadReply frame) breaks h = h

-- a point that has a breakpoint, or none
module _ {R : Type 0} (target : ℕ) (rows : List PointRow) (p : PointRow) (s s' : Seen R) (breaks : List PointRow) where
  pub broken_again : (h : Bool) → h ≡ true → Changes (λ b. broken_at target rows b p h) s (Ok (line (codes "break " ++ place_text p))) rows s
  broken_again true e = (refl, λ (b : Bytes) (r : R) told. (b, λ u. (refl, refl), told))
  broken_again false e = absurd (let i = e in cc)

  pub broken_new : (h : Bool) (r : Result (List ℕ) AskFault) → h ≡ false → Changes (λ b. broken_at target rows b p false) s r breaks s' → Changes (λ b. broken_at target rows b p h) s r breaks s'
  broken_new h r e k = subst (λ (x : Bool). Changes (λ b. broken_at target rows b p x) s r breaks s') (sym e) k

  pub nothing_cleared : (h : Bool) → h ≡ false → Changes (λ b. cleared_at target rows b p h) s (Err (Refused NoPlace)) breaks s
  nothing_cleared true e = absurd (let i = e in cc)
  nothing_cleared false e = (same_here s, record { holds = λ (b : Bytes) (r : R) told u. (refl, refl) })

  pub cleared_there : (h : Bool) (r : Result (List ℕ) AskFault) → h ≡ true → Changes (λ b. cleared_at target rows b p true) s r breaks s' → Changes (λ b. cleared_at target rows b p h) s r breaks s'
  cleared_there h r e k = subst (λ (x : Bool). Changes (λ b. cleared_at target rows b p x) s r breaks s') (sym e) k

pub led_planting : {M : Type 0} (A : Type 0) (leads : M → Option (List ℕ) → M → Type 0) (a b : M) (f : PlantFault) → LedPlant leads a (Err f) b → LedAsk {A = A} leads a (Err (planting_fault f)) b
led_planting A leads a b (plant.NotNoop at word) h = h
led_planting A leads a b (plant.Memory (Outside q)) h = h
led_planting A leads a b (plant.Memory LinkFault) h = tt
led_planting A leads a b (plant.Memory (BadReply frame)) h = h

-- ---- behind the point that a spot says

module _ {R : Type 0} (q : StoreState → Walked (Option PointRow)) (k : Bytes → PointRow → Eval Cause Change) (old new : Inquiry) (s s' : Seen R) where
  abbrev placed : Bytes → Option PointRow → Eval Cause Change
  placed b found = or_no_place found >>= k b

  abbrev at_spot : Bytes → Eval Cause Change
  at_spot b = Looks q >>= placed b

  pub at_place : (p : PointRow) (r : Result (List ℕ) AskFault) (breaks : List PointRow) → Comes (Looks q) old (Ok (Some p)) new → Changes (λ b. k b p) s r breaks s' → ChangesOver at_spot old s r breaks new s'
  at_place p (Ok text) breaks c h = (
    h.0,
    λ (b : Bytes) (r : R) told. let after = h.1 b r told in (after.0, λ t. (Ok (Some p), used_by new t, c t, (Ok p, used_by new t, (refl, refl), after.1 (used_by new t))), after.2),
  )
  at_place p (Err (Refused cause)) breaks c h = (
    h.0,
    record { holds = λ (b : Bytes) (r : R) told t. (Ok (Some p), used_by new t, c t, (Ok p, used_by new t, (refl, refl), h.1.holds b r told (used_by new t))) },
  )
  at_place p (Err (Raised e)) breaks c h = (
    h.0,
    record { holds = λ (b : Bytes) (r : R) told t. (Ok (Some p), used_by new t, c t, (Ok p, used_by new t, (refl, refl), h.1.holds b r told (used_by new t))) },
  )
  at_place p (Err NoMemory) breaks c h = (
    h,
    record { holds = λ (b : Bytes) (r : R) told t. record { use_after = used_by new t; comes = (Err Wanting, used_by new t, looks_wants q (used_by old t) (used_by new t) (Ok (Some p)) (Some p) (c t) refl, (refl, refl)); closed = refl } },
  )
  at_place p (Err Spent) breaks c h = absurd h
  at_place p (Err (Broken LinkFault)) breaks c h = h
  at_place p (Err (Broken (BadReply frame))) breaks c h = h
  at_place p (Err (Broken (Outside x))) breaks c h = h

  pub at_no_place : (breaks : List PointRow) → Comes (Looks q) old (Ok None) new → ChangesOver at_spot old s (Err (Refused NoPlace)) breaks new s
  at_no_place breaks c = (
    same_here s,
    record { holds = λ (b : Bytes) (r : R) told t. (Ok None, used_by new t, c t, (Err (RefusedFor NoPlace), used_by new t, (refl, refl), (refl, refl))) },
  )

  pub at_fault : (f : AskFault) (breaks : List PointRow) → IsOwn f → Comes (Looks q) old (Err f) new → ChangesOver at_spot old s (Err f) breaks new s
  at_fault (Raised e) breaks own c = (same_here s, record { holds = λ (b : Bytes) (r : R) told. behind_fault (Looks q) (placed b) old new (Raised e) c })
  at_fault Spent breaks own c = (same_here s, record { holds = λ (b : Bytes) (r : R) told. behind_fault (Looks q) (placed b) old new Spent c })
  at_fault NoMemory breaks own c = (same_here s, record { holds = λ (b : Bytes) (r : R) told. behind_fault (Looks q) (placed b) old new NoMemory c })
  at_fault (Refused cause) breaks own c = absurd own
  at_fault (Broken x) breaks own c = absurd own

pub led_own : {M : Type 0} (A : Type 0) (leads : M → Option (List ℕ) → M → Type 0) (a : M) (f : AskFault) → IsOwn f → leads a None a → LedAsk {A = A} leads a (Err f) a
led_own A leads a (Raised e) own h = h
led_own A leads a Spent own h = h
led_own A leads a NoMemory own h = h
led_own A leads a (Refused cause) own h = absurd own
led_own A leads a (Broken x) own h = absurd own
