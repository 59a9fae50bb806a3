-- Evaluations that take steps of those that are left, one after another.
use Rattle.std.proofs.Common.{◌≡◌, refl, sym, subst, ℕ, suc, ◌+◌, Bool, cond, Result, Ok, Err, arith}
use Rattle.std.specs.Prelude.{◌==◌}
use Rattle.dialect_model.specs.TableUse.{TableUse, Trouble, gives, ◌>>=◌}
use Rattle.c_bytes.specs.Lvalues.{Cause, Means}
use Rattle.serving_laws.specs.Named.{with_left}

-- an evaluation comes to a result, and takes so many steps
abbrev pub Takes : {A : Type 0} → TableUse → Means A → Result A (Trouble Cause) → Type 0
Takes t m r = (taken : ℕ) × ((n : ℕ) → m (with_left t (taken + suc n)) r (with_left t (suc n)))

module _ (t : TableUse) where
  -- what takes no step
  pub still : {A : Type 0} (m : Means A) (r : Result A (Trouble Cause)) → ((n : ℕ) → m (with_left t n) r (with_left t n)) → Takes t m r
  still m r h = (0, λ n. let same : suc n ≡ 0 + suc n = omega arith in subst (λ l. m (with_left t l) r (with_left t (suc n))) same (h (suc n)))

  pub given : {A : Type 0} (x : A) → Takes t (gives x) (Ok x)
  given x = still (gives x) (Ok x) (λ n. (refl, refl))

  pub after : {A B : Type 0} (m : Means A) (f : A → Means B) (x : A) (r : Result B (Trouble Cause)) → Takes t m (Ok x) → Takes t (f x) r → Takes t (m >>= f) r
  after m f x r a b = (
    a.0 + b.0,
    λ n.
        let whole : a.0 + suc (b.0 + n) ≡ (a.0 + b.0) + suc n = omega arith in
        let behind : suc (b.0 + n) ≡ b.0 + suc n = omega arith in (
          Ok x,
          with_left t (b.0 + suc n),
          subst (λ l. m (with_left t l) (Ok x) (with_left t (b.0 + suc n))) whole (subst (λ l. m (with_left t (a.0 + suc (b.0 + n))) (Ok x) (with_left t l)) behind (a.1 (b.0 + n))),
          b.1 n,
        ),
  )

  pub stops : {A B : Type 0} (m : Means A) (f : A → Means B) (x : Trouble Cause) → Takes t m (Err x) → Takes t (m >>= f) (Err x)
  stops m f x a = (a.0, λ n. (Err x, with_left t (suc n), a.1 n, (refl, refl)))

  -- a value that is used
  pub used : {A B : Type 0} (x : A) (f : A → Means B) (r : Result B (Trouble Cause)) → Takes t (f x) r → Takes t (gives x >>= f) r
  used x f r b = after (gives x) f x r (given x) b

  pub passed : {A : Type 0} (m : Means A) (x : A) → Takes t m (Ok x) → Takes t (m >>= λ y. gives y) (Ok x)
  passed m x a = after m (λ y. gives y) x (Ok x) a (given x)

  -- one of two, by whether a value is 0
  pub tested : (m : Means ℕ) (holds fails : Means ℕ) (v : ℕ) (b : Bool) (r : Result ℕ (Trouble Cause)) → (v == 0) ≡ b → Takes t m (Ok v) → Takes t (cond b fails holds) r
      → Takes t (m >>= λ v. gives v >>= λ x. cond (x == 0) fails holds) r
  tested m holds fails v b r e a c =
      after m (λ v. gives v >>= λ x. cond (x == 0) fails holds) v r a
      (used v (λ x. cond (x == 0) fails holds) r (subst (λ y. Takes t (cond y fails holds) r) (sym e) c))
