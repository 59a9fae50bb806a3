-- What names count that come into scope at a unit's points: each of the unit's own names once, and the built-ins.
use Rattle.std.proofs.Common.{◌≡◌, inl, inr, ℕ, zero, suc, ◌+◌, ◌<◌, ◌≤◌, Bool, true, false, nat_lt, if◌then◌else◌, List, [], ◌∷◌, Option, Some, None, slice_get, refl, ap, subst, arith}
use Rattle.std.proofs.lemmas.Bool.{ltb-true, ltb-false}
use Rattle.c_tree.specs.declared.rows.SymbolRow.{SymbolRow}
use Rattle.ps_emit.specs.Symbols.{up_in, coming, made_with}
use Rattle.ps_emit.proofs.Chains.{coming_none, coming_made, coming_more}
use Rattle.ps_tables.specs.Rows.{weigh, total, IsAmong, IsBelow}
use Rattle.ps_tables.proofs.Totals.{total_more}

-- ---- a chain

-- one of two numbers is less, or not
either : {X : Type 0} (a b : ℕ) → (a < b → X) → (b ≤ a → X) → X
either {X = X} a b less more = by (nat_lt a b) refl
  where
    by : (c : Bool) → nat_lt a b ≡ c → X
    by true e = less (ltb-true a b e)
    by false e = more (ltb-false a b e)

module _ (ss : List SymbolRow) (w : ℕ → ℕ) where
  abbrev P : ℕ → ℕ
  P = total w

  abbrev chain : ℕ → ℕ → Option ℕ → ℕ
  chain n made x = weigh w (coming n ss made x)

  none_costs : (n made : ℕ) → chain n made None ≡ 0
  none_costs n made = ap (weigh w) (coming_none n ss made)

  made_costs : (n made s : ℕ) → s < made → chain n made (Some s) ≡ 0
  made_costs n made s l = ap (weigh w) (coming_made n ss made s l)

  one_costs : (n made s : ℕ) → made ≤ s → chain (suc n) made (Some s) ≡ w s + chain n made (up_in (slice_get ss s))
  one_costs n made s l = ap (weigh w) (coming_more (suc n) n ss made s refl l)

  module _ (built_ins : (s : ℕ) → s < 3 → IsBelow s (up_in (slice_get ss s))) where
    -- among built-ins
    low_chain : (n made s : ℕ) → s < 3 → made ≤ s → chain n made (Some s) + P made ≤ P (suc s)
    low_chain zero made s few l = let a = total_more w made (suc s) (omega arith) in omega arith
    low_chain (suc n) made s few l = let a = rest (low_chain n made) (up_in (slice_get ss s)) (built_ins s few) in let e = one_costs n made s l in omega arith
      where
        rest : ((u : ℕ) → u < 3 → made ≤ u → chain n made (Some u) + P made ≤ P (suc u)) → (o : Option ℕ) → IsBelow s o → chain n made o + P made ≤ P s
        rest below None h = let e = none_costs n made in let m = total_more w made s l in omega arith
        rest below (Some u) h = either u made
            (λ k. let e = made_costs n made u k in let m = total_more w made s l in omega arith)
            (λ k. let a = below u (omega (arith, h)) k in let b = total_more w (suc u) s h in omega arith)

    -- from one of a unit's names: where only built-ins are made, and where all below one of its names are
    module _ (low : ℕ) (three : 3 ≤ low) where
      first_chain : (n made s : ℕ) → made ≤ 3 → low ≤ s → ((t : ℕ) → low ≤ t → t ≤ s → IsAmong low t (up_in (slice_get ss t))) → chain n made (Some s) + P low + P made ≤ P (suc s) + P 3
      first_chain zero made s few l links = let a = total_more w low (suc s) (omega arith) in let b = total_more w made 3 few in omega arith
      first_chain (suc n) made s few l links =
          let a = rest (λ u k j. first_chain n made u few k (λ t x y. links t x (omega arith))) (up_in (slice_get ss s)) (links s l (omega arith)) in
          let e = one_costs n made s (omega arith) in
          omega arith
        where
          rest : ((u : ℕ) → low ≤ u → u < s → chain n made (Some u) + P low + P made ≤ P (suc u) + P 3) → (o : Option ℕ) → IsAmong low s o → chain n made o + P low + P made ≤ P s + P 3
          rest below None h = let e = none_costs n made in let a = total_more w low s l in let b = total_more w made 3 few in omega arith
          rest below (Some u) (inl k) = either u made
              (λ m. let e = made_costs n made u m in let a = total_more w low s l in let b = total_more w made 3 few in omega arith)
              (λ m. let e = low_chain n made u k m in let a = total_more w low s l in let b = total_more w (suc u) 3 k in omega arith)
          rest below (Some u) (inr k) = let e = below u k.0 k.1 in let a = total_more w (suc u) s k.1 in omega arith

      later_chain : (n made s : ℕ) → low ≤ made → made ≤ s → ((t : ℕ) → low ≤ t → t ≤ s → IsAmong low t (up_in (slice_get ss t))) → chain n made (Some s) + P made ≤ P (suc s)
      later_chain zero made s l m links = let a = total_more w made (suc s) (omega arith) in omega arith
      later_chain (suc n) made s l m links =
          let a = rest (λ u j i. later_chain n made u l j (λ t x y. links t x (omega arith))) (up_in (slice_get ss s)) (links s (omega arith) (omega arith)) in
          let e = one_costs n made s m in
          omega arith
        where
          rest : ((u : ℕ) → made ≤ u → u < s → chain n made (Some u) + P made ≤ P (suc u)) → (o : Option ℕ) → IsAmong low s o → chain n made o + P made ≤ P s
          rest below None h = let e = none_costs n made in let a = total_more w made s m in omega arith
          rest below (Some u) (inl k) = let e = made_costs n made u (omega arith) in let a = total_more w made s m in omega arith
          rest below (Some u) (inr k) = either u made
              (λ j. let e = made_costs n made u j in let a = total_more w made s m in omega arith)
              (λ j. let e = below u j k.1 in let a = total_more w (suc u) s k.1 in omega arith)

      -- ---- what was spent, where all below a number are made

      -- so much was spent at most: those of the built-ins below it, or those of all of them and of the unit's names below it
      pub data Spent (high made v : ℕ) : Type 0 where
        among_built_ins : made ≤ 3 → v ≤ P made → Spent high made v
        among_names : low ≤ made → made ≤ high → v + P low ≤ P made + P 3 → Spent high made v

      pub spent_all : (high made v : ℕ) → low ≤ high → Spent high made v → v + P low ≤ P high + P 3
      spent_all high made v l (among_built_ins few h) = let a = total_more w made 3 few in let b = total_more w low high l in omega arith
      spent_all high made v l (among_names k m h) = let a = total_more w made high m in omega arith

      -- the names that come into scope at a point are spent
      pub spends : (n high made v : ℕ) (x : Option ℕ) → ((t : ℕ) → low ≤ t → t < high → IsAmong low t (up_in (slice_get ss t))) → IsAmong low high x → Spent high made v → Spent high (made_with made x) (v + chain n made x)
      spends n high made v None links h spent = rw (none_costs n made) (subst (Spent high made) (omega arith) spent)
      spends n high made v (Some s) links h spent = by (nat_lt s made) refl
        where
          new : made ≤ s → IsAmong low high (Some s) → Spent high made v → Spent high (suc s) (v + chain n made (Some s))
          new l (inl few) (among_built_ins few' k) = let a = low_chain n made s few l in among_built_ins (omega arith) (omega arith)
          new l (inl few) (among_names k m b) = absurd (omega arith)
          new l (inr k') (among_built_ins few k) =
              let a = first_chain n made s few k'.0 (λ t x y. links t x (omega (arith, k'.1))) in among_names (omega (arith, k'.0)) (omega (arith, k'.1)) (omega arith)
          new l (inr k') (among_names k m b) =
              let a = later_chain n made s k l (λ t x y. links t x (omega (arith, k'.1))) in among_names (omega (arith, k'.0)) (omega (arith, k'.1)) (omega arith)

          by : (b : Bool) → nat_lt s made ≡ b → Spent high (if b then made else suc s) (v + chain n made (Some s))
          by true e = rw (made_costs n made s (ltb-true s made e)) (subst (Spent high made) (omega arith) spent)
          by false e = new (ltb-false s made e) h spent
