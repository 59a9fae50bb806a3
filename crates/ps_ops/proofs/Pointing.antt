-- Operators on pointers and names, by what they look up.
use Rattle.std.proofs.Common.{◌≡◌, ◌∙◌, ℕ, ℤ, List, Option, Some, None, Result, Ok, Err}
use Rattle.ldb_words.specs.declared.kinds.Order.{Order}
use Rattle.machine_state.specs.Regions.{Regions}
use Rattle.ps_store.specs.declared.object.StringId.{StringId}
use Rattle.ps_store.specs.declared.object.DictId.{DictId}
use Rattle.ps_step.specs.declared.fault.PsError.{PsError}
use Rattle.ps_step.specs.declared.machine.PsCore.{PsCore}
use Rattle.ps_step.specs.Effects.{Does}
use Rattle.ps_run.specs.Runs.{Answer}
use Rattle.table_model.specs.declared.found.Found.{Found}
use Rattle.abs_mem.specs.Meaning.{Seen}
use Rattle.ps_places.specs.Places as places
use Rattle.ps_pointers.specs.Pointers as pointers
use Rattle.ps_leaves.specs.Leaves as leaves
use Rattle.ps_leaves.specs.declared.leaves.Access.{Access}
use Rattle.ps_symbols.specs.Naming as names
use Rattle.dialect_model.specs.Acting.{with_state}
use Rattle.ps_bare.proofs.Acts.{acts_5, acts_23, acts_24, acts_25, acts_26, acts_32}
use Rattle.ps_ops.specs.declared.view.View.{View}
use Rattle.ps_ops.specs.declared.halt.Halt.{Halt}
use Rattle.ps_ops.specs.declared.halt.Halt.TheVariants.{Raised}
use Rattle.ps_ops.specs.Desk.{Desk, desk_of, dial_of}
use Rattle.ps_ops.specs.Halts.{left}
use Rattle.ps_ops.specs.Asking.{LooksUp, scope_by, found_by, found_two}
use Rattle.ps_ops.specs.Acting.{ActsOn}
use Rattle.ps_ops.proofs.Asked.{unasked, look_halts, look_leaves}
use Rattle.ps_ops.proofs.Equations.{then_err, where_is, sum_is, difference_is, comparison_is, leaf_is, run_is}

module _ {R : Type 0} (v : View) (o : Order) (cell : ℕ) (out : List ℕ) (s : Seen R) (c : PsCore) where
  abbrev k : Desk
  k = desk_of v o cell out

  pub where_unasked : (e : PsError) → names.top_name c ≡ Err e → ActsOn 5 (desk_of v o cell out) s c (Err (Raised e)) (desk_of v o cell out) s c
  where_unasked e h = unasked 5 k s c e (λ rg. acts_5 (dial_of k rg) c ∙ then_err (names.top_name c) _ e h)

  pub sum_unasked : (e : PsError) → pointers.sum_operands c ≡ Err e → ActsOn 23 (desk_of v o cell out) s c (Err (Raised e)) (desk_of v o cell out) s c
  sum_unasked e h = unasked 23 k s c e (λ rg. acts_23 (dial_of k rg) c ∙ then_err (pointers.sum_operands c) _ e h)

  pub difference_unasked : (e : PsError) → pointers.difference_operands c ≡ Err e → ActsOn 24 (desk_of v o cell out) s c (Err (Raised e)) (desk_of v o cell out) s c
  difference_unasked e h = unasked 24 k s c e (λ rg. acts_24 (dial_of k rg) c ∙ then_err (pointers.difference_operands c) _ e h)

  pub comparison_unasked : (e : PsError) → pointers.comparison_operands c ≡ Err e → ActsOn 25 (desk_of v o cell out) s c (Err (Raised e)) (desk_of v o cell out) s c
  comparison_unasked e h = unasked 25 k s c e (λ rg. acts_25 (dial_of k rg) c ∙ then_err (pointers.comparison_operands c) _ e h)

  pub leaf_unasked : (e : PsError) → leaves.leaf_operands c ≡ Err e → ActsOn 26 (desk_of v o cell out) s c (Err (Raised e)) (desk_of v o cell out) s c
  leaf_unasked e h = unasked 26 k s c e (λ rg. acts_26 (dial_of k rg) c ∙ then_err (leaves.leaf_operands c) _ e h)

  pub run_unasked : (e : PsError) → places.top_word c ≡ Err e → ActsOn 32 (desk_of v o cell out) s c (Err (Raised e)) (desk_of v o cell out) s c
  run_unasked e h = unasked 32 k s c e (λ rg. acts_32 (dial_of k rg) c ∙ then_err (places.top_word c) _ e h)

  module _ (s' : Seen R) where
    -- `Where`
    module _ (name : List ℕ) (h : names.top_name c ≡ Ok name) where
      pub where_halts : (x : Halt) → LooksUp c.store (λ b. scope_by v c.store b) s (Err x) s' → ActsOn 5 (desk_of v o cell out) s c (Err x) (desk_of v o cell out) s' c
      where_halts x l = look_halts 5 k s c (λ b. scope_by v c.store b) (λ d scope. with_state d (names.locating scope c)) s' x (λ rg. where_is k rg c name h) l

      pub where_leaves : (scope : Option DictId) (r : Answer) (c' : PsCore) → LooksUp c.store (λ b. scope_by v c.store b) s (Ok scope) s' → Does r c c' (names.locating scope c)
          → ActsOn 5 (desk_of v o cell out) s c (left r) (desk_of v o cell out) s' c'
      where_leaves scope r c' l d = look_leaves 5 k s c (λ b. scope_by v c.store b) (λ scope. names.locating scope c) scope s' r c' (λ rg. where_is k rg c name h) l d

    -- `ptradd`
    module _ (p : ℕ) (n z : ℤ) (h : pointers.sum_operands c ≡ Ok (p, n, z)) where
      pub sum_halts : (x : Halt) → LooksUp c.store (λ b. found_by v c.store b p) s (Err x) s' → ActsOn 23 (desk_of v o cell out) s c (Err x) (desk_of v o cell out) s' c
      sum_halts x l = look_halts 23 k s c (λ b. found_by v c.store b p) (λ d o. with_state d (pointers.leaving_sum o n z c)) s' x (λ rg. sum_is k rg c (p, n, z) h) l

      pub sum_leaves : (found : Option Found) (r : Answer) (c' : PsCore) → LooksUp c.store (λ b. found_by v c.store b p) s (Ok found) s' → Does r c c' (pointers.leaving_sum found n z c)
          → ActsOn 23 (desk_of v o cell out) s c (left r) (desk_of v o cell out) s' c'
      sum_leaves found r c' l d = look_leaves 23 k s c (λ b. found_by v c.store b p) (λ o. pointers.leaving_sum o n z c) found s' r c' (λ rg. sum_is k rg c (p, n, z) h) l d

    -- `ptrsub`
    module _ (p q : ℕ) (z : ℤ) (h : pointers.difference_operands c ≡ Ok (p, q, z)) where
      pub difference_halts : (x : Halt) → LooksUp c.store (λ b. found_two v c.store b p q) s (Err x) s' → ActsOn 24 (desk_of v o cell out) s c (Err x) (desk_of v o cell out) s' c
      difference_halts x l =
          look_halts 24 k s c (λ b. found_two v c.store b p q) (λ d (x : Option Found × Option Found). with_state d (pointers.leaving_difference x.0 x.1 z c)) s' x (λ rg. difference_is k rg c (p, q, z) h) l

      pub difference_leaves : (found other : Option Found) (r : Answer) (c' : PsCore) → LooksUp c.store (λ b. found_two v c.store b p q) s (Ok (found, other)) s'
          → Does r c c' (pointers.leaving_difference found other z c) → ActsOn 24 (desk_of v o cell out) s c (left r) (desk_of v o cell out) s' c'
      difference_leaves found other r c' l d =
          look_leaves 24 k s c (λ b. found_two v c.store b p q) (λ (x : Option Found × Option Found). pointers.leaving_difference x.0 x.1 z c) (found, other) s' r c' (λ rg. difference_is k rg c (p, q, z) h) l d

    -- `ptrcmp`
    module _ (p q : ℕ) (h : pointers.comparison_operands c ≡ Ok (p, q)) where
      pub comparison_halts : (x : Halt) → LooksUp c.store (λ b. found_two v c.store b p q) s (Err x) s' → ActsOn 25 (desk_of v o cell out) s c (Err x) (desk_of v o cell out) s' c
      comparison_halts x l =
          look_halts 25 k s c (λ b. found_two v c.store b p q) (λ d (x : Option Found × Option Found). with_state d (pointers.leaving_order x.0 x.1 c)) s' x (λ rg. comparison_is k rg c (p, q) h) l

      pub comparison_leaves : (found other : Option Found) (r : Answer) (c' : PsCore) → LooksUp c.store (λ b. found_two v c.store b p q) s (Ok (found, other)) s'
          → Does r c c' (pointers.leaving_order found other c) → ActsOn 25 (desk_of v o cell out) s c (left r) (desk_of v o cell out) s' c'
      comparison_leaves found other r c' l d =
          look_leaves 25 k s c (λ b. found_two v c.store b p q) (λ (x : Option Found × Option Found). pointers.leaving_order x.0 x.1 c) (found, other) s' r c' (λ rg. comparison_is k rg c (p, q) h) l d

    -- `Leaf`
    module _ (p : ℕ) (access : Access) (h : leaves.leaf_operands c ≡ Ok (p, access)) where
      pub leaf_halts : (x : Halt) → LooksUp c.store (λ b. found_by v c.store b p) s (Err x) s' → ActsOn 26 (desk_of v o cell out) s c (Err x) (desk_of v o cell out) s' c
      leaf_halts x l = look_halts 26 k s c (λ b. found_by v c.store b p) (λ d o. with_state d (leaves.leaving_leaf o c)) s' x (λ rg. leaf_is k rg c (p, access) h) l

      pub leaf_leaves : (found : Option Found) (r : Answer) (c' : PsCore) → LooksUp c.store (λ b. found_by v c.store b p) s (Ok found) s' → Does r c c' (leaves.leaving_leaf found c)
          → ActsOn 26 (desk_of v o cell out) s c (left r) (desk_of v o cell out) s' c'
      leaf_leaves found r c' l d = look_leaves 26 k s c (λ b. found_by v c.store b p) (λ o. leaves.leaving_leaf o c) found s' r c' (λ rg. leaf_is k rg c (p, access) h) l d

    -- `charrun`
    module _ (p : ℕ) (h : places.top_word c ≡ Ok p) where
      pub run_halts : (x : Halt) → LooksUp c.store (λ b. found_by v c.store b p) s (Err x) s' → ActsOn 32 (desk_of v o cell out) s c (Err x) (desk_of v o cell out) s' c
      run_halts x l = look_halts 32 k s c (λ b. found_by v c.store b p) (λ d o. with_state d (leaves.leaving_run o c)) s' x (λ rg. run_is k rg c p h) l

      pub run_leaves : (found : Option Found) (r : Answer) (c' : PsCore) → LooksUp c.store (λ b. found_by v c.store b p) s (Ok found) s' → Does r c c' (leaves.leaving_run found c)
          → ActsOn 32 (desk_of v o cell out) s c (left r) (desk_of v o cell out) s' c'
      run_leaves found r c' l d = look_leaves 32 k s c (λ b. found_by v c.store b p) (λ o. leaves.leaving_run o c) found s' r c' (λ rg. run_is k rg c p h) l d
