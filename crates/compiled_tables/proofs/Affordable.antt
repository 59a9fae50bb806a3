-- An accepted program of at most 16 files and 40,000 tokens costs no more than a table may.
use Rattle.std.proofs.Common.{refl, ap, ℕ, ◌+◌, ◌*◌, ◌≤◌, Bool, true, false, ◌||◌, if◌then◌else◌, List, [], ◌∷◌, length, Ok, arith}
use Rattle.std.proofs.Math.Nat.{mul-le-mul_left}
use Rattle.c_symbol.specs.declared.terminal.Terminal.{Terminal}
use Rattle.c_trees.specs.declared.unit.External.{External}
use Rattle.c_tree.specs.declared.rows.Program.{Program}
use Rattle.c_linkage.specs.declared.definitions.Manner.{Manner}
use Rattle.c_linkage.specs.declared.definitions.Manner.TheVariants.{Body, Initialized, Tentative}
use Rattle.c_linkage.specs.Names.{Defining}
use Rattle.c_file.specs.Files.{State}
use Rattle.c_file.specs.Programs.{Well, at_first, AllFiles}
use Rattle.c_linkage.specs.FileTags.{tags_of}
use Rattle.c_file.specs.Made.{HasRows}
use Rattle.c_linkage.specs.Defined.{is_body, is_on, objects_from}
use Rattle.c_check.specs.Faulty.{Checks}
use Rattle.c_tokens.specs.Units.{AreSpelled, terminals_in}
use Rattle.ps_emit.specs.Bounds.{cost_of}
use Rattle.compiled_tables.specs.Conditions.{IsAffordable}
use Rattle.compiled_tables.specs.Weights.{Rates, AreCovered, rates_of_bytes, rates_of_steps, rates_of_made, total, of_units}
use Rattle.compiled_tables.proofs.Spelled.{units_weigh}
use Rattle.compiled_tables.proofs.Covered.{bytes_covered, steps_covered, made_covered}
use Rattle.compiled_tables.proofs.Agreeing.{Agreeing, IsDeclaredAs, object_constructors}
use Rattle.compiled_tables.proofs.Agreed.{all_agree}
use Rattle.compiled_tables.proofs.NameRows.{Weighs, AreWeighed, Costs}
use Rattle.compiled_tables.proofs.FileRows.{all_cost}
use Rattle.compiled_tables.proofs.Units.{few_files, loaded_units}
use Rattle.compiled_tables.proofs.Costs.{of_defined, weight_of, costs}

module _ (r : Rates) (covered : AreCovered r) (q : State) where
  -- ---- each object is one of the definitions

  object_weighs : (d : Defining) (k c : ℕ) → Agreeing q.names → IsDeclaredAs q.names d c → r.object + r.constructor * c ≤ k → of_defined r q d ≤ k
  object_weighs d k c a h l = let e = ap (λ n. r.constructor * n) (object_constructors q d c a h) in omega (arith, e, l)

  objects_weigh : (seen ds : List Defining) (n : ℕ) → Agreeing q.names → AreWeighed r q.names ds n → total (of_defined r q) (objects_from seen ds) ≤ n
  objects_weigh seen [] n a h = omega arith
  objects_weigh seen (d ∷ ds) n a h = by d.manner (is_on d seen) h.2 (objects_weigh seen ds h.1 a h.3) (objects_weigh (d ∷ seen) ds h.1 a h.3)
    where
      by : (m : Manner) (b : Bool) → Weighs r m q.names d h.0 → total (of_defined r q) (objects_from seen ds) ≤ h.1 → total (of_defined r q) (objects_from (d ∷ seen) ds) ≤ h.1
          → total (of_defined r q) (if is_body m || b then objects_from seen ds else d ∷ objects_from (d ∷ seen) ds) ≤ n
      by Body b w x y = omega (arith, h.4, x)
      by Initialized true w x y = omega (arith, h.4, x)
      by Initialized false w x y = omega (arith, h.4, y, object_weighs d h.0 w.0 a w.1 w.2)
      by Tentative true w x y = omega (arith, h.4, x)
      by Tentative false w x y = omega (arith, h.4, y, object_weighs d h.0 w.0 a w.1 w.2)

  -- ---- the program weighs no more than its files, and these no more than their tokens pay for

  module _ (us : List (List External)) (h : AllFiles (tags_of us) (at_first (tags_of us)) us Well q) where
    abbrev costs_so : Costs r q (3 * (r.symbol + r.constructor) + of_units r us)
    costs_so = all_cost r covered us q h

    program_weighs : weight_of r q ≤ 3 * (r.symbol + r.constructor) + of_units r us
    program_weighs =
        let c = costs_so in
        let w = c.within in
        let o = objects_weigh [] q.definitions c.objects (all_agree (tags_of us) us q h) c.weighed in
        omega (arith, w, o)

    pub few_tokens_weigh : (tss : List (List Terminal)) (n : ℕ) → AreSpelled us tss → terminals_in tss ≤ n → weight_of r q ≤ 3 * (r.symbol + r.constructor) + r.token * n
    few_tokens_weigh tss n s few = omega (arith, program_weighs, units_weigh r covered us tss s, mul-le-mul_left r.token few)

pub affordable : (names : List (List ℕ)) (us : List (List External)) (tss : List (List Terminal)) (p : Program)
    → AreSpelled us tss → Checks names us (Ok p) → length names ≤ 16 → terminals_in tss ≤ 40000 → IsAffordable p
affordable names us tss p s is files few =
    let q : State = is.1.behind in
    let rows : HasRows q names p = is.1.rows in
    let stopped = (costs_so rates_of_bytes bytes_covered q us is.1.files).points in
    let b = few_tokens_weigh rates_of_bytes bytes_covered q us is.1.files tss 40000 s few in
    let t = few_tokens_weigh rates_of_steps steps_covered q us is.1.files tss 40000 s few in
    let m = few_tokens_weigh rates_of_made made_covered q us is.1.files tss 40000 s few in
    let bytes : (cost_of p).bytes ≤ 16777216 = omega (arith, costs (λ c. c.bytes) rates_of_bytes.token (λ a b. refl) refl (λ n c. refl) q names p rows stopped, b, files) in
    let f = few_files p in
    let l = loaded_units in
    record {
      bytes = bytes;
      units = omega (arith, costs (λ c. c.made) rates_of_made.token (λ a b. refl) refl (λ n c. refl) q names p rows stopped, m, files, bytes, f);
      steps = omega (arith, costs (λ c. c.steps) rates_of_steps.token (λ a b. refl) refl (λ n c. refl) q names p rows stopped, t, files);
    }
