use Rattle.std.specs.Prelude.{◌≡◌, ◌⊎◌, Some}
use Rattle.unit_tables.proofs.Symbols.{symbol_defined, symbol_takes, symbol_makes}
use Rattle.unit_tables.proofs.laws.symbols_are_defined.Goals as goal

pub returns : goal.returns
returns c = record {
  defined = λ defs ss objects i ds t under post fs h n row k entries s o at few_defs few_objects fits running few row_is number runs places stack room stands.
      symbol_defined defs ss objects i ds few_defs few_objects t under fits post fs h n row k entries (λ x. row.up ≡ Some x) (λ x. (x ≡ n) ⊎ (row.up ≡ Some x)) s o at running few row_is number runs places (λ u e. e) (λ m l. l) stack room stands;
  steps = symbol_takes;
  made = symbol_makes;
}
