use Rattle.std.proofs.Common.{true, false, [], map, sym, ap, subst, ◌∙◌, Option, option_map}
use Rattle.std.specs.List.{find}
use Rattle.c_mentions.specs.Tags.{now}
use Rattle.c_linkage.specs.Names.{defining, twice, is_defined}
use Rattle.c_rows.specs.Sets.{defined_in}
use Rattle.c_check.specs.Faulty.{IsTold}
use Rattle.c_file.specs.Programs.{Fault}
use Rattle.c_rows.specs.Behind.{is_row_past}
use Rattle.c_check.proofs.Behind.{Knows, past_is_first, twice_is_first, missing_is_first, main_is_last}
use Rattle.c_check.proofs.faults.fault_behind.Goals as goal

pub returns-in-Some : goal.returns-in-Some
returns-in-Some c =
    let s = c.args.state.now in
    let e = ap (find (is_row_past s.names)) (sym c.deref.ensures.value) ∙ sym c.in-Some.ensures in
    (c.past_fault.ensures.size, λ q h. subst (λ (x : Option Fault). IsTold x c.past_fault.result) (sym (past_is_first c.args.units s q h c.in-Some.l e)) c.past_fault.ensures.told)

pub returns-in-Ok-Some : goal.returns-in-Ok-Some
returns-in-Ok-Some c =
    let s = c.args.state.now in
    let e = ap (find (is_row_past s.names)) (sym c.deref.ensures.value) ∙ sym c.in-None.ensures in
    let t = ap (λ l. twice [] (map defining l)) (sym c.deref-2.ensures.value) ∙ (sym c.in-Ok-Some.ensures ∙ ap (option_map now) c.in-Ok-Some.field-0-is) in
    (c.twice_fault.ensures.size, λ q h. subst (λ (x : Option Fault). IsTold x c.twice_fault.result) (sym (twice_is_first c.args.units s q h c.in-Ok-Some.name.now e t)) c.twice_fault.ensures.told)

pub returns-in-Some-missing : goal.returns-in-Some-missing
returns-in-Some-missing c =
    let s = c.args.state.now in
    let m = c.in-Ok.defined in
    let e = ap (find (is_row_past s.names)) (sym c.deref.ensures.value) ∙ sym c.in-None.ensures in
    let t = ap (λ l. twice [] (map defining l)) (sym c.deref-2.ensures.value) ∙ (sym c.in-Ok-None.ensures ∙ ap (option_map now) c.in-Ok-None.field-0-is) in
    let k : Knows m (map defining s.definitions.items) = λ u i n. c.in-Ok.ensures u i n ∙ ap (λ l. is_defined (map defining l) u i n) c.deref-3.ensures.value in
    (c.unknown_fault.ensures.size, λ q h. subst (λ (x : Option Fault). IsTold x c.unknown_fault.result) (sym (missing_is_first c.args.units m s q h k e t c.in-Some-missing.name.now (sym c.in-Some-missing.ensures))) c.unknown_fault.ensures.told)

pub returns-then-is_defined : goal.returns-then-is_defined
returns-then-is_defined c q h =
    let s = c.args.state.now in
    let m = c.in-Ok.defined in
    let e = ap (find (is_row_past s.names)) (sym c.deref.ensures.value) ∙ sym c.in-None.ensures in
    let t = ap (λ l. twice [] (map defining l)) (sym c.deref-2.ensures.value) ∙ (sym c.in-Ok-None.ensures ∙ ap (option_map now) c.in-Ok-None.field-0-is) in
    let k : Knows m (map defining s.definitions.items) = λ u i n. c.in-Ok.ensures u i n ∙ ap (λ l. is_defined (map defining l) u i n) c.deref-3.ensures.value in
    main_is_last c.args.units m s q h k e t (sym c.in-None-missing.ensures) true (ap (defined_in m 0 false) (sym c.as_slice.ensures) ∙ (sym c.is_defined.ensures ∙ c.if-is_defined.true))

pub returns : goal.returns
returns c =
    let s = c.args.state.now in
    let m = c.in-Ok.defined in
    let e = ap (find (is_row_past s.names)) (sym c.deref.ensures.value) ∙ sym c.in-None.ensures in
    let t = ap (λ l. twice [] (map defining l)) (sym c.deref-2.ensures.value) ∙ (sym c.in-Ok-None.ensures ∙ ap (option_map now) c.in-Ok-None.field-0-is) in
    let k : Knows m (map defining s.definitions.items) = λ u i n. c.in-Ok.ensures u i n ∙ ap (λ l. is_defined (map defining l) u i n) c.deref-3.ensures.value in
    (tt, λ q h. main_is_last c.args.units m s q h k e t (sym c.in-None-missing.ensures) false (ap (defined_in m 0 false) (sym c.as_slice.ensures) ∙ (sym c.is_defined.ensures ∙ c.if-is_defined.false)))
