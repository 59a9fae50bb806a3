-- `ps`.
use Rattle.std.proofs.Common.{◌≡◌, ℕ, true, List, [], ◌∷◌, ◌++◌, append-nil, reverse, codes, Option, Some, None, Result, Ok, Err, refl, sym, ap, ◌∙◌, subst}
use Rattle.ps_store.specs.declared.object.Part.TheVariants.{Command}
use Rattle.ps_store.specs.declared.object.DictId.{DictId}
use Rattle.ps_store.specs.declared.object.PsObj.{PsObj}
use Rattle.ps_store.specs.declared.object.PsObj.TheVariants.{Str}
use Rattle.ps_store.specs.declared.object.StringId.{StringId}
use Rattle.ps_store.specs.StoreState.{StoreState}
use Rattle.ps_store.specs.Store.{Given, making_dict, making_string}
use Rattle.ps_step.specs.declared.fault.PsError.TheVariants.{LimitCheck}
use Rattle.ps_step.specs.declared.machine.PsCore.{PsCore}
use Rattle.ps_step.specs.Text.{text_of}
use Rattle.ps_run.specs.Runs.{Answer, Runs}
use Rattle.dialect_model.specs.Dial.{Dial, Target, Numbered}
use Rattle.dialect_model.specs.Operating.{Operates}
use Rattle.dialect_model.specs.TableUse.{TableUse, Trouble, Kind, Eval, use_of}
use Rattle.dialect_model.specs.Running.{Run, core_in, beginning, ready}
use Rattle.table_asks.specs.declared.fault.Cause.{Cause}
use Rattle.table_asks.specs.declared.inquiry.Inquiry.{Inquiry}
use Rattle.table_asks.specs.Asking.{left_of}
use Rattle.asking.specs.Lines.{line}
use Rattle.asking.specs.Raw as asked_raw
use Rattle.claims.specs.Side.{SideState, Change, OnSide, Troubled, MOST_STEPS, dial_of, with_table_of}
use Rattle.claims.specs.Raw as side_raw
use Rattle.asking_meaning.specs.Meant.{Matches, Covers, Says, Stands, IsEnded, with_bytes_of, PsIsMeant}
use Rattle.asking_meaning.proofs.Covering.{bind_covers, same_trouble}
use Rattle.asking_meaning.proofs.Wholes.{begun_at, same_table, left_nothing}

abbrev Same : (A : Type 0) → A → A → Type 0
Same A x y = x ≡ y

-- ---- what is to run

abbrev begins : {R : Type 0} → TableUse → Given DictId → Result PsCore (Trouble R) → TableUse → Type 0
begins t (Ok (d, s)) r t' = (r ≡ Ok (core_in s d)) × (t' ≡ record t { store = s; own = Some d })
begins t (Err f) r t' = (r ≡ Err (Kind LimitCheck)) × (t' ≡ t)

begins_covers : (t : TableUse) (given : Given DictId) (r : Result PsCore (Trouble Cause)) (t' : TableUse) → begins t given r t' → (q : Result PsCore Troubled) × Matches (Same PsCore) r q × begins t given q t'
begins_covers t (Ok (d, s)) r t' h = (Ok (core_in s d), subst (λ r. Matches (Same PsCore) r (Ok (core_in s d))) (sym h.0) refl, (refl, h.1))
begins_covers t (Err f) r t' h = (Err (Kind LimitCheck), subst (λ r. Matches (Same PsCore) r (Err (Kind LimitCheck))) (sym h.0) refl, (refl, h.1))

abbrev begins_or_again : {R : Type 0} → Option DictId → Eval R PsCore
begins_or_again None t r t' = begins t (making_dict (record t.store { part = Command })) r t'
begins_or_again (Some d) t r t' = (r ≡ Ok (core_in t.store d)) × (t' ≡ t)

again_covers : (own : Option DictId) → Covers (Same PsCore) (begins_or_again own) (begins_or_again own)
again_covers None t r t' h = let w = begins_covers t (making_dict (record t.store { part = Command })) r t' h in record { result = w.0; matches = w.1; comes = w.2 }
again_covers (Some d) t r t' h = record { result = Ok (core_in t.store d); matches = subst (λ r. Matches (Same PsCore) r (Ok (core_in t.store d))) (sym h.0) refl; comes = (refl, h.1) }

pub beginning_covers : Covers (Same PsCore) beginning beginning
beginning_covers t r t' h = let w = again_covers t.own t r t' h in record { result = w.result; matches = w.matches; comes = w.comes }

abbrev texts_by : TableUse → Dial → PsCore → Given StringId → Result Run Troubled → TableUse → Type 0
texts_by t d c (Ok (text, s)) r t' = (r ≡ Ok (record { dial = d; core = ready (Str text true) c (record t { store = s }) })) × (t' ≡ record t { store = s })
texts_by t d c (Err f) r t' = (r ≡ Err (Kind LimitCheck)) × (t' ≡ t)

abbrev texts : List ℕ → Dial → PsCore → OnSide Run
texts text d c t r t' = texts_by t d c (making_string t.store text) r t'

given_covers : (t : TableUse) (d : Dial) (c : PsCore) (given : Given StringId) (r : Result Run (Trouble Cause)) (t' : TableUse) → asked_raw.texted_by t d c given r t'
    → (q : Result Run Troubled) × Matches (Same Run) r q × texts_by t d c given q t'
given_covers t d c (Ok (text, s)) r t' h =
    let run : Run = record { dial = d; core = ready (Str text true) c (record t { store = s }) } in
    (Ok run, subst (λ r. Matches (Same Run) r (Ok run)) (sym h.0) refl, (refl, h.1))
given_covers t d c (Err f) r t' h = (Err (Kind LimitCheck), subst (λ r. Matches (Same Run) r (Err (Kind LimitCheck))) (sym h.0) refl, (refl, h.1))

texted_covers : (text : List ℕ) (d : Dial) (c : PsCore) → Covers (Same Run) (asked_raw.texted text d c) (texts text d c)
texted_covers text d c t r t' h = let w = given_covers t d c (making_string t.store text) r t' h in record { result = w.0; matches = w.1; comes = w.2 }

ready_covers : (a : SideState) (text : List ℕ) → Covers (Same Run) (asked_raw.ps_ready (dial_of a (Numbered a.frame) true) text) (side_raw.ps_ready a text)
ready_covers a text =
    let d = dial_of a (Numbered a.frame) true in
    bind_covers {P = Same PsCore} beginning beginning (asked_raw.texted text d) (texts text d) beginning_covers (λ c c' e.
    subst (λ c'. Covers (Same Run) (asked_raw.texted text d c) (texts text d c')) e (texted_covers text d c))

-- ---- what is said

same_operands : (s : StoreState) (xs : List PsObj) → asked_raw.operand_texts s xs ≡ side_raw.operand_texts s xs
same_operands s [] = refl
same_operands s (x ∷ xs) = ap (λ text. codes " " ++ (text_of s x ++ text)) (same_operands s xs)

abbrev with_run : SideState → Dial → PsCore → SideState
with_run a d c = with_table_of (with_bytes_of d.target a) c.store

result_matches : (a : SideState) (answer : Answer) (d : Dial) (c : PsCore) → Matches (Says (with_run a d c)) (asked_raw.ps_result answer c) (side_raw.ps_result a answer d c)
result_matches a (Ok u) d c =
    let said = codes "ps" ++ side_raw.operand_texts c.store (reverse c.operands) in
    (ap (λ text. line (codes "ps" ++ text)) (same_operands c.store (reverse c.operands)) ∙ sym (append-nil (line said)), refl)
result_matches a (Err f) d c = same_trouble f

-- ---- a whole `ps`

stands_after : (a : SideState) (b : SideState) (i k l : Inquiry) → b.table ≡ a.table → Stands i a → IsEnded i k l → Stands l (with_table_of b k.core.store)
stands_after a b i k l e s ended = record {
  table = ap (λ (x : StoreState). record k.core.store { command = x.command; part = x.part }) e ∙ same_table a i k l s ended;
  nothing = left_nothing i k l a s ended;
}

same_table_of : (a : SideState) (target : Option Target) → (with_bytes_of target a).table ≡ a.table
same_table_of a None = refl
same_table_of a (Some target) = refl

-- an answer and a side to which the machine session's `ps` comes
record Ps (a : SideState) (text : List ℕ) (r : Result (List ℕ) (Trouble Cause)) (b : SideState) : Type 0 where
  pub result : Result Change Troubled
  pub matches : Matches (Says b) r result
  pub comes : side_raw.RunsPs a text result b

module _ (a : SideState) (text : List ℕ) where
  abbrev begin : TableUse
  begin = use_of a.table MOST_STEPS

  unbegun : (t : TableUse) (e : Trouble Cause) (q : Result Run Troubled) → Matches (Same Run) (Err e) q → side_raw.ps_ready a text begin q t → Ps a text (Err e) (with_table_of a t.store)
  unbegun t e (Ok run) m h = absurd m
  unbegun t e (Err f) m h = record { result = Err f; matches = m; comes = side_raw.not_begun h }

  ran : (run : Run) (t : TableUse) (answer : Answer) (left : ℕ) (d : Dial) (c : PsCore) (q : Result Run Troubled) → Matches (Same Run) (Ok run) q → side_raw.ps_ready a text begin q t
      → Runs Operates t.left run.dial run.core answer left d c → Ps a text (asked_raw.ps_result answer c) (with_run a d c)
  ran run t answer left d c (Ok run') m h runs =
      record { result = side_raw.ps_result a answer d c; matches = result_matches a answer d c; comes = side_raw.ended h (subst (λ (x : Run). Runs Operates t.left x.dial x.core answer left d c) m runs) }
  ran run t answer left d c (Err f) m h runs = absurd m

  ps_comes : (r : Result (List ℕ) (Trouble Cause)) (d' : Dial) (s : StoreState) (n : ℕ) → asked_raw.RunsPs (dial_of a (Numbered a.frame) true) text begin r d' s n
      → Ps a text r (with_table_of (with_bytes_of d'.target a) s)
  ps_comes _ _ _ _ (asked_raw.not_begun {e = e} {t' = t} h) =
      let w = ready_covers a text begin (Err e) t h in
      unbegun t e w.result w.matches w.comes
  ps_comes _ _ _ _ (asked_raw.ended {run = run} {t' = t} {answer = answer} {left = left} {d' = d} {c = c} h runs) =
      let w = ready_covers a text begin (Ok run) t h in
      ran run t answer left d c w.result w.matches w.comes runs

pub ps_meant : PsIsMeant
ps_meant a text i j k l r d d' stands begun e runs ended =
    let from : asked_raw.RunsPs (dial_of a (Numbered a.frame) true) text (use_of a.table MOST_STEPS) r d' k.core.store (left_of k) =
    subst (λ (t : TableUse). asked_raw.RunsPs (dial_of a (Numbered a.frame) true) text t r d' k.core.store (left_of k)) (begun_at a i j stands begun)
    (subst (λ (x : Dial). asked_raw.RunsPs x text (use_of j.core.store (left_of j)) r d' k.core.store (left_of k)) e runs) in
    let w = ps_comes a text r d' k.core.store (left_of k) from in
    record {
      result = w.result;
      side = with_table_of (with_bytes_of d'.target a) k.core.store;
      matches = w.matches;
      comes = w.comes;
      side_is = refl;
      stands = stands_after a (with_bytes_of d'.target a) i k l (same_table_of a d'.target) stands ended;
    }
