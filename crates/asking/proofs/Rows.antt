-- `frames`: the walk that lists them, and the query that is meant.
use Rattle.std.proofs.Common.{◌≡◌, ◌∙◌, refl, sym, ap, subst, ℕ, List, [], ◌∷◌, ◌++◌, length, append_assoc, codes, decimal, Result, Ok, Err}
use Rattle.ps_store.specs.StoreState.{StoreState}
use Rattle.frame_bytes.specs.Bytes.{Bytes}
use Rattle.abs_mem.specs.Meaning.{Seen}
use Rattle.table_read.specs.Reads.{in_ok}
use Rattle.table_model.specs.declared.row.TargetRow.{TargetRow}
use Rattle.table_model.specs.Reading.{Walked}
use Rattle.table_model.specs.Rows.{PointRow}
use Rattle.table_model.specs.Frames.{told_frames}
use Rattle.dialect_model.specs.TableUse.{TableUse, Trouble, Eval, Looks, gives, onward, ◌>>=◌}
use Rattle.table_asks.specs.declared.fault.Cause.{Cause}
use Rattle.table_asks.specs.declared.fault.AskFault.{AskFault}
use Rattle.table_asks.specs.declared.inquiry.Inquiry.{Inquiry}
use Rattle.table_asks.specs.Asking.{ComesOver}
use Rattle.table_asks.proofs.Fair.{Fair, mapped_fair}
use Rattle.table_asks.proofs.Framed.{told_frames_fair}
use Rattle.table_asks.proofs.Binding.{behind_fault_over, behind_answer, looks_mapped, over_as}
use Rattle.asking.specs.declared.frames.Listed.{Listed}
use Rattle.asking.specs.Lines.{line, frame_lines}
use Rattle.asking.specs.Frames.{listed, listing}

abbrev pub text_of : Listed → List ℕ
text_of l = (codes "frames " ++ decimal l.count) ++ (10 ∷ l.lines)

abbrev text_told : List PointRow → List ℕ
text_told ps = line (codes "frames " ++ decimal (length ps)) ++ frame_lines 0 ps

text_is : (ps : List PointRow) → text_of (listed ps) ≡ text_told ps
text_is ps = sym (append_assoc (codes "frames " ++ decimal (length ps)) (10 ∷ []) (frame_lines 0 ps))

abbrev answer : {A : Type 0} → A → Result A (Trouble Cause)
answer x = Ok x

abbrev on_list : Listed → Eval Cause (List ℕ)
on_list l = gives (text_of l)

abbrev on_rows : List PointRow → Eval Cause (List ℕ)
on_rows ps = gives (text_told ps)

-- what comes of the list, by what came of the rows
as_rows : (a₀ : Result (List PointRow) (Trouble Cause)) (a : Result Listed (Trouble Cause)) (u₀ u t' : TableUse) (r : Result (List ℕ) (Trouble Cause))
    → onward (λ ps. gives (listed ps)) a₀ u₀ a u → onward on_list a u r t' → onward on_rows a₀ u₀ r t'
as_rows (Ok ps) a u₀ u t' r o k =
    let then : onward on_list (Ok (listed ps)) u r t' = subst (λ (x : Result Listed (Trouble Cause)). onward on_list x u r t') o.0 k in
    (then.0 ∙ ap (λ (xs : List ℕ). answer xs) (text_is ps), then.1 ∙ o.1)
as_rows (Err e) a u₀ u t' r o k =
    let then : onward on_list (Err e) u r t' = subst (λ (x : Result Listed (Trouble Cause)). onward on_list x u r t') o.0 k in
    (then.0, then.1 ∙ o.1)

module _ (row : TargetRow) (context : ℕ) where
  abbrev pub query : Bytes → StoreState → Walked Listed
  query b s = in_ok listed (told_frames row s b context)

  pub query_fair : (b : Bytes) (s : StoreState) → Fair s (query b s)
  query_fair b s = mapped_fair s listed (told_frames row s b context) (told_frames_fair row s b context)

  abbrev lists : Bytes → Eval Cause (List ℕ)
  lists b = Looks (query b) >>= on_list

  as_listing : (b : Bytes) (t : TableUse) (r : Result (List ℕ) (Trouble Cause)) (t' : TableUse) → lists b t r t' → listing row context b t r t'
  as_listing b t r t' h =
      let rows = looks_mapped (λ s. told_frames row s b context) listed t h.0 h.1 h.2 in
      (rows.0, rows.1, rows.2, as_rows rows.0 h.0 rows.1 h.1 t' r rows.3 h.3)

  module _ {R : Type 0} (old new : Inquiry) (s s' : Seen R) where
    pub lists_text : (l : Listed) → ComesOver (λ b. Looks (query b)) old s (Ok l) new s' → ComesOver (listing row context) old s (Ok (text_of l)) new s'
    lists_text l h = over_as lists (listing row context) as_listing old new s s' (Ok (text_of l)) (behind_answer (λ b. Looks (query b)) (λ b. on_list) old new s s' l (text_of l) h (λ b u. (refl, refl)))

    pub lists_fails : (f : AskFault) → ComesOver (λ b. Looks (query b)) old s (Err f) new s' → ComesOver (listing row context) old s (Err f) new s'
    lists_fails f h = over_as lists (listing row context) as_listing old new s s' (Err f) (behind_fault_over (λ b. Looks (query b)) (λ b. on_list) old new s s' f h)
