use Rattle.std.proofs.Common.{◌≡◌, ◌∙◌, refl, sym, ap, subst, ℕ, ◌*◌, Result}
use Rattle.frame_bytes.specs.Bytes.{Bytes}
use Rattle.frame_bytes.specs.declared.frame.Frame.{Frame}
use Rattle.abs_mem.specs.declared.walk.WalkFault.{WalkFault}
use Rattle.ldb_words.specs.Word.{sum_of}
use Rattle.ldb_words.specs.declared.kinds.Kind.TheVariants.{Word}
use Rattle.ps_step.specs.Results.{◌>>=◌}
use Rattle.table_model.specs.Reading.{Walked, fetch_at}
use Rattle.table_model.specs.Frames.{saving_frame, words_from}
use Rattle.abs_mem.specs.Walking.{Walks, told_of}
use Rattle.abs_mem.proofs.Walks.{walks_then, walks_table}
use Rattle.stack_walk.proofs.saving.first_saving.Goals as goal

pub returns-clause-meaning : goal.returns-clause-meaning
returns-clause-meaning g c =
    let s = c.args.table.now in
    let after : ℕ → Bytes → Walked Frame = λ sp b. saving_frame s c.args.pc sp (words_from 32 c.args.context) c.args.function in
    let x : Walked Frame = saving_frame s c.args.pc c.in_ok-sp.sp (words_from 32 c.args.context) c.args.function in
    let is : c.frame_told.result ≡ told_of x =
    c.frame_told.ensures ∙ ap told_of (c.saving_frame.ensures ∙ ap (λ p. saving_frame s c.args.pc c.in_ok-sp.sp p c.args.function) c.words_from-places.ensures) in
    let word : Bytes → Walked ℕ = λ b. fetch_at b (sum_of c.args.context (4 * c.args.target.now.stack_pointer)) Word in
    let u = g.M.AbsMem.seen c.fetch_word.new.m in
    walks_then (g.M.AbsMem.seen c.args.m.now) u u word after (λ b. word b >>= λ sp. after sp b) c.in_ok-sp.sp c.frame_told.result
    c.in_ok-sp.ensures.meaning
    (subst (λ (r : Result Frame WalkFault). Walks (after c.in_ok-sp.sp) u r u) (sym is) (walks_table u (after c.in_ok-sp.sp) x (λ b. refl)))
    (λ b e. ap (λ y. y >>= λ sp. after sp b) e)
