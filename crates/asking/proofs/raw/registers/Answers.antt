use Rattle.std.proofs.Common.{◌≡◌, ◌∙◌, refl, sym, subst, ℕ, List, [], ◌∷◌, ◌++◌, codes, Ok, Err}
use Rattle.abs_mem.proofs.Walks.{same_here}
use Rattle.asking.specs.Lines.{target_text, BeginsWith}
use Rattle.asking.specs.Doing.{Asks}
use Rattle.asking.specs.Raw.{words_behind, regs_line}
use Rattle.asking.proofs.Asked.{asks_ok, asks_err, led_as, regs_told, regs_untold}
use Rattle.asking.proofs.Begun.{begins_more, begins_on}
use Rattle.asking.proofs.raw.registers.Goals as goal

pub returns-in_default-clause-meaning : goal.returns-in_default-clause-meaning
returns-in_default-clause-meaning g c = same_here (g.W.AbsMem.seen c.args.talk.now.memory.below.below.below)

pub returns-in_default-clause-calls : goal.returns-in_default-clause-calls
returns-in_default-clause-calls g c = g.met.W.AbsMem.stays c.args.talk.now.memory.below.below.below

pub returns-in_default-clause-kept : goal.returns-in_default-clause-kept
returns-in_default-clause-kept g c = refl

pub returns-in-Err-clause-meaning : goal.returns-in-Err-clause-meaning
returns-in-Err-clause-meaning g c =
    let m = g.W.AbsMem.seen c.args.talk.now.memory.below.below.below in
    let after = g.W.AbsMem.seen c.append_words.new.m in
    let target = c.args.talk.now.view.target in
    let context = c.args.talk.now.view.context in
    let head : c.in-Ok.out ≡ codes "regs " ++ target_text target = c.in-Ok.ensures in
    let asked = subst (λ (text : List ℕ). Asks m {A = List ℕ} (words_behind text context 0 36) (Err c.in-Err.fault) after) head c.in-Err.ensures.meaning in
    asks_err m after (regs_line target context) (words_behind (codes "regs " ++ target_text target) context 0 36) c.in-Err.fault (λ b e. regs_untold target context b e) asked

pub returns-in-Err-clause-calls : goal.returns-in-Err-clause-calls
returns-in-Err-clause-calls g c = led_as g.W.AbsMem.leads c.args.talk.now.memory.below.below.below (Unit {0}) (List ℕ) c.in-Err.fault c.append_words.new.m c.in-Err.ensures.calls

pub returns-in-Err-clause-kept : goal.returns-in-Err-clause-kept
returns-in-Err-clause-kept g c = refl

pub returns-in-Ok-append-clause-meaning : goal.returns-in-Ok-append-clause-meaning
returns-in-Ok-append-clause-meaning g c =
    let m = g.W.AbsMem.seen c.args.talk.now.memory.below.below.below in
    let after = g.W.AbsMem.seen c.append_words.new.m in
    let target = c.args.talk.now.view.target in
    let context = c.args.talk.now.view.context in
    let head : c.in-Ok.out ≡ codes "regs " ++ target_text target = c.in-Ok.ensures in
    let words = c.append_words.new.out in
    let asked = subst (λ (text : List ℕ). Asks m {A = List ℕ} (words_behind text context 0 36) (Ok words) after) head c.in-Ok-append_words.ensures.meaning in
    subst (λ (t : List ℕ). Asks m (regs_line target context) (Ok t) after) (sym c.in-Ok-append.ensures.ok)
    (asks_ok m after (regs_line target context) (words_behind (codes "regs " ++ target_text target) context 0 36) (words ++ 10 ∷ []) words (λ b e. regs_told target context b words e) asked)

pub returns-in-Ok-append-clause-calls : goal.returns-in-Ok-append-clause-calls
returns-in-Ok-append-clause-calls g c = c.in-Ok-append_words.ensures.calls

pub returns-in-Ok-append-clause-kept : goal.returns-in-Ok-append-clause-kept
returns-in-Ok-append-clause-kept g c = refl

pub returns-in-Err-append-clause-meaning : goal.returns-in-Err-append-clause-meaning
returns-in-Err-append-clause-meaning g c = c.in-Ok-append_words.ensures.meaning.0

pub returns-in-Err-append-clause-calls : goal.returns-in-Err-append-clause-calls
returns-in-Err-append-clause-calls g c = c.in-Ok-append_words.ensures.calls

pub returns-in-Err-append-clause-kept : goal.returns-in-Err-append-clause-kept
returns-in-Err-append-clause-kept g c = refl

pub returns-in-Ok-append-clause-word : goal.returns-in-Ok-append-clause-word
returns-in-Ok-append-clause-word g c =
    let target = c.args.talk.now.view.target in
    let words = c.append_words.new.out in
    let head : BeginsWith (codes "regs ") c.in-Ok.out = (target_text target, c.in-Ok.ensures) in
    let w = begins_more (codes "regs ") words (10 ∷ []) (begins_on (codes "regs ") c.in-Ok.out words head c.in-Ok-append_words.ensures.front) in
    (w.0, c.in-Ok-append.ensures.ok ∙ w.1)
