use Rattle.std.proofs.Common.{◌≡◌, ◌≢◌, sym, subst, ℕ, ◌+◌, ◌-◌, ◌*◌, arith, List, ◌++◌, codes, Result, Ok, Err, OnOk}
use Rattle.ldb_words.specs.Word.{sum_of}
use Rattle.ldb_words.specs.declared.kinds.Kind.TheVariants.{Word}
use Rattle.abs_mem.proofs.Walks.{same_here}
use Rattle.break_plant.specs.Planted.{in_memory}
use Rattle.ps_leaves.specs.Forms.{hex_text}
use Rattle.table_asks.specs.declared.fault.AskFault.{AskFault}
use Rattle.table_asks.specs.Asking.{LedAsk}
use Rattle.table_read.specs.Reads.{in_ok}
use Rattle.asking.specs.Doing.{Asks}
use Rattle.asking.specs.Raw.{words_behind}
use Rattle.asking.proofs.Asked.{asks_then, asks_fails, led_fault, led_then, words_outside, words_further, no_words}
use Rattle.asking.proofs.Begun.{begins_on, begins_same}
use Rattle.asking.proofs.raw.+append_words.Goals as goal

pub returns-then-count-eq0-clause-meaning : goal.returns-then-count-eq0-clause-meaning
returns-then-count-eq0-clause-meaning g n c =
    let m = g.M.AbsMem.seen c.args.m.now in
    let none : c.args.count ≡ 0 = omega arith in
    (same_here m, record { holds = λ b r t. no_words b c.args.context c.args.out.now c.args.number c.args.count none })

pub returns-then-count-eq0-clause-calls : goal.returns-then-count-eq0-clause-calls
returns-then-count-eq0-clause-calls g n c = g.met.M.AbsMem.stays c.args.m.now

pub returns-in-Err-clause-meaning : goal.returns-in-Err-clause-meaning
returns-in-Err-clause-meaning g n c =
    let m = g.M.AbsMem.seen c.args.m.now in
    let after = g.M.AbsMem.seen c.fetch.new.self in
    let some : c.args.count ≢ 0 = λ e. absurd (omega arith) in
    subst (λ (x : AskFault). Asks m {A = List ℕ} (words_behind c.args.out.now c.args.context c.args.number c.args.count) (Err x) after) (sym c.memory_fault.ensures.value)
    (asks_fails m after (words_behind c.args.out.now c.args.context c.args.number c.args.count) (in_memory (sum_of c.args.context (4 * c.args.number))) Word c.in-Err.fault c.in-Err.ensures.meaning
    (λ b e. words_outside b c.args.context c.args.out.now c.args.number c.args.count some e))

pub returns-in-Err-clause-calls : goal.returns-in-Err-clause-calls
returns-in-Err-clause-calls g n c =
    let leads = g.M.AbsMem.leads in
    subst (λ (x : AskFault). LedAsk {A = Unit {0}} leads c.args.m.now (Err x) c.fetch.new.self) (sym c.memory_fault.ensures.value)
    (led_fault leads c.args.m.now ℕ (Unit {0}) c.in-Err.fault c.fetch.new.self c.in-Err.ensures.calls)

pub returns-in-Err-append_word-clause-meaning : goal.returns-in-Err-append_word-clause-meaning
returns-in-Err-append_word-clause-meaning g n c = c.in-Ok.ensures.meaning.0

pub returns-in-Err-append_word-clause-calls : goal.returns-in-Err-append_word-clause-calls
returns-in-Err-append_word-clause-calls g n c = c.in-Ok.ensures.calls

pub returns-in-Ok-append_word-clause-meaning : goal.returns-in-Ok-append_word-clause-meaning
returns-in-Ok-append_word-clause-meaning g n c =
    let m = g.M.AbsMem.seen c.args.m.now in
    let between = g.M.AbsMem.seen c.fetch.new.self in
    let after = g.M.AbsMem.seen c.append_words.new.m in
    let some : c.args.count ≢ 0 = λ e. absurd (omega arith) in
    let longer : c.append_word.new.out ≡ c.args.out.now ++ (codes " " ++ hex_text 8 c.in-Ok.word) = c.in-Ok-append_word.ensures in
    let result = in_ok (λ (u : Unit {0}). c.append_words.new.out) c.append_words.result in
    let rest = subst (λ (text : List ℕ). Asks between (words_behind text c.args.context (c.args.number + 1) (c.args.count - 1)) result after) longer c.append_words.ensures.meaning in
    asks_then m between after (words_behind c.args.out.now c.args.context c.args.number c.args.count) (words_behind (c.args.out.now ++ (codes " " ++ hex_text 8 c.in-Ok.word)) c.args.context (c.args.number + 1) (c.args.count - 1)) result c.in-Ok.ensures.meaning.0
    (record { holds = λ b r t. words_further b c.args.context c.args.out.now c.args.number c.args.count c.in-Ok.word some (c.in-Ok.ensures.meaning.1.holds b r t) })
    rest

pub returns-in-Ok-append_word-clause-calls : goal.returns-in-Ok-append_word-clause-calls
returns-in-Ok-append_word-clause-calls g n c =
    led_then g.M.AbsMem.leads c.args.m.now c.fetch.new.self c.append_words.new.m c.append_words.result (g.met.M.AbsMem.goes_on c.args.m.now c.fetch.new.self c.append_words.new.m) c.in-Ok.ensures.calls c.append_words.ensures.calls

pub returns-then-count-eq0-clause-front : goal.returns-then-count-eq0-clause-front
returns-then-count-eq0-clause-front g n c = begins_same c.args.out.now

pub returns-in-Ok-append_word-clause-front : goal.returns-in-Ok-append_word-clause-front
returns-in-Ok-append_word-clause-front g n c =
    further c.append_words.result (λ w. begins_on c.args.out.now c.append_word.new.out c.append_words.new.out (codes " " ++ hex_text 8 c.in-Ok.word, c.in-Ok-append_word.ensures) w) c.append_words.ensures.front
  where
    further : {A E P Q : Type 0} (r : Result A E) → (P → Q) → OnOk r P → OnOk r Q
    further (Ok x) k p = k p
    further (Err e) k p = tt
