use Rattle.std.proofs.Common.{rules, ◌≡◌, ℕ, suc, ◌-◌, ◌%◌, ◌==◌, false, Err, List, ◌∷◌, [], ◌++◌, sym, subst, arith}
use Rattle.ldb_words.specs.Word.{sum_of}
use Rattle.ps_append.specs.Characters.{bytes_from, ReadsBytes}
use Rattle.ps_append.proofs.Reading.{fault_read, more_read}
use Rattle.ps_append.proofs.characters.+read_bytes.Goals as goal

pub returns-in-Err-clause-reads : goal.returns-in-Err-clause-reads
returns-in-Err-clause-reads g t c =
    let e : c.args.most ≡ suc (c.args.most - 1) = omega arith in
    subst (λ x. ReadsBytes (λ b. bytes_from c.args.most b c.args.place) c.args.bytes.now (g.M.AbsMem.seen c.args.memory.now) (Err x) c.args.bytes.now (g.M.AbsMem.seen c.fetch.new.self)) (sym c.troubled.ensures)
    (fault_read (g.M.AbsMem.seen c.args.memory.now) (g.M.AbsMem.seen c.fetch.new.self) c.args.place c.args.most (c.args.most - 1) c.args.bytes.now c.in-Err.fault e c.in-Err.ensures.meaning)

pub returns-clause-reads : goal.returns-clause-reads
returns-clause-reads g t c =
    let e : c.args.most ≡ suc (c.args.most - 1) = omega arith in
    let z : (c.in-Ok.bits % 256 == 0) ≡ false = search rules in
    more_read (g.M.AbsMem.seen c.args.memory.now) (g.M.AbsMem.seen c.fetch.new.self) (g.M.AbsMem.seen c.read_bytes.new.memory) c.args.place c.args.most (c.args.most - 1) c.in-Ok.bits
    c.args.bytes.now c.read_bytes.new.bytes e c.in-Ok.ensures.meaning z c.read_bytes.result
    (subst (λ (l : List ℕ). ReadsBytes (λ b. bytes_from (c.args.most - 1) b (record c.args.place { at = sum_of c.args.place.at 1 })) l (g.M.AbsMem.seen c.fetch.new.self) c.read_bytes.result c.read_bytes.new.bytes (g.M.AbsMem.seen c.read_bytes.new.memory))
    c.in_default.ensures.ok c.read_bytes.ensures.reads)
