use Rattle.std.proofs.Common.{◌∙◌, sym, ap}
use Rattle.std.specs.Option.{option_copied}
use Rattle.mem_cache.proofs.Keys.{equals, same_numbers}
use Rattle.mem_cache.proofs.Keeping.{kept_fetch, fresh_fetch, failed_fetch, promoted_are_among, put_are_among}
use Rattle.mem_cache.proofs.cached.CachedAbsMem.fetch.Goals as goal

pub returns-in-Some-clause-meaning : goal.returns-in-Some-clause-meaning
returns-in-Some-clause-meaning g c =
    let before = c.args.self.now.kept in
    let after = c.promote.new.self in
    let access = c.access_of-access.result in
    kept_fetch (g.M.AbsMem.seen c.args.self.now.below) before.entries after.entries (promoted_are_among _ before after c.promote.ensures.entries)
    c.args.place c.args.kind access c.in-Some.value.now c.access_of-access.ensures
    (equals access) (sym c.peek.ensures ∙ ap option_copied c.in-Some.is) (same_numbers access)

pub returns-in-Ok-clause-meaning : goal.returns-in-Ok-clause-meaning
returns-in-Ok-clause-meaning g c =
    let before = c.args.self.now.kept in
    let access = c.access_of-access.result in
    fresh_fetch (g.M.AbsMem.seen c.args.self.now.below) (g.M.AbsMem.seen c.fetch.new.self) before.entries c.put.new.self.entries c.args.place c.args.kind access c.in-Ok.value c.access_of-access.ensures
    (put_are_among access c.in-Ok.value before c.promote.new.self c.put.new.self (promoted_are_among _ before c.promote.new.self c.promote.ensures.entries) equals
    c.put.result c.put.ensures.entries c.put.ensures.err (same_numbers access))
    c.in-Ok.ensures.meaning

pub returns-in-Err-clause-meaning : goal.returns-in-Err-clause-meaning
returns-in-Err-clause-meaning g c =
    let before = c.args.self.now.kept in
    failed_fetch (g.M.AbsMem.seen c.args.self.now.below) (g.M.AbsMem.seen c.fetch.new.self) before.entries c.promote.new.self.entries c.args.place c.args.kind
    c.in-Err.fault (promoted_are_among _ before c.promote.new.self c.promote.ensures.entries) c.in-Err.ensures.meaning
