use Rattle.std.proofs.Common.{◌≡◌, ◌*◌, length}
use Rattle.cycle_trace.proofs.KeepLemmas.{text-many, text-whole}
use Rattle.cycle_trace.proofs.trace.keep.Kept.trace.Goals as goal

pub returns-then-len-want : goal.returns-then-len-want
returns-then-len-want c t stands whole =
    let many : length c.args.self.rows ≡ c.args.self.header.cycles * length c.args.self.header.heads = text-many c.args.self.header c.args.self.rows t stands.same whole in
    c.if-len-want.true (rw (c.len-2.ensures, c.from.ensures, c.len.ensures) many)

pub invariant_of-result : goal.invariant_of-result
invariant_of-result c =
    let stands = c.requires.1 in
    let many = rw (c.len-2.ensures, c.from.ensures, c.len.ensures) at c.if-len-want.false in
    record { whole = text-whole c.args.self.header c.args.self.rows c.requires.0 stands.same stands.begun many }
