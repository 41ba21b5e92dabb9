use Rattle.std.proofs.Common.{◌∙◌, ℕ, ◌+◌, ◌==◌, if◌then◌else◌, refl, ap, arith}
use Rattle.cycle_trace.proofs.RowsReadLemmas.{many_streams, stream_in, wants, ReadsRows-more}
use Rattle.cycle_trace.proofs.reader.rows.RowsRead.advance.Goals as goal

pub next_stream-self-requires : goal.next_stream-self-requires
next_stream-self-requires c =
    let h = c.requires.1.1.0 in
    omega (arith, stream_in c.args.self.now c.requires.0 h (wants c.args.self.now c.requires.0 h c.requires.1.0 c.requires.1.1.1), c.len.ensures)

pub returns-clause-reads : goal.returns-clause-reads
returns-clause-reads c t row h can =
    ReadsRows-more c.args.self.now _ t row h can refl refl refl refl
    (c.next_stream-self.ensures ∙ ap (λ (n : ℕ). if c.args.self.now.stream + 1 == n then 0 else c.args.self.now.stream + 1) (c.len.ensures ∙ c.args.self.now.streams.ok.0 ∙ many_streams c.args.self.now t h))
