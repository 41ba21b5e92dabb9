use Rattle.std.proofs.Common.{◌∙◌, Some, refl, ap, sym}
use Rattle.std.proofs.lemmas.Option.{slice_get-get_or}
use Rattle.cycle_trace.proofs.RowsReadLemmas.{ReadsRows-read, gives-read, stream_in}
use Rattle.cycle_trace.proofs.reader.rows.RowsRead.read_row.Goals as goal

pub returns-clause-reads : goal.returns-clause-reads
returns-clause-reads g c t h =
    let within = stream_in c.args.self.now t h c.requires.1.1 in
    let there = slice_get-get_or c.args.self.now.streams.items c.args.self.now.stream c.index_mut.result.now within ∙ ap Some (sym c.index_mut.ensures.value) in
    ReadsRows-read c.args.self.now _ t h c.requires.1.1 c.index_mut.result.now c.read.new.self there c.read.ensures.layout refl refl refl refl refl

pub returns-clause-gives : goal.returns-clause-gives
returns-clause-gives g c t p h turn =
    let within = stream_in c.args.self.now t h c.requires.1.1 in
    let there = slice_get-get_or c.args.self.now.streams.items c.args.self.now.stream c.index_mut.result.now within ∙ ap Some (sym c.index_mut.ensures.value) in
    gives-read c.args.self.now t h c.requires.1.1 c.index_mut.result.now c.read.new.self there p turn
    c.line_number-number.result c.args.line.now c.read.result (c.line_number-number.ensures t h) c.read.ensures.read
