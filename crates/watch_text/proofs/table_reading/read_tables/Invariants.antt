use Rattle.std.proofs.Common.{◌≡◌, [], drop}
use Rattle.watch_text.specs.Reading.{tables_from}
use Rattle.watch_text.proofs.table_reading.read_tables.Given as goal

-- the tables of all streams are those that are found, and those of the streams to come
abbrev pub invariant-heads : goal.invariant-heads
invariant-heads l = tables_from l.heads [] l.initial.lines ≡ tables_from (drop l.head-index l.heads) l.found l.lines
