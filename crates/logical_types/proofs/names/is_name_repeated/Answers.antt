use Rattle.std.proofs.Common.{sym, arith}
use Rattle.logical_types.proofs.NameLemmas.{twice-found, none_twice-more}
use Rattle.logical_types.proofs.names.is_name_repeated.Goals as goal

pub returns-then-has_name : goal.returns-then-has_name
returns-then-has_name g c =
    sym (twice-found (g.N.Named.names c.args.parts.now) c.parts.index c.name.result.now
    (omega (arith, c.parts-test.true, c.len-index-end.ensures)) c.name.ensures
    (sym c.if-has_name.ensures))

pub parts-preserved : goal.parts-preserved
parts-preserved g c =
    none_twice-more (g.N.Named.names c.args.parts.now) c.parts.index c.name.result.now
    (omega (arith, c.parts-test.true, c.len-index-end.ensures)) c.name.ensures
    c.parts.invariant (sym c.if-has_name.ensures)
