use Rattle.std.proofs.Common.{sym, ◌∙◌, arith}
use Rattle.logical_types.specs.Names.{is_same_name}
use Rattle.logical_types.proofs.NameLemmas.{any-found, any-more, same_name}
use Rattle.logical_types.proofs.names.has_name.Goals as goal

pub returns-then-eq_ignore_ascii_case : goal.returns-then-eq_ignore_ascii_case
returns-then-eq_ignore_ascii_case g c =
    sym (any-found (λ other. is_same_name other c.args.name.now) (g.N.Named.names c.args.parts.now) c.parts.index c.args.end c.name.result.now c.parts-test.true c.requires c.name.ensures
    (same_name c.eq_ignore_ascii_case.result c.name.result.now c.args.name.now c.eq_ignore_ascii_case.ensures.test.0 c.eq_ignore_ascii_case.ensures.test.1 ∙ c.if-eq_ignore_ascii_case.true))

pub parts-preserved : goal.parts-preserved
parts-preserved g c =
    any-more (λ other. is_same_name other c.args.name.now) (g.N.Named.names c.args.parts.now) c.parts.index c.name.result.now (omega (arith, c.parts-test.true, c.requires)) c.name.ensures c.parts.invariant
    (same_name c.eq_ignore_ascii_case.result c.name.result.now c.args.name.now c.eq_ignore_ascii_case.ensures.test.0 c.eq_ignore_ascii_case.ensures.test.1 ∙ c.if-eq_ignore_ascii_case.false)
