use Rattle.std.proofs.Common.{sym, ap, ◌∙◌, arith}
use Rattle.std.specs.Str.{bytes_eq}
use Rattle.vhdl_text.proofs.StreamLemmas.{search-found, search-next}
use Rattle.vhdl_text.proofs.streams.search.Goals as goal

pub returns-then-is_same : goal.returns-then-is_same
returns-then-is_same c =
    search-found c.args.paths.now c.args.path.now c.other-item.result c.paths.other-index c.paths.number c.paths-test.true c.other-item.is
    (sym (c.is_same.ensures ∙ ap (bytes_eq c.args.path.now) c.as_slice.ensures) ∙ c.if-is_same.true) c.paths.invariant.1

pub paths-preserved : goal.paths-preserved
paths-preserved c = (
  omega (arith, c.paths.invariant.0),
  search-next c.args.paths.now c.args.path.now c.other-item.result c.paths.other-index c.paths.number c.paths-test.true c.other-item.is
      (sym (c.is_same.ensures ∙ ap (bytes_eq c.args.path.now) c.as_slice.ensures) ∙ c.if-is_same.false) c.paths.invariant.1,
)
