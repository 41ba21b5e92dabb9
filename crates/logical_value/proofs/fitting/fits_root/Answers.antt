use Rattle.std.proofs.Common.{map}
use Rattle.logical_value.specs.Tree.{plain}
use Rattle.logical_value.proofs.FitLemmas.{fits-root, fits-no_root}
use Rattle.logical_value.proofs.fitting.fits_root.Goals as goal

pub returns-in-Some : goal.returns-in-Some
returns-in-Some c =
    fits-root c.args.split.now.nodes c.args.root c.in-Some.node.now _ c.args.series.now c.from.result c.fit_nests.result c.node.view_is c.in-Some.ensures.value c.from.ensures
    c.fit_nests.ensures

pub returns-in-None : goal.returns-in-None
returns-in-None c = fits-no_root c.args.split.now.nodes c.args.root (map plain c.args.series.now) c.in-None.ensures.value
