use Rattle.std.proofs.Common.{◌≡◌, drop, map}
use Rattle.type_split.specs.Streams.{node_view, plain_split}
use Rattle.logical_value.specs.Fits.{fits_split, fit_roots}
use Rattle.logical_value.specs.Tree.{plain, plain_port}
use Rattle.logical_value.proofs.fitting.fits.Given as goal

-- the value fits where the series that are left fit the roots that are left
abbrev pub invariant-roots : goal.invariant-roots
invariant-roots l = fits_split (plain_split l.split) (plain_port l.value) ≡ fit_roots (map node_view l.split.nodes) (drop l.root-index l.root-items) (map (map plain) l.left)
