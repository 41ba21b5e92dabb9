use Rattle.std.proofs.Common.{refl, ap, map}
use Rattle.logical_types.specs.Tree.{plain}
use Rattle.logical_value.proofs.UnpackingLemmas.{read-whole}
use Rattle.logical_value.proofs.unpacking.unpack.Goals as goal

pub returns : goal.returns
returns c =
    read-whole _ c.read.new.self c.read.result (plain c.args.ltype.now) c.args.word.now refl (ap (map (λ name. name.now)) c.new.ensures) c.requires.plain c.requires.few c.requires.width
    c.read.ensures
