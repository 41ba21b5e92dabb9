use Rattle.std.proofs.Common.{◌∙◌, sym, rules, tests}
use Rattle.til_resolve.specs.Paths.{is_same_path}
use Rattle.til_resolve.specs.PlainProject.{plain_streamlet}
use Rattle.std.proofs.lemmas.Iterator.{YieldsList-from_slice}
use Rattle.std.proofs.lemmas.Iterator.Search.{position_from_yields_List}
use Rattle.tydi_tool.proofs.DesignSteps.{position-over}
use Rattle.tydi_tool.proofs.designs.place_of.Goals as goal

pub returns : goal.returns
returns c =
    position_from_yields_List (λ one. is_same_path one.path c.args.path.now) _ _ c.position.result c.position.ensures.ran (YieldsList-from_slice _ c.iter.ensures.rest) (λ x b q k. search (rules, tests))
    ∙ sym (position-over plain_streamlet (λ one. is_same_path one.path c.args.path.now) c.args.streamlets.now)
