use Rattle.logical_types.specs.Tree.{plain}
use Rattle.value_views.proofs.WayLemmas.{way-port}
use Rattle.value_views.proofs.way.Finding.find_in_port.Goals as goal

pub returns-then-branch : goal.returns-then-branch
returns-then-branch c = λ none start there room.
    way-port _ (plain c.args.element.now) c.args.self.now c.find_inside.new.self c.begin.new.self none start room c.in_ok-find_inside.ensures c.if-branch.true c.begin.ensures.root
    c.begin.ensures.way
