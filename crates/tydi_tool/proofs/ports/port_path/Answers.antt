use Rattle.std.proofs.Common.{◌≡◌, IfOk, subst, sym}
use Rattle.tydi_tool.proofs.PortLemmas.{port-no_word, port-word}
use Rattle.tydi_tool.proofs.ports.port_path.Goals as goal

pub returns-in-Some : goal.returns-in-Some
returns-in-Some c =
    subst (λ o. IfOk c.named_path.result (λ path. path ≡ o)) (sym (port-word c.args.word.now c.in-Some.streamlet.now c.in-Some.name.now c.in-Some.ensures.some)) c.named_path.ensures

pub returns-in-None : goal.returns-in-None
returns-in-None c = port-no_word c.args.word.now c.in-None.ensures.none
