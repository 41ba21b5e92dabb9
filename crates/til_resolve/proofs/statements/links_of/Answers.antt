use Rattle.std.proofs.Common.{List, ◌++◌, [], ◌∷◌, sym, ap, ◌∙◌}
use Rattle.til_resolve.specs.declared.project.Link.{Link}
use Rattle.til_resolve.specs.Project.{links_of}
use Rattle.til_resolve.proofs.MakingLemmas.{links-more}
use Rattle.til_resolve.proofs.statements.links_of.Goals as goal

pub stmts-preserved : goal.stmts-preserved
stmts-preserved c =
    c.in_ok-add_link.ensures ∙ ap (λ (l : List Link). l ++ links_of (c.stmt-item.result ∷ [])) c.stmts.invariant
    ∙ sym (links-more c.args.stmts.now c.stmts.stmt-index c.stmt-item.result c.stmts-test.true c.stmt-item.is)
