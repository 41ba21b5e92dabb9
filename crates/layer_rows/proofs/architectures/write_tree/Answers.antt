use Rattle.std.proofs.Common.{sym, subst}
use Rattle.til_resolve.specs.PlainProject.{HasPortTypes}
use Rattle.layer_rows.proofs.architectures.write_tree.Goals as goal

pub write_project-requires : goal.write_project-requires
write_project-requires c =
    subst HasPortTypes (sym (c.projects_are_plain.ensures.tree c.args.ast.now c.in-Ok.project c.in-Ok.ensures.project)) (c.port_types_are_valid.ensures.each c.args.ast.now c.in-Ok.ensures.sound)
