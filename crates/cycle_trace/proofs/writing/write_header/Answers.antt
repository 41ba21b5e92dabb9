use Rattle.std.proofs.Common.{◌≡◌, ◌∙◌, ap}
use Rattle.cycle_trace.specs.Version.{title_text, version_of}
use Rattle.cycle_trace.proofs.writing.write_header.Goals as goal

pub returns-clause-ok : goal.returns-clause-ok
returns-clause-ok c =
    let title : c.title-title.result.now ≡ title_text (version_of c.args.header.now.heads) = c.title-title.ensures ∙ ap title_text (c.of.ensures ∙ ap version_of c.as_slice.ensures) in
    rw (← title, ← c.as_slice-2.ensures) c.emit.ensures.ok
