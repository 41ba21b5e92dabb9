use Rattle.std.proofs.Common.{◌≡◌}
use Rattle.split_text.specs.Text.{split_text}
use Rattle.til_resolve.specs.PlainProject.{plain_project}
use Rattle.type_split.specs.Streams.{plain_split}
use Rattle.tydi_tool.specs.Outcome.{output_answer}
use Rattle.tydi_tool.specs.Ports.{split_at}
use Rattle.tydi_tool.proofs.AskLemmas.{Judges-refused, Judges-told}
use Rattle.tydi_tool.proofs.commands.split_in.Goals as goal

pub returns-in-Ok : goal.returns-in-Ok
returns-in-Ok c = Judges-told (split_at (plain_project c.args.project.now) c.args.port.now) (λ split a. a ≡ output_answer (split_text split)) (plain_split c.in-Ok.split) c.streams_text.result
    c.in-Ok.ensures.split c.streams_text.ensures

pub returns-in-Err : goal.returns-in-Err
returns-in-Err c = Judges-refused (split_at (plain_project c.args.project.now) c.args.port.now) (λ split a. a ≡ output_answer (split_text split)) c.in-Err.reply c.in-Err.ensures.split
