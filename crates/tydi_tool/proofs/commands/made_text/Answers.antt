use Rattle.split_text.specs.Text.{split_text}
use Rattle.type_split.specs.Streams.{plain_split}
use Rattle.tydi_tool.specs.Outcome.{output_answer}
use Rattle.tydi_tool.proofs.AskLemmas.{Judges-either}
use Rattle.tydi_tool.proofs.commands.made_text.Goals as goal

pub returns-in-Ok : goal.returns-in-Ok
returns-in-Ok c = Judges-either (output_answer (split_text (plain_split c.args.split.now))) c.answered_front.result (c.answered_front.ensures (split_text (plain_split c.args.split.now)) c.in-Ok.ensures)
