use Rattle.type_split.specs.Streams.{plain_split}
use Rattle.port_drive.proofs.HeadLemmas.{heads-in-form, heads-together}
use Rattle.port_drive.proofs.heads.heads_stand_together.Goals as goal

pub returns-clause-form : goal.returns-clause-form
returns-clause-form c = heads-in-form c.as_slice.result.now c.args.split.now.streams c.as_slice.ensures c.streams_are_in_form.ensures

pub returns-clause-apart : goal.returns-clause-apart
returns-clause-apart c =
    heads-together (plain_split c.args.split.now) c.requires
    (heads-in-form c.as_slice.result.now c.args.split.now.streams c.as_slice.ensures c.streams_are_in_form.ensures)
