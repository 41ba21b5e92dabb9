use Rattle.watch_text.proofs.WatchReading.{monitors_printed}
use Rattle.watch_text.proofs.WatchSpelling.{monitors_read}
use Rattle.watch_text.proofs.reading_laws.monitors_are_read_as_printed.Goals as goal

pub returns-clause-spelled : goal.returns-clause-spelled
returns-clause-spelled c = monitors_read

pub returns-clause-read : goal.returns-clause-read
returns-clause-read c = monitors_printed
