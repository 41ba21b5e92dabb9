use Rattle.tydi_tool.proofs.WatchLawLemmas.{driven-seen, other-items-told, other-values-told, shown-values-seen, written-monitors, written-quiet}
use Rattle.tydi_tool.proofs.laws.monitors_are_watched.Goals as goal

pub returns-clause-written : goal.returns-clause-written
returns-clause-written c = written-monitors c.monitors_are_read_as_printed.ensures.spelled c.monitors_report_the_first_difference.ensures

pub returns-clause-quiet : goal.returns-clause-quiet
returns-clause-quiet c = written-quiet

pub returns-clause-shown : goal.returns-clause-shown
returns-clause-shown c = shown-values-seen c.monitors_report_the_first_difference.ensures c.monitors_are_read_as_printed.ensures.read

pub returns-clause-items : goal.returns-clause-items
returns-clause-items c = other-items-told c.monitors_report_the_first_difference.ensures c.monitors_are_read_as_printed.ensures.read

pub returns-clause-driven : goal.returns-clause-driven
returns-clause-driven c =
    driven-seen c.monitors_report_the_first_difference.ensures c.monitors_are_read_as_printed.ensures.spelled c.monitors_are_read_as_printed.ensures.read

pub returns-clause-values : goal.returns-clause-values
returns-clause-values c = other-values-told c.monitors_report_the_first_difference.ensures c.monitors_are_read_as_printed.ensures.read
