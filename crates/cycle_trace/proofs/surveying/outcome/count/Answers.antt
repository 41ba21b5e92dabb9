use Rattle.std.proofs.Common.{Some, None, option_map, refl, sym, ap, ◌∙◌}
use Rattle.cycle_trace.specs.Survey.{counts_of}
use Rattle.cycle_trace.specs.Surveying.{unfinished_of}
use Rattle.cycle_trace.specs.Trace.{streams_of}
use Rattle.cycle_trace.proofs.EndLemmas.{surveys_legal}
use Rattle.cycle_trace.proofs.surveying.outcome.count.Goals as goal

pub returns-in-Some : goal.returns-in-Some
returns-in-Some c t at legal = surveys_legal t (Some _) (counts_of (streams_of t)) legal (sym (ap (option_map unfinished_of) c.in-Some.is) ∙ c.unfinished.ensures (streams_of t) at) refl

pub returns-in_ok-counts_of-in-None : goal.returns-in_ok-counts_of-in-None
returns-in_ok-counts_of-in-None c t at legal = surveys_legal t None c.in_ok-counts_of-in-None.field-0 legal (sym (ap (option_map unfinished_of) c.in-None.is) ∙ c.unfinished.ensures (streams_of t) at) (c.in_ok-counts_of-in-None.ensures (streams_of t) at)
