use Rattle.steady_run.proofs.FrontLemmas.{steady_is_front, steady_is_shown}
use Rattle.steady_run.proofs.GapLemmas.{steady_is_run}
use Rattle.steady_run.proofs.GrowLemmas.{steady_grows}
use Rattle.steady_run.proofs.LegalLemmas.{steady_plans_are_legal}
use Rattle.steady_run.proofs.PauseLemmas.{high_streams_pause}
use Rattle.steady_run.proofs.laws.steady_cycles_keep_their_laws.Goals as goal

pub returns-clause-pauses : goal.returns-clause-pauses
returns-clause-pauses c = high_streams_pause

pub returns-clause-grows : goal.returns-clause-grows
returns-clause-grows c = steady_grows

pub returns-clause-front : goal.returns-clause-front
returns-clause-front c = steady_is_front

pub returns-clause-run : goal.returns-clause-run
returns-clause-run c = steady_is_run

pub returns-clause-shown : goal.returns-clause-shown
returns-clause-shown c = steady_is_shown

pub returns-clause-legal : goal.returns-clause-legal
returns-clause-legal c = steady_plans_are_legal
