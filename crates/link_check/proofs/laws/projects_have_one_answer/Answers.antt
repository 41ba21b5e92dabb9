use Rattle.link_check.proofs.CheckedLemmas.{answers_are_of_the_project}
use Rattle.link_check.proofs.SizeLemmas.{sizes_are_counted_whole}
use Rattle.link_check.proofs.TextOrderLemmas.{text_order}
use Rattle.link_check.proofs.laws.projects_have_one_answer.Goals as goal

pub returns-clause-order : goal.returns-clause-order
returns-clause-order c = text_order

pub returns-clause-size : goal.returns-clause-size
returns-clause-size c = sizes_are_counted_whole

pub returns-clause-answer : goal.returns-clause-answer
returns-clause-answer c = answers_are_of_the_project
