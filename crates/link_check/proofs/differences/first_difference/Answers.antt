use Rattle.std.proofs.Common.{Some, None, option_map, sym, ap, ◌∙◌}
use Rattle.link_check.specs.Streams.{plain_arguments}
use Rattle.link_check.specs.Trails.{trail_end}
use Rattle.link_check.specs.declared.difference.Difference.{Difference}
use Rattle.link_check.proofs.DifferenceLemmas.{at-streams, behind-streams}
use Rattle.link_check.proofs.differences.first_difference.Goals as goal

pub returns-in-Some : goal.returns-in-Some
returns-in-Some c =
    ap (λ path. Some (record { path = path; why = c.in-Some.why })) c.new.ensures
    ∙ at-streams (plain_arguments c.args.source.now) (plain_arguments c.args.sink.now) c.in-Some.why (sym c.why_of_streams.ensures ∙ c.in-Some.is)

pub returns-in-None : goal.returns-in-None
returns-in-None c =
    behind-streams (plain_arguments c.args.source.now) (plain_arguments c.args.sink.now) None (sym c.why_of_streams.ensures ∙ c.in_default.is)
    (ap (option_map trail_end) (sym c.in-None.is) ∙ c.in_ok-in_streams.ensures)

pub returns-in-Some-2 : goal.returns-in-Some-2
returns-in-Some-2 c =
    ap (λ (one : Difference). Some one) c.into_difference.ensures
    ∙ behind-streams (plain_arguments c.args.source.now) (plain_arguments c.args.sink.now) (Some (trail_end c.in-Some-2.trail)) (sym c.why_of_streams.ensures ∙ c.in_default.is)
    (ap (option_map trail_end) (sym c.in-Some-2.is) ∙ c.in_ok-in_streams.ensures)
