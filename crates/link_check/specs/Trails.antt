-- A difference as the walk finds it: the names that lead to it come innermost first. No public clause names it. This project's own.
use Rattle.std.specs.Prelude.{Bool, Option, reverse}
use Rattle.logical_types.specs.Tree.{PlainStream}
use Rattle.type_split.specs.Nodes.{turned}
use Rattle.link_check.specs.Differences.{first_difference}
use Rattle.link_check.specs.declared.difference.Difference.{Difference}
use Rattle.link_check.specs.declared.differences.Trail.{Trail}

-- the difference that a trail leads to
abbrev pub trail_end : Trail → Difference
trail_end trail = record { path = reverse trail.names; why = trail.why }

-- the first difference in what two Streams hold
abbrev pub inside_streams : (reversed : Bool) (source sink : PlainStream) → Option Difference
inside_streams reversed source sink = first_difference (turned reversed source.settings.reverse) source.element sink.element
