-- The first difference, by the difference at a node and by what the walk finds behind it.
use Rattle.std.proofs.Common.{◌≡◌, Bool, false, Option, Some, None, option_map, Result, Ok, Err, IfOk, refl, sym, ap, ◌∙◌}
use Rattle.std.specs.Option.{option_or}
use Rattle.tydi_base.specs.declared.memory.Memory.{Memory}
use Rattle.logical_types.specs.Tree.{Ltype, Parts, PlainStream, stream_type}
use Rattle.link_check.specs.declared.difference.Difference.{Difference}
use Rattle.link_check.specs.declared.difference.Why.{Why}
use Rattle.link_check.specs.declared.differences.Trail.{Trail}
use Rattle.link_check.specs.Kinds.{is_same_kind}
use Rattle.link_check.specs.Differences.{why_of_streams, why_at, here, difference_inside, difference_in_parts, first_difference}
use Rattle.link_check.specs.Trails.{trail_end, inside_streams}

-- behind a node without a difference
pub passed : (reversed : Bool) (source sink : Ltype) (found : Option Difference) → why_at reversed source sink ≡ None → found ≡ difference_inside reversed source sink
    → found ≡ first_difference reversed source sink
passed reversed source sink found none is = is ∙ ap (λ (at : Option Why). option_or (option_map here at) (difference_inside reversed source sink)) (sym none)

-- a walk that went on to parts
pub in_parts : (reversed : Bool) (source sink : Ltype) (parts others : Parts) (result : Result (Option Trail) Memory) → why_at reversed source sink ≡ None
    → difference_inside reversed source sink ≡ difference_in_parts reversed parts others
    → IfOk result (λ found. option_map trail_end found ≡ difference_in_parts reversed parts others)
    → IfOk result (λ found. option_map trail_end found ≡ first_difference reversed source sink)
in_parts reversed source sink parts others (Ok found) none same h = passed reversed source sink (option_map trail_end found) none (h ∙ sym same)
in_parts reversed source sink parts others (Err e) none same h = h

-- ---- two Streams

pub of_streams : (reversed : Bool) (source sink : PlainStream) → why_at reversed (stream_type source) (stream_type sink) ≡ why_of_streams reversed source sink
unfolding is_same_kind
of_streams reversed source sink = refl

pub at-streams : (source sink : PlainStream) (why : Why) → why_of_streams false source sink ≡ Some why → Some (here why) ≡ first_difference false (stream_type source) (stream_type sink)
at-streams source sink why is = ap (λ (at : Option Why). option_or (option_map here at) (difference_inside false (stream_type source) (stream_type sink)))
    (sym (of_streams false source sink ∙ is))

pub behind-streams : (source sink : PlainStream) (found : Option Difference) → why_of_streams false source sink ≡ None → found ≡ inside_streams false source sink
    → found ≡ first_difference false (stream_type source) (stream_type sink)
behind-streams source sink found none is = passed false (stream_type source) (stream_type sink) found (of_streams false source sink ∙ none) is
