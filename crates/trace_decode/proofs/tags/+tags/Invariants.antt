use Rattle.std.proofs.Common.{◌≡◌, drop}
use Rattle.logical_types.specs.Tree.{plain_parts}
use Rattle.trace_decode.specs.Tagged.{have_tags}
use Rattle.trace_decode.proofs.tags.+tags.Given as goal

abbrev pub invariant-have_tags-parts : goal.invariant-have_tags-parts
invariant-have_tags-parts l = have_tags (plain_parts (drop l.part-index l.parts)) ≡ have_tags (plain_parts l.parts)
