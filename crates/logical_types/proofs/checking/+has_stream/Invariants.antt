use Rattle.std.proofs.Common.{◌≡◌, drop}
use Rattle.logical_types.specs.Tree.{have_stream, plain_parts}
use Rattle.logical_types.proofs.checking.+has_stream.Given as goal

-- whether the parts have a Stream is whether those that are left have one
abbrev pub invariant-have_stream-parts : goal.invariant-have_stream-parts
invariant-have_stream-parts l = have_stream (plain_parts (drop l.part-index l.parts)) ≡ have_stream (plain_parts l.parts)
