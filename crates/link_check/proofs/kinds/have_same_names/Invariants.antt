use Rattle.std.proofs.Common.{◌≡◌, drop}
use Rattle.logical_types.specs.Tree.{plain_parts, names_of}
use Rattle.til_resolve.specs.Paths.{is_same_path}
use Rattle.link_check.proofs.kinds.have_same_names.Given as goal

-- the names are the same where those that are left are
abbrev pub invariant-parts : goal.invariant-parts
invariant-parts l = is_same_path (names_of (plain_parts (drop l.part-index l.parts))) (names_of (plain_parts l.rest)) ≡ is_same_path (names_of (plain_parts l.parts)) (names_of (plain_parts l.others))
