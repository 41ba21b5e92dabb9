use Rattle.std.proofs.Common.{map, take}
use Rattle.til_resolve.specs.BadTypes.{IsFirstBad, AreFindings}
use Rattle.til_resolve.specs.Scope.{declarations_of}
use Rattle.til_resolve.specs.Written.{written_type}
use Rattle.til_resolve.proofs.bad_types.first_checked.Given as goal

-- the first of the types so far is found, and what is kept is right
abbrev pub invariant-written : goal.invariant-written
invariant-written l =
    let all = declarations_of l.scope.declared in
    IsFirstBad (map (written_type all) (take l.one-index l.written)) l.found × AreFindings all l.findings
