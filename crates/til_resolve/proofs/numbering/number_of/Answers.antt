use Rattle.std.proofs.Common.{◌≡◌, ◌<◌, ℕ, List, get_or, length, ap, ◌∙◌, arith}
use Rattle.til_resolve.specs.Project.{numbered}
use Rattle.til_resolve.specs.Scope.{declarations_of}
use Rattle.til_resolve.proofs.MakingLemmas.{number-at, length-numbers}
use Rattle.til_resolve.proofs.numbering.number_of.Goals as goal

pub bounds-table-streamlet : goal.bounds-table-streamlet
bounds-table-streamlet c =
    let all = declarations_of c.args.scope.now.declared in
    let long : length c.args.table.now ≡ length all = ap length c.requires.table ∙ length-numbers all (length all) in
    omega (arith, c.in-Some.ensures.within)

pub offset_bounds-table-streamlet : goal.offset_bounds-table-streamlet
offset_bounds-table-streamlet c =
    let all = declarations_of c.args.scope.now.declared in
    let long : length c.args.table.now ≡ length all = ap length c.requires.table ∙ length-numbers all (length all) in
    let within : c.in-Some.streamlet < length c.args.table.now = omega (arith, c.in-Some.ensures.within) in
    omega arith

pub returns-in-Some : goal.returns-in-Some
returns-in-Some c =
    let all = declarations_of c.args.scope.now.declared in
    ap (λ (l : List ℕ). get_or l c.in-Some.streamlet 0) c.requires.table ∙ number-at all (length all) c.in-Some.streamlet 0 c.in-Some.ensures.within
    ∙ ap (numbered all) c.in-Some.ensures.value

pub returns-in-None : goal.returns-in-None
returns-in-None c = ap (numbered (declarations_of c.args.scope.now.declared)) c.in-None.ensures.value
