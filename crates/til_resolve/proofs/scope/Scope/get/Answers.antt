use Rattle.std.proofs.Common.{◌<◌, length, arith}
use Rattle.til_resolve.proofs.ScopeLemmas.{length-declarations_of, declaration-at, home-at}
use Rattle.til_resolve.proofs.scope.Scope.get.Goals as goal

pub returns-clause-value : goal.returns-clause-value
returns-clause-value c =
    let all = c.args.self.now.declared in
    let within : c.args.number < length all = omega (arith, c.requires, length-declarations_of all) in
    declaration-at all c.args.number c.index-as_slice-number.result within (rw (← c.as_slice.ensures) c.index-as_slice-number.is)

pub returns-clause-home : goal.returns-clause-home
returns-clause-home c =
    let all = c.args.self.now.declared in
    let within : c.args.number < length all = omega (arith, c.requires, length-declarations_of all) in
    home-at c.args.self.now.spaces.keys all c.args.number c.index-as_slice-number.result c.args.self.now.found.homes within (rw (← c.as_slice.ensures) c.index-as_slice-number.is)
