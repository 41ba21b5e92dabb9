use Rattle.std.proofs.Common.{◌-◌, sym, ◌∙◌, length, take}
use Rattle.til_resolve.specs.Declarations.{declaration}
use Rattle.til_resolve.specs.Scope.{declarations_of, placed, space_meant}
use Rattle.til_resolve.proofs.ScopeLemmas.{first_at-found, first_of_path-none, named-ends, named-empty}
use Rattle.til_resolve.proofs.scope.Scope.named.Goals as goal

pub returns-in_default-clause-value : goal.returns-in_default-clause-value
returns-in_default-clause-value c =
    let all = declarations_of c.args.self.now.declared in
    named-empty all (declaration all c.args.number).space c.args.path.now c.as_slice.result.now c.as_slice.ensures c.in_default.len_below

pub returns-in_err-home-clause-value : goal.returns-in_err-home-clause-value
returns-in_err-home-clause-value c =
    let all = declarations_of c.args.self.now.declared in
    let own = (declaration all c.args.number).space in
    let names = c.as_slice.result.now in
    c.from_residual.ensures
    ∙ sym (first_of_path-none c.args.self.now.spaces.keys (placed c.args.self.now.declared) (space_meant own (take (length names - 1) names)) c.name-item.result.name
    c.args.self.now.found.homes (sym c.in_err-home.ensures))
    ∙ named-ends all own c.args.path.now names c.name-item.result c.as_slice.ensures c.in-len1-up.len_at_least c.name-item.is

pub returns-clause-value : goal.returns-clause-value
returns-clause-value c =
    let all = declarations_of c.args.self.now.declared in
    let own = (declaration all c.args.number).space in
    let names = c.as_slice.result.now in
    c.first_at.ensures.value
    ∙ first_at-found c.args.self.now.spaces.keys (placed c.args.self.now.declared) (space_meant own (take (length names - 1) names)) c.in_ok-home.home c.name-item.result.name
    c.args.self.now.found.homes (sym c.in_ok-home.ensures)
    ∙ named-ends all own c.args.path.now names c.name-item.result c.as_slice.ensures c.in-len1-up.len_at_least c.name-item.is
