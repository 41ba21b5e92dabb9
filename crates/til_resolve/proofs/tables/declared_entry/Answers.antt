use Rattle.std.proofs.Common.{sym, ap, ◌∙◌}
use Rattle.std.proofs.lemmas.Result.{IfOk-weaker}
use Rattle.til_parser.specs.Tree.{plain}
use Rattle.til_resolve.specs.Declarations.{declaration}
use Rattle.til_resolve.specs.Scope.{declarations_of}
use Rattle.til_resolve.specs.Tables.{IsMadeFor, IsMadeOf}
use Rattle.til_resolve.proofs.EntryLemmas.{IsMadeFor-alias, IsMadeFor-none}
use Rattle.til_resolve.proofs.tables.declared_entry.Goals as goal

pub returns-in-Alias : goal.returns-in-Alias
returns-in-Alias g c =
    let all = declarations_of c.args.scope.now.declared in
    let least = g.E.Entries.least in
    let is_entry = g.E.Entries.is_entry in
    IfOk-weaker c.entry.result (IsMadeOf least is_entry all (declaration all c.args.number).space (plain c.in-Alias.ltype) c.args.table.now) (IsMadeFor least is_entry all c.args.number c.args.table.now)
    (λ made. IsMadeFor-alias least is_entry all c.args.number c.in-Alias.ltype c.args.table.now made (ap (λ d. d.kind) (sym c.get.ensures.value) ∙ c.in-Alias.is)) c.entry.ensures

pub returns-in_default : goal.returns-in_default
returns-in_default g c =
    rw (c.least.ensures) (IsMadeFor-none g.E.Entries.least g.E.Entries.is_entry (declarations_of c.args.scope.now.declared) c.args.number c.args.table.now
    (λ ltype is. c.in_default.not-Alias ltype (ap (λ d. d.kind) c.get.ensures.value ∙ is)) g.met.E.Entries.is_least)
