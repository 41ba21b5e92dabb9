use Rattle.std.proofs.Common.{◌∙◌, not, refl, sym, ap}
use Rattle.vcd_read.specs.History.{open_scopes}
use Rattle.vcd_read.specs.Profile.{DefinitionsEnd, declaration, has_scope}
use Rattle.vcd_read.proofs.ParserLemmas.{granted, refused}
use Rattle.vcd_read.proofs.parser.Parser.begin_end.Goals as goal

pub returns-then-has_open-clause-takes : goal.returns-then-has_open-clause-takes
unfolding declaration
returns-then-has_open-clause-takes c wanted parts is = refused (not (has_scope (open_scopes parts))) c.args.offset _ (ap not (ap has_scope (sym is.open_are)
    ∙ sym c.has_open.ensures ∙ c.if-has_open.true))

pub returns-clause-takes : goal.returns-clause-takes
unfolding declaration
returns-clause-takes c wanted parts is = (
  record { awaited = DefinitionsEnd; parts = parts },
  (
    granted (not (has_scope (open_scopes parts))) c.args.offset _
        (ap not (ap has_scope (sym is.open_are) ∙ sym c.has_open.ensures ∙ c.if-has_open.false)),
    record { dump_is = is; awaited_is = refl },
  ),
)
