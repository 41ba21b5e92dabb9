use Rattle.std.proofs.Common.{◌∙◌, refl, sym, ap}
use Rattle.vcd_read.specs.History.{open_scopes}
use Rattle.vcd_read.specs.Profile.{UpscopeEnd, declaration, has_scope}
use Rattle.vcd_read.proofs.ParserLemmas.{granted, refused}
use Rattle.vcd_read.proofs.parser.Parser.begin_upscope.Goals as goal

pub returns-then-not-has_open-clause-takes : goal.returns-then-not-has_open-clause-takes
unfolding declaration
returns-then-not-has_open-clause-takes c wanted parts is = refused (has_scope (open_scopes parts)) c.args.offset _ (ap has_scope (sym is.open_are)
    ∙ sym c.has_open.ensures ∙ c.if-not-has_open.true)

pub returns-clause-takes : goal.returns-clause-takes
unfolding declaration
returns-clause-takes c wanted parts is = (
  record { awaited = UpscopeEnd; parts = parts },
  (
    granted (has_scope (open_scopes parts)) c.args.offset _ (ap
        has_scope (sym is.open_are) ∙ sym c.has_open.ensures ∙ c.if-not-has_open.false),
    record { dump_is = is; awaited_is = refl },
  ),
)
