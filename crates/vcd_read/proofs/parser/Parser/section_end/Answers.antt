use Rattle.std.proofs.Common.{◌∙◌, refl, sym, ap, subst, if◌then◌else◌}
use Rattle.vcd_read.specs.Profile.{Beginning, SectionEnd, next, reach}
use Rattle.vcd_read.specs.Parser.{IsAwaited}
use Rattle.vcd_read.specs.declared.parser.Stage.{Stage}
use Rattle.vcd_read.proofs.parser.Parser.section_end.Goals as goal

pub returns-then-is_end-clause-takes : goal.returns-then-is_end-clause-takes
unfolding next
returns-then-is_end-clause-takes c wanted parts is = (
  record { awaited = Beginning; parts = parts },
  (
    ap (λ test. if test then reach Beginning parts else
        reach SectionEnd parts) (sym c.is_end.ensures ∙ c.if-is_end.true),
    record { dump_is = is; awaited_is = refl },
  ),
)

pub returns-else-is_end-clause-takes : goal.returns-else-is_end-clause-takes
unfolding next
returns-else-is_end-clause-takes c wanted parts is = (
  record { awaited = SectionEnd; parts = parts },
  (
    ap (λ test. if test then reach Beginning parts else reach SectionEnd parts) (sym c.is_end.ensures ∙ c.if-is_end.false),
    record {
      dump_is = is;
      awaited_is = subst (λ (s : Stage). IsAwaited s c.args.self.now.width c.args.self.now.code c.args.self.now.name
          c.args.self.now.offset c.args.self.now.vector parts SectionEnd) (sym c.requires) refl;
    },
  ),
)
