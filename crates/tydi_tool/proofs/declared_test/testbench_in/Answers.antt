use Rattle.std.proofs.Common.{ap, sym, ◌∙◌}
use Rattle.std.specs.Option.{option_copied}
use Rattle.til_resolve.specs.PlainProject.{plain_project}
use Rattle.tydi_tool.proofs.TestLemmas.{test-inside}
use Rattle.tydi_tool.proofs.declared_test.testbench_in.Goals as goal

pub bench_of_test-requires-clause-drives : goal.bench_of_test-requires-clause-drives
bench_of_test-requires-clause-drives c =
    c.requires.sound.tests c.in-Ok-Some.test.now
    (test-inside (plain_project c.args.project.now) c.args.word.now c.in-Ok-Some.test.now (sym (ap option_copied (sym c.in-Ok-Some.field-0-is) ∙ c.in-Ok-Some.ensures)))

pub bench_of_test-requires-clause-short : goal.bench_of_test-requires-clause-short
bench_of_test-requires-clause-short c =
    c.requires.short c.in-Ok-Some.test.now
    (test-inside (plain_project c.args.project.now) c.args.word.now c.in-Ok-Some.test.now (sym (ap option_copied (sym c.in-Ok-Some.field-0-is) ∙ c.in-Ok-Some.ensures)))
