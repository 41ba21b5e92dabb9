use Rattle.vcd_read.proofs.TellLemmas.{all-shown, row-wrong, too-many}
use Rattle.vcd_read.proofs.samples.Samples.tell.Goals as goal

pub returns-then-self-gt-MOST_CYCLES : goal.returns-then-self-gt-MOST_CYCLES
returns-then-self-gt-MOST_CYCLES c codes rising are = too-many codes c.args.heads rising c.args.self are c.if-self-gt-MOST_CYCLES.true

pub returns-in-Some : goal.returns-in-Some
returns-in-Some c codes rising are = row-wrong codes c.args.heads rising c.args.self are c.if-self-gt-MOST_CYCLES.false c.in-Some.place c.in-Some.is

pub returns-in_ok-dump_text-in-None : goal.returns-in_ok-dump_text-in-None
returns-in_ok-dump_text-in-None c codes rising are = all-shown codes c.args.heads rising c.args.self are c.if-self-gt-MOST_CYCLES.false c.in-None.is
    c.in_ok-dump_text-in-None.field-0 c.in_ok-dump_text-in-None.ensures
