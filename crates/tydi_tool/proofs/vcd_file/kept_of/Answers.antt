use Rattle.std.proofs.Common.{Option, Result, subst}
use Rattle.tydi_base.specs.Reading.{Gives}
use Rattle.type_split.specs.Streams.{plain_split}
use Rattle.vcd_read.specs.Kept.{kept_bytes, kept_text}
use Rattle.vcd_read.specs.Shown.{fault_in, shown}
use Rattle.vcd_read.specs.declared.dump_text.DumpText.{DumpText}
use Rattle.vcd_read.specs.declared.fault.VcdFault.{VcdFault}
use Rattle.tydi_tool.proofs.DumpLemmas.{fault-read, kept-read}
use Rattle.tydi_tool.proofs.vcd_file.kept_of.Goals as goal

pub returns-in-Ok : goal.returns-in-Ok
returns-in-Ok c = λ wanted bytes gives. kept-read wanted (plain_split c.args.split.now) c.args.word.now bytes c.in-Ok.kept
    (subst (λ (r : Result (Option DumpText) VcdFault). Gives fault_in kept_bytes r (kept_text (shown wanted bytes))) c.in-Ok.is gives)

pub returns-in-Err : goal.returns-in-Err
returns-in-Err c = λ wanted bytes gives. fault-read wanted (plain_split c.args.split.now) c.args.word.now bytes c.in-Err.fault c.faulted.result
    (subst (λ (r : Result (Option DumpText) VcdFault). Gives fault_in kept_bytes r (kept_text (shown wanted bytes))) c.in-Err.is gives) c.faulted.ensures
