use Rattle.std.proofs.Common.{subst}
use Rattle.cycle_trace.specs.HeaderText.{header_start_after, header_start_of}
use Rattle.cycle_trace.specs.ReaderView.{OpensAt}
use Rattle.cycle_trace.specs.declared.fault.TraceFault.TheVariants.{BadHeader}
use Rattle.cycle_trace.specs.declared.reader.text.HeaderPart.{HeaderPart}
use Rattle.cycle_trace.proofs.BeginningLemmas.{ends_cut}
use Rattle.cycle_trace.proofs.HeaderLemmas.{header_start_after-one, header_start_of-one}
use Rattle.cycle_trace.proofs.reader.lines.finish_header.Goals as goal

pub returns-in-Title-clause-finishes : goal.returns-in-Title-clause-finishes
returns-in-Title-clause-finishes g c bytes opens =
    let h = subst (λ (part : HeaderPart). OpensAt c.args.text part c.args.line.now bytes) c.in-Title.is opens in
    ends_cut bytes c.args.line.now c.requires.plain header_start_of h.1 (BadHeader 1) (header_start_of-one c.args.line.now)

pub returns-in-Cycles-clause-finishes : goal.returns-in-Cycles-clause-finishes
returns-in-Cycles-clause-finishes g c bytes opens =
    let h = subst (λ (part : HeaderPart). OpensAt c.args.text part c.args.line.now bytes) c.in-Cycles.is opens in
    ends_cut bytes c.args.line.now c.requires.plain (header_start_after c.args.text.version) h.1 (BadHeader 2) (header_start_after-one c.args.text.version c.args.line.now)

pub finish_heads-requires-clause-opens : goal.finish_heads-requires-clause-opens
finish_heads-requires-clause-opens g c =
    (c.requires.opens.0, subst (λ (part : HeaderPart). OpensAt c.args.text part c.args.line.now c.requires.opens.0) c.in-Heads.is c.requires.opens.1)

pub returns-in-Heads-clause-finishes : goal.returns-in-Heads-clause-finishes
returns-in-Heads-clause-finishes g c bytes opens =
    c.finish_heads.ensures.finishes bytes (subst (λ (part : HeaderPart). OpensAt c.args.text part c.args.line.now bytes) c.in-Heads.is opens)

pub returns-in-Heads-clause-memory : goal.returns-in-Heads-clause-memory
returns-in-Heads-clause-memory g c bytes opens is =
    c.finish_heads.ensures.memory bytes (subst (λ (part : HeaderPart). OpensAt c.args.text part c.args.line.now bytes) c.in-Heads.is opens) is
