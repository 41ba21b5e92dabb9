use Rattle.std.proofs.Common.{Err, subst}
use Rattle.trace_compare.specs.Texts.{IsComparedText}
use Rattle.trace_compare.specs.declared.fault.CompareFault.{CompareFault}
use Rattle.tydi_tool.proofs.CompareLemmas.{found-header, found-misspelled}
use Rattle.tydi_tool.proofs.compare_file.found_none.Goals as goal

pub returns-in-Misspelled : goal.returns-in-Misspelled
returns-in-Misspelled c = λ split wants bytes has.
    found-misspelled split wants c.args.word.now bytes c.in-Misspelled.fault c.faulted.result
    (subst (λ (f : CompareFault). IsComparedText split wants bytes (Err f)) c.in-Misspelled.is has) c.faulted.ensures

pub returns-in-OtherHeader : goal.returns-in-OtherHeader
returns-in-OtherHeader c = λ split wants bytes has.
    found-header split wants c.args.word.now bytes c.in-OtherHeader.place (subst (λ (f : CompareFault). IsComparedText split wants bytes (Err f)) c.in-OtherHeader.is has)
