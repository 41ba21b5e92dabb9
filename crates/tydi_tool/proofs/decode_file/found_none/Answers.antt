use Rattle.std.proofs.Common.{Err, subst}
use Rattle.trace_decode.specs.Texts.{IsReadBack}
use Rattle.trace_decode.specs.declared.text_fault.TextFault.{TextFault}
use Rattle.tydi_tool.proofs.DecodeLemmas.{found-fault, found-misspelled}
use Rattle.tydi_tool.proofs.decode_file.found_none.Goals as goal

pub returns-in-Misspelled : goal.returns-in-Misspelled
returns-in-Misspelled c = λ split bytes has.
    found-misspelled split c.args.word.now bytes c.in-Misspelled.fault c.faulted.result (subst (λ (f : TextFault). IsReadBack split bytes (Err f)) c.in-Misspelled.is has) c.faulted.ensures

pub returns-in-NoValue : goal.returns-in-NoValue
returns-in-NoValue c = λ split bytes has.
    found-fault split c.args.word.now bytes c.in-NoValue.fault c.decoding_of.result (subst (λ (f : TextFault). IsReadBack split bytes (Err f)) c.in-NoValue.is has) c.decoding_of.ensures
