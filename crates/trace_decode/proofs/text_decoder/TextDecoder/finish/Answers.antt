use Rattle.std.proofs.Common.{Ok, Err, subst}
use Rattle.type_split.specs.Streams.{PlainSplit}
use Rattle.trace_decode.specs.Outcome.{IsDecoded}
use Rattle.trace_decode.proofs.TextLemmas.{misspelled, valueless}
use Rattle.trace_decode.proofs.text_decoder.TextDecoder.finish.Goals as goal

pub finish-requires-in-Ok : goal.finish-requires-in-Ok
finish-requires-in-Ok c =
    let read = c.in-Ok.ensures.finishes c.requires.0 c.requires.1 in
    (read.0, read.1.1)

pub returns-in-Ok-finish : goal.returns-in-Ok-finish
returns-in-Ok-finish c bytes fed =
    let read = c.in-Ok.ensures.finishes bytes fed in
    (read.0, (read.1.0, subst (λ (split : PlainSplit). IsDecoded split read.0 (Ok c.in-Ok-finish.decoded)) c.in-Ok.ensures.setting (c.in-Ok-finish.ensures read.0 read.1.1)))

pub returns-in-Err-finish : goal.returns-in-Err-finish
returns-in-Err-finish c bytes fed =
    let read = c.in-Ok.ensures.finishes bytes fed in
    valueless _ bytes read.0 c.in-Err-finish.fault read.1.0
    (subst (λ (split : PlainSplit). IsDecoded split read.0 (Err c.in-Err-finish.fault)) c.in-Ok.ensures.setting (c.in-Err-finish.ensures read.0 read.1.1))

pub returns-in-Err : goal.returns-in-Err
returns-in-Err c bytes fed = misspelled _ bytes c.in-Err.fault (c.in-Err.ensures.finishes bytes fed)
