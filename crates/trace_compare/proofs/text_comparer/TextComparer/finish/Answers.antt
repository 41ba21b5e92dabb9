use Rattle.std.proofs.Common.{subst}
use Rattle.trace_compare.specs.Standing.{Asked}
use Rattle.trace_compare.specs.Texts.{IsComparedTrace, split_of, wants_of}
use Rattle.trace_compare.proofs.TextLemmas.{misspelled, spelled}
use Rattle.trace_compare.proofs.text_comparer.TextComparer.finish.Goals as goal

pub finish-requires-in-Ok : goal.finish-requires-in-Ok
finish-requires-in-Ok c =
    let read = c.in-Ok.ensures.finishes c.requires.0 c.requires.1 in
    (read.0, read.1.1)

pub returns-in-Ok : goal.returns-in-Ok
returns-in-Ok c bytes fed =
    let read = c.in-Ok.ensures.finishes bytes fed in
    spelled (split_of c.args.self) (wants_of c.args.self) bytes read.0 _ read.1.0 (subst (λ (asked : Asked). IsComparedTrace asked.split asked.wants read.0 c.finish-in-Ok.result) c.in-Ok.ensures.setting (c.finish-in-Ok.ensures read.0 read.1.1))

pub returns-in-Err : goal.returns-in-Err
returns-in-Err c bytes fed = misspelled (split_of c.args.self) (wants_of c.args.self) bytes c.in-Err.fault (c.in-Err.ensures.finishes bytes fed)
