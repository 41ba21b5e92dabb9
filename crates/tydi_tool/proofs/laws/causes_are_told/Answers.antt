use Rattle.tydi_tool.specs.Causes as rows
use Rattle.tydi_tool.proofs.CauseLemmas.{each, exactly}
use Rattle.tydi_tool.proofs.laws.causes_are_told.Goals as goal

pub returns-clause-no_file : goal.returns-clause-no_file
returns-clause-no_file c = exactly rows.NoFile

pub returns-clause-too_long : goal.returns-clause-too_long
returns-clause-too_long c = exactly rows.TooLong

pub returns-clause-not_utf8 : goal.returns-clause-not_utf8
returns-clause-not_utf8 c = exactly rows.NotUtf8

pub returns-clause-lexer : goal.returns-clause-lexer
returns-clause-lexer c = exactly rows.LexerFault

pub returns-clause-parser : goal.returns-clause-parser
returns-clause-parser c = exactly rows.ParserFault

pub returns-clause-resolver : goal.returns-clause-resolver
returns-clause-resolver c = exactly rows.ResolverFault

pub returns-clause-no_port : goal.returns-clause-no_port
returns-clause-no_port c = exactly rows.NoPort

pub returns-clause-name_clash : goal.returns-clause-name_clash
returns-clause-name_clash c = exactly rows.NameClash

pub returns-clause-no_carrier : goal.returns-clause-no_carrier
returns-clause-no_carrier c = exactly rows.NoCarrier

pub returns-clause-file_text : goal.returns-clause-file_text
returns-clause-file_text c = exactly rows.TextFault

pub returns-clause-other_header : goal.returns-clause-other_header
returns-clause-other_header c = exactly rows.OtherHeader

pub returns-clause-count_not_multiple : goal.returns-clause-count_not_multiple
returns-clause-count_not_multiple c = exactly rows.CountNotMultiple

pub returns-clause-not_finished : goal.returns-clause-not_finished
returns-clause-not_finished c = exactly rows.NotFinished

pub returns-clause-link_fault : goal.returns-clause-link_fault
returns-clause-link_fault c = exactly rows.NotLinked

pub returns-clause-no_streamlet : goal.returns-clause-no_streamlet
returns-clause-no_streamlet c = exactly rows.NoStreamlet

pub returns-clause-no_path : goal.returns-clause-no_path
returns-clause-no_path c = exactly rows.NoPath

pub returns-clause-output_too_long : goal.returns-clause-output_too_long
returns-clause-output_too_long c = exactly rows.OutputTooLong

pub returns-clause-offence : goal.returns-clause-offence
returns-clause-offence c = exactly rows.AnOffence

pub returns-clause-unfinished : goal.returns-clause-unfinished
returns-clause-unfinished c = exactly rows.AnUnfinished

pub returns-clause-disagreement : goal.returns-clause-disagreement
returns-clause-disagreement c = exactly rows.ADisagreement

pub returns-clause-difference : goal.returns-clause-difference
returns-clause-difference c = exactly rows.ADifference

pub returns-clause-report : goal.returns-clause-report
returns-clause-report c = exactly rows.AReport

pub returns-clause-text : goal.returns-clause-text
returns-clause-text c = exactly rows.AText

pub returns-clause-no_test : goal.returns-clause-no_test
returns-clause-no_test c = exactly rows.NoTest

pub returns-clause-each : goal.returns-clause-each
returns-clause-each c = λ known request a says. each known request a says
