use Rattle.std.proofs.Common.{length}
use Rattle.tydi_tool.proofs.DumpLemmas.{kept-at_end, many-streams, names-stream}
use Rattle.tydi_tool.proofs.vcd_file.VcdFileReaderOptionDumpText.finish.Goals as goal

pub kept_of-requires : goal.kept_of-requires
kept_of-requires c =
    let some = c.requires.stands in
    names-stream c.faults_name_streams.ensures some.wanted some.bytes (length c.args.self.split.now.streams) c.finish.result (many-streams c.args.self some)
    (c.finish.ensures some.wanted some.bytes some.stands)

pub returns : goal.returns
returns c = kept-at_end c.args.self c.kept_of.result c.requires.stands
    (λ wanted bytes stands. c.kept_of.ensures wanted bytes (c.finish.ensures wanted bytes stands))
