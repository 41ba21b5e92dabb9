use Rattle.trace_decode.specs.Texts.{split_of}
use Rattle.tydi_tool.proofs.DecodeLemmas.{decoded-at_end}
use Rattle.tydi_tool.proofs.decode_file.DecodeFileReaderDecoding.finish.Goals as goal

pub returns : goal.returns
returns c = decoded-at_end c.args.self c.found.result c.requires.stands (λ bytes fed. c.found.ensures (split_of c.args.self.decoder) bytes (c.finish.ensures bytes fed))
