-- Ends and their streams, as the code holds them. They serve the making of assignments, and no public clause. This project's own.
use Rattle.std.specs.Prelude.{List}
use Rattle.std.specs.Option.{option_copied}
use Rattle.vhdl_writer.specs.Architecture as spec
use Rattle.vhdl_writer.specs.declared.end_stream.End.{End}
use Rattle.vhdl_writer.specs.declared.end_stream.EndStream.{EndStream}

abbrev pub end_lent : EndStream → spec.EndStream
end_lent one = record { instance = option_copied one.instance; stream = one.stream.now }

abbrev pub channel_lent : EndStream → EndStream → spec.Channel
channel_lent sending receiving = record { sending = end_lent sending; receiving = end_lent receiving }

abbrev pub channels_lent : End → End → List spec.Channel
channels_lent source sink = spec.channels_of (option_copied source.instance) (option_copied sink.instance) source.streams.now sink.streams.now
