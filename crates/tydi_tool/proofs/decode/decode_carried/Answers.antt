use Rattle.std.proofs.Common.{◌≡◌, IfSome}
use Rattle.type_split.specs.Streams.{plain_split}
use Rattle.tydi_io.specs.Faults.{Rose}
use Rattle.tydi_tool.specs.Commands.{outcome_ask}
use Rattle.tydi_tool.specs.Drives.{carried}
use Rattle.tydi_tool.proofs.AskLemmas.{DecidedBy-goes_on}
use Rattle.tydi_tool.proofs.DecodeLemmas.{all-decodable}
use Rattle.tydi_tool.proofs.decode.decode_carried.Goals as goal

pub decode_trace-requires-clause-can : goal.decode_trace-requires-clause-can
decode_trace-requires-clause-can g c = all-decodable (plain_split c.args.split.now) c.in-Ok.ensures c.requires.port

pub returns-in-Ok : goal.returns-in-Ok
returns-in-Ok g c =
    let files = g.S.Store.files c.args.store.now in
    let started = g.S.Store.started c.decode_trace.new.store in
    let split = plain_split c.args.split.now in
    record {
      decided = DecidedBy-goes_on {V = Unit {0}} files started (Rose (g.S.Store.faults c.args.store.now) (g.S.Store.faults c.decode_trace.new.store))
          (IfSome files (λ known. started ≡ g.S.Store.started c.args.store.now)) (carried split)
          (λ done. outcome_ask c.args.trace.now split) tt c.decode_trace.result c.in-Ok.ensures c.decode_trace.ensures.decided;
    }
