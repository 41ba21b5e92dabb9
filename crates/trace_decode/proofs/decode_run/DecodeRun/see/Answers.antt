use Rattle.std.proofs.Common.{◌∙◌, arith}
use Rattle.std.proofs.lemmas.List.{length_push}
use Rattle.physical_stream.specs.Cycles.{cycle_in}
use Rattle.type_split.specs.Streams.{plain_split}
use Rattle.std.proofs.lemmas.Option.{slice_get_within}
use Rattle.trace_decode.proofs.UntaggedLemmas.{tagged_at}
use Rattle.trace_decode.proofs.RunLemmas.{can_take, few_new, kept-more, rows_below, some_streams, tag-more}
use Rattle.trace_decode.proofs.decode_run.DecodeRun.see.Goals as goal

pub nonzero_rem-stream : goal.nonzero_rem-stream
nonzero_rem-stream c =
    let stands = c.requires.stands in
    some_streams (plain_split c.args.split.now) stands.0 c.args.self.now stands.1.0 (cycle_in c.args.row) stands.1.1 c.len-streams.result (c.len-streams.ensures ∙ c.args.self.now.kept.ok.0)

pub take_row-requires-clause-can : goal.take_row-requires-clause-can
take_row-requires-clause-can c =
    let stands = c.requires.stands in
    can_take (plain_split c.args.split.now) stands.0 c.args.self.now stands.1.0 (cycle_in c.args.row) stands.1.1 c.len-streams.result (c.len-streams.ensures ∙ c.args.self.now.kept.ok.0)

pub index-tagged-requires : goal.index-tagged-requires
index-tagged-requires c =
    let stands = c.requires.stands in
    let can = can_take (plain_split c.args.split.now) stands.0 c.args.self.now stands.1.0 (cycle_in c.args.row) stands.1.1 c.len-streams.result (c.len-streams.ensures ∙ c.args.self.now.kept.ok.0) in
    omega (arith, slice_get_within (plain_split c.args.split.now).streams _ can.phys can.there, stands.1.0.tagged.many)

pub take_row-requires-clause-tagged : goal.take_row-requires-clause-tagged
take_row-requires-clause-tagged c =
    let stands = c.requires.stands in
    let can = can_take (plain_split c.args.split.now) stands.0 c.args.self.now stands.1.0 (cycle_in c.args.row) stands.1.1 c.len-streams.result (c.len-streams.ensures ∙ c.args.self.now.kept.ok.0) in
    tagged_at (plain_split c.args.split.now) c.args.self.now.tagged.items _ _ stands.1.0.tagged
    (omega (arith, slice_get_within (plain_split c.args.split.now).streams _ can.phys can.there, stands.1.0.tagged.many)) c.index-tagged.ensures

pub note_tag-requires-clause-some : goal.note_tag-requires-clause-some
note_tag-requires-clause-some c =
    let stands = c.requires.stands in
    some_streams (plain_split c.args.split.now) stands.0 c.args.self.now stands.1.0 (cycle_in c.args.row) stands.1.1 c.len-streams.result (c.len-streams.ensures ∙ c.args.self.now.kept.ok.0)

pub note_tag-requires-clause-few : goal.note_tag-requires-clause-few
note_tag-requires-clause-few c =
    let stands = c.requires.stands in
    rows_below (plain_split c.args.split.now) stands.0 c.args.self.now stands.1.0 (cycle_in c.args.row) stands.1.1 c.len-streams.result (c.len-streams.ensures ∙ c.args.self.now.kept.ok.0)

pub returns : goal.returns
returns c t stands can =
    let many = c.len-streams.ensures ∙ c.args.self.now.kept.ok.0 in
    let split = plain_split c.args.split.now in
    let row = cycle_in c.args.row in
    record {
      heads = stands.heads;
      surveyed = c.in_ok-row.ensures.taken t stands.surveyed can;
      cycles = stands.cycles;
      streams = stands.streams;
      rows = omega (arith, stands.rows, length_push t.rows row);
      most = few_new split t c.args.self.now stands row can c.len-streams.result many;
      kept = kept-more split t c.args.self.now stands row can c.len-streams.result many c.take_row.new.kept.items c.in_ok-named.named c.in_ok-named.ensures;
      tagged = stands.tagged;
      tag = tag-more split t c.args.self.now stands row can c.len-streams.result many c.take_row.new.kept.items c.in_ok-named.named c.in_ok-named.ensures _ c.note_tag.ensures;
    }
