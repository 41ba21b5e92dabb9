use Rattle.std.proofs.Common.{◌∙◌, ◌<◌, ◌++◌, List, ℕ, refl, ap, arith, length}
use Rattle.physical_stream.specs.Cycles.{cycle_in}
use Rattle.cycle_trace.specs.Spelling.{row_text}
use Rattle.port_gen.specs.Sums.{sum_on}
use Rattle.port_gen.proofs.SumLemmas.{sum-params, sum-shown, sum-within, sums-more}
use Rattle.port_gen.proofs.text_sum.SumRun.see.Goals as goal

pub offset_bounds-as_slice-self : goal.offset_bounds-as_slice-self
offset_bounds-as_slice-self c =
    let stands = c.requires in
    let within = sum-within stands.0 c.args.self.now stands.1.0 (cycle_in c.args.row) stands.1.1 in
    let less : c.args.self.now.stream < length c.as_slice.result.now = omega (arith, within, ap length c.as_slice.ensures) in
    omega arith

pub bounds-as_slice-self : goal.bounds-as_slice-self
bounds-as_slice-self c =
    let stands = c.requires in
    let within = sum-within stands.0 c.args.self.now stands.1.0 (cycle_in c.args.row) stands.1.1 in
    omega (arith, within, ap length c.as_slice.ensures)

pub write_row-requires : goal.write_row-requires
write_row-requires c =
    let stands = c.requires in
    let params = sum-params stands.0 c.args.self.now stands.1.0 (cycle_in c.args.row) stands.1.1 c.as_slice.result.now c.index-as_slice-self.result c.as_slice.ensures c.index-as_slice-self.is in
    record { shown = sum-shown stands.0 c.args.self.now stands.1.0 (cycle_in c.args.row) stands.1.1 c.index-as_slice-self.result params }

pub stream_behind-self-requires : goal.stream_behind-self-requires
stream_behind-self-requires c =
    let stands = c.requires in
    let within = sum-within stands.0 c.args.self.now stands.1.0 (cycle_in c.args.row) stands.1.1 in
    omega (arith, within, c.len.ensures)

pub returns : goal.returns
returns c t stands can =
    let row = cycle_in c.args.row in
    let params = sum-params t c.args.self.now stands row can c.as_slice.result.now c.index-as_slice-self.result c.as_slice.ensures c.index-as_slice-self.is in
    sums-more t c.args.self.now stands row can _ c.index-as_slice-self.result c.len.result params c.len.ensures refl c.stream_behind-self.ensures
    (c.with_bytes-self.ensures ∙ ap (sum_on c.args.self.now.total) (c.as_slice-2.ensures ∙ c.in_ok-write_row.ensures.ok ∙ ap (λ (l : List ℕ). l ++ row_text c.index-as_slice-self.result row) c.truncate.ensures))
