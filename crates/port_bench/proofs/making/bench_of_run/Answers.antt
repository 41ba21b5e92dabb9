use Rattle.std.proofs.Common.{◌∙◌, List, length, sym, ap}
use Rattle.handshake.specs.Rows.{StreamRun, undone_in}
use Rattle.scheduler.specs.Planners.{rest_of, whole_of}
use Rattle.port_drive.specs.Finishing.{unfinished_from}
use Rattle.port_drive.specs.Starting.{runs_of_port}
use Rattle.testbench.specs.TextLeft.{text_left}
use Rattle.port_bench.proofs.MakingLemmas.{begun-runs, ended-many, ended-runs, ends-few, ends-params, ends-text, unless-none}
use Rattle.port_bench.proofs.making.bench_of_run.Goals as goal

pub returns-in_err-finished-clause-text : goal.returns-in_err-finished-clause-text
returns-in_err-finished-clause-text c =
    let runs = begun-runs c.args.run.cursors.items c.into_vec-cursors.result.items c.as_mut_slice.result.now c.rewind_all.new.cursors c.as_mut_slice-2.result.now c.into_vec-cursors.result.len c.as_slice.result.now c.args.run.ready
    (c.into_vec-cursors.ensures ∙ c.into_parts-cursors.ensures.cursors) c.as_mut_slice.ensures.value c.rewind_all.ensures.kept c.into_vec-cursors.result.ok.0 c.as_mut_slice-2.ensures.value
    (c.as_slice.ensures ∙ c.into_parts-cursors.ensures.ready) in
    unless-none (λ bench. text_left rest_of whole_of bench.pieces) c.from_residual.result c.in_err-finished.field-0.0 _ _ _ c.from_residual.ensures.1 c.in_err-finished.ensures.finishes
    (ap (λ (l : List StreamRun). unfinished_from 0 (undone_in l)) runs)

pub bench_text-requires-clause-few : goal.bench_text-requires-clause-few
bench_text-requires-clause-few c =
    let runs = ended-runs c.args.run.cursors.items c.into_vec-cursors.result.items c.as_mut_slice.result.now c.rewind_all.new.cursors c.as_mut_slice-2.result.now c.into_vec-cursors.result.len c.as_slice.result.now c.args.run.ready
    (c.into_vec-cursors.ensures ∙ c.into_parts-cursors.ensures.cursors) c.as_mut_slice.ensures.value c.rewind_all.ensures.kept c.into_vec-cursors.result.ok.0 c.as_mut_slice-2.ensures.value
    (c.as_slice.ensures ∙ c.into_parts-cursors.ensures.ready)
    c.finished.new.cursors _ c.from_vec.result c.finished.ensures.kept c.from_vec.ensures in
    let same = ended-many c.args.run.cursors.items c.into_vec-cursors.result.items c.as_mut_slice.result.now c.rewind_all.new.cursors c.as_mut_slice-2.result.now c.into_vec-cursors.result.len c.as_slice.result.now c.args.run.ready
    (c.into_vec-cursors.ensures ∙ c.into_parts-cursors.ensures.cursors) c.as_mut_slice.ensures.value c.rewind_all.ensures.kept c.into_vec-cursors.result.ok.0 c.as_mut_slice-2.ensures.value
    (c.as_slice.ensures ∙ c.into_parts-cursors.ensures.ready)
    c.finished.new.cursors _ c.from_vec.result c.finished.ensures.kept c.from_vec.ensures ∙ (sym (ap length c.into_parts-cursors.ensures.cursors) ∙ c.into_parts-cursors.ensures.same ∙ ap length c.into_parts-cursors.ensures.ready) in
    ends-few c.from_vec.result c.args.run.ready (runs_of_port c.args.run) same runs c.requires.few

pub bench_text-requires-clause-params : goal.bench_text-requires-clause-params
bench_text-requires-clause-params c =
    let runs = ended-runs c.args.run.cursors.items c.into_vec-cursors.result.items c.as_mut_slice.result.now c.rewind_all.new.cursors c.as_mut_slice-2.result.now c.into_vec-cursors.result.len c.as_slice.result.now c.args.run.ready
    (c.into_vec-cursors.ensures ∙ c.into_parts-cursors.ensures.cursors) c.as_mut_slice.ensures.value c.rewind_all.ensures.kept c.into_vec-cursors.result.ok.0 c.as_mut_slice-2.ensures.value
    (c.as_slice.ensures ∙ c.into_parts-cursors.ensures.ready)
    c.finished.new.cursors _ c.from_vec.result c.finished.ensures.kept c.from_vec.ensures in
    let same = ended-many c.args.run.cursors.items c.into_vec-cursors.result.items c.as_mut_slice.result.now c.rewind_all.new.cursors c.as_mut_slice-2.result.now c.into_vec-cursors.result.len c.as_slice.result.now c.args.run.ready
    (c.into_vec-cursors.ensures ∙ c.into_parts-cursors.ensures.cursors) c.as_mut_slice.ensures.value c.rewind_all.ensures.kept c.into_vec-cursors.result.ok.0 c.as_mut_slice-2.ensures.value
    (c.as_slice.ensures ∙ c.into_parts-cursors.ensures.ready)
    c.finished.new.cursors _ c.from_vec.result c.finished.ensures.kept c.from_vec.ensures ∙ (sym (ap length c.into_parts-cursors.ensures.cursors) ∙ c.into_parts-cursors.ensures.same ∙ ap length c.into_parts-cursors.ensures.ready) in
    ends-params c.from_vec.result c.args.run.ready (runs_of_port c.args.run) same runs c.args.heads c.requires.params

pub returns-clause-text : goal.returns-clause-text
returns-clause-text c =
    let runs = ended-runs c.args.run.cursors.items c.into_vec-cursors.result.items c.as_mut_slice.result.now c.rewind_all.new.cursors c.as_mut_slice-2.result.now c.into_vec-cursors.result.len c.as_slice.result.now c.args.run.ready
    (c.into_vec-cursors.ensures ∙ c.into_parts-cursors.ensures.cursors) c.as_mut_slice.ensures.value c.rewind_all.ensures.kept c.into_vec-cursors.result.ok.0 c.as_mut_slice-2.ensures.value
    (c.as_slice.ensures ∙ c.into_parts-cursors.ensures.ready)
    c.finished.new.cursors _ c.from_vec.result c.finished.ensures.kept c.from_vec.ensures in
    let same = ended-many c.args.run.cursors.items c.into_vec-cursors.result.items c.as_mut_slice.result.now c.rewind_all.new.cursors c.as_mut_slice-2.result.now c.into_vec-cursors.result.len c.as_slice.result.now c.args.run.ready
    (c.into_vec-cursors.ensures ∙ c.into_parts-cursors.ensures.cursors) c.as_mut_slice.ensures.value c.rewind_all.ensures.kept c.into_vec-cursors.result.ok.0 c.as_mut_slice-2.ensures.value
    (c.as_slice.ensures ∙ c.into_parts-cursors.ensures.ready)
    c.finished.new.cursors _ c.from_vec.result c.finished.ensures.kept c.from_vec.ensures ∙ (sym (ap length c.into_parts-cursors.ensures.cursors) ∙ c.into_parts-cursors.ensures.same ∙ ap length c.into_parts-cursors.ensures.ready) in
    let begun = begun-runs c.args.run.cursors.items c.into_vec-cursors.result.items c.as_mut_slice.result.now c.rewind_all.new.cursors c.as_mut_slice-2.result.now c.into_vec-cursors.result.len c.as_slice.result.now c.args.run.ready
    (c.into_vec-cursors.ensures ∙ c.into_parts-cursors.ensures.cursors) c.as_mut_slice.ensures.value c.rewind_all.ensures.kept c.into_vec-cursors.result.ok.0 c.as_mut_slice-2.ensures.value
    (c.as_slice.ensures ∙ c.into_parts-cursors.ensures.ready) in
    ends-text c.from_vec.result c.args.run.ready (runs_of_port c.args.run) same runs c.args.heads (unfinished_from 0 (undone_in (runs_of_port c.args.run))) (text_left rest_of whole_of c.in_ok-text.text.pieces)
    (ap (λ (l : List StreamRun). unfinished_from 0 (undone_in l)) (sym begun) ∙ c.in_ok-finished.ensures.finishes) c.in_ok-text.ensures.text
