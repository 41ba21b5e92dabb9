use Rattle.std.proofs.Common.{◌≡◌, ◌∙◌, ◌≤◌, ℕ, false, List, ◌++◌, length, min, take, drop, sym, ap, subst, arith}
use Rattle.tydi_base.specs.Lengths.{most_bytes}
use Rattle.handshake.proofs.RewindLemmas.{given-back}
use Rattle.handshake.specs.Offers.{AreBefore}
use Rattle.handshake.specs.Turns.{KeepRuns}
use Rattle.handshake.specs.declared.cursor.Cursor.{Cursor}
use Rattle.physical_stream.specs.declared.head.Head.{Head}
use Rattle.vhdl_text.specs.Parts.{front_text}
use Rattle.testbench.specs.Pieces.{processes_left, writings_of}
use Rattle.testbench.proofs.PieceLemmas.{after-same, first-before, three-lengths, whole-text}
use Rattle.testbench.proofs.pieces.bench_text.Goals as goal

pub invariant_of-pieces : goal.invariant_of-pieces
invariant_of-pieces g c =
    let new = c.measured.new.cursors in
    let items = c.into_vec-cursors.result.items in
    let many : length new ≡ length items = c.measured.ensures.kept.many ∙ ap length c.as_mut_slice.ensures.value in
    let back : take c.into_vec-cursors.result.len (new ++ drop (length new) items) ≡ new = given-back new items c.into_vec-cursors.result.len (many ∙ sym c.into_vec-cursors.result.ok.0) in
    record {
      before = subst (λ (l : List (Cursor g.row.F.Denot g.F.TransferFeed)). AreBefore g.F.TransferFeed.rest g.F.TransferFeed.whole l) (sym back) (first-before g.F.TransferFeed.rest g.F.TransferFeed.whole new c.in_ok-bytes.ensures.first);
      few = subst (λ (l : List (Cursor g.row.F.Denot g.F.TransferFeed)). length l ≤ 65536) (sym back) (omega (arith, many, ap length c.into_vec-cursors.ensures, c.requires.few));
    }

pub returns-clause-text : goal.returns-clause-text
returns-clause-text g c =
    let new = c.measured.new.cursors in
    let items = c.into_vec-cursors.result.items in
    let many : length new ≡ length items = c.measured.ensures.kept.many ∙ ap length c.as_mut_slice.ensures.value in
    let back : take c.into_vec-cursors.result.len (new ++ drop (length new) items) ≡ new = given-back new items c.into_vec-cursors.result.len (many ∙ sym c.into_vec-cursors.result.ok.0) in
    let kept : KeepRuns g.F.TransferFeed.whole c.args.cursors new = subst (λ (l : List (Cursor g.row.F.Denot g.F.TransferFeed)). KeepRuns g.F.TransferFeed.whole l new) (c.as_mut_slice.ensures.value ∙ c.into_vec-cursors.ensures) c.measured.ensures.kept in
    ap (λ (l : List (Cursor g.row.F.Denot g.F.TransferFeed)). c.write_front.new.out ++ (processes_left c.args.heads 0 false (writings_of g.F.TransferFeed.rest g.F.TransferFeed.whole l) ++ c.write_back.new.out)) back
    ∙ whole-text g.F.TransferFeed.rest g.F.TransferFeed.whole c.benches_have_parts.ensures.benches c.benches_have_parts.ensures.processes c.args.heads c.args.cursors new c.write_front.new.out c.write_back.new.out c.requires.params kept
    c.in_ok-bytes.ensures.first
    (after-same c.write_front.new.out c.new-front.result _ (front_text c.as_slice.result.now) c.in_ok-write_front.ensures.ok c.new-front.ensures ∙ ap (λ (hs : List Head). front_text hs) c.as_slice.ensures)
    (after-same c.write_back.new.out c.new-back.result _ _ c.in_ok-write_back.ensures.ok c.new-back.ensures)

pub returns-clause-length : goal.returns-clause-length
returns-clause-length g c =
    let new = c.measured.new.cursors in
    let items = c.into_vec-cursors.result.items in
    let many : length new ≡ length items = c.measured.ensures.kept.many ∙ ap length c.as_mut_slice.ensures.value in
    let back : take c.into_vec-cursors.result.len (new ++ drop (length new) items) ≡ new = given-back new items c.into_vec-cursors.result.len (many ∙ sym c.into_vec-cursors.result.ok.0) in
    three-lengths c.write_front.new.out (processes_left c.args.heads 0 false (writings_of g.F.TransferFeed.rest g.F.TransferFeed.whole (take c.into_vec-cursors.result.len (new ++ drop (length new) items)))) c.write_back.new.out
    c.len.result c.len-2.result c.in_ok-bytes.bytes c.saturating_add.result c.saturating_add-length.result _ c.len.ensures c.len-2.ensures
    (c.in_ok-bytes.ensures.bytes ∙ ap (λ (hs : List Head). min (length (processes_left hs 0 false (writings_of g.F.TransferFeed.rest g.F.TransferFeed.whole new))) most_bytes) c.as_slice-2.ensures
    ∙ ap (λ (l : List (Cursor g.row.F.Denot g.F.TransferFeed)). min (length (processes_left c.args.heads 0 false (writings_of g.F.TransferFeed.rest g.F.TransferFeed.whole l))) most_bytes) (sym back)) c.saturating_add.ensures c.saturating_add-length.ensures
