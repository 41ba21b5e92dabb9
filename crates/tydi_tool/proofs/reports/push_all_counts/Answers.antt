use Rattle.std.proofs.Common.{◌∙◌, ◌++◌, List, ℕ, sym, ap}
use Rattle.std.proofs.lemmas.List.{append-nil}
use Rattle.std.proofs.lemmas.Slice.Zip.{either_empty_from_Zip}
use Rattle.tydi_tool.proofs.ReportLemmas.{counts_text-ended}
use Rattle.tydi_tool.proofs.reports.push_all_counts.Goals as goal

pub returns : goal.returns
returns c =
    let ended = counts_text-ended _ _ (either_empty_from_Zip c.streams.head-iterator c.next.new.self c.next.result c.in-None.is c.next.ensures.steps) in
    sym (append-nil c.streams.text) ∙ ap (λ (rest : List ℕ). c.streams.text ++ rest) (sym ended) ∙ c.streams.invariant
