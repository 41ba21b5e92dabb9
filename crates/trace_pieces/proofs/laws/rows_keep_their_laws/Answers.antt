use Rattle.trace_pieces.proofs.LawLemmas.{rows-made, rows-spelled}
use Rattle.trace_pieces.proofs.RunLemmas.{runs-shown, streams-are}
use Rattle.trace_pieces.proofs.laws.rows_keep_their_laws.Goals as goal

pub returns : goal.returns
returns c = record {
  spelled = rows-spelled;
  made = rows-made;
  traces = λ cycles heads runs few distinct are. record { few_cycles = few; streams = distinct; shown = runs-shown cycles heads runs are };
  runs = λ cycles heads runs are. streams-are cycles heads runs are;
}
