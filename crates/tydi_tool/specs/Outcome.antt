-- The output and the exit status of a run (this project's own).
use Rattle.std.specs.Prelude.{ℕ, ◌*◌, ◌^◌, nat_lt, if◌then◌else◌, List, [], length, codes}
use Rattle.tydi_tool.specs.declared.answer.Answer.{Answer}
use Rattle.tydi_tool.specs.declared.answer.Answer.TheVariants as answers
use Rattle.tydi_tool.specs.declared.answer.Reply.{Reply}
use Rattle.tydi_tool.specs.declared.answer.Reply.TheVariants as replies
use Rattle.tydi_tool.specs.declared.status.Status.{Status}
use Rattle.tydi_tool.specs.declared.status.Status.TheVariants as statuses
use Rattle.tydi_tool.specs.Refusals.{of_file, refusal_line}

abbrev pub exit_code : Status → ℕ
exit_code statuses.Done = 0
exit_code statuses.Refused = 1
exit_code statuses.Usage = 2
exit_code statuses.ReadFault = 3
exit_code statuses.WriteFault = 4
exit_code statuses.Memory = 5
exit_code statuses.Verdict = 6

abbrev pub usage_line : List ℕ
usage_line = codes "tydi: Usage\n"

abbrev pub memory_line : List ℕ
memory_line = codes "tydi: Memory\n"

abbrev pub write_fault_line : List ℕ
write_fault_line = codes "tydi: WriteFault\n"

abbrev pub output_too_long_line : List ℕ
output_too_long_line = codes "tydi: OutputTooLong\n"

abbrev pub read_fault_line : List ℕ → List ℕ
read_fault_line word = refusal_line (of_file (codes "ReadFault") word)

-- 64 MiB
abbrev pub output_limit : ℕ
output_limit = 64 * 2 ^ 20

-- the answer that gives a text to out, where it is not too long
abbrev pub output_answer : List ℕ → Answer
output_answer text = if nat_lt output_limit (length text) then answers.Refused output_too_long_line else answers.Done text

-- the bytes that an answer gives to out and to err, and its exit status
abbrev pub out_of_answer : Answer → List ℕ
out_of_answer (answers.Refused line) = []
out_of_answer (answers.Verdict line) = line
out_of_answer (answers.Done text) = text

abbrev pub err_of_answer : Answer → List ℕ
err_of_answer (answers.Refused line) = line
err_of_answer (answers.Verdict line) = []
err_of_answer (answers.Done text) = []

abbrev pub status_of_answer : Answer → Status
status_of_answer (answers.Refused line) = statuses.Refused
status_of_answer (answers.Verdict line) = statuses.Verdict
status_of_answer (answers.Done text) = statuses.Done

abbrev pub out_of : Reply → List ℕ
out_of (replies.Says a) = out_of_answer a
out_of (replies.ReadFault line) = []
out_of replies.Memory = []

abbrev pub err_of : Reply → List ℕ
err_of (replies.Says a) = err_of_answer a
err_of (replies.ReadFault line) = line
err_of replies.Memory = memory_line

abbrev pub status_of : Reply → Status
status_of (replies.Says a) = status_of_answer a
status_of (replies.ReadFault line) = statuses.ReadFault
status_of replies.Memory = statuses.Memory
