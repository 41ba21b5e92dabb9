-- The trace that `drive` writes.
use Rattle.std.proofs.Common.{◌≡◌, ℕ, ◌≤◌, List, length, None, Result, Ok, refl, sym, ap, subst}
use Rattle.tydi_base.specs.Reading.{◌>>=◌}
use Rattle.tydi_io.specs.Store.{Files}
use Rattle.logical_types.specs.Tree.{Ltype}
use Rattle.logical_value.specs.Tree.{plain_port}
use Rattle.logical_value.specs.declared.value.PortValue.{PortValue}
use Rattle.value_text.proofs.FitLemmas.{read_values_fit}
use Rattle.plan_text.specs.Text.{plan_of}
use Rattle.plan_text.specs.declared.plan.Plan.{Plan}
use Rattle.plan_text.proofs.FitBlocks.{plan_of-fits}
use Rattle.handshake.specs.Rows.{StreamRun}
use Rattle.port_drive.specs.Drives.{Undriven}
use Rattle.port_drive.specs.Laws.{trace_of}
use Rattle.port_drive.specs.Text.{AreHeadsInForm, MayDrive, drive_text, written_text}
use Rattle.port_drive.proofs.FormLemmas.{types-have-heads}
use Rattle.port_drive.proofs.TextLemmas.{texts-are}
use Rattle.type_split.specs.Streams.{PlainSplit, clash_of, split_of}
use Rattle.value_text.specs.Reading.{IsValue}
use Rattle.tydi_tool.specs.declared.answer.Answer.TheVariants as answers
use Rattle.tydi_tool.specs.Causes as rows
use Rattle.tydi_tool.specs.Causes.{DriveWords, HasDrive, HasPort, IsDriveText}
use Rattle.tydi_tool.specs.DriveLaw.{AcceptedPortsAreDriven, Accepts, WritesDriven, WrittenTracesAreDriven, drive_words}
use Rattle.tydi_tool.specs.Words.{Drive}
use Rattle.tydi_tool.proofs.CauseLemmas.{exactly, says_text}
use Rattle.tydi_tool.proofs.FormLemmas.{IsPortFormed, port-formed}

-- the port of a drive is one of a project that its text spells
formed-of : (known : Files) (words : DriveWords) (ltype : Ltype) → HasPort known words.at ltype → IsPortFormed ltype
formed-of known words ltype port = subst IsPortFormed (sym port.type_is) (port-formed words.at.project port.bytes port.read words.at.port port.found port.reads port.named)

-- a value and a plan that are read may drive a port in form
pub may-drive-by : (ltype : Ltype) (split : PlainSplit) (value : PortValue) (plan : Plan) (value_text plan_text : List ℕ) → IsPortFormed ltype → clash_of ltype ≡ None → split ≡ split_of ltype
    → IsValue split value_text value → plan_of split.streams plan_text ≡ Ok plan → MayDrive split (plain_port value) plan
may-drive-by ltype split value plan value_text plan_text formed apart is value_is plan_is = record {
  port = record { ltype = ltype; port = formed.port; valid = formed.valid.valid; few = formed.valid.few; apart = apart; is = is };
  heads = subst AreHeadsInForm (sym is) (types-have-heads ltype formed.valid.valid formed.form);
  value_fits = read_values_fit split value_text value value_is;
  plan_fits = plan_of-fits split.streams plan_text plan plan_is;
}

pub may-drive : (known : Files) (words : DriveWords) (split : PlainSplit) (value : PortValue) (plan : Plan) → HasDrive known words split value plan → MayDrive split (plain_port value) plan
may-drive known words split value plan has =
    let at = has.at.split_is in
    may-drive-by at.ltype split value plan has.value_is.bytes has.plan_is.bytes (formed-of known words at.ltype at.port) at.apart at.is has.value_is.reads has.plan_is.reads

writes-driven : (known : Files) (words : DriveWords) (split : PlainSplit) (value : PortValue) (plan : Plan) (text : List ℕ) → HasDrive known words split value plan → drive_text split (plain_port value) plan ≡ Ok text
    → WritesDriven known words text
writes-driven known words split value plan text has is =
    record { split = split; value = value; plan = plan; read = has; trace = texts-are split (plain_port value) plan text (may-drive known words split value plan has) is }

-- the text of the runs that drive the port
text-of : (known : Files) (words : DriveWords) (split : PlainSplit) (value : PortValue) (plan : Plan) (runs : List StreamRun) → Accepts known words split value plan runs
    → drive_text split (plain_port value) plan ≡ Ok (written_text (trace_of split plan.cycles runs))
text-of known words split value plan runs accepts = ap (λ (r : Result (List StreamRun) Undriven). r >>= λ some. Ok (written_text (trace_of split plan.cycles some))) accepts.drives

pub accepted-driven : AcceptedPortsAreDriven
accepted-driven known project port word other split value plan runs accepts =
    let words = drive_words project port word other in
    let text = written_text (trace_of split plan.cycles runs) in
    let is : drive_text split (plain_port value) plan ≡ Ok text = text-of known words split value plan runs accepts in (
      says_text known (Drive project port word other) text _ (record { split = split; value = value; plan = plan; all = accepts.read; is = is }) refl,
      writes-driven known words split value plan text accepts.read is,
    )

same_text : (one other : List ℕ) → answers.Done one ≡ answers.Done other → one ≡ other
same_text one other e = cc

pub written-driven : WrittenTracesAreDriven
written-driven known project port value plan text says =
    let cause = (exactly rows.AText known (Drive project port value plan) (answers.Done text)).0 (says, refl) in
    let same : text ≡ cause.text = same_text text cause.text cause.said in
    let driven = writes-driven known (drive_words project port value plan) cause.is.split cause.is.value cause.is.plan cause.text cause.is.all cause.is.is in
    (subst (λ (l : List ℕ). length l ≤ 67108864) (sym same) cause.within, subst (WritesDriven known (drive_words project port value plan)) (sym same) driven)
