-- A reader of traces, line by line and piece by piece.
use Rattle.std.proofs.Common.{◌≡◌, ◌≢◌, ◌∙◌, ◌⊎◌, inl, inr, ℕ, Bool, true, List, [], ◌∷◌, ◌++◌, Option, Some, None, Result, Ok, Err, IfErr, IsSome, append_assoc, refl, sym, ap, subst, arith}
use Rattle.std.proofs.lemmas.List.{append-nil}
use Rattle.std.proofs.lemmas.List.Elements.{All-append, All-head, All-nil}
use Rattle.std.proofs.lemmas.Result.{IfErr-at_err}
use Rattle.std.specs.List.{All}
use Rattle.tydi_base.proofs.PieceLaws.{pieces_of-each_lacks}
use Rattle.tydi_base.specs.Pieces.{Lacks, lines_of}
use Rattle.cycle_trace.specs.HeaderText.{header_start_of, header_start_after}
use Rattle.cycle_trace.specs.Faults.{fault_in}
use Rattle.cycle_trace.specs.LineBegun.{Begins, IsSoFar}
use Rattle.cycle_trace.specs.ReaderView.{AfterLine, AfterRow, HoldsHeader, HoldsLine, OpensAt, Stands, StandsAt, StaysCalm, StaysFailed, is_past_header}
use Rattle.cycle_trace.specs.Trace.{TraceText}
use Rattle.cycle_trace.specs.declared.fault.TraceFault.{TraceFault}
use Rattle.cycle_trace.specs.declared.fault.TraceFault.TheVariants.{BadHeader, BadRow, Memory, RowsLeft, RowsMissing, TooManyCycles, WrongSignals}
use Rattle.cycle_trace.specs.declared.reader.line_begun.LineBegun.{LineBegun}
use Rattle.cycle_trace.specs.declared.row.form.RowForm.{RowForm}
use Rattle.cycle_trace.specs.declared.reader.text.HeaderPart.{HeaderPart}
use Rattle.cycle_trace.specs.declared.reader.text.HeaderPart.TheVariants as parts
use Rattle.cycle_trace.specs.declared.reader.text.Stage.{Stage}
use Rattle.cycle_trace.specs.declared.reader.text.Stage.TheVariants as stages
use Rattle.cycle_trace.specs.declared.reader.text.TextRead.{TextRead}
use Rattle.cycle_trace.proofs.BeginningLemmas.{Fails-more, Opens-more, OpensWith-more, GoesOn-more, none_held, past-Heads}
use Rattle.cycle_trace.proofs.HeaderLemmas.{header_start_after-one, header_start_of-one}

-- no line is begun
pub plain-none : Lacks 10 []
plain-none = All-nil (λ byte. byte ≢ 10)

OpensAt-more : (text : TextRead) (part : HeaderPart) (line bytes more : List ℕ) → OpensAt text part line bytes → OpensAt text part (line ++ more) (bytes ++ more)
OpensAt-more text parts.Title line bytes more h = (h.0, Opens-more bytes line more header_start_of h.1)
OpensAt-more text parts.Cycles line bytes more h = (h.0, Opens-more bytes line more (header_start_after text.version) h.1)
OpensAt-more text parts.Heads line bytes more h = OpensWith-more bytes line more text.version text.cycles text.heads text.paths h

module _ {K : Type 0} (stands : K → Option TraceText → Type 0) (sink : K) (text : TextRead) where
  -- the line that is begun goes on
  pub StandsAt-more : (stage : Stage) (line bytes more : List ℕ) → Lacks 10 more → StandsAt stands sink text stage line bytes → StandsAt stands sink text stage (line ++ more) (bytes ++ more)
  StandsAt-more (stages.Header part) line bytes more plain h = (h.0, All-append (λ byte. byte ≢ 10) line more h.1 plain, OpensAt-more text part line bytes more h.2)
  StandsAt-more stages.Rows line bytes more plain h = (h.0, (h.1.0, All-append (λ byte. byte ≢ 10) line more h.1.1 plain, h.1.2, GoesOn-more bytes line more h.0 h.1.3))
  StandsAt-more (stages.Failed fault) line bytes more plain h = Fails-more bytes more fault h

-- the facts known within the rows, and in a part of the header
pub in_rows : {K : Type 0} (stands : K → Option TraceText → Type 0) (sink : K) (text : TextRead) (line bytes : List ℕ) → text.stage ≡ stages.Rows → Stands stands sink text line bytes → StandsAt stands sink text stages.Rows line bytes
in_rows stands sink text line bytes is h = subst (λ (s : Stage). StandsAt stands sink text s line bytes) is h

pub in_header : {K : Type 0} (stands : K → Option TraceText → Type 0) (sink : K) (text : TextRead) (line bytes : List ℕ) (part at : HeaderPart) → text.stage ≡ stages.Header part → part ≡ at → Stands stands sink text line bytes
    → StandsAt stands sink text (stages.Header at) line bytes
in_header stands sink text line bytes part at is same h = subst (λ (s : Stage). StandsAt stands sink text s line bytes) (is ∙ ap stages.Header same) h

-- the line of a row is one of the text
pub after_row-line : {K : Type 0} (stands : K → Option TraceText → Type 0) (sink : K) (text : TextRead) (bytes : List ℕ) (result : Result (Unit {0}) TraceFault) → text.stage ≡ stages.Rows → AfterRow stands sink text.rows bytes result → AfterLine stands sink text bytes result
after_row-line stands sink text bytes (Ok fine) is h = subst (λ (s : Stage). StandsAt stands sink text s [] (bytes ++ 10 ∷ [])) (sym is) (h.0, (h.1.0, plain-none, h.1.1, h.1.2))
after_row-line stands sink text bytes (Err e) is h = h

-- the bytes fed so far are the front of the piece
pub record FedSoFar (piece rest : List ℕ) (Old : List ℕ → Type 0) (New : List ℕ → Type 0) : Type 0 where
  pub fed : List ℕ
  pub whole : piece ≡ fed ++ rest
  pub stands : (bytes : List ℕ) → Old bytes → New (bytes ++ fed)

pub FedSoFar-none : (piece : List ℕ) (Old : List ℕ → Type 0) → FedSoFar piece piece Old Old
FedSoFar-none piece Old = record { fed = []; whole = refl; stands = λ bytes h. subst Old (sym (append-nil bytes)) h }

pub FedSoFar-more : (piece rest front after : List ℕ) (Old Now New : List ℕ → Type 0) → FedSoFar piece rest Old Now → rest ≡ front ++ 10 ∷ after → ((bytes : List ℕ) → Now bytes → New (bytes ++ front ++ 10 ∷ [])) → FedSoFar piece after Old New
FedSoFar-more piece rest front after Old Now New h parts step = record {
  fed = h.fed ++ front ++ 10 ∷ [];
  whole = h.whole ∙ ap (λ (xs : List ℕ). h.fed ++ xs) parts ∙ sym (append_assoc h.fed front (10 ∷ after)) ∙ sym (append_assoc (h.fed ++ front) (10 ∷ []) after);
  stands = λ bytes old. subst New (ap (λ (xs : List ℕ). xs ++ 10 ∷ []) (append_assoc bytes h.fed front) ∙ append_assoc bytes (h.fed ++ front) (10 ∷ [])) (step (bytes ++ h.fed) (h.stands bytes old));
}

pub FedSoFar-all : (piece rest : List ℕ) (Old Now New : List ℕ → Type 0) → FedSoFar piece rest Old Now → ((bytes : List ℕ) → Now bytes → New (bytes ++ rest)) → (bytes : List ℕ) → Old bytes → New (bytes ++ piece)
FedSoFar-all piece rest Old Now New h last bytes old = subst New (append_assoc bytes h.fed rest ∙ ap (λ (xs : List ℕ). bytes ++ xs) (sym h.whole)) (last (bytes ++ h.fed) (h.stands bytes old))

-- a line has no LF
pub plain-first : (text front : List ℕ) (others : List (List ℕ)) → lines_of text ≡ front ∷ others → Lacks 10 front
plain-first text front others is = All-head (Lacks 10) front others (subst (λ (lines : List (List ℕ)). All (Lacks 10) lines) is (pieces_of-each_lacks 10 text))

-- the facts known within a piece, where the sink is fixed or not as it was, and has the setting that it had
pub record Feeds {Setting : Type 0} (old new : Stage) (was is : Bool) (had has : Setting) (So : Type 0) : Type 0 where
  pub so_far : So
  pub spent : StaysFailed old new
  pub fixed : is ≡ was
  pub setting : has ≡ had
  pub calm : StaysCalm was old new

-- ---- the line that is begun

-- no line is begun
pub holds_none : (stage : Stage) (room : ℕ) (begun : LineBegun) → Begins begun [] → begun.long ≡ None → (stage ≡ stages.Rows → begun.room ≡ room) → HoldsLine stage room begun []
holds_none (stages.Header part) room begun begins whole same = (begins, whole)
holds_none stages.Rows room begun begins whole same = (begins, same refl)
holds_none (stages.Failed fault) room begun begins whole same = tt

-- a line that is not begun is not long
pub not_long : (begun : LineBegun) → Begins begun [] → begun.long ≡ None
not_long begun h = by_long begun.long h.so_far
  where
    by_long : (long : Option RowForm) → IsSoFar long begun.room begun.kept.items [] → long ≡ None
    by_long None is = refl
    by_long (Some form) is = absurd (let past = is.long in omega arith)

-- ---- memory

-- an error of the text is no want of memory
pub not_memory : {A : Type 0} (result : Result A TraceFault) → IfErr result (λ e. IsSome (fault_in e)) → result ≡ Err Memory → ⊥
not_memory result calm is = let some : IsSome (fault_in Memory) = IfErr-at_err (λ (e : TraceFault). IsSome (fault_in e)) is calm in absurd cc

spent_or_past : (fault : TraceFault) → (stages.Failed fault ≡ stages.Failed Memory) ⊎ (is_past_header (stages.Failed fault) ≡ true)
spent_or_past (BadHeader line) = inr refl
spent_or_past TooManyCycles = inr refl
spent_or_past (BadRow line) = inr refl
spent_or_past (WrongSignals line) = inr refl
spent_or_past (RowsMissing want got) = inr refl
spent_or_past (RowsLeft line) = inr refl
spent_or_past Memory = inl refl

-- where the bytes hold a header and a line after it, the header is read
pub past_header : {K : Type 0} (stands : K → Option TraceText → Type 0) (sink : K) (text : TextRead) (stage : Stage) (line bytes : List ℕ) → StandsAt stands sink text stage line bytes → HoldsHeader bytes
    → (stage ≡ stages.Failed Memory) ⊎ (is_past_header stage ≡ true)
past_header stands sink text (stages.Header part) line bytes h held = absurd (not_in_header part h.2)
  where
    not_in_header : (part : HeaderPart) → OpensAt text part line bytes → ⊥
    not_in_header parts.Title opens = none_held bytes line h.1 header_start_of opens.1 (BadHeader 1) (header_start_of-one line) held
    not_in_header parts.Cycles opens = none_held bytes line h.1 (header_start_after text.version) opens.1 (BadHeader 2) (header_start_after-one text.version line) held
    not_in_header parts.Heads opens = past-Heads bytes line h.1 text.version text.cycles text.heads text.paths opens held
past_header stands sink text stages.Rows line bytes h held = inr refl
past_header stands sink text (stages.Failed fault) line bytes h held = spent_or_past fault

-- memory that runs out where the header is read ran out before
pub spent_before : (old new : Stage) → (old ≡ stages.Failed Memory) ⊎ (is_past_header old ≡ true) → (is_past_header old ≡ true → is_past_header new ≡ true) → new ≡ stages.Failed Memory → old ≡ stages.Failed Memory
spent_before old new (inl spent) calm is = spent
spent_before old new (inr past) calm is =
    let now : is_past_header (stages.Failed Memory) ≡ true = subst (λ (s : Stage). is_past_header s ≡ true) is (calm past) in
    absurd cc
