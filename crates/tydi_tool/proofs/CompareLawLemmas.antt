-- What `compare` says is the same shows the value, and what `drive` writes is the same.
use Rattle.std.proofs.Common.{◌≡◌, ◌∙◌, ℕ, suc, ◌+◌, List, [], ◌∷◌, length, Some, Result, Ok, codes, refl, sym, ap, subst, arith, slice_get}
use Rattle.std.proofs.lemmas.List.{length-map}
use Rattle.tydi_io.specs.Store.{Files}
use Rattle.physical_stream.specs.declared.item.Item.{Item}
use Rattle.cycle_trace.specs.Trace.{TraceText, streams_of}
use Rattle.cycle_trace.specs.TraceText as reading
use Rattle.cycle_trace.specs.declared.fault.TraceFault.{TraceFault}
use Rattle.logical_value.specs.Tree.{Tree, plain_port}
use Rattle.logical_value.specs.declared.value.PortValue.{PortValue}
use Rattle.plan_text.specs.declared.plan.Plan.{Plan}
use Rattle.port_drive.specs.Drives.{heads_of, items_on}
use Rattle.port_drive.specs.Laws.{done_on, trace_of}
use Rattle.port_drive.specs.Text.{IsDrivenText}
use Rattle.trace_compare.specs.Differences.{AreDifferences, done_by}
use Rattle.trace_compare.specs.Laws.{NoneSaidWhereSame, NoneWhereSame}
use Rattle.type_split.specs.Streams.{PlainSplit}
use Rattle.type_split.specs.declared.split.Phys.{Phys}
use Rattle.tydi_tool.specs.declared.answer.Answer.TheVariants as answers
use Rattle.tydi_tool.specs.Causes as rows
use Rattle.tydi_tool.specs.Causes.{CompareWords, DriveWords, HasCompare, IsSameText}
use Rattle.tydi_tool.specs.Commands.{Says}
use Rattle.tydi_tool.specs.CompareLaw.{DrivenTracesAreSame, SameTracesShowValues, ShownValuesAreSame, ShowsValue, WritesSame, compare_words}
use Rattle.tydi_tool.specs.Comparisons.{items_from, items_of_value}
use Rattle.tydi_tool.specs.Words.{Compare}
use Rattle.tydi_tool.proofs.CauseLemmas.{exactly, says_text}
use Rattle.tydi_tool.proofs.CommandLemmas.{SaysBy-request}
use Rattle.tydi_tool.proofs.CompareLemmas.{many-items}
use Rattle.tydi_tool.proofs.DecodeLawLemmas.{same-bytes, same-carried}
use Rattle.tydi_tool.proofs.DecodeLemmas.{many-heads}
use Rattle.tydi_tool.proofs.DriveLawLemmas.{written-driven}

same_text : (one other : List ℕ) → answers.Done one ≡ answers.Done other → one ≡ other
same_text one other e = cc

-- there is a list of expected items for each stream of a trace with the heads of the port
many-expected : (split : PlainSplit) (value : PortValue) (t : TraceText) → t.heads ≡ heads_of split → length (items_of_value split value) ≡ length (streams_of t)
many-expected split value t same = many-items split (plain_port value) 0 split.streams ∙ sym (many-heads split t same)

-- ---- what is said is the same

writes-same : NoneWhereSame → (known : Files) (words : CompareWords) (text : List ℕ) → IsSameText known words text → WritesSame known words text
writes-same none_where known words text is = record {
  split = is.split;
  value = is.value;
  t = is.t;
  all = is.all;
  shows = record {
    heads = is.same;
    items = (none_where (items_of_value is.split is.value) (streams_of is.t) (many-expected is.split is.value is.t is.same) [] is.none).0 refl;
  };
  is = is.is;
}

pub same-shows : NoneWhereSame → SameTracesShowValues
same-shows none_where known project port value trace text says =
    let cause = (exactly rows.AText known (Compare project port value trace) (answers.Done text)).0 (says, refl) in
    subst (WritesSame known (compare_words project port value trace)) (sym (same_text text cause.text cause.said))
    (writes-same none_where known (compare_words project port value trace) cause.text cause.is)

-- ---- what shows the value is said to be the same

-- no stream has a difference
are-none : NoneSaidWhereSame → (split : PlainSplit) (value : PortValue) (bytes : List ℕ) (t : TraceText) → reading.trace_of bytes ≡ Ok t → ShowsValue split value t → AreDifferences (items_of_value split value) (streams_of t) []
are-none none_said split value bytes t read shows =
    let said = (none_said split (items_of_value split value) (many-items split (plain_port value) 0 split.streams) bytes t read shows.heads).1 shows.items in
    subst (λ (one : TraceText). AreDifferences (items_of_value split value) (streams_of one) []) (same_trace said.0 t (sym said.1.0 ∙ read)) said.1.1.1
  where
    same_trace : (one other : TraceText) → ◌≡◌ {A = Result TraceText TraceFault} (Ok one) (Ok other) → one ≡ other
    same_trace one other e = cc

pub shown-same : NoneSaidWhereSame → ShownValuesAreSame
shown-same none_said known project port word trace split value t all shows a = (only, says)
  where
    is : IsSameText known (compare_words project port word trace) (codes "same\n")
    is = record { split = split; value = value; t = t; all = all; same = shows.heads; none = are-none none_said split value all.bytes t all.reads shows; is = refl }

    says : a ≡ answers.Done (codes "same\n") → Says (Some known) (Some (Compare project port word trace)) a
    says said = says_text known (Compare project port word trace) (codes "same\n") a is said

    only : Says (Some known) (Some (Compare project port word trace)) a → a ≡ answers.Done (codes "same\n")
    only said =
        SaysBy-request known (Compare project port word trace) a (answers.Done (codes "same\n")) said
        (says_text known (Compare project port word trace) (codes "same\n") (answers.Done (codes "same\n")) is refl)

-- ---- what was driven is the same

-- items that are those of each stream, the first of which has this number
all-items : (split : PlainSplit) (roots : List (List Tree)) (first : ℕ) (streams : List Phys) (done : List (List Item)) → length done ≡ length streams
    → ((i k : ℕ) (stream : Phys) (one : List Item) → k ≡ first + i → slice_get streams i ≡ Some stream → slice_get done i ≡ Some one → one ≡ items_on split roots k stream)
    → done ≡ items_from split roots first streams
all-items split roots first [] [] many each = refl
all-items split roots first [] (one ∷ done) many each = absurd (omega (arith, many))
all-items split roots first (stream ∷ streams) [] many each = absurd (omega (arith, many))
all-items split roots first (stream ∷ streams) (one ∷ done) many each =
    ap (λ (l : List Item). l ∷ done) (each 0 first stream one (omega arith) refl refl)
    ∙ ap (λ (l : List (List Item)). items_on split roots first stream ∷ l)
    (all-items split roots (suc first) streams done (omega (arith, many)) (λ i k other its is there found. each (suc i) k other its (omega (arith, is)) there found))

pub driven-shows : (split : PlainSplit) (value : PortValue) (plan : Plan) (text : List ℕ) (driven : IsDrivenText split (plain_port value) plan text) → ShowsValue split value (trace_of split plan.cycles driven.runs)
driven-shows split value plan text driven =
    let t = trace_of split plan.cycles driven.runs in
    let many : length (done_on (streams_of t)) ≡ length split.streams = length-map (streams_of t) done_by ∙ many-heads split t refl in
    record {
      heads = refl;
      items = all-items split (plain_port value) 0 split.streams (done_on (streams_of t)) many each;
    }
  where
    each : (i k : ℕ) (stream : Phys) (one : List Item) → k ≡ 0 + i → slice_get split.streams i ≡ Some stream → slice_get (done_on (streams_of (trace_of split plan.cycles driven.runs))) i ≡ Some one
        → one ≡ items_on split (plain_port value) k stream
    each i k stream one is there done = let same : i ≡ k = omega (arith, is) in driven.driven.items i stream one there done ∙ ap (λ (n : ℕ). items_on split (plain_port value) n stream) same

pub driven-same : NoneSaidWhereSame → DrivenTracesAreSame
driven-same none_said known after project port value plan trace text says same_project same_value there a =
    let both = written-driven known project port value plan text says in
    let writes = both.1 in
    shown-same none_said after project port value trace writes.split writes.value (trace_of writes.split writes.plan.cycles writes.trace.runs)
    (record {
      at = same-carried known after (record { project = project; port = port }) writes.split same_project writes.read.at;
      value_is = record {
        bytes = writes.read.value_is.bytes;
        file = same-bytes known after value 16777216 writes.read.value_is.bytes same_value writes.read.value_is.file;
        reads = writes.read.value_is.reads;
      };
      bytes = text;
      file = record { there = there; within = both.0 };
      reads = writes.trace.read;
    }) (driven-shows writes.split writes.value writes.plan text writes.trace) a
