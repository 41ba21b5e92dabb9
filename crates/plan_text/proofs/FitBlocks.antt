-- The blocks of a text keep the limits of plans, and so do the plans of all streams.
use Rattle.std.proofs.Common.{◌≡◌, ◌∙◌, ◌≤◌, ℕ, suc, ◌+◌, Bool, true, false, ◌&&◌, cond, eqb, nat_le, nat_eq, List, [], ◌∷◌, length, drop, map, replicate, Option, Some, Result, Ok, Err, codes, refl, ap, sym, subst, arith}
use Rattle.std.specs.List.{slice_get, starts_with}
use Rattle.std.specs.Option.{is_some}
use Rattle.std.proofs.lemmas.Bool.Decides.{nat_tests}
use Rattle.std.proofs.lemmas.List.{length-replicate}
use Rattle.std.proofs.lemmas.List.Elements.{All-nil}
use Rattle.tydi_base.specs.Decimal.{is_decimal, read_on}
use Rattle.tydi_base.specs.Path.{path_of}
use Rattle.tydi_base.specs.Pieces.{words_of}
use Rattle.tydi_base.specs.declared.place.Place.{Place}
use Rattle.tydi_base.specs.Reading.{◌>>=◌, or_fault}
use Rattle.tydi_base.proofs.ReadingLaws.{bind_ok, or_fault_ok}
use Rattle.physical_stream.specs.Params.{Parameters}
use Rattle.type_split.specs.Streams.{is_same_path}
use Rattle.type_split.specs.declared.split.Phys.{Phys}
use Rattle.plan_text.specs.declared.block.Block.{Block}
use Rattle.plan_text.specs.declared.fault.PlanFault.{PlanFault}
use Rattle.plan_text.specs.declared.fault.PlanFault.TheVariants.{Syntax, UnknownStream, StreamTwice, TooManyCycles}
use Rattle.plan_text.specs.declared.plan.Plan.{Plan}
use Rattle.plan_text.specs.declared.plan.StreamPlan.{StreamPlan}
use Rattle.plan_text.specs.Blocks.{begun_by, block_of, blocks_from, blocks_of, empty_plan, filled_plan, find_stream, in_block, is_empty, plan_in, plans_of, read_plans, ready_in, with_begun, with_gaps, with_line, with_more, with_ready, with_users, with_wishes}
use Rattle.plan_text.specs.Laws.{FitEach, FitsPort, FitsStream, PlansFit}
use Rattle.plan_text.specs.Lines.{TextLine, lines_in, told}
use Rattle.plan_text.specs.Text.{cycles_of, end_of, header_of, next_of, plan_in_lines, title_of}
use Rattle.plan_text.specs.Words.{each, gap_of, most_cycles, ready_of, users_of, wishes_of}
use Rattle.plan_text.proofs.FitLemmas.{each-all, gap_of-most, ready_of-length, users_of-fit, wishes_of-fit}

-- ---- the lines of a block

ready_in-length : (cycles : ℕ) (ready : List Bool) → length ready ≡ cycles → length (ready_in cycles ready) ≡ cycles
ready_in-length cycles ready is = by_test (is_empty ready)
  where
    by_test : (none : Bool) → length (cond none (replicate cycles true) ready) ≡ cycles
    by_test true = length-replicate cycles true
    by_test false = is

-- the plan keeps the limits once its ready bits are filled up
abbrev pub Fits : ℕ → Parameters → StreamPlan → Type 0
Fits cycles p plan = FitsStream cycles p (filled_plan cycles plan)

empty-fits : (cycles : ℕ) (p : Parameters) → Fits cycles p empty_plan
empty-fits cycles p = record {
  gaps = All-nil (λ gap. gap ≤ most_cycles);
  ready = length-replicate cycles true;
  wishes = All-nil _;
  users = All-nil _;
}

-- a plan with one line more, where the line may stand
added : {A : Type 0} (may_stand : Bool) (read : Result A PlanFault) (with : A → StreamPlan) (fault : PlanFault) (more : StreamPlan) → cond may_stand (read >>= λ x. Ok (with x)) (Err fault) ≡ Ok more → (x : A) × (read ≡ Ok x) × (with x ≡ more)
added true read with fault more e = let (x, some, same) = bind_ok read _ more e in (x, some, cc)
added false read with fault more e = absurd cc

with_gaps-fits : (place : Place) (cycles : ℕ) (p : Parameters) (text : List ℕ) (plan more : StreamPlan) → Fits cycles p plan → with_gaps place text plan ≡ Ok more → Fits cycles p more
unfolding with_gaps
with_gaps-fits place cycles p text plan more fits e =
    let (gaps, some, is) = added (is_empty plan.gaps && is_empty plan.ready && is_empty plan.wishes && is_empty plan.users) (each (gap_of place) (words_of text)) (λ gaps. record { gaps = gaps; ready = plan.ready; wishes = plan.wishes; users = plan.users }) (Syntax place) more e in
    rw (← is) (record { gaps = each-all (λ gap. gap ≤ most_cycles) (gap_of place) (λ word gap. gap_of-most place word gap) (words_of text) gaps some; ready = fits.ready; wishes = fits.wishes; users = fits.users })

with_ready-fits : (place : Place) (cycles : ℕ) (p : Parameters) (text : List ℕ) (plan more : StreamPlan) → Fits cycles p plan → with_ready place cycles text plan ≡ Ok more → Fits cycles p more
unfolding with_ready
with_ready-fits place cycles p text plan more fits e =
    let (ready, some, is) = added (is_empty plan.ready && is_empty plan.wishes && is_empty plan.users) (ready_of place cycles text) (λ ready. record { gaps = plan.gaps; ready = ready; wishes = plan.wishes; users = plan.users }) (Syntax place) more e in
    rw (← is) (record { gaps = fits.gaps; ready = ready_in-length cycles ready (ready_of-length place cycles text ready some); wishes = fits.wishes; users = fits.users })

with_wishes-fits : (place : Place) (cycles : ℕ) (p : Parameters) (text : List ℕ) (plan more : StreamPlan) → Fits cycles p plan → with_wishes place p.lanes text plan ≡ Ok more → Fits cycles p more
unfolding with_wishes
with_wishes-fits place cycles p text plan more fits e =
    let (wishes, some, is) = added (is_empty plan.wishes && is_empty plan.users) (wishes_of place p.lanes (words_of text)) (λ wishes. record { gaps = plan.gaps; ready = plan.ready; wishes = wishes; users = plan.users }) (Syntax place) more e in
    rw (← is) (record { gaps = fits.gaps; ready = fits.ready; wishes = wishes_of-fit place p.lanes (words_of text) wishes some; users = fits.users })

with_users-fits : (place : Place) (cycles : ℕ) (p : Parameters) (text : List ℕ) (plan more : StreamPlan) → Fits cycles p plan → with_users place p.user text plan ≡ Ok more → Fits cycles p more
unfolding with_users
with_users-fits place cycles p text plan more fits e =
    let (users, some, is) = added (is_empty plan.users) (users_of place p.user (words_of text)) (λ users. record { gaps = plan.gaps; ready = plan.ready; wishes = plan.wishes; users = users }) (Syntax place) more e in
    rw (← is) (record { gaps = fits.gaps; ready = fits.ready; wishes = fits.wishes; users = users_of-fit place p.user (words_of text) users some })

with_line-fits : (place : Place) (cycles : ℕ) (p : Parameters) (line : List ℕ) (plan more : StreamPlan) → Fits cycles p plan → with_line place cycles p line plan ≡ Ok more → Fits cycles p more
unfolding with_line
with_line-fits place cycles p line plan more fits e =
    by_tests (starts_with nat_eq line (codes "gaps ")) (starts_with nat_eq line (codes "ready ")) (starts_with nat_eq line (codes "wishes ")) (starts_with nat_eq line (codes "users ")) e
  where
    by_tests : (gaps ready wishes users : Bool)
        → cond gaps (with_gaps place (drop 5 line) plan) (cond ready (with_ready place cycles (drop 6 line) plan) (cond wishes (with_wishes place p.lanes (drop 7 line) plan) (cond users (with_users place p.user (drop 6 line) plan) (Err (Syntax place))))) ≡ Ok more
        → Fits cycles p more
    by_tests true ready wishes users read = with_gaps-fits place cycles p (drop 5 line) plan more fits read
    by_tests false true wishes users read = with_ready-fits place cycles p (drop 6 line) plan more fits read
    by_tests false false true users read = with_wishes-fits place cycles p (drop 7 line) plan more fits read
    by_tests false false false true read = with_users-fits place cycles p (drop 6 line) plan more fits read
    by_tests false false false false read = absurd cc

-- ---- blocks

-- the stream of this number has these parameters
pub record Has (streams : List Phys) (number : ℕ) (p : Parameters) : Type 0 where
  pub stream : Phys
  pub there : slice_get streams number ≡ Some stream
  pub params : stream.params ≡ p

-- each block is of a stream, and keeps its limits
abbrev pub FitAll : ℕ → List Phys → List Block → Type 0
FitAll cycles streams [] = Unit {0}
FitAll cycles streams (block ∷ before) = Has streams block.number block.params × Fits cycles block.params block.plan × FitAll cycles streams before

find_stream-has : (path : List (List ℕ)) (start : ℕ) (streams : List Phys) (number : ℕ) (p : Parameters) → find_stream path start streams ≡ Some (number, p) → (k : ℕ) × (number ≡ start + k) × Has streams k p
find_stream-has path start [] number p e = absurd cc
find_stream-has path start (stream ∷ streams) number p e = by_test (is_same_path stream.path path) e (find_stream-has path (suc start) streams number p)
  where
    by_test : (same : Bool) → cond same (Some (start, stream.params)) (find_stream path (suc start) streams) ≡ Some (number, p)
        → (find_stream path (suc start) streams ≡ Some (number, p) → (k : ℕ) × (number ≡ suc start + k) × Has streams k p) → (k : ℕ) × (number ≡ start + k) × Has (stream ∷ streams) k p
    by_test true found later =
        let pair : ◌≡◌ {A = ℕ × Parameters} (start, stream.params) (number, p) = cc in
        let first : start ≡ number = ap (λ (x : ℕ × Parameters). x.0) pair in
        (0, omega (arith, first), record { stream = stream; there = refl; params = ap (λ (x : ℕ × Parameters). x.1) pair })
    by_test false found later =
        let (k, is, has) = later found in
        (suc k, omega (arith, is), record { stream = has.stream; there = has.there; params = has.params })

begun_by-fits : (place : Place) (cycles : ℕ) (streams : List Phys) (found : List Block) (text : List ℕ) (block : Block) → begun_by place streams found text ≡ Ok block → Has streams block.number block.params × Fits cycles block.params block.plan
unfolding begun_by
begun_by-fits place cycles streams found text block e =
    let (path, spelled, rest) = bind_ok (or_fault (Syntax place) (path_of text)) _ block e in
    let (stream, known, new) = bind_ok (or_fault (UnknownStream place) (find_stream path 0 streams)) _ block rest in
    let (k, at, has) = find_stream-has path 0 streams stream.0 stream.1 (or_fault_ok (UnknownStream place) (find_stream path 0 streams) stream known) in
    by_test (is_some (block_of stream.0 found)) stream k at has new
  where
    by_test : (twice : Bool) (stream : ℕ × Parameters) (k : ℕ) → stream.0 ≡ 0 + k → Has streams k stream.1
        → cond twice (Err (StreamTwice place)) (Ok (record { number = stream.0; params = stream.1; plan = empty_plan })) ≡ Ok block → Has streams block.number block.params × Fits cycles block.params block.plan
    by_test true stream k at has new = absurd cc
    by_test false stream k at has new =
        let is : ◌≡◌ {A = Block} (record { number = stream.0; params = stream.1; plan = empty_plan }) block = cc in
        let same : k ≡ stream.0 = omega (arith, at) in
        subst (λ (b : Block). Has streams b.number b.params × Fits cycles b.params b.plan) is (subst (λ n. Has streams n stream.1) same has, empty-fits cycles stream.1)

in_block-fits : (cycles : ℕ) (streams : List Phys) (line : TextLine) (found more : List Block) → FitAll cycles streams found → in_block cycles line found ≡ Ok more → FitAll cycles streams more
unfolding in_block
in_block-fits cycles streams line [] more fits e = absurd cc
in_block-fits cycles streams line (block ∷ before) more fits e =
    let (plan, read, whole) = bind_ok (with_line line.place cycles block.params line.bytes block.plan) _ more e in
    let is : ◌≡◌ {A = List Block} (record { number = block.number; params = block.params; plan = plan } ∷ before) more = cc in
    subst (FitAll cycles streams) is (fits.0, with_line-fits line.place cycles block.params line.bytes block.plan plan fits.1 read, fits.2)

with_more-fits : (cycles : ℕ) (streams : List Phys) (line : TextLine) (found more : List Block) → FitAll cycles streams found → with_more cycles streams line found ≡ Ok more → FitAll cycles streams more
unfolding with_more with_begun
with_more-fits cycles streams line found more fits e = by_test (starts_with nat_eq line.bytes (codes "stream ")) e
  where
    by_test : (begins : Bool) → cond begins (begun_by line.place streams found (drop 7 line.bytes) >>= λ block. Ok (block ∷ found)) (in_block cycles line found) ≡ Ok more → FitAll cycles streams more
    by_test true read =
        let (block, begun, whole) = bind_ok (begun_by line.place streams found (drop 7 line.bytes)) _ more read in
        let is : block ∷ found ≡ more = cc in
        let new = begun_by-fits line.place cycles streams found (drop 7 line.bytes) block begun in
        subst (FitAll cycles streams) is (new.0, new.1, fits)
    by_test false read = in_block-fits cycles streams line found more fits read

blocks_of-fit : (cycles : ℕ) (streams : List Phys) (lines : List TextLine) (found all : List Block) → FitAll cycles streams found → blocks_of cycles streams found lines ≡ Ok all → FitAll cycles streams all
blocks_of-fit cycles streams [] found all fits e = let is : found ≡ all = cc in subst (FitAll cycles streams) is fits
blocks_of-fit cycles streams (line ∷ lines) found all fits e =
    let (more, read, rest) = bind_ok (with_more cycles streams line found) _ all e in
    blocks_of-fit cycles streams lines more all (with_more-fits cycles streams line found more fits read) rest

-- ---- the plans of all streams

-- the plan of a stream, with or without a block
plan_in-fits : (cycles : ℕ) (streams : List Phys) (found : List Block) (number : ℕ) (stream : Phys) → FitAll cycles streams found → slice_get streams number ≡ Some stream → FitsStream cycles stream.params (plan_in cycles (block_of number found))
plan_in-fits cycles streams [] number stream fits there = empty-fits cycles stream.params
plan_in-fits cycles streams (block ∷ before) number stream fits there = by_test (eqb block.number number) refl (plan_in-fits cycles streams before number stream fits.2 there)
  where
    by_test : (same : Bool) → eqb block.number number ≡ same → FitsStream cycles stream.params (plan_in cycles (block_of number before)) → FitsStream cycles stream.params (plan_in cycles (cond same (Some block.plan) (block_of number before)))
    by_test true is later =
        let here : block.number ≡ number = grind (arith, nat_tests) in
        let both : ◌≡◌ {A = Option Phys} (Some fits.0.stream) (Some stream) = sym fits.0.there ∙ ap (slice_get streams) here ∙ there in
        let one : fits.0.stream ≡ stream = cc in
        let params : block.params ≡ stream.params = sym fits.0.params ∙ ap (λ (s : Phys). s.params) one in
        subst (λ p. FitsStream cycles p (filled_plan cycles block.plan)) params fits.1
    by_test false is later = later

plans-fit : (cycles : ℕ) (found : List Block) (start : ℕ) (streams : List Phys) → ((i : ℕ) (stream : Phys) → slice_get streams i ≡ Some stream → FitsStream cycles stream.params (plan_in cycles (block_of (start + i) found)))
    → FitEach cycles streams (map (plan_in cycles) (blocks_from start (length streams) found))
plans-fit cycles found start [] fit = tt
plans-fit cycles found start (stream ∷ streams) fit =
    let first : start + 0 ≡ start = omega arith in (
      subst (λ n. FitsStream cycles stream.params (plan_in cycles (block_of n found))) first (fit 0 stream refl),
      plans-fit cycles found (suc start) streams (λ i one there. let next : start + suc i ≡ suc start + i = omega arith in subst (λ n. FitsStream cycles one.params (plan_in cycles (block_of n found))) next (fit (suc i) one there)),
    )

pub read_plans-fit : (cycles : ℕ) (streams : List Phys) (lines : List TextLine) (plans : List StreamPlan) → read_plans cycles streams lines ≡ Ok plans → FitEach cycles streams plans
unfolding read_plans
read_plans-fit cycles streams lines plans e =
    let (found, read, whole) = bind_ok (blocks_of cycles streams [] lines) _ plans e in
    let is : plans_of cycles (length streams) found ≡ plans = cc in
    let fits = blocks_of-fit cycles streams lines [] found tt read in
    subst (FitEach cycles streams) is (plans-fit cycles found 0 streams (λ i stream there. let at : i ≡ 0 + i = omega arith in subst (λ n. FitsStream cycles stream.params (plan_in cycles (block_of n found))) at (plan_in-fits cycles streams found i stream fits there)))

cycles_of-most : (line : TextLine) (cycles : ℕ) → cycles_of line ≡ Ok cycles → cycles ≤ most_cycles
unfolding cycles_of
cycles_of-most line cycles e = by_tests (starts_with nat_eq line.bytes (codes "cycles ")) (is_decimal (drop 7 line.bytes)) (nat_le (read_on 0 (drop 7 line.bytes)) most_cycles) refl e
  where
    by_tests : (begins spelled few : Bool) → nat_le (read_on 0 (drop 7 line.bytes)) most_cycles ≡ few
        → ◌≡◌ {A = Result ℕ PlanFault} (cond begins (cond spelled (cond few (Ok (read_on 0 (drop 7 line.bytes))) (Err (TooManyCycles line.place))) (Err (Syntax line.place))) (Err (Syntax line.place))) (Ok cycles) → cycles ≤ most_cycles
    by_tests true true true test read =
        let within : read_on 0 (drop 7 line.bytes) ≤ most_cycles = grind (arith, nat_tests) in
        let is : read_on 0 (drop 7 line.bytes) ≡ cycles = cc in
        omega (arith, within, is)
    by_tests true true false test read = absurd cc
    by_tests true false few test read = absurd cc
    by_tests false spelled few test read = absurd cc

-- the plan that a text spells
pub plan_of-fits : PlansFit
unfolding plan_in_lines header_of
plan_of-fits streams text plan e =
    let (header, read, rest) = bind_ok (header_of (end_of text) (told (lines_in text))) _ plan e in
    let (first, first-read, after) = bind_ok (next_of (end_of text) (told (lines_in text))) _ header read in
    let (title, title-read, after-title) = bind_ok (title_of first.0) _ header after in
    let (second, second-read, last) = bind_ok (next_of (end_of text) first.1) _ header after-title in
    let (cycles, cycles-read, whole) = bind_ok (cycles_of second.0) _ header last in
    let (plans, plans-read, made) = bind_ok (read_plans header.0 streams header.1) _ plan rest in
    let header-is : ◌≡◌ {A = ℕ × List TextLine} (cycles, second.1) header = cc in
    let same : cycles ≡ header.0 = ap (λ (h : ℕ × List TextLine). h.0) header-is in
    let few : header.0 ≤ most_cycles = let most = cycles_of-most second.0 cycles cycles-read in omega (arith, most, same) in
    let is : ◌≡◌ {A = Plan} (record { cycles = header.0; streams = plans }) plan = cc in
    subst (FitsPort streams) is (record { cycles = few; each = read_plans-fit header.0 streams header.1 plans plans-read })
