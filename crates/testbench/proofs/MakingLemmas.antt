-- The steps in which a bench is made.
use Rattle.std.proofs.Common.{◌≡◌, ◌∙◌, ℕ, zero, suc, ◌+◌, ◌<◌, ◌≤◌, List, [], ◌∷◌, ◌++◌, length, map, drop, get_or, Option, None, Some, refl, sym, ap, arith}
use Rattle.std.specs.List.{All}
use Rattle.std.proofs.lemmas.List.{append_assoc, drop_more}
use Rattle.physical_stream.specs.Signals.{Fits}
use Rattle.physical_stream.specs.declared.head.Head.{Head}
use Rattle.physical_stream.specs.declared.transfer.Transfer.{Transfer}
use Rattle.type_split.specs.Nodes.{StreamNode, nodes_of, outermost_place}
use Rattle.type_split.specs.Streams.{IsPortSplit, PlainSplit, gathered, stream_at, stream_in}
use Rattle.type_split.specs.declared.split.Phys.{Phys}
use Rattle.type_split.proofs.CountLemmas.{nodes_in-length, streams-few}
use Rattle.plan_text.specs.declared.plan.StreamPlan.{StreamPlan}
use Rattle.plan_text.specs.Laws.{FitEach}
use Rattle.vhdl_text.specs.declared.bench.Stmt.{Stmt}
use Rattle.vhdl_text.specs.declared.bench.Bench.{Bench}
use Rattle.testbench.specs.Driving.{Driven, driving, process_from, processes_from}
use Rattle.testbench.specs.Given.{FitLists, driven_by, head_of}

next-is : (n : ℕ) → n + 1 ≡ suc n
next-is n = omega arith

-- ---- the streams, their lists and their plans

pub lists-long : (streams : List Phys) (lists : List (List Transfer)) → FitLists streams lists → length lists ≡ length streams
lists-long [] [] fit = refl
lists-long [] (transfers ∷ lists) fit = absurd fit
lists-long (stream ∷ streams) [] fit = absurd fit
lists-long (stream ∷ streams) (transfers ∷ lists) fit = ap suc (lists-long streams lists fit.1)

pub plans-long : (cycles : ℕ) (streams : List Phys) (plans : List StreamPlan) → FitEach cycles streams plans → length plans ≡ length streams
plans-long cycles [] [] fit = refl
plans-long cycles [] (plan ∷ plans) fit = absurd fit
plans-long cycles (stream ∷ streams) [] fit = absurd fit
plans-long cycles (stream ∷ streams) (plan ∷ plans) fit = ap suc (plans-long cycles streams plans fit.1)

pub fits-there : (streams : List Phys) (lists : List (List Transfer)) (n : ℕ) (stream : Phys) (list slice : List Transfer) → FitLists streams lists → n < length streams → slice ≡ get_or lists n list
    → All (Fits (get_or streams n stream).params) slice
fits-there streams lists n stream list slice fit within is = rw is (there streams lists n fit within)
  where
    there : (some : List Phys) (others : List (List Transfer)) (m : ℕ) → FitLists some others → m < length some → All (Fits (get_or some m stream).params) (get_or others m list)
    there [] others m fit within = absurd (omega (arith, within))
    there (one ∷ some) [] m fit within = absurd fit
    there (one ∷ some) (other ∷ others) zero fit within = fit.0
    there (one ∷ some) (other ∷ others) (suc m) fit within = there some others m fit.1 (omega (arith, within))

-- ---- the processes

module _ (streams : List Phys) (lists : List (List Transfer)) (plans : List StreamPlan) (all : List (List Stmt)) (n : ℕ) where
  -- one more process is made
  pub processes-next : (one : Phys) (list slice : List Transfer) (plan : StreamPlan) (gaps : List ℕ) (process : List Stmt) (made new : List (List Stmt))
      → n < length streams → length lists ≡ length streams → length plans ≡ length streams → slice ≡ get_or lists n list → gaps ≡ (get_or plans n plan).gaps
      → process ≡ process_from (get_or streams n one).params n slice gaps 0 slice → new ≡ made ++ process ∷ []
      → made ++ processes_from n (driven_by (drop n streams) (drop n lists) (drop n plans)) ≡ all
      → new ++ processes_from (n + 1) (driven_by (drop (n + 1) streams) (drop (n + 1) lists) (drop (n + 1) plans)) ≡ all
  processes-next one list slice plan gaps process made new within lists_long plans_long slice_is gaps_are is added before =
      let rest : List Driven = driven_by (drop (n + 1) streams) (drop (n + 1) lists) (drop (n + 1) plans) in
      let streams_are = drop_more streams n one within in
      let lists_are = drop_more lists n list (omega (arith, within, lists_long)) in
      let plans_are = drop_more plans n plan (omega (arith, within, plans_long)) in
      let process_is : process ≡ process_from (get_or streams n one).params n (get_or lists n list) (get_or plans n plan).gaps 0 (get_or lists n list) =
      is ∙ ap (λ (l : List Transfer). process_from (get_or streams n one).params n l gaps 0 l) slice_is
      ∙ ap (λ (l : List ℕ). process_from (get_or streams n one).params n (get_or lists n list) l 0 (get_or lists n list)) gaps_are in
      let here : processes_from n (driven_by (drop n streams) (drop n lists) (drop n plans)) ≡ process ∷ processes_from (suc n) rest =
      rw (streams_are, lists_are, plans_are, process_is) refl in
      ap (λ (number : ℕ). new ++ processes_from number rest) (next-is n)
      ∙ ap (λ (l : List (List Stmt)). l ++ processes_from (suc n) rest) added
      ∙ append_assoc made (process ∷ []) (processes_from (suc n) rest)
      ∙ ap (λ (l : List (List Stmt)). made ++ l) (sym here)
      ∙ before

-- ---- the bench

-- a stream for some of the nodes
gathered-few : (number : ℕ) (nodes : List StreamNode) → length (gathered stream_at number nodes) ≤ length nodes
gathered-few number [] = omega arith
gathered-few number (node ∷ more) = by node.phys (gathered-few (suc number) more)
  where
    by : (phys : Option ℕ) → length (gathered stream_at (suc number) more) ≤ length more → length (stream_in number node phys ++ gathered stream_at (suc number) more) ≤ suc (length more)
    by None few = omega (arith, few)
    by (Some phys) few = omega (arith, few)

pub split-few : (split : PlainSplit) (slice : List Phys) → IsPortSplit split → slice ≡ split.streams → length slice ≤ 65536
split-few split slice port is =
    let streams_are : length slice ≡ length (gathered stream_at 0 (nodes_of port.ltype)) = ap length (is ∙ ap (λ (s : PlainSplit). s.streams) port.is) in
    let few = gathered-few 0 (nodes_of port.ltype) in
    let nodes = nodes_in-length [] outermost_place 0 0 port.ltype in
    omega (arith, streams_are, few, nodes, streams-few port.ltype, port.few)

pub heads-driven : (streams : List Phys) (lists : List (List Transfer)) (plans : List StreamPlan) → length lists ≡ length streams → length plans ≡ length streams
    → map (λ (d : Driven). d.head) (driven_by streams lists plans) ≡ map head_of streams
heads-driven [] lists plans lists_long plans_long = refl
heads-driven (stream ∷ streams) [] plans lists_long plans_long = cc
heads-driven (stream ∷ streams) (transfers ∷ lists) [] lists_long plans_long = cc
heads-driven (stream ∷ streams) (transfers ∷ lists) (plan ∷ plans) lists_long plans_long =
    ap (λ (l : List Head). head_of stream ∷ l) (heads-driven streams lists plans (omega (arith, lists_long)) (omega (arith, plans_long)))

pub bench-made : (streams slice : List Phys) (lists : List (List Transfer)) (plans some : List StreamPlan) (heads : List Head) (procs : List (List Stmt))
    → length lists ≡ length streams → length plans ≡ length streams → slice ≡ streams → some ≡ plans → heads ≡ map head_of slice → procs ≡ processes_from 0 (driven_by slice lists some)
    → ◌≡◌ {A = Bench} (record { heads = heads; procs = procs }) (driving (driven_by streams lists plans))
bench-made streams slice lists plans some heads procs lists_long plans_long slice_is some_is heads_are procs_are =
    let left : heads ≡ map (λ (d : Driven). d.head) (driven_by streams lists plans) = heads_are ∙ ap (λ (l : List Phys). map head_of l) slice_is ∙ sym (heads-driven streams lists plans lists_long plans_long) in
    let right : procs ≡ processes_from 0 (driven_by streams lists plans) =
    procs_are ∙ ap (λ (l : List Phys). processes_from 0 (driven_by l lists some)) slice_is ∙ ap (λ (l : List StreamPlan). processes_from 0 (driven_by streams lists l)) some_is in
    rw (left, right) refl
