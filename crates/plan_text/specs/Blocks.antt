-- The blocks of a plan's text, one for a stream (this project's own): a line `stream PATH`, and then each at most once and in this order
-- the lines `gaps`, `ready`, `wishes` and `users`. Each of these has a word at least, so a list without elements is a line that is not
-- there.
use Rattle.std.specs.Prelude.{ℕ, zero, suc, Bool, ◌==◌, ◌&&◌, nat_eq, if◌then◌else◌, List, [], ◌∷◌, length, map, drop, replicate, true, Option, Some, None, Result, Ok, Err, codes}
use Rattle.std.specs.List.{starts_with}
use Rattle.std.specs.Option.{is_some}
use Rattle.tydi_base.specs.Path.{path_of}
use Rattle.tydi_base.specs.Pieces.{words_of}
use Rattle.tydi_base.specs.Reading.{◌>>=◌, or_fault}
use Rattle.tydi_base.specs.declared.place.Place.{Place}
use Rattle.physical_stream.specs.Params.{Parameters}
use Rattle.type_split.specs.Streams.{is_same_path}
use Rattle.type_split.specs.declared.split.Phys.{Phys}
use Rattle.plan_text.specs.declared.block.Block.{Block}
use Rattle.plan_text.specs.declared.fault.PlanFault.{PlanFault}
use Rattle.plan_text.specs.declared.fault.PlanFault.TheVariants.{Syntax, UnknownStream, StreamTwice}
use Rattle.plan_text.specs.declared.plan.StreamPlan.{StreamPlan}
use Rattle.plan_text.specs.Lines.{TextLine}
use Rattle.plan_text.specs.Words.{each, gap_of, ready_of, wishes_of, users_of}

abbrev pub is_empty : {A : Type 0} → List A → Bool
is_empty items = length items == 0

-- ---- the first line of a block

-- the number and the parameters of the first stream of this path; the first stream has this number
abbrev pub find_stream : List (List ℕ) → ℕ → List Phys → Option (ℕ × Parameters)
find_stream path number [] = None
find_stream path number (stream ∷ streams) = if is_same_path stream.path path then Some (number, stream.params) else find_stream path (suc number) streams

-- the plan in the block of the stream of this number, where it has one; the last block comes first
abbrev pub block_of : ℕ → List Block → Option StreamPlan
block_of number [] = None
block_of number (block ∷ before) = if block.number == number then Some block.plan else block_of number before

-- the plan of a block without lines
abbrev pub empty_plan : StreamPlan
empty_plan = record { gaps = []; ready = []; wishes = []; users = [] }

-- the block of a stream, where it has none among these
abbrev pub new_block : Place → List Block → ℕ × Parameters → Result Block PlanFault
new_block place found stream = if is_some (block_of stream.0 found) then Err (StreamTwice place) else Ok (record { number = stream.0; params = stream.1; plan = empty_plan })

-- the block that a line `stream` with this text begins
unfoldable pub begun_by : Place → List Phys → List Block → List ℕ → Result Block PlanFault
begun_by place streams found text = do
  path ← or_fault (Syntax place) (path_of text)
  stream ← or_fault (UnknownStream place) (find_stream path 0 streams)
  new_block place found stream

-- the blocks with the one that a line `stream` with this text begins
unfoldable pub with_begun : Place → List Phys → List Block → List ℕ → Result (List Block) PlanFault
with_begun place streams found text = begun_by place streams found text >>= λ block. Ok (block ∷ found)

-- ---- the other lines

-- a line `gaps` with these words
unfoldable pub with_gaps : Place → List ℕ → StreamPlan → Result StreamPlan PlanFault
with_gaps place text plan =
    if is_empty plan.gaps && is_empty plan.ready && is_empty plan.wishes && is_empty plan.users
    then (each (gap_of place) (words_of text) >>= λ gaps. Ok (record { gaps = gaps; ready = plan.ready; wishes = plan.wishes; users = plan.users }))
    else Err (Syntax place)

-- a line `ready` with this word
unfoldable pub with_ready : Place → ℕ → List ℕ → StreamPlan → Result StreamPlan PlanFault
with_ready place cycles word plan =
    if is_empty plan.ready && is_empty plan.wishes && is_empty plan.users
    then (ready_of place cycles word >>= λ ready. Ok (record { gaps = plan.gaps; ready = ready; wishes = plan.wishes; users = plan.users }))
    else Err (Syntax place)

-- a line `wishes` with these words
unfoldable pub with_wishes : Place → ℕ → List ℕ → StreamPlan → Result StreamPlan PlanFault
with_wishes place lanes text plan =
    if is_empty plan.wishes && is_empty plan.users
    then (wishes_of place lanes (words_of text) >>= λ wishes. Ok (record { gaps = plan.gaps; ready = plan.ready; wishes = wishes; users = plan.users }))
    else Err (Syntax place)

-- a line `users` with these words
unfoldable pub with_users : Place → ℕ → List ℕ → StreamPlan → Result StreamPlan PlanFault
with_users place width text plan =
    if is_empty plan.users
    then (users_of place width (words_of text) >>= λ users. Ok (record { gaps = plan.gaps; ready = plan.ready; wishes = plan.wishes; users = users }))
    else Err (Syntax place)

-- a plan with one line more, which is none of a `stream`
unfoldable pub with_line : Place → ℕ → Parameters → List ℕ → StreamPlan → Result StreamPlan PlanFault
with_line place cycles p line plan =
    if starts_with nat_eq line (codes "gaps ") then with_gaps place (drop 5 line) plan
    else (if starts_with nat_eq line (codes "ready ") then with_ready place cycles (drop 6 line) plan
    else (if starts_with nat_eq line (codes "wishes ") then with_wishes place p.lanes (drop 7 line) plan
    else (if starts_with nat_eq line (codes "users ") then with_users place p.user (drop 6 line) plan
    else Err (Syntax place))))

-- the open block, which is the first of these, with one line more
unfoldable pub in_block : ℕ → TextLine → List Block → Result (List Block) PlanFault
in_block cycles line [] = Err (Syntax line.place)
in_block cycles line (block ∷ before) =
    with_line line.place cycles block.params line.bytes block.plan >>= λ plan. Ok (record { number = block.number; params = block.params; plan = plan } ∷ before)

-- the blocks with one line more
unfoldable pub with_more : ℕ → List Phys → TextLine → List Block → Result (List Block) PlanFault
with_more cycles streams line found =
    if starts_with nat_eq line.bytes (codes "stream ") then with_begun line.place streams found (drop 7 line.bytes)
    else in_block cycles line found

-- the blocks with these lines more
abbrev pub blocks_of : ℕ → List Phys → List Block → List TextLine → Result (List Block) PlanFault
blocks_of cycles streams found [] = Ok found
blocks_of cycles streams found (line ∷ lines) = with_more cycles streams line found >>= λ more. blocks_of cycles streams more lines

-- ---- the plans of all streams

-- the blocks of so many streams, from this number on, each where it is there
abbrev pub blocks_from : ℕ → ℕ → List Block → List (Option StreamPlan)
blocks_from number zero found = []
blocks_from number (suc count) found = block_of number found ∷ blocks_from (suc number) count found

-- the ready bits of a plan: all ones where it has no line `ready`
abbrev pub ready_in : ℕ → List Bool → List Bool
ready_in cycles ready = if is_empty ready then replicate cycles true else ready

abbrev pub filled_plan : ℕ → StreamPlan → StreamPlan
filled_plan cycles plan = record { gaps = plan.gaps; ready = ready_in cycles plan.ready; wishes = plan.wishes; users = plan.users }

-- the plan of a stream, where it has a block and where it has none
abbrev pub plan_in : ℕ → Option StreamPlan → StreamPlan
plan_in cycles None = filled_plan cycles empty_plan
plan_in cycles (Some plan) = filled_plan cycles plan

-- the plans of so many streams
abbrev pub plans_of : ℕ → ℕ → List Block → List StreamPlan
plans_of cycles count found = map (plan_in cycles) (blocks_from 0 count found)

-- the plans that these lines spell for streams
unfoldable pub read_plans : ℕ → List Phys → List TextLine → Result (List StreamPlan) PlanFault
read_plans cycles streams lines = blocks_of cycles streams [] lines >>= λ found. Ok (plans_of cycles (length streams) found)
