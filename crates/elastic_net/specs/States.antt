-- The state of a chain of stages, and what a component does (this project's own).
use Rattle.std.specs.Prelude.{ℕ, zero, suc, ◌+◌, ◌==◌, ◌&&◌, Bool, true, nat_lt, nat_le, if◌then◌else◌, List, [], ◌∷◌, length, slice_index, replicate, Option, None, Some, is_some}
use Rattle.physical_stream.specs.Params.{Parameters}
use Rattle.physical_stream.specs.declared.transfer.Transfer.{Transfer}
use Rattle.handshake.specs.Run.{gap_of}
use Rattle.elastic_net.specs.Orders.{count_from, how_many}

-- the state of a chain: the number of each transfer, in their order (0 is not yet sent, i is in stage i, one more than the stages is at the
-- sink); the cycle that runs; the components that acted in it; 0 until a transfer is sent, and then 1 plus the cycle of the last one that
-- was sent; and what the last component showed when it acted last
pub record ChainState : Type 0 where
  pub numbers : List ℕ
  pub cycle : ℕ
  pub acted : List ℕ
  pub start : ℕ
  pub shown : Option Transfer

-- a chain before its first cycle: no transfer is sent
abbrev pub first_state : List Transfer → ChainState
first_state ts = record { numbers = replicate (length ts) 0; cycle = 0; acted = []; start = 0; shown = None }

-- how many transfers a component has moved on: those with a greater number than its own
abbrev pub beyond : ℕ → List ℕ → ℕ
beyond component [] = 0
beyond component (n ∷ numbers) = if nat_lt component n then suc (beyond component numbers) else beyond component numbers

-- the first transfer of this number
abbrev pub first_of : ℕ → List Transfer → List ℕ → Option Transfer
first_of number [] numbers = None
first_of number (t ∷ ts) [] = None
first_of number (t ∷ ts) (n ∷ numbers) = if n == number then Some t else first_of number ts numbers

-- the numbers once the first transfer of this number has moved on
abbrev pub moved_on : ℕ → List ℕ → List ℕ
moved_on number [] = []
moved_on number (n ∷ numbers) = if n == number then suc n ∷ numbers else n ∷ moved_on number numbers

-- a component has acted in the cycle that runs
abbrev pub has_acted : ℕ → ChainState → Bool
has_acted component s = nat_lt 0 (how_many component s.acted)

-- each of these components has
abbrev pub have_acted : List ℕ → ChainState → Bool
have_acted [] s = true
have_acted (component ∷ more) s = has_acted component s && have_acted more s

-- the next cycle: no component has acted in it
abbrev pub next_cycle_of : ChainState → ChainState
next_cycle_of s = record { numbers = s.numbers; cycle = suc s.cycle; acted = []; start = s.start; shown = s.shown }

-- the place behind a component has room: a stage that holds fewer transfers than its capacity, and the sink where it is ready
abbrev pub has_room : (stages : List ℕ) → (component : ℕ) → (ready : Bool) → ChainState → Bool
has_room stages component ready s = if nat_lt component (length stages) then nat_lt (how_many (suc component) s.numbers) (slice_index stages component) else ready

-- the next cycle begins once all components have acted
abbrev pub turned : (stages : List ℕ) → ChainState → ChainState
turned stages s = if have_acted (count_from 0 (suc (length stages))) s then next_cycle_of s else s

module _ (p : Parameters) (ts : List Transfer) (gaps : List ℕ) (stages : List ℕ) where
  -- the source shows the first transfer that is not sent once the transfer's effective gap has passed since the last one was sent
  abbrev pub is_due : ChainState → Bool
  is_due s = nat_le (s.start + gap_of p ts gaps (beyond 0 s.numbers)) s.cycle

  -- what a component shows: the source its next transfer, where that is due; a stage the first transfer in it
  abbrev pub shown_by : ℕ → ChainState → Option Transfer
  shown_by zero s = if is_due s then first_of 0 ts s.numbers else None
  shown_by (suc stage) s = first_of (suc stage) ts s.numbers

  -- a component moves what it shows, where the place behind it has room
  abbrev pub does_move : (component : ℕ) → (ready : Bool) → ChainState → Bool
  does_move component ready s = is_some (shown_by component s) && has_room stages component ready s

  -- the state once a component has acted
  abbrev pub act_of : (component : ℕ) → (ready : Bool) → ChainState → ChainState
  act_of component ready s = record {
    numbers = if does_move component ready s then moved_on component s.numbers else s.numbers;
    cycle = s.cycle;
    acted = component ∷ s.acted;
    start = if (component == 0) && does_move component ready s then suc s.cycle else s.start;
    shown = if component == length stages then shown_by component s else s.shown;
  }

  -- a step of a component: it acts, and the next cycle begins once all components have acted
  abbrev pub step_of : (component : ℕ) → (ready : Bool) → ChainState → ChainState
  step_of component ready s = turned stages (act_of component ready s)
