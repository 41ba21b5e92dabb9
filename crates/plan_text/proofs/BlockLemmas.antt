-- The blocks of a text, by the numbers of their streams.
use Rattle.std.proofs.Common.{◌≡◌, ◌∙◌, ◌<◌, ℕ, zero, suc, ◌+◌, true, false, eqb, List, [], ◌∷◌, ◌++◌, length, get_or, slice_set, Option, Some, None, Result, Ok, Err, IfSome, refl, ap, sym, subst, arith}
use Rattle.std.proofs.lemmas.Bool.Decides.{nat_tests}
use Rattle.plan_text.specs.declared.block.Block.{Block}
use Rattle.plan_text.specs.declared.draft.Draft.{Draft}
use Rattle.plan_text.specs.declared.plan.StreamPlan.{StreamPlan}
use Rattle.std.specs.Prelude.{MatchOption}
use Rattle.type_split.specs.declared.split.Phys.{Phys}
use Rattle.tydi_base.specs.Reading.{Gives}
use Rattle.tydi_base.proofs.ReadingLaws.{bind-at_ok, fails_then}
use Rattle.plan_text.specs.declared.fault.PlanFault.{PlanFault}
use Rattle.plan_text.specs.declared.fault.PlanFault.TheVariants.{Syntax}
use Rattle.plan_text.specs.Blocks.{block_of, blocks_from, blocks_of, in_block, plans_of, read_plans, with_line, with_more}
use Rattle.plan_text.specs.Draft.{Adds, Holds, IsOpened, Keeps}
use Rattle.plan_text.specs.Faults.{fault_in}
use Rattle.plan_text.specs.Lines.{TextLine}

pub blocks_from-length : (number count : ℕ) (found : List Block) → length (blocks_from number count found) ≡ count
blocks_from-length number zero found = refl
blocks_from-length number (suc count) found = ap suc (blocks_from-length (suc number) count found)

-- one stream more, of which none has a block
pub blocks_from-more : (number count : ℕ) → blocks_from number count [] ++ None ∷ [] ≡ blocks_from number (suc count) []
blocks_from-more number zero = refl
blocks_from-more number (suc count) = ap (λ (blocks : List (Option StreamPlan)). None ∷ blocks) (blocks_from-more (suc number) count)

pub blocks_from-get : (number i count at : ℕ) (found : List Block) (other : Option StreamPlan) → i < count → at ≡ number + i → get_or (blocks_from number count found) i other ≡ block_of at found
blocks_from-get number i zero at found other within is = absurd (omega arith)
blocks_from-get number zero (suc count) at found other within is = let same : at ≡ number = omega (arith, is) in rw same refl
blocks_from-get number (suc i) (suc count) at found other within is = blocks_from-get (suc number) i count at found other (omega arith) (omega (arith, is))

-- a block more changes nothing for the streams after its own
blocks_from-after : (number count : ℕ) (block : Block) (found : List Block) → block.number < number → blocks_from number count (block ∷ found) ≡ blocks_from number count found
blocks_from-after number zero block found before = refl
blocks_from-after number (suc count) block found before =
    let other : eqb block.number number ≡ false = grind (arith, nat_tests) in
    let rest = blocks_from-after (suc number) count block found (omega arith) in
    rw (other, rest) refl

-- a block more stands in the place of its stream
pub blocks_from-set : (number i count : ℕ) (block : Block) (found : List Block) → i < count → block.number ≡ number + i
    → slice_set (blocks_from number count found) i (Some block.plan) ≡ blocks_from number count (block ∷ found)
blocks_from-set number i zero block found within is = absurd (omega arith)
blocks_from-set number zero (suc count) block found within is =
    let same : eqb block.number number ≡ true = grind (arith, nat_tests) in
    let rest = blocks_from-after (suc number) count block found (omega (arith, is)) in
    rw (same, rest) refl
blocks_from-set number (suc i) (suc count) block found within is =
    let other : eqb block.number number ≡ false = grind (arith, nat_tests) in
    let rest = blocks_from-set (suc number) i count block found (omega arith) (omega (arith, is)) in
    rw (other, ← rest) refl

-- ---- what a draft keeps

-- the open block has a place
pub current-within : (draft : Draft) (found : List Block) (chosen : Option Block) (block : Block) → Holds draft found → draft.current ≡ chosen → chosen ≡ Some block → block.number < length draft.blocks.items
current-within draft found chosen block holds is some =
    let within : block.number < length draft.streams.list.now = subst (λ o. IfSome o (λ b. b.number < length draft.streams.list.now)) (is ∙ some) holds.within in
    rw (holds.blocks, blocks_from-length 0 (length draft.streams.list.now) holds.before) within

-- with the open block in its place all blocks are kept
pub current-put : (draft : Draft) (found : List Block) (chosen : Option Block) (block : Block) → Holds draft found → draft.current ≡ chosen → chosen ≡ Some block
    → slice_set draft.blocks.items block.number (Some block.plan) ≡ blocks_from 0 (length draft.streams.list.now) found
current-put draft found chosen block holds is some =
    let within : block.number < length draft.streams.list.now = subst (λ o. IfSome o (λ b. b.number < length draft.streams.list.now)) (is ∙ some) holds.within in
    let first : found ≡ block ∷ holds.before = subst (λ o. IsOpened o holds.before found) (is ∙ some) holds.opened in
    rw (holds.blocks, first) (blocks_from-set 0 block.number (length draft.streams.list.now) block holds.before within (omega arith))

-- ---- a line more

-- the open block with a line more, which gave this plan
pub Adds-line : (draft : Draft) (found : List Block) (block : Block) (plan : StreamPlan) (cycles : ℕ) (line : TextLine) (result : Result (Unit {0}) PlanFault) → Holds draft found → draft.current ≡ Some block
    → Gives fault_in (λ fine. plan) result (with_line line.place cycles block.params line.bytes block.plan)
    → Adds result (record { streams = draft.streams; blocks = draft.blocks; current = Some (record { number = block.number; params = block.params; plan = plan }) }) (in_block cycles line found)
unfolding in_block
Adds-line draft found block plan cycles line result holds some gives =
    let first : found ≡ block ∷ holds.before = subst (λ o. IsOpened o holds.before found) some holds.opened in
    let within : block.number < length draft.streams.list.now = subst (λ o. IfSome o (λ b. b.number < length draft.streams.list.now)) some holds.within in
    rw first (by_result result gives within)
  where
    by_result : (r : Result (Unit {0}) PlanFault) → Gives fault_in (λ fine. plan) r (with_line line.place cycles block.params line.bytes block.plan) → block.number < length draft.streams.list.now
        → Adds r (record { streams = draft.streams; blocks = draft.blocks; current = Some (record { number = block.number; params = block.params; plan = plan }) }) (in_block cycles line (block ∷ holds.before))
    by_result (Ok fine) read within = (
      record { number = block.number; params = block.params; plan = plan } ∷ holds.before,
      bind-at_ok (with_line line.place cycles block.params line.bytes block.plan) _ plan read,
      record { before = holds.before; blocks = holds.blocks; opened = refl; within = within },
    )
    by_result (Err fault) read within = fails_then (fault_in fault) (with_line line.place cycles block.params line.bytes block.plan) _ read

-- no block is open
pub in_block-none : (draft : Draft) (found : List Block) (cycles : ℕ) (line : TextLine) → Holds draft found → draft.current ≡ None → in_block cycles line found ≡ Err (Syntax line.place)
unfolding in_block
in_block-none draft found cycles line holds none =
    let empty : (holds.before ≡ []) × (found ≡ []) = subst (λ o. IsOpened o holds.before found) none holds.opened in
    rw empty.1 refl

-- a block more, which is open then
pub Holds-begun : (kept draft : Draft) (found : List Block) (block : Block) → Keeps kept found → draft.blocks ≡ kept.blocks → draft.streams.list.now ≡ kept.streams.list.now → draft.current ≡ Some block → block.number < length kept.streams.list.now
    → Holds draft (block ∷ found)
Holds-begun kept draft found block keeps blocks streams some within = record {
  before = found;
  blocks = rw (blocks, streams) keeps.blocks;
  opened = rw some refl;
  within = rw (some, streams) within;
}

-- ---- all lines

-- the first line that is left has a fault
pub read_plans-stops : (cycles : ℕ) (streams mine : List Phys) (found : List Block) (lines rest all : List TextLine) (line : TextLine) (fault : PlanFault)
    → mine ≡ streams → blocks_of cycles streams found lines ≡ blocks_of cycles streams [] all → lines ≡ line ∷ rest
    → MatchOption (fault_in fault) (Unit {0}) (λ d. with_more cycles mine line found ≡ Err d) → MatchOption (fault_in fault) (Unit {0}) (λ d. read_plans cycles streams all ≡ Err d)
unfolding read_plans
read_plans-stops cycles streams mine found lines rest all line fault same goes first fails =
    let here : MatchOption (fault_in fault) (Unit {0}) (λ d. with_more cycles streams line found ≡ Err d) = subst (λ s. MatchOption (fault_in fault) (Unit {0}) (λ d. with_more cycles s line found ≡ Err d)) same fails in
    let stops : MatchOption (fault_in fault) (Unit {0}) (λ d. blocks_of cycles streams found (line ∷ rest) ≡ Err d) = fails_then (fault_in fault) (with_more cycles streams line found) _ here in
    let whole : blocks_of cycles streams found (line ∷ rest) ≡ blocks_of cycles streams [] all = ap (blocks_of cycles streams found) (sym first) ∙ goes in
    fails_then (fault_in fault) (blocks_of cycles streams [] all) _ (subst (λ read. MatchOption (fault_in fault) (Unit {0}) (λ d. read ≡ Err d)) whole stops)

-- no line is left
pub read_plans-done : (cycles : ℕ) (streams : List Phys) (found : List Block) (lines all : List TextLine) (plans : List StreamPlan)
    → blocks_of cycles streams found lines ≡ blocks_of cycles streams [] all → lines ≡ [] → plans ≡ plans_of cycles (length streams) found → read_plans cycles streams all ≡ Ok plans
unfolding read_plans
read_plans-done cycles streams found lines all plans goes none is =
    let whole : blocks_of cycles streams [] all ≡ Ok found = sym goes ∙ ap (blocks_of cycles streams found) none in
    rw (whole, is) refl
