-- The items that transfers carry (Tydi specification, physical streams; the meaning of an active lane is this project's own).
use Rattle.std.specs.Prelude.{ℕ, zero, suc, ◌+◌, ◌*◌, Bool, false, ◌&&◌, ◌==◌, nat_le, if◌then◌else◌, List, [], ◌∷◌, ◌++◌, take, drop}
use Rattle.std.specs.List.{flat_map, slice_index_or}
use Rattle.std.specs.Int.{bit_at}
use Rattle.physical_stream.specs.Params.{Parameters}
use Rattle.physical_stream.specs.declared.transfer.Transfer.{Transfer}
use Rattle.physical_stream.specs.declared.item.Item.{Item}
use Rattle.physical_stream.specs.declared.item.Item.TheVariants.{Elem, Close}

-- the lists for 0, 1 and so on, up to below n, one after another
abbrev pub parts_below : {A : Type 0} → (ℕ → List A) → ℕ → List A
parts_below f zero = []
parts_below f (suc n) = parts_below f n ++ f n

-- a lane is active where its strobe bit is 1 and it lies between stai and endi
abbrev pub is_active : Transfer → ℕ → Bool
is_active t lane = (bit_at t.strb lane == 1) && (nat_le t.stai lane && nat_le lane t.endi)

-- the bits of a lane in the data signal, lane 0 lowest
abbrev pub lane_word : Parameters → Transfer → ℕ → List Bool
lane_word p t lane = take p.element (drop (lane * p.element) t.content)

-- the last bit of a dimension in a lane: lane 0 lowest, dimension 0 lowest in a lane
abbrev pub last_bit : Parameters → Transfer → ℕ → ℕ → Bool
last_bit p t lane dim = slice_index_or t.last (lane * p.dims + dim) false

-- the ends of sequences that a lane marks, ascending
abbrev pub lane_closes : Parameters → Transfer → ℕ → List Item
lane_closes p t lane = parts_below (λ dim. if last_bit p t lane dim then Close dim ∷ [] else []) p.dims

-- a lane's element, where it is active, and then the ends that it marks
abbrev pub lane_items : Parameters → Transfer → ℕ → List Item
lane_items p t lane = (if is_active t lane then Elem (lane_word p t lane) ∷ [] else []) ++ lane_closes p t lane

-- the items of a transfer, lane by lane
abbrev pub items_of : Parameters → Transfer → List Item
items_of p t = parts_below (lane_items p t) p.lanes

-- the items of transfers, one transfer after another
abbrev pub items_of_all : Parameters → List Transfer → List Item
items_of_all p ts = flat_map (items_of p) ts
