-- Ranges of the places of a phase that begins, each gathered by itself
use Rattle.std.specs.Prelude.{◌≡◌, ℕ, ◌+◌, ◌-◌, ◌*◌, ◌^◌, ◌≤◌, Bool, true, IsTrue, List, [], length, take, drop, vec_len, vec_capacity, All}
use Rattle.std.specs.Global.{Vec}
use Rattle.field_ext.specs.Field.{K}
use Rattle.round_tables.specs.declared.layer_gates.LayerGates.{LayerGates}
use Rattle.round_tables.specs.declared.room.Room.{Room}
use Rattle.round_tables.specs.declared.working.Working.{Working}
use Rattle.round_tables.specs.LayerSum.{LayerSum}
use Rattle.table_parts.specs.PartTables.{PartTables, HasSize, HasCapacity, cuts, flat_table, flat_scales, flat_shifts}
use Rattle.round_tables.specs.Weights.{IsSamePoint}
use Rattle.round_tables.specs.Working.{IsLayerGates, IsBeginning, GathersPhase, bound_of, place_of}

-- the sum of a layer with these challenges bound
abbrev pub sum_of : LayerGates → List K → LayerSum
sum_of layer bound = record {
  k = layer.k;
  gates = layer.gates.now;
  values = layer.values.now.items;
  place = place_of layer;
  bound = bound;
  lent = [];
}

-- the sum whose phase begins, the range's first place, how many parts it has and how many values each, and whether it is gathered
pub record RangeView : Type 0 where
  pub sum : LayerSum
  pub from : ℕ
  pub parts : ℕ
  pub size : ℕ
  pub done : Bool

-- the same range once it is gathered
abbrev pub gathered_range : RangeView → RangeView
gathered_range r = record r { done = true }

-- range i of those with so many parts each
abbrev pub range_of : LayerSum → ℕ → ℕ → Bool → ℕ → RangeView
range_of sum parts size done i = record {
  sum = sum;
  from = i * (parts * size);
  parts = parts;
  size = size;
  done = done;
}

-- there are copies and buffers for a range of so many parts and values
pub record IsRoomFor (layer : LayerGates) (bound : List K) (parts span : ℕ) (room : Room) : Type 0
  where
    pub first : IsSamePoint layer.first room.first
    pub second : IsSamePoint layer.second room.second
    pub bound_there : room.bound.items ≡ bound
    pub scales : vec_len room.scales ≡ span
    pub shifts : vec_len room.shifts ≡ span
    pub parts_none : vec_len room.parts ≡ 0
    pub parts_capacity : parts ≤ vec_capacity room.parts

abbrev pub AreRoomsFor : LayerGates → List K → ℕ → ℕ → List Room → Type 0
AreRoomsFor layer bound parts span rooms = All (IsRoomFor layer bound parts span) rooms

-- the parts have the values of a range, and what the gates give to it
pub record IsGathered (sum : LayerSum) (from span size : ℕ) (parts : List PartTables) : Type 0 where
  pub sizes : All (HasSize size) parts
  pub table : flat_table parts ≡ take span (drop from sum.values)
  pub gathers : GathersPhase sum.gates sum.values sum.place sum.bound from (flat_scales parts)
      (flat_shifts parts)

-- the range is one of the layer's, with parts that fit it
pub record IsShare (layer : LayerGates) (bound : List K) (value : K) (from size : ℕ)
    (scales shifts : Vec K) (parts : List PartTables) (done : Bool) : Type 0 where
  pub layer_is : IsLayerGates layer
  pub beginning : IsBeginning layer.k layer.values.now.items value bound
  pub within : from + vec_len scales ≤ 2 ^ layer.k
  pub same : vec_len shifts ≡ vec_len scales
  pub whole : vec_len scales ≡ length parts * size
  pub capacities : All (HasCapacity size) parts
  pub gathered : IsTrue done → IsGathered (sum_of layer bound) from (vec_len scales) size parts

-- there are so many rooms, and so many ranges, of which the first ones are lent
pub record LendingView : Type 0 where
  pub sum : LayerSum
  pub rooms : ℕ
  pub number : ℕ
  pub parts : ℕ
  pub size : ℕ
  pub lent : ℕ

-- the same, of which the first ones are back
pub record CollectingView : Type 0 where
  pub sum : LayerSum
  pub rooms : ℕ
  pub number : ℕ
  pub parts : ℕ
  pub size : ℕ
  pub back : ℕ

-- a phase begins, for which there are buffers but for its parts
pub record BeginsUnparted (layer : LayerGates) (w : Working) (value : K) : Type 0 where
  pub challenges : vec_len w.challenges ≡ layer.k + layer.k
  pub scales : vec_len w.scales ≡ 2 ^ layer.k
  pub shifts : vec_len w.shifts ≡ 2 ^ layer.k
  pub one : length w.one.items ≡ 1
  pub one_capacity : All (HasCapacity (2 ^ cuts layer.k)) w.one.items
  pub counted : w.count ≤ layer.k
  pub beginning : IsBeginning layer.k layer.values.now.items value (bound_of w)
  pub capacity : 2 ^ cuts layer.k ≤ vec_capacity w.many

-- so many ranges of so many parts each are those of the phase
pub record AreRangesFor (k number parts size : ℕ) : Type 0 where
  pub all : number * parts ≡ 2 ^ cuts k
  pub whole : size ≡ 2 ^ (k - cuts k)

-- the parts and the rooms of the ranges that aren't lent yet are there
pub record IsLending (layer : LayerGates) (w : Working) (value : K) (rooms : Vec Room)
    (count number parts size lent : ℕ) : Type 0 where
  pub layer_is : IsLayerGates layer
  pub begins : BeginsUnparted layer w value
  pub ranges : AreRangesFor layer.k number parts size
  pub most : lent ≤ number
  pub many : length w.many.items ≡ (number - lent) * parts
  pub capacities : All (HasCapacity size) w.many.items
  pub enough : number ≤ count
  pub rooms_left : vec_len rooms + lent ≡ count
  pub rooms_capacity : count ≤ vec_capacity rooms
  pub ready : AreRoomsFor layer (bound_of w) parts (parts * size) rooms.items

-- the parts of the ranges that are back are there, gathered
pub record IsCollecting (layer : LayerGates) (w : Working) (value : K) (rooms : Vec Room)
    (count number parts size back : ℕ) : Type 0 where
  pub layer_is : IsLayerGates layer
  pub begins : BeginsUnparted layer w value
  pub ranges : AreRangesFor layer.k number parts size
  pub most : back ≤ number
  pub many : length w.many.items ≡ back * parts
  pub capacities : All (HasCapacity size) w.many.items
  pub gathered : IsGathered (sum_of layer (bound_of w)) 0 (back * (parts * size)) size w.many.items
  pub enough : number ≤ count
  pub rooms_back : vec_len rooms + (number - back) ≡ count
  pub rooms_capacity : count ≤ vec_capacity rooms
