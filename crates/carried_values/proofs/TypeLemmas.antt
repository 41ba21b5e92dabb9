-- Types without their levels: their widths, their Streams and their nodes.
use Rattle.std.proofs.Common.{◌≡◌, ◌∙◌, ℕ, suc, ◌+◌, ◌||◌, Bool, nat_lt, max, List, [], ◌∷◌, ◌++◌, map, Some, None, refl, sym, ap, if◌then◌else◌}
use Rattle.std.proofs.lemmas.List.{map-append}
use Rattle.physical_stream.specs.Levels.{at_level}
use Rattle.logical_types.specs.Faults.{inside}
use Rattle.logical_types.specs.Tree.{Ltype, null, bits, group, union, stream, Parts, no_parts, part, Settings, number_of_parts}
use Rattle.logical_types.specs.Width.{width_of, total_width, greatest_width, tag_width}
use Rattle.type_split.specs.Nodes.{StreamNode, is_physical, node_at, nodes_in, nodes_in_parts, nodes_of, number_of_physical, number_of_streams}
use Rattle.type_split.specs.Nodes.{outermost_place, physical_in_parts, place_inside, rounded_up, streams_in_parts}
use Rattle.carried_values.specs.WithoutLevels.{one_level, parts_without_levels, without_level, without_levels}

-- the place of a type in a port's type, whose own name is private to its crate
abbrev Taken : {A B : Type 0} → (A → B) → Type 0
Taken {A} {B} function = A

abbrev pub Place : Type 0
Place = Taken (nodes_in [])

pub parts-stay : (parts : Parts) → number_of_parts (parts_without_levels parts) ≡ number_of_parts parts
parts-stay no_parts = refl
parts-stay (part name ltype more) = ap (λ n. suc n) (parts-stay more)

mutual
  pub width-stays : (ltype : Ltype) → width_of (without_levels ltype) ≡ width_of ltype
  width-stays null = refl
  width-stays (bits width) = refl
  width-stays (group parts) = total-stays parts
  width-stays (union parts) = ap (λ n. tag_width n + greatest_width (parts_without_levels parts)) (parts-stay parts)
      ∙ ap (λ w. tag_width (number_of_parts parts) + w) (greatest-stays parts)
  width-stays (stream element user settings) = refl

  pub total-stays : (parts : Parts) → total_width (parts_without_levels parts) ≡ total_width parts
  total-stays no_parts = refl
  total-stays (part name ltype more) = ap (λ w. w + total_width (parts_without_levels more)) (width-stays ltype)
      ∙ ap (λ w. width_of ltype + w) (total-stays more)

  pub greatest-stays : (parts : Parts) → greatest_width (parts_without_levels parts) ≡ greatest_width parts
  greatest-stays no_parts = refl
  greatest-stays (part name ltype more) = ap (λ w. max w (greatest_width (parts_without_levels more))) (width-stays ltype)
      ∙ ap (λ w. max (width_of ltype) w) (greatest-stays more)

physical-stays : (element user : Ltype) (settings : Settings)
    → is_physical (without_levels element) user (without_level settings) ≡ is_physical element user settings
physical-stays element user settings = ap (λ w. nat_lt 0 w || nat_lt 0 (width_of user) || settings.keep) (width-stays element)

mutual
  pub streams-stay : (ltype : Ltype) → number_of_streams (without_levels ltype) ≡ number_of_streams ltype
  streams-stay null = refl
  streams-stay (bits width) = refl
  streams-stay (group parts) = all-streams-stay parts
  streams-stay (union parts) = all-streams-stay parts
  streams-stay (stream element user settings) = ap (λ n. suc n) (streams-stay element)

  all-streams-stay : (parts : Parts) → streams_in_parts (parts_without_levels parts) ≡ streams_in_parts parts
  all-streams-stay no_parts = refl
  all-streams-stay (part name ltype more) = ap (λ n. n + streams_in_parts (parts_without_levels more)) (streams-stay ltype)
      ∙ ap (λ n. number_of_streams ltype + n) (all-streams-stay more)

mutual
  number-stays : (ltype : Ltype) → number_of_physical (without_levels ltype) ≡ number_of_physical ltype
  number-stays null = refl
  number-stays (bits width) = refl
  number-stays (group parts) = numbers-stay parts
  number-stays (union parts) = numbers-stay parts
  number-stays (stream element user settings) =
      ap (λ b. (if b then 1 else 0) + number_of_physical (without_levels element)) (physical-stays element user settings)
      ∙ ap (λ n. (if is_physical element user settings then 1 else 0) + n) (number-stays element)

  numbers-stay : (parts : Parts) → physical_in_parts (parts_without_levels parts) ≡ physical_in_parts parts
  numbers-stay no_parts = refl
  numbers-stay (part name ltype more) = ap (λ n. n + physical_in_parts (parts_without_levels more)) (number-stays ltype)
      ∙ ap (λ n. number_of_physical ltype + n) (numbers-stay more)

-- ---- nodes

-- a node, but for its levels
abbrev pub node_without : StreamNode → StreamNode
node_without node = record {
  path = node.path;
  parent = node.parent;
  own_dims = node.own_dims;
  params = at_level one_level node.params;
  sync = node.sync;
  reversed = node.reversed;
  root = node.root;
  phys = node.phys;
  element = without_levels node.element;
}

node-stays : (names : List (List ℕ)) (place : Place) (number before : ℕ) (element user : Ltype) (settings : Settings)
    → node_at names place number before (without_levels element) user (without_level settings) ≡ node_without
    (node_at names place number before element user settings)
node-stays names place number before element user settings =
    by (is_physical (without_levels element) user (without_level settings)) (is_physical element user settings) (physical-stays element user settings)
    (width_of (without_levels element)) (width_of element) (width-stays element)
  where
    made : Bool → ℕ → StreamNode
    made physical width = record {
      path = names;
      parent = place.parent;
      own_dims = settings.dims;
      params = record {
        lanes = rounded_up (inside place.around settings).product;
        dims = (inside place.around settings).dims;
        level = one_level;
        element =
            width;
        user = width_of user;
      };
      sync = settings.sync;
      reversed = (node_at names place number before element user settings).reversed;
      root = (node_at names place number before element user settings).root;
      phys = if physical then Some before else None;
      element = without_levels element;
    }

    by : (b c : Bool) → b ≡ c → (v w : ℕ) → v ≡ w → made b v ≡ made c w
    by b c same v w also = ap (λ x. made x v) same ∙ ap (made c) also

mutual
  pub nodes-stay : (names : List (List ℕ)) (place : Place) (number before : ℕ) (ltype : Ltype)
      → nodes_in names place number before (without_levels ltype) ≡ map node_without (nodes_in names place number before ltype)
  nodes-stay names place number before null = refl
  nodes-stay names place number before (bits width) = refl
  nodes-stay names place number before (group parts) = all-nodes-stay names place number before parts
  nodes-stay names place number before (union parts) = all-nodes-stay names place number before parts
  nodes-stay names place number before (stream element user settings) =
      ap (λ (n : StreamNode). n ∷ nodes_in names (place_inside place number settings) (suc number)
      ((if is_physical (without_levels element) user (without_level settings) then 1 else 0) + before) (without_levels element))
      (node-stays names place number before element user settings)
      ∙ ap (λ (l : List StreamNode). node_without (node_at names place number before element user settings) ∷ l)
      (ap (λ b. nodes_in names (place_inside place number settings) (suc number) ((if b then 1 else 0) + before) (without_levels element))
      (physical-stays element user settings)
      ∙ nodes-stay names (place_inside place number settings) (suc number) ((if is_physical element user settings then 1 else 0) + before) element)

  all-nodes-stay : (names : List (List ℕ)) (place : Place) (number before : ℕ) (parts : Parts)
      → nodes_in_parts names place number before (parts_without_levels parts) ≡ map node_without (nodes_in_parts names place number before parts)
  all-nodes-stay names place number before no_parts = refl
  all-nodes-stay names place number before (part name ltype more) =
      ap (λ (l : List StreamNode). l ++ nodes_in_parts names place (number_of_streams (without_levels ltype) + number)
      (number_of_physical (without_levels ltype) + before) (parts_without_levels more))
      (nodes-stay (names ++ name ∷ []) place number before ltype)
      ∙ ap (λ (l : List StreamNode). map node_without (nodes_in (names ++ name ∷ []) place number before ltype) ++ l)
      (ap (λ n. nodes_in_parts names place (n + number) (number_of_physical (without_levels ltype) + before) (parts_without_levels more)) (streams-stay ltype)
      ∙ ap (λ n. nodes_in_parts names place (number_of_streams ltype + number) (n + before) (parts_without_levels more)) (number-stays ltype)
      ∙ all-nodes-stay names place (number_of_streams ltype + number) (number_of_physical ltype + before) more)
      ∙ sym (map-append node_without (nodes_in (names ++ name ∷ []) place number before ltype)
      (nodes_in_parts names place (number_of_streams ltype + number) (number_of_physical ltype + before) more))

pub port-nodes : (ltype : Ltype) → nodes_of (without_levels ltype) ≡ map node_without (nodes_of ltype)
port-nodes ltype = nodes-stay [] outermost_place 0 0 ltype
