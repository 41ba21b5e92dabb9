-- The chains of a port, row by row.
use Rattle.std.proofs.Common.{◌≡◌, ◌∙◌, ℕ, zero, suc, ◌+◌, ◌-◌, ◌^◌, ◌<◌, ◌≤◌, ◌⊎◌, inl, inr, min, Bool, true, false, nat_lt, if◌then◌else◌, List, [], ◌∷◌, ◌++◌, length, map, take, get_or, slice_get, Some, refl, sym, ap, subst, arith}
use Rattle.std.proofs.Math.ListN.{set}
use Rattle.std.proofs.lemmas.Bool.Decides.{nat_tests}
use Rattle.std.proofs.lemmas.List.{length-set, take_all, take_more, length-take}
use Rattle.std.proofs.lemmas.Option.{slice_get_within}
use Rattle.tydi_base.proofs.PlaceLemmas.{same_or_other, slice_get-set_other, slice_get-set_same, slice_get-there}
use Rattle.physical_stream.specs.Cycles.{Cycle}
use Rattle.physical_stream.specs.Params.{Parameters}
use Rattle.physical_stream.specs.declared.transfer.Transfer.{Transfer}
use Rattle.handshake.specs.Ports.{cycles_made}
use Rattle.handshake.specs.Rows.{StreamRun, rows_behind}
use Rattle.handshake.specs.declared.feed.TransferFeed.{Ghosts}
use Rattle.elastic_net.specs.Nets.{AreOrders, ChainRun, chains_from, chains_of, components_of, left_of_chains, sink_rows_after}
use Rattle.elastic_net.specs.Orders.{IsOrder, order_in, own_order}
use Rattle.elastic_net.specs.Ports.{AreAt, AreFirst, KeepChains, chain_runs, first_component, net_in, orders_own, stages_in}
use Rattle.elastic_net.specs.Sinks.{acts_of, left_in, sink_now, state_after, state_behind}
use Rattle.elastic_net.specs.Standing.{KeepChain, StandsFor}
use Rattle.elastic_net.specs.States.{ChainState, first_state, next_cycle_of}
use Rattle.elastic_net.specs.Turns.{FirstTurn}
use Rattle.elastic_net.specs.declared.chain.Chain.{Chain}
use Rattle.elastic_net.proofs.NetLemmas.{left-there, none-after, rows-first, rows-last, rows-next, state-cycle, state-fresh, state-more}

-- ---- how many cycles a stream has made

made-here : (number stream : ℕ) → cycles_made number stream stream ≡ number
made-here number stream = let test : nat_lt stream stream ≡ false = grind (arith, nat_tests) in ap (λ (b : Bool). if b then number + 1 else number) test

made-before : (number stream i : ℕ) → i < stream → cycles_made number stream i ≡ number + 1
made-before number stream i less = let test : nat_lt i stream ≡ true = grind (arith, nat_tests) in ap (λ (b : Bool). if b then number + 1 else number) test

made-after : (number stream i : ℕ) → stream ≤ i → cycles_made number stream i ≡ number
made-after number stream i more = let test : nat_lt i stream ≡ false = grind (arith, nat_tests) in ap (λ (b : Bool). if b then number + 1 else number) test

made-other : (number stream i : ℕ) → (stream ≡ i → ⊥) → cycles_made number (stream + 1) i ≡ cycles_made number stream i
made-other number stream i other = by_test (nat_lt i stream) refl
  where
    by_test : (test : Bool) → nat_lt i stream ≡ test → cycles_made number (stream + 1) i ≡ cycles_made number stream i
    by_test true is = let less : i < stream = grind (arith, nat_tests) in made-before number (stream + 1) i (omega (arith, less)) ∙ sym (made-before number stream i less)
    by_test false is = let more : stream < i = grind (arith, nat_tests) in made-after number (stream + 1) i (omega (arith, more)) ∙ sym (made-after number stream i (omega (arith, more)))

-- ---- the streams of a port

same_some : {A : Type 0} {x y : A} → Some x ≡ Some y → x ≡ y
same_some is = cc

-- the components before a stream and those of the stream are among all
components-front : (stages : List (List ℕ)) (i : ℕ) (own : List ℕ) → slice_get stages i ≡ Some own → components_of (take (suc i) stages) ≡ components_of (take i stages) + suc (length own)
components-front [] i own is = cc
components-front (s ∷ stages) zero own is = let e : s ≡ own = cc in omega (arith, ap (length {A = ℕ}) e)
components-front (s ∷ stages) (suc i) own is = omega (arith, components-front stages i own is)

components-within : (stages : List (List ℕ)) (i : ℕ) → components_of (take i stages) ≤ components_of stages
components-within [] zero = omega arith
components-within [] (suc i) = omega arith
components-within (s ∷ stages) zero = omega arith
components-within (s ∷ stages) (suc i) = omega (arith, components-within stages i)

module _ {F : Type 0} {T : Ghosts F} where
  pub stages-there : (chains : List (Chain F T)) (i : ℕ) (c : Chain F T) → slice_get chains i ≡ Some c → slice_get (stages_in chains) i ≡ Some c.stages
  stages-there [] i c is = cc
  stages-there (d ∷ chains) zero c is = let e : d ≡ c = cc in ap (λ (x : Chain F T). Some x.stages) e
  stages-there (d ∷ chains) (suc i) c is = stages-there chains i c is

  pub stages-set : (chains : List (Chain F T)) (i : ℕ) (c new : Chain F T) → slice_get chains i ≡ Some c → new.stages ≡ c.stages → stages_in (set chains i new) ≡ stages_in chains
  stages-set [] i c new is same = cc
  stages-set (d ∷ chains) zero c new is same = let e : d ≡ c = cc in ap (λ (l : List ℕ). l ∷ stages_in chains) (same ∙ ap (λ (x : Chain F T). x.stages) (sym e))
  stages-set (d ∷ chains) (suc i) c new is same = ap (λ (l : List (List ℕ)). d.stages ∷ l) (stages-set chains i c new is same)

  module _ (rest whole : F → List Transfer) where
    pub stages-kept : (old new : List (Chain F T)) → KeepChains whole old new → stages_in new ≡ stages_in old
    stages-kept [] [] k = refl
    stages-kept [] (c ∷ new) k = absurd (omega (arith, k.many))
    stages-kept (c ∷ old) [] k = absurd (omega (arith, k.many))
    stages-kept (c ∷ old) (d ∷ new) k =
        ap (λ (l : List ℕ). l ∷ stages_in new) (k.each 0 c d refl refl).stages
        ∙ ap (λ (l : List (List ℕ)). c.stages ∷ l) (stages-kept old new (record { many = omega (arith, k.many); each = λ i before after is here. k.each (suc i) before after is here }))

    same_run : (c new : Chain F T) (bits : List Bool) → KeepChain whole c new →
        ◌≡◌ {A = StreamRun} (record { params = new.params; transfers = whole new.feed; gaps = new.gaps; ready = bits }) (record { params = c.params; transfers = whole c.feed; gaps = c.gaps; ready = bits })
    same_run c new bits k =
        ap (λ (p : Parameters). record { params = p; transfers = whole new.feed; gaps = new.gaps; ready = bits }) k.params
        ∙ ap (λ (ts : List Transfer). record { params = c.params; transfers = ts; gaps = new.gaps; ready = bits }) k.all
        ∙ ap (λ (gaps : List ℕ). record { params = c.params; transfers = whole c.feed; gaps = gaps; ready = bits }) k.gaps

    runs-set : (chains : List (Chain F T)) (ready : List (List Bool)) (i : ℕ) (c new : Chain F T) → slice_get chains i ≡ Some c → KeepChain whole c new → chain_runs rest whole (set chains i new) ready ≡ chain_runs rest whole chains ready
    runs-set [] ready i c new is k = cc
    runs-set (d ∷ chains) [] zero c new is k = refl
    runs-set (d ∷ chains) [] (suc i) c new is k = refl
    runs-set (d ∷ chains) (bits ∷ ready) zero c new is k =
        let same : d ≡ c = cc in
        ap (λ (s : StreamRun). s ∷ chain_runs rest whole chains ready) (same_run c new bits k ∙ ap (λ (x : Chain F T). record { params = x.params; transfers = whole x.feed; gaps = x.gaps; ready = bits }) (sym same))
    runs-set (d ∷ chains) (bits ∷ ready) (suc i) c new is k =
        ap (λ (l : List StreamRun). record { params = d.params; transfers = whole d.feed; gaps = d.gaps; ready = bits } ∷ l) (runs-set chains ready i c new is k)

    runs-kept : (old new : List (Chain F T)) (ready : List (List Bool)) → KeepChains whole old new → chain_runs rest whole new ready ≡ chain_runs rest whole old ready
    runs-kept [] [] ready k = refl
    runs-kept [] (c ∷ new) ready k = absurd (omega (arith, k.many))
    runs-kept (c ∷ old) [] ready k = absurd (omega (arith, k.many))
    runs-kept (c ∷ old) (d ∷ new) [] k = refl
    runs-kept (c ∷ old) (d ∷ new) (bits ∷ ready) k =
        ap (λ (s : StreamRun). s ∷ chain_runs rest whole new ready) (same_run c d bits (k.each 0 c d refl refl))
        ∙ ap (λ (l : List StreamRun). record { params = c.params; transfers = whole c.feed; gaps = c.gaps; ready = bits } ∷ l)
        (runs-kept old new ready (record { many = omega (arith, k.many); each = λ i before after is here. k.each (suc i) before after is here }))

    pub net-set : (chains : List (Chain F T)) (ready : List (List Bool)) (orders : List (List ℕ)) (i : ℕ) (c new : Chain F T) → slice_get chains i ≡ Some c → KeepChain whole c new →
        net_in rest whole (set chains i new) ready orders ≡ net_in rest whole chains ready orders
    net-set chains ready orders i c new is k =
        ap (λ (l : List StreamRun). chains_of l (stages_in (set chains i new)) orders) (runs-set chains ready i c new is k)
        ∙ ap (λ (l : List (List ℕ)). chains_of (chain_runs rest whole chains ready) l orders) (stages-set chains i c new is k.stages)

    pub net-kept : (old new : List (Chain F T)) (ready : List (List Bool)) (orders : List (List ℕ)) → KeepChains whole old new → net_in rest whole new ready orders ≡ net_in rest whole old ready orders
    net-kept old new ready orders k =
        ap (λ (l : List StreamRun). chains_of l (stages_in new) orders) (runs-kept old new ready k)
        ∙ ap (λ (l : List (List ℕ)). chains_of (chain_runs rest whole old ready) l orders) (stages-kept old new k)

    -- one stream of the net
    abbrev pub net_of : Chain F T → List Bool → (first : ℕ) → (orders : List (List ℕ)) → ChainRun
    net_of c bits first orders = record { run = record { params = c.params; transfers = whole c.feed; gaps = c.gaps; ready = bits }; stages = c.stages; orders = orders_own c first orders }

    from-there : (chains : List (Chain F T)) (ready : List (List Bool)) (orders : List (List ℕ)) (first i : ℕ) (c : Chain F T) (bits : List Bool) → slice_get chains i ≡ Some c → slice_get ready i ≡ Some bits →
        slice_get (chains_from first (chain_runs rest whole chains ready) (stages_in chains) orders) i ≡ Some (net_of c bits (first + first_component chains i) orders)
    from-there [] ready orders first i c bits is here = cc
    from-there (d ∷ chains) [] orders first zero c bits is here = cc
    from-there (d ∷ chains) [] orders first (suc i) c bits is here = cc
    from-there (d ∷ chains) (b ∷ ready) orders first zero c bits is here =
        let same : d ≡ c = cc in
        let same_bits : b ≡ bits = cc in
        let e : first ≡ first + 0 = omega arith in
        ap (λ (x : Chain F T). Some (net_of x b first orders)) same ∙ ap (λ (x : List Bool). Some (net_of c x first orders)) same_bits ∙ ap (λ (n : ℕ). Some (net_of c bits n orders)) e
    from-there (d ∷ chains) (b ∷ ready) orders first (suc i) c bits is here =
        let e : (first + suc (length d.stages)) + first_component chains i ≡ first + (suc (length d.stages) + first_component chains i) = omega arith in
        from-there chains ready orders (first + suc (length d.stages)) i c bits is here ∙ ap (λ (n : ℕ). Some (net_of c bits n orders)) e

    pub net-there : (chains : List (Chain F T)) (ready : List (List Bool)) (orders : List (List ℕ)) (i : ℕ) (c : Chain F T) (bits : List Bool) → slice_get chains i ≡ Some c → slice_get ready i ≡ Some bits →
        slice_get (net_in rest whole chains ready orders) i ≡ Some (net_of c bits (first_component chains i) orders)
    net-there chains ready orders i c bits is here =
        let e : 0 + first_component chains i ≡ first_component chains i = omega arith in
        from-there chains ready orders 0 i c bits is here ∙ ap (λ (n : ℕ). Some (net_of c bits n orders)) e

    net-long : (chains : List (Chain F T)) (ready : List (List Bool)) (orders : List (List ℕ)) (first : ℕ) → length chains ≡ length ready → length (chains_from first (chain_runs rest whole chains ready) (stages_in chains) orders) ≡ length chains
    net-long [] ready orders first same = refl
    net-long (c ∷ chains) [] orders first same = absurd (omega (arith, same))
    net-long (c ∷ chains) (bits ∷ ready) orders first same = omega (arith, net-long chains ready orders (first + suc (length c.stages)) (omega (arith, same)))

    pub net-many : (chains : List (Chain F T)) (ready : List (List Bool)) (orders : List (List ℕ)) → length chains ≡ length ready → length (net_in rest whole chains ready orders) ≡ length chains
    net-many chains ready orders same = net-long chains ready orders 0 same

    -- what the call for one cycle of a chain promises
    abbrev pub CycleCall : (c new : Chain F T) → (first number : ℕ) → (bit : Bool) → (orders : List (List ℕ)) → Type 0
    CycleCall c new first number bit orders = (ts : List Transfer) (s : ChainState) (base total : ℕ) → StandsFor rest c ts s → s.acted ≡ [] → first ≡ min base (2 ^ 64 - 1) → base + suc (length c.stages) ≤ total →
        ((order : List ℕ) → slice_get orders number ≡ Some order → IsOrder total order) →
        StandsFor rest new ts (next_cycle_of (acts_of c.params ts c.gaps c.stages (order_in (suc (length c.stages)) (map (own_order base (suc (length c.stages))) orders) number) bit s))

    module _ (chains : List (Chain F T)) (ready : List (List Bool)) (orders : List (List ℕ)) (number many stream first : ℕ) (at : AreAt rest whole chains ready orders number many stream first) where
      pub none-turn : chains ≡ [] → sink_rows_after (net_in rest whole chains ready orders) stream number many ≡ []
      none-turn none = ap (λ (l : List (Chain F T)). sink_rows_after (net_in rest whole l ready orders) stream number many) none ∙ none-after stream number many

      bits-there : (i : ℕ) → i < length chains → (bits : List Bool) × (slice_get ready i ≡ Some bits)
      bits-there i within = slice_get-there ready i (omega (arith, at.same, within))

      -- the ready bit of the next row
      pub bit-within : (bits : List Bool) → 0 < many → slice_get ready stream ≡ Some bits → number < length bits
      bit-within bits some here = omega (arith, at.long stream bits here, some)

      -- ---- the next row of a stream

      module _ (m : ℕ) (c new : Chain F T) (bit : Bool) (some : many ≡ suc m) (there : slice_get chains stream ≡ Some c) (k : KeepChain whole c new) (are : AreOrders (stages_in chains) orders)
          (bit_is : (bits : List Bool) → slice_get ready stream ≡ Some bits → bit ≡ get_or bits number false)
          (stands : CycleCall c new first number bit orders) where
        within : stream < length chains
        within = slice_get_within chains stream c there

        bits : List Bool
        bits = (bits-there stream within).0

        bits_here : slice_get ready stream ≡ Some bits
        unfolding bits bits-there
        bits_here = (bits-there stream within).1

        abbrev own : List (List ℕ)
        own = orders_own c (first_component chains stream) orders

        abbrev state_of : List Bool → ChainState
        state_of found = state_after c.params (whole c.feed) c.gaps c.stages (orders_own c (first_component chains stream) orders) (take number found)

        stood : (found : List Bool) → slice_get ready stream ≡ Some found → StandsFor rest c (whole c.feed) (state_of found)
        stood found here = subst (λ (n : ℕ). StandsFor rest c (whole c.feed) (state_after c.params (whole c.feed) c.gaps c.stages (orders_own c (first_component chains stream) orders) (take n found))) (made-here number stream) (at.stands stream c found there here)

        inside : first_component chains stream + suc (length c.stages) ≤ components_of (stages_in chains)
        inside = omega (arith, components-front (stages_in chains) stream c.stages (stages-there chains stream c there), components-within (stages_in chains) (suc stream))

        cycle_is : (found : List Bool) → slice_get ready stream ≡ Some found → (state_of found).cycle ≡ number
        cycle_is found here =
            state-cycle c.params (whole c.feed) c.gaps c.stages (orders_own c (first_component chains stream) orders) (first_state (whole c.feed)) (take number found)
            ∙ omega (arith, length-take number found, bit-within found (omega (arith, some)) here)

        -- the chain after the cycle
        stands_on : (found : List Bool) → slice_get ready stream ≡ Some found → StandsFor rest new (whole c.feed) (state_behind c.params (whole c.feed) c.gaps c.stages (orders_own c (first_component chains stream) orders) (state_of found) bit)
        stands_on found here =
            subst (λ (n : ℕ). StandsFor rest new (whole c.feed) (next_cycle_of (acts_of c.params (whole c.feed) c.gaps c.stages (order_in (suc (length c.stages)) (orders_own c (first_component chains stream) orders) n) bit (state_of found))))
            (sym (cycle_is found here))
            (stands (whole c.feed) (state_of found) (first_component chains stream) (components_of (stages_in chains)) (stood found here)
            (state-fresh c.params (whole c.feed) c.gaps c.stages (orders_own c (first_component chains stream) orders) (first_state (whole c.feed)) (take number found) refl)
            at.first_is inside (λ order is. are number order is))

        net_here : slice_get (net_in rest whole chains ready orders) stream ≡ Some (net_of c bits (first_component chains stream) orders)
        net_here = net-there chains ready orders stream c bits there bits_here

        pub turn-first : FirstTurn rest whole (sink_rows_after (net_in rest whole chains ready orders) stream number many) (set chains stream new) (Some (record { stream = stream; ready = bit }))
        turn-first =
            subst (λ (rows : List Cycle). FirstTurn rest whole rows (set chains stream new) (Some (record { stream = stream; ready = bit })))
            (sym (ap (sink_rows_after (net_in rest whole chains ready orders) stream number) some ∙ rows-first (net_in rest whole chains ready orders) stream number m _ net_here))
            (record {
              chain = new;
              state = state_behind c.params (whole c.feed) c.gaps c.stages (orders_own c (first_component chains stream) orders) (state_of bits) bit;
              there = slice_get-set_same chains stream new within;
              stands = subst (λ (ts : List Transfer). StandsFor rest new ts (state_behind c.params (whole c.feed) c.gaps c.stages (orders_own c (first_component chains stream) orders) (state_of bits) bit)) (sym k.all) (stands_on bits bits_here);
              is = ap (λ (b : Bool). sink_now c.params (whole c.feed) c.gaps c.stages (orders_own c (first_component chains stream) orders) (state_of bits) b) (sym (bit_is bits bits_here));
            })

        pub turn-net : net_in rest whole (set chains stream new) ready orders ≡ net_in rest whole chains ready orders
        turn-net = net-set chains ready orders stream c new there k

        pub turn-next : sink_rows_after (net_in rest whole (set chains stream new) ready orders) (stream + 1) number many ≡ rows_behind (sink_rows_after (net_in rest whole chains ready orders) stream number many)
        turn-next =
            ap (λ (net : List ChainRun). sink_rows_after net (stream + 1) number many) turn-net ∙ ap (sink_rows_after (net_in rest whole chains ready orders) (stream + 1) number) some
            ∙ rows-next (net_in rest whole chains ready orders) stream number m _ net_here (stream + 1) (omega arith)
            ∙ ap (λ (n : ℕ). rows_behind (sink_rows_after (net_in rest whole chains ready orders) stream number n)) (sym some)

        pub turn-last : length chains ≤ stream + 1 → sink_rows_after (net_in rest whole (set chains stream new) ready orders) 0 (number + 1) (many - 1) ≡ rows_behind (sink_rows_after (net_in rest whole chains ready orders) stream number many)
        turn-last past =
            let fewer : many - 1 ≡ m = omega (arith, some) in
            ap (λ (net : List ChainRun). sink_rows_after net 0 (number + 1) (many - 1)) turn-net ∙ ap (sink_rows_after (net_in rest whole chains ready orders) 0 (number + 1)) fewer
            ∙ rows-last (net_in rest whole chains ready orders) stream number m _ net_here (number + 1) (omega arith) (omega (arith, past, net-many chains ready orders at.same))
            ∙ ap (λ (n : ℕ). rows_behind (sink_rows_after (net_in rest whole chains ready orders) stream number n)) (sym some)

        -- where the chain of a stream stands, in the words of the chains that are there now
        abbrev pub StandsAt : Chain F T → (base : ℕ) → (found : List Bool) → ℕ → Type 0
        StandsAt d base found made = StandsFor rest d (whole d.feed) (state_after d.params (whole d.feed) d.gaps d.stages (orders_own d base orders) (take made found))

        stands_new : (found : List Bool) → slice_get ready stream ≡ Some found → StandsAt new (first_component chains stream) found (number + 1)
        stands_new found here =
            let longer : take number found ++ bit ∷ [] ≡ take (number + 1) found = ap (λ (b : Bool). take number found ++ b ∷ []) (bit_is found here) ∙ sym (take_more found number false (bit-within found (omega (arith, some)) here)) in
            let on : StandsFor rest new (whole c.feed) (state_after c.params (whole c.feed) c.gaps c.stages (orders_own c (first_component chains stream) orders) (take (number + 1) found)) =
            subst (λ (l : List Bool). StandsFor rest new (whole c.feed) (state_after c.params (whole c.feed) c.gaps c.stages (orders_own c (first_component chains stream) orders) l)) longer
            (subst (StandsFor rest new (whole c.feed)) (sym (state-more c.params (whole c.feed) c.gaps c.stages (orders_own c (first_component chains stream) orders) (first_state (whole c.feed)) (take number found) bit)) (stands_on found here)) in
            subst (λ (ts : List Transfer). StandsFor rest new ts (state_after new.params ts new.gaps new.stages (orders_own new (first_component chains stream) orders) (take (number + 1) found))) (sym k.all)
            (subst (λ (q : Parameters). StandsFor rest new (whole c.feed) (state_after q (whole c.feed) new.gaps new.stages (orders_own new (first_component chains stream) orders) (take (number + 1) found))) (sym k.params)
            (subst (λ (l : List ℕ). StandsFor rest new (whole c.feed) (state_after c.params (whole c.feed) l new.stages (orders_own new (first_component chains stream) orders) (take (number + 1) found))) (sym k.gaps)
            (subst (λ (l : List ℕ). StandsFor rest new (whole c.feed) (state_after c.params (whole c.feed) c.gaps l (map (own_order (first_component chains stream) (suc (length l))) orders) (take (number + 1) found))) (sym k.stages) on)))

        same_first : (i : ℕ) → first_component (set chains stream new) i ≡ first_component chains i
        same_first i = ap (λ (l : List (List ℕ)). components_of (take i l)) (stages-set chains stream c new there k.stages)

        -- the chain that made the row, and another one
        at_new : (i made : ℕ) (d : Chain F T) (found : List Bool) → stream ≡ i → slice_get (set chains stream new) i ≡ Some d → slice_get ready i ≡ Some found → made ≡ number + 1 →
            StandsAt d (first_component (set chains stream new) i) found made
        at_new i made d found same is here count =
            let is_new : new ≡ d = same_some (sym (slice_get-set_same chains stream new within) ∙ ap (slice_get (set chains stream new)) same ∙ is) in
            let base : first_component (set chains stream new) i ≡ first_component chains stream = same_first i ∙ ap (first_component chains) (sym same) in
            subst (λ (n : ℕ). StandsAt d (first_component (set chains stream new) i) found n) (sym count)
            (subst (λ (n : ℕ). StandsAt d n found (number + 1)) (sym base)
            (subst (λ (x : Chain F T). StandsAt x (first_component chains stream) found (number + 1)) is_new (stands_new found (ap (slice_get ready) same ∙ here))))

        at_old : (i made : ℕ) (d : Chain F T) (found : List Bool) → (stream ≡ i → ⊥) → slice_get (set chains stream new) i ≡ Some d → slice_get ready i ≡ Some found → made ≡ cycles_made number stream i →
            StandsAt d (first_component (set chains stream new) i) found made
        at_old i made d found other is here count =
            subst (λ (n : ℕ). StandsAt d (first_component (set chains stream new) i) found n) (sym count)
            (subst (λ (n : ℕ). StandsAt d n found (cycles_made number stream i)) (sym (same_first i))
            (at.stands i d found (sym (slice_get-set_other chains stream i new other) ∙ is) here))

        pub at-next : (next : ℕ) → next ≡ min (first + suc (length new.stages)) (2 ^ 64 - 1) → stream + 1 < length chains → AreAt rest whole (set chains stream new) ready orders number many (stream + 1) next
        at-next next is more = record {
          same = length-set chains stream new ∙ at.same;
          within = λ _. omega (arith, more, length-set chains stream new);
          over = λ none. absurd (omega (arith, none, some));
          first_is =
              let one : stream + 1 ≡ suc stream = omega arith in
              let base : first_component (set chains stream new) (stream + 1) ≡ first_component chains stream + suc (length c.stages) =
              same_first (stream + 1) ∙ ap (first_component chains) one ∙ components-front (stages_in chains) stream c.stages (stages-there chains stream c there) in
              omega (arith, is, base, at.first_is, ap (length {A = ℕ}) k.stages);
          long = at.long;
          stands = λ i d found there_now here. by_place i d found there_now here (same_or_other stream i);
        }
          where
            by_place : (i : ℕ) (d : Chain F T) (found : List Bool) → slice_get (set chains stream new) i ≡ Some d → slice_get ready i ≡ Some found → (stream ≡ i) ⊎ (stream ≡ i → ⊥) → StandsAt d (first_component (set chains stream new) i) found (cycles_made number (stream + 1) i)
            by_place i d found there_now here (inl same) = at_new i (cycles_made number (stream + 1) i) d found same there_now here (made-before number (stream + 1) i (omega (arith, same)))
            by_place i d found there_now here (inr other) = at_old i (cycles_made number (stream + 1) i) d found other there_now here (made-other number stream i other)

        pub at-last : length chains ≤ stream + 1 → AreAt rest whole (set chains stream new) ready orders (number + 1) (many - 1) 0 0
        at-last past = record {
          same = length-set chains stream new ∙ at.same;
          within = λ more. more;
          over = λ none. refl;
          first_is = omega arith;
          long = λ i found here. omega (arith, at.long i found here, some);
          stands = λ i d found there_now here. by_place i d found there_now here (same_or_other stream i);
        }
          where
            by_place : (i : ℕ) (d : Chain F T) (found : List Bool) → slice_get (set chains stream new) i ≡ Some d → slice_get ready i ≡ Some found → (stream ≡ i) ⊎ (stream ≡ i → ⊥) → StandsAt d (first_component (set chains stream new) i) found (cycles_made (number + 1) 0 i)
            by_place i d found there_now here (inl same) = at_new i (cycles_made (number + 1) 0 i) d found same there_now here (made-after (number + 1) 0 i (omega arith))
            by_place i d found there_now here (inr other) =
                let old = sym (slice_get-set_other chains stream i new other) ∙ there_now in
                let less : i < stream = omega (arith, slice_get_within chains i d old, past, other) in
                at_old i (cycles_made (number + 1) 0 i) d found other there_now here (made-after (number + 1) 0 i (omega arith) ∙ sym (made-before number stream i less))

        pub orders-kept : AreOrders (stages_in (set chains stream new)) orders
        orders-kept = subst (λ (l : List (List ℕ)). AreOrders l orders) (sym (stages-set chains stream c new there k.stages)) are

      -- ---- a port that begins again

      pub at-start : (new : List (Chain F T)) (all : ℕ) → all ≡ many + number → AreFirst rest whole new → KeepChains whole chains new → AreAt rest whole new ready orders 0 all 0 0
      at-start new all is firsts k = record {
        same = k.many ∙ at.same;
        within = λ some. some;
        over = λ none. refl;
        first_is = omega arith;
        long = λ i found here. omega (arith, at.long i found here, is);
        stands = λ i c found there here.
            subst (λ (n : ℕ). StandsFor rest c (whole c.feed) (state_after c.params (whole c.feed) c.gaps c.stages (orders_own c (first_component new i) orders) (take n found))) (sym (made-after 0 0 i (omega arith))) (firsts.each i c there);
      }

      -- ---- a port that is over

      module _ (over : sink_rows_after (net_in rest whole chains ready orders) stream number many ≡ []) (i : ℕ) (below : i < length (left_of_chains (net_in rest whole chains ready orders))) where
        pub within_chains : i < length chains
        within_chains = omega (arith, below, length-map-left (net_in rest whole chains ready orders), net-many chains ready orders at.same)
          where
            length-map-left : (net : List ChainRun) → length (left_of_chains net) ≡ length net
            length-map-left [] = refl
            length-map-left (r ∷ net) = omega (arith, length-map-left net)

        none_left : many ≡ 0
        none_left = by_many many refl over
          where
            here : (c : Chain F T) × (slice_get chains stream ≡ Some c)
            here = slice_get-there chains stream (at.within (omega (arith, within_chains)))

            by_many : (n : ℕ) → many ≡ n → sink_rows_after (net_in rest whole chains ready orders) stream number n ≡ [] → many ≡ 0
            by_many zero is none = is
            by_many (suc m) is none =
                let found = bits-there stream (slice_get_within chains stream here.0 here.1) in
                let clash = sym (rows-first (net_in rest whole chains ready orders) stream number m _ (net-there chains ready orders stream here.0 found.0 here.1 found.1)) ∙ none in
                absurd cc

        pub left-over : (c : Chain F T) (left : ℕ) → slice_get chains i ≡ Some c → ((ts : List Transfer) (s : ChainState) → StandsFor rest c ts s → left ≡ left_in c.params ts c.gaps c.stages s) → left ≡ get_or (left_of_chains (net_in rest whole chains ready orders)) i 0
        left-over c left there counts =
            let found = bits-there i within_chains in
            let none : stream ≡ 0 = at.over none_left in
            let made : cycles_made number stream i ≡ number = ap (λ (s : ℕ). cycles_made number s i) none ∙ made-after number 0 i (omega arith) in
            let all : take (cycles_made number stream i) found.0 ≡ found.0 = take_all (cycles_made number stream i) found.0 (omega (arith, made, at.long i found.0 found.1, none_left)) in
            counts (whole c.feed) (state_after c.params (whole c.feed) c.gaps c.stages (orders_own c (first_component chains i) orders) found.0)
            (subst (λ (l : List Bool). StandsFor rest c (whole c.feed) (state_after c.params (whole c.feed) c.gaps c.stages (orders_own c (first_component chains i) orders) l)) all (at.stands i c found.0 there found.1))
            ∙ left-there (net_in rest whole chains ready orders) i _ (net-there chains ready orders i c found.0 there found.1)

module _ {F : Type 0} {T : Ghosts F} (rest whole : F → List Transfer) (chains : List (Chain F T)) (ready : List (List Bool)) (orders : List (List ℕ)) (cycles : ℕ) where
  -- chains before their first step
  pub at-new : length chains ≡ length ready → ((i : ℕ) (bits : List Bool) → slice_get ready i ≡ Some bits → length bits ≡ cycles) →
      ((i : ℕ) (c : Chain F T) → slice_get chains i ≡ Some c → StandsFor rest c (whole c.feed) (first_state (whole c.feed))) → AreAt rest whole chains ready orders 0 cycles 0 0
  at-new same long stands = record {
    same = same;
    within = λ some. some;
    over = λ none. refl;
    first_is = omega arith;
    long = λ i found here. omega (arith, long i found here);
    stands = λ i c found there here.
        subst (λ (n : ℕ). StandsFor rest c (whole c.feed) (state_after c.params (whole c.feed) c.gaps c.stages (orders_own c (first_component chains i) orders) (take n found))) (sym (made-after 0 0 i (omega arith))) (stands i c there);
  }
