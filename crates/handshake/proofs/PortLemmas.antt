-- The cursors of a port, row by row.
use Rattle.std.proofs.Common.{◌≡◌, ◌∙◌, ℕ, zero, suc, ◌+◌, ◌-◌, ◌<◌, ◌≤◌, ◌⊎◌, inl, inr, Bool, true, false, nat_lt, ◌==◌, if◌then◌else◌, List, [], ◌∷◌, ◌++◌, length, map, take, drop, get_or, slice_get, Option, None, Some, refl, sym, ap, subst, arith}
use Rattle.std.proofs.Math.ListN.{set}
use Rattle.std.proofs.lemmas.Bool.Decides.{nat_tests}
use Rattle.std.proofs.lemmas.List.{drop_all, length-set, take_all, take_more}
use Rattle.std.proofs.lemmas.Option.{slice_get_within}
use Rattle.tydi_base.proofs.PlaceLemmas.{same_or_other, slice_get-set_other, slice_get-set_same, slice_get-there}
use Rattle.physical_stream.specs.Cycles.{Cycle}
use Rattle.physical_stream.specs.Params.{Parameters}
use Rattle.physical_stream.specs.declared.transfer.Transfer.{Transfer}
use Rattle.handshake.specs.Ports.{AreAt, cycles_made, runs_in}
use Rattle.handshake.specs.Rows.{StreamRun, row_at, rows_after, rows_behind, rows_from, undone_in}
use Rattle.handshake.specs.Run.{run_of, shown_after, undone}
use Rattle.handshake.specs.Standing.{StandsFor}
use Rattle.handshake.specs.Turns.{AreRewound, FirstTurn, KeepRun, KeepRuns}
use Rattle.handshake.specs.declared.cursor.Cursor.{Cursor}
use Rattle.handshake.specs.declared.feed.TransferFeed.{Ghosts}

-- ---- rows

drop-there : {A : Type 0} (xs : List A) (n : ℕ) (x : A) → slice_get xs n ≡ Some x → drop n xs ≡ x ∷ drop (suc n) xs
drop-there [] n x is = cc
drop-there (y ∷ xs) zero x is = let e : y ≡ x = cc in ap (λ z. z ∷ xs) e
drop-there (y ∷ xs) (suc n) x is = drop-there xs n x is

drop-nil : {A : Type 0} (n : ℕ) → ◌≡◌ {A = List A} (drop n []) []
drop-nil zero = refl
drop-nil (suc n) = refl

none-from : (number many : ℕ) → rows_from [] number many ≡ []
none-from number zero = refl
none-from number (suc many) = none-from (suc number) many

none-after : (stream number many : ℕ) → rows_after [] stream number many ≡ []
none-after stream number zero = refl
none-after stream number (suc many) = ap (λ (l : List StreamRun). map (row_at number) l ++ rows_from [] (suc number) many) (drop-nil stream) ∙ none-from (suc number) many

-- the rows of whole cycles
pub rows-whole : (runs : List StreamRun) (number many : ℕ) → rows_after runs 0 number many ≡ rows_from runs number many
rows-whole runs number zero = refl
rows-whole runs number (suc many) = refl

module _ (runs : List StreamRun) (stream number m : ℕ) (run : StreamRun) (there : slice_get runs stream ≡ Some run) where
  -- the first row and those after it
  pub rows-first : rows_after runs stream number (suc m) ≡ row_at number run ∷ (map (row_at number) (drop (suc stream) runs) ++ rows_from runs (suc number) m)
  rows-first = ap (λ (l : List StreamRun). map (row_at number) l ++ rows_from runs (suc number) m) (drop-there runs stream run there)

  pub rows-next : (next : ℕ) → next ≡ suc stream → rows_after runs next number (suc m) ≡ rows_behind (rows_after runs stream number (suc m))
  rows-next next is = ap (λ (n : ℕ). map (row_at number) (drop n runs) ++ rows_from runs (suc number) m) is ∙ sym (ap rows_behind rows-first)

  pub rows-last : (after : ℕ) → after ≡ suc number → length runs ≤ suc stream → rows_after runs 0 after m ≡ rows_behind (rows_after runs stream number (suc m))
  rows-last after is past =
      rows-whole runs after m ∙ ap (λ (n : ℕ). rows_from runs n m) is
      ∙ sym (ap rows_behind rows-first ∙ ap (λ (l : List StreamRun). map (row_at number) l ++ rows_from runs (suc number) m) (drop_all (suc stream) runs past))

undone-there : (runs : List StreamRun) (i : ℕ) (s : StreamRun) → slice_get runs i ≡ Some s → undone s.params s.transfers s.gaps s.ready ≡ get_or (undone_in runs) i 0
undone-there [] i s is = cc
undone-there (r ∷ runs) zero s is = let e : r ≡ s = cc in ap (λ (x : StreamRun). undone x.params x.transfers x.gaps x.ready) (sym e)
undone-there (r ∷ runs) (suc i) s is = undone-there runs i s is

-- ---- tests of the code

pub counted-down : (many : ℕ) → (many ≡ 0 → ⊥) → many ≡ suc (many - 1)
counted-down many some = let positive : 0 < many = grind arith in omega (arith, positive)

pub has-some : (count many : ℕ) (test : Bool) → count ≡ many → test ≡ (count == 0) → test ≡ false → 0 < many
has-some count many test same is low = let none : (count == 0) ≡ false = sym is ∙ low in let positive : 0 < count = grind (arith, nat_tests) in omega (arith, same, positive)

pub is-none : {A : Type 0} (xs : List A) (count : ℕ) (test : Bool) → count ≡ length xs → test ≡ (count == 0) → test ≡ true → xs ≡ []
is-none [] count test same is high = refl
is-none (x ∷ xs) count test same is high = let none : (count == 0) ≡ true = sym is ∙ high in let zero_count : count ≡ 0 = grind (arith, nat_tests) in absurd (omega (arith, same, zero_count))

-- ---- how many cycles a stream has made

made-here : (number stream : ℕ) → cycles_made number stream stream ≡ number
made-here number stream = let test : nat_lt stream stream ≡ false = grind (arith, nat_tests) in ap (λ (b : Bool). if b then number + 1 else number) test

made-before : (number stream i : ℕ) → i < stream → cycles_made number stream i ≡ number + 1
made-before number stream i less = let test : nat_lt i stream ≡ true = grind (arith, nat_tests) in ap (λ (b : Bool). if b then number + 1 else number) test

made-after : (number stream i : ℕ) → stream ≤ i → cycles_made number stream i ≡ number
made-after number stream i more = let test : nat_lt i stream ≡ false = grind (arith, nat_tests) in ap (λ (b : Bool). if b then number + 1 else number) test

made-other : (number stream i : ℕ) → (stream ≡ i → ⊥) → cycles_made number (stream + 1) i ≡ cycles_made number stream i
made-other number stream i other = by_test (nat_lt i stream) refl
  where
    by_test : (test : Bool) → nat_lt i stream ≡ test → cycles_made number (stream + 1) i ≡ cycles_made number stream i
    by_test true is = let less : i < stream = grind (arith, nat_tests) in made-before number (stream + 1) i (omega (arith, less)) ∙ sym (made-before number stream i less)
    by_test false is = let more : stream < i = grind (arith, nat_tests) in made-after number (stream + 1) i (omega (arith, more)) ∙ sym (made-after number stream i (omega (arith, more)))

-- ---- the streams of a port

same_some : {A : Type 0} {x y : A} → Some x ≡ Some y → x ≡ y
same_some is = cc

module _ {F : Type 0} {T : Ghosts F} (rest whole : F → List Transfer) where
  abbrev run_in : Cursor F T → List Bool → StreamRun
  run_in c bits = record { params = c.params; transfers = whole c.feed; gaps = c.gaps; ready = bits }

  run-there : (cursors : List (Cursor F T)) (ready : List (List Bool)) (i : ℕ) (c : Cursor F T) (bits : List Bool) → slice_get cursors i ≡ Some c → slice_get ready i ≡ Some bits → slice_get (runs_in rest whole cursors ready) i ≡ Some (record { params = c.params; transfers = whole c.feed; gaps = c.gaps; ready = bits })
  run-there [] ready i c bits is here = cc
  run-there (d ∷ cursors) [] zero c bits is here = cc
  run-there (d ∷ cursors) [] (suc i) c bits is here = cc
  run-there (d ∷ cursors) (b ∷ ready) zero c bits is here =
      let same : d ≡ c = cc in
      let same_bits : b ≡ bits = cc in
      ap Some (ap (λ (x : Cursor F T). record { params = x.params; transfers = whole x.feed; gaps = x.gaps; ready = b }) same ∙ ap (λ (x : List Bool). record { params = c.params; transfers = whole c.feed; gaps = c.gaps; ready = x }) same_bits)
  run-there (d ∷ cursors) (b ∷ ready) (suc i) c bits is here = run-there cursors ready i c bits is here

  runs-many : (cursors : List (Cursor F T)) (ready : List (List Bool)) → length cursors ≡ length ready → length (runs_in rest whole cursors ready) ≡ length cursors
  runs-many [] ready same = refl
  runs-many (c ∷ cursors) [] same = cc
  runs-many (c ∷ cursors) (bits ∷ ready) same = let less : length cursors ≡ length ready = omega (arith, same) in omega (arith, runs-many cursors ready less)

  same_run : (c new : Cursor F T) (bits : List Bool) → KeepRun whole c new →
      ◌≡◌ {A = StreamRun} (record { params = new.params; transfers = whole new.feed; gaps = new.gaps; ready = bits }) (record { params = c.params; transfers = whole c.feed; gaps = c.gaps; ready = bits })
  same_run c new bits k =
      ap (λ (p : Parameters). record { params = p; transfers = whole new.feed; gaps = new.gaps; ready = bits }) k.params
      ∙ ap (λ (ts : List Transfer). record { params = c.params; transfers = ts; gaps = new.gaps; ready = bits }) k.all
      ∙ ap (λ (gaps : List ℕ). record { params = c.params; transfers = whole c.feed; gaps = gaps; ready = bits }) k.gaps

  pub runs-set : (cursors : List (Cursor F T)) (ready : List (List Bool)) (i : ℕ) (c new : Cursor F T) → slice_get cursors i ≡ Some c → KeepRun whole c new → runs_in rest whole (set cursors i new) ready ≡ runs_in rest whole cursors ready
  runs-set [] ready i c new is k = cc
  runs-set (d ∷ cursors) [] zero c new is k = refl
  runs-set (d ∷ cursors) [] (suc i) c new is k = refl
  runs-set (d ∷ cursors) (bits ∷ ready) zero c new is k =
      let same : d ≡ c = cc in
      ap (λ (s : StreamRun). s ∷ runs_in rest whole cursors ready) (same_run c new bits k ∙ ap (λ (x : Cursor F T). record { params = x.params; transfers = whole x.feed; gaps = x.gaps; ready = bits }) (sym same))
  runs-set (d ∷ cursors) (bits ∷ ready) (suc i) c new is k = ap (λ (l : List StreamRun). run_in d bits ∷ l) (runs-set cursors ready i c new is k)

  pub runs-kept : (old new : List (Cursor F T)) (ready : List (List Bool)) → KeepRuns whole old new → runs_in rest whole new ready ≡ runs_in rest whole old ready
  runs-kept [] [] ready k = refl
  runs-kept [] (c ∷ new) ready k = absurd (omega (arith, k.many))
  runs-kept (c ∷ old) [] ready k = absurd (omega (arith, k.many))
  runs-kept (c ∷ old) (d ∷ new) [] k = refl
  runs-kept (c ∷ old) (d ∷ new) (bits ∷ ready) k =
      ap (λ (s : StreamRun). s ∷ runs_in rest whole new ready) (same_run c d bits (k.each 0 c d refl refl))
      ∙ ap (λ (l : List StreamRun). run_in c bits ∷ l) (runs-kept old new ready (record { many = omega (arith, k.many); each = λ i before after is here. k.each (suc i) before after is here }))

  module _ (cursors : List (Cursor F T)) (ready : List (List Bool)) (number many stream : ℕ) (at : AreAt rest whole cursors ready number many stream) where
    pub none-turn : cursors ≡ [] → rows_after (runs_in rest whole cursors ready) stream number many ≡ []
    none-turn none = ap (λ (l : List (Cursor F T)). rows_after (runs_in rest whole l ready) stream number many) none ∙ none-after stream number many

    bits-there : (i : ℕ) → i < length cursors → (bits : List Bool) × (slice_get ready i ≡ Some bits)
    bits-there i within = slice_get-there ready i (omega (arith, at.same, within))

    -- the ready bit of the next row
    pub bit-within : (bits : List Bool) → 0 < many → slice_get ready stream ≡ Some bits → number < length bits
    bit-within bits some here = omega (arith, at.long stream bits here, some)

    -- ---- the next row of a stream

    module _ (m : ℕ) (c new : Cursor F T) (bit shows : Bool) (some : many ≡ suc m) (there : slice_get cursors stream ≡ Some c) (k : KeepRun whole c new)
        (bit_is : (bits : List Bool) → slice_get ready stream ≡ Some bits → bit ≡ get_or bits number false)
        (shown : (ts : List Transfer) (before : List Bool) → StandsFor rest c ts before → shown_after c.params ts c.gaps (run_of c.params ts c.gaps before) ≡ (if shows then Some new.held else None))
        (stands : (ts : List Transfer) (before : List Bool) → StandsFor rest c ts before → StandsFor rest new ts (before ++ bit ∷ [])) where
      within : stream < length cursors
      within = slice_get_within cursors stream c there

      bits : List Bool
      bits = (bits-there stream within).0

      bits_here : slice_get ready stream ≡ Some bits
      unfolding bits bits-there
      bits_here = (bits-there stream within).1

      stood : StandsFor rest c (whole c.feed) (take number bits)
      stood = subst (λ (n : ℕ). StandsFor rest c (whole c.feed) (take n bits)) (made-here number stream) (at.stands stream c bits there bits_here)

      run_here : slice_get (runs_in rest whole cursors ready) stream ≡ Some (record { params = c.params; transfers = whole c.feed; gaps = c.gaps; ready = bits })
      run_here = run-there cursors ready stream c bits there bits_here

      row_is : row_at number (record { params = c.params; transfers = whole c.feed; gaps = c.gaps; ready = bits }) ≡ record { ready = bit; shown = if shows then Some new.held else None }
      row_is =
          ap (λ (s : Option Transfer). record { ready = get_or bits number false; shown = s }) (shown (whole c.feed) (take number bits) stood)
          ∙ ap (λ (b : Bool). record { ready = b; shown = if shows then Some new.held else None }) (sym (bit_is bits bits_here))

      pub turn-first : FirstTurn (rows_after (runs_in rest whole cursors ready) stream number many) (set cursors stream new) (Some (record { stream = stream; ready = bit; shows = shows }))
      turn-first =
          subst (λ (rows : List Cycle). FirstTurn rows (set cursors stream new) (Some (record { stream = stream; ready = bit; shows = shows })))
          (sym (ap (rows_after (runs_in rest whole cursors ready) stream number) some ∙ rows-first (runs_in rest whole cursors ready) stream number m _ run_here))
          (record { cursor = new; there = slice_get-set_same cursors stream new within; is = row_is })

      pub turn-runs : runs_in rest whole (set cursors stream new) ready ≡ runs_in rest whole cursors ready
      turn-runs = runs-set cursors ready stream c new there k

      pub turn-next : rows_after (runs_in rest whole (set cursors stream new) ready) (stream + 1) number many ≡ rows_behind (rows_after (runs_in rest whole cursors ready) stream number many)
      turn-next =
          ap (λ (runs : List StreamRun). rows_after runs (stream + 1) number many) turn-runs ∙ ap (rows_after (runs_in rest whole cursors ready) (stream + 1) number) some
          ∙ rows-next (runs_in rest whole cursors ready) stream number m _ run_here (stream + 1) (omega arith)
          ∙ ap (λ (n : ℕ). rows_behind (rows_after (runs_in rest whole cursors ready) stream number n)) (sym some)

      pub turn-last : length cursors ≤ stream + 1 → rows_after (runs_in rest whole (set cursors stream new) ready) 0 (number + 1) (many - 1) ≡ rows_behind (rows_after (runs_in rest whole cursors ready) stream number many)
      turn-last past =
          let fewer : many - 1 ≡ m = omega (arith, some) in
          ap (λ (runs : List StreamRun). rows_after runs 0 (number + 1) (many - 1)) turn-runs ∙ ap (rows_after (runs_in rest whole cursors ready) 0 (number + 1)) fewer
          ∙ rows-last (runs_in rest whole cursors ready) stream number m _ run_here (number + 1) (omega arith) (omega (arith, past, runs-many cursors ready at.same))
          ∙ ap (λ (n : ℕ). rows_behind (rows_after (runs_in rest whole cursors ready) stream number n)) (sym some)

      -- the cursor that made the row stands for one cycle more
      stands_new : (d : Cursor F T) (found : List Bool) → new ≡ d → slice_get ready stream ≡ Some found → StandsFor rest d (whole d.feed) (take (number + 1) found)
      stands_new d found is here =
          let longer : take number found ++ bit ∷ [] ≡ take (number + 1) found = ap (λ (b : Bool). take number found ++ b ∷ []) (bit_is found here) ∙ sym (take_more found number false (bit-within found (omega (arith, some)) here)) in
          let before : StandsFor rest c (whole c.feed) (take number found) = subst (λ (n : ℕ). StandsFor rest c (whole c.feed) (take n found)) (made-here number stream) (at.stands stream c found there here) in
          subst (λ (x : Cursor F T). StandsFor rest x (whole x.feed) (take (number + 1) found)) is
          (subst (λ (ts : List Transfer). StandsFor rest new ts (take (number + 1) found)) (sym k.all)
          (subst (λ (l : List Bool). StandsFor rest new (whole c.feed) l) longer (stands (whole c.feed) (take number found) before)))

      pub at-next : stream + 1 < length cursors → AreAt rest whole (set cursors stream new) ready number many (stream + 1)
      at-next more = record {
        same = length-set cursors stream new ∙ at.same;
        within = λ _. omega (arith, more, length-set cursors stream new);
        over = λ none. absurd (omega (arith, none, some));
        long = at.long;
        stands = λ i d found is here. by_place i d found is here (same_or_other stream i);
      }
        where
          by_place : (i : ℕ) (d : Cursor F T) (found : List Bool) → slice_get (set cursors stream new) i ≡ Some d → slice_get ready i ≡ Some found → (stream ≡ i) ⊎ (stream ≡ i → ⊥) → StandsFor rest d (whole d.feed) (take (cycles_made number (stream + 1) i) found)
          by_place i d found is here (inl same) =
              let is_new : new ≡ d = same_some (sym (slice_get-set_same cursors stream new within) ∙ ap (slice_get (set cursors stream new)) same ∙ is) in
              subst (λ (n : ℕ). StandsFor rest d (whole d.feed) (take n found)) (sym (made-before number (stream + 1) i (omega (arith, same))))
              (stands_new d found is_new (ap (slice_get ready) same ∙ here))
          by_place i d found is here (inr other) =
              subst (λ (n : ℕ). StandsFor rest d (whole d.feed) (take n found)) (sym (made-other number stream i other))
              (at.stands i d found (sym (slice_get-set_other cursors stream i new other) ∙ is) here)

      pub at-last : length cursors ≤ stream + 1 → AreAt rest whole (set cursors stream new) ready (number + 1) (many - 1) 0
      at-last past = record {
        same = length-set cursors stream new ∙ at.same;
        within = λ more. more;
        over = λ none. refl;
        long = λ i found here. omega (arith, at.long i found here, some);
        stands = λ i d found is here. by_place i d found is here (same_or_other stream i);
      }
        where
          by_place : (i : ℕ) (d : Cursor F T) (found : List Bool) → slice_get (set cursors stream new) i ≡ Some d → slice_get ready i ≡ Some found → (stream ≡ i) ⊎ (stream ≡ i → ⊥) → StandsFor rest d (whole d.feed) (take (cycles_made (number + 1) 0 i) found)
          by_place i d found is here (inl same) =
              let is_new : new ≡ d = same_some (sym (slice_get-set_same cursors stream new within) ∙ ap (slice_get (set cursors stream new)) same ∙ is) in
              subst (λ (n : ℕ). StandsFor rest d (whole d.feed) (take n found)) (sym (made-after (number + 1) 0 i (omega arith)))
              (stands_new d found is_new (ap (slice_get ready) same ∙ here))
          by_place i d found is here (inr other) =
              let old = sym (slice_get-set_other cursors stream i new other) ∙ is in
              let less : i < stream = omega (arith, slice_get_within cursors i d old, past, other) in
              subst (λ (n : ℕ). StandsFor rest d (whole d.feed) (take n found)) (made-before number stream i less ∙ sym (made-after (number + 1) 0 i (omega arith)))
              (at.stands i d found old here)

    -- ---- a port that begins again

    pub at-start : (new : List (Cursor F T)) (all : ℕ) → all ≡ many + number → AreRewound whole rest new → KeepRuns whole cursors new → AreAt rest whole new ready 0 all 0
    at-start new all is rewound k = record {
      same = k.many ∙ at.same;
      within = λ some. some;
      over = λ none. refl;
      long = λ i found here. omega (arith, at.long i found here, is);
      stands = λ i c found there here. subst (λ (n : ℕ). StandsFor rest c (whole c.feed) (take n found)) (sym (made-after 0 0 i (omega arith))) (rewound.each i c there);
    }

    -- ---- a port that is over

    module _ (over : rows_after (runs_in rest whole cursors ready) stream number many ≡ []) (i : ℕ) (below : i < length (undone_in (runs_in rest whole cursors ready))) where
      pub within_cursors : i < length cursors
      within_cursors = omega (arith, below, length-map-undone (runs_in rest whole cursors ready), runs-many cursors ready at.same)
        where
          length-map-undone : (runs : List StreamRun) → length (undone_in runs) ≡ length runs
          length-map-undone [] = refl
          length-map-undone (r ∷ runs) = omega (arith, length-map-undone runs)

      none_left : many ≡ 0
      none_left = by_many many refl over
        where
          here : (c : Cursor F T) × (slice_get cursors stream ≡ Some c)
          here = slice_get-there cursors stream (at.within (omega (arith, within_cursors)))

          by_many : (n : ℕ) → many ≡ n → rows_after (runs_in rest whole cursors ready) stream number n ≡ [] → many ≡ 0
          by_many zero is none = is
          by_many (suc m) is none =
              let found = bits-there stream (slice_get_within cursors stream here.0 here.1) in
              let clash = sym (rows-first (runs_in rest whole cursors ready) stream number m _ (run-there cursors ready stream here.0 found.0 here.1 found.1)) ∙ none in
              absurd cc

      pub left-over : (c : Cursor F T) (left : ℕ) → slice_get cursors i ≡ Some c → ((ts : List Transfer) (before : List Bool) → StandsFor rest c ts before → left ≡ undone c.params ts c.gaps before) → left ≡ get_or (undone_in (runs_in rest whole cursors ready)) i 0
      left-over c left there counts =
          let found = bits-there i within_cursors in
          let none : stream ≡ 0 = at.over none_left in
          let made : cycles_made number stream i ≡ number = ap (λ (s : ℕ). cycles_made number s i) none ∙ made-after number 0 i (omega arith) in
          let all : take (cycles_made number stream i) found.0 ≡ found.0 = take_all (cycles_made number stream i) found.0 (omega (arith, made, at.long i found.0 found.1, none_left)) in
          counts (whole c.feed) found.0 (subst (λ (l : List Bool). StandsFor rest c (whole c.feed) l) all (at.stands i c found.0 there found.1))
          ∙ undone-there (runs_in rest whole cursors ready) i _ (run-there cursors ready i c found.0 there found.1)
