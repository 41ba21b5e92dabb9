-- One cycle of a reshaper.
use Rattle.std.proofs.Common.{◌≡◌, ◌∙◌, ◌≤◌, Bool, true, false, not, ◌&&◌, if◌then◌else◌, List, [], ◌∷◌, ◌++◌, Option, None, Some, refl, sym, ap, append_assoc}
use Rattle.std.specs.Option.{option_copied, option_to_list}
use Rattle.std.proofs.lemmas.List.{append-nil}
use Rattle.std.proofs.lemmas.Grind.{flat_map-append}
use Rattle.physical_stream.specs.Params.{Parameters}
use Rattle.physical_stream.specs.Cycles.{cycle_in, done_in, items_done}
use Rattle.physical_stream.specs.Items.{items_of, items_of_all}
use Rattle.physical_stream.specs.declared.item.Item.{Item}
use Rattle.physical_stream.specs.declared.row.Row.{Row}
use Rattle.physical_stream.specs.declared.transfer.Transfer.{Transfer}
use Rattle.scheduler.specs.Laws.{AreItems}
use Rattle.scheduler.specs.Planned.{first_user, first_wish}
use Rattle.scheduler.proofs.LoadLemmas.{carries}
use Rattle.reshape.specs.Kept.{items_left}
use Rattle.reshape.specs.Reshaping.{behind_front, front_of, is_due, offered}

-- ---- items of a cycle

pub items-none : (p : Parameters) (row : Row) → row.ready ≡ false → items_done p (cycle_in row ∷ []) ≡ []
items-none p row is = let none : done_in (cycle_in row) ≡ [] = rw is refl in ap (λ (ts : List Transfer). items_of_all p (ts ++ [])) none

pub items-shown : (p : Parameters) (row : Row) (t : Transfer) → row.ready ≡ true → option_copied row.shown ≡ Some t → items_done p (cycle_in row ∷ []) ≡ items_of p t
items-shown p row t is shown =
    let one : done_in (cycle_in row) ≡ t ∷ [] = rw is (ap option_to_list shown) in
    ap (λ (ts : List Transfer). items_of_all p (ts ++ [])) one ∙ append-nil (items_of p t)

pub items-hidden : (p : Parameters) (row : Row) → option_copied row.shown ≡ None → items_done p (cycle_in row ∷ []) ≡ []
items-hidden p row shown = by_ready row.ready
  where
    by_ready : (ready : Bool) → items_of_all p ((if ready then option_to_list (option_copied row.shown) else []) ++ []) ≡ []
    by_ready true = ap (λ (o : Option Transfer). items_of_all p (option_to_list o ++ [])) shown
    by_ready false = refl

-- ---- what leaves

-- the items of the transfer that leaves, and those that stay, are those of the buffer
pub leaves-all : (p : Parameters) (ended taken : Bool) (buffer : List Item) → 1 ≤ p.lanes → AreItems p buffer →
    items_of_all p (done_in (record { ready = taken; shown = offered p ended buffer })) ++ items_left p (is_due p ended buffer) taken buffer ≡ buffer
leaves-all p ended taken buffer some fit = by_due (is_due p ended buffer) taken
  where
    by_due : (due now : Bool) → items_of_all p (if now then option_to_list (if due then Some (front_of p buffer) else None) else []) ++ (if due && now then behind_front p buffer else buffer) ≡ buffer
    by_due true true =
        ap (λ (l : List Item). l ++ behind_front p buffer) (append-nil (items_of p (front_of p buffer))) ∙ carries p (first_wish p []) (first_user p []) buffer some fit
    by_due true false = refl
    by_due false true = refl
    by_due false false = refl

pub items_of_all-append : (p : Parameters) (one other : List Transfer) → items_of_all p (one ++ other) ≡ items_of_all p one ++ items_of_all p other
items_of_all-append p one other = flat_map-append (items_of p) one other

-- what a reshaper stands for goes on with what enters and what leaves
pub stands-on : (p : Parameters) (ended taken : Bool) (buffer next given more : List Item) (out : List Transfer) → 1 ≤ p.lanes → AreItems p buffer → items_of_all p out ++ buffer ≡ given →
    next ≡ items_left p (is_due p ended buffer) taken buffer ++ more → items_of_all p (out ++ done_in (record { ready = taken; shown = offered p ended buffer })) ++ next ≡ given ++ more
stands-on p ended taken buffer next given more out some fit stands is =
    let gone = done_in (record { ready = taken; shown = offered p ended buffer }) in
    let left = items_left p (is_due p ended buffer) taken buffer in
    ap (λ (l : List Item). items_of_all p (out ++ done_in (record { ready = taken; shown = offered p ended buffer })) ++ l) is
    ∙ ap (λ (l : List Item). l ++ (items_left p (is_due p ended buffer) taken buffer ++ more)) (items_of_all-append p out (done_in (record { ready = taken; shown = offered p ended buffer })))
    ∙ sym (append_assoc (items_of_all p out ++ items_of_all p (done_in (record { ready = taken; shown = offered p ended buffer }))) (items_left p (is_due p ended buffer) taken buffer) more)
    ∙ ap (λ (l : List Item). l ++ more)
    (append_assoc (items_of_all p out) (items_of_all p (done_in (record { ready = taken; shown = offered p ended buffer }))) (items_left p (is_due p ended buffer) taken buffer)
    ∙ ap (λ (l : List Item). items_of_all p out ++ l) (leaves-all p ended taken buffer some fit) ∙ stands)

-- a front that leaves, as a place in the buffer
pub leaves-front : (p : Parameters) (due taken : Bool) (buffer next behind more : List Item) → due ≡ true → taken ≡ true → behind_front p buffer ≡ behind → next ≡ behind → more ≡ [] → next ≡ items_left p due taken buffer ++ more
leaves-front p due taken buffer next behind more was now rest is none =
    is ∙ sym rest ∙ sym (append-nil (behind_front p buffer)) ∙ sym (ap (λ (l : List Item). items_left p due taken buffer ++ l) none ∙ rw (was, now) refl)

-- a transfer that is offered and not made anew is still that of the front
pub shows-on : (p q : Parameters) → q ≡ p → (buffer next more : List Item) (was taken now stays wanted : Bool) (before after : Transfer) → (was ≡ true → before ≡ front_of p buffer) → next ≡ items_left p was taken buffer ++ more →
    (was ≡ true → more ≡ []) → stays ≡ (was && not taken) → wanted ≡ (now && not stays) → (wanted ≡ true → after ≡ front_of q next) → (wanted ≡ false → after ≡ before) → now ≡ true → after ≡ front_of q next
shows-on p q same buffer next more true false now stays wanted before after shown is none stays_is wanted_is made kept here =
    let not_wanted : wanted ≡ false = wanted_is ∙ rw (here, stays_is) refl in
    let all : next ≡ buffer = is ∙ ap (λ (l : List Item). buffer ++ l) (none refl) ∙ append-nil buffer in
    kept not_wanted ∙ shown refl ∙ ap (front_of p) (sym all) ∙ ap (λ (r : Parameters). front_of r next) (sym same)
shows-on p q same buffer next more true true now stays wanted before after shown is none stays_is wanted_is made kept here = made (wanted_is ∙ rw (here, stays_is) refl)
shows-on p q same buffer next more false taken now stays wanted before after shown is none stays_is wanted_is made kept here = made (wanted_is ∙ rw (here, stays_is) refl)
