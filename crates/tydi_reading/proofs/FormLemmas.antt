-- Forms one after another.
use Rattle.std.proofs.Common.{◌≡◌, Bool, false, List, ◌++◌, refl, sym, ap, ◌∙◌, subst, append_assoc}
use Rattle.tydi_reading.specs.Forms.{Form, ◌⋯◌, GoesOn}
use Rattle.tydi_reading.specs.Reading.{tells}

-- a list of the one form, and then a list of the other
pub joins : {T : Type 0} {First Second : Form T} (front back : List T) → First front → Second back → (First ⋯ Second) (front ++ back)
joins front back begins ends = record { front = front; back = back; all = refl; begins = begins; ends = ends }

-- three forms grouped to the left are the same forms grouped to the right
pub regroup : {T : Type 0} {First Second Third : Form T} {ts : List T} → ((First ⋯ Second) ⋯ Third) ts → (First ⋯ (Second ⋯ Third)) ts
regroup s = let b = s.begins in record {
  front = b.front;
  back = b.back ++ s.back;
  all = s.all ∙ ap (λ l. l ++ s.back) b.all ∙ append_assoc b.front b.back s.back;
  begins = b.begins;
  ends = joins b.back s.back b.ends s.ends;
}

pub ungroup : {T : Type 0} {First Second Third : Form T} {ts : List T} → (First ⋯ (Second ⋯ Third)) ts → ((First ⋯ Second) ⋯ Third) ts
ungroup s = let b = s.ends in record {
  front = s.front ++ b.front;
  back = b.back;
  all = s.all ∙ ap (λ l. s.front ++ l) b.all ∙ sym (append_assoc s.front b.front b.back);
  begins = joins s.front b.front s.begins b.begins;
  ends = b.ends;
}

-- the same front, and another form of what follows it
pub with_ends : {T : Type 0} {First Second Other : Form T} {ts : List T} (s : (First ⋯ Second) ts) → Other s.back → (First ⋯ Other) ts
with_ends s ends = record { front = s.front; back = s.back; all = s.all; begins = s.begins; ends = ends }

-- the things that may follow, where the form begins so
pub follows-front : {T : Type 0} (Next First Second : Form T) (back rest : List T) → ((front rest : List T) → First front → Next (front ++ rest))
    → (First ⋯ Second) back → Next (back ++ rest)
follows-front Next First Second back rest follow s =
    subst Next (sym (ap (λ l. l ++ rest) s.all ∙ append_assoc s.front s.back rest)) (follow s.front (s.back ++ rest) s.begins)

-- the answer of a test of the next thing, where the form begins so
pub front-tells : {T : Type 0} (test : T → Bool) (b : Bool) (First Second : Form T) (front rest : List T)
    → ((front rest : List T) → First front → tells test false (front ++ rest) ≡ b) → (First ⋯ Second) front → tells test false (front ++ rest) ≡ b
front-tells test b First Second front rest one = follows-front (λ ts. tells test false ts ≡ b) First Second front rest one

-- a list that goes on to a thing of the one form goes on to one of the other
pub goes_as : {T A B : Type 0} {Good : T → Type 0} {One : A → Form T} {Other : B → Form T} {front : List T} (f : A → B)
    → ((x : A) (ts : List T) → One x ts → Other (f x) ts) → GoesOn Good One front → GoesOn Good Other front
goes_as f to g = record { value = f g.value; more = g.more; good = g.good; spelled = to g.value _ g.spelled }
