-- The files that a command asks for, its reply and its answer, whatever its files are.
use Rattle.std.proofs.Common.{refl, sym, ◌≡◌, ℕ, ◌≤◌, ◌⊎◌, inl, inr, List, Option, None, Some, IfSome, ◌∙◌, subst, arith, Result, Ok, Err, ⊎_elim}
use Rattle.tydi_io.specs.Faults.{Rose}
use Rattle.tydi_io.specs.Store.{Files}
use Rattle.tydi_tool.specs.declared.answer.Answer.{Answer}
use Rattle.tydi_tool.specs.declared.answer.Reply.{Reply}
use Rattle.tydi_tool.specs.declared.answer.Reply.TheVariants as replies
use Rattle.tydi_tool.specs.Words.{FileWord}
use Rattle.tydi_tool.specs.Files.{IsPulled}
use Rattle.tydi_tool.specs.Refusals.{Refusal}
use Rattle.tydi_tool.specs.Reading.{IsRefusedBy, refusal_in}
use Rattle.tydi_tool.specs.Ask.{Ask, Ends, Asks, SaysBy, Judges, Stops, DecidedBy, Decides, IsAsked, TellsOf, goes_on}

Stops-weaken : (told : Option Files) (file : FileWord) (new : Option (List ℕ × ℕ)) (rose rose' here here' : Type 0) (reply : Reply) → (rose → rose') → (here → here') →
    Stops told file new rose here reply → Stops told file new rose' here' reply
Stops-weaken told file new rose rose' here here' (replies.Says a) more place s = s
Stops-weaken told file new rose rose' here here' (replies.ReadFault line) more place s = (more s.0, s.1)
Stops-weaken told file new rose rose' here here' replies.Memory more place s = ⊎_elim (λ h. inl (place h)) (λ given. inr given) s

-- faults that rose since an earlier time, and a place that says more
pub DecidedBy-weaken : (told : Option Files) (new : Option (List ℕ × ℕ)) (rose rose' here here' : Type 0) (ask : Ask) (reply : Reply) → (rose → rose') → (here → here') →
    DecidedBy told new rose here ask reply → DecidedBy told new rose' here' ask reply
DecidedBy-weaken told new rose rose' here here' (Ends Tells) reply more place d = (d.0, place d.1)
DecidedBy-weaken told new rose rose' here here' (Asks file X Reads next) reply more place (inl s) = inl (Stops-weaken told file new rose rose' here here' reply more place s)
DecidedBy-weaken told new rose rose' here here' (Asks file X Reads next) reply more place (inr d) =
    inr (
      d.0,
      (
        d.1.0,
        ⊎_elim (λ bad. inl bad)
            (λ good. inr (good.0, (good.1.0, DecidedBy-weaken told new rose rose' (IsPulled told file new) (IsPulled told file new) (next good.0) reply more (λ p. p) good.1.1))) d.1.1,
      ),
    )

says_of : (a b : Answer) → replies.Says a ≡ replies.Says b → a ≡ b
says_of a b e = cc

-- a decided answer is the answer that the command says
pub SaysBy-decided : (told : Option Files) (new : Option (List ℕ × ℕ)) (rose here : Type 0) (ask : Ask) (a : Answer) →
    DecidedBy told new rose here ask (replies.Says a) → SaysBy told ask a
SaysBy-decided told new rose here (Ends Tells) a d = d.0
SaysBy-decided told new rose here (Asks file X Reads next) a (inl s) = (Err s.0, (s.1.0, s.1.1.0))
SaysBy-decided told new rose here (Asks file X Reads next) a (inr d) = (
  Ok d.0,
  (
    d.1.0,
    ⊎_elim (λ bad. inl (bad.0, (bad.1.0, says_of a _ bad.1.1.0)))
        (λ good. inr (good.0, (good.1.0, SaysBy-decided told new rose (IsPulled told file new) (next good.0) a good.1.1))) d.1.1,
  ),
)

-- ---- a file of a command that was asked for

-- it decides the reply
pub DecidedBy-asked : (file : FileWord) (X : Type 0) (Reads : List ℕ → Result X (List ℕ) → Type 0) (next : X → Ask) (told : Option Files) (old new : Option (List ℕ × ℕ)) (rose : Type 0) (reply : Reply) →
    IsAsked told file Reads old new rose (Err reply) → Decides told old new rose (Asks file X Reads next) reply
DecidedBy-asked file X Reads next told old new rose reply (inl s) = inl s
DecidedBy-asked file X Reads next told old new rose reply (inr d) = inr (d.0, (d.1.0, inl d.1.1))

here_now : (told : Option Files) (old : Option (List ℕ × ℕ)) → IfSome told (λ known. old ≡ old)
here_now None old = tt
here_now (Some known) old = refl

-- there was no memory for its reader
pub Decides-wanted : (file : FileWord) (X : Type 0) (Reads : List ℕ → Result X (List ℕ) → Type 0) (next : X → Ask) (told : Option Files) (old : Option (List ℕ × ℕ)) (rose : Type 0) →
    Decides told old old rose (Asks file X Reads next) replies.Memory
Decides-wanted file X Reads next told old rose = inl (inl (here_now told old))

-- it was read, and the command is decided over the store as it is
pub DecidedBy-then : (file : FileWord) (X : Type 0) (Reads : List ℕ → Result X (List ℕ) → Type 0) (next : X → Ask) (told : Option Files) (old new : Option (List ℕ × ℕ)) (rose here : Type 0) (x : X) (reply : Reply) →
    IsAsked told file Reads old new rose (Ok x) → DecidedBy told new rose (IsPulled told file new) (next x) reply → DecidedBy told new rose here (Asks file X Reads next) reply
DecidedBy-then file X Reads next told old new rose here x reply asked rest = inr (asked.0, (asked.1.0, inr (x, (asked.1.1.0, rest))))

-- it was read, and the command ends
pub DecidedBy-last : (file : FileWord) (X : Type 0) (Reads : List ℕ → Result X (List ℕ) → Type 0) (Tells : X → Answer → Type 0) (told : Option Files) (old new : Option (List ℕ × ℕ)) (rose here : Type 0) (x : X) (reply : Reply) →
    IsAsked told file Reads old new rose (Ok x) → Judges (Tells x) reply → DecidedBy told new rose here (Asks file X Reads (λ y. Ends (Tells y))) reply
DecidedBy-last file X Reads Tells told old new rose here x reply asked judges = inr (asked.0, (asked.1.0, inr (x, (asked.1.1.0, (judges, asked.1.1.1)))))

Rose-since : (a b c : ℕ) → a ≤ b → Rose b c → Rose a c
Rose-since a b c le (inl more) = inl (omega (arith, le, more))
Rose-since a b c le (inr most) = inr most

stands_on : (told : Option Files) (file : FileWord) (mid new : Option (List ℕ × ℕ)) → IsPulled told file mid → IfSome told (λ known. new ≡ mid) → IsPulled told file new
stands_on None file mid new at same = tt
stands_on (Some known) file mid new at same = same ∙ at

-- it was read, and the command goes on over the store that the call left
pub DecidedBy-rest : (file : FileWord) (X : Type 0) (Reads : List ℕ → Result X (List ℕ) → Type 0) (next : X → Ask)
    (told told' : Option Files) (old mid new : Option (List ℕ × ℕ)) (f g h : ℕ) (here : Type 0) (x : X) (reply : Reply) → told' ≡ told → f ≤ g →
    IsAsked told file Reads old mid (Rose f g) (Ok x) → DecidedBy told' new (Rose g h) (IfSome told' (λ known. new ≡ mid)) (next x) reply →
    DecidedBy told new (Rose f h) here (Asks file X Reads next) reply
DecidedBy-rest file X Reads next told told' old mid new f g h here x reply same later asked rest =
    let rest' : DecidedBy told new (Rose g h) (IfSome told (λ known. new ≡ mid)) (next x) reply =
    subst (λ (t : Option Files). DecidedBy t new (Rose g h) (IfSome t (λ known. new ≡ mid)) (next x) reply) same rest in
    inr (
      asked.0,
      (
        asked.1.0,
        inr (
          x,
          (
            asked.1.1.0,
            DecidedBy-weaken told new (Rose g h) (Rose f h) (IfSome told (λ known. new ≡ mid)) (IsPulled told file new) (next x) reply
                (Rose-since f g h later) (stands_on told file mid new asked.1.1.1) rest',
          ),
        ),
      ),
    )

-- ---- a step of a command

-- a command that runs out of memory before it starts one more file
wanted_before : (told : Option Files) (new : Option (List ℕ × ℕ)) (rose here : Type 0) (ask : Ask) → here → DecidedBy told new rose here ask replies.Memory
wanted_before told new rose here (Ends Tells) at = (tt, at)
wanted_before told new rose here (Asks file X Reads next) at = inl (inl at)

-- a step gave the expected value, and the command goes on with it
pub DecidedBy-goes_on : {V : Type 0} (told : Option Files) (new : Option (List ℕ × ℕ)) (rose here : Type 0) (wanted : Result V Refusal) (next : V → Ask) (v : V) (reply : Reply) →
    wanted ≡ Ok v → DecidedBy told new rose here (next v) reply → DecidedBy told new rose here (goes_on wanted next) reply
DecidedBy-goes_on {V} told new rose here wanted next v reply is rest = subst (λ (w : Result V Refusal). DecidedBy told new rose here (goes_on w next) reply) (sym is) rest

-- it gave the reply
pub DecidedBy-refused : {V : Type 0} (told : Option Files) (new : Option (List ℕ × ℕ)) (rose here : Type 0) (wanted : Result V Refusal) (next : V → Ask) (reply : Reply) →
    here → IsRefusedBy (refusal_in wanted) reply → DecidedBy told new rose here (goes_on wanted next) reply
DecidedBy-refused told new rose here (Ok v) next reply at memory = subst (DecidedBy told new rose here (next v)) (sym memory) (wanted_before told new rose here (next v) at)
DecidedBy-refused told new rose here (Err refusal) next reply at (inl says) = subst (DecidedBy told new rose here (goes_on (Err refusal) next)) (sym says) (refl, at)
DecidedBy-refused told new rose here (Err refusal) next reply at (inr memory) = subst (DecidedBy told new rose here (goes_on (Err refusal) next)) (sym memory) (tt, at)

-- the step is the last
pub DecidedBy-told : {V : Type 0} (told : Option Files) (new : Option (List ℕ × ℕ)) (rose here : Type 0) (wanted : Result V Refusal) (Tells : V → Answer → Type 0) (reply : Reply) →
    here → Judges (TellsOf wanted Tells) reply → DecidedBy told new rose here (goes_on wanted (λ v. Ends (Tells v))) reply
DecidedBy-told told new rose here (Ok v) Tells reply at judges = (judges, at)
DecidedBy-told told new rose here (Err refusal) Tells reply at judges = (judges, at)

pub Judges-told : {V : Type 0} (wanted : Result V Refusal) (Tells : V → Answer → Type 0) (v : V) (reply : Reply) → wanted ≡ Ok v → Judges (Tells v) reply → Judges (TellsOf wanted Tells) reply
Judges-told {V} wanted Tells v reply is judges = subst (λ (w : Result V Refusal). Judges (TellsOf w Tells) reply) (sym is) judges

pub Judges-refused : {V : Type 0} (wanted : Result V Refusal) (Tells : V → Answer → Type 0) (reply : Reply) → IsRefusedBy (refusal_in wanted) reply → Judges (TellsOf wanted Tells) reply
Judges-refused (Ok v) Tells reply memory = subst (Judges (Tells v)) (sym memory) tt
Judges-refused (Err refusal) Tells reply (inl says) = subst (Judges (TellsOf (Err refusal) Tells)) (sym says) refl
Judges-refused (Err refusal) Tells reply (inr memory) = subst (Judges (TellsOf (Err refusal) Tells)) (sym memory) tt

pub Judges-either : (answer : Answer) (reply : Reply) → (reply ≡ replies.Says answer) ⊎ (reply ≡ replies.Memory) → Judges (λ a. a ≡ answer) reply
Judges-either answer reply (inl says) = subst (Judges (λ a. a ≡ answer)) (sym says) refl
Judges-either answer reply (inr memory) = subst (Judges (λ a. a ≡ answer)) (sym memory) tt
