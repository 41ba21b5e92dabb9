-- Which file a command leaves started.
use Rattle.std.proofs.Common.{◌≡◌, ℕ, inl, inr, ⊎_elim, List, [], ◌∷◌, Option, None, Some, IfSome, MatchOption, is_none, Bool, false, cond, refl, sym, ap, ◌∙◌, subst, Result, Ok, Err}
use Rattle.tydi_io.specs.Store.{Files}
use Rattle.tydi_tool.specs.declared.answer.Answer.{Answer}
use Rattle.tydi_tool.specs.declared.answer.Reply.{Reply}
use Rattle.tydi_tool.specs.declared.answer.Reply.TheVariants as replies
use Rattle.tydi_tool.specs.Words.{FileWord}
use Rattle.tydi_tool.specs.Files.{Lack, NoFile, IsFound, IsPulled, GivenWithin, IsGiven, bytes_within}
use Rattle.tydi_tool.specs.Ask.{Ask, Ends, Asks, Judges, Stops, DecidedBy, Decides, AsksFor, AsksSome}
use Rattle.tydi_tool.specs.Started.{IsOneOf, IsPulledOut, IsGivenOne, NamesStarted, first_lacking, Leaves}
use Rattle.tydi_tool.proofs.FileLemmas.{IsGiven-pulled_out}

there : (limit : ℕ) (found : Option (List ℕ)) (bytes : List ℕ) → bytes_within limit found ≡ Ok bytes → is_none found ≡ false
there limit None bytes h = let e : ◌≡◌ {A = Result (List ℕ) Lack} (Err NoFile) (Ok bytes) = h in cc
there limit (Some found) bytes h = refl

-- the word of a file that is given is that of the started file, or the first that is lacking
names : (known : Files) (all : List FileWord) (file : FileWord) (started : Option (List ℕ × ℕ)) → IsGiven known file started →
    (known file.word ≡ None → first_lacking known all ≡ Some file.word) → NamesStarted known all started file.word
names known all file started given lacking = by_file (known file.word) refl
  where
    by_file : (found : Option (List ℕ)) → known file.word ≡ found → NamesStarted known all started file.word
    by_file None is =
        let none : started ≡ None = subst (λ (found : Option (List ℕ)). MatchOption found (started ≡ None) (λ bytes. GivenWithin file bytes started)) is given in
        subst (λ (s : Option (List ℕ × ℕ)). NamesStarted known all s file.word) (sym none) (lacking is)
    by_file (Some bytes) is =
        let within : GivenWithin file bytes started = subst (λ (found : Option (List ℕ)). MatchOption found (started ≡ None) (λ all. GivenWithin file all started)) is given in
        subst (λ (s : Option (List ℕ × ℕ)). NamesStarted known all s file.word) (sym within.place) refl

-- the facts about the files that are left, among all files: each is one of them, and those before are there
record Left (told : Option Files) (all files : List FileWord) : Type 0 where
  named : (file : FileWord) → IsOneOf files file → IsOneOf all file
  lacking : IfSome told (λ known. (word : List ℕ) → first_lacking known files ≡ Some word → first_lacking known all ≡ Some word)

Left-all : (told : Option Files) (all : List FileWord) → Left told all all
Left-all None all = record { named = λ file among. among; lacking = tt }
Left-all (Some known) all = record { named = λ file among. among; lacking = λ word e. e }

module _ (all : List FileWord) (old new : Option (List ℕ × ℕ)) (rose : Type 0) where
  pulled_one : (told : Option Files) (file : FileWord) → IsOneOf all file → IsPulled told file new → IfSome told (λ known. IsPulledOut known all new)
  pulled_one None file named place = tt
  pulled_one (Some known) file named place = record { file = file; named = named; place = place }

  given_one : (told : Option Files) (file : FileWord) → IsOneOf all file → IfSome told (λ known. IsGiven known file new) → IfSome told (λ known. IsGivenOne known all new)
  given_one None file named given = tt
  given_one (Some known) file named given = record { file = file; named = named; given = given }

  given_by : (told : Option Files) → IfSome told (λ known. IsPulledOut known all new) → IfSome told (λ known. IsGivenOne known all new)
  given_by None out = tt
  given_by (Some known) out = record { file = out.file; named = out.named; given = IsGiven-pulled_out known out.file new out.place }

  wants : (told : Option Files) → IfSome told (λ known. IsGivenOne known all new) → Leaves told all old new rose replies.Memory
  wants None given = tt
  wants (Some known) given = inr given

  stopped : (told : Option Files) (here : Type 0) (first : FileWord) (more : List FileWord) (file : FileWord) (reply : Reply) → Left told all (first ∷ more) → file ≡ first →
      (here → Leaves told all old new rose replies.Memory) → Stops told file new rose here reply → Leaves told all old new rose reply
  stopped told here first more file (replies.Says a) left is held s = pulled_one told file (left.named file (inl is)) s.1.1.1
  stopped told here first more file (replies.ReadFault line) left is held s = record {
    rose = s.0;
    file = file;
    named = left.named file (inl is);
    says = s.1.0;
    starts = starts told left s.1.1;
  }
    where
      starts : (told : Option Files) → Left told all (first ∷ more) → IfSome told (λ known. IsGiven known file new) →
          IfSome told (λ known. IsGivenOne known all new × NamesStarted known all new file.word)
      starts None left given = tt
      starts (Some known) left given = (
        record { file = file; named = left.named file (inl is); given = given },
        names known all file new given (λ none. left.lacking file.word
            (ap (λ (f : FileWord). first_lacking known (f ∷ more)) (sym is) ∙ ap (λ (found : Option (List ℕ)). cond (is_none found) (Some file.word) (first_lacking known more)) none)),
      )
  stopped told here first more file replies.Memory left is held s = ⊎_elim held (λ given. wants told (given_one told file (left.named file (inl is)) given)) s

  later : (told : Option Files) (first : FileWord) (more : List FileWord) (file : FileWord) (bytes : List ℕ) → Left told all (first ∷ more) → file ≡ first → IsFound told file (Ok bytes) → Left told all more
  later told first more file bytes left is found = record { named = λ f among. left.named f (inr among); lacking = lacks told left found }
    where
      lacks : (told : Option Files) → Left told all (first ∷ more) → IsFound told file (Ok bytes) →
          IfSome told (λ known. (word : List ℕ) → first_lacking known more ≡ Some word → first_lacking known all ≡ Some word)
      lacks None left found = tt
      lacks (Some known) left found = λ word e. left.lacking word
          (ap (λ (f : FileWord). first_lacking known (f ∷ more)) (sym is)
          ∙ ap (λ (b : Bool). cond b (Some file.word) (first_lacking known more)) (there file.limit (known file.word) bytes found) ∙ e)

  ended : (Tells : Answer → Type 0) (told : Option Files) (reply : Reply) → IfSome told (λ known. IsPulledOut known all new) → Judges Tells reply → Leaves told all old new rose reply
  ended Tells told (replies.Says a) out judged = out
  ended Tells told (replies.ReadFault line) out judged = absurd judged
  ended Tells told replies.Memory out judged = wants told (given_by told out)

module _ (all : List FileWord) (old new : Option (List ℕ × ℕ)) (rose : Type 0) where
  leaves : (told : Option Files) (files : List FileWord) (here : Type 0) (ask : Ask) (reply : Reply) → AsksFor files ask → Left told all files →
      (here → IfSome told (λ known. IsPulledOut known all new)) → DecidedBy told new rose here ask reply → Leaves told all old new rose reply
  leaves told files here (Ends Tells) reply for left out d = ended all old new rose Tells told reply (out d.1) d.0
  leaves told [] here (Asks file X Reads next) reply for left out d = absurd for
  leaves told (first ∷ more) here (Asks file X Reads next) reply for left out (inl s) =
      stopped all old new rose told here first more file reply left for.0 (λ h. wants all old new rose told (given_by all old new rose told (out h))) s
  leaves told (first ∷ more) here (Asks file X Reads next) reply for left out (inr (bytes, (found, inl bad))) =
      subst (Leaves told all old new rose) (sym bad.1.1.0) (pulled_one all old new rose told file (left.named file (inl for.0)) bad.1.1.1)
  leaves told (first ∷ more) here (Asks file X Reads next) reply for left out (inr (bytes, (found, inr good))) =
      leaves told more (IsPulled told file new) (next good.0) reply (for.1 good.0)
      (later all old new rose told first more file bytes left for.0 found) (pulled_one all old new rose told file (left.named file (inl for.0))) good.1.1

  -- for a command that asks for a file at all
  pub Leaves-decided : (told : Option Files) (ask : Ask) (reply : Reply) → AsksFor all ask → AsksSome ask → Decides told old new rose ask reply → Leaves told all old new rose reply
  Leaves-decided told (Ends Tells) reply for some d = absurd some
  Leaves-decided told (Asks file X Reads next) reply for some d = first_file told all (Left-all told all) for d
    where
      unmoved : (told : Option Files) → IfSome told (λ known. new ≡ old) → Leaves told all old new rose replies.Memory
      unmoved None here = tt
      unmoved (Some known) here = inl here

      first_file : (told : Option Files) (files : List FileWord) → Left told all files → AsksFor files (Asks file X Reads next) → Decides told old new rose (Asks file X Reads next) reply → Leaves told all old new rose reply
      first_file told [] left for d = absurd for
      first_file told (one ∷ more) left for (inl s) = stopped all old new rose told (IfSome told (λ known. new ≡ old)) one more file reply left for.0 (unmoved told) s
      first_file told (one ∷ more) left for (inr d) = leaves told (one ∷ more) ⊥ (Asks file X Reads next) reply for left (λ no. absurd no) (inr d)
