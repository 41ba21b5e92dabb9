-- The answer to a declared test: there is one, and one alone.
use Rattle.std.proofs.Common.{◌≡◌, ℕ, inl, inr, List, Option, Some, None, Result, Ok, Err, refl, sym, ◌∙◌, subst}
use Rattle.logical_value.specs.Tree.{plain_port}
use Rattle.port_bench.specs.Benches.{bench_text_of}
use Rattle.til_resolve.specs.PlainProject.{PlainPort, PlainProject}
use Rattle.til_resolve.specs.SoundProject.{IsSoundProject}
use Rattle.til_resolve.specs.declared.project.Test.{Test}
use Rattle.type_split.specs.Streams.{PlainSplit, clash_of}
use Rattle.tydi_tool.specs.declared.answer.Answer.{Answer}
use Rattle.tydi_tool.specs.declared.answer.Answer.TheVariants as answers
use Rattle.tydi_tool.specs.Ask.{SaysOfBytes}
use Rattle.tydi_tool.specs.Drives.{TellsBench, carried}
use Rattle.tydi_tool.specs.Laws.{HasSome}
use Rattle.tydi_tool.specs.Ports.{split_unless}
use Rattle.tydi_tool.specs.Refusals.{no_test, refusal_line}
use Rattle.tydi_tool.specs.Tests.{TellsFound, TellsPlanned, TellsPort, TellsSplit, TellsTest, TellsTexts, plan_word, test_named, tested_port, value_word}
use Rattle.tydi_tool.specs.Texts.{ReadsPlan, ReadsValue}
use Rattle.tydi_tool.proofs.AnswerLemmas.{SaysOfBytes-one}
use Rattle.tydi_tool.proofs.DriveLemmas.{made-one, made-some, tells-one, tells-some}
use Rattle.tydi_tool.proofs.TestLemmas.{port-there, test-inside}
use Rattle.tydi_tool.proofs.TextLemmas.{ReadsPlan-once, ReadsPlan-some, ReadsValue-once, ReadsValue-some}

-- ---- a text that stands in another

module _ {X : Type 0} (Reads : List ℕ → Result X (List ℕ) → Type 0) (Rest : X → Answer → Type 0) (bytes : List ℕ) where
  -- the answer to what is read of it, or the refusal
  abbrev Says : Answer → Type 0
  Says a = SaysOfBytes {X = X} Reads (λ x. Rest x a) bytes a

  says-some : HasSome (Result X (List ℕ)) (Reads bytes) → ((x : X) → Reads bytes (Ok x) → HasSome Answer (Rest x)) → HasSome Answer Says
  says-some some rest none = some by
    where
      by : (read : Result X (List ℕ)) → Reads bytes read → ⊥
      by (Ok x) reads = rest x reads (λ a tells. none a (inr (x, (reads, tells))))
      by (Err line) reads = none (answers.Refused line) (inl (line, (reads, refl)))

-- ---- one answer, and some

module _ (word : List ℕ) (test : Test) where
  module _ (split : PlainSplit) where
    texts-one : (a b : Answer) → TellsTexts word split test a → TellsTexts word split test b → a ≡ b
    texts-one a b p q =
        SaysOfBytes-one (ReadsValue (value_word word) split) (λ value c. TellsPlanned word split test value c) test.value a b (ReadsValue-once (value_word word) split)
        (λ value reads x y. SaysOfBytes-one (ReadsPlan (plan_word word) split) (λ plan c. TellsBench split value plan c) test.plan a b (ReadsPlan-once (plan_word word) split)
        (λ plan reads x y. made-one split (bench_text_of split (plain_port value) plan) a b x y) x y) p q

    texts-some : HasSome Answer (TellsTexts word split test)
    texts-some =
        says-some (ReadsValue (value_word word) split) (λ value c. TellsPlanned word split test value c) test.value (ReadsValue-some (value_word word) split test.value)
        (λ value reads. says-some (ReadsPlan (plan_word word) split) (λ plan c. TellsBench split value plan c) test.plan (ReadsPlan-some (plan_word word) split test.plan)
        (λ plan reads. made-some split (bench_text_of split (plain_port value) plan)))

  port-one : (port : Option PlainPort) (a b : Answer) → TellsPort word test port a → TellsPort word test port b → a ≡ b
  port-one None a b p q = absurd p
  port-one (Some port) a b p q =
      tells-one (split_unless port.ltype (clash_of port.ltype)) (TellsSplit word test) a b
      (λ split x y. tells-one (carried split) (λ done c. TellsTexts word split test c) a b (λ done x y. texts-one split a b x y) x y) p q

  port-some : (port : PlainPort) → HasSome Answer (TellsPort word test (Some port))
  port-some port =
      tells-some (split_unless port.ltype (clash_of port.ltype)) (TellsSplit word test)
      (λ split. tells-some (carried split) (λ done c. TellsTexts word split test c) (λ done. texts-some split))

pub test-one : (project : PlainProject) (word : List ℕ) (a b : Answer) → TellsTest project word a → TellsTest project word b → a ≡ b
test-one project word a b p q = by (test_named project word) p q
  where
    by : (found : Option Test) → TellsFound project word found a → TellsFound project word found b → a ≡ b
    by None p q = p ∙ sym q
    by (Some test) p q = port-one word test (tested_port project test) a b p q

pub test-some : (project : PlainProject) (word : List ℕ) → IsSoundProject project → HasSome Answer (TellsTest project word)
test-some project word sound = by (test_named project word) refl
  where
    by : (found : Option Test) → test_named project word ≡ found → HasSome Answer (TellsFound project word found)
    by None is = λ none. none (answers.Refused (refusal_line (no_test word))) refl
    by (Some test) is =
        let port = port-there project test (sound.tests test (test-inside project word test is)) in
        subst (λ (o : Option PlainPort). HasSome Answer (TellsPort word test o)) (sym port.1) (port-some word test port.0)
