-- A property of a command holds for a command that comes to it by a step, and for one that begins with the split of a port.
use Rattle.std.proofs.Common.{◌≡◌, ℕ, List, ◌∷◌, sym, ◌∙◌, refl, Option, Some, None, Result, Ok, Err}
use Rattle.trace_decode.specs.Standing.{CanDecode}
use Rattle.type_split.specs.Carried.{uncarried_of}
use Rattle.type_split.specs.Streams.{IsPortSplit, PlainSplit}
use Rattle.tydi_tool.specs.declared.answer.Answer.TheVariants as answers
use Rattle.tydi_tool.specs.Ask.{Ask, AsksFor, goes_on}
use Rattle.tydi_tool.specs.Commands.{carried_ask, port_ask}
use Rattle.tydi_tool.specs.Drives.{carried, carried_unless}
use Rattle.tydi_tool.specs.Laws.{AsksAlways, AsksOnce}
use Rattle.tydi_tool.specs.Ports.{split_at}
use Rattle.tydi_tool.specs.Refusals.{Refusal, refusal_line}
use Rattle.tydi_tool.specs.Words.{FileWord, project_file}
use Rattle.tydi_tool.proofs.FormLemmas.{port-split}
use Rattle.tydi_tool.proofs.ProjectLemmas.{ReadsProject-once, ReadsProject-some}

-- ---- a command that goes on with what a step gives

goes-once : {V : Type 0} (wanted : Result V Refusal) (next : V → Ask) → ((v : V) → wanted ≡ Ok v → AsksOnce (next v)) → AsksOnce (goes_on wanted next)
goes-once (Ok v) next once = once v refl
goes-once (Err refusal) next once = λ a b p q. p ∙ sym q

goes-always : {V : Type 0} (wanted : Result V Refusal) (next : V → Ask) → ((v : V) → wanted ≡ Ok v → AsksAlways (next v)) → AsksAlways (goes_on wanted next)
goes-always (Ok v) next always = always v refl
goes-always (Err refusal) next always = λ none. none (answers.Refused (refusal_line refusal)) refl

goes-for : {V : Type 0} (files : List FileWord) (wanted : Result V Refusal) (next : V → Ask) → ((v : V) → AsksFor files (next v)) → AsksFor files (goes_on wanted next)
goes-for files (Ok v) next for = for v
goes-for files (Err refusal) next for = tt

-- ---- one that begins with the split of a port

pub port-once : (project port : List ℕ) (next : PlainSplit → Ask) → ((split : PlainSplit) → IsPortSplit split → AsksOnce (next split)) → AsksOnce (port_ask project port next)
port-once project port next once =
    (ReadsProject-once project, λ bytes read reads. goes-once (split_at read port) next (λ split is. once split (port-split project bytes read port split reads is)))

pub port-always : (project port : List ℕ) (next : PlainSplit → Ask) → ((split : PlainSplit) → IsPortSplit split → AsksAlways (next split)) → AsksAlways (port_ask project port next)
port-always project port next always =
    (ReadsProject-some project, λ bytes read reads. goes-always (split_at read port) next (λ split is. always split (port-split project bytes read port split reads is)))

pub port-for : (project port : List ℕ) (files : List FileWord) (next : PlainSplit → Ask) → ((split : PlainSplit) → AsksFor files (next split)) → AsksFor (project_file project ∷ files) (port_ask project port next)
port-for project port files next for = (refl, λ read. goes-for files (split_at read port) next for)

-- ---- one that begins with the split of a port each of whose nodes is carried

-- all its nodes are carried
pub none-uncarried : (split : PlainSplit) (done : Unit {0}) → carried split ≡ Ok done → uncarried_of split ≡ None
none-uncarried split done is = by (uncarried_of split) is
  where
    by : (uncarried : Option (List (List ℕ))) → carried_unless uncarried ≡ Ok done → uncarried ≡ None
    by None is = refl
    by (Some path) is = absurd cc

pub carried-once : (project port : List ℕ) (next : PlainSplit → Ask) → ((split : PlainSplit) → CanDecode split → AsksOnce (next split)) → AsksOnce (carried_ask project port next)
carried-once project port next once =
    port-once project port (λ split. goes_on (carried split) (λ done. next split))
    (λ split is. goes-once (carried split) (λ done. next split) (λ done all. once split (record { port = is; carried = none-uncarried split done all })))

pub carried-always : (project port : List ℕ) (next : PlainSplit → Ask) → ((split : PlainSplit) → CanDecode split → AsksAlways (next split)) → AsksAlways (carried_ask project port next)
carried-always project port next always =
    port-always project port (λ split. goes_on (carried split) (λ done. next split))
    (λ split is. goes-always (carried split) (λ done. next split) (λ done all. always split (record { port = is; carried = none-uncarried split done all })))

pub carried-for : (project port : List ℕ) (files : List FileWord) (next : PlainSplit → Ask) → ((split : PlainSplit) → AsksFor files (next split))
    → AsksFor (project_file project ∷ files) (carried_ask project port next)
carried-for project port files next for =
    port-for project port files (λ split. goes_on (carried split) (λ done. next split)) (λ split. goes-for files (carried split) (λ done. next split) (λ done. for split))
