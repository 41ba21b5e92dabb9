-- Laws of what is said of texts, for all monitors and texts (this project's own).
use Rattle.std.specs.Prelude.{◌≡◌, ℕ, List}
use Rattle.watch_text.specs.Statements.{PlainWatch}
use Rattle.trace_watch.specs.Texts.{IsWatching, Watching}

-- at most one thing is said of a text
abbrev pub OneWatching : Type 0
OneWatching = (watch : PlainWatch) (bytes : List ℕ) (one other : Watching) → IsWatching watch bytes one → IsWatching watch bytes other → one ≡ other

-- a text is not without a thing that is said of it
abbrev pub SomeWatching : Type 0
SomeWatching = (watch : PlainWatch) (bytes : List ℕ) → ((said : Watching) → IsWatching watch bytes said → ⊥) → ⊥
