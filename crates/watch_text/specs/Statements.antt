-- Monitors as plain data (this project's own).
use Rattle.std.specs.Prelude.{List, [], ◌∷◌, map}
use Rattle.physical_stream.specs.declared.head.Head.{Head}
use Rattle.physical_stream.specs.declared.item.Item.{Item}
use Rattle.watch_text.specs.declared.watch.Watch.{Watch}
use Rattle.watch_text.specs.declared.watch.WStmt.{WStmt}
use Rattle.watch_text.specs.declared.watch.WStmt.TheOpen.{WStmt-F}
use Rattle.watch_text.specs.declared.watch.WStmt.TheFolds.{fold-WStmt}

-- a statement of a process: a loop over lanes or dimensions, a test of the lane or of the last bit, or a need of an element or of a Close
mutual
  pub data Statement : Type 0 where
    lanes : Statements → Statement
    dims : Statements → Statement
    if_active : Statements → Statement
    if_last : Statements → Statement
    need_elem : Statement
    need_close : Statement

  pub data Statements : Type 0 where
    no_statements : Statements
    statement : Statement → Statements → Statements

-- statements as plain data, of a list of them
abbrev pub statements_of : List Statement → Statements
statements_of [] = no_statements
statements_of (first ∷ more) = statement first (statements_of more)

-- one layer of a statement, with plain data in place of what it holds
abbrev pub plain_layer : WStmt-F Statement → Statement
plain_layer (WStmt-F.Lanes body) = lanes (statements_of body)
plain_layer (WStmt-F.Dims body) = dims (statements_of body)
plain_layer (WStmt-F.IfActive body) = if_active (statements_of body)
plain_layer (WStmt-F.IfLast body) = if_last (statements_of body)
plain_layer WStmt-F.NeedElem = need_elem
plain_layer WStmt-F.NeedClose = need_close

-- the plain data of a statement
abbrev pub plain : WStmt → Statement
plain = fold-WStmt Statement plain_layer

-- the plain data of statements
abbrev pub plain_statements : List WStmt → Statements
plain_statements [] = no_statements
plain_statements (first ∷ more) = statement (plain first) (plain_statements more)

-- a monitor as plain data: the heads of its streams, the items that each expects, and the statements of each process
pub record PlainWatch : Type 0 where
  pub heads : List Head
  pub want : List (List Item)
  pub procs : List Statements

-- the plain data of a monitor
abbrev pub plain_watch : Watch → PlainWatch
plain_watch watch = record { heads = watch.heads; want = watch.want; procs = map plain_statements watch.procs }
