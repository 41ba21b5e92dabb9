-- The plain data of statements: its equations at each made statement, and how large it is.
use Rattle.std.proofs.Common.{◌≡◌, ◌∙◌, ℕ, zero, suc, ◌+◌, ◌<◌, ◌≤◌, List, [], ◌∷◌, ◌++◌, drop, get_or, length, map, sym, ap, refl, arith}
use Rattle.std.proofs.lemmas.List.{drop_more}
use Rattle.physical_stream.specs.declared.head.Head.{Head}
use Rattle.watch_text.specs.Statements.{Statement, Statements, dims, if_active, if_last, lanes, need_close, need_elem, no_statements, plain, plain_layer, plain_statements, statement, statements_of}
use Rattle.watch_text.specs.Text.{statement_text, statements_text}
use Rattle.watch_text.specs.declared.watch.WStmt.{WStmt}
use Rattle.watch_text.specs.declared.watch.WStmt.TheVariants as stmts
use Rattle.watch_text.specs.declared.watch.WStmt.TheOpen.{WStmt-F}
use Rattle.watch_text.specs.declared.watch.WStmt.TheFolds.{fold-roll-WStmt}

-- ---- of a made statement

pub statements_of-map : (some : List WStmt) → statements_of (map plain some) ≡ plain_statements some
statements_of-map [] = refl
statements_of-map (first ∷ more) = ap (statement (plain first)) (statements_of-map more)

pub plain-Lanes : (body : List WStmt) → plain (stmts.Lanes body) ≡ lanes (plain_statements body)
plain-Lanes body = ap plain (sym (stmts.rolls-Lanes body)) ∙ fold-roll-WStmt Statement plain_layer (WStmt-F.Lanes body) ∙ ap lanes (statements_of-map body)

pub plain-Dims : (body : List WStmt) → plain (stmts.Dims body) ≡ dims (plain_statements body)
plain-Dims body = ap plain (sym (stmts.rolls-Dims body)) ∙ fold-roll-WStmt Statement plain_layer (WStmt-F.Dims body) ∙ ap dims (statements_of-map body)

pub plain-IfActive : (body : List WStmt) → plain (stmts.IfActive body) ≡ if_active (plain_statements body)
plain-IfActive body = ap plain (sym (stmts.rolls-IfActive body)) ∙ fold-roll-WStmt Statement plain_layer (WStmt-F.IfActive body) ∙ ap if_active (statements_of-map body)

pub plain-IfLast : (body : List WStmt) → plain (stmts.IfLast body) ≡ if_last (plain_statements body)
plain-IfLast body = ap plain (sym (stmts.rolls-IfLast body)) ∙ fold-roll-WStmt Statement plain_layer (WStmt-F.IfLast body) ∙ ap if_last (statements_of-map body)

-- ---- how large it is

abbrev mutual
  pub size_of : Statement → ℕ
  size_of (lanes body) = suc (size_of_all body)
  size_of (dims body) = suc (size_of_all body)
  size_of (if_active body) = suc (size_of_all body)
  size_of (if_last body) = suc (size_of_all body)
  size_of need_elem = 1
  size_of need_close = 1

  pub size_of_all : Statements → ℕ
  size_of_all no_statements = 0
  size_of_all (statement first more) = suc (size_of first + size_of_all more)

-- ---- statements of a list from a place on

pub plain_statements-at : (some : List WStmt) (at : ℕ) (one : WStmt) → at < length some → one ≡ get_or some at one
    → plain_statements (drop at some) ≡ statement (plain one) (plain_statements (drop (at + 1) some))
plain_statements-at some at one within is = ap plain_statements (drop_more some at one within ∙ ap (λ (x : WStmt). x ∷ drop (at + 1) some) (sym is))

-- a statement of a list is smaller than the list
pub statement_size : (some : List WStmt) (at : ℕ) (one : WStmt) → at < length some → one ≡ get_or some at one → size_of (plain one) < size_of_all (plain_statements some)
statement_size [] zero one within is = absurd (omega (arith, within))
statement_size [] (suc at) one within is = absurd (omega (arith, within))
statement_size (first ∷ more) zero one within is = let same = ap (λ (x : WStmt). size_of (plain x)) is in omega (arith, same)
statement_size (first ∷ more) (suc at) one within is = let later = statement_size more at one (omega (arith, within)) is in omega (arith, later)

-- ---- the text of statements from a place on

pub statements-step : (head : Head) (indent : ℕ) (some : List WStmt) (at : ℕ) (one : WStmt) → at < length some → one ≡ get_or some at one
    → statements_text head indent (plain_statements (drop at some)) ≡ statement_text head indent (plain one) ++ statements_text head indent (plain_statements (drop (at + 1) some))
statements-step head indent some at one within is = ap (statements_text head indent) (plain_statements-at some at one within is)

pub statements-past : (head : Head) (indent : ℕ) (some : List WStmt) (at : ℕ) → length some ≤ at → statements_text head indent (plain_statements (drop at some)) ≡ []
statements-past head indent [] zero past = refl
statements-past head indent [] (suc at) past = refl
statements-past head indent (first ∷ more) zero past = absurd (omega (arith, past))
statements-past head indent (first ∷ more) (suc at) past = statements-past head indent more at (omega (arith, past))
