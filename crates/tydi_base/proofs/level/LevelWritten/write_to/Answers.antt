use Rattle.tydi_base.specs.Level.{LevelNumbers}
use Rattle.tydi_base.proofs.LevelLaws.{text-four, text-one, text-three, text-two}
use Rattle.tydi_base.proofs.level.LevelWritten.write_to.Goals as goal

pub returns-then-fourth-ne0-clause-ok : goal.returns-then-fourth-ne0-clause-ok
returns-then-fourth-ne0-clause-ok c =
    let level : LevelNumbers = record { first = c.self.inside.first; second = c.self.inside.second; third = c.self.inside.third; fourth = c.self.inside.fourth } in
    rw (← c.self.view_is, text-four level c.if-fourth-ne0.true) c.emit.ensures.ok

pub returns-then-third-ne0-clause-ok : goal.returns-then-third-ne0-clause-ok
returns-then-third-ne0-clause-ok c =
    let level : LevelNumbers = record { first = c.self.inside.first; second = c.self.inside.second; third = c.self.inside.third; fourth = c.self.inside.fourth } in
    rw (← c.self.view_is, text-three level c.if-fourth-ne0.false c.if-third-ne0.true) c.emit-then-third-ne0.ensures.ok

pub returns-then-second-ne0-clause-ok : goal.returns-then-second-ne0-clause-ok
returns-then-second-ne0-clause-ok c =
    let level : LevelNumbers = record { first = c.self.inside.first; second = c.self.inside.second; third = c.self.inside.third; fourth = c.self.inside.fourth } in
    rw (← c.self.view_is, text-two level c.if-fourth-ne0.false c.if-third-ne0.false c.if-second-ne0.true) c.emit-then-second-ne0.ensures.ok

pub returns-else-second-ne0-clause-ok : goal.returns-else-second-ne0-clause-ok
returns-else-second-ne0-clause-ok c =
    let level : LevelNumbers = record { first = c.self.inside.first; second = c.self.inside.second; third = c.self.inside.third; fourth = c.self.inside.fourth } in
    rw (← c.self.view_is, text-one level c.if-fourth-ne0.false c.if-third-ne0.false c.if-second-ne0.false) c.emit-else-second-ne0.ensures.ok
