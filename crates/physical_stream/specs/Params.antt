-- The parameters of a physical stream (Tydi specification, physical streams). Their ranges are this project's own.
use Rattle.std.specs.Prelude.{ℕ, ◌≤◌}
use Rattle.tydi_base.specs.Level.{LevelNumbers}

-- N lanes, D dimensions, the numbers of its level, elements of E bits, user words of U bits
pub record Parameters : Type 0 where
  pub lanes : ℕ
  pub dims : ℕ
  pub level : LevelNumbers
  pub element : ℕ
  pub user : ℕ

-- the parameters that a stream may have
pub record AreInRange (lanes dims element user : ℕ) : Type 0 where
  pub some_lane : 1 ≤ lanes
  pub lanes_most : lanes ≤ 128
  pub dims_most : dims ≤ 32
  pub element_most : element ≤ 4096
  pub user_most : user ≤ 4096
