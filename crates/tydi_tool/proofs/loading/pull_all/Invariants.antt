use Rattle.std.proofs.Common.{◌≡◌, ◌+◌, ◌-◌, ◌<◌, ◌≤◌, length}
use Rattle.tydi_tool.proofs.LoadingLemmas.{PulledFrom}
use Rattle.tydi_tool.proofs.loading.pull_all.Given as goal

abbrev pub invariant-pulls : goal.invariant-pulls
invariant-pulls g l = record {
  allowed : g.S.Store.allowed l.store ≡ g.S.Store.allowed l.fn.store;
  files : g.S.Store.files l.store ≡ g.S.Store.files l.fn.store;
  counted : g.S.Store.faults l.fn.store ≤ g.S.Store.faults l.store;
  pulled : PulledFrom (g.S.Store.files l.fn.store) (g.S.Store.started l.fn.store) (g.S.Store.started l.store) (g.R.Reader.reads l.fn.reader) (g.R.Reader.reads l.reader) l.given;
  fed : g.R.Reader.fed l.reader ≡ l.given;
  stands : g.R.Reader.stands l.reader;
  within : l.given ≤ l.limit + 1;
  room : 0 < length l.piece;
}

abbrev pub decreases-pulls : goal.decreases-pulls
decreases-pulls g l = l.limit + 1 - l.given
