use Rattle.std.proofs.Common.{◌∙◌, refl, zero-le, arith, length-take}
use Rattle.tydi_tool.proofs.LoadingLemmas.{PulledFrom-none, PulledFrom-more, Loads-end, Loads-error, Loads-long}
use Rattle.tydi_tool.proofs.loading.pull_all.Goals as goal

pub pulls-init : goal.pulls-init
pulls-init g c = record {
  allowed = refl;
  files = refl;
  counted = omega arith;
  pulled = PulledFrom-none _ _ _;
  fed = c.requires.new;
  stands = c.requires.stands;
  within = zero-le;
  room = omega (arith, c.as_mut_slice-piece.ensures.len, c.in-Ok.ensures);
}

pub pulls-preserved : goal.pulls-preserved
pulls-preserved g c = record {
  allowed = c.in-Ok-pull_piece.ensures.allowed ∙ c.pulls.invariant.allowed;
  files = c.in-Ok-pull_piece.ensures.files ∙ c.pulls.invariant.files;
  counted = omega (arith, c.in-Ok-pull_piece.ensures.cause.later);
  pulled = PulledFrom-more _ _ _ _ _ _ _ _ _ _ c.pulls.invariant.files c.pulls.invariant.pulled c.in-Ok-pull_piece.ensures.feeds;
  fed = omega (arith, c.in-Ok-pull_piece.ensures.fed, c.pulls.invariant.fed);
  stands = c.in-Ok-pull_piece.ensures.stands;
  within = omega (arith, c.in-Ok-pull_piece.ensures.within, c.pull_piece.auto.piece, length-take c.min-room.result c.pulls.piece, c.min-room.ensures);
  room = omega (arith, c.pulls.invariant.room, c.pull_piece.auto.piece);
}

pub returns-in-Ok-eq0-clause-loads : goal.returns-in-Ok-eq0-clause-loads
returns-in-Ok-eq0-clause-loads g c = Loads-end _ _ c.args.limit c.in-Ok-eq0.field-0 _ _ _ _ _ _ _ c.pulls.invariant.files c.pulls.invariant.pulled c.in-Ok-eq0.ensures.feeds
    (omega (arith, c.in-Ok-eq0.field-0-test)) (omega arith)

pub returns-in-Err-clause-loads : goal.returns-in-Err-clause-loads
returns-in-Err-clause-loads g c = Loads-error (Unit {0}) _ _ c.args.limit _ _ _ _ _ _ (g.R.Reader.reads c.pull_piece.new.reader) _ c.in-Err.error c.pulls.invariant.files c.pulls.invariant.pulled c.in-Err.ensures.feeds
    (omega (arith, c.pull_piece.auto.piece, length-take c.min-room.result c.pulls.piece, c.min-room.ensures))

pub returns-clause-loads : goal.returns-clause-loads
returns-clause-loads g c = Loads-long (Unit {0}) _ c.args.limit _ _ _ _ _ c.pulls.invariant.pulled (omega arith) (omega arith)
