-- A transfer that a stream can show at one level it can show at every greater one.
use Rattle.std.proofs.Common.{◌≡◌, ◌≤◌, false, Option, None, Some, IfSome, get_or, arith}
use Rattle.std.proofs.lemmas.Bool.Decides.{nat_tests}
use Rattle.tydi_base.specs.Level.{LevelNumbers, number_of}
use Rattle.physical_stream.specs.Params.{Parameters}
use Rattle.physical_stream.specs.Signals.{has_stai, has_endi, has_strb, Shows}
use Rattle.physical_stream.specs.Levels.{at_level, CyclesRise, TransfersRise}
use Rattle.physical_stream.specs.declared.transfer.Transfer.{Transfer}

module _ (p : Parameters) (level : LevelNumbers) (rises : number_of p.level ≤ number_of level) where
  -- a signal that a stream lacks at the greater level it lacks at the lower one
  no_stai : has_stai (at_level level p) ≡ false → has_stai p ≡ false
  no_stai none = grind (arith, nat_tests)

  no_endi : has_endi (at_level level p) ≡ false → has_endi p ≡ false
  no_endi none = grind (arith, nat_tests)

  no_strb : has_strb (at_level level p) ≡ false → has_strb p ≡ false
  no_strb none = grind (arith, nat_tests)

  shows_rise : (t : Transfer) → Shows p t → Shows (at_level level p) t
  shows_rise t shows = record {
    fits = record {
      content = shows.fits.content;
      last = shows.fits.last;
      stai = shows.fits.stai;
      endi = shows.fits.endi;
      strb = shows.fits.strb;
      user = shows.fits.user;
    };
    defaults = record {
      stai = λ none. shows.defaults.stai (no_stai none);
      endi = λ none. shows.defaults.endi (no_endi none);
      strb = λ none. shows.defaults.strb (no_strb none);
    };
  }

  shown_rise : (shown : Option Transfer) → IfSome shown (Shows p) → IfSome shown (Shows (at_level level p))
  shown_rise None shows = tt
  shown_rise (Some t) shows = shows_rise t shows

pub transfers_rise : TransfersRise
transfers_rise p level t rises shows = shows_rise p level rises t shows

pub cycles_rise : CyclesRise
cycles_rise p level cycles rises shows = λ i d within. let now = get_or cycles i d in shown_rise p level rises now.shown (shows i d within)
