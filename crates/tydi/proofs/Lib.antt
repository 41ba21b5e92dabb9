mod ExitLemmas
