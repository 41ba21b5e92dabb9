-- The file whose name is equal is the first of that name.
use Rattle.std.proofs.Common.{◌≡◌, true, arith}
use Rattle.std.specs.Str.{bytes_eq}
use Rattle.tydi_io.specs.MemStore.{name_at}
use Rattle.tydi_io.proofs.Files.{name_at-found, file_in-found}
use Rattle.tydi_io.proofs.mem_store.find_file.Goals as goal

named : (c : goal.Then-eq) → name_at c.args.files.now c.loop-index.index ≡ c.args.name.now
named c =
    let equal : bytes_eq c.as_str.result.now c.args.name.now ≡ true = cc in
    name_at-found c.args.files.now c.loop-index.index c.index-files-index.result _ _ (omega arith) c.index-files-index.is c.as_str.ensures equal

pub returns-then-eq-clause-first : goal.returns-then-eq-clause-first
returns-then-eq-clause-first c = file_in-found c.args.files.now c.loop-index.index c.args.name.now (omega arith) (named c) c.loop-index.invariant

pub returns-then-eq-clause-named : goal.returns-then-eq-clause-named
returns-then-eq-clause-named c = named c
