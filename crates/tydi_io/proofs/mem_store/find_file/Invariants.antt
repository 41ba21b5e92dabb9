-- No file before the index has the name.
use Rattle.std.proofs.Common.{◌≡◌, drop}
use Rattle.tydi_io.specs.MemStore.{file_in}
use Rattle.tydi_io.proofs.mem_store.find_file.Given as goal

abbrev pub invariant-loop-index : goal.invariant-loop-index
invariant-loop-index l = file_in l.files l.name ≡ file_in (drop l.index l.files) l.name
