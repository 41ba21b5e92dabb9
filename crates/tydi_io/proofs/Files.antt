-- Look-ups among files in memory.
use Rattle.std.proofs.Common.{◌≡◌, ℕ, zero, suc, ◌<◌, List, [], ◌∷◌, Some, true, length, drop, cond, slice_index_or, refl, arith}
use Rattle.std.specs.Str.{bytes_eq}
use Rattle.std.proofs.lemmas.Slice.Eq.{bytes_eq-Decides}
use Rattle.tydi_io.specs.MemStore.{file_in, name_at, bytes_at}

-- among the files from an index on, that file is asked first
pub file_in-drop : (files : List (List ℕ × List ℕ)) (index : ℕ) (name : List ℕ) → index < length files →
    file_in (drop index files) name
    ≡ cond (bytes_eq (name_at files index) name) (Some (bytes_at files index)) (file_in (drop (suc index) files) name)
file_in-drop [] index name within = absurd (omega arith)
file_in-drop (file ∷ files) zero name within = refl
file_in-drop (file ∷ files) (suc index) name within = file_in-drop files index name (omega arith)

-- the name at an index, as code reads it
pub name_at-read : (files : List (List ℕ × List ℕ)) (index : ℕ) (file : List ℕ × List ℕ) → index < length files →
    file ≡ slice_index_or files index file → name_at files index ≡ file.0
name_at-read [] index file within read = absurd (omega arith)
name_at-read (first ∷ files) zero file within read = cc
name_at-read (first ∷ files) (suc index) file within read = name_at-read files index file (omega arith) read

-- the bytes at an index, as code reads them
pub bytes_at-read : (files : List (List ℕ × List ℕ)) (index : ℕ) (file : List ℕ × List ℕ) → index < length files →
    file ≡ slice_index_or files index file → bytes_at files index ≡ file.1
bytes_at-read [] index file within read = absurd (omega arith)
bytes_at-read (first ∷ files) zero file within read = cc
bytes_at-read (first ∷ files) (suc index) file within read = bytes_at-read files index file (omega arith) read

-- a file whose name the code found to be the one looked for
pub name_at-found : (files : List (List ℕ × List ℕ)) (index : ℕ) (file : List ℕ × List ℕ) (text name : List ℕ) → index < length files →
    file ≡ slice_index_or files index file → text ≡ file.0 → bytes_eq text name ≡ true → name_at files index ≡ name
name_at-found files index file text name within read named equal =
    let same : text ≡ name = (bytes_eq-Decides text name).0 equal in
    let here : name_at files index ≡ file.0 = name_at-read files index file within read in
    cc

pub file_in-found : (files : List (List ℕ × List ℕ)) (index : ℕ) (name : List ℕ) → index < length files →
    name_at files index ≡ name → file_in files name ≡ file_in (drop index files) name → file_in files name ≡ Some (bytes_at files index)
file_in-found files index name within named before =
    let equal : bytes_eq (name_at files index) name ≡ true = (bytes_eq-Decides (name_at files index) name).1 named in
    rw (before, file_in-drop files index name within, equal) refl
