-- A move file read to its end, for the reader's own step: no public promise cites this.
use Rattle.std.specs.Prelude.{◌≡◌, ◌-◌, List, ℕ, length, Result, Ok, Err}
use Rattle.numbers.specs.declared.Misread.{Misread}
use Rattle.moves.specs.declared.MoveFile.{MoveFile}
use Rattle.moves.specs.MoveFile.{FileRead, refused_file, parts_as}

-- The file that was read, or its fault where the rest begins.
abbrev pub ReadsWhole : Result MoveFile Misread → List ℕ → FileRead → Type 0
ReadsWhole (Ok file) s read = parts_as s file ≡ read
ReadsWhole (Err e) s read = refused_file e.fault (length s - length e.rest.now) ≡ read
