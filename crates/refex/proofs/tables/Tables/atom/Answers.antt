use Rattle.refex.proofs.Atoms.{bytes_letter, end_letter}
use Rattle.refex.specs.Pattern.{Bytes, End}
use Rattle.refex.specs.ByteSet.{holds}
use Rattle.refex.proofs.tables.Tables.atom.Goals as goal

pub returns-in-Bytes-clause-piece : goal.returns-in-Bytes-clause-piece
returns-in-Bytes-clause-piece c = rw (c.in-Bytes.is, c.one.ensures.place.1) (c.one.ensures.piece (Bytes (holds c.in-Bytes.set)) (bytes_letter c.in-Bytes.set))

pub returns-in-End-clause-piece : goal.returns-in-End-clause-piece
returns-in-End-clause-piece c = rw (c.in-End.is, c.one-in-End.ensures.place.1) (c.one-in-End.ensures.piece End end_letter)
