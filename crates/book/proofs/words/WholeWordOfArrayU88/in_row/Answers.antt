use Rattle.book.specs.Words.{word_of}
use Rattle.book.proofs.words.WholeWordOfArrayU88.in_row.Goals as goal

pub returns : goal.returns
unfolding word_of
returns c = c.from_le_bytes.ensures
