-- What is written of a book is read back as the same book.
use Rattle.strength.specs.Kind.{Kind, Bounded, ReadsBack}
use Rattle.book.specs.declared.book.Book.{Book}
use Rattle.book.specs.Books.{Rereads, rules}
use Rattle.book.proofs.SameRows.{written-rows}
use Rattle.book.proofs.WordsRead.{sound_written, under_words}

pub rereads : {S : Type 0} (k : Kind S) → ReadsBack k → Bounded k → (b : Book S) → Rereads k b
rereads k law bound b = record {
  sound = sound_written k (rules b) law (under_words k bound (rules b) b.fit) b.fit;
  same = λ again r. written-rows k law (rules again) (rules b) bound again.fit b.fit r.1;
}
