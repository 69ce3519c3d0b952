use Rattle.std.proofs.Common.{◌/◌, map, length, sym, ap, ◌∙◌, arith, rules}
use Rattle.book.specs.declared.rows.Rows.{Rows}
use Rattle.book.specs.Words.{spelled, word_of}
use Rattle.book.specs.Rules.{said, words_in}
use Rattle.book.proofs.LeastCause.{first-cause}
use Rattle.book.proofs.Spelled.{spelled_chunks}
use Rattle.book.proofs.book.reads.read.Goals as goal

pub returns : goal.returns
returns g c =
    let d = c.in_ok-plan.ensures.plan.1 in
    record {
      reads = (
        sym c.in_ok-plan.ensures.fault,
        ap (λ (r : Rows g.row.S.Denot). spelled (words_in g.S.Strength.kind (said r))) c.in_ok-book.ensures
            ∙ ap spelled (c.in_ok-rows.ensures.1 ∙ ap (map word_of) c.as_chunks.ensures.front)
            ∙ spelled_chunks (length c.args.bytes.now / 8) c.args.bytes.now (omega arith) (λ i. omega (arith, c.type_inv.bytes i)),
      );
      first = first-cause g.S.Strength.kind c.args.bytes.now;
    }

pub returns-in_err-plan : goal.returns-in_err-plan
returns-in_err-plan g c = record { reads = search rules; first = first-cause g.S.Strength.kind c.args.bytes.now }

pub returns-in_err-rows : goal.returns-in_err-rows
returns-in_err-rows g c = record { reads = search rules; first = first-cause g.S.Strength.kind c.args.bytes.now }

pub returns-in_err-book : goal.returns-in_err-book
returns-in_err-book g c = record { reads = search rules; first = first-cause g.S.Strength.kind c.args.bytes.now }
