use Rattle.std.proofs.Common.{◌+◌, ◌-◌, ◌<◌, is_some, sym, ◌∙◌, ap₂, arith}
use Rattle.std.proofs.lemmas.List.{length-map}
use Rattle.std.proofs.lemmas.Result.{IfOk-weaker}
use Rattle.book.specs.Words.{word_of}
use Rattle.book.proofs.Columns.{part_at, part_length, part_words}
use Rattle.book.proofs.book.reads.read_table.Goals as goal

pub read_rows-requires : goal.read_rows-requires
read_rows-requires g c =
    let w = c.args.words.now in
    let p = c.args.place in
    let n = c.args.size in
    let a = sym (length-map _ word_of) ∙ part_length p (p + n - p) n w (omega arith) (omega arith) in
    let b = sym (length-map _ word_of) ∙ part_length (p + n) (p + n + n - (p + n)) n w (omega arith) (omega arith) in
    record {
      same = a ∙ sym b;
      lawful = λ j h.
          (let l : j < n = omega (arith, a) in
          ap₂ (λ x y. is_some (g.R.Row.layout.of_words x y)) (part_at p (p + n - p) n j w (omega arith) l) (part_at (p + n) (p + n + n - (p + n)) n j w (omega arith) l)
          ∙ c.requires.lawful j l);
    }

pub returns : goal.returns
returns g c =
    let w = c.args.words.now in
    let p = c.args.place in
    let n = c.args.size in
    IfOk-weaker c.read_rows.result _ _
    (λ v q. (q.0 ∙ part_words p (p + n - p) n w (omega arith), q.1 ∙ part_words (p + n) (p + n + n - (p + n)) n w (omega arith)))
    c.read_rows.ensures
