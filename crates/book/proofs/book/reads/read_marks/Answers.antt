use Rattle.std.proofs.Common.{sym, ap, ◌∙◌, arith, rules}
use Rattle.std.proofs.lemmas.Iterator.{YieldsList-from_slice, YieldsList-from_map_by}
use Rattle.std.proofs.lemmas.Iterator.Adapters.{serves_from_places}
use Rattle.std.proofs.lemmas.Iterator.Consumers.{YieldsList-at, map_from_collect}
use Rattle.std.proofs.lemmas.List.{get_or-map}
use Rattle.book.specs.Words.{word_of}
use Rattle.book.proofs.book.reads.read_marks.Goals as goal

pub collect-requires-clause-can : goal.collect-requires-clause-can
collect-requires-clause-can c = (
  tt,
  serves_from_places (YieldsList-from_slice c.args.words.now cc) (λ x q h. search rules) (λ x k lt e.
      λ _ _ _ _ _ _ _ in_row.
      let q = in_row.ensures ∙ ap word_of e ∙ sym (get_or-map word_of c.args.words.now k x.now 0 lt) in
      let h = c.requires k lt in
      omega arith),
)

pub returns : goal.returns
returns c =
    map_from_collect c.collect.result c.collect.ensures.ran
    (YieldsList-from_map_by _ (λ m. m.0) word_of (YieldsList-at c.map.ensures.source (YieldsList-from_slice c.args.words.now cc)) c.map.ensures.closure (λ x r q h. search rules))
